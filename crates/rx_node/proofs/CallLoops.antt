-- A change of every call that lives is made channel by channel.
use Rattle.std.proofs.Common.{◌≡◌, ◌≤◌, ◌+◌, ◌*◌, ◌/◌, ◌%◌, ◌&&◌, ℕ, suc, cond, Bool, true, false, List, [], ◌∷◌, map}
use Rattle.std.proofs.Common.{Option, Some, None, option_map, refl, ◌∙◌, ap, sym, subst, arith, if◌then◌else◌}
use Rattle.std.proofs.lemmas.Bool.Decides.{nat_tests}
use Rattle.std.specs.Prelude.{slice_get, nat_lt, nat_le}
use Rattle.std.specs.List.{find}
use Rattle.rx_model.specs.declared.names.CallName.{CallName}
use Rattle.rx_model.specs.Names.{Channel, Connection, channel_of, connection_of, same_connection, same_name}
use Rattle.rx_rules.specs.Life.{is_live}
use Rattle.rx_rules.specs.Looks.{CallRecord, ConnLooks, Looks, call_at, call_named, conn_at, is_call, latest_name}
use Rattle.rx_rules.specs.Looks.{on_call, on_calls}
use Rattle.rx_rules.specs.Setup.{Setup}
use Rattle.rx_model.proofs.NameLaws.{connection_is, connection_itself, name_is, name_itself, refuted}
use Rattle.rx_rules.proofs.CallsLaws.{KeepsNames, changed_if}
use Rattle.rx_rules.proofs.ConnsLaws.{channel_number, number_of}
use Rattle.rx_rules.proofs.FindLaws.{find_passes}
use Rattle.rx_history.proofs.Differ.{Differ, by_name}
use Rattle.rx_history.proofs.Order.Orderly.{IsLatest, Orderly}
use Rattle.rx_node.specs.Mirrors.{IsChannel, channel_in}
use Rattle.rx_node.proofs.CallChanges.{FoundIn, every_own, every_then, map_both, map_same}
use Rattle.rx_node.proofs.Steps.ChannelSteps.{place_is}
use Rattle.rx_node.proofs.Steps.TableSteps.{decided}

-- ---- the key of a call's channel

-- the place of a connection
abbrev pub place_in : List ConnLooks → Connection → Option ℕ
place_in [] x = None
place_in (r ∷ rs) x = if same_connection r.connection x then Some 0 else option_map (λ (p : ℕ). suc p) (place_in rs x)

-- the key of the channel of a call, where its connection is there
abbrev pub key_of : Looks → CallName → Option ℕ
key_of l c = option_map (λ p. 4 * p + c.chan) (place_in l.conns (connection_of c))

-- a key is from one number on and below another
abbrev pub among : ℕ → ℕ → Option ℕ → Bool
among low high None = false
among low high (Some key) = nat_le low key && nat_lt key high

-- the calls on channels with such keys change
abbrev pub change_among : ℕ → ℕ → (CallRecord → CallRecord) → Looks → CallRecord → CallRecord
change_among low high f l k = if among low high (key_of l k.name) then f k else k

-- a change that keeps names, and leaves each call that doesn't live
pub record OfLive (f : CallRecord → CallRecord) : Type 0 where
  pub names : KeepsNames f
  pub ended : (k : CallRecord) → is_live k.life ≡ false → f k ≡ k

-- a found connection has its place
pub record PlacedAt (rs : List ConnLooks) (x : Connection) (r : ConnLooks) : Type 0 where
  pub place : ℕ
  pub is : place_in rs x ≡ Some place
  pub there : slice_get rs place ≡ Some r

pub placed_at : (rs : List ConnLooks) (x : Connection) (r : ConnLooks)
    → find (λ q. same_connection q.connection x) rs ≡ Some r → PlacedAt rs x r
placed_at [] x r found = absurd (cc (found))
placed_at (q ∷ rs) x r found =
    (elim (same_connection q.connection x) as (λ b. same_connection q.connection x ≡ b
    → cond b (Some q) (find (λ q. same_connection q.connection x) rs) ≡ Some r → PlacedAt (q ∷ rs) x r) [
      | true ↦ λ own is. record { place = 0; is = rw own refl; there = is }
      | false ↦ λ other is. (
          let rest = placed_at rs x r is in
          record {
            place = suc rest.place;
            is = rw other (ap (option_map (λ (p : ℕ). suc p)) rest.is);
            there =
                rest.there;
          })
    ]) refl found

-- ---- channel by channel

map_map : (f g : CallRecord → CallRecord) (ks : List CallRecord) → map f (map g ks) ≡ map (λ k. f (g k)) ks
map_map f g [] = refl
map_map f g (k ∷ ks) = ap (λ (js : List CallRecord). f (g k) ∷ js) (map_map f g ks)

among-same : (low high key : ℕ) → (key ≡ high → ⊥)
    → (nat_le low key && nat_lt key (suc high)) ≡ (nat_le low key && nat_lt key high)
among-same low high key other =
    ap (λ (b : Bool). nat_le low key && b)
    ((elim (nat_lt key high) as (λ b. nat_lt key high ≡ b → nat_lt key (suc high) ≡ b) [
      | true ↦ λ is. grind (arith, nat_tests, is)
      | false ↦ λ is. grind (arith, nat_tests, is, other)
    ]) refl)

among-none : (low key : ℕ) → (nat_le low key && nat_lt key low) ≡ false
among-none low key =
    (elim (nat_le low key) as (λ b. nat_le low key ≡ b → (b && nat_lt key low) ≡ false) [
      | true ↦ λ is. (let low_ : nat_lt key low ≡ false = grind (arith, nat_tests, is) in low_)
      | false ↦ λ is. refl
    ]) refl

among-last : (low key : ℕ) → low ≤ key → (nat_le low key && nat_lt key (suc key)) ≡ true
among-last low key within =
    let below : nat_le low key ≡ true = grind (arith, nat_tests, within) in
    let above : nat_lt key (suc key) ≡ true = grind (arith, nat_tests) in
    rw (below, above) refl

among-here : (key : ℕ) → nat_lt key key ≡ false
among-here key = grind (arith, nat_tests)

module _ (s : Setup) (l : Looks) (orderly : Orderly s l) (differ : Differ by_name l.calls)
    (numbered : (c : CallName) → c.number ≡ 0 → call_at l c ≡ None) where
  -- a call that lives is the latest of a channel with a key
  pub record LiveAt (k : CallRecord) : Type 0 where
    pub key : ℕ
    pub is : key_of l k.name ≡ Some key
    pub channel : IsChannel l key (channel_of k.name)
    pub latest_is : latest_name l (channel_of k.name) ≡ k.name

  pub live_at : (k : CallRecord) → call_at l k.name ≡ Some k → is_live k.life ≡ true → LiveAt k
  live_at k there live = of (conn_at l (connection_of k.name)) refl
    where
      one : IsLatest l k.name
      one = orderly.latest k.name (ap (is_call (λ j. is_live j.life)) there ∙ live)

      of : (o : Option ConnLooks) → conn_at l (connection_of k.name) ≡ o → LiveAt k
      of None is =
          (let zero_ : 0 ≡ k.name.number = ap (λ (p : Option ConnLooks). number_of p k.name.chan) (sym is)
          ∙ one.number in
          let none : call_at l k.name ≡ None = numbered k.name (sym zero_) in
          absurd (cc (none, there)))
      of (Some r) is =
          (let at = placed_at l.conns (connection_of k.name) r is in
          let named : r.connection ≡ connection_of k.name =
          connection_is r.connection (connection_of k.name)
          (find_passes (λ q. same_connection q.connection (connection_of k.name)) l.conns r is) in
          let low = one.chan in
          let place : (4 * at.place + k.name.chan) / 4 ≡ at.place = omega arith in
          let chan : (4 * at.place + k.name.chan) % 4 ≡ k.name.chan = omega arith in
          record {
            key = 4 * at.place + k.name.chan;
            is = ap (option_map (λ (p : ℕ). 4 * p + k.name.chan)) at.is;
            channel = record {
              conn = r;
              there = ap (λ (p : ℕ). slice_get l.conns p) place ∙ at.there;
              is = λ i. record { connection = sym named i; chan = sym chan i };
            };
            latest_is = ap (λ (n : ℕ). call_named (channel_of k.name) n)
                (channel_number l (channel_of k.name) ∙ one.number);
          })

  one-key : (a b : ℕ) (c : Channel) → IsChannel l a c → IsChannel l b c → a ≡ b
  one-key a b c here there =
      let conns : here.conn.connection ≡ there.conn.connection =
      sym (ap (λ (e : Channel). e.connection) here.is) ∙ ap (λ (e : Channel). e.connection) there.is in
      let chans : a % 4 ≡ b % 4 =
      sym (ap (λ (e : Channel). e.chan) here.is) ∙ ap (λ (e : Channel). e.chan) there.is in
      let places : a / 4 ≡ b / 4 =
      place_is l.conns (a / 4) (b / 4) here.conn there.conn orderly.conns.differ here.there there.there
      (subst (λ (y : Connection). same_connection here.conn.connection y ≡ true) conns
      (connection_itself here.conn.connection)) in
      omega arith

  one-channel : (a : ℕ) (c d : Channel) → IsChannel l a c → IsChannel l a d → c ≡ d
  one-channel a c d here there =
      let same : here.conn ≡ there.conn = (let is = sym here.there ∙ there.there in cc (is)) in
      here.is ∙ ap (λ (x : ConnLooks). channel_in x (a % 4)) same ∙ sym there.is

  module _ (f : CallRecord → CallRecord) (of_live : OfLive f) where
    -- the next channel's latest call changes
    pub loop_next : (low high : ℕ) (ch : Channel) → low ≤ high → IsChannel l high ch
        → on_call (latest_name l ch) f (on_calls (change_among low high f l) l)
        ≡ on_calls (change_among low (suc high) f l) l
    loop_next low high ch within at =
        ap (λ (ks : List CallRecord). record l { calls = ks })
        (map_map (changed_if (latest_name l ch) f) (change_among low high f l) l.calls
        ∙ map_both (λ k. changed_if (latest_name l ch) f (change_among low high f l k))
        (change_among low (suc high) f l) l.calls
        (every_then (FoundIn l.calls) (λ k. changed_if (latest_name l ch) f (change_among low high f l k)
        ≡ change_among low (suc high) f l k) l.calls each (every_own l.calls differ)))
      where
        c : CallName
        c = latest_name l ch

        ended : (k : CallRecord) → f k ≡ k → (a b t : Bool)
            → (if t then f (if a then f k else k) else (if a then f k else k)) ≡ (if b then f k else k)
        ended k same true true true = ap f same
        ended k same true true false = refl
        ended k same true false true = ap f same ∙ same
        ended k same true false false = same
        ended k same false true true = refl
        ended k same false true false = sym same
        ended k same false false true = same
        ended k same false false false = refl

        each : (k : CallRecord) → FoundIn l.calls k
            → changed_if c f (change_among low high f l k) ≡ change_among low (suc high) f l k
        each k own =
            (elim (is_live k.life) as (λ b. is_live k.life ≡ b
            → changed_if c f (change_among low high f l k) ≡ change_among low (suc high) f l k) [
              | true ↦ λ live. lives own.found live
              | false ↦ λ none.
                  ended k (of_live.ended k none) (among low high (key_of l k.name))
                  (among low (suc high) (key_of l k.name))
                  (same_name (change_among low high f l k).name c)
            ]) refl
          where
            at-key : (live : LiveAt k) → (n : ℕ)
                → among low n (key_of l k.name) ≡ (nat_le low live.key && nat_lt live.key n)
            at-key live n = ap (λ (o : Option ℕ). among low n o) live.is

            here : (live : LiveAt k) → live.key ≡ high
                → changed_if c f (change_among low high f l k) ≡ change_among low (suc high) f l k
            here live same =
                let its : channel_of k.name ≡ ch =
                one-channel high (channel_of k.name) ch
                (subst (λ (n : ℕ). IsChannel l n (channel_of k.name)) same live.channel) at in
                let named : k.name ≡ c = sym live.latest_is ∙ ap (latest_name l) its in
                let before : among low high (key_of l k.name) ≡ false =
                at-key live high ∙ ap (λ (n : ℕ). nat_le low n && nat_lt n high) same
                ∙ (ap (λ (b : Bool). nat_le low high && b) (among-here high) ∙ and-false (nat_le low high)) in
                let after : among low (suc high) (key_of l k.name) ≡ true =
                at-key live (suc high) ∙ ap (λ (n : ℕ). nat_le low n && nat_lt n (suc high)) same
                ∙ among-last low high within in
                rw (before, after, ap (λ (d : CallName). same_name k.name d) (sym named) ∙ name_itself k.name) refl
              where
                and-false : (b : Bool) → (b && false) ≡ false
                and-false true = refl
                and-false false = refl

            aside : (live : LiveAt k) → (live.key ≡ high → ⊥)
                → changed_if c f (change_among low high f l k) ≡ change_among low (suc high) f l k
            aside live other =
                let same : among low (suc high) (key_of l k.name) ≡ among low high (key_of l k.name) =
                at-key live (suc high) ∙ among-same low high live.key other ∙ sym (at-key live high) in
                let apart : same_name (change_among low high f l k).name c ≡ false =
                ap (λ (d : CallName). same_name d c) (name-kept (among low high (key_of l k.name)))
                ∙ refuted (same_name k.name c)
                (λ is. other (one-key live.key high ch
                (subst (λ (d : Channel). IsChannel l live.key d) (ap channel_of (name_is k.name c is)) live.channel)
                at)) in
                ap (λ (b : Bool). if b then f (change_among low high f l k) else change_among low high f l k) apart
                ∙ ap (λ (b : Bool). if b then f k else k) (sym same)
              where
                name-kept : (b : Bool) → (if b then f k else k).name ≡ k.name
                name-kept true = of_live.names k
                name-kept false = refl

            lives : (found : call_at l k.name ≡ Some k) → is_live k.life ≡ true
                → changed_if c f (change_among low high f l k) ≡ change_among low (suc high) f l k
            lives found live =
                let it = live_at k found live in
                decided (changed_if c f (change_among low high f l k) ≡ change_among low (suc high) f l k)
                it.key high (here it) (aside it)

    -- before the first none changed
    pub loop_start : (low : ℕ) → on_calls (change_among low low f l) l ≡ l
    loop_start low =
        ap (λ (ks : List CallRecord). record l { calls = ks })
        (map_same (change_among low low f l) l.calls
        (every_then (FoundIn l.calls) (λ k. change_among low low f l k ≡ k) l.calls
        (λ k own. ap (λ (b : Bool). if b then f k else k) (none (key_of l k.name))) (every_own l.calls differ)))
      where
        none : (o : Option ℕ) → among low low o ≡ false
        none None = refl
        none (Some key) = among-none low key
