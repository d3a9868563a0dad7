-- A call starts on a channel whose latest call doesn't live, where fewer live than may.
use Rattle.std.proofs.Common.{◌≡◌, ◌≤◌, ◌<◌, ◌==◌, ◌&&◌, ℕ, zero, suc, cond, if◌then◌else◌, Bool, true, false, List}
use Rattle.std.proofs.Common.{[], ◌∷◌, ◌++◌}
use Rattle.std.proofs.Common.{map, Option, Some, None, option_map, refl, ◌∙◌, ap, sym, subst, arith}
use Rattle.std.proofs.lemmas.Bool.Decides.{nat_tests}
use Rattle.std.specs.List.{list_any}
use Rattle.rx_model.specs.declared.names.CallName.{CallName}
use Rattle.rx_model.specs.Names.{Channel, Connection, channel_of, connection_of, same_channel, same_connection}
use Rattle.rx_model.specs.Names.{same_name}
use Rattle.rx_rules.specs.CallLooks.{fresh_call}
use Rattle.rx_rules.specs.Life.{Life, is_live}
use Rattle.rx_rules.specs.Looks.{CallRecord, ChannelLooks, ConnLooks, Looks, call_at, changed_at, conn_at}
use Rattle.rx_rules.specs.Looks.{fresh_channel, is_call, latest}
use Rattle.rx_rules.specs.Records.{started, with_call}
use Rattle.rx_rules.specs.Setup.{Setup, pace_of}
use Rattle.rx_rules.specs.Slots.{count_live, live}
use Rattle.rx_model.proofs.NameLaws.{channel_is, connection_is, name_is}
use Rattle.rx_rules.proofs.ConnsLaws.{conn_at-on_conn, conn_if, length-changed, number_in, number_of}
use Rattle.rx_rules.proofs.EveryLaws.{Every}
use Rattle.rx_rules.proofs.FindLaws.{find_passes}
use Rattle.rx_rules.proofs.StartLaws.{call_at-other, number-started, numbered, replaced}
use Rattle.rx_history.proofs.Differ.{Differ, by_name, none_change}
use Rattle.rx_history.proofs.Dimensions.Dims.{Alike}
use Rattle.rx_history.proofs.Order.Orderly.{IsLatest, LivesAt, Orderly, four_there, orderly_conns}
use Rattle.rx_history.proofs.Order.OrderlyEnter.{latest_is}
use Rattle.rx_history.proofs.Pairwise.{pairs_map}

-- ---- how many live

more-live : (new old : Bool) (n : ℕ) → (if new then suc n else n) ≤ suc (if old then suc n else n)
more-live true true n = omega arith
more-live true false n = omega arith
more-live false true n = omega arith
more-live false false n = omega arith

same-live : (live : Bool) (m n : ℕ) → m ≤ suc n → (if live then suc m else m) ≤ suc (if live then suc n else n)
same-live true m n low = omega arith
same-live false m n low = low

count-replaced : (new : CallRecord) (ks : List CallRecord) → Differ by_name ks
    → count_live (map (replaced new) ks) ≤ suc (count_live ks)
count-replaced new [] differ = omega arith
count-replaced new (k ∷ ks) differ =
    (elim (same_name k.name new.name) as (λ b. same_name k.name new.name ≡ b
    → count_live (cond b new k ∷ map (replaced new) ks) ≤ suc (count_live (k ∷ ks))) [
      | true ↦ λ same. (
          let none = subst (λ (n : CallName). Every (λ (j : CallRecord). same_name j.name n ≡ false) ks)
          (name_is k.name new.name same) differ.0 in
          let stay : map (replaced new) ks ≡ ks = none_change (λ j. same_name j.name new.name) (λ j. new) ks none in
          subst (λ (js : List CallRecord). count_live (new ∷ js) ≤ suc (count_live (k ∷ ks))) (sym stay)
          (more-live (is_live new.life) (is_live k.life) (count_live ks)))
      | false ↦ λ other. same-live (is_live k.life) (count_live (map (replaced new) ks)) (count_live ks)
          (count-replaced new ks differ.1)
    ]) refl

count-behind : (ks : List CallRecord) (new : CallRecord) → count_live (ks ++ new ∷ []) ≤ suc (count_live ks)
count-behind [] new = more-live (is_live new.life) false 0
count-behind (k ∷ ks) new = same-live (is_live k.life) (count_live (ks ++ new ∷ [])) (count_live ks)
    (count-behind ks new)

-- one more at most
count-started : (new : CallRecord) (ks : List CallRecord) → Differ by_name ks
    → count_live (with_call new ks) ≤ suc (count_live ks)
count-started new ks differ =
    (elim (list_any (λ k. same_name k.name new.name) ks)
    as (λ b. count_live (cond b (map (replaced new) ks) (ks ++ new ∷ [])) ≤ suc (count_live ks)) [
      | true ↦ count-replaced new ks differ
      | false ↦ count-behind ks new
    ])

-- ---- the channels

number-elsewhere : (qs : List ChannelLooks) (m n : ℕ) (change : ChannelLooks → ChannelLooks) → (n == m) ≡ false
    → number_in (changed_at m change qs) n ≡ number_in qs n
number-elsewhere [] m n change other = refl
number-elsewhere (q ∷ qs) zero zero change other = absurd cc
number-elsewhere (q ∷ qs) zero (suc n) change other = refl
number-elsewhere (q ∷ qs) (suc m) zero change other = refl
number-elsewhere (q ∷ qs) (suc m) (suc n) change other =
    number-elsewhere qs m n change (let apart : (n == m) ≡ false = grind (arith, nat_tests) in apart)

other-channel : (a b : Bool) → (a && b) ≡ false → a ≡ true → b ≡ false
other-channel true b other same = other
other-channel false b other same = absurd cc

-- another channel keeps its number
number-other : (s : Setup) (life : Life) (c d : CallName) (l : Looks)
    → same_channel (channel_of d) (channel_of c) ≡ false
    → number_of (conn_at (started s life c l) (connection_of d)) d.chan ≡ number_of (conn_at l (connection_of d)) d.chan
number-other s life c d l other =
    ap (λ (o : Option ConnLooks). number_of o d.chan)
    (conn_at-on_conn (connection_of d) (connection_of c) (numbered c) l (λ r. refl))
    ∙ of (conn_at l (connection_of d)) refl
  where
    of : (o : Option ConnLooks) → conn_at l (connection_of d) ≡ o
        → number_of (option_map (conn_if (connection_of c) (numbered c)) o) d.chan ≡ number_of o d.chan
    of None is = refl
    of (Some r) is =
        let own : r.connection ≡ connection_of d =
        connection_is r.connection (connection_of d)
        (find_passes (λ q. same_connection q.connection (connection_of d)) l.conns r is) in
        (elim (same_connection r.connection (connection_of c)) as
        (λ b. same_connection r.connection (connection_of c) ≡ b
        → number_in (cond b (numbered c r) r).channels d.chan ≡ number_in r.channels d.chan) [
          | true ↦ λ same. (
              let at = subst (λ (x : Connection). same_connection x (connection_of c) ≡ true) own same in
              number-elsewhere r.channels c.chan d.chan (λ q. fresh_channel c.number)
              (other-channel (same_connection (connection_of d) (connection_of c)) (d.chan == c.chan) other at))
          | false ↦ λ apart. refl
        ]) refl

-- ---- a start

module _ (s : Setup) (life : Life) (c : CallName) (l : Looks) (r : ConnLooks)
    (there : conn_at l (connection_of c) ≡ Some r) (chan : c.chan < 4)
    (free : is_call (λ k. is_live k.life) (latest l (channel_of c)) ≡ false) (o : Orderly s l) where
  latest-here : IsLatest (started s life c l) c
  latest-here = record {
    chan = chan;
    number = number-started s life c l r there chan
        (four_there s l (connection_of c) o);
  }

  latest-elsewhere : (d : CallName) → same_name d c ≡ false → LivesAt (started s life c l) d
      → IsLatest (started s life c l) d
  latest-elsewhere d other lives =
      let new : CallRecord = record { name = c; life = life; looks = fresh_call (pace_of s) l.now } in
      let same : call_at (started s life c l) d ≡ call_at l d = call_at-other d new l other (call_at l d) refl in
      let before : LivesAt l d = ap (λ (q : Option CallRecord). is_call (λ k. is_live k.life) q) (sym same) ∙ lives in
      let is = o.latest d before in
      record {
        chan = is.chan;
        number = number-other s life c d l
            (apart is before (same_channel (channel_of d) (channel_of c)) refl) ∙ is.number;
      }
    where
      apart : IsLatest l d → LivesAt l d → (b : Bool) → same_channel (channel_of d) (channel_of c) ≡ b
          → same_channel (channel_of d) (channel_of c) ≡ false
      apart is before false away = away
      apart is before true same =
          (let at : channel_of d ≡ channel_of c = channel_is (channel_of d) (channel_of c) same in
          let live : is_call (λ k. is_live k.life) (latest l (channel_of d)) ≡ true =
          ap (λ (q : Option CallRecord). is_call (λ k. is_live k.life) q) (latest_is l d is) ∙ before in
          let none : is_call (λ k. is_live k.life) (latest l (channel_of d)) ≡ false =
          subst (λ (ch : Channel). is_call (λ k. is_live k.life) (latest l ch) ≡ false) (sym at) free in
          absurd (cc (live, none)))

  pub orderly_started : live l < s.limits.calls → Differ by_name l.calls → Orderly s (started s life c l)
  orderly_started room differ =
      record {
        conns =
            orderly_conns s l.conns (started s life c l).conns
            (pairs_map Alike (conn_if (connection_of c) (numbered c)) l.conns
            (λ r. of (same_connection r.connection (connection_of c)) r)) o.conns;
        few = (
            let more = count-started
            (record { name = c; life = life; looks = fresh_call (pace_of s) l.now }) l.calls differ in
            omega arith);
        latest = λ d lives.
            (elim (same_name d c) as (λ b. same_name d c ≡ b → IsLatest (started s life c l) d) [
              | true ↦ λ same. subst (λ (n : CallName). IsLatest (started s life c l) n)
                  (sym (name_is d c same)) latest-here
              | false ↦ λ other. latest-elsewhere d other lives
            ]) refl;
      }
    where
      of : (b : Bool) (r : ConnLooks) → Alike r (cond b (numbered c r) r)
      of true r = record { connection = refl; length = length-changed r.channels c.chan (λ q. fresh_channel c.number) }
      of false r = record { connection = refl; length = refl }
