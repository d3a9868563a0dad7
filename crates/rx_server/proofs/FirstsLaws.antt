-- The channels of calls whose packet 1 was kept, behind changes that bring no call to life.
use Rattle.std.proofs.Common.{◌≡◌, ◌<◌, ◌&&◌, ◌==◌, ◌/◌, ◌%◌, ℕ, zero, suc, cond, if◌then◌else◌, not, Bool, true, false}
use Rattle.std.proofs.Common.{List, [], ◌∷◌, ◌++◌, filter}
use Rattle.std.proofs.Common.{Option, Some, None, option_map, refl, ◌∙◌, ap, sym, subst, arith}
use Rattle.std.specs.Prelude.{option_and_then, slice_get, unwrap_or}
use Rattle.std.specs.List.{cons_option, filter_map, find}
use Rattle.std.proofs.lemmas.List.Elements.{filter-append, filter_map-append}
use Rattle.std.proofs.lemmas.Bool.{false≢true}
use Rattle.std.proofs.lemmas.Option.{slice_get-map}
use Rattle.rx_model.specs.declared.names.CallName.{CallName}
use Rattle.rx_model.specs.Names.{Channel, Connection, channel_of, connection_of, same_channel, same_connection}
use Rattle.rx_model.specs.Names.{same_name}
use Rattle.rx_model.proofs.NameLaws.{channel_is, connection_itself, name_is, number_itself, refuted, same_number}
use Rattle.rx_rules.specs.CallLooks.{fresh_call}
use Rattle.rx_rules.specs.Life.{Life, is_live, is_waiting}
use Rattle.rx_rules.specs.Life as lives
use Rattle.rx_rules.specs.Looks.{CallRecord, ChannelLooks, ConnLooks, Looks, call_at, call_named, changed_at}
use Rattle.rx_rules.specs.Looks.{channel_at, fresh_channel}
use Rattle.rx_rules.specs.Looks.{is_call, latest, latest_name}
use Rattle.rx_rules.specs.Records.{started}
use Rattle.rx_rules.specs.Setup.{Setup, pace_of}
use Rattle.rx_rules.proofs.ConnsLaws.{channel_number, conn_if}
use Rattle.rx_rules.proofs.EveryLaws.{Every, every-append, every-filter}
use Rattle.rx_history.proofs.Dimensions.Dims.{Dims, Fades, Same, has_first}
use Rattle.rx_history.proofs.Dimensions.DimsLeave.{numbers_stay}
use Rattle.rx_history.proofs.Order.Orderly.{Orderly}
use Rattle.rx_history.proofs.Pairwise.{Pairwise}
use Rattle.rx_rules.proofs.StartLaws.{call_at-other}
use Rattle.rx_node.proofs.Steps.ChannelSteps.{channel_unstarted, latest_unstarted, place_is}
use Rattle.rx_node.specs.Mirrors.{IsChannel, channel_in}
use Rattle.rx_server.specs.Server.{FirstsStand, lacks_at, lacks_on, waits, waits_at, waits_on}

-- ---- lists

-- what is there, where it passes
abbrev pub passing : {X : Type 0} → (X → Bool) → Option X → Option X
passing test None = None
passing test (Some x) = if test x then Some x else None

-- a map of each that is there
pub mapped_alike : {X Y : Type 0} (f g : X → Option Y) (xs : List X) → ((x : X) → f x ≡ g x)
    → filter_map f xs ≡ filter_map g xs
mapped_alike f g [] same = refl
mapped_alike f g (x ∷ xs) same = rw (same x, mapped_alike f g xs same) refl

-- a further test
pub mapped_passing : {X Y : Type 0} (test : Y → Bool) (f : X → Option Y) (xs : List X)
    → filter_map (λ x. passing test (f x)) xs ≡ filter test (filter_map f xs)
mapped_passing test f [] = refl
mapped_passing test f (x ∷ xs) = of (f x) (mapped_passing test f xs)
  where
    of : (o : Option _) → filter_map (λ y. passing test (f y)) xs ≡ filter test (filter_map f xs)
        → cons_option (passing test o) (filter_map (λ y. passing test (f y)) xs)
        ≡ filter test (cons_option o (filter_map f xs))
    of None rest = rest
    of (Some y) rest = (elim (test y) as
        (λ b. cons_option (if b then Some y else None) (filter_map (λ y. passing test (f y)) xs)
        ≡ cond b (y ∷ filter test (filter_map f xs)) (filter test (filter_map f xs))) [
          | true ↦ ap (λ (ys : List _). y ∷ ys) rest
          | false ↦ rest
        ])

-- a test behind a weaker one
pub filter_stronger : {X : Type 0} (p q : X → Bool) (xs : List X) → ((x : X) → q x ≡ true → p x ≡ true)
    → filter q (filter p xs) ≡ filter q xs
filter_stronger p q [] weaker = refl
filter_stronger p q (x ∷ xs) weaker =
    let rest : filter q (filter p xs) ≡ filter q xs = filter_stronger p q xs weaker in
    (elim (p x) as (λ b. p x ≡ b → filter q (cond b (x ∷ filter p xs) (filter p xs)) ≡ filter q (x ∷ xs)) [
      | true ↦ λ is. ap (λ (ys : List _). cond (q x) (x ∷ ys) ys) rest
      | false ↦ λ is. (
          let other : q x ≡ false = refuted (q x) (λ yes. false≢true (sym is ∙ weaker x yes)) in
          rest ∙ ap (λ (b : Bool). cond b (x ∷ filter q xs) (filter q xs)) (sym other))
    ]) refl

-- what gives nothing may be left out
pub mapped_without : {X Y : Type 0} (f : X → Option Y) (p : X → Bool) (xs : List X)
    → ((x : X) → p x ≡ false → f x ≡ None)
    → filter_map f (filter p xs) ≡ filter_map f xs
mapped_without f p [] gives = refl
mapped_without f p (x ∷ xs) gives =
    (elim (p x) as (λ b. p x ≡ b → filter_map f (cond b (x ∷ filter p xs) (filter p xs)) ≡ filter_map f (x ∷ xs)) [
      | true ↦ λ is. ap (λ (ys : List _). cons_option (f x) ys) (mapped_without f p xs gives)
      | false ↦ λ is. mapped_without f p xs gives ∙ ap (λ (o : Option _). cons_option o (filter_map f xs))
          (sym (gives x is))
    ]) refl

-- ---- pairs

-- both are there in a relation, or neither
abbrev pub Both : {X : Type 0} → (X → X → Type 0) → Option X → Option X → Type 0
Both R None None = Unit {0}
Both R (Some x) (Some y) = R x y
Both R None (Some y) = ⊥
Both R (Some x) None = ⊥

-- at a place
pub pairs_at : {X : Type 0} (R : X → X → Type 0) (xs ys : List X) (i : ℕ) → Pairwise R xs ys
    → Both R (slice_get xs i) (slice_get ys i)
pairs_at R [] [] i p = tt
pairs_at R [] (y ∷ ys) i p = absurd p
pairs_at R (x ∷ xs) [] i p = absurd p
pairs_at R (x ∷ xs) (y ∷ ys) zero p = p.0
pairs_at R (x ∷ xs) (y ∷ ys) (suc i) p = pairs_at R xs ys i p.1

-- the calls of a name
pub pairs_call : (c : CallName) (ks js : List CallRecord) → Pairwise Fades ks js
    → Both Fades (find (λ k. same_name k.name c) ks) (find (λ k. same_name k.name c) js)
pairs_call c [] [] p = tt
pairs_call c [] (j ∷ js) p = absurd p
pairs_call c (k ∷ ks) [] p = absurd p
pairs_call c (k ∷ ks) (j ∷ js) p =
    let rest = pairs_call c ks js p.1 in
    subst (λ (n : CallName). Both Fades (find (λ i. same_name i.name c) (k ∷ ks))
    (cond (same_name n c) (Some j) (find (λ i. same_name i.name c) js))) (sym p.0.name)
    (elim (same_name k.name c) as (λ b. Both Fades (cond b (Some k) (find (λ i. same_name i.name c) ks))
    (cond b (Some j) (find (λ i. same_name i.name c) js))) [
      | true ↦ p.0
      | false ↦ rest
    ])

-- a call that waits behind them waited
pub waits_stay : (l m : Looks) (c : CallName) → Dims l m → waits m c ≡ true → waits l c ≡ true
waits_stay l m c dims is = of (call_at l c) (call_at m c) (pairs_call c l.calls m.calls dims.calls) is
  where
    of : (o q : Option CallRecord) → Both Fades o q → is_call (λ k. is_waiting k.life) q ≡ true
        → is_call (λ k. is_waiting k.life) o ≡ true
    of None None p is = is
    of (Some k) (Some j) p is = p.waiting is
    of None (Some j) p is = absurd p
    of (Some k) None p is = absurd p

-- one that lacks its packet 1 lacked it
lacking : (k j : CallRecord) → Fades k j → (is_live k.life && not (has_first k.looks)) ≡ false
    → (is_live j.life && not (has_first j.looks)) ≡ false
lacking k j fades is =
    of (is_live k.life) (is_live j.life) (has_first k.looks) (has_first j.looks) fades.live fades.first is
  where
    of : (a b f g : Bool) → (b ≡ true → a ≡ true) → (f ≡ true → g ≡ true) → (a && not f) ≡ false → (b && not g) ≡ false
    of a false f g falls stays is = refl
    of a true f true falls stays is = refl
    of true true true false falls stays is = absurd (let yes = stays refl in cc (yes))
    of true true false false falls stays is = absurd (cc (is))
    of false true f false falls stays is = absurd (let yes = falls refl in cc (yes))

module _ (l m : Looks) (dims : Dims l m) where
  pub name_stays : (ch : Channel) → latest_name m ch ≡ latest_name l ch
  name_stays ch =
      ap (λ (n : ℕ). call_named ch n)
      (channel_number m ch ∙ numbers_stay l m ch.connection ch.chan dims ∙ sym (channel_number l ch))

  waits-on : (ch : Channel) → waits_on m ch ≡ passing (waits m) (waits_on l ch)
  waits-on ch =
      ap (λ (n : CallName). if waits m n then Some n else None) (name_stays ch)
      ∙ of (waits l (latest_name l ch)) refl
    where
      n : CallName
      n = latest_name l ch

      of : (b : Bool) → waits l n ≡ b → (if waits m n then Some n else None) ≡ passing (waits m)
          (if b then Some n else None)
      of true is = refl
      of false is = ap (λ (b : Bool). if b then Some n else None)
          (refuted (waits m n) (λ yes. false≢true (sym is ∙ waits_stay l m n dims yes)))

  lacks-on : (ch : Channel) → lacks_on l ch ≡ false → lacks_on m ch ≡ false
  lacks-on ch is =
      ap (λ (n : CallName). is_call (λ k. is_live k.life && not (has_first k.looks)) (call_at m n)) (name_stays ch)
      ∙ of (call_at l (latest_name l ch)) (call_at m (latest_name l ch))
      (pairs_call (latest_name l ch) l.calls m.calls dims.calls) is
    where
      of : (o q : Option CallRecord) → Both Fades o q
          → is_call (λ k. is_live k.life && not (has_first k.looks)) o ≡ false
          → is_call (λ k. is_live k.life && not (has_first k.looks)) q ≡ false
      of None None p is = refl
      of (Some k) (Some j) p is = lacking k j p is
      of None (Some j) p is = absurd p
      of (Some k) None p is = absurd p

  pub conn_pair : (key : ℕ) → Both Same (slice_get l.conns (key / 4)) (slice_get m.conns (key / 4))
  conn_pair key = pairs_at Same l.conns m.conns (key / 4) dims.conns

  pub waits_behind : (key : ℕ) → waits_at m key ≡ passing (waits m) (waits_at l key)
  waits_behind key = of (slice_get l.conns (key / 4)) (slice_get m.conns (key / 4)) (conn_pair key)
    where
      of : (o q : Option ConnLooks) → Both Same o q
          → option_and_then (λ x. waits_on m (channel_in x (key % 4))) q
          ≡ passing (waits m) (option_and_then (λ x. waits_on l (channel_in x (key % 4))) o)
      of None None p = refl
      of (Some x) (Some y) p =
          ap (λ (z : _). waits_on m (record { connection = z; chan = key % 4 })) p.alike.connection
          ∙ waits-on (channel_in x (key % 4))
      of None (Some y) p = absurd p
      of (Some x) None p = absurd p

  lacks-at : (key : ℕ) → lacks_at l key ≡ false → lacks_at m key ≡ false
  lacks-at key = of (slice_get l.conns (key / 4)) (slice_get m.conns (key / 4)) (conn_pair key)
    where
      of : (o q : Option ConnLooks) → Both Same o q
          → unwrap_or (option_map (λ x. lacks_on l (channel_in x (key % 4))) o) false ≡ false
          → unwrap_or (option_map (λ x. lacks_on m (channel_in x (key % 4))) q) false ≡ false
      of None None p is = refl
      of (Some x) (Some y) p is =
          ap (λ (z : _). lacks_on m (record { connection = z; chan = key % 4 })) p.alike.connection
          ∙ lacks-on (channel_in x (key % 4)) is
      of None (Some y) p is = absurd p
      of (Some x) None p is = absurd p

  -- the channels that are listed stay listed
  pub firsts_dims : (firsts : List ℕ) → m.firsts ≡ l.firsts → FirstsStand firsts l → FirstsStand firsts m
  firsts_dims firsts same f =
      record {
        order = mapped_alike (waits_at m) (λ key. passing (waits m) (waits_at l key)) firsts waits_behind
            ∙ mapped_passing (waits m) (waits_at l) firsts
            ∙ ap (filter (waits m)) f.order
            ∙ filter_stronger (waits l) (waits m) l.firsts (λ c yes. waits_stay l m c dims yes)
            ∙ ap (filter (waits m)) (sym same);
        kept = every-then firsts f.kept;
      }
    where
      every-then : (keys : List ℕ) → Every (λ key. lacks_at l key ≡ false) keys
          → Every (λ key. lacks_at m key ≡ false) keys
      every-then [] all = tt
      every-then (key ∷ keys) all = (lacks-at key all.0, every-then keys all.1)

-- ---- one is left out, and one comes

-- a channel whose call doesn't wait may be left out
pub firsts_without : (firsts : List ℕ) (key : ℕ) (l : Looks) → waits_at l key ≡ None → FirstsStand firsts l
    → FirstsStand (filter (λ k. not (k == key)) firsts) l
firsts_without firsts key l none f =
    record {
      order = mapped_without (waits_at l) (λ k. not (k == key)) firsts
          (λ k is. ap (waits_at l) (same_number k key (own (k == key) is)) ∙ none) ∙ f.order;
      kept = every-filter (λ k. lacks_at l k ≡ false) (λ k. not (k == key)) firsts f.kept;
    }
  where
    own : (b : Bool) → not b ≡ false → b ≡ true
    own true is = refl
    own false is = absurd (cc (is))

-- look-ups that say the same of each channel
pub firsts_alike : (firsts : List ℕ) (l m : Looks) → Every (λ key. waits_at m key ≡ waits_at l key) firsts
    → Every (λ key. lacks_at m key ≡ lacks_at l key) firsts → filter (waits m) m.firsts ≡ filter (waits l) l.firsts
    → FirstsStand firsts l → FirstsStand firsts m
firsts_alike firsts l m waiting lacking same f =
    record { order = each firsts waiting ∙ f.order ∙ sym same; kept = kept-each firsts lacking f.kept }
  where
    each : (keys : List ℕ) → Every (λ key. waits_at m key ≡ waits_at l key) keys
        → filter_map (waits_at m) keys ≡ filter_map (waits_at l) keys
    each [] all = refl
    each (key ∷ keys) all = rw (all.0, each keys all.1) refl

    kept-each : (keys : List ℕ) → Every (λ key. lacks_at m key ≡ lacks_at l key) keys
        → Every (λ key. lacks_at l key ≡ false) keys → Every (λ key. lacks_at m key ≡ false) keys
    kept-each [] all kept = tt
    kept-each (key ∷ keys) all kept = (all.0 ∙ kept.0, kept-each keys all.1 kept.1)

-- the channel of a call whose packet 1 comes is listed last
pub firsts_behind : (firsts : List ℕ) (key : ℕ) (c : CallName) (l : Looks)
    → waits_at l key ≡ passing (waits l) (Some c) → lacks_at l key ≡ false → FirstsStand firsts l
    → FirstsStand (firsts ++ key ∷ []) (record l { firsts = l.firsts ++ c ∷ [] })
firsts_behind firsts key c l own kept f =
    record {
      order = filter_map-append (waits_at l) firsts (key ∷ [])
          ∙ (λ i. f.order i ++ cons_option (own i) [])
          ∙ ap (λ (xs : List CallName). filter (waits l) l.firsts ++ xs) (one (waits l c))
          ∙ sym (filter-append (waits l) l.firsts (c ∷ []));
      kept = every-append (λ k. lacks_at l k ≡ false) firsts (key ∷ []) f.kept (kept, tt);
    }
  where
    one : (b : Bool) → cons_option (if b then Some c else None) [] ≡ cond b (c ∷ []) []
    one true = refl
    one false = refl

-- ---- a call starts

-- two tests, one behind the other
pub filter_both : {X : Type 0} (p q r : X → Bool) (xs : List X) → ((x : X) → (p x && q x) ≡ r x)
    → filter q (filter p xs) ≡ filter r xs
filter_both p q r [] is = refl
filter_both p q r (x ∷ xs) is =
    let rest = filter_both p q r xs is in
    (elim (p x) as (λ b. (b && q x) ≡ r x → filter q (cond b (x ∷ filter p xs) (filter p xs)) ≡ filter r (x ∷ xs)) [
      | true ↦ λ same. (λ i. cond (same i) (x ∷ rest i) (rest i))
      | false ↦ λ same. rest ∙ ap (λ (b : Bool). cond b (x ∷ filter r xs) (filter r xs)) same
    ]) (is x)

-- a channel says the same where its latest call has the same name and record
pub on_alike : (l m : Looks) (d : Channel) → latest_name m d ≡ latest_name l d → latest m d ≡ latest l d
    → (waits_on m d ≡ waits_on l d) × (lacks_on m d ≡ lacks_on l d)
on_alike l m d named same = (
  (λ i. if is_call (λ k. is_waiting k.life) (same i) then Some (named i) else None),
  ap (λ (o : Option CallRecord). is_call (λ k. is_live k.life && not (has_first k.looks)) o) same,
)

waiting-lives : (x : Life) → is_waiting x ≡ true → is_live x ≡ true
waiting-lives lives.Waiting is = refl
waiting-lives lives.Calling is = absurd (cc (is))
waiting-lives (lives.Ended end) is = absurd (cc (is))
waiting-lives lives.Accepted is = absurd (cc (is))
waiting-lives lives.Finished is = absurd (cc (is))
waiting-lives (lives.Broken code) is = absurd (cc (is))
waiting-lives (lives.Over code) is = absurd (cc (is))

-- a call that waits lives
pub waits_lives : (l : Looks) (c : CallName) → waits l c ≡ true → is_call (λ k. is_live k.life) (call_at l c) ≡ true
waits_lives l c is = of (call_at l c) is
  where
    of : (o : Option CallRecord) → is_call (λ k. is_waiting k.life) o ≡ true → is_call (λ k. is_live k.life) o ≡ true
    of None is = is
    of (Some k) is = waiting-lives k.life is

module _ (s : Setup) (c : CallName) (key : ℕ) (l : Looks) (at : IsChannel l key (channel_of c)) (o : Orderly s l)
    (above : (channel_at l (channel_of c)).number < c.number) where
  abbrev made : Looks
  made = started s lives.Waiting c l

  abbrev change : ConnLooks → ConnLooks
  change r = record r { channels = changed_at c.chan (λ q. fresh_channel c.number) r.channels }

  -- it didn't wait before
  waits-not : waits l c ≡ false
  waits-not =
      refuted (waits l c)
      (λ yes. (let is = (o.latest c (waits_lives l c yes)).number in
      let same = channel_number l (channel_of c) in omega arith))

  other-channel : (k : ℕ) (x : ConnLooks) → slice_get l.conns (k / 4) ≡ Some x → (k == key) ≡ false
      → same_channel (channel_in x (k % 4)) (channel_of c) ≡ false
  other-channel k x there other =
      refuted (same_channel (channel_in x (k % 4)) (channel_of c))
      (λ same. (
      let is : channel_in x (k % 4) ≡ channel_in at.conn (key % 4) =
      channel_is (channel_in x (k % 4)) (channel_of c) same ∙ at.is in
      let conn : x.connection ≡ at.conn.connection = ap (λ (d : Channel). d.connection) is in
      let chan : k % 4 ≡ key % 4 = ap (λ (d : Channel). d.chan) is in
      let place : k / 4 ≡ key / 4 =
      place_is l.conns (k / 4) (key / 4) x at.conn o.conns.differ there at.there
      (ap (λ (y : Connection). same_connection y at.conn.connection) conn ∙ connection_itself at.conn.connection) in
      let one : k ≡ key = omega arith in
      false≢true (sym other ∙ ap (λ (n : ℕ). n == key) one ∙ number_itself key)))

  -- so that every other channel says the same
  pub at_alike : (k : ℕ) → (k == key) ≡ false
      → (waits_at made k ≡ waits_at l k) × (lacks_at made k ≡ lacks_at l k)
  at_alike k other = of (slice_get l.conns (k / 4)) refl
    where
      place : slice_get made.conns (k / 4) ≡ option_map (conn_if (connection_of c) change) (slice_get l.conns (k / 4))
      place = slice_get-map (conn_if (connection_of c) change) l.conns (k / 4)

      named : (b : Bool) (x : ConnLooks) → (cond b (change x) x).connection ≡ x.connection
      named true x = refl
      named false x = refl

      of : (q : Option ConnLooks) → slice_get l.conns (k / 4) ≡ q
          → (waits_at made k ≡ waits_at l k) × (lacks_at made k ≡ lacks_at l k)
      of None is =
          (let none = place ∙ ap (option_map (conn_if (connection_of c) change)) is in (
            ap (option_and_then (λ x. waits_on made (channel_in x (k % 4)))) none
                ∙ sym (ap (option_and_then (λ x. waits_on l (channel_in x (k % 4)))) is),
            ap (λ (p : Option ConnLooks). unwrap_or (option_map (λ x. lacks_on made (channel_in x (k % 4))) p) false)
                none
                ∙ sym (ap (λ (p : Option ConnLooks). unwrap_or (option_map (λ x. lacks_on l (channel_in x (k % 4))) p)
                false) is),
          ))
      of (Some x) is =
          (let some = place ∙ ap (option_map (conn_if (connection_of c) change)) is in
          let d : Channel = channel_in x (k % 4) in
          let own : channel_in (conn_if (connection_of c) change x) (k % 4) ≡ d =
          ap (λ (y : Connection). record { connection = y; chan = k % 4 })
          (named (same_connection x.connection (connection_of c)) x) in
          let apart = other-channel k x is other in
          let same = on_alike l made d
          (ap (λ (q : ChannelLooks). call_named d q.number) (channel_unstarted s lives.Waiting c l d apart))
          (latest_unstarted s lives.Waiting c l d apart) in (
            ap (option_and_then (λ y. waits_on made (channel_in y (k % 4)))) some
                ∙ ap (waits_on made) own ∙ same.0
                ∙ sym (ap (option_and_then (λ y. waits_on l (channel_in y (k % 4)))) is),
            ap (λ (p : Option ConnLooks). unwrap_or (option_map (λ y. lacks_on made (channel_in y (k % 4))) p) false)
                some
                ∙ ap (lacks_on made) own ∙ same.1
                ∙ sym (ap (λ (p : Option ConnLooks). unwrap_or (option_map (λ y. lacks_on l (channel_in y (k % 4))) p)
                false) is),
          ))

  still-waits : (d : CallName) → (not (same_name d c) && waits made d) ≡ waits l d
  still-waits d = of (same_name d c) refl
    where
      of : (b : Bool) → same_name d c ≡ b → (not b && waits made d) ≡ waits l d
      of true is = sym (ap (waits l) (name_is d c is) ∙ waits-not)
      of false is =
          ap (λ (q : Option CallRecord). is_call (λ k. is_waiting k.life) q)
          (call_at-other d
          (record { name = c; life = lives.Waiting; looks = fresh_call (pace_of s) l.now }) l is
          (call_at l d) refl)

  -- the channels that are listed stay listed
  pub firsts_started : (firsts : List ℕ) → Every (λ k. (k == key) ≡ false) firsts → FirstsStand firsts l
      → FirstsStand firsts made
  firsts_started firsts others f =
      firsts_alike firsts l made (every-then _ _ firsts (λ k other. (at_alike k other).0) others)
      (every-then _ _ firsts (λ k other. (at_alike k other).1) others)
      (filter_both (λ d. not (same_name d c)) (waits made) (waits l) l.firsts still-waits) f
    where
      every-then : (P Q : ℕ → Type 0) (keys : List ℕ) → ((k : ℕ) → P k → Q k) → Every P keys → Every Q keys
      every-then P Q [] gives all = tt
      every-then P Q (k ∷ keys) gives all = (gives k all.0, every-then P Q keys gives all.1)
