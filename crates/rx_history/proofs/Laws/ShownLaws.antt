-- What changes of connections leave of their proofs: none is proved anew, and each keeps which one it is.
use Rattle.std.proofs.Common.{◌≡◌, cond, if◌then◌else◌, Bool, true, false, List, [], ◌∷◌, ◌++◌}
use Rattle.std.proofs.Common.{Option, Some, None, option_map, refl, ◌∙◌, ap, sym, subst, is_some, map}
use Rattle.std.specs.List.{find}
use Rattle.rx_rules.specs.Looks.{ChannelLooks, ConnLooks, Looks, changed_at, conn_at, on_channel, on_conn}
use Rattle.rx_model.specs.Names.{Channel, Connection, same_connection}
use Rattle.rx_rules.specs.Records.{entered, fresh_conn, idle_conn, is_full, placed, used, with_conn}
use Rattle.rx_rules.specs.Setup.{Setup, Kind, Server, Client}
use Rattle.rx_rules.proofs.ConnsLaws.{KeepsConns, conn_if, conn_at-on_conn}
use Rattle.rx_model.proofs.NameLaws.{connection_is, connection_itself}

-- where a record is proved, it was there before, proved too
abbrev pub Fine : Option ConnLooks → Option ConnLooks → Type 0
Fine o None = Unit {0}
Fine o (Some q) = q.proved ≡ true → (r : ConnLooks) × (o ≡ Some r) × (r.proved ≡ true) × (r.order ≡ q.order)

pub fine-refl : (o : Option ConnLooks) → Fine o o
fine-refl None = tt
fine-refl (Some r) = λ proved. (r, refl, proved, refl)

fine-trans-some : (a : Option ConnLooks) (b : Option ConnLooks) (q : ConnLooks) → Fine a b → Fine b (Some q)
    → Fine a (Some q)
fine-trans-some a None q first second = λ proved. absurd (let found = second proved in cc (found.1))
fine-trans-some a (Some r) q first second =
    λ proved. (
    let found = second proved in
    let one : r ≡ found.0 = cc (found.1) in
    let was = first (ap (λ (p : ConnLooks). p.proved) one ∙ found.2) in
    (was.0, was.1, was.2, was.3 ∙ (ap (λ (p : ConnLooks). p.order) one ∙ found.3)))

pub fine-trans : (a b d : Option ConnLooks) → Fine a b → Fine b d → Fine a d
fine-trans a b None first second = tt
fine-trans a b (Some q) first second = fine-trans-some a b q first second

-- a connection behind changes of a node
abbrev pub Plain : Connection → Looks → Looks → Type 0
Plain y l m = Fine (conn_at l y) (conn_at m y)

pub plain-trans : (y : Connection) (l m n : Looks) → Plain y l m → Plain y m n → Plain y l n
plain-trans y l m n first second = fine-trans (conn_at l y) (conn_at m y) (conn_at n y) first second

-- a change that proves none
pub record Proofless (change : ConnLooks → ConnLooks) : Type 0 where
  pub names : KeepsConns change
  pub proved : (r : ConnLooks) → (change r).proved ≡ true → r.proved ≡ true
  pub order : (r : ConnLooks) → (change r).order ≡ r.order

fine-map : (x : Connection) (change : ConnLooks → ConnLooks) (o : Option ConnLooks) → Proofless change
    → Fine o (option_map (conn_if x change) o)
fine-map x change None less = tt
fine-map x change (Some r) less =
    (elim (same_connection r.connection x) as (λ b. Fine (Some r) (Some (cond b (change r) r))) [
      | true ↦ λ proved. (r, refl, less.proved r proved, sym (less.order r))
      | false ↦ λ proved. (r, refl, proved, refl)
    ])

pub plain-on_conn : (y x : Connection) (change : ConnLooks → ConnLooks) (l : Looks) → Proofless change
    → Plain y l (on_conn x change l)
plain-on_conn y x change l less =
    subst (λ (o : Option ConnLooks). Fine (conn_at l y) o) (sym (conn_at-on_conn y x change l less.names))
    (fine-map x change (conn_at l y) less)

pub plain-on_channel : (y : Connection) (ch : Channel) (change : ChannelLooks → ChannelLooks) (l : Looks)
    → Plain y l (on_channel ch change l)
plain-on_channel y ch change l =
    plain-on_conn y ch.connection (λ r. record r { channels = changed_at ch.chan change r.channels }) l
    (record { names = λ r. refl; proved = λ r is. is; order = λ r. refl })

pub plain-used : (y x : Connection) (l : Looks) → Plain y l (used x l)
plain-used y x l =
    plain-on_conn y x (λ r. record r { last_use = l.now }) l
    (record { names = λ r. refl; proved = λ r is. is; order = λ r. refl })

-- ---- a new record

-- a proved record behind a new one was there before
find-appended : (y : Connection) (new q : ConnLooks) (rs : List ConnLooks) → new.proved ≡ false
    → find (λ r. same_connection r.connection y) (rs ++ new ∷ []) ≡ Some q → q.proved ≡ true
    → find (λ r. same_connection r.connection y) rs ≡ Some q
find-appended y new q [] fresh is proved = fresh_found (same_connection new.connection y) is
  where
    fresh_found : (b : Bool) → cond b (Some new) None ≡ Some q → None ≡ Some q
    fresh_found true is =
        absurd (let one : new ≡ q = cc (is) in cc (fresh, ap (λ (p : ConnLooks). p.proved) one, proved))
    fresh_found false is = is
find-appended y new q (r ∷ rs) fresh is proved =
    (elim (same_connection r.connection y)
    as (λ b. cond b (Some r) (find (λ p. same_connection p.connection y) (rs ++ new ∷ [])) ≡ Some q
    → cond b (Some r) (find (λ p. same_connection p.connection y) rs) ≡ Some q) [
      | true ↦ λ same. same
      | false ↦ λ same. find-appended y new q rs fresh same proved
    ]) is

-- where the old one of a name gives way
abbrev pub given_way : ConnLooks → ConnLooks → ConnLooks → ConnLooks
given_way new old r = if same_connection r.connection old.connection then new else r

-- a proved record among those was there before, and is another
pub record WasThere (y : Connection) (old q : ConnLooks) (rs : List ConnLooks) : Type 0 where
  pub was : find (λ r. same_connection r.connection y) rs ≡ Some q
  pub other : same_connection q.connection old.connection ≡ false
  pub named : same_connection q.connection y ≡ true

find-given_way : (y : Connection) (new old q : ConnLooks) (rs : List ConnLooks) → new.proved ≡ false
    → find (λ r. same_connection r.connection y) (map (given_way new old) rs) ≡ Some q → q.proved ≡ true
    → WasThere y old q rs
find-given_way y new old q [] fresh is proved = absurd cc
find-given_way y new old q (r ∷ rs) fresh is proved =
    (elim (same_connection r.connection old.connection)
    as (λ b. same_connection r.connection old.connection ≡ b
    → find (λ p. same_connection p.connection y) (cond b new r ∷ map (given_way new old) rs) ≡ Some q
    → WasThere y old q (r ∷ rs)) [
      | true ↦ λ gone is.
          behind_new (λ is. find-given_way y new old q rs fresh is proved) gone (same_connection new.connection y) is
      | false ↦ λ stays is.
          behind_same (λ is. find-given_way y new old q rs fresh is proved) stays
          (same_connection r.connection y) refl is
    ]) refl is
  where
    Rest : Type 0
    Rest = find (λ p. same_connection p.connection y) (map (given_way new old) rs) ≡ Some q → WasThere y old q rs

    -- the record that gave way isn't the one that is found
    apart : same_connection r.connection old.connection ≡ true → WasThere y old q rs
        → same_connection r.connection y ≡ true → ⊥
    apart gone there same =
        let to : r.connection ≡ y = connection_is r.connection y same in
        let from : r.connection ≡ old.connection = connection_is r.connection old.connection gone in
        let own : q.connection ≡ y = connection_is q.connection y there.named in
        let one : q.connection ≡ old.connection = own ∙ (sym to ∙ from) in
        let itself : same_connection q.connection old.connection ≡ true =
        subst (λ (x : Connection). same_connection q.connection x ≡ true) one (connection_itself q.connection) in
        absurd (cc (itself, there.other))

    skip : same_connection r.connection old.connection ≡ true → WasThere y old q rs → (b : Bool)
        → same_connection r.connection y ≡ b
        → cond b (Some r) (find (λ p. same_connection p.connection y) rs) ≡ Some q
    skip gone there true same = absurd (apart gone there same)
    skip gone there false same = there.was

    behind_new : Rest → same_connection r.connection old.connection ≡ true → (b : Bool)
        → cond b (Some new) (find (λ p. same_connection p.connection y) (map (given_way new old) rs)) ≡ Some q
        → WasThere y old q (r ∷ rs)
    behind_new rest gone true is =
        absurd (let one : new ≡ q = cc (is) in cc (fresh, ap (λ (p : ConnLooks). p.proved) one, proved))
    behind_new rest gone false is =
        (let there = rest is in
        record {
          was = skip gone there (same_connection r.connection y) refl;
          other = there.other;
          named = there.named;
        })

    behind_same : Rest → same_connection r.connection old.connection ≡ false → (b : Bool)
        → same_connection r.connection y ≡ b
        → cond b (Some r) (find (λ p. same_connection p.connection y) (map (given_way new old) rs)) ≡ Some q
        → WasThere y old q (r ∷ rs)
    behind_same rest stays true same is =
        (let one : r ≡ q = cc (is) in
        record {
          was = rw same (ap (λ (p : ConnLooks). Some p) one);
          other = subst (λ (p : ConnLooks). same_connection p.connection old.connection ≡ false) one stays;
          named = subst (λ (p : ConnLooks). same_connection p.connection y ≡ true) one same;
        })
    behind_same rest stays false same is =
        (let there = rest is in record { was = rw same there.was; other = there.other; named = there.named })

-- ---- entering

plain-placed : (y : Connection) (new : ConnLooks) (o : Option ConnLooks) (l : Looks) → new.proved ≡ false
    → Plain y l (placed new o l)
plain-placed y new None l fresh = of (conn_at (placed new None l) y) refl
  where
    of : (o : Option ConnLooks) → conn_at (placed new None l) y ≡ o → Fine (conn_at l y) o
    of None is = tt
    of (Some q) is = λ proved. (q, find-appended y new q l.conns fresh is proved, proved, refl)
plain-placed y new (Some old) l fresh = of (conn_at (placed new (Some old) l) y) refl
  where
    of : (o : Option ConnLooks) → conn_at (placed new (Some old) l) y ≡ o → Fine (conn_at l y) o
    of None is = tt
    of (Some q) is = λ proved. (q, (find-given_way y new old q l.conns fresh is proved).was, proved, refl)

plain-with_conn : (y : Connection) (s : Setup) (kind : Kind) (x : Connection) (l : Looks)
    → Plain y l (with_conn s kind x l)
plain-with_conn y s (Client host epoch) x l = fine-refl (conn_at l y)
plain-with_conn y s (Server service nonces) x l =
    plain-placed y (fresh_conn x x.host service 1 l) (if is_full s l then idle_conn l else None) l refl

pub plain-entered : (y : Connection) (s : Setup) (x : Connection) (l : Looks) → Plain y l (entered s x l)
plain-entered y s x l =
    (elim (is_some (conn_at l x)) as (λ b. Plain y l (cond b l (with_conn s s.kind x l))) [
      | true ↦ fine-refl (conn_at l y)
      | false ↦ plain-with_conn y s s.kind x l
    ])
