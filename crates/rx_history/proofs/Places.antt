-- A connection is entered, where no record of the connection that is looked at is forgotten for it.
use Rattle.std.proofs.Common.{◌≡◌, ◌⊎◌, inl, inr, ◌≤◌, ◌||◌, ℕ, zero, suc, cond, if◌then◌else◌, nat_le, Bool, true}
use Rattle.std.proofs.Common.{false, List, [], ◌∷◌}
use Rattle.std.proofs.Common.{length, map, filter, Option, Some, None, refl, ◌∙◌, ap, arith, sym, subst, is_some}
use Rattle.std.specs.List.{find, list_any}
use Rattle.rx_model.specs.declared.names.CallName.{CallName}
use Rattle.rx_rules.specs.Looks.{ChannelLooks, ConnLooks, Looks, call_at, conn_at}
use Rattle.rx_model.specs.Names.{Connection, connection_of, same_connection}
use Rattle.rx_rules.specs.Records.{entered, fresh_conn, idle_conn, is_full, is_idle, placed, with_conn}
use Rattle.rx_rules.specs.Least.{least_by, lesser_by}
use Rattle.rx_rules.specs.Setup.{Setup, Kind, Server, Client, IsServer}
use Rattle.rx_rules.proofs.ConnsLaws.{number_in, number_of}
use Rattle.rx_rules.proofs.EnterLaws.{fresh_channels}
use Rattle.rx_rules.proofs.FindLaws.{find-before, find-last}
use Rattle.rx_rules.proofs.KeepsLaws.{Fours, Keeps, Lives, keeps-refl, lives-refl}
use Rattle.rx_model.proofs.NameLaws.{neither, connection_is, connection_itself, or_true}
use Rattle.rx_history.proofs.Laws.ShownLaws.{given_way}

-- no record of this connection was forgotten
abbrev pub Spared : Connection → Looks → Type 0
Spared x l = list_any (λ y. same_connection y x) l.forgotten ≡ false

pub spared-as : (x : Connection) (l m : Looks) → m.forgotten ≡ l.forgotten → Spared x m → Spared x l
spared-as x l m is spared = subst (λ (xs : List Connection). list_any (λ y. same_connection y x) xs ≡ false) is spared

-- the new record, or none
abbrev pub OnlyNew : ConnLooks → Option ConnLooks → Type 0
OnlyNew new None = Unit {0}
OnlyNew new (Some r) = r ≡ new

pub find-only : (p : ConnLooks → Bool) (new old : ConnLooks) (rs : List ConnLooks) → find p rs ≡ None
    → OnlyNew new (find p (map (given_way new old) rs))
find-only p new old [] none = tt
find-only p new old (r ∷ rs) none =
    (elim (p r) as (λ b. p r ≡ b → cond b (Some r) (find p rs) ≡ None
    → OnlyNew new (find p (map (given_way new old) (r ∷ rs)))) [
      | true ↦ λ passes is. absurd cc
      | false ↦ λ fails is. (
          let rest = find-only p new old rs is in
          (elim (same_connection r.connection old.connection)
          as (λ b. OnlyNew new (cond (p (cond b new r)) (Some (cond b new r)) (find p (map (given_way new old) rs)))) [
            | true ↦ (elim (p new) as (λ t. OnlyNew new (cond t (Some new)
                (find p (map (given_way new old) rs)))) [ true ↦ refl | false ↦ rest ])
            | false ↦ rw fails rest
          ]))
    ]) refl none

find-kept : (p : ConnLooks → Bool) (new old : ConnLooks) (rs : List ConnLooks) → p new ≡ false
    → ((r : ConnLooks) → same_connection r.connection old.connection ≡ true → p r ≡ false)
    → find p (map (given_way new old) rs) ≡ find p rs
find-kept p new old [] fails apart = refl
find-kept p new old (r ∷ rs) fails apart =
    let rest = find-kept p new old rs fails apart in
    (elim (same_connection r.connection old.connection) as (λ b. same_connection r.connection old.connection ≡ b
    → cond (p (cond b new r)) (Some (cond b new r)) (find p (map (given_way new old) rs))
    ≡ cond (p r) (Some r) (find p rs)) [
      | true ↦ λ same. rw (fails, apart r same) rest
      | false ↦ λ other. ap (λ (o : Option ConnLooks). cond (p r) (Some r) o) rest
    ]) refl

pub fresh-number : (x : Connection) (n : ℕ) → number_in (fresh_channels x) n ≡ 0
fresh-number x zero = refl
fresh-number x (suc zero) = refl
fresh-number x (suc (suc zero)) = refl
fresh-number x (suc (suc (suc zero))) = refl
fresh-number x (suc (suc (suc (suc n)))) = refl

pub only-fours : (x : Connection) (new : ConnLooks) (o : Option ConnLooks) → new.channels ≡ fresh_channels x
    → OnlyNew new o → Fours o
only-fours x new None fresh only = tt
only-fours x new (Some r) fresh only = ap (λ (q : ConnLooks). length q.channels) only
    ∙ ap (λ (qs : List ChannelLooks). length qs) fresh

pub last-only : (b : Bool) (new : ConnLooks) → OnlyNew new (cond b (Some new) None)
last-only true new = refl
last-only false new = tt

-- the record that goes is of another connection
abbrev pub Apart : Connection → Option ConnLooks → Type 0
Apart y None = Unit {0}
Apart y (Some old) = same_connection old.connection y ≡ false

-- what is there stays, and what comes is new
pub found-placed : (x y : Connection) (new : ConnLooks) (o : Option ConnLooks) (l : Looks) → new.connection ≡ x
    → (is_some o ≡ true → conn_at l x ≡ None)
    → Apart y o → (q : Option ConnLooks) → conn_at l y ≡ q
    → (conn_at (placed new o l) y ≡ q) ⊎ ((q ≡ None) × OnlyNew new (conn_at (placed new o l) y))
found-placed x y new None l named unknown apart None is =
    inr (
      refl,
      rw (find-last (λ r. same_connection r.connection y) l.conns new is)
          (last-only (same_connection new.connection y) new),
    )
found-placed x y new None l named unknown apart (Some r) is =
    inl (find-before (λ q. same_connection q.connection y) l.conns new r is)
found-placed x y new (Some old) l named unknown apart q is =
    (elim (same_connection new.connection y) as (λ b. same_connection new.connection y ≡ b
    → (conn_at (placed new (Some old) l) y ≡ q) ⊎ ((q ≡ None) × OnlyNew new (conn_at (placed new (Some old) l) y))) [
      | true ↦ λ same. (
          let at : y ≡ x = sym (connection_is new.connection y same) ∙ named in
          let none : conn_at l y ≡ None = subst (λ (z : Connection). conn_at l z ≡ None) (sym at) (unknown refl) in
          inr (sym is ∙ none, find-only (λ r. same_connection r.connection y) new old l.conns none))
      | false ↦ λ other.
          inl (find-kept (λ r. same_connection r.connection y) new old l.conns other
          (λ r at. subst (λ (z : Connection). same_connection z y ≡ false)
          (sym (connection_is r.connection old.connection at)) apart) ∙ is)
    ]) refl

pub keeps-placed : (c : CallName) (x : Connection) (new : ConnLooks) (o : Option ConnLooks) (l : Looks)
    → new.connection ≡ x
    → (is_some o ≡ true → conn_at l x ≡ None) → new.channels ≡ fresh_channels x → Apart (connection_of c) o
    → Keeps c l (placed new o l)
keeps-placed c x new o l named unknown fresh apart =
    let f = found-placed x (connection_of c) new o l named unknown apart (conn_at l (connection_of c)) refl in
    record {
      calls = calls-placed o;
      numbers = (elim f as (λ t. number_of (conn_at l (connection_of c)) c.chan ≤ number_of
          (conn_at (placed new o l) (connection_of c)) c.chan) [
            | inl same ↦ rw same (omega arith)
            | inr came ↦ rw came.0 (omega arith)
          ]);
      fours = λ fours. (elim f as (λ t. Fours (conn_at (placed new o l) (connection_of c))) [
        | inl same ↦ rw same fours
        | inr came ↦ only-fours x new (conn_at (placed new o l) (connection_of c)) fresh came.1
      ]);
    }
  where
    calls-placed : (p : Option ConnLooks) → Lives (call_at l c) (call_at (placed new p l) c)
    calls-placed None = lives-refl (call_at l c)
    calls-placed (Some old) = lives-refl (call_at l c)

spared-placed : (y : Connection) (new : ConnLooks) (o : Option ConnLooks) (l : Looks) → Spared y (placed new o l)
    → Apart y o × Spared y l
spared-placed y new None l spared = (tt, spared)
spared-placed y new (Some old) l spared =
    neither (same_connection old.connection y) (list_any (λ z. same_connection z y) l.forgotten) spared

pub is_none : (o : Option ConnLooks) → is_some o ≡ false → o ≡ None
is_none None is = refl
is_none (Some r) is = absurd cc

keeps-with_conn : (c : CallName) (s : Setup) (kind : Kind) (x : Connection) (l : Looks) → conn_at l x ≡ None
    → Spared (connection_of c) (with_conn s kind x l) → Keeps c l (with_conn s kind x l)
keeps-with_conn c s (Client host epoch) x l unknown spared = keeps-refl c l
keeps-with_conn c s (Server service nonces) x l unknown spared =
    keeps-placed c x (fresh_conn x x.host service 1 l) (if is_full s l then idle_conn l else None) l refl
    (λ y. unknown) refl
    (spared-placed (connection_of c) (fresh_conn x x.host service 1 l)
    (if is_full s l then idle_conn l else None) l spared).0

spared-with_conn : (y : Connection) (s : Setup) (kind : Kind) (x : Connection) (l : Looks)
    → Spared y (with_conn s kind x l) → Spared y l
spared-with_conn y s (Client host epoch) x l spared = spared
spared-with_conn y s (Server service nonces) x l spared =
    (spared-placed y (fresh_conn x x.host service 1 l) (if is_full s l then idle_conn l else None) l spared).1

pub keeps-entered : (c : CallName) (s : Setup) (x : Connection) (l : Looks) → Spared (connection_of c) (entered s x l)
    → Keeps c l (entered s x l)
keeps-entered c s x l spared =
    (elim (is_some (conn_at l x)) as (λ b. is_some (conn_at l x) ≡ b
    → Spared (connection_of c) (cond b l (with_conn s s.kind x l))
    → Keeps c l (cond b l (with_conn s s.kind x l))) [
      | true ↦ λ known spared. keeps-refl c l
      | false ↦ λ unknown spared. keeps-with_conn c s s.kind x l (is_none (conn_at l x) unknown) spared
    ]) refl spared

pub spared-entered : (y : Connection) (s : Setup) (x : Connection) (l : Looks) → Spared y (entered s x l) → Spared y l
spared-entered y s x l spared =
    (elim (is_some (conn_at l x)) as (λ b. Spared y (cond b l (with_conn s s.kind x l)) → Spared y l) [
      | true ↦ λ spared. spared
      | false ↦ λ spared. spared-with_conn y s s.kind x l spared
    ]) spared

-- ---- what is entered is there

abbrev Within : List ConnLooks → Option ConnLooks → Type 0
Within rs None = Unit {0}
Within rs (Some r) = list_any (λ q. same_connection q.connection r.connection) rs ≡ true

within-more : (q : ConnLooks) (rs : List ConnLooks) (o : Option ConnLooks) → Within rs o → Within (q ∷ rs) o
within-more q rs None within = tt
within-more q rs (Some r) within = rw within (or_true (same_connection q.connection r.connection))

within-older : (q r : ConnLooks) (rs : List ConnLooks) (o : Option ConnLooks) → q ≡ r → Within rs o
    → Within (q ∷ rs) (Some (lesser_by (λ q. q.last_use) r o))
within-older q r rs None is within = rw (is, connection_itself r.connection) refl
within-older q r rs (Some p) is within =
    (elim (nat_le r.last_use p.last_use) as (λ b. Within (q ∷ rs) (Some (cond b r p))) [
      | true ↦ rw (is, connection_itself r.connection) refl
      | false ↦ rw within (or_true (same_connection q.connection p.connection))
    ])

within-oldest : (p : ConnLooks → Bool) (rs : List ConnLooks) → Within rs (least_by (λ q. q.last_use) (filter p rs))
within-oldest p [] = tt
within-oldest p (r ∷ rs) =
    let rest = within-oldest p rs in
    (elim (p r) as (λ b. Within (r ∷ rs) (least_by (λ q. q.last_use) (cond b (r ∷ filter p rs) (filter p rs)))) [
      | true ↦ within-older r r rs (least_by (λ q. q.last_use) (filter p rs)) refl rest
      | false ↦ within-more r rs (least_by (λ q. q.last_use) (filter p rs)) rest
    ])

there-instead : (x : Connection) (new old : ConnLooks) (rs : List ConnLooks) → new.connection ≡ x
    → list_any (λ q. same_connection q.connection old.connection) rs ≡ true
    → is_some (find (λ r. same_connection r.connection x) (map (given_way new old) rs)) ≡ true
there-instead x new old [] named within = absurd cc
there-instead x new old (r ∷ rs) named within =
    let own : same_connection new.connection x ≡ true = rw (named, connection_itself x) refl in
    (elim (same_connection r.connection old.connection) as (λ b.
    (b || list_any (λ q. same_connection q.connection old.connection) rs) ≡ true
    → is_some (cond (same_connection (cond b new r).connection x) (Some (cond b new r))
    (find (λ r. same_connection r.connection x) (map (given_way new old) rs))) ≡ true) [
      | true ↦ λ t. rw own refl
      | false ↦ λ t. (elim (same_connection r.connection x) as
          (λ b. is_some (cond b (Some r) (find (λ r. same_connection r.connection x) (map (given_way new old) rs)))
          ≡ true) [
            | true ↦ refl
            | false ↦ there-instead x new old rs named t
          ])
    ]) within

there-placed : (x : Connection) (new : ConnLooks) (o : Option ConnLooks) (l : Looks) → new.connection ≡ x → conn_at l x
    ≡ None
    → Within l.conns o → is_some (conn_at (placed new o l) x) ≡ true
there-placed x new None l named unknown within =
    rw (find-last (λ q. same_connection q.connection x) l.conns new unknown, named, connection_itself x) refl
there-placed x new (Some old) l named unknown within = there-instead x new old l.conns named within

within-if : (b : Bool) (rs : List ConnLooks) (o : Option ConnLooks) → Within rs o → Within rs (if b then o else None)
within-if true rs o within = within
within-if false rs o within = tt

there-with_conn : (s : Setup) (kind : Kind) (x : Connection) (l : Looks) → IsServer kind → conn_at l x ≡ None
    → is_some (conn_at (with_conn s kind x l) x) ≡ true
there-with_conn s (Client host epoch) x l server unknown = absurd server
there-with_conn s (Server service nonces) x l server unknown =
    there-placed x (fresh_conn x x.host service 1 l) (if is_full s l then idle_conn l else None) l refl unknown
    (within-if (is_full s l) l.conns (idle_conn l) (within-oldest (is_idle l) l.conns))

pub there-entered : (s : Setup) (x : Connection) (l : Looks) → IsServer s.kind → is_some (conn_at (entered s x l) x)
    ≡ true
there-entered s x l server =
    (elim (is_some (conn_at l x)) as (λ b. is_some (conn_at l x) ≡ b
    → is_some (conn_at (cond b l (with_conn s s.kind x l)) x) ≡ true) [
      | true ↦ λ known. known
      | false ↦ λ unknown. there-with_conn s s.kind x l server (is_none (conn_at l x) unknown)
    ]) refl
