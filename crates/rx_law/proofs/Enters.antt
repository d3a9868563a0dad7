-- A connection that a server enters: what it knows of a call stays, whichever record is forgotten for it.
use Rattle.std.proofs.Common.{◌≡◌, ◌≤◌, ◌+◌, ℕ, zero, suc, cond, if◌then◌else◌, is_some}
use Rattle.std.proofs.Common.{Bool, true, false, List, [], ◌∷◌, ◌++◌, map, Option, Some, None, refl, ◌∙◌, ap, sym}
use Rattle.std.proofs.Common.{subst, inl, inr, arith}
use Rattle.std.specs.List.{find}
use Rattle.rx_model.specs.declared.answers.Took.{Took}
use Rattle.rx_model.specs.declared.names.CallName.{CallName}
use Rattle.rx_model.specs.declared.wire.TheConstants.{IDLE_MS}
use Rattle.rx_rules.specs.After.{enters, prepared}
use Rattle.rx_rules.specs.Looks.{ChannelLooks, ConnLooks, Looks, conn_at}
use Rattle.rx_model.specs.Names.{Connection, connection_of, same_connection}
use Rattle.rx_rules.specs.Records.{entered, fresh_conn, idle_conn, is_full, placed, used, with_conn}
use Rattle.rx_rules.specs.Setup.{Setup, Kind, Server, Client}
use Rattle.rx_rules.proofs.ConnsLaws.{number_of}
use Rattle.rx_rules.proofs.EnterLaws.{fresh_channels, keeps-used}
use Rattle.rx_model.proofs.NameLaws.{connection_is, connection_itself}
use Rattle.rx_law.proofs.Firm.{Firm, Young, busy_in, busy_of, firm-used, young-now}
use Rattle.rx_history.proofs.Moments.{now-placed}
use Rattle.rx_history.proofs.Places.{Apart, OnlyNew, find-only, found-placed, is_none, keeps-placed}
use Rattle.rx_history.proofs.Places.{only-fours}
use Rattle.rx_law.proofs.Recalls.{Recalls, idle-old, recalls-keeps}
use Rattle.rx_history.proofs.Laws.ShownLaws.{given_way}

-- ---- what is entered

fresh-busy : (x : Connection) (n : ℕ) → busy_in (fresh_channels x) n ≡ None
fresh-busy x zero = refl
fresh-busy x (suc zero) = refl
fresh-busy x (suc (suc zero)) = refl
fresh-busy x (suc (suc (suc zero))) = refl
fresh-busy x (suc (suc (suc (suc n)))) = refl

new-busy : (x : Connection) (new : ConnLooks) (o : Option ConnLooks) (n : ℕ) → new.channels ≡ fresh_channels x
    → OnlyNew new o → busy_of o n ≡ None
new-busy x new None n fresh only = refl
new-busy x new (Some r) n fresh only =
    ap (λ (q : ConnLooks). busy_in q.channels n) only ∙ ap (λ (qs : List ChannelLooks). busy_in qs n) fresh
    ∙ fresh-busy x n

young-last : (y : Connection) (u : ℕ) (new : ConnLooks) (rs : List ConnLooks) → u ≤ new.last_use → Young y u rs
    → Young y u (rs ++ new ∷ [])
young-last y u new [] low young = ((λ same. low), tt)
young-last y u new (r ∷ rs) low young = (young.0, young-last y u new rs low young.1)

young-instead : (y : Connection) (u : ℕ) (new old : ConnLooks) (rs : List ConnLooks) → u ≤ new.last_use → Young y u rs
    → Young y u (map (given_way new old) rs)
young-instead y u new old [] low young = tt
young-instead y u new old (r ∷ rs) low young =
    (one (same_connection r.connection old.connection), young-instead y u new old rs low young.1)
  where
    one : (b : Bool) → same_connection (cond b new r).connection y ≡ true → u ≤ (cond b new r).last_use
    one true same = low
    one false same = young.0 same

young-placed : (y : Connection) (u : ℕ) (new : ConnLooks) (o : Option ConnLooks) (l : Looks) → u ≤ new.last_use
    → Young y u l.conns
    → Young y u (placed new o l).conns
young-placed y u new None l low young = young-last y u new l.conns low young
young-placed y u new (Some old) l low young = young-instead y u new old l.conns low young

-- the records of the connection that goes are gone
find-gone : (y : Connection) (new old : ConnLooks) (rs : List ConnLooks) → same_connection new.connection y ≡ false
    → ((r : ConnLooks) → same_connection r.connection y ≡ true → same_connection r.connection old.connection ≡ true)
    → find (λ r. same_connection r.connection y) (map (given_way new old) rs) ≡ None
find-gone y new old [] other gone = refl
find-gone y new old (r ∷ rs) other gone =
    let rest = find-gone y new old rs other gone in
    (elim (same_connection r.connection old.connection) as (λ b. same_connection r.connection old.connection ≡ b
    → cond (same_connection (cond b new r).connection y) (Some (cond b new r))
    (find (λ q. same_connection q.connection y) (map (given_way new old) rs)) ≡ None) [
      | true ↦ λ same. rw other rest
      | false ↦ λ apart.
          (elim (same_connection r.connection y) as (λ b. same_connection r.connection y ≡ b
          → cond b (Some r) (find (λ q. same_connection q.connection y) (map (given_way new old) rs)) ≡ None) [
            | true ↦ λ own. absurd (let is = gone r own in cc (is, apart))
            | false ↦ λ far. rest
          ]) refl
    ]) refl

-- ---- entering

firm-placed : (c : CallName) (x : Connection) (new : ConnLooks) (o : Option ConnLooks) (l : Looks) → new.connection ≡ x
    → (is_some o ≡ true → conn_at l x ≡ None) → new.channels ≡ fresh_channels x → new.last_use ≡ l.now
    → Apart (connection_of c) o
    → Firm c l (placed new o l)
firm-placed c x new o l named unknown fresh now apart =
    record {
      now = now-placed new o l;
      young = λ u low young. young-placed (connection_of c) u new o l (omega arith) young;
      busy = λ n is. (
          elim (found-placed x (connection_of c) new o l named unknown apart (conn_at l (connection_of c)) refl)
          as (λ t. busy_of (conn_at l (connection_of c)) c.chan ≡ Some n) [
            | inl same ↦ subst (λ (p : Option ConnLooks). busy_of p c.chan ≡ Some n) same is
            | inr came ↦ absurd (let none = new-busy x new (conn_at (placed new o l)
                (connection_of c)) c.chan fresh came.1 in cc (none, is))
          ]);
    }

module _ (c : CallName) (x : Connection) (new old : ConnLooks) (l : Looks) (u : ℕ) where
  -- its own connection goes
  recalls-forgotten : new.connection ≡ x → conn_at l x ≡ None → new.channels ≡ fresh_channels x → new.last_use ≡ l.now
      → same_connection old.connection (connection_of c) ≡ true → u + IDLE_MS ≤ l.now → Recalls l c u
      → Recalls (placed new (Some old) l) c u
  recalls-forgotten named unknown fresh now same idle before =
      let low = before.before in
      record {
        before = before.before;
        fours = only-fours x new (conn_at (placed new (Some old) l) y) fresh only;
        young = young-placed y u new (Some old) l (omega arith) before.young;
        held = λ is. inr idle;
        busy = λ n is. absurd (let none = new-busy x new (conn_at (placed new (Some old) l) y) c.chan fresh only in cc
            (none, is));
      }
    where
      y : Connection
      y = connection_of c

      own : (r : ConnLooks) → same_connection r.connection y ≡ true → same_connection r.connection old.connection ≡ true
      own r is =
          subst (λ (z : Connection). same_connection z old.connection ≡ true) (sym (connection_is r.connection y is))
          (subst (λ (z : Connection). same_connection z old.connection ≡ true) (connection_is old.connection y same)
          (connection_itself old.connection))

      only : OnlyNew new (conn_at (placed new (Some old) l) y)
      only =
          (elim (same_connection new.connection y) as (λ b. same_connection new.connection y ≡ b
          → OnlyNew new (conn_at (placed new (Some old) l) y)) [
            | true ↦ λ is.
                find-only (λ r. same_connection r.connection y) new old l.conns
                (subst (λ (z : Connection). conn_at l z ≡ None) (sym named ∙ connection_is new.connection y is) unknown)
            | false ↦ λ other. subst (OnlyNew new) (sym (find-gone y new old l.conns other own)) tt
          ]) refl

recalls-placed : (c : CallName) (x : Connection) (new : ConnLooks) (o : Option ConnLooks) (l : Looks) (u : ℕ)
    → new.connection ≡ x
    → conn_at l x ≡ None → new.channels ≡ fresh_channels x → new.last_use ≡ l.now
    → ((old : ConnLooks) → o ≡ Some old → same_connection old.connection (connection_of c) ≡ true → u + IDLE_MS ≤ l.now)
    → Recalls l c u → Recalls (placed new o l) c u
recalls-placed c x new None l u named unknown fresh now idle before =
    recalls-keeps c l (placed new None l) u (keeps-placed c x new None l named (λ is. unknown) fresh tt)
    (firm-placed c x new None l named (λ is. unknown) fresh now tt) before
recalls-placed c x new (Some old) l u named unknown fresh now idle before =
    (elim (same_connection old.connection (connection_of c)) as
    (λ b. same_connection old.connection (connection_of c) ≡ b → Recalls (placed new (Some old) l) c u) [
      | true ↦ λ same. recalls-forgotten c x new old l u named unknown fresh now same (idle old refl same) before
      | false ↦ λ apart.
          recalls-keeps c l (placed new (Some old) l) u (keeps-placed c x new (Some old) l named
          (λ is. unknown) fresh apart)
          (firm-placed c x new (Some old) l named (λ is. unknown) fresh now apart) before
    ]) refl

recalls-with_conn : (c : CallName) (s : Setup) (kind : Kind) (x : Connection) (l : Looks) (u : ℕ) → conn_at l x ≡ None
    → Recalls l c u
    → Recalls (with_conn s kind x l) c u
recalls-with_conn c s (Client host epoch) x l u unknown before = before
recalls-with_conn c s (Server service nonces) x l u unknown before =
    recalls-placed c x (fresh_conn x x.host service 1 l)
    (if is_full s l then idle_conn l else None) l u refl unknown refl refl
    (λ old is. of (is_full s l) old is) before
  where
    of : (b : Bool) (old : ConnLooks) → (if b then idle_conn l else None) ≡ Some old
        → same_connection old.connection (connection_of c) ≡ true
        → u + IDLE_MS ≤ l.now
    of true old is same = idle-old l (connection_of c) u old before.young is same
    of false old is same = absurd cc

recalls-entered : (c : CallName) (s : Setup) (x : Connection) (l : Looks) (u : ℕ) → Recalls l c u
    → Recalls (entered s x l) c u
recalls-entered c s x l u before =
    (elim (is_some (conn_at l x)) as (λ b. is_some (conn_at l x) ≡ b
    → Recalls (if b then l else with_conn s s.kind x l) c u) [
      | true ↦ λ known. before
      | false ↦ λ unknown. recalls-with_conn c s s.kind x l u (is_none (conn_at l x) unknown) before
    ]) refl

-- where a message is judged the server knows of a call what it knew
pub recalls-prepared : (c : CallName) (s : Setup) (got : Took) (x : Connection) (l : Looks) (u : ℕ) → Recalls l c u
    → Recalls (prepared s got x l) c u
recalls-prepared c s got x l u before =
    let ready : Looks = if enters got then entered s x l else l in
    recalls-keeps c ready (used x ready) u (keeps-used c x ready) (firm-used c x ready) (of (enters got))
  where
    of : (b : Bool) → Recalls (if b then entered s x l else l) c u
    of true = recalls-entered c s x l u before
    of false = before

-- each record of its connection is used then
pub young-prepared : (s : Setup) (got : Took) (x : Connection) (l : Looks)
    → Young x (prepared s got x l).now (prepared s got x l).conns
young-prepared s got x l =
    let ready : Looks = if enters got then entered s x l else l in
    young-now x (λ r. record r { last_use = ready.now }) ready.conns ready.now (λ r. refl) (λ r. refl)

-- its channel's number doesn't fall by it
pub above-prepared : (s : Setup) (got : Took) (x : Connection) (l : Looks) (n : ℕ)
    → number_of (conn_at l x) n ≤ number_of (conn_at (prepared s got x l) x) n
above-prepared s got x l n = of (conn_at l x) refl
  where
    c : CallName
    c = record { host = x.host; epoch = x.epoch; cid = x.cid; chan = n; number = 0 }

    known : is_some (conn_at l x) ≡ true → (b : Bool) → (if b then entered s x l else l) ≡ l
    known is true = rw is refl
    known is false = refl

    of : (o : Option ConnLooks) → conn_at l x ≡ o → number_of o n ≤ number_of (conn_at (prepared s got x l) x) n
    of None is = omega arith
    of (Some r) is =
        let same = known (rw is refl) (enters got) in
        let rises = (keeps-used c x l).numbers in
        let own : number_of (conn_at l x) n ≤ number_of (conn_at (prepared s got x l) x) n =
        subst (λ (m : Looks). number_of (conn_at l x) n ≤ number_of (conn_at (used x m) x) n) (sym same) rises in
        subst (λ (o : Option ConnLooks). number_of o n ≤ number_of (conn_at (prepared s got x l) x) n) is own
