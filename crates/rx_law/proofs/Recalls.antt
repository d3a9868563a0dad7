-- What a server still knows of a call: while its channel's number isn't below the call's own, or its connection was
-- idle for long since the call's last use.
use Rattle.std.proofs.Common.{◌≡◌, ◌⊎◌, ◌<◌, ◌≤◌, ◌+◌, ◌-◌, ◌^◌, ℕ, not, nat_le, is_some}
use Rattle.std.proofs.Common.{true, List, [], ◌∷◌, filter, Option, Some, None, refl, inl, inr, arith}
use Rattle.std.proofs.lemmas.Bool.Decides.{nat_tests}
use Rattle.rx_model.specs.declared.names.CallName.{CallName}
use Rattle.rx_model.specs.declared.wire.TheConstants.{IDLE_MS}
use Rattle.rx_rules.specs.Looks.{CallRecord, ConnLooks, Looks, call_at, conn_at}
use Rattle.rx_model.specs.Names.{Connection, connection_of, same_connection}
use Rattle.rx_rules.specs.Records.{has_live, idle_conn, is_idle}
use Rattle.rx_rules.proofs.ConnsLaws.{number_of}
use Rattle.rx_rules.proofs.EveryLaws.{Every, every-filter, filter-passes}
use Rattle.rx_rules.proofs.KeepsLaws.{Fours, Keeps, Lives}
use Rattle.rx_rules.proofs.LeastLaws.{least-keeps}
use Rattle.rx_model.proofs.NameLaws.{both}
use Rattle.rx_law.proofs.Firm.{Firm, Young, busy_of}

-- what a server knows of a call that was last used at this moment
pub record Recalls (l : Looks) (c : CallName) (u : ℕ) : Type 0 where
  pub before : u ≤ l.now
  pub fours : Fours (conn_at l (connection_of c))
  pub young : Young (connection_of c) u l.conns
  pub held : is_some (call_at l c) ≡ true → (c.number ≤ number_of (conn_at l (connection_of c)) c.chan) ⊎
      (u + IDLE_MS ≤ l.now)
  pub busy : (n : ℕ) → busy_of (conn_at l (connection_of c)) c.chan ≡ Some n → (n < 2 ^ 32)
      × (n ≡ c.number → call_at l c ≡ None)

-- no call comes by such a change
pub lives-some : (a b : Option CallRecord) → Lives a b → is_some b ≡ true → is_some a ≡ true
lives-some None None lives is = is
lives-some None (Some b) lives is = absurd lives
lives-some (Some a) b lives is = refl

-- none goes
pub lives-none : (a b : Option CallRecord) → Lives a b → a ≡ None → b ≡ None
lives-none None None lives is = refl
lives-none None (Some b) lives is = absurd lives
lives-none (Some a) b lives is = absurd cc

-- a change that starts no call leaves that
pub recalls-keeps : (c : CallName) (l m : Looks) (u : ℕ) → Keeps c l m → Firm c l m → Recalls l c u → Recalls m c u
recalls-keeps c l m u keeps firm old =
    let same : m.now ≡ l.now = firm.now in
    let low = old.before in
    let rises = keeps.numbers in
    record {
      before = omega arith;
      fours = keeps.fours old.fours;
      young = firm.young u old.before old.young;
      held = λ is. (
          elim (old.held (lives-some (call_at l c) (call_at m c) keeps.calls is))
          as (λ t. (c.number ≤ number_of (conn_at m (connection_of c)) c.chan) ⊎ (u + IDLE_MS ≤ m.now)) [
            | inl there ↦ inl (omega arith)
            | inr idle ↦ inr (omega arith)
          ]);
      busy = λ n is. (let b = old.busy n (firm.busy n is) in
          (b.0, λ at. lives-none (call_at l c) (call_at m c) keeps.calls (b.1 at)));
    }

-- nor does a clock event change it
pub recalls-clock : (c : CallName) (l : Looks) (now u : ℕ) → l.now ≤ now → Recalls l c u
    → Recalls (record l { now = now }) c u
recalls-clock c l now u later old =
    let low = old.before in
    record {
      before = omega arith;
      fours = old.fours;
      young = old.young;
      held = λ is. (
          elim (old.held is) as (λ t. (c.number ≤ number_of (conn_at l (connection_of c)) c.chan) ⊎
          (u + IDLE_MS ≤ now)) [
            | inl there ↦ inl there
            | inr idle ↦ inr (omega arith)
          ]);
      busy = old.busy;
    }

-- ---- what is forgotten

every-both : {X : Type 0} (P Q : X → Type 0) (xs : List X) → Every P xs → Every Q xs → Every (λ x. P x × Q x) xs
every-both P Q [] p q = tt
every-both P Q (x ∷ xs) p q = ((p.0, q.0), every-both P Q xs p.1 q.1)

idle-long : (now last u : ℕ) → u ≤ last → nat_le IDLE_MS (now - last) ≡ true → u + IDLE_MS ≤ now
idle-long now last u low is = grind (arith, nat_tests)

-- the connection that is forgotten was idle for long
pub idle-old : (l : Looks) (y : Connection) (u : ℕ) (old : ConnLooks) → Young y u l.conns → idle_conn l ≡ Some old
    → same_connection old.connection y ≡ true → u + IDLE_MS ≤ l.now
idle-old l y u old young is same =
    let found = least-keeps (λ r. (same_connection r.connection y ≡ true → u ≤ r.last_use) × (is_idle l r ≡ true))
    (λ r. r.last_use)
    (filter (is_idle l) l.conns)
    (every-both (λ r. same_connection r.connection y ≡ true → u ≤ r.last_use) (λ r. is_idle l r ≡ true)
    (filter (is_idle l) l.conns)
    (every-filter (λ r. same_connection r.connection y ≡ true → u ≤ r.last_use) (is_idle l) l.conns young)
    (filter-passes (is_idle l) l.conns))
    old is in
    idle-long l.now old.last_use u (found.0 same) (both (not (has_live l old.connection))
    (nat_le IDLE_MS (l.now - old.last_use)) found.1).1
