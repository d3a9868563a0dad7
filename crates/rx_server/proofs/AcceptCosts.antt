-- What it costs to find the call that is given to a handler next.
use Rattle.std.proofs.Common.{◌≡◌, ◌≤◌, ◌<◌, ◌+◌, ◌-◌, ◌*◌, ◌^◌, ◌==◌, ◌||◌, ℕ, Bool, true, false, List, [], ◌∷◌}
use Rattle.std.proofs.Common.{Option, Some, None, is_some, length, refl, ap, sym, subst, arith}
use Rattle.std.specs.List.{list_any}
use Rattle.std.specs.Prelude.{slice_set}
use Rattle.rx_model.proofs.NameLaws.{same_number}
use Rattle.rx_rules.proofs.EveryLaws.{Every}
use Rattle.rx_due.specs.Book.{entries_of, moment_of}
use Rattle.rx_due.specs.Cost.{AtMost, AtMostForEntries}
use Rattle.rx_queue.specs.Queue.{QueueState, is_listed, is_ready}
use Rattle.rx_queue.proofs.Renumbering.{entries_less}
use Rattle.rx_node.specs.Mirrors.{IsKey}
use Rattle.rx_node.specs.Node.{NodeState}
use Rattle.rx_table.proofs.Noted.{few_entries}
use Rattle.rx_server.specs.Accepting.{AtMostForAccept, Paid, ready_count}
use Rattle.rx_server.specs.Server.{ServerState}

-- ---- how many are ready

-- what holds of each of a list holds of a number in it
pub own_key : (P : ℕ → Type 0) (keys : List ℕ) (k : ℕ) → Every P keys → list_any (λ j. j == k) keys ≡ true → P k
own_key P [] k all is = absurd (cc (is))
own_key P (j ∷ keys) k all is = of (j == k) refl is (λ rest. own_key P keys k all.1 rest)
  where
    of : (b : Bool) → (j == k) ≡ b → (b || list_any (λ i. i == k) keys) ≡ true
        → (list_any (λ i. i == k) keys ≡ true → P k) → P k
    of true same is rest = subst P (same_number j k same) all.0
    of false other is rest = rest is

-- no more than there are channels
pub few_ready : (n : NodeState) (q : QueueState) → ((k : ℕ) → is_ready q k ≡ true → is_listed q k ≡ true)
    → Every (IsKey n) q.order → entries_of q.ready ≤ 4 * length n.table.conns
few_ready n q came there =
    few_entries q.ready (4 * length n.table.conns) (λ k high. of k high (moment_of q.ready k) refl)
  where
    of : (k : ℕ) → 4 * length n.table.conns ≤ k → (o : Option ℕ) → moment_of q.ready k ≡ o → moment_of q.ready k ≡ None
    of k high None is = is
    of k high (Some m) is =
        absurd (let its : IsKey n k =
        own_key (IsKey n) q.order k there (came k (ap (λ (o : Option ℕ). is_some o) is)) in
        omega (arith, its, high))

-- one that is ready is one of them
pub ready_fewer : (book : List (Option ℕ)) (k : ℕ) → is_some (moment_of book k) ≡ true
    → entries_of (slice_set book k None) + 1 ≡ entries_of book
ready_fewer book k is = of (moment_of book k) refl is
  where
    of : (o : Option ℕ) → moment_of book k ≡ o → is_some o ≡ true
        → entries_of (slice_set book k None) + 1 ≡ entries_of book
    of None at is = absurd (cc (is))
    of (Some m) at is = entries_less book k m at

-- ---- what is paid

-- nothing yet
pub paid_none : (book : List (Option ℕ)) (before : ℕ) → Paid 0 book book before before
paid_none book before =
    record {
      held = 0;
      fewer = omega arith;
      paid = λ d power. record { grows = omega arith; most = omega arith };
    }

-- a look
pub paid_look : (was is : List (Option ℕ)) (before mid after : ℕ) → Paid 0 was is before mid → AtMost 1 mid after
    → Paid 1 was is before after
paid_look was is before mid after p look =
    record {
      held = p.held;
      fewer = p.fewer;
      paid = λ d power. (
          let paid = p.paid d power in
          record { grows = omega (arith, paid.grows, look.grows); most = omega (arith, paid.most, look.most) });
    }

-- one is held
pub paid_held : (was is : List (Option ℕ)) (k before mid after : ℕ) → Paid 1 was is before mid
    → is_some (moment_of is k) ≡ true → AtMostForEntries (entries_of is) mid after
    → Paid 0 was (slice_set is k None) before after
paid_held was is k before mid after p ready cost =
    (let fewer = ready_fewer is k ready in
    record {
      held = p.held + 1;
      fewer = (let were = p.fewer in omega (arith, fewer, were));
      paid = λ d power. (
          let paid = p.paid d power in
          let were = p.fewer in
          let one = cost d (omega (arith, were, power)) in
          record { grows = omega (arith, paid.grows, one.grows); most = omega (arith, paid.most, one.most) });
    })

module _ (old new : ServerState) (few : ready_count old ≤ 4 * length old.node.table.conns) where
  -- where none is found
  pub none_cost : (before after : ℕ) → Paid 1 old.firsts.ready new.firsts.ready before after
      → AtMostForAccept old new before after
  none_cost before after p =
      λ d power. (
      let paid = p.paid d (omega (arith, few, power)) in
      let held : ready_count old - ready_count new ≡ p.held = (let were = p.fewer in omega (arith, were)) in
      subst (λ (n : ℕ). AtMost ((n + 1) * (32 * d + 32)) before after) (sym held)
      (record { grows = paid.grows; most = omega (arith, paid.most) }))

  -- where one is found and given to a handler
  pub found_cost : (mid : List (Option ℕ)) (key before look given after : ℕ)
      → Paid 1 old.firsts.ready mid before look → is_some (moment_of mid key) ≡ true
      → new.firsts.ready ≡ slice_set mid key None
      → ((d : ℕ) → 2 * (4 * length old.node.table.conns) + 1 < 2 ^ (d + 1) → AtMost (16 * d + 18) look given)
      → AtMostForEntries (entries_of mid) given after → AtMostForAccept old new before after
  found_cost mid key before look given after p ready cleared gives clears =
      λ d power. (
      let paid = p.paid d (omega (arith, few, power)) in
      let were = p.fewer in
      let gave = gives d power in
      let cleared_it = clears d (omega (arith, were, few, power)) in
      let fewer = ready_fewer mid key ready in
      let same : ready_count new ≡ entries_of (slice_set mid key None) = ap entries_of cleared in
      let held : ready_count old - ready_count new ≡ p.held + 1 = omega (arith, were, fewer, same) in
      subst (λ (n : ℕ). AtMost ((n + 1) * (32 * d + 32)) before after) (sym held)
      (record {
        grows = omega (arith, paid.grows, gave.grows, cleared_it.grows);
        most = omega (arith, paid.most, gave.most, cleared_it.most);
      }))
