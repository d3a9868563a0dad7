use Rattle.std.proofs.Common.{◌≡◌, ◌+◌, ◌<◌, ◌++◌, ◌∷◌, ◌∙◌, [], ℕ, List, Option, Some, None, ap, sym, subst, length}
use Rattle.std.proofs.Common.{arith, drop, is_some}
use Rattle.std.specs.Prelude.{slice_set, take}
use Rattle.rx_due.specs.Book.{moment_of}
use Rattle.rx_queue.specs.Counts.{IsQueue, order_of}
use Rattle.rx_queue.specs.Queue.{QueueState, is_listed}
use Rattle.rx_queue.proofs.Renumbering.{none_same, none_unlisted, order_came, queue_push, take_front}
use Rattle.rx_queue.proofs.queue.Queue.push.Goals as goal

-- its numbers before it comes
numbers : (c : goal.After-self-3-1) → List (Option ℕ)
numbers c = take c.self.inside.counts.len
    (c.next_number-number.new.counts ++ drop (length c.next_number-number.new.counts) c.self.inside.counts.items)

lent : (c : goal.After-self-3-1) → numbers c ≡ c.next_number-number.new.counts
unfolding numbers
lent c = take_front c.next_number-number.new.counts _ c.self.inside.counts.len
    (omega (arith, c.next_number-number.auto.counts, c.deref_mut.ensures.len))

low : (c : goal.After-self-3-1) → c.args.key < length c.next_number-number.new.counts
low c =
    (let room = ap (λ (s : QueueState). length s.ready) c.self.view_is in
    let now = c.next_number-number.ensures.queue.room in
    let same = c.next_number-number.ensures.room in
    omega (arith, c.requires.key, room, now, same))

fresh : (c : goal.After-self-3-1) → moment_of c.next_number-number.new.counts c.args.key ≡ None
fresh c =
    (let q = c.self.invariant in
    let unlisted = ap (λ (s : QueueState). is_listed s c.args.key) c.self.view_is ∙ c.requires.fresh in
    none_same (moment_of c.next_number-number.new.counts c.args.key) (moment_of c.self.inside.counts.items c.args.key)
    (c.next_number-number.ensures.same c.args.key
    ∙ ap (λ (cs : List (Option ℕ)). is_some (moment_of cs c.args.key)) c.deref_mut.ensures.value)
    (none_unlisted c.self.inside.counts.items c.args.key c.self.inside.next q.apart q.below unlisted))

pub invariant_of-self : goal.invariant_of-self
unfolding numbers
invariant_of-self c =
    subst (λ (cs : List (Option ℕ)). IsQueue (slice_set cs c.args.key (Some c.next_number-number.result))
    c.next_number-number.new.ready (c.next_number-number.result + 1)) (sym (lent c))
    (queue_push c.next_number-number.new.counts c.next_number-number.new.ready c.args.key c.next_number-number.result
    c.next_number-number.ensures.queue (low c) (fresh c))

pub returns-clause-order : goal.returns-clause-order
unfolding numbers
returns-clause-order c =
    ap (λ (cs : List (Option ℕ)). order_of (slice_set cs c.args.key (Some c.next_number-number.result))
    (c.next_number-number.result + 1)) (lent c)
    ∙ order_came c.next_number-number.new.counts c.next_number-number.new.ready c.args.key c.next_number-number.result
    c.next_number-number.ensures.queue (low c) (fresh c)
    ∙ ap (λ (ks : List ℕ). ks ++ c.args.key ∷ [])
    (c.next_number-number.ensures.order
    ∙ ap (λ (cs : List (Option ℕ)). order_of cs c.self.inside.next) c.deref_mut.ensures.value
    ∙ ap (λ (s : QueueState). s.order) c.self.view_is)
