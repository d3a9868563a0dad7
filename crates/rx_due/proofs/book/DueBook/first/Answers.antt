use Rattle.std.proofs.Common.{◌≡◌, ℕ, List, Option, Some, None, sym, subst}
use Rattle.std.proofs.lemmas.Bool.{false≢true}
use Rattle.std.specs.Option.{IfSome, IsNone}
use Rattle.rx_due.specs.declared.heap.Heap.{Heap}
use Rattle.rx_due.specs.Book.{IsLeast}
use Rattle.rx_due.specs.Heap.{moments, entry_at, IsHeap}
use Rattle.rx_due.proofs.Seen.{first_least}
use Rattle.rx_due.proofs.book.DueBook.first.Goals as goal

-- an answer that is what stands first
least_if : (h : Heap) (book : List (Option ℕ)) → IsHeap h → moments h ≡ book → (result : Option (ℕ × ℕ))
    → (h.len ≡ 0 → IsNone result) → IfSome result (λ pair. pair ≡ entry_at h 0) → IfSome result (IsLeast book)
least_if h book so seen None none some = tt
least_if h book so seen (Some pair) none some =
    let least =
    subst (λ (b : List (Option ℕ)). IsLeast b (entry_at h 0)) seen
    (first_least h so (λ empty. false≢true (sym (none empty)))) in
    subst (λ (p : ℕ × ℕ). IsLeast book p) (sym some) least

pub returns-clause-least : goal.returns-clause-least
returns-clause-least g c =
    least_if c.self.inside.heap c.args.self.now c.self.invariant.heap c.self.view_is c.first.result
    c.first.ensures.none.1 c.first.ensures.some
