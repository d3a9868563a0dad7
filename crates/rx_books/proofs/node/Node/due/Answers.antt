use Rattle.std.proofs.Common.{◌≡◌, ◌∙◌, ℕ, Bool, true, false, not, max, Some, ap, refl, sym}
use Rattle.rx_books.proofs.DueMoment.{due_nothing, due_owing, due_something}
use Rattle.rx_books.proofs.node.Node.due.Goals as goal

some-owed : (b : Bool) → not b ≡ true → false ≡ b
some-owed true is = is
some-owed false is = refl

none-owed : (b : Bool) → not b ≡ false → true ≡ b
none-owed true is = refl
none-owed false is = is

pub returns-then-has_stray-clause-value : goal.returns-then-has_stray-clause-value
returns-then-has_stray-clause-value g c =
    λ l m. ap (λ (t : ℕ). Some t) c.moment.ensures
    ∙ due_owing g.C.Class.class_of c.self.inside.core c.args.self.now c.self.view_is l m
    (some-owed _ (sym c.has_stray.ensures ∙ c.if-has_stray.true))

pub returns-in_err-least-clause-value : goal.returns-in_err-least-clause-value
returns-in_err-least-clause-value g c =
    rw c.from_residual.ensures
    (λ l m. due_nothing g.C.Class.class_of c.self.inside.core c.args.self.now c.self.view_is l m
    (none-owed _ (sym c.has_stray.ensures ∙ c.if-has_stray.false)) (c.in_err-least.ensures.value l m))

pub returns-clause-value : goal.returns-clause-value
returns-clause-value g c =
    λ l m. due_something g.C.Class.class_of c.self.inside.core c.args.self.now c.self.view_is l m
    (none-owed _ (sym c.has_stray.ensures ∙ c.if-has_stray.false)) c.in_ok-least.least c.max.result
    (c.in_ok-least.ensures.value l m) (c.max.ensures ∙ ap (λ (t : ℕ). max c.in_ok-least.least t) c.moment-2.ensures)
