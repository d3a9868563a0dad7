use Rattle.std.proofs.Common.{◌<◌, ℕ, List, Option, None, length, set, arith, ap, ◌∙◌}
use Rattle.rx_due.proofs.Seen.{book_clear, length_moments}
use Rattle.rx_due.proofs.book.DueBook.clear.Goals as goal

pub invariant_of-self : goal.invariant_of-self
invariant_of-self g c =
    let h = c.self.inside.heap in
    let key_in : c.args.key < length h.places = omega (arith, c.requires, ap length c.self.view_is, length_moments h) in
    let now = c.clear.ensures in
    (book_clear h c.clear.new.self c.args.key c.self.invariant key_in now.heap now.moment now.keeps).1

pub returns-clause-updates : goal.returns-clause-updates
returns-clause-updates g c =
    let h = c.self.inside.heap in
    let key_in : c.args.key < length h.places = omega (arith, c.requires, ap length c.self.view_is, length_moments h) in
    let now = c.clear.ensures in
    (book_clear h c.clear.new.self c.args.key c.self.invariant key_in now.heap now.moment now.keeps).0
    ∙ ap (λ (book : List (Option ℕ)). set book c.args.key None) c.self.view_is
