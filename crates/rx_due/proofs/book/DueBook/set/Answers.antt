use Rattle.std.proofs.Common.{◌<◌, ℕ, List, Option, Some, length, set, arith, ap, sym, subst, ◌∙◌}
use Rattle.rx_due.specs.Cost.{AtMostForEntries}
use Rattle.rx_due.proofs.Seen.{book_set, book_room, length_moments}
use Rattle.rx_due.proofs.book.DueBook.set.Goals as goal

pub set-requires-clause-room : goal.set-requires-clause-room
set-requires-clause-room g c none =
    let h = c.self.inside.heap in
    let key_in : c.args.key < length h.places = omega (arith, c.requires, ap length c.self.view_is, length_moments h) in
    book_room h c.args.key c.self.invariant key_in none

pub invariant_of-self : goal.invariant_of-self
invariant_of-self g c =
    let h = c.self.inside.heap in
    let key_in : c.args.key < length h.places = omega (arith, c.requires, ap length c.self.view_is, length_moments h) in
    let now = c.set.ensures in
    (book_set h c.set.new.self c.args.key c.args.moment c.self.invariant key_in now.heap now.moment now.keeps).1

pub returns-clause-updates : goal.returns-clause-updates
returns-clause-updates g c =
    let h = c.self.inside.heap in
    let key_in : c.args.key < length h.places = omega (arith, c.requires, ap length c.self.view_is, length_moments h) in
    let now = c.set.ensures in
    (book_set h c.set.new.self c.args.key c.args.moment c.self.invariant key_in now.heap now.moment now.keeps).0
    ∙ ap (λ (book : List (Option ℕ)). set book c.args.key (Some c.args.moment)) c.self.view_is

pub returns-clause-steps : goal.returns-clause-steps
returns-clause-steps g c =
    subst (λ n. AtMostForEntries n c.args.steps.now c.set.new.steps) (sym (invariant_of-self g c).counted)
    c.set.ensures.steps
