use Rattle.std.proofs.Common.{◌∙◌}
use Rattle.rx_node.specs.Due.{lesser_of}
use Rattle.rx_books.proofs.LeastOf.{ranks_first, silences_first}
use Rattle.rx_books.proofs.node.Node.least_moment.Goals as goal

pub returns-clause-value : goal.returns-clause-value
returns-clause-value g c =
    let class = g.C.Class.class_of in
    let n = c.self.inside.core in
    let b = c.self.inside.books in
    let client = c.kind-kind.ensures.ends in
    rw (← c.self.view_is)
    (λ l m. c.earlier.ensures
    ∙ (λ i. lesser_of (λ moment. moment)
    ((c.moment_of-rank.ensures
    ∙ ranks_first class n b c.self.invariant client l m c.first_due.result c.first_due.ensures.empty.0
    c.first_due.ensures.least) i)
    ((c.moment_of-death.ensures
    ∙ silences_first class n b c.self.invariant client l m c.first_death.result c.first_death.ensures.empty.0
    c.first_death.ensures.least) i)))
