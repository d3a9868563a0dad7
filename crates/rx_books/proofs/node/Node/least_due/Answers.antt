use Rattle.std.proofs.Common.{Option, None, refl, sym, subst}
use Rattle.rx_rules.specs.Items.{Item}
use Rattle.rx_node.specs.Due.{AreDueAs}
use Rattle.rx_node.specs.Node.{setup_of}
use Rattle.rx_books.proofs.LeastOf.{due_first, due_none, rank_key}
use Rattle.rx_books.proofs.node.Node.least_due.Goals as goal

pub returns-in_err-_rank-clause-least : goal.returns-in_err-_rank-clause-least
returns-in_err-_rank-clause-least g c =
    rw (← c.self.view_is, c.from_residual.ensures)
    (λ l m. subst (λ (o : Option Item). AreDueAs (setup_of g.C.Class.class_of c.self.inside.core) l None o)
    (sym (due_none g.C.Class.class_of c.self.inside.core c.self.inside.books c.self.invariant c.kind-kind.ensures.ends
    l m (c.in_err-_rank.ensures.empty.0 refl))) tt)

pub returns-clause-least : goal.returns-clause-least
returns-clause-least g c =
    rw (← c.self.view_is)
    (λ l m. due_first g.C.Class.class_of c.self.inside.core c.self.inside.books c.self.invariant
    c.kind-kind.ensures.ends l m c.in_ok-_rank._rank c.in_ok-_rank.key c.in_ok-_rank.ensures.least c.due_on.result
    c.due_on.ensures.least)

pub due_on-requires : goal.due_on-requires
due_on-requires g c =
    rank_key c.self.inside.core c.self.inside.books c.self.invariant c.in_ok-_rank.key c.in_ok-_rank._rank
    c.in_ok-_rank.ensures.least.there
