use Rattle.rx_books.proofs.node.Node.life.Goals as goal

pub returns-clause-answered : goal.returns-clause-answered
returns-clause-answered g c = rw (← c.self.view_is) c.life.ensures.answered
