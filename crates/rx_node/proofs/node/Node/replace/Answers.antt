use Rattle.rx_model.specs.Names.{connection_of}
use Rattle.rx_table.specs.Records.{fresh_record}
use Rattle.rx_node.proofs.EnteredSeats.{fewer_seated, replaced_named, replaced_set_up}
use Rattle.rx_node.proofs.Steps.ReplaceSteps.{mirrors_replaced}
use Rattle.rx_node.proofs.Steps.TableSteps.{changed-length}
use Rattle.rx_node.proofs.SameChannels.{same_aside}
use Rattle.rx_node.proofs.node.Node.replace.Goals as goal

pub invariant_of-self : goal.invariant_of-self
invariant_of-self g c =
    let i = c.self.invariant in
    let x = connection_of c.args.c.now in
    let nonce = c.args.nonce in
    let now = c.self.inside.moment in
    rw c.replace.ensures (
      replaced_set_up g.C.Class.class_of _ i.0 c.args.place (fresh_record x nonce now) c.args.link,
      fewer_seated _ _ _ (replaced_named _ i.1 x nonce now c.requires.cid c.args.place) i.1,
      i.2,
      i.3,
    )

pub returns-clause-conns : goal.returns-clause-conns
returns-clause-conns g c =
    let x = connection_of c.args.c.now in
    let entry = fresh_record x c.args.nonce c.self.inside.moment in
    rw (← c.self.view_is, c.replace.ensures) (changed-length c.self.inside.table.conns c.args.place (λ r. entry))

pub returns-clause-steps : goal.returns-clause-steps
returns-clause-steps g c =
    let x = connection_of c.args.c.now in
    rw (← c.self.view_is, c.replace.ensures)
    (λ l old m there numbered orderly. mirrors_replaced g.C.Class.class_of _ l m c.args.place old there x c.args.link
    c.args.nonce numbered orderly)

pub returns-clause-places : goal.returns-clause-places
returns-clause-places g c =
    rw (← c.self.view_is, c.replace.ensures) (λ q apart. same_aside _ c.args.place _ _ q apart)
