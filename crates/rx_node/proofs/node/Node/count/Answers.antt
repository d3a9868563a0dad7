use Rattle.std.proofs.Common.{◌≡◌, ◌<◌, ◌∙◌, ap, sym, subst, length, arith}
use Rattle.rx_table.specs.Records.{Records}
use Rattle.rx_node.specs.Node.{NodeState}
use Rattle.rx_node.proofs.Steps.CountSteps.{counted_table, mirrors_counted, more_active, more_alike, serial_drawn}
use Rattle.rx_node.proofs.KeptNode.{still_node, still_seated, still_set_up}
use Rattle.rx_node.proofs.Steps.TableSteps.{changed-length}
use Rattle.std.proofs.Common.{refl}
use Rattle.rx_node.proofs.SameChannels.{same_on_place}
use Rattle.rx_node.proofs.node.Node.count.Goals as goal

pub serial-requires : goal.serial-requires
serial-requires g c =
    let count = changed-length c.self.inside.table.conns c.args.place
    (λ r. record r { last_use = c.self.inside.moment }) in
    let here : c.args.place < length c.self.inside.table.conns =
    subst (λ (n : NodeState). c.args.place < length n.table.conns) (sym c.self.view_is) c.requires in
    let same : length c.touch.new.self.conns ≡ length c.self.inside.table.conns =
    ap (λ (t : Records). length t.conns) c.touch.ensures.updates ∙ count in
    omega arith

pub invariant_of-self : goal.invariant_of-self
invariant_of-self g c =
    let i = c.self.invariant in
    let now = c.self.inside.moment in
    let like = more_alike c.self.inside.table c.args.place now in
    rw (counted_table c.self.inside.table c.touch.new.self c.serial.new.self c.args.place now c.touch.ensures.updates
    c.serial.ensures.updates)
    (still_set_up g.C.Class.class_of _ _ like i.0, still_seated g.C.Class.class_of _ _ like i.1, i.2, i.3)

pub returns-clause-serial : goal.returns-clause-serial
returns-clause-serial g c =
    rw (← c.self.view_is)
    (λ l x m there. serial_drawn g.C.Class.class_of _ l m c.args.place x there c.touch.new.self c.self.inside.moment
    c.serial.result c.touch.ensures.updates c.serial.ensures.drawn)

pub returns-clause-steps : goal.returns-clause-steps
returns-clause-steps g c =
    let now = c.self.inside.moment in
    rw (
      ← c.self.view_is,
      counted_table c.self.inside.table c.touch.new.self c.serial.new.self c.args.place now c.touch.ensures.updates
          c.serial.ensures.updates,
    )
    (λ l x m there. mirrors_counted g.C.Class.class_of _ l m c.args.place x there)

pub returns-clause-active : goal.returns-clause-active
returns-clause-active g c =
    let now = c.self.inside.moment in
    rw (
      ← c.self.view_is,
      counted_table c.self.inside.table c.touch.new.self c.serial.new.self c.args.place now c.touch.ensures.updates
          c.serial.ensures.updates,
    )
    (λ key end active. more_active _ c.args.place now key end active)

pub returns-clause-same : goal.returns-clause-same
returns-clause-same g c =
    let now = c.self.inside.moment in
    let like = more_alike c.self.inside.table c.args.place now in
    rw (
      ← c.self.view_is,
      counted_table c.self.inside.table c.touch.new.self c.serial.new.self c.args.place now c.touch.ensures.updates
          c.serial.ensures.updates,
    )
    (still_node g.C.Class.class_of _ _ like)

pub returns-clause-channels : goal.returns-clause-channels
returns-clause-channels g c =
    let now = c.self.inside.moment in
    rw (
      ← c.self.view_is,
      counted_table c.self.inside.table c.touch.new.self c.serial.new.self c.args.place now c.touch.ensures.updates
          c.serial.ensures.updates,
    )
    (λ q. same_on_place _ c.args.place _ (λ r. refl) (λ r. refl) q)
