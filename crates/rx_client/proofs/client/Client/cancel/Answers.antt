use Rattle.std.proofs.Common.{◌≡◌, ◌∙◌, ℤ, w32, to_z, of_z, sym, subst}
use Rattle.std.proofs.lemmas.Int.{to_z-of_z}
use Rattle.rx_rules.specs.Looks.{Looks}
use Rattle.rx_node.specs.Mirrors.{Mirrors}
use Rattle.rx_node.specs.Node.{NodeState, setup_of}
use Rattle.rx_node.proofs.KeptKeys.{kept_setup}
use Rattle.rx_client.specs.Calling.{IsCallingAt}
use Rattle.rx_client.proofs.Answering.{calling_on}
use Rattle.rx_node.proofs.Arguments.{fits_code}
use Rattle.rx_client.proofs.ClientEvents.{cancelled_some}
use Rattle.rx_client.proofs.client.Client.cancel.Goals as goal

pub invariant_of-self : goal.invariant_of-self
invariant_of-self g c =
    let n = c.self.inside.node in
    let new = c.owe_abort.new.self in
    let code : ℤ = to_z w32 (of_z w32 c.args.code) in
    let same : setup_of g.C.Class.class_of new ≡ setup_of g.C.Class.class_of n =
    kept_setup g.C.Class.class_of c.turn.new.self new c.owe_abort.ensures.same
    ∙ kept_setup g.C.Class.class_of n c.turn.new.self c.turn.ensures.same in
    let calls = subst (λ (s : NodeState). (l : Looks) → Mirrors g.C.Class.class_of s l
    → IsCallingAt l c.in-Some.key c.args.c.now)
    (sym c.self.view_is) c.in-Some.ensures.calling in
    let i = c.self.invariant in
    let fits = c.ranges.code in (
      calling_on g.C.Class.class_of n new _ same
          (cancelled_some g.C.Class.class_of n c.self.inside.host c.self.inside.epoch i.1 new same
          c.args.c.now c.in-Some.key
          calls c.turn.new.self c.args.code code code (to_z-of_z w32 c.args.code fits) (to_z-of_z w32 c.args.code fits)
          (fits_code c.args.code fits) c.requires c.turn.ensures.steps c.owe_abort.ensures.steps) i.0,
      c.owe_abort.ensures.same.kind ∙ c.turn.ensures.same.kind ∙ i.1,
    )

pub returns-clause-answered : goal.returns-clause-answered
returns-clause-answered g c =
    let n = c.self.inside.node in
    let new = c.owe_abort.new.self in
    let code : ℤ = to_z w32 (of_z w32 c.args.code) in
    let same : setup_of g.C.Class.class_of new ≡ setup_of g.C.Class.class_of n =
    kept_setup g.C.Class.class_of c.turn.new.self new c.owe_abort.ensures.same
    ∙ kept_setup g.C.Class.class_of n c.turn.new.self c.turn.ensures.same in
    let calls = subst (λ (s : NodeState). (l : Looks) → Mirrors g.C.Class.class_of s l
    → IsCallingAt l c.in-Some.key c.args.c.now)
    (sym c.self.view_is) c.in-Some.ensures.calling in
    let i = c.self.invariant in
    let fits = c.ranges.code in
    rw (← c.self.view_is)
    (cancelled_some g.C.Class.class_of n c.self.inside.host c.self.inside.epoch i.1 new same c.args.c.now c.in-Some.key
    calls c.turn.new.self c.args.code code code (to_z-of_z w32 c.args.code fits) (to_z-of_z w32 c.args.code fits)
    (fits_code c.args.code fits) c.requires c.turn.ensures.steps c.owe_abort.ensures.steps)
