use Rattle.std.proofs.Common.{◌≡◌, ◌∙◌, sym, subst, ap}
use Rattle.rx_model.specs.Names.{channel_of}
use Rattle.rx_rules.specs.Looks.{Looks}
use Rattle.rx_node.specs.Mirrors.{IsActiveAt, Mirrors}
use Rattle.rx_node.specs.Node.{NodeState, setup_of}
use Rattle.rx_node.proofs.KeptKeys.{kept_setup}
use Rattle.rx_client.specs.Calling.{IsCallingAt}
use Rattle.rx_client.proofs.Answering.{calling_on}
use Rattle.rx_client.proofs.ClientEvents.{shut_none, shut_some}
use Rattle.rx_client.proofs.SaidCalls.{calling_latest, shut_mute}
use Rattle.rx_rules.specs.Setup.{is_client}
use Rattle.rx_client.proofs.ShutSlots.{shut_slot}
use Rattle.rx_client.proofs.client.Client.shut.Goals as goal

pub returns-then-is_shut-clause-answered : goal.returns-then-is_shut-clause-answered
returns-then-is_shut-clause-answered g c =
    let n = c.self.inside.node in
    let name = c.args.c.now in
    let i = c.self.invariant in
    let calls = subst (λ (s : NodeState). (l : Looks) → Mirrors g.C.Class.class_of s l
    → IsCallingAt l c.in-Some.key name)
    (sym c.self.view_is) c.in-Some.ensures.calling in
    let is_shut = λ (l : Looks) (m : Mirrors g.C.Class.class_of n l).
    sym (c.is_shut.ensures.answered l (channel_of name) (calls l m).call m (calls l m).channel
    (calling_latest l c.in-Some.key name (calls l m))) ∙ c.if-is_shut.true in
    rw (← c.self.view_is)
    (shut_none g.C.Class.class_of n c.self.inside.host c.self.inside.epoch i.1 name
    (λ l m. shut_mute l c.in-Some.key name (calls l m) (is_shut l m)))

pub shut-requires-clause-slot : goal.shut-requires-clause-slot
shut-requires-clause-slot g c =
    let n = c.self.inside.node in
    let name = c.args.c.now in
    let i = c.self.invariant in
    let calls = subst (λ (s : NodeState). (l : Looks) → Mirrors g.C.Class.class_of s l
    → IsCallingAt l c.in-Some.key name)
    (sym c.self.view_is) c.in-Some.ensures.calling in
    let active = subst (λ (s : NodeState). IsActiveAt s c.in-Some.key c.in-Some.end) (sym c.self.view_is)
    c.in-Some.ensures.active in
    let m = i.0.stands.mirrors in
    shut_slot g.C.Class.class_of n _ m (ap is_client i.1) c.in-Some.key c.in-Some.end (channel_of name)
    (calls _ m).channel
    active (c.is_shut.ensures.unshut c.if-is_shut.false)

pub invariant_of-self : goal.invariant_of-self
invariant_of-self g c =
    let n = c.self.inside.node in
    let name = c.args.c.now in
    let i = c.self.invariant in
    let calls = subst (λ (s : NodeState). (l : Looks) → Mirrors g.C.Class.class_of s l
    → IsCallingAt l c.in-Some.key name)
    (sym c.self.view_is) c.in-Some.ensures.calling in
    let is_shut = λ (l : Looks) (m : Mirrors g.C.Class.class_of n l).
    sym (c.is_shut.ensures.answered l (channel_of name) (calls l m).call m (calls l m).channel
    (calling_latest l c.in-Some.key name (calls l m))) ∙ c.if-is_shut.false in
    let new = c.shut.new.self in
    let same : setup_of g.C.Class.class_of new ≡ setup_of g.C.Class.class_of n =
    kept_setup g.C.Class.class_of n new c.shut.ensures.same in (
      calling_on g.C.Class.class_of n new _ same
          (shut_some g.C.Class.class_of n c.self.inside.host c.self.inside.epoch i.1 new same name c.in-Some.key calls
          is_shut c.shut.ensures.steps) i.0,
      c.shut.ensures.same.kind ∙ i.1,
    )

pub returns-clause-answered : goal.returns-clause-answered
returns-clause-answered g c =
    let n = c.self.inside.node in
    let name = c.args.c.now in
    let i = c.self.invariant in
    let calls = subst (λ (s : NodeState). (l : Looks) → Mirrors g.C.Class.class_of s l
    → IsCallingAt l c.in-Some.key name)
    (sym c.self.view_is) c.in-Some.ensures.calling in
    let is_shut = λ (l : Looks) (m : Mirrors g.C.Class.class_of n l).
    sym (c.is_shut.ensures.answered l (channel_of name) (calls l m).call m (calls l m).channel
    (calling_latest l c.in-Some.key name (calls l m))) ∙ c.if-is_shut.false in
    let new = c.shut.new.self in
    let same : setup_of g.C.Class.class_of new ≡ setup_of g.C.Class.class_of n =
    kept_setup g.C.Class.class_of n new c.shut.ensures.same in
    rw (← c.self.view_is)
    (shut_some g.C.Class.class_of n c.self.inside.host c.self.inside.epoch i.1 new same name c.in-Some.key calls
    is_shut c.shut.ensures.steps)
