use Rattle.std.proofs.Common.{◌≡◌, ◌∙◌, sym, subst}
use Rattle.rx_model.specs.Names.{channel_of}
use Rattle.rx_rules.specs.Looks.{Looks}
use Rattle.rx_rules.specs.Rules.{own_call}
use Rattle.rx_node.specs.Mirrors.{Mirrors}
use Rattle.rx_node.specs.Node.{NodeState, setup_of}
use Rattle.rx_node.proofs.KeptKeys.{kept_setup}
use Rattle.rx_client.specs.Calling.{HasEnded, IsCallingAt}
use Rattle.rx_client.proofs.Answering.{calling_on}
use Rattle.rx_client.proofs.ClientEvents.{wrote_none, wrote_some}
use Rattle.rx_client.proofs.SaidCalls.{calling_latest, ended_mute, shut_mute}
use Rattle.rx_client.proofs.client.Client.write.Goals as goal

pub returns-in_default-clause-answered : goal.returns-in_default-clause-answered
returns-in_default-clause-answered g c =
    let n = c.self.inside.node in
    let name = c.args.c.now in
    let i = c.self.invariant in
    let ended = subst (λ (s : NodeState). (l : Looks) → Mirrors g.C.Class.class_of s l → HasEnded (own_call l name))
    (sym c.self.view_is) (λ l m. c.calling.ensures.none l m c.in_default.is) in
    rw (← c.self.view_is)
    (wrote_none g.C.Class.class_of n c.self.inside.host c.self.inside.epoch i.1 name c.args.bytes.now
    (λ l m. ended_mute (own_call l name) (ended l m)))

pub returns-then-is_shut-clause-answered : goal.returns-then-is_shut-clause-answered
returns-then-is_shut-clause-answered g c =
    let n = c.self.inside.node in
    let name = c.args.c.now in
    let i = c.self.invariant in
    let calls = subst (λ (s : NodeState). (l : Looks) → Mirrors g.C.Class.class_of s l
    → IsCallingAt l c.in-Some.key name)
    (sym c.self.view_is) c.in-Some.ensures.calling in
    let is_shut = λ (l : Looks) (m : Mirrors g.C.Class.class_of n l).
    sym (c.is_shut.ensures.answered l (channel_of name) (calls l m).call m (calls l m).channel
    (calling_latest l c.in-Some.key name (calls l m))) ∙ c.if-is_shut.true in
    rw (← c.self.view_is)
    (wrote_none g.C.Class.class_of n c.self.inside.host c.self.inside.epoch i.1 name c.args.bytes.now
    (λ l m. shut_mute l c.in-Some.key name (calls l m) (is_shut l m)))

pub invariant_of-self : goal.invariant_of-self
invariant_of-self g c =
    let n = c.self.inside.node in
    let name = c.args.c.now in
    let i = c.self.invariant in
    let calls = subst (λ (s : NodeState). (l : Looks) → Mirrors g.C.Class.class_of s l
    → IsCallingAt l c.in-Some.key name)
    (sym c.self.view_is) c.in-Some.ensures.calling in
    let is_shut = λ (l : Looks) (m : Mirrors g.C.Class.class_of n l).
    sym (c.is_shut.ensures.answered l (channel_of name) (calls l m).call m (calls l m).channel
    (calling_latest l c.in-Some.key name (calls l m))) ∙ c.if-is_shut.false in
    let new = c.write.new.self in
    let same : setup_of g.C.Class.class_of new ≡ setup_of g.C.Class.class_of n =
    kept_setup g.C.Class.class_of n new c.write.ensures.same in (
      calling_on g.C.Class.class_of n new _ same
          (wrote_some g.C.Class.class_of n c.self.inside.host c.self.inside.epoch i.1 new same name c.in-Some.key calls
          c.args.bytes.now c.write.result (λ j. (c.type_inv.bytes j).fits) c.write.ensures.within is_shut
          c.write.ensures.answered c.write.ensures.steps) i.0,
      c.write.ensures.same.kind ∙ i.1,
    )

pub returns-clause-answered : goal.returns-clause-answered
returns-clause-answered g c =
    let n = c.self.inside.node in
    let name = c.args.c.now in
    let i = c.self.invariant in
    let calls = subst (λ (s : NodeState). (l : Looks) → Mirrors g.C.Class.class_of s l
    → IsCallingAt l c.in-Some.key name)
    (sym c.self.view_is) c.in-Some.ensures.calling in
    let is_shut = λ (l : Looks) (m : Mirrors g.C.Class.class_of n l).
    sym (c.is_shut.ensures.answered l (channel_of name) (calls l m).call m (calls l m).channel
    (calling_latest l c.in-Some.key name (calls l m))) ∙ c.if-is_shut.false in
    let new = c.write.new.self in
    let same : setup_of g.C.Class.class_of new ≡ setup_of g.C.Class.class_of n =
    kept_setup g.C.Class.class_of n new c.write.ensures.same in
    rw (← c.self.view_is)
    (wrote_some g.C.Class.class_of n c.self.inside.host c.self.inside.epoch i.1 new same name c.in-Some.key calls
    c.args.bytes.now c.write.result (λ j. (c.type_inv.bytes j).fits) c.write.ensures.within is_shut
    c.write.ensures.answered c.write.ensures.steps)
