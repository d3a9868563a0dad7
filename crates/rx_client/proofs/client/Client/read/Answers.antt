use Rattle.std.proofs.Common.{◌≡◌, ◌∙◌, inl, inr, length, sym, subst}
use Rattle.rx_model.specs.declared.event.Event.TheVariants as events
use Rattle.rx_rules.specs.Looks.{Looks}
use Rattle.rx_rules.specs.Rules.{own_call}
use Rattle.rx_node.specs.Mirrors.{Mirrors}
use Rattle.rx_node.specs.Node.{NodeState, setup_of}
use Rattle.rx_node.specs.Steps.{AnswersNode}
use Rattle.rx_node.proofs.KeptKeys.{kept_setup}
use Rattle.rx_client.specs.Calling.{HasEnded, IsCallingAt}
use Rattle.rx_client.proofs.Answering.{calling_on}
use Rattle.rx_client.proofs.ClientEvents.{read_dead, read_live, read_of_none}
use Rattle.rx_client.proofs.client.Client.read.Goals as goal

pub invariant_of-self : goal.invariant_of-self
invariant_of-self g c =
    let n = c.self.inside.node in
    let name = c.args.c.now in
    let i = c.self.invariant in
    let new = c.read.new.self in
    let same : setup_of g.C.Class.class_of new ≡ setup_of g.C.Class.class_of n =
    kept_setup g.C.Class.class_of n new c.read.ensures.same in
    let calls = subst (λ (s : NodeState). (l : Looks) → Mirrors g.C.Class.class_of s l
    → IsCallingAt l c.in-Some.key name)
    (sym c.self.view_is) c.in-Some.ensures.calling in (
      calling_on g.C.Class.class_of n new _ same
          (read_live g.C.Class.class_of n c.self.inside.host c.self.inside.epoch i.1 new same name c.in-Some.key calls _
          c.read.result c.live_read.result c.read.new.to c.live_read.ensures c.requires c.read.ensures.answered
          c.read.ensures.steps) i.0,
      c.read.ensures.same.kind ∙ i.1,
    )

pub returns-in-Ended-clause-answered : goal.returns-in-Ended-clause-answered
returns-in-Ended-clause-answered g c =
    let n = c.self.inside.node in
    let name = c.args.c.now in
    let i = c.self.invariant in
    let asked = subst (λ (s : NodeState). AnswersNode g.C.Class.class_of s s (events.Ended name c.end.result))
    (sym c.self.view_is) c.end.ensures.answered in
    rw (← c.self.view_is)
    (read_dead g.C.Class.class_of n c.self.inside.host c.self.inside.epoch i.1 name c.end.result asked c.args.to.now
    (length c.args.to.now) c.requires c.in-Ended.end c.ended_read.result c.ended_read.ensures c.in-Ended.is i.0.fits)

pub returns-in-Live-clause-answered : goal.returns-in-Live-clause-answered
returns-in-Live-clause-answered g c =
    let n = c.self.inside.node in
    let name = c.args.c.now in
    let i = c.self.invariant in
    let asked = subst (λ (s : NodeState). AnswersNode g.C.Class.class_of s s (events.Ended name c.end.result))
    (sym c.self.view_is) c.end.ensures.answered in
    let ended = subst (λ (s : NodeState). (l : Looks) → Mirrors g.C.Class.class_of s l → HasEnded (own_call l name))
    (sym c.self.view_is) (λ l m. c.calling.ensures.none l m c.in_default.is) in
    rw (← c.self.view_is)
    (read_of_none g.C.Class.class_of n c.self.inside.host c.self.inside.epoch i.1 name c.end.result asked c.args.to.now
    (length c.args.to.now) c.requires
    (λ end is. elim c.in-Live.is as (λ y. ⊥) [
      | inl live ↦ (let both = sym live ∙ is in cc (both))
      | inr unknown ↦ (let both = sym unknown ∙ is in cc (both))
    ]) ended)

pub returns-clause-answered : goal.returns-clause-answered
returns-clause-answered g c =
    let n = c.self.inside.node in
    let name = c.args.c.now in
    let i = c.self.invariant in
    let new = c.read.new.self in
    let same : setup_of g.C.Class.class_of new ≡ setup_of g.C.Class.class_of n =
    kept_setup g.C.Class.class_of n new c.read.ensures.same in
    let calls = subst (λ (s : NodeState). (l : Looks) → Mirrors g.C.Class.class_of s l
    → IsCallingAt l c.in-Some.key name)
    (sym c.self.view_is) c.in-Some.ensures.calling in
    rw (← c.self.view_is)
    (read_live g.C.Class.class_of n c.self.inside.host c.self.inside.epoch i.1 new same name c.in-Some.key calls
    (length c.args.to.now) c.read.result c.live_read.result c.read.new.to c.live_read.ensures c.requires
    c.read.ensures.answered c.read.ensures.steps)
