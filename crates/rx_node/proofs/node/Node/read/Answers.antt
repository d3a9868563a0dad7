use Rattle.std.proofs.Common.{◌≡◌, false, true, ap, sym, subst, length, refl, inl, inr, take}
use Rattle.rx_rules.specs.CallLooks.{after_read}
use Rattle.rx_rules.specs.Looks.{Looks, latest_name, on_looks}
use Rattle.rx_recvwin.specs.Window.{given_count, tells_end}
use Rattle.rx_call_ends.specs.Ends.{StandsEnd}
use Rattle.rx_node.specs.Mirrors.{IsActiveAt, Mirrors}
use Rattle.rx_node.specs.Node.{NodeState}
use Rattle.rx_node.proofs.Steps.ActiveSteps.{active_stands, there_low}
use Rattle.rx_node.proofs.Steps.EndSteps.{mirrors_end}
use Rattle.rx_node.proofs.Steps.ReadSteps.{mirrors_more, read_end, read_whole, roomy_read_of}
use Rattle.rx_node.proofs.Steps.SeatedSteps.{end_seated, end_set_up}
use Rattle.rx_node.proofs.SameChannels.{others_then, same_with_end, same_with_ends}
use Rattle.rx_node.proofs.node.Node.read.Goals as goal

pub invariant_of-self : goal.invariant_of-self
invariant_of-self g c =
    let i = c.self.invariant in
    let key = c.args.key in
    let end = c.args.end in
    let a = subst (λ (n : NodeState). IsActiveAt n key end) (sym c.self.view_is) c.requires.active in (
      end_set_up g.C.Class.class_of _ key end a _ _ c.read-got.ensures.steps c.read-got.ensures.live i.0,
      end_seated g.C.Class.class_of _ key end a _ _ c.read-got.ensures.steps c.read-got.ensures.live i.1,
      i.2,
      i.3,
    )

pub on_end-requires : goal.on_end-requires
on_end-requires g c =
    let key = c.args.key in
    let end = c.args.end in
    let a = subst (λ (n : NodeState). IsActiveAt n key end) (sym c.self.view_is) c.requires.active in
    there_low c.self.inside.table key _ a.seat refl a.there

pub invariant_of-self-in-Got : goal.invariant_of-self-in-Got
invariant_of-self-in-Got g c =
    let i = c.self.invariant in
    let key = c.args.key in
    let end = c.args.end in
    let a = subst (λ (n : NodeState). IsActiveAt n key end) (sym c.self.view_is) c.requires.active in (
      end_set_up g.C.Class.class_of _ key end a _ _ c.read-got.ensures.steps c.read-got.ensures.live i.0,
      end_seated g.C.Class.class_of _ key end a _ _ c.read-got.ensures.steps c.read-got.ensures.live i.1,
      i.2,
      i.3,
    )

pub returns-in-End-clause-answered : goal.returns-in-End-clause-answered
returns-in-End-clause-answered g c =
    let end = c.args.end in
    λ l ch k m at is. c.read-got.ensures.answered k.looks
    (subst (λ (n : NodeState). StandsEnd n.ends end k.looks) (sym c.self.view_is)
    (active_stands g.C.Class.class_of c.args.self.now l m c.args.key end ch at c.requires.active k is))

pub returns-in-End-clause-steps : goal.returns-in-End-clause-steps
returns-in-End-clause-steps g c =
    let class = g.C.Class.class_of in
    let key = c.args.key in
    let end = c.args.end in
    let a = subst (λ (n : NodeState). IsActiveAt n key end) (sym c.self.view_is) c.requires.active in
    let moment = c.self.inside.moment in
    let result = c.read-got.result in
    let bytes = take (given_count result) c.read-got.new.to in
    let told = tells_end result in
    let ends : tells_end result ≡ true = ap tells_end c.in-End.is in
    λ l ch m at. (
    let before = subst (λ (n : NodeState). Mirrors class n l) (sym c.self.view_is) m in
    let between = mirrors_end class _ l before c.self.invariant.1 key end ch at a _ (after_read moment told bytes)
    c.read-got.ensures.steps
    (roomy_read_of class _ l before ch moment told bytes
    (λ k is. read_whole k (length c.args.to.now) result bytes
    (c.read-got.ensures.answered k.looks (active_stands class _ l before key end ch at a k is)))) in
    subst (λ (x : Looks). Mirrors class c.on_end.new.self x) (read_end ch bytes l moment told before.now ends)
    (c.on_end.ensures.steps (on_looks (latest_name l ch) (after_read moment told bytes) l) ch between
    (record { conn = at.conn; there = at.there; is = at.is })))

pub returns-in-Got : goal.returns-in-Got
returns-in-Got g c =
    let class = g.C.Class.class_of in
    let key = c.args.key in
    let end = c.args.end in
    let a = subst (λ (n : NodeState). IsActiveAt n key end) (sym c.self.view_is) c.requires.active in
    let moment = c.self.inside.moment in
    let result = c.read-got.result in
    let bytes = take (given_count result) c.read-got.new.to in
    let told = tells_end result in
    let more : tells_end result ≡ false = elim c.in-Got.is [
      | inl w ↦ ap tells_end w.1
      | inr is ↦ ap tells_end is
    ] in
    record {
      answered = λ l ch k m at is. c.read-got.ensures.answered k.looks
          (subst (λ (n : NodeState). StandsEnd n.ends end k.looks) (sym c.self.view_is)
          (active_stands class c.args.self.now l m key end ch at c.requires.active k is));
      steps = λ l ch m at. (
          let before = subst (λ (n : NodeState). Mirrors class n l) (sym c.self.view_is) m in
          mirrors_more class _ (latest_name l ch) bytes l moment told before.now more
          (mirrors_end class _ l before c.self.invariant.1 key end ch at a _ (after_read moment told bytes)
          c.read-got.ensures.steps
          (roomy_read_of class _ l before ch moment told bytes
          (λ k is. read_whole k (length c.args.to.now) result bytes
          (c.read-got.ensures.answered k.looks (active_stands class _ l before key end ch at a k is))))));
      rest = c.read-got.ensures.rest;
      none = λ is. rw (← c.self.view_is)
          (same_with_end _ c.self.invariant.1 key end a.seat a.there a.live _ (c.read-got.ensures.none is));
      others = rw (← c.self.view_is)
          (same_with_ends _ c.self.invariant.1 key end a.seat a.there a.live _ c.read-got.ensures.steps.keeps);
      same = rw (← c.self.view_is)
          (record { kind = refl; limits = refl; prompt = refl; secret = refl; moment = refl; names = refl });
    }

pub returns-in-End-clause-others : goal.returns-in-End-clause-others
returns-in-End-clause-others g c =
    let key = c.args.key in
    let end = c.args.end in
    let a = subst (λ (n : NodeState). IsActiveAt n key end) (sym c.self.view_is) c.requires.active in
    rw (← c.self.view_is)
    (others_then _ _ _ key
    (same_with_ends _ c.self.invariant.1 key end a.seat a.there a.live _ c.read-got.ensures.steps.keeps)
    c.on_end.ensures.others)
