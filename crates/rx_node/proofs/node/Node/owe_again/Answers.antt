use Rattle.std.proofs.Common.{ap, sym, Bool, ◌∙◌, Option, option_map, ℤ}
use Rattle.rx_packet.specs.Seen.{body_of}
use Rattle.rx_rules.specs.After.{owing_abort, owing_ackall}
use Rattle.rx_rules.specs.Looks.{Looks, latest, latest_name, on_channel}
use Rattle.rx_node.specs.Lives.{life_of}
use Rattle.rx_node.specs.Steps.{code_again}
use Rattle.rx_node.proofs.KeptKeys.{by_looks, kept_both, kept_key, key_on_channel}
use Rattle.rx_node.proofs.OwedAgain.{again_both, over_is, over_none}
use Rattle.rx_node.proofs.SameChannels.{same_itself}
use Rattle.rx_node.proofs.SameChannels.{others_then}
use Rattle.rx_node.proofs.node.Node.owe_again.Goals as goal

pub owe_ackall-requires : goal.owe_ackall-requires
owe_ackall-requires g c = kept_key _ _ c.args.key c.owe_abort.ensures.same c.requires

pub returns-in_default-clause-steps : goal.returns-in_default-clause-steps
returns-in_default-clause-steps g c = λ l ch m at.
    by_looks g.C.Class.class_of _ _ _
    (sym (over_none (latest_name l ch) (body_of c.args.body.now) (latest l ch) l
    (sym (ap (option_map life_of) c.in_default.is) ∙ c.life.ensures.answered l ch m at))) m

pub returns-clause-steps : goal.returns-clause-steps
returns-clause-steps g c = λ l ch m at.
    (let body = body_of c.args.body.now in
    let life = life_of c.in-Some.life in
    let owed : Looks = on_channel ch (owing_abort c.code_again.result) l in
    let one = c.owe_abort.ensures.steps l ch m at in
    let two = c.owe_ackall.ensures.steps owed ch one
    (key_on_channel l ch (owing_abort c.code_again.result) c.args.key ch at) in
    by_looks g.C.Class.class_of _ _ _
    (ap (λ (o : Option ℤ). on_channel ch (owing_ackall c.acks_again.result) (on_channel ch (owing_abort o) l))
    c.code_again.ensures
    ∙ ap (λ (b : Bool). on_channel ch (owing_ackall b) (on_channel ch (owing_abort (code_again body life)) l))
    c.acks_again.ensures
    ∙ again_both ch body life l
    ∙ sym (over_is (latest_name l ch) body (latest l ch) l life
    (sym (ap (option_map life_of) c.in-Some.is) ∙ c.life.ensures.answered l ch m at))) two)

pub returns-clause-same : goal.returns-clause-same
returns-clause-same g c = kept_both _ _ _ c.owe_abort.ensures.same c.owe_ackall.ensures.same

pub returns-in_default-clause-others : goal.returns-in_default-clause-others
returns-in_default-clause-others g c = λ q apart. same_itself _ q

pub returns-clause-others : goal.returns-clause-others
returns-clause-others g c =
    others_then _ _ _ c.args.key c.owe_abort.ensures.others c.owe_ackall.ensures.others
