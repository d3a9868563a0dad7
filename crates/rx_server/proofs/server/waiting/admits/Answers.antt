use Rattle.std.proofs.Common.{◌<◌, ◌||◌, ◌∙◌, ◌/◌, ℕ, Bool, List, not, ap, subst, sym}
use Rattle.rx_rules.specs.Looks.{is_proved}
use Rattle.rx_node.specs.Node.{NodeState, setup_of}
use Rattle.rx_node.proofs.KeptKeys.{proved_is}
use Rattle.rx_node.proofs.OwedItems.{has_channel}
use Rattle.rx_server.proofs.ReadyLaws.{admits_is}
use Rattle.rx_server.proofs.server.waiting.admits.Goals as goal

pub returns-then-not-challenges : goal.returns-then-not-challenges
returns-then-not-challenges g c =
    let class = g.C.Class.class_of in
    let n : NodeState = c.args.node.now in
    let challenges = ap (λ (secret : List ℕ). (class secret).challenges) (sym c.class.ensures)
    ∙ sym c.challenges.ensures
    ∙ c.if-not-challenges.true in
    λ l m. (
    let it = has_channel l c.args.key (subst (λ (k : ℕ). c.args.key / 4 < k) m.conns.conns c.requires) in
    ap not c.if-not-challenges.true
    ∙ sym (admits_is (setup_of class n) (class n.secret).challenges l c.args.key it.channel m.orderly it.at
    ∙ ap (λ (b : Bool). not b || is_proved l it.channel.connection) challenges))

pub returns-else-not-challenges : goal.returns-else-not-challenges
returns-else-not-challenges g c =
    let class = g.C.Class.class_of in
    let n : NodeState = c.args.node.now in
    let challenges = ap (λ (secret : List ℕ). (class secret).challenges) (sym c.class.ensures)
    ∙ sym c.challenges.ensures
    ∙ c.if-not-challenges.false in
    λ l m. (
    let it = has_channel l c.args.key (subst (λ (k : ℕ). c.args.key / 4 < k) m.conns.conns c.requires) in
    proved_is class n l m c.args.key it.channel it.at c.proved.result c.proved.ensures
    ∙ sym (admits_is (setup_of class n) (class n.secret).challenges l c.args.key it.channel m.orderly it.at
    ∙ ap (λ (b : Bool). not b || is_proved l it.channel.connection) challenges))
