use Rattle.std.proofs.Common.{◌≡◌, ◌&&◌, ◌||◌, ◌∙◌, Bool, not, refl, sym, ap}
use Rattle.rx_rules.specs.Life.{is_waiting}
use Rattle.rx_rules.specs.Looks.{is_proved}
use Rattle.rx_node.specs.Lives.{life_of}
use Rattle.rx_node.specs.Node.{NodeState, setup_of}
use Rattle.rx_node.specs.declared.life.Life.{Life as CodeLife}
use Rattle.rx_node.specs.declared.life.Life.TheVariants as codes
use Rattle.rx_node.specs.contracts.life.LifePartialEq.TheImpl.{eq-value}
use Rattle.rx_server.proofs.EnteringCalls.{enters_by, waits_by, waits_not}
use Rattle.rx_server.proofs.ReadyLaws.{admits_is}
use Rattle.rx_server.proofs.server.waiting.can_enter.Goals as goal

waiting : (x : CodeLife) → eq-value.it x codes.Waiting ≡ is_waiting (life_of x)
waiting codes.Calling = refl
waiting (codes.Ended end) = refl
waiting codes.Waiting = refl
waiting codes.Accepted = refl
waiting codes.Finished = refl
waiting (codes.Broken code) = refl
waiting (codes.Over code) = refl

pub returns-then-waits : goal.returns-then-waits
returns-then-waits g c =
    let class = g.C.Class.class_of in
    let n : NodeState = c.args.node.now in
    let s = setup_of class n in
    let waits = waits_by eq-value.it c.life.result c.eq-waits.result c.eq-waits.ensures waiting ∙ c.if-waits.true in
    λ l m. enters_by class n s l c.args.key c.life.result c.admits.result m c.requires
    (λ ch at. c.life.ensures.answered l ch m at)
    (λ ch at. c.admits.ensures l m ∙ admits_is s (class n.secret).challenges l c.args.key ch m.orderly at
    ∙ sym (ap (λ (w : Bool). w && (not (class n.secret).challenges || is_proved l ch.connection)) waits))

pub returns-else-waits : goal.returns-else-waits
returns-else-waits g c =
    let class = g.C.Class.class_of in
    let n : NodeState = c.args.node.now in
    λ l m. c.if-waits.false
    ∙ waits_not class n (setup_of class n) l c.args.key c.life.result m c.requires
    (λ ch at. c.life.ensures.answered l ch m at)
    (waits_by eq-value.it c.life.result c.eq-waits.result c.eq-waits.ensures waiting ∙ c.if-waits.false)
