use Rattle.std.proofs.Common.{◌<◌, ◌+◌, ◌∙◌, length, sym, ap, arith}
use Rattle.rx_joint.specs.Nodes.{client_node}
use Rattle.rx_events.specs.Waits.{lesser}
use Rattle.rx_joint.proofs.Waiting.{client_stands}
use Rattle.rx_joint.proofs.Times.{least_from, least_on, wait_is}
use Rattle.rx_joint.proofs.nodes.waits.least_of_clients.Goals as goal

pub loop-at-preserved : goal.loop-at-preserved
loop-at-preserved g c = λ h stand.
    let low : c.loop-at.at-index < length c.args.clients.now = omega arith in
    let stands = client_stands c.args.clients.now h c.loop-at.at-index c.at-item.result stand low c.at-item.is in
    c.loop-at.invariant h stand
    ∙ least_on c.loop-at.least h c.args.clients.now c.loop-at.at-index c.at-item.result low c.at-item.is
    ∙ ap (λ o. lesser o (least_from h c.args.clients.now (c.loop-at.at-index + 1)))
    (sym (c.lesser-least.ensures ∙ ap (lesser c.loop-at.least) (c.wait_of-wait.ensures
    ∙ wait_is h _ (client_node c.at-item.result) _ _ (c.due.ensures.value _ stands) (c.moment.ensures.exact _ stands))))
