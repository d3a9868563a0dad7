use Rattle.std.proofs.Common.{◌<◌, ◌∙◌, length, sym, arith}
use Rattle.rx_joint.specs.Nodes.{client_node}
use Rattle.rx_events.specs.Waits.{lives_at}
use Rattle.rx_joint.proofs.Waiting.{client_stands, live_false, live_true, passes_here, passes_on}
use Rattle.rx_joint.proofs.nodes.waits.any_client_lives.Goals as goal

pub returns-then-live-gt0 : goal.returns-then-live-gt0
returns-then-live-gt0 c = λ h stand.
    let low : c.loop-at.at-index < length c.args.clients.now = omega arith in
    sym (c.loop-at.invariant h stand
    ∙ passes_here (lives_at h) c.args.clients.now c.loop-at.at-index c.at-item.result low c.at-item.is
    (live_true h _ (client_node c.at-item.result) _
    (c.live.ensures _ (client_stands c.args.clients.now h c.loop-at.at-index c.at-item.result stand low c.at-item.is))
    c.if-live-gt0.true))

pub loop-at-preserved : goal.loop-at-preserved
loop-at-preserved c = λ h stand.
    let low : c.loop-at.at-index < length c.args.clients.now = omega arith in
    c.loop-at.invariant h stand
    ∙ passes_on (lives_at h) c.args.clients.now c.loop-at.at-index c.at-item.result low c.at-item.is
    (live_false h _ (client_node c.at-item.result) _
    (c.live.ensures _ (client_stands c.args.clients.now h c.loop-at.at-index c.at-item.result stand low c.at-item.is))
    c.if-live-gt0.false)
