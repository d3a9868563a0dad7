use Rattle.rx_joint.proofs.Waiting.{lives_first, lives_rest}
use Rattle.rx_joint.proofs.nodes.Nodes.any_lives.Goals as goal

pub returns-then-live-gt0 : goal.returns-then-live-gt0
returns-then-live-gt0 c = lives_first _ _ _ _ _ c.self.view_is c.live.ensures c.if-live-gt0.true

pub returns : goal.returns
returns c =
    lives_rest _ _ _ _ _ _ _ c.self.view_is c.as_slice.ensures.value c.live.ensures c.if-live-gt0.false
    c.any_client_lives.ensures
