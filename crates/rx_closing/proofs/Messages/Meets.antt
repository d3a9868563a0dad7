-- What a stage says of the two ends of one of its calls: they meet, and where the call lives at its client it is its
-- channel's latest there.
use Rattle.std.proofs.Common.{◌≡◌, ℕ, suc, true, Some}
use Rattle.rx_model.specs.declared.names.CallName.{CallName}
use Rattle.rx_model.specs.Names.{connection_of}
use Rattle.rx_rules.specs.Life.{is_live}
use Rattle.rx_rules.specs.Looks.{CallRecord}
use Rattle.rx_history.specs.Sides.{Node, side}
use Rattle.rx_law.proofs.Joint.{Fed}
use Rattle.rx_law.specs.Promises.{ends_in}
use Rattle.rx_between.proofs.LawsTrue.{fed_in}
use Rattle.rx_plan.specs.Stages.{Stage}
use Rattle.rx_closing.specs.Living.{looks_of}
use Rattle.rx_closing.proofs.Frame.{OneOf, asked_in}
use Rattle.rx_closing.proofs.Messages.Lasts.{live_last}
use Rattle.rx_closing.proofs.Messages.Rows.{IsLast}

module _ (c : CallName) (k : ℕ) (client server : Node) (s : Stage) (scene : OneOf c k client server s) where
  -- its two ends
  pub scene_feeds : Fed (ends_in (connection_of c) (suc k) client server) s.history
  scene_feeds =
      fed_in s.nodes s.history scene.world (suc k) client server (connection_of c) scene.client_there scene.client_is
      scene.server_there scene.kept

  -- where the call lives it is its channel's latest
  pub asked_last : (r : CallRecord) → asked_in c k client s ≡ Some r → is_live r.life ≡ true
      → IsLast (looks_of s (suc k) client) c r
  asked_last r there living =
      live_last client.setup (side (suc k) s.history) c r scene_feeds.client_fits scene_feeds.client_legal there living
