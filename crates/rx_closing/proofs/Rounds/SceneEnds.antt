-- The two ends of a call at a stage: each is fit, and they are linked where both are drained.
use Rattle.std.proofs.Common.{◌≡◌, ℕ, suc, true, false, Some, ap, refl}
use Rattle.std.specs.Prelude.{slice_get}
use Rattle.rx_model.specs.declared.names.CallName.{CallName}
use Rattle.rx_model.specs.Names.{connection_of}
use Rattle.rx_rules.specs.Looks.{CallRecord}
use Rattle.rx_rules.specs.Setup.{is_client}
use Rattle.rx_history.specs.Sides.{Node, side}
use Rattle.rx_law.specs.Promises.{ends_in}
use Rattle.rx_law.proofs.Joint.{Fed}
use Rattle.rx_law.proofs.World.{if-some}
use Rattle.rx_between.proofs.LawsTrue.{came_in, fed_in}
use Rattle.rx_plan.specs.Stages.{Stage}
use Rattle.rx_progress.specs.Moving.{IsDrained}
use Rattle.rx_closing.specs.Living.{looks_of}
use Rattle.rx_closing.proofs.Ends.BothEnds.{IsFit, Linked}
use Rattle.rx_closing.proofs.Ends.FitAlways.{fit_always}
use Rattle.rx_closing.proofs.Ends.LinkedAt.{linked_at}
use Rattle.rx_closing.proofs.Frame.{IsPlain, OneOf, asked_in, served_in}
use Rattle.rx_progress.proofs.LawsMoves.{server_side}

module _ (c : CallName) (k : ℕ) (client server : Node) (s : Stage) (scene : OneOf c k client server s) where
  fed : Fed (ends_in (connection_of c) (suc k) client server) s.history
  fed =
      fed_in s.nodes s.history scene.world (suc k) client server (connection_of c) scene.client_there scene.client_is
      scene.server_there scene.kept

  -- which is the client
  pub client_kind : is_client client.setup.kind ≡ true
  client_kind = ap is_client scene.client_is

  pub server_kind : is_client server.setup.kind ≡ false
  server_kind = server_side server.setup.kind fed.server_kind

  -- each is fit
  pub client_fits_at : (a : CallRecord) → asked_in c k client s ≡ Some a
      → IsFit (looks_of s (suc k) client).now a.looks
  client_fits_at a is =
      if-some (asked_in c k client s) a (λ r. IsFit (looks_of s (suc k) client).now r.looks) is
      (fit_always client.setup (side (suc k) s.history) c fed.client_fits
      (if-some (slice_get s.nodes (suc k)) client IsPlain scene.client_there (scene.plain (suc k))).unprompted
      fed.client_legal)

  pub server_fits_at : (b : CallRecord) → served_in c server s ≡ Some b → IsFit (looks_of s 0 server).now b.looks
  server_fits_at b is =
      if-some (served_in c server s) b (λ r. IsFit (looks_of s 0 server).now r.looks) is
      (fit_always server.setup (side 0 s.history) c fed.server_fits
      (if-some (slice_get s.nodes 0) server IsPlain scene.server_there (scene.plain 0)).unprompted fed.server_legal)

  -- they are linked, where each is drained
  pub ends_linked : (a b : CallRecord) → asked_in c k client s ≡ Some a → served_in c server s ≡ Some b
      → IsDrained a.looks.received → IsDrained b.looks.received → Linked a.looks b.looks
  ends_linked a b is_a is_b drained_a drained_b =
      linked_at (ends_in (connection_of c) (suc k) client server) s.history fed
      (came_in s.nodes s.history scene.world (suc k) client server (connection_of c) scene.client_there scene.client_is
      scene.server_there) c refl a b is_a is_b drained_a drained_b
