-- Polls of a node, until none is due.
use Rattle.std.proofs.Common.{◌≡◌, ◌∙◌, ℕ, List, [], false, Option, Some, Result}
use Rattle.std.specs.Result.{IsErr, IsErrAnd}
use Rattle.std.proofs.Common.{refl, sym, subst, ap}
use Rattle.rx_model.specs.declared.event.Noted.{Noted}
use Rattle.rx_model.specs.declared.names.Host.{Host}
use Rattle.rx_law.specs.Worlds.{Datagram}
use Rattle.rx_joint.specs.Nodes.{IsNodeThere, NodesState, host_of}
use Rattle.rx_stage.specs.declared.stop.Stop.{Stop}
use Rattle.rx_stage.specs.Ran.{Ran, stop_of}
use Rattle.rx_stage.specs.declared.stop.Stop.TheVariants as stops
use Rattle.rx_wire.specs.Turns.{Program}
use Rattle.rx_stage.specs.TurnsPlayed.{Knows, PlaysTurn}
use Rattle.rx_plan.specs.Programs.{Turn, cut_there}
use Rattle.rx_stage.specs.RoundsPlayed.{PlaysGiven, ShowsGiven, ended_with, more_from}
use Rattle.rx_plan.specs.Rounds.{Polling}
use Rattle.rx_plan.specs.Rounds.{polling}
use Rattle.rx_plan.specs.Rounds.{polls_at, polls_out}
use Rattle.rx_plan.specs.Stages.{Stage}
use Rattle.rx_stage.specs.Shown.{WorldState}
use Rattle.rx_stage.specs.Tells.{Told, told}
use Rattle.rx_stage.proofs.Following.{ran_as}
use Rattle.rx_stage.proofs.Making.{cut_off, stop_is}
use Rattle.rx_stage.proofs.Finding.{host_shown}

-- all polls of a node that is there
polls_play : (w : WorldState) (node : ℕ) (from : Host) (given more : List Datagram) (new : NodesState)
    (stop : Option Stop) (a b : Told) → IsNodeThere w.nodes node → from ≡ host_of w.nodes node
    → PlaysTurn (polling from) node (more_from given) (record { again = false; given = more }) w.nodes new stop a b
    → PlaysGiven (polls_out node) w given (record w { nodes = new }) more stop a b
polls_play w node from given more new stop a b there host turn p shown =
    subst (λ o. Ran (polls_at node o p) (ShowsGiven (record w { nodes = new }) more) stop a b)
    (ap Some host ∙ sym (host_shown w p.stage node shown.0 there))
    (ran_as (Turn (polling from) node (more_from p.given) p.stage)
    (λ (r : Polling × Stage). record { stage = r.1; given = r.0.given })
    (λ r. Knows (record { again = false; given = more }) (record w { nodes = new }) r.0 r.1)
    (ShowsGiven (record w { nodes = new }) more) stop a b
    (subst (λ ds. Ran (Turn (polling from) node (more_from ds) p.stage)
    (λ r. Knows (record { again = false; given = more }) (record w { nodes = new }) r.0 r.1) stop a b)
    (sym shown.1) (turn w refl p.stage shown.0))
    (λ r known. (known.1, ap (λ (v : Polling). v.given) known.0)))

module _ (old new : WorldState) (node : ℕ) (from : Host) (given more : List Datagram) (stop : Option Stop) (a b : Told)
  where
    -- all polls of a node were made, of whose state the code keeps this
    pub out_plays : IsNodeThere old.nodes node → from ≡ host_of old.nodes node
        → PlaysTurn (polling from) node (more_from given) (ended_with more) old.nodes new.nodes stop a b
        → new ≡ record old { nodes = new.nodes } → PlaysGiven (polls_out node) old given new more stop a b
    out_plays there host turn same =
        subst (λ (u : WorldState). PlaysGiven (polls_out node) old given u more stop a b) (sym same)
        (polls_play old node from given more new.nodes stop a b there host turn)

-- what a journal and a sink tell that were given back
pub told_seen : {B O : Type 0} (noted : B → Option (List Noted)) (put : O → Option (List ℕ)) (faults : O → ℕ)
    (x y : B) (o p : O) → x ≡ y → o ≡ p
    → told (noted x) (put o) (faults o) ≡ told (noted y) (put p) (faults p)
told_seen noted put faults x y o p book out =
    ap (λ b. told (noted b) (put o) (faults o)) book ∙ ap (λ q. told (noted y) (put q) (faults q)) out

module _ {View Ask : Type 0} (p : Program View Ask) (node : ℕ) (v w : View) where
  -- the same nodes, and the same is told, as the code has them
  pub turn_seen : (i old new : NodesState) (stop : Option Stop) (a b c : Told) → i ≡ old → c ≡ b
      → PlaysTurn p node v w i new stop a b → PlaysTurn p node v w old new stop a c
  turn_seen i old new stop a b c is same turn =
      subst (λ n. PlaysTurn p node v w n new stop a c) is
      (subst (λ (t : Told). PlaysTurn p node v w i new stop a t) (sym same) turn)

-- memory was wanted first
pub polls_want : (from : Host) (node : ℕ) (given more : List Datagram) (old new : NodesState)
    (r : Result (Unit {0}) Stop) (t : Told) → IsErr r × IsErrAnd r (λ stop. stop ≡ stops.OutOfMemory)
    → PlaysTurn (polling from) node (more_from given) (ended_with more) old new (stop_of r) t t
polls_want from node given more old new r t was m is s shown =
    subst (λ (o : Option Stop). Ran (Turn (polling from) node (more_from given) s)
    (λ x. Knows (ended_with more) (record m { nodes = new }) x.0 x.1) o t t) (sym (stop_is r stops.OutOfMemory was))
    (cut_off (Turn (polling from) node (more_from given) s)
    (λ x. Knows (ended_with more) (record m { nodes = new }) x.0 x.1) stops.OutOfMemory t
    (cut_there (more_from given) s) refl)
