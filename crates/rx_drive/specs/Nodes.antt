-- What a call of a node answers, whichever end the node is, and what a run over one node stands at. Public clauses cite
-- this module.
use Rattle.std.specs.Prelude.{List, ◌∷◌}
use Rattle.rx_model.specs.declared.event.Event.{Event}
use Rattle.rx_rules.specs.After.{looks}
use Rattle.rx_rules.specs.Rules.{Allowed}
use Rattle.rx_rules.specs.Setup.{Setup}
use Rattle.rx_run.specs.Programs.{Stages}
use Rattle.rx_wire.specs.Turns.{noted}
use Rattle.rx_drive.specs.Tells.{Made, Step}

-- the answer is the one that the rules give after every history for which the node stood, and it stands then for that
-- history with the event
abbrev pub Answers : Setup → (List Event → Type 0) → (List Event → Type 0) → Event → Type 0
Answers s stood stands e = (h : List Event) → stood h → Allowed s (looks s h) e × stands (e ∷ h)

-- the stages of one node that is set up so: its history, the newest event first
abbrev pub node_stages : Setup → Stages (List Event) Step
node_stages s = record {
  may = λ h node e. Allowed s (looks s h) e;
  after = λ node e h. e ∷ h;
  made = λ node e. Made (noted node e);
}
