-- For which histories a client stands. Public clauses cite this module.
use Rattle.std.specs.Prelude.{ℕ, List}
use Rattle.rx_model.specs.declared.answers.End.{End}
use Rattle.rx_model.specs.declared.answers.End.TheVariants as ends
use Rattle.rx_model.specs.declared.answers.ReadAns.{ReadAns}
use Rattle.rx_model.specs.declared.answers.ReadAns.TheVariants as answers
use Rattle.rx_model.specs.declared.event.Event.{Event}
use Rattle.rx_rules.specs.Classes.{Class}
use Rattle.rx_rules.specs.Setup.{FitsSetup}
use Rattle.rx_node.specs.Node.{NodeState, setup_of}
use Rattle.rx_node.specs.Steps.{StandsNode}

-- what a client keeps true: it is set up within the limits, and stands for some history
pub record IsCalling (class : List ℕ → Class) (n : NodeState) : Type 0 where
  pub fits : FitsSetup (setup_of class n)
  pub history : List Event
  pub stands : StandsNode class n history

-- ---- answers with bytes

-- how many bytes a read gave
abbrev pub read_count : ReadAns → ℕ
read_count (answers.Got n) = n
read_count _ = 0

-- the answer of a read of a call that ended
abbrev pub read_ended : End → ReadAns
read_ended ends.Ok = answers.End
read_ended end = answers.Gone end
