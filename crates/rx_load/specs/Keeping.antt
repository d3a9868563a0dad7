-- What holds of each load. Public clauses cite this module.
use Rattle.std.specs.Prelude.{◌⊎◌, List}
use Rattle.rx_model.specs.declared.event.Noted.{Noted}
use Rattle.rx_history.specs.Counts.{Once}
use Rattle.rx_history.specs.Sides.{side}
use Rattle.rx_law.specs.Promises.{LawIn, ServerForgotNone}
use Rattle.rx_law.specs.Times.{Timely}
use Rattle.rx_plan.specs.Promises.{Always}
use Rattle.rx_load.specs.Loads.{load_nodes}

-- at a moment: no call enters twice where no record was forgotten; and each call has the law where none was, or where
-- no datagram is old
pub record LoadPromised (h : List Noted) : Type 0 where
  pub once : ServerForgotNone load_nodes h → Once (side 0 h)
  pub law : ServerForgotNone load_nodes h ⊎ Timely load_nodes h → LawIn load_nodes h

-- at each moment of a load's events
abbrev pub LoadPromises : List Noted → Type 0
LoadPromises es = Always es LoadPromised
