-- An estimate of the code, as the rules have it, and how large it may get. No public clause cites this module.
use Rattle.std.specs.Prelude.{◌≤◌, ◌*◌, Option, Some, None}
use Rattle.rx_rules.specs.Rates as rates
use Rattle.rx_rtt.specs.declared.rtt.Estimate.{Estimate}

-- the same numbers
abbrev pub estimate_of : Estimate → rates.Estimate
estimate_of e = record { smoothed = e.smoothed; variance = e.variance }

-- the estimate, once a round trip was measured
abbrev pub measured_of : Option Estimate → Option rates.Estimate
measured_of None = None
measured_of (Some e) = Some (estimate_of e)

-- neither number outgrows what round trips of at most a minute give
pub record IsBounded (e : Estimate) : Type 0 where
  pub smoothed : e.smoothed ≤ 8 * 60000
  pub variance : e.variance ≤ 4 * 60000

-- the same of an estimate that may not be there
abbrev pub IsBoundedWithin : Option Estimate → Type 0
IsBoundedWithin None = Unit {0}
IsBoundedWithin (Some e) = IsBounded e
