-- What a contract sees of a dispatcher. Public clauses cite this module.
use Rattle.rx_script.specs.Saying.{blocks_of}
use Rattle.rx_dispatch.specs.Rounds.{DispatcherState, RoundState}
use Rattle.rx_dispatch.specs.declared.dispatcher.Dispatcher.{Dispatcher}
use Rattle.rx_dispatch.specs.declared.round.Round.{Round}

-- its jobs and where its turn stands
abbrev pub round_of : Round → RoundState
round_of r = record { jobs = r.jobs.items; stage = r.stage; place = r.place; next = r.next; found = r.found }

-- its script, and its jobs with where its turn stands
abbrev pub state_of : Dispatcher → DispatcherState
state_of d = record { script = blocks_of d.script.blocks.items; round = round_of d.round }
