use Rattle.rx_pool.specs.Held.{Holds}
use Rattle.rx_call.specs.Standing.{slots_of}
use Rattle.rx_call_tests.proofs.tests.losses.a_prompt_end_leaves_what_fills_a_hole_a_millisecond.Given as goal

abbrev pub invariant-loop-seq : goal.invariant-loop-seq
invariant-loop-seq g l = Holds l.pool (slots_of l.call)
