use Rattle.std.proofs.Common.{arith}
use Rattle.rx_peer.proofs.peer.Peer.poll.Goals as goal

pub returns-in-Some-clause-steps : goal.returns-in-Some-clause-steps
returns-in-Some-clause-steps g c =
    λ calls serves is. record {
      between = c.poll.new.steps;
      caller = c.poll.ensures.steps calls is.caller;
      served = λ d low. record { grows = omega arith; most = omega arith };
    }

pub returns-in_err-host-clause-steps : goal.returns-in_err-host-clause-steps
returns-in_err-host-clause-steps g c =
    λ calls serves is. record {
      between = c.poll.new.steps;
      caller = c.poll.ensures.steps calls is.caller;
      served = c.poll-2.ensures.steps serves is.served;
    }

pub returns-clause-steps : goal.returns-clause-steps
returns-clause-steps g c =
    λ calls serves is. record {
      between = c.poll.new.steps;
      caller = c.poll.ensures.steps calls is.caller;
      served = c.poll-2.ensures.steps serves is.served;
    }
