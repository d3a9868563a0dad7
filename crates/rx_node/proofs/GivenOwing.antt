-- What a channel owes no longer once it was given.
use Rattle.std.proofs.Common.{false, None, refl}
use Rattle.rx_table.specs.declared.seat.Seat.{Seat}
use Rattle.rx_node.proofs.Steps.OwingSteps.{Owing}

-- an ABORT
pub abort_given : (seat : Seat) → Owing seat (record seat { owed_abort = None }) (λ q. record q { owed_abort = None })
abort_given seat =
    record {
      live = refl;
      ended = refl;
      number = λ q. refl;
      owes = λ q o. record {
        number = o.number;
        abort = refl;
        busy = o.busy;
        challenge = o.challenge;
        response = o.response;
        ackall = o.ackall;
      };
    }

-- a BUSY
pub busy_given : (seat : Seat) → Owing seat (record seat { owed_busy = None }) (λ q. record q { owed_busy = None })
busy_given seat =
    record {
      live = refl;
      ended = refl;
      number = λ q. refl;
      owes = λ q o. record {
        number = o.number;
        abort = o.abort;
        busy = refl;
        challenge = o.challenge;
        response = o.response;
        ackall = o.ackall;
      };
    }

-- a CHALLENGE
pub challenge_given : (seat : Seat)
    → Owing seat (record seat { owed_challenge = false }) (λ q. record q { owed_challenge = false })
challenge_given seat =
    record {
      live = refl;
      ended = refl;
      number = λ q. refl;
      owes = λ q o. record {
        number = o.number;
        abort = o.abort;
        busy = o.busy;
        challenge = refl;
        response = o.response;
        ackall = o.ackall;
      };
    }

-- a RESPONSE
pub response_given : (seat : Seat)
    → Owing seat (record seat { owed_response = None }) (λ q. record q { owed_response = None })
response_given seat =
    record {
      live = refl;
      ended = refl;
      number = λ q. refl;
      owes = λ q o. record {
        number = o.number;
        abort = o.abort;
        busy = o.busy;
        challenge = o.challenge;
        response = refl;
        ackall = o.ackall;
      };
    }

-- an ACKALL
pub ackall_given : (seat : Seat)
    → Owing seat (record seat { owed_ackall = false }) (λ q. record q { owed_ackall = false })
ackall_given seat =
    record {
      live = refl;
      ended = refl;
      number = λ q. refl;
      owes = λ q o. record {
        number = o.number;
        abort = o.abort;
        busy = o.busy;
        challenge = o.challenge;
        response = o.response;
        ackall = refl;
      };
    }
