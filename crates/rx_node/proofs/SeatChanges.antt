-- What a seat owes changes as what its channel owes.
use Rattle.std.proofs.Common.{◌≡◌, ℕ, ℤ, true, List, Some, option_map, Result, Ok, Err, refl, ap}
use Rattle.std.specs.Result.{IsOk, OnOk}
use Rattle.std.proofs.lemmas.Bool.{false≢true}
use Rattle.rx_rules.specs.After.{owing_abort, owing_ackall, owing_busy}
use Rattle.rx_table.specs.declared.seat.Seat.{Seat}
use Rattle.rx_node.proofs.Steps.OwingSteps.{Owing}

-- an ABORT
pub abort_owing : (seat : Seat) (owed code : ℤ) → owed ≡ code
    → Owing seat (record seat { owed_abort = Some owed }) (owing_abort (Some code))
abort_owing seat owed code same =
    record {
      live = refl;
      ended = refl;
      number = λ q. refl;
      owes = λ q o. record {
        number = o.number;
        abort = ap (λ (z : ℤ). Some z) same;
        busy = o.busy;
        challenge = o.challenge;
        response = o.response;
        ackall = o.ackall;
      };
    }

-- a BUSY
pub busy_owing : (seat : Seat) (number : ℕ) → Owing seat (record seat { owed_busy = Some number }) (owing_busy number)
busy_owing seat number =
    record {
      live = refl;
      ended = refl;
      number = λ q. refl;
      owes = λ q o. record {
        number = o.number;
        abort = o.abort;
        busy = refl;
        challenge = o.challenge;
        response = o.response;
        ackall = o.ackall;
      };
    }

-- an ACKALL
pub ackall_owing : (seat : Seat) → Owing seat (record seat { owed_ackall = true }) (owing_ackall true)
ackall_owing seat =
    record {
      live = refl;
      ended = refl;
      number = λ q. refl;
      owes = λ q o. record {
        number = o.number;
        abort = o.abort;
        busy = o.busy;
        challenge = o.challenge;
        response = o.response;
        ackall = refl;
      };
    }

-- a CHALLENGE
pub challenge_owing : (seat : Seat)
    → Owing seat (record seat { owed_challenge = true }) (λ q. record q { owed_challenge = true })
challenge_owing seat =
    record {
      live = refl;
      ended = refl;
      number = λ q. refl;
      owes = λ q o. record {
        number = o.number;
        abort = o.abort;
        busy = o.busy;
        challenge = refl;
        response = o.response;
        ackall = o.ackall;
      };
    }

-- a RESPONSE, that of another seat
pub response_owing : (seat other : Seat) (bytes : List ℕ) → option_map (λ xs. xs.items) other.owed_response ≡ Some bytes
    → Owing seat (record seat { owed_response = other.owed_response }) (λ q. record q { owed_response = Some bytes })
response_owing seat other bytes same =
    record {
      live = refl;
      ended = refl;
      number = λ q. refl;
      owes = λ q o. record {
        number = o.number;
        abort = o.abort;
        busy = o.busy;
        challenge = o.challenge;
        response = same;
        ackall = o.ackall;
      };
    }

-- what is said of a result that is Ok
pub ok_says : {T E : Type 0} (r : Result T E) (P : Type 0) → IsOk r → OnOk r P → P
ok_says (Ok x) P is says = says
ok_says (Err e) P is says = absurd (false≢true is)
