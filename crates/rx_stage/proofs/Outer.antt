-- What a journal and a sink tell of an event, as the driver of nodes has it.
use Rattle.std.proofs.Common.{◌≡◌, ◌≢◌, ◌∙◌, ℕ, List, [], ◌∷◌, ◌++◌, Option, Some, None, refl}
use Rattle.rx_model.specs.declared.event.Noted.{Noted}
use Rattle.rx_wire.specs.Journal.{HasNoted}
use Rattle.rx_drive.specs.Tells.{GainedMuch, Grows, TellsOf, one_event}
use Rattle.rx_drive.specs.declared.stop.Stop.{Stop}
use Rattle.rx_drive.specs.declared.stop.Stop.TheVariants as stops
use Rattle.rx_stage.specs.Driving.{PutsLine, outside}
use Rattle.rx_stage.specs.Tells.{event_line}
use Rattle.rx_drive.proofs.Gaining.{grows_none}

some_behind : (xs : List ℕ) (x : ℕ) → xs ++ x ∷ [] ≢ []
some_behind [] x is = absurd cc
some_behind (y ∷ xs) x is = absurd cc

grows_one : (a b : Option (List Noted)) (n : Noted) → HasNoted a b n → Grows a b (n ∷ [])
grows_one None b n is = is
grows_one (Some old) b n is = is

module _ (a b : Option (List Noted)) (x y : Option (List ℕ)) (f g : ℕ) (n : Noted) where
  -- the event alone was noted
  noted_alone : HasNoted a b n → GainedMuch (outside a x f) (outside b x f) (one_event n)
  noted_alone one =
      record {
        noted = grows_one a b n one;
        put = grows_none x;
        log = refl;
        puts = refl;
        calls = refl;
        moment = refl;
      }

  -- it was noted, and this became of its line
  pub tells_of : (stop : Option Stop) → HasNoted a b n → PutsLine (event_line n) x y f g stop
      → TellsOf event_line stop (outside a x f) (outside b y g) n
  tells_of None one puts =
      record {
        noted = grows_one a b n one;
        put = puts.0;
        log = refl;
        puts = puts.1;
        calls = refl;
        moment = refl;
      }
  tells_of (Some stops.SinkFault) one puts =
      record {
        between = outside b x f;
        noted = noted_alone one;
        put = puts.0;
        puts = puts.1;
        same = refl;
        some = some_behind _ 10;
      }
  tells_of (Some stops.Unformatted) one puts = (
    rw (puts.0, puts.1) (noted_alone one),
    some_behind _ 10,
  )
  tells_of (Some stops.WireFault) one puts = puts
  tells_of (Some stops.OutOfMemory) one puts = puts
  tells_of (Some stops.Unnoted) one puts = absurd puts
  tells_of (Some stops.Endless) one puts = puts
