-- What a journal and a sink tell of an event, as what drives a node has it.
use Rattle.std.proofs.Common.{◌≡◌, List, [], ◌∷◌, ℕ, Option, Some, None, refl, sym, ap, subst}
use Rattle.rx_base.specs.Sink.{Gained}
use Rattle.rx_model.specs.declared.event.Event.{Event}
use Rattle.rx_model.specs.declared.event.Noted.{Noted}
use Rattle.rx_wire.specs.Journal.{HasNoted}
use Rattle.rx_wire.specs.Turns.{noted}
use Rattle.rx_drive.specs.Tells.{GainedMuch, Grows, TellsOf, one_event}
use Rattle.rx_drive.specs.declared.stop.Stop.{Stop}
use Rattle.rx_drive.specs.declared.stop.Stop.TheVariants as stops
use Rattle.rx_drive.proofs.Gaining.{grows_none}
use Rattle.rx_wire_loop.specs.Lines.{PutsLine}
use Rattle.rx_wire_loop.specs.Ports.{NotesOne}
use Rattle.rx_wire_loop.specs.Tells.{SinkTells, outside}
use Rattle.rx_wire_loop.specs.Texts.{event_line, noted_line}

grows_one : (a b : Option (List Noted)) (m : Noted) → HasNoted a b m → Grows a b (m ∷ [])
grows_one None b m is = is
grows_one (Some old) b m is = is

grows_by : (a b : Option (List ℕ)) (xs : List ℕ) → Gained a b xs → Grows a b xs
grows_by None b xs is = is
grows_by (Some old) b xs is = is

module _ (n : ℕ) (a b : Option (List Noted)) (k : SinkTells) (e : Event) where
  -- the event was noted, and what its line has was put
  noted_with : (l : SinkTells) (xs : List ℕ) → HasNoted a b (noted n e) → Grows k.put l.put xs → l.faults ≡ k.faults
      → GainedMuch (outside a k) (outside b l) (record { events = noted n e ∷ []; bytes = xs; entries = [] })
  noted_with l xs one put puts =
      record {
        noted = grows_one a b (noted n e) one;
        put = put;
        log = refl;
        puts = puts;
        calls = refl;
        moment = refl;
      }

  -- it was noted, and this became of its line
  pub tells_lined : (l : SinkTells) (stop : Option Stop) → HasNoted a b (noted n e) → PutsLine k l (event_line e) stop
      → TellsOf noted_line stop (outside a k) (outside b l) (noted n e)
  tells_lined l None one puts = noted_with l (event_line e) one (grows_by k.put l.put (event_line e) puts.0) puts.1
  tells_lined l (Some stops.SinkFault) one puts =
      record {
        between = outside b k;
        noted = noted_with k [] one (grows_none k.put) refl;
        put = puts.0;
        puts = puts.1;
        same = refl;
        some = puts.2;
      }
  tells_lined l (Some stops.Unformatted) one puts = (
    subst (λ (m : SinkTells). GainedMuch (outside a k) (outside b m) (one_event (noted n e))) (sym puts.0)
        (noted_with k [] one (grows_none k.put) refl),
    puts.1,
  )
  tells_lined l (Some stops.WireFault) one puts = absurd puts
  tells_lined l (Some stops.OutOfMemory) one puts = absurd puts
  tells_lined l (Some stops.Unnoted) one puts = absurd puts
  tells_lined l (Some stops.Endless) one puts = absurd puts

  -- by what became of its note, where no line is put
  pub tells_noted : (stop : Option Stop) → NotesOne n a b e stop → Grows k.put k.put (event_line e)
      → TellsOf noted_line stop (outside a k) (outside b k) (noted n e)
  tells_noted None one put = noted_with k (event_line e) one put refl
  tells_noted (Some stops.Unnoted) same put = ap (λ (o : Option (List Noted)). outside o k) same
  tells_noted (Some stops.OutOfMemory) none put = absurd none
  tells_noted (Some stops.SinkFault) none put = absurd none
  tells_noted (Some stops.WireFault) none put = absurd none
  tells_noted (Some stops.Endless) none put = absurd none
  tells_noted (Some stops.Unformatted) none put = absurd none
