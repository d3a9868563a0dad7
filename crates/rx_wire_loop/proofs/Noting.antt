-- One event of a node without a line, which is noted.
use Rattle.std.proofs.Common.{◌≡◌, ◌≤◌, ℕ, List, [], ◌∷◌, Option, Some, None, refl, sym, ap, subst}
use Rattle.rx_model.specs.declared.event.Event.{Event}
use Rattle.rx_model.specs.declared.event.Noted.{Noted}
use Rattle.rx_base.specs.Sink.{Gained}
use Rattle.rx_history.proofs.Moments.{now-after}
use Rattle.rx_history.specs.Sides.{with_clock}
use Rattle.rx_rules.specs.After.{looks}
use Rattle.rx_rules.specs.Setup.{Setup}
use Rattle.rx_wire.specs.Journal.{HasNoted}
use Rattle.rx_wire.specs.Turns.{noted}
use Rattle.rx_wire.proofs.TurnLaws.{HasNotedAll-one}
use Rattle.rx_drive.specs.declared.stop.Stop.TheVariants as stops
use Rattle.rx_drive.specs.Nodes.{Answers}
use Rattle.rx_wire_loop.specs.Parts.{Cut, Part, Place, To}
use Rattle.rx_wire_loop.specs.Runs.{IsAt, Plays, change}
use Rattle.rx_wire_loop.specs.Tells.{Gains, Refuses, SinkTells, WireTells, told}
use Rattle.rx_wire_loop.specs.Texts.{event_line, lines}
use Rattle.rx_wire_loop.proofs.Telling.{gained_none, gains_same, logged_none}

-- the lines of one event without a line
lines_one : (e : Event) → event_line e ≡ [] → lines (e ∷ []) ≡ []
lines_one e none = rw none refl

module _ (n : ℕ) (s : Setup) (s0 s1 : List Event → Type 0) (book after : Option (List Noted)) (sink : SinkTells)
    (wire : WireTells) (e : Event) (quiet : event_line e ≡ []) where
  put_nothing : Gained sink.put sink.put (lines (e ∷ []))
  put_nothing = subst (λ (xs : List ℕ). Gained sink.put sink.put xs) (sym (lines_one e quiet)) (gained_none sink.put)

  pub noted_gains : HasNoted book after (noted n e) → Gains n (told book sink wire) (told after sink wire) (e ∷ []) []
  noted_gains one =
      record {
        noted = HasNotedAll-one book after n e one;
        put = put_nothing;
        log = logged_none wire.traffic;
        puts = refl;
        calls = refl;
      }

  pub note_refused : after ≡ book → Refuses n (told book sink wire) (told after sink wire) (e ∷ []) []
  note_refused same =
      record {
        early = [];
        last = e;
        are = refl;
        gains = gains_same n (told book sink wire) (told after sink wire)
            (ap (λ (b : Option (List Noted)). told b sink wire) same);
      }

  -- it was noted
  pub one_noted : {A : Type 0} (part : Part A) (x : A) (shows : A → Type 0) → Answers s s0 s1 e
      → ((p : Place) → IsAt s s0 (told book sink wire) p
      → part p (e ∷ []) [] (To x) × (with_clock e ((looks s p.history).now) ≤ p.now))
      → shows x → HasNoted book after (noted n e)
      → Plays (change n s s0 s1 (told book sink wire) (told after sink wire)) part shows None
  one_noted part x shows answers made there one p at =
      (let m = made p at in
      record {
        events = e ∷ [];
        log = [];
        came = To x;
        made = m.0;
        legal = λ is. ((answers p.history at.standing).0, is);
        fits = (
          there,
          noted_gains one,
          record {
            standing = (answers p.history at.standing).1;
            now = at.now;
            later = subst (λ (t : ℕ). t ≤ p.now) (sym (now-after s (looks s p.history) e)) m.1;
          },
        );
      })

  -- its note was refused
  pub one_refused : {A : Type 0} (part : Part A) (shows : A → Type 0) → Answers s s0 s1 e
      → ((p : Place) → IsAt s s0 (told book sink wire) p → part p (e ∷ []) [] (Cut stops.Unnoted))
      → after ≡ book
      → Plays (change n s s0 s1 (told book sink wire) (told after sink wire)) part shows (Some stops.Unnoted)
  one_refused part shows answers made same p at =
      record {
        events = e ∷ [];
        log = [];
        came = Cut stops.Unnoted;
        made = made p at;
        legal = λ is. ((answers p.history at.standing).0, is);
        fits = (refl, note_refused same);
      }
