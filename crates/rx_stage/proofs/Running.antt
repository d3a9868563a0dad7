-- How what was made of parts is what was made of a part that has them.
use Rattle.std.proofs.Common.{◌≡◌, ℕ, List, [], ◌∷◌, ◌++◌, Option, Some, None, refl, inl, inr, append-nil}
use Rattle.rx_model.specs.declared.event.Event.{Event}
use Rattle.rx_model.specs.declared.event.Noted.{Noted}
use Rattle.rx_script.specs.declared.outcome.PlanWhy.{PlanWhy}
use Rattle.rx_wire.specs.Turns.{noted}
use Rattle.rx_stage.specs.declared.stop.Stop.{Stop}
use Rattle.rx_stage.specs.declared.stop.Stop.TheVariants as stops
use Rattle.rx_plan.specs.Parts.{Came, To, Refused, Cut, Endless, One, Part, Then, cut_behind, ends}
use Rattle.rx_stage.specs.Ran.{Fits, Ran}
use Rattle.rx_stage.specs.Ran.{fits_endless, fits_to, fits_refused, fits_wants, fits_fails}
use Rattle.rx_plan.specs.Parts.{makes, not_made}
use Rattle.rx_stage.specs.Tells.{Gains, IsTold, Told, fails_last, gains_none, gains_one}
use Rattle.rx_stage.specs.Tells.{wants_last, wants_more}
use Rattle.rx_run.proofs.Telling.{fails_behind, gains_both, wants_behind}

-- ---- nothing was made

-- this was come to
pub ran_to : {A : Type 0} (shows : A → Type 0) (a : A) (t : Told) → shows a → Ran (ends (To a)) shows None t t
ran_to shows a t there =
    record { events = []; came = To a; made = (refl, inl refl); fits = fits_to a t t [] there (gains_none t) }

-- memory is wanted
pub ran_wants : {A : Type 0} (shows : A → Type 0) (came : Came A) (t : Told)
    → Ran (ends came) shows (Some stops.OutOfMemory) t t
ran_wants shows came t =
    record { events = []; came = Cut; made = (refl, inr refl); fits = fits_wants t t [] (wants_more t) }

-- it is refused
pub ran_refused : {A : Type 0} (shows : A → Type 0) (why : PlanWhy) (t : Told)
    → Ran (ends (Refused why)) shows (Some (stops.Refused why)) t t
ran_refused shows why t =
    record { events = []; came = Refused why; made = (refl, inl refl); fits = fits_refused why t t [] (gains_none t) }

-- ---- one part and then another

-- behind events that were told whole
fits_behind : {B : Type 0} (shows : B → Type 0) (a b c : Told) (es more : List Noted) (stop : Option Stop)
    (came : Came B) → Gains a b es → Fits shows came stop b c more → Fits shows came stop a c (es ++ more)
fits_behind shows a b c es more stop came told (fits_to x old new them there rest) =
    fits_to x a c (es ++ more) there (gains_both told rest)
fits_behind shows a b c es more stop came told (fits_refused why old new them rest) =
    fits_refused why a c (es ++ more) (gains_both told rest)
fits_behind shows a b c es more stop came told (fits_wants old new them rest) =
    fits_wants a c (es ++ more) (wants_behind told rest)
fits_behind shows a b c es more stop came told (fits_fails old new them rest) =
    fits_fails a c (es ++ more) (fails_behind told rest)
fits_behind shows a b c es more stop came told (fits_endless old new them rest) =
    fits_endless a c (es ++ more) (gains_both told rest)

module _ {A B : Type 0} (first : Part A) (next : A → Part B) where
  -- events, what was come to by them and the next part are both parts
  pub both : (after : B → Type 0) (stop : Option Stop) (a b c : Told) (es : List Noted) (x : A) → first es (To x)
      → Gains a b es → Ran (next x) after stop b c → Ran (Then first next) after stop a c
  both after stop a b c es x made told m =
      record {
        events = es ++ m.events;
        came = m.came;
        made = record { front = es; rest = m.events; are = refl; came = To x; made = made; goes = m.made };
        fits = fits_behind after a b c es m.events stop m.came told m.fits;
      }

  -- the first was made whole, and the next one then
  pub ran_then : (shows : A → Type 0) (after : B → Type 0) (stop : Option Stop) (a b c : Told)
      → Ran first shows None a b → ((x : A) → shows x → Ran (next x) after stop b c)
      → Ran (Then first next) after stop a c
  ran_then shows after stop a b c r more = of r.events r.came r.made r.fits
    where
      of : (es : List Noted) (came : Came A) → first es came → Fits shows came None a b es
          → Ran (Then first next) after stop a c
      of es came made (fits_to x old new them there told) =
          both after stop a b c es x made told (more x there)

  -- the first ended the run
  pub ran_stops : (shows : A → Type 0) (after : B → Type 0) (stop : Stop) (a b : Told) → Ran first shows (Some stop) a b
      → Ran (Then first next) after (Some stop) a b
  ran_stops shows after stop a b r = of r.events r.came stop r.made r.fits
    where
      cut : (es : List Noted) (why : Stop) → first es Cut → Fits after Cut (Some why) a b (es ++ [])
          → Ran (Then first next) after (Some why) a b
      cut es why made fits =
          record {
            events = es ++ [];
            came = Cut;
            made = record { front = es; rest = []; are = refl; came = Cut; made = made; goes = (refl, inl refl) };
            fits = fits;
          }

      of : (es : List Noted) (came : Came A) (why : Stop) → first es came → Fits shows came (Some why) a b es
          → Ran (Then first next) after (Some why) a b
      of es came stop made (fits_refused why old new them told) =
          record {
            events = es ++ [];
            came = Refused why;
            made = record {
              front = es;
              rest = [];
              are = refl;
              came = Refused why;
              made = made;
              goes =
                  (refl, inl refl);
            };
            fits = fits_refused why a b (es ++ []) (gains_both told (gains_none b));
          }
      of es came stop made (fits_wants old new them told) =
          cut es stops.OutOfMemory made (fits_wants a b (es ++ []) (rw (append-nil es) told))
      of es came stop made (fits_fails old new them told) =
          cut es stops.SinkFault made (fits_fails a b (es ++ []) (rw (append-nil es) told))
      of es came stop made (fits_endless old new them told) =
          record {
            events = es ++ [];
            came = Endless;
            made = record { front = es; rest = []; are = refl; came = Endless; made = made; goes = (refl, inl refl) };
            fits = fits_endless a b (es ++ []) (gains_both told (gains_none b));
          }

-- ---- one event

-- an event was made, and this was told of it
pub ran_one : (node : ℕ) (is : Event → Type 0) (e : Event) (stop : Option Stop) (a b : Told) → is e
    → IsTold stop a b (noted node e) → Ran (One node is) (λ x. x ≡ e) stop a b
ran_one node is e None a b there told =
    record {
      events = noted node e ∷ [];
      came = To e;
      made = makes e there;
      fits = fits_to e a b _ refl (gains_one a b b (noted node e) [] told (gains_none b));
    }
ran_one node is e (Some stops.OutOfMemory) a b there told =
    record {
      events = noted node e ∷ [];
      came = Cut;
      made = cut_behind e there;
      fits = fits_wants a b _ (wants_last a b (noted node e) told);
    }
ran_one node is e (Some stops.SinkFault) a b there told =
    record {
      events = noted node e ∷ [];
      came = Cut;
      made = cut_behind e there;
      fits = fits_fails a b _ (fails_last a b (noted node e) told);
    }
ran_one node is e (Some (stops.Refused why)) a b there told = elim told [ ]
ran_one node is e (Some stops.Endless) a b there told = elim told [ ]

-- memory is wanted before it is made
pub ran_none : (node : ℕ) (is : Event → Type 0) (shows : Event → Type 0) (t : Told)
    → Ran (One node is) shows (Some stops.OutOfMemory) t t
ran_none node is shows t =
    record { events = []; came = Cut; made = not_made; fits = fits_wants t t [] (wants_more t) }
