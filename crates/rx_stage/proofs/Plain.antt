-- What a journal and a sink tell, as the driver of nodes has it, is what a plan says of them; and so is what was made.
use Rattle.std.proofs.Common.{◌≡◌, ◌∙◌, ◌-◌, ℕ, List, [], ◌∷◌, ◌++◌, Option}
use Rattle.std.proofs.Common.{Some, None, refl, sym, subst, ap, inl, inr, option_map}
use Rattle.rx_base.specs.Sink.{Gained, GainedSome, HasRisen}
use Rattle.rx_drive.specs.Ran as ran
use Rattle.rx_drive.specs.Ran.{Fault, wants_memory, wire_failed}
use Rattle.rx_drive.specs.Tells as tells
use Rattle.rx_drive.specs.Tells.{Entry, GainedMuch, Grows, Made, Step, telling}
use Rattle.rx_drive.specs.declared.stop.Stop.{Stop as DriveStop}
use Rattle.rx_drive.specs.declared.stop.Stop.TheVariants as drive_stops
use Rattle.rx_model.specs.declared.event.Noted.{Noted}
use Rattle.rx_plan.specs.Parts.{Part}
use Rattle.rx_run.proofs.Telling.{fails_behind, wants_behind, wants_then}
use Rattle.rx_run.specs.Parts as run_parts
use Rattle.rx_run.specs.Parts.{Came, Cut, Ended, Endless, To}
use Rattle.rx_run.specs.Tells as run
use Rattle.rx_wire.specs.Journal.{HasNoted}
use Rattle.rx_wire.specs.Wire.{Logged}
use Rattle.rx_stage.specs.Driving.{plan_stop}
use Rattle.rx_stage.specs.Ran.{Fits, Ran, fits_endless, fits_fails, fits_to, fits_wants}
use Rattle.rx_stage.specs.Tells.{FailsOne, FitsNoted, Gains, GainsOne, IsTold, Told, WantsOne, event_line, fails_last}
use Rattle.rx_stage.specs.Tells.{gains_none}
use Rattle.rx_stage.specs.Tells.{gains_one, told, wants_last}
use Rattle.rx_stage.specs.declared.stop.Stop.{Stop}
use Rattle.rx_stage.specs.declared.stop.Stop.TheVariants as stops
use Rattle.rx_drive.proofs.Gaining.{grows_same}

-- ---- what is told

-- what a journal and a sink tell of it
abbrev pub plain : tells.Told → Told
plain t = told t.noted t.put t.puts

-- the events among steps
abbrev pub events_of : List Step → List Noted
events_of [] = []
events_of (Made n ∷ ss) = n ∷ events_of ss
events_of (Entry l ∷ ss) = events_of ss

noted_one : (a b : Option (List Noted)) (n : Noted) → Grows a b (n ∷ []) → HasNoted a b n
noted_one None b n is = is
noted_one (Some old) b n is = is

put_all : (a b : Option (List ℕ)) (bytes : List ℕ) → Grows a b bytes → Gained a b bytes
put_all None b bytes is = is
put_all (Some old) b bytes is = is

fits_one : (n : Noted) → tells.FitsNoted n → FitsNoted n
fits_one n f = record { node = f.node; event = f.event }

-- an event that was told whole
whole_plain : (a b : tells.Told) (n : Noted) → tells.IsTold event_line None a b n → GainsOne (plain a) (plain b) n
whole_plain a b n (fits, g) =
    record {
      fits = fits_one n fits;
      noted = noted_one a.noted b.noted n g.noted;
      put = put_all a.put b.put (event_line n) g.put;
      faults = g.puts;
    }

-- an entry of a log alone is nothing to a plan
plain_same : (a b : tells.Told) (ls : List Logged) → GainedMuch a b (tells.logs ls) → plain b ≡ plain a
plain_same a b ls g =
    rw (grows_same a.noted b.noted g.noted, grows_same a.put b.put g.put, g.puts) refl

gains_plain : (a b : tells.Told) (ss : List Step) → run.Gains (telling event_line) a b ss
    → Gains (plain a) (plain b) (events_of ss)
gains_plain a b ss (gains_none x) = gains_none (plain x)
gains_plain a b ss (gains_one x y z (Made n) es one rest) =
    gains_one (plain x) (plain y) (plain z) n (events_of es) (whole_plain x y n one) (gains_plain y z es rest)
gains_plain a b ss (gains_one x y z (Entry l) es one rest) =
    subst (λ (t : Told). Gains t (plain z) (events_of es)) (plain_same x y (l ∷ []) one) (gains_plain y z es rest)

pub events_both : (xs ys : List Step) → events_of (xs ++ ys) ≡ events_of xs ++ events_of ys
events_both [] ys = refl
events_both (Made n ∷ xs) ys = ap (λ (es : List Noted). n ∷ es) (events_both xs ys)
events_both (Entry l ∷ xs) ys = events_both xs ys

-- the sink failed at an event's line
fails_plain : (a b : tells.Told) (n : Noted) → tells.IsTold event_line (Some drive_stops.SinkFault) a b n
    → FailsOne (plain a) (plain b) n
fails_plain a b n (fits, f) =
    record {
      fits = fits_one n fits;
      noted = subst (λ (o : Option (List Noted)). HasNoted a.noted o n) (sym (ap (λ (t : tells.Told). t.noted) f.same))
          (noted_one a.noted f.between.noted n f.noted.noted);
      put = subst (λ (o : Option (List ℕ)). GainedSome o b.put (event_line n))
          (grows_same a.put f.between.put f.noted.put) f.put;
      faults = subst (λ (k : ℕ). HasRisen k b.puts) f.noted.puts f.puts;
    }

-- there was no memory for the line
line_plain : (a b : tells.Told) (n : Noted) → tells.IsTold event_line (Some drive_stops.Unformatted) a b n
    → WantsOne (plain a) (plain b) n
line_plain a b n (fits, (g, some)) =
    record {
      fits = fits_one n fits;
      noted = inl (noted_one a.noted b.noted n g.noted);
      put = grows_same a.put b.put g.put;
      faults = g.puts;
    }

-- or for the note
note_plain : (a b : tells.Told) (n : Noted) → tells.IsTold event_line (Some drive_stops.Unnoted) a b n
    → WantsOne (plain a) (plain b) n
note_plain a b n (fits, same) =
    record {
      fits = fits_one n fits;
      noted = inr (ap (λ (t : tells.Told). t.noted) same);
      put = ap (λ (t : tells.Told). t.put) same;
      faults = ap (λ (t : tells.Told). t.puts) same;
    }

-- what was told of one event, by how the run of a plan ends
pub event_plain : (n : Noted) (stop : Option DriveStop) (result : Option Stop) (a b : tells.Told) (c : Told)
    → result ≡ option_map plan_stop stop → c ≡ plain b → tells.IsTold event_line stop a b n
    → IsTold result (plain a) c n
event_plain n stop result a b c ends same one =
    subst (λ (o : Option Stop). IsTold o (plain a) c n) (sym ends)
    (subst (λ (t : Told). IsTold (option_map plan_stop stop) (plain a) t n) (sym same) (of stop one))
  where
    of : (o : Option DriveStop) → tells.IsTold event_line o a b n
        → IsTold (option_map plan_stop o) (plain a) (plain b) n
    of None one = whole_plain a b n one
    of (Some drive_stops.SinkFault) one = fails_plain a b n one
    of (Some drive_stops.Unformatted) one = line_plain a b n one
    of (Some drive_stops.Unnoted) one = note_plain a b n one
    of (Some drive_stops.WireFault) one = absurd one.1
    of (Some drive_stops.OutOfMemory) one = absurd one.1
    of (Some drive_stops.Endless) one = absurd one.1

-- all but the last event were told whole, and the last one not
last_plain : {A : Type 0} (shows : A → Type 0) (stop : DriveStop) (a b : tells.Told) (ss : List Step)
    → ran.ButLast event_line stop a b ss
    → Fits shows Cut (Some (plan_stop stop)) (plain a) (plain b) (events_of ss)
last_plain {A} shows stop a b ss l =
    subst (λ (es : List Noted). Fits shows Cut (Some (plan_stop stop)) (plain a) (plain b) es)
    (sym (ap events_of l.are ∙ events_both l.early (l.last ∷ []))) (of stop l.last l.ends)
  where
    wanted : (n : Noted) → WantsOne (plain l.between) (plain b) n
        → Fits shows Cut (Some stops.OutOfMemory) (plain a) (plain b) (events_of l.early ++ n ∷ [])
    wanted n one =
        fits_wants (plain a) (plain b) (events_of l.early ++ n ∷ [])
        (wants_behind (gains_plain a l.between l.early l.told) (wants_last (plain l.between) (plain b) n one))

    of : (why : DriveStop) (s : Step) → tells.EndsTold event_line why l.between b s
        → Fits shows Cut (Some (plan_stop why)) (plain a) (plain b) (events_of l.early ++ events_of (s ∷ []))
    of drive_stops.SinkFault (Made n) one =
        fits_fails (plain a) (plain b) (events_of l.early ++ n ∷ [])
        (fails_behind (gains_plain a l.between l.early l.told)
        (fails_last (plain l.between) (plain b) n (fails_plain l.between b n one)))
    of drive_stops.Unformatted (Made n) one = wanted n (line_plain l.between b n one)
    of drive_stops.Unnoted (Made n) one = wanted n (note_plain l.between b n one)
    of drive_stops.WireFault (Made n) one = absurd one.1
    of drive_stops.OutOfMemory (Made n) one = absurd one.1
    of drive_stops.Endless (Made n) one = absurd one.1
    of why (Entry e) one = absurd one

-- ---- parts of one node, and of a plan

-- what a part of one node came to, a part of a plan comes to: at something that is shown, where that is; nothing of it
-- ends by a wire
abbrev pub Becomes : {A B : Type 0} → (A → Type 0) → Part B → (B → Type 0) → List Step → Came Fault A → Type 0
Becomes {A} {B} shows part after ss (To a) = shows a → (b : B) × part (events_of ss) (To b) × after b
Becomes {A} {B} shows part after ss (Ended wants_memory) = part (events_of ss) Cut
Becomes {A} {B} shows part after ss (Ended wire_failed) = ⊥
Becomes {A} {B} shows part after ss Cut = part (events_of ss) Cut
Becomes {A} {B} shows part after ss Endless = part (events_of ss) Endless

module _ {A B : Type 0} (first : run_parts.Part Step Fault A) (shows : A → Type 0) (part : Part B) where
  -- what was made of the one and told was made of the other
  pub ran_plan : (after : B → Type 0) (stop : Option DriveStop) (result : Option Stop) (a b : tells.Told)
      → result ≡ option_map plan_stop stop
      → ((ss : List Step) (came : Came Fault A) → first ss came → Becomes shows part after ss came)
      → ran.Ran event_line first shows stop a b → Ran part after result (plain a) (plain b)
  ran_plan after stop result a b ends becomes r =
      subst (λ (o : Option Stop). Ran part after o (plain a) (plain b)) (sym ends)
      (of r.steps r.came stop r.fits (becomes r.steps r.came r.made))
    where
      cut : (ss : List Step) (why : Stop) → part (events_of ss) Cut
          → Fits after Cut (Some why) (plain a) (plain b) (events_of ss) → Ran part after (Some why) (plain a) (plain b)
      cut ss why made fits = record { events = events_of ss; came = Cut; made = made; fits = fits }

      to : (ss : List Step) → ((x : B) × part (events_of ss) (To x) × after x) → run.Gains (telling event_line) a b ss
          → Ran part after None (plain a) (plain b)
      to ss (x, made, there) told =
          record {
            events = events_of ss;
            came = To x;
            made = made;
            fits = fits_to x (plain a) (plain b) (events_of ss) there (gains_plain a b ss told);
          }

      of : (ss : List Step) (came : Came Fault A) (how : Option DriveStop) → ran.Fits event_line shows came how a b ss
          → Becomes shows part after ss came → Ran part after (option_map plan_stop how) (plain a) (plain b)
      of ss came how (ran.fits_to u old new ss2 there told) so = to ss (so there) told
      of ss came how (ran.fits_failed old mid new ss2 told breaks) so = absurd so
      of ss came how (ran.fits_wants old new ss2 told) so =
          cut ss stops.OutOfMemory so
          (fits_wants (plain a) (plain b) (events_of ss) (wants_then (gains_plain a b ss told)))
      of ss came how (ran.fits_last why old new ss2 last) so =
          cut ss (plan_stop why) so (last_plain after why a b ss last)
      of ss came how (ran.fits_endless old new ss2 told) so =
          record {
            events = events_of ss;
            came = Endless;
            made = so;
            fits = fits_endless (plain a) (plain b) (events_of ss) (gains_plain a b ss told);
          }
