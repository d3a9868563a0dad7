-- How what was made of parts is what was made of a part that has them.
use Rattle.std.proofs.Common.{◌≡◌, ◌∙◌, ℕ, List, [], ◌∷◌, ◌++◌, Option, Some, None, refl, sym, ap, subst, inl, inr}
use Rattle.std.proofs.Common.{append-nil, append_assoc}
use Rattle.rx_model.specs.declared.event.Event.{Event}
use Rattle.rx_model.specs.declared.event.Noted.{Noted}
use Rattle.rx_rules.specs.Setup.{Setup}
use Rattle.rx_run.specs.Parts.{Came, To, Ended, Cut, Endless, Part, Then, cut_behind, each, ends, goes_on, makes}
use Rattle.rx_run.specs.Tells.{Gains, gains_none, gains_one}
use Rattle.rx_run.proofs.Telling.{gains_both}
use Rattle.rx_wire.specs.Turns.{noted}
use Rattle.rx_drive.specs.Events.{event}
use Rattle.rx_drive.specs.Nodes.{Answers, node_stages}
use Rattle.rx_drive.specs.Ran.{Fault, Fits, Ran, fits_failed, fits_endless, fits_last, fits_to, fits_wants}
use Rattle.rx_drive.specs.Ran.{wants_memory, wire_failed}
use Rattle.rx_drive.specs.Tells.{IsTold, Made, Step, Told, telling}
use Rattle.rx_drive.specs.declared.stop.Stop.{Stop}

module _ (line : Noted → List ℕ) where
  -- nothing was made, and this was come to
  pub ran_to : {A : Type 0} (shows : A → Type 0) (x : A) (t : Told) → shows x → Ran line (ends (To x)) shows None t t
  ran_to shows x t there =
      record { steps = []; came = To x; made = (refl, inl refl); fits = fits_to x t t [] there (gains_none t) }

  -- ---- one part and then another

  -- behind steps that were told whole
  fits_behind : {B : Type 0} (shows : B → Type 0) (a b c : Told) (es more : List Step) (stop : Option Stop)
      (came : Came Fault B) → Gains (telling line) a b es → Fits line shows came stop b c more
      → Fits line shows came stop a c (es ++ more)
  fits_behind shows a b c es more stop came told (fits_to x old new them there rest) =
      fits_to x a c (es ++ more) there (gains_both told rest)
  fits_behind shows a b c es more stop came told (fits_failed old mid new them rest breaks) =
      fits_failed a mid c (es ++ more) (gains_both told rest) breaks
  fits_behind shows a b c es more stop came told (fits_wants old new them rest) =
      fits_wants a c (es ++ more) (gains_both told rest)
  fits_behind shows a b c es more stop came told (fits_last why old new them last) =
      fits_last why a c (es ++ more)
      (record {
        early = es ++ last.early;
        last = last.last;
        between = last.between;
        are = ap (λ (xs : List Step). es ++ xs) last.are ∙ sym (append_assoc es last.early (last.last ∷ []));
        told = gains_both told last.told;
        ends = last.ends;
      })
  fits_behind shows a b c es more stop came told (fits_endless old new them rest) =
      fits_endless a c (es ++ more) (gains_both told rest)

  -- the first was made whole, and the next one then
  pub ran_then : {A B : Type 0} (first : Part Step Fault A) (next : A → Part Step Fault B) (shows : A → Type 0)
      (after : B → Type 0) (stop : Option Stop) (a b c : Told) → Ran line first shows None a b
      → ((x : A) → shows x → Ran line (next x) after stop b c) → Ran line (Then first next) after stop a c
  ran_then {A} {B} first next shows after stop a b c r more = of r.steps r.came r.made r.fits
    where
      of : (es : List Step) (came : Came Fault A) → first es came → Fits line shows came None a b es
          → Ran line (Then first next) after stop a c
      of es came made (fits_to x old new them there told) =
          (let m : Ran line (next x) after stop b c = more x there in
          record {
            steps = es ++ m.steps;
            came = m.came;
            made = record { front = es; rest = m.steps; are = refl; came = To x; made = made; goes = m.made };
            fits = fits_behind after a b c es m.steps stop m.came told m.fits;
          })

  -- the first ended the run
  pub ran_stops : {A B : Type 0} (first : Part Step Fault A) (next : A → Part Step Fault B) (shows : A → Type 0)
      (after : B → Type 0) (stop : Stop) (a b : Told) → Ran line first shows (Some stop) a b
      → Ran line (Then first next) after (Some stop) a b
  ran_stops {A} {B} first next shows after stop a b r = of r.steps r.came stop r.made r.fits
    where
      behind : (es : List Step) (x : Came Fault A) (y : Came Fault B) → first es x → goes_on next x [] y
          → Then first next es y
      behind es x y made goes =
          record { front = es; rest = []; are = sym (append-nil es); came = x; made = made; goes = goes }

      of : (es : List Step) (came : Came Fault A) (why : Stop) → first es came → Fits line shows came (Some why) a b es
          → Ran line (Then first next) after (Some why) a b
      of es came why made (fits_failed old mid new them told breaks) =
          record {
            steps = es;
            came = Ended wire_failed;
            made = behind es (Ended wire_failed) (Ended wire_failed) made (refl, inl refl);
            fits = fits_failed a mid b es told breaks;
          }
      of es came why made (fits_wants old new them told) =
          record {
            steps = es;
            came = Ended wants_memory;
            made = behind es (Ended wants_memory) (Ended wants_memory) made (refl, inl refl);
            fits = fits_wants a b es told;
          }
      of es came why made (fits_last stop old new them last) =
          record {
            steps = es;
            came = Cut;
            made = behind es Cut Cut made (refl, inl refl);
            fits = fits_last stop a b es last;
          }
      of es came why made (fits_endless old new them told) =
          record {
            steps = es;
            came = Endless;
            made = behind es Endless Endless made (refl, inl refl);
            fits = fits_endless a b es told;
          }

  -- ---- one event

  -- an event of a node was made, and this was told of it
  pub ran_event : (s : Setup) (stood stands : List Event → Type 0) (node : ℕ) (is : Event → Type 0) (e : Event)
      (stop : Option Stop) (a b : Told) → is e → Answers s stood stands e → IsTold line stop a b (noted node e)
      → (h : List Event) → stood h → Ran line (event (node_stages s) node is h) stands stop a b
  ran_event s stood stands node is e None a b there answers told h stood_there =
      record {
        steps = Made (noted node e) ∷ [];
        came = To (e ∷ h);
        made = record {
          front = Made (noted node e) ∷ [];
          rest = [];
          are = refl;
          came = To e;
          made = makes e (there, (answers h stood_there).0);
          goes = (refl, inl refl);
        };
        fits = fits_to (e ∷ h) a b (Made (noted node e) ∷ []) (answers h stood_there).1
            (gains_one a b b (Made (noted node e)) [] told (gains_none b));
      }
  ran_event s stood stands node is e (Some stop) a b there answers told h stood_there =
      record {
        steps = Made (noted node e) ∷ [];
        came = Cut;
        made = record {
          front = Made (noted node e) ∷ [];
          rest = [];
          are = refl;
          came = Cut;
          made = cut_behind e (there, (answers h stood_there).0);
          goes = (refl, inl refl);
        };
        fits = fits_last stop a b (Made (noted node e) ∷ [])
            (record {
              early = [];
              last = Made (noted node e);
              between = a;
              are = refl;
              told = gains_none a;
              ends = told;
            });
      }

-- ---- one part for each of a list

module _ {A X : Type 0} (part : X → A → Part Step Fault A) where
  -- of one list, and then of another
  each_both : (xs ys : List X) (s t : A) (es fs : List Step) (out : Came Fault A) → each part xs s es (To t)
      → each part ys t fs out → each part (xs ++ ys) s (es ++ fs) out
  each_both [] ys s t es fs out (none, inl same) next =
      subst (λ (zs : List Step). each part ys s (zs ++ fs) out) (sym none)
      (let back : t ≡ s = cc in subst (λ (u : A). each part ys u fs out) back next)
  each_both [] ys s t es fs out (none, inr cut) next = absurd cc
  each_both (x ∷ xs) ys s t es fs out first next =
      of (λ u rest made. each_both xs ys u t rest fs out made next) first.came first.made first.goes
    where
      of : ((u : A) (rest : List Step) → each part xs u rest (To t) → each part (xs ++ ys) u (rest ++ fs) out)
          → (came : Came Fault A) → part x s first.front came → goes_on (each part xs) came first.rest (To t)
          → each part ((x ∷ xs) ++ ys) s (es ++ fs) out
      of later (To u) made goes =
          record {
            front = first.front;
            rest = first.rest ++ fs;
            are = ap (λ (zs : List Step). zs ++ fs) first.are ∙ append_assoc first.front first.rest fs;
            came = To u;
            made = made;
            goes = later u first.rest goes;
          }
      of later (Ended why) made (none, inl same) = absurd cc
      of later (Ended why) made (none, inr same) = absurd cc
      of later Cut made (none, inl same) = absurd cc
      of later Cut made (none, inr same) = absurd cc
      of later Endless made (none, inl same) = absurd cc
      of later Endless made (none, inr same) = absurd cc

  module _ (line : Noted → List ℕ) where
    -- the parts of one list were made whole, and those of another then
    pub ran_both : (xs ys : List X) (s : A) (shows after : A → Type 0) (stop : Option Stop) (a b c : Told)
        → Ran line (each part xs s) shows None a b → ((t : A) → shows t → Ran line (each part ys t) after stop b c)
        → Ran line (each part (xs ++ ys) s) after stop a c
    ran_both xs ys s shows after stop a b c r more = of r.steps r.came r.made r.fits
      where
        of : (es : List Step) (came : Came Fault A) → each part xs s es came → Fits line shows came None a b es
            → Ran line (each part (xs ++ ys) s) after stop a c
        of es came made (fits_to t old new them there told) =
            (let m : Ran line (each part ys t) after stop b c = more t there in
            record {
              steps = es ++ m.steps;
              came = m.came;
              made = each_both xs ys s t es m.steps m.came made m.made;
              fits = fits_behind line after a b c es m.steps stop m.came told m.fits;
            })

    -- one more of a list
    pub ran_more : (xs : List X) (x : X) (s : A) (shows after : A → Type 0) (a b c : Told)
        → Ran line (each part xs s) shows None a b → ((t : A) → shows t → Ran line (part x t) after None b c)
        → Ran line (each part (xs ++ x ∷ []) s) after None a c
    ran_more xs x s shows after a b c r more =
        ran_both xs (x ∷ []) s shows after None a b c r
        (λ t there. ran_then line (part x t) (each part []) after after None b c c (more t there)
        (λ u is. ran_to line after u c is))

    -- the run ended in the next one of a list
    pub ran_ends : (xs : List X) (x : X) (zs : List X) (s : A) (shows after : A → Type 0) (stop : Stop) (a b c : Told)
        → Ran line (each part xs s) shows None a b → ((t : A) → shows t → Ran line (part x t) after (Some stop) b c)
        → Ran line (each part (xs ++ x ∷ zs) s) after (Some stop) a c
    ran_ends xs x zs s shows after stop a b c r more =
        ran_both xs (x ∷ zs) s shows after (Some stop) a b c r
        (λ t there. ran_stops line (part x t) (each part zs) after after stop b c (more t there))
