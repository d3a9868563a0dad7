-- What was handed in to a node, driven, as parts of passes: its events have no lines, and each is noted.
use Rattle.std.proofs.Common.{◌≡◌, ◌⊎◌, ◌∙◌, ◌≤◌, ℕ, List, [], ◌∷◌, ◌++◌, Option, Some, None, refl, sym, ap, subst, inl}
use Rattle.std.proofs.Common.{inr, arith, append-nil, Result, Ok, Err}
use Rattle.std.specs.Prelude.{IfErr, OnErr}
use Rattle.rx_drive.specs.Events.{event, takes_all}
use Rattle.rx_drive.specs.Nodes.{node_stages}
use Rattle.rx_drive.specs.Ran as driven
use Rattle.rx_drive.specs.Ran.{Fault}
use Rattle.rx_drive.specs.Tells as drive
use Rattle.rx_drive.specs.Tells.{EndsTold, IsTold, Made, Step}
use Rattle.rx_drive.specs.declared.stop.Stop.{Stop}
use Rattle.rx_drive.specs.declared.stop.Stop.TheVariants as stops
use Rattle.rx_events.specs.Events.{IsClocked}
use Rattle.rx_events.specs.Events as calls
use Rattle.rx_history.proofs.Moments.{now-after}
use Rattle.rx_history.specs.Sides.{with_clock}
use Rattle.rx_model.specs.declared.event.Event.{Event}
use Rattle.rx_model.specs.declared.event.Event.TheVariants as events
use Rattle.rx_model.specs.declared.event.Noted.{Noted}
use Rattle.rx_model.specs.declared.names.Host.{Host}
use Rattle.rx_rules.specs.After.{looks}
use Rattle.rx_rules.specs.Rules.{Allowed, Legal}
use Rattle.rx_rules.specs.Setup.{Setup}
use Rattle.rx_run.specs.Parts as run
use Rattle.rx_run.specs.Tells as tells
use Rattle.rx_wire.specs.Turns.{after_all, noted}
use Rattle.rx_wire.specs.Wire.{Logged}
use Rattle.rx_wire_loop.specs.Parts.{Came, Cut, Part, Place, To, makes, refuses}
use Rattle.rx_wire_loop.specs.Ports.{IsTaken, TakesAll, TakesSome, clocks, takes_parts}
use Rattle.rx_wire_loop.specs.Runs.{Fits, IsAt, IsBehind, Plays, Ran, change}
use Rattle.rx_wire_loop.specs.Tells.{Gains, SinkTells, Told, WireTells, outside, told}
use Rattle.rx_wire_loop.specs.Texts.{event_line, lines, noted_line}
use Rattle.rx_wire_loop.proofs.Driven.{LastOf, beside, gains_all, last_of, steps_of}
use Rattle.rx_wire_loop.proofs.Running.{place_of}
use Rattle.rx_wire_loop.proofs.Taking.{Anything}
use Rattle.rx_wire_loop.proofs.Telling.{back_none, front_none, gains_any, lines_last}

-- ---- which events

clocked_is : (now : ℕ) (e : Event) → IsClocked now e → e ≡ events.Clocked now
clocked_is now (events.Clocked moment) is = ap (λ (m : ℕ). events.Clocked m) is
clocked_is now e is = elim is [ ]

taken_is : (from : Host) (b : List ℕ) (e : Event) → calls.IsTaken from b e → IsTaken from b e
taken_is from b (events.Taken sender bytes got) is = (got, rw (is.0, is.1) refl)
taken_is from b e is = elim is [ ]

-- they are the clock alone
abbrev IsClock : ℕ → List Event → Type 0
IsClock now es = es ≡ events.Clocked now ∷ []

-- ---- what a driven part made

either : {X : Type 0} (x y : X) → (x ≡ y) ⊎ (x ≡ y) → x ≡ y
either x y (inl is) = is
either x y (inr is) = is

module _ (n : ℕ) (s : Setup) where
  -- one event that was made and allowed, and the history then
  record OneMade (is : Event → Type 0) (h : List Event) (ss : List Step) (u : List Event) : Type 0 where
    pub call : Event
    pub there : is call
    pub allowed : Allowed s (looks s h) call
    pub are : ss ≡ Made (noted n call) ∷ []
    pub behind : u ≡ call ∷ h

  -- what became of a part of one event
  abbrev Single : (Event → Type 0) → List Event → List Step → run.Came Fault (List Event) → Type 0
  Single is h ss (run.To u) = OneMade is h ss u
  Single is h ss (run.Ended why) = ⊥
  Single is h ss run.Cut = (ss ≡ []) ⊎ ((u : List Event) × OneMade is h ss u)
  Single is h ss run.Endless = ⊥

  single : (is : Event → Type 0) (h : List Event) (ss : List Step) (came : run.Came Fault (List Event))
      → event (node_stages s) n is h ss came → Single is h ss came
  single is h ss came r =
      subst (λ (es : List Step). Single is h es came) (sym r.are) (of r.front r.rest r.came r.made r.goes)
    where
      one : (e : Event) (rest : List Step) → is e × Allowed s (looks s h) e → rest ≡ []
          → OneMade is h (Made (noted n e) ∷ rest) (e ∷ h)
      one e rest it none =
          record {
            call = e;
            there = it.0;
            allowed = it.1;
            are = ap (λ (ts : List Step). Made (noted n e) ∷ ts) none;
            behind = refl;
          }

      of : (front rest : List Step) (x : run.Came Fault Event)
          → run.One (λ e. Made (noted n e)) (λ e. is e × Allowed s (looks s h) e) front x
          → run.goes_on (λ e. run.ends (run.To (e ∷ h))) x rest came → Single is h (front ++ rest) came
      of front rest x run.not_made (none, same) =
          subst (Single is h rest) (sym (either came run.Cut same)) (inl none)
      of front rest x (run.cut_behind e it) (none, same) =
          subst (Single is h (Made (noted n e) ∷ rest)) (sym (either came run.Cut same))
          (inr (e ∷ h, one e rest it none))
      of front rest x (run.makes e it) (none, inl same) =
          subst (Single is h (Made (noted n e) ∷ rest)) (sym same) (one e rest it none)
      of front rest x (run.makes e it) (none, inr same) =
          subst (Single is h (Made (noted n e) ∷ rest)) (sym same) (inr (e ∷ h, one e rest it none))

  -- events without lines, which leave a legal history legal, and the history then
  record Stepped (among : List Event → Type 0) (h : List Event) (ss : List Step) (u : List Event) : Type 0 where
    pub events : List Event
    pub are : ss ≡ steps_of n events
    pub its : among events
    pub quiet : lines events ≡ []
    pub legal : Legal s h → Legal s (after_all events h)
    pub behind : u ≡ after_all events h

  -- what became of a part of such events, by which they may be where all were made, and which where it was cut off
  abbrev Handed : (List Event → Type 0) → (List Event → Type 0) → List Event → List Step
      → run.Came Fault (List Event)
      → Type 0
  Handed whole some h ss (run.To u) = Stepped whole h ss u
  Handed whole some h ss (run.Ended why) = ⊥
  Handed whole some h ss run.Cut = (u : List Event) × Stepped some h ss u
  Handed whole some h ss run.Endless = ⊥

  -- ---- the clock

  clock_one : (now : ℕ) (h : List Event) (ss : List Step) (u : List Event) → OneMade (IsClocked now) h ss u
      → Stepped (IsClock now) h ss u
  clock_one now h ss u o =
      (let is : o.call ≡ events.Clocked now = clocked_is now o.call o.there in
      record {
        events = o.call ∷ [];
        are = o.are;
        its = ap (λ (e : Event). e ∷ []) is;
        quiet = ap (λ (e : Event). lines (e ∷ [])) is;
        legal = λ legal. (o.allowed, legal);
        behind = o.behind;
      })

  clock_handed : (now : ℕ) (h : List Event) (ss : List Step) (came : run.Came Fault (List Event))
      → Single (IsClocked now) h ss came → Handed (IsClock now) (λ es. (es ≡ []) ⊎ IsClock now es) h ss came
  clock_handed now h ss (run.To u) o = clock_one now h ss u o
  clock_handed now h ss (run.Ended why) none = none
  clock_handed now h ss run.Cut (inl none) = (
    h,
    record { events = []; are = none; its = inl refl; quiet = refl; legal = λ is. is; behind = refl },
  )
  clock_handed now h ss run.Cut (inr (u, o)) =
      (let m : Stepped (IsClock now) h ss u = clock_one now h ss u o in (
        u,
        record {
          events = m.events;
          are = m.are;
          its = inr m.its;
          quiet = m.quiet;
          legal = m.legal;
          behind = m.behind;
        },
      ))
  clock_handed now h ss run.Endless none = none

  -- ---- datagrams

  module _ (from : Host) where
    abbrev Taken : List (List ℕ) → List Event → List Step → run.Came Fault (List Event) → Type 0
    Taken bs = Handed (TakesAll from bs) (TakesSome from bs)

    -- the first one, behind which others were made
    taken_first : (b : List ℕ) (h : List Event) (front rest : List Step) (w u : List Event)
        (some all : List Event → Type 0) (o : OneMade (calls.IsTaken from b) h front w)
        → ((es : List Event) → some es → all (o.call ∷ es)) → Stepped some (o.call ∷ h) rest u
        → Stepped all h (front ++ rest) u
    taken_first b h front rest w u some all o its m =
        record {
          events = o.call ∷ m.events;
          are = ap (λ (ts : List Step). ts ++ rest) o.are
              ∙ ap (λ (ts : List Step). Made (noted n o.call) ∷ ts) m.are;
          its = its m.events m.its;
          quiet = ap (λ (e : Event). event_line e ++ lines m.events) (taken_is from b o.call o.there).1 ∙ m.quiet;
          legal = λ legal. m.legal (o.allowed, legal);
          behind = m.behind;
        }

    taken_behind : (b : List ℕ) (bs : List (List ℕ)) (h : List Event) (front rest : List Step) (w : List Event)
        (o : OneMade (calls.IsTaken from b) h front w) (came : run.Came Fault (List Event))
        → Taken bs (o.call ∷ h) rest came → Taken (b ∷ bs) h (front ++ rest) came
    taken_behind b bs h front rest w o (run.To u) m =
        taken_first b h front rest w u (TakesAll from bs) (TakesAll from (b ∷ bs)) o
        (λ es all. (taken_is from b o.call o.there, all)) m
    taken_behind b bs h front rest w o (run.Ended why) none = none
    taken_behind b bs h front rest w o run.Cut (u, m) = (
      u,
      taken_first b h front rest w u (TakesSome from bs) (TakesSome from (b ∷ bs)) o
          (λ es some. (taken_is from b o.call o.there, some)) m,
    )
    taken_behind b bs h front rest w o run.Endless none = none

    -- none of them
    taken_none : (bs : List (List ℕ)) (h : List Event) (ss : List Step) → ss ≡ [] → Taken bs h ss run.Cut
    taken_none bs h ss none = (
      h,
      record { events = []; are = none; its = tt; quiet = refl; legal = λ is. is; behind = refl },
    )

    -- the run was cut off at the first one
    taken_cut : (b : List ℕ) (bs : List (List ℕ)) (h : List Event) (front rest : List Step) → rest ≡ []
        → Single (calls.IsTaken from b) h front run.Cut → Taken (b ∷ bs) h (front ++ rest) run.Cut
    taken_cut b bs h front rest none (inl nothing) =
        taken_none (b ∷ bs) h (front ++ rest) (ap (λ (ts : List Step). ts ++ rest) nothing ∙ none)
    taken_cut b bs h front rest none (inr (w, o)) =
        taken_behind b bs h front rest w o run.Cut (taken_none bs (o.call ∷ h) rest none)

    taken_more : (b : List ℕ) (bs : List (List ℕ)) (h : List Event) (front rest : List Step)
        (x came : run.Came Fault (List Event)) → Single (calls.IsTaken from b) h front x
        → ((u : List Event) → takes_all (node_stages s) n from bs u rest came → Taken bs u rest came)
        → run.goes_on (takes_all (node_stages s) n from bs) x rest came → Taken (b ∷ bs) h (front ++ rest) came
    taken_more b bs h front rest (run.To w) came o next goes =
        taken_behind b bs h front rest w o came
        (subst (λ (u : List Event). Taken bs u rest came) o.behind (next w goes))
    taken_more b bs h front rest (run.Ended why) came none next goes = absurd none
    taken_more b bs h front rest run.Cut came cut next (none, same) =
        subst (Taken (b ∷ bs) h (front ++ rest)) (sym (either came run.Cut same))
        (taken_cut b bs h front rest none cut)
    taken_more b bs h front rest run.Endless came none next goes = absurd none

    taken_handed : (bs : List (List ℕ)) (h : List Event) (ss : List Step) (came : run.Came Fault (List Event))
        → takes_all (node_stages s) n from bs h ss came → Taken bs h ss came
    taken_handed [] h ss came (none, inl same) =
        subst (Taken [] h ss) (sym same)
        (record { events = []; are = none; its = refl; quiet = refl; legal = λ is. is; behind = refl })
    taken_handed [] h ss came (none, inr cut) = subst (Taken [] h ss) (sym cut) (taken_none [] h ss none)
    taken_handed (b ∷ bs) h ss came r =
        subst (λ (es : List Step). Taken (b ∷ bs) h es came) (sym r.are)
        (taken_more b bs h r.front r.rest r.came came (single (calls.IsTaken from b) h r.front r.came r.made)
        (λ u made. taken_handed bs u r.rest came made) r.goes)

    -- taking doesn't move the clock
    taken_still : (bs : List (List ℕ)) (es h : List Event) → TakesAll from bs es
        → (looks s (after_all es h)).now ≡ (looks s h).now
    taken_still [] es h all = rw all refl
    taken_still (b ∷ bs) [] h all = absurd all
    taken_still (b ∷ bs) (e ∷ es) h all =
        taken_still bs es (e ∷ h) all.1
        ∙ now-after s (looks s h) e ∙ ap (λ (x : Event). with_clock x ((looks s h).now)) all.0.1

-- ---- what was told of it

-- a run that ends as an event without a line is told ends as its note is refused
refused : (stop : Stop) (a b : drive.Told) (m : Noted) → noted_line m ≡ [] → IsTold noted_line (Some stop) a b m
    → (stop ≡ stops.Unnoted) × (b ≡ a)
refused stops.SinkFault a b m quiet is = absurd (is.1.some quiet)
refused stops.Unformatted a b m quiet is = absurd (is.1.1 quiet)
refused stops.Unnoted a b m quiet is = (refl, is.1)
refused stops.WireFault a b m quiet is = absurd is.1
refused stops.OutOfMemory a b m quiet is = absurd is.1
refused stops.Endless a b m quiet is = absurd is.1

not_none : (es : List Event) (e : Event) → es ++ e ∷ [] ≡ [] → ⊥
not_none [] e none = absurd (cc (none))
not_none (x ∷ es) e none = absurd (cc (none))

-- the last of events without lines has none
last_quiet : (es early : List Event) (last : Event) → es ≡ early ++ last ∷ [] → lines es ≡ [] → event_line last ≡ []
last_quiet es early last are quiet =
    sym (append-nil (event_line last)) ∙ back_none (lines early) (lines (last ∷ []))
    (lines_last es early last are quiet)

module _ (n : ℕ) (s : Setup) (s0 s1 : List Event → Type 0) (book after : Option (List Noted)) (k : SinkTells)
    (wire : WireTells) (sink : SinkTells) where
  abbrev a : drive.Told
  a = outside book k

  abbrev b : drive.Told
  b = outside after k

  abbrev Passed : Part (Unit {0}) → Option Stop → Place → Type 0
  Passed part stop q = Ran (change n s s0 s1 (told book sink wire) (told after sink wire)) part Anything stop q

  module _ (part : Part (Unit {0})) (whole some : List Event → Type 0)
      (done : (q : Place) → IsAt s s0 (told book sink wire) q → (es : List Event) → whole es
      → part q es [] (To tt) × ((looks s (after_all es q.history)).now ≤ q.now))
      (cut : (q : Place) → IsAt s s0 (told book sink wire) q → (es : List Event) → (es ≡ [] → ⊥) → some es
      → part q es [] (Cut stops.Unnoted)) where
    -- what was noted of the first events of a part
    first_gains : (es : List Event) (t : drive.Told) (ss : List Step) → ss ≡ steps_of n es → lines es ≡ [] → b ≡ t
        → tells.Gains (drive.telling noted_line) a t ss
        → Gains n (told book sink wire) (told after sink wire) es []
    first_gains es t ss are quiet same told_of =
        gains_any n book after k k sink wire es [] quiet
        (subst (λ (x : drive.Told). Gains n (beside a wire) (beside x wire) es []) (sym same)
        (gains_all n wire es a t ss are told_of))

    -- all was made
    whole_passed : (q : Place) → IsAt s s0 (told book sink wire) q → (ss : List Step) (u : List Event)
        → Stepped n s whole q.history ss u → s1 u → tells.Gains (drive.telling noted_line) a b ss → Passed part None q
    whole_passed q at ss u m there told_of =
        (let its = done q at m.events m.its in
        record {
          events = m.events;
          log = [];
          came = To tt;
          made = its.0;
          legal = m.legal;
          fits = (
            tt,
            first_gains m.events b ss m.are m.quiet refl told_of,
            record { standing = subst s1 m.behind there; now = at.now; later = its.1 },
          );
        })

    -- passes end in it
    cut_passed : (q : Place) → IsAt s s0 (told book sink wire) q → (stop : Stop) (ss : List Step) (u : List Event)
        → Stepped n s some q.history ss u → driven.ButLast noted_line stop a b ss → Passed part (Some stop) q
    cut_passed q at stop ss u m l =
        (let o : LastOf n m.events l.early l.last = last_of n m.events l.early l.last (sym m.are ∙ l.are) in
        let none : event_line o.one ≡ [] = last_quiet m.events o.front o.one o.whole m.quiet in
        let was : (stop ≡ stops.Unnoted) × (b ≡ l.between) = refused stop l.between b (noted n o.one) none
        (subst (λ (t : Step). EndsTold noted_line stop l.between b t) o.last_is l.ends) in
        let early : lines o.front ≡ [] = front_none (lines o.front) (lines (o.one ∷ []))
        (lines_last m.events o.front o.one o.whole m.quiet) in
        subst (λ (w : Stop). Passed part (Some w) q) (sym was.0)
        (record {
          events = m.events;
          log = [];
          came = Cut stops.Unnoted;
          made = cut q at m.events (λ no. not_none o.front o.one (sym o.whole ∙ no)) m.its;
          legal = m.legal;
          fits = (
            refl,
            record {
              early = o.front;
              last = o.one;
              are = o.whole;
              gains = first_gains o.front l.between l.early o.early_is early was.1 l.told;
            },
          );
        }))

    -- what was driven of it was played
    plays_handed : (first : List Event → run.Part Step Fault (List Event)) (stop : Option Stop)
        → ((h : List Event) (ss : List Step) (came : run.Came Fault (List Event)) → first h ss came
        → Handed n s whole some h ss came)
        → ((h : List Event) → s0 h → driven.Ran noted_line (first h) s1 stop a b)
        → Plays (change n s s0 s1 (told book sink wire) (told after sink wire)) part Anything stop
    plays_handed first stop handed ran q at = of r.steps r.came stop r.fits (handed q.history r.steps r.came r.made)
      where
        r : driven.Ran noted_line (first q.history) s1 stop a b
        r = ran q.history at.standing

        of : (ss : List Step) (came : run.Came Fault (List Event)) (why : Option Stop)
            → driven.Fits noted_line s1 came why a b ss → Handed n s whole some q.history ss came
            → Passed part why q
        of ss came why (driven.fits_to u x y ts there told_of) w = whole_passed q at ss u w there told_of
        of ss came why (driven.fits_failed x mid y ts told_of breaks) none = absurd none
        of ss came why (driven.fits_wants x y ts told_of) none = absurd none
        of ss came why (driven.fits_last end x y ts l) (u, m) = cut_passed q at end ss u m l
        of ss came why (driven.fits_endless x y ts told_of) none = absurd none

  -- what was driven of the clock
  pub clock_driven : (now : ℕ) (stop : Option Stop) → now ≡ wire.moment
      → ((h : List Event) → s0 h
      → driven.Ran noted_line (event (node_stages s) n (IsClocked now) h) s1 stop a b)
      → Plays (change n s s0 s1 (told book sink wire) (told after sink wire)) clocks Anything stop
  clock_driven now stop is ran =
      plays_handed clocks (IsClock now) (λ es. (es ≡ []) ⊎ IsClock now es)
      (λ q at es one. rw one (now_made q at, now_later q at))
      (λ q at es some. clock_cut q at es some)
      (λ h. event (node_stages s) n (IsClocked now) h) stop
      (λ h ss came made. clock_handed n s now h ss came (single n s (IsClocked now) h ss came made)) ran
    where
      now_made : (q : Place) → IsAt s s0 (told book sink wire) q → clocks q (events.Clocked now ∷ []) [] (To tt)
      now_made q at =
          subst (λ (m : ℕ). clocks q (events.Clocked m ∷ []) [] (To tt)) (at.now ∙ sym is) (makes tt)

      now_later : (q : Place) → IsAt s s0 (told book sink wire) q
          → (looks s (events.Clocked now ∷ q.history)).now ≤ q.now
      now_later q at =
          (let here : q.now ≡ wire.moment = at.now in
          let low : now ≤ q.now = omega (arith, is, here) in
          low)

      clock_cut : (q : Place) → IsAt s s0 (told book sink wire) q → (es : List Event) → (es ≡ [] → ⊥)
          → (es ≡ []) ⊎ IsClock now es → clocks q es [] (Cut stops.Unnoted)
      clock_cut q at es some (inl none) = absurd (some none)
      clock_cut q at es some (inr one) =
          subst (λ (fs : List Event). clocks q fs [] (Cut stops.Unnoted)) (sym one)
          (subst (λ (m : ℕ). clocks q (events.Clocked m ∷ []) [] (Cut stops.Unnoted)) (at.now ∙ sym is) (refuses tt))

  -- what was driven of datagrams that the node took
  pub takes_driven : (from : Host) (bs : List (List ℕ)) (stop : Option Stop)
      → ((h : List Event) → s0 h → driven.Ran noted_line (takes_all (node_stages s) n from bs h) s1 stop a b)
      → Plays (change n s s0 s1 (told book sink wire) (told after sink wire)) (takes_parts from bs) Anything stop
  takes_driven from bs stop ran =
      plays_handed (takes_parts from bs) (TakesAll from bs) (TakesSome from bs)
      (λ q at es all. (
        (refl, all),
        subst (λ (m : ℕ). m ≤ q.now) (sym (taken_still n s from bs es q.history all)) at.later,
      ))
      (λ q at es some its. (refl, refl, its))
      (takes_all (node_stages s) n from bs) stop (λ h ss came made. taken_handed n s from bs h ss came made) ran

-- where the clock of a node that isn't ahead of the wire ends passes, its note was refused
pub clock_refused : (n : ℕ) (s : Setup) (s0 s1 : List Event → Type 0) (x y : Told) (shows : Unit {0} → Type 0)
    (stop : Stop) → IsBehind s s0 x.wire.moment → Plays (change n s s0 s1 x y) clocks shows (Some stop)
    → stop ≡ stops.Unnoted
clock_refused n s s0 s1 x y shows stop (h, there, low) plays = of r.events r.log r.came r.made r.fits
  where
    start : Place
    start = record { history = h; now = x.wire.moment }

    r : Ran (change n s s0 s1 x y) clocks shows (Some stop) start
    r = plays start (place_of s s0 x h there low)

    of : (es : List Event) (ls : List Logged) (came : Came (Unit {0})) → clocks start es ls came
        → Fits (change n s s0 s1 x y) shows start es ls came (Some stop) → stop ≡ stops.Unnoted
    of es ls came (makes u) fits = absurd fits
    of es ls came (refuses u) fits = sym fits.0

-- the same of a result
pub clock_refuses : (n : ℕ) (s : Setup) (s0 s1 : List Event → Type 0) (x y : Told) (shows : Unit {0} → Type 0)
    (r : Result (Unit {0}) Stop) → IsBehind s s0 x.wire.moment
    → Plays (change n s s0 s1 x y) clocks shows (driven.stop_of r) → IfErr r (λ stop. stop ≡ stops.Unnoted)
clock_refuses n s s0 s1 x y shows (Ok done) behind plays = tt
clock_refuses n s s0 s1 x y shows (Err stop) behind plays = clock_refused n s s0 s1 x y shows stop behind plays

-- a result that ends passes only as a note is refused wants what a refused note wants
pub refused_wants : {T : Type 0} (r : Result T Stop) (wanted : Type 0) → IfErr r (λ stop. stop ≡ stops.Unnoted)
    → IfErr r (λ stop. stop ≡ stops.Unnoted → wanted) → OnErr r wanted
refused_wants (Ok done) wanted refused wants = tt
refused_wants (Err stop) wanted refused wants = wants refused
