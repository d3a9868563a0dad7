-- Lossy rounds, from what a run keeps, with a generator and what is held, to what it keeps.
use Rattle.std.proofs.Common.{◌≡◌, ◌∙◌, ◌<◌, ◌≤◌, ◌+◌, ◌-◌, ◌==◌, ◌&&◌, ℕ, suc, zero, List, [], ◌++◌, Bool, true}
use Rattle.std.proofs.Common.{false, Option, Some, None, Result, sym, subst, ap, arith, length}
use Rattle.std.specs.Prelude.{IsErr, IsErrAnd}
use Rattle.rand_pcg.specs.Lcg.{Lcg, increment_of, started}
use Rattle.rand_pcg.specs.Pcg.{multiplier_64}
use Rattle.rx_model.specs.declared.event.Noted.{Noted}
use Rattle.rx_law.specs.Worlds.{Datagram}
use Rattle.rx_jobs.specs.Handlers.{Handlers}
use Rattle.rx_script.specs.Saying.{Answering}
use Rattle.rx_joint.specs.Nodes.{Standing, nodes_of}
use Rattle.rx_events.specs.Waits.{any_lives}
use Rattle.rx_stage.specs.declared.stop.Stop.{Stop}
use Rattle.rx_plan.specs.Lossy.{Lossy, carries, comes, drawn, fated, gathered, lossy, lossy_round}
use Rattle.rx_stage.specs.RoundsPlayed.{PlaysCarried, PlaysLossy, ShowsLossy}
use Rattle.rx_plan.specs.Lossy.{lossy_rounds, stays}
use Rattle.rx_plan.specs.Network.{delivers}
use Rattle.rx_plan.specs.Parts.{Part, Then, To, by_test, each, ends}
use Rattle.rx_stage.specs.Ran.{Ran, stop_of}
use Rattle.rx_stage.specs.RoundsPlayed.{PlaysGiven, ShowsGiven}
use Rattle.rx_plan.specs.Rounds.{clients_first, polls, polls_out, settles, turns}
use Rattle.rx_stage.specs.Shown.{Plays, Shows, WorldState}
use Rattle.rx_plan.specs.Stages.{Stage}
use Rattle.rx_stage.specs.Tells.{Told}
use Rattle.rx_stage.proofs.Delivering.{delivers_cut}
use Rattle.rx_stage.proofs.Fated.{both_play, front_stops}
use Rattle.rx_stage.proofs.Following.{PlaysOn, ran_as}
use Rattle.rx_stage.proofs.Making.{stop_is}
use Rattle.rx_stage.proofs.RoundsMade.{less_one, lives_shown}
use Rattle.rx_stage.proofs.Running.{ran_stops, ran_then, ran_to}

-- ---- one part and another

module _ {A B C : Type 0} (first : A → Part B) (next : B → Part C) where
  -- both were made
  on_then : (old : A → Type 0) (mid : B → Type 0) (new : C → Type 0) (stop : Option Stop) (a b c : Told)
      → PlaysOn first old mid None a b → PlaysOn next mid new stop b c
      → PlaysOn (λ x. Then (first x) next) old new stop a c
  on_then old mid new stop a b c f g x was = ran_then (first x) next mid new stop a b c (f x was) g

  -- the first ended the run
  on_ended : (old : A → Type 0) (mid : B → Type 0) (new : C → Type 0) (stop : Stop) (a b : Told)
      → PlaysOn first old mid (Some stop) a b → PlaysOn (λ x. Then (first x) next) old new (Some stop) a b
  on_ended old mid new stop a b f x was = ran_stops (first x) next mid new stop a b (f x was)

-- ---- a round

-- what the network is behind a round
abbrev pub left_of : Lcg → List Datagram → Stage → Lossy
left_of words given s =
    record { stage = s; words = drawn words given; held = gathered stays (fated words given) }

-- the end of a round
abbrev pub lossy_end : Lcg → List Datagram → List Datagram → Stage → Part Lossy
lossy_end words held given s =
    Then (settles ((length given == 0) && (length held == 0)) s) (λ t. ends (To (left_of words given t)))

-- its turns and its end
abbrev pub lossy_turns : Handlers → Lcg → List Datagram → List Datagram → Stage → Part Lossy
lossy_turns g words held given s = Then (turns g s) (lossy_end words held given)

module _ (g : Handlers) (w m : WorldState) (words : Lcg) (held first given : List Datagram) (new : Lossy → Type 0)
    (stop : Option Stop) (a b c : Told) where
  -- its polls were made
  lossy_polled : first ≡ [] → PlaysGiven (λ p. each polls_out (clients_first p.stage) p) w first m given None a b
      → PlaysOn (carries g words held given) (Shows m) new stop b c
      → PlaysOn (lossy_round g) (ShowsLossy w words held) new stop a c
  lossy_polled none polled rest l shown =
      ran_then (polls l.stage) (λ p. carries g l.words l.held p.given p.stage) (ShowsGiven m given) new stop a b c
      (polled (record { stage = l.stage; given = [] }) (shown.0, sym none))
      (λ p known.
      subst (λ ds. Ran (carries g l.words l.held ds p.stage) new stop b c) (sym known.1)
      (subst (λ ws. Ran (carries g ws l.held given p.stage) new stop b c) (sym shown.1)
      (subst (λ hs. Ran (carries g words hs given p.stage) new stop b c) (sym shown.2) (rest p.stage known.0))))

module _ (g : Handlers) (w m new : WorldState) (words last : Lcg) (held kept first given : List Datagram) where
  -- the run ended in its polls
  pub lossy_polls : (r : Result (Unit {0}) Stop) (stop : Stop) (a b : Told) → first ≡ []
      → PlaysGiven (λ p. each polls_out (clients_first p.stage) p) w first m given (Some stop) a b
      → IsErr r × IsErrAnd r (λ why. why ≡ stop) → PlaysLossy (lossy_round g) w words held new last kept (stop_of r) a b
  lossy_polls r stop a b none polled err l shown =
      subst (λ o. Ran (lossy_round g l) (ShowsLossy new last kept) o a b) (sym (stop_is r stop err))
      (ran_stops (polls l.stage) (λ p. carries g l.words l.held p.given p.stage) (ShowsGiven m given)
      (ShowsLossy new last kept) stop a b (polled (record { stage = l.stage; given = [] }) (shown.0, sym none)))

  -- its polls were made, and what is behind them
  pub lossy_carried : (stop : Option Stop) (a b c : Told) → first ≡ []
      → PlaysGiven (λ p. each polls_out (clients_first p.stage) p) w first m given None a b
      → PlaysCarried (carries g words held given) m new last kept stop b c
      → PlaysLossy (lossy_round g) w words held new last kept stop a c
  lossy_carried stop a b c none polled rest =
      lossy_polled g w m words held first given (ShowsLossy new last kept) stop a b c none polled rest

module _ (hs : List Answering → Handlers) (now old : List Answering) (m new : WorldState) (words last : Lcg)
    (held kept given : List Datagram) (stop : Option Stop) (a b : Told) where
  -- by the handlers of the same script
  pub carried_by : now ≡ old → PlaysCarried (carries (hs now) words held given) m new last kept stop a b
      → PlaysCarried (carries (hs old) words held given) m new last kept stop a b
  carried_by same plays =
      subst (λ s. PlaysCarried (carries (hs s) words held given) m new last kept stop a b) same plays

-- ---- a round behind its polls

module _ (g : Handlers) (m n new : WorldState) (words last : Lcg) (held kept given : List Datagram)
    (r : Result (Unit {0}) Stop) (stop : Stop) (b c : Told) where
  -- the run ended as what was given met its fates
  pub carried_fates : Plays (each delivers (gathered comes (fated words given))) m n (Some stop) b c
      → IsErr r × IsErrAnd r (λ why. why ≡ stop)
      → PlaysCarried (carries g words held given) m new last kept (stop_of r) b c
  carried_fates came err =
      subst (λ o. PlaysCarried (carries g words held given) m new last kept o b c) (sym (stop_is r stop err))
      (on_ended (each delivers (gathered comes (fated words given) ++ held)) (lossy_turns g words held given) (Shows m)
      (Shows n) (ShowsLossy new last kept) stop b c
      (front_stops delivers delivers_cut (gathered comes (fated words given)) held m n stop b c came))

module _ (g : Handlers) (m n o new : WorldState) (words last : Lcg) (held kept given : List Datagram)
    (r : Result (Unit {0}) Stop) (stop : Stop) (b c d : Told) where
  -- as what was held came
  pub carried_held : Plays (each delivers (gathered comes (fated words given))) m n None b c
      → Plays (each delivers held) n o (Some stop) c d → IsErr r × IsErrAnd r (λ why. why ≡ stop)
      → PlaysCarried (carries g words held given) m new last kept (stop_of r) b d
  carried_held came delivered err =
      subst (λ x. PlaysCarried (carries g words held given) m new last kept x b d) (sym (stop_is r stop err))
      (on_ended (each delivers (gathered comes (fated words given) ++ held)) (lossy_turns g words held given) (Shows m)
      (Shows o) (ShowsLossy new last kept) stop b d
      (both_play delivers (gathered comes (fated words given)) held m n o (Some stop) b c d came delivered))

module _ (g : Handlers) (m n o : WorldState) (words : Lcg) (held given : List Datagram) (new : Lossy → Type 0)
    (stop : Option Stop) (b c d e : Told) where
  -- all came, and this followed
  carried_came : Plays (each delivers (gathered comes (fated words given))) m n None b c
      → Plays (each delivers held) n o None c d → PlaysOn (lossy_turns g words held given) (Shows o) new stop d e
      → PlaysOn (carries g words held given) (Shows m) new stop b e
  carried_came came delivered rest =
      on_then (each delivers (gathered comes (fated words given) ++ held)) (lossy_turns g words held given) (Shows m)
      (Shows o) new stop b d e
      (both_play delivers (gathered comes (fated words given)) held m n o None b c d came delivered) rest

module _ (g : Handlers) (m n o p new : WorldState) (words last : Lcg) (held kept given : List Datagram)
    (r : Result (Unit {0}) Stop) (stop : Stop) (b c d e : Told) where
  -- the run ended in its turns
  pub carried_turned : Plays (each delivers (gathered comes (fated words given))) m n None b c
      → Plays (each delivers held) n o None c d → Plays (turns g) o p (Some stop) d e
      → IsErr r × IsErrAnd r (λ why. why ≡ stop)
      → PlaysCarried (carries g words held given) m new last kept (stop_of r) b e
  carried_turned came delivered turned err =
      subst (λ x. PlaysCarried (carries g words held given) m new last kept x b e) (sym (stop_is r stop err))
      (carried_came g m n o words held given (ShowsLossy new last kept) (Some stop) b c d e came delivered
      (on_ended (turns g) (lossy_end words held given) (Shows o) (Shows p) (ShowsLossy new last kept) stop d e turned))

module _ (g : Handlers) (m n o p new : WorldState) (words last : Lcg) (held kept given : List Datagram) (quiet : Bool)
    (stop : Option Stop) (b c d e f : Told) where
  -- it came to its end
  pub carried_settles : quiet ≡ ((length given == 0) && (length held == 0)) → last ≡ drawn words given
      → kept ≡ gathered stays (fated words given)
      → Plays (each delivers (gathered comes (fated words given))) m n None b c
      → Plays (each delivers held) n o None c d → Plays (turns g) o p None d e → Plays (settles quiet) p new stop e f
      → PlaysCarried (carries g words held given) m new last kept stop b f
  carried_settles is at stay came delivered turned settled =
      carried_came g m n o words held given (ShowsLossy new last kept) stop b c d f came delivered
      (on_then (turns g) (lossy_end words held given) (Shows o) (Shows p) (ShowsLossy new last kept) stop d e f turned
      (λ s shown.
      ran_as (settles ((length given == 0) && (length held == 0)) s) (left_of words given) (Shows new)
      (ShowsLossy new last kept) stop e f (subst (λ q. Ran (settles q s) (Shows new) stop e f) is (settled s shown))
      (λ t there. (there, sym at, sym stay))))

-- what is held, behind none
pub held_behind : (words : Lcg) (given first kept : List Datagram) → first ≡ []
    → kept ≡ first ++ gathered stays (fated words given) → kept ≡ gathered stays (fated words given)
held_behind words given first kept none is = is ∙ ap (λ xs. xs ++ gathered stays (fated words given)) none

module _ (hs : List Answering → Handlers) (now old : List Answering) (w new : WorldState) (words last : Lcg)
    (held kept : List Datagram) (stop : Option Stop) (a b : Told) where
  -- by the handlers of the same script
  pub lossy_by : now ≡ old → PlaysLossy (lossy_round (hs now)) w words held new last kept stop a b
      → PlaysLossy (lossy_round (hs old)) w words held new last kept stop a b
  lossy_by same plays =
      subst (λ s. PlaysLossy (lossy_round (hs s)) w words held new last kept stop a b) same plays

-- ---- rounds

-- what follows one network is what follows a stage
abbrev pub OnwardLossy : (Stage → Part Stage) → (Lossy → Part Stage) → WorldState → WorldState → Lcg → List Datagram
    → Told → Told → Type 0
OnwardLossy whole rest w m words held a b =
    (new : WorldState) (stop : Option Stop) (c : Told) → PlaysOn rest (ShowsLossy m words held) (Shows new) stop b c
    → Plays whole w new stop a c

-- no round was made yet
pub onward_first : (g : Handlers) (number count : ℕ) (w : WorldState) (words : Lcg) (held : List Datagram) (t : Told)
    → words ≡ started 64 multiplier_64 number (increment_of 64 1) → held ≡ []
    → OnwardLossy (lossy g number count) (lossy_rounds g (count - 0)) w w words held t t
onward_first g number count w words held t new_words none new stop c rest s shown =
    (let l : Lossy = record { stage = s; words = started 64 multiplier_64 number (increment_of 64 1); held = [] } in
    subst (λ n. Ran (lossy_rounds g n l) (Shows new) stop t c) (let all : count - 0 ≡ count = omega arith in all)
    (rest l (shown, sym new_words, sym none)))

-- whether a call lives, as the code finds it
lossy_lives : (i w : WorldState) (l : Lossy) (words : Lcg) (held : List Datagram) (lives answer : Bool) → i ≡ w
    → ((h : List Noted) → Standing i.nodes h → lives ≡ any_lives (nodes_of i.nodes) h) → lives ≡ answer
    → ShowsLossy w words held l → any_lives l.stage.nodes l.stage.history ≡ answer
lossy_lives i w l words held lives answer is exact yet shown =
    lives_shown i l.stage lives (subst (λ (u : WorldState). Shows u l.stage) (sym is) shown.0) exact ∙ yet

-- what a round or its end comes to, where a call lives or none does
abbrev lossy_choice : Handlers → ℕ → Lossy → Bool → Part Stage
lossy_choice g n l lives = by_test lives (Then (lossy_round g l) (lossy_rounds g n)) (ends (To l.stage))

module _ (g : Handlers) (n : ℕ) (i w m new : WorldState) (words last : Lcg) (held kept : List Datagram) (lives : Bool)
  where
    -- the rounds that are left, one of which was made
    lossy_more : (stop : Option Stop) (a b c : Told) → i ≡ w
        → ((h : List Noted) → Standing i.nodes h → lives ≡ any_lives (nodes_of i.nodes) h) → lives ≡ true
        → PlaysLossy (lossy_round g) w words held m last kept None a b
        → PlaysOn (lossy_rounds g n) (ShowsLossy m last kept) (Shows new) stop b c
        → PlaysOn (lossy_rounds g (suc n)) (ShowsLossy w words held) (Shows new) stop a c
    lossy_more stop a b c is exact yet made rest l shown =
        subst (λ v. Ran (lossy_choice g n l v) (Shows new) stop a c)
        (sym (lossy_lives i w l words held lives true is exact yet shown))
        (ran_then (lossy_round g l) (lossy_rounds g n) (ShowsLossy m last kept) (Shows new) stop a b c (made l shown)
        rest)

    -- the run ended in one
    lossy_stop : (stop : Stop) (a b : Told) → i ≡ w
        → ((h : List Noted) → Standing i.nodes h → lives ≡ any_lives (nodes_of i.nodes) h) → lives ≡ true
        → PlaysLossy (lossy_round g) w words held m last kept (Some stop) a b
        → PlaysOn (lossy_rounds g (suc n)) (ShowsLossy w words held) (Shows new) (Some stop) a b
    lossy_stop stop a b is exact yet made l shown =
        subst (λ v. Ran (lossy_choice g n l v) (Shows new) (Some stop) a b)
        (sym (lossy_lives i w l words held lives true is exact yet shown))
        (ran_stops (lossy_round g l) (lossy_rounds g n) (ShowsLossy m last kept) (Shows new) stop a b (made l shown))

-- none lives
lossy_over : (g : Handlers) (n : ℕ) (i w : WorldState) (words : Lcg) (held : List Datagram) (lives : Bool) (t : Told)
    → i ≡ w → ((h : List Noted) → Standing i.nodes h → lives ≡ any_lives (nodes_of i.nodes) h) → lives ≡ false
    → PlaysOn (lossy_rounds g n) (ShowsLossy w words held) (Shows w) None t t
lossy_over g zero i w words held lives t is exact over l shown = ran_to (Shows w) l.stage t shown.0
lossy_over g (suc n) i w words held lives t is exact over l shown =
    subst (λ v. Ran (lossy_choice g n l v) (Shows w) None t t)
    (sym (lossy_lives i w l words held lives false is exact over shown)) (ran_to (Shows w) l.stage t shown.0)

module _ (g : Handlers) (whole : Stage → Part Stage) (count k : ℕ) (i w0 w m : WorldState) (words last : Lcg)
    (held kept : List Datagram) (lives : Bool) (a b c : Told) where
  -- one round more
  pub lossy_onward : k < count → i ≡ w
      → ((h : List Noted) → Standing i.nodes h → lives ≡ any_lives (nodes_of i.nodes) h) → lives ≡ true
      → PlaysLossy (lossy_round g) w words held m last kept None b c
      → OnwardLossy whole (lossy_rounds g (count - k)) w0 w words held a b
      → OnwardLossy whole (lossy_rounds g (count - (k + 1))) w0 m last kept a c
  lossy_onward low is exact yet made onward new stop e rest =
      onward new stop e
      (subst (λ n. PlaysOn (lossy_rounds g n) (ShowsLossy w words held) (Shows new) stop b e)
      (sym (less_one count k low))
      (lossy_more g (count - (k + 1)) i w m new words last held kept lives stop b c e is exact yet made rest))

module _ (g : Handlers) (whole : Stage → Part Stage) (count k : ℕ) (i w0 w m new : WorldState) (words last : Lcg)
    (held kept : List Datagram) (lives : Bool) (r : Result (Unit {0}) Stop) (stop : Stop) (a b c : Told) where
  -- the run ended in a round
  pub lossy_stops : k < count → i ≡ w → ((h : List Noted) → Standing i.nodes h → lives ≡ any_lives (nodes_of i.nodes) h)
      → lives ≡ true → PlaysLossy (lossy_round g) w words held m last kept (Some stop) b c
      → IsErr r × IsErrAnd r (λ why. why ≡ stop) → OnwardLossy whole (lossy_rounds g (count - k)) w0 w words held a b
      → Plays whole w0 new (stop_of r) a c
  lossy_stops low is exact yet made err onward =
      subst (λ o. Plays whole w0 new o a c) (sym (stop_is r stop err))
      (onward new (Some stop) c
      (subst (λ n. PlaysOn (lossy_rounds g n) (ShowsLossy w words held) (Shows new) (Some stop) b c)
      (sym (less_one count k low))
      (lossy_stop g (count - (k + 1)) i w m new words last held kept lives stop b c is exact yet made)))

module _ (g : Handlers) (whole : Stage → Part Stage) (count k : ℕ) (i w0 w : WorldState) (words : Lcg)
    (held : List Datagram) (lives : Bool) (a b : Told) where
  -- none lives any more
  pub lossy_ended : i ≡ w → ((h : List Noted) → Standing i.nodes h → lives ≡ any_lives (nodes_of i.nodes) h)
      → lives ≡ false → OnwardLossy whole (lossy_rounds g (count - k)) w0 w words held a b → Plays whole w0 w None a b
  lossy_ended is exact over onward =
      onward w None b (lossy_over g (count - k) i w words held lives b is exact over)

-- all were made
pub lossy_all : (g : Handlers) (whole : Stage → Part Stage) (count k : ℕ) (w0 w : WorldState) (words : Lcg)
    (held : List Datagram) (a b : Told) → count ≤ k
    → OnwardLossy whole (lossy_rounds g (count - k)) w0 w words held a b → Plays whole w0 w None a b
lossy_all g whole count k w0 w words held a b high onward =
    onward w None b
    (subst (λ n. PlaysOn (lossy_rounds g n) (ShowsLossy w words held) (Shows w) None b b)
    (let none : 0 ≡ count - k = omega arith in none) (λ l shown. ran_to (Shows w) l.stage b shown.0))
