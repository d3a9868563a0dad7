-- Parts of a load, from what is shown to what is shown: its connections, and its rounds.
use Rattle.std.proofs.Common.{◌≡◌, ◌∙◌, ◌<◌, ◌≤◌, ◌+◌, ◌-◌, ℕ, suc, zero, List, [], ◌∷◌, Bool, true, false}
use Rattle.std.proofs.Common.{Option, Some, None, Result, refl, sym, subst, ap, arith, drop}
use Rattle.std.specs.Prelude.{IsErr, IsErrAnd}
use Rattle.rand_pcg.specs.Lcg.{Lcg}
use Rattle.rx_jobs.specs.Handlers.{Handlers}
use Rattle.rx_law.specs.Worlds.{Datagram}
use Rattle.rx_script.specs.Saying.{Answering}
use Rattle.rx_load.specs.Loads.{Load, all_ended, at_stage, clients, connects_all, load_handlers, load_round}
use Rattle.rx_load.specs.Loads.{load_rounds, lossy_with}
use Rattle.rx_plan.specs.Tallies.{tallied}
use Rattle.rx_loader.specs.Showing.{Loads, PlaysLoad, ShowsLoad}
use Rattle.rx_loader.specs.declared.loading.Loading.{Loading}
use Rattle.rx_plan.specs.Finds.{at_client}
use Rattle.rx_plan.specs.Lines.{connects}
use Rattle.rx_plan.specs.Lossy.{Lossy, carries, fated}
use Rattle.rx_plan.specs.Network.{below}
use Rattle.rx_plan.specs.Parts.{Part, Then, To, by_test, each, ends}
use Rattle.rx_plan.specs.Rounds.{clients_first, polls, polls_out}
use Rattle.rx_plan.specs.Stages.{Stage}
use Rattle.rx_stage.specs.Ran.{Ran, stop_of}
use Rattle.rx_stage.specs.RoundsPlayed.{PlaysCarried, PlaysGiven, ShowsGiven, ShowsLossy}
use Rattle.rx_stage.specs.Shown.{Plays, Shows, WorldState}
use Rattle.rx_stage.specs.Tells.{Told}
use Rattle.rx_stage.specs.declared.stop.Stop.{Stop}
use Rattle.rx_stage.proofs.Following.{PlaysOn, on_stops, ran_as, ran_ended}
use Rattle.rx_stage.proofs.Making.{stop_is}
use Rattle.rx_stage.proofs.Numbers.{At}
use Rattle.rx_stage.proofs.RoundsMade.{less_one}
use Rattle.rx_stage.proofs.Running.{ran_stops, ran_then, ran_to}

-- ---- one part and another

-- both were made
pub both_played : (first next : Load → Part Load) (w m new : Loading) (stop : Option Stop) (a b c : Told)
    → PlaysLoad first w m None a b → PlaysLoad next m new stop b c → PlaysLoad (λ l. Then (first l) next) w new stop a c
both_played first next w m new stop a b c f g l shown =
    ran_then (first l) next (ShowsLoad m) (ShowsLoad new) stop a b c (f l shown) g

-- the load ended in the first
pub first_plays : (first next : Load → Part Load) (w m new : Loading) (stop : Stop) (a b : Told)
    → PlaysLoad first w m (Some stop) a b → PlaysLoad (λ l. Then (first l) next) w new (Some stop) a b
first_plays first next w m new stop a b f l shown =
    ran_stops (first l) next (ShowsLoad m) (ShowsLoad new) stop a b (f l shown)

-- as its result says
pub first_stops : (first next : Load → Part Load) (w m new : Loading) (r : Result (Unit {0}) Stop) (stop : Stop)
    (a b : Told) → PlaysLoad first w m (Some stop) a b → IsErr r × IsErrAnd r (λ why. why ≡ stop)
    → PlaysLoad (λ l. Then (first l) next) w new (stop_of r) a b
first_stops first next w m new r stop a b f err l shown =
    subst (λ o. Ran (Then (first l) next) (ShowsLoad new) o a b) (sym (stop_is r stop err))
    (first_plays first next w m new stop a b f l shown)

-- ---- one for each client

-- a client stands behind those before it
clients_at : (k : ℕ) → 1 ≤ k → k < 5 → At clients (drop 1 (below k)) k
clients_at zero some low = absurd (omega (arith, some))
clients_at (suc zero) some low = record { more = 2 ∷ 3 ∷ 4 ∷ []; are = refl }
clients_at (suc (suc zero)) some low = record { more = 3 ∷ 4 ∷ []; are = refl }
clients_at (suc (suc (suc zero))) some low = record { more = 4 ∷ []; are = refl }
clients_at (suc (suc (suc (suc zero)))) some low = record { more = []; are = refl }
clients_at (suc (suc (suc (suc (suc k))))) some low = absurd (omega (arith, low))

module _ {A : Type 0} (part : ℕ → A → Part A) (k : ℕ) (old : A → Type 0) where
  -- the load ended in that of a client
  pub client_stops : (mid new : A → Type 0) (r : Result (Unit {0}) Stop) (stop : Stop) (a b c : Told) → 1 ≤ k → k < 5
      → PlaysOn (each part (drop 1 (below k))) old mid None a b → PlaysOn (part k) mid new (Some stop) b c
      → IsErr r × IsErrAnd r (λ why. why ≡ stop) → PlaysOn (each part clients) old new (stop_of r) a c
  client_stops mid new r stop a b c some low before next err =
      (let here : At clients (drop 1 (below k)) k = clients_at k some low in
      subst (λ o. PlaysOn (each part clients) old new o a c) (sym (stop_is r stop err))
      (subst (λ xs. PlaysOn (each part xs) old new (Some stop) a c) (sym here.are)
      (on_stops part (drop 1 (below k)) here.more k old mid new stop a b c before next)))

  -- that of each was made
  pub clients_made : (new : A → Type 0) (a b : Told) → k ≡ 5 → PlaysOn (each part (drop 1 (below k))) old new None a b
      → PlaysOn (each part clients) old new None a b
  clients_made new a b all made =
      subst (λ n. PlaysOn (each part (drop 1 (below n))) old new None a b) all made

-- ---- connections

-- a client connects
abbrev pub connecting : ℕ → Stage → Part Stage
connecting client = at_client client (connects 1)

-- each client did, or the load ended at one
pub connected : (w new : Loading) (stop : Option Stop) (a b : Told)
    → Plays (each connecting clients) w.world new.world stop a b → new ≡ record w { world = new.world }
    → PlaysLoad connects_all w new stop a b
connected w new stop a b plays rest l shown =
    ran_as (each connecting clients l.net.stage) (at_stage l) (Shows new.world) (ShowsLoad new) stop a b
    (plays l.net.stage shown.net.0)
    (λ s there.
    subst (λ (v : Loading). ShowsLoad v (at_stage l s)) (sym rest)
    (record {
      net = (there, shown.net.1, shown.net.2);
      next = shown.next;
      bodies = shown.bodies;
      rounds = shown.rounds;
      tally = shown.tally;
    }))

-- ---- a lossy round

-- the rest of a load, as it is left by a lossy round that was made
pub record LeftBy (w new : Loading) (given : List Datagram) : Type 0 where
  pub next : new.next.items ≡ w.next.items
  pub bodies : new.bodies.items ≡ w.bodies.items
  pub rounds : new.rounds ≡ suc w.rounds
  pub tally : new.network.tally ≡ tallied (fated w.network.words given) w.network.tally

-- a load behind such a round
abbrev behind : Load → List Datagram → Lossy → Load
behind l given net =
    record l { net = net; rounds = suc l.rounds; tally = tallied (fated l.net.words given) l.tally }

-- what follows its polls
abbrev rest_of : Load → List Datagram → Stage → Part Load
rest_of l given s =
    Then (carries load_handlers l.net.words l.net.held given s) (λ net. ends (To (behind l given net)))

-- what was carried is what a load that is shown carries
carried_shown : (w : Loading) (l : Load) (given : List Datagram) (s : Stage) (shows : Lossy → Type 0)
    (stop : Option Stop) (a b : Told) → ShowsLoad w l
    → Ran (carries load_handlers w.network.words w.network.held.items given s) shows stop a b
    → Ran (carries load_handlers l.net.words l.net.held given s) shows stop a b
carried_shown w l given s shows stop a b shown carried =
    subst (λ ws. Ran (carries load_handlers ws l.net.held given s) shows stop a b) (sym shown.net.1)
    (subst (λ hs. Ran (carries load_handlers w.network.words hs given s) shows stop a b) (sym shown.net.2) carried)

-- its polls were made, and this followed
polled_then : (w new : Loading) (m : WorldState) (first given : List Datagram) (stop : Option Stop) (a b c : Told)
    → first ≡ [] → PlaysGiven (λ p. each polls_out (clients_first p.stage) p) w.world first m given None a b
    → ((l : Load) (s : Stage) → ShowsLoad w l → Shows m s → Ran (rest_of l given s) (ShowsLoad new) stop b c)
    → PlaysLoad lossy_with w new stop a c
polled_then w new m first given stop a b c none polled rest l shown =
    ran_then (polls l.net.stage) (λ p. rest_of l p.given p.stage) (ShowsGiven m given) (ShowsLoad new) stop a b c
    (polled (record { stage = l.net.stage; given = [] }) (shown.net.0, sym none))
    (λ p known.
    subst (λ ds. Ran (rest_of l ds p.stage) (ShowsLoad new) stop b c) (sym known.1) (rest l p.stage shown known.0))

-- the load ended in its polls
pub lossy_polls : (w new : Loading) (m : WorldState) (first given : List Datagram) (r : Result (Unit {0}) Stop)
    (stop : Stop) (a b : Told) → first ≡ []
    → PlaysGiven (λ p. each polls_out (clients_first p.stage) p) w.world first m given (Some stop) a b
    → IsErr r × IsErrAnd r (λ why. why ≡ stop) → PlaysLoad lossy_with w new (stop_of r) a b
lossy_polls w new m first given r stop a b none polled err l shown =
    subst (λ o. Ran (lossy_with l) (ShowsLoad new) o a b) (sym (stop_is r stop err))
    (ran_stops (polls l.net.stage) (λ p. rest_of l p.given p.stage) (ShowsGiven m given) (ShowsLoad new) stop a b
    (polled (record { stage = l.net.stage; given = [] }) (shown.net.0, sym none)))

module _ (w new : Loading) (m n : WorldState) (words : Lcg) (kept first given : List Datagram)
    (r : Result (Unit {0}) Stop) (stop : Stop) (a b c : Told) where
  -- behind them
  pub lossy_stops : first ≡ []
      → PlaysGiven (λ p. each polls_out (clients_first p.stage) p) w.world first m given None a b
      → PlaysCarried (carries load_handlers w.network.words w.network.held.items given) m n words kept (Some stop) b c
      → IsErr r × IsErrAnd r (λ why. why ≡ stop) → PlaysLoad lossy_with w new (stop_of r) a c
  lossy_stops none polled carried err =
      subst (λ o. PlaysLoad lossy_with w new o a c) (sym (stop_is r stop err))
      (polled_then w new m first given (Some stop) a b c none polled
      (λ l s shown there.
      ran_ended (carries load_handlers l.net.words l.net.held given s) (λ net. ends (To (behind l given net)))
      (ShowsLossy n words kept) (ShowsLoad new) stop b c
      (carried_shown w l given s (ShowsLossy n words kept) (Some stop) b c shown (carried s there))))

-- it was made
pub lossy_made : (w new : Loading) (m : WorldState) (first given : List Datagram) (a b c : Told) → first ≡ []
    → PlaysGiven (λ p. each polls_out (clients_first p.stage) p) w.world first m given None a b
    → PlaysCarried (carries load_handlers w.network.words w.network.held.items given) m new.world new.network.words
    new.network.held.items None b c
    → LeftBy w new given → PlaysLoad lossy_with w new None a c
lossy_made w new m first given a b c none polled carried left =
    polled_then w new m first given None a b c none polled
    (λ l s shown there.
    ran_as (carries load_handlers l.net.words l.net.held given s) (behind l given)
    (ShowsLossy new.world new.network.words new.network.held.items) (ShowsLoad new) None b c
    (carried_shown w l given s (ShowsLossy new.world new.network.words new.network.held.items) None b c shown (carried s
    there)) (λ net now. record {
      net = now;
      next = shown.next ∙ sym left.next;
      bodies = shown.bodies ∙ sym left.bodies;
      rounds = ap suc shown.rounds ∙ sym left.rounds;
      tally = ap (λ ws. tallied (fated ws given) l.tally) shown.net.1
          ∙ (ap (λ t. tallied (fated w.network.words given) t) shown.tally ∙ sym left.tally);
    }))

module _ (hs : List Answering → Handlers) (now old its : List Answering) (m new : WorldState) (words last : Lcg)
    (held kept given : List Datagram) (stop : Option Stop) (a b : Told) where
  -- by the handlers of a load
  pub carried_by : now ≡ old → old ≡ its → hs its ≡ load_handlers
      → PlaysCarried (carries (hs now) words held given) m new last kept stop a b
      → PlaysCarried (carries load_handlers words held given) m new last kept stop a b
  carried_by same is handlers plays =
      subst (λ (g : Handlers). PlaysCarried (carries g words held given) m new last kept stop a b)
      (ap hs (same ∙ is) ∙ handlers) plays

-- ---- rounds

-- what follows one load is what follows another
abbrev pub OnwardLoad : (Load → Part Load) → (Load → Part Load) → Loading → Loading → Told → Told → Type 0
OnwardLoad whole rest w m a b =
    (new : Loading) (stop : Option Stop) (c : Told) → PlaysLoad rest m new stop b c → PlaysLoad whole w new stop a c

-- no round was made yet
pub onward_none : (calls most : ℕ) (w : Loading) (t : Told)
    → OnwardLoad (load_rounds calls most) (load_rounds calls (most - 0)) w w t t
onward_none calls most w t new stop c rest =
    subst (λ n. PlaysLoad (load_rounds calls n) w new stop t c) (let all : most - 0 ≡ most = omega arith in all) rest

-- what is made where every call ended, or not
abbrev choice : ℕ → ℕ → Load → Bool → Part Load
choice calls n l ended = by_test ended (ends (To l)) (Then (load_round calls l) (load_rounds calls n))

module _ (calls n : ℕ) (w m new : Loading) (ended : Bool) (stop : Option Stop) (a b c : Told) where
  -- the rounds that are left, one of which was made
  more : Loads w (λ l. ended ≡ all_ended calls l) → ended ≡ false → PlaysLoad (load_round calls) w m None a b
      → PlaysLoad (load_rounds calls n) m new stop b c → PlaysLoad (load_rounds calls (suc n)) w new stop a c
  more exact yet made rest l shown =
      subst (λ v. Ran (choice calls n l v) (ShowsLoad new) stop a c) (sym (sym (exact l shown) ∙ yet))
      (ran_then (load_round calls l) (load_rounds calls n) (ShowsLoad m) (ShowsLoad new) stop a b c (made l shown) rest)

-- the load ended in one
stops : (calls n : ℕ) (w m new : Loading) (ended : Bool) (stop : Stop) (a b : Told)
    → Loads w (λ l. ended ≡ all_ended calls l) → ended ≡ false → PlaysLoad (load_round calls) w m (Some stop) a b
    → PlaysLoad (load_rounds calls (suc n)) w new (Some stop) a b
stops calls n w m new ended stop a b exact yet made l shown =
    subst (λ v. Ran (choice calls n l v) (ShowsLoad new) (Some stop) a b) (sym (sym (exact l shown) ∙ yet))
    (ran_stops (load_round calls l) (load_rounds calls n) (ShowsLoad m) (ShowsLoad new) stop a b (made l shown))

-- every call ended
over : (calls n : ℕ) (w : Loading) (ended : Bool) (t : Told) → Loads w (λ l. ended ≡ all_ended calls l) → ended ≡ true
    → PlaysLoad (load_rounds calls n) w w None t t
over calls zero w ended t exact holds l shown = ran_to (ShowsLoad w) l t shown
over calls (suc n) w ended t exact holds l shown =
    subst (λ v. Ran (choice calls n l v) (ShowsLoad w) None t t) (sym (sym (exact l shown) ∙ holds))
    (ran_to (ShowsLoad w) l t shown)

module _ (calls most k : ℕ) (w0 w m : Loading) (ended : Bool) (a b c : Told) where
  -- one round more
  pub onward_more : k < most → Loads w (λ l. ended ≡ all_ended calls l) → ended ≡ false
      → PlaysLoad (load_round calls) w m None b c
      → OnwardLoad (load_rounds calls most) (load_rounds calls (most - k)) w0 w a b
      → OnwardLoad (load_rounds calls most) (load_rounds calls (most - (k + 1))) w0 m a c
  onward_more low exact yet made onward new stop e rest =
      onward new stop e
      (subst (λ n. PlaysLoad (load_rounds calls n) w new stop b e) (sym (less_one most k low))
      (more calls (most - (k + 1)) w m new ended stop b c e exact yet made rest))

module _ (calls most k : ℕ) (w0 w m new : Loading) (ended : Bool) (r : Result (Unit {0}) Stop) (stop : Stop)
    (a b c : Told) where
  -- the load ended in a round
  pub onward_stops : k < most → Loads w (λ l. ended ≡ all_ended calls l) → ended ≡ false
      → PlaysLoad (load_round calls) w m (Some stop) b c → IsErr r × IsErrAnd r (λ why. why ≡ stop)
      → OnwardLoad (load_rounds calls most) (load_rounds calls (most - k)) w0 w a b
      → PlaysLoad (load_rounds calls most) w0 new (stop_of r) a c
  onward_stops low exact yet made err onward =
      subst (λ o. PlaysLoad (load_rounds calls most) w0 new o a c) (sym (stop_is r stop err))
      (onward new (Some stop) c
      (subst (λ n. PlaysLoad (load_rounds calls n) w new (Some stop) b c) (sym (less_one most k low))
      (stops calls (most - (k + 1)) w m new ended stop b c exact yet made)))

-- every call ended
pub onward_over : (calls most k : ℕ) (w0 w : Loading) (ended : Bool) (a b : Told)
    → Loads w (λ l. ended ≡ all_ended calls l) → ended ≡ true
    → OnwardLoad (load_rounds calls most) (load_rounds calls (most - k)) w0 w a b
    → PlaysLoad (load_rounds calls most) w0 w None a b
onward_over calls most k w0 w ended a b exact holds onward =
    onward w None b (over calls (most - k) w ended b exact holds)

-- all were made
pub onward_all : (calls most k : ℕ) (w0 w : Loading) (a b : Told) → most ≤ k
    → OnwardLoad (load_rounds calls most) (load_rounds calls (most - k)) w0 w a b
    → PlaysLoad (load_rounds calls most) w0 w None a b
onward_all calls most k w0 w a b high onward =
    onward w None b
    (subst (λ n. PlaysLoad (load_rounds calls n) w w None b b) (let none : 0 ≡ most - k = omega arith in none)
    (λ l shown. ran_to (ShowsLoad w) l b shown))
