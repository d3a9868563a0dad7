-- Calls of a load that are opened, from what is shown to what is shown.
use Rattle.std.proofs.Common.{◌≡◌, ◌∙◌, ◌<◌, ◌≤◌, ◌+◌, ◌-◌, ℕ, suc, zero, List, [], Bool, true, false}
use Rattle.std.proofs.Common.{Option, Some, None, Result, refl, inr, sym, subst, ap, arith, set}
use Rattle.std.specs.Prelude.{IsErr, IsErrAnd}
use Rattle.rand_pcg.specs.Lcg.{Lcg}
use Rattle.rand_pcg.specs.Pcg.{pcg32}
use Rattle.rx_load.specs.Loads.{Load, body_length, load_request, may_open, next_call, opens, opens_free}
use Rattle.rx_loader.specs.Showing.{Loads, PlaysLoad, ShowsLoad}
use Rattle.rx_loader.specs.declared.loading.Loading.{Loading}
use Rattle.rx_loader.proofs.Made.{OnwardLoad}
use Rattle.rx_plan.specs.Finds.{at_client, client_at, found_or}
use Rattle.rx_plan.specs.Lines.{IsInvoked, invokes, with_called, with_caller}
use Rattle.rx_plan.specs.Parts.{Cut, One, Part, Then, To, by_test, ends, not_made}
use Rattle.rx_plan.specs.Stages.{IsAllowedNext, Stage, name_called, with_event}
use Rattle.rx_script.specs.declared.outcome.PlanWhy.TheVariants as causes
use Rattle.rx_stage.specs.Ran.{Ran, stop_of}
use Rattle.rx_stage.specs.Shown.{Plays, Shows, WorldState}
use Rattle.rx_stage.specs.Tells.{Told}
use Rattle.rx_stage.specs.declared.stop.Stop.{Stop}
use Rattle.rx_stage.specs.declared.stop.Stop.TheVariants as stops
use Rattle.rx_stage.proofs.Following.{ran_as, ran_cut, ran_ended, then_cut}
use Rattle.rx_stage.proofs.Making.{stop_is}
use Rattle.rx_stage.proofs.RoundsMade.{less_one}
use Rattle.rx_stage.proofs.Running.{ran_stops, ran_then, ran_to}

-- ---- a call

-- what is made of a client's next call
abbrev asks : ℕ → Load → Part Stage
asks client l =
    at_client client
    (invokes (next_call l.next client) 4
    (load_request (next_call l.next client) (body_length (pcg32 l.net.words).0))) l.net.stage

-- the load behind it
abbrev behind : ℕ → Load → Stage → Load
behind client l s = record l {
  net = record l.net { stage = s; words = (pcg32 l.net.words).1 };
  next = set l.next (client - 1) (next_call l.next client + 4);
  bodies = set l.bodies (next_call l.next client) (body_length (pcg32 l.net.words).0);
}

-- the number of the next call, the length of its Body that a word said, the generator behind it, and the bytes
pub record IsNext (w : Loading) (client number length : ℕ) (bytes : List ℕ) (words : Lcg) : Type 0 where
  pub at : number ≡ next_call w.next.items client
  pub long : length ≡ body_length (pcg32 w.network.words).0
  pub drawn : words ≡ (pcg32 w.network.words).1
  pub said : bytes ≡ load_request number length

module _ (client number length : ℕ) (bytes : List ℕ) (words : Lcg) (w : Loading) (m : WorldState) (stop : Option Stop)
    (a b : Told) where
  -- that call was made
  asked : IsNext w client number length bytes words
      → Plays (at_client client (invokes number 4 bytes)) w.world m stop a b → (l : Load) → ShowsLoad w l
      → Ran (asks client l) (Shows m) stop a b
  asked is plays l shown =
      (let same : number ≡ next_call l.next client = is.at ∙ ap (λ ns. next_call ns client) (sym shown.next) in
      let bytes_are : bytes ≡ load_request number (body_length (pcg32 l.net.words).0) =
      is.said ∙ ap (λ k. load_request number k) (is.long ∙ ap (λ g. body_length (pcg32 g).0) (sym shown.net.1)) in
      subst (λ k. Ran (at_client client (invokes k 4 (load_request k (body_length (pcg32 l.net.words).0))) l.net.stage)
      (Shows m) stop a b) same
      (subst (λ bs. Ran (at_client client (invokes number 4 bs) l.net.stage) (Shows m) stop a b) bytes_are
      (plays l.net.stage shown.net.0)))

-- the rest of a load, as it is left by a call that was made
pub record LeftBy (w new : Loading) (client number length : ℕ) (words : Lcg) : Type 0 where
  pub drawn : new.network.words ≡ words
  pub held : new.network.held.items ≡ w.network.held.items
  pub next : new.next.items ≡ set w.next.items (client - 1) (number + 4)
  pub bodies : new.bodies.items ≡ set w.bodies.items number length
  pub rounds : new.rounds ≡ w.rounds
  pub tally : new.network.tally ≡ w.network.tally

-- it was made, and the load is left so
pub opened : (client number length : ℕ) (bytes : List ℕ) (words : Lcg) (w new : Loading) (a b : Told)
    → IsNext w client number length bytes words
    → Plays (at_client client (invokes number 4 bytes)) w.world new.world None a b
    → LeftBy w new client number length words → PlaysLoad (opens client) w new None a b
opened client number length bytes words w new a b is plays left l shown =
    (let same : next_call l.next client ≡ number = ap (λ ns. next_call ns client) shown.next ∙ sym is.at in
    let long : body_length (pcg32 l.net.words).0 ≡ length =
    ap (λ g. body_length (pcg32 g).0) shown.net.1 ∙ sym is.long in
    ran_as (asks client l) (behind client l) (Shows new.world) (ShowsLoad new) None a b
    (asked client number length bytes words w new.world None a b is plays l shown)
    (λ s there. record {
      net = (
        there,
        ap (λ g. (pcg32 g).1) shown.net.1 ∙ (sym is.drawn ∙ sym left.drawn),
        shown.net.2 ∙ sym left.held,
      );
      next = ap (λ ns. set ns (client - 1) (next_call l.next client + 4)) shown.next
          ∙ (ap (λ k. set w.next.items (client - 1) (k + 4)) same ∙ sym left.next);
      bodies = ap (λ ls. set ls (next_call l.next client) (body_length (pcg32 l.net.words).0)) shown.bodies
          ∙ (ap (λ k. set w.bodies.items k (body_length (pcg32 l.net.words).0)) same
          ∙ (ap (λ k. set w.bodies.items number k) long ∙ sym left.bodies));
      rounds = shown.rounds ∙ sym left.rounds;
      tally = shown.tally ∙ sym left.tally;
    }))

module _ (client number length : ℕ) (bytes : List ℕ) (words : Lcg) (w new : Loading) (m : WorldState)
    (r : Result (Unit {0}) Stop) (stop : Stop) (a b : Told) where
  -- the load ended in it
  pub opening_stops : IsNext w client number length bytes words
      → Plays (at_client client (invokes number 4 bytes)) w.world m (Some stop) a b
      → IsErr r × IsErrAnd r (λ why. why ≡ stop) → PlaysLoad (opens client) w new (stop_of r) a b
  opening_stops is plays err l shown =
      subst (λ o. Ran (opens client l) (ShowsLoad new) o a b) (sym (stop_is r stop err))
      (ran_ended (asks client l) (λ s. ends (To (behind client l s))) (Shows m) (ShowsLoad new) stop a b
      (asked client number length bytes words w m (Some stop) a b is plays l shown))

-- ---- memory is wanted before it

found_cut : (line cid : ℕ) (bytes : List ℕ) (o : Option ℕ) (s : Stage)
    → found_or causes.NoNode (invokes line cid bytes) o s [] Cut
found_cut line cid bytes None s = (refl, inr refl)
found_cut line cid bytes (Some node) s =
    then_cut (One node (IsAllowedNext s node (IsInvoked cid bytes)))
    (λ e. ends (To (with_caller node line bytes (name_called e) (with_called node e (with_event node e s))))) not_made

-- memory was wanted for its bytes
pub opening_wants : (client : ℕ) (w new : Loading) (r : Result (Unit {0}) Stop) (t : Told)
    → IsErr r × IsErrAnd r (λ why. why ≡ stops.OutOfMemory) → PlaysLoad (opens client) w new (stop_of r) t t
opening_wants client w new r t err l shown =
    subst (λ o. Ran (opens client l) (ShowsLoad new) o t t) (sym (stop_is r stops.OutOfMemory err))
    (ran_cut (opens client l) (ShowsLoad new) t
    (then_cut (asks client l) (λ s. ends (To (behind client l s)))
    (found_cut (next_call l.next client) 4
    (load_request (next_call l.next client) (body_length (pcg32 l.net.words).0)) (client_at client l.net.stage)
    l.net.stage)))

-- ---- the next calls of a client

-- no call was opened yet
pub onward_none : (calls most client : ℕ) (w : Loading) (t : Told)
    → OnwardLoad (opens_free calls most client) (opens_free calls (most - 0) client) w w t t
onward_none calls most client w t new stop c rest =
    subst (λ n. PlaysLoad (opens_free calls n client) w new stop t c) (let all : most - 0 ≡ most = omega arith in all)
    rest

-- what is made where a call may be opened, or not
abbrev choice : ℕ → ℕ → ℕ → Load → Bool → Part Load
choice calls n client l may = by_test may (Then (opens client l) (opens_free calls n client)) (ends (To l))

module _ (calls n client : ℕ) (w m new : Loading) (may : Bool) where
  -- the calls that are left, one of which was opened
  more : (stop : Option Stop) (a b c : Told) → Loads w (λ l. may ≡ may_open calls client l) → may ≡ true
      → PlaysLoad (opens client) w m None a b → PlaysLoad (opens_free calls n client) m new stop b c
      → PlaysLoad (opens_free calls (suc n) client) w new stop a c
  more stop a b c exact holds made rest l shown =
      subst (λ v. Ran (choice calls n client l v) (ShowsLoad new) stop a c) (sym (sym (exact l shown) ∙ holds))
      (ran_then (opens client l) (opens_free calls n client) (ShowsLoad m) (ShowsLoad new) stop a b c (made l shown)
      rest)

  -- the load ended in one
  stops_at : (stop : Stop) (a b : Told) → Loads w (λ l. may ≡ may_open calls client l) → may ≡ true
      → PlaysLoad (opens client) w m (Some stop) a b → PlaysLoad (opens_free calls (suc n) client) w new (Some stop) a b
  stops_at stop a b exact holds made l shown =
      subst (λ v. Ran (choice calls n client l v) (ShowsLoad new) (Some stop) a b) (sym (sym (exact l shown) ∙ holds))
      (ran_stops (opens client l) (opens_free calls n client) (ShowsLoad m) (ShowsLoad new) stop a b (made l shown))

-- none may be opened
over : (calls n client : ℕ) (w : Loading) (may : Bool) (t : Told) → Loads w (λ l. may ≡ may_open calls client l)
    → may ≡ false → PlaysLoad (opens_free calls n client) w w None t t
over calls zero client w may t exact fails l shown = ran_to (ShowsLoad w) l t shown
over calls (suc n) client w may t exact fails l shown =
    subst (λ v. Ran (choice calls n client l v) (ShowsLoad w) None t t) (sym (sym (exact l shown) ∙ fails))
    (ran_to (ShowsLoad w) l t shown)

module _ (calls most k client : ℕ) (w0 w m : Loading) (may : Bool) (a b c : Told) where
  -- one more was opened
  pub onward_more : k < most → Loads w (λ l. may ≡ may_open calls client l) → may ≡ true
      → PlaysLoad (opens client) w m None b c
      → OnwardLoad (opens_free calls most client) (opens_free calls (most - k) client) w0 w a b
      → OnwardLoad (opens_free calls most client) (opens_free calls (most - (k + 1)) client) w0 m a c
  onward_more low exact holds made onward new stop e rest =
      onward new stop e
      (subst (λ n. PlaysLoad (opens_free calls n client) w new stop b e) (sym (less_one most k low))
      (more calls (most - (k + 1)) client w m new may stop b c e exact holds made rest))

module _ (calls most k client : ℕ) (w0 w m new : Loading) (may : Bool) (r : Result (Unit {0}) Stop) (stop : Stop)
    (a b c : Told) where
  -- the load ended in one
  pub onward_stops : k < most → Loads w (λ l. may ≡ may_open calls client l) → may ≡ true
      → PlaysLoad (opens client) w m (Some stop) b c → IsErr r × IsErrAnd r (λ why. why ≡ stop)
      → OnwardLoad (opens_free calls most client) (opens_free calls (most - k) client) w0 w a b
      → PlaysLoad (opens_free calls most client) w0 new (stop_of r) a c
  onward_stops low exact holds made err onward =
      subst (λ o. PlaysLoad (opens_free calls most client) w0 new o a c) (sym (stop_is r stop err))
      (onward new (Some stop) c
      (subst (λ n. PlaysLoad (opens_free calls n client) w new (Some stop) b c) (sym (less_one most k low))
      (stops_at calls (most - (k + 1)) client w m new may stop b c exact holds made)))

-- none may be opened any more
pub onward_over : (calls most k client : ℕ) (w0 w : Loading) (may : Bool) (a b : Told)
    → Loads w (λ l. may ≡ may_open calls client l) → may ≡ false
    → OnwardLoad (opens_free calls most client) (opens_free calls (most - k) client) w0 w a b
    → PlaysLoad (opens_free calls most client) w0 w None a b
onward_over calls most k client w0 w may a b exact fails onward =
    onward w None b (over calls (most - k) client w may b exact fails)

-- all were opened
pub onward_all : (calls most k client : ℕ) (w0 w : Loading) (a b : Told) → most ≤ k
    → OnwardLoad (opens_free calls most client) (opens_free calls (most - k) client) w0 w a b
    → PlaysLoad (opens_free calls most client) w0 w None a b
onward_all calls most k client w0 w a b high onward =
    onward w None b
    (subst (λ n. PlaysLoad (opens_free calls n client) w w None b b) (let none : 0 ≡ most - k = omega arith in none)
    (λ l shown. ran_to (ShowsLoad w) l b shown))
