-- Rounds, their polls and their clocks, from what is kept to what is kept.
use Rattle.std.proofs.Common.{◌≡◌, ◌∙◌, ◌<◌, ◌≤◌, ◌⊎◌, ◌+◌, ◌-◌, ◌^◌, ◌==◌, ◌&&◌, ◌||◌, not, ℕ, zero, suc, List}
use Rattle.std.proofs.Common.{[], ◌∷◌, ◌++◌}
use Rattle.std.proofs.Common.{Bool, true, false, Option, Some, None, Result, refl, inl, inr, sym, subst, ap}
use Rattle.std.proofs.Common.{length}
use Rattle.std.proofs.Common.{arith, drop, max, map}
use Rattle.std.specs.Prelude.{IsErr, IsErrAnd, nat_le, slice_get, option_map, unwrap_or}
use Rattle.std.specs.List.{list_any}
use Rattle.std.proofs.lemmas.Bool.Decides.{nat_tests}
use Rattle.rx_model.specs.declared.event.Noted.{Noted}
use Rattle.rx_history.specs.Sides.{moment}
use Rattle.rx_law.specs.Worlds.{Datagram}
use Rattle.rx_jobs.specs.Handlers.{Handlers}
use Rattle.rx_events.specs.Events.{IsClocked}
use Rattle.rx_joint.specs.Nodes.{IsNodeThere, KeepsOthers, NodesState, Standing, moment_of, nodes_of}
use Rattle.rx_events.specs.Waits.{any_lives, latest, least_wait, over_nodes}
use Rattle.rx_joint.specs.Nodes.{moments_of}
use Rattle.rx_joint.specs.declared.nodes.ClientAt.{ClientAt}
use Rattle.rx_joint.proofs.Times.{moment_is, moments_are}
use Rattle.rx_stage.specs.declared.stop.Stop.{Stop}
use Rattle.rx_plan.specs.Network.{below, delivers}
use Rattle.rx_plan.specs.Parts.{Part, Then, To, each, ends}
use Rattle.rx_stage.specs.Ran.{Ran, stop_of}
use Rattle.rx_stage.specs.RoundsPlayed.{PlaysGiven, ShowsGiven}
use Rattle.rx_plan.specs.Rounds.{Polled, clients_first, may_move, moves_by, moves_on, polls}
use Rattle.rx_plan.specs.Rounds.{polls_out, round, rounds, settles, turns, waits}
use Rattle.rx_stage.specs.Shown.{Plays, Shows, WorldState}
use Rattle.rx_plan.specs.Stages.{Stage, event}
use Rattle.rx_stage.specs.Tells.{Told}
use Rattle.rx_plan.specs.Turned.{dispatches, turns_all}
use Rattle.rx_stage.proofs.Clocking.{moment_kept}
use Rattle.rx_stage.proofs.Following.{PlaysOn, on_listed, on_one, on_stops}
use Rattle.rx_stage.proofs.Making.{stop_is, where_fails, where_holds}
use Rattle.rx_stage.proofs.Numbers.{At, clients_listed, others_at}
use Rattle.rx_stage.proofs.Playing.{plays_none, plays_stops, plays_then}
use Rattle.rx_stage.proofs.Running.{ran_stops, ran_then}
use Rattle.rx_stage.proofs.Stepping.{nodes_shown}
use Rattle.rx_stage.proofs.Ordering.{clients_one}

-- ---- one for each client, and then for the server

-- one client's more
pub client_more : {A : Type 0} (part : ℕ → A → Part A) (k : ℕ) (old mid new : A → Type 0) (a b c : Told) → 1 ≤ k
    → PlaysOn (each part (drop 1 (below k))) old mid None a b → PlaysOn (part k) mid new None b c
    → PlaysOn (each part (drop 1 (below (k + 1)))) old new None a c
client_more part k old mid new a b c some before next =
    subst (λ xs. PlaysOn (each part xs) old new None a c) (sym (clients_one k some))
    (on_one part (drop 1 (below k)) k old mid new None a b c before next)

module _ {A : Type 0} (part : ℕ → A → Part A) (list : A → List ℕ) (k n : ℕ) (old mid new : A → Type 0) where
  -- the run ended at a client's
  pub client_ended : (r : Result (Unit {0}) Stop) (stop : Stop) (a b c : Told) → 1 ≤ k → k < n
      → ((x : A) → old x → list x ≡ drop 1 (below n) ++ 0 ∷ [])
      → PlaysOn (each part (drop 1 (below k))) old mid None a b → PlaysOn (part k) mid new (Some stop) b c
      → IsErr r × IsErrAnd r (λ why. why ≡ stop) → PlaysOn (λ x. each part (list x) x) old new (stop_of r) a c
  client_ended r stop a b c some low listed before next err =
      (let here : At (drop 1 (below n) ++ 0 ∷ []) (drop 1 (below k)) k = others_at k n some low in
      subst (λ o. PlaysOn (λ x. each part (list x) x) old new o a c) (sym (stop_is r stop err))
      (on_listed part list (drop 1 (below n) ++ 0 ∷ []) old new (Some stop) a c listed
      (subst (λ xs. PlaysOn (each part xs) old new (Some stop) a c) (sym here.are)
      (on_stops part (drop 1 (below k)) here.more k old mid new stop a b c before next))))

  -- the server's
  pub server_last : (stop : Option Stop) (a b c : Told) → k ≡ n
      → ((x : A) → old x → list x ≡ drop 1 (below n) ++ 0 ∷ [])
      → PlaysOn (each part (drop 1 (below k))) old mid None a b → PlaysOn (part 0) mid new stop b c
      → PlaysOn (λ x. each part (list x) x) old new stop a c
  server_last stop a b c same listed before next =
      on_listed part list (drop 1 (below n) ++ 0 ∷ []) old new stop a c listed
      (on_one part (drop 1 (below n)) 0 old mid new stop a b c
      (subst (λ j. PlaysOn (each part (drop 1 (below j))) old mid None a b) same before) next)

-- the list of polls and of clocks
pub given_listed : (w : WorldState) (given : List Datagram) (n : ℕ) (p : Polled) → n ≡ length w.nodes.clients + 1
    → ShowsGiven w given p → clients_first p.stage ≡ drop 1 (below n) ++ 0 ∷ []
given_listed w given n p long shown = clients_listed w p.stage n shown.0 long

-- ---- clocks

-- its moment, by what is kept, and the time
move_same : (w : WorldState) (s : Stage) (node time now : ℕ) → Shows w s → IsNodeThere w.nodes node
    → now ≡ moment_of w.nodes node + time → now ≡ moment node s.history + time
move_same w s node time now shown there is =
    is ∙ ap (λ m. m + time) (moment_is w.nodes s.history node shown.standing there)

module _ (w old new : WorldState) (node time now : ℕ) (stop : Option Stop) (a b : Told) where
  -- a clock was set on
  pub move_plays : w ≡ old → IsNodeThere old.nodes node → now ≡ moment_of old.nodes node + time
      → Plays (event node (IsClocked now)) old new stop a b → Plays (moves_on time node) old new stop a b
  move_plays is there at plays s shown =
      subst (λ m. Ran (event node (IsClocked m) s) (Shows new) stop a b) (move_same old s node time now shown there at)
      (plays s shown)

-- a list has a number of at least the limit less this time, where its latest is
reach_more : (limit time m k : ℕ)
    → (nat_le limit (m + time) || nat_le limit (k + time)) ≡ nat_le limit (max m k + time)
reach_more limit time m k = grind (arith, nat_tests)

reach_latest : (limit time m : ℕ) (ms : List ℕ)
    → list_any (λ x. nat_le limit (x + time)) (m ∷ ms) ≡ nat_le limit (latest (m ∷ ms) + time)
reach_latest limit time m [] = reach_none (nat_le limit (m + time)) ∙ ap (λ x. nat_le limit (x + time)) (omega arith)
  where
    reach_none : (b : Bool) → (b || false) ≡ b
    reach_none true = refl
    reach_none false = refl
reach_latest limit time m (k ∷ ks) =
    ap (λ b. nat_le limit (m + time) || b) (reach_latest limit time k ks) ∙ reach_more limit time m (latest (k ∷ ks))

-- whether all clocks may move, by what is kept
pub may_shown : (w : WorldState) (s : Stage) (time : ℕ) → Shows w s
    → may_move time s ≡ not (nat_le (2 ^ 62) (latest (moments_of w.nodes) + time))
may_shown w s time shown =
    ap not (ap (λ ns. list_any (λ m. nat_le (2 ^ 62) (m + time)) (over_nodes (λ k n. moment k s.history) 0 ns))
    (nodes_shown w s shown)
    ∙ (ap (list_any (λ m. nat_le (2 ^ 62) (m + time))) (sym (moments_are w.nodes s.history shown.standing))
    ∙ reach_latest (2 ^ 62) time w.nodes.server.node.moment (map (λ c. c.client.moment) w.nodes.clients)))

-- each moment is at most the latest
client_most : (cs : List ClientAt) (k : ℕ) → unwrap_or (option_map (λ c. c.client.moment) (slice_get cs k)) 0
    ≤ latest (map (λ c. c.client.moment) cs)
client_most [] k = omega arith
client_most (c ∷ cs) zero = omega arith
client_most (c ∷ cs) (suc k) = omega (arith, client_most cs k)

pub moment_most : (n : NodesState) (node : ℕ) → moment_of n node ≤ latest (moments_of n)
moment_most n zero = omega arith
moment_most n (suc k) = omega (arith, client_most n.clients k)

-- ---- the least time

least_shown : (w : WorldState) (s : Stage) (o : Option ℕ) → Shows w s
    → ((h : List Noted) → Standing w.nodes h → o ≡ least_wait (nodes_of w.nodes) h) → least_wait s.nodes s.history ≡ o
least_shown w s o shown exact =
    ap (λ ns. least_wait ns s.history) (nodes_shown w s shown) ∙ sym (exact s.history shown.standing)

-- all clocks move by it
pub waits_play : (w old new : WorldState) (o : Option ℕ) (stop : Option Stop) (a b : Told) → w ≡ old
    → ((h : List Noted) → Standing w.nodes h → o ≡ least_wait (nodes_of w.nodes) h)
    → Plays (moves_by o) old new stop a b → Plays waits old new stop a b
waits_play w old new o stop a b is exact plays s shown =
    subst (λ x. Ran (moves_by x s) (Shows new) stop a b)
    (sym (least_shown w s o (subst (λ (u : WorldState). Shows u s) (sym is) shown) exact)) (plays s shown)

-- ---- what the code keeps

-- the same from what is kept
pub plays_from : (part : Stage → Part Stage) (w old new : WorldState) (stop : Option Stop) (a b : Told) → w ≡ old
    → Plays part w new stop a b → Plays part old new stop a b
plays_from part w old new stop a b is plays = subst (λ (u : WorldState). Plays part u new stop a b) is plays

-- the run ended in the dispatcher's turn
pub turns_stop : (g : Handlers) (w m new : WorldState) (r : Result (Unit {0}) Stop) (stop : Stop) (a b : Told)
    → Plays (dispatches g) w m (Some stop) a b → IsErr r × IsErrAnd r (λ why. why ≡ stop)
    → Plays (turns g) w new (stop_of r) a b
turns_stop g w m new r stop a b turned err =
    subst (λ o. Plays (turns g) w new o a b) (sym (stop_is r stop err))
    (plays_stops (dispatches g) turns_all w m new stop a b turned)

-- where nothing came, the clocks move
pub settles_quiet : (quiet : Bool) (w new : WorldState) (stop : Option Stop) (a b : Told) → quiet ≡ true
    → Plays waits w new stop a b → Plays (settles quiet) w new stop a b
settles_quiet quiet w new stop a b is plays =
    where_holds (λ s. quiet) waits (λ s. ends (To s)) w new stop a b (λ s shown. is) plays

pub settles_not : (quiet : Bool) (w : WorldState) (t : Told) → quiet ≡ false → Plays (settles quiet) w w None t t
settles_not quiet w t is =
    where_fails (λ s. quiet) waits (λ s. ends (To s)) w w None t t (λ s shown. is) (plays_none w t)

-- all clocks may move, and do
pub moves_all : (w new : WorldState) (time : ℕ) (may : Bool) (stop : Option Stop) (a b : Told)
    → ((s : Stage) → Shows w s → may ≡ (not (time == 0) && may_move time s)) → may ≡ true
    → Plays (λ s. each (moves_on time) (clients_first s) s) w new stop a b → Plays (moves_by (Some time)) w new stop a b
moves_all w new time may stop a b exact on plays =
    where_holds (λ s. not (time == 0) && may_move time s) (λ s. each (moves_on time) (clients_first s) s) (λ s. ends
    (To s))
    w new stop a b (λ s shown. sym (exact s shown) ∙ on) plays

-- they may not
pub moves_none : (w : WorldState) (time : ℕ) (may : Bool) (t : Told)
    → ((s : Stage) → Shows w s → may ≡ (not (time == 0) && may_move time s)) → may ≡ false
    → Plays (moves_by (Some time)) w w None t t
moves_none w time may t exact off =
    where_fails (λ s. not (time == 0) && may_move time s) (λ s. each (moves_on time) (clients_first s) s) (λ s. ends
    (To s))
    w w None t t (λ s shown. sym (exact s shown) ∙ off) (plays_none w t)

-- the moments of nodes whose clocks were not yet set on
pub early_left : (old new : NodesState) (node time : ℕ) → 1 ≤ node → KeepsOthers old new node
    → ((k : ℕ) → (k ≡ 0) ⊎ (node ≤ k) → moment_of old k + time < 2 ^ 62)
    → (k : ℕ) → (k ≡ 0) ⊎ (node + 1 ≤ k) → moment_of new k + time < 2 ^ 62
early_left old new node time some keeps early k (inl is) =
    subst (λ m. m + time < 2 ^ 62) (sym (moment_kept old new node k keeps (λ same. absurd (omega (
      arith,
      some,
      is,
      same,
    )))))
    (early k (inl is))
early_left old new node time some keeps early k (inr high) =
    subst (λ m. m + time < 2 ^ 62) (sym (moment_kept old new node k keeps (λ same. absurd (omega (arith, high, same)))))
    (early k (inr (omega (arith, high))))

-- what follows one stage is what follows another
abbrev pub Onward : (Stage → Part Stage) → (Stage → Part Stage) → WorldState → WorldState → Told → Told → Type 0
Onward whole rest w m a b =
    (new : WorldState) (stop : Option Stop) (c : Told) → Plays rest m new stop b c → Plays whole w new stop a c

-- whether clocks may move, as the code finds it
pub may_found : (w old : WorldState) (time latest_one : ℕ) (s : Stage) → w ≡ old
    → latest_one ≡ latest (moments_of w.nodes)
    → Shows old s → may_move time s ≡ not (nat_le (2 ^ 62) (latest_one + time))
may_found w old time latest_one s is at shown =
    may_shown w s time (subst (λ (u : WorldState). Shows u s) (sym is) shown)
    ∙ ap (λ m. not (nat_le (2 ^ 62) (m + time))) (sym at)

-- where they may, each moment stays early
pub early_found : (w old : WorldState) (time latest_one : ℕ) → w ≡ old → latest_one ≡ latest (moments_of w.nodes)
    → latest_one + time < 2 ^ 62 → (node : ℕ) → moment_of old.nodes node + time < 2 ^ 62
early_found w old time latest_one is at low node =
    subst (λ (u : WorldState). moment_of u.nodes node + time < 2 ^ 62) is
    (omega (arith, at, low, moment_most w.nodes node))

-- ---- a round

-- its polls were made
polled_then : (next : List Datagram → Stage → Part Stage) (w m new : WorldState) (given : List Datagram)
    (stop : Option Stop) (a b c : Told) → PlaysGiven (λ p. each polls_out (clients_first p.stage) p) w [] m given
    None a b
    → Plays (next given) m new stop b c → Plays (λ s. Then (polls s) (λ p. next p.given p.stage)) w new stop a c
polled_then next w m new given stop a b c polled rest s shown =
    ran_then (polls s) (λ p. next p.given p.stage) (ShowsGiven m given) (Shows new) stop a b c
    (polled (record { stage = s; given = [] }) (shown, refl))
    (λ p known. subst (λ ds. Ran (next ds p.stage) (Shows new) stop b c) (sym known.1) (rest p.stage known.0))

-- what follows them
abbrev pub behind : Handlers → List Datagram → Stage → Part Stage
behind g given s = Then (each delivers given s) (λ t. Then (turns g t) (settles (length given == 0)))

module _ (g : Handlers) (w m new : WorldState) (first given : List Datagram) (r : Result (Unit {0}) Stop) (stop : Stop)
    (a b : Told) where
  -- the run ended in its polls
  pub round_polls : first ≡ []
      → PlaysGiven (λ p. each polls_out (clients_first p.stage) p) w first m given (Some stop) a b
      → IsErr r × IsErrAnd r (λ why. why ≡ stop) → Plays (round g) w new (stop_of r) a b
  round_polls none polled err s shown =
      subst (λ o. Ran (round g s) (Shows new) o a b) (sym (stop_is r stop err))
      (ran_stops (polls s) (λ p. behind g p.given p.stage) (ShowsGiven m given) (Shows new) stop a b
      (subst (λ ds. PlaysGiven (λ p. each polls_out (clients_first p.stage) p) w ds m given (Some stop) a b) none polled
      (record { stage = s; given = [] }) (shown, refl)))

module _ (g : Handlers) (w m n new : WorldState) (first given : List Datagram) (r : Result (Unit {0}) Stop)
    (stop : Stop) (a b c : Told) where
  -- in its deliveries
  pub round_delivers : first ≡ [] → PlaysGiven (λ p. each polls_out (clients_first p.stage) p) w first m given None a b
      → Plays (each delivers given) m n (Some stop) b c → IsErr r × IsErrAnd r (λ why. why ≡ stop)
      → Plays (round g) w new (stop_of r) a c
  round_delivers none polled delivered err =
      subst (λ o. Plays (round g) w new o a c) (sym (stop_is r stop err))
      (polled_then (behind g) w m new given (Some stop) a b c
      (subst (λ ds. PlaysGiven (λ p. each polls_out (clients_first p.stage) p) w ds m given None a b) none polled)
      (plays_stops (each delivers given) (λ t. Then (turns g t) (settles (length given == 0))) m n new stop b c
      delivered))

module _ (g : Handlers) (w m n o new : WorldState) (first given : List Datagram) (r : Result (Unit {0}) Stop)
    (stop : Stop) (a b c d : Told) where
  -- in its turns
  pub round_turns : first ≡ [] → PlaysGiven (λ p. each polls_out (clients_first p.stage) p) w first m given None a b
      → Plays (each delivers given) m n None b c → Plays (turns g) n o (Some stop) c d
      → IsErr r × IsErrAnd r (λ why. why ≡ stop) → Plays (round g) w new (stop_of r) a d
  round_turns none polled delivered turned err =
      subst (λ x. Plays (round g) w new x a d) (sym (stop_is r stop err))
      (polled_then (behind g) w m new given (Some stop) a b d
      (subst (λ ds. PlaysGiven (λ p. each polls_out (clients_first p.stage) p) w ds m given None a b) none polled)
      (plays_then (each delivers given) (λ t. Then (turns g t) (settles (length given == 0))) m n new (Some stop) b c d
      delivered (plays_stops (turns g) (settles (length given == 0)) n o new stop c d turned)))

module _ (g : Handlers) (w m n o new : WorldState) (first given : List Datagram) (quiet : Bool) (stop : Option Stop)
    (a b c d e : Told) where
  -- it came to its end
  pub round_settles : first ≡ [] → quiet ≡ (length given == 0)
      → PlaysGiven (λ p. each polls_out (clients_first p.stage) p) w first m given None a b
      → Plays (each delivers given) m n None b c → Plays (turns g) n o None c d → Plays (settles quiet) o new stop d e
      → Plays (round g) w new stop a e
  round_settles none is polled delivered turned settled =
      polled_then (behind g) w m new given stop a b e
      (subst (λ ds. PlaysGiven (λ p. each polls_out (clients_first p.stage) p) w ds m given None a b) none polled)
      (plays_then (each delivers given) (λ t. Then (turns g t) (settles (length given == 0))) m n new stop b c e
      delivered (plays_then (turns g) (settles (length given == 0)) n o new stop c d e turned
      (subst (λ q. Plays (settles q) o new stop d e) is settled)))

-- ---- rounds

pub lives_shown : (w : WorldState) (s : Stage) (lives : Bool) → Shows w s
    → ((h : List Noted) → Standing w.nodes h → lives ≡ any_lives (nodes_of w.nodes) h)
    → any_lives s.nodes s.history ≡ lives
lives_shown w s lives shown exact =
    ap (λ ns. any_lives ns s.history) (nodes_shown w s shown) ∙ sym (exact s.history shown.standing)

module _ (g : Handlers) (n : ℕ) (i w m new : WorldState) (lives : Bool) where
  -- the rounds that are left, one of which was made
  rounds_more : (stop : Option Stop) (a b c : Told) → i ≡ w
      → ((h : List Noted) → Standing i.nodes h → lives ≡ any_lives (nodes_of i.nodes) h) → lives ≡ true
      → Plays (round g) w m None a b → Plays (rounds g n) m new stop b c → Plays (rounds g (suc n)) w new stop a c
  rounds_more stop a b c is exact yet made rest =
      where_holds (λ s. any_lives s.nodes s.history) (λ s. Then (round g s) (rounds g n)) (λ s. ends (To s)) w new stop
      a c
      (λ s shown. lives_shown i s lives (subst (λ (u : WorldState). Shows u s) (sym is) shown) exact ∙ yet)
      (plays_then (round g) (rounds g n) w m new stop a b c made rest)

  -- the run ended in one
  rounds_stop : (stop : Stop) (a b : Told) → i ≡ w
      → ((h : List Noted) → Standing i.nodes h → lives ≡ any_lives (nodes_of i.nodes) h) → lives ≡ true
      → Plays (round g) w m (Some stop) a b → Plays (rounds g (suc n)) w new (Some stop) a b
  rounds_stop stop a b is exact yet made =
      where_holds (λ s. any_lives s.nodes s.history) (λ s. Then (round g s) (rounds g n)) (λ s. ends (To s)) w new
      (Some stop)
      a b (λ s shown. lives_shown i s lives (subst (λ (u : WorldState). Shows u s) (sym is) shown) exact ∙ yet)
      (plays_stops (round g) (rounds g n) w m new stop a b made)

-- none lives
rounds_over : (g : Handlers) (n : ℕ) (i w : WorldState) (lives : Bool) (t : Told) → i ≡ w
    → ((h : List Noted) → Standing i.nodes h → lives ≡ any_lives (nodes_of i.nodes) h) → lives ≡ false
    → Plays (rounds g n) w w None t t
rounds_over g zero i w lives t is exact over = plays_none w t
rounds_over g (suc n) i w lives t is exact over =
    where_fails (λ s. any_lives s.nodes s.history) (λ s. Then (round g s) (rounds g n)) (λ s. ends (To s)) w w None t t
    (λ s shown. lives_shown i s lives (subst (λ (u : WorldState). Shows u s) (sym is) shown) exact ∙ over)
    (plays_none w t)

-- what is left of a count
pub less_one : (count k : ℕ) → k < count → count - k ≡ suc (count - (k + 1))
less_one count k low = omega arith

module _ (g : Handlers) (count k : ℕ) (i w0 w m : WorldState) (lives : Bool) (a b c : Told) where
  -- one round more
  pub onward_more : k < count → i ≡ w → ((h : List Noted) → Standing i.nodes h → lives ≡ any_lives (nodes_of i.nodes) h)
      → lives ≡ true → Plays (round g) w m None b c → Onward (rounds g count) (rounds g (count - k)) w0 w a b
      → Onward (rounds g count) (rounds g (count - (k + 1))) w0 m a c
  onward_more low is exact yet made onward new stop e rest =
      onward new stop e
      (subst (λ n. Plays (rounds g n) w new stop b e) (sym (less_one count k low))
      (rounds_more g (count - (k + 1)) i w m new lives stop b c e is exact yet made rest))

module _ (g : Handlers) (count k : ℕ) (i w0 w m new : WorldState) (lives : Bool) (r : Result (Unit {0}) Stop)
    (stop : Stop) (a b c : Told) where
  -- the run ended in a round
  pub onward_stops : k < count → i ≡ w
      → ((h : List Noted) → Standing i.nodes h → lives ≡ any_lives (nodes_of i.nodes) h) → lives ≡ true
      → Plays (round g) w m (Some stop) b c → IsErr r × IsErrAnd r (λ why. why ≡ stop)
      → Onward (rounds g count) (rounds g (count - k)) w0 w a b → Plays (rounds g count) w0 new (stop_of r) a c
  onward_stops low is exact yet made err onward =
      subst (λ o. Plays (rounds g count) w0 new o a c) (sym (stop_is r stop err))
      (onward new (Some stop) c
      (subst (λ n. Plays (rounds g n) w new (Some stop) b c) (sym (less_one count k low))
      (rounds_stop g (count - (k + 1)) i w m new lives stop b c is exact yet made)))

module _ (g : Handlers) (count k : ℕ) (i w0 w : WorldState) (lives : Bool) (a b : Told) where
  -- none lives any more
  pub onward_over : i ≡ w → ((h : List Noted) → Standing i.nodes h → lives ≡ any_lives (nodes_of i.nodes) h)
      → lives ≡ false → Onward (rounds g count) (rounds g (count - k)) w0 w a b → Plays (rounds g count) w0 w None a b
  onward_over is exact over onward =
      onward w None b (rounds_over g (count - k) i w lives b is exact over)

-- all were made
pub onward_all : (g : Handlers) (count k : ℕ) (w0 w : WorldState) (a b : Told) → count ≤ k
    → Onward (rounds g count) (rounds g (count - k)) w0 w a b → Plays (rounds g count) w0 w None a b
onward_all g count k w0 w a b high onward =
    onward w None b
    (subst (λ n. Plays (rounds g n) w w None b b) (let none : 0 ≡ count - k = omega arith in none) (plays_none w b))
