-- Moments of nodes, from what a run keeps.
use Rattle.std.proofs.Common.{◌≡◌, ◌≢◌, ◌<◌, ◌≤◌, ◌∙◌, ℕ, zero, suc, List, [], ◌∷◌, Bool, true, false, sym}
use Rattle.std.proofs.Common.{subst, ap}
use Rattle.std.proofs.Common.{arith, drop, length, map, nat_lt, slice_get, option_map, unwrap_or, Option, Some}
use Rattle.std.proofs.Common.{None, ◌||◌}
use Rattle.std.proofs.Common.{◌+◌, ◌++◌, Result}
use Rattle.std.specs.Result.{IsErr, IsErrAnd}
use Rattle.std.proofs.lemmas.List.{length-map}
use Rattle.std.proofs.lemmas.Bool.Decides.{nat_tests}
use Rattle.rx_history.specs.Sides.{moment}
use Rattle.rx_events.specs.Events.{IsClocked}
use Rattle.rx_joint.specs.Nodes.{IsNodeThere, KeepsOthers, NodesState, client_node, moment_of, nodes_of}
use Rattle.rx_script.specs.declared.outcome.PlanWhy.TheVariants as causes
use Rattle.rx_events.specs.Waits.{is_later, over_nodes}
use Rattle.rx_joint.specs.Nodes.{moments_of}
use Rattle.rx_joint.specs.declared.nodes.ClientAt.{ClientAt}
use Rattle.rx_joint.proofs.Times.{moment_is, moments_are}
use Rattle.rx_stage.specs.declared.stop.Stop.{Stop}
use Rattle.rx_stage.specs.declared.stop.Stop.TheVariants as stops
use Rattle.rx_plan.specs.Lines.{clocks, clocks_all, is_back, sets_clocks}
use Rattle.rx_plan.specs.Network.{below}
use Rattle.rx_plan.specs.Parts.{Part, Refused, each, ends}
use Rattle.rx_stage.specs.Ran.{Ran, stop_of}
use Rattle.rx_plan.specs.Rounds.{clients_first}
use Rattle.rx_stage.specs.Shown.{Plays, Shows, WorldState}
use Rattle.rx_plan.specs.Stages.{Stage, event}
use Rattle.rx_stage.specs.Tells.{Told}
use Rattle.rx_stage.proofs.Making.{stop_is, where_fails, where_holds}
use Rattle.rx_stage.proofs.Ordering.{AroundClient, around_client, clients_one, clients_shown}
use Rattle.rx_stage.proofs.Playing.{each_one, each_stops}
use Rattle.rx_stage.proofs.Running.{ran_refused}
use Rattle.rx_stage.proofs.Stepping.{nodes_shown}
use Rattle.rx_joint.proofs.Waiting.{is_less, not_less}

-- ---- one node

-- its moment is later
pub clock_back : (w : WorldState) (s : Stage) (node now : ℕ) → Shows w s → IsNodeThere w.nodes node
    → now < moment_of w.nodes node → nat_lt now (moment node s.history) ≡ true
clock_back w s node now shown there back =
    ap (nat_lt now) (sym (moment_is w.nodes s.history node shown.standing there))
    ∙ is_less now (moment_of w.nodes node) back

-- it isn't
pub clock_on : (w : WorldState) (s : Stage) (node now : ℕ) → Shows w s → IsNodeThere w.nodes node
    → moment_of w.nodes node ≤ now → nat_lt now (moment node s.history) ≡ false
clock_on w s node now shown there on =
    ap (nat_lt now) (sym (moment_is w.nodes s.history node shown.standing there))
    ∙ not_less now (moment_of w.nodes node) on

-- ---- all nodes

-- whether one is later
pub back_shown : (w : WorldState) (s : Stage) (now : ℕ) → Shows w s
    → is_back now s ≡ is_later now (moments_of w.nodes)
back_shown w s now shown =
    ap (λ ns. is_later now (over_nodes (λ k n. moment k s.history) 0 ns)) (nodes_shown w s shown)
    ∙ ap (is_later now) (sym (moments_are w.nodes s.history shown.standing))

later_head : (now m : ℕ) (ms : List ℕ) → is_later now (m ∷ ms) ≡ false → m ≤ now
later_head now m ms none = grind (arith, nat_tests)

later_rest : (now m : ℕ) (ms : List ℕ) → is_later now (m ∷ ms) ≡ false → is_later now ms ≡ false
later_rest now m ms none = of (nat_lt now m) none
  where
    of : (b : Bool) → (b || is_later now ms) ≡ false → is_later now ms ≡ false
    of true none = (cc)
    of false none = none

none_of_clients : (now : ℕ) (cs : List ClientAt) (k : ℕ) → is_later now (map (λ c. c.client.moment) cs) ≡ false
    → unwrap_or (option_map (λ c. c.client.moment) (slice_get cs k)) 0 ≤ now
none_of_clients now [] k none = omega arith
none_of_clients now (c ∷ cs) zero none = later_head now c.client.moment (map (λ d. d.client.moment) cs) none
none_of_clients now (c ∷ cs) (suc k) none =
    none_of_clients now cs k (later_rest now c.client.moment (map (λ d. d.client.moment) cs) none)

-- where none is later, each is at this moment or before it
pub none_later : (n : NodesState) (now node : ℕ) → is_later now (moments_of n) ≡ false → moment_of n node ≤ now
none_later n now zero none = later_head now n.server.node.moment (map (λ c. c.client.moment) n.clients) none
none_later n now (suc k) none =
    none_of_clients now n.clients k
    (later_rest now n.server.node.moment (map (λ c. c.client.moment) n.clients) none)

-- a node that made no event is at its moment
pub moment_kept : (old new : NodesState) (node k : ℕ) → KeepsOthers old new node → node ≢ k
    → moment_of new k ≡ moment_of old k
moment_kept old new node zero keeps other = ap (λ s. s.node.moment) (keeps.server other)
moment_kept old new node (suc k) keeps other =
    ap (λ o. unwrap_or (option_map (λ c. c.client.moment) o) 0) (keeps.clients k other)

-- as many clients as before
pub count_kept : (old new : NodesState) → nodes_of new ≡ nodes_of old → length new.clients ≡ length old.clients
count_kept old new same =
    (let long : suc (length (map client_node new.clients)) ≡ suc (length (map client_node old.clients)) = ap length
    same in
    omega (arith, long, length-map new.clients client_node, length-map old.clients client_node))

-- ---- lines

-- the clock of a node isn't set back
pub clock_refused : (w i : WorldState) (node now m : ℕ) (t : Told) → i ≡ w → IsNodeThere w.nodes node
    → m ≡ moment_of i.nodes node → now < m
    → Plays (clocks now node) w w (Some (stops.Refused causes.ClockBack)) t t
clock_refused w i node now m t parts there is back =
    where_holds (λ s. nat_lt now (moment node s.history)) (λ s. ends (Refused causes.ClockBack))
    (event node (IsClocked now)) w w (Some (stops.Refused causes.ClockBack)) t t
    (λ s shown. clock_back w s node now shown there
    (subst (λ k. now < k) (is ∙ ap (λ (v : WorldState). moment_of v.nodes node) parts) back))
    (λ s shown. ran_refused (Shows w) causes.ClockBack t)

module _ (w i new : WorldState) (node now m : ℕ) (stop : Option Stop) (a b : Told) where
  -- it is set on
  pub clock_made : i ≡ w → IsNodeThere w.nodes node → m ≡ moment_of i.nodes node → m ≤ now
      → Plays (event node (IsClocked now)) w new stop a b → Plays (clocks now node) w new stop a b
  clock_made parts there is on plays =
      where_fails (λ s. nat_lt now (moment node s.history)) (λ s. ends (Refused causes.ClockBack))
      (event node (IsClocked now)) w new stop a b
      (λ s shown. clock_on w s node now shown there
      (subst (λ k. k ≤ now) (is ∙ ap (λ (v : WorldState). moment_of v.nodes node) parts) on))
      plays

-- no clock is set where one is later
pub clocks_refused : (w i : WorldState) (now : ℕ) (later : Bool) (t : Told) → i ≡ w
    → later ≡ is_later now (moments_of i.nodes) → later ≡ true
    → Plays (clocks_all now) w w (Some (stops.Refused causes.ClockBack)) t t
clocks_refused w i now later t parts is holds =
    where_holds (is_back now) (λ s. ends (Refused causes.ClockBack)) (sets_clocks now) w w
    (Some (stops.Refused causes.ClockBack)) t t
    (λ s shown. back_shown w s now shown ∙ ap (λ (v : WorldState). is_later now (moments_of v.nodes)) (sym parts)
    ∙ sym is ∙ holds)
    (λ s shown. ran_refused (Shows w) causes.ClockBack t)

-- they are set where none is
pub clocks_made : (w i new : WorldState) (now : ℕ) (later : Bool) (stop : Option Stop) (a b : Told) → i ≡ w
    → later ≡ is_later now (moments_of i.nodes) → later ≡ false → Plays (sets_clocks now) w new stop a b
    → Plays (clocks_all now) w new stop a b
clocks_made w i new now later stop a b parts is fails plays =
    where_fails (is_back now) (λ s. ends (Refused causes.ClockBack)) (sets_clocks now) w new stop a b
    (λ s shown. back_shown w s now shown ∙ ap (λ (v : WorldState). is_later now (moments_of v.nodes)) (sym parts)
    ∙ sym is ∙ fails)
    plays

-- ---- all clocks, node by node

-- one clock of a node
abbrev pub sets : ℕ → ℕ → Stage → Part Stage
sets now node = event node (IsClocked now)

module _ (now k : ℕ) (w m new : WorldState) where
  -- clocks that were set before the run ended in that of a client
  pub clocks_stop : (stop : Stop) (a b c : Told) → 1 ≤ k → k < suc (length w.nodes.clients)
      → Plays (each (sets now) (drop 1 (below k))) w m None a b → Plays (sets now k) m new (Some stop) b c
      → Plays (sets_clocks now) w new (Some stop) a c
  clocks_stop stop a b c some less so_far last s shown =
      (let r : AroundClient k (clients_first s) = around_client w s k shown some less in
      subst (λ ns. Ran (each (sets now) ns s) (Shows new) (Some stop) a c) (sym r.are)
      (each_stops (sets now) (drop 1 (below k)) r.more k w m new stop a b c so_far last s shown))

  -- the same from what the method answers
  pub clocks_stop_as : (r : Result (Unit {0}) Stop) (stop : Stop) (a b c : Told) → IsErr r × IsErrAnd r (λ x. x ≡ stop)
      → 1 ≤ k → k < suc (length w.nodes.clients) → Plays (each (sets now) (drop 1 (below k))) w m None a b
      → Plays (sets now k) m new (Some stop) b c → Plays (sets_clocks now) w new (stop_of r) a c
  clocks_stop_as r stop a b c was some less so_far last =
      subst (λ o. Plays (sets_clocks now) w new o a c) (sym (stop_is r stop was))
      (clocks_stop stop a b c some less so_far last)

  -- those of all clients were set, and then the server's
  pub clocks_all_set : (stop : Option Stop) (a b c : Told) → k ≡ suc (length w.nodes.clients)
      → Plays (each (sets now) (drop 1 (below k))) w m None a b → Plays (sets now 0) m new stop b c
      → Plays (sets_clocks now) w new stop a c
  clocks_all_set stop a b c all so_far last s shown =
      subst (λ ns. Ran (each (sets now) ns s) (Shows new) stop a c)
      (ap (λ n. drop 1 (below n) ++ 0 ∷ []) all ∙ sym (clients_shown w s shown))
      (each_one (sets now) (drop 1 (below k)) 0 w m new stop a b c so_far last s shown)

  -- one client's more
  pub clocks_more : (a b c : Told) → 1 ≤ k → Plays (each (sets now) (drop 1 (below k))) w m None a b
      → Plays (sets now k) m new None b c → Plays (each (sets now) (drop 1 (below (k + 1)))) w new None a c
  clocks_more a b c some so_far next =
      subst (λ ns. Plays (each (sets now) ns) w new None a c) (sym (clients_one k some))
      (each_one (sets now) (drop 1 (below k)) k w m new None a b c so_far next)
