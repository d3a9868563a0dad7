-- Lines that make a node.
use Rattle.std.proofs.Common.{◌≡◌, ◌<◌, ◌≤◌, ◌+◌, ◌^◌, ◌∙◌, ◌&&◌, ℕ, suc, Bool, true, false, List, [], ◌∷◌, ◌++◌}
use Rattle.std.proofs.Common.{Option}
use Rattle.std.proofs.Common.{Some, None, Ok}
use Rattle.std.proofs.Common.{refl, sym, subst, ap, length, arith, nat_le, nat_lt, slice_get}
use Rattle.std.proofs.Common.{if◌then◌else◌}
use Rattle.std.specs.Prelude.{IsErr, IsErrAnd, Result}
use Rattle.std.proofs.lemmas.Bool.Decides.{nat_tests}
use Rattle.std.proofs.lemmas.Result.{err_from_is_err_and}
use Rattle.std.proofs.Math.Bool.{and-true}
use Rattle.std.proofs.lemmas.List.{length-map, length_push}
use Rattle.rx_model.specs.declared.event.Noted.{Noted}
use Rattle.rx_model.specs.declared.names.Host.{Host}
use Rattle.rx_model.specs.declared.names.Limits.{Limits}
use Rattle.rx_history.specs.Sides.{Node}
use Rattle.rx_law.specs.Worlds.{AreOf}
use Rattle.rx_joint.specs.Nodes as nodes
use Rattle.rx_joint.specs.Nodes.{NodesState, Standing, nodes_of}
use Rattle.rx_rules.specs.Classes.{Class}
use Rattle.rx_rules.specs.Setup.{Server, unprompted}
use Rattle.rx_script.specs.declared.outcome.PlanWhy.TheVariants as causes
use Rattle.rx_script.specs.declared.plan.PlanLine.TheVariants as lines
use Rattle.rx_plan.specs.Follows.{Progress, adds, begins, begun, class_of, fits_limits, has_room, made_node}
use Rattle.rx_plan.specs.Follows.{server_node, slots_of}
use Rattle.rx_plan.specs.Parts.{To, Refused, ends}
use Rattle.rx_stage.specs.Ran.{Ran, stop_of}
use Rattle.rx_stage.specs.Showing.{AddsNode, IsBegun, IsCounted, ShowsRun, has_client_room, has_slots}
use Rattle.rx_stage.specs.Showing.{started}
use Rattle.rx_stage.specs.Shown.{Shows, WorldState, jobs_of, stage_of}
use Rattle.rx_plan.specs.Stages.{Stage, service_of}
use Rattle.rx_stage.specs.declared.runs.Running.{Running}
use Rattle.rx_plan.specs.declared.limits.TheConstants.{MAX_CLIENTS, MAX_SLOTS}
use Rattle.rx_stage.specs.declared.stop.Stop.{Stop}
use Rattle.rx_stage.specs.declared.stop.Stop.TheVariants as stops
use Rattle.rx_stage.proofs.Running as runnings
use Rattle.rx_stage.proofs.Stepping.{nodes_shown}
use Rattle.rx_plan.proofs.Soundness.SoundPlan.{and_left}

-- ---- limits

rest_holds : (a b : Bool) → (a && b) ≡ true → b ≡ true
rest_holds true b both = both
rest_holds false true both = refl
rest_holds false false both = both

pub slots_within : (l : Limits) (slots : ℕ) → has_slots l slots ≡ true → slots + l.slots ≤ MAX_SLOTS
slots_within l slots fit =
    let test = rest_holds (fits_limits l) (nat_le (slots + l.slots) MAX_SLOTS) fit in grind (arith, nat_tests)

pub room_fits : (l : Limits) (slots clients : ℕ) → has_client_room l slots clients ≡ true → has_slots l slots ≡ true
room_fits l slots clients room = and_left (has_slots l slots) (nat_lt clients MAX_CLIENTS) room

-- the first node has room where it has slots
pub first_room : (l : Limits) → has_room l [] ≡ has_slots l 0
first_room l = ap (λ b. fits_limits l && b) (and-true (nat_le (0 + l.slots) MAX_SLOTS))

grouped : (a b c : Bool) → (a && (b && c)) ≡ ((a && b) && c)
grouped true b c = refl
grouped false b c = refl

below_most : (n : ℕ) → nat_le (suc n) MAX_CLIENTS ≡ nat_lt n MAX_CLIENTS
below_most n = grind (arith, nat_tests)

-- a client has room among the server and so many clients
pub client_room : (l : Limits) (ns : List Node) (clients : ℕ) → length ns ≡ suc clients
    → has_room l ns ≡ has_client_room l (slots_of ns) clients
client_room l ns clients many =
    ap (λ n. fits_limits l && (nat_le (slots_of ns + l.slots) MAX_SLOTS && nat_le n MAX_CLIENTS)) many
    ∙ ap (λ b. fits_limits l && (nat_le (slots_of ns + l.slots) MAX_SLOTS && b)) (below_most clients)
    ∙ grouped (fits_limits l) (nat_le (slots_of ns + l.slots) MAX_SLOTS) (nat_lt clients MAX_CLIENTS)

-- ---- the server

begun_so : (host : Host) (service : ℕ) (limits : Limits) (key : Option (List ℕ)) (nonce : ℕ)
    → has_slots limits 0 ≡ true
    → begins (lines.Server host service limits key nonce) ≡ To (begun (server_node host service limits key nonce))
begun_so host service limits key nonce room =
    ap (λ b. if b then To (begun (server_node host service limits key nonce)) else Refused causes.Slots)
    (first_room limits ∙ room)

-- the stage of a world at its start
start_is : (n : Node) (w : WorldState) (ns : NodesState) (service : ℕ) → w ≡ started ns service w.dispatcher
    → nodes_of ns ≡ n ∷ [] → jobs_of w ≡ [] → begun n ≡ stage_of w []
start_is n w ns service kept one none =
    ap (λ (xs : List Node). record (begun n) { nodes = xs }) (sym one)
    ∙ ap (λ js. record (begun n) { nodes = nodes_of ns; jobs = js }) (sym none)
    ∙ ap (λ (v : WorldState). record (stage_of v []) { jobs = jobs_of w }) (sym kept)

module _ (host : Host) (service : ℕ) (limits : Limits) (key : Option (List ℕ)) (nonce : ℕ) (class : Class)
    (ns : NodesState) (w : WorldState) where
  -- it was made
  pub server_begun : has_slots limits 0 ≡ true → class ≡ class_of key → Standing ns []
      → nodes_of ns ≡ record { host = host; setup = unprompted (Server service nonce) limits class } ∷ []
      → w ≡ started ns service w.dispatcher → jobs_of w ≡ []
      → IsBegun (begins (lines.Server host service limits key nonce))
      (Ok (record { world = w; late = false; slots = limits.slots }))
  server_begun room keyed standing one kept none = (
    begun n,
    begun_so host service limits key nonce room,
    record { stage = shown; late = refl; place = refl },
    λ early. (counted, (let within = slots_within limits 0 room in omega (arith, within))),
  )
    where
      n : Node
      n = server_node host service limits key nonce

      alone : nodes_of ns ≡ n ∷ []
      alone = one ∙ ap (λ c. record {
        host = host;
        setup = unprompted (Server service nonce) limits c;
      } ∷ []) keyed

      shown : Shows w (begun n)
      shown =
          record {
            is = start_is n w ns service kept alone none;
            standing = subst (λ (v : WorldState). Standing v.nodes []) (sym kept) standing;
            service = ap (λ (v : WorldState). v.service) kept;
            of_nodes = tt;
            few = omega arith;
          }

      counted : limits.slots ≡ slots_of (nodes_of w.nodes)
      counted =
          sym (ap slots_of (ap (λ (v : WorldState). nodes_of v.nodes) kept ∙ alone) ∙ grind arith)

-- ---- a client

-- one more node has more slots
slots_more : (ns : List Node) (n : Node) → slots_of (ns ++ n ∷ []) ≡ slots_of ns + n.setup.limits.slots
slots_more [] n = grind arith
slots_more (m ∷ ns) n = let more = slots_more ns n in grind arith

-- the events of nodes are those of more nodes
of_more : (ns : List Node) (n : Node) (h : List Noted) → AreOf ns h → AreOf (ns ++ n ∷ []) h
of_more ns n [] are = tt
of_more ns n (e ∷ h) (there, are) =
    (subst (λ k. e.node < k) (sym (length_push ns n)) (omega (arith, there)), of_more ns n h are)

-- the server is the first of more nodes
first_same : (ns : List Node) (n : Node) (m : Node) (ms : List Node) → ns ≡ m ∷ ms
    → service_of (slice_get (ns ++ n ∷ []) 0) ≡ service_of (slice_get ns 0)
first_same ns n m ms are =
    subst (λ xs. service_of (slice_get (xs ++ n ∷ []) 0) ≡ service_of (slice_get xs 0)) (sym are) refl

-- so many nodes
pub nodes_count : (ns : NodesState) → length (nodes_of ns) ≡ suc (length ns.clients)
nodes_count ns = ap suc (length-map ns.clients nodes.client_node)

-- one more where there is room for a client: each has a number
few_more : (l : Limits) (slots clients : ℕ) (ns : List Node) (n : Node) → has_client_room l slots clients ≡ true
    → length ns ≡ suc clients → length (ns ++ n ∷ []) < 2 ^ 32
few_more l slots clients ns n room many =
    (let test : nat_lt clients 64 ≡ true = rest_holds (has_slots l slots) (nat_lt clients MAX_CLIENTS) room in
    let low : clients < 64 = grind (arith, nat_tests) in
    omega (arith, length_push ns n, many, low))

-- a line that made no node came before
pub client_late : (n : Node) (r : Running) → r.late ≡ true → AddsNode n r r (Some (stops.Refused causes.Late))
client_late n r late place t p shows =
    subst (λ b. Ran (ends (made_node p (adds b n p.stage))) (ShowsRun r (suc place)) (Some
    (stops.Refused causes.Late)) t t)
    (sym (shows.late ∙ late)) (runnings.ran_refused (ShowsRun r (suc place)) causes.Late t)

room_shown : (n : Node) (r : Running) (p : Progress) (place : ℕ) → ShowsRun r place p → r.late ≡ false → IsCounted r
    → has_room n.setup.limits p.stage.nodes ≡ has_client_room n.setup.limits r.slots (length r.world.nodes.clients)
room_shown n r p place shows early counted =
    ap (has_room n.setup.limits) (nodes_shown r.world p.stage shows.stage)
    ∙ client_room n.setup.limits (nodes_of r.world.nodes) (length r.world.nodes.clients) (nodes_count r.world.nodes)
    ∙ ap (λ slots. has_client_room n.setup.limits slots (length r.world.nodes.clients)) (sym (counted early).0)

-- there is no room for it
pub client_refused : (n : Node) (r : Running) → r.late ≡ false → IsCounted r
    → has_client_room n.setup.limits r.slots (length r.world.nodes.clients) ≡ false
    → AddsNode n r r (Some (stops.Refused causes.Slots))
client_refused n r early counted full place t p shows =
    subst (λ b. Ran (ends (made_node p (adds b n p.stage))) (ShowsRun r (suc place)) (Some
    (stops.Refused causes.Slots)) t t)
    (sym (shows.late ∙ early))
    (subst (λ b. Ran (ends (made_node p (if b then To (record p.stage { nodes = p.stage.nodes ++ n ∷ [] })
    else Refused causes.Slots))) (ShowsRun r (suc place)) (Some (stops.Refused causes.Slots)) t t)
    (sym (room_shown n r p place shows early counted ∙ full))
    (runnings.ran_refused (ShowsRun r (suc place)) causes.Slots t))

-- memory is wanted
pub client_wants : (n : Node) (old new : Running) (r : Result (Unit {0}) Stop)
    → IsErr r × IsErrAnd r (λ stop. stop ≡ stops.OutOfMemory) → AddsNode n old new (stop_of r)
client_wants n old new r was =
    (let given = err_from_is_err_and r was.1 in
    subst (λ x. AddsNode n old new (stop_of x)) (sym given.1)
    (subst (λ x. AddsNode n old new (Some x)) (sym given.2) (λ place t p shows.
    runnings.ran_wants (ShowsRun new (suc place)) (made_node p (adds p.late n p.stage)) t)))

-- it was made
pub client_added : (n : Node) (r : Running) (ns : NodesState) → r.late ≡ false → IsCounted r
    → has_client_room n.setup.limits r.slots (length r.world.nodes.clients) ≡ true
    → ((h : List Noted) → AreOf (nodes_of r.world.nodes) h → Standing r.world.nodes h → Standing ns h)
    → nodes_of ns ≡ nodes_of r.world.nodes ++ n ∷ []
    → AddsNode n r (record r { world = record r.world { nodes = ns }; slots = r.slots + n.setup.limits.slots }) None
client_added n r ns early counted room stands added place t p shows =
    subst (λ b. Ran (ends (made_node p (adds b n p.stage))) (ShowsRun new (suc place)) None t t)
    (sym (shows.late ∙ early))
    (subst (λ b. Ran (ends (made_node p (if b then To (record p.stage { nodes = p.stage.nodes ++ n ∷ [] })
    else Refused causes.Slots))) (ShowsRun new (suc place)) None t t)
    (sym (room_shown n r p place shows early counted ∙ room))
    (runnings.ran_to (ShowsRun new (suc place)) (record p { stage = s; place = suc p.place }) t
    (record { stage = shown; late = shows.late; place = ap suc shows.place })))
  where
    new : Running
    new = record r { world = record r.world { nodes = ns }; slots = r.slots + n.setup.limits.slots }

    s : Stage
    s = record p.stage { nodes = p.stage.nodes ++ n ∷ [] }

    same : p.stage.nodes ≡ nodes_of r.world.nodes
    same = nodes_shown r.world p.stage shows.stage

    shown : Shows (record r.world { nodes = ns }) s
    shown =
        record {
          is = ap (λ (x : Stage). record x { nodes = x.nodes ++ n ∷ [] }) shows.stage.is
              ∙ ap (λ xs. record (stage_of r.world p.stage.history) { nodes = xs }) (sym added);
          standing = stands p.stage.history (subst (λ xs. AreOf xs p.stage.history) same shows.stage.of_nodes)
              shows.stage.standing;
          service = shows.stage.service ∙ sym (first_same p.stage.nodes n _ _ same);
          of_nodes = of_more p.stage.nodes n p.stage.history shows.stage.of_nodes;
          few = few_more n.setup.limits r.slots (length r.world.nodes.clients) p.stage.nodes n room
              (ap (λ ns. length ns) same ∙ nodes_count r.world.nodes);
        }

pub client_counted : (n : Node) (r : Running) (ns : NodesState) → IsCounted r
    → has_client_room n.setup.limits r.slots (length r.world.nodes.clients) ≡ true
    → nodes_of ns ≡ nodes_of r.world.nodes ++ n ∷ []
    → IsCounted (record r { world = record r.world { nodes = ns }; slots = r.slots + n.setup.limits.slots })
client_counted n r ns counted room added early = (
  ap (λ k. k + n.setup.limits.slots) (counted early).0
      ∙ sym (slots_more (nodes_of r.world.nodes) n) ∙ ap slots_of (sym added),
  slots_within n.setup.limits r.slots (room_fits n.setup.limits r.slots (length r.world.nodes.clients) room),
)
