-- Lines of a plan, played over nodes by the rules alone: each line's trace is computed. For examples.
use Rattle.std.specs.Prelude.{◌==◌, ◌+◌, ◌-◌, if◌then◌else◌, nat_lt, ℕ, ℤ, suc, zero, Bool}
use Rattle.std.specs.Prelude.{List, [], ◌∷◌, ◌++◌, length, take, drop, slice_get, slice_set, unwrap_or}
use Rattle.std.specs.Prelude.{Option, Some, None, Ok, Err, option_map}
use Rattle.std.specs.List.{join_with_byte, list_any}
use Rattle.rx_model.specs.declared.answers.Asked.TheVariants as askeds
use Rattle.rx_model.specs.declared.answers.CallRefused.TheVariants as crowds
use Rattle.rx_model.specs.declared.answers.ReadAns.TheVariants as answers
use Rattle.rx_model.specs.declared.answers.ReadGot.TheVariants as readers
use Rattle.rx_model.specs.declared.answers.ServeRead.TheVariants as reads
use Rattle.rx_model.specs.declared.answers.Took.TheVariants as tooks
use Rattle.rx_model.specs.declared.answers.WroteGot.TheVariants as writers
use Rattle.rx_model.specs.declared.event.Event.{Event}
use Rattle.rx_model.specs.declared.event.Event.TheVariants as events
use Rattle.rx_model.specs.declared.names.CallName.{CallName}
use Rattle.rx_model.specs.declared.names.Host.{Host}
use Rattle.rx_model.specs.Names.{same_host}
use Rattle.rx_model.specs.Text.{line_of, node_name}
use Rattle.rx_rules.specs.After.{after}
use Rattle.rx_rules.specs.Items.{due}
use Rattle.rx_rules.specs.Least.{least_by}
use Rattle.rx_rules.specs.Looks.{Looks, at_start}
use Rattle.rx_rules.specs.Setup.{Setup, is_client}
use Rattle.rx_rules.specs.Slots.{live}
use Rattle.rx_rules.proofs.Replay.{answered}

-- ---- lines

-- a line of a plan: a call on a node, or a datagram that is delivered, or rounds
pub data Line : Type 0 where
  Connect : (client : ℕ) (to : Host) (service first : ℕ) → Line
  Call : (client cid : ℕ) → Line
  Write : (node : ℕ) (c : CallName) (bytes : List ℕ) → Line
  Shut : (client : ℕ) (c : CallName) → Line
  Read : (node : ℕ) (c : CallName) (max : ℕ) → Line
  Ask : (client : ℕ) (c : CallName) → Line
  Cancel : (client : ℕ) (c : CallName) (code : ℤ) → Line
  Accept : Line
  Finish : (c : CallName) (code : ℤ) → Line
  Forge : (node : ℕ) (from : Host) (bytes : List ℕ) → Line
  Poll : (node : ℕ) → Line
  Deliver : (k : ℕ) → Line
  Clock : (node now : ℕ) → Line
  ClockAll : (now : ℕ) → Line
  Rounds : (most : ℕ) → Line

-- ---- nodes

-- a node with what its history says
pub record Stage : Type 0 where
  pub index : ℕ
  pub host : Host
  pub setup : Setup
  pub looks : Looks

-- a datagram that a poll gave, with its giver
pub record Flight : Type 0 where
  pub from : Host
  pub to : Host
  pub bytes : List ℕ

-- the nodes, the datagrams given, the oldest first, and the events made, the newest first, each as its line
pub record Play : Type 0 where
  pub stages : List Stage
  pub flights : List Flight
  pub lines : List (List ℕ)

-- a datagram that an event gave
abbrev pub flights_of : Host → Event → List Flight
flights_of from (events.Polled (Some (to, bytes))) = record { from = from; to = to; bytes = bytes } ∷ []
flights_of from _ = []

-- an event is made at a node, by the rules' answer
abbrev pub made_at : Stage → Event → Play → Play
made_at n e p =
    record {
      stages = slice_set p.stages n.index (record n { looks = after n.setup e n.looks });
      flights = p.flights ++ flights_of n.host e;
      lines = line_of (node_name n.index) e ∷ p.lines;
    }

-- at the node with this number
abbrev pub make_with : Option Stage → Event → Play → Play
make_with None e p = p
make_with (Some n) e p = made_at n (answered n.setup n.looks e) p

abbrev pub make : ℕ → Event → Play → Play
make k e p = make_with (slice_get p.stages k) e p

-- ---- what a line makes

-- as many of the bytes as were accepted
abbrev pub accepted : List ℕ → Event → Event
accepted bytes (events.Wrote c offered (writers.Client (Ok n)) old) =
    events.Wrote c offered (writers.Client (Ok n)) (take n bytes)
accepted bytes (events.Wrote c offered (writers.Server (Ok n)) old) =
    events.Wrote c offered (writers.Server (Ok n)) (take n bytes)
accepted bytes e = e

abbrev pub write_with : Option Stage → CallName → List ℕ → Play → Play
write_with None c bytes p = p
write_with (Some n) c bytes p =
    made_at n
    (accepted bytes (answered n.setup n.looks (events.Wrote c (length bytes)
    (if is_client n.setup.kind then writers.Client (Ok 0) else writers.Server (Ok 0)) []))) p

abbrev pub read_with : Option Stage → CallName → ℕ → Play → Play
read_with None c max p = p
read_with (Some n) c max p =
    make_with (Some n) (events.HasRead c max
    (if is_client n.setup.kind then readers.Client answers.NotYet else readers.Server reads.NotYet) []) p

-- the first node with a host takes a datagram
abbrev pub taken_by : List Stage → Flight → Play → Play
taken_by [] f p = p
taken_by (n ∷ ns) f p =
    if same_host n.host f.to then make_with (Some n) (events.Taken f.from f.bytes tooks.Strange) p else taken_by ns f p

abbrev pub deliver_with : Option Flight → Play → Play
deliver_with None p = p
deliver_with (Some f) p = taken_by p.stages f p

-- datagrams are delivered, in order
abbrev pub deliver_all : List Flight → Play → Play
deliver_all [] p = p
deliver_all (f ∷ fs) p = deliver_all fs (taken_by p.stages f p)

-- the moment of every node is set
abbrev pub clock_all : List Stage → ℕ → Play → Play
clock_all [] now p = p
clock_all (n ∷ ns) now p = clock_all ns now (make n.index (events.Clocked now) p)

-- ---- rounds

-- a node is polled until none, so often at most
abbrev pub polled_out : ℕ → ℕ → ℕ → Play → Play
polled_out zero k given p = p
polled_out (suc fuel) k given p =
    if length p.flights == given then p else polled_out fuel k (length p.flights) (make k (events.Polled None) p)

abbrev pub polled : ℕ → Play → Play
polled k p = polled_out 200 k (length p.flights) (make k (events.Polled None) p)

-- one of several nodes, the clients before the server
abbrev pub polled_each : List Stage → Play → Play
polled_each [] p = p
polled_each (n ∷ ns) p = polled_each ns (polled n.index p)

abbrev pub in_turn : List Stage → List Stage
in_turn [] = []
in_turn (server ∷ clients) = clients ++ server ∷ []

-- how long until the first node's due moment
abbrev pub waits : List Stage → List ℕ
waits [] = []
waits (n ∷ ns) = unwrap_or (option_map (λ m. (m - n.looks.now) ∷ []) (due n.setup n.looks)) [] ++ waits ns

-- every clock moves forward by so much
abbrev pub forward : List Stage → Option ℕ → Play → Play
forward ns None p = p
forward [] (Some wait) p = p
forward (n ∷ ns) (Some wait) p = forward ns (Some wait) (make n.index (events.Clocked (n.looks.now + wait)) p)

-- behind the polls of a round: deliveries, the dispatcher's accept, and the clocks where nothing was given
abbrev pub round_rest : ℕ → Play → Play
round_rest before p =
    if length p.flights == before
    then forward p.stages (least_by (λ m. m) (waits p.stages)) (make 0 (events.Accepted None) p)
    else make 0 (events.Accepted None) (deliver_all (drop before p.flights) p)

abbrev pub some_live : List Stage → Bool
some_live ns = list_any (λ n. nat_lt 0 (live n.looks)) ns

-- rounds until no call lives, so many at most
abbrev pub rounds : ℕ → Play → Play
rounds zero p = p
rounds (suc most) p =
    if some_live p.stages then rounds most (round_rest (length p.flights) (polled_each (in_turn p.stages) p)) else p

-- ---- stories

abbrev pub played : Line → Play → Play
played (Connect client to service first) p = make client (events.Linked to service first (Ok 0)) p
played (Call client cid) p = make client (events.Called cid (Err crowds.NoConn)) p
played (Write node c bytes) p = write_with (slice_get p.stages node) c bytes p
played (Shut client c) p = make client (events.Shut c (Ok tt)) p
played (Read node c max) p = read_with (slice_get p.stages node) c max p
played (Ask client c) p = make client (events.Ended c askeds.Live) p
played (Cancel client c code) p = make client (events.Cancelled c code (Ok tt)) p
played Accept p = make 0 (events.Accepted None) p
played (Finish c code) p = make 0 (events.Finished c code (Ok tt)) p
played (Forge node from bytes) p = make node (events.Taken from bytes tooks.Strange) p
played (Poll node) p = make node (events.Polled None) p
played (Deliver zero) p = p
played (Deliver (suc k)) p = deliver_with (slice_get p.flights k) p
played (Clock node now) p = make node (events.Clocked now) p
played (ClockAll now) p = clock_all p.stages now p
played (Rounds most) p = rounds most p

-- the trace of a line: those of its events, the oldest first, a space between each two
abbrev pub trace : List (List ℕ) → List ℕ
trace newest = join_with_byte 59 (reversed newest)
  where
    reversed : List (List ℕ) → List (List ℕ)
    reversed [] = []
    reversed (x ∷ xs) = reversed xs ++ x ∷ []

-- each line's trace
abbrev pub story_from : List Line → Play → List (List ℕ)
story_from [] p = []
story_from (line ∷ lines) p =
    let next : Play = played line (record p { lines = [] }) in
    trace next.lines ∷ story_from lines next

-- the nodes at the start, the server first
abbrev pub stages_from : ℕ → List (Host × Setup) → List Stage
stages_from k [] = []
stages_from k ((host, setup) ∷ rest) =
    record { index = k; host = host; setup = setup; looks = at_start } ∷ stages_from (suc k) rest
