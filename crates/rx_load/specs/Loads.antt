-- What a load makes: its nodes and handlers, its calls, and its rounds. Public clauses cite this module.
use Rattle.std.specs.Prelude.{◌==◌, ◌+◌, ◌*◌, ◌-◌, ◌%◌, ◌^◌, ◌&&◌, not, nat_lt, if◌then◌else◌, ℕ, zero, suc, Bool}
use Rattle.std.specs.Prelude.{false}
use Rattle.std.specs.Prelude.{true, List, [], ◌∷◌, Option, Some, None, codes, replicate, set, slice_get, unwrap_or}
use Rattle.std.specs.List.{list_all}
use Rattle.rand_pcg.specs.Lcg.{Lcg, increment_of, started}
use Rattle.rand_pcg.specs.Pcg.{multiplier_64, pcg32}
use Rattle.rx_model.specs.declared.names.Host.{Host}
use Rattle.rx_model.specs.declared.names.Limits.{Limits}
use Rattle.rx_rules.specs.After.{looks}
use Rattle.rx_rules.specs.Slots.{live}
use Rattle.rx_history.specs.Sides.{Node, side}
use Rattle.rx_jobs.specs.Handlers.{Handlers}
use Rattle.rx_plan.specs.Finds.{at_client}
use Rattle.rx_plan.specs.Follows.{client_node, server_node}
use Rattle.rx_plan.specs.Lines.{connects, invokes}
use Rattle.rx_plan.specs.Lossy.{Lossy, carries, fated}
use Rattle.rx_plan.specs.Parts.{Part, Then, To, by_test, each, ends}
use Rattle.rx_plan.specs.Rounds.{polls}
use Rattle.rx_plan.specs.Stages.{Stage}
use Rattle.rx_reply.specs.Sent.{sent_spelling}
use Rattle.rx_script.specs.Saying.{size}
use Rattle.rx_plan.specs.Tallies.{no_tally, tallied}
use Rattle.rx_plan.specs.declared.tally.Tally.{Tally}
use Rattle.xdr_value.specs.Data.{Data, Procedure, basic, end, more, octets}
use Rattle.xdr_value.specs.declared.def.Mode.TheVariants as modes
use Rattle.xdr_value.specs.declared.ty.Basic.TheVariants as basics

-- ---- the nodes and what they serve

-- 10.0.0.1:7000 is the server's; behind it stand those of the clients, at port 7001
abbrev pub load_host : ℕ → Host
load_host node = record { addr = 10 * 2 ^ 24 + 1 + node; port = if node == 0 then 7000 else 7001 }

-- the default limits
abbrev pub load_limits : Limits
load_limits = record { conns = 1024; calls = 64; slots = 2048; window = 32 }

-- a client, whose epoch is its number
abbrev pub load_client : ℕ → Node
load_client node = client_node (load_host node) node load_limits None

-- the numbers of the clients
abbrev pub clients : List ℕ
clients = 1 ∷ 2 ∷ 3 ∷ 4 ∷ []

-- one server of service 1, and four clients
abbrev pub load_nodes : List Node
load_nodes = server_node (load_host 0) 1 load_limits None 0 ∷ load_client 1 ∷ load_client 2 ∷ load_client 3
    ∷ load_client 4 ∷ []

-- Take(IN opaque Body<4096>, OUT afs_uint32 Size) = 1
abbrev pub take_proc : Procedure
take_proc = record {
  name = codes "Take";
  opcode = 1;
  split = false;
  multi = false;
  params =
      record { name = codes "Body"; mode = modes.In; kind = basic (basics.OpaqueUpTo 4096) }
      ∷ record { name = codes "Size"; mode = modes.Out; kind = basic basics.Uint } ∷ [];
}

-- which answers how long its Body is
abbrev pub load_handlers : Handlers
load_handlers = record {
  types = [];
  procs = take_proc ∷ [];
  script = record { proc = codes "Take"; lines = size (codes "Size") (codes "Body") ∷ [] } ∷ [];
}

-- ---- what a load has come to

-- the network: the stage, its generator, which draws all, and what it holds; the number of each client's next call; how
-- long the Body of each call is, by its number, and 0 of those that weren't opened; how many rounds were made; and what
-- became of the datagrams that were given
pub record Load : Type 0 where
  pub net : Lossy
  pub next : List ℕ
  pub bodies : List ℕ
  pub rounds : ℕ
  pub tally : Tally

-- the nodes, with nothing made
abbrev pub first_stage : Stage
first_stage = record {
  nodes = load_nodes;
  history = [];
  calls = [];
  accepted = [];
  packets = [];
  callers = [];
  jobs = [];
}

-- a load of so many calls before its first event: client k's calls are those with the numbers k - 1, k + 3, k + 7 ..
abbrev pub load_begun : ℕ → ℕ → Load
load_begun number calls = record {
  net =
      record { stage = first_stage; words = started 64 multiplier_64 number (increment_of 64 1); held = [] };
  next = 0 ∷ 1 ∷ 2 ∷ 3 ∷ [];
  bodies = replicate calls 0;
  rounds = 0;
  tally = no_tally;
}

-- the same at another stage
abbrev pub at_stage : Load → Stage → Load
at_stage l s = record l { net = record l.net { stage = s } }

-- the number of a client's next call
abbrev pub next_call : List ℕ → ℕ → ℕ
next_call next client = unwrap_or (slice_get next (client - 1)) 0

-- ---- calls

-- how many calls of a node live
abbrev pub live_of : Stage → ℕ → Option Node → ℕ
live_of s node None = 0
live_of s node (Some n) = live (looks n.setup (side node s.history))

-- of the node with this number
abbrev pub live_at : ℕ → Stage → ℕ
live_at node s = live_of s node (slice_get s.nodes node)

-- the bytes of the request of a call by its number, whose Body is so long: each byte of it is the number
abbrev pub load_request : ℕ → ℕ → List ℕ
load_request number length = sent_spelling [] take_proc (more (octets (replicate length (number % 256))) end) None

-- the length of a Body that a word says
abbrev pub body_length : ℕ → ℕ
body_length word = word % 4097

-- the call with this number is opened at its client, and has a caller, which is known by that number; the word that is
-- drawn for it says how long its Body is
abbrev pub opens_number : ℕ → ℕ → ℕ × Lcg → Load → Part Load
opens_number client number drawn l =
    Then (at_client client (invokes number 4 (load_request number (body_length drawn.0))) l.net.stage) (λ s.
    ends (To (record l {
      net = record l.net { stage = s; words = drawn.1 };
      next = set l.next (client - 1) (number + 4);
      bodies = set l.bodies number (body_length drawn.0);
    })))

-- a client opens its next call
abbrev pub opens : ℕ → Load → Part Load
opens client l = opens_number client (next_call l.next client) (pcg32 l.net.words) l

-- a client has a next call, and one of the four channels of its connection is free
abbrev pub may_open : ℕ → ℕ → Load → Bool
may_open calls client l = nat_lt (next_call l.next client) calls && nat_lt (live_at client l.net.stage) 4

-- a client opens its next calls, at most so many, while a channel is free
abbrev pub opens_free : ℕ → ℕ → ℕ → Load → Part Load
opens_free calls zero client l = ends (To l)
opens_free calls (suc most) client l =
    by_test (may_open calls client l) (Then (opens client l) (opens_free calls most client)) (ends (To l))

-- each client does
abbrev pub opens_all : ℕ → Load → Part Load
opens_all calls l = each (opens_free calls 4) clients l

-- every call of a client ended there
abbrev pub has_ended : ℕ → Load → ℕ → Bool
has_ended calls l client = not (nat_lt (next_call l.next client) calls) && (live_at client l.net.stage == 0)

-- every call ended at its client
abbrev pub all_ended : ℕ → Load → Bool
all_ended calls l = list_all (has_ended calls l) clients

-- ---- rounds

-- a lossy round, with what becomes of the datagrams that are given
abbrev pub lossy_with : Load → Part Load
lossy_with l =
    Then (polls l.net.stage) (λ p.
    Then (carries load_handlers l.net.words l.net.held p.given p.stage) (λ net.
    ends (To (record l {
      net = net;
      rounds = suc l.rounds;
      tally = tallied (fated l.net.words p.given) l.tally;
    }))))

-- calls are opened, and the network has a lossy round
abbrev pub load_round : ℕ → Load → Part Load
load_round calls l = Then (opens_all calls l) lossy_with

-- rounds until every call ended at its client, or so many were made
abbrev pub load_rounds : ℕ → ℕ → Load → Part Load
load_rounds calls zero l = ends (To l)
load_rounds calls (suc n) l =
    by_test (all_ended calls l) (ends (To l)) (Then (load_round calls l) (load_rounds calls n))

-- ---- a whole load

-- each client connects to the server
abbrev pub connects_all : Load → Part Load
connects_all l =
    Then (each (λ client. at_client client (connects 1)) clients l.net.stage) (λ s. ends (To (at_stage l s)))

-- the nodes are made, which may want memory; each client connects; and then there are at most 1,000,000 rounds
abbrev pub load_part : ℕ → ℕ → Part Load
load_part number calls =
    Then (ends (To (load_begun number calls))) (λ l.
    Then (connects_all l) (load_rounds calls 1000000))
