-- The words of worked examples: their nodes and names, and that lines have the traces that stand beside them.
use Rattle.std.specs.Prelude.{◌≡◌, ◌+◌, ℕ, List, [], ◌∷◌, map, replicate, slice_get}
use Rattle.std.specs.Prelude.{Option, option_map, option_and_then}
use Rattle.rx_model.specs.declared.names.CallName.{CallName}
use Rattle.rx_model.specs.declared.names.Host.{Host}
use Rattle.rx_model.specs.declared.names.Limits.{Limits}
use Rattle.rx_model.specs.Names.{default_limits}
use Rattle.rx_rules.specs.CallLooks.{CallLooks}
use Rattle.rx_rules.specs.Classes.{Class, null}
use Rattle.rx_rules.specs.Looks.{call_at}
use Rattle.rx_rules.specs.Setup.{Setup, Server, Client, unprompted}
use Rattle.rx_examples.proofs.Story.{Line, Play, played, stages_from, story_from}

-- ---- hosts, names and nodes

-- the client's host 10.0.0.N:7001
abbrev pub host : ℕ → Host
host n = record { addr = 167772160 + n; port = 7001 }

-- 10.0.0.1:7000
abbrev pub at_server : Host
at_server = record { addr = 167772161; port = 7000 }

-- 10.0.0.2:7001
abbrev pub at_client : Host
at_client = host 2

-- a call of the client at host n
abbrev pub name : (n epoch cid chan number : ℕ) → CallName
name n epoch cid chan number =
    record { host = host n; epoch = epoch; cid = cid; chan = chan; number = number }

-- 10.0.0.2:7001/1/4/0/1
abbrev pub call : CallName
call = name 2 1 4 0 1

-- a server of service 1 at its host with these limits, or of this class
abbrev pub server_with : Limits → Host × Setup
server_with limits = (at_server, unprompted (Server 1 0) limits null)

abbrev pub server_of : Class → Host × Setup
server_of class = (at_server, unprompted (Server 1 0) default_limits class)

-- a client of epoch 1 with these limits, of this class, or at this host
abbrev pub client_with : Limits → Host × Setup
client_with limits = (at_client, unprompted (Client at_client 1) limits null)

abbrev pub client_of : Class → Host × Setup
client_of class = (at_client, unprompted (Client at_client 1) default_limits class)

abbrev pub client_at : Host → Host × Setup
client_at host = (host, unprompted (Client host 1) default_limits null)

-- the two as they are by default
abbrev pub server : Host × Setup
server = server_of null

abbrev pub client : Host × Setup
client = client_of null

-- two keys
abbrev pub key_a : List ℕ
key_a = replicate 32 170

abbrev pub key_b : List ℕ
key_b = replicate 32 187

-- ---- what is shown

-- the lines without their traces
abbrev pub lines_of : List (Line × List ℕ) → List Line
lines_of rows = map (λ r. r.0) rows

-- nodes to which nothing happened
abbrev pub at_first : List (Host × Setup) → Play
at_first nodes = record { stages = stages_from 0 nodes; flights = []; lines = [] }

-- behind these lines
abbrev pub after_lines : List Line → Play → Play
after_lines [] p = p
after_lines (line ∷ lines) p = after_lines lines (played line p)

-- each line has its trace, those of several events with `;` between them
abbrev pub Told : List (Host × Setup) → List (Line × List ℕ) → Type 0
Told nodes rows = story_from (lines_of rows) (at_first nodes) ≡ map (λ r. r.1) rows

-- the same behind other lines, whose traces aren't shown
abbrev pub ToldBehind : List (Host × Setup) → List Line → List (Line × List ℕ) → Type 0
ToldBehind nodes before rows =
    story_from (lines_of rows) (after_lines before (at_first nodes)) ≡ map (λ r. r.1) rows

-- what one end of a call is at last
abbrev pub end_told : List (Host × Setup) → List (Line × List ℕ) → ℕ → CallName → Option CallLooks
end_told nodes rows k c =
    option_map (λ r. r.looks)
    (option_and_then (λ n. call_at n.looks c)
    (slice_get (after_lines (lines_of rows) (at_first nodes)).stages k))

-- its RTO and its congestion window
abbrev pub rates_told : List (Host × Setup) → List (Line × List ℕ) → ℕ → CallName → Option (ℕ × ℕ)
rates_told nodes rows k c = option_map (λ e. (e.rtt.rto, e.cwnd.window)) (end_told nodes rows k c)

-- its peer's window
abbrev pub peer_window_told : List (Host × Setup) → List (Line × List ℕ) → ℕ → CallName → Option ℕ
peer_window_told nodes rows k c = option_map (λ e. e.sent.peer_window) (end_told nodes rows k c)
