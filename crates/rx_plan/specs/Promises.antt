-- What the run of a plan promises: once, prefixes, ends, and entry by proof alone. Public clauses cite this module.
use Rattle.std.specs.Prelude.{◌≡◌, ◌≢◌, ◌⊎◌, ℕ, List, [], ◌∷◌, ◌++◌, reverse, All, IfSome, slice_get}
use Rattle.rx_model.specs.declared.event.Noted.{Noted}
use Rattle.rx_model.specs.declared.names.CallName.{CallName}
use Rattle.rx_rules.specs.Classes.{token}
use Rattle.rx_rules.specs.Setup.{FitsKind}
use Rattle.rx_history.specs.Counts.{Once}
use Rattle.rx_law.specs.Promises.{LawIn, ServerForgotNone}
use Rattle.rx_history.specs.Alone.{Entered}
use Rattle.rx_history.specs.Sides.{Node, side}
use Rattle.rx_law.specs.Times.{Timely}
use Rattle.rx_law.specs.Worlds.{AreApart}
use Rattle.rx_script.specs.declared.plan.Numbered.{Numbered}
use Rattle.rx_script.specs.declared.plan.PlanLine.{PlanLine}
use Rattle.rx_script.specs.declared.plan.PlanLine.TheVariants as lines
use Rattle.rx_plan.specs.Follows.{client_node, server_node}

-- ---- lines

-- what a line is for the promises: it makes the server or a client, it invents a datagram, or it does neither
pub data LineKind : Type 0 where
  makes_server : Node → LineKind
  makes_client : Node → LineKind
  invents : LineKind
  plays : LineKind

-- by the line
abbrev pub line_kind : PlanLine → LineKind
line_kind (lines.Server host service limits key nonce) = makes_server (server_node host service limits key nonce)
line_kind (lines.Client host epoch limits key) = makes_client (client_node host epoch limits key)
line_kind (lines.Forge node host bytes) = invents
line_kind (lines.Connect client first) = plays
line_kind (lines.Call client cid) = plays
line_kind (lines.Write call bytes) = plays
line_kind (lines.Shut call) = plays
line_kind (lines.Read call max) = plays
line_kind (lines.Ask call) = plays
line_kind (lines.Cancel call code) = plays
line_kind lines.Accept = plays
line_kind (lines.HandlerRead call max) = plays
line_kind (lines.HandlerWrite call bytes) = plays
line_kind (lines.Finish call code) = plays
line_kind (lines.Poll node) = plays
line_kind (lines.Deliver packet) = plays
line_kind (lines.Jumbo first last) = plays
line_kind (lines.Clock which now) = plays
line_kind (lines.Invoke client cid proc up down args) = plays
line_kind (lines.Turn node) = plays
line_kind (lines.Rounds n) = plays
line_kind (lines.Lossy number n) = plays

-- ---- the nodes of a plan

-- a client's node before those that the next lines make; a line that makes none ends them
abbrev pub client_before : LineKind → List Node → List Node
client_before (makes_server n) ns = []
client_before (makes_client n) ns = n ∷ ns
client_before invents ns = []
client_before plays ns = []

-- the clients that the first of these lines make
abbrev pub plan_clients : List Numbered → List Node
plan_clients [] = []
plan_clients (l ∷ ls) = client_before (line_kind l.what) (plan_clients ls)

-- the server's node before its clients; behind another line there are no nodes
abbrev pub server_before : LineKind → List Node → List Node
server_before (makes_server n) ns = n ∷ ns
server_before (makes_client n) ns = []
server_before invents ns = []
server_before plays ns = []

-- the nodes that a plan's first lines make: its server, and the clients of the lines right behind it
abbrev pub plan_nodes : List Numbered → List Node
plan_nodes [] = []
plan_nodes (l ∷ ls) = server_before (line_kind l.what) (plan_clients ls)

-- ---- premises

-- a line invents no datagram
abbrev pub IsUnforged : LineKind → Type 0
IsUnforged (makes_server n) = Unit {0}
IsUnforged (makes_client n) = Unit {0}
IsUnforged invents = ⊥
IsUnforged plays = Unit {0}

-- none of the lines is a forge line
abbrev pub AreUnforged : List Numbered → Type 0
AreUnforged ls = All (λ l. IsUnforged (line_kind l.what)) ls

-- the numbers of a node that a line makes are in range
abbrev pub IsInRange : LineKind → Type 0
IsInRange (makes_server n) = FitsKind n.setup.kind
IsInRange (makes_client n) = FitsKind n.setup.kind
IsInRange invents = Unit {0}
IsInRange plays = Unit {0}

-- those of each node are
abbrev pub AreInRange : List Numbered → Type 0
AreInRange ls = All (λ l. IsInRange (line_kind l.what)) ls

-- no two of the nodes are clients that share host and epoch
abbrev pub AreDistinct : List Node → Type 0
AreDistinct nodes =
    (j k : ℕ) → j ≢ k
    → IfSome (slice_get nodes j) (λ n. IfSome (slice_get nodes k) (λ o. AreApart n.setup.kind o.setup.kind))

-- ---- the promise

-- at each moment of these events, the newest one first
abbrev pub Always : List Noted → (List Noted → Type 0) → Type 0
Always es P = (later now : List Noted) → reverse es ≡ later ++ now → P now

-- a server with a key accepts only calls of clients that showed it
abbrev pub EntersByKey : List Node → List Noted → Type 0
EntersByKey nodes h =
    IfSome (slice_get nodes 0) (λ n.
    (key : List ℕ) → n.setup.class ≡ token key → (c : CallName) → Entered n.setup key c (side 0 h))

-- at a moment: no call enters twice, whatever bytes came, where no record was forgotten; each call has the law, where
-- no datagram was invented, no two clients share a name, and no record was forgotten or no datagram is old; and none
-- enters a server with a key unproved
pub record Promised (ls : List Numbered) (h : List Noted) : Type 0 where
  pub once : ServerForgotNone (plan_nodes ls) h → Once (side 0 h)
  pub law :
      AreUnforged ls → AreDistinct (plan_nodes ls) → ServerForgotNone (plan_nodes ls) h ⊎ Timely (plan_nodes ls) h
      → LawIn (plan_nodes ls) h
  pub entered : EntersByKey (plan_nodes ls) h

-- at each moment of a plan's events
abbrev pub Promises : List Numbered → List Noted → Type 0
Promises ls es = Always es (Promised ls)
