-- What the halves of a peer answer, each for the histories for which it stands. Public clauses cite this module.
use Rattle.std.specs.Prelude.{◌≡◌, ℕ, List, Option, Some, None, take}
use Rattle.rx_model.specs.declared.event.Event.{Event}
use Rattle.rx_model.specs.declared.event.Event.TheVariants.{Polled}
use Rattle.rx_model.specs.declared.names.Host.{Host}
use Rattle.rx_rules.specs.After.{looks}
use Rattle.rx_rules.specs.Classes.{Class}
use Rattle.rx_rules.specs.Items.{due}
use Rattle.rx_rules.specs.Looks.{Looks}
use Rattle.rx_books.specs.Costs.{AtMostForPoll}
use Rattle.rx_node.specs.Due.{lesser_of}
use Rattle.rx_node.specs.Node.{setup_of}
use Rattle.rx_node.specs.Steps.{AnswersNode, StandsNode}
use Rattle.rx_server.specs.Server.{Answered, Stands}
use Rattle.rx_peer.specs.declared.peer.Peer.{Peer}
use Rattle.rx_peer.specs.declared.role.Role.{Role}
use Rattle.rx_peer.specs.declared.role.Role.TheVariants as roles

-- each half stands for a history of its own
pub record StandsPeer {C : Type 0} (class : List ℕ → Class) (p : Peer C) (calls serves : List Event) : Type 0 where
  pub caller : StandsNode class p.caller calls
  pub served : Stands class p.served serves

-- ---- events

-- each half answers an event of its own
pub record AnswersBoth {C : Type 0} (class : List ℕ → Class) (old new : Peer C) (calls serves : Event) : Type 0 where
  pub caller : AnswersNode class old.caller new.caller calls
  pub served : Answered class old.served new.served serves

-- one half answers an event, and the other stays
abbrev pub AnswersHalf : {C : Type 0} → (List ℕ → Class) → Peer C → Peer C → Role → Event → Type 0
AnswersHalf class old new roles.Caller e = AnswersNode class old.caller new.caller e × (new.served ≡ old.served)
AnswersHalf class old new roles.Served e = Answered class old.served new.served e × (new.caller ≡ old.caller)

-- a poll of the caller half gave a datagram; or it gave none, and one of the served half gave this, or none
abbrev pub PollsPeer : {C : Type 0} → (List ℕ → Class) → Peer C → Peer C → Option (Role × Host × ℕ) → List ℕ → Type 0
PollsPeer class old new (Some (roles.Caller, host, count)) to =
    AnswersHalf class old new roles.Caller (Polled (Some (host, take count to)))
PollsPeer class old new (Some (roles.Served, host, count)) to =
    AnswersBoth class old new (Polled None) (Polled (Some (host, take count to)))
PollsPeer class old new None to = AnswersBoth class old new (Polled None) (Polled None)

-- how many bytes it wrote
abbrev pub peer_count : Option (Role × Host × ℕ) → ℕ
peer_count None = 0
peer_count (Some (role, host, count)) = count

-- each half is set up as before
pub record SameSetups {C : Type 0} (class : List ℕ → Class) (old new : Peer C) : Type 0 where
  pub caller : setup_of class new.caller ≡ setup_of class old.caller
  pub served : setup_of class new.served.node ≡ setup_of class old.served.node

-- ---- what each half says

-- what is said of the caller half after a history
abbrev pub caller_looks : {C : Type 0} → (List ℕ → Class) → Peer C → List Event → Looks
caller_looks class p calls = looks (setup_of class p.caller) calls

-- of the served half
abbrev pub served_looks : {C : Type 0} → (List ℕ → Class) → Peer C → List Event → Looks
served_looks class p serves = looks (setup_of class p.served.node) serves

-- the lesser of the moments from which on a poll of a half would do something
abbrev pub due_of : {C : Type 0} → (List ℕ → Class) → Peer C → List Event → List Event → Option ℕ
due_of class p calls serves =
    lesser_of (λ moment. moment) (due (setup_of class p.caller) (caller_looks class p calls))
    (due (setup_of class p.served.node) (served_looks class p serves))

-- a count of steps grew by at most what a poll of each half may cost
pub record AtMostForPolls (calls serves : Looks) (old new : ℕ) : Type 0 where
  pub between : ℕ
  pub caller : AtMostForPoll calls old between
  pub served : AtMostForPoll serves between new
