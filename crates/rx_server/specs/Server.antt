-- What a contract sees of a server, and for which histories it stands. Public clauses cite this module.
use Rattle.std.specs.Prelude.{◌≡◌, ◌&&◌, ◌||◌, ◌/◌, ◌%◌, not, if◌then◌else◌, ℕ, Bool, true, false, List, ◌∷◌, filter}
use Rattle.std.specs.Prelude.{Option, Some, None, is_some, option_map, option_and_then, slice_get, unwrap_or}
use Rattle.std.specs.List.{filter_map}
use Rattle.rx_model.specs.declared.answers.ServeRead.{ServeRead}
use Rattle.rx_model.specs.declared.answers.ServeRead.TheVariants as reads
use Rattle.rx_model.specs.declared.event.Event.{Event}
use Rattle.rx_model.specs.declared.names.CallName.{CallName}
use Rattle.rx_model.specs.Names.{Channel}
use Rattle.rx_rules.specs.After.{looks}
use Rattle.rx_rules.specs.Classes.{Class}
use Rattle.rx_rules.specs.Life.{is_live, is_waiting}
use Rattle.rx_rules.specs.Looks.{Looks, call_at, is_call, latest, latest_name}
use Rattle.rx_rules.specs.Rules.{Allowed, Legal}
use Rattle.rx_rules.specs.Setup.{Kind, Server, Client, FitsLimits, nonce_of}
use Rattle.rx_history.proofs.Dimensions.Dims.{has_first}
use Rattle.rx_rules.proofs.EveryLaws.{Every}
use Rattle.rx_queue.specs.Queue.{QueueState, is_ready}
use Rattle.rx_table.specs.declared.seat.TheConstants.{CHANNELS}
use Rattle.rx_node.specs.Mirrors.{IsKey, Mirrors, channel_in}
use Rattle.rx_node.specs.Node.{NodeState, setup_of}
use Rattle.rx_books.specs.Polled.{proofs_of}

-- what both ends share; its service; the nonce of the next connection; the channels of calls whose packet 1 was kept,
-- in that order, and which of them are ready
pub record ServerState : Type 0 where
  pub node : NodeState
  pub service : ℕ
  pub nonce : ℕ
  pub firsts : QueueState

-- ---- the calls that wait

-- a call waits for its handler
abbrev pub waits : Looks → CallName → Bool
waits l c = is_call (λ k. is_waiting k.life) (call_at l c)

-- the latest call of a channel, where it waits
abbrev pub waits_on : Looks → Channel → Option CallName
waits_on l ch = if waits l (latest_name l ch) then Some (latest_name l ch) else None

-- of the channel with a key
abbrev pub waits_at : Looks → ℕ → Option CallName
waits_at l key =
    option_and_then (λ x. waits_on l (channel_in x (key % CHANNELS))) (slice_get l.conns (key / CHANNELS))

-- its latest call lives, and its packet 1 wasn't kept
abbrev pub lacks_on : Looks → Channel → Bool
lacks_on l ch = is_call (λ k. is_live k.life && not (has_first k.looks)) (latest l ch)

-- of the channel with a key
abbrev pub lacks_at : Looks → ℕ → Bool
lacks_at l key =
    unwrap_or (option_map (λ x. lacks_on l (channel_in x (key % CHANNELS))) (slice_get l.conns (key / CHANNELS))) false

-- the calls that wait and whose packet 1 was kept are those of the channels that are listed, in the order of its
-- keeping; no channel is listed whose call still lacks that packet
pub record FirstsStand (firsts : List ℕ) (l : Looks) : Type 0 where
  pub order : filter_map (waits_at l) firsts ≡ filter (waits l) l.firsts
  pub kept : Every (λ key. lacks_at l key ≡ false) firsts

-- ---- those of them that are ready

-- the calls of a channel may be given to a handler: its client is proved, or the class doesn't challenge
abbrev pub admits_at : Bool → Looks → ℕ → Bool
admits_at challenges l key = not challenges || unwrap_or (slice_get (proofs_of l) (key / CHANNELS)) false

-- a channel whose call waits and may be given to a handler is ready
abbrev pub IsReadyAt : Bool → QueueState → Looks → ℕ → Type 0
IsReadyAt challenges q l key =
    is_some (waits_at l key) ≡ true → admits_at challenges l key ≡ true → is_ready q key ≡ true

-- each one that is listed
abbrev pub ReadyStand : Bool → QueueState → Looks → Type 0
ReadyStand challenges q l = Every (IsReadyAt challenges q l) q.order

-- ---- a server

-- each part of a server says what the look-ups say
pub record Serves (class : List ℕ → Class) (sv : ServerState) (l : Looks) : Type 0 where
  pub mirrors : Mirrors class sv.node l
  pub nonce : sv.nonce ≡ nonce_of sv.node.kind l.entered
  pub firsts : FirstsStand sv.firsts.order l
  pub ready : ReadyStand (class sv.node.secret).challenges sv.firsts l

-- a legal history whose look-ups it serves
pub record Stands (class : List ℕ → Class) (sv : ServerState) (h : List Event) : Type 0 where
  pub legal : Legal (setup_of class sv.node) h
  pub serves : Serves class sv (looks (setup_of class sv.node) h)

-- the answer is the one that the rules give after every history for which the server stood, and it stands then for that
-- history with the event
abbrev pub Answered : (List ℕ → Class) → ServerState → ServerState → Event → Type 0
Answered class old new e =
    (h : List Event) → Stands class old h
    → Allowed (setup_of class old.node) (looks (setup_of class old.node) h) e × Stands class new (e ∷ h)

-- a server of this service
abbrev pub IsServerOf : Kind → ℕ → Type 0
IsServerOf (Server service nonces) n = service ≡ n
IsServerOf (Client host epoch) n = ⊥

-- what a server keeps true: its limits are in range; there are look-ups that it serves; each channel that is listed is
-- there
pub record IsServing (class : List ℕ → Class) (sv : ServerState) : Type 0 where
  pub server : IsServerOf sv.node.kind sv.service
  pub fits : FitsLimits sv.node.limits
  pub looks : Looks
  pub serves : Serves class sv looks
  pub there : Every (IsKey sv.node) sv.firsts.order

-- ---- what a private method changes

-- it stays a server with the same setup
pub record SameSetup (class : List ℕ → Class) (old new : ServerState) : Type 0 where
  pub setup : setup_of class new.node ≡ setup_of class old.node
  pub service : new.service ≡ old.service

-- of all look-ups that it served it then serves what the step makes of them
abbrev pub StepsServer : (List ℕ → Class) → ServerState → ServerState → (Looks → Looks) → Type 0
StepsServer class old new step = (l : Looks) → Serves class old l → Serves class new (step l)

-- ---- answers with bytes

-- how many bytes a handler's read gave
abbrev pub handler_count : ServeRead → ℕ
handler_count (reads.Got n) = n
handler_count _ = 0
