-- What a method of a node answers and changes. Public clauses cite this module.
use Rattle.std.specs.Prelude.{◌≡◌, ◌∷◌, ℕ, ℤ, Bool, true, false, List, Option, Some, None, IfSome, take}
use Rattle.rx_model.specs.declared.answers.Took.{Took}
use Rattle.rx_model.specs.declared.answers.Took.TheVariants as tooks
use Rattle.rx_model.specs.declared.event.Event.{Event}
use Rattle.rx_model.specs.declared.names.CallName.{CallName}
use Rattle.rx_model.specs.declared.names.Host.{Host}
use Rattle.rx_model.specs.Body.{Body}
use Rattle.rx_model.specs.Body as bodies
use Rattle.rx_model.specs.Names.{Channel, Connection, channel_of, connection_of}
use Rattle.rx_rules.specs.After.{is_ok_end, looks, served_code, stopped_all, told_code}
use Rattle.rx_rules.specs.Classes.{Class}
use Rattle.rx_rules.specs.Judging.{Facts}
use Rattle.rx_rules.specs.Life.{Life}
use Rattle.rx_rules.specs.Looks.{CallRecord, Looks, call_at, conn_at, latest_name}
use Rattle.rx_rules.specs.Rules.{Allowed, Legal}
use Rattle.rx_history.proofs.Dimensions.Dims.{Dims}
use Rattle.rx_table.specs.Records.{place_of}
use Rattle.rx_node.specs.Mirrors.{IsChannel, IsKey, Mirrors}
use Rattle.rx_node.specs.Node.{NodeState, setup_of}
use Rattle.rx_node.specs.declared.facts.Facts.{Facts as CodeFacts}

-- a call is the latest of its channel, which has this key
pub record IsOwn (class : List ℕ → Class) (n : NodeState) (l : Looks) (key : ℕ) (c : CallName)
    (k : CallRecord) : Type 0 where
  pub mirrors : Mirrors class n l
  pub channel : IsChannel l key (channel_of c)
  pub latest : latest_name l (channel_of c) ≡ c
  pub call : call_at l c ≡ Some k

-- a key is that of this channel, or there is none and its connection isn't known
abbrev pub IsChannelAt : Looks → Option ℕ → Channel → Type 0
IsChannelAt l (Some key) ch = IsChannel l key ch
IsChannelAt l None ch = conn_at l ch.connection ≡ None

-- what a look-up of a call's channel in the table of a node gives
pub record IsFound (class : List ℕ → Class) (n : NodeState) (c : CallName) (channel : Option ℕ) : Type 0 where
  pub key : IfSome channel (IsKey n)
  pub at : (l : Looks) → Mirrors class n l → IsChannelAt l channel (channel_of c)
  pub absent : channel ≡ None → place_of n.table (connection_of c) ≡ None

-- whether a message is an ACK or an ACKALL
abbrev pub is_acking : Body → Bool
is_acking (bodies.Ack a) = true
is_acking bodies.AckAll = true
is_acking _ = false

-- whether it is a RESPONSE
abbrev pub is_response : Body → Bool
is_response (bodies.Response bytes) = true
is_response _ = false

-- whether it is an answer to data that was judged
abbrev pub is_judged : Took → Bool
is_judged tooks.Kept = true
is_judged tooks.NoSlot = true
is_judged tooks.Repeat = true
is_judged tooks.Beyond = true
is_judged tooks.Clash = true
is_judged _ = false

-- whether it is the answer to a message that was heard
abbrev pub is_heard : Took → Bool
is_heard tooks.Heard = true
is_heard _ = false

-- the code of the ABORT that a message for a call that ended has told again, by the call's life
abbrev pub code_again : Body → Life → Option ℤ
code_again (bodies.Chunk payload) life = told_code life
code_again (bodies.Ack a) life = served_code life
code_again _ life = None

-- whether it has an ACKALL told again
abbrev pub acks_again : Body → Life → Bool
acks_again (bodies.Chunk payload) life = is_ok_end life
acks_again _ life = false

-- the facts of a message, field by field: whether there is a place for a connection that isn't known a node finds out
-- when it enters it
abbrev pub facts_seen : CodeFacts → Facts
facts_seen f =
    record {
      is_known = f.is_known;
      has_place = true;
      has_number = f.has_number;
      stops_all = f.stops_all;
      can_start = f.can_start;
      is_below = f.is_below;
      is_above = f.is_above;
      is_live = f.is_live;
      is_active = f.is_active;
      is_handled = f.is_handled;
      is_crowded = f.is_crowded;
    }

-- ---- histories

-- a node stands for a legal history whose look-ups it mirrors
pub record StandsNode (class : List ℕ → Class) (n : NodeState) (h : List Event) : Type 0 where
  pub legal : Legal (setup_of class n) h
  pub mirrors : Mirrors class n (looks (setup_of class n) h)

-- the answer is the one that the rules give after every history for which the node stood, and it stands then for that
-- history with the event
abbrev pub AnswersNode : (List ℕ → Class) → NodeState → NodeState → Event → Type 0
AnswersNode class old new e =
    (h : List Event) → StandsNode class old h
    → Allowed (setup_of class old) (looks (setup_of class old) h) e × StandsNode class new (e ∷ h)

-- a node mirrors look-ups behind these: no call came to life, no connection was entered, and no packet 1 was kept
pub record Dimmed (class : List ℕ → Class) (n : NodeState) (l : Looks) : Type 0 where
  pub behind : Looks
  pub mirrors : Mirrors class n behind
  pub dims : Dims l behind
  pub firsts : behind.firsts ≡ l.firsts
  pub entered : behind.entered ≡ l.entered

-- ---- datagrams

-- what a poll gave, with the bytes that it wrote
abbrev pub given_from : Option (Host × ℕ) → List ℕ → Option (Host × List ℕ)
given_from None to = None
given_from (Some (host, count)) to = Some (host, take count to)

-- how many bytes it wrote
abbrev pub given_count : Option (Host × ℕ) → ℕ
given_count None = 0
given_count (Some (host, count)) = count

-- ---- codes

-- an ABORT reaches each call of a connection
abbrev pub stopped_by : Body → Connection → Looks → Looks
stopped_by (bodies.Abort code) x l = stopped_all x code l
stopped_by _ x l = l
