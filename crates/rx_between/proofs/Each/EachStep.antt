-- What an event of a node makes of one of its calls: a step of its end and a step of its life, or its start.
use Rattle.std.proofs.Common.{◌≡◌, ◌⊎◌, ℕ, ℤ, nat_lt, Bool, true, false, List, Option, Some, None, Ok, Err}
use Rattle.rx_model.specs.declared.answers.ReadGot.{ReadGot}
use Rattle.rx_model.specs.declared.answers.ServeRefused.TheVariants as refusals
use Rattle.rx_model.specs.declared.answers.Took.{Took}
use Rattle.rx_model.specs.declared.answers.Took.TheVariants as tooks
use Rattle.rx_model.specs.declared.answers.WroteGot.{WroteGot}
use Rattle.rx_model.specs.declared.event.Event.{Event}
use Rattle.rx_model.specs.declared.event.Event.TheVariants as events
use Rattle.rx_model.specs.declared.names.CallName.{CallName}
use Rattle.rx_model.specs.declared.names.Host.{Host}
use Rattle.rx_model.specs.declared.wire.TheConstants.{RX_CALL_DEAD, RX_PROTOCOL_ERROR}
use Rattle.rx_model.specs.Body.{Body}
use Rattle.rx_model.specs.Body as bodies
use Rattle.rx_model.specs.Message.{Message}
use Rattle.rx_model.specs.Names.{channel_of, connection_of}
use Rattle.rx_model.specs.Reading.{reading_of}
use Rattle.rx_rules.specs.After.{is_end, is_zero, prepared}
use Rattle.rx_rules.specs.CallItems.{Sending, after_sending, next_sending, sending_body, sending_seq}
use Rattle.rx_rules.specs.CallLooks.{CallLooks, NodeView, after_read, after_shut, after_taken, after_write, call_row}
use Rattle.rx_rules.specs.CallLooks.{fresh_call, is_delivered}
use Rattle.rx_rules.specs.Judging.{outer_row}
use Rattle.rx_rules.specs.Life.{Life, after_accept, after_acks, after_cancel, after_code, after_end, after_finish}
use Rattle.rx_rules.specs.Life.{after_gone, after_later, after_silence}
use Rattle.rx_rules.specs.Life as lives
use Rattle.rx_rules.specs.Looks.{CallRecord, Looks, channel_at, latest_name}
use Rattle.rx_rules.specs.Setup.{Setup, is_client, named, pace_of, receiving_window}

-- ---- messages

-- the event takes a message for a call, with an answer; no row in front answered it
pub record Judges (s : Setup) (l : Looks) (e : Event) (d : CallName) (m : Message) (got : Took) : Type 0 where
  pub from : Host
  pub bytes : List ℕ
  pub is : e ≡ events.Taken from bytes got
  pub reads : reading_of bytes ≡ Ok m
  pub front : outer_row s s.kind l from m ≡ None
  pub name : named s from m ≡ d

-- an answer behind which a live call has heard the message
abbrev pub is_own : Took → Bool
is_own tooks.Kept = true
is_own tooks.Repeat = true
is_own tooks.Beyond = true
is_own tooks.Clash = true
is_own tooks.NoSlot = true
is_own tooks.Heard = true
is_own _ = false

-- an answer with which a message may start its call
abbrev pub is_start : Took → Bool
is_start tooks.Kept = true
is_start tooks.NoSlot = true
is_start _ = false

-- what a node tells each of its calls, whatever slots are left
pub record ViewOf (s : Setup) (l : Looks) (v : NodeView) : Type 0 where
  pub client : v.client ≡ is_client s.kind
  pub window : v.window ≡ receiving_window s
  pub now : v.now ≡ l.now

-- an end takes a message of its call, with the answer of its own row
pub record Takes (s : Setup) (l : Looks) (e : Event) (c : CallName) (a b : CallLooks) : Type 0 where
  pub message : Message
  pub got : Took
  pub judges : Judges s l e c message got
  pub own : is_own got ≡ true
  pub view : NodeView
  pub view_is : ViewOf s l view
  pub row : call_row view message message.body a ≡ got
  pub is : b ≡ after_taken view got message a

-- an end gives what it gives next
pub record Gives (s : Setup) (l : Looks) (e : Event) (c : CallName) (a b : CallLooks) : Type 0 where
  pub to : Host
  pub bytes : List ℕ
  pub event : e ≡ events.Polled (Some (to, bytes))
  pub message : Message
  pub reads : reading_of bytes ≡ Ok message
  pub name : named s to message ≡ c
  pub sending : Sending
  pub seq : message.seq ≡ sending_seq sending
  pub body : message.body ≡ sending_body (receiving_window s) a sending
  pub view : NodeView
  pub view_is : ViewOf s l view
  pub next : next_sending view a ≡ Some sending
  pub is : b ≡ after_sending l.now sending a

-- ---- an end

-- a step of what passed at one end of a call
pub data EndStep (s : Setup) (l : Looks) (e : Event) (c : CallName) (a b : CallLooks) : Type 0 where
  stays : b ≡ a → EndStep s l e c a b
  takes : Takes s l e c a b → EndStep s l e c a b
  gives : Gives s l e c a b → EndStep s l e c a b
  writes : (offered : ℕ) (got : WroteGot) (bytes : List ℕ) → e ≡ events.Wrote c offered got bytes
      → b ≡ after_write bytes a → EndStep s l e c a b
  reads : (most : ℕ) (got : ReadGot) (bytes : List ℕ) → e ≡ events.HasRead c most got bytes
      → b ≡ after_read l.now (is_end got) bytes a → EndStep s l e c a b
  shuts : e ≡ events.Shut c (Ok tt) → b ≡ after_shut a → EndStep s l e c a b
  finishes : (code : ℤ) → e ≡ events.Finished c code (Ok tt) → is_zero code ≡ true → b ≡ after_shut a
      → EndStep s l e c a b

-- ---- a life

-- the code of an ABORT, or of a RESPONSE that isn't right
abbrev pub TellsCode : Body → ℤ → Type 0
TellsCode (bodies.Abort code) told = told ≡ code
TellsCode (bodies.Response bytes) told = told ≡ RX_PROTOCOL_ERROR
TellsCode _ told = ⊥

-- a message stops the call, or each of its connection
pub record Stops (s : Setup) (l : Looks) (e : Event) (c : CallName) (code : ℤ) : Type 0 where
  pub message : Message
  pub call : CallName
  pub judges : Judges s l e call message tooks.Stopped
  pub tells : TellsCode message.body code
  pub of : (call ≡ c) ⊎ ((message.number ≡ 0) × (connection_of call ≡ connection_of c))

-- data of a later call on its channel is answered Busy
pub record IsBusyBy (s : Setup) (l : Looks) (e : Event) (c : CallName) : Type 0 where
  pub message : Message
  pub later : CallName
  pub judges : Judges s l e later message tooks.Busy
  pub latest : c ≡ latest_name (prepared s tooks.Busy (connection_of later) l) (channel_of later)

-- data of a later call takes its channel
pub record IsFollowedBy (s : Setup) (l : Looks) (e : Event) (c : CallName) : Type 0 where
  pub message : Message
  pub later : CallName
  pub got : Took
  pub judges : Judges s l e later message got
  pub starts : is_start got ≡ true
  pub latest : c ≡ latest_name (prepared s got (connection_of later) l) (channel_of later)
  pub above : nat_lt c.number later.number ≡ true

-- a step of the life of a call; an acknowledgement ends a finished one by what its end has behind it
pub data LifeStep (s : Setup) (l : Looks) (e : Event) (c : CallName) (b : CallLooks) (x y : Life) : Type 0 where
  lives_on : y ≡ x → LifeStep s l e c b x y
  is_stopped : (code : ℤ) → Stops s l e c code → y ≡ after_code code x → LifeStep s l e c b x y
  is_busy : IsBusyBy s l e c → y ≡ after_code RX_CALL_DEAD x → LifeStep s l e c b x y
  is_followed : IsFollowedBy s l e c → y ≡ after_later x → LifeStep s l e c b x y
  is_acked : (m : Message) → Judges s l e c m tooks.Heard → y ≡ after_acks (is_delivered b) x → LifeStep s l e c b x y
  is_silent : (got : Option (Host × List ℕ)) (silence : ℕ) → e ≡ events.Polled got → y ≡ after_silence silence x
      → LifeStep s l e c b x y
  accepted : e ≡ events.Accepted (Some c) → y ≡ after_accept x → LifeStep s l e c b x y
  finished : (code : ℤ) → e ≡ events.Finished c code (Ok tt) → y ≡ after_finish (is_zero code) code x
      → LifeStep s l e c b x y
  gone : (code told : ℤ) → e ≡ events.Finished c code (Err (refusals.Gone told)) → y ≡ after_gone x
      → LifeStep s l e c b x y
  read_out : (most : ℕ) (got : ReadGot) (bytes : List ℕ) → e ≡ events.HasRead c most got bytes
      → y ≡ after_end (is_end got) x → LifeStep s l e c b x y
  cancelled : (code : ℤ) → e ≡ events.Cancelled c code (Ok tt) → y ≡ after_cancel code x → LifeStep s l e c b x y

-- ---- a call

-- a call that is there goes on
pub record Goes (s : Setup) (l : Looks) (e : Event) (c : CallName) (a b : CallRecord) : Type 0 where
  pub name : b.name ≡ a.name
  pub end : EndStep s l e c a.looks b.looks
  pub life : LifeStep s l e c b.looks a.life b.life

-- a server's call starts by a message that it keeps or has no slot for
pub record Opens (s : Setup) (l : Looks) (e : Event) (c : CallName) (b : CallRecord) : Type 0 where
  pub takes : Takes s l e c (fresh_call (pace_of s) l.now) b.looks
  pub starts : is_start takes.got ≡ true
  pub above : nat_lt (channel_at (prepared s takes.got (connection_of c) l) (channel_of c)).number c.number ≡ true
  pub life : b.life ≡ lives.Waiting

-- a client's call is made
pub record IsMade (s : Setup) (l : Looks) (e : Event) (c : CallName) (b : CallRecord) : Type 0 where
  pub cid : ℕ
  pub event : e ≡ events.Called cid (Ok c)
  pub looks : b.looks ≡ fresh_call (pace_of s) l.now
  pub life : b.life ≡ lives.Calling

-- a call starts, whether it had a record or none
abbrev pub Starts : Setup → Looks → Event → CallName → CallRecord → Type 0
Starts s l e c b = (b.name ≡ c) × (Opens s l e c b ⊎ IsMade s l e c b)

-- what an event makes of a call that is looked for: none is lost
abbrev pub CallStep : Setup → Looks → Event → CallName → Option CallRecord → Option CallRecord → Type 0
CallStep s l e c None None = Unit {0}
CallStep s l e c None (Some b) = Starts s l e c b
CallStep s l e c (Some a) None = ⊥
CallStep s l e c (Some a) (Some b) = Goes s l e c a b ⊎ Starts s l e c b
