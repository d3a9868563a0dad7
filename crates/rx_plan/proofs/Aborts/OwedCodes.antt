-- The code that a channel owes is one that an event gave its latest call.
use Rattle.std.proofs.Common.{Bool, Err, None, Ok, Option, Result, Some, false, subst, sym, true, ℕ, ℤ}
use Rattle.std.proofs.Common.{◌≡◌}
use Rattle.rx_model.specs.declared.answers.BadMsg.{BadMsg}
use Rattle.rx_model.specs.declared.answers.End.TheVariants as ends
use Rattle.rx_model.specs.declared.answers.Took.{Took}
use Rattle.rx_model.specs.declared.answers.Took.TheVariants as tooks
use Rattle.rx_model.specs.declared.event.Event.{Event}
use Rattle.rx_model.specs.declared.event.Event.TheVariants as events
use Rattle.rx_model.specs.declared.names.CallName.{CallName}
use Rattle.rx_model.specs.declared.names.Host.{Host}
use Rattle.rx_model.specs.declared.wire.TheConstants.{RX_PROTOCOL_ERROR}
use Rattle.rx_model.specs.Body.{Body}
use Rattle.rx_model.specs.Body as bodies
use Rattle.rx_model.specs.Message.{Message}
use Rattle.rx_model.specs.Names.{Connection, channel_of, connection_of}
use Rattle.rx_model.specs.Reading.{reading_of}
use Rattle.rx_rules.specs.After.{after, is_ok_end, is_zero, owing_abort, owing_ackall, owing_again, prepared}
use Rattle.rx_rules.specs.After.{served_code, told_code}
use Rattle.rx_rules.specs.Judging.{outer_row}
use Rattle.rx_rules.specs.Life.{Life}
use Rattle.rx_rules.specs.Life as lives
use Rattle.rx_rules.specs.Looks.{CallRecord, ChannelLooks, ConnLooks, Looks, call_at, call_named, fresh_channel}
use Rattle.rx_rules.specs.Setup.{Kind, Client, Server, Setup, named}
use Rattle.rx_rules.proofs.EveryLaws.{Every}
use Rattle.rx_plan.proofs.ChannelsHold.{Channels, IsOwnLatest, channel_changed, channels_changed, fresh_channels}
use Rattle.rx_plan.proofs.ChannelsHold.{latest_changed}
use Rattle.rx_plan.proofs.ConnsHold.{Bears, Lasts, MayLink, MayTake, MayTakeFrom, MayTell, hold_after}

module _ (K : CallName → ℤ → Type 0) where
  -- the code that the channel owes is one of its latest call
  abbrev pub OwesCode : Connection → ℕ → ℕ → ChannelLooks → Type 0
  OwesCode x order n q =
      (code : ℤ) → q.owed_abort ≡ Some code → K (call_named (record { connection = x; chan = n }) q.number) code

  -- that of each channel of a connection
  abbrev pub ConnOwes : ConnLooks → Type 0
  ConnOwes r = Channels OwesCode r

  -- of each connection of a node
  abbrev pub Owed : Looks → Type 0
  Owed l = Every ConnOwes l.conns

  lasts : (s : Setup) → Lasts s ConnOwes
  lasts s =
      record {
        used = λ r now owes. owes;
        given = λ r given now owes. owes;
        proved = λ r owes. owes;
        cleared = λ r n f clears owes.
            channels_changed OwesCode n f r
            (λ q owed code is.
            subst (λ (k : ℕ). K (call_named (record { connection = r.connection; chan = n }) k) code)
            (sym (clears.number q)) (owed code (clears.abort q code is))) owes;
        entered = λ x service l server.
            fresh_channels OwesCode x x.host service 1 l (λ order n code is. absurd cc);
      }

  -- ---- what comes to be owed

  owes_abort : (o : Option ℤ) (d : CallName) (order : ℕ) (q : ChannelLooks) → q.number ≡ d.number
      → ((code : ℤ) → o ≡ Some code → K d code) → OwesCode (connection_of d) order d.chan q
      → OwesCode (connection_of d) order d.chan (owing_abort o q)
  owes_abort None d order q number gives owes = owes
  owes_abort (Some told) d order q number gives owes =
      λ code is. subst (λ (n : ℕ). K (call_named (channel_of d) n) code) (sym number) (gives code is)

  keeps_ackall : (owes : Bool) (d : CallName) (order : ℕ) (q : ChannelLooks)
      → OwesCode (connection_of d) order d.chan q → OwesCode (connection_of d) order d.chan (owing_ackall owes q)
  keeps_ackall true d order q owed = owed
  keeps_ackall false d order q owed = owed

  -- an ended call's code is told again
  abbrev pub GivesTold : CallName → Life → Type 0
  GivesTold d life = (code : ℤ) → told_code life ≡ Some code → K d code

  served_told : (life : Life) (code : ℤ) → served_code life ≡ Some code → told_code life ≡ Some code
  served_told (lives.Ended (ends.Cancelled told)) code is = absurd cc
  served_told (lives.Ended ends.Ok) code is = is
  served_told (lives.Ended (ends.Abort told)) code is = is
  served_told (lives.Ended (ends.Dead n)) code is = is
  served_told lives.Calling code is = is
  served_told lives.Waiting code is = is
  served_told lives.Accepted code is = is
  served_told lives.Finished code is = is
  served_told (lives.Broken told) code is = is
  served_told (lives.Over told) code is = is

  owes_again : (body : Body) (life : Life) (d : CallName) (order : ℕ) (q : ChannelLooks) → q.number ≡ d.number
      → GivesTold d life → OwesCode (connection_of d) order d.chan q
      → OwesCode (connection_of d) order d.chan (owing_again body life q)
  owes_again (bodies.Chunk payload) life d order q number gives owes =
      keeps_ackall (is_ok_end life) d order (owing_abort (told_code life) q)
      (owes_abort (told_code life) d order q number gives owes)
  owes_again (bodies.Ack a) life d order q number gives owes =
      owes_abort (served_code life) d order q number (λ code is. gives code (served_told life code is)) owes
  owes_again _ life d order q number gives owes = owes

  -- ---- an event

  -- why a message makes a channel owe a code
  abbrev pub MayOwe : Took → CallName → Body → Looks → Type 0
  MayOwe tooks.Stopped d (bodies.Response bytes) l = IsOwnLatest l d × K d RX_PROTOCOL_ERROR
  MayOwe tooks.Over d body l = IsOwnLatest l d × ((k : CallRecord) → call_at l d ≡ Some k → GivesTold d k.life)
  MayOwe _ d body l = Unit {0}

  -- the same of a datagram
  abbrev pub MayOweFor : Setup → Looks → Host → Result Message BadMsg → Took → Type 0
  MayOweFor s l from (Err bad) got = Unit {0}
  MayOweFor s l from (Ok m) got =
      outer_row s s.kind l from m ≡ None
      → MayOwe got (named s from m) m.body (prepared s got (connection_of (named s from m)) l)

  -- why an event makes a channel owe a code
  abbrev pub MayOweBy : Setup → Looks → Event → Type 0
  MayOweBy s l (events.Finished d code (Ok done)) = IsOwnLatest l d × (is_zero code ≡ false → K d code)
  MayOweBy s l (events.Cancelled d code (Ok done)) = IsOwnLatest l d × K d code
  MayOweBy s l (events.Taken from bytes got) = MayOweFor s l from (reading_of bytes) got
  MayOweBy s l _ = Unit {0}

  module _ (s : Setup) where
    bears_code : (d : CallName) (code : ℤ) (l : Looks) → IsOwnLatest l d → K d code
        → Bears s ConnOwes (channel_of d) (owing_abort (Some code)) l
    bears_code d code l own gives =
        latest_changed OwesCode d (owing_abort (Some code)) l own
        (λ order q number owes.
        owes_abort (Some code) d order q number
        (λ told is. subst (K d) (let one : code ≡ told = cc in one) gives) owes)

    bears_start : (d : CallName) (l : Looks) → Bears s ConnOwes (channel_of d) (λ q. fresh_channel d.number) l
    bears_start d l =
        channel_changed OwesCode (channel_of d) (λ q. fresh_channel d.number) l (λ order q owes code is. absurd cc)

    take_owes : (got : Took) (d : CallName) (body : Body) (l : Looks) → MayOwe got d body l
        → MayTake s ConnOwes got d body l
    take_owes tooks.Kept d body l may = λ above. bears_start d l
    take_owes tooks.NoSlot d body l may = λ above. bears_start d l
    take_owes tooks.Heard d (bodies.Challenge bytes) l may =
        channel_changed OwesCode (channel_of d) (λ q. record q { owed_response = s.class.respond d bytes }) l
        (λ order q owes. owes)
    take_owes tooks.Stopped d (bodies.Response bytes) l may = bears_code d RX_PROTOCOL_ERROR l may.0 may.1
    take_owes tooks.Over d body l may = λ k there.
        latest_changed OwesCode d (owing_again body k.life) l may.0
        (λ order q number owes. owes_again body k.life d order q number (may.1 k there) owes)
    take_owes _ d body l may = tt

    taken_owes : (from : Host) (reading : Result Message BadMsg) (got : Took) (l : Looks)
        → MayOweFor s l from reading got → MayTakeFrom s ConnOwes l from reading got
    taken_owes from (Err bad) got l may = tt
    taken_owes from (Ok m) got l may = λ front.
        take_owes got (named s from m) m.body (prepared s got (connection_of (named s from m)) l) (may front)

    linked_owes : (kind : Kind) (to : Host) (service first cid : ℕ) (l : Looks)
        → MayLink s ConnOwes kind to service first cid l
    linked_owes (Client host epoch) to service first cid l =
        fresh_channels OwesCode (record { host = host; epoch = epoch; cid = cid }) to service first l
        (λ order n code is. absurd cc)
    linked_owes (Server service nonces) to other first cid l = tt

    event_owes : (l : Looks) (e : Event) → MayOweBy s l e → MayTell s ConnOwes l e
    event_owes l (events.Linked to service first (Ok cid)) may = linked_owes s.kind to service first cid l
    event_owes l (events.Called cid (Ok d)) may = bears_start d l
    event_owes l (events.Finished d code (Ok done)) may = λ some. bears_code d code l may.0 (may.1 some)
    event_owes l (events.Cancelled d code (Ok done)) may = bears_code d code l may.0 may.1
    event_owes l (events.Taken from bytes got) may = taken_owes from (reading_of bytes) got l may
    event_owes l _ may = tt

    -- behind each event, what a channel owes is a code of its latest call
    pub owed_after : (l : Looks) (e : Event) → MayOweBy s l e → Owed l → Owed (after s e l)
    owed_after l e may all = hold_after s ConnOwes (lasts s) l e (event_owes l e may) all
