-- What the polls of a round give of one call among others, and what they leave of it.
use Rattle.std.proofs.Common.{◌≡◌, ◌⊎◌, ◌<◌, ◌≤◌, ℕ, suc, true, false, if◌then◌else◌, List, [], Some, None, Ok}
use Rattle.std.proofs.Common.{option_map}
use Rattle.std.specs.Prelude.{slice_get}
use Rattle.rx_model.specs.declared.event.Event.{Event}
use Rattle.rx_model.specs.declared.names.CallName.{CallName}
use Rattle.rx_model.specs.declared.names.Host.{Host}
use Rattle.rx_model.specs.declared.wire.TheConstants.{CLIENT_INITIATED}
use Rattle.rx_model.specs.Message.{Message, has_flag}
use Rattle.rx_model.specs.Names.{channel_of, connection_of, name_of}
use Rattle.rx_model.specs.Reading.{reading_of}
use Rattle.rx_rules.specs.After.{looks}
use Rattle.rx_rules.specs.CallItems.{Sending}
use Rattle.rx_rules.specs.CallLooks.{CallLooks}
use Rattle.rx_rules.specs.Life.{is_active}
use Rattle.rx_rules.specs.Looks.{CallRecord, ChannelLooks, Looks, call_at, channel_at}
use Rattle.rx_rules.specs.Records.{is_silent, unless_silent}
use Rattle.rx_rules.specs.Setup.{Setup}
use Rattle.rx_rules.proofs.EveryLaws.{Every}
use Rattle.rx_history.specs.Sides.{Node, moment, side}
use Rattle.rx_law.specs.Worlds.{Datagram}
use Rattle.rx_plan.specs.Rounds.{Polled}
use Rattle.rx_plan.specs.Stages.{Stage}
use Rattle.rx_closing.specs.Living.{looks_of}
use Rattle.rx_closing.proofs.Messages.Sifted.{IsOwn, Sifted}
use Rattle.rx_closing.proofs.Messages.TakesAll.{IsNotFor}
use Rattle.rx_closing.proofs.Polls.NodeTurn.{IsGivenBy, OutAt}
use Rattle.rx_closing.proofs.Polls.OnePoll.{ConnIs}
use Rattle.rx_closing.proofs.Steps.{GivesOut}
use Rattle.rx_history.proofs.Plain.PlainBodies.{IsSent}

-- ---- what a datagram says

-- the call that a message of a datagram speaks of, whichever side gave it
abbrev pub name_in : Datagram → Message → CallName
name_in d m = name_of (if has_flag CLIENT_INITIATED m.flags then d.from else d.to) m

-- it says nothing of this call
abbrev pub NotOf : CallName → Datagram → Type 0
NotOf c d = (m : Message) → reading_of d.bytes ≡ Ok m → name_in d m ≡ c → ⊥

-- nothing of this call's stream
abbrev pub NoStreamOf : CallName → Datagram → Type 0
NoStreamOf c d = (m : Message) → reading_of d.bytes ≡ Ok m → IsSent m.body → name_in d m ≡ c → ⊥

-- ---- what a channel owes

-- nothing of this call, which is its latest: a BUSY alone, of a later number
pub record QuietBut (c : CallName) (q : ChannelLooks) : Type 0 where
  pub abort : q.owed_abort ≡ None
  pub ackall : q.owed_ackall ≡ false
  pub challenge : q.owed_challenge ≡ false
  pub response : q.owed_response ≡ None
  pub busy : (n : ℕ) → q.owed_busy ≡ Some n → c.number < n

-- a node owes nothing of this call but of its stream; a stray abort has the number 0
pub record IsHushed (c : CallName) (l : Looks) : Type 0 where
  pub strays : (l.strays ≡ []) ⊎ (1 ≤ c.number)
  pub channel : QuietBut c (channel_at l (channel_of c))

-- ---- one end of the call, whatever other calls live at its node

-- it is active and not silent
pub record WorksAt (c : CallName) (l : Looks) (r : CallRecord) : Type 0 where
  pub there : call_at l c ≡ Some r
  pub active : is_active r.life ≡ true
  pub awake : is_silent l.now r ≡ false

-- it isn't known, isn't active, or is silent
abbrev pub RestsAt : CallName → Looks → Type 0
RestsAt c l = (r : CallRecord) → call_at l c ≡ Some r → is_active r.life ≡ true → is_silent l.now r ≡ true

-- the polls of its node gave what it gives, in order, among what is of other calls
pub record EndWorked (s : Setup) (c : CallName) (peer : Host) (service now : ℕ) (from : Host) (r : CallRecord)
    (later : List Event) (ds : List Datagram) (ms : List Message) : Type 0 where
  pub sendings : List Sending
  pub end : CallLooks
  pub gives : GivesOut s now r.looks sendings ms end
  pub sifted : Sifted (IsOwn s c service) (NotOf c) from peer ds ms
  pub works : WorksAt c (looks s later) (record r { looks = end })
  pub conn : ConnIs (looks s later) (connection_of c) peer service
  pub moment : (looks s later).now ≡ now

-- they gave nothing of its stream, and ended it where it was silent
pub record EndRested (s : Setup) (c : CallName) (now : ℕ) (h later : List Event) (ds : List Datagram) : Type 0 where
  pub others : Every (NoStreamOf c) ds
  pub apart : IsHushed c (looks s h) → Every (NotOf c) ds
  pub calls : call_at (looks s later) c ≡ option_map (unless_silent now) (call_at (looks s h) c)
  pub moment : (looks s later).now ≡ now

-- either of them
pub data EndPolled (s : Setup) (c : CallName) (peer : Host) (service now : ℕ) (from : Host) (h later : List Event)
    (ds : List Datagram) (ms : List Message) : Type 0 where
  end_works : (r : CallRecord) → WorksAt c (looks s h) r → EndWorked s c peer service now from r later ds ms
      → EndPolled s c peer service now from h later ds ms
  end_rests : RestsAt c (looks s h) → ms ≡ [] → EndRested s c now h later ds
      → EndPolled s c peer service now from h later ds ms

-- ---- a round

-- the polls of a round, seen from one call: what its client asked and its server answered, and what each takes of all
-- that was given
pub record RoundPolled (c : CallName) (k : ℕ) (client server : Node) (peer : Host) (service : ℕ) (s : Stage)
    (p : Polled) : Type 0 where
  pub by_client : List Datagram
  pub by_server : List Datagram
  pub asks : List Message
  pub answers : List Message
  pub its : ℕ
  pub client_end : EndPolled client.setup c peer service (moment (suc k) s.history) client.host
      (side (suc k) s.history) (side (suc k) p.stage.history) by_client asks
  pub server_end : EndPolled server.setup c c.host its (moment 0 s.history) server.host (side 0 s.history)
      (side 0 p.stage.history) by_server answers
  pub asked :
      IsHushed c (looks_of s (suc k) client)
      → Sifted (IsOwn client.setup c service) (IsNotFor server c) client.host peer p.given asks
  pub answered :
      IsHushed c (looks_of s 0 server)
      → Sifted (IsOwn server.setup c its) (IsNotFor client c) server.host c.host p.given answers
  pub quiet : asks ≡ [] → answers ≡ [] → Every (NoStreamOf c) p.given
  pub by_client_given : Every (IsGivenBy client.host (side (suc k) p.stage.history)) by_client
  pub by_server_given : Every (IsGivenBy server.host (side 0 p.stage.history)) by_server
  pub outs : (j : ℕ) (n : Node) → slice_get s.nodes j ≡ Some n → OutAt n (side j s.history) (side j p.stage.history)
  pub moments : (j : ℕ) → moment j p.stage.history ≡ moment j s.history
  pub rest : p.stage ≡ record s { history = p.stage.history }
