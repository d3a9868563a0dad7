-- Which answers a node gives after a history. Public clauses cite this module.
use Rattle.std.specs.Prelude.{◌≡◌, ◌==◌, ◌&&◌, ◌||◌, ◌+◌, ◌-◌, ◌*◌, ◌^◌, ◌<◌, ◌≤◌, not, if◌then◌else◌, min, nat_le}
use Rattle.std.specs.Prelude.{ℕ, ℤ, Bool, false, List, [], ◌∷◌, length, filter, Option, Some, None}
use Rattle.std.specs.Prelude.{Result, Ok, Err}
use Rattle.std.specs.List.{find}
use Rattle.rx_model.specs.declared.answers.Asked.{Asked}
use Rattle.rx_model.specs.declared.answers.Asked.TheVariants as askeds
use Rattle.rx_model.specs.declared.answers.CallRead.{CallRead}
use Rattle.rx_model.specs.declared.answers.CallRead.TheVariants as callreads
use Rattle.rx_model.specs.declared.answers.CallRefused.{CallRefused}
use Rattle.rx_model.specs.declared.answers.CallRefused.TheVariants as crowds
use Rattle.rx_model.specs.declared.answers.ConnFull.{ConnFull}
use Rattle.rx_model.specs.declared.answers.End.TheVariants as ends
use Rattle.rx_model.specs.declared.answers.NotOpen.{NotOpen}
use Rattle.rx_model.specs.declared.answers.ReadAns.{ReadAns}
use Rattle.rx_model.specs.declared.answers.ReadAns.TheVariants as answers
use Rattle.rx_model.specs.declared.answers.ReadGot.TheVariants as readers
use Rattle.rx_model.specs.declared.answers.ServeRead.{ServeRead}
use Rattle.rx_model.specs.declared.answers.ServeRead.TheVariants as reads
use Rattle.rx_model.specs.declared.answers.ServeRefused.{ServeRefused}
use Rattle.rx_model.specs.declared.answers.ServeRefused.TheVariants as refusals
use Rattle.rx_model.specs.declared.answers.WroteGot.TheVariants as writers
use Rattle.rx_model.specs.declared.event.Event.{Event}
use Rattle.rx_model.specs.declared.event.Event.TheVariants as events
use Rattle.rx_model.specs.declared.names.CallName.{CallName}
use Rattle.rx_model.specs.declared.names.Host.{Host}
use Rattle.rx_rules.specs.After.{looks, is_zero}
use Rattle.rx_rules.specs.Items.{poll_answer}
use Rattle.rx_rules.specs.Judging.{took_of}
use Rattle.rx_rules.specs.Life.{Life, is_live, is_waiting}
use Rattle.rx_rules.specs.Life as lives
use Rattle.rx_rules.specs.Looks.{CallRecord, ConnLooks, Looks, call_at, call_named, channel_at, conn_at, is_call}
use Rattle.rx_rules.specs.Looks.{is_proved}
use Rattle.rx_rules.specs.Looks.{latest}
use Rattle.rx_model.specs.Message.{IsBytes}
use Rattle.rx_model.specs.Names.{Channel, channel_of, channels_of, connection_of}
use Rattle.rx_rules.specs.Received.{read_of}
use Rattle.rx_rules.specs.Setup.{Setup, Kind, Server, Client}
use Rattle.rx_rules.specs.Slots.{live, room}
use Rattle.rx_model.specs.Spelling.{IsCode}

-- ---- both kinds

-- as many bytes as the answer says, none where it says no number
abbrev pub HasBytes : {E : Type 0} → Result ℕ E → List ℕ → Type 0
HasBytes (Ok n) bytes = length bytes ≡ n
HasBytes (Err e) bytes = bytes ≡ []

-- ---- a client

-- the call of that name, where it is its channel's latest
abbrev pub own_call : Looks → CallName → Option CallRecord
own_call l c = if (channel_at l (channel_of c)).number == c.number then call_at l c else None

-- as many connections were made as may be, or the next cid
abbrev pub connect_answer : Setup → Looks → Result ℕ ConnFull
connect_answer s l =
    if nat_le s.limits.conns (length l.conns) then Err (record {}) else Ok (4 * length l.conns + 4)

-- no call lives on a channel
abbrev pub is_free : Looks → Channel → Bool
is_free l ch = not (is_call (λ k. is_live k.life) (latest l ch))

-- it used up its call numbers
abbrev pub is_worn : Looks → Channel → Bool
is_worn l ch = (channel_at l ch).number == 2 ^ 32 - 1

-- the number of a channel's next call: its first one has the connection's
abbrev pub next_number : ℕ → ℕ → ℕ
next_number first number = if number == 0 then first else number + 1

-- a call on the first of these channels, where there is room for it
abbrev pub call_on : Setup → Looks → ConnLooks → List Channel → Result CallName CallRefused
call_on s l r [] = Err crowds.Worn
call_on s l r (ch ∷ chs) =
    if nat_le s.limits.calls (live l) then Err crowds.NoRoom
    else Ok (call_named ch (next_number r.first (channel_at l ch).number))

-- among the channels without a live call
abbrev pub call_among : Setup → Looks → ConnLooks → List Channel → Result CallName CallRefused
call_among s l r [] = Err crowds.NoChannel
call_among s l r (ch ∷ chs) = call_on s l r (filter (λ d. not (is_worn l d)) (ch ∷ chs))

-- on a connection that the client has
abbrev pub call_of_conn : Setup → Looks → Option ConnLooks → Result CallName CallRefused
call_of_conn s l None = Err crowds.NoConn
call_of_conn s l (Some r) = call_among s l r (filter (is_free l) (channels_of r.connection))

-- the name of a new call on the client's connection with this cid
abbrev pub call_answer : Setup → Host → ℕ → Looks → ℕ → Result CallName CallRefused
call_answer s host epoch l cid = call_of_conn s l (conn_at l (record { host = host; epoch = epoch; cid = cid }))

-- live, and not shut
abbrev pub can_say : CallRecord → Bool
can_say k = is_live k.life && not k.looks.sent.shut

-- how many of the offered bytes are accepted
abbrev pub client_write : Setup → Looks → Option CallRecord → ℕ → Result ℕ NotOpen
client_write s l None offered = Err (record {})
client_write s l (Some k) offered = if can_say k then Ok (min offered (room s l k.looks)) else Err (record {})

-- done, where that is allowed
abbrev pub done_where : Bool → Result (Unit {0}) NotOpen
done_where allows = if allows then Ok tt else Err (record {})

-- a read's answer at a client
abbrev pub client_read_got : CallRead → ReadAns
client_read_got (callreads.Got n) = answers.Got n
client_read_got callreads.End = answers.End
client_read_got callreads.NotYet = answers.NotYet

-- a call that ended Ok is at its end for good
abbrev pub client_read_by : Life → CallRead × List ℕ → ReadAns × List ℕ
client_read_by (lives.Ended ends.Ok) got = (answers.End, [])
client_read_by (lives.Ended end) got = (answers.Gone end, [])
client_read_by life got = (client_read_got got.0, got.1)

-- what a read gives
abbrev pub client_read : Option CallRecord → ℕ → ReadAns × List ℕ
client_read None max = (answers.Unknown, [])
client_read (Some k) max = client_read_by k.life (read_of k.looks.received max)

-- how it ended, or that it lives
abbrev pub asked_of : Life → Asked
asked_of (lives.Ended end) = askeds.Ended end
asked_of life = askeds.Live

-- the same of a call that is looked for
abbrev pub end_answer : Option CallRecord → Asked
end_answer None = askeds.Unknown
end_answer (Some k) = asked_of k.life

-- ---- a server

-- a waiting call, whose client is proved where the class challenges
abbrev pub can_enter : Setup → Looks → CallName → Bool
can_enter s l c =
    is_call (λ k. is_waiting k.life) (call_at l c) && (not s.class.challenges || is_proved l (connection_of c))

-- the first whose packet 1 was kept
abbrev pub accept_answer : Setup → Looks → Option CallName
accept_answer s l = find (can_enter s l) l.firsts

-- a read's answer at a server
abbrev pub served_read_got : CallRead → ServeRead
served_read_got (callreads.Got n) = reads.Got n
served_read_got callreads.End = reads.End
served_read_got callreads.NotYet = reads.NotYet

-- only a call with a handler at work is read
abbrev pub served_read_by : Life → CallRead × List ℕ → ServeRead × List ℕ
served_read_by lives.Accepted got = (served_read_got got.0, got.1)
served_read_by (lives.Broken code) got = (reads.Gone code, [])
served_read_by life got = (reads.NotOpen, [])

-- what a read gives
abbrev pub served_read : Option CallRecord → ℕ → ServeRead × List ℕ
served_read None max = (reads.NotOpen, [])
served_read (Some k) max = served_read_by k.life (read_of k.looks.received max)

-- what is done, unless the call isn't open, broke, or its request wasn't read to its end
abbrev pub served_by : {X : Type 0} → Life → Bool → X → Result X ServeRefused
served_by lives.Accepted ended done = if ended then Ok done else Err refusals.Unread
served_by (lives.Broken code) ended done = Err (refusals.Gone code)
served_by life ended done = Err refusals.NotOpen

-- how many of the offered bytes are accepted
abbrev pub served_write : Setup → Looks → Option CallRecord → ℕ → Result ℕ ServeRefused
served_write s l None offered = Err refusals.NotOpen
served_write s l (Some k) offered = served_by k.life k.looks.received.ended (min offered (room s l k.looks))

-- a handler may end with a code before it read the whole request
abbrev pub served_finish : Option CallRecord → ℤ → Result (Unit {0}) ServeRefused
served_finish None code = Err refusals.NotOpen
served_finish (Some k) code = served_by k.life (k.looks.received.ended || not (is_zero code)) tt

-- ---- the rules

-- an event of a client
abbrev pub AllowedClient : Setup → Host → ℕ → Looks → Event → Type 0
AllowedClient s host epoch l (events.Linked to service first got) =
    (1 ≤ first) × (first < 2 ^ 32) × (service < 2 ^ 16) × (got ≡ connect_answer s l)
AllowedClient s host epoch l (events.Called cid got) = got ≡ call_answer s host epoch l cid
AllowedClient s host epoch l (events.Wrote c offered (writers.Client got) bytes) =
    (got ≡ client_write s l (own_call l c) offered) × IsBytes bytes × HasBytes got bytes
AllowedClient s host epoch l (events.Shut c got) = got ≡ done_where (is_call can_say (own_call l c))
AllowedClient s host epoch l (events.HasRead c max (readers.Client got) bytes) =
    (1 ≤ max) × ((got, bytes) ≡ client_read (own_call l c) max)
AllowedClient s host epoch l (events.Ended c got) = got ≡ end_answer (own_call l c)
AllowedClient s host epoch l (events.Cancelled c code got) =
    IsCode code × (is_zero code ≡ false) × (got ≡ done_where (is_call (λ k. is_live k.life) (own_call l c)))
AllowedClient s host epoch l (events.Taken from bytes got) = IsBytes bytes × (got ≡ took_of s l from bytes)
AllowedClient s host epoch l (events.Polled got) = got ≡ poll_answer s l
AllowedClient s host epoch l (events.Clocked now) = (l.now ≤ now) × (now < 2 ^ 62)
AllowedClient s host epoch l _ = ⊥

-- an event of a server
abbrev pub AllowedServer : Setup → Looks → Event → Type 0
AllowedServer s l (events.Wrote c offered (writers.Server got) bytes) =
    (got ≡ served_write s l (call_at l c) offered) × IsBytes bytes × HasBytes got bytes
AllowedServer s l (events.HasRead c max (readers.Server got) bytes) =
    (1 ≤ max) × ((got, bytes) ≡ served_read (call_at l c) max)
AllowedServer s l (events.Accepted got) = got ≡ accept_answer s l
AllowedServer s l (events.Finished c code got) = IsCode code × (got ≡ served_finish (call_at l c) code)
AllowedServer s l (events.Taken from bytes got) = IsBytes bytes × (got ≡ took_of s l from bytes)
AllowedServer s l (events.Polled got) = got ≡ poll_answer s l
AllowedServer s l (events.Clocked now) = (l.now ≤ now) × (now < 2 ^ 62)
AllowedServer s l _ = ⊥

-- an event of a node of that kind
abbrev pub AllowedAt : Kind → Setup → Looks → Event → Type 0
AllowedAt (Client host epoch) s l e = AllowedClient s host epoch l e
AllowedAt (Server service nonces) s l e = AllowedServer s l e

-- an event is one that the rules give
abbrev pub Allowed : Setup → Looks → Event → Type 0
Allowed s l e = AllowedAt s.kind s l e

-- each event is allowed by those before it
abbrev pub Legal : Setup → List Event → Type 0
Legal s [] = Unit {0}
Legal s (e ∷ h) = Allowed s (looks s h) e × Legal s h
