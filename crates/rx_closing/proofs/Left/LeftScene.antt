-- The handlers, nodes and datagrams of three plans that lose, and what holds of histories of them: that nothing ends
-- their call at its client, that no clock is late, and that the server has a place for each message.
use Rattle.std.proofs.Common.{◌≡◌, ◌≤◌, ◌<◌, ◌^◌, ◌==◌, ◌++◌, ◌&&◌, ◌||◌, ◌∙◌, ℕ, pos, zero, suc, Bool, true, false}
use Rattle.std.proofs.Common.{List, [], ◌∷◌, length, replicate, refl, ap, cond, nat_le, Some, None, Ok, arith, All}
use Rattle.std.proofs.Common.{leb-true}
use Rattle.std.specs.Prelude.{codes}
use Rattle.std.proofs.lemmas.List.Elements.{All-from_recursion}
use Rattle.xdr_value.specs.Data.{Procedure, end}
use Rattle.xdr_value.specs.Tests.{differ, has_one, is_sound}
use Rattle.stub_table.proofs.Again.{request_again}
use Rattle.rx_model.specs.declared.answers.End.TheVariants as ends
use Rattle.rx_model.specs.declared.answers.ReadAns.{ReadAns}
use Rattle.rx_model.specs.declared.answers.ReadAns.TheVariants as answers
use Rattle.rx_model.specs.declared.answers.ReadGot.TheVariants as readers
use Rattle.rx_model.specs.declared.answers.ServeRead.TheVariants as reads
use Rattle.rx_model.specs.declared.answers.Took.{Took}
use Rattle.rx_model.specs.declared.answers.Took.TheVariants as tooks
use Rattle.rx_model.specs.declared.answers.WroteGot.TheVariants as writers
use Rattle.rx_model.specs.declared.event.Event.{Event}
use Rattle.rx_model.specs.declared.event.Event.TheVariants as events
use Rattle.rx_model.specs.declared.event.Noted.{Noted}
use Rattle.rx_model.proofs.NameLaws.{both, same_number}
use Rattle.rx_rules.specs.After.{looks}
use Rattle.rx_rules.specs.Life.{is_live}
use Rattle.rx_rules.specs.Looks.{call_at, is_call}
use Rattle.rx_history.specs.Sides.{Node, moment, side, with_clock}
use Rattle.rx_script.specs.Saying.{Answering, down, send, wait}
use Rattle.rx_script.specs.Served.{as_counted, bytes}
use Rattle.rx_jobs.specs.Handlers.{Handlers, answer_to, served_for, wait_from, wait_of}
use Rattle.rx_reply.specs.Sent.{CanSend}
use Rattle.rx_wire.specs.Turns.{noted}
use Rattle.rx_plan.specs.Answering.{AnswersNoZero, AreServable, Invoked, request_for}
use Rattle.rx_plan.specs.Follows.{client_node, server_node}
use Rattle.rx_plan.specs.Promises.{AreDistinct}
use Rattle.rx_plan.proofs.Replying.{served_invoke}
use Rattle.rx_rounds.specs.Bounds.{default_limits}
use Rattle.rx_closing.specs.Work.{work}
use Rattle.rx_closing.specs.Closing.{AreOpen}
use Rattle.rx_closing.specs.Silence.{CameAmong}
use Rattle.rx_rounds.proofs.LeftOpen.{at_client, at_server, call}

-- ---- what serves the calls

-- Touch() = 1; Late() = 2; Get() split = 3;
abbrev pub touch : Procedure
touch = record { name = codes "Touch"; opcode = 1; split = false; multi = false; params = [] }

abbrev pub late : Procedure
late = record { name = codes "Late"; opcode = 2; split = false; multi = false; params = [] }

abbrev pub get : Procedure
get = record { name = codes "Get"; opcode = 3; split = true; multi = false; params = [] }

-- on Late
-- wait 3
-- on Get
-- down
-- send 1500*5a
abbrev pub on_late : Answering
on_late = record { proc = codes "Late"; lines = wait 3 ∷ [] }

abbrev pub sent : List ℕ
sent = replicate 1500 90

abbrev pub on_get : Answering
on_get = record { proc = codes "Get"; lines = down ∷ send sent ∷ [] }

abbrev pub g : Handlers
g = record { types = []; procs = touch ∷ late ∷ get ∷ []; script = on_late ∷ on_get ∷ [] }

pub servable : AreServable g
unfolding is_sound differ has_one
servable =
    record {
      sound = refl;
      opcodes =
          All-from_recursion (λ (p : Procedure). p.opcode < 2 ^ 32) g.procs
          (omega arith, (omega arith, (omega arith, tt)));
      codes =
          All-from_recursion (λ (b : Answering). All AnswersNoZero b.lines) g.script (
            All-from_recursion AnswersNoZero on_late.lines (tt, tt),
            (All-from_recursion AnswersNoZero on_get.lines (tt, (tt, tt)), tt),
          );
    }

-- an invoke of a procedure without arguments
abbrev pub invoke : Procedure → Invoked
invoke p = record { proc = p; args = end; up = None; down = p.split }

can_touch : CanSend [] touch end None
can_touch = (((tt, omega arith), omega arith), tt)

pub can_late : CanSend [] late end None
can_late = (((tt, omega arith), omega arith), tt)

can_get : CanSend [] get end None
can_get = (((tt, omega arith), omega arith), tt)

pub touch_serves : served_for g (request_for g (invoke touch)) ≡ bytes []
touch_serves = served_invoke g (invoke touch) 0 servable refl can_touch (record { up = refl; down = refl })

pub late_serves : served_for g (request_for g (invoke late)) ≡ bytes []
late_serves = served_invoke g (invoke late) 1 servable refl can_late (record { up = refl; down = refl })

pub get_serves : served_for g (request_for g (invoke get)) ≡ bytes (as_counted sent)
get_serves = served_invoke g (invoke get) 2 servable refl can_get (record { up = refl; down = refl })

touch_waits : wait_of g (request_for g (invoke touch)) ≡ 0
unfolding answer_to
touch_waits =
    ap (wait_from g) (request_again [] g.procs 0 touch end [] true servable.sound refl (omega arith) can_touch.0)

late_waits : wait_of g (request_for g (invoke late)) ≡ 3
unfolding answer_to
late_waits =
    ap (wait_from g) (request_again [] g.procs 1 late end [] true servable.sound refl (omega arith) can_late.0)

get_waits : wait_of g (request_for g (invoke get)) ≡ 0
unfolding answer_to
get_waits =
    ap (wait_from g) (request_again [] g.procs 2 get end [] true servable.sound refl (omega arith) can_get.0)

pub touch_work : work g (request_for g (invoke touch)) ≡ 10
touch_work = rw (touch_serves, touch_waits) refl

pub late_work : work g (request_for g (invoke late)) ≡ 13
late_work = rw (late_serves, late_waits) refl

pub get_work : work g (request_for g (invoke get)) ≡ 11
get_work = rw (get_serves, get_waits) refl

-- ---- the nodes and the call

abbrev pub server : Node
server = server_node at_server 1 default_limits None 0

abbrev pub client : Node
client = client_node at_client 1 default_limits None

abbrev pub nodes : List Node
nodes = server ∷ client ∷ []

pub distinct : AreDistinct nodes
distinct zero zero apart = tt
distinct zero (suc zero) apart = tt
distinct zero (suc (suc k)) apart = tt
distinct (suc zero) zero apart = tt
distinct (suc zero) (suc zero) apart = absurd (apart refl)
distinct (suc zero) (suc (suc k)) apart = tt
distinct (suc (suc j)) k apart = tt

pub are_open : AreOpen nodes
are_open zero = refl
are_open (suc zero) = refl
are_open (suc (suc k)) = tt

-- ---- events

-- a number below 256 in four bytes
abbrev pub four : ℕ → List ℕ
four n = 0 ∷ 0 ∷ 0 ∷ n ∷ []

-- a datagram of the call: its seq, serial, type, flags and body
abbrev pub datagram : ℕ → ℕ → ℕ → ℕ → List ℕ → List ℕ
datagram seq serial kind flags body =
    four 1 ++ four 4 ++ four 1 ++ four seq ++ four serial ++ kind ∷ flags ∷ 0 ∷ 0 ∷ 0 ∷ 0 ∷ 0 ∷ 1 ∷ body

abbrev pub data_of : ℕ → ℕ → ℕ → List ℕ → List ℕ
data_of seq serial flags body = datagram seq serial 1 flags body

-- an ACK: its first packet, the previous one, the serial that caused it, its reason and its marks
abbrev pub ack_of : ℕ → ℕ → ℕ → ℕ → ℕ → ℕ → List ℕ → List ℕ
ack_of serial flags first previous cause reason marks =
    datagram 0 serial 2 flags
    (four 0 ++ four first ++ four previous ++ four cause ++ reason ∷ length marks ∷ marks
    ++ 0 ∷ 0 ∷ 0 ∷ 0 ∷ 0 ∷ 5 ∷ 164 ∷ 0 ∷ 0 ∷ 5 ∷ 164 ∷ 0 ∷ 0 ∷ 0 ∷ 32 ∷ four 1)

abbrev pub at_s : Event → Noted
at_s = noted 0

abbrev pub at_c : Event → Noted
at_c = noted 1

-- c1 poll -> ..
abbrev pub gives_c : List ℕ → Noted
gives_c datagram = at_c (events.Polled (Some (at_server, datagram)))

-- s poll -> ..
abbrev pub gives_s : List ℕ → Noted
gives_s datagram = at_s (events.Polled (Some (at_client, datagram)))

-- c1 take .. -> ..
abbrev pub takes_c : List ℕ → Took → Noted
takes_c datagram got = at_c (events.Taken at_server datagram got)

-- s take .. -> ..
abbrev pub takes_s : List ℕ → Took → Noted
takes_s datagram got = at_s (events.Taken at_client datagram got)

-- c1 poll -> none
abbrev pub none_c : Noted
none_c = at_c (events.Polled None)

-- s poll -> none
abbrev pub none_s : Noted
none_s = at_s (events.Polled None)

-- s accept -> none
abbrev pub none_waits : Noted
none_waits = at_s (events.Accepted None)

-- c1 read .. -> ..
abbrev pub reads_c : ReadAns → Noted
reads_c got = at_c (events.HasRead call 4096 (readers.Client got) [])

-- c1 clock ..
-- s clock ..
abbrev pub clocks_to : ℕ → List Noted
clocks_to now = at_c (events.Clocked now) ∷ at_s (events.Clocked now) ∷ []

-- c1 connect 10.0.0.1:7000 1 1 -> 4
-- c1 call 4 -> 10.0.0.2:7001/1/4/0/1
abbrev pub called : List Noted
called = at_c (events.Linked at_server 1 1 (Ok 4)) ∷ at_c (events.Called 4 (Ok call)) ∷ []

-- the caller's turn: it says the request and shuts it, and nothing came back
abbrev pub asked : ℕ → List Noted
asked opcode =
    at_c (events.Wrote call 4 (writers.Client (Ok 4)) (four opcode)) ∷ at_c (events.Shut call (Ok tt))
    ∷ reads_c answers.NotYet ∷ []

-- the request comes, and a handler accepts and reads it
abbrev pub accepted : ℕ → List Noted
accepted opcode =
    takes_s (data_of 1 1 7 (four opcode)) tooks.Kept ∷ at_s (events.Accepted (Some call)) ∷ none_waits
    ∷ at_s (events.HasRead call 4096 (readers.Server (reads.Got 4)) (four opcode))
    ∷ at_s (events.HasRead call 4096 (readers.Server reads.End) []) ∷ []

-- s finish .. 0 -> ok
abbrev pub finished : Noted
finished = at_s (events.Finished call (pos 0) (Ok tt))

-- a round in which nothing is given, and the clocks behind it
abbrev pub quiet_to : ℕ → List Noted
quiet_to now = none_c ∷ none_s ∷ none_waits ∷ reads_c answers.NotYet ∷ clocks_to now

-- 2,000 ms later the client asks for a sign of life, which its server doesn't know
abbrev pub asks_at : ℕ → ℕ → List Noted
asks_at now serial =
    quiet_to now
    ++ gives_c (ack_of serial 3 1 2 0 6 (0 ∷ 1 ∷ [])) ∷ none_c ∷ none_s
    ∷ takes_s (ack_of serial 3 1 2 0 6 (0 ∷ 1 ∷ [])) tooks.Over ∷ none_waits ∷ reads_c answers.NotYet ∷ []

-- so it does five times, till it gives the call up
abbrev pub asks_till_dead : List Noted
asks_till_dead =
    asks_at 2000 3 ++ asks_at 4000 4 ++ asks_at 6000 5 ++ asks_at 8000 6 ++ asks_at 10000 7
    ++ quiet_to 12000 ++ none_c ∷ none_s ∷ none_waits ∷ reads_c (answers.Gone (ends.Dead 12000)) ∷ []

-- ---- a history in which nothing ends the call at its client

-- it lives there
abbrev pub lives_in : List Noted → Bool
lives_in h = is_call (λ r. is_live r.life) (call_at (looks client.setup (side 1 h)) call)

-- no event of the client among these, the newest one first, ends it
abbrev pub EndsNone : List Noted → List Noted → Type 0
EndsNone before [] = Unit {0}
EndsNone before (e ∷ later) =
    (e.node ≡ 1 → lives_in (later ++ before) ≡ true → lives_in (e ∷ later ++ before) ≡ true) × EndsNone before later

pub lives_on : (before later : List Noted) → EndsNone before later → lives_in before ≡ true
    → lives_in (later ++ before) ≡ true
lives_on before [] none lives = lives
lives_on before (e ∷ later) none lives = by (e.node == 1) refl (lives_on before later none.1 lives)
  where
    by : (b : Bool) → (e.node == 1) ≡ b → lives_in (later ++ before) ≡ true → lives_in (e ∷ later ++ before) ≡ true
    by true is rest = none.0 (same_number e.node 1 is) rest
    by false is rest = rw is rest

-- ---- clocks

-- no clock passes a minute
abbrev pub is_low : Event → Bool
is_low (events.Clocked now) = nat_le now 60000
is_low _ = true

abbrev pub are_low : List Noted → Bool
are_low [] = true
are_low (e ∷ h) = is_low e.event && are_low h

low_clock : (e : Event) (before : ℕ) → is_low e ≡ true → before ≤ 60000 → with_clock e before ≤ 60000
low_clock (events.Clocked now) before low less = leb-true now 60000 low
low_clock e before low less = less

pub low_moment : (h : List Noted) → are_low h ≡ true → (k : ℕ) → moment k h ≤ 60000
low_moment [] low k = omega arith
low_moment (e ∷ h) low k =
    let two = both (is_low e.event) (are_low h) low in
    by (e.node == k) two.0 (low_moment h two.1 k)
  where
    by : (b : Bool) → is_low e.event ≡ true → moment k h ≤ 60000
        → cond b (with_clock e.event (moment k h)) (moment k h) ≤ 60000
    by true low_ less = low_clock e.event (moment k h) low_ less
    by false low_ less = less

-- ---- a server that has a place for each message

abbrev pub is_full : Event → Bool
is_full (events.Taken from datagram tooks.Full) = true
is_full _ = false

abbrev pub has_full : List Noted → Bool
has_full [] = false
has_full (e ∷ es) = is_full e.event || has_full es

pub full_among : (before : List Noted) (e : Noted) (later : List Noted) → is_full e.event ≡ true
    → has_full (before ++ e ∷ later) ≡ true
full_among [] e later is = rw is refl
full_among (d ∷ before) e later is = or-right (is_full d.event) (full_among before e later is)
  where
    or-right : (a : Bool) {b : Bool} → b ≡ true → a || b ≡ true
    or-right true is_ = refl
    or-right false is_ = is_

pub none_full : (es : List Noted) → has_full es ≡ false
    → CameAmong 0 server.setup (λ got. got ≡ tooks.Full) call es → ⊥
none_full es none came =
    let with_ = came.comes in
    let full : is_full came.event ≡ true =
    ap is_full (with_.is ∙ ap (events.Taken with_.from with_.datagram) with_.such) in
    let there : has_full es ≡ true =
    ap has_full came.are ∙ full_among came.before (noted 0 came.event) came.later full in
    cc (there, none)
