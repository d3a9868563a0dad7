-- The stages of an invoke of a plan between two rounds, where its server knows its client: its request comes, its
-- handler waits, its reply comes, its code comes; and that its caller ended.
use Rattle.std.proofs.Common.{◌≡◌, ◌≢◌, ◌<◌, ◌≤◌, ◌*◌, ◌+◌, ◌⊎◌, ℕ, ℤ, pos, Bool, true, false, List, [], ◌∷◌, ◌++◌}
use Rattle.std.proofs.Common.{Option, Some, None, length}
use Rattle.std.specs.Prelude.{IfSome}
use Rattle.rx_model.specs.Spelling.{IsCode}
use Rattle.rx_model.specs.declared.answers.End.TheVariants as ends
use Rattle.rx_model.specs.declared.names.CallName.{CallName}
use Rattle.rx_rules.specs.CallLooks.{CallLooks, fresh_call}
use Rattle.rx_rules.specs.Life.{Life}
use Rattle.rx_rules.specs.Life as lives
use Rattle.rx_rules.specs.Looks.{Looks, fresh_channel}
use Rattle.rx_rules.specs.Owing.{Owed}
use Rattle.rx_rules.specs.Received.{nothing_received}
use Rattle.rx_rules.specs.Sent.{counting_of, nothing_sent}
use Rattle.rx_script.specs.Served.{Served, bytes, refusal}
use Rattle.rx_asks.specs.declared.ask.Phase.{Phase}
use Rattle.rx_asks.specs.declared.ask.TheConstants.{REPLY_BYTES}
use Rattle.rx_asks.specs.View.{CallerState}
use Rattle.rx_jobs.specs.Handlers.{Handlers, early_code, served_for, wait_of}
use Rattle.rx_jobs.specs.Jobs.{JobState, begun}
use Rattle.rx_jobs.specs.Keeping.{kept_of}
use Rattle.rx_plan.specs.Stages.{Stage}
use Rattle.rx_rounds.proofs.Flow.{total}
use Rattle.rx_rounds.proofs.Keeping.{HasEnded}
use Rattle.rx_rounds.proofs.One.OneCall.{Ends, from_client, from_server, node_of, the_call}
use Rattle.rx_rounds.proofs.One.OneSteps.{empty_at}
use Rattle.rx_rounds.proofs.One.OneWay.{IsOwedBy, IsSteady, Reads, Sends, Tells}
use Rattle.rx_rounds.proofs.Rounded.{caller_at}
use Rattle.rx_rounds.proofs.Two.{Two}

-- ---- what the two nodes say

-- the client, whose call lives
abbrev pub client_at : Ends → ℕ → ℕ → List CallName → ℕ → CallLooks → Looks
client_at x given used firsts now k = node_of x (from_client x given used) firsts now lives.Calling k

-- the server, which knows the call
abbrev pub server_at : Ends → ℕ → ℕ → ℕ → Life → CallLooks → Looks
server_at x given used now life k = node_of x (from_server x given used) (the_call x ∷ []) now life k

-- the caller, which has these bytes of its request still to offer, and read these of the reply
abbrev pub caller_with : Ends → List ℕ → Bool → List ℕ → Phase → CallerState
caller_with x offering shut reply phase =
    record {
      call = the_call x;
      offering = offering;
      shut = shut;
      reply = reply;
      end = None;
      phase = phase;
    }

-- ---- times

-- both ends were heard, the client so long ago at most, and the client spoke, not long before this moment
pub record InTouch (far now : ℕ) (kc ks : CallLooks) : Type 0 where
  pub client : now ≤ kc.heard + far
  pub server : now ≤ ks.heard + 1000
  pub spoke : now ≤ kc.spoke + 1000

-- of a stream of which n pieces were given and a are acknowledged: if all are, the moment since which they were given
-- is now; else an ACK is owed within 100 ms of it, and both ends took part in it since
pub record OnTime (far since now a n : ℕ) (kc ks receiver : CallLooks) : Type 0 where
  pub touch : InTouch far since kc ks
  pub past : since ≤ now
  pub soon : now ≤ since + 100
  pub rests : a ≡ n → since ≡ now
  pub owes : a < n → IsOwedBy (since + 100) receiver
  pub came : a < n → since ≤ receiver.heard

-- ---- the request comes

-- the server doesn't know the call yet; or its handler has read all that came
pub data Serving (x : Ends) (g : Handlers) (request : List ℕ) (now n : ℕ) (ks : CallLooks)
    : Looks → List JobState → Type 0 where
  not_yet : n ≡ 0 → ks ≡ fresh_call (record { window = 32; prompt = false }) now
      → Serving x g request now n ks (empty_at now) []
  at_work : (given used : ℕ) → 1 ≤ n
      → Serving x g request now n ks (server_at x given used now lives.Accepted ks)
      (record (begun (the_call x)) { request = kept_of g ks.received.read } ∷ [])

pub record Arriving (x : Ends) (g : Handlers) (request : List ℕ) (call line now a n q : ℕ) (s : Stage) : Type 0 where
  pub kc : CallLooks
  pub ks : CallLooks
  pub given : ℕ
  pub used : ℕ
  pub server : Looks
  pub jobs : List JobState
  pub offering : List ℕ
  pub shut : Bool
  pub phase : Phase
  pub two : Two x server (client_at x given used [] now kc)
      (caller_at call line (caller_with x offering shut [] phase) ∷ []) jobs s
  pub serving : Serving x g request now n ks server jobs
  pub since : ℕ
  pub up : Sends request since a n kc
  pub offers : request ≡ kc.sent.said ++ offering
  pub closed : kc.sent.shut ≡ shut
  pub out : ((offering ≡ []) × (shut ≡ true))
      ⊎ ((shut ≡ false) × (0 < length offering) × (length kc.sent.said ≡ 1412 * (a + 32)))
  pub quiet : kc.received ≡ nothing_received
  pub owes_none : kc.owed_ack ≡ None
  pub reads : Reads request n ks
  pub says_none : ks.sent ≡ nothing_sent
  pub fresh : IsSteady ks
  pub time : OnTime 3000 since now a n kc ks ks
  pub gave : a < n → since ≤ kc.spoke
  pub spoken : kc.spoke ≤ now
  pub late : IfSome ks.owed_ack (λ o. o.rank ≤ now + 100)
  pub due : q ≡ 0 → (a < n) × IsOwedBy now ks
  pub ready : q ≤ 1

-- ---- its handler waits

-- how a client and a server stay in touch while a handler waits: nothing is owed; the server owes an ACK at once; it
-- owes one that may be due later; a ping is due
pub data Waits (now : ℕ) (kc ks : CallLooks) : Type 0 where
  rests : ks.owed_ack ≡ None → InTouch 1000 now kc ks → Waits now kc ks
  answers : IsOwedBy now ks → InTouch 6000 now kc ks → Waits now kc ks
  answers_later : IsOwedBy (now + 100) ks → now ≤ kc.heard + 3200 → ks.heard ≡ now → kc.spoke ≡ now → Waits now kc ks
  pings : ks.owed_ack ≡ None → kc.spoke + 2000 ≤ now → now ≤ kc.heard + 3200 → now ≤ ks.heard + 3200
      → Waits now kc ks

-- the server's end, where the request came whole and was read to its end: what counts of it from here on
pub record HasAll (request : List ℕ) (kc ks : CallLooks) : Type 0 where
  pub tells : Tells (total request) ks
  pub ended : ks.received.ended ≡ true
  -- what the client gave all, of which a are acknowledged
  pub a : ℕ
  pub since : ℕ
  pub all : Sends request since a (total request) kc
  pub shut : kc.sent.shut ≡ true

pub record Waiting (x : Ends) (g : Handlers) (request : List ℕ) (call line now left : ℕ) (s : Stage) : Type 0 where
  pub kc : CallLooks
  pub ks : CallLooks
  pub given_client : ℕ
  pub used_client : ℕ
  pub given_server : ℕ
  pub used_server : ℕ
  pub phase : Phase
  pub steps : ℕ
  pub two : Two x (server_at x given_server used_server now lives.Accepted ks)
      (client_at x given_client used_client [] now kc)
      (caller_at call line (caller_with x [] true [] phase) ∷ [])
      (record (begun (the_call x)) { request = kept_of g request; ended = true; steps = steps } ∷ []) s
  pub turns : steps + left ≡ wait_of g request
  pub some : 1 ≤ left
  pub uncoded : early_code g request true ≡ None
  pub has : HasAll request kc ks
  pub acks : (has.a ≡ total request) ⊎ (IsOwedBy (has.since + 100) ks × (now ≤ has.since + 100))
  pub past : has.since ≤ now
  pub quiet : kc.received ≡ nothing_received
  pub owes_none : kc.owed_ack ≡ None
  pub says_none : ks.sent ≡ nothing_sent
  pub fresh : IsSteady ks
  pub spoken : kc.spoke ≤ now
  pub waits : Waits now kc ks

-- ---- its reply comes

-- the handler has more to write, or it finished
pub data Answering_ (x : Ends) (g : Handlers) (request : List ℕ) (said : List ℕ) (shut : Bool) (rest : List ℕ)
    : Life → List JobState → Type 0 where
  writes : (steps : ℕ) → shut ≡ false → 0 < length rest
      → Answering_ x g request said shut rest lives.Accepted
      (record (begun (the_call x)) {
        request = kept_of g request;
        ended = true;
        steps = steps;
        code = Some (pos 0);
        reply = rest;
      } ∷ [])
  finished : shut ≡ true → rest ≡ [] → Answering_ x g request said shut rest lives.Finished []

-- whether the server owes an ACK while its reply comes: none; one that is due, which counts one; or any, which counts
-- two
pub data Owing (now : ℕ) (o : Option Owed) (owing : ℕ) : Type 0 where
  owes_none : o ≡ None → Owing now o owing
  owes_now : 1 ≤ owing → IfSome o (λ w. w.rank ≤ now) → Owing now o owing
  owes_any : 2 ≤ owing → Owing now o owing

pub record Replying (x : Ends) (g : Handlers) (request reply : List ℕ) (call line now a n q : ℕ) (s : Stage)
    : Type 0 where
  pub kc : CallLooks
  pub ks : CallLooks
  pub given_client : ℕ
  pub used_client : ℕ
  pub given_server : ℕ
  pub used_server : ℕ
  pub firsts : List CallName
  pub phase : Phase
  pub life : Life
  pub jobs : List JobState
  pub rest : List ℕ
  pub two : Two x (server_at x given_server used_server now life ks)
      (client_at x given_client used_client firsts now kc)
      (caller_at call line (caller_with x [] true kc.received.read phase) ∷ []) jobs s
  pub served : served_for g request ≡ bytes reply
  pub has : HasAll request kc ks
  pub job : Answering_ x g request ks.sent.said ks.sent.shut rest life jobs
  pub since : ℕ
  pub down : Sends reply since a n ks
  pub writes : reply ≡ ks.sent.said ++ rest
  -- the writer wrote all, or as much as there was room for
  pub out : (ks.sent.shut ≡ true) ⊎ ((ks.sent.shut ≡ false) × (length ks.sent.said ≡ 1412 * (a + 32)))
  pub more : a ≡ n → n < counting_of ks.sent
  pub reads : Reads reply n kc
  pub fits : length reply ≤ REPLY_BYTES
  pub time : OnTime 4000 since now a n kc ks kc
  pub spoken : kc.spoke ≤ now
  pub late : IfSome kc.owed_ack (λ o. o.rank ≤ now + 100)
  -- the ACK of the request, or that of a ping, may be owed yet
  pub owing : ℕ
  pub passes : Owing now ks.owed_ack owing
  pub within : owing ≤ q
  -- behind a quiet round the client's ACK is due
  pub due : q ≤ owing → (a < n) × IsOwedBy now kc
  -- the request is acknowledged whole from the first piece on
  pub acks : (has.a ≡ total request) ⊎ ((n ≡ 0) × (now ≤ has.since + 100))

-- ---- its code comes

-- the handler finished with a code, and the server owes an ABORT with it
pub record Refusing (x : Ends) (g : Handlers) (request : List ℕ) (call line now : ℕ) (code : ℤ) (s : Stage) : Type 0
  where
    pub kc : CallLooks
    pub ks : CallLooks
    pub given_client : ℕ
    pub used_client : ℕ
    pub given_server : ℕ
    pub used_server : ℕ
    pub offering : List ℕ
    pub shut : Bool
    pub phase : Phase
    pub two : Two x
        (node_of x (record (from_server x given_server used_server)
        { channel = record (fresh_channel x.first) { owed_abort = Some code } }) (the_call x ∷ []) now
        (lives.Over (Some code)) ks)
        (client_at x given_client used_client [] now kc)
        (caller_at call line (caller_with x offering shut [] phase) ∷ []) [] s
    pub served : served_for g request ≡ refusal code
    pub some : code ≢ pos 0
    pub fits : IsCode code
    pub awake : now ≤ kc.heard + 4100
    pub quiet : kc.received ≡ nothing_received
    pub owes_none : kc.owed_ack ≡ None
    pub a : ℕ
    pub n : ℕ
    pub since : ℕ
    pub up : Sends request since a n kc
    pub soon : a < n → now ≤ since + 100

-- ---- it ended

-- the caller ended with what is served for its request
abbrev pub EndsWith : Ends → Served → CallerState → Type 0
EndsWith x (refusal code) v = v.end ≡ Some (ends.Abort code)
EndsWith x (bytes reply) v = (v.end ≡ Some ends.Ok) × (v.reply ≡ reply)

pub record HasCome (x : Ends) (g : Handlers) (request : List ℕ) (call line : ℕ) (s : Stage) : Type 0 where
  pub caller : CallerState
  pub ended : HasEnded call line caller s
  pub with : EndsWith x (served_for g request) caller
