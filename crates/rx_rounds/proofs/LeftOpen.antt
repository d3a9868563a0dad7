-- A plan that makes one invoke, and the caller that each of five wrong bodies leaves of it behind the rounds: no stage
-- with that caller is one of a plan that completes, by what is said of such a plan alone. Each body was written into
-- the code, and the plan was run: its last line was `answer #1 open`, and its trace had what the client accepted.
use Rattle.std.proofs.Common.{◌≡◌, ◌≤◌, ◌<◌, ◌+◌, ◌^◌, ℕ, zero, suc, Bool, true, false, List, [], ◌∷◌, length, refl, ap}
use Rattle.std.proofs.Common.{subst, Option, Some, None, String, Vec, arith, drop, slice_get, string_bytes, IfSome, All}
use Rattle.std.proofs.Common.{length-append}
use Rattle.std.specs.Prelude.{codes}
use Rattle.std.specs.Global.{Global}
use Rattle.std.proofs.lemmas.List.Elements.{All-cons, All-nil}
use Rattle.xdr_value.specs.Data.{Procedure, end}
use Rattle.xdr_value.specs.Tests.{differ, has_one, is_sound}
use Rattle.xdr_value.specs.declared.value.Value.{Value}
use Rattle.stub_table.specs.Requests.{RequestAnswer, whole, more_wanted, refused}
use Rattle.stub_table.specs.Streams.{request_spelling}
use Rattle.rx_model.specs.declared.names.CallName.{CallName}
use Rattle.rx_model.specs.declared.names.Host.{Host}
use Rattle.rx_script.specs.Saying.{Answering, up}
use Rattle.rx_script.specs.Served.{bytes}
use Rattle.rx_script.specs.declared.plan.Numbered.{Numbered}
use Rattle.rx_script.specs.declared.plan.PlanLine.TheVariants as lines
use Rattle.rx_asks.specs.View.{CallerState}
use Rattle.rx_asks.specs.declared.ask.Phase.TheVariants as phases
use Rattle.rx_jobs.specs.Handlers.{Handlers, answer_to, served_for, wait_from}
use Rattle.rx_reply.specs.Sent.{CanSend, upload_spelling}
use Rattle.rx_plan.specs.Answering.{AgreesOnStreams, AnswersNoZero, AreServable, Invoked, WaitsShort, invoked_at}
use Rattle.rx_plan.specs.Answering.{request_for}
use Rattle.rx_plan.specs.Follows.{Whole}
use Rattle.rx_plan.specs.Stages.{InvokedState, Stage}
use Rattle.rx_plan.proofs.Replying.{served_invoke}
use Rattle.rx_rounds.specs.Bounds.{default_limits}
use Rattle.rx_rounds.specs.Completing.{CompletesBy, InvokesOnce, rounds_for}
use Rattle.rx_rounds.specs.Ended.{AllEnded, HasEnded}
use Rattle.rx_rounds.proofs.HaveEnded.{calls_end}
use Rattle.rx_rounds.proofs.Rounded.{caller_at}

-- ---- what serves the plan's invoke

-- proc Put() split = 1;
abbrev put : Procedure
put = record { name = codes "Put"; opcode = 1; split = true; multi = false; params = [] }

-- on Put
-- up
abbrev on_put : Answering
on_put = record { proc = codes "Put"; lines = up ∷ [] }

abbrev g : Handlers
g = record { types = []; procs = put ∷ []; script = on_put ∷ [] }

servable : AreServable g
unfolding is_sound differ has_one
servable =
    record {
      sound = refl;
      opcodes =
          All-cons (λ (p : Procedure). p.opcode < 2 ^ 32) put [] (omega arith)
          (All-nil (λ (p : Procedure). p.opcode < 2 ^ 32));
      codes =
          All-cons (λ (b : Answering). All AnswersNoZero b.lines) on_put []
          (All-cons AnswersNoZero up [] tt (All-nil AnswersNoZero))
          (All-nil (λ (b : Answering). All AnswersNoZero b.lines));
    }

-- no request waits
waits_none : (a : RequestAnswer) → wait_from g a ≡ 0
waits_none (whole zero args used) = refl
waits_none (whole (suc index) args used) = refl
waits_none more_wanted = refl
waits_none (refused c) = refl

short : WaitsShort g
short request = omega (arith, waits_none (answer_to g request true))

-- 10.0.0.1:7000 and 10.0.0.2:7001
abbrev pub at_server : Host
at_server = record { addr = 167772161; port = 7000 }

abbrev pub at_client : Host
at_client = record { addr = 167772162; port = 7001 }

-- the name of its call
abbrev pub call : CallName
call = record { host = at_client; epoch = 1; cid = 4; chan = 0; number = 1 }

module _ (proc : String Global) (named : string_bytes proc ≡ codes "Put") (args : Vec Value Global)
    (none : args.items ≡ []) (upload : List ℕ) (brief : length upload ≤ 100000) where
  -- server 10.0.0.1:7000
  -- client 10.0.0.2:7001 epoch=1
  -- connect c1
  -- invoke c1 4 Put up=100000*5a []
  -- rounds 304
  abbrev ls : List Numbered
  ls =
      record { line = 1; what = lines.Server at_server 1 default_limits None 0 }
      ∷ record { line = 2; what = lines.Client at_client 1 default_limits None }
      ∷ record { line = 3; what = lines.Connect 1 1 }
      ∷ record { line = 4; what = lines.Invoke 1 4 proc (Some upload) false args }
      ∷ record { line = 5; what = lines.Rounds 304 } ∷ []

  -- of such a plan it's said that it completes, where so many rounds are enough
  once : InvokesOnce ls None 304
  once =
      record {
        at = at_server;
        service = 1;
        nonce = 0;
        from = at_client;
        epoch = 1;
        first = 1;
        cid = 4;
        proc = proc;
        up = Some upload;
        down = false;
        args = args;
        says = refl;
        apart = λ same.
            (let other : at_server.port ≡ at_client.port = ap (λ (h : Host). h.port) same in
            absurd (omega (arith, other)));
      }

  abbrev invoke : Invoked
  invoke = record { proc = put; args = end; up = Some upload; down = false }

  invoked : invoked_at g ls 3 ≡ Some invoke
  invoked = rw (named, none) refl

  can : CanSend [] put end (Some upload)
  can = (((tt, omega arith), omega arith), omega arith)

  agrees : AgreesOnStreams g invoke
  agrees = record { up = refl; down = refl }

  -- an empty reply is served
  empty : served_for g (request_for g invoke) ≡ bytes []
  empty = served_invoke g invoke 0 servable refl can agrees

  long : length (request_for g invoke) ≡ 8 + length upload
  long = omega (arith, length-append (request_spelling [] put end) (upload_spelling (Some upload)))

  -- and the rounds are as many as are asked
  enough : rounds_for g None (request_for g invoke) ≤ 304
  enough = rw (empty, waits_none (answer_to g (request_for g invoke) true)) (omega (arith, long))

  -- ---- what is left

  -- a caller of whose request so many bytes were accepted, and which shut or didn't; it read nothing, and no end came
  abbrev left : ℕ → Bool → CallerState
  left accepted shut =
      record {
        call = call;
        offering = drop accepted (request_for g invoke);
        shut = shut;
        reply = [];
        end = None;
        phase = phases.Resting;
      }

  -- no stage with this caller, whatever else it has, is one of a plan that completes
  abbrev IsRefused : CallerState → Type 0
  IsRefused k = (s : Stage) → s.callers ≡ caller_at 1 3 k ∷ [] → CompletesBy g ls None 304 (Whole s) → ⊥

  open_is_refused : (k : CallerState) → k.end ≡ None → IsRefused k
  open_is_refused k open_still s is completes =
      let Says : List InvokedState → Type 0 = λ ks. IfSome (slice_get ks 0) (λ j. IfSome (invoked_at g ls j.line)
      (λ i. rounds_for g None (request_for g i) ≤ 304 → HasEnded j.caller.end)) in
      let all : AllEnded g ls None 304 s = calls_end g ls None 304 s completes in
      let own : IfSome (invoked_at g ls 3) (λ i. rounds_for g None (request_for g i) ≤ 304 → HasEnded k.end) =
      subst Says is (all 0) in
      let its : rounds_for g None (request_for g invoke) ≤ 304 → HasEnded k.end =
      subst (λ (o : Option Invoked). IfSome o (λ i. rounds_for g None (request_for g i) ≤ 304 → HasEnded k.end)) invoked
      own in
      subst HasEnded open_still (its enough)

  -- a server that accepts and never reads: its window is full, and the client accepts no more of the request
  never_reads : IsRefused (left 45184 false)
  never_reads = open_is_refused (left 45184 false) refl

  -- a handler that reads all and is never finished, or a client that never polls its last piece: the request is said
  -- and shut, and no reply comes
  never_finished : IsRefused (left 100008 true)
  never_finished = open_is_refused (left 100008 true) refl

  -- a caller that never shuts: its handler waits for more of the request
  never_shuts : IsRefused (left 100008 false)
  never_shuts = open_is_refused (left 100008 false) refl

  -- clocks that stand where nothing else happens: the server owes an ACK in 100 ms, and till then the client has no
  -- room
  clocks_stand : IsRefused (left 87544 false)
  clocks_stand = open_is_refused (left 87544 false) refl
