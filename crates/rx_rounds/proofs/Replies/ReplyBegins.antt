-- A handler that answers behind its request, at a client that was given nothing yet: its reply comes from there on.
use Rattle.std.proofs.Common.{◌≡◌, ◌≤◌, ◌⊎◌, inl, inr, ⊎_elim, ◌+◌, ◌++◌, ℕ}
use Rattle.std.proofs.Common.{Bool, true, false, List, [], ◌∷◌, refl, ap, sym, subst, ◌∙◌, Option, None}
use Rattle.std.proofs.Common.{arith}
use Rattle.std.proofs.lemmas.Bool.{both_ways}
use Rattle.std.specs.Prelude.{IfSome}
use Rattle.rx_rules.specs.CallLooks.{CallLooks}
use Rattle.rx_rules.specs.Looks.{Looks}
use Rattle.rx_rules.specs.Owing.{Owed}
use Rattle.rx_rules.specs.Received.{Received, nothing_received, unread_of}
use Rattle.rx_rules.specs.Sent.{Sent, given_of, held_pieces, nothing_sent}
use Rattle.rx_script.specs.Served.{bytes}
use Rattle.rx_asks.specs.declared.ask.Phase.{Phase}
use Rattle.rx_asks.specs.declared.ask.Phase.TheVariants as phases
use Rattle.rx_jobs.specs.Handlers.{Handlers, served_for}
use Rattle.rx_jobs.specs.Jobs.{JobState}
use Rattle.rx_plan.specs.Stages.{InvokedState, Stage}
use Rattle.rx_plan.specs.Turned.{turns_all}
use Rattle.rx_rounds.proofs.Between.{Answering_, HasAll, InTouch, Replying}
use Rattle.rx_rounds.proofs.Between.{caller_with, client_at, finished, owes_any, server_at, writes}
use Rattle.rx_rounds.proofs.CallsOut.{waits_turn}
use Rattle.rx_rounds.proofs.Flow.{total}
use Rattle.rx_rounds.proofs.One.OneCall.{Ends}
use Rattle.rx_rounds.proofs.One.OneWay.{IsPlainOwed, IsSteady, Sends}
use Rattle.rx_rounds.proofs.Rounded.{Made, caller_at}
use Rattle.rx_rounds.proofs.Serving.SaidMore.{counts_more, said_more, sends_said}
use Rattle.rx_rounds.proofs.Serving.ServeTurns.{WroteOn}
use Rattle.rx_rounds.proofs.Sizes.{reply_short}
use Rattle.rx_rounds.proofs.Two.{Two}

-- an end that said nothing says any stream
pub says_any : (whole : List ℕ) (since : ℕ) (k : CallLooks) → k.sent ≡ nothing_sent → IsSteady k
    → Sends whole since 0 0 k
says_any whole since k none steady =
    record {
      acked = ap (λ (s : Sent). s.acked) none;
      given = ap given_of none;
      marked = λ j past. ap (λ (s : Sent). s.soft j) none;
      peer = ap (λ (s : Sent). s.peer_window) none;
      known = omega arith;
      near = omega arith;
      counted = omega arith;
      rest = whole;
      said = ap (λ (s : Sent). s.said ++ whole) (sym none);
      shut = λ closed. absurd (both_ways k.sent.shut (ap (λ (s : Sent). s.shut) none) closed);
      held = subst (λ (s : Sent). held_pieces s ≤ 32) (sym none) (omega arith);
      rates = steady;
      recent = λ j low high. absurd (omega arith);
    }

-- a handler that answers behind its request, at a client that was given nothing yet
module _ (x : Ends) (g : Handlers) (request : List ℕ) (call line now : ℕ) where
  -- what is known of both ends then
  pub record Begins (kc ks : CallLooks) : Type 0 where
    pub has : HasAll request kc ks
    pub new : ks.sent ≡ nothing_sent
    pub steady : IsSteady ks
    pub quiet : kc.received ≡ nothing_received
    pub none : kc.owed_ack ≡ None
    pub touch : InTouch 4000 now kc ks
    pub spoken : kc.spoke ≤ now
    pub acks : (has.a ≡ total request) ⊎ (now ≤ has.since + 100)

  ends_of : (said rest : List ℕ) (shut : Bool) (life : _) (jobs : List JobState)
      → Answering_ x g request said shut rest life jobs → shut ≡ true → rest ≡ []
  ends_of said rest shut life jobs (writes steps going some) closed = absurd (both_ways shut going closed)
  ends_of said rest shut life jobs (finished closed none) same = none

  pub replying_at : (reply : List ℕ) (kc ks : CallLooks) (given_client used_client given_server used_server : ℕ)
      (lc : Looks) (cs : List InvokedState) (phase : Phase) (s t : Stage)
      → Begins kc ks → served_for g request ≡ bytes reply
      → WroteOn x g request (client_at x given_client used_client [] now kc)
      (caller_at call line (caller_with x [] true [] phase) ∷ []) now given_server used_server 0 ks reply s
      → Made turns_all s t → Replying x g request reply call line now 0 0 3 t
  replying_at reply kc ks given_client used_client given_server used_server lc cs phase s t b served w made =
      let going : ks.sent.shut ≡ false = ap (λ (z : Sent). z.shut) b.new in
      let said_none : ks.sent.said ≡ [] = ap (λ (z : Sent). z.said) b.new in
      let base : Sends reply now 0 0 ks = says_any reply now ks b.new b.steady in
      let split : reply ≡ (ks.sent.said ++ w.more) ++ w.rest = w.split
      ∙ ap (λ (ys : List ℕ). (ys ++ w.more) ++ w.rest) (sym said_none) in
      let ends : w.shut ≡ true → w.rest ≡ [] = ends_of (ks.sent.said ++ w.more) w.rest w.shut w.life w.jobs w.job in
      let ls : Looks = server_at x given_server used_server now w.life (said_more w.more w.shut ks) in
      let two1 = waits_turn x None ls w.jobs now given_client used_client call line kc phase s t b.quiet w.two made in
      let read_none : kc.received.read ≡ [] = ap (λ (r : Received). r.read) b.quiet in
      record {
        kc = kc;
        ks = said_more w.more w.shut ks;
        given_client = given_client;
        used_client = used_client;
        given_server = given_server;
        used_server = used_server;
        firsts = [];
        phase = phases.Resting;
        life = w.life;
        jobs = w.jobs;
        rest = w.rest;
        two = subst (λ (ys : List ℕ). Two x ls (client_at x given_client used_client [] now kc)
            (caller_at call line (caller_with x [] true ys phases.Resting) ∷ []) w.jobs t) (sym read_none) two1;
        served = served;
        has = record {
          tells = record {
            used = b.has.tells.used;
            marks = b.has.tells.marks;
            previous = b.has.tells.previous;
            plain = b.has.tells.plain;
          };
          ended = b.has.ended;
          a = b.has.a;
          since = b.has.since;
          all = b.has.all;
          shut = b.has.shut;
        };
        job = w.job;
        since = now;
        down = sends_said reply now 0 0 ks base going w.more w.rest w.shut split ends w.within;
        writes = split;
        out = w.full;
        more = counts_more reply now 0 0 ks base going w.more w.rest w.shut split ends w.within (omega arith) w.full;
        reads = record {
          read = [];
          previous = 0;
          kept = b.quiet;
          low = omega arith;
          short = omega arith;
          exact = refl;
          out = ap (λ (r : Received). unread_of r) b.quiet;
          plain = subst (λ (o : Option Owed). IfSome o IsPlainOwed) (sym b.none) tt;
        };
        fits = reply_short g request reply served;
        time = record {
          touch = record { client = b.touch.client; server = b.touch.server; spoke = b.touch.spoke };
          past = omega arith;
          soon = omega arith;
          rests = λ same. refl;
          owes = λ less. absurd (omega arith);
          came = λ less. absurd (omega arith);
        };
        spoken = b.spoken;
        late = subst (λ (o : Option Owed). IfSome o (λ z. z.rank ≤ now + 100)) (sym b.none) tt;
        owing = 2;
        passes = owes_any (omega arith);
        within = omega arith;
        due = λ is. absurd (omega arith);
        acks = ⊎_elim (λ (z : b.has.a ≡ total request). inl z) (λ (z : now ≤ b.has.since + 100). inr (refl, z)) b.acks;
      }
