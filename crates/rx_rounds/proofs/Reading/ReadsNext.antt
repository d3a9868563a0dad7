-- What the turns behind pieces of a request come to: its handler reads on, waits, replies or refuses; and its caller
-- says as much more as there is room for.
use Rattle.std.proofs.Common.{◌≡◌, ◌≢◌, ◌<◌, ◌≤◌, ◌⊎◌, inl, inr, ⊎_elim, ◌+◌, ◌^◌, ◌++◌, ℕ, ℤ, pos}
use Rattle.std.proofs.Common.{Bool, true, false, cond, List, [], ◌∷◌, refl, ap, sym, subst, ◌∙◌, Option, Some, None}
use Rattle.std.proofs.Common.{length}
use Rattle.std.proofs.Common.{arith, append-nil, nat_lt}
use Rattle.std.proofs.lemmas.Bool.{cases_Bool, ltb-false}
use Rattle.std.proofs.lemmas.List.{length-append}
use Rattle.std.specs.Prelude.{IfSome, IsSomeAnd}
use Rattle.rx_model.specs.Spelling.{IsCode}
use Rattle.rx_rules.specs.CallLooks.{CallLooks, after_read}
use Rattle.rx_rules.specs.Life as lives
use Rattle.rx_rules.specs.Looks.{Looks}
use Rattle.rx_rules.specs.Owing.{Owed, delayed, owed_for_read}
use Rattle.rx_rules.specs.Received.{Received, heard_of, is_complete, marks_of, nothing_received, unread_of, used_of}
use Rattle.rx_rules.specs.Sent.{counting_by, nothing_sent}
use Rattle.rx_script.specs.Served.{refusal}
use Rattle.rx_asks.specs.declared.ask.Phase.{Phase}
use Rattle.rx_asks.specs.declared.ask.Phase.TheVariants as phases
use Rattle.rx_jobs.specs.Handlers.{Handlers, served_for, wait_of}
use Rattle.rx_jobs.specs.Jobs.{begun}
use Rattle.rx_jobs.specs.Keeping.{kept_of}
use Rattle.rx_plan.specs.Stages.{InvokedState, Stage}
use Rattle.rx_plan.specs.Turned.{turns_all}
use Rattle.rx_rounds.proofs.Arriving.ArrivingRound.{reads_out_of, tells_read}
use Rattle.rx_rounds.proofs.Between.{Arriving, HasAll, Refusing, Replying, Waiting, answers_later}
use Rattle.rx_rounds.proofs.Between.{caller_with, client_at, server_at}
use Rattle.rx_rounds.proofs.CallsOut.{waits_turn}
use Rattle.rx_rounds.proofs.Flow.{total}
use Rattle.rx_rounds.proofs.Keeper.{kept_to}
use Rattle.rx_rounds.proofs.One.OneCall.{Ends, the_call}
use Rattle.rx_rounds.proofs.One.OneRequest.{whole_is}
use Rattle.rx_rounds.proofs.One.OneWay.{IsOwedBy, IsPlainOwed, IsSteady, Reads, Sends}
use Rattle.rx_rounds.proofs.Reading.ReadOn.{IsRead, read_out}
use Rattle.rx_rounds.proofs.Reading.ReadWhole.{marks_all, used_all}
use Rattle.rx_rounds.proofs.Replies.ReplyStream.{heard_kept, heard_whole}
use Rattle.rx_rounds.proofs.Rounded.{Made, caller_at}
use Rattle.rx_rounds.proofs.Serving.SaidMore.{said_more}
use Rattle.rx_rounds.proofs.Serving.SaysOn.{arriving_at, says_on}
use Rattle.rx_rounds.proofs.Serving.ServeDecides.{refused_at}
use Rattle.rx_rounds.proofs.Serving.ServeTurns.{ReadsJob, ServedOn, WroteOn, has_read_all, refused, refused_early}
use Rattle.rx_rounds.proofs.Serving.ServeTurns.{replies_now}
use Rattle.rx_rounds.proofs.Serving.ServeTurns.{waits_for_pieces, waits_longer}
use Rattle.rx_rounds.proofs.Two.{Two}
use Rattle.rx_rounds.proofs.Replies.ReplyBegins.{Begins, replying_at}

-- a stream of which all pieces were given is shut
pub given_all : (whole : List ℕ) (since a n : ℕ) (k : CallLooks) → Sends whole since a n k → n ≡ total whole
    → k.sent.shut ≡ true
given_all whole since a n k h all =
    elim (cases_Bool k.sent.shut) as (λ c. k.sent.shut ≡ true) [
      | inl closed ↦ closed
      | inr going ↦ absurd (
          let counts : n ≤ counting_by (length k.sent.said) false =
          subst (λ (b : Bool). n ≤ counting_by (length k.sent.said) b) going h.counted in
          let long : length whole ≡ length k.sent.said + length h.rest = ap (λ (xs : List ℕ). length xs) h.said
          ∙ length-append k.sent.said h.rest in omega arith)
    ]

-- ---- what the turns come to

pub data TurnsNext (x : Ends) (g : Handlers) (request : List ℕ) (call line now a n : ℕ) (t : Stage) : Type 0 where
  reads_more : Arriving x g request call line now a n 1 t → TurnsNext x g request call line now a n t
  waits_next : Waiting x g request call line now (wait_of g request) t → TurnsNext x g request call line now a n t
  replies_next : (reply : List ℕ) → Replying x g request reply call line now 0 0 3 t
      → TurnsNext x g request call line now a n t
  refuses_next : (code : ℤ) → Refusing x g request call line now code t → TurnsNext x g request call line now a n t

-- ---- the turns

-- what is known of both ends before them: pieces came up to the last one
pub record Came (x : Ends) (request : List ℕ) (now a n since : ℕ) (kc first : CallLooks) (offering : List ℕ)
    (shut : Bool)
    : Type 0 where
  pub known : 1 ≤ n
  pub within : n ≤ total request
  pub less : a < n
  pub up : Sends request since a n kc
  pub quiet : kc.received ≡ nothing_received
  pub none : kc.owed_ack ≡ None
  pub offers : request ≡ kc.sent.said ++ offering
  pub closed : kc.sent.shut ≡ shut
  pub done : shut ≡ true → offering ≡ []
  pub new : first.sent ≡ nothing_sent
  pub steady : IsSteady first
  pub plain : IfSome first.owed_ack IsPlainOwed
  pub late : IfSome first.owed_ack (λ o. o.rank ≤ now + 100)
  -- an ACK is owed before long, or will be once these pieces are read
  pub owes : IsOwedBy (since + 100) first ⊎ ((since ≡ now) × (used_of first.received < n))
  pub heard : first.heard ≡ now
  pub past : since ≤ now
  pub soon : now ≤ since + 100
  pub spoke : kc.spoke ≡ now
  pub touch : since ≤ kc.heard + 3000

module _ (x : Ends) (g : Handlers) (request : List ℕ) (call line : ℕ) (small : total request ≤ 1000000)
    (now a n since gc uc gs us : ℕ) (kc first : CallLooks) (offering : List ℕ) (shut : Bool) (phase : Phase)
    (b : Came x request now a n since kc first offering shut) (s t : Stage) (calls : Made turns_all s t) where
  abbrev lc : Looks
  lc = client_at x gc uc [] now kc

  abbrev cs : List InvokedState
  cs = caller_at call line (caller_with x offering shut [] phase) ∷ []

  -- the end as it was read on
  module _ (k : CallLooks) (read : List ℕ) (h : IsRead request now n n first read k) where
    owed_is : k.owed_ack ≡ h.owed
    owed_is = ap (λ (i : CallLooks). i.owed_ack) h.is

    -- what was owed is owed still
    owes_still : IsOwedBy (since + 100) first → IsOwedBy (since + 100) k
    owes_still was = subst (λ (o : Option Owed). IsSomeAnd o (λ z. z.rank ≤ since + 100)) (sym owed_is)
        (of first.owed_ack refl was)
      where
        of : (o : Option Owed) → first.owed_ack ≡ o → IsSomeAnd o (λ z. z.rank ≤ since + 100)
            → IsSomeAnd h.owed (λ z. z.rank ≤ since + 100)
        of None is some = absurd some
        of (Some z) is some = subst (λ (v : Option Owed). IsSomeAnd v (λ y. y.rank ≤ since + 100)) (sym (h.stays z is))
            some

    -- where more is done with something is owed
    owes_raised : since ≡ now → used_of first.received < used_of k.received → IsOwedBy (since + 100) k
    owes_raised same more =
        subst (λ (o : Option Owed). IsSomeAnd o (λ z. z.rank ≤ since + 100)) (sym owed_is)
        (subst (λ (i : ℕ). IsSomeAnd h.owed (λ z. z.rank ≤ i + 100)) (sym same)
        (h.raised (subst (λ (r : Received). used_of first.received < used_of r)
        (ap (λ (i : CallLooks). i.received) h.is) more)
        b.late))

    plain_still : IfSome k.owed_ack IsPlainOwed
    plain_still = subst (λ (o : Option Owed). IfSome o IsPlainOwed) (sym owed_is) (h.plain b.plain)

    late_still : IfSome k.owed_ack (λ z. z.rank ≤ now + 100)
    late_still = subst (λ (o : Option Owed). IfSome o (λ z. z.rank ≤ now + 100)) (sym owed_is) (h.late b.late)

    new_still : k.sent ≡ nothing_sent
    new_still = ap (λ (i : CallLooks). i.sent) h.is ∙ b.new

    heard_still : k.heard ≡ now
    heard_still = ap (λ (i : CallLooks). i.heard) h.is ∙ b.heard

    steady_still : IsSteady k
    steady_still = subst IsSteady (sym h.is) (record {
      wide = b.steady.wide;
      most = b.steady.most;
      steady = b.steady.steady;
      even = b.steady.even;
      slow = b.steady.slow;
    })

    -- it waits for more
    on_reading : unread_of k.received ≡ [] → is_complete k.received ≡ false
        → Two x (server_at x gs us now lives.Accepted k) lc cs
        (record (begun (the_call x)) { request = kept_of g read } ∷ []) s
        → TurnsNext x g request call line now a n t
    on_reading none part two =
        let reads : Reads request n k = reads_out_of request now n n first k read b.known (omega (arith, b.within))
        b.plain h
        none part b.within in
        let done : used_of k.received ≡ n = (tells_read request n k reads).used in
        let owes : IsOwedBy (since + 100) k = ⊎_elim owes_still
        (λ (w : (since ≡ now) × (used_of first.received < n)). owes_raised w.0 (omega (arith, w.1))) b.owes in
        let read_is : k.received.read ≡ read = ap (λ (i : CallLooks). i.received.read) h.is in
        reads_more (arriving_at x request call line g now since a n gc uc gs us kc k offering shut phase s t b.known
        b.up
        b.quiet b.none b.offers b.closed b.done reads new_still steady_still
        (record {
          touch = record {
            client = b.touch;
            server = omega (arith, b.past, heard_still);
            spoke = omega (arith, b.past, b.spoke);
          };
          past = b.past;
          soon = b.soon;
          rests = λ same. absurd (omega (arith, b.less));
          owes = λ less. owes;
          came = λ less. omega (arith, b.past, heard_still);
        }) (λ less. omega (arith, b.past, b.spoke)) (omega (arith, b.spoke))
        late_still (omega (arith, b.less, b.within))
        (subst (λ (ys : List ℕ). Two x (server_at x gs us now lives.Accepted k) lc cs
        (record (begun (the_call x)) { request = kept_of g ys } ∷ []) s) (sym read_is) two) calls)

    -- it finished with a code while it read
    on_code : (code : ℤ) → served_for g request ≡ refusal code → code ≢ pos 0 → IsCode code
        → Two x (refused_at x code gs us now k) lc cs [] s
        → TurnsNext x g request call line now a n t
    on_code code served some fits two =
        let o = says_on x request call line shut now gc uc since a n (refused_at x code gs us now k) [] kc offering
        phase s
        t b.up b.quiet b.offers b.closed b.done (omega (arith, b.less, b.within)) two calls in
        refuses_next code (record {
          kc = said_more o.more o.shut kc;
          ks = k;
          given_client = gc;
          used_client = uc;
          given_server = gs;
          used_server = us;
          offering = o.offering;
          shut = o.shut;
          phase = phases.Resting;
          two = o.two;
          served = served;
          some = some;
          fits = fits;
          awake = omega (arith, b.touch, b.soon);
          quiet = b.quiet;
          owes_none = b.none;
          a = a;
          n = n;
          since = since;
          up = o.up;
          soon = λ less. b.soon;
        })

    -- it read the end
    module _ (none : unread_of k.received ≡ []) (whole : is_complete k.received ≡ true) where
      abbrev ended : CallLooks
      ended = after_read now true [] k

      all : n ≡ total request
      all = whole_is request read n n b.within (ap (λ (i : CallLooks). is_complete i.received) (sym h.is) ∙ whole)

      stood : read ≡ request
      stood = read_out request now n n first read k h none ∙ sym (heard_kept request n) ∙ heard_whole request n all

      long : length (heard_of (kept_to request n)) ≤ length (read ++ [])
      long =
          let stands : heard_of (kept_to request n) ≡ read = heard_whole request n all ∙ sym stood in
          omega (arith, ap (λ (ys : List ℕ). length ys) stands, ap (λ (ys : List ℕ). length ys) (append-nil read))

      used_ended : used_of ended.received ≡ n
      used_ended = ap (λ (i : CallLooks). used_of (after_read now true [] i).received) h.is
          ∙ used_all request (read ++ []) n n long

      owed_ended : ended.owed_ack
          ≡ cond (nat_lt (used_of k.received) (used_of ended.received)) (delayed now 0 k.owed_ack) k.owed_ack
      owed_ended =
          ap (λ (t : Bool). owed_for_read now t (used_of k.received) (used_of ended.received)
          k.owed_ack) (ap (λ (i : CallLooks). i.cwnd.prompt) h.is ∙ h.unprompted)

      plain_ended : IfSome ended.owed_ack IsPlainOwed
      plain_ended =
          subst (λ (o : Option Owed). IfSome o IsPlainOwed) (sym owed_ended)
          (of (nat_lt (used_of k.received) (used_of ended.received)) k.owed_ack plain_still)
        where
          of : (z : Bool) (o : Option Owed) → IfSome o IsPlainOwed → IfSome (cond z (delayed now 0 o) o) IsPlainOwed
          of true None was = record
              { reason_low = omega arith; reason_high = omega arith; serial = omega arith; no_ping = refl }
          of true (Some o) was = was
          of false o was = was

      owes_soon : IsOwedBy (since + 100) ended
      owes_soon =
          subst (λ (o : Option Owed). IsSomeAnd o (λ z. z.rank ≤ since + 100)) (sym owed_ended)
          (⊎_elim (λ (w : IsOwedBy (since + 100) first).
          kept (nat_lt (used_of k.received) (used_of ended.received)) k.owed_ack (owes_still w))
          (λ (w : (since ≡ now) × (used_of first.received < n)).
          newly (nat_lt (used_of k.received) (used_of ended.received)) refl w.0 w.1) b.owes)
        where
          kept : (z : Bool) (o : Option Owed) → IsSomeAnd o (λ w. w.rank ≤ since + 100)
              → IsSomeAnd (cond z (delayed now 0 o) o) (λ w. w.rank ≤ since + 100)
          kept z None some = absurd some
          kept true (Some o) some = some
          kept false (Some o) some = some

          new_owed : (o : Option Owed) → since ≡ now → IfSome o (λ w. w.rank ≤ now + 100)
              → IsSomeAnd (delayed now 0 o) (λ w. w.rank ≤ since + 100)
          new_owed None same was = omega arith
          new_owed (Some o) same was = omega arith

          newly : (z : Bool) → nat_lt (used_of k.received) (used_of ended.received) ≡ z → since ≡ now
              → used_of first.received < n
              → IsSomeAnd (cond z (delayed now 0 k.owed_ack) k.owed_ack) (λ w. w.rank ≤ since + 100)
          newly true is same more = new_owed k.owed_ack same late_still
          newly false is same more =
              (let not_less : used_of ended.received ≤ used_of k.received =
              ltb-false (used_of k.received) (used_of ended.received) is in
              owes_raised same (omega (arith, used_ended)))

      shut_is : kc.sent.shut ≡ true
      shut_is = given_all request since a n kc b.up all

      abbrev has_all : HasAll request kc ended
      has_all =
          record {
            tells = record {
              used = used_ended ∙ all;
              marks = ap (λ (i : CallLooks). marks_of (after_read now true [] i).received) h.is
                  ∙ marks_all request (read ++ []) n n long;
              previous = subst (λ (i : CallLooks). i.received.previous < 2 ^ 32) (sym h.is) (omega (arith, b.within));
              plain = plain_ended;
            };
            ended = refl;
            a = a;
            since = since;
            all = subst (λ (i : ℕ). Sends request since a i kc) all b.up;
            shut = shut_is;
          }

      closed : shut ≡ true
      closed = sym b.closed ∙ shut_is

      none_left : offering ≡ []
      none_left = b.done closed

      caller_is : cs ≡ caller_at call line (caller_with x [] true [] phase) ∷ []
      caller_is = ap (λ (ys : List ℕ). caller_at call line (caller_with x ys shut [] phase) ∷ []) none_left
          ∙ ap (λ (z : Bool). caller_at call line (caller_with x [] z [] phase) ∷ []) closed

      later : (o : Option Owed) → IsSomeAnd o (λ w. w.rank ≤ since + 100) → IsSomeAnd o (λ w. w.rank ≤ now + 100)
      later None some = absurd some
      later (Some o) some = omega (arith, b.past)

      begins : Begins x g request call line now kc ended
      begins =
          record {
            has = has_all;
            new = new_still;
            steady = record {
              wide = steady_still.wide;
              most = steady_still.most;
              steady = steady_still.steady;
              even = steady_still.even;
              slow = steady_still.slow;
            };
            quiet = b.quiet;
            none = b.none;
            touch = record {
              client = omega (arith, b.touch, b.soon);
              server = omega (arith, heard_still);
              spoke = omega (arith, b.spoke);
            };
            spoken = omega (arith, b.spoke);
            acks = inr b.soon;
          }

      on_end : ServedOn x g request lc cs now gs us 0 ended s → TurnsNext x g request call line now a n t
      on_end (waits_longer less uncoded two) =
          let two1 : Two x (server_at x gs us now lives.Accepted ended) lc
          (caller_at call line (caller_with x [] true [] phase) ∷ [])
          (record (begun (the_call x)) { request = kept_of g request; ended = true; steps = 0 } ∷ []) s =
          subst (λ (ds : List InvokedState). Two x (server_at x gs us now lives.Accepted ended) lc ds
          (record (begun (the_call x)) { request = kept_of g request; ended = true; steps = 0 } ∷ []) s) caller_is
          two in
          waits_next (record {
            kc = kc;
            ks = ended;
            given_client = gc;
            used_client = uc;
            given_server = gs;
            used_server = us;
            phase = phases.Resting;
            steps = 0;
            two = waits_turn x None (server_at x gs us now lives.Accepted ended)
                (record (begun (the_call x)) { request = kept_of g request; ended = true; steps = 0 } ∷ []) now gc uc
                call
                line kc phase s t b.quiet two1 calls;
            turns = omega arith;
            some = omega arith;
            uncoded = uncoded;
            has = has_all;
            acks = inr (owes_soon, b.soon);
            past = b.past;
            quiet = b.quiet;
            owes_none = b.none;
            says_none = new_still;
            fresh = record {
              wide = steady_still.wide;
              most = steady_still.most;
              steady = steady_still.steady;
              even = steady_still.even;
              slow = steady_still.slow;
            };
            spoken = omega (arith, b.spoke);
            waits = answers_later (later ended.owed_ack owes_soon) (omega (arith, b.touch, b.soon)) heard_still b.spoke;
          })
      on_end (replies_now reply served w) =
          replies_next reply (replying_at x g request call line now reply kc ended gc uc gs us lc cs phase s t begins
          served
          (subst (λ (ds : List InvokedState). WroteOn x g request lc ds now gs us 0 ended reply s) caller_is w) calls)
      on_end (refused code served some fits two) =
          let two1 : Two x (refused_at x code gs us now ended) lc
          (caller_at call line (caller_with x [] true [] phase) ∷ []) [] s =
          subst (λ (ds : List InvokedState). Two x (refused_at x code gs us now ended) lc ds [] s) caller_is two in
          refuses_next code (record {
            kc = kc;
            ks = ended;
            given_client = gc;
            used_client = uc;
            given_server = gs;
            used_server = us;
            offering = [];
            shut = true;
            phase = phases.Resting;
            two = waits_turn x None (refused_at x code gs us now ended) [] now gc uc call line kc phase s t b.quiet two1
                calls;
            served = served;
            some = some;
            fits = fits;
            awake = omega (arith, b.touch, b.soon);
            quiet = b.quiet;
            owes_none = b.none;
            a = a;
            n = n;
            since = since;
            up = b.up;
            soon = λ less. b.soon;
          })

  pub turns_next : ReadsJob x g request lc cs now gs us n n first s → TurnsNext x g request call line now a n t
  turns_next (waits_for_pieces k read h none part two) = on_reading k read h none part two
  turns_next (has_read_all k read h none whole served) = on_end k read h none whole served
  turns_next (refused_early k read code h served some fits two) = on_code k read h code served some fits two
