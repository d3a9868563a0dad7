-- The two ends of a call in rounds that move no number of either, by time: what a round that gives something costs,
-- that each end comes to know what the other is done with, and that both come to rest.
use Rattle.std.proofs.Common.{◌≡◌, ◌<◌, ◌≤◌, ◌+◌, ◌-◌, ◌*◌, max, ℕ, suc, Bool, true, false, List, [], ◌∷◌, refl, ap}
use Rattle.std.proofs.Common.{sym, subst, ◌∙◌, arith}
use Rattle.rx_rules.specs.CallItems.{Sending}
use Rattle.rx_rules.specs.CallLooks.{CallLooks}
use Rattle.rx_rules.specs.Sent.{Giving, Sent, given_of}
use Rattle.rx_rules.specs.Setup.{Setup, is_client}
use Rattle.rx_closing.proofs.Ends.AtRest.{Rest, stood_same, stood_then}
use Rattle.rx_closing.proofs.Ends.BothEnds.{Ends, GivenBy, IsFit, Round, Stood}
use Rattle.rx_closing.proofs.Ends.FrozenPolls.{has_ack, has_ping, polls_quiet, polls_same, polls_spoke}
use Rattle.rx_closing.proofs.Ends.FrozenRound.{reply_half, request_half}
use Rattle.rx_closing.proofs.Ends.FrozenSteps.{Known, no_reply, no_request, none_given, owes_less, owes_more}
use Rattle.rx_closing.proofs.Ends.FrozenSteps.{owes_no_more, owing, owing_low, pinged, pinged_late, spoke_no_less}
use Rattle.rx_closing.proofs.Ends.Resting.{rests, rests_on}

-- ---- standing

-- no number moved since
record Standing (e f : Ends) : Type 0 where
  client : Stood e.client f.client
  server : Stood e.server f.server

standing-same : (e : Ends) → Standing e e
standing-same e = record { client = stood_same e.client; server = stood_same e.server }

standing-on : (e f g : Ends) (cs ss : Setup) → Round cs ss f g → Standing e f → Standing e g
standing-on e f g cs ss r before =
    record {
      client = stood_then e.client f.client g.client before.client r.client_stood;
      server = stood_then e.server f.server g.server before.server r.server_stood;
    }

known-back : (e f : Ends) → Standing e f → Known f → Known e
known-back e f since known =
    let a = since.client.acked in
    let b = since.client.used in
    let c = since.server.acked in
    let d = since.server.used in
    let request = known.request in
    let reply = known.reply in
    record { request = omega (arith, a, d, request); reply = omega (arith, b, c, reply) }

stood-back : (a b : CallLooks) → Stood a b → Stood b a
stood-back a b s =
    record {
      pieces = sym s.pieces;
      given = sym s.given;
      acked = sym s.acked;
      shut = sym s.shut;
      front = sym s.front;
      used = sym s.used;
      ended = sym s.ended;
    }

rest-back : (e f : Ends) → Standing e f → Rest f → Rest e
rest-back e f since rest =
    record {
      request = rests_on f.client e.client f.server e.server (stood-back e.client f.client since.client)
          (stood-back e.server f.server since.server) rest.request;
      reply = rests_on f.server e.server f.client e.client (stood-back e.server f.server since.server)
          (stood-back e.client f.client since.client) rest.reply;
    }

-- ---- what a round costs

-- three times the milliseconds that are left to the client's pings, and what is owed
abbrev pub work_load : Ends → Ends → ℕ
work_load z e = 3 * (((z.client_now + 12000) - max e.client.spoke (z.client_now - 2000)) + owing e)

pub work_most : (z : Ends) → work_load z z ≤ 46200
work_most z = (let low = owing_low z in omega (arith, low))

module _ (cs ss : Setup) (client : is_client cs.kind ≡ true) (server : is_client ss.kind ≡ false) where
  -- no more, and less where something was given
  pub record WorkPays (z e f : Ends) (r : Round cs ss e f) : Type 0 where
    pub low : work_load z f ≤ work_load z e
    pub less : (r.passes.out_c ≡ [] → r.passes.out_s ≡ [] → ⊥) → work_load z f + 2000 ≤ work_load z e

  pub work_pays : (z e f g : Ends) (r : Round cs ss e f) → Round cs ss f g → z.client_now ≤ e.client_now
      → e.client_now < z.client_now + 12000 → WorkPays z e f r
  work_pays z e f g r q since soon = of (has_ping r.passes.out_c) refl
    where
      of : (b : Bool) → has_ping r.passes.out_c ≡ b → WorkPays z e f r
      of true is =
          (let late = pinged_late cs ss client server e f g r q is in
          let before = late.0 in
          let now = late.1 in
          let more = owes_more cs ss client server e f g r q in
          let less : work_load z f + 2000 ≤ work_load z e = omega (arith, since, soon, before, now, more) in
          record { low = omega (arith, less); less = λ gives. less })
      of false is =
          (let spoke = spoke_no_less cs ss client server e f g r q in
          let owed = owes_no_more cs ss client server e f g r q is in
          record {
            low = omega (arith, spoke, owed);
            less = λ gives. (let less = owes_less cs ss client server e f g r q is gives in omega (arith, spoke, less));
          })

  -- ---- rounds in a row

  -- so many, as each of which begins the client spoke at most two seconds ago
  pub data Spaced : ℕ → Ends → Ends → Type 0 where
    spaced_none : (e : Ends) → e.client_now ≤ e.client.spoke + 2000 → Spaced 0 e e
    spaced_more : (n : ℕ) (e f g : Ends) (r : Round cs ss e f) → e.client_now ≤ e.client.spoke + 2000 → Spaced n f g
        → Spaced (suc n) e g

  -- the first of them, or the one behind them
  first-of : (n : ℕ) (f w x : Ends) → Spaced n f w → Round cs ss w x → (g : Ends) × Round cs ss f g
  first-of n f w x (spaced_none d near) last = (x, last)
  first-of n f w x (spaced_more m d g h r near rest) last = (g, r)

  -- ---- each end knows what the other is done with

  ack-some : (xs : List Sending) → has_ack xs ≡ true → xs ≡ [] → ⊥
  ack-some [] some none = cc
  ack-some (x ∷ xs) some none = cc

  -- seven times the moment at which the client spoke, and twenty times what is owed, are no more behind a round without
  -- a ping
  spoke-owed : (e f g : Ends) (r : Round cs ss e f) → Round cs ss f g → has_ping r.passes.out_c ≡ false
      → e.client_now ≤ e.client.spoke + 2000
      → 7 * f.client.spoke + 20 * owing f ≤ 7 * e.client.spoke + 20 * owing e
  spoke-owed e f g r q quiet near = of (has_ack r.passes.out_c) refl
    where
      same : f.client.spoke ≡ r.passes.kc1.spoke
      same = (reply_half cs ss client server e f r).spoke

      of : (b : Bool) → has_ack r.passes.out_c ≡ b
          → 7 * f.client.spoke + 20 * owing f ≤ 7 * e.client.spoke + 20 * owing e
      of true is =
          (let now = polls_spoke cs e.client_now e.client r.passes.out_c r.passes.gave_c r.passes.kc1
          r.passes.gives_c is in
          let less = owes_less cs ss client server e f g r q quiet
          (λ none_c none_s. absurd (ack-some r.passes.out_c is none_c)) in
          omega (arith, now, same, less, near))
      of false is =
          (let still = ap (λ (k : CallLooks). k.spoke)
          (polls_quiet cs e.client_now e.client r.passes.out_c r.passes.gave_c r.passes.kc1 r.passes.gives_c
          (none_given r.passes.out_c (no_request cs ss client server e f g r q) is)) in
          let owed = owes_no_more cs ss client server e f g r q quiet in
          omega (arith, still, same, owed))

  known-late : (n : ℕ) (z e w x : Ends) → Spaced n e w → Round cs ss w x → Standing z e
      → 7 * e.client.spoke + 20 * owing e ≤ 7 * z.client_now + 28000 → z.client_now + 6000 < w.client_now → Known z
  known-late n z e w x (spaced_none d near) last since low late = absurd (omega (arith, near, low, late))
  known-late n z e w x (spaced_more m d f h r near rest) last since low late =
      by (first-of m f h x rest last) (λ on less. known-late m z f h x rest last on less late) (has_ping r.passes.out_c)
      refl
    where
      by : ((g : Ends) × Round cs ss f g)
          → (Standing z f → 7 * f.client.spoke + 20 * owing f ≤ 7 * z.client_now + 28000 → Known z) → (b : Bool)
          → has_ping r.passes.out_c ≡ b → Known z
      by q again true is = known-back z d since (pinged cs ss client server d f q.0 r q.1 is)
      by q again false is =
          again (standing-on z d f cs ss r since)
          (let less = spoke-owed d f q.0 r q.1 is near in omega (arith, less, low))

  -- six seconds on
  pub known_late : (n : ℕ) (e w x : Ends) → Spaced n e w → Round cs ss w x → e.client.spoke ≤ e.client_now
      → e.client_now + 6000 < w.client_now → Known e
  known_late n e w x rows last spoke late =
      known-late n e e w x rows last (standing-same e) (let low = owing_low e in omega (arith, low, spoke)) late

  -- ---- both come to rest

  -- nothing was given of the streams since, and this time has passed
  record Waiting (e f : Ends) : Type 0 where
    since : Standing e f
    client_givings : f.client.sent.givings ≡ e.client.sent.givings
    server_givings : f.server.sent.givings ≡ e.server.sent.givings
    time : ℕ
    client_now : f.client_now ≡ e.client_now + time
    server_now : f.server_now ≡ e.server_now + time

  -- what was given by a moment
  given-as : (now : ℕ) (a b : CallLooks) → b.sent.givings ≡ a.sent.givings → given_of b.sent ≡ given_of a.sent
      → ((j : ℕ) → 1 ≤ j → j ≤ given_of a.sent → GivenBy now a.sent.givings j)
      → (j : ℕ) → 1 ≤ j → j ≤ given_of b.sent → GivenBy now b.sent.givings j
  given-as now a b same given known j low high =
      subst (λ (gs : List Giving). GivenBy now gs j) (sym same) (known j low (omega (arith, given, high)))

  module _ (z : Ends) (fit_c : IsFit z.client_now z.client) (fit_s : IsFit z.server_now z.server) (known : Known z)
    where
      waits-on : (e f g : Ends) (r : Round cs ss e f) → Round cs ss f g → Waiting z e → Waiting z f
      waits-on e f g r q waiting =
          record {
            since = standing-on z e f cs ss r waiting.since;
            client_givings = (reply_half cs ss client server e f r).givings
                ∙ (ap (λ (s : Sent). s.givings) (polls_same cs e.client_now e.client r.passes.out_c r.passes.gave_c
                r.passes.kc1 r.passes.gives_c (no_request cs ss client server e f g r q)).sent
                ∙ waiting.client_givings);
            server_givings = (request_half cs ss client server e f r).givings
                ∙ (ap (λ (s : Sent). s.givings) (polls_same ss e.server_now e.server r.passes.out_s r.passes.gave_s
                r.passes.ks1 r.passes.gives_s (no_reply cs ss client server e f g r q)).sent ∙ waiting.server_givings);
            time = waiting.time + r.time;
            client_now = (let a = waiting.client_now in let b = r.client_now in omega (arith, a, b));
            server_now = (let a = waiting.server_now in let b = r.server_now in omega (arith, a, b));
          }

      rests-now : (e f g : Ends) (r : Round cs ss e f) → Round cs ss f g → Waiting z e
          → z.client_now + 4000 ≤ e.client_now → Rest e
      rests-now e f g r q waiting late =
          let a = waiting.client_now in
          let b = waiting.server_now in
          let was_request = known.request in
          let was_reply = known.reply in
          let c1 = waiting.since.client.acked in
          let c2 = waiting.since.client.used in
          let s1 = waiting.since.server.acked in
          let s2 = waiting.since.server.used in
          record {
            request = rests cs e.client_now z.client_now e.client r.passes.kc1 r.passes.out_c r.passes.gave_c
                e.server.received r.passes.gives_c (no_request cs ss client server e f g r q) r.client_fit
                (given-as z.client_now z.client e.client waiting.client_givings waiting.since.client.given fit_c.known)
                (omega (arith, late)) r.linked.request_true r.linked.request_given r.linked.server_drained
                (omega (arith, was_request, c1, s2));
            reply = rests ss e.server_now z.server_now e.server r.passes.ks1 r.passes.out_s r.passes.gave_s
                e.client.received r.passes.gives_s (no_reply cs ss client server e f g r q) r.server_fit
                (given-as z.server_now z.server e.server waiting.server_givings waiting.since.server.given fit_s.known)
                (omega (arith, late, a, b)) r.linked.reply_true r.linked.reply_given r.linked.client_drained
                (omega (arith, was_reply, s1, c2));
          }

      rest-late : (n : ℕ) (e w x y : Ends) → Spaced n e w → Round cs ss w x → Round cs ss x y → Waiting z e
          → z.client_now + 4000 ≤ w.client_now → Rest z
      rest-late n e w x y (spaced_none d near) r q waiting late =
          rest-back z d waiting.since (rests-now d x y r q waiting late)
      rest-late n e w x y (spaced_more m d f h o near rest) r q waiting late =
          (let next = first-of m f h x rest r in
          rest-late m f h x y rest r q (waits-on d f next.0 o next.1 waiting) late)

  -- four seconds on
  pub rest_late : (n : ℕ) (e w x y : Ends) → Spaced n e w → Round cs ss w x → Round cs ss x y
      → IsFit e.client_now e.client → IsFit e.server_now e.server → Known e → e.client_now + 4000 ≤ w.client_now
      → Rest e
  rest_late n e w x y rows r q fit_c fit_s known late =
      rest-late e fit_c fit_s known n e w x y rows r q
      (record {
        since = standing-same e;
        client_givings = refl;
        server_givings = refl;
        time = 0;
        client_now = omega arith;
        server_now = omega arith;
      }) late
