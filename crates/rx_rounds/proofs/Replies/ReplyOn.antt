-- A round of a reply behind which its caller reads on: the stage behind it, where an ACK came or pieces passed.
use Rattle.std.proofs.Common.{◌≡◌, ◌<◌, ◌≤◌, ◌⊎◌, inl, inr, ⊎_elim, ◌+◌, ◌-◌, ◌*◌, ◌^◌, ℕ}
use Rattle.std.proofs.Common.{true, false, List, [], ◌∷◌, refl, ap, sym, subst, ◌∙◌, Option, Some, None}
use Rattle.std.proofs.Common.{length, arith}
use Rattle.std.proofs.lemmas.Bool.{both_ways, cases_lt}
use Rattle.std.specs.Prelude.{IfSome, IsSomeAnd}
use Rattle.rx_model.specs.Message.{Message}
use Rattle.rx_rules.specs.CallLooks.{CallLooks}
use Rattle.rx_rules.specs.Owing.{Owed}
use Rattle.rx_rules.specs.Received.{Received, is_complete, marks_of, unread_of, used_of}
use Rattle.rx_asks.specs.declared.ask.Phase.TheVariants as phases
use Rattle.rx_jobs.specs.Handlers.{Handlers}
use Rattle.rx_plan.specs.Stages.{Stage}
use Rattle.rx_rounds.proofs.Between.{HasAll, HasCome, OnTime, Owing, Replying, caller_with, client_at, server_at}
use Rattle.rx_rounds.proofs.Flow.{total}
use Rattle.rx_rounds.proofs.Keeper.{part_read}
use Rattle.rx_rounds.proofs.One.OneCall.{Ends}
use Rattle.rx_rounds.proofs.One.OneFields.{FitsEnds}
use Rattle.rx_rounds.proofs.One.OneRequest.{complete_whole}
use Rattle.rx_rounds.proofs.One.OneWay.{IsOwedBy, IsPlainOwed, Reads}
use Rattle.rx_rounds.proofs.Reading.ReadOn.{IsRead, read_out}
use Rattle.rx_rounds.proofs.Rounded.{RoundMade, caller_at}
use Rattle.rx_rounds.proofs.Serving.SaidMore.{sends_same}
use Rattle.rx_rounds.proofs.Two.{AreApart, Two}
use Rattle.rx_rounds.proofs.Replies.ReplyTurn.{p, o, soon}
use Rattle.rx_rounds.proofs.Replies.ReplyTurn.{came, k1, last, last_more, last_within}
use Rattle.rx_rounds.proofs.Replies.ReplyTurn.{wrote, k2, ls2, can_go, heard_p, owing2, plain2}
use Rattle.rx_rounds.proofs.Replies.ReplyTurn.{spoke_p, acked_all, split2, down2, more2}
use Rattle.rx_rounds.proofs.Replies.ReplyTurn.{loud}

-- how a round went: closer to the end, or at it
pub data ReplyNext (x : Ends) (g : Handlers) (request reply : List ℕ) (call line now a n q : ℕ) (t : Stage)
    : Type 0 where
  comes_on : (now2 a2 n2 q2 : ℕ) → now ≤ now2 → now2 ≤ now + 2000 → 2 * (a + n) + q2 + 1 ≤ 2 * (a2 + n2) + q
      → Replying x g request reply call line now2 a2 n2 q2 t → ReplyNext x g request reply call line now a n q t
  has_come : HasCome x g request call line t → ReplyNext x g request reply call line now a n q t

module _ (x : Ends) (g : Handlers) (fits : FitsEnds x) (apart : AreApart x) (request reply : List ℕ) (call line : ℕ)
    (few1 : total request < 2 ^ 32 - 1) (now a n q : ℕ) (s t : Stage)
    (r : Replying x g request reply call line now a n q s) (m : RoundMade g s t) (early : now + 2000 < 2 ^ 62) where
  -- ---- the caller reads on

  module _ (k3 : CallLooks) (read : List ℕ)
      (h : IsRead reply now (came x g fits apart request reply call line few1 now a n q s t r m early).got.previous
      (last x g fits apart request reply call line few1 now a n q s t r m early)
      (came x g fits apart request reply call line few1 now a n q s t r m early).l read k3)
      (none3 : unread_of k3.received ≡ []) (part3 : is_complete k3.received ≡ false) where
    pub received3 : k3.received ≡ part_read reply read (came x g fits apart request reply call line few1 now a n q s t r
        m early).got.previous (last x g fits apart request reply call line few1 now a n q s t r m early)
    received3 = ap (λ (i : CallLooks). i.received) h.is

    pub less3 : (last x g fits apart request reply call line few1 now a n q s t r m early) < total reply
    less3 = elim (cases_lt (last x g fits apart request reply call line few1 now a n q s t r m early) (total reply)) as
        (λ w. (last x g fits apart request reply call line few1 now a n q s t r m early) < total reply) [
          | inl below ↦ below
          | inr all ↦ absurd (both_ways
              (is_complete (part_read reply read (came x g fits apart request reply call line few1 now a n q s t r m
              early).got.previous (last x g fits apart request reply call line few1 now a n q s t r m early)))
              (ap (λ (v : Received). is_complete v) (sym received3) ∙ part3)
              (complete_whole reply read
              (came x g fits apart request reply call line few1 now a n q s t r m early).got.previous
              (last x g fits apart request reply call line few1 now a n q s t r m early) (omega (
                arith,
                (last_within x g fits apart request reply call line few1 now a n q s t r m early),
              )) (omega arith)))
        ]

    pub plain3 : IfSome k3.owed_ack IsPlainOwed
    plain3 = subst (λ (w : Option Owed). IfSome w IsPlainOwed) (sym (ap (λ (i : CallLooks). i.owed_ack) h.is))
        (h.plain (came x g fits apart request reply call line few1 now a n q s t r m early).got.plain)

    pub reads3 : Reads reply (last x g fits apart request reply call line few1 now a n q s t r m early) k3
    reads3 =
        record {
          read = read;
          previous = (came x g fits apart request reply call line few1 now a n q s t r m early).got.previous;
          kept = received3;
          low = (came x g fits apart request reply call line few1 now a n q s t r m early).got.low;
          short = less3;
          exact = read_out reply now
              (came x g fits apart request reply call line few1 now a n q s t r m early).got.previous
              (last x g fits apart request reply call line few1 now a n q s t r m early)
              (came x g fits apart request reply call line few1 now a n q s t r m early).l read k3 h none3;
          out = none3;
          plain = plain3;
        }

    pub heard3 : (k3.heard ≡ now)
        ⊎ ((k3.heard ≡ r.kc.heard) × (n ≡ (last x g fits apart request reply call line few1 now a n q s t r m early)))
    heard3 = ⊎_elim (λ (w : (came x g fits apart request reply call line few1 now a n q s t r m early).l.heard ≡ now).
        inl (ap (λ (i : CallLooks). i.heard) h.is ∙ w))
        (λ (w : ((came x g fits apart request reply call line few1 now a n q s t r m early).l.heard ≡
        (p x g fits apart request reply call line few1 now a n q s t r m early).behind.looks.heard)
        × (n ≡ (last x g fits apart request reply call line few1 now a n q s t r m early))).
        inr (
          ap (λ (i : CallLooks). i.heard) h.is ∙ w.0 ∙ (heard_p x g fits apart request reply call line few1 now a n q
              s t r m early),
          w.1,
        )) (came x g fits apart request reply call line few1 now a n q s t r m early).got.heard

    pub spoke3 : k3.spoke ≡ (p x g fits apart request reply call line few1 now a n q s t r m early).behind.looks.spoke
    spoke3 = ap (λ (i : CallLooks). i.spoke) h.is
        ∙ (came x g fits apart request reply call line few1 now a n q s t r m early).got.spoke

    pub spoken3 : k3.spoke ≤ now
    spoken3 = ⊎_elim (λ (w : (p x g fits apart request reply call line few1 now a n q s t r m early).behind.looks.spoke
        ≡ now). omega (arith, spoke3))
        (λ (w : ((p x g fits apart request reply call line few1 now a n q s t r m early).behind.looks.spoke ≡
        r.kc.spoke) × ((p x g fits apart request reply call line few1 now a n q s t r m early).acks ≡ [])).
        (let old : r.kc.spoke ≤ now = r.spoken in
        let same : (p x g fits apart request reply call line few1 now a n q s t r m early).behind.looks.spoke ≡
        r.kc.spoke = w.0 in omega (arith, spoke3)))
        (spoke_p x g fits apart request reply call line few1 now a n q s t r m early)

    -- what it owed before it read it owes still
    pub owes3 : (b : ℕ) → IsOwedBy b (came x g fits apart request reply call line few1 now a n q s t r m early).l
        → IsOwedBy b k3
    owes3 b was = subst (λ (w : Option Owed). IsSomeAnd w (λ z. z.rank ≤ b))
        (sym (ap (λ (i : CallLooks). i.owed_ack) h.is))
        (of (came x g fits apart request reply call line few1 now a n q s t r m early).l.owed_ack refl was)
      where
        of : (w : Option Owed) → (came x g fits apart request reply call line few1 now a n q s t r m early).l.owed_ack ≡
            w → IsSomeAnd w (λ z. z.rank ≤ b) → IsSomeAnd h.owed (λ z. z.rank ≤ b)
        of None is some = absurd some
        of (Some z) is some = subst (λ (v : Option Owed). IsSomeAnd v (λ y. y.rank ≤ b)) (sym (h.stays z is)) some

    pub has3 : HasAll request k3 (k2 x g fits apart request reply call line few1 now a n q s t r m early)
    has3 =
        record {
          tells = record {
            used = ap (λ (v : Received). used_of v)
                (came x g fits apart request reply call line few1 now a n q s t r m early).received ∙ r.has.tells.used;
            marks = ap (λ (v : Received). marks_of v)
                (came x g fits apart request reply call line few1 now a n q s t r m early).received ∙ r.has.tells.marks;
            previous = subst (λ (v : Received). v.previous < 2 ^ 32) (sym (came x g fits apart request reply call line
                few1 now a n q s t r m early).received) r.has.tells.previous;
            plain = (plain2 x g fits apart request reply call line few1 now a n q s t r m early);
          };
          ended = ap (λ (v : Received). v.ended)
              (came x g fits apart request reply call line few1 now a n q s t r m early).received ∙ r.has.ended;
          a = (came x g fits apart request reply call line few1 now a n q s t r m early).got.all.acked;
          since = (came x g fits apart request reply call line few1 now a n q s t r m early).got.all.since;
          all = sends_same request
              (came x g fits apart request reply call line few1 now a n q s t r m early).got.all.since
              (came x g fits apart request reply call line few1 now a n q s t r m early).got.all.acked (total request)
              (came x g fits apart request reply call line few1 now a n q s t r m early).l k3
              (ap (λ (i : CallLooks). i.sent) h.is) (ap (λ (i : CallLooks). i.rtt) h.is)
              (ap (λ (i : CallLooks). i.cwnd) h.is)
              (came x g fits apart request reply call line few1 now a n q s t r m early).got.all.sends;
          shut = ap (λ (i : CallLooks). i.sent.shut) h.is
              ∙ (came x g fits apart request reply call line few1 now a n q s t r m early).got.all.shut;
        }

    -- the stage behind it
    pub stage_on : (now2 q2 more : ℕ)
        → Two x (server_at x (o x g fits apart request reply call line few1 now a n q s t r m early).behind.given
        (came x g fits apart request reply call line few1 now a n q s t r m early).used_server now2
        (wrote x g fits apart request reply call line few1 now a n q s t r m early).life
        (k2 x g fits apart request reply call line few1 now a n q s t r m early))
        (client_at x (p x g fits apart request reply call line few1 now a n q s t r m early).behind.given
        (came x g fits apart request reply call line few1 now a n q s t r m early).used_client
        (came x g fits apart request reply call line few1 now a n q s t r m early).names now2 k3)
        (caller_at call line (caller_with x [] true read phases.Resting) ∷ [])
        (wrote x g fits apart request reply call line few1 now a n q s t r m early).jobs t
        → OnTime 4000 (came x g fits apart request reply call line few1 now a n q s t r m early).since1 now2
        (came x g fits apart request reply call line few1 now a n q s t r m early).a1
        (last x g fits apart request reply call line few1 now a n q s t r m early) k3
        (k2 x g fits apart request reply call line few1 now a n q s t r m early) k3 → k3.spoke ≤ now2
        → IfSome k3.owed_ack (λ z. z.rank ≤ now2 + 100) → Owing now2
        (k2 x g fits apart request reply call line few1 now a n q s t r m early).owed_ack more → more ≤ q2
        → (q2 ≤ more → ((came x g fits apart request reply call line few1 now a n q s t r m early).a1 <
        (last x g fits apart request reply call line few1 now a n q s t r m early)) × IsOwedBy now2 k3)
        → Replying x g request reply call line now2 (came x g fits apart request reply call line few1 now a n q s t r m
        early).a1 (last x g fits apart request reply call line few1 now a n q s t r m early) q2 t
    unfolding has3
    stage_on now2 q2 more two time spoken late passes within due =
        record {
          kc = k3;
          ks = (k2 x g fits apart request reply call line few1 now a n q s t r m early);
          given_client = (p x g fits apart request reply call line few1 now a n q s t r m early).behind.given;
          used_client = (came x g fits apart request reply call line few1 now a n q s t r m early).used_client;
          given_server = (o x g fits apart request reply call line few1 now a n q s t r m early).behind.given;
          used_server = (came x g fits apart request reply call line few1 now a n q s t r m early).used_server;
          firsts = (came x g fits apart request reply call line few1 now a n q s t r m early).names;
          phase = phases.Resting;
          life = (wrote x g fits apart request reply call line few1 now a n q s t r m early).life;
          jobs = (wrote x g fits apart request reply call line few1 now a n q s t r m early).jobs;
          rest = (wrote x g fits apart request reply call line few1 now a n q s t r m early).rest;
          two = subst (λ (ys : List ℕ). Two x
              (server_at x (o x g fits apart request reply call line few1 now a n q s t r m early).behind.given
              (came x g fits apart request reply call line few1 now a n q s t r m early).used_server now2
              (wrote x g fits apart request reply call line few1 now a n q s t r m early).life
              (k2 x g fits apart request reply call line few1 now a n q s t r m early))
              (client_at x (p x g fits apart request reply call line few1 now a n q s t r m early).behind.given
              (came x g fits apart request reply call line few1 now a n q s t r m early).used_client
              (came x g fits apart request reply call line few1 now a n q s t r m early).names now2 k3)
              (caller_at call line (caller_with x [] true ys phases.Resting) ∷ [])
              (wrote x g fits apart request reply call line few1 now a n q s t r m early).jobs t)
              (sym (ap (λ (v : Received). v.read) received3)) two;
          served = r.served;
          has = has3;
          job = (wrote x g fits apart request reply call line few1 now a n q s t r m early).job;
          since = (came x g fits apart request reply call line few1 now a n q s t r m early).since1;
          down = (down2 x g fits apart request reply call line few1 now a n q s t r m early);
          writes = (split2 x g fits apart request reply call line few1 now a n q s t r m early);
          out = (wrote x g fits apart request reply call line few1 now a n q s t r m early).full;
          more = (more2 x g fits apart request reply call line few1 now a n q s t r m early) less3;
          reads = reads3;
          fits = r.fits;
          time = time;
          spoken = spoken;
          late = late;
          owing = more;
          passes = passes;
          within = within;
          due = due;
          acks = inl (acked_all x g fits apart request reply call line few1 now a n q s t r m early);
        }

    pub late3 : (now2 : ℕ) → now ≤ now2 → IfSome k3.owed_ack (λ z. z.rank ≤ now2 + 100)
    late3 now2 from = subst (λ (w : Option Owed). IfSome w (λ z. z.rank ≤ now2 + 100))
        (sym (ap (λ (i : CallLooks). i.owed_ack) h.is))
        (of h.owed (h.late (came x g fits apart request reply call line few1 now a n q s t r m early).got.late))
      where
        of : (w : Option Owed) → IfSome w (λ z. z.rank ≤ now + 100) → IfSome w (λ z. z.rank ≤ now2 + 100)
        of None low = tt
        of (Some z) low = omega arith

    -- an ACK (came x g fits apart request reply call line few1 now a n q s t r m early), or pieces passed: no clock
    -- moved
    pub loud_on : Two x (ls2 x g fits apart request reply call line few1 now a n q s t r m early)
        (client_at x (p x g fits apart request reply call line few1 now a n q s t r m early).behind.given
        (came x g fits apart request reply call line few1 now a n q s t r m early).used_client
        (came x g fits apart request reply call line few1 now a n q s t r m early).names now k3)
        (caller_at call line (caller_with x [] true read phases.Resting) ∷ [])
        (wrote x g fits apart request reply call line few1 now a n q s t r m early).jobs m.called
        → 1 ≤ (length (p x g fits apart request reply call line few1 now a n q s t r m early).acks + length
        (o x g fits apart request reply call line few1 now a n q s t r m early).pieces.messages) + length
        (o x g fits apart request reply call line few1 now a n q s t r m early).acks
        → (came x g fits apart request reply call line few1 now a n q s t r m early).since1 ≤ now
        → now ≤ (came x g fits apart request reply call line few1 now a n q s t r m early).since1 + 100
        → (came x g fits apart request reply call line few1 now a n q s t r m early).since1 ≤ k3.heard + 4000
        → (came x g fits apart request reply call line few1 now a n q s t r m early).since1 ≤
        (k2 x g fits apart request reply call line few1 now a n q s t r m early).heard + 1000
        → (came x g fits apart request reply call line few1 now a n q s t r m early).since1 ≤ k3.spoke + 1000
        → ((came x g fits apart request reply call line few1 now a n q s t r m early).a1 ≡
        (last x g fits apart request reply call line few1 now a n q s t r m early)
        → (came x g fits apart request reply call line few1 now a n q s t r m early).since1 ≡ now)
        → ((came x g fits apart request reply call line few1 now a n q s t r m early).a1 <
        (last x g fits apart request reply call line few1 now a n q s t r m early)
        → IsOwedBy ((came x g fits apart request reply call line few1 now a n q s t r m early).since1 + 100) k3)
        → ((came x g fits apart request reply call line few1 now a n q s t r m early).a1 <
        (last x g fits apart request reply call line few1 now a n q s t r m early)
        → (came x g fits apart request reply call line few1 now a n q s t r m early).since1 ≤ k3.heard)
        → a + n + 1 ≤ (came x g fits apart request reply call line few1 now a n q s t r m early).a1 +
        (last x g fits apart request reply call line few1 now a n q s t r m early)
        → ReplyNext x g request reply call line now a n q t
    loud_on two some past_ soon_ client_ server_ spoke_ rests_ owes_ came_ further =
        let more = (owing2 x g fits apart request reply call line few1 now a n q s t r m early) in let within =
        r.within in
        comes_on now (came x g fits apart request reply call line few1 now a n q s t r m early).a1
        (last x g fits apart request reply call line few1 now a n q s t r m early) (more.0 + 1) (omega arith)
        (omega arith) (omega (arith, more.1))
        (stage_on now (more.0 + 1) more.0
        (subst (λ (u : Stage). Two x (ls2 x g fits apart request reply call line few1 now a n q s t r m early)
        (client_at x (p x g fits apart request reply call line few1 now a n q s t r m early).behind.given
        (came x g fits apart request reply call line few1 now a n q s t r m early).used_client
        (came x g fits apart request reply call line few1 now a n q s t r m early).names now k3)
        (caller_at call line (caller_with x [] true read phases.Resting) ∷ [])
        (wrote x g fits apart request reply call line few1 now a n q s t r m early).jobs u)
        (sym ((loud x g fits apart request reply call line few1 now a n q s t r m early) some)) two)
        (record {
          touch = record { client = client_; server = server_; spoke = spoke_ };
          past = past_;
          soon = soon_;
          rests = rests_;
          owes = owes_;
          came = came_;
        }) spoken3 (late3 now (omega arith)) more.2 (omega arith) (λ is. absurd (omega arith)))

    -- the ACK (came x g fits apart request reply call line few1 now a n q s t r m early)
    pub told_on : Two x (ls2 x g fits apart request reply call line few1 now a n q s t r m early)
        (client_at x (p x g fits apart request reply call line few1 now a n q s t r m early).behind.given
        (came x g fits apart request reply call line few1 now a n q s t r m early).used_client
        (came x g fits apart request reply call line few1 now a n q s t r m early).names now k3)
        (caller_at call line (caller_with x [] true read phases.Resting) ∷ [])
        (wrote x g fits apart request reply call line few1 now a n q s t r m early).jobs m.called
        → 1 ≤ length (p x g fits apart request reply call line few1 now a n q s t r m early).acks
        → (came x g fits apart request reply call line few1 now a n q s t r m early).a1 ≡ n
        → (k1 x g fits apart request reply call line few1 now a n q s t r m early).heard ≡ now
        → (came x g fits apart request reply call line few1 now a n q s t r m early).since1 ≡ now
        → ReplyNext x g request reply call line now a n q t
    told_on two some is_a heard is_since =
        let known : a ≤ n = r.down.known in
        let spoke_now : k3.spoke ≡ now = spoke3 ∙ ⊎_elim (λ
        (w : (p x g fits apart request reply call line few1 now a n q s t r m early).behind.looks.spoke ≡ now). w)
        (λ (w : ((p x g fits apart request reply call line few1 now a n q s t r m early).behind.looks.spoke ≡
        r.kc.spoke) × ((p x g fits apart request reply call line few1 now a n q s t r m early).acks ≡ [])).
        absurd (let empty : length (p x g fits apart request reply call line few1 now a n q s t r m early).acks ≡ 0 = ap
        (λ (ms : List Message). length ms) w.1 in omega arith))
        (spoke_p x g fits apart request reply call line few1 now a n q s t r m early) in
        loud_on two (omega arith) (omega arith) (omega arith) heard_near (omega arith) (omega arith) (λ same. is_since)
        (λ less. owes3 ((came x g fits apart request reply call line few1 now a n q s t r m early).since1 + 100)
        (subst (λ (b : ℕ). IsOwedBy (b + 100)
        (came x g fits apart request reply call line few1 now a n q s t r m early).l) (sym is_since)
        ((came x g fits apart request reply call line few1 now a n q s t r m early).got.owes (omega arith)))) heard_now
        further
      where
        heard_near : (came x g fits apart request reply call line few1 now a n q s t r m early).since1 ≤ k3.heard + 4000
        heard_near = ⊎_elim (λ (w : k3.heard ≡ now). omega arith)
            (λ (w : (k3.heard ≡ r.kc.heard)
            × (n ≡ (last x g fits apart request reply call line few1 now a n q s t r m early))).
            (let flying : a < n = flying_where w.1 in let old : r.since ≤ r.kc.heard = r.time.came flying in
            let same : k3.heard ≡ r.kc.heard = w.0 in omega
            (arith, (soon x g fits apart request reply call line few1 now a n q s t r m early)))) heard3
          where
            flying_where : n ≡ (last x g fits apart request reply call line few1 now a n q s t r m early) → a < n
            flying_where same = elim (cases_lt a n) as (λ w. a < n) [
              | inl less ↦ less
              | inr rests ↦ absurd
                  (let known : a ≤ n = r.down.known in let go : n <
                  (last x g fits apart request reply call line few1 now a n q s t r m early) =
                  (can_go x g fits apart request reply call line few1 now a n q s t r m early) (omega arith) in
                  omega arith)
            ]

        heard_now : (came x g fits apart request reply call line few1 now a n q s t r m early).a1 <
            (last x g fits apart request reply call line few1 now a n q s t r m early)
            → (came x g fits apart request reply call line few1 now a n q s t r m early).since1 ≤ k3.heard
        heard_now less = ⊎_elim (λ (w : k3.heard ≡ now). omega arith)
            (λ (w : (k3.heard ≡ r.kc.heard)
            × (n ≡ (last x g fits apart request reply call line few1 now a n q s t r m early))). absurd
            (let same : n ≡ (last x g fits apart request reply call line few1 now a n q s t r m early) = w.1 in
            omega arith)) heard3

        further : a + n + 1 ≤ (came x g fits apart request reply call line few1 now a n q s t r m early).a1 +
            (last x g fits apart request reply call line few1 now a n q s t r m early)
        further = elim (cases_lt a n) as (λ w. a + n + 1 ≤ (came x g fits apart request reply call line few1 now a n q s
            t r m early).a1 + (last x g fits apart request reply call line few1 now a n q s t r m early)) [
              | inl less ↦ omega (
                arith,
                (last_more x g fits apart request reply call line few1 now a n q s t r m early),
              )
              | inr rests ↦ (let known : a ≤ n = r.down.known in let go : n <
                  (last x g fits apart request reply call line few1 now a n q s t r m early) =
                  (can_go x g fits apart request reply call line few1 now a n q s t r m early) (omega arith) in omega
                  arith)
            ]
