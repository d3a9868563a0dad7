-- Two rounds of an arriving request at whole nodes: pieces pass, and then the ACK that tells of them.
use Rattle.std.proofs.Common.{◌≡◌, ◌<◌, ◌≤◌, ◌+◌, ◌-◌, ◌%◌, ◌^◌, ◌++◌, ◌⊎◌, ℕ, suc, Bool, List, [], ◌∷◌, refl, ap, sym}
use Rattle.std.proofs.Common.{subst, ◌∙◌, inl, inr, ⊎_elim, Option, Some, None, arith}
use Rattle.rx_model.specs.declared.answers.Took.{Took}
use Rattle.rx_model.specs.declared.answers.Took.TheVariants as tooks
use Rattle.rx_model.specs.declared.event.Event.TheVariants as events
use Rattle.rx_model.specs.declared.wire.TheConstants.{ACK_REQUESTED}
use Rattle.rx_model.specs.Body.{AckBody}
use Rattle.rx_model.specs.Message.{Message}
use Rattle.rx_model.specs.Spelling.{made, IsPlain}
use Rattle.rx_rules.specs.After.{after}
use Rattle.rx_rules.specs.CallItems.{Ack}
use Rattle.rx_rules.specs.CallLooks.{CallLooks}
use Rattle.rx_rules.specs.Items.{poll_answer}
use Rattle.rx_rules.specs.Judging.{took_of}
use Rattle.rx_rules.specs.Life as lives
use Rattle.rx_rules.specs.Looks.{Looks}
use Rattle.rx_rules.specs.Owing.{Owed, at_once}
use Rattle.rx_rules.specs.Received.{unread_of, used_of}
use Rattle.rx_rules.specs.Sent.{is_marked}
use Rattle.rx_law.specs.Worlds.{Datagram}
use Rattle.rx_jobs.specs.Jobs.{JobState}
use Rattle.rx_plan.specs.Network.{delivers}
use Rattle.rx_plan.specs.Parts.{each}
use Rattle.rx_plan.specs.Rounds.{Polled, polls}
use Rattle.rx_plan.specs.Stages.{InvokedState, Stage}
use Rattle.rx_rounds.proofs.Pair.{message_of, next_of, view_of}
use Rattle.rx_rounds.proofs.Flow.{Marked, Speed, hears_told, next_none, quicker, row_told, told, total, writer_at}
use Rattle.rx_rounds.proofs.Keeper.{drained, keeper_at, marks_none, part_read}
use Rattle.rx_rounds.proofs.Making.{ends_to, then_to}
use Rattle.rx_rounds.proofs.One.OneBurst.{burst, client_with, polls_burst, serving_with}
use Rattle.rx_rounds.proofs.Keys.KeyClass.{index_small}
use Rattle.rx_rounds.proofs.One.OneCall.{Ends, client_place, client_poll, client_setup, datagram, header_of}
use Rattle.rx_rounds.proofs.One.OneCall.{server_place}
use Rattle.rx_rounds.proofs.One.OneCall.{server_poll, server_setup, the_call}
use Rattle.rx_rounds.proofs.One.OneFields.{FitsEnds}
use Rattle.rx_rounds.proofs.Two.{two_as}
use Rattle.rx_rounds.proofs.One.OneSteps.{ack_of, client_heard_ack, client_none, client_took_ack, server_gave}
use Rattle.rx_rounds.proofs.One.OneSteps.{server_none}
use Rattle.rx_rounds.proofs.Rounded.{Made}
use Rattle.rx_rounds.proofs.Two.{AreApart, Two, client_polls_none, delivered_client, host_server, out_to, polls_to}
use Rattle.rx_rounds.proofs.Two.{sent, server_polls_none, server_polls_some}

module _ (x : Ends) (fits : FitsEnds x) (apart : AreApart x) (bytes : List ℕ) (cs : List InvokedState)
    (js : List JobState)
    (a : ℕ) (soft : ℕ → Bool) (hard : Marked a soft) (v : Speed) (some : 0 < v.rtt.rto) where
  abbrev writing : ℕ → ℕ → Looks
  writing given n = client_with x fits apart bytes cs js given (writer_at bytes v hard.h soft n)

  abbrev keeping_with : ℕ → List ℕ → Option Owed → ℕ → ℕ → Looks
  keeping_with given read o p n = serving_with x fits apart bytes cs js a soft hard v some given lives.Accepted
      (keeper_at bytes read o p n)

  -- ---- the polls of a round in which pieces pass: the server owes nothing yet

  calm_none : (given : ℕ) (read : List ℕ) (o : Option Owed) (p n : ℕ)
      → (o ≡ None) ⊎ ((w : Owed) × (o ≡ Some w) × (w.rank ≡ 100))
      → poll_answer (server_setup x) (keeping_with given read o p n) ≡ None
  calm_none given read o p n calm =
      server_poll x (the_call x ∷ []) 0 0 given lives.Accepted (keeper_at bytes read o p n) refl refl refl
      ∙ ap (datagram (server_place x 0) x.client (record { looks = keeper_at bytes read o p n; given = given }))
      (quiet calm)
    where
      quiet : (o ≡ None) ⊎ ((w : Owed) × (o ≡ Some w) × (w.rank ≡ 100))
          → next_of (server_place x 0) (keeper_at bytes read o p n) ≡ None
      quiet (inl none) = subst (λ (q : Option Owed). next_of (server_place x 0) (keeper_at bytes read q p n) ≡ None)
          (sym none) refl
      quiet (inr later) = subst (λ (q : Option Owed). next_of (server_place x 0) (keeper_at bytes read q p n) ≡ None)
          (sym later.1) (rw later.2 refl)

  pub polls_pieces : (e given gs : ℕ) (read : List ℕ) (o : Option Owed) (p : ℕ) (s : Stage) (q : Polled)
      → (o ≡ None) ⊎ ((w : Owed) × (o ≡ Some w) × (w.rank ≡ 100))
      → a + e ≤ total bytes → e ≤ v.window → a + e ≤ hard.h + 32 → suc (a + e) < 2 ^ 32 → (total bytes ≡ a + e)
      ⊎ (v.window ≤ e)
      → Two x (keeping_with gs read o p a) (writing given a) cs js s → Made polls s q
      → (q.given ≡ burst x fits apart bytes cs js a soft hard v some e a given) × Two x (keeping_with gs read o p a)
      (writing (given + e) (a + e)) cs js q.stage
  polls_pieces e given gs read o p s q calm below slow few small stop two made_ =
      let ls : Looks = keeping_with gs read o p a in
      let m = polls_to x ls (writing given a) cs js s q made_.0 two made_.1 in
      let b = polls_burst x fits apart bytes cs js a soft hard v some e 0 a given ls s m.0.stage [] m.2
      (omega arith) below (omega arith) (omega arith) small
      (⊎_elim (λ (h : total bytes ≡ a + e). inl h) (λ (h : v.window ≤ e). inr (omega arith)) stop) two m.4 in
      let c = out_to 0 x.server m.0 q m.1 (host_server x ls (writing (given + e) (a + e)) cs js m.0.stage b.1) m.5 in
      let d = server_polls_none x ls (writing (given + e) (a + e)) cs js m.0.stage q.stage x.server m.0.given c.0 b.1
      (calm_none gs read o p a calm) c.2 in (
        c.1 ∙ d.0 ∙ m.3 ∙ b.0,
        two_as x (after (server_setup x) (events.Polled None) ls) (writing (given + e) (a + e)) ls
            (writing (given + e) (a + e)) cs js q.stage q.stage
            (server_none x (the_call x ∷ []) 0 0 gs lives.Accepted (keeper_at bytes read o p a) refl) refl refl d.1,
      )

  -- ---- the polls of a round in which the ACK passes

  -- what the server tells where it kept n pieces and its reader read all of them
  abbrev told_of : ℕ → ℕ → ℕ → AckBody
  told_of n p serial = told bytes a soft hard (header_of x) v some n p serial ACK_REQUESTED

  plain_ack : (gs n p serial : ℕ) → n < 2 ^ 32 - 1 → p < 2 ^ 32 → serial < 2 ^ 32
      → IsPlain (ack_of x (suc gs % 2 ^ 32) (told_of n p serial))
  plain_ack gs n p serial small low few =
      record {
        epoch = fits.epoch;
        cid = omega arith;
        number = fits.first;
        seq = omega arith;
        serial = omega arith;
        flags = omega arith;
        status = refl;
        index = index_small x.key;
        spare = refl;
        service = fits.service;
        body = record {
          first = omega arith;
          previous = low;
          serial = few;
          reason_low = omega arith;
          reason_high = omega arith;
          marks = omega arith;
          window = omega arith;
        };
      }

  ack_is : (gs p n serial : ℕ) (read : List ℕ) → n < total bytes → unread_of (part_read bytes read p n) ≡ []
      → message_of (server_place x 0)
      (record { looks = keeper_at bytes read (at_once ACK_REQUESTED serial) p n; given = gs })
      (Ack ACK_REQUESTED serial)
      ≡ ack_of x (suc gs % 2 ^ 32) (told_of n p serial)
  ack_is gs p n serial read below none =
      let all : used_of (part_read bytes read p n) ≡ n = drained bytes read p n below none in
      rw (marks_none bytes read p n all) (rw all refl)

  -- the client is silent, since its window is full or all is given; the server gives its ACK
  pub polls_ack : (d n given gs p serial : ℕ) (read : List ℕ) (s : Stage) (q : Polled)
      → n ≡ a + d → (total bytes ≤ n) ⊎ (v.window ≤ d) → n < total bytes → n < 2 ^ 32 - 1 → p < 2 ^ 32 → serial < 2 ^ 32
      → unread_of (part_read bytes read p n) ≡ []
      → Two x (keeping_with gs read (at_once ACK_REQUESTED serial) p n) (writing given n) cs js s → Made polls s q
      → (q.given ≡ sent x.server x.client (made (ack_of x (suc gs % 2 ^ 32) (told_of n p serial))) ∷ [])
      × Two x (keeping_with (suc gs) read None p n) (writing given n) cs js q.stage
  polls_ack d n given gs p serial read s q whole stop below small low few none two made_ =
      let ls : Looks = keeping_with gs read (at_once ACK_REQUESTED serial) p n in
      let lc : Looks = writing given n in
      let k : CallLooks = keeper_at bytes read (at_once ACK_REQUESTED serial) p n in
      let m : Message = message_of (server_place x 0) (record { looks = k; given = gs }) (Ack ACK_REQUESTED serial) in
      let is : m ≡ ack_of x (suc gs % 2 ^ 32) (told_of n p serial) = ack_is gs p n serial read below none in
      let r = polls_to x ls lc cs js s q made_.0 two made_.1 in
      let silent : poll_answer (client_setup x) lc ≡ None =
      client_poll x 0 0 given (writer_at bytes v hard.h soft n) refl
      ∙ ap (datagram (client_place x 0) x.server (record { looks = writer_at bytes v hard.h soft n; given = given }))
      (next_none bytes a soft hard (header_of x) v some n d whole stop) in
      let c = client_polls_none x ls lc cs js s r.0.stage x.client [] r.2 two silent r.4 in
      let two1 : Two x ls lc cs js r.0.stage = two_as x ls (after (client_setup x) (events.Polled None) lc) ls lc cs
      js r.0.stage r.0.stage refl (client_none x 0 0 given (writer_at bytes v hard.h soft n) refl) refl c.1 in
      let o = out_to 0 x.server r.0 q r.1 (host_server x ls lc cs js r.0.stage two1) r.5 in
      let gives : poll_answer (server_setup x) ls ≡ Some (x.client, made m) = server_poll x
      (the_call x ∷ []) 0 0 gs lives.Accepted k refl refl refl in
      let e = server_polls_some x ls lc cs js r.0.stage q.stage x.server x.client (made m) r.0.given o.0 two1 gives
      o.2 in
      let l2 : Looks = keeping_with (suc gs) read None p n in
      let two2 : Two x l2 lc cs js e.0 = two_as x
      (after (server_setup x) (events.Polled (Some (x.client, made m))) ls) lc l2 lc cs js e.0 e.0
      (server_gave x (the_call x ∷ []) 0 0 gs lives.Accepted k (Ack ACK_REQUESTED serial) refl refl
      (subst IsPlain (sym is) (plain_ack gs n p serial small low few))) refl refl e.1 in
      let over : poll_answer (server_setup x) l2 ≡ None = calm_none (suc gs) read None p n (inl refl) in
      let h = server_polls_none x l2 lc cs js e.0 q.stage x.server (r.0.given ++ sent x.server x.client (made m) ∷ [])
      o.0 two2 over e.2 in
      let start : r.0.given ≡ [] = r.3 ∙ c.0 in (
        o.1 ∙ h.0 ∙ ap (λ (ds : List Datagram). ds ++ sent x.server x.client (made m) ∷ []) start
            ∙ ap (λ (f : Message). sent x.server x.client (made f) ∷ []) is,
        two_as x (after (server_setup x) (events.Polled None) l2) lc l2 lc cs js q.stage q.stage
            (server_none x (the_call x ∷ []) 0 0 (suc gs) lives.Accepted (keeper_at bytes read None p n) refl) refl
            refl h.1,
      )

  -- the client hears it: all that it gave is hard acknowledged
  pub hears_ack : (n given gs p serial : ℕ) (ls : Looks) (s t : Stage) → a ≤ n → n < 2 ^ 32 - 1 → p < 2 ^ 32
      → serial < 2 ^ 32
      → Two x ls (writing given n) cs js s
      → Made (each delivers (sent x.server x.client (made (ack_of x (suc gs % 2 ^ 32) (told_of n p serial))) ∷ [])) s t
      → Two x ls (client_with x fits apart bytes cs js given
      (writer_at bytes (quicker bytes a soft hard (header_of x) v some n n) n (is_marked (n + 1) []) n)) cs js t
  hears_ack n given gs p serial ls s t within small low few two made_ =
      let m : Message = ack_of x (suc gs % 2 ^ 32) (told_of n p serial) in
      let lc : Looks = writing given n in
      let k : CallLooks = writer_at bytes v hard.h soft n in
      let b = then_to (delivers (sent x.server x.client (made m)) s) (each delivers []) made_.0 t made_.1 in
      let d = delivered_client x ls lc cs js s b.between x.server (made m) b.front apart two b.made in
      let plain : IsPlain m = plain_ack gs n p serial small low few in
      let one : 1 < x.first + 1 = (let first : 1 ≤ x.first = fits.some in omega arith) in
      let heard : took_of (client_setup x) lc x.server (made m) ≡ tooks.Heard =
      client_took_ack x [] 0 0 given k (suc gs % 2 ^ 32) (told_of n p serial) one plain
      ∙ row_told bytes a soft hard (header_of x) v some (header_of x) n n p (suc gs % 2 ^ 32) serial ACK_REQUESTED
      (omega arith) in
      let next : after (client_setup x)
      (events.Taken x.server (made m) (took_of (client_setup x) lc x.server (made m))) lc
      ≡ client_with x fits apart bytes cs js given
      (writer_at bytes (quicker bytes a soft hard (header_of x) v some n n) n (is_marked (n + 1) []) n) =
      ap (λ (got : Took). after (client_setup x) (events.Taken x.server (made m) got) lc) heard
      ∙ client_heard_ack x [] 0 0 given k (suc gs % 2 ^ 32) (told_of n p serial) plain
      ∙ ap (client_with x fits apart bytes cs js given)
      (hears_told bytes a soft hard (header_of x) v some (view_of (client_place x 0) k) (header_of x) n n p
      (suc gs % 2 ^ 32) serial ACK_REQUESTED refl within refl) in
      two_as x ls _ ls _ cs js b.between t refl next (sym (ends_to b.between t b.rest b.goes)) d
