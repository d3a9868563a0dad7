-- The second round: the first pieces come to a server that knows nothing of their call, and it waits for a dispatcher.
use Rattle.std.proofs.Common.{◌≡◌, ◌<◌, ◌≤◌, ⊎_elim, ◌+◌, ◌++◌, ◌==◌, ℕ, suc, true, false, List, []}
use Rattle.std.proofs.Common.{◌∷◌, refl, ap, sym, subst, ◌∙◌, Option, Some, None, length, arith, append-nil, is_some}
use Rattle.std.proofs.Common.{Bool}
use Rattle.std.specs.Prelude.{IfSome}
use Rattle.rx_model.specs.declared.answers.Took.{Took}
use Rattle.rx_model.specs.declared.answers.Took.TheVariants as tooks
use Rattle.rx_model.specs.declared.event.Event.TheVariants as events
use Rattle.rx_model.specs.declared.wire.TheConstants.{CLIENT_INITIATED}
use Rattle.rx_model.specs.Body.{Body}
use Rattle.rx_model.specs.Body as bodies
use Rattle.rx_model.specs.Message.{Message, has_flag}
use Rattle.rx_model.specs.Spelling.{made, IsPlain}
use Rattle.rx_rules.specs.After.{after}
use Rattle.rx_rules.specs.CallItems.{can_give}
use Rattle.rx_rules.specs.CallLooks.{CallLooks, after_taken}
use Rattle.rx_rules.specs.Judging.{took_of}
use Rattle.rx_rules.specs.Life as lives
use Rattle.rx_rules.specs.Looks.{Looks}
use Rattle.rx_rules.specs.Owing.{Owed}
use Rattle.rx_rules.specs.Received.{nothing_received}
use Rattle.rx_rules.specs.Sent.{counting_of}
use Rattle.rx_asks.specs.declared.ask.Phase.TheVariants as phases
use Rattle.rx_jobs.specs.Handlers.{Handlers}
use Rattle.rx_law.specs.Worlds.{Datagram}
use Rattle.rx_plan.specs.Network.{delivers}
use Rattle.rx_plan.specs.Parts.{To, each}
use Rattle.rx_plan.specs.Stages.{InvokedState, Stage}
use Rattle.rx_rounds.proofs.Arriving.ArrivingRound.{tells_none}
use Rattle.rx_rounds.proofs.Between.{caller_with, client_at}
use Rattle.rx_rounds.proofs.Exchange.{Burst, a_piece, burst_some, no_piece, piece_with}
use Rattle.rx_rounds.proofs.Polls.PolledEnd.{PolledOut, polled_out, sends_told}
use Rattle.rx_rounds.proofs.Serving.SendsLaws.{counts_within}
use Rattle.rx_rounds.proofs.Flow.{total}
use Rattle.rx_rounds.proofs.Keeper.{part_read, piece}
use Rattle.rx_rounds.proofs.Keys.KeyClass.{challenged_new, or_same}
use Rattle.rx_rounds.proofs.Making.{ends_to, then_to}
use Rattle.rx_rounds.proofs.One.OneBurst.{link_kept, link_took}
use Rattle.rx_rounds.proofs.One.OneCall.{Ends, client_place, header_of, node_of, served_link, server_place}
use Rattle.rx_rounds.proofs.One.OneCall.{server_setup, the_call}
use Rattle.rx_rounds.proofs.One.OneFields.{FitsEnds, fresh}
use Rattle.rx_rounds.proofs.One.OneNode.{ArePlain, datagrams, length_datagrams, plain_acks, plain_both, plain_burst}
use Rattle.rx_rounds.proofs.One.OneNode.{plain_piece, side_flags}
use Rattle.rx_rounds.proofs.One.OneSteps.{empty_at, server_began, server_begins}
use Rattle.rx_rounds.proofs.One.OneTaken.{AreLater, later_burst}
use Rattle.rx_rounds.proofs.One.OneWay.{IsPlainOwed, Sends}
use Rattle.rx_rounds.proofs.Pair.{CallEnd, view_of}
use Rattle.rx_rounds.proofs.RoundParts.{client_polled}
use Rattle.rx_rounds.proofs.Rounded.{Made, RoundMade, caller_at}
use Rattle.rx_rounds.proofs.Serving.SaidMore.{said_more}
use Rattle.rx_rounds.proofs.Serving.SaysOn.{SaidOn}
use Rattle.rx_rounds.proofs.Takes.Taking.{OwesBehind, Takes, TookPieces, came_behind, hears, keeps, kept_one, keeps_one}
use Rattle.rx_rounds.proofs.Takes.Taking.{none_came}
use Rattle.rx_rounds.proofs.Takes.Taking.{owes_behind, some_came, takes_burst, takes_none}
use Rattle.rx_rounds.proofs.Two.{AreApart, Two, delivered_server, sent, two_as}

-- messages that bring pieces
abbrev pub IsChunk : Body → Type 0
IsChunk (bodies.Chunk payload) = Unit {0}
IsChunk _ = ⊥

abbrev pub AreChunks : List Message → Type 0
AreChunks [] = Unit {0}
AreChunks (m ∷ ms) = IsChunk m.body × AreChunks ms

burst_chunks : (frame : Message) (client : Bool) (whole : List ℕ) (n m : ℕ) (ms : List Message)
    → Burst frame client whole n m ms → AreChunks ms
burst_chunks frame client whole n m ms (no_piece i) = tt
burst_chunks frame client whole n m ms (a_piece i j serial asking others low asks rest) =
    (tt, burst_chunks frame client whole (suc n) m others rest)

-- the server that waits for its client to show the key, where there is one, and takes more pieces
abbrev pub waiting_at : Ends → ℕ → CallLooks → Looks
waiting_at x used k = node_of x (served_link x false (is_some x.key) 0 used) (the_call x ∷ []) 0 lives.Waiting k

module _ (x : Ends) (fits : FitsEnds x) (apart : AreApart x) (request : List ℕ)
    (small : total request ≤ 1000000) (lc : Looks) (cs : List InvokedState) where
  waiting_takes : (k l : CallLooks) (ms : List Message) → Takes (server_place x 0) k ms l → AreLater ms → AreChunks ms
      → (used : ℕ) (s t : Stage) → Two x (waiting_at x used k) lc cs [] s
      → Made (each delivers (datagrams x.client x.server ms)) s t
      → (last : ℕ) × Two x (waiting_at x last l) lc cs [] t
  waiting_takes k l ms (takes_none i) late chunks used s t two made_ = (
    used,
    subst (λ (u : Stage). Two x (waiting_at x used k) lc cs [] u) (sym (ends_to s t made_.0 made_.1)) two,
  )
  waiting_takes k l ms (keeps whole i j seq serial asking others low few row rest) late chunks used s t two made_ =
      let m : Message = piece_with (header_of x) true whole seq serial asking in
      let plain : IsPlain m = plain_piece x fits true whole seq serial asking low few in
      let some_first : 1 < x.first + 1 = (let known : 1 ≤ x.first = fits.some in omega arith) in
      let ours : has_flag CLIENT_INITIATED m.flags ≡ true = side_flags true asking (seq == total whole) in
      let b = then_to (delivers (sent x.client x.server (made m)) s)
      (each delivers (datagrams x.client x.server others))
      made_.0 t made_.1 in
      let d = delivered_server x (waiting_at x used k) lc cs [] s b.between x.client (made m) b.front apart two
      b.made in
      let next : after (server_setup x)
      (events.Taken x.client (made m) (took_of (server_setup x) (waiting_at x used k) x.client (made m)))
      (waiting_at x used k) ≡ waiting_at x 0 (after_taken (view_of (server_place x 0) k) tooks.Kept m k) =
      ap (λ (got : Took). after (server_setup x) (events.Taken x.client (made m) got) (waiting_at x used k))
      (link_took x false (is_some x.key) (the_call x ∷ []) 0 used 0 lives.Waiting k seq serial m.flags
      (piece whole seq).payload some_first refl plain ours ∙ row)
      ∙ link_kept x false (is_some x.key) (is_some x.key) (the_call x ∷ []) 0 used 0 lives.Waiting k seq serial m.flags
      (piece whole seq).payload (challenged_new x.key) refl plain ours late.0
      ∙ ap (λ (o : Bool). node_of x (served_link x false o 0 0) (the_call x ∷ []) 0 lives.Waiting
      (after_taken (view_of (server_place x 0) k) tooks.Kept m k)) (or_same (is_some x.key)) in
      waiting_takes (after_taken (view_of (server_place x 0) k) tooks.Kept m k) l others rest late.1 chunks.1 0
      b.between t
      (two_as x _ lc _ lc cs [] b.between b.between next refl refl d) (b.rest, b.goes)
  waiting_takes k l ms (hears i j n serial previous caused reason others few f1 f2 f3 low high kind row rest) late
      chunks
      used s t two made_ = absurd chunks.0

  -- the server behind them
  pub record ServerCame (last : ℕ) (t : Stage) : Type 0 where
    pub owed : Owed
    pub plain : IsPlainOwed owed
    pub soon : owed.rank ≤ 100
    pub ended : last ≡ total request → owed.rank ≡ 0
    pub used : ℕ
    pub two : Two x (waiting_at x used (came_behind false 0 request [] last owed fresh)) lc cs [] t

  pub first_come : (last : ℕ) (ms : List Message) → Burst (header_of x) true request 0 last ms → 1 ≤ last → last ≤ 32
      → last ≤ total request → (s t : Stage) → Two x (empty_at 0) lc cs [] s
      → Made (each delivers (datagrams x.client x.server ms)) s t → ServerCame last t
  first_come last ms (no_piece i) some near within s t two made_ = absurd (omega arith)
  first_come last ms (a_piece i j serial asking others low asks rest) some near within s t two made_ =
      let m : Message = piece_with (header_of x) true request 1 serial asking in
      let b = then_to (delivers (sent x.client x.server (made m)) s)
      (each delivers (datagrams x.client x.server others)) made_.0 t made_.1 in
      let d = delivered_server x (empty_at 0) lc cs [] s b.between x.client (made m) b.front apart two b.made in
      let some_first : 1 < x.first + 1 = (let known : 1 ≤ x.first = fits.some in omega arith) in
      let plain : IsPlain m = plain_piece x fits true request 1 serial asking (omega arith) low in
      let ours : has_flag CLIENT_INITIATED m.flags ≡ true = side_flags true asking (1 == total request) in
      let one = keeps_one false 0 (header_of x) request [] 0 0 0 serial asking fresh refl (omega arith) (omega arith)
      (omega arith) (omega arith) (omega arith) refl (λ is. absurd cc) in
      let k1 : CallLooks = kept_one false 0 request [] 0 serial asking fresh in
      let next : after (server_setup x)
      (events.Taken x.client (made m) (took_of (server_setup x) (empty_at 0) x.client (made m))) (empty_at 0)
      ≡ waiting_at x 0 k1 =
      ap (λ (got : Took). after (server_setup x) (events.Taken x.client (made m) got) (empty_at 0))
      (server_begins x 0 serial m.flags (piece request 1).payload some_first plain ours ∙ one.0)
      ∙ server_began x 0 serial m.flags (piece request 1).payload some_first plain ours
      ∙ ap (waiting_at x 0) one.1 in
      by (owes_behind 0 asking serial None low tt tt)
      (takes_burst false 0 (header_of x) request [] 1 1 last 0 k1 others rest refl (omega arith) (omega arith) within
      (omega arith) (omega arith) refl (λ is. absurd cc)
      (subst (λ (q : Option Owed). IfSome q IsPlainOwed)
      (sym (owes_behind 0 asking serial None low tt tt).is) (owes_behind 0 asking serial None low tt tt).plain)
      (subst (λ (q : Option Owed). IfSome q (λ w. w.rank ≤ 0 + 100))
      (sym (owes_behind 0 asking serial None low tt tt).is) (owes_behind 0 asking serial None low tt tt).soon))
      b.between (two_as x _ lc _ lc cs [] b.between b.between next refl refl d) (b.rest, b.goes)
    where
      k2 : CallLooks
      k2 = kept_one false 0 request [] 0 serial asking fresh

      by : (o : OwesBehind 0 asking serial None) → TookPieces false 0 (header_of x) request [] 1 last k2 others
          → (u : Stage) → Two x (waiting_at x 0 k2) lc cs [] u
          → Made (each delivers (datagrams x.client x.server others)) u t → ServerCame last t
      by o (none_came all none) u two1 goes =
          let same : k2 ≡ came_behind false 0 request [] last o.owed fresh =
          ap (λ (q : Option Owed). record fresh {
            received = part_read request [] 1 1;
            owed_ack = q;
            heard = 0;
          }) o.is ∙ ap (λ (n : ℕ). came_behind false 0 request [] n o.owed fresh) all in
          let takes : Takes (server_place x 0) k2 others k2 =
          subst (λ (ms : List Message). Takes (server_place x 0) k2 ms k2) (sym none) (takes_none k2) in
          let r = waiting_takes k2 k2 others takes
          (later_burst (header_of x) true request 1 last others (omega arith) rest)
          (burst_chunks (header_of x) true request 1 last others rest) 0 u t two1 goes in
          record {
            owed = o.owed;
            plain = o.plain;
            soon = o.soon;
            ended = λ end. o.asked (asks (omega arith));
            used = r.0;
            two = subst (λ (k : CallLooks). Two x (waiting_at x r.0 k) lc cs [] t) same r.1;
          }
      by o (some_came less owed plain soon sooner ended behind) u two1 goes =
          let l : CallLooks = came_behind false 0 request [] last owed fresh in
          let takes : Takes (server_place x 0) k2 others l =
          subst (λ (ms : List Message). Takes (server_place x 0) k2 ms l) (append-nil others)
          (behind [] l (takes_none l)) in
          let r = waiting_takes k2 l others takes
          (later_burst (header_of x) true request 1 last others (omega arith) rest)
          (burst_chunks (header_of x) true request 1 last others rest) 0 u t two1 goes in
          record { owed = owed; plain = plain; soon = soon; ended = ended; used = r.0; two = r.1 }

-- the second round as far as the deliveries
module _ (x : Ends) (g : Handlers) (fits : FitsEnds x) (apart : AreApart x) (request : List ℕ)
    (call line : ℕ) (small : total request ≤ 1000000) (used : ℕ) (s t : Stage)
    (o : SaidOn x request call line 0 0 used 0 0 0 (empty_at 0) [] fresh s)
    (can : can_give (said_more o.more o.shut fresh).cwnd (said_more o.more o.shut fresh).sent ≡ true)
    (m : RoundMade g s t) where
  abbrev kc : CallLooks
  kc = said_more o.more o.shut fresh

  abbrev cs2 : List InvokedState
  cs2 = caller_at call line (caller_with x o.offering o.shut [] phases.Resting) ∷ []

  abbrev e : CallEnd
  e = record { looks = kc; given = 0 }

  abbrev p : PolledOut (client_place x 0) request 0 0 0 0 e
  p = polled_out (client_place x 0) request 0 0 0 0 e refl (λ less. absurd (omega arith)) o.up (tells_none kc refl refl)

  pub record FirstCame : Type 0 where
    pub last : ℕ
    pub kc2 : CallLooks
    pub some : 1 ≤ last
    pub near : last ≤ 32
    pub within : last ≤ total request
    pub up : Sends request 0 0 last kc2
    pub said : kc2.sent.said ≡ kc.sent.said
    pub shut : kc2.sent.shut ≡ kc.sent.shut
    pub quiet : kc2.received ≡ nothing_received
    pub none : kc2.owed_ack ≡ None
    pub heard : kc2.heard ≡ 0
    pub spoke : kc2.spoke ≡ 0
    pub owed : Owed
    pub plain : IsPlainOwed owed
    pub soon : owed.rank ≤ 100
    pub ended : last ≡ total request → owed.rank ≡ 0
    pub gc : ℕ
    pub uc : ℕ
    pub us : ℕ
    -- no more of them may go
    pub over : can_give kc2.cwnd kc2.sent ≡ false
    pub two : Two x (waiting_at x us (came_behind false 0 request [] last owed fresh))
        (client_at x gc uc [] 0 kc2) cs2 [] m.delivered
    pub loud : 1 ≤ length m.polled.given

  pub first_comes : FirstCame
  first_comes =
      let s1 : Sends request 0 0 p.pieces.last p.pieces.behind.looks =
      p.pieces.sends 0 (omega arith) (λ less. omega arith) in
      let some : 0 < p.pieces.last = p.pieces.some can in
      let near : p.pieces.last ≤ 0 + 32 = s1.near in
      let counts : p.pieces.last ≤ counting_of p.pieces.behind.looks.sent = s1.counted in
      let all = counts_within request 0 0 p.pieces.last p.pieces.behind.looks s1 in
      let within : p.pieces.last ≤ total request = omega arith in
      let no_acks : p.acks ≡ [] = p.quiet refl (λ is. omega arith) in
      let plain : ArePlain (p.pieces.messages ++ p.acks) = plain_both x fits p.pieces.messages p.acks
      (plain_burst x fits true request 0 p.pieces.last p.pieces.messages (omega arith) p.pieces.burst)
      (plain_acks x fits true 0 p.acks (omega arith) p.tells) in
      let q = client_polled x 0 cs2 [] [] e p.behind (p.pieces.messages ++ p.acks) p.polls plain refl used s m.polled
      o.two m.polls_are in
      let is : m.polled.given ≡ datagrams x.client x.server p.pieces.messages =
      q.0 ∙ ap (λ (ms : List Message). datagrams x.client x.server (p.pieces.messages ++ ms)) no_acks
      ∙ ap (datagrams x.client x.server) (append-nil p.pieces.messages) in
      let made_ : Made (each delivers (datagrams x.client x.server p.pieces.messages)) m.polled.stage m.delivered = (
        m.delivers_are.0,
        subst (λ (ds : List Datagram). each delivers ds m.polled.stage m.delivers_are.0 (To m.delivered)) is
            m.delivers_are.1,
      ) in
      let r = first_come x fits apart request small (client_at x p.behind.given q.1.0 [] 0 p.behind.looks) cs2
      p.pieces.last p.pieces.messages p.pieces.burst some (omega arith) within m.polled.stage m.delivered q.1.1 made_ in
      record {
        last = p.pieces.last;
        kc2 = p.behind.looks;
        some = some;
        near = omega arith;
        within = within;
        up = sends_told (client_place x 0) request 0 0 0 0 e p 0 s1;
        said = ap (λ (k : CallLooks). k.sent.said) p.is;
        shut = ap (λ (k : CallLooks). k.sent.shut) p.is;
        quiet = ap (λ (k : CallLooks). k.received) p.is;
        none = ap (λ (k : CallLooks). k.owed_ack) p.is ∙ ⊎_elim
            (λ (w : (p.owed ≡ None) × (p.spoke ≡ 0) × (1 ≤ length p.acks)). w.0)
            (λ (w : (p.acks ≡ []) × (p.owed ≡ None) × (p.spoke ≡ p.pieces.spoke)
            × ((z : Owed) → p.owed ≡ Some z → 0 < z.rank) × (true ≡ true → 0 < p.spoke + 2000)). w.1) p.told;
        heard = ap (λ (k : CallLooks). k.heard) p.is;
        spoke = ap (λ (k : CallLooks). k.spoke) p.is ∙ ⊎_elim
            (λ (w : (p.owed ≡ None) × (p.spoke ≡ 0) × (1 ≤ length p.acks)). w.1)
            (λ (w : (p.acks ≡ []) × (p.owed ≡ None) × (p.spoke ≡ p.pieces.spoke)
            × ((z : Owed) → p.owed ≡ Some z → 0 < z.rank) × (true ≡ true → 0 < p.spoke + 2000)).
            w.2 ∙ ⊎_elim (λ (z : p.pieces.spoke ≡ 0). z)
            (λ (z : (p.pieces.spoke ≡ 0) × (p.pieces.last ≡ 0)). z.0) p.pieces.spoke_is) p.told;
        owed = r.owed;
        plain = r.plain;
        soon = r.soon;
        ended = r.ended;
        gc = p.behind.given;
        uc = q.1.0;
        us = r.used;
        over = ap (λ (k : CallLooks). can_give k.cwnd k.sent) p.is
            ∙ sym (ap (λ (k : CallLooks). can_give k.cwnd k.sent) p.pieces.is) ∙ p.pieces.over;
        two = r.two;
        loud = subst (λ (n : ℕ). 1 ≤ n) (sym (ap (λ (ds : List Datagram). length ds) is
            ∙ length_datagrams x.client x.server p.pieces.messages))
            (burst_some (header_of x) true request 0 p.pieces.last p.pieces.messages some p.pieces.burst);
      }
