-- How far a call can be: the pieces of its request and of what is served for it bound every part, at both ends.
use Rattle.std.proofs.Common.{◌≡◌, ◌⊎◌, ◌≤◌, ◌+◌, ◌*◌, ◌++◌, ℕ, suc, Bool, true, false, List, length, Option, Some}
use Rattle.std.proofs.Common.{None, refl, ◌∙◌, ap, sym, subst, inl, inr, arith, length-append, slice_get, is_some}
use Rattle.rx_model.specs.declared.event.Noted.{Noted}
use Rattle.rx_model.specs.declared.names.CallName.{CallName}
use Rattle.rx_model.specs.Names.{connection_of}
use Rattle.rx_rules.specs.After.{looks}
use Rattle.rx_rules.specs.Life.{Life}
use Rattle.rx_rules.specs.Life as lives
use Rattle.rx_rules.specs.Looks.{CallRecord, Looks, call_at}
use Rattle.rx_rules.specs.Received.{Received, front_of, greatest, packet_at, used_of}
use Rattle.rx_rules.specs.Sent.{Sent, counting_by, counting_of, given_of, pieces_by, pieces_of}
use Rattle.rx_rules.specs.Setup.{Client}
use Rattle.rx_history.specs.Sides.{Node, side}
use Rattle.rx_history.specs.Streams as streams
use Rattle.rx_history.proofs.ClientHistory.{client-calls}
use Rattle.rx_history.proofs.Ends.{ends_of}
use Rattle.rx_history.proofs.ServerStands.{server-stands}
use Rattle.rx_history.proofs.Turns.{SendsOf, counting}
use Rattle.rx_history.proofs.Laws.UsedLaws.{used_within}
use Rattle.rx_law.specs.Promises.{ServerForgotNone, ends_in}
use Rattle.rx_law.specs.Times.{Timely}
use Rattle.rx_law.specs.Worlds.{World}
use Rattle.rx_law.proofs.Joint.{Fed, between}
use Rattle.rx_law.proofs.WorldLaw.{world-law}
use Rattle.rx_between.specs.Acknowledged.{AreTrue, received_by, sent_by}
use Rattle.rx_between.specs.Agreed.{AreGiven, Agrees}
use Rattle.rx_between.proofs.LawsAgree.{agree_in_world}
use Rattle.rx_between.proofs.LawsTrue.{fed_in}
use Rattle.rx_asks.specs.History.{Tells}
use Rattle.rx_asks.specs.View.{CallerState}
use Rattle.rx_jobs.specs.Dispatching.{Turning}
use Rattle.rx_jobs.specs.Handlers.{Handlers, served_for}
use Rattle.rx_plan.proofs.Handling.{Serves}
use Rattle.rx_rounds.specs.Bounds.{both_pieces, pieces, served_pieces}
use Rattle.rx_closing.proofs.Far.FarServed.{BeginsServed, said_served}
use Rattle.rx_closing.proofs.Frame.{far, far_of, flag, rank_of}
use Rattle.rx_rules.proofs.ReachLaws.{reach_within}
use Rattle.rx_between.proofs.Sense.{ended_is}

-- ---- numbers alone

pieces_low : (n m : ℕ) (shut : Bool) → n ≤ m → pieces_by n shut ≤ pieces_by m true
pieces_low n m true low = omega (arith, low)
pieces_low n m false low = omega (arith, low)

few_pieces : (shut : Bool) → pieces_by 0 shut ≤ 1
few_pieces true = omega arith
few_pieces false = omega arith

flag_few : (b : Bool) → flag b ≤ 1
flag_few true = omega arith
flag_few false = omega arith

rank_few : (x : Life) → rank_of x ≤ 5
rank_few lives.Calling = omega arith
rank_few (lives.Ended end) = omega arith
rank_few lives.Waiting = omega arith
rank_few lives.Accepted = omega arith
rank_few lives.Finished = omega arith
rank_few (lives.Broken code) = omega arith
rank_few (lives.Over code) = omega arith

-- ---- one direction

-- only pieces that count were given
counts_by : (n given : ℕ) (shut : Bool) → given ≤ counting shut n → given ≤ counting_by n shut
counts_by n given true low = omega (arith, low)
counts_by n given false low = omega (arith, low)

pub counts_of : (o : Option CallRecord) → SendsOf (ends_of o) → given_of (sent_by o) ≤ counting_of (sent_by o)
counts_of None sends = omega arith
counts_of (Some k) sends =
    counts_by (length k.looks.sent.said) (given_of k.looks.sent) k.looks.sent.shut sends.counts

pub counting_low : (n : ℕ) (shut : Bool) → counting_by n shut ≤ pieces_by n shut
counting_low n true = omega arith
counting_low n false = omega arith

-- of a stream from its sender to its receiver no part is more than so many
pub record IsWithin (most : ℕ) (sent : Sent) (received : Received) : Type 0 where
  pub pieces : pieces_of sent ≤ most
  pub given : given_of sent ≤ most
  pub acked : sent.acked ≤ most
  pub front : front_of received.kept ≤ most
  pub used : used_of received ≤ most

within_by : (most : ℕ) (sent : Sent) (received : Received) → pieces_of sent ≤ most → given_of sent ≤ counting_of sent
    → AreTrue sent received → AreGiven sent received → IsWithin most sent received
within_by most sent received few counts truth given =
    let count : counting_of sent ≤ pieces_of sent = counting_low (length sent.said) sent.shut in
    let used : used_of received ≤ front_of received.kept = used_within received in
    let front : front_of received.kept ≤ greatest received.kept =
    reach_within (λ k. is_some (packet_at received.kept k)) (greatest received.kept) in
    let n = numbers (pieces_of sent) (counting_of sent) (given_of sent) sent.acked (used_of received)
    (front_of received.kept) (greatest received.kept) few count counts given front used truth.hard in
    record { pieces = few; given = n.0; acked = n.1; front = n.2; used = n.3 }
  where
    numbers : (p n g a u f k : ℕ) → p ≤ most → n ≤ p → g ≤ n → k ≤ g → f ≤ k → u ≤ f → a ≤ u
        → (g ≤ most) × (a ≤ most) × (f ≤ most) × (u ≤ most)
    numbers p n g a u f k p1 p2 p3 p4 p5 p6 p7 = (omega arith, omega arith, omega arith, omega arith)

-- ---- one end

end_far : (r : CallRecord) (own other : ℕ) → pieces_of r.looks.sent ≤ own → given_of r.looks.sent ≤ own
    → r.looks.sent.acked ≤ own → front_of r.looks.received.kept ≤ other → used_of r.looks.received ≤ other
    → far r ≤ 3 * own + 2 * other + 7
end_far r own other a b c d e =
    by (pieces_of r.looks.sent) (given_of r.looks.sent) r.looks.sent.acked (front_of r.looks.received.kept)
    (used_of r.looks.received) (flag r.looks.sent.shut) (flag r.looks.received.ended) (rank_of r.life) a b c d e
    (flag_few r.looks.sent.shut) (flag_few r.looks.received.ended) (rank_few r.life)
  where
    by : (p g k f u s n l : ℕ) → p ≤ own → g ≤ own → k ≤ own → f ≤ other → u ≤ other → s ≤ 1 → n ≤ 1 → l ≤ 5
        → p + g + k + f + u + s + n + l ≤ 3 * own + 2 * other + 7
    by p g k f u s n l p1 p2 p3 p4 p5 p6 p7 p8 = omega arith

far_within : (o : Option CallRecord) (own other : ℕ) → pieces_of (sent_by o) ≤ own → given_of (sent_by o) ≤ own
    → (sent_by o).acked ≤ own → front_of (received_by o).kept ≤ other → used_of (received_by o) ≤ other
    → far_of o ≤ 3 * own + 2 * other + 8
far_within None own other a b c d e = omega arith
far_within (Some r) own other a b c d e = (let low = end_far r own other a b c d e in omega (arith, low))

-- of both ends of a call
pub both_within : (a b : Option CallRecord) (request reply : ℕ) → IsWithin request (sent_by a) (received_by b)
    → IsWithin reply (sent_by b) (received_by a) → far_of a + far_of b ≤ 5 * (request + reply) + 16
both_within a b request reply up down =
    by (far_of a) (far_of b) (far_within a request reply up.pieces up.given up.acked down.front down.used)
    (far_within b reply request down.pieces down.given down.acked up.front up.used)
  where
    by : (m n : ℕ) → m ≤ 3 * request + 2 * reply + 8 → n ≤ 3 * reply + 2 * request + 8
        → m + n ≤ 5 * (request + reply) + 16
    by m n first second = omega arith

-- ---- a call of a client in a world

said_by_is : (o : Option CallRecord) → streams.said_by o ≡ (sent_by o).said
said_by_is None = refl
said_by_is (Some r) = refl

shut_is : (o : Option CallRecord) → (ends_of o).shut ≡ streams.is_shut_by o
shut_is None = refl
shut_is (Some r) = refl

said_is : (o : Option CallRecord) → (ends_of o).said ≡ streams.said_by o
said_is None = refl
said_is (Some r) = refl

read_is : (o : Option CallRecord) → (received_by o).read ≡ (ends_of o).read
read_is None = refl
read_is (Some r) = refl

module _ (nodes : List Node) (h : List Noted) (w : World nodes h) (kept : ServerForgotNone nodes h ⊎ Timely nodes h)
    (k : ℕ) (client server : Node) (c : CallName) (there : slice_get nodes k ≡ Some client)
    (kind : client.setup.kind ≡ Client c.host c.epoch) (first : slice_get nodes 0 ≡ Some server) where
  abbrev asked : Option CallRecord
  asked = call_at (looks client.setup (side k h)) c

  abbrev served : Option CallRecord
  served = call_at (looks server.setup (side 0 h)) c

  fed : Fed (ends_in (connection_of c) k client server) h
  fed = fed_in nodes h w k client server (connection_of c) there kind first kept

  pub call_agrees : Agrees client.setup server.setup asked served
  call_agrees = (agree_in_world nodes h w kept (connection_of c) k client server there kind first).calls c refl

  -- each gave only pieces that count
  pub asked_counts : given_of (sent_by asked) ≤ counting_of (sent_by asked)
  asked_counts =
      counts_of asked ((client-calls client.setup c.host c.epoch (side k h) kind fed.client_fits
      fed.client_legal).standing.calls c).sends

  pub served_counts : given_of (sent_by served) ≤ counting_of (sent_by served)
  served_counts =
      counts_of served ((server-stands server.setup (side 0 h) fed.server_kind fed.server_fits
      fed.server_legal).calls c).sends

  -- of a caller that says a request
  module _ (g : Handlers) (t : Turning) (serves : Serves g t (side 0 h)) (v : CallerState) (request : List ℕ)
      (own : v.call ≡ c) (tells : Tells request v (looks client.setup (side k h))) where
    asked_low : length (sent_by asked).said ≤ length request
    asked_low =
        (let l : Looks = looks client.setup (side k h) in
        let all : streams.said l c ++ v.offering ≡ request =
        subst (λ (n : CallName). streams.said l n ++ v.offering ≡ request) own tells.said in
        let long = length-append (streams.said l c) v.offering in
        let size = ap length all in
        let same = ap length (said_by_is asked) in
        by (length (sent_by asked).said) (length (streams.said l c)) (length v.offering)
        (length (streams.said l c ++ v.offering)) (length request) same long size)
      where
        by : (m n o p q : ℕ) → n ≡ m → p ≡ n + o → p ≡ q → m ≤ q
        by m n o p q same long size = omega (arith, same, long, size)

    -- what the server read to its end is the request
    pub whole_read : (received_by served).ended ≡ true → (received_by served).read ≡ request
    whole_read ended =
        (let l : Looks = looks client.setup (side k h) in
        let carried = (between (ends_in (connection_of c) k client server) h c fed refl).request in
        let all = carried.ended (ended_is served ∙ ended) in
        let whole : streams.is_shut l c ≡ true → streams.said l c ≡ request =
        subst (λ (n : CallName). streams.is_shut l n ≡ true → streams.said l n ≡ request) own tells.whole in
        read_is served ∙ all.1 ∙ said_is asked ∙ whole (sym (shut_is asked) ∙ all.0))

    -- what the server said begins what is served for the request
    pub served_begins : BeginsServed g request (sent_by served).said
    served_begins =
        said_served g server.setup (side 0 h) c t request serves fed.server_kind fed.server_legal
        (world-law nodes h w kept).once (fed.once c refl) whole_read

    served_low : pieces_of (sent_by served) ≤ suc (served_pieces (served_for g request))
    served_low = of (sent_by served) served_begins
      where
        of : (s : Sent) → BeginsServed g request s.said → pieces_of s ≤ suc (served_pieces (served_for g request))
        of s (inl none) =
            (let few = few_pieces s.shut in
            let size = ap (λ (xs : List ℕ). pieces_by (length xs) s.shut) none in
            by (pieces_of s) (pieces_by 0 s.shut) (served_pieces (served_for g request)) size few)
          where
            by : (m n o : ℕ) → m ≡ n → n ≤ 1 → m ≤ suc o
            by m n o same few = omega arith
        of s (inr (rest, is)) =
            (let most : served_pieces (served_for g request) ≡ pieces (s.said ++ rest) = ap served_pieces is in
            let long = length-append s.said rest in
            let low = pieces_low (length s.said) (length (s.said ++ rest)) s.shut (omega (arith, long)) in
            by (pieces_of s) (pieces (s.said ++ rest)) (served_pieces (served_for g request)) low most)
          where
            by : (m n o : ℕ) → m ≤ n → o ≡ n → m ≤ suc o
            by m n o low same = omega arith

    -- no part of the request is more than its pieces
    pub request_within : IsWithin (pieces request) (sent_by asked) (received_by served)
    request_within =
        within_by (pieces request) (sent_by asked) (received_by served)
        (pieces_low (length (sent_by asked).said) (length request) (sent_by asked).shut asked_low) asked_counts
        call_agrees.request_true call_agrees.request_given

    -- none of the reply more than one above those of what is served
    pub reply_within : IsWithin (suc (served_pieces (served_for g request))) (sent_by served) (received_by asked)
    reply_within =
        within_by (suc (served_pieces (served_for g request))) (sent_by served) (received_by asked) served_low
        served_counts call_agrees.reply_true call_agrees.reply_given

    -- so the call is this far at most
    pub far_bound : far_of asked + far_of served ≤ 5 * both_pieces g request + 21
    far_bound =
        by (far_of asked) (far_of served) (pieces request) (served_pieces (served_for g request))
        (both_within asked served (pieces request) (suc (served_pieces (served_for g request))) request_within
        reply_within)
      where
        by : (m n p q : ℕ) → m + n ≤ 5 * (p + suc q) + 16 → m + n ≤ 5 * (p + q) + 21
        by m n p q low = omega arith
