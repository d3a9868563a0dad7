-- What an end of a call that isn't prompt has by itself through every round: windows that let something go, a bounded
-- wait for each piece, and givings and pieces in order.
use Rattle.std.proofs.Common.{◌≡◌, ◌≤◌, ◌+◌, ◌-◌, ◌++◌, ◌==◌, ◌&&◌, not, if◌then◌else◌, nat_lt, ℕ, Bool, true, false}
use Rattle.std.proofs.Common.{List, length, Option, Some, None, refl, ap, sym, subst, ◌∙◌, arith}
use Rattle.std.proofs.lemmas.Bool.{and_parts, eqb-true, ltb-false, or_parts}
use Rattle.std.proofs.lemmas.List.{length-append}
use Rattle.rx_model.specs.declared.answers.Took.{Took}
use Rattle.rx_model.specs.declared.answers.Took.TheVariants as tooks
use Rattle.rx_model.specs.declared.wire.TheConstants.{MAX_RTO_MS, MIN_RTO_MS}
use Rattle.rx_model.specs.Body.{AckBody, Body}
use Rattle.rx_model.specs.Body as bodies
use Rattle.rx_model.specs.Message.{Message}
use Rattle.rx_rules.specs.CallLooks.{CallLooks, NodeView, after_ack, after_body, after_chunk, after_data, after_read}
use Rattle.rx_rules.specs.CallLooks.{after_shut, after_taken, after_write, arrival, call_row, found, freed, packet_of}
use Rattle.rx_rules.specs.CallLooks.{sampled}
use Rattle.rx_rules.specs.Rates.{Cwnd, Rtt, after_acked, estimate_with, as_trip, growth, rto_of}
use Rattle.rx_rules.specs.Received.{front_of, has_hole, used_of}
use Rattle.rx_rules.specs.Received as packets
use Rattle.rx_rules.specs.Sent.{Giving, Newly, Sent, counting_by, counting_of, given_of, greatest_given, is_all_given}
use Rattle.rx_rules.specs.Sent.{is_marked, is_strange_ack, newly_of, pieces_of, with_window}
use Rattle.rx_rules.specs.Sent as streams
use Rattle.rx_rules.specs.Setup.{Setup}
use Rattle.rx_closing.proofs.Ends.BothEnds.{GivenBy, IsFit}
use Rattle.rx_closing.proofs.Ends.OwedPlain.{PlainOwed, plain_ack, plain_for, plain_read}
use Rattle.rx_closing.proofs.Steps.{TakesIn, TurnsOn, takes_none, takes_one, turns_none, turns_read, turns_shut}
use Rattle.rx_closing.proofs.Steps.{turns_write}
use Rattle.rx_closing.proofs.Ends.TurnLaws.{counting_shut}
use Rattle.rx_rounds.proofs.Takes.TakingAck.{even_sampled}

-- ---- a message

-- what it owes
pub fit_owed : (now : ℕ) (k : CallLooks) → IsFit now k → PlainOwed now k.owed_ack
fit_owed now k fit o is = (fit.plain o is, fit.low o is)

-- the same with another acknowledgement owed, and other packets
pub fit_owing : (now : ℕ) (k i : CallLooks) → i.sent ≡ k.sent → i.cwnd ≡ k.cwnd → i.rtt ≡ k.rtt → i.spoke ≡ k.spoke
    → i.heard ≤ now → PlainOwed now i.owed_ack → IsFit now k → IsFit now i
fit_owing now k i sent cwnd rtt spoke heard owed fit =
    record {
      steady = subst (λ (c : Cwnd). c.prompt ≡ false) (sym cwnd) fit.steady;
      most = subst (λ (c : Cwnd). 1 ≤ c.most) (sym cwnd) fit.most;
      open_ = subst (λ (c : Cwnd). 1 ≤ c.window) (sym cwnd) fit.open_;
      lets = subst (λ (s : Sent). 1 ≤ s.peer_window) (sym sent) fit.lets;
      even = subst (λ (r : Rtt). r.prompt ≡ false) (sym rtt) fit.even;
      soon = subst (λ (r : Rtt). r.rto ≤ MAX_RTO_MS) (sym rtt) fit.soon;
      slow = subst (λ (r : Rtt). MIN_RTO_MS ≤ r.rto) (sym rtt) fit.slow;
      known = subst (λ (s : Sent). (j : ℕ) → 1 ≤ j → j ≤ given_of s → GivenBy now s.givings j) (sym sent) fit.known;
      spoke = subst (λ (n : ℕ). n ≤ now) (sym spoke) fit.spoke;
      heard = heard;
      low = λ o is. (owed o is).1;
      plain = λ o is. (owed o is).0;
      acked = subst (λ (s : Sent). s.acked ≤ given_of s) (sym sent) fit.acked;
      counts = subst (λ (s : Sent). given_of s ≤ counting_of s) (sym sent) fit.counts;
    }

-- an acknowledgement of all, where all was given
fit-all : (now : ℕ) (k : CallLooks) → is_all_given k.sent ≡ true → IsFit now k
    → IsFit now (record k { sent = streams.after_all k.sent })
fit-all now k all fit =
    (let same = eqb-true (given_of k.sent) (pieces_of k.sent)
    (and_parts k.sent.shut (nat_eq (given_of k.sent) (pieces_of k.sent)) all).1 in
    record {
      steady = fit.steady;
      most = fit.most;
      open_ = fit.open_;
      lets = fit.lets;
      even = fit.even;
      soon = fit.soon;
      slow = fit.slow;
      known = fit.known;
      spoke = fit.spoke;
      heard = fit.heard;
      low = fit.low;
      plain = fit.plain;
      acked = omega (arith, same);
      counts = fit.counts;
    })
  where
    nat_eq : ℕ → ℕ → Bool
    nat_eq a b = a == b

-- ---- rates

rto-low : (b : Bool) (r : Rtt) (ms : ℕ) → rto_of b (estimate_with (as_trip ms) r.estimate) ≤ MAX_RTO_MS
rto-low true r ms = omega arith
rto-low false r ms = omega arith

sampled-low : (o : Option ℕ) (r : Rtt) → r.rto ≤ MAX_RTO_MS → (sampled o r).rto ≤ MAX_RTO_MS
sampled-low None r low = low
sampled-low (Some ms) r low = rto-low r.prompt r ms

rto-slow : (b : Bool) (r : Rtt) (ms : ℕ) → b ≡ false → MIN_RTO_MS ≤ rto_of b (estimate_with (as_trip ms) r.estimate)
rto-slow true r ms even = absurd cc
rto-slow false r ms even = omega arith

sampled-slow : (o : Option ℕ) (r : Rtt) → r.prompt ≡ false → MIN_RTO_MS ≤ r.rto → MIN_RTO_MS ≤ (sampled o r).rto
sampled-slow None r even slow = slow
sampled-slow (Some ms) r even slow = rto-slow r.prompt r ms even

acked-open : (n : ℕ) (c : Cwnd) → 1 ≤ c.most → 1 ≤ c.window → 1 ≤ (after_acked n c).window
acked-open n c most open_ = (let wide = growth n c in omega (arith, most, open_))

window-open : (w : Option ℕ) (before : ℕ) → 1 ≤ before → 1 ≤ with_window w before
window-open None before open_ = open_
window-open (Some w) before open_ = omega arith

-- ---- rows that aren't strange

-- an answer to a message that isn't strange
abbrev pub NotStrange : Took → Type 0
NotStrange tooks.Strange = ⊥
NotStrange _ = Unit {0}

not-strange : (strange : Bool) (rest : Took) → NotStrange (if strange then tooks.Strange else rest) → strange ≡ false
not-strange true rest sense = absurd sense
not-strange false rest sense = refl

all-given : (client all : Bool) → (client && not all) ≡ false → client ≡ true → all ≡ true
all-given true true none is = refl
all-given true false none is = absurd cc
all-given false all none is = absurd cc

chunk-sense : (v : NodeView) (m : Message) (payload : List ℕ) (k : CallLooks)
    → NotStrange (call_row v m (bodies.Chunk payload) k) → v.client ≡ true → is_all_given k.sent ≡ true
chunk-sense v m payload k sense is = of v.client (is_all_given_ v.client) sense is
  where
    is_all_given_ : (b : Bool) → is_all_given (found b k).sent ≡ is_all_given k.sent
    is_all_given_ true = refl
    is_all_given_ false = refl

    of : (b : Bool) → is_all_given (found b k).sent ≡ is_all_given k.sent
        → NotStrange (packets.arrival_row (arrival b v.window (v.left + freed b k) (packet_of m payload) (found b k)))
        → b ≡ true → is_all_given k.sent ≡ true
    of b same sense is =
        sym same ∙ all-given b (is_all_given (found b k).sent)
        (or_parts (packets.is_no_seq m.seq) (b && not (is_all_given (found b k).sent)) (not-strange _ _ sense)).1 is

fit-found : (now : ℕ) (client : Bool) (k : CallLooks) → (client ≡ true → is_all_given k.sent ≡ true) → IsFit now k
    → IsFit now (found client k)
fit-found now true k all fit = fit-all now k (all refl) fit
fit-found now false k all fit = fit_owing now k (found false k) refl refl refl refl fit.heard (fit_owed now k fit) fit

fit-chunk : (now : ℕ) (v : NodeView) (got : Took) (m : Message) (body : Body) (k : CallLooks) → v.now ≤ now
    → NotStrange (call_row v m body k) → IsFit now k → IsFit now (after_chunk v got m body k)
fit-chunk now v got m (bodies.Chunk payload) k early sense fit =
    (let before = fit-found now v.client k (chunk-sense v m payload k sense) fit in
    fit_owing now (found v.client k) (after_data got v.now m payload (found v.client k)) refl refl refl refl early
    (plain_for got now v.now (found v.client k).cwnd.prompt (has_hole (found v.client k).received) m
    (front_of (found v.client k).received.kept) (found v.client k).owed_ack early
    (fit_owed now (found v.client k) before)) before)
fit-chunk now v got m _ k early sense fit = fit

-- what an acknowledgement that isn't strange leaves of a stream
record FitSent (before s : Sent) : Type 0 where
  givings : s.givings ≡ before.givings
  said : s.said ≡ before.said
  shut : s.shut ≡ before.shut
  lets : 1 ≤ s.peer_window
  acked : s.acked ≤ given_of before

fit-told : (a : AckBody) (s : Sent) → is_strange_ack a.first a.marks s ≡ false → 1 ≤ s.peer_window
    → s.acked ≤ given_of s → FitSent s (streams.after_ack a.first a.marks a.window s)
fit-told a s sense lets acked = of (nat_lt (a.first - 1) s.acked)
  where
    within : a.first - 1 ≤ given_of s
    within =
        (let parts = or_parts (a.first == 0) _ sense in
        let rest = or_parts (nat_lt (given_of s) (a.first - 1)) _ parts.1 in
        ltb-false (given_of s) (a.first - 1) rest.0)

    of : (b : Bool) → FitSent s (if b then s else record s {
      acked = a.first - 1;
      soft = is_marked a.first a.marks;
      peer_window = with_window a.window s.peer_window;
    })
    of true = record { givings = refl; said = refl; shut = refl; lets = lets; acked = acked }
    of false =
        record {
          givings = refl;
          said = refl;
          shut = refl;
          lets = window-open a.window s.peer_window lets;
          acked = within;
        }

fit-heard : (now at : ℕ) (m : Message) (a : AckBody) (k : CallLooks) → is_strange_ack a.first a.marks k.sent ≡ false
    → IsFit now k → IsFit now (after_ack at m a k)
fit-heard now at m a k sense fit =
    let told = fit-told a k.sent sense fit.lets fit.acked in
    let n : Newly = newly_of at a.first a.marks k.sent in
    let given : given_of (after_ack at m a k).sent ≡ given_of k.sent =
    ap (λ (gs : List Giving). greatest_given gs) told.givings in
    let counting : counting_of (after_ack at m a k).sent ≡ counting_of k.sent =
    λ i. counting_by (length (told.said i)) (told.shut i) in
    record {
      steady = fit.steady;
      most = fit.most;
      open_ = acked-open n.count k.cwnd fit.most fit.open_;
      lets = told.lets;
      even = even_sampled n.sample k.rtt fit.even;
      soon = sampled-low n.sample k.rtt fit.soon;
      slow = sampled-slow n.sample k.rtt fit.even fit.slow;
      known = λ j low high. subst (λ (gs : List Giving). GivenBy now gs j) (sym told.givings)
          (fit.known j low (omega (arith, given, high)));
      spoke = fit.spoke;
      heard = fit.heard;
      low = λ o is. (plain_ack now a.reason m.serial k.owed_ack (fit_owed now k fit) o is).1;
      plain = λ o is. (plain_ack now a.reason m.serial k.owed_ack (fit_owed now k fit) o is).0;
      acked = (let low = told.acked in omega (arith, low, given));
      counts = (let low = fit.counts in omega (arith, low, given, counting));
    }

two-rows : (b : Bool) → NotStrange (if b then tooks.Heard else tooks.Strange) → b ≡ true
two-rows true sense = refl
two-rows false sense = absurd sense

fit-body : (now : ℕ) (v : NodeView) (m : Message) (body : Body) (k : CallLooks) → NotStrange (call_row v m body k)
    → IsFit now k → IsFit now (after_body v.now m body k)
fit-body now v m (bodies.Ack a) k sense fit =
    fit-heard now v.now m a k (not-strange (is_strange_ack a.first a.marks k.sent) tooks.Heard sense) fit
fit-body now v m bodies.AckAll k sense fit = fit-all now k (two-rows (is_all_given k.sent) sense) fit
fit-body now v m _ k sense fit = fit

-- a message that was judged
pub fit_taken : (now : ℕ) (v : NodeView) (got : Took) (m : Message) (k : CallLooks) → v.now ≤ now
    → call_row v m m.body k ≡ got → IsFit now k → IsFit now (after_taken v got m k)
fit_taken now v tooks.Kept m k early row fit =
    fit-chunk now v tooks.Kept m m.body k early (subst NotStrange (sym row) tt) fit
fit_taken now v tooks.Repeat m k early row fit =
    fit-chunk now v tooks.Repeat m m.body k early (subst NotStrange (sym row) tt) fit
fit_taken now v tooks.Beyond m k early row fit =
    fit-chunk now v tooks.Beyond m m.body k early (subst NotStrange (sym row) tt) fit
fit_taken now v tooks.Clash m k early row fit =
    fit-chunk now v tooks.Clash m m.body k early (subst NotStrange (sym row) tt) fit
fit_taken now v tooks.NoSlot m k early row fit =
    fit-chunk now v tooks.NoSlot m m.body k early (subst NotStrange (sym row) tt) fit
fit_taken now v tooks.Heard m k early row fit =
    (let before = fit-body now v m m.body k (subst NotStrange (sym row) tt) fit in
    fit_owing now (after_body v.now m m.body k) (record (after_body v.now m m.body k) { heard = v.now })
    refl refl refl refl
    early (fit_owed now (after_body v.now m m.body k) before) before)
fit_taken now v _ m k early row fit = fit

pub takes_fit : (t : Setup) (now : ℕ) (k : CallLooks) (ms : List Message) (f : CallLooks) → TakesIn t now k ms f
    → IsFit now k → IsFit now f
takes_fit t now k ms f (takes_none i) fit = fit
takes_fit t now k ms f (takes_one i g m ns v got view row sense rest) fit =
    takes_fit t now (after_taken v got m i) ns g rest
    (fit_taken now v got m i (let at = view.moment in omega arith) row fit)

-- ---- a turn

counts-on : (n m : ℕ) (shut : Bool) → counting_by n shut ≤ counting_by (n + m) shut
counts-on n m true = omega arith
counts-on n m false = omega arith

-- bytes were accepted
pub fit_write : (now : ℕ) (bytes : List ℕ) (k : CallLooks) → IsFit now k → IsFit now (after_write bytes k)
fit_write now bytes k fit =
    record {
      steady = fit.steady;
      most = fit.most;
      open_ = fit.open_;
      lets = fit.lets;
      even = fit.even;
      soon = fit.soon;
      slow = fit.slow;
      known = fit.known;
      spoke = fit.spoke;
      heard = fit.heard;
      low = fit.low;
      plain = fit.plain;
      acked = fit.acked;
      counts = (let low = fit.counts in
          let more = counts-on (length k.sent.said) (length bytes) k.sent.shut in
          let long = length-append k.sent.said bytes in
          let at : counting_by (length (k.sent.said ++ bytes)) k.sent.shut
          ≡ counting_by (length k.sent.said + length bytes) k.sent.shut =
          ap (λ (n : ℕ). counting_by n k.sent.shut) long in
          omega (arith, low, more, at));
    }

-- the end of its stream
pub fit_shut : (now : ℕ) (k : CallLooks) → IsFit now k → IsFit now (after_shut k)
fit_shut now k fit =
    record {
      steady = fit.steady;
      most = fit.most;
      open_ = fit.open_;
      lets = fit.lets;
      even = fit.even;
      soon = fit.soon;
      slow = fit.slow;
      known = fit.known;
      spoke = fit.spoke;
      heard = fit.heard;
      low = fit.low;
      plain = fit.plain;
      acked = fit.acked;
      counts = (let low = fit.counts in
          let more = counting_shut (length k.sent.said) k.sent.shut in
          omega (arith, low, more));
    }

-- a read
pub fit_read : (now at : ℕ) (end : Bool) (bytes : List ℕ) (k : CallLooks) → at ≤ now → IsFit now k
    → IsFit now (after_read at end bytes k)
fit_read now at end bytes k early fit =
    fit_owing now k (after_read at end bytes k) refl refl refl refl fit.heard
    (plain_read now at k.cwnd.prompt (used_of k.received) (used_of (packets.after_read end bytes k.received)) k.owed_ack
    early (fit_owed now k fit)) fit

pub turns_fit : (now : ℕ) (k f : CallLooks) → TurnsOn now k f → IsFit now k → IsFit now f
turns_fit now k f (turns_none i) fit = fit
turns_fit now k f (turns_read i g end bytes rest) fit =
    turns_fit now (after_read now end bytes i) g rest (fit_read now now end bytes i (omega arith) fit)
turns_fit now k f (turns_write i g bytes rest) fit =
    turns_fit now (after_write bytes i) g rest (fit_write now bytes i fit)
turns_fit now k f (turns_shut i g rest) fit = turns_fit now (after_shut i) g rest (fit_shut now i fit)

-- ---- a round

-- at a later moment
pub fit_later : (now later : ℕ) (k : CallLooks) → now ≤ later → IsFit now k → IsFit later k
fit_later now later k after fit =
    record {
      steady = fit.steady;
      most = fit.most;
      open_ = fit.open_;
      lets = fit.lets;
      even = fit.even;
      soon = fit.soon;
      slow = fit.slow;
      known = λ j low high. (let g = fit.known j low high in record {
        last = g.last;
        is = g.is;
        by = (let by = g.by in omega (arith, by, after));
      });
      spoke = (let low = fit.spoke in omega (arith, low, after));
      heard = (let low = fit.heard in omega (arith, low, after));
      low = λ o is. (let low = fit.low o is in omega (arith, low, after));
      plain = fit.plain;
      acked = fit.acked;
      counts = fit.counts;
    }
