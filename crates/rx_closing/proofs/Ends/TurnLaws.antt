-- What a turn of a handler or of a caller leaves of an end of a call, which it reads, writes and shuts.
use Rattle.std.proofs.Common.{◌≡◌, ◌≤◌, ◌||◌, ℕ, Bool, true, false, List, ◌++◌, length, refl, ap, ◌∙◌, arith}
use Rattle.std.proofs.lemmas.List.{length-append}
use Rattle.rx_rules.specs.CallLooks.{CallLooks, after_read, after_shut, after_write}
use Rattle.rx_rules.specs.Looks.{CallRecord}
use Rattle.rx_rules.specs.Received.{front_of, used_of}
use Rattle.rx_rules.specs.Sent.{counting_by, counting_of, given_of, greatest_given, pieces_by, pieces_of}
use Rattle.rx_history.proofs.Laws.UsedLaws.{used_reads}
use Rattle.rx_closing.proofs.Frame.{far, flag, rank_of}
use Rattle.rx_closing.proofs.Steps.{TurnsOn, turns_none, turns_read, turns_shut, turns_write}

-- ---- one turn and then another

pub turn_trans : (now : ℕ) (k m f : CallLooks) → TurnsOn now k m → TurnsOn now m f → TurnsOn now k f
turn_trans now k m f (turns_none i) more = more
turn_trans now k m f (turns_read i j end bytes rest) more =
    turns_read i f end bytes (turn_trans now (after_read now end bytes i) j f rest more)
turn_trans now k m f (turns_write i j bytes rest) more =
    turns_write i f bytes (turn_trans now (after_write bytes i) j f rest more)
turn_trans now k m f (turns_shut i j rest) more = turns_shut i f (turn_trans now (after_shut i) j f rest more)

-- ---- what stays

-- what was given and what is acknowledged, the packets that are kept, the rates and the moments
pub record TurnKeeps (a b : CallLooks) : Type 0 where
  pub givings : b.sent.givings ≡ a.sent.givings
  pub acked : b.sent.acked ≡ a.sent.acked
  pub soft : b.sent.soft ≡ a.sent.soft
  pub window : b.sent.peer_window ≡ a.sent.peer_window
  pub since : b.sent.since ≡ a.sent.since
  pub kept : b.received.kept ≡ a.received.kept
  pub previous : b.received.previous ≡ a.received.previous
  pub rtt : b.rtt ≡ a.rtt
  pub cwnd : b.cwnd ≡ a.cwnd
  pub heard : b.heard ≡ a.heard
  pub spoke : b.spoke ≡ a.spoke

keeps_same : (k : CallLooks) → TurnKeeps k k
keeps_same k =
    record {
      givings = refl;
      acked = refl;
      soft = refl;
      window = refl;
      since = refl;
      kept = refl;
      previous = refl;
      rtt = refl;
      cwnd = refl;
      heard = refl;
      spoke = refl;
    }

-- the same behind a first step that leaves all of it
keeps_on : (a b c : CallLooks) → TurnKeeps a b → TurnKeeps b c → TurnKeeps a c
keeps_on a b c p q =
    record {
      givings = q.givings ∙ p.givings;
      acked = q.acked ∙ p.acked;
      soft = q.soft ∙ p.soft;
      window = q.window ∙ p.window;
      since = q.since ∙ p.since;
      kept = q.kept ∙ p.kept;
      previous = q.previous ∙ p.previous;
      rtt = q.rtt ∙ p.rtt;
      cwnd = q.cwnd ∙ p.cwnd;
      heard = q.heard ∙ p.heard;
      spoke = q.spoke ∙ p.spoke;
    }

keeps_read : (now : ℕ) (end : Bool) (bytes : List ℕ) (k : CallLooks) → TurnKeeps k (after_read now end bytes k)
keeps_read now end bytes k =
    record {
      givings = refl;
      acked = refl;
      soft = refl;
      window = refl;
      since = refl;
      kept = refl;
      previous = refl;
      rtt = refl;
      cwnd = refl;
      heard = refl;
      spoke = refl;
    }

keeps_write : (bytes : List ℕ) (k : CallLooks) → TurnKeeps k (after_write bytes k)
keeps_write bytes k =
    record {
      givings = refl;
      acked = refl;
      soft = refl;
      window = refl;
      since = refl;
      kept = refl;
      previous = refl;
      rtt = refl;
      cwnd = refl;
      heard = refl;
      spoke = refl;
    }

keeps_shut : (k : CallLooks) → TurnKeeps k (after_shut k)
keeps_shut k =
    record {
      givings = refl;
      acked = refl;
      soft = refl;
      window = refl;
      since = refl;
      kept = refl;
      previous = refl;
      rtt = refl;
      cwnd = refl;
      heard = refl;
      spoke = refl;
    }

pub turn_keeps : (now : ℕ) (k f : CallLooks) → TurnsOn now k f → TurnKeeps k f
turn_keeps now k f (turns_none i) = keeps_same i
turn_keeps now k f (turns_read i j end bytes rest) =
    keeps_on i (after_read now end bytes i) j (keeps_read now end bytes i)
    (turn_keeps now (after_read now end bytes i) j rest)
turn_keeps now k f (turns_write i j bytes rest) =
    keeps_on i (after_write bytes i) j (keeps_write bytes i) (turn_keeps now (after_write bytes i) j rest)
turn_keeps now k f (turns_shut i j rest) =
    keeps_on i (after_shut i) j (keeps_shut i) (turn_keeps now (after_shut i) j rest)

-- so does how far it was given, and how far packets stand without a gap
pub turn_given : (now : ℕ) (k f : CallLooks) → TurnsOn now k f → given_of f.sent ≡ given_of k.sent
turn_given now k f turn = ap greatest_given (turn_keeps now k f turn).givings

pub turn_front : (now : ℕ) (k f : CallLooks) → TurnsOn now k f
    → front_of f.received.kept ≡ front_of k.received.kept
turn_front now k f turn = ap front_of (turn_keeps now k f turn).kept

-- ---- what rises

pub pieces_rise : (m n : ℕ) (b : Bool) → m ≤ n → pieces_by m b ≤ pieces_by n b
pieces_rise m n true low = omega arith
pieces_rise m n false low = omega arith

counting_rises : (m n : ℕ) (b : Bool) → m ≤ n → counting_by m b ≤ counting_by n b
counting_rises m n true low = omega arith
counting_rises m n false low = omega arith

pub pieces_shut : (n : ℕ) (b : Bool) → pieces_by n b ≤ pieces_by n true
pieces_shut n true = omega arith
pieces_shut n false = omega arith

pub counting_shut : (n : ℕ) (b : Bool) → counting_by n b ≤ counting_by n true
counting_shut n true = omega arith
counting_shut n false = omega arith

either_true : (a b : Bool) → b ≡ true → (a || b) ≡ true
either_true true b is = refl
either_true false b is = is

-- the pieces, the packets that are done with, and the ends of both streams
pub record TurnRises (a b : CallLooks) : Type 0 where
  pub pieces : pieces_of a.sent ≤ pieces_of b.sent
  pub counting : counting_of a.sent ≤ counting_of b.sent
  pub said : length a.sent.said ≤ length b.sent.said
  pub used : used_of a.received ≤ used_of b.received
  pub shut : a.sent.shut ≡ true → b.sent.shut ≡ true
  pub ended : a.received.ended ≡ true → b.received.ended ≡ true

rises_same : (k : CallLooks) → TurnRises k k
rises_same k =
    record {
      pieces = omega arith;
      counting = omega arith;
      said = omega arith;
      used = omega arith;
      shut = λ is. is;
      ended = λ is. is;
    }

rises_on : (a b c : CallLooks) → TurnRises a b → TurnRises b c → TurnRises a c
rises_on a b c p q =
    record {
      pieces = omega (arith, p.pieces, q.pieces);
      counting = omega (arith, p.counting, q.counting);
      said = omega (arith, p.said, q.said);
      used = omega (arith, p.used, q.used);
      shut = λ is. q.shut (p.shut is);
      ended = λ is. q.ended (p.ended is);
    }

rises_read : (now : ℕ) (end : Bool) (bytes : List ℕ) (k : CallLooks) → TurnRises k (after_read now end bytes k)
rises_read now end bytes k =
    record {
      pieces = omega arith;
      counting = omega arith;
      said = omega arith;
      used = used_reads end bytes k.received;
      shut = λ is. is;
      ended = λ is. either_true end k.received.ended is;
    }

rises_write : (bytes : List ℕ) (k : CallLooks) → TurnRises k (after_write bytes k)
rises_write bytes k =
    (let longer : length k.sent.said ≤ length (k.sent.said ++ bytes) =
    omega (arith, length-append k.sent.said bytes) in
    record {
      pieces = pieces_rise (length k.sent.said) (length (k.sent.said ++ bytes)) k.sent.shut longer;
      counting = counting_rises (length k.sent.said) (length (k.sent.said ++ bytes)) k.sent.shut longer;
      said = longer;
      used = omega arith;
      shut = λ is. is;
      ended = λ is. is;
    })

rises_shut : (k : CallLooks) → TurnRises k (after_shut k)
rises_shut k =
    record {
      pieces = pieces_shut (length k.sent.said) k.sent.shut;
      counting = counting_shut (length k.sent.said) k.sent.shut;
      said = omega arith;
      used = omega arith;
      shut = λ is. refl;
      ended = λ is. is;
    }

pub turn_rises : (now : ℕ) (k f : CallLooks) → TurnsOn now k f → TurnRises k f
turn_rises now k f (turns_none i) = rises_same i
turn_rises now k f (turns_read i j end bytes rest) =
    rises_on i (after_read now end bytes i) j (rises_read now end bytes i)
    (turn_rises now (after_read now end bytes i) j rest)
turn_rises now k f (turns_write i j bytes rest) =
    rises_on i (after_write bytes i) j (rises_write bytes i) (turn_rises now (after_write bytes i) j rest)
turn_rises now k f (turns_shut i j rest) =
    rises_on i (after_shut i) j (rises_shut i) (turn_rises now (after_shut i) j rest)

-- ---- how far it is

-- a flag that is set where another is isn't less
pub flag_rises : (a b : Bool) → (a ≡ true → b ≡ true) → flag a ≤ flag b
flag_rises true b more = rw (more refl) (omega arith)
flag_rises false b more = omega arith

flag_falls : (a b : Bool) → (a ≡ true → b ≡ true) → flag b ≤ flag a → b ≡ a
flag_falls true b more low = more refl
flag_falls false false more low = refl
flag_falls false true more low = absurd (omega arith)

-- of a record behind a turn, by its life
pub turn_far : (now : ℕ) (a b : CallRecord) → TurnsOn now a.looks b.looks → rank_of a.life ≤ rank_of b.life
    → far a ≤ far b
turn_far now a b turn life =
    let r = turn_rises now a.looks b.looks turn in
    let keeps = turn_keeps now a.looks b.looks turn in
    omega (
      arith,
      r.pieces,
      r.used,
      turn_given now a.looks b.looks turn,
      keeps.acked,
      turn_front now a.looks b.looks turn,
      flag_rises a.looks.sent.shut b.looks.sent.shut r.shut,
      flag_rises a.looks.received.ended b.looks.received.ended r.ended,
      life,
    )

-- where it is no further, each of these is as before
pub record TurnStands (a b : CallRecord) : Type 0 where
  pub pieces : pieces_of b.looks.sent ≡ pieces_of a.looks.sent
  pub used : used_of b.looks.received ≡ used_of a.looks.received
  pub shut : b.looks.sent.shut ≡ a.looks.sent.shut
  pub ended : b.looks.received.ended ≡ a.looks.received.ended
  pub rank : rank_of b.life ≡ rank_of a.life

pub turn_stands : (now : ℕ) (a b : CallRecord) → TurnsOn now a.looks b.looks → rank_of a.life ≤ rank_of b.life
    → far b ≤ far a → TurnStands a b
turn_stands now a b turn life stands =
    let r = turn_rises now a.looks b.looks turn in
    let keeps = turn_keeps now a.looks b.looks turn in
    let pieces = r.pieces in
    let used = r.used in
    let given = turn_given now a.looks b.looks turn in
    let acked = keeps.acked in
    let front = turn_front now a.looks b.looks turn in
    let shut = flag_rises a.looks.sent.shut b.looks.sent.shut r.shut in
    let ended = flag_rises a.looks.received.ended b.looks.received.ended r.ended in
    record {
      pieces = omega arith;
      used = omega arith;
      shut = flag_falls a.looks.sent.shut b.looks.sent.shut r.shut (omega arith);
      ended = flag_falls a.looks.received.ended b.looks.received.ended r.ended (omega arith);
      rank = omega arith;
    }
