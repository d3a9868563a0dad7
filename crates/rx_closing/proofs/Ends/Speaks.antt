-- What an end hears of the data and acknowledgements that the other gave, and what it owes behind them.
use Rattle.std.proofs.Common.{◌≡◌, ◌≤◌, ◌+◌, ◌==◌, ◌&&◌, not, if◌then◌else◌, nat_le, nat_lt, ℕ, suc, Bool, true, false}
use Rattle.std.proofs.Common.{List, [], ◌∷◌, Option, Some, None, refl, ap, sym, subst, ◌∙◌, ⊎_elim, option_map, arith}
use Rattle.std.proofs.lemmas.Bool.{or_cases}
use Rattle.rx_model.specs.declared.answers.Took.{Took}
use Rattle.rx_model.specs.declared.answers.Took.TheVariants as tooks
use Rattle.rx_model.specs.declared.wire.TheConstants.{ACK_DELAY_MS, ACK_DELAY, ACK_OUT_OF_SEQUENCE, ACK_PING}
use Rattle.rx_model.specs.declared.wire.TheConstants.{ACK_PING_RESPONSE, ACK_REQUESTED, REQUEST_ACK}
use Rattle.rx_model.specs.Body.{AckBody, Body}
use Rattle.rx_model.specs.Body as bodies
use Rattle.rx_model.specs.Message.{Message, has_flag}
use Rattle.rx_rules.specs.CallItems.{Sending, Piece, Ack, after_sending}
use Rattle.rx_rules.specs.Sent.{piece_at}
use Rattle.rx_rules.specs.CallLooks.{CallLooks, NodeView, after_chunk, after_data, after_read, after_taken, call_row}
use Rattle.rx_rules.specs.CallLooks.{found}
use Rattle.rx_rules.specs.Owing.{Owed, ack_delay_of, at_once, behind_read, delayed, delayed_by, hastened, owed_for}
use Rattle.rx_rules.specs.Owing.{owed_for_ack, owed_for_done, owed_for_kept, owed_for_read}
use Rattle.rx_rules.specs.Received.{front_of, has_hole, used_of}
use Rattle.rx_rules.specs.Received as packets
use Rattle.rx_rules.specs.Setup.{Setup}
use Rattle.rx_between.specs.Agreed.{MakesSense}
use Rattle.rx_closing.proofs.Ends.BothEnds.{IsFit}
use Rattle.rx_closing.proofs.Ends.EndFacts.{fit_taken}
use Rattle.rx_closing.proofs.Ends.FrozenPolls.{has_piece, has_ping}
use Rattle.rx_closing.proofs.Ends.FrozenTakes.{heard_ack}
use Rattle.rx_closing.proofs.Steps.{GivesOut, TakesIn, TurnsOn, gives_none, gives_one, takes_none, takes_one}
use Rattle.rx_closing.proofs.Steps.{turns_none, turns_read, turns_shut, turns_write}

-- ---- what was said

-- messages with these pieces and acknowledgements
pub data Speaks : List Sending → List Message → Type 0 where
  speaks_none : Speaks [] []
  speaks_piece : (seq : ℕ) (again : Bool) (m : Message) (payload : List ℕ) (xs : List Sending) (ms : List Message)
      → m.body ≡ bodies.Chunk payload → Speaks xs ms → Speaks (Piece seq again ∷ xs) (m ∷ ms)
  speaks_ack : (reason serial : ℕ) (m : Message) (a : AckBody) (xs : List Sending) (ms : List Message)
      → m.body ≡ bodies.Ack a → a.reason ≡ reason → Speaks xs ms → Speaks (Ack reason serial ∷ xs) (m ∷ ms)

-- by polls
pub polls_speak : (s : Setup) (now : ℕ) (j : CallLooks) (xs : List Sending) (ms : List Message) (f : CallLooks)
    → GivesOut s now j xs ms f → Speaks xs ms
polls_speak s now j xs ms f (gives_none i idle) = speaks_none
polls_speak s now j xs ms f (gives_one i g (Piece seq again) m ys ns next given rest) =
    speaks_piece seq again m (piece_at i.sent seq).payload ys ns given.body
    (polls_speak s now (after_sending now (Piece seq again) i) ys ns g rest)
polls_speak s now j xs ms f (gives_one i g (Ack reason serial) m ys ns next given rest) =
    speaks_ack reason serial m _ ys ns given.body refl
    (polls_speak s now (after_sending now (Ack reason serial) i) ys ns g rest)

-- nothing, where nothing was given
some-none : (y : Sending) (zs : List Sending) → ◌≡◌ {A = List Sending} (y ∷ zs) [] → ⊥
some-none y zs is = cc

pub none_said : (xs : List Sending) (ms : List Message) → Speaks xs ms → xs ≡ [] → ms ≡ []
none_said xs ms speaks_none is = refl
none_said xs ms (speaks_piece seq again m payload ys ns chunk rest) is = absurd (some-none (Piece seq again) ys is)
none_said xs ms (speaks_ack reason serial m a ys ns body same rest) is = absurd (some-none (Ack reason serial) ys is)

-- and then an end that takes it stays as it is
some-message : (y : Message) (zs : List Message) → ◌≡◌ {A = List Message} (y ∷ zs) [] → ⊥
some-message y zs is = cc

pub took_none : (t : Setup) (now : ℕ) (k : CallLooks) (ms : List Message) (f : CallLooks) → TakesIn t now k ms f
    → ms ≡ [] → f ≡ k
took_none t now k ms f (takes_none i) is = refl
took_none t now k ms f (takes_one i g m ns v got view row sense rest) is = absurd (some-message m ns is)

-- polls leave what an end received, and when it heard
pub record SameHeard (k f : CallLooks) : Type 0 where
  pub received : f.received ≡ k.received
  pub heard : f.heard ≡ k.heard

pub polls_leave : (s : Setup) (now : ℕ) (j : CallLooks) (xs : List Sending) (ms : List Message) (f : CallLooks)
    → GivesOut s now j xs ms f → SameHeard j f
polls_leave s now j xs ms f (gives_none i idle) = record { received = refl; heard = refl }
polls_leave s now j xs ms f (gives_one i g (Piece seq again) m ys ns next given rest) =
    (let behind = polls_leave s now (after_sending now (Piece seq again) i) ys ns g rest in
    record { received = behind.received; heard = behind.heard })
polls_leave s now j xs ms f (gives_one i g (Ack reason serial) m ys ns next given rest) =
    (let behind = polls_leave s now (after_sending now (Ack reason serial) i) ys ns g rest in
    record { received = behind.received; heard = behind.heard })

-- ---- what is owed

-- something is, and is due by a moment
pub record DueBy (time : ℕ) (q : Option Owed) : Type 0 where
  pub owed : Owed
  pub is : q ≡ Some owed
  pub by : owed.rank ≤ time

due-one : (time : ℕ) (o : Owed) → o.rank ≤ time → DueBy time (Some o)
due-one time o by = record { owed = o; is = refl; by = by }

due-at-once : (time reason serial : ℕ) → DueBy time (at_once reason serial)
due-at-once time reason serial =
    due-one time (record { reason = reason; serial = serial; rank = 0 }) (omega arith)

due-behind : (time now : ℕ) (prompt : Bool) (reason serial : ℕ) → prompt ≡ false
    → DueBy time (behind_read now prompt reason serial)
due-behind time now true reason serial steady = absurd cc
due-behind time now false reason serial steady =
    due-one time (record { reason = reason; serial = serial; rank = 0 }) (omega arith)

due-delayed : (time now serial : ℕ) (q : Option Owed) → DueBy time q → DueBy time (delayed now serial q)
due-delayed time now serial (Some p) due = due
due-delayed time now serial None due = absurd (let is = due.is in none-some due.owed is)
  where
    none-some : (o : Owed) → ◌≡◌ {A = Option Owed} None (Some o) → ⊥
    none-some o is = cc

soon-delayed : (now serial : ℕ) (q : Option Owed) → ((o : Owed) → q ≡ Some o → o.rank ≤ now + ACK_DELAY_MS)
    → DueBy (now + ACK_DELAY_MS) (delayed now serial q)
soon-delayed now serial (Some p) low = due-one (now + ACK_DELAY_MS) p (low p refl)
soon-delayed now serial None low =
    due-one (now + ACK_DELAY_MS) (record {
      reason = ACK_DELAY;
      serial = serial;
      rank = now + ACK_DELAY_MS;
    }) (omega arith)

-- whatever a packet that is kept makes of it
kept-by : (P : Option Owed → Type 0) (now : ℕ) (prompt hole : Bool) (m : Message) (front : ℕ) (owed : Option Owed)
    → ((reason serial : ℕ) → P (at_once reason serial))
    → ((reason serial : ℕ) → P (behind_read now prompt reason serial))
    → prompt ≡ false → P (delayed now m.serial owed) → P (owed_for_kept now prompt hole m front owed)
kept-by P now prompt hole m front owed once behind steady late =
    of (m.seq == suc front) (has_flag REQUEST_ACK m.flags) (prompt && hole)
  where
    of : (next asks fills : Bool)
        → P (if not next then at_once ACK_OUT_OF_SEQUENCE m.serial
        else if asks then behind_read now prompt ACK_REQUESTED m.serial
        else if fills then behind_read now prompt ACK_DELAY m.serial
        else delayed_by (ack_delay_of prompt m.flags) now m.serial owed)
    of false asks fills = once ACK_OUT_OF_SEQUENCE m.serial
    of true true fills = behind ACK_REQUESTED m.serial
    of true false true = behind ACK_DELAY m.serial
    of true false false = rw steady late

-- an answer to data that makes sense
abbrev IsData : Took → Type 0
IsData tooks.Kept = Unit {0}
IsData tooks.Repeat = Unit {0}
IsData tooks.NoSlot = Unit {0}
IsData _ = ⊥

due-for : (time : ℕ) (got : Took) (now : ℕ) (prompt hole : Bool) (m : Message) (front : ℕ) (owed : Option Owed)
    → IsData got → prompt ≡ false → DueBy time owed → DueBy time (owed_for got now prompt hole m front owed)
due-for time tooks.Kept now prompt hole m front owed data_ steady due =
    kept-by (DueBy time) now prompt hole m front owed (λ reason serial. due-at-once time reason serial)
    (λ reason serial. due-behind time now prompt reason serial steady) steady
    (due-delayed time now m.serial owed due)
due-for time tooks.Repeat now prompt hole m front owed data_ steady due = due-at-once time _ m.serial
due-for time tooks.NoSlot now prompt hole m front owed data_ steady due = due-at-once time _ m.serial
due-for time tooks.Beyond now prompt hole m front owed data_ steady due = absurd data_
due-for time _ now prompt hole m front owed data_ steady due = due

soon-for : (got : Took) (now : ℕ) (prompt hole : Bool) (m : Message) (front : ℕ) (owed : Option Owed) → IsData got
    → prompt ≡ false → ((o : Owed) → owed ≡ Some o → o.rank ≤ now + ACK_DELAY_MS)
    → DueBy (now + ACK_DELAY_MS) (owed_for got now prompt hole m front owed)
soon-for tooks.Kept now prompt hole m front owed data_ steady low =
    kept-by (DueBy (now + ACK_DELAY_MS)) now prompt hole m front owed
    (λ reason serial. due-at-once (now + ACK_DELAY_MS) reason serial)
    (λ reason serial. due-behind (now + ACK_DELAY_MS) now prompt reason serial steady) steady
    (soon-delayed now m.serial owed low)
soon-for tooks.Repeat now prompt hole m front owed data_ steady low = due-at-once (now + ACK_DELAY_MS) _ m.serial
soon-for tooks.NoSlot now prompt hole m front owed data_ steady low = due-at-once (now + ACK_DELAY_MS) _ m.serial
soon-for tooks.Beyond now prompt hole m front owed data_ steady low = absurd data_
soon-for _ now prompt hole m front owed data_ steady low = absurd data_

-- ---- one message

arrival-rows : (b c d e s : Bool) (got : Took)
    → (if b then tooks.Strange else if c then tooks.Repeat else if d then tooks.Beyond else if e then tooks.Clash
    else if s then tooks.Kept else tooks.NoSlot) ≡ got → MakesSense got → IsData got
arrival-rows true c d e s got is sense = absurd (subst MakesSense (sym is) sense)
arrival-rows false true d e s got is sense = subst IsData is tt
arrival-rows false false true e s got is sense = absurd (subst MakesSense (sym is) sense)
arrival-rows false false false true s got is sense = absurd (subst MakesSense (sym is) sense)
arrival-rows false false false false true got is sense = subst IsData is tt
arrival-rows false false false false false got is sense = subst IsData is tt

chunk-data : (v : NodeView) (got : Took) (m : Message) (payload : List ℕ) (k : CallLooks)
    → m.body ≡ bodies.Chunk payload
    → call_row v m m.body k ≡ got → MakesSense got → IsData got
chunk-data v got m payload k chunk row sense =
    arrival-rows _ _ _ _ _ got (ap (λ (b : Body). call_row v m b k) (sym chunk) ∙ row) sense

chunk-taken : (v : NodeView) (got : Took) (m : Message) (payload : List ℕ) (k : CallLooks)
    → m.body ≡ bodies.Chunk payload
    → IsData got → after_taken v got m k ≡ after_data got v.now m payload (found v.client k)
chunk-taken v tooks.Kept m payload k chunk data_ = ap (λ (b : Body). after_chunk v tooks.Kept m b k) chunk
chunk-taken v tooks.Repeat m payload k chunk data_ = ap (λ (b : Body). after_chunk v tooks.Repeat m b k) chunk
chunk-taken v tooks.NoSlot m payload k chunk data_ = ap (λ (b : Body). after_chunk v tooks.NoSlot m b k) chunk
chunk-taken v tooks.Beyond m payload k chunk data_ = absurd data_
chunk-taken v _ m payload k chunk data_ = absurd data_

-- what messages leave of an end: it heard them, and owes what it owed, or what they ask for
pub record Hears (now : ℕ) (xs : List Sending) (k f : CallLooks) : Type 0 where
  pub heard : (xs ≡ [] → ⊥) → f.heard ≡ now
  pub since : k.heard ≡ now → f.heard ≡ now
  pub spoke : f.spoke ≡ k.spoke
  pub due : (time : ℕ) → DueBy time k.owed_ack → DueBy time f.owed_ack
  pub piece : has_piece xs ≡ true → DueBy (now + ACK_DELAY_MS) f.owed_ack
  pub ping : has_ping xs ≡ true → DueBy (now + ACK_DELAY_MS) f.owed_ack

-- of one
record HearsOne (now : ℕ) (k f : CallLooks) : Type 0 where
  heard : f.heard ≡ now
  spoke : f.spoke ≡ k.spoke
  due : (time : ℕ) → DueBy time k.owed_ack → DueBy time f.owed_ack

hears-piece : (v : NodeView) (got : Took) (m : Message) (payload : List ℕ) (k : CallLooks)
    → m.body ≡ bodies.Chunk payload → call_row v m m.body k ≡ got → MakesSense got → k.cwnd.prompt ≡ false
    → HearsOne v.now k (after_taken v got m k)
hears-piece v got m payload k chunk row sense steady =
    let data_ = chunk-data v got m payload k chunk row sense in
    subst (λ (i : CallLooks). HearsOne v.now k i) (sym (chunk-taken v got m payload k chunk data_)) (record {
      heard = refl;
      spoke = refl;
      due =
          λ time due. due-for time got v.now k.cwnd.prompt (has_hole k.received) m (front_of k.received.kept) k.owed_ack
          data_ steady due;
    })

soon-piece : (v : NodeView) (got : Took) (m : Message) (payload : List ℕ) (k : CallLooks)
    → m.body ≡ bodies.Chunk payload → call_row v m m.body k ≡ got → MakesSense got → k.cwnd.prompt ≡ false
    → ((o : Owed) → k.owed_ack ≡ Some o → o.rank ≤ v.now + ACK_DELAY_MS)
    → DueBy (v.now + ACK_DELAY_MS) (after_taken v got m k).owed_ack
soon-piece v got m payload k chunk row sense steady low =
    let data_ = chunk-data v got m payload k chunk row sense in
    subst (λ (i : CallLooks). DueBy (v.now + ACK_DELAY_MS) i.owed_ack)
    (sym (chunk-taken v got m payload k chunk data_))
    (soon-for got v.now k.cwnd.prompt (has_hole k.received) m (front_of k.received.kept) k.owed_ack data_ steady low)

due-ack : (time reason serial : ℕ) (q : Option Owed) → DueBy time q → DueBy time (owed_for_ack reason serial q)
due-ack time reason serial q due = of (reason == ACK_PING)
  where
    of : (b : Bool) → DueBy time (if b then at_once ACK_PING_RESPONSE serial else q)
    of true = due-at-once time ACK_PING_RESPONSE serial
    of false = due

soon-ping : (time reason serial : ℕ) (q : Option Owed) → (reason == ACK_PING) ≡ true
    → DueBy time (owed_for_ack reason serial q)
soon-ping time reason serial q ping = of (reason == ACK_PING) ping
  where
    of : (b : Bool) → b ≡ true → DueBy time (if b then at_once ACK_PING_RESPONSE serial else q)
    of true is = due-at-once time ACK_PING_RESPONSE serial
    of false is = absurd cc

hears-ack : (v : NodeView) (got : Took) (m : Message) (a : AckBody) (k : CallLooks) → m.body ≡ bodies.Ack a
    → call_row v m m.body k ≡ got → MakesSense got → HearsOne v.now k (after_taken v got m k)
hears-ack v got m a k body row sense =
    subst (λ (i : CallLooks). HearsOne v.now k i) (sym (heard_ack v got m a k body row sense)) (record {
      heard = refl;
      spoke = refl;
      due = λ time due. due-ack time a.reason m.serial k.owed_ack due;
    })

pinged-ack : (time : ℕ) (v : NodeView) (got : Took) (m : Message) (a : AckBody) (k : CallLooks) → m.body ≡ bodies.Ack a
    → call_row v m m.body k ≡ got → MakesSense got → (a.reason == ACK_PING) ≡ true
    → DueBy time (after_taken v got m k).owed_ack
pinged-ack time v got m a k body row sense ping =
    subst (λ (i : CallLooks). DueBy time i.owed_ack) (sym (heard_ack v got m a k body row sense))
    (soon-ping time a.reason m.serial k.owed_ack ping)

-- ---- all messages

pub takes_hear : (t : Setup) (now : ℕ) (k : CallLooks) (xs : List Sending) (ms : List Message) (f : CallLooks)
    → TakesIn t now k ms f → Speaks xs ms → IsFit now k → Hears now xs k f
takes_hear t now k xs ms f (takes_none i) speaks_none fit =
    record {
      heard = λ some. absurd (some refl);
      since = λ is. is;
      spoke = refl;
      due = λ time due. due;
      piece = λ some. absurd cc;
      ping = λ some. absurd cc;
    }
takes_hear t now k xs ms f (takes_one i g m ns v got view row sense rest)
    (speaks_piece seq again n payload ys os chunk speaks) fit =
    (let at = view.moment in
    let one = hears-piece v got m payload i chunk row sense fit.steady in
    let all = takes_hear t now (after_taken v got m i) ys ns g rest speaks
    (fit_taken now v got m i (omega (arith, at)) row fit) in
    let soon : DueBy (now + ACK_DELAY_MS) (after_taken v got m i).owed_ack =
    subst (λ (n_ : ℕ). DueBy (n_ + ACK_DELAY_MS) (after_taken v got m i).owed_ack) at
    (soon-piece v got m payload i chunk row sense fit.steady
    (λ o is. (let low = fit.low o is in omega (arith, low, at)))) in
    record {
      heard = λ some. all.since (one.heard ∙ at);
      since = λ is. all.since (one.heard ∙ at);
      spoke = all.spoke ∙ one.spoke;
      due = λ time due. all.due time (one.due time due);
      piece = λ some. all.due (now + ACK_DELAY_MS) soon;
      ping = λ some. all.ping some;
    })
takes_hear t now k xs ms f (takes_one i g m ns v got view row sense rest)
    (speaks_ack reason serial n a ys os body is speaks) fit =
    (let at = view.moment in
    let one = hears-ack v got m a i body row sense in
    let all = takes_hear t now (after_taken v got m i) ys ns g rest speaks
    (fit_taken now v got m i (omega (arith, at)) row fit) in
    record {
      heard = λ some. all.since (one.heard ∙ at);
      since = λ same. all.since (one.heard ∙ at);
      spoke = all.spoke ∙ one.spoke;
      due = λ time due. all.due time (one.due time due);
      piece = all.piece;
      ping = λ some. ⊎_elim
          (λ (here : (reason == ACK_PING) ≡ true). all.due (now + ACK_DELAY_MS)
          (pinged-ack (now + ACK_DELAY_MS) v got m a i body row sense (ap (λ (n_ : ℕ). n_ == ACK_PING) is ∙ here)))
          (λ (behind : has_ping ys ≡ true). all.ping behind) (or_cases (reason == ACK_PING) (has_ping ys) some);
    })

-- ---- a turn

due-hastened : (time now : ℕ) (q : Option Owed) → DueBy time q → DueBy time (option_map (hastened now) q)
due-hastened time now None due = absurd (none-some due.owed due.is)
  where
    none-some : (o : Owed) → ◌≡◌ {A = Option Owed} None (Some o) → ⊥
    none-some o is = cc
due-hastened time now (Some p) due = due-one time (hastened now p) (of (nat_le p.rank (now + 1)))
  where
    some-owed : (a b : Owed) → ◌≡◌ {A = Option Owed} (Some a) (Some b) → a ≡ b
    some-owed a b same = cc

    of : (b : Bool) → (if b then 0 else p.rank) ≤ time
    of true = omega arith
    of false = (let by = due.by in
        let same : p.rank ≡ due.owed.rank = ap (λ (o : Owed). o.rank) (some-owed p due.owed due.is) in
        omega (arith, by, same))

due-read : (time now : ℕ) (prompt : Bool) (before after : ℕ) (q : Option Owed) → DueBy time q
    → DueBy time (owed_for_read now prompt before after q)
due-read time now prompt before after q due = of (nat_lt before after) prompt
  where
    of : (more b : Bool) → DueBy time (if more then owed_for_done now b q else q)
    of true true = due-hastened time now (delayed now 0 q) (due-delayed time now 0 q due)
    of true false = due-delayed time now 0 q due
    of false b = due

-- what it leaves
pub record TurnHears (k f : CallLooks) : Type 0 where
  pub heard : f.heard ≡ k.heard
  pub due : (time : ℕ) → DueBy time k.owed_ack → DueBy time f.owed_ack

pub turn_hears : (now : ℕ) (k f : CallLooks) → TurnsOn now k f → TurnHears k f
turn_hears now k f (turns_none i) = record { heard = refl; due = λ time due. due }
turn_hears now k f (turns_read i g end bytes rest) =
    (let behind = turn_hears now (after_read now end bytes i) g rest in
    record {
      heard = behind.heard;
      due = λ time due. behind.due time
          (due-read time now i.cwnd.prompt (used_of i.received) (used_of (packets.after_read end bytes i.received))
          i.owed_ack due);
    })
turn_hears now k f (turns_write i g bytes rest) =
    (let behind = turn_hears now _ g rest in record { heard = behind.heard; due = behind.due })
turn_hears now k f (turns_shut i g rest) =
    (let behind = turn_hears now _ g rest in record { heard = behind.heard; due = behind.due })
