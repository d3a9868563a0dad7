-- The row of a message that a live call has heard is that of the call itself: of the call that is there, or of one that
-- starts by it.
use Rattle.std.proofs.Common.{◌≡◌, ◌≤◌, ◌+◌, ◌&&◌, ◌||◌, cond, if◌then◌else◌, not, nat_le, nat_lt, ℕ, Bool, true}
use Rattle.std.proofs.Common.{false, List, Option, Some, None, refl, ◌∙◌, ap, sym, subst, arith}
use Rattle.std.proofs.lemmas.Bool.{and_parts}
use Rattle.std.proofs.lemmas.Bool.Decides.{nat_tests}
use Rattle.rx_model.specs.declared.pace.Pace.{Pace}
use Rattle.rx_model.specs.declared.answers.Took.{Took}
use Rattle.rx_model.specs.declared.answers.Took.TheVariants as tooks
use Rattle.rx_model.specs.declared.names.CallName.{CallName}
use Rattle.rx_model.specs.Body.{Body}
use Rattle.rx_model.specs.Body as bodies
use Rattle.rx_model.specs.Message.{Message, has_flag}
use Rattle.rx_model.specs.Names.{channel_of, connection_of}
use Rattle.rx_model.specs.declared.wire.TheConstants.{LAST_PACKET}
use Rattle.rx_rules.specs.CallLooks.{NodeView, call_row, fresh_call}
use Rattle.rx_rules.specs.Judging.{Facts, facts_of, is_data, is_right, live_row, opened, own_row, response_row, row_at}
use Rattle.rx_rules.specs.Judging.{side_row, took_named}
use Rattle.rx_rules.specs.Life.{after_later}
use Rattle.rx_rules.specs.Life as lives
use Rattle.rx_rules.specs.Looks.{CallRecord, Looks, call_at, channel_at, is_proved, latest_name, on_life}
use Rattle.rx_rules.specs.Records.{started_later}
use Rattle.rx_rules.specs.Setup.{Client, Kind, Server, Setup, is_client, pace_of, receiving_window}
use Rattle.rx_rules.specs.Slots.{node_view}
use Rattle.rx_between.proofs.Each.EachStep.{ViewOf, is_own, is_start}
use Rattle.rx_law.proofs.Asks.{data-is}
use Rattle.rx_history.proofs.Takes.{call_at-any}
use Rattle.rx_law.proofs.HearsTaken.{now-opened}

-- ---- the rows in front

-- one of them didn't hold
pub own_past : (b : Bool) (row rest got : Took) → is_own got ≡ true → is_own row ≡ false
    → (if b then row else rest) ≡ got → (b ≡ false) × (rest ≡ got)
own_past true row rest got own other is = absurd (let same : is_own row ≡ is_own got = ap is_own is in
    cc (same, own, other))
own_past false row rest got own other is = (refl, is)

-- the answer is the call's own; where its number is above its channel's, the node is a server, and the message is data
-- that a call may begin with
pub record OwnRow (kind : Kind) (f : Facts) (call got : Took) : Type 0 where
  pub row : call ≡ got
  pub served : f.is_above ≡ true → is_client kind ≡ false
  pub starts : f.is_above ≡ true → f.can_start ≡ true

pub above_can : (above can : Bool) → above ≡ true → (above && not can) ≡ false → can ≡ true
above_can true true high is = refl
above_can true false high is = absurd cc
above_can false can high is = absurd cc

-- whatever the kind of the node
pub own_side : (kind : Kind) (f : Facts) (call got : Took) → is_own got ≡ true → side_row kind f call ≡ got
    → OwnRow kind f call got
own_side (Server service nonces) f call got own is =
    let a = own_past (not f.is_known && not (f.can_start && f.has_number)) tooks.Strange _ got own refl is in
    let b = own_past (not f.is_known && not f.has_place) tooks.Full _ got own refl a.1 in
    let d = own_past f.stops_all tooks.Stopped _ got own refl b.1 in
    let e = own_past (not f.has_number) tooks.Strange _ got own refl d.1 in
    let g = own_past f.is_below tooks.Old _ got own refl e.1 in
    let h = own_past (f.is_above && not f.can_start) tooks.Strange _ got own refl g.1 in
    let i = own_past (f.is_above && f.is_handled) tooks.Busy _ got own refl h.1 in
    let j = own_past (f.is_above && (not f.is_live && f.is_crowded)) tooks.NoRoom _ got own refl i.1 in
    let k = own_past (not f.is_above && not f.is_active) tooks.Over call got own refl j.1 in
    record { row = k.1; served = λ above. refl; starts = λ above. above_can f.is_above f.can_start above h.0 }
own_side (Client host epoch) f call got own is =
    let a = own_past f.stops_all tooks.Stopped _ got own refl is in
    let b = own_past (not f.has_number) tooks.Strange _ got own refl a.1 in
    let d = own_past f.is_below tooks.Old _ got own refl b.1 in
    let e = own_past f.is_above tooks.Strange _ got own refl d.1 in
    let g = own_past (not f.is_active) tooks.Over call got own refl e.1 in
    record {
      row = g.1;
      served = λ above. absurd (let low = e.0 in cc (low, above));
      starts = λ above. absurd (let low = e.0 in cc (low, above));
    }

-- ---- the row of a live call

answered : (right proved : Bool) (got : Took) → is_own got ≡ true → response_row right proved ≡ got
    → tooks.Heard ≡ got
answered true proved got own is = is
answered false true got own is = absurd (let same : is_own tooks.Strange ≡ is_own got = ap is_own is in cc (same, own))
answered false false got own is = absurd (let same : is_own tooks.Stopped ≡ is_own got = ap is_own is in cc (same, own))

challenged_own : (b : Bool) (got : Took) → is_own got ≡ true → (if b then tooks.Heard else tooks.Strange) ≡ got
    → tooks.Heard ≡ got
challenged_own true got own is = is
challenged_own false got own is =
    absurd (let same : is_own tooks.Strange ≡ is_own got = ap is_own is in cc (same, own))

-- where the message was heard it is what the end of the call says
own_live : (s : Setup) (l : Looks) (k : CallRecord) (m : Message) (body : Body) (got : Took) → m.body ≡ body
    → is_own got ≡ true → live_row s l k m body ≡ got → call_row (node_view s l) m m.body k.looks ≡ got
own_live s l k m (bodies.Response bytes) got at own is =
    ap (λ (b : Body). call_row (node_view s l) m b k.looks) at
    ∙ answered (is_right s l k.name bytes) (is_proved l (connection_of k.name)) got own is
own_live s l k m (bodies.Challenge bytes) got at own is =
    ap (λ (b : Body). call_row (node_view s l) m b k.looks) at ∙ challenged_own _ got own is
own_live s l k m _ got at own is = is

-- a call that is looked for, with this row
pub record RowOf (v : NodeView) (m : Message) (got : Took) (o : Option CallRecord) : Type 0 where
  pub call : CallRecord
  pub there : o ≡ Some call
  pub row : call_row v m m.body call.looks ≡ got

own_at : (s : Setup) (l : Looks) (o : Option CallRecord) (m : Message) (got : Took) → is_own got ≡ true
    → row_at s l o m ≡ got → RowOf (node_view s l) m got o
own_at s l None m got own is = absurd (let same : is_own tooks.Over ≡ is_own got = ap is_own is in cc (same, own))
own_at s l (Some k) m got own is =
    record { call = k; there = refl; row = own_live s l k m m.body got refl own is }

-- ---- a call that starts

-- a packet that a call may begin with is kept, or has no slot
start_by : (strange again beyond clash slot : Bool) (got : Took) → is_own got ≡ true → again ≡ false
    → beyond ≡ false → clash ≡ false
    → (if strange then tooks.Strange else if again then tooks.Repeat else if beyond then tooks.Beyond
    else if clash then tooks.Clash else if slot then tooks.Kept else tooks.NoSlot) ≡ got → is_start got ≡ true
start_by true again beyond clash slot got own a b d is =
    absurd (let same : is_own tooks.Strange ≡ is_own got = ap is_own is in cc (same, own))
start_by false true beyond clash slot got own a b d is = absurd cc
start_by false false true clash slot got own a b d is = absurd cc
start_by false false false true slot got own a b d is = absurd cc
start_by false false false false true got own a b d is = ap is_start (sym is)
start_by false false false false false got own a b d is = ap is_start (sym is)

no_lower : (b : Bool) (seq : ℕ) → (b && nat_lt seq 0) ≡ false
no_lower true seq = grind (arith, nat_tests)
no_lower false seq = refl

fresh_starts : (v : NodeView) (m : Message) (payload : List ℕ) (pace : Pace) (now : ℕ) (got : Took)
    → v.client ≡ false → 1 ≤ m.seq → m.seq ≤ v.window → is_own got ≡ true
    → call_row v m (bodies.Chunk payload) (fresh_call pace now) ≡ got → is_start got ≡ true
fresh_starts v m payload pace now got client some low own is =
    let again : nat_le m.seq 0 ≡ false = grind (arith, nat_tests) in
    let within : nat_lt (0 + v.window) m.seq ≡ false = grind (arith, nat_tests) in
    start_by _ (nat_le m.seq 0 || false) (nat_lt (0 + v.window) m.seq)
    (false || (has_flag LAST_PACKET m.flags && nat_lt m.seq 0)) _ got own (rw again refl) within
    (no_lower (has_flag LAST_PACKET m.flags) m.seq) by_row
  where
    by_row : call_row (record v { client = false }) m (bodies.Chunk payload) (fresh_call pace now) ≡ got
    by_row = subst (λ (b : Bool). call_row (record v { client = b }) m (bodies.Chunk payload)
        (fresh_call pace now) ≡ got) client is

starts_data : (v : NodeView) (m : Message) (pace : Pace) (now : ℕ) (got : Took) (most : ℕ)
    → v.client ≡ false → v.window ≡ most → (is_data m.body && (nat_le 1 m.seq && nat_le m.seq most)) ≡ true
    → is_own got ≡ true → call_row v m m.body (fresh_call pace now) ≡ got → is_start got ≡ true
starts_data v m pace now got most client wide can own is =
    let parts = and_parts (is_data m.body) (nat_le 1 m.seq && nat_le m.seq most) can in
    let bounds = and_parts (nat_le 1 m.seq) (nat_le m.seq most) parts.1 in
    let first = bounds.0 in
    let last = bounds.1 in
    let some : 1 ≤ m.seq = grind (arith, nat_tests) in
    let low : m.seq ≤ v.window = grind (arith, nat_tests) in
    let chunk = data-is m.body parts.0 in
    fresh_starts v m chunk.0 pace now got client some low own
    (subst (λ (b : Body). call_row v m b (fresh_call pace now) ≡ got) chunk.1 is)

-- ---- the row of the message's own call

-- where its number is above its channel's it is data that its call starts by, and else the call is there
pub record OwnRows (s : Setup) (l : Looks) (c : CallName) (m : Message) (got : Took) : Type 0 where
  pub view : NodeView
  pub view_is : ViewOf s l view
  pub starts : nat_lt (channel_at l (channel_of c)).number c.number ≡ true → is_start got ≡ true
  pub fresh :
      nat_lt (channel_at l (channel_of c)).number c.number ≡ true
      → call_row view m m.body (fresh_call (pace_of s) l.now) ≡ got
  pub there : nat_lt (channel_at l (channel_of c)).number c.number ≡ false → RowOf view m got (call_at l c)

pub own_rows : (s : Setup) (l : Looks) (c : CallName) (m : Message) (got : Took) → m.number ≡ c.number
    → is_own got ≡ true → took_named s l c m ≡ got → OwnRows s l c m got
own_rows s l c m got number own is =
    let o = own_side s.kind (facts_of s l c m) (own_row s (opened s c l) c m) got own is in
    let r = own_at s (opened s c l) (call_at (opened s c l) c) m got own o.row in
    let new : CallRecord =
    record { name = c; life = lives.Waiting; looks = fresh_call (pace_of s) l.now } in
    let is_above : nat_lt (channel_at l (channel_of c)).number c.number ≡ true → (facts_of s l c m).is_above ≡ true =
    λ above. ap (λ (n : ℕ). nat_lt (channel_at l (channel_of c)).number n) number ∙ above in
    let fresh_row : nat_lt (channel_at l (channel_of c)).number c.number ≡ true
    → call_row (node_view s (opened s c l)) m m.body new.looks ≡ got =
    λ above. (
    let ended : Looks = on_life (latest_name l (channel_of c)) after_later l in
    let opens : opened s c l ≡ started_later s c l = ap (λ (b : Bool). cond b (started_later s c l) l) above in
    let there : call_at (opened s c l) c ≡ Some new =
    ap (λ (n : Looks). call_at n c) opens ∙ call_at-any c new ended refl (call_at ended c) refl in
    let same : r.call ≡ new = some_is r.call new (sym r.there ∙ there) in
    subst (λ (k : CallRecord). call_row (node_view s (opened s c l)) m m.body k.looks ≡ got) same r.row) in
    record {
      view = node_view s (opened s c l);
      view_is = record { client = refl; window = refl; now = now-opened s c l };
      starts = λ above.
          starts_data (node_view s (opened s c l)) m (pace_of s) l.now got (receiving_window s)
          (o.served (is_above above)) refl (o.starts (is_above above)) own (fresh_row above);
      fresh = fresh_row;
      there = λ below. (
          let opens : opened s c l ≡ l = ap (λ (b : Bool). cond b (started_later s c l) l) below in
          record {
            call = r.call;
            there = ap (λ (n : Looks). call_at n c) (sym opens) ∙ r.there;
            row = r.row;
          });
    }
  where
    some_is : (a b : CallRecord) → ◌≡◌ {A = Option CallRecord} (Some a) (Some b) → a ≡ b
    some_is a b same = cc
