-- The rows of a DATA or an ACK of a call that its server doesn't know, above its channel's latest call, whatever other
-- calls live there; and the call behind a DATA that starts it.
use Rattle.std.proofs.Common.{◌≡◌, ◌⊎◌, ◌≤◌, ◌&&◌, ◌==◌, cond, not, nat_le, nat_lt, ℕ, suc, Bool, true, false, List}
use Rattle.std.proofs.Common.{Option, Some, None, option_map, refl, ◌∙◌, ap, sym, subst, arith, inl, inr}
use Rattle.std.proofs.lemmas.Bool.{ne_eqb}
use Rattle.std.proofs.lemmas.Bool.Decides.{nat_tests}
use Rattle.rx_model.specs.declared.answers.Took.{Took}
use Rattle.rx_model.specs.declared.answers.Took.TheVariants as tooks
use Rattle.rx_model.specs.declared.names.CallName.{CallName}
use Rattle.rx_model.specs.declared.wire.TheConstants.{RX_CALL_DEAD}
use Rattle.rx_model.specs.Body.{AckBody, Body}
use Rattle.rx_model.specs.Body as bodies
use Rattle.rx_model.specs.Message.{Message}
use Rattle.rx_model.specs.Names.{channel_of, connection_of, same_name}
use Rattle.rx_model.specs.Strays.{is_stray}
use Rattle.rx_model.proofs.NameLaws.{name_itself}
use Rattle.rx_rules.specs.After.{prepared, taken_at, taken_data, taken_with, with_first}
use Rattle.rx_rules.specs.CallLooks.{CallLooks, NodeView, after_taken, call_row, fresh_call}
use Rattle.rx_rules.specs.Judging.{Facts, facts_of, is_data, live_row, opened, own_row, row_at, server_row, took_named}
use Rattle.rx_rules.specs.Life.{after_code, after_later}
use Rattle.rx_rules.specs.Looks.{CallRecord, Looks, call_at, channel_at, latest_name, on_life}
use Rattle.rx_rules.specs.Records.{started_later}
use Rattle.rx_rules.specs.Setup.{IsServer, Setup, pace_of, receiving_window}
use Rattle.rx_rules.specs.Slots.{node_view}
use Rattle.rx_history.proofs.Calls.{call-changed}
use Rattle.rx_history.proofs.Events.{call-by, calls-prepared}
use Rattle.rx_history.proofs.Moments.{now-prepared}
use Rattle.rx_history.proofs.Room.RoomTaken.{challenged-calls}
use Rattle.rx_history.proofs.Takes.{call_at-any}
use Rattle.rx_between.specs.Agreed.{MakesSense}
use Rattle.rx_between.proofs.Each.EachChange.{taken_alike}
use Rattle.rx_between.proofs.Each.EachStep.{is_start}
use Rattle.rx_between.proofs.Prepared.{prepared_number}
use Rattle.rx_closing.proofs.Messages.Opening.{CanBegin, begun_record, can_begin}
use Rattle.rx_closing.proofs.Owing.TooMuch.{server_side}
use Rattle.rx_progress.proofs.LawsMoves.{server_side as server_view}

-- ---- the rows of a server

-- what becomes of a DATA above its channel's number that can start its call
pub data AheadRow (f : Facts) (call : Took) : Type 0 where
  row_full : f.is_known ≡ false → f.has_place ≡ false → server_row f call ≡ tooks.Full → AheadRow f call
  row_busy : f.is_handled ≡ true → server_row f call ≡ tooks.Busy → AheadRow f call
  row_crowded : f.is_crowded ≡ true → server_row f call ≡ tooks.NoRoom → AheadRow f call
  row_begins : server_row f call ≡ call → AheadRow f call

ahead_rows : (f : Facts) (call : Took) → f.can_start ≡ true → f.has_number ≡ true → f.stops_all ≡ false
    → f.is_below ≡ false → f.is_above ≡ true → AheadRow f call
ahead_rows f call can has stops below above = by f.is_known refl f.has_place refl
  where
    then_ : (f.is_known ≡ true) ⊎ (f.is_known ≡ false) × (f.has_place ≡ true) → (h l r : Bool) → f.is_handled ≡ h
        → f.is_live ≡ l → f.is_crowded ≡ r → AheadRow f call
    then_ (inl known) true l r handled living crowded =
        row_busy handled (rw (known, stops, has, below, above, can, handled) refl)
    then_ (inr place) true l r handled living crowded =
        row_busy handled (rw (place.0, can, has, place.1, stops, below, above, handled) refl)
    then_ (inl known) false false true handled living crowded =
        row_crowded crowded (rw (known, stops, has, below, above, can, handled, living, crowded) refl)
    then_ (inr place) false false true handled living crowded =
        row_crowded crowded (rw (place.0, can, has, place.1, stops, below, above, handled, living, crowded) refl)
    then_ (inl known) false true r handled living crowded =
        row_begins (rw (known, stops, has, below, above, can, handled, living) refl)
    then_ (inr place) false true r handled living crowded =
        row_begins (rw (place.0, can, has, place.1, stops, below, above, handled, living) refl)
    then_ (inl known) false false false handled living crowded =
        row_begins (rw (known, stops, has, below, above, can, handled, living, crowded) refl)
    then_ (inr place) false false false handled living crowded =
        row_begins (rw (place.0, can, has, place.1, stops, below, above, handled, living, crowded) refl)

    by : (k : Bool) → f.is_known ≡ k → (p : Bool) → f.has_place ≡ p → AheadRow f call
    by true known p place = then_ (inl known) f.is_handled f.is_live f.is_crowded refl refl refl
    by false known true place = then_ (inr (known, place)) f.is_handled f.is_live f.is_crowded refl refl refl
    by false known false place = row_full known place (rw (known, can, has, place) refl)

-- a message that starts nothing is strange there
ahead_strange : (f : Facts) (call : Took) → f.can_start ≡ false → f.stops_all ≡ false → f.has_number ≡ true
    → f.is_below ≡ false → f.is_above ≡ true → server_row f call ≡ tooks.Strange
ahead_strange f call can stops has below above = of f.is_known refl
  where
    of : (b : Bool) → f.is_known ≡ b → server_row f call ≡ tooks.Strange
    of true known = rw (known, stops, has, below, above, can) refl
    of false other = rw (other, can) refl

below_by : (a b n : ℕ) → nat_lt a n ≡ true → b ≡ n → nat_lt b a ≡ false
below_by a b n less same = grind (arith, nat_tests)

has_one : (a b n : ℕ) → nat_lt a n ≡ true → b ≡ n → not (b == 0) ≡ true
has_one a b n less same =
    (let low : suc a ≤ n = grind (arith, nat_tests) in
    ap (λ (t : Bool). not t) (ne_eqb b 0 (λ (is : b ≡ 0). omega arith)))

can_by : (seq window : ℕ) → 1 ≤ seq → seq ≤ window → (nat_le 1 seq && nat_le seq window) ≡ true
can_by seq window low high =
    (let a : nat_le 1 seq ≡ true = grind (arith, nat_tests) in
    let b : nat_le seq window ≡ true = grind (arith, nat_tests) in rw (a, b) refl)

-- ---- a server without the call

module _ (s : Setup) (l : Looks) (c : CallName) (m : Message) (serves : IsServer s.kind)
    (ahead : nat_lt (channel_at l (channel_of c)).number c.number ≡ true) (own : m.number ≡ c.number) where
  -- what the node tells the call that starts
  abbrev pub ahead_view : NodeView
  ahead_view = node_view s (started_later s c l)

  -- what passed at its end before
  abbrev pub ahead_looks : CallLooks
  ahead_looks = fresh_call (pace_of s) l.now

  above_it : nat_lt (channel_at l (channel_of c)).number m.number ≡ true
  above_it = ap (λ (n : ℕ). nat_lt (channel_at l (channel_of c)).number n) own ∙ ahead

  -- the call is there once it starts
  opens_there : call_at (opened s c l) c ≡ Some (begun_record s c l.now)
  opens_there =
      ap (λ (b : Bool). call_at (cond b (started_later s c l) l) c) ahead
      ∙ call_at-any c (begun_record s c l.now) (on_life (latest_name l (channel_of c)) after_later l) refl
      (call_at (on_life (latest_name l (channel_of c)) after_later l) c) refl

  opens_same : opened s c l ≡ started_later s c l
  opens_same = ap (λ (b : Bool). cond b (started_later s c l) l) ahead

  -- the row of its end
  own_ahead : (payload : List ℕ) → m.body ≡ bodies.Chunk payload
      → own_row s (opened s c l) c m ≡ call_row ahead_view m m.body ahead_looks
  own_ahead payload at =
      ap (λ (o : Option CallRecord). row_at s (opened s c l) o m) opens_there
      ∙ ap (λ (n : Looks). live_row s n (begun_record s c l.now) m m.body) opens_same
      ∙ ap (live_row s (started_later s c l) (begun_record s c l.now) m) at

  -- a DATA that makes sense can start it
  pub can_start_so : (payload : List ℕ) → m.body ≡ bodies.Chunk payload
      → MakesSense (call_row ahead_view m m.body ahead_looks)
      → CanBegin ahead_view m (call_row ahead_view m m.body ahead_looks)
  can_start_so payload at sense =
      subst (λ (b : Body). CanBegin ahead_view m (call_row ahead_view m b ahead_looks)) (sym at)
      (can_begin ahead_view m payload (pace_of s) l.now (server_view s.kind serves)
      (subst (λ (b : Body). MakesSense (call_row ahead_view m b ahead_looks)) at sense))

  -- what becomes of it
  pub data WhatComes : Type 0 where
    comes_full : took_named s l c m ≡ tooks.Full → WhatComes
    comes_busy : (facts_of s l c m).is_handled ≡ true → took_named s l c m ≡ tooks.Busy → WhatComes
    comes_crowded : (facts_of s l c m).is_crowded ≡ true → WhatComes
    comes_first : took_named s l c m ≡ call_row ahead_view m m.body ahead_looks → WhatComes

  pub what_comes : (payload : List ℕ) → m.body ≡ bodies.Chunk payload
      → MakesSense (call_row ahead_view m m.body ahead_looks) → WhatComes
  what_comes payload at sense =
      of (ahead_rows (facts_of s l c m) (own_row s (opened s c l) c m)
      (ap (λ (b : Bool). b && (nat_le 1 m.seq && nat_le m.seq (receiving_window s))) (ap is_data at)
      ∙ can_by m.seq (receiving_window s) can.low can.high)
      (has_one (channel_at l (channel_of c)).number m.number c.number ahead own) (ap (is_stray m) at)
      (below_by (channel_at l (channel_of c)).number m.number c.number ahead own) above_it)
    where
      can : CanBegin ahead_view m (call_row ahead_view m m.body ahead_looks)
      can = can_start_so payload at sense

      side_is : took_named s l c m ≡ server_row (facts_of s l c m) (own_row s (opened s c l) c m)
      side_is = server_side s.kind (facts_of s l c m) (own_row s (opened s c l) c m) serves

      of : AheadRow (facts_of s l c m) (own_row s (opened s c l) c m) → WhatComes
      of (row_full known place row) = comes_full (side_is ∙ row)
      of (row_busy handled row) = comes_busy handled (side_is ∙ row)
      of (row_crowded crowded row) = comes_crowded crowded
      of (row_begins row) = comes_first (side_is ∙ row ∙ own_ahead payload at)

  -- an ACK of it is strange
  pub ack_strange : (a : AckBody) → m.body ≡ bodies.Ack a → took_named s l c m ≡ tooks.Strange
  ack_strange a at =
      server_side s.kind (facts_of s l c m) (own_row s (opened s c l) c m) serves
      ∙ ahead_strange (facts_of s l c m) (own_row s (opened s c l) c m)
      (ap (λ (b : Body). is_data b && (nat_le 1 m.seq && nat_le m.seq (receiving_window s))) at)
      (ap (is_stray m) at)
      (has_one (channel_at l (channel_of c)).number m.number c.number ahead own)
      (below_by (channel_at l (channel_of c)).number m.number c.number ahead own) above_it

  -- the call behind its first message
  pub first_there : (got : Took) → is_start got ≡ true
      → call_at (taken_with s got c m (prepared s got (connection_of c) l)) c
      ≡ Some (record (begun_record s c l.now) { looks = after_taken ahead_view got m ahead_looks })
  first_there got starts = of got starts
    where
      piece : (got : Took) → call_at (taken_data s got c m (opened s c (prepared s got (connection_of c) l))) c
          ≡ Some (record (begun_record s c l.now) { looks = after_taken ahead_view got m ahead_looks })
      piece got =
          let r : Looks = prepared s got (connection_of c) l in
          let t : Looks = started_later s c r in
          let now : r.now ≡ l.now = now-prepared s got (connection_of c) l in
          let same : opened s c r ≡ t =
          ap (λ (b : Bool). cond b (started_later s c r) r)
          (ap (λ (n : ℕ). nat_lt n c.number) (prepared_number s got l (channel_of c)) ∙ ahead) in
          let there : call_at t c ≡ Some (begun_record s c r.now) =
          call_at-any c (begun_record s c r.now) (on_life (latest_name r (channel_of c)) after_later r) refl
          (call_at (on_life (latest_name r (channel_of c)) after_later r) c) refl in
          ap (λ (n : Looks). call_at (taken_data s got c m n) c) same
          ∙ call-by c (record (taken_at s got c m t) { firsts = with_first got c m.seq t.firsts })
          (taken_data s got c m t)
          (challenged-calls s c (record (taken_at s got c m t) { firsts = with_first got c m.seq t.firsts }))
          ∙ call-changed c c (λ (j : CallRecord). record j { looks = after_taken (node_view s t) got m j.looks }) t
          (λ j. refl)
          ∙ (λ i. cond (name_itself c i)
          (option_map {T = CallRecord} (λ (j : CallRecord). record j
          { looks = after_taken (node_view s t) got m j.looks })
          (there i)) (there i))
          ∙ ap (λ (n : ℕ). Some (record (begun_record s c n) {
            looks = after_taken (node_view s t) got m (fresh_call (pace_of s) n);
          })) now
          ∙ ap (λ (k : CallLooks). Some (record (begun_record s c l.now) { looks = k }))
          (taken_alike (node_view s t) ahead_view got m ahead_looks refl now)

      of : (got : Took) → is_start got ≡ true
          → call_at (taken_with s got c m (prepared s got (connection_of c) l)) c
          ≡ Some (record (begun_record s c l.now) { looks = after_taken ahead_view got m ahead_looks })
      of tooks.Kept starts = piece tooks.Kept
      of tooks.NoSlot starts = piece tooks.NoSlot
      of _ starts = absurd cc

-- ---- answers that start nothing

none_prepared : (s : Setup) (got : Took) (l : Looks) (c : CallName) → call_at l c ≡ None
    → call_at (prepared s got (connection_of c) l) c ≡ None
none_prepared s got l c none =
    call-by c l (prepared s got (connection_of c) l) (calls-prepared s got (connection_of c) l) ∙ none

pub strange_none : (s : Setup) (l : Looks) (c : CallName) (m : Message) → call_at l c ≡ None
    → call_at (taken_with s tooks.Strange c m (prepared s tooks.Strange (connection_of c) l)) c ≡ None
strange_none s l c m none = none_prepared s tooks.Strange l c none

pub full_none : (s : Setup) (l : Looks) (c : CallName) (m : Message) → call_at l c ≡ None
    → call_at (taken_with s tooks.Full c m (prepared s tooks.Full (connection_of c) l)) c ≡ None
full_none s l c m none = none_prepared s tooks.Full l c none

pub busy_none : (s : Setup) (l : Looks) (c : CallName) (m : Message) → call_at l c ≡ None
    → call_at (taken_with s tooks.Busy c m (prepared s tooks.Busy (connection_of c) l)) c ≡ None
busy_none s l c m none =
    call-changed c d change r (λ j. refl)
    ∙ of (same_name c d) (call_at r c) (none_prepared s tooks.Busy l c none)
  where
    r : Looks
    r = prepared s tooks.Busy (connection_of c) l

    d : CallName
    d = latest_name r (channel_of c)

    change : CallRecord → CallRecord
    change k = record k { life = after_code RX_CALL_DEAD k.life }

    of : (b : Bool) (o : Option CallRecord) → o ≡ None → cond b (option_map change o) o ≡ None
    of true None is = refl
    of false None is = refl
    of b (Some k) is = absurd (let no : ◌≡◌ {A = Option CallRecord} (Some k) None = is in cc (no))
