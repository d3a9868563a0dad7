-- A message for its channel's live call, or that starts one: the row of its call, and the look-ups behind it.
use Rattle.std.proofs.Common.{◌≡◌, ◌⊎◌, ◌<◌, ◌≤◌, ◌&&◌, ◌==◌, ℕ, if◌then◌else◌, not, nat_le, nat_lt}
use Rattle.std.proofs.Common.{is_some, Bool, true, false}
use Rattle.std.proofs.Common.{Option, Some, refl, ◌∙◌, ap, sym, subst, inl, inr, arith}
use Rattle.std.proofs.lemmas.Bool.Decides.{nat_tests}
use Rattle.rx_model.specs.declared.answers.Took.{Took}
use Rattle.rx_model.specs.declared.answers.Took.TheVariants as tooks
use Rattle.rx_model.specs.declared.names.CallName.{CallName}
use Rattle.rx_model.specs.declared.wire.TheConstants.{LAST_SEQ}
use Rattle.rx_model.specs.Body.{Body}
use Rattle.rx_model.specs.Body as bodies
use Rattle.rx_model.specs.Message.{Message}
use Rattle.rx_model.specs.Names.{channel_of, connection_of}
use Rattle.rx_model.proofs.NameLaws.{both}
use Rattle.rx_rules.specs.After.{enters, prepared, taken_data, taken_with}
use Rattle.rx_rules.specs.CallLooks.{fresh_call}
use Rattle.rx_rules.specs.Judging.{Facts, facts_of, is_data, live_row, nonce_at, opened, own_row, row_at}
use Rattle.rx_rules.specs.Judging.{server_row, side_row, took_named}
use Rattle.rx_rules.specs.Life as lives
use Rattle.rx_rules.specs.Looks.{CallRecord, ChannelLooks, ConnLooks, Looks, call_at, call_named, channel_at, conn_at}
use Rattle.rx_rules.specs.Looks.{is_proved}
use Rattle.rx_rules.specs.Looks.{latest_name, on_life}
use Rattle.rx_rules.specs.Records.{entered, has_place, placed, started_later, used}
use Rattle.rx_rules.specs.Records.{with_conn}
use Rattle.rx_rules.specs.Setup.{Client, IsServer, Kind, Server, Setup, is_client, pace_of, receiving_window}
use Rattle.rx_rules.proofs.ConnsLaws.{channel_number, number_of}
use Rattle.rx_history.proofs.Events.{call-by}
use Rattle.rx_history.proofs.Places.{is_none}
use Rattle.rx_history.proofs.Openings.{calls_ready, channel_prepared, now-entered}
use Rattle.rx_history.proofs.Order.OrderlyOpens.{Opens}
use Rattle.rx_history.proofs.Order.OrderlyTaken.{opens_ready}
use Rattle.rx_history.proofs.Rows.RowsInFront.{may_start}
use Rattle.rx_node.proofs.Steps.ChannelSteps.{IsThere, channel_started, latest_started}
use Rattle.rx_node.proofs.UsedConns.{live_by, used_same}
use Rattle.rx_server.proofs.RowLaws.{early, fresh_row, prepared_enters, prepared_known, row_placed}
use Rattle.rx_history.proofs.Rows.RowsAborting.{not_false}

-- ---- what a message that is let through shows

beyond-full : (b : Bool) (row rest : Took) → (row ≡ tooks.Full → ⊥) → (if b then row else rest) ≡ tooks.Full
    → (b ≡ false) × (rest ≡ tooks.Full)
beyond-full true row rest other is = absurd (other is)
beyond-full false row rest other is = (refl, is)

-- of its connection, its number and its channel
pub record LetThrough (f : Facts) : Type 0 where
  pub known : (not f.is_known && not (f.can_start && f.has_number)) ≡ false
  pub number : f.has_number ≡ true
  pub below : f.is_below ≡ false
  pub starts : (f.is_above && not f.can_start) ≡ false
  pub free : (f.is_above && f.is_handled) ≡ false
  pub room : (f.is_above && (not f.is_live && f.is_crowded)) ≡ false
  pub active : (not f.is_above && not f.is_active) ≡ false

pub let_through : (f : Facts) → ((call : Took) → server_row (early f) call ≡ call) → LetThrough f
let_through f passes =
    let a = beyond-full (not f.is_known && not (f.can_start && f.has_number)) tooks.Strange _ (λ is. cc (is))
    (passes tooks.Full) in
    let b = placed f.is_known _ a.1 in
    let d = beyond-full f.stops_all tooks.Stopped _ (λ is. cc (is)) b in
    let e = beyond-full (not f.has_number) tooks.Strange _ (λ is. cc (is)) d.1 in
    let g = beyond-full f.is_below tooks.Old _ (λ is. cc (is)) e.1 in
    let h = beyond-full (f.is_above && not f.can_start) tooks.Strange _ (λ is. cc (is)) g.1 in
    let i = beyond-full (f.is_above && f.is_handled) tooks.Busy _ (λ is. cc (is)) h.1 in
    let j = beyond-full (f.is_above && (not f.is_live && f.is_crowded)) tooks.NoRoom _ (λ is. cc (is)) i.1 in
    let k = beyond-full (not f.is_above && not f.is_active) tooks.Over _ (λ is. cc (is)) j.1 in
    record {
      known = a.0;
      number = not_false f.has_number e.0;
      below = g.0;
      starts = h.0;
      free = i.0;
      room = j.0;
      active = k.0;
    }
  where
    placed : (b : Bool) (rest : Took) → (if not b && not true then tooks.Full else rest) ≡ tooks.Full
        → rest ≡ tooks.Full
    placed true rest is = is
    placed false rest is = is

behind : (a b : Bool) → a ≡ true → (a && not b) ≡ false → b ≡ true
behind true b is none = not_false b none
behind false b is none = absurd (cc (is))

-- ---- the call is looked for where its connection is ready

-- a channel's call starts once
pub opened_again : (s : Setup) (c : CallName) (l : Looks)
    → (nat_lt (channel_at l (channel_of c)).number c.number ≡ true → IsThere l (channel_of c))
    → opened s c (opened s c l) ≡ opened s c l
opened_again s c l there = of (nat_lt (channel_at l (channel_of c)).number c.number) refl
  where
    ended : Looks
    ended = on_life (latest_name l (channel_of c)) lives.after_later l

    of : (b : Bool) → nat_lt (channel_at l (channel_of c)).number c.number ≡ b
        → opened s c (opened s c l) ≡ opened s c l
    of false below =
        ap (λ (q : Looks). opened s c q) (ap (λ (b : Bool). if b then started_later s c l else l) below)
    of true above =
        let is : opened s c l ≡ started_later s c l = ap (λ (b : Bool). if b then started_later s c l else l) above in
        let at = there above in
        let number : (channel_at (started_later s c l) (channel_of c)).number ≡ c.number =
        ap (λ (q : _). q.number)
        (channel_started s lives.Waiting c ended (record { conn = at.conn; there = at.there; within = at.within }))
        in
        ap (opened s c) is
        ∙ ap (λ (b : Bool). if b then started_later s c (started_later s c l) else started_later s c l)
        (not-above number) ∙ sym is
      where
        not-above : (channel_at (started_later s c l) (channel_of c)).number ≡ c.number
            → nat_lt (channel_at (started_later s c l) (channel_of c)).number c.number ≡ false
        not-above number = ap (λ (n : ℕ). nat_lt n c.number) number ∙ grind (arith, nat_tests)

now-opened : (s : Setup) (c : CallName) (l : Looks) → (opened s c l).now ≡ l.now
now-opened s c l = of (nat_lt (channel_at l (channel_of c)).number c.number)
  where
    of : (b : Bool) → (if b then started_later s c l else l).now ≡ l.now
    of true = refl
    of false = refl

-- a call that starts answers its first packet by keeping it, or has no slot
fresh-live : (s : Setup) (l : Looks) (c : CallName) (m : Message) (now : ℕ) → is_client s.kind ≡ false
    → is_data m.body ≡ true → 1 ≤ m.seq → m.seq ≤ receiving_window s → receiving_window s ≤ LAST_SEQ
    → may_start (live_row s l
    (record { name = c; life = lives.Waiting; looks = fresh_call (pace_of s) now }) m m.body)
    ≡ true
fresh-live s l c m now server said low high fits = of m.body refl said
  where
    k : CallRecord
    k = record { name = c; life = lives.Waiting; looks = fresh_call (pace_of s) now }

    of : (b : Body) → m.body ≡ b → is_data b ≡ true → may_start (live_row s l k m m.body) ≡ true
    of (bodies.Chunk payload) is said =
        ap (λ (b : Body). may_start (live_row s l k (record m { body = b }) b)) is
        ∙ fresh_row s l c lives.Waiting (pace_of s) now m payload server low high fits
    of bodies.Busy is said = absurd (cc (said))
    of (bodies.Ack a) is said = absurd (cc (said))
    of (bodies.Abort code) is said = absurd (cc (said))
    of bodies.AckAll is said = absurd (cc (said))
    of (bodies.Challenge bytes) is said = absurd (cc (said))
    of (bodies.Response bytes) is said = absurd (cc (said))

is-server : (kind : Kind) → IsServer kind → is_client kind ≡ false
is-server (Server service nonces) is = refl
is-server (Client host epoch) is = absurd is

module _ (s : Setup) (c : CallName) (m : Message) (l : Looks) (server : IsServer s.kind) (chan : c.chan < 4)
    (number : m.number ≡ c.number) (passes : (call : Took) → server_row (early (facts_of s l c m)) call ≡ call)
    (has : (is_some (conn_at l (connection_of c)) ≡ true) ⊎ (has_place s l ≡ true))
    (window : receiving_window s ≤ LAST_SEQ) where
  abbrev ready : Looks
  ready = used (connection_of c) (entered s (connection_of c) l)

  abbrev its : Looks
  its = opened s c ready

  shown : LetThrough (facts_of s l c m)
  shown = let_through (facts_of s l c m) passes

  -- the rules' answer is that of its call
  row-is : took_named s l c m ≡ own_row s (opened s c l) c m
  row-is =
      of s.kind server
      ∙ sym (row_placed (facts_of s l c m) (own_row s (opened s c l) c m) has)
      ∙ passes (own_row s (opened s c l) c m)
    where
      of : (kind : Kind) → IsServer kind → side_row kind (facts_of s l c m) (own_row s (opened s c l) c m)
          ≡ server_row (facts_of s l c m) (own_row s (opened s c l) c m)
      of (Server service nonces) is = refl
      of (Client host epoch) is = absurd is

  number-ready : (channel_at ready (channel_of c)).number ≡ (channel_at l (channel_of c)).number
  number-ready = channel_prepared s tooks.Kept c l

  above-is : (facts_of s l c m).is_above ≡ nat_lt (channel_at l (channel_of c)).number c.number
  above-is = ap (λ (n : ℕ). nat_lt (channel_at l (channel_of c)).number n) number

  abbrev above : Bool
  above = nat_lt (channel_at l (channel_of c)).number c.number

  above-ready : nat_lt (channel_at ready (channel_of c)).number c.number ≡ above
  above-ready = ap (λ (n : ℕ). nat_lt n c.number) number-ready

  -- a message of a higher number is data within the window
  said : above ≡ true → (facts_of s l c m).can_start ≡ true
  said high = behind (facts_of s l c m).is_above (facts_of s l c m).can_start (above-is ∙ high) shown.starts

  -- one of another number is of a connection that is known
  known-below : above ≡ false → is_some (conn_at l (connection_of c)) ≡ true
  known-below low = of (is_some (conn_at l (connection_of c))) refl
    where
      zero-number : is_some (conn_at l (connection_of c)) ≡ false → (channel_at l (channel_of c)).number ≡ 0
      zero-number unknown =
          channel_number l (channel_of c)
          ∙ ap (λ (o : Option ConnLooks). number_of o c.chan) (is_none (conn_at l (connection_of c)) unknown)

      of : (b : Bool) → is_some (conn_at l (connection_of c)) ≡ b → b ≡ true
      of true is = refl
      of false is =
          absurd (
          let none : (channel_at l (channel_of c)).number ≡ 0 = zero-number is in
          let some : not (m.number == 0) ≡ true = shown.number in
          let below : nat_lt 0 c.number ≡ false = ap (λ (n : ℕ). nat_lt n c.number) (sym none) ∙ low in
          let own : not (c.number == 0) ≡ true = ap (λ (n : ℕ). not (n == 0)) (sym number) ∙ some in
          positive c.number own below)
        where
          positive : (n : ℕ) → not (n == 0) ≡ true → nat_lt 0 n ≡ false → ⊥
          positive n some below = grind (arith, nat_tests)

  its-above : above ≡ true → its ≡ started_later s c ready
  its-above high = ap (λ (b : Bool). if b then started_later s c ready else ready) (above-ready ∙ high)

  its-below : above ≡ false → its ≡ ready
  its-below low = ap (λ (b : Bool). if b then started_later s c ready else ready) (above-ready ∙ low)

  ready-below : above ≡ false → ready ≡ used (connection_of c) l
  ready-below low =
      ap (λ (b : Bool). used (connection_of c) (if b then l else with_conn s s.kind (connection_of c) l))
      (known-below low)

  -- what the call's end answers is the rules' answer
  pub answered_its : (k : CallRecord) → call_at its c ≡ Some k → live_row s its k m m.body ≡ took_named s l c m
  answered_its k there =
      live_by s its (opened s c l) now calls k m m.body (of above refl)
      ∙ sym (row-is ∙ ap (λ (o : Option CallRecord). row_at s (opened s c l) o m)
      (sym (call-by c (opened s c l) its calls) ∙ there))
    where
      calls : its.calls ≡ (opened s c l).calls
      calls = calls_ready s tooks.Kept c l

      now : its.now ≡ (opened s c l).now
      now = now-opened s c ready ∙ now-entered s (connection_of c) l ∙ sym (now-opened s c l)

      of : (b : Bool) → above ≡ b
          → (is_data m.body ≡ true) ⊎ ((nonce_at s (conn_at its (connection_of k.name))
          ≡ nonce_at s (conn_at (opened s c l) (connection_of k.name)))
          × (is_proved its (connection_of k.name) ≡ is_proved (opened s c l) (connection_of k.name)))
      of true high = inl (both (is_data m.body) _ (said high)).0
      of false low =
          (let mine : its ≡ used (connection_of c) l = its-below low ∙ ready-below low in
          let before : opened s c l ≡ l = ap (λ (b : Bool). if b then started_later s c l else l) low in
          let same = used_same s (connection_of c) (connection_of k.name) l in
          inr (
            ap (λ (q : Looks). nonce_at s (conn_at q (connection_of k.name))) mine ∙ same.0
                ∙ ap (λ (q : Looks). nonce_at s (conn_at q (connection_of k.name))) (sym before),
            ap (λ (q : Looks). is_proved q (connection_of k.name)) mine ∙ same.1
                ∙ ap (λ (q : Looks). is_proved q (connection_of k.name)) (sym before),
          ))

  module _ (at : IsThere ready (channel_of c)) where
    abbrev fresh : CallRecord
    fresh = record { name = c; life = lives.Waiting; looks = fresh_call (pace_of s) ready.now }

    -- a call that starts is there
    pub fresh_there : above ≡ true → call_at its c ≡ Some fresh
    fresh_there high =
        ap (λ (q : Looks). call_at q c) (its-above high)
        ∙ ap (λ (n : ℕ). call_at (started_later s c ready) (call_named (channel_of c) n)) (sym is)
        ∙ latest_started s lives.Waiting c ended place
      where
        ended : Looks
        ended = on_life (latest_name ready (channel_of c)) lives.after_later ready

        place : IsThere ended (channel_of c)
        place = record { conn = at.conn; there = at.there; within = at.within }

        is : (channel_at (started_later s c ready) (channel_of c)).number ≡ c.number
        is = ap (λ (q : ChannelLooks). q.number) (channel_started s lives.Waiting c ended place)

    -- and keeps its first packet, or has no slot
    pub starts_its : above ≡ true → may_start (took_named s l c m) ≡ true
    starts_its high =
        ap may_start (sym (answered_its fresh (fresh_there high)))
        ∙ fresh-live s its c m ready.now (is-server s.kind server) start.0
        (low m.seq (both (nat_le 1 m.seq) _ start.1).0) (low-two m.seq (both (nat_le 1 m.seq) _ start.1).1) window
      where
        start : (is_data m.body ≡ true) × ((nat_le 1 m.seq && nat_le m.seq (receiving_window s)) ≡ true)
        start = both (is_data m.body) _ (said high)

        low : (n : ℕ) → nat_le 1 n ≡ true → 1 ≤ n
        low n is = grind (arith, nat_tests)

        low-two : (n : ℕ) → nat_le n (receiving_window s) ≡ true → n ≤ receiving_window s
        low-two n is = grind (arith, nat_tests)

    -- the channel's call gives way to it
    pub opens_its : above ≡ true → Opens s c ready
    opens_its high =
        subst (λ (q : Looks). Opens s c q) (prepared_enters s got (connection_of c) l (enters-it got starts))
        (opens_ready s c m got l starts (enters-it got starts) number refl
        (ap (λ (n : ℕ). nat_lt n c.number) (channel_prepared s got c l) ∙ high))
      where
        got : Took
        got = took_named s l c m

        starts : may_start got ≡ true
        starts = starts_its high

        enters-it : (t : Took) → may_start t ≡ true → enters t ≡ true
        enters-it tooks.Kept is = refl
        enters-it tooks.NoSlot is = refl
        enters-it _ is = absurd (cc (is))

    -- behind it the look-ups are the rules'
    pub taken_its : (got : Took) → got ≡ took_named s l c m
        → taken_with s got c m its ≡ taken_with s got c m (prepared s got (connection_of c) l)
    taken_its got is = of above refl
      where
        opening : (t : Took) → may_start t ≡ true
            → taken_with s t c m its ≡ taken_with s t c m (prepared s t (connection_of c) l)
        opening tooks.Kept starts = ap (taken_data s tooks.Kept c m) (opened_again s c ready (λ high. at))
        opening tooks.NoSlot starts = ap (taken_data s tooks.NoSlot c m) (opened_again s c ready (λ high. at))
        opening _ starts = absurd (cc (starts))

        of : (b : Bool) → above ≡ b
            → taken_with s got c m its ≡ taken_with s got c m (prepared s got (connection_of c) l)
        of true high = opening got (ap may_start is ∙ starts_its high)
        of false low =
            ap (taken_with s got c m)
            (its-below low ∙ sym (prepared_known s got (connection_of c) l (known-below low)))
