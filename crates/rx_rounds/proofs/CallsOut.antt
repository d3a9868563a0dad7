-- A turn of a caller that says its request: as much of it as there is room for; or all, and then it shuts. Then it
-- reads nothing, as no reply came.
use Rattle.std.proofs.Common.{◌≡◌, ◌<◌, ◌⊎◌, inl, inr, ⊎_elim, if◌then◌else◌, ◌≤◌, ◌+◌, ◌-◌, ◌*◌, ◌++◌, ℕ, suc, zero}
use Rattle.std.proofs.Common.{min, Bool, true, false, cond, List, [], ◌∷◌, refl, ap, sym, subst, ◌∙◌, Option, Some}
use Rattle.std.proofs.Common.{Result, Err, not}
use Rattle.std.proofs.Common.{Ok, length, take, drop, nat_lt, arith, append_assoc, append-nil, length-take, length-drop}
use Rattle.std.proofs.lemmas.Bool.{cases_lt, ltb-true, ltb-false}
use Rattle.std.proofs.lemmas.List.{length-append, take-append-drop, take-take}
use Rattle.rx_model.specs.declared.answers.NotOpen.{NotOpen}
use Rattle.rx_model.specs.declared.answers.ReadAns.TheVariants as answers
use Rattle.rx_model.specs.declared.answers.ReadGot.TheVariants as readers
use Rattle.rx_model.specs.declared.answers.WroteGot.TheVariants as writers
use Rattle.rx_model.specs.declared.event.Event.{Event}
use Rattle.rx_model.specs.declared.event.Event.TheVariants as events
use Rattle.rx_model.specs.declared.names.CallName.{CallName}
use Rattle.rx_rules.specs.After.{after}
use Rattle.rx_rules.specs.CallLooks.{CallLooks, after_read, after_shut, after_write, held, lead}
use Rattle.rx_rules.specs.Life as lives
use Rattle.rx_rules.specs.Looks.{CallRecord, Looks, is_call}
use Rattle.rx_rules.specs.Owing.{owed_for_done}
use Rattle.rx_rules.specs.Received.{Received, nothing_received, read_of, used_of}
use Rattle.rx_rules.specs.Rules.{can_say, client_read, client_read_by, client_write, done_where, own_call}
use Rattle.rx_rules.specs.Sent.{opened, room_by}
use Rattle.rx_rules.specs.Slots.{room}
use Rattle.rx_asks.specs.declared.ask.Phase.{Phase}
use Rattle.rx_asks.specs.declared.ask.Phase.TheVariants as phases
use Rattle.rx_asks.specs.declared.ask.TheConstants.{REPLY_BYTES}
use Rattle.rx_asks.specs.Asks.{Reads, calling}
use Rattle.rx_asks.specs.View.{CallerState}
use Rattle.rx_events.specs.Events.{written_count}
use Rattle.rx_jobs.specs.Jobs.{JobState}
use Rattle.rx_plan.specs.Stages.{InvokedState, Stage}
use Rattle.rx_plan.specs.Turned.{turns_all}
use Rattle.rx_rounds.proofs.Between.{caller_with}
use Rattle.rx_rounds.proofs.One.OneCall.{Ends, answering_link, client_setup, node_of, the_call}
use Rattle.rx_rounds.proofs.Room.{lead_low, room_numbers, slots_numbers}
use Rattle.rx_rounds.proofs.RoundParts.{two_callers}
use Rattle.rx_rounds.proofs.One.OneSteps.{client_read_on, client_shut, own_is, wrote}
use Rattle.rx_rounds.proofs.Rounded.{Made, call_to, caller_at}
use Rattle.rx_rounds.proofs.Turned.{Calls, Calls_, calls_offer, calls_over, calls_read, calls_shut, offer_event}
use Rattle.rx_rounds.proofs.Turned.{read_event}
use Rattle.rx_rounds.proofs.Turned.{shut_event}
use Rattle.rx_rounds.proofs.Two.{Two, two_as}

-- ---- room

-- an end that may say more: a pieces are hard acknowledged, and at most 32 beyond them are opened
pub record CanSay (a : ℕ) (k : CallLooks) : Type 0 where
  pub quiet : k.received ≡ nothing_received
  pub acked : k.sent.acked ≡ a
  pub going : k.sent.shut ≡ false
  pub known : a ≤ opened (length k.sent.said)
  pub near : opened (length k.sent.said) ≤ a + 32
  pub small : a ≤ 1000000000

-- there is room up to the 32nd piece behind those that are hard acknowledged
room_is : (x : Ends) (answer : Option (List ℕ)) (now given used a : ℕ) (k : CallLooks) → CanSay a k
    → room (client_setup x) (node_of x (answering_link x answer given used) [] now lives.Calling k) k
    ≡ 1412 * (a + 32) - length k.sent.said
room_is x answer now given used a k h =
    let holds : held k ≤ 900 = rw (h.going, h.quiet) (omega (arith, h.near, h.acked)) in
    let more : ℕ = 1984 - (held k - lead k + 0) + 1 - lead k in
    let slots : 32 ≤ more = slots_numbers (held k) (lead k) holds (lead_low k) in
    ap (λ (i : ℕ). room_by 32 more (length k.sent.said) i) h.acked
    ∙ room_numbers a (opened (length k.sent.said)) (length k.sent.said) more h.known h.near slots h.small

-- ---- the turn

-- of a client that owes a RESPONSE or doesn't
module _ (x : Ends) (answer : Option (List ℕ)) (ls : Looks) (cs : List InvokedState) (js : List JobState)
    (now given used : ℕ) where
  abbrev c : CallName
  c = the_call x

  abbrev calling_with : CallLooks → Looks
  calling_with k = node_of x (answering_link x answer given used) [] now lives.Calling k

  -- how its turn ends: there is no more room, or all is said and it shut
  pub data Said (a : ℕ) (k : CallLooks) (rest : List ℕ) (w : CallerState) (t : Stage) : Type 0 where
    fills_up : (more left : List ℕ) → rest ≡ more ++ left → 0 < length left
        → length (k.sent.said ++ more) ≡ 1412 * (a + 32)
        → Two x ls (calling_with (after_write more k)) cs js t → w ≡ caller_with x left false [] phases.Resting
        → Said a k rest w t
    says_all : length (k.sent.said ++ rest) ≤ 1412 * (a + 32)
        → Two x ls (calling_with (after_shut (after_write rest k))) cs js t
        → w ≡ caller_with x [] true [] phases.Resting
        → Said a k rest w t

  -- behind what was said before
  said_more : (a : ℕ) (k : CallLooks) (first rest whole : List ℕ) (w : CallerState) (t : Stage) → whole ≡ first ++ rest
      → Said a (after_write first k) rest w t → Said a k whole w t
  said_more a k first rest whole w t is (fills_up more left split some full two same) =
      let joined : (k.sent.said ++ first) ++ more ≡ k.sent.said ++ (first ++ more) =
      append_assoc k.sent.said first more in
      fills_up (first ++ more) left (is ∙ ap (λ (ys : List ℕ). first ++ ys) split ∙ sym (append_assoc first more left))
      some (ap (λ (ys : List ℕ). length ys) (sym joined) ∙ full)
      (subst (λ (ys : List ℕ). Two x ls (calling_with (record k { sent = record k.sent { said = ys } })) cs
      js t) joined two) same
  said_more a k first rest whole w t is (says_all within two same) =
      let joined : (k.sent.said ++ first) ++ rest ≡ k.sent.said ++ whole =
      append_assoc k.sent.said first rest ∙ ap (λ (ys : List ℕ). k.sent.said ++ ys) (sym is) in
      says_all (omega (arith, within, ap (λ (ys : List ℕ). length ys) joined)) (subst (λ (ys : List ℕ). Two x ls
      (calling_with (after_shut (record k { sent = record k.sent { said = ys } }))) cs js t)
      joined two) same

  abbrev Goes : CallLooks → CallerState → Stage → CallerState → Stage → Type 0
  Goes k v s w t = Two x ls (calling_with k) cs js s × Calls REPLY_BYTES v s w t

  -- it reads nothing, and its turn is over
  pub reads_none : (k : CallLooks) (left : List ℕ) (shut : Bool) (ph : Phase) (s t : Stage) (w : CallerState)
      → k.received ≡ nothing_received
      → (calling REPLY_BYTES).asks (caller_with x left shut [] ph) ≡ Some (Reads (the_call x) 4096)
      → Goes k (caller_with x left shut [] ph) s w t
      → (w ≡ caller_with x left shut [] phases.Resting) × Two x ls (calling_with k) cs js t
  reads_none k left shut ph s t w none asked go =
      let v : CallerState = caller_with x left shut [] ph in
      let e : Event = events.HasRead c 4096 (readers.Client answers.NotYet) [] in
      let is : read_event x (calling_with k) c 4096 ≡ e =
      ap (λ (o : Option CallRecord). events.HasRead c 4096 (readers.Client (client_read o 4096).0)
      (client_read o 4096).1) (own_is x answer given used [] now lives.Calling k)
      ∙ ap (λ (r : Received). events.HasRead c 4096 (readers.Client (client_read_by lives.Calling (read_of r 4096)).0)
      (client_read_by lives.Calling (read_of r 4096)).1) none in
      let same : after_read now false [] k ≡ k =
      ap (λ (r : Received). record k {
        received = record r { read = r.read ++ []; ended = r.ended };
        owed_ack = cond (nat_lt (used_of r) (used_of (record r { read = r.read ++ []; ended = r.ended })))
            (owed_for_done now k.cwnd.prompt k.owed_ack) k.owed_ack;
      }) none ∙ ap (λ (r : Received). record k { received = r }) (sym none) in
      let f = subst (λ (h : Event). Calls_ x REPLY_BYTES ls (calling_with k) cs js v h w t) is
      (calls_read x REPLY_BYTES ls (calling_with k) cs js v w s t c 4096 go.0 asked go.1) in
      let two1 : Two x ls (calling_with k) cs js f.stage =
      two_as x ls (after (client_setup x) e (calling_with k)) ls (calling_with k) cs js f.stage f.stage refl
      (client_read_on x (answering_link x answer given used) [] now 4096 k answers.NotYet [] refl
      ∙ ap calling_with same) refl
      f.two in
      let o = calls_over REPLY_BYTES (caller_with x left shut [] phases.Resting) w f.stage t refl f.goes in (
        o.0,
        two_as x ls (calling_with k) ls (calling_with k) cs js f.stage t refl refl (sym o.1) two1,
      )

  -- all is said: it shuts
  shuts : (a : ℕ) (k : CallLooks) (s t : Stage) (w : CallerState) → CanSay a k
      → Goes k (caller_with x [] false [] phases.Offering) s w t → Said a k [] w t
  shuts a k s t w can go =
      let v : CallerState = caller_with x [] false [] phases.Offering in
      let e : Event = events.Shut c (Ok tt) in
      let is : shut_event x (calling_with k) c ≡ e =
      ap (λ (o : Option CallRecord). events.Shut c (done_where (is_call can_say o)))
      (own_is x answer given used [] now lives.Calling k)
      ∙ rw can.going refl in
      let d = subst (λ (h : Event). Calls_ x REPLY_BYTES ls (calling_with k) cs js v h w t) is
      (calls_shut x REPLY_BYTES ls (calling_with k) cs js v w s t c go.0 refl go.1) in
      let two1 : Two x ls (calling_with (after_shut k)) cs js d.stage =
      two_as x ls (after (client_setup x) e (calling_with k)) ls (calling_with (after_shut k)) cs js d.stage d.stage
      refl
      (client_shut x (answering_link x answer given used) [] now k) refl d.two in
      let r = reads_none (after_shut k) [] true phases.Offering d.stage t w can.quiet refl (two1, d.goes) in
      let none : k ≡ after_write [] k = ap (λ (ys : List ℕ). record k { sent = record k.sent { said = ys } })
      (sym (append-nil k.sent.said)) in
      says_all (omega (arith, can.near, ap (λ (ys : List ℕ). length ys) (append-nil k.sent.said)))
      (subst (λ (i : CallLooks). Two x ls (calling_with (after_shut i)) cs js t) none r.1) r.0

  -- where it may say more
  abbrev offer_at : Bool → ℕ → Result ℕ NotOpen
  offer_at b n = if b then Ok n else Err (record {})

  -- one offer
  record OfferedOnce (a : ℕ) (k : CallLooks) (rest : List ℕ) (s t : Stage) (w : CallerState) : Type 0 where
    count : ℕ
    few : count ≤ length (take 4096 rest)
    room : count ≤ 1412 * (a + 32) - length k.sent.said
    full : (count ≡ length (take 4096 rest)) ⊎ (count ≡ 1412 * (a + 32) - length k.sent.said)
    stage : Stage
    two : Two x ls (calling_with (after_write (take count (take 4096 rest)) k)) cs js stage
    goes : Calls REPLY_BYTES (caller_with x (drop count rest) false []
        (if nat_lt count (length (take 4096 rest)) then phases.Reading else phases.Offering)) stage w t

  offers_once : (a : ℕ) (k : CallLooks) (r : ℕ) (rs : List ℕ) (s t : Stage) (w : CallerState) → CanSay a k
      → Goes k (caller_with x (r ∷ rs) false [] phases.Offering) s w t → OfferedOnce a k (r ∷ rs) s t w
  offers_once a k r rs s t w can go =
      let rest : List ℕ = r ∷ rs in
      let v : CallerState = caller_with x rest false [] phases.Offering in
      let offer : List ℕ = take 4096 rest in
      let n : ℕ = min (length offer) (1412 * (a + 32) - length k.sent.said) in
      let lc : Looks = calling_with k in
      let counted : length (take n offer) ≡ n = length-take n offer ∙ min_left n (length offer) (omega arith) in
      let e : Event = events.Wrote c (length offer) (writers.Client (Ok n)) (take n offer) in
      let got : ◌≡◌ {A = Result ℕ NotOpen} (client_write (client_setup x) lc (own_call lc c) (length offer)) (Ok n) =
      ap (λ (o : Option CallRecord). client_write (client_setup x) lc o (length offer))
      (own_is x answer given used [] now lives.Calling k)
      ∙ ap (λ (b : Bool). offer_at b (min (length offer) (room (client_setup x) lc k))) (ap not can.going)
      ∙ ap (λ (m : ℕ). Ok (min (length offer) m)) (room_is x answer now given used a k can) in
      let is : offer_event x lc c offer ≡ e =
      ap (λ (q : Result ℕ NotOpen). events.Wrote c (length offer) (writers.Client q) (take (written_count q) offer)) got
      in
      let i = subst (λ (q : Event). Calls_ x REPLY_BYTES ls lc cs js v q w t) is
      (calls_offer x REPLY_BYTES ls lc cs js v w s t c offer go.0 refl go.1) in
      record {
        count = n;
        few = omega arith;
        room = omega arith;
        full = of (length offer) (1412 * (a + 32) - length k.sent.said);
        stage = i.stage;
        two = two_as x ls (after (client_setup x) e lc) ls (calling_with (after_write (take n offer) k))
            cs js i.stage i.stage refl
            (wrote (client_setup x) x (answering_link x answer given used) [] now (length offer) lives.Calling k
            (writers.Client (Ok n)) (take n offer)) refl i.two;
        goes = subst (λ (m : ℕ). Calls REPLY_BYTES (caller_with x (drop m rest) false []
            (if nat_lt m (length offer) then phases.Reading else phases.Offering)) i.stage w t) counted i.goes;
      }
    where
      min_left : (m l : ℕ) → m ≤ l → min m l ≡ m
      min_left m l low = omega arith

      cases_le : (m l : ℕ) → (m ≤ l) ⊎ (l < m)
      cases_le m l = elim (cases_lt l m) as (λ c1. (m ≤ l) ⊎ (l < m))
          [ inl less ↦ inr less | inr not_less ↦ inl not_less ]

      of : (m l : ℕ) → (min m l ≡ m) ⊎ (min m l ≡ l)
      of m l = ⊎_elim (λ (h : m ≤ l). inl (omega arith)) (λ (h : l < m). inr (omega arith)) (cases_le m l)

  -- the fuel is what is left to say
  pub says_out : (fuel a : ℕ) (k : CallLooks) (rest : List ℕ) (s t : Stage) (w : CallerState) → length rest ≤ fuel
      → CanSay a k → Goes k (caller_with x rest false [] phases.Offering) s w t → Said a k rest w t
  says_out fuel a k [] s t w few can go = shuts a k s t w can go
  says_out zero a k (r ∷ rs) s t w few can go = absurd (omega arith)
  says_out (suc fuel) a k (r ∷ rs) s t w few can go =
      let o = offers_once a k r rs s t w can go in
      by (λ k2 left s2 short can2 go2. says_out fuel a k2 left s2 t w short can2 go2) o.count o.few o.room o.full
      o.stage o.two (nat_lt o.count (length (take 4096 (r ∷ rs)))) refl o.goes
    where
      rest : List ℕ
      rest = r ∷ rs

      offer : List ℕ
      offer = take 4096 rest

      offered : length offer ≡ min 4096 (length rest)
      offered = length-take 4096 rest

      -- what was said and what is left are all
      split : (n : ℕ) → n ≤ length offer → rest ≡ take n offer ++ drop n rest
      split n within =
          sym (ap (λ (ys : List ℕ). ys ++ drop n rest) (take-take n 4096 rest (omega (arith, offered)))
          ∙ take-append-drop n rest)

      counts : (n : ℕ) → n ≤ length offer → length (take n offer) ≡ n
      counts n within = length-take n offer ∙ min_left n (length offer) within
        where
          min_left : (m l : ℕ) → m ≤ l → min m l ≡ m
          min_left m l low = omega arith

      long : (n : ℕ) → n ≤ length offer → length (k.sent.said ++ take n offer) ≡ length k.sent.said + n
      long n within = length-append k.sent.said (take n offer)
          ∙ ap (λ (m : ℕ). length k.sent.said + m) (counts n within)

      can_still : (n : ℕ) → n ≤ length offer → n ≤ 1412 * (a + 32) - length k.sent.said
          → CanSay a (after_write (take n offer) k)
      can_still n within inside =
          record {
            quiet = can.quiet;
            acked = can.acked;
            going = can.going;
            known = omega (arith, long n within, can.known);
            near = omega (arith, long n within, can.near);
            small = can.small;
          }

      by : ((k2 : CallLooks) (left : List ℕ) (s2 : Stage) → length left ≤ fuel → CanSay a k2
          → Goes k2 (caller_with x left false [] phases.Offering) s2 w t → Said a k2 left w t)
          → (n : ℕ) → n ≤ length offer → n ≤ 1412 * (a + 32) - length k.sent.said
          → (n ≡ length offer) ⊎ (n ≡ 1412 * (a + 32) - length k.sent.said)
          → (u : Stage) → Two x ls (calling_with (after_write (take n offer) k)) cs js u
          → (b : Bool) → nat_lt n (length offer) ≡ b
          → Calls REPLY_BYTES (caller_with x (drop n rest) false []
          (if nat_lt n (length offer) then phases.Reading else phases.Offering)) u w t
          → Said a k rest w t
      by again n within inside full u two false all goes =
          let on : Calls REPLY_BYTES (caller_with x (drop n rest) false [] phases.Offering) u w t =
          subst (λ (b : Bool). Calls REPLY_BYTES (caller_with x (drop n rest) false []
          (if b then phases.Reading else phases.Offering)) u w t) all goes in
          let more : length offer ≤ n = ltb-false n (length offer) all in
          said_more a k (take n offer) (drop n rest) rest w t (split n within)
          (again (after_write (take n offer) k) (drop n rest) u
          (omega (arith, length-drop n rest, offered)) (can_still n within inside) (two, on))
      by again n within inside full u two true part goes =
          let on : Calls REPLY_BYTES (caller_with x (drop n rest) false [] phases.Reading) u w t =
          subst (λ (b : Bool). Calls REPLY_BYTES (caller_with x (drop n rest) false []
          (if b then phases.Reading else phases.Offering)) u w t) part goes in
          let less_ : n < length offer = ltb-true n (length offer) part in
          let r1 = reads_none (after_write (take n offer) k) (drop n rest) false phases.Reading u t w can.quiet refl
          (two, on) in
          let room_ : n ≡ 1412 * (a + 32) - length k.sent.said =
          ⊎_elim (λ (h : n ≡ length offer). absurd (omega arith)) (λ (h : n ≡ 1412 * (a + 32) - length k.sent.said). h)
          full in
          let less : n < length rest = omega (arith, offered) in
          fills_up (take n offer) (drop n rest) (split n within) (omega (arith, length-drop n rest))
          (long n within ∙ omega (arith, can.near)) r1.1 r1.0

-- ---- the turn of the one caller

module _ (x : Ends) (answer : Option (List ℕ)) (ls : Looks) (js : List JobState) (now given used call line : ℕ) where
  pub says_turn : (a : ℕ) (k : CallLooks) (rest : List ℕ) (phase : Phase) (s t : Stage) → CanSay a k
      → Two x ls (node_of x (answering_link x answer given used) [] now lives.Calling k)
      (caller_at call line (caller_with x rest false [] phase) ∷ []) js s
      → Made turns_all s t
      → (w : CallerState) × (u : Stage) × Said x answer ls (caller_at call line (caller_with x rest false [] phase) ∷
      []) js now given used a k rest w u × (t ≡ record u { callers = caller_at call line w ∷ [] })
  says_turn a k rest phase s t can two made =
      let m = call_to x ls (node_of x (answering_link x answer given used) [] now lives.Calling k) js call line
      (caller_with x rest false [] phase) s t two
      made in (
        m.view,
        m.stage,
        says_out x answer ls (caller_at call line (caller_with x rest false [] phase) ∷ []) js now given used
            (length rest) a k rest
            s m.stage m.view (omega arith) can (two, m.calls),
        m.then_,
      )

  -- one that shut and reads nothing
  pub waits_turn : (k : CallLooks) (phase : Phase) (s t : Stage) → k.received ≡ nothing_received
      → Two x ls (node_of x (answering_link x answer given used) [] now lives.Calling k)
      (caller_at call line (caller_with x [] true [] phase) ∷ []) js s
      → Made turns_all s t
      → Two x ls (node_of x (answering_link x answer given used) [] now lives.Calling k)
      (caller_at call line (caller_with x [] true [] phases.Resting) ∷ []) js t
  waits_turn k phase s t quiet two made =
      let lc : Looks = node_of x (answering_link x answer given used) [] now lives.Calling k in
      let cs : List InvokedState = caller_at call line (caller_with x [] true [] phase) ∷ [] in
      let m = call_to x ls lc js call line (caller_with x [] true [] phase) s t two made in
      let r = reads_none x answer ls cs js now given used k [] true phases.Offering s m.stage m.view quiet refl
      (two, m.calls) in
      two_callers x ls lc cs (caller_at call line (caller_with x [] true [] phases.Resting) ∷ []) js m.stage t
      (m.then_ ∙ ap (λ (v : CallerState). record m.stage { callers = caller_at call line v ∷ [] }) r.0) r.1
