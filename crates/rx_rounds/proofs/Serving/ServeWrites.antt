-- A turn of a dispatcher's job that writes its reply: as much of it as there is room for; or all, and then it finishes.
use Rattle.std.proofs.Common.{◌≡◌, ◌≢◌, ◌<◌, ◌⊎◌, inl, inr, ⊎_elim, if◌then◌else◌, ◌≤◌, ◌+◌, ◌-◌, ◌*◌, ◌++◌, ◌==◌, ℕ}
use Rattle.std.proofs.Common.{pos, suc, zero, min, Bool, true, false}
use Rattle.std.proofs.Common.{List, [], ◌∷◌, refl, ap, sym, subst, ◌∙◌, Option, Some, Result, Ok, length}
use Rattle.std.proofs.Common.{take, drop, nat_lt, arith, append_assoc, append-nil, length-take, length-drop}
use Rattle.std.proofs.lemmas.Bool.{cases_lt, eqb-false, eqb-true, lt-ltb}
use Rattle.std.proofs.lemmas.List.{length-append, take-append-drop, take-take}
use Rattle.rx_model.specs.declared.answers.ServeRefused.{ServeRefused}
use Rattle.rx_model.specs.declared.answers.WroteGot.TheVariants as writers
use Rattle.rx_model.specs.declared.event.Event.{Event}
use Rattle.rx_model.specs.declared.event.Event.TheVariants as events
use Rattle.rx_model.specs.declared.names.CallName.{CallName}
use Rattle.rx_rules.specs.After.{after}
use Rattle.rx_rules.specs.CallLooks.{CallLooks, after_shut, after_write, held, lead}
use Rattle.rx_rules.specs.Life.{Life}
use Rattle.rx_rules.specs.Life as lives
use Rattle.rx_rules.specs.Looks.{CallRecord, Looks, call_at}
use Rattle.rx_rules.specs.Received.{count_above, used_of}
use Rattle.rx_rules.specs.Rules.{served_by, served_finish, served_write}
use Rattle.rx_rules.specs.Sent.{opened}
use Rattle.rx_rules.specs.Slots.{room}
use Rattle.rx_jobs.specs.declared.job.Phase.TheVariants as phases
use Rattle.rx_jobs.specs.Dispatching.{Turning, over, serves, dispatching, settle}
use Rattle.rx_jobs.specs.Handlers.{Handlers}
use Rattle.rx_jobs.specs.Jobs.{JobState, accepted, begun}
use Rattle.rx_jobs.specs.Jobs as asks
use Rattle.rx_plan.specs.Stages.{InvokedState, Stage}
use Rattle.rx_rounds.proofs.Between.{server_at}
use Rattle.rx_rounds.proofs.One.OneCall.{Ends, from_server, server_setup, the_call}
use Rattle.rx_rounds.proofs.One.OneSteps.{call_is, server_finished, wrote}
use Rattle.rx_rounds.proofs.Turned.{Serves, Serves_, serves_finish, serves_over, serves_write}
use Rattle.rx_rounds.proofs.Room.{lead_low, room_numbers, slots_numbers}
use Rattle.rx_rounds.proofs.Two.{Two, two_as}

-- ---- room

-- an end that may write: its request was read to its end; a pieces are hard acknowledged, at most 32 beyond them are
-- opened, and few packets are kept that aren't done with
pub record CanWrite (a : ℕ) (k : CallLooks) : Type 0 where
  pub ended : k.received.ended ≡ true
  pub acked : k.sent.acked ≡ a
  pub going : k.sent.shut ≡ false
  pub few : count_above (used_of k.received) k.received.kept ≤ 800
  pub known : a ≤ opened (length k.sent.said)
  pub near : opened (length k.sent.said) ≤ a + 32
  pub small : a ≤ 1000000000

-- in numbers
-- there is room up to the 32nd piece behind those that are hard acknowledged
pub room_is : (x : Ends) (now given used a : ℕ) (k : CallLooks) → CanWrite a k
    → room (server_setup x) (server_at x given used now lives.Accepted k) k
    ≡ 1412 * (a + 32) - length k.sent.said
room_is x now given used a k h =
    let holds : held k ≤ 900 = rw (h.going) (omega (arith, h.few, h.near, h.acked)) in
    let slots : 32 ≤ 1984 - (held k - lead k + 0) + 1 - lead k = slots_numbers (held k) (lead k) holds (lead_low k) in
    room_numbers k.sent.acked (opened (length k.sent.said)) (length k.sent.said) _
    (omega (arith, h.known, h.acked)) (omega (arith, h.near, h.acked)) slots (omega (arith, h.small, h.acked))
    ∙ ap (λ (i : ℕ). 1412 * (i + 32) - length k.sent.said) h.acked

-- ---- the turn

module _ (x : Ends) (g : Handlers) (lc : Looks) (cs : List InvokedState) (js : List JobState) (now given used : ℕ)
    (request : List ℕ) (steps : ℕ) where
  abbrev c : CallName
  c = the_call x

  -- a job that has so much of its reply still to write
  abbrev pub writing_job : List ℕ → JobState
  writing_job rest =
      record (begun (the_call x)) {
        request = request;
        ended = true;
        steps = steps;
        code = Some (pos 0);
        reply = rest;
      }

  abbrev pub writing_with : JobState → Turning
  writing_with j = serves [] (record { job = j; phase = phases.Moves }) []

  abbrev served_with : Life → CallLooks → Looks
  served_with life k = server_at x given used now life k

  -- how its turn ends: there is no more room, or all is written and it finished
  pub data Written (a : ℕ) (k : CallLooks) (rest : List ℕ) (w : Turning) (t : Stage) : Type 0 where
    fills_up : (more left : List ℕ) → rest ≡ more ++ left → 0 < length left
        → length (k.sent.said ++ more) ≡ 1412 * (a + 32)
        → Two x (served_with lives.Accepted (after_write more k)) lc cs js t → w ≡ over (writing_job left ∷ [])
        → Written a k rest w t
    writes_all : length (k.sent.said ++ rest) ≤ 1412 * (a + 32)
        → Two x (served_with lives.Finished (after_shut (after_write rest k))) lc cs js t → w ≡ over []
        → Written a k rest w t

  -- behind what was written before
  written_more : (a : ℕ) (k : CallLooks) (first rest whole : List ℕ) (w : Turning) (t : Stage) → whole ≡ first ++ rest
      → Written a (after_write first k) rest w t → Written a k whole w t
  written_more a k first rest whole w t is (fills_up more left split some full two same) =
      let joined : (k.sent.said ++ first) ++ more ≡ k.sent.said ++ (first ++ more) =
      append_assoc k.sent.said first more in
      fills_up (first ++ more) left (is ∙ ap (λ (ys : List ℕ). first ++ ys) split ∙ sym (append_assoc first more left))
      some (ap (λ (ys : List ℕ). length ys) (sym joined) ∙ full)
      (subst (λ (ys : List ℕ). Two x (served_with lives.Accepted (record k { sent = record k.sent { said = ys } })) lc
      cs
      js t) joined two) same
  written_more a k first rest whole w t is (writes_all within two same) =
      let joined : (k.sent.said ++ first) ++ rest ≡ k.sent.said ++ whole =
      append_assoc k.sent.said first rest ∙ ap (λ (ys : List ℕ). k.sent.said ++ ys) (sym is) in
      writes_all (omega (arith, within, ap (λ (ys : List ℕ). length ys) joined))
      (subst (λ (ys : List ℕ). Two x (served_with lives.Finished
      (after_shut (record k { sent = record k.sent { said = ys } }))) lc cs js t)
      joined two) same

  abbrev Goes : CallLooks → List ℕ → Stage → Turning → Stage → Type 0
  Goes k rest s w t =
      Two x (served_with lives.Accepted k) lc cs js s × Serves g (writing_with (writing_job rest)) s w t

  -- nothing is left to write: it finishes
  finishes : (a : ℕ) (k : CallLooks) (s t : Stage) (w : Turning) → CanWrite a k → Goes k [] s w t → Written a k [] w t
  finishes a k s t w can go =
      let v : Turning = writing_with (writing_job []) in
      let e : Event = events.Finished c (pos 0) (Ok tt) in
      let is : events.Finished c (pos 0) (served_finish (call_at (served_with lives.Accepted k) c) (pos 0)) ≡ e =
      ap (λ (o : Option CallRecord). events.Finished c (pos 0) (served_finish o (pos 0)))
      (call_is x (from_server x given used) (c ∷ []) now lives.Accepted k)
      ∙ rw can.ended refl in
      let j = subst (λ (q : Event). Serves_ x g (served_with lives.Accepted k) lc cs js v q w t) is
      (serves_finish x g (served_with lives.Accepted k) lc cs js v w s t c (pos 0) go.0 refl go.1) in
      let o = serves_over g (over []) w j.stage t refl j.goes in
      let none : k ≡ after_write [] k = ap (λ (ys : List ℕ). record k { sent = record k.sent { said = ys } })
      (sym (append-nil k.sent.said)) in
      writes_all (omega (arith, can.near, ap (λ (ys : List ℕ). length ys) (append-nil k.sent.said)))
      (two_as x (after (server_setup x) e (served_with lives.Accepted k)) lc
      (served_with lives.Finished (after_shut (after_write [] k))) lc cs js j.stage t
      (server_finished x (from_server x given used) (c ∷ []) now k
      ∙ ap (λ (i : CallLooks). served_with lives.Finished (after_shut i)) none) refl (sym o.1) j.two)
      o.0

  -- one write
  record WroteOnce (a : ℕ) (k : CallLooks) (rest : List ℕ) (s t : Stage) (w : Turning) : Type 0 where
    count : ℕ
    few : count ≤ length (take 4096 rest)
    room : count ≤ 1412 * (a + 32) - length k.sent.said
    full : (count ≡ length (take 4096 rest)) ⊎ (count ≡ 1412 * (a + 32) - length k.sent.said)
    stage : Stage
    two : Two x (served_with lives.Accepted (after_write (take count (take 4096 rest)) k)) lc cs js stage
    goes : Serves g (settle g [] (record {
      job = writing_job (drop count rest);
      phase = if count == length (take 4096 rest) then phases.Moves else phases.Rests;
    }) []) stage w t

  writes_once : (a : ℕ) (k : CallLooks) (r : ℕ) (rs : List ℕ) (s t : Stage) (w : Turning) → CanWrite a k
      → Goes k (r ∷ rs) s w t → WroteOnce a k (r ∷ rs) s t w
  writes_once a k r rs s t w can go =
      let rest : List ℕ = r ∷ rs in
      let v : Turning = writing_with (writing_job rest) in
      let offer : List ℕ = take 4096 rest in
      let n : ℕ = min (length offer) (1412 * (a + 32) - length k.sent.said) in
      let ls : Looks = served_with lives.Accepted k in
      let some : nat_lt 0 (length rest) ≡ true = lt-ltb 0 (length rest) (omega arith) in
      let asked : (dispatching g).asks v ≡ Some (asks.write c offer) = rw some refl in
      let e : Event = events.Wrote c (length offer) (writers.Server (Ok n)) (take n offer) in
      let got : ◌≡◌ {A = Result ℕ ServeRefused} (served_write (server_setup x) ls (call_at ls c) (length offer))
      (Ok n) =
      ap (λ (o : Option CallRecord). served_write (server_setup x) ls o (length offer))
      (call_is x (from_server x given used) (c ∷ []) now lives.Accepted k)
      ∙ ap (λ (b : Bool). served_by lives.Accepted b (min (length offer) (room (server_setup x) ls k))) can.ended
      ∙ ap (λ (m : ℕ). Ok (min (length offer) m)) (room_is x now given used a k can) in
      let is : events.Wrote c (length offer)
      (writers.Server (served_write (server_setup x) ls (call_at ls c) (length offer)))
      (accepted offer (served_write (server_setup x) ls (call_at ls c) (length offer))) ≡ e =
      ap (λ (q : Result ℕ ServeRefused). events.Wrote c (length offer) (writers.Server q) (accepted offer q)) got in
      let i = subst (λ (q : Event). Serves_ x g ls lc cs js v q w t) is
      (serves_write x g ls lc cs js v w s t c offer go.0 asked go.1) in
      record {
        count = n;
        few = omega arith;
        room = omega arith;
        full = of (length offer) (1412 * (a + 32) - length k.sent.said);
        stage = i.stage;
        two = two_as x (after (server_setup x) e ls) lc (served_with lives.Accepted (after_write (take n offer) k)) lc
            cs js i.stage i.stage
            (wrote (server_setup x) x (from_server x given used) (c ∷ []) now (length offer) lives.Accepted k
            (writers.Server (Ok n)) (take n offer)) refl refl i.two;
        goes = i.goes;
      }
    where
      of : (m l : ℕ) → (min m l ≡ m) ⊎ (min m l ≡ l)
      of m l = elim (cases_lt l m) as (λ c1. (min m l ≡ m) ⊎ (min m l ≡ l)) [
        | inl less ↦ inr (omega arith)
        | inr not_less ↦ inl (omega arith)
      ]

  -- the fuel is what is left to write
  pub writes_out : (fuel a : ℕ) (k : CallLooks) (rest : List ℕ) (s t : Stage) (w : Turning) → length rest ≤ fuel
      → CanWrite a k → Goes k rest s w t → Written a k rest w t
  writes_out fuel a k [] s t w few can go = finishes a k s t w can go
  writes_out zero a k (r ∷ rs) s t w few can go = absurd (omega arith)
  writes_out (suc fuel) a k (r ∷ rs) s t w few can go =
      let o = writes_once a k r rs s t w can go in
      by (λ k2 left s2 short can2 go2. writes_out fuel a k2 left s2 t w short can2 go2) o.count o.few o.room o.full
      o.stage o.two (o.count == length (take 4096 (r ∷ rs))) refl o.goes
    where
      rest : List ℕ
      rest = r ∷ rs

      offer : List ℕ
      offer = take 4096 rest

      offered : length offer ≡ min 4096 (length rest)
      offered = length-take 4096 rest

      -- what was written and what is left are all
      split : (n : ℕ) → n ≤ length offer → rest ≡ take n offer ++ drop n rest
      split n within =
          sym (ap (λ (ys : List ℕ). ys ++ drop n rest) (take-take n 4096 rest (omega (arith, offered)))
          ∙ take-append-drop n rest)

      counts : (n : ℕ) → n ≤ length offer → length (take n offer) ≡ n
      counts n within = length-take n offer ∙ min_left n (length offer) within
        where
          min_left : (m l : ℕ) → m ≤ l → min m l ≡ m
          min_left m l low = omega arith

      long : (n : ℕ) → n ≤ length offer → length (k.sent.said ++ take n offer) ≡ length k.sent.said + n
      long n within = length-append k.sent.said (take n offer)
          ∙ ap (λ (m : ℕ). length k.sent.said + m) (counts n within)

      can_still : (n : ℕ) → n ≤ length offer → n ≤ 1412 * (a + 32) - length k.sent.said
          → CanWrite a (after_write (take n offer) k)
      can_still n within inside =
          record {
            ended = can.ended;
            acked = can.acked;
            going = can.going;
            few = can.few;
            known = omega (arith, long n within, can.known);
            near = omega (arith, long n within, can.near);
            small = can.small;
          }

      by : ((k2 : CallLooks) (left : List ℕ) (s2 : Stage) → length left ≤ fuel → CanWrite a k2 → Goes k2 left s2 w t
          → Written a k2 left w t)
          → (n : ℕ) → n ≤ length offer → n ≤ 1412 * (a + 32) - length k.sent.said
          → (n ≡ length offer) ⊎ (n ≡ 1412 * (a + 32) - length k.sent.said)
          → (u : Stage) → Two x (served_with lives.Accepted (after_write (take n offer) k)) lc cs js u
          → (b : Bool) → (n == length offer) ≡ b
          → Serves g (settle g [] (record {
            job = writing_job (drop n rest);
            phase = if n == length offer then phases.Moves else phases.Rests;
          }) []) u w t
          → Written a k rest w t
      by again n within inside full u two true all goes =
          let on : Serves g (writing_with (writing_job (drop n rest))) u w t =
          subst (λ (b : Bool). Serves g (settle g [] (record {
            job = writing_job (drop n rest);
            phase = if b then phases.Moves else phases.Rests;
          }) []) u w t) all goes in
          let same : n ≡ length offer = eqb-true n (length offer) all in
          written_more a k (take n offer) (drop n rest) rest w t (split n within)
          (again (after_write (take n offer) k) (drop n rest) u
          (omega (arith, length-drop n rest, offered)) (can_still n within inside) (two, on))
      by again n within inside full u two false part goes =
          let on : Serves g (over (writing_job (drop n rest) ∷ [])) u w t =
          subst (λ (b : Bool). Serves g (settle g [] (record {
            job = writing_job (drop n rest);
            phase = if b then phases.Moves else phases.Rests;
          }) []) u w t) part goes in
          let o = serves_over g (over (writing_job (drop n rest) ∷ [])) w u t refl on in
          let apart : n ≢ length offer = eqb-false n (length offer) part in
          let room_ : n ≡ 1412 * (a + 32) - length k.sent.said =
          ⊎_elim (λ (h : n ≡ length offer). absurd (apart h)) (λ (h : n ≡ 1412 * (a + 32) - length k.sent.said). h)
          full in
          let less : n < length rest = omega (arith, offered) in
          fills_up (take n offer) (drop n rest) (split n within) (omega (arith, length-drop n rest))
          (long n within ∙ omega (arith, can.near))
          (subst (λ (v : Stage). Two x (served_with lives.Accepted (after_write (take n offer) k)) lc cs js v) (sym o.1)
          two) o.0
