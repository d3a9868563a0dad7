-- What a node reads of a channel's latest call, and what follows of it.
use Rattle.std.proofs.Common.{◌≡◌, ◌≤◌, ◌<◌, ◌+◌, ◌-◌, ◌/◌, ◌%◌, ◌&&◌, ℕ, zero, suc, Bool, true, false, List, [], ◌∷◌}
use Rattle.std.proofs.Common.{length, min, take}
use Rattle.std.proofs.Common.{Option, Some, None, option_map, refl, ◌∙◌, ap, sym, subst, arith, inr, nat_le}
use Rattle.std.proofs.Common.{if◌then◌else◌}
use Rattle.std.proofs.lemmas.Bool.Decides.{nat_tests}
use Rattle.std.proofs.lemmas.List.{length-take}
use Rattle.std.specs.Prelude.{IsSomeAnd, is_some, option_and_then, slice_get, slice_index_or}
use Rattle.std.proofs.lemmas.Option.{slice_get_within}
use Rattle.rx_model.specs.declared.answers.End.{End}
use Rattle.rx_model.specs.declared.wire.TheConstants.{SILENCE_MS}
use Rattle.rx_model.specs.Names.{Channel}
use Rattle.rx_rules.specs.CallLooks.{CallLooks, after_write, lead}
use Rattle.rx_rules.specs.Classes.{Class}
use Rattle.rx_rules.specs.Life.{Life, after_silence, is_active, is_live}
use Rattle.rx_rules.specs.Looks.{CallRecord, Looks, is_call, latest, latest_name, on_call, on_life, on_looks}
use Rattle.rx_rules.specs.Records.{unless_silent}
use Rattle.rx_rules.specs.Sent.{room_of}
use Rattle.rx_rules.specs.Setup.{is_client}
use Rattle.rx_rules.specs.Slots.{room}
use Rattle.rx_history.proofs.LifeFalls.{Falls}
use Rattle.rx_history.proofs.Room.RoomEvents.{Wrote, roomy_wrote}
use Rattle.rx_history.proofs.Room.RoomStarts.{RoomyAt}
use Rattle.rx_call.specs.Kept.{call_under}
use Rattle.rx_call.specs.Standing.{EndOfCall}
use Rattle.rx_call_ends.specs.Ends.{IsUnshut, StandsAs, StandsEnd}
use Rattle.rx_table.specs.declared.seat.Seat.{Seat}
use Rattle.rx_table.specs.Records.{ConnRecord, Records, record_at, seat_at}
use Rattle.rx_node.specs.declared.life.Life.{Life as CodeLife}
use Rattle.rx_node.specs.Lives.{ended_life, life_of}
use Rattle.rx_node.specs.Mirrors.{IsActiveAt, IsChannel, Mirrors}
use Rattle.rx_node.specs.Node.{IsSetUp, NodeState, is_active_life, life_at, seat_life, setup_of}
use Rattle.rx_node.proofs.CallChanges.{same_call, same_change}
use Rattle.rx_node.proofs.Steps.EndSteps.{active_call}
use Rattle.rx_node.proofs.LifeLaws.{not_active}
use Rattle.rx_node.proofs.LoopEnds.{unless_active}

-- ---- an element by its index

pub indexed : {X : Type 0} (xs : List X) (i : ℕ) (x : X) → i < length xs → x ≡ slice_index_or xs i x
    → slice_get xs i ≡ Some x
indexed [] i x low is = absurd (omega arith)
indexed (y ∷ ys) zero x low is = (let same : x ≡ y = is in cc (same))
indexed (y ∷ ys) (suc i) x low is = indexed ys i x (omega arith) is

-- a key of a channel is one of a life
pub key_low : (class : List ℕ → Class) (n : NodeState) (key : ℕ) → IsSetUp class n → key / 4 < length n.table.conns
    → key < length n.lives
key_low class n key s low = (let few = s.few in let lives = s.lives in omega arith)

-- ---- a life by its seat

pub seat_has : (n : NodeState) (key : ℕ) (seat : Seat) → seat_at n.table key ≡ Some seat
    → life_at n key ≡ seat_life n key seat
seat_has n key seat there = ap (λ (o : Option Seat). option_and_then (seat_life n key) o) there

pub named_life : (n : NodeState) (key end : ℕ) (code : CodeLife) (seat : Seat) → seat.live ≡ Some end
    → slice_get n.lives key ≡ Some code → seat_life n key seat ≡ Some (life_of code)
named_life n key end code seat names its = of seat.live names
  where
    of : (o : Option ℕ) → o ≡ Some end → seat_life n key (record seat { live = o }) ≡ Some (life_of code)
    of None is = absurd (cc (is))
    of (Some q) is = ap (option_map life_of) its

pub life_named_at : (n : NodeState) (key end : ℕ) (code : CodeLife) (seat : Seat) → seat_at n.table key ≡ Some seat
    → seat.live ≡ Some end → slice_get n.lives key ≡ Some code → Some (life_of code) ≡ life_at n key
life_named_at n key end code seat there names its =
    sym (named_life n key end code seat names its) ∙ sym (seat_has n key seat there)

pub ended_at : (n : NodeState) (key : ℕ) (o : Option End) (seat : Seat) → seat.live ≡ None → seat.«end» ≡ o
    → seat_life n key seat ≡ option_map (ended_life (is_client n.kind)) o
ended_at n key o seat free ended = of seat.live free ∙ ap (option_map (ended_life (is_client n.kind))) ended
  where
    of : (p : Option ℕ) → p ≡ None
        → seat_life n key (record seat { live = p }) ≡ option_map (ended_life (is_client n.kind)) seat.«end»
    of None is = refl
    of (Some q) is = absurd (cc (is))

pub life_ended_at : (n : NodeState) (key : ℕ) (o : Option End) (seat : Seat) → seat_at n.table key ≡ Some seat
    → seat.live ≡ None → seat.«end» ≡ o → option_map (ended_life (is_client n.kind)) o ≡ life_at n key
life_ended_at n key o seat there free ended = sym (ended_at n key o seat free ended) ∙ sym (seat_has n key seat there)

life-in : (x : Life) (o : Option CallRecord) → Some x ≡ option_map (λ k. k.life) o
    → is_call (λ k. is_active k.life) o ≡ is_active x
life-in x None is = absurd (cc (is))
life-in x (Some k) is = (let same : x ≡ k.life = cc (is) in ap is_active (sym same))

not-active : (o : Option CallRecord) → is_call (λ k. is_live k.life) o ≡ false
    → is_call (λ k. is_active k.life) o ≡ false
not-active None none = refl
not-active (Some k) none = not_active k.life none

module _ (class : List ℕ → Class) (n : NodeState) (l : Looks) (m : Mirrors class n l) (key : ℕ) (ch : Channel)
    (at : IsChannel l key ch) (seat : Seat) (there : seat_at n.table key ≡ Some seat) where
  -- the life that a channel's seat has is that of its latest call
  pub life_latest : life_at n key ≡ option_map (λ k. k.life) (latest l ch)
  life_latest = seat_has n key seat there ∙ (m.channels key ch seat at there).call.life

  -- a seat that names no end has no call that lives
  pub free_dead : seat.live ≡ None → is_call (λ k. is_live k.life) (latest l ch) ≡ false
  free_dead free = sym (m.channels key ch seat at there).call.live ∙ ap (λ (o : Option ℕ). is_some o) free

  pub free_inactive : seat.live ≡ None → is_call (λ k. is_active k.life) (latest l ch) ≡ false
  free_inactive free = not-active (latest l ch) (free_dead free)

  -- one that names an end has one that lives
  pub named_live : (end : ℕ) → seat.live ≡ Some end → is_call (λ k. is_live k.life) (latest l ch) ≡ true
  named_live end names = sym (m.channels key ch seat at there).call.live ∙ ap (λ (o : Option ℕ). is_some o) names

  -- which is active as its life is
  pub named_active : (end : ℕ) (code : CodeLife) → seat.live ≡ Some end → slice_get n.lives key ≡ Some code
      → is_call (λ k. is_active k.life) (latest l ch) ≡ is_active (life_of code)
  named_active end code names its =
      life-in (life_of code) (latest l ch)
      (sym (named_life n key end code seat names its) ∙ (m.channels key ch seat at there).call.life)

-- ---- an active call

pub is_active_at : (n : NodeState) (key end : ℕ) (code : CodeLife) (seat : Seat) → seat_at n.table key ≡ Some seat
    → seat.live ≡ Some end → slice_get n.lives key ≡ Some code → is_active (life_of code) ≡ true → IsActiveAt n key end
is_active_at n key end code seat there names its active =
    record {
      seat = seat;
      there = there;
      live = names;
      active = ap is_active_life (seat_has n key seat there ∙ named_life n key end code seat names its) ∙ active;
    }

module _ (class : List ℕ → Class) (n : NodeState) (l : Looks) (m : Mirrors class n l) (key end : ℕ) (ch : Channel)
    (at : IsChannel l key ch) (a : IsActiveAt n key end) where
  pub active_stands : (k : CallRecord) → latest l ch ≡ Some k → StandsEnd n.ends end k.looks
  active_stands k is =
      (let its = active_call class n l m key end ch at a in
      let same : its.call ≡ k = (let both = sym its.latest_is ∙ is in cc (both)) in
      subst (λ (j : CallRecord). StandsEnd n.ends end j.looks) same its.stands)

  -- the room of a write
  pub room_is : IsSetUp class n → (k : CallLooks)
      → room_of n.ends.calls.pace.window ((n.ends.shared - n.ends.common) + 1 - lead k) k.sent
      ≡ room (setup_of class n) l k
  room_is s k = λ i. room_of (s.pace i).window ((s.shared i - m.common i) + 1 - lead k) k.sent

  unshut-in : (k : CallLooks) → StandsEnd n.ends end k → IsUnshut n.ends end → k.sent.shut ≡ false
  unshut-in k stands unshut = of (call_under n.ends.calls end) stands unshut
    where
      of : (o : Option EndOfCall) → IsSomeAnd o (λ c. StandsAs n.ends c k) → IsSomeAnd o (λ c. c.sent.shut ≡ false)
          → k.sent.shut ≡ false
      of None stands unshut = absurd stands
      of (Some c) stands unshut = sym stands.stands.sent.shut ∙ unshut

  -- a write that is no longer than it
  pub wrote : IsUnshut n.ends end → (bytes : List ℕ) (got : ℕ)
      → ((k : CallRecord) → latest l ch ≡ Some k → got ≡ min (length bytes) (room (setup_of class n) l k.looks))
      → (k : CallRecord) → latest l ch ≡ Some k → Wrote (setup_of class n) l k (take got bytes)
  wrote unshut bytes got answered k is =
      inr (
        unshut-in k.looks (active_stands k is) unshut,
        (let size = length-take got bytes in let most = answered k is in omega arith),
      )

  -- a write takes no more slots than are left
  pub roomy_write : IsSetUp class n → IsUnshut n.ends end → (bytes : List ℕ) (got : ℕ)
      → ((k : CallLooks) → StandsEnd n.ends end k → got ≡ min (length bytes)
      (room_of n.ends.calls.pace.window ((n.ends.shared - n.ends.common) + 1 - lead k) k.sent))
      → RoomyAt (setup_of class n) (on_looks (latest_name l ch) (after_write (take got bytes)) l)
  roomy_write s unshut bytes got answered =
      roomy_wrote (setup_of class n) (latest_name l ch) (take got bytes) l
      (λ k is t. wrote unshut bytes got
      (λ j its. answered j.looks (active_stands j its) ∙ ap (min (length bytes)) (room_is s j.looks)) k is) m.roomy

-- ---- the place of a seat

pub there_low : (t : Records) (key : ℕ) (o : Option ConnRecord) (s : Seat) → record_at t (key / 4) ≡ o
    → option_and_then (λ r. slice_get r.seats (key % 4)) o ≡ Some s → key / 4 < length t.conns
there_low t key None s is there = absurd (cc (there))
there_low t key (Some r) s is there = slice_get_within t.conns (key / 4) r is

-- ---- a change of a call by what becomes of its life

-- the life of the latest call becomes another, as a change has it
module _ (class : List ℕ → Class) (old : NodeState) (l : Looks) (ch : Channel) (m : Mirrors class old l)
    (change : CallRecord → CallRecord) where
  pub none_by : latest l ch ≡ None → Mirrors class old (on_call (latest_name l ch) change l)
  none_by none =
      subst (λ (x : Looks). Mirrors class old x)
      (sym (same_call (latest_name l ch) change l m.roomy.differ
      (λ k there. absurd (let both = sym none ∙ there in cc (both))))) m

  pub same_by : (k : CallRecord) → latest l ch ≡ Some k → change k ≡ k
      → Mirrors class old (on_call (latest_name l ch) change l)
  same_by k is same =
      subst (λ (x : Looks). Mirrors class old x)
      (sym (same_call (latest_name l ch) change l m.roomy.differ
      (λ j there. (
      let one : k ≡ j = (let both = sym is ∙ there in cc (both)) in
      subst (λ (i : CallRecord). change i ≡ i) one same)))) m

  -- two changes that are one on the latest call
  pub changed_as : (new : NodeState) (k : CallRecord) (by : CallRecord → CallRecord) → latest l ch ≡ Some k
      → by k ≡ change k
      → Mirrors class new (on_call (latest_name l ch) by l) → Mirrors class new (on_call (latest_name l ch) change l)
  changed_as new k by is same next =
      subst (λ (y : Looks). Mirrors class new y)
      (same_change (latest_name l ch) by change l m.roomy.differ
      (λ j there. (
      let one : k ≡ j = (let both = sym is ∙ there in cc (both)) in
      subst (λ (i : CallRecord). by i ≡ change i) one same))) next

-- a channel that has no call
pub no_call : (class : List ℕ → Class) (old : NodeState) (l : Looks) (ch : Channel) → Mirrors class old l
    → (change : CallRecord → CallRecord) → None ≡ option_map (λ k. k.life) (latest l ch)
    → Mirrors class old (on_call (latest_name l ch) change l)
no_call class old l ch m change answered = none_by class old l ch m change (none-in (latest l ch) answered)
  where
    none-in : (o : Option CallRecord) → None ≡ option_map (λ k. k.life) o → o ≡ None
    none-in None is = refl
    none-in (Some k) is = absurd (cc (is))

module _ (class : List ℕ → Class) (old new : NodeState) (l : Looks) (ch : Channel) (m : Mirrors class old l)
    (before : Life) (change : Life → Life) where
  -- a code reaches a channel's latest call, of which the life is known
  pub reached_by : Some before ≡ option_map (λ k. k.life) (latest l ch) → ((x : Life) → Falls x (change x))
      → ((x : Life) → is_live x ≡ false → change x ≡ x)
      → ((k : CallRecord) → latest l ch ≡ Some k → is_live k.life ≡ true → Falls k.life (change before)
      → Mirrors class new (on_life (latest_name l ch) (λ b. change before) l))
      → (is_call (λ k. is_live k.life) (latest l ch) ≡ false → new ≡ old)
      → Mirrors class new (on_life (latest_name l ch) change l)
  reached_by answered falls still steps ended = of (latest l ch) refl answered
    where
      of : (o : Option CallRecord) → latest l ch ≡ o → Some before ≡ option_map (λ k. k.life) o
          → Mirrors class new (on_life (latest_name l ch) change l)
      of None is none = absurd (cc (none))
      of (Some k) is some =
          (let same : before ≡ k.life = cc (some) in
          (elim (is_live k.life)
          as (λ b. is_live k.life ≡ b → Mirrors class new (on_life (latest_name l ch) change l)) [
            | true ↦ λ live.
                changed_as class old l ch m (λ j. record j { life = change j.life }) new k
                (λ j. record j { life = change before }) is (ap (λ (x : Life). record k { life = change x }) same)
                (steps k is live (subst (λ (x : Life). Falls x (change before)) same (falls before)))
            | false ↦ λ none.
                subst (λ (n : NodeState). Mirrors class n (on_life (latest_name l ch) change l))
                (sym (ended (ap (is_call (λ j. is_live j.life)) is ∙ none)))
                (same_by class old l ch m (λ j. record j { life = change j.life }) k is
                (λ i. record k { life = still k.life none i }))
          ]) refl)

-- ---- silence

-- nothing was heard of a call for less than that
pub not_silent : (now : ℕ) (k : CallRecord) → now < k.looks.heard + SILENCE_MS → unless_silent now k ≡ k
not_silent now k soon =
    (elim (is_active k.life) as (λ b. (if (b && nat_le SILENCE_MS (now - k.looks.heard))
    then record k { life = after_silence (now - k.looks.heard) k.life } else k) ≡ k) [
      | true ↦ (
          let low : nat_le SILENCE_MS (now - k.looks.heard) ≡ false = grind (arith, nat_tests, soon) in
          ap (λ (b : Bool). if b then record k { life = after_silence (now - k.looks.heard) k.life } else k) low)
      | false ↦ refl
    ])

-- or for as long
pub silent : (now : ℕ) (k : CallRecord) → is_active k.life ≡ true → k.looks.heard + SILENCE_MS ≤ now
    → unless_silent now k ≡ record k { life = after_silence (now - k.looks.heard) k.life }
silent now k active late =
    (let low : nat_le SILENCE_MS (now - k.looks.heard) ≡ true = grind (arith, nat_tests, late) in
    rw (active, low) refl)

-- a call that isn't active stays
pub unless_inactive : (class : List ℕ → Class) (n : NodeState) (l : Looks) (ch : Channel) → Mirrors class n l
    → is_call (λ k. is_active k.life) (latest l ch) ≡ false
    → Mirrors class n (on_call (latest_name l ch) (unless_silent l.now) l)
unless_inactive class n l ch m none = of (latest l ch) refl none
  where
    of : (o : Option CallRecord) → latest l ch ≡ o → is_call (λ k. is_active k.life) o ≡ false
        → Mirrors class n (on_call (latest_name l ch) (unless_silent l.now) l)
    of None is none = none_by class n l ch m (unless_silent l.now) is
    of (Some k) is none = same_by class n l ch m (unless_silent l.now) k is (unless_active l.now k none)
