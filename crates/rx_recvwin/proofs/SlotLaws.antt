-- The slots that places hold, and the packets that are seen in them.
use Rattle.std.proofs.Common.{◌≡◌, ◌<◌, ◌+◌, ◌==◌, ◌||◌, is_some, map, replicate}
use Rattle.std.proofs.Common.{true, false, ℕ, suc, zero, List, [], ◌∷◌, ◌++◌, length, set, drop, take}
use Rattle.std.proofs.Common.{Option, Some, None, refl, sym, ap, subst, ◌∙◌, arith, append_assoc}
use Rattle.std.proofs.lemmas.List.{length-drop, drop-drop, replicate_more}
use Rattle.std.proofs.lemmas.Bool.{false≢true}
use Rattle.rx_pool.specs.Pool.{Slots, IsSlotOf, Takes, has, HasNoRepeat, bytes_at}
use Rattle.rx_pool.specs.Held.{Holds, Keeps}
use Rattle.rx_pool.proofs.Holding.{keeps_same, keeps_given}
use Rattle.rx_pool.proofs.Numbers.{has_first, has_later, not_first, not_later, not_has}
use Rattle.rx_recvwin.specs.declared.packet.KeptPacket.{KeptPacket}
use Rattle.rx_recvwin.specs.Places.{place_at, leading, count_in, slots_in, seen_at}
use Rattle.rx_recvwin.proofs.PlaceLaws.{slots_end, some_same}

-- ---- the slots held

pub slots_count : (hs : List (Option KeptPacket)) → length (slots_in hs) ≡ count_in hs
slots_count [] = refl
slots_count (None ∷ hs) = slots_count hs
slots_count (Some h ∷ hs) = ap suc (slots_count hs)

pub has_slots : (hs : List (Option KeptPacket)) (i : ℕ) (h : KeptPacket) → place_at hs i ≡ Some h →
    has h.slot (slots_in hs) ≡ true
has_slots [] i h e = absurd (false≢true (ap is_some e))
has_slots (None ∷ hs) zero h e = absurd (false≢true (ap is_some e))
has_slots (Some g ∷ hs) zero h e =
    let is : g ≡ h = some_same g h e in
    subst (λ (k : KeptPacket). has k.slot (g.slot ∷ slots_in hs) ≡ true) is (has_first g.slot (slots_in hs))
has_slots (None ∷ hs) (suc i) h e = has_slots hs i h e
has_slots (Some g ∷ hs) (suc i) h e = has_later g.slot h.slot (slots_in hs) (has_slots hs i h e)

-- whichever of two stands first
pub has_swap : (s t u : ℕ) (xs : List ℕ) → has u (s ∷ t ∷ xs) ≡ has u (t ∷ s ∷ xs)
has_swap s t u xs =
    (elim (s == u) as (λ a. (a || ((t == u) || has u xs)) ≡ ((t == u) || (a || has u xs))) [
      | true ↦ (elim (t == u) as (λ b. true ≡ (b || true)) [ true ↦ refl | false ↦ refl ])
      | false ↦ refl
    ])

pub slots_put : (hs : List (Option KeptPacket)) (i : ℕ) (h : KeptPacket) (s : ℕ) → i < length hs →
    place_at hs i ≡ None → has s (slots_in (set hs i (Some h))) ≡ has s (h.slot ∷ slots_in hs)
slots_put [] i h s lt none = absurd (omega (arith, lt))
slots_put (None ∷ hs) zero h s lt none = refl
slots_put (Some g ∷ hs) zero h s lt none = absurd (false≢true (ap is_some (sym none)))
slots_put (None ∷ hs) (suc i) h s lt none = slots_put hs i h s (omega (arith, lt)) none
slots_put (Some g ∷ hs) (suc i) h s lt none =
    ap (λ b. (g.slot == s) || b) (slots_put hs i h s (omega (arith, lt)) none) ∙ has_swap g.slot h.slot s (slots_in hs)

pub no_repeat_put : (hs : List (Option KeptPacket)) (i : ℕ) (h : KeptPacket) → i < length hs → place_at hs i ≡ None →
    HasNoRepeat (h.slot ∷ slots_in hs) → HasNoRepeat (slots_in (set hs i (Some h)))
no_repeat_put [] i h lt none a = absurd (omega (arith, lt))
no_repeat_put (None ∷ hs) zero h lt none a = a
no_repeat_put (Some g ∷ hs) zero h lt none a = absurd (false≢true (ap is_some (sym none)))
no_repeat_put (None ∷ hs) (suc i) h lt none a = no_repeat_put hs i h (omega (arith, lt)) none a
no_repeat_put (Some g ∷ hs) (suc i) h lt none a = (
  slots_put hs i h g.slot (omega (arith, lt)) none
      ∙ not_has h.slot g.slot (slots_in hs) (λ e. not_first g.slot h.slot (slots_in hs) a.0 (sym e)) a.1.0,
  no_repeat_put hs i h (omega (arith, lt)) none (not_later g.slot h.slot (slots_in hs) a.0, a.1.1),
)

-- ---- what is seen

pub place_seen : (pool : Slots) (hs : List (Option KeptPacket)) (i : ℕ) →
    place_at (map (seen_at pool) hs) i ≡ seen_at pool (place_at hs i)
place_seen pool [] i = refl
place_seen pool (h ∷ hs) zero = refl
place_seen pool (h ∷ hs) (suc i) = place_seen pool hs i

pub some_seen : (pool : Slots) (o : Option KeptPacket) → is_some (seen_at pool o) ≡ is_some o
some_seen pool None = refl
some_seen pool (Some h) = refl

pub leading_seen : (pool : Slots) (hs : List (Option KeptPacket)) → leading (map (seen_at pool) hs) ≡ leading hs
leading_seen pool [] = refl
leading_seen pool (None ∷ hs) = refl
leading_seen pool (Some h ∷ hs) = ap suc (leading_seen pool hs)

pub count_seen : (pool : Slots) (hs : List (Option KeptPacket)) → count_in (map (seen_at pool) hs) ≡ count_in hs
count_seen pool [] = refl
count_seen pool (None ∷ hs) = count_seen pool hs
count_seen pool (Some h ∷ hs) = ap suc (count_seen pool hs)

-- what lies in the slots held is seen alike
pub seen_same : (old new : Slots) (hs : List (Option KeptPacket)) →
    ((s : ℕ) → has s (slots_in hs) ≡ true → bytes_at new s ≡ bytes_at old s) →
    map (seen_at new) hs ≡ map (seen_at old) hs
seen_same old new [] same = refl
seen_same old new (None ∷ hs) same = ap (λ rest. None ∷ rest) (seen_same old new hs same)
seen_same old new (Some h ∷ hs) same =
    let here = same h.slot (has_first h.slot (slots_in hs)) in
    let rest = seen_same old new hs (λ s y. same s (has_later h.slot s (slots_in hs) y)) in
    λ i. Some (record { payload = take h.size (here i); last = h.last }) ∷ rest i

-- ---- a turn

pub turn_of : (pool : Slots) (old rest : List (Option KeptPacket)) (h : KeptPacket) → old ≡ Some h ∷ rest →
    Holds pool (slots_in old) → IsSlotOf pool h.slot
turn_of pool old rest h is holds =
    holds.of h.slot (ap (λ hs. has h.slot (slots_in hs)) is ∙ has_first h.slot (slots_in rest))

pub turn_some : (pool new : Slots) (old rest after : List (Option KeptPacket)) (h : KeptPacket) → old ≡ Some h ∷ rest →
    after ≡ rest ++ None ∷ [] → Takes new pool h.slot → Holds pool (slots_in old) →
    Keeps pool new (slots_in old) (slots_in after)
turn_some pool new old rest after h is then t holds =
    let end : slots_in after ≡ slots_in rest = ap slots_in then ∙ slots_end rest in
    let given = keeps_given pool new h.slot (slots_in rest) t (subst (λ hs. Holds pool (slots_in hs)) is holds) in
    rw (is, end) given

pub turn_none : (pool : Slots) (old rest after : List (Option KeptPacket)) → old ≡ None ∷ rest →
    after ≡ rest ++ None ∷ [] → Holds pool (slots_in old) → Keeps pool pool (slots_in old) (slots_in after)
turn_none pool old rest after is then holds =
    let end : slots_in after ≡ slots_in rest = ap slots_in then ∙ slots_end rest in
    let same = keeps_same pool (slots_in rest) (subst (λ hs. Holds pool (slots_in hs)) is holds) in
    rw (is, end) same

drop_less : {X : Type 0} (n : ℕ) (xs : List X) → n < length xs → 0 < length (drop n xs)
drop_less n xs lt = (let size = length-drop n xs in omega (arith, size, lt))

drop_join : {X : Type 0} (xs ys : List X) → 0 < length xs → drop 1 (xs ++ ys) ≡ drop 1 xs ++ ys
drop_join [] ys lt = absurd (omega (arith, lt))
drop_join (x ∷ xs) ys lt = refl

pub turn_next : (old places after : List (Option KeptPacket)) (n : ℕ) → n < length old →
    places ≡ drop n old ++ replicate n None → after ≡ drop 1 places ++ None ∷ [] →
    after ≡ drop (n + 1) old ++ replicate (n + 1) None
turn_next old places after n lt is turned =
    turned ∙ ap (λ hs. drop 1 hs ++ None ∷ []) is
    ∙ ap (λ hs. hs ++ None ∷ []) (drop_join (drop n old) (replicate n None) (drop_less n old lt))
    ∙ append_assoc (drop 1 (drop n old)) (replicate n None) (None ∷ [])
    ∙ (λ i. drop-drop 1 n old i ++ replicate_more n None i)
