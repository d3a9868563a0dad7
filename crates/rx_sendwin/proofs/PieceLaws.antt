-- The pieces that a window holds, and their slots.
use Rattle.std.proofs.Common.{◌≡◌, ◌<◌, ◌≤◌, ◌-◌, map, true, ℕ}
use Rattle.std.proofs.Common.{suc, zero, List, [], ◌∷◌, ◌++◌, length, get_or, set, drop, take, refl}
use Rattle.std.proofs.Common.{sym, ap, subst, ◌∙◌, arith}
use Rattle.std.proofs.lemmas.List.{length-take-le}
use Rattle.std.proofs.lemmas.List.{length-set}
use Rattle.rx_model.specs.declared.wire.TheConstants.{PAYLOAD_BYTES}
use Rattle.rx_pool.specs.Pool.{Slots, has, bytes_at}
use Rattle.rx_pool.specs.Held.{Holds}
use Rattle.rx_pool.proofs.Numbers.{has_first, has_later}
use Rattle.rx_sendwin.specs.declared.piece.HeldPiece.{HeldPiece}
use Rattle.rx_sendwin.specs.Pieces.{slots_in, seen_at, giving_at, as_giving, last_size, AllSized, AllTimed, IsTimed}

-- what lies in the slots held is seen alike
pub seen_same : (old new : Slots) (hs : List HeldPiece) →
    ((s : ℕ) → has s (slots_in hs) ≡ true → bytes_at new s ≡ bytes_at old s) →
    map (seen_at new) hs ≡ map (seen_at old) hs
seen_same old new [] same = refl
seen_same old new (h ∷ hs) same =
    let here = same h.slot (has_first h.slot (slots_in hs)) in
    let rest = seen_same old new hs (λ s y. same s (has_later h.slot s (slots_in hs) y)) in
    λ i. take h.size (here i) ∷ rest i

pub slots_push : (hs : List HeldPiece) (h : HeldPiece) → slots_in (hs ++ h ∷ []) ≡ slots_in hs ++ h.slot ∷ []
slots_push [] h = refl
slots_push (g ∷ hs) h = ap (λ ss. g.slot ∷ ss) (slots_push hs h)

pub slots_drop : (n : ℕ) (hs : List HeldPiece) → slots_in (drop n hs) ≡ drop n (slots_in hs)
slots_drop zero hs = refl
slots_drop (suc n) [] = refl
slots_drop (suc n) (h ∷ hs) = slots_drop n hs

pub slots_count : (hs : List HeldPiece) → length (slots_in hs) ≡ length hs
slots_count [] = refl
slots_count (h ∷ hs) = ap suc (slots_count hs)

pub sized_push : (hs : List HeldPiece) (h : HeldPiece) → h.size ≤ PAYLOAD_BYTES → AllSized hs → AllSized (hs ++ h ∷ [])
sized_push [] h le s = (le, tt)
sized_push (g ∷ hs) h le s = (s.0, sized_push hs h le s.1)

pub timed_push : (hs : List HeldPiece) (h : HeldPiece) → IsTimed h.given → AllTimed hs → AllTimed (hs ++ h ∷ [])
timed_push [] h b t = (b, tt)
timed_push (g ∷ hs) h b t = (t.0, timed_push hs h b t.1)

pub sized_set : (hs : List HeldPiece) (i : ℕ) (h : HeldPiece) → h.size ≤ PAYLOAD_BYTES → AllSized hs →
    AllSized (set hs i h)
sized_set [] i h le s = tt
sized_set (g ∷ hs) zero h le s = (le, s.1)
sized_set (g ∷ hs) (suc i) h le s = (s.0, sized_set hs i h le s.1)

pub timed_set : (hs : List HeldPiece) (i : ℕ) (h : HeldPiece) → IsTimed h.given → AllTimed hs → AllTimed (set hs i h)
timed_set [] i h b t = tt
timed_set (g ∷ hs) zero h b t = (b, t.1)
timed_set (g ∷ hs) (suc i) h b t = (t.0, timed_set hs i h b t.1)

pub sized_at : (hs : List HeldPiece) (i : ℕ) (h : HeldPiece) → h ≡ get_or hs i h → i < length hs → AllSized hs →
    h.size ≤ PAYLOAD_BYTES
sized_at [] i h e lt s = absurd (omega (arith, lt))
sized_at (g ∷ hs) zero h e lt s = subst (λ (k : HeldPiece). k.size ≤ PAYLOAD_BYTES) (sym e) s.0
sized_at (g ∷ hs) (suc i) h e lt s = sized_at hs i h e (omega (arith, lt)) s.1

pub timed_at : (hs : List HeldPiece) (i : ℕ) (h : HeldPiece) → h ≡ get_or hs i h → i < length hs → AllTimed hs →
    IsTimed h.given
timed_at [] i h e lt s = absurd (omega (arith, lt))
timed_at (g ∷ hs) zero h e lt s = subst (λ (k : HeldPiece). IsTimed k.given) (sym e) s.0
timed_at (g ∷ hs) (suc i) h e lt s = timed_at hs i h e (omega (arith, lt)) s.1

pub has_at : (hs : List HeldPiece) (i : ℕ) (h : HeldPiece) → h ≡ get_or hs i h → i < length hs →
    has h.slot (slots_in hs) ≡ true
has_at [] i h e lt = absurd (omega (arith, lt))
has_at (g ∷ hs) zero h e lt =
    subst (λ (k : HeldPiece). has k.slot (g.slot ∷ slots_in hs) ≡ true) (sym e) (has_first g.slot (slots_in hs))
has_at (g ∷ hs) (suc i) h e lt = has_later g.slot h.slot (slots_in hs) (has_at hs i h e (omega (arith, lt)))

pub slots_set : (hs : List HeldPiece) (i : ℕ) (h g : HeldPiece) → h ≡ get_or hs i h → i < length hs → g.slot ≡ h.slot →
    slots_in (set hs i g) ≡ slots_in hs
slots_set [] i h g e lt same = absurd (omega (arith, lt))
slots_set (k ∷ hs) zero h g e lt same = ap (λ s. s ∷ slots_in hs) (same ∙ ap (λ (x : HeldPiece). x.slot) e)
slots_set (k ∷ hs) (suc i) h g e lt same = ap (λ ss. k.slot ∷ ss) (slots_set hs i h g e (omega (arith, lt)) same)

pub givings_set : (hs : List HeldPiece) (i : ℕ) (h g : HeldPiece) → h ≡ get_or hs i h → i < length hs →
    g.given ≡ h.given → map giving_at (set hs i g) ≡ map giving_at hs
givings_set [] i h g e lt same = absurd (omega (arith, lt))
givings_set (k ∷ hs) zero h g e lt same =
    ap (λ s. s ∷ map giving_at hs) (ap as_giving (same ∙ ap (λ (x : HeldPiece). x.given) e))
givings_set (k ∷ hs) (suc i) h g e lt same =
    ap (λ ss. giving_at k ∷ ss) (givings_set hs i h g e (omega (arith, lt)) same)

pub get_seen : (pool : Slots) (hs : List HeldPiece) (i : ℕ) (h : HeldPiece) → h ≡ get_or hs i h → i < length hs →
    get_or (map (seen_at pool) hs) i [] ≡ seen_at pool h
get_seen pool [] i h e lt = absurd (omega (arith, lt))
get_seen pool (k ∷ hs) zero h e lt = ap (seen_at pool) (sym e)
get_seen pool (k ∷ hs) (suc i) h e lt = get_seen pool hs i h e (omega (arith, lt))

pub same_at : (hs : List HeldPiece) (i : ℕ) (h g : HeldPiece) → h ≡ get_or hs i h → g ≡ get_or hs i g → i < length hs →
    h ≡ g
same_at [] i h g e f lt = absurd (omega (arith, lt))
same_at (k ∷ hs) zero h g e f lt = e ∙ sym f
same_at (k ∷ hs) (suc i) h g e f lt = same_at hs i h g e f (omega (arith, lt))

-- ---- the last piece

pub last_push : (hs : List HeldPiece) (h : HeldPiece) → last_size (hs ++ h ∷ []) ≡ h.size
last_push [] h = refl
last_push (g ∷ []) h = refl
last_push (g ∷ k ∷ hs) h = last_push (k ∷ hs) h

last_tail : (h : HeldPiece) (hs : List HeldPiece) → 0 < length hs → last_size (h ∷ hs) ≡ last_size hs
last_tail h [] lt = absurd (omega (arith, lt))
last_tail h (k ∷ hs) lt = refl

pub last_set : (hs : List HeldPiece) (g : HeldPiece) → 0 < length hs → last_size (set hs (length hs - 1) g) ≡ g.size
last_set [] g lt = absurd (omega (arith, lt))
last_set (h ∷ []) g lt = refl
last_set (h ∷ k ∷ hs) g lt =
    let n : length (h ∷ k ∷ hs) - 1 ≡ suc (length (k ∷ hs) - 1) = omega arith in
    ap (λ m. last_size (set (h ∷ k ∷ hs) m g)) n ∙ last_tail h (set (k ∷ hs) (length (k ∷ hs) - 1) g)
    (omega (arith, length-set (k ∷ hs) (length (k ∷ hs) - 1) g)) ∙ last_set (k ∷ hs) g (omega arith)

pub last_set_same : (hs : List HeldPiece) (i : ℕ) (h g : HeldPiece) → h ≡ get_or hs i h → i < length hs →
    g.size ≡ h.size → last_size (set hs i g) ≡ last_size hs
last_set_same [] i h g e lt same = absurd (omega (arith, lt))
last_set_same (k ∷ []) zero h g e lt same = same ∙ ap (λ (x : HeldPiece). x.size) e
last_set_same (k ∷ []) (suc i) h g e lt same = refl
last_set_same (k ∷ l ∷ hs) zero h g e lt same = refl
last_set_same (k ∷ l ∷ hs) (suc i) h g e lt same =
    last_tail k (set (l ∷ hs) i g) (let size = length-set (l ∷ hs) i g in omega (arith, size))
    ∙ last_set_same (l ∷ hs) i h g e (omega (arith, lt)) same

pub last_drop : (n : ℕ) (hs : List HeldPiece) → n < length hs → last_size (drop n hs) ≡ last_size hs
last_drop zero hs lt = refl
last_drop (suc n) [] lt = absurd (omega (arith, lt))
last_drop (suc n) (h ∷ hs) lt = last_drop n hs (omega (arith, lt)) ∙ sym (last_tail h hs (omega (arith, lt)))

pub last_seen : (pool : Slots) (hs : List HeldPiece) → AllSized hs → Holds pool (slots_in hs) →
    length (get_or (map (seen_at pool) hs) (length hs - 1) []) ≡ last_size hs
last_seen pool [] sized holds = refl
last_seen pool (h ∷ []) sized holds =
    let room = (holds.of h.slot (has_first h.slot [])).size in
    let small = sized.0 in
    length-take-le h.size (bytes_at pool h.slot) (omega (arith, room, small))
last_seen pool (h ∷ k ∷ hs) sized holds =
    let n : length (h ∷ k ∷ hs) - 1 ≡ suc (length (k ∷ hs) - 1) = omega arith in
    let held : Holds pool (slots_in (k ∷ hs)) = (
    record { of = λ s y. holds.of s (has_later h.slot s (slots_in (k ∷ hs)) y); apart = holds.apart.1 }) in
    ap (λ m. length (get_or (map (seen_at pool) (h ∷ k ∷ hs)) m [])) n ∙ last_seen pool (k ∷ hs) sized.1 held
