-- A piece comes to a slot, or its slot is given back.
use Rattle.std.proofs.Common.{◌≡◌, ◌<◌, ◌≤◌, ◌+◌, map, true, ℕ}
use Rattle.std.proofs.Common.{suc, zero, List, [], ◌∷◌, ◌++◌, length, get_or, set, drop, take, Option}
use Rattle.std.proofs.Common.{sym, ap, subst, ◌∙◌, arith}
use Rattle.std.proofs.lemmas.Bool.{false≢true}
use Rattle.std.proofs.lemmas.List.{map_push, length_push, length-take-le, get_or-set_other, get_or-set_same, drop-drop}
use Rattle.rx_model.specs.declared.wire.TheConstants.{PAYLOAD_BYTES}
use Rattle.rx_pool.specs.Pool.{Slots, IsSlotOf, Takes, has, bytes_at, overwrite}
use Rattle.rx_pool.specs.Held.{Holds, Keeps}
use Rattle.rx_pool.proofs.Numbers.{has_first, has_later, has_push, no_repeat_push, two}
use Rattle.rx_pool.proofs.Written.{length-overwrite, take-overwrite}
use Rattle.rx_pool.proofs.Holding.{keeps_got, keeps_put, keeps_then, keeps_order, keeps_given}
use Rattle.rx_sendwin.specs.declared.piece.HeldPiece.{HeldPiece}
use Rattle.rx_sendwin.specs.declared.piece.LastGiving.{LastGiving}
use Rattle.rx_sendwin.specs.Pieces.{slots_in, seen_at, AllSized}
use Rattle.rx_sendwin.proofs.PieceLaws.{has_at, seen_same, slots_push, slots_set}

-- ---- a new piece

abbrev pub written : Slots → ℕ → ℕ → List ℕ → Slots
written pool slot at bytes = record pool { bytes = set pool.bytes slot (overwrite (bytes_at pool slot) at bytes) }

pub push_keeps : (old got new : Slots) (hs after : List HeldPiece) (h : HeldPiece) (bytes : List ℕ) →
    new ≡ written got h.slot 0 bytes → after ≡ hs ++ h ∷ [] → Takes old got h.slot → Holds old (slots_in hs) →
    length bytes ≤ PAYLOAD_BYTES
    → Keeps old new (slots_in hs) (slots_in after)
push_keeps old got new hs after h bytes is pushed t holds fits =
    let held = slots_in hs in
    let room = t.of.size in
    let first = keeps_got old got h.slot held t holds in
    let wide : length (overwrite (bytes_at got h.slot) 0 bytes) ≡ 1444 = (
    length-overwrite (bytes_at got h.slot) 0 bytes (omega (arith, fits, room)) ∙ room) in
    let second = (
    keeps_put got h.slot (overwrite (bytes_at got h.slot) 0 bytes) (h.slot ∷ held) wide (has_first h.slot held)
    first.holds) in
    let both = keeps_then old got (written got h.slot 0 bytes) held (h.slot ∷ held) (h.slot ∷ held) first second in
    let is_after : slots_in after ≡ held ++ h.slot ∷ [] = ap slots_in pushed ∙ slots_push hs h in
    let ordered = (
    keeps_order old (written got h.slot 0 bytes) held (h.slot ∷ held) (held ++ h.slot ∷ []) both
    (λ s. has_push h.slot s held) (no_repeat_push h.slot held first.holds.apart.1 first.holds.apart.0)
    (length_push held h.slot ∙ omega arith)) in
    subst (λ (pool : Slots). Keeps old pool held (slots_in after)) (sym is)
    (subst (λ ss. Keeps old (written got h.slot 0 bytes) held ss) (sym is_after) ordered)

module _ (old got new : Slots) (hs after : List HeldPiece) (slot : ℕ) (given : Option LastGiving) (bytes : List ℕ) where
  pub push_seen : new ≡ written got slot 0 bytes
      → after ≡ hs ++ record { slot = slot; size = length bytes; given = given } ∷ [] → Takes old got slot
      → Holds old (slots_in hs) → length bytes ≤ PAYLOAD_BYTES
      → map (seen_at new) after ≡ map (seen_at old) hs ++ bytes ∷ []
  push_seen is pushed t holds fits =
      let h : HeldPiece = record { slot = slot; size = length bytes; given = given } in
      let next = written got slot 0 bytes in
      let room = t.of.size in
      let apart = (keeps_got old got slot (slots_in hs) t holds).holds.apart.0 in
      let same : (s : ℕ) → has s (slots_in hs) ≡ true → bytes_at next s ≡ bytes_at old s =
      (λ s y. get_or-set_other got.bytes slot s (overwrite (bytes_at got slot) 0 bytes) []
      (two s slot (slots_in hs) y apart) ∙ ap (λ (bs : List (List ℕ)). get_or bs s []) t.bytes) in
      let own : bytes_at next slot ≡ overwrite (bytes_at got slot) 0 bytes = (
      get_or-set_same got.bytes slot (overwrite (bytes_at got slot) 0 bytes) [] t.of.within) in
      let front : take (length bytes) (bytes_at next slot) ≡ bytes = (
      ap (take (length bytes)) own ∙ ap (λ n. take n (overwrite (bytes_at got slot) 0 bytes)) (omega arith)
      ∙ take-overwrite (bytes_at got slot) 0 bytes (omega arith)) in
      (λ i. map (seen_at (is i)) (pushed i))
      ∙ map_push (seen_at next) hs h
      ∙ (λ i. seen_same old next hs same i ++ front i ∷ [])

-- ---- the last piece is filled

pub fill_seen : (pool : Slots) (hs : List HeldPiece) (i at : ℕ) (h g : HeldPiece) (bytes : List ℕ) → h ≡ get_or hs i h →
    i < length hs → g.slot ≡ h.slot → g.size ≡ at + length bytes → at ≡ length (get_or (map (seen_at pool) hs) i []) →
    AllSized hs → Holds pool (slots_in hs) → at + length bytes ≤ PAYLOAD_BYTES
    → map (seen_at (written pool h.slot at bytes)) (set hs i g)
    ≡ set (map (seen_at pool) hs) i (get_or (map (seen_at pool) hs) i [] ++ bytes)
fill_seen pool [] i at h g bytes e lt same grown is sized holds fits = absurd (omega (arith, lt))
fill_seen pool (k ∷ hs) zero at h g bytes e lt same grown is sized holds fits =
    let new = written pool h.slot at bytes in
    let of = holds.of k.slot (has_first k.slot (slots_in hs)) in
    let slot : h.slot ≡ k.slot = ap (λ (x : HeldPiece). x.slot) e in
    let room = of.size in
    let size : at ≡ k.size = (
    is ∙ length-take-le k.size (bytes_at pool k.slot) (let small = sized.0 in omega (arith, room, small))) in
    let old = bytes_at pool k.slot in
    let own : bytes_at new g.slot ≡ overwrite old at bytes =
    ap (λ s. get_or new.bytes s []) (same ∙ slot) ∙ ap
    (λ s. get_or (set pool.bytes s (overwrite (bytes_at pool s) at bytes)) k.slot []) slot
    ∙ get_or-set_same pool.bytes k.slot (overwrite old at bytes) [] of.within in
    let front : take g.size (bytes_at new g.slot) ≡ take k.size old ++ bytes =
    (λ j. take (grown j) (own j)) ∙ take-overwrite old at bytes
    (let small = sized.0 in omega (arith, size, room, small)) ∙ ap (λ n. take n old ++ bytes) size in
    let rest =
    seen_same pool new hs (λ s y. get_or-set_other pool.bytes h.slot s
    (overwrite (bytes_at pool h.slot) at bytes) []
    (λ e. false≢true (sym holds.apart.0 ∙ ap (λ u. has u (slots_in hs)) (sym slot)
    ∙ ap (λ u. has u (slots_in hs)) (sym e) ∙ y))) in
    λ j. front j ∷ rest j
fill_seen pool (k ∷ hs) (suc i) at h g bytes e lt same grown is sized holds fits =
    let new = written pool h.slot at bytes in
    let there = has_at hs i h e (omega (arith, lt)) in
    let held : Holds pool (slots_in hs) = (
    record { of = λ s y. holds.of s (has_later k.slot s (slots_in hs) y); apart = holds.apart.1 }) in
    let rest = fill_seen pool hs i at h g bytes e (omega (arith, lt)) same grown is sized.1 held fits in
    let here : bytes_at new k.slot ≡ bytes_at pool k.slot = (
    get_or-set_other pool.bytes h.slot k.slot (overwrite (bytes_at pool h.slot) at bytes) []
    (λ e. two h.slot k.slot (slots_in hs) there holds.apart.0 (sym e))) in
    λ j. take k.size (here j) ∷ rest j

module _ (pool new : Slots) (hs after : List HeldPiece) (i at : ℕ) (h g : HeldPiece) (bytes : List ℕ) where
  pub fill_keeps : new ≡ written pool h.slot at bytes → after ≡ set hs i g → h ≡ get_or hs i h → i < length hs
      → g.slot ≡ h.slot → Holds pool (slots_in hs) → at + length bytes ≤ PAYLOAD_BYTES
      → Keeps pool new (slots_in hs) (slots_in after)
  fill_keeps is made e lt same holds fits =
      let there = has_at hs i h e lt in
      let room = (holds.of h.slot there).size in
      let wide : length (overwrite (bytes_at pool h.slot) at bytes) ≡ 1444 = (
      length-overwrite (bytes_at pool h.slot) at bytes (omega (arith, fits, room)) ∙ room) in
      let kept = keeps_put pool h.slot (overwrite (bytes_at pool h.slot) at bytes) (slots_in hs) wide there holds in
      let slots : slots_in after ≡ slots_in hs = ap slots_in made ∙ slots_set hs i h g e lt same in
      subst (λ (p : Slots). Keeps pool p (slots_in hs) (slots_in after)) (sym is)
      (subst (λ ss. Keeps pool (written pool h.slot at bytes) (slots_in hs) ss) (sym slots) kept)

-- ---- the first piece is given up

pub front_of_list : (old rest : List HeldPiece) (h : HeldPiece) (n : ℕ) (all : List HeldPiece) → old ≡ h ∷ rest →
    old ≡ drop n all → rest ≡ drop (n + 1) all
front_of_list old rest h n all is at = ap (drop 1) (sym is ∙ at) ∙ drop-drop 1 n all

pub gives_of : (pool : Slots) (old rest : List HeldPiece) (h : HeldPiece) → old ≡ h ∷ rest → Holds pool (slots_in old) →
    IsSlotOf pool h.slot
gives_of pool old rest h is holds =
    holds.of h.slot (ap (λ hs. has h.slot (slots_in hs)) is ∙ has_first h.slot (slots_in rest))

pub gives_keeps : (pool new : Slots) (old rest : List HeldPiece) (h : HeldPiece) → old ≡ h ∷ rest →
    Takes new pool h.slot → Holds pool (slots_in old) → Keeps pool new (slots_in old) (slots_in rest)
gives_keeps pool new old rest h is t holds =
    let given = keeps_given pool new h.slot (slots_in rest) t (subst (λ hs. Holds pool (slots_in hs)) is holds) in
    rw is given
