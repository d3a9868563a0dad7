-- What the code reads of the places.
use Rattle.std.proofs.Common.{◌≡◌, ◌<◌, ◌+◌, ◌-◌, is_some, map, min}
use Rattle.std.proofs.Common.{Bool}
use Rattle.std.proofs.Common.{ℕ, suc, zero, List, [], ◌∷◌, ◌++◌, length, get_or, take, Option}
use Rattle.std.proofs.Common.{Some}
use Rattle.std.proofs.Common.{None, refl, sym, ap, ◌∙◌, arith, add-one}
use Rattle.std.proofs.lemmas.List.{length-take-le}
use Rattle.rx_rules.specs.Received.{Received, packet_at, used_of, marks_from, marks_of}
use Rattle.rx_rules.specs.Received.{greatest}
use Rattle.rx_pool.specs.Pool.{Slots, bytes_at}
use Rattle.rx_pool.specs.Held.{Holds}
use Rattle.rx_pool.proofs.Numbers.{has_first}
use Rattle.rx_recvwin.specs.declared.packet.KeptPacket.{KeptPacket}
use Rattle.rx_recvwin.specs.Places.{place_at, slots_in, seen_at, HasSizes, is_open_done}
use Rattle.rx_recvwin.specs.Places.{is_place_done}
use Rattle.rx_recvwin.specs.Window.{RecvWindow, window_of, StandsFor}
use Rattle.rx_recvwin.proofs.SlotLaws.{place_seen, some_seen}
use Rattle.rx_recvwin.proofs.Nearness.{used_is}

-- ---- what the code reads

pub done_seen : (pool : Slots) (hs : List (Option KeptPacket)) (offset : ℕ) (ended : Bool) → HasSizes hs →
    Holds pool (slots_in hs) →
    is_open_done (place_at hs 0) offset ended ≡ is_place_done (place_at (map (seen_at pool) hs) 0) offset ended
done_seen pool [] offset ended sized holds = refl
done_seen pool (None ∷ hs) offset ended sized holds = refl
done_seen pool (Some h ∷ hs) offset ended sized holds =
    let room = (holds.of h.slot (has_first h.slot (slots_in hs))).size in
    let small = sized 0 h refl in
    let size : h.size ≡ length (take h.size (bytes_at pool h.slot)) = (
    sym (length-take-le h.size (bytes_at pool h.slot) (omega (arith, room, small)))) in
    ap (λ n. is_open_done (Some (record { slot = h.slot; size = n; last = h.last })) offset ended) size

pub item_is : {X : Type 0} (xs : List (Option X)) (i : ℕ) (o : Option X) → o ≡ get_or xs i o → i < length xs →
    place_at xs i ≡ o
item_is [] i o e lt = absurd (omega (arith, lt))
item_is (x ∷ xs) zero o e lt = sym e
item_is (x ∷ xs) (suc i) o e lt = item_is xs i o e (omega (arith, lt))

pub marks_next : (pool : Slots) (w : RecvWindow) (r : Received) (i : ℕ) (o : Option KeptPacket) (marks : List Bool) →
    StandsFor (window_of pool w) r → o ≡ get_or w.places i o → i < length w.places → marks
    ≡ marks_from r.kept (used_of r) i →
    marks ++ is_some o ∷ [] ≡ marks_from r.kept (used_of r) (i + 1)
marks_next pool w r i o marks s read lt so_far =
    let used = used_is (window_of pool w) r s in
    let at : place_at w.places i ≡ o = item_is w.places i o read lt in
    let here : is_some o ≡ is_some (packet_at r.kept (used_of r + suc i)) = (
    ap is_some (sym at) ∙ sym (some_seen pool (place_at w.places i))
    ∙ ap is_some (sym (place_seen pool w.places i) ∙ s.near.ahead i)
    ∙ ap (λ k. is_some (packet_at r.kept k)) (omega (arith, used))) in
    (λ j. so_far j ++ here j ∷ []) ∙ sym (ap (marks_from r.kept (used_of r)) (add-one i))

pub marks_end : (pool : Slots) (w : RecvWindow) (r : Received) (i : ℕ) (marks : List Bool) →
    StandsFor (window_of pool w) r →
    i ≡ min (w.greatest - w.used) w.width → marks ≡ marks_from r.kept (used_of r) i → marks ≡ marks_of r
marks_end pool w r i marks s end so_far =
    let used = used_is (window_of pool w) r s in
    let top = s.near.greatest in
    let within = s.near.within in
    let count : i ≡ greatest r.kept - used_of r = omega (arith, end, top, within, used) in
    so_far ∙ ap (marks_from r.kept (used_of r)) count
