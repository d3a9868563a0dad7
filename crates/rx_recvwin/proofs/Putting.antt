-- A packet put into a free slot, and the slot into a place.
use Rattle.std.proofs.Common.{◌≡◌, ◌<◌, ◌≤◌, ◌+◌, ◌-◌, ◌^◌, map, max, cond}
use Rattle.std.proofs.Common.{Bool}
use Rattle.std.proofs.Common.{true, ℕ, suc, List, [], ◌∷◌, length, get_or, set, take, Option}
use Rattle.std.proofs.Common.{Some}
use Rattle.std.proofs.Common.{None, sym, ap, ◌∙◌, arith}
use Rattle.std.proofs.lemmas.List.{get_or-set_other, get_or-set_same, map-set}
use Rattle.rx_model.specs.declared.wire.TheConstants.{PAYLOAD_BYTES}
use Rattle.rx_rules.specs.Received.{Piece}
use Rattle.rx_pool.specs.Pool.{Slots, Takes, has, bytes_at, overwrite}
use Rattle.rx_pool.specs.Held.{Holds, Keeps}
use Rattle.rx_pool.proofs.Numbers.{has_first, two}
use Rattle.rx_pool.proofs.Written.{length-overwrite, take-overwrite}
use Rattle.rx_pool.proofs.Holding.{keeps_got, keeps_put, keeps_then, keeps_order}
use Rattle.rx_recvwin.specs.declared.packet.KeptPacket.{KeptPacket}
use Rattle.rx_recvwin.specs.Places.{place_at, leading, slots_in, seen_at}
use Rattle.rx_recvwin.specs.Window.{RecvWindow, window_of, IsTied, after_put, as_packet}
use Rattle.rx_recvwin.proofs.PlaceLaws.{fits_put, sized_put, count_put}
use Rattle.rx_recvwin.proofs.SlotLaws.{slots_put, no_repeat_put, slots_count}
use Rattle.rx_recvwin.proofs.SlotLaws.{seen_same}

-- the pool after a packet was written into a slot
abbrev pub written : Slots → ℕ → List ℕ → Slots
written pool slot bytes = record pool { bytes = set pool.bytes slot (overwrite (bytes_at pool slot) 0 bytes) }

-- a packet in its slot
abbrev pub packet_in : ℕ → List ℕ → Bool → KeptPacket
packet_in slot bytes last = record { slot = slot; size = length bytes; last = last }

pub put_keeps : (old got : Slots) (hs : List (Option KeptPacket)) (i : ℕ) (h : KeptPacket) (bytes : List ℕ) →
    Takes old got h.slot → Holds old (slots_in hs) → i < length hs → place_at hs i ≡ None →
    length bytes ≤ PAYLOAD_BYTES → Keeps old (written got h.slot bytes) (slots_in hs) (slots_in (set hs i (Some h)))
put_keeps old got hs i h bytes t holds lt none fits =
    let held = slots_in hs in
    let more = h.slot ∷ held in
    let after = slots_in (set hs i (Some h)) in
    let new = written got h.slot bytes in
    let room = t.of.size in
    let slot = bytes_at got h.slot in
    let first = keeps_got old got h.slot held t holds in
    let full : length (overwrite slot 0 bytes) ≡ 1444 = (
    length-overwrite slot 0 bytes (omega (arith, fits, room)) ∙ room) in
    let second = keeps_put got h.slot (overwrite slot 0 bytes) more full (has_first h.slot held) first.holds in
    let both = keeps_then old got new held more more first second in
    let size : length after ≡ suc (length held) = (
    slots_count (set hs i (Some h)) ∙ count_put hs i h lt none ∙ ap suc (sym (slots_count hs))) in
    let same : (s : ℕ) → has s after ≡ has s more = (λ s. slots_put hs i h s lt none) in
    keeps_order old new held more after both same (no_repeat_put hs i h lt none first.holds.apart) size

pub put_seen : (old got : Slots) (hs : List (Option KeptPacket)) (i slot : ℕ) (last : Bool) (bytes : List ℕ) →
    Takes old got slot → Holds old (slots_in hs) → length bytes ≤ PAYLOAD_BYTES →
    map (seen_at (written got slot bytes)) (set hs i (Some (packet_in slot bytes last)))
    ≡ set (map (seen_at old) hs) i (Some (record { payload = bytes; last = last }))
put_seen old got hs i slot last bytes t holds fits =
    let new = written got slot bytes in
    let before = bytes_at got slot in
    let apart = (keeps_got old got slot (slots_in hs) t holds).holds.apart.0 in
    let same : (s : ℕ) → has s (slots_in hs) ≡ true → bytes_at new s ≡ bytes_at old s = (λ s y.
    get_or-set_other got.bytes slot s (overwrite before 0 bytes) [] (two s slot (slots_in hs) y apart)
    ∙ ap (λ (bs : List (List ℕ)). get_or bs s []) t.bytes) in
    let own : bytes_at new slot ≡ overwrite before 0 bytes = (
    get_or-set_same got.bytes slot (overwrite before 0 bytes) [] t.of.within) in
    let front : take (length bytes) (bytes_at new slot) ≡ bytes = (
    ap (take (length bytes)) own ∙ ap (λ n. take n (overwrite before 0 bytes)) (omega arith)
    ∙ take-overwrite before 0 bytes (omega arith)) in
    map-set (seen_at new) hs i (Some (packet_in slot bytes last))
    ∙ (λ j. set (seen_same old new hs same j) i (Some (record { payload = front j; last = last })))

-- ---- the window with it

module _ (width used front held lead j : ℕ) (hs : List (Option KeptPacket)) (h : KeptPacket) where
  pub tied_put : IsTied width used front held hs → j < length hs → place_at hs j ≡ None → h.size ≤ PAYLOAD_BYTES
      → suc (used + j) < 2 ^ 32 - 1 → lead ≡ leading (set hs j (Some h))
      → IsTied width used (used + lead) (held + 1) (set hs j (Some h))
  tied_put tied lt none small fits is =
      let count = count_put hs j h lt none in
      record {
        least = tied.least;
        most = tied.most;
        seqs = fits_put used hs j (Some h) tied.seqs fits;
        sizes = sized_put hs j h tied.sizes small;
        upto = ap (λ n. used + n) is;
        count = omega (arith, tied.count, count);
      }

-- the window after a packet was put into a place
abbrev pub with_place : RecvWindow → ℕ → ℕ → KeptPacket → Option ℕ → ℕ → RecvWindow
with_place w seq j h latest most =
    record w { places = set w.places j (Some h); last = latest; greatest = most; previous = seq }

module _ (old got new : Slots) (w : RecvWindow) (seq slot j : ℕ) (bytes : List ℕ) (last : Bool) (latest : Option ℕ)
    (most : ℕ) where
  pub put_window : new ≡ written got slot bytes → Takes old got slot → Holds old (slots_in w.places)
      → length bytes ≤ PAYLOAD_BYTES → j ≡ seq - suc w.used → latest ≡ cond last (Some seq) w.last
      → most ≡ max w.greatest seq
      → window_of new (with_place w seq j (packet_in slot bytes last) latest most) ≡ after_put
      (as_packet seq bytes last) (window_of old w)
  put_window is t holds small at l g =
      let h = packet_in slot bytes last in
      let piece : Piece = record { payload = bytes; last = last } in
      let ahead : map (seen_at new) (set w.places j (Some h))
      ≡ set (map (seen_at old) w.places) (seq - suc w.used) (Some piece) = (
      ap (λ (pool : Slots). map (seen_at pool) (set w.places j (Some h))) is
      ∙ put_seen old got w.places j slot last bytes t holds small
      ∙ ap (λ k. set (map (seen_at old) w.places) k (Some piece)) at) in
      λ i. record {
        width = w.width;
        used = w.used;
        offset = w.offset;
        ahead = ahead i;
        last = l i;
        greatest = g i;
        ended = w.ended;
        previous = seq;
      }
