use Rattle.std.proofs.Common.{ℕ, ◌+◌, ◌-◌, ◌<◌, ◌≤◌, ◌^◌, ◌≡◌, ◌∙◌, [], suc, sym, ap, subst, arith, rules, length, set}
use Rattle.std.proofs.Common.{List}
use Rattle.std.proofs.Common.{Option, Some, None, MatchOption}
use Rattle.std.proofs.lemmas.List.{length-set}
use Rattle.rx_pool.specs.Pool.{Slots, Takes}
use Rattle.rx_pool.specs.Held.{Holds, Keeps}
use Rattle.rx_recvwin.specs.declared.packet.KeptPacket.{KeptPacket}
use Rattle.rx_recvwin.specs.Places.{place_at, leading, slots_in}
use Rattle.rx_recvwin.specs.Window.{RecvWindow, window_of, after_put, as_packet, packet_slots}
use Rattle.rx_recvwin.proofs.PlaceLaws.{leading_put, leading_most, leading_fits, fits_put, count_most}
use Rattle.rx_recvwin.proofs.Putting.{packet_in, tied_put, put_window, put_keeps}
use Rattle.rx_recvwin.proofs.window.RecvWin.put.Goals as goal

pub leading_from-requires : goal.leading_from-requires
leading_from-requires c =
    let hs = c.self.inside.places.items in
    let h = packet_in c.unwrap-slot.result c.args.bytes.now c.args.last in
    let grown = leading_put hs (c.args.seq - c.self.inside.used - 1) h in
    omega (arith, grown, c.self.invariant.2.upto)

pub overflow_cast-self : goal.overflow_cast-self
overflow_cast-self c =
    let hs = c.self.inside.places.items in
    let h = packet_in c.unwrap-slot.result c.args.bytes.now c.args.last in
    let after = set hs (c.args.seq - c.self.inside.used - 1) (Some h) in
    let most = leading_most after in
    let size : length after ≡ length hs = length-set hs (c.args.seq - c.self.inside.used - 1) (Some h) in
    let len : length hs ≡ c.self.inside.width = sym c.self.inside.places.ok.0 ∙ c.self.invariant.0 in
    let is : c.leading_from.result ≡ leading after = c.leading_from.ensures in
    omega (arith, most, size, len, is, c.self.invariant.2.most)

pub overflow_add-self : goal.overflow_add-self
overflow_add-self c =
    let hs = c.self.inside.places.items in
    let h = packet_in c.unwrap-slot.result c.args.bytes.now c.args.last in
    let used = c.self.inside.used in
    let j = c.args.seq - used - 1 in
    let same : used ≡ c.args.self.now.used = ap (λ (w : RecvWindow). w.used) c.self.view_is in
    let at : suc (used + j) < 2 ^ 32 - 1 = omega (arith, same, c.requires.above, c.requires.fits) in
    let seqs = fits_put used hs j (Some h) c.self.invariant.2.seqs at in
    let fits = leading_fits used (set hs j (Some h)) seqs in
    let is : c.leading_from.result ≡ leading (set hs j (Some h)) = c.leading_from.ensures in
    omega (arith, fits, is)

pub overflow_add-self-2 : goal.overflow_add-self-2
overflow_add-self-2 c =
    let hs = c.self.inside.places.items in
    let most = count_most hs in
    let len : length hs ≡ c.self.inside.width = sym c.self.inside.places.ok.0 ∙ c.self.invariant.0 in
    omega (arith, most, len, c.self.invariant.2.count, c.self.invariant.2.most)

-- the place of the packet is there, and nothing lies in it
record IsOpen (hs : List (Option KeptPacket)) (used seq j : ℕ) : Type 0 where
  within : j < length hs
  none : place_at hs j ≡ None
  fits : suc (used + j) < 2 ^ 32 - 1

open_place : (w v : RecvWindow) (seq : ℕ) → w ≡ v → length w.places ≡ w.width → v.used < seq →
    seq ≤ v.used + v.width → seq < 2 ^ 32 - 1 → place_at v.places (seq - suc v.used) ≡ None →
    IsOpen w.places w.used seq (seq - w.used - 1)
open_place w v seq is len above within fits empty =
    let used : w.used ≡ v.used = ap (λ (x : RecvWindow). x.used) is in
    let width : w.width ≡ v.width = ap (λ (x : RecvWindow). x.width) is in
    let index : seq - suc w.used ≡ seq - w.used - 1 = omega arith in
    record {
      within = omega (arith, used, width, len, above, within);
      none =
          ap (place_at w.places) (sym index)
          ∙ subst (λ (x : RecvWindow). place_at x.places (seq - suc x.used) ≡ None) (sym is) empty;
      fits = omega (arith, used, above, fits);
    }

pub invariant_of-self : goal.invariant_of-self
invariant_of-self c =
    let hs = c.self.inside.places.items in
    let used = c.self.inside.used in
    let h = packet_in c.unwrap-slot.result c.args.bytes.now c.args.last in
    let j = c.args.seq - used - 1 in
    let len : length hs ≡ c.self.inside.width = sym c.self.inside.places.ok.0 ∙ c.self.invariant.0 in
    let at : IsOpen hs used c.args.seq j = (
    open_place _ c.args.self.now c.args.seq c.self.view_is len c.requires.above c.requires.within c.requires.fits
    c.requires.empty) in
    let is : c.leading_from.result ≡ leading (set hs j (Some h)) = c.leading_from.ensures in (
      search rules,
      search rules,
      tied_put c.self.inside.width used c.self.inside.front c.self.inside.held c.leading_from.result j hs h
          c.self.invariant.2 at.within at.none c.requires.size at.fits is,
    )

-- the slot that was got
taken : (old new : Slots) (o : Option ℕ) (slot : ℕ) → o ≡ Some slot →
    MatchOption o (old.free ≡ []) (λ s. Takes old new s) → Takes old new slot
taken old new o slot is t = subst (λ (o : Option ℕ). MatchOption o (old.free ≡ []) (λ s. Takes old new s)) is t

pub returns-clause-put : goal.returns-clause-put
returns-clause-put c =
    let pool = c.args.pool.now in
    let slot = c.unwrap-slot.result in
    let j = c.args.seq - c.self.inside.used - 1 in
    let t = taken pool c.get.new.self _ slot c.unwrap-slot.ensures c.get.ensures.taken in
    let holds : Holds pool (slots_in c.self.inside.places.items) = (
    subst (λ (w : RecvWindow). Holds pool (packet_slots w)) (sym c.self.view_is) c.requires.holds) in
    let before : RecvWindow = record {
      width = c.self.inside.width;
      used = c.self.inside.used;
      offset = c.self.inside.offset;
      places = c.self.inside.places.items;
      last = c.self.inside.last;
      greatest = c.self.inside.greatest;
      ended = c.self.inside.ended;
      previous = c.self.inside.previous;
    } in
    put_window pool c.get.new.self c.put.new.self before c.args.seq slot j c.args.bytes.now c.args.last
    c.last_with-self-inside.result c.max-self-inside.result c.put.ensures.written t holds c.requires.size (omega arith)
    c.last_with-self-inside.ensures c.max-self-inside.ensures
    ∙ ap (λ (w : RecvWindow). after_put (as_packet c.args.seq c.args.bytes.now c.args.last) (window_of pool w))
    c.self.view_is

pub returns-clause-keeps : goal.returns-clause-keeps
returns-clause-keeps c =
    let pool = c.args.pool.now in
    let slot = c.unwrap-slot.result in
    let hs = c.self.inside.places.items in
    let h = packet_in slot c.args.bytes.now c.args.last in
    let j = c.args.seq - c.self.inside.used - 1 in
    let len : length hs ≡ c.self.inside.width = sym c.self.inside.places.ok.0 ∙ c.self.invariant.0 in
    let at : IsOpen hs c.self.inside.used c.args.seq j = (
    open_place _ c.args.self.now c.args.seq c.self.view_is len c.requires.above c.requires.within c.requires.fits
    c.requires.empty) in
    let t = taken pool c.get.new.self _ slot c.unwrap-slot.ensures c.get.ensures.taken in
    let holds : Holds pool (slots_in hs) = (
    subst (λ (w : RecvWindow). Holds pool (packet_slots w)) (sym c.self.view_is) c.requires.holds) in
    let kept = put_keeps pool c.get.new.self hs j h c.args.bytes.now t holds at.within at.none c.requires.size in
    let after = slots_in (set hs j (Some h)) in
    subst (λ (w : RecvWindow). Keeps pool c.put.new.self (packet_slots w) after) c.self.view_is
    (subst (λ (new : Slots). Keeps pool new (slots_in hs) after) (sym c.put.ensures.written) kept)
