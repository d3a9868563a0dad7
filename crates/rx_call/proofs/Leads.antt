-- A call with a lead holds a slot.
use Rattle.std.proofs.Common.{◌≡◌, inl, inr, ◌<◌, ◌+◌, ◌||◌, nat_lt, true, ℕ, List, [], ◌∷◌, length}
use Rattle.std.proofs.Common.{Option, Some, None, sym, ap, ◌∙◌, arith, length-append}
use Rattle.std.proofs.lemmas.Bool.{cases_Bool}
use Rattle.std.proofs.lemmas.Bool.Decides.{nat_tests}
use Rattle.rx_recvwin.specs.Places.{leading, slots_in}
use Rattle.rx_recvwin.specs.Window.{packet_slots}
use Rattle.rx_recvwin.specs.declared.packet.KeptPacket.{KeptPacket}
use Rattle.rx_sendwin.specs.Window.{piece_slots}
use Rattle.rx_call.specs.Standing.{EndOfCall, holds_lead, has_unread, slots_of}

unread_some : (u : ℕ) (ps : List (Option KeptPacket)) → nat_lt u (u + leading ps) ≡ true → 0 < length (slots_in ps)
unread_some u [] h = absurd (let lt : u < u + 0 = grind (arith, nat_tests, h) in omega (arith, lt))
unread_some u (None ∷ ps) h = absurd (let lt : u < u + 0 = grind (arith, nat_tests, h) in omega (arith, lt))
unread_some u (Some p ∷ ps) h = omega arith

pub lead_some : (c : EndOfCall) → holds_lead c ≡ true → 0 < length (slots_of c)
lead_some c h =
    let size = length-append (packet_slots c.received) (piece_slots c.sent) in
    elim (cases_Bool (has_unread c.received)) as (λ _. 0 < length (slots_of c)) [
      | inl t ↦ (
          let some = unread_some c.received.used c.received.places t in
          omega (arith, size, some))
      | inr f ↦ (
          let pieces : nat_lt 0 (length (piece_slots c.sent)) ≡ true = (
          ap (λ b. b || nat_lt 0 (length (piece_slots c.sent))) (sym f) ∙ h) in
          let some : 0 < length (piece_slots c.sent) = grind (arith, nat_tests, pieces) in
          omega (arith, size, some))
    ]
