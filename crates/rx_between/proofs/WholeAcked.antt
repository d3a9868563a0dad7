-- A receiver that is done with all pieces of a stream that is shut was read to its end.
use Rattle.std.proofs.Common.{◌≡◌, ◌≤◌, ◌+◌, ◌*◌, ◌/◌, ◌-◌, ◌==◌, ◌&&◌, ◌||◌, cond, max, nat_le, ℕ, zero, suc, Bool}
use Rattle.std.proofs.Common.{true, false}
use Rattle.std.proofs.Common.{List, [], ◌∷◌, length, Option, Some, None, refl, ◌∙◌, ap, sym, subst, arith}
use Rattle.std.proofs.lemmas.Bool.{and_parts}
use Rattle.rx_model.proofs.NameLaws.{same_number}
use Rattle.rx_rules.specs.CallLooks.{CallLooks, is_delivered}
use Rattle.rx_rules.specs.Received.{Packet, Piece, Received, end_of, front_of, is_done, is_done_by, packet_at, used_of}
use Rattle.rx_rules.specs.Sent.{Sent, is_all_acked, is_all_known, pieces_by, pieces_of}
use Rattle.rx_law.specs.Pieces.{IsAt, IsPiece}
use Rattle.rx_law.proofs.Fronts.{ArePieces}
use Rattle.rx_between.proofs.Counting.{reach_passes}

found : (bytes : List ℕ) (shut : Bool) (j : ℕ) (ps : List Packet) (p : Piece) → ArePieces bytes shut ps
    → packet_at ps (suc j) ≡ Some p → IsPiece bytes shut j p
found bytes shut j [] p a h = absurd cc
found bytes shut j (q ∷ qs) p a h =
    (elim (q.seq == suc j) as (λ b. (q.seq == suc j) ≡ b → cond b (Some q.piece) (packet_at qs (suc j)) ≡ Some p
    → IsPiece bytes shut j p) [
      | true ↦ λ same e. (
          let seq : q.seq ≡ suc j = same_number _ _ same in
          let is : q.piece ≡ p = cc (e) in
          subst (λ (x : Piece). IsPiece bytes shut j x) is (subst (λ (n : ℕ). IsAt bytes shut n q.piece) seq a.0))
      | false ↦ λ other e. found bytes shut j qs p a.1 e
    ]) refl h

-- the last piece is the last
last_is : (bytes : List ℕ) (shut : Bool) (j : ℕ) (p : Piece) → IsPiece bytes shut j p
    → length bytes ≤ 1412 * j + 1412 → p.last ≡ true
last_is bytes shut j p is short = of p.last refl
  where
    of : (b : Bool) → p.last ≡ b → b ≡ true
    of true last = refl
    of false more = absurd (let far = is.more more in omega arith)

done_by : (b ended x : Bool) → b ≡ true → cond b ended x ≡ true → ended ≡ true
done_by true ended x is done = done
done_by false ended x is done = absurd cc

done_ended : (ended : Bool) (end read : ℕ) (o : Option Piece) → is_done_by ended end read o ≡ true
    → ((p : Piece) → o ≡ Some p → p.last ≡ true) → ended ≡ true
done_ended ended end read None done last = absurd cc
done_ended ended end read (Some p) done last = done_by p.last ended (nat_le end read) (last p refl) done

-- where it is done with as many packets as there are pieces
used_ended : (bytes : List ℕ) (r : Received) (shut : Bool) (n : ℕ) → ArePieces bytes shut r.kept → 1 ≤ n
    → length bytes ≤ 1412 * n → n ≤ used_of r → r.ended ≡ true
used_ended bytes r shut zero pieces some short used = absurd (omega arith)
used_ended bytes r shut (suc j) pieces some short used =
    done_ended r.ended (end_of r.kept (suc j)) (length r.read) (packet_at r.kept (suc j))
    (reach_passes (is_done r) (front_of r.kept) (suc j) (omega arith) used)
    (λ p there. last_is bytes shut j p (found bytes shut j r.kept p pieces there) (omega arith))

-- a stream of a node that isn't prompt, which counts as delivered, is shut and wholly acknowledged
pub delivered_acked : (k : CallLooks) → k.cwnd.prompt ≡ false → is_delivered k ≡ true
    → (k.sent.shut ≡ true) × (k.sent.acked ≡ pieces_of k.sent)
delivered_acked k plain delivered =
    (let all : is_all_acked k.sent ≡ true =
    sym (either (is_all_acked k.sent) (is_all_known k.sent) k.cwnd.prompt plain) ∙ delivered in
    let parts = and_parts k.sent.shut (k.sent.acked == pieces_of k.sent) all in
    (parts.0, same_number k.sent.acked (pieces_of k.sent) parts.1))
  where
    either : (a b c : Bool) → c ≡ false → (a || (c && b)) ≡ a
    either true b c is = refl
    either false b true is = absurd cc
    either false b false is = refl

-- and its receiver, where what it takes for acknowledged is true, was read to its end
pub acked_ended : (sent : Sent) (r : Received) → ArePieces sent.said sent.shut r.kept → sent.shut ≡ true
    → sent.acked ≡ pieces_of sent → sent.acked ≤ used_of r → r.ended ≡ true
acked_ended sent r pieces shut all true_ =
    let count : pieces_of sent ≡ max 1 ((length sent.said + (1412 - 1)) / 1412) =
    ap (λ (b : Bool). pieces_by (length sent.said) b) shut in
    used_ended sent.said r sent.shut (pieces_of sent) pieces (omega arith) (omega arith) (omega arith)
