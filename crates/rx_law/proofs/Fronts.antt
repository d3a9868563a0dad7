-- What stands in front of the packets kept, where each is a piece of the stream.
use Rattle.std.proofs.Common.{◌≡◌, ◌≤◌, ◌+◌, ◌*◌, ◌==◌, cond, is_some, Bool, true, false, List, []}
use Rattle.std.proofs.Common.{◌∷◌, ◌++◌, length, take, drop, Some, None, refl, ap}
use Rattle.std.proofs.Common.{subst, ◌∙◌, arith, ℕ, zero, suc}
use Rattle.std.proofs.lemmas.Bool.Decides.{nat_tests}
use Rattle.std.proofs.lemmas.List.{take_all, take-append-drop}
use Rattle.rx_rules.specs.Received.{Packet, Piece, bytes_to, front_of, greatest, heard_of, is_within, last_seq}
use Rattle.rx_rules.specs.Received.{packet_at, payload_of}
use Rattle.rx_rules.proofs.ReachLaws.{reach_passes}
use Rattle.rx_history.specs.Streams.{Begins}
use Rattle.rx_model.proofs.NameLaws.{same_number}
use Rattle.rx_history.proofs.Ends.{Grows}
use Rattle.rx_law.proofs.Pieces.{at_grows}
use Rattle.rx_law.specs.Pieces.{IsAt, IsPiece}

-- each is the stream's piece of its seq
abbrev pub ArePieces : List ℕ → Bool → List Packet → Type 0
ArePieces bytes shut [] = Unit {0}
ArePieces bytes shut (p ∷ ps) = IsAt bytes shut p.seq p.piece × ArePieces bytes shut ps

pub pieces_grow : (old new : List ℕ) (was is : Bool) (ps : List Packet) → Grows old was new is → ArePieces old was ps
    → ArePieces new is ps
pieces_grow old new was is [] g a = tt
pieces_grow old new was is (p ∷ ps) g a =
    (at_grows old new was is p.seq p.piece g a.0, pieces_grow old new was is ps g a.1)

found : (bytes : List ℕ) (shut : Bool) (j : ℕ) (ps : List Packet) (p : Piece) → ArePieces bytes shut ps
    → packet_at ps (suc j) ≡ Some p → IsPiece bytes shut j p
found bytes shut j [] p a h = absurd cc
found bytes shut j (q ∷ qs) p a h =
    (elim (q.seq == suc j) as (λ b. (q.seq == suc j) ≡ b → cond b (Some q.piece) (packet_at qs (suc j)) ≡ Some p
    → IsPiece bytes shut j p) [
      | true ↦ λ same e. (
          let seq : q.seq ≡ suc j = same_number _ _ same in
          let is : q.piece ≡ p = cc (e) in
          subst (λ (x : Piece). IsPiece bytes shut j x) is (subst (λ (n : ℕ). IsAt bytes shut n q.piece) seq a.0))
      | false ↦ λ other e. found bytes shut j qs p a.1 e
    ]) refl h

pub take_more : (m n : ℕ) (xs : List ℕ) → take m xs ++ take n (drop m xs) ≡ take (m + n) xs
take_more zero n xs = (let e : n ≡ 0 + n = omega arith in ap (λ (m : ℕ). take m xs) e)
take_more (suc m) zero [] = (let e : suc m ≡ suc m + 0 = omega arith in ap (λ (k : ℕ). take k []) e)
take_more (suc m) (suc n) [] = (let e : suc (m + suc n) ≡ suc m + suc n = omega arith in ap (λ (k : ℕ). take k []) e)
take_more (suc m) n (x ∷ xs) =
    let e : suc (m + n) ≡ suc m + n = omega arith in
    ap (λ (ys : List ℕ). x ∷ ys) (take_more m n xs) ∙ ap (λ (k : ℕ). take k (x ∷ xs)) e

-- the payloads of the first so many, where each is there
bytes_are : (bytes : List ℕ) (shut : Bool) (ps : List Packet) (k : ℕ) → ArePieces bytes shut ps
    → ((j : ℕ) → suc j ≤ k → is_some (packet_at ps (suc j)) ≡ true) → bytes_to ps k ≡ take (1412 * k) bytes
bytes_are bytes shut ps zero a all = refl
bytes_are bytes shut ps (suc k) a all =
    let old = bytes_are bytes shut ps k a (λ j low. all j (omega arith)) in
    let size : 1412 * k + 1412 ≡ 1412 * suc k = omega arith in
    (elim (packet_at ps (suc k)) as (λ o. packet_at ps (suc k) ≡ o → is_some o ≡ true
    → bytes_to ps k ++ payload_of o ≡ take (1412 * suc k) bytes) [
      | None ↦ λ is there. absurd cc
      | Some p ↦ λ is there. (
          let f = found bytes shut k ps p a is in
          ap (λ (xs : List ℕ). xs ++ p.payload) old ∙ ap (λ (xs : List ℕ). take (1412 * k) bytes ++ xs) f.payload_is
          ∙ take_more (1412 * k) 1412 bytes ∙ ap (λ (n : ℕ). take n bytes) size)
    ]) refl (all k (omega arith))

-- the bytes without a gap are the first of the stream
pub heard_is : (bytes : List ℕ) (shut : Bool) (ps : List Packet) → ArePieces bytes shut ps
    → heard_of ps ≡ take (1412 * front_of ps) bytes
heard_is bytes shut ps a =
    bytes_are bytes shut ps (front_of ps) a
    (λ j low. reach_passes (λ k. is_some (packet_at ps k)) (greatest ps) j low)

pub heard_begins : (bytes : List ℕ) (shut : Bool) (ps : List Packet) → ArePieces bytes shut ps
    → Begins (heard_of ps) bytes
heard_begins bytes shut ps a = (
  drop (1412 * front_of ps) bytes,
  ap (λ (xs : List ℕ). xs ++ drop (1412 * front_of ps) bytes) (heard_is bytes shut ps a)
      ∙ take-append-drop (1412 * front_of ps) bytes,
)

at_last : (bytes : List ℕ) (shut : Bool) (seq : ℕ) (p : Piece) → IsAt bytes shut seq p → p.last ≡ true
    → (shut ≡ true) × (length bytes ≤ 1412 * seq)
at_last bytes shut zero p a last = absurd a
at_last bytes shut (suc j) p a last = (let d = a.done last in (d.0, (let long = d.1 in omega arith)))

last_is : (bytes : List ℕ) (shut : Bool) (ps : List Packet) (front : ℕ) → ArePieces bytes shut ps
    → is_within (last_seq ps) front ≡ true → (shut ≡ true) × (length bytes ≤ 1412 * front)
last_is bytes shut [] front a h = absurd cc
last_is bytes shut (p ∷ ps) front a h =
    (elim p.piece.last as (λ b. p.piece.last ≡ b → is_within (cond b (Some p.seq) (last_seq ps)) front ≡ true
    → (shut ≡ true) × (length bytes ≤ 1412 * front)) [
      | true ↦ λ last within. (
          let low : p.seq ≤ front = grind (arith, nat_tests) in
          let d = at_last bytes shut p.seq p.piece a.0 last in
          let long = d.1 in
          (d.0, omega arith))
      | false ↦ λ goes within. last_is bytes shut ps front a.1 within
    ]) refl h

-- where the last packet stands without a gap, all was heard
pub heard_whole : (bytes : List ℕ) (shut : Bool) (ps : List Packet) → ArePieces bytes shut ps
    → is_within (last_seq ps) (front_of ps) ≡ true → (shut ≡ true) × (heard_of ps ≡ bytes)
heard_whole bytes shut ps a h =
    let l = last_is bytes shut ps (front_of ps) a h in
    (l.0, heard_is bytes shut ps a ∙ take_all (1412 * front_of ps) bytes l.1)
