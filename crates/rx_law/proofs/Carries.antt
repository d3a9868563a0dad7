-- One stream from its sender to its receiver.
use Rattle.std.proofs.Common.{◌≡◌, ◌≤◌, Bool, true, false, List, [], ◌∷◌, ◌++◌, length, take, drop, length-append}
use Rattle.std.proofs.Common.{refl, ap, sym, subst, ◌∙◌, arith, ℕ, zero, suc, inl, inr, append_assoc}
use Rattle.std.proofs.Common.{append-nil}
use Rattle.std.proofs.lemmas.List.{take-append-drop}
use Rattle.rx_rules.specs.Received.{Packet, heard_of}
use Rattle.rx_history.specs.Streams.{Begins}
use Rattle.rx_history.proofs.Ends.{Ends, no_ends, Grows, Moves, left_of}
use Rattle.rx_law.specs.Pieces.{IsAt}
use Rattle.rx_history.proofs.Laws.WholeLaws.{none_left}
use Rattle.rx_law.proofs.Fronts.{ArePieces, pieces_grow, heard_begins, heard_whole}

-- what the receiver has of a stream
pub record Carries (bytes : List ℕ) (shut : Bool) (x : Ends) : Type 0 where
  pub pieces : ArePieces bytes shut x.kept
  pub read : Begins x.read bytes
  pub ended : x.ended ≡ true → (shut ≡ true) × (x.read ≡ bytes)

pub nothing_carried : Carries [] false no_ends
nothing_carried = record { pieces = tt; read = ([], refl); ended = λ y. absurd (cc (y)) }

-- the sender goes on
pub sender_step : (old new : List ℕ) (was is : Bool) (x : Ends) → Grows old was new is → Carries old was x
    → Carries new is x
sender_step old new was is x g k =
    record {
      pieces = pieces_grow old new was is x.kept g k.pieces;
      read = (
        k.read.0 ++ g.more,
        sym (append_assoc x.read k.read.0 g.more) ∙ ap (λ (xs : List ℕ). xs ++ g.more) k.read.1 ∙ sym g.joined,
      );
      ended = λ y. (
          let e = k.ended y in
          let s = g.stops e.0 in
          (s.1, e.1 ∙ sym (g.joined ∙ ap (λ (xs : List ℕ). old ++ xs) s.0 ∙ append-nil old)));
    }

-- of two beginnings of one list, the longer goes on with the shorter
goes_on : (read heard bytes : List ℕ) (n : ℕ) → Begins read bytes → Begins heard bytes
    → Begins (read ++ take n (drop (length read) heard)) bytes
goes_on [] heard bytes n r a = (
  drop n heard ++ a.0,
  sym (append_assoc (take n heard) (drop n heard) a.0) ∙ ap (λ (xs : List ℕ). xs ++ a.0) (take-append-drop n heard)
      ∙ a.1,
)
goes_on (x ∷ xs) [] bytes zero r a = (r.0, ap (λ (ys : List ℕ). (x ∷ ys) ++ r.0) (append-nil xs) ∙ r.1)
goes_on (x ∷ xs) [] bytes (suc n) r a = (r.0, ap (λ (ys : List ℕ). (x ∷ ys) ++ r.0) (append-nil xs) ∙ r.1)
goes_on (x ∷ xs) (y ∷ ys) [] n r a = absurd (let e : (x ∷ (xs ++ r.0)) ≡ [] = r.1 in cc (e))
goes_on (x ∷ xs) (y ∷ ys) (z ∷ zs) n r a =
    let e : (x ∷ (xs ++ r.0)) ≡ z ∷ zs = r.1 in
    let f : (y ∷ (ys ++ a.0)) ≡ z ∷ zs = a.1 in
    let first : x ≡ z = cc (e) in
    let t : xs ++ r.0 ≡ zs = cc (e) in
    let u : ys ++ a.0 ≡ zs = cc (f) in
    let rest = goes_on xs ys zs n (r.0, t) (a.0, u) in
    (rest.0, λ i. first i ∷ rest.1 i)

-- where nothing is left of the whole
all_read : (read bytes : List ℕ) → Begins read bytes → length bytes ≤ length read → read ≡ bytes
all_read [] [] r n = refl
all_read [] (y ∷ ys) r n = absurd (omega arith)
all_read (x ∷ xs) [] r n = absurd (let e : (x ∷ (xs ++ r.0)) ≡ [] = r.1 in cc (e))
all_read (x ∷ xs) (z ∷ zs) r n =
    let e : (x ∷ (xs ++ r.0)) ≡ z ∷ zs = r.1 in
    let first : x ≡ z = cc (e) in
    let t : xs ++ r.0 ≡ zs = cc (e) in
    let rest = all_read xs zs (r.0, t) (omega arith) in
    λ i. first i ∷ rest i

-- an end moves, where what it keeps is a piece
pub receiver_step : (bytes : List ℕ) (shut : Bool) (Comes : Packet → Type 0) (x y : Ends) → Moves Comes x y
    → ((p : Packet) → Comes p → IsAt bytes shut p.seq p.piece) → Carries bytes shut x → Carries bytes shut y
receiver_step bytes shut Comes x y m arrives k =
    let next : Begins y.read bytes =
    subst (λ (xs : List ℕ). Begins xs bytes) (sym m.read)
    (goes_on x.read (heard_of x.kept) bytes m.count k.read (heard_begins bytes shut x.kept k.pieces)) in
    let long : length y.read ≡ length (x.read ++ take m.count (left_of x)) = ap length m.read in
    record {
      pieces =
          (elim m.kept as (λ t. ArePieces bytes shut y.kept) [
            | inl same ↦ subst (λ (ps : List Packet). ArePieces bytes shut ps) (sym same) k.pieces
            | inr one ↦ subst (λ (ps : List Packet). ArePieces bytes shut ps) (sym one.is)
                (arrives one.packet one.comes, k.pieces)
          ]);
      read = next;
      ended = λ is.
          (elim (m.ended is) as (λ t. (shut ≡ true) × (y.read ≡ bytes)) [
            | inl before ↦ (
                let e = k.ended before in
                let size : length x.read ≡ length bytes = ap length e.1 in
                (e.0, all_read y.read bytes next (omega (arith, length-append x.read (take m.count (left_of x))))))
            | inr now ↦ (
                let w = heard_whole bytes shut x.kept k.pieces now.1 in
                let size : length (heard_of x.kept) ≡ length bytes = ap length w.1 in
                let read : length (heard_of x.kept) ≤ length x.read = none_left (length x.read)
                (heard_of x.kept) now.0 in
                (w.0, all_read y.read bytes next (omega (arith, length-append x.read (take m.count (left_of x))))))
          ]);
    }
