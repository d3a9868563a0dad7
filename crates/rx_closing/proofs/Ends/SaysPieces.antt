-- What polls say with pieces among the messages, and with none.
use Rattle.std.proofs.Common.{◌≡◌, ◌++◌, Bool, true, false, List, [], ◌∷◌, refl, ap, sym, subst, ◌∙◌}
use Rattle.rx_model.specs.Body.{Body}
use Rattle.rx_model.specs.Message.{Message}
use Rattle.rx_rules.specs.CallItems.{Piece, Sending}
use Rattle.rx_rules.specs.Judging.{is_data}
use Rattle.rx_rules.proofs.EveryLaws.{Every}
use Rattle.rx_closing.proofs.Ends.FrozenPolls.{has_piece}
use Rattle.rx_closing.proofs.Ends.Speaks.{Speaks, speaks_ack, speaks_none, speaks_piece}

-- no piece, where no message is one
pub no_piece : (xs : List Sending) (ms : List Message) → Speaks xs ms
    → Every (λ (m : Message). is_data m.body ≡ false) ms
    → has_piece xs ≡ false
no_piece xs ms speaks_none none = refl
no_piece xs ms (speaks_piece seq again m payload ys ns body rest) none =
    absurd (let no : ◌≡◌ {A = Bool} true false = sym (ap (λ (b : Body). is_data b) body) ∙ none.0 in cc (no))
no_piece xs ms (speaks_ack reason serial m a ys ns body same rest) none = no_piece ys ns rest none.1

-- the sendings of the last of these messages, the first of which is a piece
pub record Tail (ms : List Message) : Type 0 where
  pub sendings : List Sending
  pub speaks : Speaks sendings ms
  pub piece : has_piece sendings ≡ true

tail_is : (m n : Message) (ms ns : List Message) → m ∷ ms ≡ n ∷ ns → (m ≡ n) × (ms ≡ ns)
tail_is m n ms ns same = (cc (same), cc (same))

pub speaks_tail : (xs : List Sending) (ms front back : List Message) (piece : Message) → Speaks xs ms
    → ms ≡ front ++ piece ∷ back → is_data piece.body ≡ true → Tail (piece ∷ back)
speaks_tail xs ms [] back piece speaks_none are data_ =
    absurd (let no : ◌≡◌ {A = List Message} [] (piece ∷ back) = are in cc (no))
speaks_tail xs ms (f ∷ front) back piece speaks_none are data_ =
    absurd (let no : ◌≡◌ {A = List Message} [] (f ∷ (front ++ piece ∷ back)) = are in cc (no))
speaks_tail xs ms [] back piece (speaks_piece seq again m payload ys ns body rest) are data_ =
    subst Tail are
    (record {
      sendings = Piece seq again ∷ ys;
      speaks = speaks_piece seq again m payload ys ns body rest;
      piece = refl;
    })
speaks_tail xs ms [] back piece (speaks_ack reason serial m a ys ns body same rest) are data_ =
    absurd (let first = (tail_is m piece ns back are).0 in
    let no : ◌≡◌ {A = Bool} false true =
    sym (ap (λ (b : Body). is_data b) body) ∙ ap (λ (n : Message). is_data n.body) first ∙ data_ in cc (no))
speaks_tail xs ms (f ∷ front) back piece (speaks_piece seq again m payload ys ns body rest) are data_ =
    speaks_tail ys ns front back piece rest (tail_is m f ns (front ++ piece ∷ back) are).1 data_
speaks_tail xs ms (f ∷ front) back piece (speaks_ack reason serial m a ys ns body same rest) are data_ =
    speaks_tail ys ns front back piece rest (tail_is m f ns (front ++ piece ∷ back) are).1 data_
