-- Two pieces that are put one after the other.
use Rattle.std.proofs.Common.{◌≡◌, ℕ, List, ◌++◌, refl, ◌∙◌, append_assoc}
use Rattle.xdr_value.specs.Data.{Kind, Datum, some, Types}
use Rattle.xdr_value.specs.Heads.{is_maybe, head_of}
use Rattle.xdr_value.specs.Spelling.{word, spelling}

pub counted_spelling : (n m : ℕ) (before between after all : List ℕ) → n ≡ m → between ≡ before ++ word n
    → after ≡ between ++ all → after ≡ before ++ (word m ++ all)
counted_spelling n m before between after all is e f = f ∙ rw (e, is) (append_assoc before (word m) all)

pub some_spelling : (t : Types) (k of : Kind) (d inner : Datum) (before between after : List ℕ) → d ≡ some inner
    → is_maybe of ≡ head_of t k
    → between ≡ before ++ word 1 → after ≡ between ++ spelling t of inner → after ≡ before ++ spelling t k d
some_spelling t k of d inner before between after is head e f = f ∙ rw e
    (append_assoc before (word 1) (spelling t of inner) ∙ rw (is, ← head) refl)
