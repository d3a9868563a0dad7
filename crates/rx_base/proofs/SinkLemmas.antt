-- Lemmas on what a sink has gained, for this crate and its callers.
use Rattle.std.proofs.Common.{◌≡◌, ◌+◌, ◌-◌, ◌≤◌, ◌++◌, ℕ, List, [], Option, Some, None, length, take, refl}
use Rattle.std.proofs.Common.{ap, sym, subst, ◌∙◌, append_assoc, arith}
use Rattle.std.proofs.lemmas.List.{append-nil}
use Rattle.std.proofs.Math.Seq.{take-append-add}
use Rattle.rx_base.specs.Sink.{Gained, GainedSome}

-- what is told stays where nothing was put
pub gained_none : (told : Option (List ℕ)) → Gained told told []
gained_none None = refl
gained_none (Some bytes) = ap (λ (bs : List ℕ). Some bs) (sym (append-nil bytes))

-- two puts gain the bytes of both, in order
pub gained_more : (a b c : Option (List ℕ)) (xs ys : List ℕ)
    → Gained a b xs → Gained b c ys → Gained a c (xs ++ ys)
gained_more None b c xs ys first second = subst (λ (t : Option (List ℕ)). Gained t c ys) first second
gained_more (Some bytes) b c xs ys first second =
    let both : c ≡ Some (bytes ++ xs ++ ys) = subst (λ (t : Option (List ℕ)). Gained t c ys) first second in
    both ∙ ap (λ (bs : List ℕ). Some bs) (append_assoc bytes xs ys)

-- a put followed by one that failed gains the first of the bytes of both
pub gained_some_more : (a b c : Option (List ℕ)) (xs ys : List ℕ)
    → Gained a b xs → GainedSome b c ys → GainedSome a c (xs ++ ys)
gained_some_more a b c xs ys first (part, rest, whole, second) =
    let joined : xs ++ part ++ rest ≡ xs ++ ys = append_assoc xs part rest ∙ ap (λ (bs : List ℕ). xs ++ bs) whole in
    (xs ++ part, rest, joined, gained_more a b c xs part first second)

-- a put that failed gains the first of its bytes and of any that were to come
pub gained_some_front : (a b : Option (List ℕ)) (xs ys : List ℕ)
    → GainedSome a b xs → GainedSome a b (xs ++ ys)
gained_some_front a b xs ys (part, rest, whole, gained) =
    let joined : part ++ (rest ++ ys) ≡ xs ++ ys =
    sym (append_assoc part rest ys) ∙ ap (λ (bs : List ℕ). bs ++ ys) whole in
    (part, rest ++ ys, joined, gained)

-- bytes up to a room, after those that have some of it
pub append-take : (old bytes : List ℕ) (room : ℕ) → length old ≤ room
    → old ++ take (room - length old) bytes ≡ take room (old ++ bytes)
append-take old bytes room within =
    let reaches : length old + (room - length old) ≡ room = omega (arith, within) in
    sym (take-append-add old bytes (room - length old)) ∙ ap (λ (n : ℕ). take n (old ++ bytes)) reaches
