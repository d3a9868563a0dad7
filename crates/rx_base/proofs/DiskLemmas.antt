-- Lemmas on what is read of a file.
use Rattle.std.proofs.Common.{◌≡◌, ◌+◌, ◌≤◌, ◌++◌, ◌∙◌, ℕ, List, Option, Some, None, IfSome, IfOk, Result, Ok}
use Rattle.std.proofs.Common.{Err, Vec, Global, vec_len}
use Rattle.std.proofs.Common.{length, take, arith, ap}
use Rattle.std.proofs.lemmas.List.{length-append, length-take, take_all}
use Rattle.std.specs.Option.{option_map}
use Rattle.rx_base.specs.declared.files.ReadFault.{ReadFault}

-- where no more than so many of the first bytes are there, these are all
take-above : (most : ℕ) (left : List ℕ) → length (take (most + 1) left) ≤ most → take (most + 1) left ≡ left
take-above most left within =
    let few : length left ≤ most + 1 = omega (arith, length-take (most + 1) left) in take_all (most + 1) left few

-- a read of at most one byte more than so many that gave no more than so many gave all that was left
all_read : (left : Option (List ℕ)) (front bytes : List ℕ) (read most : ℕ)
    → IfSome (option_map (take (most + 1)) left) (λ first. bytes ≡ front ++ first)
    → length bytes ≡ length front + read → read ≤ most → IfSome left (λ all. bytes ≡ front ++ all)
all_read None front bytes read most first len within = first
all_read (Some left) front bytes read most first len within =
    let both = length-append front (take (most + 1) left) in
    let short : length (take (most + 1) left) ≤ most = omega (arith, ap length first, both, len, within) in
    first ∙ ap (λ x. front ++ x) (take-above most left short)

-- and so did one that was then refused where it gave more
pub all_bounded : (result : Result (Vec ℕ Global) ReadFault) (before after : Vec ℕ Global) (left : Option (List ℕ))
    (read most : ℕ) → IfSome (option_map (take (most + 1)) left) (λ first. after.items ≡ before.items ++ first)
    → vec_len after ≡ vec_len before + read → IfOk result (λ same. same ≡ after) → IfOk result (λ _. read ≤ most)
    → IfOk result (λ bytes. IfSome left (λ all. bytes.items ≡ before.items ++ all))
all_bounded (Err fault) before after left read most first len same within = same
all_bounded (Ok bytes) before after left read most first len same within =
    let sum : length after.items ≡ length before.items + read = omega (arith, after.ok.0, before.ok.0, len) in
    rw same (all_read left before.items after.items read most first sum within)
