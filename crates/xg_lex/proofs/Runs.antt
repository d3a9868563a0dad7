-- Runs of bytes that pass a test.
use Rattle.std.proofs.Common.{◌≡◌, ◌≢◌, ℕ, zero, suc, ◌+◌, ◌-◌, ◌<◌, ◌≤◌, Bool, true, false, cond, List, [], ◌∷◌}
use Rattle.std.proofs.Common.{length, get_or, take, drop, Some, refl, arith, length-drop}
use Rattle.std.specs.List.{prefix_len}
use Rattle.std.specs.Str.{IsUtf8, IsCharBoundary}
use Rattle.std.proofs.lemmas.List.Sums.{prefix_len-le-length, prefix_len_passes}
use Rattle.std.proofs.lemmas.Bool.{ne_eqb, and_from}
use Rattle.std.proofs.lemmas.Bool.Decides.{nat_tests}
use Rattle.std.proofs.lemmas.Str.{IsCharBoundary-start, IsCharBoundary-after_ascii}
use Rattle.std.proofs.lemmas.List.{take_all}
use Rattle.xg_lex.specs.Bytes.{is_in_number, is_in_name}
use Rattle.xg_lex.specs.Grammar.{AllOf}
use Rattle.xg_lex.specs.Steps.{past_run}

pub take_one : (n b : ℕ) (bs : List ℕ) → take (1 + n) (b ∷ bs) ≡ b ∷ take n bs
take_one n b bs = let e : 1 + n ≡ suc n = omega arith in rw e refl

run_passes_at : (test : ℕ → Bool) (b : ℕ) (bs : List ℕ) (t : Bool) → test b ≡ t →
    AllOf test (take (prefix_len test bs) bs) → AllOf test (take (cond t (1 + prefix_len test bs) 0) (b ∷ bs))
run_passes_at test b bs true e rest = rw take_one (and_from (test b) _ e rest)
run_passes_at test b bs false e rest = refl

-- a run passes its test
pub run_passes : (test : ℕ → Bool) (bytes : List ℕ) → AllOf test (take (prefix_len test bytes) bytes)
run_passes test [] = refl
run_passes test (b ∷ bs) = run_passes_at test b bs (test b) refl (run_passes test bs)

-- what follows a run
pub past_is : (test : ℕ → Bool) (bytes : List ℕ) (n : ℕ) → n ≡ prefix_len test bytes → n ≢ 0 →
    Some (take (length bytes - n) (drop n bytes)) ≡ past_run test bytes
past_is test bytes n e some =
    let rest : length (drop n bytes) ≤ length bytes - n = omega (arith, length-drop n bytes) in
    rw (take_all, ← e, ne_eqb n 0 some) refl

-- a text may be cut behind a run of ASCII
pub run_boundary : (test : ℕ → Bool) → ((b : ℕ) → test b ≡ true → b < 128) → (bytes : List ℕ) → IsUtf8 bytes →
    IsCharBoundary bytes (prefix_len test bytes)
run_boundary test ascii bytes text = boundary_at (prefix_len test bytes) refl
  where
    boundary_at : (n : ℕ) → prefix_len test bytes ≡ n → IsCharBoundary bytes n
    boundary_at zero e = IsCharBoundary-start bytes text
    boundary_at (suc k) e =
        let within : k < length bytes = omega (arith, prefix_len-le-length test bytes) in
        let before : k < prefix_len test bytes = omega arith in
        let one : k + 1 ≡ suc k = omega arith in
        rw one at (IsCharBoundary-after_ascii bytes k text within (ascii (get_or bytes k 0)
        (prefix_len_passes test bytes k 0 before)))

pub in_number_is_ascii : (b : ℕ) → is_in_number b ≡ true → b < 128
in_number_is_ascii b e = grind (arith, nat_tests)

pub in_name_is_ascii : (b : ℕ) → is_in_name b ≡ true → b < 128
in_name_is_ascii b e = grind (arith, nat_tests)
