-- A run is what stands before the first byte that fails its test.
use Rattle.std.proofs.Common.{◌≡◌, ◌≢◌, ℕ, suc, ◌+◌, Bool, true, false, cond, List, [], ◌∷◌, ◌++◌, length, take, drop}
use Rattle.std.proofs.Common.{Some, refl, ap, arith}
use Rattle.std.specs.List.{prefix_len, list_all}
use Rattle.std.proofs.lemmas.Bool.{ne_eqb, and_parts}
use Rattle.xg_lex.specs.Grammar.{Stops, AllOf, IsRun}
use Rattle.xg_lex.specs.Steps.{past_run}

stops_at : (test : ℕ → Bool) (more : List ℕ) → Stops test more → prefix_len test more ≡ 0
stops_at test [] h = refl
stops_at test (b ∷ bs) h = rw h refl

-- a run before what stops it
pub prefix_len-run : (test : ℕ → Bool) (run more : List ℕ) → AllOf test run → Stops test more →
    prefix_len test (run ++ more) ≡ length run
prefix_len-run test [] more passes stops = stops_at test more stops
prefix_len-run test (b ∷ bs) more passes stops =
    let parts = and_parts (test b) (list_all test bs) passes in
    rw (parts.0, prefix_len-run test bs more parts.1 stops) (omega arith)

drop_one : (n b : ℕ) (bs : List ℕ) → drop (1 + n) (b ∷ bs) ≡ drop n bs
drop_one n b bs = let e : 1 + n ≡ suc n = omega arith in rw e refl

run_stops_at : (test : ℕ → Bool) (b : ℕ) (bs : List ℕ) (t : Bool) → test b ≡ t →
    Stops test (drop (prefix_len test bs) bs) → Stops test (drop (cond t (1 + prefix_len test bs) 0) (b ∷ bs))
run_stops_at test b bs true e rest = rw drop_one rest
run_stops_at test b bs false e rest = e

-- what follows a run stops it
pub run_stops : (test : ℕ → Bool) (bytes : List ℕ) → Stops test (drop (prefix_len test bytes) bytes)
run_stops test [] = tt
run_stops test (b ∷ bs) = run_stops_at test b bs (test b) refl (run_stops test bs)

pub take-front : (front back : List ℕ) → take (length front) (front ++ back) ≡ front
take-front [] back = refl
take-front (x ∷ xs) back = ap (λ (ys : List ℕ). x ∷ ys) (take-front xs back)

pub drop-front : (front back : List ℕ) → drop (length front) (front ++ back) ≡ back
drop-front [] back = refl
drop-front (x ∷ xs) back = drop-front xs back

-- a run of one byte or more is gone past
pub past_run-run : (test : ℕ → Bool) (run more : List ℕ) → IsRun test run → Stops test more →
    past_run test (run ++ more) ≡ Some more
past_run-run test run more is stops =
    let len = prefix_len-run test run more is.1 stops in
    let some : length run ≢ 0 = λ z. omega (arith, is.0, z) in
    rw (len, ne_eqb (length run) 0 some, drop-front run more) refl
