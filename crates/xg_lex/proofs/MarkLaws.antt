-- A line mark is what the test of a mark passes.
use Rattle.std.proofs.Common.{◌≡◌, ◌≢◌, ℕ, Bool, true, false, cond, ◌||◌, eqb, List, [], ◌∷◌, ◌++◌, take, drop, Option}
use Rattle.std.proofs.Common.{Some, None, refl, sym, ap, ◌∙◌, arith}
use Rattle.std.specs.List.{prefix_len, list_all, list_any}
use Rattle.std.specs.Option.{option_and_then}
use Rattle.std.specs.Char.{is_ascii_digit}
use Rattle.std.proofs.lemmas.List.{take-append-drop}
use Rattle.std.proofs.lemmas.List.Folds.{length-prefix_len}
use Rattle.std.proofs.lemmas.Bool.{and_parts, eqb-true, eqb-false, false≢true, or_right}
use Rattle.std.proofs.lemmas.Bool.Decides.{nat_tests}
use Rattle.xg_lex.specs.Bytes.{is_space, quote, hash}
use Rattle.xg_lex.specs.Grammar.{Stops, IsRun, IsLineMark}
use Rattle.xg_lex.specs.Steps.{past_run, after_mark, has_quoted, is_mark_rest}
use Rattle.xg_lex.proofs.Runs.{run_passes}
use Rattle.xg_lex.proofs.RunLaws.{past_run-run}

digit_no_space : (b : ℕ) → is_ascii_digit b ≡ true → is_space b ≡ false
digit_no_space b e = grind (arith, nat_tests)

space_no_digit : (b : ℕ) → is_space b ≡ true → is_ascii_digit b ≡ false
space_no_digit b e = grind (arith, nat_tests)

-- a run of one kind stops a run of another
run_stops_other : (test other : ℕ → Bool) → ((b : ℕ) → test b ≡ true → other b ≡ false) → (run more : List ℕ) →
    IsRun test run → Stops other (run ++ more)
run_stops_other test other apart [] more is = absurd (omega (arith, is.0))
run_stops_other test other apart (b ∷ bs) more is = apart b (and_parts (test b) (list_all test bs) is.1).0

quote_there : (quoted after : List ℕ) → list_any (λ c. eqb c quote) (quoted ++ quote ∷ after) ≡ true
quote_there [] after = refl
quote_there (b ∷ bs) after = or_right (eqb b quote) _ (quote_there bs after)

pub is_mark_rest-mark : (rest : List ℕ) → IsLineMark (hash ∷ rest) → is_mark_rest rest ≡ true
unfolding is_mark_rest
is_mark_rest-mark rest m =
    let whole : rest ≡ m.spaces ++ (m.digits ++ (m.more_spaces ++ quote ∷ (m.quoted ++ quote ∷ m.after))) = cc in
    let first = past_run-run is_space m.spaces (m.digits ++ (m.more_spaces ++ quote ∷
    (m.quoted ++ quote ∷ m.after))) m.spaces_run
    (run_stops_other is_ascii_digit is_space digit_no_space m.digits _ m.digits_run) in
    let second = past_run-run is_ascii_digit m.digits (m.more_spaces ++ quote ∷ (m.quoted ++ quote ∷ m.after))
    m.digits_run
    (run_stops_other is_space is_ascii_digit space_no_digit m.more_spaces _ m.more_spaces_run) in
    let third = past_run-run is_space m.more_spaces (quote ∷ (m.quoted ++ quote ∷ m.after)) m.more_spaces_run refl in
    rw (whole, first, second, third) (quote_there m.quoted m.after)

-- a run stands before what is behind it
record Past (test : ℕ → Bool) (bytes rest : List ℕ) : Type 0 where
  run : List ℕ
  is : IsRun test run
  whole : bytes ≡ run ++ rest

split : (n : ℕ) (bytes : List ℕ) → bytes ≡ take n bytes ++ drop n bytes
split n bytes = sym (take-append-drop n bytes)

past_found : (test : ℕ → Bool) (bytes rest : List ℕ) → past_run test bytes ≡ Some rest → Past test bytes rest
past_found test bytes rest e = by_test (eqb (prefix_len test bytes) 0) refl e
  where
    by_test : (t : Bool) → eqb (prefix_len test bytes) 0 ≡ t →
        cond t None (Some (drop (prefix_len test bytes) bytes)) ≡ Some rest → Past test bytes rest
    by_test true t h = cc
    by_test false t h =
        let back : drop (prefix_len test bytes) bytes ≡ rest = cc in
        let some : prefix_len test bytes ≢ 0 = eqb-false _ 0 t in
        record {
          run = take (prefix_len test bytes) bytes;
          is = (rw length-prefix_len (omega arith), run_passes test bytes);
          whole = split (prefix_len test bytes) bytes ∙ ap (λ (ds : List ℕ). take (prefix_len test bytes) bytes ++
              ds) back;
        }

record Quoted (bytes : List ℕ) : Type 0 where
  quoted : List ℕ
  after : List ℕ
  whole : bytes ≡ quoted ++ quote ∷ after

quote_found : (bytes : List ℕ) → list_any (λ c. eqb c quote) bytes ≡ true → Quoted bytes
quote_found [] e = absurd (false≢true e)
quote_found (b ∷ bs) e = by_test (eqb b quote) refl e (λ h. quote_found bs h)
  where
    by_test : (t : Bool) → eqb b quote ≡ t → (t || list_any (λ c. eqb c quote) bs) ≡ true →
        (list_any (λ c. eqb c quote) bs ≡ true → Quoted bs) → Quoted (b ∷ bs)
    by_test true t h rest = record { quoted = []; after = bs; whole = ap (λ (c : ℕ). c ∷ bs) (eqb-true b quote t) }
    by_test false t h rest =
        let q = rest h in
        record { quoted = b ∷ q.quoted; after = q.after; whole = ap (λ (ds : List ℕ). b ∷ ds) q.whole }

then_some : (f : List ℕ → Option (List ℕ)) (o : Option (List ℕ)) (rest : List ℕ) →
    option_and_then f o ≡ Some rest → (middle : List ℕ) × (o ≡ Some middle) × (f middle ≡ Some rest)
then_some f None rest e = cc
then_some f (Some middle) rest e = (middle, refl, e)

quoted_found : (o : Option (List ℕ)) → has_quoted o ≡ true → (bs : List ℕ) × (o ≡ Some (quote ∷ bs)) × Quoted bs
quoted_found None e = absurd (false≢true e)
quoted_found (Some []) e = absurd (false≢true e)
quoted_found (Some (b ∷ bs)) e =
    let parts = and_parts (eqb b quote) (list_any (λ c. eqb c quote) bs) e in
    (bs, ap (λ (c : ℕ). Some (c ∷ bs)) (eqb-true b quote parts.0), quote_found bs parts.1)

pub mark_from_is_mark_rest : (rest : List ℕ) → is_mark_rest rest ≡ true → IsLineMark (hash ∷ rest)
unfolding is_mark_rest
mark_from_is_mark_rest rest e =
    let q = quoted_found (after_mark rest) e in
    let third = then_some (past_run is_space) (option_and_then (past_run is_ascii_digit) (past_run is_space rest))
    (quote ∷ q.0) q.1 in
    let second = then_some (past_run is_ascii_digit) (past_run is_space rest) third.0 third.1 in
    let a = past_found is_space rest second.0 second.1 in
    let b = past_found is_ascii_digit second.0 third.0 second.2 in
    let c = past_found is_space third.0 (quote ∷ q.0) third.2 in
    record {
      spaces = a.run;
      digits = b.run;
      more_spaces = c.run;
      quoted = q.2.quoted;
      after = q.2.after;
      spaces_run = a.is;
      digits_run = b.is;
      more_spaces_run = c.is;
      whole = ap (λ (ds : List ℕ). hash ∷ ds)
          (a.whole ∙ ap (λ (ds : List ℕ). a.run ++ ds)
          (b.whole ∙ ap (λ (ds : List ℕ). b.run ++ ds)
          (c.whole ∙ ap (λ (ds : List ℕ). c.run ++ quote ∷ ds) q.2.whole)));
    }
