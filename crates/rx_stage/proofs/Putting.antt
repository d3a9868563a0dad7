-- Answer lines that were put one by one.
use Rattle.std.proofs.Common.{◌≡◌, ◌<◌, ◌∙◌, ℕ, suc, List, [], ◌∷◌, ◌++◌, refl, sym, subst, ap, length, take, drop}
use Rattle.std.proofs.Common.{get_or, ◌+◌}
use Rattle.std.proofs.Common.{Err, Result}
use Rattle.std.specs.Prelude.{IsErr, IsErrAnd}
use Rattle.std.proofs.lemmas.Result.{err_from_is_err_and}
use Rattle.std.proofs.Math.Seq.{drop-cons}
use Rattle.std.proofs.lemmas.List.{append-nil, append_assoc, take-append-drop, take_more}
use Rattle.rx_base.specs.Sink.{HasRisen}
use Rattle.rx_base.proofs.SinkLemmas.{gained_more, gained_none, gained_some_front, gained_some_more}
use Rattle.xdr_value.specs.Data.{Procs, Types}
use Rattle.rx_script.specs.declared.outcome.Outcome.{Outcome}
use Rattle.rx_script.specs.declared.outcome.Outcome.TheVariants as outcomes
use Rattle.rx_script.specs.declared.plan.Numbered.{Numbered}
use Rattle.rx_plan.specs.Answers.{answer_line, answer_lines}
use Rattle.rx_stage.specs.Runs.{PutsAll}
use Rattle.rx_stage.specs.Showing.{PutsBy}
use Rattle.rx_plan.specs.Stages.{InvokedState}
use Rattle.rx_stage.specs.Tells.{Told}

-- ---- lines

lines_both : (t : Types) (ps : Procs) (ls : List Numbered) (front rest : List InvokedState)
    → answer_lines t ps ls (front ++ rest) ≡ answer_lines t ps ls front ++ answer_lines t ps ls rest
lines_both t ps ls [] rest = refl
lines_both t ps ls (i ∷ front) rest =
    ap (λ bytes. answer_line t ps ls i ++ bytes) (lines_both t ps ls front rest)
    ∙ sym (append_assoc (answer_line t ps ls i) (answer_lines t ps ls front) (answer_lines t ps ls rest))

-- the line of the caller at a place, behind those before it
pub lines_more : (t : Types) (ps : Procs) (ls : List Numbered) (is : List InvokedState) (k : ℕ) (i : InvokedState)
    → k < length is → i ≡ get_or is k i
    → answer_lines t ps ls (take (k + 1) is) ≡ answer_lines t ps ls (take k is) ++ answer_line t ps ls i
lines_more t ps ls is k i there at =
    ap (answer_lines t ps ls) (take_more is k i there)
    ∙ ap (λ x. answer_lines t ps ls (take k is ++ x ∷ [])) (sym at)
    ∙ lines_both t ps ls (take k is) (i ∷ [])
    ∙ ap (λ bytes. answer_lines t ps ls (take k is) ++ bytes) (append-nil (answer_line t ps ls i))

-- all lines, by the one at a place
pub lines_parted : (t : Types) (ps : Procs) (ls : List Numbered) (is : List InvokedState) (k : ℕ) (i : InvokedState)
    → k < length is → i ≡ get_or is k i
    → answer_lines t ps ls is ≡ (answer_lines t ps ls (take k is) ++ answer_line t ps ls i)
    ++ answer_lines t ps ls (drop (suc k) is)
lines_parted t ps ls is k i there at =
    ap (answer_lines t ps ls) (sym (take-append-drop k is))
    ∙ ap (λ js. answer_lines t ps ls (take k is ++ js)) (drop-cons is k i there)
    ∙ ap (λ x. answer_lines t ps ls (take k is ++ x ∷ drop (suc k) is)) (sym at)
    ∙ lines_both t ps ls (take k is) (i ∷ drop (suc k) is)
    ∙ sym (append_assoc (answer_lines t ps ls (take k is)) (answer_line t ps ls i)
    (answer_lines t ps ls (drop (suc k) is)))

-- ---- puts

pub puts_none : (a : Told) → PutsAll a a []
puts_none a = record { noted = refl; put = gained_none a.put; faults = refl }

-- one line more
pub puts_more : (a b c : Told) (xs ys : List ℕ) → PutsAll a b xs → PutsAll b c ys → PutsAll a c (xs ++ ys)
puts_more a b c xs ys first second =
    record {
      noted = second.noted ∙ first.noted;
      put = gained_more a.put b.put c.put xs ys first.put second.put;
      faults = second.faults ∙ first.faults;
    }

puts_stopped : (outcome : Outcome) (a b c : Told) (xs ys more : List ℕ) → PutsAll a b xs
    → PutsBy (Err outcome) b c ys → PutsBy (Err outcome) a c ((xs ++ ys) ++ more)
puts_stopped outcomes.Ran a b c xs ys more first none = elim none [ ]
puts_stopped (outcomes.Refused line why) a b c xs ys more first none = elim none [ ]
puts_stopped outcomes.SinkFault a b c xs ys more first second =
    record {
      noted = second.noted ∙ first.noted;
      put = gained_some_front a.put c.put (xs ++ ys) more
          (gained_some_more a.put b.put c.put xs ys first.put second.put);
      faults = subst (λ n. HasRisen n c.faults) first.faults second.faults;
    }
puts_stopped outcomes.OutOfMemory a b c xs ys more first second =
    record {
      noted = second.noted ∙ first.noted;
      put = gained_some_front a.put c.put (xs ++ ys) more
          (gained_some_more a.put b.put c.put xs ys first.put second.put);
      faults = second.faults ∙ first.faults;
    }

module _ (made r : Result (Unit {0}) Outcome) (outcome : Outcome) (a b c : Told) (xs ys more : List ℕ) where
  -- one that ended the run, whatever was to come
  pub puts_ended : PutsAll a b xs → made ≡ Err outcome → IsErr r × IsErrAnd r (λ o. o ≡ outcome) → PutsBy made b c ys
      → PutsBy r a c ((xs ++ ys) ++ more)
  puts_ended first is was second =
      (let given = err_from_is_err_and r was.1 in
      subst (λ x. PutsBy x a c ((xs ++ ys) ++ more)) (sym given.1)
      (subst (λ o. PutsBy (Err o) a c ((xs ++ ys) ++ more)) (sym given.2)
      (puts_stopped outcome a b c xs ys more first (subst (λ x. PutsBy x b c ys) is second))))
