-- The first place of a text of which something holds, found one place after the other.
use Rattle.std.proofs.Common.{◌≡◌, ℕ, ◌<◌, ◌≤◌, true, false, List, length, get_or, slice_get, Some, option_map, sym, ap}
use Rattle.std.proofs.Common.{subst, ◌∙◌, arith}
use Rattle.std.specs.Borrow.{Bor}
use Rattle.std.proofs.lemmas.Option.{slice_get-map, slice_get-get_or, slice_get_within}
use Rattle.std.proofs.lemmas.List.{length-map}
use Rattle.xg_check.specs.declared.marks.Mark.{Mark as CodeMark}
use Rattle.xg_check.specs.Places.{HoldsNowhere}
use Rattle.xg_check.specs.Marks.{mark_name}
use Rattle.xg_check.specs.Views.{mark_of, marks_of}
use Rattle.xg_check.specs.Judged.{Scope, is_unknown, IsUnknown, IsWrong, IsSizeFault}
use Rattle.xg_check.specs.Answers.{IsFirstNamed}
use Rattle.xg_check.proofs.OrderLaws.{the_same}

pub mark_at_place : (marks : List CodeMark) (i : ℕ) (m : CodeMark) → i < length marks → m ≡ get_or marks i m
    → slice_get (marks_of marks) i ≡ Some (mark_of m)
mark_at_place marks i m lt e =
    slice_get-map mark_of marks i ∙ ap (option_map mark_of) (slice_get-get_or marks i m lt)
    ∙ ap (λ (x : CodeMark). Some (mark_of x)) (sym e)

pub first_found : (P : ℕ → Type 0) (marks : List CodeMark) (i : ℕ) (m : CodeMark) (name : Bor (List ℕ))
    → i < length marks
    → m ≡ get_or marks i m → ((k : ℕ) → k < i → P k → ⊥) → P i → name.now ≡ mark_name (mark_of m)
    → IsFirstNamed P (marks_of marks) (Some name)
first_found P marks i m name lt e before here is = (i, (here, before), (mark_of m, mark_at_place marks i m lt e, is))

pub known_here : (s : Scope) (marks : List CodeMark) (i : ℕ) (m : CodeMark) → i < length marks → m ≡ get_or marks i m
    → false ≡ is_unknown s (mark_of m) → IsUnknown s (marks_of marks) i → ⊥
known_here s marks i m lt e not_so f =
    let same : f.mark ≡ mark_of m =
    the_same (slice_get (marks_of marks) i) f.mark (mark_of m) f.stands (mark_at_place marks i m lt e) in
    let both : false ≡ true = not_so ∙ ap (is_unknown s) (sym same) ∙ f.unknown in
    absurd cc

pub unknown_here : (s : Scope) (marks : List CodeMark) (i : ℕ) (m : CodeMark) → i < length marks → m ≡ get_or marks i m
    → true ≡ is_unknown s (mark_of m) → IsUnknown s (marks_of marks) i
unknown_here s marks i m lt e so =
    record { mark = mark_of m; stands = mark_at_place marks i m lt e; unknown = sym so }

pub right_here : (s : Scope) (marks : List CodeMark) (i : ℕ) (m : CodeMark) → i < length marks → m ≡ get_or marks i m
    → (IsWrong s (mark_of m) → ⊥) → IsSizeFault s (marks_of marks) i → ⊥
right_here s marks i m lt e not_so f =
    let same : f.mark ≡ mark_of m =
    the_same (slice_get (marks_of marks) i) f.mark (mark_of m) f.stands (mark_at_place marks i m lt e) in
    not_so (subst (IsWrong s) same f.wrong)

pub nowhere_unknown : (s : Scope) (marks : List CodeMark) (i : ℕ) → length marks ≤ i
    → ((k : ℕ) → k < i → IsUnknown s (marks_of marks) k → ⊥) → HoldsNowhere (IsUnknown s (marks_of marks))
nowhere_unknown s marks i le none k f =
    none k (omega (arith, slice_get_within (marks_of marks) k f.mark f.stands, length-map marks mark_of, le)) f

pub nowhere_wrong : (s : Scope) (marks : List CodeMark) (i : ℕ) → length marks ≤ i
    → ((k : ℕ) → k < i → IsSizeFault s (marks_of marks) k → ⊥) → HoldsNowhere (IsSizeFault s (marks_of marks))
nowhere_wrong s marks i le none k f =
    none k (omega (arith, slice_get_within (marks_of marks) k f.mark f.stands, length-map marks mark_of, le)) f
