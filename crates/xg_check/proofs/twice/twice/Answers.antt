use Rattle.std.proofs.Common.{◌≡◌, ◌+◌, ◌<◌, ◌++◌, ◌∷◌, [], List, true, false, Some, length, take, slice_get}
use Rattle.std.proofs.Common.{option_map, refl, sym, ap, subst, ◌∙◌, arith, below_more}
use Rattle.std.proofs.lemmas.Option.{slice_get_read, slice_get-map, slice_get_within}
use Rattle.std.proofs.lemmas.List.{map_more, length-map, take-map}
use Rattle.std.proofs.lemmas.Bool.{false≢true}
use Rattle.xg_check.specs.Marks.{Mark}
use Rattle.xg_check.specs.Views.{mark_of, marks_of}
use Rattle.xg_check.specs.Met.{AreMet, is_met}
use Rattle.xg_check.proofs.TwiceLaws.{met_is_twice, twice_is_met}
use Rattle.xg_check.proofs.twice.twice.Goals as goal

pub returns-then-branch : goal.returns-then-branch
returns-then-branch c =
    let i = c.loop-mark.mark-index in
    let ms = c.args.marks.now in
    let cs = c.args.constants.now in
    let read = slice_get_read ms (length ms) i c.mark-item.result refl c.loop-mark-test.true c.mark-item.is in
    let at : slice_get (marks_of ms) i ≡ Some (mark_of c.mark-item.result) =
    slice_get-map mark_of ms i ∙ ap (option_map mark_of) read in
    let met = (c.in_ok-again.ensures (marks_of (take i ms)) c.loop-mark.invariant.met).1 in
    let taken : marks_of (take i ms) ≡ take i (marks_of ms) = sym (take-map mark_of i ms) in
    let yes : is_met cs (take i (marks_of ms)) (mark_of c.mark-item.result) ≡ true =
    subst (λ (xs : List Mark). is_met cs xs (mark_of c.mark-item.result) ≡ true) taken
    (sym met ∙ c.if-branch.true) in (
      i,
      (met_is_twice cs (marks_of ms) i (mark_of c.mark-item.result) at yes, c.loop-mark.invariant.none),
      (mark_of c.mark-item.result, at, c.name.ensures),
    )

pub loop-mark-preserved : goal.loop-mark-preserved
loop-mark-preserved c =
    let i = c.loop-mark.mark-index in
    let ms = c.args.marks.now in
    let cs = c.args.constants.now in
    let read = slice_get_read ms (length ms) i c.mark-item.result refl c.loop-mark-test.true c.mark-item.is in
    let at : slice_get (marks_of ms) i ≡ Some (mark_of c.mark-item.result) =
    slice_get-map mark_of ms i ∙ ap (option_map mark_of) read in
    let step = c.in_ok-again.ensures (marks_of (take i ms)) c.loop-mark.invariant.met in
    let taken : marks_of (take i ms) ≡ take i (marks_of ms) = sym (take-map mark_of i ms) in
    let no : is_met cs (take i (marks_of ms)) (mark_of c.mark-item.result) ≡ false =
    subst (λ (xs : List Mark). is_met cs xs (mark_of c.mark-item.result) ≡ false) taken
    (sym step.1 ∙ c.if-branch.false) in
    let more : marks_of (take i ms) ++ mark_of c.mark-item.result ∷ [] ≡ marks_of (take (i + 1) ms) =
    ap (λ (m : Mark). marks_of (take i ms) ++ m ∷ []) (ap mark_of c.mark-item.is)
    ∙ sym (map_more mark_of ms i c.mark-item.result c.loop-mark-test.true) in
    record {
      met = subst (λ (xs : List Mark). AreMet cs xs c.again.new.self) more step.0;
      none = below_more _ _ c.loop-mark.invariant.none
          (λ t. false≢true (sym no ∙ twice_is_met cs (marks_of ms) i (mark_of c.mark-item.result) at t));
    }

pub returns : goal.returns
returns c = λ k t.
    let ms = c.args.marks.now in
    let lt : k < length (marks_of ms) = slice_get_within (marks_of ms) k t.mark t.stands in
    c.loop-mark.invariant.none k (omega (arith, lt, length-map ms mark_of)) t
