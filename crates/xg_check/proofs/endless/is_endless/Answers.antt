use Rattle.std.proofs.Common.{◌≡◌, ◌<◌, true, false, List, ℕ, Some, length, slice_get, ap, sym, subst, ◌∙◌, arith}
use Rattle.std.proofs.lemmas.Bool.{false≢true}
use Rattle.std.proofs.lemmas.Option.{slice_get-get_or}
use Rattle.xg_check.specs.Graphs.{Leads}
use Rattle.xg_check.proofs.HeldLaws.{same_size}
use Rattle.xg_check.proofs.endless.is_endless.Goals as goal

pub bounds-ringless-place : goal.bounds-ringless-place
bounds-ringless-place c =
    let s = same_size c.args.types.now in
    let w = ap length c.requires.ways in
    omega (arith, s, w, c.requires.there, c.requires.ringless.size)

pub returns-then-ringless-place : goal.returns-then-ringless-place
returns-then-ringless-place c =
    let marks = c.args.ringless.now in
    let i = c.args.place in
    let s = same_size c.args.types.now in
    let w = ap length c.requires.ways in
    let lt : i < length marks = omega (arith, s, w, c.requires.there, c.requires.ringless.size) in
    let here : slice_get marks i ≡ Some true = slice_get-get_or marks i false lt ∙ ap Some c.if-ringless-place.true in (
      λ t. absurd (false≢true t),
      λ ring. absurd (c.requires.ringless.no_ring i here
          (subst (λ (g : List (List ℕ)). Leads g i i) (sym c.requires.ways) ring)),
    )

pub returns-requires : goal.returns-requires
returns-requires c =
    let s = same_size c.args.types.now in
    let w = ap length c.requires.ways in
    omega (arith, s, w, c.requires.there)

pub returns : goal.returns
returns c = rw c.requires.ways at c.returns.ensures
