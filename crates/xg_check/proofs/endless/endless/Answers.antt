use Rattle.std.proofs.Common.{◌≡◌, ℕ, [], List, Option, None, Some, Bor, length, option_map, unwrap_or, refl, ap, sym}
use Rattle.std.proofs.Common.{◌∙◌, arith, below_more}
use Rattle.std.proofs.lemmas.Bool.{false≢true}
use Rattle.std.proofs.lemmas.Option.{slice_get-map}
use Rattle.xg_check.specs.Typed.{name_in}
use Rattle.xg_check.proofs.HeldLaws.{same_size}
use Rattle.xg_check.proofs.FreeLaws.{first_inside}
use Rattle.xg_check.proofs.PlaceLaws.{nowhere}
use Rattle.xg_check.proofs.endless.endless.Goals as goal

named_or : (r : Option (Bor (List ℕ))) (d : Bor (List ℕ)) (t : Option (List ℕ)) → d.now ≡ []
    → option_map (λ (s : Bor (List ℕ)). s.now) r ≡ t → (unwrap_or r d).now ≡ unwrap_or t []
named_or None d t none e = none ∙ ap (λ (o : Option (List ℕ)). unwrap_or o []) e
named_or (Some s) d t none e = ap (λ (o : Option (List ℕ)). unwrap_or o []) e

pub is_endless-requires-clause-there : goal.is_endless-requires-clause-there
is_endless-requires-clause-there c =
    let s = same_size c.args.types.now in
    let w = ap length c.requires.ways in
    omega (arith, s, w, c.len-place-end.ensures, c.loop-place-test.true)

pub returns-then-branch : goal.returns-then-branch
returns-then-branch c =
    let ts = c.args.types.now in
    let i = c.loop-place.place in
    let name : c.unwrap_or.result.now ≡ name_in c.part.result.now =
    ap (λ (s : Bor (List ℕ)). s.now) c.unwrap_or.ensures ∙ named_or c.type_name.result _ _ refl c.type_name.ensures in (
      i,
      (c.in_ok-is_endless.ensures.0 c.if-branch.true, c.loop-place.invariant),
      slice_get-map name_in ts i ∙ ap (option_map name_in) c.part.ensures ∙ ap Some (sym name),
    )

pub loop-place-preserved : goal.loop-place-preserved
loop-place-preserved c =
    below_more _ _ c.loop-place.invariant
    (λ ring. false≢true (sym c.if-branch.false ∙ c.in_ok-is_endless.ensures.1 ring))

pub returns : goal.returns
returns c =
    let ts = c.args.types.now in
    let s = same_size ts in
    let w = ap length c.requires.ways in
    nowhere _ c.loop-place.place
    (λ k ring. omega (arith, first_inside ts k k ring, s, w, c.len-place-end.ensures, c.loop-place-test.false))
    c.loop-place.invariant
