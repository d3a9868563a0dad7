use Rattle.std.proofs.Common.{◌&&◌, ◌||◌, ℤ, Option, nat_eq, ap, sym, ◌∙◌, rules}
use Rattle.std.specs.HashSet.{contains}
use Rattle.std.specs.Int.RustNames.{FitsSigned}
use Rattle.std.proofs.lemmas.Int.{to_z-of_z}
use mir.Syntax.{w128}
use Rattle.xg_check.specs.Tags.{is_value}
use Rattle.xg_check.specs.Held.{same_pair}
use Rattle.xg_check.proofs.SetLaws.{pair_added, none_added}
use Rattle.xg_check.proofs.tags.Tags.add_value.Goals as goal

pub returns-in-None-clause-values : goal.returns-in-None-clause-values
returns-in-None-clause-values c = λ i z. none_added _ _ c.args.value z c.in-None.is

pub returns-in_ok-insert-in-Some-clause-values : goal.returns-in_ok-insert-in-Some-clause-values
returns-in_ok-insert-in-Some-clause-values c = λ i z.
    let fit : FitsSigned w128 c.in-Some.value = search rules in
    let same = to_z-of_z w128 c.in-Some.value fit in
    let was = contains same_pair c.args.self.now.values (i, z) in
    rw same at (c.in_ok-insert-in-Some.ensures.updates.0 (i, z))
    ∙ pair_added c.args.place i c.in-Some.value z was
    ∙ ap (λ (v : Option ℤ). was || (nat_eq i c.args.place && is_value v z)) (sym c.in-Some.is)
