use Rattle.std.proofs.Common.{◌≡◌, ℕ, List, ap, subst, ◌∙◌}
use Rattle.xg_check.specs.declared.constants.Constant.{Constant as CodeConstant}
use Rattle.xg_check.specs.Constants.{constant_names, constant_ways}
use Rattle.xg_check.specs.Graphs.{AreRingless}
use Rattle.xg_check.specs.Held.{AreValues}
use Rattle.xg_check.specs.Views.{constants_of}
use Rattle.xg_check.proofs.RingLaws.{length_ways}
use Rattle.xg_check.proofs.values.Constants.of.Goals as goal

pub invariant_of-result : goal.invariant_of-result
invariant_of-result c =
    let cs = constants_of c.in_ok-list.list.items in
    let ways : c.in_ok-ways.ways ≡ constant_ways cs =
    c.in_ok-ways.ensures ∙ ap (λ (xs : List CodeConstant). constant_ways (constants_of xs))
    c.as_slice-2.ensures.value in
    let marks = c.in_ok-ringless.ringless.items in
    let r = subst (λ (g : List (List ℕ)). AreRingless g marks) ways c.in_ok-ringless.ensures in
    record {
      names_are = c.in_ok-names.ensures
          ∙ ap (λ (xs : List CodeConstant). constant_names (constants_of xs)) c.as_slice.ensures.value;
      values_are = subst (λ (xs : List CodeConstant). AreValues (constants_of xs) c.in_ok-values.values.items)
          c.as_slice-3.ensures.value c.in_ok-values.ensures.values;
      bounded = c.in_ok-values.ensures.bounded;
      ways_are = ways;
      size = r.size ∙ length_ways cs 0 cs;
      no_ring = r.no_ring;
    }
