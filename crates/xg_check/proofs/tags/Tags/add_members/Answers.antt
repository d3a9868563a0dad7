use Rattle.std.proofs.Common.{◌&&◌, ◌||◌, ℤ, List, Option, nat_eq, refl, ap, ◌∙◌}
use Rattle.std.specs.HashSet.{contains}
use Rattle.std.proofs.lemmas.List.{take_all}
use Rattle.xg_parse.specs.declared.tree.MembItem.{MembItem}
use Rattle.xg_check.specs.Constants.{value_named}
use Rattle.xg_check.specs.Tags.{is_value, members_have}
use Rattle.xg_check.specs.Held.{same_pair}
use Rattle.xg_check.proofs.SetLaws.{set_more, none_more}
use Rattle.xg_check.proofs.tags.Tags.add_members.Goals as goal

pub loop-member-init : goal.loop-member-init
loop-member-init c = record { tags_are = refl; values_are = λ i z. none_more _ _ }

pub loop-member-preserved : goal.loop-member-preserved
loop-member-preserved c =
    let cs = c.args.constants.now in
    let ms = c.args.members.now in
    let k = c.loop-member.member-index in
    let m = c.member-item.result in
    let value = c.named.ensures ∙ ap (value_named cs) c.as_str.ensures
    ∙ ap (λ (x : MembItem). value_named cs x.name) c.member-item.is in
    record {
      tags_are = c.add_value.ensures.tags ∙ c.loop-member.invariant.tags_are;
      values_are = λ i z. set_more cs ms k m c.args.place i z (contains same_pair c.loop-member.self.values (i, z)) _ _
          c.loop-member-test.true (c.loop-member.invariant.values_are i z)
          (c.in_ok-add_value.ensures.values i z
          ∙ ap (λ (v : Option ℤ). contains same_pair c.loop-member.self.values (i, z)
          || (nat_eq i c.args.place && is_value v z)) value);
    }

pub returns-clause-values : goal.returns-clause-values
returns-clause-values c = λ i z.
    c.loop-member.invariant.values_are i z
    ∙ ap (λ (ms : List MembItem). contains same_pair c.args.self.now.values (i, z)
    || (nat_eq i c.args.place && members_have c.args.constants.now ms z))
    (take_all c.loop-member.member-index c.args.members.now c.loop-member-test.false)
