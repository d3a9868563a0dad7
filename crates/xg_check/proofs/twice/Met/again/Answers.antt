use Rattle.std.proofs.Common.{◌≡◌, Some, refl, ap, sym, ◌∙◌}
use mir.Val.{to_z, of_z, SFits}
use mir.Syntax.{w128}
use Rattle.std.proofs.Math.Facts.{to_z-of_z}
use Rattle.xg_check.specs.declared.marks.Mark.TheVariants as marks
use Rattle.xg_check.specs.Marks.{uses_type, uses_constant, valued, sized, enum_type, struct_type, union_type}
use Rattle.xg_check.proofs.MetLaws.{meets_no_case, meets_other, no_case_met, other_met}
use Rattle.xg_check.proofs.twice.Met.again.Goals as goal

pub returns-in_ok-meet-in-Name : goal.returns-in_ok-meet-in-Name
returns-in_ok-meet-in-Name c =
    let e : c.args.mark ≡ marks.Name c.in-Name.space c.in-Name.name = cc in
    rw e (λ front is. c.in_ok-meet-in-Name.ensures c.args.constants.now front is)

pub returns-in-None : goal.returns-in-None
returns-in-None c =
    let e : c.args.mark ≡ marks.Case c.in-Case.item c.in-Case.name c.in-Case.tag c.in-Case.case = cc in
    rw e (λ front is. (
      meets_no_case c.args.constants.now front c.args.self.now is c.in-Case.item c.in-Case.name.now c.in-Case.tag.now
          c.in-Case.case.now (sym c.in-None.ensures.value),
      no_case_met c.args.constants.now front c.in-Case.item c.in-Case.name.now c.in-Case.tag.now c.in-Case.case.now
          (sym c.in-None.ensures.value),
    ))

pub returns-in_ok-meet_case-in-Some : goal.returns-in_ok-meet_case-in-Some
returns-in_ok-meet_case-in-Some c =
    let e : c.args.mark ≡ marks.Case c.in-Case.item c.in-Case.name c.in-Case.tag c.in-Case.case = cc in
    let t = rw c.in-Some.is at c.value.type_inv in
    let small : SFits w128 c.in-Some.value = record { sfits = assumption t } in
    let fit : to_z w128 (of_z w128 c.in-Some.value) ≡ c.in-Some.value = to_z-of_z small in
    rw e (λ front is. c.in_ok-meet_case-in-Some.ensures c.args.constants.now front c.in-Case.name.now c.in-Case.tag.now
    c.in-Case.case.now (sym c.in-Some.ensures.value ∙ ap Some (sym fit)) is)

pub returns-in-Type : goal.returns-in-Type
returns-in-Type c =
    let e : c.args.mark ≡ marks.Type c.in-Type.field-0 = cc in
    rw e (λ front is. (
      meets_other c.args.constants.now front c.args.self.now is (uses_type c.in-Type.field-0.now)
          (λ s q. refl) (λ i z. refl),
      other_met c.args.constants.now front (uses_type c.in-Type.field-0.now) (λ o. refl),
    ))

pub returns-in-Number : goal.returns-in-Number
returns-in-Number c =
    let e : c.args.mark ≡ marks.Number c.in-Number.field-0 = cc in
    rw e (λ front is. (
      meets_other c.args.constants.now front c.args.self.now is (uses_constant c.in-Number.field-0.now)
          (λ s q. refl) (λ i z. refl),
      other_met c.args.constants.now front (uses_constant c.in-Number.field-0.now) (λ o. refl),
    ))

pub returns-in-Constant : goal.returns-in-Constant
returns-in-Constant c =
    let e : c.args.mark ≡ marks.Constant c.in-Constant.name c.in-Constant.is_member = cc in
    rw e (λ front is. (
      meets_other c.args.constants.now front c.args.self.now is (valued c.in-Constant.name.now c.in-Constant.is_member)
          (λ s q. refl) (λ i z. refl),
      other_met c.args.constants.now front (valued c.in-Constant.name.now c.in-Constant.is_member) (λ o. refl),
    ))

pub returns-in-Sized : goal.returns-in-Sized
returns-in-Sized c =
    let e : c.args.mark ≡ marks.Sized c.in-Sized.field-0 = cc in
    rw e (λ front is. (
      meets_other c.args.constants.now front c.args.self.now is (sized c.in-Sized.field-0.now)
          (λ s q. refl) (λ i z. refl),
      other_met c.args.constants.now front (sized c.in-Sized.field-0.now) (λ o. refl),
    ))

pub returns-in-Enum : goal.returns-in-Enum
returns-in-Enum c =
    let e : c.args.mark ≡ marks.Enum c.in-Enum.name c.in-Enum.members = cc in
    rw e (λ front is. (
      meets_other c.args.constants.now front c.args.self.now is (enum_type c.in-Enum.name.now c.in-Enum.members.now)
          (λ s q. refl) (λ i z. refl),
      other_met c.args.constants.now front (enum_type c.in-Enum.name.now c.in-Enum.members.now) (λ o. refl),
    ))

pub returns-in-Struct : goal.returns-in-Struct
returns-in-Struct c =
    let e : c.args.mark ≡ marks.Struct c.in-Struct.field-0 = cc in
    rw e (λ front is. (
      meets_other c.args.constants.now front c.args.self.now is (struct_type c.in-Struct.field-0.now)
          (λ s q. refl) (λ i z. refl),
      other_met c.args.constants.now front (struct_type c.in-Struct.field-0.now) (λ o. refl),
    ))

pub returns-in-Union : goal.returns-in-Union
returns-in-Union c =
    let e : c.args.mark ≡ marks.Union c.in-Union.name c.in-Union.tag c.in-Union.arms c.in-Union.has_default = cc in
    rw e (λ front is. (
      meets_other c.args.constants.now front c.args.self.now is
          (union_type c.in-Union.name.now c.in-Union.tag.now c.in-Union.arms.now c.in-Union.has_default)
          (λ s q. refl) (λ i z. refl),
      other_met c.args.constants.now front
          (union_type c.in-Union.name.now c.in-Union.tag.now c.in-Union.arms.now c.in-Union.has_default) (λ o. refl),
    ))
