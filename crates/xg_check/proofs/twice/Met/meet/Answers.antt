use Rattle.std.proofs.Common.{◌≡◌}
use Rattle.xg_check.specs.declared.marks.Space.TheVariants as spaces
use Rattle.xg_check.proofs.MetLaws.{meets_type, meets_constant, meets_procedure, meets_listed, was_in}
use Rattle.xg_check.proofs.twice.Met.meet.Goals as goal

pub returns-in_ok-insert-in-Type : goal.returns-in_ok-insert-in-Type
returns-in_ok-insert-in-Type c =
    let e : c.args.space ≡ spaces.Type = cc in
    rw e (λ cs front is. (
      meets_type cs front c.args.self.now is c.args.name.now _ (λ q. c.in_ok-insert-in-Type.ensures.updates.0 q),
      was_in _ _ _ c.in_ok-insert-in-Type.ensures.added (is.types c.args.name),
    ))

pub returns-in_ok-insert-in-Constant : goal.returns-in_ok-insert-in-Constant
returns-in_ok-insert-in-Constant c =
    let e : c.args.space ≡ spaces.Constant = cc in
    rw e (λ cs front is. (
      meets_constant cs front c.args.self.now is c.args.name.now _
          (λ q. c.in_ok-insert-in-Constant.ensures.updates.0 q),
      was_in _ _ _ c.in_ok-insert-in-Constant.ensures.added (is.constants c.args.name),
    ))

pub returns-in_ok-insert-in-Procedure : goal.returns-in_ok-insert-in-Procedure
returns-in_ok-insert-in-Procedure c =
    let e : c.args.space ≡ spaces.Procedure = cc in
    rw e (λ cs front is. (
      meets_procedure cs front c.args.self.now is c.args.name.now _
          (λ q. c.in_ok-insert-in-Procedure.ensures.updates.0 q),
      was_in _ _ _ c.in_ok-insert-in-Procedure.ensures.added (is.procedures c.args.name),
    ))

pub returns-in_ok-insert-in-List : goal.returns-in_ok-insert-in-List
returns-in_ok-insert-in-List c =
    let e : c.args.space ≡ spaces.List c.in-List.item = cc in
    rw e (λ cs front is. (
      meets_listed cs front c.args.self.now is c.in-List.item c.args.name.now _
          (λ i q. c.in_ok-insert-in-List.ensures.updates.0 (i, q)),
      was_in _ _ _ c.in_ok-insert-in-List.ensures.added (is.listed c.in-List.item c.args.name),
    ))
