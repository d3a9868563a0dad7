use Rattle.std.proofs.Common.{◌≡◌, ◌+◌, ◌-◌, ◌^◌, ℕ, min, List, Option, Some, None, option_map, ap, sym, ◌∙◌}
use Rattle.xg_parse.specs.declared.tree.ArmItem.{ArmItem}
use Rattle.xg_check.specs.Encodings.{word_bytes, arms_bytes, default_bytes}
use Rattle.xg_check.specs.Held.{capped}
use Rattle.xg_check.proofs.ByteLaws.{union_none, union_some}
use Rattle.xg_check.proofs.encoding.Encodings.part_bytes.Goals as goal
use Rattle.xg_check.proofs.encoding.Encodings.part_bytes.Goals.{in-None, in-Some+in_ok-last-in-Some}

pub returns-in_err-last-in-Some : goal.returns-in_err-last-in-Some
returns-in_err-last-in-Some c = λ held cap.
    let cs = c.args.constants.now in
    let none : c.from_residual-in_err-last-in-Some.result ≡ None = cc in
    let at = c.in_err-last-in-Some.ensures held cap in
    let last : None ≡ option_map capped (default_bytes (word_bytes held c.args.types.now) cs c.in-Union.otherwise) =
    at ∙ ap (λ (o : Option ArmItem). option_map capped (default_bytes (word_bytes held c.args.types.now) cs o))
    (sym c.in-Some.is) in
    rw c.in-Union.is (none ∙ union_none (word_bytes held c.args.types.now c.in-Union.tag)
    (arms_bytes (word_bytes held c.args.types.now) cs c.in-Union.arms)
    (default_bytes (word_bytes held c.args.types.now) cs c.in-Union.otherwise) last)

pub returns-after-otherwise : goal.returns-after-otherwise
returns-after-otherwise c = λ held cap.
    let cs = c.args.constants.now in
    let arms = c.in_ok-most-in-Union.ensures held cap
    ∙ ap (λ (xs : List ArmItem). option_map capped (arms_bytes (word_bytes held c.args.types.now) cs xs))
    c.as_slice.ensures in
    let last : Some c.match-otherwise.last ≡ option_map capped
    (default_bytes (word_bytes held c.args.types.now) cs c.in-Union.otherwise) =
    elim c.match-otherwise.branch [
      | in-None v ↦ ap Some v.last-is
          ∙ ap (λ (o : Option ArmItem). option_map capped (default_bytes (word_bytes held c.args.types.now) cs o))
          (sym v.in-None.is)
      | in-Some+in_ok-last-in-Some v ↦ ap Some v.last-is ∙ v.in_ok-last-in-Some.ensures held cap
          ∙ ap (λ (o : Option ArmItem). option_map capped (default_bytes (word_bytes held c.args.types.now) cs o))
          (sym v.in-Some.is)
    ] in
    rw c.in-Union.is (union_some (word_bytes held c.args.types.now c.in-Union.tag)
    (arms_bytes (word_bytes held c.args.types.now) cs c.in-Union.arms)
    (default_bytes (word_bytes held c.args.types.now) cs c.in-Union.otherwise)
    c.in_ok-tag-in-Union.tag c.in_ok-most-in-Union.most c.match-otherwise.last c.saturating_add.result c.capped.result
    (c.in_ok-tag-in-Union.ensures held cap) arms last
    (c.saturating_add.ensures ∙ ap (λ (m : ℕ). min (c.in_ok-tag-in-Union.tag + m) (2 ^ 64 - 1)) c.max.ensures)
    c.capped.ensures)
