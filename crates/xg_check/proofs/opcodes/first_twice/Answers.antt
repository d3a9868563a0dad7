use Rattle.std.proofs.Common.{◌≡◌, Some, None, nat_eq, get_or, option_and_then, ap, sym, ◌∙◌, arith}
use Rattle.std.specs.HashSet.{contains}
use Rattle.std.specs.List.{list_any}
use Rattle.std.proofs.lemmas.Bool.{false≢true}
use Rattle.std.proofs.lemmas.Option.{slice_get-get_or}
use Rattle.xg_check.specs.Constants.{in_32_bits}
use Rattle.xg_check.specs.Counting.{number_at}
use Rattle.xg_check.proofs.AgainLaws.{before_none, only_more, once_none, before_some, only_some, once_some, again_here}
use Rattle.xg_check.proofs.AgainLaws.{nowhere_again, is_fresh, is_met}
use Rattle.xg_check.proofs.opcodes.first_twice.Goals as goal
use Rattle.xg_check.proofs.opcodes.first_twice.Goals.{in-None, in-Some+in_ok-insert-in-Some+else-not-branch}

pub loop-opcode-init : goal.loop-opcode-init
loop-opcode-init c = record {
  met_before = λ k q lt e. absurd (omega (arith, lt));
  only_met = λ q e. absurd (false≢true (sym (ap (list_any (nat_eq q)) c.new-met.ensures.empty) ∙ e));
  no_twice = λ k lt t. absurd (omega (arith, lt));
}

pub loop-opcode-preserved : goal.loop-opcode-preserved
loop-opcode-preserved c =
    let ops = c.args.opcodes.now in
    let i = c.loop-opcode.opcode-index in
    let inv = c.loop-opcode.invariant in
    let at : number_at ops i ≡ in_32_bits (get_or ops i None) =
    ap (option_and_then in_32_bits) (slice_get-get_or ops i None c.loop-opcode-test.true) in
    elim c.match-number.branch [
      | in-None w ↦
          let none : number_at ops i ≡ None = at ∙ sym w.in-None.ensures in
          rw w.met-is (record {
            met_before = before_none ops i (contains nat_eq c.loop-opcode.met) none inv.met_before;
            only_met = only_more ops i (contains nat_eq c.loop-opcode.met) inv.only_met;
            no_twice = once_none ops i none inv.no_twice;
          })
      | in-Some+in_ok-insert-in-Some+else-not-branch w ↦
          let n = w.in-Some.number in
          let here : number_at ops i ≡ Some n = at ∙ sym w.in-Some.ensures in
          let old = contains nat_eq c.loop-opcode.met in
          let new = contains nat_eq w.insert.new.self in
          let made = w.in_ok-insert-in-Some.ensures.updates.0 in
          rw w.met-is (record {
            met_before = before_some ops i n here old new made inv.met_before;
            only_met = only_some ops i n here old new made inv.only_met;
            no_twice = once_some ops i n here old new made
                (is_fresh _ (old n) w.in_ok-insert-in-Some.ensures.added w.if-not-branch.false)
                inv.met_before inv.no_twice;
          })
    ]

pub returns-then-not-branch : goal.returns-then-not-branch
returns-then-not-branch c =
    let ops = c.args.opcodes.now in
    let i = c.loop-opcode.opcode-index in
    let n = c.in-Some.number in
    let inv = c.loop-opcode.invariant in
    let here : number_at ops i ≡ Some n =
    ap (option_and_then in_32_bits) (slice_get-get_or ops i None c.loop-opcode-test.true) ∙ sym c.in-Some.ensures in
    let old = contains nat_eq c.loop-opcode.met in
    let was = is_met _ (old n) c.in_ok-insert-in-Some.ensures.added c.if-not-branch.true in
    (i, (again_here ops i n old here was inv.only_met, inv.no_twice), here)

pub returns : goal.returns
returns c =
    nowhere_again c.args.opcodes.now c.loop-opcode.opcode-index c.loop-opcode-test.false
    c.loop-opcode.invariant.no_twice
