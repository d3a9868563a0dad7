use Rattle.std.proofs.Common.{◌≡◌, ◌<◌, ℕ, true, Some, nat_eq}
use Rattle.std.specs.HashSet.{contains}
use Rattle.xg_check.specs.Counting.{number_at, StandsAgain}
use Rattle.xg_check.proofs.opcodes.first_twice.Given as goal

abbrev pub invariant-loop-opcode : goal.invariant-loop-opcode
invariant-loop-opcode l = record {
  met_before : (k q : ℕ) → k < l.opcode-index → number_at l.opcodes k ≡ Some q → contains nat_eq l.met q ≡ true;
  only_met : (q : ℕ) → contains nat_eq l.met q ≡ true
      → (k : ℕ) × (k < l.opcode-index) × (number_at l.opcodes k ≡ Some q);
  no_twice : (k : ℕ) → k < l.opcode-index → StandsAgain l.opcodes k → ⊥;
}
