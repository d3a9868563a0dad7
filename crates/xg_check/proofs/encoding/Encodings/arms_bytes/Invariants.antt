use Rattle.std.proofs.Common.{◌≡◌, ◌≤◌, ℕ, Option, Some, drop, option_map, max}
use Rattle.xg_check.specs.Encodings.{both, word_bytes, arms_bytes}
use Rattle.xg_check.specs.Held.{capped, IsCapped}
use Rattle.xg_check.proofs.encoding.Encodings.arms_bytes.Given as goal

abbrev pub invariant-loop-arm : goal.invariant-loop-arm
invariant-loop-arm l = (held : ℕ → Option ℕ) → IsCapped held l.self.least.items
    → (l.most ≤ 65537) × (option_map capped (both max (Some l.most)
    (arms_bytes (word_bytes held l.types) l.constants (drop l.arm-index l.arms)))
    ≡ option_map capped (arms_bytes (word_bytes held l.types) l.constants l.arms))
