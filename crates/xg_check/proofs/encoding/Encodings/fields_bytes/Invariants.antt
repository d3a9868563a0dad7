use Rattle.std.proofs.Common.{◌≡◌, ◌≤◌, ◌+◌, ℕ, Option, Some, drop, option_map}
use Rattle.xg_check.specs.Encodings.{both, word_bytes, decls_bytes}
use Rattle.xg_check.specs.Held.{capped, IsCapped}
use Rattle.xg_check.proofs.encoding.Encodings.fields_bytes.Given as goal

abbrev pub invariant-loop-field : goal.invariant-loop-field
invariant-loop-field l = record {
  small : l.sum ≤ 65537;
  sum_is : (held : ℕ → Option ℕ) → IsCapped held l.self.least.items
      → option_map capped (both (λ m n. m + n) (Some l.sum)
      (decls_bytes (word_bytes held l.types) l.constants (drop l.field-index l.fields)))
      ≡ option_map capped (decls_bytes (word_bytes held l.types) l.constants l.fields);
}
