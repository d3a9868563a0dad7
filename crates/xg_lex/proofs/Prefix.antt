-- How far a run goes.
use Rattle.std.proofs.Common.{ℕ, ◌≤◌, Bool, List, length}
use Rattle.std.specs.List.{prefix_len}
use Rattle.std.proofs.lemmas.List.Sums.{prefix_len-le-length, count_by-le-length}
use Rattle.xg_lex.specs.Grammar.{line_feeds}

-- it ends within the bytes
pub prefix_within : (test : ℕ → Bool) (bytes : List ℕ) → prefix_len test bytes ≤ length bytes
prefix_within test bytes = prefix_len-le-length test bytes

-- and so does a count of line feeds
pub feeds_within : (bytes : List ℕ) → line_feeds bytes ≤ length bytes
feeds_within bytes = count_by-le-length _ bytes
