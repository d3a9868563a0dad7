use Rattle.std.proofs.Common.{◌≡◌, ◌+◌, ◌-◌, drop, option_map}
use Rattle.xg_lex.specs.Steps.{close_len}
use Rattle.xg_lex.proofs.part.close_len.Given as goal

-- the first is as far behind
abbrev pub invariant-loop-i : goal.invariant-loop-i
invariant-loop-i l = close_len l.bytes ≡ option_map (λ n. (l.i - 1) + n) (close_len (drop (l.i - 1) l.bytes))
