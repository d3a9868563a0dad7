use Rattle.xg_lex.proofs.Runs.{past_is}
use Rattle.xg_lex.proofs.part.past_spaces.Goals as goal

pub returns-else-len-eq0 : goal.returns-else-len-eq0
returns-else-len-eq0 c = past_is _ _ _ c.space_len-len.ensures.len c.if-len-eq0.false
