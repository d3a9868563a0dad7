use Rattle.std.proofs.Common.{◌∙◌}
use Rattle.xg_lex.proofs.Numbers.{numeral_parsed}
use Rattle.xg_lex.proofs.number.numeral.Goals as goal

pub returns : goal.returns
returns c = c.ok.ensures.value ∙ numeral_parsed _ _ _ c.requires.digits c.from_str_radix.ensures.value
