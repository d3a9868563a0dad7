use Rattle.std.proofs.Common.{◌≡◌, ◌-◌, ◌^◌, None, lit<, sym, ap, ◌∙◌, pos}
use Rattle.std.specs.Option.{option_map}
use Rattle.std.proofs.lemmas.Str.Pattern.{strip_prefix_char}
use Rattle.rx_script.specs.Numbers.{number_within}
use Rattle.rx_script.specs.declared.marks.TheConstants.{MINUS}
use Rattle.rx_script.proofs.NumberLemmas.{code_in_plain}
use Rattle.rx_script.proofs.number.code_in.Goals as goal

pub returns-in_err-above-in-None : goal.returns-in_err-above-in-None
returns-in_err-above-in-None c =
    let plain = strip_prefix_char MINUS c.args.word.now None c.in-None.ensures.cases (lit< tt) in
    let above : number_within 0 (2 ^ 31 - 1) c.args.word.now ≡ None =
    sym c.number_within-in-None.ensures ∙ c.in_err-above-in-None.was in
    c.from_residual-in_err-above-in-None.ensures ∙ sym (code_in_plain c.args.word.now plain ∙ ap (option_map pos) above)
