use Rattle.rx_script.specs.Options.{option_text}
use Rattle.rx_script.proofs.WordLemmas.{strip_text}
use Rattle.rx_script.proofs.options.value_text.Goals as goal

pub returns : goal.returns
returns c =
    let cases = rw c.as_str.ensures at c.strip_prefix.ensures.cases in
    strip_text c.strip_prefix.result (option_text c.args.name) c.args.word.now cases
