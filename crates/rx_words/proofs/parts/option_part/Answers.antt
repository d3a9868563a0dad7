use Rattle.std.proofs.Common.{◌≡◌, false, None, lit<}
use Rattle.std.proofs.lemmas.Str.Pattern.{split_once_first}
use Rattle.rx_words.specs.Parts.{has_value}
use Rattle.rx_words.proofs.PartLemmas.{list_any_unfound}
use Rattle.rx_words.proofs.parts.option_part.Goals as goal

pub returns-in-None : goal.returns-in-None
returns-in-None c =
    let none = split_once_first 61 c.args.text.now None c.in-None.ensures.cases (lit< tt) in
    let bare : has_value c.args.text.now ≡ false = list_any_unfound _ c.args.text.now none in
    rw bare c.value_part.ensures
