use Rattle.std.proofs.Common.{None, sym}
use Rattle.std.proofs.lemmas.Str.Pattern.{strip_prefix_char}
use Rattle.rx_script.proofs.WordLemmas.{name_word_plain}
use Rattle.rx_script.proofs.words.name_in.Goals as goal

pub returns-in_default : goal.returns-in_default
returns-in_default c =
    let plain = strip_prefix_char c.args.sigil c.args.word.now None c.in_default.ensures.cases c.requires in
    sym (name_word_plain c.args.sigil c.args.word.now plain)
