use Rattle.std.proofs.Common.{◌≡◌, true, None, sym, ◌∙◌}
use Rattle.std.specs.Result.{result_ok}
use Rattle.rx_words.specs.Numbers.{is_decimal}
use Rattle.rx_words.proofs.NumberLemmas.{number_within_unread}
use Rattle.rx_words.proofs.number.number_within.Goals as goal

pub returns-in_err-number-clause-read : goal.returns-in_err-number-clause-read
returns-in_err-number-clause-read c =
    let decimal : is_decimal c.args.word.now ≡ true = sym c.is_decimal.ensures ∙ c.if-not-is_decimal.false in
    let unread : result_ok c.parse.result ≡ None = sym c.ok.ensures.value ∙ c.in_err-number.was in
    let parsed = c.parse.ensures.value.0 in
    let none = number_within_unread 64 _ _ c.args.word.now c.parse.result decimal c.ranges.high.fits parsed unread in
    c.from_residual.ensures ∙ sym none
