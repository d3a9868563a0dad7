use Rattle.std.proofs.Common.{◌≡◌, drop, map}
use Rattle.xdr_value.specs.View.{part_of}
use Rattle.xdr_code.specs.Words.{are_words}
use Rattle.xdr_code.proofs.words.are_words.Given as goal

abbrev pub invariant-loop-field : goal.invariant-loop-field
invariant-loop-field l = are_words (map part_of (drop l.field-index l.field-items)) ≡ are_words
    (map part_of l.fields.items)
