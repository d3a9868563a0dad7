use Rattle.std.proofs.Common.{◌≡◌, ◌++◌, length}
use Rattle.xdr_value.specs.View.{values_of}
use Rattle.xdr_code.specs.Words.{AreWords, words_spelling}
use Rattle.xdr_code.proofs.words.put_many.Given as goal

abbrev pub invariant-loop-eight : goal.invariant-loop-eight
invariant-loop-eight l = record {
  fits : AreWords (values_of l.rest);
  told : l.out.items ++ words_spelling (values_of l.rest) ≡ l.fn.out.items ++ words_spelling (values_of l.items);
}

abbrev pub decreases-loop-eight : goal.decreases-loop-eight
decreases-loop-eight l = length l.rest
