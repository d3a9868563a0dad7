use Rattle.std.proofs.Common.{◌≡◌, ◌++◌, drop}
use Rattle.xdr_value.specs.View.{values_of}
use Rattle.xdr_code.specs.Words.{AreWords, words_spelling}
use Rattle.xdr_code.proofs.words.put_each.Given as goal

abbrev pub invariant-loop-item : goal.invariant-loop-item
invariant-loop-item l = record {
  fits : AreWords (values_of (drop l.item-index l.items));
  told : l.out.items ++ words_spelling (values_of (drop l.item-index l.items)) ≡ l.fn.out.items ++ words_spelling
      (values_of l.items);
}
