use Rattle.std.proofs.Common.{◌≡◌, ◌++◌, drop}
use Rattle.xdr_value.specs.View.{values_of}
use Rattle.xdr_code.specs.Words.{AreRows, rows_spelling}
use Rattle.xdr_code.proofs.words.put_rows.Given as goal

abbrev pub invariant-loop-item : goal.invariant-loop-item
invariant-loop-item l = record {
  fits : AreRows (values_of (drop l.item-index l.items));
  told : l.out.items ++ rows_spelling (values_of (drop l.item-index l.items)) ≡ l.fn.out.items ++ rows_spelling
      (values_of l.items);
}
