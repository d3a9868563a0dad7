use Rattle.xdr_value.specs.Spelling.{all_spelling}
use Rattle.xdr_value.specs.Fits.{count}
use Rattle.std.proofs.Common.{◌≡◌, ap, ◌∙◌, sym, arith, map}
use Rattle.xdr_value.specs.Data.{some}
use Rattle.xdr_value.specs.View.{kind_of, types_of, value_of, values_of, part_of}
use Rattle.xdr_value.specs.declared.value.Value.TheViews as views
use Rattle.xdr_value.proofs.Views.{value-some}
use Rattle.xdr_value.proofs.Lists.{count-values}
use Rattle.xdr_code.proofs.Writes.{counted_spelling, some_spelling}
use Rattle.xdr_code.proofs.WordLaws.{word_is, parts_are, all_are, rows_are}
use Rattle.xdr_code.proofs.writing.+put.Goals as goal

pub put_items-overflow_cast-len : goal.put_items-overflow_cast-len
put_items-overflow_cast-len t c =
    let f = rw c.in-ArrayUpTo.is at c.requires in
    omega (arith, c.len.ensures, c.args.items.now.ok.0, f.1, count-values c.args.items.now.items)

pub put_items-returns-in_ok-put_all-in-ArrayUpTo : goal.put_items-returns-in_ok-put_all-in-ArrayUpTo
put_items-returns-in_ok-put_all-in-ArrayUpTo t c =
    let len : c.len.result ≡ count (values_of c.args.items.now.items) = c.len.ensures ∙ c.args.items.now.ok.0 ∙ sym
    (count-values c.args.items.now.items) in
    rw c.in-ArrayUpTo.is (counted_spelling c.len.result (count (values_of c.args.items.now.items))
    c.args.out.now.items c.put_word.new.out.items c.put_all-in-ArrayUpTo.new.out.items
    (all_spelling (types_of c.args.iface.now.types.items) (kind_of c.in-ArrayUpTo.of.now)
    (values_of c.args.items.now.items)) len
    c.in_ok-put_word-in-ArrayUpTo.ensures c.in_ok-put_all-in-ArrayUpTo.ensures)

pub put_value-returns-in_ok-put_value-in-Maybe-resolve : goal.put_value-returns-in_ok-put_value-in-Maybe-resolve
put_value-returns-in_ok-put_value-in-Maybe-resolve t c =
    let is : value_of c.args.v.now ≡ some (value_of c.deref-in-Maybe-resolve.result.now) = ap value_of
    (c.in-Maybe.is ∙ ap views.Maybe c.in-Some.is) ∙ value-some c.in-Some.inner ∙ ap (λ v. some (value_of v))
    (sym c.deref-in-Maybe-resolve.ensures) in
    some_spelling (types_of c.args.iface.now.types.items) (kind_of c.args.ty.now) (kind_of c.in-Maybe-resolve.of.now)
    (value_of c.args.v.now) (value_of c.deref-in-Maybe-resolve.result.now) c.args.out.now.items
    c.put_word-in-Maybe-resolve.new.out.items c.put_value.new.out.items is c.in-Maybe-resolve.ensures
    c.in_ok-put_word-in-Maybe-resolve.ensures c.in_ok-put_value-in-Maybe-resolve.ensures

-- ---- words

pub put_value-put_one-requires : goal.put_value-put_one-requires
put_value-put_one-requires t c =
    (word_is (types_of c.args.iface.now.types.items) (kind_of c.args.ty.now) (value_of c.args.v.now)
    (sym c.is_word.ensures ∙ c.if-is_word.true) c.requires).0

pub put_value-returns-then-is_word : goal.put_value-returns-then-is_word
put_value-returns-then-is_word t c = rw (word_is (types_of c.args.iface.now.types.items) (kind_of c.args.ty.now)
    (value_of c.args.v.now) (sym c.is_word.ensures ∙ c.if-is_word.true) c.requires).1 c.put_one.ensures

pub put_parts-put_words-requires : goal.put_parts-put_words-requires
put_parts-put_words-requires t c = rw c.deref.ensures.value (parts_are (types_of c.args.iface.now.types.items)
    (map part_of c.args.fields.now.items) (values_of c.args.items.now.items)
    (sym c.are_words.ensures ∙ c.if-are_words.true) c.requires).0

pub put_parts-returns-then-are_words : goal.put_parts-returns-then-are_words
put_parts-returns-then-are_words t c = rw (
  (parts_are (types_of c.args.iface.now.types.items)
      (map part_of c.args.fields.now.items) (values_of c.args.items.now.items)
      (sym c.are_words.ensures ∙ c.if-are_words.true) c.requires).1,
  ← c.deref.ensures.value,
) c.put_words.ensures

pub put_all-put_words-requires : goal.put_all-put_words-requires
put_all-put_words-requires t c = rw c.deref.ensures.value
    (all_are (types_of c.args.iface.now.types.items) (kind_of c.args.of.now)
    (values_of c.args.items.now.items) (sym c.is_word.ensures ∙ c.if-is_word.true) c.requires).0

pub put_all-returns-then-is_word : goal.put_all-returns-then-is_word
put_all-returns-then-is_word t c = rw (
  (all_are (types_of c.args.iface.now.types.items) (kind_of c.args.of.now)
      (values_of c.args.items.now.items) (sym c.is_word.ensures ∙ c.if-is_word.true) c.requires).1,
  ← c.deref.ensures.value,
) c.put_words.ensures

pub put_all-put_rows-requires : goal.put_all-put_rows-requires
put_all-put_rows-requires t c = rw c.deref-then-are_words.ensures.value
    (rows_are (types_of c.args.iface.now.types.items)
    (kind_of c.args.of.now) (map part_of c.in-Struct.fields.now.items) (values_of c.args.items.now.items)
    c.in-Struct.ensures (sym c.are_words.ensures ∙ c.if-are_words.true) c.requires).0

pub put_all-returns-then-are_words : goal.put_all-returns-then-are_words
put_all-returns-then-are_words t c = rw (
  (rows_are (types_of c.args.iface.now.types.items) (kind_of c.args.of.now)
      (map part_of c.in-Struct.fields.now.items) (values_of c.args.items.now.items) c.in-Struct.ensures
      (sym c.are_words.ensures ∙ c.if-are_words.true) c.requires).1,
  ← c.deref-then-are_words.ensures.value,
)
    c.put_rows.ensures
