use Rattle.std.proofs.Common.{rules, ◌≡◌, sym, ap, ◌∙◌, map}
use Rattle.std.proofs.lemmas.List.{drop_all}
use Rattle.std.proofs.lemmas.Result.{err_from_is_err_and}
use Rattle.xdr_value.specs.Data.{end, more}
use Rattle.xdr_value.specs.HeadView.{head_view}
use Rattle.xdr_value.specs.declared.head.Head.TheVariants as heads
use Rattle.xdr_value.specs.declared.ty.Basic.TheVariants as basics
use Rattle.xdr_value.specs.View.{kind_of, types_of, value_of, values_of, part_of}
use Rattle.xdr_code.specs.Reading.{elements_at, parts_at, value_at}
use Rattle.xdr_value.proofs.Lists.{append, in_left, values_of-push}
use Rattle.xdr_code.proofs.Loop.{elements_go_on, elements_end, elements_done, parts_go_on, parts_end, parts_done}
use Rattle.xdr_code.proofs.Plain.{plain_at, plain_head, int_kind, uint_kind}
use Rattle.xdr_code.proofs.reading.+value.Goals as goal

pub elements_in-returns : goal.elements_in-returns
elements_in-returns t c = elements_done (value_at c.args.levels (types_of c.args.iface.now.types.items))
    (kind_of c.args.of.now)
    (values_of c.loop.items.items) c.args.n c.loop.counter c.loop.rest.now
    (elements_at (value_at c.args.levels (types_of c.args.iface.now.types.items)) (kind_of c.args.of.now) c.args.n
    c.args.bytes.now) c.loop-test.false c.loop.invariant

pub parts-returns : goal.parts-returns
parts-returns t c =
    let read = value_at c.args.levels (types_of c.args.iface.now.types.items) in
    parts_done read (values_of c.loop-field.items.items) _ c.loop-field.rest.now
    (parts_at read (map part_of c.args.fields.now.items) c.args.bytes.now)
    (ap (map part_of) (drop_all c.loop-field.field-index c.deref-field-items.result.now c.loop-field-test.false))
    c.loop-field.invariant

pub part_onto-returns-in-Int : goal.part_onto-returns-in-Int
part_onto-returns-in-Int t c =
    let is = plain_head (types_of c.args.iface.now.types.items) (kind_of c.args.ty.now) basics.Int
    (ap kind_of c.in-Int.is ∙ int_kind) in
    rw (plain_at c.args.levels (types_of c.args.iface.now.types.items) (kind_of c.args.ty.now) basics.Int
    c.args.bytes.now is)
    c.int_onto.ensures

pub part_onto-returns-in-Uint : goal.part_onto-returns-in-Uint
part_onto-returns-in-Uint t c =
    let is = plain_head (types_of c.args.iface.now.types.items) (kind_of c.args.ty.now) basics.Uint
    (ap kind_of c.in-Uint.is ∙ uint_kind) in
    rw (plain_at c.args.levels (types_of c.args.iface.now.types.items) (kind_of c.args.ty.now) basics.Uint
    c.args.bytes.now is)
    c.uint_onto.ensures

pub element_onto-returns-in-Basic-Int : goal.element_onto-returns-in-Basic-Int
element_onto-returns-in-Basic-Int t c = λ k same.
    let is : c.args.head ≡ heads.Basic basics.Int = search rules in
    rw (plain_at c.args.levels (types_of c.args.iface.now.types.items) k basics.Int c.args.bytes.now
    (sym same ∙ ap head_view is))
    c.int_onto.ensures

pub element_onto-returns-in-Basic-Uint : goal.element_onto-returns-in-Basic-Uint
element_onto-returns-in-Basic-Uint t c = λ k same.
    let is : c.args.head ≡ heads.Basic basics.Uint = search rules in
    rw (plain_at c.args.levels (types_of c.args.iface.now.types.items) k basics.Uint c.args.bytes.now
    (sym same ∙ ap head_view is))
    c.uint_onto.ensures

pub elements_in-loop-preserved : goal.elements_in-loop-preserved
elements_in-loop-preserved t c =
    let a = c.in_ok-rest.ensures (kind_of c.args.of.now) c.resolve-head.ensures in
    let e : values_of c.element_onto.new.items.items ≡ append (values_of c.loop.items.items)
    (more (value_of a.0) end) = rw a.1 (values_of-push c.loop.items.items a.0) in
    rw e (elements_go_on (value_at c.args.levels (types_of c.args.iface.now.types.items)) (kind_of c.args.of.now)
    (values_of c.loop.items.items) c.args.n c.loop.counter c.loop.rest.now (value_of a.0) c.in_ok-rest.rest.now
    (elements_at (value_at c.args.levels (types_of c.args.iface.now.types.items)) (kind_of c.args.of.now) c.args.n
    c.args.bytes.now) c.loop-test.true a.2 c.loop.invariant)

pub elements_in-returns-in_err-rest : goal.elements_in-returns-in_err-rest
elements_in-returns-in_err-rest t c =
    let p = err_from_is_err_and c.from_residual.result c.from_residual.ensures.1 in
    rw (p.1, p.2) (elements_end (value_at c.args.levels (types_of c.args.iface.now.types.items)) (kind_of c.args.of.now)
    c.in_err-rest.field-0.0 (values_of c.loop.items.items) c.args.n c.loop.counter c.loop.rest.now
    (elements_at (value_at c.args.levels (types_of c.args.iface.now.types.items)) (kind_of c.args.of.now) c.args.n
    c.args.bytes.now) c.loop-test.true (c.in_err-rest.ensures (kind_of c.args.of.now) c.resolve-head.ensures)
    c.loop.invariant)

pub parts-returns-in_err-rest : goal.parts-returns-in_err-rest
parts-returns-in_err-rest t c =
    let p = err_from_is_err_and c.from_residual-in_err-rest.result c.from_residual-in_err-rest.ensures.1 in
    let read = value_at c.args.levels (types_of c.args.iface.now.types.items) in
    let left = in_left c.deref-field-items.result.now c.loop-field.field-index c.field-item.result
    c.loop-field-test.true c.field-item.is in
    rw (p.1, p.2) (parts_end read c.in_err-rest.field-0.0 (values_of c.loop-field.items.items)
    (part_of c.field-item.result) _ _
    c.loop-field.rest.now (parts_at read (map part_of c.args.fields.now.items) c.args.bytes.now)
    (ap (map part_of) left)
    c.in_err-rest.ensures c.loop-field.invariant)

pub parts-loop-field-preserved : goal.parts-loop-field-preserved
parts-loop-field-preserved t c =
    let a = c.in_ok-rest.ensures in
    let e : values_of c.part_onto.new.items.items ≡ append (values_of c.loop-field.items.items)
    (more (value_of a.0) end) = rw a.1 (values_of-push c.loop-field.items.items a.0) in
    let read = value_at c.args.levels (types_of c.args.iface.now.types.items) in
    let left = in_left c.deref-field-items.result.now c.loop-field.field-index c.field-item.result
    c.loop-field-test.true c.field-item.is in
    rw e (parts_go_on read (values_of c.loop-field.items.items) (part_of c.field-item.result) _ _ c.loop-field.rest.now
    (value_of a.0) c.in_ok-rest.rest.now
    (parts_at read (map part_of c.args.fields.now.items) c.args.bytes.now)
    (ap (map part_of) left) a.2 c.loop-field.invariant)
