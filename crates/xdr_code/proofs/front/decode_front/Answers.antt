use Rattle.xdr_value.specs.View.{kind_of, types_of, procs_of}
use Rattle.xdr_code.specs.Answers.{IsRead}
use Rattle.xdr_code.proofs.Exact.{tells, whole_only, deep_only, bad_only, short_only}
use Rattle.xdr_code.proofs.front.decode_front.Goals as goal

pub returns-clause-told : goal.returns-clause-told
returns-clause-told c =
    let e : IsRead (types_of c.args.iface.now.types.items) (kind_of c.args.ty.now) c.args.bytes.now
    c.exact_front.result = c.exact_front.ensures.exact in
    tells (types_of c.args.iface.now.types.items) (procs_of c.args.iface.now.procs.items) (kind_of c.args.ty.now)
    c.args.bytes.now c.exact_front.result c.args.iface.now.sound c.requires c.exact_front.ensures.bytes e

pub returns-clause-only : goal.returns-clause-only
returns-clause-only c =
    let e : IsRead (types_of c.args.iface.now.types.items) (kind_of c.args.ty.now) c.args.bytes.now
    c.exact_front.result = c.exact_front.ensures.exact in
    whole_only (types_of c.args.iface.now.types.items) (kind_of c.args.ty.now) c.args.bytes.now c.exact_front.result e

pub returns-clause-deep : goal.returns-clause-deep
returns-clause-deep c =
    let e : IsRead (types_of c.args.iface.now.types.items) (kind_of c.args.ty.now) c.args.bytes.now
    c.exact_front.result = c.exact_front.ensures.exact in
    deep_only (types_of c.args.iface.now.types.items) (kind_of c.args.ty.now) c.args.bytes.now c.exact_front.result e

pub returns-clause-refused : goal.returns-clause-refused
returns-clause-refused c =
    let e : IsRead (types_of c.args.iface.now.types.items) (kind_of c.args.ty.now) c.args.bytes.now
    c.exact_front.result = c.exact_front.ensures.exact in
    bad_only (types_of c.args.iface.now.types.items) (kind_of c.args.ty.now) c.args.bytes.now c.exact_front.result e

pub returns-clause-short : goal.returns-clause-short
returns-clause-short c =
    let e : IsRead (types_of c.args.iface.now.types.items) (kind_of c.args.ty.now) c.args.bytes.now
    c.exact_front.result = c.exact_front.ensures.exact in
    short_only (types_of c.args.iface.now.types.items) (kind_of c.args.ty.now) c.args.bytes.now c.exact_front.result e
