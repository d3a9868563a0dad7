use Rattle.std.proofs.Common.{◌≡◌, drop, map}
use Rattle.xdr_value.specs.View.{types_of, part_of}
use Rattle.xdr_value.specs.Facts.{part_kinds}
use Rattle.xdr_value.specs.Tests.{kinds_known}
use Rattle.xdr_value.proofs.names.fields_known.Given as goal

abbrev pub invariant-loop-field : goal.invariant-loop-field
invariant-loop-field l = kinds_known (types_of l.types) (part_kinds (map part_of (drop l.field-index l.field-items))) ≡
    kinds_known (types_of l.types) (part_kinds (map part_of l.fields.items))
