use Rattle.std.proofs.Common.{◌≡◌, drop, map}
use Rattle.serde_json.specs.View.{members_view}
use Rattle.xdr_value.specs.View.{part_of}
use Rattle.xdr_json.specs.Judging.{all_there}
use Rattle.xdr_json.proofs.objects.all_there.Given as goal

abbrev pub invariant-loop-field : goal.invariant-loop-field
invariant-loop-field l =
    all_there (map part_of (drop l.field-index l.field-items)) (members_view l.members.entries)
    ≡ all_there (map part_of l.fields.items) (members_view l.members.entries)
