-- The way to a union's tag. No public clause cites this module.
use Rattle.std.specs.Prelude.{ℕ}
use Rattle.xdr_value.specs.Data.{Kind, Types}
use Rattle.xdr_value.specs.View.{kind_of}
use Rattle.xdr_json.specs.Judging.{tag_kind_within}
use Rattle.xdr_json.specs.declared.objects.TagStep.{TagStep}
use Rattle.xdr_json.specs.declared.objects.TagStep.TheVariants.{Tag, Next}

-- the tag's type, or that of the next where at most n names are followed
abbrev pub stepped : ℕ → Types → TagStep → Kind
stepped n t (Tag k) = kind_of k.now
stepped n t (Next k) = tag_kind_within n t (kind_of k.now)
