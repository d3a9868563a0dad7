use Rattle.std.proofs.Common.{◌≡◌, drop}
use Rattle.xg_check.specs.Encodings.{decls_hollow}
use Rattle.xg_check.specs.Held.{hollow_word}
use Rattle.xg_check.proofs.encoding.Encodings.fields_hollow.Given as goal

abbrev pub invariant-loop-field : goal.invariant-loop-field
invariant-loop-field l = decls_hollow (hollow_word l.self.hollow.items l.types) l.constants
    (drop l.field-index l.fields) ≡ decls_hollow (hollow_word l.self.hollow.items l.types) l.constants l.fields
