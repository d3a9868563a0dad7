use Rattle.std.proofs.Common.{sym}
use Rattle.std.proofs.lemmas.List.{take_all}
use Rattle.stub_table.proofs.reading.looked_at.Goals as goal

pub returns-then-bytes-le-MAX_STREAM_BYTES : goal.returns-then-bytes-le-MAX_STREAM_BYTES
returns-then-bytes-le-MAX_STREAM_BYTES c = sym (take_all _ _ c.if-bytes-le-MAX_STREAM_BYTES.true)
