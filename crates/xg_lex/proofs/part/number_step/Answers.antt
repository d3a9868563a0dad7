use Rattle.xg_lex.specs.Bytes.{is_in_number}
use Rattle.xg_lex.proofs.Runs.{run_boundary, run_passes, in_number_is_ascii}
use Rattle.xg_lex.proofs.part.number_step.Goals as goal

pub split_at-requires : goal.split_at-requires
split_at-requires c =
    rw (c.number_len-len.ensures.len, c.as_bytes.ensures.value)
    (run_boundary is_in_number in_number_is_ascii c.args.text.now c.utf8.text)

pub number_of-requires : goal.number_of-requires
number_of-requires c =
    rw (c.split_at.ensures.front, c.number_len-len.ensures.len, c.as_bytes.ensures.value)
    (run_passes is_in_number c.args.text.now)
