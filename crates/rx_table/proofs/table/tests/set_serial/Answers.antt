use Rattle.std.proofs.Common.{refl, arith}
use Rattle.rx_table.proofs.KeptLaws.{count_is, kept-set, within_list}
use Rattle.rx_table.proofs.UseLaws.{uses_kept}
use Rattle.rx_table.proofs.table.tests.set_serial.Goals as goal

pub index_mut-requires : goal.index_mut-requires
index_mut-requires c = let e = count_is _ _ _ _ c.table.view_is in omega (arith, e)

pub invariant_of-table : goal.invariant_of-table
invariant_of-table c = (
  kept-set _ _ _ _ _ _ _ _ c.index_mut.ensures.value refl c.table.invariant.0,
  c.table.invariant.1,
  c.table.invariant.2,
  uses_kept _ _ _ _ c.index_mut.result.now _ (within_list _ _ _ _ _ c.table.view_is c.requires)
      c.index_mut.ensures.value
      refl c.table.invariant.3,
)
