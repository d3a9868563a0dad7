use Rattle.std.proofs.Common.{refl, arith, true}
use Rattle.rx_table.proofs.KeptLaws.{count_is, kept-set, place-set, within_list}
use Rattle.rx_table.proofs.UseLaws.{uses_kept}
use Rattle.rx_table.proofs.table.Table.prove.Goals as goal

pub index_mut-requires : goal.index_mut-requires
index_mut-requires c = let e = count_is _ _ _ _ c.self.view_is in omega (arith, e)

pub invariant_of-self : goal.invariant_of-self
invariant_of-self c = (
  kept-set _ _ _ _ _ _ _ _ c.index_mut.ensures.value refl c.self.invariant.0,
  c.self.invariant.1,
  c.self.invariant.2,
  uses_kept _ _ _ _ c.index_mut.result.now _ (within_list _ _ _ _ _ c.self.view_is c.requires) c.index_mut.ensures.value
      refl
      c.self.invariant.3,
)

pub returns : goal.returns
returns c =
    place-set _ _ _ _ _ _ (λ r. record r { proved = true }) _
    c.self.view_is c.requires c.index_mut.ensures.value (λ us. refl)
