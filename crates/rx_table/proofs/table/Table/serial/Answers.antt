use Rattle.std.proofs.Common.{◌≡◌, refl, arith}
use Rattle.rx_table.proofs.KeptLaws.{count_is, kept-set, on_record, place-set, within_list}
use Rattle.rx_table.specs.Records.{next_serial}
use Rattle.rx_table.proofs.UseLaws.{uses_kept}
use Rattle.rx_table.proofs.table.Table.serial.Goals as goal

pub index_mut-conn-requires : goal.index_mut-conn-requires
index_mut-conn-requires c = let e = count_is _ _ _ _ c.self.view_is in omega (arith, e)

pub invariant_of-self : goal.invariant_of-self
invariant_of-self c = (
  kept-set _ _ _ _ _ _ _ _ c.index_mut-conn.ensures.value refl c.self.invariant.0,
  c.self.invariant.1,
  c.self.invariant.2,
  uses_kept _ _ _ _ c.index_mut-conn.result.now _ (within_list _ _ _ _ _ c.self.view_is c.requires)
      c.index_mut-conn.ensures.value refl
      c.self.invariant.3,
)

pub returns-clause-drawn : goal.returns-clause-drawn
returns-clause-drawn c =
    on_record _ _ _ _ _ _ (λ r. next_serial c.index_mut-conn.result.now.serial ≡ next_serial r.serial)
    c.self.view_is c.requires c.index_mut-conn.ensures.value refl

pub returns-clause-updates : goal.returns-clause-updates
returns-clause-updates c =
    place-set _ _ _ _ _ _ (λ r. record r { serial = next_serial r.serial }) _
    c.self.view_is c.requires c.index_mut-conn.ensures.value (λ us. refl)
