use Rattle.std.proofs.Common.{◌≡◌, refl, arith}
use Rattle.rx_table.proofs.KeptLaws.{count_is, on_record}
use Rattle.rx_table.proofs.table.Table.proved.Goals as goal

pub index-requires : goal.index-requires
index-requires c = let e = count_is _ _ _ _ c.self.view_is in omega (arith, e)

pub returns : goal.returns
returns c =
    on_record _ _ _ _ _ _ (λ r. c.index.result.now.proved ≡ r.proved) c.self.view_is c.requires c.index.ensures refl
