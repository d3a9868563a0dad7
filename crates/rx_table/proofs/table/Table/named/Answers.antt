use Rattle.std.proofs.Common.{◌≡◌, refl, arith}
use Rattle.rx_table.proofs.KeptLaws.{count_is, on_record}
use Rattle.rx_table.proofs.table.Table.named.Goals as goal

pub index-conn-requires : goal.index-conn-requires
index-conn-requires c = let e = count_is _ _ _ _ c.self.view_is in omega (arith, e)

pub returns : goal.returns
returns c =
    let conn = c.index-conn.result.now in
    on_record _ _ _ _ _ _
    (λ r. (conn.host, conn.epoch, conn.cid) ≡ (r.connection.host, r.connection.epoch, r.connection.cid))
    c.self.view_is c.requires c.index-conn.ensures refl
