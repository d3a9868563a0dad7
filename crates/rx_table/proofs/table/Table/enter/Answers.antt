use Rattle.std.proofs.Common.{◌≡◌, Err, ap, arith}
use Rattle.rx_model.specs.Names.{Connection}
use Rattle.rx_table.specs.Layout.{name_in}
use Rattle.rx_table.proofs.KeptLaws.{count_is}
use Rattle.rx_table.proofs.EnterLaws.{asked, kept-push, records-push}
use Rattle.rx_table.proofs.UseLaws.{uses_entered}
use Rattle.rx_table.proofs.table.Table.enter.Goals as goal

pub returns-then-len-self-clause-full : goal.returns-then-len-self-clause-full
returns-then-len-self-clause-full c =
    let e = count_is _ _ _ _ c.self.view_is in
    let room = ap (λ t. t.room) c.self.view_is in
    (λ _. omega (arith, e, room, c.self.invariant.0.fits), λ _. λ i. Err (record {}))

pub invariant_of-self : goal.invariant_of-self
invariant_of-self c =
    let y : Connection = record { host = c.args.host; epoch = c.args.epoch; cid = c.args.cid } in
    let name : name_in c.fresh.result ≡ y = ap (λ r. r.connection) c.fresh.ensures in
    let kept = c.self.invariant.0 in (
      kept-push _ _ _ _ _ _ _ _ _ _ y _ c.self.view_is c.requires kept (omega arith) c.push_reserved.ensures.items
          c.push_fresh.ensures.items name
          (asked _ _ _ y _ _ _ c.of.ensures (omega arith) c.take.ensures.taken c.take.ensures.refused),
      omega arith,
      omega arith,
      uses_entered _ _ _ _ _ _ c.args.now c.fresh.result (omega arith) c.self.invariant.3 (omega arith) c.enter.ensures
          c.push_reserved.ensures.items (ap (λ r. r.last_use) c.fresh.ensures),
    )

pub enter-requires : goal.enter-requires
enter-requires c = let places = c.self.invariant.3.places in omega (arith, places)

pub returns-clause-full : goal.returns-clause-full
returns-clause-full c =
    let e = count_is _ _ _ _ c.self.view_is in
    let room = ap (λ t. t.room) c.self.view_is in
    (λ full. absurd cc, λ full. absurd (omega (arith, e, room, full)))

pub returns-clause-place : goal.returns-clause-place
returns-clause-place c = let e = count_is _ _ _ _ c.self.view_is in omega (arith, e)

pub returns-clause-ok : goal.returns-clause-ok
returns-clause-ok c =
    records-push _ _ _ _ _ _ _ _ _ _ c.self.view_is c.self.invariant.0.seated c.push_reserved.ensures.items
    c.push_fresh.ensures.items c.fresh.ensures
