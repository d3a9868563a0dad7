use Rattle.std.proofs.Common.{◌≡◌, ◌≤◌, ◌+◌, ◌*◌, refl, ap, ◌∙◌, arith, length}
use Rattle.rx_model.specs.Names.{Connection}
use Rattle.rx_table.specs.Layout.{name_in}
use Rattle.rx_table.proofs.KeptLaws.{count_is}
use Rattle.rx_table.proofs.IdleLaws.{idle_within}
use Rattle.rx_table.proofs.EnterLaws.{asked, kept-replace, length-renewed, less_key, records-replace, seats_renewed}
use Rattle.rx_table.proofs.UseLaws.{uses_changed}
use Rattle.rx_table.proofs.table.Table.replace.Goals as goal

pub index-requires : goal.index-requires
index-requires c =
    let e = count_is _ _ _ _ c.self.view_is in
    let there = idle_within c.args.now c.args.position c.args.self.now c.requires.idle in
    omega (arith, e, there)

pub index_mut-requires : goal.index_mut-requires
index_mut-requires c =
    let e = count_is _ _ _ _ c.self.view_is in
    let there = idle_within c.args.now c.args.position c.args.self.now c.requires.idle in
    omega (arith, e, there)

pub renew-requires : goal.renew-requires
renew-requires c =
    let e = count_is _ _ _ _ c.self.view_is in
    let there = idle_within c.args.now c.args.position c.args.self.now c.requires.idle in
    omega (arith, e, there, c.self.invariant.0.seated, ap length c.deref_mut.ensures.value)

pub invariant_of-self : goal.invariant_of-self
invariant_of-self c =
    let y : Connection = record { host = c.args.host; epoch = c.args.epoch; cid = c.args.cid } in
    let name : name_in c.fresh.result ≡ y = ap (λ r. r.connection) c.fresh.ensures in
    let kept = c.self.invariant.0 in
    let e = count_is _ _ _ _ c.self.view_is in
    let there = idle_within c.args.now c.args.position c.args.self.now c.requires.idle in
    let first : c.args.position * 4 + 4 ≤ length c.self.inside.seats.items = omega (arith, e, there, kept.seated) in (
      kept-replace _ _ _ _ _ _ _ _ _ _ _ _ _ y _ c.self.view_is c.requires.absent kept
          (omega (arith, e, there)) c.index.ensures
          (less_key _ _ _ _ c.key.ensures c.forget.ensures) refl
          (ap length
          (seats_renewed c.self.inside.seats.items _ _ _ _ c.deref_mut.ensures.value (omega arith) first
          c.renew.ensures)
          ∙ length-renewed _ _ first)
          name
          (asked _ _ _ y _ _ _ c.of.ensures refl c.take.ensures.taken c.take.ensures.refused),
      c.self.invariant.1,
      c.self.invariant.2,
      uses_changed _ _ _ _ _ c.args.now c.fresh.result (omega (arith, e, there)) c.self.invariant.3 c.enter.ensures
          (ap (λ r. r.last_use) c.fresh.ensures),
    )

pub enter-requires : goal.enter-requires
enter-requires c =
    let e = count_is _ _ _ _ c.self.view_is in
    let there = idle_within c.args.now c.args.position c.args.self.now c.requires.idle in
    let places = c.self.invariant.3.places in
    let fits = c.self.invariant.0.fits in
    omega (arith, e, there, places, fits)

pub returns : goal.returns
returns c =
    let kept = c.self.invariant.0 in
    let e = count_is _ _ _ _ c.self.view_is in
    let there = idle_within c.args.now c.args.position c.args.self.now c.requires.idle in
    let first : c.args.position * 4 + 4 ≤ length c.self.inside.seats.items = omega (arith, e, there, kept.seated) in
    let seats = seats_renewed c.self.inside.seats.items _ _ _ _ c.deref_mut.ensures.value (omega arith) first
    c.renew.ensures in
    records-replace _ _ _ _ _ _ _ _ _ _ c.self.view_is first seats c.fresh.ensures
