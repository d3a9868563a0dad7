use Rattle.std.proofs.Common.{refl, arith, length, set}
use Rattle.std.proofs.lemmas.List.{length-set}
use Rattle.rx_table.specs.declared.conn.Conn.{Conn}
use Rattle.rx_table.proofs.KeptLaws.{count_is, kept-set, place-set, within_list}
use Rattle.rx_table.proofs.UseLaws.{use_is, uses_changed, uses_entries}
use Rattle.rx_table.proofs.table.Table.touch.Goals as goal

pub index_mut-conn-requires : goal.index_mut-conn-requires
index_mut-conn-requires g c = let e = count_is _ _ _ _ c.self.view_is in omega (arith, e)

pub renew-requires : goal.renew-requires
renew-requires g c =
    let within = within_list _ _ _ _ _ c.self.view_is c.requires in
    record {
      place = (let places = c.self.invariant.3.places in let fits = c.self.invariant.0.fits in omega
          (arith, within, places, fits));
      before = use_is _ _ _ _ _ c.self.invariant.3 within c.index_mut-conn.ensures.value;
    }

pub invariant_of-self : goal.invariant_of-self
invariant_of-self g c =
    let used : Conn = record c.index_mut-conn.result.now { last_use = c.args.now } in (
      kept-set _ _ _ _ _ _ _ _ c.index_mut-conn.ensures.value refl c.self.invariant.0,
      c.self.invariant.1,
      c.self.invariant.2,
      uses_changed _ _ _ _ _ c.args.now used (within_list _ _ _ _ _ c.self.view_is c.requires) c.self.invariant.3
          c.renew.ensures.updates refl,
    )

pub returns-clause-updates : goal.returns-clause-updates
returns-clause-updates g c =
    place-set _ _ _ _ _ _ (λ r. record r { last_use = c.args.now }) _
    c.self.view_is c.requires c.index_mut-conn.ensures.value (λ us. refl)

pub returns-clause-steps : goal.returns-clause-steps
returns-clause-steps g c =
    let used : Conn = record c.index_mut-conn.result.now { last_use = c.args.now } in
    let within = within_list _ _ _ _ _ c.self.view_is c.requires in
    let conns = c.self.inside.conns.items in
    let few = uses_entries c.renew.new.self (set conns c.args.position used) c.self.inside.room
    (uses_changed _ _ _ _ _ c.args.now used within c.self.invariant.3 c.renew.ensures.updates refl) in
    let size = length-set conns c.args.position used in
    let e = count_is _ _ _ _ c.self.view_is in
    c.renew.ensures.steps (length c.args.self.now.conns) (omega (arith, few, size, e))
