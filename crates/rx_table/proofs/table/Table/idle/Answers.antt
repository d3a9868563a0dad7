use Rattle.std.proofs.Common.{◌+◌, ◌*◌, ◌≤◌, ℕ, List, Option, ap, arith, subst, sym}
use Rattle.std.proofs.lemmas.Nat.{mul-le}
use Rattle.std.proofs.lemmas.Option.{IfSome_then}
use Rattle.rx_table.specs.declared.seat.Seat.{Seat}
use Rattle.rx_table.specs.Records.{Records, held_count}
use Rattle.rx_table.specs.Uses.{AreUses, IsFirstFree, NoneIsFree, held_among}
use Rattle.rx_table.proofs.UseLaws.{first_longest, held_most, none_idle, uses_seated}
use Rattle.rx_table.proofs.table.Table.idle.Goals as goal

pub first_free-requires : goal.first_free-requires
first_free-requires g c =
    uses_seated _ _ _ _ _ c.self.invariant.3 c.self.invariant.0.seated c.deref.ensures.value

pub invariant_of-self : goal.invariant_of-self
invariant_of-self g c = (
  c.self.invariant.0,
  c.self.invariant.1,
  c.self.invariant.2,
  subst (λ (b : List (Option ℕ)). AreUses b c.self.inside.conns.items c.self.inside.room)
      (sym c.first_free.ensures.same) c.self.invariant.3,
)

pub returns-clause-longest : goal.returns-clause-longest
returns-clause-longest g c =
    IfSome_then c.first_free.result c.first_free.ensures.free
    (λ place first. first_longest c.self.inside.conns.items c.self.inside.seats.items c.self.inside.room c.args.now
    c.self.inside.uses c.self.invariant.3 c.args.self.now c.self.view_is place
    (subst (λ (ss : List Seat). IsFirstFree c.self.inside.uses ss c.args.now place) c.deref.ensures.value first))

pub returns-clause-none : goal.returns-clause-none
returns-clause-none g c =
    λ none place. none_idle c.self.inside.conns.items c.self.inside.seats.items c.self.inside.room c.args.now
    c.self.inside.uses c.self.invariant.3 c.args.self.now c.self.view_is
    (subst (λ (ss : List Seat). NoneIsFree c.self.inside.uses ss c.args.now) c.deref.ensures.value
    (c.first_free.ensures.none none)) place

pub returns-clause-steps : goal.returns-clause-steps
returns-clause-steps g c =
    λ d power. (
    let room = ap (λ (t : Records). t.room) c.self.view_is in
    let cost = c.first_free.ensures.steps d
    (let places = c.self.invariant.3.places in omega (arith, places, room, power)) in
    let few = held_most c.self.inside.conns.items c.self.inside.seats.items c.deref.result.now c.self.inside.room
    c.args.now c.self.inside.uses c.self.invariant.3 c.args.self.now c.self.view_is c.deref.ensures.value in
    let h = held_among c.args.now c.self.inside.uses c.deref.result.now in
    let k = held_count c.args.now c.args.self.now in
    let most : (h + 1) * (16 * d + 17) ≤ (k + 1) * (16 * d + 17) =
    mul-le (h + 1) (16 * d + 17) (k + 1) (16 * d + 17) (omega (arith, few)) (omega arith) in
    record {
      grows = (let x = cost.grows in omega (arith, x));
      most = (let x = cost.most in omega (arith, x, most));
    })
