use Rattle.std.proofs.Common.{◌≡◌, length, ap, arith}
use Rattle.xg_check.specs.Views.{constants_of}
use Rattle.xg_check.proofs.RingLaws.{length_ways}
use Rattle.xg_check.proofs.values.Constants.is_in_ring.Goals as goal

pub returns-requires : goal.returns-requires
returns-requires c =
    let cs = constants_of c.self.inside.list.items in
    let view : cs ≡ c.args.self.now = c.self.view_is in
    let e = ap length c.self.invariant.ways_are in
    let s = length_ways cs 0 cs in
    let v = ap length view in
    omega (arith, e, s, v, c.requires)
