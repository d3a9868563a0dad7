use Rattle.std.proofs.Common.{◌≡◌, ◌≤◌, ◌+◌, ◌∙◌, length, arith, rules, sym, subst}
use Rattle.std.proofs.lemmas.Grind.{common_steps}
use Rattle.rx_pool.specs.Pool.{Slots, IsSlotOf, bytes_at, overwrite}
use Rattle.rx_pool.proofs.Holding.{still_put}
use Rattle.rx_pool.proofs.Written.{length-overwrite}
use Rattle.rx_pool.proofs.pool.Pool.put.Goals as goal

pub returns-clause-written : goal.returns-clause-written
returns-clause-written c = first_of (search rules, grind (arith, common_steps))

pub returns-clause-of : goal.returns-clause-of
returns-clause-of c =
    let pool = c.args.self.now in
    let slot = c.args.slot.now in
    let written = overwrite (bytes_at pool slot) c.args.at c.args.bytes.now in
    let size = c.requires.of.size in
    let old = bytes_at pool slot in
    let within : c.args.at + length c.args.bytes.now ≤ length old = omega (arith, size, c.requires.fits) in
    let full : length written ≡ 1444 = length-overwrite old c.args.at c.args.bytes.now within ∙ size in
    λ s of. subst (λ (new : Slots). IsSlotOf new s) (sym (returns-clause-written c))
    (still_put pool slot written full c.requires.of s of)
