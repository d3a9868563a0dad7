use Rattle.std.proofs.Common.{◌≡◌, ◌+◌, ◌-◌, ◌++◌, ℕ, List, length, take, ap, refl, ◌∙◌, arith}
use Rattle.std.proofs.lemmas.Slice.{take-put_mid, drop-put_mid}
use Rattle.rx_jumbo.proofs.write.put.Goals as goal

pub returns-clause-puts : goal.returns-clause-puts
returns-clause-puts c =
    let old = c.args.to.now in
    let bytes = c.args.bytes.now in
    let at = c.args.at in
    let part = c.copy_from_slice.new.self in
    let count = at + length bytes - at in
    let same : length part ≡ length bytes = ap length c.copy_from_slice.ensures.after in
    record {
      size = refl;
      front =
          take-put_mid at count old part (at + length bytes) (omega (arith, same)) (omega arith)
          ∙ ap (λ (xs : List ℕ). take at old ++ xs) c.copy_from_slice.ensures.after;
      rest =
          λ place behind. drop-put_mid at count old part place (omega arith) (omega arith) (omega (arith, same));
    }

pub returns-clause-bytes : goal.returns-clause-bytes
returns-clause-bytes c = λ i. omega (arith, c.type_inv.to i)
