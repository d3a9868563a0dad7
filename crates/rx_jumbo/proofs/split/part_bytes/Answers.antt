use Rattle.std.proofs.Common.{◌≡◌, ◌+◌, ◌-◌, ◌∙◌, ℕ, List, Bool, cond, true, drop, take, ap, sym, arith}
use Rattle.rx_jumbo.specs.Parts.{is_followed, part_place}
use Rattle.rx_jumbo.proofs.split.part_bytes.Goals as goal

pub returns-then-is_followed-clause-exact : goal.returns-then-is_followed-clause-exact
returns-then-is_followed-clause-exact c =
    let bytes : List ℕ = c.args.bytes.now in
    let place : ℕ = part_place c.args.k in
    let count : c.part_place-place.result + 1412 - c.part_place-place.result ≡ 1412 = omega arith in
    let follows : true ≡ is_followed bytes c.args.k = sym c.if-is_followed.true ∙ c.is_followed.ensures in
    ap (λ (n : ℕ). take n (drop c.part_place-place.result bytes)) count
    ∙ ap (λ (p : ℕ). take 1412 (drop p bytes)) c.part_place-place.ensures
    ∙ ap (λ (t : Bool). cond t (take 1412 (drop place bytes)) (drop place bytes)) follows
