use Rattle.std.proofs.Common.{◌≡◌, ◌+◌, ◌-◌, ◌++◌, ℕ, List, length, take, drop, ap, sym, append_assoc, ◌∙◌, arith}
use Rattle.std.proofs.lemmas.List.{length-drop, take-append-drop}
use Rattle.std.proofs.lemmas.Slice.{take-put_mid, drop-put_mid}
use Rattle.xdr_value.specs.Spelling.{word}
use Rattle.rx_reply.proofs.counted.set_count.Goals as goal

pub returns : goal.returns
returns c =
    let old = c.args.bytes.now in
    let at = c.args.at in
    let part = c.copy_from_slice.new.self in
    let count = length old - (at + 4) in
    let same : part ≡ word count = c.copy_from_slice.ensures.after ∙ c.to_be_bytes.ensures in
    let wide : length part ≡ 4 = ap length same in
    let size = at + 4 - at in
    let front = take-put_mid at size old part (at + 4) (omega (arith, wide)) (omega (arith, c.requires.room)) in
    let rest = drop-put_mid at size old part (at + 4) (omega arith) (omega (arith, c.requires.room))
    (omega (arith, wide)) in
    let counts : count ≡ length (drop (at + 4) old) = sym (length-drop (at + 4) old) in
    sym (take-append-drop (at + 4) _) ∙ (λ i. front i ++ rest i) ∙ append_assoc (take at old) part (drop (at + 4) old)
    ∙ ap (λ (w : List ℕ). take at old ++ (w ++ drop (at + 4) old)) (same ∙ ap word counts)
