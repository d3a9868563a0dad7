use Rattle.std.proofs.Common.{◌≡◌, ◌++◌, ◌∷◌, ◌∙◌, ap, take, set, bit_or, slice_index, List, ℕ}
use Rattle.std.proofs.lemmas.List.{take_rest}
use Rattle.rx_jumbo.specs.Parts.{flags_place}
use Rattle.rx_jumbo.specs.Text.{marked}
use Rattle.rx_jumbo.proofs.Places.{front_marked}
use Rattle.rx_packet.proofs.PutsLaws.{and_then}
use Rattle.rx_jumbo.proofs.text.extend.Goals as goal

pub returns-clause-text : goal.returns-clause-text
returns-clause-text c =
    let to : List ℕ = c.args.to.now in
    let d : List ℕ = c.args.bytes.now in
    let len : ℕ = c.args.len in
    let both = and_then c.put-at.ensures.puts c.put.ensures.puts in
    let place : c.flags_place-place.result ≡ flags_place c.args.last = c.flags_place-place.ensures in
    let mark : take len (set to c.flags_place-place.result (bit_or (slice_index to c.flags_place-place.result) 32))
    ≡ marked (take len to) c.args.last =
    ap (λ (p : ℕ). take len (set to p (bit_or (slice_index to p) 32))) place
    ∙ front_marked len to (flags_place c.args.last) 32 c.requires.mark in
    let rest = take_rest d 28 in
    both.front
    ∙ (λ i. mark i ++ slice_index d 21 ∷ 0 ∷ slice_index d 24 ∷ slice_index d 25 ∷ rest i)
