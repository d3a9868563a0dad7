use Rattle.std.proofs.Common.{◌≡◌, ◌∙◌, sym, ap, arith, bit_and, slice_index, take, List, ℕ, Some}
use Rattle.rx_model.specs.Reading.{number_at}
use Rattle.rx_model.specs.Spelling.{header_bytes}
use Rattle.rx_packet.proofs.PutsLaws.{and_then}
use Rattle.rx_jumbo.specs.Parts.{header_of, part_at, part_head}
use Rattle.rx_jumbo.proofs.SplitLaws.{part_there}
use Rattle.rx_jumbo.proofs.split.part.Goals as goal

pub part_bytes-requires-clause-begins : goal.part_bytes-requires-clause-begins
part_bytes-requires-clause-begins c =
    (part_there c.args.bytes.now c.in-Some.field-0 c.args.k (sym c.in-Some.ensures) c.requires.below).begins

pub part_bytes-requires-clause-whole : goal.part_bytes-requires-clause-whole
part_bytes-requires-clause-whole c =
    (part_there c.args.bytes.now c.in-Some.field-0 c.args.k (sym c.in-Some.ensures) c.requires.below).whole

pub short_at-checksum-requires : goal.short_at-checksum-requires
short_at-checksum-requires c =
    let there = part_there c.args.bytes.now c.in-Some.field-0 c.args.k (sym c.in-Some.ensures) c.requires.below in
    omega (arith, there.checksum, c.checksum_place.ensures)

-- the header, and the bytes behind it
pub returns-in-Some-clause-written : goal.returns-in-Some-clause-written
returns-in-Some-clause-written c =
    let b : List ℕ = c.args.bytes.now in
    let there = part_there b c.in-Some.field-0 c.args.k (sym c.in-Some.ensures) c.requires.below in
    let flags = c.byte_at.ensures ∙ ap (slice_index b) c.flags_place.ensures in
    let checksum = c.short_at-checksum.ensures ∙ ap (λ (p : ℕ). number_at 2 p b) c.checksum_place.ensures in
    let written = and_then c.put_header-at.ensures c.put.ensures.puts in
    let same : take c.put.result c.put.new.to ≡ part_at b c.args.k =
    written.front ∙ (λ i. header_bytes (part_head b c.args.k) (bit_and (flags i) 223) (header_of b).status (checksum i)
    (c.part_bytes.ensures.exact i)) in
    there.is ∙ ap (λ (xs : List ℕ). Some xs) (sym same)
