use Rattle.std.proofs.Common.{◌∙◌, ℕ, List, ap, vec_len, drop, take}
use Rattle.rx_events.specs.Events.{written_count}
use Rattle.rx_asks.specs.declared.ask.TheConstants.{BLOCK_BYTES}
use Rattle.rx_caller.proofs.Blocks.{accepts_within}
use Rattle.rx_caller.proofs.caller.Caller.offer.Goals as goal

pub invariant_of-self : goal.invariant_of-self
invariant_of-self g c =
    let i = c.self.inside in
    accepts_within i.accepted BLOCK_BYTES (written_count c.in_ok-got.got) (vec_len i.request) c.len.result
    i.request.items c.next_block-block.result.now c.in_ok-got.bytes.items c.self.invariant i.request.ok.0
    (c.next_block-block.ensures ∙ ap (λ (xs : List ℕ). take BLOCK_BYTES (drop i.accepted xs)) c.as_slice.ensures.value)
    c.in_ok-got.ensures.bytes (c.len.ensures ∙ c.in_ok-got.bytes.ok.0)
