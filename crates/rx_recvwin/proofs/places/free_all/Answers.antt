use Rattle.std.proofs.Common.{◌<◌, ◌∙◌, ℕ, None, ap, arith, length, replicate, sym}
use Rattle.rx_pool.proofs.Holding.{keeps_then}
use Rattle.rx_recvwin.specs.Places.{slots_in}
use Rattle.rx_recvwin.proofs.EmptyLaws.{none_taken}
use Rattle.rx_recvwin.proofs.SlotLaws.{turn_next}
use Rattle.rx_recvwin.proofs.places.free_all.Goals as goal

pub loop-preserved : goal.loop-preserved
loop-preserved c =
    let so = c.loop.invariant in
    let old = c.args.places.now.items in
    let less : c.loop.counter < length old = (
    omega (arith, c.loop-test.true, c.len-end.ensures, c.args.places.now.ok.0)) in
    record {
      items =
          turn_next old c.loop.places.items c.turn.new.places.items c.loop.counter less so.items c.turn.ensures.turned;
      len = c.turn.ensures.len ∙ so.len;
      capacity = c.turn.ensures.capacity ∙ so.capacity;
      bytes = c.turn.ensures.bytes ∙ so.bytes;
      keeps =
          keeps_then c.args.pool.now c.loop.pool c.turn.new.pool (slots_in old) (slots_in c.loop.places.items)
          (slots_in c.turn.new.places.items) so.keeps c.turn.ensures.keeps;
    }

pub returns-then-held-eq0-clause-freed : goal.returns-then-held-eq0-clause-freed
returns-then-held-eq0-clause-freed c =
    none_taken c.args.places.now.items (sym c.requires.held ∙ c.if-held-eq0.true)
    ∙ ap (λ (n : ℕ). replicate n None) (sym c.args.places.now.ok.0)
