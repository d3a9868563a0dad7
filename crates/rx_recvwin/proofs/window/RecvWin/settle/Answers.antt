use Rattle.std.proofs.Common.{◌≡◌, ◌∙◌, subst, sym, ap, true, false}
use Rattle.rx_pool.proofs.Holding.{keeps_then}
use Rattle.rx_recvwin.specs.Places.{is_place_done, place_at}
use Rattle.rx_recvwin.specs.Window.{Window, Near, window_of, packet_slots}
use Rattle.rx_recvwin.proofs.Nearness.{done_is, step_near}
use Rattle.rx_recvwin.proofs.Marking.{done_seen}
use Rattle.rx_recvwin.proofs.window.RecvWin.settle.Goals as goal

pub loop-self-preserved : goal.loop-self-preserved
loop-self-preserved c =
    let so = c.loop-self.invariant in
    let w = window_of c.loop-self.pool c.loop-self.self in
    let done : is_place_done (place_at w.ahead 0) w.offset w.ended ≡ true =
    sym (done_seen c.loop-self.pool c.loop-self.self.places c.loop-self.self.offset c.loop-self.self.ended
    c.is_next_done.ensures.sized so.keeps.holds) ∙ sym c.is_next_done.ensures.done ∙ c.loop-self-test.true in
    record {
      near = λ r n. subst (λ (v : Window). Near v r) (sym c.step.ensures.after_use) (step_near w r (so.near r n) done);
      keeps =
          keeps_then c.args.pool.now c.loop-self.pool c.step.new.pool (packet_slots c.args.self.now)
          (packet_slots c.loop-self.self) (packet_slots c.step.new.self) so.keeps c.step.ensures.keeps;
      width = ap (λ (v : Window). v.width) c.step.ensures.after_use ∙ so.width;
    }

pub returns-clause-settled : goal.returns-clause-settled
returns-clause-settled c =
    let so = c.loop-self.invariant in
    let w = window_of c.loop-self.pool c.loop-self.self in
    let done : is_place_done (place_at w.ahead 0) w.offset w.ended ≡ false =
    sym (done_seen c.loop-self.pool c.loop-self.self.places c.loop-self.self.offset c.loop-self.self.ended
    c.is_next_done.ensures.sized so.keeps.holds) ∙ sym c.is_next_done.ensures.done ∙ c.loop-self-test.false in
    λ r n. record { near = so.near r n; stops = sym (done_is w r (so.near r n)) ∙ done }
