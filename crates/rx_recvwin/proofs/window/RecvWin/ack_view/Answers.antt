use Rattle.std.proofs.Common.{◌++◌, ◌∷◌, [], ◌+◌, ◌-◌, ◌<◌, ◌≡◌, ◌∙◌, sym, ap, subst, arith, rules, length, min}
use Rattle.rx_recvwin.specs.Window.{RecvWindow, window_of, StandsFor}
use Rattle.rx_recvwin.proofs.Marking.{marks_next, marks_end}
use Rattle.rx_recvwin.proofs.Nearness.{used_is}
use Rattle.rx_recvwin.proofs.window.RecvWin.ack_view.Goals as goal

pub loop-i-preserved : goal.loop-i-preserved
loop-i-preserved c =
    let len : length c.self.inside.places.items ≡ c.self.inside.width = (
    sym c.self.inside.places.ok.0 ∙ c.self.invariant.0) in
    let less : c.loop-i.i < length c.self.inside.places.items = (
    omega (arith, len, c.loop-i-test.true, c.min-count.ensures)) in
    let push = c.push.ensures.items ∙ ap (λ b. c.loop-i.marks.items ++ b ∷ []) c.is_some.ensures in
    record {
      len = search rules;
      so_far =
          rw (← c.self.view_is) (λ pool r s. push ∙ marks_next pool _ r c.loop-i.i c.index.result.now
          c.loop-i.marks.items s c.index.ensures less (c.loop-i.invariant.so_far pool r
          (subst (λ (w : RecvWindow). StandsFor (window_of pool w) r) c.self.view_is s)));
    }

pub returns-clause-first : goal.returns-clause-first
returns-clause-first c =
    let used : c.self.inside.used ≡ c.args.self.now.used = ap (λ (w : RecvWindow). w.used) c.self.view_is in
    λ pool r s. ap (λ n. n + 1) (used ∙ sym (used_is (window_of pool c.args.self.now) r s))

pub returns-clause-marks : goal.returns-clause-marks
returns-clause-marks c =
    let end : c.loop-i.i ≡ min (c.self.inside.greatest - c.self.inside.used) c.self.inside.width = (
    omega (arith, c.loop-i-test.false, c.loop-i.auto.i-end, c.min-count.ensures, c.saturating_sub.ensures)) in
    let count : c.loop-i.i ≡ min (c.args.self.now.greatest - c.args.self.now.used) c.args.self.now.width = (
    end ∙ ap (λ (w : RecvWindow). min (w.greatest - w.used) w.width) c.self.view_is) in
    λ pool r s. marks_end pool c.args.self.now r c.loop-i.i c.loop-i.marks.items s count
    (c.loop-i.invariant.so_far pool r s)
