use Rattle.rx_drive.specs.Tells.{Ways}
use Rattle.std.proofs.Common.{◌∙◌, ◌≤◌, Some, ap, arith, length, refl, sym}
use Rattle.rx_jumbo.specs.Parts.{parts_of}
use Rattle.rx_drive.proofs.Taking.{all_taken, ends_taken, more_taken, none_taken}
use Rattle.rx_drive.proofs.events.take_parts.Goals as goal

pub loop-k-init : goal.loop-k-init
loop-k-init g c = record {
  takes = λ h stands. none_taken _ (g.N.Endpoint.setup c.args.node.now) c.args.number c.args.from
      (parts_of c.args.came.now) h _ _ stands;
  setup = refl;
  ways = refl;
}

pub returns-in_err-take-clause-takes : goal.returns-in_err-take-clause-takes
returns-in_err-take-clause-takes g c =
    λ h stands. ends_taken _ _ c.args.number c.args.from (parts_of c.args.came.now) h _ _ c.loop-k.k
    c.front.result.now (g.N.Endpoint.stands c.loop-k.node) (g.N.Endpoint.stands c.take.new.node) _ _ _
    c.in_err-take.field-0.0 c.from_residual.result c.loop-k.invariant.setup (ap (λ
    (w : Ways). w.line) c.loop-k.invariant.ways)
    (c.part-length.ensures.written ∙ ap Some (sym c.front.ensures)) c.from_residual.ensures
    (c.loop-k.invariant.takes h stands) c.in_err-take.ensures.takes

pub loop-k-preserved : goal.loop-k-preserved
loop-k-preserved g c = record {
  takes = λ h stands. more_taken _ _ c.args.number c.args.from (parts_of c.args.came.now) h _ _ c.loop-k.k
      c.front.result.now (g.N.Endpoint.stands c.loop-k.node) (g.N.Endpoint.stands c.take.new.node) _ _ _
      c.loop-k.invariant.setup (ap (λ (w : Ways). w.line) c.loop-k.invariant.ways)
      (c.part-length.ensures.written ∙ ap Some (sym c.front.ensures)) (c.loop-k.invariant.takes h stands)
      c.in_ok-take.ensures.takes;
  setup = c.take.ensures.setup ∙ c.loop-k.invariant.setup;
  ways = c.take.ensures.ways ∙ c.loop-k.invariant.ways;
}

pub returns-clause-takes : goal.returns-clause-takes
returns-clause-takes g c =
    let all : length (parts_of c.args.came.now) ≤ c.loop-k.k =
    omega (arith, c.parts-k-end.ensures.count, c.loop-k-test.false) in
    λ h stands. all_taken _ _ c.args.number c.args.from (parts_of c.args.came.now) h c.loop-k.k
    (g.N.Endpoint.stands c.loop-k.node) _ _ all (c.loop-k.invariant.takes h stands)
