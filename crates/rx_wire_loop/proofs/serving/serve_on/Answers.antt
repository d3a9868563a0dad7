use Rattle.rx_jobs.specs.Handlers.{handlers_of}
use Rattle.rx_wire_loop.specs.Serving.{terms_of}
use Rattle.rx_wire_loop.proofs.Passing.{line_noted, ready_stopped}
use Rattle.rx_wire_loop.proofs.Running.{is_stopped}
use Rattle.rx_wire_loop.proofs.serving.serve_on.Goals as goal

pub returns-in_err-ready-clause-serves : goal.returns-in_err-ready-clause-serves
returns-in_err-ready-clause-serves g c =
    rw (is_stopped c.from_residual-in_err-ready.result c.in_err-ready.field-0.0 c.from_residual-in_err-ready.ensures.1)
    (ready_stopped (terms_of c.args.serving.now (handlers_of c.args.iface.now _)) _ c.args.host c.in_err-ready.field-0.0
    _ _ _ _ c.in_err-ready.ensures)

pub returns-in_err-ready-clause-unnoted : goal.returns-in_err-ready-clause-unnoted
returns-in_err-ready-clause-unnoted g c =
    rw (is_stopped c.from_residual-in_err-ready.result c.in_err-ready.field-0.0 c.from_residual-in_err-ready.ensures.1)
    (λ is. absurd (line_noted _ c.in_err-ready.field-0.0 _ _ is c.in_err-ready.ensures))
