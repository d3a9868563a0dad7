use Rattle.std.proofs.Common.{None, Ok, Some, refl}
use Rattle.rx_model.specs.declared.event.Event.TheVariants.{Called}
use Rattle.rx_model.specs.declared.names.CallName.{CallName}
use Rattle.rx_wire_loop.proofs.Beginning.{answered}
use Rattle.rx_wire_loop.proofs.Running.{stopped}
use Rattle.rx_wire_loop.proofs.calling.begin_on.Goals as goal

pub returns-in_err-note-clause-plays : goal.returns-in_err-note-clause-plays
returns-in_err-note-clause-plays g c =
    λ sink wire. rw (stopped c.from_residual.result c.in_err-note.field-0.0 c.from_residual.ensures.1)
    (answered 1 _ _ _ _ _ sink wire (λ (name : CallName). Called c.args.cid (Ok name)) c.start-name.result refl
    (λ m. refl) c.start-name.ensures.answered _ (Some c.in_err-note.field-0.0) (λ none. absurd (cc (none)))
    c.in_err-note.ensures.told)

pub returns-clause-plays : goal.returns-clause-plays
returns-clause-plays g c =
    λ sink wire. answered 1 _ _ _ _ _ sink wire (λ (name : CallName). Called c.args.cid (Ok name))
    c.start-name.result refl (λ m. refl) c.start-name.ensures.answered _ None (λ none. refl) c.in_ok-note.ensures.told
