use Rattle.std.proofs.Common.{◌≡◌, None, Ok, Some, refl, subst, sym, ℕ}
use Rattle.std.specs.Prelude.{IfOk}
use Rattle.rx_model.specs.declared.event.Event.TheVariants.{Linked}
use Rattle.rx_node.specs.Node.{setup_of}
use Rattle.rx_node.specs.Steps.{StandsNode}
use Rattle.rx_wire_loop.specs.Calls.{begins_on, links}
use Rattle.rx_drive.specs.Ran.{stop_of}
use Rattle.rx_wire_loop.specs.Runs.{Plays, change}
use Rattle.rx_wire_loop.specs.Tells.{told}
use Rattle.rx_wire_loop.proofs.Beginning.{answered}
use Rattle.rx_wire_loop.proofs.Running.{plays_at, plays_stops, plays_then, stopped}
use Rattle.rx_wire_loop.proofs.calling.begin_to.Goals as goal

pub returns-in_err-note-clause-plays : goal.returns-in_err-note-clause-plays
returns-in_err-note-clause-plays g c =
    λ sink wire. rw (stopped c.from_residual.result c.in_err-note.field-0.0 c.from_residual.ensures.1)
    (plays_stops 1 _ _ _ _ _ (links c.args.to c.args.service) begins_on (λ (k : ℕ). k ≡ c.connect-cid.result) _
    c.in_err-note.field-0.0 (answered 1 _ _ _ _ _ sink wire (λ (k : ℕ). Linked c.args.to c.args.service 1 (Ok k))
    c.connect-cid.result refl (λ m. refl) c.connect-cid.ensures.answered (λ (k : ℕ). k ≡ c.connect-cid.result)
    (Some c.in_err-note.field-0.0) (λ none. refl) c.in_err-note.ensures.told))

pub begin_on-requires-clause-linked : goal.begin_on-requires-clause-linked
begin_on-requires-clause-linked g c =
    (c.requires.clocked.0, (c.connect-cid.ensures.answered _ c.requires.clocked.1).1)

pub returns-clause-plays : goal.returns-clause-plays
returns-clause-plays g c =
    λ sink wire. plays_then 1 (setup_of g.C.Class.class_of c.args.client.now) _ _ _ _ _ _
    (links c.args.to c.args.service) begins_on (λ k. k ≡ c.connect-cid.result) _
    (stop_of c.begin_on.result) (answered 1 (setup_of g.C.Class.class_of c.args.client.now) _ _ _ _ sink wire
    (λ (k : ℕ). Linked c.args.to c.args.service 1 (Ok k)) c.connect-cid.result refl (λ m. refl)
    c.connect-cid.ensures.answered (λ (k : ℕ). k ≡ c.connect-cid.result) None (λ none. refl)
    c.in_ok-note.ensures.told) (λ k same. subst (λ (m : ℕ). Plays (change 1 (setup_of g.C.Class.class_of
    c.args.client.now) (StandsNode g.C.Class.class_of c.connect-cid.new.client) (StandsNode g.C.Class.class_of
    c.begin_on.new.client) (told (g.J.Journal.told c.note.new.book) sink wire) (told
    (g.J.Journal.told c.begin_on.new.book) sink wire)) (begins_on m) (λ name. IfOk c.begin_on.result
    (λ its. name ≡ its)) (stop_of c.begin_on.result)) (sym same) (plays_at 1 1 (setup_of g.C.Class.class_of
    c.args.client.now) (setup_of g.C.Class.class_of c.connect-cid.new.client) (StandsNode g.C.Class.class_of
    c.connect-cid.new.client) (StandsNode g.C.Class.class_of c.begin_on.new.client) _ _ (begins_on c.connect-cid.result)
    _
    (stop_of c.begin_on.result) refl c.connect-cid.ensures.setup (c.begin_on.ensures.plays sink wire)))
