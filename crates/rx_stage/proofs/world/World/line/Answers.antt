-- Each line is made by a method of its own.
use mir.Val.{SFits}
use Rattle.std.proofs.Common.{of_z, refl, rules, string_bytes, to_z, w32}
use Rattle.std.proofs.lemmas.Int.{to_z-of_z}
use Rattle.xdr_value.specs.View.{procs_of, values_of}
use Rattle.rx_events.specs.Events.{IsCancelled, IsFinished}
use Rattle.rx_jobs.specs.Handlers.{handlers_of}
use Rattle.rx_script.specs.Procs.{proc_named}
use Rattle.rx_plan.specs.Finds.{at_accepted, at_call, at_client}
use Rattle.rx_plan.specs.Lines.{bytes_of, invokes}
use Rattle.rx_plan.specs.Stages.{event}
use Rattle.rx_stage.specs.Shown.{script_of}
use Rattle.rx_stage.specs.declared.stop.Stop.TheVariants as stops
use Rattle.rx_stage.proofs.Lining.{code_is, invoke_cut}
use Rattle.rx_stage.proofs.Making.{cut_as, late_line, line_is}
use Rattle.rx_stage.proofs.world.World.line.Goals as goal

pub returns-in-Server-clause-plays : goal.returns-in-Server-clause-plays
returns-in-Server-clause-plays g c = line_is _ _ _ _ _ _ _ _ _ c.in-Server.is (late_line c.args.self.now _)

pub returns-in-Client-clause-plays : goal.returns-in-Client-clause-plays
returns-in-Client-clause-plays g c = line_is _ _ _ _ _ _ _ _ _ c.in-Client.is (late_line c.args.self.now _)

pub returns-in-Write-clause-plays : goal.returns-in-Write-clause-plays
returns-in-Write-clause-plays g c =
    line_is _ _ _ _ _ _ _ _ _ c.in-Write.is c.write_line.ensures.plays

pub returns-in-Read-clause-plays : goal.returns-in-Read-clause-plays
returns-in-Read-clause-plays g c = line_is _ _ _ _ _ _ _ _ _ c.in-Read.is c.read_line.ensures.plays

pub returns-in-Cancel-clause-plays : goal.returns-in-Cancel-clause-plays
returns-in-Cancel-clause-plays g c =
    (let fits : SFits w32 c.in-Cancel.code = search rules in
    line_is _ _ _ _ _ _ _ _ _ c.in-Cancel.is
    (code_is (λ z. at_call c.in-Cancel.call (λ x. event x.node (IsCancelled x.name z)))
    (to_z w32 (of_z w32 c.in-Cancel.code)) c.in-Cancel.code _ _ _ _ _ (to_z-of_z w32 c.in-Cancel.code fits)
    c.cancel_line.ensures.plays))

pub returns-in-Finish-clause-plays : goal.returns-in-Finish-clause-plays
returns-in-Finish-clause-plays g c =
    (let fits : SFits w32 c.in-Finish.code = search rules in
    line_is _ _ _ _ _ _ _ _ _ c.in-Finish.is
    (code_is (λ z. at_accepted c.in-Finish.call (λ x. event 0 (IsFinished x z)))
    (to_z w32 (of_z w32 c.in-Finish.code)) c.in-Finish.code _ _ _ _ _ (to_z-of_z w32 c.in-Finish.code fits)
    c.finish_line.ensures.plays))

pub returns-in-HandlerRead-clause-plays : goal.returns-in-HandlerRead-clause-plays
returns-in-HandlerRead-clause-plays g c =
    line_is _ _ _ _ _ _ _ _ _ c.in-HandlerRead.is c.handler_read_line.ensures.plays

pub returns-in-HandlerWrite-clause-plays : goal.returns-in-HandlerWrite-clause-plays
returns-in-HandlerWrite-clause-plays g c =
    line_is _ _ _ _ _ _ _ _ _ c.in-HandlerWrite.is c.handler_write_line.ensures.plays

pub returns-in-Forge-clause-plays : goal.returns-in-Forge-clause-plays
returns-in-Forge-clause-plays g c =
    line_is _ _ _ _ _ _ _ _ _ c.in-Forge.is c.forge_line.ensures.plays

pub returns-in-Jumbo-clause-plays : goal.returns-in-Jumbo-clause-plays
returns-in-Jumbo-clause-plays g c = line_is _ _ _ _ _ _ _ _ _ c.in-Jumbo.is c.jumbo_line.ensures.plays

pub returns-in_err-bytes-in-Invoke-clause-plays : goal.returns-in_err-bytes-in-Invoke-clause-plays
returns-in_err-bytes-in-Invoke-clause-plays g c =
    line_is _ _ _ _ _ _ _ _ _ c.in-Invoke.is
    (cut_as (at_client c.in-Invoke.client (invokes c.args.place c.in-Invoke.cid
    (bytes_of (handlers_of c.args.iface.now (script_of c.args.self.now))
    (proc_named (string_bytes c.in-Invoke.proc) (procs_of c.args.iface.now.procs.items))
    (values_of c.in-Invoke.args.items) c.in-Invoke.up))) _ _ c.from_residual.result stops.OutOfMemory _
    c.from_residual.ensures refl
    (invoke_cut c.in-Invoke.client c.args.place c.in-Invoke.cid
    (bytes_of (handlers_of c.args.iface.now (script_of c.args.self.now))
    (proc_named (string_bytes c.in-Invoke.proc) (procs_of c.args.iface.now.procs.items))
    (values_of c.in-Invoke.args.items) c.in-Invoke.up)))
