use Rattle.std.proofs.Common.{sym, subst}
use Rattle.rx_jobs.specs.Handlers.{handlers_of}
use Rattle.rx_plan.specs.Follows.{next_part}
use Rattle.rx_stage.specs.Ran.{stop_of}
use Rattle.rx_stage.specs.Showing.{MakesLine}
use Rattle.rx_stage.specs.Shown.{script_of}
use Rattle.rx_stage.specs.Tells.{told}
use Rattle.rx_stage.proofs.LinesGone.{late_counted, next_made}
use Rattle.rx_stage.proofs.runs.Running.make_line.Goals as goal

pub returns-in-Client-clause-made : goal.returns-in-Client-clause-made
returns-in-Client-clause-made g c =
    let t = told (g.J.Journal.told c.args.book.now) (g.O.Sink.told c.args.out.now) (g.O.Sink.faults c.args.out.now) in
    subst (λ line. MakesLine (next_part (handlers_of c.args.iface.now (script_of c.args.self.now.world)) line)
    c.args.place c.args.self.now c.add_client.new.self (stop_of c.add_client.result) t t) (sym c.in-Client.is)
    (c.add_client.ensures.added c.args.place t)

pub returns-in_default : goal.returns-in_default
returns-in_default g c =
    record {
      made = next_made (handlers_of c.args.iface.now (script_of c.args.self.now.world)) c.args.line.now c.args.place
          c.args.self.now c.make_other.new.self (stop_of c.make_other.result) _ _ c.in_default.not-Client
          c.make_other.ensures.made;
      counted = late_counted c.make_other.result c.make_other.new.self c.make_other.ensures.late;
      script = c.make_other.ensures.script;
    }
