-- What a node is set up with by the words of a command, and what the program leaves of a command.
use Rattle.std.specs.Prelude.{◌≡◌, ◌≤◌, Bool, false}
use Rattle.rx_wire_loop.specs.declared.calling.Calling.{Calling}
use Rattle.rx_wire_loop.specs.declared.serving.Serving.{Serving}
use Rattle.rx_words.specs.declared.command.Command.{Command}
use Rattle.rx_words.specs.declared.command.Command.TheVariants as commands
use Rattle.rx_words.specs.declared.options.CallOptions.{CallOptions}
use Rattle.rx_words.specs.declared.options.ServeOptions.{ServeOptions}
use Rattle.rx_top.specs.declared.status.Status.{Status}
use Rattle.rx_top.specs.declared.status.Status.TheVariants as statuses
use Rattle.rx_top.specs.Calls.{CallLeaves, CanCall, client_limits}
use Rattle.rx_top.specs.Compiles.{CompileLeaves}
use Rattle.rx_top.specs.Commands.{has_command, is_over_wire, makes_events, reads_files}
use Rattle.rx_top.specs.Endings.{usage_text}
use Rattle.rx_top.specs.LoadLines.{LoadLeaves}
use Rattle.rx_top.specs.Outside.{Outside, Says, plan_told, reads_of, seen_of, wire_told}
use Rattle.rx_top.specs.Serves.{CanServe, ServeLeaves}
use Rattle.rx_top.specs.Sims.{SimLeaves}

-- what a node is served with
abbrev pub serving_of : ServeOptions → Serving
serving_of o = record {
  at = o.at;
  service = o.service;
  limits = o.limits;
  nonce = o.nonce;
  span = o.span;
  turns = o.turns;
  jumbo = o.jumbo;
}

-- what a call is made with
abbrev pub calling_of : CallOptions → Calling
calling_of o = record {
  from = o.from;
  epoch = o.epoch;
  limits = client_limits o.window;
  to = o.to;
  service = o.service;
  turns = o.turns;
  jumbo = o.jumbo;
}

-- a node can be set up with what is asked for, and so many calls can be made
abbrev pub CanDo : Command → Type 0
CanDo (commands.Sim names) = Unit {0}
CanDo (commands.Serve names given) = CanServe (serving_of given)
CanDo (commands.Call asked given) = CanCall (calling_of given)
CanDo (commands.Compile xg) = Unit {0}
CanDo (commands.Load number calls) = (1 ≤ calls) × (calls ≤ 10000)
CanDo (commands.Peers xg script plan) = Unit {0}

-- what the program leaves of a command, where a journal may want memory or not: the status of how it ended, and the
-- line of that said
abbrev pub Leaves : Command → Status → Bool → Outside → Outside → Type 0
Leaves (commands.Sim names) status may_want a b =
    SimLeaves status names (reads_of a b) (plan_told a) (plan_told b) (Says a b)
Leaves (commands.Serve names given) status may_want a b =
    ServeLeaves status names (serving_of given) (reads_of a b) (wire_told a) (wire_told b) may_want (Says a b)
Leaves (commands.Call asked given) status may_want a b =
    CallLeaves status asked (calling_of given) (reads_of a b) (wire_told a) (wire_told b) may_want (Says a b)
Leaves (commands.Compile xg) status may_want a b = CompileLeaves status xg (seen_of a b) (Says a b)
Leaves (commands.Load number calls) status may_want a b =
    LoadLeaves status number calls (plan_told a) (plan_told b) (Says a b)
Leaves (commands.Peers xg script plan) status may_want a b = (status ≡ statuses.Usage) × Says a b usage_text

-- what a command has nothing to do with tells what it told
pub record Spares (c : Command) (a b : Outside) : Type 0 where
  pub reads : reads_files c ≡ false → b.files.reads ≡ a.files.reads
  pub out : has_command c ≡ false → b.out ≡ a.out
  pub noted : makes_events c ≡ false → b.noted ≡ a.noted
  pub wire : is_over_wire c ≡ false → b.wire ≡ a.wire
