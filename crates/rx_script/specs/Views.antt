-- What the reader's own types stand for. No public clause cites this module.
use Rattle.std.specs.Prelude.{string_bytes}
use Rattle.xdr_value.specs.View.{values_of}
use Rattle.rx_script.specs.declared.shared.Invocation.{Invocation as CodeInvocation}
use Rattle.rx_script.specs.Saying.{Invocation}

-- an `invoke` line by its parts
abbrev pub invocation_of : CodeInvocation → Invocation
invocation_of i = record {
  node = i.node;
  cid = i.cid;
  proc = string_bytes i.proc;
  up = i.up;
  down = i.down;
  args = values_of i.args.items;
}
