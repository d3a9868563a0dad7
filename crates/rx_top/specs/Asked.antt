-- What is asked for by a call, of the code's interface and procedure. Public clauses cite this module.
use Rattle.std.specs.List.{Contains}
use Rattle.xdr_value.specs.View.{proc_of, procs_of}
use Rattle.rx_top.specs.declared.asked.Asked.{Asked}
use Rattle.rx_top.specs.Calls.{CallAsked, asked_of}

-- what is asked for
abbrev pub asked_by : Asked → CallAsked
asked_by what = asked_of what.iface.now what.proc.now what.down

-- the procedure is one of the interface
abbrev pub HasProc : Asked → Type 0
HasProc what = Contains (procs_of what.iface.now.procs.items) (proc_of what.proc.now)
