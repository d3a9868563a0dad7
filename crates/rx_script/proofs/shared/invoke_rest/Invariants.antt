use Rattle.std.proofs.Common.{◌≡◌, None, false, length}
use Rattle.xdr_value.specs.View.{types_of, proc_of}
use Rattle.rx_script.specs.Rows.{invoke_rest}
use Rattle.rx_script.proofs.shared.invoke_rest.Given as goal

-- the words that are left say what all of them say
abbrev pub invariant-loop-word : goal.invariant-loop-word
invariant-loop-word l =
    invoke_rest (types_of l.iface.types.items) l.node l.cid (proc_of l.p) l.up l.down l.words
    ≡ invoke_rest (types_of l.iface.types.items) l.node l.cid (proc_of l.p) None false l.fn.words

abbrev pub decreases-loop-word : goal.decreases-loop-word
decreases-loop-word l = length l.words
