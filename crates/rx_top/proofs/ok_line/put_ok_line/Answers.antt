use Rattle.std.proofs.Common.{ℕ, List, ◌++◌, Result, Err, Ok, codes, refl}
use Rattle.std.specs.Prelude.{IsErr, option_copied}
use Rattle.std.specs.String.{string_bytes}
use Rattle.rx_base.specs.declared.sink.Failed.{Failed}
use Rattle.rx_wire_loop.specs.Tells.{SinkTells, sink_tells}
use Rattle.rx_reply.specs.Replies.{down_text}
use Rattle.rx_top.specs.Puts.{PutsText}
use Rattle.rx_top.proofs.PutLemmas.{puts_bytes, puts_more, puts_stopped}
use Rattle.rx_top.proofs.ok_line.put_ok_line.Goals as goal

-- behind `ok `, the put of the values failed
values_stopped : (r : Result (Unit {0}) Failed) (values down : List ℕ) (a b c : SinkTells) → IsErr r
    → PutsText (Ok tt) (codes "ok ") a b → PutsText (Err (record {})) values b c
    → PutsText r (codes "ok " ++ (values ++ down) ++ codes "\n") a c
values_stopped r values down a b c is first stopped =
    puts_more r (codes "ok ") (values ++ down ++ codes "\n") a b c first
    (puts_stopped r (record {}) (values ++ down) (codes "\n") b c is
    (puts_stopped (Err (record {})) (record {}) values down b c refl stopped))

-- behind the values, the put of the download failed
down_stopped : (r : Result (Unit {0}) Failed) (values down : List ℕ) (a b c d : SinkTells) → IsErr r
    → PutsText (Ok tt) (codes "ok ") a b → PutsText (Ok tt) values b c → PutsText (Err (record {})) down c d
    → PutsText r (codes "ok " ++ (values ++ down) ++ codes "\n") a d
down_stopped r values down a b c d is first second stopped =
    puts_more r (codes "ok ") (values ++ down ++ codes "\n") a b d first
    (puts_stopped r (record {}) (values ++ down) (codes "\n") b d is
    (puts_more (Err (record {})) values down b c d second stopped))

-- behind them all, the end of the line
line_ended : (r : Result (Unit {0}) Failed) (values down : List ℕ) (a b c d e : SinkTells)
    → PutsText (Ok tt) (codes "ok ") a b → PutsText (Ok tt) values b c → PutsText (Ok tt) down c d
    → PutsText r (codes "\n") d e → PutsText r (codes "ok " ++ (values ++ down) ++ codes "\n") a e
line_ended r values down a b c d e first second third last =
    puts_more r (codes "ok ") (values ++ down ++ codes "\n") a b e first
    (puts_more r (values ++ down) (codes "\n") b d e (puts_more (Ok tt) values down b c d second third) last)

pub returns-in_err-put : goal.returns-in_err-put
returns-in_err-put g c =
    puts_stopped c.from_residual.result (record {}) (codes "ok ")
    (string_bytes c.args.parts.now.values ++ down_text (option_copied c.args.parts.now.download) ++ codes "\n")
    (sink_tells (g.O.Sink.told c.args.out.now) (g.O.Sink.faults c.args.out.now))
    (sink_tells (g.O.Sink.told c.put.new.self) (g.O.Sink.faults c.put.new.self))
    c.from_residual.ensures.0 (c.in_err-put.ensures.err, c.in_err-put.ensures.counted)

pub returns-in_err-put-2 : goal.returns-in_err-put-2
returns-in_err-put-2 g c =
    values_stopped c.from_residual-in_err-put-2.result (string_bytes c.args.parts.now.values)
    (down_text (option_copied c.args.parts.now.download))
    (sink_tells (g.O.Sink.told c.args.out.now) (g.O.Sink.faults c.args.out.now))
    (sink_tells (g.O.Sink.told c.put.new.self) (g.O.Sink.faults c.put.new.self))
    (sink_tells (g.O.Sink.told c.put-2.new.self) (g.O.Sink.faults c.put-2.new.self))
    c.from_residual-in_err-put-2.ensures.0 (c.in_ok-put.ensures.ok, c.in_ok-put.ensures.same)
    (rw c.as_bytes.ensures.value at c.in_err-put-2.ensures.err, c.in_err-put-2.ensures.counted)

pub returns-in_err-put_download : goal.returns-in_err-put_download
returns-in_err-put_download g c =
    down_stopped c.from_residual-in_err-put_download.result (string_bytes c.args.parts.now.values)
    (down_text (option_copied c.args.parts.now.download))
    (sink_tells (g.O.Sink.told c.args.out.now) (g.O.Sink.faults c.args.out.now))
    (sink_tells (g.O.Sink.told c.put.new.self) (g.O.Sink.faults c.put.new.self))
    (sink_tells (g.O.Sink.told c.put-2.new.self) (g.O.Sink.faults c.put-2.new.self))
    (sink_tells (g.O.Sink.told c.put_download.new.out) (g.O.Sink.faults c.put_download.new.out))
    c.from_residual-in_err-put_download.ensures.0 (c.in_ok-put.ensures.ok, c.in_ok-put.ensures.same)
    (rw c.as_bytes.ensures.value at c.in_ok-put-2.ensures.ok, c.in_ok-put-2.ensures.same)
    c.in_err-put_download.ensures

pub returns : goal.returns
returns g c =
    let before : SinkTells =
    sink_tells (g.O.Sink.told c.put_download.new.out) (g.O.Sink.faults c.put_download.new.out) in
    let after : SinkTells = sink_tells (g.O.Sink.told c.put-3.new.self) (g.O.Sink.faults c.put-3.new.self) in
    let last = c.put-3.ensures in
    line_ended c.put-3.result (string_bytes c.args.parts.now.values)
    (down_text (option_copied c.args.parts.now.download))
    (sink_tells (g.O.Sink.told c.args.out.now) (g.O.Sink.faults c.args.out.now))
    (sink_tells (g.O.Sink.told c.put.new.self) (g.O.Sink.faults c.put.new.self))
    (sink_tells (g.O.Sink.told c.put-2.new.self) (g.O.Sink.faults c.put-2.new.self)) before after
    (c.in_ok-put.ensures.ok, c.in_ok-put.ensures.same)
    (rw c.as_bytes.ensures.value at c.in_ok-put-2.ensures.ok, c.in_ok-put-2.ensures.same)
    c.in_ok-put_download.ensures
    (puts_bytes c.put-3.result (codes "\n") before after last.ok last.same last.err last.counted)
