use Rattle.std.proofs.Common.{codes, sym, subst}
use Rattle.std.specs.Prelude.{option_copied}
use Rattle.rx_model.specs.Text.{hex_text}
use Rattle.rx_wire_loop.specs.Tells.{SinkTells, sink_tells}
use Rattle.rx_reply.specs.Replies.{down_text}
use Rattle.rx_top.specs.Puts.{PutsText}
use Rattle.rx_top.proofs.PutLemmas.{puts_more, puts_stopped}
use Rattle.rx_top.proofs.ok_line.put_download.Goals as goal

pub returns-in_err-put-in-Some : goal.returns-in_err-put-in-Some
returns-in_err-put-in-Some g c =
    let start : SinkTells = sink_tells (g.O.Sink.told c.args.out.now) (g.O.Sink.faults c.args.out.now) in
    let after : SinkTells = sink_tells (g.O.Sink.told c.put.new.self) (g.O.Sink.faults c.put.new.self) in
    let put = c.in_err-put-in-Some.ensures in
    subst (λ d. PutsText c.from_residual.result (down_text (option_copied d)) start after) (sym c.in-Some.is)
    (puts_stopped c.from_residual.result (record {}) (codes " down ") (hex_text c.in-Some.bytes.now) start after
    c.from_residual.ensures.0 (put.err, put.counted))

pub returns-in_ok-put-in-Some : goal.returns-in_ok-put-in-Some
returns-in_ok-put-in-Some g c =
    let start : SinkTells = sink_tells (g.O.Sink.told c.args.out.now) (g.O.Sink.faults c.args.out.now) in
    let between : SinkTells = sink_tells (g.O.Sink.told c.put.new.self) (g.O.Sink.faults c.put.new.self) in
    let after : SinkTells =
    sink_tells (g.O.Sink.told c.put_hex_text.new.out) (g.O.Sink.faults c.put_hex_text.new.out) in
    let put = c.in_ok-put-in-Some.ensures in
    subst (λ d. PutsText c.put_hex_text.result (down_text (option_copied d)) start after) (sym c.in-Some.is)
    (puts_more c.put_hex_text.result (codes " down ") (hex_text c.in-Some.bytes.now) start between after
    (put.ok, put.same) c.put_hex_text.ensures)
