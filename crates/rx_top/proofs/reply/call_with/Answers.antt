use Rattle.std.proofs.Common.{◌≡◌, ◌∙◌, Ok, subst, sym}
use Rattle.rx_asks.specs.View.{CallerState}
use Rattle.rx_rules.specs.Classes.{Class}
use Rattle.rx_token.specs.Chosen.{chosen, secret_of}
use Rattle.rx_wire_loop.specs.declared.calling.CallEnd.TheVariants as call_ends
use Rattle.rx_wire_loop.specs.Calls.{CallIs}
use Rattle.rx_wire_loop.specs.Tells.{SinkTells, Told}
use Rattle.rx_wire_loop.specs.ToldCalls.{CallTold}
use Rattle.rx_top.specs.Asked.{asked_by}
use Rattle.rx_top.specs.Calls.{CallAsked, EndsByCall}
use Rattle.rx_top.specs.Outside.{Outside, wire_told}
use Rattle.rx_top.proofs.OutsideLemmas.{counts_called, wire_called}
use Rattle.rx_top.proofs.SilenceLemmas.{call_long, ended_told, told_finished}
use Rattle.rx_top.proofs.WireLemmas.{call_risen, call_same, no_line_ends, no_sink_ends, unnoted_holds}
use Rattle.rx_top.proofs.reply.call_with.Goals as goal

pub called-requires-clause-no_sink : goal.called-requires-clause-no_sink
called-requires-clause-no_sink g c =
    no_sink_ends c.args.calling.now c.args.request.items (chosen (secret_of c.args.class)) c.call-result.result
    (wire_told (g.X.Surroundings.told c.args.x.now)) (wire_told (g.X.Surroundings.told c.call-result.new.self))
    c.call-result.ensures.calls

pub called-requires-clause-no_line : goal.called-requires-clause-no_line
called-requires-clause-no_line g c =
    no_line_ends c.args.calling.now c.args.request.items (chosen (secret_of c.args.class)) c.call-result.result
    (wire_told (g.X.Surroundings.told c.args.x.now)) (wire_told (g.X.Surroundings.told c.call-result.new.self))
    c.call-result.ensures.calls

pub called-requires-clause-finished : goal.called-requires-clause-finished
called-requires-clause-finished g c =
    let before : Told = wire_told (g.X.Surroundings.told c.args.x.now) in
    let after : Told = wire_told (g.X.Surroundings.told c.call-result.new.self) in
    told_finished c.args.calling.now c.args.request.items (chosen (secret_of c.args.class)) c.call-result.result before
    after (ended_told c.args.calling.now c.args.request.items (secret_of c.args.class) c.call-result.result before after
    c.calls_tell.ensures c.requires.calling c.call-result.ensures.calls)

pub returns : goal.returns
returns g c =
    let a : Outside = g.X.Surroundings.told c.args.x.now in
    let b : Outside = g.X.Surroundings.told c.call-result.new.self in
    let d : Outside = g.X.Surroundings.told c.called.new.x in
    let class : Class = chosen (secret_of c.args.class) in
    let was = c.call-result.ensures in
    let then = c.called.ensures in
    let before : Told = wire_told a in
    let after : Told = record (wire_told d) { sink = a.out } in
    let made : CallIs c.args.calling.now c.args.request.items class c.call-result.result before after =
    subst (λ (t : Told). CallIs c.args.calling.now c.args.request.items class c.call-result.result before t)
    (sym (wire_called a b d was.out then.only)) was.calls in
    let asked : CallAsked = asked_by c.args.what.now in
    let ends : EndsByCall asked c.args.calling.now.turns c.call-result.result c.called.result a.out d.out =
    subst (λ (s : SinkTells). EndsByCall asked c.args.calling.now.turns c.call-result.result c.called.result s d.out)
    was.out then.ends in
    let tells : (v : CallerState) → c.call-result.result ≡ Ok (call_ends.Ended v)
    → CallTold c.args.calling.now c.args.request.items class v before after =
    ended_told c.args.calling.now c.args.request.items (secret_of c.args.class) c.call-result.result before after
    c.calls_tell.ensures c.requires.calling made in
    record {
      call =
          record {
            result = c.call-result.result;
            made = made;
            ends = ends;
            told = tells;
            long = λ n is. call_long asked c.args.calling.now c.args.request.items (secret_of c.args.class)
                c.call-result.result c.called.result before after a.out d.out n c.requires.calling tells ends is;
          };
      counts = counts_called _ a b d was.only was.out then.only then.no_file_fault then.sink_fault then.no_sink_fault
          (λ is. call_risen c.args.calling.now c.args.request.items class c.call-result.result before (wire_told b)
          was.calls (then.wire_fault is))
          (λ not. call_same c.args.calling.now c.args.request.items class c.call-result.result before (wire_told b)
          was.calls (then.no_wire_fault not));
      unnoted = λ is. unnoted_holds c.call-result.result was.unnoted (then.unnoted is);
      silent = then.only.err ∙ was.only.err;
      same_files = then.only.files ∙ was.only.files;
    }
