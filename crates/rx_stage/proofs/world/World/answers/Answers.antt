use Rattle.std.proofs.Common.{◌≡◌, ◌∙◌, ◌<◌, ◌≤◌, List, ap, sym, subst, length, take, drop, suc, get_or}
use Rattle.std.proofs.lemmas.List.{take_all}
use Rattle.xdr_value.specs.View.{procs_of, types_of}
use Rattle.rx_plan.specs.Answers.{answer_line, answer_lines}
use Rattle.rx_stage.specs.Runs.{PutsAll}
use Rattle.rx_stage.specs.Showing.{PutsBy}
use Rattle.rx_plan.specs.Stages.{InvokedState}
use Rattle.rx_stage.specs.Shown.{WorldState}
use Rattle.rx_stage.specs.Tells.{told}
use Rattle.rx_stage.proofs.Putting.{lines_more, lines_parted, puts_ended, puts_more, puts_none}
use Rattle.rx_stage.proofs.world.World.answers.Goals as goal

pub loop-invoked-init : goal.loop-invoked-init
loop-invoked-init g c = λ noted. puts_none (told noted (g.O.Sink.told c.args.out.now) (g.O.Sink.faults c.args.out.now))

pub returns-in_err-put_answer : goal.returns-in_err-put_answer
returns-in_err-put_answer g c =
    let t = types_of c.args.iface.now.types.items in
    let ps = procs_of c.args.iface.now.procs.items in
    let ls = c.args.plan.now in
    let k = c.loop-invoked.invoked-index in
    let here = c.as_slice-invoked-items.result.now in
    let is = c.args.self.now.callers in
    let i = c.invoked-item.result in
    let same : here ≡ is = c.as_slice-invoked-items.ensures ∙ ap (λ (w : WorldState). w.callers) c.self.view_is in
    let there = subst (λ js. k < length js) same c.loop-invoked-test.true in
    let at : i ≡ get_or is k i = subst (λ js. i ≡ get_or js k i) same c.invoked-item.is in
    λ noted.
    subst (λ bytes. PutsBy c.from_residual.result
    (told noted (g.O.Sink.told c.args.out.now) (g.O.Sink.faults c.args.out.now))
    (told noted (g.O.Sink.told c.put_answer.new.out) (g.O.Sink.faults c.put_answer.new.out)) bytes)
    (sym (lines_parted t ps ls is k i there at))
    (puts_ended c.put_answer.result c.from_residual.result c.in_err-put_answer.field-0.0 _
    (told noted (g.O.Sink.told c.loop-invoked.out) (g.O.Sink.faults c.loop-invoked.out)) _
    (answer_lines t ps ls (take k is)) (answer_line t ps ls i) (answer_lines t ps ls (drop (suc k) is))
    (c.loop-invoked.invariant noted) c.in_err-put_answer.was c.from_residual.ensures (c.put_answer.ensures noted))

pub loop-invoked-preserved : goal.loop-invoked-preserved
loop-invoked-preserved g c =
    let t = types_of c.args.iface.now.types.items in
    let ps = procs_of c.args.iface.now.procs.items in
    let ls = c.args.plan.now in
    let k = c.loop-invoked.invoked-index in
    let here = c.as_slice-invoked-items.result.now in
    let is = c.args.self.now.callers in
    let i = c.invoked-item.result in
    let same : here ≡ is = c.as_slice-invoked-items.ensures ∙ ap (λ (w : WorldState). w.callers) c.self.view_is in
    let there = subst (λ js. k < length js) same c.loop-invoked-test.true in
    let at : i ≡ get_or is k i = subst (λ js. i ≡ get_or js k i) same c.invoked-item.is in
    λ noted.
    subst (λ bytes. PutsAll (told noted (g.O.Sink.told c.args.out.now) (g.O.Sink.faults c.args.out.now))
    (told noted (g.O.Sink.told c.put_answer.new.out) (g.O.Sink.faults c.put_answer.new.out)) bytes)
    (sym (lines_more t ps ls is k i there at))
    (puts_more _ (told noted (g.O.Sink.told c.loop-invoked.out) (g.O.Sink.faults c.loop-invoked.out)) _
    (answer_lines t ps ls (take k is)) (answer_line t ps ls i)
    (c.loop-invoked.invariant noted)
    (subst (λ r. PutsBy r (told noted (g.O.Sink.told c.loop-invoked.out) (g.O.Sink.faults c.loop-invoked.out))
    (told noted (g.O.Sink.told c.put_answer.new.out) (g.O.Sink.faults c.put_answer.new.out)) (answer_line t ps ls i))
    c.in_ok-put_answer.was (c.put_answer.ensures noted)))

pub returns : goal.returns
returns g c =
    let t = types_of c.args.iface.now.types.items in
    let ps = procs_of c.args.iface.now.procs.items in
    let ls = c.args.plan.now in
    let k = c.loop-invoked.invoked-index in
    let is = c.args.self.now.callers in
    let same = c.as_slice-invoked-items.ensures ∙ ap (λ (w : WorldState). w.callers) c.self.view_is in
    let over = subst (λ (js : List InvokedState). length js ≤ k) same c.loop-invoked-test.false in
    λ noted.
    subst (λ js. PutsAll (told noted (g.O.Sink.told c.args.out.now) (g.O.Sink.faults c.args.out.now))
    (told noted (g.O.Sink.told c.loop-invoked.out) (g.O.Sink.faults c.loop-invoked.out)) (answer_lines t ps ls js))
    (take_all k is over) (c.loop-invoked.invariant noted)
