use Rattle.std.proofs.Common.{◌∙◌, ◌+◌, suc, Err, Ok, Some, None, refl, sym, subst, take, drop}
use Rattle.std.proofs.Math.Numerals.{add-one}
use Rattle.std.proofs.lemmas.List.{take_all}
use Rattle.rx_jobs.specs.Handlers.{handlers_of}
use Rattle.rx_plan.specs.Follows.{Progress, next_part}
use Rattle.rx_stage.specs.Ran.{Ran, stop_of}
use Rattle.rx_stage.specs.Showing.{Made, ShowsRun, ended_at}
use Rattle.rx_stage.specs.Shown.{Shows, script_of}
use Rattle.rx_stage.specs.Tells.{told}
use Rattle.rx_stage.proofs.LinesGone.{Behind, behind_all, behind_ended, behind_more, behind_none, grown, parted}
use Rattle.rx_stage.proofs.runs.Running.make_lines.Goals as goal

pub loop-before-init : goal.loop-before-init
loop-before-init g c =
    record { counted = c.requires.counted; script = refl; behind = λ p shows. behind_none _ p _ _ shows }

pub returns-in-Err-clause-made : goal.returns-in-Err-clause-made
returns-in-Err-clause-made g c =
    let script = script_of c.args.self.now.world in
    let k = c.loop-before.before in
    let rest = c.args.rest.now in
    let l = c.index-rest-before.result in
    let old = c.loop-before.self in
    let new = c.make_line-made.new.self in
    let a = told (g.J.Journal.told c.args.book.now) (g.O.Sink.told c.args.out.now) (g.O.Sink.faults c.args.out.now) in
    let b = told (g.J.Journal.told c.loop-before.book) (g.O.Sink.told c.loop-before.out)
    (g.O.Sink.faults c.loop-before.out) in
    let d = told (g.J.Journal.told c.make_line-made.new.book) (g.O.Sink.told c.make_line-made.new.out)
    (g.O.Sink.faults c.make_line-made.new.out) in
    λ p shows.
    subst (λ o. Made (handlers_of c.args.iface.now script) rest p (Shows new.world) (Err o) a d) (sym c.ended.ensures)
    (subst (λ xs. Made (handlers_of c.args.iface.now script) xs p (Shows new.world) (Err
    (ended_at l.line c.in-Err.stop)) a d)
    (parted rest k l c.loop-before-test.true c.index-rest-before.is)
    (behind_ended (handlers_of c.args.iface.now script) (take k rest) (drop (suc k) rest) l p (ShowsRun old (k + 1))
    (ShowsRun new (suc (k + 1))) (Shows new.world) c.in-Err.stop a b d (c.loop-before.invariant.behind p shows)
    (subst (λ s. (q : Progress) → ShowsRun old (k + 1) q
    → Ran (next_part (handlers_of c.args.iface.now s) l.what q) (ShowsRun new (suc (k + 1))) (Some c.in-Err.stop) b d)
    c.loop-before.invariant.script
    (subst (λ r. (q : Progress) → ShowsRun old (k + 1) q
    → Ran (next_part (handlers_of c.args.iface.now (script_of old.world)) l.what q) (ShowsRun new (suc (k + 1)))
    (stop_of r) b d) c.in-Err.is c.make_line-made.ensures.made))))

pub loop-before-preserved : goal.loop-before-preserved
loop-before-preserved g c =
    let script = script_of c.args.self.now.world in
    let k = c.loop-before.before in
    let rest = c.args.rest.now in
    let l = c.index-rest-before.result in
    let old = c.loop-before.self in
    let new = c.make_line-made.new.self in
    let a = told (g.J.Journal.told c.args.book.now) (g.O.Sink.told c.args.out.now) (g.O.Sink.faults c.args.out.now) in
    let b = told (g.J.Journal.told c.loop-before.book) (g.O.Sink.told c.loop-before.out)
    (g.O.Sink.faults c.loop-before.out) in
    let d = told (g.J.Journal.told c.make_line-made.new.book) (g.O.Sink.told c.make_line-made.new.out)
    (g.O.Sink.faults c.make_line-made.new.out) in
    record {
      counted = c.in_default.ensures.counted;
      script = c.make_line-made.ensures.script ∙ c.loop-before.invariant.script;
      behind = λ p shows.
          subst (λ n. Behind (handlers_of c.args.iface.now script) (take (k + 1) rest) p (ShowsRun new n) a d)
          (sym (add-one (k + 1)))
          (subst (λ xs. Behind (handlers_of c.args.iface.now script) xs p (ShowsRun new (suc (k + 1))) a d)
          (sym (grown rest k l c.loop-before-test.true c.index-rest-before.is))
          (behind_more (handlers_of c.args.iface.now script) (take k rest) l p (ShowsRun old (k + 1))
          (ShowsRun new (suc (k + 1))) a b d (c.loop-before.invariant.behind p shows)
          (subst (λ s. (q : Progress) → ShowsRun old (k + 1) q
          → Ran (next_part (handlers_of c.args.iface.now s) l.what q) (ShowsRun new (suc (k + 1))) None b d)
          c.loop-before.invariant.script
          (subst (λ r. (q : Progress) → ShowsRun old (k + 1) q
          → Ran (next_part (handlers_of c.args.iface.now (script_of old.world)) l.what q) (ShowsRun new (suc (k + 1)))
          (stop_of r) b d) c.in_default.is c.make_line-made.ensures.made))));
    }

pub returns-clause-made : goal.returns-clause-made
returns-clause-made g c =
    let script = script_of c.args.self.now.world in
    let k = c.loop-before.before in
    let rest = c.args.rest.now in
    let old = c.loop-before.self in
    let a = told (g.J.Journal.told c.args.book.now) (g.O.Sink.told c.args.out.now) (g.O.Sink.faults c.args.out.now) in
    let b = told (g.J.Journal.told c.loop-before.book) (g.O.Sink.told c.loop-before.out)
    (g.O.Sink.faults c.loop-before.out) in
    λ p shows.
    subst (λ xs. Made (handlers_of c.args.iface.now script) xs p (Shows old.world) (Ok tt) a b)
    (take_all k rest c.loop-before-test.false)
    (behind_all (handlers_of c.args.iface.now script) (take k rest) p old (k + 1) a b
    (c.loop-before.invariant.behind p shows))
