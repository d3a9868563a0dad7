use Rattle.std.proofs.Common.{◌<◌, ◌+◌, ◌*◌, ◌/◌, ℕ, ℤ, w32, to_z, of_z, length, refl, ◌∙◌, ap, sym, subst, arith}
use Rattle.std.proofs.lemmas.Int.{to_z-of_z}
use Rattle.rx_rules.specs.After.{stopped_all}
use Rattle.rx_rules.specs.Looks.{Looks}
use Rattle.rx_node.specs.Mirrors.{Mirrors}
use Rattle.rx_rules.specs.Life.{after_code}
use Rattle.rx_node.specs.Node.{NodeState}
use Rattle.rx_node.proofs.LoopEnds.{code_of_live}
use Rattle.rx_node.proofs.Steps.LoopSteps.{among_changed, among_conn, among_first, among_more}
use Rattle.rx_node.proofs.SameChannels.{same_itself, same_then}
use Rattle.rx_node.proofs.node.Node.reach_all.Goals as goal

pub loop-chan-init : goal.loop-chan-init
loop-chan-init g c =
    let place = c.args.place in
    let code = to_z w32 (of_z w32 c.args.code) in
    record {
      stopped = λ l x m there. among_first g.C.Class.class_of c.args.self.now l m
          (λ k. record k { life = after_code code k.life }) (code_of_live code) (4 * place)
          (4 * place + 0) (omega arith);
      places = λ q apart. same_itself _ q;
      same = record { kind = refl; limits = refl; prompt = refl; secret = refl; moment = refl; names = refl };
    }

pub overflow_mul-place : goal.overflow_mul-place
overflow_mul-place g c =
    let place = c.args.place in
    let low = subst (λ (n : NodeState). place < length n.table.conns) (sym c.self.view_is) c.requires in
    let i = c.self.invariant in
    omega (arith, low, i.0.few, i.0.fits.limits.few_conns)

pub overflow_add-place : goal.overflow_add-place
overflow_add-place g c =
    let place = c.args.place in
    let low = subst (λ (n : NodeState). place < length n.table.conns) (sym c.self.view_is) c.requires in
    let i = c.self.invariant in
    omega (arith, low, i.0.few, i.0.fits.limits.few_conns)

pub loop-chan-preserved : goal.loop-chan-preserved
loop-chan-preserved g c =
    let place = c.args.place in
    let code = to_z w32 (of_z w32 c.args.code) in
    let chan = c.loop-chan.chan in
    let before = λ (l : Looks) (m : Mirrors g.C.Class.class_of c.args.self.now l).
    among_changed g.C.Class.class_of c.args.self.now l m (λ k. record k { life = after_code code k.life })
    (code_of_live code)
    (4 * place) (4 * place + chan) in
    let old = c.loop-chan.invariant.same in
    let new = c.reach.ensures.same in
    record {
      stopped = λ l x m there. among_more g.C.Class.class_of c.args.self.now l m
          (λ k. record k { life = after_code code k.life }) (code_of_live code) c.reach.new.self (4 * place)
          (4 * place + chan) (4 * place + (chan + 1)) (omega arith) (omega (arith, c.loop-chan-test.true, c.requires))
          (omega arith)
          (λ ch at. c.reach.ensures.steps (before l m) ch (c.loop-chan.invariant.stopped l x m there) at);
      places = λ q apart. same_then _ _ _ q (c.loop-chan.invariant.places q apart)
          (c.reach.ensures.others q
          (λ same. apart (ap (λ (k : ℕ). k / 4) same ∙ omega (arith, c.loop-chan-test.true))));
      same = record {
        kind = new.kind ∙ old.kind;
        limits = new.limits ∙ old.limits;
        prompt = new.prompt ∙ old.prompt;
        secret = new.secret ∙ old.secret;
        moment = new.moment ∙ old.moment;
        names = new.names ∙ old.names;
      };
    }

pub returns-clause-steps : goal.returns-clause-steps
returns-clause-steps g c =
    let place = c.args.place in
    let code = to_z w32 (of_z w32 c.args.code) in
    λ l x m there.
    subst (λ (z : ℤ). Mirrors g.C.Class.class_of c.loop-chan.self (stopped_all x.connection z l))
    (to_z-of_z w32 c.args.code c.ranges.code)
    (among_conn g.C.Class.class_of c.args.self.now l m (λ k. record k { life = after_code code k.life })
    (code_of_live code) c.loop-chan.self place (4 * place + c.loop-chan.chan) x there
    (omega (arith, c.loop-chan-test.false, c.loop-chan.auto.chan-end)) (c.loop-chan.invariant.stopped l x m there))
