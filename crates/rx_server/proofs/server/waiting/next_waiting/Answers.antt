use Rattle.std.proofs.Common.{◌∙◌, ℕ, List, Option, None, ap, arith, refl, subst, sym, length}
use Rattle.rx_rules.proofs.EveryLaws.{Every}
use Rattle.rx_queue.proofs.Renumbering.{length_set}
use Rattle.rx_queue.specs.Queue.{is_ready}
use Rattle.rx_node.specs.Mirrors.{IsKey}
use Rattle.rx_node.specs.Node.{setup_of}
use Rattle.rx_server.specs.Accepting.{Paid}
use Rattle.rx_server.specs.Handling.{enters_at}
use Rattle.rx_server.proofs.Accepting.{found_there}
use Rattle.rx_server.proofs.AcceptCosts.{paid_held, paid_look, paid_none, ready_fewer}
use Rattle.rx_server.proofs.ReadyLaws.{enters_parts, first_passes, none_passes, ready_enters, ready_held}
use Rattle.rx_server.proofs.server.waiting.next_waiting.Goals as goal

pub held-init : goal.held-init
held-init g c =
    record {
      order = refl;
      room = refl;
      stands = λ m mirrors stands. stands;
      paid = paid_none c.args.firsts.now.ready
          c.args.steps.now;
    }

pub can_enter-requires : goal.can_enter-requires
can_enter-requires g c =
    found_there c.args.node.now c.held.firsts c.in-Some.key
    (subst (λ (ks : List ℕ). Every (IsKey c.args.node.now) ks) (sym c.held.invariant.order) c.requires)
    (sym c.in-Some.ensures.first)

pub held-preserved : goal.held-preserved
held-preserved g c =
    let class = g.C.Class.class_of in
    let was = c.held.invariant in
    let key = c.in-Some.key in
    let ready = c.held.firsts.ready in
    record {
      order = c.hold.ensures.order ∙ was.order;
      room = ap (λ (r : List (Option ℕ)). length r) c.hold.ensures.ready ∙ length_set ready key None ∙ was.room;
      stands = λ m mirrors stands. ready_held (class c.args.node.now.secret).challenges c.held.firsts c.hold.new.self m
          key
          c.hold.ensures.order c.hold.ensures.ready
          (sym (enters_parts (setup_of class c.args.node.now) m key mirrors.orderly)
          ∙ sym (c.can_enter.ensures m mirrors) ∙ c.if-can_enter.false)
          (was.stands m mirrors stands);
      paid = subst (λ (r : List (Option ℕ)). Paid 0 c.args.firsts.now.ready r c.args.steps.now c.hold.new.steps)
          (sym c.hold.ensures.ready)
          (paid_held c.args.firsts.now.ready ready key c.args.steps.now c.first.new.steps c.hold.new.steps
          (paid_look c.args.firsts.now.ready ready c.args.steps.now c.held.steps c.first.new.steps was.paid
          c.in-Some.ensures.steps) c.in-Some.ensures.ready c.hold.ensures.steps);
    }

pub held-smaller : goal.held-smaller
held-smaller g c =
    let fewer = ready_fewer c.held.firsts.ready c.in-Some.key c.in-Some.ensures.ready in
    rw c.hold.ensures.ready (omega (arith, fewer))

pub returns-then-can_enter-clause-key : goal.returns-then-can_enter-clause-key
returns-then-can_enter-clause-key g c =
    found_there c.args.node.now c.held.firsts c.in-Some.key
    (subst (λ (ks : List ℕ). Every (IsKey c.args.node.now) ks) (sym c.held.invariant.order) c.requires)
    (sym c.in-Some.ensures.first)

pub returns-then-can_enter-clause-first : goal.returns-then-can_enter-clause-first
returns-then-can_enter-clause-first g c =
    let class = g.C.Class.class_of in
    let s = setup_of class c.args.node.now in
    λ m mirrors stands. sym (first_passes (is_ready c.held.firsts) (enters_at s m) c.held.firsts.order c.in-Some.key
    (ready_enters s c.held.firsts m mirrors.orderly stands) (sym c.in-Some.ensures.first)
    (sym (c.can_enter.ensures m mirrors) ∙ c.if-can_enter.true))

pub returns-clause-first : goal.returns-clause-first
returns-clause-first g c =
    let class = g.C.Class.class_of in
    let s = setup_of class c.args.node.now in
    λ m mirrors stands. sym (none_passes (is_ready c.held.firsts) (enters_at s m) c.held.firsts.order
    (ready_enters s c.held.firsts m mirrors.orderly stands) (sym c.in_default.ensures.first))
