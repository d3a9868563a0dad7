use Rattle.std.proofs.Common.{◌≤◌, ◌*◌, ◌∙◌, ℕ, List, Option, None, ap, arith, length, sym, subst}
use Rattle.rx_model.specs.declared.names.Limits.{Limits}
use Rattle.rx_queue.proofs.Renumbering.{length_set}
use Rattle.rx_server.specs.Server.{ServerState}
use Rattle.rx_server.proofs.AcceptCosts.{few_ready, found_cost, none_cost}
use Rattle.rx_server.proofs.Accepting.{accepted_answers, accepted_none, accepted_serving, held_answers, held_serving}
use Rattle.rx_server.proofs.Serving.{key_room}
use Rattle.rx_server.proofs.server.Server.accept_within.Goals as goal

pub next_waiting-requires : goal.next_waiting-requires
next_waiting-requires g c = c.self.invariant.0.there

pub remove-requires : goal.remove-requires
remove-requires g c =
    let room = key_room g.C.Class.class_of _ c.self.invariant.0 c.self.invariant.1 c.in_ok-key.key
    c.in_ok-key.ensures.key in
    let same = c.in_ok-key.ensures.room in
    omega (arith, room, same)

pub invariant_of-self : goal.invariant_of-self
invariant_of-self g c = (
  held_serving g.C.Class.class_of _ c.next_waiting.new.firsts c.in_err-key.ensures.order c.in_err-key.ensures.stands
      c.self.invariant.0,
  subst (λ (n : ℕ). 4 * c.self.inside.node.limits.conns ≤ n) (sym c.in_err-key.ensures.room) c.self.invariant.1,
)

pub returns-in_err-key-clause-answered : goal.returns-in_err-key-clause-answered
returns-in_err-key-clause-answered g c =
    let class = g.C.Class.class_of in
    let order = c.in_err-key.ensures.order in
    let stands = c.in_err-key.ensures.stands in
    let serving = held_serving class _ c.next_waiting.new.firsts order stands c.self.invariant.0 in
    rw (c.from_residual.ensures) (rw (← c.self.view_is)
    (held_answers class _ c.next_waiting.new.firsts order stands _ _
    (accepted_none class _ serving (λ l serves. c.in_err-key.ensures.first l serves.mirrors serves.ready))))

pub returns-in_err-key-clause-steps : goal.returns-in_err-key-clause-steps
returns-in_err-key-clause-steps g c =
    let old : ServerState = record {
      node = c.self.inside.node;
      service = c.self.inside.service;
      nonce = c.self.inside.nonce;
      firsts = c.self.inside.firsts;
    } in
    rw (← c.self.view_is)
    (none_cost old (record old { firsts = c.next_waiting.new.firsts })
    (few_ready c.self.inside.node c.self.inside.firsts c.each_came.ensures c.self.invariant.0.there)
    c.args.steps.now c.next_waiting.new.steps c.in_err-key.ensures.steps)

pub invariant_of-self-2 : goal.invariant_of-self-2
invariant_of-self-2 g c =
    let class = g.C.Class.class_of in
    let found = c.in_ok-key.ensures in
    let firsts = c.remove.new.self in
    let serving = held_serving class _ c.next_waiting.new.firsts found.order found.stands c.self.invariant.0 in (
      accepted_serving class _ c.accept.new.self c.in_ok-key.key firsts c.accept.ensures.same found.key
          c.remove.ensures.order c.remove.ensures.ready c.accept.ensures.steps serving,
      subst (λ (k : Limits). 4 * k.conns ≤ length firsts.ready) (sym c.accept.ensures.same.limits)
          (subst (λ (n : ℕ). 4 * c.self.inside.node.limits.conns ≤ n)
          (sym (ap (λ (r : List (Option ℕ)). length r) c.remove.ensures.ready
          ∙ length_set c.next_waiting.new.firsts.ready c.in_ok-key.key None ∙ found.room)) c.self.invariant.1),
    )

pub returns-clause-answered : goal.returns-clause-answered
returns-clause-answered g c =
    let class = g.C.Class.class_of in
    let found = c.in_ok-key.ensures in
    let serving = held_serving class _ c.next_waiting.new.firsts found.order found.stands c.self.invariant.0 in
    rw (← c.self.view_is)
    (held_answers class _ c.next_waiting.new.firsts found.order found.stands _ _
    (accepted_answers class _ c.accept.new.self c.in_ok-key.key c.remove.new.self c.accept.ensures.same found.key
    c.remove.ensures.order c.remove.ensures.ready c.accept.ensures.steps c.latest-c.result serving
    (λ l serves. found.first l serves.mirrors serves.ready) c.latest-c.ensures))

pub returns-clause-steps : goal.returns-clause-steps
returns-clause-steps g c =
    let found = c.in_ok-key.ensures in
    let old : ServerState = record {
      node = c.self.inside.node;
      service = c.self.inside.service;
      nonce = c.self.inside.nonce;
      firsts = c.self.inside.firsts;
    } in
    rw (← c.self.view_is)
    (found_cost old (record old { node = c.accept.new.self; firsts = c.remove.new.self })
    (few_ready c.self.inside.node c.self.inside.firsts c.each_came.ensures c.self.invariant.0.there)
    c.next_waiting.new.firsts.ready c.in_ok-key.key c.args.steps.now c.next_waiting.new.steps c.accept.new.steps
    c.remove.new.steps found.steps found.ready c.remove.ensures.ready c.accept.ensures.steps_taken
    c.remove.ensures.steps)
