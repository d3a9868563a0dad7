use Rattle.std.proofs.Common.{rules, ◌≡◌, ◌≤◌, ◌*◌, ◌||◌, ◌∙◌, not, true, ap, sym, subst, w32, to_z, of_z, length}
use Rattle.std.proofs.lemmas.Int.{to_z-of_z}
use Rattle.rx_model.specs.declared.names.Limits.{Limits}
use Rattle.rx_model.specs.Names.{channel_of}
use Rattle.rx_rules.specs.After.{is_zero}
use Rattle.rx_rules.specs.Life as lives
use Rattle.rx_rules.specs.Looks.{Looks}
use Rattle.rx_node.specs.Mirrors.{Mirrors}
use Rattle.rx_server.specs.Handling.{IsFound}
use Rattle.rx_server.specs.Server.{IsServerOf, ServerState, Serves}
use Rattle.rx_node.proofs.Arguments.{fits_code}
use Rattle.rx_server.proofs.FinishAnswers.{finish_answers, finish_broken, finish_unread, full_code, full_read}
use Rattle.rx_server.proofs.FinishAnswers.{may_finish}
use Rattle.rx_server.proofs.Finishing.{code_other, code_zero}
use Rattle.rx_server.proofs.Handling.{found_latest}
use Rattle.rx_server.proofs.Quiet.{quiet_answers, quiet_serving}
use Rattle.rx_server.proofs.server.Server.finish.Goals as goal
use Rattle.rx_server.proofs.server.Server.finish.Goals.{else-code-eq0-via-then-code-eq0+else-not-all_read}
use Rattle.rx_server.proofs.server.Server.finish.Goals.{else-code-eq0-via-else-code-eq0}

pub returns-then-not-all_read-clause-answered : goal.returns-then-not-all_read-clause-answered
returns-then-not-all_read-clause-answered g c =
    let found = subst
    (λ (sv : ServerState). (l : Looks) → Serves g.C.Class.class_of sv l
    → IsFound l c.args.c.now c.in-Open.key lives.Accepted)
    (sym c.self.view_is) c.in-Open.ensures.finds in
    let is = ap is_zero (code_zero c.args.code c.ranges.code c.if-code-eq0.true) in
    rw (← c.self.view_is)
    (quiet_answers g.C.Class.class_of _ _ _
    (finish_unread g.C.Class.class_of _ c.args.c.now c.in-Open.key c.args.code
    (fits_code c.args.code c.ranges.code) is found
    (λ l ch k m at its. sym c.if-not-all_read.true ∙ c.all_read.ensures l ch k m at its)) c.self.invariant.0)

pub finish_open-requires-clause-may : goal.finish_open-requires-clause-may
finish_open-requires-clause-may g c =
    let mirrors = subst
    (λ (sv : ServerState). (l : Looks) → Serves g.C.Class.class_of sv l
    → Mirrors g.C.Class.class_of c.self.inside.node l)
    c.self.view_is (λ l serves. serves.mirrors) in
    let fits : to_z w32 (of_z w32 c.args.code) ≡ c.args.code = to_z-of_z w32 c.args.code c.ranges.code in
    let full : (l : Looks) → Serves g.C.Class.class_of c.args.self.now l
    → (f : IsFound l c.args.c.now c.in-Open.key lives.Accepted)
    → (f.call.looks.received.ended || not (is_zero c.args.code)) ≡ true =
    elim c.else-code-eq0.branch as (λ branch. (l : Looks) → Serves g.C.Class.class_of c.args.self.now l
    → (f : IsFound l c.args.c.now c.in-Open.key lives.Accepted)
    → (f.call.looks.received.ended || not (is_zero c.args.code)) ≡ true) [
      | else-code-eq0-via-then-code-eq0+else-not-all_read w ↦ λ l serves f. full_read
          f.call.looks.received.ended c.args.code
          (sym (w.all_read.ensures l (channel_of c.args.c.now) f.call (mirrors l serves) f.channel
          (found_latest l c.args.c.now c.in-Open.key lives.Accepted f)) ∙ w.if-not-all_read.false)
      | else-code-eq0-via-else-code-eq0 w ↦ λ l serves f. full_code f.call.looks.received.ended c.args.code
          (code_other c.args.code w.if-code-eq0.false)
    ] in
    rw fits (λ l serves. (
    let f = c.in-Open.ensures.finds l serves in
    record {
      name = c.args.c.now;
      found = f;
      may = may_finish l c.args.c.now c.in-Open.key c.args.code f (full l serves f);
    }))

pub invariant_of-self : goal.invariant_of-self
invariant_of-self g c =
    let found = subst
    (λ (sv : ServerState). (l : Looks) → Serves g.C.Class.class_of sv l
    → IsFound l c.args.c.now c.in-Broken.key (lives.Broken c.in-Broken.told))
    (sym c.self.view_is) c.in-Broken.ensures.finds in (
      quiet_serving g.C.Class.class_of _ c.turn.new.self _
          (finish_broken g.C.Class.class_of _ c.args.c.now c.in-Broken.key c.args.code
          (fits_code c.args.code c.ranges.code)
          c.turn.new.self c.in-Broken.told c.turn.ensures.same found c.turn.ensures.steps) c.self.invariant.0,
      subst (λ (limits : Limits). 4 * limits.conns ≤ length c.self.inside.firsts.ready) (sym c.turn.ensures.same.limits)
          c.self.invariant.1,
    )

pub returns-else-code-eq0-clause-answered : goal.returns-else-code-eq0-clause-answered
returns-else-code-eq0-clause-answered g c =
    let mirrors = subst
    (λ (sv : ServerState). (l : Looks) → Serves g.C.Class.class_of sv l
    → Mirrors g.C.Class.class_of c.self.inside.node l)
    c.self.view_is (λ l serves. serves.mirrors) in
    let fits : to_z w32 (of_z w32 c.args.code) ≡ c.args.code = to_z-of_z w32 c.args.code c.ranges.code in
    let full : (l : Looks) → Serves g.C.Class.class_of c.args.self.now l
    → (f : IsFound l c.args.c.now c.in-Open.key lives.Accepted)
    → (f.call.looks.received.ended || not (is_zero c.args.code)) ≡ true =
    elim c.else-code-eq0.branch as (λ branch. (l : Looks) → Serves g.C.Class.class_of c.args.self.now l
    → (f : IsFound l c.args.c.now c.in-Open.key lives.Accepted)
    → (f.call.looks.received.ended || not (is_zero c.args.code)) ≡ true) [
      | else-code-eq0-via-then-code-eq0+else-not-all_read w ↦ λ l serves f. full_read
          f.call.looks.received.ended c.args.code
          (sym (w.all_read.ensures l (channel_of c.args.c.now) f.call (mirrors l serves) f.channel
          (found_latest l c.args.c.now c.in-Open.key lives.Accepted f)) ∙ w.if-not-all_read.false)
      | else-code-eq0-via-else-code-eq0 w ↦ λ l serves f. full_code f.call.looks.received.ended c.args.code
          (code_other c.args.code w.if-code-eq0.false)
    ] in
    let server = subst (λ (sv : ServerState). IsServerOf sv.node.kind sv.service) c.self.view_is
    c.self.invariant.0.server in
    finish_answers g.C.Class.class_of c.args.self.now c.finish_open.new.self c.args.c.now c.in-Open.key c.args.code
    (fits_code c.args.code c.ranges.code) server c.finish_open.ensures.same.setup c.in-Open.ensures.finds full _ fits
    c.finish_open.ensures.steps

pub returns-in-Broken-clause-answered : goal.returns-in-Broken-clause-answered
returns-in-Broken-clause-answered g c =
    let found = subst
    (λ (sv : ServerState). (l : Looks) → Serves g.C.Class.class_of sv l
    → IsFound l c.args.c.now c.in-Broken.key (lives.Broken c.in-Broken.told))
    (sym c.self.view_is) c.in-Broken.ensures.finds in
    let told : to_z w32 (of_z w32 c.in-Broken.told) ≡ c.in-Broken.told = search rules in
    rw (← c.self.view_is, told)
    (quiet_answers g.C.Class.class_of _ c.turn.new.self _
    (finish_broken g.C.Class.class_of _ c.args.c.now c.in-Broken.key c.args.code (fits_code c.args.code c.ranges.code)
    c.turn.new.self c.in-Broken.told c.turn.ensures.same found c.turn.ensures.steps) c.self.invariant.0)
