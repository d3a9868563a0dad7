use Rattle.std.proofs.Common.{rules, ◌≡◌, ◌≤◌, ◌*◌, ◌∙◌, length, sym, subst, w32, to_z, of_z}
use Rattle.rx_model.specs.declared.names.Limits.{Limits}
use Rattle.rx_model.specs.Names.{channel_of}
use Rattle.rx_rules.specs.Life as lives
use Rattle.rx_rules.specs.Looks.{Looks}
use Rattle.rx_node.specs.Mirrors.{IsActiveAt}
use Rattle.rx_server.specs.Handling.{Finds, IsFound}
use Rattle.rx_server.specs.Server.{ServerState, Serves}
use Rattle.rx_server.specs.declared.server.handling.Handled.TheVariants as founds
use Rattle.rx_server.proofs.Finishing.{open_unshut, server_kind}
use Rattle.rx_server.proofs.Handling.{found_latest}
use Rattle.rx_server.proofs.Quiet.{quiet_answers, quiet_serving}
use Rattle.rx_server.proofs.WriteAnswers.{write_broken, write_closed, write_open, write_unread}
use Rattle.rx_server.proofs.server.Server.write.Goals as goal

pub returns-then-not-all_read-clause-answered : goal.returns-then-not-all_read-clause-answered
returns-then-not-all_read-clause-answered g c =
    let found = subst
    (λ (sv : ServerState). (l : Looks) → Serves g.C.Class.class_of sv l
    → IsFound l c.args.c.now c.in-Open.key lives.Accepted)
    (sym c.self.view_is) c.in-Open.ensures.finds in
    rw (← c.self.view_is)
    (quiet_answers g.C.Class.class_of _ _ _
    (write_unread g.C.Class.class_of _ c.args.c.now c.in-Open.key (length c.args.bytes.now) found
    (λ l ch k m at its. sym c.if-not-all_read.true ∙ c.all_read.ensures l ch k m at its)) c.self.invariant.0)

pub write-requires-clause-unshut : goal.write-requires-clause-unshut
write-requires-clause-unshut g c =
    let found = subst
    (λ (sv : ServerState). (l : Looks) → Serves g.C.Class.class_of sv l
    → IsFound l c.args.c.now c.in-Open.key lives.Accepted)
    (sym c.self.view_is) c.in-Open.ensures.finds in
    let active = subst (λ (sv : ServerState). IsActiveAt sv.node c.in-Open.key c.in-Open.end) (sym c.self.view_is)
    c.in-Open.ensures.active in
    let serving = c.self.invariant.0 in
    let f = found serving.looks serving.serves in
    open_unshut g.C.Class.class_of c.self.inside.node serving.looks serving.serves.mirrors
    (server_kind c.self.inside.node.kind c.self.inside.service serving.server) c.in-Open.key c.in-Open.end
    (channel_of c.args.c.now) f.channel active f.call (found_latest serving.looks c.args.c.now c.in-Open.key _ f)
    f.life_is

pub invariant_of-self : goal.invariant_of-self
invariant_of-self g c =
    let found = subst
    (λ (sv : ServerState). (l : Looks) → Serves g.C.Class.class_of sv l
    → IsFound l c.args.c.now c.in-Open.key lives.Accepted)
    (sym c.self.view_is) c.in-Open.ensures.finds in
    let quiet = write_open g.C.Class.class_of _ c.args.c.now c.write.new.self c.in-Open.key c.write.result
    c.args.bytes.now
    (λ i. (c.type_inv.bytes i).fits) c.write.ensures.within c.write.ensures.same found
    (λ l ch k m at its. sym c.if-not-all_read.false ∙ c.all_read.ensures l ch k m at its) c.write.ensures.answered
    c.write.ensures.steps in (
      quiet_serving g.C.Class.class_of _ c.write.new.self _ quiet c.self.invariant.0,
      subst (λ (limits : Limits). 4 * limits.conns ≤ length c.self.inside.firsts.ready)
          (sym c.write.ensures.same.limits)
          c.self.invariant.1,
    )

pub returns-else-not-all_read-clause-answered : goal.returns-else-not-all_read-clause-answered
returns-else-not-all_read-clause-answered g c =
    let found = subst
    (λ (sv : ServerState). (l : Looks) → Serves g.C.Class.class_of sv l
    → IsFound l c.args.c.now c.in-Open.key lives.Accepted)
    (sym c.self.view_is) c.in-Open.ensures.finds in
    let quiet = write_open g.C.Class.class_of _ c.args.c.now c.write.new.self c.in-Open.key c.write.result
    c.args.bytes.now
    (λ i. (c.type_inv.bytes i).fits) c.write.ensures.within c.write.ensures.same found
    (λ l ch k m at its. sym c.if-not-all_read.false ∙ c.all_read.ensures l ch k m at its) c.write.ensures.answered
    c.write.ensures.steps in
    rw (← c.self.view_is) (quiet_answers g.C.Class.class_of _ c.write.new.self _ quiet c.self.invariant.0)

pub returns-in-Broken-clause-answered : goal.returns-in-Broken-clause-answered
returns-in-Broken-clause-answered g c =
    let found = subst
    (λ (sv : ServerState). (l : Looks) → Serves g.C.Class.class_of sv l
    → IsFound l c.args.c.now c.in-Broken._key (lives.Broken c.in-Broken.code))
    (sym c.self.view_is) c.in-Broken.ensures.finds in
    let code : to_z w32 (of_z w32 c.in-Broken.code) ≡ c.in-Broken.code = search rules in
    rw (← c.self.view_is, code)
    (quiet_answers g.C.Class.class_of _ _ _
    (write_broken g.C.Class.class_of _ c.args.c.now c.in-Broken._key (length c.args.bytes.now) c.in-Broken.code found)
    c.self.invariant.0)

pub returns-in-NotOpen-clause-answered : goal.returns-in-NotOpen-clause-answered
returns-in-NotOpen-clause-answered g c =
    let none = subst
    (λ (sv : ServerState). (l : Looks) → Serves g.C.Class.class_of sv l → Finds l c.args.c.now founds.NotOpen)
    (sym c.self.view_is) c.in-NotOpen.ensures.finds in
    rw (← c.self.view_is)
    (quiet_answers g.C.Class.class_of _ _ _
    (write_closed g.C.Class.class_of _ c.args.c.now (length c.args.bytes.now) none) c.self.invariant.0)
