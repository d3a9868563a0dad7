use Rattle.std.proofs.Common.{rules, to_z, of_z, w32, ◌≡◌, ◌≤◌, ◌*◌, length, sym, subst}
use Rattle.rx_model.specs.declared.names.Limits.{Limits}
use Rattle.rx_rules.specs.Life as lives
use Rattle.rx_rules.specs.Looks.{Looks}
use Rattle.rx_server.specs.Handling.{Finds, IsFound}
use Rattle.rx_server.specs.declared.server.handling.Handled.TheVariants as founds
use Rattle.rx_server.specs.Server.{ServerState, Serves}
use Rattle.rx_server.proofs.Handling.{read_broken, read_closed, read_open}
use Rattle.rx_server.proofs.Quiet.{quiet_answers, quiet_serving}
use Rattle.rx_server.proofs.server.Server.read.Goals as goal

pub invariant_of-self : goal.invariant_of-self
invariant_of-self g c =
    let found = subst
    (λ (sv : ServerState). (l : Looks) → Serves g.C.Class.class_of sv l
    → IsFound l c.args.c.now c.in-Open.key lives.Accepted)
    (sym c.self.view_is) c.in-Open.ensures.finds in
    let quiet = read_open g.C.Class.class_of _ c.args.c.now (length c.args.to.now) c.requires
    c.read.new.self c.in-Open.key
    c.read.result c.read.new.to c.read.ensures.same found c.read.ensures.answered c.read.ensures.steps in (
      quiet_serving g.C.Class.class_of _ c.read.new.self _ quiet c.self.invariant.0,
      subst (λ (limits : Limits). 4 * limits.conns ≤ length c.self.inside.firsts.ready) (sym c.read.ensures.same.limits)
          c.self.invariant.1,
    )

pub returns-in-Open-clause-answered : goal.returns-in-Open-clause-answered
returns-in-Open-clause-answered g c =
    let found = subst
    (λ (sv : ServerState). (l : Looks) → Serves g.C.Class.class_of sv l
    → IsFound l c.args.c.now c.in-Open.key lives.Accepted)
    (sym c.self.view_is) c.in-Open.ensures.finds in
    let quiet = read_open g.C.Class.class_of _ c.args.c.now (length c.args.to.now) c.requires
    c.read.new.self c.in-Open.key
    c.read.result c.read.new.to c.read.ensures.same found c.read.ensures.answered c.read.ensures.steps in
    rw (c.served.ensures)
    (rw (← c.self.view_is) (quiet_answers g.C.Class.class_of _ c.read.new.self _ quiet c.self.invariant.0))

pub returns-in-Broken-clause-answered : goal.returns-in-Broken-clause-answered
returns-in-Broken-clause-answered g c =
    let found = subst
    (λ (sv : ServerState). (l : Looks) → Serves g.C.Class.class_of sv l
    → IsFound l c.args.c.now c.in-Broken._key (lives.Broken c.in-Broken.code))
    (sym c.self.view_is) c.in-Broken.ensures.finds in
    let code : to_z w32 (of_z w32 c.in-Broken.code) ≡ c.in-Broken.code = search rules in
    rw (← c.self.view_is, code)
    (quiet_answers g.C.Class.class_of _ _ _
    (read_broken g.C.Class.class_of _ c.args.c.now (length c.args.to.now) c.requires c.in-Broken._key
    c.in-Broken.code found)
    c.self.invariant.0)

pub returns-in-NotOpen-clause-answered : goal.returns-in-NotOpen-clause-answered
returns-in-NotOpen-clause-answered g c =
    let none = subst
    (λ (sv : ServerState). (l : Looks) → Serves g.C.Class.class_of sv l → Finds l c.args.c.now founds.NotOpen)
    (sym c.self.view_is) c.in-NotOpen.ensures.finds in
    rw (← c.self.view_is)
    (quiet_answers g.C.Class.class_of _ _ _
    (read_closed g.C.Class.class_of _ c.args.c.now (length c.args.to.now) c.requires none) c.self.invariant.0)
