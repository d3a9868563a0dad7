use Rattle.std.proofs.Common.{rules, ◌≤◌, ◌<◌, ◌*◌, ◌/◌, ℕ, ℤ, ap, sym, subst, w32, length}
use Rattle.std.proofs.lemmas.Int.{to_z-of_z}
use mir.Val.{SFits}
use Rattle.rx_model.specs.declared.names.Limits.{Limits}
use Rattle.rx_model.specs.Names.{Channel, Connection}
use Rattle.rx_rules.specs.After.{stopped_all}
use Rattle.rx_rules.specs.Looks.{Looks}
use Rattle.rx_node.specs.Mirrors.{IsChannel, IsKey, Mirrors}
use Rattle.rx_node.proofs.OwedItems.{has_channel}
use Rattle.rx_server.specs.Server.{ServerState}
use Rattle.rx_server.proofs.Serving.{parts_stay, role_of, serves_stopped, serving_by}
use Rattle.rx_server.proofs.server.Server.stop_all.Goals as goal

stopped : (g : _) (c : goal.After-reach_all g) (l : Looks) (ch : Channel)
    → Mirrors g.C.Class.class_of c.self.inside.node l
    → IsChannel l c.args.key ch
    → Mirrors g.C.Class.class_of c.reach_all.new.self (stopped_all ch.connection c.in-Abort.code l)
stopped g c l ch m at =
    let fits : SFits w32 c.in-Abort.code = search rules in
    subst (λ (code : ℤ). Mirrors g.C.Class.class_of c.reach_all.new.self (stopped_all ch.connection code l))
    (to_z-of_z w32 c.in-Abort.code fits)
    (subst (λ (x : Connection). Mirrors g.C.Class.class_of c.reach_all.new.self (stopped_all x _ l))
    (sym (ap (λ (d : Channel). d.connection) at.is)) (c.reach_all.ensures.steps l at.conn m at.there))

pub invariant_of-self : goal.invariant_of-self
invariant_of-self g c =
    let i = c.self.invariant.0 in
    let same = parts_stay _ _ c.reach_all.ensures.same in
    let key = subst (λ (sv : ServerState). IsKey sv.node c.args.key) (sym c.self.view_is) c.requires in
    let it = has_channel i.looks c.args.key
    (subst (λ (n : ℕ). c.args.key / 4 < n) i.serves.mirrors.conns.conns key) in (
      serving_by g.C.Class.class_of _ _ (stopped_all it.channel.connection c.in-Abort.code i.looks) same
          (serves_stopped g.C.Class.class_of _ _ i.looks it.channel c.in-Abort.code (role_of _ _ same)
          (stopped g c i.looks it.channel i.serves.mirrors it.at) i.serves) i,
      subst (λ (k : Limits). 4 * k.conns ≤ length c.self.inside.firsts.ready) (sym same.limits) c.self.invariant.1,
    )

pub returns-in-Abort-clause-steps : goal.returns-in-Abort-clause-steps
returns-in-Abort-clause-steps g c =
    let same = parts_stay _ _ c.reach_all.ensures.same in
    rw (← c.self.view_is, c.in-Abort.is)
    (λ l ch serves at. serves_stopped g.C.Class.class_of _ _ l ch c.in-Abort.code (role_of _ _ same)
    (stopped g c l ch serves.mirrors at) serves)
