use Rattle.std.proofs.Common.{◌≤◌, ◌*◌, Option, is_some, ap, sym, subst, length}
use Rattle.rx_model.specs.declared.names.Limits.{Limits}
use Rattle.rx_model.specs.Names.{connection_of}
use Rattle.rx_rules.specs.Records.{used}
use Rattle.rx_rules.specs.Looks.{ConnLooks}
use Rattle.rx_node.proofs.Steps.IdleSteps.{channel_conn}
use Rattle.rx_node.specs.Steps.{IsFound}
use Rattle.rx_server.specs.Server.{ServerState}
use Rattle.rx_server.proofs.FoundChannels.{found_channel, found_key, found_none}
use Rattle.rx_server.proofs.Serving.{key_used, parts_stay, role_of, role_stays, serves_unused, serves_used, serving_by}
use Rattle.rx_server.proofs.server.Server.touched.Goals as goal

pub returns-in_err-key-clause-steps : goal.returns-in_err-key-clause-steps
returns-in_err-key-clause-steps g c =
    λ l serves. serves_unused g.C.Class.class_of _ l (connection_of c.args.c.now)
    (found_none g.C.Class.class_of _ c.args.c.now c.args.channel c.requires.found c.in_err-key.was l serves.mirrors)
    serves

pub returns-in_err-key-clause-none : goal.returns-in_err-key-clause-none
returns-in_err-key-clause-none g c =
    λ l serves none. found_none g.C.Class.class_of _ c.args.c.now c.args.channel c.requires.found c.in_err-key.was l
    serves.mirrors

pub returns-in_err-key-clause-absent : goal.returns-in_err-key-clause-absent
returns-in_err-key-clause-absent g c = λ none. c.requires.found.absent c.in_err-key.was

pub touch-requires : goal.touch-requires
touch-requires g c =
    let found = subst (λ (sv : ServerState). IsFound g.C.Class.class_of sv.node c.args.c.now c.args.channel)
    (sym c.self.view_is) c.requires.found in
    found_key g.C.Class.class_of _ c.args.c.now c.args.channel found c.in_ok-key.key c.in_ok-key.was

pub invariant_of-self : goal.invariant_of-self
invariant_of-self g c =
    let i = c.self.invariant.0 in
    let same = parts_stay _ _ c.touch.ensures.same in
    let found = subst (λ (sv : ServerState). IsFound g.C.Class.class_of sv.node c.args.c.now c.args.channel)
    (sym c.self.view_is) c.requires.found in
    let at = found_channel g.C.Class.class_of _ c.args.c.now c.args.channel found c.in_ok-key.key c.in_ok-key.was
    i.looks i.serves.mirrors in (
      serving_by g.C.Class.class_of _ _ (used (connection_of c.args.c.now) i.looks) same
          (serves_used g.C.Class.class_of _ _ i.looks c.in_ok-key.key c.args.c.now at (role_of _ _ same)
          (λ r there. c.touch.ensures.steps i.looks r i.serves.mirrors there) i.serves) i,
      subst (λ (k : Limits). 4 * k.conns ≤ length c.self.inside.firsts.ready) (sym same.limits) c.self.invariant.1,
    )

pub returns-clause-steps : goal.returns-clause-steps
returns-clause-steps g c =
    let found = subst (λ (sv : ServerState). IsFound g.C.Class.class_of sv.node c.args.c.now c.args.channel)
    (sym c.self.view_is) c.requires.found in
    rw (← c.self.view_is)
    (λ l serves. serves_used g.C.Class.class_of _ _ l c.in_ok-key.key c.args.c.now
    (found_channel g.C.Class.class_of _ c.args.c.now c.args.channel found c.in_ok-key.key c.in_ok-key.was l
    serves.mirrors)
    (role_stays _ _ c.touch.ensures.same) (λ r there. c.touch.ensures.steps l r serves.mirrors there) serves)

pub returns-clause-channel : goal.returns-clause-channel
returns-clause-channel g c =
    λ l serves. key_used l (connection_of c.args.c.now) c.in_ok-key.key _
    (found_channel g.C.Class.class_of _ c.args.c.now c.args.channel c.requires.found c.in_ok-key.key c.in_ok-key.was l
    serves.mirrors)

pub returns-clause-known : goal.returns-clause-known
returns-clause-known g c =
    λ l serves. ap (λ (o : Option ConnLooks). is_some o)
    (channel_conn l c.in_ok-key.key _ serves.mirrors.orderly.conns.differ
    (found_channel g.C.Class.class_of _ c.args.c.now c.args.channel c.requires.found c.in_ok-key.key c.in_ok-key.was l
    serves.mirrors))
