use Rattle.std.proofs.Common.{◌≡◌, ◌≤◌, ◌*◌, ◌∙◌, ℕ, false, ap, sym, subst, length, arith, Option, is_some}
use Rattle.std.proofs.lemmas.Bool.{false≢true}
use Rattle.rx_model.specs.declared.names.CallName.{CallName}
use Rattle.rx_model.specs.declared.names.Limits.{Limits}
use Rattle.rx_model.specs.Names.{channel_of}
use Rattle.rx_packet.specs.Seen.{message_of}
use Rattle.rx_rules.specs.Life.{is_active}
use Rattle.rx_rules.specs.Looks.{call_at, is_call}
use Rattle.rx_node.specs.Mirrors.{IsKey}
use Rattle.rx_node.proofs.KeptKeys.{kept_key}
use Rattle.rx_server.specs.Server.{ServerState, Serves}
use Rattle.rx_server.specs.Taking.{OwnsSome}
use Rattle.rx_server.proofs.Serving.{key_room}
use Rattle.rx_server.proofs.TakenLive.{first_serving, other_serving, proof_serving, took_first, took_fresh, took_other}
use Rattle.rx_server.proofs.TakenLive.{took_proof}
use Rattle.rx_server.proofs.server.Server.take_live.Goals as goal

pub list_behind-requires-clause-key : goal.list_behind-requires-clause-key
list_behind-requires-clause-key g c =
    kept_key c.self.inside.node c.take-took.new.self c.args.key c.take-took.ensures.same
    (subst (λ (sv : ServerState). IsKey sv.node c.args.key) (sym c.self.view_is) c.requires.key)

pub list_behind-requires-clause-room : goal.list_behind-requires-clause-room
list_behind-requires-clause-room g c =
    let its = subst (λ (sv : ServerState). IsKey sv.node c.args.key) (sym c.self.view_is) c.requires.key in
    let room = key_room g.C.Class.class_of _ c.self.invariant.0 c.self.invariant.1 c.args.key its in
    omega (arith, room)

pub list_behind-requires-clause-fresh : goal.list_behind-requires-clause-fresh
list_behind-requires-clause-fresh g c =
    let class = g.C.Class.class_of in
    let some = subst (λ (sv : ServerState). OwnsSome class sv c.args.key c.args.c.now) (sym c.self.view_is)
    c.requires.own in
    took_fresh class _ c.take-took.new.self c.args.key c.args.c.now
    (message_of c.args.head.now c.args.body.now) c.take-took.result c.take-took.ensures.same
    c.take-took.ensures.answered c.take-took.ensures.steps
    (sym c.is_first.ensures ∙ c.if-is_first.true) some

pub admit_place-requires-clause-room : goal.admit_place-requires-clause-room
admit_place-requires-clause-room g c =
    let its = subst (λ (sv : ServerState). IsKey sv.node c.args.key) (sym c.self.view_is) c.requires.key in
    key_room g.C.Class.class_of _ c.self.invariant.0 c.self.invariant.1 c.args.key its

-- ---- its packet 1 is kept

pub invariant_of-self : goal.invariant_of-self
invariant_of-self g c =
    let class = g.C.Class.class_of in
    let its = subst (λ (sv : ServerState). IsKey sv.node c.args.key) (sym c.self.view_is) c.requires.key in
    let some = subst (λ (sv : ServerState). OwnsSome class sv c.args.key c.args.c.now) (sym c.self.view_is)
    c.requires.own in
    let firsts = c.list_behind.new.firsts in (
      first_serving class _ c.take-took.new.self c.args.key c.args.c.now
          (message_of c.args.head.now c.args.body.now) c.take-took.result c.take-took.ensures.same
          c.take-took.ensures.answered c.take-took.ensures.steps
          (sym c.is_first.ensures ∙ c.if-is_first.true) firsts c.list_behind.ensures.order c.list_behind.ensures.keeps
          c.list_behind.ensures.ready some its c.self.invariant.0,
      subst (λ (k : Limits). 4 * k.conns ≤ length firsts.ready) (sym c.take-took.ensures.same.limits)
          (subst (λ (n : ℕ). 4 * c.self.inside.node.limits.conns ≤ n) (sym c.list_behind.ensures.room)
          c.self.invariant.1),
    )

pub returns-then-is_first-clause-takes : goal.returns-then-is_first-clause-takes
returns-then-is_first-clause-takes g c =
    let class = g.C.Class.class_of in
    λ l k serves own there. (
    let was = subst (λ (sv : ServerState). Serves class sv l) (sym c.self.view_is) serves in
    rw (← c.self.view_is)
    (took_first class _ c.take-took.new.self c.args.key c.args.c.now
    (message_of c.args.head.now c.args.body.now) c.take-took.result c.take-took.ensures.same
    c.take-took.ensures.answered c.take-took.ensures.steps
    (sym c.is_first.ensures ∙ c.if-is_first.true) c.list_behind.new.firsts c.list_behind.ensures.order
    c.list_behind.ensures.keeps c.list_behind.ensures.ready l k was own there))

-- ---- its client is proved

pub invariant_of-self-then-proves : goal.invariant_of-self-then-proves
invariant_of-self-then-proves g c =
    let class = g.C.Class.class_of in
    let some = subst (λ (sv : ServerState). OwnsSome class sv c.args.key c.args.c.now) (sym c.self.view_is)
    c.requires.own in
    let firsts = c.admit_place.new.firsts in (
      proof_serving class _ c.take-took.new.self c.args.key c.args.c.now
          (message_of c.args.head.now c.args.body.now) c.take-took.result c.take-took.ensures.same
          c.take-took.ensures.answered c.take-took.ensures.steps
          (sym c.proves.ensures ∙ c.if-proves.true) firsts c.admit_place.ensures.order c.admit_place.ensures.keeps
          c.admit_place.ensures.ready some c.self.invariant.0,
      subst (λ (k : Limits). 4 * k.conns ≤ length firsts.ready) (sym c.take-took.ensures.same.limits)
          (subst (λ (n : ℕ). 4 * c.self.inside.node.limits.conns ≤ n) (sym c.admit_place.ensures.room)
          c.self.invariant.1),
    )

pub returns-then-proves-clause-takes : goal.returns-then-proves-clause-takes
returns-then-proves-clause-takes g c =
    let class = g.C.Class.class_of in
    λ l k serves own there. (
    let was = subst (λ (sv : ServerState). Serves class sv l) (sym c.self.view_is) serves in
    rw (← c.self.view_is)
    (took_proof class _ c.take-took.new.self c.args.key c.args.c.now
    (message_of c.args.head.now c.args.body.now) c.take-took.result c.take-took.ensures.same
    c.take-took.ensures.answered c.take-took.ensures.steps
    (sym c.proves.ensures ∙ c.if-proves.true) c.admit_place.new.firsts c.admit_place.ensures.order
    c.admit_place.ensures.keeps c.admit_place.ensures.ready l k was own there))

-- ---- neither

pub invariant_of-self-else-proves : goal.invariant_of-self-else-proves
invariant_of-self-else-proves g c =
    let class = g.C.Class.class_of in
    let some = subst (λ (sv : ServerState). OwnsSome class sv c.args.key c.args.c.now) (sym c.self.view_is)
    c.requires.own in (
      other_serving class _ c.take-took.new.self c.args.key c.args.c.now
          (message_of c.args.head.now c.args.body.now) c.take-took.result c.take-took.ensures.same
          c.take-took.ensures.answered c.take-took.ensures.steps
          (sym c.is_first.ensures ∙ c.if-is_first.false) (sym c.proves.ensures ∙ c.if-proves.false) some
          c.self.invariant.0,
      subst (λ (k : Limits). 4 * k.conns ≤ length c.self.inside.firsts.ready) (sym c.take-took.ensures.same.limits)
          c.self.invariant.1,
    )

pub returns-clause-takes : goal.returns-clause-takes
returns-clause-takes g c =
    let class = g.C.Class.class_of in
    λ l k serves own there. (
    let was = subst (λ (sv : ServerState). Serves class sv l) (sym c.self.view_is) serves in
    rw (← c.self.view_is)
    (took_other class _ c.take-took.new.self c.args.key c.args.c.now
    (message_of c.args.head.now c.args.body.now) c.take-took.result c.take-took.ensures.same
    c.take-took.ensures.answered c.take-took.ensures.steps
    (sym c.is_first.ensures ∙ c.if-is_first.false) (sym c.proves.ensures ∙ c.if-proves.false) l k was own there))

-- ---- it isn't active

pub returns-in_default-clause-takes : goal.returns-in_default-clause-takes
returns-in_default-clause-takes g c =
    λ l k serves own there. absurd (
    let inner = subst (λ (sv : ServerState). Serves g.C.Class.class_of sv l) (sym c.self.view_is) serves in
    let none : is_some c.active.result ≡ false = ap (λ (o : Option ℕ). is_some o) c.in_default.is in
    false≢true (sym none ∙ c.active.ensures.answered l (channel_of c.args.c.now) inner.mirrors own.channel
    ∙ ap (λ (n : CallName). is_call (λ j. is_active j.life) (call_at l n)) own.latest ∙ own.active))
