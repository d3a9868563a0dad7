use Rattle.std.proofs.Common.{◌<◌, ◌/◌, ◌%◌, true, length, refl, sym, subst, ◌∙◌}
use Rattle.rx_rules.specs.After.{owing_ackall}
use Rattle.rx_rules.specs.Looks.{latest, on_channel}
use Rattle.rx_table.specs.declared.seat.Seat.{Seat}
use Rattle.rx_node.specs.Lives.{life_of}
use Rattle.rx_node.specs.Mirrors.{Mirrors}
use Rattle.rx_node.specs.Node.{NodeState}
use Rattle.rx_node.proofs.Steps.EndingSteps.{end_calling, end_uncalled, uncalled_none, uncalled_some}
use Rattle.rx_node.proofs.KeptNode.{alike_with_seat, still_seated, still_set_up}
use Rattle.rx_node.proofs.Steps.OwingSteps.{Owing, mirrors_owing}
use Rattle.rx_node.proofs.Steps.TableSteps.{changed-length, seated}
use Rattle.rx_node.proofs.SameChannels.{others_then, same_itself, same_with_seat}
use Rattle.rx_node.proofs.node.Node.on_end.Goals as goal

pub returns-in_default-clause-steps : goal.returns-in_default-clause-steps
returns-in_default-clause-steps g c =
    λ l ch m at. end_uncalled g.C.Class.class_of c.args.self.now l ch m
    (uncalled_none (latest l ch) (c.in_default.ensures.answered l ch m at))

pub returns-then-not-is_calling-clause-steps : goal.returns-then-not-is_calling-clause-steps
returns-then-not-is_calling-clause-steps g c =
    λ l ch m at. end_uncalled g.C.Class.class_of c.args.self.now l ch m
    (uncalled_some (life_of c.in-Some.life) (latest l ch) (c.in-Some.ensures.answered l ch m at)
    (sym c.if-not-is_calling.ensures))

pub invariant_of-self : goal.invariant_of-self
invariant_of-self g c =
    let i = c.self.invariant in
    let old = c.seat_mut.result.now in
    let after : Seat = record old { owed_ackall = true } in
    let like = alike_with_seat c.self.inside.table c.args.key old after c.seat_mut.ensures.value refl in
    (still_set_up g.C.Class.class_of _ _ like i.0, still_seated g.C.Class.class_of _ _ like i.1, i.2, i.3)

pub turn-requires : goal.turn-requires
turn-requires g c =
    let key = c.args.key in
    let after : Seat = record c.seat_mut.result.now { owed_ackall = true } in
    let low = subst (λ (n : NodeState). key / 4 < length n.table.conns) (sym c.self.view_is) c.requires in
    subst (λ k. key / 4 < k) (sym (changed-length c.self.inside.table.conns (key / 4) (seated (key % 4) after))) low

pub returns-clause-steps : goal.returns-clause-steps
returns-clause-steps g c =
    let class = g.C.Class.class_of in
    let key = c.args.key in
    let old = c.seat_mut.result.now in
    let after : Seat = record old { owed_ackall = true } in
    let owing : Owing old after (owing_ackall true) = record {
      live = refl;
      ended = refl;
      number = λ q. refl;
      owes = λ q o. record {
        number = o.number;
        abort = o.abort;
        busy = o.busy;
        challenge = o.challenge;
        response = o.response;
        ackall = refl;
      };
    } in
    λ l ch m at. (
    let between = mirrors_owing class _ l (subst (λ (n : NodeState). Mirrors class n l) (sym c.self.view_is) m)
    key ch at
    old after c.seat_mut.ensures.value (owing_ackall true) owing in
    end_calling class c.args.self.now l ch m c.turn.new.self key (life_of c.in-Some.life) at
    (sym c.if-not-is_calling.ensures) (c.in-Some.ensures.answered l ch m at)
    (λ here. c.turn.ensures.steps (on_channel ch (owing_ackall true) l) ch between here))

pub returns-clause-same : goal.returns-clause-same
returns-clause-same g c =
    let old = c.seat_mut.result.now in
    let after : Seat = record old { owed_ackall = true } in
    let like = alike_with_seat c.self.inside.table c.args.key old after c.seat_mut.ensures.value refl in
    let same = c.turn.ensures.same in
    rw (← c.self.view_is)
    (record {
      kind = same.kind;
      limits = same.limits;
      prompt = same.prompt;
      secret = same.secret;
      moment = same.moment;
      names = same.names ∙ like.names_same;
    })

pub returns-in_default-clause-others : goal.returns-in_default-clause-others
returns-in_default-clause-others g c =
    λ q apart. same_itself _ q

pub returns-then-not-is_calling-clause-others : goal.returns-then-not-is_calling-clause-others
returns-then-not-is_calling-clause-others g c =
    λ q apart. same_itself _ q

pub returns-clause-others : goal.returns-clause-others
returns-clause-others g c =
    let after : Seat = record c.seat_mut.result.now { owed_ackall = true } in
    rw (← c.self.view_is)
    (others_then _ _ _ c.args.key (λ q apart. same_with_seat _ c.args.key after q apart) c.turn.ensures.others)
