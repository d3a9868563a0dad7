use Rattle.std.proofs.Common.{◌≡◌, ◌≤◌, ◌*◌, ℤ, pos, Some, refl, sym, subst, w32, to_z, of_z, length}
use Rattle.std.proofs.lemmas.Int.{to_z-of_z}
use Rattle.rx_model.specs.declared.names.Limits.{Limits}
use Rattle.rx_model.specs.Names.{Channel, channel_of}
use Rattle.rx_rules.specs.After.{is_zero, owing_abort}
use Rattle.rx_rules.specs.Life.{after_finish}
use Rattle.rx_rules.specs.Looks.{Looks, latest_name, on_channel, on_life}
use Rattle.rx_call_ends.specs.Ends.{EndsState, HasShutSlot, IsUnshut}
use Rattle.rx_node.specs.Mirrors.{IsActiveAt, IsChannel, Mirrors}
use Rattle.rx_node.specs.declared.life.Turn.TheVariants as turns
use Rattle.rx_node.proofs.KeptKeys.{kept_both, kept_key, seat_key}
use Rattle.rx_server.specs.Handling.{MayFinish}
use Rattle.rx_server.specs.Server.{ServerState, Serves}
use Rattle.rx_server.proofs.Finishing.{code_other, code_zero, ended_serving, ill_serves, open_slot, open_turned}
use Rattle.rx_server.proofs.Finishing.{open_unshut, read_whole, server_kind, well_serves}
use Rattle.rx_server.proofs.Handling.{found_latest}
use Rattle.rx_server.proofs.server.Server.finish_open.Goals as goal

pub shut-requires-clause-unshut : goal.shut-requires-clause-unshut
shut-requires-clause-unshut g c =
    let open_ = subst (λ (sv : ServerState). IsActiveAt sv.node c.args.key c.args.end) (sym c.self.view_is)
    c.requires.open in
    let may = subst
    (λ (sv : ServerState). (l : Looks) → Serves g.C.Class.class_of sv l → MayFinish l c.args.key c.args.code)
    (sym c.self.view_is) c.requires.may in
    let serving = c.self.invariant.0 in
    let l : Looks = serving.looks in
    let its = may l serving.serves in
    let latest = found_latest l its.name c.args.key _ its.found in
    let server = server_kind c.self.inside.node.kind c.self.inside.service serving.server in
    let turned = open_turned g.C.Class.class_of c.self.inside.node l serving.serves.mirrors server c.args.key c.args.end
    (channel_of its.name) its.found.channel open_ its.found.call latest its.found.life_is (turns.Finish (pos 0)) refl in
    subst (λ (e : EndsState). IsUnshut e c.args.end) (sym (c.turn.ensures.ends turned))
    (open_unshut g.C.Class.class_of c.self.inside.node l serving.serves.mirrors server c.args.key c.args.end
    (channel_of its.name) its.found.channel open_ its.found.call latest its.found.life_is)

pub shut-requires-clause-slot : goal.shut-requires-clause-slot
shut-requires-clause-slot g c =
    let open_ = subst (λ (sv : ServerState). IsActiveAt sv.node c.args.key c.args.end) (sym c.self.view_is)
    c.requires.open in
    let may = subst
    (λ (sv : ServerState). (l : Looks) → Serves g.C.Class.class_of sv l → MayFinish l c.args.key c.args.code)
    (sym c.self.view_is) c.requires.may in
    let serving = c.self.invariant.0 in
    let l : Looks = serving.looks in
    let its = may l serving.serves in
    let latest = found_latest l its.name c.args.key _ its.found in
    let server = server_kind c.self.inside.node.kind c.self.inside.service serving.server in
    let turned = open_turned g.C.Class.class_of c.self.inside.node l serving.serves.mirrors server c.args.key c.args.end
    (channel_of its.name) its.found.channel open_ its.found.call latest its.found.life_is (turns.Finish (pos 0)) refl in
    subst (λ (e : EndsState). HasShutSlot e c.args.end) (sym (c.turn.ensures.ends turned))
    (open_slot g.C.Class.class_of c.self.inside.node l serving.serves.mirrors server c.args.key c.args.end
    (channel_of its.name) its.found.channel open_ its.found.call latest its.found.life_is
    (read_whole l its.name c.args.key c.args.code its.found (code_zero c.args.code c.ranges.code c.if-code-eq0.true)
    its.may))

pub invariant_of-self : goal.invariant_of-self
invariant_of-self g c =
    let may = subst
    (λ (sv : ServerState). (l : Looks) → Serves g.C.Class.class_of sv l → MayFinish l c.args.key c.args.code)
    (sym c.self.view_is) c.requires.may in
    let kept = kept_both _ _ _ c.turn.ensures.same c.shut.ensures.same in (
      ended_serving g.C.Class.class_of _ c.shut.new.self c.args.key c.args.code kept may
          (well_serves g.C.Class.class_of _ c.turn.new.self c.shut.new.self c.args.key c.args.code c.turn.ensures.same
          c.shut.ensures.same (code_zero c.args.code c.ranges.code c.if-code-eq0.true) c.self.invariant.0.server
          c.turn.ensures.steps c.shut.ensures.steps) c.self.invariant.0,
      subst (λ (limits : Limits). 4 * limits.conns ≤ length c.self.inside.firsts.ready) (sym kept.limits)
          c.self.invariant.1,
    )

pub returns-then-code-eq0-clause-steps : goal.returns-then-code-eq0-clause-steps
returns-then-code-eq0-clause-steps g c =
    rw (← c.self.view_is)
    (well_serves g.C.Class.class_of _ c.turn.new.self c.shut.new.self c.args.key c.args.code c.turn.ensures.same
    c.shut.ensures.same (code_zero c.args.code c.ranges.code c.if-code-eq0.true) c.self.invariant.0.server
    c.turn.ensures.steps c.shut.ensures.steps)

pub owe_abort-requires : goal.owe_abort-requires
owe_abort-requires g c =
    let open_ = subst (λ (sv : ServerState). IsActiveAt sv.node c.args.key c.args.end) (sym c.self.view_is)
    c.requires.open in
    seat_key c.self.inside.node c.args.key open_.seat open_.there

pub turn-requires-2 : goal.turn-requires-2
turn-requires-2 g c =
    let open_ = subst (λ (sv : ServerState). IsActiveAt sv.node c.args.key c.args.end) (sym c.self.view_is)
    c.requires.open in
    kept_key c.self.inside.node c.owe_abort.new.self c.args.key c.owe_abort.ensures.same
    (seat_key c.self.inside.node c.args.key open_.seat open_.there)

pub invariant_of-self-2 : goal.invariant_of-self-2
invariant_of-self-2 g c =
    let may = subst
    (λ (sv : ServerState). (l : Looks) → Serves g.C.Class.class_of sv l → MayFinish l c.args.key c.args.code)
    (sym c.self.view_is) c.requires.may in
    let fits : to_z w32 (of_z w32 c.args.code) ≡ c.args.code = to_z-of_z w32 c.args.code c.ranges.code in
    let owed = subst
    (λ (z : ℤ). (l : Looks) (ch : Channel) → Mirrors g.C.Class.class_of c.self.inside.node l → IsChannel l c.args.key ch
    → Mirrors g.C.Class.class_of c.owe_abort.new.self (on_channel ch (owing_abort (Some z)) l))
    fits c.owe_abort.ensures.steps in
    let turned = subst
    (λ (z : ℤ). (l : Looks) (ch : Channel) → Mirrors g.C.Class.class_of c.owe_abort.new.self l
    → IsChannel l c.args.key ch
    → Mirrors g.C.Class.class_of c.turn-2.new.self (on_life (latest_name l ch) (after_finish (is_zero z) z) l))
    fits c.turn-2.ensures.steps in
    let kept = kept_both _ _ _ c.owe_abort.ensures.same c.turn-2.ensures.same in (
      ended_serving g.C.Class.class_of _ c.turn-2.new.self c.args.key c.args.code kept may
          (λ l name serves found its. ill_serves g.C.Class.class_of _ c.owe_abort.new.self c.turn-2.new.self
          c.args.key c.args.code
          c.owe_abort.ensures.same c.turn-2.ensures.same (code_other c.args.code c.if-code-eq0.false) owed
          turned l name serves
          found) c.self.invariant.0,
      subst (λ (limits : Limits). 4 * limits.conns ≤ length c.self.inside.firsts.ready) (sym kept.limits)
          c.self.invariant.1,
    )

pub returns-clause-steps : goal.returns-clause-steps
returns-clause-steps g c =
    let fits : to_z w32 (of_z w32 c.args.code) ≡ c.args.code = to_z-of_z w32 c.args.code c.ranges.code in
    let owed = subst
    (λ (z : ℤ). (l : Looks) (ch : Channel) → Mirrors g.C.Class.class_of c.self.inside.node l → IsChannel l c.args.key ch
    → Mirrors g.C.Class.class_of c.owe_abort.new.self (on_channel ch (owing_abort (Some z)) l))
    fits c.owe_abort.ensures.steps in
    let turned = subst
    (λ (z : ℤ). (l : Looks) (ch : Channel) → Mirrors g.C.Class.class_of c.owe_abort.new.self l
    → IsChannel l c.args.key ch
    → Mirrors g.C.Class.class_of c.turn-2.new.self (on_life (latest_name l ch) (after_finish (is_zero z) z) l))
    fits c.turn-2.ensures.steps in
    rw (← c.self.view_is)
    (λ l name serves found its. ill_serves g.C.Class.class_of _ c.owe_abort.new.self c.turn-2.new.self
    c.args.key c.args.code
    c.owe_abort.ensures.same c.turn-2.ensures.same (code_other c.args.code c.if-code-eq0.false) owed
    turned l name serves
    found)
