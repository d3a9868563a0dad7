use Rattle.std.proofs.Common.{◌≡◌, ◌∙◌, ◌≤◌, List, None, Option, Some, ap, arith, length, rules, subst, sym, take, ℕ}
use Rattle.std.specs.Prelude.{IfNone}
use Rattle.rx_jumbo.specs.Parts.{parts_of}
use Rattle.rx_model.specs.declared.names.Host.{Host}
use Rattle.rx_wire.specs.Wire.{Came, HasLogged, TookUntil, came_in}
use Rattle.rx_wire_loop.specs.Ports.{takes_came}
use Rattle.rx_drive.specs.Ran.{stop_of}
use Rattle.rx_drive.specs.Tells.{Ways}
use Rattle.rx_wire_loop.specs.Tells.{WireTells, wire_tells}
use Rattle.rx_wire_loop.proofs.Handed.{clock_driven, takes_driven}
use Rattle.rx_wire_loop.proofs.Polling.{restored}
use Rattle.rx_wire_loop.proofs.Running.{stopped}
use Rattle.rx_wire_loop.proofs.Taking.{Anything, came_clocked, came_taken, nothing_came, take_brought, take_whole}
use Rattle.rx_wire_loop.proofs.Taking.{wait_failed, waited}
use Rattle.rx_wire_loop.proofs.ports.Ports.take.Goals as goal

pub returns-in_err-clock-in-Ok-Some-clause-plays : goal.returns-in_err-clock-in-Ok-Some-clause-plays
returns-in_err-clock-in-Ok-Some-clause-plays g c =
    let names = ap (λ (w : Ways). w.names) c.clock.ensures.ways in
    let same : c.clock.new.outside.book.now ≡ c.in_err-clock-in-Ok-Some.book-1-own.given.0 = search rules in
    let roomy : 65536 ≤ length c.deref_mut.result.now = omega (arith, c.deref_mut.ensures.len, c.self.invariant.1) in
    let taken : List ℕ = take c.in-Ok-Some.count c.take.new.to in
    let came : came_in c.in-Ok-Some.field-0 c.take.new.to ≡ Some (record { from = c.in-Ok-Some.from; bytes = taken }) =
    ap (λ (o : Option (Host × ℕ)). came_in o c.take.new.to) c.in-Ok-Some.field-0-is in
    let wire : WireTells = wire_tells (g.W.Wire.told c.take.new.self) (g.W.Wire.faults c.take.new.self)
    (g.W.Wire.moment c.take.new.self) in
    λ sink. rw (stopped c.from_residual.result c.in_err-clock-in-Ok-Some.field-0.0 c.from_residual.ensures.1)
    (rw (← same)
    (take_brought c.args.self.now c.self.inside.node c.self.inside.joiner c.self.view_is
    (g.N.Endpoint.setup c.args.node.now) _ _ _ _ _ c.args.until (came_in c.in-Ok-Some.field-0 c.take.new.to)
    c.in-Ok-Some.from taken (Some c.in_err-clock-in-Ok-Some.field-0.0) came
    (waited c.self.inside.node (g.N.Endpoint.setup c.args.node.now) _ _ sink _ _ _ _ _ _ _
    c.args.until (came_in c.in-Ok-Some.field-0 c.take.new.to) roomy c.in-Ok-Some.ensures.no_earlier
    c.in-Ok-Some.ensures.same
    c.in-Ok-Some.ensures.ok (subst (λ (o : Option Came). IfNone o (c.args.until ≤ g.W.Wire.moment c.take.new.self))
    (sym came) tt))
    (came_clocked c.self.inside.node _ _ _ _ _ c.in-Ok-Some.from taken c.in_err-clock-in-Ok-Some.field-0.0
    (clock_driven c.self.inside.node _ _ _ _ _ _ wire sink c.now.result
    (Some c.in_err-clock-in-Ok-Some.field-0.0) c.now.ensures.value c.in_err-clock-in-Ok-Some.ensures.clocks))))

pub returns-in_ok-clock-in-Ok-Some-clause-plays : goal.returns-in_ok-clock-in-Ok-Some-clause-plays
returns-in_ok-clock-in-Ok-Some-clause-plays g c =
    let names = ap (λ (w : Ways). w.names) c.clock.ensures.ways in
    let later = ap (λ (w : Ways). w.names) c.take_parts.ensures.ways in
    let same : c.take_parts.new.outside.book.now ≡ c.book-in-Ok-Some-1.given.0 = search rules in
    let whole : length c.take.new.to ≡ c.self.inside.whole.len =
    omega (arith, c.take.auto.to, c.deref_mut.ensures.len) in
    let roomy : 65536 ≤ length c.deref_mut.result.now = omega (arith, c.deref_mut.ensures.len, c.self.invariant.1) in
    let taken : List ℕ = take c.in-Ok-Some.count c.take.new.to in
    let its : c.front-came.result.now ≡ taken =
    c.front-came.ensures ∙ ap (λ (xs : List ℕ). take c.in-Ok-Some.count xs) (c.deref.ensures.value ∙ restored
    c.self.inside.whole.len c.take.new.to c.self.inside.whole.items whole) in
    let came : came_in c.in-Ok-Some.field-0 c.take.new.to ≡ Some (record { from = c.in-Ok-Some.from; bytes = taken }) =
    ap (λ (o : Option (Host × ℕ)). came_in o c.take.new.to) c.in-Ok-Some.field-0-is in
    let brings = came ∙ ap (λ (xs : List ℕ). Some (record { from = c.in-Ok-Some.from; bytes = xs })) (sym its) in
    let wire : WireTells = wire_tells (g.W.Wire.told c.take.new.self) (g.W.Wire.faults c.take.new.self)
    (g.W.Wire.moment c.take.new.self) in
    λ sink. rw (← same)
    (take_brought c.args.self.now c.self.inside.node c.self.inside.joiner c.self.view_is
    (g.N.Endpoint.setup c.args.node.now) _ _ _ _ _ c.args.until (came_in c.in-Ok-Some.field-0 c.take.new.to)
    c.in-Ok-Some.from c.front-came.result.now (stop_of c.take_parts.result) brings
    (waited c.self.inside.node (g.N.Endpoint.setup c.args.node.now) _ _ sink _ _ _ _ _ _ _
    c.args.until (came_in c.in-Ok-Some.field-0 c.take.new.to) roomy c.in-Ok-Some.ensures.no_earlier
    c.in-Ok-Some.ensures.same
    c.in-Ok-Some.ensures.ok (subst (λ (o : Option Came). IfNone o (c.args.until ≤ g.W.Wire.moment c.take.new.self))
    (sym came) tt))
    (came_taken c.self.inside.node _ _ _ _ _ _ _ _ c.in-Ok-Some.from c.front-came.result.now
    (stop_of c.take_parts.result) c.clock.ensures.setup
    (clock_driven c.self.inside.node _ _ _ _ _ _ wire sink c.now.result None c.now.ensures.value
    c.in_ok-clock-in-Ok-Some.ensures.clocks)
    (takes_driven c.self.inside.node _ _ _ _ _ _ wire sink c.in-Ok-Some.from (parts_of c.front-came.result.now)
    (stop_of c.take_parts.result) c.take_parts.ensures.takes)))

pub returns-in-Ok-None-clause-plays : goal.returns-in-Ok-None-clause-plays
returns-in-Ok-None-clause-plays g c =
    let roomy : 65536 ≤ length c.deref_mut.result.now = omega (arith, c.deref_mut.ensures.len, c.self.invariant.1) in
    λ sink. take_whole c.args.self.now c.self.inside.node c.self.inside.joiner c.self.view_is
    (g.N.Endpoint.setup c.args.node.now) _ _ _ _ _ c.args.until None None (waited c.self.inside.node
    (g.N.Endpoint.setup c.args.node.now) _ _ sink _ _ _ _ _ _ _ c.args.until None roomy c.in-Ok-None.ensures.no_earlier
    c.in-Ok-None.ensures.same (subst (λ (o : Option (Host × ℕ)). HasLogged (g.W.Wire.told c.args.wire.now)
    (g.W.Wire.told c.take.new.self) (TookUntil (length c.deref_mut.result.now) c.args.until (came_in o c.take.new.to)
    (g.W.Wire.moment c.take.new.self))) c.in-Ok-None.field-0-is c.in-Ok-None.ensures.ok)
    (subst (λ (o : Option (Host × ℕ)). IfNone o (c.args.until ≤ g.W.Wire.moment c.take.new.self))
    c.in-Ok-None.field-0-is c.in-Ok-None.ensures.reached)) (nothing_came c.self.inside.node
    (g.N.Endpoint.setup c.args.node.now) _ _)

pub returns-in-Err-clause-plays : goal.returns-in-Err-clause-plays
returns-in-Err-clause-plays g c =
    λ sink. wait_failed c.args.self.now.node _ _ _ sink _ _ _ _ _ _ 65536 c.args.until takes_came Anything
    c.in-Err.ensures.err c.in-Err.ensures.counted
