-- Lemmas on the faults of a sink and a wire that serving and calling count.
use Rattle.std.proofs.Common.{◌≡◌, ◌≢◌, ℕ, List, Result, Ok, Err, ap, inl, inr, refl, subst}
use Rattle.std.specs.Prelude.{IfErr}
use Rattle.rx_base.specs.Sink.{HasRisen}
use Rattle.rx_model.specs.declared.event.Event.{Event}
use Rattle.rx_wire_loop.specs.declared.serving.ServeEnd.TheVariants as serve_ends
use Rattle.rx_wire_loop.specs.declared.calling.CallEnd.{CallEnd}
use Rattle.rx_wire_loop.specs.declared.calling.CallEnd.TheVariants as call_ends
use Rattle.rx_wire_loop.specs.declared.calling.Calling.{Calling}
use Rattle.rx_drive.specs.declared.stop.Stop.{Stop}
use Rattle.rx_drive.specs.declared.stop.Stop.TheVariants as stops
use Rattle.rx_wire_loop.specs.Calls.{CallCame, CallEnds, CallIs, CallsBound, IsEnded, IsSpent as IsCallSpent}
use Rattle.rx_wire_loop.specs.Calls.{IsCut as IsCallCut}
use Rattle.rx_wire_loop.specs.Tells.{Told}
use Rattle.rx_rules.specs.Classes.{Class}
use Rattle.rx_rules.specs.Setup.{Setup}
use Rattle.rx_wire.specs.Wire.{Logged}
use Rattle.rx_top.specs.declared.status.Status.TheVariants as statuses

-- ---- serving

-- the counts of a sink and of a wire, before and after
record Counts : Type 0 where
  sink_old : ℕ
  sink_new : ℕ
  wire_old : ℕ
  wire_new : ℕ

abbrev counts : Told → Told → Counts
counts before after =
    record {
      sink_old = before.sink.faults;
      sink_new = after.sink.faults;
      wire_old = before.wire.faults;
      wire_new = after.wire.faults;
    }

-- ---- calling

-- what a call counts of a wire, by how it ended
abbrev CallCounts : Result CallEnd Stop → ℕ → ℕ → Type 0
CallCounts (Ok end) old new = new ≡ old
CallCounts (Err stops.SinkFault) old new = ⊥
CallCounts (Err stops.WireFault) old new = HasRisen old new
CallCounts (Err stops.OutOfMemory) old new = new ≡ old
CallCounts (Err stops.Unformatted) old new = ⊥
CallCounts (Err stops.Unnoted) old new = new ≡ old
CallCounts (Err stops.Endless) old new = new ≡ old

call_ends_count : (node : ℕ) (result : Result CallEnd Stop) (came : CallCame) (before after : Told) (es : List Event)
    (ls : List Logged) → CallEnds node result came before after es ls
    → CallCounts result before.wire.faults after.wire.faults
call_ends_count node (Ok (call_ends.Ended v)) (IsEnded w) before after es ls told = told.1.calls
call_ends_count node (Ok call_ends.TurnsSpent) IsCallSpent before after es ls told = told.calls
call_ends_count node (Err stops.OutOfMemory) (IsCallCut stops.OutOfMemory) before after es ls told = told.calls
call_ends_count node (Err stops.Unnoted) (IsCallCut stops.Unnoted) before after es ls told = told.gains.calls
call_ends_count node (Err stops.Endless) (IsCallCut stops.Endless) before after es ls told = told.calls
call_ends_count node (Err stops.WireFault) (IsCallCut stops.WireFault) before after es ls told = told.calls
call_ends_count node _ _ before after es ls told = absurd told

call_bound_counts : (w : Calling) (request : List ℕ) (s : Setup) (result : Result CallEnd Stop) (before after : Told)
    → CallsBound w request s result before after → CallCounts result before.wire.faults after.wire.faults
call_bound_counts w request s result before after (inl wants) =
    rw wants.0 (ap (λ (t : Told). t.wire.faults) wants.1)
call_bound_counts w request s result before after (inr (inl refuses)) = rw refuses.0 refuses.1.4.gains.calls
call_bound_counts w request s result before after (inr (inr goes)) =
    let made = goes.6 in
    subst (λ (old : ℕ). CallCounts result old after.wire.faults) goes.5.calls
    (call_ends_count 1 result made.came goes.3 after made.events made.log made.ends)

call_counts : (w : Calling) (request : List ℕ) (class : Class) (result : Result CallEnd Stop) (before after : Told)
    → CallIs w request class result before after → CallCounts result before.wire.faults after.wire.faults
call_counts w request class result before after (inl nothing) = rw nothing.result_is nothing.calls
call_counts w request class result before after (inr goes) =
    subst (λ (old : ℕ). CallCounts result old after.wire.faults) goes.5
    (call_bound_counts w request _ result goes.1 after goes.7)

-- a call doesn't end with the fault of a sink
pub no_sink_ends : (w : Calling) (request : List ℕ) (class : Class) (result : Result CallEnd Stop)
    (before after : Told) → CallIs w request class result before after → result ≢ Err stops.SinkFault
no_sink_ends w request class result before after call is =
    let counted = call_counts w request class result before after call in rw is at counted

-- nor for want of a line
pub no_line_ends : (w : Calling) (request : List ℕ) (class : Class) (result : Result CallEnd Stop)
    (before after : Told) → CallIs w request class result before after → result ≢ Err stops.Unformatted
no_line_ends w request class result before after call is =
    let counted = call_counts w request class result before after call in rw is at counted

-- where it ends with a refused note, what holds of such an end holds
pub unnoted_holds : {T Q : Type 0} (result : Result T Stop) → IfErr result (λ stop. stop ≡ stops.Unnoted → Q)
    → result ≡ Err stops.Unnoted → Q
unnoted_holds (Ok it) holds is = absurd (cc (is))
unnoted_holds (Err stop) holds is = holds (cc (is))

-- it counts a fault of the wire where it ends with that
pub call_risen : (w : Calling) (request : List ℕ) (class : Class) (result : Result CallEnd Stop)
    (before after : Told) → CallIs w request class result before after → result ≡ Err stops.WireFault
    → HasRisen before.wire.faults after.wire.faults
call_risen w request class result before after call is =
    let counted = call_counts w request class result before after call in rw is at counted

same_unless : (result : Result CallEnd Stop) (old new : ℕ) → CallCounts result old new → result ≢ Err stops.WireFault
    → new ≡ old
same_unless (Ok end) old new counted not = counted
same_unless (Err stops.SinkFault) old new counted not = absurd counted
same_unless (Err stops.WireFault) old new counted not = absurd (not refl)
same_unless (Err stops.OutOfMemory) old new counted not = counted
same_unless (Err stops.Unformatted) old new counted not = absurd counted
same_unless (Err stops.Unnoted) old new counted not = counted
same_unless (Err stops.Endless) old new counted not = counted

-- and none where it doesn't
pub call_same : (w : Calling) (request : List ℕ) (class : Class) (result : Result CallEnd Stop)
    (before after : Told) → CallIs w request class result before after → result ≢ Err stops.WireFault
    → after.wire.faults ≡ before.wire.faults
call_same w request class result before after call not =
    same_unless result before.wire.faults after.wire.faults (call_counts w request class result before after call) not
