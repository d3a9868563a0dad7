use Rattle.std.proofs.Common.{◌∙◌, not, ap, sym, subst, Bool, List, ℕ}
use Rattle.rx_rules.specs.CallLooks.{after_newly}
use Rattle.rx_rules.specs.Owing.{owed_for_ack}
use Rattle.rx_rules.specs.Sent.{Newly, after_ack, newly_of, is_strange_ack}
use Rattle.rx_pool.specs.Held.{Keeps}
use Rattle.rx_pool.proofs.Beside.{holds_right, keeps_right}
use Rattle.rx_recvwin.specs.Window.{packet_slots}
use Rattle.rx_sendwin.specs.Window.{StandsSent, piece_slots}
use Rattle.rx_call.specs.Standing.{StandsCall, slots_of}
use Rattle.rx_call.proofs.Parts.{sent_changed, now_heard, now_owes, heard_one, is_not}
use Rattle.rx_call.proofs.call.Call.take_ack.Goals as goal

pub on_ack-newly-requires-clause-holds : goal.on_ack-newly-requires-clause-holds
on_ack-newly-requires-clause-holds c =
    holds_right c.args.pool.now (packet_slots c.self.inside.received) (piece_slots c.self.inside.sent)
    (rw (← c.self.view_is) at c.requires.holds)

pub returns-clause-stands : goal.returns-clause-stands
returns-clause-stands c =
    let holds = (rw (← c.self.view_is) at c.requires.holds) in
    let pool = c.on_ack-newly.new.pool in
    let a = c.args.ack.now in
    λ k body st.
    let here = (rw (← c.self.view_is) at st) in
    let marks = c.as_slice-marks.ensures.value in
    let sent = (
    subst (λ (ms : List Bool). StandsSent pool c.on_ack-newly.new.self (after_ack a.first ms a.window k.sent)) marks
    (c.on_ack-newly.ensures.stands k.sent here.sent)) in
    let newly = (
    c.on_ack-newly.ensures.newly k.sent here.sent
    ∙ ap (λ (ms : List Bool). newly_of c.args.now a.first ms k.sent) marks) in
    let acked = (
    sent_changed c.args.pool.now pool _ c.on_ack-newly.new.self k (after_ack a.first a.marks.items a.window k.sent)
    holds c.on_ack-newly.ensures.keeps here sent) in
    let measured = (
    subst (λ (n : Newly). StandsCall pool c.measure.new.self
    (after_newly n (record k { sent = after_ack a.first a.marks.items a.window k.sent })))
    newly (c.measure.ensures.stands pool _ acked)) in
    let then_ = (rw (← c.self-2.view_is) at measured) in
    let owed = c.owe_for_ack-self-inside.ensures ∙ ap (owed_for_ack a.reason c.args.head.now.serial) then_.owed in
    let sound = (
    is_not (is_strange_ack a.first a.marks.items k.sent)
    (sym (c.valid.ensures.answered c.args.pool.now k.sent here.sent
    ∙ ap (λ (ms : List Bool). not (is_strange_ack a.first ms k.sent)) marks) ∙ c.if-not-valid.false)) in
    heard_one pool _ k _ _ sound (now_heard pool _ _ c.args.now (now_owes pool _ _ _ _ owed then_))

pub returns-clause-keeps : goal.returns-clause-keeps
returns-clause-keeps c =
    let holds = (rw (← c.self.view_is) at c.requires.holds) in
    let given = (
    keeps_right c.args.pool.now c.on_ack-newly.new.pool (packet_slots c.self.inside.received)
    (piece_slots c.self.inside.sent) (piece_slots c.on_ack-newly.new.self) c.on_ack-newly.ensures.keeps holds) in
    subst (λ (xs : List ℕ). Keeps c.args.pool.now c.on_ack-newly.new.pool (slots_of c.args.self.now) xs)
    (sym c.measure.ensures.slots ∙ ap slots_of (sym c.self-2.view_is)) (rw (← c.self.view_is) given)
