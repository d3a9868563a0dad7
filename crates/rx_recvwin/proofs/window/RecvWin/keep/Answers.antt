use Rattle.std.proofs.Common.{◌∙◌, ◌+◌, subst, sym}
use Rattle.rx_model.specs.declared.answers.Took.{Took}
use Rattle.rx_rules.specs.Received.{Received, after_packet}
use Rattle.rx_pool.proofs.Holding.{keeps_same}
use Rattle.rx_recvwin.specs.Places.{leading}
use Rattle.rx_recvwin.specs.Window.{StandsReceived, window_of, as_packet, slot_behind, packet_slots}
use Rattle.rx_recvwin.proofs.Coming.{row_is, kept_stands, noted_stands, changes_nothing}
use Rattle.rx_recvwin.proofs.window.RecvWin.keep.Goals as goal

pub returns-in-Kept-clause-answered : goal.returns-in-Kept-clause-answered
returns-in-Kept-clause-answered c =
    let p = as_packet c.args.seq c.args.bytes.now c.args.last in
    λ r s. row_is c.args.pool.now c.args.self.now r c.args.spare.lead c.args.spare.common p c.judge-took.result
    c.judge-took.ensures s

pub returns-in-Kept-clause-stands : goal.returns-in-Kept-clause-stands
returns-in-Kept-clause-stands c =
    let w = c.args.self.now in
    let p = as_packet c.args.seq c.args.bytes.now c.args.last in
    let slot = slot_behind c.args.spare.lead c.args.spare.common c.args.seq (w.used + leading w.places) in
    λ r s. subst (λ (took : Took). StandsReceived c.settle.new.pool c.settle.new.self (after_packet took p r))
    (sym c.in-Kept.is)
    (kept_stands c.args.pool.now w (window_of c.put.new.pool c.put.new.self)
    (window_of c.settle.new.pool c.settle.new.self) r
    slot p
    (sym c.judge-took.ensures ∙ c.in-Kept.is) c.put.ensures.put c.settle.ensures.settled s)

pub returns-in-Repeat-clause-answered : goal.returns-in-Repeat-clause-answered
returns-in-Repeat-clause-answered c =
    let p = as_packet c.args.seq c.args.bytes.now c.args.last in
    λ r s. row_is c.args.pool.now c.args.self.now r c.args.spare.lead c.args.spare.common p c.judge-took.result
    c.judge-took.ensures s

pub returns-in-Repeat-clause-stands : goal.returns-in-Repeat-clause-stands
returns-in-Repeat-clause-stands c =
    let p = as_packet c.args.seq c.args.bytes.now c.args.last in
    rw (← c.self.view_is) (λ r s. noted_stands c.args.pool.now _ r p c.judge-took.result c.in-Repeat.is s)

pub returns-in-Clash-clause-answered : goal.returns-in-Clash-clause-answered
returns-in-Clash-clause-answered c =
    let p = as_packet c.args.seq c.args.bytes.now c.args.last in
    λ r s. row_is c.args.pool.now c.args.self.now r c.args.spare.lead c.args.spare.common p c.judge-took.result
    c.judge-took.ensures s

pub returns-in-Clash-clause-stands : goal.returns-in-Clash-clause-stands
returns-in-Clash-clause-stands c =
    let p = as_packet c.args.seq c.args.bytes.now c.args.last in
    λ r s. subst (λ (q : Received). StandsReceived c.args.pool.now c.args.self.now q)
    (sym (changes_nothing r p c.judge-took.result c.in-Clash.is)) s

pub returns-in-Clash-clause-keeps : goal.returns-in-Clash-clause-keeps
returns-in-Clash-clause-keeps c = keeps_same c.args.pool.now (packet_slots c.args.self.now) c.requires.holds
