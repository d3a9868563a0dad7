use Rattle.std.proofs.Common.{◌≡◌, ◌∙◌, ap, rules, drop, length}
use Rattle.rx_sendwin.specs.Lost.{order_in}
use Rattle.rx_sendwin.proofs.AllAcked.{all_tied, all_stands}
use Rattle.rx_sendwin.proofs.LostStanding.{lost_none}
use Rattle.rx_sendwin.proofs.window.SendWin.ack_all.Goals as goal

pub invariant_of-self : goal.invariant_of-self
invariant_of-self c =
    let hs = c.self.inside.pieces.items in
    let all = (rw (← c.self.view_is) at c.requires.sent) in
    let rest : c.free_front.new.pieces.items ≡ drop (length hs) hs = (
    c.free_front.ensures.rest ∙ ap (λ n. drop n hs) (c.len-held.ensures ∙ c.self.inside.pieces.ok.0)) in (
      search rules,
      all_tied _ c.self.inside.low c.self.inside.flight c.clear.new.self.items
          c.free_front.new.pieces.items c.self.invariant.1 all c.clear.ensures rest,
      lost_none c.self.inside.given c.self.inside.since c.clear.new.self.items
          (order_in c.free_front.new.pieces.items) _ c.none-self-inside.ensures,
    )

pub returns-clause-stands : goal.returns-clause-stands
returns-clause-stands c =
    let hs = c.self.inside.pieces.items in
    let all = (rw (← c.self.view_is) at c.requires.sent) in
    let rest : c.free_front.new.pieces.items ≡ drop (length hs) hs = (
    c.free_front.ensures.rest ∙ ap (λ n. drop n hs) (c.len-held.ensures ∙ c.self.inside.pieces.ok.0)) in
    rw (← c.self.view_is) (λ s st. all_stands c.args.pool.now c.free_front.new.pool _ s c.self.inside.low
    c.self.inside.flight c.clear.new.self.items c.free_front.new.pieces.items st c.self.invariant.1 all
    c.free_front.ensures.bytes c.clear.ensures rest)
