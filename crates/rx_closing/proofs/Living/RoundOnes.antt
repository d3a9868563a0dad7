-- A call of a stage at the end of a round, or of several, is one at each stage of them.
use Rattle.std.proofs.Common.{ℕ, sym, ◌∙◌}
use Rattle.rx_model.specs.declared.names.CallName.{CallName}
use Rattle.rx_history.specs.Sides.{Node}
use Rattle.rx_jobs.specs.Handlers.{Handlers}
use Rattle.rx_plan.specs.Stages.{Stage}
use Rattle.rx_rounds.proofs.Rounded.{RoundMade}
use Rattle.rx_closing.proofs.Frame.{OneOf}
use Rattle.rx_closing.proofs.Living.Before.{one_before}
use Rattle.rx_closing.proofs.Rounds.Chains.{Adds, Chain, RoundAdds, adds_both, chain_adds, chain_nodes, round_adds}

-- how the history grows from each stage of a round to its end
pub record AddsOver (g : Handlers) (s t : Stage) (r : RoundMade g s t) : Type 0 where
  pub begins : Adds s.history t.history
  pub polled : Adds r.polled.stage.history t.history
  pub delivered : Adds r.delivered.history t.history
  pub served : Adds r.served.history t.history
  pub called : Adds r.called.history t.history

pub adds_over : (g : Handlers) (s t : Stage) (r : RoundMade g s t) → AddsOver g s t r
adds_over g s t r =
    (let a : RoundAdds g s t r = round_adds g s t r in
    let served : Adds r.served.history t.history =
    adds_both r.served.history r.called.history t.history a.called a.over in
    let delivered : Adds r.delivered.history t.history =
    adds_both r.delivered.history r.served.history t.history a.served served in
    let polled : Adds r.polled.stage.history t.history =
    adds_both r.polled.stage.history r.delivered.history t.history a.delivered delivered in
    record {
      begins = adds_both s.history r.polled.stage.history t.history a.polled polled;
      polled = polled;
      delivered = delivered;
      served = served;
      called = a.over;
    })

module _ (c : CallName) (k : ℕ) (client server : Node) where
  -- it is one at each stage of a round
  pub record RoundOnes (g : Handlers) (s t : Stage) (r : RoundMade g s t) : Type 0 where
    pub begins : OneOf c k client server s
    pub polled : OneOf c k client server r.polled.stage
    pub delivered : OneOf c k client server r.delivered
    pub served : OneOf c k client server r.served
    pub called : OneOf c k client server r.called
    pub over : OneOf c k client server t

  pub round_ones : (g : Handlers) (s t : Stage) (r : RoundMade g s t) → OneOf c k client server t
      → RoundOnes g s t r
  round_ones g s t r one =
      (let a : RoundAdds g s t r = round_adds g s t r in
      let b : AddsOver g s t r = adds_over g s t r in
      record {
        begins = one_before c k client server t one s (sym a.nodes) b.begins;
        polled = one_before c k client server t one r.polled.stage (a.polled_nodes ∙ sym a.nodes) b.polled;
        delivered = one_before c k client server t one r.delivered (a.delivered_nodes ∙ sym a.nodes) b.delivered;
        served = one_before c k client server t one r.served (a.served_nodes ∙ sym a.nodes) b.served;
        called = one_before c k client server t one r.called (a.called_nodes ∙ sym a.nodes) b.called;
        over = one;
      })

  -- and where rounds one after another begin
  pub chain_one : (g : Handlers) (n : ℕ) (s t : Stage) → Chain g n s t → OneOf c k client server t
      → OneOf c k client server s
  chain_one g n s t chain one =
      one_before c k client server t one s (sym (chain_nodes g n s t chain)) (chain_adds g n s t chain)
