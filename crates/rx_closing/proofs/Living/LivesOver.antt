-- A call that lives at its client behind the turns of a round lives there at the round's end.
use Rattle.std.proofs.Common.{◌≡◌, ℕ, suc, true, false, Some, ap, sym, ◌∙◌}
use Rattle.rx_model.specs.declared.names.CallName.{CallName}
use Rattle.rx_rules.specs.Life.{is_active, is_live}
use Rattle.rx_rules.specs.Life as lives
use Rattle.rx_rules.specs.Looks.{CallRecord, is_call}
use Rattle.rx_rules.specs.Records.{is_silent}
use Rattle.rx_history.specs.Sides.{Node}
use Rattle.rx_jobs.specs.Handlers.{Handlers}
use Rattle.rx_plan.specs.Stages.{Stage}
use Rattle.rx_rounds.proofs.Rounded.{RoundMade}
use Rattle.rx_closing.specs.Living.{call_lives_at, looks_of}
use Rattle.rx_closing.proofs.Frame.{OneOf, asked_in}
use Rattle.rx_closing.proofs.Living.Before.{one_before}
use Rattle.rx_closing.proofs.Rounds.Chains.{Adds, RoundAdds, adds_both, round_adds}
use Rattle.rx_closing.proofs.Rounds.Clocks.{asked_calling, lives_within}
use Rattle.rx_closing.proofs.Rounds.KnowsRound.{polled_awake}
use Rattle.rx_closing.proofs.Rounds.RoundAwake.{awake_between}
use Rattle.rx_closing.proofs.Rounds.RoundMoments.{MomentsStay, moments_stay}
use Rattle.rx_closing.proofs.Rounds.Settles.{Settles, settles_at, settles_call}

module _ (c : CallName) (k : ℕ) (client server : Node) (g : Handlers) (s t : Stage) (r : RoundMade g s t)
    (one : OneOf c k client server r.called) (lived : call_lives_at s c (suc k) client ≡ true)
    (last : call_lives_at r.called c (suc k) client ≡ true) where
  adds : RoundAdds g s t r
  adds = round_adds g s t r

  still : MomentsStay g s t r
  still = moments_stay g s t r

  polled_called : Adds r.polled.stage.history r.called.history
  polled_called =
      adds_both r.polled.stage.history r.served.history r.called.history
      (adds_both r.polled.stage.history r.delivered.history r.served.history adds.delivered adds.served) adds.called

  polled_one : OneOf c k client server r.polled.stage
  polled_one =
      one_before c k client server r.called one r.polled.stage (adds.polled_nodes ∙ sym adds.called_nodes) polled_called

  begins_one : OneOf c k client server s
  begins_one =
      one_before c k client server r.called one s (sym adds.called_nodes)
      (adds_both s.history r.polled.stage.history r.called.history adds.polled polled_called)

  abbrev a : (x : CallRecord) × (asked_in c k client r.called ≡ Some x) × (x.life ≡ lives.Calling)
  a = asked_calling c k client server r.called one last

  abbrev p : (x : CallRecord) × (asked_in c k client r.polled.stage ≡ Some x) × (x.life ≡ lives.Calling)
  p =
      asked_calling c k client server r.polled.stage polled_one
      (lives_within c k client server s r.polled.stage r.called one adds.polled polled_called lived last)

  -- it isn't silent behind the turns
  pub over_awake : is_silent (looks_of r.called (suc k) client).now a.0 ≡ false
  over_awake =
      awake_between c k client server r.polled.stage r.called one polled_called.more polled_called.is (suc k) client
      one.client_there (still.called (suc k) ∙ sym (still.polled (suc k))) p.0 a.0 p.1 (ap is_active p.2)
      (polled_awake s r.polled r.polls_are (suc k) client begins_one.client_there c p.0 p.1) a.1

  -- so the round settles
  pub over_settles : Settles r.polled.given r.called t
  over_settles = settles_at g c k client server s t r one a.0 a.1 (ap is_active a.2) over_awake

  -- and it lives behind it
  pub lives_over : call_lives_at t c (suc k) client ≡ true
  lives_over =
      ap (is_call (λ (x : CallRecord). is_live x.life))
      (settles_call r.polled.given r.called t over_settles (suc k) client one.client_there c ∙ a.1) ∙ ap is_live a.2
