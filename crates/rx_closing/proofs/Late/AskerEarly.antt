-- Where a call that stands lives at its client through rounds, twelve seconds don't pass in them: it would be silent
-- where it hears nothing, ping where it gives nothing, and have come to rest where its server is at work with it.
use Rattle.std.proofs.Common.{◌≡◌, ◌<◌, ◌≤◌, ◌+◌, ℕ, suc, true, List, Some, inl, ap, sym, ◌∙◌, ⊎_elim, arith}
use Rattle.std.proofs.lemmas.Bool.{cases_lt}
use Rattle.std.specs.Prelude.{slice_get}
use Rattle.rx_rules.specs.Life.{is_active}
use Rattle.rx_rules.specs.Looks.{CallRecord}
use Rattle.rx_rules.specs.Records.{is_silent}
use Rattle.rx_rules.specs.Rules.{Legal}
use Rattle.rx_rules.specs.Setup.{FitsSetup}
use Rattle.rx_history.specs.Sides.{Node, moment, side}
use Rattle.rx_history.proofs.Moments.{now-side}
use Rattle.rx_law.proofs.World.{if-some}
use Rattle.rx_jobs.specs.Handlers.{Handlers}
use Rattle.rx_plan.specs.Stages.{Stage}
use Rattle.rx_between.proofs.Each.EachItem.{In}
use Rattle.rx_rounds.proofs.Rounded.{RoundMade}
use Rattle.rx_closing.specs.Living.{looks_of}
use Rattle.rx_closing.proofs.Ends.AtRest.{Rest}
use Rattle.rx_closing.proofs.Ends.BothEnds.{Ends, Round}
use Rattle.rx_closing.proofs.Ends.LoneEnd.{Lone, LoneRound}
use Rattle.rx_closing.proofs.Far.FarStands.{both_low}
use Rattle.rx_closing.proofs.Frame.{OneOf, asked_in}
use Rattle.rx_closing.proofs.Late.LateEnds.{heard_before, quiet_near, silent_by, works_rest}
use Rattle.rx_closing.proofs.Living.Before.{one_before}
use Rattle.rx_closing.proofs.Rounds.Chains.{Adds, Chain, RoundAdds, adds_both, chain_both, chain_more, chain_none}
use Rattle.rx_closing.proofs.Rounds.Chains.{round_adds}
use Rattle.rx_closing.proofs.Rounds.Clocks.{asked_calling}
use Rattle.rx_closing.proofs.Rounds.RoundsGive.{AreOnes, LivesAt, asker_one, far_at, near_each, together}
use Rattle.rx_closing.proofs.Rounds.SceneEnds.{client_kind, server_kind}
use Rattle.rx_closing.proofs.Rounds.SilentMoves.{silent_moves}
use Rattle.rx_closing.proofs.Rounds.SpokeHolds.{IsPast, past_holds}
use Rattle.rx_closing.proofs.Sums.RoundLoads.{EachRound, EachStage, Together, both_ends, lone_end, looks_or}
use Rattle.rx_closing.proofs.Together.Members.{Member}

module _ (g : Handlers) (server : Node) (ms : List Member) (z u : Stage) (ones : AreOnes server ms u) (asker : Member)
    (inside : In asker ms) (lives : EachStage g z u 0 (LivesAt server asker)) where
  -- twelve seconds haven't passed behind the first stage, where four rounds are still made
  abbrev pub IsEarly : Type 0
  IsEarly = EachStage g z u 4 (λ v. moment 0 v.history < moment 0 z.history + 12000)

  -- the client's end
  abbrev pub at_client : Stage → Lone
  at_client v = lone_end asker.call (suc asker.index) asker.client v

  -- both ends
  abbrev pub at_both : Stage → Ends
  at_both v = both_ends asker.call asker.index asker.client server v

  one_at : (n : ℕ) (v : Stage) → Chain g n v u → OneOf asker.call asker.index asker.client server v
  one_at = asker_one g server ms z u ones asker inside lives

  -- the clocks of the server and of its client
  both_clocks : EachStage g z u 0 (Together g z u (suc asker.index))
  both_clocks i n v front rest many =
      together g server ms z u ones asker inside lives (suc asker.index) asker.client
      (one_at (i + n) z (chain_both g i n z v u front rest)).client_there i n v front rest many

  -- the call at a stage, and when it was heard and spoke
  record Asks (v : Stage) : Type 0 where
    call : CallRecord
    there : asked_in asker.call asker.index asker.client v ≡ Some call
    active : is_active call.life ≡ true
    past : IsPast (looks_of v (suc asker.index) asker.client).now call.looks

  asks_at : (i n : ℕ) (v : Stage) → Chain g i z v → Chain g n v u → Asks v
  asks_at i n v front rest =
      (let one = one_at n v rest in
      let a = asked_calling asker.call asker.index asker.client server v one (lives i n v front rest (omega arith)) in
      record {
        call = a.0;
        there = a.1;
        active = ap is_active a.2;
        past =
            past_holds asker.client.setup (side (suc asker.index) v.history) asker.call a.0
            (if-some (slice_get v.nodes (suc asker.index)) asker.client (λ m. FitsSetup m.setup) one.client_there
            (one.world.sides.nodes_are.fits (suc asker.index)))
            (if-some (slice_get v.nodes (suc asker.index)) asker.client
            (λ m. Legal m.setup (side (suc asker.index) v.history)) one.client_there
            (one.world.sides.legal (suc asker.index))) a.1;
      })

  now_of : (v : Stage) → (looks_of v (suc asker.index) asker.client).now ≡ moment (suc asker.index) v.history
  now_of v = now-side asker.client.setup (suc asker.index) v.history

  -- ---- it hears nothing

  pub never_unheard : EachRound g z u 2 (λ v w r. LoneRound asker.client.setup true (at_client v) (at_client w))
      → EachStage g z u 0 (λ v. far_at server z asker ≡ far_at server v asker) → IsEarly
  never_unheard rounds stands i n v front (chain_none o) many = absurd (omega (arith, many))
  never_unheard rounds stands i n v front (chain_more m o w y r others) many =
      ⊎_elim (λ (soon : moment 0 o.history < moment 0 z.history + 12000). soon)
      (λ (late : moment 0 z.history + 12000 ≤ moment 0 o.history). absurd (moves (silent late)))
      (cases_lt (moment 0 o.history) (moment 0 z.history + 12000))
    where
      behind : Chain g (suc m) o y
      behind = chain_more m o w y r others

      at_z : Asks z
      at_z = asks_at 0 (i + suc m) z (chain_none z) (chain_both g i (suc m) z o y front behind)

      at_v : Asks o
      at_v = asks_at i (suc m) o front behind

      silent : moment 0 z.history + 12000 ≤ moment 0 o.history
          → is_silent (looks_of o (suc asker.index) asker.client).now at_v.call ≡ true
      silent late =
          (let clocks = both_clocks i (suc m) o front behind (omega arith) in
          let first = clocks.first in
          let own = clocks.own in
          let same = heard_before g z y asker.client.setup at_client rounds i (suc m) o front behind
          (omega (arith, many)) in
          let heard_z : (at_client z).end.heard ≡ (at_z.call).looks.heard = ap (λ x. (looks_or x).heard) at_z.there in
          let heard_v : (at_client o).end.heard ≡ (at_v.call).looks.heard = ap (λ x. (looks_or x).heard) at_v.there in
          let past = at_z.past.heard in
          let now_z = now_of z in
          let now_v = now_of o in
          silent_by (looks_of o (suc asker.index) asker.client).now at_v.call at_v.active
          (omega (arith, late, first, own, same, heard_z, heard_v, past, now_z, now_v)))

      -- so it would be further
      moves : is_silent (looks_of o (suc asker.index) asker.client).now at_v.call ≡ true → ⊥
      moves is =
          (let adds : RoundAdds g o w r = round_adds g o w r in
          let onward : Adds r.polled.stage.history w.history =
          adds_both r.polled.stage.history r.called.history w.history
          (adds_both r.polled.stage.history r.served.history r.called.history
          (adds_both r.polled.stage.history r.delivered.history r.served.history adds.delivered adds.served)
          adds.called) adds.over in
          let one_w = one_at m w others in
          let polled = one_before asker.call asker.index asker.client server w one_w r.polled.stage
          (adds.polled_nodes ∙ sym adds.nodes) onward in
          let up = silent_moves asker.call asker.index asker.client server o r.polled r.polls_are
          (sym adds.polled_nodes) adds.polled polled (inl (at_v.call, at_v.there, is)) in
          let low = both_low asker.call asker.index asker.client server w one_w r.polled.stage onward.more onward.is in
          let now_ = stands i (suc m) o front behind (omega arith) in
          let then_ = stands (i + 1) m w (chain_both g i 1 z o w front (chain_more 0 o w w r (chain_none w))) others
          (omega arith) in
          omega (arith, up, low, now_, then_))

  -- ---- a round before the first stage

  module _ (y : Stage) (before : RoundMade g y z) (lived : LivesAt server asker y) where
    near_ : EachStage g z u 0 (λ v. moment (suc asker.index) v.history ≤ (at_client v).end.spoke + 2000)
    near_ = near_each g server ms z u ones asker inside lives y before lived

    -- it gives nothing
    pub never_quiet : EachRound g z u 2 (λ v w r. (at_client w).end.spoke ≡ (at_client v).end.spoke) → IsEarly
    never_quiet rounds i n v front rest many =
        (let at_z = asks_at 0 (i + n) z (chain_none z) (chain_both g i n z v u front rest) in
        let clocks = both_clocks i n v front rest (omega arith) in
        let first = clocks.first in
        let own = clocks.own in
        let spoke_z : (at_client z).end.spoke ≡ (at_z.call).looks.spoke = ap (λ o. (looks_or o).spoke) at_z.there in
        let past = at_z.past.spoke in
        let now_z = now_of z in
        let near = quiet_near g z u asker.client.setup at_client rounds
        (λ j m w up on few. near_ j m w up on (omega arith)) (omega (arith, spoke_z, past, now_z)) i n v front rest
        (omega (arith, many)) in
        omega (arith, near, first, own))

    -- its server is at work with it
    pub never_works : EachRound g z u 2 (λ v w r. Round asker.client.setup server.setup (at_both v) (at_both w))
        → (Rest (at_both z) → ⊥) → IsEarly
    never_works rounds restless i n v front rest many =
        ⊎_elim (λ (soon : moment 0 v.history < moment 0 z.history + 12000). soon)
        (λ (late : moment 0 z.history + 12000 ≤ moment 0 v.history). absurd (rested late))
        (cases_lt (moment 0 v.history) (moment 0 z.history + 12000))
      where
        rested : moment 0 z.history + 12000 ≤ moment 0 v.history → ⊥
        rested late =
            (let one = one_at n v rest in
            let clocks = both_clocks i n v front rest (omega arith) in
            let first = clocks.first in
            let own = clocks.own in
            restless (works_rest g z u asker.client.setup server.setup
            (client_kind asker.call asker.index asker.client server v one)
            (server_kind asker.call asker.index asker.client server v one) at_both rounds
            (λ j m w up on few. near_ j m w up on (omega arith)) i n v front rest many
            (omega (arith, late, first, own))))
