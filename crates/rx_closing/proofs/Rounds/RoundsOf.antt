-- Rounds one after another, as they begin and end with a call that lives at its client among others: what is known of
-- the first of them, and of the rest.
use Rattle.std.proofs.Common.{◌≡◌, ℕ, suc, List, subst}
use Rattle.rx_model.specs.declared.names.CallName.{CallName}
use Rattle.rx_history.specs.Sides.{Node}
use Rattle.rx_script.specs.declared.plan.Numbered.{Numbered}
use Rattle.rx_jobs.specs.Handlers.{Handlers}
use Rattle.rx_plan.specs.Stages.{Stage}
use Rattle.rx_plan.proofs.Driven.{seen}
use Rattle.rx_plan.proofs.Followed.{IsFollowed}
use Rattle.rx_rounds.proofs.Rounded.{RoundMade}
use Rattle.rx_closing.proofs.Callers.CallersHold.{round_followed}
use Rattle.rx_closing.proofs.Conns.PlanLinks.{linked_round}
use Rattle.rx_closing.proofs.Conns.PlanPeers.{AreLinked}
use Rattle.rx_closing.proofs.Frame.{Crowd, IsKept, OneOf}
use Rattle.rx_closing.proofs.Living.Crowds.{round_crowds}
use Rattle.rx_closing.proofs.Living.RoundOnes.{chain_one}
use Rattle.rx_closing.proofs.Owing.AllBare.{FirstOf, first_of}
use Rattle.rx_closing.proofs.Rounds.Chains.{Chain, chain_adds, round_adds, round_more}
use Rattle.rx_closing.proofs.Rounds.Clocks.{Lives, lives_within, round_settles}
use Rattle.rx_closing.proofs.Unknown.UnservedMeet.{IsAsked, scene_asked}
use Rattle.rx_closing.proofs.Working.EndRounds.{RoundFor}

module _ (g : Handlers) (ls : List Numbered) (cs : List CallName) (c : CallName) (k : ℕ) (client server : Node) where
  -- so many rounds, as which begin no calls live but some, with room for them; the call lives as they begin and as they
  -- end
  pub record RoundsOf (n : ℕ) (s t : Stage) : Type 0 where
    pub chain : Chain g n s t
    pub over : OneOf c k client server t
    pub crowd : Crowd cs s
    pub held : IsFollowed g ls (seen s)
    pub linked : AreLinked s
    pub living : Lives c k client server s
    pub later : Lives c k client server t

  -- it is a call of the stage at which they begin, and of the one at which they end
  pub begins_one : (n : ℕ) (s t : Stage) → RoundsOf n s t → OneOf c k client server s
  begins_one n s t o = chain_one c k client server g n s t o.chain o.over

  pub begins_asked : (n : ℕ) (s t : Stage) → RoundsOf n s t → IsAsked c k client s
  begins_asked n s t o = scene_asked c k client server s (begins_one n s t o) o.living

  -- the first of them, and the rest
  pub record FirstFor (n : ℕ) (s t : Stage) : Type 0 where
    pub between : Stage
    pub round : RoundMade g s between
    pub for_ : RoundFor g ls cs c k client server s between round
    pub living : Lives c k client server between
    pub rest : RoundsOf n between t

  pub first_for : (n : ℕ) (s t : Stage) → RoundsOf (suc n) s t → FirstFor n s t
  first_for n s t o = by (first_of g n s t o.chain)
    where
      by : FirstOf g n s t → FirstFor n s t
      by f =
          (let u : Stage = f.middle in
          let r : RoundMade g s u = f.made in
          let one_u : OneOf c k client server u = chain_one c k client server g n u t f.rest o.over in
          let living_u : Lives c k client server u =
          lives_within c k client server s u t o.over (round_more g s u r) (chain_adds g n u t f.rest) o.living o.later
          in
          let kept_u : IsKept s.nodes u =
          subst (λ (ns : List Node). IsKept ns u) (round_adds g s u r).nodes one_u.kept in
          record {
            between = u;
            round = r;
            for_ = record {
              over = one_u;
              crowd = o.crowd;
              held = o.held;
              links = o.held.links;
              linked = o.linked;
              settles = round_settles c k client server g s u r one_u o.living living_u;
            };
            living = living_u;
            rest = record {
              chain = f.rest;
              over = o.over;
              crowd = (round_crowds cs s o.crowd g u r kept_u).over;
              held = (round_followed g ls s u r o.held).behind;
              linked = (linked_round g s u r o.linked).over;
              living = living_u;
              later = o.later;
            };
          })
