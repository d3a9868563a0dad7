-- The members of a stage of a driven plan are members at each stage of rounds behind it.
use Rattle.std.proofs.Common.{◌≡◌, ◌⊎◌, ◌+◌, ℕ, suc, List, ap, sym, subst, ◌∙◌}
use Rattle.std.specs.Prelude.{slice_get}
use Rattle.rx_model.specs.declared.event.Noted.{Noted}
use Rattle.rx_model.specs.declared.names.CallName.{CallName}
use Rattle.rx_history.specs.Sides.{Node}
use Rattle.rx_law.specs.Promises.{ServerForgotNone}
use Rattle.rx_law.specs.Times.{Timely}
use Rattle.rx_law.specs.Worlds.{Sides}
use Rattle.rx_script.specs.declared.plan.Numbered.{Numbered}
use Rattle.rx_jobs.specs.Handlers.{Handlers}
use Rattle.rx_plan.specs.Stages.{Stage}
use Rattle.rx_plan.proofs.Driven.{seen}
use Rattle.rx_plan.proofs.Followed.{Asks, IsFollowed, followed}
use Rattle.rx_between.proofs.Each.EachItem.{In}
use Rattle.rx_rounds.proofs.Rounded.{RoundMade}
use Rattle.rx_closing.proofs.Callers.CallersHold.{round_followed}
use Rattle.rx_closing.proofs.Conns.PlanLinks.{LinkedRound, linked_round}
use Rattle.rx_closing.proofs.Far.CausedHere.{CausedBy, IsAt, at_cause, at_round, cause_at}
use Rattle.rx_closing.proofs.Frame.{Crowd, IsKept, OneOf}
use Rattle.rx_closing.proofs.Living.Crowds.{RoundCrowds, chain_crowd, round_crowds}
use Rattle.rx_closing.proofs.Living.InLists.{every_on}
use Rattle.rx_closing.proofs.Rounds.Chains.{Chain, RoundAdds, chain_adds, chain_both, chain_more, chain_nodes}
use Rattle.rx_closing.proofs.Rounds.Chains.{chain_none, round_adds}
use Rattle.rx_closing.proofs.Rounds.KeptBefore.{kept_before}
use Rattle.rx_closing.proofs.Rounds.RoundCarries.{RoundCarried}
use Rattle.rx_closing.proofs.Together.Members.{AllHere, IsMember, Member, names_of}

-- ---- what is promised

-- what is promised behind rounds was so behind the first of them
pub kept_front : (cs : List CallName) (s : Stage) → Crowd cs s → (g : Handlers) (m n : ℕ) (u t : Stage) → Chain g m s u
    → Chain g n u t → IsKept s.nodes t → IsKept s.nodes u
kept_front cs s crowd g m n u t front rest kept =
    (let a = chain_adds g n u t rest in
    kept_before s.nodes a.more u.history (subst (Sides s.nodes) a.is sides)
    (subst (λ (h : List Noted). ServerForgotNone s.nodes h ⊎ Timely s.nodes h) a.is kept))
  where
    all : Chain g (m + n) s t
    all = chain_both g m n s u t front rest

    sides : Sides s.nodes t.history
    sides =
        subst (λ (ns : List Node). Sides ns t.history) (chain_nodes g (m + n) s t all)
        (chain_crowd cs s crowd g (m + n) t all kept).world.sides

-- what is promised of the nodes of one stage is promised of those of another
pub kept_nodes : (s u t : Stage) → u.nodes ≡ s.nodes → IsKept s.nodes t → IsKept u.nodes t
kept_nodes s u t nodes kept = subst (λ (ns : List Node). IsKept ns t) (sym nodes) kept

-- a call of one stage is one of a later one
pub one_later : (c : CallName) (k : ℕ) (client server : Node) (s : Stage) → OneOf c k client server s
    → (cs : List CallName) (u : Stage) → u.nodes ≡ s.nodes → Crowd cs u → OneOf c k client server u
one_later c k client server s one cs u nodes crowd =
    record {
      world = crowd.world;
      kept = crowd.kept;
      server_there = ap (λ (ns : List Node). slice_get ns 0) nodes ∙ one.server_there;
      client_there = ap (λ (ns : List Node). slice_get ns (suc k)) nodes ∙ one.client_there;
      client_is = one.client_is;
      plain = crowd.plain;
    }

-- ---- a round

module _ (g : Handlers) (ls : List Numbered) (server : Node) where
  -- it is a member at each stage of a round
  pub record RoundIs (m : Member) (s t : Stage) (r : RoundMade g s t) : Type 0 where
    pub polled : IsMember g ls server r.polled.stage m
    pub delivered : IsMember g ls server r.delivered m
    pub served : IsMember g ls server r.served m
    pub called : IsMember g ls server r.called m
    pub over : IsMember g ls server t m

  member_by : (s u : Stage) (m : Member) → (is : IsMember g ls server s m)
      → OneOf m.call m.index m.client server u → IsFollowed g ls (seen u)
      → IsAt m.call (suc m.index) is.caused.cause.place is.caused.cause.invoked.line u.callers
      → IsMember g ls server u m
  member_by s u m is one held_ at =
      record {
        one = one;
        caused = subst (λ (bs : List ℕ). CausedBy g ls m.call m.index m.client bs u) is.caused.asks
            (cause_at g ls m.call m.index m.client server s u is.caused.cause one held_ at);
      }

  -- all of them are
  pub record RoundAll (ms : List Member) (s t : Stage) (r : RoundMade g s t) : Type 0 where
    pub polled : AllHere g ls server ms r.polled.stage
    pub delivered : AllHere g ls server ms r.delivered
    pub served : AllHere g ls server ms r.served
    pub called : AllHere g ls server ms r.called
    pub over : AllHere g ls server ms t
    pub each : (m : Member) → In m ms → IsMember g ls server s m → RoundIs m s t r

  pub round_all : (ms : List Member) (s t : Stage) → AllHere g ls server ms s → (r : RoundMade g s t)
      → IsKept s.nodes t → RoundAll ms s t r
  round_all ms s t here r kept =
      record {
        polled = record {
          crowd = crowds.polled;
          held = holds.polled;
          links = holds.polled.links;
          linked = linked.polled;
          members = every_on (IsMember g ls server s) (IsMember g ls server r.polled.stage) ms
              (λ m inside is. (each m is).polled) here.members;
        };
        delivered = record {
          crowd = crowds.delivered;
          held = holds.delivered;
          links = holds.delivered.links;
          linked = linked.delivered;
          members = every_on (IsMember g ls server s) (IsMember g ls server r.delivered) ms
              (λ m inside is. (each m is).delivered) here.members;
        };
        served = record {
          crowd = crowds.served;
          held = holds.served;
          links = holds.served.links;
          linked = linked.served;
          members = every_on (IsMember g ls server s) (IsMember g ls server r.served) ms
              (λ m inside is. (each m is).served) here.members;
        };
        called = record {
          crowd = crowds.called;
          held = holds.called;
          links = holds.called.links;
          linked = linked.called;
          members = every_on (IsMember g ls server s) (IsMember g ls server r.called) ms
              (λ m inside is. (each m is).called) here.members;
        };
        over = record {
          crowd = crowds.over;
          held = holds.behind;
          links = holds.behind.links;
          linked = linked.over;
          members = every_on (IsMember g ls server s) (IsMember g ls server t) ms (λ m inside is. (each m is).over)
              here.members;
        };
        each = λ m inside is. each m is;
      }
    where
      cs : List CallName
      cs = names_of ms

      crowds : RoundCrowds cs s here.crowd g t r
      crowds = round_crowds cs s here.crowd g t r kept

      holds : RoundCarried g (Asks g ls) (IsFollowed g ls) (followed g ls) s t r
      holds = round_followed g ls s t r here.held

      linked : LinkedRound g s t r
      linked = linked_round g s t r here.linked

      a : RoundAdds g s t r
      a = round_adds g s t r

      each : (m : Member) → IsMember g ls server s m → RoundIs m s t r
      each m is =
          (let i = is.caused.cause in
          let ats = at_round g ls m.call (suc m.index) i.place i.invoked.line s t r
          (at_cause g ls m.call m.index m.client server s i) in
          record {
            polled = member_by s r.polled.stage m is (one r.polled.stage a.polled_nodes crowds.polled) holds.polled
                ats.polled;
            delivered = member_by s r.delivered m is (one r.delivered a.delivered_nodes crowds.delivered)
                holds.delivered ats.delivered;
            served = member_by s r.served m is (one r.served a.served_nodes crowds.served) holds.served ats.served;
            called = member_by s r.called m is (one r.called a.called_nodes crowds.called) holds.called ats.called;
            over = member_by s t m is (one t a.nodes crowds.over) holds.behind ats.behind;
          })
        where
          one : (u : Stage) → u.nodes ≡ s.nodes → Crowd cs u → OneOf m.call m.index m.client server u
          one u nodes crowd = one_later m.call m.index m.client server s is.one cs u nodes crowd

  -- ---- rounds one after another

  pub all_here_on : (ms : List Member) (n : ℕ) (s t : Stage) → Chain g n s t → AllHere g ls server ms s
      → IsKept s.nodes t → AllHere g ls server ms t
  all_here_on ms n s t (chain_none z) here kept = here
  all_here_on ms n s t (chain_more m z u y first others) here kept =
      (let front = chain_more 0 z u u first (chain_none u) in
      let kept_u = kept_front (names_of ms) z here.crowd g 1 m u y front others kept in
      let round = round_all ms z u here first kept_u in
      all_here_on ms m u y others round.over (kept_nodes z u y (round_adds g z u first).nodes kept))
