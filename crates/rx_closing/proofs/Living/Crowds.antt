-- A round leaves a stage at which no calls live but some, with room for them, and so do rounds one after another.
use Rattle.std.proofs.Common.{◌≢◌, ◌⊎◌, ℕ, List, sym, subst, refl}
use Rattle.std.specs.Prelude.{slice_get, IfSome}
use Rattle.rx_model.specs.declared.event.Noted.{Noted}
use Rattle.rx_model.specs.declared.names.CallName.{CallName}
use Rattle.rx_rules.proofs.EveryLaws.{Every}
use Rattle.rx_history.specs.Sides.{Node}
use Rattle.rx_law.specs.Promises.{ServerForgotNone}
use Rattle.rx_law.specs.Times.{Timely}
use Rattle.rx_law.specs.Worlds.{AreApart, AreNodes, Carried, Datagram, Sides, World}
use Rattle.rx_jobs.specs.Handlers.{Handlers}
use Rattle.rx_plan.specs.Stages.{Stage}
use Rattle.rx_plan.proofs.Allowed.{AreAllowed, sides_of}
use Rattle.rx_rounds.proofs.Rounded.{RoundMade}
use Rattle.rx_closing.specs.Living.{looks_of}
use Rattle.rx_closing.proofs.Frame.{AreAmong, Crowd, IsPlain, IsSpacious}
use Rattle.rx_closing.proofs.Living.CrowdRounds.{IsCrowd, IsSome, SaysSome, crowd_carried}
use Rattle.rx_closing.proofs.Rounds.Chains.{Adds, Chain, RoundAdds, adds_both, chain_more, chain_none, round_adds}
use Rattle.rx_closing.proofs.Rounds.ClientsApart.{allowed_all}
use Rattle.rx_closing.proofs.Rounds.KeptBefore.{kept_before}
use Rattle.rx_closing.proofs.Rounds.RoundEvents.{At, RoundHolds, every_weaker, round_holds}

-- ---- stages

world_at : (nodes : List Node) (h : List Noted) → AreNodes nodes → AreAllowed nodes h → Carried nodes h
    → ((j k : ℕ) → j ≢ k → IfSome (slice_get nodes j) (λ n. IfSome (slice_get nodes k)
    (λ o. AreApart n.setup.kind o.setup.kind)))
    → World nodes h
world_at nodes h are allowed carried apart =
    record { sides = sides_of nodes h are allowed; carried = carried; apart = apart }

module _ (cs : List CallName) (s : Stage) (z : Crowd cs s) where
  abbrev pub Those : List Noted → Type 0
  Those h = IsCrowd s.nodes z.world.sides.nodes_are cs h

  abbrev pub Said : List Noted → Datagram → Type 0
  Said h d = IsSome s.nodes z.world.sides.nodes_are cs h d

  -- it stands at a stage
  pub crowd_now : At s.nodes Those s
  crowd_now =
      record {
        nodes_are = refl;
        so = record {
          allowed = allowed_all s.nodes s.history z.world.sides;
          carried = z.world.carried;
          among = z.among;
        };
      }

  pub world_then : (u : Stage) → At s.nodes Those u → World s.nodes u.history
  world_then u a =
      world_at s.nodes u.history z.world.sides.nodes_are a.so.allowed a.so.carried z.world.apart

  pub crowd_then : (u : Stage) → At s.nodes Those u → ServerForgotNone s.nodes u.history ⊎ Timely s.nodes u.history
      → Crowd cs u
  crowd_then u a kept =
      record {
        world = subst (λ (ns : List Node). World ns u.history) (sym a.nodes_are) (world_then u a);
        kept =
            subst (λ (ns : List Node). ServerForgotNone ns u.history ⊎ Timely ns u.history) (sym a.nodes_are) kept;
        plain = λ j. subst (λ (ns : List Node). IfSome (slice_get ns j) IsPlain) (sym a.nodes_are) (z.plain j);
        among = λ j.
            subst (λ (ns : List Node). IfSome (slice_get ns j) (λ n. AreAmong cs (looks_of u j n))) (sym a.nodes_are)
            (a.so.among j);
        space = λ j.
            subst (λ (ns : List Node). IfSome (slice_get ns j) (λ n. IsSpacious cs n.setup)) (sym a.nodes_are)
            (z.space j);
      }

  -- a round leads through such stages
  pub record RoundCrowds (g : Handlers) (t : Stage) (r : RoundMade g s t) : Type 0 where
    pub polled : Crowd cs r.polled.stage
    pub delivered : Crowd cs r.delivered
    pub served : Crowd cs r.served
    pub called : Crowd cs r.called
    pub over : Crowd cs t
    pub said : Every (SaysSome s.nodes cs r.polled.stage.history) r.polled.given

  pub round_crowds : (g : Handlers) (t : Stage) (r : RoundMade g s t)
      → ServerForgotNone s.nodes t.history ⊎ Timely s.nodes t.history → RoundCrowds g t r
  round_crowds g t r kept =
      record {
        polled = crowd_then r.polled.stage b.polled (back r.polled.stage (adds_both r.polled.stage.history
            r.delivered.history t.history m.delivered from_delivered));
        delivered = crowd_then r.delivered b.delivered.at (back r.delivered from_delivered);
        served = crowd_then r.served b.served (back r.served from_served);
        called = crowd_then r.called b.called (back r.called m.over);
        over = crowd_then t b.over kept;
        said = every_weaker (Said r.polled.stage.history) (SaysSome s.nodes cs r.polled.stage.history)
            (λ d one. one.says) r.polled.given b.given;
      }
    where
      b : RoundHolds s.nodes Said Those g s t r
      b = round_holds s.nodes Said Those (crowd_carried s.nodes z.world.sides.nodes_are cs) g s t r crowd_now

      m : RoundAdds g s t r
      m = round_adds g s t r

      from_served : Adds r.served.history t.history
      from_served = adds_both r.served.history r.called.history t.history m.called m.over

      from_delivered : Adds r.delivered.history t.history
      from_delivered = adds_both r.delivered.history r.served.history t.history m.served from_served

      back : (u : Stage) → Adds u.history t.history → ServerForgotNone s.nodes u.history ⊎ Timely s.nodes u.history
      back u a =
          kept_before s.nodes a.more u.history (subst (Sides s.nodes) a.is (world_then t b.over).sides)
          (subst (λ (h : List Noted). ServerForgotNone s.nodes h ⊎ Timely s.nodes h) a.is kept)

  -- so do rounds one after another
  chain_those : (g : Handlers) (n : ℕ) (u t : Stage) → At s.nodes Those u → Chain g n u t → At s.nodes Those t
  chain_those g n u t a (chain_none x) = a
  chain_those g n u t a (chain_more m x v y first others) =
      chain_those g m v y
      (round_holds s.nodes Said Those (crowd_carried s.nodes z.world.sides.nodes_are cs) g x v first a).over others

  pub chain_crowd : (g : Handlers) (n : ℕ) (t : Stage) → Chain g n s t
      → ServerForgotNone s.nodes t.history ⊎ Timely s.nodes t.history → Crowd cs t
  chain_crowd g n t chain kept = crowd_then t (chain_those g n s t crowd_now chain) kept
