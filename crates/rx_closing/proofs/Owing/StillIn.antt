-- In each round of a stretch, through which all calls together come no further, none of them does, and none is broken
-- at the server; so no node owes anything but streams from the second of its rounds on.
use Rattle.std.proofs.Common.{◌≡◌, ◌≤◌, ◌+◌, ℕ, ℤ, suc, List, Option, Some, None, refl, sym, subst, ◌∙◌, arith}
use Rattle.std.specs.Prelude.{slice_get}
use Rattle.rx_rules.specs.Life as lives
use Rattle.rx_rules.specs.Looks.{CallRecord}
use Rattle.rx_history.specs.Sides.{Node}
use Rattle.rx_script.specs.declared.plan.Numbered.{Numbered}
use Rattle.rx_jobs.specs.Handlers.{Handlers}
use Rattle.rx_plan.specs.Answering.{AreServable}
use Rattle.rx_plan.specs.Stages.{Stage}
use Rattle.rx_between.proofs.Each.EachItem.{In}
use Rattle.rx_rounds.proofs.Rounded.{RoundMade}
use Rattle.rx_closing.specs.Living.{looks_of}
use Rattle.rx_closing.proofs.Far.FarStands.{StandsOf, scene_stands}
use Rattle.rx_closing.proofs.Frame.{IsKept, served_in}
use Rattle.rx_closing.proofs.Owing.AllBare.{HereIn, StandsIn, StraylessIn, bare_between}
use Rattle.rx_closing.proofs.Owing.AreStill.{AreStill}
use Rattle.rx_closing.proofs.Owing.BareRound.{AckAllStops}
use Rattle.rx_closing.proofs.Owing.OwesNone.{OwesNone}
use Rattle.rx_closing.proofs.Quiet.NoStrays.{no_strays}
use Rattle.rx_closing.proofs.Rounds.Chains.{Adds, Chain, RoundAdds, adds_both, chain_both, chain_more, chain_nodes}
use Rattle.rx_closing.proofs.Rounds.Chains.{chain_none, round_adds, round_more}
use Rattle.rx_closing.proofs.Server.NoBroken.{no_broken}
use Rattle.rx_closing.proofs.Telling.AbortComes.{abort_ends, client_abort_stops}
use Rattle.rx_closing.proofs.Telling.AckAllComes.{ackall_ends}
use Rattle.rx_closing.proofs.Together.AllRounds.{RoundAll, RoundIs, all_here_on, kept_front, kept_nodes, round_all}
use Rattle.rx_closing.proofs.Together.JobsGo.{JobsGo}
use Rattle.rx_closing.proofs.Together.Members.{AllHere, IsMember, Member, Stretch, member_way, names_of}
use Rattle.rx_closing.proofs.Together.MembersHere.{is_member}
use Rattle.rx_closing.proofs.Together.MembersStand.{RoundStands, WayStands, members_stand, round_stands, stands_both}
use Rattle.rx_closing.proofs.Together.MembersStand.{stands_sym, stands_way}

ackall_stops : AckAllStops
ackall_stops c k client server g s t r one linked links owes =
    ackall_ends c k client server g s t r one linked links
    (record { owed = owes.owed; number = owes.number; some = owes.some })

-- a call that stands broken is there
broken_on : (y : CallRecord) (o : Option CallRecord) → StandsOf (Some y) o
    → (r : CallRecord) × (o ≡ Some r) × (r.life ≡ y.life)
broken_on y None stands = absurd stands
broken_on y (Some r) stands = (r, refl, stands.life)

same_low : (m n : ℕ) → m ≡ n → n ≤ m
same_low m n is = omega (arith, is)

module _ (g : Handlers) (ls : List Numbered) (servable : AreServable g) (server : Node) (jobs : JobsGo g ls server)
    (ms : List Member) (n : ℕ) (s u : Stage) (z : Stretch g ls server ms n s u) where
  kept_at : (i j : ℕ) (v : Stage) → Chain g i s v → Chain g j v u → IsKept s.nodes v
  kept_at i j v front rest = kept_front (names_of ms) s z.here.crowd g i j v u front rest z.kept

  -- all members are there at each stage of it
  pub here_in : HereIn g ls server ms s u
  here_in i j v front rest = all_here_on g ls server ms i s v front z.here (kept_at i j v front rest)

  -- each stands at each stage of it
  stands_at : (i j : ℕ) (v : Stage) → Chain g i s v → Chain g j v u → (m : Member) → In m ms → WayStands g server m s v
  stands_at i j v front rest m inside =
      (members_stand g ls server jobs ms i j s v u z.here front rest z.kept z.same m inside).0

  module _ (i j : ℕ) (v w : Stage) (front : Chain g i s v) (r : RoundMade g v w) (rest : Chain g j w u) where
    front_w : Chain g (i + 1) s w
    front_w = chain_both g i 1 s v w front (chain_more 0 v w w r (chain_none w))

    here : AllHere g ls server ms v
    here = here_in i (suc j) v front (chain_more j v w u r rest)

    kept : IsKept v.nodes w
    kept = kept_nodes s v w (chain_nodes g i s v front) (kept_at (i + 1) j w front_w rest)

    all : RoundAll g ls server ms v w r
    all = round_all g ls server ms v w here r kept

    adds : RoundAdds g v w r
    adds = round_adds g v w r

    module _ (m : Member) (inside : In m ms) where
      stands : WayStands g server m v w
      stands =
          stands_both g server m v s w
          (stands_sym g server m s v (stands_at i (suc j) v front (chain_more j v w u r rest) m inside))
          (stands_at (i + 1) j w front_w rest m inside)

      is : IsMember g ls server v m
      is = is_member g ls server ms v here m inside

      each : RoundIs g ls server m v w r
      each = all.each m inside is

      parts : RoundStands g ls server jobs ms m v w r
      parts =
          round_stands g ls server jobs ms v w here r kept m inside (stands_way g server m v w stands)

      -- it isn't broken
      whole : (y : CallRecord) → served_in m.call server v ≡ Some y → (code : ℤ) → y.life ≡ lives.Broken code → ⊥
      whole y there code broken =
          of (broken_on y (served_in m.call server r.delivered)
          (subst (λ (o : Option CallRecord). StandsOf o (served_in m.call server r.delivered)) there both))
        where
          front_d : Adds v.history r.delivered.history
          front_d =
              adds_both v.history r.polled.stage.history r.delivered.history adds.polled adds.delivered

          both : StandsOf (served_in m.call server v) (served_in m.call server r.delivered)
          both =
              (scene_stands m.call m.index m.client server r.delivered each.delivered.one v front_d.more front_d.is
              parts.delivered.far).1

          same : member_way g server r.delivered m ≡ member_way g server r.served m
          same =
              sym (stands_way g server m v r.delivered parts.delivered) ∙ stands_way g server m v r.served parts.served

          of : (q : CallRecord) × (served_in m.call server r.delivered ≡ Some q) × (q.life ≡ y.life) → ⊥
          of q =
              no_broken g ls servable m.call m.index m.client server m.request r.delivered r.served each.delivered.one
              each.served.one all.delivered.held each.delivered.caused r.serves_are adds.served
              (same_low (member_way g server r.delivered m) (member_way g server r.served m) same) q.0 q.1 code
              (q.2 ∙ broken)

    -- from one of its stages to the next none comes further
    still : AreStill server ms v w
    still =
        record {
          nodes = adds.nodes;
          grown = round_more g v w r;
          crowd = here.crowd;
          first = (is z.asker z.inside).one.server_there;
          one = λ m inside. (each m inside).over.one;
          far = λ m inside. (stands m inside).far;
          whole = whole;
        }

  -- in each of its rounds none comes further
  pub stands_in : StandsIn g server ms s u
  stands_in i j v w front r rest = still i j v w front r rest

  strays_in : StraylessIn g s u
  strays_in i j v front rest k q there =
      (let here : AllHere g ls server ms v = here_in i j v front rest in
      no_strays v.nodes v.history here.crowd.world here.crowd.plain here.links k q there)

  -- no node owes anything but streams, where one of the rounds lies before the stage and one behind it
  pub all_bare : (i j : ℕ) (v : Stage) → Chain g (suc i) s v → Chain g (suc j) v u → (k : ℕ) (q : Node)
      → slice_get v.nodes k ≡ Some q → OwesNone (looks_of v k q)
  all_bare =
      bare_between abort_ends client_abort_stops ackall_stops g ls server ms s u stands_in here_in strays_in
