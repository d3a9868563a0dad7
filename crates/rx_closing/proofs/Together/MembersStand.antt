-- Where all members together are as far behind rounds as before them, each stands at each stage between.
use Rattle.std.proofs.Common.{◌≡◌, ◌≤◌, ◌+◌, ℕ, List, sym, ◌∙◌, arith}
use Rattle.rx_history.specs.Sides.{Node}
use Rattle.rx_script.specs.declared.plan.Numbered.{Numbered}
use Rattle.rx_jobs.specs.Handlers.{Handlers}
use Rattle.rx_plan.specs.Stages.{Stage}
use Rattle.rx_between.proofs.Each.EachItem.{In}
use Rattle.rx_rounds.proofs.Rounded.{RoundMade}
use Rattle.rx_closing.proofs.Frame.{IsKept}
use Rattle.rx_closing.proofs.Rounds.Chains.{Chain, chain_nodes}
use Rattle.rx_closing.proofs.Together.AllGrows.{RoundOn, WayOn, chain_on, far_at, on_both, on_way, round_on, steps_of}
use Rattle.rx_closing.proofs.Together.AllGrows.{ways_same}
use Rattle.rx_closing.proofs.Together.AllRounds.{all_here_on, kept_front, kept_nodes}
use Rattle.rx_closing.proofs.Together.JobsGo.{JobsGo}
use Rattle.rx_closing.proofs.Together.Members.{AllHere, Member, all_way, member_way, names_of}

-- both numbers of a member are the same at two stages
pub record WayStands (g : Handlers) (server : Node) (m : Member) (s t : Stage) : Type 0 where
  pub far : far_at server m s ≡ far_at server m t
  pub steps : steps_of g server m s ≡ steps_of g server m t

-- where it is no less far at a stage between, and the whole is the same, both are the same there
pub stands_by : (g : Handlers) (server : Node) (m : Member) (s v u : Stage) → WayOn g server m s v
    → WayOn g server m v u → member_way g server s m ≡ member_way g server u m
    → WayStands g server m s v × WayStands g server m v u
stands_by g server m s v u a b same =
    (let n =
    by (far_at server m s) (far_at server m v) (far_at server m u) (steps_of g server m s) (steps_of g server m v)
    (steps_of g server m u) a.far b.far a.steps b.steps same in (
      record { far = n.0; steps = n.1 },
      record { far = n.2; steps = n.3 },
    ))
  where
    by : (a b c x y z : ℕ) → a ≤ b → b ≤ c → x ≤ y → y ≤ z → a + x ≡ c + z
        → (a ≡ b) × (x ≡ y) × (b ≡ c) × (y ≡ z)
    by a b c x y z first second third fourth is = (omega arith, omega arith, omega arith, omega arith)

pub stands_way : (g : Handlers) (server : Node) (m : Member) (s t : Stage) → WayStands g server m s t
    → member_way g server s m ≡ member_way g server t m
stands_way g server m s t w = λ i. w.far i + w.steps i

pub stands_sym : (g : Handlers) (server : Node) (m : Member) (s t : Stage) → WayStands g server m s t
    → WayStands g server m t s
stands_sym g server m s t w = record { far = sym w.far; steps = sym w.steps }

pub stands_both : (g : Handlers) (server : Node) (m : Member) (s t u : Stage) → WayStands g server m s t
    → WayStands g server m t u → WayStands g server m s u
stands_both g server m s t u a b = record { far = a.far ∙ b.far; steps = a.steps ∙ b.steps }

module _ (g : Handlers) (ls : List Numbered) (server : Node) (jobs : JobsGo g ls server) (ms : List Member) where
  -- between two stages with so many rounds between
  pub members_stand : (i j : ℕ) (s v u : Stage) → AllHere g ls server ms s → Chain g i s v → Chain g j v u
      → IsKept s.nodes u → all_way g server ms s ≡ all_way g server ms u → (m : Member) → In m ms
      → WayStands g server m s v × WayStands g server m v u
  members_stand i j s v u here front rest kept same m inside =
      stands_by g server m s v u (first m inside) (second m inside)
      (ways_same g server ms s u
      (λ n there. on_way g server n s u (on_both g server n s v u (first n there) (second n there))) same m inside)
    where
      kept_v : IsKept s.nodes v
      kept_v = kept_front (names_of ms) s here.crowd g i j v u front rest kept

      first : (n : Member) → In n ms → WayOn g server n s v
      first n there = chain_on g ls server jobs ms i s v front here kept_v n there

      second : (n : Member) → In n ms → WayOn g server n v u
      second n there =
          chain_on g ls server jobs ms j v u rest (all_here_on g ls server ms i s v front here kept_v)
          (kept_nodes s v u (chain_nodes g i s v front) kept) n there

  -- at each stage of a round behind which a member stands
  pub record RoundStands (m : Member) (s t : Stage) (r : RoundMade g s t) : Type 0 where
    pub polled : WayStands g server m s r.polled.stage
    pub delivered : WayStands g server m s r.delivered
    pub served : WayStands g server m s r.served
    pub called : WayStands g server m s r.called
    pub over : WayStands g server m s t

  pub round_stands : (s t : Stage) → AllHere g ls server ms s → (r : RoundMade g s t) → IsKept s.nodes t
      → (m : Member) → In m ms → member_way g server s m ≡ member_way g server t m → RoundStands m s t r
  round_stands s t here r kept m inside same =
      (let polled = on.polled in
      let delivered = on_both g server m s r.polled.stage r.delivered polled on.delivered in
      let served = on_both g server m s r.delivered r.served delivered on.served in
      let called = on_both g server m s r.served r.called served on.called in
      let from_served = on_both g server m r.served r.called t on.called on.over in
      let from_delivered = on_both g server m r.delivered r.served t on.served from_served in
      let from_polled = on_both g server m r.polled.stage r.delivered t on.delivered from_delivered in
      let a = stands_by g server m s r.polled.stage t polled from_polled same in
      let b = stands_by g server m s r.delivered t delivered from_delivered same in
      let c = stands_by g server m s r.served t served from_served same in
      let d = stands_by g server m s r.called t called on.over same in
      record {
        polled = a.0;
        delivered = b.0;
        served = c.0;
        called = d.0;
        over = stands_both g server m s r.called t d.0 d.1;
      })
    where
      on : RoundOn g ls server jobs m s t r
      on = round_on g ls server jobs ms s t here r kept m inside
