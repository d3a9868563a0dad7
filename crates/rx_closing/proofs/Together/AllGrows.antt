-- How far each member is, with the steps that its job waited, only grows through rounds; and so does how far all are.
use Rattle.std.proofs.Common.{◌≡◌, ◌≤◌, ◌+◌, ◌==◌, ℕ, List, [], ◌∷◌, length, inl, inr, refl, sym, subst, arith}
use Rattle.rx_history.specs.Sides.{Node}
use Rattle.rx_script.specs.declared.plan.Numbered.{Numbered}
use Rattle.rx_jobs.specs.Handlers.{Handlers, wait_of}
use Rattle.rx_jobs.specs.Jobs.{JobState}
use Rattle.rx_plan.specs.Stages.{Stage}
use Rattle.rx_plan.proofs.Driven.{seen}
use Rattle.rx_plan.proofs.Followed.{IsFollowed}
use Rattle.rx_between.proofs.Each.EachItem.{In}
use Rattle.rx_rounds.proofs.Keeping.{kept_delivers, kept_polls, kept_settles}
use Rattle.rx_rounds.proofs.Rounded.{RoundMade}
use Rattle.rx_closing.proofs.Callers.CallersLeave.{callers_leave}
use Rattle.rx_closing.proofs.Far.FarStands.{both_far, both_low, served_further}
use Rattle.rx_closing.proofs.Far.Waited.{IsJobLow, job_of, waited, waited_grows}
use Rattle.rx_closing.proofs.Frame.{IsKept, served_in}
use Rattle.rx_closing.proofs.Rounds.Chains.{Adds, Chain, RoundAdds, chain_more, chain_none, round_adds}
use Rattle.rx_closing.proofs.Together.AllRounds.{RoundAll, RoundIs, kept_front, kept_nodes, round_all}
use Rattle.rx_closing.proofs.Together.JobsGo.{JobsGo}
use Rattle.rx_closing.proofs.Together.Members.{AllHere, IsMember, Member, all_way, member_way, names_of}
use Rattle.rx_closing.proofs.Together.MembersHere.{is_member}

-- ---- numbers alone

-- the ways of all are no less where that of each is
pub ways_low : (g : Handlers) (server : Node) (ms : List Member) (s t : Stage)
    → ((m : Member) → In m ms → member_way g server s m ≤ member_way g server t m)
    → all_way g server ms s ≤ all_way g server ms t
ways_low g server [] s t each = omega arith
ways_low g server (m ∷ ms) s t each =
    by (member_way g server s m) (member_way g server t m) (all_way g server ms s) (all_way g server ms t)
    (each m (inl refl)) (ways_low g server ms s t (λ n inside. each n (inr inside)))
  where
    by : (a b x y : ℕ) → a ≤ b → x ≤ y → a + x ≤ b + y
    by a b x y one rest = omega (arith, one, rest)

-- where they come to the same, each does
pub ways_same : (g : Handlers) (server : Node) (ms : List Member) (s t : Stage)
    → ((m : Member) → In m ms → member_way g server s m ≤ member_way g server t m)
    → all_way g server ms s ≡ all_way g server ms t → (m : Member) → In m ms
    → member_way g server s m ≡ member_way g server t m
ways_same g server [] s t each same m there = absurd there
ways_same g server (n ∷ ms) s t each same m there =
    (let both =
    by (member_way g server s n) (member_way g server t n) (all_way g server ms s) (all_way g server ms t)
    (each n (inl refl)) (ways_low g server ms s t (λ o inside. each o (inr inside))) same in
    of both.0 (λ inside. ways_same g server ms s t (λ o rest. each o (inr rest)) both.1 m inside) there)
  where
    by : (a b x y : ℕ) → a ≤ b → x ≤ y → a + x ≡ b + y → (a ≡ b) × (x ≡ y)
    by a b x y one rest is = (omega (arith, one, rest, is), omega (arith, one, rest, is))

    of : member_way g server s n ≡ member_way g server t n
        → (In m ms → member_way g server s m ≡ member_way g server t m) → In m (n ∷ ms)
        → member_way g server s m ≡ member_way g server t m
    of own rest (inl equal) =
        subst (λ (o : Member). member_way g server s o ≡ member_way g server t o) (sym equal) own
    of own rest (inr inside) = rest inside

-- ---- one of them

-- the steps that its job waited
abbrev pub steps_of : Handlers → Node → Member → Stage → ℕ
steps_of g server m s = waited (wait_of g m.request) m.call (served_in m.call server s) s.jobs

-- at both ends together
abbrev pub far_at : Node → Member → Stage → ℕ
far_at server m s = both_far m.call m.index m.client server s

-- it is no less far by both numbers
pub record WayOn (g : Handlers) (server : Node) (m : Member) (s t : Stage) : Type 0 where
  pub far : far_at server m s ≤ far_at server m t
  pub steps : steps_of g server m s ≤ steps_of g server m t

pub on_none : (g : Handlers) (server : Node) (m : Member) (s : Stage) → WayOn g server m s s
on_none g server m s = record { far = omega arith; steps = omega arith }

pub on_both : (g : Handlers) (server : Node) (m : Member) (s t u : Stage) → WayOn g server m s t
    → WayOn g server m t u → WayOn g server m s u
on_both g server m s t u a b =
    (let far = a.far in
    let more_far = b.far in
    let steps = a.steps in
    let more_steps = b.steps in
    record { far = omega (arith, far, more_far); steps = omega (arith, steps, more_steps) })

pub on_way : (g : Handlers) (server : Node) (m : Member) (s t : Stage) → WayOn g server m s t
    → member_way g server s m ≤ member_way g server t m
on_way g server m s t a =
    by (far_at server m s) (far_at server m t) (steps_of g server m s) (steps_of g server m t) a.far a.steps
  where
    by : (a b x y : ℕ) → a ≤ b → x ≤ y → a + x ≤ b + y
    by a b x y one rest = omega (arith, one, rest)

module _ (g : Handlers) (ls : List Numbered) (server : Node) (jobs : JobsGo g ls server) where
  -- its job waited few steps
  low : (m : Member) (s : Stage) → IsMember g ls server s m → IsFollowed g ls (seen s)
      → IsJobLow (wait_of g m.request) (job_of m.call s.jobs)
  low m s is held =
      subst (λ (bs : List ℕ). IsJobLow (wait_of g bs) (job_of m.call s.jobs)) is.caused.asks
      (jobs.low m.call m.index m.client s is.one held is.caused.cause)

  -- between two stages with the same jobs
  same_jobs : (m : Member) (u v : Stage) → IsMember g ls server u m → IsFollowed g ls (seen u)
      → IsMember g ls server v m → Adds u.history v.history → v.jobs ≡ u.jobs → WayOn g server m u v
  same_jobs m u v first held next a same =
      record {
        far = both_low m.call m.index m.client server v next.one u a.more a.is;
        steps =
            subst (λ (js : List JobState). steps_of g server m u
            ≤ waited (wait_of g m.request) m.call (served_in m.call server v) js) (sym same)
            (waited_grows (wait_of g m.request) m.call (served_in m.call server u) (served_in m.call server v) u.jobs
            u.jobs (served_further m.call m.index m.client server v next.one u a.more a.is) (low m u first held)
            (omega arith));
      }

  -- through the parts of a round
  pub record RoundOn (m : Member) (s t : Stage) (r : RoundMade g s t) : Type 0 where
    pub polled : WayOn g server m s r.polled.stage
    pub delivered : WayOn g server m r.polled.stage r.delivered
    pub served : WayOn g server m r.delivered r.served
    pub called : WayOn g server m r.served r.called
    pub over : WayOn g server m r.called t

  pub round_on : (ms : List Member) (s t : Stage) → AllHere g ls server ms s → (r : RoundMade g s t)
      → IsKept s.nodes t → (m : Member) → In m ms → RoundOn m s t r
  round_on ms s t here r kept m inside =
      record {
        polled =
            same_jobs m s r.polled.stage is here.held each.polled adds.polled
            (kept_polls (λ (u : Stage). u.jobs) (λ n e u. refl) s r.polled r.polls_are);
        delivered =
            same_jobs m r.polled.stage r.delivered each.polled all.polled.held each.delivered adds.delivered
            (kept_delivers (λ (u : Stage). u.jobs) (λ n e u. refl) r.polled.given r.polled.stage r.delivered
            r.delivers_are);
        served = turn;
        called =
            same_jobs m r.served r.called each.served all.served.held each.called adds.called
            (callers_leave r.served r.called r.calls_are).jobs;
        over =
            same_jobs m r.called t each.called all.called.held each.over adds.over
            (kept_settles (λ (u : Stage). u.jobs) (λ n e u. refl) (length r.polled.given == 0) r.called t
            r.settles_are);
      }
    where
      adds : RoundAdds g s t r
      adds = round_adds g s t r

      is : IsMember g ls server s m
      is = is_member g ls server ms s here m inside

      all : RoundAll g ls server ms s t r
      all = round_all g ls server ms s t here r kept

      each : RoundIs g ls server m s t r
      each = all.each m inside is

      turn : WayOn g server m r.delivered r.served
      turn =
          (let i = each.delivered.caused.cause in
          let grows =
          jobs.grows m.call m.index m.client r.delivered r.served each.delivered.one all.delivered.held i
          r.serves_are in
          let a = adds.served in
          record {
            far = both_low m.call m.index m.client server r.served each.served.one r.delivered a.more a.is;
            steps =
                subst (λ (bs : List ℕ).
                waited (wait_of g bs) m.call (served_in m.call server r.delivered) r.delivered.jobs
                ≤ waited (wait_of g bs) m.call (served_in m.call server r.served) r.served.jobs)
                each.delivered.caused.asks grows;
          })

  -- through the whole round
  pub round_way : (m : Member) (s t : Stage) (r : RoundMade g s t) → RoundOn m s t r → WayOn g server m s t
  round_way m s t r on =
      on_both g server m s r.called t
      (on_both g server m s r.served r.called
      (on_both g server m s r.delivered r.served
      (on_both g server m s r.polled.stage r.delivered on.polled on.delivered) on.served) on.called) on.over

  -- through rounds one after another
  pub chain_on : (ms : List Member) (n : ℕ) (s t : Stage) → Chain g n s t → AllHere g ls server ms s
      → IsKept s.nodes t → (m : Member) → In m ms → WayOn g server m s t
  chain_on ms n s t (chain_none z) here kept m inside = on_none g server m z
  chain_on ms n s t (chain_more i z u y first others) here kept m inside =
      (let front = chain_more 0 z u u first (chain_none u) in
      let kept_u = kept_front (names_of ms) z here.crowd g 1 i u y front others kept in
      let all = round_all g ls server ms z u here first kept_u in
      on_both g server m z u y (round_way m z u first (round_on ms z u here first kept_u m inside))
      (chain_on ms i u y others all.over (kept_nodes z u y (round_adds g z u first).nodes kept) m inside))

  -- ---- all of them

  pub chain_grows : (ms : List Member) (n : ℕ) (s t : Stage) → Chain g n s t → AllHere g ls server ms s
      → IsKept s.nodes t → all_way g server ms s ≤ all_way g server ms t
  chain_grows ms n s t chain here kept =
      ways_low g server ms s t (λ m inside. on_way g server m s t (chain_on ms n s t chain here kept m inside))
