-- What a call may yet give from a stage on: a number for each stage, which falls by 2,000 in each round in which it
-- gives something, while twelve seconds haven't passed.
use Rattle.std.proofs.Common.{◌≡◌, ◌<◌, ◌≤◌, ◌+◌, ℕ, suc, true, false, [], Option, Some, None, arith}
use Rattle.rx_model.specs.declared.names.CallName.{CallName}
use Rattle.rx_rules.specs.CallLooks.{CallLooks, fresh_call}
use Rattle.rx_rules.specs.Looks.{CallRecord, call_at}
use Rattle.rx_rules.specs.Setup.{is_client}
use Rattle.rx_history.specs.Sides.{Node, moment}
use Rattle.rx_jobs.specs.Handlers.{Handlers}
use Rattle.rx_plan.specs.Stages.{Stage}
use Rattle.rx_rounds.proofs.Rounded.{RoundMade}
use Rattle.rx_closing.specs.Living.{looks_of}
use Rattle.rx_closing.proofs.Ends.BothEnds.{Ends, Round}
use Rattle.rx_closing.proofs.Ends.LoneEnd.{Lone, LoneRound}
use Rattle.rx_closing.proofs.Frame.{asked_in, served_in}
use Rattle.rx_closing.proofs.Late.RestLate.{work_load, work_most, work_pays}
use Rattle.rx_closing.proofs.Rounds.Chains.{Chain, chain_both, chain_more, chain_none}
use Rattle.rx_closing.proofs.Sums.LonePays.{Fallen, lone_pays, wait_left, wait_most}

-- ---- ends at a stage

-- what an end has of a call, where it is there
abbrev pub looks_or : Option CallRecord → CallLooks
looks_or None = fresh_call (record { window = 0; prompt = false }) 0
looks_or (Some r) = r.looks

-- the end of a call at one node
abbrev pub lone_end : CallName → ℕ → Node → Stage → Lone
lone_end c j n s = record { end = looks_or (call_at (looks_of s j n) c); now = moment j s.history }

-- both ends of a call
abbrev pub both_ends : CallName → ℕ → Node → Node → Stage → Ends
both_ends c k client server s =
    record {
      client = looks_or (asked_in c k client s);
      server = looks_or (served_in c server s);
      client_now = moment (suc k) s.history;
      server_now = moment 0 s.history;
    }

module _ (g : Handlers) (z u : Stage) where
  -- ---- rounds

  -- what is so of each round from one stage on, behind which so many more are made at least
  abbrev pub EachRound : ℕ → ((v w : Stage) → RoundMade g v w → Type 0) → Type 0
  EachRound least P =
      (i n : ℕ) (v w : Stage) → Chain g i z v → (r : RoundMade g v w) → Chain g n w u → least ≤ n → P v w r

  -- and of each stage
  abbrev pub EachStage : ℕ → (Stage → Type 0) → Type 0
  EachStage least P = (i n : ℕ) (v : Stage) → Chain g i z v → Chain g n v u → least ≤ n → P v

  -- the clocks of the server and of this node are later by one time
  pub record Together (j : ℕ) (v : Stage) : Type 0 where
    pub time : ℕ
    pub first : moment 0 v.history ≡ moment 0 z.history + time
    pub own : moment j v.history ≡ moment j z.history + time

  -- ---- loads

  pub record PaysIn (Gave : (v w : Stage) → RoundMade g v w → Type 0) : Type 0 where
    pub load : Stage → ℕ
    pub most : load z ≤ 90100
    pub falls :
        EachRound 3 (λ v w r. moment 0 v.history < moment 0 z.history + 12000
        → (load w ≤ load v) × (Gave v w r → load w + 2000 ≤ load v))

  module _ (Gave : (v w : Stage) → RoundMade g v w → Type 0) where
    -- of a call that gives nothing
    pub none_load : EachRound 2 (λ v w r. Gave v w r → ⊥) → PaysIn Gave
    none_load none =
        record {
          load = λ v. 0;
          most = omega arith;
          falls = λ i n v w front r rest many soon.
              (omega arith, λ gave. absurd (none i n v w front r rest (omega (arith, many)) gave));
        }

    -- of a call of which one end hears nothing, and the other gives nothing
    pub lone_load : (c : CallName) (j : ℕ) (node : Node) → EachStage 3 (Together j)
        → EachRound 2 (λ v w r. (q : LoneRound node.setup true (lone_end c j node v) (lone_end c j node w))
        × (Gave v w r → q.out ≡ [] → ⊥)) → PaysIn Gave
    lone_load c j node together rounds =
        record {
          load = λ v. wait_left (lone_end c j node z) (lone_end c j node v);
          most = wait_most (lone_end c j node z);
          falls = λ i n v w front r rest many soon. by i n v w front r rest many soon;
        }
      where
        by : (i n : ℕ) (v w : Stage) → Chain g i z v → (r : RoundMade g v w) → Chain g n w u → 3 ≤ n
            → moment 0 v.history < moment 0 z.history + 12000
            → (wait_left (lone_end c j node z) (lone_end c j node w)
            ≤ wait_left (lone_end c j node z) (lone_end c j node v))
            × (Gave v w r → wait_left (lone_end c j node z) (lone_end c j node w) + 2000
            ≤ wait_left (lone_end c j node z) (lone_end c j node v))
        by i n v w front r rest many soon =
            (let q = rounds i n v w front r rest (omega (arith, many)) in
            let at = together i (suc n) v front (chain_more n v w u r rest) (omega (arith, many)) in
            let first = at.first in
            let own = at.own in
            let f : Fallen (lone_end c j node z) (lone_end c j node v) (lone_end c j node w) (q.0.out ≡ [] → ⊥) =
            lone_pays node.setup true (lone_end c j node z) (lone_end c j node v) (lone_end c j node w) q.0
            (omega (arith, own)) (omega (arith, own, first, soon)) in
            (f.low, λ gave. f.less (q.1 gave)))

    -- of a call that is at work at both ends
    pub both_load : (c : CallName) (k : ℕ) (client server : Node) → is_client client.setup.kind ≡ true
        → is_client server.setup.kind ≡ false → EachStage 3 (Together (suc k))
        → EachRound 2 (λ v w r. (q : Round client.setup server.setup (both_ends c k client server v)
        (both_ends c k client server w)) × (Gave v w r → q.passes.out_c ≡ [] → q.passes.out_s ≡ [] → ⊥)) → PaysIn Gave
    both_load c k client server is_c is_s together rounds =
        record {
          load = λ v. work_load (both_ends c k client server z) (both_ends c k client server v);
          most = (let low = work_most (both_ends c k client server z) in omega (arith, low));
          falls = λ i n v w front r rest many soon. by i n v w front r rest many soon;
        }
      where
        at : Stage → Ends
        at v = both_ends c k client server v

        by : (i n : ℕ) (v w : Stage) → Chain g i z v → (r : RoundMade g v w) → Chain g n w u → 3 ≤ n
            → moment 0 v.history < moment 0 z.history + 12000
            → (work_load (at z) (at w) ≤ work_load (at z) (at v))
            × (Gave v w r → work_load (at z) (at w) + 2000 ≤ work_load (at z) (at v))
        by i n v w front r (chain_none x) many soon = absurd (omega (arith, many))
        by i n v w front r (chain_more m y x o next others) many soon =
            (let q = rounds i (suc m) v y front r (chain_more m y x o next others) (omega (arith, many)) in
            let first_two : Chain g (i + 1) z y = chain_both g i 1 z v y front (chain_more 0 v y y r (chain_none y)) in
            let p = rounds (i + 1) m y x first_two next others (omega (arith, many)) in
            let t = together i (suc (suc m)) v front (chain_more (suc m) v y o r (chain_more m y x o next others))
            (omega (arith, many)) in
            let first = t.first in
            let own = t.own in
            let f = work_pays client.setup server.setup is_c is_s (at z) (at v) (at y) (at x) q.0 p.0
            (omega (arith, own)) (omega (arith, own, first, soon)) in
            (f.low, λ gave. f.less (q.1 gave)))
