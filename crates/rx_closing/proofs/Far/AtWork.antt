-- A call that is at work at its client and at its server, among other calls, at a stage and at each stage of a round.
use Rattle.std.proofs.Common.{◌≡◌, ◌≤◌, ℕ, suc, Bool, true, false, Option, Some, None, refl, ap, sym, subst, ◌∙◌}
use Rattle.std.proofs.Common.{⊎_elim, arith}
use Rattle.rx_model.specs.declared.names.CallName.{CallName}
use Rattle.rx_rules.specs.Life.{Life, is_active}
use Rattle.rx_rules.specs.Life as lives
use Rattle.rx_rules.specs.Looks.{CallRecord}
use Rattle.rx_history.specs.Sides.{Node, moment}
use Rattle.rx_jobs.specs.Handlers.{Handlers}
use Rattle.rx_plan.specs.Stages.{Stage}
use Rattle.rx_rounds.proofs.Rounded.{RoundMade}
use Rattle.rx_closing.proofs.Ends.BothEnds.{Ends}
use Rattle.rx_closing.proofs.Far.FarGrows.{FurtherOf, GoesOn, IsLater}
use Rattle.rx_closing.proofs.Far.FarStands.{served_further}
use Rattle.rx_closing.proofs.Frame.{OneOf, asked_in, rank_of, served_in}
use Rattle.rx_closing.proofs.Living.Before.{one_before}
use Rattle.rx_closing.proofs.Living.LifeBetween.{asked_between}
use Rattle.rx_closing.proofs.Living.RoundOnes.{AddsOver, adds_over}
use Rattle.rx_closing.proofs.Rounds.Chains.{Adds, RoundAdds, adds_both, round_adds}
use Rattle.rx_closing.proofs.Unknown.UnservedMeet.{IsAsked}

-- ---- a call at work

-- at its server
pub record IsServing (c : CallName) (server : Node) (v : Stage) : Type 0 where
  pub call : CallRecord
  pub there : served_in c server v ≡ Some call
  pub works : is_active call.life ≡ true

-- at both ends of it, at a stage
pub record AtWork (c : CallName) (k : ℕ) (client server : Node) (v : Stage) : Type 0 where
  pub scene : OneOf c k client server v
  pub asked : CallRecord
  pub asked_is : asked_in c k client v ≡ Some asked
  pub calls : asked.life ≡ lives.Calling
  pub served : CallRecord
  pub served_is : served_in c server v ≡ Some served
  pub works : is_active served.life ≡ true

abbrev pub at_work_of : (c : CallName) (k : ℕ) (client server : Node) (v : Stage) → OneOf c k client server v
    → IsAsked c k client v → IsServing c server v → AtWork c k client server v
at_work_of c k client server v one a b =
    record {
      scene = one;
      asked = a.call;
      asked_is = a.there;
      calls = a.calling;
      served = b.call;
      served_is = b.there;
      works = b.works;
    }

abbrev pub asks_of : (c : CallName) (k : ℕ) (client server : Node) (v : Stage) → AtWork c k client server v
    → IsAsked c k client v
asks_of c k client server v w = record { call = w.asked; there = w.asked_is; calling = w.calls }

abbrev pub serves_of : (c : CallName) (k : ℕ) (client server : Node) (v : Stage) → AtWork c k client server v
    → IsServing c server v
serves_of c k client server v w = record { call = w.served; there = w.served_is; works = w.works }

-- the record that is there
pub one_record : (a b : CallRecord) (o : Option CallRecord) → o ≡ Some a → o ≡ Some b → a ≡ b
one_record a b o first second =
    (let both : ◌≡◌ {A = Option CallRecord} (Some a) (Some b) = sym first ∙ second in cc (both))

-- the two ends at a stage
abbrev pub ends_of : (c : CallName) (k : ℕ) (client server : Node) (v : Stage) → AtWork c k client server v → Ends
ends_of c k client server v w =
    record {
      client = w.asked.looks;
      server = w.served.looks;
      client_now = moment (suc k) v.history;
      server_now = moment 0 v.history;
    }

-- ---- lives

-- what works is of low rank, and what doesn't of high
active_low : (x : Life) → is_active x ≡ true → rank_of x ≤ 2
active_low (lives.Ended end) is = absurd cc
active_low (lives.Broken code) is = absurd cc
active_low (lives.Over code) is = absurd cc
active_low _ is = omega arith

idle_high : (x : Life) → is_active x ≡ false → 3 ≤ rank_of x
idle_high (lives.Ended end) is = omega arith
idle_high (lives.Broken code) is = omega arith
idle_high (lives.Over code) is = omega arith
idle_high _ is = absurd cc

-- a life that works worked before
pub worked_before : (x y : Life) → GoesOn x y → is_active y ≡ true → is_active x ≡ true
worked_before x y on works = of (is_active x) refl
  where
    of : (b : Bool) → is_active x ≡ b → is_active x ≡ true
    of true is = is
    of false idle =
        absurd (⊎_elim
        (λ (same : y ≡ x). (let no : ◌≡◌ {A = Bool} true false = sym works ∙ ap is_active same ∙ idle in cc (no)))
        (λ (later : IsLater x y). (
        let low = active_low y works in
        let high = idle_high x idle in
        let up = later.rank in
        omega (arith, low, high, up))) on)

-- a call that works at a moment worked at each earlier one at which it was known
pub worked_from : (y z : CallRecord) (o q : Option CallRecord) → o ≡ Some y → q ≡ Some z → FurtherOf o q
    → is_active z.life ≡ true → is_active y.life ≡ true
worked_from y z o q first last further works =
    worked_before y.life z.life
    (subst (λ (x : Option CallRecord). FurtherOf x (Some z)) first
    (subst (λ (x : Option CallRecord). FurtherOf o x) last further)).life works

-- ---- at a stage between two

module _ (c : CallName) (k : ℕ) (client server : Node) (t : Stage) (one : OneOf c k client server t) (s u : Stage)
    (front : Adds s.history u.history) (back : Adds u.history t.history) where
  -- its client has it there too
  pub asked_then : IsAsked c k client s → IsAsked c k client t → IsAsked c k client u
  asked_then a b =
      (let m = asked_between c k client server t one s u front back a.call b.call a.there b.there
      (b.calling ∙ sym a.calling) in
      record { call = m.0; there = m.1; calling = m.2 ∙ a.calling })

  -- and so has its server
  pub served_then : u.nodes ≡ t.nodes → IsServing c server s → IsServing c server t → IsServing c server u
  served_then nodes a b =
      of (served_in c server u) refl
      (subst (λ (o : Option CallRecord). FurtherOf o (served_in c server u)) a.there
      (served_further c k client server u (one_before c k client server t one u nodes back) s front.more front.is))
      (subst (λ (o : Option CallRecord). FurtherOf (served_in c server u) o) b.there
      (served_further c k client server t one u back.more back.is))
    where
      of : (o : Option CallRecord) → served_in c server u ≡ o → FurtherOf (Some a.call) o → FurtherOf o (Some b.call)
          → IsServing c server u
      of None is first second = absurd first
      of (Some f) is first second =
          record { call = f; there = is; works = worked_before f.life b.call.life second.life b.works }

-- ---- at each stage of a round

-- how the history grows to each stage of a round, and from it
pub record RoundFront (g : Handlers) (s t : Stage) (r : RoundMade g s t) : Type 0 where
  pub polled : Adds s.history r.polled.stage.history
  pub delivered : Adds s.history r.delivered.history
  pub served : Adds s.history r.served.history
  pub called : Adds s.history r.called.history

pub round_front : (g : Handlers) (s t : Stage) (r : RoundMade g s t) → RoundFront g s t r
round_front g s t r =
    (let a : RoundAdds g s t r = round_adds g s t r in
    let delivered : Adds s.history r.delivered.history =
    adds_both s.history r.polled.stage.history r.delivered.history a.polled a.delivered in
    let served : Adds s.history r.served.history =
    adds_both s.history r.delivered.history r.served.history delivered a.served in
    record {
      polled = a.polled;
      delivered = delivered;
      served = served;
      called = adds_both s.history r.served.history r.called.history served a.called;
    })

module _ (c : CallName) (k : ℕ) (client server : Node) (g : Handlers) (s t : Stage) (r : RoundMade g s t) where
  -- its client has it at each of them
  pub record RoundAsks : Type 0 where
    pub polled : IsAsked c k client r.polled.stage
    pub delivered : IsAsked c k client r.delivered
    pub served : IsAsked c k client r.served
    pub called : IsAsked c k client r.called

  pub round_asks : OneOf c k client server t → IsAsked c k client s → IsAsked c k client t → RoundAsks
  round_asks one a b =
      (let front : RoundFront g s t r = round_front g s t r in
      let back : AddsOver g s t r = adds_over g s t r in
      record {
        polled = asked_then c k client server t one s r.polled.stage front.polled back.polled a b;
        delivered = asked_then c k client server t one s r.delivered front.delivered back.delivered a b;
        served = asked_then c k client server t one s r.served front.served back.served a b;
        called = asked_then c k client server t one s r.called front.called back.called a b;
      })

  -- and its server
  pub record RoundServes : Type 0 where
    pub polled : IsServing c server r.polled.stage
    pub delivered : IsServing c server r.delivered
    pub served : IsServing c server r.served
    pub called : IsServing c server r.called

  pub round_serves : OneOf c k client server t → IsServing c server s → IsServing c server t → RoundServes
  round_serves one a b =
      (let front : RoundFront g s t r = round_front g s t r in
      let back : AddsOver g s t r = adds_over g s t r in
      let m : RoundAdds g s t r = round_adds g s t r in
      record {
        polled = served_then c k client server t one s r.polled.stage front.polled back.polled
            (m.polled_nodes ∙ sym m.nodes) a b;
        delivered = served_then c k client server t one s r.delivered front.delivered back.delivered
            (m.delivered_nodes ∙ sym m.nodes) a b;
        served = served_then c k client server t one s r.served front.served back.served
            (m.served_nodes ∙ sym m.nodes) a b;
        called = served_then c k client server t one s r.called front.called back.called
            (m.called_nodes ∙ sym m.nodes) a b;
      })
