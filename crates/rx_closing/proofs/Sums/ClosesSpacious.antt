-- Where no stretch of 200 rounds for each call and one more is without a step, so many of them as all calls have work
-- close each call that lives as they begin.
use Rattle.std.proofs.Common.{◌≡◌, ◌⊎◌, ◌+◌, ◌-◌, ◌*◌, ◌^◌, ◌<◌, ◌≤◌, ℕ, suc, true, false, Bool, List, Some, None}
use Rattle.std.proofs.Common.{Option, inr, refl, ap, sym, subst, ◌∙◌, length, arith, ⊎_elim, slice_get, IfSome}
use Rattle.std.proofs.lemmas.Bool.{cases_lt}
use Rattle.rx_model.specs.declared.names.CallName.{CallName}
use Rattle.rx_rules.specs.Rules.{Legal}
use Rattle.rx_rules.specs.Setup.{FitsSetup}
use Rattle.rx_history.specs.Sides.{Node, moment, side}
use Rattle.rx_law.proofs.World.{if-some}
use Rattle.rx_script.specs.declared.plan.Numbered.{Numbered}
use Rattle.rx_jobs.specs.Handlers.{Handlers}
use Rattle.rx_plan.specs.Answering.{AreServable}
use Rattle.rx_plan.specs.Stages.{Stage}
use Rattle.rx_between.proofs.Each.EachItem.{In}
use Rattle.rx_closing.specs.Living.{all_live, call_lives_at}
use Rattle.rx_closing.specs.Closing.{HasClosed, RoundsBehind}
use Rattle.rx_closing.specs.Several.{enough_for, work_of_all}
use Rattle.rx_closing.proofs.Frame.{IsKept, OneOf}
use Rattle.rx_closing.proofs.Living.ClientOf.{has_server}
use Rattle.rx_closing.proofs.Rounds.Begins.{behind_kept, behind_nodes}
use Rattle.rx_closing.proofs.Rounds.Chains.{Adds, Chain, ChainSplit, chain_adds, chain_nodes, chain_of, chain_split}
use Rattle.rx_closing.proofs.Rounds.Chains.{lives_between}
use Rattle.rx_closing.proofs.Sums.Enough.{enough}
use Rattle.rx_closing.proofs.Sums.WorkSmall.{early_all, names_length}
use Rattle.rx_closing.proofs.Together.AllGrows.{chain_grows}
use Rattle.rx_closing.proofs.Together.AllRounds.{all_here_on, kept_front, kept_nodes}
use Rattle.rx_closing.proofs.Together.JobsGo.{JobsGo}
use Rattle.rx_closing.proofs.Together.Members.{AllHere, IsAsking, Member, Stretch, all_way, names_of}
use Rattle.rx_closing.proofs.Together.MembersHere.{AllMembers, AreSpacious, MemberHere, all_work, behind_crowd}
use Rattle.rx_closing.proofs.Together.MembersHere.{is_member, member_here, members, request_work, way_some}

-- ---- premises

-- no stretch is so long
abbrev pub NeverLong : Handlers → List Numbered → Node → Type 0
NeverLong g ls server =
    (ms : List Member) (s u : Stage) → Stretch g ls server ms (200 * (length ms + 1)) s u → ⊥

-- where there is time for rounds while a call lives, there is time for the rest behind the first of them
abbrev pub EarlyOn : Type 0
EarlyOn =
    (c : CallName) (k : ℕ) (client server : Node) (g : Handlers) (m n : ℕ) (s u t : Stage) → Chain g m s u
    → Chain g n u t → OneOf c k client server t → call_lives_at s c (suc k) client ≡ true
    → call_lives_at t c (suc k) client ≡ true → ((j : ℕ) → moment j s.history + 2000 * (m + n) < 2 ^ 62) → (j : ℕ)
    → moment j u.history + 2000 * n < 2 ^ 62

-- ---- rounds to one stage

-- a member that lives at its client at two stages does at each between
pub asking_between : (m : Member) (server : Node) (s u t : Stage) → OneOf m.call m.index m.client server t
    → Adds s.history u.history → Adds u.history t.history → IsAsking s m → IsAsking t m → IsAsking u m
asking_between m server s u t one first second now_ then_ =
    lives_between m.call (suc m.index) m.client m.call.host m.call.epoch s u t one.client_is
    (if-some (slice_get t.nodes (suc m.index)) m.client (λ n. FitsSetup n.setup) one.client_there
    (one.world.sides.nodes_are.fits (suc m.index)))
    (if-some (slice_get t.nodes (suc m.index)) m.client (λ n. Legal n.setup (side (suc m.index) t.history))
    one.client_there (one.world.sides.legal (suc m.index)))
    first second now_ then_

-- a stage, with so many rounds to be made
record Point : Type 0 where
  stage : Stage
  left : ℕ

module _ (early_on : EarlyOn) (g : Handlers) (ls : List Numbered) (server : Node) (jobs : JobsGo g ls server)
    (never : NeverLong g ls server) (ms : List Member) (t : Stage) (asker : Member) (inside : In asker ms)
    (asking : IsAsking t asker) where
  -- the rounds of a stretch
  abbrev span : ℕ
  span = 200 * (length ms + 1)

  -- so many rounds between two of them
  abbrev Between : ℕ → Point → Point → Type 0
  Between n p q = Chain g n p.stage q.stage × (p.left ≡ n + q.left)

  -- a stage from which the call lives on
  record IsGood (p : Point) : Type 0 where
    here : AllHere g ls server ms p.stage
    kept : IsKept p.stage.nodes t
    living : IsAsking p.stage asker
    early : (j : ℕ) → moment j p.stage.history + 2000 * p.left < 2 ^ 62

  abbrev end : Point
  end = record { stage = t; left = 0 }

  -- how far all are is bounded by their work
  way_bound : (p : Point) → IsGood p → all_way g server ms p.stage ≤ 5 * request_work g ms - 1
  way_bound p good =
      (let low = way_some g ls server p.stage jobs good.here.held ms good.here.members asker inside in
      by (all_way g server ms p.stage) (request_work g ms) low)
    where
      by : (a w : ℕ) → a + 18 ≤ 5 * w → a ≤ 5 * w - 1
      by a w low = omega (arith, low)

  cut : (n : ℕ) (p : Point) → Between (span + n) p end → (q : Point) × Between span p q × Between n q end
  cut n p between =
      (let b = chain_split g span n (span + n) p.stage t refl between.0 in
      let first : p.left ≡ span + n = whole (span + n) p.left between.1 in (
        record { stage = b.middle; left = n },
        (b.front, first),
        (b.rest, none n),
      ))
    where
      whole : (a x : ℕ) → x ≡ a + 0 → x ≡ a
      whole a x is = omega (arith, is)

      none : (a : ℕ) → a ≡ a + 0
      none a = omega arith

  -- a stretch on
  moves : (n : ℕ) (p q : Point) → IsGood p → Between span p q → Between n q end
      → ⊥ ⊎ (IsGood q × (all_way g server ms p.stage < all_way g server ms q.stage))
  moves n p q good first rest = inr (next, further)
    where
      left_is : q.left ≡ n
      left_is = (let is = rest.1 in over q.left n is)
        where
          over : (x a : ℕ) → x ≡ a + 0 → x ≡ a
          over x a is = omega (arith, is)

      all_is : p.left ≡ span + n
      all_is = first.1 ∙ ap (λ (m : ℕ). span + m) left_is

      kept_u : IsKept p.stage.nodes q.stage
      kept_u =
          kept_front (names_of ms) p.stage good.here.crowd g span n q.stage t first.0 rest.0 good.kept

      here_u : AllHere g ls server ms q.stage
      here_u = all_here_on g ls server ms span p.stage q.stage first.0 good.here kept_u

      kept_on : IsKept q.stage.nodes t
      kept_on = kept_nodes p.stage q.stage t (chain_nodes g span p.stage q.stage first.0) good.kept

      one_t : OneOf asker.call asker.index asker.client server t
      one_t =
          (is_member g ls server ms t (all_here_on g ls server ms n q.stage t rest.0 here_u kept_on) asker inside).one

      living : IsAsking q.stage asker
      living =
          asking_between asker server p.stage q.stage t one_t (chain_adds g span p.stage q.stage first.0)
          (chain_adds g n q.stage t rest.0) good.living asking

      early_both : (j : ℕ) → moment j p.stage.history + 2000 * (span + n) < 2 ^ 62
      early_both j =
          subst (λ (m : ℕ). moment j p.stage.history + 2000 * m < 2 ^ 62) all_is (good.early j)

      next : IsGood q
      next =
          record {
            here = here_u;
            kept = kept_on;
            living = living;
            early = λ j.
                subst (λ (m : ℕ). moment j q.stage.history + 2000 * m < 2 ^ 62) (sym left_is)
                (early_on asker.call asker.index asker.client server g span n p.stage q.stage t first.0 rest.0 one_t
                good.living asking early_both j);
          }

      early_few : (j : ℕ) → moment j p.stage.history + 2000 * span < 2 ^ 62
      early_few j = less (moment j p.stage.history) span n (early_both j)
        where
          less : (x a b : ℕ) → x + 2000 * (a + b) < 2 ^ 62 → x + 2000 * a < 2 ^ 62
          less x a b all = (let size : 2 ^ 62 ≡ 4611686018427387904 = refl in omega (arith, all, size))

      stood : all_way g server ms p.stage ≡ all_way g server ms q.stage → ⊥
      stood same =
          never ms p.stage q.stage
          (record {
            here = good.here;
            rounds = first.0;
            kept = kept_u;
            same = same;
            early = early_few;
            asker = asker;
            inside = inside;
            asking = living;
          })

      grows : all_way g server ms p.stage ≤ all_way g server ms q.stage
      grows = chain_grows g ls server jobs ms span p.stage q.stage first.0 good.here kept_u

      further : all_way g server ms p.stage < all_way g server ms q.stage
      further =
          ⊎_elim (λ (less : all_way g server ms p.stage < all_way g server ms q.stage). less)
          (λ (most : all_way g server ms q.stage ≤ all_way g server ms p.stage).
          absurd (stood (even (all_way g server ms p.stage) (all_way g server ms q.stage) grows most)))
          (cases_lt (all_way g server ms p.stage) (all_way g server ms q.stage))
        where
          even : (a b : ℕ) → a ≤ b → b ≤ a → a ≡ b
          even a b low high = omega (arith, low, high)

  -- all rounds that their work needs can't have been made
  never_asks : (n : ℕ) (s : Stage) → Chain g n s t → AllHere g ls server ms s → IsKept s.nodes t → IsAsking s asker
      → ((j : ℕ) → moment j s.history + 2000 * n < 2 ^ 62)
      → 1000 * (length ms + 1) * request_work g ms ≡ n → ⊥
  never_asks n s chain here kept living early is =
      enough Between IsGood ⊥ (λ (p : Point). all_way g server ms p.stage) (5 * request_work g ms - 1) span end
      way_bound cut moves (5 * request_work g ms) n (record { stage = s; left = n })
      (record { here = here; kept = kept; living = living; early = early }) (chain, zero_more n)
      (past (all_way g server ms s) (request_work g ms)
      (way_some g ls server s jobs here.held ms here.members asker inside))
      (times (length ms + 1) (request_work g ms) n is)
    where
      zero_more : (a : ℕ) → a ≡ a + 0
      zero_more a = omega arith

      past : (x w : ℕ) → x + 18 ≤ 5 * w → 5 * w - 1 < x + 5 * w
      past x w some = omega (arith, some)

      times : (x w m : ℕ) → 1000 * x * w ≡ m → 200 * x * (5 * w) ≤ m
      times x w m is = omega (arith, is)

-- ---- behind the lines of a plan

-- each call that lives as rounds begin is closed, where there is room and there are enough
abbrev pub ClosesSpacious : Type 0
ClosesSpacious =
    (g : Handlers) (ls : List Numbered) (n : ℕ) (s t : Stage) → RoundsBehind g ls n s t → AreSpacious s
    → enough_for g ls s ≤ n → (c : CallName) → HasClosed s t c

module _ (early_on : EarlyOn)
    (go : (g : Handlers) (ls : List Numbered) (server : Node) → AreServable g → JobsGo g ls server)
    (never : (g : Handlers) (ls : List Numbered) (server : Node) → AreServable g → NeverLong g ls server) (g : Handlers)
    (ls : List Numbered) (n : ℕ) (s t : Stage) (b : RoundsBehind g ls n s t) (spacious : AreSpacious s)
    (few : enough_for g ls s ≤ n) (c : CallName) (k : ℕ) (client : Node)
    (there : slice_get s.nodes (suc k) ≡ Some client) (living : call_lives_at s c (suc k) client ≡ true)
    (later : call_lives_at t c (suc k) client ≡ true) where
  abbrev server : Node
  server = (has_server (all_live s) s (behind_crowd g ls n s t b spacious)).0

  all : AllMembers g ls server s
  all =
      members g ls n s t b spacious server (has_server (all_live s) s (behind_crowd g ls n s t b spacious)).1

  one : MemberHere all.those c k client
  one = member_here g ls server all.those s all.here k client c there living

  chain : Chain g n s t
  chain =
      chain_of g n s t b.fs b.rounds_are c (suc k) client
      (ap (λ (ns : List Node). slice_get ns (suc k)) (behind_nodes g ls n s t b) ∙ there) later

  asks : (u : Stage) → call_lives_at u c (suc k) client ≡ true → IsAsking u one.member
  asks u lives = (λ i. call_lives_at u (one.call i) (suc (one.index_is i)) (one.client_is i)) ∙ lives

  -- so many rounds are enough
  enough_is : 1000 * (length all.those + 1) * request_work g all.those ≡ enough_for g ls s
  enough_is =
      (let many : length all.those ≡ length (all_live s) =
      sym (names_length all.those) ∙ ap (λ (cs : List CallName). length cs) all.names in
      let work_is : request_work g all.those ≡ work_of_all g ls s (all_live s) =
      sym (all_work g ls server s all.those all.here.members) ∙ ap (work_of_all g ls s) all.names in
      λ i. 1000 * (many i + 1) * work_is i)

  pub never_open : ⊥
  never_open = by (chain_split g m (n - m) n s t (parts m n few) chain)
    where
      m : ℕ
      m = enough_for g ls s

      parts : (a x : ℕ) → a ≤ x → x ≡ a + (x - a)
      parts a x low = omega (arith, low)

      by : ChainSplit g m (n - m) s t → ⊥
      by q =
          (let kept_u = kept_front (names_of all.those) s all.here.crowd g m (n - m) q.middle t q.front q.rest
          (behind_kept g ls n s t b) in
          let here_u = all_here_on g ls server all.those m s q.middle q.front all.here kept_u in
          let here_t = all_here_on g ls server all.those n s t chain all.here (behind_kept g ls n s t b) in
          let one_t : OneOf one.member.call one.member.index one.member.client server t =
          (is_member g ls server all.those t here_t one.member one.inside).one in
          let living_u : IsAsking q.middle one.member =
          asking_between one.member server s q.middle t one_t (chain_adds g m s q.middle q.front)
          (chain_adds g (n - m) q.middle t q.rest) (asks s living) (asks t later) in
          never_asks early_on g ls server (go g ls server b.servable) (never g ls server b.servable) all.those
          q.middle one.member one.inside living_u m s q.front all.here kept_u (asks s living)
          (early_all g ls n s t b spacious) enough_is)

pub closes_spacious : EarlyOn
    → ((g : Handlers) (ls : List Numbered) (server : Node) → AreServable g → JobsGo g ls server)
    → ((g : Handlers) (ls : List Numbered) (server : Node) → AreServable g → NeverLong g ls server) → ClosesSpacious
closes_spacious early_on go never g ls n s t b spacious few c k = of (slice_get s.nodes (suc k)) refl
  where
    of : (o : Option Node) → slice_get s.nodes (suc k) ≡ o
        → IfSome o (λ m. call_lives_at s c (suc k) m ≡ true → call_lives_at t c (suc k) m ≡ false)
    of None there = tt
    of (Some client) there = λ living. by living (call_lives_at t c (suc k) client) refl
      where
        by : call_lives_at s c (suc k) client ≡ true → (x : Bool) → call_lives_at t c (suc k) client ≡ x → x ≡ false
        by living false is = refl
        by living true is =
            absurd (never_open early_on go never g ls n s t b spacious few c k client there living is)
