-- The work of calls that live as fair rounds begin is small: so many rounds as it needs move no clock near its end.
use Rattle.std.proofs.Common.{◌≡◌, ◌+◌, ◌-◌, ◌*◌, ◌^◌, ◌<◌, ◌≤◌, max, ℕ, suc, List, [], ◌∷◌, Some, inl, inr, refl, ap}
use Rattle.std.proofs.Common.{sym, subst, ◌∙◌, length, arith, IfSome, slice_get}
use Rattle.std.proofs.lemmas.Nat.{mul-le}
use Rattle.rx_model.specs.declared.names.CallName.{CallName}
use Rattle.rx_rules.specs.Sent.{opened}
use Rattle.rx_rules.specs.Setup.{FitsSetup, Setup}
use Rattle.rx_rules.proofs.EveryLaws.{Every}
use Rattle.rx_history.specs.Sides.{Node, moment}
use Rattle.rx_law.proofs.World.{if-some}
use Rattle.rx_script.specs.Served.{Served, bytes, refusal}
use Rattle.rx_script.specs.declared.plan.Numbered.{Numbered}
use Rattle.rx_jobs.specs.Handlers.{Handlers, served_for, wait_of}
use Rattle.rx_plan.specs.Answering.{invoked_at, request_for}
use Rattle.rx_plan.specs.Stages.{InvokedState, Stage}
use Rattle.rx_rounds.specs.Bounds.{pieces, served_pieces}
use Rattle.rx_closing.specs.Work.{work}
use Rattle.rx_closing.specs.Living.{all_live}
use Rattle.rx_closing.specs.Closing.{FitsCaller, RoundsBehind}
use Rattle.rx_closing.specs.Several.{enough_for, work_of_all}
use Rattle.rx_closing.proofs.Callers.SceneTurn.{request_low}
use Rattle.rx_closing.proofs.Far.FarWork.{IsCaused}
use Rattle.rx_closing.proofs.Frame.{Crowd, IsSpacious}
use Rattle.rx_closing.proofs.Living.ClientOf.{has_server}
use Rattle.rx_closing.proofs.Together.Members.{IsMember, Member, names_of}
use Rattle.rx_closing.proofs.Together.MembersHere.{AllMembers, AreSpacious, all_work, behind_crowd, members}
use Rattle.rx_closing.proofs.Together.MembersHere.{request_work}

-- ---- of one call

-- so has what is served, where a caller keeps it
served_small : (v : Served) → FitsCaller v → served_pieces v ≤ 11930
served_small (refusal code) fits = omega arith
served_small (bytes reply) fits = few (length reply) fits
  where
    few : (n : ℕ) → n ≤ 16842756 → max 1 (opened n) ≤ 11930
    few n low = omega arith

module _ (g : Handlers) (ls : List Numbered) (n : ℕ) (s t : Stage) (b : RoundsBehind g ls n s t) (server : Node) where
  -- the work of each is small
  pub member_small : (m : Member) → IsMember g ls server s m → work g m.request ≤ 24868
  member_small m is = subst (λ (bs : List ℕ). work g bs ≤ 24868) is.caused.asks (by request first second third)
    where
      i : IsCaused g ls m.call m.index m.client s
      i = is.caused.cause

      request : List ℕ
      request = request_for g i.caller.origin.invoke

      first : pieces request ≤ 11930
      first =
          few (opened (length request))
          (request_low g.types i.caller.origin.invoke.proc i.caller.origin.invoke.args i.caller.origin.invoke.up
          i.caller.origin.can)
        where
          few : (m : ℕ) → m ≤ 11930 → max 1 m ≤ 11930
          few m low = omega arith

      second : served_pieces (served_for g request) ≤ 11930
      second =
          served_small (served_for g request)
          (if-some (invoked_at g ls i.invoked.line) i.caller.origin.invoke
          (λ j. FitsCaller (served_for g (request_for g j))) i.caller.origin.at
          (if-some (slice_get s.callers i.place) i.invoked
          (λ (j : InvokedState). IfSome (invoked_at g ls j.line)
          (λ k. FitsCaller (served_for g (request_for g k)))) i.at (b.replies i.place)))

      third : wait_of g request ≤ 1000
      third = b.waits request

      by : (bs : List ℕ) → pieces bs ≤ 11930 → served_pieces (served_for g bs) ≤ 11930 → wait_of g bs ≤ 1000
          → work g bs ≤ 24868
      by bs one two three = sum (pieces bs) (served_pieces (served_for g bs)) (wait_of g bs) one two three
        where
          sum : (p q v : ℕ) → p ≤ 11930 → q ≤ 11930 → v ≤ 1000 → p + q + v + 8 ≤ 24868
          sum p q v one two three = omega (arith, one, two, three)

  all_small : (ms : List Member) → Every (IsMember g ls server s) ms → request_work g ms ≤ 24868 * length ms
  all_small [] all = omega arith
  all_small (m ∷ ms) all =
      sum (work g m.request) (request_work g ms) (length ms) (member_small m all.0) (all_small ms all.1)
    where
      sum : (p q v : ℕ) → p ≤ 24868 → q ≤ 24868 * v → p + q ≤ 24868 * suc v
      sum p q v one rest = omega (arith, one, rest)

-- ---- of all

pub names_length : (ms : List Member) → length (names_of ms) ≡ length ms
names_length [] = refl
names_length (m ∷ ms) = (let rest = names_length ms in omega (arith, rest))

-- there are few, where a node has room for them
few_names : (cs : List CallName) (s : Setup) → FitsSetup s → IsSpacious cs s → length cs ≤ 1024
few_names cs s fits (low, inl one) = omega (arith, one)
few_names cs s fits (low, inr room) =
    (let wide : 32 ≤ s.limits.window = fits.limits.wide in
    let slots : s.limits.slots ≤ 65536 = fits.limits.few_slots in
    let times = mul-le 64 (length cs) (2 * s.limits.window) (length cs) (omega (arith, wide)) (omega arith) in
    by (length cs) (2 * s.limits.window * length cs) s.limits.slots s.limits.calls times room slots)
  where
    by : (m r a c : ℕ) → 64 * m ≤ r → r ≤ a - c → a ≤ 65536 → m ≤ 1024
    by m r a c times room slots = omega (arith, times, room, slots)

pub early_all : (g : Handlers) (ls : List Numbered) (n : ℕ) (s t : Stage) → RoundsBehind g ls n s t → AreSpacious s
    → (j : ℕ) → moment j s.history + 2000 * enough_for g ls s < 2 ^ 62
early_all g ls n s t b spacious j =
    by (length (all_live s)) (work_of_all g ls s (all_live s)) (moment j s.history) few low (b.early j)
  where
    crowd : Crowd (all_live s) s
    crowd = behind_crowd g ls n s t b spacious

    server : Node
    server = (has_server (all_live s) s crowd).0

    first : slice_get s.nodes 0 ≡ Some server
    first = (has_server (all_live s) s crowd).1

    all : AllMembers g ls server s
    all = members g ls n s t b spacious server first

    few : length (all_live s) ≤ 1024
    few =
        few_names (all_live s) server.setup
        (if-some (slice_get s.nodes 0) server (λ q. FitsSetup q.setup) first (crowd.world.sides.nodes_are.fits 0))
        (if-some (slice_get s.nodes 0) server (λ q. IsSpacious (all_live s) q.setup) first (spacious 0))

    is : work_of_all g ls s (all_live s) ≡ request_work g all.those
    is =
        ap (work_of_all g ls s) (sym all.names) ∙ all_work g ls server s all.those all.here.members

    low : work_of_all g ls s (all_live s) ≤ 24868 * length (all_live s)
    low =
        (let small = all_small g ls n s t b server all.those all.here.members in
        let same : length all.those ≡ length (all_live s) =
        sym (names_length all.those) ∙ ap (λ (cs : List CallName). length cs) all.names in
        sum (work_of_all g ls s (all_live s)) (request_work g all.those) (length all.those) (length (all_live s)) is
        small same)
      where
        sum : (a b x y : ℕ) → a ≡ b → b ≤ 24868 * x → x ≡ y → a ≤ 24868 * y
        sum a b x y one two three = omega (arith, one, two, three)

    by : (m w o : ℕ) → m ≤ 1024 → w ≤ 24868 * m → o < 2 ^ 61 → o + 2000 * (1000 * (m + 1) * w) < 2 ^ 62
    by m w o few_ low_ soon =
        (let half : 2 ^ 61 ≡ 2305843009213693952 = refl in
        let size : 2 ^ 62 ≡ 4611686018427387904 = refl in
        let times = mul-le (1000 * (m + 1)) w 1025000 25464832 (omega (arith, few_)) (omega (arith, few_, low_)) in
        sum (1000 * (m + 1) * w) o times (omega (arith, soon, half)))
      where
        sum : (x o : ℕ) → x ≤ 26101452800000 → o < 2305843009213693952 → o + 2000 * x < 4611686018427387904
        sum x o few_ soon_ = omega (arith, few_, soon_)
