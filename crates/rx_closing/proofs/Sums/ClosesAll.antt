-- What is promised of fair rounds where there is room for all calls that live as they begin, and of one call, by what
-- closes each of several.
use Rattle.std.proofs.Common.{◌≡◌, ◌+◌, ◌*◌, ◌≤◌, ℕ, List, Option, Some, None, inl, inr, ap, length, arith, slice_get}
use Rattle.std.proofs.Common.{IfSome}
use Rattle.rx_model.specs.declared.names.CallName.{CallName}
use Rattle.rx_rules.specs.Setup.{FitsSetup}
use Rattle.rx_history.specs.Sides.{Node}
use Rattle.rx_script.specs.declared.plan.Numbered.{Numbered}
use Rattle.rx_jobs.specs.Handlers.{Handlers}
use Rattle.rx_plan.specs.Stages.{Stage}
use Rattle.rx_closing.specs.Work.{work_of}
use Rattle.rx_closing.specs.Living.{all_live}
use Rattle.rx_closing.specs.Closing.{ClosesOne, RoundsBehind}
use Rattle.rx_closing.specs.Several.{ClosesAll, HasRoomFor, HasRoomForAll, enough_for, work_of_all}
use Rattle.rx_closing.proofs.Frame.{IsSpacious}
use Rattle.rx_closing.proofs.Rounds.Begins.{behind_world}
use Rattle.rx_closing.proofs.Sums.ClosesSpacious.{ClosesSpacious}
use Rattle.rx_closing.proofs.Together.MembersHere.{AreSpacious}

-- where each node has room for all
pub room_spacious : (s : Stage) → HasRoomForAll s → AreSpacious s
room_spacious s room j = of (slice_get s.nodes j) (room j)
  where
    of : (o : Option Node) → IfSome o (HasRoomFor (length (all_live s)))
        → IfSome o (λ q. IsSpacious (all_live s) q.setup)
    of None has = tt
    of (Some n) has = (has.calls, inr has.slots)

pub closes_all : ClosesSpacious → ClosesAll
closes_all closes g ls n s t b room few c = closes g ls n s t b (room_spacious s room) few c

-- one call has room anywhere
pub one_spacious : (g : Handlers) (ls : List Numbered) (n : ℕ) (s t : Stage) → RoundsBehind g ls n s t
    → length (all_live s) ≡ 1 → AreSpacious s
one_spacious g ls n s t b one j = of (slice_get s.nodes j) ((behind_world g ls n s t b).sides.nodes_are.fits j)
  where
    of : (o : Option Node) → IfSome o (λ q. FitsSetup q.setup) → IfSome o (λ q. IsSpacious (all_live s) q.setup)
    of None fits = tt
    of (Some q) fits =
        (let some = fits.limits.some_calls in
        let many = one in
        (omega (arith, some, many), inl (omega (arith, many))))

-- so what is said of one call follows
pub closes_one : ClosesSpacious → ClosesOne
closes_one closes g ls n s t b c only few =
    closes g ls n s t b (one_spacious g ls n s t b (ap (λ (cs : List CallName). length cs) only))
    (by (enough_for g ls s) is) c
  where
    is : enough_for g ls s ≡ 1000 * (1 + 1) * (work_of g ls s c + 0)
    is = ap (λ (cs : List CallName). 1000 * (length cs + 1) * work_of_all g ls s cs) only

    by : (e : ℕ) → e ≡ 1000 * (1 + 1) * (work_of g ls s c + 0) → e ≤ n
    by e same = times (work_of g ls s c) e same few
      where
        times : (w e : ℕ) → e ≡ 1000 * (1 + 1) * (w + 0) → 2000 * w ≤ n → e ≤ n
        times w e same low = omega (arith, same, low)
