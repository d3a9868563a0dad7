-- What the code finds of clocks and rounds, as the definitions say it.
use Rattle.std.proofs.Common.{◌≡◌, ◌≢◌, ◌∙◌, ◌<◌, ◌+◌, ◌-◌, ◌==◌, ◌&&◌, not, ℕ, List, Bool, true, Option}
use Rattle.std.proofs.Common.{sym, subst, ap}
use Rattle.std.proofs.Common.{arith}
use Rattle.std.specs.Prelude.{nat_le, nat_lt}
use Rattle.std.proofs.lemmas.Bool.Decides.{nat_tests}
use Rattle.rx_law.specs.Worlds.{Datagram}
use Rattle.rx_jobs.specs.Handlers.{Handlers}
use Rattle.rx_script.specs.Saying.{Answering}
use Rattle.rx_stage.specs.declared.stop.Stop.{Stop}
use Rattle.rx_plan.specs.Network.{delivers}
use Rattle.rx_plan.specs.Parts.{each}
use Rattle.rx_plan.specs.Rounds.{turns}
use Rattle.rx_stage.specs.Shown.{Plays, WorldState}
use Rattle.rx_stage.specs.Tells.{Told}

-- a time that is one, and less than what is left to the limit
later_test : (limit time l : ℕ) → time ≢ 0
    → nat_lt time (limit - l) ≡ (not (time == 0) && not (nat_le limit (l + time)))
later_test limit time l some = grind (arith, nat_tests)

pub can_exact : (limit time left l : ℕ) (may : Bool) → time ≢ 0 → left ≡ limit - l → may ≡ not (nat_le limit (l + time))
    → nat_lt time left ≡ (not (time == 0) && may)
can_exact limit time left l may some is at =
    ap (nat_lt time) is ∙ (later_test limit time l some ∙ ap (λ b. not (time == 0) && b) (sym at))

pub can_early : (limit time left l : ℕ) → left ≡ limit - l → nat_lt time left ≡ true → l + time < limit
can_early limit time left l is less = grind (arith, nat_tests)

-- the same datagrams
pub delivered_of : (ds given : List Datagram) (w new : WorldState) (stop : Option Stop) (a b : Told) → ds ≡ given
    → Plays (each delivers ds) w new stop a b → Plays (each delivers given) w new stop a b
delivered_of ds given w new stop a b same plays = subst (λ xs. Plays (each delivers xs) w new stop a b) same plays

-- the same script
pub turned_by : (hs : List Answering → Handlers) (now old : List Answering) (w new : WorldState) (stop : Option Stop)
    (a b : Told) → now ≡ old → Plays (turns (hs now)) w new stop a b → Plays (turns (hs old)) w new stop a b
turned_by hs now old w new stop a b same plays = subst (λ s. Plays (turns (hs s)) w new stop a b) same plays
