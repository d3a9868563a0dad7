-- What is so at each stage of a load, by its shape: so it stays where it does behind its calls and rounds.
use Rattle.std.proofs.Common.{ℕ, zero, suc}
use Rattle.rx_plan.specs.Parts.{To, ends}
use Rattle.rx_plan.proofs.Leading.{Leads, each_lead, ends_lead, test_lead, then_lead}
use Rattle.rx_load.specs.Loads.{Load, all_ended, clients, connects_all, load_begun, load_part, load_round, load_rounds}
use Rattle.rx_load.specs.Loads.{lossy_with, may_open, opens, opens_all, opens_free}

-- something of a load before its first call, and of one between its calls and rounds
pub record LoadShapes (Start At : Load → Type 0) : Type 0 where
  pub connects : (l : Load) → Start l → Leads Start (connects_all l)
  pub starts : (l : Load) → Start l → At l
  pub opens : (client : ℕ) (l : Load) → At l → Leads At (opens client l)
  pub lossy : (l : Load) → At l → Leads At (lossy_with l)

module _ (Start At : Load → Type 0) (shapes : LoadShapes Start At) where
  free_lead : (calls most client : ℕ) (l : Load) → At l → Leads At (opens_free calls most client l)
  free_lead calls zero client l so = ends_lead At (To l) so
  free_lead calls (suc most) client l so =
      test_lead At (may_open calls client l) _ _
      (then_lead At At (opens client l) (opens_free calls most client) (shapes.opens client l so)
      (λ m there. free_lead calls most client m there))
      (ends_lead At (To l) so)

  round_lead : (calls : ℕ) (l : Load) → At l → Leads At (load_round calls l)
  round_lead calls l so =
      then_lead At At (opens_all calls l) lossy_with
      (each_lead At (opens_free calls 4) (λ client m there. free_lead calls 4 client m there) clients l so)
      (λ m there. shapes.lossy m there)

  rounds_lead : (calls n : ℕ) (l : Load) → At l → Leads At (load_rounds calls n l)
  rounds_lead calls zero l so = ends_lead At (To l) so
  rounds_lead calls (suc n) l so =
      test_lead At (all_ended calls l) _ _ (ends_lead At (To l) so)
      (then_lead At At (load_round calls l) (load_rounds calls n) (round_lead calls l so)
      (λ m there. rounds_lead calls n m there))

  pub load_leads : (number calls : ℕ) → Start (load_begun number calls) → Leads At (load_part number calls)
  load_leads number calls so =
      then_lead Start At (ends (To (load_begun number calls))) _ (ends_lead Start (To (load_begun number calls)) so)
      (λ l there.
      then_lead Start At (connects_all l) (load_rounds calls 1000000) (shapes.connects l there)
      (λ m fresh. rounds_lead calls 1000000 m (shapes.starts m fresh)))
