-- What a load makes leaves a history sound.
use Rattle.std.proofs.Common.{ℕ, zero, suc, List, [], refl}
use Rattle.std.proofs.lemmas.List.Elements.{All-nil}
use Rattle.rand_pcg.specs.Lcg.{Lcg}
use Rattle.rand_pcg.specs.Pcg.{pcg32}
use Rattle.rx_model.specs.declared.event.Noted.{Noted}
use Rattle.rx_plan.specs.Finds.{at_client}
use Rattle.rx_plan.specs.Lines.{connects, invokes}
use Rattle.rx_plan.specs.Lossy.{carries}
use Rattle.rx_plan.specs.Parts.{To, each}
use Rattle.rx_plan.specs.Rounds.{polls}
use Rattle.rx_plan.proofs.Bags.{behind}
use Rattle.rx_plan.proofs.Soundness.Sound.{Good, In, Is, Safe, all_behind, each_safe, ends_safe, then_safe}
use Rattle.rx_plan.proofs.Soundness.SoundLossy.{IsLossy, carries_safe}
use Rattle.rx_plan.proofs.Soundness.SoundRounds.{IsPoll, polls_safe}
use Rattle.rx_plan.proofs.Soundness.SoundTurns.{numbers_safe, test_safe}
use Rattle.rx_load.specs.Loads.{Load, all_ended, body_length, clients, connects_all, load_begun, load_handlers}
use Rattle.rx_load.specs.Loads.{load_nodes, load_part, load_request, load_round, load_rounds, lossy_with, may_open}
use Rattle.rx_load.specs.Loads.{next_call, opens, opens_all, opens_free, opens_number}
use Rattle.rx_load.proofs.Sound.{connected_safe, opened_safe}

module _ (Honest : Type 0) where
  -- a load whose network is sound
  abbrev pub IsLoad : List Noted → Load → Type 0
  IsLoad h l = IsLossy Honest load_nodes h l.net

  abbrev Fine : List Noted → Type 0
  Fine = Good Honest load_nodes

  -- ---- openings

  opens_number_safe : (client number : ℕ) (drawn : ℕ × Lcg) (h : List Noted) (l : Load) → Fine h → IsLoad h l
      → Safe Honest load_nodes IsLoad h (opens_number client number drawn l)
  opens_number_safe client number drawn h l good i =
      then_safe Honest load_nodes (Is Honest load_nodes) IsLoad h
      (at_client client (invokes number 4 (load_request number (body_length drawn.0))) l.net.stage) _
      (opened_safe Honest load_nodes client number 4 (load_request number (body_length drawn.0)) h l.net.stage good
      i.stage)
      (λ es s now is.
      ends_safe Honest load_nodes IsLoad (behind es h) _ now
      (record { stage = is; held = all_behind Honest load_nodes es h l.net.held i.held }))

  opens_safe : (client : ℕ) (h : List Noted) (l : Load) → Fine h → IsLoad h l
      → Safe Honest load_nodes IsLoad h (opens client l)
  opens_safe client h l good i =
      opens_number_safe client (next_call l.next client) (pcg32 l.net.words) h l good i

  opens_free_safe : (calls most client : ℕ) (h : List Noted) (l : Load) → Fine h → IsLoad h l
      → Safe Honest load_nodes IsLoad h (opens_free calls most client l)
  opens_free_safe calls zero client h l good i = ends_safe Honest load_nodes IsLoad h (To l) good i
  opens_free_safe calls (suc most) client h l good i =
      test_safe Honest load_nodes IsLoad h (may_open calls client l) _ _
      (λ so.
      then_safe Honest load_nodes IsLoad IsLoad h (opens client l) (opens_free calls most client)
      (opens_safe client h l good i) (λ es m now is. opens_free_safe calls most client (behind es h) m now is))
      (λ so. ends_safe Honest load_nodes IsLoad h (To l) good i)

  opens_all_safe : (calls : ℕ) (h : List Noted) (l : Load) → Fine h → IsLoad h l
      → Safe Honest load_nodes IsLoad h (opens_all calls l)
  opens_all_safe calls h l good i =
      each_safe Honest load_nodes IsLoad (λ k x. Unit {0}) (opens_free calls 4) (λ es k x there. tt)
      (λ k client m now there is. opens_free_safe calls 4 client k m now is) clients h l good (λ k x inside. tt) i

  -- ---- rounds

  lossy_with_safe : (h : List Noted) (l : Load) → Fine h → IsLoad h l
      → Safe Honest load_nodes IsLoad h (lossy_with l)
  lossy_with_safe h l good i =
      then_safe Honest load_nodes (IsPoll Honest load_nodes) IsLoad h (polls l.net.stage) _
      (polls_safe Honest load_nodes h l.net.stage good i.stage)
      (λ es p now is.
      then_safe Honest load_nodes (IsLossy Honest load_nodes) IsLoad (behind es h)
      (carries load_handlers l.net.words l.net.held p.given p.stage) _
      (carries_safe Honest load_nodes load_handlers l.net.words l.net.held p.given (behind es h) p.stage now is.stage
      is.given (all_behind Honest load_nodes es h l.net.held i.held))
      (λ more net well there. ends_safe Honest load_nodes IsLoad (behind more (behind es h)) _ well there))

  load_round_safe : (calls : ℕ) (h : List Noted) (l : Load) → Fine h → IsLoad h l
      → Safe Honest load_nodes IsLoad h (load_round calls l)
  load_round_safe calls h l good i =
      then_safe Honest load_nodes IsLoad IsLoad h (opens_all calls l) lossy_with (opens_all_safe calls h l good i)
      (λ es m now is. lossy_with_safe (behind es h) m now is)

  load_rounds_safe : (calls n : ℕ) (h : List Noted) (l : Load) → Fine h → IsLoad h l
      → Safe Honest load_nodes IsLoad h (load_rounds calls n l)
  load_rounds_safe calls zero h l good i = ends_safe Honest load_nodes IsLoad h (To l) good i
  load_rounds_safe calls (suc n) h l good i =
      test_safe Honest load_nodes IsLoad h (all_ended calls l) _ _
      (λ so. ends_safe Honest load_nodes IsLoad h (To l) good i)
      (λ so.
      then_safe Honest load_nodes IsLoad IsLoad h (load_round calls l) (load_rounds calls n)
      (load_round_safe calls h l good i) (λ es m now is. load_rounds_safe calls n (behind es h) m now is))

  -- ---- a whole load

  connects_all_safe : (h : List Noted) (l : Load) → Fine h → IsLoad h l
      → Safe Honest load_nodes IsLoad h (connects_all l)
  connects_all_safe h l good i =
      then_safe Honest load_nodes (Is Honest load_nodes) IsLoad h
      (each (λ client. at_client client (connects 1)) clients l.net.stage) _
      (numbers_safe Honest load_nodes (λ client. at_client client (connects 1))
      (λ client k s now is. connected_safe Honest load_nodes client k s now is) clients h l.net.stage good i.stage)
      (λ es s now is.
      ends_safe Honest load_nodes IsLoad (behind es h) _ now
      (record { stage = is; held = all_behind Honest load_nodes es h l.net.held i.held }))

  begun_is : (number calls : ℕ) → IsLoad [] (load_begun number calls)
  begun_is number calls =
      record {
        stage = record { at = refl; history = refl; packets = All-nil (In Honest load_nodes []) };
        held = All-nil (In Honest load_nodes []);
      }

  pub load_safe : (number calls : ℕ) → Safe Honest load_nodes IsLoad [] (load_part number calls)
  load_safe number calls =
      then_safe Honest load_nodes IsLoad IsLoad [] _ _
      (ends_safe Honest load_nodes IsLoad [] (To (load_begun number calls))
      (record { allowed = tt; carried = λ honest. tt }) (begun_is number calls))
      (λ es l now is.
      then_safe Honest load_nodes IsLoad IsLoad (behind es []) (connects_all l) (load_rounds calls 1000000)
      (connects_all_safe (behind es []) l now is)
      (λ more m well there. load_rounds_safe calls 1000000 (behind more (behind es [])) m well there))
