-- Rounds over a lossy network leave a history sound.
use Rattle.std.proofs.Common.{◌==◌, ◌&&◌, ℕ, zero, suc, List, [], ◌∷◌, ◌++◌, length, All}
use Rattle.std.proofs.lemmas.List.Elements.{All-append, All-cons, All-head, All-nil, All-tail}
use Rattle.rand_pcg.specs.Lcg.{Lcg}
use Rattle.rand_pcg.specs.Pcg.{pcg32}
use Rattle.rx_model.specs.declared.event.Noted.{Noted}
use Rattle.rx_jobs.specs.Handlers.{Handlers}
use Rattle.rx_history.specs.Sides.{Node}
use Rattle.rx_law.specs.Worlds.{Datagram}
use Rattle.rx_events.specs.Waits.{any_lives}
use Rattle.rx_plan.specs.Lossy.{Lossy, carries, comes, fate_of, fated, gathered, lossy, lossy_round, lossy_rounds}
use Rattle.rx_plan.specs.Lossy.{stays}
use Rattle.rx_plan.specs.Network.{delivers}
use Rattle.rx_plan.specs.Parts.{each}
use Rattle.rx_plan.specs.Rounds.{polls, turns}
use Rattle.rx_plan.specs.Stages.{Stage}
use Rattle.rx_plan.specs.declared.fate.Fate.{Fate}
use Rattle.rx_plan.specs.declared.fate.Fate.TheVariants as fates
use Rattle.rx_plan.proofs.Bags.{behind}
use Rattle.rx_plan.proofs.Soundness.Sound.{Good, In, Is, Safe, all_behind, ends_safe, then_safe}
use Rattle.rx_plan.proofs.Soundness.SoundRounds.{IsPoll, deliveries_safe, polls_safe, settles_safe, turns_safe}
use Rattle.rx_plan.proofs.Soundness.SoundTurns.{rests_safe, test_safe}

-- ---- what comes or stays of datagrams is of them

module _ (P : Datagram → Type 0) where
  come : (d : Datagram) (f : Fate) → P d → All P (comes (d, f))
  come d fates.Lost there = All-nil P
  come d fates.Twice there = All-cons P d (d ∷ []) there (All-cons P d [] there (All-nil P))
  come d fates.Held there = All-nil P
  come d fates.Once there = All-cons P d [] there (All-nil P)

  stay : (d : Datagram) (f : Fate) → P d → All P (stays (d, f))
  stay d fates.Lost there = All-nil P
  stay d fates.Twice there = All-nil P
  stay d fates.Held there = All-cons P d [] there (All-nil P)
  stay d fates.Once there = All-nil P

  pub all_gathered : (f : Datagram × Fate → List Datagram)
      → ((d : Datagram) (fate : Fate) → P d → All P (f (d, fate)))
      → (g : Lcg) (ds : List Datagram) → All P ds → All P (gathered f (fated g ds))
  all_gathered f each_of g [] there = All-nil P
  all_gathered f each_of g (d ∷ ds) there =
      All-append P (f (d, fate_of (pcg32 g).0)) (gathered f (fated (pcg32 g).1 ds))
      (each_of d (fate_of (pcg32 g).0) (All-head P d ds there))
      (all_gathered f each_of (pcg32 g).1 ds (All-tail P d ds there))

  pub all_come : (g : Lcg) (ds : List Datagram) → All P ds → All P (gathered comes (fated g ds))
  all_come = all_gathered comes come

  pub all_stay : (g : Lcg) (ds : List Datagram) → All P ds → All P (gathered stays (fated g ds))
  all_stay = all_gathered stays stay

module _ (Honest : Type 0) (nodes : List Node) where
  -- a stage, and what is held was given
  pub record IsLossy (h : List Noted) (l : Lossy) : Type 0 where
    pub stage : Is Honest nodes h l.stage
    pub held : All (In Honest nodes h) l.held

  pub carries_safe : (g : Handlers) (words : Lcg) (held given : List Datagram) (h : List Noted) (s : Stage)
      → Good Honest nodes h → Is Honest nodes h s → All (In Honest nodes h) given → All (In Honest nodes h) held
      → Safe Honest nodes IsLossy h (carries g words held given s)
  carries_safe g words held given h s good i were kept =
      then_safe Honest nodes (Is Honest nodes) IsLossy h
      (each delivers (gathered comes (fated words given) ++ held) s) _
      (deliveries_safe Honest nodes (gathered comes (fated words given) ++ held) h s good
      (All-append (In Honest nodes h) (gathered comes (fated words given)) held
      (all_come (In Honest nodes h) words given were) kept) i)
      (λ more t well there.
      then_safe Honest nodes (Is Honest nodes) IsLossy (behind more h) (turns g t) _
      (turns_safe Honest nodes g (behind more h) t well there)
      (λ last u last_good last_is.
      then_safe Honest nodes (Is Honest nodes) IsLossy (behind last (behind more h)) _ _
      (settles_safe Honest nodes ((length given == 0) && (length held == 0)) (behind last (behind more h)) u last_good
      last_is)
      (λ end v end_good end_is.
      ends_safe Honest nodes IsLossy (behind end (behind last (behind more h))) _ end_good
      (record {
        stage = end_is;
        held =
            all_behind Honest nodes end (behind last (behind more h)) _
            (all_behind Honest nodes last (behind more h) _
            (all_behind Honest nodes more h _ (all_stay (In Honest nodes h) words given were)));
      }))))

  lossy_round_safe : (g : Handlers) (h : List Noted) (l : Lossy) → Good Honest nodes h → IsLossy h l
      → Safe Honest nodes IsLossy h (lossy_round g l)
  lossy_round_safe g h l good i =
      then_safe Honest nodes (IsPoll Honest nodes) IsLossy h (polls l.stage) _
      (polls_safe Honest nodes h l.stage good i.stage)
      (λ es p now is.
      carries_safe g l.words l.held p.given (behind es h) p.stage now is.stage is.given
      (all_behind Honest nodes es h l.held i.held))

  lossy_rounds_safe : (g : Handlers) (n : ℕ) (h : List Noted) (l : Lossy) → Good Honest nodes h → IsLossy h l
      → Safe Honest nodes (Is Honest nodes) h (lossy_rounds g n l)
  lossy_rounds_safe g zero h l good i = rests_safe Honest nodes h l.stage good i.stage
  lossy_rounds_safe g (suc n) h l good i =
      test_safe Honest nodes (Is Honest nodes) h (any_lives l.stage.nodes l.stage.history) _ _
      (λ so.
      then_safe Honest nodes IsLossy (Is Honest nodes) h (lossy_round g l) (lossy_rounds g n)
      (lossy_round_safe g h l good i) (λ es t now is. lossy_rounds_safe g n (behind es h) t now is))
      (λ so. rests_safe Honest nodes h l.stage good i.stage)

  pub lossy_safe : (g : Handlers) (number n : ℕ) (h : List Noted) (s : Stage) → Good Honest nodes h
      → Is Honest nodes h s → Safe Honest nodes (Is Honest nodes) h (lossy g number n s)
  lossy_safe g number n h s good i =
      lossy_rounds_safe g n h _ good (record { stage = i; held = All-nil (In Honest nodes h) })
