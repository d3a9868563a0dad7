-- Nodes that don't lead to themselves.
use Rattle.std.proofs.Common.{◌≡◌, ℕ, Bool, true, false, List, length, replicate, slice_get, Some, ◌⊎◌, inl, inr}
use Rattle.std.proofs.Common.{ap, subst, ◌∙◌}
use Rattle.std.proofs.lemmas.List.{length-replicate}
use Rattle.xg_check.specs.Graphs.{Leads, at_once, through, AreOrdered, AreRingless, AreReversed}
use Rattle.xg_check.proofs.GraphLaws.{snoc, marked_end, no_ring}
use Rattle.xg_check.proofs.SearchLaws.{none_marked}

turned_leads : (g back : List (List ℕ)) → AreReversed g back → (i j : ℕ) → Leads g i j → Leads back j i
turned_leads g back r i j (at_once a b s) = at_once j i (r.turned i j s)
turned_leads g back r i j (through a m b s rest) = snoc back j m i (turned_leads g back r m j rest) (r.turned i m s)

module _ (g : List (List ℕ)) (nodes : List ℕ) (ended others old marks : List Bool) (n : ℕ) where
  -- the first of the marks, which are those of nodes whose ways end
  pub ended_ringless : AreOrdered g nodes ended → others ≡ ended → old ≡ replicate n false → n ≡ length g
      → length marks ≡ length old
      → ((i : ℕ) → slice_get marks i ≡ Some true → (slice_get old i ≡ Some true) ⊎ (slice_get others i ≡ Some true))
      → AreRingless g marks
  ended_ringless o same fresh whole size marked = record {
    size = size ∙ ap length fresh ∙ length-replicate n false ∙ whole;
    no_ring = no;
  }
    where
      no : (i : ℕ) → slice_get marks i ≡ Some true → Leads g i i → ⊥
      no i e l = elim (marked i e) [
        | inl h ↦ none_marked n i (subst (λ (xs : List Bool). slice_get xs i ≡ Some true) fresh h)
        | inr h ↦
            no_ring g i (marked_end g nodes ended o i (subst (λ (xs : List Bool). slice_get xs i ≡ Some true) same h)) l
      ]

module _ (g back : List (List ℕ)) (nodes : List ℕ) (begun others old marks : List Bool) where
  -- and then those of nodes to which all ways begin
  pub begun_ringless : AreReversed g back → AreOrdered back nodes begun → others ≡ begun → AreRingless g old
      → length marks ≡ length old
      → ((i : ℕ) → slice_get marks i ≡ Some true → (slice_get old i ≡ Some true) ⊎ (slice_get others i ≡ Some true))
      → AreRingless g marks
  begun_ringless r o same was size marked = record {
    size = size ∙ was.size;
    no_ring = no;
  }
    where
      no : (i : ℕ) → slice_get marks i ≡ Some true → Leads g i i → ⊥
      no i e l = elim (marked i e) [
        | inl h ↦ was.no_ring i h l
        | inr h ↦
            no_ring back i
            (marked_end back nodes begun o i (subst (λ (xs : List Bool). slice_get xs i ≡ Some true) same h))
            (turned_leads g back r i i l)
      ]
