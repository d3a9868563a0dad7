-- What searches through a graph keep. No public clause cites this module.
use Rattle.std.specs.Prelude.{◌≡◌, ℕ, suc, ◌<◌, Bool, true, false, List, [], ◌∷◌, length, slice_get, Some, ◌⊎◌}
use Rattle.xg_check.specs.Graphs.{Step, IsReached}

-- how many are marked
abbrev pub marked_count : List Bool → ℕ
marked_count [] = 0
marked_count (true ∷ marks) = suc (marked_count marks)
marked_count (false ∷ marks) = marked_count marks

-- the list has the nodes that are marked, each once
pub record AreListed (marks : List Bool) (nodes : List ℕ) : Type 0 where
  pub there : (k i : ℕ) → slice_get nodes k ≡ Some i → slice_get marks i ≡ Some true
  pub place : (i : ℕ) → slice_get marks i ≡ Some true → (k : ℕ) × (slice_get nodes k ≡ Some i)
  pub count : marked_count marks ≡ length nodes

-- some are marked and listed in addition
pub record AreAdded (marks new_marks : List Bool) (nodes new_nodes added : List ℕ) : Type 0 where
  pub size : length new_marks ≡ length marks
  pub listed : AreListed new_marks new_nodes
  pub kept : (i : ℕ) → slice_get marks i ≡ Some true → slice_get new_marks i ≡ Some true
  pub added_are : (p i : ℕ) → slice_get added p ≡ Some i → slice_get new_marks i ≡ Some true
  pub only : (i : ℕ) → slice_get new_marks i ≡ Some true
      → (slice_get marks i ≡ Some true) ⊎ ((p : ℕ) × (slice_get added p ≡ Some i))
  pub grown : (k i : ℕ) → slice_get nodes k ≡ Some i → slice_get new_nodes k ≡ Some i

-- what is reached so far: the ways from the first so many of the list were followed
pub record IsReaching (g : List (List ℕ)) (starts : List ℕ) (marks : List Bool) (nodes : List ℕ) (followed : ℕ)
    : Type 0 where
  pub size : length marks ≡ length g
  pub listed : AreListed marks nodes
  pub started : (p i : ℕ) → slice_get starts p ≡ Some i → slice_get marks i ≡ Some true
  pub reached : (i : ℕ) → slice_get marks i ≡ Some true → IsReached g starts i
  pub follows : (k i j : ℕ) → k < followed → slice_get nodes k ≡ Some i → Step g i j → slice_get marks j ≡ Some true

-- the lists have the node behind those that it leads to, and what they had
pub record AreBack (lists new : List (List ℕ)) (node : ℕ) (next : List ℕ) : Type 0 where
  pub size : length new ≡ length lists
  pub kept : (j i : ℕ) → Step lists j i → Step new j i
  pub added : (p j : ℕ) → slice_get next p ≡ Some j → Step new j node
  pub only : (j i : ℕ) → Step new j i → Step lists j i ⊎ ((i ≡ node) × ((p : ℕ) × (slice_get next p ≡ Some j)))

-- the ways from the first so many nodes are there the other way round
pub record AreTurned (g back : List (List ℕ)) (seen : ℕ) : Type 0 where
  pub size : length back ≡ length g
  pub turned : (i j : ℕ) → i < seen → Step g i j → Step back j i
  pub turned_back : (i j : ℕ) → Step back j i → Step g i j
