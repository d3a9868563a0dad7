-- Nodes by their numbers, and where each leads. Public clauses cite this module.
use Rattle.std.specs.Prelude.{◌≡◌, ℕ, ◌<◌, Bool, true, false, List, length, slice_get, Some}
use Rattle.std.specs.List.{AllByRecursion}

-- each node leads to nodes that are there
abbrev pub IsGraph : List (List ℕ) → Type 0
IsGraph g = AllByRecursion (λ next. AllByRecursion (λ i. i < length g) next) g

-- the node leads to the other at once
pub record Step (g : List (List ℕ)) (i j : ℕ) : Type 0 where
  pub next : List ℕ
  pub from : slice_get g i ≡ Some next
  pub place : ℕ
  pub to : slice_get next place ≡ Some j

-- the node leads to the other, at once or through others
pub data Leads (g : List (List ℕ)) : ℕ → ℕ → Type 0 where
  at_once : (i j : ℕ) → Step g i j → Leads g i j
  through : (i j k : ℕ) → Step g i j → Leads g j k → Leads g i k

-- each way from the node ends
pub data Ends (g : List (List ℕ)) : ℕ → Type 0 where
  ends : (i : ℕ) → ((j : ℕ) → Step g i j → Ends g j) → Ends g i

-- each of the nodes is there
abbrev pub AreNodes : List (List ℕ) → List ℕ → Type 0
AreNodes g nodes = AllByRecursion (λ i. i < length g) nodes

-- the node is one of the starts, or one leads to it, at once or through others
pub data IsReached (g : List (List ℕ)) (starts : List ℕ) : ℕ → Type 0 where
  start : (i place : ℕ) → slice_get starts place ≡ Some i → IsReached g starts i
  step : (i j : ℕ) → IsReached g starts i → Step g i j → IsReached g starts j

-- the marks are those of the nodes that are reached
pub record AreReached (g : List (List ℕ)) (starts : List ℕ) (marks : List Bool) : Type 0 where
  pub size : length marks ≡ length g
  pub marked : (i : ℕ) → slice_get marks i ≡ Some true → IsReached g starts i
  pub unmarked : (i : ℕ) → slice_get marks i ≡ Some false → IsReached g starts i → ⊥

-- the nodes are those whose ways all end, each behind those that it leads to, and the marks say which they are
pub record AreOrdered (g : List (List ℕ)) (nodes : List ℕ) (ended : List Bool) : Type 0 where
  pub size : length ended ≡ length g
  pub there : (k i : ℕ) → slice_get nodes k ≡ Some i → slice_get ended i ≡ Some true
  pub place : (i : ℕ) → slice_get ended i ≡ Some true → (k : ℕ) × (slice_get nodes k ≡ Some i)
  pub behind : (k i j : ℕ) → slice_get nodes k ≡ Some i → Step g i j → (m : ℕ) × (m < k) × (slice_get nodes m ≡ Some j)
  pub stuck : (i : ℕ) → slice_get ended i ≡ Some false → (j : ℕ) × Step g i j × (slice_get ended j ≡ Some false)

-- the marks are of nodes that don't lead to themselves
pub record AreRingless (g : List (List ℕ)) (marks : List Bool) : Type 0 where
  pub size : length marks ≡ length g
  pub no_ring : (i : ℕ) → slice_get marks i ≡ Some true → Leads g i i → ⊥

-- the second has the ways of the first the other way round
pub record AreReversed (g back : List (List ℕ)) : Type 0 where
  pub size : length back ≡ length g
  pub turned : (i j : ℕ) → Step g i j → Step back j i
  pub turned_back : (i j : ℕ) → Step back j i → Step g i j
