-- What a search for the nodes that end keeps. No public clause cites this module.
use Rattle.std.specs.Prelude.{◌≡◌, ℕ, ◌<◌, ◌≤◌, Bool, true, false, List, [], length, replicate, slice_get, Option, Some}
use Rattle.std.specs.Prelude.{None, ◌⊎◌}
use Rattle.xg_check.specs.Graphs.{Step}
use Rattle.xg_check.specs.Searching.{AreListed}

-- no node was looked at
pub record IsNew (count : ℕ) (ended : List Bool) (nodes : List ℕ) (waiting : List (List ℕ)) (looked : List ℕ)
    : Type 0 where
  pub ended_is : ended ≡ replicate count false
  pub nodes_is : nodes ≡ []
  pub waiting_is : waiting ≡ replicate count []
  pub looked_is : looked ≡ replicate count 0

-- each from one place up to another has ended
abbrev pub AreEnded : List Bool → List ℕ → ℕ → ℕ → Type 0
AreEnded ended next from to = (m j : ℕ) → from ≤ m → m < to → slice_get next m ≡ Some j → slice_get ended j ≡ Some true

-- the first that hasn't ended, from a place on
abbrev pub IsFirstOpen : List Bool → List ℕ → ℕ → Option ℕ → Type 0
IsFirstOpen ended next from None = AreEnded ended next from (length next)
IsFirstOpen ended next from (Some at) =
    (at < length next) × AreEnded ended next from at
    × ((j : ℕ) × (slice_get next at ≡ Some j) × (slice_get ended j ≡ Some false))

-- the node is in the list of the other
abbrev pub IsIn : List (List ℕ) → ℕ → ℕ → Type 0
IsIn waiting j i = (w : List ℕ) × (m : ℕ) × (slice_get waiting j ≡ Some w) × (slice_get w m ≡ Some i)

-- what is kept at each moment: the nodes that ended are listed, each behind those that it leads to
pub record IsOrdering (g : List (List ℕ)) (ended : List Bool) (nodes : List ℕ) (waiting : List (List ℕ))
    (looked : List ℕ) : Type 0 where
  pub ended_size : length ended ≡ length g
  pub waiting_size : length waiting ≡ length g
  pub looked_size : length looked ≡ length g
  pub listed : AreListed ended nodes
  pub behind : (k i j : ℕ) → slice_get nodes k ≡ Some i → Step g i j → (m : ℕ) × (m < k) × (slice_get nodes m ≡ Some j)
  pub passed : (i from : ℕ) (next : List ℕ) → slice_get g i ≡ Some next → slice_get looked i ≡ Some from
      → AreEnded ended next 0 from
  pub waiters : (i j : ℕ) → IsIn waiting j i → i < length g

-- after a look at the node: it has ended, or it waits for one that hasn't
pub record IsLooked (g : List (List ℕ)) (node : ℕ) (e0 : List Bool) (n0 : List ℕ) (w0 : List (List ℕ)) (e1 : List Bool)
    (n1 : List ℕ) (w1 : List (List ℕ)) (l1 : List ℕ) : Type 0 where
  pub is : IsOrdering g e1 n1 w1 l1
  pub kept : (i : ℕ) → slice_get e0 i ≡ Some true → slice_get e1 i ≡ Some true
  pub grown : (k i : ℕ) → slice_get n0 k ≡ Some i → slice_get n1 k ≡ Some i
  pub waits_on : (i j : ℕ) → IsIn w0 j i → IsIn w1 j i
  pub added : (k i : ℕ) → slice_get n1 k ≡ Some i → (slice_get n0 k ≡ Some i) ⊎ (length n0 ≤ k)
  pub outcome : (slice_get e1 node ≡ Some true)
      ⊎ ((j : ℕ) × Step g node j × (slice_get e1 j ≡ Some false) × IsIn w1 j node)

-- the node waits for one that isn't among the first so many that ended
pub record Waits (g : List (List ℕ)) (nodes : List ℕ) (waiting : List (List ℕ)) (released i : ℕ) : Type 0 where
  pub other : ℕ
  pub leads : Step g i other
  pub is_in : IsIn waiting other i
  pub later : (k : ℕ) → slice_get nodes k ≡ Some other → released ≤ k

-- the first so many were looked at
pub record AllLooked (g : List (List ℕ)) (seen : ℕ) (ended : List Bool) (nodes : List ℕ) (waiting : List (List ℕ))
    (looked : List ℕ) : Type 0 where
  pub is : IsOrdering g ended nodes waiting looked
  pub each : (i : ℕ) → i < seen → (slice_get ended i ≡ Some true) ⊎ Waits g nodes waiting 0 i

-- each has ended or waits
pub record AllWait (g : List (List ℕ)) (released : ℕ) (ended : List Bool) (nodes : List ℕ) (waiting : List (List ℕ))
    (looked : List ℕ) : Type 0 where
  pub is : IsOrdering g ended nodes waiting looked
  pub each : (i : ℕ) → i < length g → (slice_get ended i ≡ Some true) ⊎ Waits g nodes waiting released i

-- so do all but some that are still to be looked at
pub record AllButSome (g : List (List ℕ)) (released : ℕ) (some : List ℕ) (ended : List Bool) (nodes : List ℕ)
    (waiting : List (List ℕ)) (looked : List ℕ) : Type 0 where
  pub is : IsOrdering g ended nodes waiting looked
  pub each : (i : ℕ) → i < length g
      → ((slice_get ended i ≡ Some true) ⊎ Waits g nodes waiting released i) ⊎ ((m : ℕ) × (slice_get some m ≡ Some i))
  pub small : (m i : ℕ) → slice_get some m ≡ Some i → i < length g
  pub inside : released ≤ length nodes
