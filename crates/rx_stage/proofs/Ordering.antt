-- The order of nodes: the first numbers, and the clients before the server.
use Rattle.std.proofs.Common.{◌≡◌, ◌<◌, ◌≤◌, ◌∙◌, ◌+◌, ℕ, zero, suc, List, [], ◌∷◌, ◌++◌, refl, sym, subst}
use Rattle.std.proofs.Common.{ap, inl, inr}
use Rattle.std.proofs.Common.{arith, append_assoc, drop, length, length-append, add-one, ◌⊎◌}
use Rattle.rx_plan.specs.Network.{below}
use Rattle.rx_plan.specs.Rounds.{clients_first}
use Rattle.rx_stage.specs.Shown.{Shows, WorldState}
use Rattle.rx_plan.specs.Stages.{Stage}
use Rattle.rx_stage.proofs.Finding.{count_shown}

-- ---- the first numbers

-- those below a number, that number, and those behind it
pub record Around (k n : ℕ) : Type 0 where
  pub more : List ℕ
  pub are : below n ≡ below k ++ k ∷ more

around_more : (k n : ℕ) → Around k n → Around k (suc n)
around_more k n r =
    record {
      more = r.more ++ n ∷ [];
      are = ap (λ ns. ns ++ n ∷ []) r.are ∙ append_assoc (below k) (k ∷ r.more) (n ∷ []);
    }

around_last : (k n : ℕ) → k ≡ n → Around k (suc n)
around_last k n same = record { more = []; are = ap (λ m. below m ++ m ∷ []) (sym same) }

around_in : (k n : ℕ) → (k < n → Around k n) → (k < n) ⊎ (k ≡ n) → Around k (suc n)
around_in k n before (inl less) = around_more k n (before less)
around_in k n before (inr same) = around_last k n same

less_or_same : (k n : ℕ) → k < suc n → (k < n) ⊎ (k ≡ n)
less_or_same k n less = grind arith

pub around : (k n : ℕ) → k < n → Around k n
around k zero less = absurd (omega (arith, less))
around k (suc n) less = around_in k n (around k n) (less_or_same k n less)

pub below_length : (n : ℕ) → length (below n) ≡ n
below_length zero = refl
below_length (suc n) = length-append (below n) (n ∷ []) ∙ omega (arith, below_length n)

-- one more of them
pub below_one : (k : ℕ) → below (k + 1) ≡ below k ++ k ∷ []
below_one k = ap below (add-one k)

-- ---- the clients

drop_front : {X : Type 0} (xs ys : List X) → 1 ≤ length xs → drop 1 (xs ++ ys) ≡ drop 1 xs ++ ys
drop_front [] ys some = absurd (omega (arith, some))
drop_front (x ∷ xs) ys some = refl

clients_in : (k : ℕ) (more : List ℕ) → 1 ≤ k → drop 1 (below k ++ more) ≡ drop 1 (below k) ++ more
clients_in k more some = drop_front (below k) more (omega (arith, below_length k, some))

-- one client more
pub clients_one : (k : ℕ) → 1 ≤ k → drop 1 (below (k + 1)) ≡ drop 1 (below k) ++ k ∷ []
clients_one k some = ap (drop 1) (below_one k) ∙ clients_in k (k ∷ []) some

-- the nodes before a client, the client, and those behind it
pub record AroundClient (k : ℕ) (ns : List ℕ) : Type 0 where
  pub more : List ℕ
  pub are : ns ≡ drop 1 (below k) ++ k ∷ more

pub around_client : (w : WorldState) (s : Stage) (k : ℕ) → Shows w s → 1 ≤ k → k < suc (length w.nodes.clients)
    → AroundClient k (clients_first s)
around_client w s k shown some less =
    (let r : Around k (length s.nodes) = around k (length s.nodes) (subst (λ n. k < n) (sym (count_shown w s
    shown)) less) in
    record {
      more = r.more ++ 0 ∷ [];
      are = ap (λ ns. drop 1 ns ++ 0 ∷ []) r.are ∙ ap (λ ns. ns ++ 0 ∷ []) (clients_in k (k ∷ r.more) some)
          ∙ append_assoc (drop 1 (below k)) (k ∷ r.more) (0 ∷ []);
    })

-- the clients are those below the number of all nodes
pub clients_shown : (w : WorldState) (s : Stage) → Shows w s
    → clients_first s ≡ drop 1 (below (suc (length w.nodes.clients))) ++ 0 ∷ []
clients_shown w s shown = ap (λ n. drop 1 (below n) ++ 0 ∷ []) (count_shown w s shown)
