-- Which nodes end, and which lead back to themselves.
use Rattle.std.proofs.Common.{◌≡◌, ℕ, zero, suc, ◌<◌, Bool, true, false, List, Some, slice_get, refl, sym, subst, ◌∙◌}
use Rattle.std.proofs.Common.{arith}
use Rattle.std.proofs.Common.{[], ◌∷◌}
use Rattle.std.specs.List.{AllByRecursion}
use Rattle.xg_check.specs.Graphs.{IsGraph, AreNodes, Step, Leads, at_once, through, Ends, ends, IsReached, start, step}
use Rattle.xg_check.specs.Graphs.{AreReached, AreOrdered}

-- ---- ways

-- one step more
pub snoc : (g : List (List ℕ)) (i j k : ℕ) → Leads g i j → Step g j k → Leads g i k
snoc g i j k (at_once i' j' s) t = through i j k s (at_once j k t)
snoc g i j k (through i' m j' s rest) t = through i m k s (snoc g m j k rest t)

pub then_leads : (g : List (List ℕ)) (i j k : ℕ) → Leads g i j → Leads g j k → Leads g i k
then_leads g i j k (at_once i' j' s) more = through i j k s more
then_leads g i j k (through i' m j' s rest) more = through i m k s (then_leads g m j k rest more)

back : (g : List (List ℕ)) (i j k : ℕ) → Step g i k → j ≡ i → Step g j k
back g i j k s e = subst (λ (n : ℕ). Step g n k) (sym e) s

no_way_back : (g : List (List ℕ)) (i j : ℕ) → Ends g i → Leads g i j → j ≡ i → ⊥
no_way_back g i j (ends i' h) (at_once a b s) e = no_way_back g j j (h j s) (at_once j j (back g i j j s e)) refl
no_way_back g i j (ends i' h) (through a m b s rest) e =
    no_way_back g m m (h m s) (snoc g m j m rest (back g i j m s e)) refl

-- a node that ends doesn't lead to itself
pub no_ring : (g : List (List ℕ)) (i : ℕ) → Ends g i → Leads g i i → ⊥
no_ring g i e l = no_way_back g i i e l refl

-- ---- nodes in order

in_order : (g : List (List ℕ)) (nodes : List ℕ) (ended : List Bool) → AreOrdered g nodes ended → (n k i : ℕ) → k < n
    → slice_get nodes k ≡ Some i → Ends g i
in_order g nodes ended o zero k i lt at = absurd (omega (arith, lt))
in_order g nodes ended o (suc n) k i lt at =
    ends i (λ j s. let b = o.behind k i j at s in in_order g nodes ended o n b.0 j (omega (arith, b.1, lt)) b.2)

-- those that are marked end
pub marked_end : (g : List (List ℕ)) (nodes : List ℕ) (ended : List Bool) → AreOrdered g nodes ended → (i : ℕ)
    → slice_get ended i ≡ Some true → Ends g i
marked_end g nodes ended o i e = let p = o.place i e in in_order g nodes ended o (suc p.0) p.0 i (omega arith) p.1

-- and the others don't
pub unmarked_goes_on : (g : List (List ℕ)) (nodes : List ℕ) (ended : List Bool) → AreOrdered g nodes ended → (i : ℕ)
    → slice_get ended i ≡ Some false → Ends g i → ⊥
unmarked_goes_on g nodes ended o i e (ends i' h) =
    let s = o.stuck i e in unmarked_goes_on g nodes ended o s.0 s.2 (h s.0 s.1)

-- ---- what is reached

pub reached_on : (g : List (List ℕ)) (starts : List ℕ) (i j : ℕ) → IsReached g starts i → Leads g i j
    → IsReached g starts j
reached_on g starts i j r (at_once a b s) = step i j r s
reached_on g starts i j r (through a m b s rest) = reached_on g starts m j (step i m r s) rest

-- what the nodes that a node leads to at once reach is what the node leads to
pub reached_leads : (g : List (List ℕ)) (next : List ℕ) (i j : ℕ) → slice_get g i ≡ Some next → IsReached g next j
    → Leads g i j
reached_leads g next i j at (start j' place to) =
    at_once i j (record { next = next; from = at; place = place; to = to })
reached_leads g next i j at (step m j' r s) = snoc g i m j (reached_leads g next i m at r) s

from_next : (g : List (List ℕ)) (next : List ℕ) (i j : ℕ) → slice_get g i ≡ Some next → Step g i j → IsReached g next j
from_next g next i j at s =
    let both : Some s.next ≡ Some next = sym s.from ∙ at in
    let same : s.next ≡ next = cc in
    start j s.place (subst (λ (xs : List ℕ). slice_get xs s.place ≡ Some j) same s.to)

pub leads_reached : (g : List (List ℕ)) (next : List ℕ) (i j : ℕ) → slice_get g i ≡ Some next → Leads g i j
    → IsReached g next j
leads_reached g next i j at (at_once a b s) = from_next g next i j at s
leads_reached g next i j at (through a m b s rest) = reached_on g next m j (from_next g next i m at s) rest

-- ---- nodes of a graph

pub all_at : {A : Type 0} (P : A → Type 0) (xs : List A) (i : ℕ) (x : A) → AllByRecursion P xs
    → slice_get xs i ≡ Some x → P x
all_at P [] i x h e = absurd cc
all_at {A} P (y ∷ xs) zero x h e = let same : y ≡ x = cc in subst P same h.0
all_at P (y ∷ xs) (suc i) x h e = all_at P xs i x h.1 e

-- a node leads to nodes that are there
pub next_nodes : (lists g : List (List ℕ)) (i : ℕ) (next : List ℕ) → IsGraph lists → lists ≡ g
    → slice_get lists i ≡ Some next → AreNodes g next
next_nodes lists g i next h same at =
    subst (λ (xs : List (List ℕ)). AreNodes xs next) same
    (all_at (λ (xs : List ℕ). AreNodes lists xs) lists i next h at)

-- ---- whether a node leads to itself

pub yes_leads : (g : List (List ℕ)) (next : List ℕ) (i : ℕ) (marks : List Bool) → slice_get g i ≡ Some next
    → AreReached g next marks → slice_get marks i ≡ Some true → Leads g i i
yes_leads g next i marks at r e = reached_leads g next i i at (r.marked i e)

pub no_leads : (g : List (List ℕ)) (next : List ℕ) (i : ℕ) (marks : List Bool) → slice_get g i ≡ Some next
    → AreReached g next marks → slice_get marks i ≡ Some false → Leads g i i → ⊥
no_leads g next i marks at r e l = r.unmarked i e (leads_reached g next i i at l)
