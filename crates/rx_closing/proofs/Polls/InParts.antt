-- Numbers of nodes in parts, and what was given in parts.
use Rattle.std.proofs.Common.{◌≡◌, ◌≢◌, ◌<◌, ◌+◌, ◌++◌, ℕ, zero, suc, List, [], ◌∷◌, refl, ap, sym, subst, ◌∙◌, inl}
use Rattle.std.proofs.Common.{inr, append_assoc, arith}
use Rattle.rx_law.specs.Worlds.{Datagram}
use Rattle.rx_plan.specs.Stages.{Stage}
use Rattle.rx_rounds.proofs.Clocks.ClocksMove.{AreApart, IsNone, from_on}
use Rattle.rx_between.proofs.Each.EachItem.{In}

-- ---- numbers of nodes

pub apart_parts : (xs ys : List ℕ) → AreApart (xs ++ ys)
    → AreApart xs × AreApart ys × ((j : ℕ) → In j xs → IsNone j ys)
apart_parts [] ys apart = (tt, apart, λ j none. absurd none)
apart_parts (x ∷ xs) ys apart =
    (let rest = apart_parts xs ys apart.1 in (
      (front x xs apart.0, rest.0),
      rest.1,
      λ j there. by j there rest.2,
    ))
  where
    front : (n : ℕ) (ms : List ℕ) → IsNone n (ms ++ ys) → IsNone n ms
    front n [] none = tt
    front n (m ∷ ms) none = (none.0, front n ms none.1)

    back : (n : ℕ) (ms : List ℕ) → IsNone n (ms ++ ys) → IsNone n ys
    back n [] none = none
    back n (m ∷ ms) none = back n ms none.1

    by : (j : ℕ) → In j (x ∷ xs) → ((i : ℕ) → In i xs → IsNone i ys) → IsNone j ys
    by j (inl same) later = subst (λ (i : ℕ). IsNone i ys) (sym same) (back x xs apart.0)
    by j (inr rest) later = later j rest

-- none of a list is another than each of it
pub none_in : (j : ℕ) (ns : List ℕ) (i : ℕ) → IsNone j ns → In i ns → i ≢ j
none_in j [] i none there = absurd there
none_in j (n ∷ ns) i none (inl same) = λ is. none.0 (sym same ∙ is)
none_in j (n ∷ ns) i none (inr rest) = none_in j ns i none.1 rest

pub in_none : (j : ℕ) (ns : List ℕ) → ((i : ℕ) → In i ns → i ≢ j) → IsNone j ns
in_none j [] all = tt
in_none j (n ∷ ns) all = (all n (inl refl), in_none j ns (λ i there. all i (inr there)))

pub from_parts : (n k m : ℕ) → from_on n (k + m) ≡ from_on n k ++ from_on (n + k) m
from_parts n zero m =
    (let count : 0 + m ≡ m = omega arith in let at : n ≡ n + 0 = omega arith in
    ap (from_on n) count ∙ ap (λ (i : ℕ). from_on i m) at)
from_parts n (suc k) m =
    (let count : suc k + m ≡ suc (k + m) = omega arith in
    let at : suc n + k ≡ n + suc k = omega arith in
    ap (from_on n) count ∙ ap (λ (ns : List ℕ). n ∷ ns) (from_parts (suc n) k m)
    ∙ ap (λ (i : ℕ). n ∷ (from_on (suc n) k ++ from_on i m)) at)

-- what was given in two parts
pub then_both : (first second third x y : List Datagram) → second ≡ first ++ x → third ≡ second ++ y
    → third ≡ first ++ (x ++ y)
then_both first second third x y one two = two ∙ ap (λ (ds : List Datagram). ds ++ y) one ∙ append_assoc first x y

-- in four
pub then_four : (first second third last w x y z : List Datagram) → first ≡ w → second ≡ first ++ x
    → third ≡ second ++ y → last ≡ third ++ z → last ≡ w ++ (x ++ (y ++ z))
then_four first second third last w x y z one two three four =
    then_both w second last x (y ++ z) (two ∙ ap (λ (ds : List Datagram). ds ++ x) one)
    (then_both second third last y z three four)

-- where histories alone changed
pub rest_both : (s t u : Stage) → t ≡ record s { history = t.history } → u ≡ record t { history = u.history }
    → u ≡ record s { history = u.history }
rest_both s t u one two = two ∙ ap (λ (v : Stage). record v { history = u.history }) one
