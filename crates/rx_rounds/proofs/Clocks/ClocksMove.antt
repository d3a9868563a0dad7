-- The end of a quiet round of any number of nodes: all clocks move by the least wait, and nothing else changes.
use Rattle.std.proofs.Common.{◌≡◌, ◌≢◌, ◌<◌, ◌≤◌, ◌+◌, ◌&&◌, not, ℕ, zero, suc, Bool, true, false, List, [], ◌∷◌}
use Rattle.std.proofs.Common.{◌++◌, refl, ap, sym, subst, ◌∙◌, inl, inr, ⊎_elim, Option, Some, length, nat_le, arith}
use Rattle.std.proofs.lemmas.Bool.{leb-true, leb-false, ne_eqb}
use Rattle.std.specs.Prelude.{drop}
use Rattle.rx_model.specs.declared.event.Event.{Event}
use Rattle.rx_model.specs.declared.event.Event.TheVariants as events
use Rattle.rx_history.specs.Sides.{moment, side}
use Rattle.rx_events.specs.Events.{IsClocked}
use Rattle.rx_events.specs.Waits.{least_wait}
use Rattle.rx_plan.proofs.Callers.{side_other, side_own}
use Rattle.rx_plan.specs.Network.{below}
use Rattle.rx_plan.specs.Parts.{To, by_test, each, ends}
use Rattle.rx_plan.specs.Rounds.{clients_first, may_move, moves_by, moves_on, settles}
use Rattle.rx_plan.specs.Stages.{Stage, with_event}
use Rattle.rx_rounds.proofs.Clocks.Clocked.{clocked_is}
use Rattle.rx_between.proofs.Each.EachItem.{In, in_behind, in_front}
use Rattle.rx_rounds.proofs.Making.{ends_to, event_to, then_to}
use Rattle.rx_rounds.proofs.Rounded.{Made}
use Rattle.rx_between.proofs.Within.{in_either}

-- ---- numbers of nodes

-- a number is none of these
abbrev pub IsNone : ℕ → List ℕ → Type 0
IsNone k [] = Unit {0}
IsNone k (n ∷ ns) = (n ≢ k) × IsNone k ns

-- no number stands twice
abbrev pub AreApart : List ℕ → Type 0
AreApart [] = Unit {0}
AreApart (n ∷ ns) = IsNone n ns × AreApart ns

-- one of these is another than one that is none of them
pub apart_from : (k n : ℕ) (ns : List ℕ) → In k ns → IsNone n ns → k ≢ n
apart_from k n [] there none = absurd there
apart_from k n (m ∷ ns) (inl same) none = λ is. none.0 (sym same ∙ is)
apart_from k n (m ∷ ns) (inr rest) none = apart_from k n ns rest none.1

pub none_behind : (k n : ℕ) (ns : List ℕ) → IsNone k ns → n ≢ k → IsNone k (ns ++ n ∷ [])
none_behind k n [] none apart = (apart, tt)
none_behind k n (m ∷ ns) none apart = (none.0, none_behind k n ns none.1 apart)

pub apart_behind : (n : ℕ) (ns : List ℕ) → AreApart ns → IsNone n ns → AreApart (ns ++ n ∷ [])
apart_behind n [] apart none = (tt, tt)
apart_behind n (m ∷ ns) apart none =
    (none_behind m n ns apart.0 (λ is. none.0 (sym is)), apart_behind n ns apart.1 none.1)

-- so many numbers from one on
abbrev pub from_on : ℕ → ℕ → List ℕ
from_on n zero = []
from_on n (suc count) = n ∷ from_on (suc n) count

from_last : (n count : ℕ) → from_on n (suc count) ≡ from_on n count ++ (n + count) ∷ []
from_last n zero = (let same : n ≡ n + 0 = omega arith in ap (λ (m : ℕ). m ∷ []) same)
from_last n (suc count) =
    (let same : suc n + count ≡ n + suc count = omega arith in
    ap (λ (ms : List ℕ). n ∷ ms)
    (from_last (suc n) count ∙ ap (λ (m : ℕ). from_on (suc n) count ++ m ∷ []) same))

below_from : (count : ℕ) → below count ≡ from_on 0 count
below_from zero = refl
below_from (suc count) =
    (let same : count ≡ 0 + count = omega arith in
    ap (λ (ms : List ℕ). ms ++ count ∷ []) (below_from count)
    ∙ ap (λ (m : ℕ). from_on 0 count ++ m ∷ []) same ∙ sym (from_last 0 count))

in_from : (n count k : ℕ) → n ≤ k → k < n + count → In k (from_on n count)
in_from n zero k low high = (let no : ⊥ = omega arith in absurd no)
in_from n (suc count) k low high =
    (elim (nat_le k n) as (λ b. nat_le k n ≡ b → In k (from_on n (suc count))) [
      | true ↦ λ here. (let most : k ≤ n = leb-true k n here in let same : k ≡ n = omega arith in inl same)
      | false ↦ λ there. (let more : n < k = leb-false k n there in
          inr (in_from (suc n) count k (omega arith) (omega arith)))
    ]) refl

low_from : (n count k : ℕ) → In k (from_on n count) → k < n + count
low_from n zero k there = absurd there
low_from n (suc count) k (inl same) = omega arith
low_from n (suc count) k (inr rest) = (let low = low_from (suc n) count k rest in omega arith)

none_from : (n count k : ℕ) → k < n → IsNone k (from_on n count)
none_from n zero k low = tt
none_from n (suc count) k low = (λ is. omega arith, none_from (suc n) count k (omega arith))

apart_on : (n count : ℕ) → AreApart (from_on n count)
apart_on n zero = tt
apart_on n (suc count) = (none_from (suc n) count n (omega arith), apart_on (suc n) count)

-- the clients and then the server: each node once
pub order_is : (s : Stage) (count : ℕ) → length s.nodes ≡ suc count → clients_first s ≡ from_on 1 count ++ 0 ∷ []
order_is s count many =
    ap (λ (n : ℕ). drop 1 (below n) ++ 0 ∷ []) many
    ∙ ap (λ (ms : List ℕ). drop 1 ms ++ 0 ∷ []) (below_from (suc count))

pub order_apart : (count : ℕ) → AreApart (from_on 1 count ++ 0 ∷ [])
order_apart count = apart_behind 0 (from_on 1 count) (apart_on 1 count) (none_from 1 count 0 (omega arith))

pub in_order : (count k : ℕ) → k < suc count → In k (from_on 1 count ++ 0 ∷ [])
in_order count zero low = in_behind 0 (from_on 1 count) (0 ∷ []) (inl refl)
in_order count (suc k) low =
    in_front (suc k) (from_on 1 count) (0 ∷ []) (in_from 1 count (suc k) (omega arith) (omega arith))

pub low_order : (count k : ℕ) → In k (from_on 1 count ++ 0 ∷ []) → k < suc count
low_order count k there =
    ⊎_elim
    (λ (client : In k (from_on 1 count)). (let low = low_from 1 count k client in omega arith))
    (λ (server : In k (0 ∷ [])). last server) (in_either k (from_on 1 count) (0 ∷ []) there)
  where
    last : In k (0 ∷ []) → k < suc count
    last (inl same) = omega arith
    last (inr none) = absurd none

-- ---- clocks

-- the clocks of these nodes moved by so much, and nothing else changed
pub record MovedOn (time : ℕ) (ns : List ℕ) (s t : Stage) : Type 0 where
  pub moved : (k : ℕ) → In k ns → side k t.history ≡ events.Clocked (moment k s.history + time) ∷ side k s.history
  pub others : (k : ℕ) → IsNone k ns → side k t.history ≡ side k s.history
  pub moments : (k : ℕ) → IsNone k ns → moment k t.history ≡ moment k s.history
  pub rest : t ≡ record s { history = t.history }

-- the moment of another node stays behind an event
moment_other : (k n : ℕ) (e : Event) (s : Stage) → n ≢ k
    → moment k (with_event n e s).history ≡ moment k s.history
moment_other k n e s apart = rw (ne_eqb n k apart) refl

moves_each : (time : ℕ) (ns : List ℕ) → AreApart ns → (s t : Stage) → Made (each (moves_on time) ns) s t
    → MovedOn time ns s t
moves_each time [] apart s t made =
    (let same : t ≡ s = ends_to s t made.0 made.1 in
    record {
      moved = λ k there. absurd there;
      others = λ k none. ap (λ (u : Stage). side k u.history) same;
      moments = λ k none. ap (λ (u : Stage). moment k u.history) same;
      rest = same ∙ ap (λ (u : Stage). record s { history = u.history }) (sym same);
    })
moves_each time (n ∷ ns) apart s t made =
    (let b = then_to (moves_on time n s) (each (moves_on time) ns) made.0 t made.1 in
    let h = event_to n (IsClocked (moment n s.history + time)) s b.between b.front b.made in
    let e : Event = events.Clocked (moment n s.history + time) in
    let first : b.between ≡ with_event n e s =
    h.then_ ∙ ap (λ (f : Event). with_event n f s) (clocked_is (moment n s.history + time) h.event h.allowed.0) in
    let later_on = moves_each time ns apart.1 b.between t (b.rest, b.goes) in
    let other : (k : ℕ) → n ≢ k → side k b.between.history ≡ side k s.history =
    λ k differ. ap (λ (u : Stage). side k u.history) first ∙ side_other k n e s.history differ in
    let still : (k : ℕ) → n ≢ k → moment k b.between.history ≡ moment k s.history =
    λ k differ. ap (λ (u : Stage). moment k u.history) first ∙ moment_other k n e s differ in
    let own : side n t.history ≡ e ∷ side n s.history =
    later_on.others n apart.0 ∙ ap (λ (u : Stage). side n u.history) first ∙ side_own n e s.history in
    record {
      moved = λ k there. by k there own later_on other still;
      others = λ k none. later_on.others k none.1 ∙ other k none.0;
      moments = λ k none. later_on.moments k none.1 ∙ still k none.0;
      rest = later_on.rest ∙ ap (λ (u : Stage). record u { history = t.history }) first;
    })
  where
    by : {u : Stage} (k : ℕ) → In k (n ∷ ns)
        → side n t.history ≡ events.Clocked (moment n s.history + time) ∷ side n s.history → MovedOn time ns u t
        → ((j : ℕ) → n ≢ j → side j u.history ≡ side j s.history)
        → ((j : ℕ) → n ≢ j → moment j u.history ≡ moment j s.history)
        → side k t.history ≡ events.Clocked (moment k s.history + time) ∷ side k s.history
    by k (inl same) own later_on other still =
        subst (λ (j : ℕ). side j t.history ≡ events.Clocked (moment j s.history + time) ∷ side j s.history) (sym same)
        own
    by k (inr there) own later_on other still =
        let differ : n ≢ k = λ is. apart_from k n ns there apart.0 (sym is) in
        later_on.moved k there
        ∙ (λ i. events.Clocked (still k differ i + time) ∷ other k differ i)

-- all clocks moved by so much, and nothing else changed
pub record MovedAll (time : ℕ) (s t : Stage) : Type 0 where
  pub sides : (k : ℕ) → k < length s.nodes
      → side k t.history ≡ events.Clocked (moment k s.history + time) ∷ side k s.history
  pub rest : t ≡ record s { history = t.history }

-- so a quiet round ends where the least wait is a time
pub settles_all : (count time : ℕ) (s t : Stage) → length s.nodes ≡ suc count
    → least_wait s.nodes s.history ≡ Some (suc time) → may_move (suc time) s ≡ true → Made (settles true) s t
    → MovedAll (suc time) s t
settles_all count time s t many least may made =
    (let of : moves_by (Some (suc time)) s made.0 (To t) =
    subst (λ (o : Option ℕ). moves_by o s made.0 (To t)) least made.1 in
    let go : each (moves_on (suc time)) (clients_first s) s made.0 (To t) =
    subst (λ (b : Bool). by_test b (each (moves_on (suc time)) (clients_first s) s) (ends (To s)) made.0 (To t))
    (ap (λ (b : Bool). not b && may_move (suc time) s) (ne_eqb (suc time) 0 (λ (e : suc time ≡ 0). omega arith))
    ∙ may) of in
    let all : each (moves_on (suc time)) (from_on 1 count ++ 0 ∷ []) s made.0 (To t) =
    subst (λ (ns : List ℕ). each (moves_on (suc time)) ns s made.0 (To t)) (order_is s count many) go in
    let moved = moves_each (suc time) (from_on 1 count ++ 0 ∷ []) (order_apart count) s t (made.0, all) in
    record {
      sides = λ k low. moved.moved k (in_order count k (subst (λ (n : ℕ). k < n) many low));
      rest = moved.rest;
    })
