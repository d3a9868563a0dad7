-- Ways the other way round, one by one.
use Rattle.std.proofs.Common.{◌≡◌, ℕ, zero, suc, ◌+◌, ◌<◌, ◌≤◌, List, [], ◌∷◌, ◌++◌, length, set, slice_get}
use Rattle.std.proofs.Common.{Some, sym, ap, subst, ◌∙◌, arith, ◌⊎◌, inl, inr}
use Rattle.std.proofs.lemmas.List.{length-set}
use Rattle.std.proofs.lemmas.Option.{slice_get_within}
use Rattle.std.specs.List.{AllByRecursion}
use Rattle.xg_check.specs.Graphs.{IsGraph, Step, AreReversed}
use Rattle.xg_check.specs.Searching.{AreBack, AreTurned}
use Rattle.xg_check.proofs.SearchLaws.{at_front, at_end, of_pushed, set_here, set_there, same_or_not}
use Rattle.xg_check.proofs.ApartLaws.{all_by}
use Rattle.xg_check.proofs.OrderLaws.{the_same}

pub pushed_back : (lists : List (List ℕ)) (node other : ℕ) (ws : List ℕ) → slice_get lists other ≡ Some ws
    → AreBack lists (set lists other (ws ++ node ∷ [])) node (other ∷ [])
pushed_back lists node other ws had = record {
  size = length-set lists other (ws ++ node ∷ []);
  kept = kept;
  added = added;
  only = only;
}
  where
    inside : other < length lists
    inside = slice_get_within lists other ws had

    here : slice_get (set lists other (ws ++ node ∷ [])) other ≡ Some (ws ++ node ∷ [])
    here = set_here lists other (ws ++ node ∷ []) inside

    kept : (j i : ℕ) → Step lists j i → Step (set lists other (ws ++ node ∷ [])) j i
    kept j i s = elim (same_or_not j other) [
      | inl same ↦
          let at : slice_get lists other ≡ Some s.next =
          subst (λ (k : ℕ). slice_get lists k ≡ Some s.next) same s.from in
          let is : s.next ≡ ws = the_same (slice_get lists other) s.next ws at had in
          let to : slice_get ws s.place ≡ Some i = subst (λ (xs : List ℕ). slice_get xs s.place ≡ Some i) is s.to in
          record {
            next = ws ++ node ∷ [];
            from = subst (λ (k : ℕ). slice_get (set lists other (ws ++ node ∷ [])) k ≡ Some (ws ++ node ∷ []))
                (sym same) here;
            place = s.place;
            to = at_front ws node i s.place to;
          }
      | inr ne ↦ record {
        next = s.next;
        from = set_there lists other j (ws ++ node ∷ []) ne ∙ s.from;
        place = s.place;
        to = s.to;
      }
    ]

    added : (p j : ℕ) → slice_get (other ∷ []) p ≡ Some j → Step (set lists other (ws ++ node ∷ [])) j node
    added zero j h =
        let is : other ≡ j = cc in
        record {
          next = ws ++ node ∷ [];
          from = subst (λ (k : ℕ). slice_get (set lists other (ws ++ node ∷ [])) k ≡ Some (ws ++ node ∷ [])) is here;
          place = length ws;
          to = at_end ws node;
        }
    added (suc p) j h = absurd cc

    of_next : (j i p : ℕ) → j ≡ other → slice_get (ws ++ node ∷ []) p ≡ Some i
        → Step lists j i ⊎ ((i ≡ node) × ((q : ℕ) × (slice_get (other ∷ []) q ≡ Some j)))
    of_next j i p same h = elim (of_pushed ws node i p h) [
      | inl old ↦ inl (record {
        next = ws;
        from = subst (λ (k : ℕ). slice_get lists k ≡ Some ws) (sym same) had;
        place = p;
        to = old;
      })
      | inr new ↦ inr (new.1, (0, ap Some (sym same)))
    ]

    only : (j i : ℕ) → Step (set lists other (ws ++ node ∷ [])) j i
        → Step lists j i ⊎ ((i ≡ node) × ((q : ℕ) × (slice_get (other ∷ []) q ≡ Some j)))
    only j i s = elim (same_or_not j other) [
      | inl same ↦
          let at : slice_get (set lists other (ws ++ node ∷ [])) other ≡ Some s.next =
          subst (λ (k : ℕ). slice_get (set lists other (ws ++ node ∷ [])) k ≡ Some s.next) same s.from in
          let is : s.next ≡ ws ++ node ∷ [] =
          the_same (slice_get (set lists other (ws ++ node ∷ [])) other) s.next (ws ++ node ∷ []) at here in
          of_next j i s.place same (subst (λ (xs : List ℕ). slice_get xs s.place ≡ Some i) is s.to)
      | inr ne ↦ inl (record {
        next = s.next;
        from = sym (set_there lists other j (ws ++ node ∷ []) ne) ∙ s.from;
        place = s.place;
        to = s.to;
      })
    ]

pub back_more : (l0 l1 l2 : List (List ℕ)) (node : ℕ) (xs : List ℕ) (x : ℕ) → AreBack l0 l1 node xs
    → AreBack l1 l2 node (x ∷ []) → AreBack l0 l2 node (xs ++ x ∷ [])
back_more l0 l1 l2 node xs x a b = record {
  size = b.size ∙ a.size;
  kept = λ j i s. b.kept j i (a.kept j i s);
  added = added;
  only = only;
}
  where
    added : (p j : ℕ) → slice_get (xs ++ x ∷ []) p ≡ Some j → Step l2 j node
    added p j h = elim (of_pushed xs x j p h) [
      | inl old ↦ b.kept j node (a.added p j old)
      | inr new ↦ b.added 0 j (ap Some (sym new.1))
    ]

    was : (j i : ℕ) → Step l1 j i
        → Step l0 j i ⊎ ((i ≡ node) × ((p : ℕ) × (slice_get (xs ++ x ∷ []) p ≡ Some j)))
    was j i s = elim (a.only j i s) [
      | inl old ↦ inl old
      | inr new ↦ inr (new.0, (new.1.0, at_front xs x j new.1.0 new.1.1))
    ]

    last : (j p : ℕ) → slice_get (x ∷ []) p ≡ Some j → (q : ℕ) × (slice_get (xs ++ x ∷ []) q ≡ Some j)
    last j zero h = let is : x ≡ j = cc in
        (length xs, subst (λ (k : ℕ). slice_get (xs ++ x ∷ []) (length xs) ≡ Some k) is (at_end xs x))
    last j (suc p) h = absurd cc

    only : (j i : ℕ) → Step l2 j i
        → Step l0 j i ⊎ ((i ≡ node) × ((p : ℕ) × (slice_get (xs ++ x ∷ []) p ≡ Some j)))
    only j i s = elim (b.only j i s) [
      | inl old ↦ was j i old
      | inr new ↦ inr (new.0, last j new.1.0 new.1.1)
    ]

pub all_turned : (g back : List (List ℕ)) (seen : ℕ) → AreTurned g back seen → length g ≤ seen → AreReversed g back
all_turned g back seen t le = record {
  size = t.size;
  turned = λ i j s. t.turned i j (omega (arith, slice_get_within g i s.next s.from, le)) s;
  turned_back = t.turned_back;
}

-- ways that were turned lead to nodes that are there
pub turned_graph : (g back : List (List ℕ)) (seen : ℕ) → AreTurned g back seen → IsGraph back
turned_graph g back seen t =
    all_by (λ (next : List ℕ). AllByRecursion (λ i. i < length back) next) back
    (λ j next at. all_by (λ i. i < length back) next (λ p i h. inside j next p i at h))
  where
    inside : (j : ℕ) (next : List ℕ) (p i : ℕ) → slice_get back j ≡ Some next → slice_get next p ≡ Some i
        → i < length back
    inside j next p i at h =
        let s = t.turned_back i j (record { next = next; from = at; place = p; to = h }) in
        omega (arith, slice_get_within g i s.next s.from, t.size)
