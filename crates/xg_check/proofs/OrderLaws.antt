-- What the search for the nodes that end keeps, step by step.
use Rattle.std.proofs.Common.{◌≡◌, ℕ, zero, suc, ◌+◌, ◌<◌, ◌≤◌, Bool, true, false, List, [], ◌∷◌, ◌++◌, length, set}
use Rattle.std.proofs.Common.{replicate, slice_get, Option, Some, sym, subst, ◌∙◌, arith, ◌⊎◌, inl, inr}
use Rattle.std.specs.List.{AllByRecursion}
use Rattle.std.proofs.lemmas.List.{length-set, length-replicate}
use Rattle.std.proofs.lemmas.Option.{slice_get_within}
use Rattle.xg_check.specs.Graphs.{Step, AreOrdered}
use Rattle.xg_check.specs.Ordering.{IsNew, AreEnded, IsIn, IsOrdering, IsLooked, Waits, AllLooked, AllWait, AllButSome}
use Rattle.xg_check.proofs.SearchLaws.{at_front, at_end, of_pushed, set_here, set_there, same_or_not, not_both, mark_at}
use Rattle.xg_check.proofs.SearchLaws.{count-none}
use Rattle.xg_check.proofs.SearchLaws.{marked_now}
use Rattle.xg_check.proofs.ValueLaws.{item_at}

pub the_same : {A : Type 0} (o : Option A) (x y : A) → o ≡ Some x → o ≡ Some y → x ≡ y
the_same {A} o x y e h = let both : Some x ≡ Some y = sym e ∙ h in cc

-- a node of a list of nodes is there
pub below : (n : ℕ) (xs : List ℕ) → AllByRecursion (λ i. i < n) xs → (p i : ℕ) → slice_get xs p ≡ Some i → i < n
below n [] h p i e = absurd cc
below n (x ∷ xs) h zero i e = let same : x ≡ i = cc in subst (λ (k : ℕ). k < n) same h.0
below n (x ∷ xs) h (suc p) i e = below n xs h.1 p i e

-- ---- a look at a node

module _ (g : List (List ℕ)) (node : ℕ) (e : List Bool) (n : List ℕ) (w : List (List ℕ)) (l : List ℕ) (next : List ℕ)
    (from : ℕ) (o : IsOrdering g e n w l) (there : slice_get g node ≡ Some next)
    (looked : slice_get l node ≡ Some from) (fresh : slice_get e node ≡ Some false) where
  inside : node < length e
  inside = slice_get_within e node false fresh

  next_of : (j : ℕ) (s : Step g node j) → slice_get next s.place ≡ Some j
  next_of j s = subst (λ (xs : List ℕ). slice_get xs s.place ≡ Some j)
      (the_same (slice_get g node) s.next next s.from there) s.to

  -- where none is idle from the place on, all have ended
  all_ended : AreEnded e next from (length next) → (j : ℕ) → Step g node j → slice_get e j ≡ Some true
  all_ended h j s = elim (low_or_high s.place) [
    | inl lt ↦ o.passed node from next there looked s.place j (omega arith) lt (next_of j s)
    | inr le ↦ h s.place j le (slice_get_within next s.place j (next_of j s)) (next_of j s)
  ]
    where
      low_or_high : (p : ℕ) → (p < from) ⊎ (from ≤ p)
      low_or_high p = by_gap p from
        where
          by_gap : (p f : ℕ) → (p < f) ⊎ (f ≤ p)
          by_gap p zero = inr (omega arith)
          by_gap zero (suc f) = inl (omega arith)
          by_gap (suc p) (suc f) = elim (by_gap p f) [ inl h ↦ inl (omega (arith, h)) | inr h ↦ inr (omega (arith, h)) ]

  -- it ends
  pub ends_now : AreEnded e next from (length next) → IsLooked g node e n w (set e node true) (n ++ node ∷ []) w l
  ends_now h =
      let a = marked_now e n node o.listed inside fresh in
      record {
        is = record {
          ended_size = a.size ∙ o.ended_size;
          waiting_size = o.waiting_size;
          looked_size = o.looked_size;
          listed = a.listed;
          behind = behind;
          passed = λ i f xs at li m j low lt x. a.kept j (o.passed i f xs at li m j low lt x);
          waiters = o.waiters;
        };
        kept = a.kept;
        grown = a.grown;
        waits_on = λ i j x. x;
        added = added;
        outcome = inl (set_here e node true inside);
      }
    where
      added : (k i : ℕ) → slice_get (n ++ node ∷ []) k ≡ Some i → (slice_get n k ≡ Some i) ⊎ (length n ≤ k)
      added k i x = elim (of_pushed n node i k x) [
        | inl old ↦ inl old
        | inr new ↦ inr (omega (arith, new.0))
      ]

      behind : (k i j : ℕ) → slice_get (n ++ node ∷ []) k ≡ Some i → Step g i j
          → (m : ℕ) × (m < k) × (slice_get (n ++ node ∷ []) m ≡ Some j)
      behind k i j x s = elim (of_pushed n node i k x) [
        | inl old ↦ let b = o.behind k i j old s in (b.0, b.1, at_front n node j b.0 b.2)
        | inr new ↦
            let t : Step g node j = subst (λ (q : ℕ). Step g q j) new.1 s in
            let p = o.listed.place j (all_ended h j t) in
            (p.0, omega (arith, new.0, slice_get_within n p.0 j p.1), at_front n node j p.0 p.1)
      ]

  -- it waits for the one at the place
  pub waits_now : (at other : ℕ) (ws : List ℕ) → at < length next → AreEnded e next from at
      → slice_get next at ≡ Some other → slice_get e other ≡ Some false → slice_get w other ≡ Some ws
      → node < length g → IsLooked g node e n w e n (set w other (ws ++ node ∷ [])) (set l node at)
  waits_now at other ws short h here idle had small = record {
    is = record {
      ended_size = o.ended_size;
      waiting_size = length-set w other (ws ++ node ∷ []) ∙ o.waiting_size;
      looked_size = length-set l node at ∙ o.looked_size;
      listed = o.listed;
      behind = o.behind;
      passed = passed;
      waiters = waiters;
    };
    kept = λ i x. x;
    grown = λ k i x. x;
    waits_on = waits_on;
    added = λ k i x. inl x;
    outcome = inr (
      other,
      record { next = next; from = there; place = at; to = here },
      idle,
      (ws ++ node ∷ [], length ws, set_here w other (ws ++ node ∷ []) in_w, at_end ws node),
    );
  }
    where
      in_w : other < length w
      in_w = slice_get_within w other ws had

      in_l : node < length l
      in_l = slice_get_within l node from looked

      passed_to : AreEnded e next 0 at
      passed_to m j low lt x = elim (same_side m from) [
        | inl less ↦ o.passed node from next there looked m j low less x
        | inr more ↦ h m j more lt x
      ]
        where
          same_side : (p f : ℕ) → (p < f) ⊎ (f ≤ p)
          same_side p zero = inr (omega arith)
          same_side zero (suc f) = inl (omega arith)
          same_side (suc p) (suc f) = elim (same_side p f) [
            | inl x' ↦ inl (omega (arith, x'))
            | inr x' ↦ inr (omega (arith, x'))
          ]

      passed : (i f : ℕ) (xs : List ℕ) → slice_get g i ≡ Some xs → slice_get (set l node at) i ≡ Some f
          → AreEnded e xs 0 f
      passed i f xs g_at l_at = elim (same_or_not i node) [
        | inl same ↦
            let l_node : slice_get (set l node at) node ≡ Some f =
            subst (λ (q : ℕ). slice_get (set l node at) q ≡ Some f) same l_at in
            let f_is : at ≡ f = the_same (slice_get (set l node at) node) at f (set_here l node at in_l) l_node in
            let g_node : slice_get g node ≡ Some xs = subst (λ (q : ℕ). slice_get g q ≡ Some xs) same g_at in
            let xs_is : next ≡ xs = the_same (slice_get g node) next xs there g_node in
            subst (λ (q : ℕ). AreEnded e xs 0 q) f_is (subst (λ (ys : List ℕ). AreEnded e ys 0 at) xs_is passed_to)
        | inr ne ↦ o.passed i f xs g_at (sym (set_there l node i at ne) ∙ l_at)
      ]

      waiters : (i j : ℕ) → IsIn (set w other (ws ++ node ∷ [])) j i → i < length g
      waiters i j x = elim (same_or_not j other) [
        | inl same ↦
            let here_w : slice_get (set w other (ws ++ node ∷ [])) other ≡ Some x.0 =
            subst (λ (q : ℕ). slice_get (set w other (ws ++ node ∷ [])) q ≡ Some x.0) same x.2 in
            let is : ws ++ node ∷ [] ≡ x.0 =
            the_same (slice_get (set w other (ws ++ node ∷ [])) other) (ws ++ node ∷ []) x.0
            (set_here w other (ws ++ node ∷ []) in_w) here_w in
            from_pushed (of_pushed ws node i x.1 (subst (λ (ys : List ℕ). slice_get ys x.1 ≡ Some i) (sym is) x.3))
        | inr ne ↦ o.waiters i j (x.0, x.1, sym (set_there w other j (ws ++ node ∷ []) ne) ∙ x.2, x.3)
      ]
        where
          from_pushed : (slice_get ws x.1 ≡ Some i) ⊎ ((x.1 ≡ length ws) × (i ≡ node)) → i < length g
          from_pushed (inl old) = o.waiters i other (ws, x.1, had, old)
          from_pushed (inr new) = subst (λ (q : ℕ). q < length g) (sym new.1) small

      waits_on : (i j : ℕ) → IsIn w j i → IsIn (set w other (ws ++ node ∷ [])) j i
      waits_on i j x = elim (same_or_not j other) [
        | inl same ↦
            let had_j : slice_get w other ≡ Some x.0 = subst (λ (q : ℕ). slice_get w q ≡ Some x.0) same x.2 in
            let is : x.0 ≡ ws = the_same (slice_get w other) x.0 ws had_j had in
            let at_ws : slice_get ws x.1 ≡ Some i = subst (λ (ys : List ℕ). slice_get ys x.1 ≡ Some i) is x.3 in
            let now : slice_get (set w other (ws ++ node ∷ [])) j ≡ Some (ws ++ node ∷ []) =
            subst (λ (q : ℕ). slice_get (set w other (ws ++ node ∷ [])) q ≡ Some (ws ++ node ∷ [])) (sym same)
            (set_here w other (ws ++ node ∷ []) in_w) in
            (ws ++ node ∷ [], x.1, now, at_front ws node i x.1 at_ws)
        | inr ne ↦ (x.0, x.1, set_there w other j (ws ++ node ∷ []) ne ∙ x.2, x.3)
      ]

-- ---- the search

module _ (g : List (List ℕ)) (node : ℕ) (e0 e1 : List Bool) (n0 n1 : List ℕ) (w0 w1 : List (List ℕ)) where
  -- a node that waits goes on waiting
  pub waits_kept : (l1 : List ℕ) (r i : ℕ) → IsLooked g node e0 n0 w0 e1 n1 w1 l1 → r ≤ length n0 → Waits g n0 w0 r i
      → Waits g n1 w1 r i
  waits_kept l1 r i look le a = record {
    other = a.other;
    leads = a.leads;
    is_in = look.waits_on i a.other a.is_in;
    later = later;
  }
    where
      later : (k : ℕ) → slice_get n1 k ≡ Some a.other → r ≤ k
      later k x = elim (look.added k a.other x) [
        | inl old ↦ a.later k old
        | inr new ↦ omega (arith, new, le)
      ]

  -- the node that was looked at has ended or waits
  pub looked_waits : (l1 : List ℕ) (r : ℕ) → IsLooked g node e0 n0 w0 e1 n1 w1 l1
      → (slice_get e1 node ≡ Some true) ⊎ Waits g n1 w1 r node
  looked_waits l1 r look = by_outcome look.outcome
    where
      by_outcome : (slice_get e1 node ≡ Some true)
          ⊎ ((j : ℕ) × Step g node j × (slice_get e1 j ≡ Some false) × IsIn w1 j node)
          → (slice_get e1 node ≡ Some true) ⊎ Waits g n1 w1 r node
      by_outcome (inl ended) = inl ended
      by_outcome (inr x) = inr (record {
        other = x.0;
        leads = x.1;
        is_in = x.3;
        later = λ k at. not_both (slice_get e1 x.0) (look.is.listed.there k x.0 at) x.2;
      })

  pub looked_one_more : (l0 l1 : List ℕ) → AllLooked g node e0 n0 w0 l0 → IsLooked g node e0 n0 w0 e1 n1 w1 l1
      → AllLooked g (node + 1) e1 n1 w1 l1
  looked_one_more l0 l1 all look = record { is = look.is; each = each }
    where
      old : (i : ℕ) → (slice_get e0 i ≡ Some true) ⊎ Waits g n0 w0 0 i
          → (slice_get e1 i ≡ Some true) ⊎ Waits g n1 w1 0 i
      old i (inl ended) = inl (look.kept i ended)
      old i (inr waits) = inr (waits_kept l1 0 i look (omega arith) waits)

      each : (i : ℕ) → i < node + 1 → (slice_get e1 i ≡ Some true) ⊎ Waits g n1 w1 0 i
      each i lt = elim (same_or_not i node) [
        | inl same ↦ subst (λ (q : ℕ). (slice_get e1 q ≡ Some true) ⊎ Waits g n1 w1 0 q) (sym same)
            (looked_waits l1 0 look)
        | inr ne ↦ old i (all.each i (omega (arith, lt, ne)))
      ]

-- those that wait for a node that has ended are taken from its list
pub released : (g : List (List ℕ)) (at node : ℕ) (e : List Bool) (n : List ℕ) (w : List (List ℕ)) (l ws : List ℕ)
    → AllWait g at e n w l → slice_get n at ≡ Some node → slice_get w node ≡ Some ws
    → AllButSome g (at + 1) ws e n (set w node []) l
released g at node e n w l ws all here had = record {
  is = record {
    ended_size = all.is.ended_size;
    waiting_size = length-set w node [] ∙ all.is.waiting_size;
    looked_size = all.is.looked_size;
    listed = all.is.listed;
    behind = all.is.behind;
    passed = all.is.passed;
    waiters = waiters;
  };
  each = each;
  small = λ m i h. all.is.waiters i node (ws, m, had, h);
  inside = omega (arith, slice_get_within n at node here);
}
  where
    in_w : node < length w
    in_w = slice_get_within w node ws had

    waiters : (i j : ℕ) → IsIn (set w node []) j i → i < length g
    waiters i j x = elim (same_or_not j node) [
      | inl same ↦
          let now : slice_get (set w node []) node ≡ Some x.0 =
          subst (λ (q : ℕ). slice_get (set w node []) q ≡ Some x.0) same x.2 in
          let is : x.0 ≡ [] = the_same (slice_get (set w node []) node) x.0 [] now (set_here w node [] in_w) in
          let none : slice_get [] x.1 ≡ Some i = subst (λ (ys : List ℕ). slice_get ys x.1 ≡ Some i) is x.3 in
          absurd (nothing x.1 i none)
      | inr ne ↦ all.is.waiters i j (x.0, x.1, sym (set_there w node j [] ne) ∙ x.2, x.3)
    ]
      where
        nothing : (p q : ℕ) → slice_get [] p ≡ Some q → ⊥
        nothing p q e' = absurd cc

    waits : (i : ℕ) → Waits g n w at i
        → ((slice_get e i ≡ Some true) ⊎ Waits g n (set w node []) (at + 1) i) ⊎ ((m : ℕ) × (slice_get ws m ≡ Some i))
    waits i a = elim (same_or_not a.other node) [
      | inl same ↦
          let x = a.is_in in
          let at_node : slice_get w node ≡ Some x.0 = subst (λ (q : ℕ). slice_get w q ≡ Some x.0) same x.2 in
          let is : x.0 ≡ ws = the_same (slice_get w node) x.0 ws at_node had in
          inr (x.1, subst (λ (ys : List ℕ). slice_get ys x.1 ≡ Some i) is x.3)
      | inr ne ↦
          let x = a.is_in in
          inl (inr (record {
            other = a.other;
            leads = a.leads;
            is_in = (x.0, x.1, set_there w node a.other [] ne ∙ x.2, x.3);
            later = λ k h. behind_at a ne k h;
          }))
    ]
      where
        behind_at : (b : Waits g n w at i) → (b.other ≡ node → ⊥) → (k : ℕ) → slice_get n k ≡ Some b.other → at + 1 ≤ k
        behind_at b ne k h = elim (same_or_not k at) [
          | inl same ↦
              let at_k : slice_get n at ≡ Some b.other = subst (λ (q : ℕ). slice_get n q ≡ Some b.other) same h in
              absurd (ne (the_same (slice_get n at) b.other node at_k here))
          | inr differ ↦ omega (arith, differ, b.later k h)
        ]

    each : (i : ℕ) → i < length g
        → ((slice_get e i ≡ Some true) ⊎ Waits g n (set w node []) (at + 1) i) ⊎ ((m : ℕ) × (slice_get ws m ≡ Some i))
    each i lt = elim (all.each i lt) [
      | inl ended ↦ inl (inl ended)
      | inr a ↦ waits i a
    ]

still_inside : (r : ℕ) (n0 n1 : List ℕ) → ((k i : ℕ) → slice_get n0 k ≡ Some i → slice_get n1 k ≡ Some i)
    → r ≤ length n0 → r ≤ length n1
still_inside zero n0 n1 grown le = omega arith
still_inside (suc r) n0 n1 grown le =
    let x = item_at n0 r (omega (arith, le)) in
    omega (arith, slice_get_within n1 r x.0 (grown r x.0 x.1))

module _ (g : List (List ℕ)) (r x : ℕ) (some : List ℕ) (e0 e1 : List Bool) (n0 n1 : List ℕ) (w0 w1 : List (List ℕ))
    (l0 l1 : List ℕ) where
  -- one of them is looked at
  pub one_less : AllButSome g r (x ∷ some) e0 n0 w0 l0 → IsLooked g x e0 n0 w0 e1 n1 w1 l1
      → AllButSome g r some e1 n1 w1 l1
  one_less all look = record {
    is = look.is;
    each = λ i lt. by_each i (all.each i lt);
    small = λ m i h. all.small (suc m) i h;
    inside = still_inside r n0 n1 look.grown all.inside;
  }
    where
      by_each : (i : ℕ)
          → ((slice_get e0 i ≡ Some true) ⊎ Waits g n0 w0 r i) ⊎ ((m : ℕ) × (slice_get (x ∷ some) m ≡ Some i))
          → ((slice_get e1 i ≡ Some true) ⊎ Waits g n1 w1 r i) ⊎ ((m : ℕ) × (slice_get some m ≡ Some i))
      by_each i (inl (inl ended)) = inl (inl (look.kept i ended))
      by_each i (inl (inr a)) = inl (inr (waits_kept g x e0 e1 n0 n1 w0 w1 l1 r i look all.inside a))
      by_each i (inr (zero, h)) =
          let is : x ≡ i = cc in
          inl (subst (λ (q : ℕ). (slice_get e1 q ≡ Some true) ⊎ Waits g n1 w1 r q) is
          (looked_waits g x e0 e1 n0 n1 w0 w1 l1 r look))
      by_each i (inr (suc m, h)) = inr (m, h)

-- none of them is left
pub none_left : (g : List (List ℕ)) (r : ℕ) (e : List Bool) (n : List ℕ) (w : List (List ℕ)) (l : List ℕ)
    → AllButSome g r [] e n w l → AllWait g r e n w l
none_left g r e n w l all = record { is = all.is; each = λ i lt. by_each i (all.each i lt) }
  where
    by_each : (i : ℕ) → ((slice_get e i ≡ Some true) ⊎ Waits g n w r i) ⊎ ((m : ℕ) × (slice_get [] m ≡ Some i))
        → (slice_get e i ≡ Some true) ⊎ Waits g n w r i
    by_each i (inl h) = h
    by_each i (inr h) = let no : slice_get [] h.0 ≡ Some i = h.1 in absurd cc

-- where the lists of all that ended were taken, the nodes are ordered
pub all_released : (g : List (List ℕ)) (r : ℕ) (e : List Bool) (n : List ℕ) (w : List (List ℕ)) (l : List ℕ)
    → AllWait g r e n w l → length n ≤ r → AreOrdered g n e
all_released g r e n w l all le = record {
  size = all.is.ended_size;
  there = all.is.listed.there;
  place = all.is.listed.place;
  behind = all.is.behind;
  stuck = stuck;
}
  where
    goes_on : (i : ℕ) → slice_get e i ≡ Some false → (slice_get e i ≡ Some true) ⊎ Waits g n w r i
        → (j : ℕ) × Step g i j × (slice_get e j ≡ Some false)
    goes_on i idle (inl ended) = not_both (slice_get e i) ended idle
    goes_on i idle (inr a) = (a.other, a.leads, still_open)
      where
        small : a.other < length e
        small = omega (
          arith,
          all.is.ended_size,
          all.is.waiting_size,
          slice_get_within w a.other a.is_in.0 a.is_in.2,
        )

        by_mark : (slice_get e a.other ≡ Some true) ⊎ (slice_get e a.other ≡ Some false)
            → slice_get e a.other ≡ Some false
        by_mark (inl ended) =
            let p = all.is.listed.place a.other ended in
            absurd (omega (arith, a.later p.0 p.1, slice_get_within n p.0 a.other p.1, le))
        by_mark (inr still) = still

        still_open : slice_get e a.other ≡ Some false
        still_open = by_mark (mark_at e a.other small)

    stuck : (i : ℕ) → slice_get e i ≡ Some false → (j : ℕ) × Step g i j × (slice_get e j ≡ Some false)
    stuck i idle = goes_on i idle (all.each i (omega (arith, all.is.ended_size, slice_get_within e i false idle)))

-- ---- the beginning

of_replicate : {A : Type 0} (n : ℕ) (x y : A) (i : ℕ) → slice_get (replicate n x) i ≡ Some y → x ≡ y
of_replicate zero x y i e = absurd cc
of_replicate (suc n) x y zero e = cc
of_replicate (suc n) x y (suc i) e = of_replicate n x y i e

pub nothing_looked : (g : List (List ℕ)) (e : List Bool) (n : List ℕ) (w : List (List ℕ)) (l : List ℕ)
    → IsNew (length g) e n w l → AllLooked g 0 e n w l
nothing_looked g e n w l new =
    let base : AllLooked g 0 (replicate (length g) false) [] (replicate (length g) []) (replicate (length g) 0) =
    begun in
    subst (λ (xs : List Bool). AllLooked g 0 xs n w l) (sym new.ended_is)
    (subst (λ (xs : List ℕ). AllLooked g 0 (replicate (length g) false) xs w l) (sym new.nodes_is)
    (subst (λ (xs : List (List ℕ)). AllLooked g 0 (replicate (length g) false) [] xs l) (sym new.waiting_is)
    (subst (λ (xs : List ℕ). AllLooked g 0 (replicate (length g) false) [] (replicate (length g) []) xs)
    (sym new.looked_is) base)))
  where
    no_mark : (i : ℕ) → slice_get (replicate (length g) false) i ≡ Some true → ⊥
    no_mark i h = let is : false ≡ true = of_replicate (length g) false true i h in absurd cc

    none : (k i : ℕ) → slice_get [] k ≡ Some i → ⊥
    none k i h = absurd cc

    begun : AllLooked g 0 (replicate (length g) false) [] (replicate (length g) []) (replicate (length g) 0)
    begun = record {
      is = record {
        ended_size = length-replicate (length g) false;
        waiting_size = length-replicate (length g) [];
        looked_size = length-replicate (length g) 0;
        listed = record {
          there = λ k i h. absurd (none k i h);
          place = λ i h. absurd (no_mark i h);
          count = count-none (length g);
        };
        behind = λ k i j h s. absurd (none k i h);
        passed = λ i f xs at li m j low lt h.
            let is : 0 ≡ f = of_replicate (length g) 0 f i li in absurd (omega (arith, lt, is));
        waiters = λ i j x.
            let is : [] ≡ x.0 = of_replicate (length g) [] x.0 j x.2 in
            let no : slice_get [] x.1 ≡ Some i = subst (λ (ys : List ℕ). slice_get ys x.1 ≡ Some i) (sym is) x.3 in
            absurd (none x.1 i no);
      };
      each = λ i lt. absurd (omega (arith, lt));
    }
