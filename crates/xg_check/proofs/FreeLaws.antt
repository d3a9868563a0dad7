-- Types that hold no endless one.
use Rattle.std.proofs.Common.{◌≡◌, ℕ, zero, suc, ◌+◌, ◌<◌, ◌≤◌, Bool, true, false, nat_eq, List, [], ◌∷◌, ◌++◌, length}
use Rattle.std.proofs.Common.{map, slice_get, Option, Some, None, option_map, option_and_then, refl, sym, ap, subst}
use Rattle.std.proofs.Common.{◌∙◌, arith, ◌⊎◌, inl, inr}
use Rattle.std.specs.List.{AllByRecursion, IsDistinct}
use Rattle.std.proofs.lemmas.Option.{slice_get_within, slice_get-map}
use Rattle.xg_parse.specs.declared.tree.Form.{Form}
use Rattle.xg_parse.specs.declared.tree.Form.TheVariants as forms
use Rattle.xg_parse.specs.declared.tree.Decl.{Decl}
use Rattle.xg_parse.specs.declared.tree.ArmItem.{ArmItem}
use Rattle.xg_parse.specs.declared.tree.Part.{Part}
use Rattle.xg_parse.specs.declared.tree.Part.TheVariants as parts
use Rattle.xg_check.specs.declared.types.Ways.TheVariants as ways
use Rattle.xg_check.specs.Constants.{one_or_none}
use Rattle.xg_check.specs.Typed.{word_place, form_word, decl_places, decls_places, held_places, arms_places}
use Rattle.xg_check.specs.Typed.{default_places, part_places, type_ways}
use Rattle.xg_check.specs.Graphs.{Step, Leads, at_once, through, Ends, ends, IsReached, start, step, AreReached}
use Rattle.xg_check.specs.Graphs.{AreOrdered, AreReversed}
use Rattle.xg_check.specs.Judged.{IsEndless, HoldsNoEndless}
use Rattle.xg_check.specs.Held.{TypeEnds}
use Rattle.xg_check.specs.Judging.{AreWithoutEnd}
use Rattle.xg_check.proofs.GraphLaws.{no_ring, marked_end, unmarked_goes_on, then_leads}
use Rattle.xg_check.proofs.FuelLaws.{all_on, seen_more, none_left}
use Rattle.xg_check.proofs.SearchLaws.{mark_at, of_pushed, at_front, at_end, same_or_not, not_both}
use Rattle.xg_check.proofs.EndlessLaws.{Among, among_front, among_rest}
use Rattle.xg_check.proofs.HeldLaws.{same_size, inside}

-- ---- where no way from a node comes to a ring, it ends

module _ (g : List (List ℕ)) (inside : (i j : ℕ) → Step g i j → j < length g) where
  ends_within : (n i : ℕ) (seen : List ℕ) → i < length g → (Leads g i i → ⊥)
      → ((j : ℕ) → Leads g i j → Leads g j j → ⊥)
      → AllByRecursion (λ v. v < length g) seen → AllByRecursion (λ v. Leads g v i) seen → IsDistinct nat_eq seen
      → length g ≤ length seen + n → Ends g i
  ends_within zero i seen lt none free all leads differ le =
      absurd (none_left g i seen lt none all leads differ (omega (arith, le)))
  ends_within (suc n) i seen lt none free all leads differ le =
      ends i (λ j s. ends_within n j (i ∷ seen) (inside i j s) (free j (at_once i j s))
      (λ k l. free k (through i j k s l)) (lt, all)
      (at_once i j s, all_on g i j seen s leads) (seen_more g i seen none leads differ) (omega (arith, le)))

  pub free_ends : (i : ℕ) → i < length g → (Leads g i i → ⊥) → ((j : ℕ) → Leads g i j → Leads g j j → ⊥) → Ends g i
  unfolding IsDistinct
  free_ends i lt none free = ends_within (length g) i [] lt none free tt tt tt (omega arith)

-- ---- what is held is named

of_both : (xs ys : List ℕ) (j : ℕ) → Among (xs ++ ys) j → Among xs j ⊎ Among ys j
of_both [] ys j a = inr a
of_both (x ∷ xs) ys j a = by_place a.0 a.1 (λ b. of_both xs ys j b)
  where
    by_place : (p : ℕ) → slice_get (x ∷ (xs ++ ys)) p ≡ Some j
        → (Among (xs ++ ys) j → Among xs j ⊎ Among ys j) → Among (x ∷ xs) j ⊎ Among ys j
    by_place zero e more = inl (0, e)
    by_place (suc p) e more = elim (more (p, e)) [
      | inl h ↦ inl (suc h.0, h.1)
      | inr h ↦ inr h
    ]

both_wider : (xs ys us vs : List ℕ) (j : ℕ) → (Among xs j → Among us j) → (Among ys j → Among vs j)
    → Among (xs ++ ys) j → Among (us ++ vs) j
both_wider xs ys us vs j f h a = elim (of_both xs ys j a) [
  | inl b ↦ among_front us vs j (f b)
  | inr b ↦ among_rest us vs j (h b)
]

nothing : (j : ℕ) → Among [] j → ⊥
nothing j a = let e : slice_get [] a.0 ≡ Some j = a.1 in absurd cc

module _ (ts : List Part) (j : ℕ) where
  form_named : (f : Form) → Among (one_or_none (option_and_then (word_place ts) (form_word ways.Held f))) j
      → Among (one_or_none (option_and_then (word_place ts) (form_word ways.All f))) j
  form_named (forms.Plain t) a = a
  form_named (forms.Star t) a = absurd (nothing j a)
  form_named (forms.Fixed t size) a = a
  form_named (forms.UpTo t most) a = absurd (nothing j a)
  form_named (forms.Opaque size) a = a
  form_named (forms.OpaqueUpTo most) a = a
  form_named (forms.Text most) a = a

  decls_named : (ds : List Decl) → Among (decls_places ts ways.Held ds) j → Among (decls_places ts ways.All ds) j
  decls_named [] a = a
  decls_named (d ∷ ds) a = both_wider (decl_places ts ways.Held d) (decls_places ts ways.Held ds)
      (decl_places ts ways.All d) (decls_places ts ways.All ds) j (form_named d.form) (decls_named ds) a

  held_named : (o : Option Decl) → Among (held_places ts ways.Held o) j → Among (held_places ts ways.All o) j
  held_named None a = a
  held_named (Some d) a = form_named d.form a

  arms_named : (arms : List ArmItem) → Among (arms_places ts ways.Held arms) j → Among (arms_places ts ways.All arms) j
  arms_named [] a = a
  arms_named (x ∷ arms) a = both_wider (held_places ts ways.Held x.decl) (arms_places ts ways.Held arms)
      (held_places ts ways.All x.decl) (arms_places ts ways.All arms) j (held_named x.decl) (arms_named arms) a

  default_named : (o : Option ArmItem) → Among (default_places ts ways.Held o) j
      → Among (default_places ts ways.All o) j
  default_named None a = a
  default_named (Some x) a = held_named x.decl a

  part_named : (p : Part) → Among (part_places ts ways.Held p) j → Among (part_places ts ways.All p) j
  part_named (parts.Typedef d) a = form_named d.form a
  part_named (parts.Enum n ms) a = a
  part_named (parts.Struct n ds) a = decls_named ds a
  part_named (parts.Union n t tn arms o) a = both_wider (one_or_none (word_place ts t))
      (arms_places ts ways.Held arms ++ default_places ts ways.Held o) (one_or_none (word_place ts t))
      (arms_places ts ways.All arms ++ default_places ts ways.All o) j (λ b. b)
      (both_wider (arms_places ts ways.Held arms) (default_places ts ways.Held o)
      (arms_places ts ways.All arms) (default_places ts ways.All o) j (arms_named arms) (default_named o)) a
  part_named (parts.Package n) a = a
  part_named (parts.Prefix n) a = a
  part_named (parts.StatIndex w) a = a
  part_named (parts.StartingOpcode w) a = a
  part_named (parts.Const n w) a = a
  part_named (parts.Proc n args k o) a = a

of_map : {X A : Type 0} (f : X → A) (xs : List X) (i : ℕ) (y : A) → slice_get (map f xs) i ≡ Some y
    → (x : X) × (slice_get xs i ≡ Some x) × (f x ≡ y)
of_map f [] i y e = absurd cc
of_map f (x ∷ xs) zero y e = (x, refl, cc)
of_map f (x ∷ xs) (suc i) y e = of_map f xs i y e

module _ (ts : List Part) where
  step_named : (i j : ℕ) → Step (type_ways ts ways.Held) i j → Step (type_ways ts ways.All) i j
  step_named i j s =
      let p = of_map (part_places ts ways.Held) ts i s.next s.from in
      let held : Among (part_places ts ways.Held p.0) j =
      (s.place, subst (λ (xs : List ℕ). slice_get xs s.place ≡ Some j) (sym p.2) s.to) in
      let named = part_named ts j p.0 held in
      record {
        next = part_places ts ways.All p.0;
        from = slice_get-map (part_places ts ways.All) ts i ∙ ap (option_map (part_places ts ways.All)) p.1;
        place = named.0;
        to = named.1;
      }

  pub leads_named : (i j : ℕ) → Leads (type_ways ts ways.Held) i j → Leads (type_ways ts ways.All) i j
  leads_named i j (at_once a b s) = at_once i j (step_named i j s)
  leads_named i j (through a m b s rest) = through i m j (step_named i m s) (leads_named m j rest)

  -- a type that holds no endless one ends
  pub no_endless_ends : (i : ℕ) → i < length ts → HoldsNoEndless ts (Some i) → TypeEnds ts i
  no_endless_ends i lt h = free_ends (type_ways ts ways.Held) (inside ts) i (omega (arith, lt, same_size ts)) h.0
      (λ j l ring. h.1 j (leads_named i j l) ring)

pub first_inside : (ts : List Part) (i j : ℕ) → Leads (type_ways ts ways.Held) i j → i < length ts
first_inside ts i j (at_once a b s) =
    omega (arith, slice_get_within (type_ways ts ways.Held) i s.next s.from, same_size ts)
first_inside ts i j (through a m b s rest) =
    omega (arith, slice_get_within (type_ways ts ways.Held) i s.next s.from, same_size ts)

-- ---- the nodes that don't end

abbrev pub StartsOpen : List Bool → List ℕ → Type 0
StartsOpen ended starts = (p i : ℕ) → slice_get starts p ≡ Some i → slice_get ended i ≡ Some false

abbrev pub OpenStarts : List Bool → List ℕ → ℕ → Type 0
OpenStarts ended starts n = (i : ℕ) → i < n → slice_get ended i ≡ Some false → (p : ℕ) × (slice_get starts p ≡ Some i)

pub starts_open_more : (ended : List Bool) (starts new : List ℕ) (place : ℕ) → new ≡ starts ++ place ∷ []
    → slice_get ended place ≡ Some false → StartsOpen ended starts → StartsOpen ended new
starts_open_more ended starts new place is here was p i e =
    elim (of_pushed starts place i p (subst (λ (xs : List ℕ). slice_get xs p ≡ Some i) is e)) [
      | inl h ↦ was p i h
      | inr h ↦ subst (λ (q : ℕ). slice_get ended q ≡ Some false) (sym h.1) here
    ]

pub open_starts_more : (ended : List Bool) (starts new : List ℕ) (place : ℕ) → new ≡ starts ++ place ∷ []
    → OpenStarts ended starts place → OpenStarts ended new (place + 1)
open_starts_more ended starts new place is was i lt e = elim (same_or_not i place) [
  | inl same ↦ (
    length starts,
    subst (λ (xs : List ℕ). slice_get xs (length starts) ≡ Some i) (sym is)
        (at_end starts place ∙ ap Some (sym same)),
  )
  | inr ne ↦
      let h = was i (omega (arith, lt, ne)) e in
      (h.0, subst (λ (xs : List ℕ). slice_get xs h.0 ≡ Some i) (sym is) (at_front starts place i h.0 h.1))
]

pub open_starts_same : (ended : List Bool) (starts : List ℕ) (place : ℕ) → slice_get ended place ≡ Some true
    → OpenStarts ended starts place → OpenStarts ended starts (place + 1)
open_starts_same ended starts place here was i lt e = elim (same_or_not i place) [
  | inl same ↦ not_both (slice_get ended place) here (subst (λ (q : ℕ). slice_get ended q ≡ Some false) same e)
  | inr ne ↦ was i (omega (arith, lt, ne)) e
]

pub all_starts : (ended : List Bool) (starts : List ℕ) (n : ℕ) → length ended ≤ n → OpenStarts ended starts n
    → (i : ℕ) → slice_get ended i ≡ Some false → (p : ℕ) × (slice_get starts p ≡ Some i)
all_starts ended starts n le was i e = was i (omega (arith, slice_get_within ended i false e, le)) e

pub starts_small : (ended : List Bool) (starts : List ℕ) (n : ℕ) → length ended ≤ n → StartsOpen ended starts
    → AllByRecursion (λ i. i < n) starts
starts_small ended [] n le h = tt
starts_small ended (x ∷ starts) n le h = (
  omega (arith, slice_get_within ended x false (h 0 x refl), le),
  starts_small ended starts n le (λ p i e. h (suc p) i e),
)

-- ---- marks of types that lead to an endless one

module _ (ts : List Part) (back : List (List ℕ)) (nodes : List ℕ) (ended : List Bool) (starts : List ℕ)
    (marks : List Bool) (o : AreOrdered (type_ways ts ways.Held) nodes ended)
    (turned : AreReversed (type_ways ts ways.All) back)
    (open_only : (p i : ℕ) → slice_get starts p ≡ Some i → slice_get ended i ≡ Some false)
    (all_open : (i : ℕ) → slice_get ended i ≡ Some false → (p : ℕ) × (slice_get starts p ≡ Some i))
    (reached : AreReached back starts marks) where
  -- what leads to a node is reached from it the other way round
  turned_leads : (i j : ℕ) → Leads (type_ways ts ways.All) i j → IsReached back starts j → IsReached back starts i
  turned_leads i j (at_once a b s) r = step j i r (turned.turned i j s)
  turned_leads i j (through a m b s rest) r = step m i (turned_leads m j rest r) (turned.turned i m s)

  -- a node that is endless is a start
  ring_reached : (i : ℕ) → i < length ts → IsEndless ts i → IsReached back starts i
  ring_reached i lt ring = elim (mark_at ended i (omega (arith, lt, o.size, same_size ts))) [
    | inl so ↦ absurd (no_ring (type_ways ts ways.Held) i (marked_end (type_ways ts ways.Held) nodes ended o i so) ring)
    | inr not_so ↦ let p = all_open i not_so in start i p.0 p.1
  ]

  ring_start : (j : ℕ) → IsEndless ts j → IsReached back starts j
  ring_start j ring = ring_reached j (first_inside ts j j ring) ring

  -- what is reached leads to a node that doesn't end, or is one
  open_from : (i : ℕ) → IsReached back starts i
      → (j : ℕ) × (slice_get ended j ≡ Some false) × ((i ≡ j) ⊎ Leads (type_ways ts ways.All) i j)
  open_from i (start i' p e) = (i, open_only p i e, inl refl)
  open_from i (step k i' r s) =
      let h = open_from k r in
      let there : Step (type_ways ts ways.All) i k = turned.turned_back i k s in (
        h.0,
        h.1,
        elim h.2 [
          | inl same ↦ inr (subst (λ (q : ℕ). Leads (type_ways ts ways.All) i q) same (at_once i k there))
          | inr l ↦ inr (through i k h.0 there l)
        ],
      )

  not_free : (i : ℕ) → IsReached back starts i → HoldsNoEndless ts (Some i) → ⊥
  not_free i r h =
      let x = open_from i r in
      let lt : x.0 < length ts =
      omega (arith, slice_get_within ended x.0 false x.1, o.size, same_size ts) in
      let free : HoldsNoEndless ts (Some x.0) = elim x.2 [
        | inl same ↦ subst (λ (q : ℕ). HoldsNoEndless ts (Some q)) same h
        | inr l ↦ (h.1 x.0 l, λ k m ring. h.1 k (then_leads (type_ways ts ways.All) i x.0 k l m) ring)
      ] in
      unmarked_goes_on (type_ways ts ways.Held) nodes ended o x.0 x.1 (no_endless_ends ts x.0 lt free)

  pub without_end_are : length back ≡ length ts → AreWithoutEnd ts marks
  without_end_are size = record {
    size = reached.size ∙ size;
    free = λ i not_so. (
      λ ring. reached.unmarked i not_so (ring_start i ring),
      λ j l ring. reached.unmarked i not_so (turned_leads i j l (ring_start j ring)),
    );
    held = λ i so. not_free i (reached.marked i so);
  }
