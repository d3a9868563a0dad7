-- A type of the interface that holds itself is one of the text that leads to itself.
use Rattle.std.proofs.Common.{◌≡◌, ℕ, zero, suc, Bool, true, false, cond, List, [], ◌∷◌, ◌++◌, map, flat_map, filter}
use Rattle.std.proofs.Common.{slice_get, Option, Some, None, is_some, option_map, option_and_then, refl, sym, ap, subst}
use Rattle.std.proofs.Common.{◌∙◌, ◌⊎◌, inl, inr}
use Rattle.std.specs.Str.{bytes_eq}
use Rattle.std.specs.List.{AllByRecursion}
use Rattle.std.proofs.lemmas.Slice.Eq.{bytes_eq-Decides}
use Rattle.std.proofs.lemmas.Bool.{false≢true}
use Rattle.std.proofs.lemmas.Option.{slice_get-map}
use Rattle.xdr_value.specs.declared.ty.Basic.{Basic}
use Rattle.xdr_value.specs.Data.{named, Part as Field, Choice, Form as Shape, alias, enum, struct, choice, Types}
use Rattle.xdr_value.specs.Heads.{form_named, part_kind, arm_kind}
use Rattle.xdr_value.specs.Hollow.{core}
use Rattle.xdr_value.specs.Facts.{part_kinds, form_kinds, OneHolds, TypeHolds, at_once as holds_at_once}
use Rattle.xdr_value.specs.Facts.{through as holds_through}
use Rattle.xg_parse.specs.declared.tree.ConstWord.{ConstWord}
use Rattle.xg_parse.specs.declared.tree.TypeWord.{TypeWord}
use Rattle.xg_parse.specs.declared.tree.TypeWord.TheVariants as types
use Rattle.xg_parse.specs.declared.tree.Form.{Form}
use Rattle.xg_parse.specs.declared.tree.Form.TheVariants as forms
use Rattle.xg_parse.specs.declared.tree.Decl.{Decl}
use Rattle.xg_parse.specs.declared.tree.ArmItem.{ArmItem}
use Rattle.xg_parse.specs.declared.tree.Part.{Part}
use Rattle.xg_parse.specs.declared.tree.Part.TheVariants as parts
use Rattle.xg_parse.specs.declared.tree.Item.{Item}
use Rattle.xg_check.specs.declared.types.Ways.TheVariants as ways
use Rattle.xg_check.specs.Places.{place_of}
use Rattle.xg_check.specs.Bases.{base_named}
use Rattle.xg_check.specs.Constants.{ConstantDef, one_or_none}
use Rattle.xg_check.specs.Graphs.{Step, Leads, at_once, through}
use Rattle.xg_check.specs.Typed.{type_name, name_in, types_in, type_names, word_place, form_word, decl_places}
use Rattle.xg_check.specs.Typed.{held_places, default_places, part_places, type_ways}
use Rattle.xg_check.specs.Meant.{base_kind, word_kind, form_kind, field_meant, held_meant, case_meant, arm_meant}
use Rattle.xg_check.specs.Meant.{default_meant, part_type, types_meant}
use Rattle.xg_check.proofs.KnownLaws.{tests_turn}

-- ---- lists

in_front : {A : Type 0} (xs ys : List A) (q : ℕ) (x : A) → slice_get xs q ≡ Some x → slice_get (xs ++ ys) q ≡ Some x
in_front [] ys q x e = absurd cc
in_front (a ∷ xs) ys zero x e = e
in_front (a ∷ xs) ys (suc q) x e = in_front xs ys q x e

behind : {A : Type 0} (xs ys : List A) (q : ℕ) (x : A) → slice_get ys q ≡ Some x
    → (p : ℕ) × (slice_get (xs ++ ys) p ≡ Some x)
behind [] ys q x e = (q, e)
behind (a ∷ xs) ys q x e = let r = behind xs ys q x e in (suc r.0, r.1)

abbrev pub Among : List ℕ → ℕ → Type 0
Among xs j = (p : ℕ) × (slice_get xs p ≡ Some j)

pub among_front : (xs ys : List ℕ) (j : ℕ) → Among xs j → Among (xs ++ ys) j
among_front xs ys j h = (h.0, in_front xs ys h.0 j h.1)

pub among_rest : (xs ys : List ℕ) (j : ℕ) → Among ys j → Among (xs ++ ys) j
among_rest xs ys j h = behind xs ys h.0 j h.1

among_one : (o : Option ℕ) (j : ℕ) → o ≡ Some j → Among (one_or_none o) j
among_one o j e = subst (λ (p : Option ℕ). Among (one_or_none p) j) (sym e) (0, refl)

-- ---- the types of a text, one by one

entry : (cs : List ConstantDef) (p : Part) → is_some (type_name p) ≡ true
    → (f : Shape) × (part_type cs p ≡ (name_in p, f) ∷ [])
entry cs (parts.Typedef d) h = (alias (form_kind cs d.form), refl)
entry cs (parts.Enum n ms) h = (enum _, refl)
entry cs (parts.Struct n ds) h = (struct _, refl)
entry cs (parts.Union n t tn arms o) h = (choice _ _, refl)
entry cs (parts.Package n) h = absurd (false≢true h)
entry cs (parts.Prefix n) h = absurd (false≢true h)
entry cs (parts.StatIndex w) h = absurd (false≢true h)
entry cs (parts.StartingOpcode w) h = absurd (false≢true h)
entry cs (parts.Const n w) h = absurd (false≢true h)
entry cs (parts.Proc n args k o) h = absurd (false≢true h)

pub record Found (cs : List ConstantDef) (ts : List Part) (s : List ℕ) (f : Shape) : Type 0 where
  pub place : ℕ
  pub part : Part
  pub stands : place_of s (type_names ts) ≡ Some place
  pub at : slice_get ts place ≡ Some part
  pub is : part_type cs part ≡ (s, f) ∷ []

pub found : (cs : List ConstantDef) (ts : List Part) → AllByRecursion (λ p. is_some (type_name p) ≡ true) ts
    → (s : List ℕ) (f : Shape) → form_named s (flat_map (part_type cs) ts) ≡ Some f → Found cs ts s f
found cs [] all s f e = absurd cc
found cs (p ∷ ts) all s f e = by_test (bytes_eq (name_in p) s) (bytes_eq s (name_in p)) refl
    (tests_turn (name_in p) s) refl at_first (λ h. found cs ts all.1 s f h)
  where
    one : (g : Shape) × (part_type cs p ≡ (name_in p, g) ∷ [])
    one = entry cs p all.0

    at_first : cond (bytes_eq (name_in p) s) (Some one.0) (form_named s (flat_map (part_type cs) ts)) ≡ Some f
    at_first = subst (λ (t : Types). form_named s (t ++ flat_map (part_type cs) ts) ≡ Some f) one.1 e

    by_test : (b c : Bool) → bytes_eq (name_in p) s ≡ b → bytes_eq (name_in p) s ≡ bytes_eq s (name_in p)
        → bytes_eq s (name_in p) ≡ c
        → cond (bytes_eq (name_in p) s) (Some one.0) (form_named s (flat_map (part_type cs) ts)) ≡ Some f
        → (form_named s (flat_map (part_type cs) ts) ≡ Some f → Found cs ts s f)
        → Found cs (p ∷ ts) s f
    by_test true true is turn is' h more =
        let name : name_in p ≡ s = (bytes_eq-Decides (name_in p) s).0 is in
        let form : one.0 ≡ f =
        some_same (subst (λ (b : Bool). cond b (Some one.0) (form_named s (flat_map (part_type cs) ts)) ≡ Some f) is h)
        in
        record {
          place = 0;
          part = p;
          stands = ap (λ (b : Bool). cond b (Some 0) (option_map suc (place_of s (type_names ts)))) is';
          at = refl;
          is = one.1 ∙ pair_same name form;
        }
      where
        some_same : Some one.0 ≡ Some f → one.0 ≡ f
        some_same q = cc

        pair_same : name_in p ≡ s → one.0 ≡ f → ◌≡◌ {A = Types} ((name_in p, one.0) ∷ []) ((s, f) ∷ [])
        pair_same q r = ap (λ (n : List ℕ). let x : List ℕ × Shape = (n, one.0) in x ∷ []) q
            ∙ ap (λ (g : Shape). let x : List ℕ × Shape = (s, g) in x ∷ []) r
    by_test true false is turn is' h more = absurd (false≢true (sym is' ∙ (sym turn ∙ is)))
    by_test false true is turn is' h more = absurd (false≢true (sym is ∙ (turn ∙ is')))
    by_test false false is turn is' h more =
        let later = more
        (subst (λ (b : Bool). cond b (Some one.0) (form_named s (flat_map (part_type cs) ts)) ≡ Some f) is h) in
        record {
          place = suc later.place;
          part = later.part;
          stands = ap (λ (b : Bool). cond b (Some 0) (option_map suc (place_of s (type_names ts)))) is'
              ∙ ap (option_map suc) later.stands;
          at = later.at;
          is = later.is;
        }

-- ---- what a type holds

module _ (cs : List ConstantDef) (ts : List Part) (u : List ℕ) (j : ℕ)
    (place : place_of u (type_names ts) ≡ Some j) where
  word_holds : (t : TypeWord) → core (word_kind t) ≡ named u → word_place ts t ≡ Some j
  word_holds (types.Base words) e = by_base (base_named words) e
    where
      by_base : (b : Option Basic) → core (base_kind b) ≡ named u → None ≡ Some j
      by_base None h = absurd cc
      by_base (Some b) h = absurd cc
  word_holds (types.Name n) e =
      let same : n ≡ u = cc in
      subst (λ (m : List ℕ). place_of m (type_names ts) ≡ Some j) (sym same) place

  form_holds : (f : Form) → core (form_kind cs f) ≡ named u
      → option_and_then (word_place ts) (form_word ways.Held f) ≡ Some j
  form_holds (forms.Plain t) e = word_holds t e
  form_holds (forms.Fixed t size) e = word_holds t e
  form_holds (forms.Star t) e = absurd cc
  form_holds (forms.UpTo t most) e = absurd cc
  form_holds (forms.Opaque size) e = absurd cc
  form_holds (forms.OpaqueUpTo most) e = absurd cc
  form_holds (forms.Text most) e = absurd cc

  decl_holds : (d : Decl) → core (form_kind cs d.form) ≡ named u → Among (decl_places ts ways.Held d) j
  decl_holds d e = among_one (option_and_then (word_place ts) (form_word ways.Held d.form)) j (form_holds d.form e)

  fields_hold : (ds : List Decl) → OneHolds (part_kinds (map (field_meant cs) ds)) u
      → Among (flat_map (decl_places ts ways.Held) ds) j
  fields_hold [] h = absurd h
  fields_hold (d ∷ ds) (inl e) =
      among_front (decl_places ts ways.Held d) (flat_map (decl_places ts ways.Held) ds) j (decl_holds d e)
  fields_hold (d ∷ ds) (inr h) =
      among_rest (decl_places ts ways.Held d) (flat_map (decl_places ts ways.Held) ds) j (fields_hold ds h)

  held_holds : (d : Option Decl) → core (part_kind (held_meant cs d)) ≡ named u → Among (held_places ts ways.Held d) j
  held_holds None e = absurd cc
  held_holds (Some d) e = decl_holds d e

  one_of : (xs ys : List Choice) → OneHolds (map arm_kind (xs ++ ys)) u
      → OneHolds (map arm_kind xs) u ⊎ OneHolds (map arm_kind ys) u
  one_of [] ys h = inr h
  one_of (x ∷ xs) ys (inl e) = inl (inl e)
  one_of (x ∷ xs) ys (inr h) = elim (one_of xs ys h) [ inl k ↦ inl (inr k) | inr k ↦ inr k ]

  cases_hold : (held : Option Field) (ws : List ConstWord) → OneHolds (map arm_kind (map (case_meant cs held) ws)) u
      → core (part_kind held) ≡ named u
  cases_hold held [] h = absurd h
  cases_hold held (w ∷ ws) (inl e) = e
  cases_hold held (w ∷ ws) (inr h) = cases_hold held ws h

  arms_hold : (arms : List ArmItem) → OneHolds (map arm_kind (flat_map (arm_meant cs) arms)) u
      → Among (flat_map (λ (a : ArmItem). held_places ts ways.Held a.decl) arms) j
  arms_hold [] h = absurd h
  arms_hold (a ∷ arms) h = elim (one_of (arm_meant cs a) (flat_map (arm_meant cs) arms) h) [
    | inl k ↦ among_front (held_places ts ways.Held a.decl)
        (flat_map (λ (b : ArmItem). held_places ts ways.Held b.decl) arms) j
        (held_holds a.decl (cases_hold (held_meant cs a.decl) a.cases k))
    | inr k ↦ among_rest (held_places ts ways.Held a.decl)
        (flat_map (λ (b : ArmItem). held_places ts ways.Held b.decl) arms) j (arms_hold arms k)
  ]

  default_holds : (o : Option ArmItem) → OneHolds (map arm_kind (default_meant cs o)) u
      → Among (default_places ts ways.Held o) j
  default_holds None h = absurd h
  default_holds (Some a) (inl e) = held_holds a.decl e
  default_holds (Some a) (inr h) = absurd h

  forms_same : (s t : List ℕ) (f g : Shape) → ◌≡◌ {A = Types} ((s, f) ∷ []) ((t, g) ∷ []) → f ≡ g
  forms_same s t f g e =
      let x : List ℕ × Shape = (s, f) in
      let y : List ℕ × Shape = (t, g) in
      let pairs : x ≡ y = cc in
      ap (λ (q : List ℕ × Shape). q.1) pairs

  -- a part names the types that its type holds
  pub part_holds : (p : Part) (s : List ℕ) (f : Shape) → part_type cs p ≡ (s, f) ∷ [] → OneHolds (form_kinds f) u
      → Among (part_places ts ways.Held p) j
  part_holds (parts.Typedef d) s f is h =
      let same : alias (form_kind cs d.form) ≡ f = forms_same d.name s (alias (form_kind cs d.form)) f is in
      let g : OneHolds (form_kinds (alias (form_kind cs d.form))) u =
      subst (λ (x : Shape). OneHolds (form_kinds x) u) (sym same) h in
      alone g
    where
      alone : OneHolds (form_kind cs d.form ∷ []) u → Among (decl_places ts ways.Held d) j
      alone (inl e) = decl_holds d e
      alone (inr k) = absurd k
  part_holds (parts.Enum n ms) s f is h =
      let same = forms_same n s _ f is in absurd (subst (λ (x : Shape). OneHolds (form_kinds x) u) (sym same) h)
  part_holds (parts.Struct n ds) s f is h =
      let same : struct (map (field_meant cs) ds) ≡ f = forms_same n s (struct (map (field_meant cs) ds)) f is in
      fields_hold ds (subst (λ (x : Shape). OneHolds (form_kinds x) u) (sym same) h)
  part_holds (parts.Union n tag tn arms o) s f is h =
      let all = flat_map (arm_meant cs) arms ++ default_meant cs o in
      let same : choice (word_kind tag) all ≡ f = forms_same n s (choice (word_kind tag) all) f is in
      by_kind (subst (λ (x : Shape). OneHolds (form_kinds x) u) (sym same) h)
    where
      by_arms : OneHolds (map arm_kind (flat_map (arm_meant cs) arms)) u
          ⊎ OneHolds (map arm_kind (default_meant cs o)) u
          → Among (flat_map (λ (a : ArmItem). held_places ts ways.Held a.decl) arms ++ default_places ts ways.Held o) j
      by_arms (inl k) =
          among_front (flat_map (λ (a : ArmItem). held_places ts ways.Held a.decl) arms)
          (default_places ts ways.Held o) j
          (arms_hold arms k)
      by_arms (inr k) =
          among_rest (flat_map (λ (a : ArmItem). held_places ts ways.Held a.decl) arms)
          (default_places ts ways.Held o) j
          (default_holds o k)

      by_kind : OneHolds (word_kind tag ∷ map arm_kind (flat_map (arm_meant cs) arms ++ default_meant cs o)) u
          → Among (part_places ts ways.Held (parts.Union n tag tn arms o)) j
      by_kind (inl e) =
          among_front (one_or_none (word_place ts tag))
          (flat_map (λ (a : ArmItem). held_places ts ways.Held a.decl) arms ++ default_places ts ways.Held o) j
          (among_one (word_place ts tag) j (word_holds tag e))
      by_kind (inr k) =
          among_rest (one_or_none (word_place ts tag))
          (flat_map (λ (a : ArmItem). held_places ts ways.Held a.decl) arms ++ default_places ts ways.Held o) j
          (by_arms (one_of (flat_map (arm_meant cs) arms) (default_meant cs o) k))
  part_holds (parts.Package n) s f is h = absurd cc
  part_holds (parts.Prefix n) s f is h = absurd cc
  part_holds (parts.StatIndex w) s f is h = absurd cc
  part_holds (parts.StartingOpcode w) s f is h = absurd cc
  part_holds (parts.Const n w) s f is h = absurd cc
  part_holds (parts.Proc n args k o) s f is h = absurd cc

-- ---- rings

module _ (cs : List ConstantDef) (ts : List Part) (all : AllByRecursion (λ p. is_some (type_name p) ≡ true) ts) where
  one_way : (s u : List ℕ) (f : Shape) (i j : ℕ) → form_named s (flat_map (part_type cs) ts) ≡ Some f
      → OneHolds (form_kinds f) u → place_of s (type_names ts) ≡ Some i → place_of u (type_names ts) ≡ Some j
      → Step (type_ways ts ways.Held) i j
  one_way s u f i j e h at_s at_u =
      let x = found cs ts all s f e in
      let both : Some x.place ≡ Some i = sym x.stands ∙ at_s in
      let same : x.place ≡ i = cc in
      let holds = part_holds cs ts u j at_u x.part s f x.is h in
      record {
        next = part_places ts ways.Held x.part;
        from = subst (λ (k : ℕ). slice_get (type_ways ts ways.Held) k ≡ Some (part_places ts ways.Held x.part)) same
            (slice_get-map (part_places ts ways.Held) ts x.place ∙ ap (option_map (part_places ts ways.Held)) x.at);
        place = holds.0;
        to = holds.1;
      }

  first_form : (s u : List ℕ) → TypeHolds (flat_map (part_type cs) ts) s u
      → (f : Shape) × (form_named s (flat_map (part_type cs) ts) ≡ Some f)
  first_form s u (holds_at_once s' u' f e o) = (f, e)
  first_form s u (holds_through s' v u' f e o rest) = (f, e)

  pub holds_leads : (s u : List ℕ) (i j : ℕ) → TypeHolds (flat_map (part_type cs) ts) s u
      → place_of s (type_names ts) ≡ Some i → place_of u (type_names ts) ≡ Some j
      → Leads (type_ways ts ways.Held) i j
  holds_leads s u i j (holds_at_once s' u' f e o) at_s at_u = at_once i j (one_way s u f i j e o at_s at_u)
  holds_leads s u i j (holds_through s' v u' f e o rest) at_s at_u =
      let next = first_form v u rest in
      let x = found cs ts all v next.0 next.1 in
      through i x.place j (one_way s v f i x.place e o at_s x.stands) (holds_leads v u x.place j rest x.stands at_u)

  pub none_endless : ((i : ℕ) → Leads (type_ways ts ways.Held) i i → ⊥) → (s : List ℕ)
      → TypeHolds (flat_map (part_type cs) ts) s s → ⊥
  none_endless none s h =
      let first = first_form s s h in
      let x = found cs ts all s first.0 first.1 in
      none x.place (holds_leads s s x.place x.place h x.stands x.stands)

-- ---- the types of all items are those of the parts that define types

pub only_types : (items : List Item) → AllByRecursion (λ p. is_some (type_name p) ≡ true) (types_in items)
only_types [] = tt
only_types (i ∷ is) = by_test (is_some (type_name i.part)) refl (only_types is)
  where
    by_test : (b : Bool) → is_some (type_name i.part) ≡ b
        → AllByRecursion (λ p. is_some (type_name p) ≡ true) (types_in is)
        → AllByRecursion (λ p. is_some (type_name p) ≡ true) (cond b (i.part ∷ types_in is) (types_in is))
    by_test true e rest = (e, rest)
    by_test false e rest = rest

pub types_are : (cs : List ConstantDef) (items : List Item)
    → types_meant cs items ≡ flat_map (part_type cs) (types_in items)
types_are cs [] = refl
types_are cs (i ∷ is) = by_part i.part (types_are cs is)
  where
    by_part : (p : Part) → types_meant cs is ≡ flat_map (part_type cs) (types_in is)
        → part_type cs p ++ types_meant cs is
        ≡ flat_map (part_type cs) (filter (λ q. is_some (type_name q)) (p ∷ map (λ (k : Item). k.part) is))
    by_part (parts.Typedef d) rest = ap (λ (t : Types). part_type cs (parts.Typedef d) ++ t) rest
    by_part (parts.Enum n ms) rest = ap (λ (t : Types). part_type cs (parts.Enum n ms) ++ t) rest
    by_part (parts.Struct n ds) rest = ap (λ (t : Types). part_type cs (parts.Struct n ds) ++ t) rest
    by_part (parts.Union n t' tn arms o) rest = ap (λ (t : Types). part_type cs (parts.Union n t' tn arms o) ++ t) rest
    by_part (parts.Package n) rest = rest
    by_part (parts.Prefix n) rest = rest
    by_part (parts.StatIndex w) rest = rest
    by_part (parts.StartingOpcode w) rest = rest
    by_part (parts.Const n w) rest = rest
    by_part (parts.Proc n args k o) rest = rest
