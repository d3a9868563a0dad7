-- What is found of a type from those that it holds: whether it takes no bytes, how many it has at least, and its tag.
use Rattle.std.proofs.Common.{◌≡◌, ℕ, suc, ◌+◌, ◌<◌, Bool, ◌&&◌, ◌||◌, max, List, [], ◌∷◌, ◌++◌, length}
use Rattle.std.proofs.Common.{slice_get, Option, Some, None, option_map, option_and_then, refl, ap, subst, ◌∙◌, arith}
use Rattle.std.specs.List.{AllByRecursion}
use Rattle.std.proofs.lemmas.Option.{slice_get-map, slice_get_within}
use Rattle.std.proofs.lemmas.List.{length-map}
use Rattle.xg_parse.specs.declared.tree.TypeWord.{TypeWord}
use Rattle.xg_parse.specs.declared.tree.TypeWord.TheVariants as types
use Rattle.xg_parse.specs.declared.tree.Form.{Form}
use Rattle.xg_parse.specs.declared.tree.Form.TheVariants as forms
use Rattle.xg_parse.specs.declared.tree.Decl.{Decl}
use Rattle.xg_parse.specs.declared.tree.ArmItem.{ArmItem}
use Rattle.xg_parse.specs.declared.tree.Part.{Part}
use Rattle.xg_parse.specs.declared.tree.Part.TheVariants as parts
use Rattle.xg_check.specs.declared.types.Ways.TheVariants as ways
use Rattle.xg_check.specs.declared.tags.Tag.{Tag}
use Rattle.xg_check.specs.Constants.{ConstantDef, size_of, one_or_none}
use Rattle.xg_check.specs.Typed.{word_place, form_word, decl_places, decls_places, held_places, arms_places}
use Rattle.xg_check.specs.Typed.{default_places, part_places, type_ways}
use Rattle.xg_check.specs.Graphs.{Step, Ends}
use Rattle.xg_check.specs.Encodings.{place_hollow, is_zero, form_hollow, decls_hollow, part_hollow, optional_hollow}
use Rattle.xg_check.specs.Encodings.{hollow_within, hollow_at, array_bytes, both, form_bytes, decls_bytes, struct_bytes}
use Rattle.xg_check.specs.Encodings.{held_bytes, default_bytes, arms_bytes, part_bytes, word_bytes, bytes_within}
use Rattle.xg_check.specs.Encodings.{bytes_at}
use Rattle.xg_check.specs.Tags.{place_tag, word_tag, form_tag, part_tag, tag_within, tag_at}
use Rattle.xg_check.proofs.EndlessLaws.{Among, among_front, among_rest}
use Rattle.xg_check.proofs.WayLaws.{ways_inside}
use Rattle.xg_check.proofs.FuelLaws.{settled}
use Rattle.xg_check.proofs.OrderLaws.{the_same}
use Rattle.xg_check.proofs.GraphLaws.{all_at}

-- ---- ways

pub step_of : (ts : List Part) (i : ℕ) (p : Part) → slice_get ts i ≡ Some p → (j : ℕ)
    → Among (part_places ts ways.Held p) j
    → Step (type_ways ts ways.Held) i j
step_of ts i p at j a = record {
  next = part_places ts ways.Held p;
  from = slice_get-map (part_places ts ways.Held) ts i ∙ ap (option_map (part_places ts ways.Held)) at;
  place = a.0;
  to = a.1;
}

pub of_step : (ts : List Part) (i : ℕ) (p : Part) → slice_get ts i ≡ Some p → (j : ℕ)
    → Step (type_ways ts ways.Held) i j
    → Among (part_places ts ways.Held p) j
of_step ts i p at j s = (s.place, subst (λ (xs : List ℕ). slice_get xs s.place ≡ Some j) is s.to)
  where
    is : s.next ≡ part_places ts ways.Held p
    is = the_same (slice_get (type_ways ts ways.Held) i) s.next (part_places ts ways.Held p) s.from
        (slice_get-map (part_places ts ways.Held) ts i ∙ ap (option_map (part_places ts ways.Held)) at)

pub inside : (ts : List Part) (i j : ℕ) → Step (type_ways ts ways.Held) i j → j < length (type_ways ts ways.Held)
inside ts i j s =
    let next = all_at (λ (xs : List ℕ). AllByRecursion (λ k. k < length (type_ways ts ways.Held)) xs)
    (type_ways ts ways.Held) i s.next (ways_inside ts ways.Held) s.from in
    all_at (λ (k : ℕ). k < length (type_ways ts ways.Held)) s.next s.place j next s.to

pub same_size : (ts : List Part) → length (type_ways ts ways.Held) ≡ length ts
same_size ts = length-map ts (part_places ts ways.Held)

-- ---- types that take no bytes

module _ (ts : List Part) (cs : List ConstantDef) (f h : ℕ → Bool) where
  word_hollow : (t : TypeWord) → ((j : ℕ) → Among (one_or_none (word_place ts t)) j → f j ≡ h j)
      → place_hollow f (word_place ts t) ≡ place_hollow h (word_place ts t)
  word_hollow t same = by_place (word_place ts t) same
    where
      by_place : (o : Option ℕ) → ((j : ℕ) → Among (one_or_none o) j → f j ≡ h j) → place_hollow f o ≡ place_hollow h o
      by_place None k = refl
      by_place (Some i) k = k i (0, refl)

  form_hollow_same : (form : Form)
      → ((j : ℕ) → Among (one_or_none (option_and_then (word_place ts) (form_word ways.Held form))) j → f j ≡ h j)
      → form_hollow (λ t. place_hollow f (word_place ts t)) cs form
      ≡ form_hollow (λ t. place_hollow h (word_place ts t)) cs form
  form_hollow_same (forms.Plain t) same = word_hollow t same
  form_hollow_same (forms.Star t) same = refl
  form_hollow_same (forms.Fixed t size) same = ap (λ (b : Bool). is_zero (size_of cs size) || b) (word_hollow t same)
  form_hollow_same (forms.UpTo t most) same = refl
  form_hollow_same (forms.Opaque size) same = refl
  form_hollow_same (forms.OpaqueUpTo most) same = refl
  form_hollow_same (forms.Text most) same = refl

  decls_hollow_same : (ds : List Decl) → ((j : ℕ) → Among (decls_places ts ways.Held ds) j → f j ≡ h j)
      → decls_hollow (λ t. place_hollow f (word_place ts t)) cs ds
      ≡ decls_hollow (λ t. place_hollow h (word_place ts t)) cs ds
  decls_hollow_same [] same = refl
  decls_hollow_same (d ∷ ds) same =
      ap (λ (b : Bool). b && decls_hollow (λ t. place_hollow f (word_place ts t)) cs ds)
      (form_hollow_same d.form
      (λ j a. same j (among_front (decl_places ts ways.Held d) (decls_places ts ways.Held ds) j a)))
      ∙ ap (λ (b : Bool). form_hollow (λ t. place_hollow h (word_place ts t)) cs d.form && b)
      (decls_hollow_same ds
      (λ j a. same j (among_rest (decl_places ts ways.Held d) (decls_places ts ways.Held ds) j a)))

  pub part_hollow_same : (p : Part) → ((j : ℕ) → Among (part_places ts ways.Held p) j → f j ≡ h j)
      → part_hollow (λ t. place_hollow f (word_place ts t)) cs p
      ≡ part_hollow (λ t. place_hollow h (word_place ts t)) cs p
  part_hollow_same (parts.Typedef decl) same = form_hollow_same decl.form same
  part_hollow_same (parts.Struct name fields) same = decls_hollow_same fields same
  part_hollow_same (parts.Enum name members) same = refl
  part_hollow_same (parts.Union name tag tag_name arms otherwise) same = refl
  part_hollow_same (parts.Package name) same = refl
  part_hollow_same (parts.Prefix name) same = refl
  part_hollow_same (parts.StatIndex number) same = refl
  part_hollow_same (parts.StartingOpcode number) same = refl
  part_hollow_same (parts.Const name value) same = refl
  part_hollow_same (parts.Proc name args kind opcode) same = refl

module _ (ts : List Part) (cs : List ConstantDef) where
  hollow_depends : (n m i : ℕ)
      → ((j : ℕ) → Step (type_ways ts ways.Held) i j → hollow_within n ts cs j ≡ hollow_within m ts cs j)
      → hollow_within (suc n) ts cs i ≡ hollow_within (suc m) ts cs i
  unfolding hollow_within
  hollow_depends n m i same = by_read (slice_get ts i) refl
    where
      by_read : (o : Option Part) → slice_get ts i ≡ o
          → optional_hollow (λ t. place_hollow (hollow_within n ts cs) (word_place ts t)) cs o
          ≡ optional_hollow (λ t. place_hollow (hollow_within m ts cs) (word_place ts t)) cs o
      by_read None at = refl
      by_read (Some p) at = part_hollow_same ts cs (hollow_within n ts cs) (hollow_within m ts cs) p
          (λ j a. same j (step_of ts i p at j a))

  hollow_settles : (i : ℕ) → i < length ts → Ends (type_ways ts ways.Held) i
      → hollow_within (length ts) ts cs i ≡ hollow_within (suc (length ts)) ts cs i
  hollow_settles i lt end = subst (λ (n : ℕ). hollow_within n ts cs i ≡ hollow_within (suc n) ts cs i) (same_size ts)
      (settled (type_ways ts ways.Held) (inside ts) (λ n k. hollow_within n ts cs k) hollow_depends i
      (omega (arith, lt, same_size ts)) end)

  pub hollow_step : (i : ℕ) (p : Part) → slice_get ts i ≡ Some p → Ends (type_ways ts ways.Held) i
      → hollow_at ts cs i ≡ part_hollow (λ t. place_hollow (hollow_at ts cs) (word_place ts t)) cs p
  unfolding hollow_at hollow_within
  hollow_step i p at end = hollow_settles i (slice_get_within ts i p at) end
      ∙ ap (optional_hollow (λ t. place_hollow (hollow_within (length ts) ts cs) (word_place ts t)) cs) at

-- ---- the bytes of smallest encodings

both_same : (g : ℕ → ℕ → ℕ) (a b c d : Option ℕ) → a ≡ c → b ≡ d → both g a b ≡ both g c d
both_same g a b c d e k = ap (λ (x : Option ℕ). both g x b) e ∙ ap (λ (x : Option ℕ). both g c x) k

module _ (ts : List Part) (cs : List ConstantDef) (f h : ℕ → Option ℕ) where
  word_bytes_same : (t : TypeWord) → ((j : ℕ) → Among (one_or_none (word_place ts t)) j → f j ≡ h j)
      → word_bytes f ts t ≡ word_bytes h ts t
  word_bytes_same (types.Base words) same = refl
  word_bytes_same (types.Name name) same = by_place (word_place ts (types.Name name)) same
    where
      by_place : (o : Option ℕ) → ((j : ℕ) → Among (one_or_none o) j → f j ≡ h j)
          → option_and_then f o ≡ option_and_then h o
      by_place None k = refl
      by_place (Some i) k = k i (0, refl)

  form_bytes_same : (form : Form)
      → ((j : ℕ) → Among (one_or_none (option_and_then (word_place ts) (form_word ways.Held form))) j → f j ≡ h j)
      → form_bytes (word_bytes f ts) cs form ≡ form_bytes (word_bytes h ts) cs form
  form_bytes_same (forms.Plain t) same = word_bytes_same t same
  form_bytes_same (forms.Star t) same = refl
  form_bytes_same (forms.Fixed t size) same =
      ap (λ (x : Option ℕ). both array_bytes (size_of cs size) x) (word_bytes_same t same)
  form_bytes_same (forms.UpTo t most) same = refl
  form_bytes_same (forms.Opaque size) same = refl
  form_bytes_same (forms.OpaqueUpTo most) same = refl
  form_bytes_same (forms.Text most) same = refl

  decls_bytes_same : (ds : List Decl) → ((j : ℕ) → Among (decls_places ts ways.Held ds) j → f j ≡ h j)
      → decls_bytes (word_bytes f ts) cs ds ≡ decls_bytes (word_bytes h ts) cs ds
  decls_bytes_same [] same = refl
  decls_bytes_same (d ∷ ds) same = both_same (λ m n. m + n) _ _ _ _
      (form_bytes_same d.form
      (λ j a. same j (among_front (decl_places ts ways.Held d) (decls_places ts ways.Held ds) j a)))
      (decls_bytes_same ds
      (λ j a. same j (among_rest (decl_places ts ways.Held d) (decls_places ts ways.Held ds) j a)))

  struct_bytes_same : (ds : List Decl) → ((j : ℕ) → Among (decls_places ts ways.Held ds) j → f j ≡ h j)
      → struct_bytes (word_bytes f ts) cs ds ≡ struct_bytes (word_bytes h ts) cs ds
  struct_bytes_same [] same = refl
  struct_bytes_same (d ∷ ds) same = decls_bytes_same (d ∷ ds) same

  held_bytes_same : (o : Option Decl) → ((j : ℕ) → Among (held_places ts ways.Held o) j → f j ≡ h j)
      → held_bytes (word_bytes f ts) cs o ≡ held_bytes (word_bytes h ts) cs o
  held_bytes_same None same = refl
  held_bytes_same (Some d) same = form_bytes_same d.form same

  default_bytes_same : (o : Option ArmItem) → ((j : ℕ) → Among (default_places ts ways.Held o) j → f j ≡ h j)
      → default_bytes (word_bytes f ts) cs o ≡ default_bytes (word_bytes h ts) cs o
  default_bytes_same None same = refl
  default_bytes_same (Some a) same = held_bytes_same a.decl same

  arms_bytes_same : (arms : List ArmItem) → ((j : ℕ) → Among (arms_places ts ways.Held arms) j → f j ≡ h j)
      → arms_bytes (word_bytes f ts) cs arms ≡ arms_bytes (word_bytes h ts) cs arms
  arms_bytes_same [] same = refl
  arms_bytes_same (a ∷ arms) same = both_same max _ _ _ _
      (held_bytes_same a.decl
      (λ j k. same j (among_front (held_places ts ways.Held a.decl) (arms_places ts ways.Held arms) j k)))
      (arms_bytes_same arms
      (λ j k. same j (among_rest (held_places ts ways.Held a.decl) (arms_places ts ways.Held arms) j k)))

  pub part_bytes_same : (p : Part) → ((j : ℕ) → Among (part_places ts ways.Held p) j → f j ≡ h j)
      → part_bytes (word_bytes f ts) cs p ≡ part_bytes (word_bytes h ts) cs p
  part_bytes_same (parts.Typedef decl) same = form_bytes_same decl.form same
  part_bytes_same (parts.Struct name fields) same = struct_bytes_same fields same
  part_bytes_same (parts.Enum name members) same = refl
  part_bytes_same (parts.Union name tag tag_name arms otherwise) same = both_same (λ m n. m + n) _ _ _ _
      (word_bytes_same tag
      (λ j k. same j (among_front (one_or_none (word_place ts tag))
      (arms_places ts ways.Held arms ++ default_places ts ways.Held otherwise) j k)))
      (both_same max _ _ _ _
      (arms_bytes_same arms
      (λ j k. same j (among_rest (one_or_none (word_place ts tag))
      (arms_places ts ways.Held arms ++ default_places ts ways.Held otherwise) j
      (among_front (arms_places ts ways.Held arms) (default_places ts ways.Held otherwise) j k))))
      (default_bytes_same otherwise
      (λ j k. same j (among_rest (one_or_none (word_place ts tag))
      (arms_places ts ways.Held arms ++ default_places ts ways.Held otherwise) j
      (among_rest (arms_places ts ways.Held arms) (default_places ts ways.Held otherwise) j k)))))
  part_bytes_same (parts.Package name) same = refl
  part_bytes_same (parts.Prefix name) same = refl
  part_bytes_same (parts.StatIndex number) same = refl
  part_bytes_same (parts.StartingOpcode number) same = refl
  part_bytes_same (parts.Const name value) same = refl
  part_bytes_same (parts.Proc name args kind opcode) same = refl

module _ (ts : List Part) (cs : List ConstantDef) where
  bytes_depends : (n m i : ℕ)
      → ((j : ℕ) → Step (type_ways ts ways.Held) i j → bytes_within n ts cs j ≡ bytes_within m ts cs j)
      → bytes_within (suc n) ts cs i ≡ bytes_within (suc m) ts cs i
  unfolding bytes_within
  bytes_depends n m i same = by_read (slice_get ts i) refl
    where
      by_read : (o : Option Part) → slice_get ts i ≡ o
          → option_and_then (part_bytes (word_bytes (bytes_within n ts cs) ts) cs) o
          ≡ option_and_then (part_bytes (word_bytes (bytes_within m ts cs) ts) cs) o
      by_read None at = refl
      by_read (Some p) at = part_bytes_same ts cs (bytes_within n ts cs) (bytes_within m ts cs) p
          (λ j a. same j (step_of ts i p at j a))

  bytes_settles : (i : ℕ) → i < length ts → Ends (type_ways ts ways.Held) i
      → bytes_within (length ts) ts cs i ≡ bytes_within (suc (length ts)) ts cs i
  bytes_settles i lt end = subst (λ (n : ℕ). bytes_within n ts cs i ≡ bytes_within (suc n) ts cs i) (same_size ts)
      (settled (type_ways ts ways.Held) (inside ts) (λ n k. bytes_within n ts cs k) bytes_depends i
      (omega (arith, lt, same_size ts)) end)

  pub bytes_step : (i : ℕ) (p : Part) → slice_get ts i ≡ Some p → Ends (type_ways ts ways.Held) i
      → bytes_at ts cs i ≡ part_bytes (word_bytes (bytes_at ts cs) ts) cs p
  unfolding bytes_at bytes_within
  bytes_step i p at end = bytes_settles i (slice_get_within ts i p at) end
      ∙ ap (option_and_then (part_bytes (word_bytes (bytes_within (length ts) ts cs) ts) cs)) at

-- ---- tags

module _ (ts : List Part) (f h : ℕ → Tag) where
  word_tag_same : (t : TypeWord) → ((j : ℕ) → Among (one_or_none (word_place ts t)) j → f j ≡ h j)
      → word_tag f ts t ≡ word_tag h ts t
  word_tag_same (types.Base words) same = refl
  word_tag_same (types.Name name) same = by_place (word_place ts (types.Name name)) same
    where
      by_place : (o : Option ℕ) → ((j : ℕ) → Among (one_or_none o) j → f j ≡ h j) → place_tag f o ≡ place_tag h o
      by_place None k = refl
      by_place (Some i) k = k i (0, refl)

  form_tag_same : (form : Form)
      → ((j : ℕ) → Among (one_or_none (option_and_then (word_place ts) (form_word ways.Held form))) j → f j ≡ h j)
      → form_tag (word_tag f ts) form ≡ form_tag (word_tag h ts) form
  form_tag_same (forms.Plain t) same = word_tag_same t same
  form_tag_same (forms.Star t) same = refl
  form_tag_same (forms.Fixed t size) same = refl
  form_tag_same (forms.UpTo t most) same = refl
  form_tag_same (forms.Opaque size) same = refl
  form_tag_same (forms.OpaqueUpTo most) same = refl
  form_tag_same (forms.Text most) same = refl

  pub part_tag_same : (i : ℕ) (p : Part) → ((j : ℕ) → Among (part_places ts ways.Held p) j → f j ≡ h j)
      → part_tag (word_tag f ts) i (Some p) ≡ part_tag (word_tag h ts) i (Some p)
  part_tag_same i (parts.Typedef decl) same = form_tag_same decl.form same
  part_tag_same i (parts.Struct name fields) same = refl
  part_tag_same i (parts.Enum name members) same = refl
  part_tag_same i (parts.Union name tag tag_name arms otherwise) same = refl
  part_tag_same i (parts.Package name) same = refl
  part_tag_same i (parts.Prefix name) same = refl
  part_tag_same i (parts.StatIndex number) same = refl
  part_tag_same i (parts.StartingOpcode number) same = refl
  part_tag_same i (parts.Const name value) same = refl
  part_tag_same i (parts.Proc name args kind opcode) same = refl

module _ (ts : List Part) where
  tag_depends : (n m i : ℕ)
      → ((j : ℕ) → Step (type_ways ts ways.Held) i j → tag_within n ts j ≡ tag_within m ts j)
      → tag_within (suc n) ts i ≡ tag_within (suc m) ts i
  unfolding tag_within
  tag_depends n m i same = by_read (slice_get ts i) refl
    where
      by_read : (o : Option Part) → slice_get ts i ≡ o
          → part_tag (word_tag (tag_within n ts) ts) i o ≡ part_tag (word_tag (tag_within m ts) ts) i o
      by_read None at = refl
      by_read (Some p) at = part_tag_same ts (tag_within n ts) (tag_within m ts) i p
          (λ j a. same j (step_of ts i p at j a))

  tag_settles : (i : ℕ) → i < length ts → Ends (type_ways ts ways.Held) i
      → tag_within (length ts) ts i ≡ tag_within (suc (length ts)) ts i
  tag_settles i lt end = subst (λ (n : ℕ). tag_within n ts i ≡ tag_within (suc n) ts i) (same_size ts)
      (settled (type_ways ts ways.Held) (inside ts) (λ n k. tag_within n ts k) tag_depends i
      (omega (arith, lt, same_size ts)) end)

  pub tag_step : (i : ℕ) (p : Part) → slice_get ts i ≡ Some p → Ends (type_ways ts ways.Held) i
      → tag_at ts i ≡ part_tag (word_tag (tag_at ts) ts) i (Some p)
  unfolding tag_at tag_within
  tag_step i p at end = tag_settles i (slice_get_within ts i p at) end
      ∙ ap (part_tag (word_tag (tag_within (length ts) ts) ts) i) at
