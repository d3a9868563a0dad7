-- Each type leads to types of the text.
use Rattle.std.proofs.Common.{◌≡◌, ℕ, ◌<◌, List, [], ◌∷◌, ◌++◌, length, map, Option, Some, None, option_and_then, refl}
use Rattle.std.proofs.Common.{sym, subst, arith}
use Rattle.std.specs.List.{AllByRecursion}
use Rattle.std.proofs.lemmas.List.{length-map}
use Rattle.xg_parse.specs.declared.tree.TypeWord.{TypeWord}
use Rattle.xg_parse.specs.declared.tree.TypeWord.TheVariants as types
use Rattle.xg_parse.specs.declared.tree.Decl.{Decl}
use Rattle.xg_parse.specs.declared.tree.ArmItem.{ArmItem}
use Rattle.xg_parse.specs.declared.tree.Part.{Part}
use Rattle.xg_parse.specs.declared.tree.Part.TheVariants as parts
use Rattle.xg_check.specs.declared.types.Ways.{Ways}
use Rattle.xg_check.specs.Constants.{one_or_none}
use Rattle.xg_check.specs.Typed.{name_in, type_names, word_place, form_word, decl_places, decls_places, held_places}
use Rattle.xg_check.specs.Typed.{arms_places, default_places, part_places, type_ways}
use Rattle.xg_check.specs.Graphs.{IsGraph}
use Rattle.xg_check.proofs.RingLaws.{place_inside}

abbrev Below : ℕ → List ℕ → Type 0
Below n xs = AllByRecursion (λ i. i < n) xs

both : (n : ℕ) (xs ys : List ℕ) → Below n xs → Below n ys → Below n (xs ++ ys)
both n [] ys h k = k
both n (x ∷ xs) ys h k = (h.0, both n xs ys h.1 k)

pub word_inside : (ts : List Part) (t : TypeWord) (i : ℕ) → word_place ts t ≡ Some i → i < length ts
word_inside ts (types.Base words) i e = absurd cc
word_inside ts (types.Name name) i e =
    omega (arith, place_inside name (type_names ts) i e, length-map ts name_in)

one_inside : (n : ℕ) (o : Option ℕ) → ((i : ℕ) → o ≡ Some i → i < n) → Below n (one_or_none o)
one_inside n None h = tt
one_inside n (Some i) h = (h i refl, tt)

module _ (ts : List Part) (w : Ways) where
  word_below : (o : Option TypeWord) → Below (length ts) (one_or_none (option_and_then (word_place ts) o))
  word_below None = tt
  word_below (Some t) = one_inside (length ts) (word_place ts t) (λ i e. word_inside ts t i e)

  decl_below : (d : Decl) → Below (length ts) (decl_places ts w d)
  decl_below d = word_below (form_word w d.form)

  decls_below : (ds : List Decl) → Below (length ts) (decls_places ts w ds)
  decls_below [] = tt
  decls_below (d ∷ ds) = both (length ts) (decl_places ts w d) (decls_places ts w ds) (decl_below d) (decls_below ds)

  held_below : (o : Option Decl) → Below (length ts) (held_places ts w o)
  held_below None = tt
  held_below (Some d) = decl_below d

  arms_below : (arms : List ArmItem) → Below (length ts) (arms_places ts w arms)
  arms_below [] = tt
  arms_below (a ∷ arms) =
      both (length ts) (held_places ts w a.decl) (arms_places ts w arms) (held_below a.decl) (arms_below arms)

  default_below : (o : Option ArmItem) → Below (length ts) (default_places ts w o)
  default_below None = tt
  default_below (Some a) = held_below a.decl

  part_below : (p : Part) → Below (length ts) (part_places ts w p)
  part_below (parts.Typedef decl) = decl_below decl
  part_below (parts.Enum name members) = tt
  part_below (parts.Struct name fields) = decls_below fields
  part_below (parts.Union name tag tag_name arms otherwise) =
      both (length ts) (one_or_none (word_place ts tag)) (arms_places ts w arms ++ default_places ts w otherwise)
      (one_inside (length ts) (word_place ts tag) (λ i e. word_inside ts tag i e))
      (both (length ts) (arms_places ts w arms) (default_places ts w otherwise) (arms_below arms)
      (default_below otherwise))
  part_below (parts.Package name) = tt
  part_below (parts.Prefix name) = tt
  part_below (parts.StatIndex number) = tt
  part_below (parts.StartingOpcode number) = tt
  part_below (parts.Const name value) = tt
  part_below (parts.Proc name args kind opcode) = tt

  parts_below : (ps : List Part) → AllByRecursion (λ next. Below (length ts) next) (map (part_places ts w) ps)
  parts_below [] = tt
  parts_below (p ∷ ps) = (part_below p, parts_below ps)

  -- where each type leads
  pub ways_inside : IsGraph (type_ways ts w)
  ways_inside = subst (λ n. AllByRecursion (λ next. Below n next) (type_ways ts w))
      (sym (length-map ts (part_places ts w))) (parts_below ts)

pub graph_made : (ts : List Part) (w : Ways) (g : List (List ℕ)) → g ≡ type_ways ts w → IsGraph g
graph_made ts w g e = subst (λ h. IsGraph h) (sym e) (ways_inside ts w)
