-- The package and the prefix: the last counts.
use Rattle.std.proofs.Common.{◌≡◌, ℕ, ◌+◌, ◌<◌, List, length, drop, get_or, Option, Some, None, refl, sym, ap, ◌∙◌}
use Rattle.std.proofs.lemmas.List.{at_drop_more}
use Rattle.xg_parse.specs.declared.tree.Part.{Part}
use Rattle.xg_parse.specs.declared.tree.Part.TheVariants as parts
use Rattle.xg_parse.specs.declared.tree.Item.{Item}
use Rattle.xg_check.specs.Counts.{package_or, prefix_or}
use Rattle.xg_check.specs.Meant.{or_name, part_package, package_in, part_prefix, prefix_in}

-- what is behind, or else what is before
abbrev pub or_before : {A : Type 0} → Option A → Option A → Option A
or_before None before = before
or_before (Some x) before = Some x

before_name : (behind before : Option (List ℕ)) (name : List ℕ)
    → or_before behind (Some name) ≡ or_before (or_name behind name) before
before_name None before name = refl
before_name (Some x) before name = refl

before_package : (p : Part) (behind before : Option (List ℕ))
    → or_before behind (package_or p before) ≡ or_before (part_package p behind) before
before_package (parts.Package n) behind before = before_name behind before n
before_package (parts.Prefix n) behind before = refl
before_package (parts.StatIndex w) behind before = refl
before_package (parts.StartingOpcode w) behind before = refl
before_package (parts.Const n w) behind before = refl
before_package (parts.Typedef d) behind before = refl
before_package (parts.Enum n ms) behind before = refl
before_package (parts.Struct n ds) behind before = refl
before_package (parts.Union n t tn arms o) behind before = refl
before_package (parts.Proc n args k o) behind before = refl

before_prefix : (p : Part) (behind before : Option (List ℕ))
    → or_before behind (prefix_or p before) ≡ or_before (part_prefix p behind) before
before_prefix (parts.Package n) behind before = refl
before_prefix (parts.Prefix n) behind before = before_name behind before n
before_prefix (parts.StatIndex w) behind before = refl
before_prefix (parts.StartingOpcode w) behind before = refl
before_prefix (parts.Const n w) behind before = refl
before_prefix (parts.Typedef d) behind before = refl
before_prefix (parts.Enum n ms) behind before = refl
before_prefix (parts.Struct n ds) behind before = refl
before_prefix (parts.Union n t tn arms o) behind before = refl
before_prefix (parts.Proc n args k o) behind before = refl

pub package_more : (items : List Item) (i : ℕ) (d : Item) (before : Option (List ℕ)) → i < length items
    → or_before (package_in (drop (i + 1) items)) (package_or (get_or items i d).part before)
    ≡ or_before (package_in (drop i items)) before
package_more items i d before lt =
    before_package (get_or items i d).part (package_in (drop (i + 1) items)) before
    ∙ sym (ap (λ (o : Option (List ℕ)). or_before o before) (at_drop_more package_in items i d lt))

pub prefix_more : (items : List Item) (i : ℕ) (d : Item) (before : Option (List ℕ)) → i < length items
    → or_before (prefix_in (drop (i + 1) items)) (prefix_or (get_or items i d).part before)
    ≡ or_before (prefix_in (drop i items)) before
prefix_more items i d before lt =
    before_prefix (get_or items i d).part (prefix_in (drop (i + 1) items)) before
    ∙ sym (ap (λ (o : Option (List ℕ)). or_before o before) (at_drop_more prefix_in items i d lt))
