-- Where the names of an interface lead, and what it keeps of them. Public clauses cite this module.
use Rattle.std.specs.Prelude.{◌≡◌, ℕ, zero, suc, List, [], ◌∷◌, Option, Some, None, Bool, true, false, ◌&&◌}
use Rattle.std.specs.Prelude.{option_map, slice_get, string_bytes}
use Rattle.std.specs.Str.{bytes_eq}
use Rattle.xdr_value.specs.Data.{Kind, basic, array, array_up_to, maybe, named, Form, alias, enum, struct, choice}
use Rattle.xdr_value.specs.Data.{Types}
use Rattle.xdr_value.specs.Heads.{form_named}
use Rattle.xdr_value.specs.declared.def.Def.{Def}
use Rattle.xdr_value.specs.declared.def.Link.{Link}

-- the name of the definition at the place
abbrev pub name_at : ℕ → Types → Option (List ℕ)
name_at n t = option_map (λ (d : List ℕ × Form). d.0) (slice_get t n)

-- the name's definition stands at the place, or there is none
abbrev pub StandsAt : Types → List ℕ → Option ℕ → Type 0
StandsAt t s None = form_named s t ≡ None
StandsAt t s (Some n) = name_at n t ≡ Some s

-- what is found of the name that the type is, or nothing where it is no name
abbrev pub through_kind : (List ℕ → Option (List ℕ)) → Kind → Option (List ℕ)
through_kind go (basic b) = None
through_kind go (array k n) = None
through_kind go (array_up_to k n) = None
through_kind go (maybe k) = None
through_kind go (named s) = go s

-- what is found of the name that the form is an alias of
abbrev pub through_alias : (List ℕ → Option (List ℕ)) → Option Form → Option (List ℕ)
through_alias go None = None
through_alias go (Some (alias k)) = through_kind go k
through_alias go (Some (enum ms)) = None
through_alias go (Some (struct ps)) = None
through_alias go (Some (choice k cs)) = None

-- the name to which so many aliases lead, each of the name of the next
unfoldable pub name_behind : ℕ → Types → List ℕ → Option (List ℕ)
name_behind zero t s = Some s
name_behind (suc n) t s = through_alias (name_behind n t) (form_named s t)

-- there are both names, and they are the same
abbrev pub same_name : Option (List ℕ) → Option (List ℕ) → Bool
same_name None o = false
same_name (Some s) None = false
same_name (Some s) (Some u) = bytes_eq s u

-- as many aliases as the link says lead from the name to that of the definition at its end
abbrev pub link_is : Types → List ℕ → Link → Bool
link_is t s link = same_name (name_behind link.hops t s) (name_at link.end t)

-- each definition's link is so
abbrev pub all_linked : Types → List Def → Bool
all_linked t [] = true
all_linked t (d ∷ ds) = link_is t (string_bytes d.name) d.link && all_linked t ds
