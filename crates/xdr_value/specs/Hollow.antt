-- Types whose values take no bytes, and how many of them a list may hold. Public clauses cite this module.
use Rattle.std.specs.Prelude.{ℕ, zero, suc, Bool, true, false, ◌&&◌, ◌||◌, ◌==◌, min, List, [], ◌∷◌, length, Option}
use Rattle.std.specs.Prelude.{Some, None, if◌then◌else◌}
use Rattle.xdr_value.specs.declared.ty.Basic.TheVariants as basics
use Rattle.xdr_value.specs.Data.{Kind, basic, array, array_up_to, maybe, named, Part, Form, alias, enum, struct, choice}
use Rattle.xdr_value.specs.Data.{Types}
use Rattle.xdr_value.specs.Heads.{form_named}

-- the type of what fixed arrays hold
abbrev pub core : Kind → Kind
core (basic b) = basic b
core (array k n) = core k
core (array_up_to k n) = array_up_to k n
core (maybe k) = maybe k
core (named s) = named s

-- one of the fixed arrays has no element
abbrev pub has_zero : Kind → Bool
has_zero (basic b) = false
has_zero (array k n) = n == 0 || has_zero k
has_zero (array_up_to k n) = false
has_zero (maybe k) = false
has_zero (named s) = false

-- what no fixed array holds takes no bytes, where held says so of names
abbrev pub core_hollow : (List ℕ → Bool) → Kind → Bool
core_hollow held (basic basics.Int) = false
core_hollow held (basic basics.Uint) = false
core_hollow held (basic basics.Hyper) = false
core_hollow held (basic basics.Uhyper) = false
core_hollow held (basic basics.Short) = false
core_hollow held (basic basics.Ushort) = false
core_hollow held (basic basics.Char) = false
core_hollow held (basic basics.Uchar) = false
core_hollow held (basic basics.Bool) = false
core_hollow held (basic basics.Void) = true
core_hollow held (basic (basics.Opaque n)) = n == 0
core_hollow held (basic (basics.OpaqueUpTo n)) = false
core_hollow held (basic (basics.Text n)) = false
core_hollow held (array k n) = false
core_hollow held (array_up_to k n) = false
core_hollow held (maybe k) = false
core_hollow held (named s) = held s

-- a value of the type takes no bytes, where held says so of names
abbrev pub kind_hollow : (List ℕ → Bool) → Kind → Bool
kind_hollow held k = has_zero k || core_hollow held (core k)

-- no field takes bytes
abbrev pub parts_hollow : (List ℕ → Bool) → List Part → Bool
parts_hollow held [] = true
parts_hollow held (p ∷ ps) = kind_hollow held p.kind && parts_hollow held ps

-- what a name stands for takes no bytes
abbrev pub form_hollow : (List ℕ → Bool) → Option Form → Bool
form_hollow held None = false
form_hollow held (Some (alias k)) = kind_hollow held k
form_hollow held (Some (enum ms)) = false
form_hollow held (Some (struct ps)) = parts_hollow held ps
form_hollow held (Some (choice k cs)) = false

-- where at most n names are followed
unfoldable pub name_hollow : ℕ → Types → List ℕ → Bool
name_hollow zero t s = false
name_hollow (suc n) t s = form_hollow (name_hollow n t) (form_named s t)

-- a value of the type takes no bytes
unfoldable pub is_hollow : Types → Kind → Bool
is_hollow t k = kind_hollow (name_hollow (length t) t) k

-- how many elements that take no bytes a variable array may have
abbrev pub most_hollow : ℕ
most_hollow = 65536

-- how many elements a variable array of at most n has at most
unfoldable pub list_limit : Types → Kind → ℕ → ℕ
list_limit t k n = if is_hollow t k then min n most_hollow else n
