-- Where, read from the front, an item stops the reading: what stands before it is whole. Public clauses cite this
-- module.
use Rattle.std.specs.Prelude.{◌≡◌, ℕ, zero, suc, List, ◌⊎◌, Err}
use Rattle.xdr_value.specs.Data.{Kind, Types}
use Rattle.xdr_value.specs.Heads.{Head, is_basic, is_enum, is_struct, is_union, is_array, is_array_up_to, is_maybe}
use Rattle.xdr_value.specs.Heads.{is_unknown, head_of}
use Rattle.xdr_code.specs.declared.fault.Why.TheVariants as whys
use Rattle.xdr_code.specs.declared.fault.Fault.{Fault}
use Rattle.xdr_code.specs.declared.fault.Fault.TheVariants.{Short}
use Rattle.xdr_code.specs.Reading.{basic_at, limited_at, enum_at, tag_at}
use Rattle.xdr_value.specs.Hollow.{list_limit}
use Rattle.xdr_code.specs.Opens.{InHead}

-- the item at the front, which is a type without parts, a count, a flag or a tag
abbrev pub ItemStops : Types → Fault → Head → List ℕ → Type 0
ItemStops t f (is_basic b) bytes = basic_at b bytes ≡ Err f
ItemStops t f (is_enum ms) bytes = enum_at ms bytes ≡ Err f
ItemStops t f (is_array_up_to k n) bytes = limited_at (list_limit t k n) whys.Length bytes ≡ Err f
ItemStops t f (is_maybe k) bytes = limited_at 1 whys.Bool bytes ≡ Err f
ItemStops t f (is_union tag cs) bytes = tag_at tag cs bytes ≡ Err f
-- no name is unknown in a sound interface
ItemStops t f is_unknown bytes = f ≡ Short
ItemStops t f (is_struct ps) bytes = ⊥
ItemStops t f (is_array k n) bytes = ⊥

-- it stops here, or behind what is whole
unfoldable pub Reaches : Fault → ℕ → Types → Kind → List ℕ → Type 0
Reaches f zero t k bytes = ItemStops t f (head_of t k) bytes
Reaches f (suc n) t k bytes = ItemStops t f (head_of t k) bytes ⊎ InHead t (Reaches f n t) (head_of t k) bytes
