-- A value and a type, level by level.
use Rattle.std.proofs.Common.{◌≡◌, ℕ, String, string_bytes, Some, Box, Global, Vec, rules}
use Rattle.xdr_value.specs.Data.{items, some}
use Rattle.xdr_value.specs.Data.{named}
use Rattle.xdr_value.specs.View.{kind_of, value_of, values_of}
use Rattle.xdr_value.specs.declared.value.Value.{Value, the_lemmas}
use Rattle.xdr_value.specs.declared.value.Value.TheViews as views
use Rattle.xdr_value.specs.declared.ty.Ty.{the_lemmas as ty_lemmas}
use Rattle.xdr_value.specs.declared.ty.Ty.TheBlock as types

pub value-some : (b : Box Value Global) → value_of (views.Maybe (Some b)) ≡ some (value_of b.value)
value-some b = search (rules, the_lemmas)

pub value-items : (v : Vec Value Global) → value_of (views.List v) ≡ items (values_of v.items)
value-items v = search (rules, the_lemmas)

-- a type that is a name
pub kind-named : (s : String Global) (place : ℕ) → kind_of (types.Named s place) ≡ named (string_bytes s)
kind-named s place = search (rules, ty_lemmas)
