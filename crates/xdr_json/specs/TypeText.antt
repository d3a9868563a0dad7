-- The text of a type. Public clauses cite this module.
use Rattle.std.specs.Prelude.{ℕ, List, ◌++◌, codes, decimal}
use Rattle.xdr_value.specs.declared.ty.Basic.{Basic}
use Rattle.xdr_value.specs.declared.ty.Basic.TheVariants as basics
use Rattle.xdr_value.specs.Data.{Kind, basic, array, array_up_to, maybe, named}

-- a number between two brackets
abbrev pub bracketed : List ℕ → ℕ → List ℕ → List ℕ
bracketed open_by n closed_by = open_by ++ (decimal n ++ closed_by)

-- a type without parts as an interface writes it
abbrev pub basic_text : Basic → List ℕ
basic_text basics.Int = codes "int"
basic_text basics.Uint = codes "uint"
basic_text basics.Hyper = codes "hyper"
basic_text basics.Uhyper = codes "uhyper"
basic_text basics.Short = codes "short"
basic_text basics.Ushort = codes "ushort"
basic_text basics.Char = codes "char"
basic_text basics.Uchar = codes "uchar"
basic_text basics.Bool = codes "bool"
basic_text basics.Void = codes "void"
basic_text (basics.Opaque n) = bracketed (codes "opaque[") n (codes "]")
basic_text (basics.OpaqueUpTo n) = bracketed (codes "opaque<") n (codes ">")
basic_text (basics.Text n) = bracketed (codes "string<") n (codes ">")

-- the type as an interface writes it
abbrev pub type_text : Kind → List ℕ
type_text (basic b) = basic_text b
type_text (array k n) = type_text k ++ bracketed (codes "[") n (codes "]")
type_text (array_up_to k n) = type_text k ++ bracketed (codes "<") n (codes ">")
type_text (maybe k) = type_text k ++ codes "*"
type_text (named s) = s
