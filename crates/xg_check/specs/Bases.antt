-- The types of the language that have no definition. Public clauses cite this module.
use Rattle.std.specs.Prelude.{ℕ, List, [], ◌∷◌, Option, codes}
use Rattle.xdr_value.specs.declared.ty.Basic.{Basic}
use Rattle.xdr_value.specs.declared.ty.Basic.TheVariants as basics
use Rattle.xg_parse.specs.Words.{looked_up}

-- the words of each type: int, long and afs_int32 are one type, and so are the others of a line
abbrev pub base_words : List (List ℕ × Basic)
base_words =
    (codes "int", basics.Int) ∷ (codes "long", basics.Int) ∷ (codes "afs_int32", basics.Int) ∷
    (codes "unsigned", basics.Uint) ∷ (codes "unsigned int", basics.Uint) ∷ (codes "unsigned long", basics.Uint) ∷
    (codes "u_int", basics.Uint) ∷ (codes "u_long", basics.Uint) ∷ (codes "afs_uint32", basics.Uint) ∷
    (codes "hyper", basics.Hyper) ∷ (codes "afs_int64", basics.Hyper) ∷
    (codes "unsigned hyper", basics.Uhyper) ∷ (codes "afs_uint64", basics.Uhyper) ∷
    (codes "short", basics.Short) ∷
    (codes "unsigned short", basics.Ushort) ∷ (codes "u_short", basics.Ushort) ∷
    (codes "char", basics.Char) ∷
    (codes "unsigned char", basics.Uchar) ∷ (codes "u_char", basics.Uchar) ∷
    (codes "bool", basics.Bool) ∷ []

-- the type of the words
unfoldable pub base_named : List ℕ → Option Basic
base_named words = looked_up words base_words
