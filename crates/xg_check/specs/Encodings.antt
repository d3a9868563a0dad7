-- The smallest encodings of types. Public clauses cite this module.
use Rattle.std.specs.Prelude.{ℕ, zero, suc, ◌+◌, ◌*◌, ◌/◌, ◌==◌, max, Bool, true, false, ◌&&◌, ◌||◌, List, [], ◌∷◌}
use Rattle.std.specs.Prelude.{length, Option, Some, None, slice_get, if◌then◌else◌, option_and_then}
use Rattle.std.specs.Option.{option_map}
use Rattle.xdr_value.specs.declared.ty.Basic.{Basic}
use Rattle.xdr_value.specs.declared.ty.Basic.TheVariants as basics
use Rattle.xg_parse.specs.declared.tree.TypeWord.{TypeWord}
use Rattle.xg_parse.specs.declared.tree.TypeWord.TheVariants as types
use Rattle.xg_parse.specs.declared.tree.Form.{Form}
use Rattle.xg_parse.specs.declared.tree.Form.TheVariants as forms
use Rattle.xg_parse.specs.declared.tree.Decl.{Decl}
use Rattle.xg_parse.specs.declared.tree.ArmItem.{ArmItem}
use Rattle.xg_parse.specs.declared.tree.Part.{Part}
use Rattle.xg_parse.specs.declared.tree.Part.TheVariants as parts
use Rattle.xg_check.specs.Bases.{base_named}
use Rattle.xg_check.specs.Constants.{ConstantDef, size_of}
use Rattle.xg_check.specs.Typed.{word_place}

-- ---- types that take no bytes

-- the type of the word takes none, where held says so of types by their numbers
abbrev pub place_hollow : (ℕ → Bool) → Option ℕ → Bool
place_hollow held None = false
place_hollow held (Some i) = held i

-- the size is there, and is 0
abbrev pub is_zero : Option ℕ → Bool
is_zero None = false
is_zero (Some n) = n == 0

-- a declaration takes no bytes, where held says so of words of types: an array or opaque of size 0, or of such a type
abbrev pub form_hollow : (TypeWord → Bool) → List ConstantDef → Form → Bool
form_hollow held cs (forms.Plain t) = held t
form_hollow held cs (forms.Star t) = false
form_hollow held cs (forms.Fixed t size) = is_zero (size_of cs size) || held t
form_hollow held cs (forms.UpTo t most) = false
form_hollow held cs (forms.Opaque size) = is_zero (size_of cs size)
form_hollow held cs (forms.OpaqueUpTo most) = false
form_hollow held cs (forms.Text most) = false

-- none of the declarations takes bytes, where held says so of words of types
abbrev pub decls_hollow : (TypeWord → Bool) → List ConstantDef → List Decl → Bool
decls_hollow held cs [] = true
decls_hollow held cs (d ∷ ds) = form_hollow held cs d.form && decls_hollow held cs ds

-- the type that a part defines takes no bytes, where held says so of words of types
abbrev pub part_hollow : (TypeWord → Bool) → List ConstantDef → Part → Bool
part_hollow held cs (parts.Typedef decl) = form_hollow held cs decl.form
part_hollow held cs (parts.Struct name fields) = decls_hollow held cs fields
part_hollow held cs (parts.Enum name members) = false
part_hollow held cs (parts.Union name tag tag_name arms otherwise) = false
part_hollow held cs (parts.Package name) = false
part_hollow held cs (parts.Prefix name) = false
part_hollow held cs (parts.StatIndex number) = false
part_hollow held cs (parts.StartingOpcode number) = false
part_hollow held cs (parts.Const name value) = false
part_hollow held cs (parts.Proc name args kind opcode) = false

-- a part is there, and the type that it defines takes no bytes, where held says so of words of types
abbrev pub optional_hollow : (TypeWord → Bool) → List ConstantDef → Option Part → Bool
optional_hollow held cs None = false
optional_hollow held cs (Some p) = part_hollow held cs p

-- the type of this number takes no bytes, where at most so many names are followed
unfoldable pub hollow_within : ℕ → List Part → List ConstantDef → ℕ → Bool
hollow_within zero ts cs i = false
hollow_within (suc n) ts cs i =
    optional_hollow (λ t. place_hollow (hollow_within n ts cs) (word_place ts t)) cs (slice_get ts i)

-- the type of this number takes no bytes
unfoldable pub hollow_at : List Part → List ConstantDef → ℕ → Bool
hollow_at ts cs i = hollow_within (length ts) ts cs i

-- the type of the word takes no bytes
abbrev pub is_hollow : List Part → List ConstantDef → TypeWord → Bool
is_hollow ts cs t = place_hollow (hollow_at ts cs) (word_place ts t)

-- ---- how many bytes the smallest encoding has

-- RFC 4506, sections 4.1, 4.2, 4.4 and 4.5
abbrev pub base_bytes : Option Basic → ℕ
base_bytes (Some basics.Hyper) = 8
base_bytes (Some basics.Uhyper) = 8
base_bytes _ = 4

-- so many bytes and what fills them up to a multiple of 4; none count as one
abbrev pub opaque_bytes : ℕ → ℕ
opaque_bytes n = if n == 0 then 1 else (n + 3) / 4 * 4

-- so many times the bytes; none count as one
abbrev pub array_bytes : ℕ → ℕ → ℕ
array_bytes n bytes = if n == 0 then 1 else n * bytes

-- what is made of two numbers, where both are there
abbrev pub both : (ℕ → ℕ → ℕ) → Option ℕ → Option ℕ → Option ℕ
both f None o = None
both f (Some m) None = None
both f (Some m) (Some n) = Some (f m n)

-- the bytes of what is declared so, where held has those of words of types; what may be left out, or be of any length,
-- has the 4 of its count (RFC 4506, sections 4.9 to 4.13 and 4.19)
abbrev pub form_bytes : (TypeWord → Option ℕ) → List ConstantDef → Form → Option ℕ
form_bytes held cs (forms.Plain t) = held t
form_bytes held cs (forms.Star t) = Some 4
form_bytes held cs (forms.Fixed t size) = both array_bytes (size_of cs size) (held t)
form_bytes held cs (forms.UpTo t most) = Some 4
form_bytes held cs (forms.Opaque size) = option_map opaque_bytes (size_of cs size)
form_bytes held cs (forms.OpaqueUpTo most) = Some 4
form_bytes held cs (forms.Text most) = Some 4

-- the bytes of the declarations together, where held has those of words of types
abbrev pub decls_bytes : (TypeWord → Option ℕ) → List ConstantDef → List Decl → Option ℕ
decls_bytes held cs [] = Some 0
decls_bytes held cs (d ∷ ds) = both (λ m n. m + n) (form_bytes held cs d.form) (decls_bytes held cs ds)

-- a struct without fields counts as one byte
abbrev pub struct_bytes : (TypeWord → Option ℕ) → List ConstantDef → List Decl → Option ℕ
struct_bytes held cs [] = Some 1
struct_bytes held cs (d ∷ ds) = decls_bytes held cs (d ∷ ds)

-- the bytes of what an arm declares, where held has those of words of types; `void` has none
abbrev pub held_bytes : (TypeWord → Option ℕ) → List ConstantDef → Option Decl → Option ℕ
held_bytes held cs None = Some 0
held_bytes held cs (Some d) = form_bytes held cs d.form

-- the bytes of the default arm, where held has those of words of types; a union without one has none for it
abbrev pub default_bytes : (TypeWord → Option ℕ) → List ConstantDef → Option ArmItem → Option ℕ
default_bytes held cs None = Some 0
default_bytes held cs (Some a) = held_bytes held cs a.decl

-- the largest arm
abbrev pub arms_bytes : (TypeWord → Option ℕ) → List ConstantDef → List ArmItem → Option ℕ
arms_bytes held cs [] = Some 0
arms_bytes held cs (a ∷ more) = both max (held_bytes held cs a.decl) (arms_bytes held cs more)

-- a union counts as its tag and its largest arm
abbrev pub part_bytes : (TypeWord → Option ℕ) → List ConstantDef → Part → Option ℕ
part_bytes held cs (parts.Typedef decl) = form_bytes held cs decl.form
part_bytes held cs (parts.Enum name members) = Some 4
part_bytes held cs (parts.Struct name fields) = struct_bytes held cs fields
part_bytes held cs (parts.Union name tag tag_name arms otherwise) =
    both (λ m n. m + n) (held tag) (both max (arms_bytes held cs arms) (default_bytes held cs otherwise))
part_bytes held cs (parts.Package name) = None
part_bytes held cs (parts.Prefix name) = None
part_bytes held cs (parts.StatIndex number) = None
part_bytes held cs (parts.StartingOpcode number) = None
part_bytes held cs (parts.Const name value) = None
part_bytes held cs (parts.Proc name args kind opcode) = None

-- the bytes of the type of the word, where held has those of types by their numbers
abbrev pub word_bytes : (ℕ → Option ℕ) → List Part → TypeWord → Option ℕ
word_bytes held ts (types.Base words) = Some (base_bytes (base_named words))
word_bytes held ts (types.Name name) = option_and_then held (word_place ts (types.Name name))

-- the bytes of the type of this number, where at most so many names are followed
unfoldable pub bytes_within : ℕ → List Part → List ConstantDef → ℕ → Option ℕ
bytes_within zero ts cs i = None
bytes_within (suc n) ts cs i =
    option_and_then (part_bytes (word_bytes (bytes_within n ts cs) ts) cs) (slice_get ts i)

-- How many bytes the smallest encoding of the type has. It has none where a size in it has no number.
unfoldable pub bytes_at : List Part → List ConstantDef → ℕ → Option ℕ
bytes_at ts cs i = bytes_within (length ts) ts cs i

-- those of what is declares so
abbrev pub declared_bytes : List Part → List ConstantDef → Form → Option ℕ
declared_bytes ts cs f = form_bytes (word_bytes (bytes_at ts cs) ts) cs f
