-- What is printed of a value is judged to be the value.
use Rattle.std.proofs.Common.{◌≡◌, ℕ, ℤ, suc, ◌+◌, ◌^◌, ◌==◌, ◌&&◌, List, [], ◌∷◌, length, Bool, true, false, Option}
use Rattle.std.proofs.Common.{Some, None, Ok, true≢false, bytes_eq, leb, ltb, refl, sym, ap, ◌∙◌}
use lib.IntN.{pos, negsuc}
use Rattle.std.proofs.lemmas.Bool.{and_parts}
use Rattle.std.proofs.lemmas.Bool.Decides.{Decides-int_eq}
use Rattle.std.proofs.lemmas.Slice.Eq.{bytes_eq-Decides}
use Rattle.std.specs.List.{AllByRecursion, IsDistinct}
use Rattle.std.specs.Ordering.{int_eq}
use Rattle.std.specs.Str.{is_utf8}
use Rattle.std.specs.Prelude.{codes, option_map}
use Rattle.serde_json.specs.Read.{read}
use Rattle.xdr_json.specs.Answers.{value_in}
use Rattle.hex.specs.Hex.{IsBytes}
use Rattle.hex.proofs.HexLemmas.{decode_of-encode_lower}
use Rattle.serde_json.specs.Data as json
use Rattle.serde_json.specs.Data.{Data as Json}
use Rattle.serde_json.specs.Find.{as_integer, of_integer}
use Rattle.serde_json.specs.Events.{items_len}
use Rattle.xdr_value.specs.declared.ty.Basic.TheVariants as basics
use Rattle.xdr_value.specs.Data.{Kind, Part, Choice, Datum, number, flag, octets, items, union, none, some, nothing}
use Rattle.xdr_value.specs.Data.{Data, end, more, Types}
use Rattle.xdr_value.specs.Heads.{Tag, tag_int, tag_uint, tag_bool, tag_enum, tag_other, Head, is_basic, is_enum}
use Rattle.xdr_value.specs.Heads.{is_struct, is_union, is_array, is_array_up_to, is_maybe, is_unknown, head_of, arm_of}
use Rattle.xdr_value.specs.Heads.{arm_kind}
use Rattle.xdr_value.specs.Hollow.{list_limit}
use Rattle.xdr_value.specs.Ranges.{is_within, has_number}
use Rattle.xdr_value.specs.Facts.{names_of}
use Rattle.xdr_value.specs.Fits.{count, tag_number}
use Rattle.xdr_value.specs.Fitting.{number_fits, flag_fits, octets_fit, nothing_fits, items_fit, maybe_fits, tag_fits}
use Rattle.xdr_value.specs.Fitting.{arm_fits, union_fits, does_fit, parts_fit, all_fit}
use Rattle.xdr_json.specs.Json.{member_name, number_json, is_text, text_or_hex, tag_json, arm_json, union_json}
use Rattle.xdr_json.specs.Json.{items_json, maybe_json, json_of, members_json, elements_json}
use Rattle.xdr_json.specs.Judged.{Judged, below}
use Rattle.xdr_json.specs.Judging.{member_number, tag_of_json, arm_judged, parts_judged, judged, elements_judged}
use Rattle.xdr_json.specs.Judging.{member_judge}
use Rattle.xdr_json.specs.Bytes.{OctetsAreBytes, AllAreBytes}
use Rattle.xdr_json.proofs.Names.{TagSound, HeadSound, Forms, head_sound}
use Rattle.xdr_json.proofs.Fields.{HasAll, has_all, judge_of, fields_there}

no : {A : Type 0} → false ≡ true → A
no fit = absurd (true≢false (sym fit))

integer_back : (z : ℤ) → as_integer (of_integer z) ≡ Some z
integer_back (pos n) = refl
integer_back (negsuc n) = refl

-- ---- names of members

among_at : (P : List ℕ → Type 0) (m : List ℕ × ℤ) (ms : List (List ℕ × ℤ)) (z : ℤ) (b : Bool) → int_eq m.1 z ≡ b → P m.0
    → (has_number ms z ≡ true → P (member_name ms z)) → has_number (m ∷ ms) z ≡ true → P (member_name (m ∷ ms) z)
among_at P m ms z true test first go has = rw test first
among_at P m ms z false test first go has = rw test (go (rw test at has))

among : (P : List ℕ → Type 0) (ms : List (List ℕ × ℤ)) (z : ℤ) → AllByRecursion P (names_of ms)
    → has_number ms z ≡ true → P (member_name ms z)
among P [] z all has = no has
among P (m ∷ ms) z all has = among_at P m ms z _ refl all.0 (among P ms z all.1) has

name_back_at : (m : List ℕ × ℤ) (ms : List (List ℕ × ℤ)) (z : ℤ) (b : Bool) → int_eq m.1 z ≡ b
    → (has_number ms z ≡ true → bytes_eq m.0 (member_name ms z) ≡ false)
    → (has_number ms z ≡ true → member_number ms (member_name ms z) ≡ Some z)
    → has_number (m ∷ ms) z ≡ true → member_number (m ∷ ms) (member_name (m ∷ ms) z) ≡ Some z
name_back_at m ms z true test differs go has =
    rw (test, (bytes_eq-Decides m.0 m.0).1 refl) (ap (λ (y : ℤ). Some y) ((Decides-int_eq m.1 z).0 test))
name_back_at m ms z false test differs go has =
    let rest : has_number ms z ≡ true = rw test at has in
    rw (test, differs rest) (go rest)

name_back : (ms : List (List ℕ × ℤ)) (z : ℤ) → IsDistinct bytes_eq (names_of ms) → has_number ms z ≡ true
    → member_number ms (member_name ms z) ≡ Some z
unfolding IsDistinct
name_back [] z differ has = no has
name_back (m ∷ ms) z differ has =
    name_back_at m ms z _ refl (among (λ y. bytes_eq m.0 y ≡ false) ms z differ.0) (name_back ms z differ.1) has

-- ---- what has no parts
number_back : (t : Types) (k : Kind) (h : Head) (z : ℤ) → head_of t k ≡ h → HeadSound h → number_fits h z ≡ true
    → judged t (number_json h z) k ≡ Ok (number z)
number_back t k (is_basic b) z is differ fit = rw (is, integer_back z, fit) refl
number_back t k (is_enum ms) z is differ fit =
    let has = (and_parts (is_within (2 ^ 31) z) (has_number ms z) fit).1 in
    rw (is, name_back ms z differ.0 has) refl
number_back t k (is_struct ps) z is differ fit = no fit
number_back t k (is_union tag cs) z is differ fit = no fit
number_back t k (is_array e n) z is differ fit = no fit
number_back t k (is_array_up_to e n) z is differ fit = no fit
number_back t k (is_maybe e) z is differ fit = no fit
number_back t k is_unknown z is differ fit = no fit

flag_back : (t : Types) (k : Kind) (h : Head) (b : Bool) → head_of t k ≡ h → flag_fits h ≡ true
    → judged t (json.boolean b) k ≡ Ok (flag b)
flag_back t k (is_basic basics.Int) b is fit = no fit
flag_back t k (is_basic basics.Uint) b is fit = no fit
flag_back t k (is_basic basics.Hyper) b is fit = no fit
flag_back t k (is_basic basics.Uhyper) b is fit = no fit
flag_back t k (is_basic basics.Short) b is fit = no fit
flag_back t k (is_basic basics.Ushort) b is fit = no fit
flag_back t k (is_basic basics.Char) b is fit = no fit
flag_back t k (is_basic basics.Uchar) b is fit = no fit
flag_back t k (is_basic basics.Bool) b is fit = rw is refl
flag_back t k (is_basic basics.Void) b is fit = no fit
flag_back t k (is_basic (basics.Opaque n)) b is fit = no fit
flag_back t k (is_basic (basics.OpaqueUpTo n)) b is fit = no fit
flag_back t k (is_basic (basics.Text n)) b is fit = no fit
flag_back t k (is_enum ms) b is fit = no fit
flag_back t k (is_struct ps) b is fit = no fit
flag_back t k (is_union tag cs) b is fit = no fit
flag_back t k (is_array e n) b is fit = no fit
flag_back t k (is_array_up_to e n) b is fit = no fit
flag_back t k (is_maybe e) b is fit = no fit
flag_back t k is_unknown b is fit = no fit

null_back : (t : Types) (k : Kind) (h : Head) → head_of t k ≡ h → nothing_fits h ≡ true
    → judged t json.null k ≡ Ok nothing
null_back t k (is_basic basics.Int) is fit = no fit
null_back t k (is_basic basics.Uint) is fit = no fit
null_back t k (is_basic basics.Hyper) is fit = no fit
null_back t k (is_basic basics.Uhyper) is fit = no fit
null_back t k (is_basic basics.Short) is fit = no fit
null_back t k (is_basic basics.Ushort) is fit = no fit
null_back t k (is_basic basics.Char) is fit = no fit
null_back t k (is_basic basics.Uchar) is fit = no fit
null_back t k (is_basic basics.Bool) is fit = no fit
null_back t k (is_basic basics.Void) is fit = rw is refl
null_back t k (is_basic (basics.Opaque n)) is fit = no fit
null_back t k (is_basic (basics.OpaqueUpTo n)) is fit = no fit
null_back t k (is_basic (basics.Text n)) is fit = no fit
null_back t k (is_enum ms) is fit = no fit
null_back t k (is_struct ps) is fit = no fit
null_back t k (is_union tag cs) is fit = no fit
null_back t k (is_array e n) is fit = no fit
null_back t k (is_array_up_to e n) is fit = no fit
null_back t k (is_maybe e) is fit = no fit
null_back t k is_unknown is fit = no fit

text_back : (t : Types) (k : Kind) (n : ℕ) (bytes : List ℕ) (b : Bool) → head_of t k ≡ is_basic (basics.Text n)
    → is_utf8 bytes ≡ b → IsBytes bytes
    → octets_fit (is_basic (basics.Text n)) (length bytes) ≡ true
    → judged t (text_or_hex true bytes) k ≡ Ok (octets bytes)
text_back t k n bytes true is test held fit = rw (test, is, fit) refl
text_back t k n bytes false is test held fit = rw (test, is, decode_of-encode_lower bytes held, fit) refl

octets_back : (t : Types) (k : Kind) (h : Head) (bytes : List ℕ) → head_of t k ≡ h → IsBytes bytes
    → octets_fit h (length bytes) ≡ true
    → judged t (text_or_hex (is_text h) bytes) k ≡ Ok (octets bytes)
octets_back t k (is_basic basics.Int) bytes is held fit = no fit
octets_back t k (is_basic basics.Uint) bytes is held fit = no fit
octets_back t k (is_basic basics.Hyper) bytes is held fit = no fit
octets_back t k (is_basic basics.Uhyper) bytes is held fit = no fit
octets_back t k (is_basic basics.Short) bytes is held fit = no fit
octets_back t k (is_basic basics.Ushort) bytes is held fit = no fit
octets_back t k (is_basic basics.Char) bytes is held fit = no fit
octets_back t k (is_basic basics.Uchar) bytes is held fit = no fit
octets_back t k (is_basic basics.Bool) bytes is held fit = no fit
octets_back t k (is_basic basics.Void) bytes is held fit = no fit
octets_back t k (is_basic (basics.Opaque n)) bytes is held fit = rw (is, decode_of-encode_lower bytes held, fit) refl
octets_back t k (is_basic (basics.OpaqueUpTo n)) bytes is held fit =
    rw (is, decode_of-encode_lower bytes held, fit) refl
octets_back t k (is_basic (basics.Text n)) bytes is held fit = text_back t k n bytes _ is refl held fit
octets_back t k (is_enum ms) bytes is held fit = no fit
octets_back t k (is_struct ps) bytes is held fit = no fit
octets_back t k (is_union tag cs) bytes is held fit = no fit
octets_back t k (is_array e n) bytes is held fit = no fit
octets_back t k (is_array_up_to e n) bytes is held fit = no fit
octets_back t k (is_maybe e) bytes is held fit = no fit
octets_back t k is_unknown bytes is held fit = no fit

-- ---- unions

tag_back : (tag : Tag) (d : Datum) → TagSound tag → tag_fits tag d ≡ true → tag_of_json tag (tag_json tag d) ≡ Some d
tag_back tag_int (number z) differ fit = rw (integer_back z, fit) refl
tag_back tag_int (flag b) differ fit = no fit
tag_back tag_int (octets bytes) differ fit = no fit
tag_back tag_int (items vs) differ fit = no fit
tag_back tag_int (union d e) differ fit = no fit
tag_back tag_int none differ fit = no fit
tag_back tag_int (some d) differ fit = no fit
tag_back tag_int nothing differ fit = no fit
tag_back tag_uint (number z) differ fit = rw (integer_back z, fit) refl
tag_back tag_uint (flag b) differ fit = no fit
tag_back tag_uint (octets bytes) differ fit = no fit
tag_back tag_uint (items vs) differ fit = no fit
tag_back tag_uint (union d e) differ fit = no fit
tag_back tag_uint none differ fit = no fit
tag_back tag_uint (some d) differ fit = no fit
tag_back tag_uint nothing differ fit = no fit
tag_back tag_bool (number z) differ fit = no fit
tag_back tag_bool (flag b) differ fit = refl
tag_back tag_bool (octets bytes) differ fit = no fit
tag_back tag_bool (items vs) differ fit = no fit
tag_back tag_bool (union d e) differ fit = no fit
tag_back tag_bool none differ fit = no fit
tag_back tag_bool (some d) differ fit = no fit
tag_back tag_bool nothing differ fit = no fit
tag_back (tag_enum ms) (number z) differ fit =
    rw (name_back ms z differ.0 (and_parts (is_within (2 ^ 31) z) (has_number ms z) fit).1) refl
tag_back (tag_enum ms) (flag b) differ fit = no fit
tag_back (tag_enum ms) (octets bytes) differ fit = no fit
tag_back (tag_enum ms) (items vs) differ fit = no fit
tag_back (tag_enum ms) (union d e) differ fit = no fit
tag_back (tag_enum ms) none differ fit = no fit
tag_back (tag_enum ms) (some d) differ fit = no fit
tag_back (tag_enum ms) nothing differ fit = no fit
tag_back tag_other (number z) differ fit = no fit
tag_back tag_other (flag b) differ fit = no fit
tag_back tag_other (octets bytes) differ fit = no fit
tag_back tag_other (items vs) differ fit = no fit
tag_back tag_other (union d e) differ fit = no fit
tag_back tag_other none differ fit = no fit
tag_back tag_other (some d) differ fit = no fit
tag_back tag_other nothing differ fit = no fit

arm_back : (t : Types) (k : Kind) (tag arm : Datum) (o : Option Choice) (f : Kind → Bool) → arm_fits o f ≡ true
    → ((e : Kind) → f e ≡ true → judged t (json_of t e arm) e ≡ Ok arm)
    → arm_judged k tag o (Some (judged t (arm_json o (λ e. json_of t e arm)))) ≡ Ok (union tag arm)
arm_back t k tag arm None f fit go = no fit
arm_back t k tag arm (Some c) f fit go = rw (go (arm_kind c) fit) refl

union_back : (t : Types) (k : Kind) (h : Head) (d arm : Datum) (f : Kind → Bool) → head_of t k ≡ h → HeadSound h
    → union_fits h d f ≡ true
    → ((e : Kind) → f e ≡ true → judged t (json_of t e arm) e ≡ Ok arm)
    → judged t (union_json h d (λ e. json_of t e arm)) k ≡ Ok (union d arm)
union_back t k (is_basic b) d arm f is differ fit go = no fit
union_back t k (is_enum ms) d arm f is differ fit go = no fit
union_back t k (is_struct ps) d arm f is differ fit go = no fit
union_back t k (is_union tag cs) d arm f is differ fit go =
    let both = and_parts (tag_fits tag d) (arm_fits (arm_of (tag_number d) cs) f) fit in
    rw (is, tag_back tag d differ both.0) (arm_back t k d arm (arm_of (tag_number d) cs) f both.1 go)
union_back t k (is_array e n) d arm f is differ fit go = no fit
union_back t k (is_array_up_to e n) d arm f is differ fit go = no fit
union_back t k (is_maybe e) d arm f is differ fit go = no fit
union_back t k is_unknown d arm f is differ fit go = no fit

-- ---- optional data

none_back : (t : Types) (k : Kind) (h : Head) → head_of t k ≡ h → maybe_fits h (λ e. true) ≡ true
    → judged t (json.array json.no_items) k ≡ Ok none
none_back t k (is_basic b) is fit = no fit
none_back t k (is_enum ms) is fit = no fit
none_back t k (is_struct ps) is fit = no fit
none_back t k (is_union tag cs) is fit = no fit
none_back t k (is_array e n) is fit = no fit
none_back t k (is_array_up_to e n) is fit = no fit
none_back t k (is_maybe e) is fit = rw is refl
none_back t k is_unknown is fit = no fit

some_back : (t : Types) (k : Kind) (h : Head) (d : Datum) (f : Kind → Bool) → head_of t k ≡ h → maybe_fits h f ≡ true
    → ((e : Kind) → f e ≡ true → judged t (json_of t e d) e ≡ Ok d)
    → judged t (maybe_json h (λ e. json_of t e d)) k ≡ Ok (some d)
some_back t k (is_basic b) d f is fit go = no fit
some_back t k (is_enum ms) d f is fit go = no fit
some_back t k (is_struct ps) d f is fit go = no fit
some_back t k (is_union tag cs) d f is fit go = no fit
some_back t k (is_array e n) d f is fit go = no fit
some_back t k (is_array_up_to e n) d f is fit go = no fit
some_back t k (is_maybe e) d f is fit go = rw (is, go e fit) refl
some_back t k is_unknown d f is fit go = no fit

-- ---- lists

counted : (t : Types) (k : Kind) (vs : Data) → items_len (elements_json t k vs) ≡ count vs
counted t k end = refl
counted t k (more v vs) = ap suc (counted t k vs)

list_back : (t : Types) (k : Kind) (h : Head) (vs : Data) → head_of t k ≡ h → HeadSound h
    → items_fit t h (λ ps. parts_fit t ps vs) (λ e. all_fit t e vs) (count vs) ≡ true
    → ((e : Kind) → all_fit t e vs ≡ true → elements_judged t (elements_json t e vs) e 0 ≡ Ok vs)
    → ((ps : List Part) (ms : json.Members) → parts_fit t ps vs ≡ true → HasAll t ps vs ms
    → parts_judged ps (member_judge t ms) ≡ Ok vs)
    → judged t (items_json h (λ ps. members_json t ps vs json.no_members) (λ e. elements_json t e vs)) k ≡ Ok (items vs)
list_back t k (is_basic b) vs is differ fit all parts = no fit
list_back t k (is_enum ms) vs is differ fit all parts = no fit
list_back t k (is_struct ps) vs is differ fit all parts =
    let found = parts ps (members_json t ps vs json.no_members) fit (has_all t ps vs json.no_members differ fit) in
    rw (is, fields_there t ps vs differ fit, found) refl
list_back t k (is_union tag cs) vs is differ fit all parts = no fit
list_back t k (is_array e n) vs is differ fit all parts =
    let both = and_parts (count vs == n) (all_fit t e vs) fit in
    rw (is, counted t e vs, both.0, all e both.1) refl
list_back t k (is_array_up_to e n) vs is differ fit all parts =
    let both = and_parts (leb (count vs) (list_limit t e n) && ltb (count vs) (2 ^ 32)) (all_fit t e vs) fit in
    rw (is, counted t e vs, both.0, all e both.1) refl
list_back t k (is_maybe e) vs is differ fit all parts = no fit
list_back t k is_unknown vs is differ fit all parts = no fit

mutual
  -- the JSON of a value is judged to be the value
  pub value_back : (t : Types) → Forms t → (k : Kind) (d : Datum) → OctetsAreBytes d → does_fit t k d ≡ true
      → judged t (json_of t k d) k ≡ Ok d
  value_back t sound k (number z) held fit = number_back t k (head_of t k) z refl (head_sound t sound k) fit
  value_back t sound k (flag b) held fit = flag_back t k (head_of t k) b refl fit
  value_back t sound k (octets bytes) held fit = octets_back t k (head_of t k) bytes refl held fit
  value_back t sound k (items vs) held fit =
      list_back t k (head_of t k) vs refl (head_sound t sound k) fit (λ e f. elements_back t sound e vs 0 held f)
      (λ ps ms f has. parts_back t sound ps vs ms held f has)
  value_back t sound k (union tag arm) held fit =
      union_back t k (head_of t k) tag arm _ refl (head_sound t sound k) fit (λ e f. value_back t sound e arm held f)
  value_back t sound k none held fit = none_back t k (head_of t k) refl fit
  value_back t sound k (some d) held fit =
      some_back t k (head_of t k) d _ refl fit (λ e f. value_back t sound e d held f)
  value_back t sound k nothing held fit = null_back t k (head_of t k) refl fit

  elements_back : (t : Types) → Forms t → (k : Kind) (vs : Data) (i : ℕ) → AllAreBytes vs → all_fit t k vs ≡ true
      → elements_judged t (elements_json t k vs) k i ≡ Ok vs
  elements_back t sound k end i held fit = refl
  elements_back t sound k (more v vs) i held fit =
      let both = and_parts (does_fit t k v) (all_fit t k vs) fit in
      rw (value_back t sound k v held.0 both.0, elements_back t sound k vs (i + 1) held.1 both.1) refl

  parts_back : (t : Types) → Forms t → (ps : List Part) (vs : Data) (ms : json.Members) → AllAreBytes vs
      → parts_fit t ps vs ≡ true → HasAll t ps vs ms → parts_judged ps (member_judge t ms) ≡ Ok vs
  parts_back t sound [] end ms held fit has = refl
  parts_back t sound [] (more v vs) ms held fit has = no fit
  parts_back t sound (p ∷ ps) end ms held fit has = no fit
  parts_back t sound (p ∷ ps) (more v vs) ms held fit has =
      let both = and_parts (does_fit t p.kind v) (parts_fit t ps vs) fit in
      let first = value_back t sound p.kind v held.0 both.0 in
      let others = parts_back t sound ps vs ms held.1 both.1 has.1 in
      rw (judge_of t ms p.name, has.0, first, others) refl

-- a text that reads as the JSON of a value is the value
pub read_back : (t : Types) (k : Kind) (d : Datum) (j : Json) (text : List ℕ) → read text ≡ Some j → judged t j k ≡ Ok d
    → value_in t k text ≡ Some (Ok d)
read_back t k d j text is back =
    let found : value_in t k text ≡ Some (below (codes "$") (judged t j k)) =
    ap (option_map (λ (i : Json). below (codes "$") (judged t i k))) is in
    found ∙ ap (λ (r : Judged Datum). Some (below (codes "$") r)) back
