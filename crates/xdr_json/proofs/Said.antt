-- What JSON is judged to be fits the type, and the JSON says it.
use Rattle.std.proofs.Common.{◌≡◌, ℕ, ℤ, suc, ◌+◌, ◌^◌, ◌==◌, ◌&&◌, List, [], ◌∷◌, length, Bool, true, false, Option}
use Rattle.std.proofs.Common.{Some, None, is_some, Result, Ok, Err, Ordering, Less, Equal, Greater, bytes_eq, inl, inr}
use Rattle.std.proofs.Common.{refl, ap, ◌∙◌, subst, arith, nat_lt, nat_le, if◌then◌else◌}
use Rattle.std.proofs.lemmas.Bool.{and_parts, and_from, or_right, eqb-true}
use Rattle.std.proofs.lemmas.Bool.Decides.{Decides-int_eq}
use Rattle.std.proofs.lemmas.Slice.Eq.{bytes_eq-Decides}
use Rattle.std.specs.Prelude.{codes}
use Rattle.std.specs.Ordering.{int_eq, nat_cmp, match_ordering}
use Rattle.std.specs.Cmp.Lexicographic.{slice_cmp}
use Rattle.hex.specs.Hex.{decode_of}
use Rattle.hex.specs.declared.error.FromHexError.{FromHexError}
use Rattle.serde_json.specs.Data.{Num, Data as Json, Items, Members}
use Rattle.serde_json.specs.Data as json
use Rattle.serde_json.specs.Find.{as_integer, get_member}
use Rattle.serde_json.specs.Events.{items_len, members_len}
use Rattle.serde_json.specs.Read.{read}
use Rattle.xdr_value.specs.declared.ty.Basic.{Basic}
use Rattle.xdr_value.specs.declared.ty.Basic.TheVariants as basics
use Rattle.xdr_value.specs.Data.{Kind, Part, Choice, Datum, number, flag, octets, items, union, none, some, nothing}
use Rattle.xdr_value.specs.Data.{Data, end, more, Types}
use Rattle.xdr_value.specs.Heads.{Tag, tag_int, tag_uint, tag_bool, tag_enum, tag_other, Head, is_basic, is_enum}
use Rattle.xdr_value.specs.Heads.{is_struct, is_union, is_array, is_array_up_to, is_maybe, is_unknown, head_of, arm_of}
use Rattle.xdr_value.specs.Heads.{arm_kind}
use Rattle.xdr_value.specs.Hollow.{list_limit}
use Rattle.xdr_value.specs.Ranges.{is_within, is_below, has_number}
use Rattle.xdr_value.specs.Fits.{Fits, count, tag_number}
use Rattle.xdr_value.proofs.FitsLaw.{fits_is}
use Rattle.xdr_value.specs.Fitting.{number_fits, octets_fit, tag_fits, does_fit, parts_fit, all_fit}
use Rattle.xdr_json.specs.Judged.{Judged, ◌>>=◌, misfit, below, field_step, index_step}
use Rattle.xdr_json.specs.Judging.{Judge, or_misfit, asked, member_number, as_number, null_value, bool_value}
use Rattle.xdr_json.specs.Judging.{whole_value, hex_value, string_value, hex_string, hex_form, whole_tag, name_tag}
use Rattle.xdr_json.specs.Judging.{bool_tag, tag_of_json, tag_found, has_fields, has_union, all_there, parts_judged}
use Rattle.xdr_json.specs.Judging.{arm_judged, chosen_judged, object_judged, list_judged, optional_judged, array_judged}
use Rattle.xdr_json.specs.Judging.{judged, elements_judged, first_judged, member_judge}
use Rattle.xdr_json.specs.Says.{HasNumbers, IsMember, SaysTag, int_tag, uint_tag, bool_tag as bool_tag_says, enum_tag}
use Rattle.xdr_json.specs.Says.{Says, whole_number, true_or_false, void_is_null, name_of_member, hex_digits}
use Rattle.xdr_json.specs.Says.{hex_digits_up_to, as_it_stands, text_in_hex, elements, elements_up_to, fields}
use Rattle.xdr_json.specs.Says.{tag_and_arm, no_data, one_datum, SaysParts, no_part, one_part, SaysAll, no_element}
use Rattle.xdr_json.specs.Says.{one_element, TextSays}
use Rattle.xdr_json.proofs.Names.{TagSound, HeadSound, Forms, head_sound}

-- the JSON says the value, which is one of the type
abbrev pub Right : Types → Kind → Json → Datum → Type 0
Right t k j d = Says t k j d × (does_fit t k d ≡ true)

-- ---- what a judging that gave a value had before it

found_is : (k : Kind) (o : Option Datum) (d : Datum) → or_misfit k o ≡ Ok d → o ≡ Some d
found_is k None d is = cc is
found_is k (Some e) d is = cc is

taken : {A : Type 0} (b : Bool) (x y : A) → (if b then Some x else None) ≡ Some y → (b ≡ true) × (x ≡ y)
taken true x y is = (refl, cc is)
taken false x y is = cc is

pub below_is : {A : Type 0} (step : List ℕ) (r : Judged A) (x : A) → below step r ≡ Ok x → r ≡ Ok x
below_is step (Ok y) x is = is
below_is step (Err m) x is = cc is

pub bound : {A B : Type 0} (r : Judged A) (f : A → Judged B) (y : B) → (r >>= f) ≡ Ok y
    → (x : A) × (r ≡ Ok x) × (f x ≡ Ok y)
bound (Ok x) f y is = (x, refl, is)
bound (Err m) f y is = cc is

-- ---- what has no parts

numbers_of : (b : Basic) (z : ℤ) → number_fits (is_basic b) z ≡ true → HasNumbers b
numbers_of basics.Int z fit = tt
numbers_of basics.Uint z fit = tt
numbers_of basics.Hyper z fit = tt
numbers_of basics.Uhyper z fit = tt
numbers_of basics.Short z fit = tt
numbers_of basics.Ushort z fit = tt
numbers_of basics.Char z fit = tt
numbers_of basics.Uchar z fit = tt
numbers_of basics.Bool z fit = cc fit
numbers_of basics.Void z fit = cc fit
numbers_of (basics.Opaque n) z fit = cc fit
numbers_of (basics.OpaqueUpTo n) z fit = cc fit
numbers_of (basics.Text n) z fit = cc fit

null_says : (t : Types) (k : Kind) (h : Head) (d : Datum) → head_of t k ≡ h → null_value h ≡ Some d
    → Right t k json.null d
null_says t k (is_basic basics.Int) d is found = cc found
null_says t k (is_basic basics.Uint) d is found = cc found
null_says t k (is_basic basics.Hyper) d is found = cc found
null_says t k (is_basic basics.Uhyper) d is found = cc found
null_says t k (is_basic basics.Short) d is found = cc found
null_says t k (is_basic basics.Ushort) d is found = cc found
null_says t k (is_basic basics.Char) d is found = cc found
null_says t k (is_basic basics.Uchar) d is found = cc found
null_says t k (is_basic basics.Bool) d is found = cc found
null_says t k (is_basic basics.Void) d is found =
    let same : nothing ≡ d = cc found in
    subst (Right t k json.null) same (void_is_null k is, rw is refl)
null_says t k (is_basic (basics.Opaque n)) d is found = cc found
null_says t k (is_basic (basics.OpaqueUpTo n)) d is found = cc found
null_says t k (is_basic (basics.Text n)) d is found = cc found
null_says t k (is_enum ms) d is found = cc found
null_says t k (is_struct ps) d is found = cc found
null_says t k (is_union tag cs) d is found = cc found
null_says t k (is_array e m) d is found = cc found
null_says t k (is_array_up_to e m) d is found = cc found
null_says t k (is_maybe e) d is found = cc found
null_says t k is_unknown d is found = cc found

bool_says : (t : Types) (k : Kind) (h : Head) (b : Bool) (d : Datum) → head_of t k ≡ h → bool_value h b ≡ Some d
    → Right t k (json.boolean b) d
bool_says t k (is_basic basics.Int) b d is found = cc found
bool_says t k (is_basic basics.Uint) b d is found = cc found
bool_says t k (is_basic basics.Hyper) b d is found = cc found
bool_says t k (is_basic basics.Uhyper) b d is found = cc found
bool_says t k (is_basic basics.Short) b d is found = cc found
bool_says t k (is_basic basics.Ushort) b d is found = cc found
bool_says t k (is_basic basics.Char) b d is found = cc found
bool_says t k (is_basic basics.Uchar) b d is found = cc found
bool_says t k (is_basic basics.Bool) b d is found =
    let same : flag b ≡ d = cc found in
    subst (Right t k (json.boolean b)) same (true_or_false k b is, rw is refl)
bool_says t k (is_basic basics.Void) b d is found = cc found
bool_says t k (is_basic (basics.Opaque n)) b d is found = cc found
bool_says t k (is_basic (basics.OpaqueUpTo n)) b d is found = cc found
bool_says t k (is_basic (basics.Text n)) b d is found = cc found
bool_says t k (is_enum ms) b d is found = cc found
bool_says t k (is_struct ps) b d is found = cc found
bool_says t k (is_union tag cs) b d is found = cc found
bool_says t k (is_array e m) b d is found = cc found
bool_says t k (is_array_up_to e m) b d is found = cc found
bool_says t k (is_maybe e) b d is found = cc found
bool_says t k is_unknown b d is found = cc found

whole_says : (t : Types) (k : Kind) (h : Head) (n : Num) (o : Option ℤ) (d : Datum) → head_of t k ≡ h
    → as_integer n ≡ o → whole_value h o ≡ Some d → Right t k (json.number n) d
whole_says t k (is_basic b) n None d is int found = cc found
whole_says t k (is_basic b) n (Some z) d is int found =
    let both = taken (number_fits (is_basic b) z) (number z) d found in
    subst (Right t k (json.number n)) both.1
    (whole_number k b n z is (numbers_of b z both.0) int, rw is both.0)
whole_says t k (is_enum ms) n o d is int found = cc found
whole_says t k (is_struct ps) n o d is int found = cc found
whole_says t k (is_union tag cs) n o d is int found = cc found
whole_says t k (is_array e m) n o d is int found = cc found
whole_says t k (is_array_up_to e m) n o d is int found = cc found
whole_says t k (is_maybe e) n o d is int found = cc found
whole_says t k is_unknown n o d is int found = cc found

named_at : (m : List ℕ × ℤ) (ms : List (List ℕ × ℤ)) (name : List ℕ) (z : ℤ) (b : Bool) → bytes_eq m.0 name ≡ b
    → (member_number ms name ≡ Some z → IsMember ms name z × (has_number ms z ≡ true))
    → (if b then Some m.1 else member_number ms name) ≡ Some z
    → IsMember (m ∷ ms) name z × (has_number (m ∷ ms) z ≡ true)
named_at m ms name z true test go found =
    let same : m.1 ≡ z = cc found in
    (inl ((bytes_eq-Decides m.0 name).0 test, same), rw ((Decides-int_eq m.1 z).1 same) refl)
named_at m ms name z false test go found =
    let behind = go found in
    (inr behind.0, or_right (int_eq m.1 z) (has_number ms z) behind.1)

-- a member that is found by its name is one of the members
number_named : (ms : List (List ℕ × ℤ)) (name : List ℕ) (z : ℤ) → member_number ms name ≡ Some z
    → IsMember ms name z × (has_number ms z ≡ true)
number_named [] name z found = cc found
number_named (m ∷ ms) name z found = named_at m ms name z (bytes_eq m.0 name) refl (number_named ms name z) found

as_number_is : (o : Option ℤ) (d : Datum) → as_number o ≡ Some d → (z : ℤ) × (o ≡ Some z) × (number z ≡ d)
as_number_is None d found = cc found
as_number_is (Some z) d found = (z, refl, cc found)

hex_is : (h : Head) (r : Result (List ℕ) FromHexError) (d : Datum) → hex_value h r ≡ Some d
    → (bytes : List ℕ) × (r ≡ Ok bytes) × (octets_fit h (length bytes) ≡ true) × (octets bytes ≡ d)
hex_is h (Err e) d found = cc found
hex_is h (Ok bytes) d found =
    let both = taken (octets_fit h (length bytes)) (octets bytes) d found in (bytes, refl, both.0, both.1)

string_says : (t : Types) (k : Kind) (h : Head) (s : List ℕ) (d : Datum) → head_of t k ≡ h → HeadSound h
    → string_value h s ≡ Some d → Right t k (json.string s) d
string_says t k (is_basic basics.Int) s d is sound found = cc found
string_says t k (is_basic basics.Uint) s d is sound found = cc found
string_says t k (is_basic basics.Hyper) s d is sound found = cc found
string_says t k (is_basic basics.Uhyper) s d is sound found = cc found
string_says t k (is_basic basics.Short) s d is sound found = cc found
string_says t k (is_basic basics.Ushort) s d is sound found = cc found
string_says t k (is_basic basics.Char) s d is sound found = cc found
string_says t k (is_basic basics.Uchar) s d is sound found = cc found
string_says t k (is_basic basics.Bool) s d is sound found = cc found
string_says t k (is_basic basics.Void) s d is sound found = cc found
string_says t k (is_basic (basics.Opaque n)) s d is sound found =
    let bytes = hex_is (is_basic (basics.Opaque n)) (decode_of s) d found in
    subst (Right t k (json.string s)) bytes.3 (hex_digits k n s bytes.0 is bytes.1, rw is bytes.2)
string_says t k (is_basic (basics.OpaqueUpTo n)) s d is sound found =
    let bytes = hex_is (is_basic (basics.OpaqueUpTo n)) (decode_of s) d found in
    subst (Right t k (json.string s)) bytes.3 (hex_digits_up_to k n s bytes.0 is bytes.1, rw is bytes.2)
string_says t k (is_basic (basics.Text n)) s d is sound found =
    let both = taken (octets_fit (is_basic (basics.Text n)) (length s)) (octets s) d found in
    subst (Right t k (json.string s)) both.1 (as_it_stands k n s is, rw is both.0)
string_says t k (is_enum ms) s d is sound found =
    let z = as_number_is (member_number ms s) d found in
    let named = number_named ms s z.0 z.1 in
    subst (Right t k (json.string s)) z.2
    (name_of_member k ms s z.0 is named.0, rw is (and_from _ _ (sound.1 z.0 named.1) named.1))
string_says t k (is_struct ps) s d is sound found = cc found
string_says t k (is_union tag cs) s d is sound found = cc found
string_says t k (is_array e m) s d is sound found = cc found
string_says t k (is_array_up_to e m) s d is sound found = cc found
string_says t k (is_maybe e) s d is sound found = cc found
string_says t k is_unknown s d is sound found = cc found

-- ---- tags

abbrev TagIsRight : Tag → Json → Datum → Type 0
TagIsRight tag j d = SaysTag tag j d × (tag_fits tag d ≡ true)

whole_tag_says : (tag : Tag) (n : Num) (o : Option ℤ) (d : Datum) → as_integer n ≡ o → whole_tag tag o ≡ Some d
    → TagIsRight tag (json.number n) d
whole_tag_says tag_int n None d int found = cc found
whole_tag_says tag_int n (Some z) d int found =
    let both = taken (is_within (2 ^ 31) z) (number z) d found in
    subst (TagIsRight tag_int (json.number n)) both.1 (int_tag n z int, both.0)
whole_tag_says tag_uint n None d int found = cc found
whole_tag_says tag_uint n (Some z) d int found =
    let both = taken (is_below (2 ^ 32) z) (number z) d found in
    subst (TagIsRight tag_uint (json.number n)) both.1 (uint_tag n z int, both.0)
whole_tag_says tag_bool n o d int found = cc found
whole_tag_says (tag_enum ms) n o d int found = cc found
whole_tag_says tag_other n o d int found = cc found

name_tag_says : (tag : Tag) (s : List ℕ) (d : Datum) → TagSound tag → name_tag tag s ≡ Some d
    → TagIsRight tag (json.string s) d
name_tag_says tag_int s d sound found = cc found
name_tag_says tag_uint s d sound found = cc found
name_tag_says tag_bool s d sound found = cc found
name_tag_says (tag_enum ms) s d sound found =
    let z = as_number_is (member_number ms s) d found in
    let named = number_named ms s z.0 z.1 in
    subst (TagIsRight (tag_enum ms) (json.string s)) z.2
    (enum_tag ms s z.0 named.0, and_from _ _ (sound.1 z.0 named.1) named.1)
name_tag_says tag_other s d sound found = cc found

bool_tag_is : (tag : Tag) (b : Bool) (d : Datum) → bool_tag tag b ≡ Some d → TagIsRight tag (json.boolean b) d
bool_tag_is tag_int b d found = cc found
bool_tag_is tag_uint b d found = cc found
bool_tag_is tag_bool b d found =
    let same : flag b ≡ d = cc found in
    subst (TagIsRight tag_bool (json.boolean b)) same (bool_tag_says b, refl)
bool_tag_is (tag_enum ms) b d found = cc found
bool_tag_is tag_other b d found = cc found

tag_says : (tag : Tag) (j : Json) (d : Datum) → TagSound tag → tag_of_json tag j ≡ Some d → TagIsRight tag j d
tag_says tag json.null d sound found = cc found
tag_says tag (json.boolean b) d sound found = bool_tag_is tag b d found
tag_says tag (json.number n) d sound found = whole_tag_says tag n _ d refl found
tag_says tag (json.string s) d sound found = name_tag_says tag s d sound found
tag_says tag (json.array js) d sound found = cc found
tag_says tag (json.object ms) d sound found = cc found

-- ---- arrays

abbrev AllRight : Types → Kind → Items → Data → Type 0
AllRight t e js ds = SaysAll t e js ds × (all_fit t e ds ≡ true) × (count ds ≡ items_len js)

array_fits : (t : Types) (k e : Kind) (m n : ℕ) (ds : Data) → head_of t k ≡ is_array e m → count ds ≡ n
    → (n == m) ≡ true → all_fit t e ds ≡ true → does_fit t k (items ds) ≡ true
array_fits t k e m n ds is len test all = rw (is, len, test) all

list_fits : (t : Types) (k e : Kind) (m n : ℕ) (ds : Data) → head_of t k ≡ is_array_up_to e m → count ds ≡ n
    → (nat_le n (list_limit t e m) && nat_lt n (2 ^ 32)) ≡ true → all_fit t e ds ≡ true → does_fit t k (items ds) ≡ true
list_fits t k e m n ds is len test all = rw (is, len, test) all

listed : (b : Bool) (k : Kind) (r : Judged Data) (d : Datum) → list_judged b k r ≡ Ok d
    → (ds : Data) × (b ≡ true) × (r ≡ Ok ds) × (items ds ≡ d)
listed false k r d is = cc is
listed true k r d is = let ds = bound r (λ ds. Ok (items ds)) d is in
    let same : items ds.0 ≡ d = let eq = ds.2 in cc eq in (ds.0, refl, ds.1, same)

optional_says : (t : Types) (k e : Kind) (js : Items) (d : Datum) → head_of t k ≡ is_maybe e
    → ((i : Datum) → first_judged t js e ≡ Ok i → items_len js ≡ 1
    → (j : Json) × (js ≡ json.item j json.no_items) × Right t e j i)
    → optional_judged k (items_len js) (first_judged t js e) ≡ Ok d → Right t k (json.array js) d
optional_says t k e json.no_items d is one found =
    let same : none ≡ d = cc found in
    subst (Right t k (json.array json.no_items)) same (no_data k e is, rw is refl)
optional_says t k e (json.item j json.no_items) d is one found =
    let first = bound (first_judged t (json.item j json.no_items) e) (λ i. Ok (some i)) d found in
    let right = one first.0 first.1 refl in
    let same : right.0 ≡ j = let eq = right.1 in cc eq in
    let inner = subst (λ (i : Json). Right t e i first.0) same right.2 in
    let whole : some first.0 ≡ d = let eq = first.2 in cc eq in
    subst (Right t k (json.array (json.item j json.no_items))) whole
    (one_datum k e j first.0 is inner.0, rw is inner.1)
optional_says t k e (json.item j (json.item i js)) d is one found = cc found

array_says : (t : Types) (k : Kind) (h : Head) (js : Items) (d : Datum) → head_of t k ≡ h
    → ((e : Kind) (ds : Data) → elements_judged t js e 0 ≡ Ok ds → AllRight t e js ds)
    → ((e : Kind) (i : Datum) → first_judged t js e ≡ Ok i → items_len js ≡ 1
    → (j : Json) × (js ≡ json.item j json.no_items) × Right t e j i)
    → array_judged t k h (items_len js) (λ e. elements_judged t js e 0) (λ e. first_judged t js e) ≡ Ok d
    → Right t k (json.array js) d
array_says t k (is_basic basics.Int) js d is all one found = cc found
array_says t k (is_basic basics.Uint) js d is all one found = cc found
array_says t k (is_basic basics.Hyper) js d is all one found = cc found
array_says t k (is_basic basics.Uhyper) js d is all one found = cc found
array_says t k (is_basic basics.Short) js d is all one found = cc found
array_says t k (is_basic basics.Ushort) js d is all one found = cc found
array_says t k (is_basic basics.Char) js d is all one found = cc found
array_says t k (is_basic basics.Uchar) js d is all one found = cc found
array_says t k (is_basic basics.Bool) js d is all one found = cc found
array_says t k (is_basic basics.Void) js d is all one found = cc found
array_says t k (is_basic (basics.Opaque n)) js d is all one found = cc found
array_says t k (is_basic (basics.OpaqueUpTo n)) js d is all one found = cc found
array_says t k (is_basic (basics.Text n)) js d is all one found = cc found
array_says t k (is_enum ms) js d is all one found = cc found
array_says t k (is_struct ps) js d is all one found = cc found
array_says t k (is_union tag cs) js d is all one found = cc found
array_says t k (is_array e m) js d is all one found =
    let ds = listed (items_len js == m) k (elements_judged t js e 0) d found in
    let right = all e ds.0 ds.2 in
    subst (Right t k (json.array js)) ds.3
    (elements k e m js ds.0 is right.0, array_fits t k e m (items_len js) ds.0 is right.2 ds.1 right.1)
array_says t k (is_array_up_to e m) js d is all one found =
    let ds = listed (nat_le (items_len js) (list_limit t e m) && nat_lt (items_len js) (2 ^ 32)) k
    (elements_judged t js e 0) d found in
    let right = all e ds.0 ds.2 in
    subst (Right t k (json.array js)) ds.3
    (elements_up_to k e m js ds.0 is right.0, list_fits t k e m (items_len js) ds.0 is right.2 ds.1 right.1)
array_says t k (is_maybe e) js d is all one found = optional_says t k e js d is (one e) found
array_says t k is_unknown js d is all one found = cc found

-- ---- objects

-- what a member of the name is judged to be is said by the member
abbrev MembersRight : Types → Members → Type 0
MembersRight t ms = (name : List ℕ) (judge : Judge) → member_judge t ms name ≡ Some judge → (k : Kind) (d : Datum)
    → judge k ≡ Ok d → (j : Json) × (get_member name ms ≡ Some j) × Right t k j d

asked_says : (t : Types) (ms : Members) (name : List ℕ) (k : Kind) (d : Datum) (o : Option Judge) → MembersRight t ms
    → member_judge t ms name ≡ o → asked o k ≡ Ok d → (j : Json) × (get_member name ms ≡ Some j) × Right t k j d
asked_says t ms name k d None right is found = cc found
asked_says t ms name k d (Some judge) right is found = right name judge is k d found

parts_say : (t : Types) (ms : Members) (ps : List Part) (ds : Data) → MembersRight t ms
    → parts_judged ps (member_judge t ms) ≡ Ok ds → SaysParts t ps ms ds × (parts_fit t ps ds ≡ true)
parts_say t ms [] ds right found =
    let same : end ≡ ds = cc found in
    subst (λ (es : Data). SaysParts t [] ms es × (parts_fit t [] es ≡ true)) same (no_part ms, refl)
parts_say t ms (p ∷ ps) ds right found =
    let first = bound (below (field_step p.name) (asked (member_judge t ms p.name) p.kind))
    (λ d. parts_judged ps (member_judge t ms) >>= λ es. Ok (more d es)) ds found in
    let others = bound (parts_judged ps (member_judge t ms)) (λ es. Ok (more first.0 es)) ds first.2 in
    let one = asked_says t ms p.name p.kind first.0 (member_judge t ms p.name) right refl
    (below_is (field_step p.name) _ first.0 first.1) in
    let rest = parts_say t ms ps others.0 right others.1 in
    let same : more first.0 others.0 ≡ ds = let eq = others.2 in cc eq in
    subst (λ (es : Data). SaysParts t (p ∷ ps) ms es × (parts_fit t (p ∷ ps) es ≡ true)) same
    (one_part p ps ms one.0 first.0 others.0 one.1 one.2.0 rest.0, and_from _ _ one.2.1 rest.1)

struct_says : (t : Types) (k : Kind) (ps : List Part) (ms : Members) (d : Datum) (b : Bool) → head_of t k ≡ is_struct ps
    → MembersRight t ms → has_fields ps ms ≡ b
    → (if b then (parts_judged ps (member_judge t ms) >>= λ ds. Ok (items ds)) else misfit k) ≡ Ok d
    → Right t k (json.object ms) d
struct_says t k ps ms d false is right test found = cc found
struct_says t k ps ms d true is right test found =
    let ds = bound (parts_judged ps (member_judge t ms)) (λ es. Ok (items es)) d found in
    let parts = parts_say t ms ps ds.0 right ds.1 in
    let counted = eqb-true (members_len ms) (length ps)
    (and_parts (members_len ms == length ps) (all_there ps ms) test).0
    in
    let same : items ds.0 ≡ d = let eq = ds.2 in cc eq in
    subst (Right t k (json.object ms)) same (fields k ps ms ds.0 is counted parts.0, rw is parts.1)

found_tag : (tag : Tag) (o : Option Json) (d : Datum) → TagSound tag → tag_found tag o ≡ Some d
    → (j : Json) × (o ≡ Some j) × TagIsRight tag j d
found_tag tag None d sound found = cc found
found_tag tag (Some j) d sound found = (j, refl, tag_says tag j d sound found)

module _ (t : Types) (k : Kind) (tag : Tag) (cs : List Choice) (ms : Members) where
  arm_says : (case : Json) (d e : Datum) (o : Option Choice) → head_of t k ≡ is_union tag cs → members_len ms ≡ 2
      → get_member (codes "case") ms ≡ Some case → TagIsRight tag case d → arm_of (tag_number d) cs ≡ o
      → MembersRight t ms → arm_judged k d o (member_judge t ms (codes "value")) ≡ Ok e → Right t k (json.object ms) e
  arm_says case d e None is two has tagged chosen right found = cc found
  arm_says case d e (Some c) is two has tagged chosen right found =
      let inner = bound (below (field_step (codes "value")) (asked (member_judge t ms (codes "value")) (arm_kind c)))
      (λ v. Ok (union d v)) e found in
      let one = asked_says t ms (codes "value") (arm_kind c) inner.0 (member_judge t ms (codes "value")) right refl
      (below_is (field_step (codes "value")) _ inner.0 inner.1) in
      let same : union d inner.0 ≡ e = let eq = inner.2 in cc eq in
      subst (Right t k (json.object ms)) same (
        tag_and_arm k tag cs ms case one.0 d inner.0 c is two has tagged.0 chosen one.1 one.2.0,
        rw (is, tagged.1, chosen) one.2.1,
      )

  chosen_says : (d : Datum) (o : Option Datum) → head_of t k ≡ is_union tag cs → TagSound tag → members_len ms ≡ 2
      → tag_found tag (get_member (codes "case") ms) ≡ o → MembersRight t ms
      → chosen_judged t k cs o (member_judge t ms (codes "value")) ≡ Ok d → Right t k (json.object ms) d
  chosen_says d None is sound two test right found = cc found
  chosen_says d (Some chosen) is sound two test right found =
      let case = found_tag tag (get_member (codes "case") ms) chosen sound test in
      arm_says case.0 chosen d _ is two case.1 case.2 refl right found

  union_says : (d : Datum) (b : Bool) → head_of t k ≡ is_union tag cs → TagSound tag → has_union ms ≡ b
      → MembersRight t ms
      → (if b then chosen_judged t k cs (tag_found tag (get_member (codes "case") ms))
      (member_judge t ms (codes "value")) else misfit k) ≡ Ok d
      → Right t k (json.object ms) d
  union_says d false is sound test right found = cc found
  union_says d true is sound test right found =
      let two = eqb-true (members_len ms) 2 (and_parts (members_len ms == 2) (is_some (get_member (codes "case") ms)
      && is_some (get_member (codes "value") ms)) test).0 in
      chosen_says d _ is sound two refl right found

hex_member_says : (t : Types) (k : Kind) (n : ℕ) (ms : Members) (d : Datum) (o : Option Json)
    → head_of t k ≡ is_basic (basics.Text n) → members_len ms ≡ 1 → get_member (codes "hex") ms ≡ o
    → hex_string (is_basic (basics.Text n)) o ≡ Some d → Right t k (json.object ms) d
hex_member_says t k n ms d None is one has found = cc found
hex_member_says t k n ms d (Some json.null) is one has found = cc found
hex_member_says t k n ms d (Some (json.boolean b)) is one has found = cc found
hex_member_says t k n ms d (Some (json.number m)) is one has found = cc found
hex_member_says t k n ms d (Some (json.string s)) is one has found =
    let bytes = hex_is (is_basic (basics.Text n)) (decode_of s) d found in
    subst (Right t k (json.object ms)) bytes.3 (text_in_hex k n ms s bytes.0 is one has bytes.1, rw is bytes.2)
hex_member_says t k n ms d (Some (json.array js)) is one has found = cc found
hex_member_says t k n ms d (Some (json.object others)) is one has found = cc found

hex_says : (t : Types) (k : Kind) (n : ℕ) (ms : Members) (d : Datum) (b : Bool)
    → head_of t k ≡ is_basic (basics.Text n) → (members_len ms == 1) ≡ b
    → (if b then hex_string (is_basic (basics.Text n)) (get_member (codes "hex") ms) else None) ≡ Some d
    → Right t k (json.object ms) d
hex_says t k n ms d false is test found = cc found
hex_says t k n ms d true is test found =
    hex_member_says t k n ms d _ is (eqb-true (members_len ms) 1 test) refl found

object_says : (t : Types) (k : Kind) (h : Head) (ms : Members) (d : Datum) → head_of t k ≡ h → HeadSound h
    → MembersRight t ms → object_judged t k h ms (member_judge t ms) ≡ Ok d → Right t k (json.object ms) d
object_says t k (is_basic basics.Int) ms d is sound right found = cc found
object_says t k (is_basic basics.Uint) ms d is sound right found = cc found
object_says t k (is_basic basics.Hyper) ms d is sound right found = cc found
object_says t k (is_basic basics.Uhyper) ms d is sound right found = cc found
object_says t k (is_basic basics.Short) ms d is sound right found = cc found
object_says t k (is_basic basics.Ushort) ms d is sound right found = cc found
object_says t k (is_basic basics.Char) ms d is sound right found = cc found
object_says t k (is_basic basics.Uchar) ms d is sound right found = cc found
object_says t k (is_basic basics.Bool) ms d is sound right found = cc found
object_says t k (is_basic basics.Void) ms d is sound right found = cc found
object_says t k (is_basic (basics.Opaque n)) ms d is sound right found = cc found
object_says t k (is_basic (basics.OpaqueUpTo n)) ms d is sound right found = cc found
object_says t k (is_basic (basics.Text n)) ms d is sound right found =
    hex_says t k n ms d _ is refl (found_is k (hex_form (is_basic (basics.Text n)) ms) d found)
object_says t k (is_enum es) ms d is sound right found = cc found
object_says t k (is_struct ps) ms d is sound right found = struct_says t k ps ms d _ is right refl found
object_says t k (is_union tag cs) ms d is sound right found =
    union_says t k tag cs ms d _ is sound refl right found
object_says t k (is_array e m) ms d is sound right found = cc found
object_says t k (is_array_up_to e m) ms d is sound right found = cc found
object_says t k (is_maybe e) ms d is sound right found = cc found
object_says t k is_unknown ms d is sound right found = cc found

member_at : (o : Ordering) (t : Types) (i : Json) (name : List ℕ) (ms : Members) (judge : Judge) (k : Kind) (d : Datum)
    → judge k ≡ Ok d → ((e : Kind) (v : Datum) → judged t i e ≡ Ok v → Right t e i v) → MembersRight t ms
    → match_ordering o (member_judge t ms name) (Some (judged t i)) (member_judge t ms name) ≡ Some judge
    → (j : Json) × (match_ordering o (get_member name ms) (Some i) (get_member name ms) ≡ Some j) × Right t k j d
member_at Less t i name ms judge k d gave go right is = right name judge is k d gave
member_at Equal t i name ms judge k d gave go right is =
    let same : judged t i ≡ judge = cc is in
    (i, refl, go k d (ap (λ (f : Judge). f k) same ∙ gave))
member_at Greater t i name ms judge k d gave go right is = right name judge is k d gave

pub none_left : (js : Items) → items_len js ≡ 0 → js ≡ json.no_items
none_left json.no_items len = refl
none_left (json.item j js) len = absurd (omega (arith, len))

mutual
  -- what JSON is judged to be fits the type, and the JSON says it
  pub judged_says : (t : Types) → Forms t → (j : Json) (k : Kind) (d : Datum) → judged t j k ≡ Ok d → Right t k j d
  judged_says t sound json.null k d found = null_says t k (head_of t k) d refl (found_is k _ d found)
  judged_says t sound (json.boolean b) k d found = bool_says t k (head_of t k) b d refl (found_is k _ d found)
  judged_says t sound (json.number n) k d found =
      whole_says t k (head_of t k) n (as_integer n) d refl refl (found_is k _ d found)
  judged_says t sound (json.string s) k d found =
      string_says t k (head_of t k) s d refl (head_sound t sound k) (found_is k _ d found)
  judged_says t sound (json.array js) k d found =
      array_says t k (head_of t k) js d refl (λ e ds is. elements_say t sound js e 0 ds is)
      (λ e i is one. first_says t sound js e i is one) found
  judged_says t sound (json.object ms) k d found =
      object_says t k (head_of t k) ms d refl (head_sound t sound k) (λ name judge is e v gave. member_says t sound ms
      name judge is e v gave) found

  elements_say : (t : Types) → Forms t → (js : Items) (k : Kind) (i : ℕ) (ds : Data)
      → elements_judged t js k i ≡ Ok ds → AllRight t k js ds
  elements_say t sound json.no_items k i ds found =
      let same : end ≡ ds = cc found in
      subst (λ (es : Data). AllRight t k json.no_items es) same (no_element k, refl, refl)
  elements_say t sound (json.item j js) k i ds found =
      let first = bound (below (index_step i) (judged t j k)) (λ d. elements_judged t js k (i + 1) >>= λ es. Ok
      (more d es)) ds found in
      let others = bound (elements_judged t js k (i + 1)) (λ es. Ok (more first.0 es)) ds first.2 in
      let one = judged_says t sound j k first.0 (below_is (index_step i) _ first.0 first.1) in
      let rest = elements_say t sound js k (i + 1) others.0 others.1 in
      let same : more first.0 others.0 ≡ ds = let eq = others.2 in cc eq in
      subst (λ (es : Data). AllRight t k (json.item j js) es) same
      (one_element k j js first.0 others.0 one.0 rest.0, and_from _ _ one.1 rest.1, ap suc rest.2)

  first_says : (t : Types) → Forms t → (js : Items) (k : Kind) (d : Datum) → first_judged t js k ≡ Ok d
      → items_len js ≡ 1 → (j : Json) × (js ≡ json.item j json.no_items) × Right t k j d
  first_says t sound json.no_items k d found one = cc found
  first_says t sound (json.item j js) k d found one = (
    j,
    ap (json.item j) (none_left js (omega (arith, one))),
    judged_says t sound j k d (below_is (index_step 0) _ d found),
  )

  member_says : (t : Types) → Forms t → (ms : Members) (name : List ℕ) (judge : Judge)
      → member_judge t ms name ≡ Some judge → (k : Kind) (d : Datum) → judge k ≡ Ok d
      → (j : Json) × (get_member name ms ≡ Some j) × Right t k j d
  member_says t sound json.no_members name judge is k d gave = cc is
  member_says t sound (json.member l i ms) name judge is k d gave =
      member_at (slice_cmp nat_cmp name l) t i name ms judge k d gave (λ e v found. judged_says t sound i e v found)
      (λ n f g e v h. member_says t sound ms n f g e v h) is

-- a text that reads as JSON which is judged to be a value says it, and the value fits
pub text_says : (t : Types) → Forms t → (k : Kind) (text : List ℕ) (j : Json) (d : Datum) → read text ≡ Some j
    → below (codes "$") (judged t j k) ≡ Ok d → TextSays t k text d × Fits t k d
text_says t sound k text j d is found =
    let right = judged_says t sound j k d (below_is (codes "$") (judged t j k) d found) in
    ((j, is, right.0), (fits_is t k d).0 right.1)
