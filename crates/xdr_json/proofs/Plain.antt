-- The JSON of a value has no float, and nests at most one deeper than the value.
use Rattle.std.proofs.Common.{◌≡◌, ℕ, ℤ, zero, suc, ◌≤◌, ◌||◌, List, [], ◌∷◌, Bool, true, false, Option, Some, None}
use Rattle.std.proofs.Common.{Ordering, Less, Equal, Greater, true≢false, refl, arith}
use lib.IntN.{pos, negsuc}
use Rattle.std.specs.Prelude.{codes}
use Rattle.std.proofs.Math.Nat.{max-le, le-max_left, le-max_right}
use Rattle.std.specs.Ordering.{nat_cmp, match_ordering}
use Rattle.std.specs.Cmp.Lexicographic.{slice_cmp}
use Rattle.std.specs.Str.{is_utf8}
use Rattle.serde_json.specs.Data.{Data as Json, Items, Members, put, no_items, no_members, item, member, array, object}
use Rattle.serde_json.specs.Data as json
use Rattle.serde_json.specs.Written.{has_float, items_have_float, members_have_float}
use Rattle.xdr_value.specs.Data.{Kind, Part, Choice, Datum, number, flag, octets, items, union, none, some, nothing}
use Rattle.xdr_value.specs.Data.{Data, end, more, Types}
use Rattle.xdr_value.specs.Heads.{Tag, tag_int, tag_uint, tag_bool, tag_enum, tag_other, Head, is_basic, is_enum}
use Rattle.xdr_value.specs.Heads.{is_struct, is_union, is_array, is_array_up_to, is_maybe, is_unknown, head_of}
use Rattle.xdr_value.specs.Heads.{arm_kind}
use Rattle.xdr_value.specs.Fits.{depth, depths}
use Rattle.xdr_json.specs.Json.{integer_json, number_json, is_text, text_or_hex, number_tag_json, tag_json}
use Rattle.xdr_json.specs.Json.{union_object, arm_json, union_json, items_json, maybe_json, json_of, members_json}
use Rattle.xdr_json.specs.Json.{elements_json}

-- no float, and at most n deep
pub record Plain (n : ℕ) (j : Json) : Type 0 where
  pub whole : has_float j ≡ false
  pub shallow : json.depth j ≤ n

pub record PlainItems (n : ℕ) (js : Items) : Type 0 where
  pub whole : items_have_float js ≡ false
  pub shallow : json.items_depth js ≤ n

pub record PlainMembers (n : ℕ) (ms : Members) : Type 0 where
  pub whole : members_have_float ms ≡ false
  pub shallow : json.members_depth ms ≤ n

neither : (a b : Bool) → a ≡ false → b ≡ false → (a || b) ≡ false
neither a b first second = rw (first, second) refl

string_plain : (n : ℕ) (s : List ℕ) → Plain n (json.string s)
string_plain n s = record { whole = refl; shallow = omega arith }

null_plain : (n : ℕ) → Plain n json.null
null_plain n = record { whole = refl; shallow = omega arith }

whole_plain : (n : ℕ) (z : ℤ) → Plain n (integer_json z)
whole_plain n (pos m) = record { whole = refl; shallow = omega arith }
whole_plain n (negsuc m) = record { whole = refl; shallow = omega arith }

number_plain : (n : ℕ) (h : Head) (z : ℤ) → Plain n (number_json h z)
number_plain n (is_basic b) z = whole_plain n z
number_plain n (is_enum ms) z = string_plain n _
number_plain n (is_struct ps) z = whole_plain n z
number_plain n (is_union tag cs) z = whole_plain n z
number_plain n (is_array k m) z = whole_plain n z
number_plain n (is_array_up_to k m) z = whole_plain n z
number_plain n (is_maybe k) z = whole_plain n z
number_plain n is_unknown z = whole_plain n z

text_plain : (n : ℕ) (b : Bool) (bytes : List ℕ) → is_utf8 bytes ≡ b → Plain (suc n) (text_or_hex true bytes)
text_plain n true bytes test = rw test (string_plain (suc n) bytes)
text_plain n false bytes test = rw test (record { whole = refl; shallow = omega arith })

octets_plain : (n : ℕ) (b : Bool) (bytes : List ℕ) → Plain (suc n) (text_or_hex b bytes)
octets_plain n true bytes = text_plain n _ bytes refl
octets_plain n false bytes = string_plain (suc n) _

number_tag_plain : (n : ℕ) (tag : Tag) (z : ℤ) → Plain n (number_tag_json tag z)
number_tag_plain n tag_int z = whole_plain n z
number_tag_plain n tag_uint z = whole_plain n z
number_tag_plain n tag_bool z = whole_plain n z
number_tag_plain n (tag_enum ms) z = string_plain n _
number_tag_plain n tag_other z = whole_plain n z

tag_plain : (n : ℕ) (tag : Tag) (d : Datum) → Plain n (tag_json tag d)
tag_plain n tag (number z) = number_tag_plain n tag z
tag_plain n tag (flag b) = record { whole = refl; shallow = omega arith }
tag_plain n tag (octets bytes) = null_plain n
tag_plain n tag (items vs) = null_plain n
tag_plain n tag (union d e) = null_plain n
tag_plain n tag none = null_plain n
tag_plain n tag (some d) = null_plain n
tag_plain n tag nothing = null_plain n

member_plain : (n : ℕ) (k : List ℕ) (j : Json) (ms : Members) → Plain n j → PlainMembers n ms
    → PlainMembers n (member k j ms)
member_plain n k j ms one others =
    record {
      whole = neither (has_float j) (members_have_float ms) one.whole others.whole;
      shallow = max-le one.shallow others.shallow;
    }

object_plain : (n : ℕ) (ms : Members) → PlainMembers n ms → Plain (suc n) (object ms)
object_plain n ms h = record { whole = h.whole; shallow = let deep = h.shallow in omega (arith, deep) }

array_plain : (n : ℕ) (js : Items) → PlainItems n js → Plain (suc n) (array js)
array_plain n js h = record { whole = h.whole; shallow = let deep = h.shallow in omega (arith, deep) }

no_members_plain : (n : ℕ) → PlainMembers n no_members
no_members_plain n = record { whole = refl; shallow = omega arith }

no_items_plain : (n : ℕ) → PlainItems n no_items
no_items_plain n = record { whole = refl; shallow = omega arith }

put_plain_at : (n : ℕ) (o : Ordering) (k l : List ℕ) (j i : Json) (ms others : Members) → Plain n j → Plain n i
    → PlainMembers n ms → PlainMembers n others
    → PlainMembers n (match_ordering o (member k j (member l i ms)) (member l j ms) (member l i others))
put_plain_at n Less k l j i ms others a b c d = member_plain n k j (member l i ms) a (member_plain n l i ms b c)
put_plain_at n Equal k l j i ms others a b c d = member_plain n l j ms a c
put_plain_at n Greater k l j i ms others a b c d = member_plain n l i others b d

either_false : (a b : Bool) → (a || b) ≡ false → (a ≡ false) × (b ≡ false)
either_false false b h = (refl, h)
either_false true b h = absurd (true≢false h)

first_plain : (n : ℕ) (l : List ℕ) (i : Json) (ms : Members) → PlainMembers n (member l i ms) → Plain n i
first_plain n l i ms h =
    let deep = h.shallow in
    let most = le-max_left (json.depth i) (json.members_depth ms) in
    let whole = either_false (has_float i) (members_have_float ms) h.whole in
    record { whole = whole.0; shallow = omega (arith, deep, most) }

others_plain : (n : ℕ) (l : List ℕ) (i : Json) (ms : Members) → PlainMembers n (member l i ms) → PlainMembers n ms
others_plain n l i ms h =
    let deep = h.shallow in
    let most = le-max_right (json.depth i) (json.members_depth ms) in
    let whole = either_false (has_float i) (members_have_float ms) h.whole in
    record { whole = whole.1; shallow = omega (arith, deep, most) }

put_plain : (n : ℕ) (k : List ℕ) (j : Json) (ms : Members) → Plain n j → PlainMembers n ms → PlainMembers n (put k j ms)
put_plain n k j no_members one h = member_plain n k j no_members one (no_members_plain n)
put_plain n k j (member l i ms) one h =
    let others = others_plain n l i ms h in
    put_plain_at n (slice_cmp nat_cmp k l) k l j i ms (put k j ms) one (first_plain n l i ms h) others
    (put_plain n k j ms one others)

union_plain : (n : ℕ) (tag arm : Json) → Plain n tag → Plain n arm → Plain (suc n) (union_object tag arm)
union_plain n tag arm a b =
    object_plain n _
    (put_plain n (codes "value") arm _ b (put_plain n (codes "case") tag no_members a (no_members_plain n)))

arm_plain : (n : ℕ) (o : Option Choice) (inner : Kind → Json) → ((k : Kind) → Plain n (inner k))
    → Plain n (arm_json o inner)
arm_plain n None inner h = null_plain n
arm_plain n (Some c) inner h = h (arm_kind c)

chosen_plain : (n : ℕ) (h : Head) (d : Datum) (inner : Kind → Json) → ((k : Kind) → Plain n (inner k))
    → Plain (suc n) (union_json h d inner)
chosen_plain n (is_basic b) d inner h = null_plain (suc n)
chosen_plain n (is_enum ms) d inner h = null_plain (suc n)
chosen_plain n (is_struct ps) d inner h = null_plain (suc n)
chosen_plain n (is_union tag cs) d inner h = union_plain n _ _ (tag_plain n tag d) (arm_plain n _ inner h)
chosen_plain n (is_array k m) d inner h = null_plain (suc n)
chosen_plain n (is_array_up_to k m) d inner h = null_plain (suc n)
chosen_plain n (is_maybe k) d inner h = null_plain (suc n)
chosen_plain n is_unknown d inner h = null_plain (suc n)

list_plain : (n : ℕ) (h : Head) (parts : List Part → Members) (all : Kind → Items)
    → ((ps : List Part) → PlainMembers n (parts ps)) → ((k : Kind) → PlainItems n (all k))
    → Plain (suc n) (items_json h parts all)
list_plain n (is_basic b) parts all f g = null_plain (suc n)
list_plain n (is_enum ms) parts all f g = null_plain (suc n)
list_plain n (is_struct ps) parts all f g = object_plain n _ (f ps)
list_plain n (is_union tag cs) parts all f g = null_plain (suc n)
list_plain n (is_array k m) parts all f g = array_plain n _ (g k)
list_plain n (is_array_up_to k m) parts all f g = array_plain n _ (g k)
list_plain n (is_maybe k) parts all f g = null_plain (suc n)
list_plain n is_unknown parts all f g = null_plain (suc n)

item_plain : (n : ℕ) (j : Json) (js : Items) → Plain n j → PlainItems n js → PlainItems n (item j js)
item_plain n j js one others =
    record {
      whole = neither (has_float j) (items_have_float js) one.whole others.whole;
      shallow = max-le one.shallow others.shallow;
    }

one_plain : (n : ℕ) (h : Head) (inner : Kind → Json) → ((k : Kind) → Plain n (inner k))
    → Plain (suc n) (maybe_json h inner)
one_plain n (is_basic b) inner h = null_plain (suc n)
one_plain n (is_enum ms) inner h = null_plain (suc n)
one_plain n (is_struct ps) inner h = null_plain (suc n)
one_plain n (is_union tag cs) inner h = null_plain (suc n)
one_plain n (is_array k m) inner h = null_plain (suc n)
one_plain n (is_array_up_to k m) inner h = null_plain (suc n)
one_plain n (is_maybe k) inner h = array_plain n _ (item_plain n _ _ (h k) (no_items_plain n))
one_plain n is_unknown inner h = null_plain (suc n)

mutual
  -- the JSON of a value nests at most one deeper than the value, and has no float
  pub json_plain : (t : Types) (k : Kind) (d : Datum) (n : ℕ) → depth d ≤ n → Plain (suc n) (json_of t k d)
  json_plain t k (number z) n h = number_plain (suc n) (head_of t k) z
  json_plain t k (flag b) n h = record { whole = refl; shallow = omega arith }
  json_plain t k (octets bytes) n h = octets_plain n (is_text (head_of t k)) bytes
  json_plain t k (items vs) zero h = absurd (omega (arith, h))
  json_plain t k (items vs) (suc n) h =
      let less : depths vs ≤ n = omega (arith, h) in
      list_plain (suc n) (head_of t k) _ _ (λ ps. members_plain t ps vs no_members n less (no_members_plain (suc n)))
      (λ e. elements_plain t e vs n less)
  json_plain t k (union tag arm) zero h = absurd (omega (arith, h))
  json_plain t k (union tag arm) (suc n) h =
      let less : depth arm ≤ n = omega (arith, h) in
      chosen_plain (suc n) (head_of t k) tag _ (λ e. json_plain t e arm n less)
  json_plain t k none n h = array_plain n no_items (no_items_plain n)
  json_plain t k (some d) zero h = absurd (omega (arith, h))
  json_plain t k (some d) (suc n) h =
      let less : depth d ≤ n = omega (arith, h) in
      one_plain (suc n) (head_of t k) _ (λ e. json_plain t e d n less)
  json_plain t k nothing n h = null_plain (suc n)

  members_plain : (t : Types) (ps : List Part) (vs : Data) (ms : Members) (n : ℕ) → depths vs ≤ n
      → PlainMembers (suc n) ms → PlainMembers (suc n) (members_json t ps vs ms)
  members_plain t [] vs ms n h plain = plain
  members_plain t (p ∷ ps) end ms n h plain = plain
  members_plain t (p ∷ ps) (more v vs) ms n h plain =
      let first = le-max_left (depth v) (depths vs) in
      let others = le-max_right (depth v) (depths vs) in
      members_plain t ps vs _ n (omega (arith, h, others))
      (put_plain (suc n) p.name _ ms (json_plain t p.kind v n (omega (arith, h, first))) plain)

  elements_plain : (t : Types) (k : Kind) (vs : Data) (n : ℕ) → depths vs ≤ n
      → PlainItems (suc n) (elements_json t k vs)
  elements_plain t k end n h = no_items_plain (suc n)
  elements_plain t k (more v vs) n h =
      let first = le-max_left (depth v) (depths vs) in
      let others = le-max_right (depth v) (depths vs) in
      item_plain (suc n) _ _ (json_plain t k v n (omega (arith, h, first)))
      (elements_plain t k vs n (omega (arith, h, others)))
