-- The members that are printed of a struct, found again by their names.
use Rattle.std.proofs.Common.{◌≡◌, ℕ, zero, suc, max, ◌+◌, ◌≤◌, ◌<◌, unwrap_or, ◌&&◌, List, [], ◌∷◌, length, map, Bool}
use Rattle.std.proofs.Common.{true, false, Option, Some, None, option_map, Ordering, Less, Equal, Greater, true≢false}
use Rattle.std.proofs.Common.{bytes_eq, refl, sym, ap, ◌∙◌, arith}
use Rattle.std.proofs.lemmas.Slice.Eq.{bytes_eq-Decides}
use Rattle.std.specs.List.{AllByRecursion, IsDistinct}
use Rattle.std.specs.Ordering.{nat_cmp, match_ordering}
use Rattle.std.specs.Cmp.Lexicographic.{slice_cmp}
use Rattle.serde_json.specs.Data.{Data as Json, Members, put, no_members, member, depth, members_depth}
use Rattle.serde_json.specs.Find.{get_member}
use Rattle.serde_json.specs.Events.{members_len}
use Rattle.serde_json.proofs.Views.{get_member-put, get_member-put_other}
use Rattle.std.proofs.Math.Nat.{le-max_left, le-max_right}
use Rattle.xdr_value.specs.Data.{Kind, Part, Datum, Data, end, more, Types}
use Rattle.xdr_value.specs.Fitting.{does_fit, parts_fit}
use Rattle.std.proofs.lemmas.Bool.{and_parts, eq-eqb}
use Rattle.xdr_json.specs.Json.{json_of, members_json}
use Rattle.xdr_json.specs.Judged.{Judged, misfit}
use Rattle.xdr_json.specs.Judging.{Judge, optional_judged, all_there, has_fields, judged, member_judge}

-- what judges a member is found as the member is
at_order : (o : Ordering) (t : Types) (j : Json) (r : Option Judge) (found : Option Json)
    → r ≡ option_map (judged t) found
    → match_ordering o r (Some (judged t j)) r ≡ option_map (judged t) (match_ordering o found (Some j) found)
at_order Less t j r found is = is
at_order Equal t j r found is = refl
at_order Greater t j r found is = is

pub judge_of : (t : Types) (ms : Members) (name : List ℕ)
    → member_judge t ms name ≡ option_map (judged t) (get_member name ms)
judge_of t no_members name = refl
judge_of t (member l j ms) name = at_order (slice_cmp nat_cmp name l) t j _ _ (judge_of t ms name)

abbrev pub names : List Part → List (List ℕ)
names ps = map (λ (p : Part). p.name) ps

-- none of the fields is a member yet
abbrev NoneIn : List Part → Members → Type 0
NoneIn [] ms = Unit {0}
NoneIn (p ∷ ps) ms = (get_member p.name ms ≡ None) × NoneIn ps ms

apart : (x y : List ℕ) → bytes_eq x y ≡ false → y ≡ x → ⊥
apart x y test same = true≢false (sym ((bytes_eq-Decides x y).1 (sym same)) ∙ test)

still_none : (k : List ℕ) (j : Json) (ps : List Part) (ms : Members)
    → AllByRecursion (λ y. bytes_eq k y ≡ false) (names ps) → NoneIn ps ms → NoneIn ps (put k j ms)
still_none k j [] ms differ none = tt
still_none k j (p ∷ ps) ms differ none =
    (get_member-put_other p.name k j ms (apart k p.name differ.0) ∙ none.0, still_none k j ps ms differ.1 none.1)

-- a member that no field is stays
stays : (t : Types) (ps : List Part) (vs : Data) (ms : Members) (q : List ℕ)
    → AllByRecursion (λ y. bytes_eq q y ≡ false) (names ps)
    → get_member q (members_json t ps vs ms) ≡ get_member q ms
stays t [] vs ms q differ = refl
stays t (p ∷ ps) end ms q differ = refl
stays t (p ∷ ps) (more v vs) ms q differ =
    stays t ps vs _ q differ.1
    ∙ get_member-put_other q p.name (json_of t p.kind v) ms (λ same. apart q p.name differ.0 (sym same))

-- each field's member is the JSON of its value
abbrev pub HasAll : Types → List Part → Data → Members → Type 0
HasAll t [] vs ms = Unit {0}
HasAll t (p ∷ ps) end ms = ⊥
HasAll t (p ∷ ps) (more v vs) ms = (get_member p.name ms ≡ Some (json_of t p.kind v)) × HasAll t ps vs ms

pub has_all : (t : Types) (ps : List Part) (vs : Data) (ms : Members) → IsDistinct bytes_eq (names ps)
    → parts_fit t ps vs ≡ true → HasAll t ps vs (members_json t ps vs ms)
unfolding IsDistinct
has_all t [] end ms differ fit = tt
has_all t [] (more v vs) ms differ fit = tt
has_all t (p ∷ ps) end ms differ fit = absurd (true≢false (sym fit))
has_all t (p ∷ ps) (more v vs) ms differ fit =
    let parts = and_parts (does_fit t p.kind v) (parts_fit t ps vs) fit in (
      stays t ps vs (put p.name (json_of t p.kind v) ms) p.name differ.0
          ∙ get_member-put p.name (json_of t p.kind v) ms,
      has_all t ps vs (put p.name (json_of t p.kind v) ms) differ.1 parts.1,
    )

len_at : (o : Ordering) (k l : List ℕ) (j i : Json) (ms : Members)
    → match_ordering o (get_member k ms) (Some i) (get_member k ms) ≡ None
    → (get_member k ms ≡ None → members_len (put k j ms) ≡ suc (members_len ms))
    → members_len (match_ordering o (member k j (member l i ms)) (member l j ms) (member l i (put k j ms)))
    ≡ suc (suc (members_len ms))
len_at Less k l j i ms none go = refl
len_at Equal k l j i ms none go = cc none
len_at Greater k l j i ms none go = ap suc (go none)

-- a new name is one member more
put_len : (k : List ℕ) (j : Json) (ms : Members) → get_member k ms ≡ None
    → members_len (put k j ms) ≡ suc (members_len ms)
put_len k j no_members none = refl
put_len k j (member l i ms) none = len_at (slice_cmp nat_cmp k l) k l j i ms none (put_len k j ms)

members_counted : (t : Types) (ps : List Part) (vs : Data) (ms : Members) → IsDistinct bytes_eq (names ps)
    → NoneIn ps ms → parts_fit t ps vs ≡ true
    → members_len (members_json t ps vs ms) ≡ length ps + members_len ms
unfolding IsDistinct
members_counted t [] end ms differ none fit = omega arith
members_counted t [] (more v vs) ms differ none fit = absurd (true≢false (sym fit))
members_counted t (p ∷ ps) end ms differ none fit = absurd (true≢false (sym fit))
members_counted t (p ∷ ps) (more v vs) ms differ none fit =
    let j = json_of t p.kind v in
    let parts = and_parts (does_fit t p.kind v) (parts_fit t ps vs) fit in
    let one = put_len p.name j ms none.0 in
    let others = members_counted t ps vs (put p.name j ms) differ.1 (still_none p.name j ps ms differ.0 none.1)
    parts.1 in
    omega (arith, one, others)

there : (t : Types) (ps : List Part) (vs : Data) (ms : Members) → HasAll t ps vs ms → all_there ps ms ≡ true
there t [] vs ms has = refl
there t (p ∷ ps) end ms has = absurd has
there t (p ∷ ps) (more v vs) ms has = rw (has.0, there t ps vs ms has.1) refl

none_yet : (ps : List Part) → NoneIn ps no_members
none_yet [] = tt
none_yet (p ∷ ps) = (refl, none_yet ps)

both_true : {a b : Bool} → a ≡ true → b ≡ true → (a && b) ≡ true
both_true {a} {b} first second = rw (first, second) refl

-- the keys are exactly the fields
pub fields_there : (t : Types) (ps : List Part) (vs : Data) → IsDistinct bytes_eq (names ps)
    → parts_fit t ps vs ≡ true → has_fields ps (members_json t ps vs no_members) ≡ true
fields_there t ps vs differ fit =
    let counted = members_counted t ps vs no_members differ (none_yet ps) fit in
    let same : members_len (members_json t ps vs no_members) ≡ length ps = omega (arith, counted) in
    both_true (eq-eqb _ _ same) (there t ps vs (members_json t ps vs no_members)
    (has_all t ps vs no_members differ fit))

depth_at : (o : Ordering) (j i : Json) (ms : Members) (name : List ℕ)
    → match_ordering o (get_member name ms) (Some i) (get_member name ms) ≡ Some j
    → (get_member name ms ≡ Some j → depth j ≤ members_depth ms)
    → depth j ≤ max (depth i) (members_depth ms)
depth_at Less j i ms name is go =
    let deep = go is in let most = le-max_right (depth i) (members_depth ms) in omega (arith, deep, most)
depth_at Equal j i ms name is go =
    let same : depth i ≡ depth j = ap (λ o. unwrap_or (option_map depth o) 0) is in
    let most = le-max_left (depth i) (members_depth ms) in omega (arith, same, most)
depth_at Greater j i ms name is go =
    let deep = go is in let most = le-max_right (depth i) (members_depth ms) in omega (arith, deep, most)

-- a member nests no deeper than the members
pub member_depth : (name : List ℕ) (j : Json) (ms : Members) → get_member name ms ≡ Some j → depth j ≤ members_depth ms
member_depth name j no_members is = cc is
member_depth name j (member l i ms) is = depth_at (slice_cmp nat_cmp name l) j i ms name is (member_depth name j ms)

-- more than one item is no optional data
pub many : (k : Kind) (n : ℕ) (first : Judged Datum) → 1 < n → optional_judged k n first ≡ misfit k
many k zero first lt = absurd (omega (arith, lt))
many k (suc zero) first lt = absurd (omega (arith, lt))
many k (suc (suc n)) first lt = refl
