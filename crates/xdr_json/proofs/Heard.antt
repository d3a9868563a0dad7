-- JSON that says a value which fits is judged to be the value.
use Rattle.std.proofs.Common.{◌≡◌, ℕ, ℤ, suc, ◌+◌, ◌^◌, ◌==◌, ◌&&◌, List, [], ◌∷◌, length, true, false, Some, Ok}
use Rattle.std.proofs.Common.{bytes_eq, leb, ltb, inl, inr, refl, ap, subst}
use Rattle.std.proofs.lemmas.Bool.{and_parts, and_from, eq-eqb}
use Rattle.std.proofs.lemmas.Slice.Eq.{bytes_eq-Decides}
use Rattle.std.specs.Prelude.{codes}
use Rattle.std.specs.List.{AllByRecursion, IsDistinct}
use Rattle.serde_json.specs.Data.{Data as Json, Items, Members}
use Rattle.serde_json.specs.Data as json
use Rattle.serde_json.specs.Events.{items_len, members_len}
use Rattle.xdr_value.specs.declared.ty.Basic.TheVariants as basics
use Rattle.xdr_value.specs.Data.{Kind, Part, Datum, Data, Types}
use Rattle.xdr_value.specs.Heads.{Tag, Head, is_basic, arm_of, arm_kind}
use Rattle.xdr_value.specs.Hollow.{list_limit}
use Rattle.xdr_value.specs.Facts.{names_of}
use Rattle.xdr_value.specs.Fits.{Fits, count, tag_number}
use Rattle.xdr_value.specs.Fitting.{number_fits, octets_fit, items_fit, maybe_fits, tag_fits, arm_fits, union_fits}
use Rattle.xdr_value.specs.Fitting.{does_fit, parts_fit, all_fit}
use Rattle.xdr_value.proofs.FitsLaw.{fits_is}
use Rattle.xdr_json.specs.Judging.{member_number, tag_of_json, all_there, parts_judged, judged, elements_judged}
use Rattle.xdr_json.specs.Judging.{member_judge}
use Rattle.xdr_json.specs.Says.{IsMember, SaysTag, int_tag, uint_tag, bool_tag, enum_tag, Says, whole_number}
use Rattle.xdr_json.specs.Says.{true_or_false, void_is_null, name_of_member, hex_digits, hex_digits_up_to, as_it_stands}
use Rattle.xdr_json.specs.Says.{text_in_hex, elements, elements_up_to, fields, tag_and_arm, no_data, one_datum}
use Rattle.xdr_json.specs.Says.{SaysParts, no_part, one_part, SaysAll, no_element, one_element, TextSays}
use Rattle.xdr_json.specs.Answers.{value_in}
use Rattle.xdr_json.proofs.Fields.{judge_of}
use Rattle.xdr_json.proofs.Names.{TagSound, HeadSound, Forms, head_sound}

-- what holds of the names of all members holds of one
of_member : (P : List ℕ → Type 0) (ms : List (List ℕ × ℤ)) (name : List ℕ) (z : ℤ) → AllByRecursion P (names_of ms)
    → IsMember ms name z → P name
of_member P [] name z all is = absurd is
of_member P (m ∷ ms) name z all (inl same) = subst P same.0 all.0
of_member P (m ∷ ms) name z all (inr behind) = of_member P ms name z all.1 behind

-- a member is found by its name
member_found : (ms : List (List ℕ × ℤ)) (name : List ℕ) (z : ℤ) → IsDistinct bytes_eq (names_of ms)
    → IsMember ms name z → member_number ms name ≡ Some z
unfolding IsDistinct
member_found [] name z differ is = absurd is
member_found (m ∷ ms) name z differ (inl same) =
    rw ((bytes_eq-Decides m.0 name).1 same.0) (ap (λ (y : ℤ). Some y) same.1)
member_found (m ∷ ms) name z differ (inr behind) =
    let apart : bytes_eq m.0 name ≡ false = of_member (λ y. bytes_eq m.0 y ≡ false) ms name z differ.0 behind in
    rw apart (member_found ms name z differ.1 behind)

tag_heard : (tag : Tag) (j : Json) (d : Datum) → TagSound tag → SaysTag tag j d → tag_fits tag d ≡ true
    → tag_of_json tag j ≡ Some d
tag_heard tag j d sound (int_tag n z int) fit = rw (int, fit) refl
tag_heard tag j d sound (uint_tag n z int) fit = rw (int, fit) refl
tag_heard tag j d sound (bool_tag b) fit = refl
tag_heard tag j d sound (enum_tag ms name z is) fit = rw (member_found ms name z sound.0 is) refl

counted : (t : Types) (k : Kind) (js : Items) (ds : Data) → SaysAll t k js ds → items_len js ≡ count ds
counted t k js ds (no_element k') = refl
counted t k js ds (one_element k' j js' d ds' first others) = ap suc (counted t k js' ds' others)

there : (t : Types) (ps : List Part) (ms : Members) (ds : Data) → SaysParts t ps ms ds → all_there ps ms ≡ true
there t ps ms ds (no_part ms') = refl
there t ps ms ds (one_part p ps' ms' j d ds' has first others) = rw (has, there t ps' ms ds' others) refl

at_head : (P : Head → Type 0) (h g : Head) → h ≡ g → P h → P g
at_head P h g is p = subst P is p

mutual
  -- JSON that says a value which fits is judged to be the value
  pub said_judged : (t : Types) → Forms t → (k : Kind) (j : Json) (d : Datum) → Says t k j d → does_fit t k d ≡ true
      → judged t j k ≡ Ok d
  said_judged t sound k j d (whole_number k' b n z is nums int) fit =
      let fits : number_fits (is_basic b) z ≡ true = at_head (λ h. number_fits h z ≡ true) _ _ is fit in
      rw (is, int, fits) refl
  said_judged t sound k j d (true_or_false k' b is) fit = rw is refl
  said_judged t sound k j d (void_is_null k' is) fit = rw is refl
  said_judged t sound k j d (name_of_member k' ms name z is member) fit =
      let enum = at_head HeadSound _ _ is (head_sound t sound k) in
      rw (is, member_found ms name z enum.0 member) refl
  said_judged t sound k j d (hex_digits k' n digits bytes is hex) fit =
      let fits : octets_fit (is_basic (basics.Opaque n)) (length bytes) ≡ true =
      at_head (λ h. octets_fit h (length bytes) ≡ true) _ _ is fit in
      rw (is, hex, fits) refl
  said_judged t sound k j d (hex_digits_up_to k' n digits bytes is hex) fit =
      let fits : octets_fit (is_basic (basics.OpaqueUpTo n)) (length bytes) ≡ true =
      at_head (λ h. octets_fit h (length bytes) ≡ true) _ _ is fit in
      rw (is, hex, fits) refl
  said_judged t sound k j d (as_it_stands k' n bytes is) fit =
      let fits : octets_fit (is_basic (basics.Text n)) (length bytes) ≡ true =
      at_head (λ h. octets_fit h (length bytes) ≡ true) _ _ is fit in
      rw (is, fits) refl
  said_judged t sound k j d (text_in_hex k' n ms digits bytes is one has hex) fit =
      let fits : octets_fit (is_basic (basics.Text n)) (length bytes) ≡ true =
      at_head (λ h. octets_fit h (length bytes) ≡ true) _ _ is fit in
      rw (is, one, has, hex, fits) refl
  said_judged t sound k j d (elements k' e n js ds is all) fit =
      let both = and_parts (count ds == n) (all_fit t e ds)
      (at_head (λ h. items_fit t h (λ ps. parts_fit t ps ds) (λ i. all_fit t i ds) (count ds) ≡ true) _ _ is fit) in
      rw (is, counted t e js ds all, both.0, all_judged t sound e js ds 0 all both.1) refl
  said_judged t sound k j d (elements_up_to k' e n js ds is all) fit =
      let both = and_parts (leb (count ds) (list_limit t e n) && ltb (count ds) (2 ^ 32)) (all_fit t e ds)
      (at_head (λ h. items_fit t h (λ ps. parts_fit t ps ds) (λ i. all_fit t i ds) (count ds) ≡ true) _ _ is fit) in
      rw (is, counted t e js ds all, both.0, all_judged t sound e js ds 0 all both.1) refl
  said_judged t sound k j d (fields k' ps ms ds is same parts) fit =
      let fits : parts_fit t ps ds ≡ true =
      at_head (λ h. items_fit t h (λ qs. parts_fit t qs ds) (λ i. all_fit t i ds) (count ds) ≡ true) _ _ is fit in
      let keys = and_from (members_len ms == length ps) (all_there ps ms) (eq-eqb _ _ same) (there t ps ms ds parts) in
      rw (is, keys, parts_heard t sound ps ms ds parts fits) refl
  said_judged t sound k j d (tag_and_arm k' tag cs ms case value chosen e c is two has said arm held inner) fit =
      let both = and_parts (tag_fits tag chosen) (arm_fits (arm_of (tag_number chosen) cs) (λ i. does_fit t i e))
      (at_head (λ h. union_fits h chosen (λ i. does_fit t i e) ≡ true) _ _ is fit) in
      let tag_sound = at_head HeadSound _ _ is (head_sound t sound k) in
      let found = tag_heard tag case chosen tag_sound said both.0 in
      let fits : does_fit t (arm_kind c) e ≡ true =
      subst (λ o. arm_fits o (λ i. does_fit t i e) ≡ true) arm both.1 in
      rw (
        is,
        two,
        judge_of t ms (codes "value"),
        has,
        held,
        found,
        arm,
        said_judged t sound (arm_kind c) value e
            inner fits,
      ) refl
  said_judged t sound k j d (no_data k' e is) fit = rw is refl
  said_judged t sound k j d (one_datum k' e i inner is said) fit =
      let fits : does_fit t e inner ≡ true = at_head (λ h. maybe_fits h (λ f. does_fit t f inner) ≡ true) _ _ is fit in
      rw (is, said_judged t sound e i inner said fits) refl

  parts_heard : (t : Types) → Forms t → (ps : List Part) (ms : Members) (ds : Data) → SaysParts t ps ms ds
      → parts_fit t ps ds ≡ true → parts_judged ps (member_judge t ms) ≡ Ok ds
  parts_heard t sound ps ms ds (no_part ms') fit = refl
  parts_heard t sound ps ms ds (one_part p ps' ms' j d ds' has first others) fit =
      let both = and_parts (does_fit t p.kind d) (parts_fit t ps' ds') fit in
      rw (
        judge_of t ms p.name,
        has,
        said_judged t sound p.kind j d first both.0,
        parts_heard t sound ps' ms ds' others both.1,
      ) refl

  all_judged : (t : Types) → Forms t → (k : Kind) (js : Items) (ds : Data) (i : ℕ) → SaysAll t k js ds
      → all_fit t k ds ≡ true → elements_judged t js k i ≡ Ok ds
  all_judged t sound k js ds i (no_element k') fit = refl
  all_judged t sound k js ds i (one_element k' j js' d ds' first others) fit =
      let both = and_parts (does_fit t k d) (all_fit t k ds') fit in
      rw (said_judged t sound k j d first both.0, all_judged t sound k js' ds' (i + 1) others both.1) refl

-- a text that says a value which fits is read as the value
pub text_heard : (t : Types) → Forms t → (k : Kind) (text : List ℕ) (d : Datum) → TextSays t k text d → Fits t k d
    → value_in t k text ≡ Some (Ok d)
text_heard t sound k text d said fit =
    let is = said_judged t sound k said.0 d said.2 ((fits_is t k d).1 fit) in
    rw (said.1, is) refl
