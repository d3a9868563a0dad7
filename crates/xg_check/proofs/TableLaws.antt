-- The tags of types found one by one, along an order in which each stands behind those that it holds.
use Rattle.std.proofs.Common.{◌≡◌, ℕ, zero, suc, ◌+◌, ◌<◌, ◌≤◌, Bool, false, List, [], ◌∷◌, length, set, replicate}
use Rattle.std.proofs.Common.{slice_get, Option, Some, None, unwrap_or, option_and_then, refl, sym, ap, subst, ◌∙◌}
use Rattle.std.proofs.Common.{arith, ◌⊎◌, inl, inr}
use Rattle.std.proofs.lemmas.List.{length-set, length-replicate}
use Rattle.std.proofs.lemmas.Option.{slice_get_within}
use Rattle.xg_parse.specs.declared.tree.TypeWord.{TypeWord}
use Rattle.xg_parse.specs.declared.tree.TypeWord.TheVariants as types
use Rattle.xg_parse.specs.declared.tree.Form.{Form}
use Rattle.xg_parse.specs.declared.tree.Form.TheVariants as forms
use Rattle.xg_parse.specs.declared.tree.Part.{Part}
use Rattle.xg_parse.specs.declared.tree.Part.TheVariants as parts
use Rattle.xg_check.specs.declared.types.Ways.TheVariants as ways
use Rattle.xg_check.specs.declared.tags.Tag.{Tag}
use Rattle.xg_check.specs.declared.tags.Tag.TheVariants as tags
use Rattle.xg_check.specs.Constants.{one_or_none}
use Rattle.xg_check.specs.Typed.{word_place, form_word, part_places, type_ways}
use Rattle.xg_check.specs.Graphs.{Step, Ends, AreOrdered}
use Rattle.xg_check.specs.Tags.{place_tag, word_tag, form_tag, part_tag, tag_within, tag_at}
use Rattle.xg_check.specs.Held.{held_tag, AreTagged}
use Rattle.xg_check.proofs.GraphLaws.{marked_end}
use Rattle.xg_check.proofs.SearchLaws.{same_or_not, set_here, set_there, mark_at}
use Rattle.xg_check.proofs.OrderLaws.{the_same}
use Rattle.xg_check.proofs.EndlessLaws.{Among}
use Rattle.xg_check.proofs.HeldLaws.{step_of, of_step, part_tag_same, tag_step}
use Rattle.xg_check.proofs.ValueLaws.{item_at}

of_replicate : {A : Type 0} (n i : ℕ) (x y : A) → slice_get (replicate n x) i ≡ Some y → x ≡ y
of_replicate zero i x y e = absurd cc
of_replicate (suc n) zero x y e = cc
of_replicate (suc n) (suc i) x y e = of_replicate n i x y e

nothing : (j : ℕ) → Among [] j → ⊥
nothing j a = let e : slice_get [] a.0 ≡ Some j = a.1 in absurd cc

module _ (ts : List Part) where
  no_tag_word : (f : ℕ → Tag) (t : TypeWord) (j : ℕ) → Among (one_or_none (word_place ts t)) j → f j ≡ tags.Other
      → word_tag f ts t ≡ tags.Other
  no_tag_word f (types.Base words) j a none = absurd (nothing j a)
  no_tag_word f (types.Name name) j a none = by_place (word_place ts (types.Name name)) a
    where
      by_place : (o : Option ℕ) → Among (one_or_none o) j → place_tag f o ≡ tags.Other
      by_place None b = refl
      by_place (Some k) b = by_first b.0 b.1
        where
          by_first : (p : ℕ) → slice_get (k ∷ []) p ≡ Some j → f k ≡ tags.Other
          by_first zero e = let is : k ≡ j = cc in ap f is ∙ none
          by_first (suc p) e = absurd cc

  no_tag_form : (f : ℕ → Tag) (form : Form) (j : ℕ)
      → Among (one_or_none (option_and_then (word_place ts) (form_word ways.Held form))) j → f j ≡ tags.Other
      → form_tag (word_tag f ts) form ≡ tags.Other
  no_tag_form f (forms.Plain t) j a none = no_tag_word f t j a none
  no_tag_form f (forms.Star t) j a none = refl
  no_tag_form f (forms.Fixed t size) j a none = refl
  no_tag_form f (forms.UpTo t most) j a none = refl
  no_tag_form f (forms.Opaque size) j a none = refl
  no_tag_form f (forms.OpaqueUpTo most) j a none = refl
  no_tag_form f (forms.Text most) j a none = refl

  no_tag_part : (f : ℕ → Tag) (i : ℕ) (p : Part) (j : ℕ) → Among (part_places ts ways.Held p) j → f j ≡ tags.Other
      → part_tag (word_tag f ts) i (Some p) ≡ tags.Other
  no_tag_part f i (parts.Typedef decl) j a none = no_tag_form f decl.form j a none
  no_tag_part f i (parts.Enum name members) j a none = absurd (nothing j a)
  no_tag_part f i (parts.Struct name fields) j a none = refl
  no_tag_part f i (parts.Union name tag tag_name arms otherwise) j a none = refl
  no_tag_part f i (parts.Package name) j a none = refl
  no_tag_part f i (parts.Prefix name) j a none = refl
  no_tag_part f i (parts.StatIndex number) j a none = refl
  no_tag_part f i (parts.StartingOpcode number) j a none = refl
  no_tag_part f i (parts.Const name value) j a none = refl
  no_tag_part f i (parts.Proc name args kind opcode) j a none = refl

  -- a type of which some way doesn't end is the tag of no union
  no_tag : (nodes : List ℕ) (ended : List Bool) → AreOrdered (type_ways ts ways.Held) nodes ended → (n i : ℕ)
      → slice_get ended i ≡ Some false → tag_within n ts i ≡ tags.Other
  unfolding tag_within
  no_tag nodes ended o zero i idle = refl
  no_tag nodes ended o (suc n) i idle =
      let s = o.stuck i idle in
      by_read s.0 (slice_get ts i) refl s.1 (no_tag nodes ended o n s.0 s.2)
    where
      by_read : (j : ℕ) (p : Option Part) → slice_get ts i ≡ p → Step (type_ways ts ways.Held) i j
          → tag_within n ts j ≡ tags.Other → part_tag (word_tag (tag_within n ts) ts) i p ≡ tags.Other
      by_read j None at s none = refl
      by_read j (Some p) at s none = no_tag_part (tag_within n ts) i p j (of_step ts i p at j s) none

  pub none_tagged : (nodes : List ℕ) → AreTagged ts nodes 0 (replicate (length ts) tags.Other)
  none_tagged nodes = record {
    size = length-replicate (length ts) tags.Other;
    done = λ m i lt e. absurd (omega (arith, lt));
    others = λ i t e. inr (sym (of_replicate (length ts) i tags.Other t e));
  }

  module _ (nodes : List ℕ) (ended : List Bool) (o : AreOrdered (type_ways ts ways.Held) nodes ended) where
    earlier : (k m i j : ℕ) → slice_get nodes k ≡ Some i → slice_get nodes m ≡ Some j → (j ≡ i → ⊥) → m < k + 1 → m < k
    earlier k m i j here e ne lt = by_place (same_or_not m k)
      where
        by_place : (m ≡ k) ⊎ (m ≡ k → ⊥) → m < k
        by_place (inl is_k) =
            let at_k : slice_get nodes k ≡ Some j = subst (λ (q : ℕ). slice_get nodes q ≡ Some j) is_k e in
            absurd (ne (the_same (slice_get nodes k) j i at_k here))
        by_place (inr differ) = omega (arith, differ, lt)

    pub tagged_more : (k i : ℕ) (p : Part) (found : List Tag) → AreTagged ts nodes k found → slice_get nodes k ≡ Some i
        → slice_get ts i ≡ Some p → (t : Tag) → t ≡ part_tag (word_tag (held_tag found) ts) i (Some p)
        → AreTagged ts nodes (k + 1) (set found i t)
    tagged_more k i p found f here at t e = record {
      size = length-set found i t ∙ f.size;
      done = done;
      others = others;
    }
      where
        ends_here : Ends (type_ways ts ways.Held) i
        ends_here = marked_end (type_ways ts ways.Held) nodes ended o i (o.there k i here)

        from : (j : ℕ) → Among (part_places ts ways.Held p) j → held_tag found j ≡ tag_at ts j
        from j a =
            let b = o.behind k i j here (step_of ts i p at j a) in
            ap (λ (x : Option Tag). unwrap_or x tags.Other) (f.done b.0 j b.1 b.2)

        is : t ≡ tag_at ts i
        is = e ∙ part_tag_same ts (held_tag found) (tag_at ts) i p from ∙ sym (tag_step ts i p at ends_here)

        now : slice_get (set found i t) i ≡ Some (tag_at ts i)
        now = set_here found i t (omega (arith, slice_get_within ts i p at, f.size)) ∙ ap Some is

        done : (m j : ℕ) → m < k + 1 → slice_get nodes m ≡ Some j → slice_get (set found i t) j ≡ Some (tag_at ts j)
        done m j lt x = elim (same_or_not j i) [
          | inl same ↦ subst (λ (q : ℕ). slice_get (set found i t) q ≡ Some (tag_at ts q)) (sym same) now
          | inr ne ↦ set_there found i j t ne ∙ f.done m j (earlier k m i j here x ne lt) x
        ]

        others : (j : ℕ) (u : Tag) → slice_get (set found i t) j ≡ Some u → (u ≡ tag_at ts j) ⊎ (u ≡ tags.Other)
        others j u x = elim (same_or_not j i) [
          | inl same ↦
              let here_u : slice_get (set found i t) i ≡ Some u =
              subst (λ (q : ℕ). slice_get (set found i t) q ≡ Some u) same x in
              inl (the_same (slice_get (set found i t) i) u (tag_at ts i) here_u now ∙ ap (tag_at ts) (sym same))
          | inr ne ↦ f.others j u (sym (set_there found i j t ne) ∙ x)
        ]

    pub all_tagged : (k : ℕ) (found : List Tag) → AreTagged ts nodes k found → length nodes ≤ k
        → length (type_ways ts ways.Held) ≡ length ts → (i : ℕ) → i < length ts
        → slice_get found i ≡ Some (tag_at ts i)
    unfolding tag_at
    all_tagged k found f le size i lt = elim (mark_at ended i (omega (arith, lt, o.size, size))) [
      | inl marked ↦
          let m = o.place i marked in f.done m.0 i (omega (arith, slice_get_within nodes m.0 i m.1, le)) m.1
      | inr idle ↦
          let x = item_at found i (omega (arith, lt, f.size)) in
          x.1 ∙ ap Some (elim (f.others i x.0 x.1) [
            | inl is ↦ is
            | inr is ↦ is ∙ sym (no_tag nodes ended o (length ts) i idle)
          ])
    ]
