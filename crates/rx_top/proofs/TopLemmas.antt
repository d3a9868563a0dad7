-- Lemmas on a line that is put part by part, and on how a command ends.
use Rattle.std.proofs.Common.{◌≡◌, ◌+◌, ◌<◌, ◌≤◌, ◌++◌, ◌∷◌, ◌∙◌, ℕ, List, [], Option, Result, Ok, Err, true, false}
use Rattle.std.proofs.Common.{OnOk, OnErr, is_err, inl, inr, length, take, drop, get_or, ap, sym, subst}
use Rattle.std.proofs.lemmas.Grind.{flat_map-append}
use Rattle.std.proofs.lemmas.List.{append-nil, take-append-drop, take_all, take_more}
use Rattle.std.specs.List.{flat_map}
use Rattle.rx_base.specs.Sink.{Gained, GainedSome, HasRisen, IsPut}
use Rattle.rx_base.proofs.SinkLemmas.{gained_more, gained_some_front, gained_some_more}

-- what holds of a result that is no error holds
pub not_err : {T E : Type 0} (r : Result T E) (P : Type 0) → is_err r ≡ false → OnOk r P → P
not_err (Ok v) P is holds = holds
not_err (Err e) P is holds = absurd (cc)

-- what holds of a result that is an error holds
pub on_err : {T E : Type 0} (r : Result T E) (P : Type 0) → is_err r ≡ true → OnErr r P → P
on_err (Ok v) P is holds = absurd (cc)
on_err (Err e) P is holds = holds

module _ {X : Type 0} (f : X → List ℕ) (parts : List X) where
  -- the bytes of one part more
  bytes_more : (i : ℕ) (d : X) → i < length parts
      → flat_map f (take (i + 1) parts) ≡ flat_map f (take i parts) ++ f (get_or parts i d)
  bytes_more i d within =
      ap (flat_map f) (take_more parts i d within) ∙ flat_map-append f (take i parts) (get_or parts i d ∷ [])
      ∙ ap (λ (last : List ℕ). flat_map f (take i parts) ++ last) (append-nil (f (get_or parts i d)))

  -- the bytes of the parts so far and of those to come
  bytes_split : (i : ℕ) → flat_map f (take i parts) ++ flat_map f (drop i parts) ≡ flat_map f parts
  bytes_split i = sym (flat_map-append f (take i parts) (drop i parts)) ∙ ap (flat_map f) (take-append-drop i parts)

  -- one part more was put
  pub gained_part : (a b c : Option (List ℕ)) (i : ℕ) (d : X) (part : List ℕ) → i < length parts
      → Gained a b (flat_map f (take i parts)) → part ≡ f (get_or parts i d) → Gained b c part
      → Gained a c (flat_map f (take (i + 1) parts))
  gained_part a b c i d part within before is put = subst (Gained a c) (sym (bytes_more i d within))
      (gained_more a b c (flat_map f (take i parts)) (f (get_or parts i d)) before (subst (Gained b c) is put))

  -- the put of the next part failed, so the first bytes of all were put
  gained_some_parts : (a b c : Option (List ℕ)) (i : ℕ) (d : X) (part : List ℕ) → i < length parts
      → Gained a b (flat_map f (take i parts)) → part ≡ f (get_or parts i d) → GainedSome b c part
      → GainedSome a c (flat_map f parts)
  gained_some_parts a b c i d part within before is put =
      let first : GainedSome a c (flat_map f (take (i + 1) parts)) =
      subst (GainedSome a c) (sym (bytes_more i d within))
      (gained_some_more a b c (flat_map f (take i parts)) (f (get_or parts i d)) before
      (subst (GainedSome b c) is put)) in
      subst (GainedSome a c) (bytes_split (i + 1))
      (gained_some_front a c (flat_map f (take (i + 1) parts)) (flat_map f (drop (i + 1) parts)) first)

  -- all the parts were put
  pub all_put : (a b : Option (List ℕ)) (old new i : ℕ) → length parts ≤ i
      → Gained a b (flat_map f (take i parts)) → new ≡ old → IsPut a b old new (flat_map f parts)
  all_put a b old new i whole put same = inl (subst (Gained a b) (ap (flat_map f) (take_all i parts whole)) put, same)

  -- the put of the next part failed
  pub some_put : (a b c : Option (List ℕ)) (old now new i : ℕ) (d : X) (part : List ℕ) → i < length parts
      → Gained a b (flat_map f (take i parts)) → now ≡ old → part ≡ f (get_or parts i d)
      → GainedSome b c part → HasRisen now new → IsPut a c old new (flat_map f parts)
  some_put a b c old now new i d part within before same is put risen = inr (
    gained_some_parts a b c i d part within before is put,
    subst (λ (count : ℕ). HasRisen count new) same risen,
  )
