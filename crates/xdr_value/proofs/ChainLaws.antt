-- Chains of aliases: what a name is, what stands behind it is.
use Rattle.std.proofs.Common.{◌≡◌, ℕ, zero, suc, ◌+◌, ◌-◌, ◌<◌, ◌≤◌, true, false, List, [], ◌∷◌, Option, Some}
use Rattle.std.proofs.Common.{None, length, get_or, set, take, string_bytes, refl, sym, ap, subst, ◌∙◌, arith}
use Rattle.std.specs.Str.{bytes_eq}
use Rattle.std.proofs.lemmas.Bool.{and_parts, and_from, false≢true}
use Rattle.std.proofs.lemmas.Slice.Eq.{bytes_eq-Decides}
use Rattle.std.proofs.Math.Seq.{map-set_same}
use Rattle.xdr_value.specs.Data.{Kind, basic, array, array_up_to, maybe, named, Form, alias, enum, struct, choice}
use Rattle.xdr_value.specs.Data.{Types}
use Rattle.xdr_value.specs.Data.{nothing}
use Rattle.xdr_value.specs.Heads.{is_unknown, form_named, head_of_form, head_within}
use Rattle.xdr_value.specs.Hollow.{form_hollow, name_hollow}
use Rattle.xdr_value.specs.Zero.{form_zero, name_zero}
use Rattle.xdr_value.specs.View.{def_of, form_of, types_of}
use Rattle.xdr_value.specs.Facts.{names_of}
use Rattle.xdr_value.specs.Tests.{differ as differs}
use Rattle.xdr_value.specs.Links.{name_at, through_kind, through_alias, name_behind, same_name, link_is, all_linked}
use Rattle.xdr_value.specs.declared.def.Def.{Def}
use Rattle.xdr_value.specs.declared.def.Link.{Link}
use Rattle.xdr_value.proofs.PlaceLaws.{named_there, place_within, shape_there}

-- ---- one alias

abbrev Next : (List ℕ → Option (List ℕ)) → Option Form → List ℕ → Type 0
Next go o u = (v : List ℕ) × (o ≡ Some (alias (named v))) × (go v ≡ Some u)

next_kind : (go : List ℕ → Option (List ℕ)) (k : Kind) (u : List ℕ) → through_kind go k ≡ Some u
    → Next go (Some (alias k)) u
next_kind go (basic b) u e = absurd cc
next_kind go (array k n) u e = absurd cc
next_kind go (array_up_to k n) u e = absurd cc
next_kind go (maybe k) u e = absurd cc
next_kind go (named v) u e = (v, refl, e)

next_alias : (go : List ℕ → Option (List ℕ)) (o : Option Form) (u : List ℕ) → through_alias go o ≡ Some u
    → Next go o u
next_alias go None u e = absurd cc
next_alias go (Some (alias k)) u e = next_kind go k u e
next_alias go (Some (enum ms)) u e = absurd cc
next_alias go (Some (struct ps)) u e = absurd cc
next_alias go (Some (choice k cs)) u e = absurd cc

next : (n : ℕ) (t : Types) (s u : List ℕ) → name_behind (suc n) t s ≡ Some u → Next (name_behind n t) (form_named s t) u
unfolding name_behind
next n t s u e = next_alias (name_behind n t) (form_named s t) u e

-- an alias of a name that is defined leads to that name
pub one_behind : (t : Types) (s u : List ℕ) → form_named s t ≡ Some (alias (named u)) → name_behind 1 t s ≡ Some u
unfolding name_behind
one_behind t s u e = rw e refl

pub none_behind : (t : Types) (s : List ℕ) → name_behind 0 t s ≡ Some s
unfolding name_behind
none_behind t s = refl

pub more_behind : (m n j : ℕ) (t : Types) (s u v : List ℕ) → j ≡ m + n → name_behind m t s ≡ Some u
    → name_behind n t u ≡ Some v → name_behind j t s ≡ Some v
unfolding name_behind
more_behind zero n j t s u v sum p q =
    let is : s ≡ u = cc in
    let same : j ≡ n = omega (arith, sum) in
    rw (same, is) q
more_behind (suc m) n zero t s u v sum p q = absurd (omega (arith, sum))
more_behind (suc m) n (suc j) t s u v sum p q =
    let h = next m t s u p in
    ap (through_alias (name_behind j t)) h.1 ∙ more_behind m n j t h.0 u v (omega (arith, sum)) h.2 q

-- ---- what a name comes to

head_behind : (k n m : ℕ) (t : Types) (s u : List ℕ) → n ≡ k + m → name_behind k t s ≡ Some u
    → head_within n t (named s) ≡ head_within m t (named u)
unfolding head_within name_behind
head_behind zero n m t s u sum e =
    let is : s ≡ u = cc in
    let same : n ≡ m = omega (arith, sum) in
    rw (same, is) refl
head_behind (suc k) zero m t s u sum e = absurd (omega (arith, sum))
head_behind (suc k) (suc n) m t s u sum e =
    let h = next k t s u e in
    ap (head_of_form (head_within n t)) h.1 ∙ head_behind k n m t h.0 u (omega (arith, sum)) h.2

head_lost : (k n : ℕ) (t : Types) (s u : List ℕ) → name_behind k t s ≡ Some u → n ≤ k
    → head_within n t (named s) ≡ is_unknown
unfolding head_within
head_lost k zero t s u e le = refl
head_lost zero (suc n) t s u e le = absurd (omega (arith, le))
head_lost (suc k) (suc n) t s u e le =
    let h = next k t s u e in
    ap (head_of_form (head_within n t)) h.1 ∙ head_lost k n t h.0 u h.2 (omega (arith, le))

hollow_behind : (k n m : ℕ) (t : Types) (s u : List ℕ) → n ≡ k + m → name_behind k t s ≡ Some u
    → name_hollow n t s ≡ name_hollow m t u
unfolding name_hollow name_behind
hollow_behind zero n m t s u sum e =
    let is : s ≡ u = cc in
    let same : n ≡ m = omega (arith, sum) in
    rw (same, is) refl
hollow_behind (suc k) zero m t s u sum e = absurd (omega (arith, sum))
hollow_behind (suc k) (suc n) m t s u sum e =
    let h = next k t s u e in
    ap (form_hollow (name_hollow n t)) h.1 ∙ hollow_behind k n m t h.0 u (omega (arith, sum)) h.2

hollow_lost : (k n : ℕ) (t : Types) (s u : List ℕ) → name_behind k t s ≡ Some u → n ≤ k → name_hollow n t s ≡ false
unfolding name_hollow
hollow_lost k zero t s u e le = refl
hollow_lost zero (suc n) t s u e le = absurd (omega (arith, le))
hollow_lost (suc k) (suc n) t s u e le =
    let h = next k t s u e in
    ap (form_hollow (name_hollow n t)) h.1 ∙ hollow_lost k n t h.0 u h.2 (omega (arith, le))

zero_behind : (k n m : ℕ) (t : Types) (s u : List ℕ) → n ≡ k + m → name_behind k t s ≡ Some u
    → name_zero n t s ≡ name_zero m t u
unfolding name_zero name_behind
zero_behind zero n m t s u sum e =
    let is : s ≡ u = cc in
    let same : n ≡ m = omega (arith, sum) in
    rw (same, is) refl
zero_behind (suc k) zero m t s u sum e = absurd (omega (arith, sum))
zero_behind (suc k) (suc n) m t s u sum e =
    let h = next k t s u e in
    ap (form_zero t (name_zero n t)) h.1 ∙ zero_behind k n m t h.0 u (omega (arith, sum)) h.2

zero_lost : (k n : ℕ) (t : Types) (s u : List ℕ) → name_behind k t s ≡ Some u → n ≤ k → name_zero n t s ≡ nothing
unfolding name_zero
zero_lost k zero t s u e le = refl
zero_lost zero (suc n) t s u e le = absurd (omega (arith, le))
zero_lost (suc k) (suc n) t s u e le =
    let h = next k t s u e in
    ap (form_zero t (name_zero n t)) h.1 ∙ zero_lost k n t h.0 u h.2 (omega (arith, le))

-- What the name is with n names followed, where k aliases lead from it to a name that stands for f.
pub record Told (t : Types) (n m : ℕ) (s : List ℕ) (o : Option Form) : Type 0 where
  pub heads : head_within n t (named s) ≡ head_of_form (head_within m t) o
  pub hollows : name_hollow n t s ≡ form_hollow (name_hollow m t) o
  pub zeros : name_zero n t s ≡ form_zero t (name_zero m t) o

head_one : (m : ℕ) (t : Types) (u : List ℕ) (o : Option Form) → form_named u t ≡ o
    → head_within (suc m) t (named u) ≡ head_of_form (head_within m t) o
unfolding head_within
head_one m t u o e = ap (head_of_form (head_within m t)) e

hollow_one : (m : ℕ) (t : Types) (u : List ℕ) (o : Option Form) → form_named u t ≡ o
    → name_hollow (suc m) t u ≡ form_hollow (name_hollow m t) o
unfolding name_hollow
hollow_one m t u o e = ap (form_hollow (name_hollow m t)) e

zero_one : (m : ℕ) (t : Types) (u : List ℕ) (o : Option Form) → form_named u t ≡ o
    → name_zero (suc m) t u ≡ form_zero t (name_zero m t) o
unfolding name_zero
zero_one m t u o e = ap (form_zero t (name_zero m t)) e

pub told : (t : Types) (n k m : ℕ) (s u : List ℕ) (o : Option Form) → n ≡ k + suc m → name_behind k t s ≡ Some u
    → form_named u t ≡ o → Told t n m s o
told t n k m s u o sum b e = record {
  heads = head_behind k n (suc m) t s u sum b ∙ head_one m t u o e;
  hollows = hollow_behind k n (suc m) t s u sum b ∙ hollow_one m t u o e;
  zeros = zero_behind k n (suc m) t s u sum b ∙ zero_one m t u o e;
}

pub told_lost : (t : Types) (n k m : ℕ) (s u : List ℕ) → name_behind k t s ≡ Some u → n ≤ k → Told t n m s None
told_lost t n k m s u b le = record {
  heads = head_lost k n t s u b le;
  hollows = hollow_lost k n t s u b le;
  zeros = zero_lost k n t s u b le;
}

head_none : (n : ℕ) (t : Types) (s : List ℕ) → form_named s t ≡ None → head_within n t (named s) ≡ is_unknown
unfolding head_within
head_none zero t s e = refl
head_none (suc n) t s e = ap (head_of_form (head_within n t)) e

hollow_none : (n : ℕ) (t : Types) (s : List ℕ) → form_named s t ≡ None → name_hollow n t s ≡ false
unfolding name_hollow
hollow_none zero t s e = refl
hollow_none (suc n) t s e = ap (form_hollow (name_hollow n t)) e

zero_none : (n : ℕ) (t : Types) (s : List ℕ) → form_named s t ≡ None → name_zero n t s ≡ nothing
unfolding name_zero
zero_none zero t s e = refl
zero_none (suc n) t s e = ap (form_zero t (name_zero n t)) e

pub told_none : (t : Types) (n m : ℕ) (s : List ℕ) → form_named s t ≡ None → Told t n m s None
told_none t n m s e = record { heads = head_none n t s e; hollows = hollow_none n t s e; zeros = zero_none n t s e }

-- where no name is followed
pub told_spent : (t : Types) (m : ℕ) (s : List ℕ) → Told t 0 m s None
unfolding head_within name_hollow name_zero
told_spent t m s = record { heads = refl; hollows = refl; zeros = refl }

-- ---- links

abbrev SameName : Option (List ℕ) → Option (List ℕ) → Type 0
SameName o p = (u : List ℕ) × (o ≡ Some u) × (p ≡ Some u)

same_is : (o p : Option (List ℕ)) → same_name o p ≡ true → SameName o p
same_is None p e = absurd (false≢true e)
same_is (Some s) None e = absurd (false≢true e)
same_is (Some s) (Some u) e =
    let is : s ≡ u = (bytes_eq-Decides s u).0 e in
    (u, ap (λ (x : List ℕ). Some x) is, refl)

is_same : (o p : Option (List ℕ)) (u : List ℕ) → o ≡ Some u → p ≡ Some u → same_name o p ≡ true
is_same o p u e f = rw (e, f) ((bytes_eq-Decides u u).1 refl)

-- what a link says
pub link_tells : (t : Types) (s : List ℕ) (link : Link) → link_is t s link ≡ true
    → (u : List ℕ) × (name_behind link.hops t s ≡ Some u) × (name_at link.end t ≡ Some u)
link_tells t s link h = same_is (name_behind link.hops t s) (name_at link.end t) h

pub link_says : (t : Types) (s u : List ℕ) (link : Link) → name_behind link.hops t s ≡ Some u
    → name_at link.end t ≡ Some u → link_is t s link ≡ true
link_says t s u link b e = is_same (name_behind link.hops t s) (name_at link.end t) u b e

pub linked_at : (t : Types) (ds : List Def) (i : ℕ) (d : Def) → all_linked t ds ≡ true → i < length ds
    → link_is t (string_bytes (get_or ds i d).name) (get_or ds i d).link ≡ true
linked_at t [] i d h lt = absurd (omega (arith, lt))
linked_at t (e ∷ ds) zero d h lt = (and_parts (link_is t (string_bytes e.name) e.link) (all_linked t ds) h).0
linked_at t (e ∷ ds) (suc i) d h lt =
    linked_at t ds i d (and_parts (link_is t (string_bytes e.name) e.link) (all_linked t ds) h).1 (omega (arith, lt))

-- one is given another link that is right
pub link_put : (t : Types) (ds : List Def) (i : ℕ) (d : Def) → all_linked t ds ≡ true
    → link_is t (string_bytes d.name) d.link ≡ true → all_linked t (set ds i d) ≡ true
link_put t [] i d h is = refl
link_put t (e ∷ ds) zero d h is =
    and_from (link_is t (string_bytes d.name) d.link) (all_linked t ds) is
    (and_parts (link_is t (string_bytes e.name) e.link) (all_linked t ds) h).1
link_put t (e ∷ ds) (suc i) d h is =
    let p = and_parts (link_is t (string_bytes e.name) e.link) (all_linked t ds) h in
    and_from (link_is t (string_bytes e.name) e.link) (all_linked t (set ds i d)) p.0 (link_put t ds i d p.1 is)

link_next : (t : Types) (ds : List Def) (i : ℕ) (d : Def) → all_linked t (take i ds) ≡ true → i < length ds
    → link_is t (string_bytes d.name) d.link ≡ true → all_linked t (take (suc i) (set ds i d)) ≡ true
link_next t [] i d h lt is = absurd (omega (arith, lt))
link_next t (e ∷ ds) zero d h lt is = and_from (link_is t (string_bytes d.name) d.link) true is refl
link_next t (e ∷ ds) (suc i) d h lt is =
    let p = and_parts (link_is t (string_bytes e.name) e.link) (all_linked t (take i ds)) h in
    and_from (link_is t (string_bytes e.name) e.link) (all_linked t (take (suc i) (set ds i d))) p.0
    (link_next t ds i d p.1 (omega (arith, lt)) is)

pub link_stays : (t : Types) (s : List ℕ) (at : ℕ) → name_at at t ≡ Some s
    → link_is t s (record { end = at; hops = 0 }) ≡ true
unfolding name_behind
link_stays t s at e = link_says t s s (record { end = at; hops = 0 }) refl e

pub link_one : (t : Types) (s u : List ℕ) (end : ℕ) → form_named s t ≡ Some (alias (named u)) → name_at end t ≡ Some u
    → link_is t s (record { end = end; hops = 1 }) ≡ true
link_one t s u end e at = link_says t s u (record { end = end; hops = 1 }) (one_behind t s u e) at

-- a definition is the same whatever its link is
abbrev pub relinked : Def → Link → Def
relinked d link = record { name = d.name; shape = d.shape; link = link }

pub put_same : (ds : List Def) (i : ℕ) (d : Def) (link : Link)
    → types_of (set ds i (relinked (get_or ds i d) link)) ≡ types_of ds
put_same ds i d link = map-set_same def_of ds i (relinked (get_or ds i d) link) d refl

abbrev Right : List Def → ℕ → Link → Type 0
Right ds i link = (s : List ℕ) → name_at i (types_of ds) ≡ Some s → link_is (types_of ds) s link ≡ true

pub put_linked : (ds : List Def) (i : ℕ) (d : Def) (link : Link) → i < length ds
    → all_linked (types_of ds) ds ≡ true → Right ds i link
    → all_linked (types_of (set ds i (relinked (get_or ds i d) link))) (set ds i (relinked (get_or ds i d) link)) ≡ true
put_linked ds i d link lt h right =
    subst (λ (t : Types). all_linked t (set ds i (relinked (get_or ds i d) link)) ≡ true) (sym (put_same ds i d link))
    (link_put (types_of ds) ds i (relinked (get_or ds i d) link) h
    (right (string_bytes (get_or ds i d).name) (named_there ds i d lt)))

pub put_next : (ds : List Def) (i : ℕ) (d : Def) (link : Link) → i < length ds
    → all_linked (types_of ds) (take i ds) ≡ true → Right ds i link
    → all_linked (types_of (set ds i (relinked (get_or ds i d) link)))
    (take (i + 1) (set ds i (relinked (get_or ds i d) link))) ≡ true
put_next ds i d link lt h right =
    let one : i + 1 ≡ suc i = omega arith in
    rw one (subst (λ (t : Types). all_linked t (take (suc i) (set ds i (relinked (get_or ds i d) link))) ≡ true)
    (sym (put_same ds i d link))
    (link_next (types_of ds) ds i (relinked (get_or ds i d) link) h lt
    (right (string_bytes (get_or ds i d).name) (named_there ds i d lt))))

-- the link of a definition, and where it ends
pub link_right : (ds : List Def) (i : ℕ) (d : Def) → all_linked (types_of ds) ds ≡ true → i < length ds
    → (s : List ℕ) → name_at i (types_of ds) ≡ Some s → link_is (types_of ds) s (get_or ds i d).link ≡ true
link_right ds i d h lt s e =
    let name : Some (string_bytes (get_or ds i d).name) ≡ Some s = sym (named_there ds i d lt) ∙ e in
    let same : string_bytes (get_or ds i d).name ≡ s = cc in
    subst (λ (x : List ℕ). link_is (types_of ds) x (get_or ds i d).link ≡ true) same
    (linked_at (types_of ds) ds i d h lt)

pub link_within : (ds : List Def) (i : ℕ) (d : Def) → all_linked (types_of ds) ds ≡ true → i < length ds
    → (get_or ds i d).link.end < length ds
link_within ds i d h lt =
    let a = link_tells (types_of ds) (string_bytes (get_or ds i d).name) (get_or ds i d).link
    (linked_at (types_of ds) ds i d h lt) in
    place_within ds (get_or ds i d).link.end a.0 a.2

-- the link to the end of the chain at the end of a link
pub longer : (t : Types) (s : List ℕ) (link next : Link) (hops : ℕ) → hops ≡ link.hops + next.hops
    → link_is t s link ≡ true → ((u : List ℕ) → name_at link.end t ≡ Some u → link_is t u next ≡ true)
    → link_is t s (record { end = next.end; hops = hops }) ≡ true
longer t s link next hops sum is right =
    let a = link_tells t s link is in
    let b = link_tells t a.0 next (right a.0 a.2) in
    link_says t s b.0 (record { end = next.end; hops = hops })
    (more_behind link.hops next.hops hops t s a.0 b.0 sum a.1 b.1) b.2

-- what stands at the end of the chain of a link
pub told_end : (ds es : List Def) (s : List ℕ) (link : Link) (d : Def) (n : ℕ) → ds ≡ es
    → differs bytes_eq (names_of (types_of es)) ≡ true → link_is (types_of ds) s link ≡ true → link.hops < n
    → Told (types_of es) n (n - link.hops - 1) s (Some (form_of (get_or ds link.end d).shape))
told_end ds es s link d n same differ is lt =
    let tells = link_tells (types_of ds) s link is in
    let sum : n ≡ link.hops + suc (n - link.hops - 1) = omega (arith, lt) in
    let there = shape_there ds link.end d tells.0
    (subst (λ (x : List Def). differs bytes_eq (names_of (types_of x)) ≡ true) (sym same) differ) tells.2 in
    subst (λ (x : List Def). Told (types_of x) n (n - link.hops - 1) s (Some (form_of (get_or ds link.end d).shape)))
    same (told (types_of ds) n link.hops (n - link.hops - 1) s tells.0 (Some (form_of (get_or ds link.end d).shape)) sum
    tells.1 there)
