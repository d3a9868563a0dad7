-- Lists of values, one after the other.
use Rattle.std.proofs.Common.{◌≡◌, ℕ, zero, suc, ◌+◌, ◌<◌, List, [], ◌∷◌, ◌++◌, map, take, drop, get_or, length, refl}
use Rattle.std.proofs.Common.{sym, ap, ◌∙◌, arith}
use Rattle.std.proofs.Common.{Bool, true, false, ◌&&◌, eqb, leb, ltb, ◌^◌}
use Rattle.std.proofs.lemmas.Bool.{and_right}
use Rattle.std.proofs.lemmas.List.{take_more, drop_more, map-append}
use Rattle.xdr_value.specs.Data.{Kind, Part, Datum, Data, items, end, more, Types}
use Rattle.xdr_value.specs.Heads.{is_array, is_array_up_to, head_of}
use Rattle.xdr_value.specs.Hollow.{list_limit}
use Rattle.xdr_value.specs.Fits.{count}
use Rattle.xdr_value.specs.Fitting.{does_fit, parts_fit, all_fit}
use Rattle.xdr_value.specs.View.{value_of, values_of, part_of, kind_of}
use Rattle.xdr_value.specs.Zero.{copies, kind_zero, parts_zero}
use Rattle.xdr_value.specs.declared.value.Value.{Value}
use Rattle.xdr_value.specs.declared.def.Field.{Field}

-- what is met at a place is the first of those that are left
pub in_left : {X : Type 0} (xs : List X) (i : ℕ) (x : X) → i < length xs → x ≡ get_or xs i x
    → drop i xs ≡ x ∷ drop (i + 1) xs
in_left {X} xs i x lt is = drop_more xs i x lt ∙ ap (λ (y : X). y ∷ drop (i + 1) xs) (sym is)

-- the values of both lists
abbrev pub append : Data → Data → Data
append end ds = ds
append (more e es) ds = more e (append es ds)

pub append_end : (ds : Data) → append ds end ≡ ds
append_end end = refl
append_end (more d ds) = ap (more d) (append_end ds)

pub append_more : (ds : Data) (d : Datum) (es : Data) → append (append ds (more d end)) es ≡ append ds (more d es)
append_more end d es = refl
append_more (more f ds) d es = ap (more f) (append_more ds d es)

-- one value more
pub values_of-push : (vs : List Value) (v : Value)
    → values_of (vs ++ v ∷ []) ≡ append (values_of vs) (more (value_of v) end)
values_of-push [] v = refl
values_of-push (w ∷ vs) v = ap (more (value_of w)) (values_of-push vs v)

copies-snoc : (n : ℕ) (d : Datum) → append (copies n d) (more d end) ≡ copies (suc n) d
copies-snoc zero d = refl
copies-snoc (suc n) d = ap (more d) (copies-snoc n d)

pub copies-push : (n : ℕ) (d : Datum) → append (copies n d) (more d end) ≡ copies (n + 1) d
copies-push n d = let one : n + 1 ≡ suc n = omega arith in rw one (copies-snoc n d)

pub parts_zero-push : (held : List ℕ → Datum) (ps : List Part) (p : Part)
    → parts_zero held (ps ++ p ∷ []) ≡ append (parts_zero held ps) (more (kind_zero held p.kind) end)
parts_zero-push held [] p = refl
parts_zero-push held (q ∷ ps) p = ap (more (kind_zero held q.kind)) (parts_zero-push held ps p)

-- one field more
pub fields_zero-push : (held : List ℕ → Datum) (fs : List Field) (i : ℕ) (f : Field) → i < length fs → f ≡ get_or fs i f
    → parts_zero held (map part_of (take (i + 1) fs)) ≡ append (parts_zero held (map part_of (take i fs)))
    (more (kind_zero held (kind_of f.ty)) end)
fields_zero-push held fs i f lt is =
    ap (λ (x : List Field). parts_zero held (map part_of x))
    (take_more fs i f lt ∙ ap (λ (g : Field). take i fs ++ g ∷ []) (sym is))
    ∙ ap (parts_zero held) (map-append part_of (take i fs) (f ∷ [])) ∙ parts_zero-push held (map part_of (take i fs))
    (part_of f)

pub count-values : (vs : List Value) → count (values_of vs) ≡ length vs
count-values [] = refl
count-values (v ∷ vs) = ap suc (count-values vs)

-- ---- what a list fits

pub uneven : (t : Types) (ps : List Part) (vs : Data) → (length ps ≡ count vs → ⊥) → parts_fit t ps vs ≡ false
uneven t [] end h = absurd (h refl)
uneven t [] (more v vs) h = refl
uneven t (p ∷ ps) end h = refl
uneven t (p ∷ ps) (more v vs) h = and_right (does_fit t p.kind v) (parts_fit t ps vs)
    (uneven t ps vs (λ e. h (ap suc e)))

module _ (t : Types) (k of : Kind) (m n : ℕ) (d : Datum) (vs : Data) (r : Bool) where
  -- an array of m: its count is tested first
  pub array_then : d ≡ items vs → is_array of m ≡ head_of t k → count vs ≡ n → eqb n m ≡ true → r ≡ all_fit t of vs
      → r ≡ does_fit t k d
  array_then is head counted test e = rw (is, ← head, counted, test) e

  pub array_else : d ≡ items vs → is_array of m ≡ head_of t k → count vs ≡ n → r ≡ eqb n m → r ≡ false
      → r ≡ does_fit t k d
  array_else is head counted test e = let no : eqb n m ≡ false = sym test ∙ e in rw
      (is, ← head, counted, no) e

  pub list_then : d ≡ items vs → is_array_up_to of m ≡ head_of t k → count vs ≡ n
      → (leb n (list_limit t of m) && ltb n (2 ^ 32)) ≡ true → r ≡ all_fit t of vs → r ≡ does_fit t k d
  list_then is head counted test e = rw (is, ← head, counted, test) e

  pub list_else : d ≡ items vs → is_array_up_to of m ≡ head_of t k → count vs ≡ n
      → r ≡ (leb n (list_limit t of m) && ltb n (2 ^ 32)) → r ≡ false → r ≡ does_fit t k d
  list_else is head counted test e = let no : (leb n (list_limit t of m) && ltb n (2 ^ 32)) ≡ false =
      sym test ∙ e in rw (is, ← head, counted, no) e
