-- The terminals, one by one.
use Rattle.std.proofs.Common.{◌≡◌, ℕ, zero, suc, ◌<◌, ◌≤◌, Bool, true, false, cond, ◌&&◌, ◌||◌, not, leb, List, [], ◌∷◌}
use Rattle.std.proofs.Common.{length, get_or, Option, Some, None, refl, sym, ap, ◌∙◌, subst, arith, lit<, inl, inr, ◌⊎◌}
use Rattle.std.specs.List.{list_all, list_any}
use Rattle.std.proofs.lemmas.Bool.{and_parts, leb-true, leb-false, false≢true, not-true}
use Rattle.xg_parse.specs.declared.terminal.Terminal.{Terminal}
use Rattle.xg_parse.specs.declared.terminal.Terminal.TheVariants as terms
use Rattle.xg_parse.specs.Terminals.{terminals, order_of}
use Rattle.xg_parse.specs.Rules.{has}
use Rattle.xg_parse.specs.Reading.{are_apart, first_in, least_terminal, lesser_terminal}

-- a terminal stands at its place
pub at_rank : (t : Terminal) → get_or terminals (order_of t) terms.Package ≡ t
at_rank terms.Package = refl
at_rank terms.Name = refl
at_rank terms.Semicolon = refl
at_rank terms.Prefix = refl
at_rank terms.StatIndex = refl
at_rank terms.StartingOpcode = refl
at_rank terms.Const = refl
at_rank terms.Equals = refl
at_rank terms.Typedef = refl
at_rank terms.Enum = refl
at_rank terms.LeftBrace = refl
at_rank terms.Comma = refl
at_rank terms.RightBrace = refl
at_rank terms.Struct = refl
at_rank terms.Union = refl
at_rank terms.Switch = refl
at_rank terms.LeftParen = refl
at_rank terms.RightParen = refl
at_rank terms.Default = refl
at_rank terms.Colon = refl
at_rank terms.Proc = refl
at_rank terms.Split = refl
at_rank terms.Multi = refl
at_rank terms.Case = refl
at_rank terms.Void = refl
at_rank terms.In = refl
at_rank terms.Out = refl
at_rank terms.InOut = refl
at_rank terms.Star = refl
at_rank terms.LeftBracket = refl
at_rank terms.RightBracket = refl
at_rank terms.Less = refl
at_rank terms.Greater = refl
at_rank terms.Opaque = refl
at_rank terms.StringWord = refl
at_rank terms.Minus = refl
at_rank terms.Number = refl
at_rank terms.Int = refl
at_rank terms.Long = refl
at_rank terms.Short = refl
at_rank terms.Char = refl
at_rank terms.Hyper = refl
at_rank terms.Bool = refl
at_rank terms.Unsigned = refl
at_rank terms.UInt = refl
at_rank terms.ULong = refl
at_rank terms.UShort = refl
at_rank terms.UChar = refl
at_rank terms.AfsInt32 = refl
at_rank terms.AfsUint32 = refl
at_rank terms.AfsInt64 = refl
at_rank terms.AfsUint64 = refl

pub rank_below : (t : Terminal) → order_of t < 52
rank_below terms.Package = lit< tt
rank_below terms.Name = lit< tt
rank_below terms.Semicolon = lit< tt
rank_below terms.Prefix = lit< tt
rank_below terms.StatIndex = lit< tt
rank_below terms.StartingOpcode = lit< tt
rank_below terms.Const = lit< tt
rank_below terms.Equals = lit< tt
rank_below terms.Typedef = lit< tt
rank_below terms.Enum = lit< tt
rank_below terms.LeftBrace = lit< tt
rank_below terms.Comma = lit< tt
rank_below terms.RightBrace = lit< tt
rank_below terms.Struct = lit< tt
rank_below terms.Union = lit< tt
rank_below terms.Switch = lit< tt
rank_below terms.LeftParen = lit< tt
rank_below terms.RightParen = lit< tt
rank_below terms.Default = lit< tt
rank_below terms.Colon = lit< tt
rank_below terms.Proc = lit< tt
rank_below terms.Split = lit< tt
rank_below terms.Multi = lit< tt
rank_below terms.Case = lit< tt
rank_below terms.Void = lit< tt
rank_below terms.In = lit< tt
rank_below terms.Out = lit< tt
rank_below terms.InOut = lit< tt
rank_below terms.Star = lit< tt
rank_below terms.LeftBracket = lit< tt
rank_below terms.RightBracket = lit< tt
rank_below terms.Less = lit< tt
rank_below terms.Greater = lit< tt
rank_below terms.Opaque = lit< tt
rank_below terms.StringWord = lit< tt
rank_below terms.Minus = lit< tt
rank_below terms.Number = lit< tt
rank_below terms.Int = lit< tt
rank_below terms.Long = lit< tt
rank_below terms.Short = lit< tt
rank_below terms.Char = lit< tt
rank_below terms.Hyper = lit< tt
rank_below terms.Bool = lit< tt
rank_below terms.Unsigned = lit< tt
rank_below terms.UInt = lit< tt
rank_below terms.ULong = lit< tt
rank_below terms.UShort = lit< tt
rank_below terms.UChar = lit< tt
rank_below terms.AfsInt32 = lit< tt
rank_below terms.AfsUint32 = lit< tt
rank_below terms.AfsInt64 = lit< tt
rank_below terms.AfsUint64 = lit< tt

pub rank_injective : (a b : Terminal) → order_of a ≡ order_of b → a ≡ b
rank_injective a b e = sym (at_rank a) ∙ (ap (λ (n : ℕ). get_or terminals n terms.Package) e ∙ at_rank b)

all_at : (P : Terminal → Bool) (ts : List Terminal) (n : ℕ) → list_all P ts ≡ true → n < length ts →
    P (get_or ts n terms.Package) ≡ true
all_at P [] n h within = absurd (omega arith)
all_at P (t ∷ ts) zero h within = (and_parts (P t) (list_all P ts) h).0
all_at P (t ∷ ts) (suc n) h within = all_at P ts n (and_parts (P t) (list_all P ts) h).1 (omega arith)

-- what is tried of all is so of each
pub every : (P : Terminal → Bool) → list_all P terminals ≡ true → (t : Terminal) → P t ≡ true
every P h t = subst (λ (u : Terminal). P u ≡ true) (at_rank t) (all_at P terminals (order_of t) h (rank_below t))

-- a terminal of one set is in no other that is apart
pub apart_sets : (s u : Terminal → Bool) → are_apart s u ≡ true → (o : Option Terminal) → has s o ≡ true →
    has u o ≡ false
apart_sets s u h None e = absurd (false≢true e)
apart_sets s u h (Some t) e =
    let never : not (s t && u t) ≡ true = every (λ t. not (s t && u t)) h t in
    not-true (u t) (subst (λ (b : Bool). not (b && u t) ≡ true) e never)

-- ---- the least terminal of a set

-- that terminal or a lesser one is there
abbrev pub AtOrBefore : Option Terminal → Terminal → Type 0
AtOrBefore None t = ⊥
AtOrBefore (Some w) t = order_of w ≤ order_of t

first_is : (s : Terminal → Bool) (ts : List Terminal) (w : Terminal) → first_in s ts ≡ Some w → s w ≡ true
first_is s [] w e = cc
first_is s (t ∷ ts) w e = by_test (s t) refl e (λ h. first_is s ts w h)
  where
    by_test : (b : Bool) → s t ≡ b → cond b (Some t) (first_in s ts) ≡ Some w → (first_in s ts ≡ Some w →
        s w ≡ true) → s w ≡ true
    by_test true holds h rest = let is : t ≡ w = cc in subst (λ (u : Terminal). s u ≡ true) is holds
    by_test false fails h rest = rest h

-- the least is in the set
pub least_is_in : (s : Terminal → Bool) (w : Terminal) → least_terminal s ≡ Some w → s w ≡ true
least_is_in s w e = first_is s terminals w e

abbrev ascending : List Terminal → Bool
ascending [] = true
ascending (t ∷ ts) = list_all (λ u. leb (order_of t) (order_of u)) ts && ascending ts

first_before : (s : Terminal → Bool) (ts : List Terminal) (n : ℕ) → ascending ts ≡ true → n < length ts →
    s (get_or ts n terms.Package) ≡ true → AtOrBefore (first_in s ts) (get_or ts n terms.Package)
first_before s [] n up within e = absurd (omega arith)
first_before s (t ∷ ts) n up within e = by_test (s t) refl n within e (λ k less h. first_before s ts k parts.1 less h)
  where
    parts : (list_all (λ u. leb (order_of t) (order_of u)) ts ≡ true) × (ascending ts ≡ true)
    parts = and_parts (list_all (λ u. leb (order_of t) (order_of u)) ts) (ascending ts) up

    by_test : (b : Bool) → s t ≡ b → (k : ℕ) → k < length (t ∷ ts) → s (get_or (t ∷ ts) k terms.Package) ≡ true →
        ((j : ℕ) → j < length ts → s (get_or ts j terms.Package) ≡ true →
        AtOrBefore (first_in s ts) (get_or ts j terms.Package)) → AtOrBefore (cond b (Some t) (first_in s ts))
        (get_or (t ∷ ts) k terms.Package)
    by_test true holds zero less h rest = omega arith
    by_test true holds (suc k) less h rest = leb-true (order_of t) (order_of (get_or ts k terms.Package))
        (all_at (λ u. leb (order_of t) (order_of u)) ts k parts.0 (omega arith))
    by_test false fails zero less h rest = absurd (false≢true (sym fails ∙ h))
    by_test false fails (suc k) less h rest = rest k (omega arith) h

-- and none of the set is before it
pub least_before : (s : Terminal → Bool) (t : Terminal) → s t ≡ true → AtOrBefore (least_terminal s) t
least_before s t e =
    subst (AtOrBefore (least_terminal s)) (at_rank t)
    (first_before s terminals (order_of t) refl (rank_below t) (subst (λ (u : Terminal). s u ≡ true)
    (sym (at_rank t)) e))

lesser_by : (a b t : Terminal) → (order_of a ≤ order_of t) ⊎ (order_of b ≤ order_of t) →
    AtOrBefore (lesser_terminal (Some a) (Some b)) t
lesser_by a b t h = by_test (leb (order_of a) (order_of b)) refl h
  where
    by_test : (c : Bool) → leb (order_of a) (order_of b) ≡ c →
        (order_of a ≤ order_of t) ⊎ (order_of b ≤ order_of t) → AtOrBefore (cond c (Some a) (Some b)) t
    by_test true e (inl k) = k
    by_test true e (inr k) = omega (arith, leb-true (order_of a) (order_of b) e, k)
    by_test false e (inl k) = omega (arith, leb-false (order_of a) (order_of b) e, k)
    by_test false e (inr k) = k

pub lesser_left : (o u : Option Terminal) (t : Terminal) → AtOrBefore o t → AtOrBefore (lesser_terminal o u) t
lesser_left None u t h = absurd h
lesser_left (Some a) None t h = h
lesser_left (Some a) (Some b) t h = lesser_by a b t (inl h)

pub lesser_right : (o u : Option Terminal) (t : Terminal) → AtOrBefore u t → AtOrBefore (lesser_terminal o u) t
lesser_right None u t h = h
lesser_right (Some a) None t h = absurd h
lesser_right (Some a) (Some b) t h = lesser_by a b t (inr h)

-- the lesser of two is one of them
pub lesser_is : (o u : Option Terminal) (w : Terminal) → lesser_terminal o u ≡ Some w → (o ≡ Some w) ⊎ (u ≡ Some w)
lesser_is None u w e = inr e
lesser_is (Some a) None w e = inl e
lesser_is (Some a) (Some b) w e = by_test (leb (order_of a) (order_of b)) e
  where
    by_test : (c : Bool) → cond c (Some a) (Some b) ≡ Some w → (Some a ≡ Some w) ⊎ (Some b ≡ Some w)
    by_test true h = inl h
    by_test false h = inr h

first_some : (s : Terminal → Bool) (ts : List Terminal) → list_any s ts ≡ true →
    (w : Terminal) × (first_in s ts ≡ Some w)
first_some s [] e = absurd (false≢true e)
first_some s (t ∷ ts) e = by_test (s t) e (λ h. first_some s ts h)
  where
    by_test : (b : Bool) → (b || list_any s ts) ≡ true → (list_any s ts ≡ true →
        (w : Terminal) × (first_in s ts ≡ Some w)) → (w : Terminal) × (cond b (Some t) (first_in s ts) ≡ Some w)
    by_test true h rest = (t, refl)
    by_test false h rest = rest h

-- a set that has a terminal has a least one
pub least_there : (s : Terminal → Bool) → list_any s terminals ≡ true → (w : Terminal) × (least_terminal s ≡ Some w)
least_there s e = first_some s terminals e

pub lesser_there : (o u : Option Terminal) (w : Terminal) → u ≡ Some w → (v : Terminal) × (lesser_terminal o u ≡ Some v)
lesser_there None u w e = (w, e)
lesser_there (Some a) None w e = cc
lesser_there (Some a) (Some b) w e = by_test (leb (order_of a) (order_of b))
  where
    by_test : (c : Bool) → (v : Terminal) × (cond c (Some a) (Some b) ≡ Some v)
    by_test true = (a, refl)
    by_test false = (b, refl)
