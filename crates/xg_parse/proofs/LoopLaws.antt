-- A rule that repeats, step by step.
use Rattle.std.proofs.Common.{◌≡◌, ℕ, zero, suc, ◌<◌, ◌≤◌, Bool, true, false, cond, ◌&&◌, ◌||◌, List, [], ◌∷◌, ◌++◌}
use Rattle.std.proofs.Common.{length, Option, Some, None, Result, Ok, Err, refl, sym, ap, ◌∙◌, subst, arith}
use Rattle.std.proofs.Common.{append_assoc, inl, inr}
use Rattle.std.proofs.lemmas.List.{append-nil}
use Rattle.std.proofs.lemmas.Bool.{or_parts, and_cases, false≢true}
use Rattle.xg_lex.specs.declared.token.Token.{Token}
use Rattle.xg_parse.specs.declared.terminal.Terminal.{Terminal}
use Rattle.xg_parse.specs.declared.cursor.Stop.{Stop}
use Rattle.xg_parse.specs.declared.cursor.Stop.TheVariants.{Memory, Refused}
use Rattle.xg_parse.specs.Rules.{Rule, word, pair, either, maybe, many, change, has}
use Rattle.xg_parse.specs.Reading.{nullable, firsts, Place, place_at, without, least_terminal, Read, ◌>>=◌, word_at}
use Rattle.xg_parse.specs.Reading.{many_at, read_rule}
use Rattle.xg_parse.proofs.TerminalLaws.{lesser_there}
use Rattle.xg_parse.specs.Gives.{Fails, Gives, cursor_place}

-- a reading that went on
bind_ok : {A B : Type 0} (r : Read A) (f : A × Place → Read B) (y : B × Place) → (r >>= f) ≡ Ok y →
    (x : A × Place) × (r ≡ Ok x) × (f x ≡ Ok y)
bind_ok (Ok x) f y e = (x, refl, e)
bind_ok (Err q) f y e = cc

behind : {A : Type 0} (a b : A) (q r : Place) (s : Read A) → s ≡ Ok (a, q) → s ≡ Ok (b, r) → q ≡ r
behind {A} a b q r s e h = let x : A × Place = (a, q) in let y : A × Place = (b, r) in let same : x ≡ y = cc in ap
    (λ (z : A × Place). z.1) same

word_shorter : (set : Terminal → Bool) (p : Place) (tokens : List Token) (x : Token × Place) →
    word_at set p tokens ≡ Ok x → length x.1.rest < length tokens
word_shorter set p [] x e = cc
word_shorter set p (t ∷ ts) x e = by_test (has set p.next) e
  where
    by_test : (b : Bool) → cond b (Ok (t, place_at ts)) (Err (without set p)) ≡ Ok x → length x.1.rest < suc (length ts)
    by_test true h = let y : Token × Place = (t, place_at ts) in let same : y ≡ x = cc in let rest = ap
        (λ (z : Token × Place). length z.1.rest) same in omega (arith, rest)
    by_test false h = cc

many_not_longer : {A : Type 0} (reads : Place → Read A) (set : Terminal → Bool) → ((p : Place) (x : A × Place) →
    reads p ≡ Ok x → length x.1.rest ≤ length p.rest) → (n : ℕ) (p : Place) (x : List A × Place) →
    many_at reads set n p ≡ Ok x → length x.1.rest ≤ length p.rest
many_not_longer reads set one zero p x e = cc
many_not_longer {A} reads set one (suc n) p x e = by_test (has set p.next) e
    (λ q y h. many_not_longer reads set one n q y h)
  where
    by_test : (b : Bool) →
        cond b (reads p >>= λ y. many_at reads set n y.1 >>= λ ys. Ok (y.0 ∷ ys.0, ys.1)) (Ok ([], without set p))
        ≡ Ok x → ((q : Place) (y : List A × Place) → many_at reads set n q ≡ Ok y →
        length y.1.rest ≤ length q.rest) → length x.1.rest ≤ length p.rest
    by_test false h more = let y : List A × Place = ([], without set p) in let same : y ≡ x = cc in let rest = ap
        (λ (z : List A × Place). length z.1.rest) same in omega (arith, rest)
    by_test true h more =
        let y = bind_ok (reads p) _ x h in
        let z = bind_ok (many_at reads set n y.0.1) _ x y.2 in
        let last : List A × Place = (y.0.0 ∷ z.0.0, z.0.1) in
        let h2 : Ok last ≡ Ok x = z.2 in
        let same : last ≡ x = cc in
        let rest = ap (λ (w : List A × Place). length w.1.rest) same in
        omega (arith, rest, one p y.0 y.1, more y.0.1 z.0 z.1)

same_rest : {A : Type 0} (x y : A × Place) (r : Read A) → r ≡ Ok x → r ≡ Ok y → length x.1.rest ≡ length y.1.rest
same_rest {A} x y r e h = let same : x ≡ y = cc in ap (λ (z : A × Place). length z.1.rest) same

-- reading takes tokens from the front
pub not_longer : {A : Type 0} (g : Rule A) (p : Place) (x : A × Place) → read_rule g p ≡ Ok x →
    length x.1.rest ≤ length p.rest
not_longer (word set) p x e = let less = word_shorter set p p.rest x e in omega arith
not_longer (pair g h) p x e =
    let y = bind_ok (read_rule g p) _ x e in
    let z = bind_ok (read_rule h y.0.1) _ x y.2 in
    let same = same_rest ((y.0.0, z.0.0), z.0.1) x (Ok ((y.0.0, z.0.0), z.0.1)) refl z.2 in
    omega (arith, same, not_longer g p y.0 y.1, not_longer h y.0.1 z.0 z.1)
not_longer {A} (either g h) p x e = by_test (has (firsts g) p.next) e (λ k. not_longer g p x k)
    (λ k. not_longer h (without (firsts g) p) x k)
  where
    by_test : (b : Bool) → cond b (read_rule g p) (read_rule h (without (firsts g) p)) ≡ Ok x →
        (read_rule g p ≡ Ok x → length x.1.rest ≤ length p.rest) → (read_rule h (without (firsts g) p) ≡ Ok x →
        length x.1.rest ≤ length p.rest) → length x.1.rest ≤ length p.rest
    by_test true k one other = one k
    by_test false k one other = other k
not_longer (maybe g) p x e = by_test (has (firsts g) p.next) e (λ y k. not_longer g p y k)
  where
    by_test : (b : Bool) →
        cond b (read_rule g p >>= λ y. Ok (Some y.0, y.1)) (Ok (None, without (firsts g) p)) ≡ Ok x →
        ((y : _ × Place) → read_rule g p ≡ Ok y → length y.1.rest ≤ length p.rest) → length x.1.rest ≤ length p.rest
    by_test true k one = let y = bind_ok (read_rule g p) _ x k in let same = same_rest (Some y.0.0, y.0.1) x
        (Ok (Some y.0.0, y.0.1)) refl y.2 in omega (arith, same, one y.0 y.1)
    by_test false k one = let same = same_rest (None, without (firsts g) p) x (Ok (None, without (firsts g) p))
        refl k in omega (arith, same)
not_longer (many g) p x e = many_not_longer (read_rule g) (firsts g) (λ q y k. not_longer g q y k)
    (suc (length p.rest)) p x e
not_longer (change f g) p x e =
    let y = bind_ok (read_rule g p) _ x e in
    let same = same_rest (f y.0.0, y.0.1) x (Ok (f y.0.0, y.0.1)) refl y.2 in
    omega (arith, same, not_longer g p y.0 y.1)

-- and one at least, where the rule is not nullable
pub shorter : {A : Type 0} (g : Rule A) → nullable g ≡ false → (p : Place) (x : A × Place) → read_rule g p ≡ Ok x →
    length x.1.rest < length p.rest
shorter (word set) some p x e = word_shorter set p p.rest x e
shorter (pair g h) some p x e =
    let y = bind_ok (read_rule g p) _ x e in
    let z = bind_ok (read_rule h y.0.1) _ x y.2 in
    let same = same_rest ((y.0.0, z.0.0), z.0.1) x (Ok ((y.0.0, z.0.0), z.0.1)) refl z.2 in
    elim (and_cases (nullable g) (nullable h) some) [
      | inl k ↦ omega (arith, same, shorter g k p y.0 y.1, not_longer h y.0.1 z.0 z.1)
      | inr k ↦ omega (arith, same, not_longer g p y.0 y.1, shorter h k y.0.1 z.0 z.1)
    ]
shorter (either g h) some p x e = by_test (has (firsts g) p.next) e
    (λ k. shorter g (or_parts (nullable g) (nullable h) some).0 p x k)
    (λ k. shorter h (or_parts (nullable g) (nullable h) some).1 (without (firsts g) p) x k)
  where
    by_test : (b : Bool) → cond b (read_rule g p) (read_rule h (without (firsts g) p)) ≡ Ok x →
        (read_rule g p ≡ Ok x → length x.1.rest < length p.rest) → (read_rule h (without (firsts g) p) ≡ Ok x →
        length x.1.rest < length p.rest) → length x.1.rest < length p.rest
    by_test true k one other = one k
    by_test false k one other = other k
shorter (maybe g) some p x e = absurd (false≢true (sym some))
shorter (many g) some p x e = absurd (false≢true (sym some))
shorter (change f g) some p x e =
    let y = bind_ok (read_rule g p) _ x e in
    let same = same_rest (f y.0.0, y.0.1) x (Ok (f y.0.0, y.0.1)) refl y.2 in
    omega (arith, same, shorter g some p y.0 y.1)

-- ---- the steps of a loop

abbrev pub with_first : {A : Type 0} → A → Read (List A) → Read (List A)
with_first a r = r >>= λ xs. Ok (a ∷ xs.0, xs.1)

-- what is read, behind what was read before
abbrev pub with_front : {A : Type 0} → List A → Read (List A) → Read (List A)
with_front front r = r >>= λ xs. Ok (front ++ xs.0, xs.1)

enough_read : {A : Type 0} (n m : ℕ) (reads : Place → Read A) (set : Terminal → Bool) (p : Place) (r : Read A) →
    ((x : A × Place) → r ≡ Ok x → many_at reads set n x.1 ≡ many_at reads set m x.1) →
    (r >>= λ x. with_first x.0 (many_at reads set n x.1)) ≡ (r >>= λ x. with_first x.0 (many_at reads set m x.1))
enough_read n m reads set p (Ok x) same = ap (with_first x.0) (same x refl)
enough_read n m reads set p (Err q) same = refl

-- more steps than tokens change nothing
enough : {A : Type 0} (g : Rule A) → nullable g ≡ false → (n m : ℕ) (p : Place) → length p.rest < n →
    length p.rest < m → many_at (read_rule g) (firsts g) n p ≡ many_at (read_rule g) (firsts g) m p
enough g some zero m p a b = absurd (omega arith)
enough g some (suc n) zero p a b = absurd (omega arith)
enough {A} g some (suc n) (suc m) p a b = by_test (has (firsts g) p.next)
    (enough_read n m (read_rule g) (firsts g) p (read_rule g p) (λ x e. let less = shorter g some p x e in enough g
    some n m x.1 (omega arith) (omega arith)))
  where
    by_test : (t : Bool) →
        (read_rule g p >>= λ x. with_first x.0 (many_at (read_rule g) (firsts g) n x.1)) ≡
        (read_rule g p >>= λ x. with_first x.0 (many_at (read_rule g) (firsts g) m x.1)) → cond t
        (read_rule g p >>= λ x. with_first x.0 (many_at (read_rule g) (firsts g) n x.1))
        (Ok ([], without (firsts g) p)) ≡ cond t (read_rule g p >>= λ x. with_first x.0
        (many_at (read_rule g) (firsts g) m x.1)) (Ok ([], without (firsts g) p))
    by_test true same = same
    by_test false same = refl

many_stop : {A : Type 0} (g : Rule A) (p q : Place) → has (firsts g) p.next ≡ true → read_rule g p ≡ Err q →
    read_rule (many g) p ≡ Err q
many_stop g p q holds e = rw (holds, e) refl

many_step : {A : Type 0} (g : Rule A) → nullable g ≡ false → (p : Place) (x : A × Place) →
    has (firsts g) p.next ≡ true → read_rule g p ≡ Ok x → read_rule (many g) p ≡ with_first x.0
    (read_rule (many g) x.1)
many_step g some p x holds e =
    let less = shorter g some p x e in
    let same = enough g some (length p.rest) (suc (length x.1.rest)) x.1 (omega arith) (omega arith) in
    rw (holds, e) (ap (with_first x.0) same)

with_more : {A : Type 0} (front : List A) (a : A) (r : Read (List A)) →
    with_front front (with_first a r) ≡ with_front (front ++ a ∷ []) r
with_more front a (Ok x) = ap (λ (ys : List _). Ok (ys, x.1)) (sym (append_assoc front (a ∷ []) x.0))
with_more front a (Err q) = refl

-- one more was read
pub loop_goes_on : {A : Type 0} (g : Rule A) → nullable g ≡ false →
    (front : List A) (p q : Place) (a : A) (r : Read (List A)) → with_front front (read_rule (many g) p) ≡ r →
    has (firsts g) p.next ≡ true → read_rule g p ≡ Ok (a, q) → with_front (front ++ a ∷ []) (read_rule (many g) q)
    ≡ r
loop_goes_on g some front p q a r so_far holds e =
    sym (with_more front a (read_rule (many g) q)) ∙ (ap (with_front front)
    (sym (many_step g some p (a, q) holds e)) ∙ so_far)

-- none more is there
pub loop_ends : {A : Type 0} (g : Rule A) (front : List A) (p : Place) (r : Read (List A)) →
    with_front front (read_rule (many g) p) ≡ r → has (firsts g) p.next ≡ false → r ≡ Ok
    (front, without (firsts g) p)
loop_ends {A} g front p r so_far fails =
    let last : read_rule (many g) p ≡ Ok ([], without (firsts g) p) = rw fails refl in
    sym so_far ∙ (ap (with_front front) last ∙ ap (λ (ys : List A). Ok (ys, without (firsts g) p)) (append-nil front))

-- the next is refused, or there is no memory for it
pub loop_stops : {A : Type 0} (g : Rule A) (front : List A) (p : Place) (r : Read (List A)) (s : Stop) →
    with_front front (read_rule (many g) p) ≡ r → has (firsts g) p.next ≡ true → Fails s (read_rule g p) → Fails s r
loop_stops g front p r Memory so_far holds e = tt
loop_stops g front p r (Refused c) so_far holds e = sym so_far ∙ ap (with_front front)
    (many_stop g p (cursor_place c) holds e)

abbrev pub list_of : {A : Type 0} → A × List A → List A
list_of both = both.0 ∷ both.1

first_and_more : {A : Type 0} (a : A) (r : Read (List A)) →
    with_front (a ∷ []) r ≡ ((r >>= λ y. Ok ((a, y.0), y.1)) >>= λ z. Ok (list_of z.0, z.1))
first_and_more a (Ok x) = refl
first_and_more a (Err q) = refl

-- before the first step, where one was read
pub list_starts : {A : Type 0} (g h : Rule A) (p q : Place) (a : A) → read_rule g p ≡ Ok (a, q) →
    with_front (a ∷ []) (read_rule (many h) q) ≡ read_rule (change list_of (pair g (many h))) p
list_starts g h p q a e = first_and_more a (read_rule (many h) q) ∙ rw e refl

-- what begins a pair begins the first, where that isn't nullable
pub first_of : {A B : Type 0} (g : Rule A) (h : Rule B) → nullable g ≡ false → (o : Option Terminal) →
    has (firsts (pair g h)) o ≡ has (firsts g) o
first_of g h some None = refl
first_of g h some (Some t) = by_test (firsts g t) (nullable g) some
  where
    by_test : (b n : Bool) → n ≡ false → (b || (n && firsts h t)) ≡ b
    by_test true n e = refl
    by_test false n e = rw e refl

pub loop_gives : {A : Type 0} (r : Read (List A)) (items made : List A) (p q : Place) → r ≡ Ok (items, p) →
    made ≡ items → q ≡ p → r ≡ Ok (made, q)
loop_gives {A} r items made p q e a b = e ∙ (ap (λ (xs : List A). Ok (xs, p)) (sym a) ∙ ap
    (λ (place : Place). Ok (made, place)) (sym b))

-- ---- one rule or another

pub choose_first : {A : Type 0} (g h : Rule A) (p : Place) → has (firsts g) p.next ≡ true →
    read_rule (either g h) p ≡ read_rule g p
choose_first g h p holds = rw holds refl

pub choose_other : {A : Type 0} (g h : Rule A) (p q : Place) → has (firsts g) p.next ≡ false →
    q ≡ without (firsts g) p → read_rule (either g h) p ≡ read_rule h q
choose_other g h p q fails e = rw fails (ap (read_rule h) (sym e))

-- what is given of the one reading is given of the other
pub gives_at : {X A : Type 0} (view : X → A × Place) (given : Result X Stop) (r s : Read A) → r ≡ s →
    Gives view given s → Gives view given r
gives_at view given r s e h = subst (Gives view given) (sym e) h

-- ---- what stops a rule that repeats was looked for

many_tries : {A : Type 0} (reads : Place → Read A) (set : Terminal → Bool) (w : Terminal) →
    least_terminal set ≡ Some w → (n : ℕ) (p : Place) (x : List A × Place) → many_at reads set n p ≡ Ok x →
    (v : Terminal) × (x.1.tried ≡ Some v)
many_tries reads set w some zero p x e = cc
many_tries {A} reads set w some (suc n) p x e = by_test (has set p.next) e
    (λ q y h. many_tries reads set w some n q y h)
  where
    by_test : (b : Bool) →
        cond b (reads p >>= λ y. many_at reads set n y.1 >>= λ ys. Ok (y.0 ∷ ys.0, ys.1)) (Ok ([], without set p))
        ≡ Ok x → ((q : Place) (y : List A × Place) → many_at reads set n q ≡ Ok y →
        (v : Terminal) × (y.1.tried ≡ Some v)) → (v : Terminal) × (x.1.tried ≡ Some v)
    by_test false h more =
        let y : List A × Place = ([], without set p) in
        let same : y ≡ x = cc in
        let v = lesser_there p.tried (least_terminal set) w some in
        (v.0, sym (ap (λ (z : List A × Place). z.1.tried) same) ∙ v.1)
    by_test true h more =
        let y = bind_ok (reads p) _ x h in
        let z = bind_ok (many_at reads set n y.0.1) _ x y.2 in
        let last : List A × Place = (y.0.0 ∷ z.0.0, z.0.1) in
        let h2 : Ok last ≡ Ok x = z.2 in
        let same : last ≡ x = cc in
        let v = more y.0.1 z.0 z.1 in
        (v.0, sym (ap (λ (w' : List A × Place). w'.1.tried) same) ∙ v.1)

pub many_tried : {A : Type 0} (g : Rule A) (w : Terminal) → least_terminal (firsts g) ≡ Some w →
    (p : Place) (x : List A × Place) → read_rule (many g) p ≡ Ok x → (v : Terminal) × (x.1.tried ≡ Some v)
many_tried g w some p x e = many_tries (read_rule g) (firsts g) w some (suc (length p.rest)) p x e
