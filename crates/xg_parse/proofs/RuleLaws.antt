-- The texts of a rule, and that they are read again.
use Rattle.std.proofs.Common.{◌≡◌, ℕ, zero, suc, ◌<◌, Bool, true, false, ◌&&◌, ◌||◌, not, List, [], ◌∷◌, ◌++◌, length}
use Rattle.std.proofs.Common.{Option, Some, None, Ok, refl, sym, ap, ◌∙◌, subst, arith, inl, inr, append_assoc}
use Rattle.std.proofs.Common.{length-append}
use Rattle.std.proofs.lemmas.Bool.{and_parts, or_parts, or_left, or_right, false≢true, not-true, false_from_ne_true}
use Rattle.std.proofs.lemmas.Bool.{and_from}
use Rattle.xg_lex.specs.declared.token.Token.{Token}
use Rattle.xg_parse.specs.declared.terminal.Terminal.{Terminal}
use Rattle.xg_parse.specs.Words.{terminal_of}
use Rattle.xg_parse.specs.Rules.{Rule, word, pair, either, maybe, many, change, has, EachHas, Derives}
use Rattle.xg_parse.specs.Reading.{nullable, firsts, tails, are_apart, is_decided, Place, next_of, place_at, without}
use Rattle.xg_parse.specs.Reading.{Read, word_at, many_at, read_rule}
use Rattle.xg_parse.proofs.TerminalLaws.{apart_sets}

-- the next terminal is that of the first token
abbrev pub IsRight : Place → Type 0
IsRight p = p.next ≡ next_of p.rest

pub has_left : (s u : Terminal → Bool) (o : Option Terminal) → has s o ≡ true → has (λ t. s t || u t) o ≡ true
has_left s u None e = e
has_left s u (Some t) e = or_left (s t) (u t) e

pub has_right : (s u : Terminal → Bool) (o : Option Terminal) → has u o ≡ true → has (λ t. s t || u t) o ≡ true
has_right s u None e = e
has_right s u (Some t) e = or_right (s t) (u t) e

-- a set that is looked for under a condition
pub has_under : (c : Bool) (s : Terminal → Bool) (o : Option Terminal) → c ≡ true → has s o ≡ true →
    has (λ t. c && s t) o ≡ true
has_under c s None e h = h
has_under c s (Some t) e h = and_from c (s t) e h

pub lacks_left : (s u : Terminal → Bool) (o : Option Terminal) → has (λ t. s t || u t) o ≡ false → has s o ≡ false
lacks_left s u None e = refl
lacks_left s u (Some t) e = (or_parts (s t) (u t) e).0

pub lacks_right : (s u : Terminal → Bool) (o : Option Terminal) → has (λ t. s t || u t) o ≡ false → has u o ≡ false
lacks_right s u None e = refl
lacks_right s u (Some t) e = (or_parts (s t) (u t) e).1

pub lacks_under : (c : Bool) (s : Terminal → Bool) (o : Option Terminal) → c ≡ true →
    has (λ t. c && s t) o ≡ false → has s o ≡ false
lacks_under c s None e h = refl
lacks_under true s (Some t) e h = h
lacks_under false s (Some t) e h = absurd (false≢true e)

-- what is in the one set isn't in the other
pub apart_back : (s u : Terminal → Bool) → are_apart s u ≡ true → (o : Option Terminal) → has u o ≡ true →
    has s o ≡ false
apart_back s u h o e = false_from_ne_true (has s o) (λ k. false≢true (sym (apart_sets s u h o k) ∙ e))

-- ---- what begins a text, and no text

module _ {A B : Type 0} (P : A → List Token → Type 0) (Q : B → List Token → Type 0) (s u : Terminal → Bool) (n : Bool)
  where
    begins_pair : ((a : A) (t : Token) (ts : List Token) → P a (t ∷ ts) → has s (terminal_of t) ≡ true)
        → ((a : A) → P a [] → n ≡ true)
        → ((b : B) (t : Token) (ts : List Token) → Q b (t ∷ ts) → has u (terminal_of t) ≡ true)
        → (front back : List Token) (a : A) (b : B) (t : Token) (ts : List Token) → t ∷ ts ≡ front ++ back → P a front
        → Q b back → has (λ t. s t || (n && u t)) (terminal_of t) ≡ true
    begins_pair first empty second [] [] a b t ts e p q = absurd (let h : t ∷ ts ≡ [] = e in cc)
    begins_pair first empty second [] (y ∷ ys) a b t ts e p q =
        let is : y ≡ t = cc in
        has_right s (λ t. n && u t) (terminal_of t) (has_under n u (terminal_of t) (empty a p)
        (subst (λ (k : Token). has u (terminal_of k) ≡ true) is (second b y ys q)))
    begins_pair first empty second (x ∷ xs) back a b t ts e p q =
        let is : x ≡ t = cc in
        has_left s (λ t. n && u t) (terminal_of t)
        (subst (λ (k : Token). has s (terminal_of k) ≡ true) is (first a x xs p))

pub begins_each : {A : Type 0} (P : A → List Token → Type 0) (s : Terminal → Bool) →
    ((a : A) (t : Token) (ts : List Token) → P a (t ∷ ts) → has s (terminal_of t) ≡ true) →
    (items : List A) (t : Token) (ts : List Token) → EachHas P items (t ∷ ts) → has s (terminal_of t) ≡ true
begins_each {A} P s first [] t ts d = absurd (let h : t ∷ ts ≡ [] = d in cc)
begins_each {A} P s first (a ∷ items) t ts d = by_front d.0 d.1 d.2 d.3 d.4
    (λ u us e. begins_each P s first items u us e)
  where
    by_front : (front back : List Token) → t ∷ ts ≡ front ++ back → P a front → EachHas P items back →
        ((u : Token) (us : List Token) → EachHas P items (u ∷ us) → has s (terminal_of u) ≡ true) →
        has s (terminal_of t) ≡ true
    by_front [] back e p q more = more t ts (subst (EachHas P items) (sym e) q)
    by_front (x ∷ xs) back e p q more = let is : x ≡ t = cc in subst (λ (k : Token). has s (terminal_of k) ≡ true)
        is (first a x xs p)

no_tokens : (front back : List Token) → [] ≡ front ++ back → (front ≡ []) × (back ≡ [])
no_tokens [] back e = (refl, sym e)
no_tokens (x ∷ xs) back e = cc

-- a rule that has no token as a text is nullable
pub empties : {A : Type 0} (g : Rule A) (a : A) → Derives g a [] → nullable g ≡ true
empties (word set) a d = let h : [] ≡ a ∷ [] = d.0 in absurd cc
empties (pair g h) a d =
    let none = no_tokens d.0 d.1 d.2 in
    and_from (nullable g) (nullable h) (empties g a.0 (subst (Derives g a.0) none.0 d.3))
    (empties h a.1 (subst (Derives h a.1) none.1 d.4))
empties (either g h) a (inl d) = or_left (nullable g) (nullable h) (empties g a d)
empties (either g h) a (inr d) = or_right (nullable g) (nullable h) (empties h a d)
empties (maybe g) a d = refl
empties (many g) a d = refl
empties (change f g) b d = empties g d.0 d.2

-- a text begins with one of the rule's first terminals
pub begins : {A : Type 0} (g : Rule A) (a : A) (t : Token) (ts : List Token) → Derives g a (t ∷ ts) →
    has (firsts g) (terminal_of t) ≡ true
begins (word set) a t ts d = let is : t ≡ a = let h : t ∷ ts ≡ a ∷ [] = d.0 in cc in subst
    (λ (k : Token). has set (terminal_of k) ≡ true) (sym is) d.1
begins (pair g h) a t ts d =
    begins_pair (Derives g) (Derives h) (firsts g) (firsts h) (nullable g) (λ a' t' ts' e. begins g a' t' ts' e)
    (λ a' e. empties g a' e)
    (λ b t' ts' e. begins h b t' ts' e) d.0 d.1 a.0 a.1 t ts d.2 d.3 d.4
begins (either g h) a t ts (inl d) = has_left (firsts g) (firsts h) (terminal_of t) (begins g a t ts d)
begins (either g h) a t ts (inr d) = has_right (firsts g) (firsts h) (terminal_of t) (begins h a t ts d)
begins (maybe g) None t ts d = absurd (let h : t ∷ ts ≡ [] = d in cc)
begins (maybe g) (Some a) t ts d = begins g a t ts d
begins (many g) items t ts d = begins_each (Derives g) (firsts g) (λ a t' ts' e. begins g a t' ts' e) items t ts d
begins (change f g) b t ts d = begins g d.0 t ts d.2

-- ---- a text is read again, where nothing follows that could go on with it

pub record Reached {A : Type 0} (r : Read A) (a : A) (rest : List Token) : Type 0 where
  pub place : Place
  pub read_is : r ≡ Ok (a, place)
  pub rest_is : place.rest ≡ rest
  pub right : IsRight place

abbrev pub Again : {A : Type 0} → (A → List Token → Type 0) → (Place → Read A) → (Terminal → Bool) → Type 0
Again {A} P reads after =
    (a : A) (front rest : List Token) (p : Place) → P a front → p.rest ≡ front ++ rest → IsRight p
    → has after (next_of rest) ≡ false → Reached (reads p) a rest

pub next_is : (p : Place) (t : Token) (ts : List Token) → IsRight p → p.rest ≡ t ∷ ts → p.next ≡ terminal_of t
next_is p t ts right e = right ∙ ap next_of e

again_word : (set : Terminal → Bool) → Again (Derives (word set)) (read_rule (word set)) (λ t. false)
again_word set a front rest p d e right lacks =
    let whole : p.rest ≡ a ∷ rest = e ∙ ap (λ (ts : List Token). ts ++ rest) d.0 in
    let there : has set p.next ≡ true = ap (has set) (next_is p a rest right whole) ∙ d.1 in
    record {
      place = place_at rest;
      read_is = ap (word_at set p) whole ∙ rw there refl;
      rest_is = refl;
      right = refl;
    }

-- what follows the first text begins the second, or follows both
between : {A B : Type 0} (g : Rule A) (h : Rule B) → are_apart (tails g) (firsts h) ≡ true →
    (b : B) (back rest : List Token) → Derives h b back → has (tails (pair g h)) (next_of rest) ≡ false →
    has (tails g) (next_of (back ++ rest)) ≡ false
between g h apart b [] rest d lacks = lacks_under (nullable h) (tails g) (next_of rest) (empties h b d)
    (lacks_right (tails h) (λ t. nullable h && tails g t) (next_of rest) lacks)
between g h apart b (t ∷ ts) rest d lacks = apart_back (tails g) (firsts h) apart (terminal_of t) (begins h b t ts d)

again_pair : {A B : Type 0} (g : Rule A) (h : Rule B) → are_apart (tails g) (firsts h) ≡ true →
    Again (Derives g) (read_rule g) (tails g) → Again (Derives h) (read_rule h) (tails h) → Again
    (Derives (pair g h)) (read_rule (pair g h)) (tails (pair g h))
again_pair g h apart first second a front rest p d e right lacks =
    let whole : p.rest ≡ d.0 ++ (d.1 ++ rest) = e ∙ (ap (λ (ts : List Token). ts ++ rest) d.2 ∙ append_assoc d.0
    d.1 rest) in
    let x = first a.0 d.0 (d.1 ++ rest) p d.3 whole right (between g h apart a.1 d.1 rest d.4 lacks) in
    let y = second a.1 d.1 rest x.place d.4 x.rest_is x.right (lacks_left (tails h) (λ t. nullable h && tails g t)
    (next_of rest) lacks) in
    record { place = y.place; read_is = rw (x.read_is, y.read_is) refl; rest_is = y.rest_is; right = y.right }

first_token : {A : Type 0} (g : Rule A) (a : A) (front rest : List Token) (p : Place) → nullable g ≡ false →
    Derives g a front → p.rest ≡ front ++ rest → IsRight p → has (firsts g) p.next ≡ true
first_token g a [] rest p some d e right = absurd (false≢true (sym some ∙ empties g a d))
first_token g a (t ∷ ts) rest p some d e right = ap (has (firsts g)) (next_is p t (ts ++ rest) right e) ∙ begins g
    a t ts d

again_either : {A : Type 0} (g h : Rule A) → nullable g ≡ false → nullable h ≡ false →
    are_apart (firsts g) (firsts h) ≡ true → Again (Derives g) (read_rule g) (tails g) → Again (Derives h)
    (read_rule h) (tails h) → Again (Derives (either g h)) (read_rule (either g h)) (tails (either g h))
again_either g h some_g some_h apart first second a front rest p (inl d) e right lacks =
    let x = first a front rest p d e right (lacks_left (tails g) (tails h) (next_of rest) lacks) in
    record {
      place = x.place;
      read_is = rw (first_token g a front rest p some_g d e right) x.read_is;
      rest_is =
          x.rest_is;
      right = x.right;
    }
again_either g h some_g some_h apart first second a front rest p (inr d) e right lacks =
    let other = apart_back (firsts g) (firsts h) apart p.next (first_token h a front rest p some_h d e right) in
    let x = second a front rest (without (firsts g) p) d e right (lacks_right (tails g) (tails h) (next_of rest)
    lacks) in
    record { place = x.place; read_is = rw other x.read_is; rest_is = x.rest_is; right = x.right }

again_maybe : {A : Type 0} (g : Rule A) → nullable g ≡ false → Again (Derives g) (read_rule g) (tails g) →
    Again (Derives (maybe g)) (read_rule (maybe g)) (tails (maybe g))
again_maybe g some first None front rest p d e right lacks =
    let whole : p.rest ≡ rest = e ∙ ap (λ (ts : List Token). ts ++ rest) d in
    let other : has (firsts g) p.next ≡ false = ap (has (firsts g)) (right ∙ ap next_of whole) ∙ lacks_left
    (firsts g) (tails g) (next_of rest) lacks in
    record { place = without (firsts g) p; read_is = rw other refl; rest_is = whole; right = right }
again_maybe g some first (Some a) front rest p d e right lacks =
    let x = first a front rest p d e right (lacks_right (firsts g) (tails g) (next_of rest) lacks) in
    record {
      place = x.place;
      read_is = rw (first_token g a front rest p some d e right, x.read_is) refl;
      rest_is =
          x.rest_is;
      right = x.right;
    }

between_each : {A : Type 0} (g : Rule A) → are_apart (tails g) (firsts g) ≡ true →
    (items : List A) (back rest : List Token) → EachHas (Derives g) items back →
    has (tails (many g)) (next_of rest) ≡ false → has (tails g) (next_of (back ++ rest)) ≡ false
between_each g apart items [] rest d lacks = lacks_right (firsts g) (tails g) (next_of rest) lacks
between_each g apart items (t ∷ ts) rest d lacks = apart_back (tails g) (firsts g) apart (terminal_of t)
    (begins_each (Derives g) (firsts g) (begins g) items t ts d)

pub longer : {A : Type 0} (g : Rule A) (a : A) (front : List Token) → nullable g ≡ false → Derives g a front →
    0 < length front
longer g a [] some d = absurd (false≢true (sym some ∙ empties g a d))
longer g a (t ∷ ts) some d = omega arith

module _ {A : Type 0} (g : Rule A) (some : nullable g ≡ false) where
  again_many : are_apart (tails g) (firsts g) ≡ true → Again (Derives g) (read_rule g) (tails g)
      → (n : ℕ) (items : List A) (front rest : List Token) (p : Place) → length p.rest < n
      → EachHas (Derives g) items front → p.rest ≡ front ++ rest → IsRight p
      → has (tails (many g)) (next_of rest) ≡ false → Reached (many_at (read_rule g) (firsts g) n p) items rest
  again_many apart first zero items front rest p fuel d e right lacks = absurd (omega arith)
  again_many apart first (suc n) [] front rest p fuel d e right lacks =
      let whole : p.rest ≡ rest = e ∙ ap (λ (ts : List Token). ts ++ rest) d in
      let other : has (firsts g) p.next ≡ false = ap (has (firsts g)) (right ∙ ap next_of whole) ∙ lacks_left
      (firsts g) (tails g) (next_of rest) lacks in
      record { place = without (firsts g) p; read_is = rw other refl; rest_is = whole; right = right }
  again_many apart first (suc n) (a ∷ items) front rest p fuel d e right lacks =
      let whole : p.rest ≡ d.0 ++ (d.1 ++ rest) = e ∙ (ap (λ (ts : List Token). ts ++ rest) d.2 ∙ append_assoc d.0
      d.1 rest) in
      let x = first a d.0 (d.1 ++ rest) p d.3 whole right (between_each g apart items d.1 rest d.4 lacks) in
      let less : length x.place.rest < n = omega (
        arith,
        ap length whole,
        length-append d.0 (d.1 ++ rest),
        longer g a
            d.0 some d.3,
        ap length x.rest_is,
      ) in
      let y = again_many apart first n items d.1 rest x.place less d.4 x.rest_is x.right lacks in
      record {
        place = y.place;
        read_is = rw (
          first_token g a d.0 (d.1 ++ rest) p some d.3 whole right,
          x.read_is,
          y.read_is,
        ) refl;
        rest_is = y.rest_is;
        right = y.right;
      }

again_change : {A B : Type 0} (f : A → B) (g : Rule A) → Again (Derives g) (read_rule g) (tails g) →
    Again (Derives (change f g)) (read_rule (change f g)) (tails g)
again_change f g first b front rest p d e right lacks =
    let x = first d.0 front rest p d.2 e right lacks in
    record {
      place = x.place;
      read_is = rw x.read_is (ap (λ (c : _). Ok (c, x.place)) (sym d.1));
      rest_is =
          x.rest_is;
      right = x.right;
    }

-- what decides a pair, and the like
abbrev pub parts3 : (x y z : Bool) → (x && y && z) ≡ true → (x ≡ true) × (y ≡ true) × (z ≡ true)
parts3 x y z e = let p = and_parts (x && y) z e in let q = and_parts x y p.0 in (q.0, q.1, p.1)

-- each text of a rule whose next terminal decides is read again
pub again : {A : Type 0} (g : Rule A) → is_decided g ≡ true → Again (Derives g) (read_rule g) (tails g)
again (word set) d = again_word set
again (pair g h) d =
    let p = parts3 (is_decided g) (is_decided h) (are_apart (tails g) (firsts h)) d in
    again_pair g h p.2 (again g p.0) (again h p.1)
again (either g h) d =
    let p = and_parts (is_decided g && is_decided h && not (nullable g) && not (nullable h))
    (are_apart (firsts g) (firsts h)) d in
    let q = and_parts (is_decided g && is_decided h && not (nullable g)) (not (nullable h)) p.0 in
    let r = parts3 (is_decided g) (is_decided h) (not (nullable g)) q.0 in
    again_either g h (not-true (nullable g) r.2) (not-true (nullable h) q.1) p.1 (again g r.0) (again h r.1)
again (maybe g) d =
    let p = and_parts (is_decided g) (not (nullable g)) d in
    again_maybe g (not-true (nullable g) p.1) (again g p.0)
again (many g) d =
    let p = parts3 (is_decided g) (not (nullable g)) (are_apart (tails g) (firsts g)) d in
    λ items front rest place e whole right lacks.
    again_many g (not-true (nullable g) p.1) p.2 (again g p.0) (suc (length place.rest)) items front rest place
    (omega arith) e whole right lacks
again (change f g) d = again_change f g (again g d)
