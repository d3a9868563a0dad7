-- Where the reading of a rule stops.
use Rattle.std.proofs.Common.{◌≡◌, ℕ, zero, suc, ◌<◌, Bool, true, false, cond, ◌&&◌, not, List, [], ◌∷◌, ◌++◌, length}
use Rattle.std.proofs.Common.{Option, Some, None, Ok, Err, refl, sym, ap, ◌∙◌, subst, arith, inl, inr, length-append}
use Rattle.std.proofs.lemmas.List.{append-nil}
use Rattle.std.proofs.lemmas.Bool.{and_parts, false≢true, not-true}
use Rattle.xg_lex.specs.declared.token.Token.{Token}
use Rattle.xg_parse.specs.declared.terminal.Terminal.{Terminal}
use Rattle.xg_parse.specs.Words.{terminal_of}
use Rattle.xg_parse.specs.Rules.{Rule, word, pair, either, maybe, many, change, has, EachHas, Both, Derives}
use Rattle.xg_parse.specs.Reading.{has_some, nullable, firsts, tails, are_apart, is_decided, Place, next_of, place_at}
use Rattle.xg_parse.specs.Reading.{without, least_terminal, Read, ◌>>=◌, word_at, many_at, read_rule}
use Rattle.xg_parse.proofs.TerminalLaws.{least_is_in, least_before, lesser_left, lesser_right, lesser_is, least_there}
use Rattle.xg_parse.proofs.TerminalLaws.{lesser_there}
use Rattle.xg_parse.proofs.RuleLaws.{IsRight, next_is, begins, empties, again, apart_back, longer, parts3}
use Rattle.xg_parse.proofs.SampleLaws.{TextFrom, some_text, starts}
use Rattle.xg_parse.proofs.OutcomeLaws.{Stop, Done, Refused, Outcome, Told, pair_outcome}
use Rattle.xg_parse.proofs.LoopLaws.{list_of, with_first}

-- ---- a word

word_refused : (set : Terminal → Bool) → has_some set ≡ true → (p : Place) → IsRight p →
    ((token : Token) (rest : List Token) → p.rest ≡ token ∷ rest → has set (terminal_of token) ≡ true → ⊥) →
    Refused (Derives (word set)) p (without set p)
word_refused set some p right other =
    let w = least_there set some in
    let v = lesser_there p.tried (least_terminal set) w.0 w.1 in
    record {
      front = [];
      stop = record {
        whole = refl;
        right = right;
        offers = λ t e. elim (lesser_is p.tried (least_terminal set) t e) [
          | inl k ↦ inl (refl, k)
          | inr k ↦ inr (λ token is. record {
            item = token;
            more = [];
            derives =
                (refl, ap (has set) is ∙ least_is_in set t k);
          })
        ];
        covers = λ token t more a is d.
            let same : token ≡ a = let h = d.0 in cc in
            lesser_right p.tried (least_terminal set) t (least_before set t
            (ap (has set) (sym is ∙ ap terminal_of same) ∙ d.1));
        keeps = λ none t h. lesser_left p.tried (least_terminal set) t h;
        stops = λ token rest more a e d.
            let same : token ≡ a = let h = d.0 in cc in
            other token rest e (ap (λ (k : Token). has set (terminal_of k)) same ∙ d.1);
      };
      incomplete = λ a d. let h = d.0 in cc;
      want = v.0;
      tried_is = v.1;
    }

word_done : (set : Terminal → Bool) (p : Place) (t : Token) (ts : List Token) → p.rest ≡ t ∷ ts →
    has set (terminal_of t) ≡ true → Done (Derives (word set)) p t (place_at ts)
word_done set p t ts e there =
    record {
      front = t ∷ [];
      stop = record {
        whole = e;
        right = refl;
        offers = λ u k. cc;
        covers = λ token u more a is d. absurd (let h = d.0 in cc);
        keeps = λ none u h. absurd (let k : t ∷ [] ≡ [] = none in cc);
        stops = λ token rest more a k d. let h = d.0 in cc;
      };
      derives = (refl, there);
    }

word_outcome : (set : Terminal → Bool) → has_some set ≡ true → (p : Place) → IsRight p → (tokens : List Token) →
    p.rest ≡ tokens → Outcome (Derives (word set)) p (word_at set p tokens)
word_outcome set some p right [] e = word_refused set some p right (λ token rest h k. let none = sym e ∙ h in cc)
word_outcome set some p right (t ∷ ts) e = by_test (has set p.next) refl
  where
    next_there : p.next ≡ terminal_of t
    next_there = next_is p t ts right e

    by_test : (b : Bool) → has set p.next ≡ b →
        Outcome (Derives (word set)) p (cond b (Ok (t, place_at ts)) (Err (without set p)))
    by_test true holds = word_done set p t ts e (ap (has set) (sym next_there) ∙ holds)
    by_test false fails = word_refused set some p right (λ token rest h k.
        let same : token ≡ t = let both = sym h ∙ e in cc in
        false≢true (sym fails ∙ (ap (has set) (next_there ∙ ap terminal_of (sym same)) ∙ k)))

-- ---- the same place for another language

module _ {A B : Type 0} (P : A → List Token → Type 0) (Q : B → List Token → Type 0) (p : Place) (f : A →
    B) (ext : (a : A) (ts : List Token) → P a ts → Q (f a) ts) where
  stop_as : (q : Place) (front : List Token) → ((b : B) (ts : List Token) → Q b (front ++ ts) →
      (a : A) × P a (front ++ ts)) → Stop P p q front → Stop Q p q front
  stop_as q front back s = record {
    whole = s.whole;
    right = s.right;
    offers = λ t e. elim (s.offers t e) [
      | inl k ↦ inl k
      | inr k ↦ inr (λ token is. let x = k token is in record {
        item = f x.item;
        more = x.more;
        derives = ext
            x.item (front ++ token ∷ x.more) x.derives;
      })
    ];
    covers = λ token t more b is d. let x = back b (token ∷ more) d in s.covers token t more x.0 is x.1;
    keeps = s.keeps;
    stops = λ token rest more b e d. let x = back b (token ∷ more) d in s.stops token rest more x.0 e x.1;
  }

  pub outcome_as : ((q : Place) (front : List Token) → Stop P p q front → (b : B) (ts : List Token) →
      Q b (front ++ ts) → (a : A) × P a (front ++ ts)) → (r : Read A) → Outcome P p r →
      Outcome Q p (r >>= λ x. Ok (f x.0, x.1))
  outcome_as back (Ok x) o = record {
    front = o.front;
    stop = stop_as x.1 o.front (back x.1 o.front o.stop) o.stop;
    derives = ext x.0 o.front o.derives;
  }
  outcome_as back (Err q) o = record {
    front = o.front;
    stop = stop_as q o.front (back q o.front o.stop) o.stop;
    incomplete = λ b d. let x = back q o.front o.stop b [] (subst (Q b) (sym (append-nil o.front)) d) in
        o.incomplete x.0 (subst (P x.0) (append-nil o.front) x.1);
    want = o.want;
    tried_is = o.tried_is;
  }

-- ---- where the next terminal is one of the first, something was read

record FirstThere (s : Terminal → Bool) (p : Place) : Type 0 where
  token : Token
  rest : List Token
  terminal : Terminal
  rest_is : p.rest ≡ token ∷ rest
  terminal_is : terminal_of token ≡ Some terminal
  is_in : s terminal ≡ true

first_there : (s : Terminal → Bool) (p : Place) → IsRight p → has s p.next ≡ true → FirstThere s p
first_there s p right holds = by_rest p.rest refl
  where
    by_terminal : (token : Token) (rest : List Token) → p.rest ≡ token ∷ rest → (o : Option Terminal) →
        terminal_of token ≡ o → has s o ≡ true → FirstThere s p
    by_terminal token rest e None is h = absurd (false≢true h)
    by_terminal token rest e (Some t) is h = record {
      token = token;
      rest = rest;
      terminal = t;
      rest_is = e;
      terminal_is = is;
      is_in = h;
    }

    by_rest : (tokens : List Token) → p.rest ≡ tokens → FirstThere s p
    by_rest [] e = absurd (false≢true (sym (ap (has s) (right ∙ ap next_of e)) ∙ holds))
    by_rest (t ∷ ts) e = by_terminal t ts e (terminal_of t) refl (ap (has s) (sym (next_is p t ts right e)) ∙ holds)

-- a front with a token, whose terminal is in the set
record Begun (s : Terminal → Bool) (front : List Token) : Type 0 where
  token : Token
  more : List Token
  front_is : front ≡ token ∷ more
  begins_in : has s (terminal_of token) ≡ true

begun : {A : Type 0} (P : A → List Token → Type 0) (s : Terminal → Bool) (p q : Place) (front : List Token) →
    IsRight p → has s p.next ≡ true → ((t : Terminal) → s t ≡ true → (token : Token) → terminal_of token ≡ Some t →
    TextFrom P [] token) → Stop P p q front → Begun s front
begun {A} P s p q [] right holds start stop =
    let f = first_there s p right holds in
    let x = start f.terminal f.is_in f.token f.terminal_is in
    absurd (stop.stops f.token f.rest x.more x.item (sym stop.whole ∙ f.rest_is) x.derives)
begun {A} P s p q (c ∷ cs) right holds start stop =
    record {
      token = c;
      more = cs;
      front_is = refl;
      begins_in = ap (has s)
          (sym (next_is p c (cs ++ q.rest) right stop.whole)) ∙ holds;
    }

-- ---- where it isn't, nothing is read

skipped : {B : Type 0} (Q : B → List Token → Type 0) (b : B) (s : Terminal → Bool) (p : Place) → IsRight p →
    has s p.next ≡ false → Q b [] → ((b' : B) (t : Token) (ts : List Token) → Q b' (t ∷ ts) →
    has s (terminal_of t) ≡ true) → ((t : Terminal) → s t ≡ true → (token : Token) → terminal_of token ≡ Some t →
    TextFrom Q [] token) → Done Q p b (without s p)
skipped {B} Q b s p right fails none first start =
    record {
      front = [];
      stop = record {
        whole = refl;
        right = right;
        offers = λ t e. elim (lesser_is p.tried (least_terminal s) t e) [
          | inl k ↦ inl (refl, k)
          | inr k ↦ inr (λ token is. start t (least_is_in s t k) token is)
        ];
        covers = λ token t more b' is d. lesser_right p.tried (least_terminal s) t
            (least_before s t (ap (has s) (sym is) ∙ first b' token more d));
        keeps = λ empty t h. lesser_left p.tried (least_terminal s) t h;
        stops = λ token rest more b' e d. false≢true (sym fails ∙ (ap (has s) (next_is p token rest right e) ∙
            first b' token more d));
      };
      derives = none;
    }

-- ---- one rule or another

module _ {A : Type 0} (g h : Rule A) (dg : is_decided g ≡ true) (some_g : nullable g ≡ false)
    (apart : are_apart (firsts g) (firsts h) ≡ true) (p : Place) (right : IsRight p) where
  first_chosen : has (firsts g) p.next ≡ true → (q : Place) (front : List Token) → Stop (Derives g) p q front →
      (a : A) (ts : List Token) → Derives (either g h) a (front ++ ts) → (b : A) × Derives g b (front ++ ts)
  first_chosen holds q front stop a ts (inl d) = (a, d)
  first_chosen holds q front stop a ts (inr d) =
      let x = begun (Derives g) (firsts g) p q front right holds (starts g dg) stop in
      let other = begins h a x.token (x.more ++ ts) (subst (λ (f : List Token). Derives h a (f ++ ts)) x.front_is d) in
      absurd (false≢true (sym (apart_back (firsts g) (firsts h) apart (terminal_of x.token) other) ∙ x.begins_in))

  -- a text of the first can't begin here
  not_first : has (firsts g) p.next ≡ false → (q : Place) (front : List Token) → p.rest ≡ front ++ q.rest →
      (a : A) (ts : List Token) → Derives g a (front ++ ts) → front ≡ []
  not_first fails q [] whole a ts d = refl
  not_first fails q (c ∷ cs) whole a ts d = absurd (false≢true (sym fails ∙
      (ap (has (firsts g)) (next_is p c (cs ++ q.rest) right whole) ∙ begins g a c (cs ++ ts) d)))

  second_stop : has (firsts g) p.next ≡ false → (q : Place) (front : List Token) →
      Stop (Derives h) (without (firsts g) p) q front → Stop (Derives (either g h)) p q front
  second_stop fails q front s = record {
    whole = s.whole;
    right = s.right;
    offers = λ t e. elim (s.offers t e) [
      | inl k ↦ elim (lesser_is p.tried (least_terminal (firsts g)) t k.1) [
        | inl j ↦ inl (k.0, j)
        | inr j ↦ inr (λ token is. let x = starts g dg t (least_is_in (firsts g) t j) token is in
            record {
              item = x.item;
              more = x.more;
              derives = inl (subst
                  (λ (f : List Token). Derives g x.item (f ++ token ∷ x.more)) (sym k.0) x.derives);
            })
      ]
      | inr k ↦ inr (λ token is. let x = k token is in record { item = x.item; more = x.more; derives = inr x.derives })
    ];
    covers = λ token t more a is d. elim d [
      | inl k ↦ (let none = not_first fails q front s.whole a (token ∷ more) k in
          let there = ap (has (firsts g)) (sym is) ∙ begins g a token more
          (subst (λ (f : List Token). Derives g a (f ++ token ∷ more)) none k) in
          s.keeps none t (lesser_right p.tried (least_terminal (firsts g)) t (least_before (firsts g) t there)))
      | inr k ↦ s.covers token t more a is k
    ];
    keeps = λ none t k. s.keeps none t (lesser_left p.tried (least_terminal (firsts g)) t k);
    stops = λ token rest more a e d. elim d [
      | inl k ↦ (let none = not_first fails q front s.whole a (token ∷ more) k in
          let here : p.rest ≡ token ∷ rest = s.whole ∙ (ap (λ (f : List Token). f ++ q.rest) none ∙ e) in
          false≢true (sym fails ∙ (ap (has (firsts g)) (next_is p token rest right here) ∙ begins g a token more
          (subst (λ (f : List Token). Derives g a (f ++ token ∷ more)) none k))))
      | inr k ↦ s.stops token rest more a e k
    ];
  }

  second_chosen : has (firsts g) p.next ≡ false → (r : Read A) → Outcome (Derives h) (without (firsts g) p) r →
      Outcome (Derives (either g h)) p r
  second_chosen fails (Ok x) o = record {
    front = o.front;
    stop = second_stop fails x.1 o.front o.stop;
    derives =
        inr o.derives;
  }
  second_chosen fails (Err q) o = record {
    front = o.front;
    stop = second_stop fails q o.front o.stop;
    incomplete = λ a d. elim d [
      | inl k ↦ (let none = not_first fails q o.front o.stop.whole a []
          (subst (Derives g a) (sym (append-nil o.front)) k) in
          false≢true (sym some_g ∙ empties g a (subst (Derives g a) none k)))
      | inr k ↦ o.incomplete a k
    ];
    want = o.want;
    tried_is = o.tried_is;
  }

as_it_is : {A : Type 0} (r : Read A) → (r >>= λ x. Ok (x.0, x.1)) ≡ r
as_it_is (Ok x) = refl
as_it_is (Err q) = refl

either_outcome : {A : Type 0} (g h : Rule A) → is_decided g ≡ true → nullable g ≡ false →
    are_apart (firsts g) (firsts h) ≡ true → (p : Place) → IsRight p → Outcome (Derives g) p (read_rule g p) →
    Outcome (Derives h) (without (firsts g) p) (read_rule h (without (firsts g) p)) → (b : Bool) →
    has (firsts g) p.next ≡ b → Outcome (Derives (either g h)) p (cond b (read_rule g p)
    (read_rule h (without (firsts g) p)))
either_outcome g h dg some_g apart p right first second true holds =
    subst (Outcome (Derives (either g h)) p) (as_it_is (read_rule g p))
    (outcome_as (Derives g) (Derives (either g h)) p (λ a. a) (λ a ts d. inl d)
    (first_chosen g h dg some_g apart p right holds) (read_rule g p) first)
either_outcome g h dg some_g apart p right first second false fails = second_chosen g h dg some_g apart p right
    fails (read_rule h (without (firsts g) p)) second

-- ---- [x] and {x}

maybe_read : {A : Type 0} (g : Rule A) → is_decided g ≡ true → (p : Place) → IsRight p →
    has (firsts g) p.next ≡ true → (q : Place) (front : List Token) → Stop (Derives g) p q front →
    (b : Option A) (ts : List Token) → Derives (maybe g) b (front ++ ts) → (a : A) × Derives g a (front ++ ts)
maybe_read g dg p right holds q front stop (Some a) ts d = (a, d)
maybe_read g dg p right holds q front stop None ts d =
    let x = begun (Derives g) (firsts g) p q front right holds (starts g dg) stop in
    absurd (let none : (x.token ∷ x.more) ++ ts ≡ [] = ap (λ (f : List Token). f ++ ts) (sym x.front_is) ∙ d in cc)

maybe_outcome : {A : Type 0} (g : Rule A) → is_decided g ≡ true → (d : is_decided (maybe g) ≡ true) → (p : Place) →
    IsRight p → Outcome (Derives g) p (read_rule g p) → (b : Bool) → has (firsts g) p.next ≡ b →
    Outcome (Derives (maybe g)) p (cond b (read_rule g p >>= λ x. Ok (Some x.0, x.1))
    (Ok (None, without (firsts g) p)))
maybe_outcome g dg d p right first true holds =
    outcome_as (Derives g) (Derives (maybe g)) p (λ a. Some a) (λ a ts e. e) (maybe_read g dg p right holds)
    (read_rule g p) first
maybe_outcome g dg d p right first false fails =
    skipped (Derives (maybe g)) None (firsts g) p right fails refl (begins (maybe g)) (starts (maybe g) d)

-- the same reading with something else given of it
abbrev changed : {A B : Type 0} → (A → B) → Read A → Read B
changed f r = r >>= λ x. Ok (f x.0, x.1)

-- one reading and then another
abbrev joined : {A B : Type 0} → Read A → (Place → Read B) → Read (A × B)
joined r next = r >>= λ x. next x.1 >>= λ y. Ok ((x.0, y.0), y.1)

inner : {A : Type 0} (a : A) (s : Read (List A)) → changed list_of (s >>= λ y. Ok ((a, y.0), y.1)) ≡ with_first a s
inner a (Ok y) = refl
inner a (Err q) = refl

regrouped : {A : Type 0} (r : Read A) (next : Place → Read (List A)) →
    changed list_of (joined r next) ≡ (r >>= λ x. with_first x.0 (next x.1))
regrouped (Ok x) next = inner x.0 (next x.1)
regrouped (Err q) next = refl

both_starts : {A : Type 0} (g : Rule A) → is_decided g ≡ true → (t : Terminal) → firsts g t ≡ true →
    (token : Token) → terminal_of token ≡ Some t → TextFrom (Both (Derives g) (EachHas (Derives g))) [] token
both_starts g dg t e token is =
    let x = starts g dg t e token is in
    record {
      item = (x.item, []);
      more = x.more;
      derives = (
        token ∷ x.more,
        [],
        sym (append-nil (token ∷ x.more)),
        x.derives,
        refl,
      );
    }

many_read : {A : Type 0} (g : Rule A) → is_decided g ≡ true → (p : Place) → IsRight p →
    has (firsts g) p.next ≡ true → (q : Place) (front : List Token) →
    Stop (Both (Derives g) (EachHas (Derives g))) p q front → (items : List A) (ts : List Token) →
    EachHas (Derives g) items (front ++ ts) →
    (both : A × List A) × Both (Derives g) (EachHas (Derives g)) both (front ++ ts)
many_read g dg p right holds q front stop (a ∷ items) ts d = ((a, items), d)
many_read g dg p right holds q front stop [] ts d =
    let x = begun (Both (Derives g) (EachHas (Derives g))) (firsts g) p q front right holds (both_starts g dg) stop in
    absurd (let none : (x.token ∷ x.more) ++ ts ≡ [] = ap (λ (f : List Token). f ++ ts) (sym x.front_is) ∙ d in cc)

-- a rule is told where one of those terminals follows
told_by : {A B : Type 0} (g : Rule A) (Q : B → List Token → Type 0) (s : Terminal → Bool) → is_decided g ≡ true →
    are_apart (tails g) s ≡ true → ((b : B) (t : Token) (ts : List Token) → Q b (t ∷ ts) →
    has s (terminal_of t) ≡ true) → (p : Place) → IsRight p → Told (Derives g) Q p (read_rule g p)
told_by g Q s dg apart first p right = λ a xs c zs b ys d e whole.
    let x = again g dg a xs (c ∷ zs) p d whole right (apart_back (tails g) s apart (terminal_of c) (first b c ys e)) in
    (x.place, x.read_is, x.rest_is)

many_outcome : {A : Type 0} (g : Rule A) → is_decided g ≡ true → is_decided (many g) ≡ true → nullable g ≡ false →
    are_apart (tails g) (firsts g) ≡ true → ((q : Place) → IsRight q → Outcome (Derives g) q (read_rule g q)) →
    (n : ℕ) (p : Place) → IsRight p → length p.rest < n →
    Outcome (EachHas (Derives g)) p (many_at (read_rule g) (firsts g) n p)
many_outcome {A} g dg dm some apart one zero p right fuel = absurd (omega arith)
many_outcome {A} g dg dm some apart one (suc n) p right fuel = by_test (has (firsts g) p.next) refl
    (λ q r less. many_outcome g dg dm some apart one n q r less)
  where
    by_test : (b : Bool) → has (firsts g) p.next ≡ b → ((q : Place) → IsRight q → length q.rest < n →
        Outcome (EachHas (Derives g)) q (many_at (read_rule g) (firsts g) n q)) → Outcome (EachHas (Derives g)) p
        (cond b (read_rule g p >>= λ x. many_at (read_rule g) (firsts g) n x.1 >>= λ xs. Ok (x.0 ∷ xs.0, xs.1))
        (Ok ([], without (firsts g) p)))
    by_test false fails more = skipped (EachHas (Derives g)) [] (firsts g) p right fails refl (begins (many g))
        (starts (many g) dm)
    by_test true holds more =
        let both = pair_outcome (Derives g) (EachHas (Derives g)) p
        (record { item = []; tokens = []; derives = refl }) (read_rule g p) (many_at (read_rule g) (firsts g) n)
        (told_by g (EachHas (Derives g)) (firsts g) dg apart (begins (many g)) p right) (one p right)
        (λ a q o. more q o.stop.right (omega (
          arith,
          ap length o.stop.whole,
          length-append o.front q.rest,
          longer g
              a o.front some o.derives,
        ))) in
        subst (Outcome (EachHas (Derives g)) p) (regrouped (read_rule g p) (many_at (read_rule g) (firsts g) n))
        (outcome_as (Both (Derives g) (EachHas (Derives g))) (EachHas (Derives g)) p list_of (λ x ts d. d)
        (many_read g dg p right holds) _ both)

change_outcome : {A B : Type 0} (f : A → B) (g : Rule A) (p : Place) → Outcome (Derives g) p (read_rule g p) →
    Outcome (Derives (change f g)) p (read_rule (change f g) p)
change_outcome f g p o =
    outcome_as (Derives g) (Derives (change f g)) p f (λ a ts d. (a, refl, d)) (λ q front stop b ts d. (d.0, d.2))
    (read_rule g p) o

-- ---- any rule

pub outcome : {A : Type 0} (g : Rule A) → is_decided g ≡ true → (p : Place) → IsRight p →
    Outcome (Derives g) p (read_rule g p)
outcome (word set) d p right = word_outcome set d p right p.rest refl
outcome (pair g h) d p right =
    let t = parts3 (is_decided g) (is_decided h) (are_apart (tails g) (firsts h)) d in
    pair_outcome (Derives g) (Derives h) p (some_text h t.1) (read_rule g p) (read_rule h)
    (told_by g (Derives h) (firsts h) t.0 t.2 (begins h) p right)
    (outcome g t.0 p right) (λ a q o. outcome h t.1 q o.stop.right)
outcome (either g h) d p right =
    let t = and_parts (is_decided g && is_decided h && not (nullable g) && not (nullable h))
    (are_apart (firsts g) (firsts h)) d in
    let u = and_parts (is_decided g && is_decided h && not (nullable g)) (not (nullable h)) t.0 in
    let v = parts3 (is_decided g) (is_decided h) (not (nullable g)) u.0 in
    either_outcome g h v.0 (not-true (nullable g) v.2) t.1 p right (outcome g v.0 p right)
    (outcome h v.1 (without (firsts g) p) right) (has (firsts g) p.next) refl
outcome (maybe g) d p right =
    let t = and_parts (is_decided g) (not (nullable g)) d in
    maybe_outcome g t.0 d p right (outcome g t.0 p right) (has (firsts g) p.next) refl
outcome (many g) d p right =
    let t = parts3 (is_decided g) (not (nullable g)) (are_apart (tails g) (firsts g)) d in
    many_outcome g t.0 d (not-true (nullable g) t.1) t.2 (outcome g t.0) (suc (length p.rest)) p right (omega arith)
outcome (change f g) d p right = change_outcome f g p (outcome g d p right)
