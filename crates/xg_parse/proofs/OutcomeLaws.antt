-- Where a reading stops, and what could stand there.
use Rattle.std.proofs.Common.{◌≡◌, List, [], ◌∷◌, ◌++◌, length, Some, Ok, Err, refl, sym, ap, ◌∙◌, subst, arith, inl}
use Rattle.std.proofs.Common.{inr, ◌⊎◌, append_assoc, length-append}
use Rattle.std.proofs.lemmas.List.{append-nil}
use Rattle.xg_lex.specs.declared.token.Token.{Token}
use Rattle.xg_parse.specs.declared.terminal.Terminal.{Terminal}
use Rattle.xg_parse.specs.Words.{terminal_of}
use Rattle.xg_parse.specs.Rules.{Both}
use Rattle.xg_parse.specs.Reading.{Place, Read, ◌>>=◌}
use Rattle.xg_parse.proofs.TerminalLaws.{AtOrBefore}
use Rattle.xg_parse.proofs.RuleLaws.{IsRight}
use Rattle.xg_parse.proofs.SampleLaws.{Text, TextFrom}

-- a token of that terminal goes on to a text behind the front
abbrev pub Extends : {A : Type 0} → (A → List Token → Type 0) → List Token → Terminal → Type 0
Extends P front t = (token : Token) → terminal_of token ≡ Some t → TextFrom P front token

-- from p the reading went over the front to q
pub record Stop {A : Type 0} (P : A → List Token → Type 0) (p q : Place) (front : List Token) : Type 0 where
  pub whole : p.rest ≡ front ++ q.rest
  pub right : IsRight q
  -- the least that was looked for goes on there, or was looked for at p
  pub offers : (t : Terminal) → q.tried ≡ Some t → ((front ≡ []) × (p.tried ≡ Some t)) ⊎ Extends P front t
  -- what goes on there isn't before the least that was looked for
  pub covers : (token : Token) (t : Terminal) (more : List Token) (a : A) → terminal_of token ≡ Some t →
      P a (front ++ token ∷ more) → AtOrBefore q.tried t
  pub keeps : front ≡ [] → (t : Terminal) → AtOrBefore p.tried t → AtOrBefore q.tried t
  -- the next token doesn't go on
  pub stops : (token : Token) (rest more : List Token) (a : A) → q.rest ≡ token ∷ rest → P a (front ++ token ∷ more) → ⊥

pub record Done {A : Type 0} (P : A → List Token → Type 0) (p : Place) (a : A) (q : Place) : Type 0 where
  pub front : List Token
  pub stop : Stop P p q front
  pub derives : P a front

pub record Refused {A : Type 0} (P : A → List Token → Type 0) (p q : Place) : Type 0 where
  pub front : List Token
  pub stop : Stop P p q front
  pub incomplete : (a : A) → P a front → ⊥
  pub want : Terminal
  pub tried_is : q.tried ≡ Some want

abbrev pub Outcome : {A : Type 0} → (A → List Token → Type 0) → Place → Read A → Type 0
Outcome P p (Ok x) = Done P p x.0 x.1
Outcome P p (Err q) = Refused P p q

-- ---- two ways to cut a list

pub record Inside (xs ys front after : List Token) : Type 0 where
  pub z : List Token
  pub front_is : front ≡ xs ++ z
  pub back_is : ys ≡ z ++ after

pub record Past (xs ys front after : List Token) : Type 0 where
  pub y : Token
  pub z : List Token
  pub xs_is : xs ≡ front ++ y ∷ z
  pub after_is : after ≡ y ∷ (z ++ ys)

pub cuts : (xs ys front after : List Token) → xs ++ ys ≡ front ++ after →
    Inside xs ys front after ⊎ Past xs ys front after
cuts [] ys front after e = inl (record { z = front; front_is = refl; back_is = e })
cuts (x ∷ xs) ys [] after e = inr (record { y = x; z = xs; xs_is = refl; after_is = sym e })
cuts (x ∷ xs) ys (f ∷ front) after e =
    let heads : x ≡ f = cc in
    let rests : xs ++ ys ≡ front ++ after = cc in
    elim (cuts xs ys front after rests) [
      | inl i ↦ inl (record {
        z = i.z;
        front_is = ap (λ (ts : List Token). f ∷ ts) i.front_is ∙ ap
            (λ (t : Token). t ∷ (xs ++ i.z)) (sym heads);
        back_is = i.back_is;
      })
      | inr i ↦ inr (record {
        y = i.y;
        z = i.z;
        xs_is = ap (λ (ts : List Token). x ∷ ts) i.xs_is ∙ ap
            (λ (t : Token). t ∷ (front ++ i.y ∷ i.z)) heads;
        after_is = i.after_is;
      })
    ]

-- ---- one reading and then another

-- what is read of P where Q goes on behind it
abbrev pub Told : {A B : Type 0} → (A → List Token → Type 0) → (B → List Token → Type 0) → Place → Read A → Type 0
Told {A} {B} P Q p r =
    (a : A) (xs : List Token) (c : Token) (zs : List Token) (b : B) (ys : List Token) → P a xs → Q b (c ∷ ys)
    → p.rest ≡ xs ++ c ∷ zs → (q : Place) × (r ≡ Ok (a, q)) × (q.rest ≡ c ∷ zs)

-- the first goes on behind the front with the next token
record Beyond {A : Type 0} (P : A → List Token → Type 0) (a : A) (front after : List Token) : Type 0 where
  token : Token
  more : List Token
  rest : List Token
  derives : P a (front ++ token ∷ more)
  after_is : after ≡ token ∷ rest

-- no tokens, cut in two
none_cut : (xs ys : List Token) → xs ++ ys ≡ [] → (xs ≡ []) × (ys ≡ [])
none_cut [] ys e = (refl, e)
none_cut (x ∷ xs) ys e = cc

one_place : {A : Type 0} (r : Read A) (x y : A × Place) → r ≡ Ok x → r ≡ Ok y → x.1 ≡ y.1
one_place {A} r x y e h = let same : x ≡ y = cc in ap (λ (z : A × Place). z.1) same

module _ {A B : Type 0} (P : A → List Token → Type 0) (Q : B → List Token → Type 0) (p : Place) (some : Text Q) where
  both_extends : (front : List Token) (t : Terminal) → Extends P front t → Extends (Both P Q) front t
  both_extends front t h = λ token is.
      let x = h token is in
      record {
        item = (x.item, some.item);
        more = x.more ++ some.tokens;
        derives = (
          front ++ token ∷ x.more,
          some.tokens,
          sym (append_assoc front (token ∷ x.more) some.tokens),
          x.derives,
          some.derives,
        );
      }

  -- where the first is refused
  module _ (q : Place) (f : Refused P p q) (told : Told P Q p (Err q)) where
    too_early : (a : A) (b : B) (xs ys z after : List Token) → P a xs → Q b ys → f.front ≡ xs ++ z → ys ≡ z ++ after → ⊥
    too_early a b xs ys [] after d e front_is back_is = f.incomplete a (subst (P a) (sym (front_is ∙ append-nil xs)) d)
    too_early a b xs ys (c ∷ zs) after d e front_is back_is =
        let whole : p.rest ≡ xs ++ c ∷ (zs ++ q.rest) = f.stop.whole ∙
        (ap (λ (ts : List Token). ts ++ q.rest) front_is ∙ append_assoc xs (c ∷ zs) q.rest) in
        let x = told a xs c (zs ++ q.rest) b (zs ++ after) d (subst (Q b) back_is e) whole in
        let ok = x.1 in
        cc

    goes_past : (both : A × B) (after : List Token) → Both P Q both (f.front ++ after) → Beyond P both.0 f.front after
    goes_past both after d =
        elim (cuts d.0 d.1 f.front after (sym d.2)) [
          | inl i ↦ absurd (too_early both.0 both.1 d.0 d.1 i.z after d.3 d.4 i.front_is i.back_is)
          | inr i ↦ record {
            token = i.y;
            more = i.z;
            derives = subst (P both.0) i.xs_is d.3;
            rest = i.z ++ d.1;
            after_is = i.after_is;
          }
        ]

    pub pair_refused : Refused (Both P Q) p q
    pair_refused = record {
      front = f.front;
      stop = record {
        whole = f.stop.whole;
        right = f.stop.right;
        offers = λ t e. elim (f.stop.offers t e) [ inl h ↦ inl h | inr h ↦ inr (both_extends f.front t h) ];
        covers = λ token t more both is d.
            let x = goes_past both (token ∷ more) d in
            let same : x.token ≡ token = let h = x.after_is in cc in
            f.stop.covers token t x.more both.0 is (subst (λ (k : Token). P both.0 (f.front ++ k ∷ x.more)) same
            x.derives);
        keeps = f.stop.keeps;
        stops = λ token rest more both e d.
            let x = goes_past both (token ∷ more) d in
            let same : x.token ≡ token = let h = x.after_is in cc in
            f.stop.stops token rest x.more both.0 e (subst (λ (k : Token). P both.0 (f.front ++ k ∷ x.more)) same
            x.derives);
      };
      incomplete = λ both d. let x = goes_past both [] (subst (Both P Q both) (sym (append-nil f.front)) d) in let
          h = x.after_is in cc;
      want = f.want;
      tried_is = f.tried_is;
    }

  -- where the first is read
  module _ (a : A) (q : Place) (f : Done P p a q) (told : Told P Q p (Ok (a, q))) where
    whole_first : (a' : A) (b : B) (xs ys z after : List Token) → P a' xs → Q b ys → f.front ≡ xs ++ z →
        ys ≡ z ++ after → z ≡ []
    whole_first a' b xs ys [] after d e front_is back_is = refl
    whole_first a' b xs ys (c ∷ zs) after d e front_is back_is =
        let whole : p.rest ≡ xs ++ c ∷ (zs ++ q.rest) = f.stop.whole ∙
        (ap (λ (ts : List Token). ts ++ q.rest) front_is ∙ append_assoc xs (c ∷ zs) q.rest) in
        let x = told a' xs c (zs ++ q.rest) b (zs ++ after) d (subst (Q b) back_is e) whole in
        let same : x.0 ≡ q = one_place (Ok (a, q)) (a', x.0) (a, q) x.1 refl in
        let longer : q.rest ≡ c ∷ (zs ++ q.rest) = ap (λ (r : Place). r.rest) (sym same) ∙ x.2 in
        absurd (omega (arith, ap length longer, length-append zs q.rest))

    -- the second begins behind the front, or the first goes on
    sorted : (both : A × B) (after : List Token) → Both P Q both (f.front ++ after) →
        Q both.1 after ⊎ Beyond P both.0 f.front after
    sorted both after d =
        elim (cuts d.0 d.1 f.front after (sym d.2)) [
          | inl i ↦ (let none = whole_first both.0 both.1 d.0 d.1 i.z after d.3 d.4 i.front_is i.back_is in
              inl (subst (Q both.1) (i.back_is ∙ ap (λ (ts : List Token). ts ++ after) none) d.4))
          | inr i ↦ inr (record {
            token = i.y;
            more = i.z;
            derives = subst (P both.0) i.xs_is d.3;
            rest = i.z ++
                d.1;
            after_is = i.after_is;
          })
        ]

    -- and then nothing of the second was read
    none_second : (a' : A) (front after rest : List Token) → q.rest ≡ front ++ rest →
        Beyond P a' f.front (front ++ after) → (front ≡ []) × Beyond P a' f.front after
    none_second a' [] after rest e x = (refl, x)
    none_second a' (c ∷ cs) after rest e x =
        let same : x.token ≡ c = let h = x.after_is in cc in
        absurd (f.stop.stops c (cs ++ rest) x.more a' e (subst (λ (k : Token). P a' (f.front ++ k ∷ x.more)) same
        x.derives))

    both_offers : (r : Place) (front : List Token) → Stop Q q r front → (t : Terminal) → r.tried ≡ Some t →
        ((f.front ++ front ≡ []) × (p.tried ≡ Some t)) ⊎ Extends (Both P Q) (f.front ++ front) t
    both_offers r front s t e =
        elim (s.offers t e) [
          | inl h ↦ elim (f.stop.offers t h.1) [
            | inl k ↦ inl (ap (λ (ts : List Token). ts ++ front) k.0 ∙ h.0, k.1)
            | inr k ↦ inr (subst (λ (ts : List Token). Extends (Both P Q) ts t)
                (sym (ap (λ (ts : List Token). f.front ++ ts) h.0 ∙ append-nil f.front)) (both_extends f.front t k))
          ]
          | inr h ↦ inr (λ token is. let x = h token is in
              record {
                item = (a, x.item);
                more = x.more;
                derives = (
                  f.front,
                  front ++ token ∷ x.more,
                  append_assoc f.front front (token ∷ x.more),
                  f.derives,
                  x.derives,
                );
              })
        ]

    both_stop : (r : Place) (front : List Token) → Stop Q q r front → Stop (Both P Q) p r (f.front ++ front)
    both_stop r front s = record {
      whole = f.stop.whole ∙ (ap (λ (ts : List Token). f.front ++ ts) s.whole ∙ sym
          (append_assoc f.front front r.rest));
      right = s.right;
      offers = both_offers r front s;
      covers = λ token t more both is d.
          elim (sorted both (front ++ token ∷ more) (subst (Both P Q both)
          (append_assoc f.front front (token ∷ more)) d)) [
            | inl e ↦ s.covers token t more both.1 is e
            | inr x ↦ (let y = none_second both.0 front (token ∷ more) r.rest s.whole x in
                let same : y.1.token ≡ token = let h = y.1.after_is in cc in
                s.keeps y.0 t (f.stop.covers token t y.1.more both.0 is
                (subst (λ (k : Token). P both.0 (f.front ++ k ∷ y.1.more)) same y.1.derives)))
          ];
      keeps = λ none t h. let n = none_cut f.front front none in s.keeps n.1 t (f.stop.keeps n.0 t h);
      stops = λ token rest more both e d.
          elim (sorted both (front ++ token ∷ more) (subst (Both P Q both)
          (append_assoc f.front front (token ∷ more)) d)) [
            | inl k ↦ s.stops token rest more both.1 e k
            | inr x ↦ (let y = none_second both.0 front (token ∷ more) r.rest s.whole x in
                let same : y.1.token ≡ token = let h = y.1.after_is in cc in
                let next : q.rest ≡ token ∷ rest = s.whole ∙ (ap (λ (ts : List Token). ts ++ r.rest) y.0 ∙ e) in
                f.stop.stops token rest y.1.more both.0 next (subst
                (λ (k : Token). P both.0 (f.front ++ k ∷ y.1.more)) same y.1.derives))
          ];
    }

    pub pair_done : (r : Read B) → Outcome Q q r → Outcome (Both P Q) p (r >>= λ y. Ok ((a, y.0), y.1))
    pair_done (Ok y) g = record {
      front = f.front ++ g.front;
      stop = both_stop y.1 g.front g.stop;
      derives =
          (f.front, g.front, refl, f.derives, g.derives);
    }
    pair_done (Err r) g = record {
      front = f.front ++ g.front;
      stop = both_stop r g.front g.stop;
      incomplete = λ both d. elim (sorted both g.front d) [
        | inl e ↦ g.incomplete both.1 e
        | inr x ↦ (let y = none_second both.0 g.front [] r.rest g.stop.whole
            (subst (Beyond P both.0 f.front) (sym (append-nil g.front)) x) in
            let h = y.1.after_is in cc)
      ];
      want = g.want;
      tried_is = g.tried_is;
    }

  -- one and then the other
  pub pair_outcome : (r : Read A) (next : Place → Read B) → Told P Q p r → Outcome P p r → ((a : A) (q : Place) →
      Done P p a q → Outcome Q q (next q)) → Outcome (Both P Q) p (r >>= λ x. next x.1 >>= λ y. Ok
      ((x.0, y.0), y.1))
  pair_outcome (Ok x) next told o more = pair_done x.0 x.1 o told (next x.1) (more x.0 x.1 o)
  pair_outcome (Err q) next told o more = pair_refused q o told
