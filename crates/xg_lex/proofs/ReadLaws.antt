-- A text has one reading: its parts, and what stands behind them.
use Rattle.std.proofs.Common.{◌≡◌, ℕ, ◌+◌, Bool, true, false, Option, List, [], ◌∷◌, ◌++◌, length, take, drop, Ok, refl}
use Rattle.std.proofs.Common.{sym, ap, ◌∙◌, subst}
use Rattle.std.specs.List.{flat_map}
use Rattle.std.proofs.lemmas.Bool.{and_parts, ne_eqb, false≢true}
use Rattle.xg_lex.specs.Bytes.{line_feed, slash, star, is_in_line, is_in_name, is_in_number, is_sign}
use Rattle.xg_lex.specs.Grammar.{Lexeme, blank, comment, skipped, name, number, sign, spelling, CanStand, Reads}
use Rattle.xg_lex.specs.Grammar.{begins_line, starts_after, IsStuck, line_feeds, tokens_of, token_of, AllOf}
use Rattle.xg_lex.specs.Steps.{step_at, is_line_end, token_with}
use Rattle.xg_lex.specs.declared.token.TokenKind.{TokenKind}
use Rattle.xg_lex.specs.declared.token.Token.{Token}
use Rattle.xg_lex.specs.declared.part.Step.{Step}
use Rattle.xg_lex.proofs.RunLaws.{take-front, drop-front}
use Rattle.xg_lex.proofs.PartLaws.{kind_of, step_of, step_at-part}

-- nothing more is read there
pub data Ends (starts : Bool) : List ℕ → Type 0 where
  ended : Ends starts []
  stuck : (b : ℕ) (bs : List ℕ) → IsStuck starts (b ∷ bs) → Ends starts (b ∷ bs)

-- one byte that isn't a line end, or none
other_byte : (test : ℕ → Bool) → test line_feed ≡ false → (text : List ℕ) → AllOf test text → is_line_end text ≡ false
other_byte test fails [] passes = refl
other_byte test fails (b ∷ []) passes =
    let first : test b ≡ true = (and_parts (test b) true passes).0 in
    ne_eqb b line_feed (λ e. false≢true (sym fails ∙ (ap test (sym e) ∙ first)))
other_byte test fails (b ∷ c ∷ bs) passes = refl

-- a line begins behind a part that is one line end
pub begins_line-is : (starts : Bool) (p : Lexeme) (more : List ℕ) → CanStand starts p more →
    begins_line p ≡ is_line_end (spelling p)
begins_line-is starts (blank b) more h = refl
begins_line-is starts (comment body) more h = two_bytes slash star (body ++ star ∷ slash ∷ [])
  where
    two_bytes : (a b : ℕ) (bs : List ℕ) → false ≡ is_line_end (a ∷ b ∷ bs)
    two_bytes a b bs = refl
begins_line-is starts (skipped text) more h = sym (other_byte is_in_line refl text h.2)
begins_line-is starts (name text) more h = sym (other_byte is_in_name refl text h.0.1.1)
begins_line-is starts (number n text) more h = sym (other_byte is_in_number refl text h.1)
begins_line-is starts (sign b) more h = sym (ne_eqb b line_feed (λ e. false≢true (ap is_sign (sym e) ∙ h)))

-- the token of a part is of its kind, with its text
pub token_of-is : (feeds : ℕ) (p : Lexeme) → token_of feeds p ≡ token_with feeds (kind_of p) (spelling p)
token_of-is feeds (blank b) = refl
token_of-is feeds (comment body) = refl
token_of-is feeds (skipped text) = refl
token_of-is feeds (name text) = refl
token_of-is feeds (number n text) = refl
token_of-is feeds (sign b) = refl

-- two parts that stand there are as long and of one kind
pub record SamePart (p q : Lexeme) (m n : List ℕ) : Type 0 where
  pub spelled : spelling p ≡ spelling q
  pub kind : kind_of p ≡ kind_of q
  pub more : m ≡ n

pub same_part : (starts : Bool) (p q : Lexeme) (m n : List ℕ) → spelling p ++ m ≡ spelling q ++ n →
    CanStand starts p m → CanStand starts q n → SamePart p q m n
same_part starts p q m n e a b =
    let first : Ok (step_of p) ≡ step_at starts (spelling q ++ n) = sym (step_at-part starts p m a) ∙ ap
    (step_at starts) e in
    let steps : step_of p ≡ step_of q = let both = first ∙ step_at-part starts q n b in cc in
    let lens : length (spelling p) ≡ length (spelling q) = ap (λ (s : Step). s.len) steps in
    record {
      spelled = sym (take-front (spelling p) m) ∙ (ap (take (length (spelling p))) e ∙
          (ap (λ (k : ℕ). take k (spelling q ++ n)) lens ∙ take-front (spelling q) n));
      kind = ap (λ (s : Step). s.kind) steps;
      more = sym (drop-front (spelling p) m) ∙ (ap (drop (length (spelling p))) e ∙
          (ap (λ (k : ℕ). drop k (spelling q ++ n)) lens ∙ drop-front (spelling q) n));
    }

nothing_there : (starts : Bool) (s : Step) → step_at starts [] ≡ Ok s → ⊥
unfolding step_at
nothing_there starts s e = cc

-- a part has a byte at least
spelled_some : (starts : Bool) (p : Lexeme) (more : List ℕ) → CanStand starts p more → [] ≡ spelling p ++ more → ⊥
spelled_some starts p more h e =
    nothing_there starts (step_of p) (ap (step_at starts) e ∙ step_at-part starts p more h)

no_part : (starts : Bool) (rest : List ℕ) → Ends starts rest → (p : Lexeme) (more : List ℕ) →
    rest ≡ spelling p ++ more → CanStand starts p more → ⊥
no_part starts [] ended p more e h = spelled_some starts p more h e
no_part starts (b ∷ bs) (stuck b' bs' is) p more e h = is p more e h

-- two readings of one text are one
pub record Agree (starts : Bool) (feeds : ℕ) (ps qs : List Lexeme) (r r' : List ℕ) : Type 0 where
  pub rest : r ≡ r'
  pub tokens : tokens_of feeds ps ≡ tokens_of feeds qs
  pub before : flat_map spelling ps ≡ flat_map spelling qs
  pub after : starts_after starts ps ≡ starts_after starts qs

module _ (starts : Bool) (feeds : ℕ) (p q : Lexeme) (m n : List ℕ) (ps qs : List Lexeme) (r r' : List ℕ) where
  more_agrees : SamePart p q m n → begins_line p ≡ begins_line q
      → Agree (begins_line p) (feeds + line_feeds (spelling p)) ps qs r r' → Agree starts feeds (p ∷ ps) (q ∷ qs) r r'
  more_agrees same lines a =
      let here : token_of feeds p ≡ token_of feeds q =
      token_of-is feeds p ∙ (ap (λ (k : Option TokenKind). token_with feeds k (spelling p)) same.kind ∙
      (ap (token_with feeds (kind_of q)) same.spelled ∙ sym (token_of-is feeds q))) in
      record {
        rest = a.rest;
        tokens = ap (λ (ts : List Token). ts ++ tokens_of (feeds + line_feeds (spelling p)) ps) here ∙ ap
            (λ (ts : List Token). token_of feeds q ++ ts)
            (a.tokens ∙ ap (λ (text : List ℕ). tokens_of (feeds + line_feeds text) qs) same.spelled);
        before = ap (λ (text : List ℕ). text ++ flat_map spelling ps) same.spelled ∙ ap
            (λ (text : List ℕ). spelling q ++ text) a.before;
        after = a.after ∙ ap (λ (b : Bool). starts_after b qs) lines;
      }

pub readings_agree : (starts : Bool) (feeds : ℕ) (text : List ℕ) (ps qs : List Lexeme) (r r' : List ℕ) →
    Reads starts text ps r → Ends (starts_after starts ps) r → Reads starts text qs r' → Ends
    (starts_after starts qs) r' → Agree starts feeds ps qs r r'
readings_agree starts feeds text [] [] r r' a x b y = record {
  rest = sym a ∙ b;
  tokens = refl;
  before = refl;
  after = refl;
}
readings_agree starts feeds text [] (q ∷ qs) r r' a x b y = absurd (no_part starts r x q b.0 (sym a ∙ b.1) b.2)
readings_agree starts feeds text (p ∷ ps) [] r r' a x b y = absurd (no_part starts r' y p a.0 (sym b ∙ a.1) a.2)
readings_agree starts feeds text (p ∷ ps) (q ∷ qs) r r' a x b y =
    let same = same_part starts p q a.0 b.0 (sym a.1 ∙ b.1) a.2 b.2 in
    let lines : begins_line p ≡ begins_line q = begins_line-is starts p a.0 a.2 ∙
    (ap is_line_end same.spelled ∙ sym (begins_line-is starts q b.0 b.2)) in
    more_agrees starts feeds p q a.0 b.0 ps qs r r' same lines
    (readings_agree (begins_line p) (feeds + line_feeds (spelling p)) a.0 ps qs r r' a.3 x
    (subst (λ (s : Bool). Reads s a.0 qs r') (sym lines) (subst (λ (t : List ℕ). Reads (begins_line q) t qs r')
    (sym same.more) b.3))
    (subst (λ (s : Bool). Ends (starts_after s qs) r') (sym lines) y))
