-- Where the lexer stands in a text.
use Rattle.std.proofs.Common.{◌≡◌, ℕ, ◌+◌, ◌<◌, ◌≤◌, Bool, true, false, eqb, Option, List, [], ◌∷◌, ◌++◌, length, take}
use Rattle.std.proofs.Common.{drop, Ok, Err, refl, sym, ap, ◌∙◌, subst, arith, append_assoc, length-append}
use Rattle.std.specs.List.{flat_map, list_all}
use Rattle.std.proofs.lemmas.List.{append-nil, nil_from_length}
use Rattle.std.proofs.lemmas.List.Sums.{sum_by-append, sum_by-cons}
use Rattle.std.proofs.lemmas.Bool.{and_parts, ne_eqb, false≢true}
use Rattle.xg_lex.specs.Bytes.{line_feed, is_in_name, is_in_number, is_sign}
use Rattle.xg_lex.specs.Grammar.{Lexeme, blank, comment, skipped, name, number, sign, spelling, CanStand, Reads}
use Rattle.xg_lex.specs.Grammar.{begins_line, starts_after, IsStuck, line_feeds, line_after, last_line, tokens_of}
use Rattle.xg_lex.specs.Grammar.{token_of, AllOf, IsTokensOf, IsFirstFault, fault_from}
use Rattle.xg_lex.specs.Steps.{step_at, is_line_end, token_with, feeds_of, fault_of, IsLexed}
use Rattle.xg_lex.specs.declared.token.TokenKind.{TokenKind}
use Rattle.xg_lex.specs.declared.token.Token.{Token}
use Rattle.xg_lex.specs.declared.fault.LexFault.{LexFault}
use Rattle.xg_lex.specs.declared.fault.LexFault.TheVariants.{BadLine, BadNumber, BadChar, OutOfMemory}
use Rattle.xg_lex.specs.declared.part.Step.{Step}
use Rattle.xg_lex.specs.declared.part.Why.{Why}
use Rattle.xg_lex.proofs.Prefix.{feeds_within}
use Rattle.xg_lex.proofs.RunLaws.{take-front, drop-front}
use Rattle.xg_lex.proofs.PartLaws.{kind_of, step_at-part}
use Rattle.xg_lex.proofs.FoundLaws.{found_part, fault_of-step_at}
use Rattle.xg_lex.proofs.ReadLaws.{begins_line-is, token_of-is}

-- the text is parts, and the rest; these are their tokens, their line feeds, and whether a line begins
pub record At (text rest : List ℕ) (items : List Token) (feeds : ℕ) (starts : Bool) : Type 0 where
  pub parts : List Lexeme
  pub reads : Reads true text parts rest
  pub tokens : items ≡ tokens_of 0 parts
  pub feeds_are : feeds ≡ line_feeds (flat_map spelling parts)
  pub starts_is : starts ≡ starts_after true parts

reads_more : (starts : Bool) (text : List ℕ) (ps : List Lexeme) (rest : List ℕ) (p : Lexeme) (more : List ℕ) →
    Reads starts text ps rest → rest ≡ spelling p ++ more → CanStand (starts_after starts ps) p more → Reads starts
    text (ps ++ p ∷ []) more
reads_more starts text [] rest p more r e h = (more, r ∙ e, h, refl)
reads_more starts text (q ∷ ps) rest p more r e h = (
  r.0,
  r.1,
  r.2,
  reads_more (begins_line q) r.0 ps rest p more
      r.3 e h,
)

starts_after-push : (starts : Bool) (ps : List Lexeme) (p : Lexeme) → starts_after starts (ps ++ p ∷ []) ≡ begins_line p
starts_after-push starts [] p = refl
starts_after-push starts (q ∷ ps) p = starts_after-push (begins_line q) ps p

spelled-push : (ps : List Lexeme) (p : Lexeme) → flat_map spelling (ps ++ p ∷ []) ≡ flat_map spelling ps ++ spelling p
spelled-push [] p = append-nil (spelling p)
spelled-push (q ∷ ps) p = ap (λ (ds : List ℕ). spelling q ++ ds) (spelled-push ps p) ∙ sym
    (append_assoc (spelling q) (flat_map spelling ps) (spelling p))

feeds-append : (xs ys : List ℕ) → line_feeds (xs ++ ys) ≡ line_feeds xs + line_feeds ys
feeds-append xs ys = sum_by-append _ xs ys

tokens_of-push : (feeds : ℕ) (ps : List Lexeme) (p : Lexeme) →
    tokens_of feeds (ps ++ p ∷ []) ≡ tokens_of feeds ps ++ token_of (feeds + line_feeds (flat_map spelling ps)) p
tokens_of-push feeds [] p = append-nil (token_of feeds p) ∙ ap (λ (k : ℕ). token_of k p) (omega arith)
tokens_of-push feeds (q ∷ ps) p =
    let sum : feeds + line_feeds (spelling q) + line_feeds (flat_map spelling ps) ≡ feeds + line_feeds
    (spelling q ++ flat_map spelling ps) = omega (arith, feeds-append (spelling q) (flat_map spelling ps)) in
    ap (λ (ts : List Token). token_of feeds q ++ ts) (tokens_of-push (feeds + line_feeds (spelling q)) ps p)
    ∙ (sym (append_assoc (token_of feeds q) (tokens_of (feeds + line_feeds (spelling q)) ps) _)
    ∙ ap (λ (k : ℕ). (token_of feeds q ++ tokens_of (feeds + line_feeds (spelling q)) ps) ++ token_of k p) sum)

no_feeds : (test : ℕ → Bool) → test line_feed ≡ false → (text : List ℕ) → AllOf test text → line_feeds text ≡ 0
no_feeds test fails [] passes = refl
no_feeds test fails (b ∷ bs) passes =
    let parts = and_parts (test b) (list_all test bs) passes in
    let other : eqb b line_feed ≡ false = ne_eqb b line_feed (λ e. false≢true
    (sym fails ∙ (ap test (sym e) ∙ parts.0))) in
    sum_by-cons _ b bs ∙ rw other (ap (λ (n : ℕ). 0 + n) (no_feeds test fails bs parts.1))

feeds_of-part : (starts : Bool) (p : Lexeme) (more : List ℕ) → CanStand starts p more →
    feeds_of (kind_of p) (spelling p) ≡ line_feeds (spelling p)
feeds_of-part starts (blank b) more h = refl
feeds_of-part starts (comment body) more h = refl
feeds_of-part starts (skipped text) more h = refl
feeds_of-part starts (name text) more h = sym (no_feeds is_in_name refl text h.0.1.1)
feeds_of-part starts (number n text) more h = sym (no_feeds is_in_number refl text h.1)
feeds_of-part starts (sign b) more h = sym (no_feeds is_sign refl (b ∷ []) (rw h refl))

whole_text : (starts : Bool) (text : List ℕ) (ps : List Lexeme) (rest : List ℕ) → Reads starts text ps rest →
    text ≡ flat_map spelling ps ++ rest
whole_text starts text [] rest r = r
whole_text starts text (p ∷ ps) rest r =
    r.1 ∙ (ap (λ (ds : List ℕ). spelling p ++ ds) (whole_text (begins_line p) r.0 ps rest r.3) ∙ sym
    (append_assoc (spelling p) (flat_map spelling ps) rest))

module _ (text rest : List ℕ) (items : List Token) (feeds : ℕ) (starts : Bool) (s : Step) (front back : List ℕ)
    (items' : List Token) (feeds' : ℕ) (starts' : Bool) where
  -- and behind the next part
  pub at_more : At text rest items feeds starts → step_at starts rest ≡ Ok s → front ≡ take s.len rest
      → back ≡ drop s.len rest → items' ≡ items ++ token_with feeds s.kind front
      → feeds' ≡ feeds + feeds_of s.kind front → starts' ≡ is_line_end front → At text back items' feeds' starts'
  at_more at e is_front is_back is_items is_feeds
      is_starts =
      let f = found_part starts rest s e in
      let stands : CanStand (starts_after true at.parts) f.part f.more = subst (λ (b : Bool). CanStand b f.part f.more)
      at.starts_is f.stands in
      let len : s.len ≡ length (spelling f.part) = ap (λ (t : Step). t.len) f.is in
      let kind : s.kind ≡ kind_of f.part = ap (λ (t : Step). t.kind) f.is in
      let spelled : front ≡ spelling f.part = is_front ∙ (ap (λ (k : ℕ). take k rest) len ∙
      (ap (take (length (spelling f.part))) f.whole ∙ take-front (spelling f.part) f.more)) in
      let behind : back ≡ f.more = is_back ∙ (ap (λ (k : ℕ). drop k rest) len ∙
      (ap (drop (length (spelling f.part))) f.whole ∙ drop-front (spelling f.part) f.more)) in
      let token : token_with feeds s.kind front ≡ token_of (0 + line_feeds (flat_map spelling at.parts)) f.part =
      ap (λ (k : Option TokenKind). token_with feeds k front) kind ∙ (ap (token_with feeds (kind_of f.part)) spelled
      ∙ (sym (token_of-is feeds f.part) ∙ ap (λ (k : ℕ). token_of k f.part) (omega (arith, at.feeds_are)))) in
      let count : feeds_of s.kind front ≡ line_feeds (spelling f.part) =
      ap (λ (k : Option TokenKind). feeds_of k front) kind ∙ (ap (feeds_of (kind_of f.part)) spelled ∙ feeds_of-part
      starts f.part f.more f.stands) in
      record {
        parts = at.parts ++ f.part ∷ [];
        reads = subst (Reads true text (at.parts ++ f.part ∷ [])) (sym behind)
            (reads_more true text at.parts rest f.part f.more at.reads f.whole stands);
        tokens = is_items ∙ (ap (λ (ts : List Token). ts ++ token_with feeds s.kind front) at.tokens
            ∙ (ap (λ (ts : List Token). tokens_of 0 at.parts ++ ts) token ∙ sym (tokens_of-push 0 at.parts f.part)));
        feeds_are = is_feeds ∙ (omega (
          arith,
          count,
          at.feeds_are,
          feeds-append (flat_map spelling at.parts)
              (spelling f.part),
        )
            ∙ ap line_feeds (sym (spelled-push at.parts f.part)));
        starts_is = is_starts ∙ (ap is_line_end spelled ∙ (sym (begins_line-is starts f.part f.more f.stands) ∙ sym
            (starts_after-push true at.parts f.part)));
      }

-- the line feeds are within the text, and so are those of what is read next
pub feeds_fit : (text rest : List ℕ) (items : List Token) (feeds : ℕ) (starts : Bool) →
    At text rest items feeds starts → feeds + length rest ≤ length text
feeds_fit text rest items feeds starts at =
    let whole = whole_text true text at.parts rest at.reads in
    omega (
      arith,
      at.feeds_are,
      feeds_within (flat_map spelling at.parts),
      length-append
          (flat_map spelling at.parts) rest,
      ap length whole,
    )

-- at the end the line feeds are those of the text
pub all_feeds : (text rest : List ℕ) (items : List Token) (feeds : ℕ) (starts : Bool) →
    At text rest items feeds starts → length rest ≡ 0 → feeds ≡ line_feeds text
all_feeds text rest items feeds starts at none =
    let whole = whole_text true text at.parts rest at.reads in
    at.feeds_are ∙ ap line_feeds (sym (whole ∙ (ap (λ (r : List ℕ). flat_map spelling at.parts ++ r)
    (nil_from_length rest none) ∙ append-nil (flat_map spelling at.parts))))

-- and the items are the tokens
pub at_end : (text rest : List ℕ) (items : List Token) (feeds : ℕ) (starts : Bool) (made : List Token) (last : ℕ) →
    At text rest items feeds starts → length rest ≡ 0 → made ≡ items → last ≡ last_line text → IsTokensOf text
    (record { items = made; last = last })
at_end text rest items feeds starts made last at none same is =
    record {
      parts = at.parts;
      reads = subst (Reads true text at.parts) (nil_from_length rest none) at.reads;
      are = ap (λ (ts : List Token). record { items = ts; last = last }) (same ∙ at.tokens) ∙ ap
          (λ (n : ℕ). record { items = tokens_of 0 at.parts; last = n }) is;
    }

lexed_fault : (text : List ℕ) (f : LexFault) → IsFirstFault text f → IsLexed text (Err f)
lexed_fault text (BadLine line) h = h
lexed_fault text (BadNumber line) h = h
lexed_fault text (BadChar line) h = h
lexed_fault text OutOfMemory h = tt

module _ (text : List ℕ) where
  -- where no part stands, the fault is the first
  pub at_fault : (rest : List ℕ) (items : List Token) (feeds : ℕ) (starts : Bool) (why : Why) (line : ℕ) (f : LexFault)
      → At text rest items feeds starts → 0 < length rest → step_at starts rest ≡ Err why → line ≡ line_after feeds
      → f ≡ fault_of why line → IsLexed text (Err f)
  at_fault [] items feeds starts why line f at some e is_line is = absurd (omega arith)
  at_fault (b ∷ bs) items feeds starts why line f at some e is_line is =
      lexed_fault text f (record {
        parts = at.parts;
        first = b;
        rest = bs;
        reads = at.reads;
        stuck = subst (λ (s : Bool). IsStuck s (b ∷ bs)) at.starts_is
            (λ p more whole h. let both = sym e ∙ (ap (step_at starts) whole ∙ step_at-part starts p more h) in cc);
        is = is ∙ (fault_of-step_at starts b bs why line e ∙ (ap (λ (s : Bool). fault_from s b line) at.starts_is
            ∙ ap (fault_from (starts_after true at.parts) b) (is_line ∙ ap line_after at.feeds_are)));
      })
