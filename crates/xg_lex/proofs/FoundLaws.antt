-- What is found at the front of a text can stand there, and where nothing is found the fault has its name.
use Rattle.std.proofs.Common.{◌≡◌, ℕ, ◌+◌, Bool, true, false, cond, ◌&&◌, eqb, List, [], ◌∷◌, ◌++◌, length, take, drop}
use Rattle.std.proofs.Common.{Option, Some, None, Result, Ok, Err, refl, sym, ap, ◌∙◌, subst, arith, inl, inr, ◌⊎◌}
use Rattle.std.proofs.Common.{append_assoc, length-append}
use Rattle.std.specs.List.{prefix_len}
use Rattle.std.specs.Char.{is_ascii_digit}
use Rattle.std.proofs.lemmas.List.{take-append-drop}
use Rattle.std.proofs.lemmas.List.Folds.{length-prefix_len}
use Rattle.std.proofs.lemmas.Bool.Decides.{nat_tests}
use Rattle.std.proofs.lemmas.Bool.{and_parts, eqb-true}
use Rattle.xg_lex.specs.Bytes.{hash, percent, star, slash, is_blank, is_in_line, begins_name, is_in_name, is_in_number}
use Rattle.xg_lex.specs.Bytes.{is_sign}
use Rattle.xg_lex.specs.Grammar.{Lexeme, blank, comment, skipped, name, number, sign, spelling, CanStand, IsSkipped}
use Rattle.xg_lex.specs.Grammar.{IsLineMark, fault_from}
use Rattle.xg_lex.specs.Steps.{gap_step, token_step, number_of, numbered, number_step, close_len, closed, comment_step}
use Rattle.xg_lex.specs.Steps.{mark_step, is_mark_rest, line_or_nothing, sign_or_comment, name_or_number, step_at}
use Rattle.xg_lex.specs.Steps.{fault_of}
use Rattle.xg_lex.specs.declared.token.TokenKind.{TokenKind}
use Rattle.xg_lex.specs.declared.token.TokenKind.TheVariants as kinds
use Rattle.xg_lex.specs.declared.part.Step.{Step}
use Rattle.xg_lex.specs.declared.part.Why.{Why}
use Rattle.xg_lex.specs.declared.part.Why.TheVariants as whys
use Rattle.xg_lex.specs.declared.fault.LexFault.TheVariants.{BadLine, BadChar}
use Rattle.xg_lex.proofs.Runs.{run_passes, take_one}
use Rattle.xg_lex.proofs.RunLaws.{run_stops}
use Rattle.xg_lex.proofs.NumberLaws.{IsNumber_from_number_of}
use Rattle.xg_lex.proofs.CloseLaws.{closed_from_close_len}
use Rattle.xg_lex.proofs.MarkLaws.{mark_from_is_mark_rest}
use Rattle.xg_lex.proofs.PartLaws.{step_of}

-- a part stands at the front, and is as the step says
pub record Found (starts : Bool) (text : List ℕ) (s : Step) : Type 0 where
  pub part : Lexeme
  pub more : List ℕ
  pub whole : text ≡ spelling part ++ more
  pub stands : CanStand starts part more
  pub is : s ≡ step_of part

-- which way a test went
chosen : {A : Type 0} (t : Bool) (x y z : A) → cond t x y ≡ z → ((t ≡ true) × (x ≡ z)) ⊎ ((t ≡ false) × (y ≡ z))
chosen true x y z e = inl (refl, e)
chosen false x y z e = inr (refl, e)

split : (n : ℕ) (bytes : List ℕ) → bytes ≡ take n bytes ++ drop n bytes
split n bytes = sym (take-append-drop n bytes)

run_len : (test : ℕ → Bool) (text : List ℕ) → length (take (prefix_len test text) text) ≡ prefix_len test text
run_len test text = length-prefix_len test text

-- the run at the front is one byte or more where the first passes
begins_run : (test : ℕ → Bool) (b : ℕ) (bs : List ℕ) → test b ≡ true →
    take (prefix_len test (b ∷ bs)) (b ∷ bs) ≡ b ∷ take (prefix_len test bs) bs
begins_run test b bs e = rw (e, take_one) refl

name_begins : (b : ℕ) → begins_name b ≡ true → is_in_name b ≡ true
name_begins b e = grind (arith, nat_tests)

abbrev given : ℕ → Option TokenKind → Result Step Why
given len kind = Ok (record { len = len; kind = kind })

-- the step is of a part as long as that
is_step : (len : ℕ) (kind : Option TokenKind) (s : Step) (m : ℕ) → given len kind ≡ Ok s → m ≡ len →
    s ≡ record { len = m; kind = kind }
is_step len kind s m e same =
    let made : Step = record { len = len; kind = kind } in
    let first : s ≡ made = cc in
    first ∙ ap (λ (n : ℕ). record { len = n; kind = kind }) (sym same)

name_there : (starts : Bool) (b : ℕ) (bs : List ℕ) (s : Step) → begins_name b ≡ true →
    token_step kinds.Name (prefix_len is_in_name (b ∷ bs)) ≡ Ok s → Found starts (b ∷ bs) s
name_there starts b bs s first e =
    let whole = begins_run is_in_name b bs (name_begins b first) in
    record {
      part = name (take (prefix_len is_in_name (b ∷ bs)) (b ∷ bs));
      more = drop (prefix_len is_in_name (b ∷ bs)) (b ∷ bs);
      whole = split _ (b ∷ bs);
      stands = (
        (rw whole first, (rw whole (omega arith), run_passes is_in_name (b ∷ bs))),
        run_stops is_in_name
            (b ∷ bs),
      );
      is = is_step _ _ s _ e (run_len is_in_name (b ∷ bs));
    }

number_there : (starts : Bool) (text : List ℕ) (s : Step) (o : Option ℕ) →
    number_of (take (prefix_len is_in_number text) text) ≡ o → numbered (prefix_len is_in_number text) o ≡ Ok s →
    Found starts text s
number_there starts text s None has e = cc
number_there starts text s (Some n) has e =
    record {
      part = number n (take (prefix_len is_in_number text) text);
      more = drop (prefix_len is_in_number text) text;
      whole = split _ text;
      stands = (IsNumber_from_number_of n _ has, run_passes is_in_number text, run_stops is_in_number text);
      is = is_step _ _ s _ e (run_len is_in_number text);
    }

comment_there : (starts : Bool) (bs : List ℕ) (s : Step) (o : Option ℕ) → close_len bs ≡ o → closed o ≡ Ok s →
    Found starts (slash ∷ star ∷ bs) s
comment_there starts bs s None has e = cc
comment_there starts bs s (Some n) has e =
    let c = closed_from_close_len bs n has in
    record {
      part = comment c.body;
      more = c.more;
      whole = ap (λ (ds : List ℕ). slash ∷ star ∷ ds) (c.whole ∙ sym (append_assoc c.body (star ∷ slash ∷ []) c.more));
      stands = c.apart;
      is = is_step (2 + n) None s _ e (omega (arith, c.len, length-append c.body (star ∷ slash ∷ [])));
    }

comment_step_there : (starts : Bool) (bs : List ℕ) (s : Step) → comment_step (slash ∷ bs) ≡ Ok s →
    Found starts (slash ∷ bs) s
comment_step_there starts [] s e = cc
comment_step_there starts (c ∷ cs) s e = elim (chosen (eqb c star) (closed (close_len cs)) (Err whys.Char) (Ok s) e) [
  | inl h ↦ rw (eqb-true c star h.0) (comment_there starts cs s (close_len cs) refl h.1)
  | inr h ↦ cc
]

line_there : (b : ℕ) (bs : List ℕ) (s : Step) → IsSkipped (take (prefix_len is_in_line (b ∷ bs)) (b ∷ bs)) →
    gap_step (prefix_len is_in_line (b ∷ bs)) ≡ Ok s → Found true (b ∷ bs) s
line_there b bs s skip e =
    record {
      part = skipped (take (prefix_len is_in_line (b ∷ bs)) (b ∷ bs));
      more = drop (prefix_len is_in_line (b ∷ bs)) (b ∷ bs);
      whole = split _ (b ∷ bs);
      stands = (refl, skip, run_passes is_in_line (b ∷ bs), run_stops is_in_line (b ∷ bs));
      is = is_step _ _ s _ e (run_len is_in_line (b ∷ bs));
    }

percent_line : (bs : List ℕ) → IsSkipped (take (prefix_len is_in_line (percent ∷ bs)) (percent ∷ bs))
percent_line bs = inl (take (prefix_len is_in_line bs) bs, begins_run is_in_line percent bs refl)

mark_line : (bs : List ℕ) → is_mark_rest (drop 1 (take (prefix_len is_in_line (hash ∷ bs)) (hash ∷ bs))) ≡ true →
    IsSkipped (take (prefix_len is_in_line (hash ∷ bs)) (hash ∷ bs))
mark_line bs e =
    let whole = begins_run is_in_line hash bs refl in
    let rest : is_mark_rest (take (prefix_len is_in_line bs) bs) ≡ true = ap
    (λ (ds : List ℕ). is_mark_rest (drop 1 ds)) (sym whole) ∙ e in
    inr (subst IsLineMark (sym whole) (mark_from_is_mark_rest _ rest))

mark_there : (bs : List ℕ) (s : Step) → mark_step (hash ∷ bs) ≡ Ok s → Found true (hash ∷ bs) s
mark_there bs s e = elim (chosen (is_mark_rest (drop 1 (take (prefix_len is_in_line (hash ∷ bs)) (hash ∷ bs))))
    (gap_step (prefix_len is_in_line (hash ∷ bs))) (Err whys.Line) (Ok s) e) [
      | inl h ↦ line_there hash bs s (mark_line bs h.0) h.1
      | inr h ↦ cc
    ]

line_or_nothing_there : (starts : Bool) (b : ℕ) (bs : List ℕ) (s : Step) →
    line_or_nothing starts b (b ∷ bs) ≡ Ok s → Found starts (b ∷ bs) s
line_or_nothing_there starts b bs s e = elim (chosen (starts && eqb b percent)
    (gap_step (prefix_len is_in_line (b ∷ bs))) (cond (starts && eqb b hash) (mark_step (b ∷ bs)) (Err whys.Char))
    (Ok s) e) [
      | inl h ↦
          let at = and_parts starts (eqb b percent) h.0 in
          let first = eqb-true b percent at.1 in
          rw (at.0, first) (line_there percent bs s (percent_line bs) (rw first at h.1))
      | inr h ↦ elim (chosen (starts && eqb b hash) (mark_step (b ∷ bs)) (Err whys.Char) (Ok s) h.1) [
        | inl k ↦
            let at = and_parts starts (eqb b hash) k.0 in
            let first = eqb-true b hash at.1 in
            rw (at.0, first) (mark_there bs s (rw first at k.1))
        | inr k ↦ cc
      ]
    ]

sign_or_comment_there : (starts : Bool) (b : ℕ) (bs : List ℕ) (s : Step) →
    sign_or_comment starts b (b ∷ bs) ≡ Ok s → Found starts (b ∷ bs) s
sign_or_comment_there starts b bs s e = elim (chosen (is_sign b) (token_step kinds.Sign 1)
    (cond (eqb b slash) (comment_step (b ∷ bs)) (line_or_nothing starts b (b ∷ bs))) (Ok s) e) [
      | inl h ↦ record {
        part = sign b;
        more = bs;
        whole = refl;
        stands = h.0;
        is = is_step 1 (Some kinds.Sign) s 1 h.1
            refl;
      }
      | inr h ↦ elim (chosen (eqb b slash) (comment_step (b ∷ bs)) (line_or_nothing starts b (b ∷ bs)) (Ok s) h.1) [
        | inl k ↦ rw (eqb-true b slash k.0) (comment_step_there starts bs s k.1)
        | inr k ↦ line_or_nothing_there starts b bs s k.1
      ]
    ]

name_or_number_there : (starts : Bool) (b : ℕ) (bs : List ℕ) (s : Step) → name_or_number starts b (b ∷ bs) ≡ Ok s →
    Found starts (b ∷ bs) s
name_or_number_there starts b bs s e = elim (chosen (begins_name b)
    (token_step kinds.Name (prefix_len is_in_name (b ∷ bs))) (cond (is_ascii_digit b) (number_step (b ∷ bs))
    (sign_or_comment starts b (b ∷ bs))) (Ok s) e) [
      | inl h ↦ name_there starts b bs s h.0 h.1
      | inr h ↦ elim (chosen (is_ascii_digit b) (number_step (b ∷ bs)) (sign_or_comment starts b (b ∷ bs)) (Ok s) h.1) [
        | inl k ↦ number_there starts (b ∷ bs) s _ refl k.1
        | inr k ↦ sign_or_comment_there starts b bs s k.1
      ]
    ]

-- what is found can stand there
pub found_part : (starts : Bool) (text : List ℕ) (s : Step) → step_at starts text ≡ Ok s → Found starts text s
unfolding step_at
found_part starts [] s e = cc
found_part starts (b ∷ bs) s e = elim (chosen (is_blank b) (gap_step 1) (name_or_number starts b (b ∷ bs)) (Ok s) e) [
  | inl h ↦ record { part = blank b; more = bs; whole = refl; stands = h.0; is = is_step 1 None s 1 h.1 refl }
  | inr h ↦ name_or_number_there starts b bs s h.1
]

-- ---- where nothing is found, the first byte names the fault

number_fault : (len : ℕ) (o : Option ℕ) (why : Why) → numbered len o ≡ Err why → why ≡ whys.Number
number_fault len None why e = cc
number_fault len (Some n) why e = cc

closed_fault : (o : Option ℕ) (why : Why) → closed o ≡ Err why → why ≡ whys.Char
closed_fault None why e = cc
closed_fault (Some n) why e = cc

comment_fault : (b : ℕ) (bs : List ℕ) (why : Why) → comment_step (b ∷ bs) ≡ Err why → why ≡ whys.Char
comment_fault b [] why e = cc
comment_fault b (c ∷ cs) why e = elim (chosen (eqb c star) (closed (close_len cs)) (Err whys.Char) (Err why) e) [
  | inl h ↦ closed_fault (close_len cs) why h.1
  | inr h ↦ cc
]

mark_fault : (text : List ℕ) (why : Why) → mark_step text ≡ Err why → why ≡ whys.Line
mark_fault text why e = elim (chosen (is_mark_rest (drop 1 (take (prefix_len is_in_line text) text)))
    (gap_step (prefix_len is_in_line text)) (Err whys.Line) (Err why) e) [
      | inl h ↦ cc
      | inr h ↦ cc
    ]

-- a `#` is the only byte that begins a bad line
line_fault : (starts : Bool) (b : ℕ) (bs : List ℕ) (why : Why) (line : ℕ) →
    line_or_nothing starts b (b ∷ bs) ≡ Err why → fault_of why line ≡ cond (starts && eqb b hash) (BadLine line)
    (BadChar line)
line_fault starts b bs why line e = elim (chosen (starts && eqb b percent) (gap_step (prefix_len is_in_line (b ∷ bs)))
    (cond (starts && eqb b hash) (mark_step (b ∷ bs)) (Err whys.Char)) (Err why) e) [
      | inl h ↦ cc
      | inr h ↦ elim (chosen (starts && eqb b hash) (mark_step (b ∷ bs)) (Err whys.Char) (Err why) h.1) [
        | inl k ↦ rw (k.0, mark_fault (b ∷ bs) why k.1) refl
        | inr k ↦ let char : why ≡ whys.Char = cc in rw (k.0, char) refl
      ]
    ]

slash_is_no_hash : (starts : Bool) → (starts && eqb slash hash) ≡ false
slash_is_no_hash true = refl
slash_is_no_hash false = refl

sign_fault : (starts : Bool) (b : ℕ) (bs : List ℕ) (why : Why) (line : ℕ) →
    sign_or_comment starts b (b ∷ bs) ≡ Err why → fault_of why line ≡ cond (starts && eqb b hash) (BadLine line)
    (BadChar line)
sign_fault starts b bs why line e = elim (chosen (is_sign b) (token_step kinds.Sign 1)
    (cond (eqb b slash) (comment_step (b ∷ bs)) (line_or_nothing starts b (b ∷ bs))) (Err why) e) [
      | inl h ↦ cc
      | inr h ↦ elim (chosen (eqb b slash) (comment_step (b ∷ bs)) (line_or_nothing starts b (b ∷ bs)) (Err why) h.1) [
        | inl k ↦ rw (comment_fault b bs why k.1, eqb-true b slash k.0, slash_is_no_hash starts) refl
        | inr k ↦ line_fault starts b bs why line k.1
      ]
    ]

name_fault : (starts : Bool) (b : ℕ) (bs : List ℕ) (why : Why) (line : ℕ) →
    name_or_number starts b (b ∷ bs) ≡ Err why → fault_of why line ≡ fault_from starts b line
name_fault starts b bs why line e = elim (chosen (begins_name b) (token_step kinds.Name
    (prefix_len is_in_name (b ∷ bs))) (cond (is_ascii_digit b) (number_step (b ∷ bs))
    (sign_or_comment starts b (b ∷ bs))) (Err why) e) [
      | inl h ↦ cc
      | inr h ↦ elim (chosen (is_ascii_digit b) (number_step (b ∷ bs)) (sign_or_comment starts b (b ∷ bs))
          (Err why) h.1) [
            | inl k ↦ rw (k.0, number_fault _ _ why k.1) refl
            | inr k ↦ rw k.0 (sign_fault starts b bs why line k.1)
          ]
    ]

-- the fault is that of the byte
pub fault_of-step_at : (starts : Bool) (b : ℕ) (bs : List ℕ) (why : Why) (line : ℕ) →
    step_at starts (b ∷ bs) ≡ Err why → fault_of why line ≡ fault_from starts b line
unfolding step_at
fault_of-step_at starts b bs why line e = elim (chosen (is_blank b) (gap_step 1) (name_or_number starts b (b ∷ bs))
    (Err why) e) [
      | inl h ↦ cc
      | inr h ↦ name_fault starts b bs why line h.1
    ]
