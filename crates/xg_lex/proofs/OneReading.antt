-- A text has one list of tokens, or one first fault.
use Rattle.std.proofs.Common.{◌≡◌, ◌≢◌, ℕ, Bool, true, List, [], ◌∷◌, Result, Ok, Err, refl, sym, ap, ◌∙◌}
use Rattle.std.specs.List.{flat_map}
use Rattle.std.specs.Result.{IfOk, IfErr}
use Rattle.xg_lex.specs.Grammar.{spelling, IsTokensOf, IsFirstFault, fault_from, line_after, line_feeds, last_line}
use Rattle.xg_lex.specs.Grammar.{starts_after}
use Rattle.xg_lex.specs.Steps.{IsLexed}
use Rattle.xg_lex.specs.declared.token.Token.{Token}
use Rattle.xg_lex.specs.declared.token.Tokens.{Tokens}
use Rattle.xg_lex.specs.declared.fault.LexFault.{LexFault}
use Rattle.xg_lex.specs.declared.fault.LexFault.TheVariants.{BadLine, BadNumber, BadChar, OutOfMemory}
use Rattle.xg_lex.proofs.ReadLaws.{readings_agree, ended, stuck}

one_list : (text : List ℕ) (t u : Tokens) → IsTokensOf text t → IsTokensOf text u → t ≡ u
one_list text t u a b =
    let same = readings_agree true 0 text a.parts b.parts [] [] a.reads ended b.reads ended in
    a.are ∙ (ap (λ (ts : List Token). record { items = ts; last = last_line text }) same.tokens ∙ sym b.are)

not_both : (text : List ℕ) (t : Tokens) (f : LexFault) → IsTokensOf text t → IsFirstFault text f → ⊥
not_both text t f a b =
    let same = readings_agree true 0 text a.parts b.parts [] (b.first ∷ b.rest) a.reads ended b.reads
    (stuck b.first b.rest b.stuck) in
    let no_rest : [] ≡ b.first ∷ b.rest = same.rest in
    cc

one_fault : (text : List ℕ) (f g : LexFault) → IsFirstFault text f → IsFirstFault text g → f ≡ g
one_fault text f g a b =
    let same = readings_agree true 0 text a.parts b.parts (a.first ∷ a.rest) (b.first ∷ b.rest) a.reads
    (stuck a.first a.rest a.stuck) b.reads (stuck b.first b.rest b.stuck) in
    let rests : a.first ∷ a.rest ≡ b.first ∷ b.rest = same.rest in
    let firsts : a.first ≡ b.first = cc in
    a.is ∙ (ap (λ (s : Bool). fault_from s a.first (line_after (line_feeds (flat_map spelling a.parts)))) same.after
    ∙ (ap (λ (b' : ℕ). fault_from (starts_after true b.parts) b' (line_after
    (line_feeds (flat_map spelling a.parts)))) firsts
    ∙ (ap (λ (front : List ℕ). fault_from (starts_after true b.parts) b.first (line_after (line_feeds front)))
    same.before ∙ sym b.is)))

-- each fault but one is the first of the text
told : (text : List ℕ) (f : LexFault) → IsLexed text (Err f) → f ≢ OutOfMemory → IsFirstFault text f
told text (BadLine line) h some = h
told text (BadNumber line) h some = h
told text (BadChar line) h some = h
told text OutOfMemory h some = absurd (some refl)

pub tokens_told : (text : List ℕ) (r : Result Tokens LexFault) → IsLexed text r → IfOk r (IsTokensOf text)
tokens_told text (Ok t) h = h
tokens_told text (Err f) h = tt

pub fault_told : (text : List ℕ) (r : Result Tokens LexFault) → IsLexed text r → IfErr r (λ f. f ≢ OutOfMemory →
    IsFirstFault text f)
fault_told text (Ok t) h = tt
fault_told text (Err f) h = told text f h

pub only_tokens : (text : List ℕ) (r : Result Tokens LexFault) → IsLexed text r → (t : Tokens) →
    IsTokensOf text t → r ≢ Err OutOfMemory → r ≡ Ok t
only_tokens text (Ok u) h t is some = ap Ok (one_list text u t h is)
only_tokens text (Err f) h t is some = absurd (not_both text t f is (told text f h (λ e. some (ap Err e))))

pub only_fault : (text : List ℕ) (r : Result Tokens LexFault) → IsLexed text r → (f : LexFault) →
    IsFirstFault text f → r ≢ Err OutOfMemory → r ≡ Err f
only_fault text (Ok u) h f is some = absurd (not_both text u f h is)
only_fault text (Err g) h f is some = ap Err (one_fault text g f (told text g h (λ e. some (ap Err e))) is)
