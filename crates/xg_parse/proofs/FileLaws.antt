-- The reading of a whole file.
use Rattle.std.proofs.Common.{◌≡◌, ◌≢◌, ℕ, ◌<◌, ◌≤◌, List, [], ◌∷◌, ◌++◌, length, Option, Some, None, Result, Ok, Err}
use Rattle.std.proofs.Common.{unwrap_or, refl, sym, ap, ◌∙◌, subst, arith, inl, inr, ◌⊎◌, append_assoc}
use Rattle.std.specs.Result.{IfOk, IfErr}
use Rattle.std.proofs.lemmas.List.{append-nil, nil_from_length}
use Rattle.xg_lex.specs.declared.token.Token.{Token}
use Rattle.xg_lex.specs.declared.token.Tokens.{Tokens}
use Rattle.xg_parse.specs.declared.terminal.Terminal.{Terminal}
use Rattle.xg_parse.specs.declared.terminal.Terminal.TheVariants as terms
use Rattle.xg_parse.specs.declared.tree.Item.{Item}
use Rattle.xg_parse.specs.declared.tree.Tree.{Tree}
use Rattle.xg_parse.specs.declared.fault.ParseFault.{ParseFault}
use Rattle.xg_parse.specs.declared.fault.ParseFault.TheVariants.{Unexpected, OutByName, OutOfMemory}
use Rattle.xg_parse.specs.Terminals.{order_of}
use Rattle.xg_parse.specs.Rules.{Derives}
use Rattle.xg_parse.specs.Reading.{Place, place_at, firsts, least_terminal, read_rule}
use Rattle.xg_parse.specs.Grammar.{file, item, named_item, package_item, IsTreeOf}
use Rattle.xg_parse.specs.Refusals.{BeginsText, CouldStand, IsRefused, fault_before, IsFirstRefusal}
use Rattle.xg_parse.specs.Gives.{place_fault, IsParsed}
use Rattle.xg_parse.proofs.TerminalLaws.{AtOrBefore, rank_injective}
use Rattle.xg_parse.proofs.TokenFor.{token_for, token_for_is}
use Rattle.xg_parse.proofs.RuleLaws.{again}
use Rattle.xg_parse.proofs.OutcomeLaws.{Stop, Done, Refused, Outcome, Extends, cuts}
use Rattle.xg_parse.proofs.RuleOutcomes.{outcome}
use Rattle.xg_parse.proofs.LoopLaws.{many_tried}
use Rattle.xg_parse.proofs.Decided.{file_is_decided}

regrouped : (front : List Token) (t : Token) (more : List Token) → (front ++ t ∷ []) ++ more ≡ front ++ t ∷ more
regrouped front t more = append_assoc front (t ∷ []) more

file_outcome : (tokens : List Token) → Outcome (Derives file) (place_at tokens) (read_rule file (place_at tokens))
file_outcome tokens = outcome file file_is_decided (place_at tokens) refl

begins_at : (front : List Token) (t : Token) (more : List Token) (items : List Item) →
    Derives file items (front ++ t ∷ more) → BeginsText (front ++ t ∷ [])
begins_at front t more items d = record {
  more = more;
  tree = record { items = items };
  is = subst
      (Derives file items) (sym (regrouped front t more)) d;
}

-- where the reading stopped is the first refusal
refusal_at : (tokens : List Token) (last : ℕ) (q : Place) (front : List Token) →
    Stop (Derives file) (place_at tokens) q front → (q.rest ≡ [] → (items : List Item) → Derives file items front →
    ⊥) → (want : Terminal) → q.tried ≡ Some want →
    IsFirstRefusal (record { items = tokens; last = last }) (place_fault q last)
refusal_at tokens last q front stop incomplete want tried =
    record {
      front = front;
      rest = q.rest;
      whole = stop.whole;
      refused = refused_by q.rest refl;
      want = want;
      could = could_by (stop.offers want tried);
      least = λ t c. subst (λ (o : Option Terminal). AtOrBefore o t) tried
          (stop.covers c.token t c.begins.more c.begins.tree.items c.is
          (subst (Derives file c.begins.tree.items) (regrouped front c.token c.begins.more) c.begins.is));
      is = ap (λ (o : Option Terminal). fault_before q.rest last (unwrap_or o terms.Package)) tried;
    }
  where
    refused_by : (rest : List Token) → q.rest ≡ rest → IsRefused front rest
    refused_by [] e = λ tree d. incomplete e tree.items d
    refused_by (t ∷ ts) e = λ b. stop.stops t ts b.more b.tree.items e
        (subst (Derives file b.tree.items) (regrouped front t b.more) b.is)

    could_by : ((front ≡ []) × (None ≡ Some want)) ⊎ Extends (Derives file) front want → CouldStand front want
    could_by (inl k) = absurd (let none = k.1 in cc)
    could_by (inr h) =
        let x = h (token_for want) (token_for_is want) in
        record {
          token = token_for want;
          is = token_for_is want;
          begins = begins_at front (token_for want) x.more
              x.item x.derives;
        }

parsed_fault : (tokens : Tokens) (f : ParseFault) → IsFirstRefusal tokens f → IsParsed tokens (Err f)
parsed_fault tokens (Unexpected line want) h = h
parsed_fault tokens (OutByName line word) h = h
parsed_fault tokens OutOfMemory h = tt

item_least : least_terminal (firsts item) ≡ Some terms.Package
unfolding item named_item package_item
item_least = refl

read_ok : (tokens : List Token) (x : List Item × Place) → read_rule file (place_at tokens) ≡ Ok x →
    Done (Derives file) (place_at tokens) x.0 x.1
read_ok tokens x e = subst (Outcome (Derives file) (place_at tokens)) e (file_outcome tokens)

read_err : (tokens : List Token) (q : Place) → read_rule file (place_at tokens) ≡ Err q →
    Refused (Derives file) (place_at tokens) q
read_err tokens q e = subst (Outcome (Derives file) (place_at tokens)) e (file_outcome tokens)

file_tried : (tokens : List Token) (x : List Item × Place) → read_rule file (place_at tokens) ≡ Ok x →
    (v : Terminal) × (x.1.tried ≡ Some v)
unfolding file
file_tried tokens x e = many_tried item terms.Package item_least (place_at tokens) x e

-- all tokens were read
pub tree_told : (tokens : List Token) (items : List Item) (q : Place) →
    read_rule file (place_at tokens) ≡ Ok (items, q) → length q.rest ≡ 0 → IsTreeOf tokens
    (record { items = items })
tree_told tokens items q e none =
    let d = read_ok tokens (items, q) e in
    subst (Derives file items) (sym (d.stop.whole ∙ (ap (λ (ts : List Token). d.front ++ ts)
    (nil_from_length q.rest none) ∙ append-nil d.front))) d.derives

-- a token is left that begins no item
pub left_told : (tokens : Tokens) (items : List Item) (q : Place) (f : ParseFault) →
    read_rule file (place_at tokens.items) ≡ Ok (items, q) → 0 < length q.rest → f ≡ place_fault q tokens.last →
    IsParsed tokens (Err f)
left_told tokens items q f e some is =
    let d = read_ok tokens.items (items, q) e in
    let v = file_tried tokens.items (items, q) e in
    parsed_fault tokens f (subst (IsFirstRefusal tokens) (sym is)
    (refusal_at tokens.items tokens.last q d.front d.stop (λ none its h. absurd
    (omega (arith, some, ap length none))) v.0 v.1))

-- a token is refused
pub refused_told : (tokens : Tokens) (q : Place) (f : ParseFault) →
    read_rule file (place_at tokens.items) ≡ Err q → f ≡ place_fault q tokens.last → IsParsed tokens (Err f)
refused_told tokens q f e is =
    let d = read_err tokens.items q e in
    parsed_fault tokens f (subst (IsFirstRefusal tokens) (sym is)
    (refusal_at tokens.items tokens.last q d.front d.stop (λ none its h. d.incomplete its h) d.want d.tried_is))

-- ---- there is one tree, or one refusal

one_tree : (tokens : List Token) (a b : Tree) → IsTreeOf tokens a → IsTreeOf tokens b → a ≡ b
one_tree tokens a b d e =
    let x = again file file_is_decided a.items tokens [] (place_at tokens) d (sym (append-nil tokens)) refl refl in
    let y = again file file_is_decided b.items tokens [] (place_at tokens) e (sym (append-nil tokens)) refl refl in
    let first : List Item × Place = (a.items, x.place) in
    let second : List Item × Place = (b.items, y.place) in
    let both : Ok first ≡ Ok second = sym x.read_is ∙ y.read_is in
    let same : first ≡ second = cc in
    ap (λ (z : List Item × Place). record { items = z.0 }) same

longer_begins : (front : List Token) (c : Token) (zs ts : List Token) → BeginsText ((front ++ c ∷ zs) ++ ts) →
    BeginsText (front ++ c ∷ [])
longer_begins front c zs ts b =
    record {
      more = zs ++ (ts ++ b.more);
      tree = b.tree;
      is = subst (λ (us : List Token). IsTreeOf us b.tree)
          (append_assoc (front ++ c ∷ zs) ts b.more ∙ (append_assoc front (c ∷ zs) (ts ++ b.more) ∙ sym
          (regrouped front c (zs ++ (ts ++ b.more))))) b.is;
    }

not_both : (tokens : Tokens) (tree : Tree) (f : ParseFault) → IsTreeOf tokens.items tree → IsFirstRefusal tokens f → ⊥
not_both tokens tree f d r = by_rest r.rest r.whole r.refused
  where
    by_rest : (rest : List Token) → tokens.items ≡ r.front ++ rest → IsRefused r.front rest → ⊥
    by_rest [] whole refused = refused tree (subst (λ (us : List Token). IsTreeOf us tree)
        (whole ∙ append-nil r.front) d)
    by_rest (t ∷ ts) whole refused = refused (begins_at r.front t ts tree.items
        (subst (Derives file tree.items) whole d))

no_earlier : (front : List Token) (c : Token) (zs rest : List Token) (t : Terminal) (front2 : List Token) →
    IsRefused front (c ∷ rest) → front2 ≡ front ++ c ∷ zs → CouldStand front2 t → ⊥
no_earlier front c zs rest t front2 refused e could =
    refused (longer_begins front c zs (could.token ∷ []) (subst (λ (us : List Token). BeginsText
    (us ++ could.token ∷ [])) e could.begins))

record SamePlace (a b : List Token) (r s : List Token) : Type 0 where
  fronts : a ≡ b
  rests : r ≡ s

same_place : (tokens : Tokens) (f g : ParseFault) (a : IsFirstRefusal tokens f) (b : IsFirstRefusal tokens g) →
    SamePlace a.front b.front a.rest b.rest
same_place tokens f g a b = elim (cuts a.front a.rest b.front b.rest (sym a.whole ∙ b.whole)) [
  | inl i ↦ inside i.z i.front_is i.back_is
  | inr i ↦ absurd (no_earlier b.front i.y i.z (i.z ++ a.rest) a.want a.front
      (subst (IsRefused b.front) i.after_is b.refused) i.xs_is a.could)
]
  where
    inside : (z : List Token) → b.front ≡ a.front ++ z → a.rest ≡ z ++ b.rest → SamePlace a.front b.front a.rest b.rest
    inside [] e h = record { fronts = sym (e ∙ append-nil a.front); rests = h }
    inside (c ∷ zs) e h = absurd (no_earlier a.front c zs (zs ++ b.rest) b.want b.front
        (subst (IsRefused a.front) h a.refused) e b.could)

one_fault : (tokens : Tokens) (f g : ParseFault) → IsFirstRefusal tokens f → IsFirstRefusal tokens g → f ≡ g
one_fault tokens f g a b =
    let same = same_place tokens f g a b in
    let low : order_of a.want ≤ order_of b.want = a.least b.want (subst
    (λ (front : List Token). CouldStand front b.want) (sym same.fronts) b.could) in
    let high : order_of b.want ≤ order_of a.want = b.least a.want (subst
    (λ (front : List Token). CouldStand front a.want) same.fronts a.could) in
    let wants : a.want ≡ b.want = rank_injective a.want b.want (omega (arith, low, high)) in
    a.is ∙ (ap (λ (rest : List Token). fault_before rest tokens.last a.want) same.rests ∙
    (ap (fault_before b.rest tokens.last) wants ∙ sym b.is))

told : (tokens : Tokens) (f : ParseFault) → IsParsed tokens (Err f) → f ≢ OutOfMemory → IsFirstRefusal tokens f
told tokens (Unexpected line want) h some = h
told tokens (OutByName line word) h some = h
told tokens OutOfMemory h some = absurd (some refl)

pub tree_clause : (tokens : Tokens) (r : Result Tree ParseFault) → IsParsed tokens r → IfOk r (IsTreeOf tokens.items)
tree_clause tokens (Ok tree) h = h
tree_clause tokens (Err f) h = tt

pub fault_clause : (tokens : Tokens) (r : Result Tree ParseFault) → IsParsed tokens r →
    IfErr r (λ f. f ≢ OutOfMemory → IsFirstRefusal tokens f)
fault_clause tokens (Ok tree) h = tt
fault_clause tokens (Err f) h = told tokens f h

pub only_tree_clause : (tokens : Tokens) (r : Result Tree ParseFault) → IsParsed tokens r → (tree : Tree) →
    IsTreeOf tokens.items tree → r ≢ Err OutOfMemory → r ≡ Ok tree
only_tree_clause tokens (Ok other) h tree is some = ap Ok (one_tree tokens.items other tree h is)
only_tree_clause tokens (Err f) h tree is some = absurd (not_both tokens tree f is
    (told tokens f h (λ e. some (ap Err e))))

pub only_fault_clause : (tokens : Tokens) (r : Result Tree ParseFault) → IsParsed tokens r → (f : ParseFault) →
    IsFirstRefusal tokens f → r ≢ Err OutOfMemory → r ≡ Err f
only_fault_clause tokens (Ok tree) h f is some = absurd (not_both tokens tree f h is)
only_fault_clause tokens (Err g) h f is some = ap Err (one_fault tokens g f (told tokens g h (λ e. some (ap Err e))) is)
