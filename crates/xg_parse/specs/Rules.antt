-- A grammar as data: the tokens of a rule, and what it gives of them. Public clauses cite this module.
use Rattle.std.specs.Prelude.{◌≡◌, Bool, true, false, List, [], ◌∷◌, ◌++◌, Option, Some, None, ◌⊎◌}
use Rattle.xg_lex.specs.declared.token.Token.{Token}
use Rattle.xg_parse.specs.declared.terminal.Terminal.{Terminal}
use Rattle.xg_parse.specs.Words.{terminal_of}

-- a rule of a grammar, with the type of what it gives
pub data Rule : Type 0 → Type 1 where
  -- a token whose terminal is in the set
  word : (Terminal → Bool) → Rule Token
  -- one rule and then another
  pair : {A B : Type 0} → Rule A → Rule B → Rule (A × B)
  -- one rule or another
  either : {A : Type 0} → Rule A → Rule A → Rule A
  -- [x]
  maybe : {A : Type 0} → Rule A → Rule (Option A)
  -- {x}
  many : {A : Type 0} → Rule A → Rule (List A)
  -- the same tokens, and something else given of them
  change : {A B : Type 0} → (A → B) → Rule A → Rule B

-- the terminal is there, and in the set
abbrev pub has : (Terminal → Bool) → Option Terminal → Bool
has set None = false
has set (Some t) = set t

-- each of the list has its own tokens, one after another
abbrev pub EachHas : {A : Type 0} → (A → List Token → Type 0) → List A → List Token → Type 0
EachHas P [] tokens = tokens ≡ []
EachHas P (a ∷ rest) tokens =
    (front : List Token) × (back : List Token) × (tokens ≡ front ++ back) × P a front × EachHas P rest back

-- the tokens are those of the one and then those of the other
abbrev pub Both : {A B : Type 0} → (A → List Token → Type 0) → (B → List Token → Type 0) → A × B → List Token → Type 0
Both P Q both tokens = (front : List Token) × (back : List Token) × (tokens ≡ front ++ back) × P both.0 front × Q
    both.1 back

-- the tokens are of the rule, which gives that
abbrev pub Derives : {A : Type 0} → Rule A → A → List Token → Type 0
Derives (word set) token tokens = (tokens ≡ token ∷ []) × (has set (terminal_of token) ≡ true)
Derives (pair g h) both tokens = Both (Derives g) (Derives h) both tokens
Derives (either g h) a tokens = Derives g a tokens ⊎ Derives h a tokens
Derives (maybe g) None tokens = tokens ≡ []
Derives (maybe g) (Some a) tokens = Derives g a tokens
Derives (many g) items tokens = EachHas (Derives g) items tokens
Derives (change {A} f g) b tokens = (a : A) × (b ≡ f a) × Derives g a tokens

infixr 14 ◌▹◌
-- one rule and then another, as a grammar has them side by side
abbrev pub ◌▹◌ : {A B : Type 0} → Rule A → Rule B → Rule (A × B)
g ▹ h = pair g h

infixr 12 ◌∣◌
-- one rule or another, as a grammar has them with a bar between them
abbrev pub ◌∣◌ : {A : Type 0} → Rule A → Rule A → Rule A
g ∣ h = either g h
