-- What can begin a text of a rule, and how a rule is read from left to right. No public clause cites this module.
use Rattle.std.specs.Prelude.{ℕ, suc, zero, Bool, true, false, ◌&&◌, ◌||◌, not, if◌then◌else◌, nat_le, List, [], ◌∷◌}
use Rattle.std.specs.Prelude.{length, Option, Some, None, Result, Ok, Err}
use Rattle.std.specs.List.{list_all, list_any}
use Rattle.xg_lex.specs.declared.token.Token.{Token}
use Rattle.xg_parse.specs.declared.terminal.Terminal.{Terminal}
use Rattle.xg_parse.specs.Terminals.{terminals, order_of}
use Rattle.xg_parse.specs.Words.{terminal_of}
use Rattle.xg_parse.specs.Rules.{Rule, word, pair, either, maybe, many, change, has}

-- no token is a text of the rule
abbrev pub nullable : {A : Type 0} → Rule A → Bool
nullable (word set) = false
nullable (pair g h) = nullable g && nullable h
nullable (either g h) = nullable g || nullable h
nullable (maybe g) = true
nullable (many g) = true
nullable (change f g) = nullable g

-- the terminals that begin its texts
abbrev pub firsts : {A : Type 0} → Rule A → Terminal → Bool
firsts (word set) t = set t
firsts (pair g h) t = firsts g t || (nullable g && firsts h t)
firsts (either g h) t = firsts g t || firsts h t
firsts (maybe g) t = firsts g t
firsts (many g) t = firsts g t
firsts (change f g) t = firsts g t

-- the terminals that can follow one of its texts within a longer one
abbrev pub tails : {A : Type 0} → Rule A → Terminal → Bool
tails (word set) t = false
tails (pair g h) t = tails h t || (nullable h && tails g t)
tails (either g h) t = tails g t || tails h t
tails (maybe g) t = firsts g t || tails g t
tails (many g) t = firsts g t || tails g t
tails (change f g) t = tails g t

-- no terminal is in both sets
abbrev pub are_apart : (Terminal → Bool) → (Terminal → Bool) → Bool
are_apart s u = list_all (λ t. not (s t && u t)) terminals

-- one terminal of a word's set at least
abbrev pub has_some : (Terminal → Bool) → Bool
has_some s = list_any s terminals

-- the next terminal decides at each place which way to go
abbrev pub is_decided : {A : Type 0} → Rule A → Bool
is_decided (word set) = has_some set
is_decided (pair g h) = is_decided g && is_decided h && are_apart (tails g) (firsts h)
is_decided (either g h) =
    is_decided g && is_decided h && not (nullable g) && not (nullable h) && are_apart (firsts g) (firsts h)
is_decided (maybe g) = is_decided g && not (nullable g)
is_decided (many g) = is_decided g && not (nullable g) && are_apart (tails g) (firsts g)
is_decided (change f g) = is_decided g

-- the tokens that are left, the terminal of the first, and the least one that was looked for there and isn't there
pub record Place : Type 0 where
  pub rest : List Token
  pub next : Option Terminal
  pub tried : Option Terminal

-- the terminal of the first token, if there is one
abbrev pub next_of : List Token → Option Terminal
next_of [] = None
next_of (token ∷ tokens) = terminal_of token

-- the place before the tokens, where nothing was looked for yet
abbrev pub place_at : List Token → Place
place_at tokens = record { rest = tokens; next = next_of tokens; tried = None }

-- the first of the list that is in the set
abbrev pub first_in : (Terminal → Bool) → List Terminal → Option Terminal
first_in set [] = None
first_in set (t ∷ ts) = if set t then Some t else first_in set ts

-- the least terminal of a set
abbrev pub least_terminal : (Terminal → Bool) → Option Terminal
least_terminal set = first_in set terminals

-- the lesser of two
abbrev pub lesser_terminal : Option Terminal → Option Terminal → Option Terminal
lesser_terminal None o = o
lesser_terminal (Some t) None = Some t
lesser_terminal (Some t) (Some u) = if nat_le (order_of t) (order_of u) then Some t else Some u

-- the place where the set was looked for too
abbrev pub without : (Terminal → Bool) → Place → Place
without set p = record { rest = p.rest; next = p.next; tried = lesser_terminal p.tried (least_terminal set) }

-- what is read and the place behind it, or the place of the first token that is refused
abbrev pub Read : Type 0 → Type 0
Read A = Result (A × Place) Place

infixl 10 ◌>>=◌
-- what is read next, where the first was read
abbrev pub ◌>>=◌ : {A B : Type 0} → Read A → (A × Place → Read B) → Read B
(Ok x) >>= f = f x
(Err p) >>= f = Err p

-- the first token, where it is in the set
abbrev pub word_at : (Terminal → Bool) → Place → List Token → Read Token
word_at set p [] = Err (without set p)
word_at set p (token ∷ tokens) = if has set p.next then Ok (token, place_at tokens) else Err (without set p)

-- as often as the next is in the set
abbrev pub many_at : {A : Type 0} → (Place → Read A) → (Terminal → Bool) → ℕ → Place → Read (List A)
many_at read set zero p = Err p
many_at read set (suc n) p =
    if has set p.next then (read p >>= λ x. many_at read set n x.1 >>= λ xs. Ok (x.0 ∷ xs.0, xs.1))
    else Ok ([], without set p)

-- the reading of a rule from a place: the next terminal decides which way to go
abbrev pub read_rule : {A : Type 0} → Rule A → Place → Read A
read_rule (word set) p = word_at set p p.rest
read_rule (pair g h) p = read_rule g p >>= λ x. read_rule h x.1 >>= λ y. Ok ((x.0, y.0), y.1)
read_rule (either g h) p = if has (firsts g) p.next then read_rule g p else read_rule h (without (firsts g) p)
read_rule (maybe g) p =
    if has (firsts g) p.next then (read_rule g p >>= λ x. Ok (Some x.0, x.1)) else Ok (None, without (firsts g) p)
read_rule (many g) p = many_at (read_rule g) (firsts g) (suc (length p.rest)) p
read_rule (change f g) p = read_rule g p >>= λ x. Ok (f x.0, x.1)
