-- The first token that no text of the grammar has, and what could stand there. Public clauses cite this module.
use Rattle.std.specs.Prelude.{◌≡◌, ℕ, ◌≤◌, List, [], ◌∷◌, ◌++◌, Option, Some, None, codes}
use Rattle.xg_lex.specs.declared.token.Token.{Token}
use Rattle.xg_lex.specs.declared.token.Tokens.{Tokens}
use Rattle.xg_parse.specs.declared.terminal.Terminal.{Terminal}
use Rattle.xg_parse.specs.declared.out_word.OutWord.{OutWord}
use Rattle.xg_parse.specs.declared.tree.Tree.{Tree}
use Rattle.xg_parse.specs.declared.fault.ParseFault.{ParseFault}
use Rattle.xg_parse.specs.declared.fault.ParseFault.TheVariants.{Unexpected, OutByName, OutOfMemory}
use Rattle.xg_parse.specs.Terminals.{order_of, terminal_text}
use Rattle.xg_parse.specs.Words.{terminal_of, out_word_of, out_word_text}
use Rattle.xg_parse.specs.Grammar.{IsTreeOf}

-- the tokens begin some text of the grammar
pub record BeginsText (tokens : List Token) : Type 0 where
  pub more : List Token
  pub tree : Tree
  pub is : IsTreeOf (tokens ++ more) tree

-- a token of the terminal could stand behind the tokens
pub record CouldStand (tokens : List Token) (t : Terminal) : Type 0 where
  pub token : Token
  pub is : terminal_of token ≡ Some t
  pub begins : BeginsText (tokens ++ token ∷ [])

-- the first of the tokens that are left begins no text behind the front, or the front isn't one where none is left
abbrev pub IsRefused : List Token → List Token → Type 0
IsRefused front [] = (tree : Tree) → IsTreeOf front tree → ⊥
IsRefused front (token ∷ rest) = BeginsText (front ++ token ∷ []) → ⊥

-- the fault on a line: the word that is out by name, or else what is wanted
abbrev pub fault_by : Option OutWord → ℕ → Terminal → ParseFault
fault_by None line want = Unexpected line want
fault_by (Some word) line want = OutByName line word

-- the fault of that place: a word that is out by name, or what is wanted; the end stands on the last line
abbrev pub fault_before : List Token → ℕ → Terminal → ParseFault
fault_before [] last want = Unexpected last want
fault_before (token ∷ rest) last want = fault_by (out_word_of token) token.line want

-- the front could go on, with the wanted terminal as the least one, and the next token is refused
pub record IsFirstRefusal (tokens : Tokens) (fault : ParseFault) : Type 0 where
  pub front : List Token
  pub rest : List Token
  pub whole : tokens.items ≡ front ++ rest
  pub refused : IsRefused front rest
  pub want : Terminal
  pub could : CouldStand front want
  pub least : (t : Terminal) → CouldStand front t → order_of want ≤ order_of t
  pub is : fault ≡ fault_before rest tokens.last want

-- a fault as it is printed
abbrev pub refusal_text : ParseFault → List ℕ
refusal_text (Unexpected line want) = codes "unexpected " ++ terminal_text want
refusal_text (OutByName line word) = codes "outbyname " ++ out_word_text word
refusal_text OutOfMemory = codes "out of memory"
