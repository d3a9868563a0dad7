-- What a text means: its interface, or its first fault. Public clauses cite this module.
use Rattle.std.specs.Prelude.{ℕ, List}
use Rattle.xg_lex.specs.declared.token.Tokens.{Tokens}
use Rattle.xg_lex.specs.Grammar.{IsTokensOf, IsFirstFault as HasNoTokens}
use Rattle.xg_parse.specs.declared.tree.Tree.{Tree}
use Rattle.xg_parse.specs.Grammar.{IsTreeOf}
use Rattle.xg_parse.specs.Refusals.{IsFirstRefusal}
use Rattle.xg_check.specs.Meaning.{Meant, Meaning, IsFirstFault as HasNoMeaning}
use Rattle.xg_compile.specs.declared.fault.CompileFault.{CompileFault}
use Rattle.xg_compile.specs.declared.fault.CompileFault.TheVariants.{Lex, Parse, Check, OutOfMemory}

-- the text has tokens, and these have that tree
pub record HasTree (text : List ℕ) (tree : Tree) : Type 0 where
  pub tokens : Tokens
  pub are : IsTokensOf text tokens
  pub grows : IsTreeOf tokens.items tree

-- the text has a tree, and that means the interface
pub record Means (text : List ℕ) (meant : Meant) : Type 0 where
  pub tree : Tree
  pub has : HasTree text tree
  pub is : Meaning tree meant

-- The first fault of a text: one of its tokens; or it has tokens, and the fault is of the grammar; or it has a tree,
-- and the fault is of what that means.
abbrev pub IsFirstFaultOf : List ℕ → CompileFault → Type 0
IsFirstFaultOf text (Lex fault) = HasNoTokens text fault
IsFirstFaultOf text (Parse fault) = (tokens : Tokens) × IsTokensOf text tokens × IsFirstRefusal tokens fault
IsFirstFaultOf text (Check fault) = (tree : Tree) × HasTree text tree × HasNoMeaning tree fault
IsFirstFaultOf text OutOfMemory = ⊥
