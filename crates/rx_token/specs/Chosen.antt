-- The class that a node was set up with, and what it keeps to itself. Public clauses cite this module.
use Rattle.std.specs.Prelude.{ℕ, List, [], ◌∷◌}
use Rattle.rx_rules.specs.Classes.{Class, null, token}
use Rattle.rx_token.specs.declared.chosen.Chosen.{Chosen}
use Rattle.rx_token.specs.declared.chosen.Chosen.TheVariants as variants

-- nothing, or the key behind a mark
abbrev pub secret_of : Chosen → List ℕ
secret_of variants.Null = []
secret_of (variants.Token key) = 1 ∷ key

-- the class that goes with it
abbrev pub chosen : List ℕ → Class
chosen [] = null
chosen (mark ∷ key) = token key
