-- What is told of steps. Public clauses cite this module.
use Rattle.std.specs.Prelude.{List, [], ◌∷◌}

-- how a step is told, from what was told before to what is told then: whole; or memory was wanted for it; or the sink
-- failed at it
pub record Telling (T Step : Type 0) : Type 1 where
  pub whole : T → T → Step → Type 0
  pub wants : T → T → Step → Type 0
  pub fails : T → T → Step → Type 0

-- each of these steps was told
pub data Gains {T Step : Type 0} (t : Telling T Step) : T → T → List Step → Type 0 where
  gains_none : (a : T) → Gains t a a []
  gains_one : (a b c : T) (n : Step) (es : List Step) → t.whole a b n → Gains t b c es → Gains t a c (n ∷ es)

-- each of them, but that memory was wanted at the last one, or behind it
pub data Wants {T Step : Type 0} (t : Telling T Step) : T → T → List Step → Type 0 where
  wants_more : (a : T) → Wants t a a []
  wants_last : (a b : T) (n : Step) → t.wants a b n → Wants t a b (n ∷ [])
  wants_one : (a b c : T) (n : Step) (es : List Step) → t.whole a b n → Wants t b c es → Wants t a c (n ∷ es)

-- each of them, but that the sink failed at the last one
pub data Fails {T Step : Type 0} (t : Telling T Step) : T → T → List Step → Type 0 where
  fails_last : (a b : T) (n : Step) → t.fails a b n → Fails t a b (n ∷ [])
  fails_one : (a b c : T) (n : Step) (es : List Step) → t.whole a b n → Fails t b c es → Fails t a c (n ∷ es)
