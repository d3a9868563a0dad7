-- What the judging of JSON gives. Public clauses cite this module.
use Rattle.std.specs.Prelude.{ℕ, List, [], ◌++◌, codes, decimal, Result, Ok, Err}
use Rattle.xdr_value.specs.Data.{Kind}
use Rattle.xdr_json.specs.TypeText.{type_text}

-- a place that doesn't fit: the steps to it, and the text of the type that is wanted there
pub record Misfit : Type 0 where
  pub path : List ℕ
  pub want : List ℕ

-- what JSON was judged to be, or the first place that doesn't fit
abbrev pub Judged : Type 0 → Type 0
Judged A = Result A Misfit

infixl 10 ◌>>=◌
-- what is judged next, where the first fitted
abbrev pub ◌>>=◌ : {A B : Type 0} → Judged A → (A → Judged B) → Judged B
(Ok x) >>= f = f x
(Err m) >>= f = Err m

-- no value of the type
abbrev pub misfit : {A : Type 0} → Kind → Judged A
misfit k = Err (record { path = []; want = type_text k })

-- one step down
abbrev pub below : {A : Type 0} → List ℕ → Judged A → Judged A
below step (Ok x) = Ok x
below step (Err m) = Err (record { path = step ++ m.path; want = m.want })

-- `.FIELD`
abbrev pub field_step : List ℕ → List ℕ
field_step name = codes "." ++ name

-- `[INDEX]`
abbrev pub index_step : ℕ → List ℕ
index_step i = codes "[" ++ (decimal i ++ codes "]")
