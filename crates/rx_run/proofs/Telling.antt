-- What is told of one list of steps and then of another is told of both.
use Rattle.std.proofs.Common.{List, [], ◌∷◌, ◌++◌}
use Rattle.rx_run.specs.Tells.{Fails, Gains, Telling, Wants}
use Rattle.rx_run.specs.Tells.{gains_none, gains_one, wants_more, wants_one, fails_one}

-- what was told of two lists was told of the first, and then of the second
pub record Split {T Step : Type 0} (t : Telling T Step) (a c : T) (es more : List Step) : Type 0 where
  pub between : T
  pub first : Gains t a between es
  pub then_rest : Gains t between c more

module _ {T Step : Type 0} {t : Telling T Step} where
  -- steps that were told whole and then others are told whole
  pub gains_both : {a b c : T} {es more : List Step} → Gains t a b es → Gains t b c more → Gains t a c (es ++ more)
  gains_both (gains_none a) next = next
  gains_both (gains_one a m b n es one rest) next = gains_one a m _ n _ one (gains_both rest next)

  -- memory was wanted in what came behind steps that were told whole
  pub wants_behind : {a b c : T} {es more : List Step} → Gains t a b es → Wants t b c more → Wants t a c (es ++ more)
  wants_behind (gains_none a) next = next
  wants_behind (gains_one a m b n es one rest) next = wants_one a m _ n _ one (wants_behind rest next)

  -- the sink failed in what came behind steps that were told whole
  pub fails_behind : {a b c : T} {es more : List Step} → Gains t a b es → Fails t b c more → Fails t a c (es ++ more)
  fails_behind (gains_none a) next = next
  fails_behind (gains_one a m b n es one rest) next = fails_one a m _ n _ one (fails_behind rest next)

  -- what was told whole is told where memory is wanted behind it
  pub wants_then : {a b : T} {es : List Step} → Gains t a b es → Wants t a b es
  wants_then (gains_none a) = wants_more a
  wants_then (gains_one a m b n es one rest) = wants_one a m _ n _ one (wants_then rest)

  pub split : (a c : T) (es more : List Step) → Gains t a c (es ++ more) → Split t a c es more
  split a c [] more told = record { between = a; first = gains_none a; then_rest = told }
  split a c (n ∷ es) more (gains_one x b y m them one rest) =
      (let s : Split t b c es more = split b c es more rest in
      record { between = s.between; first = gains_one a b s.between n es one s.first; then_rest = s.then_rest })
