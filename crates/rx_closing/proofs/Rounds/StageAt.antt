-- The stages of rounds that follow one another: the one behind so many of them, the first round, and one round more.
use Rattle.std.proofs.Common.{◌≡◌, ◌+◌, ◌<◌, ◌≤◌, ℕ, zero, suc, subst, arith, refl}
use Rattle.rx_jobs.specs.Handlers.{Handlers}
use Rattle.rx_plan.specs.Stages.{Stage}
use Rattle.rx_rounds.proofs.Rounded.{RoundMade}
use Rattle.rx_closing.proofs.Rounds.Chains.{Chain, chain_both, chain_more, chain_none}

module _ (g : Handlers) where
  -- the stage behind so many of the rounds, or the last one
  abbrev pub stage_at : (n : ℕ) (s t : Stage) → Chain g n s t → ℕ → Stage
  stage_at n s t chain zero = s
  stage_at n s t (chain_none z) (suc i) = z
  stage_at n s t (chain_more m z u y first others) (suc i) = stage_at m u y others i

  -- the rounds up to it
  pub stage_front : (i n : ℕ) (s t : Stage) (chain : Chain g n s t) → i ≤ n → Chain g i s (stage_at n s t chain i)
  stage_front zero n s t chain low = chain_none s
  stage_front (suc i) n s t (chain_none z) low = absurd (omega (arith, low))
  stage_front (suc i) n s t (chain_more m z u y first others) low =
      chain_more i z u (stage_at m u y others i) first (stage_front i m u y others (omega (arith, low)))

  -- those behind it
  pub stage_rest : (i j n : ℕ) (s t : Stage) (chain : Chain g n s t) → i + j ≡ n
      → Chain g j (stage_at n s t chain i) t
  stage_rest zero j n s t chain all = (let same : n ≡ j = omega (arith, all) in
      subst (λ (m : ℕ). Chain g m s t) same chain)
  stage_rest (suc i) j n s t (chain_none z) all = absurd (omega (arith, all))
  stage_rest (suc i) j n s t (chain_more m z u y first others) all =
      stage_rest i j m u y others (omega (arith, all))

  -- the round that begins there
  pub stage_round : (i n : ℕ) (s t : Stage) (chain : Chain g n s t) → i < n
      → RoundMade g (stage_at n s t chain i) (stage_at n s t chain (suc i))
  stage_round i n s t (chain_none z) low = absurd (omega (arith, low))
  stage_round zero n s t (chain_more m z u y first others) low = first
  stage_round (suc i) n s t (chain_more m z u y first others) low =
      stage_round i m u y others (omega (arith, low))

-- the first of some rounds
pub record NextRound (g : Handlers) (n : ℕ) (s t : Stage) : Type 0 where
  pub between : Stage
  pub first : RoundMade g s between
  pub others : Chain g n between t

pub next_round : (g : Handlers) (n : ℕ) (s t : Stage) → Chain g (suc n) s t → NextRound g n s t
next_round g n s t chain = of (suc n) s t refl refl refl chain
  where
    of : (all : ℕ) (a b : Stage) → all ≡ suc n → a ≡ s → b ≡ t → Chain g all a b → NextRound g n s t
    of all a b is from to (chain_none y) = absurd (let no : ⊥ = omega arith in no)
    of all a b is from to (chain_more i x y o first others) =
        (let many : i ≡ n = omega arith in
        record {
          between = y;
          first = subst (λ (u : Stage). RoundMade g u y) from first;
          others = subst (λ (j : ℕ). Chain g j y t) many (subst (λ (u : Stage). Chain g i y u) to others);
        })

-- one round more
pub one_longer : (g : Handlers) (m : ℕ) (s u v : Stage) → Chain g m s u → RoundMade g u v → Chain g (m + 1) s v
one_longer g m s u v front r = chain_both g m 1 s u v front (chain_more 0 u v v r (chain_none v))
