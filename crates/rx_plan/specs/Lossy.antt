-- Rounds over a network that loses, repeats and holds datagrams. Public clauses cite this module.
use Rattle.std.specs.Prelude.{◌==◌, ◌%◌, ◌&&◌, ℕ, zero, suc, List, [], ◌∷◌, ◌++◌, length}
use Rattle.rand_pcg.specs.Lcg.{Lcg, increment_of, started}
use Rattle.rand_pcg.specs.Pcg.{multiplier_64, pcg32}
use Rattle.rx_law.specs.Worlds.{Datagram}
use Rattle.rx_events.specs.Waits.{any_lives}
use Rattle.rx_jobs.specs.Handlers.{Handlers}
use Rattle.rx_plan.specs.Network.{delivers}
use Rattle.rx_plan.specs.Parts.{To, Part, Then, by_test, each, ends}
use Rattle.rx_plan.specs.Rounds.{polls, settles, turns}
use Rattle.rx_plan.specs.Stages.{Stage}
use Rattle.rx_plan.specs.declared.fate.Fate.{Fate}
use Rattle.rx_plan.specs.declared.fate.Fate.TheVariants as fates

-- the fate that a word says
abbrev pub fate_at : ℕ → Fate
fate_at zero = fates.Lost
fate_at (suc zero) = fates.Twice
fate_at (suc (suc zero)) = fates.Held
fate_at (suc (suc (suc n))) = fates.Once

-- the fate that a word of the generator says, by its remainder of 16: 0 lost, 1 twice, 2 held, else once
abbrev pub fate_of : ℕ → Fate
fate_of word = fate_at (word % 16)

-- datagrams with their fates, each by the next word
abbrev pub fated : Lcg → List Datagram → List (Datagram × Fate)
fated g [] = []
fated g (d ∷ ds) = (d, fate_of (pcg32 g).0) ∷ fated (pcg32 g).1 ds

-- the generator behind as many words
abbrev pub drawn : Lcg → List Datagram → Lcg
drawn g [] = g
drawn g (d ∷ ds) = drawn (pcg32 g).1 ds

-- how often a datagram comes at once
abbrev pub comes : Datagram × Fate → List Datagram
comes (d, fates.Lost) = []
comes (d, fates.Twice) = d ∷ d ∷ []
comes (d, fates.Held) = []
comes (d, fates.Once) = d ∷ []

-- whether it is held
abbrev pub stays : Datagram × Fate → List Datagram
stays (d, fates.Lost) = []
stays (d, fates.Twice) = []
stays (d, fates.Held) = d ∷ []
stays (d, fates.Once) = []

-- all of these
abbrev pub gathered : (Datagram × Fate → List Datagram) → List (Datagram × Fate) → List Datagram
gathered f [] = []
gathered f (x ∷ xs) = f x ++ gathered f xs

-- what a lossy network comes to: the stage, its generator, and what it holds
pub record Lossy : Type 0 where
  pub stage : Stage
  pub words : Lcg
  pub held : List Datagram

-- what a lossy round does with what its polls gave, by this generator and with what is held: the datagrams that were
-- given meet their fates, and those that were held come behind them; then come the turns; and where nothing was given
-- and nothing was held, the clocks move
abbrev pub carries : Handlers → Lcg → List Datagram → List Datagram → Stage → Part Lossy
carries g words held given s =
    Then (each delivers (gathered comes (fated words given) ++ held) s) (λ s1.
    Then (turns g s1) (λ s2.
    Then (settles ((length given == 0) && (length held == 0)) s2) (λ t.
    ends (To (record { stage = t; words = drawn words given; held = gathered stays (fated words given) })))))

-- one lossy round
abbrev pub lossy_round : Handlers → Lossy → Part Lossy
lossy_round g l = Then (polls l.stage) (λ p. carries g l.words l.held p.given p.stage)

-- lossy rounds until so many were made or no call lives
abbrev pub lossy_rounds : Handlers → ℕ → Lossy → Part Stage
lossy_rounds g zero l = ends (To l.stage)
lossy_rounds g (suc n) l =
    by_test (any_lives l.stage.nodes l.stage.history) (Then (lossy_round g l) (lossy_rounds g n))
    (ends (To l.stage))

-- a new network with the generator of a number
abbrev pub lossy : Handlers → ℕ → ℕ → Stage → Part Stage
lossy g number n s =
    lossy_rounds g n (record { stage = s; words = started 64 multiplier_64 number (increment_of 64 1); held = [] })
