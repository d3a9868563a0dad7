-- Rounds over a network, whatever lies on it: fair ones, and those in which it loses, repeats and holds datagrams.
-- Public clauses cite this module.
use Rattle.std.specs.Prelude.{◌==◌, ◌&&◌, ℕ, zero, suc, Bool, List, [], ◌++◌, length}
use Rattle.rand_pcg.specs.Lcg.{Lcg, increment_of, started}
use Rattle.rand_pcg.specs.Pcg.{multiplier_64}
use Rattle.rx_law.specs.Worlds.{Datagram}
use Rattle.rx_plan.specs.Lossy.{comes, drawn, fated, gathered, stays}
use Rattle.rx_plan.specs.Parts.{Part, Then, To, by_test, each, ends}

-- what a round's polls came to, and the datagrams that they gave, in order
pub record Polled (S : Type 0) : Type 0 where
  pub stage : S
  pub given : List Datagram

-- what lies on a network: its polls, until none is due; a delivery; its turns; its clocks, which move on; and whether a
-- call lives there
pub record Network (S : Type 0) : Type 1 where
  pub polls : S → Part (Polled S)
  pub delivers : Datagram → S → Part S
  pub turns : S → Part S
  pub waits : S → Part S
  pub any_lives : S → Bool

-- ---- fair rounds

-- the end of a round: where nothing came, the clocks move
abbrev pub settles : {S : Type 0} → Network S → Bool → S → Part S
settles n quiet s = by_test quiet (n.waits s) (ends (To s))

-- one round
abbrev pub round : {S : Type 0} → Network S → S → Part S
round n s =
    Then (n.polls s) (λ p. Then (each n.delivers p.given p.stage) (λ t. Then (n.turns t)
    (settles n (length p.given == 0))))

-- rounds until so many were made or no call lives
abbrev pub rounds : {S : Type 0} → Network S → ℕ → S → Part S
rounds n zero s = ends (To s)
rounds n (suc count) s = by_test (n.any_lives s) (Then (round n s) (rounds n count)) (ends (To s))

-- ---- lossy rounds

-- what a lossy network comes to: the stage, its generator, and what it holds
pub record Lossy (S : Type 0) : Type 0 where
  pub stage : S
  pub words : Lcg
  pub held : List Datagram

-- what a lossy round does with what its polls gave, by this generator and with what is held: the datagrams that were
-- given meet their fates, and those that were held come behind them; then come the turns; and where nothing was given
-- and nothing was held, the clocks move
abbrev pub carries : {S : Type 0} → Network S → Lcg → List Datagram → List Datagram → S → Part (Lossy S)
carries n words held given s =
    Then (each n.delivers (gathered comes (fated words given) ++ held) s) (λ t.
    Then (n.turns t) (λ u.
    Then (settles n ((length given == 0) && (length held == 0)) u) (λ w.
    ends (To (record { stage = w; words = drawn words given; held = gathered stays (fated words given) })))))

-- one lossy round
abbrev pub lossy_round : {S : Type 0} → Network S → Lossy S → Part (Lossy S)
lossy_round n l = Then (n.polls l.stage) (λ p. carries n l.words l.held p.given p.stage)

-- lossy rounds until so many were made or no call lives
abbrev pub lossy_rounds : {S : Type 0} → Network S → ℕ → Lossy S → Part S
lossy_rounds n zero l = ends (To l.stage)
lossy_rounds n (suc count) l =
    by_test (n.any_lives l.stage) (Then (lossy_round n l) (lossy_rounds n count)) (ends (To l.stage))

-- a new lossy network with the generator of a number
abbrev pub lossy : {S : Type 0} → Network S → ℕ → ℕ → S → Part S
lossy n number count s =
    lossy_rounds n count
    (record { stage = s; words = started 64 multiplier_64 number (increment_of 64 1); held = [] })
