-- What became of the datagrams of lossy rounds, in numbers. Public clauses cite this module.
use Rattle.std.specs.Prelude.{◌+◌, ◌-◌, ◌^◌, ℕ, List, [], ◌∷◌, min}
use Rattle.rx_law.specs.Worlds.{Datagram}
use Rattle.rx_plan.specs.declared.fate.Fate.{Fate}
use Rattle.rx_plan.specs.declared.fate.Fate.TheVariants as fates
use Rattle.rx_plan.specs.declared.tally.Tally.{Tally}

-- one more, where a count of 64 bits has room for it
abbrev pub one_given : ℕ → ℕ
one_given count = min (count + 1) (2 ^ 64 - 1)

-- no datagram
abbrev pub no_tally : Tally
no_tally = record { given = 0; lost = 0; repeated = 0; held = 0 }

-- one datagram more, of which this became; a count stands still at its end
abbrev pub with_fate : Fate → Tally → Tally
with_fate fates.Lost t = record t { given = one_given t.given; lost = one_given t.lost }
with_fate fates.Twice t = record t { given = one_given t.given; repeated = one_given t.repeated }
with_fate fates.Held t = record t { given = one_given t.given; held = one_given t.held }
with_fate fates.Once t = record t { given = one_given t.given }

-- these datagrams more
abbrev pub tallied : List (Datagram × Fate) → Tally → Tally
tallied [] t = t
tallied (x ∷ xs) t = tallied xs (with_fate x.1 t)
