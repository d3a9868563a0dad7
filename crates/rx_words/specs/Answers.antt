-- What a reading of words answers. Public clauses cite this module.
use Rattle.std.specs.Prelude.{◌≡◌, Option, Some, None, Result, Ok, Err}
use Rattle.rx_words.specs.declared.fault.WordsFault.{WordsFault}
use Rattle.rx_words.specs.declared.fault.WordsFault.TheVariants.{Usage, OutOfMemory}

-- an answer is the command of this meaning, `Usage` where there is none, or want of memory
abbrev pub IsReading : {A : Type 0} → Option A → Result A WordsFault → Type 0
IsReading meaning (Ok command) = meaning ≡ Some command
IsReading meaning (Err Usage) = meaning ≡ None
IsReading meaning (Err OutOfMemory) = Unit {0}
