-- What the functions of the reader answer and leave. Public clauses cite `IsFaultOf` alone.
use Rattle.std.specs.Prelude.{◌≡◌, ◌==◌, ℕ, List, [], ◌∷◌, Option, Some, None, Result, Ok, Err}
use Rattle.std.specs.List.{slice_split}
use Rattle.rx_script.specs.declared.fault.Refusal.{Refusal}
use Rattle.rx_script.specs.declared.fault.Refusal.TheVariants.{Bad, OutOfMemory}
use Rattle.rx_script.specs.declared.fault.LineWhy.{LineWhy}
use Rattle.rx_script.specs.declared.fault.LineFault.{LineFault}
use Rattle.rx_script.specs.declared.fault.LineFault.TheVariants as faults

-- the pieces of what is left of a text, if anything is
abbrev pub pieces_left : ℕ → Option (List ℕ) → List (List ℕ)
pieces_left separator None = []
pieces_left separator (Some rest) = slice_split (λ b. b == separator) rest

-- the first word is missing or empty
abbrev pub IsUnfilled : List (List ℕ) → Type 0
IsUnfilled [] = Unit {0}
IsUnfilled (word ∷ more) = word ≡ []

-- an answer, seen by a view, is the one that the grammar gives, but for want of memory
abbrev pub IsSeen : {A B : Type 0} → (A → B) → Result B LineWhy → Result A Refusal → Type 0
IsSeen view given (Ok a) = given ≡ Ok (view a)
IsSeen view given (Err (Bad why)) = given ≡ Err why
IsSeen view given (Err OutOfMemory) = Unit {0}

-- an answer is the one that the grammar gives, but for want of memory
abbrev pub IsAnswer : {A : Type 0} → Result A LineWhy → Result A Refusal → Type 0
IsAnswer given (Ok a) = given ≡ Ok a
IsAnswer given (Err (Bad why)) = given ≡ Err why
IsAnswer given (Err OutOfMemory) = Unit {0}

-- the same, where no memory is wanted
abbrev pub IsSeenWhole : {A B : Type 0} → (A → B) → Result B LineWhy → Result A LineWhy → Type 0
IsSeenWhole view given (Ok a) = given ≡ Ok (view a)
IsSeenWhole view given (Err why) = given ≡ Err why

-- a fault is the one that was given, or there was no memory
abbrev pub IsFaultOf : {S : Type 0} → Result S LineFault → LineFault → Type 0
IsFaultOf given (faults.BadLine line why) = given ≡ Err (faults.BadLine line why)
IsFaultOf given faults.OutOfMemory = Unit {0}

-- a refusal of the line with this number
abbrev pub IsAt : ℕ → Refusal → LineFault → Type 0
IsAt n (Bad why) fault = fault ≡ faults.BadLine n why
IsAt n OutOfMemory fault = fault ≡ faults.OutOfMemory
