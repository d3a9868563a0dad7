-- What a store of files tells of a read. Public clauses cite this module.
use Rattle.std.specs.Prelude.{◌≡◌, ℕ, List, [], ◌∷◌, Option, Some, None, Result, Ok, Err, ⊤, if◌then◌else◌}
use Rattle.std.specs.Str.{bytes_eq}
use Rattle.rx_base.specs.declared.files.ReadFault.{ReadFault}
use Rattle.rx_base.specs.declared.files.ReadFault.TheVariants.{Failed, OutOfMemory}

-- the bytes of the first file of this name
abbrev pub contents_of : List (List ℕ × List ℕ) → List ℕ → Option (List ℕ)
contents_of [] name = None
contents_of (file ∷ files) name = if bytes_eq file.0 name then Some file.1 else contents_of files name

-- where the files are told, the file of this name is there and has these bytes
abbrev pub HasFile : Option (List (List ℕ × List ℕ)) → List ℕ → List ℕ → Type 0
HasFile None name bytes = ⊤
HasFile (Some files) name bytes = contents_of files name ≡ Some bytes

-- the name whose read failed last, where it is told, is now this one; who tells it goes on to tell it
abbrev pub IsNoted : Option (Option (List ℕ)) → Option (Option (List ℕ)) → List ℕ → Type 0
IsNoted None after name = after ≡ None
IsNoted (Some last) after name = after ≡ Some (Some name)

-- what files tell that tell nothing of names and bytes
abbrev pub untold_contents : Option (List (List ℕ × List ℕ))
untold_contents = None

-- what files tell that tell no name whose read failed
abbrev pub untold_name : Option (Option (List ℕ))
untold_name = None

-- the fact holds if the read failed
abbrev pub OnFailed : {T : Type 0} → Result T ReadFault → Type 0 → Type 0
OnFailed (Err Failed) P = P
OnFailed (Err OutOfMemory) P = ⊤
OnFailed (Ok bytes) P = ⊤

-- the fact holds if the read has an answer or found no memory
abbrev pub UnlessFailed : {T : Type 0} → Result T ReadFault → Type 0 → Type 0
UnlessFailed (Err Failed) P = ⊤
UnlessFailed (Err OutOfMemory) P = P
UnlessFailed (Ok bytes) P = P
