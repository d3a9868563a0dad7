-- What words write: numbers and hosts. Public clauses cite this module.
use Rattle.std.specs.Prelude.{◌==◌, ◌&&◌, ◌+◌, ◌*◌, not, if◌then◌else◌, nat_le, ℕ, Bool}
use Rattle.std.specs.Prelude.{List, [], ◌∷◌, length, map, Option, Some, None}
use Rattle.std.specs.Char.{is_ascii_digit}
use Rattle.std.specs.List.{slice_split, list_all}
use Rattle.std.specs.Str.Parse.{digits_value}
use Rattle.rx_model.specs.declared.names.Host.{Host}

-- one or more decimal digits
abbrev pub is_decimal : List ℕ → Bool
is_decimal word = not (length word == 0) && list_all is_ascii_digit word

-- a number written in decimal, where it is within the bounds
abbrev pub number_within : ℕ → ℕ → List ℕ → Option ℕ
number_within low high word =
    if is_decimal word && (nat_le low (digits_value 10 word) && nat_le (digits_value 10 word) high)
    then Some (digits_value 10 word)
    else None

-- one number of an address
abbrev pub octet : List ℕ → Option ℕ
octet word = number_within 0 255 word

-- four octets, the first one highest
abbrev pub address_of : List (Option ℕ) → Option ℕ
address_of (Some a ∷ Some b ∷ Some c ∷ Some d ∷ []) = Some (((a * 256 + b) * 256 + c) * 256 + d)
address_of _ = None

-- an address as A.B.C.D, cut at its dots
abbrev pub address : List ℕ → Option ℕ
address word = address_of (map octet (slice_split (λ b. b == 46) word))

-- both or none
abbrev pub host_of : Option ℕ → Option ℕ → Option Host
host_of (Some addr) (Some port) = Some (record { addr = addr; port = port })
host_of _ _ = None

-- an address, then a port
abbrev pub host_of_sides : List (List ℕ) → Option Host
host_of_sides (addr ∷ port ∷ []) = host_of (address addr) (number_within 0 65535 port)
host_of_sides _ = None

-- HOST: A.B.C.D:PORT, cut at its colon
abbrev pub host_in : List ℕ → Option Host
host_in word = host_of_sides (slice_split (λ b. b == 58) word)
