-- Values whose octets are bytes. Those of a value in memory are, by its type; data of the definitions may hold any
-- numbers, so the law `value_returns` has it as a premise.
use Rattle.hex.specs.Hex.{IsBytes}
use Rattle.xdr_value.specs.Data.{Datum, number, flag, octets, items, union, none, some, nothing, Data, end, more}

abbrev mutual
  -- each octet of the value is a byte
  pub OctetsAreBytes : Datum → Type 0
  OctetsAreBytes (number z) = Unit {0}
  OctetsAreBytes (flag b) = Unit {0}
  OctetsAreBytes (octets bytes) = IsBytes bytes
  OctetsAreBytes (items vs) = AllAreBytes vs
  OctetsAreBytes (union tag arm) = OctetsAreBytes arm
  OctetsAreBytes none = Unit {0}
  OctetsAreBytes (some d) = OctetsAreBytes d
  OctetsAreBytes nothing = Unit {0}

  -- the same of several values
  pub AllAreBytes : Data → Type 0
  AllAreBytes end = Unit {0}
  AllAreBytes (more d ds) = OctetsAreBytes d × AllAreBytes ds
