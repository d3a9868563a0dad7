use Rattle.std.proofs.Common.{◌≡◌, length, map}
use Rattle.std.specs.List.{list_all}
use Rattle.std.specs.String.{string_bytes}
use Rattle.rx_words.specs.Parts.{parts_of}
use Rattle.rx_words.specs.Rules.{is_known}
use Rattle.rx_words.proofs.rules.are_known.Given as goal

-- the parts that are left are known if all of them are
abbrev pub invariant-loop-part : goal.invariant-loop-part
invariant-loop-part l =
    list_all (is_known l.command) l.parts ≡ list_all (is_known l.command) (parts_of (map string_bytes l.words))

abbrev pub decreases-loop-part : goal.decreases-loop-part
decreases-loop-part l = length l.parts
