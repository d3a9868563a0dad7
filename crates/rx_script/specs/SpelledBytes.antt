-- Which bytes a plan's word gives. No public clause cites this module.
use Rattle.std.specs.Prelude.{ℕ, List, replicate}
use Rattle.rx_script.specs.declared.spelled.Spelling.{Spelling}
use Rattle.rx_script.specs.declared.spelled.Spelling.TheVariants as spellings

-- the bytes that stand there, or so many times the one
abbrev pub spelled_bytes : Spelling → List ℕ
spelled_bytes (spellings.Listed bytes) = bytes
spelled_bytes (spellings.Repeated count byte) = replicate count byte
