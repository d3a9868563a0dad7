-- How a wire's log is kept in memory: the entries with the numbers of their bytes, and all the bytes behind one
-- another. Public clauses cite this module.
use Rattle.std.specs.Prelude.{◌<◌, ◌≤◌, ◌+◌, ℕ, List, [], ◌∷◌, Some, None, length, take, drop}
use Rattle.rx_wire.specs.declared.wire_log.Kept.{Kept}
use Rattle.rx_wire.specs.declared.wire_log.Kept.TheVariants as kepts
use Rattle.rx_wire.specs.declared.wire_log.LogEntry.{LogEntry}
use Rattle.rx_wire.specs.declared.wire_log.LogEntry.TheVariants as entries
use Rattle.rx_wire.specs.Wire.{Logged, TookUntil, GaveTo}

-- a log in memory: its entries, the first one first, and how many it takes at most, and how many bytes in them
pub record LogState : Type 0 where
  pub entries : List Logged
  pub room : ℕ

-- the bytes of an entry
abbrev pub entry_bytes : Logged → List ℕ
entry_bytes (TookUntil room until None moment) = []
entry_bytes (TookUntil room until (Some came) moment) = came.bytes
entry_bytes (GaveTo to bytes) = bytes

-- how many bytes all entries have
abbrev pub log_bytes : List Logged → ℕ
log_bytes [] = 0
log_bytes (one ∷ log) = length (entry_bytes one) + log_bytes log

-- a log has room for one more entry with so many bytes
abbrev pub HasRoom : List Logged → ℕ → ℕ → Type 0
HasRoom log room count = (length log < room) × (log_bytes log + count ≤ room)

-- how many bytes an entry has
abbrev pub kept_count : Kept → ℕ
kept_count (kepts.Came room until from count moment) = count
kept_count (kepts.Waited room until moment) = 0
kept_count (kepts.Given to count) = count

-- an entry with its bytes
abbrev pub kept_with : Kept → List ℕ → Logged
kept_with (kepts.Came room until from count moment) bytes =
    TookUntil room until (Some (record { from = from; bytes = bytes })) moment
kept_with (kepts.Waited room until moment) bytes = TookUntil room until None moment
kept_with (kepts.Given to count) bytes = GaveTo to bytes

-- the entries with their bytes, which stand behind one another
abbrev pub logged_of : List Kept → List ℕ → List Logged
logged_of [] bytes = []
logged_of (one ∷ kept) bytes =
    kept_with one (take (kept_count one) bytes) ∷ logged_of kept (drop (kept_count one) bytes)

-- how many bytes these entries have
abbrev pub kept_bytes : List Kept → ℕ
kept_bytes [] = 0
kept_bytes (one ∷ kept) = kept_count one + kept_bytes kept

-- what an entry that is looked at says
abbrev pub said_by : LogEntry → Logged
said_by (entries.Came room until from bytes moment) =
    TookUntil room until (Some (record { from = from; bytes = bytes.now })) moment
said_by (entries.Waited room until moment) = TookUntil room until None moment
said_by (entries.Given to bytes) = GaveTo to bytes.now
