-- Lemmas on logs in memory: entries that are kept with the numbers of their bytes, and the bytes of all.
use Rattle.std.proofs.Common.{◌≡◌, ◌+◌, ◌<◌, ◌≤◌, ◌++◌, ◌∷◌, ◌↔◌, ℕ, List, [], length, take, drop, refl, ap, sym}
use Rattle.std.proofs.Common.{arith, subst, suc}
use Rattle.std.proofs.lemmas.List.{length-take-le, length-drop, take_all, take-append-le, drop-append-le}
use Rattle.rx_wire.specs.declared.wire_log.Kept.{Kept}
use Rattle.rx_wire.specs.declared.wire_log.Kept.TheVariants as kepts
use Rattle.rx_wire.specs.Wire.{Logged}
use Rattle.rx_wire.specs.WireLog.{LogState, HasRoom, entry_bytes, log_bytes, logged_of}
use Rattle.rx_wire.specs.WireLog.{kept_bytes, kept_count, kept_with}

-- a log has as many entries as are kept
pub length-logged_of : (kept : List Kept) (bytes : List ℕ) → length (logged_of kept bytes) ≡ length kept
length-logged_of [] bytes = refl
length-logged_of (one ∷ kept) bytes =
    ap (λ (n : ℕ). suc n) (length-logged_of kept (drop (kept_count one) bytes))

-- an entry with so many bytes as it is to have has so many
entry_bytes-with : (one : Kept) (bytes : List ℕ) → length bytes ≡ kept_count one
    → length (entry_bytes (kept_with one bytes)) ≡ kept_count one
entry_bytes-with (kepts.Came room until from count moment) bytes h = h
entry_bytes-with (kepts.Waited room until moment) bytes h = refl
entry_bytes-with (kepts.Given to count) bytes h = h

-- the entries have all the bytes
pub log_bytes-logged_of : (kept : List Kept) (bytes : List ℕ) → kept_bytes kept ≡ length bytes
    → log_bytes (logged_of kept bytes) ≡ length bytes
log_bytes-logged_of [] bytes h = h
log_bytes-logged_of (one ∷ kept) bytes h =
    let count = kept_count one in
    let within : count ≤ length bytes = omega arith in
    let first : length (entry_bytes (kept_with one (take count bytes))) ≡ count =
    entry_bytes-with one (take count bytes) (length-take-le count bytes within) in
    let left : kept_bytes kept ≡ length (drop count bytes) = omega (arith, length-drop count bytes) in
    let rest : log_bytes (logged_of kept (drop count bytes)) ≡ length (drop count bytes) =
    log_bytes-logged_of kept (drop count bytes) left in
    omega (arith, first, rest, length-drop count bytes)

-- a log has room where there is room beside what is kept
pub room_left : (kept : List Kept) (bytes : List ℕ) (room count : ℕ) → kept_bytes kept ≡ length bytes
    → HasRoom (logged_of kept bytes) room count ↔ ((length kept < room) × (length bytes + count ≤ room))
room_left kept bytes room count h =
    let entries : length (logged_of kept bytes) ≡ length kept = length-logged_of kept bytes in
    let held : log_bytes (logged_of kept bytes) ≡ length bytes = log_bytes-logged_of kept bytes h in
    (λ has. (omega (arith, has.0), omega (arith, has.1)), λ has. (omega (arith, has.0), omega (arith, has.1)))

-- a log that is asked for room, and has it, has it beside what is kept
pub room_asked : (kept : List Kept) (bytes : List ℕ) (room count : ℕ) (s : LogState)
    → record { entries = logged_of kept bytes; room = room } ≡ s → kept_bytes kept ≡ length bytes
    → HasRoom s.entries s.room count → (length kept < room) × (length bytes + count ≤ room)
room_asked kept bytes room count s view held has =
    let P : LogState → Type 0 = λ (s : LogState). HasRoom s.entries s.room count in
    (room_left kept bytes room count held).0 (subst P (sym view) has)

-- one more entry has so many bytes more
pub kept_bytes-snoc : (kept : List Kept) (one : Kept) → kept_bytes (kept ++ one ∷ []) ≡ kept_bytes kept + kept_count one
kept_bytes-snoc [] one = omega arith
kept_bytes-snoc (first ∷ kept) one = omega (arith, kept_bytes-snoc kept one)

-- an entry added with its bytes behind all others stands last in the log
pub logged_of-snoc : (kept : List Kept) (one : Kept) (bytes more : List ℕ) → kept_bytes kept ≡ length bytes
    → length more ≡ kept_count one
    → logged_of (kept ++ one ∷ []) (bytes ++ more) ≡ logged_of kept bytes ++ kept_with one more ∷ []
logged_of-snoc [] one [] more h count =
    let most : length more ≤ kept_count one = omega (arith, count) in
    ap (λ (bs : List ℕ). kept_with one bs ∷ []) (take_all (kept_count one) more most)
logged_of-snoc [] one (byte ∷ bytes) more h count = absurd (omega (arith, h))
logged_of-snoc (first ∷ kept) one bytes more h count =
    let n = kept_count first in
    let within : n ≤ length bytes = omega arith in
    let left : kept_bytes kept ≡ length (drop n bytes) = omega (arith, length-drop n bytes) in
    rw (take-append-le n bytes more within, drop-append-le n bytes more within)
    (ap (λ (log : List Logged). kept_with first (take n bytes) ∷ log)
    (logged_of-snoc kept one (drop n bytes) more left count))

-- a log in memory of these entries
abbrev pub logged_with : List Logged → ℕ → LogState
logged_with log room = record { entries = log; room = room }

module _ (kept more_kept : List Kept) (bytes more_bytes given : List ℕ) (one : Kept) (room : ℕ) (s : LogState) where
  -- a log that an entry was added to, as a contract sees it
  pub log_after_push : record { entries = logged_of kept bytes; room = room } ≡ s → kept_bytes kept ≡ length bytes
      → length given ≡ kept_count one → more_kept ≡ kept ++ one ∷ [] → more_bytes ≡ bytes ++ given
      → logged_with (logged_of more_kept more_bytes) room ≡ record s { entries = s.entries ++ kept_with one given ∷ [] }
  log_after_push view held count kept_is bytes_is =
      let P : LogState → Type 0 = λ (s : LogState).
      logged_with (logged_of more_kept more_bytes) room ≡ record s
      { entries = s.entries ++ kept_with one given ∷ [] } in
      let entries : logged_of more_kept more_bytes ≡ logged_of kept bytes ++ kept_with one given ∷ [] =
      rw (kept_is, bytes_is) (logged_of-snoc kept one bytes given held count) in
      subst P view (ap (λ (log : List Logged). logged_with log room) entries)
