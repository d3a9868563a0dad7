-- Texts that are written piece by piece, and what a joiner keeps of its buffer. No public clause cites this module.
use Rattle.std.specs.Prelude.{◌≡◌, ◌<◌, ◌≤◌, ◌+◌, ◌^◌, ◌==◌, ◌&&◌, ◌++◌, ◌∷◌, [], bit_or, ℕ, zero, suc, Bool, true}
use Rattle.std.specs.Prelude.{false, List, length, take, drop, slice_index, slice_set}
use Rattle.rx_model.specs.declared.wire.TheConstants.{JUMBO, HEADER_BYTES, PAYLOAD_BYTES}
use Rattle.rx_model.specs.Message.{IsBytes}
use Rattle.rx_model.specs.Spelling.{header_bytes}
use Rattle.rx_jumbo.specs.declared.sizes.TheConstants.{JUMBO_PARTS, JUMBO_BYTES}
use Rattle.rx_jumbo.specs.Parts.{header_of, is_data_datagram, is_followed, flags_place, part_place, parts_of}
use Rattle.rx_jumbo.specs.Parts.{part_head}
use Rattle.rx_jumbo.specs.JoinerState.{same_call, spare_place}

-- the header of part k with flags and a checksum
abbrev pub part_header : List ℕ → ℕ → ℕ → ℕ → List ℕ
part_header b k flags checksum = header_bytes (part_head b k) flags (header_of b).status checksum []

-- ---- joining

-- the text with the flag that another part follows the last one
abbrev pub marked : List ℕ → ℕ → List ℕ
marked t last = slice_set t (flags_place last) (bit_or (slice_index t (flags_place last)) JUMBO)

-- flags, a spare byte and checksum of a datagram, and its bytes
abbrev pub link_and_bytes : List ℕ → List ℕ
link_and_bytes d = slice_index d 21 ∷ 0 ∷ slice_index d 24 ∷ slice_index d 25 ∷ drop HEADER_BYTES d

-- the text with one more part
abbrev pub extended : List ℕ → ℕ → List ℕ → List ℕ
extended t last d = marked t last ++ link_and_bytes d

-- whether a datagram continues the last part of a text
abbrev pub is_next : List ℕ → ℕ → List ℕ → Bool
is_next t last d =
    same_call t d && (((header_of t).seq + suc last == (header_of d).seq)
    && ((header_of t).serial + suc last == (header_of d).serial))

-- whether a datagram of DATA continues the last part of a text of DATA
abbrev pub goes_on : List ℕ → ℕ → List ℕ → Bool
goes_on t last d = (is_data_datagram t && is_data_datagram d) && is_next t last d

-- a text of DATA that is joined, with its last part
pub record IsJoin (t : List ℕ) (last : ℕ) : Type 0 where
  pub whole : is_data_datagram t ≡ true
  pub followed : (k : ℕ) → k < last → is_followed t k ≡ true
  pub ends : is_followed t last ≡ false
  pub few : last < JUMBO_PARTS
  pub reaches : part_place last ≤ length t
  pub room : length t ≤ part_place last + PAYLOAD_BYTES
  pub seq : (header_of t).seq + last < 2 ^ 32
  pub serial : (header_of t).serial + last < 2 ^ 32
  pub spares : (k : ℕ) → 0 < k → k ≤ last → slice_index t (spare_place k) ≡ 0

-- what a joiner's buffer has, of `count` datagrams in its first `len` bytes
pub record IsJoinerBuffer (most count len : ℕ) (bytes : List ℕ) : Type 0 where
  pub known : IsBytes bytes
  pub size : length bytes ≡ JUMBO_BYTES
  pub some : 1 ≤ most
  pub few : most ≤ JUMBO_PARTS
  pub within : len ≤ JUMBO_BYTES
  pub counted : count ≤ most
  pub alone : is_data_datagram (take len bytes) ≡ false → count ≤ 1
  pub joined : (last : ℕ) → count ≡ suc last → is_data_datagram (take len bytes) ≡ true → IsJoin (take len bytes) last

-- the datagrams of a text
abbrev pub datagrams_in : ℕ → List ℕ → List (List ℕ)
datagrams_in zero t = []
datagrams_in (suc count) t = parts_of t
