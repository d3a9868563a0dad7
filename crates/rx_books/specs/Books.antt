-- What a node's books have of its channels. Public clauses cite this module.
use Rattle.std.specs.Prelude.{◌≡◌, ◌≢◌, ◌≤◌, ◌/◌, ◌*◌, ℕ, List, length, Option, Some}
use Rattle.rx_due.specs.Book.{entries_of, moment_of}
use Rattle.rx_table.specs.declared.seat.TheConstants.{CHANNELS}
use Rattle.rx_node.specs.Moments.{IsRankAt, silence_at}
use Rattle.rx_node.specs.Node.{NodeState}

-- by the key of a channel: from when on it has something to give, and when its call would die of silence
pub record BooksState : Type 0 where
  pub ranks : List (Option ℕ)
  pub silences : List (Option ℕ)

-- they have both moments of a channel
pub record IsNoted (n : NodeState) (b : BooksState) (key : ℕ) : Type 0 where
  pub rank : IsRankAt n key (moment_of b.ranks key)
  pub silence : moment_of b.silences key ≡ silence_at n key

-- they have room for every key, and those of each channel, and no other moment
pub record IsBooked (n : NodeState) (b : BooksState) : Type 0 where
  pub ranks : length b.ranks ≡ CHANNELS * n.limits.conns
  pub silences : length b.silences ≡ CHANNELS * n.limits.conns
  pub each : (key : ℕ) → IsNoted n b key

-- ---- what a method changes

-- they have as much room, and every other key has the moments that it had
pub record KeepsKeys (old new : BooksState) (key : ℕ) : Type 0 where
  pub ranks : length new.ranks ≡ length old.ranks
  pub silences : length new.silences ≡ length old.silences
  pub rank : (q : ℕ) → q ≢ key → moment_of new.ranks q ≡ moment_of old.ranks q
  pub silence : (q : ℕ) → q ≢ key → moment_of new.silences q ≡ moment_of old.silences q

-- they have as much room, and each key of another place has the moments that it had
pub record KeepsPlaces (old new : BooksState) (place : ℕ) : Type 0 where
  pub ranks : length new.ranks ≡ length old.ranks
  pub silences : length new.silences ≡ length old.silences
  pub rank : (q : ℕ) → q / CHANNELS ≢ place → moment_of new.ranks q ≡ moment_of old.ranks q
  pub silence : (q : ℕ) → q / CHANNELS ≢ place → moment_of new.silences q ≡ moment_of old.silences q

-- ---- silence

-- a channel's call is silent at this moment, by its book
pub record IsSilentAt (silences : List (Option ℕ)) (now key : ℕ) : Type 0 where
  pub moment : ℕ
  pub there : moment_of silences key ≡ Some moment
  pub passed : moment ≤ now

-- ---- entries

-- each book has at most so many
pub record HasEntries (b : BooksState) (n : ℕ) : Type 0 where
  pub ranks : entries_of b.ranks ≤ n
  pub silences : entries_of b.silences ≤ n
