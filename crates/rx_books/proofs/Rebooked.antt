-- The books are right again where what changed was noted.
use Rattle.std.proofs.Common.{◌≡◌, ◌+◌, ◌*◌, ◌/◌, ℕ, List, length, Option, None, Some, refl, ◌∙◌, ap, sym, subst}
use Rattle.std.proofs.Common.{◌<◌, ◌%◌, [], ◌∷◌, zero, suc, arith, if◌then◌else◌, option_map, replicate}
use Rattle.std.specs.Prelude.{option_and_then, slice_get}
use Rattle.std.proofs.lemmas.Option.{slice_get_within}
use Rattle.rx_due.specs.Book.{moment_of}
use Rattle.rx_model.specs.declared.names.Limits.{Limits}
use Rattle.rx_model.specs.declared.stray.Stray.{Stray}
use Rattle.rx_model.specs.declared.wire.TheConstants.{SILENCE_MS}
use Rattle.rx_call.specs.Kept.{call_under}
use Rattle.rx_call.specs.Standing.{EndOfCall}
use Rattle.rx_table.specs.Records.{ConnRecord, IsLongestIdle, Records, is_idle, record_at, seat_at}
use Rattle.rx_table.specs.declared.seat.Seat.{Seat}
use Rattle.rx_table.specs.declared.seat.TheConstants.{CHANNELS}
use Rattle.rx_node.specs.Mirrors.{IsKey}
use Rattle.rx_node.specs.Due.{owed_at}
use Rattle.rx_node.specs.Moments.{IsRankOf, OthersSame, PlacesSame, SameChannel, active_end, end_while_active}
use Rattle.rx_node.specs.Moments.{owed_on, proved_at}
use Rattle.rx_node.specs.Node.{KeepsNode, NodeState}
use Rattle.rx_node.specs.declared.item.Item.{Item}
use Rattle.rx_node.proofs.KeptKeys.{kept_key}
use Rattle.rx_node.proofs.Steps.MomentSteps.{silence_idle}
use Rattle.rx_node.proofs.Steps.TableSteps.{decided}
use Rattle.rx_books.specs.Books.{BooksState, IsBooked, IsNoted, KeepsKeys, KeepsPlaces}
use Rattle.rx_table.proofs.Noted.{none_made}

-- a channel that stays what it was has the moments that it had
pub carried : (n z : NodeState) (b d : BooksState) (q : ℕ) → SameChannel n z q
    → moment_of d.ranks q ≡ moment_of b.ranks q → moment_of d.silences q ≡ moment_of b.silences q
    → IsNoted n b q → IsNoted z d q
carried n z b d q same ranks silences was =
    record {
      rank = subst (λ (r : Option ℕ). IsRankOf (owed_on z q) (active_end z q) r) (sym ranks)
          (subst (λ (e : Option EndOfCall). IsRankOf (owed_on z q) e (moment_of b.ranks q)) (sym same.end)
          (subst (λ (o : Option Item). IsRankOf o (active_end n q) (moment_of b.ranks q)) (sym same.owed) was.rank));
      silence = silences ∙ was.silence ∙ sym (ap (option_map (λ c. c.heard + SILENCE_MS)) same.end);
    }

module _ (n z : NodeState) (b : BooksState) (booked : IsBooked n b) (limits : z.limits ≡ n.limits) where
  rooms : CHANNELS * n.limits.conns ≡ CHANNELS * z.limits.conns
  rooms = ap (λ (l : Limits). CHANNELS * l.conns) (sym limits)

  -- where no channel changed
  pub rebooked_same : ((q : ℕ) → SameChannel n z q) → IsBooked z b
  rebooked_same same =
      record {
        ranks = booked.ranks ∙ rooms;
        silences = booked.silences ∙ rooms;
        each = λ q. carried n z b b q (same q) refl refl (booked.each q);
      }

  -- where none but one may have changed, and that one didn't
  pub rebooked_still : (key : ℕ) → OthersSame n z key → SameChannel n z key → IsBooked z b
  rebooked_still key others same =
      rebooked_same (λ q. decided (SameChannel n z q) q key
      (λ at. subst (λ (k : ℕ). SameChannel n z k) (sym at) same) (others q))

  module _ (d : BooksState) where
    -- where one channel did
    pub rebooked : (key : ℕ) → OthersSame n z key → IsNoted z d key → KeepsKeys b d key → IsBooked z d
    rebooked key others noted keeps =
        record {
          ranks = keeps.ranks ∙ booked.ranks ∙ rooms;
          silences = keeps.silences ∙ booked.silences ∙ rooms;
          each = λ q. decided (IsNoted z d q) q key
              (λ same. subst (λ (k : ℕ). IsNoted z d k) (sym same) noted)
              (λ apart. carried n z b d q (others q apart) (keeps.rank q apart) (keeps.silence q apart)
              (booked.each q));
        }

    -- where those of one place did
    pub rebooked_place : (place : ℕ) → PlacesSame n z place → ((q : ℕ) → q / CHANNELS ≡ place → IsNoted z d q)
        → KeepsPlaces b d place → IsBooked z d
    rebooked_place place others noted keeps =
        record {
          ranks = keeps.ranks ∙ booked.ranks ∙ rooms;
          silences = keeps.silences ∙ booked.silences ∙ rooms;
          each = λ q. decided (IsNoted z d q) (q / 4) place
              (λ same. noted q same)
              (λ apart. carried n z b d q (others q apart) (keeps.rank q apart) (keeps.silence q apart)
              (booked.each q));
        }

-- a key of which both books have what they had
pub noted_still : (n : NodeState) (b d : BooksState) (q : ℕ) → moment_of d.ranks q ≡ moment_of b.ranks q
    → moment_of d.silences q ≡ moment_of b.silences q → IsNoted n b q → IsNoted n d q
noted_still n b d q ranks silences was =
    carried n n b d q (record { owed = refl; end = refl }) ranks silences was

-- ---- places

-- a place that is idle is one
pub idle_low : (t : Records) (now place : ℕ) → IsLongestIdle now t place → place < length t.conns
idle_low t now place idle = of (record_at t place) refl idle.idle
  where
    of : (o : Option ConnRecord) → record_at t place ≡ o
        → option_and_then (λ r. if is_idle now r then Some r.last_use else None) o ≡ Some idle.since
        → place < length t.conns
    of None there is = absurd (cc (is))
    of (Some r) there is = slice_get_within t.conns place r there

-- a node with the same connections has the same places
pub place_kept : (old new : NodeState) (place : ℕ) → KeepsNode old new → place < length old.table.conns
    → place < length new.table.conns
place_kept old new place kept low =
    (let four : (4 * place) / 4 ≡ place = omega arith in
    let its : IsKey new (4 * place) = kept_key old new (4 * place) kept (omega (arith, four, low)) in
    omega (arith, four, its))

-- ---- an empty node

empty-at : (cs : List ConnRecord) (k : ℕ) → length cs ≡ 0 → slice_get cs k ≡ None
empty-at [] k is = refl
empty-at (c ∷ cs) k is = absurd (omega (arith, is))

made-length : {X : Type 0} (x : X) (k : ℕ) → length (replicate k x) ≡ k
made-length x zero = refl
made-length x (suc k) = ap (λ (m : ℕ). suc m) (made-length x k)

-- empty books are those of a node without connections
pub booked_first : (n : NodeState) (b : BooksState) (keys : ℕ) → length n.table.conns ≡ 0
    → b.ranks ≡ replicate keys None → b.silences ≡ replicate keys None → keys ≡ CHANNELS * n.limits.conns → IsBooked n b
booked_first n b keys empty ranks silences room =
    record {
      ranks = ap (λ (r : List (Option ℕ)). length r) ranks ∙ made-length None keys ∙ room;
      silences = ap (λ (r : List (Option ℕ)). length r) silences ∙ made-length None keys ∙ room;
      each = λ key. (
          let seat : seat_at n.table key ≡ None =
          ap (λ (o : Option ConnRecord). option_and_then (λ r. slice_get r.seats (key % 4)) o)
          (empty-at n.table.conns (key / 4) empty) in
          let owed : owed_on n key ≡ None =
          ap (λ (o : Option Seat). option_and_then (λ s. owed_at s (proved_at n (key / 4))) o) seat in
          let end : active_end n key ≡ None =
          ap (λ (o : Option Seat). option_and_then
          (λ e. end_while_active (slice_get n.lives key) (call_under n.ends.calls e))
          (option_and_then (λ s. s.live) o)) seat in
          record {
            rank = subst (λ (o : Option Item). IsRankOf o (active_end n key) (moment_of b.ranks key)) (sym owed)
                (subst (λ (e : Option EndOfCall). IsRankOf None e (moment_of b.ranks key)) (sym end)
                (ap (λ (r : List (Option ℕ)). moment_of r key) ranks ∙ none_made keys key));
            silence = ap (λ (r : List (Option ℕ)). moment_of r key) silences ∙ none_made keys key
                ∙ sym (silence_idle n key end);
          });
    }

-- ---- stray aborts

-- they are in no book
pub booked_strays : (n z : NodeState) (strays : List Stray) (b : BooksState) → z ≡ record n { strays = strays }
    → IsBooked n b → IsBooked z b
booked_strays n z strays b is booked =
    subst (λ (y : NodeState). IsBooked y b) (sym is)
    (rebooked_same n (record n { strays = strays }) b booked refl (λ q. record { owed = refl; end = refl }))
