-- Which channels stay what they were, where a node changes.
use Rattle.std.proofs.Common.{◌≡◌, ◌++◌, ◌/◌, ◌%◌, ℕ, zero, suc, false, List, [], ◌∷◌, length, set, Option, Some, None}
use Rattle.std.proofs.Common.{option_map, refl, ◌∙◌, ap, sym, subst}
use Rattle.std.specs.Prelude.{◌≢◌, is_some, option_and_then, slice_get, true, unwrap_or}
use Rattle.std.proofs.lemmas.Bool.{false≢true}
use Rattle.rx_rules.specs.Life.{is_active}
use Rattle.rx_call.specs.Kept.{call_under}
use Rattle.rx_call.specs.Standing.{EndOfCall}
use Rattle.rx_call_ends.specs.Ends.{EndsState, KeepsEnds}
use Rattle.rx_table.specs.declared.seat.Seat.{Seat}
use Rattle.rx_table.specs.Records.{ConnRecord, Records, on_place, record_at, seat_at, with_seat}
use Rattle.rx_node.specs.Due.{owed_at}
use Rattle.rx_node.specs.Moments.{OthersSame, PlacesSame, SameChannel, active_end, end_while_active, proved_at}
use Rattle.rx_node.specs.Lives.{life_of}
use Rattle.rx_node.specs.Node.{IsSeated, NodeState}
use Rattle.rx_node.specs.declared.life.Life.{Life}
use Rattle.rx_node.specs.declared.link.Link.{Link}
use Rattle.rx_node.proofs.Steps.ConnSteps.{seats-same}
use Rattle.rx_node.proofs.Steps.MomentSteps.{end_free, end_inactive}
use Rattle.rx_node.proofs.Steps.TableSteps.{decided, record_changed, record_stays, seat_changed, seat_stays, seated}
use Rattle.rx_node.proofs.Steps.TableSteps.{set-other}
use Rattle.rx_node.proofs.Steps.TableSteps.{set-own}

-- ---- in general

-- a node is the same as it was
pub same_itself : (n : NodeState) (q : ℕ) → SameChannel n n q
same_itself n q = record { owed = refl; end = refl }

-- one step behind another
pub same_then : (a b c : NodeState) (q : ℕ) → SameChannel a b q → SameChannel b c q → SameChannel a c q
same_then a b c q x y = record { owed = y.owed ∙ x.owed; end = y.end ∙ x.end }

module _ (n z : NodeState) (q : ℕ) (seat : seat_at z.table q ≡ seat_at n.table q)
    (proved : proved_at z (q / 4) ≡ proved_at n (q / 4)) (life : slice_get z.lives q ≡ slice_get n.lives q)
    (call : (s : Seat) (end : ℕ) → seat_at n.table q ≡ Some s → s.live ≡ Some end
    → call_under z.ends.calls end ≡ call_under n.ends.calls end) where
  ends-same : (o : Option Seat) → seat_at n.table q ≡ o
      → option_and_then (λ end. end_while_active (slice_get z.lives q) (call_under z.ends.calls end))
      (option_and_then (λ s. s.live) o)
      ≡ option_and_then (λ end. end_while_active (slice_get n.lives q) (call_under n.ends.calls end))
      (option_and_then (λ s. s.live) o)
  ends-same None is = refl
  ends-same (Some s) is = of s.live refl
    where
      of : (live : Option ℕ) → s.live ≡ live
          → option_and_then (λ end. end_while_active (slice_get z.lives q) (call_under z.ends.calls end)) live
          ≡ option_and_then (λ end. end_while_active (slice_get n.lives q) (call_under n.ends.calls end)) live
      of None names = refl
      of (Some end) names = λ i. end_while_active (life i) (call s end is names i)

  -- a channel has its seat, its client's proof, the life and the end of its call still
  pub same_parts : SameChannel n z q
  same_parts =
      record {
        owed = λ i. option_and_then (λ s. owed_at s (proved i)) (seat i);
        end = ap (λ (o : Option Seat). option_and_then
            (λ end. end_while_active (slice_get z.lives q) (call_under z.ends.calls end))
            (option_and_then (λ s. s.live) o)) seat
            ∙ ends-same (seat_at n.table q) refl;
      }

-- ---- a table changes

-- whether a client is proved, where records keep that
proved-kept : (t : Records) (place : ℕ) (f : ConnRecord → ConnRecord) (q : ℕ)
    → ((r : ConnRecord) → (f r).proved ≡ r.proved)
    → unwrap_or (option_map (λ r. r.proved) (record_at (on_place place f t) q)) false
    ≡ unwrap_or (option_map (λ r. r.proved) (record_at t q)) false
proved-kept t place f q keeps =
    decided (unwrap_or (option_map (λ r. r.proved) (record_at (on_place place f t) q)) false
    ≡ unwrap_or (option_map (λ r. r.proved) (record_at t q)) false) place q here aside
  where
    mapped : (o : Option ConnRecord) → unwrap_or (option_map (λ r. r.proved) (option_map f o)) false
        ≡ unwrap_or (option_map (λ r. r.proved) o) false
    mapped None = refl
    mapped (Some r) = keeps r

    here : place ≡ q → unwrap_or (option_map (λ r. r.proved) (record_at (on_place place f t) q)) false
        ≡ unwrap_or (option_map (λ r. r.proved) (record_at t q)) false
    here same =
        subst (λ (p : ℕ). unwrap_or (option_map (λ r. r.proved) (record_at (on_place place f t) p)) false
        ≡ unwrap_or (option_map (λ r. r.proved) (record_at t p)) false) same
        (ap (λ (o : Option ConnRecord). unwrap_or (option_map (λ r. r.proved) o) false) (record_changed t place f)
        ∙ mapped (record_at t place))

    aside : (place ≡ q → ⊥) → unwrap_or (option_map (λ r. r.proved) (record_at (on_place place f t) q)) false
        ≡ unwrap_or (option_map (λ r. r.proved) (record_at t q)) false
    aside apart =
        ap (λ (o : Option ConnRecord). unwrap_or (option_map (λ r. r.proved) o) false) (record_stays t place q f apart)

module _ (n : NodeState) where
  -- one seat: every other channel
  pub same_with_seat : (key : ℕ) (s : Seat) (q : ℕ) → q ≢ key
      → SameChannel n (record n { table = with_seat n.table key s }) q
  same_with_seat key s q apart =
      same_parts n (record n { table = with_seat n.table key s }) q
      (seat_stays n.table key q s (λ same. apart (sym same)))
      (proved-kept n.table (key / 4) (seated (key % 4) s) (q / 4) (λ r. refl)) refl (λ s end there names. refl)

  -- a record but for its seats and its client's proof: each channel
  pub same_on_place : (place : ℕ) (f : ConnRecord → ConnRecord) → ((r : ConnRecord) → (f r).proved ≡ r.proved)
      → ((r : ConnRecord) → (f r).seats ≡ r.seats) → (q : ℕ)
      → SameChannel n (record n { table = on_place place f n.table }) q
  same_on_place place f proved seats q =
      same_parts n (record n { table = on_place place f n.table }) q (seats-same n.table place f seats q)
      (proved-kept n.table place f (q / 4) proved) refl (λ s end there names. refl)

  -- any record: each channel of another place
  pub same_aside : (place : ℕ) (f : ConnRecord → ConnRecord) (links : List Link) (q : ℕ) → q / 4 ≢ place
      → SameChannel n (record n { table = on_place place f n.table; links = links }) q
  same_aside place f links q apart =
      let stays = record_stays n.table place (q / 4) f (λ same. apart (sym same)) in
      same_parts n (record n { table = on_place place f n.table; links = links }) q
      (ap (λ (o : Option ConnRecord). option_and_then (λ r. slice_get r.seats (q % 4)) o) stays)
      (ap (λ (o : Option ConnRecord). unwrap_or (option_map (λ r. r.proved) o) false) stays) refl
      (λ s end there names. refl)

-- ---- a record more

behind : {X : Type 0} (xs : List X) (x : X) (n : ℕ) → (n ≡ length xs → ⊥)
    → slice_get (xs ++ x ∷ []) n ≡ slice_get xs n
behind [] x zero apart = absurd (apart refl)
behind [] x (suc n) apart = refl
behind (y ∷ xs) x zero apart = refl
behind (y ∷ xs) x (suc n) apart = behind xs x n (λ same. apart (ap (λ (k : ℕ). suc k) same))

-- each channel of another place than the new one
pub same_entered : (n : NodeState) (r : ConnRecord) (links : List Link) (q : ℕ) → q / 4 ≢ length n.table.conns
    → SameChannel n (record n { table = record n.table { conns = n.table.conns ++ r ∷ [] }; links = links }) q
same_entered n r links q apart =
    let stays = behind n.table.conns r (q / 4) apart in
    same_parts n (record n { table = record n.table { conns = n.table.conns ++ r ∷ [] }; links = links }) q
    (ap (λ (o : Option ConnRecord). option_and_then (λ r. slice_get r.seats (q % 4)) o) stays)
    (ap (λ (o : Option ConnRecord). unwrap_or (option_map (λ r. r.proved) o) false) stays) refl
    (λ s end there names. refl)

-- ---- a call changes

module _ (n : NodeState) (seats : IsSeated n) (key end : ℕ) (seat : Seat)
    (there : seat_at n.table key ≡ Some seat) (names : seat.live ≡ Some end) where
  -- no other channel's seat names its end
  other-end : (q : ℕ) → q ≢ key → (s : Seat) (e : ℕ) → seat_at n.table q ≡ Some s → s.live ≡ Some e → e ≢ end
  other-end q apart s e is its same =
      apart (seats.apart q key s seat end is there (its ∙ ap (λ (j : ℕ). Some j) same) names)

  -- its end alone
  pub same_with_ends : (e : EndsState) → KeepsEnds n.ends e end → (q : ℕ) → q ≢ key
      → SameChannel n (record n { ends = e }) q
  same_with_ends e keeps q apart =
      same_parts n (record n { ends = e }) q refl refl refl
      (λ s f is its. keeps.others.others f (other-end q apart s f is its))

  -- nothing at all, where that is the end that it was
  pub same_with_end : (e : EndsState) → call_under e.calls end ≡ call_under n.ends.calls end
      → SameChannel n (record n { ends = e }) key
  same_with_end e same =
      same_parts n (record n { ends = e }) key refl refl refl
      (λ s f is its. subst (λ (j : ℕ). call_under e.calls j ≡ call_under n.ends.calls j)
      (cc (there, is, names, its)) same)

  -- its life
  pub same_with_life : (code : Life) (q : ℕ) → q ≢ key → SameChannel n (record n { lives = set n.lives key code }) q
  same_with_life code q apart =
      same_parts n (record n { lives = set n.lives key code }) q refl refl
      (set-other n.lives key q code (λ same. apart (sym same))) (λ s f is its. refl)

  module _ (code : Life) (e : EndsState) (keeps : KeepsEnds n.ends e end) where
    -- its life, and its end
    pub same_cleared : (q : ℕ) → q ≢ key → SameChannel n (record n { ends = e; lives = set n.lives key code }) q
    same_cleared q apart =
        same_parts n (record n { ends = e; lives = set n.lives key code }) q refl refl
        (set-other n.lives key q code (λ same. apart (sym same)))
        (λ s f is its. keeps.others.others f (other-end q apart s f is its))

    -- its seat too
    pub same_over : (f : EndsState) → KeepsEnds e f end → (after : Seat) (live : ℕ) (q : ℕ) → q ≢ key
        → SameChannel n
        (record n { table = with_seat n.table key after; ends = f; lives = set n.lives key code; live = live }) q
    same_over f left after live q apart =
        same_parts n
        (record n { table = with_seat n.table key after; ends = f; lives = set n.lives key code; live = live }) q
        (seat_stays n.table key q after (λ same. apart (sym same)))
        (proved-kept n.table (key / 4) (seated (key % 4) after) (q / 4) (λ r. refl))
        (set-other n.lives key q code (λ same. apart (sym same)))
        (λ s h is its. (
        let aside = other-end q apart s h is its in left.others.others h aside ∙ keeps.others.others h aside))

module _ (n : NodeState) (seats : IsSeated n) (key end : ℕ) (seat : Seat)
    (there : seat_at n.table key ≡ Some seat) (names : seat.live ≡ Some end) (code : Life) where
  -- where its life isn't active, the channel has no active call
  pub idle_cleared : (before : Life) → slice_get n.lives key ≡ Some before → is_active (life_of code) ≡ false
      → (e : EndsState) → active_end (record n { ends = e; lives = set n.lives key code }) key ≡ None
  idle_cleared before had idle e =
      end_inactive (record n { ends = e; lives = set n.lives key code }) key seat there end code names
      (set-own n.lives key before code had) idle

  -- nor where its seat names no end
  pub idle_over : (f : EndsState) (after : Seat) (live : ℕ) → after.live ≡ None
      → active_end
      (record n { table = with_seat n.table key after; ends = f; lives = set n.lives key code; live = live }) key
      ≡ None
  idle_over f after live free =
      end_free (record n { table = with_seat n.table key after; ends = f; lives = set n.lives key code; live = live })
      key after (seat_changed n.table key seat after there) free

-- ---- a call starts

none-there : (o : Option EndOfCall) → o ≡ None → is_some o ≡ true → ⊥
none-there None is there = false≢true there
none-there (Some c) is there = cc (is)

module _ (n : NodeState) (seats : IsSeated n) (key end : ℕ) (code : Life) (e : EndsState)
    (absent : call_under n.ends.calls end ≡ None) (keeps : KeepsEnds n.ends e end) (after : Seat) (live : ℕ) where
  -- an end that wasn't there is no other channel's
  pub same_opened : (q : ℕ) → q ≢ key
      → SameChannel n
      (record n { table = with_seat n.table key after; ends = e; lives = set n.lives key code; live = live }) q
  same_opened q apart =
      same_parts n (record n
      { table = with_seat n.table key after; ends = e; lives = set n.lives key code; live = live })
      q (seat_stays n.table key q after (λ same. apart (sym same)))
      (proved-kept n.table (key / 4) (seated (key % 4) after) (q / 4) (λ r. refl))
      (set-other n.lives key q code (λ same. apart (sym same)))
      (λ s f is its. keeps.others.others f
      (λ same. none-there (call_under n.ends.calls end) absent
      (ap (λ (j : ℕ). is_some (call_under n.ends.calls j)) (sym same) ∙ seats.there q s f is its)))

-- ---- one place

-- where all channels but one stay, those of other places do
pub places_same : (a b : NodeState) (key : ℕ) → OthersSame a b key → PlacesSame a b (key / 4)
places_same a b key others q apart = others q (λ same. apart (ap (λ (k : ℕ). k / 4) same))

-- one change of a channel behind another
pub others_then : (a b c : NodeState) (key : ℕ) → OthersSame a b key → OthersSame b c key → OthersSame a c key
others_then a b c key x y q apart = same_then a b c q (x q apart) (y q apart)
