-- The records of a table and its seats, where one of them changes.
use Rattle.std.proofs.Common.{◌≡◌, ◌<◌, ◌/◌, ◌%◌, ℕ, zero, suc, List, [], ◌∷◌, length, set}
use Rattle.std.proofs.Common.{Option, Some, None, option_map, refl, ◌∙◌, ap, sym, subst, arith}
use Rattle.std.specs.Prelude.{◌==◌, option_and_then, slice_get, true, false}
use Rattle.std.proofs.lemmas.Bool.{false≢true}
use Rattle.std.proofs.lemmas.List.{length-set}
use Rattle.rx_model.proofs.NameLaws.{number_itself, same_number}
use Rattle.rx_table.specs.declared.seat.Seat.{Seat}
use Rattle.rx_table.specs.Records.{ConnRecord, Records, changed_at, on_place, record_at, seat_at, with_seat}

-- ---- one of a list

pub get_some : {X : Type 0} (xs : List X) (n : ℕ) → n < length xs → (x : X) × (slice_get xs n ≡ Some x)
get_some [] n low = absurd (omega arith)
get_some (x ∷ xs) zero low = (x, refl)
get_some (x ∷ xs) (suc n) low = get_some xs n (omega arith)

pub changed-own : {X : Type 0} (xs : List X) (n : ℕ) (f : X → X)
    → slice_get (changed_at n f xs) n ≡ option_map f (slice_get xs n)
changed-own [] n f = refl
changed-own (x ∷ xs) zero f = refl
changed-own (x ∷ xs) (suc n) f = changed-own xs n f

pub changed-other : {X : Type 0} (xs : List X) (m n : ℕ) (f : X → X) → (m ≡ n → ⊥)
    → slice_get (changed_at m f xs) n ≡ slice_get xs n
changed-other [] m n f other = refl
changed-other (x ∷ xs) zero zero f other = absurd (other refl)
changed-other (x ∷ xs) zero (suc n) f other = refl
changed-other (x ∷ xs) (suc m) zero f other = refl
changed-other (x ∷ xs) (suc m) (suc n) f other = changed-other xs m n f (λ same. other (ap suc same))

pub changed-length : {X : Type 0} (xs : List X) (n : ℕ) (f : X → X) → length (changed_at n f xs) ≡ length xs
changed-length [] n f = refl
changed-length (x ∷ xs) zero f = refl
changed-length (x ∷ xs) (suc n) f = ap (λ (k : ℕ). suc k) (changed-length xs n f)

pub set-own : {X : Type 0} (xs : List X) (n : ℕ) (y x : X) → slice_get xs n ≡ Some y → slice_get (set xs n x) n ≡ Some x
set-own [] n y x there = absurd (cc (there))
set-own (z ∷ xs) zero y x there = refl
set-own (z ∷ xs) (suc n) y x there = set-own xs n y x there

pub set-none : {X : Type 0} (xs : List X) (n : ℕ) (x : X) → slice_get xs n ≡ None → slice_get (set xs n x) n ≡ None
set-none [] n x none = none
set-none (z ∷ xs) zero x none = absurd (cc (none))
set-none (z ∷ xs) (suc n) x none = set-none xs n x none

pub set-other : {X : Type 0} (xs : List X) (m n : ℕ) (x : X) → (m ≡ n → ⊥) → slice_get (set xs m x) n ≡ slice_get xs n
set-other [] m n x other = refl
set-other (z ∷ xs) zero zero x other = absurd (other refl)
set-other (z ∷ xs) zero (suc n) x other = refl
set-other (z ∷ xs) (suc m) zero x other = refl
set-other (z ∷ xs) (suc m) (suc n) x other = set-other xs m n x (λ same. other (ap suc same))

-- two numbers are one, or they aren't
pub decided : (P : Type 0) (a b : ℕ) → (a ≡ b → P) → ((a ≡ b → ⊥) → P) → P
decided P a b same other =
    (elim (a == b) as (λ t. (a == b) ≡ t → P) [
      | true ↦ λ is. same (same_number a b is)
      | false ↦ λ is. other (λ one. false≢true (sym is ∙ subst (λ (n : ℕ). (a == n) ≡ true) one (number_itself a)))
    ]) refl

-- ---- records

-- a record with another seat
abbrev pub seated : ℕ → Seat → ConnRecord → ConnRecord
seated n s r = record r { seats = set r.seats n s }

-- a record at a place changes: any other stays
pub record_changed : (t : Records) (place : ℕ) (f : ConnRecord → ConnRecord)
    → record_at (on_place place f t) place ≡ option_map f (record_at t place)
record_changed t place f = changed-own t.conns place f

pub record_stays : (t : Records) (place q : ℕ) (f : ConnRecord → ConnRecord) → (place ≡ q → ⊥)
    → record_at (on_place place f t) q ≡ record_at t q
record_stays t place q f other = changed-other t.conns place q f other

-- ---- seats

-- two keys with one place and one channel are one
pub key_is : (a b : ℕ) → a / 4 ≡ b / 4 → a % 4 ≡ b % 4 → a ≡ b
key_is a b place chan = omega arith

seat-there : (o : Option ConnRecord) (n : ℕ) (old s : Seat) → option_and_then (λ r. slice_get r.seats n) o ≡ Some old
    → option_and_then (λ r. slice_get r.seats n) (option_map (seated n s) o) ≡ Some s
seat-there None n old s there = absurd (cc (there))
seat-there (Some r) n old s there = set-own r.seats n old s there

-- the seat that changes
pub seat_changed : (t : Records) (key : ℕ) (old s : Seat) → seat_at t key ≡ Some old
    → seat_at (with_seat t key s) key ≡ Some s
seat_changed t key old s there =
    ap (λ (o : Option ConnRecord). option_and_then (λ r. slice_get r.seats (key % 4)) o)
    (record_changed t (key / 4) (seated (key % 4) s))
    ∙ seat-there (record_at t (key / 4)) (key % 4) old s there

seat-aside : (o : Option ConnRecord) (m n : ℕ) (s : Seat) → (m ≡ n → ⊥)
    → option_and_then (λ r. slice_get r.seats n) (option_map (seated m s) o)
    ≡ option_and_then (λ r. slice_get r.seats n) o
seat-aside None m n s other = refl
seat-aside (Some r) m n s other = set-other r.seats m n s other

-- another
pub seat_stays : (t : Records) (key other : ℕ) (s : Seat) → (key ≡ other → ⊥)
    → seat_at (with_seat t key s) other ≡ seat_at t other
seat_stays t key other s apart =
    decided (seat_at (with_seat t key s) other ≡ seat_at t other) (key / 4) (other / 4) beside elsewhere
  where
    beside : key / 4 ≡ other / 4 → seat_at (with_seat t key s) other ≡ seat_at t other
    beside same =
        ap (λ (o : Option ConnRecord). option_and_then (λ r. slice_get r.seats (other % 4)) o)
        (subst (λ (q : ℕ). record_at (with_seat t key s) q
        ≡ option_map (seated (key % 4) s) (record_at t q)) same
        (record_changed t (key / 4) (seated (key % 4) s)))
        ∙ seat-aside (record_at t (other / 4)) (key % 4) (other % 4) s (λ chan. apart (key_is key other same chan))

    elsewhere : (key / 4 ≡ other / 4 → ⊥) → seat_at (with_seat t key s) other ≡ seat_at t other
    elsewhere place =
        ap (λ (o : Option ConnRecord). option_and_then (λ r. slice_get r.seats (other % 4)) o)
        (record_stays t (key / 4) (other / 4) (seated (key % 4) s) place)

-- ---- connections but for their seats

-- two records of one connection, with other seats at most
pub record SameConn (a b : ConnRecord) : Type 0 where
  pub connection : b.connection ≡ a.connection
  pub nonce : b.nonce ≡ a.nonce
  pub serial : b.serial ≡ a.serial
  pub last_use : b.last_use ≡ a.last_use
  pub proved : b.proved ≡ a.proved
  pub seats : length b.seats ≡ length a.seats

-- a record of one table, and that of another at the same place
pub record FromRecord (t : Records) (place : ℕ) (b : ConnRecord) : Type 0 where
  pub before : ConnRecord
  pub there : record_at t place ≡ Some before
  pub same : SameConn before b

-- each record of a table with another seat was there
pub record_seated : (t : Records) (key : ℕ) (s : Seat) (place : ℕ) (b : ConnRecord)
    → record_at (with_seat t key s) place ≡ Some b → FromRecord t place b
record_seated t key s place b there = decided (FromRecord t place b) (key / 4) place own aside
  where
    mapped : (o : Option ConnRecord) → record_at t place ≡ o
        → option_map (seated (key % 4) s) o ≡ Some b → FromRecord t place b
    mapped None is none = absurd (cc (none))
    mapped (Some r) is some =
        let same : seated (key % 4) s r ≡ b = cc (some) in
        record {
          before = r;
          there = is;
          same = record {
            connection = sym (ap (λ (x : ConnRecord). x.connection) same);
            nonce = sym (ap (λ (x : ConnRecord). x.nonce) same);
            serial = sym (ap (λ (x : ConnRecord). x.serial) same);
            last_use = sym (ap (λ (x : ConnRecord). x.last_use) same);
            proved = sym (ap (λ (x : ConnRecord). x.proved) same);
            seats = sym (ap (λ (x : ConnRecord). length x.seats) same) ∙ length-set r.seats (key % 4) s;
          };
        }

    own : key / 4 ≡ place → FromRecord t place b
    own same =
        mapped (record_at t place) refl
        (sym (subst (λ (q : ℕ). record_at (with_seat t key s) q
        ≡ option_map (seated (key % 4) s) (record_at t q)) same
        (record_changed t (key / 4) (seated (key % 4) s))) ∙ there)

    aside : (key / 4 ≡ place → ⊥) → FromRecord t place b
    aside other =
        record {
          before = b;
          there = sym (record_stays t (key / 4) place (seated (key % 4) s) other) ∙ there;
          same = record {
            connection = refl;
            nonce = refl;
            serial = refl;
            last_use = refl;
            proved =
                refl;
            seats = refl;
          };
        }
