-- The uses of a table's connections, as connections come, change and are looked through.
use Rattle.std.proofs.Common.{◌≡◌, ◌+◌, ◌-◌, ◌*◌, ◌<◌, ◌≤◌, ◌&&◌, ◌++◌, ℕ, zero, suc, Bool, true, false, cond, not}
use Rattle.std.proofs.Common.{nat_le}
use Rattle.std.proofs.Common.{List, [], ◌∷◌, length, take, drop, set, get_or, Option, Some, None, refl}
use Rattle.std.proofs.Common.{ap, sym, ◌∙◌, arith, subst, slice_get, option_and_then, inl, inr, ◌⊎◌}
use Rattle.std.specs.Prelude.{count_by, is_some, slice_set}
use Rattle.std.specs.List.{list_any}
use Rattle.std.specs.Option.{option_map}
use Rattle.std.proofs.lemmas.Bool.{cases_eq}
use Rattle.std.proofs.lemmas.Bool.Decides.{nat_tests}
use Rattle.std.proofs.lemmas.List.Sums.{sum_by-cons}
use Rattle.std.proofs.lemmas.Option.{none-some, same_Some, slice_get_read, slice_get_within}
use Rattle.rx_due.specs.Book.{IsNotAfter, moment_of}
use Rattle.rx_model.specs.declared.wire.TheConstants.{IDLE_MS}
use Rattle.rx_table.specs.declared.conn.Conn.{Conn}
use Rattle.rx_table.specs.declared.seat.Seat.{Seat}
use Rattle.rx_table.specs.Layout.{joined, record_of}
use Rattle.rx_table.specs.Records.{ConnRecord, IsLongestIdle, Records, held_count, idle_since, is_held, is_idle}
use Rattle.rx_table.specs.Uses.{AreSeated, AreUses, IsFirstFree, IsFreeAt, NoneIsFree, has_call, held_among, is_held_at}
use Rattle.rx_table.specs.Uses.{use_at}
use Rattle.rx_table.proofs.JoinedLaws.{seats_of, slice_get-joined}
use Rattle.rx_table.proofs.Noted.{few_entries, set_length}

-- ---- changes

each-set : (book : List (Option ℕ)) (cs : List Conn) (i : ℕ) (c : Conn) → i < length cs
    → ((p : ℕ) → moment_of book p ≡ use_at cs p)
    → (p : ℕ) → moment_of (slice_set book i (Some c.last_use)) p ≡ use_at (set cs i c) p
each-set book [] i c within each p = absurd (omega (arith, within))
each-set [] (b ∷ cs) i c within each p = absurd (none-some b.last_use (each zero))
each-set (m ∷ ms) (b ∷ cs) zero c within each zero = refl
each-set (m ∷ ms) (b ∷ cs) zero c within each (suc p) = each (suc p)
each-set (m ∷ ms) (b ∷ cs) (suc i) c within each zero = each zero
each-set (m ∷ ms) (b ∷ cs) (suc i) c within each (suc p) =
    each-set ms cs i c (omega (arith, within)) (λ q. each (suc q)) p

-- a connection is used, or another comes to its place
pub uses_set : (book : List (Option ℕ)) (cs : List Conn) (room i : ℕ) (c : Conn) → i < length cs → AreUses book cs room
    → AreUses (slice_set book i (Some c.last_use)) (set cs i c) room
uses_set book cs room i c within uses =
    record {
      places = set_length book i (Some c.last_use) ∙ uses.places;
      each = each-set book cs i c within uses.each;
    }

each-push : (book : List (Option ℕ)) (cs : List Conn) (c : Conn) → length cs < length book
    → ((p : ℕ) → moment_of book p ≡ use_at cs p)
    → (p : ℕ) → moment_of (slice_set book (length cs) (Some c.last_use)) p ≡ use_at (cs ++ c ∷ []) p
each-push [] cs c within each p = absurd (omega (arith, within))
each-push (m ∷ ms) [] c within each zero = refl
each-push (m ∷ ms) [] c within each (suc p) = each (suc p)
each-push (m ∷ ms) (b ∷ cs) c within each zero = each zero
each-push (m ∷ ms) (b ∷ cs) c within each (suc p) =
    each-push ms cs c (omega (arith, within)) (λ q. each (suc q)) p

-- a connection comes to the next place
pub uses_push : (book : List (Option ℕ)) (cs : List Conn) (room : ℕ) (c : Conn) → length cs < room
    → AreUses book cs room
    → AreUses (slice_set book (length cs) (Some c.last_use)) (cs ++ c ∷ []) room
uses_push book cs room c within uses =
    record {
      places = set_length book (length cs) (Some c.last_use) ∙ uses.places;
      each = each-push book cs c (omega (arith, within, uses.places)) uses.each;
    }

-- ---- what a book has

-- the last use of the connection at a place
pub use_is : (book : List (Option ℕ)) (cs : List Conn) (room i : ℕ) (c : Conn) → AreUses book cs room → i < length cs
    → c ≡ get_or cs i c → moment_of book i ≡ Some c.last_use
use_is book cs room i c uses within read =
    uses.each i ∙ ap (option_map (λ b. b.last_use)) (slice_get_read cs (length cs) i c refl within read)

-- a connection that keeps its last use leaves the uses
pub uses_kept : (book : List (Option ℕ)) (cs : List Conn) (room i : ℕ) (c new : Conn) → i < length cs
    → c ≡ get_or cs i c → new.last_use ≡ c.last_use → AreUses book cs room → AreUses book (set cs i new) room
uses_kept book cs room i c new within read same uses =
    record {
      places = uses.places;
      each = λ p. each book cs i within (use_is book cs room i c uses within read)
          uses.each p;
    }
  where
    each : (bs : List (Option ℕ)) (ds : List Conn) (k : ℕ) → k < length ds → moment_of bs k ≡ Some c.last_use
        → ((p : ℕ) → moment_of bs p ≡ use_at ds p) → (p : ℕ) → moment_of bs p ≡ use_at (set ds k new) p
    each bs [] k low here all p = absurd (omega (arith, low))
    each [] (d ∷ ds) k low here all p = absurd (none-some d.last_use (all zero))
    each (m ∷ ms) (d ∷ ds) zero low here all zero = here ∙ ap (λ (u : ℕ). Some u) (sym same)
    each (m ∷ ms) (d ∷ ds) zero low here all (suc p) = all (suc p)
    each (m ∷ ms) (d ∷ ds) (suc k) low here all zero = all zero
    each (m ∷ ms) (d ∷ ds) (suc k) low here all (suc p) =
        each ms ds k (omega (arith, low)) here (λ q. all (suc q)) p

-- what has a last use is there
use_within : (cs : List Conn) (place u : ℕ) → use_at cs place ≡ Some u → place < length cs
use_within cs place u is = of (slice_get cs place) refl is
  where
    of : (o : Option Conn) → slice_get cs place ≡ o → option_map (λ c. c.last_use) o ≡ Some u → place < length cs
    of None at none = absurd (none-some u none)
    of (Some c) at some = slice_get_within cs place c at

-- each place has its seats
pub uses_seated : (book : List (Option ℕ)) (cs : List Conn) (room : ℕ) (ss seen : List Seat) → AreUses book cs room
    → length ss ≡ 4 * length cs → seen ≡ ss → AreSeated book seen
uses_seated book cs room ss seen uses seated all =
    λ place u is. (
    let within = use_within cs place u (sym (uses.each place) ∙ is) in
    let long = ap (λ (us : List Seat). length us) all in
    omega (arith, within, seated, long))

-- as many entries as connections
pub uses_entries : (book : List (Option ℕ)) (cs : List Conn) (room : ℕ) → AreUses book cs room
    → count_by is_some book ≤ length cs
uses_entries book cs room uses = few_entries book (length cs)
    (λ place high. past place high (moment_of book place) refl)
  where
    past : (place : ℕ) → length cs ≤ place → (o : Option ℕ) → moment_of book place ≡ o → moment_of book place ≡ None
    past place high None none = none
    past place high (Some u) some =
        absurd (let within = use_within cs place u (sym (uses.each place) ∙ some) in omega (arith, within, high))

-- ---- idle connections

module _ (cs : List Conn) (ss : List Seat) (room now : ℕ) (book : List (Option ℕ)) (uses : AreUses book cs room)
    (t : Records) (is : record { room = room; conns = joined cs ss } ≡ t) where
  abbrev idle_by : ℕ → Option Conn → Option ℕ
  idle_by place o =
      option_and_then (λ (r : ConnRecord). cond (is_idle now r) (Some r.last_use) None)
      (option_map (λ c. record_of c (seats_of ss place)) o)

  idle_at : (place : ℕ) → idle_since now t place ≡ idle_by place (slice_get cs place)
  idle_at place =
      ap (λ (r : Records). idle_since now r place) (sym is)
      ∙ ap (option_and_then (λ (r : ConnRecord). cond (is_idle now r) (Some r.last_use) None))
      (slice_get-joined cs ss place)

  -- a place that is free is idle
  pub free_idle : (place u : ℕ) → moment_of book place ≡ Some u → IsFreeAt ss now place u
      → idle_since now t place ≡ Some u
  free_idle place u there free = idle_at place ∙ of (slice_get cs place) (sym (uses.each place) ∙ there)
    where
      of : (o : Option Conn) → option_map (λ c. c.last_use) o ≡ Some u → idle_by place o ≡ Some u
      of None none = absurd (none-some u none)
      of (Some c) some =
          let last : c.last_use ≡ u = same_Some _ _ some in
          let long : nat_le IDLE_MS (now - c.last_use) ≡ true =
          ap (λ (v : ℕ). nat_le IDLE_MS (now - v)) last ∙ (let low = free.long in grind (arith, nat_tests)) in
          ap (λ (b : Bool). cond (not b && nat_le IDLE_MS (now - c.last_use)) (Some c.last_use) None) free.free
          ∙ ap (λ (b : Bool). cond b (Some c.last_use) None) long ∙ some

  idle_parts : (held long : Bool) (last u : ℕ) → cond (not held && long) (Some last) None ≡ Some u
      → (held ≡ false) × (long ≡ true) × (last ≡ u)
  idle_parts true long last u some = absurd (none-some u some)
  idle_parts false false last u some = absurd (none-some u some)
  idle_parts false true last u some = (refl, refl, same_Some _ _ some)

  -- and what is idle is free
  pub idle_free : (place u : ℕ) → idle_since now t place ≡ Some u
      → (moment_of book place ≡ Some u) × IsFreeAt ss now place u
  idle_free place u idle = of (slice_get cs place) refl (sym (idle_at place) ∙ idle)
    where
      of : (o : Option Conn) → slice_get cs place ≡ o → idle_by place o ≡ Some u
          → (moment_of book place ≡ Some u) × IsFreeAt ss now place u
      of None at none = absurd (none-some u none)
      of (Some c) at some =
          let parts = idle_parts (has_call ss place) (nat_le IDLE_MS (now - c.last_use)) c.last_use u some in
          let long : nat_le IDLE_MS (now - u) ≡ true =
          ap (λ (v : ℕ). nat_le IDLE_MS (now - v)) (sym parts.2) ∙ parts.1 in (
            uses.each place ∙ ap (option_map (λ b. b.last_use)) at ∙ ap (λ (v : ℕ). Some v) parts.2,
            record { long = grind (arith, nat_tests); free = parts.0 },
          )

  -- the first that is free is idle the longest
  pub first_longest : (place : ℕ) → IsFirstFree book ss now place → IsLongestIdle now t place
  first_longest place first =
      record {
        since = first.since;
        idle = free_idle place first.since first.there first.free;
        earliest = λ q u idle. (let its = idle_free q u idle in (first.first q u its.0 its.1).moment);
        lowest = λ q u idle below. (
            let its = idle_free q u idle in
            let order = first.first q u its.0 its.1 in
            before u q order below (cases_eq first.since u));
      }
    where
      before : (u q : ℕ) → IsNotAfter (first.since, place) (u, q) → q < place
          → (first.since ≡ u) ⊎ (first.since ≡ u → ⊥) → first.since < u
      before u q order below (inl same) = absurd (let key = order.key same in omega (arith, key, below))
      before u q order below (inr apart) = let low = order.moment in omega (arith, low, apart)

  -- where none is free, none is idle
  pub none_idle : NoneIsFree book ss now → (place : ℕ) → idle_since now t place ≡ None
  none_idle none place = of (idle_since now t place) refl
    where
      of : (o : Option ℕ) → idle_since now t place ≡ o → idle_since now t place ≡ None
      of None is_none = is_none
      of (Some u) some = absurd (let its = idle_free place u some in none place u its.0 its.1)

-- ---- how many are held

held_none : (now : ℕ) (book : List (Option ℕ)) (ss : List Seat) → ((p : ℕ) → moment_of book p ≡ None)
    → held_among now book ss ≡ 0
held_none now [] ss none = refl
held_none now (None ∷ ms) ss none =
    let rest = held_none now ms (drop 4 ss) (λ q. none (suc q)) in omega (arith, rest)
held_none now (Some u ∷ ms) ss none = absurd (none-some u (sym (none zero)))

held_each : (now : ℕ) (book : List (Option ℕ)) (cs : List Conn) (ss : List Seat)
    → ((p : ℕ) → moment_of book p ≡ use_at cs p) → held_among now book ss ≤ count_by (is_held now) (joined cs ss)
held_each now [] cs ss each = omega arith
held_each now (m ∷ ms) [] ss each =
    let none = held_none now (m ∷ ms) ss each in omega (arith, none)
held_each now (None ∷ ms) (c ∷ cs) ss each = absurd (none-some c.last_use (each zero))
held_each now (Some u ∷ ms) (c ∷ cs) ss each =
    let rest = held_each now ms cs (drop 4 ss) (λ q. each (suc q)) in
    let same : is_held_at now (Some u) (take 4 ss) ≡ is_held now (record_of c (take 4 ss)) =
    ap (λ (v : ℕ). is_held_at now (Some v) (take 4 ss)) (same_Some u c.last_use (each zero)) in
    let here = ap {B = ℕ} (λ (b : Bool). cond b 1 0) same in
    let all : count_by (is_held now) (joined (c ∷ cs) ss)
    ≡ cond (is_held now (record_of c (take 4 ss))) 1 0 + count_by (is_held now) (joined cs (drop 4 ss)) =
    sum_by-cons (λ r. cond (is_held now r) 1 0) (record_of c (take 4 ss)) (joined cs (drop 4 ss)) in
    omega (arith, rest, here, all)

-- no more than the table has
pub held_most : (cs : List Conn) (ss seen : List Seat) (room now : ℕ) (book : List (Option ℕ)) → AreUses book cs room
    → (t : Records) → record { room = room; conns = joined cs ss } ≡ t → seen ≡ ss
    → held_among now book seen ≤ held_count now t
held_most cs ss seen room now book uses t is all =
    subst (λ (r : Records). held_among now book seen ≤ held_count now r) is
    (subst (λ (us : List Seat). held_among now book us ≤ count_by (is_held now) (joined cs ss)) (sym all)
    (held_each now book cs ss uses.each))

-- ---- in the words of the calls

module _ (book new : List (Option ℕ)) (cs new_cs : List Conn) (room place now : ℕ) (c : Conn) where
  -- a connection came to the next place
  pub uses_entered : length cs < room → AreUses book cs room → place ≡ length cs → new ≡ slice_set book place (Some now)
      → new_cs ≡ cs ++ c ∷ [] → c.last_use ≡ now → AreUses new new_cs room
  uses_entered within uses at new_is cs_is last =
      let book_is : slice_set book (length cs) (Some c.last_use) ≡ new =
      ap (λ (n : ℕ). slice_set book n (Some c.last_use)) (sym at)
      ∙ ap (λ (u : ℕ). slice_set book place (Some u)) last ∙ sym new_is in
      subst (λ (b : List (Option ℕ)). AreUses b new_cs room) book_is
      (subst (λ (ds : List Conn). AreUses (slice_set book (length cs) (Some c.last_use)) ds room) (sym cs_is)
      (uses_push book cs room c within uses))

-- a connection was used, or another came to its place
pub uses_changed : (book new : List (Option ℕ)) (cs : List Conn) (room place now : ℕ) (c : Conn) → place < length cs
    → AreUses book cs room → new ≡ slice_set book place (Some now) → c.last_use ≡ now
    → AreUses new (set cs place c) room
uses_changed book new cs room place now c within uses new_is last =
    subst (λ (b : List (Option ℕ)). AreUses b (set cs place c) room)
    (ap (λ (u : ℕ). slice_set book place (Some u)) last ∙ sym new_is) (uses_set book cs room place c within uses)

-- whether a call lives at the seats of a place, as a slice of all
pub call_seen : (ss : List Seat) (place : ℕ)
    → list_any (λ seat. is_some seat.live) (take (place * 4 + 4 - place * 4) (drop (place * 4) ss)) ≡ has_call ss place
call_seen ss place =
    let four : place * 4 + 4 - place * 4 ≡ 4 = omega arith in
    let first : place * 4 ≡ 4 * place = omega arith in
    ap (λ (n : ℕ). list_any (λ seat. is_some seat.live) (take n (drop (place * 4) ss))) four
    ∙ ap (λ (n : ℕ). list_any (λ seat. is_some seat.live) (take 4 (drop n ss))) first
