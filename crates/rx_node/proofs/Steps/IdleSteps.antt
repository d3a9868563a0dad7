-- The connections of a node and the one that may be forgotten, as its table has them.
use Rattle.std.proofs.Common.{◌≡◌, ◌≤◌, ◌<◌, ◌+◌, ◌*◌, ◌/◌, ◌%◌, ◌-◌, ◌&&◌, ◌||◌, ℕ, zero, suc, Bool, true, false, List}
use Rattle.std.proofs.Common.{[], ◌∷◌, length, filter}
use Rattle.std.proofs.Common.{Option, Some, None, option_map, refl, ◌∙◌, ap, sym, subst, arith, if◌then◌else◌}
use Rattle.std.proofs.lemmas.Bool.Decides.{nat_tests}
use Rattle.std.proofs.lemmas.Option.{slice_get-map}
use Rattle.std.specs.Prelude.{not, is_some, nat_le, option_and_then, slice_get}
use Rattle.std.specs.List.{list_any}
use Rattle.rx_model.specs.declared.wire.TheConstants.{IDLE_MS}
use Rattle.rx_model.specs.Names.{Channel, Connection, same_connection}
use Rattle.rx_rules.specs.Classes.{Class}
use Rattle.rx_rules.specs.Least.{least_by, lesser_by}
use Rattle.rx_rules.specs.Life.{is_live}
use Rattle.rx_rules.specs.Looks.{ConnLooks, Looks, conn_at, is_call, latest}
use Rattle.rx_rules.specs.Records.{has_live, idle_conn, is_idle}
use Rattle.rx_model.proofs.NameLaws.{connection_is}
use Rattle.rx_rules.proofs.EveryLaws.{Every}
use Rattle.rx_rules.proofs.FindLaws.{find_passes}
use Rattle.rx_rules.proofs.LeastLaws.{least-keeps}
use Rattle.rx_history.proofs.Differ.{Differ, by_connection}
use Rattle.rx_table.specs.declared.seat.Seat.{Seat}
use Rattle.rx_table.specs.Records as tables
use Rattle.rx_table.specs.Records.{ConnRecord, IsLongestIdle, Records, idle_since, names, place_of, record_at, seat_at}
use Rattle.rx_table.proofs.PlaceLaws.{is_absent, is_there}
use Rattle.rx_node.specs.declared.link.Link.{Link}
use Rattle.rx_node.specs.Mirrors.{ConnStands, IsChannel, Mirrors, channel_in}
use Rattle.rx_node.specs.Node.{NodeState}
use Rattle.rx_node.proofs.CallLoops.{placed_at}
use Rattle.rx_node.proofs.Steps.ChannelSteps.{conn_there}

-- ---- lists of one length

-- what stands in one stands in the other
pub record Beside {X : Type 0} (xs : List X) (i : ℕ) : Type 0 where
  pub one : X
  pub there : slice_get xs i ≡ Some one

pub beside_at : {X Y : Type 0} (xs : List X) (ys : List Y) (i : ℕ) (x : X) → length xs ≡ length ys
    → slice_get xs i ≡ Some x → Beside ys i
beside_at [] ys i x size there = absurd (cc (there))
beside_at (z ∷ xs) [] i x size there = absurd (omega arith)
beside_at (z ∷ xs) (y ∷ ys) zero x size there = record { one = y; there = refl }
beside_at (z ∷ xs) (y ∷ ys) (suc i) x size there =
    (let rest = beside_at xs ys i x (omega arith) there in record { one = rest.one; there = rest.there })

-- ---- a connection and its record

-- the connection of a key's channel is found by its name
pub channel_conn : (l : Looks) (key : ℕ) (ch : Channel) → Differ by_connection l.conns → (at : IsChannel l key ch)
    → conn_at l ch.connection ≡ Some at.conn
channel_conn l key ch differ at =
    ap (λ (y : Connection). conn_at l y) (ap (λ (c : Channel). c.connection) at.is)
    ∙ conn_there l.conns (key / 4) at.conn differ at.there

-- those of a connection at a place
pub record PlaceStands (n : NodeState) (place : ℕ) (conn : ConnLooks) : Type 0 where
  pub rec : ConnRecord
  pub link : Link
  pub rec_there : record_at n.table place ≡ Some rec
  pub link_there : slice_get n.links place ≡ Some link
  pub stands : ConnStands n.kind rec link conn

-- those of one place
pub record PlaceOf (n : NodeState) (l : Looks) (place : ℕ) : Type 0 where
  pub rec : ConnRecord
  pub link : Link
  pub conn : ConnLooks
  pub rec_there : record_at n.table place ≡ Some rec
  pub link_there : slice_get n.links place ≡ Some link
  pub conn_there : slice_get l.conns place ≡ Some conn
  pub stands : ConnStands n.kind rec link conn

module _ (class : List ℕ → Class) (n : NodeState) (l : Looks) (m : Mirrors class n l) where
  pub place_with : (place : ℕ) (rec : ConnRecord) → record_at n.table place ≡ Some rec → PlaceOf n l place
  place_with place rec there =
      let c = beside_at n.table.conns l.conns place rec m.conns.conns there in
      let k = beside_at n.table.conns n.links place rec (m.conns.conns ∙ sym m.conns.links) there in
      record {
        rec = rec;
        link = k.one;
        conn = c.one;
        rec_there = there;
        link_there = k.there;
        conn_there = c.there;
        stands = m.conns.each place rec k.one c.one there k.there c.there;
      }

  pub place_stands : (place : ℕ) (conn : ConnLooks) → slice_get l.conns place ≡ Some conn → PlaceStands n place conn
  place_stands place conn there =
      let r = beside_at l.conns n.table.conns place conn (sym m.conns.conns) there in
      let k = beside_at l.conns n.links place conn (sym m.conns.links) there in
      record {
        rec = r.one;
        link = k.one;
        rec_there = r.there;
        link_there = k.there;
        stands = m.conns.each place r.one k.one conn r.there k.there there;
      }

  pub place_by : (place : ℕ) (conn : ConnLooks) → slice_get l.conns place ≡ Some conn → PlaceOf n l place
  place_by place conn there =
      let p = place_stands place conn there in
      record {
        rec = p.rec;
        link = p.link;
        conn = conn;
        rec_there = p.rec_there;
        link_there = p.link_there;
        conn_there = there;
        stands = p.stands;
      }

  named-at : (x : Connection) (place : ℕ) (o : Option ConnRecord) → record_at n.table place ≡ o
      → option_map (λ r. r.connection) o ≡ Some x
      → (r : ConnRecord) × (record_at n.table place ≡ Some r) × (r.connection ≡ x)
  named-at x place None is none = absurd (cc (none))
  named-at x place (Some r) is some = (r, is, (let same : r.connection ≡ x = cc (some) in same))

  -- the table's place of a connection is that of its look-ups
  pub record Known (x : Connection) (place : ℕ) : Type 0 where
    pub at : PlaceOf n l place
    pub named : at.conn.connection ≡ x
    pub found : conn_at l x ≡ Some at.conn

  pub known_at : (x : Connection) (place : ℕ) → place_of n.table x ≡ Some place → Known x place
  unfolding place_with named-at
  known_at x place is =
      let name : slice_get (names n.table) place ≡ Some x = is_there (names n.table) x place is in
      let r = named-at x place (record_at n.table place) refl
      (sym (slice_get-map (λ r. r.connection) n.table.conns place) ∙ name) in
      let at = place_with place r.0 r.1 in
      let named : at.conn.connection ≡ x = sym at.stands.connection ∙ r.2 in
      record {
        at = at;
        named = named;
        found = ap (λ (y : Connection). conn_at l y) (sym named)
            ∙ conn_there l.conns place at.conn m.orderly.conns.differ at.conn_there;
      }

  -- a connection that the table hasn't isn't known
  pub unknown_at : (x : Connection) → place_of n.table x ≡ None → conn_at l x ≡ None
  unfolding place_by
  unknown_at x none = of (conn_at l x) refl
    where
      of : (o : Option ConnLooks) → conn_at l x ≡ o → o ≡ None
      of None is = refl
      of (Some r) is =
          (let at = placed_at l.conns x r is in
          let p = place_by at.place r at.there in
          let named : r.connection ≡ x =
          connection_is r.connection x (find_passes (λ q. same_connection q.connection x) l.conns r is) in
          absurd (is_absent (names n.table) x none at.place
          (slice_get-map (λ r. r.connection) n.table.conns at.place
          ∙ ap (option_map (λ r. r.connection)) p.rec_there
          ∙ ap (λ (y : Connection). Some y) (p.stands.connection ∙ named))))

  -- ---- idle connections

  -- of a connection with its record, each channel lives as its seat says
  live-by : (place : ℕ) (p : PlaceOf n l place) (chan : ℕ) (seat : Seat) → chan < 4
      → slice_get p.rec.seats chan ≡ Some seat
      → is_some seat.live ≡ is_call (λ k. is_live k.life) (latest l (channel_in p.conn chan))
  live-by place p chan seat low there =
      let at_place : (4 * place + chan) / 4 ≡ place = omega arith in
      let at_chan : (4 * place + chan) % 4 ≡ chan = omega arith in
      let is : seat_at n.table (4 * place + chan) ≡ Some seat =
      (λ i. option_and_then (λ r. slice_get r.seats (at_chan i)) (record_at n.table (at_place i)))
      ∙ ap (λ (o : Option ConnRecord). option_and_then (λ r. slice_get r.seats chan) o) p.rec_there ∙ there in
      (m.channels (4 * place + chan) (channel_in p.conn chan) seat
      (record {
        conn = p.conn;
        there = ap (λ (q : ℕ). slice_get l.conns q) at_place ∙ p.conn_there;
        is = ap (λ (c : ℕ). channel_in p.conn c) (sym at_chan);
      }) is).call.live

  four-live : (place : ℕ) (p : PlaceOf n l place) (seats : List Seat) → p.rec.seats ≡ seats → length seats ≡ 4
      → list_any (λ seat. is_some seat.live) seats ≡ has_live l p.conn.connection
  four-live place p (a ∷ b ∷ c ∷ d ∷ []) is size =
      let one = live-by place p 0 a (omega arith) (ap (λ (ss : List Seat). slice_get ss 0) is) in
      let two = live-by place p 1 b (omega arith) (ap (λ (ss : List Seat). slice_get ss 1) is) in
      let three = live-by place p 2 c (omega arith) (ap (λ (ss : List Seat). slice_get ss 2) is) in
      let four = live-by place p 3 d (omega arith) (ap (λ (ss : List Seat). slice_get ss 3) is) in
      λ i. one i || (two i || (three i || (four i || false)))
  four-live place p [] is size = absurd (cc (size))
  four-live place p (a ∷ []) is size = absurd (omega arith)
  four-live place p (a ∷ b ∷ []) is size = absurd (omega arith)
  four-live place p (a ∷ b ∷ c ∷ []) is size = absurd (omega arith)
  four-live place p (a ∷ b ∷ c ∷ d ∷ e ∷ ss) is size = absurd (omega arith)

  -- a record is idle as the look-ups have it
  pub idle_is : (place : ℕ) (p : PlaceOf n l place) → tables.is_idle n.moment p.rec ≡ is_idle l p.conn
  idle_is place p =
      let live = four-live place p p.rec.seats refl p.stands.seats in
      (λ i. not (live i) && nat_le IDLE_MS (m.now i - p.stands.last_use i))

  -- when it was used last, where it is idle
  pub idle_when : (place : ℕ) (p : PlaceOf n l place)
      → idle_since n.moment n.table place ≡ (if is_idle l p.conn then Some p.conn.last_use else None)
  idle_when place p =
      ap (λ (o : Option ConnRecord). option_and_then
      (λ r. if tables.is_idle n.moment r then Some r.last_use else None) o)
      p.rec_there
      ∙ (λ i. if idle_is place p i then Some (p.stands.last_use i) else None)

-- ---- the idle connection that was used the longest ago

low-every : (rank : ConnLooks → ℕ) (test : ConnLooks → Bool) (low : ℕ) (xs : List ConnLooks)
    → ((q : ℕ) (y : ConnLooks) → slice_get xs q ≡ Some y → test y ≡ true → low ≤ rank y)
    → Every (λ y. low ≤ rank y) (filter test xs)
low-every rank test low [] all = tt
low-every rank test low (x ∷ xs) all =
    (elim (test x) as (λ b. test x ≡ b
    → Every (λ y. low ≤ rank y) (if b then x ∷ filter test xs else filter test xs)) [
      | true ↦ λ passes. (all 0 x refl passes, low-every rank test low xs (λ q y there. all (suc q) y there))
      | false ↦ λ fails. low-every rank test low xs (λ q y there. all (suc q) y there)
    ]) refl

first-of : (rank : ConnLooks → ℕ) (x : ConnLooks) (o : Option ConnLooks)
    → ((y : ConnLooks) → o ≡ Some y → rank x ≤ rank y) → lesser_by rank x o ≡ x
first-of rank x None low = refl
first-of rank x (Some y) low =
    (let within = low y refl in
    let is : nat_le (rank x) (rank y) ≡ true = grind (arith, nat_tests, within) in
    rw is refl)

-- the first one of least rank that passes
pub least_is : (rank : ConnLooks → ℕ) (test : ConnLooks → Bool) (xs : List ConnLooks) (p : ℕ) (x : ConnLooks)
    → slice_get xs p ≡ Some x → test x ≡ true
    → ((q : ℕ) (y : ConnLooks) → slice_get xs q ≡ Some y → test y ≡ true → rank x ≤ rank y)
    → ((q : ℕ) (y : ConnLooks) → q < p → slice_get xs q ≡ Some y → test y ≡ true → rank x < rank y)
    → least_by rank (filter test xs) ≡ Some x
least_is rank test [] p x there passes low before = absurd (cc (there))
least_is rank test (z ∷ xs) zero x there passes low before =
    (let is : z ≡ x = cc (there) in
    let own : test z ≡ true = ap test is ∙ passes in
    rw own (ap (λ (y : ConnLooks). Some y)
    (first-of rank z (least_by rank (filter test xs))
    (λ y least. least-keeps (λ y. rank z ≤ rank y) rank (filter test xs)
    (low-every rank test (rank z) xs
    (λ q y there ok. subst (λ (w : ConnLooks). rank w ≤ rank y) (sym is) (low (suc q) y there ok))) y least) ∙ is)))
least_is rank test (z ∷ xs) (suc p) x there passes low before =
    (let rest : least_by rank (filter test xs) ≡ Some x =
    least_is rank test xs p x there passes (λ q y there ok. low (suc q) y there ok)
    (λ q y under there ok. before (suc q) y (omega arith) there ok) in
    (elim (test z) as (λ b. test z ≡ b → least_by rank (if b then z ∷ filter test xs else filter test xs) ≡ Some x) [
      | true ↦ λ ok. (
          let under = before 0 z (omega arith) refl ok in
          let other : nat_le (rank z) (rank x) ≡ false = grind (arith, nat_tests, under) in
          ap (λ (o : Option ConnLooks). Some (lesser_by rank z o)) rest
          ∙ ap (λ (b : Bool). Some (if b then z else x)) other)
      | false ↦ λ fails. rest
    ]) refl)

-- none where none passes
pub least_none : (rank : ConnLooks → ℕ) (test : ConnLooks → Bool) (xs : List ConnLooks)
    → ((q : ℕ) (y : ConnLooks) → slice_get xs q ≡ Some y → test y ≡ false) → least_by rank (filter test xs) ≡ None
least_none rank test [] fails = refl
least_none rank test (x ∷ xs) fails =
    rw (fails 0 x refl) (least_none rank test xs (λ q y there. fails (suc q) y there))

module _ (class : List ℕ → Class) (n : NodeState) (l : Looks) (m : Mirrors class n l) where
  when-idle : (b : Bool) (t u : ℕ) → (if b then Some t else None) ≡ Some u → (b ≡ true) × (t ≡ u)
  when-idle true t u is = (refl, cc (is))
  when-idle false t u is = absurd (cc (is))

  -- the place that the table finds has the connection that the look-ups have
  pub longest_is : (place : ℕ) → IsLongestIdle n.moment n.table place
      → (x : ConnLooks) × (slice_get l.conns place ≡ Some x) × (idle_conn l ≡ Some x)
  unfolding place_by place_with
  longest_is place longest = (
    p.conn,
    p.conn_there,
    least_is (λ r. r.last_use) (is_idle l) l.conns place p.conn p.conn_there its.0
        (λ q y there ok. subst (λ (u : ℕ). u ≤ y.last_use) (sym its.1)
        (longest.earliest q y.last_use (other q y there ok)))
        (λ q y under there ok. subst (λ (u : ℕ). u < y.last_use) (sym its.1)
        (longest.lowest q y.last_use (other q y there ok) under)),
  )
    where
      rec-there : (o : Option ConnRecord) → record_at n.table place ≡ o
          → option_and_then (λ r. if tables.is_idle n.moment r then Some r.last_use else None) o ≡ Some longest.since
          → Beside n.table.conns place
      rec-there None is none = absurd (cc (none))
      rec-there (Some r) is some = record { one = r; there = is }

      r : Beside n.table.conns place
      r = rec-there (record_at n.table place) refl longest.idle

      p : PlaceOf n l place
      p = place_with class n l m place r.one r.there

      its : (is_idle l p.conn ≡ true) × (p.conn.last_use ≡ longest.since)
      its = when-idle (is_idle l p.conn) p.conn.last_use longest.since
          (sym (idle_when class n l m place p) ∙ longest.idle)

      other : (q : ℕ) (y : ConnLooks) → slice_get l.conns q ≡ Some y → is_idle l y ≡ true
          → idle_since n.moment n.table q ≡ Some y.last_use
      other q y there ok = idle-at q y there ∙ ap (λ (b : Bool). if b then Some y.last_use else None) ok
        where
          idle-at : (q : ℕ) (y : ConnLooks) → slice_get l.conns q ≡ Some y
              → idle_since n.moment n.table q ≡ (if is_idle l y then Some y.last_use else None)
          idle-at q y there = idle_when class n l m q (place_by class n l m q y there)

  -- where it finds none, there is none
  pub none_idle : ((place : ℕ) → idle_since n.moment n.table place ≡ None) → idle_conn l ≡ None
  unfolding place_by
  none_idle none =
      least_none (λ r. r.last_use) (is_idle l) l.conns
      (λ q y there. fails (is_idle l y) y.last_use (sym (at q y there) ∙ none q))
    where
      fails : (b : Bool) (t : ℕ) → (if b then Some t else None) ≡ None → b ≡ false
      fails true t is = absurd (cc (is))
      fails false t is = refl

      at : (q : ℕ) (y : ConnLooks) → slice_get l.conns q ≡ Some y
          → idle_since n.moment n.table q ≡ (if is_idle l y then Some y.last_use else None)
      at q y there = idle_when class n l m q (place_by class n l m q y there)
