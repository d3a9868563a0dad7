-- A node mirrors what becomes of look-ups where a connection is entered.
use Rattle.std.proofs.Common.{◌≡◌, ◌<◌, ◌+◌, ◌/◌, ◌%◌, ℕ, zero, suc, Bool, List, [], ◌∷◌, ◌++◌, length}
use Rattle.std.proofs.Common.{map, Option, Some, None, refl, ◌∙◌, ap, sym, subst, arith, if◌then◌else◌}
use Rattle.std.specs.Prelude.{option_and_then, slice_get, unwrap_or}
use Rattle.rx_model.specs.Names.{Channel, Connection, channels_of, same_connection}
use Rattle.rx_rules.specs.Classes.{Class}
use Rattle.rx_rules.specs.Looks.{ChannelLooks, ConnLooks, Looks, call_at, call_named, channel_at, conn_at}
use Rattle.rx_rules.specs.Looks.{fresh_channel}
use Rattle.rx_rules.specs.Records.{fresh_conn, placed}
use Rattle.rx_rules.specs.Setup.{nonce_of}
use Rattle.rx_model.proofs.NameLaws.{connection_itself}
use Rattle.rx_rules.proofs.FindLaws.{find-before, find-last}
use Rattle.rx_history.proofs.Order.Orderly.{Orderly}
use Rattle.rx_history.proofs.Room.RoomStarts.{roomy_by}
use Rattle.rx_table.specs.declared.seat.Seat.{Seat}
use Rattle.rx_table.specs.Records.{ConnRecord, fresh_record, fresh_seat, fresh_seats, record_at, seat_at}
use Rattle.rx_node.specs.declared.link.Link.{Link}
use Rattle.rx_node.specs.Mirrors.{CallStands, ChannelStands, ConnStands, ConnsStand, IsChannel, Mirrors, OwesAs}
use Rattle.rx_node.specs.Node.{NodeState, setup_of}
use Rattle.rx_node.proofs.Steps.ChannelSteps.{channel_of_record, conn_there}

-- ---- a list with one more

-- what stands in a list with one more is of the list, or is that one
pub data OldOrNew {X : Type 0} (xs : List X) (x : X) (i : ℕ) (y : X) : Type 0 where
  Old : slice_get xs i ≡ Some y → OldOrNew xs x i y
  New : i ≡ length xs → x ≡ y → OldOrNew xs x i y

pub old_or_new : {X : Type 0} (xs : List X) (x y : X) (i : ℕ) → slice_get (xs ++ x ∷ []) i ≡ Some y → OldOrNew xs x i y
old_or_new [] x y zero there = New refl (let same : x ≡ y = cc (there) in same)
old_or_new [] x y (suc i) there = absurd (cc (there))
old_or_new (z ∷ xs) x y zero there = Old there
old_or_new (z ∷ xs) x y (suc i) there = further (old_or_new xs x y i there)
  where
    further : OldOrNew xs x i y → OldOrNew (z ∷ xs) x (suc i) y
    further (Old is) = Old is
    further (New is same) = New (ap (λ (k : ℕ). suc k) is) same

length-behind : {X : Type 0} (xs : List X) (x : X) → length (xs ++ x ∷ []) ≡ length xs + 1
length-behind [] x = refl
length-behind (z ∷ xs) x = (let rest : length (xs ++ x ∷ []) ≡ length xs + 1 = length-behind xs x in omega arith)

pub none-past : {X : Type 0} (xs : List X) (y : X) → slice_get xs (length xs) ≡ Some y → ⊥
none-past [] y there = cc (there)
none-past (z ∷ xs) y there = none-past xs y there

-- ---- a fresh channel

pub four : (n : ℕ) → n < 4 → (x : Connection)
    → unwrap_or (slice_get (map (λ ch. fresh_channel 0) (channels_of x)) n) (fresh_channel 0) ≡ fresh_channel 0
four zero low x = refl
four (suc zero) low x = refl
four (suc (suc zero)) low x = refl
four (suc (suc (suc zero))) low x = refl
four (suc (suc (suc (suc n)))) low x = absurd (omega arith)

pub four-seats : (n : ℕ) (s : Seat) → slice_get fresh_seats n ≡ Some s → fresh_seat 0 ≡ s
four-seats zero s there = cc (there)
four-seats (suc zero) s there = cc (there)
four-seats (suc (suc zero)) s there = cc (there)
four-seats (suc (suc (suc zero))) s there = cc (there)
four-seats (suc (suc (suc (suc n)))) s there = absurd (cc (there))

pub fresh_owes : OwesAs (fresh_seat 0) (fresh_channel 0)
fresh_owes = record { number = refl; abort = refl; busy = refl; challenge = refl; response = refl; ackall = refl }

-- and no call
pub fresh_stands : (class : List ℕ → Class) (n next : NodeState) (l : Looks) → Mirrors class n l
    → (key : ℕ) (d : Channel)
    → CallStands next key (fresh_seat 0) (call_at l (call_named d 0))
fresh_stands class n next l m key d =
    subst (CallStands next key (fresh_seat 0)) (sym (m.numbered (call_named d 0) refl))
    (record { life = refl; live = refl; stands = λ end k names call active. absurd (cc (names)) })

module _ (class : List ℕ → Class) (n : NodeState) (l : Looks) (m : Mirrors class n l) (x : Connection) (link : Link)
    (nonce : ℕ) (numbered : nonce ≡ nonce_of n.kind l.entered) (absent : conn_at l x ≡ None) where
  abbrev new : ConnLooks
  new = fresh_conn x link.peer link.service link.first l

  abbrev entry : ConnRecord
  entry = fresh_record x nonce n.moment

  abbrev next : NodeState
  next = record n { table = record n.table { conns = n.table.conns ++ entry ∷ [] }; links = n.links ++ link ∷ [] }

  abbrev made : Looks
  made = placed new None l

  new-stands : ConnStands n.kind entry link new
  new-stands =
      record {
        connection = refl;
        nonce = numbered;
        serial = refl;
        last_use = m.now;
        proved = refl;
        seats = refl;
        linked = refl;
      }

  enter-conns : ConnsStand next made
  enter-conns =
      record {
        conns = length-behind n.table.conns entry
            ∙ ap (λ (k : ℕ). k + 1) m.conns.conns ∙ sym (length-behind l.conns new);
        links = length-behind n.links link ∙ ap (λ (k : ℕ). k + 1) m.conns.links ∙ sym (length-behind l.conns new);
        each = λ place r k y here linked conn.
            of place r k y (old_or_new n.table.conns entry r place here) (old_or_new n.links link k place linked)
            (old_or_new l.conns new y place conn);
      }
    where
      of : (place : ℕ) (r : ConnRecord) (k : Link) (y : ConnLooks) → OldOrNew n.table.conns entry place r
          → OldOrNew n.links link place k → OldOrNew l.conns new place y → ConnStands n.kind r k y
      of place r k y (Old here) (Old linked) (Old conn) = m.conns.each place r k y here linked conn
      of place r k y (New p here) (New q linked) (New u conn) =
          subst (λ (z : ConnLooks). ConnStands n.kind r k z) conn
          (subst (λ (z : Link). ConnStands n.kind r z new) linked
          (subst (λ (z : ConnRecord). ConnStands n.kind z link new) here new-stands))
      of place r k y (New p here) (Old linked) o =
          absurd (none-past n.links k (subst (λ (i : ℕ). slice_get n.links i ≡ Some k)
          (p ∙ m.conns.conns ∙ sym m.conns.links) linked))
      of place r k y (Old here) (New q linked) o =
          absurd (none-past n.table.conns r (subst (λ (i : ℕ). slice_get n.table.conns i ≡ Some r)
          (q ∙ m.conns.links ∙ sym m.conns.conns) here))
      of place r k y (Old here) (Old linked) (New u conn) =
          absurd (none-past n.table.conns r (subst (λ (i : ℕ). slice_get n.table.conns i ≡ Some r)
          (u ∙ sym m.conns.conns) here))
      of place r k y (New p here) (New q linked) (Old conn) =
          absurd (none-past l.conns y (subst (λ (i : ℕ). slice_get l.conns i ≡ Some y) (p ∙ m.conns.conns) conn))

  -- the record of a connection that was there
  there-before : (y : Connection) (r : ConnLooks) → conn_at l y ≡ Some r → conn_at made y ≡ Some r
  there-before y r is = find-before (λ q. same_connection q.connection y) l.conns new r is

  -- that of the new one
  there-now : conn_at made x ≡ Some new
  there-now =
      find-last (λ q. same_connection q.connection x) l.conns new absent
      ∙ ap (λ (b : Bool). if b then Some new else None) (connection_itself x)

  old-channel : (key : ℕ) (d : Channel) (s : Seat) (here : IsChannel made key d)
      → slice_get l.conns (key / 4) ≡ Some here.conn
      → seat_at n.table key ≡ Some s → ChannelStands next made key d s
  old-channel key d s here conn is =
      let before : IsChannel l key d = record { conn = here.conn; there = conn; is = here.is } in
      let was = m.channels key d s before is in
      let own : d.connection ≡ here.conn.connection = ap (λ (c : Channel). c.connection) here.is in
      let found : conn_at l d.connection ≡ Some here.conn =
      ap (λ (y : Connection). conn_at l y) own ∙ conn_there l.conns (key / 4) here.conn m.orderly.conns.differ conn in
      let same : channel_at made d ≡ channel_at l d =
      ap (λ (o : Option ConnLooks). channel_of_record o d.chan)
      (there-before d.connection here.conn found ∙ sym found) in
      record {
        owes = subst (OwesAs s) (sym same) was.owes;
        call = subst (CallStands next key s) (ap (λ (q : ChannelLooks). call_at l (call_named d q.number)) (sym same))
            (record { life = was.call.life; live = was.call.live; stands = was.call.stands });
      }

  new-channel : (key : ℕ) (d : Channel) (s : Seat) (here : IsChannel made key d) → new ≡ here.conn
      → option_and_then (λ r. slice_get r.seats (key % 4)) (Some entry) ≡ Some s → ChannelStands next made key d s
  new-channel key d s here conn is =
      let seat : fresh_seat 0 ≡ s = four-seats (key % 4) s is in
      let own : d.connection ≡ x = ap (λ (c : Channel). c.connection) here.is
      ∙ sym (ap (λ (r : ConnLooks). r.connection) conn) in
      let chan : d.chan ≡ key % 4 = ap (λ (c : Channel). c.chan) here.is in
      let fresh : channel_at made d ≡ fresh_channel 0 =
      ap (λ (o : Option ConnLooks). channel_of_record o d.chan)
      (ap (λ (y : Connection). conn_at made y) own ∙ there-now)
      ∙ four d.chan (omega arith) x in
      subst (λ (t : Seat). ChannelStands next made key d t) seat
      (record {
        owes = subst (OwesAs (fresh_seat 0)) (sym fresh) fresh_owes;
        call = subst (CallStands next key (fresh_seat 0))
            (ap (λ (q : ChannelLooks). call_at l (call_named d q.number)) (sym fresh))
            (fresh_stands class n next l m key d);
      })

  -- it mirrors the entering
  pub mirrors_entered : Orderly (setup_of class n) made → Mirrors class next made
  mirrors_entered orderly =
      record {
        now = m.now;
        conns = enter-conns;
        channels = λ key d s here is. of key d s here is (old_or_new l.conns new here.conn (key / 4) here.there);
        live = m.live;
        common = m.common;
        strays = m.strays;
        numbered = m.numbered;
        orderly = orderly;
        roomy = roomy_by (setup_of class n) l made refl m.roomy;
      }
    where
      seat-of : (key : ℕ) (s : Seat) (o : Option ConnRecord) → slice_get (n.table.conns ++ entry ∷ []) (key / 4) ≡ o
          → option_and_then (λ r. slice_get r.seats (key % 4)) o ≡ Some s
          → (r : ConnRecord) × (slice_get (n.table.conns ++ entry ∷ []) (key / 4) ≡ Some r)
          × (slice_get r.seats (key % 4) ≡ Some s)
      seat-of key s None there is = absurd (cc (is))
      seat-of key s (Some r) there is = (r, there, is)

      of : (key : ℕ) (d : Channel) (s : Seat) (here : IsChannel made key d) → seat_at next.table key ≡ Some s
          → OldOrNew l.conns new (key / 4) here.conn → ChannelStands next made key d s
      of key d s here is (Old conn) =
          let r = seat-of key s (record_at next.table (key / 4)) refl is in
          (λ (o : OldOrNew n.table.conns entry (key / 4) r.0). by-old key d s here conn r.0 r.2 o)
          (old_or_new n.table.conns entry r.0 (key / 4) r.1)
        where
          by-old : (key : ℕ) (d : Channel) (s : Seat) (here : IsChannel made key d)
              → slice_get l.conns (key / 4) ≡ Some here.conn → (r : ConnRecord) → slice_get r.seats (key % 4) ≡ Some s
              → OldOrNew n.table.conns entry (key / 4) r → ChannelStands next made key d s
          by-old key d s here conn r seat (Old there) =
              old-channel key d s here conn
              (ap (λ (o : Option ConnRecord). option_and_then (λ q. slice_get q.seats (key % 4)) o) there ∙ seat)
          by-old key d s here conn r seat (New p there) =
              absurd (none-past l.conns here.conn
              (subst (λ (i : ℕ). slice_get l.conns i ≡ Some here.conn) (p ∙ m.conns.conns) conn))
      of key d s here is (New p conn) =
          let r = seat-of key s (record_at next.table (key / 4)) refl is in
          by-new r.0 r.2 (old_or_new n.table.conns entry r.0 (key / 4) r.1)
        where
          by-new : (r : ConnRecord) → slice_get r.seats (key % 4) ≡ Some s → OldOrNew n.table.conns entry (key / 4) r
              → ChannelStands next made key d s
          by-new r seat (Old there) =
              absurd (none-past n.table.conns r
              (subst (λ (i : ℕ). slice_get n.table.conns i ≡ Some r) (p ∙ sym m.conns.conns) there))
          by-new r seat (New q there) =
              new-channel key d s here conn
              (subst (λ (t : ConnRecord). slice_get t.seats (key % 4) ≡ Some s) (sym there) seat)
