-- A node mirrors what becomes of look-ups where a connection takes the place of another.
use Rattle.std.proofs.Common.{◌≡◌, ◌/◌, ◌%◌, ℕ, Bool, false, List, set}
use Rattle.std.proofs.Common.{Option, Some, None, option_map, refl, ◌∙◌, ap, sym, subst, arith, if◌then◌else◌}
use Rattle.std.specs.Prelude.{option_and_then, slice_get}
use Rattle.std.proofs.lemmas.List.{length-map, length-set}
use Rattle.std.proofs.lemmas.Option.{slice_get-map}
use Rattle.rx_model.specs.Names.{Channel, Connection, same_connection}
use Rattle.rx_rules.specs.Classes.{Class}
use Rattle.rx_rules.specs.Looks.{ChannelLooks, ConnLooks, Looks, call_at, call_named, channel_at, conn_at}
use Rattle.rx_rules.specs.Looks.{fresh_channel}
use Rattle.rx_rules.specs.Records.{fresh_conn, placed}
use Rattle.rx_rules.specs.Setup.{nonce_of}
use Rattle.rx_model.proofs.NameLaws.{connection_itself, refuted}
use Rattle.rx_history.proofs.Order.Orderly.{Orderly}
use Rattle.rx_history.proofs.Room.RoomStarts.{roomy_by}
use Rattle.rx_table.specs.declared.seat.Seat.{Seat}
use Rattle.rx_table.specs.Records.{ConnRecord, fresh_record, fresh_seat, on_place, record_at, seat_at}
use Rattle.rx_node.specs.declared.link.Link.{Link}
use Rattle.rx_node.specs.Mirrors.{CallStands, ChannelStands, ConnStands, IsChannel, Mirrors, OwesAs}
use Rattle.rx_node.specs.Node.{NodeState, setup_of}
use Rattle.rx_node.proofs.Steps.ChannelSteps.{channel_of_record, conn_there, place_is}
use Rattle.rx_node.proofs.Steps.PlaceSteps.{four, four-seats, fresh_owes, fresh_stands}
use Rattle.rx_node.proofs.Steps.TableSteps.{changed-length, decided, record_changed, record_stays, set-none, set-other}
use Rattle.rx_node.proofs.Steps.TableSteps.{set-own}

module _ (class : List ℕ → Class) (n : NodeState) (l : Looks) (m : Mirrors class n l) (place : ℕ) (old : ConnLooks)
    (there : slice_get l.conns place ≡ Some old) (x : Connection) (link : Link) (nonce : ℕ)
    (numbered : nonce ≡ nonce_of n.kind l.entered) where
  abbrev new : ConnLooks
  new = fresh_conn x link.peer link.service link.first l

  abbrev entry : ConnRecord
  entry = fresh_record x nonce n.moment

  abbrev next : NodeState
  next = record n { table = on_place place (λ r. entry) n.table; links = set n.links place link }

  abbrev made : Looks
  made = placed new (Some old) l

  abbrev instead : ConnLooks → ConnLooks
  instead r = if same_connection r.connection old.connection then new else r

  -- what stands at a place behind it
  conn-own : (y : ConnLooks) → slice_get made.conns place ≡ Some y → new ≡ y
  conn-own y here =
      let mapped : option_map instead (slice_get l.conns place) ≡ Some y =
      sym (slice_get-map instead l.conns place) ∙ here in
      let both : Some (instead old) ≡ Some y = ap (option_map instead) (sym there) ∙ mapped in
      let is : instead old ≡ y = cc (both) in
      sym (ap (λ (b : Bool). if b then new else old) (connection_itself old.connection)) ∙ is

  conn-other : (q : ℕ) (y : ConnLooks) → (place ≡ q → ⊥) → slice_get made.conns q ≡ Some y
      → slice_get l.conns q ≡ Some y
  conn-other q y apart here = of (slice_get l.conns q) refl (sym (slice_get-map instead l.conns q) ∙ here)
    where
      of : (o : Option ConnLooks) → slice_get l.conns q ≡ o → option_map instead o ≡ Some y
          → slice_get l.conns q ≡ Some y
      of None is none = absurd (cc (none))
      of (Some r) is some =
          let other : same_connection r.connection old.connection ≡ false =
          refuted (same_connection r.connection old.connection)
          (λ same. apart (sym (place_is l.conns q place r old m.orderly.conns.differ is there same))) in
          let same : instead r ≡ y = cc (some) in
          is ∙ ap (λ (z : ConnLooks). Some z)
          (sym (ap (λ (b : Bool). if b then new else r) other) ∙ same)

  conns-each : (q : ℕ) (r : ConnRecord) (k : Link) (y : ConnLooks) → record_at next.table q ≡ Some r
      → slice_get next.links q ≡ Some k → slice_get made.conns q ≡ Some y → ConnStands n.kind r k y
  conns-each q r k y here linked conn =
      decided (ConnStands n.kind r k y) place q
      (λ same. own (subst (λ (p : ℕ). record_at next.table p ≡ Some r) (sym same) here)
      (subst (λ (p : ℕ). slice_get next.links p ≡ Some k) (sym same) linked)
      (subst (λ (p : ℕ). slice_get made.conns p ≡ Some y) (sym same) conn))
      (λ apart. m.conns.each q r k y (sym (record_stays n.table place q (λ b. entry) apart) ∙ here)
      (sym (set-other n.links place q link apart) ∙ linked) (conn-other q y apart conn))
    where
      entered : (o : Option ConnRecord) → option_map (λ b. entry) o ≡ Some r → entry ≡ r
      entered None is = absurd (cc (is))
      entered (Some b) is = cc (is)

      own : record_at next.table place ≡ Some r → slice_get next.links place ≡ Some k
          → slice_get made.conns place ≡ Some y → ConnStands n.kind r k y
      own here linked conn =
          let rec_is : entry ≡ r = entered (record_at n.table place)
          (sym (record_changed n.table place (λ b. entry)) ∙ here) in
          let link_is : link ≡ k = link-own (slice_get n.links place) refl linked in
          subst (λ (z : ConnLooks). ConnStands n.kind r k z) (conn-own y conn)
          (subst (λ (z : Link). ConnStands n.kind r z new) link_is
          (subst (λ (z : ConnRecord). ConnStands n.kind z link new) rec_is
          (record {
            connection = refl;
            nonce = numbered;
            serial = refl;
            last_use = m.now;
            proved = refl;
            seats =
                refl;
            linked = refl;
          })))
        where
          link-own : (o : Option Link) → slice_get n.links place ≡ o → slice_get (set n.links place link) place ≡ Some k
              → link ≡ k
          link-own None is linked = absurd (none-there is linked n.links)
            where
              none-there : slice_get n.links place ≡ None → slice_get (set n.links place link) place ≡ Some k
                  → (ks : List Link) → ⊥
              none-there none some ks =
                  let is : slice_get (set n.links place link) place ≡ None = set-none n.links place link none in
                  cc (is, some)
          link-own (Some b) is linked =
              let both : Some link ≡ Some k = sym (set-own n.links place b link is) ∙ linked in
              cc (both)

  module _ (orderly : Orderly (setup_of class n) made) where
    found : (key : ℕ) (d : Channel) (here : IsChannel made key d) → conn_at made d.connection ≡ Some here.conn
    found key d here =
        ap (λ (y : Connection). conn_at made y) (ap (λ (c : Channel). c.connection) here.is)
        ∙ conn_there made.conns (key / 4) here.conn orderly.conns.differ here.there

    other-channel : (key : ℕ) (d : Channel) (s : Seat) → (place ≡ key / 4 → ⊥) → IsChannel made key d
        → seat_at next.table key ≡ Some s → ChannelStands next made key d s
    other-channel key d s apart here is =
        let conn = conn-other (key / 4) here.conn apart here.there in
        let seat : seat_at n.table key ≡ Some s =
        ap (λ (o : Option ConnRecord). option_and_then (λ r. slice_get r.seats (key % 4)) o)
        (sym (record_stays n.table place (key / 4) (λ b. entry) apart)) ∙ is in
        let was = m.channels key d s (record { conn = here.conn; there = conn; is = here.is }) seat in
        let before : conn_at l d.connection ≡ Some here.conn =
        ap (λ (y : Connection). conn_at l y) (ap (λ (c : Channel). c.connection) here.is)
        ∙ conn_there l.conns (key / 4) here.conn m.orderly.conns.differ conn in
        let same : channel_at made d ≡ channel_at l d =
        ap (λ (o : Option ConnLooks). channel_of_record o d.chan) (found key d here ∙ sym before) in
        record {
          owes = subst (OwesAs s) (sym same) was.owes;
          call = subst (CallStands next key s) (ap (λ (q : ChannelLooks). call_at l (call_named d q.number)) (sym same))
              (record { life = was.call.life; live = was.call.live; stands = was.call.stands });
        }

    own-channel : (key : ℕ) (d : Channel) (s : Seat) → place ≡ key / 4 → IsChannel made key d
        → seat_at next.table key ≡ Some s → ChannelStands next made key d s
    own-channel key d s same here is =
        let conn : new ≡ here.conn =
        conn-own here.conn (subst (λ (p : ℕ). slice_get made.conns p ≡ Some here.conn) (sym same) here.there) in
        let seat : fresh_seat 0 ≡ s = four-seats (key % 4) s (seat-of (record_at n.table (key / 4))
        (ap (λ (o : Option ConnRecord). option_and_then (λ r. slice_get r.seats (key % 4)) o)
        (sym (subst (λ (p : ℕ). record_at next.table p ≡ option_map (λ b. entry) (record_at n.table p)) same
        (record_changed n.table place (λ b. entry)))) ∙ is)) in
        let chan : d.chan ≡ key % 4 = ap (λ (c : Channel). c.chan) here.is in
        let fresh : channel_at made d ≡ fresh_channel 0 =
        ap (λ (o : Option ConnLooks). channel_of_record o d.chan)
        (found key d here ∙ ap (λ (r : ConnLooks). Some r) (sym conn)) ∙ four d.chan (omega arith) x in
        subst (λ (t : Seat). ChannelStands next made key d t) seat
        (record {
          owes = subst (OwesAs (fresh_seat 0)) (sym fresh) fresh_owes;
          call = subst (CallStands next key (fresh_seat 0))
              (ap (λ (q : ChannelLooks). call_at l (call_named d q.number)) (sym fresh))
              (fresh_stands class n next l m key d);
        })
      where
        seat-of : (o : Option ConnRecord)
            → option_and_then (λ r. slice_get r.seats (key % 4)) (option_map (λ b. entry) o) ≡ Some s
            → slice_get entry.seats (key % 4) ≡ Some s
        seat-of None is = absurd (cc (is))
        seat-of (Some b) is = is

    -- it mirrors the change
    pub mirrors_replaced : Mirrors class next made
    mirrors_replaced =
        record {
          now = m.now;
          conns = record {
            conns = changed-length n.table.conns place (λ b. entry) ∙ m.conns.conns
                ∙ sym (length-map l.conns instead);
            links = length-set n.links place link ∙ m.conns.links ∙ sym (length-map l.conns instead);
            each = conns-each;
          };
          channels = λ key d s here is.
              decided (ChannelStands next made key d s) place (key / 4)
              (λ same. own-channel key d s same here is) (λ apart. other-channel key d s apart here is);
          live = m.live;
          common = m.common;
          strays = m.strays;
          numbered = m.numbered;
          orderly = orderly;
          roomy = roomy_by (setup_of class n) l made refl m.roomy;
        }
