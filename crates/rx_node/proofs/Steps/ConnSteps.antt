-- A node mirrors what becomes of look-ups where a connection changes but for its channels.
use Rattle.std.proofs.Common.{◌≡◌, ◌/◌, ◌%◌, ℕ, Bool, true, false, List, length, if◌then◌else◌}
use Rattle.std.proofs.Common.{Option, Some, None, option_map, refl, ◌∙◌, ap, sym, subst}
use Rattle.std.specs.Prelude.{option_and_then, slice_get}
use Rattle.std.proofs.lemmas.List.{length-map}
use Rattle.rx_model.specs.Names.{same_connection}
use Rattle.rx_rules.specs.Classes.{Class}
use Rattle.rx_rules.specs.Looks.{ChannelLooks, ConnLooks, Looks, on_conn}
use Rattle.rx_model.proofs.NameLaws.{connection_itself, refuted}
use Rattle.rx_rules.proofs.ConnsLaws.{conn_if, number_in}
use Rattle.rx_history.proofs.Dimensions.Dims.{dims_conn}
use Rattle.rx_history.proofs.Order.Orderly.{orderly_dims}
use Rattle.rx_history.proofs.Room.RoomStarts.{roomy_by}
use Rattle.rx_table.specs.declared.seat.Seat.{Seat}
use Rattle.rx_table.specs.Records.{ConnRecord, Records, on_place, record_at, seat_at}
use Rattle.rx_node.specs.declared.link.Link.{Link}
use Rattle.rx_node.specs.Mirrors.{CallStands, ConnStands, Mirrors, OwesAs}
use Rattle.rx_node.specs.Node.{NodeState, setup_of}
use Rattle.rx_node.proofs.Steps.ChannelSteps.{LeavesChannels, channel_on_conn, latest_on_conn, place_is}
use Rattle.rx_node.proofs.Steps.OwingSteps.{channel_before, conn_before}
use Rattle.rx_node.proofs.Steps.TableSteps.{changed-length, decided, record_changed, record_stays}

pub seats-same : (t : Records) (place : ℕ) (g : ConnRecord → ConnRecord) → ((r : ConnRecord) → (g r).seats ≡ r.seats)
    → (key : ℕ) → seat_at (on_place place g t) key ≡ seat_at t key
seats-same t place g keeps key = decided (seat_at (on_place place g t) key ≡ seat_at t key) place (key / 4) own other
  where
    mapped : (o : Option ConnRecord)
        → option_and_then (λ r. slice_get r.seats (key % 4)) (option_map g o)
        ≡ option_and_then (λ r. slice_get r.seats (key % 4)) o
    mapped None = refl
    mapped (Some r) = ap (λ (ss : List Seat). slice_get ss (key % 4)) (keeps r)

    own : place ≡ key / 4 → seat_at (on_place place g t) key ≡ seat_at t key
    own same =
        ap (λ (o : Option ConnRecord). option_and_then (λ r. slice_get r.seats (key % 4)) o)
        (subst (λ (q : ℕ). record_at (on_place place g t) q ≡ option_map g (record_at t q)) same
        (record_changed t place g)) ∙ mapped (record_at t (key / 4))

    other : (place ≡ key / 4 → ⊥) → seat_at (on_place place g t) key ≡ seat_at t key
    other apart =
        ap (λ (o : Option ConnRecord). option_and_then (λ r. slice_get r.seats (key % 4)) o)
        (record_stays t place (key / 4) g apart)

-- each record of a table with another record at a place was there under its name
pub record-from : (t : Records) (place : ℕ) (g : ConnRecord → ConnRecord)
    → ((r : ConnRecord) → (g r).connection ≡ r.connection)
    → (q : ℕ) (r : ConnRecord) → record_at (on_place place g t) q ≡ Some r
    → (b : ConnRecord) × (record_at t q ≡ Some b) × (r.connection ≡ b.connection)
record-from t place g keeps q r is =
    decided ((b : ConnRecord) × (record_at t q ≡ Some b) × (r.connection ≡ b.connection)) place q
    (λ same. own (record_at t q) refl
    (sym (subst (λ (p : ℕ). record_at (on_place place g t) p ≡ option_map g (record_at t p)) same
    (record_changed t place g)) ∙ is))
    (λ apart. (r, sym (record_stays t place q g apart) ∙ is, refl))
  where
    own : (o : Option ConnRecord) → record_at t q ≡ o → option_map g o ≡ Some r
        → (b : ConnRecord) × (record_at t q ≡ Some b) × (r.connection ≡ b.connection)
    own None there none = absurd (cc (none))
    own (Some b) there some = (
      b,
      there,
      (let same : g b ≡ r = cc (some) in
          ap (λ (x : ConnRecord). x.connection) (sym same) ∙ keeps b),
    )

-- a change of a record, and one of its connection that shows as that does
pub record Shows (n : NodeState) (g : ConnRecord → ConnRecord) (f : ConnLooks → ConnLooks) : Type 0 where
  pub seats : (r : ConnRecord) → (g r).seats ≡ r.seats
  pub leaves : LeavesChannels f
  pub stands : (r : ConnRecord) (link : Link) (x : ConnLooks) → ConnStands n.kind r link x
      → ConnStands n.kind (g r) link (f x)

module _ (class : List ℕ → Class) (n : NodeState) (l : Looks) (m : Mirrors class n l) (place : ℕ) (x : ConnLooks)
    (there : slice_get l.conns place ≡ Some x) (g : ConnRecord → ConnRecord) (f : ConnLooks → ConnLooks)
    (shows : Shows n g f) where
  abbrev next : NodeState
  next = record n { table = on_place place g n.table }

  abbrev made : Looks
  made = on_conn x.connection f l

  conn-of : (o : Option ConnRecord) (r : ConnRecord) → option_map g o ≡ Some r → (b : ConnRecord)
      × (o ≡ Some b) × (g b ≡ r)
  conn-of None r is = absurd (cc (is))
  conn-of (Some b) r is = (b, refl, (let same : g b ≡ r = cc (is) in same))

  conns-each : (q : ℕ) (r : ConnRecord) (link : Link) (y : ConnLooks) → record_at next.table q ≡ Some r
      → slice_get n.links q ≡ Some link → slice_get made.conns q ≡ Some y → ConnStands n.kind r link y
  conns-each q r link y here linked conn =
      let c = conn_before l x.connection f q y conn in
      decided (ConnStands n.kind r link y) place q
      (λ same. (
      let b = conn-of (record_at n.table q) r
      (sym (subst (λ (p : ℕ). record_at (on_place place g n.table) p ≡ option_map g (record_at n.table p)) same
      (record_changed n.table place g)) ∙ here) in
      let own : c.before ≡ x = (let both = sym c.there ∙ sym (ap (λ (p : ℕ). slice_get l.conns p) same) ∙ there in
      cc (both)) in
      let named : same_connection c.before.connection x.connection ≡ true =
      subst (λ (z : ConnLooks). same_connection c.before.connection z.connection ≡ true) own
      (connection_itself c.before.connection) in
      let is : y ≡ f c.before = c.is ∙ ap (λ (t : Bool). if t then f c.before else c.before) named in
      subst (λ (z : ConnLooks). ConnStands n.kind r link z) (sym is)
      (subst (λ (z : ConnRecord). ConnStands n.kind z link (f c.before)) b.2
      (shows.stands b.0 link c.before (m.conns.each q b.0 link c.before b.1 linked c.there)))))
      (λ apart. (
      let other : same_connection c.before.connection x.connection ≡ false =
      refuted (same_connection c.before.connection x.connection)
      (λ named. apart (sym (place_is l.conns q place c.before x m.orderly.conns.differ c.there there named))) in
      let is : y ≡ c.before = c.is ∙ ap (λ (t : Bool). if t then f c.before else c.before) other in
      subst (λ (z : ConnLooks). ConnStands n.kind r link z) (sym is)
      (m.conns.each q r link c.before (sym (record_stays n.table place q g apart) ∙ here) linked c.there)))

  -- it mirrors the change
  pub mirrors_conn : Mirrors class next made
  mirrors_conn =
      record {
        now = m.now;
        conns = record {
          conns = changed-length n.table.conns place g ∙ m.conns.conns
              ∙ sym (length-map l.conns (conn_if x.connection f));
          links = m.conns.links ∙ sym (length-map l.conns (conn_if x.connection f));
          each = conns-each;
        };
        channels = λ key d s here is. (
            let before = channel_before l x.connection f key d shows.leaves.name here in
            let was = m.channels key d s before (sym (seats-same n.table place g shows.seats key) ∙ is) in
            record {
              owes = subst (OwesAs s) (sym (channel_on_conn l x.connection d f shows.leaves)) was.owes;
              call = subst (CallStands next key s) (sym (latest_on_conn l x.connection d f shows.leaves))
                  (record { life = was.call.life; live = was.call.live; stands = was.call.stands });
            });
        live = m.live;
        common = m.common;
        strays = m.strays;
        numbered = m.numbered;
        orderly = orderly_dims (setup_of class n) l made
            (dims_conn x.connection f l (λ r. record {
              alike = record {
                connection = shows.leaves.name r;
                length = ap (λ (qs : List ChannelLooks). length qs) (shows.leaves.channels r);
              };
              numbers = λ k. ap (λ (qs : List ChannelLooks). number_in qs k) (shows.leaves.channels r);
            })) m.orderly;
        roomy = roomy_by (setup_of class n) l made refl m.roomy;
      }
