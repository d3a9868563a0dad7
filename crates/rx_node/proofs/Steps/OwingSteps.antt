-- A node mirrors what becomes of look-ups where what a channel owes changes.
use Rattle.std.proofs.Common.{◌≡◌, ◌/◌, ◌%◌, ◌^◌, ℕ, true, false, List, length, if◌then◌else◌}
use Rattle.std.proofs.Common.{Option, Some, None, option_map, refl, ◌∙◌, ap, sym, subst, arith}
use Rattle.std.specs.Prelude.{slice_get, is_some}
use Rattle.std.proofs.lemmas.Option.{slice_get-map}
use Rattle.std.proofs.lemmas.List.{length-map}
use Rattle.rx_model.specs.Names.{Channel, Connection, same_channel, same_connection}
use Rattle.rx_rules.specs.Classes.{Class}
use Rattle.rx_rules.specs.Looks.{CallRecord, ChannelLooks, ConnLooks, Looks, changed_at, channel_at, conn_at, latest}
use Rattle.rx_rules.specs.Looks.{on_channel, on_conn}
use Rattle.rx_model.proofs.NameLaws.{channel_is, connection_itself, refuted}
use Rattle.rx_rules.proofs.ConnsLaws.{KeepsConns, conn_if}
use Rattle.rx_history.proofs.Dimensions.Dims.{dims_channel}
use Rattle.rx_history.proofs.Order.Orderly.{HasFour, orderly_dims}
use Rattle.rx_history.proofs.Room.RoomStarts.{roomy_by}
use Rattle.rx_table.specs.declared.seat.Seat.{Seat}
use Rattle.rx_table.specs.Records.{ConnRecord, seat_at, with_seat}
use Rattle.rx_node.specs.declared.link.Link.{Link}
use Rattle.rx_node.specs.Mirrors.{CallStands, ChannelStands, ConnStands, ConnsStand, IsChannel, Mirrors, OwesAs}
use Rattle.rx_node.specs.Mirrors.{channel_in}
use Rattle.rx_node.specs.Node.{NodeState, life_by, setup_of}
use Rattle.rx_rules.specs.Setup.{Kind, is_client, nonce_of}
use Rattle.rx_node.proofs.Steps.ChannelSteps.{IsThere, channel_changed, channel_stays, conn_there, every-at}
use Rattle.rx_node.proofs.Steps.ChannelSteps.{latest_owing}
use Rattle.rx_node.proofs.Steps.ChannelSteps.{place_is}
use Rattle.rx_node.proofs.Steps.TableSteps.{SameConn, changed-length, decided, key_is, record_seated, seat_changed}
use Rattle.rx_node.proofs.Steps.TableSteps.{seat_stays, seated}

-- ---- keys and channels

module _ (class : List ℕ → Class) (n : NodeState) (l : Looks) (m : Mirrors class n l) where
  -- a channel with a key is there
  pub key_there : (key : ℕ) (ch : Channel) → IsChannel l key ch → IsThere l ch
  key_there key ch at =
      let four : length at.conn.channels ≡ 4 =
      every-at HasFour l.conns (key / 4) at.conn m.orderly.conns.fours at.there in
      let conn : ch.connection ≡ at.conn.connection = ap (λ (c : Channel). c.connection) at.is in
      let chan : ch.chan ≡ key % 4 = ap (λ (c : Channel). c.chan) at.is in
      record {
        conn = at.conn;
        there = ap (λ (y : Connection). conn_at l y) conn ∙ conn_there l.conns (key / 4) at.conn
            m.orderly.conns.differ at.there;
        within = omega arith;
      }

  -- the channel with a key is one
  pub one_channel : (key : ℕ) (c d : Channel) → IsChannel l key c → IsChannel l key d → c ≡ d
  one_channel key c d here there =
      let same : here.conn ≡ there.conn = (let is = sym here.there ∙ there.there in cc (is)) in
      here.is ∙ ap (λ (x : ConnLooks). channel_in x (key % 4)) same ∙ sym there.is

  -- a channel has one key
  pub one_key : (a b : ℕ) (c d : Channel) → IsChannel l a c → IsChannel l b d → same_channel d c ≡ true → a ≡ b
  one_key a b c d here there same =
      let is : d ≡ c = channel_is d c same in
      let conns : here.conn.connection ≡ there.conn.connection =
      sym (ap (λ (e : Channel). e.connection) here.is) ∙ sym (ap (λ (e : Channel). e.connection) is)
      ∙ ap (λ (e : Channel). e.connection) there.is in
      let chans : a % 4 ≡ b % 4 =
      sym (ap (λ (e : Channel). e.chan) here.is) ∙ sym (ap (λ (e : Channel). e.chan) is)
      ∙ ap (λ (e : Channel). e.chan) there.is in
      key_is a b
      (place_is l.conns (a / 4) (b / 4) here.conn there.conn m.orderly.conns.differ here.there there.there
      (subst (λ (y : Connection). same_connection here.conn.connection y ≡ true) conns
      (connection_itself here.conn.connection))) chans

-- ---- connections whose names stay

pub conn_if-name : (x : Connection) (f : ConnLooks → ConnLooks) (r : ConnLooks) → KeepsConns f
    → (conn_if x f r).connection ≡ r.connection
conn_if-name x f r keeps =
    (elim (same_connection r.connection x) as (λ b. (if b then f r else r).connection ≡ r.connection) [
      | true ↦ keeps r
      | false ↦ refl
    ])

-- what a look-up at a place was
pub record FromConn (l : Looks) (x : Connection) (f : ConnLooks → ConnLooks) (place : ℕ)
    (after : ConnLooks) : Type 0 where
  pub before : ConnLooks
  pub there : slice_get l.conns place ≡ Some before
  pub is : after ≡ conn_if x f before

-- each connection of changed look-ups was there
pub conn_before : (l : Looks) (x : Connection) (f : ConnLooks → ConnLooks) (place : ℕ) (after : ConnLooks)
    → slice_get (on_conn x f l).conns place ≡ Some after → FromConn l x f place after
conn_before l x f place after there =
    of (slice_get l.conns place) refl (sym (slice_get-map (conn_if x f) l.conns place) ∙ there)
  where
    of : (o : Option ConnLooks) → slice_get l.conns place ≡ o → option_map (conn_if x f) o ≡ Some after
        → FromConn l x f place after
    of None is none = absurd (cc (none))
    of (Some r) is some =
        record { before = r; there = is; is = (let same : conn_if x f r ≡ after = cc (some) in sym same) }

-- a key has the channel that it had
pub channel_before : (l : Looks) (x : Connection) (f : ConnLooks → ConnLooks) (key : ℕ) (ch : Channel) → KeepsConns f
    → IsChannel (on_conn x f l) key ch → IsChannel l key ch
channel_before l x f key ch keeps at =
    let b = conn_before l x f (key / 4) at.conn at.there in
    record {
      conn = b.before;
      there = b.there;
      is = at.is
          ∙ ap (λ (y : Connection). record { connection = y; chan = key % 4 })
          (ap (λ (r : ConnLooks). r.connection) b.is ∙ conn_if-name x f b.before keeps);
    }

-- a change of a connection that shows in no field that a table keeps
pub record Unseen (f : ConnLooks → ConnLooks) : Type 0 where
  pub connection : (r : ConnLooks) → (f r).connection ≡ r.connection
  pub peer : (r : ConnLooks) → (f r).peer ≡ r.peer
  pub service : (r : ConnLooks) → (f r).service ≡ r.service
  pub first : (r : ConnLooks) → (f r).first ≡ r.first
  pub order : (r : ConnLooks) → (f r).order ≡ r.order
  pub given : (r : ConnLooks) → (f r).given ≡ r.given
  pub last_use : (r : ConnLooks) → (f r).last_use ≡ r.last_use
  pub proved : (r : ConnLooks) → (f r).proved ≡ r.proved

-- that of a channel does
pub channel_unseen : (n : ℕ) (f : ChannelLooks → ChannelLooks)
    → Unseen (λ r. record r { channels = changed_at n f r.channels })
channel_unseen n f =
    record {
      connection = λ r. refl;
      peer = λ r. refl;
      service = λ r. refl;
      first = λ r. refl;
      order = λ r. refl;
      given = λ r. refl;
      last_use = λ r. refl;
      proved = λ r. refl;
    }

unseen-if : {X : Type 0} (get : ConnLooks → X) (x : Connection) (f : ConnLooks → ConnLooks)
    → ((r : ConnLooks) → get (f r) ≡ get r) → (r : ConnLooks) → get (conn_if x f r) ≡ get r
unseen-if get x f same r =
    (elim (same_connection r.connection x) as (λ b. get (if b then f r else r) ≡ get r) [
      | true ↦ same r
      | false ↦ refl
    ])

-- a record stands for a connection as before
pub conn_stands : (kind : Kind) (a b : ConnRecord) (link : Link) (x : Connection) (f : ConnLooks → ConnLooks)
    (r : ConnLooks)
    → Unseen f → SameConn a b → ConnStands kind a link r → ConnStands kind b link (conn_if x f r)
conn_stands kind a b link x f r u same s =
    record {
      connection = same.connection ∙ s.connection ∙ sym (unseen-if (λ r. r.connection) x f u.connection r);
      nonce = same.nonce ∙ s.nonce ∙ ap (nonce_of kind) (sym (unseen-if (λ r. r.order) x f u.order r));
      serial = same.serial ∙ s.serial ∙ ap (λ (k : ℕ). k % 2 ^ 32) (sym (unseen-if (λ r. r.given) x f u.given r));
      last_use = same.last_use ∙ s.last_use ∙ sym (unseen-if (λ r. r.last_use) x f u.last_use r);
      proved = same.proved ∙ s.proved ∙ sym (unseen-if (λ r. r.proved) x f u.proved r);
      seats = same.seats ∙ s.seats;
      linked =
          s.linked
          ∙ (λ i. record {
            peer = sym (unseen-if (λ r. r.peer) x f u.peer r) i;
            service = sym (unseen-if (λ r. r.service) x f u.service r) i;
            first = sym (unseen-if (λ r. r.first) x f u.first r) i;
          });
    }

-- ---- what a channel owes

-- another seat that names the same call, and owes what a change of the channel says
pub record Owing (seat after : Seat) (f : ChannelLooks → ChannelLooks) : Type 0 where
  pub live : after.live ≡ seat.live
  pub ended : after.«end» ≡ seat.«end»
  pub number : (q : ChannelLooks) → (f q).number ≡ q.number
  pub owes : (q : ChannelLooks) → OwesAs seat q → OwesAs after (f q)

module _ (class : List ℕ → Class) (n : NodeState) (l : Looks) (m : Mirrors class n l) (key : ℕ) (ch : Channel)
    (at : IsChannel l key ch) (seat after : Seat) (there : seat_at n.table key ≡ Some seat)
    (f : ChannelLooks → ChannelLooks) (owing : Owing seat after f) where
  abbrev next : NodeState
  next = record n { table = with_seat n.table key after }

  abbrev change : ConnLooks → ConnLooks
  change r = record r { channels = changed_at ch.chan f r.channels }

  abbrev made : Looks
  made = on_channel ch f l

  owing-conns : ConnsStand next made
  owing-conns =
      record {
        conns = changed-length n.table.conns (key / 4) (seated (key % 4) after) ∙ m.conns.conns
            ∙ sym (length-map l.conns (conn_if ch.connection change));
        links = m.conns.links ∙ sym (length-map l.conns (conn_if ch.connection change));
        each = λ place r link x here linked conn. (
            let b = record_seated n.table key after place r here in
            let c = conn_before l ch.connection change place x conn in
            subst (λ (y : ConnLooks). ConnStands n.kind r link y) (sym c.is)
            (conn_stands n.kind b.before r link ch.connection change c.before (channel_unseen ch.chan f) b.same
            (m.conns.each place b.before link c.before b.there linked c.there)));
      }

  same-call : (k : ℕ) (s t : Seat) (call : Option CallRecord) → t.live ≡ s.live → t.«end» ≡ s.«end»
      → CallStands n k s call → CallStands next k t call
  same-call k s t call live ended stands =
      record {
        life = (λ i. life_by n.lives (is_client n.kind) k (live i) (ended i)) ∙ stands.life;
        live = ap (λ (o : Option ℕ). is_some o) live ∙ stands.live;
        stands = λ end c names is active. stands.stands end c (sym live ∙ names) is active;
      }

  latest-same : (d : Channel) → latest l d ≡ latest made d
  latest-same d = sym (latest_owing l ch d f owing.number)

  owing-own : (d : Channel) (s : Seat) → IsChannel l key d → seat_at next.table key ≡ Some s
      → ChannelStands next made key d s
  owing-own d s here is =
      let one : ch ≡ d = one_channel class n l m key ch d at here in
      let same : after ≡ s = (let both = sym (seat_changed n.table key seat after there) ∙ is in cc (both)) in
      let was = m.channels key ch seat at there in
      subst (λ (e : Channel). ChannelStands next made key e s) one
      (subst (λ (t : Seat). ChannelStands next made key ch t) same
      (record {
        owes = subst (OwesAs after) (sym (channel_changed l ch f (key_there class n l m key ch at)))
            (owing.owes (channel_at l ch) was.owes);
        call = subst (CallStands next key after) (latest-same ch)
            (same-call key seat after (latest l ch) owing.live owing.ended was.call);
      }))

  owing-other : (k : ℕ) (d : Channel) (s : Seat) → (key ≡ k → ⊥) → IsChannel l k d → seat_at next.table k ≡ Some s
      → ChannelStands next made k d s
  owing-other k d s apart here is =
      let was = m.channels k d s here (sym (seat_stays n.table key k after apart) ∙ is) in
      record {
        owes = subst (OwesAs s)
            (sym (channel_stays l ch d f (refuted (same_channel d ch)
            (λ same. apart (one_key class n l m key k ch d at here same))))) was.owes;
        call = subst (CallStands next k s) (latest-same d) (same-call k s s (latest l d) refl refl was.call);
      }

  -- it mirrors the change
  pub mirrors_owing : Mirrors class next made
  mirrors_owing =
      record {
        now = m.now;
        conns = owing-conns;
        channels = λ k d s here is. (
            let before = channel_before l ch.connection change k d (λ r. refl) here in
            decided (ChannelStands next made k d s) key k
            (λ same. subst (λ (j : ℕ). ChannelStands next made j d s) same
            (owing-own d s (subst (λ (j : ℕ). IsChannel l j d) (sym same) before)
            (subst (λ (j : ℕ). seat_at next.table j ≡ Some s) (sym same) is)))
            (λ apart. owing-other k d s apart before is));
        live = m.live;
        common = m.common;
        strays = m.strays;
        numbered = m.numbered;
        orderly = orderly_dims (setup_of class n) l made (dims_channel ch f l owing.number) m.orderly;
        roomy = roomy_by (setup_of class n) l made refl m.roomy;
      }
