-- A node mirrors what becomes of look-ups where the end of a channel's latest call takes a message.
use Rattle.std.proofs.Common.{◌≡◌, ◌==◌, ◌-◌, ℕ, ℤ, Bool, true, false, List, length, take, if◌then◌else◌, nat_lt}
use Rattle.std.proofs.Common.{Option, Some, None, refl, ◌∙◌, ap, sym, subst, arith}
use Rattle.std.specs.Prelude.{◌/◌, IfSome, IsSomeAnd, drop, is_some, slice_get}
use Rattle.std.proofs.Math.Seq.{take-append_seam}
use Rattle.std.proofs.lemmas.Bool.{false≢true}
use Rattle.std.proofs.lemmas.Bool.Decides.{nat_tests}
use Rattle.rx_model.specs.declared.answers.Took.{Took}
use Rattle.rx_model.specs.declared.answers.Took.TheVariants as tooks
use Rattle.rx_model.specs.declared.names.CallName.{CallName}
use Rattle.rx_model.specs.Body.{Body}
use Rattle.rx_model.specs.Body as bodies
use Rattle.rx_model.specs.Message.{Message}
use Rattle.rx_model.specs.Names.{Channel, channel_of, connection_of, same_name}
use Rattle.rx_packet.specs.Seen.{body_of}
use Rattle.rx_packet.specs.declared.ack.AckBody.{AckBody}
use Rattle.rx_packet.specs.declared.body.Body.{Body as PacketBody}
use Rattle.rx_packet.specs.declared.body.Body.TheVariants as variants
use Rattle.rx_rules.specs.After.{challenged, settled, stopped_all, taken_at, taken_data, taken_heard, taken_stopped}
use Rattle.rx_rules.specs.After.{taken_with, with_first}
use Rattle.rx_rules.specs.CallLooks.{CallLooks, NodeView, after_taken, call_row}
use Rattle.rx_rules.specs.Classes.{Class}
use Rattle.rx_rules.specs.Judging.{end_row, is_data, is_right, live_row, opened, response_row}
use Rattle.rx_rules.specs.Life.{after_code}
use Rattle.rx_rules.specs.Looks.{CallRecord, ConnLooks, Looks, call_at, channel_at, is_proved, latest_name, on_call}
use Rattle.rx_rules.specs.Looks.{on_channel, on_conn, on_life, on_looks}
use Rattle.rx_rules.specs.Received.{Arrival, arrival_row}
use Rattle.rx_rules.specs.Records.{started_later}
use Rattle.rx_rules.specs.Sent.{is_all_given, is_strange_ack}
use Rattle.rx_rules.specs.Setup.{Setup, is_client, shared_slots}
use Rattle.rx_rules.specs.Slots.{node_view}
use Rattle.rx_model.proofs.NameLaws.{name_is, same_number}
use Rattle.rx_rules.proofs.FindLaws.{find_passes}
use Rattle.rx_history.proofs.Differ.{Differ, by_name}
use Rattle.rx_history.proofs.Room.RoomStarts.{RoomyAt, roomy_by}
use Rattle.rx_history.proofs.Room.Roomy.{roomy_one, roomy_takes}
use Rattle.rx_history.proofs.Rows.RowsKept.{row_kept}
use Rattle.rx_history.proofs.Room.Tight.{gives_taken}
use Rattle.rx_history.proofs.Room.TightKept.{takes_kept}
use Rattle.rx_class.specs.Writes.{WritesFront}
use Rattle.rx_call_ends.specs.Ends.{EndsState, StandsEnd, StepsEnd, view_at}
use Rattle.rx_table.specs.Records.{record_at}
use Rattle.rx_node.specs.Mirrors.{IsActiveAt, IsChannel, Mirrors}
use Rattle.rx_node.specs.Node.{IsSeated, IsSetUp, KeepsNode, NodeState, setup_of}
use Rattle.rx_node.specs.Steps.{IsOwn, is_acking, is_heard, is_judged}
use Rattle.rx_node.proofs.CallChanges.{same_call}
use Rattle.rx_node.proofs.Steps.EndSteps.{active_call, mirrors_end}
use Rattle.rx_node.proofs.KeptKeys.{kept_setup, nonce_is}

-- ---- slots

-- data that is kept at the end of a call is kept by the row of the call
kept-live : (s : Setup) (l : Looks) (k : CallRecord) (m : Message) (body : Body) → m.body ≡ body
    → call_row (node_view s l) m body k.looks ≡ tooks.Kept → live_row s l k m body ≡ tooks.Kept
kept-live s l k m (bodies.Challenge bytes) at is = absurd (cc (is))
kept-live s l k m (bodies.Response bytes) at is = absurd (cc (is))
kept-live s l k m body at is = ap (λ (b : Body). call_row (node_view s l) m b k.looks) at ∙ is

-- a call's end that answered by its row leaves the calls with no more slots than they may hold
pub roomy_taken : (s : Setup) (c : CallName) (m : Message) (l : Looks) (k : CallRecord) (got : Took)
    → call_at l c ≡ Some k → got ≡ end_row s l k m → RoomyAt s l → RoomyAt s (taken_at s got c m l)
roomy_taken s c m l k tooks.Kept there is r =
    roomy_takes c (λ j. record j { looks = after_taken (node_view s l) tooks.Kept m j.looks }) (is_client s.kind)
    (shared_slots s) l.calls (λ j. refl)
    (λ j at t. takes_kept (node_view s l) (node_view s l) m j refl
    (row_kept s l (Some j) m j refl
    (subst (λ (i : CallRecord). live_row s l i m m.body ≡ tooks.Kept) (own j at)
    (kept-live s l k m m.body refl (sym is)))) t) r
  where
    own : (j : CallRecord) → call_at l c ≡ Some j → k ≡ j
    own j at = (let both = sym there ∙ at in cc (both))
roomy_taken s c m l k got there is r =
    roomy_one (is_client s.kind) (shared_slots s) c
    (λ j. record j { looks = after_taken (node_view s l) got m j.looks }) l.calls
    (λ j. gives_taken (is_client s.kind) (node_view s l) got m j (λ same. absurd (cc (same)))) r

-- ---- what shows nowhere

module _ (class : List ℕ → Class) (n : NodeState) (l : Looks) (m : Mirrors class n l) where
  -- the order of the calls that began
  pub mirrors_firsts : (firsts : List CallName) → Mirrors class n (record l { firsts = firsts })
  mirrors_firsts firsts =
      record {
        now = m.now;
        conns = record { conns = m.conns.conns; links = m.conns.links; each = m.conns.each };
        channels = λ key d s here is. (
            let was = m.channels key d s (record { conn = here.conn; there = here.there; is = here.is }) is in
            record {
              owes = was.owes;
              call = record { life = was.call.life; live = was.call.live; stands = was.call.stands };
            });
        live = m.live;
        common = m.common;
        strays = m.strays;
        numbered = m.numbered;
        orderly = record {
          conns = m.orderly.conns;
          few = m.orderly.few;
          latest = λ c lives. (
              let is = m.orderly.latest c lives in
              record { chan = is.chan; number = is.number });
        };
        roomy = roomy_by (setup_of class n) l (record l { firsts = firsts }) refl m.roomy;
      }

  -- what the node tells its calls
  pub view_same : IsSetUp class n → view_at n.ends n.moment ≡ node_view (setup_of class n) l
  view_same s = λ i. record {
    client = s.client i;
    window = (s.pace i).window;
    left = s.shared i - m.common i;
    now = m.now i;
  }

-- a channel's latest call doesn't start
pub opened_own : (s : Setup) (c : CallName) (l : Looks) → latest_name l (channel_of c) ≡ c → opened s c l ≡ l
opened_own s c l is =
    let same : (channel_at l (channel_of c)).number ≡ c.number = ap (λ (d : CallName). d.number) is in
    let low : nat_lt (channel_at l (channel_of c)).number c.number ≡ false = grind (arith, nat_tests, same) in
    ap (λ (b : Bool). if b then started_later s c l else l) low

-- the channel of a key goes by the connections alone
pub same_key : (l after : Looks) (key : ℕ) (ch : Channel) → after.conns ≡ l.conns → IsChannel l key ch
    → IsChannel after key ch
same_key l after key ch same at =
    record { conn = at.conn; there = ap (λ (rs : List ConnLooks). slice_get rs (key / 4)) same ∙ at.there; is = at.is }

-- ---- the channel's own call

module _ (class : List ℕ → Class) (n : NodeState) (l : Looks) (key end : ℕ) (c : CallName) (k : CallRecord)
    (own : IsOwn class n l key c k) (active : IsActiveAt n key end) where
  -- its end stands for what passed at it
  pub own_stands : StandsEnd n.ends end k.looks
  own_stands =
      let its = active_call class n l own.mirrors key end (channel_of c) own.channel active in
      let is : its.call ≡ k =
      (let both = sym its.latest_is ∙ ap (λ (d : CallName). call_at l d) own.latest ∙ own.call in cc (both)) in
      subst (λ (j : CallRecord). StandsEnd n.ends end j.looks) is its.stands

-- ---- its end takes a message

-- what an end answers to a message, and how it changes
pub record EndTook (n : NodeState) (e : EndsState) (end : ℕ) (got : Took) (m : Message) : Type 0 where
  pub steps : StepsEnd n.ends e end (after_taken (view_at n.ends n.moment) got m)
  pub row : (j : CallLooks) → StandsEnd n.ends end j → got ≡ call_row (view_at n.ends n.moment) m m.body j

module _ (class : List ℕ → Class) (n : NodeState) (l : Looks) (key end : ℕ) (c : CallName) (k : CallRecord)
    (own : IsOwn class n l key c k) (active : IsActiveAt n key end) (set_up : IsSetUp class n) (seats : IsSeated n)
    (e : EndsState) (got : Took) (m : Message) (took : EndTook n e end got m) where
  abbrev next : NodeState
  next = record n { ends = e }

  abbrev its_setup : Setup
  its_setup = setup_of class n

  -- by the row of the rules
  pub end_answers : got ≡ end_row its_setup l k m
  end_answers =
      took.row k.looks (own_stands class n l key end c k own active)
      ∙ ap (λ (v : NodeView). call_row v m m.body k.looks) (view_same class n l own.mirrors set_up)

  -- it mirrors what the rules make of the call
  pub mirrors_taken : Mirrors class next (taken_at its_setup got c m l)
  mirrors_taken =
      let steps = subst (λ (v : NodeView). StepsEnd n.ends e end (after_taken v got m))
      (view_same class n l own.mirrors set_up) took.steps in
      let step : CallLooks → CallLooks = after_taken (node_view its_setup l) got m in
      let roomy : RoomyAt its_setup (on_looks (latest_name l (channel_of c)) step l) =
      subst (λ (d : CallName). RoomyAt its_setup (on_looks d step l)) (sym own.latest)
      (roomy_taken its_setup c m l k got own.call end_answers own.mirrors.roomy) in
      subst (λ (d : CallName). Mirrors class next (on_looks d step l)) own.latest
      (mirrors_end class n l own.mirrors seats key end (channel_of c) own.channel active e step steps roomy)

-- an end that doesn't change
pub idle_taken : (s : Setup) (got : Took) (c : CallName) (m : Message) (l : Looks) → Differ by_name l.calls
    → ((j : CallLooks) → after_taken (node_view s l) got m j ≡ j) → taken_at s got c m l ≡ l
idle_taken s got c m l differ same =
    same_call c (λ j. record j { looks = after_taken (node_view s l) got m j.looks }) l differ
    (λ j there. ap (λ (x : CallLooks). record j { looks = x }) (same j.looks))

-- the call of a record has its name
pub own_name : (l : Looks) (c : CallName) (k : CallRecord) → call_at l c ≡ Some k → k.name ≡ c
own_name l c k there = name_is k.name c (find_passes (λ j. same_name j.name c) l.calls k there)

-- ---- data

-- data is judged, or strange
abbrev pub IsDataRow : Took → Type 0
IsDataRow tooks.Kept = Unit {0}
IsDataRow tooks.NoSlot = Unit {0}
IsDataRow tooks.Repeat = Unit {0}
IsDataRow tooks.Beyond = Unit {0}
IsDataRow tooks.Clash = Unit {0}
IsDataRow tooks.Strange = Unit {0}
IsDataRow _ = ⊥

if-row : (P : Took → Type 0) (b : Bool) (x y : Took) → P x → P y → P (if b then x else y)
if-row P true x y here there = here
if-row P false x y here there = there

arrival-rows : (a : Arrival) → IsDataRow (arrival_row a)
arrival-rows a =
    if-row IsDataRow a.is_strange tooks.Strange _ tt
    (if-row IsDataRow a.is_repeat tooks.Repeat _ tt
    (if-row IsDataRow a.is_beyond tooks.Beyond _ tt
    (if-row IsDataRow a.is_clash tooks.Clash _ tt (if-row IsDataRow a.has_slot tooks.Kept tooks.NoSlot tt tt))))

pub data_rows : (v : NodeView) (m : Message) (body : Body) (k : CallLooks) → is_data body ≡ true
    → IsDataRow (call_row v m body k)
data_rows v m (bodies.Chunk payload) k is = arrival-rows _
data_rows v m bodies.Busy k is = absurd (false≢true is)
data_rows v m (bodies.Ack a) k is = absurd (false≢true is)
data_rows v m (bodies.Abort code) k is = absurd (false≢true is)
data_rows v m bodies.AckAll k is = absurd (false≢true is)
data_rows v m (bodies.Challenge bytes) k is = absurd (false≢true is)
data_rows v m (bodies.Response bytes) k is = absurd (false≢true is)

-- the row of data is that of its end
pub data_row : (s : Setup) (l : Looks) (k : CallRecord) (m : Message) (body : Body) → is_data body ≡ true
    → live_row s l k m body ≡ end_row s l k m
data_row s l k m (bodies.Chunk payload) is = refl
data_row s l k m bodies.Busy is = absurd (false≢true is)
data_row s l k m (bodies.Ack a) is = absurd (false≢true is)
data_row s l k m (bodies.Abort code) is = absurd (false≢true is)
data_row s l k m bodies.AckAll is = absurd (false≢true is)
data_row s l k m (bodies.Challenge bytes) is = absurd (false≢true is)
data_row s l k m (bodies.Response bytes) is = absurd (false≢true is)

-- what is judged for a channel's latest call changes it as data does
pub judged_with : (s : Setup) (got : Took) (c : CallName) (m : Message) (l : Looks) → latest_name l (channel_of c) ≡ c
    → is_judged got ≡ true → taken_with s got c m l ≡ taken_data s got c m l
judged_with s tooks.Kept c m l own is = ap (taken_data s tooks.Kept c m) (opened_own s c l own)
judged_with s tooks.NoSlot c m l own is = ap (taken_data s tooks.NoSlot c m) (opened_own s c l own)
judged_with s tooks.Repeat c m l own is = refl
judged_with s tooks.Beyond c m l own is = refl
judged_with s tooks.Clash c m l own is = refl
judged_with s _ c m l own is = absurd (false≢true is)

-- what isn't changes nothing
pub unjudged_with : (s : Setup) (got : Took) (c : CallName) (m : Message) (l : Looks) → IsDataRow got
    → is_judged got ≡ false → taken_with s got c m l ≡ l
unjudged_with s tooks.Strange c m l row is = refl
unjudged_with s tooks.Kept c m l row is = absurd (false≢true (sym is))
unjudged_with s tooks.NoSlot c m l row is = absurd (false≢true (sym is))
unjudged_with s tooks.Repeat c m l row is = absurd (false≢true (sym is))
unjudged_with s tooks.Beyond c m l row is = absurd (false≢true (sym is))
unjudged_with s tooks.Clash c m l row is = absurd (false≢true (sym is))
unjudged_with s _ c m l row is = absurd row

pub unjudged_looks : (v : NodeView) (got : Took) (m : Message) (k : CallLooks) → IsDataRow got → is_judged got ≡ false
    → after_taken v got m k ≡ k
unjudged_looks v tooks.Strange m k row is = refl
unjudged_looks v tooks.Kept m k row is = absurd (false≢true (sym is))
unjudged_looks v tooks.NoSlot m k row is = absurd (false≢true (sym is))
unjudged_looks v tooks.Repeat m k row is = absurd (false≢true (sym is))
unjudged_looks v tooks.Beyond m k row is = absurd (false≢true (sym is))
unjudged_looks v tooks.Clash m k row is = absurd (false≢true (sym is))
unjudged_looks v _ m k row is = absurd row

-- ---- acknowledgements

-- it is heard, or strange
abbrev pub IsAckRow : Took → Type 0
IsAckRow tooks.Heard = Unit {0}
IsAckRow tooks.Strange = Unit {0}
IsAckRow _ = ⊥

pub ack_rows : (v : NodeView) (m : Message) (body : Body) (k : CallLooks) → is_acking body ≡ true
    → IsAckRow (call_row v m body k)
ack_rows v m (bodies.Ack a) k is = if-row IsAckRow (is_strange_ack a.first a.marks k.sent) tooks.Strange
    tooks.Heard tt tt
ack_rows v m bodies.AckAll k is = if-row IsAckRow (is_all_given k.sent) tooks.Heard tooks.Strange tt tt
ack_rows v m bodies.Busy k is = absurd (false≢true is)
ack_rows v m (bodies.Abort code) k is = absurd (false≢true is)
ack_rows v m (bodies.Chunk payload) k is = absurd (false≢true is)
ack_rows v m (bodies.Challenge bytes) k is = absurd (false≢true is)
ack_rows v m (bodies.Response bytes) k is = absurd (false≢true is)

-- its row is that of its end
pub ack_row : (s : Setup) (l : Looks) (k : CallRecord) (m : Message) (body : Body) → is_acking body ≡ true
    → live_row s l k m body ≡ end_row s l k m
ack_row s l k m (bodies.Ack a) is = refl
ack_row s l k m bodies.AckAll is = refl
ack_row s l k m bodies.Busy is = absurd (false≢true is)
ack_row s l k m (bodies.Abort code) is = absurd (false≢true is)
ack_row s l k m (bodies.Chunk payload) is = absurd (false≢true is)
ack_row s l k m (bodies.Challenge bytes) is = absurd (false≢true is)
ack_row s l k m (bodies.Response bytes) is = absurd (false≢true is)

-- one that isn't heard changes nothing
pub unheard_with : (s : Setup) (got : Took) (c : CallName) (m : Message) (l : Looks) → IsAckRow got
    → is_heard got ≡ false → taken_with s got c m l ≡ l
unheard_with s tooks.Strange c m l row other = refl
unheard_with s tooks.Heard c m l row other = absurd (false≢true (sym other))
unheard_with s _ c m l row other = absurd row

pub unheard_looks : (v : NodeView) (got : Took) (m : Message) (k : CallLooks) → IsAckRow got
    → is_heard got ≡ false → after_taken v got m k ≡ k
unheard_looks v tooks.Strange m k row other = refl
unheard_looks v tooks.Heard m k row other = absurd (false≢true (sym other))
unheard_looks v _ m k row other = absurd row

-- ---- what is answered

module _ (class : List ℕ → Class) (old heard : NodeState) where
  -- data that was judged: its call changes, and may be challenged
  pub judged_mirrors : (new : NodeState) (l : Looks) (key : ℕ) (c : CallName) (k : CallRecord) (got : Took)
      (m : Message)
      → IsOwn class old l key c k → is_judged got ≡ true → KeepsNode old heard
      → Mirrors class heard (taken_at (setup_of class old) got c m l)
      → ((n : Looks) → Mirrors class heard n → IsChannel n key (channel_of c)
      → Mirrors class new (challenged (setup_of class heard) c n))
      → Mirrors class new (taken_with (setup_of class old) got c m l)
  judged_mirrors new l key c k got m own judged kept one then_ =
      let s : Setup = setup_of class old in
      let begun : Looks = record (taken_at s got c m l) { firsts = with_first got c m.seq l.firsts } in
      let two = mirrors_firsts class heard (taken_at s got c m l) one (with_first got c m.seq l.firsts) in
      subst (Mirrors class new)
      (ap (λ (t : Setup). challenged t c begun) (kept_setup class old heard kept)
      ∙ sym (judged_with s got c m l own.latest judged))
      (then_ begun two (same_key l begun key (channel_of c) refl own.channel))

  -- that wasn't: nothing changes
  pub unjudged_mirrors : (l : Looks) (key : ℕ) (c : CallName) (k : CallRecord) (got : Took) (m : Message)
      → IsOwn class old l key c k → is_data m.body ≡ true → got ≡ end_row (setup_of class old) l k m
      → is_judged got ≡ false → Mirrors class heard (taken_at (setup_of class old) got c m l)
      → Mirrors class heard (taken_with (setup_of class old) got c m l)
  unjudged_mirrors l key c k got m own is row judged one =
      let s : Setup = setup_of class old in
      let data_row : IsDataRow got = subst IsDataRow (sym row) (data_rows (node_view s l) m m.body k.looks is) in
      subst (Mirrors class heard)
      (idle_taken s got c m l own.mirrors.roomy.differ (λ j. unjudged_looks (node_view s l) got m j data_row judged)
      ∙ sym (unjudged_with s got c m l data_row judged)) one

  -- an acknowledgement that isn't heard
  pub unheard_mirrors : (l : Looks) (key : ℕ) (c : CallName) (k : CallRecord) (got : Took) (m : Message)
      → IsOwn class old l key c k → is_acking m.body ≡ true → got ≡ end_row (setup_of class old) l k m
      → is_heard got ≡ false → Mirrors class heard (taken_at (setup_of class old) got c m l)
      → Mirrors class heard (taken_with (setup_of class old) got c m l)
  unheard_mirrors l key c k got m own is row other one =
      let s : Setup = setup_of class old in
      let acks : IsAckRow got = subst IsAckRow (sym row) (ack_rows (node_view s l) m m.body k.looks is) in
      subst (Mirrors class heard)
      (idle_taken s got c m l own.mirrors.roomy.differ (λ j. unheard_looks (node_view s l) got m j acks other)
      ∙ sym (unheard_with s got c m l acks other)) one

pub heard_is : (got : Took) → is_heard got ≡ true → got ≡ tooks.Heard
heard_is tooks.Heard is = refl
heard_is _ is = absurd (false≢true is)

-- an ACKALL that is heard settles its call
pub taken_ackall : (s : Setup) (c : CallName) (body : PacketBody) (l : Looks) → is_acking (body_of body) ≡ true
    → ((a : AckBody) → body ≡ variants.Ack a → ⊥) → taken_heard s c (body_of body) l ≡ on_call c settled l
taken_ackall s c variants.AckAll l is other = refl
taken_ackall s c (variants.Ack a) l is other = absurd (other a refl)
taken_ackall s c (variants.Chunk payload) l is other = absurd (false≢true is)
taken_ackall s c variants.Busy l is other = absurd (false≢true is)
taken_ackall s c (variants.Abort code) l is other = absurd (false≢true is)
taken_ackall s c (variants.Challenge bytes) l is other = absurd (false≢true is)
taken_ackall s c (variants.Response bytes) l is other = absurd (false≢true is)

module _ (class : List ℕ → Class) (old heard new : NodeState) (l : Looks) (key : ℕ) (c : CallName) (k : CallRecord)
    (got : Took) (m : Message) where
  -- an acknowledgement that is heard, with its call settled
  pub settled_mirrors : IsOwn class old l key c k → is_heard got ≡ true
      → Mirrors class heard (taken_at (setup_of class old) got c m l)
      → ((n : Looks) → Mirrors class heard n → IsChannel n key (channel_of c)
      → Mirrors class new (on_call (latest_name n (channel_of c)) settled n))
      → Mirrors class new (on_call c settled (taken_at (setup_of class old) tooks.Heard c m l))
  settled_mirrors own is one then_ =
      let s : Setup = setup_of class old in
      let after : Looks = taken_at s tooks.Heard c m l in
      let here : Mirrors class heard after =
      subst (λ (t : Took). Mirrors class heard (taken_at s t c m l)) (heard_is got is) one in
      subst (λ (d : CallName). Mirrors class new (on_call d settled after)) own.latest
      (then_ after here (same_key l after key (channel_of c) refl own.channel))

-- ---- a RESPONSE

-- whether it is right
pub right_is : (class : List ℕ → Class) (n : NodeState) (l : Looks) (key : ℕ) (c : CallName)
    (k : CallRecord) (nonce : ℕ)
    (bytes : List ℕ) → IsOwn class n l key c k → IsSomeAnd (record_at n.table (key / 4)) (λ r. nonce ≡ r.nonce)
    → (class n.secret).check c nonce bytes ≡ is_right (setup_of class n) l k.name bytes
right_is class n l key c k nonce bytes own is =
    ap (λ (x : ℕ). (class n.secret).check c x bytes)
    (nonce_is class n l own.mirrors key (channel_of c) own.channel nonce is)
    ∙ ap (λ (d : CallName). is_right (setup_of class n) l d bytes) (sym (own_name l c k own.call))

-- its row
pub response_is : (s : Setup) (l : Looks) (c : CallName) (k : CallRecord) (m : Message) (bytes : List ℕ)
    (right proved : Bool)
    → call_at l c ≡ Some k → right ≡ is_right s l k.name bytes → proved ≡ is_proved l (connection_of c)
    → response_row right proved ≡ live_row s l k m (bodies.Response bytes)
response_is s l c k m bytes right proved there is_right is_proved_at =
    let known = is_proved_at ∙ ap (λ (d : CallName). is_proved l (connection_of d)) (sym (own_name l c k there)) in
    λ i. response_row (is_right i) (known i)

module _ (class : List ℕ → Class) (old heard new : NodeState) (l : Looks) (key : ℕ) (c : CallName) (k : CallRecord)
    (got : Took) (m : Message) where
  -- one that is right is heard, and proves its client
  pub right_mirrors : IsOwn class old l key c k → got ≡ tooks.Heard
      → Mirrors class heard (taken_at (setup_of class old) got c m l)
      → ((n : Looks) → Mirrors class heard n → IsChannel n key (channel_of c)
      → Mirrors class new (on_conn (connection_of c) (λ r. record r { proved = true }) n))
      → Mirrors class new (on_conn (connection_of c) (λ r. record r { proved = true })
      (taken_at (setup_of class old) tooks.Heard c m l))
  right_mirrors own is one then_ =
      let s : Setup = setup_of class old in
      let after : Looks = taken_at s tooks.Heard c m l in
      then_ after (subst (λ (t : Took). Mirrors class heard (taken_at s t c m l)) is one)
      (same_key l after key (channel_of c) refl own.channel)

-- ---- a CHALLENGE

-- where none is written there is none
pub responds_none : (o : Option (List ℕ)) (r : Option ℕ) (P : List ℕ → ℕ → Type 0)
    → IfSome o (λ bytes. IsSomeAnd r (P bytes)) → r ≡ None → o ≡ None
responds_none None r P written is = refl
responds_none (Some bytes) None P written is = absurd written
responds_none (Some bytes) (Some count) P written is = absurd (cc (is))

-- what is written is the response
pub responds_some : (o : Option (List ℕ)) (r : Option ℕ) (count : ℕ) (old new : List ℕ)
    → IfSome o (λ bytes. IsSomeAnd r (WritesFront bytes old new)) → (o ≡ None → (r ≡ None) × (new ≡ old))
    → r ≡ Some count
    → o ≡ Some (take count new)
responds_some None r count old new written none is =
    (let no = (none refl).0 in absurd (cc (no, is)))
responds_some (Some bytes) None count old new written none is = absurd (cc (is))
responds_some (Some bytes) (Some n) count old new written none is =
    (let same : n ≡ count = cc (is) in
    ap (λ (xs : List ℕ). Some xs)
    (sym (ap (λ (j : ℕ). take j new) (sym same ∙ written.counted)
    ∙ ap (λ (xs : List ℕ). take (length bytes) xs) written.front
    ∙ take-append_seam bytes (drop (length bytes) old))))

-- its row
pub challenge_is : (s : Setup) (l : Looks) (c : CallName) (k : CallRecord) (m : Message) (bytes : List ℕ)
    (o : Option (List ℕ)) → call_at l c ≡ Some k → s.class.respond c bytes ≡ o
    → (if is_some o then tooks.Heard else tooks.Strange) ≡ live_row s l k m (bodies.Challenge bytes)
challenge_is s l c k m bytes o there is =
    ap (λ (x : Option (List ℕ)). if is_some x then tooks.Heard else tooks.Strange)
    (sym is ∙ ap (λ (d : CallName). s.class.respond d bytes) (sym (own_name l c k there)))

module _ (class : List ℕ → Class) (old heard new : NodeState) (l : Looks) (key : ℕ) (c : CallName) (k : CallRecord)
    (got : Took) (m : Message) (asked bytes : List ℕ) where
  -- one that has an answer is heard, and its channel owes it
  pub answered_mirrors : IsOwn class old l key c k → got ≡ tooks.Heard → (class old.secret).respond c asked ≡ Some bytes
      → Mirrors class heard (taken_at (setup_of class old) got c m l)
      → ((n : Looks) → Mirrors class heard n → IsChannel n key (channel_of c)
      → Mirrors class new (on_channel (channel_of c) (λ q. record q { owed_response = Some bytes }) n))
      → Mirrors class new (taken_heard (setup_of class old) c (bodies.Challenge asked)
      (taken_at (setup_of class old) tooks.Heard c m l))
  answered_mirrors own is answer one then_ =
      let s : Setup = setup_of class old in
      let after : Looks = taken_at s tooks.Heard c m l in
      subst (λ (o : Option (List ℕ)). Mirrors class new
      (on_channel (channel_of c) (λ q. record q { owed_response = o }) after))
      (sym answer)
      (then_ after (subst (λ (t : Took). Mirrors class heard (taken_at s t c m l)) is one)
      (same_key l after key (channel_of c) refl own.channel))

-- ---- a BUSY and an ABORT

-- a BUSY changes its call alone
pub busy_is : (s : Setup) (got : Took) (c : CallName) (m : Message) (l : Looks) (k : CallRecord)
    → m.body ≡ bodies.Busy → got ≡ end_row s l k m → taken_at s got c m l ≡ taken_with s got c m l
busy_is s got c m l k is row =
    let heard : got ≡ tooks.Heard = row ∙ ap (λ (b : Body). call_row (node_view s l) m b k.looks) is in
    ap (λ (t : Took). taken_at s t c m l) heard
    ∙ sym (ap (λ (b : Body). taken_heard s c b (taken_at s tooks.Heard c m l)) is)
    ∙ ap (λ (t : Took). taken_with s t c m l) (sym heard)

-- a call that is there has a number, so that an ABORT of it is none of its connection
pub abort_is : (c : CallName) (code : ℤ) (l : Looks) (k : CallRecord) → (c.number ≡ 0 → call_at l c ≡ None)
    → call_at l c ≡ Some k → on_life c (after_code code) l ≡ taken_stopped c (bodies.Abort code) l
abort_is c code l k numbered there =
    (elim (c.number == 0) as (λ b. (c.number == 0) ≡ b → on_life c (after_code code) l
    ≡ (if b then stopped_all (connection_of c) code l else on_life c (after_code code) l)) [
      | true ↦ λ zero. absurd (let none = numbered (same_number c.number 0 zero) in cc (none, there))
      | false ↦ λ other. refl
    ]) refl
