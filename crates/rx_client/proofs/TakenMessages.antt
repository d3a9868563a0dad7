-- What a client makes of a message, by its rows.
use Rattle.std.proofs.Common.{◌≡◌, ◌==◌, ◌&&◌, ◌/◌, ◌%◌, ℕ, if◌then◌else◌, not, nat_lt, is_some, Bool, true, false}
use Rattle.std.proofs.Common.{List}
use Rattle.std.proofs.Common.{Option, Some, None, option_map, refl, ◌∙◌, ap, sym, subst, arith}
use Rattle.std.specs.Prelude.{slice_get}
use Rattle.std.proofs.lemmas.Bool.{false≢true}
use Rattle.std.proofs.lemmas.Bool.Decides.{nat_tests}
use Rattle.std.proofs.lemmas.Option.{slice_get-map}
use Rattle.rx_model.specs.declared.answers.Took.{Took}
use Rattle.rx_model.specs.declared.answers.Took.TheVariants as tooks
use Rattle.rx_model.specs.declared.names.CallName.{CallName}
use Rattle.rx_model.specs.declared.names.Host.{Host}
use Rattle.rx_model.specs.Body.{Body}
use Rattle.rx_model.specs.Body as bodies
use Rattle.rx_model.specs.declared.wire.TheConstants.{CLIENT_INITIATED}
use Rattle.rx_model.specs.Message.{Message, has_flag}
use Rattle.rx_model.specs.Names.{Channel, Connection, channel_of, connection_of, same_connection, same_host}
use Rattle.rx_model.specs.Strays.{is_stray}
use Rattle.rx_packet.specs.Seen.{FitsDatagram}
use Rattle.rx_rules.specs.After.{enters, prepared, stopped_all, taken_behind, taken_over, taken_stopped, taken_with}
use Rattle.rx_rules.specs.Classes.{Class}
use Rattle.rx_rules.specs.Judging.{Facts, client_outer, client_row, else_row, facts_of, is_for_clients, is_peer}
use Rattle.rx_rules.specs.Judging.{live_row, opened, outer_row, own_row, row_at, side_row}
use Rattle.rx_rules.specs.Judging.{took_named}
use Rattle.rx_rules.specs.Life.{after_code, is_active}
use Rattle.rx_rules.specs.Looks.{CallRecord, ConnLooks, Looks, call_at, call_named, channel_at, conn_at, is_call}
use Rattle.rx_rules.specs.Looks.{latest, latest_name, on_life}
use Rattle.rx_rules.specs.Records.{entered, used, with_conn}
use Rattle.rx_rules.specs.Setup.{Kind, Server, Client, Setup, is_client, named}
use Rattle.rx_rules.proofs.ConnsLaws.{conn_if}
use Rattle.rx_call.specs.Standing.{FitsSlot}
use Rattle.rx_node.specs.declared.link.Link.{Link}
use Rattle.rx_node.specs.Mirrors.{IsChannel, Mirrors}
use Rattle.rx_node.specs.Node.{NodeState}
use Rattle.rx_node.proofs.Steps.ChannelSteps.{channel_on_conn, conn_there}
use Rattle.rx_node.proofs.Steps.TakingSteps.{opened_own}
use Rattle.rx_node.proofs.Steps.IdleSteps.{beside_at}
use Rattle.rx_node.specs.Mirrors.{StepsAt}
use Rattle.rx_node.specs.Node.{KeepsNode, setup_of}
use Rattle.rx_node.specs.Steps.{IsOwn, stopped_by}
use Rattle.rx_node.proofs.KeptKeys.{kept_setup}
use Rattle.rx_node.proofs.UsedConns.{used_row}
use Rattle.rx_client.specs.Taking.{TakesMessage, TakesNamed, is_let_in, turned_from}

-- ---- sizes

pub fits_slot : (body : Body) → FitsDatagram body → FitsSlot body
fits_slot (bodies.Chunk payload) fits = fits
fits_slot bodies.Busy fits = tt
fits_slot (bodies.Ack a) fits = tt
fits_slot (bodies.Abort code) fits = tt
fits_slot bodies.AckAll fits = tt
fits_slot (bodies.Challenge bytes) fits = tt
fits_slot (bodies.Response bytes) fits = tt

-- ---- who is let in

-- the connection of a channel with a key
pub conn_of : (class : List ℕ → Class) (n : NodeState) (l : Looks) (m : Mirrors class n l) (key : ℕ) (ch : Channel)
    (at : IsChannel l key ch) → conn_at l ch.connection ≡ Some at.conn
conn_of class n l m key ch at =
    ap (conn_at l) (ap (λ (d : Channel). d.connection) at.is)
    ∙ conn_there l.conns (key / 4) at.conn m.orderly.conns.differ at.there

module _ (class : List ℕ → Class) (n : NodeState) (l : Looks) (m : Mirrors class n l) (c : CallName) (from : Host)
    (msg : Message) where
  pub out_unknown : conn_at l (connection_of c) ≡ None → false ≡ is_let_in (class n.secret) l from c msg
  out_unknown none =
      sym (ap (λ (o : Option ConnLooks). is_peer from o
      && ((msg.index == (class n.secret).index) && is_for_clients (class n.secret).challenges msg.body)) none)

  pub in_known : (key : ℕ) (link : Link) → IsChannel l key (channel_of c) → slice_get n.links (key / 4) ≡ Some link
      → (same_host link.peer from && ((msg.index == (class n.secret).index)
      && is_for_clients (class n.secret).challenges msg.body))
      ≡ is_let_in (class n.secret) l from c msg
  in_known key link at linked =
      let r = beside_at l.conns n.table.conns (key / 4) at.conn (sym m.conns.conns) at.there in
      let peer : link.peer ≡ at.conn.peer =
      ap (λ (q : Link). q.peer) (m.conns.each (key / 4) r.one link at.conn r.there linked at.there).linked in
      ap (λ (h : Host). same_host h from && ((msg.index == (class n.secret).index)
      && is_for_clients (class n.secret).challenges msg.body)) peer
      ∙ sym (ap (λ (o : Option ConnLooks). is_peer from o && ((msg.index == (class n.secret).index)
      && is_for_clients (class n.secret).challenges msg.body)) (its_conn key at))
    where
      its_conn : (key : ℕ) (at : IsChannel l key (channel_of c)) → conn_at l (connection_of c) ≡ Some at.conn
      its_conn key at = conn_of class n l m key (channel_of c) at

-- ---- the rows in front

-- the row that holds, whatever the call's
pub data FrontRow (f : Facts) (row : Took) : Type 0 where
  Stops : f.stops_all ≡ true → row ≡ tooks.Stopped → FrontRow f row
  Rests : row ≡ tooks.Strange → FrontRow f row
  Ages : row ≡ tooks.Old → FrontRow f row
  Ends : f.is_below ≡ false → f.is_above ≡ false → row ≡ tooks.Over → FrontRow f row

pub front_row : (f : Facts) (row : Took) → ((call : Took) → row ≡ client_row f call) → FrontRow f row
front_row f row is = of f.stops_all f.has_number f.is_below f.is_above f.is_active refl refl refl (is tooks.Kept)
    (is tooks.Heard)
  where
    of : (stops has below above active : Bool) → f.stops_all ≡ stops → f.is_below ≡ below → f.is_above ≡ above
        → row ≡ (if stops then tooks.Stopped else if not has then tooks.Strange else if below then tooks.Old
        else if above then tooks.Strange else if not active then tooks.Over else tooks.Kept)
        → row ≡ (if stops then tooks.Stopped else if not has then tooks.Strange else if below then tooks.Old
        else if above then tooks.Strange else if not active then tooks.Over else tooks.Heard)
        → FrontRow f row
    of true has below above active s b a one two = Stops s one
    of false false below above active s b a one two = Rests one
    of false true true above active s b a one two = Ages one
    of false true false true active s b a one two = Rests one
    of false true false false false s b a one two = Ends b a one
    of false true false false true s b a one two = absurd (let same = sym one ∙ two in cc (same))

-- none holds: its call answers
pub record OwnRow (f : Facts) : Type 0 where
  pub below : f.is_below ≡ false
  pub above : f.is_above ≡ false
  pub active : f.is_active ≡ true

pub own_row_of : (f : Facts) → ((call : Took) → call ≡ client_row f call) → OwnRow f
own_row_of f is = of f.stops_all f.has_number f.is_below f.is_above f.is_active refl refl refl (is tooks.Kept)
  where
    of : (stops has below above active : Bool) → f.is_below ≡ below → f.is_above ≡ above → f.is_active ≡ active
        → tooks.Kept ≡ (if stops then tooks.Stopped else if not has then tooks.Strange else if below then tooks.Old
        else if above then tooks.Strange else if not active then tooks.Over else tooks.Kept)
        → OwnRow f
    of true has below above active b a v one = absurd (cc (one))
    of false false below above active b a v one = absurd (cc (one))
    of false true true above active b a v one = absurd (cc (one))
    of false true false true active b a v one = absurd (cc (one))
    of false true false false false b a v one = absurd (cc (one))
    of false true false false true b a v one = record { below = b; above = a; active = v }

-- ---- the channel's call is the message's

same-number : (a b : ℕ) → nat_lt a b ≡ false → nat_lt b a ≡ false → b ≡ a
same-number a b low high = grind (arith, nat_tests)

pub latest_here : (s : Setup) (l : Looks) (c : CallName) (m : Message) → m.number ≡ c.number
    → (facts_of s l c m).is_below ≡ false → (facts_of s l c m).is_above ≡ false → latest_name l (channel_of c) ≡ c
latest_here s l c m number below above =
    ap (λ (n : ℕ). call_named (channel_of c) n)
    (same-number m.number (channel_at l (channel_of c)).number below above ∙ number)

-- ---- a connection is used

pub used_channel : (l : Looks) (x : Connection) (ch : Channel) → channel_at (used x l) ch ≡ channel_at l ch
used_channel l x ch =
    channel_on_conn l x ch (λ r. record r { last_use = l.now }) (record { name = λ r. refl; channels = λ r. refl })

pub used_key : (l : Looks) (x : Connection) (key : ℕ) (ch : Channel) → IsChannel l key ch → IsChannel (used x l) key ch
used_key l x key ch at =
    record {
      conn = conn_if x (λ r. record r { last_use = l.now }) at.conn;
      there = slice_get-map (conn_if x (λ r. record r { last_use = l.now })) l.conns (key / 4)
          ∙ ap (option_map (conn_if x (λ r. record r { last_use = l.now }))) at.there;
      is = at.is ∙ (λ i. record { connection = sym (name at.conn) i; chan = key % 4 });
    }
  where
    name : (r : ConnLooks) → (conn_if x (λ r. record r { last_use = l.now }) r).connection ≡ r.connection
    name r = of (same_connection r.connection x)
      where
        of : (b : Bool) → (if b then record r { last_use = l.now } else r).connection ≡ r.connection
        of true = refl
        of false = refl

pub used_latest : (l : Looks) (x : Connection) (ch : Channel) → latest_name (used x l) ch ≡ latest_name l ch
used_latest l x ch = ap (λ (n : ℕ). call_named ch n) (ap (λ q. q.number) (used_channel l x ch))

-- no connection is entered where it is known
pub prepared_known : (s : Setup) (got : Took) (x : Connection) (r : ConnLooks) (l : Looks) → conn_at l x ≡ Some r
    → prepared s got x l ≡ used x l
prepared_known s got x r l there = ap (used x) (of (enters got))
  where
    known : entered s x l ≡ l
    known = ap (λ (o : Option ConnLooks). if is_some o then l else with_conn s s.kind x l) there

    of : (b : Bool) → (if b then entered s x l else l) ≡ l
    of true = known
    of false = refl

-- ---- what a row in front changes

stray-abort : (c : CallName) (m : Message) (body : Body) (l : Looks) → m.number ≡ c.number → is_stray m body ≡ true
    → stopped_by body (connection_of c) l ≡ taken_stopped c body l
stray-abort c m (bodies.Abort code) l number stray =
    let none : (m.number == 0) ≡ true = stray-number m code stray in
    sym (ap (λ (b : Bool). if b then stopped_all (connection_of c) code l else on_life c (after_code code) l)
    (ap (λ (n : ℕ). n == 0) (sym number) ∙ none))
  where
    stray-number : (m : Message) (code : _) → is_stray m (bodies.Abort code) ≡ true → (m.number == 0) ≡ true
    stray-number m code stray = stray
stray-abort c m (bodies.Chunk payload) l number stray = absurd (false≢true stray)
stray-abort c m bodies.Busy l number stray = absurd (false≢true stray)
stray-abort c m (bodies.Ack a) l number stray = absurd (false≢true stray)
stray-abort c m bodies.AckAll l number stray = absurd (false≢true stray)
stray-abort c m (bodies.Challenge bytes) l number stray = absurd (false≢true stray)
stray-abort c m (bodies.Response bytes) l number stray = absurd (false≢true stray)

pub turned_with : (s : Setup) (l : Looks) (c : CallName) (m : Message) (row : Took) → m.number ≡ c.number
    → FrontRow (facts_of s l c m) row
    → turned_from row m.body (channel_of c) (used (connection_of c) l) ≡ taken_with s row c m (used (connection_of c) l)
turned_with s l c m row number (Stops stray is) =
    subst (λ (r : Took). turned_from r m.body (channel_of c) (used (connection_of c) l)
    ≡ taken_with s r c m (used (connection_of c) l)) (sym is)
    (stray-abort c m m.body (used (connection_of c) l) number stray)
turned_with s l c m row number (Rests is) =
    subst (λ (r : Took). turned_from r m.body (channel_of c) (used (connection_of c) l)
    ≡ taken_with s r c m (used (connection_of c) l)) (sym is) refl
turned_with s l c m row number (Ages is) =
    subst (λ (r : Took). turned_from r m.body (channel_of c) (used (connection_of c) l)
    ≡ taken_with s r c m (used (connection_of c) l)) (sym is) refl
turned_with s l c m row number (Ends below above is) =
    subst (λ (r : Took). turned_from r m.body (channel_of c) (used (connection_of c) l)
    ≡ taken_with s r c m (used (connection_of c) l)) (sym is)
    (ap (λ (d : CallName). taken_over d m.body (call_at (used (connection_of c) l) d) (used (connection_of c) l))
    (used_latest l (connection_of c) (channel_of c) ∙ latest_here s l c m number below above))

-- ---- the rules' row

pub row_is : (s : Setup) (l : Looks) (c : CallName) (m : Message) → is_client s.kind ≡ true
    → took_named s l c m ≡ client_row (facts_of s l c m) (own_row s (opened s c l) c m)
row_is s l c m client = of s.kind client
  where
    of : (kind : Kind) → is_client kind ≡ true
        → side_row kind (facts_of s l c m) (own_row s (opened s c l) c m)
        ≡ client_row (facts_of s l c m) (own_row s (opened s c l) c m)
    of (Client host epoch) is = refl
    of (Server service nonces) is = absurd (false≢true is)

-- the row of the channel's own call
pub own_is : (s : Setup) (l : Looks) (c : CallName) (m : Message) (k : CallRecord) → is_client s.kind ≡ true
    → ((call : Took) → call ≡ client_row (facts_of s l c m) call) → latest_name l (channel_of c) ≡ c
    → call_at l c ≡ Some k
    → live_row s (used (connection_of c) l) k m m.body ≡ took_named s l c m
own_is s l c m k client is own there =
    used_row s l (connection_of c) k m m.body
    ∙ sym (row_is s l c m client ∙ sym (is (own_row s (opened s c l) c m))
    ∙ ap (λ (q : Looks). own_row s q c m) (opened_own s c l own)
    ∙ ap (λ (o : Option CallRecord). row_at s l o m) there)

-- ---- a message of a connection that is known

-- the latest call of its channel is active
pub own_active : (l : Looks) (c : CallName) (k : CallRecord) → latest_name l (channel_of c) ≡ c → call_at l c ≡ Some k
    → is_active k.life ≡ true → is_call (λ j. is_active j.life) (latest l (channel_of c)) ≡ true
own_active l c k own there active =
    ap (λ (d : CallName). is_call (λ j. is_active j.life) (call_at l d)) own
    ∙ ap (is_call (λ j. is_active j.life)) there ∙ active

-- the call that is active
record ActiveOne (o : Option CallRecord) : Type 0 where
  call : CallRecord
  there : o ≡ Some call
  active : is_active call.life ≡ true

active-one : (o : Option CallRecord) → is_call (λ k. is_active k.life) o ≡ true → ActiveOne o
active-one None is = absurd (false≢true is)
active-one (Some k) is = record { call = k; there = refl; active = is }

module _ (class : List ℕ → Class) (old touched new : NodeState) (l : Looks) (m : Mirrors class old l) (c : CallName)
    (msg : Message) (key : ℕ) (client : is_client old.kind ≡ true) (at : IsChannel l key (channel_of c))
    (number : msg.number ≡ c.number)
    (touches : (l : Looks) (x : ConnLooks) → Mirrors class old l → slice_get l.conns (key / 4) ≡ Some x
    → Mirrors class touched (used x.connection l)) where
  abbrev its : Setup
  its = setup_of class old

  abbrev ready : Looks
  ready = used (connection_of c) l

  touched-mirrors : Mirrors class touched ready
  touched-mirrors =
      subst (λ (x : Connection). Mirrors class touched (used x l)) (sym (ap (λ (d : Channel). d.connection) at.is))
      (touches l at.conn m at.there)

  touched-key : IsChannel ready key (channel_of c)
  touched-key = used_key l (connection_of c) key (channel_of c) at

  -- that a row in front of its call's answers
  pub turned_named : (row : Took) → ((call : Took) → row ≡ client_row (facts_of its l c msg) call)
      → StepsAt class touched new key (turned_from row msg.body)
      → TakesNamed class old new l c msg row
  turned_named row is steps =
      record {
        answered = is (own_row its (opened its c l) c msg) ∙ sym (row_is its l c msg client);
        mirrors = subst (λ (q : Looks). Mirrors class new q)
            (turned_with its l c msg row number (front_row (facts_of its l c msg) row is))
            (steps ready (channel_of c) touched-mirrors touched-key);
      }

  -- that its call answers
  pub owned_named : (got : Took) → ((call : Took) → call ≡ client_row (facts_of its l c msg) call)
      → KeepsNode old touched
      → ((q : Looks) (k : CallRecord) → IsOwn class touched q key c k → is_active k.life ≡ true
      → got ≡ live_row (setup_of class touched) q k msg msg.body)
      → ((q : Looks) (k : CallRecord) → IsOwn class touched q key c k → is_active k.life ≡ true
      → Mirrors class new (taken_with (setup_of class touched) got c msg q))
      → TakesNamed class old new l c msg got
  owned_named got is kept answers steps =
      let r = own_row_of (facts_of its l c msg) is in
      let own : latest_name l (channel_of c) ≡ c = latest_here its l c msg number r.below r.above in
      let a = active-one (latest l (channel_of c)) r.active in
      let there : call_at l c ≡ Some a.call = sym (ap (call_at l) own) ∙ a.there in
      let same : setup_of class touched ≡ its = kept_setup class old touched kept in
      let mine : IsOwn class touched ready key c a.call = record {
        mirrors = touched-mirrors;
        channel = touched-key;
        latest = used_latest l (connection_of c) (channel_of c) ∙ own;
        call = there;
      } in
      record {
        answered = answers ready a.call mine a.active
            ∙ ap (λ (s : Setup). live_row s ready a.call msg msg.body) same
            ∙ own_is its l c msg a.call client is own there;
        mirrors = subst (λ (s : Setup). Mirrors class new (taken_with s got c msg ready)) same
            (steps ready a.call mine a.active);
      }

-- ---- a message from a host

module _ (class : List ℕ → Class) (old new : NodeState) (l : Looks) (m : Mirrors class old l) (from : Host)
    (msg : Message)
    (client : is_client old.kind ≡ true) (unflagged : has_flag CLIENT_INITIATED msg.flags ≡ false) where
  abbrev its-own : Setup
  its-own = setup_of class old

  abbrev name : CallName
  name = named its-own from msg

  outer-is : outer_row its-own old.kind l from msg ≡ client_outer its-own l from msg
  outer-is = of old.kind client
    where
      of : (kind : Kind) → is_client kind ≡ true → outer_row its-own kind l from msg ≡ client_outer its-own l from msg
      of (Client host epoch) is = refl
      of (Server service nonces) is = absurd (false≢true is)

  outer-by : (b : Bool) → is_let_in (class old.secret) l from name msg ≡ b
      → outer_row its-own old.kind l from msg ≡ (if b then None else Some tooks.Strange)
  outer-by b is =
      outer-is
      ∙ ap (λ (f : Bool). if f then Some tooks.Foreign
      else if not (is_peer from (conn_at l (connection_of name))) then Some tooks.Strange
      else if not ((msg.index == (class old.secret).index) && is_for_clients (class old.secret).challenges msg.body)
      then Some tooks.Strange else None) unflagged
      ∙ of (is_peer from (conn_at l (connection_of name)))
      ((msg.index == (class old.secret).index) && is_for_clients (class old.secret).challenges msg.body)
      ∙ ap (λ (t : Bool). if t then None else Some tooks.Strange) is
    where
      of : (p q : Bool) → ◌≡◌ {A = Option Took}
          (if not p then Some tooks.Strange else if not q then Some tooks.Strange else None)
          (if p && q then None else Some tooks.Strange)
      of true true = refl
      of true false = refl
      of false q = refl

  -- that is let in
  pub let_message : (got : Took) (key : ℕ) → IsChannel l key (channel_of name)
      → is_let_in (class old.secret) l from name msg ≡ true → TakesNamed class old new l name msg got
      → TakesMessage class old new l from msg got
  let_message got key at is takes =
      record {
        answered = takes.answered
            ∙ sym (ap (λ (o : Option Took). else_row o (took_named its-own l name msg)) (outer-by true is));
        mirrors = subst (λ (q : Looks). Mirrors class new q)
            (ap (taken_with its-own got name msg)
            (sym (prepared_known its-own got (connection_of name) at.conn l
            (conn_of class old l m key (channel_of name) at)))
            ∙ sym (ap (λ (o : Option Took). taken_behind its-own o from name msg got l) (outer-by true is)))
            takes.mirrors;
      }

  -- that isn't
  pub out_message : is_let_in (class old.secret) l from name msg ≡ false
      → TakesMessage class old old l from msg tooks.Strange
  out_message is =
      record {
        answered = sym (ap (λ (o : Option Took). else_row o (took_named its-own l name msg)) (outer-by false is));
        mirrors = subst (λ (q : Looks). Mirrors class old q)
            (sym (ap (λ (o : Option Took). taken_behind its-own o from name msg tooks.Strange l) (outer-by false is)))
            m;
      }

-- a flag that isn't set
pub unset : (n : ℕ) → n ≡ 0 → not (n == 0) ≡ false
unset n none = grind (arith, nat_tests)
