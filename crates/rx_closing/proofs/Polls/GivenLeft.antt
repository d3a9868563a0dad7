-- What the giving of a message leaves of a node: its calls, its clock, its stray aborts, and a channel that owes
-- nothing of one call.
use Rattle.std.proofs.Common.{◌≡◌, ℕ, zero, suc, Bool, true, false, cond, List, [], ◌∷◌, refl, ap, sym, subst, ◌∙◌}
use Rattle.std.proofs.Common.{Option, Some, None, option_map}
use Rattle.std.specs.Prelude.{option_and_then, slice_get, unwrap_or}
use Rattle.rx_model.specs.declared.names.CallName.{CallName}
use Rattle.rx_model.specs.Body.{Body}
use Rattle.rx_model.specs.Body as bodies
use Rattle.rx_model.specs.Message.{Message}
use Rattle.rx_model.specs.Names.{Channel, Connection, channel_of, connection_of, same_connection}
use Rattle.rx_rules.specs.After.{counted, given_body}
use Rattle.rx_rules.specs.CallItems.{Sending, Piece, Ack, after_sending}
use Rattle.rx_rules.specs.Items.{Item, item_of, message_on}
use Rattle.rx_rules.specs.Looks.{CallRecord, ChannelLooks, ConnLooks, Looks, call_at, changed_at, channel_at, conn_at}
use Rattle.rx_rules.specs.Looks.{fresh_channel, on_channel, on_conn, on_looks}
use Rattle.rx_rules.specs.Setup.{Setup}
use Rattle.rx_rules.proofs.ConnsLaws.{conn_at-on_conn, conn_if}
use Rattle.rx_between.proofs.Each.EachItem.{IsOther}
use Rattle.rx_closing.proofs.Polls.Polled.{QuietBut}

-- ---- what a giving leaves of calls, clock, strays and channels

pub others_left : (n : CallName) (m : Message) (body : Body) (l : Looks) → IsOther body
    → (given_body n m body (counted (connection_of n) l)).calls ≡ l.calls
others_left n m (bodies.Chunk payload) l other = absurd other
others_left n m (bodies.Ack a) l other = absurd other
others_left n m _ l other = refl

pub given_now : (n : CallName) (m : Message) (body : Body) (l : Looks)
    → (given_body n m body (counted (connection_of n) l)).now ≡ l.now
given_now n m (bodies.Abort code) l = refl
given_now n m bodies.Busy l = refl
given_now n m (bodies.Challenge b) l = refl
given_now n m (bodies.Response b) l = refl
given_now n m bodies.AckAll l = refl
given_now n m (bodies.Chunk payload) l = refl
given_now n m (bodies.Ack a) l = refl

pub given_strays : (n : CallName) (m : Message) (body : Body) (l : Looks)
    → (given_body n m body (counted (connection_of n) l)).strays ≡ l.strays
given_strays n m (bodies.Abort code) l = refl
given_strays n m bodies.Busy l = refl
given_strays n m (bodies.Challenge b) l = refl
given_strays n m (bodies.Response b) l = refl
given_strays n m bodies.AckAll l = refl
given_strays n m (bodies.Chunk payload) l = refl
given_strays n m (bodies.Ack a) l = refl

-- a call's item is given as its end gives it
pub call_left : (s : Setup) (l : Looks) (k : CallRecord) (rank : ℕ) (x : Sending) (i : Item) (m : Message)
    (conn : ConnLooks) → i ≡ item_of s k (record { rank = rank; sending = x }) → m ≡ message_on s i conn
    → (given_body i.name m m.body (counted (connection_of i.name) l)).calls
    ≡ (on_looks k.name (after_sending l.now x) l).calls
call_left s l k rank (Piece seq again) i m conn item message =
    ap (λ (n : Message). (given_body i.name n n.body (counted (connection_of i.name) l)).calls) message
    ∙ ap (λ (j : Item). (given_body j.name (message_on s j conn) j.body (counted (connection_of j.name) l)).calls) item
call_left s l k rank (Ack reason serial) i m conn item message =
    ap (λ (n : Message). (given_body i.name n n.body (counted (connection_of i.name) l)).calls) message
    ∙ ap (λ (j : Item). (given_body j.name (message_on s j conn) j.body (counted (connection_of j.name) l)).calls) item

-- look-ups by the list of calls alone
pub at_calls : (l m : Looks) (d : CallName) → m.calls ≡ l.calls → call_at m d ≡ call_at l d
at_calls l m d same = ap (λ (ks : List CallRecord). call_at (record l { calls = ks }) d) same

-- ---- a channel behind a giving

module _ (c : CallName) where
  abbrev Stays : (ChannelLooks → ChannelLooks) → Type 0
  Stays f = (q : ChannelLooks) → QuietBut c q → QuietBut c (f q)

  changed_quiet : (f : ChannelLooks → ChannelLooks) (qs : List ChannelLooks) (n k : ℕ) → Stays f
      → QuietBut c (unwrap_or (slice_get qs k) (fresh_channel 0))
      → QuietBut c (unwrap_or (slice_get (changed_at n f qs) k) (fresh_channel 0))
  changed_quiet f [] n k stays here = here
  changed_quiet f (q ∷ qs) zero zero stays here = stays q here
  changed_quiet f (q ∷ qs) zero (suc k) stays here = here
  changed_quiet f (q ∷ qs) (suc n) zero stays here = here
  changed_quiet f (q ∷ qs) (suc n) (suc k) stays here = changed_quiet f qs n k stays here

  conn_quiet : (x : Connection) (f : ConnLooks → ConnLooks) (l : Looks) (ch : Channel)
      → ((r : ConnLooks) → (f r).connection ≡ r.connection)
      → ((r : ConnLooks) → QuietBut c (unwrap_or (slice_get r.channels ch.chan) (fresh_channel 0))
      → QuietBut c (unwrap_or (slice_get (f r).channels ch.chan) (fresh_channel 0)))
      → QuietBut c (channel_at l ch)
      → QuietBut c (channel_at (on_conn x f l) ch)
  conn_quiet x f l ch names stays here =
      subst (λ (o : Option ConnLooks). QuietBut c (unwrap_or (option_and_then (λ (r : ConnLooks).
      slice_get r.channels ch.chan) o) (fresh_channel 0))) (sym (conn_at-on_conn ch.connection x f l names))
      (of (conn_at l ch.connection) here)
    where
      by : (b : Bool) (r : ConnLooks) → QuietBut c (unwrap_or (slice_get r.channels ch.chan) (fresh_channel 0))
          → QuietBut c (unwrap_or (slice_get (cond b (f r) r).channels ch.chan) (fresh_channel 0))
      by true r quiet = stays r quiet
      by false r quiet = quiet

      of : (o : Option ConnLooks)
          → QuietBut c (unwrap_or (option_and_then (λ (r : ConnLooks). slice_get r.channels ch.chan) o)
          (fresh_channel 0))
          → QuietBut c (unwrap_or (option_and_then (λ (r : ConnLooks). slice_get r.channels ch.chan)
          (option_map (conn_if x f) o)) (fresh_channel 0))
      of None quiet = quiet
      of (Some r) quiet = by (same_connection r.connection x) r quiet

  on_quiet : (d : Channel) (f : ChannelLooks → ChannelLooks) (l : Looks) (ch : Channel) → Stays f
      → QuietBut c (channel_at l ch) → QuietBut c (channel_at (on_channel d f l) ch)
  on_quiet d f l ch stays here =
      conn_quiet d.connection (λ r. record r { channels = changed_at d.chan f r.channels }) l ch (λ r. refl)
      (λ r quiet. changed_quiet f r.channels d.chan ch.chan stays quiet) here

  -- what was owed is given
  pub given_quiet : (n : CallName) (m : Message) (body : Body) (l : Looks) (ch : Channel) → QuietBut c (channel_at l ch)
      → QuietBut c (channel_at (given_body n m body (counted (connection_of n) l)) ch)
  given_quiet n m body l ch here = of body
    where
      count : QuietBut c (channel_at (counted (connection_of n) l) ch)
      count =
          conn_quiet (connection_of n) (λ r. record r { given = suc r.given; last_use = l.now }) l ch (λ r. refl)
          (λ r quiet. quiet) here

      of : (b : Body) → QuietBut c (channel_at (given_body n m b (counted (connection_of n) l)) ch)
      of (bodies.Chunk payload) = count
      of (bodies.Ack a) = count
      of (bodies.Abort code) =
          on_quiet (channel_of n) (λ q. record q { owed_abort = None }) (counted (connection_of n) l) ch
          (λ q quiet. record {
            abort = refl;
            ackall = quiet.ackall;
            challenge = quiet.challenge;
            response = quiet.response;
            busy = quiet.busy;
          }) count
      of bodies.Busy =
          on_quiet (channel_of n) (λ q. record q { owed_busy = None }) (counted (connection_of n) l) ch
          (λ q quiet. record {
            abort = quiet.abort;
            ackall = quiet.ackall;
            challenge = quiet.challenge;
            response = quiet.response;
            busy = λ k is. absurd cc;
          }) count
      of (bodies.Challenge b) =
          on_quiet (channel_of n) (λ q. record q { owed_challenge = false }) (counted (connection_of n) l) ch
          (λ q quiet. record {
            abort = quiet.abort;
            ackall = quiet.ackall;
            challenge = refl;
            response = quiet.response;
            busy = quiet.busy;
          }) count
      of (bodies.Response b) =
          on_quiet (channel_of n) (λ q. record q { owed_response = None }) (counted (connection_of n) l) ch
          (λ q quiet. record {
            abort = quiet.abort;
            ackall = quiet.ackall;
            challenge = quiet.challenge;
            response = refl;
            busy = quiet.busy;
          }) count
      of bodies.AckAll =
          on_quiet (channel_of n) (λ q. record q { owed_ackall = false }) (counted (connection_of n) l) ch
          (λ q quiet. record {
            abort = quiet.abort;
            ackall = refl;
            challenge = quiet.challenge;
            response = quiet.response;
            busy = quiet.busy;
          }) count
