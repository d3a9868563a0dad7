-- What a use of a connection leaves of it, and of the rows of its calls.
use Rattle.std.proofs.Common.{◌≡◌, ◌⊎◌, ◌-◌, cond, Bool, true, false, Option, Some, None, option_map, refl, ◌∙◌}
use Rattle.std.proofs.Common.{ap}
use Rattle.std.proofs.Common.{inl, inr}
use Rattle.std.specs.Prelude.{unwrap_or}
use Rattle.rx_model.specs.Body.{Body}
use Rattle.rx_model.specs.Body as bodies
use Rattle.rx_model.specs.Message.{Message}
use Rattle.rx_model.specs.Names.{Connection, connection_of, same_connection}
use Rattle.rx_rules.specs.CallLooks.{NodeView, call_row}
use Rattle.rx_rules.specs.Judging.{end_row, is_data, live_row, nonce_at, response_row}
use Rattle.rx_rules.specs.Looks.{CallRecord, ConnLooks, Looks, conn_at, is_proved}
use Rattle.rx_rules.specs.Records.{used}
use Rattle.rx_rules.specs.Setup.{Setup, nonce_of, shared_slots}
use Rattle.rx_rules.specs.Slots.{beside_all, node_view}
use Rattle.rx_rules.proofs.ConnsLaws.{conn_at-on_conn, conn_if}

-- a use of a connection leaves its nonce, and whether its client is proved
pub used_same : (s : Setup) (x y : Connection) (l : Looks)
    → (nonce_at s (conn_at (used x l) y) ≡ nonce_at s (conn_at l y)) × (is_proved (used x l) y ≡ is_proved l y)
used_same s x y l = (
  ap (nonce_at s) found ∙ nonce (conn_at l y),
  ap (λ (o : Option ConnLooks). unwrap_or (option_map (λ r. r.proved) o) false) found
      ∙ proof (conn_at l y),
)
  where
    change : ConnLooks → ConnLooks
    change r = record r { last_use = l.now }

    found : conn_at (used x l) y ≡ option_map (conn_if x change) (conn_at l y)
    found = conn_at-on_conn y x change l (λ r. refl)

    one : (b : Bool) (r : ConnLooks) → (cond b (change r) r).order ≡ r.order
    one true r = refl
    one false r = refl

    two : (b : Bool) (r : ConnLooks) → (cond b (change r) r).proved ≡ r.proved
    two true r = refl
    two false r = refl

    nonce : (o : Option ConnLooks) → nonce_at s (option_map (conn_if x change) o) ≡ nonce_at s o
    nonce None = refl
    nonce (Some r) = ap (nonce_of s.kind) (one (same_connection r.connection x) r)

    proof : (o : Option ConnLooks)
        → unwrap_or (option_map (λ r. r.proved) (option_map (conn_if x change) o)) false
        ≡ unwrap_or (option_map (λ r. r.proved) o) false
    proof None = refl
    proof (Some r) = two (same_connection r.connection x) r

-- ---- the row of a live call

module _ (s : Setup) (q r : Looks) (now : q.now ≡ r.now) (calls : q.calls ≡ r.calls) where
  view_by : node_view s q ≡ node_view s r
  view_by = (λ i. record {
    client = (node_view s q).client;
    window = (node_view s q).window;
    left = shared_slots s - beside_all (calls i);
    now = now i;
  })

  -- of a message that no connection has to answer for
  end_by : (k : CallRecord) (m : Message) → end_row s q k m ≡ end_row s r k m
  end_by k m = ap (λ (v : NodeView). call_row v m m.body k.looks) view_by

  -- where both say the same of its connection
  pub live_by : (k : CallRecord) (m : Message) (body : Body)
      → (is_data body ≡ true)
      ⊎ ((nonce_at s (conn_at q (connection_of k.name)) ≡ nonce_at s (conn_at r (connection_of k.name)))
      × (is_proved q (connection_of k.name) ≡ is_proved r (connection_of k.name)))
      → live_row s q k m body ≡ live_row s r k m body
  live_by k m (bodies.Response bytes) (inl said) = absurd (cc (said))
  live_by k m (bodies.Response bytes) (inr same) =
      (λ i. response_row (s.class.check k.name (same.0 i) bytes) (same.1 i))
  live_by k m (bodies.Challenge bytes) either = refl
  live_by k m (bodies.Chunk payload) either = end_by k m
  live_by k m bodies.Busy either = end_by k m
  live_by k m (bodies.Ack a) either = end_by k m
  live_by k m (bodies.Abort code) either = end_by k m
  live_by k m bodies.AckAll either = end_by k m

-- so the row of a call stays where a connection is used
pub used_row : (s : Setup) (l : Looks) (x : Connection) (k : CallRecord) (m : Message) (body : Body)
    → live_row s (used x l) k m body ≡ live_row s l k m body
used_row s l x k m body =
    live_by s (used x l) l refl refl k m body (inr (used_same s x (connection_of k.name) l))
