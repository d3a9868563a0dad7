-- One fair round as the two ends of a call have it, where the call is at work at both.
use Rattle.std.proofs.Common.{◌≡◌, ◌<◌, ℕ, Bool, List, [], ◌∷◌, Some, None}
use Rattle.rx_model.specs.declared.answers.Took.{Took}
use Rattle.rx_model.specs.declared.wire.TheConstants.{REQUEST_ACK}
use Rattle.rx_model.specs.Message.{Message, has_flag}
use Rattle.rx_rules.specs.CallItems.{Sending, after_sending, next_sending, sending_body, sending_flags, sending_seq}
use Rattle.rx_rules.specs.CallLooks.{CallLooks, NodeView, after_read, after_shut, after_taken, after_write, call_row}
use Rattle.rx_rules.specs.Setup.{Setup, is_client, receiving_window}
use Rattle.rx_between.specs.Agreed.{MakesSense}

-- what a node tells one of its calls at a moment, whatever slots are left
pub record IsViewAt (s : Setup) (now : ℕ) (v : NodeView) : Type 0 where
  pub client : v.client ≡ is_client s.kind
  pub window : v.window ≡ receiving_window s
  pub moment : v.now ≡ now

-- ---- polls

-- a message with what an end gives
pub record IsGiven (s : Setup) (k : CallLooks) (x : Sending) (m : Message) : Type 0 where
  pub seq : m.seq ≡ sending_seq x
  pub body : m.body ≡ sending_body (receiving_window s) k x
  pub asks : has_flag REQUEST_ACK m.flags ≡ has_flag REQUEST_ACK (sending_flags k x)

-- an end is polled until it has nothing to give: what it gave, the oldest first
pub data GivesOut (s : Setup) (now : ℕ) : CallLooks → List Sending → List Message → CallLooks → Type 0 where
  gives_none : (k : CallLooks)
      → ((v : NodeView) → IsViewAt s now v → next_sending v k ≡ None) → GivesOut s now k [] [] k
  gives_one : (k f : CallLooks) (x : Sending) (m : Message) (xs : List Sending) (ms : List Message)
      → ((v : NodeView) → IsViewAt s now v → next_sending v k ≡ Some x) → IsGiven s k x m
      → GivesOut s now (after_sending now x k) xs ms f → GivesOut s now k (x ∷ xs) (m ∷ ms) f

-- ---- deliveries

-- an end takes these messages, one after another, each with the answer of its own row, which makes sense
pub data TakesIn (s : Setup) (now : ℕ) : CallLooks → List Message → CallLooks → Type 0 where
  takes_none : (k : CallLooks) → TakesIn s now k [] k
  takes_one : (k f : CallLooks) (m : Message) (ms : List Message) (v : NodeView) (got : Took) → IsViewAt s now v
      → call_row v m m.body k ≡ got → MakesSense got → TakesIn s now (after_taken v got m k) ms f
      → TakesIn s now k (m ∷ ms) f

-- ---- turns

-- an end is read, written and shut
pub data TurnsOn (now : ℕ) : CallLooks → CallLooks → Type 0 where
  turns_none : (k : CallLooks) → TurnsOn now k k
  turns_read : (k f : CallLooks) (end : Bool) (bytes : List ℕ) → TurnsOn now (after_read now end bytes k) f
      → TurnsOn now k f
  turns_write : (k f : CallLooks) (bytes : List ℕ) → TurnsOn now (after_write bytes k) f → TurnsOn now k f
  turns_shut : (k f : CallLooks) → TurnsOn now (after_shut k) f → TurnsOn now k f

-- ---- a round

-- both ends are polled, take what the other gave, and have a turn; then the clocks may move. Where something else was
-- given in the round, none of it was of this call
pub record Passes (client server : Setup) (now_c now_s : ℕ) (kc ks kc4 ks4 : CallLooks) (time : ℕ) : Type 0 where
  pub out_c : List Sending
  pub gave_c : List Message
  pub kc1 : CallLooks
  pub gives_c : GivesOut client now_c kc out_c gave_c kc1
  pub out_s : List Sending
  pub gave_s : List Message
  pub ks1 : CallLooks
  pub gives_s : GivesOut server now_s ks out_s gave_s ks1
  pub ks2 : CallLooks
  pub takes_s : TakesIn server now_s ks1 gave_c ks2
  pub kc2 : CallLooks
  pub takes_c : TakesIn client now_c kc1 gave_s kc2
  pub turn_s : TurnsOn now_s ks2 ks4
  pub turn_c : TurnsOn now_c kc2 kc4
  -- a clock moves only where nothing was given
  pub moves : (0 < time) → (out_c ≡ []) × (out_s ≡ [])
