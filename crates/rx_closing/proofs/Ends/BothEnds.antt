-- The two ends of a call in rounds in which no number of either moves: what is known of them.
use Rattle.std.proofs.Common.{◌≡◌, ◌≤◌, ◌+◌, ◌==◌, is_some, ℕ, false, List, Some}
use Rattle.rx_model.specs.declared.wire.TheConstants.{ACK_DELAY_MS, ACK_PING, MAX_RTO_MS, MIN_RTO_MS}
use Rattle.rx_rules.specs.CallLooks.{CallLooks}
use Rattle.rx_rules.specs.Owing.{Owed}
use Rattle.rx_rules.specs.Received.{Received, front_of, packet_at, used_of}
use Rattle.rx_rules.specs.Sent.{Giving, LastGiving, Sent, counting_of, given_of, last_giving, lowest_of, pieces_of}
use Rattle.rx_rules.specs.Setup.{Setup}
use Rattle.rx_between.specs.Acknowledged.{AreTrue}
use Rattle.rx_between.specs.Agreed.{AreGiven}
use Rattle.rx_between.proofs.SaysLate.{IsSilent}
use Rattle.rx_progress.specs.Moving.{IsDrained}
use Rattle.rx_closing.proofs.Steps.{Passes}

-- ---- one end

-- a piece was given, the last time by this moment
pub record GivenBy (now : ℕ) (gs : List Giving) (seq : ℕ) : Type 0 where
  pub last : LastGiving
  pub is : last_giving gs seq ≡ Some last
  pub by : last.moment ≤ now

-- an end that isn't prompt, with windows that let something go
pub record IsFit (now : ℕ) (k : CallLooks) : Type 0 where
  pub steady : k.cwnd.prompt ≡ false
  pub most : 1 ≤ k.cwnd.most
  pub open_ : 1 ≤ k.cwnd.window
  pub lets : 1 ≤ k.sent.peer_window
  pub even : k.rtt.prompt ≡ false
  pub soon : k.rtt.rto ≤ MAX_RTO_MS
  pub slow : MIN_RTO_MS ≤ k.rtt.rto
  pub known : (j : ℕ) → 1 ≤ j → j ≤ given_of k.sent → GivenBy now k.sent.givings j
  pub spoke : k.spoke ≤ now
  pub heard : k.heard ≤ now
  pub low : (o : Owed) → k.owed_ack ≡ Some o → o.rank ≤ now + ACK_DELAY_MS
  pub plain : (o : Owed) → k.owed_ack ≡ Some o → (o.reason == ACK_PING) ≡ false
  pub acked : k.sent.acked ≤ given_of k.sent
  pub counts : given_of k.sent ≤ counting_of k.sent

-- no number of an end moved
pub record Stood (a b : CallLooks) : Type 0 where
  pub pieces : pieces_of b.sent ≡ pieces_of a.sent
  pub given : given_of b.sent ≡ given_of a.sent
  pub acked : b.sent.acked ≡ a.sent.acked
  pub shut : b.sent.shut ≡ a.sent.shut
  pub front : front_of b.received.kept ≡ front_of a.received.kept
  pub used : used_of b.received ≡ used_of a.received
  pub ended : b.received.ended ≡ a.received.ended

-- ---- both ends

-- what the client and the server know of each other, drained as each is; a server that lacks the lowest piece of the
-- request said nothing yet
pub record Linked (a b : CallLooks) : Type 0 where
  pub request_true : AreTrue a.sent b.received
  pub reply_true : AreTrue b.sent a.received
  pub request_given : AreGiven a.sent b.received
  pub reply_given : AreGiven b.sent a.received
  pub client_drained : IsDrained a.received
  pub server_drained : IsDrained b.received
  pub late :
      lowest_of a.sent ≤ given_of a.sent → is_some (packet_at b.received.kept (lowest_of a.sent)) ≡ false
      → IsSilent b.sent

-- the two ends at the beginning of a round, and their clocks
pub record Ends : Type 0 where
  pub client : CallLooks
  pub server : CallLooks
  pub client_now : ℕ
  pub server_now : ℕ

-- a round that moves none of their numbers
pub record Round (cs ss : Setup) (e f : Ends) : Type 0 where
  pub time : ℕ
  pub passes : Passes cs ss e.client_now e.server_now e.client e.server f.client f.server time
  pub client_now : f.client_now ≡ e.client_now + time
  pub server_now : f.server_now ≡ e.server_now + time
  pub client_stood : Stood e.client f.client
  pub server_stood : Stood e.server f.server
  pub client_fit : IsFit e.client_now e.client
  pub server_fit : IsFit e.server_now e.server
  pub linked : Linked e.client e.server

-- ---- at rest

-- one direction of which all that counts was given, came, was read and is known to have come
pub record RestsOn (sent : Sent) (received : Received) : Type 0 where
  pub acked : sent.acked ≡ given_of sent
  pub front : front_of received.kept ≡ given_of sent
  pub used : used_of received ≡ given_of sent
  pub counts : counting_of sent ≡ given_of sent
