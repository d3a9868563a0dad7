-- One way of a call over a network that loses nothing, as it stands between two rounds: what the one that says the
-- stream gave of it and knows of the other end, and what the other end kept.
use Rattle.std.proofs.Common.{take, ◌==◌, ◌≡◌, ◌<◌, ◌≤◌, ◌*◌, ◌+◌, ◌^◌, ℕ, true, false, List, [], ◌++◌}
use Rattle.std.specs.Prelude.{IfSome, IsSomeAnd}
use Rattle.rx_model.specs.declared.wire.TheConstants.{ACK_PING}
use Rattle.rx_rules.specs.CallLooks.{CallLooks}
use Rattle.rx_rules.specs.Owing.{Owed}
use Rattle.rx_rules.specs.Received.{marks_of, unread_of, used_of}
use Rattle.rx_rules.specs.Sent.{counting_of, given_of, held_pieces, last_giving}
use Rattle.rx_rounds.proofs.Flow.{total}
use Rattle.rx_rounds.proofs.Keeper.{part_read}

-- an end as its node's limits make it, and as it stays where nothing is lost
pub record IsSteady (k : CallLooks) : Type 0 where
  pub wide : 1 ≤ k.cwnd.window
  pub most : k.cwnd.most ≡ 32
  pub steady : k.cwnd.prompt ≡ false
  pub even : k.rtt.prompt ≡ false
  pub slow : 350 ≤ k.rtt.rto

-- the end that says a stream, of which it gave n pieces: the first a are hard acknowledged, marks are of some of the
-- others, and all of these were last given at this moment or later
pub record Sends (whole : List ℕ) (since a n : ℕ) (k : CallLooks) : Type 0 where
  pub acked : k.sent.acked ≡ a
  pub given : given_of k.sent ≡ n
  pub marked : (j : ℕ) → n < j → k.sent.soft j ≡ false
  pub peer : k.sent.peer_window ≡ 32
  pub known : a ≤ n
  pub near : n ≤ a + 32
  pub counted : n ≤ counting_of k.sent
  pub rest : List ℕ
  pub said : whole ≡ k.sent.said ++ rest
  pub shut : k.sent.shut ≡ true → rest ≡ []
  pub held : held_pieces k.sent ≤ 32
  pub rates : IsSteady k
  pub recent : (j : ℕ) → a < j → j ≤ n → IsSomeAnd (last_giving k.sent.givings j) (λ g. since ≤ g.moment)

-- an acknowledgement that is owed can be written
pub record IsPlainOwed (o : Owed) : Type 0 where
  pub reason_low : 1 ≤ o.reason
  pub reason_high : o.reason ≤ 8
  pub serial : o.serial < 2 ^ 32
  pub no_ping : (o.reason == ACK_PING) ≡ false

-- the end that receives a stream, done with n packets and keeping no others: this is what an ACK tells
pub record Tells (n : ℕ) (k : CallLooks) : Type 0 where
  pub used : used_of k.received ≡ n
  pub marks : marks_of k.received ≡ []
  pub previous : k.received.previous < 2 ^ 32
  pub plain : IfSome k.owed_ack IsPlainOwed

-- the end that receives a stream kept n pieces of it, and its reader read them out; there are more to come
pub record Reads (whole : List ℕ) (n : ℕ) (k : CallLooks) : Type 0 where
  pub read : List ℕ
  pub previous : ℕ
  pub kept : k.received ≡ part_read whole read previous n
  pub low : previous < 2 ^ 32
  pub short : n < total whole
  pub exact : read ≡ take (1412 * n) whole
  pub out : unread_of k.received ≡ []
  pub plain : IfSome k.owed_ack IsPlainOwed

-- an ACK is owed from this moment on, or before
abbrev pub IsOwedBy : ℕ → CallLooks → Type 0
IsOwedBy moment k = IsSomeAnd k.owed_ack (λ o. o.rank ≤ moment)
