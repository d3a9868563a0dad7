-- What a history says of one end of a call, and the steps that change it. Public clauses cite this module.
use Rattle.std.specs.Prelude.{◌&&◌, ◌||◌, ◌+◌, ◌-◌, not, if◌then◌else◌, nat_lt, nat_le, ℕ, Bool, List}
use Rattle.std.specs.Prelude.{Option, Some, None}
use Rattle.rx_model.specs.declared.answers.Took.{Took}
use Rattle.rx_model.specs.declared.answers.Took.TheVariants as tooks
use Rattle.rx_model.specs.declared.pace.Pace.{Pace}
use Rattle.rx_model.specs.declared.wire.TheConstants.{LAST_PACKET}
use Rattle.rx_model.specs.Body.{Body, AckBody}
use Rattle.rx_model.specs.Body as bodies
use Rattle.rx_model.specs.Message.{Message, has_flag}
use Rattle.rx_rules.specs.Owing.{Owed, owed_for, owed_for_ack, owed_for_given, owed_for_read}
use Rattle.rx_rules.specs.Rates.{Rtt, Cwnd, first_rtt, first_cwnd, after_sample, after_backoff, after_acked}
use Rattle.rx_rules.specs.Lost.{is_lost, halves}
use Rattle.rx_rules.specs.Rates.{after_timeout, after_loss}
use Rattle.rx_rules.specs.Received.{Received, Packet, Arrival, nothing_received, after_packet, arrival_of, arrival_row}
use Rattle.rx_rules.specs.Received.{has_slot, has_hole, front_of, is_no_seq, used_of}
use Rattle.rx_rules.specs.Received.{count_above}
use Rattle.rx_rules.specs.Received as packets
use Rattle.rx_rules.specs.Sent.{Sent, Newly, nothing_sent, held_pieces, given_of, is_all_given, is_strange_ack}
use Rattle.rx_rules.specs.Sent.{newly_of, is_all_acked, is_all_known}
use Rattle.rx_rules.specs.Sent as streams

-- what it received and what it said; its rates; the acknowledgement that it owes; the moment at which it was last
-- heard, and that of its last giving of a DATA or an ACK, each at first that of its start
pub record CallLooks : Type 0 where
  pub received : Received
  pub sent : Sent
  pub rtt : Rtt
  pub cwnd : Cwnd
  pub owed_ack : Option Owed
  pub heard : ℕ
  pub spoke : ℕ

-- a call that starts at a node of this pace
abbrev pub fresh_call : Pace → ℕ → CallLooks
fresh_call pace now =
    record {
      received = nothing_received;
      sent = nothing_sent;
      rtt = first_rtt pace.prompt;
      cwnd = first_cwnd pace.window pace.prompt;
      owed_ack = None;
      heard = now;
      spoke = now;
    }

-- what a node tells the end of a call: whether it is a client, its window, how many slots are left beside one for each
-- call, and its moment
pub record NodeView : Type 0 where
  pub client : Bool
  pub window : ℕ
  pub left : ℕ
  pub now : ℕ

-- ---- slots

-- one for each packet that is kept and not done with, and one for each piece that isn't hard acknowledged
abbrev pub held : CallLooks → ℕ
held k = count_above (used_of k.received) k.received.kept + held_pieces k.sent

-- whether it holds a packet that stands without a gap, or a piece
abbrev pub has_lead : CallLooks → Bool
has_lead k = nat_lt (used_of k.received) (front_of k.received.kept) || nat_lt 0 (held_pieces k.sent)

-- 1 for a call with a lead
abbrev pub lead : CallLooks → ℕ
lead k = if has_lead k then 1 else 0

-- ---- the end of what it said

-- the other end has all of it: each piece is hard acknowledged; of a prompt node soft acknowledgements count too, as
-- OpenAFS's do (rxi_ReceiveAckPacket in its rx.c)
abbrev pub is_delivered : CallLooks → Bool
is_delivered k = is_all_acked k.sent || (k.cwnd.prompt && is_all_known k.sent)

-- ---- a message comes

-- the packet that a message brings
abbrev pub packet_of : Message → List ℕ → Packet
packet_of m payload =
    record { seq = m.seq; piece = record { payload = payload; last = has_flag LAST_PACKET m.flags } }

-- as a data packet finds it: at a client reply data acknowledges the whole request
abbrev pub found : Bool → CallLooks → CallLooks
found client k = record k { sent = (if client then streams.after_all k.sent else k.sent) }

-- how many slots that gives back, beside the lead
abbrev pub freed : Bool → CallLooks → ℕ
freed client k = (held k - lead k) - (held (found client k) - lead (found client k))

-- what decides the row of a data packet: a client takes no reply before its request is all given
abbrev pub arrival : Bool → ℕ → ℕ → Packet → CallLooks → Arrival
arrival client window left p k =
    record (arrival_of window (has_slot (not (has_lead k)) left p.seq k.received) p k.received) {
      is_strange = is_no_seq p.seq || (client && not (is_all_given k.sent));
    }

-- what becomes of a message for a live call
abbrev pub call_row : NodeView → Message → Body → CallLooks → Took
call_row v m (bodies.Chunk payload) k =
    arrival_row (arrival v.client v.window (v.left + freed v.client k) (packet_of m payload) (found v.client k))
call_row v m (bodies.Ack a) k = if is_strange_ack a.first a.marks k.sent then tooks.Strange else tooks.Heard
call_row v m bodies.AckAll k = if is_all_given k.sent then tooks.Heard else tooks.Strange
call_row v m bodies.Busy k = tooks.Heard
call_row v m (bodies.Abort code) k = tooks.Stopped
call_row v m (bodies.Challenge bytes) k = tooks.Heard
call_row v m (bodies.Response bytes) k = tooks.Heard

-- a data packet with an answer other than Strange
abbrev pub after_data : Took → ℕ → Message → List ℕ → CallLooks → CallLooks
after_data got now m payload k =
    record k {
      received = after_packet got (packet_of m payload) k.received;
      owed_ack = owed_for got now k.cwnd.prompt (has_hole k.received) m (front_of k.received.kept) k.owed_ack;
      heard = now;
    }

-- data that was judged
abbrev pub after_chunk : NodeView → Took → Message → Body → CallLooks → CallLooks
after_chunk v got m (bodies.Chunk payload) k = after_data got v.now m payload (found v.client k)
after_chunk v got m _ k = k

-- a round trip that was measured, or none
abbrev pub sampled : Option ℕ → Rtt → Rtt
sampled None r = r
sampled (Some ms) r = after_sample ms r

-- what an ACK newly acknowledges sets the rates
abbrev pub after_newly : Newly → CallLooks → CallLooks
after_newly n k = record k { rtt = sampled n.sample k.rtt; cwnd = after_acked n.count k.cwnd }

-- an ACK that was heard
abbrev pub after_ack : ℕ → Message → AckBody → CallLooks → CallLooks
after_ack now m a k =
    record (after_newly (newly_of now a.first a.marks k.sent) k) {
      sent = streams.after_ack a.first a.marks a.window k.sent;
      owed_ack = owed_for_ack a.reason m.serial k.owed_ack;
    }

-- an ACK acknowledges some of what was sent, an ACKALL all of it; other kinds show only that the peer is there
abbrev pub after_body : ℕ → Message → Body → CallLooks → CallLooks
after_body now m (bodies.Ack a) k = after_ack now m a k
after_body now m bodies.AckAll k = record k { sent = streams.after_all k.sent }
after_body now m _ k = k

-- behind a message with this answer
abbrev pub after_taken : NodeView → Took → Message → CallLooks → CallLooks
after_taken v tooks.Kept m k = after_chunk v tooks.Kept m m.body k
after_taken v tooks.Repeat m k = after_chunk v tooks.Repeat m m.body k
after_taken v tooks.Beyond m k = after_chunk v tooks.Beyond m m.body k
after_taken v tooks.Clash m k = after_chunk v tooks.Clash m m.body k
after_taken v tooks.NoSlot m k = after_chunk v tooks.NoSlot m m.body k
after_taken v tooks.Heard m k = record (after_body v.now m m.body k) { heard = v.now }
after_taken v _ m k = k

-- ---- the application's calls

-- a write of which these bytes were accepted
abbrev pub after_write : List ℕ → CallLooks → CallLooks
after_write bytes k = record k { sent = streams.after_write bytes k.sent }

-- the end of its own stream
abbrev pub after_shut : CallLooks → CallLooks
after_shut k = record k { sent = streams.after_shut k.sent }

-- a read that gave these bytes, or the end; where more packets are done with, it is acknowledged, later or at once
abbrev pub after_read : ℕ → Bool → List ℕ → CallLooks → CallLooks
after_read now end bytes k =
    record k {
      received = packets.after_read end bytes k.received;
      owed_ack =
          owed_for_read now k.cwnd.prompt (used_of k.received) (used_of (packets.after_read end bytes k.received))
          k.owed_ack;
    }

-- ---- givings

-- a prompt node tells a hole again once it keeps packet 1 too: so a lone packet, which may be forged, is told once
abbrev pub tells_hole : CallLooks → Bool
tells_hole k = k.cwnd.prompt && has_hole k.received && nat_lt 0 (front_of k.received.kept)

-- an ACK was given: whatever was owed is told, and a hole maybe again
abbrev pub after_ack_given : ℕ → CallLooks → CallLooks
after_ack_given now k =
    record k {
      owed_ack = owed_for_given now (tells_hole k) (now - k.heard);
      spoke = now;
    }

-- piece seq is given as its time is up: it was given before, and isn't taken for lost
abbrev pub is_timed_out : CallLooks → ℕ → Bool
is_timed_out k seq = nat_le seq (given_of k.sent) && not (is_lost k.cwnd k.sent seq)

-- a piece whose time was up waits longer for its next time, and the window closes; one that is taken for lost may close
-- it by half
abbrev pub slowed : Bool → Bool → CallLooks → CallLooks
slowed up half k =
    record k {
      rtt = (if up then after_backoff k.rtt else k.rtt);
      cwnd = (if up then after_timeout k.cwnd else if half then after_loss k.cwnd else k.cwnd);
    }

-- piece seq was given
abbrev pub after_piece : ℕ → ℕ → CallLooks → CallLooks
after_piece now seq k =
    record (slowed (is_timed_out k seq) (halves k.cwnd k.sent seq) k) {
      sent = streams.after_giving now seq (streams.after_time (is_timed_out k seq) k.sent);
      spoke = now;
    }
