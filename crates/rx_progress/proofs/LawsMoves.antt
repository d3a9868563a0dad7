-- The lowest piece that comes moves a drained end: under each of three premises, as laws.
use Rattle.std.proofs.Common.{◌≡◌, ◌≤◌, ℕ, is_some, Bool, false, List, Option, Ok, refl, ◌∙◌, ap, sym, subst}
use Rattle.std.proofs.Common.{arith, inl, inr}
use Rattle.rx_model.specs.declared.event.Noted.{Noted}
use Rattle.rx_model.specs.declared.names.CallName.{CallName}
use Rattle.rx_model.specs.Message.{Message}
use Rattle.rx_model.specs.Names.{connection_of}
use Rattle.rx_model.specs.Reading.{reading_of}
use Rattle.rx_rules.specs.After.{looks}
use Rattle.rx_rules.specs.CallLooks.{CallLooks, found, has_lead}
use Rattle.rx_rules.specs.Looks.{CallRecord, call_at}
use Rattle.rx_rules.specs.Received.{Received, front_of, packet_at, used_of}
use Rattle.rx_rules.specs.Sent.{given_of, lowest_of}
use Rattle.rx_rules.specs.Setup.{Kind, Client, Server, IsServer, is_client, named}
use Rattle.rx_law.specs.Promises.{ends_in}
use Rattle.rx_history.specs.Sides.{side}
use Rattle.rx_law.specs.Worlds.{Gave, TwoEnds}
use Rattle.rx_law.proofs.Joint.{Fed, between}
use Rattle.rx_between.specs.Acknowledged.{AreTrue, received_by, sent_by}
use Rattle.rx_between.specs.Agreed.{passed_at}
use Rattle.rx_between.proofs.AllAgree.{all_agree}
use Rattle.rx_between.proofs.BothTrue.{all-used}
use Rattle.rx_between.proofs.CameAll.{CameAll}
use Rattle.rx_between.proofs.Histories.{server_whole}
use Rattle.rx_between.proofs.LawsTrue.{came_in, came_once, fed_in, fed_once, held_once}
use Rattle.rx_between.proofs.Marks.{used_kept}
use Rattle.rx_between.proofs.SaysLate.{IsSilent, SaysLate, server_says_late}
use Rattle.rx_between.proofs.Sense.{client_gives, passed_received, passed_sent, sense_at_client, sense_at_server}
use Rattle.rx_progress.specs.Moving.{LowestMoves, Moves, MovesHeld, MovesInWorld, MovesOn, MovesOnce, behind_message}
use Rattle.rx_progress.proofs.Lowest.{client_leadless, moves, silent_leadless}

pub server_side : (k : Kind) → IsServer k → is_client k ≡ false
server_side (Server service nonces) server = refl
server_side (Client host epoch) server = absurd server

module _ (x : TwoEnds) (h : List Noted) (f : Fed x h) (came : CameAll x h) (c : CallName)
    (on : connection_of c ≡ x.connection) where
  abbrev a : Option CallRecord
  a = call_at (looks x.client_setup (side x.client h)) c

  abbrev b : Option CallRecord
  b = call_at (looks x.server_setup (side x.server h)) c

  -- a server that doesn't have the lowest piece of the request said nothing yet
  server_silent : lowest_of (sent_by a) ≤ given_of (sent_by a)
      → is_some (packet_at (received_by b).kept (lowest_of (sent_by a))) ≡ false → IsSilent (sent_by b)
  server_silent given away =
      by (server_says_late x.server_setup (side x.server h) c f.server_kind f.server_fits f.server_legal (f.once c on))
    where
      by : SaysLate b → IsSilent (sent_by b)
      by (inl silent) = silent
      by (inr ended) =
          absurd (let used = all-used a b (between x h c f on).request
          (server_whole x.server_setup (side x.server h) c f.server_kind f.server_fits f.server_legal (f.once c on))
          ended
          in
          let counts = (client_gives x h f came c on).counts in
          let there = used_kept (received_by b) (lowest_of (sent_by a)) (omega arith)
          (omega (arith, given, counts, used)) in
          cc (there, away))

  request_moves : (bytes : List ℕ) (m : Message) → Gave x.server_host bytes (side x.client h) → reading_of bytes ≡ Ok m
      → named x.client_setup x.server_host m ≡ c → LowestMoves (sent_by a) x.server_setup m b
  request_moves bytes m gave is_read name v payload client window chunk seq given drained =
      subst (λ (r : Received). Moves (sent_by a) r (behind_message v m k).received) received
      (moves (sent_by a) v m payload k
      (subst (λ (r : Received). AreTrue (sent_by a) r) (sym received) (all_agree x c h f came on).request_true) chunk
      seq
      given (subst (λ (r : Received). used_of r ≡ front_of r.kept) (sym received) drained) leadless
      (sense_at_server x h f came c on bytes m gave is_read name v client window))
    where
      k : CallLooks
      k = passed_at x.server_setup v.now b

      received : k.received ≡ received_by b
      received = passed_received x.server_setup v.now b

      leadless : is_some (packet_at k.received.kept (lowest_of (sent_by a))) ≡ false
          → has_lead (found v.client k) ≡ false
      leadless away =
          subst (λ (t : Bool). has_lead (found t k) ≡ false)
          (sym (client ∙ server_side x.server_setup.kind f.server_kind))
          (silent_leadless k
          (subst IsSilent (sym (passed_sent x.server_setup v.now b))
          (server_silent given
          (subst (λ (r : Received). is_some (packet_at r.kept (lowest_of (sent_by a))) ≡ false) received away)))
          (subst (λ (r : Received). used_of r ≡ front_of r.kept) (sym received) drained))

  reply_moves : (bytes : List ℕ) (m : Message) → Gave x.connection.host bytes (side x.server h)
      → reading_of bytes ≡ Ok m → named x.server_setup x.connection.host m ≡ c
      → LowestMoves (sent_by b) x.client_setup m a
  reply_moves bytes m gave is_read name v payload client window chunk seq given drained =
      subst (λ (r : Received). Moves (sent_by b) r (behind_message v m k).received) received
      (moves (sent_by b) v m payload k
      (subst (λ (r : Received). AreTrue (sent_by b) r) (sym received) (all_agree x c h f came on).reply_true) chunk seq
      given (subst (λ (r : Received). used_of r ≡ front_of r.kept) (sym received) drained) leadless
      (sense_at_client x h f came c on bytes m gave is_read name v client window))
    where
      k : CallLooks
      k = passed_at x.client_setup v.now a

      received : k.received ≡ received_by a
      received = passed_received x.client_setup v.now a

      leadless : is_some (packet_at k.received.kept (lowest_of (sent_by b))) ≡ false
          → has_lead (found v.client k) ≡ false
      leadless away =
          subst (λ (t : Bool). has_lead (found t k) ≡ false) (sym (client ∙ ap is_client f.client_kind))
          (client_leadless k (subst (λ (r : Received). used_of r ≡ front_of r.kept) (sym received) drained))

moves_on : (x : TwoEnds) (h : List Noted) → Fed x h → CameAll x h → MovesOn x h
moves_on x h f came =
    record {
      request = λ c bytes m on gave is_read name. request_moves x h f came c on bytes m gave is_read name;
      reply = λ c bytes m on gave is_read name. reply_moves x h f came c on bytes m gave is_read name;
    }

pub moves_once : MovesOnce
moves_once x h held = moves_on x h (fed_once x h held) (came_once x h held)

pub moves_held : MovesHeld
moves_held x h held = moves_once x h (held_once x h held)

pub moves_in_world : MovesInWorld
moves_in_world nodes h w kept x k client server there kind first =
    moves_on (ends_in x k client server) h (fed_in nodes h w k client server x there kind first kept)
    (came_in nodes h w k client server x there kind first)
