-- A half gives what is for the other half: its datagrams have the flag exactly where it calls.
use Rattle.std.proofs.Common.{◌≡◌, ◌||◌, if◌then◌else◌, nat_lt, ℕ, Bool, true, false, List, length, drop}
use Rattle.std.proofs.Common.{Result, Ok, Err}
use Rattle.std.proofs.Common.{refl, ◌∙◌, ap}
use Rattle.std.specs.Prelude.{slice_index}
use Rattle.rx_model.specs.declared.answers.BadMsg.{BadMsg}
use Rattle.rx_model.specs.declared.answers.BadMsg.TheVariants as faults
use Rattle.rx_model.specs.declared.event.Event.{Event}
use Rattle.rx_model.specs.declared.names.Host.{Host}
use Rattle.rx_model.specs.declared.wire.TheConstants.{CLIENT_INITIATED, HEADER_BYTES}
use Rattle.rx_model.specs.Body.{Body}
use Rattle.rx_model.specs.Message.{Message, has_flag}
use Rattle.rx_model.specs.Reading.{body_reading, message_with, reading_of, with_body}
use Rattle.rx_rules.specs.Rules.{Legal}
use Rattle.rx_rules.specs.Setup.{Kind, Server, Client, IsServer, is_client}
use Rattle.rx_history.specs.Sides.{IsClientAt}
use Rattle.rx_law.specs.Worlds.{Gave}
use Rattle.rx_law.proofs.World.{gave-mine}
use Rattle.rx_peer.specs.declared.role.Role.{Role}
use Rattle.rx_peer.specs.declared.role.Role.TheVariants as roles
use Rattle.rx_peer.specs.PeerWorlds.{IsPeer, PeerNode, setup_at}
use Rattle.rx_peer.specs.Roles.{half_of}

-- the half that a datagram with the flag, or without it, is for
abbrev pub role_for : Bool → Role
role_for flagged = if flagged then roles.Served else roles.Caller

-- the flag that decides is that of the message
role-read : (bytes : List ℕ) (m : Message) → reading_of bytes ≡ Ok m
    → half_of bytes ≡ role_for (has_flag CLIENT_INITIATED m.flags)
role-read bytes m is =
    of (nat_lt (length bytes) HEADER_BYTES)
    (body_reading (slice_index bytes 20) (slice_index bytes 21) (drop HEADER_BYTES bytes)) is
  where
    ok_is : (a b : Message) → ◌≡◌ {A = Result Message BadMsg} (Ok a) (Ok b) → a ≡ b
    ok_is a b is = cc

    of : (short : Bool) (reading : Result Body BadMsg)
        → (if short then Err (faults.Short (length bytes)) else with_body bytes reading) ≡ Ok m
        → role_for (short || has_flag CLIENT_INITIATED (slice_index bytes 21))
        ≡ role_for (has_flag CLIENT_INITIATED m.flags)
    of true reading is = absurd cc
    of false (Err bad) is = absurd cc
    of false (Ok body) is =
        ap (λ (n : Message). role_for (has_flag CLIENT_INITIATED n.flags)) (ok_is (message_with bytes body) m is)

-- the half that this one gives to
abbrev pub other : Role → Role
other roles.Caller = roles.Served
other roles.Served = roles.Caller

calls : (r : Role) (p : PeerNode) → IsPeer p → role_for (is_client (setup_at r p).kind) ≡ other r
calls roles.Caller p peer = of p.caller.kind peer.caller
  where
    of : (kind : Kind) → IsClientAt p.host kind → role_for (is_client kind) ≡ roles.Served
    of (Client host epoch) at = refl
    of (Server service nonces) at = absurd at
calls roles.Served p peer = of p.served.kind peer.served
  where
    of : (kind : Kind) → IsServer kind → role_for (is_client kind) ≡ roles.Caller
    of (Client host epoch) at = absurd at
    of (Server service nonces) at = refl

-- what a half gave is for the other half, if it says a message
pub gave_other : (r : Role) (p : PeerNode) (h : List Event) (to : Host) (bytes : List ℕ) (m : Message) → IsPeer p
    → Legal (setup_at r p) h → Gave to bytes h → reading_of bytes ≡ Ok m → half_of bytes ≡ other r
gave_other r p h to bytes m peer legal gave reads =
    role-read bytes m reads
    ∙ ap role_for (gave-mine (setup_at r p) h to bytes m (peer.fits r) legal gave reads).flag
    ∙ calls r p peer
