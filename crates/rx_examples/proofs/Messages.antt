-- Worked examples of datagrams that are judged by what they say.
use Rattle.std.specs.Prelude.{◌≡◌, ◌++◌, ℕ, List, [], ◌∷◌, codes, refl, replicate, Some}
use Rattle.rx_model.specs.Text.{hex_text}
use Rattle.rx_rules.proofs.Replay.{unhex}
use Rattle.rx_examples.proofs.Story.{Line, Read, Forge, Poll, Clock}
use Rattle.rx_examples.proofs.Told.{Told, at_client, at_server, call, client, server, peer_window_told}
use Rattle.rx_examples.proofs.Shared.{asked}
use Rattle.std.specs.Fmt.{digits}
use Rattle.hex.specs.Hex.{encode_with}

-- bytes that spell no message
abbrev bad_datagrams_told : List (Line × List ℕ)
bad_datagrams_told = (
  Forge 0 at_client (unhex (codes "000000000000000000000000000000000000000000000000000000")),
  codes "s take 10.0.0.2:7001 000000000000000000000000000000000000000000000000000000 -> bad short 27",
)
    ∷ (
      Forge 0 at_client (unhex (codes "00000001000000040000000100000001000000010901000000000001")),
      codes "s take 10.0.0.2:7001 00000001000000040000000100000001000000010901000000000001 -> bad kind 9",
    )
    ∷ (
      Forge 0 at_client (unhex
          (codes "00000001000000040000000100000001000000010201000000000001000000000000000000000000000000000005")),
      codes "s take 10.0.0.2:7001 00000001000000040000000100000001000000010201000000000001000000000000000000000"
          ++ codes "000000000000005 -> bad ackshort",
    )
    ∷ (
      Forge 0 at_client (unhex (codes "00000001000000040000000100000001000000010401000000000001000000")),
      codes "s take 10.0.0.2:7001 00000001000000040000000100000001000000010401000000000001000000 -> bad abortsh"
          ++ codes "ort",
    )
    ∷ (
      Forge 0 at_client (unhex (codes "00000001000000040000000100000001000000010121000000000001")),
      codes "s take 10.0.0.2:7001 00000001000000040000000100000001000000010121000000000001 -> bad jumbo",
    )
    ∷ (
      Forge 0 at_client (unhex (codes "00000001000000040000000100000001000000010105000000000001")
          ++ replicate 1445 90),
      codes "s take 10.0.0.2:7001 00000001000000040000000100000001000000010105000000000001"
          ++ hex_text (replicate 1445 90)
          ++ codes " -> bad toolong 1445",
    )
    ∷ []

bad_datagrams : Told (server ∷ []) bad_datagrams_told
unfolding digits encode_with
bad_datagrams = refl

-- an ACK may end behind its marks, or tell a window, of which 0 is read as 1
abbrev lenient_acks_told : List (Line × List ℕ)
lenient_acks_told =
    asked
    ++ ((
      Forge 1 at_server
          (unhex (codes
          "00000001000000040000000100000000000000010200000000000001000000000000000100000000000000000800")),
      codes "c1 take 10.0.0.1:7000 0000000100000004000000010000000000000001020000000000000100000000000000010000"
          ++ codes "0000000000000800 -> heard",
    )
    ∷ (
      Forge 1 at_server (unhex
          (codes "00000001000000040000000100000000000000020200000000000001000000000000000100000000000000000800000000")
          ++ unhex (codes "000005a4000005a40000002000000001")),
      codes "c1 take 10.0.0.1:7000 0000000100000004000000010000000000000002020000000000000100000000000000010000"
          ++ codes "0000000000000800000000000005a4000005a40000002000000001 -> heard",
    )
    ∷ (
      Forge 1 at_server (unhex
          (codes "00000001000000040000000100000000000000030200000000000001000000000000000100000000000000000800000000")
          ++ unhex (codes "000005a4000005a400000000")),
      codes "c1 take 10.0.0.1:7000 0000000100000004000000010000000000000003020000000000000100000000000000010000"
          ++ codes "0000000000000800000000000005a4000005a400000000 -> heard",
    )
    ∷ [])

lenient_acks : Told (server ∷ client ∷ []) lenient_acks_told
unfolding digits encode_with
lenient_acks = refl

-- after the last the peer window is 1
lenient_acks_window : peer_window_told (server ∷ client ∷ []) lenient_acks_told 1 call ≡ Some 1
lenient_acks_window = refl

-- an ACK of a piece that was never sent changes nothing
abbrev strange_acks_told : List (Line × List ℕ)
strange_acks_told =
    asked
    ++ ((
      Forge 1 at_server
          (unhex (codes
          "00000001000000040000000100000000000000010200000000000001000000000000000300000000000000000800000000")
          ++ unhex (codes "000005a4000005a40000002000000001")),
      codes "c1 take 10.0.0.1:7000 0000000100000004000000010000000000000001020000000000000100000000000000030000"
          ++ codes "0000000000000800000000000005a4000005a40000002000000001 -> strange",
    )
    ∷ (
      Forge 1 at_server (unhex
          (codes "00000001000000040000000100000000000000020200000000000001000000000000000100000000000000000802000100")
          ++ unhex (codes "0000000005a4000005a40000002000000001")),
      codes "c1 take 10.0.0.1:7000 0000000100000004000000010000000000000002020000000000000100000000000000010000"
          ++ codes "00000000000008020001000000000005a4000005a40000002000000001 -> strange",
    )
    ∷ (Poll 1, codes "c1 poll -> none")
    ∷ (Read 1 call 16, codes "c1 read 10.0.0.2:7001/1/4/0/1 16 -> notyet")
    ∷ (Clock 1 1000, codes "c1 clock 1000")
    ∷ (Poll 1, codes "c1 poll -> 10.0.0.1:7000 00000001000000040000000100000001000000020107000000000001")
    ∷ [])

strange_acks : Told (server ∷ client ∷ []) strange_acks_told
unfolding digits encode_with
strange_acks = refl

-- the reasons 0 and 9, a status and a spare are heard as any; a ping is answered with its serial
abbrev any_reason_told : List (Line × List ℕ)
any_reason_told =
    asked
    ++ ((
      Forge 1 at_server
          (unhex (codes
          "00000001000000040000000100000000000000010200000000000001000000000000000100000000000000000000000000")
          ++ unhex (codes "000005a4000005a40000002000000001")),
      codes "c1 take 10.0.0.1:7000 0000000100000004000000010000000000000001020000000000000100000000000000010000"
          ++ codes "0000000000000000000000000005a4000005a40000002000000001 -> heard",
    )
    ∷ (Poll 1, codes "c1 poll -> none")
    ∷ (
      Forge 1 at_server (unhex
          (codes "00000001000000040000000100000000000000020200000000000001000000000000000100000000000000000900000000")
          ++ unhex (codes "000005a4000005a40000002000000001")),
      codes "c1 take 10.0.0.1:7000 0000000100000004000000010000000000000002020000000000000100000000000000010000"
          ++ codes "0000000000000900000000000005a4000005a40000002000000001 -> heard",
    )
    ∷ (Poll 1, codes "c1 poll -> none")
    ∷ (
      Forge 1 at_server (unhex
          (codes "00000001000000040000000100000000000000030200070002010001000000000000000100000000000000000600000000")
          ++ unhex (codes "000005a4000005a40000002000000001")),
      codes "c1 take 10.0.0.1:7000 0000000100000004000000010000000000000003020007000201000100000000000000010000"
          ++ codes "0000000000000600000000000005a4000005a40000002000000001 -> heard",
    )
    ∷ (
      Poll 1,
      codes "c1 poll -> 10.0.0.1:7000 0000000100000004000000010000000000000002020100000000000100000000000000010"
          ++ codes "0000000000000030700000000000005a4000005a40000002000000001",
    )
    ∷ [])

any_reason : Told (server ∷ client ∷ []) any_reason_told
unfolding digits encode_with
any_reason = refl

-- seq 0 and seq 4,294,967,295 are no packet; 4,294,967,294 lies past every window
abbrev no_such_seq_told : List (Line × List ℕ)
no_such_seq_told = (
  Forge 0 at_client (unhex (codes "0000000100000004000000010000000100000001010100000000000161")),
  codes "s take 10.0.0.2:7001 0000000100000004000000010000000100000001010100000000000161 -> kept",
)
    ∷ (
      Forge 0 at_client (unhex (codes "0000000100000004000000010000000000000009010100000000000161")),
      codes "s take 10.0.0.2:7001 0000000100000004000000010000000000000009010100000000000161 -> strange",
    )
    ∷ (
      Forge 0 at_client (unhex (codes "000000010000000400000001ffffffff00000009010100000000000161")),
      codes "s take 10.0.0.2:7001 000000010000000400000001ffffffff00000009010100000000000161 -> strange",
    )
    ∷ (
      Forge 0 at_client (unhex (codes "000000010000000400000001fffffffe00000009010100000000000161")),
      codes "s take 10.0.0.2:7001 000000010000000400000001fffffffe00000009010100000000000161 -> beyond",
    )
    ∷ []

no_such_seq : Told (server ∷ []) no_such_seq_told
unfolding digits encode_with
no_such_seq = refl
