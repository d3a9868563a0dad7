-- What several worked examples begin with.
use Rattle.std.specs.Prelude.{◌++◌, ℕ, List, [], ◌∷◌, codes, pos, replicate}
use Rattle.rx_model.specs.Text.{hex_text}
use Rattle.rx_rules.proofs.Replay.{unhex}
use Rattle.rx_examples.proofs.Story.{Line, Connect, Call, Write, Shut, Read, Ask, Accept, Finish, Poll, Deliver}
use Rattle.rx_examples.proofs.Told.{at_server, call}

-- a client connects and starts a call
abbrev pub connected : List (Line × List ℕ)
connected =
    (Connect 1 at_server 1 1, codes "c1 connect 10.0.0.1:7000 1 1 -> 4")
    ∷ (Call 1 4, codes "c1 call 4 -> 10.0.0.2:7001/1/4/0/1")
    ∷ []

-- its request is empty, and given
abbrev pub asked : List (Line × List ℕ)
asked =
    connected
    ++ ((Shut 1 call, codes "c1 shut 10.0.0.2:7001/1/4/0/1 -> ok")
    ∷ (Poll 1, codes "c1 poll -> 10.0.0.1:7000 00000001000000040000000100000001000000010107000000000001")
    ∷ [])

-- it comes, and a handler accepts the call
abbrev pub accepted : List (Line × List ℕ)
accepted =
    asked
    ++ ((
      Deliver 1,
      codes "s take 10.0.0.2:7001 00000001000000040000000100000001000000010107000000000001 -> kept",
    )
    ∷ (Accept, codes "s accept -> 10.0.0.2:7001/1/4/0/1")
    ∷ [])

-- the handler reads it and ends, and the server gives its empty reply and an ACK
abbrev pub served : List (Line × List ℕ)
served =
    accepted
    ++ ((Read 0 call 16, codes "s read 10.0.0.2:7001/1/4/0/1 16 -> end")
    ∷ (Finish call (pos 0), codes "s finish 10.0.0.2:7001/1/4/0/1 0 -> ok")
    ∷ (Poll 0, codes "s poll -> 10.0.0.2:7001 00000001000000040000000100000001000000010106000000000001")
    ∷ (
      Poll 0,
      codes "s poll -> 10.0.0.2:7001 00000001000000040000000100000000000000020200000000000001000000000000000200"
          ++ codes "000001000000010100000000000005a4000005a40000002000000001",
    )
    ∷ [])

-- the client reads the reply, and acknowledges all
abbrev pub ended : List (Line × List ℕ)
ended =
    served
    ++ ((
      Deliver 2,
      codes "c1 take 10.0.0.1:7000 00000001000000040000000100000001000000010106000000000001 -> kept",
    )
    ∷ (Read 1 call 16, codes "c1 read 10.0.0.2:7001/1/4/0/1 16 -> end")
    ∷ (
      Deliver 3,
      codes "c1 take 10.0.0.1:7000 0000000100000004000000010000000000000002020000000000000100000000000000020000"
          ++ codes "0001000000010100000000000005a4000005a40000002000000001 -> over",
    )
    ∷ (Poll 1, codes "c1 poll -> 10.0.0.1:7000 00000001000000040000000100000000000000020501000000000001")
    ∷ (
      Deliver 4,
      codes "s take 10.0.0.2:7001 00000001000000040000000100000000000000020501000000000001 -> heard",
    )
    ∷ (Ask 1 call, codes "c1 ask 10.0.0.2:7001/1/4/0/1 -> ok")
    ∷ [])

-- a request of two pieces comes, the second first, and a handler accepts the call
abbrev pub two_pieces : List (Line × List ℕ)
two_pieces =
    connected
    ++ ((
      Write 1 call (replicate 1412 90),
      codes "c1 write 10.0.0.2:7001/1/4/0/1 1412 -> 1412 " ++ hex_text (replicate 1412 90),
    )
    ∷ (Write 1 call (unhex (codes "6b")), codes "c1 write 10.0.0.2:7001/1/4/0/1 1 -> 1 6b")
    ∷ (Shut 1 call, codes "c1 shut 10.0.0.2:7001/1/4/0/1 -> ok")
    ∷ (
      Poll 1,
      codes "c1 poll -> 10.0.0.1:7000 00000001000000040000000100000001000000010101000000000001"
          ++ hex_text (replicate 1412 90),
    )
    ∷ (Poll 1, codes "c1 poll -> 10.0.0.1:7000 000000010000000400000001000000020000000201070000000000016b")
    ∷ (
      Deliver 2,
      codes "s take 10.0.0.2:7001 000000010000000400000001000000020000000201070000000000016b -> kept",
    )
    ∷ (Accept, codes "s accept -> none")
    ∷ (
      Poll 0,
      codes "s poll -> 10.0.0.2:7001 00000001000000040000000100000000000000010200000000000001000000000000000100"
          ++ codes "0000020000000203020001000000000005a4000005a40000002000000001",
    )
    ∷ (
      Deliver 1,
      codes "s take 10.0.0.2:7001 00000001000000040000000100000001000000010101000000000001"
          ++ hex_text (replicate 1412 90)
          ++ codes " -> kept",
    )
    ∷ (Accept, codes "s accept -> 10.0.0.2:7001/1/4/0/1")
    ∷ [])

-- a client with a key asks, and the server challenges it
abbrev pub keyed : List (Line × List ℕ)
keyed =
    connected
    ++ ((
      Write 1 call (unhex (codes "000000840000000100000002000000030000000161000000000001a4")),
      codes "c1 write 10.0.0.2:7001/1/4/0/1 28 -> 28 000000840000000100000002000000030000000161000000000001a4",
    )
    ∷ (Shut 1 call, codes "c1 shut 10.0.0.2:7001/1/4/0/1 -> ok")
    ∷ (
      Poll 1,
      codes "c1 poll -> 10.0.0.1:7000 0000000100000004000000010000000100000001010700c80000000100000084000000010"
          ++ codes "0000002000000030000000161000000000001a4",
    )
    ∷ (
      Deliver 1,
      codes "s take 10.0.0.2:7001 0000000100000004000000010000000100000001010700c800000001000000840000000100000"
          ++ codes "002000000030000000161000000000001a4 -> kept",
    )
    ∷ [])

-- the challenge comes
abbrev pub challenged : List (Line × List ℕ)
challenged =
    keyed
    ++ ((Accept, codes "s accept -> none")
    ∷ (
      Poll 0,
      codes "s poll -> 10.0.0.2:7001 0000000100000004000000010000000000000001060000c8000000010000000000000000",
    )
    ∷ (
      Poll 0,
      codes "s poll -> 10.0.0.2:7001 0000000100000004000000010000000000000002020000c800000001000000000000000100"
          ++ codes "00000100000001010101000000000005a4000005a40000002000000001",
    )
    ∷ (
      Deliver 2,
      codes "c1 take 10.0.0.1:7000 0000000100000004000000010000000000000001060000c8000000010000000000000000 -> "
          ++ codes "heard",
    )
    ∷ [])
