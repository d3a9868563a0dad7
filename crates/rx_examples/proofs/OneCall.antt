-- Worked examples of one call.
use Rattle.std.specs.Prelude.{◌++◌, ℕ, List, [], ◌∷◌, codes, refl, pos}
use Rattle.rx_rules.proofs.Replay.{unhex}
use Rattle.rx_examples.proofs.Story.{Line, Call, Write, Shut, Read, Accept, Finish, Forge, Poll, Deliver}
use Rattle.rx_examples.proofs.Told.{Told, at_client, call, client, name, server}
use Rattle.rx_examples.proofs.Shared.{asked, ended}
use Rattle.std.specs.Fmt.{digits}
use Rattle.hex.specs.Hex.{encode_with}

-- a call at a server, from forged datagrams
abbrev one_call_told : List (Line × List ℕ)
one_call_told = (
  Forge 0 at_client (unhex (codes "0000000100000004000000010000000100000001010500000000000168690a")),
  codes "s take 10.0.0.2:7001 0000000100000004000000010000000100000001010500000000000168690a -> kept",
)
    ∷ (Accept, codes "s accept -> 10.0.0.2:7001/1/4/0/1")
    ∷ (Read 0 call 16, codes "s read 10.0.0.2:7001/1/4/0/1 16 -> got 68690a")
    ∷ (Read 0 call 16, codes "s read 10.0.0.2:7001/1/4/0/1 16 -> end")
    ∷ (Write 0 call (unhex (codes "6f6b")), codes "s write 10.0.0.2:7001/1/4/0/1 2 -> 2 6f6b")
    ∷ (Finish call (pos 0), codes "s finish 10.0.0.2:7001/1/4/0/1 0 -> ok")
    ∷ (Poll 0, codes "s poll -> 10.0.0.2:7001 000000010000000400000001000000010000000101060000000000016f6b")
    ∷ (Poll 0, codes "s poll -> none")
    ∷ (
      Forge 0 at_client (unhex (codes "0000000100000004000000010000000100000001010500000000000168690a")),
      codes "s take 10.0.0.2:7001 0000000100000004000000010000000100000001010500000000000168690a -> repeat",
    )
    ∷ (Accept, codes "s accept -> none")
    ∷ []

one_call : Told (server ∷ []) one_call_told
unfolding digits encode_with
one_call = refl

-- two nodes, an empty request and an empty reply
abbrev empty_call_told : List (Line × List ℕ)
empty_call_told =
    ended

empty_call : Told (server ∷ client ∷ []) empty_call_told
unfolding digits encode_with
empty_call = refl

-- a request comes again: before its call is accepted, after its reply, and after its channel has a later call
abbrev repeats_told : List (Line × List ℕ)
repeats_told =
    asked
    ++ ((
      Deliver 1,
      codes "s take 10.0.0.2:7001 00000001000000040000000100000001000000010107000000000001 -> kept",
    )
    ∷ (
      Deliver 1,
      codes "s take 10.0.0.2:7001 00000001000000040000000100000001000000010107000000000001 -> repeat",
    )
    ∷ (Accept, codes "s accept -> 10.0.0.2:7001/1/4/0/1")
    ∷ (Read 0 call 16, codes "s read 10.0.0.2:7001/1/4/0/1 16 -> end")
    ∷ (Finish call (pos 0), codes "s finish 10.0.0.2:7001/1/4/0/1 0 -> ok")
    ∷ (
      Deliver 1,
      codes "s take 10.0.0.2:7001 00000001000000040000000100000001000000010107000000000001 -> repeat",
    )
    ∷ (Poll 0, codes "s poll -> 10.0.0.2:7001 00000001000000040000000100000001000000010106000000000001")
    ∷ (
      Poll 0,
      codes "s poll -> 10.0.0.2:7001 00000001000000040000000100000000000000020200000000000001000000000000000200"
          ++ codes "000001000000010200000000000005a4000005a40000002000000001",
    )
    ∷ (
      Deliver 2,
      codes "c1 take 10.0.0.1:7000 00000001000000040000000100000001000000010106000000000001 -> kept",
    )
    ∷ (Read 1 call 16, codes "c1 read 10.0.0.2:7001/1/4/0/1 16 -> end")
    ∷ (Poll 1, codes "c1 poll -> 10.0.0.1:7000 00000001000000040000000100000000000000020501000000000001")
    ∷ (
      Deliver 4,
      codes "s take 10.0.0.2:7001 00000001000000040000000100000000000000020501000000000001 -> heard",
    )
    ∷ (
      Deliver 1,
      codes "s take 10.0.0.2:7001 00000001000000040000000100000001000000010107000000000001 -> over",
    )
    ∷ (Call 1 4, codes "c1 call 4 -> 10.0.0.2:7001/1/4/0/2")
    ∷ (Shut 1 (name 2 1 4 0 2), codes "c1 shut 10.0.0.2:7001/1/4/0/2 -> ok")
    ∷ (Poll 1, codes "c1 poll -> 10.0.0.1:7000 00000001000000040000000200000001000000030107000000000001")
    ∷ (
      Deliver 5,
      codes "s take 10.0.0.2:7001 00000001000000040000000200000001000000030107000000000001 -> kept",
    )
    ∷ (
      Deliver 1,
      codes "s take 10.0.0.2:7001 00000001000000040000000100000001000000010107000000000001 -> old",
    )
    ∷ [])

repeats : Told (server ∷ client ∷ []) repeats_told
unfolding digits encode_with
repeats = refl
