-- Worked examples of the lives of calls.
use Rattle.std.specs.Prelude.{◌++◌, ℕ, List, [], ◌∷◌, codes, refl, pos}
use Rattle.rx_rules.proofs.Replay.{unhex}
use Rattle.rx_examples.proofs.Story.{Line, Connect, Call, Write, Shut, Read, Ask, Cancel, Accept, Finish, Forge, Poll}
use Rattle.rx_examples.proofs.Story.{Deliver, Clock}
use Rattle.rx_examples.proofs.Told.{Told, at_client, at_server, call, client, name, server}
use Rattle.rx_examples.proofs.Shared.{connected, asked, accepted, two_pieces}
use Rattle.std.specs.Fmt.{digits}
use Rattle.hex.specs.Hex.{encode_with}

-- a later call comes while the handler of the one before is at work
abbrev busy_told : List (Line × List ℕ)
busy_told =
    accepted
    ++ ((Cancel 1 call (pos 7), codes "c1 cancel 10.0.0.2:7001/1/4/0/1 7 -> ok")
    ∷ (Call 1 4, codes "c1 call 4 -> 10.0.0.2:7001/1/4/0/2")
    ∷ (Shut 1 (name 2 1 4 0 2), codes "c1 shut 10.0.0.2:7001/1/4/0/2 -> ok")
    ∷ (Poll 1, codes "c1 poll -> 10.0.0.1:7000 00000001000000040000000200000001000000020107000000000001")
    ∷ (
      Deliver 2,
      codes "s take 10.0.0.2:7001 00000001000000040000000200000001000000020107000000000001 -> busy",
    )
    ∷ (Read 0 call 16, codes "s read 10.0.0.2:7001/1/4/0/1 16 -> gone -1")
    ∷ (Finish call (pos 0), codes "s finish 10.0.0.2:7001/1/4/0/1 0 -> gone -1")
    ∷ (Clock 1 1000, codes "c1 clock 1000")
    ∷ (Poll 1, codes "c1 poll -> 10.0.0.1:7000 00000001000000040000000200000001000000030107000000000001")
    ∷ (
      Deliver 3,
      codes "s take 10.0.0.2:7001 00000001000000040000000200000001000000030107000000000001 -> kept",
    )
    ∷ (Accept, codes "s accept -> 10.0.0.2:7001/1/4/0/2")
    ∷ [])

busy : Told (server ∷ client ∷ []) busy_told
unfolding digits encode_with
busy = refl

-- a handler that has not read the whole request cannot reply, but can fail
abbrev unread_told : List (Line × List ℕ)
unread_told =
    two_pieces
    ++ ((Write 0 call (unhex (codes "00")), codes "s write 10.0.0.2:7001/1/4/0/1 1 -> unread")
    ∷ (Finish call (pos 0), codes "s finish 10.0.0.2:7001/1/4/0/1 0 -> unread")
    ∷ (Finish call (pos 5), codes "s finish 10.0.0.2:7001/1/4/0/1 5 -> ok")
    ∷ (
      Poll 0,
      codes "s poll -> 10.0.0.2:7001 0000000100000004000000010000000000000002040000000000000100000005",
    )
    ∷ (
      Deliver 4,
      codes "c1 take 10.0.0.1:7000 0000000100000004000000010000000000000002040000000000000100000005 -> stopped",
    )
    ∷ (Ask 1 call, codes "c1 ask 10.0.0.2:7001/1/4/0/1 -> abort 5")
    ∷ [])

unread : Told (server ∷ client ∷ []) unread_told
unfolding digits encode_with
unread = refl

-- the same of a request of one packet
abbrev finish_unread_told : List (Line × List ℕ)
finish_unread_told = (
  Forge 0 at_client (unhex (codes "0000000100000004000000010000000100000001010500000000000168690a")),
  codes "s take 10.0.0.2:7001 0000000100000004000000010000000100000001010500000000000168690a -> kept",
)
    ∷ (Accept, codes "s accept -> 10.0.0.2:7001/1/4/0/1")
    ∷ (Finish call (pos 0), codes "s finish 10.0.0.2:7001/1/4/0/1 0 -> unread")
    ∷ []

finish_unread : Told (server ∷ []) finish_unread_told
unfolding digits encode_with
finish_unread = refl

-- four calls live on a connection, and a fifth has no channel
abbrev channels_told : List (Line × List ℕ)
channels_told =
    connected
    ++ ((Call 1 4, codes "c1 call 4 -> 10.0.0.2:7001/1/4/1/1")
    ∷ (Call 1 4, codes "c1 call 4 -> 10.0.0.2:7001/1/4/2/1")
    ∷ (Call 1 4, codes "c1 call 4 -> 10.0.0.2:7001/1/4/3/1")
    ∷ (Call 1 4, codes "c1 call 4 -> nochannel")
    ∷ (Call 1 12, codes "c1 call 12 -> noconn")
    ∷ (Cancel 1 (name 2 1 4 1 1) (pos 7), codes "c1 cancel 10.0.0.2:7001/1/4/1/1 7 -> ok")
    ∷ (Call 1 4, codes "c1 call 4 -> 10.0.0.2:7001/1/4/1/2")
    ∷ [])

channels : Told (server ∷ client ∷ []) channels_told
unfolding digits encode_with
channels = refl

-- the last call number of each channel is used up
abbrev worn_told : List (Line × List ℕ)
worn_told =
    connected
    ++ ((Connect 1 at_server 1 4294967295, codes "c1 connect 10.0.0.1:7000 1 4294967295 -> 8")
    ∷ (Call 1 8, codes "c1 call 8 -> 10.0.0.2:7001/1/8/0/4294967295")
    ∷ (Cancel 1 (name 2 1 8 0 4294967295) (pos 7), codes "c1 cancel 10.0.0.2:7001/1/8/0/4294967295 7 -> ok")
    ∷ (Call 1 8, codes "c1 call 8 -> 10.0.0.2:7001/1/8/1/4294967295")
    ∷ (Cancel 1 (name 2 1 8 1 4294967295) (pos 7), codes "c1 cancel 10.0.0.2:7001/1/8/1/4294967295 7 -> ok")
    ∷ (Call 1 8, codes "c1 call 8 -> 10.0.0.2:7001/1/8/2/4294967295")
    ∷ (Cancel 1 (name 2 1 8 2 4294967295) (pos 7), codes "c1 cancel 10.0.0.2:7001/1/8/2/4294967295 7 -> ok")
    ∷ (Call 1 8, codes "c1 call 8 -> 10.0.0.2:7001/1/8/3/4294967295")
    ∷ (Cancel 1 (name 2 1 8 3 4294967295) (pos 7), codes "c1 cancel 10.0.0.2:7001/1/8/3/4294967295 7 -> ok")
    ∷ (Call 1 8, codes "c1 call 8 -> worn")
    ∷ (Call 1 12, codes "c1 call 12 -> noconn")
    ∷ [])

worn : Told (server ∷ client ∷ []) worn_told
unfolding digits encode_with
worn = refl

-- an abort with the least code
abbrev least_code_told : List (Line × List ℕ)
least_code_told =
    asked
    ++ ((
      Forge 1 at_server (unhex (codes "0000000100000004000000010000000000000001040000000000000180000000")),
      codes "c1 take 10.0.0.1:7000 0000000100000004000000010000000000000001040000000000000180000000 -> stopped",
    )
    ∷ (Ask 1 call, codes "c1 ask 10.0.0.2:7001/1/4/0/1 -> abort -2147483648")
    ∷ [])

least_code : Told (server ∷ client ∷ []) least_code_told
unfolding digits encode_with
least_code = refl
