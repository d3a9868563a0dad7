-- Worked examples of the places and names of connections.
use Rattle.std.specs.Prelude.{◌++◌, ℕ, List, [], ◌∷◌, codes, refl, pos}
use Rattle.rx_examples.proofs.Story.{Line, Connect, Call, Shut, Read, Ask, Cancel, Accept, Finish, Poll, Deliver}
use Rattle.rx_examples.proofs.Story.{ClockAll}
use Rattle.rx_examples.proofs.Told.{Told, server_with, client_at, at_server, call, client, host, name, server}
use Rattle.rx_examples.proofs.Shared.{asked, ended}
use Rattle.std.specs.Fmt.{digits}
use Rattle.hex.specs.Hex.{encode_with}

-- a record that was idle for 600,000 ms gives its place away, and not a moment before
abbrev idle_place_told : List (Line × List ℕ)
idle_place_told =
    ended
    ++ ((ClockAll 599999, codes "s clock 599999;c1 clock 599999;c2 clock 599999")
    ∷ (Connect 2 at_server 1 1, codes "c2 connect 10.0.0.1:7000 1 1 -> 4")
    ∷ (Call 2 4, codes "c2 call 4 -> 10.0.0.3:7001/1/4/0/1")
    ∷ (Shut 2 (name 3 1 4 0 1), codes "c2 shut 10.0.0.3:7001/1/4/0/1 -> ok")
    ∷ (Poll 2, codes "c2 poll -> 10.0.0.1:7000 00000001000000040000000100000001000000010107000000000001")
    ∷ (
      Deliver 5,
      codes "s take 10.0.0.3:7001 00000001000000040000000100000001000000010107000000000001 -> full",
    )
    ∷ (ClockAll 600000, codes "s clock 600000;c1 clock 600000;c2 clock 600000")
    ∷ (
      Deliver 5,
      codes "s take 10.0.0.3:7001 00000001000000040000000100000001000000010107000000000001 -> kept",
    )
    ∷ [])

idle_place : Told ((server_with (record { conns = 1; calls = 64; slots = 2048; window = 32 })) ∷ client
    ∷ (client_at (host 3)) ∷ []) idle_place_told
unfolding digits encode_with
idle_place = refl

-- a request of the forgotten record comes while its place is taken
abbrev place_taken_told : List (Line × List ℕ)
place_taken_told =
    ended
    ++ ((ClockAll 600000, codes "s clock 600000;c1 clock 600000;c2 clock 600000")
    ∷ (Connect 2 at_server 1 1, codes "c2 connect 10.0.0.1:7000 1 1 -> 4")
    ∷ (Call 2 4, codes "c2 call 4 -> 10.0.0.3:7001/1/4/0/1")
    ∷ (Shut 2 (name 3 1 4 0 1), codes "c2 shut 10.0.0.3:7001/1/4/0/1 -> ok")
    ∷ (Poll 2, codes "c2 poll -> 10.0.0.1:7000 00000001000000040000000100000001000000010107000000000001")
    ∷ (
      Deliver 5,
      codes "s take 10.0.0.3:7001 00000001000000040000000100000001000000010107000000000001 -> kept",
    )
    ∷ (Accept, codes "s accept -> 10.0.0.3:7001/1/4/0/1")
    ∷ (Read 0 (name 3 1 4 0 1) 16, codes "s read 10.0.0.3:7001/1/4/0/1 16 -> end")
    ∷ (Finish (name 3 1 4 0 1) (pos 0), codes "s finish 10.0.0.3:7001/1/4/0/1 0 -> ok")
    ∷ (
      Deliver 1,
      codes "s take 10.0.0.2:7001 00000001000000040000000100000001000000010107000000000001 -> full",
    )
    ∷ [])

place_taken : Told ((server_with (record { conns = 1; calls = 64; slots = 2048; window = 32 })) ∷ client
    ∷ (client_at (host 3)) ∷ []) place_taken_told
unfolding digits encode_with
place_taken = refl

-- an abort that comes before its call is strange
abbrev early_cancel_told : List (Line × List ℕ)
early_cancel_told =
    asked
    ++ ((Cancel 1 call (pos 7), codes "c1 cancel 10.0.0.2:7001/1/4/0/1 7 -> ok")
    ∷ (
      Poll 1,
      codes "c1 poll -> 10.0.0.1:7000 0000000100000004000000010000000000000002040100000000000100000007",
    )
    ∷ (Ask 1 call, codes "c1 ask 10.0.0.2:7001/1/4/0/1 -> cancelled 7")
    ∷ (
      Deliver 2,
      codes "s take 10.0.0.2:7001 0000000100000004000000010000000000000002040100000000000100000007 -> strange",
    )
    ∷ [])

early_cancel : Told (server ∷ client ∷ []) early_cancel_told
unfolding digits encode_with
early_cancel = refl

-- two clients of one host and epoch are one to the server
abbrev shared_name_told : List (Line × List ℕ)
shared_name_told =
    (Connect 1 at_server 1 1, codes "c1 connect 10.0.0.1:7000 1 1 -> 4")
    ∷ (Connect 2 at_server 1 1, codes "c2 connect 10.0.0.1:7000 1 1 -> 4")
    ∷ (Call 1 4, codes "c1 call 4 -> 10.0.0.2:7001/1/4/0/1")
    ∷ (Call 2 4, codes "c2 call 4 -> 10.0.0.2:7001/1/4/0/1")
    ∷ (Shut 1 call, codes "c1 shut 10.0.0.2:7001/1/4/0/1 -> ok")
    ∷ (Shut 2 call, codes "c2 shut 10.0.0.2:7001/1/4/0/1 -> ok")
    ∷ (Poll 1, codes "c1 poll -> 10.0.0.1:7000 00000001000000040000000100000001000000010107000000000001")
    ∷ (Poll 2, codes "c2 poll -> 10.0.0.1:7000 00000001000000040000000100000001000000010107000000000001")
    ∷ (
      Deliver 1,
      codes "s take 10.0.0.2:7001 00000001000000040000000100000001000000010107000000000001 -> kept",
    )
    ∷ (
      Deliver 2,
      codes "s take 10.0.0.2:7001 00000001000000040000000100000001000000010107000000000001 -> repeat",
    )
    ∷ (Accept, codes "s accept -> 10.0.0.2:7001/1/4/0/1")
    ∷ (Accept, codes "s accept -> none")
    ∷ []

shared_name : Told (server ∷ client ∷ client ∷ []) shared_name_told
unfolding digits encode_with
shared_name = refl

-- a number below the channel's is old, whatever became of its call
abbrev old_before_over_told : List (Line × List ℕ)
old_before_over_told =
    ended
    ++ ((
      Deliver 1,
      codes "s take 10.0.0.2:7001 00000001000000040000000100000001000000010107000000000001 -> over",
    )
    ∷ (Call 1 4, codes "c1 call 4 -> 10.0.0.2:7001/1/4/0/2")
    ∷ (Shut 1 (name 2 1 4 0 2), codes "c1 shut 10.0.0.2:7001/1/4/0/2 -> ok")
    ∷ (Poll 1, codes "c1 poll -> 10.0.0.1:7000 00000001000000040000000200000001000000030107000000000001")
    ∷ (
      Deliver 5,
      codes "s take 10.0.0.2:7001 00000001000000040000000200000001000000030107000000000001 -> kept",
    )
    ∷ (
      Deliver 1,
      codes "s take 10.0.0.2:7001 00000001000000040000000100000001000000010107000000000001 -> old",
    )
    ∷ [])

old_before_over : Told (server ∷ client ∷ []) old_before_over_told
unfolding digits encode_with
old_before_over = refl
