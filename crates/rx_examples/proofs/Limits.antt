-- Worked examples of the limits of a node.
use Rattle.std.specs.Prelude.{◌++◌, ℕ, List, [], ◌∷◌, codes, refl, pos, replicate}
use Rattle.rx_model.specs.Text.{hex_text}
use Rattle.rx_rules.proofs.Replay.{unhex}
use Rattle.rx_examples.proofs.Story.{Line, Connect, Call, Write, Shut, Read, Ask, Accept, Finish, Forge, Poll, Deliver}
use Rattle.rx_examples.proofs.Story.{Rounds}
use Rattle.rx_examples.proofs.Told.{Told, ToldBehind, server_with, client_with, lines_of, at_client, at_server, call}
use Rattle.rx_examples.proofs.Told.{client, host, name, server}
use Rattle.rx_examples.proofs.Shared.{connected}
use Rattle.std.specs.Fmt.{digits}
use Rattle.hex.specs.Hex.{encode_with}

-- a server of one connection refuses the second
abbrev one_connection_told : List (Line × List ℕ)
one_connection_told = (
  Forge 0 at_client (unhex (codes "0000000100000004000000010000000100000001010500000000000161")),
  codes "s take 10.0.0.2:7001 0000000100000004000000010000000100000001010500000000000161 -> kept",
)
    ∷ (
      Forge 0 (host 3) (unhex (codes "0000000100000004000000010000000100000001010500000000000161")),
      codes "s take 10.0.0.3:7001 0000000100000004000000010000000100000001010500000000000161 -> full",
    )
    ∷ []

one_connection : Told ((server_with (record { conns = 1; calls = 64; slots = 2048; window = 32 }))
    ∷ []) one_connection_told
unfolding digits encode_with
one_connection = refl

-- a server of one live call answers the next with BUSY
abbrev one_call_lives_told : List (Line × List ℕ)
one_call_lives_told = (
  Forge 0 at_client (unhex (codes "0000000100000004000000010000000100000001010700000000000161")),
  codes "s take 10.0.0.2:7001 0000000100000004000000010000000100000001010700000000000161 -> kept",
)
    ∷ (
      Forge 0 at_client (unhex (codes "0000000100000005000000010000000100000002010700000000000161")),
      codes "s take 10.0.0.2:7001 0000000100000005000000010000000100000002010700000000000161 -> noroom",
    )
    ∷ (
      Poll 0,
      codes "s poll -> 10.0.0.2:7001 00000001000000040000000100000000000000010200000000000001000000000000000100"
          ++ codes "00000100000001010101000000000005a4000005a40000002000000001",
    )
    ∷ (Poll 0, codes "s poll -> 10.0.0.2:7001 00000001000000050000000100000000000000020300000000000001")
    ∷ (Poll 0, codes "s poll -> none")
    ∷ []

one_call_lives : Told ((server_with (record { conns = 1024; calls = 1; slots = 2; window = 32 }))
    ∷ []) one_call_lives_told
unfolding digits encode_with
one_call_lives = refl

-- a client of one live call
abbrev client_of_one_call_told : List (Line × List ℕ)
client_of_one_call_told =
    connected
    ++ ((Call 1 4, codes "c1 call 4 -> noroom")
    ∷ [])

client_of_one_call : Told (server ∷ (client_with (record { conns = 1024; calls = 1; slots = 2; window = 32 }))
    ∷ []) client_of_one_call_told
unfolding digits encode_with
client_of_one_call = refl

-- a client of one connection
abbrev client_of_one_connection_told : List (Line × List ℕ)
client_of_one_connection_told =
    connected
    ++ ((Connect 1 at_server 1 1, codes "c1 connect 10.0.0.1:7000 1 1 -> connfull")
    ∷ [])

client_of_one_connection : Told (server ∷ (client_with (record { conns = 1; calls = 64; slots = 2048; window = 32 }))
    ∷ []) client_of_one_connection_told
unfolding digits encode_with
client_of_one_connection = refl

-- DATA of another service owes a stray abort
abbrev unserved_told : List (Line × List ℕ)
unserved_told = (
  Forge 0 at_client (unhex (codes "00000001000000040000000100000001000000010105000000000002")),
  codes "s take 10.0.0.2:7001 00000001000000040000000100000001000000010105000000000002 -> unserved",
)
    ∷ (
      Poll 0,
      codes "s poll -> 10.0.0.2:7001 00000001000000040000000000000000000000000400000000000002fffffffe",
    )
    ∷ (Poll 0, codes "s poll -> none")
    ∷ []

unserved : Told (server ∷ []) unserved_told
unfolding digits encode_with
unserved = refl

-- two calls contend for one slot beside their own: the later part of one finds none
abbrev slots_told : List (Line × List ℕ)
slots_told =
    connected
    ++ ((Call 1 4, codes "c1 call 4 -> 10.0.0.2:7001/1/4/1/1")
    ∷ (
      Write 1 call (replicate 1413 90),
      codes "c1 write 10.0.0.2:7001/1/4/0/1 1413 -> 1413 " ++ hex_text (replicate 1413 90),
    )
    ∷ (Shut 1 call, codes "c1 shut 10.0.0.2:7001/1/4/0/1 -> ok")
    ∷ (
      Write 1 (name 2 1 4 1 1) (replicate 1413 90),
      codes "c1 write 10.0.0.2:7001/1/4/1/1 1413 -> 1413 " ++ hex_text (replicate 1413 90),
    )
    ∷ (Shut 1 (name 2 1 4 1 1), codes "c1 shut 10.0.0.2:7001/1/4/1/1 -> ok")
    ∷ (
      Poll 1,
      codes "c1 poll -> 10.0.0.1:7000 00000001000000040000000100000001000000010101000000000001"
          ++ hex_text (replicate 1412 90),
    )
    ∷ (Poll 1, codes "c1 poll -> 10.0.0.1:7000 000000010000000400000001000000020000000201070000000000015a")
    ∷ (
      Poll 1,
      codes "c1 poll -> 10.0.0.1:7000 00000001000000050000000100000001000000030101000000000001"
          ++ hex_text (replicate 1412 90),
    )
    ∷ (Poll 1, codes "c1 poll -> 10.0.0.1:7000 000000010000000500000001000000020000000401070000000000015a")
    ∷ (
      Deliver 2,
      codes "s take 10.0.0.2:7001 000000010000000400000001000000020000000201070000000000015a -> kept",
    )
    ∷ (
      Deliver 4,
      codes "s take 10.0.0.2:7001 000000010000000500000001000000020000000401070000000000015a -> noslot",
    )
    ∷ (
      Deliver 3,
      codes "s take 10.0.0.2:7001 00000001000000050000000100000001000000030101000000000001"
          ++ hex_text (replicate 1412 90)
          ++ codes " -> kept",
    )
    ∷ (
      Deliver 1,
      codes "s take 10.0.0.2:7001 00000001000000040000000100000001000000010101000000000001"
          ++ hex_text (replicate 1412 90)
          ++ codes " -> kept",
    )
    ∷ (Accept, codes "s accept -> 10.0.0.2:7001/1/4/1/1")
    ∷ (Accept, codes "s accept -> 10.0.0.2:7001/1/4/0/1")
    ∷ (Accept, codes "s accept -> none")
    ∷ (Read 0 call 2000, codes "s read 10.0.0.2:7001/1/4/0/1 2000 -> got " ++ hex_text (replicate 1413 90))
    ∷ (Read 0 call 2000, codes "s read 10.0.0.2:7001/1/4/0/1 2000 -> end")
    ∷ (Finish call (pos 0), codes "s finish 10.0.0.2:7001/1/4/0/1 0 -> ok")
    ∷ (
      Read 0 (name 2 1 4 1 1) 2000,
      codes "s read 10.0.0.2:7001/1/4/1/1 2000 -> got " ++ hex_text (replicate 1412 90),
    )
    ∷ (Read 0 (name 2 1 4 1 1) 2000, codes "s read 10.0.0.2:7001/1/4/1/1 2000 -> notyet")
    ∷ [])

slots : Told ((server_with (record { conns = 1024; calls = 2; slots = 3; window = 32 })) ∷ client ∷ []) slots_told
unfolding digits encode_with
slots = refl

-- rounds bring it again, once a slot is free
abbrev slots_free_again_told : List (Line × List ℕ)
slots_free_again_told =
    (Read 0 (name 2 1 4 1 1) 2000, codes "s read 10.0.0.2:7001/1/4/1/1 2000 -> got 5a")
    ∷ (Read 0 (name 2 1 4 1 1) 2000, codes "s read 10.0.0.2:7001/1/4/1/1 2000 -> end")
    ∷ (Finish (name 2 1 4 1 1) (pos 0), codes "s finish 10.0.0.2:7001/1/4/1/1 0 -> ok")
    ∷ []

abbrev slots_free_again_before : List Line
slots_free_again_before = lines_of slots_told ++ Rounds 10 ∷ []

slots_free_again : ToldBehind ((server_with (record { conns = 1024; calls = 2; slots = 3; window = 32 })) ∷ client
    ∷ []) slots_free_again_before slots_free_again_told
unfolding digits encode_with
slots_free_again = refl

-- and both calls end well
abbrev both_end_well_told : List (Line × List ℕ)
both_end_well_told =
    (Read 1 call 16, codes "c1 read 10.0.0.2:7001/1/4/0/1 16 -> end")
    ∷ (Read 1 (name 2 1 4 1 1) 16, codes "c1 read 10.0.0.2:7001/1/4/1/1 16 -> end")
    ∷ (Ask 1 call, codes "c1 ask 10.0.0.2:7001/1/4/0/1 -> ok")
    ∷ (Ask 1 (name 2 1 4 1 1), codes "c1 ask 10.0.0.2:7001/1/4/1/1 -> ok")
    ∷ []

abbrev both_end_well_before : List Line
both_end_well_before = slots_free_again_before ++ lines_of slots_free_again_told ++ Rounds 10 ∷ []

both_end_well : ToldBehind ((server_with (record { conns = 1024; calls = 2; slots = 3; window = 32 })) ∷ client
    ∷ []) both_end_well_before both_end_well_told
unfolding digits encode_with
both_end_well = refl

-- a packet that finds no slot starts its call, on a connection that was not known
abbrev starts_without_a_slot_told : List (Line × List ℕ)
starts_without_a_slot_told = (
  Forge 0 at_client (unhex (codes "0000000100000004000000010000000200000001010100000000000161")),
  codes "s take 10.0.0.2:7001 0000000100000004000000010000000200000001010100000000000161 -> kept",
)
    ∷ (
      Forge 0 (host 3) (unhex (codes "0000000100000004000000010000000200000001010100000000000162")),
      codes "s take 10.0.0.3:7001 0000000100000004000000010000000200000001010100000000000162 -> noslot",
    )
    ∷ (
      Forge 0 (host 3) (unhex (codes "0000000100000004000000010000000100000002010500000000000163")),
      codes "s take 10.0.0.3:7001 0000000100000004000000010000000100000002010500000000000163 -> kept",
    )
    ∷ (Accept, codes "s accept -> 10.0.0.3:7001/1/4/0/1")
    ∷ []

starts_without_a_slot : Told ((server_with (record { conns = 1024; calls = 2; slots = 3; window = 32 }))
    ∷ []) starts_without_a_slot_told
unfolding digits encode_with
starts_without_a_slot = refl
