-- Worked examples of streams of several pieces.
use Rattle.std.specs.Prelude.{◌++◌, ℕ, List, [], ◌∷◌, codes, refl, replicate}
use Rattle.rx_model.specs.Text.{hex_text}
use Rattle.rx_rules.proofs.Replay.{unhex}
use Rattle.rx_examples.proofs.Story.{Line, Write, Shut, Read, Accept, Poll, Deliver, Rounds}
use Rattle.rx_examples.proofs.Told.{Told, ToldBehind, lines_of, call, client, server}
use Rattle.rx_examples.proofs.Shared.{connected, two_pieces}
use Rattle.std.specs.Fmt.{digits}
use Rattle.hex.specs.Hex.{encode_with}

-- a request of 1,412 bytes is one piece
abbrev one_full_piece_told : List (Line × List ℕ)
one_full_piece_told =
    connected
    ++ ((
      Write 1 call (replicate 1412 90),
      codes "c1 write 10.0.0.2:7001/1/4/0/1 1412 -> 1412 " ++ hex_text (replicate 1412 90),
    )
    ∷ (Shut 1 call, codes "c1 shut 10.0.0.2:7001/1/4/0/1 -> ok")
    ∷ (
      Poll 1,
      codes "c1 poll -> 10.0.0.1:7000 00000001000000040000000100000001000000010107000000000001"
          ++ hex_text (replicate 1412 90),
    )
    ∷ (Poll 1, codes "c1 poll -> none")
    ∷ [])

one_full_piece : Told (server ∷ client ∷ []) one_full_piece_told
unfolding digits encode_with
one_full_piece = refl

-- one of 1,413 bytes is two
abbrev a_byte_more_told : List (Line × List ℕ)
a_byte_more_told =
    connected
    ++ ((
      Write 1 call (replicate 1413 90),
      codes "c1 write 10.0.0.2:7001/1/4/0/1 1413 -> 1413 " ++ hex_text (replicate 1413 90),
    )
    ∷ (Shut 1 call, codes "c1 shut 10.0.0.2:7001/1/4/0/1 -> ok")
    ∷ (
      Poll 1,
      codes "c1 poll -> 10.0.0.1:7000 00000001000000040000000100000001000000010101000000000001"
          ++ hex_text (replicate 1412 90),
    )
    ∷ (Poll 1, codes "c1 poll -> 10.0.0.1:7000 000000010000000400000001000000020000000201070000000000015a")
    ∷ (Poll 1, codes "c1 poll -> none")
    ∷ [])

a_byte_more : Told (server ∷ client ∷ []) a_byte_more_told
unfolding digits encode_with
a_byte_more = refl

-- the second piece comes first
abbrev out_of_order_told : List (Line × List ℕ)
out_of_order_told =
    two_pieces
    ++ ((
      Read 0 call 2000,
      codes "s read 10.0.0.2:7001/1/4/0/1 2000 -> got " ++ hex_text (replicate 1412 90) ++ codes "6b",
    )
    ∷ (Read 0 call 2000, codes "s read 10.0.0.2:7001/1/4/0/1 2000 -> end")
    ∷ [])

out_of_order : Told (server ∷ client ∷ []) out_of_order_told
unfolding digits encode_with
out_of_order = refl

-- a window of 32 pieces is full, and stays so where nobody reads
abbrev full_window_told : List (Line × List ℕ)
full_window_told =
    connected
    ++ ((
      Write 1 call (replicate 46596 90),
      codes "c1 write 10.0.0.2:7001/1/4/0/1 46596 -> 45184 " ++ hex_text (replicate 45184 90),
    )
    ∷ (Write 1 call (unhex (codes "00")), codes "c1 write 10.0.0.2:7001/1/4/0/1 1 -> 0 -")
    ∷ (
      Poll 1,
      codes "c1 poll -> 10.0.0.1:7000 00000001000000040000000100000001000000010101000000000001"
          ++ hex_text (replicate 1412 90),
    )
    ∷ (
      Deliver 1,
      codes "s take 10.0.0.2:7001 00000001000000040000000100000001000000010101000000000001"
          ++ hex_text (replicate 1412 90)
          ++ codes " -> kept",
    )
    ∷ (Accept, codes "s accept -> 10.0.0.2:7001/1/4/0/1")
    ∷ [])

full_window : Told (server ∷ client ∷ []) full_window_told
unfolding digits encode_with
full_window = refl

-- nor after 40 rounds
abbrev still_full_told : List (Line × List ℕ)
still_full_told =
    (Write 1 call (unhex (codes "00")), codes "c1 write 10.0.0.2:7001/1/4/0/1 1 -> 0 -")
    ∷ []

abbrev still_full_before : List Line
still_full_before = lines_of full_window_told ++ Rounds 40 ∷ []

still_full : ToldBehind (server ∷ client ∷ []) still_full_before still_full_told
unfolding digits encode_with
still_full = refl
