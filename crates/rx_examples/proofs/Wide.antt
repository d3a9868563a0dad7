-- Worked examples of wide windows.
use Rattle.std.specs.Prelude.{◌++◌, ℕ, List, [], ◌∷◌, codes, refl, pos, replicate}
use Rattle.rx_model.specs.Text.{hex_text}
use Rattle.rx_rules.proofs.Replay.{unhex}
use Rattle.rx_examples.proofs.Story.{Line, Write, Read, Finish, Poll}
use Rattle.rx_examples.proofs.Told.{Told, server_with, client_with, call, client, server}
use Rattle.rx_examples.proofs.Shared.{connected, accepted}
use Rattle.std.specs.Fmt.{digits}
use Rattle.hex.specs.Hex.{encode_with}

-- a window of 255 takes 255 pieces
abbrev wide_write_told : List (Line × List ℕ)
wide_write_told =
    connected
    ++ ((
      Write 1 call (replicate 400000 90),
      codes "c1 write 10.0.0.2:7001/1/4/0/1 400000 -> 360060 " ++ hex_text (replicate 360060 90),
    )
    ∷ (Write 1 call (unhex (codes "00")), codes "c1 write 10.0.0.2:7001/1/4/0/1 1 -> 0 -")
    ∷ [])

wide_write : Told (server ∷ (client_with (record { conns = 1024; calls = 64; slots = 2048; window = 255 }))
    ∷ []) wide_write_told
unfolding digits encode_with
wide_write = refl

-- a server tells its window
abbrev wide_trailer_told : List (Line × List ℕ)
wide_trailer_told =
    accepted
    ++ ((Read 0 call 16, codes "s read 10.0.0.2:7001/1/4/0/1 16 -> end")
    ∷ (Finish call (pos 0), codes "s finish 10.0.0.2:7001/1/4/0/1 0 -> ok")
    ∷ (Poll 0, codes "s poll -> 10.0.0.2:7001 00000001000000040000000100000001000000010106000000000001")
    ∷ (
      Poll 0,
      codes "s poll -> 10.0.0.2:7001 00000001000000040000000100000000000000020200000000000001000000000000000200"
          ++ codes "000001000000010100000000000005a4000005a4000000ff00000001",
    )
    ∷ [])

wide_trailer : Told ((server_with (record { conns = 1024; calls = 64; slots = 2048; window = 255 })) ∷ client
    ∷ []) wide_trailer_told
unfolding digits encode_with
wide_trailer = refl
