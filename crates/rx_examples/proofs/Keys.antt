-- Worked examples of the class by a shared key.
use Rattle.std.specs.Prelude.{◌++◌, ℕ, List, [], ◌∷◌, codes, refl, pos}
use Rattle.rx_rules.specs.Classes.{token}
use Rattle.rx_rules.proofs.Replay.{unhex}
use Rattle.rx_examples.proofs.Story.{Line, Write, Shut, Read, Ask, Accept, Finish, Forge, Poll, Deliver}
use Rattle.rx_examples.proofs.Told.{Told, server_of, client_of, key_a, key_b, at_client, at_server, call, client}
use Rattle.rx_examples.proofs.Shared.{connected, keyed, challenged}
use Rattle.std.specs.Fmt.{digits}
use Rattle.hex.specs.Hex.{encode_with}
use Rattle.sha2.specs.Sha256.{sha256, digest_bytes, hash_after, compress, rounds, schedule, first_words}

-- a client with the server's key is challenged once and accepted
abbrev same_key_told : List (Line × List ℕ)
same_key_told =
    challenged
    ++ ((
      Poll 1,
      codes "c1 poll -> 10.0.0.1:7000 0000000100000004000000010000000000000002070100c800000001160a1c7b51b73ac20"
          ++ codes "1853d11d6c750bb6149e39b050a3c38acd244081c377e32",
    )
    ∷ (
      Deliver 4,
      codes "s take 10.0.0.2:7001 0000000100000004000000010000000000000002070100c800000001160a1c7b51b73ac201853"
          ++ codes "d11d6c750bb6149e39b050a3c38acd244081c377e32 -> heard",
    )
    ∷ (Accept, codes "s accept -> 10.0.0.2:7001/1/4/0/1")
    ∷ (
      Read 0 call 4096,
      codes "s read 10.0.0.2:7001/1/4/0/1 4096 -> got 000000840000000100000002000000030000000161000000000001a4",
    )
    ∷ (Read 0 call 4096, codes "s read 10.0.0.2:7001/1/4/0/1 4096 -> end")
    ∷ (
      Write 0 call (unhex (codes "000001a400000001000000010000000200000003")),
      codes "s write 10.0.0.2:7001/1/4/0/1 20 -> 20 000001a400000001000000010000000200000003",
    )
    ∷ (Finish call (pos 0), codes "s finish 10.0.0.2:7001/1/4/0/1 0 -> ok")
    ∷ [])

same_key : Told ((server_of (token key_a)) ∷ (client_of (token key_a)) ∷ []) same_key_told
unfolding digits encode_with sha256 digest_bytes hash_after compress rounds schedule first_words
same_key = refl

-- a client with another key is told so
abbrev other_key_told : List (Line × List ℕ)
other_key_told =
    challenged
    ++ ((
      Poll 1,
      codes "c1 poll -> 10.0.0.1:7000 0000000100000004000000010000000000000002070100c800000001570de280097638ca4"
          ++ codes "6368b9a44db620c5537cffd80a1c30796f8426f673233e2",
    )
    ∷ (
      Deliver 4,
      codes "s take 10.0.0.2:7001 0000000100000004000000010000000000000002070100c800000001570de280097638ca46368"
          ++ codes "b9a44db620c5537cffd80a1c30796f8426f673233e2 -> stopped",
    )
    ∷ (Accept, codes "s accept -> none")
    ∷ (
      Poll 0,
      codes "s poll -> 10.0.0.2:7001 0000000100000004000000010000000000000003040000c800000001fffffffb",
    )
    ∷ (
      Deliver 5,
      codes "c1 take 10.0.0.1:7000 0000000100000004000000010000000000000003040000c800000001fffffffb -> stopped",
    )
    ∷ (Ask 1 call, codes "c1 ask 10.0.0.2:7001/1/4/0/1 -> abort -5")
    ∷ [])

other_key : Told ((server_of (token key_a)) ∷ (client_of (token key_b)) ∷ []) other_key_told
unfolding digits encode_with sha256 digest_bytes hash_after compress rounds schedule first_words
other_key = refl

-- a client without a key isn't served
abbrev no_key_told : List (Line × List ℕ)
no_key_told =
    connected
    ++ ((
      Write 1 call (unhex (codes "000000840000000100000002000000030000000161000000000001a4")),
      codes "c1 write 10.0.0.2:7001/1/4/0/1 28 -> 28 000000840000000100000002000000030000000161000000000001a4",
    )
    ∷ (Shut 1 call, codes "c1 shut 10.0.0.2:7001/1/4/0/1 -> ok")
    ∷ (
      Poll 1,
      codes "c1 poll -> 10.0.0.1:7000 0000000100000004000000010000000100000001010700000000000100000084000000010"
          ++ codes "0000002000000030000000161000000000001a4",
    )
    ∷ (
      Deliver 1,
      codes "s take 10.0.0.2:7001 00000001000000040000000100000001000000010107000000000001000000840000000100000"
          ++ codes "002000000030000000161000000000001a4 -> unserved",
    )
    ∷ (
      Poll 0,
      codes "s poll -> 10.0.0.2:7001 00000001000000040000000000000000000000000400000000000001fffffffe",
    )
    ∷ (
      Deliver 2,
      codes "c1 take 10.0.0.1:7000 00000001000000040000000000000000000000000400000000000001fffffffe -> stopped",
    )
    ∷ (Ask 1 call, codes "c1 ask 10.0.0.2:7001/1/4/0/1 -> abort -2")
    ∷ [])

no_key : Told ((server_of (token key_a)) ∷ client ∷ []) no_key_told
unfolding digits encode_with sha256 digest_bytes hash_after compress rounds schedule first_words
no_key = refl

-- a challenge of 7 bytes has no answer, and a response a byte short or long is wrong
abbrev lengths_count_told : List (Line × List ℕ)
lengths_count_told =
    keyed
    ++ ((
      Forge 1 at_server (unhex (codes "0000000100000004000000010000000000000009060000c80000000100000000000000")),
      codes "c1 take 10.0.0.1:7000 0000000100000004000000010000000000000009060000c80000000100000000000000 -> st"
          ++ codes "range",
    )
    ∷ (
      Forge 0 at_client (unhex
          (codes "0000000100000004000000010000000000000002070100c800000001160a1c7b51b73ac201853d11d6c750bb6149e39b05")
          ++ unhex (codes "0a3c38acd244081c377e")),
      codes "s take 10.0.0.2:7001 0000000100000004000000010000000000000002070100c800000001160a1c7b51b73ac201853"
          ++ codes "d11d6c750bb6149e39b050a3c38acd244081c377e -> stopped",
    )
    ∷ (Ask 1 call, codes "c1 ask 10.0.0.2:7001/1/4/0/1 -> live")
    ∷ [])

lengths_count : Told ((server_of (token key_a)) ∷ (client_of (token key_a)) ∷ []) lengths_count_told
unfolding digits encode_with sha256 digest_bytes hash_after compress rounds schedule first_words
lengths_count = refl
