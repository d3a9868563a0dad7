-- Worked examples of what is given again, and when.
use Rattle.std.specs.Prelude.{◌≡◌, ◌++◌, ℕ, List, [], ◌∷◌, codes, refl, Some}
use Rattle.rx_examples.proofs.Story.{Line, Read, Ask, Poll, Deliver, Clock}
use Rattle.rx_examples.proofs.Told.{Told, call, client, server, rates_told}
use Rattle.rx_examples.proofs.Shared.{asked, served}
use Rattle.std.specs.Fmt.{digits}
use Rattle.hex.specs.Hex.{encode_with}

-- a reply that is lost is given again after one second, and then after two
abbrev reply_lost_twice_told : List (Line × List ℕ)
reply_lost_twice_told =
    served
    ++ ((
      Deliver 3,
      codes "c1 take 10.0.0.1:7000 0000000100000004000000010000000000000002020000000000000100000000000000020000"
          ++ codes "0001000000010100000000000005a4000005a40000002000000001 -> heard",
    )
    ∷ (Clock 0 999, codes "s clock 999")
    ∷ (Poll 0, codes "s poll -> none")
    ∷ (Clock 0 1000, codes "s clock 1000")
    ∷ (Poll 0, codes "s poll -> 10.0.0.2:7001 00000001000000040000000100000001000000030106000000000001")
    ∷ (Clock 0 2999, codes "s clock 2999")
    ∷ (Poll 0, codes "s poll -> none")
    ∷ (Clock 0 3000, codes "s clock 3000")
    ∷ (Poll 0, codes "s poll -> 10.0.0.2:7001 00000001000000040000000100000001000000040106000000000001")
    ∷ (
      Deliver 5,
      codes "c1 take 10.0.0.1:7000 00000001000000040000000100000001000000040106000000000001 -> kept",
    )
    ∷ (Read 1 call 16, codes "c1 read 10.0.0.2:7001/1/4/0/1 16 -> end")
    ∷ (Clock 0 6999, codes "s clock 6999")
    ∷ (Poll 0, codes "s poll -> none")
    ∷ (Clock 0 7000, codes "s clock 7000")
    ∷ (Poll 0, codes "s poll -> 10.0.0.2:7001 00000001000000040000000100000001000000050106000000000001")
    ∷ [])

reply_lost_twice : Told (server ∷ client ∷ []) reply_lost_twice_told
unfolding digits encode_with
reply_lost_twice = refl

-- its congestion window is 1 then, and its RTO 4,000 ms
reply_lost_twice_rates : rates_told (server ∷ client ∷ []) reply_lost_twice_told 0 call ≡ Some (4000, 1)
reply_lost_twice_rates = refl

-- nothing arrives: the request is given again, the client pings, and dies after 12 seconds
abbrev all_lost_told : List (Line × List ℕ)
all_lost_told =
    asked
    ++ ((Poll 1, codes "c1 poll -> none")
    ∷ (Clock 1 1000, codes "c1 clock 1000")
    ∷ (Poll 1, codes "c1 poll -> 10.0.0.1:7000 00000001000000040000000100000001000000020107000000000001")
    ∷ (Poll 1, codes "c1 poll -> none")
    ∷ (Clock 1 3000, codes "c1 clock 3000")
    ∷ (Poll 1, codes "c1 poll -> 10.0.0.1:7000 00000001000000040000000100000001000000030107000000000001")
    ∷ (Poll 1, codes "c1 poll -> none")
    ∷ (Clock 1 5000, codes "c1 clock 5000")
    ∷ (
      Poll 1,
      codes "c1 poll -> 10.0.0.1:7000 0000000100000004000000010000000000000004020300000000000100000000000000010"
          ++ codes "0000000000000000600000000000005a4000005a40000002000000001",
    )
    ∷ (Poll 1, codes "c1 poll -> none")
    ∷ (Clock 1 7000, codes "c1 clock 7000")
    ∷ (Poll 1, codes "c1 poll -> 10.0.0.1:7000 00000001000000040000000100000001000000050107000000000001")
    ∷ (Poll 1, codes "c1 poll -> none")
    ∷ (Clock 1 9000, codes "c1 clock 9000")
    ∷ (
      Poll 1,
      codes "c1 poll -> 10.0.0.1:7000 0000000100000004000000010000000000000006020300000000000100000000000000010"
          ++ codes "0000000000000000600000000000005a4000005a40000002000000001",
    )
    ∷ (Poll 1, codes "c1 poll -> none")
    ∷ (Clock 1 11000, codes "c1 clock 11000")
    ∷ (Poll 1, codes "c1 poll -> 10.0.0.1:7000 00000001000000040000000100000001000000070107000000000001")
    ∷ (Clock 1 11999, codes "c1 clock 11999")
    ∷ (Poll 1, codes "c1 poll -> none")
    ∷ (Ask 1 call, codes "c1 ask 10.0.0.2:7001/1/4/0/1 -> live")
    ∷ (Clock 1 12000, codes "c1 clock 12000")
    ∷ (Poll 1, codes "c1 poll -> none")
    ∷ (Ask 1 call, codes "c1 ask 10.0.0.2:7001/1/4/0/1 -> dead 12000")
    ∷ [])

all_lost : Told (server ∷ client ∷ []) all_lost_told
unfolding digits encode_with
all_lost = refl
