-- Behind a turn of the dispatcher a call of its server is drained, where it is at work; and a stream all of whose
-- pieces stand without a gap is complete.
use Rattle.std.proofs.Common.{◌≡◌, ◌⊎◌, inl, inr, ◌<◌, ◌≤◌, ◌+◌, ◌*◌, ◌∷◌, ◌==◌, cond, ℕ, suc, zero, Bool, true, false}
use Rattle.std.proofs.Common.{List, [], length, refl, ap, sym, subst, ◌∙◌, Option, Some, None, arith, is_some, nat_le}
use Rattle.std.proofs.lemmas.Bool.Decides.{nat_tests}
use Rattle.rx_model.specs.declared.names.CallName.{CallName}
use Rattle.rx_model.proofs.NameLaws.{same_number}
use Rattle.rx_rules.specs.Life.{is_active, is_handled}
use Rattle.rx_rules.specs.Life as lives
use Rattle.rx_rules.specs.Looks.{CallRecord, is_call}
use Rattle.rx_rules.specs.Received.{Packet, front_of, is_within, last_seq, packet_at}
use Rattle.rx_rules.specs.Received as packets
use Rattle.rx_rules.specs.Rules.{Legal}
use Rattle.rx_rules.specs.Sent.{pieces_by}
use Rattle.rx_rules.specs.Setup.{FitsSetup, IsServer}
use Rattle.rx_rules.proofs.PacketLaws.{front_all}
use Rattle.rx_history.specs.Sides.{Node, side}
use Rattle.rx_law.specs.Pieces.{IsAt}
use Rattle.rx_law.proofs.Fronts.{ArePieces}
use Rattle.rx_progress.specs.Moving.{IsDrained}
use Rattle.rx_jobs.specs.Handlers.{Handlers}
use Rattle.rx_plan.specs.Stages.{Stage}
use Rattle.rx_closing.proofs.Ends.LastOnly.{OneLast, ended_drained, one_last, unread_drained}
use Rattle.rx_closing.proofs.Far.AtWork.{one_record}
use Rattle.rx_closing.proofs.Far.FinishedRead.{finished_read}
use Rattle.rx_closing.proofs.Server.ServerTurn.{Rests, ServedTurn, rests_coded, rests_finished, rests_longer}
use Rattle.rx_closing.proofs.Server.ServerTurn.{rests_reading, rests_waiting, rests_writing, served, served_lingers}
use Rattle.rx_closing.proofs.Server.ServerTurn.{served_quits, served_stays, served_works}

-- ---- drained

-- no test is both passed and failed
pub both_ways : (b : Bool) → b ≡ true → b ≡ false → ⊥
both_ways b yes_ no_ =
    let wrong : ◌≡◌ {A = Bool} true false = sym yes_ ∙ no_ in
    cc (wrong)

module _ (g : Handlers) (node : Node) (serves : IsServer node.setup.kind) (fits : FitsSetup node.setup) (c : CallName)
    (s t : Stage) (legal : Legal node.setup (side 0 t.history)) where
  -- at work: a handler has it, or it ended well
  abbrev AtWork : CallRecord → Type 0
  AtWork f = (f.life ≡ lives.Accepted) ⊎ (f.life ≡ lives.Finished)

  works_active : (f : CallRecord) → AtWork f → is_active f.life ≡ true
  works_active f (inl life) = ap is_active life
  works_active f (inr life) = ap is_active life

  -- where it wasn't read to its end its job read all that stands without a gap
  reads_drained : (f : CallRecord) → served g node serves c t ≡ Some f → f.life ≡ lives.Accepted
      → f.looks.received.ended ≡ false → ServedTurn g node serves c s t → IsDrained f.looks.received
  reads_drained f there life more (served_stays same idle first others) =
      absurd (both_ways (is_handled f.life) (ap is_handled life)
      (ap (λ (o : Option CallRecord). is_call (λ r. is_handled r.life) o) (sym there ∙ same) ∙ idle))
  reads_drained f there life more (served_quits r q code was broke is over turns others) =
      let one : q ≡ f = one_record q f (served g node serves c t) is there in
      absurd (let wrong : lives.Over (Some code) ≡ lives.Accepted =
      sym over ∙ ap (λ (x : CallRecord). x.life) one ∙ life in cc (wrong))
  reads_drained f there life more (served_lingers r code was broke same before one is waits_ less ended) =
      let mine : r ≡ f = one_record r f (served g node serves c t) (same ∙ was) there in
      absurd (let wrong : lives.Broken code ≡ lives.Accepted =
      sym broke ∙ ap (λ (x : CallRecord). x.life) mine ∙ life in cc (wrong))
  reads_drained f there life more (served_works r q w rests) =
      subst (λ (x : CallRecord). IsDrained x.looks.received) one
      (by rests (ap (λ (x : CallRecord). x.looks.received.ended) one ∙ more)
      (ap (λ (x : CallRecord). x.life) one ∙ life))
    where
      one : q ≡ f
      one = one_record q f (served g node serves c t) w.is there

      by : Rests g node serves c s t r q → q.looks.received.ended ≡ false → q.life ≡ lives.Accepted
          → IsDrained q.looks.received
      by (rests_reading now_ job going undecided open_ all incomplete) none living =
          unread_drained q.looks.received (one_last node.setup (side 0 t.history) c q fits legal w.is) all incomplete
      by (rests_waiting now_ job ended undecided less whole since) none living =
          absurd (both_ways q.looks.received.ended whole none)
      by (rests_longer now_ before_ same before job is waits_ less whole) none living =
          absurd (both_ways q.looks.received.ended (ap (λ k. k.received.ended) same ∙ whole) none)
      by (rests_writing code now_ job ended coded zero_ some whole full) none living =
          absurd (both_ways q.looks.received.ended whole none)
      by (rests_finished now_ shut whole others) none living = absurd (both_ways q.looks.received.ended whole none)
      by (rests_coded code now_ others) none living =
          absurd (let wrong : lives.Over (Some code) ≡ lives.Accepted = sym now_ ∙ living in cc (wrong))

  -- behind the turn it is drained
  pub turn_drained : ServedTurn g node serves c s t → (f : CallRecord) → served g node serves c t ≡ Some f → AtWork f
      → IsDrained f.looks.received
  turn_drained turn f there works = by f.looks.received.ended refl works
    where
      by : (b : Bool) → f.looks.received.ended ≡ b → AtWork f → IsDrained f.looks.received
      by true ended x = ended_drained node.setup (side 0 t.history) c f legal there (works_active f x) ended
      by false more (inl life) = reads_drained f there life more turn
      by false more (inr life) =
          absurd (both_ways f.looks.received.ended
          (finished_read node.setup (side 0 t.history) c f serves fits legal there life) more)

-- ---- complete

-- a packet that is found is one of the pieces
piece_found : (said : List ℕ) (shut : Bool) (ps : List Packet) (n : ℕ) (q : packets.Piece) → ArePieces said shut ps
    → packet_at ps n ≡ Some q → IsAt said shut n q
piece_found said shut [] n q are there = absurd cc
piece_found said shut (p ∷ ps) n q are there =
    by (λ rest. piece_found said shut ps n q are.1 rest) (p.seq == n) refl there
  where
    by : (packet_at ps n ≡ Some q → IsAt said shut n q) → (b : Bool) → (p.seq == n) ≡ b
        → cond b (Some p.piece) (packet_at ps n) ≡ Some q → IsAt said shut n q
    by again true same found =
        let mine : p.piece ≡ q = cc in
        subst (λ (x : packets.Piece). IsAt said shut n x) mine
        (subst (λ (m : ℕ). IsAt said shut m p.piece) (same_number p.seq n same) are.0)
    by again false other found = again found

-- where all pieces of a stream that is shut stand without a gap, the last of them does
pub all_complete : (said : List ℕ) (ps : List Packet) → ArePieces said true ps → OneLast ps
    → pieces_by (length said) true ≤ front_of ps → is_within (last_seq ps) (front_of ps) ≡ true
all_complete said ps are one all = of (pieces_by (length said) true) refl
  where
    some : (n : ℕ) → 1 ≤ pieces_by n true
    some n = omega arith

    long : (n : ℕ) → n ≤ 1412 * pieces_by n true
    long n = omega arith

    last_of : (j : ℕ) (q : packets.Piece) → pieces_by (length said) true ≡ suc j → IsAt said true (suc j) q
        → q.last ≡ true
    last_of j q is at = by q.last refl
      where
        by : (b : Bool) → q.last ≡ b → b ≡ true
        by true last = refl
        by false other =
            let more : 1412 * j + 1412 < length said = at.more other in
            absurd (omega (arith, more, long (length said), is))

    of : (n : ℕ) → pieces_by (length said) true ≡ n → is_within (last_seq ps) (front_of ps) ≡ true
    of zero is = absurd (omega (arith, some (length said), is))
    of (suc j) is = found_by (packet_at ps (suc j)) refl (front_all ps j (omega (arith, all, is)))
      where
        found_by : (o : Option packets.Piece) → packet_at ps (suc j) ≡ o → is_some o ≡ true
            → is_within (last_seq ps) (front_of ps) ≡ true
        found_by None there wrong = absurd cc
        found_by (Some q) there wrong =
            let last : last_seq ps ≡ Some (suc j) =
            one (suc j) q there (last_of j q is (piece_found said true ps (suc j) q are there)) in
            let within : nat_le (suc j) (front_of ps) ≡ true = (let low = all in grind (arith, nat_tests)) in
            ap (λ (o : Option ℕ). is_within o (front_of ps)) last ∙ within
