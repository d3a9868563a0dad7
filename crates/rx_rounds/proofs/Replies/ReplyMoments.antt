-- The moments at which something is due at an end that has no new piece to give.
use Rattle.std.proofs.Common.{◌≡◌, ◌<◌, ◌≤◌, ◌+◌, ◌∙◌, ℕ, suc, Bool, true, false, List, [], ◌∷◌, ◌++◌, refl, ap, subst}
use Rattle.std.proofs.Common.{inl, inr, sym, Option, Some, None, map, nat_lt, arith}
use Rattle.std.proofs.lemmas.Bool.{cases_lt}
use Rattle.std.specs.Prelude.{IfSome, if◌then◌else◌}
use Rattle.rx_model.specs.declared.wire.TheConstants.{SILENCE_MS}
use Rattle.rx_rules.specs.CallItems.{Ack, CallItem, Piece, ack_items, again_items, can_give, fresh_items, item_at}
use Rattle.rx_rules.specs.CallItems.{lost_items}
use Rattle.rx_rules.specs.CallItems.{piece_items, ping_items, resend_after}
use Rattle.rx_rules.specs.CallLooks.{CallLooks}
use Rattle.rx_rules.specs.Lost.{first_lost, late_of, lost_of, overtaken_of, under_way}
use Rattle.rx_rules.specs.Owing.{Owed}
use Rattle.rx_rules.specs.Sent.{LastGiving, given_of, last_giving, lowest_of}
use Rattle.rx_between.proofs.Each.EachItem.{In, in_behind, in_front}
use Rattle.rx_rounds.proofs.Serving.SendsLaws.{again_late, again_never}
use Rattle.rx_rounds.proofs.One.OneWay.{Sends}
use Rattle.rx_rounds.proofs.Settle.{end_moments, in_end}

-- the ACK that is owed has its moment
pub in_ack : (client : Bool) (k : CallLooks) (o : Owed) → k.owed_ack ≡ Some o → In o.rank (end_moments client k)
in_ack client k o owes =
    in_end client k (record { rank = o.rank; sending = Ack o.reason o.serial })
    (in_behind _ (piece_items k.rtt.rto k.cwnd k.sent) (ack_items k.owed_ack ++ ping_items client k.spoke)
    (in_front _ (ack_items k.owed_ack) (ping_items client k.spoke)
    (subst (λ (z : Option Owed). In (record { rank = o.rank; sending = Ack o.reason o.serial }) (ack_items z))
    (sym owes)
    (inl refl))))

-- a piece that may go is due at once
pub in_piece : (client : Bool) (k : CallLooks) → can_give k.cwnd k.sent ≡ true → In 0 (end_moments client k)
in_piece client k can =
    in_end client k (record { rank = 0; sending = Piece (suc (given_of k.sent)) false })
    (in_front (record { rank = 0; sending = Piece (suc (given_of k.sent)) false })
    (piece_items k.rtt.rto k.cwnd k.sent) (ack_items k.owed_ack ++ ping_items client k.spoke)
    (in_behind (record { rank = 0; sending = Piece (suc (given_of k.sent)) false }) (lost_items (lost_of k.cwnd k.sent))
    (fresh_items k.cwnd k.sent
    ++ again_items (resend_after k.rtt.rto k.cwnd.prompt (last_giving k.sent.givings (lowest_of k.sent)))
    (lowest_of k.sent)
    (last_giving k.sent.givings (lowest_of k.sent)))
    (rw can (inl refl))))

module _ (client : Bool) (whole : List ℕ) (since a n : ℕ) (k : CallLooks) (h : Sends whole since a n k)
    (none : can_give k.cwnd k.sent ≡ false) where
  -- a piece again, an ACK, a ping, and its death
  moments_are : end_moments client k ≡ map (λ (i : CallItem). i.rank) (again_items k.rtt.rto (lowest_of k.sent)
      (last_giving k.sent.givings (lowest_of k.sent)) ++ (ack_items k.owed_ack ++ ping_items client k.spoke))
      ++ (k.heard + SILENCE_MS) ∷ []
  moments_are =
      ap (λ (b : Bool). map (λ (i : CallItem). i.rank)
      ((lost_items (if b then first_lost (overtaken_of k.sent)
      (if nat_lt (under_way k.sent) k.cwnd.window then late_of k.sent else None) else None)
      ++ (fresh_items k.cwnd k.sent
      ++ again_items (resend_after k.rtt.rto b (last_giving k.sent.givings (lowest_of k.sent)))
      (lowest_of k.sent) (last_giving k.sent.givings (lowest_of k.sent)))) ++ (ack_items k.owed_ack
      ++ ping_items client k.spoke)) ++ (k.heard + SILENCE_MS) ∷ []) h.rates.steady
      ∙ ap (λ (b : Bool). map (λ (i : CallItem). i.rank)
      (((if b then item_at 0 (Piece (suc (given_of k.sent)) false) else [])
      ++ again_items k.rtt.rto (lowest_of k.sent)
      (last_giving k.sent.givings (lowest_of k.sent))) ++ (ack_items k.owed_ack
      ++ ping_items client k.spoke)) ++ (k.heard + SILENCE_MS) ∷ []) none

  -- what a moment is of: a piece that is given again, not long before 350 ms behind its last giving; the ACK that is
  -- owed; a ping; its death
  pub data MomentOf (m : ℕ) : Type 0 where
    of_piece : a < n → since + 350 ≤ m → MomentOf m
    of_ack : (o : Owed) → k.owed_ack ≡ Some o → m ≡ o.rank → MomentOf m
    of_ping : client ≡ true → m ≡ k.spoke + 2000 → MomentOf m
    of_death : m ≡ k.heard + 12000 → MomentOf m

  pub moment_of : (m : ℕ) → In m (end_moments client k) → MomentOf m
  moment_of m there =
      pieces (last_giving k.sent.givings (lowest_of k.sent)) (again_late whole since a n k h)
      (λ all. again_never whole since a n k h all) (subst (λ (ms : List ℕ). In m ms) moments_are there)
    where
      death : In m ((k.heard + SILENCE_MS) ∷ []) → MomentOf m
      death (inl same) = of_death same
      death (inr never) = absurd never

      ping : (c : Bool) → client ≡ c
          → In m (map (λ (i : CallItem). i.rank) (ping_items c k.spoke) ++ (k.heard + SILENCE_MS) ∷ []) → MomentOf m
      ping true is (inl same) = of_ping is same
      ping true is (inr rest) = death rest
      ping false is rest = death rest

      acks : (o : Option Owed) → k.owed_ack ≡ o
          → In m (map (λ (i : CallItem). i.rank) (ack_items o ++ ping_items client k.spoke)
          ++ (k.heard + SILENCE_MS) ∷ []) → MomentOf m
      acks None is rest = ping client refl rest
      acks (Some o) is (inl same) = of_ack o is same
      acks (Some o) is (inr rest) = ping client refl rest

      pieces : (z : Option LastGiving) → IfSome z (λ g. since + 350 ≤ g.moment + k.rtt.rto) → (a ≡ n → z ≡ None)
          → In m (map (λ (i : CallItem). i.rank) (again_items k.rtt.rto (lowest_of k.sent) z
          ++ (ack_items k.owed_ack ++ ping_items client k.spoke)) ++ (k.heard + SILENCE_MS) ∷ []) → MomentOf m
      pieces None late never rest = acks k.owed_ack refl rest
      pieces (Some g) late never (inl same) =
          elim (cases_lt a n) as (λ c. MomentOf m) [
            | inl less ↦ of_piece less (omega arith)
            | inr all ↦ absurd (let gone : ◌≡◌ {A = Option LastGiving} (Some g) None = never
                (let within : a ≤ n = h.known in
                omega arith) in cc)
          ]
      pieces (Some g) late never (inr rest) = acks k.owed_ack refl rest
