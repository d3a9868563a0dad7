-- What a channel owes at once, the end of its active call, and its moments, by its seat and its call's life.
use Rattle.std.proofs.Common.{◌≡◌, ◌+◌, ◌/◌, ℕ, Bool, true, false, Option, Some, None, option_map, refl, ◌∙◌, ap, sym}
use Rattle.std.proofs.Common.{subst, if◌then◌else◌}
use Rattle.std.specs.Prelude.{IsSomeAnd, option_and_then, slice_get, unwrap_or}
use Rattle.rx_model.specs.declared.wire.TheConstants.{SILENCE_MS}
use Rattle.rx_model.specs.declared.answers.End.{End}
use Rattle.rx_rules.specs.Life.{Life as RulesLife, after_silence, is_active}
use Rattle.rx_rules.specs.Life as lives
use Rattle.rx_rules.specs.Setup.{is_client}
use Rattle.rx_call.specs.Kept.{call_under}
use Rattle.rx_call.specs.Standing.{EndOfCall}
use Rattle.rx_call_ends.specs.Ends.{IsDueOf}
use Rattle.rx_table.specs.declared.seat.Seat.{Seat}
use Rattle.rx_table.specs.Records.{ConnRecord, record_at, seat_at}
use Rattle.rx_node.specs.Due.{owed_at}
use Rattle.rx_node.specs.Lives.{life_of}
use Rattle.rx_node.specs.Moments.{IsRankAt, IsRankOf, active_end, end_while_active, owed_on, proved_at, silence_at}
use Rattle.rx_node.specs.Node.{NodeState, is_active_life, life_at, life_by, seat_life}
use Rattle.rx_node.specs.declared.item.Item.{Item}
use Rattle.rx_node.specs.declared.life.Life.{Life}

module _ (n : NodeState) (key : ℕ) where
  -- ---- what it owes at once

  client-proved : (b : Bool) (o : Option ConnRecord) → IsSomeAnd o (λ r. b ≡ r.proved)
      → b ≡ unwrap_or (option_map (λ r. r.proved) o) false
  client-proved b None is = absurd is
  client-proved b (Some r) is = is

  pub owed_is : (seat : Seat) (b : Bool) → seat_at n.table key ≡ Some seat
      → IsSomeAnd (record_at n.table (key / 4)) (λ r. b ≡ r.proved) → owed_at seat b ≡ owed_on n key
  owed_is seat b there is =
      ap (owed_at seat) (client-proved b (record_at n.table (key / 4)) is)
      ∙ sym (ap (λ (o : Option Seat). option_and_then (λ s. owed_at s (proved_at n (key / 4))) o) there)

  -- ---- the end of its active call

  abbrev end-named : Option ℕ → Option EndOfCall
  end-named named =
      option_and_then (λ end. end_while_active (slice_get n.lives key) (call_under n.ends.calls end)) named

  module _ (seat : Seat) (there : seat_at n.table key ≡ Some seat) where
    by-seat : (named : Option ℕ) → seat.live ≡ named → active_end n key ≡ end-named named
    by-seat named is =
        ap (λ (o : Option Seat). end-named (option_and_then (λ s. s.live) o)) there ∙ ap end-named is

    -- none where no call lives
    pub end_free : seat.live ≡ None → active_end n key ≡ None
    end_free free = by-seat None free

    module _ (end : ℕ) (code : Life) (names : seat.live ≡ Some end) (its : slice_get n.lives key ≡ Some code) where
      by-life : (b : Bool) → is_active (life_of code) ≡ b
          → active_end n key ≡ (if b then call_under n.ends.calls end else None)
      by-life b is =
          by-seat (Some end) names
          ∙ ap (λ (o : Option Life). end_while_active o (call_under n.ends.calls end)) its
          ∙ ap (λ (c : Bool). if c then call_under n.ends.calls end else None) is

      -- that which its seat names, where its life is active
      pub end_active : is_active (life_of code) ≡ true → active_end n key ≡ call_under n.ends.calls end
      end_active is = by-life true is

      -- and else none
      pub end_inactive : is_active (life_of code) ≡ false → active_end n key ≡ None
      end_inactive is = by-life false is

  lifeless : (live : Option ℕ) (ended : Option End)
      → is_active_life (life_by n.lives (is_client n.kind) key live ended) ≡ false → end-named live ≡ None
  lifeless None ended is = refl
  lifeless (Some end) ended is = of (slice_get n.lives key) is
    where
      of : (o : Option Life) → is_active_life (option_map life_of o) ≡ false
          → end_while_active o (call_under n.ends.calls end) ≡ None
      of None is = refl
      of (Some code) is = ap (λ (b : Bool). if b then call_under n.ends.calls end else None) is

  -- none where its life isn't active
  pub end_lifeless : is_active_life (life_at n key) ≡ false → active_end n key ≡ None
  end_lifeless is = of (seat_at n.table key) is
    where
      of : (o : Option Seat) → is_active_life (option_and_then (seat_life n key) o) ≡ false
          → end-named (option_and_then (λ s. s.live) o) ≡ None
      of None is = refl
      of (Some seat) is = lifeless seat.live seat.«end» is

  -- ---- its moments

  -- what it owes at once has the rank 0
  pub rank_owed : (item : Item) → Some item ≡ owed_on n key → IsRankAt n key (Some 0)
  rank_owed item is = subst (λ (o : Option Item). IsRankOf o (active_end n key) (Some 0)) is refl

  of-none : (end : Option EndOfCall) (rank : Option ℕ) → None ≡ owed_on n key → active_end n key ≡ end
      → IsRankOf None end rank → IsRankAt n key rank
  of-none end rank owed is holds =
      subst (λ (o : Option Item). IsRankOf o (active_end n key) rank) owed
      (subst (λ (e : Option EndOfCall). IsRankOf None e rank) (sym is) holds)

  -- else its call decides
  pub rank_sent : (end : Option EndOfCall) (rank : Option ℕ) → None ≡ owed_on n key → active_end n key ≡ end
      → IsSomeAnd end (λ c. IsDueOf c rank) → IsRankAt n key rank
  rank_sent end rank owed is holds = of-none end rank owed is (of end holds)
    where
      of : (o : Option EndOfCall) → IsSomeAnd o (λ c. IsDueOf c rank) → IsRankOf None o rank
      of None is = absurd is
      of (Some c) is = is

  -- where none is active, there is nothing
  pub rank_none : None ≡ owed_on n key → active_end n key ≡ None → IsRankAt n key None
  rank_none owed is = of-none None None owed is refl

  -- an active call dies as its end says
  pub silence_some : (end : Option EndOfCall) (moment : ℕ) → active_end n key ≡ end
      → IsSomeAnd end (λ c. moment ≡ c.heard + SILENCE_MS) → Some moment ≡ silence_at n key
  silence_some end moment is holds = of end holds ∙ sym (ap (option_map (λ c. c.heard + SILENCE_MS)) is)
    where
      of : (o : Option EndOfCall) → IsSomeAnd o (λ c. moment ≡ c.heard + SILENCE_MS)
          → Some moment ≡ option_map (λ c. c.heard + SILENCE_MS) o
      of None is = absurd is
      of (Some c) is = ap (λ (m : ℕ). Some m) is

  -- and none else does
  pub silence_none : active_end n key ≡ None → None ≡ silence_at n key
  silence_none is = sym (ap (option_map (λ c. c.heard + SILENCE_MS)) is)

  -- it stays so where none is
  pub silence_idle : active_end n key ≡ None → silence_at n key ≡ None
  silence_idle is = ap (option_map (λ c. c.heard + SILENCE_MS)) is

-- ---- behind a silence that was too long

-- no life is active
pub ended_idle : (n : ℕ) (x : RulesLife) → is_active (after_silence n x) ≡ false
ended_idle n lives.Calling = refl
ended_idle n (lives.Ended end) = refl
ended_idle n lives.Waiting = refl
ended_idle n lives.Accepted = refl
ended_idle n lives.Finished = refl
ended_idle n (lives.Broken code) = refl
ended_idle n (lives.Over code) = refl

pub silenced_idle : (n : ℕ) (o : Option RulesLife) → is_active_life (option_map (after_silence n) o) ≡ false
silenced_idle n None = refl
silenced_idle n (Some x) = ended_idle n x
