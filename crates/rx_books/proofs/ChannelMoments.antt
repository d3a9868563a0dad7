-- What the books have of a channel is what the rules say of it, of all look-ups that its node mirrors.
use Rattle.std.proofs.Common.{◌≡◌, ◌+◌, ◌/◌, ◌%◌, ℕ, Bool, true, false, List, length}
use Rattle.std.proofs.Common.{Option, Some, None, option_map, refl, ◌∙◌, ap, sym, subst, arith, if◌then◌else◌}
use Rattle.std.specs.Prelude.{IsSomeAnd, is_some, option_and_then, slice_get}
use Rattle.std.proofs.lemmas.Bool.{false≢true}
use Rattle.rx_model.specs.Names.{Channel}
use Rattle.rx_model.specs.declared.wire.TheConstants.{SILENCE_MS}
use Rattle.rx_rules.specs.CallItems.{CallItem, call_due, call_items}
use Rattle.rx_rules.specs.Classes.{Class}
use Rattle.rx_rules.specs.Items.{Item, channel_items, item_of, items_of}
use Rattle.rx_rules.specs.Least.{least_by}
use Rattle.rx_rules.specs.Life.{is_active, is_live}
use Rattle.rx_rules.specs.Looks.{CallRecord, Looks, is_call, latest}
use Rattle.rx_rules.specs.Setup.{Setup, is_client}
use Rattle.rx_call.specs.Kept.{call_under}
use Rattle.rx_call.specs.Standing.{EndOfCall}
use Rattle.rx_call_ends.specs.Ends.{StandsAs}
use Rattle.rx_table.specs.Records.{ConnRecord, record_at, seat_at}
use Rattle.rx_table.specs.declared.seat.Seat.{Seat}
use Rattle.rx_node.specs.Due.{OwesAtOnce, death_of, unsilenced}
use Rattle.rx_node.specs.Lives.{life_of}
use Rattle.rx_node.specs.Mirrors.{ChannelStands, IsChannel, IsKey, Mirrors}
use Rattle.rx_node.specs.Moments.{IsRankAt, IsRankOf, active_end, end_while_active, owed_on, silence_at}
use Rattle.rx_node.specs.Node.{NodeState, is_active_life, life_at, life_by, seat_life, setup_of}
use Rattle.rx_node.specs.declared.item.Item.{Item as CodeItem}
use Rattle.rx_node.specs.declared.life.Life.{Life as CodeLife}
use Rattle.rx_node.proofs.DueItems.{items_active}
use Rattle.rx_node.proofs.Steps.IdleSteps.{place_stands}
use Rattle.rx_node.proofs.KeptKeys.{seat_key}
use Rattle.rx_node.proofs.LeastItems.{least_map}
use Rattle.rx_node.proofs.LifeLaws.{live_if_active}
use Rattle.rx_node.proofs.Steps.MomentSteps.{end_active, end_lifeless, owed_is, silence_idle}
use Rattle.rx_node.proofs.OwedItems.{owed_first}
use Rattle.rx_node.proofs.Steps.TableSteps.{get_some}

-- ---- items

-- what an active call sends has the rank at which it is due
pub rank_sent : (s : Setup) (l : Looks) (k : CallRecord) → is_active k.life ≡ true
    → option_map (λ i. i.rank) (least_by (λ i. i.rank) (items_of s (unsilenced l) (Some k)))
    ≡ call_due (is_client s.kind) k.looks
rank_sent s l k active =
    ap (λ (is : List Item). option_map (λ i. i.rank) (least_by (λ i. i.rank) is)) (items_active s l k active)
    ∙ ap (option_map (λ i. i.rank))
    (least_map (λ i. i.rank) (λ i. i.rank) (item_of s k) (call_items (is_client s.kind) k.looks) (λ i. refl))
    ∙ of (least_by (λ i. i.rank) (call_items (is_client s.kind) k.looks))
  where
    of : (o : Option CallItem) → option_map (λ i. i.rank) (option_map (item_of s k) o) ≡ option_map (λ i. i.rank) o
    of None = refl
    of (Some i) = refl

-- a channel with a death is one
pub silence_key : (n : NodeState) (key moment : ℕ) → silence_at n key ≡ Some moment → IsKey n key
silence_key n key moment is = of (seat_at n.table key) refl is
  where
    of : (o : Option Seat) → seat_at n.table key ≡ o → silence_at n key ≡ Some moment → IsKey n key
    of None none is =
        absurd (
        let end : active_end n key ≡ None =
        ap (λ (o : Option Seat). option_and_then
        (λ e. end_while_active (slice_get n.lives key) (call_under n.ends.calls e))
        (option_and_then (λ s. s.live) o)) none in
        let both = sym (silence_idle n key end) ∙ is in
        cc (both))
    of (Some seat) there is = seat_key n key seat there

-- ---- a channel

-- the end of its active call
pub record ActiveEnd (n : NodeState) (key : ℕ) (k : CallRecord) : Type 0 where
  pub end : EndOfCall
  pub is : active_end n key ≡ Some end
  pub stands : StandsAs n.ends end k.looks

module _ (class : List ℕ → Class) (n : NodeState) (l : Looks) (m : Mirrors class n l) (key : ℕ) (ch : Channel)
    (at : IsChannel l key ch) where
  pub record SeatOf : Type 0 where
    pub rec : ConnRecord
    pub rec_there : record_at n.table (key / 4) ≡ Some rec
    pub seat : Seat
    pub there : seat_at n.table key ≡ Some seat

  seat-of : SeatOf
  seat-of =
      let p = place_stands class n l m (key / 4) at.conn at.there in
      let four : length p.rec.seats ≡ 4 = p.stands.seats in
      let seat = get_some p.rec.seats (key % 4) (omega (arith, four)) in
      record {
        rec = p.rec;
        rec_there = p.rec_there;
        seat = seat.0;
        there = ap (λ (e : Option ConnRecord). option_and_then (λ r. slice_get r.seats (key % 4)) e) p.rec_there
            ∙ seat.1;
      }

  was : ChannelStands n l key ch seat-of.seat
  was = m.channels key ch seat-of.seat at seat-of.there

  life-is : life_at n key ≡ option_map (λ k. k.life) (latest l ch)
  life-is = ap (option_and_then (seat_life n key)) seat-of.there ∙ was.call.life

  -- where its latest call isn't active, it has none
  pub inactive_end : is_active_life (option_map (λ k. k.life) (latest l ch)) ≡ false → active_end n key ≡ None
  inactive_end is = end_lifeless n key (ap is_active_life life-is ∙ is)

  module _ (k : CallRecord) (here : latest l ch ≡ Some k) (active : is_active k.life ≡ true) where
    lives : seat_life n key seat-of.seat ≡ Some k.life
    lives = was.call.life ∙ ap (option_map (λ j. j.life)) here

    named : is_some seat-of.seat.live ≡ true
    named = was.call.live ∙ ap (is_call (λ j. is_live j.life)) here ∙ live_if_active k.life active

    by-call : (e : ℕ) → active_end n key ≡ call_under n.ends.calls e → (o : Option EndOfCall)
        → call_under n.ends.calls e ≡ o → IsSomeAnd o (λ c. StandsAs n.ends c k.looks) → ActiveEnd n key k
    by-call e is None it stands = absurd stands
    by-call e is (Some c) it stands = record { end = c; is = is ∙ it; stands = stands }

    by-life : (e : ℕ) → seat-of.seat.live ≡ Some e → (o : Option CodeLife) → slice_get n.lives key ≡ o
        → option_map life_of o ≡ Some k.life → ActiveEnd n key k
    by-life e names None its life = absurd (cc (life))
    by-life e names (Some code) its life =
        (let same : life_of code ≡ k.life = cc (life) in
        by-call e (end_active n key seat-of.seat seat-of.there e code names its (ap is_active same ∙ active))
        (call_under n.ends.calls e) refl (was.call.stands e k names here active))

    by-seat : (o : Option ℕ) → seat-of.seat.live ≡ o → ActiveEnd n key k
    by-seat None none = absurd (false≢true (sym (ap (λ (o : Option ℕ). is_some o) none) ∙ named))
    by-seat (Some e) names =
        by-life e names (slice_get n.lives key) refl
        (sym (ap (λ (o : Option ℕ). life_by n.lives (is_client n.kind) key o seat-of.seat.«end») names) ∙ lives)

    -- where it is, it has that
    pub active_end_of : ActiveEnd n key k
    active_end_of = by-seat seat-of.seat.live refl

  -- ---- its death

  -- it is that of its latest call
  pub silence_is : silence_at n key ≡ death_of (latest l ch)
  silence_is = of (latest l ch) refl
    where
      of : (o : Option CallRecord) → latest l ch ≡ o → silence_at n key ≡ death_of o
      of None none =
          silence_idle n key (inactive_end
          (ap (λ (o : Option CallRecord). is_active_life (option_map (λ k. k.life) o)) none))
      of (Some k) here =
          (elim (is_active k.life) as (λ b. is_active k.life ≡ b
          → silence_at n key ≡ (if b then Some (k.looks.heard + SILENCE_MS) else None)) [
            | true ↦ λ active. (
                let it = active_end_of k here active in
                ap (option_map (λ c. c.heard + SILENCE_MS)) it.is
                ∙ ap (λ (t : ℕ). Some (t + SILENCE_MS)) it.stands.stands.heard)
            | false ↦ λ idle. silence_idle n key (inactive_end
                (ap (λ (o : Option CallRecord). is_active_life (option_map (λ k. k.life) o)) here ∙ idle))
          ]) refl

  -- ---- its rank

  abbrev s : Setup
  s = setup_of class n

  abbrev rank-in : List Item → Option ℕ
  rank-in is = option_map (λ i. i.rank) (least_by (λ i. i.rank) is)

  module _ (client : n.ends.client ≡ is_client n.kind) (rank : Option ℕ) where
    sent : (o : Option CallRecord) → latest l ch ≡ o → IsRankOf None (active_end n key) rank
        → rank ≡ rank-in (items_of s (unsilenced l) o)
    sent None none is =
        subst (λ (e : Option EndOfCall). IsRankOf None e rank)
        (inactive_end (ap (λ (o : Option CallRecord). is_active_life (option_map (λ k. k.life) o)) none)) is
    sent (Some k) here is =
        (elim (is_active k.life) as (λ b. is_active k.life ≡ b
        → rank ≡ rank-in (items_of s (unsilenced l) (Some k))) [
          | true ↦ λ active. (
              let it = active_end_of k here active in
              subst (λ (e : Option EndOfCall). IsRankOf None e rank) it.is is n.ends.pool k.looks it.stands.stands
              ∙ ap (λ (b : Bool). call_due b k.looks) (it.stands.client ∙ client)
              ∙ sym (rank_sent s l k active))
          | false ↦ λ idle. (
              let none = subst (λ (e : Option EndOfCall). IsRankOf None e rank) (inactive_end
              (ap (λ (o : Option CallRecord). is_active_life (option_map (λ k. k.life) o)) here ∙ idle)) is in
              rw idle none)
        ]) refl

    by-owed : (o : Option CodeItem) → OwesAtOnce s l ch o → IsRankOf o (active_end n key) rank
        → rank ≡ rank-in (channel_items s (unsilenced l) ch)
    by-owed None first is = sent (latest l ch) refl is ∙ sym (ap rank-in first)
    by-owed (Some item) first is =
        is ∙ sym (ap (option_map (λ i. i.rank)) first.least ∙ ap (λ (r : ℕ). Some r) first.rank)

    -- it is that of its first item
    pub rank_is : IsRankAt n key rank → rank ≡ rank-in (channel_items s (unsilenced l) ch)
    rank_is is =
        let b = seat-of.rec.proved in
        let proved = subst (λ (e : Option ConnRecord). IsSomeAnd e (λ r. b ≡ r.proved)) (sym seat-of.rec_there) refl in
        by-owed (owed_on n key)
        (subst (λ (o : Option CodeItem). OwesAtOnce s l ch o)
        (owed_is n key seat-of.seat b seat-of.there proved)
        (owed_first class n l m key ch at seat-of.seat b seat-of.there proved))
        is
