-- Where the clocks of all nodes move by the least wait, nothing that is owed at any of them was due before.
use Rattle.std.proofs.Common.{◌≡◌, ◌≤◌, ◌<◌, ◌+◌, ◌-◌, ◌++◌, max, ℕ, Bool, true, false, List, Option, Some, None}
use Rattle.std.proofs.Common.{option_map, map, refl, ap, sym, subst, ◌∙◌, inl, arith}
use Rattle.std.specs.Prelude.{slice_get}
use Rattle.rx_model.specs.declared.names.CallName.{CallName}
use Rattle.rx_model.specs.declared.wire.TheConstants.{ACK_PING, PING_MS}
use Rattle.rx_model.specs.Names.{channel_of}
use Rattle.rx_rules.specs.CallItems.{CallItem, Ack, ack_items, call_items, piece_items, ping_items}
use Rattle.rx_rules.specs.Items.{Item, all_channels, deaths, item_of, items, moments}
use Rattle.rx_rules.specs.Least.{least_by}
use Rattle.rx_rules.specs.Life.{is_active}
use Rattle.rx_rules.specs.Looks.{CallRecord, call_at}
use Rattle.rx_rules.specs.Owing.{Owed}
use Rattle.rx_rules.specs.Records.{is_silent}
use Rattle.rx_rules.specs.Rules.{Legal}
use Rattle.rx_rules.specs.Setup.{FitsSetup, is_client}
use Rattle.rx_history.specs.Sides.{Node, moment, side}
use Rattle.rx_history.proofs.Moments.{now-side}
use Rattle.rx_history.proofs.Order.OrderlyEnter.{latest_is}
use Rattle.rx_events.specs.Waits.{least_wait, wait_at}
use Rattle.rx_plan.specs.Stages.{Stage}
use Rattle.rx_between.proofs.Each.EachItem.{In, in_behind, in_channel, in_front, in_items, in_map, least_low}
use Rattle.rx_between.proofs.Each.EachItem.{least_none}
use Rattle.rx_rounds.proofs.Clocks.GivesOrMoves.{wait_within}
use Rattle.rx_closing.specs.Living.{looks_of}
use Rattle.rx_closing.proofs.Polls.NodePolls.{live_seen}
use Rattle.rx_closing.proofs.Ends.RoomLaws.{active_lives}

module _ (s : Stage) (j : ℕ) (n : Node) (w : ℕ) where
  -- an item of a node is due no earlier
  pub item_waits : slice_get s.nodes j ≡ Some n → least_wait s.nodes s.history ≡ Some w → 0 < w → (i : Item)
      → In i (items n.setup (looks_of s j n)) → moment j s.history + w ≤ i.rank
  item_waits there least some i among = of (least_by (λ (m : ℕ). m) (moments n.setup (looks_of s j n))) refl
    where
      in_moments : In i.rank (moments n.setup (looks_of s j n))
      in_moments =
          in_behind i.rank (map (λ x. 0) (looks_of s j n).strays)
          (map (λ (x : Item). x.rank) (items n.setup (looks_of s j n)) ++ deaths (looks_of s j n).calls)
          (in_front i.rank (map (λ (x : Item). x.rank) (items n.setup (looks_of s j n))) (deaths (looks_of s j n).calls)
          (in_map (λ (x : Item). x.rank) i (items n.setup (looks_of s j n)) among))

      of : (o : Option ℕ) → least_by (λ (m : ℕ). m) (moments n.setup (looks_of s j n)) ≡ o
          → moment j s.history + w ≤ i.rank
      of None nothing =
          absurd (subst (λ (ms : List ℕ). In i.rank ms)
          (least_none (λ (m : ℕ). m) (moments n.setup (looks_of s j n)) nothing) in_moments)
      of (Some m) is =
          (let low : m ≤ i.rank = least_low (λ (x : ℕ). x) m i.rank (moments n.setup (looks_of s j n)) is in_moments in
          let now = now-side n.setup j s.history in
          let wait : wait_at s.history j n ≡ Some (max (looks_of s j n).now m - moment j s.history) =
          ap (λ (o : Option ℕ). option_map (λ x. x - moment j s.history) (option_map (max (looks_of s j n).now) o))
          is in
          let within = wait_within s.nodes s.history j (max (looks_of s j n).now m - moment j s.history) n there wait in
          let same : within.0 ≡ w =
          (let both : ◌≡◌ {A = Option ℕ} (Some within.0) (Some w) = sym within.1 ∙ least in cc (both)) in
          let short = within.2 in
          omega (arith, low, now, same, short, some))

  -- so is what a call's end owes that is at work and isn't silent
  pub call_waits : slice_get s.nodes j ≡ Some n → least_wait s.nodes s.history ≡ Some w → 0 < w → FitsSetup n.setup
      → Legal n.setup (side j s.history) → (c : CallName) (r : CallRecord) → call_at (looks_of s j n) c ≡ Some r
      → is_active r.life ≡ true → is_silent (looks_of s j n).now r ≡ false → (x : CallItem)
      → In x (call_items (is_client n.setup.kind) r.looks) → moment j s.history + w ≤ x.rank
  call_waits there least some fits legal c r is active awake x own =
      (let seen = live_seen n.setup (side j s.history) c r fits legal is (active_lives r.life active) in
      item_waits there least some (item_of n.setup r x)
      (in_items n.setup (looks_of s j n) (item_of n.setup r x) (channel_of c) (all_channels (looks_of s j n).conns)
      seen.known
      (in_channel n.setup (looks_of s j n) (channel_of c) r x (latest_is (looks_of s j n) c seen.latest ∙ is) active
      awake
      own)))

-- the ping of a client
pub ping_there : (client : Bool) (r : CallRecord) → client ≡ true
    → In (record { rank = r.looks.spoke + PING_MS; sending = Ack ACK_PING 0 }) (call_items client r.looks)
ping_there client r is =
    (let pings : In (record { rank = r.looks.spoke + PING_MS; sending = Ack ACK_PING 0 })
    (ping_items client r.looks.spoke) = rw is (inl refl) in
    in_behind (record { rank = r.looks.spoke + PING_MS; sending = Ack ACK_PING 0 })
    (piece_items r.looks.rtt.rto r.looks.cwnd r.looks.sent)
    (ack_items r.looks.owed_ack ++ ping_items client r.looks.spoke)
    (in_behind (record { rank = r.looks.spoke + PING_MS; sending = Ack ACK_PING 0 }) (ack_items r.looks.owed_ack)
    (ping_items client r.looks.spoke) pings))

-- an ACK that is owed
pub ack_there : (client : Bool) (r : CallRecord) (o : Owed) → r.looks.owed_ack ≡ Some o
    → In (record { rank = o.rank; sending = Ack o.reason o.serial }) (call_items client r.looks)
ack_there client r o is =
    (let acks : In (record { rank = o.rank; sending = Ack o.reason o.serial }) (ack_items r.looks.owed_ack) =
    subst (λ (q : Option Owed). In (record { rank = o.rank; sending = Ack o.reason o.serial }) (ack_items q)) (sym is)
    (inl refl) in
    in_behind (record { rank = o.rank; sending = Ack o.reason o.serial })
    (piece_items r.looks.rtt.rto r.looks.cwnd r.looks.sent)
    (ack_items r.looks.owed_ack ++ ping_items client r.looks.spoke)
    (in_front (record { rank = o.rank; sending = Ack o.reason o.serial }) (ack_items r.looks.owed_ack)
    (ping_items client r.looks.spoke) acks))
