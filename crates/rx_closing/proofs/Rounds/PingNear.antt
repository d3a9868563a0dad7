-- Behind a round in which a client's call lives it gave something 2,000 ms ago at most: no clock passes its ping.
use Rattle.std.proofs.Common.{◌≡◌, ◌<◌, ◌≤◌, ◌+◌, ◌++◌, nat_le, ℕ, zero, suc, Bool, true, false, List, filter, Option}
use Rattle.std.proofs.Common.{Some, refl, ap, sym, subst, ◌∙◌, arith}
use Rattle.std.proofs.lemmas.Bool.{leb-false}
use Rattle.std.specs.Prelude.{slice_get}
use Rattle.rx_model.specs.declared.event.Event.{Event}
use Rattle.rx_model.specs.declared.names.CallName.{CallName}
use Rattle.rx_model.specs.declared.wire.TheConstants.{ACK_PING, PING_MS}
use Rattle.rx_model.specs.Names.{channel_of}
use Rattle.rx_rules.specs.After.{looks}
use Rattle.rx_rules.specs.CallItems.{Ack, CallItem, call_items}
use Rattle.rx_rules.specs.Items.{Item, all_channels, item_of, items}
use Rattle.rx_rules.specs.Life.{is_active}
use Rattle.rx_rules.specs.Life as lives
use Rattle.rx_rules.specs.Looks.{CallRecord, Looks, call_at}
use Rattle.rx_rules.specs.Records.{is_silent}
use Rattle.rx_rules.specs.Rules.{Legal}
use Rattle.rx_rules.specs.Setup.{FitsSetup, Setup, is_client}
use Rattle.rx_history.specs.Sides.{Node, moment, side}
use Rattle.rx_history.proofs.Moments.{now-side}
use Rattle.rx_history.proofs.Order.OrderlyEnter.{latest_is}
use Rattle.rx_law.proofs.World.{if-some}
use Rattle.rx_jobs.specs.Handlers.{Handlers}
use Rattle.rx_plan.specs.Stages.{Stage}
use Rattle.rx_between.proofs.Each.EachItem.{In, in_channel, in_filter, in_items, is_due, least_none}
use Rattle.rx_rounds.proofs.Polls.PolledOut.{IsPolledOut}
use Rattle.rx_rounds.proofs.Rounded.{RoundMade}
use Rattle.rx_closing.specs.Living.{looks_of}
use Rattle.rx_closing.proofs.Frame.{OneOf, asked_in}
use Rattle.rx_closing.proofs.Polls.DueWaits.{call_waits, ping_there}
use Rattle.rx_closing.proofs.Polls.NodePolls.{live_seen}
use Rattle.rx_closing.proofs.Polls.PolledAll.{all_polled_out}
use Rattle.rx_closing.proofs.Rounds.Chains.{Adds, RoundAdds, adds_both, round_adds}
use Rattle.rx_closing.proofs.Rounds.Clocks.{Lives, asked_calling, called_awake, called_lives, called_one, polled_awake}
use Rattle.rx_closing.proofs.Rounds.Clocks.{polled_lives, polled_one, round_settles}
use Rattle.rx_closing.proofs.Rounds.RoundMoments.{MomentsStay, moments_stay}
use Rattle.rx_closing.proofs.Rounds.Settles.{Settles, settles_call, settles_moment}
use Rattle.rx_closing.proofs.Rounds.SpokeRises.{spoke_rises}
use Rattle.rx_law.proofs.Law.{side-split}
use Rattle.rx_closing.proofs.Ends.RoomLaws.{active_lives}

-- ---- a node that was polled out

-- each of its items is due later
pub later_item : (s : Setup) (l : Looks) → IsPolledOut s l → (i : Item) → In i (items s l) → l.now < i.rank
later_item s l out i there = of (nat_le i.rank l.now) refl
  where
    of : (b : Bool) → nat_le i.rank l.now ≡ b → l.now < i.rank
    of true due =
        absurd (subst (λ (is : List Item). In i is)
        (least_none (λ (x : Item). x.rank) (filter (is_due l) (items s l)) out.items)
        (in_filter (is_due l) i (items s l) there due))
    of false later = leb-false i.rank l.now later

-- what a call's end owes that is at work and isn't silent is one of its items
pub own_item : (s : Setup) (h : List Event) (c : CallName) (r : CallRecord) → FitsSetup s → Legal s h
    → call_at (looks s h) c ≡ Some r → is_active r.life ≡ true → is_silent (looks s h).now r ≡ false → (x : CallItem)
    → In x (call_items (is_client s.kind) r.looks) → In (item_of s r x) (items s (looks s h))
own_item s h c r fits legal is active awake x own =
    (let l : Looks = looks s h in
    let seen = live_seen s h c r fits legal is (active_lives r.life active) in
    in_items s l (item_of s r x) (channel_of c) (all_channels l.conns) seen.known
    (in_channel s l (channel_of c) r x (latest_is l c seen.latest ∙ is) active awake own))

-- ---- a round

module _ (c : CallName) (k : ℕ) (client server : Node) (g : Handlers) (s t : Stage) (r : RoundMade g s t)
    (one : OneOf c k client server t) (living : Lives c k client server s) (later : Lives c k client server t) where
  kind : is_client client.setup.kind ≡ true
  kind = ap is_client one.client_is

  fits : FitsSetup client.setup
  fits =
      if-some (slice_get t.nodes (suc k)) client (λ m. FitsSetup m.setup) one.client_there
      (one.world.sides.nodes_are.fits (suc k))

  legal_at : (u : Stage) → OneOf c k client server u → Legal client.setup (side (suc k) u.history)
  legal_at u o =
      if-some (slice_get u.nodes (suc k)) client (λ m. Legal m.setup (side (suc k) u.history)) o.client_there
      (o.world.sides.legal (suc k))

  at_polled : OneOf c k client server r.polled.stage
  at_polled = polled_one c k client server g s t r one living later

  at_called : OneOf c k client server r.called
  at_called = called_one c k client server g s t r one living later

  settled : Settles r.polled.given r.called t
  settled = round_settles c k client server g s t r one living later

  still : MomentsStay g s t r
  still = moments_stay g s t r

  adds : RoundAdds g s t r
  adds = round_adds g s t r

  to_called : Adds r.polled.stage.history r.called.history
  to_called =
      adds_both r.polled.stage.history r.served.history r.called.history
      (adds_both r.polled.stage.history r.delivered.history r.served.history adds.delivered adds.served) adds.called

  -- the call behind the polls, and behind the turns
  first : (a : CallRecord) × (asked_in c k client r.polled.stage ≡ Some a) × (a.life ≡ lives.Calling)
  first =
      asked_calling c k client server r.polled.stage at_polled
      (polled_lives c k client server g s t r one living later)

  second : (a : CallRecord) × (asked_in c k client r.called ≡ Some a) × (a.life ≡ lives.Calling)
  second =
      asked_calling c k client server r.called at_called (called_lives c k client server g s t r one living later)

  -- behind the polls its ping is due later
  polled_near : moment (suc k) r.polled.stage.history < first.0.looks.spoke + 2000
  polled_near =
      (let ping : CallItem = record { rank = first.0.looks.spoke + PING_MS; sending = Ack ACK_PING 0 } in
      let out = all_polled_out s r.polled r.polls_are (suc k) client
      (ap (λ (ns : List Node). slice_get ns (suc k)) (sym adds.nodes) ∙ one.client_there) in
      let own = own_item client.setup (side (suc k) r.polled.stage.history) c first.0 fits
      (legal_at r.polled.stage at_polled) first.1 (ap is_active first.2)
      (polled_awake c k client server g s t r one living later first.0 first.1) ping
      (ping_there (is_client client.setup.kind) first.0 kind) in
      let due = later_item client.setup (looks_of r.polled.stage (suc k) client) out (item_of client.setup first.0 ping)
      own in
      let now = now-side client.setup (suc k) r.polled.stage.history in
      omega (arith, due, now))

  -- it gave nothing earlier since
  spoke_on : first.0.looks.spoke ≤ second.0.looks.spoke
  spoke_on =
      (let own : side (suc k) r.called.history ≡ side (suc k) to_called.more ++ side (suc k) r.polled.stage.history =
      ap (side (suc k)) to_called.is ∙ side-split (suc k) to_called.more r.polled.stage.history in
      let on = spoke_rises client.setup (side (suc k) to_called.more) (side (suc k) r.polled.stage.history) c first.0
      fits (subst (Legal client.setup) own (legal_at r.called at_called)) first.1 in
      let there : asked_in c k client r.called ≡ Some on.call =
      ap (λ (h : List Event). call_at (looks client.setup h) c) own ∙ on.there in
      let same : on.call ≡ second.0 = one_is on.call second.0 (sym there ∙ second.1) in
      subst (λ (q : CallRecord). first.0.looks.spoke ≤ q.looks.spoke) same on.spoke)
    where
      one_is : (a b : CallRecord) → ◌≡◌ {A = Option CallRecord} (Some a) (Some b) → a ≡ b
      one_is a b same = cc

  -- and where the clocks move none passes it
  second_near : (w : ℕ) → settled.time ≡ w → moment (suc k) r.called.history + w ≤ second.0.looks.spoke + 2000
  second_near zero none =
      (let near = polled_near in
      let on = spoke_on in
      let a = still.polled (suc k) in
      let b = still.called (suc k) in
      omega (arith, near, on, a, b))
  second_near (suc w) some =
      (let moved : 0 < settled.time = omega (arith, some) in
      let ping : CallItem = record { rank = second.0.looks.spoke + PING_MS; sending = Ack ACK_PING 0 } in
      let low = call_waits r.called (suc k) client settled.time at_called.client_there (settled.least moved) moved fits
      (legal_at r.called at_called) c second.0 second.1 (ap is_active second.2)
      (called_awake c k client server g s t r one living later second.0 second.1) ping
      (ping_there (is_client client.setup.kind) second.0 kind) in
      omega (arith, low, some))

  -- so it is near at the end
  pub ping_near : (a : CallRecord) → asked_in c k client t ≡ Some a → moment (suc k) t.history ≤ a.looks.spoke + 2000
  ping_near a there =
      (let at = settles_moment r.polled.given r.called t settled (suc k) client at_called.client_there in
      let call = settles_call r.polled.given r.called t settled (suc k) client at_called.client_there c in
      let same : second.0 ≡ a = one_is second.0 a (sym second.1 ∙ sym call ∙ there) in
      let low : moment (suc k) t.history ≤ second.0.looks.spoke + 2000 =
      (let near = second_near settled.time refl in omega (arith, near, at)) in
      subst (λ (q : CallRecord). moment (suc k) t.history ≤ q.looks.spoke + 2000) same low)
    where
      one_is : (x y : CallRecord) → ◌≡◌ {A = Option CallRecord} (Some x) (Some y) → x ≡ y
      one_is x y same = cc
