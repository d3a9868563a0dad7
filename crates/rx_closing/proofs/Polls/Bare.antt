-- A node that owes nothing but what its calls' ends give.
use Rattle.std.proofs.Common.{◌≡◌, ◌++◌, ◌&&◌, not, ℕ, Bool, true, false, cond, List, [], ◌∷◌, refl, ap, sym, subst}
use Rattle.std.proofs.Common.{⊎_elim, Option, Some, None, option_map, filter, map}
use Rattle.rx_model.specs.declared.names.CallName.{CallName}
use Rattle.rx_model.specs.Body.{Body}
use Rattle.rx_model.specs.Body as bodies
use Rattle.rx_model.specs.Names.{Channel}
use Rattle.rx_rules.specs.CallItems.{call_items}
use Rattle.rx_rules.specs.Items.{Item, all_channels, busy_items, challenge_body, channel_items, class_items, item_of}
use Rattle.rx_rules.specs.Items.{items, items_of, items_on, next_item, owed_item, where_owed}
use Rattle.rx_rules.specs.Life.{is_active, is_live}
use Rattle.rx_rules.specs.Looks.{CallRecord, ChannelLooks, Looks, call_named, channel_at, is_call, latest}
use Rattle.rx_rules.specs.Records.{is_silent}
use Rattle.rx_rules.specs.Setup.{Setup, is_client, receiving_window}
use Rattle.rx_between.proofs.Each.EachItem.{In, is_due, least_in}
use Rattle.rx_rounds.proofs.Clocks.NodeClock.{in_mapped}
use Rattle.rx_closing.proofs.Polls.OnePoll.{sending_stream}
use Rattle.rx_between.proofs.Within.{in_either, in_filtered}
use Rattle.rx_history.proofs.Plain.PlainBodies.{IsSent}

-- a channel that owes nothing
pub record OwesNothing (q : ChannelLooks) : Type 0 where
  pub abort : q.owed_abort ≡ None
  pub busy : q.owed_busy ≡ None
  pub challenge : q.owed_challenge ≡ false
  pub response : q.owed_response ≡ None
  pub ackall : q.owed_ackall ≡ false

-- no channel does, and no stray abort is owed
pub record Bare (l : Looks) : Type 0 where
  pub strays : l.strays ≡ []
  pub channels : (ch : Channel) → OwesNothing (channel_at l ch)

-- ---- its items

-- a call's own are of its stream
pub own_stream : (s : Setup) (l : Looks) (o : Option CallRecord) (i : Item) → In i (items_of s l o) → IsSent i.body
own_stream s l None i there = absurd there
own_stream s l (Some k) i there = by (is_active k.life && not (is_silent l.now k)) there
  where
    by : (b : Bool) → In i (cond b (map (item_of s k) (call_items (is_client s.kind) k.looks)) []) → IsSent i.body
    by true here =
        let m = in_mapped (item_of s k) i (call_items (is_client s.kind) k.looks) here in
        subst (λ (j : Item). IsSent j.body) (sym m.2)
        (sending_stream (receiving_window s) k.looks (m.0).sending)
    by false none = absurd none

none_owed : (c : CallName) (o : Option Body) (i : Item) → o ≡ None → In i (owed_item c o) → ⊥
none_owed c None i none there = there
none_owed c (Some body) i none there = cc

none_busy : (ch : Channel) (o : Option ℕ) (i : Item) → o ≡ None → In i (busy_items ch o) → ⊥
none_busy ch None i none there = there
none_busy ch (Some n) i none there = cc

mapped_none : {X : Type 0} (f : X → Body) (o : Option X) → o ≡ None → option_map f o ≡ None
mapped_none f o none = ap (option_map f) none

none_class : (s : Setup) (l : Looks) (c : CallName) (q : ChannelLooks) (living : Bool) (i : Item) → OwesNothing q
    → In i (class_items s l c q living) → ⊥
none_class s l c q false i none there = there
none_class s l c q true i none there =
    ⊎_elim
    (λ (h : In i (owed_item c (challenge_body s l c q.owed_challenge))).
    none_owed c (challenge_body s l c q.owed_challenge) i (rw (none.challenge) refl) h)
    (λ (h : In i (owed_item c (option_map bodies.Response q.owed_response))).
    none_owed c (option_map bodies.Response q.owed_response) i
    (mapped_none bodies.Response q.owed_response none.response) h)
    (in_either i (owed_item c (challenge_body s l c q.owed_challenge))
    (owed_item c (option_map bodies.Response q.owed_response)) there)

-- so are those of a channel that owes nothing
channel_stream : (s : Setup) (l : Looks) (ch : Channel) (i : Item) → OwesNothing (channel_at l ch)
    → In i (channel_items s l ch) → IsSent i.body
channel_stream s l ch i none there =
    (let q : ChannelLooks = channel_at l ch in
    let c : CallName = call_named ch q.number in
    let aborts : List Item = owed_item c (option_map bodies.Abort q.owed_abort) in
    let busies : List Item = busy_items ch q.owed_busy in
    let classes : List Item = class_items s l c q (is_call (λ k. is_live k.life) (latest l ch)) in
    let acks : List Item = owed_item c (where_owed q.owed_ackall bodies.AckAll) in
    let own : List Item = items_of s l (latest l ch) in
    ⊎_elim
    (λ (h : In i aborts). absurd (none_owed c (option_map bodies.Abort q.owed_abort) i
    (mapped_none bodies.Abort q.owed_abort none.abort) h))
    (λ (h1 : In i (busies ++ (classes ++ (acks ++ own)))). ⊎_elim
    (λ (h : In i busies). absurd (none_busy ch q.owed_busy i none.busy h))
    (λ (h2 : In i (classes ++ (acks ++ own))). ⊎_elim
    (λ (h : In i classes). absurd (none_class s l c q (is_call (λ k. is_live k.life) (latest l ch)) i none h))
    (λ (h3 : In i (acks ++ own)). ⊎_elim
    (λ (h : In i acks). absurd (none_owed c (where_owed q.owed_ackall bodies.AckAll) i
    (ap (λ (b : Bool). where_owed b bodies.AckAll) none.ackall) h))
    (λ (h : In i own). own_stream s l (latest l ch) i h)
    (in_either i acks own h3))
    (in_either i classes (acks ++ own) h2))
    (in_either i busies (classes ++ (acks ++ own)) h1))
    (in_either i aborts (busies ++ (classes ++ (acks ++ own))) there))

channels_stream : (s : Setup) (l : Looks) (chs : List Channel) (i : Item)
    → ((ch : Channel) → OwesNothing (channel_at l ch)) → In i (items_on s l chs) → IsSent i.body
channels_stream s l [] i none there = absurd there
channels_stream s l (ch ∷ chs) i none there =
    ⊎_elim
    (λ (h : In i (channel_items s l ch)). channel_stream s l ch i (none ch) h)
    (λ (h : In i (items_on s l chs)). channels_stream s l chs i none h)
    (in_either i (channel_items s l ch) (items_on s l chs) there)

-- what such a node gives next is of a stream
pub bare_next : (s : Setup) (l : Looks) (i : Item) → ((ch : Channel) → OwesNothing (channel_at l ch))
    → next_item s l ≡ Some i → IsSent i.body
bare_next s l i none is =
    channels_stream s l (all_channels l.conns) i none
    (in_filtered (is_due l) i (items s l)
    (least_in (λ (j : Item). j.rank) i (filter (is_due l) (items s l)) is))
