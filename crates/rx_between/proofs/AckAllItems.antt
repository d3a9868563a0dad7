-- An ACKALL that a poll gives is one that a channel owes, of its latest call.
use Rattle.std.proofs.Common.{◌≡◌, ◌&&◌, not, ℕ, ℤ, Bool, true, false, if◌then◌else◌, List, [], ◌∷◌, map, filter}
use Rattle.std.proofs.Common.{Option, Some, None, option_map, Ok, refl, ap, sym, ◌∙◌, ⊎_elim, nat_le}
use Rattle.rx_model.specs.declared.event.Event.{Event}
use Rattle.rx_model.specs.declared.names.CallName.{CallName}
use Rattle.rx_model.specs.declared.names.Host.{Host}
use Rattle.rx_model.specs.Body.{Body}
use Rattle.rx_model.specs.Body as bodies
use Rattle.rx_model.specs.Message.{Message}
use Rattle.rx_model.specs.Names.{Channel}
use Rattle.rx_model.specs.Reading.{reading_of}
use Rattle.rx_rules.specs.After.{looks}
use Rattle.rx_rules.specs.CallItems.{CallItem, Sending, call_items, sending_body}
use Rattle.rx_rules.specs.CallItems as sendings
use Rattle.rx_rules.specs.Items.{Item, all_channels, busy_items, challenge_body, channel_items, class_items, item_of}
use Rattle.rx_rules.specs.Items.{items, items_of, items_on, next_item, owed_item, poll_answer, where_owed}
use Rattle.rx_rules.specs.Life.{is_active, is_live}
use Rattle.rx_rules.specs.Looks.{CallRecord, ChannelLooks, Looks, call_named, channel_at, is_call, latest, latest_name}
use Rattle.rx_rules.specs.Records.{is_silent, silenced}
use Rattle.rx_rules.specs.Rules.{Legal}
use Rattle.rx_rules.specs.Setup.{Setup, FitsSetup, is_client, named, receiving_window}
use Rattle.rx_rules.proofs.EveryLaws.{Every, every-append, every-filter}
use Rattle.rx_rules.proofs.LeastLaws.{least-keeps}
use Rattle.rx_history.proofs.Data.{same_message}
use Rattle.rx_history.proofs.Given.GivingItems.{item_name}
use Rattle.rx_history.proofs.Given.Givings.{poll_gives}
use Rattle.rx_history.specs.Givings.{GivesItem, GivesStray}

-- a channel owes an ACKALL, and this is its latest call
pub record OwesAll (l : Looks) (c : CallName) : Type 0 where
  pub channel : Channel
  pub owed : (channel_at l channel).owed_ackall ≡ true
  pub latest : c ≡ latest_name l channel

module _ (s : Setup) (l : Looks) where
  -- where the item is an ACKALL
  abbrev IsOwed : Item → Type 0
  IsOwed i = i.body ≡ bodies.AckAll → OwesAll l i.name

  -- of a body of another kind
  mapped-owed : {X : Type 0} (c : CallName) (f : X → Body) (o : Option X) → ((x : X) → f x ≡ bodies.AckAll → ⊥)
      → Every IsOwed (owed_item c (option_map f o))
  mapped-owed c f None other = tt
  mapped-owed c f (Some x) other = ((λ is. absurd (other x is)), tt)

  where-other : (c : CallName) (b : Bool) (body : Body) → (body ≡ bodies.AckAll → ⊥)
      → Every IsOwed (owed_item c (where_owed b body))
  where-other c true body other = ((λ is. absurd (other is)), tt)
  where-other c false body other = tt

  no-abort : (code : ℤ) → bodies.Abort code ≡ bodies.AckAll → ⊥
  no-abort code is = absurd cc

  no-response : (bytes : List ℕ) → bodies.Response bytes ≡ bodies.AckAll → ⊥
  no-response bytes is = absurd cc

  no-challenge : (bytes : List ℕ) → bodies.Challenge bytes ≡ bodies.AckAll → ⊥
  no-challenge bytes is = absurd cc

  no-busy : bodies.Busy ≡ bodies.AckAll → ⊥
  no-busy is = absurd cc

  busy-owed : (ch : Channel) (o : Option ℕ) → Every IsOwed (busy_items ch o)
  busy-owed ch None = tt
  busy-owed ch (Some n) = ((λ is. absurd (no-busy is)), tt)

  class-owed : (c : CallName) (q : ChannelLooks) (living : Bool) → Every IsOwed (class_items s l c q living)
  class-owed c q false = tt
  class-owed c q true =
      every-append IsOwed (owed_item c (challenge_body s l c q.owed_challenge))
      (owed_item c (option_map bodies.Response q.owed_response))
      (where-other c _ _ (no-challenge _))
      (mapped-owed c bodies.Response q.owed_response no-response)

  no-sending : (k : CallRecord) (x : Sending) → sending_body (receiving_window s) k.looks x ≡ bodies.AckAll → ⊥
  no-sending k (sendings.Piece seq again) is = absurd cc
  no-sending k (sendings.Ack reason serial) is = absurd cc

  map-owed : (k : CallRecord) (xs : List CallItem) → Every IsOwed (map (item_of s k) xs)
  map-owed k [] = tt
  map-owed k (x ∷ xs) = ((λ is. absurd (no-sending k x.sending is)), map-owed k xs)

  call-owed : (o : Option CallRecord) → Every IsOwed (items_of s l o)
  call-owed None = tt
  call-owed (Some k) = of (is_active k.life && not (is_silent l.now k))
    where
      of : (b : Bool)
          → Every IsOwed (if b then map (item_of s k) (call_items (is_client s.kind) k.looks) else [])
      of true = map-owed k (call_items (is_client s.kind) k.looks)
      of false = tt

  own-owed : (ch : Channel) (b : Bool) → (channel_at l ch).owed_ackall ≡ b
      → Every IsOwed (owed_item (latest_name l ch) (where_owed b bodies.AckAll))
  own-owed ch true owed = ((λ is. record { channel = ch; owed = owed; latest = refl }), tt)
  own-owed ch false owed = tt

  channel-owed : (ch : Channel) → Every IsOwed (channel_items s l ch)
  channel-owed ch =
      let q : ChannelLooks = channel_at l ch in
      let c : CallName = call_named ch q.number in
      let living : Bool = is_call (λ k. is_live k.life) (latest l ch) in
      every-append IsOwed (owed_item c (option_map bodies.Abort q.owed_abort)) _
      (mapped-owed c bodies.Abort q.owed_abort no-abort)
      (every-append IsOwed (busy_items ch q.owed_busy) _ (busy-owed ch q.owed_busy)
      (every-append IsOwed (class_items s l c q living) _ (class-owed c q living)
      (every-append IsOwed (owed_item c (where_owed q.owed_ackall bodies.AckAll)) (items_of s l (latest l ch))
      (own-owed ch q.owed_ackall refl) (call-owed (latest l ch)))))

  on-owed : (chs : List Channel) → Every IsOwed (items_on s l chs)
  on-owed [] = tt
  on-owed (ch ∷ chs) = every-append IsOwed (channel_items s l ch) (items_on s l chs) (channel-owed ch) (on-owed chs)

  -- the next item
  next-owed : (i : Item) → next_item s l ≡ Some i → IsOwed i
  next-owed i is =
      least-keeps IsOwed (λ i. i.rank) (filter (λ i. nat_le i.rank l.now) (items s l))
      (every-filter IsOwed (λ i. nat_le i.rank l.now) (items s l) (on-owed (all_channels l.conns))) i is

module _ (s : Setup) (h : List Event) (fits : FitsSetup s) (legal : Legal s h) (to : Host) (bytes : List ℕ)
    (m : Message) (reads : reading_of bytes ≡ Ok m) (body : m.body ≡ bodies.AckAll) where
  -- what a poll gives
  pub polls_ackall : poll_answer s (looks s h) ≡ Some (to, bytes) → OwesAll (looks s h) (named s to m)
  polls_ackall is =
      let p = poll_gives s h fits legal to bytes is in
      let same : p.message ≡ m = same_message p.message m (sym p.read ∙ reads) in
      ⊎_elim (λ (g : GivesStray (looks s h) to p.message). absurd (
      let no' : bodies.Abort _ ≡ bodies.AckAll =
      sym (ap (λ (n : Message). n.body) g.is) ∙ ap (λ (n : Message). n.body) same ∙ body in cc (no')))
      (λ (g : GivesItem s (looks s h) to p.message). (
      let name : named s to m ≡ g.item.name =
      sym (ap (named s to) same) ∙ item_name s h fits legal to p.message g in
      let owes = next-owed s (silenced (looks s h)) g.item g.next
      (sym (ap (λ (n : Message). n.body) g.is) ∙ ap (λ (n : Message). n.body) same ∙ body) in
      record { channel = owes.channel; owed = owes.owed; latest = name ∙ owes.latest }))
      p.owed
