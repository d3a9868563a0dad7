-- What holds of each thing that a channel owes holds of the next item of its node.
use Rattle.std.proofs.Common.{Bool, List, None, Option, Some, [], false, filter, if◌then◌else◌, map, nat_le, not, true}
use Rattle.std.proofs.Common.{option_map, refl, ℕ, ℤ, ◌&&◌, ◌∷◌, ◌≡◌}
use Rattle.rx_model.specs.declared.names.CallName.{CallName}
use Rattle.rx_model.specs.Body.{AckBody, Body}
use Rattle.rx_model.specs.Body as bodies
use Rattle.rx_model.specs.Names.{Channel}
use Rattle.rx_rules.specs.CallItems.{Ack, CallItem, Piece, Sending, call_items, sending_body}
use Rattle.rx_rules.specs.Items.{Item, all_channels, busy_items, challenge_body, channel_items, class_items, item_of}
use Rattle.rx_rules.specs.Items.{items, items_of, items_on, next_item, owed_item, where_owed}
use Rattle.rx_rules.specs.Judging.{nonce_at}
use Rattle.rx_rules.specs.Life.{is_active, is_live}
use Rattle.rx_rules.specs.Looks.{CallRecord, ChannelLooks, Looks, call_named, channel_at, conn_at, is_call, is_proved}
use Rattle.rx_rules.specs.Looks.{latest, latest_name}
use Rattle.rx_rules.specs.Records.{is_silent}
use Rattle.rx_rules.specs.Setup.{Setup, is_client, receiving_window}
use Rattle.rx_rules.proofs.EveryLaws.{Every, every-append, every-filter}
use Rattle.rx_rules.proofs.LeastLaws.{least-keeps}

-- what is so of whatever no channel owes
pub record IsPlain (Q : CallName → Body → Type 0) : Type 0 where
  pub busy : (c : CallName) → Q c bodies.Busy
  pub ackall : (c : CallName) → Q c bodies.AckAll
  pub chunk : (c : CallName) (payload : List ℕ) → Q c (bodies.Chunk payload)
  pub ack : (c : CallName) (a : AckBody) → Q c (bodies.Ack a)

-- what is so of what a channel owes
pub record ChannelTells (Q : CallName → Body → Type 0) (s : Setup) (l : Looks) (ch : Channel) : Type 0 where
  pub abort : (code : ℤ) → (channel_at l ch).owed_abort ≡ Some code → Q (latest_name l ch) (bodies.Abort code)
  pub response :
      (bytes : List ℕ) → (channel_at l ch).owed_response ≡ Some bytes → Q (latest_name l ch) (bodies.Response bytes)
  pub challenge :
      is_call (λ k. is_live k.life) (latest l ch) ≡ true
      → Q (latest_name l ch)
      (bodies.Challenge (s.class.challenge (latest_name l ch) (nonce_at s (conn_at l ch.connection))))

module _ (Q : CallName → Body → Type 0) (plain : IsPlain Q) (s : Setup) (l : Looks) where
  -- an item is one of these
  abbrev pub Tells : Item → Type 0
  Tells i = Q i.name i.body

  abort_tells : (c : CallName) (o : Option ℤ) → ((code : ℤ) → o ≡ Some code → Q c (bodies.Abort code))
      → Every Tells (owed_item c (option_map bodies.Abort o))
  abort_tells c None tells = tt
  abort_tells c (Some code) tells = (tells code refl, tt)

  response_tells : (c : CallName) (o : Option (List ℕ))
      → ((bytes : List ℕ) → o ≡ Some bytes → Q c (bodies.Response bytes))
      → Every Tells (owed_item c (option_map bodies.Response o))
  response_tells c None tells = tt
  response_tells c (Some bytes) tells = (tells bytes refl, tt)

  busy_tells : (ch : Channel) (o : Option ℕ) → Every Tells (busy_items ch o)
  busy_tells ch None = tt
  busy_tells ch (Some number) = (plain.busy (call_named ch number), tt)

  where_tells : (c : CallName) (owed : Bool) (body : Body) → Q c body → Every Tells (owed_item c (where_owed owed body))
  where_tells c true body tells = (tells, tt)
  where_tells c false body tells = tt

  class_tells : (ch : Channel) (living : Bool) → ChannelTells Q s l ch
      → is_call (λ k. is_live k.life) (latest l ch) ≡ living
      → Every Tells (class_items s l (latest_name l ch) (channel_at l ch) living)
  class_tells ch true t lives =
      every-append Tells
      (owed_item (latest_name l ch) (challenge_body s l (latest_name l ch) (channel_at l ch).owed_challenge))
      (owed_item (latest_name l ch) (option_map bodies.Response (channel_at l ch).owed_response))
      (where_tells (latest_name l ch) ((channel_at l ch).owed_challenge && not (is_proved l ch.connection))
      (bodies.Challenge (s.class.challenge (latest_name l ch) (nonce_at s (conn_at l ch.connection))))
      (t.challenge lives))
      (response_tells (latest_name l ch) (channel_at l ch).owed_response t.response)
  class_tells ch false t lives = tt

  item_tells : (k : CallRecord) (i : CallItem) → Tells (item_of s k i)
  item_tells k i = of i.sending
    where
      of : (sending : Sending) → Q k.name (sending_body (receiving_window s) k.looks sending)
      of (Piece seq again) = plain.chunk k.name _
      of (Ack reason serial) = plain.ack k.name _

  map_tells : (k : CallRecord) (is : List CallItem) → Every Tells (map (item_of s k) is)
  map_tells k [] = tt
  map_tells k (i ∷ is) = (item_tells k i, map_tells k is)

  call_tells : (o : Option CallRecord) → Every Tells (items_of s l o)
  call_tells None = tt
  call_tells (Some k) = of (is_active k.life && not (is_silent l.now k))
    where
      of : (b : Bool) → Every Tells (if b then map (item_of s k) (call_items (is_client s.kind) k.looks) else [])
      of true = map_tells k (call_items (is_client s.kind) k.looks)
      of false = tt

  channel_tells : (ch : Channel) → ChannelTells Q s l ch → Every Tells (channel_items s l ch)
  channel_tells ch t =
      let q : ChannelLooks = channel_at l ch in
      let c : CallName = latest_name l ch in
      let living : Bool = is_call (λ k. is_live k.life) (latest l ch) in
      every-append Tells (owed_item c (option_map bodies.Abort q.owed_abort)) _ (abort_tells c q.owed_abort t.abort)
      (every-append Tells (busy_items ch q.owed_busy) _ (busy_tells ch q.owed_busy)
      (every-append Tells (class_items s l c q living) _ (class_tells ch living t refl)
      (every-append Tells (owed_item c (where_owed q.owed_ackall bodies.AckAll)) (items_of s l (latest l ch))
      (where_tells c q.owed_ackall bodies.AckAll (plain.ackall c)) (call_tells (latest l ch)))))

  on_tells : (chs : List Channel) → ((ch : Channel) → ChannelTells Q s l ch) → Every Tells (items_on s l chs)
  on_tells [] all = tt
  on_tells (ch ∷ chs) all =
      every-append Tells (channel_items s l ch) (items_on s l chs) (channel_tells ch (all ch)) (on_tells chs all)

  -- the next item
  pub next_tells : (i : Item) → ((ch : Channel) → ChannelTells Q s l ch) → next_item s l ≡ Some i → Tells i
  next_tells i all is =
      least-keeps Tells (λ j. j.rank) (filter (λ j. nat_le j.rank l.now) (items s l))
      (every-filter Tells (λ j. nat_le j.rank l.now) (items s l) (on_tells (all_channels l.conns) all)) i is
