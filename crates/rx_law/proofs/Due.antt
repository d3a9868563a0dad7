-- What a server gives with the name of a call is of its channel's latest call, or a BUSY that the channel owes.
use Rattle.std.proofs.Common.{◌≡◌, ◌⊎◌, ◌&&◌, ◌<◌, ◌^◌, ℕ, if◌then◌else◌, not, nat_lt, nat_le, Bool, true, false, List}
use Rattle.std.proofs.Common.{[], ◌∷◌}
use Rattle.std.proofs.Common.{length, map, filter, drop, Option, Some, None, option_map, Result, Ok, Err, refl, ◌∙◌, ap}
use Rattle.std.proofs.Common.{sym, subst, inl, inr, arith}
use Rattle.std.specs.Prelude.{slice_index}
use Rattle.rx_model.specs.declared.answers.BadMsg.{BadMsg}
use Rattle.rx_model.specs.declared.answers.BadMsg.TheVariants as faults
use Rattle.rx_model.specs.declared.names.CallName.{CallName}
use Rattle.rx_model.specs.Body.{Body}
use Rattle.rx_model.specs.Body as bodies
use Rattle.rx_rules.specs.CallItems.{CallItem, call_items}
use Rattle.rx_rules.specs.Items.{Item, all_channels, busy_items, challenge_body, channel_items, class_items, item_of}
use Rattle.rx_rules.specs.Items.{items, items_of}
use Rattle.rx_rules.specs.Items.{items_on, next_item, owed_item, where_owed}
use Rattle.rx_rules.specs.Life.{is_live, is_active}
use Rattle.rx_rules.specs.Looks.{CallRecord, ChannelLooks, ConnLooks, Looks, call_at, call_named, channel_at, is_call}
use Rattle.rx_rules.specs.Looks.{latest}
use Rattle.rx_model.specs.Message.{Message}
use Rattle.rx_model.specs.Names.{Channel, channel_of, channels_of, same_name}
use Rattle.rx_model.specs.Reading.{body_reading, message_with, number_at, reading_of, with_body}
use Rattle.rx_rules.specs.Records.{is_silent}
use Rattle.rx_rules.specs.Setup.{Setup, is_client}
use Rattle.rx_model.specs.Spelling.{made}
use Rattle.rx_rules.proofs.EveryLaws.{Every, every-append, every-filter}
use Rattle.rx_rules.proofs.FindLaws.{find_passes}
use Rattle.rx_rules.proofs.LeastLaws.{least-keeps}
use Rattle.rx_model.proofs.FieldLaws.{four}
use Rattle.rx_model.proofs.NameLaws.{name_is}
use Rattle.rx_history.proofs.Data.{long-enough, same_message}

-- the name is of its channel's latest call, or of one to which the channel owes a BUSY
abbrev pub IsDue : Looks → CallName → Type 0
IsDue l c =
    (c.chan < 4) × ((c.number ≡ (channel_at l (channel_of c)).number) ⊎
    ((channel_at l (channel_of c)).owed_busy ≡ Some c.number))

module _ (s : Setup) (l : Looks) where
  abbrev Due : Item → Type 0
  Due i = IsDue l i.name

  owed-due : (c : CallName) (o : Option Body) → IsDue l c → Every Due (owed_item c o)
  owed-due c None due = tt
  owed-due c (Some body) due = (due, tt)

  class-due : (c : CallName) (q : ChannelLooks) (living : Bool) → IsDue l c → Every Due (class_items s l c q living)
  class-due c q true due =
      every-append Due (owed_item c (challenge_body s l c q.owed_challenge))
      (owed_item c (option_map bodies.Response q.owed_response))
      (owed-due c (challenge_body s l c q.owed_challenge) due)
      (owed-due c (option_map bodies.Response q.owed_response) due)
  class-due c q false due = tt

  busy-due : (ch : Channel) (o : Option ℕ) → ch.chan < 4 → (channel_at l ch).owed_busy ≡ o → Every Due (busy_items ch o)
  busy-due ch None low is = tt
  busy-due ch (Some number) low is = ((low, inr is), tt)

  map-due : (k : CallRecord) (is : List CallItem) → IsDue l k.name → Every Due (map (item_of s k) is)
  map-due k [] due = tt
  map-due k (i ∷ is) due = (due, map-due k is due)

  of-due : (name : CallName) (o : Option CallRecord) → call_at l name ≡ o → IsDue l name → Every Due (items_of s l o)
  of-due name None is due = tt
  of-due name (Some k) is due =
      let named : k.name ≡ name = name_is k.name name (find_passes (λ j. same_name j.name name) l.calls k is) in
      (elim (is_active k.life && not (is_silent l.now k))
      as (λ b. Every Due (if b then map (item_of s k) (call_items (is_client s.kind) k.looks) else [])) [
        | true ↦ map-due k (call_items (is_client s.kind) k.looks) (subst (λ (n : CallName). IsDue l n) (sym named) due)
        | false ↦ tt
      ])

  channel-due : (ch : Channel) → ch.chan < 4 → Every Due (channel_items s l ch)
  channel-due ch low =
      let q : ChannelLooks = channel_at l ch in
      let c : CallName = call_named ch q.number in
      let due : IsDue l c = (low, inl refl) in
      let living : Bool = is_call (λ k. is_live k.life) (latest l ch) in
      every-append Due (owed_item c (option_map bodies.Abort q.owed_abort)) _
      (owed-due c (option_map bodies.Abort q.owed_abort) due)
      (every-append Due (busy_items ch q.owed_busy) _ (busy-due ch q.owed_busy low refl)
      (every-append Due (class_items s l c q living) _ (class-due c q living due)
      (every-append Due (owed_item c (where_owed q.owed_ackall bodies.AckAll)) (items_of s l (latest l ch))
      (owed-due c (where_owed q.owed_ackall bodies.AckAll) due)
      (of-due c (latest l ch) refl due))))

  on-due : (chs : List Channel) → Every (λ ch. ch.chan < 4) chs → Every Due (items_on s l chs)
  on-due [] low = tt
  on-due (ch ∷ chs) low = every-append Due (channel_items s l ch) (items_on s l chs) (channel-due ch low.0)
      (on-due chs low.1)

  channels-low : (rs : List ConnLooks) → Every (λ ch. ch.chan < 4) (all_channels rs)
  channels-low [] = tt
  channels-low (r ∷ rs) =
      every-append (λ ch. ch.chan < 4) (channels_of r.connection) (all_channels rs)
      ((omega arith), ((omega arith), ((omega arith), ((omega arith), tt)))) (channels-low rs)

  -- so is the name of the next item
  pub next-due : (i : Item) → next_item s l ≡ Some i → IsDue l i.name
  next-due i is =
      least-keeps Due (λ i. i.rank) (filter (λ i. nat_le i.rank l.now) (items s l))
      (every-filter Due (λ i. nat_le i.rank l.now) (items s l)
      (on-due (all_channels l.conns) (channels-low l.conns))) i is

-- ---- its header

-- what is read of a header
pub reads-header : (bytes : List ℕ) (m : Message) → reading_of bytes ≡ Ok m
    → (m.epoch ≡ number_at 4 0 bytes) × (m.cid ≡ number_at 4 4 bytes) × (m.number ≡ number_at 4 8 bytes)
reads-header bytes m reads =
    of (body_reading (slice_index bytes 20) (slice_index bytes 21) (drop 28 bytes))
    (long-enough (nat_lt (length bytes) 28) (faults.Short (length bytes))
    (with_body bytes (body_reading (slice_index bytes 20) (slice_index bytes 21) (drop 28 bytes))) m reads)
  where
    of : (r : Result Body BadMsg) → with_body bytes r ≡ Ok m
        → (m.epoch ≡ number_at 4 0 bytes) × (m.cid ≡ number_at 4 4 bytes) × (m.number ≡ number_at 4 8 bytes)
    of (Err bad) is = absurd cc
    of (Ok body) is =
        (let same : message_with bytes body ≡ m = same_message (message_with bytes body) m is in (
          ap (λ (x : Message). x.epoch) (sym same),
          ap (λ (x : Message). x.cid) (sym same),
          ap
              (λ (x : Message). x.number) (sym same),
        ))

-- the header of what was made is read back, where its numbers fit
pub made-header : (n m : Message) → reading_of (made n) ≡ Ok m
    → (n.epoch < 2 ^ 32 → m.epoch ≡ n.epoch) × (n.cid < 2 ^ 32 → m.cid ≡ n.cid)
    × (n.number < 2 ^ 32 → m.number ≡ n.number)
made-header n m reads =
    let h = reads-header (made n) m reads in (
      λ fits. h.0 ∙ four n.epoch (drop 4 (made n)) fits,
      λ fits. h.1 ∙ four n.cid (drop 8 (made n)) fits,
      λ fits. h.2 ∙ four n.number (drop 12 (made n)) fits,
    )
