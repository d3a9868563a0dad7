-- What a node gives of no stream isn't of a call of which it owes nothing.
use Rattle.std.proofs.Common.{◌≡◌, ◌<◌, ◌++◌, ℕ, Bool, true, false, List, [], ◌∷◌, refl, ap, sym, subst, ◌∙◌, inl, inr}
use Rattle.std.proofs.Common.{⊎_elim, Option, Some, None, option_map, filter, arith}
use Rattle.rx_model.specs.declared.names.CallName.{CallName}
use Rattle.rx_model.specs.Body.{Body}
use Rattle.rx_model.specs.Body as bodies
use Rattle.rx_model.specs.Names.{Channel, channel_of}
use Rattle.rx_rules.specs.Items.{Item, all_channels, busy_items, challenge_body, channel_items, class_items, items}
use Rattle.rx_rules.specs.Items.{items_of, items_on, next_item, owed_item, where_owed}
use Rattle.rx_rules.specs.Life.{is_live}
use Rattle.rx_rules.specs.Looks.{ChannelLooks, Looks, call_named, channel_at, is_call, latest}
use Rattle.rx_rules.specs.Setup.{Setup}
use Rattle.rx_between.proofs.Each.EachItem.{In, IsOther, is_due, least_in}
use Rattle.rx_closing.proofs.Polls.Bare.{own_stream}
use Rattle.rx_closing.proofs.Polls.Polled.{QuietBut}
use Rattle.rx_between.proofs.Within.{in_either, in_filtered}
use Rattle.rx_history.proofs.Plain.PlainBodies.{IsSent}

-- no body is both
pub not_both : (body : Body) → IsSent body → IsOther body → ⊥
not_both (bodies.Chunk payload) stream other = other
not_both (bodies.Ack a) stream other = other
not_both _ stream other = stream

module _ (c : CallName) where
  owed_apart : (ch : Channel) (n : ℕ) (o : Option Body) (i : Item) → (ch ≡ channel_of c → o ≡ None)
      → In i (owed_item (call_named ch n) o) → i.name ≡ c → ⊥
  owed_apart ch n None i none there name = there
  owed_apart ch n (Some body) i none (inl same) name =
      (let at : ch ≡ channel_of c = ap channel_of (sym (ap (λ (j : Item). j.name) same) ∙ name) in
      let no : ◌≡◌ {A = Option Body} (Some body) None = none at in cc (no))
  owed_apart ch n (Some body) i none (inr never) name = never

  busy_apart : (ch : Channel) (o : Option ℕ) (i : Item)
      → (ch ≡ channel_of c → (n : ℕ) → o ≡ Some n → c.number < n) → In i (busy_items ch o) → i.name ≡ c → ⊥
  busy_apart ch None i above there name = there
  busy_apart ch (Some n) i above (inl same) name =
      (let own : call_named ch n ≡ c = sym (ap (λ (j : Item). j.name) same) ∙ name in
      let number : n ≡ c.number = ap (λ (d : CallName). d.number) own in
      let low : c.number < n = above (ap channel_of own) n refl in
      let no : ⊥ = omega arith in no)
  busy_apart ch (Some n) i above (inr never) name = never

  module _ (s : Setup) (l : Looks) where
    class_apart : (ch : Channel) (n : ℕ) (q : ChannelLooks) (living : Bool) (i : Item)
        → (ch ≡ channel_of c → QuietBut c q) → In i (class_items s l (call_named ch n) q living) → i.name ≡ c → ⊥
    class_apart ch n q false i quiet there name = there
    class_apart ch n q true i quiet there name =
        ⊎_elim
        (λ (h : In i (owed_item (call_named ch n) (challenge_body s l (call_named ch n) q.owed_challenge))).
        owed_apart ch n (challenge_body s l (call_named ch n) q.owed_challenge) i
        (λ at. rw ((quiet at).challenge) refl) h name)
        (λ (h : In i (owed_item (call_named ch n) (option_map bodies.Response q.owed_response))).
        owed_apart ch n (option_map bodies.Response q.owed_response) i
        (λ at. ap (option_map bodies.Response) (quiet at).response) h name)
        (in_either i (owed_item (call_named ch n) (challenge_body s l (call_named ch n) q.owed_challenge))
        (owed_item (call_named ch n) (option_map bodies.Response q.owed_response)) there)

    channel_apart : (ch : Channel) (i : Item) → (ch ≡ channel_of c → QuietBut c (channel_at l ch))
        → In i (channel_items s l ch) → i.name ≡ c → IsOther i.body → ⊥
    channel_apart ch i quiet there name other =
        (let q : ChannelLooks = channel_at l ch in
        let d : CallName = call_named ch q.number in
        let living : Bool = is_call (λ k. is_live k.life) (latest l ch) in
        let aborts : List Item = owed_item d (option_map bodies.Abort q.owed_abort) in
        let busies : List Item = busy_items ch q.owed_busy in
        let classes : List Item = class_items s l d q living in
        let acks : List Item = owed_item d (where_owed q.owed_ackall bodies.AckAll) in
        let own : List Item = items_of s l (latest l ch) in
        ⊎_elim
        (λ (h : In i aborts). owed_apart ch q.number (option_map bodies.Abort q.owed_abort) i
        (λ at. ap (option_map bodies.Abort) (quiet at).abort) h name)
        (λ (h1 : In i (busies ++ (classes ++ (acks ++ own)))). ⊎_elim
        (λ (h : In i busies). busy_apart ch q.owed_busy i (λ at. (quiet at).busy) h name)
        (λ (h2 : In i (classes ++ (acks ++ own))). ⊎_elim
        (λ (h : In i classes). class_apart ch q.number q living i quiet h name)
        (λ (h3 : In i (acks ++ own)). ⊎_elim
        (λ (h : In i acks). owed_apart ch q.number (where_owed q.owed_ackall bodies.AckAll) i
        (λ at. ap (λ (b : Bool). where_owed b bodies.AckAll) (quiet at).ackall) h name)
        (λ (h : In i own). not_both i.body (own_stream s l (latest l ch) i h) other)
        (in_either i acks own h3))
        (in_either i classes (acks ++ own) h2))
        (in_either i busies (classes ++ (acks ++ own)) h1))
        (in_either i aborts (busies ++ (classes ++ (acks ++ own))) there))

    channels_apart : (chs : List Channel) (i : Item) → QuietBut c (channel_at l (channel_of c))
        → In i (items_on s l chs) → i.name ≡ c → IsOther i.body → ⊥
    channels_apart [] i quiet there name other = there
    channels_apart (ch ∷ chs) i quiet there name other =
        ⊎_elim
        (λ (h : In i (channel_items s l ch)). channel_apart ch i
        (λ at. subst (λ (d : Channel). QuietBut c (channel_at l d)) (sym at) quiet) h name other)
        (λ (h : In i (items_on s l chs)). channels_apart chs i quiet h name other)
        (in_either i (channel_items s l ch) (items_on s l chs) there)

    -- what a node gives next, of no stream, isn't of the call
    pub next_apart : (i : Item) → next_item s l ≡ Some i → QuietBut c (channel_at l (channel_of c)) → IsOther i.body
        → i.name ≡ c → ⊥
    next_apart i is quiet other name =
        channels_apart (all_channels l.conns) i quiet
        (in_filtered (is_due l) i (items s l)
        (least_in (λ (j : Item). j.rank) i (filter (is_due l) (items s l)) is)) name other
