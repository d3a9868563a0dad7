-- An item that is given behind a header of its channel's latest call.
use Rattle.std.proofs.Common.{◌≡◌, ◌+◌, ℕ, List, Option, Some, None, refl, ◌∙◌, ap, sym, subst, arith}
use Rattle.std.specs.Prelude.{IsSomeAnd}
use Rattle.rx_model.specs.declared.names.CallName.{CallName}
use Rattle.rx_model.specs.Body.{Body}
use Rattle.rx_model.specs.Body as bodies
use Rattle.rx_model.specs.Message.{Message}
use Rattle.rx_model.specs.Names.{Channel, same_name}
use Rattle.rx_model.specs.Spelling.{made}
use Rattle.rx_model.proofs.NameLaws.{name_is}
use Rattle.rx_packet.specs.declared.head.Head.{Head}
use Rattle.rx_packet.specs.Seen.{message_with_head}
use Rattle.rx_rules.specs.After.{given_body}
use Rattle.rx_rules.specs.Classes.{Class}
use Rattle.rx_rules.specs.Items.{Item}
use Rattle.rx_rules.specs.Looks.{Looks, call_named, channel_at, latest_name}
use Rattle.rx_rules.specs.Setup.{Setup}
use Rattle.rx_rules.proofs.FindLaws.{find_passes}
use Rattle.rx_node.specs.Due.{GaveBehind, IsItem, SendsItem, at_once}
use Rattle.rx_node.specs.Mirrors.{Mirrors}
use Rattle.rx_node.specs.Node.{NodeState}
use Rattle.rx_node.specs.declared.item.Item.{Item as CodeItem}
use Rattle.rx_node.specs.declared.item.Item.TheVariants as items

module _ (class : List ℕ → Class) (new : NodeState) (l : Looks) (head : Head) (seqless : head.seq ≡ 0) (i : Item)
    (c : CallName) (body : Body) (is : i ≡ at_once c body) (bytes : List ℕ)
    (leaves : (msg : Message) → Mirrors class new (given_body c msg body l)) where
  -- one that is due at once, of a call of the channel
  pub gave_once : bytes ≡ made (message_with_head (record head { number = c.number }) body)
      → GaveBehind class new l head i bytes
  gave_once wrote =
      subst (λ (j : Item). GaveBehind class new l head j bytes) (sym is)
      (record {
        written = wrote
            ∙ ap (λ (msg : Message). made msg)
            (let flags : head.flags ≡ head.flags + 0 = omega arith in
            λ t. record (message_with_head (record head { number = c.number }) body)
            { seq = seqless t; flags = flags t });
        leaves = λ msg same. leaves msg;
      })

  -- of its latest call
  pub gave_latest : head.number ≡ c.number → bytes ≡ made (message_with_head head body)
      → GaveBehind class new l head i bytes
  gave_latest numbered wrote =
      gave_once (wrote ∙ ap (λ (n : ℕ). made (message_with_head (record head { number = n }) body)) numbered)

-- a response that is owed
pub record HasResponse (l : Looks) (ch : Channel) (i : Item) : Type 0 where
  pub bytes : List ℕ
  pub owed : (channel_at l ch).owed_response ≡ Some bytes
  pub is : i ≡ at_once (latest_name l ch) (bodies.Response bytes)

pub has_response : (l : Looks) (ch : Channel) (i : Item)
    → IsSomeAnd (channel_at l ch).owed_response (λ bytes. i ≡ at_once (latest_name l ch) (bodies.Response bytes))
    → HasResponse l ch i
has_response l ch i some = of (channel_at l ch).owed_response refl some
  where
    of : (o : Option (List ℕ)) → (channel_at l ch).owed_response ≡ o
        → IsSomeAnd o (λ bytes. i ≡ at_once (latest_name l ch) (bodies.Response bytes)) → HasResponse l ch i
    of None is none = absurd none
    of (Some bytes) is owes = record { bytes = bytes; owed = is; is = owes }

-- ---- the name of an item

pub sent_name : (s : Setup) (l : Looks) (ch : Channel) (i : Item) → SendsItem s l ch i → i.name ≡ latest_name l ch
sent_name s l ch i sends =
    ap (λ (j : Item). j.name) sends.is
    ∙ name_is sends.call.name (latest_name l ch)
    (find_passes (λ k. same_name k.name (latest_name l ch)) l.calls sends.call sends.there)

-- it is of its channel
pub item_channel : (s : Setup) (l : Looks) (ch : Channel) (item : CodeItem) (i : Item) → IsItem s l ch item i
    → i.name ≡ call_named ch i.name.number
item_channel s l ch (items.Abort code) i is =
    ap (λ (j : Item). j.name) is ∙ ap (λ (n : ℕ). call_named ch n) (sym (ap (λ (j : Item). j.name.number) is))
item_channel s l ch (items.Busy number) i is =
    ap (λ (j : Item). j.name) is ∙ ap (λ (n : ℕ). call_named ch n) (sym (ap (λ (j : Item). j.name.number) is))
item_channel s l ch items.Challenge i is =
    ap (λ (j : Item). j.name) is ∙ ap (λ (n : ℕ). call_named ch n) (sym (ap (λ (j : Item). j.name.number) is))
item_channel s l ch items.Response i is =
    let its = (has_response l ch i is).is in
    ap (λ (j : Item). j.name) its ∙ ap (λ (n : ℕ). call_named ch n) (sym (ap (λ (j : Item). j.name.number) its))
item_channel s l ch items.AckAll i is =
    ap (λ (j : Item). j.name) is ∙ ap (λ (n : ℕ). call_named ch n) (sym (ap (λ (j : Item). j.name.number) is))
item_channel s l ch (items.Sending end) i is =
    let its = sent_name s l ch i is in
    its ∙ ap (λ (n : ℕ). call_named ch n) (sym (ap (λ (c : CallName). c.number) its))
