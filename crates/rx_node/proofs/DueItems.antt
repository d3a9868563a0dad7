-- What is due on a channel, and on several, is the least of their items.
use Rattle.std.proofs.Common.{◌≡◌, ◌-◌, ◌+◌, ◌&&◌, ℕ, Bool, true, false, not, List, [], map, nat_le}
use Rattle.std.proofs.Common.{Option, Some, None, option_map, refl, ◌∙◌, ap, sym, subst, arith, if◌then◌else◌}
use Rattle.rx_model.specs.declared.wire.TheConstants.{SILENCE_MS}
use Rattle.rx_model.specs.Names.{Channel}
use Rattle.rx_rules.specs.CallItems.{CallItem, call_due, call_items}
use Rattle.rx_rules.specs.CallLooks.{CallLooks}
use Rattle.rx_rules.specs.Classes.{Class}
use Rattle.rx_rules.specs.Items.{Item, channel_items, item_of, items_of}
use Rattle.rx_rules.specs.Least.{least_by}
use Rattle.rx_rules.specs.Life.{is_active}
use Rattle.rx_rules.specs.Looks.{CallRecord, Looks, latest}
use Rattle.rx_rules.specs.Records.{is_silent}
use Rattle.rx_rules.specs.Setup.{Setup, is_client}
use Rattle.rx_node.specs.Due.{AreDueAs, OwesAtOnce, death_of, unsilenced}
use Rattle.rx_node.specs.Mirrors.{IsActiveAt, IsChannel, Mirrors}
use Rattle.rx_node.specs.Node.{NodeState, setup_of}
use Rattle.rx_node.specs.declared.item.Item.{Item as CodeItem}
use Rattle.rx_node.specs.declared.item.Item.TheVariants as kinds
use Rattle.rx_call_ends.specs.Ends.{EndsState, StandsEnd}
use Rattle.rx_node.proofs.Steps.EndSteps.{active_call}
use Rattle.rx_node.proofs.LeastItems.{least_map}

-- ---- a call that isn't silent

pub never-silent : (k : CallRecord) → is_silent 0 k ≡ false
never-silent k =
    let none : 0 - k.looks.heard ≡ 0 = omega arith in
    ap (λ (n : ℕ). is_active k.life && nat_le 12000 n) none ∙ either (is_active k.life)
  where
    either : (b : Bool) → (b && false) ≡ false
    either true = refl
    either false = refl

module _ (s : Setup) (l : Looks) where
  abbrev sending : Bool → CallRecord → List Item
  sending b k = if b then map (item_of s k) (call_items (is_client s.kind) k.looks) else []

  -- the items of one that is active
  pub items_active : (k : CallRecord) → is_active k.life ≡ true
      → items_of s (unsilenced l) (Some k) ≡ map (item_of s k) (call_items (is_client s.kind) k.looks)
  items_active k active =
      ap (λ (b : Bool). sending (is_active k.life && not b) k) (never-silent k)
      ∙ ap (λ (b : Bool). sending (b && true) k) active

  -- ---- a channel

  module _ (key : ℕ) (ch : Channel) (at : IsChannel l key ch) where
    abbrev all : List Item
    all = channel_items s (unsilenced l) ch

    -- it owes an item at once
    pub due_owed : (item : CodeItem) → OwesAtOnce s l ch (Some item)
        → AreDueAs s l (Some (record { rank = 0; key = key; item = item })) (least_by (λ i. i.rank) all)
    due_owed item owes =
        subst (λ (o : Option Item). AreDueAs s l (Some (record { rank = 0; key = key; item = item })) o)
        (sym owes.least)
        (record { channel = ch; at = at; rank = sym owes.rank; is = owes.is })

    -- what its call sends
    pub due_sent : (end : ℕ) (k : CallRecord) (o : Option ℕ) → OwesAtOnce s l ch None → latest l ch ≡ Some k
        → is_active k.life ≡ true → o ≡ call_due (is_client s.kind) k.looks
        → AreDueAs s l (option_map (λ rank. record { rank = rank; key = key; item = kinds.Sending end }) o)
        (least_by (λ i. i.rank) all)
    due_sent end k o owes there active due =
        subst (λ (p : Option Item).
        AreDueAs s l (option_map (λ rank. record { rank = rank; key = key; item = kinds.Sending end }) o) p)
        (sym (ap (λ (is : List Item). least_by (λ i. i.rank) is)
        (owes ∙ ap (λ (p : Option CallRecord). items_of s (unsilenced l) p) there ∙ items_active k active)
        ∙ least_map (λ i. i.rank) (λ i. i.rank) (item_of s k) (call_items (is_client s.kind) k.looks) (λ i. refl)))
        (of (least_by (λ i. i.rank) (call_items (is_client s.kind) k.looks)) refl o due)
      where
        of : (p : Option CallItem) → least_by (λ i. i.rank) (call_items (is_client s.kind) k.looks) ≡ p → (o : Option ℕ)
            → o ≡ option_map (λ i. i.rank) p
            → AreDueAs s l (option_map (λ rank. record { rank = rank; key = key; item = kinds.Sending end }) o)
            (option_map (item_of s k) p)
        of None is None due = tt
        of None is (Some rank) due = absurd (cc (due))
        of (Some i) is None due = absurd (cc (due))
        of (Some i) is (Some rank) due =
            record {
              channel = ch;
              at = at;
              rank = (let same : rank ≡ i.rank = cc (due) in same);
              is = record { call = k; there = there; item = i; least = is; is = refl };
            }

-- ---- of a node

module _ (class : List ℕ → Class) (n : NodeState) (l : Looks) where
  pub due_sending : Mirrors class n l → (key : ℕ) (ch : Channel) → IsChannel l key ch → (end : ℕ) → IsActiveAt n key end
      → (e : EndsState) → e ≡ n.ends → e.client ≡ is_client n.kind → (o : Option ℕ)
      → ((k : CallLooks) → StandsEnd e end k → o ≡ call_due e.client k) → OwesAtOnce (setup_of class n) l ch None
      → AreDueAs (setup_of class n) l (option_map (λ rank. record { rank = rank; key = key; item = kinds.Sending end })
      o) (least_by (λ i. i.rank) (channel_items (setup_of class n) (unsilenced l) ch))
  due_sending m key ch at end active e same client o due owes =
      let its = active_call class n l m key end ch at active in
      due_sent (setup_of class n) l key ch at end its.call o owes its.latest_is its.active
      (due its.call.looks (subst (λ (f : EndsState). StandsEnd f end its.call.looks) (sym same) its.stands)
      ∙ ap (λ (b : Bool). call_due b its.call.looks) client)

  -- its call would die then
  pub death_active : Mirrors class n l → (key : ℕ) (ch : Channel) → IsChannel l key ch → (end : ℕ)
      → IsActiveAt n key end → (e : EndsState) → e ≡ n.ends → (dies : ℕ)
      → ((k : CallLooks) → StandsEnd e end k → dies ≡ k.heard + SILENCE_MS) → Some dies ≡ death_of (latest l ch)
  death_active m key ch at end active e same dies is =
      let its = active_call class n l m key end ch at active in
      ap (λ (d : ℕ). Some d)
      (is its.call.looks (subst (λ (f : EndsState). StandsEnd f end its.call.looks) (sym same) its.stands))
      ∙ sym (ap death_of its.latest_is
      ∙ ap (λ (b : Bool). if b then Some (its.call.looks.heard + SILENCE_MS) else None) its.active)
