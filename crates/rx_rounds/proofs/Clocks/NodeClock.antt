-- When something is due at a node that was polled out: later than now, and for a client with a live call not long
-- after.
use Rattle.std.proofs.Common.{◌≡◌, ◌<◌, ◌≤◌, ◌+◌, ◌-◌, ◌⊎◌, ◌++◌, ◌&&◌, ℕ, max, Bool, true, false, cond, List, [], ◌∷◌}
use Rattle.std.proofs.Common.{refl, ap, sym, subst, ◌∙◌, inl, inr, ⊎_elim, Option, Some, None, option_map, map, filter}
use Rattle.std.proofs.Common.{nat_le, arith}
use Rattle.std.proofs.lemmas.Bool.{leb-false}
use Rattle.rx_model.specs.declared.wire.TheConstants.{ACK_PING, PING_MS, SILENCE_MS}
use Rattle.rx_rules.proofs.EveryLaws.{Every}
use Rattle.rx_model.specs.declared.stray.Stray.{Stray}
use Rattle.rx_model.specs.Names.{Channel}
use Rattle.rx_rules.specs.CallItems.{CallItem, Ack, ack_items, call_items, ping_items, piece_items}
use Rattle.rx_rules.specs.Items.{Item, all_channels, deaths, due, item_of, items, moments, next_item}
use Rattle.rx_rules.specs.Least.{least_by}
use Rattle.rx_rules.specs.Life.{is_active}
use Rattle.rx_rules.specs.Looks.{CallRecord, Looks, latest}
use Rattle.rx_rules.specs.Records.{is_silent}
use Rattle.rx_rules.specs.Setup.{Setup, is_client}
use Rattle.rx_between.proofs.Each.EachItem.{In, in_behind, in_channel, in_filter, in_front, in_items, in_map, is_due}
use Rattle.rx_between.proofs.Each.EachItem.{least_in, least_low, least_none}
use Rattle.rx_between.proofs.Within.{in_either}

-- one of a list that was mapped comes of one before
pub in_mapped : {X Y : Type 0} (f : X → Y) (y : Y) (xs : List X) → In y (map f xs) → (x : X) × In x xs × (y ≡ f x)
in_mapped f y [] there = absurd there
in_mapped f y (x ∷ xs) (inl same) = (x, inl refl, same)
in_mapped f y (x ∷ xs) (inr rest) = (let r = in_mapped f y xs rest in (r.0, inr r.1, r.2))

-- an item of a node that was polled out is due later
pub item_later : (s : Setup) (l : Looks) (i : Item) → next_item s l ≡ None → In i (items s l) → l.now < i.rank
item_later s l i none there =
    (elim (nat_le i.rank l.now) as (λ b. nat_le i.rank l.now ≡ b → l.now < i.rank) [
      | true ↦ λ now. absurd (subst (λ (is : List Item). In i is)
          (least_none (λ (j : Item). j.rank) (filter (is_due l) (items s l)) none)
          (in_filter (is_due l) i (items s l) there now))
      | false ↦ λ later. leb-false i.rank l.now later
    ]) refl

-- so is a death, where no call is silent
abbrev pub AreAwake : Looks → Type 0
AreAwake l = Every (λ (k : CallRecord). is_silent l.now k ≡ false) l.calls

death_later : (now : ℕ) (ks : List CallRecord) (m : ℕ) → Every (λ (k : CallRecord). is_silent now k ≡ false) ks
    → In m (deaths ks) → now < m
death_later now [] m awake there = absurd there
death_later now (k ∷ ks) m awake there =
    (elim (is_active k.life) as (λ b. is_active k.life ≡ b
    → In m (cond b ((k.looks.heard + SILENCE_MS) ∷ deaths ks) (deaths ks)) → now < m) [
      | true ↦ λ active here. ⊎_elim
          (λ (same : m ≡ k.looks.heard + SILENCE_MS). (
          let short : nat_le SILENCE_MS (now - k.looks.heard) ≡ false =
          (let not_both : (true && nat_le SILENCE_MS (now - k.looks.heard)) ≡ false = ap
          (λ (b : Bool). b && nat_le SILENCE_MS (now - k.looks.heard)) (sym active) ∙ awake.0 in not_both) in
          let less : now - k.looks.heard < SILENCE_MS = leb-false SILENCE_MS (now - k.looks.heard) short in
          omega arith))
          (λ (rest : In m (deaths ks)). death_later now ks m awake.1 rest) here
      | false ↦ λ dead here. death_later now ks m awake.1 here
    ]) refl there

-- what is due of a node that was polled out is later than now
pub due_later : (s : Setup) (l : Looks) (d : ℕ) → l.strays ≡ [] → next_item s l ≡ None → AreAwake l → due s l ≡ Some d
    → l.now < d
due_later s l d stray none awake is = of (least_by (λ (m : ℕ). m) (moments s l)) refl is
  where
    low : (m : ℕ) → In m (moments s l) → l.now < m
    low m there =
        let no_strays : In m (map (λ (i : Item). i.rank) (items s l) ++ deaths l.calls) =
        subst (λ (xs : List Stray). In m
        (map (λ x. 0) xs ++ (map (λ (i : Item). i.rank) (items s l) ++ deaths l.calls))) stray there in
        ⊎_elim
        (λ (h : In m (map (λ (i : Item). i.rank) (items s l))). (
        let i = in_mapped (λ (i : Item). i.rank) m (items s l) h in
        let later : l.now < i.0.rank = item_later s l i.0 none i.1 in
        subst (λ (n : ℕ). l.now < n) (sym i.2) later))
        (λ (h : In m (deaths l.calls)). death_later l.now l.calls m awake h)
        (in_either m (map (λ (i : Item). i.rank) (items s l)) (deaths l.calls) no_strays)

    of : (o : Option ℕ) → least_by (λ (m : ℕ). m) (moments s l) ≡ o
        → option_map (max l.now) (least_by (λ (m : ℕ). m) (moments s l)) ≡ Some d → l.now < d
    of None nothing same = absurd (let no : ◌≡◌ {A = Option ℕ} None (Some d) = sym
        (ap (option_map (max l.now)) nothing) ∙ same in cc)
    of (Some m) some same =
        let is_max : max l.now m ≡ d = (let both : ◌≡◌ {A = Option ℕ} (Some (max l.now m)) (Some d) = sym
        (ap (option_map (max l.now)) some) ∙ same in cc (both)) in
        let later : l.now < m = low m (least_in (λ (n : ℕ). n) m (moments s l) some) in
        omega arith

-- a client's live call pings 2,000 ms behind what it gave last: so what is due isn't far
pub due_near : (s : Setup) (l : Looks) (ch : Channel) (k : CallRecord) → is_client s.kind ≡ true
    → In ch (all_channels l.conns) → latest l ch ≡ Some k
    → is_active k.life ≡ true → is_silent l.now k ≡ false → k.looks.spoke ≤ l.now
    → (d : ℕ) × (due s l ≡ Some d) × (d ≤ l.now + 2000)
due_near s l ch k client known there active awake spoken = of (least_by (λ (m : ℕ). m) (moments s l)) refl
  where
    ping : CallItem
    ping = record { rank = k.looks.spoke + PING_MS; sending = Ack ACK_PING 0 }

    in_moments : In (k.looks.spoke + PING_MS) (moments s l)
    in_moments =
        let pings : In ping (ping_items (is_client s.kind) k.looks.spoke) = rw client (inl refl) in
        let own : In ping (call_items (is_client s.kind) k.looks) =
        in_behind ping (piece_items k.looks.rtt.rto k.looks.cwnd k.looks.sent)
        (ack_items k.looks.owed_ack ++ ping_items (is_client s.kind) k.looks.spoke)
        (in_behind ping (ack_items k.looks.owed_ack) (ping_items (is_client s.kind) k.looks.spoke) pings) in
        let item : In (item_of s k ping) (items s l) = in_items s l (item_of s k ping) ch (all_channels l.conns) known
        (in_channel s l ch k ping there active awake own) in
        in_behind (k.looks.spoke + PING_MS) (map (λ x. 0) l.strays)
        (map (λ (i : Item). i.rank) (items s l) ++ deaths l.calls)
        (in_front (k.looks.spoke + PING_MS) (map (λ (i : Item). i.rank) (items s l)) (deaths l.calls)
        (in_map (λ (i : Item). i.rank) (item_of s k ping) (items s l) item))

    of : (o : Option ℕ) → least_by (λ (m : ℕ). m) (moments s l) ≡ o → (d : ℕ) × (due s l ≡ Some d) × (d ≤ l.now + 2000)
    of None nothing = absurd (subst (λ (ms : List ℕ). In (k.looks.spoke + PING_MS) ms)
        (least_none (λ (m : ℕ). m) (moments s l) nothing) in_moments)
    of (Some m) some =
        let low : m ≤ k.looks.spoke + PING_MS = least_low (λ (n : ℕ). n) m (k.looks.spoke + PING_MS)
        (moments s l) some in_moments in
        (max l.now m, ap (option_map (max l.now)) some, omega arith)
