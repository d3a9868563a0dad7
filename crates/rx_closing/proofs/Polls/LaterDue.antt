-- What is due of a node is due at the same moment however late it is, as long as no call of it is silent.
use Rattle.std.proofs.Common.{◌≡◌, ◌<◌, ◌≤◌, ◌+◌, ◌-◌, ◌++◌, ◌&&◌, not, ℕ, max, Bool, true, false, cond, List, [], ◌∷◌}
use Rattle.std.proofs.Common.{refl, ap, sym, ◌∙◌, Option, Some, None, option_map, map, nat_le, arith}
use Rattle.std.proofs.lemmas.Bool.{leb-false, lt-leb}
use Rattle.rx_model.specs.declared.wire.TheConstants.{SILENCE_MS}
use Rattle.rx_model.specs.declared.names.CallName.{CallName}
use Rattle.rx_model.specs.Body as bodies
use Rattle.rx_model.specs.Names.{Channel, same_name}
use Rattle.rx_rules.specs.CallItems.{call_items}
use Rattle.rx_rules.specs.Items.{Item, all_channels, busy_items, channel_items, class_items, deaths, due, item_of}
use Rattle.rx_rules.specs.Items.{items, items_of, items_on, moments, owed_item, where_owed}
use Rattle.rx_rules.specs.Least.{least_by}
use Rattle.rx_rules.specs.Life.{is_active, is_live}
use Rattle.rx_rules.specs.Looks.{CallRecord, ChannelLooks, Looks, call_named, channel_at, is_call, latest, latest_name}
use Rattle.rx_rules.specs.Records.{is_silent}
use Rattle.rx_rules.specs.Setup.{Setup, is_client}
use Rattle.rx_history.proofs.Differ.{every_found}
use Rattle.rx_rounds.proofs.Clocks.Clocked.{later}
use Rattle.rx_rounds.proofs.Clocks.NodeClock.{AreAwake}

-- a call that isn't silent wasn't before
awake_before : (now time : ℕ) (k : CallRecord) → is_silent (now + time) k ≡ false → is_silent now k ≡ false
awake_before now time k awake = of (is_active k.life) refl
  where
    of : (b : Bool) → is_active k.life ≡ b → is_silent now k ≡ false
    of false idle = ap (λ (b : Bool). b && nat_le SILENCE_MS (now - k.looks.heard)) idle
    of true active =
        let short : nat_le SILENCE_MS ((now + time) - k.looks.heard) ≡ false =
        ap (λ (b : Bool). b && nat_le SILENCE_MS ((now + time) - k.looks.heard)) (sym active) ∙ awake in
        let less : (now + time) - k.looks.heard < SILENCE_MS =
        leb-false SILENCE_MS ((now + time) - k.looks.heard) short in
        let before : now - k.looks.heard < SILENCE_MS = omega arith in
        ap (λ (b : Bool). b && nat_le SILENCE_MS (now - k.looks.heard)) active
        ∙ lt-leb SILENCE_MS (now - k.looks.heard) before

-- the items of a call that isn't silent stay
of_later : (s : Setup) (l : Looks) (time : ℕ) (ch : Channel) (o : Option CallRecord) → AreAwake (later time l)
    → latest l ch ≡ o → items_of s (later time l) o ≡ items_of s l o
of_later s l time ch None awake is = refl
of_later s l time ch (Some k) awake is =
    let now : is_silent (l.now + time) k ≡ false =
    every_found (λ (j : CallRecord). is_silent (l.now + time) j ≡ false)
    (λ (j : CallRecord). same_name j.name (latest_name l ch)) l.calls k awake is in
    let before : is_silent l.now k ≡ false = awake_before l.now time k now in
    ap (λ (b : Bool). cond (is_active k.life && not b) (map (item_of s k) (call_items (is_client s.kind) k.looks)) [])
    (now ∙ sym before)

channel_later : (s : Setup) (l : Looks) (time : ℕ) (ch : Channel) → AreAwake (later time l)
    → channel_items s (later time l) ch ≡ channel_items s l ch
channel_later s l time ch awake =
    (let q : ChannelLooks = channel_at l ch in
    let c : CallName = call_named ch q.number in
    ap (λ (own : List Item). owed_item c (option_map bodies.Abort q.owed_abort)
    ++ (busy_items ch q.owed_busy ++ (class_items s l c q (is_call (λ k. is_live k.life) (latest l ch))
    ++ (owed_item c (where_owed q.owed_ackall bodies.AckAll) ++ own))))
    (of_later s l time ch (latest l ch) awake refl))

channels_later : (s : Setup) (l : Looks) (time : ℕ) (chs : List Channel) → AreAwake (later time l)
    → items_on s (later time l) chs ≡ items_on s l chs
channels_later s l time [] awake = refl
channels_later s l time (ch ∷ chs) awake =
    λ i. channel_later s l time ch awake i ++ channels_later s l time chs awake i

-- all that it owes stays
pub items_later : (s : Setup) (l : Looks) (time : ℕ) → AreAwake (later time l)
    → items s (later time l) ≡ items s l
items_later s l time awake = channels_later s l time (all_channels l.conns) awake

pub moments_later : (s : Setup) (l : Looks) (time : ℕ) → AreAwake (later time l)
    → moments s (later time l) ≡ moments s l
moments_later s l time awake =
    ap (λ (is : List Item). map (λ x. 0) l.strays ++ (map (λ (i : Item). i.rank) is ++ deaths l.calls))
    (items_later s l time awake)

-- so what was due in so much time is due then
pub due_then : (s : Setup) (l : Looks) (time d : ℕ) → AreAwake (later time l) → due s l ≡ Some d → l.now < d
    → d ≤ l.now + time → due s (later time l) ≡ Some (l.now + time)
due_then s l time d awake is some soon =
    ap (λ (ms : List ℕ). option_map (max (l.now + time)) (least_by (λ (m : ℕ). m) ms)) (moments_later s l time awake)
    ∙ of (least_by (λ (m : ℕ). m) (moments s l)) is
  where
    some_is : (a b : ℕ) → ◌≡◌ {A = Option ℕ} (Some a) (Some b) → a ≡ b
    some_is a b same = cc

    of : (o : Option ℕ) → option_map (max l.now) o ≡ Some d → option_map (max (l.now + time)) o ≡ Some (l.now + time)
    of None none = absurd (let no : ◌≡◌ {A = Option ℕ} None (Some d) = none in cc (no))
    of (Some m) most =
        let equal : max l.now m ≡ d = some_is (max l.now m) d most in
        let same : max (l.now + time) m ≡ l.now + time = omega arith in
        ap (λ (n : ℕ). Some n) same
