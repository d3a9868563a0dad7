-- The items of a node seen from one of its calls: what a poll gives is what that call's end gives, or is not of it; and
-- where a poll gives nothing the call's end has nothing to give.
use Rattle.std.proofs.Common.{◌≡◌, ◌<◌, ◌≤◌, ◌⊎◌, ◌++◌, ◌&&◌, not, ℕ, Bool, true, false, cond, List, [], ◌∷◌, refl, ap}
use Rattle.std.proofs.Common.{sym, subst, ◌∙◌, inl, inr, ⊎_elim, Option, Some, None, option_map, map, filter, nat_le}
use Rattle.std.proofs.Common.{arith}
use Rattle.std.proofs.lemmas.Bool.{and_parts, leb-true, leb-false, le-leb}
use Rattle.rx_model.specs.declared.names.CallName.{CallName}
use Rattle.rx_model.specs.Body.{Body}
use Rattle.rx_model.specs.Body as bodies
use Rattle.rx_model.specs.Names.{Channel}
use Rattle.rx_rules.specs.CallItems.{CallItem, Sending, call_items, next_sending}
use Rattle.rx_rules.specs.Items.{Item, all_channels, busy_items, challenge_body, channel_items, class_items, item_of}
use Rattle.rx_rules.specs.Items.{items, items_of, items_on, next_item, owed_item, where_owed}
use Rattle.rx_rules.specs.Least.{least_by, lesser_by}
use Rattle.rx_rules.specs.Life.{is_active, is_live}
use Rattle.rx_rules.specs.Looks.{CallRecord, ChannelLooks, Looks, call_named, channel_at, is_call, latest}
use Rattle.rx_rules.specs.Records.{is_silent}
use Rattle.rx_rules.specs.Setup.{Setup, is_client}
use Rattle.rx_rules.specs.Slots.{node_view}

-- ---- the least of a list

-- one of a list
abbrev pub In : {X : Type 0} → X → List X → Type 0
In x [] = ⊥
In x (y ∷ ys) = (x ≡ y) ⊎ In x ys

some_is : {X : Type 0} (a b : X) → ◌≡◌ {A = Option X} (Some a) (Some b) → a ≡ b
some_is a b same = cc

pub in_front : {X : Type 0} (x : X) (xs ys : List X) → In x xs → In x (xs ++ ys)
in_front x [] ys there = absurd there
in_front x (y ∷ xs) ys (inl same) = inl same
in_front x (y ∷ xs) ys (inr rest) = inr (in_front x xs ys rest)

pub in_behind : {X : Type 0} (x : X) (xs ys : List X) → In x ys → In x (xs ++ ys)
in_behind x [] ys there = there
in_behind x (y ∷ xs) ys there = inr (in_behind x xs ys there)

pub in_map : {X Y : Type 0} (f : X → Y) (x : X) (xs : List X) → In x xs → In (f x) (map f xs)
in_map f x [] there = absurd there
in_map f x (y ∷ xs) (inl same) = inl (ap f same)
in_map f x (y ∷ xs) (inr rest) = inr (in_map f x xs rest)

pub in_filter : {X : Type 0} (p : X → Bool) (x : X) (xs : List X) → In x xs → p x ≡ true → In x (filter p xs)
in_filter p x [] there passes = absurd there
in_filter {X = X} p x (y ∷ xs) (inl same) passes =
    let here : p y ≡ true = subst (λ (z : X). p z ≡ true) same passes in
    rw here (inl same)
in_filter {X = X} p x (y ∷ xs) (inr rest) passes =
    (elim (p y) as (λ b. In x (cond b (y ∷ filter p xs) (filter p xs))) [
      | true ↦ inr (in_filter p x xs rest passes)
      | false ↦ in_filter p x xs rest passes
    ])

-- the least is one of them
pub least_in : {X : Type 0} (rank : X → ℕ) (i : X) (xs : List X) → least_by rank xs ≡ Some i → In i xs
least_in rank i [] is = absurd cc
least_in {X = X} rank i (x ∷ xs) is =
    (elim (least_by rank xs) as (λ o. least_by rank xs ≡ o → Some (lesser_by rank x o) ≡ Some i → In i (x ∷ xs)) [
      | None ↦ λ none same. inl (sym (some_is x i same))
      | Some j ↦ λ some same. (elim (nat_le (rank x) (rank j)) as (λ b. Some (cond b x j) ≡ Some i → In i (x ∷ xs)) [
        | true ↦ λ here. inl (sym (some_is x i here))
        | false ↦ λ there. inr (least_in rank i xs (some ∙ there))
      ]) same
    ]) refl is

-- and no other is less
pub least_low : {X : Type 0} (rank : X → ℕ) (i m : X) (xs : List X) → least_by rank xs ≡ Some i → In m xs
    → rank i ≤ rank m
least_low rank i m [] is there = absurd there
least_low {X = X} rank i m (x ∷ xs) is there =
    (elim (least_by rank xs) as (λ o. least_by rank xs ≡ o → Some (lesser_by rank x o) ≡ Some i → rank i ≤ rank m) [
      | None ↦ λ none same. alone none (some_is x i same) there
      | Some j ↦ λ some same. (elim (nat_le (rank x) (rank j)) as (λ b. nat_le (rank x) (rank j) ≡ b
          → Some (cond b x j) ≡ Some i → rank i ≤ rank m) [
            | true ↦ λ low here. (
                let is_x : x ≡ i = some_is x i here in
                ⊎_elim
                (λ (own : m ≡ x). subst (λ (z : X). rank z ≤ rank m) is_x
                (subst (λ (z : X). rank x ≤ rank z) (sym own) (omega arith)))
                (λ (rest : In m xs). (
                let below : rank j ≤ rank m = least_low rank j m xs some rest in
                let least : rank x ≤ rank j = leb-true (rank x) (rank j) low in
                subst (λ (z : X). rank z ≤ rank m) is_x (omega arith)))
                there)
            | false ↦ λ high here. (
                let is_j : j ≡ i = some_is j i here in
                let above : rank j < rank x = leb-false (rank x) (rank j) high in
                ⊎_elim
                (λ (own : m ≡ x). subst (λ (z : X). rank z ≤ rank m) is_j
                (subst (λ (z : X). rank j ≤ rank z) (sym own) (omega arith)))
                (λ (rest : In m xs). subst (λ (z : X). rank z ≤ rank m) is_j (least_low rank j m xs some rest))
                there)
          ]) refl same
    ]) refl is
  where
    nothing : (ys : List X) → least_by rank ys ≡ None → In m ys → ⊥
    nothing [] none here = here
    nothing (y ∷ ys) none here = cc

    alone : least_by rank xs ≡ None → x ≡ i → In m (x ∷ xs) → rank i ≤ rank m
    alone none is_x (inl own) = subst (λ (z : X). rank z ≤ rank m) is_x
        (subst (λ (z : X). rank x ≤ rank z) (sym own) (omega arith))
    alone none is_x (inr rest) = absurd (nothing xs none rest)

-- there is none only of nothing
pub least_none : {X : Type 0} (rank : X → ℕ) (xs : List X) → least_by rank xs ≡ None → xs ≡ []
least_none rank [] none = refl
least_none rank (x ∷ xs) none = absurd cc

-- the least of two lists is that of one of them
pub least_split : {X : Type 0} (rank : X → ℕ) (xs ys : List X) (i : X) → least_by rank (xs ++ ys) ≡ Some i
    → (least_by rank xs ≡ Some i) ⊎ (least_by rank ys ≡ Some i)
least_split rank [] ys i is = inr is
least_split {X = X} rank (x ∷ xs) ys i is =
    of (λ j there. least_split rank xs ys j there) (least_by rank (xs ++ ys)) refl is
  where
    -- where nothing else is there
    empty_front : (us : List X) → least_by rank (us ++ ys) ≡ None → least_by rank us ≡ None
    empty_front [] none = refl
    empty_front (u ∷ us) none = absurd cc

    of : ((j : X) → least_by rank (xs ++ ys) ≡ Some j → (least_by rank xs ≡ Some j) ⊎ (least_by rank ys ≡ Some j))
        → (o : Option X) → least_by rank (xs ++ ys) ≡ o → Some (lesser_by rank x o) ≡ Some i
        → (least_by rank (x ∷ xs) ≡ Some i) ⊎ (least_by rank ys ≡ Some i)
    of rest None none same = inl (ap (λ (o : Option X). Some (lesser_by rank x o)) (empty_front xs none) ∙ same)
    of rest (Some j) some same =
        (elim (nat_le (rank x) (rank j)) as (λ b. nat_le (rank x) (rank j) ≡ b → Some (cond b x j) ≡ Some i
        → (least_by rank (x ∷ xs) ≡ Some i) ⊎ (least_by rank ys ≡ Some i)) [
          | true ↦ λ low here. inl (first low (least_by rank xs) refl ∙ here)
          | false ↦ λ high here. ⊎_elim
              (λ (front : least_by rank xs ≡ Some j). inl (ap (λ (o : Option X). Some (lesser_by rank x o)) front
              ∙ rw high here))
              (λ (behind : least_by rank ys ≡ Some j). inr (behind ∙ here))
              (rest j some)
        ]) refl same
      where
        first : nat_le (rank x) (rank j) ≡ true → (o : Option X) → least_by rank xs ≡ o
            → least_by rank (x ∷ xs) ≡ Some x
        first low None none = ap (λ (o : Option X). Some (lesser_by rank x o)) none
        first low (Some m) there =
            let below : rank j ≤ rank m = least_low rank j m (xs ++ ys) some
            (in_front m xs ys (least_in rank m xs there)) in
            let least : rank x ≤ rank j = leb-true (rank x) (rank j) low in
            ap (λ (o : Option X). Some (lesser_by rank x o)) there ∙ rw (le-leb (rank x) (rank m) (omega arith)) refl

-- ---- where a poll gives nothing

abbrev pub is_due : Looks → Item → Bool
is_due l i = nat_le i.rank l.now

pub in_items : (s : Setup) (l : Looks) (i : Item) (ch : Channel) (chs : List Channel) → In ch chs
    → In i (channel_items s l ch) → In i (items_on s l chs)
in_items s l i ch [] there here = absurd there
in_items s l i ch (d ∷ ds) (inl same) here =
    in_front i (channel_items s l d) (items_on s l ds) (subst (λ (e : Channel). In i (channel_items s l e)) same here)
in_items s l i ch (d ∷ ds) (inr rest) here =
    in_behind i (channel_items s l d) (items_on s l ds) (in_items s l i ch ds rest here)

-- the items of a channel's call are among its own
pub in_channel : (s : Setup) (l : Looks) (ch : Channel) (k : CallRecord) (ci : CallItem) → latest l ch ≡ Some k
    → is_active k.life ≡ true → is_silent l.now k ≡ false → In ci (call_items (is_client s.kind) k.looks)
    → In (item_of s k ci) (channel_items s l ch)
in_channel s l ch k ci there active awake own =
    let i : Item = item_of s k ci in
    let q : ChannelLooks = channel_at l ch in
    let c : CallName = call_named ch q.number in
    let of : In i (items_of s l (latest l ch)) = subst (λ (o : Option CallRecord). In i (items_of s l o)) (sym there)
    (rw (awake, active) (in_map (item_of s k) ci (call_items (is_client s.kind) k.looks) own)) in
    in_behind i (owed_item c (option_map bodies.Abort q.owed_abort)) _
    (in_behind i (busy_items ch q.owed_busy) _
    (in_behind i (class_items s l c q (is_call (λ r. is_live r.life) (latest l ch))) _
    (in_behind i (owed_item c (where_owed q.owed_ackall bodies.AckAll)) (items_of s l (latest l ch)) of)))

pub none_of : (s : Setup) (l : Looks) (ch : Channel) (k : CallRecord) → next_item s l ≡ None
    → In ch (all_channels l.conns)
    → latest l ch ≡ Some k → is_active k.life ≡ true → is_silent l.now k ≡ false
    → next_sending (node_view s l) k.looks ≡ None
none_of s l ch k none known there active awake = of
    (least_by (λ (i : CallItem). i.rank)
    (filter (λ (i : CallItem). nat_le i.rank l.now) (call_items (is_client s.kind) k.looks))) refl
  where
    of : (o : Option CallItem) → least_by (λ (i : CallItem). i.rank)
        (filter (λ (i : CallItem). nat_le i.rank l.now) (call_items (is_client s.kind) k.looks)) ≡ o
        → option_map (λ (i : CallItem). i.sending)
        (least_by (λ (i : CallItem). i.rank)
        (filter (λ (i : CallItem). nat_le i.rank l.now) (call_items (is_client s.kind) k.looks))) ≡ None
    of None is = ap (option_map (λ (i : CallItem). i.sending)) is
    of (Some ci) is =
        let due = in_filtered (λ (i : CallItem). nat_le i.rank l.now) ci (call_items (is_client s.kind) k.looks)
        (least_in (λ (i : CallItem). i.rank) ci
        (filter (λ (i : CallItem). nat_le i.rank l.now) (call_items (is_client s.kind) k.looks)) is) in
        let here : In (item_of s k ci) (items s l) = in_items s l (item_of s k ci) ch (all_channels l.conns) known
        (in_channel s l ch k ci there active awake due.0) in
        let left : In (item_of s k ci) (filter (is_due l) (items s l)) = in_filter (is_due l) (item_of s k ci)
        (items s l) here due.1 in
        absurd (subst (λ (is : List Item). In (item_of s k ci) is)
        (least_none (λ (i : Item). i.rank) (filter (is_due l) (items s l)) none) left)
      where
        in_filtered : (p : CallItem → Bool) (x : CallItem) (xs : List CallItem) → In x (filter p xs)
            → In x xs × (p x ≡ true)
        in_filtered p x [] h = absurd h
        in_filtered p x (y ∷ xs) h =
            (elim (p y) as (λ b. p y ≡ b → In x (cond b (y ∷ filter p xs) (filter p xs))
            → In x (y ∷ xs) × (p x ≡ true)) [
              | true ↦ λ passes there. ⊎_elim
                  (λ (same : x ≡ y). (inl same, subst (λ (z : CallItem). p z ≡ true) (sym same) passes))
                  (λ (rest : In x (filter p xs)). (let r = in_filtered p x xs rest in (inr r.0, r.1))) there
              | false ↦ λ fails there. (let r = in_filtered p x xs there in (inr r.0, r.1))
            ]) refl h

-- ---- the least of a call

lesser-map : (s : Setup) (k : CallRecord) (i : CallItem) (o : Option CallItem)
    → lesser_by (λ (j : Item). j.rank) (item_of s k i) (option_map (item_of s k) o) ≡ item_of s k
    (lesser_by (λ (j : CallItem). j.rank) i o)
lesser-map s k i None = refl
lesser-map s k i (Some j) =
    elim (nat_le i.rank j.rank) as (λ b. cond b (item_of s k i) (item_of s k j) ≡ item_of s k (cond b i j)) [
      | true ↦ refl
      | false ↦ refl
    ]

-- the least of a call's items is that of its end
pub least-map : (s : Setup) (k : CallRecord) (now : ℕ) (is : List CallItem)
    → least_by (λ (j : Item). j.rank) (filter (λ (i : Item). nat_le i.rank now) (map (item_of s k) is))
    ≡ option_map (item_of s k) (least_by (λ (j : CallItem). j.rank) (filter (λ (i : CallItem). nat_le i.rank now) is))
least-map s k now [] = refl
least-map s k now (i ∷ is) =
    elim (nat_le i.rank now) as (λ b. least_by (λ (j : Item). j.rank)
    (cond b (item_of s k i ∷ filter (λ (j : Item). nat_le j.rank now) (map (item_of s k) is))
    (filter (λ (j : Item). nat_le j.rank now) (map (item_of s k) is)))
    ≡ option_map (item_of s k) (least_by (λ (j : CallItem). j.rank)
    (cond b (i ∷ filter (λ (i : CallItem). nat_le i.rank now) is)
    (filter (λ (i : CallItem). nat_le i.rank now) is)))) [
      | true ↦
          ap (λ (o : Option Item). Some (lesser_by (λ (j : Item). j.rank) (item_of s k i) o)) (least-map s k now is)
          ∙ ap (λ (j : Item). Some j) (lesser-map s k i
          (least_by (λ (j : CallItem). j.rank) (filter (λ (i : CallItem). nat_le i.rank now) is)))
      | false ↦ least-map s k now is
    ]

-- ---- what a poll gives

-- a body that is of no call's stream
abbrev pub IsOther : Body → Type 0
IsOther (bodies.Chunk payload) = ⊥
IsOther (bodies.Ack a) = ⊥
IsOther _ = Unit {0}

-- the item is what the end of a channel's latest call gives next
pub record Sends (s : Setup) (l : Looks) (i : Item) : Type 0 where
  pub channel : Channel
  pub call : CallRecord
  pub there : latest l channel ≡ Some call
  pub active : is_active call.life ≡ true
  pub awake : is_silent l.now call ≡ false
  pub rank : ℕ
  pub sending : Sending
  pub next : next_sending (node_view s l) call.looks ≡ Some sending
  pub is : i ≡ item_of s call (record { rank = rank; sending = sending })

filter_append : {X : Type 0} (p : X → Bool) (xs ys : List X) → filter p (xs ++ ys) ≡ filter p xs ++ filter p ys
filter_append p [] ys = refl
filter_append {X = X} p (x ∷ xs) ys =
    (elim (p x) as (λ b. cond b (x ∷ filter p (xs ++ ys)) (filter p (xs ++ ys)) ≡ cond b (x ∷ filter p xs)
    (filter p xs) ++ filter p ys) [
      | true ↦ ap (λ (zs : List X). x ∷ zs) (filter_append p xs ys)
      | false ↦ filter_append p xs ys
    ])

-- what is due of two lists
due_split : (l : Looks) (xs ys : List Item) (i : Item)
    → least_by (λ (j : Item). j.rank) (filter (is_due l) (xs ++ ys)) ≡ Some i
    → (least_by (λ (j : Item). j.rank) (filter (is_due l) xs) ≡ Some i) ⊎
    (least_by (λ (j : Item). j.rank) (filter (is_due l) ys) ≡ Some i)
due_split l xs ys i is =
    least_split (λ (j : Item). j.rank) (filter (is_due l) xs) (filter (is_due l) ys) i
    (ap (least_by (λ (j : Item). j.rank)) (sym (filter_append (is_due l) xs ys)) ∙ is)

-- what is owed at once is no part of a stream
owed_other : (l : Looks) (c : CallName) (o : Option Body) (i : Item) → ((body : Body) → o ≡ Some body → IsOther body)
    → least_by (λ (j : Item). j.rank) (filter (is_due l) (owed_item c o)) ≡ Some i → IsOther i.body
owed_other l c None i other is = absurd cc
owed_other l c (Some body) i other is =
    (elim (nat_le 0 l.now) as (λ b. least_by (λ (j : Item). j.rank)
    (cond b (record { rank = 0; name = c; seq = 0; flags = 0; body = body } ∷ []) []) ≡ Some i → IsOther i.body) [
      | true ↦ λ here. subst (λ (j : Item). IsOther j.body)
          (some_is (record { rank = 0; name = c; seq = 0; flags = 0; body = body }) i here) (other body refl)
      | false ↦ λ none. absurd cc
    ]) is

mapped_other : {X : Type 0} (f : X → Body) (o : Option X) → ((x : X) → IsOther (f x)) → (body : Body)
    → option_map f o ≡ Some body → IsOther body
mapped_other f None other body is = absurd cc
mapped_other f (Some x) other body is = subst IsOther (some_is (f x) body is) (other x)

where_other : (b : Bool) (x body : Body) → IsOther x → where_owed b x ≡ Some body → IsOther body
where_other true x body other is = subst IsOther (some_is x body is) other
where_other false x body other is = absurd cc

busy_other : (l : Looks) (ch : Channel) (o : Option ℕ) (i : Item)
    → least_by (λ (j : Item). j.rank) (filter (is_due l) (busy_items ch o)) ≡ Some i → IsOther i.body
busy_other l ch None i is = absurd cc
busy_other l ch (Some n) i is = owed_other l (call_named ch n) (Some bodies.Busy) i
    (λ body same. subst IsOther (some_is bodies.Busy body same) tt) is

class_other : (s : Setup) (l : Looks) (c : CallName) (q : ChannelLooks) (living : Bool) (i : Item)
    → least_by (λ (j : Item). j.rank) (filter (is_due l) (class_items s l c q living)) ≡ Some i → IsOther i.body
class_other s l c q false i is = absurd cc
class_other s l c q true i is =
    ⊎_elim
    (λ (front : least_by (λ (j : Item). j.rank)
    (filter (is_due l) (owed_item c (challenge_body s l c q.owed_challenge))) ≡ Some i).
    owed_other l c (challenge_body s l c q.owed_challenge) i (λ body same. where_other _ _ body tt same) front)
    (λ (behind : least_by (λ (j : Item). j.rank)
    (filter (is_due l) (owed_item c (option_map bodies.Response q.owed_response))) ≡ Some i).
    owed_other l c (option_map bodies.Response q.owed_response) i
    (mapped_other bodies.Response q.owed_response (λ x. tt)) behind)
    (due_split l (owed_item c (challenge_body s l c q.owed_challenge))
    (owed_item c (option_map bodies.Response q.owed_response)) i is)

call_sends : (s : Setup) (l : Looks) (ch : Channel) (o : Option CallRecord) (i : Item) → latest l ch ≡ o
    → least_by (λ (j : Item). j.rank) (filter (is_due l) (items_of s l o)) ≡ Some i → Sends s l i
call_sends s l ch None i there is = absurd cc
call_sends s l ch (Some k) i there is =
    (elim (is_active k.life && not (is_silent l.now k)) as (λ b. (is_active k.life && not (is_silent l.now k)) ≡ b
    → least_by (λ (j : Item). j.rank)
    (filter (is_due l) (cond b (map (item_of s k) (call_items (is_client s.kind) k.looks)) [])) ≡ Some i
    → Sends s l i) [
      | true ↦ λ both here. (
          let parts = and_parts (is_active k.life) (not (is_silent l.now k)) both in
          of parts.0 (not_true (is_silent l.now k) parts.1)
          (least_by (λ (j : CallItem). j.rank)
          (filter (λ (j : CallItem). nat_le j.rank l.now) (call_items (is_client s.kind) k.looks))) refl
          (sym (least-map s k l.now (call_items (is_client s.kind) k.looks)) ∙ here))
      | false ↦ λ none here. absurd cc
    ]) refl is
  where
    not_true : (b : Bool) → not b ≡ true → b ≡ false
    not_true false same = refl
    not_true true same = absurd cc

    of : is_active k.life ≡ true → is_silent l.now k ≡ false → (o : Option CallItem)
        → least_by (λ (j : CallItem). j.rank)
        (filter (λ (j : CallItem). nat_le j.rank l.now) (call_items (is_client s.kind) k.looks)) ≡ o
        → option_map (item_of s k) (least_by (λ (j : CallItem). j.rank)
        (filter (λ (j : CallItem). nat_le j.rank l.now) (call_items (is_client s.kind) k.looks))) ≡ Some i
        → Sends s l i
    of active awake None none same = absurd
        (let no_item : ◌≡◌ {A = Option Item} None (Some i) = sym (ap (option_map (item_of s k)) none) ∙ same in cc)
    of active awake (Some ci) some same =
        record {
          channel = ch;
          call = k;
          there = there;
          active = active;
          awake = awake;
          rank = ci.rank;
          sending = ci.sending;
          next = ap (option_map (λ (j : CallItem). j.sending)) some;
          is = sym (some_is (item_of s k ci) i (sym (ap (option_map (item_of s k)) some) ∙ same));
        }

-- of one channel
channel_gives : (s : Setup) (l : Looks) (ch : Channel) (i : Item)
    → least_by (λ (j : Item). j.rank) (filter (is_due l) (channel_items s l ch)) ≡ Some i
    → Sends s l i ⊎ IsOther i.body
channel_gives s l ch i is =
    let q : ChannelLooks = channel_at l ch in
    let c : CallName = call_named ch q.number in
    let aborts : List Item = owed_item c (option_map bodies.Abort q.owed_abort) in
    let busies : List Item = busy_items ch q.owed_busy in
    let classes : List Item = class_items s l c q (is_call (λ r. is_live r.life) (latest l ch)) in
    let all_acks : List Item = owed_item c (where_owed q.owed_ackall bodies.AckAll) in
    let own : List Item = items_of s l (latest l ch) in
    ⊎_elim
    (λ (h : least_by (λ (j : Item). j.rank) (filter (is_due l) aborts) ≡ Some i). inr
    (owed_other l c (option_map bodies.Abort q.owed_abort) i (mapped_other bodies.Abort q.owed_abort (λ x. tt)) h))
    (λ (h1 : least_by (λ (j : Item). j.rank) (filter (is_due l) (busies ++ (classes ++ (all_acks ++ own)))) ≡ Some i).
    ⊎_elim
    (λ (h : least_by (λ (j : Item). j.rank) (filter (is_due l) busies) ≡ Some i). inr (busy_other l ch q.owed_busy i h))
    (λ (h2 : least_by (λ (j : Item). j.rank) (filter (is_due l) (classes ++ (all_acks ++ own))) ≡ Some i). ⊎_elim
    (λ (h : least_by (λ (j : Item). j.rank) (filter (is_due l) classes) ≡ Some i). inr
    (class_other s l c q (is_call (λ r. is_live r.life) (latest l ch)) i h))
    (λ (h3 : least_by (λ (j : Item). j.rank) (filter (is_due l) (all_acks ++ own)) ≡ Some i). ⊎_elim
    (λ (h : least_by (λ (j : Item). j.rank) (filter (is_due l) all_acks) ≡ Some i). inr
    (owed_other l c (where_owed q.owed_ackall bodies.AckAll) i
    (λ body same. where_other q.owed_ackall bodies.AckAll body tt same) h))
    (λ (h : least_by (λ (j : Item). j.rank) (filter (is_due l) own) ≡ Some i). inl
    (call_sends s l ch (latest l ch) i refl h))
    (due_split l all_acks own i h3))
    (due_split l classes (all_acks ++ own) i h2))
    (due_split l busies (classes ++ (all_acks ++ own)) i h1))
    (due_split l aborts (busies ++ (classes ++ (all_acks ++ own))) i is)

channels_give : (s : Setup) (l : Looks) (chs : List Channel) (i : Item)
    → least_by (λ (j : Item). j.rank) (filter (is_due l) (items_on s l chs)) ≡ Some i
    → Sends s l i ⊎ IsOther i.body
channels_give s l [] i is = absurd cc
channels_give s l (ch ∷ chs) i is =
    ⊎_elim
    (λ (front : least_by (λ (j : Item). j.rank) (filter (is_due l) (channel_items s l ch)) ≡ Some i). channel_gives s
    l ch i front)
    (λ (behind : least_by (λ (j : Item). j.rank) (filter (is_due l) (items_on s l chs)) ≡ Some i). channels_give s l
    chs i behind)
    (due_split l (channel_items s l ch) (items_on s l chs) i is)

-- of a node: what it gives next is what the end of one of its calls gives next, or it is of no call's stream
pub gives : (s : Setup) (l : Looks) (i : Item) → next_item s l ≡ Some i → Sends s l i ⊎ IsOther i.body
gives s l i is = channels_give s l (all_channels l.conns) i is
