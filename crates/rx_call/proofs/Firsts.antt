-- The item that comes first of a call, by its piece and its acknowledgement.
use Rattle.std.proofs.Common.{◌≡◌, inl, inr, ◌<◌, ◌≤◌, nat_le, min, cond, Bool, true, false, ℕ, List, [], ◌∷◌, ◌++◌}
use Rattle.std.proofs.Common.{Option, Some, None, refl, sym, ap, ◌∙◌, arith}
use Rattle.std.specs.Prelude.{filter, option_map}
use Rattle.std.proofs.lemmas.Bool.{cases_lt, cases_Bool}
use Rattle.std.proofs.lemmas.Bool.Decides.{nat_tests}
use Rattle.rx_rules.specs.CallItems.{CallItem, Sending, ack_items, ping_items, piece_items, call_items, call_due}
use Rattle.rx_rules.specs.CallItems.{next_sending}
use Rattle.rx_rules.specs.CallItems as items
use Rattle.rx_rules.specs.CallLooks.{CallLooks, NodeView}
use Rattle.rx_rules.specs.Least.{least_by, lesser_by}
use Rattle.rx_rules.specs.Owing.{Owed}
use Rattle.rx_call.specs.Choosing.{least_piece, piece_sending, first_ack, chosen_by, ping_at}

abbrev least : List CallItem → Option CallItem
least is = least_by (λ (i : CallItem). i.rank) is

-- the lesser of two, the first where they are equal
abbrev lesser : Option CallItem → Option CallItem → Option CallItem
lesser None y = y
lesser (Some x) y = Some (lesser_by (λ (i : CallItem). i.rank) x y)

nested : (x y : CallItem) (z : Option CallItem) →
    lesser_by (λ (i : CallItem). i.rank) x (Some (lesser_by (λ (i : CallItem). i.rank) y z))
    ≡ lesser_by (λ (i : CallItem). i.rank) (lesser_by (λ (i : CallItem). i.rank) x (Some y)) z
nested x y None = refl
nested x y (Some z) =
    elim (cases_lt z.rank y.rank) as (λ _. cond (nat_le x.rank (cond (nat_le y.rank z.rank) y z).rank) x
    (cond (nat_le y.rank z.rank) y z)
    ≡ cond (nat_le (cond (nat_le x.rank y.rank) x y).rank z.rank) (cond (nat_le x.rank y.rank) x y) z) [
      | inl lt ↦ (
          let yz : nat_le y.rank z.rank ≡ false = grind (arith, nat_tests, lt) in
          elim (cases_lt y.rank x.rank) as (λ _. cond (nat_le x.rank (cond (nat_le y.rank z.rank) y z).rank) x
          (cond (nat_le y.rank z.rank) y z)
          ≡ cond (nat_le (cond (nat_le x.rank y.rank) x y).rank z.rank) (cond (nat_le x.rank y.rank) x y) z) [
            | inl up ↦ (
                let xy : nat_le x.rank y.rank ≡ false = grind (arith, nat_tests, up) in
                let xz : nat_le x.rank z.rank ≡ false = grind (arith, nat_tests, up, lt) in
                rw (yz, xy) (rw (xz, yz) refl))
            | inr le ↦ (
                let xy : nat_le x.rank y.rank ≡ true = grind (arith, nat_tests, le) in
                rw (yz, xy) refl)
          ])
      | inr le ↦ (
          let yz : nat_le y.rank z.rank ≡ true = grind (arith, nat_tests, le) in
          elim (cases_lt y.rank x.rank) as (λ _. cond (nat_le x.rank (cond (nat_le y.rank z.rank) y z).rank) x
          (cond (nat_le y.rank z.rank) y z)
          ≡ cond (nat_le (cond (nat_le x.rank y.rank) x y).rank z.rank) (cond (nat_le x.rank y.rank) x y) z) [
            | inl up ↦ (
                let xy : nat_le x.rank y.rank ≡ false = grind (arith, nat_tests, up) in
                rw (yz, xy) (rw yz refl))
            | inr lower ↦ (
                let xy : nat_le x.rank y.rank ≡ true = grind (arith, nat_tests, lower) in
                let xz : nat_le x.rank z.rank ≡ true = grind (arith, nat_tests, lower, le) in
                rw (yz, xy) (rw xz refl))
          ])
    ]

-- the least of two lists
least_both : (xs ys : List CallItem) → least (xs ++ ys) ≡ lesser (least xs) (least ys)
least_both [] ys = refl
least_both (x ∷ xs) ys =
    ap (λ o. Some (lesser_by (λ (i : CallItem). i.rank) x o)) (least_both xs ys)
    ∙ (elim (least xs) as (λ o. Some (lesser_by (λ (i : CallItem). i.rank) x (lesser o (least ys)))
    ≡ lesser (Some (lesser_by (λ (i : CallItem). i.rank) x o)) (least ys)) [
      | None ↦ refl
      | Some y ↦ ap (λ (z : CallItem). Some z) (nested x y (least ys))
    ])

-- one that is due at a moment
abbrev due_only : ℕ → Option CallItem → Option CallItem
due_only now None = None
due_only now (Some i) = cond (nat_le i.rank now) (Some i) None

abbrev those_due : ℕ → List CallItem → List CallItem
those_due now is = filter (λ (i : CallItem). nat_le i.rank now) is

due_first : (now : ℕ) (x : CallItem) (o : Option CallItem) → nat_le x.rank now ≡ true →
    Some (lesser_by (λ (i : CallItem). i.rank) x (due_only now o))
    ≡ due_only now (Some (lesser_by (λ (i : CallItem). i.rank) x o))
due_first now x None t = sym (rw t refl)
due_first now x (Some y) t =
    elim (cases_lt now y.rank) as (λ _. Some (lesser_by (λ (i : CallItem). i.rank) x (due_only now (Some y)))
    ≡ due_only now (Some (lesser_by (λ (i : CallItem). i.rank) x (Some y)))) [
      | inl lt ↦ (
          let late : nat_le y.rank now ≡ false = grind (arith, nat_tests, lt) in
          let first : nat_le x.rank y.rank ≡ true = grind (arith, nat_tests, lt, t) in
          rw (late, first) (sym (rw t refl)))
      | inr le ↦ (
          let soon : nat_le y.rank now ≡ true = grind (arith, nat_tests, le) in
          rw soon (elim (nat_le x.rank y.rank) as (λ b. Some (cond b x y)
          ≡ cond (nat_le (cond b x y).rank now) (Some (cond b x y)) None) [
            | true ↦ sym (rw t refl)
            | false ↦ sym (rw soon refl)
          ]))
    ]

due_later : (now : ℕ) (x : CallItem) (o : Option CallItem) → nat_le x.rank now ≡ false →
    due_only now o ≡ due_only now (Some (lesser_by (λ (i : CallItem). i.rank) x o))
due_later now x None f = sym (rw f refl)
due_later now x (Some y) f =
    elim (cases_lt y.rank x.rank) as (λ _. due_only now (Some y)
    ≡ due_only now (Some (lesser_by (λ (i : CallItem). i.rank) x (Some y)))) [
      | inl lt ↦ (
          let first : nat_le x.rank y.rank ≡ false = grind (arith, nat_tests, lt) in
          rw first refl)
      | inr le ↦ (
          let first : nat_le x.rank y.rank ≡ true = grind (arith, nat_tests, le) in
          let late : nat_le y.rank now ≡ false = grind (arith, nat_tests, le, f) in
          rw (late, first) (sym (rw f refl)))
    ]

-- the least of those that are due is the least of all, where that is due
least_due : (now : ℕ) (is : List CallItem) → least (those_due now is) ≡ due_only now (least is)
least_due now [] = refl
least_due now (x ∷ xs) =
    let rest = least_due now xs in
    elim (cases_Bool (nat_le x.rank now)) as (λ _. least (those_due now (x ∷ xs)) ≡ due_only now (least (x ∷ xs))) [
      | inl t ↦ rw t (ap (λ o. Some (lesser_by (λ (i : CallItem). i.rank) x o)) rest ∙ due_first now x (least xs) t)
      | inr f ↦ rw f (rest ∙ due_later now x (least xs) f)
    ]

-- an acknowledgement as an item
abbrev ack_item : Option Owed → Option CallItem
ack_item None = None
ack_item (Some o) = Some (record { rank = o.rank; sending = items.Ack o.reason o.serial })

-- what is owed and a ping
acks_least : (client : Bool) (spoke : ℕ) (o : Option Owed) →
    least (ack_items o ++ ping_items client spoke) ≡ ack_item (first_ack client spoke o)
acks_least true spoke None = refl
acks_least false spoke None = refl
acks_least false spoke (Some o) = refl
acks_least true spoke (Some o) =
    elim (nat_le o.rank (ping_at spoke).rank) as (λ b. Some (cond b (item_of o) (item_of (ping_at spoke)))
    ≡ ack_item (Some (cond b o (ping_at spoke)))) [
      | true ↦ refl
      | false ↦ refl
    ]
  where
    item_of : Owed → CallItem
    item_of o = record { rank = o.rank; sending = items.Ack o.reason o.serial }

-- all items of a call
call_least : (client : Bool) (k : CallLooks) →
    least (call_items client k)
    ≡ lesser (least (piece_items k.rtt.rto k.cwnd k.sent)) (ack_item (first_ack client k.spoke k.owed_ack))
call_least client k =
    least_both (piece_items k.rtt.rto k.cwnd k.sent) (ack_items k.owed_ack ++ ping_items client k.spoke)
    ∙ ap (lesser (least (piece_items k.rtt.rto k.cwnd k.sent))) (acks_least client k.spoke k.owed_ack)

abbrev rank_in : Option CallItem → Option ℕ
rank_in o = option_map (λ (i : CallItem). i.rank) o

abbrev sending_in : Option CallItem → Option Sending
sending_in o = option_map (λ (i : CallItem). i.sending) o

-- ---- from when on something is due

-- the lesser rank
abbrev pub lesser_rank : Option ℕ → Option Owed → Option ℕ
lesser_rank None None = None
lesser_rank None (Some a) = Some a.rank
lesser_rank (Some p) None = Some p
lesser_rank (Some p) (Some a) = Some (min p a.rank)

pub rank_alone : (p : Option ℕ) → lesser_rank p None ≡ p
rank_alone None = refl
rank_alone (Some p) = refl

rank_lesser : (p : Option CallItem) (a : Option Owed) → rank_in (lesser p (ack_item a)) ≡ lesser_rank (rank_in p) a
rank_lesser None None = refl
rank_lesser None (Some a) = refl
rank_lesser (Some i) None = refl
rank_lesser (Some i) (Some a) =
    elim (cases_lt a.rank i.rank) as (λ _. rank_in (lesser (Some i) (ack_item (Some a))) ≡ Some (min i.rank a.rank)) [
      | inl lt ↦ (
          let first : nat_le i.rank a.rank ≡ false = grind (arith, nat_tests, lt) in
          let is : a.rank ≡ min i.rank a.rank = omega (arith, lt) in
          rw first (ap (λ (n : ℕ). Some n) is))
      | inr le ↦ (
          let first : nat_le i.rank a.rank ≡ true = grind (arith, nat_tests, le) in
          let is : i.rank ≡ min i.rank a.rank = omega (arith, le) in
          rw first (ap (λ (n : ℕ). Some n) is))
    ]

pub due_is : (client : Bool) (k : CallLooks) →
    call_due client k ≡ lesser_rank (least_piece k) (first_ack client k.spoke k.owed_ack)
due_is client k =
    ap rank_in (call_least client k)
    ∙ rank_lesser (least (piece_items k.rtt.rto k.cwnd k.sent)) (first_ack client k.spoke k.owed_ack)

-- ---- what is given next

-- the acknowledgement is given before the piece
abbrev pub ack_given : ℕ → Option ℕ → Option Owed → Option Owed
ack_given now p None = None
ack_given now None (Some a) = cond (nat_le a.rank now) (Some a) None
ack_given now (Some p) (Some a) = cond (nat_le a.rank now) (cond (nat_le p a.rank) None (Some a)) None

sending_lesser : (now : ℕ) (p : Option CallItem) (a : Option Owed) →
    sending_in (due_only now (lesser p (ack_item a))) ≡ chosen_by (ack_given now (rank_in p) a)
    (sending_in (due_only now p))
sending_lesser now None None = refl
sending_lesser now None (Some a) =
    elim (nat_le a.rank now) as (λ b. sending_in (cond b (ack_item (Some a)) None)
    ≡ chosen_by (cond b (Some a) None) None) [
      | true ↦ refl
      | false ↦ refl
    ]
sending_lesser now (Some i) None = refl
sending_lesser now (Some i) (Some a) =
    elim (cases_lt a.rank i.rank) as (λ _. sending_in (due_only now (lesser (Some i) (ack_item (Some a))))
    ≡ chosen_by (ack_given now (Some i.rank) (Some a)) (sending_in (due_only now (Some i)))) [
      | inl lt ↦ (
          let first : nat_le i.rank a.rank ≡ false = grind (arith, nat_tests, lt) in
          rw first (elim (cases_lt now a.rank) as (λ _. sending_in (due_only now (ack_item (Some a)))
          ≡ chosen_by (cond (nat_le a.rank now) (Some a) None) (sending_in (due_only now (Some i)))) [
            | inl late ↦ (
                let hidden : nat_le a.rank now ≡ false = grind (arith, nat_tests, late) in
                let later : nat_le i.rank now ≡ false = grind (arith, nat_tests, late, lt) in
                rw (hidden, later) refl)
            | inr soon ↦ (let shown : nat_le a.rank now ≡ true = grind (arith, nat_tests, soon) in rw shown refl)
          ]))
      | inr le ↦ (
          let first : nat_le i.rank a.rank ≡ true = grind (arith, nat_tests, le) in
          rw first (elim (nat_le a.rank now) as (λ b. sending_in (due_only now (Some i))
          ≡ chosen_by (cond b None None) (sending_in (due_only now (Some i)))) [
            | true ↦ refl
            | false ↦ refl
          ]))
    ]

pub next_is : (v : NodeView) (k : CallLooks) →
    next_sending v k ≡ chosen_by (ack_given v.now (least_piece k) (first_ack v.client k.spoke k.owed_ack))
    (piece_sending v.now k)
next_is v k =
    let pieces = piece_items k.rtt.rto k.cwnd k.sent in
    let a = first_ack v.client k.spoke k.owed_ack in
    ap sending_in (least_due v.now (call_items v.client k) ∙ ap (due_only v.now) (call_least v.client k))
    ∙ sending_lesser v.now (least pieces) a
    ∙ ap (λ o. chosen_by (ack_given v.now (least_piece k) a) (sending_in o)) (sym (least_due v.now pieces))

-- ---- which of the two it is

pub piece_first : (now p : ℕ) (a : Owed) → p ≤ a.rank → ack_given now (Some p) (Some a) ≡ None
piece_first now p a le =
    let first : nat_le p a.rank ≡ true = grind (arith, nat_tests, le) in
    rw first (elim (nat_le a.rank now) as (λ b. ◌≡◌ {A = Option Owed} (cond b None None) None) [
      | true ↦ refl
      | false ↦ refl
    ])

pub ack_first : (now p : ℕ) (a : Owed) → a.rank ≤ now → a.rank < p → ack_given now (Some p) (Some a) ≡ Some a
ack_first now p a le lt =
    let due : nat_le a.rank now ≡ true = grind (arith, nat_tests, le) in
    let first : nat_le p a.rank ≡ false = grind (arith, nat_tests, lt) in
    rw (due, first) refl

pub ack_later : (now : ℕ) (p : Option ℕ) (a : Owed) → now < a.rank → ack_given now p (Some a) ≡ None
ack_later now p a lt =
    let late : nat_le a.rank now ≡ false = grind (arith, nat_tests, lt) in
    elim p as (λ o. ack_given now o (Some a) ≡ None) [
      | None ↦ rw late refl
      | Some rank ↦ rw late refl
    ]

pub ack_alone : (now : ℕ) (a : Owed) → a.rank ≤ now → ack_given now None (Some a) ≡ Some a
ack_alone now a le =
    let due : nat_le a.rank now ≡ true = grind (arith, nat_tests, le) in
    rw due refl
