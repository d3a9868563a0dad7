-- The piece that a sending window gives next, as the rules have it.
use Rattle.std.proofs.Common.{◌≡◌, ◌&&◌, not, nat_le, cond, true, false, ℕ, suc, ap}
use Rattle.std.proofs.Common.{List, [], ◌∷◌, ◌++◌, Option, Some, None, refl, sym, arith}
use Rattle.std.specs.Prelude.{filter, option_map, option_and_then}
use Rattle.std.proofs.lemmas.Bool.Decides.{nat_tests}
use Rattle.rx_rules.specs.CallItems.{CallItem, Sending, piece_items, lost_items, fresh_items, again_items, can_give}
use Rattle.rx_rules.specs.CallItems.{asks, resend_after}
use Rattle.rx_rules.specs.CallItems as items
use Rattle.rx_rules.specs.CallLooks.{CallLooks}
use Rattle.rx_rules.specs.Least.{least_by, lesser_by}
use Rattle.rx_rules.specs.Lost.{lost_of, is_lost, halves}
use Rattle.rx_rules.specs.Rates.{Cwnd}
use Rattle.rx_rules.specs.Sent.{Sent, LastGiving, given_of, last_giving, lowest_of}
use Rattle.rx_rules.proofs.LostLaws.{lost_within}
use Rattle.rx_rules.proofs.SentLaws.{given-within}
use Rattle.rx_sendwin.specs.declared.next.NextPiece.{NextPiece}
use Rattle.rx_sendwin.specs.Next.{next_piece_item, next_piece, piece_of}
use Rattle.rx_call.specs.Choosing.{piece_sending}

-- it is a piece, and again says whether it was given before
abbrev IsRight : Sent → Sending → Type 0
IsRight s (items.Piece seq again) = again ≡ nat_le seq (given_of s)
IsRight s (items.Ack reason serial) = ⊥

abbrev AllRight : Sent → List CallItem → Type 0
AllRight s [] = Unit {0}
AllRight s (i ∷ is) = IsRight s i.sending × AllRight s is

abbrev RightItem : Sent → Option CallItem → Type 0
RightItem s None = Unit {0}
RightItem s (Some i) = IsRight s i.sending

right_least : (s : Sent) (is : List CallItem) → AllRight s is → RightItem s (least_by (λ (i : CallItem). i.rank) is)
right_least s [] a = tt
right_least s (x ∷ xs) a =
    lesser x (least_by (λ (i : CallItem). i.rank) xs) a.0 (right_least s xs a.1)
  where
    lesser : (x : CallItem) (o : Option CallItem) → IsRight s x.sending → RightItem s o →
        IsRight s (lesser_by (λ (i : CallItem). i.rank) x o).sending
    lesser x None one other = one
    lesser x (Some y) one other =
        elim (nat_le x.rank y.rank) as (λ b. IsRight s (cond b x y).sending) [
          | true ↦ one
          | false ↦ other
        ]

right_due : (s : Sent) (now : ℕ) (is : List CallItem) → AllRight s is →
    AllRight s (filter (λ (i : CallItem). nat_le i.rank now) is)
right_due s now [] a = tt
right_due s now (x ∷ xs) a =
    let rest = right_due s now xs a.1 in
    let due : List CallItem = filter (λ (i : CallItem). nat_le i.rank now) xs in
    elim (nat_le x.rank now) as (λ b. AllRight s (cond b (x ∷ due) due)) [
      | true ↦ (a.0, rest)
      | false ↦ rest
    ]

right_again : (s : Sent) (wait : ℕ) (o : Option LastGiving) → last_giving s.givings (lowest_of s) ≡ o →
    AllRight s (again_items wait (lowest_of s) o)
right_again s wait None is = tt
right_again s wait (Some g) is =
    let most = given-within s.givings (lowest_of s) g is in
    let test : nat_le (lowest_of s) (given_of s) ≡ true = grind (arith, nat_tests, most) in
    (sym test, tt)

right_lost : (c : Cwnd) (s : Sent) (o : Option ℕ) → lost_of c s ≡ o → AllRight s (lost_items o)
right_lost c s None is = tt
right_lost c s (Some k) is =
    let given = lost_within c s k is in
    let at = given.is in
    let low = given.low in
    let test : nat_le k (given_of s) ≡ true = grind (arith, nat_tests, at, low) in
    (sym test, tt)

right_both : (s : Sent) (is js : List CallItem) → AllRight s is → AllRight s js → AllRight s (is ++ js)
right_both s [] js a b = b
right_both s (i ∷ is) js a b = (a.0, right_both s is js a.1 b)

right_pieces : (rto : ℕ) (c : Cwnd) (s : Sent) → AllRight s (piece_items rto c s)
right_pieces rto c s =
    let given : Option LastGiving = last_giving s.givings (lowest_of s) in
    let rest = right_again s (resend_after rto c.prompt given) given refl in
    let again : List CallItem = again_items (resend_after rto c.prompt given) (lowest_of s) given in
    let fresh : CallItem = record { rank = 0; sending = items.Piece (suc (given_of s)) false } in
    let test : nat_le (suc (given_of s)) (given_of s) ≡ false = grind (arith, nat_tests) in
    right_both s (lost_items (lost_of c s)) (fresh_items c s ++ again) (right_lost c s (lost_of c s) refl)
    (elim (can_give c s) as (λ b. AllRight s (cond b (fresh ∷ []) [] ++ again)) [
      | true ↦ (sym test, rest)
      | false ↦ rest
    ])

-- the sending of a piece that the window tells
abbrev pub told : Option NextPiece → Option Sending
told None = None
told (Some p) = Some (items.Piece p.seq p.again)

-- what the window tells of it is right
abbrev pub IsTold : Cwnd → Sent → Option NextPiece → Type 0
IsTold c s None = Unit {0}
IsTold c s (Some p) =
    (p.asks ≡ asks c s p.seq p.again)
    × (p.up ≡ (nat_le p.seq (given_of s) && not (is_lost c s p.seq)))
    × (p.half ≡ halves c s p.seq)

told_one : (c : Cwnd) (s : Sent) (x : Sending) → IsRight s x →
    (Some x ≡ told (piece_of c s x)) × IsTold c s (piece_of c s x)
told_one c s (items.Piece seq again) r = (refl, (refl, ap (λ b. b && not (is_lost c s seq)) r, refl))
told_one c s (items.Ack reason serial) r = absurd r

told_item : (c : Cwnd) (s : Sent) (o : Option CallItem) → RightItem s o →
    (option_map (λ (i : CallItem). i.sending) o ≡ told (option_and_then (λ (i : CallItem). piece_of c s i.sending) o))
    × IsTold c s (option_and_then (λ (i : CallItem). piece_of c s i.sending) o)
told_item c s None r = (refl, tt)
told_item c s (Some i) r = told_one c s i.sending r

-- what the window gives next is what the rules give
pub next_told : (now : ℕ) (k : CallLooks) → let n = next_piece now k.rtt.rto k.cwnd k.sent in
    (piece_sending now k ≡ told n) × IsTold k.cwnd k.sent n
next_told now k =
    let pieces = piece_items k.rtt.rto k.cwnd k.sent in
    told_item k.cwnd k.sent (next_piece_item now k.rtt.rto k.cwnd k.sent)
    (right_least k.sent (filter (λ (i : CallItem). nat_le i.rank now) pieces)
    (right_due k.sent now pieces (right_pieces k.rtt.rto k.cwnd k.sent)))
