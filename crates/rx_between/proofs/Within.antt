-- What an end gave lies within the window of the other: a fresh piece is given only where the peer's window lets it go.
use Rattle.std.proofs.Common.{◌≡◌, ◌⊎◌, ◌≤◌, ◌<◌, ◌+◌, ◌++◌, cond, if◌then◌else◌, filter, max, nat_le, nat_lt, not, ℕ}
use Rattle.std.proofs.Common.{suc}
use Rattle.std.proofs.Common.{Bool, true, false, List, [], ◌∷◌, Option, Some, None, option_map, is_some, refl, ◌∙◌, ap}
use Rattle.std.proofs.Common.{sym}
use Rattle.std.proofs.Common.{subst, arith, inl, inr, ⊎_elim, ◌==◌}
use Rattle.std.proofs.lemmas.Bool.{and_parts}
use Rattle.std.proofs.lemmas.Bool.Decides.{nat_tests}
use Rattle.rx_model.specs.declared.event.Event.{Event}
use Rattle.rx_model.specs.declared.names.CallName.{CallName}
use Rattle.rx_model.proofs.NameLaws.{same_number}
use Rattle.rx_rules.specs.After.{looks}
use Rattle.rx_rules.specs.CallItems.{CallItem, Sending, Piece, Ack, ack_items, after_sending, again_items, call_items}
use Rattle.rx_rules.specs.CallItems.{can_give, fresh_items, lost_items, next_sending, piece_items, ping_items}
use Rattle.rx_rules.specs.CallLooks.{CallLooks, NodeView}
use Rattle.rx_rules.specs.Least.{least_by}
use Rattle.rx_rules.specs.Looks.{Looks, call_at}
use Rattle.rx_rules.specs.Lost.{first_lost, is_late, is_overtaken, late_of, lost_of, lowest_to, overtaken_of, under_way}
use Rattle.rx_rules.specs.Owing.{Owed}
use Rattle.rx_rules.specs.Rates.{Cwnd}
use Rattle.rx_rules.specs.Received.{reach}
use Rattle.rx_rules.specs.Sent.{Giving, LastGiving, Sent, counting_of, in_flight, orders_of, given_of, greatest_given}
use Rattle.rx_rules.specs.Sent.{is_let, last_giving, lowest_of}
use Rattle.rx_rules.specs.Setup.{Setup}
use Rattle.rx_between.specs.Acknowledged.{sent_by}
use Rattle.rx_between.proofs.Each.EachItem.{In, least_in}
use Rattle.rx_between.proofs.Each.EachStep.{EndStep, finishes, gives, reads, shuts, stays, takes, writes}
use Rattle.rx_between.proofs.GivenSeqs.{taken_givings}
use Rattle.rx_between.proofs.Histories.{StepOf}
use Rattle.rx_between.proofs.Onward.{end_by, sent_is}

-- ---- items

pub in_filtered : {X : Type 0} (p : X → Bool) (x : X) (xs : List X) → In x (filter p xs) → In x xs
in_filtered p x [] there = absurd there
in_filtered {X = X} p x (y ∷ ys) there =
    (elim (p y) as (λ b. In x (cond b (y ∷ filter p ys) (filter p ys)) → In x (y ∷ ys)) [
      | true ↦ λ is. ⊎_elim (λ (same : x ≡ y). inl same) (λ (rest : In x (filter p ys)). inr (in_filtered p x ys rest))
          is
      | false ↦ λ is. inr (in_filtered p x ys is)
    ]) there

pub in_either : {X : Type 0} (x : X) (xs ys : List X) → In x (xs ++ ys) → In x xs ⊎ In x ys
in_either x [] ys there = inr there
in_either {X = X} x (z ∷ xs) ys there =
    ⊎_elim (λ (same : x ≡ z). inl (inl same))
    (λ (rest : In x (xs ++ ys)).
    ⊎_elim (λ (front : In x xs). inl (inr front)) (λ (behind : In x ys). inr behind) (in_either x xs ys rest)) there

-- a piece that may be given: one that was given before, or the next, where the peer's window lets it go
abbrev pub MayGive : Sent → Sending → Type 0
MayGive s (Piece seq again) = (seq ≤ given_of s) ⊎ ((seq ≡ suc (given_of s)) × (is_let s seq ≡ true))
MayGive s (Ack reason serial) = Unit {0}

one_item : (s : Sent) (i : CallItem) (rank : ℕ) (x : Sending) → In i (record { rank = rank; sending = x } ∷ [])
    → MayGive s x → MayGive s i.sending
one_item s i rank x there may =
    ⊎_elim (λ (same : i ≡ record { rank = rank; sending = x }). subst (λ (j : CallItem). MayGive s j.sending) (sym same)
    may)
    (λ (none : ⊥). absurd none) there

lowest_low : (test : ℕ → Bool) (n k : ℕ) → lowest_to test n ≡ Some k → k ≤ n
lowest_low test n k is = of (nat_lt (reach (λ j. not (test j)) n) n) refl is
  where
    some_is : (a b : ℕ) → ◌≡◌ {A = Option ℕ} (Some a) (Some b) → a ≡ b
    some_is a b same = cc

    of : (b : Bool) → nat_lt (reach (λ j. not (test j)) n) n ≡ b
        → (if b then Some (suc (reach (λ j. not (test j)) n)) else None) ≡ Some k → k ≤ n
    of true low is =
        (let same = some_is (suc (reach (λ j. not (test j)) n)) k is in
        let below : reach (λ j. not (test j)) n < n = grind (arith, nat_tests) in
        omega arith)
    of false low is = absurd cc

lost_low : (c : Cwnd) (s : Sent) (k : ℕ) → lost_of c s ≡ Some k → k ≤ given_of s
lost_low c s k is = by c.prompt is
  where
    either : (a b : Option ℕ) → ((j : ℕ) → a ≡ Some j → j ≤ given_of s) → ((j : ℕ) → b ≡ Some j → j ≤ given_of s)
        → first_lost a b ≡ Some k → k ≤ given_of s
    either None b low_a low_b is = low_b k is
    either (Some j) b low_a low_b is = low_a k is

    late : (b : Bool) (j : ℕ) → (if b then late_of s else None) ≡ Some j → j ≤ given_of s
    late true j is = lowest_low (is_late s) (given_of s) j is
    late false j is = absurd cc

    by : (b : Bool)
        → (if b then first_lost (overtaken_of s) (if nat_lt (under_way s) c.window then late_of s else None) else None)
        ≡ Some k → k ≤ given_of s
    by true is =
        either (overtaken_of s) (if nat_lt (under_way s) c.window then late_of s else None)
        (λ j is. lowest_low (is_overtaken s) (given_of s) j is) (λ j is. late (nat_lt (under_way s) c.window) j is) is
    by false is = absurd cc

lost_may : (s : Sent) (i : CallItem) (o : Option ℕ) → ((k : ℕ) → o ≡ Some k → k ≤ given_of s) → In i (lost_items o)
    → MayGive s i.sending
lost_may s i None low there = absurd there
lost_may s i (Some k) low there = one_item s i 0 (Piece k true) there (inl (low k refl))

fresh_may : (c : Cwnd) (s : Sent) (i : CallItem) → In i (fresh_items c s) → MayGive s i.sending
fresh_may c s i there = of (can_give c s) refl there
  where
    of : (b : Bool) → can_give c s ≡ b
        → In i (if b then record { rank = 0; sending = Piece (suc (given_of s)) false } ∷ [] else [])
        → MayGive s i.sending
    of true can there =
        (let parts = and_parts (nat_lt (given_of s) (counting_of s)) _ can in
        let lets = and_parts (nat_lt (in_flight s) c.window) (is_let s (suc (given_of s))) parts.1 in
        one_item s i 0 (Piece (suc (given_of s)) false) there (inr (refl, lets.1)))
    of false can there = absurd there

given_low : (gs : List Giving) (k : ℕ) → is_some (last_giving gs k) ≡ true → k ≤ greatest_given gs
given_low [] k there = absurd cc
given_low (g ∷ gs) k there = of (λ is. given_low gs k is) (g.seq == k) refl there
  where
    of : (is_some (last_giving gs k) ≡ true → k ≤ greatest_given gs) → (b : Bool) → (g.seq == k) ≡ b
        → is_some (if b then Some (record {
          moment = g.moment;
          again = is_some (last_giving gs k);
          order = suc (orders_of gs);
        }) else last_giving gs k) ≡ true → k ≤ max g.seq (greatest_given gs)
    of rest true same there = (let is : g.seq ≡ k = same_number g.seq k same in omega arith)
    of rest false other there = (let low = rest there in omega arith)

again_may : (s : Sent) (i : CallItem) (wait k : ℕ) (g : Option LastGiving)
    → (is_some g ≡ true → k ≤ given_of s) → In i (again_items wait k g) → MayGive s i.sending
again_may s i wait k None low there = absurd there
again_may s i wait k (Some g) low there = one_item s i (g.moment + wait) (Piece k true) there (inl (low refl))

ack_may : (s : Sent) (i : CallItem) (o : Option Owed) → In i (ack_items o) → MayGive s i.sending
ack_may s i None there = absurd there
ack_may s i (Some owed) there = one_item s i owed.rank (Ack owed.reason owed.serial) there tt

ping_may : (s : Sent) (i : CallItem) (client : Bool) (spoke : ℕ) → In i (ping_items client spoke) → MayGive s i.sending
ping_may s i true spoke there = one_item s i _ (Ack _ 0) there tt
ping_may s i false spoke there = absurd there

items_may : (client : Bool) (k : CallLooks) (i : CallItem) → In i (call_items client k) → MayGive k.sent i.sending
items_may client k i there =
    ⊎_elim
    (λ (pieces : In i (piece_items k.rtt.rto k.cwnd k.sent)).
    ⊎_elim (λ (lost : In i (lost_items (lost_of k.cwnd k.sent))). lost_may k.sent i (lost_of k.cwnd k.sent)
    (lost_low k.cwnd k.sent) lost)
    (λ (others : In i (fresh_items k.cwnd k.sent ++ _)).
    ⊎_elim (λ (fresh : In i (fresh_items k.cwnd k.sent)). fresh_may k.cwnd k.sent i fresh)
    (λ (again : In i (again_items _ (lowest_of k.sent) (last_giving k.sent.givings (lowest_of k.sent)))).
    again_may k.sent i _ (lowest_of k.sent) (last_giving k.sent.givings (lowest_of k.sent))
    (given_low k.sent.givings (lowest_of k.sent)) again)
    (in_either i (fresh_items k.cwnd k.sent) _ others))
    (in_either i (lost_items (lost_of k.cwnd k.sent)) _ pieces))
    (λ (rest : In i (ack_items k.owed_ack ++ ping_items client k.spoke)).
    ⊎_elim (λ (ack : In i (ack_items k.owed_ack)). ack_may k.sent i k.owed_ack ack)
    (λ (ping : In i (ping_items client k.spoke)). ping_may k.sent i client k.spoke ping)
    (in_either i (ack_items k.owed_ack) (ping_items client k.spoke) rest))
    (in_either i (piece_items k.rtt.rto k.cwnd k.sent) (ack_items k.owed_ack ++ ping_items client k.spoke) there)

-- what an end gives next
pub next_may : (v : NodeView) (k : CallLooks) (x : Sending) → next_sending v k ≡ Some x → MayGive k.sent x
next_may v k x is = of (least_by (λ (i : CallItem). i.rank) due) refl is
  where
    due : List CallItem
    due = filter (λ (i : CallItem). nat_le i.rank v.now) (call_items v.client k)

    some_is : (a b : Sending) → ◌≡◌ {A = Option Sending} (Some a) (Some b) → a ≡ b
    some_is a b same = cc

    of : (o : Option CallItem) → least_by (λ (i : CallItem). i.rank) due ≡ o
        → option_map (λ (i : CallItem). i.sending) o ≡ Some x → MayGive k.sent x
    of None least is = absurd cc
    of (Some i) least is =
        subst (MayGive k.sent) (some_is i.sending x is)
        (items_may v.client k i
        (in_filtered (λ (i : CallItem). nat_le i.rank v.now) i (call_items v.client k)
        (least_in (λ (i : CallItem). i.rank) i due least)))

-- ---- a step of the sender

-- it gave no more than the peer's window lets go
sending_within : (now : ℕ) (x : Sending) (k : CallLooks) (top : ℕ) → MayGive k.sent x → given_of k.sent ≤ top
    → k.sent.acked + k.sent.peer_window ≤ top → given_of (after_sending now x k).sent ≤ top
sending_within now (Piece seq again) k top (inl before) low lets = omega (arith, before, low)
sending_within now (Piece seq again) k top (inr (next, is_let_)) low lets =
    (let within : seq ≤ k.sent.acked + k.sent.peer_window = grind (arith, nat_tests) in omega
    (arith, within, lets, low))
sending_within now (Ack reason serial) k top may low lets = low

same_within : (a b : CallLooks) (top : ℕ) → b.sent.givings ≡ a.sent.givings → given_of a.sent ≤ top
    → given_of b.sent ≤ top
same_within a b top same low = subst (λ (gs : List Giving). greatest_given gs ≤ top) (sym same) low

end_within : (s : Setup) (l : Looks) (e : Event) (c : CallName) (a b : CallLooks) (top : ℕ) → EndStep s l e c a b
    → given_of a.sent ≤ top → a.sent.acked + a.sent.peer_window ≤ top → given_of b.sent ≤ top
end_within s l e c a b top (stays is) low lets = same_within a b top (ap (λ (k : CallLooks). k.sent.givings) is) low
end_within s l e c a b top (takes t) low lets =
    same_within a b top (ap (λ (k : CallLooks). k.sent.givings) t.is ∙ taken_givings t.view t.got t.message a) low
end_within s l e c a b top (gives g) low lets =
    subst (λ (k : CallLooks). given_of k.sent ≤ top) (sym g.is)
    (sending_within l.now g.sending a top (next_may g.view a g.sending g.next) low lets)
end_within s l e c a b top (writes offered got bytes event is) low lets =
    same_within a b top (ap (λ (k : CallLooks). k.sent.givings) is) low
end_within s l e c a b top (reads most got bytes event is) low lets =
    same_within a b top (ap (λ (k : CallLooks). k.sent.givings) is) low
end_within s l e c a b top (shuts event is) low lets =
    same_within a b top (ap (λ (k : CallLooks). k.sent.givings) is) low
end_within s l e c a b top (finishes code event zero' is) low lets =
    same_within a b top (ap (λ (k : CallLooks). k.sent.givings) is) low

-- of a call that is looked for
pub within_step : (s : Setup) (e : Event) (h : List Event) (c : CallName) (top : ℕ) → StepOf s e h c
    → given_of (sent_by (call_at (looks s h) c)) ≤ top
    → (sent_by (call_at (looks s h) c)).acked + (sent_by (call_at (looks s h) c)).peer_window ≤ top
    → given_of (sent_by (call_at (looks s (e ∷ h)) c)) ≤ top
within_step s e h c top step low lets =
    let l : Looks = looks s h in
    subst (λ (x : Sent). given_of x ≤ top) (sent_is s l.now (call_at (looks s (e ∷ h)) c))
    (end_within s l e c (end_by s l.now (call_at l c)) (end_by s l.now (call_at (looks s (e ∷ h)) c)) top step
    (subst (λ (x : Sent). given_of x ≤ top) (sym (sent_is s l.now (call_at l c))) low)
    (subst (λ (x : Sent). x.acked + x.peer_window ≤ top) (sym (sent_is s l.now (call_at l c))) lets))
