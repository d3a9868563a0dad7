-- The piece that is due, by its cases.
use Rattle.std.proofs.Common.{◌==◌, not, ◌≡◌, ◌∙◌, ◌+◌, ◌<◌, ◌≤◌, ◌++◌, ◌∷◌, [], List, nat_le, suc, ap, sym, cond}
use Rattle.std.proofs.Common.{true, false}
use Rattle.std.proofs.Common.{Bool, ℕ}
use Rattle.std.proofs.Common.{Option, Some, None, arith, refl, ◌||◌, is_some}
use Rattle.std.proofs.lemmas.Bool.{false≢true}
use Rattle.std.specs.Prelude.{filter, option_map, option_and_then}
use Rattle.std.proofs.lemmas.Bool.Decides.{nat_tests}
use Rattle.rx_rules.specs.CallItems.{CallItem, Sending, can_give, lost_items, again_items, asks, resend_after}
use Rattle.rx_rules.specs.CallItems as items
use Rattle.rx_rules.specs.Least.{least_by, lesser_by}
use Rattle.rx_rules.specs.Lost.{lost_of, is_lost, is_piece, halves}
use Rattle.rx_rules.specs.Rates.{Cwnd}
use Rattle.rx_rules.specs.Sent.{Sent, LastGiving, lowest_of, given_of, piece_at}
use Rattle.rx_sendwin.specs.declared.next.NextPiece.{NextPiece}
use Rattle.rx_sendwin.proofs.LostLaws.{halves_none}
use Rattle.rx_sendwin.specs.Next.{next_piece, least_rank, again_of, piece_of}

-- the item of the lowest piece that was never given
abbrev pub fresh_item : Sent → CallItem
fresh_item s = record { rank = 0; sending = items.Piece (suc (given_of s)) false }

-- that of the lowest piece that isn't acknowledged
abbrev pub again_item : ℕ → Sent → LastGiving → CallItem
again_item wait s g = record { rank = g.moment + wait; sending = items.Piece (lowest_of s) true }

-- an item of rank 0 is the least
first_least : (x : CallItem) (o : Option CallItem) → x.rank ≡ 0 → lesser_by (λ (i : CallItem). i.rank) x o ≡ x
first_least x None zero_rank = refl
first_least x (Some y) zero_rank =
    let yes : nat_le x.rank y.rank ≡ true = grind (arith, nat_tests, zero_rank) in
    ap (λ b. cond b x y) yes

-- that of the piece that is taken for lost
abbrev pub lost_item : ℕ → CallItem
lost_item k = record { rank = 0; sending = items.Piece k true }

-- what a list of items makes due
abbrev pub piece_by : ℕ → Cwnd → Sent → List CallItem → Option NextPiece
piece_by now c s is =
    option_and_then (λ (i : CallItem). piece_of c s i.sending)
    (least_by (λ (i : CallItem). i.rank) (filter (λ (i : CallItem). nat_le i.rank now) is))

abbrev pub rank_by : List CallItem → Option ℕ
rank_by is = option_map (λ (i : CallItem). i.rank) (least_by (λ (i : CallItem). i.rank) is)

-- the items where a piece is lost, and where a new one is due
abbrev pub items_by : Option ℕ → Bool → ℕ → Cwnd → Sent → Option LastGiving → List CallItem
items_by lost fresh rto c s g =
    lost_items lost ++ (cond fresh (fresh_item s ∷ []) [] ++ again_items (resend_after rto c.prompt g) (lowest_of s) g)

at_once : (now : ℕ) (c : Cwnd) (s : Sent) (x : CallItem) (rest : List CallItem) → x.rank ≡ 0 →
    piece_by now c s (x ∷ rest) ≡ piece_of c s x.sending
at_once now c s x rest first =
    let yes : nat_le x.rank now ≡ true = grind (arith, nat_tests, first) in
    let due : List CallItem = filter (λ (i : CallItem). nat_le i.rank now) rest in
    let least = least_by (λ (i : CallItem). i.rank) due in
    let given = λ (i : CallItem). piece_of c s i.sending in
    ap (λ b. option_and_then given (least_by (λ (i : CallItem). i.rank) (cond b (x ∷ due) due))) yes
    ∙ ap given (first_least x least first)

or_true : (b : Bool) → (b || true) ≡ true
or_true true = refl
or_true false = refl

-- a piece is lost
pub next_lost : (now rto : ℕ) (c : Cwnd) (s : Sent) (seq : ℕ) (half : Bool) → lost_of c s ≡ Some seq →
    half ≡ halves c s seq →
    ◌≡◌ {A = Option NextPiece} (Some (record { seq = seq; again = true; asks = true; up = false; half = half }))
    (next_piece now rto c s)
next_lost now rto c s seq half is closes =
    let asked : asks c s seq true ≡ true = or_true (piece_at s seq).last in
    let own : (seq == seq) ≡ true = grind (arith, nat_tests) in
    let lost : not (is_lost c s seq) ≡ false = ap (λ o. not (is_piece o seq)) is ∙ ap not own in
    (λ i. Some (record { seq = seq; again = true; asks = sym asked i; up = sym lost i; half = closes i }))
    ∙ sym (ap (λ o. piece_by now c s (items_by o (can_give c s) rto c s (again_of s))) is
    ∙ at_once now c s (lost_item seq) (items_by None (can_give c s) rto c s (again_of s)) refl)

-- none is lost, and a new one is due
pub next_fresh : (now rto : ℕ) (c : Cwnd) (s : Sent) (seq : ℕ) (asking : Bool) → lost_of c s ≡ None →
    can_give c s ≡ true → seq ≡ given_of s + 1 → asking ≡ asks c s (suc (given_of s)) false →
    ◌≡◌ {A = Option NextPiece} (Some (record { seq = seq; again = false; asks = asking; up = false; half = false }))
    (next_piece now rto c s)
next_fresh now rto c s seq asking none fresh is asked =
    let at : seq ≡ suc (given_of s) = omega (arith, is) in
    (λ i. Some (record {
      seq = at i;
      again = false;
      asks = asked i;
      up = false;
      half = sym (halves_none c s (suc (given_of s)) none) i;
    }))
    ∙ sym ((λ i. piece_by now c s (items_by (none i) (fresh i) rto c s (again_of s)))
    ∙ at_once now c s (fresh_item s) (again_items (resend_after rto c.prompt (again_of s)) (lowest_of s) (again_of s))
    refl)

-- where neither is so, the lowest one that isn't acknowledged decides
later : (now rto : ℕ) (c : Cwnd) (s : Sent) (g : Option LastGiving) → lost_of c s ≡ None → can_give c s ≡ false →
    again_of s ≡ g → next_piece now rto c s ≡ piece_by now c s
    (again_items (resend_after rto c.prompt g) (lowest_of s) g)
later now rto c s g none fresh given = λ i. piece_by now c s (items_by (none i) (fresh i) rto c s (given i))

pub next_due : (now rto : ℕ) (c : Cwnd) (s : Sent) (seq : ℕ) (g : LastGiving) → lost_of c s ≡ None →
    can_give c s ≡ false → seq ≡ lowest_of s → again_of s ≡ Some g
    → g.moment + resend_after rto c.prompt (Some g) ≤ now →
    ◌≡◌ {A = Option NextPiece} (Some (record { seq = seq; again = true; asks = true; up = true; half = false }))
    (next_piece now rto c s)
next_due now rto c s seq g none fresh is given le =
    let test : nat_le (g.moment + resend_after rto c.prompt (Some g)) now ≡ true = grind (arith, nat_tests, le) in
    let item : List CallItem = again_item (resend_after rto c.prompt (Some g)) s g ∷ [] in
    let asked : asks c s (lowest_of s) true ≡ true = or_true (piece_at s (lowest_of s)).last in
    let lost : not (is_lost c s (lowest_of s)) ≡ true = ap (λ o. not (is_piece o (lowest_of s))) none in
    (λ i. Some (record {
      seq = is i;
      again = true;
      asks = sym asked i;
      up = sym lost i;
      half = sym (halves_none c s (lowest_of s) none) i;
    }))
    ∙ sym (later now rto c s (Some g) none fresh given
    ∙ ap (λ b. option_and_then (λ (i : CallItem). piece_of c s i.sending)
    (least_by (λ (i : CallItem). i.rank) (cond b item []))) test)

pub next_waits : (now rto : ℕ) (c : Cwnd) (s : Sent) (g : LastGiving) → lost_of c s ≡ None → can_give c s ≡ false →
    again_of s ≡ Some g → now < g.moment + resend_after rto c.prompt (Some g)
    → ◌≡◌ {A = Option NextPiece} None (next_piece now rto c s)
next_waits now rto c s g none fresh given lt =
    let test : nat_le (g.moment + resend_after rto c.prompt (Some g)) now ≡ false = grind (arith, nat_tests, lt) in
    let item : List CallItem = again_item (resend_after rto c.prompt (Some g)) s g ∷ [] in
    sym (later now rto c s (Some g) none fresh given
    ∙ ap (λ b. option_and_then (λ (i : CallItem). piece_of c s i.sending)
    (least_by (λ (i : CallItem). i.rank) (cond b item []))) test)

pub next_none : (now rto : ℕ) (c : Cwnd) (s : Sent) → lost_of c s ≡ None → can_give c s ≡ false →
    again_of s ≡ None → ◌≡◌ {A = Option NextPiece} None (next_piece now rto c s)
next_none now rto c s none fresh given = sym (later now rto c s None none fresh given)

-- ---- its rank

pub not_some : (o : Option ℕ) → is_some o ≡ false → o ≡ None
not_some None none = refl
not_some (Some k) none = absurd cc

pub unless_some : (o : Option ℕ) → ((k : ℕ) → o ≡ Some k → ⊥) → o ≡ None
unless_some None nothing = refl
unless_some (Some k) nothing = absurd (nothing k refl)

lost_rank : (rto : ℕ) (c : Cwnd) (s : Sent) (seq : ℕ) → lost_of c s ≡ Some seq →
    ◌≡◌ {A = Option ℕ} (Some 0) (least_rank rto c s)
lost_rank rto c s seq is =
    let least = least_by (λ (i : CallItem). i.rank) (items_by None (can_give c s) rto c s (again_of s)) in
    sym (ap (λ o. rank_by (items_by o (can_give c s) rto c s (again_of s))) is
    ∙ ap (λ (x : CallItem). Some x.rank) (first_least (lost_item seq) least refl))

pub rank_lost : (rto : ℕ) (c : Cwnd) (s : Sent) → is_some (lost_of c s) ≡ true →
    ◌≡◌ {A = Option ℕ} (Some 0) (least_rank rto c s)
rank_lost rto c s some =
    (elim (lost_of c s)
    as (λ o. lost_of c s ≡ o → is_some o ≡ true → ◌≡◌ {A = Option ℕ} (Some 0) (least_rank rto c s)) [
      | None ↦ λ is none. absurd (false≢true none)
      | Some seq ↦ λ is yes. lost_rank rto c s seq is
    ]) refl some

pub rank_fresh : (rto : ℕ) (c : Cwnd) (s : Sent) → lost_of c s ≡ None → can_give c s ≡ true →
    ◌≡◌ {A = Option ℕ} (Some 0) (least_rank rto c s)
rank_fresh rto c s none fresh =
    let rest = again_items (resend_after rto c.prompt (again_of s)) (lowest_of s) (again_of s) in
    let least = least_by (λ (i : CallItem). i.rank) rest in
    sym ((λ i. rank_by (items_by (none i) (fresh i) rto c s (again_of s)))
    ∙ ap (λ (x : CallItem). Some x.rank) (first_least (fresh_item s) least refl))

pub rank_later : (rto : ℕ) (c : Cwnd) (s : Sent) (g : Option LastGiving) → lost_of c s ≡ None → can_give c s ≡ false →
    again_of s ≡ g → least_rank rto c s ≡ rank_by (again_items (resend_after rto c.prompt g) (lowest_of s) g)
rank_later rto c s g none fresh given = λ i. rank_by (items_by (none i) (fresh i) rto c s (given i))
