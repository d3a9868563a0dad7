-- What is out of a book while it is gone through, and comes back.
use Rattle.std.proofs.Common.{◌≡◌, ◌+◌, ◌-◌, ◌*◌, ◌<◌, ◌≤◌, ◌&&◌, ◌^◌, ◌++◌, ℕ, zero, suc, Bool, true, false, cond}
use Rattle.std.proofs.Common.{nat_le}
use Rattle.std.proofs.Common.{List, [], ◌∷◌, length, take, drop, set, Option, Some, None, refl, ap, sym, ◌∙◌}
use Rattle.std.proofs.Common.{arith, inl, inr, ◌⊎◌, subst}
use Rattle.std.specs.Prelude.{is_some, slice_set}
use Rattle.std.specs.List.{list_any}
use Rattle.std.proofs.lemmas.Bool.{cases_eq, false≢true}
use Rattle.std.proofs.lemmas.Bool.Decides.{nat_tests}
use Rattle.std.proofs.lemmas.List.{drop-drop, length-append, set-get_or, set-set}
use Rattle.std.proofs.lemmas.Option.{none-some}
use Rattle.rx_due.specs.Book.{IsLeast, entries_of, moment_of}
use Rattle.rx_due.specs.Cost.{AtMost, AtMostForEntries}
use Rattle.rx_model.specs.declared.wire.TheConstants.{IDLE_MS}
use Rattle.rx_table.specs.declared.seat.Seat.{Seat}
use Rattle.rx_table.specs.Uses.{AreTaken, AreWithin, IsFirstFree, IsFreeAt, NoneIsFree, has_call, held_among}
use Rattle.rx_table.specs.Uses.{is_held_at}
use Rattle.rx_table.specs.Uses.{with_aside}
use Rattle.rx_table.proofs.Noted.{few_entries, none_there, one_fewer, set_aside, set_here, set_length}

-- ---- one more aside

pub with-last : (book : List (Option ℕ)) (xs : List (ℕ × ℕ)) (x : ℕ × ℕ)
    → with_aside book (xs ++ x ∷ []) ≡ with_aside (slice_set book x.1 (Some x.0)) xs
with-last book [] x = refl
with-last book (y ∷ ys) x = ap (λ (b : List (Option ℕ)). slice_set b y.1 (Some y.0)) (with-last book ys x)

pub within-push : (n : ℕ) (xs : List (ℕ × ℕ)) (x : ℕ × ℕ) → AreWithin n xs → x.1 < n → AreWithin n (xs ++ x ∷ [])
within-push n [] x all low = (low, tt)
within-push n (y ∷ ys) x all low = (all.0, within-push n ys x all.1 low)

pub within-pop : (n : ℕ) (xs : List (ℕ × ℕ)) (x : ℕ × ℕ) → AreWithin n (xs ++ x ∷ []) → AreWithin n xs × (x.1 < n)
within-pop n [] x all = (tt, all.0)
within-pop n (y ∷ ys) x all = let rest = within-pop n ys x all.1 in ((all.0, rest.0), rest.1)

taken_again : (book : List (Option ℕ)) (place since : ℕ) → moment_of book place ≡ Some since
    → slice_set (slice_set book place None) place (Some since) ≡ book
taken_again book place since there =
    set-set book place None (Some since) ∙ ap (λ (o : Option ℕ). set book place o) (sym there)
    ∙ set-get_or book place None

-- a place that is held leaves one fewer
held_fewer : (now : ℕ) (book : List (Option ℕ)) (ss : List Seat) (place since : ℕ) → moment_of book place ≡ Some since
    → has_call ss place ≡ true → nat_le IDLE_MS (now - since) ≡ true
    → held_among now book ss ≡ 1 + held_among now (slice_set book place None) ss
held_fewer now [] ss place since there held long = absurd (none-some since there)
held_fewer now (m ∷ ms) ss zero since there held long =
    let here : is_held_at now m (take 4 ss) ≡ true =
    ap (λ (o : Option ℕ). is_held_at now o (take 4 ss)) there
    ∙ ap (λ (b : Bool). b && nat_le IDLE_MS (now - since)) held ∙ long in
    let one = ap {B = ℕ} (λ (b : Bool). cond b 1 0) here in
    omega (arith, one)
held_fewer now (m ∷ ms) ss (suc place) since there held long =
    let next : 4 * suc place ≡ 4 + 4 * place = omega arith in
    let its : has_call (drop 4 ss) place ≡ true =
    ap (λ (us : List Seat). list_any (λ seat. is_some seat.live) (take 4 us))
    (drop-drop (4 * place) 4 ss ∙ ap (λ (n : ℕ). drop n ss) (sym next)) ∙ held in
    let rest = held_fewer now ms (drop 4 ss) place since there its long in
    omega (arith, rest)

-- ---- going through a book

-- how far: what was looked at went aside, and each free place is still there
pub record GoneThrough (now : ℕ) (ss : List Seat) (old book : List (Option ℕ)) (aside : List (ℕ × ℕ)) : Type 0 where
  pub taken : AreTaken now ss old book aside
  pub was : (q u : ℕ) → moment_of book q ≡ Some u → moment_of old q ≡ Some u
  pub free : (q u : ℕ) → moment_of old q ≡ Some u → IsFreeAt ss now q u → moment_of book q ≡ Some u
  pub entries : length aside + entries_of book ≤ length old

module _ (now : ℕ) (ss : List Seat) (old book : List (Option ℕ)) (aside : List (ℕ × ℕ))
    (gone : GoneThrough now ss old book aside) where
  -- a place at whose seats a call lives goes aside
  pub gone-more : (since place : ℕ) → moment_of book place ≡ Some since → place < length book
      → IDLE_MS ≤ now - since → has_call ss place ≡ true
      → GoneThrough now ss old (slice_set book place None) (aside ++ (since, place) ∷ [])
  gone-more since place there within late held =
      let size = length-append aside ((since, place) ∷ []) in
      let fewer = held_fewer now book ss place since there held (grind (arith, nat_tests)) in
      let less = one_fewer book place since there in
      let most = gone.taken.held in
      let room = gone.entries in
      record {
        taken = record {
          again = with-last (slice_set book place None) aside (since, place)
              ∙ ap (λ (b : List (Option ℕ)). with_aside b aside) (taken_again book place since there)
              ∙ gone.taken.again;
          places = set_length book place None ∙ gone.taken.places;
          within = within-push (length old) aside (since, place) gone.taken.within
              (let all = gone.taken.places in omega (arith, within, all));
          held = omega (arith, size, fewer, most);
        };
        was = λ q u its. gone.was q u (before q u its (cases_eq q place));
        free = λ q u its free. after q u (gone.free q u its free) free (cases_eq q place);
        entries = omega (arith, size, less, room);
      }
    where
      before : (q u : ℕ) → moment_of (slice_set book place None) q ≡ Some u → (q ≡ place) ⊎ (q ≡ place → ⊥)
          → moment_of book q ≡ Some u
      before q u its (inl same) =
          absurd (none-some u (sym (set_here book place None None within)
          ∙ ap (λ (n : ℕ). moment_of (slice_set book place None) n) (sym same) ∙ its))
      before q u its (inr apart) = sym (set_aside book place q None None apart) ∙ its

      after : (q u : ℕ) → moment_of book q ≡ Some u → IsFreeAt ss now q u → (q ≡ place) ⊎ (q ≡ place → ⊥)
          → moment_of (slice_set book place None) q ≡ Some u
      after q u its free (inl same) =
          absurd (false≢true (sym free.free ∙ ap (λ (n : ℕ). has_call ss n) same ∙ held))
      after q u its free (inr apart) = set_aside book place q None None apart ∙ its

  -- the first at whose seats none lives
  pub first_found : (since place : ℕ) → IsLeast book (since, place) → IDLE_MS ≤ now - since
      → has_call ss place ≡ false → IsFirstFree old ss now place
  first_found since place least late free =
      record {
        since = since;
        there = gone.was place since least.there;
        free = record { long = late; free = free };
        first = λ q u its freed. least.least q u (gone.free q u its freed);
      }

  -- where the first was used not long ago, none is free
  pub none_late : (since place : ℕ) → IsLeast book (since, place) → now - since < IDLE_MS → NoneIsFree old ss now
  none_late since place least soon q u its free =
      let order = (least.least q u (gone.free q u its free)).moment in
      let long = free.long in
      omega (arith, order, long, soon)

  -- nor where nothing is left
  pub none_left : entries_of book ≡ 0 → NoneIsFree old ss now
  none_left none q u its free =
      none-some u (sym (none_there book q none) ∙ gone.free q u its free)

-- ---- what it costs

-- of so many places that went aside so many are left, and those between them came back
abbrev pub Comes : ℕ → ℕ → ℕ → ℕ → ℕ → Type 0
Comes n all left old new =
    (d : ℕ) → 2 * n + 1 < 2 ^ (d + 1) → (old ≤ new) × (new + left * (8 * d + 8) ≤ old + all * (8 * d + 8))

-- a book has at most one entry for each place
pub all_entries : (book : List (Option ℕ)) → entries_of book ≤ length book
all_entries book = few_entries book (length book) (λ place high. past book place high)
  where
    past : (b : List (Option ℕ)) (place : ℕ) → length b ≤ place → moment_of b place ≡ None
    past [] place high = refl
    past (m ∷ ms) zero high = absurd (omega (arith, high))
    past (m ∷ ms) (suc place) high = past ms place (omega (arith, high))

-- one more comes back
pub comes-more : (n all left next m old s t : ℕ) → left ≡ next + 1 → m ≤ n → Comes n all left old s
    → AtMostForEntries m s t → Comes n all next old t
comes-more n all left next m old s t is few before more =
    λ d power. (
    let was = subst (λ (k : ℕ). (old ≤ s) × (s + k * (8 * d + 8) ≤ old + all * (8 * d + 8))) is (before d power) in
    let one = more d (omega (arith, few, power)) in
    let low = was.0 in
    let high = was.1 in
    let grows = one.grows in
    let most = one.most in
    (omega (arith, low, grows), omega (arith, high, most)))

module _ (n k size m old s t u : ℕ) where
  -- one more goes aside
  pub goes-more : size ≡ k + 1 → m ≤ n → ((d : ℕ) → 2 * n + 1 < 2 ^ (d + 1) → AtMost (k * (8 * d + 9)) old s)
      → AtMost 1 s t → AtMostForEntries m t u → (d : ℕ) → 2 * n + 1 < 2 ^ (d + 1) → AtMost (size * (8 * d + 9)) old u
  goes-more is few before look clears =
      λ d power. (
      let was = before d power in
      let one = clears d (omega (arith, few, power)) in
      let low = was.grows in
      let high = was.most in
      let looks = look.grows in
      let look_most = look.most in
      let grows = one.grows in
      let most = one.most in
      subst (λ (j : ℕ). AtMost (j * (8 * d + 9)) old u) (sym is)
      (record { grows = omega (arith, low, looks, grows); most = omega (arith, high, look_most, most) }))
