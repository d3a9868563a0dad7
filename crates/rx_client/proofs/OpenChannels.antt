-- The channels of a connection on which a call may start, looked at one after the other.
use Rattle.std.proofs.Common.{◌≡◌, ◌==◌, ◌<◌, ◌≤◌, ◌+◌, ◌*◌, ◌-◌, ◌/◌, ◌%◌, ◌^◌, ◌++◌, ℕ, zero, suc, if◌then◌else◌, not}
use Rattle.std.proofs.Common.{nat_le, is_some, Bool, true, false, List, [], ◌∷◌, filter, take, drop}
use Rattle.std.proofs.Common.{Some, Ok, Err, refl, ◌∙◌, ap, sym, subst, arith}
use Rattle.std.specs.Prelude.{slice_get}
use Rattle.std.proofs.lemmas.Bool.Decides.{nat_tests}
use Rattle.rx_model.specs.declared.answers.CallRefused.{CallRefused}
use Rattle.rx_model.specs.declared.answers.CallRefused.TheVariants as crowds
use Rattle.rx_model.specs.Names.{Channel, Connection, channels_of}
use Rattle.rx_rules.specs.Classes.{Class}
use Rattle.rx_rules.specs.Looks.{ConnLooks, Looks, call_named, channel_at}
use Rattle.rx_rules.specs.Rules.{call_among, call_on, is_free, is_worn, next_number}
use Rattle.rx_rules.specs.Setup.{Setup}
use Rattle.rx_rules.specs.Slots.{live}
use Rattle.rx_table.specs.declared.seat.Seat.{Seat}
use Rattle.rx_table.specs.Records.{seat_at}
use Rattle.rx_node.specs.Mirrors.{IsChannel, Mirrors, channel_in}
use Rattle.rx_node.specs.Node.{NodeState}
use Rattle.rx_client.specs.Calling.{HasNoneOpen, IsFirstOpen, open_among, refusal_of}

-- ---- a list with one more

filter-behind : (p : Channel → Bool) (xs ys : List Channel) → filter p (xs ++ ys) ≡ filter p xs ++ filter p ys
filter-behind p [] ys = refl
filter-behind p (x ∷ xs) ys =
    (elim (p x) as (λ b. (if b then x ∷ filter p (xs ++ ys) else filter p (xs ++ ys))
    ≡ (if b then x ∷ filter p xs else filter p xs) ++ filter p ys) [
      | true ↦ ap (λ (zs : List Channel). x ∷ zs) (filter-behind p xs ys)
      | false ↦ filter-behind p xs ys
    ])

passes : (p : Channel → Bool) (x : Channel) (xs : List Channel) → p x ≡ true → filter p (x ∷ xs) ≡ x ∷ filter p xs
passes p x xs is = ap (λ (b : Bool). if b then x ∷ filter p xs else filter p xs) is

fails : (p : Channel → Bool) (x : Channel) (xs : List Channel) → p x ≡ false → filter p (x ∷ xs) ≡ filter p xs
fails p x xs is = ap (λ (b : Bool). if b then x ∷ filter p xs else filter p xs) is

nothing-more : (xs : List Channel) → xs ++ [] ≡ xs
nothing-more [] = refl
nothing-more (x ∷ xs) = ap (λ (ys : List Channel). x ∷ ys) (nothing-more xs)

worn-refusal : (xs : List Channel) (x : Channel) → crowds.Worn ≡ refusal_of (xs ++ x ∷ [])
worn-refusal [] x = refl
worn-refusal (y ∷ xs) x = refl

module _ (l : Looks) (xs : List Channel) (refused : CallRefused) (none : HasNoneOpen l xs refused) (x : Channel) where
  abbrev fresh : Channel → Bool
  fresh ch = not (is_worn l ch)

  free-behind : (ys : List Channel) → filter (is_free l) (xs ++ ys) ≡ filter (is_free l) xs ++ filter (is_free l) ys
  free-behind ys = filter-behind (is_free l) xs ys

  open-behind : (ys : List Channel) → open_among l (xs ++ ys) ≡ open_among l ys
  open-behind ys =
      ap (filter fresh) (free-behind ys)
      ∙ filter-behind fresh (filter (is_free l) xs) (filter (is_free l) ys)
      ∙ ap (λ (zs : List Channel). zs ++ open_among l ys) none.none

  -- one that isn't free
  pub busy_more : is_free l x ≡ false → HasNoneOpen l (xs ++ x ∷ []) refused
  busy_more busy =
      record {
        none = open-behind (x ∷ []) ∙ ap (filter fresh) (fails (is_free l) x [] busy);
        is = none.is ∙ ap refusal_of
            (sym (free-behind (x ∷ []) ∙ ap (λ (zs : List Channel). filter (is_free l) xs ++ zs)
            (fails (is_free l) x [] busy)
            ∙ nothing-more (filter (is_free l) xs)));
      }

  -- one that used up its numbers
  pub worn_more : is_free l x ≡ true → is_worn l x ≡ true → HasNoneOpen l (xs ++ x ∷ []) crowds.Worn
  worn_more free worn =
      record {
        none = open-behind (x ∷ []) ∙ ap (filter fresh) (passes (is_free l) x [] free)
            ∙ fails fresh x [] (ap not worn);
        is = worn-refusal (filter (is_free l) xs) x ∙ ap refusal_of
            (sym (free-behind (x ∷ []) ∙ ap (λ (zs : List Channel). filter (is_free l) xs ++ zs)
            (passes (is_free l) x [] free)));
      }

  -- one on which a call may start
  pub open_found : (ys : List Channel) → is_free l x ≡ true → is_worn l x ≡ false
      → open_among l (xs ++ x ∷ ys) ≡ x ∷ open_among l ys
  open_found ys free unworn =
      open-behind (x ∷ ys) ∙ ap (filter fresh) (passes (is_free l) x ys free)
      ∙ passes fresh x (filter (is_free l) ys) (ap not unworn)

-- ---- the channels of a connection

abbrev nth : Connection → ℕ → Channel
nth x n = record { connection = x; chan = n }

pub one_more : (x : Connection) (n : ℕ) → n < 4 → take n (channels_of x) ++ nth x n ∷ [] ≡ take (n + 1) (channels_of x)
one_more x zero low = refl
one_more x (suc zero) low = refl
one_more x (suc (suc zero)) low = refl
one_more x (suc (suc (suc zero))) low = refl
one_more x (suc (suc (suc (suc n)))) low = absurd (omega arith)

pub split_at : (x : Connection) (n : ℕ) → n < 4 → take n (channels_of x)
    ++ nth x n ∷ drop (n + 1) (channels_of x) ≡ channels_of x
split_at x zero low = refl
split_at x (suc zero) low = refl
split_at x (suc (suc zero)) low = refl
split_at x (suc (suc (suc zero))) low = refl
split_at x (suc (suc (suc (suc n)))) low = absurd (omega arith)

pub all_of : (x : Connection) (n : ℕ) → 4 ≤ n → n ≤ 4 → take n (channels_of x) ≡ channels_of x
all_of x n low high = ap (λ (k : ℕ). take k (channels_of x)) (let is : n ≡ 4 = omega arith in is)

-- ---- by their seats

module _ (class : List ℕ → Class) (n : NodeState) (l : Looks) (m : Mirrors class n l) (place : ℕ) (x : ConnLooks)
    (there : slice_get l.conns place ≡ Some x) (chan : ℕ) (low : chan < 4) (seat : Seat)
    (seated : seat_at n.table (4 * place + chan) ≡ Some seat) where
  pub nth_key : IsChannel l (4 * place + chan) (nth x.connection chan)
  nth_key =
      let at_place : (4 * place + chan) / 4 ≡ place = omega arith in
      let at_chan : (4 * place + chan) % 4 ≡ chan = omega arith in
      record {
        conn = x;
        there = ap (λ (q : ℕ). slice_get l.conns q) at_place ∙ there;
        is = ap (λ (k : ℕ). channel_in x k) (sym at_chan);
      }

  free-is : is_free l (nth x.connection chan) ≡ not (is_some seat.live)
  free-is = ap not (sym (m.channels (4 * place + chan) (nth x.connection chan) seat nth_key seated).call.live)

  number-is : seat.number ≡ (channel_at l (nth x.connection chan)).number
  number-is = (m.channels (4 * place + chan) (nth x.connection chan) seat nth_key seated).owes.number

  pub not_free : is_some seat.live ≡ true → is_free l (nth x.connection chan) ≡ false
  not_free lives = free-is ∙ ap not lives

  pub seat_free : is_some seat.live ≡ false → is_free l (nth x.connection chan) ≡ true
  seat_free none = free-is ∙ ap not none

  pub seat_worn : 2 ^ 32 - 1 ≤ seat.number → seat.number < 2 ^ 32 → is_worn l (nth x.connection chan) ≡ true
  seat_worn high fits =
      ap (λ (k : ℕ). k == 2 ^ 32 - 1) (sym number-is) ∙ of seat.number high fits
    where
      of : (k : ℕ) → 2 ^ 32 - 1 ≤ k → k < 2 ^ 32 → (k == 2 ^ 32 - 1) ≡ true
      of k high fits = grind (arith, nat_tests)

  pub seat_unworn : seat.number < 2 ^ 32 - 1 → is_worn l (nth x.connection chan) ≡ false
  seat_unworn low = ap (λ (k : ℕ). k == 2 ^ 32 - 1) (sym number-is) ∙ of seat.number low
    where
      of : (k : ℕ) → k < 2 ^ 32 - 1 → (k == 2 ^ 32 - 1) ≡ false
      of k low = grind (arith, nat_tests)

  pub first_open : (refused : CallRefused) → HasNoneOpen l (take chan (channels_of x.connection)) refused
      → is_some seat.live ≡ false → seat.number < 2 ^ 32 - 1 → IsFirstOpen l x (4 * place + chan)
  first_open refused none free unworn =
      record {
        channel = nth x.connection chan;
        at = nth_key;
        rest = open_among l (drop (chan + 1) (channels_of x.connection));
        first = ap (open_among l) (sym (split_at x.connection chan low))
            ∙ open_found l (take chan (channels_of x.connection)) refused none (nth x.connection chan)
            (drop (chan + 1) (channels_of x.connection)) (seat_free free) (seat_unworn unworn);
      }

  pub busy_next : (refused : CallRefused) → HasNoneOpen l (take chan (channels_of x.connection)) refused
      → is_some seat.live ≡ true → HasNoneOpen l (take (chan + 1) (channels_of x.connection)) refused
  busy_next refused none lives =
      subst (λ (chs : List Channel). HasNoneOpen l chs refused) (one_more x.connection chan low)
      (busy_more l (take chan (channels_of x.connection)) refused none (nth x.connection chan) (not_free lives))

  pub worn_next : (refused : CallRefused) → HasNoneOpen l (take chan (channels_of x.connection)) refused
      → is_some seat.live ≡ false → 2 ^ 32 - 1 ≤ seat.number → seat.number < 2 ^ 32
      → HasNoneOpen l (take (chan + 1) (channels_of x.connection)) crowds.Worn
  worn_next refused none free worn fits =
      subst (λ (chs : List Channel). HasNoneOpen l chs crowds.Worn) (one_more x.connection chan low)
      (worn_more l (take chan (channels_of x.connection)) refused none (nth x.connection chan) (seat_free free)
      (seat_worn worn fits))

-- ---- the rules' answer

pub refused_among : (s : Setup) (l : Looks) (r : ConnLooks) (chs : List Channel) (refused : CallRefused)
    → HasNoneOpen l chs refused → Err refused ≡ call_among s l r (filter (is_free l) chs)
refused_among s l r chs refused none = of (filter (is_free l) chs) none.none none.is
  where
    of : (fs : List Channel) → filter (λ ch. not (is_worn l ch)) fs ≡ [] → refused ≡ refusal_of fs
        → Err refused ≡ call_among s l r fs
    of [] none is = ap Err is
    of (f ∷ fs) none is = ap Err is ∙ sym (ap (call_on s l r) none)

pub opened_among : (s : Setup) (l : Looks) (r : ConnLooks) (chs : List Channel) (ch : Channel) (rest : List Channel)
    → open_among l chs ≡ ch ∷ rest
    → call_among s l r (filter (is_free l) chs) ≡ (if nat_le s.limits.calls (live l) then Err crowds.NoRoom
    else Ok (call_named ch (next_number r.first (channel_at l ch).number)))
opened_among s l r chs ch rest is = of (filter (is_free l) chs) is
  where
    of : (fs : List Channel) → filter (λ d. not (is_worn l d)) fs ≡ ch ∷ rest
        → call_among s l r fs ≡ (if nat_le s.limits.calls (live l) then Err crowds.NoRoom
        else Ok (call_named ch (next_number r.first (channel_at l ch).number)))
    of [] is = absurd (cc (is))
    of (f ∷ fs) is = ap (call_on s l r) is
