-- Where a slot is left beside those that calls hold, an end that has no room for more of its stream, which isn't shut,
-- has a piece that counts and isn't acknowledged.
use Rattle.std.proofs.Common.{◌≡◌, ◌⊎◌, inl, inr, ◌≤◌, ◌<◌, ◌+◌, ◌-◌, ◌*◌, ◌/◌, ℕ, min, Bool, false, length, refl, ap}
use Rattle.std.proofs.Common.{sym, subst, ◌∙◌, arith}
use Rattle.rx_rules.specs.CallLooks.{CallLooks, lead}
use Rattle.rx_rules.specs.Looks.{Looks}
use Rattle.rx_rules.specs.Sent.{counting_by, counting_of, opened}
use Rattle.rx_rules.specs.Setup.{FitsLimits, Setup, sending_window, shared_slots}
use Rattle.rx_rules.specs.Slots.{common, left_slots, room}
use Rattle.rx_closing.proofs.Ends.Least.{min_is}
use Rattle.rx_closing.proofs.Ends.RoomLaws.{within_opened}
use Rattle.rx_rounds.proofs.Room.{lead_low}

-- ---- in numbers

-- by a window of 32 at least, with room for one piece more beside it
left_numbers : (n a window more : ℕ) → 32 ≤ window → 1 ≤ more → a ≤ opened n → opened n < 4294967294
    → 1412 * (opened n + min (min (window - (opened n - a)) more) (4294967294 - opened n)) - n ≡ 0
    → a < (n - 1) / 1412
left_numbers n a window more wide some known small none = of (opened n) refl
  where
    of : (o : ℕ) → opened n ≡ o → a < (n - 1) / 1412
    of o is =
        let within : n ≤ 1412 * o = subst (λ (m : ℕ). n ≤ 1412 * m) is (within_opened n) in
        let none_ : 1412 * (o + min (min (window - (o - a)) more) (4294967294 - o)) - n ≡ 0 =
        subst (λ (m : ℕ). 1412 * (m + min (min (window - (m - a)) more) (4294967294 - m)) - n ≡ 0) is none in
        let closed : min (min (window - (o - a)) more) (4294967294 - o) ≡ 0 =
        zero_more (min (min (window - (o - a)) more) (4294967294 - o)) within none_ in
        let all : n ≡ 1412 * o =
        (let bare : 1412 * (o + 0) - n ≡ 0 = subst (λ (m : ℕ). 1412 * (o + m) - n ≡ 0) closed none_ in omega arith) in
        let two : a + 2 ≤ o =
        by (min_is (window - (o - a)) more (4294967294 - o)) closed (subst (λ (m : ℕ). m < 4294967294) is small) in
        let counts : (n - 1) / 1412 ≡ o - 1 = ap (λ (m : ℕ). (m - 1) / 1412) all ∙ less o two in
        omega (arith, counts, two)
      where
        zero_more : (m : ℕ) → n ≤ 1412 * o → 1412 * (o + m) - n ≡ 0 → m ≡ 0
        zero_more m within none = omega arith

        less : (m : ℕ) → a + 2 ≤ m → (1412 * m - 1) / 1412 ≡ m - 1
        less m high = omega arith

        by : {m : ℕ} → (m ≡ window - (o - a)) ⊎ ((m ≡ more) ⊎ (m ≡ 4294967294 - o)) → m ≡ 0 → o < 4294967294 → a + 2 ≤ o
        by (inl is) none low = omega (arith, wide, is, none)
        by (inr (inl is)) none low = absurd (omega (arith, some, is, none))
        by (inr (inr is)) none low = absurd (omega (arith, is, none, low))

-- ---- an end

pub counts_left : (s : Setup) (l : Looks) (k : CallLooks) → FitsLimits s.limits → common l < shared_slots s
    → k.sent.shut ≡ false → k.sent.acked ≤ opened (length k.sent.said) → opened (length k.sent.said) < 4294967294
    → room s l k ≡ 0 → k.sent.acked < counting_of k.sent
counts_left s l k fits left unshut known small none =
    let n : ℕ = length k.sent.said in
    let most = lead_low k in
    let more : 1 ≤ left_slots s l + 1 - lead k = omega (arith, left, most) in
    let counts : counting_of k.sent ≡ (n - 1) / 1412 = ap (λ (b : Bool). counting_by n b) unshut in
    let low : k.sent.acked < (n - 1) / 1412 =
    left_numbers n k.sent.acked (sending_window s) (left_slots s l + 1 - lead k) fits.wide more known small none in
    subst (λ (m : ℕ). k.sent.acked < m) (sym counts) low
