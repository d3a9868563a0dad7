-- Where the calls that may live at a node have room, one slot is left beside those that are held, or one call lives at
-- most; so an end that has no room for more of its stream, which isn't shut, has a piece that counts and isn't
-- acknowledged.
use Rattle.std.proofs.Common.{◌≡◌, ◌⊎◌, inl, inr, ◌≤◌, ◌<◌, ◌+◌, ◌*◌, ℕ, suc, Bool, true, false, List, [], ◌∷◌, length}
use Rattle.std.proofs.Common.{◌-◌, cond, Some, refl, ap, sym, ◌∙◌, arith}
use Rattle.std.proofs.lemmas.Bool.{cases_lt}
use Rattle.std.proofs.Math.Nat.{mul-le-mul_left}
use Rattle.rx_model.specs.declared.event.Event.{Event}
use Rattle.rx_model.specs.declared.names.CallName.{CallName}
use Rattle.rx_rules.specs.After.{looks}
use Rattle.rx_rules.specs.CallLooks.{held, lead}
use Rattle.rx_rules.specs.Life.{is_active, is_live}
use Rattle.rx_rules.specs.Looks.{CallRecord, call_at}
use Rattle.rx_rules.specs.Received.{count_above, used_of}
use Rattle.rx_rules.specs.Rules.{Legal}
use Rattle.rx_rules.specs.Sent.{counting_of, opened}
use Rattle.rx_rules.specs.Setup.{FitsSetup, Setup, shared_slots}
use Rattle.rx_rules.specs.Slots.{beside, beside_all, common, count_live, live, room}
use Rattle.rx_rules.proofs.EveryLaws.{Every}
use Rattle.rx_history.proofs.Room.RoomStarts.{RoomyAt}
use Rattle.rx_history.proofs.Suffice.{roomy_history}
use Rattle.rx_between.proofs.Each.EachItem.{In}
use Rattle.rx_closing.proofs.Ends.RoomLaws.{active_lives, room_counts}
use Rattle.rx_closing.proofs.Frame.{AreAmong, IsSpacious}
use Rattle.rx_closing.proofs.Living.Few.{every_named, few_live}
use Rattle.rx_closing.proofs.Room.HeldLow.{beside_low}
use Rattle.rx_closing.proofs.Room.SlotLeft.{counts_left}

-- ---- what all calls hold

-- one that doesn't live holds nothing
dead_beside : (k : CallRecord) → is_live k.life ≡ false → beside k ≡ 0
dead_beside k dead = by (is_active k.life) refl
  where
    by : (b : Bool) → is_active k.life ≡ b → cond b (held k.looks - lead k.looks) 0 ≡ 0
    by false is = refl
    by true is =
        absurd (let wrong : ◌≡◌ {A = Bool} true false = sym (active_lives k.life is) ∙ dead in cc (wrong))

-- each at most so much
beside_most : (most : ℕ) (ks : List CallRecord) → Every (λ (k : CallRecord). beside k ≤ most) ks
    → beside_all ks ≤ most * count_live ks
beside_most most [] all = omega arith
beside_most most (k ∷ ks) all = by (beside_most most ks all.1) (is_live k.life) refl
  where
    by : beside_all ks ≤ most * count_live ks → (b : Bool) → is_live k.life ≡ b
        → beside k + beside_all ks ≤ most * cond b (suc (count_live ks)) (count_live ks)
    by rest true is = more most (count_live ks) (beside k) (beside_all ks) all.0 rest
      where
        more : (w n x y : ℕ) → x ≤ w → y ≤ w * n → x + y ≤ w * suc n
        more w n x y first second = omega (arith, first, second)
    by rest false is = less (most * count_live ks) (beside k) (beside_all ks) (dead_beside k is) rest
      where
        less : (n x y : ℕ) → x ≡ 0 → y ≤ n → x + y ≤ n
        less n x y none low = omega (arith, none, low)

-- ---- a slot is left

-- by two windows for each of two calls or more
left_by : (most window n lives_ all shared : ℕ) → most + 1 ≡ 2 * window → lives_ ≤ n → all ≤ most * lives_ → 2 ≤ n
    → 2 * window * n ≤ shared → all < shared
left_by most window n lives_ all shared is few low two room_ =
    let more : most * lives_ ≤ most * n = mul-le-mul_left most few in
    let same : 2 * window * n ≡ (most + 1) * n = ap (λ (m : ℕ). m * n) (sym is) in
    let split : (most + 1) * n ≡ most * n + n = omega arith in
    omega (arith, low, more, same, split, two, room_)

-- of calls that are spaciously among some
pub slot_left : (s : Setup) (h : List Event) (cs : List CallName) → FitsSetup s → Legal s h → AreAmong cs (looks s h)
    → IsSpacious cs s → (length cs ≤ 1) ⊎ (common (looks s h) < shared_slots s)
slot_left s h cs fits legal among space =
    elim (cases_lt 1 (length cs)) as (λ x. (length cs ≤ 1) ⊎ (common (looks s h) < shared_slots s)) [
      | inl two ↦ inr (by two space.1)
      | inr few ↦ inl few
    ]
  where
    window : ℕ
    window = s.limits.window

    roomy : RoomyAt s (looks s h)
    roomy = roomy_history s h legal

    some : 1 ≤ window
    some = (let wide = fits.limits.wide in omega (arith, wide))

    most : ℕ
    most = 2 * window - 1

    each : Every (λ (k : CallRecord). beside k ≤ most) (looks s h).calls
    each =
        every_named (λ (k : CallRecord). beside k ≤ most) (looks s h).calls roomy.differ
        (λ d x there. (let low = beside_low s h d x fits legal there in omega (arith, low)))

    by : 1 < length cs → (length cs ≤ 1) ⊎ (2 * window * length cs ≤ shared_slots s)
        → common (looks s h) < shared_slots s
    by two (inl one) = absurd (omega (arith, two, one))
    by two (inr wide) =
        left_by most window (length cs) (live (looks s h)) (common (looks s h)) (shared_slots s) (omega (arith, some))
        (few_live (looks s h) cs roomy.differ among) (beside_most most (looks s h).calls each) two wide

-- ---- a writer without room

-- all of a list of one are the same
one_only : (cs : List CallName) (c d : CallName) → length cs ≤ 1 → In c cs → In d cs → d ≡ c
one_only [] c d few there here = absurd there
one_only (x ∷ []) c d few (inl one) (inl two) = two ∙ sym one
one_only (x ∷ []) c d few (inl one) (inr none) = absurd none
one_only (x ∷ []) c d few (inr none) here = absurd none
one_only (x ∷ (y ∷ ys)) c d few there here = absurd (omega (arith, few))

module _ (s : Setup) (h : List Event) (cs : List CallName) (c : CallName) (r : CallRecord) where
  -- where it has none, a piece counts that isn't acknowledged
  pub room_counts_among : FitsSetup s → Legal s h → AreAmong cs (looks s h) → IsSpacious cs s
      → call_at (looks s h) c ≡ Some r → is_active r.life ≡ true → r.looks.sent.shut ≡ false
      → count_above (used_of r.looks.received) r.looks.received.kept ≡ 0
      → r.looks.sent.acked ≤ opened (length r.looks.sent.said) → opened (length r.looks.sent.said) < 4294967294
      → room s (looks s h) r.looks ≡ 0 → r.looks.sent.acked < counting_of r.looks.sent
  room_counts_among fits legal among space there active unshut above known small none =
      by (slot_left s h cs fits legal among space)
    where
      by : (length cs ≤ 1) ⊎ (common (looks s h) < shared_slots s) → r.looks.sent.acked < counting_of r.looks.sent
      by (inl few) =
          room_counts s (looks s h) c r fits.limits (roomy_history s h legal)
          (λ d x here living.
          one_only cs c d few (among c r there (active_lives r.life active)) (among d x here living))
          there active unshut above known small none
      by (inr left) = counts_left s (looks s h) r.looks fits.limits left unshut known small none
