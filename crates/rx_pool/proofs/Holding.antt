-- Who holds which slots, through the steps of a pool.
use Rattle.std.proofs.Common.{◌≡◌, ◌≢◌, ◌⊎◌, inl, inr, ◌<◌, ◌||◌, Bool, true, false, ℕ}
use Rattle.std.proofs.Common.{List, [], ◌∷◌, length, get_or, set, refl, sym, ap, ◌∙◌, arith, subst}
use Rattle.std.proofs.lemmas.Bool.{cases_eq, cases_Bool, false≢true}
use Rattle.std.proofs.lemmas.List.{get_or-set_other, get_or-set_same, length-set}
use Rattle.rx_pool.specs.declared.pool.TheConstants.{SLOT_BYTES}
use Rattle.rx_pool.specs.Pool.{Slots, IsSlotOf, Takes, has, HasNoRepeat}
use Rattle.rx_pool.specs.Held.{Holds, Keeps}
use Rattle.rx_pool.proofs.Numbers.{has_rest, has_cases, has_later, not_first, not_later, not_has, two}

pub or_left : (a b : Bool) → a ≡ true → (a || b) ≡ true
or_left true b h = refl
or_left false b h = absurd (false≢true h)

pub or_right : (a b : Bool) → b ≡ true → (a || b) ≡ true
or_right true b h = refl
or_right false b h = h

pub or_cases : (a b : Bool) → (a || b) ≡ true → (a ≡ true) ⊎ (b ≡ true)
or_cases true b h = inl refl
or_cases false b h = inr h

-- nothing happens
pub keeps_same : (pool : Slots) (held : List ℕ) → Holds pool held → Keeps pool pool held held
keeps_same pool held h =
    record {
      holds = h;
      others = λ s of n. record { of = of; bytes = refl; apart = n };
      back = λ s e n. (
          elim (or_cases (has s pool.free) (has s held) e) as (λ _. has s pool.free ≡ true) [
            | inl f ↦ f
            | inr y ↦ absurd (false≢true (sym n ∙ y))
          ]);
      count = refl;
      size = refl;
    }

-- one thing after another
pub keeps_then : (a b c : Slots) (p q r : List ℕ) → Keeps a b p q → Keeps b c q r → Keeps a c p r
keeps_then a b c p q r one next =
    let count = one.count in
    let more = next.count in
    record {
      holds = next.holds;
      others = λ s of n. (
          let first = one.others s of n in
          let second = next.others s first.of first.apart in
          record { of = second.of; bytes = second.bytes ∙ first.bytes; apart = second.apart });
      back = λ s e n. (
          elim (cases_Bool (has s q)) as (λ _. has s c.free ≡ true) [
            | inl y ↦ next.back s (or_right (has s b.free) (has s q) y) n
            | inr gone ↦ next.back s (or_left (has s b.free) (has s q) (one.back s e gone)) n
          ]);
      count = omega (arith, count, more);
      size = next.size ∙ one.size;
    }

-- the same slots in another order
pub keeps_order : (a b : Slots) (p q r : List ℕ) → Keeps a b p q → ((s : ℕ) → has s r ≡ has s q) → HasNoRepeat r →
    length r ≡ length q → Keeps a b p r
keeps_order a b p q r k same apart size =
    let count = k.count in
    record {
      holds = record { of = λ s h. k.holds.of s (sym (same s) ∙ h); apart = apart };
      others = λ s of n. (let t = k.others s of n in record { of = t.of; bytes = t.bytes; apart = same s ∙ t.apart });
      back = λ s e n. k.back s e (sym (same s) ∙ n);
      count = omega (arith, count, size);
      size = k.size;
    }

-- a free slot is got
pub keeps_got : (old new : Slots) (s : ℕ) (held : List ℕ) → Takes old new s → Holds old held →
    Keeps old new held (s ∷ held)
keeps_got old new s held t h =
    let apart : (u : ℕ) → IsSlotOf old u → s ≢ u = (λ u of. two s u old.free t.free of.held) in
    let still : (u : ℕ) → IsSlotOf old u → IsSlotOf new u = (λ u of.
    record {
      within = subst (λ (bs : List (List ℕ)). u < length bs) (sym t.bytes) of.within;
      held = t.others u (λ e. apart u of (sym e)) ∙ of.held;
      size = ap (λ (bs : List (List ℕ)). length (get_or bs u [])) t.bytes ∙ of.size;
    }) in
    let count = t.count in
    record {
      holds = record {
        of = λ u y. (
            elim (has_cases s u held y) as (λ _. IsSlotOf new u) [
              | inl e ↦ subst (λ v. IsSlotOf new v) e t.of
              | inr z ↦ still u (h.of u z)
            ]);
        apart = (
          elim (cases_Bool (has s held)) as (λ _. has s held ≡ false) [
            | inl y ↦ absurd (false≢true (sym (h.of s y).held ∙ t.free))
            | inr n ↦ n
          ],
          h.apart,
        );
      };
      others = λ u of n. record {
        of = still u of;
        bytes = ap (λ (bs : List (List ℕ)). get_or bs u []) t.bytes;
        apart = not_has s u held (apart u of) n;
      };
      back = λ u e n. (
          elim (or_cases (has u old.free) (has u held) e) as (λ _. has u new.free ≡ true) [
            | inl f ↦ t.others u (λ e. not_first s u held n (sym e)) ∙ f
            | inr y ↦ absurd (false≢true (sym (not_later s u held n) ∙ y))
          ]);
      count = omega (arith, count);
      size = ap length t.bytes;
    }

-- the first slot that is held is given back
pub keeps_given : (old new : Slots) (s : ℕ) (held : List ℕ) → Takes new old s → Holds old (s ∷ held) →
    Keeps old new (s ∷ held) held
keeps_given old new s held t h =
    let count = t.count in
    let still : (u : ℕ) → s ≢ u → IsSlotOf old u → IsSlotOf new u = (λ u apart of.
    record {
      within = subst (λ (bs : List (List ℕ)). u < length bs) t.bytes of.within;
      held = sym (t.others u (λ e. apart (sym e))) ∙ of.held;
      size = ap (λ (bs : List (List ℕ)). length (get_or bs u [])) (sym t.bytes) ∙ of.size;
    }) in
    record {
      holds = record {
        of = λ u y. still u (λ e. two u s held y h.apart.0 (sym e)) (h.of u (has_later s u held y));
        apart = h.apart.1;
      };
      others = λ u of n. record {
        of = still u (not_first s u held n) of;
        bytes = ap (λ (bs : List (List ℕ)). get_or bs u []) (sym t.bytes);
        apart = not_later s u held n;
      };
      back = λ u e n. (
          elim (cases_eq s u) as (λ _. has u new.free ≡ true) [
            | inl same ↦ subst (λ v. has v new.free ≡ true) same t.free
            | inr apart ↦ (
                elim (or_cases (has u old.free) (has u (s ∷ held)) e) as (λ _. has u new.free ≡ true) [
                  | inl f ↦ sym (t.others u (λ e. apart (sym e))) ∙ f
                  | inr y ↦ absurd (false≢true (sym n ∙ sym (has_rest s u held apart) ∙ y))
                ])
          ]);
      count = omega (arith, count);
      size = ap length (sym t.bytes);
    }

-- a slot is written: each that is of the pool stays so
pub still_put : (old : Slots) (s : ℕ) (bytes : List ℕ) → length bytes ≡ SLOT_BYTES → IsSlotOf old s → (u : ℕ) →
    IsSlotOf old u →
    IsSlotOf (record old { bytes = set old.bytes s bytes }) u
still_put old s bytes wide here u of =
    record {
      within = subst (λ n. u < n) (sym (length-set old.bytes s bytes)) of.within;
      held = of.held;
      size = elim (cases_eq s u) as (λ _. length (get_or (set old.bytes s bytes) u []) ≡ SLOT_BYTES) [
        | inl e ↦ (
            let own = ap length (get_or-set_same old.bytes s bytes [] here.within) ∙ wide in
            subst (λ v. length (get_or (set old.bytes s bytes) v []) ≡ SLOT_BYTES) e own)
        | inr apart ↦ ap length (get_or-set_other old.bytes s u bytes [] (λ e. apart (sym e))) ∙ of.size
      ];
    }

-- a slot that is held is written
pub keeps_put : (old : Slots) (s : ℕ) (bytes : List ℕ) (held : List ℕ) → length bytes ≡ SLOT_BYTES → has s held ≡ true →
    Holds old held → Keeps old (record old { bytes = set old.bytes s bytes }) held held
keeps_put old s bytes held wide y h =
    let still = still_put old s bytes wide (h.of s y) in
    record {
      holds = record { of = λ u z. still u (h.of u z); apart = h.apart };
      others = λ u of n. record {
        of = still u of;
        bytes = get_or-set_other old.bytes s u bytes [] (λ e. two s u held y n (sym e));
        apart = n;
      };
      back = λ u e n. (
          elim (or_cases (has u old.free) (has u held) e) as (λ _. has u old.free ≡ true) [
            | inl f ↦ f
            | inr z ↦ absurd (false≢true (sym n ∙ z))
          ]);
      count = refl;
      size = length-set old.bytes s bytes;
    }
