-- All calls are made, and no key is there.
use Rattle.std.proofs.Common.{◌≡◌, ◌≢◌, inl, inr, ◌≤◌, true, false, ℕ, List, [], ◌∷◌, ◌++◌, Option, Some, None}
use Rattle.std.proofs.Common.{IsSomeAnd, length, get_or, sym, ap, ◌∙◌, subst, arith}
use Rattle.std.proofs.lemmas.Bool.{cases_Bool, cases_eq, false≢true}
use Rattle.slab.specs.Slab.{Slab, get, slab_len, Updates}
use Rattle.rx_pool.specs.Pool.{has, HasNoRepeat}
use Rattle.rx_pool.proofs.Numbers.{has_first, has_rest, has_push, no_repeat_push}
use Rattle.rx_call.specs.Standing.{EndOfCall}
use Rattle.rx_call.specs.Kept.{IsIdleOf}
use Rattle.rx_call.specs.Keys.{there_from, HasSoundKeys}
use Rattle.rx_call.proofs.KeyLaws.{free_is_absent, not_free, count_none}
use Rattle.rx_model.specs.declared.pace.Pace.{Pace}

-- each call is idle and its key free
pub record AllFree (calls : Slab EndOfCall) (free : List ℕ) (pace : Pace) : Type 0 where
  pub apart : HasNoRepeat free
  pub idle : (key : ℕ) → has key free ≡ true → IsSomeAnd (get calls key) (IsIdleOf pace)
  pub rest : (key : ℕ) → has key free ≡ false → get calls key ≡ None

-- one more
pub one_more : (old new : Slab EndOfCall) (free after : List ℕ) (key : ℕ) (pace : Pace) (c : EndOfCall) →
    after ≡ free ++ key ∷ [] → get old key ≡ None → Updates old new key (Some c) → IsIdleOf pace c →
    AllFree old free pace → AllFree new after pace
one_more old new free after key pace c is vacant updates idle so =
    let fresh : has key free ≡ false = (
    elim (cases_Bool (has key free)) as (λ _. has key free ≡ false) [
      | inl had ↦
          absurd (subst (λ (o : Option EndOfCall). IsSomeAnd o (IsIdleOf pace)) vacant (so.idle key had))
      | inr n ↦ n
    ]) in
    let same : (q : ℕ) → key ≢ q → has q after ≡ has q free = (λ q other.
    ap (has q) is ∙ has_push key q free ∙ has_rest key q free other) in
    let first : has key after ≡ true = ap (has key) is ∙ has_push key key free ∙ has_first key free in
    record {
      apart = subst HasNoRepeat (sym is) (no_repeat_push key free so.apart fresh);
      idle = λ q h. (elim (cases_eq key q) as (λ _. IsSomeAnd (get new q) (IsIdleOf pace)) [
        | inl e ↦
            subst (λ n. IsSomeAnd (get new n) (IsIdleOf pace)) e
            (subst (λ (o : Option EndOfCall). IsSomeAnd o (IsIdleOf pace)) (sym updates.changed) idle)
        | inr other ↦
            subst (λ (o : Option EndOfCall). IsSomeAnd o (IsIdleOf pace))
            (sym (updates.others q (λ e. other (sym e)))) (so.idle q (sym (same q other) ∙ h))
      ]);
      rest = λ q h. (elim (cases_eq key q) as (λ _. get new q ≡ None) [
        | inl e ↦ absurd (false≢true (sym (ap (λ n. has n after) e ∙ h) ∙ first))
        | inr other ↦ updates.others q (λ e. other (sym e)) ∙ so.rest q (sym (same q other) ∙ h)
      ]);
    }

-- no key is there
pub none_there : (calls : Slab EndOfCall) (free : List ℕ) (pace : Pace) → AllFree calls free pace → (key : ℕ) →
    get_or (there_from free 0 calls.slots) key None ≡ None
none_there calls free pace so key =
    elim (cases_Bool (has key free)) as (λ _. get_or (there_from free 0 calls.slots) key None ≡ None) [
      | inl is ↦ free_is_absent free calls.slots key is
      | inr n ↦ not_free free calls.slots key n ∙ so.rest key n
    ]

pub all_kept : (calls : Slab EndOfCall) (free : List ℕ) (pace : Pace) (capacity n : ℕ) → AllFree calls free pace →
    slab_len calls ≡ n → length free ≡ n → n ≤ capacity → HasSoundKeys calls.slots free pace capacity
all_kept calls free pace capacity n so count size room =
    let none = count_none (there_from free 0 calls.slots) (none_there calls free pace so) in
    record {
      apart = so.apart;
      idle = so.idle;
      counted = omega (arith, none, count, size);
      room = omega (arith, count, room);
    }
