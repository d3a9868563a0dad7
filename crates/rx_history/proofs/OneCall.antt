-- How the slots that calls hold beside their own, and how many of them live, go on where one call changes or starts.
use Rattle.std.proofs.Common.{◌≡◌, ◌+◌, ℕ, suc, cond, if◌then◌else◌, Bool, true, false, List, [], ◌∷◌, ◌++◌, map}
use Rattle.std.proofs.Common.{Option, Some, None, refl}
use Rattle.std.proofs.Common.{ap, subst, arith}
use Rattle.std.specs.List.{find}
use Rattle.rx_model.specs.declared.names.CallName.{CallName}
use Rattle.rx_model.specs.Names.{same_name}
use Rattle.rx_rules.specs.CallLooks.{fresh_call}
use Rattle.rx_rules.specs.Life.{Life, is_live}
use Rattle.rx_rules.specs.Looks.{CallRecord, Looks, call_at, on_call}
use Rattle.rx_rules.specs.Records.{started, with_call}
use Rattle.rx_rules.specs.Setup.{Setup, pace_of}
use Rattle.rx_rules.specs.Slots.{beside, beside_all, common, count_live, live}
use Rattle.rx_model.proofs.NameLaws.{name_is}
use Rattle.rx_rules.proofs.CallsLaws.{changed_if}
use Rattle.rx_rules.proofs.EveryLaws.{Every}
use Rattle.rx_rules.proofs.FindLaws.{list_any-none, list_any-some}
use Rattle.rx_history.proofs.Differ.{Differ, by_name, none_change}

-- ---- any weight of calls

abbrev total : (CallRecord → ℕ) → List CallRecord → ℕ
total weight [] = 0
total weight (k ∷ ks) = weight k + total weight ks

-- of a call that is looked for; one that never started has none
abbrev pub weight_at : (CallRecord → ℕ) → Option CallRecord → ℕ
weight_at weight None = 0
weight_at weight (Some k) = weight k

total-one : (weight : CallRecord → ℕ) (c : CallName) (change : CallRecord
    → CallRecord) (ks : List CallRecord) (k : CallRecord) → Differ by_name ks
    → find (λ j. same_name j.name c) ks ≡ Some k
    → total weight (map (changed_if c change) ks) + weight k ≡ total weight ks + weight (change k)
total-one weight c change [] k differ there = absurd cc
total-one weight c change (j ∷ ks) k differ there =
    (elim (same_name j.name c) as (λ b. same_name j.name c ≡ b
    → cond b (Some j) (find (λ j. same_name j.name c) ks) ≡ Some k
    → weight (cond b (change j) j) + total weight (map (changed_if c change) ks) + weight k
    ≡ weight j + total weight ks + weight (change k)) [
      | true ↦ λ own is. (
          let same : j ≡ k = cc (is) in
          let others = subst (λ (n : CallName). Every (λ (i : CallRecord). same_name i.name n ≡ false) ks)
          (name_is j.name c own) differ.0 in
          let stay : total weight (map (changed_if c change) ks) ≡ total weight ks =
          ap (total weight) (none_change (λ i. same_name i.name c) change ks others) in
          let one : weight j ≡ weight k = ap weight same in
          let two : weight (change j) ≡ weight (change k) = ap (λ (i : CallRecord). weight (change i)) same in
          omega arith)
      | false ↦ λ other is. (
          let rest : total weight (map (changed_if c change) ks) + weight k ≡ total weight ks + weight (change k) =
          total-one weight c change ks k differ.1 is in
          omega arith)
    ]) refl there

total-behind : (weight : CallRecord → ℕ) (ks : List CallRecord) (new : CallRecord)
    → total weight (ks ++ new ∷ []) ≡ total weight ks + weight new
total-behind weight [] new = omega arith
total-behind weight (k ∷ ks) new =
    (let rest : total weight (ks ++ new ∷ []) ≡ total weight ks + weight new = total-behind weight ks new in
    omega arith)

total-started : (weight : CallRecord → ℕ) (new : CallRecord) (ks : List CallRecord) → Differ by_name ks
    → (o : Option CallRecord) → find (λ j. same_name j.name new.name) ks ≡ o
    → total weight (with_call new ks) + weight_at weight o ≡ total weight ks + weight new
total-started weight new ks differ None is =
    rw (list_any-none (λ j. same_name j.name new.name) ks is)
    (let rest : total weight (ks ++ new ∷ []) ≡ total weight ks + weight new = total-behind weight ks new in
    omega arith)
total-started weight new ks differ (Some k) is =
    rw (list_any-some (λ j. same_name j.name new.name) ks k is) (total-one weight new.name (λ j. new) ks k differ is)

-- ---- slots

beside-total : (ks : List CallRecord) → beside_all ks ≡ total beside ks
beside-total [] = refl
beside-total (k ∷ ks) = ap (λ (n : ℕ). beside k + n) (beside-total ks)

-- where names differ, a change of one call changes the slots in common as it changes that call's
pub common_one : (c : CallName) (change : CallRecord → CallRecord) (l : Looks) (k : CallRecord)
    → Differ by_name l.calls → call_at l c ≡ Some k
    → common (on_call c change l) + beside k ≡ common l + beside (change k)
common_one c change l k differ there =
    let new : common (on_call c change l) ≡ total beside (on_call c change l).calls = beside-total
    (on_call c change l).calls in
    let old : common l ≡ total beside l.calls = beside-total l.calls in
    let one : total beside (on_call c change l).calls + beside k ≡ total beside l.calls + beside (change k) =
    total-one beside c change l.calls k differ there in
    omega arith

-- a call that starts gives back the slots of an earlier life of its name
pub common_started : (s : Setup) (life : Life) (c : CallName) (l : Looks) → Differ by_name l.calls
    → common (started s life c l) + weight_at beside (call_at l c)
    ≡ common l + beside (record { name = c; life = life; looks = fresh_call (pace_of s) l.now })
common_started s life c l differ =
    let k : CallRecord = record { name = c; life = life; looks = fresh_call (pace_of s) l.now } in
    let new : common (started s life c l) ≡ total beside (with_call k l.calls) = beside-total (with_call k l.calls) in
    let old : common l ≡ total beside l.calls = beside-total l.calls in
    let one : total beside (with_call k l.calls) + weight_at beside (call_at l c) ≡ total beside l.calls + beside k =
    total-started beside k l.calls differ (call_at l c) refl in
    omega arith

-- ---- how many live

-- 1 for a call that lives
abbrev pub life_of : CallRecord → ℕ
life_of k = if is_live k.life then 1 else 0

live-total : (ks : List CallRecord) → count_live ks ≡ total life_of ks
live-total [] = refl
live-total (k ∷ ks) = of (is_live k.life) (live-total ks)
  where
    of : (b : Bool) → count_live ks ≡ total life_of ks
        → (if b then suc (count_live ks) else count_live ks) ≡ (if b then 1 else 0) + total life_of ks
    of true rest = omega arith
    of false rest = omega arith

-- where names differ, a change of one call changes how many live as it changes that call
pub live_one : (c : CallName) (change : CallRecord → CallRecord) (l : Looks) (k : CallRecord)
    → Differ by_name l.calls → call_at l c ≡ Some k
    → live (on_call c change l) + life_of k ≡ live l + life_of (change k)
live_one c change l k differ there =
    let new : live (on_call c change l) ≡ total life_of (on_call c change l).calls = live-total
    (on_call c change l).calls in
    let old : live l ≡ total life_of l.calls = live-total l.calls in
    let one : total life_of (on_call c change l).calls + life_of k ≡ total life_of l.calls + life_of (change k) =
    total-one life_of c change l.calls k differ there in
    omega arith

-- a call that starts is one more, in place of an earlier life of its name
pub live_started : (s : Setup) (life : Life) (c : CallName) (l : Looks) → Differ by_name l.calls
    → live (started s life c l) + weight_at life_of (call_at l c)
    ≡ live l + life_of (record { name = c; life = life; looks = fresh_call (pace_of s) l.now })
live_started s life c l differ =
    let k : CallRecord = record { name = c; life = life; looks = fresh_call (pace_of s) l.now } in
    let new : live (started s life c l) ≡ total life_of (with_call k l.calls) = live-total (with_call k l.calls) in
    let old : live l ≡ total life_of l.calls = live-total l.calls in
    let one : total life_of (with_call k l.calls) + weight_at life_of
    (call_at l c) ≡ total life_of l.calls + life_of k =
    total-started life_of k l.calls differ (call_at l c) refl in
    omega arith
