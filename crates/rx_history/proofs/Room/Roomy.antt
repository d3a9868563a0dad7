-- The calls of a node whose names differ, each of which keeps what it needs, and which hold no more than they may.
use Rattle.std.proofs.Common.{◌≡◌, ◌≤◌, ◌+◌, ◌-◌, ℕ, cond, Bool, true, false, List, [], ◌∷◌, ◌++◌, map, Option, Some}
use Rattle.std.proofs.Common.{refl}
use Rattle.std.proofs.Common.{ap, sym, subst, arith}
use Rattle.std.specs.List.{find, list_any}
use Rattle.rx_model.specs.declared.names.CallName.{CallName}
use Rattle.rx_model.specs.Names.{same_name}
use Rattle.rx_rules.specs.Looks.{CallRecord}
use Rattle.rx_rules.specs.Records.{with_call}
use Rattle.rx_rules.specs.Slots.{beside, beside_all}
use Rattle.rx_model.proofs.NameLaws.{name_is, name_sym}
use Rattle.rx_rules.proofs.CallsLaws.{KeepsNames, changed_if, changed_if-name}
use Rattle.rx_rules.proofs.EveryLaws.{Every, every-append}
use Rattle.rx_rules.proofs.StartLaws.{replaced}
use Rattle.rx_history.proofs.Differ.{Differ, by_name, differ_map, differ_more, every_found, every_map, every_other}
use Rattle.rx_history.proofs.Differ.{none_change}
use Rattle.rx_history.proofs.Room.Tight.{Gives, TightOf, gives_if, gives_refl}

-- names differ, each call has what it needs, and they hold at most so many slots beside their own
pub record Roomy (client : Bool) (most : ℕ) (ks : List CallRecord) : Type 0 where
  pub differ : Differ by_name ks
  pub tight : Every (TightOf client) ks
  pub within : beside_all ks ≤ most

-- ---- every call changes

names-stay : (change : CallRecord → CallRecord) → KeepsNames change → (a b : CallRecord)
    → by_name (change a) (change b) ≡ by_name a b
names-stay change names a b =
    let left : (change a).name ≡ a.name = names a in
    let right : (change b).name ≡ b.name = names b in
    λ i. same_name (left i) (right i)

less-all : (client : Bool) (change : CallRecord → CallRecord) (ks : List CallRecord)
    → ((k : CallRecord) → Gives client k (change k))
    → beside_all (map change ks) ≤ beside_all ks
less-all client change [] gives = omega arith
less-all client change (k ∷ ks) gives =
    let here = (gives k).less in
    let rest = less-all client change ks gives in
    omega arith

-- each by a change that takes no slot
pub roomy_all : (client : Bool) (most : ℕ) (change : CallRecord → CallRecord) (ks : List CallRecord)
    → ((k : CallRecord) → Gives client k (change k)) → Roomy client most ks → Roomy client most (map change ks)
roomy_all client most change ks gives r =
    record {
      differ = differ_map by_name change ks (names-stay change (λ k. (gives k).name)) r.differ;
      tight = every_map (TightOf client) (TightOf client) change ks (λ k t. (gives k).tight t) r.tight;
      within = (let less = less-all client change ks gives in let low = r.within in omega arith);
    }

-- the call of a name alone
pub roomy_one : (client : Bool) (most : ℕ) (c : CallName) (change : CallRecord → CallRecord) (ks : List CallRecord)
    → ((k : CallRecord) → Gives client k (change k)) → Roomy client most ks
    → Roomy client most (map (changed_if c change) ks)
roomy_one client most c change ks gives r =
    roomy_all client most (changed_if c change) ks (λ k. gives_if client (same_name k.name c) k (change k) (gives k)) r

-- ---- the call of a name takes slots

-- a change that takes at most so many
pub record Takes (client : Bool) (left : ℕ) (a b : CallRecord) : Type 0 where
  pub more : beside b ≤ beside a + left
  pub tight : TightOf client b

abbrev called : CallName → List CallRecord → Option CallRecord
called c ks = find (λ k. same_name k.name c) ks

none-named : (c : CallName) (k : CallRecord) (ks : List CallRecord) → same_name k.name c ≡ true
    → Every (λ j. by_name j k ≡ false) ks → Every (λ j. same_name j.name c ≡ false) ks
none-named c k ks own others = subst (λ (n : CallName). Every (λ j. same_name j.name n ≡ false) ks)
    (name_is k.name c own) others

module _ (c : CallName) (change : CallRecord → CallRecord) where
  one-more : (left : ℕ) (ks : List CallRecord) → Differ by_name ks
      → ((k : CallRecord) → called c ks ≡ Some k → beside (change k) ≤ beside k + left)
      → beside_all (map (changed_if c change) ks) ≤ beside_all ks + left
  one-more left [] differ more = omega arith
  one-more left (k ∷ ks) differ more =
      (elim (same_name k.name c) as (λ b. same_name k.name c ≡ b
      → ((j : CallRecord) → cond b (Some k) (called c ks) ≡ Some j → beside (change j) ≤ beside j + left)
      → beside (cond b (change k) k) + beside_all (map (changed_if c change) ks) ≤ beside k + beside_all ks + left) [
        | true ↦ λ own more. (
            let here = more k refl in
            let same : map (changed_if c change) ks ≡ ks = none_change (λ j. same_name j.name c) change ks
            (none-named c k ks own differ.0) in
            let sums : beside_all (map (changed_if c change) ks) ≡ beside_all ks = ap beside_all same in
            omega arith)
        | false ↦ λ other more. (let rest = one-more left ks differ.1 more in omega arith)
      ]) refl more

  one-every : (P : CallRecord → Type 0) (ks : List CallRecord) → Differ by_name ks → Every P ks
      → ((k : CallRecord) → called c ks ≡ Some k → P k → P (change k)) → Every P (map (changed_if c change) ks)
  one-every P [] differ all keeps = tt
  one-every P (k ∷ ks) differ all keeps =
      (elim (same_name k.name c) as (λ b. same_name k.name c ≡ b
      → ((j : CallRecord) → cond b (Some k) (called c ks) ≡ Some j → P j → P (change j))
      → P (cond b (change k) k) × Every P (map (changed_if c change) ks)) [
        | true ↦ λ own keeps. (
          keeps k refl all.0,
          subst (λ (js : List CallRecord). Every P js)
              (sym (none_change (λ j. same_name j.name c) change ks (none-named c k ks own differ.0))) all.1,
        )
        | false ↦ λ other keeps. (all.0, one-every P ks differ.1 all.1 keeps)
      ]) refl keeps

  -- it takes at most what is left
  pub roomy_takes : (client : Bool) (most : ℕ) (ks : List CallRecord) → KeepsNames change
      → ((k : CallRecord) → called c ks ≡ Some k → TightOf client k → Takes client (most - beside_all ks) k (change k))
      → Roomy client most ks → Roomy client most (map (changed_if c change) ks)
  roomy_takes client most ks names takes r =
      record {
        differ =
            differ_map by_name (changed_if c change) ks
            (names-stay (changed_if c change) (λ k. changed_if-name (same_name k.name c) change k (names k))) r.differ;
        tight = one-every (TightOf client) ks r.differ r.tight (λ k there t. (takes k there t).tight);
        within = (
            let more = one-more (most - beside_all ks) ks r.differ (λ k there. (takes k there (found k there)).more) in
            let low = r.within in
            omega arith);
      }
    where
      found : (k : CallRecord) → called c ks ≡ Some k → TightOf client k
      found k there = every_found (TightOf client) (λ j. same_name j.name c) ks k r.tight there

-- ---- a call starts

replaced-gives : (client : Bool) (new k : CallRecord) → TightOf client new → beside new ≡ 0
    → Gives client k (replaced new k)
replaced-gives client new k tight none =
    (elim (same_name k.name new.name) as (λ b. same_name k.name new.name ≡ b → Gives client k (cond b new k)) [
      | true ↦ λ same. record { name = sym (name_is k.name new.name same); less = omega arith; tight = λ t. tight }
      | false ↦ λ other. gives_refl client k
    ]) refl

beside-behind : (ks : List CallRecord) (new : CallRecord) → beside new ≡ 0 → beside_all (ks ++ new ∷ []) ≡ beside_all ks
beside-behind [] new none = omega arith
beside-behind (k ∷ ks) new none =
    (let rest : beside_all (ks ++ new ∷ []) ≡ beside_all ks = beside-behind ks new none in omega arith)

-- one that holds nothing
pub roomy_starts : (client : Bool) (most : ℕ) (new : CallRecord) (ks : List CallRecord) → TightOf client new
    → beside new ≡ 0
    → Roomy client most ks → Roomy client most (with_call new ks)
roomy_starts client most new ks tight none r =
    (elim (list_any (λ k. same_name k.name new.name) ks) as (λ b. list_any (λ k. same_name k.name new.name) ks ≡ b
    → Roomy client most (cond b (map (replaced new) ks) (ks ++ new ∷ []))) [
      | true ↦ λ any. roomy_all client most (replaced new) ks (λ k. replaced-gives client new k tight none) r
      | false ↦ λ apart. record {
        differ = differ_more by_name ks new (λ a b. name_sym a.name b.name)
            (every_other (λ k. same_name k.name new.name) ks apart) r.differ;
        tight = every-append (TightOf client) ks (new ∷ []) r.tight (tight, tt);
        within = (let same : beside_all (ks ++ new ∷ []) ≡ beside_all ks = beside-behind ks new none in
            let low = r.within in omega arith);
      }
    ]) refl
