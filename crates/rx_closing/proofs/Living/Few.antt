-- Of calls of different names, each of which is one of a list while it lives, no more live than there are in the list;
-- and fewer, where one of these doesn't live.
use Rattle.std.proofs.Common.{◌≡◌, inl, inr, ◌≤◌, ◌<◌, ℕ, suc, cond, Bool, true, false, List, [], ◌∷◌, length, Option}
use Rattle.std.proofs.Common.{Some, refl, ap, sym, subst, ◌∙◌, arith}
use Rattle.std.specs.List.{find}
use Rattle.rx_model.specs.declared.names.CallName.{CallName}
use Rattle.rx_model.specs.Names.{same_name}
use Rattle.rx_model.proofs.NameLaws.{name_is, name_itself}
use Rattle.rx_rules.specs.Life.{is_live}
use Rattle.rx_rules.specs.Looks.{CallRecord, Looks, call_at}
use Rattle.rx_rules.specs.Slots.{count_live, live}
use Rattle.rx_rules.proofs.EveryLaws.{Every}
use Rattle.rx_rules.proofs.FindLaws.{find_passes}
use Rattle.rx_history.proofs.Differ.{Differ, by_name, every_found}
use Rattle.rx_between.proofs.Each.EachItem.{In}
use Rattle.rx_closing.proofs.Frame.{AreAmong}

-- ---- a list without a name

-- where it stands first
abbrev pub without : CallName → List CallName → List CallName
without c [] = []
without c (d ∷ ds) = cond (same_name d c) ds (d ∷ without c ds)

-- it has one less
pub without_one : (c : CallName) (ds : List CallName) → In c ds → length ds ≡ suc (length (without c ds))
without_one c [] there = absurd there
without_one c (d ∷ ds) there = by (λ rest. without_one c ds rest) (same_name d c) refl there
  where
    by : (In c ds → length ds ≡ suc (length (without c ds))) → (b : Bool) → same_name d c ≡ b → In c (d ∷ ds)
        → suc (length ds) ≡ suc (length (cond b ds (d ∷ without c ds)))
    by again true same here = refl
    by again false other (inl same) =
        absurd (let own : same_name d c ≡ true = ap (λ (n : CallName). same_name n c) (sym same) ∙ name_itself c in
        let wrong : ◌≡◌ {A = Bool} true false = sym own ∙ other in cc (wrong))
    by again false other (inr rest) = ap (λ (n : ℕ). suc n) (again rest)

-- and all others
pub without_in : (c d : CallName) (ds : List CallName) → same_name d c ≡ false → In d ds → In d (without c ds)
without_in c d [] other there = absurd there
without_in c d (e ∷ ds) other there = by (λ rest. without_in c d ds other rest) (same_name e c) refl there
  where
    by : (In d ds → In d (without c ds)) → (b : Bool) → same_name e c ≡ b → In d (e ∷ ds)
        → In d (cond b ds (e ∷ without c ds))
    by again true same (inl here) =
        absurd (let own : same_name d c ≡ true = ap (λ (n : CallName). same_name n c) here ∙ same in
        let wrong : ◌≡◌ {A = Bool} true false = sym own ∙ other in cc (wrong))
    by again true same (inr rest) = rest
    by again false differs (inl here) = inl here
    by again false differs (inr rest) = inr (again rest)

-- ---- records by their names

module _ (d : CallName) where
  abbrev called : List CallRecord → Option CallRecord
  called ks = find (λ (x : CallRecord). same_name x.name d) ks

  -- one of the others is found behind the first
  found_tail : (j : CallRecord) (ks : List CallRecord) (x : CallRecord)
      → Every (λ (y : CallRecord). by_name y j ≡ false) ks
      → called ks ≡ Some x → called (j ∷ ks) ≡ Some x
  found_tail j ks x apart there = by (same_name j.name d) refl
    where
      by : (b : Bool) → same_name j.name d ≡ b → cond b (Some j) (called ks) ≡ Some x
      by false other = there
      by true same =
          let own : same_name x.name d ≡ true = find_passes (λ (y : CallRecord). same_name y.name d) ks x there in
          let other : same_name x.name j.name ≡ false =
          every_found (λ (y : CallRecord). by_name y j ≡ false) (λ (y : CallRecord). same_name y.name d) ks x apart
          there in
          let one : j.name ≡ d = name_is j.name d same in
          let apart_ : same_name x.name d ≡ false =
          subst (λ (m : CallName). same_name x.name m ≡ false) one other in
          absurd (let wrong : ◌≡◌ {A = Bool} true false = sym own ∙ apart_ in cc (wrong))

-- a record is found by its own name
found_own : (j : CallRecord) (ks : List CallRecord) → called j.name (j ∷ ks) ≡ Some j
found_own j ks = ap (λ (b : Bool). cond b (Some j) (called j.name ks)) (name_itself j.name)

-- what holds of each that is found holds of each
pub every_named : (P : CallRecord → Type 0) (ks : List CallRecord) → Differ by_name ks
    → ((d : CallName) (x : CallRecord) → called d ks ≡ Some x → P x) → Every P ks
every_named P [] differ all = tt
every_named P (k ∷ ks) differ all = (
  all k.name k (found_own k ks),
  every_named P ks differ.1 (λ d x there. all d x (found_tail d k ks x differ.0 there)),
)

-- ---- how many live

-- those that live are others than one that stands before them
each_without : (k : CallRecord) (ks : List CallRecord) (cs : List CallName)
    → Every (λ (y : CallRecord). by_name y k ≡ false) ks
    → Every (λ (y : CallRecord). is_live y.life ≡ true → In y.name cs) ks
    → Every (λ (y : CallRecord). is_live y.life ≡ true → In y.name (without k.name cs)) ks
each_without k [] cs apart all = tt
each_without k (y ∷ ys) cs apart all = (
  λ living. without_in k.name y.name cs apart.0 (all.0 living),
  each_without k ys cs apart.1 all.1,
)

few_count : (ks : List CallRecord) (cs : List CallName) → Differ by_name ks
    → Every (λ (y : CallRecord). is_live y.life ≡ true → In y.name cs) ks → count_live ks ≤ length cs
few_count [] cs differ all = omega arith
few_count (k ∷ ks) cs differ all = by (λ ds each. few_count ks ds differ.1 each) (is_live k.life) refl
  where
    by : ((ds : List CallName) → Every (λ (y : CallRecord). is_live y.life ≡ true → In y.name ds) ks
        → count_live ks ≤ length ds) → (b : Bool) → is_live k.life ≡ b
        → cond b (suc (count_live ks)) (count_live ks) ≤ length cs
    by again false dead = again cs all.1
    by again true living =
        let one = without_one k.name cs (all.0 living) in
        let rest = again (without k.name cs) (each_without k ks cs differ.0 all.1) in
        omega (arith, one, rest)

-- no more than there are
pub few_live : (l : Looks) (cs : List CallName) → Differ by_name l.calls → AreAmong cs l → live l ≤ length cs
few_live l cs differ among =
    few_count l.calls cs differ
    (every_named (λ (y : CallRecord). is_live y.life ≡ true → In y.name cs) l.calls differ
    (λ d x there living. subst (λ (n : CallName). In n cs)
    (sym (name_is x.name d (find_passes (λ (y : CallRecord). same_name y.name d) l.calls x there)))
    (among d x there living)))

-- fewer, where one of them doesn't live there
pub fewer_live : (l : Looks) (cs : List CallName) (c : CallName) → Differ by_name l.calls → AreAmong cs l → In c cs
    → ((r : CallRecord) → call_at l c ≡ Some r → is_live r.life ≡ false) → live l < length cs
fewer_live l cs c differ among there dead =
    (let few = few_live l (without c cs) differ rest in
    let one = without_one c cs there in
    omega (arith, few, one))
  where
    rest : AreAmong (without c cs) l
    rest d r here living = by (same_name d c) refl
      where
        by : (b : Bool) → same_name d c ≡ b → In d (without c cs)
        by false other = without_in c d cs other (among d r here living)
        by true same =
            absurd (let own : d ≡ c = name_is d c same in
            let at : call_at l c ≡ Some r = ap (call_at l) (sym own) ∙ here in
            let wrong : ◌≡◌ {A = Bool} true false = sym living ∙ dead r at in cc (wrong))
