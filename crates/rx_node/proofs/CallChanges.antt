-- Changes of calls that change none, and changes of many calls as changes of each channel's latest.
use Rattle.std.proofs.Common.{◌≡◌, cond, Bool, true, false, List, [], ◌∷◌, map}
use Rattle.std.proofs.Common.{Some, refl, ◌∙◌, ap, sym}
use Rattle.std.specs.List.{find}
use Rattle.rx_model.specs.declared.names.CallName.{CallName}
use Rattle.rx_model.specs.Names.{same_name}
use Rattle.rx_rules.specs.Looks.{CallRecord, Looks, call_at, on_call}
use Rattle.rx_model.proofs.NameLaws.{name_is, name_itself, name_sym}
use Rattle.rx_rules.proofs.CallsLaws.{changed_if}
use Rattle.rx_rules.proofs.EveryLaws.{Every}
use Rattle.rx_history.proofs.Differ.{Differ, by_name}

-- ---- a change of one call

-- of a list whose names differ, a call in it is the one of its name
pub found_own : (ks : List CallRecord) (k : CallRecord) → Differ by_name (k ∷ ks)
    → find (λ j. same_name j.name k.name) (k ∷ ks) ≡ Some k
found_own ks k differ = ap (λ (b : Bool). cond b (Some k) (find (λ j. same_name j.name k.name) ks)) (name_itself k.name)

-- each call of a list whose names differ is found by its name
pub record FoundIn (ks : List CallRecord) (k : CallRecord) : Type 0 where
  pub found : find (λ j. same_name j.name k.name) ks ≡ Some k

pub every_own : (ks : List CallRecord) → Differ by_name ks → Every (FoundIn ks) ks
every_own [] differ = tt
every_own (k ∷ ks) differ =
    (record { found = found_own ks k differ }, behind ks differ.0 (every_own ks differ.1))
  where
    behind : (js : List CallRecord) → Every (λ j. by_name j k ≡ false) js → Every (FoundIn ks) js
        → Every (FoundIn (k ∷ ks)) js
    behind [] apart own = tt
    behind (j ∷ js) apart own = (
      record {
        found = ap (λ (b : Bool). cond b (Some k) (find (λ i. same_name i.name j.name) ks))
            (name_sym k.name j.name ∙ apart.0) ∙ own.0.found;
      },
      behind js apart.1 own.1,
    )

-- a change that leaves each call of a list as it was
pub map_same : (f : CallRecord → CallRecord) (ks : List CallRecord) → Every (λ k. f k ≡ k) ks → map f ks ≡ ks
map_same f [] all = refl
map_same f (k ∷ ks) all =
    ap (λ (j : CallRecord). j ∷ map f ks) all.0 ∙ ap (λ (js : List CallRecord). k ∷ js) (map_same f ks all.1)

-- two changes that are one on each call of a list
pub map_both : (f g : CallRecord → CallRecord) (ks : List CallRecord) → Every (λ k. f k ≡ g k) ks → map f ks ≡ map g ks
map_both f g [] all = refl
map_both f g (k ∷ ks) all =
    ap (λ (j : CallRecord). j ∷ map f ks) all.0 ∙ ap (λ (js : List CallRecord). g k ∷ js) (map_both f g ks all.1)

-- from one fact on each to another
pub every_then : (P Q : CallRecord → Type 0) (ks : List CallRecord) → ((k : CallRecord) → P k → Q k)
    → Every P ks → Every Q ks
every_then P Q [] then_ all = tt
every_then P Q (k ∷ ks) then_ all = (then_ k all.0, every_then P Q ks then_ all.1)

-- a change of the call of a name that leaves it as it was
pub same_call : (c : CallName) (f : CallRecord → CallRecord) (l : Looks) → Differ by_name l.calls
    → ((k : CallRecord) → call_at l c ≡ Some k → f k ≡ k) → on_call c f l ≡ l
same_call c f l differ same =
    ap (λ (ks : List CallRecord). record l { calls = ks })
    (map_same (changed_if c f) l.calls
    (every_then (FoundIn l.calls) (λ k. changed_if c f k ≡ k) l.calls each (every_own l.calls differ)))
  where
    each : (k : CallRecord) → FoundIn l.calls k → changed_if c f k ≡ k
    each k own =
        (elim (same_name k.name c) as (λ b. same_name k.name c ≡ b → cond b (f k) k ≡ k) [
          | true ↦ λ is. same k (ap (λ (d : CallName). call_at l d) (sym (name_is k.name c is)) ∙ own.found)
          | false ↦ λ other. refl
        ]) refl

-- two changes of the call of a name that are one on it
pub same_change : (c : CallName) (f g : CallRecord → CallRecord) (l : Looks) → Differ by_name l.calls
    → ((k : CallRecord) → call_at l c ≡ Some k → f k ≡ g k) → on_call c f l ≡ on_call c g l
same_change c f g l differ same =
    ap (λ (ks : List CallRecord). record l { calls = ks })
    (map_both (changed_if c f) (changed_if c g) l.calls
    (every_then (FoundIn l.calls) (λ k. changed_if c f k ≡ changed_if c g k) l.calls each (every_own l.calls differ)))
  where
    each : (k : CallRecord) → FoundIn l.calls k → changed_if c f k ≡ changed_if c g k
    each k own =
        (elim (same_name k.name c) as (λ b. same_name k.name c ≡ b → cond b (f k) k ≡ cond b (g k) k) [
          | true ↦ λ is. same k (ap (λ (d : CallName). call_at l d) (sym (name_is k.name c is)) ∙ own.found)
          | false ↦ λ other. refl
        ]) refl
