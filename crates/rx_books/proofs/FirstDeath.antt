-- The moment at which the first call of a node would die.
use Rattle.std.proofs.Common.{◌≡◌, ◌≤◌, ◌+◌, ◌⊎◌, ℕ, cond, Bool, true, false, List, [], ◌∷◌}
use Rattle.std.proofs.Common.{nat_le}
use Rattle.std.proofs.Common.{Option, Some, None, refl, ◌∙◌, ap, sym, subst, arith, if◌then◌else◌, inl, inr}
use Rattle.std.specs.Prelude.{IfSome}
use Rattle.std.specs.List.{find}
use Rattle.std.proofs.lemmas.Bool.Decides.{nat_tests}
use Rattle.rx_model.specs.declared.names.CallName.{CallName}
use Rattle.rx_model.specs.declared.wire.TheConstants.{SILENCE_MS}
use Rattle.rx_model.specs.Names.{Channel, channel_of, same_name}
use Rattle.rx_rules.specs.Classes.{Class}
use Rattle.rx_rules.specs.Items.{deaths}
use Rattle.rx_rules.specs.Least.{least_by, lesser_by}
use Rattle.rx_rules.specs.Life.{is_active}
use Rattle.rx_rules.specs.Looks.{CallRecord, Looks, call_at, latest, latest_name}
use Rattle.rx_rules.proofs.EveryLaws.{Every}
use Rattle.rx_rules.proofs.LeastLaws.{least-keeps}
use Rattle.rx_node.specs.Due.{death_of}
use Rattle.rx_node.specs.Mirrors.{IsChannel, Mirrors}
use Rattle.rx_node.specs.Node.{NodeState, setup_of}
use Rattle.rx_node.proofs.CallChanges.{FoundIn, every_own}
use Rattle.rx_node.proofs.CallLoops.{live_at}
use Rattle.rx_node.proofs.LifeLaws.{live_if_active}

-- ---- the least of a list of moments

-- a moment is there, and at most this one
abbrev pub AtMost : Option ℕ → ℕ → Type 0
AtMost None m = ⊥
AtMost (Some d) m = d ≤ m

-- a moment is one of a list
abbrev pub Has : ℕ → List ℕ → Type 0
Has d [] = ⊥
Has d (x ∷ xs) = (x ≡ d) ⊎ Has d xs

moments-lesser : (x : ℕ) (o : Option ℕ) → lesser_by (λ m. m) x o ≤ x
moments-lesser x None = omega arith
moments-lesser x (Some y) =
    (elim (nat_le x y) as (λ b. nat_le x y ≡ b → (if b then x else y) ≤ x) [
      | true ↦ λ is. omega arith
      | false ↦ λ is. (let less : y ≤ x = grind (arith, nat_tests, is) in less)
    ]) refl

pub moments-other : (x y : ℕ) → lesser_by (λ m. m) x (Some y) ≤ y
moments-other x y =
    (elim (nat_le x y) as (λ b. nat_le x y ≡ b → (if b then x else y) ≤ y) [
      | true ↦ λ is. (let less : x ≤ y = grind (arith, nat_tests, is) in less)
      | false ↦ λ is. omega arith
    ]) refl

-- the least of those is at most each
pub least-low : (xs : List ℕ) (d : ℕ) → Has d xs → AtMost (least_by (λ m. m) xs) d
least-low [] d has = absurd has
least-low (x ∷ xs) d (inl is) = (let low = moments-lesser x (least_by (λ m. m) xs) in omega arith)
least-low (x ∷ xs) d (inr has) = of (least_by (λ m. m) xs) (least-low xs d has)
  where
    of : (o : Option ℕ) → AtMost o d → lesser_by (λ m. m) x o ≤ d
    of None low = absurd low
    of (Some y) low = (let less = moments-other x y in omega arith)

-- a moment that is at most each, and one of them where it is there, is the least
pub least_is : (xs : List ℕ) (o : Option ℕ) → Every (AtMost o) xs → IfSome o (λ d. Has d xs) → o ≡ least_by (λ m. m) xs
least_is [] None all has = refl
least_is (x ∷ xs) None all has = absurd all.0
least_is xs (Some d) all has = of (least_by (λ m. m) xs) refl (least-low xs d has)
  where
    of : (o : Option ℕ) → least_by (λ m. m) xs ≡ o → AtMost o d → Some d ≡ o
    of None is low = absurd low
    of (Some e) is low =
        (let high : d ≤ e = least-keeps (λ m. d ≤ m) (λ m. m) xs all e is in
        let same : d ≡ e = omega arith in
        ap (λ (m : ℕ). Some m) same)

-- ---- deaths

-- a call that would die is one of them
pub has-death : (p : CallRecord → Bool) (ks : List CallRecord) (k : CallRecord) → find p ks ≡ Some k
    → is_active k.life ≡ true → Has (k.looks.heard + SILENCE_MS) (deaths ks)
has-death p [] k found active = absurd (cc (found))
has-death p (j ∷ ks) k found active =
    (elim (p j) as (λ b. cond b (Some j) (find p ks) ≡ Some k
    → Has (k.looks.heard + SILENCE_MS)
    (if is_active j.life then (j.looks.heard + SILENCE_MS) ∷ deaths ks else deaths ks)) [
      | true ↦ λ is. (
          let same : j ≡ k = cc (is) in
          subst (λ (i : CallRecord). Has (k.looks.heard + SILENCE_MS)
          (if is_active i.life then (i.looks.heard + SILENCE_MS) ∷ deaths ks else deaths ks)) (sym same)
          (subst (λ (b : Bool). Has (k.looks.heard + SILENCE_MS)
          (if b then (k.looks.heard + SILENCE_MS) ∷ deaths ks else deaths ks)) (sym active) (inl refl)))
      | false ↦ λ is. behind (is_active j.life) (has-death p ks k is active)
    ]) found
  where
    behind : (b : Bool) → Has (k.looks.heard + SILENCE_MS) (deaths ks)
        → Has (k.looks.heard + SILENCE_MS) (if b then (j.looks.heard + SILENCE_MS) ∷ deaths ks else deaths ks)
    behind true has = inr has
    behind false has = has

-- what holds of the death of each call that is active holds of each
every-death : (P : ℕ → Type 0) (all ks : List CallRecord) → Every (FoundIn all) ks
    → ((k : CallRecord) → FoundIn all k → is_active k.life ≡ true → P (k.looks.heard + SILENCE_MS))
    → Every P (deaths ks)
every-death P all [] own each = tt
every-death P all (k ∷ ks) own each =
    (elim (is_active k.life) as (λ b. is_active k.life ≡ b
    → Every P (if b then (k.looks.heard + SILENCE_MS) ∷ deaths ks else deaths ks)) [
      | true ↦ λ active. (each k own.0 active, every-death P all ks own.1 each)
      | false ↦ λ idle. every-death P all ks own.1 each
    ]) refl

-- ---- channel by channel

-- a call that would die at this moment
pub record DiesAt (l : Looks) (d : ℕ) : Type 0 where
  pub name : CallName
  pub call : CallRecord
  pub there : call_at l name ≡ Some call
  pub active : is_active call.life ≡ true
  pub is : d ≡ call.looks.heard + SILENCE_MS

pub death_dies : (l : Looks) (ch : Channel) (o : Option CallRecord) → latest l ch ≡ o → IfSome (death_of o) (DiesAt l)
death_dies l ch None is = tt
death_dies l ch (Some k) is =
    (elim (is_active k.life) as (λ b. is_active k.life ≡ b
    → IfSome (if b then Some (k.looks.heard + SILENCE_MS) else None) (DiesAt l)) [
      | true ↦ λ active. record { name = latest_name l ch; call = k; there = is; active = active; is = refl }
      | false ↦ λ idle. tt
    ]) refl

-- a moment that is at most each channel's death, and one of them where it is there, is the first
pub first_death : (class : List ℕ → Class) (n : NodeState) (l : Looks) → Mirrors class n l → (first : Option ℕ)
    → ((key : ℕ) (ch : Channel) (k : CallRecord) → IsChannel l key ch → latest l ch ≡ Some k
    → is_active k.life ≡ true → AtMost first (k.looks.heard + SILENCE_MS))
    → IfSome first (DiesAt l) → first ≡ least_by (λ moment. moment) (deaths l.calls)
first_death class n l m first low dies =
    least_is (deaths l.calls) first
    (every-death (AtMost first) l.calls l.calls (every_own l.calls m.roomy.differ)
    (λ k own active. (
    let lives = live_at (setup_of class n) l m.orderly m.roomy.differ m.numbered k own.found
    (live_if_active k.life active) in
    low lives.key (channel_of k.name) k lives.channel
    (ap (λ (c : CallName). call_at l c) lives.latest_is ∙ own.found) active)))
    (of first dies)
  where
    of : (o : Option ℕ) → IfSome o (DiesAt l) → IfSome o (λ d. Has d (deaths l.calls))
    of None dies = tt
    of (Some d) dies =
        subst (λ (e : ℕ). Has e (deaths l.calls)) (sym dies.is)
        (has-death (λ j. same_name j.name dies.name) l.calls dies.call dies.there dies.active)
