-- What a plan promises, by the laws of legal histories.
use Rattle.std.proofs.Common.{◌≡◌, ◌⊎◌, ℕ, List, [], ◌∷◌, ◌++◌, reverse, Option, Some, None, refl, inl, inr, sym, ◌∙◌}
use Rattle.std.proofs.Common.{subst, arith, slice_get, IfSome, IsSomeAnd}
use Rattle.rx_model.specs.declared.event.Event.{Event}
use Rattle.rx_model.specs.declared.event.Noted.{Noted}
use Rattle.rx_model.specs.declared.names.CallName.{CallName}
use Rattle.rx_rules.specs.Classes.{token}
use Rattle.rx_rules.specs.Rules.{Legal}
use Rattle.rx_rules.specs.Setup.{IsServer}
use Rattle.rx_jobs.specs.Handlers.{Handlers}
use Rattle.rx_history.specs.Counts.{Once}
use Rattle.rx_law.specs.Promises.{LawIn, LawOf, ends_in}
use Rattle.rx_history.specs.Alone.{Entered}
use Rattle.rx_history.specs.Sides.{Node, side}
use Rattle.rx_history.specs.Alone.{ForgotNone}
use Rattle.rx_law.specs.Worlds.{Carried, Sides, TwoEnds, World}
use Rattle.rx_history.proofs.Laws.EnteredLaw.{entered_when_proved}
use Rattle.rx_history.proofs.Laws.OnceLaw.{once_under_forgery}
use Rattle.rx_law.proofs.WorldLaw.{world-law}
use Rattle.rx_script.specs.declared.plan.Numbered.{Numbered}
use Rattle.rx_plan.specs.Follows.{Went, Whole, plan_goes}
use Rattle.rx_plan.specs.Promises.{AreDistinct, AreUnforged, AreInRange, Promised, Promises}
use Rattle.rx_plan.specs.Promises.{plan_nodes}
use Rattle.rx_plan.specs.Stages.{Stage}
use Rattle.rx_plan.proofs.Allowed.{allowed_before, sides_of}
use Rattle.rx_plan.proofs.Bags.{behind_none, carried_before}
use Rattle.rx_plan.proofs.Soundness.Sound.{Good}
use Rattle.rx_plan.proofs.Soundness.SoundPlan.{IsSound, Kept, plan_kept}
use Rattle.rx_plan.proofs.Finishing.{nothing_splits}

-- ---- nodes and sides

-- the history of what was kept
good_reversed : (Honest : Type 0) (nodes : List Node) (es : List Noted) (went : Went) → IsSound Honest nodes es went
    → Good Honest nodes (reverse es)
good_reversed Honest nodes es went kept = subst (Good Honest nodes) (behind_none es) kept.good

-- that of an earlier moment
good_before : (Honest : Type 0) (nodes : List Node) (later now : List Noted) → Good Honest nodes (later ++ now)
    → Good Honest nodes now
good_before Honest nodes later now good =
    record {
      allowed = allowed_before nodes later now good.allowed;
      carried = λ honest. carried_before nodes later now (good.carried honest);
    }

sides_kept : (Honest : Type 0) (nodes : List Node) (es : List Noted) (went : Went) → IsSound Honest nodes es went
    → Sides nodes (reverse es)
sides_kept Honest nodes es went kept =
    sides_of nodes (reverse es) kept.are (good_reversed Honest nodes es went kept).allowed

-- once an event was made, each node that the first lines make has a legal side
pub plans_legal : (g : Handlers) (ls : List Numbered) (es : List Noted) (went : Went) → AreInRange ls
    → plan_goes g ls es went → (es ≡ []) ⊎ Sides (plan_nodes ls) (reverse es)
plans_legal g ls es went well goes = of (plan_kept ⊥ g ls es went (λ never. absurd never) well goes)
  where
    of : Kept ⊥ (plan_nodes ls) es went → (es ≡ []) ⊎ Sides (plan_nodes ls) (reverse es)
    of (inl none) = inl none.0
    of (inr kept) = inr (sides_kept ⊥ (plan_nodes ls) es went kept)

-- where all lines were made, the nodes are those, and have legal sides whatever was made
pub plans_whole : (g : Handlers) (ls : List Numbered) (es : List Noted) (s : Stage) → AreInRange ls
    → plan_goes g ls es (Whole s) → (s.nodes ≡ plan_nodes ls) × Sides (plan_nodes ls) (reverse es)
plans_whole g ls es s well goes = of (plan_kept ⊥ g ls es (Whole s) (λ never. absurd never) well goes)
  where
    of : Kept ⊥ (plan_nodes ls) es (Whole s) → (s.nodes ≡ plan_nodes ls) × Sides (plan_nodes ls) (reverse es)
    of (inl none) = absurd none.1
    of (inr kept) = (kept.whole.0, sides_kept ⊥ (plan_nodes ls) es (Whole s) kept)

-- and their joint history is that of the events
pub plans_end : (g : Handlers) (ls : List Numbered) (es : List Noted) (s : Stage) → AreInRange ls
    → plan_goes g ls es (Whole s) → s.history ≡ reverse es
plans_end g ls es s well goes = of (plan_kept ⊥ g ls es (Whole s) (λ never. absurd never) well goes)
  where
    of : Kept ⊥ (plan_nodes ls) es (Whole s) → s.history ≡ reverse es
    of (inl none) = absurd none.1
    of (inr kept) = kept.whole.1 ∙ behind_none es

-- without forge lines the network invents nothing
pub plans_carry : (g : Handlers) (ls : List Numbered) (es : List Noted) (went : Went) → AreInRange ls → AreUnforged ls
    → plan_goes g ls es went → Carried (plan_nodes ls) (reverse es)
plans_carry g ls es went well fair goes = of (plan_kept (Unit {0}) g ls es went (λ honest. fair) well goes)
  where
    of : Kept (Unit {0}) (plan_nodes ls) es went → Carried (plan_nodes ls) (reverse es)
    of (inl none) = subst (λ xs. Carried (plan_nodes ls) (reverse xs)) (sym none.0) tt
    of (inr kept) = (good_reversed (Unit {0}) (plan_nodes ls) es went kept).carried tt

pub plans_world : (g : Handlers) (ls : List Numbered) (es : List Noted) (went : Went) → AreInRange ls → AreUnforged ls
    → AreDistinct (plan_nodes ls) → plan_goes g ls es went → (es ≡ []) ⊎ World (plan_nodes ls) (reverse es)
plans_world g ls es went well fair distinct goes = of (plans_legal g ls es went well goes)
  where
    of : (es ≡ []) ⊎ Sides (plan_nodes ls) (reverse es) → (es ≡ []) ⊎ World (plan_nodes ls) (reverse es)
    of (inl none) = inl none
    of (inr sides) =
        inr (record { sides = sides; carried = plans_carry g ls es went well fair goes; apart = distinct })

-- ---- no event was made

-- the laws hold of no events
law_of_none : (x : TwoEnds) (c : CallName) → LawOf x c []
law_of_none x c =
    record {
      once = omega arith;
      prefix = record { request = ([], refl); reply = ([], refl) };
      ends = λ end is. absurd cc;
    }

none_behind : (later now : List Noted) → [] ≡ later ++ now → now ≡ []
none_behind [] now is = sym is
none_behind (e ∷ later) now is = absurd cc

law_in_none : (nodes : List Node) → LawIn nodes []
law_in_none nodes =
    record {
      once = λ c. omega arith;
      connections = λ x k client server at kind first c on later now is.
          subst (LawOf (ends_in x k client server) c) (sym (none_behind later now is))
          (law_of_none (ends_in x k client server) c);
    }

enters_none : (o : Option Node) → IfSome o (λ n.
    (key : List ℕ) → n.setup.class ≡ token key → (c : CallName) → Entered n.setup key c [])
enters_none None = tt
enters_none (Some n) = λ key same c later before is. nothing_splits later before _ is

promised_none : (ls : List Numbered) → Promised ls []
promised_none ls =
    record {
      once = λ forgot c. omega arith;
      law = λ fair distinct times. law_in_none (plan_nodes ls);
      entered = enters_none (slice_get (plan_nodes ls) 0);
    }

-- ---- at each moment

once_of : (o : Option Node) (h : List Event) → IsSomeAnd o (λ n. IsServer n.setup.kind)
    → IfSome o (λ n. Legal n.setup h) → IfSome o (λ n. ForgotNone n.setup h) → Once h
once_of None h server legal forgot = elim server [ ]
once_of (Some n) h server legal forgot = once_under_forgery n.setup h server legal forgot

entered_of : (o : Option Node) (h : List Event) → IsSomeAnd o (λ n. IsServer n.setup.kind)
    → IfSome o (λ n. Legal n.setup h)
    → IfSome o (λ n. (key : List ℕ) → n.setup.class ≡ token key → (c : CallName) → Entered n.setup key c h)
entered_of None h server legal = tt
entered_of (Some n) h server legal = λ key same c. entered_when_proved n.setup key h server same legal c

promised_of : (ls : List Numbered) (h : List Noted) → Sides (plan_nodes ls) h
    → (AreUnforged ls → Carried (plan_nodes ls) h) → Promised ls h
promised_of ls h sides carried =
    record {
      once = λ forgot. once_of (slice_get (plan_nodes ls) 0) (side 0 h) sides.nodes_are.server (sides.legal 0) forgot;
      law = λ fair distinct times.
          world-law (plan_nodes ls) h (record { sides = sides; carried = carried fair; apart = distinct }) times;
      entered = entered_of (slice_get (plan_nodes ls) 0) (side 0 h) sides.nodes_are.server (sides.legal 0);
    }

pub plan_promises : (g : Handlers) (ls : List Numbered) (es : List Noted) (went : Went) → AreInRange ls
    → plan_goes g ls es went → Promises ls es
plan_promises g ls es went well goes later now is =
    of (plan_kept (AreUnforged ls) g ls es went (λ fair. fair) well goes)
  where
    of : Kept (AreUnforged ls) (plan_nodes ls) es went → Promised ls now
    of (inl none) =
        subst (Promised ls)
        (sym (none_behind later now (subst (λ xs. reverse xs ≡ later ++ now) none.0 is))) (promised_none ls)
    of (inr kept) =
        (let good : Good (AreUnforged ls) (plan_nodes ls) now =
        good_before (AreUnforged ls) (plan_nodes ls) later now
        (subst (Good (AreUnforged ls) (plan_nodes ls)) is
        (good_reversed (AreUnforged ls) (plan_nodes ls) es went kept)) in
        promised_of ls now (sides_of (plan_nodes ls) now kept.are good.allowed) good.carried)
