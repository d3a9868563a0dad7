-- In rounds through which none of some calls comes further, what one of them may give before twelve seconds have
-- passed: no more than so much, and less by 2,000 behind each round in which it gives something.
use Rattle.std.proofs.Common.{◌≡◌, ℕ, suc, Bool, true, false, List, Option, Some, None, refl, ap, sym, ◌∙◌, arith}
use Rattle.std.specs.Prelude.{slice_get}
use Rattle.rx_model.specs.declared.names.CallName.{CallName}
use Rattle.rx_rules.specs.Life.{is_active, is_live}
use Rattle.rx_rules.specs.Looks.{CallRecord, is_call}
use Rattle.rx_history.specs.Sides.{Node}
use Rattle.rx_script.specs.declared.plan.Numbered.{Numbered}
use Rattle.rx_jobs.specs.Handlers.{Handlers}
use Rattle.rx_plan.specs.Answering.{AreServable}
use Rattle.rx_plan.specs.Stages.{Stage}
use Rattle.rx_between.proofs.Each.EachItem.{In}
use Rattle.rx_rounds.proofs.Rounded.{RoundMade}
use Rattle.rx_closing.proofs.Far.AtWork.{IsServing}
use Rattle.rx_closing.proofs.Frame.{OneOf, asked_in, served_in}
use Rattle.rx_closing.proofs.Rounds.Chains.{Chain}
use Rattle.rx_closing.proofs.Rounds.SceneEnds.{client_kind, server_kind}
use Rattle.rx_closing.proofs.Sums.RoundLoads.{EachStage, PaysIn, Together, both_load, lone_load, none_load}
use Rattle.rx_closing.proofs.Together.Members.{Member}
use Rattle.rx_closing.proofs.Unknown.UnservedMeet.{IsAsked, scene_asked}
use Rattle.rx_closing.proofs.Working.MemberRounds.{IsIdle, asked_rounds, both_rounds, none_rounds, served_rounds}
use Rattle.rx_closing.proofs.Working.StandsFrom.{GivesOf, StandsFrom, one_z}
use Rattle.rx_closing.proofs.Ends.RoomLaws.{active_lives}

-- a call is at work at an end, or it isn't
pub data Either (Works : Type 0) (o : Option CallRecord) : Type 0 where
  works : Works → Either Works o
  idles : IsIdle o → Either Works o

none_idle : (o : Option CallRecord) → o ≡ None → IsIdle o
none_idle o none r is =
    absurd (let no : ◌≡◌ {A = Option CallRecord} None (Some r) = sym none ∙ is in cc (no))

some_idle : (o : Option CallRecord) (q : CallRecord) → o ≡ Some q → is_active q.life ≡ false → IsIdle o
some_idle o q some idle r is =
    (let same : q ≡ r = (let both : ◌≡◌ {A = Option CallRecord} (Some q) (Some r) = sym some ∙ is in cc (both)) in
    ap (λ (x : CallRecord). is_active x.life) (sym same) ∙ idle)

-- at its client
pub asks_or : (c : CallName) (k : ℕ) (client server : Node) (s : Stage) → OneOf c k client server s
    → Either (IsAsked c k client s) (asked_in c k client s)
asks_or c k client server s one = of (asked_in c k client s) refl
  where
    at : (q : CallRecord) → asked_in c k client s ≡ Some q → (b : Bool) → is_active q.life ≡ b
        → Either (IsAsked c k client s) (asked_in c k client s)
    at q is true active =
        works (scene_asked c k client server s one
        (ap (is_call (λ r. is_live r.life)) is ∙ active_lives q.life active))
    at q is false idle = idles (some_idle (asked_in c k client s) q is idle)

    of : (o : Option CallRecord) → asked_in c k client s ≡ o → Either (IsAsked c k client s) (asked_in c k client s)
    of None is = idles (none_idle (asked_in c k client s) is)
    of (Some q) is = at q is (is_active q.life) refl

-- and at its server
pub serves_or : (c : CallName) (server : Node) (s : Stage) → Either (IsServing c server s) (served_in c server s)
serves_or c server s = of (served_in c server s) refl
  where
    at : (q : CallRecord) → served_in c server s ≡ Some q → (b : Bool) → is_active q.life ≡ b
        → Either (IsServing c server s) (served_in c server s)
    at q is true active = works (record { call = q; there = is; works = active })
    at q is false idle = idles (some_idle (served_in c server s) q is idle)

    of : (o : Option CallRecord) → served_in c server s ≡ o → Either (IsServing c server s) (served_in c server s)
    of None is = idles (none_idle (served_in c server s) is)
    of (Some q) is = at q is (is_active q.life) refl

module _ (g : Handlers) (ls : List Numbered) (servable : AreServable g) (server : Node) (ms : List Member)
    (y z u : Stage) (so : StandsFrom g ls server ms y z u) (rest_z : (n : ℕ) × Chain g n z u) (m : Member)
    (inside : In m ms) where
  at_z : OneOf m.call m.index m.client server z
  at_z = one_z g ls server ms y z u so rest_z m inside

  -- clocks go together
  clocks : (j : ℕ) (n : Node) → slice_get z.nodes j ≡ Some n → EachStage g z u 3 (Together g z u j)
  clocks j n there i h v front rest many = so.together j n there i h v front rest (omega arith)

  abbrev Gave : (v w : Stage) → RoundMade g v w → Type 0
  Gave v w r = GivesOf g m v w r

  pub pays_in : PaysIn g z u Gave
  pays_in =
      of (asks_or m.call m.index m.client server z at_z) (serves_or m.call server z)
    where
      of : Either (IsAsked m.call m.index m.client z) (asked_in m.call m.index m.client z)
          → Either (IsServing m.call server z) (served_in m.call server z) → PaysIn g z u Gave
      of (works a) (works b) =
          both_load g z u Gave m.call m.index m.client server
          (client_kind m.call m.index m.client server z at_z) (server_kind m.call m.index m.client server z at_z)
          (clocks (suc m.index) m.client at_z.client_there)
          (both_rounds g ls servable server ms y z u so rest_z m inside a b)
      of (works a) (idles idle) =
          lone_load g z u Gave m.call (suc m.index) m.client (clocks (suc m.index) m.client at_z.client_there)
          (asked_rounds g ls servable server ms y z u so rest_z m inside a idle)
      of (idles idle) (works b) =
          lone_load g z u Gave m.call 0 server (clocks 0 server at_z.server_there)
          (served_rounds g ls servable server ms y z u so rest_z m inside b idle)
      of (idles idle_c) (idles idle_s) =
          none_load g z u Gave (none_rounds g ls servable server ms y z u so rest_z m inside idle_c idle_s)
