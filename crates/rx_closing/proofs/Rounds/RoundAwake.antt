-- A call that isn't silent doesn't fall silent in a round before its clocks move.
use Rattle.std.proofs.Common.{◌≡◌, ◌++◌, ℕ, true, false, List, Some, ap, sym, subst, ◌∙◌}
use Rattle.std.specs.Prelude.{slice_get}
use Rattle.rx_model.specs.declared.event.Event.{Event}
use Rattle.rx_model.specs.declared.event.Noted.{Noted}
use Rattle.rx_model.specs.declared.names.CallName.{CallName}
use Rattle.rx_rules.specs.After.{looks}
use Rattle.rx_rules.specs.Life.{is_active}
use Rattle.rx_rules.specs.Looks.{CallRecord, call_at}
use Rattle.rx_rules.specs.Records.{is_silent}
use Rattle.rx_rules.specs.Rules.{Legal}
use Rattle.rx_rules.specs.Setup.{FitsSetup}
use Rattle.rx_history.specs.Sides.{Node, moment, side}
use Rattle.rx_history.proofs.Moments.{now-side}
use Rattle.rx_law.proofs.World.{if-some}
use Rattle.rx_plan.specs.Stages.{Stage}
use Rattle.rx_closing.specs.Living.{looks_of}
use Rattle.rx_closing.proofs.Frame.{OneOf}
use Rattle.rx_closing.proofs.Rounds.SpokeHolds.{awake_stays}
use Rattle.rx_law.proofs.Law.{side-split}

module _ (c : CallName) (k : ℕ) (client server : Node) (s t : Stage) (scene : OneOf c k client server t)
    (later : List Noted) where
  -- at a node of a scene, from an earlier stage with the same moment on
  pub awake_between : t.history ≡ later ++ s.history → (j : ℕ) (n : Node) → slice_get t.nodes j ≡ Some n
      → moment j t.history ≡ moment j s.history → (a b : CallRecord) → call_at (looks_of s j n) c ≡ Some a
      → is_active a.life ≡ true → is_silent (looks_of s j n).now a ≡ false → call_at (looks_of t j n) c ≡ Some b
      → is_silent (looks_of t j n).now b ≡ false
  awake_between grew j n there still a b before active awake behind =
      (let fits = if-some (slice_get t.nodes j) n (λ m. FitsSetup m.setup) there (scene.world.sides.nodes_are.fits j) in
      let legal = if-some (slice_get t.nodes j) n (λ m. Legal m.setup (side j t.history)) there
      (scene.world.sides.legal j) in
      let own : side j t.history ≡ side j later ++ side j s.history =
      ap (side j) grew ∙ side-split j later s.history in
      let now : (looks n.setup (side j later ++ side j s.history)).now ≡ (looks n.setup (side j s.history)).now =
      ap (λ (h : List Event). (looks n.setup h).now) (sym own) ∙ now-side n.setup j t.history ∙ still
      ∙ sym (now-side n.setup j s.history) in
      subst (λ (h : List Event). is_silent (looks n.setup h).now b ≡ false) (sym own)
      (awake_stays n.setup (side j later) (side j s.history) c a b fits (subst (Legal n.setup) own legal) now before
      active awake (ap (λ (h : List Event). call_at (looks n.setup h) c) (sym own) ∙ behind)))
