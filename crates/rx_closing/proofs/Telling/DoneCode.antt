-- A server that is done with a call that lives at its client has a code to tell.
use Rattle.std.proofs.Common.{◌≡◌, ℕ, ℤ, suc, Bool, true, false, refl, ap, sym, subst, ◌∙◌, Option, Some, None}
use Rattle.std.specs.Prelude.{slice_get}
use Rattle.rx_model.specs.declared.answers.End.{End}
use Rattle.rx_model.specs.declared.names.CallName.{CallName}
use Rattle.rx_model.specs.Names.{connection_of}
use Rattle.rx_rules.specs.After.{served_code}
use Rattle.rx_rules.specs.Life.{Life, is_active}
use Rattle.rx_rules.specs.Life as lives
use Rattle.rx_rules.specs.Looks.{CallRecord}
use Rattle.rx_history.specs.Sides.{Node, side}
use Rattle.rx_history.specs.Streams.{end_by, end_of_life}
use Rattle.rx_law.proofs.Joint.{Fed}
use Rattle.rx_law.proofs.World.{if-some}
use Rattle.rx_law.specs.Promises.{ends_in}
use Rattle.rx_between.specs.Agreed.{Agrees, HasEnded, IsOverWell}
use Rattle.rx_plan.specs.Stages.{Stage}
use Rattle.rx_closing.proofs.Far.FarBounds.{call_agrees}
use Rattle.rx_closing.proofs.Far.FarStands.{scene_fed}
use Rattle.rx_closing.proofs.Far.FinishedShut.{IsServed, lives_served}
use Rattle.rx_closing.proofs.Frame.{IsPlain, OneOf, asked_in, served_in}

module _ (c : CallName) (k : ℕ) (client server : Node) (s : Stage) (scene : OneOf c k client server s)
    (x y : CallRecord) (there : asked_in c k client s ≡ Some x) (calling : x.life ≡ lives.Calling)
    (served : served_in c server s ≡ Some y) where
  -- one that is over well has ended at its client
  over_well : y.life ≡ lives.Over None → ⊥
  over_well over =
      (let agrees : Agrees client.setup server.setup (asked_in c k client s) (served_in c server s) =
      call_agrees s.nodes s.history scene.world scene.kept (suc k) client server c scene.client_there scene.client_is
      scene.server_there in
      let plain : IsPlain server = if-some (slice_get s.nodes 0) server IsPlain scene.server_there (scene.plain 0) in
      let ended : HasEnded (asked_in c k client s) =
      agrees.over plain.unprompted (subst IsOverWell (sym served) (well_by y.life over)) in
      let no : ◌≡◌ {A = Option End} None (Some ended.end) =
      sym (ap end_by there ∙ ap end_of_life calling) ∙ ended.at in
      cc (no))
    where
      well_by : (z : Life) → z ≡ lives.Over None → IsOverWell (Some (record y { life = z }))
      well_by z is = subst (λ (w : Life). IsOverWell (Some (record y { life = w }))) (sym is) tt

  -- the code
  pub done_code : is_active y.life ≡ false → (code : ℤ) × (served_code y.life ≡ Some code)
  done_code idle =
      by y.life refl (lives_served server.setup
      (side 0 s.history) c y fed.server_kind fed.server_fits fed.server_legal served)
    where
      fed : Fed (ends_in (connection_of c) (suc k) client server) s.history
      fed = scene_fed c k client server s scene

      works : {A : Type 0} (z : Life) → y.life ≡ z → is_active z ≡ true → A
      works z same active =
          absurd (let no : ◌≡◌ {A = Bool} false true = sym idle ∙ ap is_active same ∙ active in cc (no))

      by : (z : Life) → y.life ≡ z → IsServed y.life → (code : ℤ) × (served_code y.life ≡ Some code)
      by lives.Waiting same is = works lives.Waiting same refl
      by lives.Accepted same is = works lives.Accepted same refl
      by lives.Finished same is = works lives.Finished same refl
      by (lives.Broken code) same is = (code, ap served_code same)
      by (lives.Over (Some code)) same is = (code, ap served_code same)
      by (lives.Over None) same is = absurd (over_well same)
      by lives.Calling same is = absurd (subst IsServed same is)
      by (lives.Ended end) same is = absurd (subst IsServed same is)
