-- Where a call rests behind its server's turn, it is over there.
use Rattle.std.proofs.Common.{◌≡◌, ◌≤◌, ◌==◌, ◌&&◌, ℕ, ℤ, Bool, true, false, List, length, refl, ap, sym, subst, ◌∙◌}
use Rattle.std.proofs.Common.{Option, Some, arith, inr, suc}
use Rattle.std.proofs.lemmas.Bool.Decides.{nat_tests}
use Rattle.rx_model.specs.declared.names.CallName.{CallName}
use Rattle.rx_model.specs.Names.{connection_of}
use Rattle.rx_rules.specs.Life.{Life, is_handled, is_waiting}
use Rattle.rx_rules.specs.Life as lives
use Rattle.rx_rules.specs.Looks.{CallRecord}
use Rattle.rx_rules.specs.Sent.{counting_by, counting_of, given_of, is_all_acked, pieces_by}
use Rattle.rx_history.specs.Sides.{Node, side}
use Rattle.rx_law.specs.Promises.{ends_in}
use Rattle.rx_law.proofs.Joint.{Fed}
use Rattle.rx_between.specs.Acknowledged.{sent_by}
use Rattle.rx_script.specs.declared.plan.Numbered.{Numbered}
use Rattle.rx_jobs.specs.Handlers.{Handlers}
use Rattle.rx_plan.specs.Stages.{Stage}
use Rattle.rx_plan.proofs.Driven.{seen}
use Rattle.rx_plan.proofs.Followed.{IsFollowed}
use Rattle.rx_closing.proofs.Far.FarBounds.{served_counts}
use Rattle.rx_closing.proofs.Far.FarGrows.{acked_given}
use Rattle.rx_closing.proofs.Far.FarStands.{scene_fed, scene_once}
use Rattle.rx_closing.proofs.Far.FarWork.{IsCaused}
use Rattle.rx_closing.proofs.Far.FinishedOpen.{finished_open}
use Rattle.rx_closing.proofs.Far.FinishedShut.{IsServed, finished_shut, lives_served}
use Rattle.rx_closing.proofs.Frame.{OneOf, served_in}
use Rattle.rx_closing.proofs.Server.SceneRest.{IsAtRest, IsPast}

module _ (c : CallName) (k : ℕ) (client server : Node) (t : Stage) (scene : OneOf c k client server t) where
  fed : Fed (ends_in (connection_of c) (suc k) client server) t.history
  fed = scene_fed c k client server t scene

  -- a call whose handler ended well isn't over where a piece isn't acknowledged, so none that counts is
  pub finished_counts : (f : CallRecord) → served_in c server t ≡ Some f → f.life ≡ lives.Finished
      → counting_of f.looks.sent ≤ f.looks.sent.acked → ⊥
  finished_counts f there fine known =
      let once = scene_once c k client server t scene in
      let open_ : is_all_acked f.looks.sent ≡ false =
      finished_open server.setup (side 0 t.history) c f fed.server_kind fed.server_fits fed.server_legal
      once there fine in
      let shut : f.looks.sent.shut ≡ true =
      finished_shut server.setup (side 0 t.history) c f fed.server_kind fed.server_fits fed.server_legal
      once there fine in
      let acked = subst (λ (o : Option CallRecord). (sent_by o).acked ≤ given_of (sent_by o)) there
      (acked_given server.setup (side 0 t.history) c fed.server_fits fed.server_legal (inr (fed.server_kind, once))) in
      let given = subst (λ (o : Option CallRecord). given_of (sent_by o) ≤ counting_of (sent_by o)) there
      (served_counts t.nodes t.history scene.world scene.kept (suc k) client server c scene.client_there scene.client_is
      scene.server_there) in
      let counts : counting_of f.looks.sent ≡ counting_by (length f.looks.sent.said) true =
      ap (counting_by (length f.looks.sent.said)) shut in
      let same : counting_by (length f.looks.sent.said) true ≡ pieces_by (length f.looks.sent.said) true = refl in
      let all : f.looks.sent.acked ≡ pieces_by (length f.looks.sent.said) true =
      omega (arith, acked, given, known, counts, same) in
      let equal : (f.looks.sent.acked == pieces_by (length f.looks.sent.said) true) ≡ true = grind (arith, nat_tests) in
      let whole : is_all_acked f.looks.sent ≡ true =
      ap (λ (b : Bool). b && (f.looks.sent.acked == pieces_by (length f.looks.sent.said) b)) shut ∙ equal in
      let wrong : ◌≡◌ {A = Bool} true false = sym whole ∙ open_ in
      cc (wrong)

module _ (g : Handlers) (ls : List Numbered) (c : CallName) (k : ℕ) (client server : Node) (t : Stage)
    (scene : OneOf c k client server t) (follows : IsFollowed g ls (seen t)) (i : IsCaused g ls c k client t)
    (a : CallRecord) where
  -- so it is over there
  pub rests_over : IsAtRest g ls c k client server t scene follows i a
      → (p : IsPast g ls c k client server t scene follows i) → (code : Option ℤ) × (p.call.life ≡ lives.Over code)
  rests_over r p =
      of p.call.life refl p.unhandled p.served_
      (lives_served server.setup (side 0 t.history) c p.call (fed c k client server t scene).server_kind
      (fed c k client server t scene).server_fits (fed c k client server t scene).server_legal p.there)
    where
      of : (x : Life) → p.call.life ≡ x → is_handled x ≡ false → is_waiting x ≡ false → IsServed x
          → (code : Option ℤ) × (p.call.life ≡ lives.Over code)
      of (lives.Over code) is unhandled waits here = (code, is)
      of lives.Finished is unhandled waits here =
          absurd (finished_counts c k client server t scene p.call p.there is
          (subst (λ (o : Option CallRecord). counting_of (sent_by o) ≤ (sent_by o).acked) p.there r.known))
      of lives.Calling is unhandled waits here = absurd here
      of (lives.Ended end) is unhandled waits here = absurd here
      of _ is unhandled waits here = absurd cc
