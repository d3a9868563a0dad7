-- A turn of the dispatcher of a call that is at work at its server before it and behind it: what it makes of the
-- server's end, which is drained behind it; and it leaves the client's.
use Rattle.std.proofs.Common.{◌≡◌, ◌⊎◌, inl, inr, ℕ, zero, suc, true, false, List, Option, Some, refl, ap, sym, subst}
use Rattle.std.proofs.Common.{◌∙◌, arith, is_some}
use Rattle.std.specs.Prelude.{slice_get}
use Rattle.rx_model.specs.declared.names.CallName.{CallName}
use Rattle.rx_model.specs.Names.{same_name}
use Rattle.rx_rules.specs.After.{looks}
use Rattle.rx_rules.specs.Life.{Life, is_active, is_waiting}
use Rattle.rx_rules.specs.Life as lives
use Rattle.rx_rules.specs.Looks.{CallRecord, call_at, is_call}
use Rattle.rx_rules.specs.Received.{Received, front_of, packet_at}
use Rattle.rx_rules.specs.Rules.{Legal}
use Rattle.rx_rules.specs.Setup.{Client, FitsSetup, IsServer, Kind, Server, is_client}
use Rattle.rx_rules.proofs.PacketLaws.{front_all}
use Rattle.rx_history.proofs.Differ.{every_found}
use Rattle.rx_history.proofs.Suffice.{roomy_history}
use Rattle.rx_history.proofs.Room.Tight.{TightOf}
use Rattle.rx_history.proofs.Laws.UsedLaws.{used_within}
use Rattle.rx_history.specs.Sides.{Node, side}
use Rattle.rx_law.proofs.World.{if-some}
use Rattle.rx_script.specs.declared.plan.Numbered.{Numbered}
use Rattle.rx_jobs.specs.Dispatching.{accepts, dispatching}
use Rattle.rx_jobs.specs.Handlers.{Handlers}
use Rattle.rx_plan.specs.Answering.{AreServable}
use Rattle.rx_plan.specs.Stages.{Stage}
use Rattle.rx_plan.specs.Turned.{dispatches}
use Rattle.rx_plan.proofs.Driven.{seen}
use Rattle.rx_plan.proofs.Followed.{IsFollowed}
use Rattle.rx_progress.specs.Moving.{IsDrained}
use Rattle.rx_rounds.proofs.Rounded.{Made, dispatch_to}
use Rattle.rx_closing.specs.Living.{looks_of}
use Rattle.rx_closing.proofs.Callers.CallersLeave.{turn_side}
use Rattle.rx_closing.proofs.Far.AtWork.{one_record}
use Rattle.rx_closing.proofs.Frame.{OneOf, asked_in, served_in}
use Rattle.rx_closing.proofs.Server.FirstsHold.{has_first}
use Rattle.rx_closing.proofs.Server.ServerScene.{scene_serves, scene_turn}
use Rattle.rx_closing.proofs.Server.ServerTurn.{ServedTurn, rests_coded, rests_finished, rests_longer, rests_reading}
use Rattle.rx_closing.proofs.Server.ServerTurn.{rests_waiting, rests_writing, served_lingers, served_quits}
use Rattle.rx_closing.proofs.Server.ServerTurn.{served_stays, served_works}
use Rattle.rx_closing.proofs.Server.TurnDrained.{both_ways, turn_drained}
use Rattle.rx_closing.proofs.Steps.{TurnsOn, turns_none}

-- nothing stands without a gap where packet 1 isn't kept
pub none_drained : (r : Received) → is_some (packet_at r.kept 1) ≡ false → IsDrained r
none_drained r none = of (front_of r.kept) refl
  where
    of : (n : ℕ) → front_of r.kept ≡ n → IsDrained r
    of zero is = (let low = used_within r in omega (arith, low, is))
    of (suc n) is =
        absurd (both_ways (is_some (packet_at r.kept 1)) (front_all r.kept 0 (omega (arith, is))) none)

-- a turn of the dispatcher leaves each client's calls
pub client_stays : (g : Handlers) (c : CallName) (k : ℕ) (client : Node) (s t : Stage) → Made (dispatches g) s t
    → asked_in c k client t ≡ asked_in c k client s
client_stays g c k client s t made =
    let d = dispatch_to g s t made in
    ap (λ es. call_at (looks client.setup es) c)
    (ap (λ (q : Stage). side (suc k) q.history) d.then_
    ∙ turn_side (dispatching g) (suc k) 0 (accepts s.jobs) d.view s d.stage d.serves.0 (λ no. omega arith)
    d.serves.1)

module _ (g : Handlers) (ls : List Numbered) (servable : AreServable g) (c : CallName) (k : ℕ) (client server : Node)
    (s t : Stage) (before : OneOf c k client server s) (behind : OneOf c k client server t)
    (follows : IsFollowed g ls (seen s)) (made : Made (dispatches g) s t) (r f : CallRecord)
    (was : served_in c server s ≡ Some r) (works : is_active r.life ≡ true)
    (is : served_in c server t ≡ Some f) where
  abbrev serves : IsServer server.setup.kind
  serves = scene_serves g ls c k client server s before follows

  turn : ServedTurn g server serves c s t
  turn = scene_turn g ls c k client server s before follows servable t made

  legal : Legal server.setup (side 0 t.history)
  legal =
      if-some (slice_get t.nodes 0) server (λ m. Legal m.setup (side 0 t.history)) behind.server_there
      (behind.world.sides.legal 0)

  fits : FitsSetup server.setup
  fits =
      if-some (slice_get t.nodes 0) server (λ m. FitsSetup m.setup) behind.server_there
      (behind.world.sides.nodes_are.fits 0)

  not_broken : {A : Type 0} (q : CallRecord) (code : _) → served_in c server s ≡ Some q → q.life ≡ lives.Broken code
      → A
  not_broken q code there broke =
      absurd (both_ways (is_active r.life) works
      (ap (λ (x : CallRecord). is_active x.life) (one_record r q (served_in c server s) was there)
      ∙ ap is_active broke))

  -- it takes its turn
  pub server_turns : TurnsOn (looks_of s 0 server).now r.looks f.looks
  server_turns = of turn
    where
      of : ServedTurn g server serves c s t → TurnsOn (looks_of s 0 server).now r.looks f.looks
      of (served_stays same idle first others) =
          subst (λ (x : CallRecord). TurnsOn (looks_of s 0 server).now r.looks x.looks)
          (one_record r f (served_in c server s) was (sym same ∙ is)) (turns_none r.looks)
      of (served_works q e w rests) =
          subst (λ (x : CallRecord). TurnsOn (looks_of s 0 server).now x.looks f.looks)
          (one_record q r (served_in c server s) w.was was)
          (subst (λ (x : CallRecord). TurnsOn (looks_of s 0 server).now q.looks x.looks)
          (one_record e f (served_in c server t) w.is is) w.turns)
      of (served_quits q e code there broke over life turns others) = not_broken q code there broke
      of (served_lingers q code there broke same one two waits_ still less ended) = not_broken q code there broke

  -- no call of a server is calling
  not_calling : f.life ≡ lives.Calling → ⊥
  not_calling life =
      both_ways true refl
      (sym (ap lives.is_calling life)
      ∙ (every_found (TightOf (is_client server.setup.kind)) (λ (z : CallRecord). same_name z.name c)
      (looks server.setup (side 0 t.history)).calls f
      (roomy_history server.setup (side 0 t.history) legal).tight is).served (kind_not server.setup.kind serves))
    where
      kind_not : (kind : Kind) → IsServer kind → is_client kind ≡ false
      kind_not (Server service nonces) is = refl
      kind_not (Client host epoch) is = absurd is

  -- one that waits has nothing
  waits_drained : f.life ≡ lives.Waiting → IsDrained f.looks.received
  waits_drained life = of turn
    where
      other : {A : Type 0} (q : CallRecord) (z : Life) → served_in c server t ≡ Some q → q.life ≡ z
          → is_waiting z ≡ false → A
      other q z there now_ not_ =
          absurd (both_ways (is_waiting z)
          (ap is_waiting (sym now_ ∙ ap (λ (x : CallRecord). x.life) (one_record q f (served_in c server t) there is)
          ∙ life)) not_)

      of : ServedTurn g server serves c s t → IsDrained f.looks.received
      of (served_stays same idle first others) =
          none_drained f.looks.received
          (sym (ap has_first (sym same ∙ is))
          ∙ first (ap (λ (o : Option CallRecord). is_call (λ x. is_waiting x.life) o) (sym same ∙ is)
          ∙ ap is_waiting life))
      of (served_works q e w (rests_reading now_ job going undecided open_ all incomplete)) = other e _ w.is now_ refl
      of (served_works q e w (rests_waiting now_ job ended undecided less whole since)) = other e _ w.is now_ refl
      of (served_works q e w (rests_longer now_ was_ same one job is_ waits_ less whole)) = other e _ w.is now_ refl
      of (served_works q e w (rests_writing code now_ job ended coded zero_ some whole full)) = other e _ w.is now_ refl
      of (served_works q e w (rests_finished now_ shut whole others)) = other e _ w.is now_ refl
      of (served_works q e w (rests_coded code now_ others)) = other e _ w.is now_ refl
      of (served_quits q e code there broke over now_ turns others) = not_broken q code there broke
      of (served_lingers q code there broke same one two waits_ still less ended) = not_broken q code there broke

  -- behind it the server's end is drained, where the call is at work there
  pub server_drained : is_active f.life ≡ true → IsDrained f.looks.received
  server_drained here = of f.life refl
    where
      by_turn : (f.life ≡ lives.Accepted) ⊎ (f.life ≡ lives.Finished) → IsDrained f.looks.received
      by_turn x = turn_drained g server serves fits c s t legal turn f is x

      of : (z : Life) → f.life ≡ z → IsDrained f.looks.received
      of lives.Calling life = absurd (not_calling life)
      of lives.Waiting life = waits_drained life
      of lives.Accepted life = by_turn (inl life)
      of lives.Finished life = by_turn (inr life)
      of _ life = absurd (both_ways (is_active f.life) here (ap is_active life))
