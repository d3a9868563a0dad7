-- In a round a server that has a record of a call that lives at its client has it as its channel's latest.
use Rattle.std.proofs.Common.{◌≡◌, ◌≤◌, ◌+◌, ◌++◌, ℕ, suc, true, false, List, Some, sym, subst, arith, slice_get}
use Rattle.rx_model.specs.declared.event.Noted.{Noted}
use Rattle.rx_model.specs.declared.names.CallName.{CallName}
use Rattle.rx_model.specs.Names.{same_name}
use Rattle.rx_rules.specs.Life.{is_active, is_live}
use Rattle.rx_rules.specs.Looks.{CallRecord, call_at}
use Rattle.rx_rules.specs.Records.{is_silent}
use Rattle.rx_history.proofs.Differ.{every_found}
use Rattle.rx_history.proofs.Moments.{now-side}
use Rattle.rx_history.specs.Sides.{Node, moment}
use Rattle.rx_jobs.specs.Handlers.{Handlers}
use Rattle.rx_plan.specs.Rounds.{Polled, polls}
use Rattle.rx_plan.specs.Stages.{Stage}
use Rattle.rx_rounds.proofs.Polls.PolledOut.{IsPolledOut}
use Rattle.rx_rounds.proofs.Rounded.{Made, RoundMade}
use Rattle.rx_closing.specs.Living.{looks_of}
use Rattle.rx_closing.proofs.Frame.{OneOf, asked_in, served_in}
use Rattle.rx_closing.proofs.Messages.Knows.{knows_last}
use Rattle.rx_closing.proofs.Messages.Rows.{IsLast}
use Rattle.rx_closing.proofs.Polls.PolledAll.{all_polled_out}
use Rattle.rx_closing.proofs.Polls.PollsAct.{polls_act}
use Rattle.rx_closing.proofs.Rounds.Lately.{ActedLately, acted_lately, awake_near}

module _ (c : CallName) (k : ℕ) (client server : Node) (g : Handlers) (u v : Stage) (r : RoundMade g u v)
    (scene : OneOf c k client server u) where
  -- later in it, or at its end: where the call was awake behind the polls
  pub knows_later : (t : Stage) → OneOf c k client server t → (later : List Noted)
      → t.history ≡ later ++ r.polled.stage.history
      → moment 0 t.history ≤ moment 0 r.polled.stage.history + 2000
      → moment (suc k) t.history ≤ moment (suc k) r.polled.stage.history + 2000 → (first a b : CallRecord)
      → is_active first.life ≡ true → is_silent (looks_of r.polled.stage (suc k) client).now first ≡ false
      → asked_in c k client t ≡ Some a → is_live a.life ≡ true → first.looks.heard ≤ a.looks.heard
      → served_in c server t ≡ Some b → IsLast (looks_of t 0 server) c b
  knows_later t behind later grown near own first a b active awake asked living heard served =
      knows_last c k client server t behind a b asked served acted living soon
    where
      acted : ActedLately (suc k) t.history
      acted =
          subst (λ (h : List Noted). ActedLately (suc k) h) (sym grown)
          (acted_lately (suc k) r.polled.stage.history later
          (polls_act (suc k) client u r.polled r.polls_are scene.client_there)
          (subst (λ (h : List Noted). moment 0 h ≤ moment 0 r.polled.stage.history + 300000) grown
          (omega (arith, near))))

      soon : (looks_of t (suc k) client).now ≤ a.looks.heard + 60000
      soon =
          (let low = awake_near (looks_of r.polled.stage (suc k) client).now first active awake in
          let before = now-side client.setup (suc k) r.polled.stage.history in
          let now = now-side client.setup (suc k) t.history in
          omega (arith, low, before, now, own, heard))

-- behind a poll no call of a node is silent
pub polled_awake : (s : Stage) (p : Polled) → Made polls s p → (j : ℕ) (n : Node) → slice_get s.nodes j ≡ Some n
    → (d : CallName) (a : CallRecord) → call_at (looks_of p.stage j n) d ≡ Some a
    → is_silent (looks_of p.stage j n).now a ≡ false
polled_awake s p made j n there d a is =
    (let out : IsPolledOut n.setup (looks_of p.stage j n) = all_polled_out s p made j n there in
    every_found (λ (x : CallRecord). is_silent (looks_of p.stage j n).now x ≡ false)
    (λ (x : CallRecord). same_name x.name d) (looks_of p.stage j n).calls a out.awake is)
