-- What a client owes of a call as a round begins, other than its stream, comes to its server in the deliveries of that
-- round; and the lives that the call has there around that moment.
use Rattle.std.proofs.Common.{◌≡◌, ◌≤◌, ℕ, suc, true, List, Option, Some, ◌∙◌, sym, subst, is_some}
use Rattle.rx_model.specs.declared.event.Event.{Event}
use Rattle.rx_model.specs.declared.event.Noted.{Noted}
use Rattle.rx_model.specs.declared.names.CallName.{CallName}
use Rattle.rx_model.specs.Body.{Body}
use Rattle.rx_model.specs.Names.{channel_of}
use Rattle.rx_rules.specs.After.{looks}
use Rattle.rx_rules.specs.Life.{is_live}
use Rattle.rx_rules.specs.Looks.{CallRecord, ChannelLooks, channel_at}
use Rattle.rx_rules.specs.Rules.{Legal}
use Rattle.rx_rules.specs.Setup.{Server}
use Rattle.rx_history.specs.Sides.{Node, side}
use Rattle.rx_law.specs.Worlds.{Datagram}
use Rattle.rx_jobs.specs.Handlers.{Handlers}
use Rattle.rx_plan.specs.Stages.{Stage}
use Rattle.rx_plan.proofs.JointMoments.{legal_cut}
use Rattle.rx_plan.proofs.QuietEvents.{AreServed}
use Rattle.rx_between.proofs.Each.EachItem.{In}
use Rattle.rx_rounds.proofs.Rounded.{RoundMade}
use Rattle.rx_closing.specs.Living.{looks_of}
use Rattle.rx_closing.proofs.Conns.PlanPeers.{AreLinked}
use Rattle.rx_closing.proofs.Far.FarStands.{scene_fed}
use Rattle.rx_closing.proofs.Frame.{OneOf, served_in}
use Rattle.rx_closing.proofs.Living.Before.{one_before}
use Rattle.rx_closing.proofs.Living.LifeBetween.{served_between, served_last_at}
use Rattle.rx_closing.proofs.Messages.Arrives.{Meet}
use Rattle.rx_closing.proofs.Messages.OneMeets.{one_conns, one_meets, one_serves}
use Rattle.rx_closing.proofs.Messages.Rows.{IsLast}
use Rattle.rx_closing.proofs.Rounds.Chains.{Adds, RoundAdds, adds_both, round_adds}
use Rattle.rx_closing.proofs.Telling.DebtTaken.{TakenIn, says_here, taken_in}
use Rattle.rx_closing.proofs.Telling.OwedComes.{IsDebt, IsOwing, SaysDebt, debt_gives, debt_none}
use Rattle.rx_closing.proofs.Telling.PollsGive.{gives_in}

-- ---- a round and the stages in it

-- the stages of a round with a call: as it begins, behind its polls and behind its deliveries
pub record RoundOf (c : CallName) (k : ℕ) (client server : Node) (g : Handlers) (s t : Stage)
    (r : RoundMade g s t) : Type 0 where
  pub begins : OneOf c k client server s
  pub polled : OneOf c k client server r.polled.stage
  pub delivered : OneOf c k client server r.delivered
  pub to_polled : Adds s.history r.polled.stage.history
  pub to_delivered : Adds r.polled.stage.history r.delivered.history
  pub to_end : Adds r.delivered.history t.history

pub round_of : (c : CallName) (k : ℕ) (client server : Node) (g : Handlers) (s t : Stage) (r : RoundMade g s t)
    → OneOf c k client server t → RoundOf c k client server g s t r
round_of c k client server g s t r one =
    record {
      begins = one_before c k client server t one s (sym a.nodes)
          (adds_both s.history r.polled.stage.history t.history a.polled from_polled);
      polled = one_before c k client server t one r.polled.stage (a.polled_nodes ∙ sym a.nodes) from_polled;
      delivered = one_before c k client server t one r.delivered (a.delivered_nodes ∙ sym a.nodes) rest;
      to_polled = a.polled;
      to_delivered = a.delivered;
      to_end = rest;
    }
  where
    a : RoundAdds g s t r
    a = round_adds g s t r

    rest : Adds r.delivered.history t.history
    rest =
        adds_both r.delivered.history r.called.history t.history
        (adds_both r.delivered.history r.served.history r.called.history a.served a.called) a.over

    from_polled : Adds r.polled.stage.history t.history
    from_polled = adds_both r.polled.stage.history r.delivered.history t.history a.delivered rest

-- ---- what a client owes

module _ (c : CallName) (k : ℕ) (client server : Node) (g : Handlers) (s t : Stage) (r : RoundMade g s t)
    (one : OneOf c k client server t) where
  q : RoundOf c k client server g s t r
  q = round_of c k client server g s t r one

  pub round_serves : (service : ℕ) × (nonces : ℕ) × (server.setup.kind ≡ Server service nonces)
  round_serves = one_serves c k client server t one

  pub round_meets : Meet c k client server round_serves.0 round_serves.1 t.history
  round_meets = one_meets c k client server t one round_serves.0 round_serves.1 round_serves.2

  -- it was given in the round's polls, and the server takes it
  pub record DebtCame (Sort : Body → Type 0) : Type 0 where
    pub datagram : Datagram
    pub says : SaysDebt client.setup c Sort server.host round_serves.0 datagram
    pub from : datagram.from ≡ client.host
    pub taken : TakenIn server 0 datagram r.polled.stage r.delivered

  pub debt_comes : AreLinked s → AreServed s.nodes s.history → (Sort : Body → Type 0)
      → (debt : ChannelLooks → Option Body) → IsDebt Sort debt
      → is_some (debt (channel_at (looks_of s (suc k) client) (channel_of c))) ≡ true
      → (channel_at (looks_of s (suc k) client) (channel_of c)).number ≡ c.number → 1 ≤ c.number → DebtCame Sort
  debt_comes linked served Sort debt is owed number some =
      record {
        datagram = f.0;
        says = f.2;
        from = f.3;
        taken =
            taken_in server 0 f.0 r.polled.given f.1 (says_here client.setup c Sort server round_serves.0 f.0 f.2)
            r.polled.stage r.delivered q.polled.server_there r.delivers_are;
      }
    where
      Owes : List Event → Type 0
      Owes es = IsOwing debt c server.host round_serves.0 (looks client.setup es)

      Says : Datagram → Type 0
      Says d = SaysDebt client.setup c Sort server.host round_serves.0 d

      f : (d : Datagram) × In d r.polled.given × Says d × (d.from ≡ client.host)
      f =
          gives_in (suc k) client Owes Says
          (record {
            none = debt_none client.setup c.host c.epoch one.client_is round_meets.fed.client_fits Sort debt is c
                server.host round_serves.0;
            gives = λ h to bytes legal o answer.
                debt_gives client.setup c.host c.epoch one.client_is round_meets.fed.client_fits Sort debt is c
                server.host round_serves.0 client.host h to bytes legal o answer;
          }) s r.polled r.polls_are q.begins.client_there (scene_fed c k client server s q.begins).client_legal
          (record {
            owed = owed;
            number = number;
            some = some;
            conns =
                one_conns c k client server s q.begins round_serves.0 round_serves.1 round_serves.2 linked served;
          })

  -- ---- the lives of the call at the server

  -- where the life is the same as the round begins and behind its deliveries it is so in front of each datagram
  pub served_before : (d : Datagram) (v : TakenIn server 0 d r.polled.stage r.delivered) → (y b : CallRecord)
      → served_in c server s ≡ Some y → served_in c server r.delivered ≡ Some b → b.life ≡ y.life
      → (m : CallRecord) × (served_in c server v.before ≡ Some m) × (m.life ≡ y.life)
  served_before d v y b at behind same =
      served_between c k client server r.delivered q.delivered s v.before
      (adds_both s.history r.polled.stage.history v.before.history q.to_polled v.front)
      (adds_both v.before.history v.behind.history r.delivered.history v.took_adds v.back) y b at behind same

  -- and behind it
  pub served_behind : (d : Datagram) (v : TakenIn server 0 d r.polled.stage r.delivered) → (y b : CallRecord)
      → served_in c server s ≡ Some y → served_in c server r.delivered ≡ Some b → b.life ≡ y.life
      → (m : CallRecord) × (served_in c server v.behind ≡ Some m) × (m.life ≡ y.life)
  served_behind d v y b at behind same =
      served_between c k client server r.delivered q.delivered s v.behind
      (adds_both s.history v.before.history v.behind.history
      (adds_both s.history r.polled.stage.history v.before.history q.to_polled v.front) v.took_adds)
      v.back y b at behind same

  -- it is its channel's latest in front of it, where it lives
  pub served_taken : (d : Datagram) (v : TakenIn server 0 d r.polled.stage r.delivered) → (m : CallRecord)
      → served_in c server v.before ≡ Some m → is_live m.life ≡ true → IsLast (looks_of v.before 0 server) c m
  served_taken d v m there living =
      served_last_at c k client server r.delivered q.delivered s v.before
      (adds_both s.history r.polled.stage.history v.before.history q.to_polled v.front)
      (adds_both v.before.history v.behind.history r.delivered.history v.took_adds v.back) m there living

  pub legal_before : (d : Datagram) (v : TakenIn server 0 d r.polled.stage r.delivered)
      → Legal server.setup (side 0 v.before.history)
  legal_before d v =
      legal_cut server.setup 0 (till.more) v.before.history
      (subst (λ (h : List Noted). Legal server.setup (side 0 h)) till.is
      (scene_fed c k client server r.delivered q.delivered).server_legal)
    where
      till : Adds v.before.history r.delivered.history
      till = adds_both v.before.history v.behind.history r.delivered.history v.took_adds v.back
