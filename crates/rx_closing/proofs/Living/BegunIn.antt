-- A round in which a call lives at its client and its server doesn't know it behind the polls: what the client gave of
-- it begins it there, unless no DATA was among it, there is no place for its connection, or the server owes it a BUSY.
use Rattle.std.proofs.Common.{◌≡◌, ℕ, List, Some, None, sym, ◌∙◌}
use Rattle.std.specs.Prelude.{slice_get}
use Rattle.rx_model.specs.declared.event.Noted.{Noted}
use Rattle.rx_model.specs.declared.names.CallName.{CallName}
use Rattle.rx_model.specs.Message.{Message}
use Rattle.rx_rules.specs.Life as lives
use Rattle.rx_rules.specs.After.{looks}
use Rattle.rx_rules.specs.Looks.{CallRecord}
use Rattle.rx_rules.specs.Setup.{Server}
use Rattle.rx_history.specs.Sides.{Node, side}
use Rattle.rx_law.proofs.World.{if-some}
use Rattle.rx_law.specs.Worlds.{Datagram}
use Rattle.rx_jobs.specs.Handlers.{Handlers}
use Rattle.rx_plan.specs.Stages.{Stage}
use Rattle.rx_between.proofs.Each.EachItem.{In}
use Rattle.rx_rounds.proofs.Rounded.{RoundMade}
use Rattle.rx_closing.proofs.Frame.{AreAmong, Crowd, IsSpacious, OneOf, asked_in, served_in}
use Rattle.rx_closing.proofs.Living.CrowdWithin.{crowd_within}
use Rattle.rx_closing.proofs.Living.LifeBetween.{asked_between}
use Rattle.rx_closing.proofs.Messages.Sifted.{IsOwn, Sifted}
use Rattle.rx_closing.proofs.Messages.TakesAll.{IsNotFor}
use Rattle.rx_closing.proofs.Polls.CalmGiven.{calm_given}
use Rattle.rx_closing.proofs.Rounds.Chains.{Adds, RoundAdds, adds_both, adds_none, round_adds}
use Rattle.rx_closing.proofs.Telling.DebtComes.{RoundOf, round_of}
use Rattle.rx_closing.proofs.Unknown.BegunAmong.{BegunAmong}
use Rattle.rx_closing.proofs.Unknown.BegunSoon.{begun_among}

module _ (cs : List CallName) (c : CallName) (k : ℕ) (client server : Node) (g : Handlers) (s t : Stage)
    (r : RoundMade g s t) (z : Crowd cs s) (one : OneOf c k client server t) (inside : In c cs) (a b : CallRecord)
    (asked_first : asked_in c k client s ≡ Some a) (asked_last : asked_in c k client t ≡ Some b)
    (calls_first : a.life ≡ lives.Calling) (calls_last : b.life ≡ lives.Calling) (service nonces : ℕ)
    (kind : server.setup.kind ≡ Server service nonces) where
  q : RoundOf c k client server g s t r
  q = round_of c k client server g s t r one

  from_polled : Adds r.polled.stage.history t.history
  from_polled = adds_both r.polled.stage.history r.delivered.history t.history q.to_delivered q.to_end

  to_delivered : Adds s.history r.delivered.history
  to_delivered = adds_both s.history r.polled.stage.history r.delivered.history q.to_polled q.to_delivered

  asked_polled : (x : CallRecord) × (asked_in c k client r.polled.stage ≡ Some x) × (x.life ≡ a.life)
  asked_polled =
      asked_between c k client server t one s r.polled.stage q.to_polled from_polled a b asked_first asked_last
      (calls_last ∙ sym calls_first)

  asked_delivered : (x : CallRecord) × (asked_in c k client r.delivered ≡ Some x) × (x.life ≡ a.life)
  asked_delivered =
      asked_between c k client server t one s r.delivered to_delivered q.to_end a b asked_first asked_last
      (calls_last ∙ sym calls_first)

  server_there : slice_get s.nodes 0 ≡ Some server
  server_there = q.begins.server_there

  among : (h : List Noted) → Adds r.polled.stage.history h → Adds h r.delivered.history
      → AreAmong cs (looks server.setup (side 0 h))
  among h front back =
      crowd_within cs s z g t r h (adds_both s.history r.polled.stage.history h q.to_polled front)
      (adds_both h r.delivered.history t.history back q.to_end) 0 server server_there

  adds : RoundAdds g s t r
  adds = round_adds g s t r

  -- what comes of what the client gave of it
  pub begun_round : (Else : Datagram → Type 0) → ((d : Datagram) → Else d → IsNotFor server c d) → (ms : List Message)
      → Sifted (IsOwn client.setup c service) Else client.host server.host r.polled.given ms
      → served_in c server r.polled.stage ≡ None → BegunAmong c server r.delivered r.polled.stage ms
  begun_round Else other ms sifted none =
      begun_among c k client server t one service nonces kind r.polled.stage r.delivered q.to_end
      (adds.delivered_nodes ∙ sym adds.nodes) asked_polled.0 asked_delivered.0 asked_polled.1 asked_delivered.1
      (asked_polled.2 ∙ calls_first) (asked_delivered.2 ∙ calls_first) cs inside
      (if-some (slice_get s.nodes 0) server (λ (n : Node). IsSpacious cs n.setup) server_there (z.space 0)) among Else
      other r.polled.given ms sifted
      (calm_given cs c k client server g s t r z one a b asked_first asked_last calls_first calls_last) r.polled.stage
      (adds_none r.polled.stage.history) q.polled.server_there r.delivers_are none
