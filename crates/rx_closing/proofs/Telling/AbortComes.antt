-- An ABORT that one end of a call owes as a round begins ends the call at the other in the deliveries of that round.
use Rattle.std.proofs.Common.{◌≡◌, ◌==◌, ℕ, ℤ, suc, Bool, true, false, Option, Some, None, refl, ◌∙◌, ap, sym, is_some}
use Rattle.std.proofs.Common.{option_map, arith}
use Rattle.std.proofs.lemmas.Bool.{ne_eqb}
use Rattle.rx_model.specs.declared.answers.Took.{Took}
use Rattle.rx_model.specs.declared.answers.Took.TheVariants as tooks
use Rattle.rx_model.specs.declared.event.Event.TheVariants as events
use Rattle.rx_model.specs.declared.names.CallName.{CallName}
use Rattle.rx_model.specs.Body.{Body}
use Rattle.rx_model.specs.Body as bodies
use Rattle.rx_model.specs.Message.{Message}
use Rattle.rx_model.specs.Names.{channel_of}
use Rattle.rx_rules.specs.After.{after, looks}
use Rattle.rx_rules.specs.Judging.{is_for_servers, outer_row, took_of}
use Rattle.rx_rules.specs.Life.{Life, after_code, is_active}
use Rattle.rx_rules.specs.Life as lives
use Rattle.rx_rules.specs.Looks.{CallRecord, Looks, call_at, channel_at}
use Rattle.rx_rules.specs.Setup.{Server, named}
use Rattle.rx_history.specs.Sides.{Node}
use Rattle.rx_jobs.specs.Handlers.{Handlers}
use Rattle.rx_plan.specs.Stages.{Stage}
use Rattle.rx_plan.proofs.QuietEvents.{AreServed}
use Rattle.rx_between.specs.Agreed.{HasEnded}
use Rattle.rx_between.proofs.Each.EachChange.{some_is}
use Rattle.rx_rounds.proofs.Rounded.{RoundMade}
use Rattle.rx_closing.specs.Living.{looks_of}
use Rattle.rx_closing.proofs.Conns.PlanLinks.{linked_round}
use Rattle.rx_closing.proofs.Conns.PlanPeers.{AreLinked}
use Rattle.rx_closing.proofs.Ends.RoomLaws.{active_lives}
use Rattle.rx_closing.proofs.Far.FarGrows.{FurtherOf}
use Rattle.rx_closing.proofs.Far.FarStands.{asked_further, scene_fed}
use Rattle.rx_closing.proofs.Frame.{OneOf, asked_in, served_in}
use Rattle.rx_closing.proofs.Messages.Arrives.{Meet}
use Rattle.rx_closing.proofs.Messages.Judged.{judged_by, taken_by}
use Rattle.rx_closing.proofs.Messages.OneMeets.{one_meets, one_peers, one_serves}
use Rattle.rx_closing.proofs.Messages.Rows.{IsLast, abort_took}
use Rattle.rx_closing.proofs.Rounds.Chains.{adds_both}
use Rattle.rx_closing.proofs.Telling.AbortEnds.{aborts_end, stops_there}
use Rattle.rx_closing.proofs.Telling.AbortGiven.{gives_abort}
use Rattle.rx_closing.proofs.Telling.AbortOwed.{Owing}
use Rattle.rx_closing.proofs.Telling.DebtComes.{DebtCame, RoundOf, debt_comes, round_meets, round_of, round_serves}
use Rattle.rx_closing.proofs.Telling.DebtComes.{served_before, served_behind, served_taken}
use Rattle.rx_closing.proofs.Telling.DebtTaken.{debt_front, debt_name}
use Rattle.rx_closing.proofs.Telling.OwedComes.{IsAbort, abort_debt, abort_owed}

-- ---- the server's ends the call at its client

known_on : (a b : Option CallRecord) → FurtherOf a b → is_some a ≡ true → is_some b ≡ true
known_on None b further is = absurd cc
known_on (Some a) None further is = absurd further
known_on (Some a) (Some b) further is = refl

pub abort_ends : (c : CallName) (k : ℕ) (client server : Node) (g : Handlers) (s t : Stage) (r : RoundMade g s t)
    → OneOf c k client server t → AreLinked s → Owing c (looks_of s 0 server)
    → is_some (asked_in c k client s) ≡ true → HasEnded (asked_in c k client r.delivered)
abort_ends c k client server g s t r one linked owes known =
    aborts_end c k client server serves.0 serves.1 t.history meet r.polled.given r.polled.stage r.delivered
    q.polled.client_there r.delivers_are q.to_end.more q.to_end.is
    (gives_abort server c meet.fed.server_fits s r.polled r.polls_are q.begins.server_there
    (scene_fed c k client server s q.begins).server_legal owes)
    (one_peers c k client server t one (linked_round g s t r linked).over r.polled.stage
    (adds_both r.polled.stage.history r.delivered.history t.history q.to_delivered q.to_end))
    (known_on (asked_in c k client s) (asked_in c k client r.polled.stage)
    (asked_further c k client server r.polled.stage q.polled s q.to_polled.more q.to_polled.is) known)
  where
    q : RoundOf c k client server g s t r
    q = round_of c k client server g s t r one

    serves : (service : ℕ) × (nonces : ℕ) × (server.setup.kind ≡ Server service nonces)
    serves = one_serves c k client server t one

    meet : Meet c k client server serves.0 serves.1 t.history
    meet = one_meets c k client server t one serves.0 serves.1 serves.2

-- ---- the client's stops it at its server

abort_code : (body : Body) → IsAbort body → (code : ℤ) × (body ≡ bodies.Abort code)
abort_code (bodies.Abort code) is = (code, refl)
abort_code _ is = absurd is

abort_served : (challenges : Bool) (body : Body) → IsAbort body → is_for_servers challenges body ≡ true
abort_served challenges (bodies.Abort code) is = refl
abort_served challenges _ is = absurd is

-- a code changes the life of a call at work
code_moves : (code : ℤ) (x : Life) → is_active x ≡ true → after_code code x ≡ x → ⊥
code_moves code lives.Calling active same =
    (let no : lives.Calling ≡ after_code code lives.Calling = sym same in cc (no))
code_moves code lives.Waiting active same =
    (let no : lives.Waiting ≡ after_code code lives.Waiting = sym same in cc (no))
code_moves code lives.Accepted active same =
    (let no : lives.Accepted ≡ after_code code lives.Accepted = sym same in cc (no))
code_moves code lives.Finished active same =
    (let no : lives.Finished ≡ after_code code lives.Finished = sym same in cc (no))
code_moves code _ active same = (let no : false ≡ true = active in cc (no))

module _ (c : CallName) (k : ℕ) (client server : Node) (g : Handlers) (s t : Stage) (r : RoundMade g s t)
    (one : OneOf c k client server t) (f : DebtCame c k client server g s t r one IsAbort) (y : CallRecord) where
  -- where the server takes it its life there is another
  stopped : IsLast (looks_of f.taken.before 0 server) c y → is_active y.life ≡ true
      → served_in c server f.taken.behind ≡ Some
      (record y { life = after_code (abort_code f.says.message.body f.says.kind).0 y.life })
  stopped last active =
      ap (λ (l : Looks). call_at l c)
      (ap (looks server.setup) f.taken.took.own
      ∙ ap (λ (got : Took). after server.setup (events.Taken f.datagram.from f.datagram.bytes got) l) answer
      ∙ taken_by server.setup l c f.datagram.from f.datagram.bytes m tooks.Stopped f.says.reads front name)
      ∙ stops_there server.setup l c y m code.0 last none code.1
    where
      service : ℕ
      service = (round_serves c k client server g s t r one).0

      nonces : ℕ
      nonces = (round_serves c k client server g s t r one).1

      l : Looks
      l = looks_of f.taken.before 0 server

      m : Message
      m = f.says.message

      code : (code : ℤ) × (m.body ≡ bodies.Abort code)
      code = abort_code m.body f.says.kind

      front : outer_row server.setup server.setup.kind l f.datagram.from m ≡ None
      front =
          debt_front c k client server service nonces t.history (round_meets c k client server g s t r one) IsAbort
          abort_served f.datagram f.says f.from l

      name : named server.setup f.datagram.from m ≡ c
      name =
          debt_name c k client server service nonces t.history (round_meets c k client server g s t r one) IsAbort
          abort_served f.datagram f.says f.from

      none : (c.number == 0) ≡ false
      none = ne_eqb c.number 0 (λ (is : c.number ≡ 0). (let low = last.some in omega arith))

      answer : took_of server.setup l f.datagram.from f.datagram.bytes ≡ tooks.Stopped
      answer =
          judged_by server.setup l c f.datagram.from f.datagram.bytes m f.says.reads front name
          ∙ abort_took server.setup l c y m code.0 last active (ap (λ (n : CallName). n.number) name) code.1

abort_some : (o : Option ℤ) → is_some o ≡ true → is_some (option_map bodies.Abort o) ≡ true
abort_some None is = absurd (cc (is))
abort_some (Some code) is = refl

module _ (c : CallName) (k : ℕ) (client server : Node) (g : Handlers) (s t : Stage) (r : RoundMade g s t) where
  -- so a call that was at work there keeps no life through the deliveries
  pub client_abort_stops : OneOf c k client server t → AreLinked s → AreServed s.nodes s.history
      → Owing c (looks_of s (suc k) client) → (y b : CallRecord) → served_in c server s ≡ Some y
      → is_active y.life ≡ true → served_in c server r.delivered ≡ Some b → b.life ≡ y.life → ⊥
  client_abort_stops one linked served owes y b at active behind same =
      code_moves (abort_code f.says.message.body f.says.kind).0 m.0.life active_ moved
    where
      f : DebtCame c k client server g s t r one IsAbort
      f =
          debt_comes c k client server g s t r one linked served IsAbort abort_debt abort_owed
          (abort_some (channel_at (looks_of s (suc k) client) (channel_of c)).owed_abort owes.owed) owes.number
          owes.some

      m : (m : CallRecord) × (served_in c server f.taken.before ≡ Some m) × (m.life ≡ y.life)
      m = served_before c k client server g s t r one f.datagram f.taken y b at behind same

      n : (m : CallRecord) × (served_in c server f.taken.behind ≡ Some m) × (m.life ≡ y.life)
      n = served_behind c k client server g s t r one f.datagram f.taken y b at behind same

      active_ : is_active m.0.life ≡ true
      active_ = ap is_active m.2 ∙ active

      last : IsLast (looks_of f.taken.before 0 server) c m.0
      last = served_taken c k client server g s t r one f.datagram f.taken m.0 m.1 (active_lives m.0.life active_)

      moved : after_code (abort_code f.says.message.body f.says.kind).0 m.0.life ≡ m.0.life
      moved =
          (let then_ = stopped c k client server g s t r one f m.0 last active_ in
          let one_ : ◌≡◌ {A = Option CallRecord} (Some n.0)
          (Some (record m.0 { life = after_code (abort_code f.says.message.body f.says.kind).0 m.0.life })) =
          sym n.1 ∙ then_ in
          let is : n.0 ≡ record m.0 { life = after_code (abort_code f.says.message.body f.says.kind).0 m.0.life } =
          some_is n.0 (record m.0 { life = after_code (abort_code f.says.message.body f.says.kind).0 m.0.life }) one_ in
          ap (λ (x : CallRecord). x.life) (sym is) ∙ n.2 ∙ sym m.2)
