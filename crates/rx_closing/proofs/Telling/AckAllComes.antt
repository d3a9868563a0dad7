-- An ACKALL that a client owes of a call as a round begins ends the call at its server in the deliveries of that
-- round, where it was at work there.
use Rattle.std.proofs.Common.{◌≡◌, ◌++◌, if◌then◌else◌, ℕ, suc, Bool, true, false, List, [], ◌∷◌, Option, Some, None}
use Rattle.std.proofs.Common.{refl, ◌∙◌, ap, sym, subst, is_some, append_assoc}
use Rattle.rx_model.specs.declared.answers.Took.{Took}
use Rattle.rx_model.specs.declared.answers.Took.TheVariants as tooks
use Rattle.rx_model.specs.declared.event.Event.{Event}
use Rattle.rx_model.specs.declared.event.Event.TheVariants as events
use Rattle.rx_model.specs.declared.event.Noted.{Noted}
use Rattle.rx_model.specs.declared.names.CallName.{CallName}
use Rattle.rx_model.specs.Body.{Body}
use Rattle.rx_model.specs.Body as bodies
use Rattle.rx_model.specs.Names.{channel_of, connection_of}
use Rattle.rx_rules.specs.After.{after, looks, prepared, settled}
use Rattle.rx_rules.specs.CallLooks.{after_taken, call_row, is_delivered}
use Rattle.rx_rules.specs.Judging.{is_for_servers, outer_row, took_of}
use Rattle.rx_rules.specs.Life.{after_acks, is_active}
use Rattle.rx_rules.specs.Life as lives
use Rattle.rx_rules.specs.Looks.{CallRecord, Looks, call_at, channel_at}
use Rattle.rx_rules.specs.Rules.{Legal}
use Rattle.rx_rules.specs.Sent.{is_all_given}
use Rattle.rx_rules.specs.Setup.{IsServer, named}
use Rattle.rx_rules.specs.Slots.{node_view}
use Rattle.rx_history.specs.Sides.{Node, side}
use Rattle.rx_law.proofs.Joint.{Fed, fed-at}
use Rattle.rx_law.specs.Promises.{ends_in}
use Rattle.rx_law.specs.Worlds.{Gave, TwoEnds}
use Rattle.rx_jobs.specs.Handlers.{Handlers}
use Rattle.rx_wire.specs.Turns.{noted}
use Rattle.rx_plan.specs.Stages.{Stage}
use Rattle.rx_plan.proofs.QuietEvents.{AreServed}
use Rattle.rx_between.specs.Agreed.{MakesSense, SenseAt, passed_at}
use Rattle.rx_between.proofs.CameAll.{CameAll}
use Rattle.rx_between.proofs.Each.EachChange.{some_is}
use Rattle.rx_between.proofs.Sense.{sense_at_server}
use Rattle.rx_rounds.proofs.Rounded.{RoundMade}
use Rattle.rx_closing.specs.Living.{looks_of}
use Rattle.rx_closing.proofs.Conns.PlanPeers.{AreLinked}
use Rattle.rx_closing.proofs.Ends.RoomLaws.{active_lives}
use Rattle.rx_closing.proofs.Far.FarStands.{scene_fed}
use Rattle.rx_closing.proofs.Frame.{OneOf, served_in}
use Rattle.rx_closing.proofs.Messages.Arrives.{Meet, came_before}
use Rattle.rx_closing.proofs.Messages.Judged.{judged_by, taken_by}
use Rattle.rx_closing.proofs.Messages.Rows.{IsLast}
use Rattle.rx_closing.proofs.Owing.BareRound.{OwesAckAll}
use Rattle.rx_closing.proofs.Rounds.Chains.{Adds, adds_both}
use Rattle.rx_closing.proofs.Telling.AckAllTaken.{ackall_heard, ackall_own, ackall_took, delivered_by, finished_over}
use Rattle.rx_closing.proofs.Telling.AckAllTaken.{heard_there, shut_finished}
use Rattle.rx_closing.proofs.Telling.DebtComes.{DebtCame, RoundOf, debt_comes, legal_before, round_meets, round_of}
use Rattle.rx_closing.proofs.Telling.DebtComes.{round_serves, served_before, served_behind, served_taken}
use Rattle.rx_closing.proofs.Telling.DebtTaken.{debt_front, debt_name, debt_own}
use Rattle.rx_closing.proofs.Telling.OwedComes.{IsAckAll, ackall_debt, ackall_owed}
use Rattle.rx_plan.proofs.Soundness.SoundPlan.{and_left}

-- ---- a round

ackall_body : (body : Body) → IsAckAll body → body ≡ bodies.AckAll
ackall_body bodies.AckAll is = refl
ackall_body _ is = absurd is

ackall_served : (challenges : Bool) (body : Body) → IsAckAll body → is_for_servers challenges body ≡ true
ackall_served challenges bodies.AckAll is = refl
ackall_served challenges _ is = absurd is

module _ (c : CallName) (k : ℕ) (client server : Node) (g : Handlers) (s t : Stage) (r : RoundMade g s t)
    (one : OneOf c k client server t) where
  abbrev service : ℕ
  service = (round_serves c k client server g s t r one).0

  abbrev nonces : ℕ
  nonces = (round_serves c k client server g s t r one).1

  meet : Meet c k client server service nonces t.history
  meet = round_meets c k client server g s t r one

  serves : IsServer server.setup.kind
  serves = (scene_fed c k client server t one).server_kind

  abbrev x : TwoEnds
  x = ends_in (connection_of c) (suc k) client server

  module _ (f : DebtCame c k client server g s t r one IsAckAll) where
    abbrev at_stage : Stage → Looks
    at_stage u = looks server.setup (side 0 u.history)

    body : f.says.message.body ≡ bodies.AckAll
    body = ackall_body f.says.message.body f.says.kind

    front : (l : Looks) → outer_row server.setup server.setup.kind l f.datagram.from f.says.message ≡ None
    front l =
        debt_front c k client server service nonces t.history meet IsAckAll ackall_served f.datagram f.says f.from l

    name : named server.setup f.datagram.from f.says.message ≡ c
    name = debt_name c k client server service nonces t.history meet IsAckAll ackall_served f.datagram f.says f.from

    -- what comes makes sense
    sense_at : (taken : Took) (later at : List Noted) → (taken ≡ tooks.Foreign → ⊥)
        → t.history ≡ later ++ noted 0 (events.Taken f.datagram.from f.datagram.bytes taken) ∷ at
        → SenseAt server.setup f.says.message (call_at (looks server.setup (side 0 at)) c)
    sense_at taken later at other is =
        let e : Noted = noted 0 (events.Taken f.datagram.from f.datagram.bytes taken) in
        let came : CameAll x (e ∷ at) = came_before x later (e ∷ at) (subst (CameAll x) is meet.came) in
        let fed : Fed x at =
        fed-at x (later ++ e ∷ []) at (subst (Fed x) (is ∙ sym (append_assoc later (e ∷ []) at)) meet.fed) in
        let gave : Gave server.host f.datagram.bytes (side (suc k) at) =
        came.0 refl f.says.message other f.says.reads (front (looks server.setup (side 0 at)))
        (ap connection_of name) in
        sense_at_server x at fed came.2 c refl f.datagram.bytes f.says.message gave f.says.reads
        (debt_own c k client server service nonces t.history meet IsAckAll ackall_served f.datagram f.says f.from
        server.host)

    -- the server's life of the call behind it
    over_there : (y : CallRecord) → IsLast (at_stage f.taken.before) c y → is_active y.life ≡ true
        → Legal server.setup (side 0 f.taken.before.history) → (n : CallRecord)
        → call_at (at_stage f.taken.behind) c ≡ Some n → n.life ≡ y.life → ⊥
    over_there y last active legal n there same =
        finished_over (is_delivered (after_taken (node_view server.setup ready) tooks.Heard f.says.message y.looks))
        y.life finished all (sym lived ∙ same)
      where
        ready : Looks
        ready = prepared server.setup tooks.Heard (connection_of c) (at_stage f.taken.before)

        row : took_of server.setup (at_stage f.taken.before) f.datagram.from f.datagram.bytes
            ≡ (if is_all_given y.looks.sent then tooks.Heard else tooks.Strange)
        row =
            judged_by server.setup (at_stage f.taken.before) c f.datagram.from f.datagram.bytes f.says.message
            f.says.reads (front (at_stage f.taken.before)) name
            ∙ ackall_took server.setup (at_stage f.taken.before) c y f.says.message serves last active
            (ap (λ (d : CallName). d.number) name) body
            ∙ ap (λ (b : Body). call_row (node_view server.setup (at_stage f.taken.before)) f.says.message b y.looks)
            body

        q : RoundOf c k client server g s t r
        q = round_of c k client server g s t r one

        till : Adds f.taken.behind.history t.history
        till = adds_both f.taken.behind.history r.delivered.history t.history f.taken.back q.to_end

        sense : SenseAt server.setup f.says.message (call_at (at_stage f.taken.before) c)
        sense =
            subst (λ (es : List Event). SenseAt server.setup f.says.message (call_at (looks server.setup es) c))
            f.taken.took.still
            (sense_at (took_of server.setup (at_stage f.taken.before) f.datagram.from f.datagram.bytes)
            (till.more ++ f.taken.took.later) f.taken.took.at
            (λ is. ackall_own y.looks.sent (sym row ∙ is))
            (till.is ∙ ap (λ (es : List Noted). till.more ++ es) f.taken.took.is
            ∙ sym (append_assoc till.more f.taken.took.later _)))

        sensed : MakesSense (if is_all_given y.looks.sent then tooks.Heard else tooks.Strange)
        sensed =
            subst (λ (b : Body). MakesSense (call_row (node_view server.setup (at_stage f.taken.before))
            f.says.message b y.looks)) body
            (subst (λ (o : Option CallRecord). MakesSense (call_row (node_view server.setup (at_stage f.taken.before))
            f.says.message f.says.message.body (passed_at server.setup (at_stage f.taken.before).now o))) last.there
            (sense (node_view server.setup (at_stage f.taken.before)) refl refl))

        heard : (is_all_given y.looks.sent ≡ true)
            × ((if is_all_given y.looks.sent then tooks.Heard else tooks.Strange) ≡ tooks.Heard)
        heard = ackall_heard y.looks.sent sensed

        shut : y.looks.sent.shut ≡ true
        shut = and_left y.looks.sent.shut _ heard.0

        finished : y.life ≡ lives.Finished
        finished =
            shut_finished server.setup (side 0 f.taken.before.history) c y serves legal last.there active shut

        all : is_delivered (after_taken (node_view server.setup ready) tooks.Heard f.says.message y.looks) ≡ true
        all = delivered_by server.setup ready f.says.message y.looks body shut

        behind : call_at (at_stage f.taken.behind) c
            ≡ Some (settled (record y {
              looks = after_taken (node_view server.setup ready) tooks.Heard f.says.message y.looks;
            }))
        behind =
            ap (λ (l : Looks). call_at l c)
            (ap (looks server.setup) f.taken.took.own
            ∙ ap (λ (b : Took). after server.setup (events.Taken f.datagram.from f.datagram.bytes b)
            (at_stage f.taken.before)) (row ∙ heard.1)
            ∙ taken_by server.setup (at_stage f.taken.before) c f.datagram.from f.datagram.bytes f.says.message
            tooks.Heard f.says.reads (front (at_stage f.taken.before)) name)
            ∙ heard_there server.setup (at_stage f.taken.before) c y f.says.message last body

        lived : n.life
            ≡ after_acks (is_delivered (after_taken (node_view server.setup ready) tooks.Heard f.says.message y.looks))
            y.life
        lived =
            ap (λ (z : CallRecord). z.life)
            (some_is n (settled (record y {
              looks = after_taken (node_view server.setup ready) tooks.Heard f.says.message y.looks;
            })) (sym there ∙ behind))

  owed_some : (b : Bool) → b ≡ true → is_some (if b then Some bodies.AckAll else None) ≡ true
  owed_some true is = refl
  owed_some false is = absurd (cc (is))

  -- so a call that was at work there keeps no life through the deliveries
  pub ackall_ends : AreLinked s → AreServed s.nodes s.history → OwesAckAll c (looks_of s (suc k) client)
      → (y b : CallRecord) → served_in c server s ≡ Some y → is_active y.life ≡ true
      → served_in c server r.delivered ≡ Some b → b.life ≡ y.life → ⊥
  ackall_ends linked served owes y b at active behind same =
      over_there f m.0 last active_ legal n.0 n.1 (n.2 ∙ sym m.2)
    where
      f : DebtCame c k client server g s t r one IsAckAll
      f =
          debt_comes c k client server g s t r one linked served IsAckAll ackall_debt ackall_owed
          (owed_some (channel_at (looks_of s (suc k) client) (channel_of c)).owed_ackall owes.owed) owes.number
          owes.some

      m : (z : CallRecord) × (served_in c server f.taken.before ≡ Some z) × (z.life ≡ y.life)
      m = served_before c k client server g s t r one f.datagram f.taken y b at behind same

      n : (z : CallRecord) × (served_in c server f.taken.behind ≡ Some z) × (z.life ≡ y.life)
      n = served_behind c k client server g s t r one f.datagram f.taken y b at behind same

      active_ : is_active m.0.life ≡ true
      active_ = ap is_active m.2 ∙ active

      last : IsLast (looks_of f.taken.before 0 server) c m.0
      last = served_taken c k client server g s t r one f.datagram f.taken m.0 m.1 (active_lives m.0.life active_)

      legal : Legal server.setup (side 0 f.taken.before.history)
      legal = legal_before c k client server g s t r one f.datagram f.taken
