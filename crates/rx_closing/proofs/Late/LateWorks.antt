-- In rounds through which a call stands, where it lives at its client and its server is at work with it, its two ends
-- don't come to rest: the next turns would take it further.
use Rattle.std.proofs.Common.{◌≡◌, ◌<◌, ◌≤◌, ◌+◌, ℕ, suc, Bool, true, false, List, Some, refl, ap, sym, subst, ◌∙◌}
use Rattle.std.proofs.Common.{arith}
use Rattle.rx_model.specs.declared.names.CallName.{CallName}
use Rattle.rx_rules.specs.Life.{is_active}
use Rattle.rx_rules.specs.Looks.{CallRecord}
use Rattle.rx_rules.specs.Sent.{counting_of}
use Rattle.rx_history.specs.Sides.{Node}
use Rattle.rx_script.specs.declared.plan.Numbered.{Numbered}
use Rattle.rx_jobs.specs.Handlers.{Handlers}
use Rattle.rx_plan.specs.Answering.{AreServable}
use Rattle.rx_plan.specs.Stages.{Stage}
use Rattle.rx_between.proofs.Each.EachItem.{In}
use Rattle.rx_rounds.proofs.Rounded.{RoundMade}
use Rattle.rx_closing.proofs.Ends.AtRest.{Rest}
use Rattle.rx_closing.proofs.Ends.BothEnds.{RestsOn, Stood}
use Rattle.rx_closing.proofs.Ends.Resting.{rests_on}
use Rattle.rx_closing.proofs.Far.AtWork.{IsServing}
use Rattle.rx_closing.proofs.Far.FarStands.{StandsAt, StandsOf, asked_further, both_stand, scene_stands, served_further}
use Rattle.rx_closing.proofs.Frame.{IsKept, OneOf, asked_in, far_of, served_in}
use Rattle.rx_closing.proofs.Rounds.Chains.{Adds, Chain, RoundAdds, adds_both, chain_more, chain_none, round_adds}
use Rattle.rx_closing.proofs.Server.NeverRests.{never_rests}
use Rattle.rx_closing.proofs.Sums.RoundLoads.{both_ends, looks_or}
use Rattle.rx_closing.proofs.Together.AllGrows.{steps_of}
use Rattle.rx_closing.proofs.Together.AllRounds.{RoundAll, RoundIs, round_all}
use Rattle.rx_closing.proofs.Together.JobsGo.{JobsGo}
use Rattle.rx_closing.proofs.Together.Members.{AllHere, Member, member_way, names_of}
use Rattle.rx_closing.proofs.Together.MembersHere.{is_member}
use Rattle.rx_closing.proofs.Together.MembersStand.{RoundStands, round_stands}
use Rattle.rx_closing.proofs.Unknown.UnservedMeet.{IsAsked}
use Rattle.rx_closing.proofs.Working.MemberRounds.{counts_at}
use Rattle.rx_closing.proofs.Working.StandsFrom.{StandsFrom, stands_at}
use Rattle.rx_closing.proofs.Working.WorkHere.{stands_from}

-- an end that stands
stood_of : (x y : CallRecord) → StandsAt x y → Stood x.looks y.looks
stood_of x y s =
    record {
      pieces = s.pieces;
      given = s.given;
      acked = s.acked;
      shut = s.shut;
      front = s.front;
      used = s.used;
      ended = s.ended;
    }

module _ (g : Handlers) (ls : List Numbered) (servable : AreServable g) (server : Node) (jobs : JobsGo g ls server)
    (ms : List Member) (y z u : Stage) (so : StandsFrom g ls server ms y z u) (rest_z : (n : ℕ) × Chain g n z u)
    (m : Member) (inside : In m ms) (a : IsAsked m.call m.index m.client z) (b : IsServing m.call server z) where
  abbrev c : CallName
  c = m.call

  abbrev k : ℕ
  k = m.index

  abbrev client : Node
  client = m.client

  module _ (n : ℕ) (w : Stage) (r : RoundMade g z w) (rest : Chain g n w u)
      (same : member_way g server z m ≡ member_way g server w m) (rested : Rest (both_ends c k client server z)) where
    to_w : Chain g 1 z w
    to_w = chain_more 0 z w w r (chain_none w)

    adds : RoundAdds g z w r
    adds = round_adds g z w r

    here_z : AllHere g ls server ms z
    here_z = so.all 0 (suc n) z (chain_none z) (chain_more n z w u r rest) (omega arith)

    here_w : AllHere g ls server ms w
    here_w = so.all 1 n w to_w rest (omega arith)

    kept : IsKept z.nodes w
    kept = subst (λ (ns : List Node). IsKept ns w) adds.nodes here_w.crowd.kept

    all : RoundAll g ls server ms z w r
    all = round_all g ls server ms z w here_z r kept

    stages : RoundIs g ls server m z w r
    stages = all.each m inside (is_member g ls server ms z here_z m inside)

    ways : RoundStands g ls server jobs ms m z w r
    ways = round_stands g ls server jobs ms z w here_z r kept m inside same

    before : OneOf c k client server r.delivered
    before = stages.delivered.one

    behind : OneOf c k client server r.served
    behind = stages.served.one

    -- ---- the call behind the dispatcher's turn

    to_delivered : Adds z.history r.delivered.history
    to_delivered = adds_both z.history r.polled.stage.history r.delivered.history adds.polled adds.delivered

    to_served : Adds z.history r.served.history
    to_served = adds_both z.history r.delivered.history r.served.history to_delivered adds.served

    stands_served : StandsOf (asked_in c k client z) (asked_in c k client r.served)
        × StandsOf (served_in c server z) (served_in c server r.served)
    stands_served =
        scene_stands c k client server r.served behind z to_served.more to_served.is ways.served.far

    asked : (f : CallRecord) × (asked_in c k client r.served ≡ Some f) × StandsAt a.call f
    asked = stands_from (asked_in c k client z) (asked_in c k client r.served) a.call a.there stands_served.0

    served : (f : CallRecord) × (served_in c server r.served ≡ Some f) × StandsAt b.call f
    served = stands_from (served_in c server z) (served_in c server r.served) b.call b.there stands_served.1

    -- ---- both directions rest there

    asks_z : RestsOn a.call.looks.sent b.call.looks.received
    asks_z =
        subst (λ o. RestsOn a.call.looks.sent (looks_or o).received) b.there
        (subst (λ o. RestsOn (looks_or o).sent (looks_or (served_in c server z)).received) a.there rested.request)

    answers_z : RestsOn b.call.looks.sent a.call.looks.received
    answers_z =
        subst (λ o. RestsOn b.call.looks.sent (looks_or o).received) a.there
        (subst (λ o. RestsOn (looks_or o).sent (looks_or (asked_in c k client z)).received) b.there rested.reply)

    asks : RestsOn asked.0.looks.sent served.0.looks.received
    asks =
        rests_on a.call.looks asked.0.looks b.call.looks served.0.looks (stood_of a.call asked.0 asked.2)
        (stood_of b.call served.0 served.2) asks_z

    answers : RestsOn served.0.looks.sent asked.0.looks.received
    answers =
        rests_on b.call.looks served.0.looks a.call.looks asked.0.looks (stood_of b.call served.0 served.2)
        (stood_of a.call asked.0 asked.2) answers_z

    -- ---- the request is shut

    over : (f : CallRecord) × (asked_in c k client w ≡ Some f) × StandsAt a.call f
    over =
        stands_from (asked_in c k client z) (asked_in c k client w) a.call a.there
        (stands_at g ls server ms y z u so rest_z m inside 1 n w to_w rest (omega arith)).0

    counts : over.0.looks.sent.shut ≡ false → over.0.looks.sent.acked < counting_of over.0.looks.sent
    counts =
        subst (λ o. (looks_or o).sent.shut ≡ false → (looks_or o).sent.acked < counting_of (looks_or o).sent) over.1
        (counts_at g ls servable server ms y z u so rest_z m inside a b 0 n z w (chain_none z) r rest (omega arith))

    shut_w : (s : Bool) → over.0.looks.sent.shut ≡ s → s ≡ true
    shut_w true is = refl
    shut_w false is =
        (let more = counts is in
        let acked = over.2.acked in
        let counting = over.2.counting in
        let given = asks_z.acked in
        let all_ = asks_z.counts in
        absurd (omega (arith, more, acked, counting, given, all_)))

    shut : asked.0.looks.sent.shut ≡ true
    shut = asked.2.shut ∙ sym over.2.shut ∙ shut_w over.0.looks.sent.shut refl

    -- ---- the turn takes it no further

    far_delivered : (far_of (asked_in c k client z) ≡ far_of (asked_in c k client r.delivered))
        × (far_of (served_in c server z) ≡ far_of (served_in c server r.delivered))
    far_delivered =
        both_stand (asked_in c k client z) (asked_in c k client r.delivered) (served_in c server z)
        (served_in c server r.delivered)
        (asked_further c k client server r.delivered before z to_delivered.more to_delivered.is)
        (served_further c k client server r.delivered before z to_delivered.more to_delivered.is) ways.delivered.far

    far_served : (far_of (asked_in c k client z) ≡ far_of (asked_in c k client r.served))
        × (far_of (served_in c server z) ≡ far_of (served_in c server r.served))
    far_served =
        both_stand (asked_in c k client z) (asked_in c k client r.served) (served_in c server z)
        (served_in c server r.served)
        (asked_further c k client server r.served behind z to_served.more to_served.is)
        (served_further c k client server r.served behind z to_served.more to_served.is) ways.served.far

    still : far_of (served_in c server r.served) + steps_of g server m r.served
        ≤ far_of (served_in c server r.delivered) + steps_of g server m r.delivered
    still =
        (let p = far_delivered.1 in
        let q = far_served.1 in
        let s = ways.delivered.steps in
        let t = ways.served.steps in
        omega (arith, p, q, s, t))

    -- so both ends don't rest
    pub never_rested : ⊥
    never_rested =
        never_rests g ls servable c k client server m.request r.delivered r.served before behind
        all.delivered.held all.served.held stages.delivered.caused stages.served.caused.cause
        r.serves_are (names_of ms) all.delivered.crowd asked.0 served.0 asked.1 served.1 asks answers shut still
        (ap is_active served.2.life ∙ b.works)
