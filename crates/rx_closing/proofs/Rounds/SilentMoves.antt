-- A call that is silent at one of its ends as a round begins is further behind the round's polls, whatever other calls
-- live.
use Rattle.std.proofs.Common.{◌≡◌, ◌<◌, ◌≤◌, ◌-◌, ◌==◌, ◌&&◌, nat_le, if◌then◌else◌, ℕ, suc, Bool, true, false, List}
use Rattle.std.proofs.Common.{[], ◌∷◌, Option, Some, None, Ok, refl, ap, sym, subst, ◌∙◌, ⊎_elim, arith}
use Rattle.std.proofs.lemmas.Bool.{cases_lt}
use Rattle.std.specs.Prelude.{slice_get}
use Rattle.rx_model.specs.declared.event.Event.{Event}
use Rattle.rx_model.specs.declared.event.Event.TheVariants as events
use Rattle.rx_model.specs.declared.event.Noted.{Noted}
use Rattle.rx_model.specs.declared.names.CallName.{CallName}
use Rattle.rx_model.specs.declared.names.Host.{Host}
use Rattle.rx_model.specs.declared.wire.TheConstants.{SILENCE_MS}
use Rattle.rx_model.specs.Names.{same_name}
use Rattle.rx_model.proofs.NameLaws.{same_number}
use Rattle.rx_rules.specs.After.{looks}
use Rattle.rx_rules.specs.CallLooks.{CallLooks}
use Rattle.rx_rules.specs.Life.{is_active}
use Rattle.rx_rules.specs.Looks.{CallRecord, Looks, call_at}
use Rattle.rx_rules.specs.Records.{is_silent}
use Rattle.rx_rules.specs.Rules.{Allowed, Legal}
use Rattle.rx_rules.specs.Setup.{FitsSetup, Setup}
use Rattle.rx_history.specs.Sides.{Node, side}
use Rattle.rx_history.proofs.Differ.{every_found}
use Rattle.rx_history.proofs.Moments.{now-after}
use Rattle.rx_law.proofs.World.{and-some, if-some}
use Rattle.rx_between.proofs.Each.EachEvent.{each_step}
use Rattle.rx_between.proofs.Each.EachStep.{CallStep, EndStep, Goes, IsMade, Opens, Starts, finishes, gives, reads}
use Rattle.rx_between.proofs.Each.EachStep.{shuts}
use Rattle.rx_between.proofs.Each.EachStep.{stays, takes, writes}
use Rattle.rx_events.specs.Events.{IsPolled}
use Rattle.rx_events.specs.Joint.{IsAllowedAt}
use Rattle.rx_wire.specs.Turns.{noted}
use Rattle.rx_plan.specs.Parts.{To}
use Rattle.rx_plan.specs.Rounds.{Polled, clients_first, polling, polls, polls_at, polls_out}
use Rattle.rx_plan.specs.Stages.{Stage, host_at}
use Rattle.rx_plan.proofs.Leading.{Leads, each_lead, ends_lead, then_lead, turn_lead}
use Rattle.rx_rounds.proofs.Rounded.{Made}
use Rattle.rx_closing.specs.Living.{looks_of}
use Rattle.rx_closing.proofs.Far.FarGrows.{FurtherOf}
use Rattle.rx_closing.proofs.Far.FarStands.{StandsAt, asked_further, asked_low, both_far, far_low, served_further}
use Rattle.rx_closing.proofs.Far.FarStands.{served_low, stands_each}
use Rattle.rx_closing.proofs.Frame.{OneOf, asked_in, far_of, served_in}
use Rattle.rx_closing.proofs.Living.Before.{one_before}
use Rattle.rx_closing.proofs.Polls.OnePoll.{sending_heard}
use Rattle.rx_closing.proofs.Polls.PolledAll.{all_polled_out}
use Rattle.rx_closing.proofs.Rounds.Chains.{Adds}
use Rattle.rx_closing.proofs.Rounds.RoundClocks.{SilentAt}
use Rattle.rx_closing.proofs.Silence.DiesSilent.{both_second}
use Rattle.rx_plan.proofs.Soundness.SoundPlan.{and_left}

-- ---- the polls of a round as single events

-- what each poll leaves holds behind all of them
module _ (Q : List Node → List Noted → Type 0)
    (step : (nodes : List Node) (h : List Noted) (node : ℕ) (got : Option (Host × List ℕ))
    → IsAllowedAt nodes h node (events.Polled got) → Q nodes h → Q nodes (noted node (events.Polled got) ∷ h)) where
  abbrev Holds : Stage → Type 0
  Holds s = Q s.nodes s.history

  one_step : (t : Stage) (node : ℕ) (e : Event) → IsPolled e → IsAllowedAt t.nodes t.history node e → Holds t
      → Q t.nodes (noted node e ∷ t.history)
  one_step t node (events.Polled got) is allowed so = step t.nodes t.history node got allowed so
  one_step t node e is allowed so = elim is [ ]

  node_lead : (node : ℕ) (o : Option Host) (p : Polled) → Holds p.stage
      → Leads (λ (q : Polled). Holds q.stage) (polls_at node o p)
  node_lead node None p so = ends_lead (λ (q : Polled). Holds q.stage) (To p) so
  node_lead node (Some from) p so =
      then_lead (λ r. Holds r.1 × ((polling from).asks r.0 ≡ None)) (λ (q : Polled). Holds q.stage) _ _
      (turn_lead (polling from) node (λ v t. Holds t)
      (λ v t a e there asked is allowed. one_step t node e is allowed there)
      (record { again = true; given = p.given }) p.stage so)
      (λ r there. ends_lead (λ (q : Polled). Holds q.stage) _ there.0)

  pub polls_hold : (s : Stage) (p : Polled) → Made polls s p → Holds s → Holds p.stage
  polls_hold s p made so =
      each_lead (λ (q : Polled). Holds q.stage) polls_out
      (λ node q there. node_lead node (host_at q.stage node) q there) (clients_first s)
      (record { stage = s; given = [] }) so made.0 p made.1

-- ---- a poll leaves what a call heard

end_heard : (s : Setup) (l : Looks) (got : Option (Host × List ℕ)) (c : CallName) (a b : CallLooks)
    → EndStep s l (events.Polled got) c a b → b.heard ≡ a.heard
end_heard s l got c a b (stays same) = ap (λ (k : CallLooks). k.heard) same
end_heard s l got c a b (takes t) =
    absurd (let wrong : events.Polled got ≡ events.Taken t.judges.from t.judges.bytes t.got = t.judges.is in cc (wrong))
end_heard s l got c a b (gives g) = ap (λ (k : CallLooks). k.heard) g.is ∙ sending_heard l.now g.sending a
end_heard s l got c a b (writes offered wrote bytes is same) = ap (λ (k : CallLooks). k.heard) same
end_heard s l got c a b (reads most read bytes is same) = ap (λ (k : CallLooks). k.heard) same
end_heard s l got c a b (shuts is same) = ap (λ (k : CallLooks). k.heard) same
end_heard s l got c a b (finishes code is zero_ same) = ap (λ (k : CallLooks). k.heard) same

no_start : (s : Setup) (l : Looks) (got : Option (Host × List ℕ)) (c : CallName) (b : CallRecord)
    → Starts s l (events.Polled got) c b → ⊥
no_start s l got c b starts =
    ⊎_elim
    (λ (o : Opens s l (events.Polled got) c b). (
    let wrong : events.Polled got ≡ events.Taken o.takes.judges.from o.takes.judges.bytes o.takes.got =
    o.takes.judges.is in absurd (cc (wrong))))
    (λ (m : IsMade s l (events.Polled got) c b). (
    let wrong : events.Polled got ≡ events.Called m.cid (Ok c) = m.event in
    absurd (cc (wrong)))) starts.1

-- a node's events, behind which it has the call, as it was heard by this moment, and its clock is this
record HeardAt (n : Node) (c : CallName) (heard now : ℕ) (es : List Event) : Type 0 where
  legal : Legal n.setup es
  call : CallRecord
  there : call_at (looks n.setup es) c ≡ Some call
  heard_is : call.looks.heard ≡ heard
  now_is : (looks n.setup es).now ≡ now

heard_on : (n : Node) (c : CallName) (heard now : ℕ) (es : List Event) (got : Option (Host × List ℕ))
    → FitsSetup n.setup → Allowed n.setup (looks n.setup es) (events.Polled got) → HeardAt n c heard now es
    → HeardAt n c heard now (events.Polled got ∷ es)
heard_on n c heard now es got fits allowed v =
    of (call_at (looks n.setup (events.Polled got ∷ es)) c) refl
    (subst (λ (o : Option CallRecord). CallStep n.setup (looks n.setup es) (events.Polled got) c o
    (call_at (looks n.setup (events.Polled got ∷ es)) c)) v.there
    (each_step n.setup es (events.Polled got) c fits (allowed, v.legal)))
  where
    of : (o : Option CallRecord) → call_at (looks n.setup (events.Polled got ∷ es)) c ≡ o
        → CallStep n.setup (looks n.setup es) (events.Polled got) c (Some v.call) o
        → HeardAt n c heard now (events.Polled got ∷ es)
    of None is step = absurd step
    of (Some b) is step =
        record {
          legal = (allowed, v.legal);
          call = b;
          there = is;
          heard_is = ⊎_elim
              (λ (g : Goes n.setup (looks n.setup es) (events.Polled got) c v.call b).
              end_heard n.setup (looks n.setup es) got c v.call.looks b.looks g.end ∙ v.heard_is)
              (λ (starts : Starts n.setup (looks n.setup es) (events.Polled got) c b).
              absurd (no_start n.setup (looks n.setup es) got c b starts)) step;
          now_is = now-after n.setup (looks n.setup es) (events.Polled got) ∙ v.now_is;
        }

-- ---- a silent call

first_false : (a b : Bool) → b ≡ true → (a && b) ≡ false → a ≡ false
first_false true true is none = absurd cc
first_false true false is none = absurd cc
first_false false b is none = refl

-- behind the polls it is active no more
pub silent_done : (s : Stage) (p : Polled) → Made polls s p → (j : ℕ) (n : Node) → slice_get s.nodes j ≡ Some n
    → FitsSetup n.setup → Legal n.setup (side j s.history) → (c : CallName) (a : CallRecord)
    → call_at (looks_of s j n) c ≡ Some a → is_silent (looks_of s j n).now a ≡ true
    → (b : CallRecord) × (call_at (looks_of p.stage j n) c ≡ Some b) × (is_active b.life ≡ false)
silent_done s p made j n at fits legal c a there silent =
    (let v = (polls_hold Q step s p made (at, begins)).1 in
    let l : Looks = looks_of p.stage j n in
    let awake : is_silent l.now v.call ≡ false =
    every_found (λ (x : CallRecord). is_silent l.now x ≡ false) (λ (x : CallRecord). same_name x.name c) l.calls v.call
    (all_polled_out s p made j n at).awake v.there in
    let long : nat_le SILENCE_MS ((looks_of s j n).now - a.looks.heard) ≡ true =
    both_second (is_active a.life) (nat_le SILENCE_MS ((looks_of s j n).now - a.looks.heard)) silent in
    let same : l.now - v.call.looks.heard ≡ (looks_of s j n).now - a.looks.heard =
    (λ i. v.now_is i - v.heard_is i) in (
      v.call,
      v.there,
      first_false (is_active v.call.life) (nat_le SILENCE_MS (l.now - v.call.looks.heard))
          (ap (nat_le SILENCE_MS) same ∙ long) awake,
    ))
  where
    Q : List Node → List Noted → Type 0
    Q nodes h = (slice_get nodes j ≡ Some n) × HeardAt n c a.looks.heard (looks_of s j n).now (side j h)

    begins : HeardAt n c a.looks.heard (looks_of s j n).now (side j s.history)
    begins = record { legal = legal; call = a; there = there; heard_is = refl; now_is = refl }

    step : (nodes : List Node) (h : List Noted) (node : ℕ) (got : Option (Host × List ℕ))
        → IsAllowedAt nodes h node (events.Polled got) → Q nodes h → Q nodes (noted node (events.Polled got) ∷ h)
    step nodes h node got allowed so = (so.0, by (node == j) refl)
      where
        by : (b : Bool) → (node == j) ≡ b
            → HeardAt n c a.looks.heard (looks_of s j n).now (if b then events.Polled got ∷ side j h else side j h)
        by false other = so.1
        by true own =
            heard_on n c a.looks.heard (looks_of s j n).now (side j h) got fits
            (and-some (slice_get nodes j) n
            (λ m. Allowed m.setup (looks m.setup (side j h)) (events.Polled got)) so.0
            (subst (λ (i : ℕ). IsAllowedAt nodes h i (events.Polled got)) (same_number node j own) allowed)) so.1

-- so it is further
rises : (a b : CallRecord) (o q : Option CallRecord) → o ≡ Some a → q ≡ Some b → FurtherOf o q
    → is_active a.life ≡ true → is_active b.life ≡ false → far_of o < far_of q
rises a b o q at behind further active done =
    ⊎_elim (λ (less : far_of o < far_of q). less)
    (λ (most : far_of q ≤ far_of o). (
    let low = far_low o q further in
    let same : far_of o ≡ far_of q = omega (arith, low, most) in
    absurd (stands a b (subst (λ (x : Option CallRecord). FurtherOf x (Some b)) at
    (subst (λ (x : Option CallRecord). FurtherOf o x) behind further))
    (sym (ap far_of at) ∙ same ∙ ap far_of behind) active done)))
    (cases_lt (far_of o) (far_of q))
  where
    stands : (x y : CallRecord) → FurtherOf (Some x) (Some y) → far_of (Some x) ≡ far_of (Some y)
        → is_active x.life ≡ true → is_active y.life ≡ false → ⊥
    stands x y on same first second =
        (let both : StandsAt x y = stands_each (Some x) (Some y) on same in
        let no : ◌≡◌ {A = Bool} true false = sym first ∙ sym (ap is_active both.life) ∙ second in
        cc (no))

-- ---- at one of its ends

pub silent_moves : (c : CallName) (k : ℕ) (client server : Node) (s : Stage) (p : Polled) → Made polls s p
    → s.nodes ≡ p.stage.nodes → Adds s.history p.stage.history → OneOf c k client server p.stage
    → SilentAt c k client server s → both_far c k client server s < both_far c k client server p.stage
silent_moves c k client server s p made nodes adds one silent = ⊎_elim at_client at_server silent
  where
    fits_at : (j : ℕ) (n : Node) → slice_get p.stage.nodes j ≡ Some n → FitsSetup n.setup
    fits_at j n there =
        if-some (slice_get p.stage.nodes j) n (λ m. FitsSetup m.setup) there (one.world.sides.nodes_are.fits j)

    before : (j : ℕ) (n : Node) → slice_get p.stage.nodes j ≡ Some n → slice_get s.nodes j ≡ Some n
    before j n there = ap (λ (ns : List Node). slice_get ns j) nodes ∙ there

    old : OneOf c k client server s
    old = one_before c k client server p.stage one s nodes adds

    legal_at : (j : ℕ) (n : Node) → slice_get s.nodes j ≡ Some n → Legal n.setup (side j s.history)
    legal_at j n there =
        if-some (slice_get s.nodes j) n (λ m. Legal m.setup (side j s.history)) there (old.world.sides.legal j)

    at_client : (r : CallRecord) × (asked_in c k client s ≡ Some r)
        × (is_silent (looks_of s (suc k) client).now r ≡ true)
        → both_far c k client server s < both_far c k client server p.stage
    at_client r =
        (let d = silent_done s p made (suc k) client old.client_there (fits_at (suc k) client one.client_there)
        (legal_at (suc k) client old.client_there) c r.0 r.1 r.2 in
        let up = rises r.0 d.0 (asked_in c k client s) (asked_in c k client p.stage) r.1 d.1
        (asked_further c k client server p.stage one s adds.more adds.is) (and_left (is_active (r.0).life) _ r.2) d.2
        in
        let low = served_low c k client server p.stage one s adds.more adds.is in
        omega (arith, up, low))

    at_server : (r : CallRecord) × (served_in c server s ≡ Some r) × (is_silent (looks_of s 0 server).now r ≡ true)
        → both_far c k client server s < both_far c k client server p.stage
    at_server r =
        (let d = silent_done s p made 0 server old.server_there (fits_at 0 server one.server_there)
        (legal_at 0 server old.server_there) c r.0 r.1 r.2 in
        let up = rises r.0 d.0 (served_in c server s) (served_in c server p.stage) r.1 d.1
        (served_further c k client server p.stage one s adds.more adds.is) (and_left (is_active (r.0).life) _ r.2) d.2
        in
        let low = asked_low c k client server p.stage one s adds.more adds.is in
        omega (arith, up, low))
