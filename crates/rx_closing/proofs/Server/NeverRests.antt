-- Where both directions of a call's streams rest behind a turn of its server's dispatcher, and the whole request was
-- said, the turn brought the call further, or the call is at work there no more.
use Rattle.std.proofs.Common.{◌≡◌, ◌+◌, ◌≤◌, ℕ, Bool, true, false, List, Option, Some, refl, ap, sym, subst, ◌∙◌, arith}
use Rattle.std.proofs.Common.{is_some, length}
use Rattle.rx_model.specs.declared.names.CallName.{CallName}
use Rattle.rx_rules.specs.Life.{is_active}
use Rattle.rx_rules.specs.Looks.{CallRecord}
use Rattle.rx_rules.specs.Received.{front_of, packet_at, used_of}
use Rattle.rx_rules.specs.Sent.{counting_by, counting_of, pieces_by, pieces_of}
use Rattle.rx_rules.proofs.PacketLaws.{kept_within}
use Rattle.rx_history.specs.Sides.{Node}
use Rattle.rx_between.specs.Acknowledged.{received_by, sent_by}
use Rattle.rx_script.specs.declared.plan.Numbered.{Numbered}
use Rattle.rx_jobs.specs.Handlers.{Handlers, wait_of}
use Rattle.rx_plan.specs.Answering.{AreServable}
use Rattle.rx_plan.specs.Stages.{Stage}
use Rattle.rx_plan.specs.Turned.{dispatches}
use Rattle.rx_plan.proofs.Driven.{seen}
use Rattle.rx_plan.proofs.Followed.{IsFollowed}
use Rattle.rx_progress.specs.Moving.{IsDrained}
use Rattle.rx_rounds.proofs.Rounded.{Made}
use Rattle.rx_closing.proofs.Ends.BothEnds.{Linked, RestsOn}
use Rattle.rx_closing.proofs.Far.CausedHere.{CausedBy}
use Rattle.rx_closing.proofs.Far.FarWork.{IsCaused}
use Rattle.rx_closing.proofs.Far.Waited.{waited}
use Rattle.rx_closing.proofs.Frame.{Crowd, OneOf, asked_in, far_of, served_in}
use Rattle.rx_closing.proofs.Rounds.SceneEnds.{ends_linked}
use Rattle.rx_closing.proofs.Server.RestOver.{rests_over}
use Rattle.rx_closing.proofs.Server.SceneRest.{IsAtRest, IsPast, rests_past}

all_count : (n : ℕ) (b : Bool) → b ≡ true → counting_by n b ≡ pieces_by n b
all_count n true is = refl
all_count n false is = absurd (let no : ◌≡◌ {A = Bool} false true = is in cc (no))

module _ (g : Handlers) (ls : List Numbered) (servable : AreServable g) (c : CallName) (k : ℕ) (client server : Node)
    (request : List ℕ) (s t : Stage) (before : OneOf c k client server s) (behind : OneOf c k client server t)
    (follows : IsFollowed g ls (seen s)) (followed : IsFollowed g ls (seen t))
    (caused : CausedBy g ls c k client request s) (cause : IsCaused g ls c k client t) (made : Made (dispatches g) s t)
    (cs : List CallName) (crowd : Crowd cs s) (a b : CallRecord)
    (asked : asked_in c k client t ≡ Some a) (served : served_in c server t ≡ Some b)
    (asks : RestsOn a.looks.sent b.looks.received) (answers : RestsOn b.looks.sent a.looks.received)
    (shut : a.looks.sent.shut ≡ true)
    (stands : far_of (served_in c server t) + waited (wait_of g request) c (served_in c server t) t.jobs
    ≤ far_of (served_in c server s) + waited (wait_of g request) c (served_in c server s) s.jobs) where
  drained_a : IsDrained a.looks.received
  drained_a = answers.used ∙ sym answers.front

  drained_b : IsDrained b.looks.received
  drained_b = asks.used ∙ sym asks.front

  linked : Linked a.looks b.looks
  linked = ends_linked c k client server t behind a b asked served drained_a drained_b

  whole : pieces_of a.looks.sent ≤ front_of b.looks.received.kept
  whole =
      let all : counting_of a.looks.sent ≡ pieces_of a.looks.sent =
      all_count (length a.looks.sent.said) a.looks.sent.shut shut in
      let front = asks.front in
      let counting = asks.counts in
      omega (arith, all, front, counting)

  within : (j : ℕ) → is_some (packet_at b.looks.received.kept j) ≡ true → j ≤ used_of b.looks.received
  within j kept =
      let low = kept_within b.looks.received.kept j kept in
      let given = linked.request_given in
      let used = asks.used in
      omega (arith, low, given, used)

  known : counting_of b.looks.sent ≤ b.looks.sent.acked
  known =
      let all = answers.acked in
      let counting = answers.counts in
      omega (arith, all, counting)

  rests : IsAtRest g ls c k client server t behind followed cause a
  rests =
      record {
        asked = asked;
        shut = shut;
        whole =
            subst (λ (o : Option CallRecord). pieces_of a.looks.sent ≤ front_of (received_by o).kept) (sym served)
            whole;
        within =
            subst (λ (o : Option CallRecord). (j : ℕ) → is_some (packet_at (received_by o).kept j) ≡ true
            → j ≤ used_of (received_by o)) (sym served) within;
        known =
            subst (λ (o : Option CallRecord). counting_of (sent_by o) ≤ (sent_by o).acked) (sym served) known;
      }

  past : IsPast g ls c k client server t behind followed cause
  past =
      rests_past g ls c k client server t behind followed cause s before follows servable caused.cause made cs crowd
      a rests
      (subst (λ (bs : List ℕ). far_of (served_in c server t) + waited (wait_of g bs) c (served_in c server t) t.jobs
      ≤ far_of (served_in c server s) + waited (wait_of g bs) c (served_in c server s) s.jobs) (sym caused.asks) stands)

  -- at the server it isn't at work
  pub never_rests : is_active b.life ≡ true → ⊥
  never_rests active =
      let over = rests_over g ls c k client server t behind followed cause a rests past in
      let both : ◌≡◌ {A = Option CallRecord} (Some past.call) (Some b) = sym past.there ∙ served in
      let same : past.call ≡ b = cc (both) in
      let wrong : ◌≡◌ {A = Bool} true false =
      sym active ∙ ap (λ (r : CallRecord). is_active r.life) (sym same) ∙ ap is_active over.1 in
      cc (wrong)
