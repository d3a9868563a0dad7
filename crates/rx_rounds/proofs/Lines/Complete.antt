-- A plan whose client makes an invoke, with one key or none, completes.
use Rattle.std.proofs.Common.{◌≡◌, ◌≢◌, ◌<◌, ◌≤◌, ◌+◌, ◌-◌, ◌*◌, ℕ, ℤ, pos, suc, true, List, [], ◌∷◌, refl, ap, ◌∙◌}
use Rattle.std.proofs.Common.{Option, Some, None, is_some, false, length, arith}
use Rattle.rx_model.specs.Message.{IsBytes}
use Rattle.rx_script.specs.Served.{Served, bytes, refusal}
use Rattle.rx_asks.specs.declared.ask.Phase.TheVariants as phases
use Rattle.rx_jobs.specs.Handlers.{Handlers, served_for, wait_of}
use Rattle.rx_plan.specs.Answering.{AreServable, WaitsShort}
use Rattle.rx_plan.specs.Rounds.{rounds}
use Rattle.rx_plan.specs.Stages.{Stage}
use Rattle.rx_rounds.specs.Bounds.{both_pieces, served_pieces}
use Rattle.rx_rounds.specs.Completing.{PlansComplete}
use Rattle.rx_rounds.proofs.AllRounds.{rounds_split, turns_end}
use Rattle.rx_rounds.proofs.Between.{HasCome, caller_with, client_at}
use Rattle.rx_rounds.proofs.Refusals.Codes.{served_no_zero}
use Rattle.rx_rounds.proofs.Flow.{total}
use Rattle.rx_rounds.proofs.Keys.KeyAnswers.{fourth}
use Rattle.rx_rounds.proofs.Keys.KeyAsks.{Answering, answering_then}
use Rattle.rx_rounds.proofs.Keys.KeyChallenges.{Challenged, answering_at, calls_with, challenges, unproved_at}
use Rattle.rx_rounds.proofs.Keys.KeySteps.{IsAnswer, answers}
use Rattle.rx_rounds.proofs.Lines.LinesComplete.{RoundsComplete, completes}
use Rattle.rx_rounds.proofs.One.OneCall.{Ends}
use Rattle.rx_rounds.proofs.One.OneFields.{FitsEnds, fresh}
use Rattle.rx_rounds.proofs.One.OneSteps.{empty_at}
use Rattle.rx_rounds.proofs.Reading.ReadsNext.{TurnsNext}
use Rattle.rx_rounds.proofs.Replies.ReplyAll.{come_stays}
use Rattle.rx_rounds.proofs.Rounded.{Made, RoundMade, caller_at, rounds_more}
use Rattle.rx_rounds.proofs.Serving.SaidMore.{said_more}
use Rattle.rx_rounds.proofs.Sizes.{reply_short}
use Rattle.rx_rounds.proofs.Starts.{Started, starts}
use Rattle.rx_rounds.proofs.Second.{second}
use Rattle.rx_rounds.proofs.Takes.Taking.{came_behind}
use Rattle.rx_rounds.proofs.Two.{AreApart, Two, any_two}

module _ (x : Ends) (g : Handlers) (request : List ℕ) (fits : FitsEnds x) (apart : AreApart x)
    (servable : AreServable g)
    (short : WaitsShort g) (are_bytes : IsBytes request) (some : 0 < length request) (long : length request ≤ 16842756)
  where
    coded : (code : ℤ) → served_for g request ≡ refusal code → code ≢ pos 0
    coded code is zero_is = served_no_zero g request servable (is ∙ ap refusal zero_is)

    few : total request ≤ 20000
    few = omega arith

    few_replied : (v : Served) → served_for g request ≡ v → served_pieces v ≤ 20000
    few_replied (refusal code) is = omega arith
    few_replied (bytes reply) is = (let brief : length reply ≤ 16842756 = reply_short g request reply is in omega arith)

    -- what both nodes are before the rounds
    abbrev Begins : Stage → Type 0
    Begins u = Two x (empty_at 0) (client_at x 0 0 [] 0 fresh)
        (caller_at 1 3 (caller_with x request false [] phases.Resting) ∷ []) [] u

    -- behind the first pieces that a handler read
    turns_come : (left n : ℕ) (v t : Stage) → 1 ≤ n → 4 * both_pieces g request + wait_of g request + 4 ≤ left
        → left ≤ 4 * both_pieces g request + wait_of g request + 20 → TurnsNext x g request 1 3 0 0 n v
        → Made (rounds g left) v t → HasCome x g request 1 3 t
    turns_come left n v t known enough low next made =
        let replies : served_pieces (served_for g request) ≤ 20000 = few_replied (served_for g request) refl in
        let waits : wait_of g request ≤ 1000 = short request in
        turns_end x g fits apart request 1 3 (omega (arith, few)) are_bytes coded left 0 0 n v t (omega (arith, few))
        known
        (omega arith) next made

    -- the first round
    record FirstMade (left : ℕ) (t : Stage) : Type 0 where
      stage : Stage
      started : Started x g request 1 3 some stage
      others : Made (rounds g left) stage t

    first_made : (left : ℕ) (u t : Stage) → Begins u → Made (rounds g (suc left)) u t → FirstMade left t
    first_made left u t two made =
        let a = rounds_more g left u t made.0 (any_two x (empty_at 0) (client_at x 0 0 [] 0 fresh)
        (caller_at 1 3 (caller_with x request false [] phases.Resting) ∷ []) [] u two) made.1 in
        record { stage = a.behind; started = starts x g request 1 3 some u a.behind two a.first; others = a.others }

    -- the second, which goes by whether there is a key
    record SecondMade (left : ℕ) (t : Stage) : Type 0 where
      before : Stage
      started : Started x g request 1 3 some before
      stage : Stage
      made : RoundMade g before stage
      others : Made (rounds g left) stage t

    second_made : (left : ℕ) (u t : Stage) → Begins u → Made (rounds g (suc (suc left))) u t → SecondMade left t
    second_made left u t two made =
        let f = first_made (suc left) u t two made in
        let b = rounds_more g left f.stage t f.others.0 (any_two x (empty_at 0)
        (client_at x 0 f.started.used [] 0 (said_more f.started.said.more f.started.said.shut fresh))
        (caller_at 1 3 (caller_with x f.started.said.offering f.started.said.shut [] phases.Resting) ∷ []) [] f.stage
        f.started.said.two) f.others.1 in
        record { before = f.stage; started = f.started; stage = b.behind; made = b.first; others = b.others }

    open_comes : (left : ℕ) (u t : Stage) → x.key ≡ None → 4 * both_pieces g request + wait_of g request + 4 ≤ left
        → left ≤ 4 * both_pieces g request + wait_of g request + 20
        → Begins u → Made (rounds g (suc (suc left))) u t → HasCome x g request 1 3 t
    open_comes left u t is_none enough low two made =
        let b = second_made left u t two made in
        let next = second x g fits apart is_none request 1 3 (omega (arith, few)) are_bytes coded some b.before b.stage
        b.started b.made in
        turns_come left next.0 b.stage t next.1 enough low next.2 b.others

    -- two rounds more pass with a key
    module _ (answer : List ℕ) (a : IsAnswer x answer) (keyed : is_some x.key ≡ true) where
      small : total request ≤ 1000000
      small = omega (arith, few)

      keyed_comes : (left : ℕ) (u t : Stage) → 4 * both_pieces g request + wait_of g request + 4 ≤ left
          → left ≤ 4 * both_pieces g request + wait_of g request + 20
          → Begins u → Made (rounds g (suc (suc (suc (suc left))))) u t → HasCome x g request 1 3 t
      keyed_comes left u t enough low two made =
          let b = second_made (suc (suc left)) u t two made in
          let h : Challenged x request 1 3 b.stage =
          challenges x g answer a request 1 3 fits apart keyed small some b.before b.stage b.started b.made in
          let third = rounds_more g (suc left) b.stage t b.others.0
          (any_two x (unproved_at x true 0 h.used_server
          (came_behind false 0 request [] h.last h.owed fresh))
          (answering_at x None h.given h.used h.kc)
          (calls_with x 1 3 h.offering h.shut) [] b.stage h.two) b.others.1 in
          let i : Answering x answer request 1 3 third.behind =
          answering_then x g fits apart answer a request 1 3 b.stage third.behind h third.first in
          let last = rounds_more g left third.behind t third.others.0
          (any_two x (unproved_at x false i.given_server i.used_server i.ks)
          (answering_at x (Some answer) i.given i.used i.kc)
          (calls_with x 1 3 i.offering i.shut) [] third.behind i.two)
          third.others.1 in
          let next = fourth x g fits apart answer a keyed request 1 3 small are_bytes coded third.behind last.behind i
          last.first in
          turns_come left next.0 last.behind t next.1 enough low next.2 last.others

rounds_complete : (key : Option (List ℕ)) → RoundsComplete key
rounds_complete None x g request n u s is_none fits apart servable short are_bytes some long enough two made =
    let left : ℕ = 4 * both_pieces g request + wait_of g request + 14 in
    let parts = rounds_split g (suc (suc left)) (n - suc (suc left)) n u s (omega arith) made in
    come_stays x g request 1 3 (n - suc (suc left)) parts.0 s
    (open_comes x g request fits apart servable short are_bytes some long left u parts.0 is_none (omega arith)
    (omega arith) two
    parts.1) parts.2
rounds_complete (Some key) x g request n u s is_key fits apart servable short are_bytes some long enough two made =
    let left : ℕ = 4 * both_pieces g request + wait_of g request + 20 in
    let a = answers x key is_key in
    let parts = rounds_split g (suc (suc (suc (suc left)))) (n - suc (suc (suc (suc left)))) n u s (omega arith) made in
    come_stays x g request 1 3 (n - suc (suc (suc (suc left)))) parts.0 s
    (keyed_comes x g request fits apart servable short are_bytes some long a.0 a.1
    (ap (λ (o : Option (List ℕ)). is_some o) is_key) left u parts.0 (omega arith) (omega arith) two parts.1) parts.2

pub complete : PlansComplete
complete g ls key es went n servable short well is goes =
    completes key (rounds_complete key) g ls es went n servable short well is goes
