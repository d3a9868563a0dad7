-- Where the lines of callers say what is served, their calls have ended.
use Rattle.std.proofs.Common.{◌≡◌, ◌≤◌, ◌==◌, ◌∙◌, ◌++◌, ◌||◌, not, ℕ, Bool, true, false, List, [], ◌∷◌, refl, ap, drop}
use Rattle.std.proofs.Common.{Option, Some, None, option_map, IfSome, IsSomeAnd, slice_get, length, nat_le}
use Rattle.std.proofs.Common.{if◌then◌else◌}
use Rattle.std.specs.Prelude.{codes, decimal}
use Rattle.std.proofs.lemmas.List.{append_cancel_left}
use Rattle.rx_model.specs.declared.answers.End.{End}
use Rattle.rx_model.specs.declared.answers.End.TheVariants as ends
use Rattle.rx_model.specs.Text.{end_text}
use Rattle.rx_script.specs.declared.plan.Numbered.{Numbered}
use Rattle.rx_script.specs.Served.{Served, bytes, refusal}
use Rattle.rx_asks.specs.declared.ask.TheConstants.{CC_UNMARSHAL, REPLY_BYTES}
use Rattle.rx_jobs.specs.Handlers.{Handlers, served_for}
use Rattle.rx_reply.specs.Replies.{reply_line, reply_says}
use Rattle.rx_plan.specs.Answering.{Invoked, invoked_at, request_for}
use Rattle.rx_plan.specs.Answers.{answer_of, asked_at, line_for, ok_text, said}
use Rattle.rx_plan.specs.Stages.{InvokedState, Stage}
use Rattle.rx_rounds.specs.Completing.{AllSayServed, SaysServed, became, rounds_for}
use Rattle.rx_rounds.specs.Ended.{AllEnded, CallsEnd, HasEnded}

-- a text begins otherwise than `open` and `dead` do: its second letter is neither p nor e
abbrev tells_end : List ℕ → Bool
tells_end (first ∷ second ∷ more) = not (second == 112 || second == 101)
tells_end _ = false

-- what becomes of an invoke does: it is `ok`, `bad`, `abort` or `cancelled`
became_end : (g : Handlers) (i : Invoked) (served : Served) → tells_end (became g i served ++ 10 ∷ []) ≡ true
became_end g i (refusal code) = refl
became_end g i (bytes reply) =
    by (nat_le (length reply) REPLY_BYTES)
    (option_map (reply_line g.types i.proc i.down) (reply_says g.types i.proc i.down reply))
  where
    by : (brief : Bool) (says : Option (List ℕ))
        → tells_end ((if brief then ok_text says else end_text (ends.Cancelled CC_UNMARSHAL)) ++ 10 ∷ []) ≡ true
    by true None = refl
    by true (Some text) = refl
    by false says = refl

-- and what is told so is an end
told_end : (says : Option (List ℕ)) (o : Option End) → tells_end (answer_of says o ++ 10 ∷ []) ≡ true → HasEnded o
told_end says None told = absurd cc
told_end says (Some ends.Ok) told = tt
told_end says (Some (ends.Abort code)) told = tt
told_end says (Some (ends.Dead silence)) told = absurd cc
told_end says (Some (ends.Cancelled code)) told = tt

-- lines of one call say the same
said_same : (call : ℕ) (a b : List ℕ) → line_for call a ≡ line_for call b → a ++ 10 ∷ [] ≡ b ++ 10 ∷ []
said_same call a b same =
    ap (drop 1) (append_cancel_left (decimal call) (32 ∷ (a ++ 10 ∷ [])) (32 ∷ (b ++ 10 ∷ []))
    (append_cancel_left (codes "answer #") (decimal call ++ (32 ∷ (a ++ 10 ∷ [])))
    (decimal call ++ (32 ∷ (b ++ 10 ∷ []))) same))

pub all_ended : (g : Handlers) (ls : List Numbered) (key : Option (List ℕ)) (n : ℕ) (s : Stage)
    → AllSayServed g ls key n s → AllEnded g ls key n s
all_ended g ls key n s all place = by (slice_get s.callers place) (all place)
  where
    says : (k : InvokedState) (i : Invoked) → SaysServed g ls key n k i → rounds_for g key (request_for g i) ≤ n
        → HasEnded k.caller.end
    says k i served enough =
        told_end (said g.types g.procs k.caller.reply (asked_at ls k.line)) k.caller.end
        (ap tells_end (said_same k.call _ _ (served enough)) ∙ became_end g i (served_for g (request_for g i)))

    of : (k : InvokedState) (o : Option Invoked) → IsSomeAnd o (SaysServed g ls key n k)
        → IfSome o (λ i. rounds_for g key (request_for g i) ≤ n → HasEnded k.caller.end)
    of k None served = tt
    of k (Some i) served = says k i served

    by : (o : Option InvokedState)
        → IfSome o (λ k. IsSomeAnd (invoked_at g ls k.line) (SaysServed g ls key n k))
        → IfSome o (λ k. IfSome (invoked_at g ls k.line)
        (λ i. rounds_for g key (request_for g i) ≤ n → HasEnded k.caller.end))
    by None served = tt
    by (Some k) served = of k (invoked_at g ls k.line) served

pub calls_end : CallsEnd
calls_end g ls key n s completes = all_ended g ls key n s completes
