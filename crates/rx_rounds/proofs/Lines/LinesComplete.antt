-- A plan whose client makes an invoke completes, where the rounds behind its lines do.
use Rattle.std.proofs.Common.{◌≡◌, ◌<◌, ◌≤◌, ◌^◌, ℕ, suc, zero, Bool, true, List, [], ◌∷◌, refl, ap, sym, subst}
use Rattle.std.proofs.Common.{◌∙◌, Option, Some, None, String, Vec, length, nat_le, le-leb, option_map, string_bytes}
use Rattle.std.proofs.Common.{slice_get, All, IfSome, IsSomeAnd}
use Rattle.std.proofs.lemmas.List.Elements.{All-head, All-tail}
use Rattle.std.specs.Global.{Global}
use Rattle.hex.specs.Hex.{IsBytes}
use Rattle.xdr_value.specs.Data.{Procedure}
use Rattle.xdr_value.specs.View.{values_of}
use Rattle.xdr_value.specs.declared.value.Value.{Value}
use Rattle.rx_model.specs.declared.answers.End.{End}
use Rattle.rx_model.specs.declared.answers.End.TheVariants as ends
use Rattle.rx_model.specs.declared.event.Noted.{Noted}
use Rattle.rx_model.specs.declared.names.Host.{Host}
use Rattle.rx_rules.specs.Life as lives
use Rattle.rx_script.specs.Procs.{proc_named}
use Rattle.rx_script.specs.Served.{Served, bytes, refusal}
use Rattle.rx_script.specs.declared.plan.Numbered.{Numbered}
use Rattle.rx_script.specs.declared.plan.PlanLine.TheVariants as lines
use Rattle.rx_asks.specs.declared.ask.Phase.{Phase}
use Rattle.rx_asks.specs.declared.ask.TheConstants.{REPLY_BYTES}
use Rattle.rx_asks.specs.View.{CallerState, caller_for}
use Rattle.rx_jobs.specs.Handlers.{Handlers, served_for}
use Rattle.rx_reply.specs.Replies.{reply_line, reply_says}
use Rattle.rx_reply.specs.Sent.{CanSend}
use Rattle.rx_plan.specs.Answering.{AreDriven, AreServable, Invoked, IsDriven, WaitsShort, invoked_at, request_for}
use Rattle.rx_plan.specs.Answers.{answer_line, answer_of, asked_at, line_for, ok_text, said, said_of}
use Rattle.rx_plan.specs.Follows.{Went, Whole, plan_goes}
use Rattle.rx_plan.specs.Lines.{IsWell, TakesArguments}
use Rattle.rx_plan.specs.Promises.{AreDistinct, plan_nodes}
use Rattle.rx_plan.specs.Rounds.{rounds}
use Rattle.rx_plan.specs.Stages.{InvokedState, Stage}
use Rattle.rx_plan.proofs.Givings.Answered.{caller_at as caller_of}
use Rattle.rx_rounds.specs.Bounds.{default_limits}
use Rattle.rx_rounds.specs.Completing.{AllSayServed, CompletesBy, InvokesOnce, SaysServed, became, rounds_for}
use Rattle.rx_rounds.proofs.Between.{EndsWith, HasCome}
use Rattle.rx_rounds.proofs.Lines.LinesInvoke.{IsPlayed, behind_call, invoke_goes, plays_none, rounds_on}
use Rattle.rx_rounds.proofs.Lines.LinesInvoke.{the_invoke, the_lines, two_called, x}
use Rattle.rx_rounds.proofs.One.OneCall.{Ends, from_client, node_of, the_call}
use Rattle.rx_rounds.proofs.One.OneFields.{FitsEnds, fresh}
use Rattle.rx_rounds.proofs.One.OneSteps.{empty_at}
use Rattle.rx_rounds.proofs.Lines.PlanLines.{all_of, first_is, none_is, unlike}
use Rattle.rx_rounds.proofs.Rounded.{Made, caller_at}
use Rattle.rx_rounds.proofs.Sizes.{reply_short, request_short, request_some}
use Rattle.rx_rounds.proofs.Two.{AreApart, Two}

-- so many rounds behind the lines of such a plan, whose nodes have this key or none, bring its invoke to its end
abbrev pub RoundsComplete : Option (List ℕ) → Type 0
RoundsComplete key =
    (x : Ends) (g : Handlers) (request : List ℕ) (n : ℕ) (u s : Stage) → x.key ≡ key → FitsEnds x → AreApart x
    → AreServable g → WaitsShort g → IsBytes request → 0 < length request → length request ≤ 16842756
    → rounds_for g key request ≤ n
    → Two x (empty_at 0) (node_of x (from_client x 0 0) [] 0 lives.Calling fresh)
    (caller_at 1 3 (caller_for (the_call x) request) ∷ []) [] u
    → Made (rounds g n) u s → HasCome x g request 1 3 s

module _ (g : Handlers) (at : Host) (service nonce : ℕ) (from : Host) (epoch first : ℕ) (key : Option (List ℕ))
    (cid : ℕ) (proc : String Global) (up : Option (List ℕ)) (down : Bool) (args : Vec Value Global) (n : ℕ)
    (a1 a2 a3 a4 a5 : ℕ) (p : Procedure) (named : proc_named (string_bytes proc) g.procs ≡ Some p) where
  abbrev ls : List Numbered
  ls = the_lines g at service nonce from epoch first key cid proc up down args n a1 a2 a3 a4 a5 p named

  abbrev i : Invoked
  i = the_invoke g at service nonce from epoch first key cid proc up down args n a1 a2 a3 a4 a5 p named

  abbrev asked : List ℕ
  asked = request_for g i

  abbrev the_x : Ends
  the_x = x g at service nonce from epoch first key cid proc up down args n a1 a2 a3 a4 a5 p named

  abbrev Played : Stage → Type 0
  Played = IsPlayed g at service nonce from epoch first key cid proc up down args n a1 a2 a3 a4 a5 p named

  -- ---- the line of a caller that ended

  -- no longer than a caller keeps
  abbrev IsBrief : Served → Type 0
  IsBrief (refusal code) = Unit {0}
  IsBrief (bytes reply) = length reply ≤ REPLY_BYTES

  served_brief : (served : Served) → served_for g asked ≡ served → IsBrief served
  served_brief (refusal code) is = tt
  served_brief (bytes reply) is = reply_short g asked reply is

  said_is : (reply : List ℕ)
      → said g.types g.procs reply (asked_at ls 3)
      ≡ option_map (reply_line g.types p down) (reply_says g.types p down reply)
  said_is reply = ap (said_of g.types down reply) named

  says_end : (v : CallerState) (ph : Phase) (end : End) (text : List ℕ) → v.end ≡ Some end
      → answer_of (said g.types g.procs v.reply (asked_at ls 3)) (Some end) ≡ text
      → answer_line g.types g.procs ls (caller_at 1 3 (record v { phase = ph })) ≡ line_for 1 text
  says_end v ph end text ended is =
      ap (λ (o : Option End). line_for 1 (answer_of (said g.types g.procs v.reply (asked_at ls 3)) o)) ended
      ∙ ap (line_for 1) is

  says : (v : CallerState) (ph : Phase) (served : Served) → IsBrief served → EndsWith the_x served v
      → answer_line g.types g.procs ls (caller_at 1 3 (record v { phase = ph })) ≡ line_for 1 (became g i served)
  says v ph (refusal code) brief ended = says_end v ph (ends.Abort code) (became g i (refusal code)) ended refl
  says v ph (bytes reply) brief ended =
      let short : nat_le (length reply) REPLY_BYTES ≡ true = le-leb (length reply) REPLY_BYTES brief in
      says_end v ph ends.Ok (became g i (bytes reply)) ended.0
      (ap (λ (out : List ℕ). ok_text (said g.types g.procs out (asked_at ls 3))) ended.1 ∙ ap ok_text (said_is reply)
      ∙ rw short refl)

  -- ---- the plan

  some_invoke : (a b : Invoked) → ◌≡◌ {A = Option Invoked} (Some a) (Some b) → a ≡ b
  some_invoke a b same = cc

  -- its one invoke
  only : (m : ℕ) (j : Invoked) → invoked_at g ls m ≡ Some j → j ≡ i
  only zero j is = absurd cc
  only (suc zero) j is = absurd cc
  only (suc (suc zero)) j is = absurd cc
  only (suc (suc (suc zero))) j is =
      sym (some_invoke i j
      (sym (ap (option_map (λ (q : Procedure). record { proc = q; args = values_of args.items; up = up; down = down }))
      named) ∙ is))
  only (suc (suc (suc (suc zero)))) j is = absurd cc
  only (suc (suc (suc (suc (suc m))))) j is = absurd cc

  driven : AreDriven ls
  driven = all_of (λ (l : Numbered). IsDriven l.what) ls (tt, (tt, (tt, (tt, (tt, tt)))))

  distinct : AreDistinct (plan_nodes ls)
  distinct zero zero j_k = tt
  distinct zero (suc zero) j_k = tt
  distinct zero (suc (suc k)) j_k = tt
  distinct (suc zero) zero j_k = tt
  distinct (suc zero) (suc zero) j_k = absurd (j_k refl)
  distinct (suc zero) (suc (suc k)) j_k = tt
  distinct (suc (suc j)) k j_k = tt

  module _ (complete : RoundsComplete key) (servable : AreServable g) (waits : WaitsShort g) (apart : AreApart the_x)
      (epoch_fits : epoch < 2 ^ 32) (well : All (λ l. IsWell g l.what) ls)
      (can : CanSend g.types p (values_of args.items) up) where
    -- the caller that there is says so
    says_place : (s : Stage) (k : InvokedState) (place : ℕ) → HasCome the_x g asked 1 3 s
        → slice_get s.callers place ≡ Some k
        → answer_line g.types g.procs ls k ≡ line_for k.call (became g i (served_for g asked))
    says_place s k place come at_ =
        of place (sym (ap (λ (ks : List InvokedState). slice_get ks place) come.ended.is) ∙ at_)
      where
        v : CallerState
        v = come.caller

        one : InvokedState
        one = caller_at 1 3 (record v { phase = come.ended.phase })

        of : (m : ℕ) → slice_get (one ∷ []) m ≡ Some k
            → answer_line g.types g.procs ls k ≡ line_for k.call (became g i (served_for g asked))
        of zero is =
            (let same : one ≡ k = cc in
            subst (λ (j : InvokedState). answer_line g.types g.procs ls j
            ≡ line_for j.call (became g i (served_for g asked))) same
            (says v come.ended.phase (served_for g asked) (served_brief (served_for g asked) refl) come.with))
        of (suc m) is = absurd cc

    played_says : (es : List Noted) (s : Stage) → plan_goes g ls es (Whole s) → Played s → AllSayServed g ls key n s
    played_says es s goes (plays_none is) place =
        subst (λ (t : Stage). IfSome (slice_get t.callers place)
        (λ k. IsSomeAnd (invoked_at g ls k.line) (SaysServed g ls key n k))) (sym is) tt
    played_says es s goes (rounds_on link same fits made) place = by (slice_get s.callers place) refl
      where
        numbers : FitsEnds the_x
        numbers =
            record { epoch = epoch_fits; service = link.service_fits; some = link.some; first = link.few }

        come : rounds_for g key asked ≤ n → HasCome the_x g asked 1 3 s
        come enough =
            complete the_x g asked n
            (behind_call g at service nonce from epoch first key cid proc up down args n a1 a2 a3 a4 a5 p named) s refl
            numbers apart servable waits fits (request_some g i) (request_short g i can) enough
            (two_called g at service nonce from epoch first key cid proc up down args n a1 a2 a3 a4 a5 p named) made

        by : (o : Option InvokedState) → slice_get s.callers place ≡ o
            → IfSome o (λ k. IsSomeAnd (invoked_at g ls k.line) (SaysServed g ls key n k))
        by None at_ = tt
        by (Some k) at_ =
            (let its = caller_of g ls es s well driven distinct goes place k at_ in
            let own : its.origin.invoke ≡ i = only k.line its.origin.invoke its.origin.at in
            subst (λ (o : Option Invoked). IsSomeAnd o (SaysServed g ls key n k)) (sym (its.origin.at ∙ ap Some own))
            (λ enough. says_place s k place (come enough) at_))

    pub complete_lines : (es : List Noted) (went : Went) → plan_goes g ls es went → CompletesBy g ls key n went
    complete_lines es went goes =
        invoke_goes g at service nonce from epoch first key cid proc up down args n a1 a2 a3 a4 a5 p named es went
        (λ (w : Went). plan_goes g ls es w → CompletesBy g ls key n w) (λ off. tt) (λ off. tt) goes
        (λ s played all. played_says es s all played) goes

-- ---- whichever numbers the lines have

taken : (g : Handlers) (proc : String Global) (up : Option (List ℕ)) (args : Vec Value Global) (o : Option Procedure)
    → proc_named (string_bytes proc) g.procs ≡ o → TakesArguments g o (values_of args.items) up
    → (p : Procedure) × (proc_named (string_bytes proc) g.procs ≡ Some p)
    × CanSend g.types p (values_of args.items) up
taken g proc up args None is takes = absurd takes
taken g proc up args (Some p) is takes = (p, is, takes)

pub completes : (key : Option (List ℕ)) → RoundsComplete key → (g : Handlers) (ls : List Numbered) (es : List Noted)
    (went : Went) (n : ℕ) → AreServable g → WaitsShort g → All (λ l. IsWell g l.what) ls → InvokesOnce ls key n
    → plan_goes g ls es went → CompletesBy g ls key n went
completes key complete g ls es went n servable waits well w goes =
    let f1 = first_is ls _ _ w.says in
    let f2 = first_is f1.rest _ _ f1.more in
    let f3 = first_is f2.rest _ _ f2.more in
    let f4 = first_is f3.rest _ _ f3.more in
    let f5 = first_is f4.rest _ _ f4.more in
    let l1 : Numbered = record { line = f1.number; what = lines.Server w.at w.service default_limits key w.nonce } in
    let l2 : Numbered = record { line = f2.number; what = lines.Client w.from w.epoch default_limits key } in
    let l3 : Numbered = record { line = f3.number; what = lines.Connect 1 w.first } in
    let l4 : Numbered = record { line = f4.number; what = lines.Invoke 1 w.cid w.proc w.up w.down w.args } in
    let l5 : Numbered = record { line = f5.number; what = lines.Rounds n } in
    let is : ls ≡ l1 ∷ l2 ∷ l3 ∷ l4 ∷ l5 ∷ [] =
    f1.is ∙ ap (λ (r : List Numbered). l1 ∷ r)
    (f2.is ∙ ap (λ (r : List Numbered). l2 ∷ r)
    (f3.is ∙ ap (λ (r : List Numbered). l3 ∷ r)
    (f4.is ∙ ap (λ (r : List Numbered). l4 ∷ r)
    (f5.is ∙ ap (λ (r : List Numbered). l5 ∷ r) (none_is f5.rest f5.more))))) in
    let fine : All (λ l. IsWell g l.what) (l1 ∷ l2 ∷ l3 ∷ l4 ∷ l5 ∷ []) =
    subst (λ (ks : List Numbered). All (λ l. IsWell g l.what) ks) is well in
    let behind1 = All-tail (λ (l : Numbered). IsWell g l.what) l1 (l2 ∷ l3 ∷ l4 ∷ l5 ∷ []) fine in
    let behind2 = All-tail (λ (l : Numbered). IsWell g l.what) l2 (l3 ∷ l4 ∷ l5 ∷ []) behind1 in
    let behind3 = All-tail (λ (l : Numbered). IsWell g l.what) l3 (l4 ∷ l5 ∷ []) behind2 in
    let t = taken g w.proc w.up w.args (proc_named (string_bytes w.proc) g.procs) refl
    (All-head (λ (l : Numbered). IsWell g l.what) l4 (l5 ∷ []) behind3) in
    subst (λ (ks : List Numbered). CompletesBy g ks key n went) (sym is)
    (complete_lines g w.at w.service w.nonce w.from w.epoch w.first key w.cid w.proc w.up w.down w.args n f1.number
    f2.number f3.number f4.number f5.number t.0 t.1 complete servable waits
    (unlike w.from w.at (λ same. w.apart (sym same)), unlike w.at w.from w.apart)
    (All-head (λ (l : Numbered). IsWell g l.what) l2 (l3 ∷ l4 ∷ l5 ∷ []) behind1) fine t.2 es went
    (subst (λ (ks : List Numbered). plan_goes g ks es went) is goes))
