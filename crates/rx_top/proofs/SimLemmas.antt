-- Lemmas on the files that `sim` names, on its words, and on how the run of its plan ends.
use Rattle.std.proofs.Common.{◌≡◌, ◌∙◌, ◌⊎◌, ℕ, List, [], Option, Some, None, Ok, true, All, refl, reverse}
use Rattle.std.proofs.Common.{arith, false, if◌then◌else◌, nat_lt, subst, sym, unwrap_or, ◌<◌, ◌^◌, ◌∷◌, ℤ, Bool, pos}
use Rattle.std.proofs.lemmas.Bool.Decides.{nat_tests}
use Rattle.std.proofs.lemmas.List.Elements.{All-cons, All-nil}
use lib.IntN.{negsuc}
use Rattle.rx_base.specs.Sink.{HasRisen}
use Rattle.rx_jobs.specs.Handlers.{Handlers}
use Rattle.rx_law.specs.Promises.{ServerForgotNone}
use Rattle.rx_law.specs.Times.{Timely}
use Rattle.rx_model.specs.declared.event.Noted.{Noted}
use Rattle.rx_script.specs.declared.outcome.Outcome.{Outcome}
use Rattle.rx_script.specs.declared.outcome.Outcome.TheVariants as runs
use Rattle.rx_script.specs.declared.plan.Numbered.{Numbered}
use Rattle.rx_script.specs.Plans.{plan_of}
use Rattle.rx_script.specs.Saying.{Answering, plan_rows}
use Rattle.rx_script.specs.Scripts.{script_of}
use Rattle.rx_plan.specs.Answering.{AbortedAsServed, AnswersNoZero, AreDriven, AreServable, EndedAsServed}
use Rattle.rx_plan.specs.Answering.{EndedByLaw, OkAsAnswered, WaitsShort}
use Rattle.rx_plan.specs.Follows.{CutOff, Empty, EndlessIn, RefusedAt, Went, Whole, plan_goes}
use Rattle.rx_plan.specs.Lines.{IsWell}
use Rattle.rx_plan.specs.Promises.{AreDistinct, plan_nodes}
use Rattle.rx_stage.specs.Runs.{KeepsPromises}
use Rattle.rx_world.specs.Runs.{AllClose, Arrives, Closes, Completes}
use Rattle.rx_stage.specs.Runs.{RunIs, Tells}
use Rattle.rx_plan.specs.Stages.{Stage}
use Rattle.rx_stage.specs.Tells.{Fails, Gains, Told, Wants, fails_last, fails_one, gains_none, gains_one, wants_last}
use Rattle.rx_stage.specs.Tells.{wants_more, wants_one}
use Rattle.xdr_value.specs.Tests.{differ, is_sound}
use Rattle.xdr_value.specs.Data.{Procedure, Procs, Types}
use Rattle.xg_parse.specs.declared.tree.Item.{Item}
use Rattle.xg_parse.specs.declared.tree.Part.{Part}
use Rattle.xg_parse.specs.declared.tree.Part.TheVariants as parts
use Rattle.xg_check.specs.Constants.{ConstantDef, constants_in, in_32_bits}
use Rattle.xg_check.specs.Meaning.{Meant}
use Rattle.xg_check.specs.Meant.{proc_meant, procs_behind, with_proc}
use Rattle.xg_check.specs.Opcodes.{opcode_behind}
use Rattle.rx_top.specs.Inputs.{IsInterface, IsScript}
use Rattle.rx_top.specs.Sims.{IsRead, Played, handlers_with}

-- ---- files

-- the empty interface is sound
pub empty_is_sound : is_sound [] [] ≡ true
unfolding is_sound differ
empty_is_sound = refl

-- ---- what serves the calls of a plan

-- an opcode that a text means has four bytes
meant_opcode : (o : Option ℤ) → unwrap_or (in_32_bits o) 0 < 2 ^ 32
meant_opcode None = omega arith
meant_opcode (Some (negsuc n)) = omega arith
meant_opcode (Some (pos n)) = of (nat_lt n (2 ^ 32)) refl
  where
    of : (b : Bool) → nat_lt n (2 ^ 32) ≡ b → unwrap_or (if b then Some n else None) 0 < 2 ^ 32
    of true low = grind (arith, nat_tests)
    of false high = omega arith

meant_opcodes : (cs : List ConstantDef) (front : List Part) (items : List Item)
    → All (λ p. p.opcode < 2 ^ 32) (procs_behind cs front items)
meant_opcodes cs front [] = All-nil (λ (p : Procedure). p.opcode < 2 ^ 32)
meant_opcodes cs front (i ∷ items) = by i.part (meant_opcodes cs (i.part ∷ front) items)
  where
    by : (part : Part) → All (λ p. p.opcode < 2 ^ 32) (procs_behind cs (i.part ∷ front) items)
        → All (λ p. p.opcode < 2 ^ 32) (with_proc cs front part (procs_behind cs (i.part ∷ front) items))
    by (parts.Proc name args kind opcode) rest =
        All-cons (λ (p : Procedure). p.opcode < 2 ^ 32) (proc_meant cs (opcode_behind cs front opcode) name args kind)
        (procs_behind cs (i.part ∷ front) items) (meant_opcode (opcode_behind cs front opcode)) rest
    by part rest = rest

-- those of the interface that a file means, or of the empty one
pub interface_opcodes : (contents : Option (List (List ℕ × List ℕ))) (name : Option (List ℕ)) (m : Meant)
    → IsInterface contents name m → All (λ p. p.opcode < 2 ^ 32) m.procs
interface_opcodes contents None m is =
    subst (λ (n : Meant). All (λ p. p.opcode < 2 ^ 32) n.procs) (sym is)
    (All-nil (λ (p : Procedure). p.opcode < 2 ^ 32))
interface_opcodes contents (Some name) m is =
    subst (λ (n : Meant). All (λ p. p.opcode < 2 ^ 32) n.procs) (sym is.2.is.is)
    (meant_opcodes (constants_in is.2.tree.items) [] is.2.tree.items)

-- the script that a file gives, or the empty one, answers no code 0, by the law of scripts that were read
pub script_codes : (no_zero : (types : Types) (procs : Procs) (text : List ℕ) (script : List Answering)
    → script_of types procs text ≡ Ok script → All (λ (b : Answering). All AnswersNoZero b.lines) script)
    (contents : Option (List (List ℕ × List ℕ))) (m : Meant) (name : Option (List ℕ)) (s : List Answering)
    → IsScript contents m name s → All (λ (b : Answering). All AnswersNoZero b.lines) s
script_codes no_zero contents m None s is =
    subst (λ (bs : List Answering). All (λ (b : Answering). All AnswersNoZero b.lines) bs) (sym is)
    (All-nil (λ (b : Answering). All AnswersNoZero b.lines))
script_codes no_zero contents m (Some name) s is = no_zero m.types m.procs is.0 s is.2

-- and by it no request waits longer than a script may say
pub script_waits : (short : (g : Handlers) (text : List ℕ) → script_of g.types g.procs text ≡ Ok g.script
    → WaitsShort g)
    (contents : Option (List (List ℕ × List ℕ))) (m : Meant) (name : Option (List ℕ)) (s : List Answering)
    → IsScript contents m name s → WaitsShort (handlers_with m s)
script_waits short contents m None s is =
    subst (λ (bs : List Answering). WaitsShort (handlers_with m bs)) (sym is) (short (handlers_with m []) [] refl)
script_waits short contents m (Some name) s is = short (handlers_with m s) is.0 is.2

-- ---- what a run tells of the faults of a sink

gains_faults : {a b : Told} {es : List Noted} → Gains a b es → b.faults ≡ a.faults
gains_faults (gains_none a) = refl
gains_faults (gains_one a m b n es one rest) = gains_faults rest ∙ one.faults

wants_faults : {a b : Told} {es : List Noted} → Wants a b es → b.faults ≡ a.faults
wants_faults (wants_more a) = refl
wants_faults (wants_last a b n one) = one.faults
wants_faults (wants_one a m b n es one rest) = wants_faults rest ∙ one.faults

fails_faults : {a b : Told} {es : List Noted} → Fails a b es → HasRisen a.faults b.faults
fails_faults (fails_last a b n one) = one.faults
fails_faults (fails_one a m b n es one rest) =
    subst (λ (old : ℕ). HasRisen old b.faults) one.faults (fails_faults rest)

-- they rose where the sink failed, and stay otherwise
abbrev pub FaultsBy : Outcome → ℕ → ℕ → Type 0
FaultsBy runs.Ran old new = new ≡ old
FaultsBy (runs.Refused line why) old new = new ≡ old
FaultsBy runs.SinkFault old new = HasRisen old new
FaultsBy runs.OutOfMemory old new = new ≡ old

tells_faults : (g : Handlers) (ls : List Numbered) (ran : Outcome) (went : Went) (old new : Told) (es : List Noted)
    → Tells g ls ran went old new es → FaultsBy ran old.faults new.faults
tells_faults g ls runs.Ran (Whole s) old new es told = told.puts.faults ∙ gains_faults told.told
tells_faults g ls runs.Ran Empty old new es told = gains_faults told
tells_faults g ls runs.Ran (RefusedAt line why) old new es told = absurd told
tells_faults g ls runs.Ran CutOff old new es told = absurd told
tells_faults g ls runs.Ran EndlessIn old new es told = absurd told
tells_faults g ls (runs.Refused line why) (Whole s) old new es told = absurd told
tells_faults g ls (runs.Refused line why) Empty old new es told = absurd told
tells_faults g ls (runs.Refused line why) (RefusedAt its cause) old new es told = gains_faults told.2
tells_faults g ls (runs.Refused line why) CutOff old new es told = absurd told
tells_faults g ls (runs.Refused line why) EndlessIn old new es told = absurd told
tells_faults g ls runs.SinkFault (Whole s) old new es told =
    subst (λ (before : ℕ). HasRisen before new.faults) (gains_faults told.told) told.puts.faults
tells_faults g ls runs.SinkFault Empty old new es told = absurd told
tells_faults g ls runs.SinkFault (RefusedAt line why) old new es told = absurd told
tells_faults g ls runs.SinkFault CutOff old new es told = fails_faults told
tells_faults g ls runs.SinkFault EndlessIn old new es told = absurd told
tells_faults g ls runs.OutOfMemory (Whole s) old new es told = told.puts.faults ∙ gains_faults told.told
tells_faults g ls runs.OutOfMemory Empty old new es told = absurd told
tells_faults g ls runs.OutOfMemory (RefusedAt line why) old new es told = absurd told
tells_faults g ls runs.OutOfMemory CutOff old new es told = wants_faults told
tells_faults g ls runs.OutOfMemory EndlessIn old new es told = gains_faults told

-- the faults of a sink behind a run
pub run_faults : (g : Handlers) (ls : List Numbered) (ran : Outcome) (old new : Told) → RunIs g ls ran old new
    → FaultsBy ran old.faults new.faults
run_faults g ls ran old new run = tells_faults g ls ran run.went old new run.events run.tells

-- ---- a run

-- what is said of the invokes of a driven plan that ran whole
abbrev pub SaysOfInvokes : (Handlers → List Numbered → List Noted → Stage → Type 0) → Type 0
SaysOfInvokes Says =
    (g : Handlers) (lines : List Numbered) (es : List Noted) (s : Stage) → All (λ l. IsWell g l.what) lines
    → AreDriven lines → AreDistinct (plan_nodes lines) → plan_goes g lines es (Whole s)
    → ServerForgotNone (plan_nodes lines) (reverse es) ⊎ Timely (plan_nodes lines) (reverse es) → Says g lines es s

-- by the law of plans that were read, and that of invokes
module _ (are_well : (g : Handlers) (text : List ℕ) (ls : List Numbered) → plan_of g.types g.procs text
    ≡ Ok (plan_rows ls) → All (λ l. IsWell g l.what) ls)
    (ok : (g : Handlers) (lines : List Numbered) (es : List Noted) (s : Stage) → AreServable g
    → All (λ l. IsWell g l.what) lines → AreDriven lines → AreDistinct (plan_nodes lines)
    → plan_goes g lines es (Whole s)
    → ServerForgotNone (plan_nodes lines) (reverse es) ⊎ Timely (plan_nodes lines) (reverse es)
    → OkAsAnswered g lines s)
    (served : SaysOfInvokes (λ g lines es s. EndedAsServed g lines (plan_nodes lines) (reverse es) s))
    (ends : SaysOfInvokes (λ g lines es s. EndedByLaw (plan_nodes lines) (reverse es) s))
    (aborts : SaysOfInvokes (λ g lines es s. AbortedAsServed g lines (plan_nodes lines) (reverse es) s)) where
  -- the run of a plan that was read keeps its promises, and its invokes are answered
  pub run_plays : (m : Meant) (s : List Answering) (lines : List Numbered) (ran : Outcome) (before after : Told)
      → AreServable (handlers_with m s) → WaitsShort (handlers_with m s) → IsRead m lines
      → RunIs (handlers_with m s) lines ran before after
      → KeepsPromises (handlers_with m s) lines ran before after → Arrives (handlers_with m s) lines ran before after
      → Completes (handlers_with m s) lines ran before after → Closes (handlers_with m s) lines ran before after
      → AllClose (handlers_with m s) lines ran before after → Played (handlers_with m s) lines ran before after
  run_plays m s lines ran before after servable short read run keeps arrives completes closes all_close =
      let g : Handlers = handlers_with m s in
      let well : All (λ l. IsWell g l.what) lines = are_well g read.0 lines read.1 in
      record {
        run = run;
        promises = (keeps run).0;
        told = (keeps run).1;
        arrives = arrives run;
        completes = λ key n invokes. completes run key n servable short invokes;
        closes = closes run servable short;
        all_close = all_close run servable short;
        answers = λ t whole driven distinct premise.
            let goes : plan_goes g lines run.events (Whole t) = subst (plan_goes g lines run.events) whole run.goes in
            record {
              ok = ok g lines run.events t servable well driven distinct goes premise;
              served = served g lines run.events t well driven distinct goes premise;
              ends = ends g lines run.events t well driven distinct goes premise;
              aborts = aborts g lines run.events t well driven distinct goes premise;
            };
      }
