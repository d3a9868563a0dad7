-- A life of a job is exact.
use Rattle.std.proofs.Common.{◌≡◌, ◌⊎◌, inl, inr, ℕ, ℤ, pos, Bool, true, false, cond, ◌&&◌, List, [], ◌++◌, length}
use Rattle.std.proofs.Common.{Option, Some, None, refl, ◌∙◌, arith, subst, ltb, sym, ap}
use Rattle.std.proofs.lemmas.Bool.{ltb-false}
use Rattle.std.proofs.lemmas.List.{append-nil, nil_from_length}
use Rattle.rx_model.specs.declared.event.Event.{Event}
use Rattle.rx_model.specs.declared.names.CallName.{CallName}
use Rattle.rx_rules.specs.After.{is_zero}
use Rattle.rx_script.specs.Served.{bytes}
use Rattle.rx_jobs.specs.declared.job.Phase.{Phase}
use Rattle.rx_jobs.specs.declared.job.Phase.TheVariants as phases
use Rattle.rx_jobs.specs.declared.job.Want.{Want}
use Rattle.rx_jobs.specs.declared.job.Want.TheVariants as wants
use Rattle.rx_jobs.specs.Handlers.{Handlers, served_for}
use Rattle.rx_jobs.specs.Jobs.{JobState, Moving, coded_want, next_want, want_in, finish, ask_of, serving}
use Rattle.rx_jobs.specs.Lives.{bytes_read, bytes_written, has_end, has_gone, Lives, CodeIs, MayFinish, Writes}
use Rattle.rx_jobs.specs.Lives.{IsExact}
use Rattle.rx_jobs.specs.Keeping.{kept_of}
use Rattle.rx_jobs.proofs.LifeKeeps.{Coded, KeepsAt, Told, lives_keep, wanted}

-- ---- what it wrote

wrote_by : (g : Handlers) (h : List Event) (j : JobState) → j.ended ≡ has_end h → (o : Option ℤ)
    → Coded g (bytes_read h) (bytes_written h) j.reply j.ended o → (bytes_written h ≡ []) ⊎ Writes g h
wrote_by g h j ended None x = inl x.0
wrote_by g h j ended (Some d) (inl x) = inl x.0
wrote_by g h j ended (Some d) (inr x) =
    inr (record { rest = j.reply; is = record { ended = sym ended ∙ x.1; served = x.2 } })

-- ---- what it finishes with

none_left : (z more : Bool) (d code : ℤ) → z ≡ true → cond (z && more) wants.Write (wants.Finish d) ≡ wants.Finish code
    → more ≡ false
none_left true true d code z is = cc
none_left true false d code z is = refl
none_left false more d code z is = cc

finish_code : (b : Bool) (d code : ℤ) → cond b wants.Write (wants.Finish d) ≡ wants.Finish code → d ≡ code
finish_code true d code is = cc
finish_code false d code is = cc

coded_finish : (g : Handlers) (h : List Event) (j : JobState) → j.ended ≡ has_end h → (d code : ℤ)
    → Coded g (bytes_read h) (bytes_written h) j.reply j.ended (Some d)
    → coded_want j d ≡ wants.Finish code → MayFinish g h code
coded_finish g h j ended d code (inl x) want =
    inl (subst (λ (e : ℤ). CodeIs g (bytes_read h) (has_end h) e)
    (finish_code (is_zero d && ltb 0 (length j.reply)) d code want)
    (subst (λ (b : Bool). CodeIs g (bytes_read h) b d) ended x.2))
coded_finish g h j ended d code (inr x) want =
    let zero_is : is_zero d ≡ true = ap is_zero x.0 in
    let none : ltb 0 (length j.reply) ≡ false =
    none_left (is_zero d) (ltb 0 (length j.reply)) d code zero_is want in
    let empty : j.reply ≡ [] = nil_from_length j.reply (omega (arith, ltb-false 0 (length j.reply) none)) in
    let all : served_for g (bytes_read h) ≡ bytes (bytes_written h) =
    x.2 ∙ ap (λ (r : List ℕ). bytes (bytes_written h ++ r)) empty ∙ ap bytes (append-nil (bytes_written h)) in
    inr (
      sym (finish_code (is_zero d && ltb 0 (length j.reply)) d code want) ∙ x.0,
      record { ended = sym ended ∙ x.1; served = all },
    )

moves_by : (g : Handlers) (h : List Event) (j : JobState) → j.ended ≡ has_end h → (code : ℤ) (o : Option ℤ) (b : Bool)
    → Coded g (bytes_read h) (bytes_written h) j.reply j.ended o
    → next_want (record j { ended = b }) o ≡ Some (wants.Finish code) → MayFinish g h code
moves_by g h j ended code None true x want = cc
moves_by g h j ended code None false x want = cc
moves_by g h j ended code (Some d) b x want =
    let same : coded_want j d ≡ wants.Finish code = cc in coded_finish g h j ended d code x same

finish_by : (g : Handlers) (h : List Event) (j : JobState) → j.ended ≡ has_end h → (code : ℤ)
    → Coded g (bytes_read h) (bytes_written h) j.reply j.ended j.code → (phase : Phase)
    → Told phase (has_gone h) → want_in phase j ≡ Some (wants.Finish code)
    → ((has_gone h ≡ true) × (code ≡ pos 0)) ⊎ MayFinish g h code
finish_by g h j ended code x phases.Moves told want = inr (moves_by g h j ended code j.code j.ended x want)
finish_by g h j ended code x phases.Quits told want = let zero_is : code ≡ pos 0 = cc in inl (told, zero_is)
finish_by g h j ended code x phases.Rests told want = cc
finish_by g h j ended code x phases.Gone told want = cc

-- the want of an ask for a finish
finish_want : (j : JobState) (c : CallName) (code : ℤ) (w : Want) → ask_of j w ≡ finish c code → w ≡ wants.Finish code
finish_want j c code wants.Read is = cc
finish_want j c code wants.Write is = cc
finish_want j c code (wants.Finish d) is = let same : d ≡ code = cc in ap wants.Finish same

finishes_by : (g : Handlers) (c : CallName) (h : List Event) (m : Moving) → KeepsAt g c h m → (code : ℤ)
    → (serving g).asks m ≡ Some (finish c code) → ((has_gone h ≡ true) × (code ≡ pos 0)) ⊎ MayFinish g h code
finishes_by g c h m k code asked =
    let w : (w : Want) × (want_in m.phase m.job ≡ Some w) × (ask_of m.job w ≡ finish c code) =
    wanted m.job (want_in m.phase m.job) (finish c code) asked in
    finish_by g h m.job k.keeps.ended code k.keeps.coded m.phase k.told
    (w.1 ∙ ap Some (finish_want m.job c code w.0 w.2))

-- each life of a job is exact
pub lives_exact : (g : Handlers) (c : CallName) (h : List Event) (m : Moving) → Lives g c h m → IsExact g c h m
lives_exact g c h m life =
    let k : KeepsAt g c h m = lives_keep g c h m life in
    record {
      own = k.keeps.own;
      writes = wrote_by g h m.job k.keeps.ended m.job.code k.keeps.coded;
      finishes = finishes_by g c h m k;
    }

-- and keeps of the request what can change what is served
pub lives_kept : (g : Handlers) (c : CallName) (h : List Event) (m : Moving) → Lives g c h m
    → m.job.request ≡ kept_of g (bytes_read h)
lives_kept g c h m life = (lives_keep g c h m life).keeps.read
