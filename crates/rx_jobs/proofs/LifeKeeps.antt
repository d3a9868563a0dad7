-- What a job keeps true of the events of its life.
use Rattle.std.proofs.Common.{◌≡◌, ◌⊎◌, inl, inr, ℕ, ℤ, pos, ◌+◌, ◌≤◌, Bool, true, false, cond, not, ◌&&◌, ◌==◌, List}
use Rattle.std.proofs.Common.{[], ◌∷◌, ◌++◌, length, take, drop, Option, Some, None, Result, Ok, Err, refl, ◌∙◌, arith}
use Rattle.std.proofs.Common.{subst, append_assoc, ltb, is_some, sym, ap}
use Rattle.std.specs.Prelude.{option_map}
use Rattle.std.proofs.lemmas.List.{append-nil, length-take, take-take, take-append-drop}
use Rattle.rx_model.specs.declared.answers.ReadGot.TheVariants as readers
use Rattle.rx_model.specs.declared.answers.ServeRead.{ServeRead}
use Rattle.rx_model.specs.declared.answers.ServeRead.TheVariants as reads
use Rattle.rx_model.specs.declared.answers.ServeRefused.{ServeRefused}
use Rattle.rx_model.specs.declared.answers.ServeRefused.TheVariants as refusals
use Rattle.rx_model.specs.declared.answers.WroteGot.TheVariants as writers
use Rattle.rx_model.specs.declared.event.Event.{Event}
use Rattle.rx_model.specs.declared.event.Event.TheVariants as events
use Rattle.rx_model.specs.declared.names.CallName.{CallName}
use Rattle.rx_rules.specs.After.{is_zero}
use Rattle.rx_script.specs.Served.{Served, refusal, bytes}
use Rattle.rx_jobs.specs.declared.job.Phase.{Phase}
use Rattle.rx_jobs.specs.declared.job.Phase.TheVariants as phases
use Rattle.rx_jobs.specs.declared.job.Want.{Want}
use Rattle.rx_jobs.specs.declared.job.Want.TheVariants as wants
use Rattle.rx_jobs.specs.declared.job.TheConstants.{OFFER_BYTES}
use Rattle.rx_jobs.specs.Handlers.{Handlers, early_code, served_for, wait_of}
use Rattle.rx_jobs.specs.Keeping.{kept_of}
use Rattle.rx_jobs.specs.Jobs.{JobState, Moving, begun, stepped, settled, settled_by, waits, decided, maybe_coded}
use Rattle.rx_jobs.specs.Jobs.{next_want, want_in, Ask, ask_of, accepted, IsCall, heard_read, heard_write, heard}
use Rattle.rx_jobs.specs.Jobs.{judged, serving}
use Rattle.rx_jobs.specs.Lives.{bytes_read, bytes_written, has_end, has_gone, HasCount, Lives, begins, calls, steps}
use Rattle.rx_jobs.specs.Lives.{CodeIs}
use Rattle.rx_jobs.proofs.EarlyLaws.{begun_served, early_served}
use Rattle.rx_jobs.proofs.KeptLaws.{kept_early, kept_more, kept_served}

-- ---- what a job keeps

-- of a request, the bytes said and those to be said: nothing was said before a code was decided; a code that is the
-- request's comes with no reply; and 0 is decided for a reply, which is what was said and what is to be said
abbrev pub Coded : Handlers → List ℕ → List ℕ → List ℕ → Bool → Option ℤ → Type 0
Coded g request said reply ended None = (said ≡ []) × (reply ≡ [])
Coded g request said reply ended (Some c) =
    ((said ≡ []) × (reply ≡ []) × CodeIs g request ended c)
    ⊎ ((c ≡ pos 0) × (ended ≡ true) × (served_for g request ≡ bytes (said ++ reply)))

-- a job keeps true of the events behind it
pub record Keeps (g : Handlers) (c : CallName) (h : List Event) (j : JobState) : Type 0 where
  pub own : j.call ≡ c
  pub read : j.request ≡ kept_of g (bytes_read h)
  pub ended : j.ended ≡ has_end h
  pub coded : Coded g (bytes_read h) (bytes_written h) j.reply j.ended j.code

-- a job that quits was told that its call broke
abbrev pub Told : Phase → Bool → Type 0
Told phases.Moves gone = Unit {0}
Told phases.Quits gone = gone ≡ true
Told phases.Rests gone = Unit {0}
Told phases.Gone gone = Unit {0}

pub record KeepsAt (g : Handlers) (c : CallName) (h : List Event) (m : Moving) : Type 0 where
  pub keeps : Keeps g c h m.job
  pub told : Told m.phase (has_gone h)

-- ---- deciding

none_coded : (g : Handlers) (request said reply : List ℕ) (ended : Bool) (o : Option ℤ) → o ≡ None
    → Coded g request said reply ended o → (said ≡ []) × (reply ≡ [])
none_coded g request said reply ended None is x = x
none_coded g request said reply ended (Some c) is x = cc

-- what is served for the bytes read is what is served for what is kept of them
read_served : (g : Handlers) (c : CallName) (h : List Event) (j : JobState) → Keeps g c h j
    → served_for g (bytes_read h) ≡ served_for g j.request
read_served g c h j k = sym (ap (served_for g) k.read ∙ kept_served g (bytes_read h))

decided_keeps : (g : Handlers) (c : CallName) (h : List Event) (j : JobState) → Keeps g c h j → j.code ≡ None
    → j.ended ≡ true → (s : Served) → served_for g j.request ≡ s → Keeps g c h (decided s j)
decided_keeps g c h j k none all (refusal d) is =
    let nil : (bytes_written h ≡ []) × (j.reply ≡ []) =
    none_coded g (bytes_read h) (bytes_written h) j.reply j.ended j.code none k.coded in
    record {
      own = k.own;
      read = k.read;
      ended = k.ended;
      coded = inl (
        nil.0,
        nil.1,
        subst (λ (b : Bool). CodeIs g (bytes_read h) b d) (sym all) (read_served g c h j k ∙ is),
      );
    }
decided_keeps g c h j k none all (bytes out) is =
    let nil : (bytes_written h ≡ []) × (j.reply ≡ []) =
    none_coded g (bytes_read h) (bytes_written h) j.reply j.ended j.code none k.coded in
    record {
      own = k.own;
      read = k.read;
      ended = k.ended;
      coded = inr (refl, all, read_served g c h j k ∙ is ∙ ap (λ (s : List ℕ). bytes (s ++ out)) (sym nil.0));
    }

waited_keeps : (g : Handlers) (c : CallName) (h : List Event) (j : JobState) (n : ℕ) → Keeps g c h j → j.code ≡ None
    → j.ended ≡ true → (b : Bool)
    → Keeps g c h (cond b (record j { steps = n }) (decided (served_for g j.request) j))
waited_keeps g c h j n k none all true =
    record { own = k.own; read = k.read; ended = k.ended; coded = k.coded }
waited_keeps g c h j n k none all false =
    decided_keeps g c h j k none all (served_for g j.request) refl

settled_keeps_by : (g : Handlers) (c : CallName) (h : List Event) (j : JobState) (n : ℕ) → Keeps g c h j
    → j.code ≡ None → j.ended ≡ true → (o : Option ℤ) → early_code g j.request true ≡ o
    → Keeps g c h (settled_by g n j o)
settled_keeps_by g c h j n k none all (Some d) is =
    let nil : (bytes_written h ≡ []) × (j.reply ≡ []) =
    none_coded g (bytes_read h) (bytes_written h) j.reply j.ended j.code none k.coded in
    record {
      own = k.own;
      read = k.read;
      ended = k.ended;
      coded = inl (
        nil.0,
        nil.1,
        subst (λ (b : Bool). CodeIs g (bytes_read h) b d) (sym all)
            (read_served g c h j k ∙ early_served g j.request d is),
      );
    }
settled_keeps_by g c h j n k none all None is =
    waited_keeps g c h j n k none all (ltb n (wait_of g j.request))

settled_keeps : (g : Handlers) (c : CallName) (h : List Event) (j : JobState) (n : ℕ) → Keeps g c h j
    → j.code ≡ None → j.ended ≡ true → Keeps g c h (settled g n j)
settled_keeps g c h j n k none all = settled_keeps_by g c h j n k none all (early_code g j.request true) refl

-- ---- the beginning of a step

waits_says : (ended : Bool) (o : Option ℤ) → (ended && not (is_some o)) ≡ true → (ended ≡ true) × (o ≡ None)
waits_says true None is = (refl, refl)
waits_says true (Some c) is = cc
waits_says false None is = cc
waits_says false (Some c) is = cc

stepped_keeps_by : (g : Handlers) (c : CallName) (h : List Event) (j : JobState) → Keeps g c h j → (b : Bool)
    → waits j ≡ b → Keeps g c h (cond b (settled g (j.steps + 1) j) j)
stepped_keeps_by g c h j k true is =
    let says : (j.ended ≡ true) × (j.code ≡ None) = waits_says j.ended j.code is in
    settled_keeps g c h j (j.steps + 1) k says.1 says.0
stepped_keeps_by g c h j k false is = k

stepped_keeps : (g : Handlers) (c : CallName) (h : List Event) (j : JobState) → Keeps g c h j
    → Keeps g c h (stepped g j)
stepped_keeps g c h j k = stepped_keeps_by g c h j k (waits j) refl

begun_keeps : (g : Handlers) (c : CallName) → Keeps g c [] (begun c)
begun_keeps g c = record { own = refl; read = refl; ended = refl; coded = (refl, refl) }

-- ---- which calls it makes

-- a want that stands in an ask
pub wanted : (j : JobState) (o : Option Want) (a : Ask) → option_map (ask_of j) o ≡ Some a
    → (w : Want) × (o ≡ Some w) × (ask_of j w ≡ a)
wanted j None a is = cc
wanted j (Some w) a is = let same : ask_of j w ≡ a = cc in (w, refl, same)

coded_not_read : (b : Bool) (c : ℤ) → Some (cond b wants.Write (wants.Finish c)) ≡ Some wants.Read → ⊥
coded_not_read true c is = cc
coded_not_read false c is = cc

reads_by : (j : JobState) (o : Option ℤ) (ended : Bool)
    → (e : next_want (record j { ended = ended }) o ≡ Some wants.Read) → (o ≡ None) × (ended ≡ false)
reads_by j None true is = cc
reads_by j None false is = (refl, refl)
reads_by j (Some c) ended is = absurd (coded_not_read (is_zero c && ltb 0 (length j.reply)) c is)

-- it reads only before its request ended, and decided nothing
reads_when : (j : JobState) (phase : Phase) → want_in phase j ≡ Some wants.Read → (j.code ≡ None) × (j.ended ≡ false)
reads_when j phases.Moves is = reads_by j j.code j.ended is
reads_when j phases.Quits is = cc
reads_when j phases.Rests is = cc
reads_when j phases.Gone is = cc

coded_write : (z more : Bool) (c : ℤ) → Some (cond (z && more) wants.Write (wants.Finish c)) ≡ Some wants.Write
    → more ≡ true
coded_write true true c is = refl
coded_write true false c is = cc
coded_write false more c is = cc

writes_by : (j : JobState) (o : Option ℤ) (ended : Bool)
    → next_want (record j { ended = ended }) o ≡ Some wants.Write
    → (c : ℤ) × (o ≡ Some c) × (ltb 0 (length j.reply) ≡ true)
writes_by j None true is = cc
writes_by j None false is = cc
writes_by j (Some c) ended is = (c, refl, coded_write (is_zero c) (ltb 0 (length j.reply)) c is)

-- it writes only where it decided a code and has bytes to write
writes_when : (j : JobState) (phase : Phase) → want_in phase j ≡ Some wants.Write
    → (c : ℤ) × (j.code ≡ Some c) × (ltb 0 (length j.reply) ≡ true)
writes_when j phases.Moves is = writes_by j j.code j.ended is
writes_when j phases.Quits is = cc
writes_when j phases.Rests is = cc
writes_when j phases.Gone is = cc

-- ---- what it hears

-- an event that reads, writes and ends nothing
record Still (g : Handlers) (c : CallName) (h : List Event) (j : JobState) : Type 0 where
  own : j.call ≡ c
  read : j.request ≡ kept_of g (bytes_read h ++ [])
  ended : j.ended ≡ has_end h
  coded : Coded g (bytes_read h ++ []) (bytes_written h ++ []) j.reply j.ended j.code

still_read : (g : Handlers) (c : CallName) (h : List Event) (j : JobState) → Keeps g c h j
    → j.request ≡ kept_of g (bytes_read h ++ [])
still_read g c h j k = k.read ∙ ap (kept_of g) (sym (append-nil (bytes_read h)))

-- of no more bytes the same is true
still_coded : (g : Handlers) (request said reply : List ℕ) (ended : Bool) (o : Option ℤ)
    → Coded g request said reply ended o → Coded g (request ++ []) said reply ended o
still_coded g request said reply ended o is =
    subst (λ (q : List ℕ). Coded g q said reply ended o) (sym (append-nil request)) is

still : (g : Handlers) (c : CallName) (h : List Event) (j : JobState) → Keeps g c h j → Still g c h j
still g c h j k = record {
  own = k.own;
  read = still_read g c h j k;
  ended = k.ended;
  coded = still_coded g (bytes_read h) (bytes_written h ++ []) j.reply j.ended j.code
      (subst (λ (s : List ℕ). Coded g (bytes_read h) s j.reply j.ended j.code) (sym (append-nil (bytes_written h)))
      k.coded);
}

-- bytes came to a job that decided nothing
module _ (g : Handlers) (c : CallName) (h : List Event) (j : JobState) (max n : ℕ) (came : List ℕ)
    (k : Keeps g c h j) (none : j.code ≡ None) (more : j.ended ≡ false) where
  -- it keeps of them all what it keeps of what it kept and these
  came_read : kept_of g (j.request ++ came) ≡ kept_of g (bytes_read h ++ came)
  came_read = ap (λ (q : List ℕ). kept_of g (q ++ came)) k.read ∙ kept_more g (bytes_read h) came

  -- where it decides nothing behind them
  came_keeps_none : Keeps g c (events.HasRead c max (readers.Server (reads.Got n)) came ∷ h)
      (record j { request = kept_of g (j.request ++ came) })
  came_keeps_none =
      let nil : (bytes_written h ≡ []) × (j.reply ≡ []) =
      none_coded g (bytes_read h) (bytes_written h) j.reply j.ended j.code none k.coded in
      let said : bytes_written h ++ [] ≡ [] = append-nil (bytes_written h) ∙ nil.0 in
      record {
        own = k.own;
        read = came_read;
        ended = k.ended;
        coded = subst (λ (o : Option ℤ).
            Coded g (bytes_read h ++ came) (bytes_written h ++ []) j.reply j.ended o) (sym none) (said, nil.1);
      }

  came_keeps_by : (o : Option ℤ) → early_code g (kept_of g (j.request ++ came)) false ≡ o
      → Keeps g c (events.HasRead c max (readers.Server (reads.Got n)) came ∷ h)
      (maybe_coded o (record j { request = kept_of g (j.request ++ came) }))
  came_keeps_by None is = came_keeps_none
  came_keeps_by (Some d) is =
      let nil : (bytes_written h ≡ []) × (j.reply ≡ []) =
      none_coded g (bytes_read h) (bytes_written h) j.reply j.ended j.code none k.coded in
      let said : bytes_written h ++ [] ≡ [] = append-nil (bytes_written h) ∙ nil.0 in
      let early : early_code g (bytes_read h ++ came) false ≡ Some d =
      sym (ap (λ (q : List ℕ). early_code g q false) came_read ∙ kept_early g (bytes_read h ++ came) false) ∙ is in
      let code : CodeIs g (bytes_read h ++ came) false d =
      λ y fits. begun_served g (bytes_read h ++ came) y d fits early in
      record {
        own = k.own;
        read = came_read;
        ended = k.ended;
        coded = inl (said, nil.1, subst (λ (b : Bool). CodeIs g (bytes_read h ++ came) b d) (sym more) code);
      }

  came_keeps : (b : Bool)
      → Keeps g c (events.HasRead c max (readers.Server (reads.Got n)) came ∷ h)
      (cond b (judged g (record j { request = kept_of g (j.request ++ came) }))
      (record j { request = kept_of g (j.request ++ came) }))
  came_keeps true = came_keeps_by (early_code g (kept_of g (j.request ++ came)) false) refl
  came_keeps false = came_keeps_none

-- the end came
end_keeps : (g : Handlers) (c : CallName) (h : List Event) (j : JobState) (max : ℕ) (came : List ℕ)
    → Keeps g c h j → j.code ≡ None
    → Keeps g c (events.HasRead c max (readers.Server reads.End) came ∷ h) (settled g 0 (record j { ended = true }))
end_keeps g c h j max came k none =
    let nil : (bytes_written h ≡ []) × (j.reply ≡ []) =
    none_coded g (bytes_read h) (bytes_written h) j.reply j.ended j.code none k.coded in
    let said : bytes_written h ++ [] ≡ [] = append-nil (bytes_written h) ∙ nil.0 in
    settled_keeps g c (events.HasRead c max (readers.Server reads.End) came ∷ h) (record j { ended = true }) 0 (record {
      own = k.own;
      read = still_read g c h j k;
      ended = refl;
      coded = subst (λ (o : Option ℤ). Coded g (bytes_read h ++ []) (bytes_written h ++ []) j.reply true o) (sym none)
          (said, nil.1);
    }) none refl

-- a read answered
read_keeps : (g : Handlers) (c : CallName) (h : List Event) (j : JobState) (max : ℕ) (got : ServeRead) (came : List ℕ)
    → Keeps g c h j → j.code ≡ None → j.ended ≡ false
    → KeepsAt g c (events.HasRead c max (readers.Server got) came ∷ h) (heard_read g j got came)
read_keeps g c h j max (reads.Got n) came k none more = record {
  keeps = came_keeps g c h j max n came k none more
      (ltb (length j.request) (length (kept_of g (j.request ++ came))));
  told = tt;
}
read_keeps g c h j max reads.End came k none more = record { keeps = end_keeps g c h j max came k none; told = tt }
read_keeps g c h j max reads.NotYet came k none more =
    let s : Still g c h j = still g c h j k in
    record { keeps = record { own = s.own; read = s.read; ended = s.ended; coded = s.coded }; told = tt }
read_keeps g c h j max (reads.Gone code) came k none more =
    let s : Still g c h j = still g c h j k in
    record { keeps = record { own = s.own; read = s.read; ended = s.ended; coded = s.coded }; told = refl }
read_keeps g c h j max reads.NotOpen came k none more =
    let s : Still g c h j = still g c h j k in
    record { keeps = record { own = s.own; read = s.read; ended = s.ended; coded = s.coded }; told = tt }

-- as many bytes as were accepted are a front of the reply
cut_front : (n : ℕ) (reply : List ℕ) → length (take n (take OFFER_BYTES reply)) ≡ n
    → take n (take OFFER_BYTES reply) ≡ take n reply
cut_front n reply is =
    let le : n ≤ OFFER_BYTES = omega (arith, length-take n (take OFFER_BYTES reply), length-take OFFER_BYTES reply) in
    take-take n OFFER_BYTES reply le

-- what was said and is to be said stays
joined : (said reply : List ℕ) (n : ℕ) → length (take n (take OFFER_BYTES reply)) ≡ n
    → (said ++ take n (take OFFER_BYTES reply)) ++ drop n reply ≡ said ++ reply
joined said reply n is =
    append_assoc said (take n (take OFFER_BYTES reply)) (drop n reply)
    ∙ ap (λ (front : List ℕ). said ++ (front ++ drop n reply)) (cut_front n reply is)
    ∙ ap (λ (all : List ℕ). said ++ all) (take-append-drop n reply)

-- bytes were accepted
said_coded : (g : Handlers) (request said reply : List ℕ) (ended : Bool) (o : Option ℤ) (d : ℤ) (n : ℕ) → o ≡ Some d
    → ltb 0 (length reply) ≡ true → length (take n (take OFFER_BYTES reply)) ≡ n
    → Coded g request said reply ended o
    → Coded g request (said ++ take n (take OFFER_BYTES reply)) (drop n reply) ended o
said_coded g request said reply ended None d n is some count x = cc
said_coded g request said reply ended (Some e) d n is some count (inl x) =
    let none : ltb 0 (length reply) ≡ false = ap (λ (r : List ℕ). ltb 0 (length r)) x.1 in cc
said_coded g request said reply ended (Some e) d n is some count (inr x) =
    inr (x.0, x.1, x.2 ∙ ap bytes (sym (joined said reply n count)))

-- where a job that wrote is, it wasn't told that its call broke by that
written_told : (b : Bool) (gone : Bool) → Told (cond b phases.Moves phases.Rests) gone
written_told true gone = tt
written_told false gone = tt

write_keeps : (g : Handlers) (c : CallName) (h : List Event) (j : JobState) (offered : ℕ) (got : Result ℕ ServeRefused)
    (d : ℤ) → Keeps g c h j → j.code ≡ Some d → ltb 0 (length j.reply) ≡ true
    → HasCount (events.Wrote c offered (writers.Server got) (accepted (take OFFER_BYTES j.reply) got))
    → KeepsAt g c (events.Wrote c offered (writers.Server got) (accepted (take OFFER_BYTES j.reply) got) ∷ h)
    (heard_write j offered got)
write_keeps g c h j offered (Ok n) d k is some count = record {
  keeps = record {
    own = k.own;
    read = still_read g c h j k;
    ended = k.ended;
    coded = still_coded g (bytes_read h) (bytes_written h ++ take n (take OFFER_BYTES j.reply)) (drop n j.reply) j.ended
        j.code (said_coded g (bytes_read h) (bytes_written h) j.reply j.ended j.code d n is some count k.coded);
  };
  told = written_told (n == offered) (has_gone h);
}
write_keeps g c h j offered (Err refusals.NotOpen) d k is some count =
    let s : Still g c h j = still g c h j k in
    record { keeps = record { own = s.own; read = s.read; ended = s.ended; coded = s.coded }; told = tt }
write_keeps g c h j offered (Err (refusals.Gone code)) d k is some count =
    let s : Still g c h j = still g c h j k in
    record { keeps = record { own = s.own; read = s.read; ended = s.ended; coded = s.coded }; told = refl }
write_keeps g c h j offered (Err refusals.Unread) d k is some count =
    let s : Still g c h j = still g c h j k in
    record { keeps = record { own = s.own; read = s.read; ended = s.ended; coded = s.coded }; told = tt }

-- ---- one event

-- the call that was asked for, by what the job wants
event_by : (g : Handlers) (c : CallName) (h : List Event) (m : Moving) → KeepsAt g c h m → (w : Want)
    → want_in m.phase m.job ≡ Some w → (e : Event) → IsCall (ask_of m.job w) e → HasCount e
    → KeepsAt g c (e ∷ h) (heard g m.job e)
event_by g c h m k wants.Read want e is count =
    let when : (m.job.code ≡ None) × (m.job.ended ≡ false) = reads_when m.job m.phase want in
    let at : e ≡ events.HasRead c OFFER_BYTES (readers.Server is.0) is.1 =
    is.2 ∙ ap (λ (n : CallName). events.HasRead n OFFER_BYTES (readers.Server is.0) is.1) k.keeps.own in
    subst (λ (x : Event). KeepsAt g c (x ∷ h) (heard g m.job x)) (sym at)
    (read_keeps g c h m.job OFFER_BYTES is.0 is.1 k.keeps when.0 when.1)
event_by g c h m k wants.Write want e is count =
    let when : (d : ℤ) × (m.job.code ≡ Some d) × (ltb 0 (length m.job.reply) ≡ true) =
    writes_when m.job m.phase want in
    let offer : List ℕ = take OFFER_BYTES m.job.reply in
    let at : e ≡ events.Wrote c (length offer) (writers.Server is.0) (accepted offer is.0) =
    is.1 ∙ ap (λ (n : CallName). events.Wrote n (length offer) (writers.Server is.0) (accepted offer is.0))
    k.keeps.own in
    subst (λ (x : Event). KeepsAt g c (x ∷ h) (heard g m.job x)) (sym at)
    (write_keeps g c h m.job (length offer) is.0 when.0 k.keeps when.1 when.2 (subst HasCount at count))
event_by g c h m k (wants.Finish code) want e is count =
    let s : Still g c h m.job = still g c h m.job k.keeps in
    let kept : KeepsAt g c (events.Finished m.job.call code is.0 ∷ h) (record { job = m.job; phase = phases.Gone }) =
    record { keeps = record { own = s.own; read = s.read; ended = s.ended; coded = s.coded }; told = tt } in
    subst (λ (x : Event). KeepsAt g c (x ∷ h) (heard g m.job x)) (sym is.1) kept

event_keeps : (g : Handlers) (c : CallName) (h : List Event) (m : Moving) → KeepsAt g c h m → (a : Ask)
    → (serving g).asks m ≡ Some a → (e : Event) → IsCall a e → HasCount e → KeepsAt g c (e ∷ h) (heard g m.job e)
event_keeps g c h m k a asked e is count =
    let w : (w : Want) × (want_in m.phase m.job ≡ Some w) × (ask_of m.job w ≡ a) =
    wanted m.job (want_in m.phase m.job) a asked in
    event_by g c h m k w.0 w.1 e (subst (λ (b : Ask). IsCall b e) (sym w.2) is) count

-- ---- a life

pub lives_keep : (g : Handlers) (c : CallName) (h : List Event) (m : Moving) → Lives g c h m → KeepsAt g c h m
lives_keep g c h m begins = record { keeps = stepped_keeps g c [] (begun c) (begun_keeps g c); told = tt }
lives_keep g c h m (calls past at a e life asked is count) =
    event_keeps g c past at (lives_keep g c past at life) a asked e is count
lives_keep g c h m (steps past at life none staying) =
    record { keeps = stepped_keeps g c past at.job (lives_keep g c past at life).keeps; told = tt }
