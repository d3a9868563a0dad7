-- One call of a job.
use Rattle.std.proofs.Common.{◌≡◌, ◌≤◌, ℕ, Bool, List, [], ◌++◌, length, take, Result, Ok, Err}
use Rattle.std.proofs.Common.{true, refl, sym, ap, ◌∙◌, subst, arith}
use Rattle.std.proofs.lemmas.List.{append-nil, nil_from_length}
use Rattle.hex.specs.Hex.{IsBytes}
use Rattle.rx_model.specs.declared.answers.ReadGot.TheVariants as readers
use Rattle.rx_model.specs.declared.answers.ServeRead.{ServeRead}
use Rattle.rx_model.specs.declared.answers.ServeRead.TheVariants as reads
use Rattle.rx_model.specs.declared.answers.ServeRefused.{ServeRefused}
use Rattle.rx_model.specs.declared.answers.ServeRefused.TheVariants as refusals
use Rattle.rx_model.specs.declared.answers.WroteGot.TheVariants as writers
use Rattle.rx_model.specs.declared.event.Event.TheVariants as events
use Rattle.rx_rules.specs.Classes.{Class}
use Rattle.rx_server.specs.Server.{Answered, ServerState, handler_count}
use Rattle.rx_jobs.specs.Handlers.{Handlers}
use Rattle.rx_jobs.specs.Jobs.{JobState, Moving, accepted, heard_read, heard_write, settled}
use Rattle.rx_dispatch.specs.Rounds.{resolved}
use Rattle.rx_dispatch.specs.Calls.{Called, ended_after, next_after}
use Rattle.rx_dispatch.specs.declared.job.Next.{Next}
use Rattle.rx_dispatch.specs.declared.job.Next.TheVariants as nexts
use Rattle.rx_jobs.specs.declared.job.Phase.{Phase}
use Rattle.rx_jobs.specs.declared.job.Phase.TheVariants as phases
use Rattle.rx_jobs.specs.declared.job.TheConstants.{OFFER_BYTES}
use Rattle.rx_jobs.specs.declared.job.Want.TheVariants as wants

-- no byte is too great
none_fits : IsBytes []
none_fits i = omega arith

-- a job behind a read, with the bytes that came
abbrev pub behind_read : JobState → ServeRead → List ℕ → JobState
behind_read j got came = record j { request = j.request ++ came; ended = ended_after got j.ended }

-- where none came its request stays
none_came : (request came : List ℕ) → length came ≤ 0 → request ++ came ≡ request
none_came request came none =
    ap (λ (c : List ℕ). request ++ c) (nil_from_length came (omega arith)) ∙ append-nil request

-- it knows what it was told
pub read_heard : (g : Handlers) (j : JobState) (got : ServeRead) (came : List ℕ) → length came ≤ handler_count got
    → resolved g (next_after got (length j.request)) (behind_read j got came) ≡ heard_read g j got came
read_heard g j (reads.Got n) came few = refl
read_heard g j reads.End came few =
    ap (λ (q : List ℕ). record { job = settled g 0 (record j { request = q; ended = true }); phase = phases.Moves })
    (none_came j.request came few)
read_heard g j reads.NotYet came few =
    ap (λ (q : List ℕ). record { job = record j { request = q }; phase = phases.Rests }) (none_came j.request came few)
read_heard g j (reads.Gone c) came few =
    ap (λ (q : List ℕ). record { job = record j { request = q }; phase = phases.Quits }) (none_came j.request came few)
read_heard g j reads.NotOpen came few =
    ap (λ (q : List ℕ). record { job = record j { request = q }; phase = phases.Gone }) (none_came j.request came few)

module _ (class : List ℕ → Class) (j : JobState) (old new : ServerState) where
  -- a read was called
  pub read_called : (got : ServeRead) (bytes came request : List ℕ) (ended : Bool) (before : ℕ) (next : Next)
      → length bytes ≤ handler_count got → IsBytes bytes
      → Answered class old new (events.HasRead j.call OFFER_BYTES (readers.Server got) bytes)
      → came ≡ bytes → request ≡ j.request ++ bytes → ended ≡ ended_after got j.ended
      → before ≡ length j.request → next ≡ next_after got before
      → Called class j wants.Read (record j { request = request; ended = ended }) next old new
      (events.HasRead j.call OFFER_BYTES (readers.Server got) came)
  read_called got bytes came request ended before next few fits answered came_is request_is ended_is before_is next_is =
      let after : Next = next_after got (length j.request) in
      let base : Called class j wants.Read (behind_read j got bytes) after old new
      (events.HasRead j.call OFFER_BYTES (readers.Server got) bytes) =
      record {
        is = (got, bytes, refl);
        answered = answered;
        hearing = λ g. read_heard g j got bytes few;
        grows = record { more = bytes; fits = fits; is = refl };
      } in
      subst (λ (x : List ℕ). Called class j wants.Read (record j { request = request; ended = ended }) next old new
      (events.HasRead j.call OFFER_BYTES (readers.Server got) x)) (sym came_is)
      (subst (λ (n : Next). Called class j wants.Read (record j { request = request; ended = ended }) n old new
      (events.HasRead j.call OFFER_BYTES (readers.Server got) bytes)) (sym (next_is ∙ ap (next_after got) before_is))
      (subst (λ (b : Bool). Called class j wants.Read (record j { request = request; ended = b }) after old new
      (events.HasRead j.call OFFER_BYTES (readers.Server got) bytes)) (sym ended_is)
      (subst (λ (q : List ℕ). Called class j wants.Read (record j { request = q; ended = ended_after got j.ended })
      after old new (events.HasRead j.call OFFER_BYTES (readers.Server got) bytes)) (sym request_is) base)))

  -- nothing more of a request
  same_request : (k : JobState) (phase : Phase) (offered : ℕ) (got : Result ℕ ServeRefused)
      → heard_write j offered got ≡ record { job = k; phase = phase } → k.request ≡ j.request
  same_request k phase offered got is = sym (ap (λ (m : Moving). m.job.request) is) ∙ by got
    where
      by : (got : Result ℕ ServeRefused) → (heard_write j offered got).job.request ≡ j.request
      by (Ok n) = refl
      by (Err refusals.NotOpen) = refl
      by (Err (refusals.Gone c)) = refl
      by (Err refusals.Unread) = refl

  -- a write was called
  pub write_called : (got : Result ℕ ServeRefused) (offer came : List ℕ) (offered : ℕ) (k : JobState) (phase : Phase)
      → Answered class old new (events.Wrote j.call (length offer) (writers.Server got) (accepted offer got))
      → offer ≡ take OFFER_BYTES j.reply → offered ≡ length offer → came ≡ accepted offer got
      → heard_write j offered got ≡ record { job = k; phase = phase }
      → Called class j wants.Write k (nexts.Go phase) old new
      (events.Wrote j.call offered (writers.Server got) came)
  write_called got offer came offered k phase answered offer_is offered_is came_is heard_is =
      let told : events.Wrote j.call offered (writers.Server got) came
      ≡ events.Wrote j.call (length offer) (writers.Server got) (accepted offer got) =
      ap (λ (n : ℕ). events.Wrote j.call n (writers.Server got) came) offered_is
      ∙ ap (λ (x : List ℕ). events.Wrote j.call (length offer) (writers.Server got) x) came_is in
      record {
        is = (
          got,
          told
              ∙ ap (λ (x : List ℕ). events.Wrote j.call (length x) (writers.Server got) (accepted x got)) offer_is,
        );
        answered = subst (Answered class old new) (sym told) answered;
        hearing = λ g. sym heard_is;
        grows = record {
          more = [];
          fits = none_fits;
          is = same_request k phase offered got heard_is ∙ sym (append-nil j.request);
        };
      }
