use Rattle.std.proofs.Common.{◌≡◌, ◌∙◌, List, Option, ap, length, subst, sym, take, ℕ}
use Rattle.rx_jobs.specs.Handlers.{Handlers}
use Rattle.rx_dispatch.specs.Desks.{IsRemembered, handlers_at}
use Rattle.rx_jobs.specs.Jobs.{JobState}
use Rattle.rx_jobs.specs.Keeping.{kept_of}
use Rattle.rx_dispatch.specs.declared.deciding.Found.{Found}
use Rattle.rx_jobs.proofs.KeptLaws.{kept_front}
use Rattle.rx_dispatch.proofs.Remembered.{remembered_kept, remembered_whole}
use Rattle.rx_dispatch.proofs.job.Job.judge.Goals as goal
use Rattle.rx_dispatch.proofs.job.Job.judge.Goals.{then-before-count+in_ok-code+in-Some}
use Rattle.rx_dispatch.proofs.job.Job.judge.Goals.{then-before-count+in_ok-code+in_default, else-before-count}

-- arguments that are remembered of a request are those of what is kept of it
kept_remembers : (g : Handlers) (before request whole kept : List ℕ) (found : Option Found) → request ≡ before
    → whole ≡ request → kept ≡ kept_of g whole → IsRemembered g before found → IsRemembered g kept found
kept_remembers g before request whole kept found same is kept_is remembered =
    subst (λ (q : List ℕ). IsRemembered g q found) (sym (kept_is ∙ ap (kept_of g) (is ∙ same)))
    (remembered_kept g before found remembered)

-- and the other way round
whole_remembers : (g : Handlers) (before request whole kept : List ℕ) (found : Option Found) → request ≡ before
    → whole ≡ request → kept ≡ kept_of g whole → IsRemembered g kept found → IsRemembered g before found
whole_remembers g before request whole kept found same is kept_is remembered =
    remembered_whole g before found
    (subst (λ (q : List ℕ). IsRemembered g q found) (kept_is ∙ ap (kept_of g) (is ∙ same)) remembered)

module _ (g : Handlers) (request whole kept cut left : List ℕ) (found behind : Option Found) where
  -- a request that is cut where what is kept of it ends is what is kept
  cut_remembers : left ≡ request → whole ≡ request → kept ≡ kept_of g whole → cut ≡ take (length kept) left
      → behind ≡ found → IsRemembered g kept found → IsRemembered g cut behind
  cut_remembers same is kept_is cut_is found_is remembered =
      let at : take (length kept) left ≡ kept =
      ap (take (length kept)) (same ∙ sym is) ∙ ap (λ (k : List ℕ). take (length k) whole) kept_is
      ∙ kept_front g whole ∙ sym kept_is in
      subst (IsRemembered g cut) (sym found_is)
      (subst (λ (q : List ℕ). IsRemembered g q found) (sym (cut_is ∙ at)) remembered)

pub early_code-requires : goal.early_code-requires
early_code-requires c =
    kept_remembers (handlers_at c.args.desk.now) c.args.self.now.request c.self.inside.request.items c.deref.result.now
    c.kept_of-kept.result.now c.args.found.now (ap (λ (x : JobState). x.request) c.self.view_is) c.deref.ensures.value
    c.kept_of-kept.ensures c.requires

pub returns-in_err-code-clause-remembered : goal.returns-in_err-code-clause-remembered
returns-in_err-code-clause-remembered c =
    whole_remembers (handlers_at c.args.desk.now) c.args.self.now.request c.self.inside.request.items
    c.deref.result.now c.kept_of-kept.result.now c.early_code.new.found
    (ap (λ (x : JobState). x.request) c.self.view_is) c.deref.ensures.value c.kept_of-kept.ensures
    c.in_err-code.ensures.remembered

pub returns-clause-remembered : goal.returns-clause-remembered
returns-clause-remembered c =
    let g : Handlers = handlers_at c.args.desk.now in
    let request : List ℕ = c.self.inside.request.items in
    let whole : List ℕ = c.deref.result.now in
    let kept : List ℕ = c.kept_of-kept.result.now in
    let cut : List ℕ = c.truncate.new.self.items in
    let left : List ℕ = c.if-before-count.self-inside.request.items in
    let behind : Option Found = c.if-before-count.found in
    elim c.if-before-count.branch [
      | then-before-count+in_ok-code+in-Some w ↦
          cut_remembers g request whole kept cut left w.early_code.new.found behind
          (ap (λ x. x.request.items) w.self-inside-is) c.deref.ensures.value c.kept_of-kept.ensures
          c.truncate.ensures.items w.found-is w.early_code.ensures.remembered
      | then-before-count+in_ok-code+in_default w ↦
          cut_remembers g request whole kept cut left w.early_code.new.found behind
          (ap (λ x. x.request.items) w.self-inside-is) c.deref.ensures.value c.kept_of-kept.ensures
          c.truncate.ensures.items w.found-is w.early_code.ensures.remembered
      | else-before-count w ↦
          cut_remembers g request whole kept cut left c.args.found.now behind
          (ap (λ x. x.request.items) w.self-inside-is) c.deref.ensures.value c.kept_of-kept.ensures
          c.truncate.ensures.items w.found-is
          (kept_remembers g c.args.self.now.request request whole kept c.args.found.now
          (ap (λ (x : JobState). x.request) c.self.view_is) c.deref.ensures.value c.kept_of-kept.ensures c.requires)
    ]
