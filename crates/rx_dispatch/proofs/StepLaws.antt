-- Steps of jobs at places.
use Rattle.std.proofs.Common.{◌≡◌, ℕ, ◌+◌, ◌<◌, Bool, true, false, List, [], ◌∷◌, ◌++◌, length, take, drop}
use Rattle.std.proofs.Common.{Option, Some, None, sym, ap, ◌∙◌, arith}
use Rattle.std.proofs.Math.ListN.{get_or}
use Rattle.std.proofs.lemmas.List.{append-nil, drop_more, length-take-le, take_more}
use Rattle.std.proofs.Math.Seq.{take-append_seam, drop-append_seam}
use Rattle.rx_jobs.specs.Handlers.{Handlers}
use Rattle.rx_jobs.specs.Jobs.{JobState, Moving, moving, Ask, serving}
use Rattle.rx_jobs.specs.Dispatching.{serves, over, left, kept, by_ask, settle, proceed}
use Rattle.rx_dispatch.specs.Rounds.{Passes}

-- a job that asks for a call goes on
pub settle-asks : (g : Handlers) (done : List JobState) (m : Moving) (todo : List JobState) (a : Ask)
    → (serving g).asks m ≡ Some a → settle g done m todo ≡ serves done m todo
settle-asks g done m [] a asked =
    ap (λ (o : Option Ask). by_ask o (serves done m []) (over (done ++ left m))) asked
settle-asks g done m (j ∷ js) a asked =
    ap (λ (o : Option Ask). by_ask o (serves done m (j ∷ js)) (settle g (done ++ left m) (moving g j) js)) asked

-- behind one that asks for none the next one begins
pub settle-over : (g : Handlers) (done : List JobState) (m : Moving) (todo : List JobState)
    → (serving g).asks m ≡ None → settle g done m todo ≡ proceed g (done ++ left m) todo
settle-over g done m [] none =
    ap (λ (o : Option Ask). by_ask o (serves done m []) (over (done ++ left m))) none
settle-over g done m (j ∷ js) none =
    ap (λ (o : Option Ask). by_ask o (serves done m (j ∷ js)) (settle g (done ++ left m) (moving g j) js)) none

-- ---- places

-- the job at a place, and those behind it
pub at_place : (jobs : List JobState) (place : ℕ) (j : JobState) → place < length jobs → j ≡ get_or jobs place j
    → drop place jobs ≡ j ∷ drop (place + 1) jobs
at_place jobs place j within is =
    drop_more jobs place j within ∙ ap (λ (k : JobState). k ∷ drop (place + 1) jobs) (sym is)

-- the first of two lists that are one
pub first_is : {l xs ys : List JobState} {j k : JobState} → l ≡ j ∷ xs → l ≡ k ∷ ys → j ≡ k
first_is is also = cc (is, also)

-- and their rests
pub rest_is : {l xs ys : List JobState} {j k : JobState} → l ≡ j ∷ xs → l ≡ k ∷ ys → xs ≡ ys
rest_is is also = cc (is, also)

-- in front of the next place stand those that stood in front, and the job whose step is over where it stays
pub passed_front : (old new : List JobState) (place next : ℕ) (j : JobState) (todo : List JobState) (stays : Bool)
    → place < length old → drop place old ≡ j ∷ todo → Passes old new place next stays
    → take next new ≡ take place old ++ kept stays j
passed_front old new place next j todo true within at (to, are) =
    ap (λ (n : ℕ). take n new) to ∙ ap (take (place + 1)) are ∙ take_more old place j within
    ∙ ap (λ (k : JobState). take place old ++ k ∷ []) (first_is (drop_more old place j within) at)
passed_front old new place next j todo false within at (to, are) =
    let long : length (take place old) ≡ place = length-take-le place old (omega arith) in
    ap (λ (n : ℕ). take n new) to ∙ ap (take place) are
    ∙ ap (λ (n : ℕ). take n (take place old ++ drop (place + 1) old)) (sym long)
    ∙ take-append_seam (take place old) (drop (place + 1) old)
    ∙ sym (append-nil (take place old))

-- behind it stand those that are to come
pub passed_rest : (old new : List JobState) (place next : ℕ) (j : JobState) (todo : List JobState) (stays : Bool)
    → place < length old → drop place old ≡ j ∷ todo → Passes old new place next stays → drop next new ≡ todo
passed_rest old new place next j todo true within at (to, are) =
    ap (λ (n : ℕ). drop n new) to ∙ ap (drop (place + 1)) are ∙ rest_is (drop_more old place j within) at
passed_rest old new place next j todo false within at (to, are) =
    let long : length (take place old) ≡ place = length-take-le place old (omega arith) in
    ap (λ (n : ℕ). drop n new) to ∙ ap (drop place) are
    ∙ ap (λ (n : ℕ). drop n (take place old ++ drop (place + 1) old)) (sym long)
    ∙ drop-append_seam (take place old) (drop (place + 1) old)
    ∙ rest_is (drop_more old place j within) at
