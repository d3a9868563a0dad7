-- What holds behind each event of a driven plan holds behind the whole plan.
use Rattle.std.proofs.Common.{◌≡◌, ◌⊎◌, ◌∙◌, if◌then◌else◌, ℕ, suc, Bool, true, false, List, [], ◌∷◌, ◌++◌, length}
use Rattle.std.proofs.Common.{Option, Some, None, refl, inl, inr, ap, sym, subst, append_assoc, slice_get, string_bytes}
use Rattle.std.proofs.Common.{All, option_map, arith}
use Rattle.std.specs.Option.{option_and_then}
use Rattle.std.proofs.lemmas.List.{length-append}
use Rattle.std.proofs.lemmas.List.Elements.{All-head, All-tail}
use Rattle.rx_model.specs.declared.event.Noted.{Noted}
use Rattle.xdr_value.specs.Data.{Data, Procedure}
use Rattle.xdr_value.specs.View.{values_of}
use Rattle.rx_jobs.specs.Handlers.{Handlers}
use Rattle.rx_history.specs.Sides.{Node}
use Rattle.rx_script.specs.Procs.{proc_named}
use Rattle.rx_script.specs.declared.outcome.PlanWhy.TheVariants as causes
use Rattle.rx_script.specs.declared.plan.Numbered.{Numbered}
use Rattle.rx_script.specs.declared.plan.PlanLine.{PlanLine}
use Rattle.rx_script.specs.declared.plan.PlanLine.TheVariants as lines
use Rattle.rx_plan.specs.Answering.{AreDriven, IsDriven, invoked_at, invoked_by}
use Rattle.rx_plan.specs.Follows.{Goes, Progress, Went, Whole, adds, all, begins, begun, client_node, cut, goes_from}
use Rattle.rx_plan.specs.Follows.{endless, has_room, made_node, next, next_part, plan_goes, refused, server_node}
use Rattle.rx_plan.specs.Lines.{IsWell, TakesArguments, bytes_of, line_part}
use Rattle.rx_plan.specs.Parts.{Came, To, Refused, Cut, Then, ends}
use Rattle.rx_plan.specs.Stages.{Stage}
use Rattle.rx_plan.proofs.Driven.{At, Carries, Seen, line_shaped, seen, shaped}
use Rattle.rx_plan.proofs.Shaped.{LineAsks, line_leads}
use Rattle.rx_plan.proofs.Following.{IsEmpty}
use Rattle.rx_plan.proofs.Followed.{Asks}
use Rattle.rx_plan.proofs.Leading.{Leads, ends_lead, then_lead}
use Rattle.rx_plan.proofs.Soundness.SoundPlan.{IfWhole}

at_front : (front : List Numbered) (l : Numbered) (rest : List Numbered)
    → slice_get (front ++ l ∷ rest) (length front) ≡ Some l
at_front [] l rest = refl
at_front (k ∷ front) l rest = at_front front l rest

module _ (g : Handlers) (ls : List Numbered) where
  -- what an invoke asks that the reader of plans gave
  invoke_asks : (place : ℕ) (name : List ℕ) (args : Data) (up : Option (List ℕ)) (down : Bool) (o : Option Procedure)
      → proc_named name g.procs ≡ o
      → invoked_at g ls place
      ≡ option_map (λ p. record { proc = p; args = args; up = up; down = down }) (proc_named name g.procs)
      → TakesArguments g o args up → Asks g ls place (bytes_of g o args up)
  invoke_asks place name args up down None is at takes = absurd takes
  invoke_asks place name args up down (Some p) is at takes =
      record {
        origin = record {
          invoke = record { proc = p; args = args; up = up; down = down };
          at = at ∙ ap (option_map (λ p. record { proc = p; args = args; up = up; down = down })) is;
          can = takes;
        };
        request = refl;
      }

  line_asks : (place : ℕ) (l : Numbered) → slice_get ls place ≡ Some l → IsWell g l.what
      → LineAsks g (Asks g ls) place l.what
  line_asks place l at well = by l.what refl well
    where
      by : (line : PlanLine) → l.what ≡ line → IsWell g line → LineAsks g (Asks g ls) place line
      by (lines.Invoke client cid proc up down args) is well =
          invoke_asks place (string_bytes proc) (values_of args.items) up down
          (proc_named (string_bytes proc) g.procs) refl
          (ap (option_and_then (λ (k : Numbered). invoked_by g k.what)) at ∙ ap (invoked_by g) is) well
      by line is well = tt

module _ (g : Handlers) (ls : List Numbered) (Q : Seen → Type 0) (carries : Carries g (Asks g ls) Q)
    (empty : (s : Stage) → IsEmpty s → Q (seen s)) where
  -- what a run has come to, where nothing was made before the first line that makes no node
  record IsGoing (p : Progress) : Type 0 where
    early : p.late ≡ false → IsEmpty p.stage
    so : Q (seen p.stage)

  -- the same behind a line
  record IsNext (old p : Progress) : Type 0 where
    going : IsGoing p
    place : p.place ≡ suc old.place

  client_next : (n : Node) (p q : Progress) → IsGoing p → To q ≡ made_node p (adds p.late n p.stage) → IsNext p q
  client_next n p q i is = by p.late refl is
    where
      by : (late : Bool) → p.late ≡ late → To q ≡ made_node p (adds late n p.stage) → IsNext p q
      by true late is = absurd cc
      by false late is = room (has_room n.setup.limits p.stage.nodes) is
        where
          stage : Stage
          stage = record p.stage { nodes = p.stage.nodes ++ n ∷ [] }

          with_it : Progress
          with_it = record p { stage = stage; place = suc p.place }

          none_yet : IsEmpty stage
          none_yet =
              (let e = i.early late in record { history = e.history; callers = e.callers; jobs = e.jobs })

          room : (b : Bool) → To q ≡ made_node p (if b then To stage else Refused causes.Slots) → IsNext p q
          room false is = absurd cc
          room true is =
              (let same : q ≡ with_it = cc in
              subst (IsNext p) (sym same)
              (record {
                going = record { early = λ later. none_yet; so = empty stage none_yet };
                place = refl;
              }))

  line_next : (line : PlanLine) (p : Progress) → IsDriven line → LineAsks g (Asks g ls) p.place line → IsGoing p
      → Leads (IsNext p)
      (Then (line_part g p.place line p.stage)
      (λ s. ends (To (record { stage = s; late = true; place = suc p.place }))))
  line_next line p driven asks i =
      then_lead (λ s. Q (seen s)) (IsNext p) (line_part g p.place line p.stage) _
      (line_leads g (Asks g ls) (At g (Asks g ls) Q carries) (shaped g (Asks g ls) Q carries)
      (line_shaped g (Asks g ls) Q carries) p.place line p.stage driven asks i.so)
      (λ s there.
      ends_lead (IsNext p) _ (record { going = record { early = λ late. absurd cc; so = there }; place = refl }))

  next_leads : (line : PlanLine) (p : Progress) → IsDriven line → LineAsks g (Asks g ls) p.place line → IsGoing p
      → Leads (IsNext p) (next_part g line p)
  next_leads (lines.Client host epoch limits key) p driven asks i es q made = of made.1
    where
      of : (To q ≡ made_node p (adds p.late (client_node host epoch limits key) p.stage))
          ⊎ (◌≡◌ {A = Came Progress} (To q) Cut)
          → IsNext p q
      of (inl is) = client_next (client_node host epoch limits key) p q i is
      of (inr none) = absurd cc
  next_leads line p driven asks i es q made = line_next line p driven asks i es q made

  -- ---- all lines

  lines_carry : {rest : List Numbered} {p : Progress} {es : List Noted} {went : Went} → Goes g rest p es went
      → (front : List Numbered) → ls ≡ front ++ rest → p.place ≡ length front → All (λ l. IsWell g l.what) rest
      → AreDriven rest → IsGoing p → IfWhole (λ s. Q (seen s)) went
  lines_carry (all p) front are place well driven i = i.so
  lines_carry (next l rest p q es more went one behind) front are place well driven i =
      let at : slice_get ls p.place ≡ Some l =
      ap (λ (xs : List Numbered). slice_get xs p.place) are
      ∙ ap (slice_get (front ++ l ∷ rest)) place ∙ at_front front l rest in
      let n = next_leads l.what p (All-head (λ k. IsDriven k.what) l rest driven)
      (line_asks g ls p.place l at (All-head (λ k. IsWell g k.what) l rest well)) i es q one in
      lines_carry behind (front ++ l ∷ [])
      (are ∙ sym (append_assoc front (l ∷ []) rest))
      (n.place ∙ ap suc place ∙ (let more = length-append front (l ∷ []) in omega arith))
      (All-tail (λ k. IsWell g k.what) l rest well) (All-tail (λ k. IsDriven k.what) l rest driven) n.going
  lines_carry (refused l rest p es why one) front are place well driven i = tt
  lines_carry (cut l rest p es one) front are place well driven i = tt
  lines_carry (endless l rest p es one) front are place well driven i = tt

-- ---- a whole plan

-- where it holds as long as nothing was made but nodes
pub plan_carries : (g : Handlers) (ls : List Numbered) (Q : Seen → Type 0) → Carries g (Asks g ls) Q
    → ((s : Stage) → IsEmpty s → Q (seen s)) → (es : List Noted) (s : Stage) → All (λ l. IsWell g l.what) ls
    → AreDriven ls → plan_goes g ls es (Whole s) → Q (seen s)
plan_carries g [] Q carries empty es s well driven goes = absurd (let is = goes.1 in cc)
plan_carries g (l ∷ rest) Q carries empty es s well driven (inr goes) = absurd (let is = goes.1 in cc)
plan_carries g (l ∷ rest) Q carries empty es s well driven (inl goes) = first l.what goes
  where
    first : (what : PlanLine) → goes_from g l.line rest (begins what) es (Whole s) → Q (seen s)
    first (lines.Server host service limits key nonce) goes = room (has_room limits []) goes
      where
        n : Node
        n = server_node host service limits key nonce

        none_yet : IsEmpty (begun n)
        none_yet = record { history = refl; callers = refl; jobs = refl }

        room : (b : Bool) → goes_from g l.line rest (if b then To (begun n) else Refused causes.Slots) es (Whole s)
            → Q (seen s)
        room false goes = absurd (let is = goes.1 in cc)
        room true goes =
            lines_carry g (l ∷ rest) Q carries empty goes (l ∷ []) refl refl
            (All-tail (λ k. IsWell g k.what) l rest well) (All-tail (λ k. IsDriven k.what) l rest driven)
            (record { early = λ late. none_yet; so = empty (begun n) none_yet })
    first what goes = absurd (let is = goes.1 in cc)
