-- A plan whose last line makes rounds: the lines before it, and the rounds from the stage that they came to.
use Rattle.std.proofs.Common.{◌≡◌, ◌++◌, ℕ, suc, true, false, List, [], ◌∷◌, refl, ap, sym, subst, ◌∙◌, inl, inr}
use Rattle.std.proofs.Common.{append_assoc, All}
use Rattle.std.proofs.lemmas.List.Elements.{All-cons, All-head, All-nil, All-tail}
use Rattle.rx_model.specs.declared.event.Noted.{Noted}
use Rattle.rx_script.specs.declared.plan.Numbered.{Numbered}
use Rattle.rx_script.specs.declared.plan.PlanLine.TheVariants as lines
use Rattle.rx_jobs.specs.Handlers.{Handlers}
use Rattle.rx_plan.specs.Answering.{AreServable, WaitsShort}
use Rattle.rx_plan.specs.Follows.{Goes, Progress, Went, Whole, all, begins, cut, endless, goes_from, next, next_part}
use Rattle.rx_plan.specs.Follows.{plan_goes, refused}
use Rattle.rx_plan.specs.Lines.{IsWell}
use Rattle.rx_plan.specs.Parts.{Came, Cut, Endless, Refused, Then, To, ends, goes_on}
use Rattle.rx_plan.specs.Rounds.{rounds}
use Rattle.rx_plan.specs.Stages.{Stage}
use Rattle.rx_rounds.proofs.Making.{ends_cut, ends_endless, ends_refused, ends_to}
use Rattle.rx_closing.specs.Closing.{RoundsBehind}
use Rattle.rx_closing.specs.Ended.{AreFair}

-- ---- a line and the others

-- lines that were all made, the first of them and the others
record OneMade (g : Handlers) (l : Numbered) (ls : List Numbered) (p : Progress) (es : List Noted) (t : Stage)
    : Type 0 where
  behind : Progress
  front : List Noted
  more : List Noted
  are : es ≡ front ++ more
  made : next_part g l.what p front (To behind)
  others : Goes g ls behind more (Whole t)

whole_is : (s t : Stage) → Whole s ≡ Whole t → s ≡ t
whole_is s t is = cc

one_made : (g : Handlers) (l : Numbered) (ls : List Numbered) (p : Progress) (es : List Noted) (t : Stage)
    → Goes g (l ∷ ls) p es (Whole t) → OneMade g l ls p es t
one_made g l ls p es t made = of (l ∷ ls) p es (Whole t) made refl refl
  where
    of : (ks : List Numbered) (o : Progress) (fs : List Noted) (went : Went) → Goes g ks o fs went → ks ≡ l ∷ ls
        → went ≡ Whole t → OneMade g l ls o fs t
    of ks o fs went (all q) is at = absurd cc
    of ks o fs went (next k more q r front hs w made_ others) is at =
        (let one : k ≡ l = cc (is) in
        let rest : more ≡ ls = cc (is) in
        record {
          behind = r;
          front = front;
          more = hs;
          are = refl;
          made = subst (λ (i : Numbered). next_part g i.what q front (To r)) one made_;
          others =
              subst (λ (v : Went). Goes g ls r hs v) at (subst (λ (ns : List Numbered). Goes g ns r hs w) rest others);
        })
    of ks o fs went (refused k more q gs why made_) is at = absurd cc
    of ks o fs went (cut k more q gs made_) is at = absurd cc
    of ks o fs went (endless k more q gs made_) is at = absurd cc

-- no line
record NoneMade (p : Progress) (es : List Noted) (t : Stage) : Type 0 where
  none : es ≡ []
  there : t ≡ p.stage

none_made : (g : Handlers) (p : Progress) (es : List Noted) (t : Stage) → Goes g [] p es (Whole t) → NoneMade p es t
none_made g p es t made = of [] p es (Whole t) made refl refl
  where
    of : (ks : List Numbered) (o : Progress) (fs : List Noted) (went : Went) → Goes g ks o fs went → ks ≡ []
        → went ≡ Whole t → NoneMade o fs t
    of ks o fs went (all q) is at = record { none = refl; there = sym (whole_is q.stage t at) }
    of ks o fs went (next k more q r front hs w made_ others) is at = absurd cc
    of ks o fs went (refused k more q gs why made_) is at = absurd cc
    of ks o fs went (cut k more q gs made_) is at = absurd cc
    of ks o fs went (endless k more q gs made_) is at = absurd cc

-- ---- the last of them

-- lines, and rounds behind them
record LastMade (g : Handlers) (ls : List Numbered) (n : ℕ) (p : Progress) (es : List Noted) (t : Stage) : Type 0 where
  stage : Stage
  front : List Noted
  rest : List Noted
  are : es ≡ front ++ rest
  goes : Goes g ls p front (Whole stage)
  rounds_are : rounds g n stage rest (To t)

none_behind : (es : List Noted) → es ++ [] ≡ es
none_behind [] = refl
none_behind (e ∷ es) = ap (λ (fs : List Noted). e ∷ fs) (none_behind es)

-- a line of rounds and no other
rounds_made : (g : Handlers) (line n : ℕ) (p : Progress) (es : List Noted) (t : Stage)
    → Goes g (record { line = line; what = lines.Rounds n } ∷ []) p es (Whole t) → LastMade g [] n p es t
rounds_made g line n p es t made =
    (let one = one_made g (record { line = line; what = lines.Rounds n }) [] p es t made in
    let last = none_made g one.behind one.more t one.others in
    of one.front one.behind one.made (ap (λ (fs : List Noted). one.front ++ fs) last.none ∙ none_behind one.front)
    one.are last.there)
  where
    of : (fs : List Noted) (q : Progress)
        → Then (rounds g n p.stage) (λ s. ends (To (record { stage = s; late = true; place = suc p.place }))) fs (To q)
        → {gs : List Noted} → gs ≡ fs → es ≡ gs → t ≡ q.stage → LastMade g [] n p es t
    of fs q made_ {gs = gs} same are there = by made_.came made_.made made_.goes
      where
        by : (came : Came Stage) → rounds g n p.stage made_.front came
            → goes_on (λ s. ends (To (record { stage = s; late = true; place = suc p.place }))) came made_.rest (To q)
            → LastMade g [] n p es t
        by (To u) rounds_ onward =
            (let end : q ≡ record { stage = u; late = true; place = suc p.place } =
            ends_to (record { stage = u; late = true; place = suc p.place }) q made_.rest onward in
            let stage : u ≡ t = sym (there ∙ ap (λ (r : Progress). r.stage) end) in
            record {
              stage = p.stage;
              front = [];
              rest = made_.front;
              are = are ∙ same ∙ made_.are ∙ ap (λ (hs : List Noted). made_.front ++ hs) onward.0
                  ∙ none_behind made_.front;
              goes = all p;
              rounds_are = subst (λ (v : Stage). rounds g n p.stage made_.front (To v)) stage rounds_;
            })
        by (Refused why) rounds_ onward = absurd (ends_refused why q made_.rest onward)
        by Cut rounds_ onward = absurd (ends_cut q made_.rest onward)
        by Endless rounds_ onward = absurd (ends_endless q made_.rest onward)

last_made : (g : Handlers) (ls : List Numbered) (line n : ℕ) (p : Progress) (es : List Noted) (t : Stage)
    → Goes g (ls ++ record { line = line; what = lines.Rounds n } ∷ []) p es (Whole t) → LastMade g ls n p es t
last_made g [] line n p es t made = rounds_made g line n p es t made
last_made g (l ∷ ls) line n p es t made =
    (let one = one_made g l (ls ++ record { line = line; what = lines.Rounds n } ∷ []) p es t made in
    let last = last_made g ls line n one.behind one.more t one.others in
    record {
      stage = last.stage;
      front = one.front ++ last.front;
      rest = last.rest;
      are = one.are ∙ ap (λ (fs : List Noted). one.front ++ fs) last.are
          ∙ sym (append_assoc one.front last.front last.rest);
      goes = next l ls p one.behind one.front last.front (Whole last.stage) one.made last.goes;
      rounds_are = last.rounds_are;
    })

-- ---- of a whole plan

-- lines, and rounds behind them to a stage, as a plan's run makes them
pub record PlanMade (g : Handlers) (ls : List Numbered) (n : ℕ) (es : List Noted) (t : Stage) : Type 0 where
  pub stage : Stage
  pub front : List Noted
  pub rest : List Noted
  pub are : es ≡ front ++ rest
  pub goes : plan_goes g ls front (Whole stage)
  pub rounds_are : rounds g n stage rest (To t)

-- so it is of a plan whose last line makes rounds, where all of it was made
pub plan_made : (g : Handlers) (ls : List Numbered) (line n : ℕ) (es : List Noted) (t : Stage)
    → plan_goes g (ls ++ record { line = line; what = lines.Rounds n } ∷ []) es (Whole t) → PlanMade g ls n es t
plan_made g [] line n es t (inl goes) = absurd (let is = goes.1 in cc)
plan_made g [] line n es t (inr goes) = absurd (let is = goes.1 in cc)
plan_made g (l ∷ ls) line n es t (inr goes) = absurd (let is = goes.1 in cc)
plan_made g (l ∷ ls) line n es t (inl goes) = by (begins l.what) refl goes
  where
    by : (came : Came Stage) → begins l.what ≡ came
        → goes_from g l.line (ls ++ record { line = line; what = lines.Rounds n } ∷ []) came es (Whole t)
        → PlanMade g (l ∷ ls) n es t
    by (To s) is made =
        (let last = last_made g ls line n (record { stage = s; late = false; place = 1 }) es t made in
        record {
          stage = last.stage;
          front = last.front;
          rest = last.rest;
          are = last.are;
          goes = inl (subst (λ (c : Came Stage). goes_from g l.line ls c last.front (Whole last.stage)) (sym is)
              last.goes);
          rounds_are = last.rounds_are;
        })
    by (Refused why) is made = absurd (let wrong = made.1 in cc)
    by Cut is made = absurd (let wrong = made.1 in cc)
    by Endless is made = absurd made

-- what holds of lines holds of those before the last
all_front : (P : Numbered → Type 0) (ls : List Numbered) (l : Numbered) → All P (ls ++ l ∷ []) → All P ls
all_front P [] l every = All-nil P
all_front P (k ∷ ls) l every =
    All-cons P k ls (All-head P k (ls ++ l ∷ []) every) (all_front P ls l (All-tail P k (ls ++ l ∷ []) every))

-- the lines and the rounds, of lines that are all right
pub record RoundsMade (g : Handlers) (ls : List Numbered) (n : ℕ) (es : List Noted) (t : Stage) : Type 0 where
  pub made : PlanMade g ls n es t
  pub well : All (λ l. IsWell g l.what) ls
  pub servable : AreServable g
  pub waits : WaitsShort g

module _ (g : Handlers) (ls : List Numbered) (es : List Noted) (went : Went) where
  pub rounds_made_of : AreServable g → WaitsShort g → All (λ l. IsWell g l.what) ls → plan_goes g ls es went
      → (before : List Numbered) (line n : ℕ) → (t : Stage)
      → ls ≡ before ++ record { line = line; what = lines.Rounds n } ∷ [] → went ≡ Whole t → RoundsMade g before n es t
  rounds_made_of servable waits well goes before line n t is whole =
      (let last : Numbered = record { line = line; what = lines.Rounds n } in
      record {
        made = plan_made g before line n es t
            (subst (λ (v : Went). plan_goes g (before ++ last ∷ []) es v) whole
            (subst (λ (ks : List Numbered). plan_goes g ks es went) is goes));
        well = all_front (λ l. IsWell g l.what) before last (subst (All (λ l. IsWell g l.what)) is well);
        servable = servable;
        waits = waits;
      })

-- the rounds are behind lines of a driven plan, where the two stages are fair
abbrev pub behind_of : (g : Handlers) (ls : List Numbered) (n : ℕ) (es : List Noted) (t : Stage)
    → (m : RoundsMade g ls n es t) → AreFair g ls m.made.stage t → RoundsBehind g ls n m.made.stage t
behind_of g ls n es t m fair =
    record {
      es = m.made.front;
      goes = m.made.goes;
      fs = m.made.rest;
      rounds_are = m.made.rounds_are;
      well = m.well;
      servable = m.servable;
      waits = m.waits;
      driven = fair.driven;
      distinct = fair.distinct;
      kept = fair.kept;
      open_ = fair.open_;
      early = fair.early;
      replies = fair.replies;
    }
