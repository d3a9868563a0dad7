-- How the lines of a plan went, line by line, where none is refused.
use Rattle.std.proofs.Common.{◌≡◌, ◌≢◌, ℕ, suc, Bool, true, false, List, [], ◌∷◌, refl, ap, sym, subst, ◌∙◌, map, All}
use Rattle.std.proofs.lemmas.List.Elements.{All-cons, All-nil}
use Rattle.rx_model.proofs.NameLaws.{host_is}
use Rattle.rx_model.specs.Names.{same_host}
use Rattle.rx_model.specs.declared.names.Host.{Host}
use Rattle.rx_rules.proofs.EveryLaws.{Every}
use Rattle.rx_model.specs.declared.event.Noted.{Noted}
use Rattle.rx_script.specs.declared.plan.Numbered.{Numbered}
use Rattle.rx_script.specs.declared.plan.PlanLine.{PlanLine}
use Rattle.rx_jobs.specs.Handlers.{Handlers}
use Rattle.rx_plan.specs.Follows.{CutOff, EndlessIn, Goes, Progress, Went, Whole, all, cut, endless, next, next_part}
use Rattle.rx_plan.specs.Follows.{refused}
use Rattle.rx_plan.specs.Lines.{line_part}
use Rattle.rx_plan.specs.Parts.{Refused, Then, To, ends}
use Rattle.rx_plan.specs.Stages.{Stage}
use Rattle.rx_rounds.proofs.Making.{ends_to, then_to}
use Rattle.rx_rounds.proofs.Refusals.Unrefused.{Fine}

-- what holds however a plan was cut off, and behind a line that is made, holds before it
pub goes_step : (g : Handlers) (l : Numbered) (ls : List Numbered) (p : Progress) (es : List Noted) (went : Went)
    (P : Went → Type 0)
    → P CutOff → P EndlessIn → Fine (next_part g l.what p) → Goes g (l ∷ ls) p es went
    → ((q : Progress) (front more : List Noted) → next_part g l.what p front (To q) → Goes g ls q more went → P went)
    → P went
goes_step g l ls p es went P is_cut is_endless fine made behind = of (l ∷ ls) p es went made refl refl behind
  where
    of : (ks : List Numbered) (o : Progress) (es : List Noted) (went : Went) → Goes g ks o es went → ks ≡ l ∷ ls → o ≡ p
        → ((q : Progress) (front more : List Noted) → next_part g l.what p front (To q) → Goes g ls q more went
        → P went) → P went
    of ks o es went (all q) is at behind = absurd cc
    of ks o es went (next k more q r fs hs w made_ others) is at behind =
        let one : k ≡ l = cc (is) in
        let rest : more ≡ ls = cc (is) in
        behind r fs hs
        (subst (λ (z : Progress). next_part g l.what z fs (To r)) at
        (subst (λ (i : Numbered). next_part g i.what q fs (To r)) one made_))
        (subst (λ (ns : List Numbered). Goes g ns r hs w) rest others)
    of ks o es went (refused k more q fs why made_) is at behind =
        let one : k ≡ l = cc (is) in
        absurd (fine fs why
        (subst (λ (z : Progress). next_part g l.what z fs (Refused why)) at
        (subst (λ (i : Numbered). next_part g i.what q fs (Refused why)) one made_)))
    of ks o es went (cut k more q fs made_) is at behind = is_cut
    of ks o es went (endless k more q fs made_) is at behind = is_endless

pub goes_end : (g : Handlers) (p : Progress) (es : List Noted) (went : Went) (P : Went → Type 0) → Goes g [] p es went
    → P (Whole p.stage)
    → P went
goes_end g p es went P made holds = of [] p es went made refl holds
  where
    of : (ks : List Numbered) (o : Progress) (es : List Noted) (went : Went) → Goes g ks o es went → ks ≡ []
        → P (Whole o.stage) → P went
    of ks o es went (all q) is holds = holds
    of ks o es went (next k more q r fs hs w made_ others) is holds = absurd cc
    of ks o es went (refused k more q fs why made_) is holds = absurd cc
    of ks o es went (cut k more q fs made_) is holds = absurd cc
    of ks o es went (endless k more q fs made_) is holds = absurd cc

-- ---- what a line made

pub record ThenLine (g : Handlers) (place : ℕ) (line : PlanLine) (s t : Stage) : Type 0 where
  pub es : List Noted
  pub made : line_part g place line s es (To t)

-- a line that makes no node
pub line_to : (g : Handlers) (place : ℕ) (line : PlanLine) (p q : Progress) (es : List Noted) → place ≡ p.place
    → Then (line_part g p.place line p.stage)
    (λ s. ends (To (record { stage = s; late = true; place = suc p.place }))) es (To q)
    → (t : Stage) × (q ≡ record { stage = t; late = true; place = suc place }) × ThenLine g place line p.stage t
line_to g place line p q es is made =
    let b = then_to (line_part g p.place line p.stage)
    (λ s. ends (To (record { stage = s; late = true; place = suc p.place }))) es q made in (
      b.between,
      ends_to (record { stage = b.between; late = true; place = suc p.place }) q b.rest b.goes
          ∙ ap (λ (n : ℕ). record { stage = b.between; late = true; place = suc n }) (sym is),
      record {
        es = b.front;
        made = subst (λ (n : ℕ). line_part g n line p.stage b.front (To b.between))
            (sym is) b.made;
      },
    )

-- ---- lines of whatever numbers

pub record FirstIs (ls : List Numbered) (w : PlanLine) (ws : List PlanLine) : Type 0 where
  pub number : ℕ
  pub rest : List Numbered
  pub is : ls ≡ record { line = number; what = w } ∷ rest
  pub more : map (λ (l : Numbered). l.what) rest ≡ ws

pub first_is : (ls : List Numbered) (w : PlanLine) (ws : List PlanLine) → map (λ (l : Numbered). l.what) ls ≡ w ∷ ws
    → FirstIs ls w ws
first_is [] w ws same = absurd cc
first_is (l ∷ ls) w ws same =
    let head : l.what ≡ w = cc (same) in
    let tail : map (λ (k : Numbered). k.what) ls ≡ ws = cc (same) in
    record {
      number = l.line;
      rest = ls;
      is = ap (λ (v : PlanLine). record { line = l.line; what = v } ∷ ls) head;
      more = tail;
    }

pub none_is : (ls : List Numbered) → map (λ (l : Numbered). l.what) ls ≡ [] → ls ≡ []
none_is [] same = refl
none_is (l ∷ ls) same = absurd cc

-- ---- what holds of lines

pub all_of : {X : Type 0} (P : X → Type 0) (xs : List X) → Every P xs → All P xs
all_of P [] every = All-nil P
all_of P (x ∷ xs) every = All-cons P x xs every.0 (all_of P xs every.1)

pub unlike : (a b : Host) → a ≢ b → same_host a b ≡ false
unlike a b differ = of (same_host a b) refl
  where
    of : (t : Bool) → same_host a b ≡ t → same_host a b ≡ false
    of true is = absurd (differ (host_is a b is))
    of false is = is
