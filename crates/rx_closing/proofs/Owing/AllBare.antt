-- In rounds through which no member comes further no node owes anything but streams, from the second of them on.
use Rattle.std.proofs.Common.{◌≡◌, ℕ, zero, suc, List, [], Some, refl, subst, arith}
use Rattle.std.specs.Prelude.{slice_get}
use Rattle.rx_history.specs.Sides.{Node}
use Rattle.rx_script.specs.declared.plan.Numbered.{Numbered}
use Rattle.rx_jobs.specs.Handlers.{Handlers}
use Rattle.rx_plan.specs.Stages.{Stage}
use Rattle.rx_rounds.proofs.Rounded.{RoundMade}
use Rattle.rx_closing.specs.Living.{looks_of}
use Rattle.rx_closing.proofs.Owing.AreStill.{AreStill}
use Rattle.rx_closing.proofs.Owing.BareRound.{AbortEnds, AbortStops, AckAllStops, bare_round}
use Rattle.rx_closing.proofs.Owing.OwesNone.{OwesNone}
use Rattle.rx_closing.proofs.Rounds.Chains.{Chain, chain_more, chain_none, chain_split}
use Rattle.rx_closing.proofs.Together.Members.{AllHere, Member}

-- ---- the ends of a chain

-- its first round
pub record FirstOf (g : Handlers) (n : ℕ) (s t : Stage) : Type 0 where
  pub middle : Stage
  pub made : RoundMade g s middle
  pub rest : Chain g n middle t

-- a chain has a first round
pub first_of : (g : Handlers) (n : ℕ) (s t : Stage) → Chain g (suc n) s t → FirstOf g n s t
first_of g n s t (chain_more m x v z made rest) = record { middle = v; made = made; rest = rest }

pub none_of : (g : Handlers) (s t : Stage) → Chain g zero s t → s ≡ t
none_of g s t (chain_none z) = refl

-- its last one
pub record LastOf (g : Handlers) (n : ℕ) (s t : Stage) : Type 0 where
  pub middle : Stage
  pub front : Chain g n s middle
  pub made : RoundMade g middle t

-- and a last one
pub last_of : (g : Handlers) (n : ℕ) (s t : Stage) → Chain g (suc n) s t → LastOf g n s t
last_of g n s t chain =
    (let p = chain_split g n 1 (suc n) s t (omega arith) chain in
    let f = first_of g zero p.middle t p.rest in
    record {
      middle = p.middle;
      front = p.front;
      made = subst (λ (u : Stage). RoundMade g p.middle u) (none_of g f.middle t f.rest) f.made;
    })

-- ---- rounds in which none comes further

-- in each of these rounds none comes further
abbrev pub StandsIn : Handlers → Node → List Member → Stage → Stage → Type 0
StandsIn g server ms s u =
    (i j : ℕ) (v w : Stage) → Chain g i s v → RoundMade g v w → Chain g j w u → AreStill server ms v w

-- at each stage of them all members are there
abbrev pub HereIn : Handlers → List Numbered → Node → List Member → Stage → Stage → Type 0
HereIn g ls server ms s u = (i j : ℕ) (v : Stage) → Chain g i s v → Chain g j v u → AllHere g ls server ms v

-- and no node owes a stray abort
abbrev pub StraylessIn : Handlers → Stage → Stage → Type 0
StraylessIn g s u =
    (i j : ℕ) (v : Stage) → Chain g i s v → Chain g j v u → (k : ℕ) (n : Node) → slice_get v.nodes k ≡ Some n
    → (looks_of v k n).strays ≡ []

module _ (abort_ends : AbortEnds) (abort_stops : AbortStops) (ackall_stops : AckAllStops) (g : Handlers)
    (ls : List Numbered) (server : Node) (ms : List Member) (s u : Stage) (stands : StandsIn g server ms s u)
    (here : HereIn g ls server ms s u) (strays : StraylessIn g s u) where
  -- where one of the rounds lies before the stage, and one behind it
  pub bare_between : (i j : ℕ) (v : Stage) → Chain g (suc i) s v → Chain g (suc j) v u → (k : ℕ) (n : Node)
      → slice_get v.nodes k ≡ Some n → OwesNone (looks_of v k n)
  bare_between i j v front rest =
      bare_round abort_ends abort_stops ackall_stops server ms g a.middle v b.middle
      (stands i (suc j) a.middle v a.front a.made rest) a.made (stands (suc i) j v b.middle front b.made b.rest) b.made
      all.linked all.links (strays (suc i) (suc j) v front rest)
    where
      a : LastOf g i s v
      a = last_of g i s v front

      b : FirstOf g j v u
      b = first_of g j v u rest

      all : AllHere g ls server ms v
      all = here (suc i) (suc j) v front rest
