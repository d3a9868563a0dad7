-- Of rounds behind which a client's call lives no more, the one in which it ended.
use Rattle.std.proofs.Common.{◌≡◌, ℕ, zero, suc, Bool, true, false, List, Some, refl, ap, sym, ◌∙◌}
use Rattle.std.specs.Prelude.{slice_get}
use Rattle.rx_model.specs.declared.names.CallName.{CallName}
use Rattle.rx_history.specs.Sides.{Node}
use Rattle.rx_jobs.specs.Handlers.{Handlers}
use Rattle.rx_plan.specs.Rounds.{rounds}
use Rattle.rx_plan.specs.Stages.{Stage}
use Rattle.rx_rounds.proofs.Making.{ends_to}
use Rattle.rx_rounds.proofs.Rounded.{Made, RoundMade, RoundsMade, rounds_more}
use Rattle.rx_closing.specs.Living.{call_lives_at}
use Rattle.rx_closing.proofs.Rounds.Chains.{Chain, any_there, chain_more, chain_none, round_adds}

-- the rounds at whose end it lives, the one in which it ended, and those behind
pub record LastLife (g : Handlers) (c : CallName) (k : ℕ) (client : Node) (s t : Stage) : Type 0 where
  pub many : ℕ
  pub last : Stage
  pub behind : Stage
  pub front : Chain g many s last
  pub ends : RoundMade g last behind
  pub lives : call_lives_at last c k client ≡ true
  pub dead : call_lives_at behind c k client ≡ false
  pub left : ℕ
  pub rest : Made (rounds g left) behind t

pub last_life : (g : Handlers) (n : ℕ) (s t : Stage) → Made (rounds g n) s t → (c : CallName) (k : ℕ) (client : Node)
    → slice_get s.nodes k ≡ Some client → call_lives_at s c k client ≡ true → call_lives_at t c k client ≡ false
    → LastLife g c k client s t
last_life g zero s t made c k client there lives dead =
    absurd (let same : t ≡ s = ends_to s t made.0 made.1 in
    let no : ◌≡◌ {A = Bool} true false = sym lives ∙ ap (λ (u : Stage). call_lives_at u c k client) (sym same) ∙ dead in
    cc (no))
last_life g (suc n) s t made c k client there lives dead =
    by (call_lives_at b.behind c k client) refl
    (λ still. last_life g n b.behind t b.others c k client
    (ap (λ (ns : List Node). slice_get ns k) (round_adds g s b.behind b.first).nodes ∙ there) still dead)
  where
    b : RoundsMade g n s t
    b = rounds_more g n s t made.0 (any_there s c k client there lives) made.1

    by : (q : Bool) → call_lives_at b.behind c k client ≡ q
        → (call_lives_at b.behind c k client ≡ true → LastLife g c k client b.behind t) → LastLife g c k client s t
    by true still later =
        (let o = later still in
        record {
          many = suc o.many;
          last = o.last;
          behind = o.behind;
          front = chain_more o.many s b.behind o.last b.first o.front;
          ends = o.ends;
          lives = o.lives;
          dead = o.dead;
          left = o.left;
          rest = o.rest;
        })
    by false gone later =
        record {
          many = 0;
          last = s;
          behind = b.behind;
          front = chain_none s;
          ends = b.first;
          lives = lives;
          dead = gone;
          left = n;
          rest = b.others;
        }
