-- Each call that counts among those that live at any node lives at some node.
use Rattle.std.proofs.Common.{◌≡◌, ◌+◌, not, ℕ, zero, suc, true, List, Some, ap, subst, ◌∙◌, arith, filter}
use Rattle.std.specs.Prelude.{slice_get}
use Rattle.rx_model.specs.declared.names.CallName.{CallName}
use Rattle.rx_rules.specs.Life.{is_live}
use Rattle.rx_rules.specs.Looks.{CallRecord, call_at}
use Rattle.rx_rules.specs.Rules.{Legal}
use Rattle.rx_history.proofs.Suffice.{roomy_history}
use Rattle.rx_history.specs.Sides.{Node, side}
use Rattle.rx_events.specs.Waits.{over_nodes}
use Rattle.rx_law.proofs.World.{if-some}
use Rattle.rx_law.specs.Worlds.{World}
use Rattle.rx_plan.specs.Stages.{Stage}
use Rattle.rx_between.proofs.Each.EachItem.{In}
use Rattle.rx_rounds.proofs.Clocks.GivesOrMoves.{over_of}
use Rattle.rx_closing.specs.Living.{all_live, is_served, live_names, looks_of, new_names}
use Rattle.rx_closing.proofs.Living.InLists.{found_named, in_filter_back, in_joined_back, in_map_back}

-- a node at which a call lives
pub record LivesAt (s : Stage) (c : CallName) : Type 0 where
  pub index : ℕ
  pub node : Node
  pub there : slice_get s.nodes index ≡ Some node
  pub call : CallRecord
  pub call_is : call_at (looks_of s index node) c ≡ Some call
  pub living : is_live call.life ≡ true

new_live : (s : Stage) (j : ℕ) (n : Node) (c : CallName) → In c (new_names s j n) → In c (live_names s j n)
new_live s zero n c inside = inside
new_live s (suc k) n c inside =
    (in_filter_back (λ (d : CallName). not (is_served s d)) c (live_names s (suc k) n) inside).0

live_at : (s : Stage) (j : ℕ) (n : Node) (c : CallName) → World s.nodes s.history → slice_get s.nodes j ≡ Some n
    → In c (live_names s j n) → LivesAt s c
live_at s j n c w there inside =
    (let r =
    in_map_back (λ (k : CallRecord). k.name) c
    (filter (λ (k : CallRecord). is_live k.life) (looks_of s j n).calls) inside in
    let q = in_filter_back (λ (k : CallRecord). is_live k.life) r.it (looks_of s j n).calls r.inside in
    let legal = if-some (slice_get s.nodes j) n (λ m. Legal m.setup (side j s.history)) there (w.sides.legal j) in
    record {
      index = j;
      node = n;
      there = there;
      call = r.it;
      call_is = ap (call_at (looks_of s j n)) r.is
          ∙ found_named (looks_of s j n).calls r.it (roomy_history n.setup (side j s.history) legal).differ q.0;
      living = q.1;
    })

pub lives_there : (s : Stage) (c : CallName) → World s.nodes s.history → In c (all_live s) → LivesAt s c
lives_there s c w inside =
    (let j = in_joined_back c (over_nodes (new_names s) 0 s.nodes) inside in
    let n = over_of (new_names s) 0 s.nodes j.names j.among in
    let at : 0 + n.place ≡ n.place = omega arith in
    live_at s n.place n.node c w n.there
    (new_live s n.place n.node c (subst (λ (i : ℕ). In c (new_names s i n.node)) at
    (subst (λ (cs : List CallName). In c cs) n.is j.inside))))
