-- How many calls of a client live, from what a world shows.
use Rattle.std.proofs.Common.{◌≡◌, ◌≤◌, ◌<◌, ◌∙◌, ℕ, zero, suc, List, [], ◌∷◌, IfSome, ap, arith, length}
use Rattle.std.proofs.Common.{slice_get, subst, sym}
use Rattle.std.proofs.lemmas.Option.{slice_get_past}
use Rattle.rx_model.specs.declared.event.Noted.{Noted}
use Rattle.rx_history.specs.Sides.{Node, side}
use Rattle.rx_rules.specs.After.{looks}
use Rattle.rx_rules.specs.Slots.{live}
use Rattle.rx_joint.specs.Nodes.{NodesState, Standing, nodes_of}
use Rattle.rx_load.specs.Loads.{live_at, live_of}
use Rattle.rx_plan.specs.Stages.{Stage}
use Rattle.rx_stage.specs.Shown.{Shows, WorldState}
use Rattle.rx_stage.proofs.Finding.{count_shown}
use Rattle.rx_stage.proofs.Stepping.{nodes_shown}

-- none of a client that isn't among its nodes
pub none_lives : (w : WorldState) (ns : NodesState) (s : Stage) (client : ℕ) → ns ≡ w.nodes → Shows w s
    → length ns.clients < client → 0 ≡ live_at client s
none_lives w ns s client same shown beyond =
    let many = count_shown w s shown in
    let clients = ap (λ (n : NodesState). length n.clients) same in
    let past : length s.nodes ≤ client = omega arith in
    ap (live_of s client) (sym (slice_get_past s.nodes client past))

told_of : (s : Stage) (client lives k : ℕ) (ns : List Node) → k < length ns
    → IfSome (slice_get ns k) (λ n. lives ≡ live (looks n.setup (side client s.history)))
    → lives ≡ live_of s client (slice_get ns k)
told_of s client lives k [] there told = absurd (omega arith)
told_of s client lives zero (n ∷ ns) there told = told
told_of s client lives (suc k) (n ∷ ns) there told = told_of s client lives k ns (omega arith) told

-- of one of them as many as they say
pub lives_told : (w : WorldState) (ns : NodesState) (s : Stage) (client lives : ℕ) → ns ≡ w.nodes → Shows w s
    → client ≤ length ns.clients
    → ((h : List Noted) → Standing ns h
    → IfSome (slice_get (nodes_of ns) client) (λ n. lives ≡ live (looks n.setup (side client h))))
    → lives ≡ live_at client s
lives_told w ns s client lives same shown there told =
    let many = count_shown w s shown in
    let clients = ap (λ (n : NodesState). length n.clients) same in
    let within : client < length s.nodes = omega arith in
    told_of s client lives client s.nodes within
    (subst (λ xs. IfSome (slice_get xs client) (λ n. lives ≡ live (looks n.setup (side client s.history))))
    (ap nodes_of same ∙ sym (nodes_shown w s shown))
    (told s.history (subst (λ n. Standing n s.history) (sym same) shown.standing)))
