use Rattle.std.proofs.Common.{◌≡◌, ◌∙◌, List, ℕ, subst, take, length, sym, ap, arith}
use Rattle.rx_model.specs.declared.answers.ReadGot.TheVariants as readers
use Rattle.rx_model.specs.declared.event.Event.TheVariants as events
use Rattle.rx_client.specs.Client.{read_count}
use Rattle.std.proofs.lemmas.Grind.{common_steps}
use Rattle.rx_joint_peers.specs.Joint.{Makes}
use Rattle.rx_joint_peers.proofs.Standing.{caller_makes}
use Rattle.rx_joint_peers.proofs.joint.JointPeers.read.Goals as goal

pub returns-clause-made : goal.returns-clause-made
returns-clause-made c =
    let bytes : c.of.result ≡ take (read_count c.read-got.result) c.read-got.new.to = grind (arith, common_steps) in
    let room : c.args.max ≡ length c.deref_mut.result.now = grind (arith, common_steps) in
    subst (Makes _ _ _ _)
    (ap (λ (xs : List ℕ). events.HasRead c.args.call.now (length c.deref_mut.result.now)
    (readers.Client c.read-got.result) xs) (sym bytes)
    ∙ ap (λ (n : ℕ). events.HasRead c.args.call.now n (readers.Client c.read-got.result) c.of.result) (sym room))
    (caller_makes _ _ _ _ _ c.requires.there.0 c.peer_mut.ensures.value c.read-got.ensures.answered
    c.read-got.ensures.setup tt)
