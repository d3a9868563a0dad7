use Rattle.std.proofs.Common.{◌≡◌, subst, take, rules}
use Rattle.rx_model.specs.declared.answers.WroteGot.TheVariants as writers
use Rattle.rx_model.specs.declared.event.Event.TheVariants as events
use Rattle.rx_events.specs.Events.{written_count}
use Rattle.std.proofs.Common.{length, sym, ap}
use Rattle.rx_joint_peers.specs.Joint.{Makes}
use Rattle.rx_joint_peers.proofs.Standing.{caller_makes}
use Rattle.rx_joint_peers.proofs.joint.JointPeers.write.Goals as goal

pub returns-clause-made : goal.returns-clause-made
returns-clause-made c =
    let bytes : c.of.result ≡ take (written_count c.write-got.result) c.args.offer.now = search rules in
    subst (Makes _ _ _ _)
    (ap (events.Wrote c.args.call.now (length c.args.offer.now) (writers.Client c.write-got.result))
    (sym bytes))
    (caller_makes _ _ _ _ _ c.requires.0 c.peer_mut.ensures.value c.write-got.ensures.answered
    c.write-got.ensures.setup tt)
