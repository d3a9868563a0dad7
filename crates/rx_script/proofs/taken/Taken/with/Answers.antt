use Rattle.rx_model.specs.Names.{same_host}
use Rattle.rx_script.proofs.LoopLemmas.{cond_or, has_host-push}
use Rattle.rx_script.proofs.taken.Taken.with.Goals as goal

pub invariant_of-result : goal.invariant_of-result
invariant_of-result c host =
    let put = c.in_ok-insert.ensures.updates.0 (host.addr, host.port) in
    let before = c.self.invariant host in
    rw (c.in_ok-push.ensures.items, has_host-push c.self.inside.hosts.items c.args.host host, put, before)
    (cond_or (same_host c.args.host host) _)
