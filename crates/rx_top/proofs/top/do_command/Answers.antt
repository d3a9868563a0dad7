use Rattle.rx_top.proofs.top.do_command.Goals as goal

pub returns-in-Serve-clause-leaves : goal.returns-in-Serve-clause-leaves
returns-in-Serve-clause-leaves g c =
    rw c.in-Serve.is (rw c.serving_of.ensures at c.do_serve.ensures.serve)

pub returns-in-Call-clause-leaves : goal.returns-in-Call-clause-leaves
returns-in-Call-clause-leaves g c = rw c.in-Call.is (rw c.calling_of.ensures at c.do_call.ensures.call)

pub returns-in-Load-clause-leaves : goal.returns-in-Load-clause-leaves
returns-in-Load-clause-leaves g c = rw c.in-Load.is c.do_load.ensures.load
