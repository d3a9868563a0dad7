use Rattle.std.proofs.Common.{◌≡◌, ap, rules, subst}
use Rattle.rx_drive.specs.Ran.{stop_of}
use Rattle.rx_drive.specs.Tells.{Ways}
use Rattle.rx_node.specs.Node.{setup_of}
use Rattle.rx_node.specs.Steps.{StandsNode}
use Rattle.rx_wire_loop.specs.Calls.{calls}
use Rattle.rx_wire_loop.specs.Runs.{Plays, change}
use Rattle.rx_wire_loop.specs.Tells.{told}
use Rattle.rx_wire_loop.proofs.Callings.{call_driven}
use Rattle.rx_wire_loop.proofs.calling.CallingNode.turn.Goals as goal

pub returns-clause-plays : goal.returns-clause-plays
returns-clause-plays g c =
    let names = ap (λ (w : Ways). w.names) c.call_turn.ensures.ways in
    let same : c.call_turn.new.outside.book.now ≡ c.book-1.given.0 = search rules in
    λ sink wire. subst (λ b. Plays (change 1 (setup_of g.C.Class.class_of c.args.self.now.client)
    (StandsNode g.C.Class.class_of c.args.self.now.client) (StandsNode g.C.Class.class_of c.call_turn.new.client)
    (told (g.J.Journal.told c.args.book.now) sink wire) (told (g.J.Journal.told b) sink wire))
    (calls c.args.self.now.caller) (λ v. v ≡ c.call_turn.new.caller) (stop_of c.call_turn.result)) same
    (call_driven (setup_of g.C.Class.class_of c.args.self.now.client) c.args.self.now.caller
    c.call_turn.new.caller (StandsNode g.C.Class.class_of c.args.self.now.client)
    (StandsNode g.C.Class.class_of c.call_turn.new.client) _ _ wire sink (stop_of c.call_turn.result)
    c.offers_few.ensures c.call_turn.ensures.turned)
