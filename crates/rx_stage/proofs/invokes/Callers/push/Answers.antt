use Rattle.std.proofs.Common.{◌≡◌, ◌++◌, ◌∷◌, [], length, rules}
use Rattle.rx_stage.proofs.Done.{left_more}
use Rattle.rx_stage.proofs.invokes.Callers.push.Goals as goal

pub invariant_of-self-else-is_err : goal.invariant_of-self-else-is_err
invariant_of-self-else-is_err c =
    let long : c.len.result ≡ length c.self.inside.all.items = search rules in
    let all : c.push-2.new.self.items ≡ c.self.inside.all.items ++ c.args.invoked ∷ [] = search rules in
    let places : c.push.new.self.items ≡ c.self.inside.at_work.items ++ c.len.result ∷ [] = search rules in
    left_more c.self.inside.all.items c.push-2.new.self.items c.args.invoked c.len.result c.self.inside.at_work.items
    c.push.new.self.items long all places c.self.invariant
