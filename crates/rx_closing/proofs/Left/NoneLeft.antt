-- Of the calls that live as rounds begin none lives on behind rounds that close all, and none dies heard in rounds in
-- which all are found dead only in silence.
use Rattle.std.proofs.Common.{◌≡◌, ℕ, suc, true, false, Some, IsSomeAnd, slice_get}
use Rattle.rx_model.specs.declared.answers.End.TheVariants as ends
use Rattle.rx_model.specs.declared.answers.Took.TheVariants as tooks
use Rattle.rx_history.specs.Sides.{Node}
use Rattle.rx_history.specs.Streams.{end_at}
use Rattle.rx_law.proofs.World.{if-some}
use Rattle.rx_plan.specs.Promises.{plan_nodes}
use Rattle.rx_closing.specs.Living.{call_lives_at, looks_of}
use Rattle.rx_closing.specs.Silence.{CameAmong, is_hearing}
use Rattle.rx_closing.specs.LeftAll.{NoneOfAllDiesHeard, NoneOfAllLivesOn}

pub none_of_all_lives_on : NoneOfAllLivesOn
none_of_all_lives_on g ls n s t closes fair room enough c left =
    let k : ℕ = suc left.client in
    let closed = if-some (slice_get s.nodes k) left.node
    (λ (m : Node). call_lives_at s c k m ≡ true → call_lives_at t c k m ≡ false) left.there
    (closes fair room enough c left.client) left.lived in
    cc (closed, left.lives)

pub none_of_all_dies_heard : NoneOfAllDiesHeard
none_of_all_dies_heard g ls s es t silent fair room c left =
    let k : ℕ = suc left.client in
    left.placed
    (if-some (slice_get (plan_nodes ls) k) left.node
    (λ (m : Node). call_lives_at s c k m ≡ true → end_at (looks_of t k m) c ≡ Some (ends.Dead left.silence)
    → CameAmong k m.setup (λ got. is_hearing got ≡ true) c es
    → IsSomeAnd (slice_get (plan_nodes ls) 0) (λ server. CameAmong 0 server.setup (λ got. got ≡ tooks.Full) c es))
    left.there (silent fair room c left.client left.silence) left.lived left.dead left.heard)
