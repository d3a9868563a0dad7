-- The one call that lives as rounds begin lives on behind none that close it, and dies heard in none in which it's
-- found dead only in silence.
use Rattle.std.proofs.Common.{◌≡◌, ℕ, suc, true, false, length, ap, Some, IsSomeAnd, slice_get}
use Rattle.rx_model.specs.declared.answers.End.TheVariants as ends
use Rattle.rx_model.specs.declared.answers.Took.TheVariants as tooks
use Rattle.rx_history.specs.Sides.{Node}
use Rattle.rx_history.specs.Streams.{end_at}
use Rattle.rx_law.proofs.World.{if-some}
use Rattle.rx_plan.specs.Promises.{plan_nodes}
use Rattle.rx_closing.specs.Living.{call_lives_at, looks_of}
use Rattle.rx_closing.specs.Silence.{CameAmong, is_hearing}
use Rattle.rx_closing.specs.Left.{NoneDiesHeard, NoneLivesOn}

pub none_lives_on : NoneLivesOn
none_lives_on g ls n s t closes fair c one enough left =
    let k : ℕ = suc left.client in
    let closed = if-some (slice_get s.nodes k) left.node
    (λ (m : Node). call_lives_at s c k m ≡ true → call_lives_at t c k m ≡ false) left.there
    (closes fair c one enough left.client) left.lived in
    cc (closed, left.lives)

pub none_dies_heard : NoneDiesHeard
none_dies_heard g ls s es t silent fair c one left =
    let k : ℕ = suc left.client in
    left.placed
    (if-some (slice_get (plan_nodes ls) k) left.node
    (λ (m : Node). call_lives_at s c k m ≡ true → end_at (looks_of t k m) c ≡ Some (ends.Dead left.silence)
    → CameAmong k m.setup (λ got. is_hearing got ≡ true) c es
    → IsSomeAnd (slice_get (plan_nodes ls) 0) (λ server. CameAmong 0 server.setup (λ got. got ≡ tooks.Full) c es))
    left.there (silent fair c (ap length one) left.client left.silence) left.lived left.dead left.heard)
