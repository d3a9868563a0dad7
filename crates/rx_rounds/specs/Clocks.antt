-- The clocks of rounds in which nothing is given. Public clauses cite this module.
use Rattle.std.specs.Prelude.{◌≡◌, ◌≢◌, ◌⊎◌, ◌<◌, ◌+◌, ℕ, Bool, true, List, [], length, Some, None, slice_get}
use Rattle.std.specs.Prelude.{IsSomeAnd}
use Rattle.std.specs.List.{list_any}
use Rattle.rx_model.specs.declared.event.Noted.{Noted}
use Rattle.rx_rules.specs.After.{looks}
use Rattle.rx_rules.specs.Items.{due, poll_answer}
use Rattle.rx_rules.specs.Looks.{Looks}
use Rattle.rx_rules.specs.Records.{is_silent, silenced}
use Rattle.rx_rules.specs.Setup.{Setup}
use Rattle.rx_history.specs.Sides.{moment, side}
use Rattle.rx_events.specs.Waits.{least_wait}
use Rattle.rx_plan.specs.Parts.{To}
use Rattle.rx_plan.specs.Rounds.{Polled, may_move, polls, settles}
use Rattle.rx_plan.specs.Stages.{Stage}

-- the moment of each node is later by so much, and nothing else that a history says of it changed, nor anything else
pub record MovesOn (time : ℕ) (s t : Stage) : Type 0 where
  pub nodes : (k : ℕ) (setup : Setup) → k < length s.nodes
      → looks setup (side k t.history) ≡ record (looks setup (side k s.history)) { now = moment k s.history + time }
  pub rest : t ≡ record s { history = t.history }

-- some call of a node is silent
abbrev pub has_silent : Looks → Bool
has_silent l = list_any (is_silent l.now) l.calls

-- one of some node is
abbrev pub SomeSilent : Stage → Type 0
SomeSilent s =
    (k : ℕ) × IsSomeAnd (slice_get s.nodes k) (λ n. has_silent (looks n.setup (side k s.history)) ≡ true)

-- where nothing was given in a round, and something is due at some node in so much time, all clocks move on by that,
-- unless one would reach 2^62
abbrev pub QuietMoves : Type 0
QuietMoves =
    (s t : Stage) (es : List Noted) (time : ℕ) → s.nodes ≢ [] → least_wait s.nodes s.history ≡ Some time
    → may_move time s ≡ true → settles true s es (To t) → MovesOn time s t

-- where something is due at once, the polls of the next round give something, or a call is silent
abbrev pub DueGives : Type 0
DueGives =
    (s : Stage) (p : Polled) (es : List Noted) → s.nodes ≢ [] → least_wait s.nodes s.history ≡ Some 0
    → polls s es (To p) → (p.given ≢ []) ⊎ SomeSilent s

-- a poll of any node that gives nothing leaves nothing that is due at once
abbrev pub PolledLater : Type 0
PolledLater =
    (s : Setup) (l : Looks) (moment : ℕ) → poll_answer s l ≡ None → due s (silenced l) ≡ Some moment → l.now < moment
