use Rattle.std.proofs.Common.{◌≡◌, ◌∙◌, ◌≤◌, ◌-◌, ◌^◌, Some, None, true, false, refl, rules}
use Rattle.rx_wire_loop.proofs.Polling.{Anyhow, flush_plays, polls_endless, polls_ends, polls_none, polls_so}
use Rattle.rx_wire_loop.proofs.Polling.{polls_step}
use Rattle.rx_wire_loop.proofs.Polling.{polls_unflushed, polls_whole}
use Rattle.rx_wire_loop.proofs.Running.{behind_made, stopped}
use Rattle.rx_drive.specs.Ran.{stop_of}
use Rattle.rx_wire_loop.specs.Tells.{sink_tells}
use Rattle.rx_wire_loop.proofs.ports.Ports.give_due.Goals as goal

pub polls-init : goal.polls-init
polls-init g c = record {
  plays = λ sink. polls_none c.args.self.now.node _
      _ _ c.args.self.now.joiner c.requires.empty;
  most = refl;
  number = refl;
  setup = refl;
}

pub poll_once-requires-clause-behind : goal.poll_once-requires-clause-behind
poll_once-requires-clause-behind g c =
    behind_made c.args.self.now.node (g.N.Endpoint.setup c.args.node.now) (g.N.Endpoint.setup c.polls.node) _ _ _ _
    (polls_so c.args.self.now.joiner.most c.polls.self.joiner c.polls.given) Anyhow c.polls.invariant.setup
    c.requires.behind (c.polls.invariant.plays (sink_tells None 0))

pub returns-in_err-poll_once-clause-plays : goal.returns-in_err-poll_once-clause-plays
returns-in_err-poll_once-clause-plays g c =
    λ sink. rw (stopped c.from_residual.result c.in_err-poll_once.field-0.0 c.from_residual.ensures.1)
    (polls_ends c.args.self.now.node c.polls.self.node _ _ _ _ _ _ _ _ c.args.self.now.joiner.most c.polls.self.joiner
    c.poll_once.new.self.joiner c.polls.given c.polls.invariant.number c.polls.invariant.setup c.polls.invariant.most
    c.in_err-poll_once.field-0.0 _ (c.polls.invariant.plays sink) (c.in_err-poll_once.ensures.plays sink))

pub returns-then-not-branch-clause-plays : goal.returns-then-not-branch-clause-plays
returns-then-not-branch-clause-plays g c =
    let off : c.in_ok-poll_once.field-0 ≡ false = search rules in
    λ sink. polls_whole c.args.self.now.node c.polls.self.node _ _ _ _ _ _ _ _ sink _ _ c.args.self.now.joiner.most
    c.polls.self.joiner c.poll_once.new.self.joiner c.flush.new.self.joiner c.polls.given c.polls.invariant.number
    c.polls.invariant.setup c.polls.invariant.most (c.poll_once.ensures.most ∙ c.polls.invariant.most)
    c.in_ok-poll_once.field-0 off (stop_of c.flush.result) (c.polls.invariant.plays sink)
    (c.in_ok-poll_once.ensures.plays sink) c.flush.ensures.empties

pub polls-preserved : goal.polls-preserved
polls-preserved g c =
    let on : c.in_ok-poll_once.field-0 ≡ true = search rules in
    record {
      plays = λ sink. polls_step c.args.self.now.node c.polls.self.node _
          _ _ _ _ _ _ _ c.args.self.now.joiner.most c.polls.self.joiner c.poll_once.new.self.joiner c.polls.given
          c.polls.invariant.number c.polls.invariant.setup c.polls.invariant.most c.in_ok-poll_once.field-0 on
          c.poll_once.ensures.within (c.poll_once.ensures.most ∙ c.polls.invariant.most) (c.polls.invariant.plays sink)
          (c.in_ok-poll_once.ensures.plays sink);
      most = c.poll_once.ensures.most ∙ c.polls.invariant.most;
      number = c.poll_once.ensures.node ∙ c.polls.invariant.number;
      setup = c.poll_once.ensures.setup ∙ c.polls.invariant.setup;
    }

pub returns-in_err-flush-clause-plays : goal.returns-in_err-flush-clause-plays
returns-in_err-flush-clause-plays g c =
    let many : 2 ^ 64 - 1 ≤ c.polls.given = search rules in
    λ sink. rw (stopped c.from_residual-in_err-flush.result c.in_err-flush.field-0.0
    c.from_residual-in_err-flush.ensures.1)
    (polls_unflushed c.args.self.now.node _ _ _ _ _ _ _ c.args.self.now.joiner.most c.polls.self.joiner c.polls.given
    c.polls.invariant.most many c.in_err-flush.field-0.0 (c.polls.invariant.plays sink)
    (flush_plays c.args.self.now.node _ _ _ sink _ _ c.polls.self.joiner c.flush-2.new.self.joiner
    (Some c.in_err-flush.field-0.0) c.in_err-flush.ensures.empties))

pub returns-clause-plays : goal.returns-clause-plays
returns-clause-plays g c =
    let many : 2 ^ 64 - 1 ≤ c.polls.given = search rules in
    λ sink. polls_endless c.args.self.now.node _ _ _ _ _ _ _ c.args.self.now.joiner.most c.polls.self.joiner
    c.polls.given c.polls.invariant.most many (c.polls.invariant.plays sink)
    (flush_plays c.args.self.now.node _ _ _ sink _ _ c.polls.self.joiner c.flush-2.new.self.joiner None
    c.in_ok-flush.ensures.empties)
