use Rattle.std.proofs.Common.{ap}
use Rattle.rx_drive.specs.Tells.{Ways}
use Rattle.std.proofs.Common.{◌≡◌, ◌∙◌, false, refl, rules, true}
use Rattle.rx_drive.proofs.PollLaws.{AreLaws, endless_polled, ends_once, more_once, none_yet, over_once}
use Rattle.rx_drive.proofs.polls.poll_out.Goals as goal
use Rattle.rx_drive.proofs.polls.poll_out.Given as given

-- the laws of the carrier
laws : (g : given.Over) → AreLaws (record {
  carried = g.K.Carrier.carried;
  some = g.K.Carrier.some;
  lost = g.K.Carrier.lost;
})
laws g = record {
  none = g.met.K.Carrier.none;
  both = g.met.K.Carrier.both;
  less = g.met.K.Carrier.less;
  less_one = g.met.K.Carrier.less_one;
  lost_behind = g.met.K.Carrier.lost_behind;
}

pub polls-init : goal.polls-init
polls-init g c = record {
  going = λ h stands. none_yet _ _ c.args.number _ (laws g) h c.args.carrier.now _ _ stands;
  can = c.requires.can;
  names = refl;
  setup = refl;
  ways = refl;
}

pub returns-in_err-poll_once-clause-polls : goal.returns-in_err-poll_once-clause-polls
returns-in_err-poll_once-clause-polls g c =
    λ h stands. ends_once _ _ c.args.number _ (laws g) h c.args.carrier.now c.polls.carrier c.polls.made _ _ _
    (c.polls.invariant.going h stands) _ _ c.poll_once.new.carrier _ _ _ c.polls.invariant.setup
    (ap (λ (w : Ways). w.line) c.polls.invariant.ways) c.in_err-poll_once.field-0.0 c.from_residual.result
    c.in_err-poll_once.ensures.polls
    c.from_residual.ensures

pub returns-then-not-branch-clause-polls : goal.returns-then-not-branch-clause-polls
returns-then-not-branch-clause-polls g c =
    let off : c.in_ok-poll_once.field-0 ≡ false = search rules in
    λ h stands. over_once _ _ c.args.number _ (laws g) h c.args.carrier.now c.polls.carrier c.polls.made _ _ _
    (c.polls.invariant.going h stands) _ _ c.poll_once.new.carrier _ _ c.polls.invariant.setup (ap (λ
    (w : Ways). w.line) c.polls.invariant.ways)
    c.in_ok-poll_once.field-0 off c.in_ok-poll_once.ensures.polls

pub polls-preserved : goal.polls-preserved
polls-preserved g c =
    let on : c.in_ok-poll_once.field-0 ≡ true = search rules in
    record {
      going = λ h stands. more_once _ _ c.args.number _ (laws g) h c.args.carrier.now c.polls.carrier c.polls.made _ _ _
          (c.polls.invariant.going h stands) _ _ c.poll_once.new.carrier _ _ c.polls.invariant.setup
          (ap (λ (w : Ways). w.line) c.polls.invariant.ways) c.in_ok-poll_once.field-0 on
          c.in_ok-poll_once.ensures.polls;
      can = c.poll_once.ensures.can;
      names = c.poll_once.ensures.names ∙ c.polls.invariant.names;
      setup = c.poll_once.ensures.setup ∙ c.polls.invariant.setup;
      ways = c.poll_once.ensures.ways ∙ c.polls.invariant.ways;
    }

pub returns-clause-polls : goal.returns-clause-polls
returns-clause-polls g c =
    λ h stands. endless_polled _ _ c.args.number _ (laws g) h c.args.carrier.now c.polls.carrier c.polls.made _ _ _
    (c.polls.invariant.going h stands) _ c.polls-test.false
