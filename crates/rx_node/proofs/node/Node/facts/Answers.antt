use Rattle.std.proofs.Common.{◌≡◌, ◌==◌, ◌&&◌, ◌∙◌, ℕ, nat_le, nat_lt, not, option_map, true, ap, rules}
use Rattle.rx_model.specs.Names.{channel_of}
use Rattle.rx_packet.specs.Seen.{body_of}
use Rattle.rx_rules.specs.Judging.{is_data}
use Rattle.rx_rules.specs.Life.{is_active, is_handled, is_live}
use Rattle.rx_node.specs.Lives.{life_of}
use Rattle.rx_node.specs.Node.{NodeState}
use Rattle.rx_node.specs.Steps.{IsChannelAt}
use Rattle.rx_node.proofs.FactsSeen.{holds, holds_call, known_is}
use Rattle.rx_node.proofs.node.Node.facts.Goals as goal

pub returns : goal.returns
returns g c = λ l m.
    (let ch = channel_of c.args.c.now in
    let n : NodeState = c.args.self.now in
    let number : ℕ = c.args.head.now.number in
    let seq : ℕ = c.args.head.now.seq in
    let at : IsChannelAt l c.args.channel ch = c.requires.at l m in
    let known = c.is_some.ensures ∙ known_is g.C.Class.class_of n l ch c.args.channel m at in
    let latest = c.number_on-number.ensures l ch m at in
    let life = c.life_on-life.ensures l ch m at in
    let starts = c.can_start.ensures
    ∙ ap (λ (n : NodeState). is_data (body_of c.args.body.now) && (nat_le 1 seq && nat_le seq n.limits.window))
    c.self.view_is in
    let lives : c.is_some_and.result ≡ holds is_live (option_map life_of c.life_on-life.result) = search rules in
    let acts : c.is_some_and-2.result ≡ holds is_active (option_map life_of c.life_on-life.result) = search rules in
    let works : c.is_some_and-3.result ≡ holds is_handled (option_map life_of c.life_on-life.result) = search rules in
    let alive = lives ∙ holds_call is_live _ _ life in
    let active = acts ∙ holds_call is_active _ _ life in
    let handled = works ∙ holds_call is_handled _ _ life in
    let crowded = ap (λ (n : NodeState). nat_le n.limits.calls n.live) c.self.view_is
    ∙ ap (λ (k : ℕ). nat_le n.limits.calls k) m.live in
    λ i. record {
      is_known = known i;
      has_place = true;
      has_number = not (number == 0);
      stops_all = c.stops_all.ensures i;
      can_start = starts i;
      is_below = nat_lt number (latest i);
      is_above = nat_lt (latest i) number;
      is_live = alive i;
      is_active = active i;
      is_handled = handled i;
      is_crowded = crowded i;
    })
