use Rattle.std.proofs.Common.{◌≡◌, ◌<◌, ◌≤◌, ℕ, Ok, Err, None, Some, refl, ◌∙◌, ap, sym, subst, arith}
use Rattle.std.specs.Prelude.{slice_get}
use Rattle.rx_model.specs.declared.answers.CallRefused.TheVariants as crowds
use Rattle.rx_model.specs.declared.event.Event.TheVariants as events
use Rattle.rx_model.specs.Names.{Channel, channels_of, connection_of}
use Rattle.rx_rules.specs.Looks.{ConnLooks, Looks, channel_at}
use Rattle.rx_rules.specs.Rules.{next_number}
use Rattle.rx_rules.specs.Setup.{Client}
use Rattle.rx_table.specs.Records.{place_of}
use Rattle.rx_node.specs.Mirrors.{IsChannel, Mirrors}
use Rattle.rx_node.specs.Node.{NodeState, setup_of}
use Rattle.rx_node.specs.Steps.{AnswersNode}
use Rattle.rx_node.proofs.KeptKeys.{kept_setup}
use Rattle.rx_client.specs.Calling.{HasNoneOpen, IsFirstOpen}
use Rattle.rx_client.proofs.Answering.{calling_on}
use Rattle.rx_client.proofs.StartedCalls.{called_none, called_some, no_room, none_opens, unknown_cid}
use Rattle.rx_client.proofs.client.Client.call.Goals as goal

pub returns-in_default-clause-answered : goal.returns-in_default-clause-answered
returns-in_default-clause-answered g c =
    let n = c.self.inside.node in
    let name = c.name-c.result in
    let kind : n.kind ≡ Client name.host name.epoch =
    subst (λ (s : NodeState). s.kind ≡ Client name.host name.epoch) (sym c.self.view_is) c.name-c.ensures.kind in
    let found : place_of n.table (connection_of name) ≡ None =
    sym {b = place_of n.table (connection_of name)} c.place.ensures.found ∙ c.in_default.is in
    rw (← c.self.view_is)
    (subst (λ (cid : ℕ). AnswersNode g.C.Class.class_of n n (events.Called cid (Err crowds.NoConn)))
    c.name-c.ensures.cid
    (called_none g.C.Class.class_of n name.host name.epoch kind name.cid crowds.NoConn
    (unknown_cid g.C.Class.class_of n name.host name.epoch kind name refl found)))

pub returns-in-Err-clause-answered : goal.returns-in-Err-clause-answered
returns-in-Err-clause-answered g c =
    let n = c.self.inside.node in
    let name = c.name-c.result in
    let place = c.in-Some.place in
    let kind : n.kind ≡ Client name.host name.epoch =
    subst (λ (s : NodeState). s.kind ≡ Client name.host name.epoch) (sym c.self.view_is) c.name-c.ensures.kind in
    let found : place_of n.table (connection_of name) ≡ Some place =
    sym {b = place_of n.table (connection_of name)} c.place.ensures.found ∙ c.in-Some.is in
    let none = subst (λ (s : NodeState). (l : Looks) (x : ConnLooks) → Mirrors g.C.Class.class_of s l
    → slice_get l.conns place ≡ Some x → HasNoneOpen l (channels_of x.connection) c.in-Err.refused) (sym c.self.view_is)
    (λ l x m there. c.open_channel.ensures.refused l x c.in-Err.refused m there c.in-Err.is) in
    rw (← c.self.view_is)
    (subst (λ (cid : ℕ). AnswersNode g.C.Class.class_of n n (events.Called cid (Err c.in-Err.refused)))
    c.name-c.ensures.cid
    (called_none g.C.Class.class_of n name.host name.epoch kind name.cid c.in-Err.refused
    (none_opens g.C.Class.class_of n name.host name.epoch kind name refl place found c.in-Err.refused none)))

pub returns-then-live-limits-clause-answered : goal.returns-then-live-limits-clause-answered
returns-then-live-limits-clause-answered g c =
    let n = c.self.inside.node in
    let name = c.name-c.result in
    let place = c.in-Some.place in
    let kind : n.kind ≡ Client name.host name.epoch =
    subst (λ (s : NodeState). s.kind ≡ Client name.host name.epoch) (sym c.self.view_is) c.name-c.ensures.kind in
    let found : place_of n.table (connection_of name) ≡ Some place =
    sym {b = place_of n.table (connection_of name)} c.place.ensures.found ∙ c.in-Some.is in
    let opens = subst (λ (s : NodeState). (l : Looks) (x : ConnLooks) → Mirrors g.C.Class.class_of s l
    → slice_get l.conns place ≡ Some x → IsFirstOpen l x c.in-Ok.key) (sym c.self.view_is) c.in-Ok.ensures.first in
    let full : n.limits.calls ≤ n.live =
    omega (arith, c.if-live-limits.true, c.live.ensures, ap (λ l. l.calls) c.limits.ensures) in
    rw (← c.self.view_is)
    (subst (λ (cid : ℕ). AnswersNode g.C.Class.class_of n n (events.Called cid (Err crowds.NoRoom)))
    c.name-c.ensures.cid
    (called_none g.C.Class.class_of n name.host name.epoch kind name.cid crowds.NoRoom
    (no_room g.C.Class.class_of n name.host name.epoch kind name refl place found c.in-Ok.key opens full)))

pub invariant_of-self : goal.invariant_of-self
invariant_of-self g c =
    let n = c.self.inside.node in
    let new = c.start.new.self in
    let name = c.name-c.result in
    let place = c.in-Some.place in
    let key = c.in-Ok.key in
    let number = c.next_number-number.result in
    let same : setup_of g.C.Class.class_of new ≡ setup_of g.C.Class.class_of n =
    kept_setup g.C.Class.class_of n new c.start.ensures.same in
    let kind : n.kind ≡ Client name.host name.epoch =
    subst (λ (s : NodeState). s.kind ≡ Client name.host name.epoch) (sym c.self.view_is) c.name-c.ensures.kind in
    let found : place_of n.table (connection_of name) ≡ Some place =
    sym {b = place_of n.table (connection_of name)} c.place.ensures.found ∙ c.in-Some.is in
    let opens = subst (λ (s : NodeState). (l : Looks) (x : ConnLooks) → Mirrors g.C.Class.class_of s l
    → slice_get l.conns place ≡ Some x → IsFirstOpen l x key) (sym c.self.view_is) c.in-Ok.ensures.first in
    let numbered = subst (λ (s : NodeState). (l : Looks) (x : ConnLooks) (ch : Channel) → Mirrors g.C.Class.class_of s l
    → slice_get l.conns place ≡ Some x → IsChannel l key ch → number ≡ next_number x.first (channel_at l ch).number)
    (sym c.self.view_is) c.next_number-number.ensures.exact in
    let room : n.live < n.limits.calls =
    omega (arith, c.if-live-limits.false, c.live.ensures, ap (λ l. l.calls) c.limits.ensures) in
    let i = c.self.invariant in (
      calling_on g.C.Class.class_of n new _ same
          (called_some g.C.Class.class_of n name.host name.epoch kind name refl place found key opens
          room number numbered
          new same c.latest.result c.start.ensures.steps c.latest.ensures) i.0,
      c.start.ensures.same.kind ∙ i.1,
    )

pub returns-clause-answered : goal.returns-clause-answered
returns-clause-answered g c =
    let n = c.self.inside.node in
    let new = c.start.new.self in
    let name = c.name-c.result in
    let place = c.in-Some.place in
    let key = c.in-Ok.key in
    let number = c.next_number-number.result in
    let same : setup_of g.C.Class.class_of new ≡ setup_of g.C.Class.class_of n =
    kept_setup g.C.Class.class_of n new c.start.ensures.same in
    let kind : n.kind ≡ Client name.host name.epoch =
    subst (λ (s : NodeState). s.kind ≡ Client name.host name.epoch) (sym c.self.view_is) c.name-c.ensures.kind in
    let found : place_of n.table (connection_of name) ≡ Some place =
    sym {b = place_of n.table (connection_of name)} c.place.ensures.found ∙ c.in-Some.is in
    let opens = subst (λ (s : NodeState). (l : Looks) (x : ConnLooks) → Mirrors g.C.Class.class_of s l
    → slice_get l.conns place ≡ Some x → IsFirstOpen l x key) (sym c.self.view_is) c.in-Ok.ensures.first in
    let numbered = subst (λ (s : NodeState). (l : Looks) (x : ConnLooks) (ch : Channel) → Mirrors g.C.Class.class_of s l
    → slice_get l.conns place ≡ Some x → IsChannel l key ch → number ≡ next_number x.first (channel_at l ch).number)
    (sym c.self.view_is) c.next_number-number.ensures.exact in
    let room : n.live < n.limits.calls =
    omega (arith, c.if-live-limits.false, c.live.ensures, ap (λ l. l.calls) c.limits.ensures) in
    rw (← c.self.view_is)
    (subst (λ (cid : ℕ). AnswersNode g.C.Class.class_of n new (events.Called cid (Ok c.latest.result)))
    c.name-c.ensures.cid
    (called_some g.C.Class.class_of n name.host name.epoch kind name refl place found key opens room number numbered
    new same c.latest.result c.start.ensures.steps c.latest.ensures))
