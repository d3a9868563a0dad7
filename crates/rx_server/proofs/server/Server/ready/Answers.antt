use Rattle.std.proofs.Common.{◌≡◌, ℕ, Option, Some, None, sym, subst}
use Rattle.std.specs.Prelude.{IfSome}
use Rattle.rx_model.specs.Names.{connection_of}
use Rattle.rx_rules.specs.Looks.{Looks, conn_at}
use Rattle.rx_node.specs.Steps.{IsFound}
use Rattle.rx_server.specs.Server.{IsServerOf, ServerState, Serves}
use Rattle.rx_server.specs.Taking.{Entered, IsReady}
use Rattle.rx_server.proofs.Entering.{entered_known, ready_entered, ready_known}
use Rattle.rx_server.proofs.server.Server.ready.Goals as goal

pub returns-in-Some-clause-ready : goal.returns-in-Some-clause-ready
returns-in-Some-clause-ready g c =
    λ l serves. ready_known g.C.Class.class_of _ _ l c.args.c.now c.in-Some.key (c.in-Some.ensures.known l serves)
    (c.touched.ensures.steps l serves) (c.in-Some.ensures.channel l serves)

if-map : (o : Option ℕ) (P Q : ℕ → Type 0) → IfSome o P → ((key : ℕ) → P key → Q key) → IfSome o Q
if-map None P Q is gives = tt
if-map (Some key) P Q is gives = gives key is

module _ (g : _) (c : goal.After-touched-2 g) (l : Looks) (serves : Serves g.C.Class.class_of c.args.self.now l) where
  stayed : c.touched.new.self ≡ c.args.self.now
  stayed = c.touched.ensures.stays c.in_default.is

  absent : conn_at l (connection_of c.args.c.now) ≡ None
  absent = c.touched.ensures.none l serves c.in_default.is

  entered : Entered g.C.Class.class_of c.args.self.now c.enter.new.self l (connection_of c.args.c.now)
  entered =
      subst (λ (sv : ServerState). Entered g.C.Class.class_of sv c.enter.new.self l (connection_of c.args.c.now)) stayed
      (c.in_ok-enter.ensures.entered l
      (subst (λ (sv : ServerState). Serves g.C.Class.class_of sv l) (sym stayed) serves))

  ready : IfSome c.touched-2.result (IsReady g.C.Class.class_of c.args.self.now c.touched-2.new.self l c.args.c.now)
  ready =
      if-map c.touched-2.result _ _ (c.touched-2.ensures.channel _ entered.serves)
      (λ key channel. ready_entered g.C.Class.class_of _ _ _ l c.args.c.now key absent entered
      (c.touched-2.ensures.steps _ entered.serves) channel)

  never : c.touched-2.result ≡ None → ⊥
  never none =
      entered_known g.C.Class.class_of c.args.self.now c.enter.new.self l (connection_of c.args.c.now)
      (subst (λ (sv : ServerState). IsServerOf sv.node.kind sv.service) c.self.view_is c.self.invariant.0.server) absent
      (c.touched-2.ensures.none _ entered.serves none)

pub touched-requires-2-clause-found : goal.touched-requires-2-clause-found
touched-requires-2-clause-found g c =
    subst (λ (sv : ServerState). IsFound g.C.Class.class_of sv.node c.args.c.now c.channel-channel.result)
    c.self-2.view_is
    (c.channel-channel.ensures.found c.requires.chan)

pub returns-clause-ready : goal.returns-clause-ready
returns-clause-ready g c = λ l serves. ready g c l serves

pub returns-clause-none : goal.returns-clause-none
returns-clause-none g c = λ l serves none. absurd (never g c l serves none)

pub returns-clause-stays : goal.returns-clause-stays
returns-clause-stays g c =
    let i = c.self.invariant.0 in
    λ none. absurd (never g c i.looks
    (subst (λ (sv : ServerState). Serves g.C.Class.class_of sv i.looks) c.self.view_is i.serves) none)
