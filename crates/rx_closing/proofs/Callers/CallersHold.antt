-- At each stage of a driven plan, and of rounds behind it, each call of a client has one caller among the callers.
use Rattle.std.proofs.Common.{◌≡◌, ◌⊎◌, ◌++◌, ℕ, List, [], ◌∷◌, refl, ap, sym, subst, ◌∙◌}
use Rattle.std.proofs.Common.{Option, Some, length, arith, slice_get, length-append}
use Rattle.rx_model.specs.declared.event.Event.{Event}
use Rattle.rx_model.specs.declared.names.CallName.{CallName}
use Rattle.rx_model.specs.declared.names.Host.{Host}
use Rattle.rx_model.specs.Names.{same_name}
use Rattle.rx_rules.specs.After.{looks}
use Rattle.rx_rules.specs.CallLooks.{CallLooks}
use Rattle.rx_rules.specs.Life as lives
use Rattle.rx_rules.specs.Looks.{CallRecord, call_at}
use Rattle.rx_rules.specs.Rules.{Legal}
use Rattle.rx_rules.specs.Setup.{Client, FitsSetup, Setup}
use Rattle.rx_history.specs.Sides.{Node, side}
use Rattle.rx_history.specs.Streams as streams
use Rattle.rx_law.specs.Worlds.{AreNodes}
use Rattle.rx_law.proofs.World.{if-some}
use Rattle.rx_asks.specs.declared.ask.TheConstants.{REPLY_BYTES}
use Rattle.rx_asks.specs.Asks.{begun as caller_begun}
use Rattle.rx_asks.specs.History.{Tells}
use Rattle.rx_asks.specs.History as driven
use Rattle.rx_asks.specs.View.{CallerState}
use Rattle.rx_asks.proofs.Driving.{tells_driven}
use Rattle.rx_jobs.specs.Handlers.{Handlers}
use Rattle.rx_script.specs.declared.plan.Numbered.{Numbered}
use Rattle.rx_plan.specs.Answering.{request_for}
use Rattle.rx_plan.specs.Stages.{InvokedState, Stage}
use Rattle.rx_plan.proofs.Allowed.{legal_side}
use Rattle.rx_plan.proofs.Driven.{seen}
use Rattle.rx_plan.proofs.Followed.{Asks, IsCaller, IsFollowed, followed}
use Rattle.rx_rounds.proofs.Rounded.{RoundMade}
use Rattle.rx_closing.proofs.Callers.CallerHeld.{HoldsBy, holds_driven}
use Rattle.rx_closing.proofs.Callers.CallersLeave.{AreApart, IsOn}
use Rattle.rx_closing.proofs.Rounds.RoundCarries.{RoundCarried, round_carries}

module _ (g : Handlers) (ls : List Numbered) where
  -- at each stage of a round
  pub round_followed : (s t : Stage) → (r : RoundMade g s t) → IsFollowed g ls (seen s)
      → RoundCarried g (Asks g ls) (IsFollowed g ls) (followed g ls) s t r
  round_followed s t r so = round_carries g (Asks g ls) (IsFollowed g ls) (followed g ls) s t r so

  -- ---- the caller of a call that lives

  none_more : (xs ys : List ℕ) → xs ++ ys ≡ xs → ys ≡ []
  none_more xs [] is = refl
  none_more xs (y ∷ ys) is =
      let both = length-append xs (y ∷ ys) in
      let same : length (xs ++ (y ∷ ys)) ≡ length xs = ap length is in
      absurd (omega arith)

  module _ (node : ℕ) (client : Node) (host : Host) (epoch : ℕ) (kind : client.setup.kind ≡ Client host epoch)
      (c : CallName) (now : ℕ) where
    -- it is that of an invoke; it tells of the call; and no other caller of this client has the call
    pub record CallerOf (s : Stage) (k : CallLooks) : Type 0 where
      pub place : ℕ
      pub caller : InvokedState
      pub there : slice_get s.callers place ≡ Some caller
      pub of_node : caller.node ≡ node
      pub is : IsCaller g ls s.nodes s.history caller
      pub on : IsOn node client host epoch kind c now (request_for g is.origin.invoke) caller.caller k
      pub reply : caller.caller.reply ≡ k.received.read
      pub others : AreApart node client host epoch kind c now place s.callers

    pub caller_of : (s : Stage) (r : CallRecord) → IsFollowed g ls (seen s) → AreNodes s.nodes
        → slice_get s.nodes node ≡ Some client → call_at (looks client.setup (side node s.history)) c ≡ Some r
        → r.life ≡ lives.Calling → CallerOf s r.looks
    caller_of s r h are first there living =
        let played = h.played are in
        let has = played.each_has node client host epoch first kind c (record { call = r; there = there }) in
        let i : IsCaller g ls s.nodes s.history has.caller =
        played.callers.each_is has.place has.caller has.there in
        let v : CallerState = has.caller.caller in
        let setup : Setup = client.setup in
        let past : List Event = side node s.history in
        let fits : FitsSetup setup =
        if-some (slice_get s.nodes node) client (λ m. FitsSetup m.setup) first (are.fits node) in
        let legal : Legal setup past = legal_side s.nodes s.history node client first h.allowed in
        let drives = subst (λ (j : ℕ). driven.Drives REPLY_BYTES (request_for g i.origin.invoke) v (side j s.history))
        has.of_node i.drives in
        let tells : Tells (request_for g i.origin.invoke) v (looks setup past) =
        tells_driven setup host epoch REPLY_BYTES (request_for g i.origin.invoke) v past kind fits legal drives in
        let at : call_at (looks setup past) v.call ≡ Some r =
        ap (call_at (looks setup past)) has.call ∙ there in
        let holds : HoldsBy v (Some r) =
        subst (HoldsBy v) at
        (holds_driven setup host epoch kind fits (request_for g i.origin.invoke) v past legal drives) in
        let said : r.looks.sent.said ++ v.offering ≡ request_for g i.origin.invoke =
        sym (ap (λ (o : Option CallRecord). streams.said_by o ++ v.offering) at) ∙ tells.said in
        record {
          place = has.place;
          caller = has.caller;
          there = has.there;
          of_node = has.of_node;
          is = i;
          on = record {
            call = has.call;
            open_ = (holds living).0;
            shut = (holds living).1;
            none = λ shut.
                none_more r.looks.sent.said v.offering
                (said ∙ sym (tells.whole (ap streams.is_shut_by at ∙ sym (holds living).1 ∙ shut))
                ∙ ap streams.said_by at);
            said = said;
          };
          reply = tells.reply ∙ ap streams.read_by at;
          others = λ j q differ at_j of_node.
              ap (λ (n : CallName). same_name n q.caller.call) (sym has.call)
              ∙ played.callers.apart has.place j has.caller q (λ same. differ (sym same)) has.there at_j
              (has.of_node ∙ sym of_node);
        }
