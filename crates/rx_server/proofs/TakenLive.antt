-- A server behind a message that its channel's live call took.
use Rattle.std.proofs.Common.{◌≡◌, ◌/◌, ◌++◌, ◌∷◌, ℕ, true, false, List, [], Some, sym, subst}
use Rattle.rx_model.specs.declared.answers.Took.{Took}
use Rattle.rx_model.specs.declared.names.CallName.{CallName}
use Rattle.rx_model.specs.Message.{Message}
use Rattle.rx_rules.specs.After.{taken_with}
use Rattle.rx_rules.specs.Classes.{Class}
use Rattle.rx_rules.specs.Judging.{live_row}
use Rattle.rx_rules.specs.Looks.{CallRecord, Looks, call_at}
use Rattle.rx_rules.proofs.EveryLaws.{Every}
use Rattle.rx_queue.specs.Queue.{QueueState, is_listed, is_ready}
use Rattle.rx_node.specs.Mirrors.{IsKey, Mirrors}
use Rattle.rx_node.specs.Node.{KeepsNode, NodeState, setup_of}
use Rattle.rx_node.specs.Steps.{IsOwn}
use Rattle.rx_server.specs.Server.{IsServing, ServerState, Serves, admits_at}
use Rattle.rx_server.specs.Taking.{IsOwnActive, OwnsSome, TakesLive, keeps_first, proves_client}
use Rattle.rx_server.proofs.LiveSteps.{active_there, live_there, new_channel, serves_first, serves_live, serves_proved}
use Rattle.rx_server.proofs.Serving.{parts_stay, role_stays, serving_by, serving_with, there_behind}

module _ (class : List ℕ → Class) (sv : ServerState) (new : NodeState) (key : ℕ) (c : CallName) (m : Message)
    (got : Took) (kept : KeepsNode sv.node new)
    (answered : (l : Looks) (k : CallRecord) → IsOwn class sv.node l key c k
    → got ≡ live_row (setup_of class sv.node) l k m m.body)
    (steps : (l : Looks) (k : CallRecord) → IsOwn class sv.node l key c k
    → Mirrors class new (taken_with (setup_of class sv.node) got c m l)) where
  says : (l : Looks) (k : CallRecord) → Serves class sv l → IsOwnActive l key c → call_at l c ≡ Some k
      → IsOwn class sv.node l key c k
  says l k serves own there =
      record { mirrors = serves.mirrors; channel = own.channel; latest = own.latest; call = there }

  -- ---- its packet 1 was kept

  module _ (first : keeps_first got m.seq ≡ true) where
    -- so that its channel isn't listed
    pub took_fresh : OwnsSome class sv key c → is_listed sv.firsts key ≡ false
    took_fresh some =
        let call = active_there some.looks c some.own.active in
        let isown = says some.looks call.0 some.serves some.own call.1 in
        new_channel class sv new some.looks c call.0 m key some.own.channel some.own.latest call.1 call.2 got
        (role_stays sv.node new kept) (steps some.looks call.0 isown) some.serves
        (answered some.looks call.0 isown) first

    module _ (firsts : QueueState) (order : firsts.order ≡ sv.firsts.order ++ key ∷ [])
        (keeps : (q : ℕ) → is_ready sv.firsts q ≡ true → is_ready firsts q ≡ true)
        (ready : (l : Looks) → Mirrors class new l → admits_at (class new.secret).challenges l key ≡ true
        → is_ready firsts key ≡ true) where
      -- it comes behind all others
      pub took_first : (l : Looks) (k : CallRecord) → Serves class sv l → IsOwnActive l key c → call_at l c ≡ Some k
          → TakesLive class sv (record sv { node = new; firsts = firsts }) l c k m got
      took_first l k serves own there =
          let isown = says l k serves own there in
          let mirrors = steps l k isown in
          record {
            answered = answered l k isown;
            serves = serves_first class sv new l c k m key own.channel own.latest there
                (live_there l c k own.active there) got (role_stays sv.node new kept) mirrors serves
                (answered l k isown) first firsts order keeps (ready _ mirrors);
          }

      pub first_serving : OwnsSome class sv key c → IsKey sv.node key → IsServing class sv
          → IsServing class (record sv { node = new; firsts = firsts })
      first_serving some its is =
          let call = active_there some.looks c some.own.active in
          serving_with class sv new _ firsts (parts_stay sv.node new kept)
          (there_behind sv.node key sv.firsts.order firsts.order order is.there its)
          (took_first some.looks call.0 some.serves some.own call.1).serves is

  -- ---- its client is proved

  module _ (proves : proves_client got m.body ≡ true) (firsts : QueueState) (order : firsts.order ≡ sv.firsts.order)
      (keeps : (q : ℕ) → is_ready sv.firsts q ≡ true → is_ready firsts q ≡ true)
      (ready : (q : ℕ) → q / 4 ≡ key / 4 → is_listed sv.firsts q ≡ true → is_ready firsts q ≡ true) where
    -- the channels of its connection are ready
    pub took_proof : (l : Looks) (k : CallRecord) → Serves class sv l → IsOwnActive l key c → call_at l c ≡ Some k
        → TakesLive class sv (record sv { node = new; firsts = firsts }) l c k m got
    took_proof l k serves own there =
        let isown = says l k serves own there in
        record {
          answered = answered l k isown;
          serves = serves_proved class sv new l c k m key own.channel own.latest there
              (live_there l c k own.active there) got (role_stays sv.node new kept) (steps l k isown) serves proves
              firsts order keeps ready;
        }

    pub proof_serving : OwnsSome class sv key c → IsServing class sv
        → IsServing class (record sv { node = new; firsts = firsts })
    proof_serving some is =
        let call = active_there some.looks c some.own.active in
        serving_with class sv new _ firsts (parts_stay sv.node new kept)
        (subst (λ (keys : List ℕ). Every (IsKey sv.node) keys) (sym order) is.there)
        (took_proof some.looks call.0 some.serves some.own call.1).serves is

  -- ---- neither

  module _ (other : keeps_first got m.seq ≡ false) (none : proves_client got m.body ≡ false) where
    -- which channels are listed stays
    pub took_other : (l : Looks) (k : CallRecord) → Serves class sv l → IsOwnActive l key c → call_at l c ≡ Some k
        → TakesLive class sv (record sv { node = new }) l c k m got
    took_other l k serves own there =
        let isown = says l k serves own there in
        record {
          answered = answered l k isown;
          serves = serves_live class sv new l c k m key own.channel own.latest there
              (live_there l c k own.active there) got (role_stays sv.node new kept) (steps l k isown) serves other none;
        }

    pub other_serving : OwnsSome class sv key c → IsServing class sv → IsServing class (record sv { node = new })
    other_serving some is =
        let call = active_there some.looks c some.own.active in
        serving_by class sv new _ (parts_stay sv.node new kept)
        (took_other some.looks call.0 some.serves some.own call.1).serves is
