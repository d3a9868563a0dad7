-- A client's call that isn't shut may be: nothing came for it yet.
use Rattle.std.proofs.Common.{◌≡◌, ◌+◌, ℕ, suc, nat_lt, true, false, List, [], ◌∷◌, map, Option, Some, None}
use Rattle.std.proofs.Common.{refl, ◌∙◌, ap, sym, arith}
use Rattle.std.specs.Prelude.{IsSomeAnd}
use Rattle.std.proofs.lemmas.Bool.Decides.{nat_tests}
use Rattle.rx_model.specs.Names.{Channel, same_name}
use Rattle.rx_rules.specs.Classes.{Class}
use Rattle.rx_rules.specs.Looks.{Looks, latest_name}
use Rattle.rx_rules.specs.Received.{Packet, packet_at}
use Rattle.rx_rules.specs.Setup.{is_client}
use Rattle.rx_history.proofs.Differ.{every_found}
use Rattle.rx_history.proofs.Room.Tight.{TightOf}
use Rattle.rx_pool.specs.Pool.{Slots}
use Rattle.rx_recvwin.specs.declared.packet.KeptPacket.{KeptPacket}
use Rattle.rx_recvwin.specs.Places.{leading, place_at, seen_at}
use Rattle.rx_call.specs.Kept.{call_under}
use Rattle.rx_call.specs.Standing.{EndOfCall, has_unread}
use Rattle.rx_call_ends.specs.Ends.{HasShutSlot, IsUnshut, StandsAs}
use Rattle.rx_node.specs.Mirrors.{IsActiveAt, IsChannel, Mirrors}
use Rattle.rx_node.specs.Node.{NodeState}
use Rattle.rx_node.proofs.Steps.EndSteps.{ActiveCall, active_call}

none-leading : (pool : Slots) (ps : List (Option KeptPacket)) → place_at (map (seen_at pool) ps) 0 ≡ None
    → leading ps ≡ 0
none-leading pool [] none = refl
none-leading pool (None ∷ ps) none = refl
none-leading pool (Some p ∷ ps) none = absurd (cc (none))

none-unread : (used more : ℕ) → more ≡ 0 → nat_lt used (used + more) ≡ false
none-unread used more none = grind (arith, nat_tests)

module _ (class : List ℕ → Class) (n : NodeState) (l : Looks) (m : Mirrors class n l) (client : is_client n.kind ≡ true)
    (key end : ℕ) (ch : Channel) (at : IsChannel l key ch) (active : IsActiveAt n key end) where
  tight : (its : ActiveCall n l ch end) → TightOf (is_client n.kind) its.call
  tight its =
      every_found (TightOf (is_client n.kind)) (λ j. same_name j.name (latest_name l ch)) l.calls its.call m.roomy.tight
      its.latest_is

  pub shut_slot : IsUnshut n.ends end → HasShutSlot n.ends end
  shut_slot unshut = by (active_call class n l m key end ch at active)
    where
      by : ActiveCall n l ch end → HasShutSlot n.ends end
      by its = of (call_under n.ends.calls end) its.stands unshut
        where
          of : (o : Option EndOfCall) → IsSomeAnd o (λ c. StandsAs n.ends c its.call.looks)
              → IsSomeAnd o (λ c. c.sent.shut ≡ false)
              → IsSomeAnd o (λ c. c.sent.total ≡ 0 → has_unread c.received ≡ false)
          of None stands unshut = absurd stands
          of (Some c) stands unshut =
              let kept : its.call.looks.received.kept ≡ [] =
              (tight its).first client (sym stands.stands.sent.shut ∙ unshut) in
              let ahead : place_at (map (seen_at n.ends.pool) c.received.places) 0 ≡ None =
              stands.stands.received.near.ahead 0
              ∙ ap (λ (ps : List Packet). packet_at ps (suc (c.received.used + 0))) kept in
              λ total. none-unread c.received.used (leading c.received.places)
              (none-leading n.ends.pool c.received.places ahead)
