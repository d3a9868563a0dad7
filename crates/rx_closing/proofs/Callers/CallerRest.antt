-- Where a caller's turn leaves its call, of the calls that may live at a client with room for all of them: at rest all
-- of its request was written and shut; and where it wasn't, a piece counts that isn't acknowledged.
use Rattle.std.proofs.Common.{◌≡◌, ◌≤◌, ◌<◌, ◌++◌, ℕ, Bool, true, false, List, [], refl, ap, sym, subst, ◌∙◌, length}
use Rattle.std.proofs.Common.{arith, inl, inr, length-append}
use Rattle.rx_model.specs.declared.names.CallName.{CallName}
use Rattle.rx_model.specs.declared.names.Host.{Host}
use Rattle.rx_rules.specs.CallLooks.{CallLooks, after_write}
use Rattle.rx_rules.specs.Looks.{Looks}
use Rattle.rx_rules.specs.Received.{count_above, front_of, used_of}
use Rattle.rx_rules.specs.Sent.{Sent, counting_of, held_pieces, opened, pieces_by, pieces_of}
use Rattle.rx_rules.specs.Setup.{Client, FitsSetup, is_client}
use Rattle.rx_rules.specs.Slots.{room}
use Rattle.rx_history.specs.Sides.{Node, side}
use Rattle.rx_history.proofs.Suffice.{roomy_history}
use Rattle.rx_history.proofs.Laws.UsedLaws.{used_within}
use Rattle.rx_closing.proofs.Callers.CallerTurn.{Filled, SaidOut, all_said, calls, fills_up, looks_at}
use Rattle.rx_closing.proofs.Ends.ReplyLate.{IsLate, reply_late}
use Rattle.rx_closing.proofs.Ends.RoomLaws.{room_free, room_spent}
use Rattle.rx_closing.proofs.Ends.TurnLaws.{turn_keeps, turn_rises}
use Rattle.rx_closing.proofs.Frame.{IsSpacious}
use Rattle.rx_closing.proofs.Room.RoomCounts.{room_counts_among}

opened_rises : (m n : ℕ) → m ≤ n → opened m ≤ opened n
opened_rises m n low = omega arith

none_kept : (k : CallLooks) → k.received.kept ≡ [] → (front_of k.received.kept ≡ 0)
    × (count_above (used_of k.received) k.received.kept ≡ 0)
none_kept k none =
    (ap front_of none, ap (count_above (used_of k.received)) none)

none_used : (k : CallLooks) → k.received.kept ≡ [] → used_of k.received ≡ front_of k.received.kept
none_used k none =
    let front : front_of k.received.kept ≡ 0 = (none_kept k none).0 in
    let within : used_of k.received ≤ front_of k.received.kept = used_within k.received in
    omega arith

module _ (node : ℕ) (client : Node) (host : Host) (epoch : ℕ) (kind : client.setup.kind ≡ Client host epoch)
    (c : CallName) (cs : List CallName) (now : ℕ) (fits : FitsSetup client.setup)
    (space : IsSpacious cs client.setup) (request : List ℕ) (few : opened (length request) < 4294967294) (k : CallLooks)
    (known : k.sent.acked ≤ pieces_of k.sent) where
  -- the last offer, at a turn from this end
  abbrev Offer : Sent → Type 0
  Offer sent = Filled node client host epoch kind c cs now request k sent

  -- behind it there is no room; nothing of the reply is kept; and the bytes that were said are few
  record NoRoom (sent : Sent) (o : Offer sent) : Type 0 where
    full : room client.setup (looks_at node client host epoch kind c cs now o.behind) (after_write o.took o.before) ≡ 0
    none : o.before.received.kept ≡ []
    small : opened (length (o.before.sent.said ++ o.took)) < 4294967294
    acked : o.before.sent.acked ≤ opened (length (o.before.sent.said ++ o.took))

  no_room : (sent : Sent) → (o : Offer sent) → NoRoom sent o
  no_room sent o =
      let keeps = turn_keeps now k o.before o.on in
      let rises = turn_rises now k o.before o.on in
      let pieces : pieces_of o.before.sent ≡ opened (length o.before.sent.said) =
      ap (λ (b : Bool). pieces_by (length o.before.sent.said) b) o.open_ in
      let acked : o.before.sent.acked ≤ opened (length o.before.sent.said) =
      (let more = rises.pieces in omega (arith, keeps.acked, known, more, pieces)) in
      let spent = room_spent client.setup (looks_at node client host epoch kind c cs now o.stage) c
      (calls o.name o.before) o.took (roomy_history client.setup (side node o.stage.history) o.at.legal) o.at.there refl
      o.open_ acked o.all in
      record {
        full =
            ap (λ (l : Looks). room client.setup l (after_write o.took o.before)) o.looks_are ∙ spent;
        none =
            unshut (reply_late client.setup (side node o.stage.history) c (calls o.name o.before)
            (ap is_client kind) fits
            o.at.legal o.at.there);
        small =
            (let all : length (sent.said ++ o.left) ≡ length request = ap (λ (ys : List ℕ). length ys) o.whole in
            let said : length sent.said ≡ length (o.before.sent.said ++ o.took) =
            ap (λ (t : Sent). length t.said) o.is in
            let low : length (o.before.sent.said ++ o.took) ≤ length request =
            omega (arith, all, said, length-append sent.said o.left) in
            let less = opened_rises (length (o.before.sent.said ++ o.took)) (length request) low in
            omega (arith, less, few));
        acked =
            (let longer : length o.before.sent.said ≤ length (o.before.sent.said ++ o.took) =
            omega (arith, length-append o.before.sent.said o.took) in
            let more = opened_rises (length o.before.sent.said) (length (o.before.sent.said ++ o.took)) longer in
            omega (arith, acked, more));
      }
    where
      unshut : IsLate o.before → o.before.received.kept ≡ []
      unshut (inl none) = none
      unshut (inr shut) = absurd (let open_ = o.open_ in cc (shut, open_))

  abbrev Said : Sent → Type 0
  Said sent = SaidOut node client host epoch kind c cs now request k sent

  -- where all that was said is hard acknowledged, all of the request was said, and it is shut
  pub rests_shut : (sent : Sent) → Said sent → held_pieces sent ≡ 0 → (sent.shut ≡ true) × (sent.said ≡ request)
  rests_shut sent (all_said shut said) none = (shut, said)
  rests_shut sent (fills_up o) none =
      absurd (
      let n = no_room sent o in
      let f : CallLooks = after_write o.took o.before in
      let wide : 1 ≤ client.setup.limits.window = (let low = fits.limits.wide in omega arith) in
      let free = room_free client.setup (looks_at node client host epoch kind c cs now o.behind) f wide
      (none_used f n.none) (ap held_pieces (sym o.is) ∙ none) o.open_ n.small in
      let full = n.full in
      omega arith)

  -- where it isn't shut, a piece counts that isn't acknowledged
  pub counts_on : (sent : Sent) → Said sent → sent.shut ≡ false → sent.acked < counting_of sent
  counts_on sent (all_said shut said) open_ = absurd cc
  counts_on sent (fills_up o) open_ =
      let n = no_room sent o in
      let f : CallLooks = after_write o.took o.before in
      subst (λ (t : Sent). t.acked < counting_of t) (sym o.is)
      (room_counts_among client.setup (side node o.behind.history) cs c (calls o.name f) fits o.at_behind.legal
      o.at_behind.among space o.at_behind.there refl o.open_ (none_kept f n.none).1 n.acked n.small n.full)
