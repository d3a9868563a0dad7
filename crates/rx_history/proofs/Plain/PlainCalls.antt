-- Each item of a call is plain, and the call is the latest of its channel.
use Rattle.std.proofs.Common.{◌≡◌, ◌⊎◌, ◌&&◌, ◌==◌, ◌<◌, ◌≤◌, ◌+◌, ◌*◌, ◌^◌, ℕ, zero, suc, if◌then◌else◌, not}
use Rattle.std.proofs.Common.{true, false, List, [], ◌∷◌, length, map, drop, length-take}
use Rattle.std.proofs.Common.{Option, Some, None, refl, sym, subst, inr, arith}
use Rattle.rx_model.specs.declared.names.CallName.{CallName}
use Rattle.rx_model.specs.declared.wire.TheConstants.{ACK_PING}
use Rattle.rx_model.specs.Body.{Body}
use Rattle.rx_model.specs.Body as bodies
use Rattle.rx_model.specs.Names.{Channel, channel_of, same_name}
use Rattle.rx_model.specs.Spelling.{IsPlainBody}
use Rattle.rx_rules.specs.CallItems.{CallItem, Sending, ack_body, ack_items, again_items, asks, call_items, can_give}
use Rattle.rx_rules.specs.CallItems.{fresh_items, item_at}
use Rattle.rx_rules.specs.CallItems.{piece_items, ping_items}
use Rattle.rx_rules.specs.CallItems as sendings
use Rattle.rx_rules.specs.Items.{Item, item_of, items_of}
use Rattle.rx_rules.specs.Life.{is_active}
use Rattle.rx_rules.specs.Looks.{CallRecord, Looks, call_at}
use Rattle.rx_rules.specs.Looks.{latest, latest_name}
use Rattle.rx_rules.specs.Records.{is_silent}
use Rattle.rx_rules.specs.Sent.{piece_at}
use Rattle.rx_rules.specs.Setup.{Setup, FitsSetup, is_client, receiving_window, side_flag}
use Rattle.rx_rules.proofs.EveryLaws.{Every}
use Rattle.rx_rules.proofs.FindLaws.{find_passes}
use Rattle.rx_model.proofs.NameLaws.{name_is}
use Rattle.rx_history.proofs.Data.{GoodCall, GoodName, Sound, call-sound, counting-low, flags-low}
use Rattle.rx_history.proofs.Ends.{ends_of}
use Rattle.rx_history.proofs.Fit.FitCall.{CallFits, FitsCall}
use Rattle.rx_history.proofs.Fit.FitHistory.{FitsLooks}
use Rattle.rx_history.proofs.Turns.{SendsOf}
use Rattle.rx_history.proofs.Plain.PlainBodies.{AckFits, AcksFit, IsSent, ack_plain, acks_fit}
use Rattle.rx_history.proofs.Plain.PlainBodies.{is_abort}

-- an item of a live call that was heard lately
pub record SentBy (s : Setup) (l : Looks) (i : Item) : Type 0 where
  pub call : CallRecord
  pub there : call_at l i.name ≡ Some call
  pub lives : (is_active call.life && not (is_silent l.now call)) ≡ true
  pub item : CallItem
  pub is : i ≡ item_of s call item

-- each number fits; unless it is a BUSY it is of its channel's latest call, and DATA and ACKs are of one that lives
pub record PlainItem (s : Setup) (l : Looks) (i : Item) : Type 0 where
  pub name : GoodName s i.name
  pub seq : i.seq < 2 ^ 32
  pub flags : side_flag s.kind + i.flags < 8
  pub body : IsPlainBody i.body
  pub latest : (i.body ≡ bodies.Busy) ⊎ (i.name ≡ latest_name l (channel_of i.name))
  pub sent : IsSent i.body → SentBy s l i
  pub apart : is_abort i.body ≡ true → 1 ≤ i.name.number

module _ (s : Setup) (l : Looks) (fits : FitsSetup s) (good : (c : CallName) → GoodCall s l c) (f : FitsLooks s l) where
  sending-one : (k : CallRecord) (rank : ℕ) (sending : Sending) → call_at l k.name ≡ Some k
      → k.name ≡ latest_name l (channel_of k.name)
      → (is_active k.life && not (is_silent l.now k)) ≡ true → FitsCall k → SendsOf (ends_of (Some k))
      → Sound s l good k sending → AckFits sending
      → PlainItem s l (item_of s k (record { rank = rank; sending = sending }))
  sending-one k rank (sendings.Piece seq again) there newest lives fit sends sound acks =
      let top = counting-low k.looks.sent.shut (length k.looks.sent.said) sends.fits in
      let is = sound.1 in
      let counts = sound.2 in
      record {
        name = (good k.name).named (rw there refl);
        seq = omega arith;
        flags = flags-low s l good s.kind (asks k.looks.cwnd k.looks.sent seq again) (piece_at k.looks.sent seq).last;
        body = piece-short seq;
        latest = inr newest;
        sent = λ sent. record {
          call = k;
          there = there;
          lives = lives;
          item = record {
            rank = rank;
            sending = sendings.Piece seq
                again;
          };
          is = refl;
        };
        apart = λ aborts. absurd cc;
      }
    where
      piece-short : (seq : ℕ) → length (piece_at k.looks.sent seq).payload ≤ 1444
      piece-short zero = omega arith
      piece-short (suc j) = omega (arith, length-take 1412 (drop (1412 * j) k.looks.sent.said))
  sending-one k rank (sendings.Ack reason serial) there newest lives fit sends sound acks =
      record {
        name = (good k.name).named (rw there refl);
        seq = omega arith;
        flags = flags-low s l good s.kind (reason == ACK_PING) false;
        body = ack_plain (receiving_window s) reason serial k.looks.received fits.limits.narrow acks.0 acks.1 acks.2
            fit.received;
        latest = inr newest;
        sent = λ sent. record {
          call = k;
          there = there;
          lives = lives;
          item = record {
            rank = rank;
            sending = sendings.Ack reason
                serial;
          };
          is = refl;
        };
        apart = λ aborts. absurd cc;
      }

  map-one : (k : CallRecord) (is : List CallItem) → call_at l k.name ≡ Some k
      → k.name ≡ latest_name l (channel_of k.name)
      → (is_active k.life && not (is_silent l.now k)) ≡ true → FitsCall k → SendsOf (ends_of (Some k))
      → Every (λ i. Sound s l good k i.sending) is → AcksFit is → Every (PlainItem s l) (map (item_of s k) is)
  map-one k [] there newest lives fit sends sound acks = tt
  map-one k (i ∷ is) there newest lives fit sends sound acks = (
    sending-one k i.rank i.sending there newest lives fit sends sound.0 acks.0,
    map-one k is there newest lives
        fit sends sound.1 acks.1,
  )

  -- the items of the latest call of a channel
  pub call_one : (ch : Channel) (o : Option CallRecord) → latest l ch ≡ o → Every (PlainItem s l) (items_of s l o)
  call_one ch None is = tt
  call_one ch (Some k) is =
      let name : CallName = latest_name l ch in
      let named : k.name ≡ name = name_is k.name name (find_passes (λ j. same_name j.name name) l.calls k is) in
      let there : call_at l k.name ≡ Some k = subst (λ (n : CallName). call_at l n ≡ Some k) (sym named) is in
      let newest : k.name ≡ latest_name l (channel_of k.name) = subst
      (λ (n : CallName). n ≡ latest_name l (channel_of n)) (sym named) refl in
      let sends : SendsOf (ends_of (Some k)) = subst (λ (o : Option CallRecord). SendsOf (ends_of o)) is
      (good name).sends in
      let fit : FitsCall k = subst CallFits is (f.calls name) in
      (elim (is_active k.life && not (is_silent l.now k))
      as (λ b. (is_active k.life && not (is_silent l.now k)) ≡ b
      → Every (PlainItem s l) (if b then map (item_of s k) (call_items (is_client s.kind) k.looks) else [])) [
        | true ↦ λ lives.
            map-one k (call_items (is_client s.kind) k.looks) there newest lives fit sends
            (call-sound s l good k (is_client s.kind) sends)
            (acks_fit (is_client s.kind) k fit)
        | false ↦ λ dead. tt
      ]) refl
