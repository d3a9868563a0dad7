-- What is given of a call's own end is the item that the rules pick, and the node mirrors what that leaves.
use Rattle.std.proofs.Common.{◌≡◌, ◌==◌, ◌≤◌, ◌+◌, ◌*◌, ℕ, zero, suc, min, Bool, true, false, List, [], ◌∷◌, length}
use Rattle.std.proofs.Common.{filter, take, drop, length-take}
use Rattle.std.proofs.Common.{Option, Some, None, option_map, refl, ◌∙◌, ap, sym, subst, arith, if◌then◌else◌, nat_le}
use Rattle.std.proofs.Common.{bit_or}
use Rattle.std.proofs.lemmas.Bool.Decides.{nat_tests}
use Rattle.rx_model.specs.declared.wire.TheConstants.{ACK_PING, LAST_PACKET, REQUEST_ACK}
use Rattle.rx_model.specs.Body.{AckBody, Body}
use Rattle.rx_model.specs.Body as bodies
use Rattle.rx_model.specs.Message.{Message}
use Rattle.rx_model.specs.Names.{Channel, same_name}
use Rattle.rx_model.proofs.NameLaws.{name_is}
use Rattle.rx_packet.specs.declared.head.Head.{Head}
use Rattle.rx_packet.specs.Seen.{message_with_head}
use Rattle.rx_rules.specs.After.{given_body}
use Rattle.rx_rules.specs.CallItems.{CallItem, Sending, ack_body, asks, call_items, flags_of, next_sending}
use Rattle.rx_rules.specs.CallItems.{sending_body, sending_flags, sending_seq}
use Rattle.rx_rules.specs.CallItems as sendings
use Rattle.rx_rules.specs.CallLooks.{CallLooks, after_ack_given, after_piece}
use Rattle.rx_rules.specs.Classes.{Class}
use Rattle.rx_rules.specs.Items.{Item, item_of}
use Rattle.rx_rules.specs.Least.{least_by}
use Rattle.rx_rules.specs.Looks.{CallRecord, Looks, call_at, latest_name, on_looks}
use Rattle.rx_rules.specs.Sent.{piece_at}
use Rattle.rx_rules.specs.Setup.{Kind, Server, Client, Setup, is_client, receiving_window, shared_slots, side_flag}
use Rattle.rx_rules.proofs.FindLaws.{find_passes}
use Rattle.rx_history.proofs.Room.Roomy.{roomy_one}
use Rattle.rx_history.proofs.Room.RoomStarts.{RoomyAt}
use Rattle.rx_history.proofs.Room.Tight.{gives_ack, gives_piece}
use Rattle.rx_call.specs.Standing.{after_given, giving_of}
use Rattle.rx_call.specs.declared.giving.Giving.TheVariants as givings
use Rattle.rx_call_ends.specs.Ends.{EndsState, StandsEnd, StepsEnd, view_at}
use Rattle.rx_node.specs.Due.{SendsItem, message_of_item}
use Rattle.rx_node.specs.Mirrors.{IsActiveAt, IsChannel, Mirrors}
use Rattle.rx_node.specs.Node.{IsSeated, NodeState, setup_of}
use Rattle.rx_node.proofs.CallChanges.{same_change}
use Rattle.rx_node.proofs.Steps.EndSteps.{active_call, mirrors_end}
use Rattle.rx_node.proofs.LeastItems.{least_within, within_rank}

-- ---- what a datagram says of it

-- its flags
pub or_flags : (kind : Kind) (asked last : Bool) (flags a b : ℕ) → flags ≡ side_flag kind
    → a ≡ (if asked then REQUEST_ACK else 0) → b ≡ (if last then LAST_PACKET else 0)
    → bit_or (bit_or flags a) b ≡ flags + flags_of asked last
or_flags kind asked last flags a b is asks lasts =
    (λ i. bit_or (bit_or (is i) (asks i)) (lasts i)) ∙ of kind asked last
    ∙ ap (λ (f : ℕ). f + flags_of asked last) (sym is)
  where
    of : (kind : Kind) (asked last : Bool)
        → bit_or (bit_or (side_flag kind) (if asked then REQUEST_ACK else 0)) (if last then LAST_PACKET else 0)
        ≡ side_flag kind + flags_of asked last
    of (Server service nonces) true true = refl
    of (Server service nonces) true false = refl
    of (Server service nonces) false true = refl
    of (Server service nonces) false false = refl
    of (Client host epoch) true true = refl
    of (Client host epoch) true false = refl
    of (Client host epoch) false true = refl
    of (Client host epoch) false false = refl

-- an ACK's
pub or_flag : (kind : Kind) (asked : Bool) (flags a : ℕ) → flags ≡ side_flag kind
    → a ≡ (if asked then REQUEST_ACK else 0) → bit_or flags a ≡ flags + flags_of asked false
or_flag kind asked flags a is asks =
    (λ i. bit_or (is i) (asks i)) ∙ of kind asked ∙ ap (λ (f : ℕ). f + flags_of asked false) (sym is)
  where
    of : (kind : Kind) (asked : Bool)
        → bit_or (side_flag kind) (if asked then REQUEST_ACK else 0) ≡ side_flag kind + flags_of asked false
    of (Server service nonces) true = refl
    of (Server service nonces) false = refl
    of (Client host epoch) true = refl
    of (Client host epoch) false = refl

-- a piece is no longer than a datagram has room for
take-short : (xs : List ℕ) (n : ℕ) → length xs ≤ n → take n xs ≡ xs
take-short [] zero low = refl
take-short [] (suc n) low = refl
take-short (x ∷ xs) zero low = absurd (omega arith)
take-short (x ∷ xs) (suc n) low = ap (λ (ys : List ℕ). x ∷ ys) (take-short xs n (omega arith))

piece-short : (k : CallLooks) (seq : ℕ) → length (piece_at k.sent seq).payload ≤ 1444
piece-short k zero = omega arith
piece-short k (suc j) = omega (arith, length-take 1412 (drop (1412 * j) k.sent.said))

pub piece_whole : (k : CallLooks) (seq : ℕ) (payload : List ℕ) (count : ℕ) → payload ≡ (piece_at k.sent seq).payload
    → count ≡ min (length payload) 1444 → take count payload ≡ (piece_at k.sent seq).payload
piece_whole k seq payload count is counted =
    let short = piece-short k seq in
    let same : length payload ≡ length (piece_at k.sent seq).payload = ap (λ (xs : List ℕ). length xs) is in
    take-short payload count (omega arith) ∙ is

-- and the pieces of what was said
pub given_pieces : (now : ℕ) (o : Option Sending) (k : CallLooks) (seq : ℕ)
    → (piece_at (after_given now o k).sent seq).payload ≡ (piece_at k.sent seq).payload
given_pieces now None k seq = refl
given_pieces now (Some (sendings.Piece n again)) k zero = refl
given_pieces now (Some (sendings.Piece n again)) k (suc j) = refl
given_pieces now (Some (sendings.Ack reason serial)) k seq = refl

-- ---- what is given

module _ (class : List ℕ → Class) (n : NodeState) (l : Looks) (m : Mirrors class n l) (key end : ℕ) (ch : Channel)
    (at : IsChannel l key ch) (active : IsActiveAt n key end) (i : Item) (sends : SendsItem (setup_of class n) l ch i)
    (due : i.rank ≤ l.now) (client : n.ends.client ≡ is_client n.kind) where
  abbrev looks : CallLooks
  looks = sends.call.looks

  abbrev s : Setup
  s = setup_of class n

  -- its end stands for its call
  pub sent_stands : StandsEnd n.ends end looks
  sent_stands =
      let its = active_call class n l m key end ch at active in
      let same : its.call ≡ sends.call = (let is = sym its.latest_is ∙ sends.there in cc (is)) in
      subst (λ (k : CallRecord). StandsEnd n.ends end k.looks) same its.stands

  -- it is the call's own pick
  pub next_is : next_sending (view_at n.ends n.moment) looks ≡ Some sends.item.sending
  next_is =
      let now : n.moment ≡ l.now = m.now in
      let rank : i.rank ≡ sends.item.rank = ap (λ (j : Item). j.rank) sends.is in
      let within : nat_le sends.item.rank l.now ≡ true =
      (let low : sends.item.rank ≤ l.now = omega arith in grind (arith, nat_tests, low)) in
      ap (option_map (λ j. j.sending))
      ((λ t. least_by (λ j. j.rank) (filter (λ j. nat_le j.rank (now t)) (call_items (client t) looks)))
      ∙ least_within (λ j. j.rank) l.now (call_items (is_client n.kind) looks)
      ∙ ap (λ (o : Option CallItem). within_rank (λ j. j.rank) l.now o) sends.least
      ∙ ap (λ (b : Bool). if b then Some sends.item else None) within)

  -- its name is that of the channel's latest call
  pub sent_name : i.name ≡ latest_name l ch
  sent_name =
      ap (λ (j : Item). j.name) sends.is
      ∙ name_is sends.call.name (latest_name l ch)
      (find_passes (λ k. same_name k.name (latest_name l ch)) l.calls sends.call sends.there)

  abbrev step : CallLooks → CallLooks
  step k = after_given n.moment (next_sending (view_at n.ends n.moment) k) k

  only-call : (k : CallRecord) → call_at l (latest_name l ch) ≡ Some k → sends.call ≡ k
  only-call k there = (let is = sym sends.there ∙ there in cc (is))

  -- the look-ups go on as the rules have it
  given-by : (sending : Sending) → sends.item.sending ≡ sending → (msg : Message) → msg.seq ≡ sending_seq sending
      → on_looks (latest_name l ch) step l
      ≡ given_body (latest_name l ch) msg (sending_body (receiving_window s) looks sending) l
  given-by (sendings.Piece seq again) is msg same =
      same_change (latest_name l ch) (λ k. record k { looks = step k.looks })
      (λ k. record k { looks = after_piece l.now msg.seq k.looks }) l m.roomy.differ
      (λ k there. subst (λ (c : CallRecord). (record c { looks = step c.looks })
      ≡ (record c { looks = after_piece l.now msg.seq c.looks })) (only-call k there)
      (ap (λ (x : CallLooks). record sends.call { looks = x })
      (ap (λ (o : Option Sending). after_given n.moment o looks) (next_is ∙ ap (λ (x : Sending). Some x) is)
      ∙ (λ t. after_piece (m.now t) (sym same t) looks))))
  given-by (sendings.Ack reason serial) is msg same =
      same_change (latest_name l ch) (λ k. record k { looks = step k.looks })
      (λ k. record k { looks = after_ack_given l.now k.looks }) l m.roomy.differ
      (λ k there. subst (λ (c : CallRecord). (record c { looks = step c.looks })
      ≡ (record c { looks = after_ack_given l.now c.looks })) (only-call k there)
      (ap (λ (x : CallLooks). record sends.call { looks = x })
      (ap (λ (o : Option Sending). after_given n.moment o looks) (next_is ∙ ap (λ (x : Sending). Some x) is)
      ∙ (λ t. after_ack_given (m.now t) looks))))

  roomy-by : (sending : Sending) (msg : Message)
      → RoomyAt s (given_body (latest_name l ch) msg (sending_body (receiving_window s) looks sending) l)
  roomy-by (sendings.Piece seq again) msg =
      roomy_one (is_client n.kind) (shared_slots s) (latest_name l ch)
      (λ k. record k { looks = after_piece l.now msg.seq k.looks }) l.calls
      (gives_piece (is_client n.kind) l.now msg.seq) m.roomy
  roomy-by (sendings.Ack reason serial) msg =
      roomy_one (is_client n.kind) (shared_slots s) (latest_name l ch)
      (λ k. record k { looks = after_ack_given l.now k.looks }) l.calls
      (gives_ack (is_client n.kind) l.now) m.roomy

  -- the node with its end behind it
  pub sent_leaves : IsSeated n → (e : EndsState) → StepsEnd n.ends e end step → (msg : Message) → msg.seq ≡ i.seq
      → Mirrors class (record n { ends = e }) (given_body i.name msg i.body l)
  sent_leaves seats e steps msg same =
      let seq : i.seq ≡ sending_seq sends.item.sending = ap (λ (j : Item). j.seq) sends.is in
      let body : i.body ≡ sending_body (receiving_window s) looks sends.item.sending =
      ap (λ (j : Item). j.body) sends.is in
      let is = given-by sends.item.sending refl msg (same ∙ seq) in
      subst (λ (k : Looks). Mirrors class (record n { ends = e }) k)
      (is ∙ (λ t. given_body (sym sent_name t) msg (sym body t) l))
      (mirrors_end class n l m seats key end ch at active e step steps
      (subst (λ (k : Looks). RoomyAt s k) (sym is) (roomy-by sends.item.sending msg)))

  -- ---- its message

  -- of a piece
  pub sent_piece : (head : Head) (seq flags : ℕ) (asked last : Bool) (payload : List ℕ)
      → Some (givings.Piece seq asked last) ≡ giving_of looks (next_sending (view_at n.ends n.moment) looks)
      → flags ≡ head.flags + flags_of asked last → (payload ≡ (piece_at looks.sent seq).payload)
      → head.number ≡ i.name.number
      → message_with_head (record head { seq = seq; flags = flags }) (bodies.Chunk payload) ≡ message_of_item head i
  sent_piece head seq flags asked last payload given flagged said numbered =
      of sends.item.sending refl (given ∙ ap (giving_of looks) next_is)
    where
      of : (sending : Sending) → sends.item.sending ≡ sending
          → Some (givings.Piece seq asked last) ≡ giving_of looks (Some sending)
          → message_with_head (record head { seq = seq; flags = flags }) (bodies.Chunk payload) ≡ message_of_item head i
      of (sendings.Piece k again) is given =
          let both : givings.Piece seq asked last ≡ givings.Piece k (asks looks.cwnd looks.sent k again)
          (piece_at looks.sent k).last = cc (given) in
          let seqs : seq ≡ k = cc (both) in
          let asked_ : asked ≡ asks looks.cwnd looks.sent k again = cc (both) in
          let last_ : last ≡ (piece_at looks.sent k).last = cc (both) in
          let its : i ≡ record {
            rank = sends.item.rank;
            name = sends.call.name;
            seq = k;
            flags = flags_of (asks looks.cwnd looks.sent k again) (piece_at looks.sent k).last;
            body = bodies.Chunk (piece_at looks.sent k).payload;
          } = sends.is ∙ ap (λ (x : Sending). item_of s sends.call (record { rank = sends.item.rank; sending = x }))
          is in
          (λ t. record {
            epoch = head.epoch;
            cid = head.cid;
            number = numbered t;
            seq = (seqs ∙ sym (ap (λ (j : Item). j.seq) its)) t;
            serial = head.serial;
            flags = (flagged ∙ (λ u. head.flags + flags_of (asked_ u) (last_ u))
                ∙ sym (ap (λ (j : Item). head.flags + j.flags) its)) t;
            status = head.status;
            index = head.index;
            spare = head.spare;
            service = head.service;
            body = (ap (λ (xs : List ℕ). bodies.Chunk xs) (said ∙ (λ u. (piece_at looks.sent (seqs u)).payload))
                ∙ sym (ap (λ (j : Item). j.body) its)) t;
          })
      of (sendings.Ack reason serial) is given = absurd (cc (given))

  -- of an acknowledgement
  pub sent_ack : (head : Head) (reason serial flags : ℕ) (ack : AckBody)
      → Some (givings.Ack reason serial) ≡ giving_of looks (next_sending (view_at n.ends n.moment) looks)
      → flags ≡ head.flags + flags_of (reason == ACK_PING) false
      → ack ≡ ack_body n.limits.window reason serial looks.received
      → head.number ≡ i.name.number → head.seq ≡ 0
      → message_with_head (record head { flags = flags }) (bodies.Ack ack) ≡ message_of_item head i
  sent_ack head reason serial flags ack given flagged said numbered seqless =
      of sends.item.sending refl (given ∙ ap (giving_of looks) next_is)
    where
      of : (sending : Sending) → sends.item.sending ≡ sending
          → Some (givings.Ack reason serial) ≡ giving_of looks (Some sending)
          → message_with_head (record head { flags = flags }) (bodies.Ack ack) ≡ message_of_item head i
      of (sendings.Piece k again) is given = absurd (cc (given))
      of (sendings.Ack why which) is given =
          let both : givings.Ack reason serial ≡ givings.Ack why which = cc (given) in
          let reasons : reason ≡ why = cc (both) in
          let serials : serial ≡ which = cc (both) in
          let its : i ≡ record {
            rank = sends.item.rank;
            name = sends.call.name;
            seq = 0;
            flags = flags_of (why == ACK_PING) false;
            body = bodies.Ack (ack_body n.limits.window why which looks.received);
          } = sends.is ∙ ap (λ (x : Sending). item_of s sends.call (record { rank = sends.item.rank; sending = x }))
          is in
          (λ t. record {
            epoch = head.epoch;
            cid = head.cid;
            number = numbered t;
            seq = (seqless ∙ sym (ap (λ (j : Item). j.seq) its)) t;
            serial = head.serial;
            flags = (flagged ∙ (λ u. head.flags + flags_of (reasons u == ACK_PING) false)
                ∙ sym (ap (λ (j : Item). head.flags + j.flags) its)) t;
            status = head.status;
            index = head.index;
            spare = head.spare;
            service = head.service;
            body = (ap (λ (a : AckBody). bodies.Ack a)
                (said ∙ (λ u. ack_body n.limits.window (reasons u) (serials u) looks.received))
                ∙ sym (ap (λ (j : Item). j.body) its)) t;
          })

  -- something is given
  pub sent_some : None ≡ giving_of looks (next_sending (view_at n.ends n.moment) looks) → ⊥
  sent_some none = of sends.item.sending (none ∙ ap (giving_of looks) next_is)
    where
      of : (sending : Sending) → None ≡ giving_of looks (Some sending) → ⊥
      of (sendings.Piece k again) none = cc (none)
      of (sendings.Ack why which) none = cc (none)
