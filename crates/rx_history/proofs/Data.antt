-- The DATA that a poll gives is the piece of its seq, of a call of its name.
use Rattle.std.proofs.Common.{◌≡◌, ◌&&◌, ◌||◌, ◌==◌, ◌<◌, ◌≤◌, ◌+◌, ◌-◌, ◌*◌, ◌%◌, ◌^◌, ℕ, ℤ, suc, if◌then◌else◌, not}
use Rattle.std.proofs.Common.{nat_lt, nat_le, is_some, Bool, true, false, List, [], ◌∷◌, ◌++◌, length, map, filter}
use Rattle.std.proofs.Common.{drop, length-take}
use Rattle.std.proofs.Common.{Option, Some, None, option_map, Result, Ok, Err, refl, ◌∙◌, ap, sym, subst, arith}
use Rattle.std.proofs.Common.{bit_and}
use Rattle.std.proofs.lemmas.Bool.Decides.{nat_tests}
use Rattle.rx_model.specs.declared.answers.BadMsg.{BadMsg}
use Rattle.rx_model.specs.declared.answers.BadMsg.TheVariants as faults
use Rattle.std.specs.Prelude.{slice_index}
use Rattle.rx_model.specs.declared.names.CallName.{CallName}
use Rattle.rx_model.specs.declared.names.Host.{Host}
use Rattle.rx_model.specs.declared.stray.Stray.{Stray}
use Rattle.rx_model.specs.declared.wire.TheConstants.{ACK_PING, CLIENT_INITIATED, LAST_PACKET}
use Rattle.rx_model.specs.Body.{Body}
use Rattle.rx_model.specs.Body as bodies
use Rattle.rx_rules.specs.CallItems.{CallItem, Sending, ack_items, again_items, asks, call_items, can_give, flags_of}
use Rattle.rx_rules.specs.CallItems.{fresh_items, item_at, lost_items, resend_after}
use Rattle.rx_rules.specs.CallItems.{piece_items, ping_items, sending_body, sending_flags, sending_seq}
use Rattle.rx_rules.specs.CallItems as sendings
use Rattle.rx_rules.specs.CallLooks.{packet_of}
use Rattle.rx_rules.specs.Items.{Item, all_channels, busy_items, challenge_body, channel_items, class_items}
use Rattle.rx_rules.specs.Items.{datagram_for, datagram_on, item_of}
use Rattle.rx_rules.specs.Items.{items, items_of, items_on, message_on, next_item, owed_item, poll_with}
use Rattle.rx_rules.specs.Items.{where_owed}
use Rattle.rx_rules.specs.Life.{is_live, is_active}
use Rattle.rx_rules.specs.Looks.{CallRecord, ChannelLooks, ConnLooks, Looks, call_at, call_named, channel_at, conn_at}
use Rattle.rx_rules.specs.Looks.{is_call, latest}
use Rattle.rx_rules.specs.Lost.{lost_of}
use Rattle.rx_model.specs.Message.{Message, has_flag}
use Rattle.rx_model.specs.Names.{Channel, Connection, connection_of, same_connection, same_name}
use Rattle.rx_rules.specs.Owing.{Owed}
use Rattle.rx_model.specs.Reading.{carries_payload, is_short_ack, ack_in, code_of, number_at, body_in, body_reading}
use Rattle.rx_model.specs.Reading.{message_with, reading_of, with_body}
use Rattle.rx_rules.specs.Records.{is_silent}
use Rattle.rx_rules.specs.Received.{Piece, reach}
use Rattle.rx_rules.specs.Sent.{LastGiving, counting_of, given_of, is_acked, last_giving, lowest_of, piece_at}
use Rattle.rx_rules.specs.Setup.{Setup, Kind, Server, Client, FitsSetup, client_host, is_client, named, side_flag}
use Rattle.rx_model.specs.Spelling.{IsPlain, IsPlainBody, kind_of, made}
use Rattle.rx_model.specs.Strays.{stray_message}
use Rattle.rx_rules.proofs.FindLaws.{find_passes}
use Rattle.rx_rules.proofs.LeastLaws.{least-keeps}
use Rattle.rx_rules.proofs.LostLaws.{lost_within}
use Rattle.rx_rules.proofs.SentLaws.{given-within}
use Rattle.rx_model.proofs.MessageLaws.{reads_back}
use Rattle.rx_model.proofs.NameLaws.{both, connection_is, name_is, not_true}
use Rattle.rx_history.proofs.Conns.{Conns, OfKind, found-good}
use Rattle.rx_history.proofs.Ends.{ends_of}
use Rattle.rx_rules.proofs.EveryLaws.{Every, every-append, every-filter}
use Rattle.rx_history.proofs.Turns.{SendsOf, counting}

-- ---- names

-- a client's own names
abbrev pub OwnName : Kind → CallName → Type 0
OwnName (Client host epoch) c = (c.host ≡ host) × (c.epoch ≡ epoch)
OwnName (Server service nonces) c = Unit {0}

-- a name whose numbers fit their fields
pub record GoodName (s : Setup) (c : CallName) : Type 0 where
  pub epoch : c.epoch < 2 ^ 32
  pub whole : c.cid + c.chan < 2 ^ 32
  pub split : (c.cid + c.chan) % 4 ≡ c.chan
  pub number : c.number < 2 ^ 32
  pub own : OwnName s.kind c

-- what stands of each call that has a record
pub record GoodCall (s : Setup) (l : Looks) (c : CallName) : Type 0 where
  pub sends : SendsOf (ends_of (call_at l c))
  pub named : is_some (call_at l c) ≡ true → GoodName s c

-- ---- only DATA is read as DATA

same_ok : (a b : Body) → ◌≡◌ {A = Result Body BadMsg} (Ok a) (Ok b) → a ≡ b
same_ok a b is = cc

pub same_message : (a b : Message) → ◌≡◌ {A = Result Message BadMsg} (Ok a) (Ok b) → a ≡ b
same_message a b is = cc

chunk-in : (kind : ℕ) (rest payload : List ℕ) → body_in kind rest ≡ bodies.Chunk payload → (kind == 1) ≡ true
chunk-in kind rest payload is = of (kind == 1) (kind == 2) (kind == 3) (kind == 4) (kind == 5) (kind == 6) is
  where
    of : (a b c d e f : Bool)
        → (if a then bodies.Chunk rest else if b then bodies.Ack (ack_in rest) else if c then bodies.Busy
        else if d then bodies.Abort (code_of (number_at 4 0 rest)) else if e then bodies.AckAll
        else if f then bodies.Challenge rest else bodies.Response rest) ≡ bodies.Chunk payload → a ≡ true
    of true b c d e f is = refl
    of false true c d e f is = absurd cc
    of false false true d e f is = absurd cc
    of false false false true e f is = absurd cc
    of false false false false true f is = absurd cc
    of false false false false false true is = absurd cc
    of false false false false false false is = absurd cc

abbrev ok_body : Body → Result Body BadMsg
ok_body body = Ok body

five : (a b c d e : Bool) (f g h i j : BadMsg) (x y : Body) → (if a then Err f else if b then Err g else if c then Err h
    else if d then Err i else if e then Err j else ok_body x) ≡ ok_body y → x ≡ y
five true b c d e f g h i j x y is = absurd cc
five false true c d e f g h i j x y is = absurd cc
five false false true d e f g h i j x y is = absurd cc
five false false false true e f g h i j x y is = absurd cc
five false false false false true f g h i j x y is = absurd cc
five false false false false false f g h i j x y is = same_ok x y is

chunk-kind : (kind flags : ℕ) (rest : List ℕ) (body : Body) (payload : List ℕ) → body_reading kind flags rest ≡ Ok body
    → body ≡ bodies.Chunk payload → (kind == 1) ≡ true
chunk-kind kind flags rest body payload is chunk =
    let e = five ((kind == 0) || nat_lt 7 kind) ((kind == 1) && has_flag 32 flags)
    (carries_payload kind && nat_lt 1444 (length rest))
    ((kind == 2) && is_short_ack rest) ((kind == 4) && nat_lt (length rest) 4) (faults.Kind kind) faults.Jumbo
    (faults.TooLong (length rest)) faults.AckShort faults.AbortShort (body_in kind rest) body is in
    chunk-in kind rest payload (e ∙ chunk)

with-body-is : (bytes : List ℕ) (r : Result Body BadMsg) (m : Message) → with_body bytes r ≡ Ok m → r ≡ Ok m.body
with-body-is bytes (Err bad) m is = absurd cc
with-body-is bytes (Ok body) m is =
    (let same : message_with bytes body ≡ m = same_message (message_with bytes body) m is in
    ap (λ (x : Message). Ok x.body) same)

pub long-enough : (test : Bool) (bad : BadMsg) (rest : Result Message BadMsg) (m : Message)
    → (if test then Err bad else rest) ≡ Ok m → rest ≡ Ok m
long-enough true bad rest m is = absurd cc
long-enough false bad rest m is = is

is-chunk : (body : Body) → (kind_of body == 1) ≡ true → (p : List ℕ) × (body ≡ bodies.Chunk p)
is-chunk (bodies.Chunk payload) is = (payload, refl)
is-chunk bodies.Busy is = absurd cc
is-chunk (bodies.Ack a) is = absurd cc
is-chunk (bodies.Abort code) is = absurd cc
is-chunk bodies.AckAll is = absurd cc
is-chunk (bodies.Challenge bytes) is = absurd cc
is-chunk (bodies.Response bytes) is = absurd cc

-- what was made and is read as DATA was DATA
pub made-chunk : (n m : Message) (payload : List ℕ) → reading_of (made n) ≡ Ok m → m.body ≡ bodies.Chunk payload
    → (p : List ℕ) × (n.body ≡ bodies.Chunk p)
made-chunk n m payload reads chunk =
    let body = with-body-is (made n) (body_reading (slice_index (made n) 20) (slice_index (made n) 21)
    (drop 28 (made n))) m (long-enough (nat_lt (length (made n)) 28) (faults.Short (length (made n)))
    (with_body (made n) (body_reading (slice_index (made n) 20) (slice_index (made n) 21)
    (drop 28 (made n)))) m reads) in
    is-chunk n.body (chunk-kind (kind_of n.body) (slice_index (made n) 21) (drop 28 (made n)) m.body payload body chunk)

-- ---- the items

-- the piece that an item brings
pub record SaysPiece (s : Setup) (l : Looks) (i : Item) (payload : List ℕ) : Type 0 where
  pub call : CallRecord
  pub there : call_at l i.name ≡ Some call
  pub behind : ℕ
  pub seq : i.seq ≡ suc behind
  pub counts : suc behind ≤ counting_of call.looks.sent
  pub payload_is : payload ≡ (piece_at call.looks.sent (suc behind)).payload
  pub last : has_flag LAST_PACKET (side_flag s.kind + i.flags) ≡ (piece_at call.looks.sent (suc behind)).last
  pub flags : side_flag s.kind + i.flags < 8
  pub active : is_active call.life ≡ true
  pub awake : is_silent l.now call ≡ false

-- its flags tell the kind of its node
abbrev pub Flagged : Setup → Item → Type 0
Flagged s i = has_flag CLIENT_INITIATED (bit_and (side_flag s.kind + i.flags) 7) ≡ is_client s.kind

abbrev pub Says : Setup → Looks → Item → Type 0
Says s l i = Flagged s i × ((payload : List ℕ) → i.body ≡ bodies.Chunk payload → SaysPiece s l i payload)

-- it isn't DATA
abbrev NoChunk : Body → Type 0
NoChunk (bodies.Chunk payload) = ⊥
NoChunk _ = Unit {0}

no-chunk : (body : Body) (payload : List ℕ) → NoChunk body → body ≡ bodies.Chunk payload → ⊥
no-chunk (bodies.Chunk p) payload non is = non
no-chunk bodies.Busy payload non is = absurd cc
no-chunk (bodies.Ack a) payload non is = absurd cc
no-chunk (bodies.Abort code) payload non is = absurd cc
no-chunk bodies.AckAll payload non is = absurd cc
no-chunk (bodies.Challenge bytes) payload non is = absurd cc
no-chunk (bodies.Response bytes) payload non is = absurd cc

abbrev IfNoChunk : Option Body → Type 0
IfNoChunk None = Unit {0}
IfNoChunk (Some body) = NoChunk body

module _ (s : Setup) (l : Looks) (good : (c : CallName) → GoodCall s l c) where
  flags-none : (kind : Kind) → has_flag CLIENT_INITIATED (bit_and (side_flag kind + 0) 7) ≡ is_client kind
  flags-none (Server service nonces) = refl
  flags-none (Client host epoch) = refl

  flags-side : (kind : Kind) (asks last : Bool) → has_flag CLIENT_INITIATED
      (bit_and (side_flag kind + flags_of asks last) 7) ≡ is_client kind
  flags-side (Server service nonces) true true = refl
  flags-side (Server service nonces) true false = refl
  flags-side (Server service nonces) false true = refl
  flags-side (Server service nonces) false false = refl
  flags-side (Client host epoch) true true = refl
  flags-side (Client host epoch) true false = refl
  flags-side (Client host epoch) false true = refl
  flags-side (Client host epoch) false false = refl

  owed-says : (c : CallName) (o : Option Body) → IfNoChunk o → Every (Says s l) (owed_item c o)
  owed-says c None non = tt
  owed-says c (Some body) non = ((flags-none s.kind, λ payload is. absurd (no-chunk body payload non is)), tt)

  where-no : (b : Bool) (body : Body) → NoChunk body → IfNoChunk (where_owed b body)
  where-no true body non = non
  where-no false body non = tt

  busy-says : (ch : Channel) (o : Option ℕ) → Every (Says s l) (busy_items ch o)
  busy-says ch None = tt
  busy-says ch (Some number) = owed-says (call_named ch number) (Some bodies.Busy) tt

  abort-no : (o : Option ℤ) → IfNoChunk (option_map bodies.Abort o)
  abort-no None = tt
  abort-no (Some code) = tt

  response-no : (o : Option (List ℕ)) → IfNoChunk (option_map bodies.Response o)
  response-no None = tt
  response-no (Some bytes) = tt

  class-says : (c : CallName) (q : ChannelLooks) (living : Bool) → Every (Says s l) (class_items s l c q living)
  class-says c q true =
      every-append (Says s l) (owed_item c (challenge_body s l c q.owed_challenge))
      (owed_item c (option_map bodies.Response q.owed_response))
      (owed-says c (challenge_body s l c q.owed_challenge) (where-no _ _ tt))
      (owed-says c (option_map bodies.Response q.owed_response) (response-no q.owed_response))
  class-says c q false = tt

  -- ---- of a call

  -- its piece counts
  abbrev pub Sound : CallRecord → Sending → Type 0
  Sound k (sendings.Piece seq again) = (j : ℕ) × (seq ≡ suc j) × (suc j ≤ counting_of k.looks.sent)
  Sound k (sendings.Ack reason serial) = Unit {0}

  pub flags-low : (kind : Kind) (asks last : Bool) → side_flag kind + flags_of asks last < 8
  flags-low (Server service nonces) true true = omega arith
  flags-low (Server service nonces) true false = omega arith
  flags-low (Server service nonces) false true = omega arith
  flags-low (Server service nonces) false false = omega arith
  flags-low (Client host epoch) true true = omega arith
  flags-low (Client host epoch) true false = omega arith
  flags-low (Client host epoch) false true = omega arith
  flags-low (Client host epoch) false false = omega arith

  flags-last : (kind : Kind) (asks last : Bool) → has_flag LAST_PACKET (side_flag kind + flags_of asks last) ≡ last
  flags-last (Server service nonces) true true = refl
  flags-last (Server service nonces) true false = refl
  flags-last (Server service nonces) false true = refl
  flags-last (Server service nonces) false false = refl
  flags-last (Client host epoch) true true = refl
  flags-last (Client host epoch) true false = refl
  flags-last (Client host epoch) false true = refl
  flags-last (Client host epoch) false false = refl

  chunk_is : (a b : List ℕ) → bodies.Chunk a ≡ bodies.Chunk b → a ≡ b
  chunk_is a b is = cc

  item-says : (k : CallRecord) (i : CallItem) → call_at l k.name ≡ Some k
      → (is_active k.life && not (is_silent l.now k)) ≡ true
      → Sound k i.sending → Says s l (item_of s k i)
  item-says k i there speaks sound = (side i.sending, of i.sending sound)
    where
      side : (sending : Sending) → Flagged s (item_of s k (record { rank = i.rank; sending = sending }))
      side (sendings.Piece seq again) = flags-side s.kind (asks k.looks.cwnd k.looks.sent seq again)
          (piece_at k.looks.sent seq).last
      side (sendings.Ack reason serial) = flags-side s.kind (reason == ACK_PING) false

      of : (sending : Sending) → Sound k sending → (payload : List ℕ)
          → (item_of s k (record { rank = i.rank; sending = sending })).body ≡ bodies.Chunk payload
          → SaysPiece s l (item_of s k (record { rank = i.rank; sending = sending })) payload
      of (sendings.Piece seq again) sound payload is =
          let at : piece_at k.looks.sent seq ≡ piece_at k.looks.sent (suc sound.0) = ap
          (piece_at k.looks.sent) sound.1 in
          record {
            call = k;
            there = there;
            behind = sound.0;
            seq = sound.1;
            counts = sound.2;
            payload_is = sym (chunk_is (piece_at k.looks.sent seq).payload payload is)
                ∙ ap (λ (p : Piece). p.payload) at;
            last =
                flags-last s.kind (asks k.looks.cwnd k.looks.sent seq again) (piece_at k.looks.sent seq).last
                ∙ ap (λ (p : Piece). p.last) at;
            flags = flags-low s.kind (asks k.looks.cwnd k.looks.sent seq again) (piece_at k.looks.sent seq).last;
            active = (both (is_active k.life) (not (is_silent l.now k)) speaks).0;
            awake = not_true (is_silent l.now k) (both (is_active k.life) (not (is_silent l.now k)) speaks).1;
          }
      of (sendings.Ack reason serial) sound payload is = absurd cc

  map-says : (k : CallRecord) (is : List CallItem) → call_at l k.name ≡ Some k
      → (is_active k.life && not (is_silent l.now k)) ≡ true
      → Every (λ i. Sound k i.sending) is → Every (Says s l) (map (item_of s k) is)
  map-says k [] there speaks all = tt
  map-says k (i ∷ is) there speaks all = (item-says k i there speaks all.0, map-says k is there speaks all.1)

  below-is : (a b : ℕ) → nat_lt a b ≡ true → a < b
  below-is a b is = grind (arith, nat_tests)

  fresh-sound : (k : CallRecord) → Every (λ i. Sound k i.sending) (fresh_items k.looks.cwnd k.looks.sent)
  fresh-sound k =
      (elim (can_give k.looks.cwnd k.looks.sent) as (λ b. can_give k.looks.cwnd k.looks.sent ≡ b
      → Every (λ i. Sound k i.sending) (if b then item_at 0 (sendings.Piece
      (suc (given_of k.looks.sent)) false) else [])) [
        | true ↦ λ may. (
            let counts = below-is (given_of k.looks.sent) (counting_of k.looks.sent)
            (both (nat_lt (given_of k.looks.sent) (counting_of k.looks.sent)) _ may).0 in
            ((given_of k.looks.sent, refl, omega arith), tt))
        | false ↦ λ non. tt
      ]) refl

  again-sound : (k : CallRecord) (wait below : ℕ) (o : Option LastGiving)
      → given_of k.looks.sent ≤ counting_of k.looks.sent
      → last_giving k.looks.sent.givings (suc below) ≡ o → Every (λ i. Sound k i.sending)
      (again_items wait (suc below) o)
  again-sound k wait below None counts is = tt
  again-sound k wait below (Some g) counts is =
      let high : suc below ≤ given_of k.looks.sent = given-within k.looks.sent.givings (suc below) g is in
      ((below, refl, omega arith), tt)

  lost-sound : (k : CallRecord) (o : Option ℕ) → given_of k.looks.sent ≤ counting_of k.looks.sent
      → lost_of k.looks.cwnd k.looks.sent ≡ o → Every (λ i. Sound k i.sending) (lost_items o)
  lost-sound k None counts is = tt
  lost-sound k (Some seq) counts is =
      let given = lost_within k.looks.cwnd k.looks.sent seq is in
      ((given.behind, given.is, (let low = given.low in omega arith)), tt)

  pieces-sound : (k : CallRecord) → SendsOf (ends_of (Some k))
      → Every (λ i. Sound k i.sending) (piece_items k.looks.rtt.rto k.looks.cwnd k.looks.sent)
  pieces-sound k sends =
      let given : Option LastGiving = last_giving k.looks.sent.givings (lowest_of k.looks.sent) in
      let wait : ℕ = resend_after k.looks.rtt.rto k.looks.cwnd.prompt given in
      let again : List CallItem = again_items wait (lowest_of k.looks.sent) given in
      every-append (λ i. Sound k i.sending) (lost_items (lost_of k.looks.cwnd k.looks.sent))
      (fresh_items k.looks.cwnd k.looks.sent ++ again)
      (lost-sound k (lost_of k.looks.cwnd k.looks.sent) sends.counts refl)
      (every-append (λ i. Sound k i.sending) (fresh_items k.looks.cwnd k.looks.sent) again (fresh-sound k)
      (again-sound k wait (reach (is_acked k.looks.sent) (given_of k.looks.sent)) given sends.counts refl))

  acks-sound : (k : CallRecord) (o : Option Owed) → Every (λ i. Sound k i.sending) (ack_items o)
  acks-sound k None = tt
  acks-sound k (Some owed) = (tt, tt)

  pings-sound : (k : CallRecord) (client : Bool) (spoke : ℕ) → Every (λ i. Sound k i.sending) (ping_items client spoke)
  pings-sound k true spoke = (tt, tt)
  pings-sound k false spoke = tt

  pub call-sound : (k : CallRecord) (client : Bool) → SendsOf (ends_of (Some k))
      → Every (λ i. Sound k i.sending) (call_items client k.looks)
  call-sound k client sends =
      every-append (λ i. Sound k i.sending) (piece_items k.looks.rtt.rto k.looks.cwnd k.looks.sent)
      (ack_items k.looks.owed_ack ++ ping_items client k.looks.spoke) (pieces-sound k sends)
      (every-append (λ i. Sound k i.sending) (ack_items k.looks.owed_ack) (ping_items client k.looks.spoke)
      (acks-sound k k.looks.owed_ack) (pings-sound k client k.looks.spoke))

  of-says : (name : CallName) (o : Option CallRecord) → call_at l name ≡ o → Every (Says s l) (items_of s l o)
  of-says name None is = tt
  of-says name (Some k) is =
      let named : k.name ≡ name = name_is k.name name (find_passes (λ j. same_name j.name name) l.calls k is) in
      let there : call_at l k.name ≡ Some k = subst (λ (n : CallName). call_at l n ≡ Some k) (sym named) is in
      let sends : SendsOf (ends_of (Some k)) = subst (λ (o : Option CallRecord). SendsOf (ends_of o)) is
      (good name).sends in
      (elim (is_active k.life && not (is_silent l.now k))
      as (λ b. (is_active k.life && not (is_silent l.now k)) ≡ b
      → Every (Says s l) (if b then map (item_of s k) (call_items (is_client s.kind) k.looks) else [])) [
        | true ↦ λ speaks. map-says k (call_items (is_client s.kind) k.looks) there speaks
            (call-sound k (is_client s.kind) sends)
        | false ↦ λ rests. tt
      ]) refl

  channel-says : (ch : Channel) → Every (Says s l) (channel_items s l ch)
  channel-says ch =
      let q : ChannelLooks = channel_at l ch in
      let c : CallName = call_named ch q.number in
      let living : Bool = is_call (λ k. is_live k.life) (latest l ch) in
      every-append (Says s l) (owed_item c (option_map bodies.Abort q.owed_abort)) _
      (owed-says c (option_map bodies.Abort q.owed_abort) (abort-no q.owed_abort))
      (every-append (Says s l) (busy_items ch q.owed_busy) _ (busy-says ch q.owed_busy)
      (every-append (Says s l) (class_items s l c q living) _ (class-says c q living)
      (every-append (Says s l) (owed_item c (where_owed q.owed_ackall bodies.AckAll)) (items_of s l (latest l ch))
      (owed-says c (where_owed q.owed_ackall bodies.AckAll) (where-no q.owed_ackall bodies.AckAll tt))
      (of-says c (latest l ch) refl))))

  on-says : (chs : List Channel) → Every (Says s l) (items_on s l chs)
  on-says [] = tt
  on-says (ch ∷ chs) = every-append (Says s l) (channel_items s l ch) (items_on s l chs) (channel-says ch) (on-says chs)

  -- the next item's DATA is the piece of its seq
  pub next-says : (i : Item) → next_item s l ≡ Some i → Says s l i
  next-says i is =
      least-keeps (Says s l) (λ i. i.rank) (filter (λ i. nat_le i.rank l.now) (items s l))
      (every-filter (Says s l) (λ i. nat_le i.rank l.now) (items s l) (on-says (all_channels l.conns))) i is

-- ---- its datagram

-- a datagram that is read as DATA brings a piece of a call
pub record GivesPiece (s : Setup) (l : Looks) (to : Host) (m : Message) (payload : List ℕ) : Type 0 where
  pub call : CallRecord
  pub there : call_at l (named s to m) ≡ Some call
  pub behind : ℕ
  pub seq : m.seq ≡ suc behind
  pub counts : suc behind ≤ counting_of call.looks.sent
  pub piece : (packet_of m payload).piece ≡ piece_at call.looks.sent (suc behind)
  pub active : is_active call.life ≡ true
  pub awake : is_silent l.now call ≡ false

pub counting-low : (shut : Bool) (n : ℕ) → n ≤ 1412 * 4294967294 → counting shut n < 2 ^ 32
counting-low true n low = omega arith
counting-low false n low = omega arith

-- its name is the item's
pub name-again : (s : Setup) (r : ConnLooks) (i : Item) → OfKind s.kind r → r.connection ≡ connection_of i.name
    → GoodName s i.name
    → named s r.peer (message_on s i r) ≡ i.name
name-again s r i kind own name =
    let split = name.split in
    let whole : (i.name.cid + i.name.chan) - (i.name.cid + i.name.chan) % 4 ≡ i.name.cid = omega arith in
    let host : client_host s.kind r.peer ≡ i.name.host = of s.kind kind name.own in
    λ j. record { host = host j; epoch = i.name.epoch; cid = whole j; chan = split j; number = i.name.number }
  where
    of : (k : Kind) → OfKind k r → OwnName k i.name → client_host k r.peer ≡ i.name.host
    of (Server service nonces) kind name = kind.0 ∙ ap (λ (x : Connection). x.host) own
    of (Client host epoch) kind name = sym name.0

pub some_pair : (a b : Host × List ℕ) → Some a ≡ Some b → a ≡ b
some_pair a b is = cc

item-gives : (s : Setup) (l : Looks) (i : Item) (o : Option ConnLooks) (to : Host) (bytes : List ℕ) (m : Message)
    (payload : List ℕ)
    → FitsSetup s → Conns s l → ((c : CallName) → GoodCall s l c) → conn_at l (connection_of i.name) ≡ o → Says s l i
    → datagram_on s i o ≡ Some (to, bytes) → reading_of bytes ≡ Ok m → m.body ≡ bodies.Chunk payload
    → GivesPiece s l to m payload
item-gives s l i None to bytes m payload fits conns good there says is reads chunk = absurd cc
item-gives s l i (Some r) to bytes m payload fits conns good there says is reads chunk =
    let both_are = some_pair (r.peer, made (message_on s i r)) (to, bytes) is in
    let text : made (message_on s i r) ≡ bytes = ap (λ (p : Host × List ℕ). p.1) both_are in
    let peer : r.peer ≡ to = ap (λ (p : Host × List ℕ). p.0) both_are in
    let read : reading_of (made (message_on s i r)) ≡ Ok m = ap reading_of text ∙ reads in
    let chunked = made-chunk (message_on s i r) m payload read chunk in
    let p = says.1 chunked.0 chunked.1 in
    let conn = found-good s (λ q. same_connection q.connection (connection_of i.name)) l.conns r conns there in
    let own = connection_is r.connection (connection_of i.name)
    (find_passes (λ q. same_connection q.connection (connection_of i.name)) l.conns r there) in
    let name = (good i.name).named (rw p.there refl) in
    let sends : SendsOf (ends_of (Some p.call)) = subst (λ (o : Option CallRecord). SendsOf (ends_of o)) p.there
    (good i.name).sends in
    let top = counting-low p.call.looks.sent.shut (length p.call.looks.sent.said) sends.fits in
    let plain : IsPlain (message_on s i r) =
    record {
      epoch = name.epoch;
      cid = name.whole;
      number = name.number;
      seq = (let is_seq = p.seq in let counts = p.counts in omega arith);
      serial = omega arith;
      flags = p.flags;
      status = refl;
      index = fits.class.index;
      spare = refl;
      service = conn.service;
      body = subst IsPlainBody (sym chunked.1) (let is_payload = ap (λ (xs : List ℕ). length xs) p.payload_is in omega
          (arith, length-take 1412 (drop (1412 * p.behind) p.call.looks.sent.said)));
    } in
    let same : message_on s i r ≡ m = same_message (message_on s i r) m
    (sym (reads_back (message_on s i r) plain) ∙ read) in
    let again = name-again s r i conn.kind own name in
    let named_is : named s to m ≡ i.name = ap (named s to) (sym same)
    ∙ ap (λ (h : Host). named s h (message_on s i r)) (sym peer) ∙ again in
    let bytes_is : chunked.0 ≡ payload = chunk_same chunked.0 payload
    (sym chunked.1 ∙ ap (λ (x : Message). x.body) same ∙ chunk) in
    let last_is : has_flag LAST_PACKET m.flags ≡ (piece_at p.call.looks.sent (suc p.behind)).last =
    ap (λ (x : Message). has_flag LAST_PACKET x.flags) (sym same) ∙ p.last in
    let payload_is : payload ≡ (piece_at p.call.looks.sent (suc p.behind)).payload = sym bytes_is ∙ p.payload_is in
    record {
      call = p.call;
      there = ap (call_at l) named_is ∙ p.there;
      behind = p.behind;
      seq = ap (λ (x : Message). x.seq) (sym same) ∙ p.seq;
      counts = p.counts;
      piece = λ j. record { payload = payload_is j; last = last_is j };
      active = p.active;
      awake = p.awake;
    }
  where
    chunk_same : (a b : List ℕ) → bodies.Chunk a ≡ bodies.Chunk b → a ≡ b
    chunk_same a b is = cc

no-stray : (x : Stray) (to : Host) (bytes : List ℕ) (m : Message) (payload : List ℕ)
    → ◌≡◌ {A = Option (Host × List ℕ)} (Some (x.host, made (stray_message x))) (Some (to, bytes))
    → reading_of bytes ≡ Ok m → m.body ≡ bodies.Chunk payload → ⊥
no-stray x to bytes m payload is reads chunk =
    let text : made (stray_message x) ≡ bytes = ap (λ (p : Host × List ℕ). p.1)
    (some_pair (x.host, made (stray_message x)) (to, bytes) is) in
    let chunked = made-chunk (stray_message x) m payload (ap reading_of text ∙ reads) chunk in
    absurd (let e = chunked.1 in cc (e))

module _ (s : Setup) (l : Looks) where
  -- what a poll gives and is read as DATA is a piece of a call
  pub poll-gives : (strays : List Stray) (to : Host) (bytes : List ℕ) (m : Message) (payload : List ℕ) → FitsSetup s
      → Conns s l → ((c : CallName) → GoodCall s l c) → poll_with s l strays ≡ Some (to, bytes)
      → reading_of bytes ≡ Ok m → m.body ≡ bodies.Chunk payload → GivesPiece s l to m payload
  poll-gives (x ∷ xs) to bytes m payload fits conns good is reads chunk = absurd
      (no-stray x to bytes m payload is reads chunk)
  poll-gives [] to bytes m payload fits conns good is reads chunk = of (next_item s l) refl is
    where
      of : (o : Option Item) → next_item s l ≡ o → datagram_for s l o ≡ Some (to, bytes) → GivesPiece s l to m payload
      of None next is = absurd cc
      of (Some i) next is =
          item-gives s l i (conn_at l (connection_of i.name)) to bytes m payload fits conns good refl
          (next-says s l good i next) is reads chunk

-- ---- whose it is

reads-flags : (bytes : List ℕ) (m : Message) → reading_of bytes ≡ Ok m → m.flags ≡ slice_index bytes 21
reads-flags bytes m reads =
    of (body_reading (slice_index bytes 20) (slice_index bytes 21) (drop 28 bytes))
    (long-enough (nat_lt (length bytes) 28) (faults.Short (length bytes))
    (with_body bytes (body_reading (slice_index bytes 20) (slice_index bytes 21) (drop 28 bytes))) m reads)
  where
    of : (r : Result Body BadMsg) → with_body bytes r ≡ Ok m → m.flags ≡ slice_index bytes 21
    of (Err bad) is = absurd cc
    of (Ok body) is = ap (λ (x : Message). x.flags) (sym (same_message (message_with bytes body) m is))

made-flags : (n m : Message) (bytes : List ℕ) → made n ≡ bytes → reading_of bytes ≡ Ok m → m.flags ≡ bit_and n.flags 7
made-flags n m bytes text reads = reads-flags (made n) m (ap reading_of text ∙ reads)

-- what a poll gives has the flag of its node, where a client owes no stray abort
pub poll-flag : (s : Setup) (l : Looks) (strays : List Stray) (to : Host) (bytes : List ℕ) (m : Message)
    → ((c : CallName) → GoodCall s l c)
    → (is_client s.kind ≡ true → strays ≡ []) → poll_with s l strays ≡ Some (to, bytes) → reading_of bytes ≡ Ok m
    → has_flag CLIENT_INITIATED m.flags ≡ is_client s.kind
poll-flag s l (x ∷ xs) to bytes m good none is reads =
    let text : made (stray_message x) ≡ bytes = ap (λ (p : Host × List ℕ). p.1)
    (some_pair (x.host, made (stray_message x)) (to, bytes) is) in
    ap (has_flag CLIENT_INITIATED) (made-flags (stray_message x) m bytes text reads) ∙ of s.kind none
  where
    of : (k : Kind) → (is_client k ≡ true → x ∷ xs ≡ []) → false ≡ is_client k
    of (Server service nonces) none = refl
    of (Client host epoch) none = absurd (let e = none refl in cc (e))
poll-flag s l [] to bytes m good none is reads = of (next_item s l) refl is
  where
    at : (i : Item) (o : Option ConnLooks) → Says s l i → datagram_on s i o ≡ Some (to, bytes)
        → has_flag CLIENT_INITIATED m.flags ≡ is_client s.kind
    at i None says is = absurd cc
    at i (Some r) says is =
        let text : made (message_on s i r) ≡ bytes = ap (λ (p : Host × List ℕ). p.1)
        (some_pair (r.peer, made (message_on s i r)) (to, bytes) is) in
        ap (has_flag CLIENT_INITIATED) (made-flags (message_on s i r) m bytes text reads) ∙ says.0

    of : (o : Option Item) → next_item s l ≡ o → datagram_for s l o ≡ Some (to, bytes)
        → has_flag CLIENT_INITIATED m.flags ≡ is_client s.kind
    of None next is = absurd cc
    of (Some i) next is = at i (conn_at l (connection_of i.name)) (next-says s l good i next) is
