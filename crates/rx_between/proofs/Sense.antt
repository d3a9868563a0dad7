-- Whatever one end of a call gave makes sense at the other, whenever it comes, along any joint history of its
-- connection whose server starts no call anew.
use Rattle.std.proofs.Common.{◌≡◌, ◌≤◌, ◌*◌, ◌==◌, ◌&&◌, ℕ, Bool, true, false, List, length, Option, Some}
use Rattle.std.proofs.Common.{None, Ok, is_some, refl, ◌∙◌, ap, sym, subst, arith}
use Rattle.rx_model.specs.declared.event.Event.{Event}
use Rattle.rx_model.specs.declared.event.Noted.{Noted}
use Rattle.rx_model.specs.declared.names.CallName.{CallName}
use Rattle.rx_model.specs.Body.{AckBody, Body}
use Rattle.rx_model.specs.Body as bodies
use Rattle.rx_model.specs.Message.{Message}
use Rattle.rx_model.specs.Names.{connection_of}
use Rattle.rx_model.specs.Reading.{reading_of}
use Rattle.rx_model.proofs.NameLaws.{number_itself}
use Rattle.rx_rules.specs.After.{looks}
use Rattle.rx_rules.specs.CallLooks.{CallLooks, call_row, packet_of}
use Rattle.rx_rules.specs.Looks.{CallRecord, call_at}
use Rattle.rx_rules.specs.Received.{Packet, Piece, Received, greatest, packet_at, used_of}
use Rattle.rx_rules.specs.Sent.{Sent, given_of, is_all_given, pieces_by, pieces_of}
use Rattle.rx_rules.specs.Setup.{Setup, is_client, named, receiving_window}
use Rattle.rx_law.specs.Pieces.{IsAt}
use Rattle.rx_history.specs.Sides.{side}
use Rattle.rx_law.specs.Worlds.{Gave, TwoEnds}
use Rattle.rx_law.proofs.Carries.{Carries}
use Rattle.rx_history.proofs.ClientHistory.{client-calls}
use Rattle.rx_history.proofs.Ends.{ends_of}
use Rattle.rx_law.proofs.Fronts.{ArePieces}
use Rattle.rx_law.proofs.Joint.{Fed, between, client-grown, given-says, server-grown}
use Rattle.rx_history.proofs.ServerStands.{server-stands}
use Rattle.rx_history.proofs.Turns.{SendsOf, counting}
use Rattle.rx_history.proofs.Laws.UsedLaws.{used_within}
use Rattle.rx_between.specs.Acknowledged.{received_by, sent_by}
use Rattle.rx_between.specs.Agreed.{Agrees, AreGiven, MakesSense, SenseAt, SenseOn, passed_at}
use Rattle.rx_between.specs.Told.{IsEarlierAck}
use Rattle.rx_between.proofs.Along.{Stands}
use Rattle.rx_between.proofs.AllAgree.{all_agree, client_only_gives, server_only_gives}
use Rattle.rx_between.proofs.BothTrue.{all-used, no-client, kept-is, said-is, shut-is}
use Rattle.rx_between.proofs.CameAll.{CameAll}
use Rattle.rx_between.proofs.GivenAckAlls.{given_ackalls, no_ackalls}
use Rattle.rx_between.proofs.GivenAcks.{given_acks}
use Rattle.rx_between.proofs.GivenSeqs.{given_seqs}
use Rattle.rx_between.proofs.Histories.{client_only_grows, client_whole, server_only_grows, server_whole}
use Rattle.rx_between.proofs.HonestRows.{IsGivenTo, ack_makes_sense, ackall_makes_sense, data_makes_sense}
use Rattle.rx_between.proofs.SaysLate.{given_data}
use Rattle.rx_rules.proofs.ReachLaws.{reach_within}

-- ---- of a call that is looked for

pub passed_sent : (s : Setup) (now : ℕ) (o : Option CallRecord) → (passed_at s now o).sent ≡ sent_by o
passed_sent s now None = refl
passed_sent s now (Some k) = refl

pub passed_received : (s : Setup) (now : ℕ) (o : Option CallRecord) → (passed_at s now o).received ≡ received_by o
passed_received s now None = refl
passed_received s now (Some k) = refl

-- as many pieces were given as there are, and each has a seq
counts_by : (n : ℕ) (shut : Bool) → counting shut n ≤ pieces_by n shut
counts_by n true = omega arith
counts_by n false = omega arith

fits_by : (n : ℕ) (shut : Bool) → n ≤ 1412 * 4294967294 → counting shut n ≤ 4294967294
fits_by n true low = omega arith
fits_by n false low = omega arith

-- what is known of a sender
pub record Gives (sent : Sent) : Type 0 where
  pub counts : given_of sent ≤ pieces_of sent
  pub fits : given_of sent ≤ 4294967294

gives_of : (o : Option CallRecord) → SendsOf (ends_of o) → Gives (sent_by o)
gives_of None sends = record { counts = omega arith; fits = omega arith }
gives_of (Some k) sends =
    (let count = counts_by (length k.looks.sent.said) k.looks.sent.shut in
    let fits = fits_by (length k.looks.sent.said) k.looks.sent.shut sends.fits in
    let low = sends.counts in
    record { counts = omega arith; fits = omega arith })

-- its pieces, kept by the other end
pieces_of_it : (a b : Option CallRecord) → Carries (ends_of a).said (ends_of a).shut (ends_of b)
    → ArePieces (sent_by a).said (sent_by a).shut (received_by b).kept
pieces_of_it a b carries =
    (let same = subst (λ (ps : List Packet). ArePieces (ends_of a).said (ends_of a).shut ps) (kept-is b)
    carries.pieces in
    subst (λ (u : Bool). ArePieces (sent_by a).said u (received_by b).kept) (shut-is a)
    (subst (λ (xs : List ℕ). ArePieces xs (ends_of a).shut (received_by b).kept) (said-is a) same))

at_of_it : (a : Option CallRecord) (seq : ℕ) (p : Piece) → IsAt (ends_of a).said (ends_of a).shut seq p
    → IsAt (sent_by a).said (sent_by a).shut seq p
at_of_it a seq p at =
    subst (λ (u : Bool). IsAt (sent_by a).said u seq p) (shut-is a)
    (subst (λ (xs : List ℕ). IsAt xs (ends_of a).shut seq p) (said-is a) at)

-- a stream that the other end read to its end was given whole
all_given : (a b : Option CallRecord) → Carries (ends_of a).said (ends_of a).shut (ends_of b) → Gives (sent_by a)
    → AreGiven (sent_by a) (received_by b) → (ends_of b).ended ≡ true
    → pieces_of (sent_by a) ≤ used_of (received_by b) → is_all_given (sent_by a) ≡ true
all_given a b carries gives given ended used =
    let shut : (sent_by a).shut ≡ true = sym (shut-is a) ∙ (carries.ended ended).0 in
    let front = used_within (received_by b) in
    let top = reach_within (λ j. is_some (packet_at (received_by b).kept j)) (greatest (received_by b).kept) in
    let low = gives.counts in
    let same : given_of (sent_by a) ≡ pieces_of (sent_by a) = omega (arith, used, front, top, given, low) in
    let equal : (given_of (sent_by a) == pieces_of (sent_by a)) ≡ true =
    subst (λ (n : ℕ). (n == pieces_of (sent_by a)) ≡ true) (sym same) (number_itself (pieces_of (sent_by a))) in
    λ i. shut i && equal i

pub ended_is : (o : Option CallRecord) → (ends_of o).ended ≡ (received_by o).ended
ended_is None = refl
ended_is (Some k) = refl

-- ---- by the body of the message

sense_by : (s peer : Setup) (m : Message) (a b : Option CallRecord) → AreGiven (sent_by b) (received_by a)
    → ((payload : List ℕ) → m.body ≡ bodies.Chunk payload
    → IsGivenTo (sent_by a) (receiving_window s) (packet_of m payload) (received_by b)
    × (is_client s.kind ≡ true → is_all_given (sent_by b) ≡ true))
    → ((k : AckBody) → m.body ≡ bodies.Ack k → IsEarlierAck peer (received_by a) k)
    → (m.body ≡ bodies.AckAll → is_all_given (sent_by b) ≡ true) → SenseAt s m b
sense_by s peer m a b given chunks acks all v client window = of m.body refl
  where
    k : CallLooks
    k = passed_at s v.now b

    of : (body : Body) → m.body ≡ body → MakesSense (call_row v m body k)
    of (bodies.Chunk payload) is =
        (let d = chunks payload is in
        data_makes_sense (sent_by a) v m payload k
        (subst (λ (r : Received). IsGivenTo (sent_by a) v.window (packet_of m payload) r)
        (sym (passed_received s v.now b))
        (subst (λ (w : ℕ). IsGivenTo (sent_by a) w (packet_of m payload) (received_by b)) (sym window) d.0))
        (λ here. ap is_all_given (passed_sent s v.now b) ∙ d.1 (sym client ∙ here)))
    of (bodies.Ack body) is =
        ack_makes_sense peer v m body k (received_by a) (acks body is)
        (subst (λ (t : Sent). AreGiven t (received_by a)) (sym (passed_sent s v.now b)) given)
    of bodies.AckAll is = ackall_makes_sense v m k (ap is_all_given (passed_sent s v.now b) ∙ all is)
    of _ is = tt

-- ---- at both ends

module _ (x : TwoEnds) (h : List Noted) (f : Fed x h) (came : CameAll x h) (c : CallName)
    (on : connection_of c ≡ x.connection) where
  abbrev cl : List Event
  cl = side x.client h

  abbrev sv : List Event
  sv = side x.server h

  abbrev a : Option CallRecord
  a = call_at (looks x.client_setup cl) c

  abbrev b : Option CallRecord
  b = call_at (looks x.server_setup sv) c

  agrees : Agrees x.client_setup x.server_setup a b
  agrees = all_agree x c h f came on

  st : Stands x c cl sv
  st =
      record {
        client_kind = f.client_kind;
        server_kind = f.server_kind;
        client_fits = f.client_fits;
        server_fits = f.server_fits;
        on = on;
        called = f.client_legal;
        served = f.server_legal;
        once = f.once c on;
        both = between x h c f on;
      }

  pub client_gives : Gives (sent_by a)
  client_gives =
      gives_of a ((client-calls x.client_setup x.connection.host x.connection.epoch cl f.client_kind f.client_fits
      f.client_legal).standing.calls c).sends

  server_gives : Gives (sent_by b)
  server_gives = gives_of b ((server-stands x.server_setup sv f.server_kind f.server_fits f.server_legal).calls c).sends

  request_all : (received_by b).ended ≡ true → is_all_given (sent_by a) ≡ true
  request_all ended =
      all_given a b st.both.request client_gives agrees.request_given (ended_is b ∙ ended)
      (all-used a b st.both.request
      (server_whole x.server_setup sv c f.server_kind f.server_fits f.server_legal st.once)
      ended)

  reply_all : (received_by a).ended ≡ true → is_all_given (sent_by b) ≡ true
  reply_all ended =
      all_given b a st.both.reply server_gives agrees.reply_given (ended_is a ∙ ended)
      (all-used b a st.both.reply
      (client_whole x.client_setup x.connection.host x.connection.epoch cl c f.client_kind f.client_fits f.client_legal)
      ended)

  pub sense_at_server : (bytes : List ℕ) (m : Message) → Gave x.server_host bytes cl → reading_of bytes ≡ Ok m
      → named x.client_setup x.server_host m ≡ c → SenseAt x.server_setup m b
  sense_at_server bytes m gave is_read name =
      sense_by x.server_setup x.client_setup m a b agrees.reply_given
      (λ payload chunk. (
        record {
          piece =
              at_of_it a m.seq (packet_of m payload).piece
              (given-says x.client_setup cl c x.server_host bytes m payload f.client_fits f.client_legal
              (client-grown x.client_setup x.connection.host x.connection.epoch cl c f.client_kind f.client_fits
              f.client_legal) is_read chunk name gave);
          given =
              given_seqs x.client_setup cl c x.server_host bytes m payload f.client_fits f.client_legal
              (client_only_gives x.client_setup x.connection.host x.connection.epoch cl c f.client_kind f.client_fits
              f.client_legal) is_read chunk name gave;
          counts = client_gives.counts;
          fits = client_gives.fits;
          pieces = pieces_of_it a b st.both.request;
          kept = agrees.request_given;
          within = agrees.request_within;
        },
        λ client. absurd (no-client x.server_setup.kind f.server_kind client),
      ))
      (λ k is.
      given_acks x.client_setup cl c x.server_host bytes m k f.client_fits f.client_legal
      (client_only_grows x.client_setup x.connection.host x.connection.epoch cl c f.client_kind f.client_fits
      f.client_legal) is_read is name gave)
      (λ is.
      reply_all (given_ackalls x.client_setup x.connection.host x.connection.epoch cl c x.server_host bytes m
      f.client_kind f.client_fits f.client_legal
      (client_only_grows x.client_setup x.connection.host x.connection.epoch cl c f.client_kind f.client_fits
      f.client_legal) is_read is name gave))

  pub sense_at_client : (bytes : List ℕ) (m : Message) → Gave x.connection.host bytes sv → reading_of bytes ≡ Ok m
      → named x.server_setup x.connection.host m ≡ c → SenseAt x.client_setup m a
  sense_at_client bytes m gave is_read name =
      sense_by x.client_setup x.server_setup m b a agrees.request_given
      (λ payload chunk. (
        record {
          piece =
              at_of_it b m.seq (packet_of m payload).piece
              (given-says x.server_setup sv c x.connection.host bytes m payload f.server_fits f.server_legal
              (server-grown x.server_setup sv c f.server_kind f.server_fits f.server_legal st.once) is_read chunk name
              gave);
          given =
              given_seqs x.server_setup sv c x.connection.host bytes m payload f.server_fits f.server_legal
              (server_only_gives x.server_setup sv c f.server_kind f.server_fits f.server_legal st.once) is_read chunk
              name
              gave;
          counts = server_gives.counts;
          fits = server_gives.fits;
          pieces = pieces_of_it b a st.both.reply;
          kept = agrees.reply_given;
          within = agrees.reply_within;
        },
        λ client.
            request_all (given_data x.server_setup sv c x.connection.host bytes m payload f.server_kind f.server_fits
            f.server_legal st.once
            (server_only_grows x.server_setup sv c f.server_kind f.server_fits f.server_legal st.once) is_read chunk
            name
            gave),
      ))
      (λ k is.
      given_acks x.server_setup sv c x.connection.host bytes m k f.server_fits f.server_legal
      (server_only_grows x.server_setup sv c f.server_kind f.server_fits f.server_legal st.once) is_read is name gave)
      (λ is.
      absurd (no_ackalls x.server_setup sv x.connection.host bytes m f.server_kind f.server_fits f.server_legal is_read
      is
      gave))

-- of each call
pub sense_on : (x : TwoEnds) (h : List Noted) → Fed x h → CameAll x h → SenseOn x h
sense_on x h f came =
    record {
      server = λ c bytes m on gave is_read name. sense_at_server x h f came c on bytes m gave is_read name;
      client = λ c bytes m on gave is_read name. sense_at_client x h f came c on bytes m gave is_read name;
    }
