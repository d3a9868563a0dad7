-- A server whose handler finished with a code gives an ABORT, whatever comes; it ends the call at its client.
use Rattle.std.proofs.Common.{◌≡◌, ◌<◌, ◌≤◌, ◌+◌, ◌%◌, ◌^◌, ◌==◌, ◌++◌, ℕ, ℤ, suc, true, false, List, []}
use Rattle.std.proofs.Common.{◌∷◌, refl, ap, ◌∙◌, Option, Some, None, add-zero, arith}
use Rattle.std.proofs.Common.{Result, nat_lt}
use Rattle.std.proofs.lemmas.Bool.{le-leb, le-ltb, ne_eqb}
use Rattle.rx_model.specs.declared.answers.BadMsg.{BadMsg}
use Rattle.rx_model.specs.declared.answers.End.TheVariants as ends
use Rattle.rx_model.specs.declared.answers.Took.TheVariants as tooks
use Rattle.rx_model.specs.declared.event.Event.TheVariants as events
use Rattle.rx_model.specs.declared.names.CallName.{CallName}
use Rattle.rx_model.specs.declared.wire.TheConstants.{CLIENT_INITIATED}
use Rattle.rx_model.specs.Body.{AckBody}
use Rattle.rx_model.specs.Body as bodies
use Rattle.rx_model.specs.Message.{Message, has_flag}
use Rattle.rx_model.specs.Spelling.{made, IsCode, IsPlain}
use Rattle.rx_model.proofs.MessageLaws.{reads_back}
use Rattle.rx_model.proofs.NameLaws.{number_itself}
use Rattle.rx_rules.specs.After.{after, given_message, taken_message}
use Rattle.rx_rules.specs.CallLooks.{CallLooks}
use Rattle.rx_rules.specs.Items.{poll_answer}
use Rattle.rx_rules.specs.Judging.{took_of, took_reading}
use Rattle.rx_rules.specs.Life.{Life}
use Rattle.rx_rules.specs.Life as lives
use Rattle.rx_rules.specs.Looks.{Looks, fresh_channel}
use Rattle.rx_rules.specs.Records.{silenced}
use Rattle.rx_law.specs.Worlds.{Datagram}
use Rattle.rx_jobs.specs.Jobs.{JobState}
use Rattle.rx_plan.specs.Follows.{class_of}
use Rattle.rx_plan.specs.Rounds.{Polling}
use Rattle.rx_plan.specs.Stages.{InvokedState, Stage}
use Rattle.rx_rounds.proofs.Between.{client_at}
use Rattle.rx_rounds.proofs.Keys.KeyClass.{index_small}
use Rattle.rx_rounds.proofs.One.OneCall.{Ends, Link, client_setup, from_client, from_server, header_of, node_of}
use Rattle.rx_rounds.proofs.One.OneCall.{server_setup}
use Rattle.rx_rounds.proofs.One.OneCall.{the_call}
use Rattle.rx_rounds.proofs.One.OneFields.{FitsEnds}
use Rattle.rx_rounds.proofs.Two.{Polls, Two, sent, server_polls_none, server_polls_some, two_as}

-- the server, which owes an ABORT or doesn't
abbrev pub over_link : Ends → Option ℤ → ℕ → ℕ → Link
over_link x o given used =
    record (from_server x given used) { channel = record (fresh_channel x.first) { owed_abort = o } }

abbrev pub over_at : Ends → ℤ → Option ℤ → ℕ → ℕ → ℕ → CallLooks → Looks
over_at x code o given used now k =
    node_of x (over_link x o given used) (the_call x ∷ []) now (lives.Over (Some code)) k

-- an ABORT of the call
abbrev pub abort_of : Ends → ℕ → ℤ → Message
abort_of x serial code = record (header_of x) { serial = serial; body = bodies.Abort code }

-- ---- the server gives it

pub abort_poll : (x : Ends) (code : ℤ) (given used now : ℕ) (k : CallLooks)
    → poll_answer (server_setup x) (over_at x code (Some code) given used now k)
    ≡ Some (x.client, made (abort_of x (suc given % 2 ^ 32) code))
abort_poll x code given used now k =
    rw (number_itself x.client.addr, number_itself x.client.port, number_itself x.epoch, number_itself x.first)
    (rw (le-leb 0 now (omega arith))
    (rw (number_itself x.client.addr, number_itself x.client.port, number_itself x.epoch) refl))

pub over_poll : (x : Ends) (code : ℤ) (given used now : ℕ) (k : CallLooks)
    → poll_answer (server_setup x) (over_at x code None given used now k) ≡ None
over_poll x code given used now k =
    rw (number_itself x.client.addr, number_itself x.client.port, number_itself x.epoch, number_itself x.first) refl

pub abort_gave : (x : Ends) (code : ℤ) (given used now : ℕ) (k : CallLooks) → 1 < x.first + 1
    → IsPlain (abort_of x (suc given % 2 ^ 32) code)
    → after (server_setup x) (events.Polled (Some (x.client, made (abort_of x (suc given % 2 ^ 32) code))))
    (over_at x code (Some code) given used now k)
    ≡ over_at x code None (suc given) now now k
abort_gave x code given used now k some plain =
    let numbered : (x.first == 0) ≡ false = ne_eqb x.first 0 (λ (e : x.first ≡ 0). omega arith) in
    ap (λ (r : Result Message BadMsg). given_message (server_setup x) x.client r
    (silenced (over_at x code (Some code) given used now k))) (reads_back (abort_of x (suc given % 2 ^ 32) code) plain)
    ∙ simp (
      numbered,
      number_itself x.client.addr,
      number_itself x.client.port,
      number_itself x.epoch,
      number_itself x.first,
    ) refl

pub plain_abort : (x : Ends) (serial : ℕ) (code : ℤ) → FitsEnds x → serial < 2 ^ 32 → IsCode code
    → IsPlain (abort_of x serial code)
plain_abort x serial code fits small is_code =
    record {
      epoch = fits.epoch;
      cid = omega arith;
      number = fits.first;
      seq = omega arith;
      serial = small;
      flags = omega arith;
      status = refl;
      index = index_small x.key;
      spare = refl;
      service = fits.service;
      body = is_code;
    }

module _ (x : Ends) (code : ℤ) (given used now : ℕ) (k : CallLooks) (lc : Looks) (cs : List InvokedState)
    (js : List JobState) (s t : Stage) (before : List Datagram) (w : Polling) where
  -- its polls
  pub abort_polls : FitsEnds x → IsCode code → Two x (over_at x code (Some code) given used now k) lc cs js s
      → Polls 0 x.server before s w t
      → (w.given ≡ before ++ sent x.server x.client (made (abort_of x (suc given % 2 ^ 32) code)) ∷ [])
      × Two x (over_at x code None (suc given) now now k) lc cs js t
  abort_polls fits is_code two polled =
      let m : Message = abort_of x (suc given % 2 ^ 32) code in
      let plain : IsPlain m = plain_abort x (suc given % 2 ^ 32) code fits (omega arith) is_code in
      let a = server_polls_some x (over_at x code (Some code) given used now k) lc cs js s t x.server x.client (made m)
      before w two (abort_poll x code given used now k) polled in
      let two1 = two_as x _ lc (over_at x code None (suc given) now now k) lc cs js a.0 a.0
      (abort_gave x code given used now k (let some : 1 ≤ x.first = fits.some in omega arith) plain) refl refl a.1 in
      let b = server_polls_none x (over_at x code None (suc given) now now k) lc cs js a.0 t x.server
      (before ++ sent x.server x.client (made m) ∷ []) w two1 (over_poll x code (suc given) now now k) a.2 in
      (b.0, two_as x _ lc (over_at x code None (suc given) now now k) lc cs js t t refl refl refl b.1)

-- ---- what comes to it

module _ (x : Ends) (code : ℤ) (o : Option ℤ) (given used now : ℕ) (k : CallLooks) where
  -- a piece owes it again
  pub over_took_data : (seq serial flags : ℕ) (payload : List ℕ) → 1 < x.first + 1
      → IsPlain (record (header_of x) { seq = seq; serial = serial; flags = flags; body = bodies.Chunk payload })
      → has_flag CLIENT_INITIATED flags ≡ true
      → took_of (server_setup x) (over_at x code o given used now k) x.client (made (record (header_of x)
      { seq = seq; serial = serial; flags = flags; body = bodies.Chunk payload })) ≡ tooks.Over
  over_took_data seq serial flags payload some plain ours =
      let numbered : (x.first == 0) ≡ false = ne_eqb x.first 0 (λ (e : x.first ≡ 0). omega arith) in
      let below : nat_lt x.first x.first ≡ false = le-ltb x.first x.first (omega arith) in
      rw (reads_back (record (header_of x) { seq = seq; serial = serial; flags = flags; body = bodies.Chunk payload })
      plain)
      (simp (
        ours,
        numbered,
        below,
        number_itself x.service,
        number_itself (class_of x.key).index,
        number_itself x.client.addr,
        number_itself x.client.port,
        number_itself x.epoch,
        number_itself x.first,
        add-zero,
      ) refl)

  pub over_after_data : (seq serial flags : ℕ) (payload : List ℕ)
      → IsPlain (record (header_of x) { seq = seq; serial = serial; flags = flags; body = bodies.Chunk payload })
      → has_flag CLIENT_INITIATED flags ≡ true
      → after (server_setup x)
      (events.Taken x.client
      (made (record (header_of x) { seq = seq; serial = serial; flags = flags; body = bodies.Chunk payload }))
      tooks.Over) (over_at x code o given used now k) ≡ over_at x code (Some code) given now now k
  over_after_data seq serial flags payload plain ours =
      rw (reads_back (record (header_of x) { seq = seq; serial = serial; flags = flags; body = bodies.Chunk payload })
      plain)
      (simp (
        ours,
        number_itself x.service,
        number_itself (class_of x.key).index,
        number_itself x.client.addr,
        number_itself x.client.port,
        number_itself x.epoch,
        number_itself x.first,
      ) refl)

  -- and so does an ACK
  pub over_took_ack : (serial flags : ℕ) (a : AckBody) → 1 < x.first + 1
      → IsPlain (record (header_of x) { serial = serial; flags = flags; body = bodies.Ack a })
      → has_flag CLIENT_INITIATED flags ≡ true
      → took_of (server_setup x) (over_at x code o given used now k) x.client
      (made (record (header_of x) { serial = serial; flags = flags; body = bodies.Ack a })) ≡ tooks.Over
  over_took_ack serial flags a some plain ours =
      let numbered : (x.first == 0) ≡ false = ne_eqb x.first 0 (λ (e : x.first ≡ 0). omega arith) in
      let below : nat_lt x.first x.first ≡ false = le-ltb x.first x.first (omega arith) in
      rw (reads_back (record (header_of x) { serial = serial; flags = flags; body = bodies.Ack a }) plain)
      (simp (
        ours,
        numbered,
        below,
        number_itself x.service,
        number_itself (class_of x.key).index,
        number_itself x.client.addr,
        number_itself x.client.port,
        number_itself x.epoch,
        number_itself x.first,
        add-zero,
      ) refl)

  pub over_after_ack : (serial flags : ℕ) (a : AckBody)
      → IsPlain (record (header_of x) { serial = serial; flags = flags; body = bodies.Ack a })
      → has_flag CLIENT_INITIATED flags ≡ true
      → after (server_setup x)
      (events.Taken x.client (made (record (header_of x) { serial = serial; flags = flags; body = bodies.Ack a }))
      tooks.Over) (over_at x code o given used now k) ≡ over_at x code (Some code) given now now k
  over_after_ack serial flags a plain ours =
      rw (reads_back (record (header_of x) { serial = serial; flags = flags; body = bodies.Ack a }) plain)
      (simp (
        ours,
        number_itself x.service,
        number_itself (class_of x.key).index,
        number_itself x.client.addr,
        number_itself x.client.port,
        number_itself x.epoch,
        number_itself x.first,
      ) refl)

-- ---- the client takes it

-- a client whose call ended with a code
abbrev pub aborted_at : Ends → ℤ → ℕ → ℕ → List CallName → ℕ → CallLooks → Looks
aborted_at x code given used firsts now k =
    node_of x (from_client x given used) firsts now (lives.Ended (ends.Abort code)) k

pub client_took_abort : (x : Ends) (code : ℤ) (given used now serial : ℕ) (firsts : List CallName) (k : CallLooks)
    → 1 < x.first + 1 → IsPlain (abort_of x serial code)
    → took_of (client_setup x) (client_at x given used firsts now k) x.server (made (abort_of x serial code))
    ≡ tooks.Stopped
client_took_abort x code given used now serial firsts k some plain =
    let numbered : (x.first == 0) ≡ false = ne_eqb x.first 0 (λ (e : x.first ≡ 0). omega arith) in
    let below : nat_lt x.first x.first ≡ false = le-ltb x.first x.first (omega arith) in
    ap (λ (r : Result Message BadMsg). took_reading (client_setup x) (client_at x given used firsts now k) x.server r)
    (reads_back (abort_of x serial code) plain)
    ∙ (simp (
      numbered,
      below,
      number_itself x.client.addr,
      number_itself x.client.port,
      number_itself x.server.addr,
      number_itself x.server.port,
      number_itself (class_of x.key).index,
      number_itself x.epoch,
      number_itself x.first,
      add-zero,
    ) refl)

pub client_aborted : (x : Ends) (code : ℤ) (given used now serial : ℕ) (firsts : List CallName) (k : CallLooks)
    → 1 < x.first + 1 → IsPlain (abort_of x serial code)
    → after (client_setup x) (events.Taken x.server (made (abort_of x serial code)) tooks.Stopped)
    (client_at x given used firsts now k)
    ≡ aborted_at x code given now firsts now k
client_aborted x code given used now serial firsts k some plain =
    let numbered : (x.first == 0) ≡ false = ne_eqb x.first 0 (λ (e : x.first ≡ 0). omega arith) in
    ap (λ (r : Result Message BadMsg). taken_message (client_setup x) x.server r tooks.Stopped
    (client_at x given used firsts now k)) (reads_back (abort_of x serial code) plain)
    ∙ (simp (
      numbered,
      number_itself x.client.addr,
      number_itself x.client.port,
      number_itself x.server.addr,
      number_itself x.server.port,
      number_itself (class_of x.key).index,
      number_itself x.epoch,
      number_itself x.first,
    ) refl)
