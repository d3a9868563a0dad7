-- How a server with a key comes to know its client: it gives a CHALLENGE for the call that began, and takes the
-- RESPONSE; until then no handler has the call.
use Rattle.std.proofs.Common.{◌≡◌, ◌<◌, ◌≤◌, ◌+◌, ◌^◌, ◌%◌, ◌==◌, ℕ, suc, Bool, true, false, cond, List, [], ◌∷◌, ◌++◌}
use Rattle.std.proofs.Common.{refl, ap, sym, subst, ◌∙◌, Option, Some, None, length, map, filter, nat_le, nat_lt, arith}
use Rattle.std.proofs.Common.{add-zero, le-leb}
use Rattle.std.specs.Cmp.Lexicographic.{bytes_decides}
use Rattle.std.proofs.lemmas.Bool.{le-ltb, ne_eqb}
use Rattle.rx_model.specs.Body as bodies
use Rattle.rx_model.specs.Message.{Message}
use Rattle.rx_model.specs.Spelling.{made, IsPlain}
use Rattle.rx_model.specs.declared.answers.Took.TheVariants as tooks
use Rattle.rx_model.specs.declared.event.Event.TheVariants as events
use Rattle.rx_model.specs.declared.names.CallName.{CallName}
use Rattle.rx_model.proofs.MessageLaws.{reads_back}
use Rattle.rx_model.proofs.NameLaws.{number_itself}
use Rattle.rx_rules.specs.After.{after}
use Rattle.rx_rules.specs.CallItems.{call_items}
use Rattle.rx_rules.specs.CallLooks.{CallLooks}
use Rattle.rx_rules.specs.Classes.{token, token_answer}
use Rattle.rx_rules.specs.Items.{Item, datagram_for, item_of, items, next_item, poll_answer, poll_with}
use Rattle.rx_rules.specs.Judging.{is_right, nonce_at, took_of}
use Rattle.rx_rules.specs.Least.{least_by, lesser_by}
use Rattle.rx_rules.specs.Life as lives
use Rattle.rx_rules.specs.Looks.{ConnLooks, Looks, conn_at}
use Rattle.rx_model.specs.Names.{connection_of}
use Rattle.rx_rules.specs.Records.{silenced}
use Rattle.rx_rules.specs.Rules.{accept_answer}
use Rattle.rx_rules.specs.Setup.{Setup, nonce_of}
use Rattle.rx_token.specs.TokenLaws.{token_fits}
use Rattle.rx_plan.specs.Follows.{class_of}
use Rattle.rx_rounds.proofs.Keys.KeyClass.{index_small}
use Rattle.rx_rounds.proofs.One.OneCall.{Ends, answering_link, client_setup, header_of, node_of, served_link}
use Rattle.rx_rounds.proofs.One.OneCall.{server_setup, the_call, the_conn, the_record}
use Rattle.rx_rounds.proofs.One.OneFields.{FitsEnds}

-- ---- what is asked, and what is answered

abbrev pub nonce : Ends → ℕ
nonce x = nonce_of (server_setup x).kind 0

abbrev pub asked : Ends → List ℕ
asked x = (class_of x.key).challenge (the_call x) (nonce x)

-- this answers the server's challenge
pub record IsAnswer (x : Ends) (answer : List ℕ) : Type 0 where
  pub challenges : (class_of x.key).challenges ≡ true
  pub responds : (class_of x.key).respond (the_call x) (asked x) ≡ Some answer
  pub right : (class_of x.key).check (the_call x) (nonce x) answer ≡ true
  pub brief : length (asked x) ≤ 1412
  pub short : length answer ≤ 1412

pub answers : (x : Ends) (key : List ℕ) → x.key ≡ Some key → (answer : List ℕ) × IsAnswer x answer
answers x key keyed =
    let c : CallName = the_call x in
    let asks : List ℕ = (token key).challenge c (nonce x) in
    let answer : List ℕ = token_answer key c asks in
    let told : (token key).respond c asks ≡ Some answer = refl in (
      answer,
      record {
        challenges = ap (λ (o : Option (List ℕ)). (class_of o).challenges) keyed;
        responds = ap (λ (o : Option (List ℕ)). (class_of o).respond c ((class_of o).challenge c (nonce x))) keyed
            ∙ told;
        right =
            ap (λ (o : Option (List ℕ)). (class_of o).check c (nonce x) answer) keyed
            ∙ (bytes_decides answer answer).1 refl;
        brief =
            subst (λ (o : Option (List ℕ)). length ((class_of o).challenge c (nonce x)) ≤ 1412) (sym keyed)
            (let few : length asks ≤ 64 = ((token_fits key).challenge c (nonce x)).1 in omega arith);
        short = (let few : length answer ≤ 64 = ((token_fits key).respond c asks).1 in omega arith);
      },
    )

abbrev pub challenge_of : Ends → ℕ → Message
challenge_of x serial = record (header_of x) { serial = serial; body = bodies.Challenge (asked x) }

abbrev pub response_of : Ends → ℕ → List ℕ → Message
response_of x serial answer = record (header_of x) { serial = serial; flags = 1; body = bodies.Response answer }

pub plain_challenge : (x : Ends) (serial : ℕ) (answer : List ℕ) → FitsEnds x → IsAnswer x answer → serial < 2 ^ 32
    → IsPlain (challenge_of x serial)
plain_challenge x serial answer fits a small =
    record {
      epoch = fits.epoch;
      cid = omega arith;
      number = fits.first;
      seq = omega arith;
      serial = small;
      flags = omega arith;
      status = refl;
      index = index_small x.key;
      spare = refl;
      service = fits.service;
      body = (let few = a.brief in omega arith);
    }

pub plain_response : (x : Ends) (serial : ℕ) (answer : List ℕ) → FitsEnds x → IsAnswer x answer → serial < 2 ^ 32
    → IsPlain (response_of x serial answer)
plain_response x serial answer fits a small =
    record {
      epoch = fits.epoch;
      cid = omega arith;
      number = fits.first;
      seq = omega arith;
      serial = small;
      flags = omega arith;
      status = refl;
      index = index_small x.key;
      spare = refl;
      service = fits.service;
      body = (let few = a.short in omega arith);
    }

-- ---- what is due first

lesser_first : (i : Item) (o : Option Item) → i.rank ≡ 0 → lesser_by (λ (j : Item). j.rank) i o ≡ i
lesser_first i None due_now = refl
lesser_first i (Some j) due_now = rw due_now (rw (le-leb 0 j.rank (omega arith)) refl)

first_item : (s : Setup) (l : Looks) (i : Item) (is : List Item) → items s l ≡ i ∷ is → i.rank ≡ 0
    → next_item s l ≡ Some i
first_item s l i is are due_now =
    let first : nat_le i.rank l.now ≡ true = le-leb i.rank l.now (omega arith) in
    ap (λ (js : List Item). least_by (λ (j : Item). j.rank) (filter (λ (j : Item). nat_le j.rank l.now) js)) are
    ∙ ap (λ (b : Bool). least_by (λ (j : Item). j.rank)
    (cond b (i ∷ filter (λ (j : Item). nat_le j.rank l.now) is) (filter (λ (j : Item). nat_le j.rank l.now) is))) first
    ∙ ap (λ (j : Item). Some j)
    (lesser_first i (least_by (λ (j : Item). j.rank) (filter (λ (j : Item). nat_le j.rank l.now) is)) due_now)

-- ---- the server gives its CHALLENGE

module _ (x : Ends) (firsts : List CallName) (used given : ℕ) (k : CallLooks) (heard : k.heard ≡ 0) where
  abbrev unproved : Bool → ℕ → ℕ → Looks
  unproved owing gave last = node_of x (served_link x false owing gave last) firsts 0 lives.Waiting k

  abbrev challenge_item : Item
  challenge_item = record { rank = 0; name = the_call x; seq = 0; flags = 0; body = bodies.Challenge (asked x) }

  challenge_items : items (server_setup x) (unproved true given used)
      ≡ challenge_item ∷ (map (item_of (server_setup x) (the_record x lives.Waiting k)) (call_items false k) ++ [])
  challenge_items =
      rw (number_itself x.client.addr, number_itself x.client.port, number_itself x.epoch, number_itself x.first)
      (rw heard refl)

  unsilenced : silenced (unproved true given used) ≡ unproved true given used
  unsilenced = rw heard refl

  pub challenge_gives : poll_answer (server_setup x) (unproved true given used)
      ≡ Some (x.client, made (challenge_of x (suc given % 2 ^ 32)))
  challenge_gives =
      ap (λ (l : Looks). poll_with (server_setup x) l []) unsilenced
      ∙ ap (λ (o : Option Item). datagram_for (server_setup x) (unproved true given used) o)
      (first_item (server_setup x) (unproved true given used) challenge_item _ challenge_items refl)
      ∙ rw (number_itself x.client.addr, number_itself x.client.port, number_itself x.epoch) refl

  pub challenge_gave : IsPlain (challenge_of x (suc given % 2 ^ 32))
      → after (server_setup x) (events.Polled (Some (x.client, made (challenge_of x (suc given % 2 ^ 32)))))
      (unproved true given used)
      ≡ unproved false (suc given) 0
  challenge_gave plain =
      rw (reads_back (challenge_of x (suc given % 2 ^ 32)) plain)
      (rw heard (simp (number_itself x.client.addr, number_itself x.client.port, number_itself x.epoch) refl))

  -- no handler has its call
  pub unproved_none : (owing : Bool) → (class_of x.key).challenges ≡ true
      → accept_answer (server_setup x)
      (node_of x (served_link x false owing given used) (the_call x ∷ []) 0 lives.Waiting k)
      ≡ None
  unproved_none owing challenges =
      simp (
        challenges,
        number_itself x.client.addr,
        number_itself x.client.port,
        number_itself x.epoch,
        number_itself x.first,
      ) refl

  -- ---- it takes a RESPONSE

  conn_is : conn_at (unproved false given used) (connection_of (the_call x))
      ≡ Some (the_conn x (served_link x false false given used))
  conn_is = simp (number_itself x.client.addr, number_itself x.client.port, number_itself x.epoch) refl

  its_right : (answer : List ℕ) → IsAnswer x answer
      → is_right (server_setup x) (unproved false given used) (the_call x) answer ≡ true
  its_right answer a =
      ap (λ (o : Option ConnLooks). (class_of x.key).check (the_call x) (nonce_at (server_setup x) o) answer) conn_is
      ∙ a.right

  pub response_took : (serial : ℕ) (answer : List ℕ) → 1 < x.first + 1 → IsAnswer x answer
      → IsPlain (response_of x serial answer)
      → took_of (server_setup x) (unproved false given used) x.client (made (response_of x serial answer)) ≡ tooks.Heard
  response_took serial answer some a plain =
      let numbered : (x.first == 0) ≡ false = ne_eqb x.first 0 (λ (e : x.first ≡ 0). omega arith) in
      let below : nat_lt x.first x.first ≡ false = le-ltb x.first x.first (omega arith) in
      rw (reads_back (response_of x serial answer) plain)
      (simp (
        a.challenges,
        numbered,
        below,
        number_itself x.service,
        number_itself (class_of x.key).index,
        number_itself x.client.addr,
        number_itself x.client.port,
        number_itself x.epoch,
        number_itself x.first,
        add-zero,
      ) (ap (λ (b : Bool). cond b tooks.Heard tooks.Stopped) (its_right answer a)))

  pub response_heard : (serial : ℕ) (answer : List ℕ) → IsAnswer x answer → IsPlain (response_of x serial answer)
      → after (server_setup x) (events.Taken x.client (made (response_of x serial answer)) tooks.Heard)
      (unproved false given used)
      ≡ node_of x (served_link x true false given 0) firsts 0 lives.Waiting (record k { heard = 0 })
  response_heard serial answer a plain =
      rw (reads_back (response_of x serial answer) plain)
      (simp (
        a.challenges,
        number_itself x.service,
        number_itself (class_of x.key).index,
        number_itself x.client.addr,
        number_itself x.client.port,
        number_itself x.epoch,
        number_itself x.first,
      ) refl)

-- ---- the client takes a CHALLENGE, and gives its RESPONSE

module _ (x : Ends) (used given : ℕ) (k : CallLooks) (heard : k.heard ≡ 0) where
  abbrev calling_with : Option (List ℕ) → ℕ → ℕ → CallLooks → Looks
  calling_with o gave last c = node_of x (answering_link x o gave last) [] 0 lives.Calling c

  pub challenge_took : (serial : ℕ) (answer : List ℕ) → 1 < x.first + 1 → IsAnswer x answer
      → IsPlain (challenge_of x serial)
      → took_of (client_setup x) (calling_with None given used k) x.server (made (challenge_of x serial)) ≡ tooks.Heard
  challenge_took serial answer some a plain =
      let numbered : (x.first == 0) ≡ false = ne_eqb x.first 0 (λ (e : x.first ≡ 0). omega arith) in
      let below : nat_lt x.first x.first ≡ false = le-ltb x.first x.first (omega arith) in
      rw (reads_back (challenge_of x serial) plain)
      (simp (
        a.challenges,
        a.responds,
        numbered,
        below,
        number_itself (class_of x.key).index,
        number_itself x.client.addr,
        number_itself x.client.port,
        number_itself x.server.addr,
        number_itself x.server.port,
        number_itself x.epoch,
        number_itself x.first,
        add-zero,
      ) refl)

  pub challenge_heard : (serial : ℕ) (answer : List ℕ) → IsAnswer x answer → IsPlain (challenge_of x serial)
      → after (client_setup x) (events.Taken x.server (made (challenge_of x serial)) tooks.Heard)
      (calling_with None given used k)
      ≡ calling_with (Some answer) given 0 (record k { heard = 0 })
  challenge_heard serial answer a plain =
      rw (reads_back (challenge_of x serial) plain)
      (simp (
        a.challenges,
        a.responds,
        number_itself (class_of x.key).index,
        number_itself x.client.addr,
        number_itself x.client.port,
        number_itself x.server.addr,
        number_itself x.server.port,
        number_itself x.epoch,
        number_itself x.first,
      ) refl)

  abbrev response_item : List ℕ → Item
  response_item answer = record { rank = 0; name = the_call x; seq = 0; flags = 0; body = bodies.Response answer }

  response_items : (answer : List ℕ) → items (client_setup x) (calling_with (Some answer) given used k)
      ≡ response_item answer
      ∷ (map (item_of (client_setup x) (the_record x lives.Calling k)) (call_items true k) ++ [])
  response_items answer =
      rw (number_itself x.client.addr, number_itself x.client.port, number_itself x.epoch, number_itself x.first)
      (rw heard refl)

  unsilent : (answer : List ℕ) → silenced (calling_with (Some answer) given used k)
      ≡ calling_with (Some answer) given used k
  unsilent answer = rw heard refl

  pub response_gives : (answer : List ℕ) → poll_answer (client_setup x) (calling_with (Some answer) given used k)
      ≡ Some (x.server, made (response_of x (suc given % 2 ^ 32) answer))
  response_gives answer =
      ap (λ (l : Looks). poll_with (client_setup x) l []) (unsilent answer)
      ∙ ap (λ (o : Option Item). datagram_for (client_setup x) (calling_with (Some answer) given used k) o)
      (first_item (client_setup x) (calling_with (Some answer) given used k) (response_item answer) _
      (response_items answer) refl)
      ∙ rw (number_itself x.client.addr, number_itself x.client.port, number_itself x.epoch) refl

  pub response_gave : (answer : List ℕ) → IsPlain (response_of x (suc given % 2 ^ 32) answer)
      → after (client_setup x) (events.Polled (Some (x.server, made (response_of x (suc given % 2 ^ 32) answer))))
      (calling_with (Some answer) given used k)
      ≡ calling_with None (suc given) 0 k
  response_gave answer plain =
      rw (reads_back (response_of x (suc given % 2 ^ 32) answer) plain)
      (rw heard (simp (number_itself x.client.addr, number_itself x.client.port, number_itself x.epoch) refl))
