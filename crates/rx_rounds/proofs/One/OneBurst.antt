-- A client with one call gives pieces, and a server takes them: at whole nodes, while no clock moves.
use Rattle.std.proofs.Common.{◌≡◌, ◌<◌, ◌≤◌, ◌+◌, ◌-◌, ◌*◌, ◌%◌, ◌^◌, ◌==◌, ◌⊎◌, ◌++◌, ◌&&◌, ◌||◌, not, is_some, ℕ, suc}
use Rattle.std.proofs.Common.{zero}
use Rattle.std.proofs.Common.{Bool, true, false}
use Rattle.std.proofs.Common.{List, [], ◌∷◌, refl, ap, sym, ◌∙◌, inl, inr, ⊎_elim, Option, Some, None, drop}
use Rattle.std.proofs.Common.{length-take, append-nil, append_assoc, add-zero, arith, nat_lt}
use Rattle.std.proofs.lemmas.Bool.{le-ltb, ne_eqb}
use Rattle.rx_model.specs.declared.answers.Took.{Took}
use Rattle.rx_model.specs.declared.answers.Took.TheVariants as tooks
use Rattle.rx_model.specs.declared.event.Event.TheVariants as events
use Rattle.rx_model.specs.declared.names.CallName.{CallName}
use Rattle.rx_model.specs.declared.wire.TheConstants.{ACK_REQUESTED, CLIENT_INITIATED, LAST_PACKET, REQUEST_ACK}
use Rattle.rx_model.specs.Message.{Message, has_flag}
use Rattle.rx_model.specs.Spelling.{made, IsPlain}
use Rattle.rx_model.proofs.MessageLaws.{reads_back}
use Rattle.rx_model.proofs.NameLaws.{number_itself}
use Rattle.rx_rules.specs.After.{after}
use Rattle.rx_rules.specs.CallItems.{Piece, flags_of}
use Rattle.rx_rules.specs.CallLooks.{CallLooks, after_taken}
use Rattle.rx_rules.specs.Items.{poll_answer}
use Rattle.rx_rules.specs.Judging.{took_of}
use Rattle.rx_rules.specs.Life.{Life, is_active, is_live}
use Rattle.rx_rules.specs.Life as lives
use Rattle.rx_rules.specs.Looks.{Looks}
use Rattle.rx_rules.specs.Owing.{Owed, at_once}
use Rattle.rx_rules.specs.Received.{used_of}
use Rattle.rx_law.specs.Worlds.{Datagram}
use Rattle.rx_jobs.specs.Jobs.{JobState}
use Rattle.rx_plan.specs.Network.{delivers}
use Rattle.rx_plan.specs.Parts.{each}
use Rattle.rx_plan.specs.Rounds.{Polling}
use Rattle.rx_plan.specs.Stages.{InvokedState, Stage}
use Rattle.rx_rounds.proofs.Pair.{CallEnd, message_of, row_of, view_of}
use Rattle.rx_rounds.proofs.Flow.{Marked, Speed, asking, gave_more, next_more, next_none, total, writer_at}
use Rattle.rx_rounds.proofs.Keeper.{keeper_at, keeps_next, owed_behind, part_read, piece, row_next}
use Rattle.rx_rounds.proofs.Keeper.{flag_asks, flag_last}
use Rattle.rx_rounds.proofs.Making.{ends_to, then_to}
use Rattle.rx_rounds.proofs.One.OneCall.{Ends, client_place, client_poll, client_setup, datagram, from_client}
use Rattle.rx_rounds.proofs.One.OneCall.{from_server}
use Rattle.rx_plan.specs.Follows.{class_of}
use Rattle.rx_rounds.proofs.Keys.KeyClass.{challenged_new, challenged_none, or_same}
use Rattle.rx_rounds.proofs.One.OneCall.{header_of, node_of, served_link, server_place, server_setup, the_call}
use Rattle.rx_rounds.proofs.One.OneFields.{FitsEnds, plain_data}
use Rattle.rx_rounds.proofs.Two.{two_as}
use Rattle.rx_rounds.proofs.One.OneSteps.{client_gave, client_none, data_of, empty_at, server_began, server_begins}
use Rattle.rx_rounds.proofs.Rounded.{Made}
use Rattle.rx_rounds.proofs.Two.{AreApart, Polls, Two, client_polls_none, client_polls_some, delivered_server, sent}

-- ---- a server that knows the call takes a piece

module _ (x : Ends) (proved challenged : Bool) (firsts : List CallName) (now used given : ℕ) (life : Life)
    (k : CallLooks) (seq serial flags : ℕ) (payload : List ℕ) where
  pub link_took : 1 < x.first + 1 → is_active life ≡ true → IsPlain (data_of x seq serial flags payload)
      → has_flag CLIENT_INITIATED flags ≡ true
      → took_of (server_setup x) (node_of x (served_link x proved challenged given used) firsts now life k) x.client
      (made (data_of x seq serial flags payload)) ≡ row_of (server_place x now) (data_of x seq serial flags payload)
      k
  link_took some active plain ours =
      let numbered : (x.first == 0) ≡ false = ne_eqb x.first 0 (λ (e : x.first ≡ 0). omega arith) in
      let below : nat_lt x.first x.first ≡ false = le-ltb x.first x.first (omega arith) in
      rw (reads_back (data_of x seq serial flags payload) plain)
      (simp (
        ours,
        active,
        numbered,
        below,
        number_itself x.service,
        number_itself (class_of x.key).index,
        number_itself x.client.addr,
        number_itself x.client.port,
        number_itself x.epoch,
        number_itself x.first,
        add-zero,
      ) refl)

pub server_took : (x : Ends) (firsts : List CallName) (now used given : ℕ) (life : Life) (k : CallLooks)
    (seq serial flags : ℕ) (payload : List ℕ) → 1 < x.first + 1
    → is_active life ≡ true → IsPlain (data_of x seq serial flags payload) → has_flag CLIENT_INITIATED flags ≡ true
    → took_of (server_setup x) (node_of x (from_server x given used) firsts now life k) x.client
    (made (data_of x seq serial flags payload))
    ≡ row_of (server_place x now) (data_of x seq serial flags payload) k
server_took x = link_took x (is_some x.key) false

-- a server that challenges owes a CHALLENGE then
pub link_kept : (x : Ends) (proved challenged asks : Bool) (firsts : List CallName) (now used given : ℕ) (life : Life)
    (k : CallLooks) (seq serial flags : ℕ) (payload : List ℕ)
    → ((class_of x.key).challenges && not proved) ≡ asks
    → is_active life ≡ true → IsPlain (data_of x seq serial flags payload) → has_flag CLIENT_INITIATED flags ≡ true
    → (seq == 1) ≡ false
    → after (server_setup x) (events.Taken x.client (made (data_of x seq serial flags payload)) tooks.Kept)
    (node_of x (served_link x proved challenged given used) firsts now life k)
    ≡ node_of x (served_link x proved (asks || challenged) given now) firsts now life
    (after_taken (view_of (server_place x now) k) tooks.Kept (data_of x seq serial flags payload) k)
link_kept x proved challenged true firsts now used given life k seq serial flags payload is active plain ours later =
    let below : nat_lt x.first x.first ≡ false = le-ltb x.first x.first (omega arith) in
    rw (reads_back (data_of x seq serial flags payload) plain)
    (simp (
      is,
      ours,
      active,
      below,
      later,
      number_itself x.service,
      number_itself (class_of x.key).index,
      number_itself x.client.addr,
      number_itself x.client.port,
      number_itself x.epoch,
      number_itself x.first,
      add-zero,
    ) refl)
link_kept x proved challenged false firsts now used given life k seq serial flags payload is active plain ours later =
    let below : nat_lt x.first x.first ≡ false = le-ltb x.first x.first (omega arith) in
    rw (reads_back (data_of x seq serial flags payload) plain)
    (simp (
      is,
      ours,
      active,
      below,
      later,
      number_itself x.service,
      number_itself (class_of x.key).index,
      number_itself x.client.addr,
      number_itself x.client.port,
      number_itself x.epoch,
      number_itself x.first,
      add-zero,
    ) refl)

module _ (x : Ends) (firsts : List CallName) (now used given : ℕ) (life : Life) (k : CallLooks) (seq serial flags : ℕ)
    (payload : List ℕ) where
  pub server_kept : is_active life ≡ true → IsPlain (data_of x seq serial flags payload)
      → has_flag CLIENT_INITIATED flags ≡ true → (seq == 1) ≡ false
      → after (server_setup x) (events.Taken x.client (made (data_of x seq serial flags payload)) tooks.Kept)
      (node_of x (from_server x given used) firsts now life k) ≡ node_of x (from_server x given now) firsts now life
      (after_taken (view_of (server_place x now) k) tooks.Kept (data_of x seq serial flags payload) k)
  server_kept =
      link_kept x (is_some x.key) false false firsts now used given life k seq serial flags payload
      (challenged_none x.key)

-- ---- the client's burst

small_flags : (a b : Bool) → 1 + flags_of a b < 8
small_flags true true = omega arith
small_flags true false = omega arith
small_flags false true = omega arith
small_flags false false = omega arith

ours_flags : (a b : Bool) → has_flag CLIENT_INITIATED (1 + flags_of a b) ≡ true
ours_flags true true = refl
ours_flags true false = refl
ours_flags false true = refl
ours_flags false false = refl

module _ (x : Ends) (fits : FitsEnds x) (apart : AreApart x) (bytes : List ℕ) (cs : List InvokedState)
    (js : List JobState) where
  abbrev pub client_with : ℕ → CallLooks → Looks
  client_with given k = node_of x (from_client x given 0) [] 0 lives.Calling k

  some_first : 1 < x.first + 1
  some_first = let some : 1 ≤ x.first = fits.some in omega arith

  module _ (a : ℕ) (soft : ℕ → Bool) (hard : Marked a soft) (v : Speed) (some : 0 < v.rtt.rto) where
    abbrev pub wrote : ℕ → CallLooks
    wrote n = writer_at bytes v hard.h soft n

    -- piece suc n as it is given
    abbrev pub piece_given : ℕ → ℕ → Message
    piece_given n given = message_of (client_place x 0) (record { looks = wrote n; given = given })
        (Piece (suc n) false)

    abbrev pub flags_at : ℕ → ℕ
    flags_at n = 1 + flags_of (asking bytes a soft hard (header_of x) v some n) (piece bytes (suc n)).last

    piece_is : (n given : ℕ) → piece_given n given ≡ data_of x (suc n) (suc given % 2 ^ 32) (flags_at n)
        (piece bytes (suc n)).payload
    piece_is n given = refl

    piece_plain : (n given : ℕ) → suc n < 2 ^ 32 → IsPlain (piece_given n given)
    piece_plain n given small =
        plain_data x (suc n) (suc given % 2 ^ 32) (flags_at n) (piece bytes (suc n)).payload fits
        (omega (arith, length-take 1412 (drop (1412 * n) bytes))) small (omega arith)
        (small_flags (asking bytes a soft hard (header_of x) v some n) (piece bytes (suc n)).last)

    -- the datagrams of e pieces behind the first n
    abbrev pub burst : ℕ → ℕ → ℕ → List Datagram
    burst zero n given = []
    burst (suc e) n given = sent x.client x.server (made (piece_given n given)) ∷ burst e (suc n) (suc given)

    -- the client is polled out: it gives e pieces
    pub polls_burst : (e d n given : ℕ) (ls : Looks) (s t : Stage) (before : List Datagram) (w : Polling)
        → n ≡ a + d → n + e ≤ total bytes → d + e ≤ v.window → n + e ≤ hard.h + 32 → suc (n + e) < 2 ^ 32
        → (total bytes ≡ n + e) ⊎ (v.window ≤ d + e)
        → Two x ls (client_with given (wrote n)) cs js s → Polls 1 x.client before s w t
        → (w.given ≡ before ++ burst e n given) × Two x ls (client_with (given + e) (wrote (n + e))) cs js t
    polls_burst zero d n given ls s t before w whole below slow few small stop two polled =
        let end : (total bytes ≤ n) ⊎ (v.window ≤ d) = ⊎_elim (λ (h : total bytes ≡ n + 0). inl (omega arith))
        (λ (h : v.window ≤ d + 0). inr (omega arith)) stop in
        let none : poll_answer (client_setup x) (client_with given (wrote n)) ≡ None =
        client_poll x 0 0 given (wrote n) refl
        ∙ ap (datagram (client_place x 0) x.server (record { looks = wrote n; given = given }))
        (next_none bytes a soft hard (header_of x) v some n d whole end) in
        let c = client_polls_none x ls (client_with given (wrote n)) cs js s t x.client before w two none polled in
        let n_is : n ≡ n + 0 = omega arith in
        let g_is : given ≡ given + 0 = omega arith in (
          c.0 ∙ sym (append-nil before),
          two_as x ls (after (client_setup x) (events.Polled None) (client_with given (wrote n))) ls
              (client_with (given + 0) (wrote (n + 0))) cs js t t refl
              (client_none x 0 0 given (wrote n) refl ∙ ap (λ (i : ℕ). client_with i (wrote n)) g_is
              ∙ ap (λ (i : ℕ). client_with (given + 0) (wrote i)) n_is) refl c.1,
        )
    polls_burst (suc e) d n given ls s t before w whole below slow few small stop two polled =
        let m : Message = piece_given n given in
        let more : poll_answer (client_setup x) (client_with given (wrote n)) ≡ Some (x.server, made m) =
        client_poll x 0 0 given (wrote n) refl
        ∙ ap (datagram (client_place x 0) x.server (record { looks = wrote n; given = given }))
        (next_more bytes a soft hard (header_of x) v some n d whole (omega arith) (omega arith) (omega arith)) in
        let c = client_polls_some x ls (client_with given (wrote n)) cs js s t x.client x.server
        (made m) before w two more polled in
        let two1 : Two x ls (client_with (suc given) (wrote (suc n))) cs js c.0 =
        two_as x ls (after (client_setup x) (events.Polled (Some (x.server, made m))) (client_with given (wrote n)))
        ls (client_with (suc given) (wrote (suc n))) cs js c.0 c.0 refl
        (client_gave x 0 0 given (wrote n) (Piece (suc n) false) refl (piece_plain n given (omega arith))
        ∙ ap (λ (e : CallEnd). client_with e.given e.looks)
        (gave_more bytes a soft hard (header_of x) v some n given)) refl c.1 in
        let rest = polls_burst e (suc d) (suc n) (suc given) ls c.0 t (before ++ sent x.client x.server (made m) ∷ []) w
        (omega arith) (omega arith) (omega arith) (omega arith) (omega arith)
        (⊎_elim (λ (h : total bytes ≡ n + suc e). inl (omega arith)) (λ (h : v.window ≤ d + suc e). inr (omega arith))
        stop) two1 c.2 in
        let n_is : suc n + e ≡ n + suc e = omega arith in
        let g_is : suc given + e ≡ given + suc e = omega arith in (
          rest.0 ∙ append_assoc before (sent x.client x.server (made m) ∷ []) (burst e (suc n) (suc given)),
          two_as x ls (client_with (suc given + e) (wrote (suc n + e))) ls
              (client_with (given + suc e) (wrote (n + suc e))) cs js t t refl
              (ap (λ (i : ℕ). client_with i (wrote (suc n + e))) g_is
              ∙ ap (λ (i : ℕ). client_with (given + suc e) (wrote i)) n_is) refl rest.1,
        )

    -- ---- the server takes a burst

    abbrev pub serving_with : ℕ → Life → CallLooks → Looks
    serving_with sent_so_far life k = node_of x (from_server x sent_so_far 0) (the_call x ∷ []) 0 life k

    last_flag : (n : ℕ) → has_flag LAST_PACKET (flags_at n) ≡ (suc n == total bytes)
    last_flag n = flag_last (asking bytes a soft hard (header_of x) v some n) (piece bytes (suc n)).last

    asks_flag : (n : ℕ) → has_flag REQUEST_ACK (flags_at n) ≡ asking bytes a soft hard (header_of x) v some n
    asks_flag n = flag_asks (asking bytes a soft hard (header_of x) v some n) (piece bytes (suc n)).last

    -- its window reaches each piece up to the m-th
    abbrev pub Reaches : List ℕ → ℕ → Type 0
    Reaches read m = (p n : ℕ) → n < m → n < used_of (part_read bytes read p n) + 32

    -- what it owes behind a burst that was asked for
    abbrev pub owes : List ℕ → Option Owed → ℕ → ℕ → ℕ → Option Owed
    owes read o zero n given = o
    owes read o (suc e) n given = owes read (owed_behind bytes (header_of x) (suc given % 2 ^ 32) (flags_at n) o) e
        (suc n) (suc given)

    -- ---- of a client that showed its key or not: where it has to show it yet, a CHALLENGE is owed, and stays so
    module _ (proved owing asks_it : Bool) (asks_is : ((class_of x.key).challenges && not proved) ≡ asks_it)
        (same_owing : (asks_it || owing) ≡ owing) where
      abbrev pub linked_with : ℕ → Life → CallLooks → Looks
      linked_with sent_so_far life k =
          node_of x (served_link x proved owing sent_so_far 0) (the_call x ∷ []) 0 life k

      pub delivers_link : (e n given sent_so_far p : ℕ) (life : Life) (read : List ℕ) (o : Option Owed) (lc : Looks)
          (s t : Stage)
          → p < 2 ^ 32 → is_active life ≡ true → 1 ≤ n → n + e ≤ total bytes → suc (n + e) < 2 ^ 32 - 1
          → Reaches read (n + e)
          → Two x (linked_with sent_so_far life (keeper_at bytes read o p n)) lc cs js s
          → Made (each delivers (burst e n given)) s t
          → (q : ℕ) × (q < 2 ^ 32) × Two x
          (linked_with sent_so_far life (keeper_at bytes read (owes read o e n given) q (n + e))) lc cs js t
      delivers_link zero n given sent_so_far p life read o lc s t low_p active known below small reaches two made_ =
          let n_is : n ≡ n + 0 = omega arith in (
            p,
            low_p,
            two_as x (linked_with sent_so_far life (keeper_at bytes read o p n)) lc
                (linked_with sent_so_far life (keeper_at bytes read o p (n + 0))) lc cs js s t
                (ap (λ (i : ℕ). linked_with sent_so_far life (keeper_at bytes read o p i)) n_is) refl
                (sym (ends_to s t made_.0 made_.1)) two,
          )
      delivers_link (suc e) n given sent_so_far p life read o lc s t low_p active known below small reaches two made_ =
          let k : CallLooks = keeper_at bytes read o p n in
          let m : Message = piece_given n given in
          let b = then_to (delivers (sent x.client x.server (made m)) s) (each delivers (burst e (suc n) (suc given)))
          made_.0 t made_.1 in
          let d = delivered_server x (linked_with sent_so_far life k) lc cs js s b.between x.client
          (made m) b.front apart two b.made in
          let plain : IsPlain m = piece_plain n given (omega arith) in
          let ours : has_flag CLIENT_INITIATED (flags_at n) ≡ true = ours_flags
          (asking bytes a soft hard (header_of x) v some n) (piece bytes (suc n)).last in
          let row : took_of (server_setup x) (linked_with sent_so_far life k) x.client (made m) ≡ tooks.Kept =
          link_took x proved owing (the_call x ∷ []) 0 0 sent_so_far life k (suc n) (suc given % 2 ^ 32) (flags_at n)
          (piece bytes (suc n)).payload some_first active plain ours
          ∙ row_next bytes (header_of x) (header_of x) read o p n (suc given % 2 ^ 32) (flags_at n) (omega arith)
          (omega arith) (reaches p n (omega arith)) in
          let o2 : Option Owed = owed_behind bytes (header_of x) (suc given % 2 ^ 32) (flags_at n) o in
          let next : after (server_setup x)
          (events.Taken x.client (made m)
          (took_of (server_setup x) (linked_with sent_so_far life k) x.client (made m)))
          (linked_with sent_so_far life k)
          ≡ linked_with sent_so_far life (keeper_at bytes read o2 (suc n) (suc n)) =
          ap (λ (got : Took). after (server_setup x) (events.Taken x.client (made m) got)
          (linked_with sent_so_far life k)) row
          ∙ link_kept x proved owing asks_it (the_call x ∷ []) 0 0 sent_so_far life k (suc n) (suc given % 2 ^ 32)
          (flags_at n) (piece bytes (suc n)).payload asks_is active plain ours
          (ne_eqb (suc n) 1 (λ (e1 : suc n ≡ 1). omega arith))
          ∙ ap (λ (c : Bool). node_of x (served_link x proved c sent_so_far 0) (the_call x ∷ []) 0 life
          (after_taken (view_of (server_place x 0) k) tooks.Kept m k)) same_owing
          ∙ ap (linked_with sent_so_far life)
          (keeps_next bytes (header_of x) (view_of (server_place x 0) k) (header_of x) read o p n
          (suc given % 2 ^ 32) (flags_at n) refl refl (last_flag n)) in
          let two1 = two_as x _ lc (linked_with sent_so_far life (keeper_at bytes read o2 (suc n) (suc n))) lc cs js
          b.between b.between next refl refl d in
          let n_is : suc n + e ≡ n + suc e = omega arith in
          let rest = delivers_link e (suc n) (suc given) sent_so_far (suc n) life read o2 lc b.between t
          (omega arith) active (omega arith) (omega arith) (omega arith)
          (λ p1 n1 low. reaches p1 n1 (omega arith)) two1 (b.rest, b.goes) in (
            rest.0,
            rest.1,
            two_as x _ lc (linked_with sent_so_far life
                (keeper_at bytes read (owes read o (suc e) n given) rest.0 (n + suc e))) lc cs js t t
                (ap (λ (i : ℕ). linked_with sent_so_far life
                (keeper_at bytes read (owes read o (suc e) n given) rest.0 i)) n_is) refl refl rest.2,
          )

    pub delivers_more : (e n given sent_so_far p : ℕ) (life : Life) (read : List ℕ) (o : Option Owed) (lc : Looks)
        (s t : Stage)
        → p < 2 ^ 32 → is_active life ≡ true → 1 ≤ n → n + e ≤ total bytes → suc (n + e) < 2 ^ 32 - 1
        → Reaches read (n + e)
        → Two x (serving_with sent_so_far life (keeper_at bytes read o p n)) lc cs js s
        → Made (each delivers (burst e n given)) s t
        → (q : ℕ) × (q < 2 ^ 32) × Two x
        (serving_with sent_so_far life (keeper_at bytes read (owes read o e n given) q (n + e))) lc cs js t
    delivers_more = delivers_link (is_some x.key) false false (challenged_none x.key) refl

    -- the first burst: the call starts
    abbrev pub starting_with : CallLooks → Looks
    starting_with k = node_of x (served_link x false (is_some x.key) 0 0) (the_call x ∷ []) 0 lives.Waiting k

    pub delivers_first : (e given : ℕ) (lc : Looks) (s t : Stage)
        → suc e ≤ total bytes → suc (suc e) < 2 ^ 32 - 1 → suc e ≤ 32
        → Two x (empty_at 0) lc cs js s → Made (each delivers (burst (suc e) 0 given)) s t
        → (q : ℕ) × (q < 2 ^ 32) × Two x
        (starting_with (keeper_at bytes [] (owes [] None (suc e) 0 given) q (suc e))) lc cs js t
    delivers_first e given lc s t below small few two made_ =
        let m : Message = piece_given 0 given in
        let k : CallLooks = keeper_at bytes [] None 0 0 in
        let b = then_to (delivers (sent x.client x.server (made m)) s) (each delivers (burst e 1 (suc given))) made_.0
        t made_.1 in
        let d = delivered_server x (empty_at 0) lc cs js s b.between x.client (made m) b.front apart two b.made in
        let plain : IsPlain m = piece_plain 0 given (omega arith) in
        let ours : has_flag CLIENT_INITIATED (flags_at 0) ≡ true = ours_flags
        (asking bytes a soft hard (header_of x) v some 0) (piece bytes 1).last in
        let row : took_of (server_setup x) (empty_at 0) x.client (made m) ≡ tooks.Kept =
        server_begins x 0 (suc given % 2 ^ 32) (flags_at 0) (piece bytes 1).payload some_first plain ours
        ∙ row_next bytes (header_of x) (header_of x) [] None 0 0 (suc given % 2 ^ 32) (flags_at 0) (omega arith)
        (omega arith) (omega arith) in
        let o2 : Option Owed = owed_behind bytes (header_of x) (suc given % 2 ^ 32) (flags_at 0) None in
        let next : after (server_setup x)
        (events.Taken x.client (made m) (took_of (server_setup x) (empty_at 0) x.client (made m))) (empty_at 0)
        ≡ starting_with (keeper_at bytes [] o2 1 1) =
        ap (λ (got : Took). after (server_setup x) (events.Taken x.client (made m) got) (empty_at 0)) row
        ∙ server_began x 0 (suc given % 2 ^ 32) (flags_at 0) (piece bytes 1).payload some_first plain ours
        ∙ ap starting_with
        (keeps_next bytes (header_of x) (view_of (server_place x 0) k) (header_of x) [] None 0 0
        (suc given % 2 ^ 32) (flags_at 0) refl refl (last_flag 0)) in
        let two1 = two_as x _ lc (starting_with (keeper_at bytes [] o2 1 1)) lc cs js b.between
        b.between next refl refl d in
        let rest = delivers_link false (is_some x.key) (is_some x.key) (challenged_new x.key) (or_same (is_some x.key))
        e 1 (suc given) 0 1 lives.Waiting [] o2 lc b.between t (omega arith) refl
        (omega arith) (omega arith) (omega arith) (λ p n low. omega arith) two1 (b.rest, b.goes) in
        let n_is : 1 + e ≡ suc e = omega arith in (
          rest.0,
          rest.1,
          two_as x _ lc (starting_with (keeper_at bytes [] (owes [] None (suc e) 0 given) rest.0 (suc e))) lc cs js t t
              (ap (λ (i : ℕ). starting_with (keeper_at bytes [] (owes [] None (suc e) 0 given) rest.0 i)) n_is) refl
              refl rest.2,
        )

    -- a burst whose last piece asks for it is owed an ACK at once
    pub owes_now : (e n given : ℕ) (read : List ℕ) (o : Option Owed)
        → asking bytes a soft hard (header_of x) v some (n + e) ≡ true
        → (serial : ℕ) × (serial < 2 ^ 32) × (owes read o (suc e) n given ≡ at_once ACK_REQUESTED serial)
    owes_now zero n given read o asked =
        let n_is : n + 0 ≡ n = omega arith in
        let asks_ : has_flag REQUEST_ACK (flags_at n) ≡ true = asks_flag n
        ∙ ap (λ (i : ℕ). asking bytes a soft hard (header_of x) v some i) (sym n_is) ∙ asked in
        (suc given % 2 ^ 32, omega arith, rw asks_ refl)
    owes_now (suc e) n given read o asked =
        let n_is : n + suc e ≡ suc n + e = omega arith in
        owes_now e (suc n) (suc given) read (owed_behind bytes (header_of x) (suc given % 2 ^ 32) (flags_at n) o)
        (ap (λ (i : ℕ). asking bytes a soft hard (header_of x) v some i) (sym n_is) ∙ asked)
