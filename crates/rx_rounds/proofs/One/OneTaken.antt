-- What deliveries make of nodes with one connection and one call on it, at any moment, by what they make of the call's
-- end.
use Rattle.std.proofs.Common.{◌≡◌, ◌<◌, ◌≤◌, ◌+◌, ◌-◌, ◌^◌, ◌==◌, ◌++◌, ℕ, suc, Bool, true, false, cond}
use Rattle.std.proofs.Common.{List, [], ◌∷◌, refl, ap, sym, subst, ◌∙◌, add-zero, arith, nat_lt}
use Rattle.std.proofs.lemmas.Bool.{le-ltb, ne_eqb}
use Rattle.rx_model.specs.declared.answers.Took.{Took}
use Rattle.rx_model.specs.declared.answers.Took.TheVariants as tooks
use Rattle.rx_model.specs.declared.event.Event.TheVariants as events
use Rattle.rx_model.specs.declared.names.CallName.{CallName}
use Rattle.rx_model.specs.declared.wire.TheConstants.{ACK_PING, CLIENT_INITIATED}
use Rattle.rx_model.specs.Body.{AckBody}
use Rattle.rx_model.specs.Body as bodies
use Rattle.rx_model.specs.Message.{Message, has_flag}
use Rattle.rx_model.specs.Spelling.{made, IsPlain}
use Rattle.rx_model.proofs.MessageLaws.{reads_back}
use Rattle.rx_model.proofs.NameLaws.{number_itself}
use Rattle.rx_rules.specs.After.{after}
use Rattle.rx_rules.specs.CallItems.{flags_of}
use Rattle.rx_rules.specs.CallLooks.{CallLooks, after_taken, is_delivered}
use Rattle.rx_rules.specs.Judging.{took_of}
use Rattle.rx_rules.specs.Life.{Life, after_acks, is_active}
use Rattle.rx_rules.specs.Looks.{Looks}
use Rattle.rx_jobs.specs.Jobs.{JobState}
use Rattle.rx_plan.specs.Follows.{class_of}
use Rattle.rx_plan.specs.Network.{delivers}
use Rattle.rx_plan.specs.Parts.{each}
use Rattle.rx_plan.specs.Stages.{InvokedState, Stage}
use Rattle.rx_rounds.proofs.Between.{client_at, server_at}
use Rattle.rx_rounds.proofs.Exchange.{Acks, Burst, a_piece, ack_with, an_ack, no_ack, no_piece, piece_with, tells_of}
use Rattle.rx_rounds.proofs.Flow.{total}
use Rattle.rx_rounds.proofs.Keeper.{piece}
use Rattle.rx_rounds.proofs.Keys.KeyClass.{challenged_none}
use Rattle.rx_rounds.proofs.Making.{ends_to, then_to}
use Rattle.rx_rounds.proofs.One.OneBurst.{server_kept, server_took}
use Rattle.rx_rounds.proofs.One.OneCall.{Ends, client_place, client_setup, from_server, header_of, node_of}
use Rattle.rx_rounds.proofs.One.OneCall.{server_place, server_setup, the_call}
use Rattle.rx_rounds.proofs.One.OneFields.{FitsEnds}
use Rattle.rx_rounds.proofs.One.OneNode.{datagrams, plain_ack, plain_piece, side_flags}
use Rattle.rx_rounds.proofs.One.OneSteps.{ack_of, client_heard_ack, client_took_ack, data_of}
use Rattle.rx_rounds.proofs.Pair.{row_of, view_of}
use Rattle.rx_rounds.proofs.Rounded.{Made}
use Rattle.rx_rounds.proofs.Takes.Taking.{Takes, hears, keeps, takes_none}
use Rattle.rx_rounds.proofs.Two.{AreApart, Two, delivered_client, delivered_server, sent, two_as}

-- ---- one message

-- an ACK with flags
abbrev pub ack_flagged : Ends → ℕ → ℕ → AckBody → Message
ack_flagged x serial flags a = record (header_of x) { serial = serial; flags = flags; body = bodies.Ack a }

module _ (x : Ends) (firsts : List CallName) (now used given : ℕ) where
  server_took_ack : (life : Life) (k : CallLooks) (serial flags : ℕ) (a : AckBody) → 1 < x.first + 1
      → is_active life ≡ true → IsPlain (ack_flagged x serial flags a) → has_flag CLIENT_INITIATED flags ≡ true
      → took_of (server_setup x) (node_of x (from_server x given used) firsts now life k) x.client
      (made (ack_flagged x serial flags a)) ≡ row_of (server_place x now) (ack_flagged x serial flags a) k
  server_took_ack life k serial flags a some active plain ours =
      let numbered : (x.first == 0) ≡ false = ne_eqb x.first 0 (λ (e : x.first ≡ 0). omega arith) in
      let below : nat_lt x.first x.first ≡ false = le-ltb x.first x.first (omega arith) in
      rw (reads_back (ack_flagged x serial flags a) plain)
      (simp (
        ours,
        active,
        numbered,
        below,
        number_itself x.service,
        number_itself (class_of x.key).index,
        challenged_none x.key,
        number_itself x.client.addr,
        number_itself
            x.client.port,
        number_itself x.epoch,
        number_itself x.first,
        add-zero,
      ) refl)

  server_heard_ack : (life : Life) (k : CallLooks) (serial flags : ℕ) (a : AckBody)
      → IsPlain (ack_flagged x serial flags a) → has_flag CLIENT_INITIATED flags ≡ true
      → after_acks (is_delivered
      (after_taken (view_of (server_place x now) k) tooks.Heard (ack_flagged x serial flags a) k)) life ≡ life
      → after (server_setup x) (events.Taken x.client (made (ack_flagged x serial flags a)) tooks.Heard)
      (node_of x (from_server x given used) firsts now life k) ≡ node_of x (from_server x given now) firsts now life
      (after_taken (view_of (server_place x now) k) tooks.Heard (ack_flagged x serial flags a) k)
  server_heard_ack life k serial flags a plain ours lives_on =
      rw (reads_back (ack_flagged x serial flags a) plain)
      (simp (
        ours,
        number_itself x.service,
        number_itself (class_of x.key).index,
        challenged_none x.key,
        number_itself x.client.addr,
        number_itself x.client.port,
        number_itself x.epoch,
        number_itself x.first,
      ) (rw lives_on refl))

  client_took_data_on : (k : CallLooks) (seq serial flags : ℕ) (payload : List ℕ) → 1 < x.first + 1
      → IsPlain (data_of x seq serial flags payload) → has_flag CLIENT_INITIATED flags ≡ false
      → took_of (client_setup x) (client_at x given used firsts now k) x.server (made
      (data_of x seq serial flags payload)) ≡ row_of (client_place x now) (data_of x seq serial flags payload) k
  client_took_data_on k seq serial flags payload some plain theirs =
      let numbered : (x.first == 0) ≡ false = ne_eqb x.first 0 (λ (e : x.first ≡ 0). omega arith) in
      let below : nat_lt x.first x.first ≡ false = le-ltb x.first x.first (omega arith) in
      rw (reads_back (data_of x seq serial flags payload) plain)
      (simp (
        theirs,
        numbered,
        below,
        number_itself x.client.addr,
        number_itself x.client.port,
        number_itself
            x.server.addr,
        number_itself x.server.port,
        number_itself (class_of x.key).index,
        number_itself x.epoch,
        number_itself x.first,
        add-zero,
      ) refl)

  client_kept_on : (k : CallLooks) (seq serial flags : ℕ) (payload : List ℕ)
      → IsPlain (data_of x seq serial flags payload) → has_flag CLIENT_INITIATED flags ≡ false
      → after (client_setup x) (events.Taken x.server (made (data_of x seq serial flags payload)) tooks.Kept)
      (client_at x given used firsts now k) ≡ client_at x given now (cond (seq == 1) (firsts ++ the_call x ∷ [])
      firsts) now (after_taken (view_of (client_place x now) k) tooks.Kept (data_of x seq serial flags payload) k)
  client_kept_on k seq serial flags payload plain theirs =
      let below : nat_lt x.first x.first ≡ false = le-ltb x.first x.first (omega arith) in
      rw (reads_back (data_of x seq serial flags payload) plain)
      (simp (
        theirs,
        below,
        number_itself x.client.addr,
        number_itself x.client.port,
        number_itself x.server.addr,
        number_itself x.server.port,
        number_itself (class_of x.key).index,
        number_itself x.epoch,
        number_itself x.first,
        add-zero,
      ) refl)

  -- an ACK is heard at the client
  client_hears : (k : CallLooks) (serial : ℕ) (a : AckBody) (m : Message) → m ≡ ack_of x serial a → 1 < x.first + 1
      → IsPlain m → row_of (client_place x now) m k ≡ tooks.Heard
      → after (client_setup x)
      (events.Taken x.server (made m)
      (took_of (client_setup x) (client_at x given used firsts now k) x.server (made m)))
      (client_at x given used firsts now k) ≡ client_at x given now firsts now
      (after_taken (view_of (client_place x now) k) tooks.Heard m k)
  client_hears k serial a m is some =
      subst (λ (n : Message). IsPlain n → row_of (client_place x now) n k ≡ tooks.Heard
      → after (client_setup x) (events.Taken x.server (made n)
      (took_of (client_setup x) (client_at x given used firsts now k) x.server (made n)))
      (client_at x given used firsts now k)
      ≡ client_at x given now firsts now (after_taken (view_of (client_place x now) k) tooks.Heard n k)) (sym is)
      (λ plain row. ap (λ (got : Took). after (client_setup x) (events.Taken x.server (made (ack_of x serial a)) got)
      (client_at x given used firsts now k))
      (client_took_ack x firsts now used given k serial a some plain ∙ row)
      ∙ client_heard_ack x firsts now used given k serial a plain)

-- ---- several

-- messages behind the first piece
abbrev pub AreLater : List Message → Type 0
AreLater [] = Unit {0}
AreLater (m ∷ ms) = ((m.seq == 1) ≡ false) × AreLater ms

pub later_burst : (frame : Message) (client : Bool) (whole : List ℕ) (n m : ℕ) (ms : List Message) → 1 ≤ n
    → Burst frame client whole n m ms → AreLater ms
later_burst frame client whole n m ms known (no_piece i) = tt
later_burst frame client whole n m ms known (a_piece i j serial asking others low asks rest) = (
  ne_eqb (suc n) 1 (λ (e : suc n ≡ 1). omega arith),
  later_burst frame client whole (suc n) m others (omega arith) rest,
)

pub later_acks : (frame : Message) (client : Bool) (n : ℕ) (ms : List Message) → Acks frame client n ms → AreLater ms
later_acks frame client n ms no_ack = tt
later_acks frame client n ms (an_ack serial previous caused reason f1 f2 f3 low high kind) = (refl, tt)

pub later_both : (ms ns : List Message) → AreLater ms → AreLater ns → AreLater (ms ++ ns)
later_both [] ns all more = more
later_both (m ∷ ms) ns all more = (all.0, later_both ms ns all.1 more)

module _ (x : Ends) (fits : FitsEnds x) (apart : AreApart x) (now : ℕ) (cs : List InvokedState) (js : List JobState)
  where
    some_first : 1 < x.first + 1
    some_first = let some : 1 ≤ x.first = fits.some in omega arith

    pub client_takes_all : (ls : Looks) (k l : CallLooks) (ms : List Message) → Takes (client_place x now) k ms l
        → (given used : ℕ) (firsts : List CallName) (s t : Stage)
        → Two x ls (client_at x given used firsts now k) cs js s
        → Made (each delivers (datagrams x.server x.client ms)) s t
        → (last : ℕ) × ((names : List CallName) × Two x ls (client_at x given last names now l) cs js t
        × (AreLater ms → names ≡ firsts))
    client_takes_all ls k l ms (takes_none i) given used firsts s t two made_ = (
      used,
      (
        firsts,
        subst (λ (u : Stage). Two x ls (client_at x given used firsts now k) cs js u)
            (sym (ends_to s t made_.0 made_.1)) two,
        λ late. refl,
      ),
    )
    client_takes_all ls k l ms (keeps whole i j seq serial asking others low small row rest) given used firsts s t two
        made_ =
        let m : Message = piece_with (header_of x) false whole seq serial asking in
        let plain : IsPlain m = plain_piece x fits false whole seq serial asking low small in
        let theirs : has_flag CLIENT_INITIATED m.flags ≡ false = side_flags false asking (seq == total whole) in
        let b = then_to (delivers (sent x.server x.client (made m)) s)
        (each delivers (datagrams x.server x.client others))
        made_.0 t made_.1 in
        let d = delivered_client x ls (client_at x given used firsts now k) cs js s b.between x.server (made m) b.front
        apart two b.made in
        let took : took_of (client_setup x) (client_at x given used firsts now k) x.server (made m) ≡ tooks.Kept =
        client_took_data_on x firsts now used given k seq serial m.flags (piece whole seq).payload some_first plain
        theirs
        ∙ row in
        let next : after (client_setup x) (events.Taken x.server (made m)
        (took_of (client_setup x) (client_at x given used firsts now k) x.server (made m)))
        (client_at x given used firsts now k)
        ≡ client_at x given now (cond (seq == 1) (firsts ++ the_call x ∷ []) firsts) now
        (after_taken (view_of (client_place x now) k) tooks.Kept m k) =
        ap (λ (got : Took). after (client_setup x) (events.Taken x.server (made m) got)
        (client_at x given used firsts now k)) took
        ∙ client_kept_on x firsts now used given k seq serial m.flags (piece whole seq).payload plain theirs in
        let r = client_takes_all ls (after_taken (view_of (client_place x now) k) tooks.Kept m k) l others rest given
        now
        (cond (seq == 1) (firsts ++ the_call x ∷ []) firsts) b.between t
        (two_as x ls _ ls _ cs js b.between b.between refl next refl d) (b.rest, b.goes) in (
          r.0,
          (
            r.1.0,
            r.1.1,
            λ late. r.1.2 late.1 ∙ ap (λ (q : Bool). cond q (firsts ++ the_call x ∷ []) firsts) late.0,
          ),
        )
    client_takes_all ls k l ms (hears i j n serial previous caused reason others small f1 f2 f3 low high kind row rest)
        given
        used firsts s t two made_ =
        let m : Message = ack_with (header_of x) false n serial previous caused reason in
        let plain : IsPlain m = plain_ack x fits false n serial previous caused reason small f1 f2 f3 low high in
        let is : m ≡ ack_of x serial (tells_of n previous caused reason) =
        ap (λ (q : Bool). record (header_of x) {
          serial = serial;
          flags = 0 + flags_of q false;
          body = bodies.Ack (tells_of n previous caused reason);
        }) (kind refl) in
        let b = then_to (delivers (sent x.server x.client (made m)) s)
        (each delivers (datagrams x.server x.client others))
        made_.0 t made_.1 in
        let d = delivered_client x ls (client_at x given used firsts now k) cs js s b.between x.server (made m) b.front
        apart two b.made in
        let next = client_hears x firsts now used given k serial (tells_of n previous caused reason) m is some_first
        plain
        row in
        let r = client_takes_all ls (after_taken (view_of (client_place x now) k) tooks.Heard m k) l others rest given
        now
        firsts b.between t (two_as x ls _ ls _ cs js b.between b.between refl next refl d) (b.rest, b.goes) in
        (r.0, (r.1.0, r.1.1, λ late. r.1.2 late.1))

    pub client_takes : (ls : Looks) (k l : CallLooks) (ms : List Message) → Takes (client_place x now) k ms l
        → (given used : ℕ) (firsts : List CallName) (s t : Stage)
        → Two x ls (client_at x given used firsts now k) cs js s
        → Made (each delivers (datagrams x.server x.client ms)) s t
        → (last : ℕ) × ((names : List CallName) × Two x ls (client_at x given last names now l) cs js t)
    client_takes ls k l ms takes given used firsts s t two made_ =
        let r = client_takes_all ls k l ms takes given used firsts s t two made_ in (r.0, (r.1.0, r.1.1))

    -- no first piece among them
    pub client_takes_later : (ls : Looks) (k l : CallLooks) (ms : List Message) → Takes (client_place x now) k ms l
        → AreLater ms → (given used : ℕ) (firsts : List CallName) (s t : Stage)
        → Two x ls (client_at x given used firsts now k) cs js s
        → Made (each delivers (datagrams x.server x.client ms)) s t
        → (last : ℕ) × Two x ls (client_at x given last firsts now l) cs js t
    client_takes_later ls k l ms takes late given used firsts s t two made_ =
        let r = client_takes_all ls k l ms takes given used firsts s t two made_ in (
          r.0,
          subst (λ (ns : List CallName). Two x ls (client_at x given r.0 ns now l) cs js t) (r.1.2 late) r.1.1,
        )

    -- an ACK comes to the server
    pub server_takes_ack : (lc : Looks) (life : Life) (k : CallLooks) (n serial previous caused reason : ℕ)
        → is_active life ≡ true → n < 2 ^ 32 - 1 → serial < 2 ^ 32 → previous < 2 ^ 32 → caused < 2 ^ 32 → 1 ≤ reason
        → reason ≤ 8
        → row_of (server_place x now) (ack_with (header_of x) true n serial previous caused reason) k ≡ tooks.Heard
        → after_acks (is_delivered (after_taken (view_of (server_place x now) k) tooks.Heard
        (ack_with (header_of x) true n serial previous caused reason) k)) life ≡ life
        → (given used : ℕ) (s t : Stage) → Two x (server_at x given used now life k) lc cs js s
        → Made (delivers (sent x.client x.server (made (ack_with (header_of x) true n serial previous caused reason))))
        s
        t
        → Two x (server_at x given now now life (after_taken (view_of (server_place x now) k) tooks.Heard
        (ack_with (header_of x) true n serial previous caused reason) k)) lc cs js t
    server_takes_ack lc life k n serial previous caused reason active small f1 f2 f3 low high row stays given used s t
        two
        made_ =
        let m : Message = ack_with (header_of x) true n serial previous caused reason in
        let plain : IsPlain m = plain_ack x fits true n serial previous caused reason small f1 f2 f3 low high in
        let ours : has_flag CLIENT_INITIATED m.flags ≡ true = side_flags true (reason == ACK_PING) false in
        let d = delivered_server x (server_at x given used now life k) lc cs js s t x.client (made m) made_.0 apart two
        made_.1 in
        let took : took_of (server_setup x) (server_at x given used now life k) x.client (made m) ≡ tooks.Heard =
        server_took_ack x (the_call x ∷ []) now used given life k serial m.flags (tells_of n previous caused reason)
        some_first active plain ours ∙ row in
        let next : after (server_setup x) (events.Taken x.client (made m)
        (took_of (server_setup x) (server_at x given used now life k) x.client (made m)))
        (server_at x given used now life k)
        ≡ server_at x given now now life (after_taken (view_of (server_place x now) k) tooks.Heard m k) =
        ap (λ (got : Took). after (server_setup x) (events.Taken x.client (made m) got)
        (server_at x given used now life k)) took
        ∙ server_heard_ack x (the_call x ∷ []) now used given life k serial m.flags
        (tells_of n previous caused reason) plain ours stays in
        two_as x _ lc _ lc cs js t t next refl refl d

    -- before the handler finished
    pub server_takes : (lc : Looks) (life : Life) (k l : CallLooks) (ms : List Message) → is_active life ≡ true
        → ((b : Bool) → after_acks b life ≡ life)
        → Takes (server_place x now) k ms l → AreLater ms
        → (given used : ℕ) (s t : Stage)
        → Two x (server_at x given used now life k) lc cs js s
        → Made (each delivers (datagrams x.client x.server ms)) s t
        → (last : ℕ) × Two x (server_at x given last now life l) lc cs js t
    server_takes lc life k l ms active open_ (takes_none i) late given used s t two made_ = (
      used,
      subst (λ (u : Stage). Two x (server_at x given used now life k) lc cs js u)
          (sym (ends_to s t made_.0 made_.1)) two,
    )
    server_takes lc life k l ms active open_ (keeps whole i j seq serial asking others low small row rest) late given
        used
        s t two made_ =
        let m : Message = piece_with (header_of x) true whole seq serial asking in
        let plain : IsPlain m = plain_piece x fits true whole seq serial asking low small in
        let ours : has_flag CLIENT_INITIATED m.flags ≡ true = side_flags true asking (seq == total whole) in
        let b = then_to (delivers (sent x.client x.server (made m)) s)
        (each delivers (datagrams x.client x.server others))
        made_.0 t made_.1 in
        let d = delivered_server x (server_at x given used now life k) lc cs js s b.between x.client (made m) b.front
        apart two b.made in
        let took : took_of (server_setup x) (server_at x given used now life k) x.client (made m) ≡ tooks.Kept =
        server_took x (the_call x ∷ []) now used given life k seq serial m.flags (piece whole seq).payload some_first
        active plain ours ∙ row in
        let next : after (server_setup x) (events.Taken x.client (made m)
        (took_of (server_setup x) (server_at x given used now life k) x.client (made m)))
        (server_at x given used now life k)
        ≡ server_at x given now now life (after_taken (view_of (server_place x now) k) tooks.Kept m k) =
        ap (λ (got : Took). after (server_setup x) (events.Taken x.client (made m) got)
        (server_at x given used now life k)) took
        ∙ server_kept x (the_call x ∷ []) now used given life k seq serial m.flags (piece whole seq).payload active
        plain
        ours late.0 in
        server_takes lc life (after_taken (view_of (server_place x now) k) tooks.Kept m k) l others active open_ rest
        late.1
        given now b.between t (two_as x _ lc _ lc cs js b.between b.between next refl refl d) (b.rest, b.goes)
    server_takes lc life k l ms active open_
        (hears i j n serial previous caused reason others small f1 f2 f3 low high kind row rest) late given used s t two
        made_ =
        let m : Message = ack_with (header_of x) true n serial previous caused reason in
        let b = then_to (delivers (sent x.client x.server (made m)) s)
        (each delivers (datagrams x.client x.server others))
        made_.0 t made_.1 in
        let d = server_takes_ack lc life k n serial previous caused reason active small f1 f2 f3 low high row
        (open_ (is_delivered (after_taken (view_of (server_place x now) k) tooks.Heard m k))) given used s b.between two
        (b.front, b.made) in
        server_takes lc life (after_taken (view_of (server_place x now) k) tooks.Heard m k) l others active open_ rest
        late.1 given now b.between t d (b.rest, b.goes)
