-- Both ends of a connection whose server forgot no record of it.
use Rattle.std.proofs.Common.{◌≡◌, ◌≢◌, ◌==◌, ℕ, cond}
use Rattle.std.proofs.Common.{Bool, true, false, List, [], ◌∷◌, ◌++◌}
use Rattle.std.proofs.Common.{Option, Some, None, Ok, refl, ◌∙◌, ap, sym, subst, inl, inr}
use Rattle.rx_model.specs.declared.answers.Took.TheVariants as tooks
use Rattle.rx_model.specs.declared.event.Event.{Event}
use Rattle.rx_model.specs.declared.event.Event.TheVariants as events
use Rattle.rx_model.specs.declared.event.Noted.{Noted}
use Rattle.rx_model.specs.declared.names.CallName.{CallName}
use Rattle.rx_model.specs.declared.names.Host.{Host}
use Rattle.rx_rules.specs.After.{looks}
use Rattle.rx_model.specs.Body as bodies
use Rattle.rx_rules.specs.CallLooks.{packet_of}
use Rattle.rx_rules.specs.Items.{poll_answer}
use Rattle.rx_rules.specs.Judging.{outer_row}
use Rattle.rx_rules.specs.Looks.{Looks, call_at}
use Rattle.rx_model.specs.Message.{Message}
use Rattle.rx_model.specs.Names.{Connection, connection_of, name_of}
use Rattle.rx_law.specs.Promises.{at_client, at_server}
use Rattle.rx_model.specs.Reading.{reading_of}
use Rattle.rx_rules.specs.Received.{Packet, Piece}
use Rattle.rx_rules.specs.Records.{silenced}
use Rattle.rx_rules.specs.Rules.{AllowedAt, Legal}
use Rattle.rx_rules.specs.Setup.{Setup, Kind, Server, Client, FitsSetup, IsServer, client_host, named}
use Rattle.rx_history.specs.Sides.{GivesTo, side}
use Rattle.rx_law.specs.Worlds.{Gave, TwoEnds}
use Rattle.rx_model.proofs.NameLaws.{same_number}
use Rattle.rx_history.proofs.Calls.{calls-silenced, calls-streams}
use Rattle.rx_law.proofs.Carries.{Carries, nothing_carried, receiver_step, sender_step}
use Rattle.rx_history.proofs.ClientHistory.{called-turn, client-calls}
use Rattle.rx_history.proofs.Data.{poll-gives}
use Rattle.rx_history.proofs.Ends.{Ends, Grows, ends_in, ends_of}
use Rattle.rx_law.proofs.Pieces.{at_grows, piece_is}
use Rattle.rx_law.specs.Pieces.{IsAt, IsPiece}
use Rattle.rx_history.specs.Starts.{StartsOnce}
use Rattle.rx_history.proofs.Server.{Arrives, Standing, good-silenced}
use Rattle.rx_law.proofs.ServerHistory.{served-turn, server-serves}
use Rattle.rx_history.proofs.ServerStands.{server-stands}

-- ---- what one side gave

-- the streams of a call
abbrev pub of_call : Setup → List Event → CallName → Ends
of_call s h c = ends_of (call_at (looks s h) c)

-- its own stream only grew, and every call stood well before each event
abbrev pub Grown : Setup → CallName → List Event → Type 0
Grown s c [] = Unit {0}
Grown s c (e ∷ h) =
    Grows (of_call s h c).said (of_call s h c).shut (of_call s (e ∷ h) c).said (of_call s (e ∷ h) c).shut
    × Standing s (looks s h) × Grown s c h

pub client-grown : (s : Setup) (host : Host) (epoch : ℕ) (h : List Event) (c : CallName) → s.kind ≡ Client host epoch
    → FitsSetup s → Legal s h
    → Grown s c h
client-grown s host epoch [] c kind fits legal = tt
client-grown s host epoch (e ∷ h) c kind fits legal =
    let old = client-calls s host epoch h kind fits legal.1 in (
      ((called-turn s host epoch e h c kind fits legal old).moves tt).grows,
      old.standing,
      client-grown s host epoch h c
          kind fits legal.1,
    )

pub server-grown : (s : Setup) (h : List Event) (c : CallName) → IsServer s.kind → FitsSetup s → Legal s h
    → StartsOnce s h c
    → Grown s c h
server-grown s [] c server fits legal once = tt
server-grown s (e ∷ h) c server fits legal once =
    let old = server-serves s h c server fits legal.1 once.1 in (
      ((served-turn s e h c server fits legal once old).moves tt).grows,
      server-stands s h server fits legal.1,
      server-grown s h c server fits legal.1 once.1,
    )

pub polled-is : (kind : Kind) (s : Setup) (l : Looks) (got : Option (Host × List ℕ))
    → AllowedAt kind s l (events.Polled got) → got ≡ poll_answer s l
polled-is (Server service nonces) s l got allowed = allowed
polled-is (Client host epoch) s l got allowed = allowed

-- what it says of the datagram's piece
abbrev Brings : Setup → List Event → CallName → Message → List ℕ → Type 0
Brings s h c m payload = IsAt (of_call s h c).said (of_call s h c).shut m.seq (packet_of m payload).piece

module _ (s : Setup) (l : Looks) (got : Option (Host × List ℕ)) (to : Host) (bytes : List ℕ) (m : Message)
    (payload : List ℕ) (c : CallName) where
  gives-now : FitsSetup s → Standing s l → got ≡ poll_answer s l → got ≡ Some (to, bytes) → reading_of bytes ≡ Ok m
      → m.body ≡ bodies.Chunk payload → named s to m ≡ c
      → IsAt (ends_of (call_at l c)).said (ends_of (call_at l c)).shut m.seq (packet_of m payload).piece
  gives-now fits standing answer is reads chunk name =
      let g = poll-gives s (silenced l) l.strays to bytes m payload fits standing.conns
      (λ d. good-silenced s l d (standing.calls d))
      (sym answer ∙ is) reads chunk in
      let there : call_at (silenced l) c ≡ Some g.call = subst
      (λ (n : CallName). call_at (silenced l) n ≡ Some g.call) name g.there in
      let same : ends_of (call_at (silenced l) c) ≡ ends_of (call_at l c) =
      calls-streams (λ end. Unit {0}) (call_at l c) (call_at (silenced l) c)
      (calls-silenced (λ end. Unit {0}) c l (λ k t silent. tt)) in
      let streams : ends_in g.call.looks ≡ ends_of (call_at l c) = ap ends_of (sym there) ∙ same in
      let piece : IsPiece g.call.looks.sent.said g.call.looks.sent.shut g.behind (packet_of m payload).piece =
      subst (λ (p : Piece). IsPiece g.call.looks.sent.said g.call.looks.sent.shut g.behind p) (sym g.piece)
      (piece_is g.call.looks.sent g.behind g.counts) in
      subst (λ (x : Ends). IsAt x.said x.shut m.seq (packet_of m payload).piece) streams
      (subst (λ (n : ℕ). IsAt g.call.looks.sent.said g.call.looks.sent.shut n (packet_of m payload).piece)
      (sym g.seq) piece)

pub gives-at : (to : Host) (bytes : List ℕ) (e : Event) → GivesTo to bytes e → (got : Option (Host × List ℕ))
    × (e ≡ events.Polled got) × (got ≡ Some (to, bytes))
gives-at to bytes (events.Polled (Some (host, datagram))) g =
    (let a = g.0 in let b = g.1 in (Some (host, datagram), refl, λ i. Some (a i, b i)))
gives-at to bytes (events.Polled None) g = absurd g
gives-at to bytes (events.Linked a b d got) g = absurd g
gives-at to bytes (events.Called cid got) g = absurd g
gives-at to bytes (events.Wrote d offered got given) g = absurd g
gives-at to bytes (events.Shut d got) g = absurd g
gives-at to bytes (events.HasRead d max got given) g = absurd g
gives-at to bytes (events.Ended d got) g = absurd g
gives-at to bytes (events.Cancelled d code got) g = absurd g
gives-at to bytes (events.Accepted got) g = absurd g
gives-at to bytes (events.Finished d code got) g = absurd g
gives-at to bytes (events.Taken from given got) g = absurd g
gives-at to bytes (events.Clocked now) g = absurd g

-- what was given stays what was said
pub given-says : (s : Setup) (h : List Event) (c : CallName) (to : Host) (bytes : List ℕ) (m : Message)
    (payload : List ℕ) → FitsSetup s → Legal s h
    → Grown s c h → reading_of bytes ≡ Ok m → m.body ≡ bodies.Chunk payload → named s to m ≡ c → Gave to bytes h
    → Brings s h c m payload
given-says s [] c to bytes m payload fits legal grown reads chunk name gave = absurd gave
given-says s (e ∷ h) c to bytes m payload fits legal grown reads chunk name (inr gave) =
    at_grows (of_call s h c).said (of_call s (e ∷ h) c).said (of_call s h c).shut (of_call s (e ∷ h) c).shut m.seq
    (packet_of m payload).piece grown.0
    (given-says s h c to bytes m payload fits legal.1 grown.2 reads chunk name gave)
given-says s (e ∷ h) c to bytes m payload fits legal grown reads chunk name (inl gives) =
    let g = gives-at to bytes e gives in
    let answer = polled-is s.kind s (looks s h) g.0 (subst (λ (x : Event). AllowedAt s.kind s
    (looks s h) x) g.1 legal.0) in
    at_grows (of_call s h c).said (of_call s (e ∷ h) c).said (of_call s h c).shut (of_call s (e ∷ h) c).shut m.seq
    (packet_of m payload).piece grown.0
    (gives-now s (looks s h) g.0 to bytes m payload c fits grown.1 answer g.2 reads chunk name)

-- ---- what comes

-- a message on the connection that is judged there was given
abbrev pub Came : Setup → Looks → Connection → Event → (List ℕ → Type 0) → Type 0
Came s l y (events.Taken from bytes tooks.Kept) Wanted =
    (m : Message) (payload : List ℕ) → reading_of bytes ≡ Ok m → m.body ≡ bodies.Chunk payload
    → outer_row s s.kind l from m ≡ None
    → connection_of (named s from m) ≡ y → Wanted bytes
Came s l y (events.Taken from bytes tooks.Stopped) Wanted =
    (m : Message) → reading_of bytes ≡ Ok m → outer_row s s.kind l from m ≡ None → connection_of (named s from m) ≡ y
    → Wanted bytes
Came s l y _ Wanted = Unit {0}

-- the same of its data alone
abbrev pub DataCame : Setup → Looks → Connection → Event → (List ℕ → Type 0) → Type 0
DataCame s l y (events.Taken from bytes tooks.Kept) Wanted =
    (m : Message) (payload : List ℕ) → reading_of bytes ≡ Ok m → m.body ≡ bodies.Chunk payload
    → outer_row s s.kind l from m ≡ None
    → connection_of (named s from m) ≡ y → Wanted bytes
DataCame s l y _ Wanted = Unit {0}

abbrev pub CameOn : TwoEnds → List Noted → Type 0
CameOn x [] = Unit {0}
CameOn x (e ∷ h) =
    (e.node ≡ x.server → DataCame x.server_setup (at_server x h) x.connection e.event
    (λ bytes. Gave x.server_host bytes (side x.client h)))
    × (e.node ≡ x.client → Came x.client_setup (at_client x h) x.connection e.event
    (λ bytes. Gave x.connection.host bytes (side x.server h)))
    × CameOn x h

-- two legal ends, with nothing invented between them, whose server starts no call anew
pub record Fed (x : TwoEnds) (h : List Noted) : Type 0 where
  pub apart : x.client ≢ x.server
  pub client_kind : x.client_setup.kind ≡ Client x.connection.host x.connection.epoch
  pub server_kind : IsServer x.server_setup.kind
  pub client_fits : FitsSetup x.client_setup
  pub server_fits : FitsSetup x.server_setup
  pub client_legal : Legal x.client_setup (side x.client h)
  pub server_legal : Legal x.server_setup (side x.server h)
  pub came : CameOn x h
  pub once : (c : CallName) → connection_of c ≡ x.connection → StartsOnce x.server_setup (side x.server h) c

pub legal-before : (s : Setup) (b : Bool) (e : Event) (h : List Event) → Legal s (cond b (e ∷ h) h) → Legal s h
legal-before s true e h legal = legal.1
legal-before s false e h legal = legal

once-if : (s : Setup) (b : Bool) (e : Event) (h : List Event) (c : CallName) → StartsOnce s (cond b (e ∷ h) h) c
    → StartsOnce s h c
once-if s true e h c once = once.1
once-if s false e h c once = once

pub fed-before : (x : TwoEnds) (e : Noted) (h : List Noted) → Fed x (e ∷ h) → Fed x h
fed-before x e h f =
    record {
      apart = f.apart;
      client_kind = f.client_kind;
      server_kind = f.server_kind;
      client_fits = f.client_fits;
      server_fits = f.server_fits;
      client_legal = legal-before x.client_setup (e.node == x.client) e.event (side x.client h) f.client_legal;
      server_legal = legal-before x.server_setup (e.node == x.server) e.event (side x.server h) f.server_legal;
      came = f.came.2;
      once = λ c on. once-if x.server_setup (e.node == x.server) e.event (side x.server h) c (f.once c on);
    }

pub fed-at : (x : TwoEnds) (later now : List Noted) → Fed x (later ++ now) → Fed x now
fed-at x [] now f = f
fed-at x (e ∷ later) now f = fed-at x later now (fed-before x e (later ++ now) f)

-- ---- the streams

-- what holds of a call between its two ends
pub record Between (a b : Ends) : Type 0 where
  pub request : Carries a.said a.shut b
  pub reply : Carries b.said b.shut a

pub server-name : (s : Setup) (to : Host) (m : Message) → IsServer s.kind → named s to m ≡ name_of to m
server-name s to m server = of s.kind server
  where
    of : (k : Kind) → IsServer k → name_of (client_host k to) m ≡ name_of to m
    of (Server service nonces) server = refl
    of (Client host epoch) server = absurd server

pub client-name : (s : Setup) (y : Connection) (to : Host) (m : Message) → s.kind ≡ Client y.host y.epoch
    → named s to m ≡ name_of y.host m
client-name s y to m kind = ap (λ (k : Kind). name_of (client_host k to) m) kind

module _ (x : TwoEnds) (cl sv : List Event) (e : Event) (c : CallName) where
  -- an event of the client
  client-step : x.client_setup.kind ≡ Client x.connection.host x.connection.epoch → IsServer x.server_setup.kind
      → FitsSetup x.client_setup → FitsSetup x.server_setup → Legal x.client_setup (e ∷ cl) → Legal x.server_setup sv
      → StartsOnce x.server_setup sv c → connection_of c ≡ x.connection
      → Came x.client_setup (looks x.client_setup cl) x.connection e (λ bytes. Gave x.connection.host bytes sv)
      → Between (of_call x.client_setup cl c) (of_call x.server_setup sv c)
      → Between (of_call x.client_setup (e ∷ cl) c) (of_call x.server_setup sv c)
  client-step kind server client_fits server_fits legal served_legal once on came b =
      let old = client-calls x.client_setup x.connection.host x.connection.epoch cl kind client_fits legal.1 in
      let moves = (called-turn x.client_setup x.connection.host x.connection.epoch e cl c kind client_fits legal
      old).moves tt in
      record {
        request = sender_step _ _ _ _ (of_call x.server_setup sv c) moves.grows b.request;
        reply =
            receiver_step (of_call x.server_setup sv c).said (of_call x.server_setup sv c).shut
            (Arrives x.client_setup (looks x.client_setup cl) e c)
            (of_call x.client_setup cl c) (of_call x.client_setup (e ∷ cl) c) moves
            (λ p arrives. comes e came p arrives) b.reply;
      }
    where
      comes : (e : Event) → Came x.client_setup (looks x.client_setup cl) x.connection e
          (λ bytes. Gave x.connection.host bytes sv) → (p : Packet)
          → Arrives x.client_setup (looks x.client_setup cl) e c p
          → IsAt (of_call x.server_setup sv c).said (of_call x.server_setup sv c).shut p.seq p.piece
      comes (events.Taken from bytes tooks.Kept) came p a =
          let at : connection_of (named x.client_setup from a.message) ≡ x.connection = ap connection_of a.named_is
          ∙ on in
          let gave = came a.message a.payload a.reads a.body a.front at in
          let name : named x.server_setup x.connection.host a.message ≡ c =
          server-name x.server_setup x.connection.host a.message server
          ∙ sym (client-name x.client_setup x.connection from a.message kind) ∙ a.named_is in
          subst (λ (q : Packet). IsAt (of_call x.server_setup sv c).said
          (of_call x.server_setup sv c).shut q.seq q.piece) (sym a.packet)
          (given-says x.server_setup sv c x.connection.host bytes a.message a.payload server_fits served_legal
          (server-grown x.server_setup sv c server server_fits served_legal once) a.reads a.body name gave)
      comes _ came p a = absurd a

  -- an event of the server
  server-step : x.client_setup.kind ≡ Client x.connection.host x.connection.epoch → IsServer x.server_setup.kind
      → FitsSetup x.client_setup → FitsSetup x.server_setup → Legal x.client_setup cl → Legal x.server_setup (e ∷ sv)
      → StartsOnce x.server_setup (e ∷ sv) c → connection_of c ≡ x.connection
      → DataCame x.server_setup (looks x.server_setup sv) x.connection e (λ bytes. Gave x.server_host bytes cl)
      → Between (of_call x.client_setup cl c) (of_call x.server_setup sv c)
      → Between (of_call x.client_setup cl c) (of_call x.server_setup (e ∷ sv) c)
  server-step kind server client_fits server_fits called_legal legal once on came b =
      let old = server-serves x.server_setup sv c server server_fits legal.1 once.1 in
      let moves = (served-turn x.server_setup e sv c server server_fits legal once old).moves tt in
      record {
        request =
            receiver_step (of_call x.client_setup cl c).said (of_call x.client_setup cl c).shut
            (Arrives x.server_setup (looks x.server_setup sv) e c)
            (of_call x.server_setup sv c) (of_call x.server_setup (e ∷ sv) c) moves
            (λ p arrives. comes e came p arrives) b.request;
        reply = sender_step _ _ _ _ (of_call x.client_setup cl c) moves.grows b.reply;
      }
    where
      comes : (e : Event) → DataCame x.server_setup (looks x.server_setup sv) x.connection e
          (λ bytes. Gave x.server_host bytes cl) → (p : Packet)
          → Arrives x.server_setup (looks x.server_setup sv) e c p
          → IsAt (of_call x.client_setup cl c).said (of_call x.client_setup cl c).shut p.seq p.piece
      comes (events.Taken from bytes tooks.Kept) came p a =
          let at : connection_of (named x.server_setup from a.message) ≡ x.connection = ap connection_of a.named_is
          ∙ on in
          let gave = came a.message a.payload a.reads a.body a.front at in
          let own : named x.server_setup from a.message
          ≡ name_of from a.message = server-name x.server_setup from a.message server in
          let host : from ≡ x.connection.host = ap (λ (n : CallName). n.host) (sym own)
          ∙ ap (λ (y : Connection). y.host) at in
          let name : named x.client_setup x.server_host a.message ≡ c =
          client-name x.client_setup x.connection x.server_host a.message kind
          ∙ ap (λ (q : Host). name_of q a.message) (sym host) ∙ sym own ∙ a.named_is in
          subst (λ (q : Packet). IsAt (of_call x.client_setup cl c).said
          (of_call x.client_setup cl c).shut q.seq q.piece) (sym a.packet)
          (given-says x.client_setup cl c x.server_host bytes a.message a.payload client_fits called_legal
          (client-grown x.client_setup x.connection.host x.connection.epoch cl c kind client_fits called_legal) a.reads
          a.body name gave)
      comes _ came p a = absurd a

-- an event at one of the ends, at the other, or at neither
step : (x : TwoEnds) (cl sv : List Event) (e : Event) (at_c at_s : Bool) (c : CallName)
    → (at_c ≡ true → at_s ≡ true → ⊥)
    → x.client_setup.kind ≡ Client x.connection.host x.connection.epoch
    → IsServer x.server_setup.kind → FitsSetup x.client_setup → FitsSetup x.server_setup
    → Legal x.client_setup (cond at_c (e ∷ cl) cl) → Legal x.server_setup (cond at_s (e ∷ sv) sv)
    → StartsOnce x.server_setup (cond at_s (e ∷ sv) sv) c → connection_of c ≡ x.connection
    → (at_s ≡ true → DataCame x.server_setup (looks x.server_setup sv) x.connection e
    (λ bytes. Gave x.server_host bytes cl))
    → (at_c ≡ true → Came x.client_setup (looks x.client_setup cl) x.connection e
    (λ bytes. Gave x.connection.host bytes sv))
    → Between (of_call x.client_setup cl c) (of_call x.server_setup sv c)
    → Between (of_call x.client_setup (cond at_c (e ∷ cl) cl) c) (of_call x.server_setup (cond at_s (e ∷ sv) sv) c)
step x cl sv e true true c apart kind server fits_c fits_s lc ls once on from_client from_server b = absurd
    (apart refl refl)
step x cl sv e false false c apart kind server fits_c fits_s lc ls once on from_client from_server b = b
step x cl sv e true false c apart kind server fits_c fits_s lc ls once on from_client from_server b =
    client-step x cl sv e c kind server fits_c fits_s lc ls once on (from_server refl) b
step x cl sv e false true c apart kind server fits_c fits_s lc ls once on from_client from_server b =
    server-step x cl sv e c kind server fits_c fits_s lc ls once on (from_client refl) b

pub not-both : (client server node : ℕ) → client ≢ server → (node == client) ≡ true → (node == server) ≡ true → ⊥
not-both client server node apart a b = apart (sym (same_number node client a) ∙ same_number node server b)

pub between : (x : TwoEnds) (h : List Noted) (c : CallName) → Fed x h → connection_of c ≡ x.connection
    → Between (of_call x.client_setup (side x.client h) c) (of_call x.server_setup (side x.server h) c)
between x [] c f on = record { request = nothing_carried; reply = nothing_carried }
between x (e ∷ h) c f on =
    step x (side x.client h) (side x.server h) e.event (e.node == x.client) (e.node == x.server) c
    (not-both x.client x.server e.node f.apart)
    f.client_kind f.server_kind f.client_fits f.server_fits f.client_legal f.server_legal (f.once c on) on
    (λ here. f.came.0 (same_number e.node x.server here)) (λ here. f.came.1 (same_number e.node x.client here))
    (between x h c (fed-before x e h f) on)
