-- What is known of the times of a connection: what comes was given a short while ago, and the clocks of its ends go
-- alike.
use Rattle.std.proofs.Common.{◌≡◌, ◌≢◌, ◌⊎◌, ◌==◌, ◌<◌, ◌≤◌, ◌+◌, ℕ, is_some, true, List, [], ◌∷◌, Option, Some, None}
use Rattle.std.proofs.Common.{Ok, refl, inl, inr, arith}
use Rattle.rx_model.specs.declared.event.Event.{Event}
use Rattle.rx_model.specs.declared.event.Event.TheVariants as events
use Rattle.rx_model.specs.declared.event.Noted.{Noted}
use Rattle.rx_model.specs.declared.names.CallName.{CallName}
use Rattle.rx_model.specs.declared.wire.TheConstants.{SKEW_MS, LIFETIME_MS}
use Rattle.rx_rules.specs.After.{enters}
use Rattle.rx_model.specs.Body as bodies
use Rattle.rx_rules.specs.Judging.{outer_row}
use Rattle.rx_rules.specs.Looks.{Looks, call_at}
use Rattle.rx_model.specs.Message.{Message}
use Rattle.rx_model.specs.Names.{Connection, connection_of}
use Rattle.rx_model.specs.Reading.{reading_of}
use Rattle.rx_rules.specs.Rules.{Legal}
use Rattle.rx_rules.specs.Setup.{Setup, Client, FitsSetup, IsServer, named}
use Rattle.rx_law.specs.Promises.{at_client, at_server}
use Rattle.rx_history.specs.Sides.{moment, side}
use Rattle.rx_law.specs.Times.{Acts, AdvancesAlike, GaveLately, GoAlike}
use Rattle.rx_law.specs.Worlds.{TwoEnds}
use Rattle.rx_law.proofs.Hears.{heard_at, hears}
use Rattle.rx_law.proofs.Joint.{legal-before}
use Rattle.rx_law.proofs.Recalls.{Recalls}

-- ---- what comes

-- DATA of the connection that a server judges was given so
abbrev pub LateData : Setup → Looks → Connection → Event → (List ℕ → Type 0) → Type 0
LateData s l y (events.Taken from bytes got) Wanted =
    (m : Message) (payload : List ℕ) → enters got ≡ true → reading_of bytes ≡ Ok m → m.body ≡ bodies.Chunk payload
    → outer_row s s.kind l from m ≡ None → connection_of (named s from m) ≡ y → Wanted bytes
LateData s l y _ Wanted = Unit {0}

-- any message by which a client's call is heard was
abbrev pub LateAny : Setup → Looks → Connection → Event → (List ℕ → Type 0) → Type 0
LateAny s l y (events.Taken from bytes got) Wanted =
    (m : Message) → hears got ≡ true → reading_of bytes ≡ Ok m → outer_row s s.kind l from m ≡ None
    → connection_of (named s from m) ≡ y
    → Wanted bytes
LateAny s l y _ Wanted = Unit {0}

-- with each event, by the other end and lately
abbrev pub LateOn : TwoEnds → List Noted → Type 0
LateOn x [] = Unit {0}
LateOn x (e ∷ h) =
    (e.node ≡ x.server → LateData x.server_setup (at_server x h) x.connection e.event
    (λ bytes. GaveLately x.server x.client x.server_host bytes (moment x.server h) h))
    × (e.node ≡ x.client → LateAny x.client_setup (at_client x h) x.connection e.event
    (λ bytes. GaveLately x.server x.server x.connection.host bytes (moment x.server h) h))
    × LateOn x h

-- two legal ends, with nothing invented or late between them, whose clocks go alike
pub record FedLately (x : TwoEnds) (h : List Noted) : Type 0 where
  pub apart : x.client ≢ x.server
  pub client_kind : x.client_setup.kind ≡ Client x.connection.host x.connection.epoch
  pub server_kind : IsServer x.server_setup.kind
  pub client_fits : FitsSetup x.client_setup
  pub server_fits : FitsSetup x.server_setup
  pub client_legal : Legal x.client_setup (side x.client h)
  pub server_legal : Legal x.server_setup (side x.server h)
  pub late : LateOn x h
  pub alike : GoAlike x.server x.client h

-- the same before an event
pub lately-before : (x : TwoEnds) (e : Noted) (h : List Noted) → FedLately x (e ∷ h) → FedLately x h
lately-before x e h f =
    record {
      apart = f.apart;
      client_kind = f.client_kind;
      server_kind = f.server_kind;
      client_fits = f.client_fits;
      server_fits = f.server_fits;
      client_legal = legal-before x.client_setup (e.node == x.client) e.event (side x.client h) f.client_legal;
      server_legal = legal-before x.server_setup (e.node == x.server) e.event (side x.server h) f.server_legal;
      late = f.late.2;
      alike = f.alike.1;
    }

-- ---- clocks

-- at an event of the client other than a clock event these were the moments of its two ends
abbrev pub Since : ℕ → ℕ → List Noted → ℕ → ℕ → Type 0
Since server client [] own now = ⊥
Since server client (e ∷ h) own now = (Acts client e × (own ≡ moment client h)
    × (now ≡ moment server h)) ⊎ Since server client h own now

-- since then the client's clock lost at most a minute on the server's
pub alike-since : (server client : ℕ) (h : List Noted) (now own before at : ℕ) → AdvancesAlike server client h now own
    → Since server client h before at → now + before ≤ own + at + SKEW_MS
alike-since server client [] now own before at alike since = absurd since
alike-since server client (e ∷ h) now own before at alike (inl here) =
    (let step = alike.0 here.0 in let a = here.1 in let b = here.2 in omega arith)
alike-since server client (e ∷ h) now own before at alike
    (inr since) = alike-since server client h now own before at alike.1 since

-- ---- one call

-- what holds of a call of the connection: when the server last used it, when the client called it and when it last
-- heard of it, all by the server's clock
pub record Timed (x : TwoEnds) (c : CallName) (h : List Noted) (lc ls : Looks) (now : ℕ) : Type 0 where
  pub used : ℕ
  pub called : ℕ
  pub heard : ℕ
  pub recalls : Recalls ls c used
  pub called_before : called ≤ now
  pub heard_before : heard ≤ now
  pub since :
      (t : ℕ) → heard_at lc c ≡ Some t
      → Since x.server x.client h t heard × ((heard ≤ called) ⊎ (heard ≤ used + LIFETIME_MS))
  pub begun : is_some (call_at ls c) ≡ true → (is_some (heard_at lc c) ≡ true) × (called ≤ used)
  pub gave :
      (bytes : List ℕ) (m : Message) (payload : List ℕ) (at : ℕ) → GaveLately x.server x.client x.server_host bytes at h
      → reading_of bytes ≡ Ok m → m.body ≡ bodies.Chunk payload → named x.client_setup x.server_host m ≡ c
      → (is_some (heard_at lc c) ≡ true) × (at < heard + 192000)
  pub told :
      (bytes : List ℕ) (m : Message) (at : ℕ) → GaveLately x.server x.server x.connection.host bytes at h
      → reading_of bytes ≡ Ok m → named x.server_setup x.connection.host m ≡ c → at < used + LIFETIME_MS

there-is : (o : Option ℕ) → is_some o ≡ true → (t : ℕ) × (o ≡ Some t)
there-is None is = absurd cc
there-is (Some t) is = (t, refl)

module _ (x : TwoEnds) (c : CallName) (h : List Noted) (lc ls : Looks) (now : ℕ) (bytes : List ℕ) (m : Message)
    (payload : List ℕ) (k : Timed x c h lc ls now) where
  -- DATA of a call that has begun comes soon after its last use
  pub soon : is_some (call_at ls c) ≡ true → GaveLately x.server x.client x.server_host bytes now h
      → reading_of bytes ≡ Ok m → m.body ≡ bodies.Chunk payload → named x.client_setup x.server_host m ≡ c
      → now < k.used + 312000
  soon there gave reads chunk name =
      let g = k.gave bytes m payload now gave reads chunk name in
      let t = there-is (heard_at lc c) g.0 in
      let late = g.1 in
      let start = (k.begun there).1 in
      (elim (k.since t.0 t.1).1 as (λ t. now < k.used + 312000) [
        | inl first ↦ omega arith
        | inr again ↦ omega arith
      ])
