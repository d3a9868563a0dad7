-- What a server knows of a call behind each event, where no DATA of a call that was used long ago comes.
use Rattle.std.proofs.Common.{◌≡◌, ◌⊎◌, ◌<◌, ◌≤◌, ◌^◌, ℕ, nat_lt, is_some, true, List}
use Rattle.std.proofs.Common.{Option, Some, None, Result, Ok, Err, refl, ◌∙◌, ap, sym, subst, inl, arith}
use Rattle.rx_model.specs.declared.answers.BadMsg.{BadMsg}
use Rattle.rx_model.specs.declared.answers.Took.{Took}
use Rattle.rx_model.specs.declared.answers.Took.TheVariants as tooks
use Rattle.rx_model.specs.declared.event.Event.{Event}
use Rattle.rx_model.specs.declared.event.Event.TheVariants as events
use Rattle.rx_model.specs.declared.names.CallName.{CallName}
use Rattle.rx_model.specs.declared.names.Host.{Host}
use Rattle.rx_rules.specs.After.{after, enters, is_end, prepared, taken_behind, taken_message, turned_away}
use Rattle.rx_rules.specs.CallLooks.{after_write}
use Rattle.rx_rules.specs.Judging.{outer_row, took_of, took_reading}
use Rattle.rx_rules.specs.Life.{after_accept}
use Rattle.rx_rules.specs.Looks.{Looks, call_at, channel_at, on_life, on_looks}
use Rattle.rx_model.specs.Message.{IsBytes, Message}
use Rattle.rx_model.specs.Names.{channel_of, connection_of}
use Rattle.rx_model.specs.Reading.{reading_of}
use Rattle.rx_rules.specs.Records.{silenced}
use Rattle.rx_rules.specs.Rules.{AllowedServer}
use Rattle.rx_rules.specs.Setup.{Setup, IsServer, named}
use Rattle.rx_history.specs.Sides.{GivesTo}
use Rattle.rx_rules.proofs.KeepsLaws.{Keeps, keeps-on_life, keeps-on_looks, keeps-refl}
use Rattle.rx_rules.proofs.LifeLaws.{accept_waits}
use Rattle.rx_model.proofs.SpelledLaws.{spelled}
use Rattle.rx_history.proofs.Conns.{Conns}
use Rattle.rx_law.proofs.Firm.{Firm, firm-same}
use Rattle.rx_law.proofs.FirmAfter.{firm-finish, firm-read, firm-turned}
use Rattle.rx_history.proofs.Given.GivenLaws.{keeps-finish, keeps-read, keeps-silenced}
use Rattle.rx_law.proofs.Joint.{gives-at}
use Rattle.rx_history.proofs.MessageTaken.{turned-keeps}
use Rattle.rx_law.proofs.Recalls.{Recalls, lives-some, recalls-clock, recalls-keeps}
use Rattle.rx_law.proofs.Knows.{AsksFor, AsksNew, Judged, above-before, asked, judged-keeps, judged-with}
use Rattle.rx_history.specs.Starts.{StartsBy, StartsNew}
use Rattle.rx_law.proofs.Polls.{given-poll}

-- what the server knows of a call behind an event: it was used at a moment that is later or the same; where it came by
-- the event, or a datagram of its name was given by it, it was used now
pub record Next (s : Setup) (l : Looks) (e : Event) (c : CallName) (u : ℕ) : Type 0 where
  pub used : ℕ
  pub later : u ≤ used
  pub recalls : Recalls (after s e l) c used
  pub begins : is_some (call_at (after s e l) c) ≡ true → (is_some (call_at l c) ≡ true) ⊎
      ((used ≡ l.now) × AsksFor s l e c)
  pub told : (to : Host) (bytes : List ℕ) (m : Message) → GivesTo to bytes e → reading_of bytes ≡ Ok m → named s to m
      ≡ c → used ≡ l.now

-- a change that starts no call
stays : (s : Setup) (l : Looks) (e : Event) (c : CallName) (u : ℕ) → Keeps c l (after s e l) → Firm c l (after s e l)
    → ((to : Host) (bytes : List ℕ) → GivesTo to bytes e → ⊥) → Recalls l c u → Next s l e c u
stays s l e c u keeps firm none old =
    record {
      used = u;
      later = omega arith;
      recalls = recalls-keeps c l (after s e l) u keeps firm old;
      begins = λ is. inl (lives-some (call_at l c) (call_at (after s e l) c) keeps.calls is);
      told = λ to bytes m gives reads name. absurd (none to bytes gives);
    }

-- ---- a message

judged-behind : (s : Setup) (row : Option Took) (from : Host) (bytes : List ℕ) (m : Message) (got : Took) (l : Looks)
    (c : CallName) (u : ℕ)
    → IsServer s.kind → got ≡ took_reading s l from (Ok m) → reading_of bytes ≡ Ok m → outer_row s s.kind l from m
    ≡ row → m.number < 2 ^ 32
    → AsksNew s l (events.Taken from bytes got) c → Recalls l c u
    → Judged s l (taken_behind s row from (named s from m) m got l) from bytes got c u
judged-behind s (Some row) from bytes m got l c u server answer reads front fits new old =
    judged-keeps s l (turned_away row from m l) from bytes got c u (turned-keeps row from m c l)
    (firm-turned c row from m l) old
judged-behind s None from bytes m got l c u server answer reads front fits new old =
    judged-with s l from bytes got m c u server answer reads front fits new old

module _ (s : Setup) (from : Host) (bytes : List ℕ) where
  judged-message : (reading : Result Message BadMsg) (got : Took) (l : Looks) (c : CallName) (u : ℕ) → IsServer s.kind
      → IsBytes bytes → got ≡ took_reading s l from reading → reading_of bytes ≡ reading
      → AsksNew s l (events.Taken from bytes got) c → Recalls l c u
      → Judged s l (taken_message s from reading got l) from bytes got c u
  judged-message (Err bad) got l c u server is_bytes answer reads new old =
      judged-keeps s l l from bytes got c u (keeps-refl c l) (firm-same c l l refl refl) old
  judged-message (Ok m) got l c u server is_bytes answer reads new old =
      judged-behind s (outer_row s s.kind l from m) from bytes m got l c u server answer reads refl
      (spelled bytes m is_bytes reads).fits.number new old

-- ---- each event

-- what a server knows of a call behind an event
pub server-next : (s : Setup) (l : Looks) (e : Event) (c : CallName) (u : ℕ) → IsServer s.kind → AllowedServer s l e
    → Conns s l → 1 ≤ c.number
    → AsksNew s l e c → Recalls l c u → Next s l e c u
server-next s l (events.Accepted (Some d)) c u server allowed conns some new old =
    stays s l (events.Accepted (Some d)) c u (keeps-on_life c d after_accept l accept_waits)
    (firm-same c l (on_life d after_accept l) refl refl)
    (λ to bytes gives. gives) old
server-next s l (events.Accepted None) c u server allowed conns some new old =
    stays s l (events.Accepted None) c u (keeps-refl c l) (firm-same c l l refl refl) (λ to bytes gives. gives) old
server-next s l (events.Wrote d offered got bytes) c u server allowed conns some new old =
    stays s l (events.Wrote d offered got bytes) c u (keeps-on_looks c d (after_write bytes) l)
    (firm-same c l (on_looks d (after_write bytes) l) refl refl)
    (λ to given gives. gives) old
server-next s l (events.HasRead d max got bytes) c u server allowed conns some new old =
    stays s l (events.HasRead d max got bytes) c u (keeps-read c d (is_end got) bytes l)
    (firm-read c d (is_end got) bytes l) (λ to given gives. gives) old
server-next s l (events.Finished d code got) c u server allowed conns some new old =
    stays s l (events.Finished d code got) c u (keeps-finish c d code got l) (firm-finish c d code got l)
    (λ to given gives. gives) old
server-next s l (events.Taken from bytes got) c u server allowed conns some new old =
    let j = judged-message s from bytes (reading_of bytes) got l c u server allowed.0 allowed.1 refl new old in
    record {
      used = j.used;
      later = j.later;
      recalls = j.recalls;
      begins =
          j.begins;
      told = λ to given m gives reads name. absurd gives;
    }
server-next s l (events.Polled got) c u server allowed conns some new old =
    let first : Looks = silenced l in
    let keeps = keeps-silenced c l in
    let g = given-poll s l got c u server conns some allowed
    (recalls-keeps c l first u keeps (firm-same c l first refl refl) old) in
    record {
      used = g.used;
      later = g.later;
      recalls = g.recalls;
      begins = λ is. inl (lives-some (call_at l c) (call_at first c) keeps.calls (g.begins is));
      told = λ to bytes m gives reads name. (let at = gives-at to bytes (events.Polled got) gives in g.told to bytes m
          (polled-same got at.0 at.1 ∙ at.2) reads name);
    }
  where
    polled-same : (a b : Option (Host × List ℕ)) → events.Polled a ≡ events.Polled b → a ≡ b
    polled-same a b is = cc
server-next s l (events.Clocked now) c u server allowed conns some new old =
    record {
      used = u;
      later = omega arith;
      recalls = recalls-clock c l now u allowed.0 old;
      begins = λ is. inl is;
      told = λ to bytes m gives reads name. absurd gives;
    }
server-next s l (events.Linked to service first got) c u server allowed conns some new old = absurd allowed
server-next s l (events.Called cid got) c u server allowed conns some new old = absurd allowed
server-next s l (events.Shut d got) c u server allowed conns some new old = absurd allowed
server-next s l (events.Ended d got) c u server allowed conns some new old = absurd allowed
server-next s l (events.Cancelled d code got) c u server allowed conns some new old = absurd allowed

-- ---- a start

module _ (s : Setup) (l : Looks) (from : Host) (bytes : List ℕ) (got : Took) (c : CallName) (u : ℕ) where
  -- where no DATA asks for a call that is there, none starts it
  pub starts-by : IsServer s.kind → IsBytes bytes → got ≡ took_of s l from bytes → enters got ≡ true
      → AsksNew s l (events.Taken from bytes got) c → Recalls l c u → StartsBy s l from bytes c got
  starts-by server is_bytes is enter new old = λ m reads front name above. (
      let answer : got ≡ took_reading s l from (Ok m) = is ∙ ap (took_reading s l from) reads in
      let fits = (spelled bytes m is_bytes reads).fits.number in
      let ready : nat_lt (channel_at (prepared s got (connection_of (named s from m)) l) (channel_of c)).number c.number
      ≡ true =
      subst (λ (n : CallName). nat_lt (channel_at (prepared s got (connection_of n) l) (channel_of c)).number c.number
      ≡ true) (sym name) above in
      let before = above-before s l from bytes got m c u server answer reads front fits new old name ready in
      new (asked s l from bytes got m c u server answer reads front fits new old name enter before) before)

-- with any event
pub starts-new : (s : Setup) (l : Looks) (e : Event) (c : CallName) (u : ℕ) → IsServer s.kind → AllowedServer s l e
    → AsksNew s l e c
    → Recalls l c u → StartsNew s l e c
starts-new s l (events.Taken from bytes tooks.Kept) c u server allowed new old =
    starts-by s l from bytes tooks.Kept c u server allowed.0 allowed.1 refl new old
starts-new s l (events.Taken from bytes tooks.NoSlot) c u server allowed new old =
    starts-by s l from bytes tooks.NoSlot c u server allowed.0 allowed.1 refl new old
starts-new s l _ c u server allowed new old = tt
