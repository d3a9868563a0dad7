-- An event of a client that neither writes, nor shuts, nor reads, nor starts a call leaves what was said and read of
-- it, and its life goes on.
use Rattle.std.proofs.Common.{◌≡◌, cond, if◌then◌else◌, ℕ, Bool, true, false}
use Rattle.std.proofs.Common.{List, drop, Option, Some, None, Result, Ok, Err, refl}
use Rattle.rx_model.specs.declared.answers.BadMsg.{BadMsg}
use Rattle.rx_model.specs.declared.event.Event.{Event}
use Rattle.rx_model.specs.declared.event.Event.TheVariants as events
use Rattle.rx_model.specs.declared.names.CallName.{CallName}
use Rattle.rx_model.specs.declared.names.Host.{Host}
use Rattle.rx_model.specs.Body.{AckBody, Body}
use Rattle.rx_model.specs.Body as bodies
use Rattle.rx_model.specs.Message.{Message}
use Rattle.rx_model.specs.Names.{connection_of, same_name}
use Rattle.rx_model.specs.Reading.{reading_of}
use Rattle.rx_model.specs.Strays.{is_stray}
use Rattle.rx_rules.specs.After.{acknowledged, after, counted, is_end, linked}
use Rattle.rx_rules.specs.After.{given_body, given_by, given_message}
use Rattle.rx_rules.specs.CallLooks.{CallLooks, after_ack_given, after_piece}
use Rattle.rx_rules.specs.CallLooks.{after_read, after_shut, after_write}
use Rattle.rx_rules.specs.Life.{Life, after_acks, after_cancel, after_code, after_end, after_later, after_silence}
use Rattle.rx_rules.specs.Life as lives
use Rattle.rx_rules.specs.Looks.{CallRecord, Looks, call_at}
use Rattle.rx_rules.specs.Looks.{on_life, on_looks}
use Rattle.rx_rules.specs.Records.{is_silent, silence_of, silenced}
use Rattle.rx_rules.specs.Records.{unless_silent}
use Rattle.rx_rules.specs.Rules.{AllowedClient}
use Rattle.rx_rules.specs.Setup.{Setup, named}
use Rattle.rx_asks.specs.History.{LeavesCall}
use Rattle.rx_asks.proofs.Kept.{KeptAt, KeptRecord, kept-by, kept-on_calls}
use Rattle.rx_asks.proofs.Kept.{kept-on_life, kept-on_looks, kept-other, kept-refl, kept-then, on-cancel}
use Rattle.rx_asks.proofs.Kept.{on-end, on-silence, record-refl, spoken_in}
use Rattle.rx_asks.proofs.KeptTaken.{StartsNoneOf, kept-started, kept-taken}
use Rattle.rx_history.proofs.Suffice.{calls-linked}

-- ---- a datagram is given

piece-leaves : (now seq : ℕ) (k : CallLooks) → spoken_in (after_piece now seq k) ≡ spoken_in k
piece-leaves now seq k = refl

kept-given_body : (c d : CallName) (m : Message) (body : Body) (l : Looks) → KeptAt c l (given_body d m body l)
kept-given_body c d m (bodies.Chunk payload) l =
    kept-on_looks c d (after_piece l.now m.seq) l (piece-leaves l.now m.seq)
kept-given_body c d m (bodies.Ack a) l = kept-on_looks c d (after_ack_given l.now) l (λ k. refl)
kept-given_body c d m (bodies.Abort code) l = kept-refl (call_at l c)
kept-given_body c d m bodies.Busy l = kept-refl (call_at l c)
kept-given_body c d m (bodies.Challenge bytes) l = kept-refl (call_at l c)
kept-given_body c d m (bodies.Response bytes) l = kept-refl (call_at l c)
kept-given_body c d m bodies.AckAll l = kept-refl (call_at l c)

kept-given_message : (s : Setup) (to : Host) (reading : Result Message BadMsg) (c : CallName) (l : Looks)
    → KeptAt c l (given_message s to reading l)
kept-given_message s to (Err bad) c l = kept-refl (call_at l c)
kept-given_message s to (Ok m) c l = of (is_stray m m.body)
  where
    d : CallName
    d = named s to m

    of : (b : Bool)
        → KeptAt c l (if b then record l { strays = drop 1 l.strays }
        else given_body d m m.body (counted (connection_of d) l))
    of true = kept-refl (call_at l c)
    of false = kept-given_body c d m m.body (counted (connection_of d) l)

kept-given : (s : Setup) (got : Option (Host × List ℕ)) (c : CallName) (l : Looks) → KeptAt c l (given_by s got l)
kept-given s None c l = kept-refl (call_at l c)
kept-given s (Some (to, bytes)) c l = kept-given_message s to (reading_of bytes) c l

silent-if : (test : Bool) (now : ℕ) (k : CallRecord)
    → ((cond test (record k { life = after_silence (silence_of now k) k.life }) k).name ≡ k.name)
    × KeptRecord k (cond test (record k { life = after_silence (silence_of now k) k.life }) k)
silent-if true now k = (refl, record { spoken = refl; life = on-silence (silence_of now k) k.life })
silent-if false now k = (refl, record-refl k)

kept-silenced : (c : CallName) (l : Looks) → KeptAt c l (silenced l)
kept-silenced c l =
    kept-on_calls c (unless_silent l.now) l (λ k. (silent-if (is_silent l.now k) l.now k).0)
    (λ k. (silent-if (is_silent l.now k) l.now k).1)

-- ---- an event of a client

-- the event starts no call of this name
abbrev pub StartsNoCall : Setup → Looks → CallName → Event → Type 0
StartsNoCall s l c (events.Called cid (Ok d)) = same_name c d ≡ false
StartsNoCall s l c (events.Taken from bytes got) = StartsNoneOf s l from (reading_of bytes) got c
StartsNoCall s l c _ = Unit {0}

-- an event that neither writes, nor shuts, nor reads, nor starts a call keeps it
pub kept_after : (s : Setup) (host : Host) (epoch : ℕ) (l : Looks) (c : CallName) (e : Event)
    → AllowedClient s host epoch l e → LeavesCall c e → StartsNoCall s l c e → KeptAt c l (after s e l)
kept_after s host epoch l c (events.Linked to service first (Ok cid)) allowed leaves none =
    kept-by l (linked s.kind to service first cid l) c (calls-linked s.kind to service first cid l)
kept_after s host epoch l c (events.Linked to service first (Err full)) allowed leaves none = kept-refl (call_at l c)
kept_after s host epoch l c (events.Called cid (Ok d)) allowed leaves none = kept-started s lives.Calling c d l none
kept_after s host epoch l c (events.Called cid (Err refused)) allowed leaves none = kept-refl (call_at l c)
kept_after s host epoch l c (events.Wrote d offered got bytes) allowed leaves none =
    kept-other c d (λ k. record k { looks = after_write bytes k.looks }) l (λ k. refl) leaves
kept_after s host epoch l c (events.Shut d (Ok done)) allowed leaves none =
    kept-other c d (λ k. record k { looks = after_shut k.looks }) l (λ k. refl) leaves
kept_after s host epoch l c (events.Shut d (Err closed)) allowed leaves none = kept-refl (call_at l c)
kept_after s host epoch l c (events.HasRead d max got bytes) allowed leaves none =
    let end : Bool = is_end got in
    let ready : Looks = acknowledged end d l in
    let inner : Looks = on_looks d (after_read l.now end bytes) ready in
    kept-then c l inner (on_life d (after_end end) inner)
    (kept-other c d (λ k. record k { looks = after_read l.now end bytes k.looks }) ready (λ k. refl) leaves)
    (kept-on_life c d (after_end end) inner (on-end end))
kept_after s host epoch l c (events.Ended d got) allowed leaves none = kept-refl (call_at l c)
kept_after s host epoch l c (events.Cancelled d code (Ok done)) allowed leaves none =
    kept-on_life c d (after_cancel code) l (on-cancel code)
kept_after s host epoch l c (events.Cancelled d code (Err closed)) allowed leaves none = kept-refl (call_at l c)
kept_after s host epoch l c (events.Taken from bytes got) allowed leaves none =
    kept-taken s from (reading_of bytes) got c l none
kept_after s host epoch l c (events.Polled got) allowed leaves none =
    kept-then c l (silenced l) (given_by s got (silenced l)) (kept-silenced c l) (kept-given s got c (silenced l))
kept_after s host epoch l c (events.Clocked now) allowed leaves none = kept-refl (call_at l c)
kept_after s host epoch l c (events.Accepted got) allowed leaves none = absurd allowed
kept_after s host epoch l c (events.Finished d code got) allowed leaves none = absurd allowed
