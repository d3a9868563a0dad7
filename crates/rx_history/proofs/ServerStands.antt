-- What stands of each call of a server after a legal history.
use Rattle.std.proofs.Common.{◌≡◌, Bool, true, false, List, [], ◌∷◌, Some, None, Result, Ok, refl}
use Rattle.rx_model.specs.declared.answers.ServeRefused.{ServeRefused}
use Rattle.rx_model.specs.declared.event.Event.{Event}
use Rattle.rx_model.specs.declared.event.Event.TheVariants as events
use Rattle.rx_model.specs.Reading.{reading_of}
use Rattle.rx_model.proofs.SpelledLaws.{spelled}
use Rattle.rx_rules.specs.After.{after, is_end, looks}
use Rattle.rx_rules.specs.Life.{Life}
use Rattle.rx_rules.specs.Life as lives
use Rattle.rx_rules.specs.Looks.{Looks}
use Rattle.rx_rules.specs.Records.{silenced}
use Rattle.rx_rules.specs.Rules.{AllowedServer, Legal, served_by}
use Rattle.rx_rules.specs.Setup.{Setup, FitsSetup, IsServer}
use Rattle.rx_history.proofs.Conns.{Conns, good-message, good-given, good-read, good-finish}
use Rattle.rx_history.proofs.Laws.OnceLaw.{served}
use Rattle.rx_history.proofs.Server.{Arrives, Standing, Uncounted, good-turn, none-yet, server-turn}

server-conns : (s : Setup) (l : Looks) (e : Event) → FitsSetup s → AllowedServer s l e → Conns s l
    → Conns s (after s e l)
server-conns s l (events.Accepted (Some d)) fits allowed conns = conns
server-conns s l (events.Accepted None) fits allowed conns = conns
server-conns s l (events.Wrote d offered got bytes) fits allowed conns = conns
server-conns s l (events.HasRead d max got bytes) fits allowed conns = good-read s d (is_end got) bytes l conns
server-conns s l (events.Finished d code got) fits allowed conns = good-finish s d code got l conns
server-conns s l (events.Taken from bytes got) fits allowed conns =
    good-message s from (reading_of bytes) got l fits
    (λ m reads. (let f = (spelled bytes m allowed.0 reads).fits in (f.number, f.epoch, f.cid))) conns
server-conns s l (events.Polled got) fits allowed conns = good-given s got (silenced l) conns
server-conns s l (events.Clocked now) fits allowed conns = conns
server-conns s l (events.Linked to service first got) fits allowed conns = absurd allowed
server-conns s l (events.Called cid got) fits allowed conns = absurd allowed
server-conns s l (events.Shut d got) fits allowed conns = absurd allowed
server-conns s l (events.Ended d got) fits allowed conns = absurd allowed
server-conns s l (events.Cancelled d code got) fits allowed conns = absurd allowed

server-standing : (s : Setup) (l : Looks) (e : Event) → IsServer s.kind → FitsSetup s → AllowedServer s l e
    → Standing s l
    → Standing s (after s e l)
server-standing s l e server fits allowed standing =
    record {
      conns = server-conns s l e fits allowed standing.conns;
      calls = λ c.
          good-turn ⊥ (Uncounted e c) (λ end. Unit {0}) (Arrives s l e c) s l (after s e l) c
          (server-turn ⊥ c s l e server fits allowed standing (λ y. absurd y) (λ y k is runs. absurd y))
          (standing.calls c);
    }

pub server-stands : (s : Setup) (h : List Event) → IsServer s.kind → FitsSetup s → Legal s h → Standing s (looks s h)
server-stands s [] server fits legal = none-yet s
server-stands s (e ∷ h) server fits legal =
    server-standing s (looks s h) e server fits (served s.kind s (looks s h) e server legal.0)
    (server-stands s h server fits legal.1)

-- the rules of a finish that answers ok
pub running-at : (life : Life) (ended : Bool) (done : Unit {0})
    → ◌≡◌ {A = Result (Unit {0}) ServeRefused} (Ok done) (served_by life ended tt)
    → (life ≡ lives.Accepted) × (ended ≡ true)
running-at lives.Accepted true done is = (refl, refl)
running-at lives.Accepted false done is = absurd cc
running-at (lives.Broken code) ended done is = absurd cc
running-at lives.Calling ended done is = absurd cc
running-at (lives.Ended end) ended done is = absurd cc
running-at lives.Waiting ended done is = absurd cc
running-at lives.Finished ended done is = absurd cc
running-at (lives.Over code) ended done is = absurd cc
