-- A server with a key accepts only calls of clients that showed it.
use Rattle.std.proofs.Common.{◌≡◌, ◌&&◌, ◌||◌, ◌++◌, ℕ, not, Bool, true, false}
use Rattle.std.proofs.Common.{List, [], ◌∷◌, Option, Some, None, option_map, refl, ap, sym, subst}
use Rattle.std.proofs.Common.{IsSomeAnd}
use Rattle.std.specs.Prelude.{unwrap_or}
use Rattle.rx_model.specs.declared.event.Event.{Event}
use Rattle.rx_model.specs.declared.event.Event.TheVariants as events
use Rattle.rx_model.specs.declared.names.CallName.{CallName}
use Rattle.rx_rules.specs.After.{finish_done, given_by, is_end, looks}
use Rattle.rx_rules.specs.After.{owing_ackall}
use Rattle.rx_rules.specs.Classes.{token}
use Rattle.rx_rules.specs.Looks.{ConnLooks, Looks, call_at, conn_at, is_call, is_proved, on_channel}
use Rattle.rx_rules.specs.Life.{is_calling}
use Rattle.rx_rules.specs.Rules.{AllowedServer, Legal, can_enter}
use Rattle.rx_model.specs.Names.{Connection, channel_of, connection_of}
use Rattle.rx_history.specs.Alone.{EnteredOnlyWhenProved, Proves}
use Rattle.rx_model.specs.Reading.{reading_of}
use Rattle.rx_rules.specs.Records.{silenced}
use Rattle.rx_rules.specs.Setup.{Setup, IsServer}
use Rattle.rx_rules.specs.Classes.{Class}
use Rattle.rx_rules.proofs.FindLaws.{find_passes}
use Rattle.rx_model.proofs.NameLaws.{both}
use Rattle.rx_history.proofs.Laws.OnceLaw.{served}
use Rattle.rx_history.proofs.Laws.ShownLaws.{fine-refl, plain-on_channel}
use Rattle.rx_history.proofs.Laws.ProvesLaws.{Shown, shown-fine}
use Rattle.rx_history.proofs.Laws.ShownTaken.{shown-message}
use Rattle.rx_history.proofs.Plain.PlainGiven.{plain-finish, plain-polled}

-- ---- a history

shown-after : (s : Setup) (key : List ℕ) (c : CallName) (h : List Event) (e : Event) → IsServer s.kind → s.class
    ≡ token key
    → AllowedServer s (looks s h) e → Shown s key c h (conn_at (looks s h) (connection_of c))
    → Shown s key c (e ∷ h) (conn_at (looks s (e ∷ h)) (connection_of c))
shown-after s key c h (events.Taken from bytes got) server class allowed shown =
    shown-message s key c h from bytes got (reading_of bytes) server class refl allowed.1 shown
shown-after s key c h (events.Polled got) server class allowed shown =
    (let y : Connection = connection_of c in
    shown-fine s key c h (events.Polled got) (conn_at (looks s h) y) (conn_at (given_by s got (silenced (looks s h))) y)
    (plain-polled s got y (looks s h)) shown)
shown-after s key c h (events.Finished d code got) server class allowed shown =
    (let y : Connection = connection_of c in
    shown-fine s key c h (events.Finished d code got) (conn_at (looks s h) y)
    (conn_at (finish_done d code got (looks s h)) y) (plain-finish y d code got (looks s h)) shown)
shown-after s key c h (events.HasRead d max got bytes) server class allowed shown =
    (let y : Connection = connection_of c in
    let l : Looks = looks s h in
    let owes : Bool = is_end got && is_call (λ k. is_calling k.life) (call_at l d) in
    shown-fine s key c h (events.HasRead d max got bytes) (conn_at l y)
    (conn_at (on_channel (channel_of d) (owing_ackall owes) l) y)
    (plain-on_channel y (channel_of d) (owing_ackall owes) l) shown)
shown-after s key c h (events.Wrote d offered got bytes) server class allowed shown =
    (let o = conn_at (looks s h) (connection_of c) in
    shown-fine s key c h (events.Wrote d offered got bytes) o o (fine-refl o) shown)
shown-after s key c h (events.Accepted (Some d)) server class allowed shown =
    (let o = conn_at (looks s h) (connection_of c) in
    shown-fine s key c h (events.Accepted (Some d)) o o (fine-refl o) shown)
shown-after s key c h (events.Accepted None) server class allowed shown =
    (let o = conn_at (looks s h) (connection_of c) in
    shown-fine s key c h (events.Accepted None) o o (fine-refl o) shown)
shown-after s key c h (events.Clocked now) server class allowed shown =
    (let o = conn_at (looks s h) (connection_of c) in
    shown-fine s key c h (events.Clocked now) o o (fine-refl o) shown)
shown-after s key c h (events.Linked to service first got) server class allowed shown = absurd allowed
shown-after s key c h (events.Called cid got) server class allowed shown = absurd allowed
shown-after s key c h (events.Shut d got) server class allowed shown = absurd allowed
shown-after s key c h (events.Ended d got) server class allowed shown = absurd allowed
shown-after s key c h (events.Cancelled d code got) server class allowed shown = absurd allowed

shown-history : (s : Setup) (key : List ℕ) (c : CallName) (h : List Event) → IsServer s.kind → s.class ≡ token key
    → Legal s h → Shown s key c h (conn_at (looks s h) (connection_of c))
shown-history s key c [] server class legal = tt
shown-history s key c (e ∷ h) server class legal =
    shown-after s key c h e server class (served s.kind s (looks s h) e server legal.0)
    (shown-history s key c h server class legal.1)

-- what stands before a part of a legal history is legal
pub legal-before : (s : Setup) (later before : List Event) → Legal s (later ++ before) → Legal s before
legal-before s [] before legal = legal
legal-before s (e ∷ later) before legal = legal-before s later before legal.1

shown-proved : (s : Setup) (key : List ℕ) (c : CallName) (h : List Event) (o : Option ConnLooks)
    → unwrap_or (option_map (λ (r : ConnLooks). r.proved) o) false ≡ true → Shown s key c h o
    → IsSomeAnd o (λ r. Proves s key c r.order h)
shown-proved s key c h None proved shown = absurd cc
shown-proved s key c h (Some r) proved shown = shown proved

must : (a b : Bool) → a ≡ true → (not a || b) ≡ true → b ≡ true
must true b is holds = holds
must false b is holds = absurd cc

-- each accept came behind a right RESPONSE
pub entered_when_proved : EnteredOnlyWhenProved
entered_when_proved s key h server class legal c later before is =
    let at : Legal s (events.Accepted (Some c) ∷ before) =
    legal-before s later (events.Accepted (Some c) ∷ before) (subst (λ (g : List Event). Legal s g) is legal) in
    let l : Looks = looks s before in
    let allowed = served s.kind s l (events.Accepted (Some c)) server at.0 in
    let tests = both _ _ (find_passes (can_enter s l) l.firsts c (sym allowed)) in
    let challenges : s.class.challenges ≡ true = ap (λ (k : Class). k.challenges) class in
    shown-proved s key c before (conn_at l (connection_of c))
    (must s.class.challenges (is_proved l (connection_of c)) challenges tests.1)
    (shown-history s key c before server class at.1)
