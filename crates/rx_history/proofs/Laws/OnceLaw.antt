-- A server that forgot no record accepts no call twice, whatever bytes came.
use Rattle.std.proofs.Common.{◌≡◌, ◌≤◌, ℕ, suc, if◌then◌else◌, true, false, List, [], ◌∷◌}
use Rattle.std.proofs.Common.{Option, Some, None, refl, ◌∙◌, arith, sym, subst}
use Rattle.std.proofs.Common.{option_map}
use Rattle.rx_model.specs.declared.answers.WroteGot.TheVariants as writers
use Rattle.rx_model.specs.declared.answers.ReadGot.TheVariants as readers
use Rattle.rx_model.specs.declared.event.Event.{Event}
use Rattle.rx_model.specs.declared.event.Event.TheVariants as events
use Rattle.rx_model.specs.declared.names.CallName.{CallName}
use Rattle.rx_rules.specs.After.{after, counted}
use Rattle.rx_rules.specs.After.{is_end, looks}
use Rattle.rx_rules.specs.CallLooks.{after_write}
use Rattle.rx_history.specs.Counts.{accepts, times_accepted}
use Rattle.rx_rules.specs.Life.{after_accept, is_waiting}
use Rattle.rx_rules.specs.Looks.{CallRecord, Looks, call_at, conn_at, is_call}
use Rattle.rx_rules.specs.Looks.{on_life}
use Rattle.rx_model.specs.Names.{connection_of, same_name}
use Rattle.rx_history.specs.Alone.{OnceUnderForgery}
use Rattle.rx_model.specs.Reading.{reading_of}
use Rattle.rx_rules.specs.Records.{silenced}
use Rattle.rx_rules.specs.Rules.{AllowedAt, AllowedServer, Legal, accept_answer, can_enter}
use Rattle.rx_rules.specs.Setup.{Setup, Kind, Server, Client, IsServer}
use Rattle.rx_rules.proofs.CallsLaws.{call_at-on_call, changed_if}
use Rattle.rx_rules.proofs.ConnsLaws.{number_of}
use Rattle.rx_rules.proofs.FindLaws.{find_passes}
use Rattle.rx_rules.proofs.KeepsLaws.{keeps-on_life}
use Rattle.rx_rules.proofs.KeepsLaws.{keeps-on_looks, keeps-trans}
use Rattle.rx_rules.proofs.LifeLaws.{accept_waits, accepted_waits}
use Rattle.rx_model.proofs.NameLaws.{both, name_is}
use Rattle.rx_history.proofs.Laws.SoundLaws.{Below, Counted, Sound, sound-keeps}
use Rattle.rx_history.proofs.Given.GivenLaws.{keeps-finish, keeps-polled, keeps-read, keeps-silenced}
use Rattle.rx_history.proofs.MessageTaken.{sound-message}
use Rattle.rx_history.proofs.Laws.ForgotAfter.{forgot-finish, forgot-message, forgot-polled}

-- ---- an accept

pub is_call-some : (o : Option CallRecord) → is_call (λ k. is_waiting k.life) o ≡ true
    → (k : CallRecord) × (o ≡ Some k) × (is_waiting k.life ≡ true)
is_call-some None is = absurd cc
is_call-some (Some k) is = (k, refl, is)

-- the call that an accept answers with waits
pub waits : (s : Setup) (l : Looks) (d : CallName) → Some d ≡ accept_answer s l
    → is_call (λ k. is_waiting k.life) (call_at l d) ≡ true
waits s l d is = (both _ _ (find_passes (can_enter s l) l.firsts d (sym is))).0

pub counted-accepted : (d : CallName) (k : CallRecord) (n : ℕ) → n ≡ 0 → same_name k.name d ≡ true
    → Counted (option_map (changed_if d (λ j. record j { life = after_accept j.life })) (Some k)) (suc n)
counted-accepted d k n none same =
    rw same ((λ is. absurd (let no = accepted_waits k.life in cc (is, no))), (omega arith))

pub below-changed : (d : CallName) (o : Option CallRecord) (number top : ℕ) → Below o number top
    → Below (option_map (changed_if d (λ j. record j { life = after_accept j.life })) o) number top
below-changed d None number top below = tt
below-changed d (Some k) number top below = below

pub sound-own : (s : Setup) (l : Looks) (c : CallName) (n : ℕ) → Some c ≡ accept_answer s l → Sound l c n
    → Sound (on_life c after_accept l) c (suc n)
sound-own s l c n answer sound =
    let found = is_call-some (call_at l c) (waits s l c answer) in
    let is = call_at-on_call c c (λ j. record j { life = after_accept j.life }) l (λ j. refl) in
    let none : n ≡ 0 = (subst (λ (o : Option CallRecord). Counted o n) found.1 sound.counted).0 found.2 in
    let own : same_name found.0.name c ≡ true = find_passes (λ j. same_name j.name c) l.calls found.0 found.1 in
    record {
      counted =
          subst (λ (o : Option CallRecord). Counted o (suc n)) (sym is)
          (subst (λ (o : Option CallRecord).
          Counted (option_map (changed_if c (λ j. record j { life = after_accept j.life })) o) (suc n)) (sym found.1)
          (counted-accepted c found.0 n none own));
      below =
          subst (λ (o : Option CallRecord). Below o c.number (number_of (conn_at l (connection_of c)) c.chan)) (sym is)
          (below-changed c (call_at l c) c.number (number_of (conn_at l (connection_of c)) c.chan) sound.below);
      fours = sound.fours;
    }

pub sound-accepted : (s : Setup) (l : Looks) (c d : CallName) (n : ℕ) → Some d ≡ accept_answer s l → Sound l c n
    → Sound (on_life d after_accept l) c (if same_name c d then suc n else n)
sound-accepted s l c d n answer sound =
    (elim (same_name c d)
    as (λ b. same_name c d ≡ b → Sound (on_life d after_accept l) c (if b then suc n else n)) [
      | true ↦ λ same.
          subst (λ (e : CallName). Some e ≡ accept_answer s l → Sound (on_life e after_accept l) c (suc n))
          (name_is c d same) (λ own. sound-own s l c n own sound) answer
      | false ↦ λ other.
          sound-keeps c l (on_life d after_accept l) n (keeps-on_life c d after_accept l accept_waits) sound
    ]) refl

-- ---- a history

-- an event of a server that forgot nothing carries on what is known of each call
pub sound-after : (s : Setup) (l : Looks) (e : Event) (c : CallName) (n : ℕ) → IsServer s.kind → AllowedServer s l e
    → (after s e l).forgotten ≡ [] → Sound l c n → Sound (after s e l) c (if accepts e c then suc n else n)
sound-after s l (events.Accepted (Some d)) c n server allowed none sound = sound-accepted s l c d n allowed sound
sound-after s l (events.Accepted None) c n server allowed none sound = sound
sound-after s l (events.Wrote d offered (writers.Server got) bytes) c n server allowed none sound =
    sound-keeps c l _ n (keeps-on_looks c d (after_write bytes) l) sound
sound-after s l (events.Wrote d offered (writers.Client got) bytes) c n server allowed none sound = absurd allowed
sound-after s l (events.HasRead d max (readers.Server got) bytes) c n server allowed none sound =
    sound-keeps c l _ n (keeps-read c d (is_end (readers.Server got)) bytes l) sound
sound-after s l (events.HasRead d max (readers.Client got) bytes) c n server allowed none sound = absurd allowed
sound-after s l (events.Finished d code got) c n server allowed none sound =
    sound-keeps c l _ n (keeps-finish c d code got l) sound
sound-after s l (events.Taken from bytes got) c n server allowed none sound =
    sound-message s from (reading_of bytes) c got l n server none sound
sound-after s l (events.Polled got) c n server allowed none sound =
    sound-keeps c l _ n
    (keeps-trans c l (silenced l) _ (keeps-silenced c l) (keeps-polled s got c (silenced l))) sound
sound-after s l (events.Clocked now) c n server allowed none sound =
    (record { counted = sound.counted; below = sound.below; fours = sound.fours })
sound-after s l (events.Linked to service first got) c n server allowed none sound = absurd allowed
sound-after s l (events.Called cid got) c n server allowed none sound = absurd allowed
sound-after s l (events.Shut d got) c n server allowed none sound = absurd allowed
sound-after s l (events.Ended d got) c n server allowed none sound = absurd allowed
sound-after s l (events.Cancelled d code got) c n server allowed none sound = absurd allowed

-- where nothing is forgotten behind an event of a server, nothing was before it
pub forgot-after : (s : Setup) (l : Looks) (e : Event) → AllowedServer s l e → (after s e l).forgotten ≡ []
    → l.forgotten ≡ []
forgot-after s l (events.Accepted (Some d)) allowed none = none
forgot-after s l (events.Accepted None) allowed none = none
forgot-after s l (events.Wrote d offered got bytes) allowed none = none
forgot-after s l (events.HasRead d max got bytes) allowed none = none
forgot-after s l (events.Finished d code got) allowed none = sym (forgot-finish d code got l) ∙ none
forgot-after s l (events.Taken from bytes got) allowed none = forgot-message s from (reading_of bytes) got l none
forgot-after s l (events.Polled got) allowed none = sym (forgot-polled s got l) ∙ none
forgot-after s l (events.Clocked now) allowed none = none
forgot-after s l (events.Linked to service first got) allowed none = absurd allowed
forgot-after s l (events.Called cid got) allowed none = absurd allowed
forgot-after s l (events.Shut d got) allowed none = absurd allowed
forgot-after s l (events.Ended d got) allowed none = absurd allowed
forgot-after s l (events.Cancelled d code got) allowed none = absurd allowed

-- the rules of a server
pub served : (kind : Kind) (s : Setup) (l : Looks) (e : Event) → IsServer kind → AllowedAt kind s l e
    → AllowedServer s l e
served (Server service nonces) s l e server allowed = allowed
served (Client host epoch) s l e server allowed = absurd server

pub sound-history : (s : Setup) (h : List Event) (c : CallName) → IsServer s.kind → Legal s h → (looks s h).forgotten
    ≡ []
    → Sound (looks s h) c (times_accepted h c)
sound-history s [] c server legal none = record { counted = refl; below = tt; fours = tt }
sound-history s (e ∷ h) c server legal none =
    let allowed = served s.kind s (looks s h) e server legal.0 in
    sound-after s (looks s h) e c (times_accepted h c) server allowed none
    (sound-history s h c server legal.1 (forgot-after s (looks s h) e allowed none))

pub at_most_once : (o : Option CallRecord) (n : ℕ) → Counted o n → n ≤ 1
at_most_once None n counted = omega arith
at_most_once (Some k) n counted = counted.1

-- no call is accepted twice
pub once_under_forgery : OnceUnderForgery
once_under_forgery s h server legal none c =
    at_most_once (call_at (looks s h) c) (times_accepted h c) (sound-history s h c server legal none).counted
