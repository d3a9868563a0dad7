-- A server owes no ACKALL: no call of it ends with its reply read.
use Rattle.std.proofs.Common.{◌≡◌, ◌&&◌, ℕ, ℤ, zero, suc, cond, if◌then◌else◌, Bool, true, false, List, [], ◌∷◌, Option}
use Rattle.std.proofs.Common.{Some, None}
use Rattle.std.proofs.Common.{Result, Ok, Err, refl, ap, sym, subst, ◌∙◌, inl, inr, is_some}
use Rattle.rx_model.specs.declared.answers.BadMsg.{BadMsg}
use Rattle.rx_model.specs.declared.answers.End.TheVariants as ends
use Rattle.rx_model.specs.declared.answers.Took.{Took}
use Rattle.rx_model.specs.declared.answers.Took.TheVariants as tooks
use Rattle.rx_model.specs.declared.event.Event.{Event}
use Rattle.rx_model.specs.declared.event.Event.TheVariants as events
use Rattle.rx_model.specs.declared.names.CallName.{CallName}
use Rattle.rx_model.specs.declared.names.Host.{Host}
use Rattle.rx_model.specs.Body.{Body}
use Rattle.rx_model.specs.Message.{Message}
use Rattle.rx_model.specs.Names.{Connection, channel_of, connection_of, same_connection}
use Rattle.rx_model.specs.Reading.{reading_of}
use Rattle.rx_rules.specs.After.{after, enters, is_end, is_ok_end, looks, owing_ackall, owing_again, prepared}
use Rattle.rx_rules.specs.After.{read_done}
use Rattle.rx_rules.specs.After.{taken_behind, taken_message, taken_over, taken_with}
use Rattle.rx_rules.specs.CallLooks.{CallLooks}
use Rattle.rx_rules.specs.Judging.{outer_row}
use Rattle.rx_rules.specs.Life.{Life, after_accept, after_acks, after_cancel, after_code, after_end, after_finish}
use Rattle.rx_rules.specs.Life.{after_gone, after_later, after_silence, is_calling}
use Rattle.rx_rules.specs.Life as lives
use Rattle.rx_rules.specs.Looks.{CallRecord, ConnLooks, Looks, call_at, conn_at, is_call}
use Rattle.rx_rules.specs.Records.{entered, fresh_conn, idle_conn, is_full, placed, used, with_conn}
use Rattle.rx_rules.specs.Rules.{AllowedServer, Legal}
use Rattle.rx_rules.specs.Setup.{Setup, Kind, Client, Server, FitsSetup, IsServer, named}
use Rattle.rx_rules.proofs.EveryLaws.{Every, every-append}
use Rattle.rx_history.proofs.Differ.{every_map}
use Rattle.rx_history.proofs.Events.{call-by, calls-prepared}
use Rattle.rx_history.proofs.Laws.OnceLaw.{served}
use Rattle.rx_between.proofs.Each.EachEvent.{each_step}
use Rattle.rx_between.proofs.Each.EachStep.{CallStep, Goes, IsMade, LifeStep, Starts}
use Rattle.rx_between.proofs.Each.EachStep as steps
use Rattle.rx_between.proofs.OwedAckAll.{again_clears}
use Rattle.rx_between.proofs.Owing.{Clears, OwesNone, calm_channel, calm_finish, calm_polled, calm_turned}
use Rattle.rx_between.proofs.Owing.{calm_used, calm_with}

-- ---- lives of a server

-- a life that a server gives
abbrev pub serves : Life → Bool
serves lives.Calling = false
serves (lives.Ended end) = false
serves _ = true

code-serves : (code : ℤ) (x : Life) → serves x ≡ true → serves (after_code code x) ≡ true
code-serves code lives.Calling is = absurd cc
code-serves code (lives.Ended end) is = absurd cc
code-serves code _ is = refl

silence-serves : (n : ℕ) (x : Life) → serves x ≡ true → serves (after_silence n x) ≡ true
silence-serves n lives.Calling is = absurd cc
silence-serves n (lives.Ended end) is = absurd cc
silence-serves n _ is = refl

later-serves : (x : Life) → serves x ≡ true → serves (after_later x) ≡ true
later-serves lives.Calling is = absurd cc
later-serves (lives.Ended end) is = absurd cc
later-serves _ is = refl

acks-serves : (all : Bool) (x : Life) → serves x ≡ true → serves (after_acks all x) ≡ true
acks-serves all lives.Calling is = absurd cc
acks-serves all (lives.Ended end) is = absurd cc
acks-serves true lives.Finished is = refl
acks-serves false lives.Finished is = refl
acks-serves all _ is = refl

accept-serves : (x : Life) → serves x ≡ true → serves (after_accept x) ≡ true
accept-serves lives.Calling is = absurd cc
accept-serves (lives.Ended end) is = absurd cc
accept-serves _ is = refl

finish-serves : (fine : Bool) (code : ℤ) (x : Life) → serves x ≡ true → serves (after_finish fine code x) ≡ true
finish-serves fine code lives.Calling is = absurd cc
finish-serves fine code (lives.Ended end) is = absurd cc
finish-serves false code lives.Waiting is = refl
finish-serves false code lives.Accepted is = refl
finish-serves false code lives.Finished is = refl
finish-serves false code (lives.Broken before) is = refl
finish-serves false code (lives.Over before) is = refl
finish-serves true code _ is = refl

gone-serves : (x : Life) → serves x ≡ true → serves (after_gone x) ≡ true
gone-serves lives.Calling is = absurd cc
gone-serves (lives.Ended end) is = absurd cc
gone-serves _ is = refl

end-serves : (end : Bool) (x : Life) → serves x ≡ true → serves (after_end end x) ≡ true
end-serves end lives.Calling is = absurd cc
end-serves end (lives.Ended how) is = absurd cc
end-serves false lives.Waiting is = refl
end-serves false lives.Accepted is = refl
end-serves false lives.Finished is = refl
end-serves false (lives.Broken before) is = refl
end-serves false (lives.Over before) is = refl
end-serves true _ is = refl

cancel-serves : (code : ℤ) (x : Life) → serves x ≡ true → serves (after_cancel code x) ≡ true
cancel-serves code lives.Calling is = absurd cc
cancel-serves code (lives.Ended end) is = absurd cc
cancel-serves code _ is = refl

serves-to : (x y z : Life) → y ≡ z → serves z ≡ true → serves y ≡ true
serves-to x y z is serving = ap serves is ∙ serving

-- by each step
life-serves : (s : Setup) (l : Looks) (e : Event) (c : CallName) (b : CallLooks) (x y : Life) → LifeStep s l e c b x y
    → serves x ≡ true → serves y ≡ true
life-serves s l e c b x y (steps.lives_on is) serving = serves-to x y x is serving
life-serves s l e c b x y (steps.is_stopped code stops is) serving = serves-to x y _ is (code-serves code x serving)
life-serves s l e c b x y (steps.is_busy busy is) serving = serves-to x y _ is (code-serves _ x serving)
life-serves s l e c b x y (steps.is_followed later is) serving = serves-to x y _ is (later-serves x serving)
life-serves s l e c b x y (steps.is_acked m judges is) serving = serves-to x y _ is (acks-serves _ x serving)
life-serves s l e c b x y (steps.is_silent got n event is) serving = serves-to x y _ is (silence-serves n x serving)
life-serves s l e c b x y (steps.accepted event is) serving = serves-to x y _ is (accept-serves x serving)
life-serves s l e c b x y (steps.finished code event is) serving = serves-to x y _ is (finish-serves _ code x serving)
life-serves s l e c b x y (steps.gone code told event is) serving = serves-to x y _ is (gone-serves x serving)
life-serves s l e c b x y (steps.read_out most got bytes event is) serving = serves-to x y _ is (end-serves _ x serving)
life-serves s l e c b x y (steps.cancelled code event is) serving = serves-to x y _ is (cancel-serves code x serving)

-- of a call that is looked for
abbrev pub ServedBy : Option CallRecord → Type 0
ServedBy None = Unit {0}
ServedBy (Some k) = serves k.life ≡ true

starts-serve : (s : Setup) (l : Looks) (e : Event) (c : CallName) (b : CallRecord) → AllowedServer s l e
    → Starts s l e c b → serves b.life ≡ true
starts-serve s l e c b allowed (name, inl opens) = ap serves opens.life
starts-serve s l e c b allowed (name, inr made) =
    absurd (subst (λ (x : Event). AllowedServer s l x) made.event allowed)

step-serves : (s : Setup) (l : Looks) (e : Event) (c : CallName) (a b : Option CallRecord) → AllowedServer s l e
    → CallStep s l e c a b → ServedBy a → ServedBy b
step-serves s l e c None None allowed step serving = tt
step-serves s l e c None (Some b) allowed step serving = starts-serve s l e c b allowed step
step-serves s l e c (Some a) None allowed step serving = tt
step-serves s l e c (Some a) (Some b) allowed (inl goes) serving =
    life-serves s l e c b.looks a.life b.life goes.life serving
step-serves s l e c (Some a) (Some b) allowed (inr starts) serving = starts-serve s l e c b allowed starts

-- each call of a server has such a life
pub all_serve : (s : Setup) (h : List Event) (c : CallName) → IsServer s.kind → FitsSetup s → Legal s h
    → ServedBy (call_at (looks s h) c)
all_serve s [] c server fits legal = tt
all_serve s (e ∷ h) c server fits legal =
    step-serves s (looks s h) e c (call_at (looks s h) c) (call_at (looks s (e ∷ h)) c)
    (served s.kind s (looks s h) e server legal.0) (each_step s h e c fits legal)
    (all_serve s h c server fits legal.1)

-- ---- what its channels owe

not-ok : (x : Life) → serves x ≡ true → is_ok_end x ≡ false
not-ok (lives.Ended ends.Ok) is = absurd cc
not-ok _ is = refl

not-calling : (x : Life) → serves x ≡ true → is_calling x ≡ false
not-calling lives.Calling is = absurd cc
not-calling _ is = refl

call-rests : (o : Option CallRecord) → ServedBy o → is_call (λ k. is_calling k.life) o ≡ false
call-rests None serving = refl
call-rests (Some k) serving = not-calling k.life serving

abbrev Free : Looks → Type 0
Free l = Every OwesNone l.conns

module _ (s : Setup) (l : Looks) (y : Connection) (serving : (c : CallName) → ServedBy (call_at l c)) (free : Free l)
  where
    fresh-free : (x : Connection) (service : ℕ) → OwesNone (fresh_conn x x.host service 1 l)
    fresh-free x service zero = refl
    fresh-free x service (suc zero) = refl
    fresh-free x service (suc (suc zero)) = refl
    fresh-free x service (suc (suc (suc zero))) = refl
    fresh-free x service (suc (suc (suc (suc n)))) = refl

    placed-free : (new : ConnLooks) (o : Option ConnLooks) → OwesNone new → Free (placed new o l)
    placed-free new None none = every-append OwesNone l.conns (new ∷ []) free (none, tt)
    placed-free new (Some old) none =
        every_map OwesNone OwesNone (λ r. if same_connection r.connection old.connection then new else r) l.conns
        (λ r own. of (same_connection r.connection old.connection) r own) free
      where
        of : (b : Bool) (r : ConnLooks) → OwesNone r → OwesNone (if b then new else r)
        of true r own = none
        of false r own = own

    with_conn-free : (kind : Kind) (x : Connection) → Free (with_conn s kind x l)
    with_conn-free (Client host epoch) x = free
    with_conn-free (Server service nonces) x =
        placed-free (fresh_conn x x.host service 1 l) (if is_full s l then idle_conn l else None) (fresh-free x service)

    entered-free : (x : Connection) → Free (entered s x l)
    entered-free x = of (is_some (conn_at l x))
      where
        of : (b : Bool) → Free (cond b l (with_conn s s.kind x l))
        of true = free
        of false = with_conn-free s.kind x

    ready-free : (got : Took) (x : Connection) → Free (prepared s got x l)
    ready-free got x = of (enters got)
      where
        of : (b : Bool) → Free (used x (if b then entered s x l else l))
        of true = (calm_used y x (entered s x l)).none (entered-free x)
        of false = (calm_used y x l).none free

over-free : (d : CallName) (body : Body) (o : Option CallRecord) (l : Looks) (y : Connection) → ServedBy o → Free l
    → Free (taken_over d body o l)
over-free d body None l y serving free = free
over-free d body (Some k) l y serving free =
    (calm_channel y (channel_of d) (owing_again body k.life) l (again_clears body k.life (not-ok k.life serving))).none
    free

with-free : (s : Setup) (got : Took) (d : CallName) (m : Message) (l : Looks) (y : Connection)
    → ServedBy (call_at l d) → Free l → Free (taken_with s got d m l)
with-free s tooks.Over d m l y serving free = over-free d m.body (call_at l d) l y serving free
with-free s got d m l y serving free = (calm_with s got y d m l (λ same. absurd (cc (same)))).none free

module _ (s : Setup) (l : Looks) (y : Connection) (serving : (c : CallName) → ServedBy (call_at l c)) (free : Free l)
  where
    message-free : (from : Host) (got : Took) (reading : Result Message BadMsg)
        → Free (taken_message s from reading got l)
    message-free from got (Err bad) = free
    message-free from got (Ok m) = of (outer_row s s.kind l from m)
      where
        d : CallName
        d = named s from m

        ready : Looks
        ready = prepared s got (connection_of d) l

        of : (row : Option Took) → Free (taken_behind s row from d m got l)
        of (Some row) = (calm_turned y row from m l).none free
        of None =
            with-free s got d m ready y
            (subst ServedBy (sym (call-by d l ready (calls-prepared s got (connection_of d) l))) (serving d))
            (ready-free s l y serving free got (connection_of d))

    quiet : (b : Bool) → b ≡ false → Clears (owing_ackall b)
    quiet true no' q owed = absurd cc
    quiet false no' q owed = (owed, refl)

    either-no : (a b : Bool) → b ≡ false → (a && b) ≡ false
    either-no true b is = is
    either-no false b is = refl

    read-free : (d : CallName) (end : Bool) (bytes : List ℕ) → Free (read_done d end bytes l)
    read-free d end bytes =
        (calm_channel y (channel_of d) (owing_ackall (end && is_call (λ k. is_calling k.life) (call_at l d))) l
        (quiet (end && is_call (λ k. is_calling k.life) (call_at l d))
        (either-no end (is_call (λ k. is_calling k.life) (call_at l d)) (call-rests (call_at l d) (serving d))))).none
        free

    -- behind each event
    event-free : (e : Event) → AllowedServer s l e → Free (after s e l)
    event-free (events.Accepted (Some d)) allowed = free
    event-free (events.Accepted None) allowed = free
    event-free (events.Wrote d offered got bytes) allowed = free
    event-free (events.HasRead d max got bytes) allowed = read-free d (is_end got) bytes
    event-free (events.Finished d code got) allowed = (calm_finish y d code got l).none free
    event-free (events.Taken from bytes got) allowed = message-free from got (reading_of bytes)
    event-free (events.Polled got) allowed = (calm_polled s y got l).none free
    event-free (events.Clocked now) allowed = free
    event-free _ allowed = absurd allowed

-- no connection of a server owes one
pub serves_owe : (s : Setup) (h : List Event) (y : Connection) → IsServer s.kind → FitsSetup s → Legal s h
    → Every OwesNone (looks s h).conns
serves_owe s [] y server fits legal = tt
serves_owe s (e ∷ h) y server fits legal =
    event-free s (looks s h) y (λ c. all_serve s h c server fits legal.1) (serves_owe s h y server fits legal.1) e
    (served s.kind s (looks s h) e server legal.0)
