-- A call whose handler ended well said all that it will; and no call of a server has the life of a client's.
use Rattle.std.proofs.Common.{◌≡◌, ◌≤◌, ◌∷◌, cond, ℕ, ℤ, Bool, true, false, List, [], refl, ap, sym, subst, ◌∙◌, Option}
use Rattle.std.proofs.Common.{Some, None, option_map, inl, inr, Ok, arith}
use Rattle.rx_model.specs.declared.event.Event.{Event}
use Rattle.rx_model.specs.declared.event.Event.TheVariants as events
use Rattle.rx_model.specs.declared.names.CallName.{CallName}
use Rattle.rx_model.specs.declared.wire.TheConstants.{RX_CALL_DEAD}
use Rattle.rx_model.specs.Names.{channel_of}
use Rattle.rx_rules.specs.After.{after, finish_done, finished as finished_looks, is_end, is_zero, looks, owing_abort}
use Rattle.rx_rules.specs.CallLooks.{CallLooks, after_shut, is_delivered}
use Rattle.rx_rules.specs.Life.{Life, after_accept, after_acks, after_cancel, after_code, after_end, after_finish}
use Rattle.rx_rules.specs.Life.{after_gone, after_later, after_silence}
use Rattle.rx_rules.specs.Life as lives
use Rattle.rx_rules.specs.Looks.{CallRecord, Looks, call_at, on_channel, on_looks}
use Rattle.rx_rules.specs.Rules.{AllowedServer, Legal}
use Rattle.rx_rules.specs.Setup.{FitsSetup, IsServer, Setup}
use Rattle.rx_history.proofs.Laws.OnceLaw.{served}
use Rattle.rx_history.specs.Starts.{StartsOnce}
use Rattle.rx_between.specs.Acknowledged.{sent_by}
use Rattle.rx_rules.specs.Sent.{given_of}
use Rattle.rx_between.proofs.Each.EachEvent.{each_step}
use Rattle.rx_between.proofs.Each.EachStep.{CallStep, LifeStep, Starts, accepted, cancelled, finished, gone, is_acked}
use Rattle.rx_between.proofs.Each.EachStep.{is_busy, is_followed, is_silent, is_stopped, lives_on, read_out}
use Rattle.rx_plan.proofs.Passing.{own_changed}
use Rattle.rx_closing.proofs.Far.FarGrows.{acked_given}
use Rattle.rx_closing.proofs.Far.FarParts.{step_advances}
use Rattle.rx_closing.proofs.Far.FinishedRead.{FinishedBy, finished_by, finishes_now, was_finished}
use Rattle.rx_closing.proofs.Frame.{flag}

-- ---- a good end shuts

flag_true : (a b : Bool) → flag a ≤ flag b → a ≡ true → b ≡ true
flag_true true true low is = refl
flag_true true false low is = absurd (omega (arith, low))
flag_true false b low is = absurd cc

-- what a finish with 0 makes of the end of its call
shut_behind : (s : Setup) (l : Looks) (c : CallName) (code : ℤ) (a b : CallRecord) → call_at l c ≡ Some a
    → is_zero code ≡ true → call_at (after s (events.Finished c code (Ok tt)) l) c ≡ Some b
    → b.looks.sent.shut ≡ true
shut_behind s l c code a b there zero_ behind =
    let first : call_at (finished_looks c code l) c ≡ Some (shutting a) =
    ap (λ (z : Bool). call_at (cond z (on_looks c after_shut l)
    (on_channel (channel_of c) (owing_abort (Some code)) l)) c)
    zero_ ∙ own_changed c shutting l (λ k. refl) ∙ ap (option_map shutting) there in
    let all : call_at (finish_done c code (Ok tt) l) c ≡ Some (ending (shutting a)) =
    own_changed c ending (finished_looks c code l) (λ k. refl) ∙ ap (option_map ending) first in
    let one : ending (shutting a) ≡ b =
    (let both : ◌≡◌ {A = Option CallRecord} (Some (ending (shutting a))) (Some b) = sym all ∙ behind in cc (both)) in
    ap (λ (k : CallRecord). k.looks.sent.shut) (sym one)
  where
    shutting : CallRecord → CallRecord
    shutting k = record k { looks = after_shut k.looks }

    ending : CallRecord → CallRecord
    ending k = record k { life = after_finish (is_zero code) code k.life }

abbrev ShutOf : Option CallRecord → Type 0
ShutOf None = Unit {0}
ShutOf (Some r) = r.life ≡ lives.Finished → r.looks.sent.shut ≡ true

starts_shut : (s : Setup) (l : Looks) (e : Event) (c : CallName) (b : CallRecord) → Starts s l e c b → ShutOf (Some b)
starts_shut s l e c b (named, inl opens) fine =
    absurd (let wrong : lives.Waiting ≡ lives.Finished = sym opens.life ∙ fine in cc (wrong))
starts_shut s l e c b (named, inr made) fine =
    absurd (let wrong : lives.Calling ≡ lives.Finished = sym made.life ∙ fine in cc (wrong))

shut_of : (s : Setup) (h : List Event) (c : CallName) → IsServer s.kind → FitsSetup s → Legal s h → StartsOnce s h c
    → ShutOf (call_at (looks s h) c)
shut_of s [] c server fits legal once = tt
shut_of s (e ∷ h) c server fits legal once =
    of (call_at (looks s h) c) (call_at (looks s (e ∷ h)) c) refl refl (each_step s h e c fits legal)
    (shut_of s h c server fits legal.1 once.1)
  where
    low : (a : CallRecord) → call_at (looks s h) c ≡ Some a → a.looks.sent.acked ≤ given_of a.looks.sent
    low a there =
        subst (λ (o : Option CallRecord). (sent_by o).acked ≤ given_of (sent_by o)) there
        (acked_given s h c fits legal.1 (inr (server, once.1)))

    by : (a b : CallRecord) → call_at (looks s h) c ≡ Some a → call_at (looks s (e ∷ h)) c ≡ Some b
        → (a.looks.sent.shut ≡ true → b.looks.sent.shut ≡ true) → FinishedBy a.life e c → ShutOf (Some a)
        → b.looks.sent.shut ≡ true
    by a b there behind stays (was_finished is) before = stays (before is)
    by a b there behind stays (finishes_now code event zero_ life) before =
        shut_behind s (looks s h) c code a b there zero_
        (subst (λ (x : Event). call_at (after s x (looks s h)) c ≡ Some b) event behind)

    of : (a b : Option CallRecord) → call_at (looks s h) c ≡ a → call_at (looks s (e ∷ h)) c ≡ b
        → CallStep s (looks s h) e c a b → ShutOf a → ShutOf b
    of None None there behind step before = tt
    of None (Some b) there behind starts before = starts_shut s (looks s h) e c b starts
    of (Some a) None there behind step before = absurd step
    of (Some a) (Some b) there behind (inl goes) before = λ fine.
        by a b there behind
        (flag_true a.looks.sent.shut b.looks.sent.shut
        (step_advances s (looks s h) e c a.looks b.looks goes.end (low a there)).shut)
        (finished_by s (looks s h) e c b.looks a.life b.life goes.life fine) before
    of (Some a) (Some b) there behind (inr starts) before = starts_shut s (looks s h) e c b starts

pub finished_shut : (s : Setup) (h : List Event) (c : CallName) (r : CallRecord) → IsServer s.kind → FitsSetup s
    → Legal s h → StartsOnce s h c → call_at (looks s h) c ≡ Some r → r.life ≡ lives.Finished → r.looks.sent.shut ≡ true
finished_shut s h c r server fits legal once there = subst ShutOf there (shut_of s h c server fits legal once)

-- ---- the lives of a server's calls

-- not a client's
abbrev pub IsServed : Life → Type 0
IsServed lives.Calling = ⊥
IsServed (lives.Ended end) = ⊥
IsServed _ = Unit {0}

abbrev Serves_ : (Life → Life) → Type 0
Serves_ f = (x : Life) → IsServed x → IsServed (f x)

code_serves : (code : ℤ) → Serves_ (after_code code)
code_serves code lives.Calling is = is
code_serves code (lives.Ended end) is = is
code_serves code _ is = tt

later_serves : Serves_ after_later
later_serves lives.Calling is = is
later_serves (lives.Ended end) is = is
later_serves _ is = tt

acks_serve : (all : Bool) → Serves_ (after_acks all)
acks_serve all lives.Calling is = is
acks_serve all (lives.Ended end) is = is
acks_serve true lives.Finished is = tt
acks_serve false lives.Finished is = tt
acks_serve all _ is = tt

silence_serves : (n : ℕ) → Serves_ (after_silence n)
silence_serves n lives.Calling is = is
silence_serves n (lives.Ended end) is = is
silence_serves n _ is = tt

accept_serves : Serves_ after_accept
accept_serves lives.Calling is = is
accept_serves (lives.Ended end) is = is
accept_serves _ is = tt

gone_serves : Serves_ after_gone
gone_serves lives.Calling is = is
gone_serves (lives.Ended end) is = is
gone_serves _ is = tt

finish_serves : (fine : Bool) (code : ℤ) → Serves_ (after_finish fine code)
finish_serves true code lives.Accepted is = tt
finish_serves false code lives.Accepted is = tt
finish_serves true code x is = is
finish_serves false code x is = is

end_serves : (end : Bool) → Serves_ (after_end end)
end_serves true lives.Calling is = absurd is
end_serves true x is = is
end_serves false x is = is

cancel_serves : (code : ℤ) → Serves_ (after_cancel code)
cancel_serves code lives.Calling is = absurd is
cancel_serves code x is = is

served_on : (s : Setup) (l : Looks) (e : Event) (c : CallName) (b : CallLooks) (x y : Life) → LifeStep s l e c b x y
    → IsServed x → IsServed y
served_on s l e c b x y (lives_on is) here = subst IsServed (sym is) here
served_on s l e c b x y (is_stopped code stops is) here = subst IsServed (sym is) (code_serves code x here)
served_on s l e c b x y (is_busy busy is) here = subst IsServed (sym is) (code_serves RX_CALL_DEAD x here)
served_on s l e c b x y (is_followed later is) here = subst IsServed (sym is) (later_serves x here)
served_on s l e c b x y (is_acked m judges is) here = subst IsServed (sym is) (acks_serve (is_delivered b) x here)
served_on s l e c b x y (is_silent got silence event is) here = subst IsServed (sym is) (silence_serves silence x here)
served_on s l e c b x y (accepted event is) here = subst IsServed (sym is) (accept_serves x here)
served_on s l e c b x y (finished code event is) here =
    subst IsServed (sym is) (finish_serves (is_zero code) code x here)
served_on s l e c b x y (gone code told event is) here = subst IsServed (sym is) (gone_serves x here)
served_on s l e c b x y (read_out most got bytes event is) here =
    subst IsServed (sym is) (end_serves (is_end got) x here)
served_on s l e c b x y (cancelled code event is) here = subst IsServed (sym is) (cancel_serves code x here)

abbrev ServedOf : Option CallRecord → Type 0
ServedOf None = Unit {0}
ServedOf (Some r) = IsServed r.life

served_of : (s : Setup) (h : List Event) (c : CallName) → IsServer s.kind → FitsSetup s → Legal s h
    → ServedOf (call_at (looks s h) c)
served_of s [] c server fits legal = tt
served_of s (e ∷ h) c server fits legal =
    of (call_at (looks s h) c) (call_at (looks s (e ∷ h)) c) (each_step s h e c fits legal)
    (served_of s h c server fits legal.1)
  where
    starts_served : (b : CallRecord) → Starts s (looks s h) e c b → IsServed b.life
    starts_served b (named, inl opens) = subst IsServed (sym opens.life) tt
    starts_served b (named, inr made) =
        absurd (subst (λ (x : Event). AllowedServer s (looks s h) x) made.event
        (served s.kind s (looks s h) e server legal.0))

    of : (a b : Option CallRecord) → CallStep s (looks s h) e c a b → ServedOf a → ServedOf b
    of None None step before = tt
    of None (Some b) starts before = starts_served b starts
    of (Some a) None step before = absurd step
    of (Some a) (Some b) (inl goes) before = served_on s (looks s h) e c b.looks a.life b.life goes.life before
    of (Some a) (Some b) (inr starts) before = starts_served b starts

pub lives_served : (s : Setup) (h : List Event) (c : CallName) (r : CallRecord) → IsServer s.kind → FitsSetup s
    → Legal s h → call_at (looks s h) c ≡ Some r → IsServed r.life
lives_served s h c r server fits legal there = subst ServedOf there (served_of s h c server fits legal)
