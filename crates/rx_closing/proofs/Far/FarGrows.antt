-- How far a call is at one node only grows, with each event of a legal history.
use Rattle.std.proofs.Common.{◌≡◌, ◌⊎◌, ◌≤◌, ◌<◌, ◌++◌, ◌||◌, ℕ, ℤ, Bool, true, false, List, [], ◌∷◌, Option, Some}
use Rattle.std.proofs.Common.{None, refl, ◌∙◌, ap, sym, subst, inl, inr, arith, is_some}
use Rattle.rx_model.specs.declared.answers.End.TheVariants as ends
use Rattle.rx_model.specs.declared.event.Event.{Event}
use Rattle.rx_model.specs.declared.names.CallName.{CallName}
use Rattle.rx_model.specs.declared.wire.TheConstants.{RX_CALL_DEAD}
use Rattle.rx_rules.specs.After.{is_end, is_zero, looks}
use Rattle.rx_rules.specs.CallLooks.{CallLooks, fresh_call, is_delivered}
use Rattle.rx_rules.specs.Life.{Life, after_accept, after_acks, after_cancel, after_code, after_end, after_finish}
use Rattle.rx_rules.specs.Life.{after_gone, after_later, after_silence, is_handled, is_waiting}
use Rattle.rx_rules.specs.Life as lives
use Rattle.rx_rules.specs.Looks.{CallRecord, Looks, call_at}
use Rattle.rx_rules.specs.Received.{Piece, Received}
use Rattle.rx_rules.specs.Rules.{Legal}
use Rattle.rx_rules.specs.Sent.{given_of}
use Rattle.rx_rules.specs.Setup.{FitsSetup, Setup, pace_of}
use Rattle.rx_history.proofs.ClientHistory.{client-calls}
use Rattle.rx_between.specs.Acknowledged.{sent_by}
use Rattle.rx_between.specs.Told.{Grows, StartsNoneAnew}
use Rattle.rx_between.proofs.Each.EachEvent.{each_step}
use Rattle.rx_between.proofs.Each.EachStep.{CallStep, Goes, LifeStep, Starts, accepted, cancelled, finished, gone}
use Rattle.rx_between.proofs.Each.EachStep.{is_acked}
use Rattle.rx_between.proofs.Each.EachStep.{is_busy, is_followed, is_silent, is_stopped, lives_on, read_out}
use Rattle.rx_between.proofs.Each.EachStep as steps
use Rattle.rx_between.proofs.Grows.{grows_on, grows_same, step_grows}
use Rattle.rx_between.proofs.Onward.{NoneAnew, client_anew, server_anew}
use Rattle.rx_closing.proofs.Far.FarParts.{Advances, StayKept, step_acks, step_advances, step_stays}
use Rattle.rx_closing.proofs.Frame.{rank_of}

-- ---- what is to be shown

-- a life is further; a handler has it only where one had it before, or it waited for one
pub record IsLater (x y : Life) : Type 0 where
  pub rank : rank_of x < rank_of y
  pub handled : is_handled y ≡ true → (is_waiting x || is_handled x) ≡ true

-- a life is as it was, or further
abbrev pub GoesOn : Life → Life → Type 0
GoesOn x y = (y ≡ x) ⊎ IsLater x y

-- a call at two moments
pub record Further (a b : CallRecord) : Type 0 where
  pub name : b.name ≡ a.name
  pub end : Advances a.looks b.looks
  pub life : GoesOn a.life b.life
  pub grows : Grows a.looks.received b.looks.received
  pub kept : StayKept a.looks.received b.looks.received

-- of a call that is looked for: it may start, and isn't lost
abbrev pub FurtherOf : Option CallRecord → Option CallRecord → Type 0
FurtherOf None b = Unit {0}
FurtherOf (Some a) None = ⊥
FurtherOf (Some a) (Some b) = Further a b

-- no more is acknowledged than was given
abbrev pub IsAckedGiven : Option CallRecord → Type 0
IsAckedGiven o = (sent_by o).acked ≤ given_of (sent_by o)

-- ---- lives

-- a life that no handler has
past : (x y : Life) → rank_of x < rank_of y → is_handled y ≡ false → GoesOn x y
past x y less other = inr (record { rank = less; handled = λ is. absurd (cc (is, other)) })

-- a step that leaves a life or moves it on
abbrev Rises : (Life → Life) → Type 0
Rises f = (x : Life) → GoesOn x (f x)

code_rises : (code : ℤ) → Rises (after_code code)
code_rises code lives.Calling = past lives.Calling (lives.Ended (ends.Abort code)) (omega arith) refl
code_rises code lives.Waiting = past lives.Waiting (lives.Over (Some code)) (omega arith) refl
code_rises code lives.Accepted = inr (record { rank = omega arith; handled = λ is. refl })
code_rises code lives.Finished = past lives.Finished (lives.Over (Some code)) (omega arith) refl
code_rises code _ = inl refl

silence_rises : (silence : ℕ) → Rises (after_silence silence)
silence_rises silence lives.Calling = past lives.Calling (lives.Ended (ends.Dead silence)) (omega arith) refl
silence_rises silence lives.Waiting = past lives.Waiting (lives.Over (Some RX_CALL_DEAD)) (omega arith) refl
silence_rises silence lives.Accepted = inr (record { rank = omega arith; handled = λ is. refl })
silence_rises silence lives.Finished = past lives.Finished (lives.Over (Some RX_CALL_DEAD)) (omega arith) refl
silence_rises silence _ = inl refl

later_rises : Rises after_later
later_rises lives.Waiting = past lives.Waiting (lives.Over (Some RX_CALL_DEAD)) (omega arith) refl
later_rises lives.Finished = past lives.Finished (lives.Over None) (omega arith) refl
later_rises _ = inl refl

acks_rise : (all : Bool) → Rises (after_acks all)
acks_rise true lives.Finished = past lives.Finished (lives.Over None) (omega arith) refl
acks_rise false lives.Finished = inl refl
acks_rise all _ = inl refl

accept_rises : Rises after_accept
accept_rises lives.Waiting = inr (record { rank = omega arith; handled = λ is. refl })
accept_rises _ = inl refl

finish_rises : (fine : Bool) (code : ℤ) → Rises (after_finish fine code)
finish_rises true code lives.Accepted = past lives.Accepted lives.Finished (omega arith) refl
finish_rises false code lives.Accepted = past lives.Accepted (lives.Over (Some code)) (omega arith) refl
finish_rises false code lives.Waiting = inl refl
finish_rises false code lives.Finished = inl refl
finish_rises false code lives.Calling = inl refl
finish_rises false code (lives.Ended end) = inl refl
finish_rises false code (lives.Broken before) = inl refl
finish_rises false code (lives.Over before) = inl refl
finish_rises true code _ = inl refl

gone_rises : Rises after_gone
gone_rises (lives.Broken before) = past (lives.Broken before) (lives.Over (Some before)) (omega arith) refl
gone_rises _ = inl refl

end_rises : (end : Bool) → Rises (after_end end)
end_rises true lives.Calling = past lives.Calling (lives.Ended ends.Ok) (omega arith) refl
end_rises true lives.Waiting = inl refl
end_rises true lives.Finished = inl refl
end_rises true lives.Accepted = inl refl
end_rises true (lives.Ended end) = inl refl
end_rises true (lives.Broken before) = inl refl
end_rises true (lives.Over before) = inl refl
end_rises false _ = inl refl

cancel_rises : (code : ℤ) → Rises (after_cancel code)
cancel_rises code lives.Calling = past lives.Calling (lives.Ended (ends.Cancelled code)) (omega arith) refl
cancel_rises code _ = inl refl

rises_to : (f : Life → Life) (x y : Life) → Rises f → y ≡ f x → GoesOn x y
rises_to f x y rises is = subst (GoesOn x) (sym is) (rises x)

-- by each step of a life
pub life_goes_on : (s : Setup) (l : Looks) (e : Event) (c : CallName) (b : CallLooks) (x y : Life)
    → LifeStep s l e c b x y → GoesOn x y
life_goes_on s l e c b x y (lives_on is) = inl is
life_goes_on s l e c b x y (is_stopped code stops is) = rises_to (after_code code) x y (code_rises code) is
life_goes_on s l e c b x y (is_busy busy is) = rises_to (after_code RX_CALL_DEAD) x y (code_rises RX_CALL_DEAD) is
life_goes_on s l e c b x y (is_followed later is) = rises_to after_later x y later_rises is
life_goes_on s l e c b x y (is_acked m judges is) =
    rises_to (after_acks (is_delivered b)) x y (acks_rise (is_delivered b)) is
life_goes_on s l e c b x y (is_silent got silence event is) =
    rises_to (after_silence silence) x y (silence_rises silence) is
life_goes_on s l e c b x y (accepted event is) = rises_to after_accept x y accept_rises is
life_goes_on s l e c b x y (finished code event is) =
    rises_to (after_finish (is_zero code) code) x y (finish_rises (is_zero code) code) is
life_goes_on s l e c b x y (gone code told event is) = rises_to after_gone x y gone_rises is
life_goes_on s l e c b x y (read_out most got bytes event is) =
    rises_to (after_end (is_end got)) x y (end_rises (is_end got)) is
life_goes_on s l e c b x y (cancelled code event is) = rises_to (after_cancel code) x y (cancel_rises code) is

-- ---- one event

goes_further : (s : Setup) (l : Looks) (e : Event) (c : CallName) (a b : CallRecord) → Goes s l e c a b
    → a.looks.sent.acked ≤ given_of a.looks.sent → Further a b
goes_further s l e c a b goes low =
    record {
      name = goes.name;
      end = step_advances s l e c a.looks b.looks goes.end low;
      life = life_goes_on s l e c b.looks a.life b.life goes.life;
      grows = step_grows s l e c a.looks b.looks goes.end;
      kept = step_stays s l e c a.looks b.looks goes.end;
    }

fresh_acked : (s : Setup) (l : Looks) (e : Event) (c : CallName) (b : CallRecord) → Starts s l e c b
    → IsAckedGiven (Some b)
fresh_acked s l e c b (name, inl opens) =
    (step_acks s l e c (fresh_call (pace_of s) l.now) b.looks (steps.takes opens.takes)
    (omega arith)).within
fresh_acked s l e c b (name, inr made) =
    subst (λ (k : CallLooks). k.sent.acked ≤ given_of k.sent) (sym made.looks) (omega arith)

-- what an event makes of a call that doesn't start anew
record Makes (a b : Option CallRecord) : Type 0 where
  further : FurtherOf a b
  acked : IsAckedGiven b

step_makes : (s : Setup) (l : Looks) (e : Event) (c : CallName) (a b : Option CallRecord) → CallStep s l e c a b
    → NoneAnew s l e c a → IsAckedGiven a → Makes a b
step_makes s l e c None None step anew low = record { further = tt; acked = low }
step_makes s l e c None (Some b) step anew low = record { further = tt; acked = fresh_acked s l e c b step }
step_makes s l e c (Some a) None step anew low = absurd step
step_makes s l e c (Some a) (Some b) (inl goes) anew low =
    record {
      further = goes_further s l e c a b goes low;
      acked = (step_acks s l e c a.looks b.looks goes.end low).within;
    }
step_makes s l e c (Some a) (Some b) (inr starts) anew low =
    absurd (let none : ◌≡◌ {A = Option CallRecord} (Some a) None = anew b starts in cc)

-- the same premise of an earlier moment
none_before : (s : Setup) (e : Event) (h : List Event) (c : CallName) → StartsNoneAnew s (e ∷ h) c
    → StartsNoneAnew s h c
none_before s e h c (inl client) = inl client
none_before s e h c (inr server) = inr (server.0, server.1.1)

-- where an event starts no call of a node anew, it starts none of this name
pub none_anew : (s : Setup) (e : Event) (h : List Event) (c : CallName) → FitsSetup s → Legal s (e ∷ h)
    → StartsNoneAnew s (e ∷ h) c → NoneAnew s (looks s h) e c (call_at (looks s h) c)
none_anew s e h c fits legal (inl (host, epoch, kind)) =
    client_anew s host epoch e h c kind fits legal (client-calls s host epoch h kind fits legal.1)
none_anew s e h c fits legal (inr (server, once)) = server_anew s e h c server legal once.0

makes_by : (s : Setup) (e : Event) (h : List Event) (c : CallName) → FitsSetup s → Legal s (e ∷ h)
    → StartsNoneAnew s (e ∷ h) c → IsAckedGiven (call_at (looks s h) c)
    → Makes (call_at (looks s h) c) (call_at (looks s (e ∷ h)) c)
makes_by s e h c fits legal none low =
    step_makes s (looks s h) e c (call_at (looks s h) c) (call_at (looks s (e ∷ h)) c)
    (each_step s h e c fits legal) (none_anew s e h c fits legal none) low

-- at every moment of a legal history no more is acknowledged than was given
pub acked_given : (s : Setup) (h : List Event) (c : CallName) → FitsSetup s → Legal s h → StartsNoneAnew s h c
    → IsAckedGiven (call_at (looks s h) c)
acked_given s [] c fits legal none = omega arith
acked_given s (e ∷ h) c fits legal none =
    (makes_by s e h c fits legal none (acked_given s h c fits legal.1 (none_before s e h c none))).acked

-- an event leaves a call, or moves it on
pub further_step : (s : Setup) (e : Event) (h : List Event) (c : CallName) → FitsSetup s → Legal s (e ∷ h)
    → StartsNoneAnew s (e ∷ h) c → FurtherOf (call_at (looks s h) c) (call_at (looks s (e ∷ h)) c)
further_step s e h c fits legal none =
    (makes_by s e h c fits legal none (acked_given s h c fits legal.1 (none_before s e h c none))).further

-- ---- several events

further_same : (a : CallRecord) → Further a a
further_same a =
    record {
      name = refl;
      end = record {
        pieces = omega arith;
        given = omega arith;
        acked = omega arith;
        front = omega arith;
        used = omega arith;
        shut = omega arith;
        ended = omega arith;
      };
      life = inl refl;
      grows = grows_same a.looks.received;
      kept = λ k there. refl;
    }

later_trans : (x y z : Life) → IsLater x y → IsLater y z → IsLater x z
later_trans x y z first second =
    record {
      rank = (let less = first.rank in let more = second.rank in omega (arith, less, more));
      handled = λ is. before (is_waiting y) (is_handled y) refl refl (second.handled is);
    }
  where
    -- nothing comes before a call that waits
    waits_first : (w : Life) → is_waiting w ≡ true → rank_of x < rank_of w → ⊥
    waits_first lives.Waiting is less = absurd (omega (arith, less))
    waits_first _ is less = absurd cc

    before : (waits has : Bool) → is_waiting y ≡ waits → is_handled y ≡ has → (waits || has) ≡ true
        → (is_waiting x || is_handled x) ≡ true
    before true has waits_is has_is either = absurd (waits_first y waits_is first.rank)
    before false has waits_is has_is either = first.handled (has_is ∙ either)

life_trans : (x y z : Life) → GoesOn x y → GoesOn y z → GoesOn x z
life_trans x y z (inl first) (inl second) = inl (second ∙ first)
life_trans x y z (inl first) (inr second) = inr (subst (λ (w : Life). IsLater w z) first second)
life_trans x y z (inr first) (inl second) = inr (subst (λ (w : Life). IsLater x w) (sym second) first)
life_trans x y z (inr first) (inr second) = inr (later_trans x y z first second)

stay_trans : (a b c : Received) → StayKept a b → StayKept b c → StayKept a c
stay_trans a b c first second k there =
    (let one = first k there in second k (ap (λ (o : Option Piece). is_some o) one ∙ there) ∙ one)

trans_both : (a b c : CallRecord) → Further a b → Further b c → Further a c
trans_both a b c f g =
    record {
      name = g.name ∙ f.name;
      end = record {
        pieces = omega (arith, f.end.pieces, g.end.pieces);
        given = omega (arith, f.end.given, g.end.given);
        acked = omega (arith, f.end.acked, g.end.acked);
        front = omega (arith, f.end.front, g.end.front);
        used = omega (arith, f.end.used, g.end.used);
        shut = omega (arith, f.end.shut, g.end.shut);
        ended = omega (arith, f.end.ended, g.end.ended);
      };
      life = life_trans a.life b.life c.life f.life g.life;
      grows = grows_on a.looks.received b.looks.received c.looks.received f.grows g.grows;
      kept = stay_trans a.looks.received b.looks.received c.looks.received f.kept g.kept;
    }

pub further_trans : (a b c : Option CallRecord) → FurtherOf a b → FurtherOf b c → FurtherOf a c
further_trans None b c first second = tt
further_trans (Some a) None c first second = absurd first
further_trans (Some a) (Some b) None first second = absurd second
further_trans (Some a) (Some b) (Some c) first second = trans_both a b c first second

pub further_itself : (a : Option CallRecord) → FurtherOf a a
further_itself None = tt
further_itself (Some a) = further_same a

-- a later history of a node
pub further_on : (s : Setup) (later h : List Event) (c : CallName) → FitsSetup s → Legal s (later ++ h)
    → StartsNoneAnew s (later ++ h) c → FurtherOf (call_at (looks s h) c) (call_at (looks s (later ++ h)) c)
further_on s [] h c fits legal none = further_itself (call_at (looks s h) c)
further_on s (e ∷ later) h c fits legal none =
    further_trans (call_at (looks s h) c) (call_at (looks s (later ++ h)) c) (call_at (looks s (e ∷ (later ++ h))) c)
    (further_on s later h c fits legal.1 (none_before s e (later ++ h) c none))
    (further_step s e (later ++ h) c fits legal none)
