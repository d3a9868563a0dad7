-- Each call of a node that isn't prompt has, along any legal history, what rounds leave of an end by itself.
use Rattle.std.proofs.Common.{◌≡◌, ◌≤◌, ℕ, false, List, [], ◌∷◌, Option, Some, None, sym, subst, inl, inr, arith}
use Rattle.std.specs.Prelude.{IfSome}
use Rattle.rx_model.specs.declared.event.Event.{Event}
use Rattle.rx_model.specs.declared.event.Event.TheVariants as events
use Rattle.rx_model.specs.declared.names.CallName.{CallName}
use Rattle.rx_rules.specs.After.{after, looks}
use Rattle.rx_rules.specs.CallLooks.{CallLooks, fresh_call}
use Rattle.rx_rules.specs.Looks.{CallRecord, Looks, call_at}
use Rattle.rx_rules.specs.Rules.{AllowedAt, Legal}
use Rattle.rx_rules.specs.Setup.{Client, FitsSetup, Kind, Server, Setup, pace_of}
use Rattle.rx_history.proofs.Moments.{now-after}
use Rattle.rx_history.specs.Sides.{with_clock}
use Rattle.rx_between.proofs.Each.EachEvent.{each_step}
use Rattle.rx_between.proofs.Each.EachStep.{CallStep, EndStep, Starts, finishes, gives, reads, shuts, stays, takes}
use Rattle.rx_between.proofs.Each.EachStep.{writes}
use Rattle.rx_closing.proofs.Ends.BothEnds.{IsFit}
use Rattle.rx_closing.proofs.Ends.EndFacts.{fit_later, fit_read, fit_shut, fit_taken, fit_write}
use Rattle.rx_closing.proofs.Ends.FitGives.{fit_sending}
use Rattle.rx_closing.proofs.Ends.NextGiven.{next_is}

-- ---- a call

-- one that starts
pub fresh_fit : (s : Setup) (now : ℕ) → FitsSetup s → s.prompt ≡ false
    → IsFit now (fresh_call (pace_of s) now)
fresh_fit s now fits steady =
    let wide = fits.limits.wide in
    record {
      steady = steady;
      most = omega (arith, wide);
      open_ = omega arith;
      lets = omega arith;
      even = steady;
      soon = omega arith;
      slow = omega arith;
      known = λ j low high. absurd (omega arith);
      spoke = omega arith;
      heard = omega arith;
      low = λ o is. absurd cc;
      plain = λ o is. absurd cc;
      acked = omega arith;
      counts = omega arith;
    }

-- by a step of its end
end-fit : (s : Setup) (l : Looks) (e : Event) (c : CallName) (a b : CallLooks) → EndStep s l e c a b → IsFit l.now a
    → IsFit l.now b
end-fit s l e c a b (stays is) fit = subst (IsFit l.now) (sym is) fit
end-fit s l e c a b (takes t) fit =
    subst (IsFit l.now) (sym t.is) (fit_taken l.now t.view t.got t.message a
    (let at = t.view_is.now in omega arith) t.row fit)
end-fit s l e c a b (gives g) fit =
    subst (IsFit l.now) (sym g.is)
    (fit_sending g.view l.now g.sending a fit (next_is g.view a fit.steady g.sending g.next))
end-fit s l e c a b (writes offered got bytes event is) fit =
    subst (IsFit l.now) (sym is) (fit_write l.now bytes a fit)
end-fit s l e c a b (reads most got bytes event is) fit =
    subst (IsFit l.now) (sym is) (fit_read l.now l.now _ bytes a (omega arith) fit)
end-fit s l e c a b (shuts event is) fit = subst (IsFit l.now) (sym is) (fit_shut l.now a fit)
end-fit s l e c a b (finishes code event zero_ is) fit = subst (IsFit l.now) (sym is) (fit_shut l.now a fit)

starts-fit : (s : Setup) (l : Looks) (e : Event) (c : CallName) (b : CallRecord) → FitsSetup s → s.prompt ≡ false
    → Starts s l e c b → IsFit l.now b.looks
starts-fit s l e c b fits steady (name, inl opens) =
    end-fit s l e c (fresh_call (pace_of s) l.now) b.looks (takes opens.takes)
    (fresh_fit s l.now fits steady)
starts-fit s l e c b fits steady (name, inr made) =
    subst (IsFit l.now) (sym made.looks) (fresh_fit s l.now fits steady)

step-fit : (s : Setup) (l : Looks) (e : Event) (c : CallName) (a b : Option CallRecord) → FitsSetup s
    → s.prompt ≡ false → CallStep s l e c a b → IfSome a (λ k. IsFit l.now k.looks)
    → IfSome b (λ k. IsFit l.now k.looks)
step-fit s l e c None None fits steady step fit = tt
step-fit s l e c None (Some b) fits steady step fit = starts-fit s l e c b fits steady step
step-fit s l e c (Some a) None fits steady step fit = absurd step
step-fit s l e c (Some a) (Some b) fits steady (inl goes) fit = end-fit s l e c a.looks b.looks goes.end fit
step-fit s l e c (Some a) (Some b) fits steady (inr starts) fit = starts-fit s l e c b fits steady starts

-- ---- clocks

clock-later : (kind : Kind) (s : Setup) (l : Looks) (e : Event) → AllowedAt kind s l e → l.now ≤ with_clock e l.now
clock-later (Server service nonces) s l (events.Clocked n) may = may.0
clock-later (Client host epoch) s l (events.Clocked n) may = may.0
clock-later kind s l _ may = omega arith

later-fit : (now later : ℕ) (o : Option CallRecord) → now ≤ later → IfSome o (λ k. IsFit now k.looks)
    → IfSome o (λ k. IsFit later k.looks)
later-fit now later None after_ fit = tt
later-fit now later (Some k) after_ fit = fit_later now later k.looks after_ fit

-- ---- a history

-- at every moment
pub fit_always : (s : Setup) (h : List Event) (c : CallName) → FitsSetup s → s.prompt ≡ false → Legal s h
    → IfSome (call_at (looks s h) c) (λ k. IsFit (looks s h).now k.looks)
fit_always s [] c fits steady legal = tt
fit_always s (e ∷ h) c fits steady legal =
    let l : Looks = looks s h in
    let low : l.now ≤ (after s e l).now =
    (let up = clock-later s.kind s l e legal.0 in let same = now-after s l e in omega (arith, up, same)) in
    later-fit l.now (looks s (e ∷ h)).now (call_at (looks s (e ∷ h)) c) low
    (step-fit s l e c (call_at l c) (call_at (looks s (e ∷ h)) c) fits steady (each_step s h e c fits legal)
    (fit_always s h c fits steady legal.1))
