-- What datagrams that are delivered leave of one call of a node: it heard something now, or its end is as it was.
use Rattle.std.proofs.Common.{◌≡◌, ◌⊎◌, ℕ, Bool, true, false, List, [], ◌∷◌, Option, Some, None, refl, inl, inr, ◌∙◌}
use Rattle.std.proofs.Common.{ap, sym, subst, ⊎_elim}
use Rattle.std.specs.Prelude.{slice_get}
use Rattle.rx_model.specs.declared.answers.Took.{Took}
use Rattle.rx_model.specs.declared.event.Event.{Event}
use Rattle.rx_model.specs.declared.event.Event.TheVariants as events
use Rattle.rx_model.specs.declared.names.CallName.{CallName}
use Rattle.rx_model.specs.declared.names.Host.{Host}
use Rattle.rx_model.specs.Names.{same_host}
use Rattle.rx_rules.specs.After.{looks}
use Rattle.rx_rules.specs.CallLooks.{CallLooks}
use Rattle.rx_rules.specs.Judging.{took_of}
use Rattle.rx_rules.specs.Looks.{CallRecord, Looks, call_at}
use Rattle.rx_rules.specs.Rules.{Legal}
use Rattle.rx_rules.specs.Setup.{FitsSetup, Setup}
use Rattle.rx_history.proofs.Moments.{now-after}
use Rattle.rx_history.specs.Sides.{Node, side}
use Rattle.rx_law.specs.Worlds.{Datagram}
use Rattle.rx_between.specs.Told.{StartsNoneAnew}
use Rattle.rx_between.proofs.Each.EachEvent.{each_step}
use Rattle.rx_between.proofs.Each.EachStep.{CallStep, EndStep}
use Rattle.rx_between.proofs.Each.EachStep as steps
use Rattle.rx_between.proofs.Onward.{NoneAnew}
use Rattle.rx_plan.specs.Network.{delivers}
use Rattle.rx_plan.specs.Parts.{each}
use Rattle.rx_plan.specs.Stages.{Stage}
use Rattle.rx_rounds.proofs.Rounded.{Made}
use Rattle.rx_closing.proofs.Far.FarGrows.{none_anew}
use Rattle.rx_closing.proofs.Living.LifeBetween.{anew_before}
use Rattle.rx_closing.proofs.Messages.Delivered.{DeliveredBy, delivers_first, delivers_grow, delivers_none, takes_from}
use Rattle.rx_closing.proofs.Messages.HearsCalls.{heard_own}
use Rattle.rx_history.proofs.Laws.EnteredLaw.{legal-before}
use Rattle.rx_law.proofs.Law.{side-split}

-- an end that heard something at a moment, or is as it was
abbrev pub HeardOr : ℕ → CallLooks → CallLooks → Type 0
HeardOr now a b = (b ≡ a) ⊎ (b.heard ≡ now)

-- a call of which this holds
pub record HeardCall (now : ℕ) (a : CallRecord) (o : Option CallRecord) : Type 0 where
  pub call : CallRecord
  pub there : o ≡ Some call
  pub heard : HeardOr now a.looks call.looks

end_heard : (s : Setup) (l : Looks) (from : Host) (bytes : List ℕ) (took : Took) (c : CallName) (a b : CallLooks)
    → EndStep s l (events.Taken from bytes took) c a b → HeardOr l.now a b
end_heard s l from bytes took c a b (steps.stays is) = inl is
end_heard s l from bytes took c a b (steps.takes t) =
    inr (ap (λ (k : CallLooks). k.heard) t.is ∙ heard_own t.view t.got t.message a t.own t.row ∙ t.view_is.now)
end_heard s l from bytes took c a b (steps.gives g) = absurd (let is = g.event in cc (is))
end_heard s l from bytes took c a b (steps.writes offered got block is same) = absurd (cc (is))
end_heard s l from bytes took c a b (steps.reads most got block is same) = absurd (cc (is))
end_heard s l from bytes took c a b (steps.shuts is same) = absurd (cc (is))
end_heard s l from bytes took c a b (steps.finishes code is zero same) = absurd (cc (is))

call_heard : (s : Setup) (l : Looks) (from : Host) (bytes : List ℕ) (took : Took) (c : CallName) (a : CallRecord)
    (o : Option CallRecord) → NoneAnew s l (events.Taken from bytes took) c (Some a)
    → CallStep s l (events.Taken from bytes took) c (Some a) o → HeardCall l.now a o
call_heard s l from bytes took c a None anew step = absurd step
call_heard s l from bytes took c a (Some b) anew (inl goes) =
    record { call = b; there = refl; heard = end_heard s l from bytes took c a.looks b.looks goes.end }
call_heard s l from bytes took c a (Some b) anew (inr starts) =
    absurd (let no : ◌≡◌ {A = Option CallRecord} (Some a) None = anew b starts in cc (no))

module _ (n : Node) (j : ℕ) (c : CallName) (fits : FitsSetup n.setup) where
  abbrev at_stage : Stage → Looks
  at_stage u = looks n.setup (side j u.history)

  -- one that is delivered
  heard_one : (d : Datagram) (s t : Stage) → slice_get s.nodes j ≡ Some n → DeliveredBy d s t
      → Legal n.setup (side j t.history) → StartsNoneAnew n.setup (side j t.history) c → (a : CallRecord)
      → call_at (at_stage s) c ≡ Some a
      → HeardCall (at_stage s).now a (call_at (at_stage t) c) × ((at_stage t).now ≡ (at_stage s).now)
  heard_one d s t there f legal anew a at = by (same_host d.to n.host) refl
    where
      e : Event
      e = takes_from n.setup d (at_stage s)

      taken : side j t.history ≡ e ∷ side j s.history
          → HeardCall (at_stage s).now a (call_at (at_stage t) c) × ((at_stage t).now ≡ (at_stage s).now)
      taken own =
          (let legal_ : Legal n.setup (e ∷ side j s.history) = subst (Legal n.setup) own legal in
          let anew_ : StartsNoneAnew n.setup (e ∷ side j s.history) c =
          subst (λ (es : List Event). StartsNoneAnew n.setup es c) own anew in
          let none : NoneAnew n.setup (at_stage s) e c (Some a) =
          subst (NoneAnew n.setup (at_stage s) e c) at (none_anew n.setup e (side j s.history) c fits legal_ anew_) in
          let step : CallStep n.setup (at_stage s) e c (Some a) (call_at (looks n.setup (e ∷ side j s.history)) c) =
          subst (λ (o : Option CallRecord). CallStep n.setup (at_stage s) e c o
          (call_at (looks n.setup (e ∷ side j s.history)) c)) at (each_step n.setup (side j s.history) e c fits legal_)
          in (
            subst (λ (es : List Event). HeardCall (at_stage s).now a (call_at (looks n.setup es) c)) (sym own)
                (call_heard n.setup (at_stage s) d.from d.bytes (took_of n.setup (at_stage s) d.from d.bytes) c a
                (call_at (looks n.setup (e ∷ side j s.history)) c) none step),
            ap (λ (es : List Event). (looks n.setup es).now) own ∙ now-after n.setup (at_stage s) e,
          ))

      by : (b : Bool) → same_host d.to n.host ≡ b
          → HeardCall (at_stage s).now a (call_at (at_stage t) c) × ((at_stage t).now ≡ (at_stage s).now)
      by true is = taken ((f.comes j n there).takes is).own
      by false is =
          (let same : at_stage t ≡ at_stage s = ap (looks n.setup) ((f.comes j n there).passes is) in (
            record { call = a; there = ap (λ (l : Looks). call_at l c) same ∙ at; heard = inl refl },
            ap (λ (l : Looks). l.now) same,
          ))

  legal_then : (s t : Stage) (ds : List Datagram) → Made (each delivers ds) s t → Legal n.setup (side j t.history)
      → Legal n.setup (side j s.history)
  legal_then s t ds made legal =
      (let g = delivers_grow ds s t made in
      legal-before n.setup (side j g.more) (side j s.history)
      (subst (Legal n.setup) (ap (side j) g.is ∙ side-split j g.more s.history) legal))

  anew_then : (s t : Stage) (ds : List Datagram) → Made (each delivers ds) s t
      → StartsNoneAnew n.setup (side j t.history) c → StartsNoneAnew n.setup (side j s.history) c
  anew_then s t ds made anew =
      (let g = delivers_grow ds s t made in
      anew_before n.setup (side j g.more) (side j s.history) c
      (subst (λ (es : List Event). StartsNoneAnew n.setup es c) (ap (side j) g.is ∙ side-split j g.more s.history)
      anew))

  -- all of them
  pub heard_or_same : (ds : List Datagram) (s t : Stage) → slice_get s.nodes j ≡ Some n → Made (each delivers ds) s t
      → Legal n.setup (side j t.history) → StartsNoneAnew n.setup (side j t.history) c → (a : CallRecord)
      → call_at (at_stage s) c ≡ Some a → HeardCall (at_stage s).now a (call_at (at_stage t) c)
  heard_or_same [] s t there made legal anew a at =
      record {
        call = a;
        there = ap (λ (u : Stage). call_at (at_stage u) c) (delivers_none s t made) ∙ at;
        heard = inl refl;
      }
  heard_or_same (d ∷ ds) s t there made legal anew a at =
      (let f = delivers_first d ds s t made in
      let o = heard_one d s f.between there f.first (legal_then f.between t ds f.others legal)
      (anew_then f.between t ds f.others anew) a at in
      let r = heard_or_same ds f.between t (ap (λ (u : Stage). slice_get u.nodes j) f.first.rest ∙ there) f.others
      legal anew o.0.call o.0.there in
      record {
        call = r.call;
        there = r.there;
        heard = ⊎_elim
            (λ (same : r.call.looks ≡ o.0.call.looks). ⊎_elim
            (λ (first : o.0.call.looks ≡ a.looks). inl (same ∙ first))
            (λ (heard : o.0.call.looks.heard ≡ (at_stage s).now).
            inr (ap (λ (k : CallLooks). k.heard) same ∙ heard)) o.0.heard)
            (λ (heard : r.call.looks.heard ≡ (at_stage f.between).now). inr (heard ∙ o.1)) r.heard;
      })
