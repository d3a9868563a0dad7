-- The deliveries of a round leave when an end of a call gave something the last time.
use Rattle.std.proofs.Common.{◌≡◌, ◌++◌, ℕ, Bool, true, false, List, [], ◌∷◌, Option, Some, None, refl, inl, inr, ◌∙◌}
use Rattle.std.proofs.Common.{ap, sym, subst}
use Rattle.std.specs.Prelude.{slice_get}
use Rattle.rx_model.specs.declared.answers.Took.{Took}
use Rattle.rx_model.specs.declared.event.Event.{Event}
use Rattle.rx_model.specs.declared.event.Event.TheVariants as events
use Rattle.rx_model.specs.declared.names.CallName.{CallName}
use Rattle.rx_model.specs.declared.names.Host.{Host}
use Rattle.rx_model.specs.Names.{same_host}
use Rattle.rx_rules.specs.After.{looks}
use Rattle.rx_rules.specs.CallLooks.{CallLooks}
use Rattle.rx_rules.specs.Judging.{took_of}
use Rattle.rx_rules.specs.Looks.{CallRecord, Looks, call_at}
use Rattle.rx_rules.specs.Rules.{Legal}
use Rattle.rx_rules.specs.Setup.{FitsSetup, Setup}
use Rattle.rx_history.specs.Sides.{Node, side}
use Rattle.rx_law.specs.Worlds.{Datagram}
use Rattle.rx_between.specs.Told.{StartsNoneAnew}
use Rattle.rx_between.proofs.Each.EachEvent.{each_step}
use Rattle.rx_between.proofs.Each.EachStep.{CallStep, EndStep, finishes, gives, reads, shuts, stays, takes, writes}
use Rattle.rx_between.proofs.Onward.{NoneAnew}
use Rattle.rx_plan.specs.Network.{delivers}
use Rattle.rx_plan.specs.Parts.{each}
use Rattle.rx_plan.specs.Stages.{Stage}
use Rattle.rx_rounds.proofs.Rounded.{Made}
use Rattle.rx_closing.proofs.Far.FarGrows.{none_anew}
use Rattle.rx_closing.proofs.Living.LifeBetween.{anew_before}
use Rattle.rx_closing.proofs.Messages.Delivered.{DeliveredBy, FirstOf, GrewBy, delivers_first, delivers_grow}
use Rattle.rx_closing.proofs.Messages.Delivered.{delivers_none, takes_from}
use Rattle.rx_closing.proofs.Rounds.SpokeRises.{taken-spoke}
use Rattle.rx_history.proofs.Laws.EnteredLaw.{legal-before}
use Rattle.rx_law.proofs.Law.{side-split}

-- ---- one datagram

end_spoke : (s : Setup) (l : Looks) (from : Host) (bytes : List ℕ) (took : Took) (c : CallName) (a b : CallLooks)
    → EndStep s l (events.Taken from bytes took) c a b → b.spoke ≡ a.spoke
end_spoke s l from bytes took c a b (stays same) = ap (λ (k : CallLooks). k.spoke) same
end_spoke s l from bytes took c a b (takes t) =
    ap (λ (k : CallLooks). k.spoke) t.is ∙ taken-spoke t.view t.got t.message a
end_spoke s l from bytes took c a b (gives g) = absurd (let is = g.event in cc (is))
end_spoke s l from bytes took c a b (writes offered got block is same) = absurd (cc (is))
end_spoke s l from bytes took c a b (reads most got block is same) = absurd (cc (is))
end_spoke s l from bytes took c a b (shuts is same) = absurd (cc (is))
end_spoke s l from bytes took c a b (finishes code is zero_ same) = absurd (cc (is))

-- a call that gave something the last time when this one did
pub record SameSpoke (a : CallRecord) (o : Option CallRecord) : Type 0 where
  pub call : CallRecord
  pub there : o ≡ Some call
  pub spoke : call.looks.spoke ≡ a.looks.spoke

call_spoke : (s : Setup) (l : Looks) (from : Host) (bytes : List ℕ) (took : Took) (c : CallName) (a : CallRecord)
    (o : Option CallRecord) → NoneAnew s l (events.Taken from bytes took) c (Some a)
    → CallStep s l (events.Taken from bytes took) c (Some a) o → SameSpoke a o
call_spoke s l from bytes took c a None anew step = absurd step
call_spoke s l from bytes took c a (Some b) anew (inl goes) =
    record { call = b; there = refl; spoke = end_spoke s l from bytes took c a.looks b.looks goes.end }
call_spoke s l from bytes took c a (Some b) anew (inr starts) =
    absurd (let no : ◌≡◌ {A = Option CallRecord} (Some a) None = anew b starts in cc (no))

-- ---- all of them

module _ (n : Node) (j : ℕ) (c : CallName) (fits : FitsSetup n.setup) where
  abbrev at_stage : Stage → Looks
  at_stage u = looks n.setup (side j u.history)

  -- one that is delivered
  one_spoke : (d : Datagram) (s t : Stage) → slice_get s.nodes j ≡ Some n → DeliveredBy d s t
      → Legal n.setup (side j t.history) → StartsNoneAnew n.setup (side j t.history) c → (a : CallRecord)
      → call_at (at_stage s) c ≡ Some a → SameSpoke a (call_at (at_stage t) c)
  one_spoke d s t there f legal anew a at = by (same_host d.to n.host) refl
    where
      e : Event
      e = takes_from n.setup d (at_stage s)

      by : (q : Bool) → same_host d.to n.host ≡ q → SameSpoke a (call_at (at_stage t) c)
      by true is =
          (let own : side j t.history ≡ e ∷ side j s.history = ((f.comes j n there).takes is).own in
          let legal_ : Legal n.setup (e ∷ side j s.history) = subst (Legal n.setup) own legal in
          let anew_ : StartsNoneAnew n.setup (e ∷ side j s.history) c =
          subst (λ (es : List Event). StartsNoneAnew n.setup es c) own anew in
          let none : NoneAnew n.setup (at_stage s) e c (Some a) =
          subst (NoneAnew n.setup (at_stage s) e c) at (none_anew n.setup e (side j s.history) c fits legal_ anew_) in
          let step : CallStep n.setup (at_stage s) e c (Some a) (call_at (looks n.setup (e ∷ side j s.history)) c) =
          subst (λ (o : Option CallRecord). CallStep n.setup (at_stage s) e c o
          (call_at (looks n.setup (e ∷ side j s.history)) c)) at (each_step n.setup (side j s.history) e c fits legal_)
          in
          subst (λ (es : List Event). SameSpoke a (call_at (looks n.setup es) c)) (sym own)
          (call_spoke n.setup (at_stage s) d.from d.bytes (took_of n.setup (at_stage s) d.from d.bytes) c a
          (call_at (looks n.setup (e ∷ side j s.history)) c) none step))
      by false is =
          (let same : at_stage t ≡ at_stage s = ap (looks n.setup) ((f.comes j n there).passes is) in
          record { call = a; there = ap (λ (l : Looks). call_at l c) same ∙ at; spoke = refl })

  -- all of them
  pub delivered_spoke : (ds : List Datagram) (s t : Stage) → slice_get s.nodes j ≡ Some n
      → Made (each delivers ds) s t → Legal n.setup (side j t.history)
      → StartsNoneAnew n.setup (side j t.history) c → (a : CallRecord) → call_at (at_stage s) c ≡ Some a
      → SameSpoke a (call_at (at_stage t) c)
  delivered_spoke [] s t there made legal anew a at =
      record {
        call = a;
        there = ap (λ (u : Stage). call_at (at_stage u) c) (delivers_none s t made) ∙ at;
        spoke = refl;
      }
  delivered_spoke (d ∷ ds) s t there made legal anew a at =
      (let f : FirstOf d ds s t = delivers_first d ds s t made in
      let grew : GrewBy f.between t = delivers_grow ds f.between t f.others in
      let rest : side j t.history ≡ side j grew.more ++ side j f.between.history =
      ap (side j) grew.is ∙ side-split j grew.more f.between.history in
      let one : SameSpoke a (call_at (at_stage f.between) c) =
      one_spoke d s f.between there f.first
      (legal-before n.setup (side j grew.more) (side j f.between.history) (subst (Legal n.setup) rest legal))
      (anew_before n.setup (side j grew.more) (side j f.between.history) c
      (subst (λ (es : List Event). StartsNoneAnew n.setup es c) rest anew)) a at in
      let more : SameSpoke one.call (call_at (at_stage t) c) =
      delivered_spoke ds f.between t (ap (λ (u : Stage). slice_get u.nodes j) f.first.rest ∙ there) f.others legal anew
      one.call one.there in
      record { call = more.call; there = more.there; spoke = more.spoke ∙ one.spoke })
