-- Datagrams that are delivered one after another, as one call of a node has them: those that say nothing of it leave
-- its end as it was, and its end takes each of its own, while its life stays.
use Rattle.std.proofs.Common.{◌≡◌, ◌++◌, ℕ, Bool, true, false, List, [], ◌∷◌, Option, Some, None, Ok, refl, inl, inr}
use Rattle.std.proofs.Common.{◌∙◌, ap, sym, subst, append_assoc}
use Rattle.std.specs.Prelude.{slice_get}
use Rattle.rx_model.specs.declared.answers.Took.{Took}
use Rattle.rx_model.specs.declared.answers.Took.TheVariants as tooks
use Rattle.rx_model.specs.declared.event.Event.{Event}
use Rattle.rx_model.specs.declared.event.Event.TheVariants as events
use Rattle.rx_model.specs.declared.event.Noted.{Noted}
use Rattle.rx_model.specs.declared.names.CallName.{CallName}
use Rattle.rx_model.specs.declared.names.Host.{Host}
use Rattle.rx_model.specs.Message.{Message}
use Rattle.rx_model.specs.Names.{connection_of, same_host}
use Rattle.rx_model.specs.Reading.{reading_of}
use Rattle.rx_model.proofs.NameLaws.{host_is}
use Rattle.rx_rules.specs.After.{looks}
use Rattle.rx_rules.specs.CallLooks.{CallLooks, after_taken}
use Rattle.rx_rules.specs.Classes.{null}
use Rattle.rx_rules.specs.Judging.{is_peer, outer_row, took_of}
use Rattle.rx_rules.specs.Life.{is_active}
use Rattle.rx_rules.specs.Life as lives
use Rattle.rx_rules.specs.Looks.{CallRecord, Looks, call_at, conn_at}
use Rattle.rx_rules.specs.Rules.{Legal}
use Rattle.rx_rules.specs.Setup.{FitsSetup, Setup, named}
use Rattle.rx_history.proofs.Moments.{now-after}
use Rattle.rx_history.specs.Sides.{Node, side}
use Rattle.rx_law.specs.Worlds.{Datagram}
use Rattle.rx_wire.specs.Turns.{noted}
use Rattle.rx_between.specs.Agreed.{SenseAt}
use Rattle.rx_between.specs.Told.{StartsNoneAnew}
use Rattle.rx_between.proofs.Each.EachEvent.{each_step}
use Rattle.rx_between.proofs.Each.EachStep.{CallStep, EndStep, Judges}
use Rattle.rx_between.proofs.Each.EachStep as steps
use Rattle.rx_between.proofs.Onward.{NoneAnew}
use Rattle.rx_plan.specs.Network.{delivers}
use Rattle.rx_plan.specs.Parts.{each}
use Rattle.rx_plan.specs.Stages.{Stage}
use Rattle.rx_rounds.proofs.RoundParts.{delivers_split}
use Rattle.rx_rounds.proofs.Rounded.{Made}
use Rattle.rx_rounds.proofs.Two.{sent}
use Rattle.rx_closing.specs.Living.{looks_of}
use Rattle.rx_closing.proofs.Ends.RoomLaws.{active_lives}
use Rattle.rx_closing.proofs.Far.FarGrows.{none_anew}
use Rattle.rx_closing.proofs.Living.LifeBetween.{anew_before, life_at}
use Rattle.rx_closing.proofs.Messages.Delivered.{DeliveredBy, delivers_first, delivers_grow, delivers_none, takes_from}
use Rattle.rx_closing.proofs.Messages.Lasts.{live_last}
use Rattle.rx_closing.proofs.Messages.OwnTakes.{AllTaken, TookAll, all_taken, at_work, settles}
use Rattle.rx_closing.proofs.Messages.Rows.{IsLast}
use Rattle.rx_closing.proofs.Messages.Sifted.{Sifted, sifts_none, sifts_other, sifts_own}
use Rattle.rx_closing.proofs.Rounds.Chains.{Adds}
use Rattle.rx_closing.proofs.Steps.{TakesIn, takes_none, takes_one}
use Rattle.rx_history.proofs.Laws.EnteredLaw.{legal-before}
use Rattle.rx_law.proofs.Law.{side-split}
use Rattle.rx_history.proofs.Plain.PlainBodies.{IsSent}

-- ---- a datagram that isn't a call's

-- a node that lets its message through reads it as no message of this call
abbrev pub IsNotFor : Node → CallName → Datagram → Type 0
IsNotFor n c d =
    (l : Looks) (m : Message) → d.to ≡ n.host → reading_of d.bytes ≡ Ok m
    → outer_row n.setup n.setup.kind l d.from m ≡ None → named n.setup d.from m ≡ c → ⊥

-- a call as it was, but for its life
pub record SameEnd (a : CallRecord) (o : Option CallRecord) : Type 0 where
  pub call : CallRecord
  pub there : o ≡ Some call
  pub looks : call.looks ≡ a.looks

-- an event that takes a datagram of which no message is the call's leaves its end
end_stays : (s : Setup) (l : Looks) (from : Host) (bytes : List ℕ) (took : Took) (c : CallName) (a b : CallLooks)
    → ((m : Message) (got : Took) → Judges s l (events.Taken from bytes took) c m got → ⊥)
    → EndStep s l (events.Taken from bytes took) c a b → b ≡ a
end_stays s l from bytes took c a b none (steps.stays is) = is
end_stays s l from bytes took c a b none (steps.takes t) = absurd (none t.message t.got t.judges)
end_stays s l from bytes took c a b none (steps.gives g) = absurd (let is = g.event in cc (is))
end_stays s l from bytes took c a b none (steps.writes offered got block is same) = absurd (cc (is))
end_stays s l from bytes took c a b none (steps.reads most got block is same) = absurd (cc (is))
end_stays s l from bytes took c a b none (steps.shuts is same) = absurd (cc (is))
end_stays s l from bytes took c a b none (steps.finishes code is zero same) = absurd (cc (is))

call_stays : (s : Setup) (l : Looks) (from : Host) (bytes : List ℕ) (took : Took) (c : CallName) (a : CallRecord)
    (o : Option CallRecord) → ((m : Message) (got : Took) → Judges s l (events.Taken from bytes took) c m got → ⊥)
    → NoneAnew s l (events.Taken from bytes took) c (Some a)
    → CallStep s l (events.Taken from bytes took) c (Some a) o → SameEnd a o
call_stays s l from bytes took c a None none anew step = absurd step
call_stays s l from bytes took c a (Some b) none anew (inl goes) =
    record { call = b; there = refl; looks = end_stays s l from bytes took c a.looks b.looks none goes.end }
call_stays s l from bytes took c a (Some b) none anew (inr starts) =
    absurd (let no : ◌≡◌ {A = Option CallRecord} (Some a) None = anew b starts in cc (no))

module _ (n : Node) (j : ℕ) (c : CallName) (fits : FitsSetup n.setup) where
  abbrev at_stage : Stage → Looks
  at_stage u = looks n.setup (side j u.history)

  -- one that is delivered
  pub leaves_one : (d : Datagram) (s t : Stage) → slice_get s.nodes j ≡ Some n → DeliveredBy d s t → IsNotFor n c d
      → Legal n.setup (side j t.history) → StartsNoneAnew n.setup (side j t.history) c → (a : CallRecord)
      → call_at (at_stage s) c ≡ Some a
      → SameEnd a (call_at (at_stage t) c) × ((at_stage t).now ≡ (at_stage s).now)
  leaves_one d s t there f other legal anew a at = by (same_host d.to n.host) refl
    where
      e : Event
      e = takes_from n.setup d (at_stage s)

      taken : same_host d.to n.host ≡ true → side j t.history ≡ e ∷ side j s.history
          → SameEnd a (call_at (at_stage t) c) × ((at_stage t).now ≡ (at_stage s).now)
      taken comes own =
          (let legal_ : Legal n.setup (e ∷ side j s.history) = subst (Legal n.setup) own legal in
          let anew_ : StartsNoneAnew n.setup (e ∷ side j s.history) c =
          subst (λ (es : List Event). StartsNoneAnew n.setup es c) own anew in
          let none : NoneAnew n.setup (at_stage s) e c (Some a) =
          subst (NoneAnew n.setup (at_stage s) e c) at (none_anew n.setup e (side j s.history) c fits legal_ anew_) in
          let step : CallStep n.setup (at_stage s) e c (Some a) (call_at (looks n.setup (e ∷ side j s.history)) c) =
          subst (λ (o : Option CallRecord). CallStep n.setup (at_stage s) e c o
          (call_at (looks n.setup (e ∷ side j s.history)) c)) at (each_step n.setup (side j s.history) e c fits legal_)
          in (
            subst (λ (es : List Event). SameEnd a (call_at (looks n.setup es) c)) (sym own)
                (call_stays n.setup (at_stage s) d.from d.bytes (took_of n.setup (at_stage s) d.from d.bytes) c a
                (call_at (looks n.setup (e ∷ side j s.history)) c) (λ m got judges. never m got judges) none step),
            ap (λ (es : List Event). (looks n.setup es).now) own ∙ now-after n.setup (at_stage s) e,
          ))
        where
          never : (m : Message) (got : Took) → Judges n.setup (at_stage s) e c m got → ⊥
          never m got judges =
              (let from : judges.from ≡ d.from = (let is = judges.is in cc (is)) in
              let bytes : judges.bytes ≡ d.bytes = (let is = judges.is in cc (is)) in
              other (at_stage s) m (host_is d.to n.host comes)
              (subst (λ (bs : List ℕ). reading_of bs ≡ Ok m) bytes judges.reads)
              (subst (λ (x : Host). outer_row n.setup n.setup.kind (at_stage s) x m ≡ None) from judges.front)
              (subst (λ (x : Host). named n.setup x m ≡ c) from judges.name))

      by : (b : Bool) → same_host d.to n.host ≡ b
          → SameEnd a (call_at (at_stage t) c) × ((at_stage t).now ≡ (at_stage s).now)
      by true is = taken is ((f.comes j n there).takes is).own
      by false is =
          (let same : at_stage t ≡ at_stage s = ap (looks n.setup) ((f.comes j n there).passes is) in (
            record { call = a; there = ap (λ (l : Looks). call_at l c) same ∙ at; looks = refl },
            ap (λ (l : Looks). l.now) same,
          ))

-- ---- among a call's own

takes_then : (s : Setup) (now : ℕ) (a b d : CallLooks) (ms ns : List Message) → TakesIn s now a ms b
    → TakesIn s now b ns d → TakesIn s now a (ms ++ ns) d
takes_then s now a b d ms ns (takes_none x) rest = rest
takes_then s now a b d ms ns (takes_one x f m more v got view row sense others) rest =
    takes_one x d m (more ++ ns) v got view row sense
    (takes_then s now (after_taken v got m x) f d more ns others rest)

module _ (n : Node) (j : ℕ) (c : CallName) (open_ : n.setup.class ≡ null) (from to : Host) (Own : Message → Type 0)
    (here : same_host to n.host ≡ true)
    (name : (m : Message) → Own m → named n.setup from m ≡ c)
    (stream : (m : Message) → Own m → IsSent m.body)
    (Open : Looks → Type 0)
    (lasts : (l m : Looks)
    → ((host : Host) → is_peer host (conn_at m (connection_of c)) ≡ is_peer host (conn_at l (connection_of c)))
    → Open l → Open m)
    (front : (l : Looks) (m : Message) → Own m → Open l → outer_row n.setup n.setup.kind l from m ≡ None)
    (h : List Noted)
    (sense : (bytes : List ℕ) (m : Message) (got : Took) (later at : List Noted) → Own m
    → h ≡ later ++ noted j (events.Taken from bytes got) ∷ at → reading_of bytes ≡ Ok m → (got ≡ tooks.Foreign → ⊥)
    → outer_row n.setup n.setup.kind (looks n.setup (side j at)) from m ≡ None
    → SenseAt n.setup m (call_at (looks n.setup (side j at)) c))
    (fits : FitsSetup n.setup) (legal : Legal n.setup (side j h)) (anew : StartsNoneAnew n.setup (side j h) c)
    (opens : (u : Stage) → Adds u.history h → (r : CallRecord) → IsLast (looks n.setup (side j u.history)) c r
    → Open (looks n.setup (side j u.history)))
    (Else : Datagram → Type 0) (other : (d : Datagram) → Else d → IsNotFor n c d) where
  legal_of : (u : Stage) → Adds u.history h → Legal n.setup (side j u.history)
  legal_of u a =
      legal-before n.setup (side j a.more) (side j u.history)
      (subst (Legal n.setup) (ap (side j) a.is ∙ side-split j a.more u.history) legal)

  anew_of : (u : Stage) → Adds u.history h → StartsNoneAnew n.setup (side j u.history) c
  anew_of u a =
      anew_before n.setup (side j a.more) (side j u.history) c
      (subst (λ (es : List Event). StartsNoneAnew n.setup es c) (ap (side j) a.is ∙ side-split j a.more u.history)
      anew)

  one_record : (a b : CallRecord) (o : Option CallRecord) → o ≡ Some a → o ≡ Some b → a ≡ b
  one_record a b o p q = (let both : ◌≡◌ {A = Option CallRecord} (Some a) (Some b) = sym p ∙ q in cc (both))

  -- one of its own
  took_first : (l q : Looks) (a e : CallRecord) (m : Message) → AllTaken n.setup c Open l a (m ∷ []) q
      → call_at q c ≡ Some e → e.life ≡ a.life → is_active a.life ≡ true
      → TakesIn n.setup l.now a.looks (m ∷ []) e.looks
  took_first l q a e m r there same active = of r.took
    where
      one : r.call ≡ e
      one = one_record r.call e (call_at q c) r.last.there there

      of : TookAll n.setup l.now a (m ∷ []) r.call → TakesIn n.setup l.now a.looks (m ∷ []) e.looks
      of (at_work f takes is) =
          subst (λ (x : CallLooks). TakesIn n.setup l.now a.looks (m ∷ []) x)
          (ap (λ (x : CallRecord). x.looks) (sym is ∙ one)) takes
      of (settles ms ns f are takes finished all is) =
          absurd (let over : lives.Over None ≡ a.life = ap (λ (x : CallRecord). x.life) (sym is ∙ one) ∙ same in
          let never : false ≡ true = ap is_active over ∙ active in cc (never))

  -- its end takes each
  pub takes_all : (ds : List Datagram) (ms : List Message) → Sifted Own Else from to ds ms → (s t : Stage)
      → slice_get s.nodes j ≡ Some n → Made (each delivers ds) s t → Adds t.history h → (a b : CallRecord)
      → call_at (looks_of s j n) c ≡ Some a → is_active a.life ≡ true → call_at (looks_of t j n) c ≡ Some b
      → b.life ≡ a.life → TakesIn n.setup (looks_of s j n).now a.looks ms b.looks
  takes_all ds ms sifts_none s t there made till a b at active behind same =
      (let one : a ≡ b =
      one_record a b (call_at (looks_of s j n) c) at
      (ap (λ (u : Stage). call_at (looks_of u j n) c) (sym (delivers_none s t made)) ∙ behind) in
      subst (λ (x : CallRecord). TakesIn n.setup (looks_of s j n).now a.looks [] x.looks) one
      (takes_none a.looks))
  takes_all ds ms (sifts_own bytes m ds1 ms1 reads own rest) s t there made till a b at active behind same =
      (let p = delivers_split (sent from to bytes ∷ []) ds1 s t made in
      own_first bytes m ds1 ms1 reads own p.0 s t there p.1 p.2 till a b at active behind same
      (λ e there_ at_ active_ same_. takes_all ds1 ms1 rest p.0 t there_ p.2 till e b at_ active_ behind same_))
    where
      own_first : (bytes : List ℕ) (m : Message) (ds1 : List Datagram) (ms1 : List Message) → reading_of bytes ≡ Ok m
          → Own m → (u s t : Stage) → slice_get s.nodes j ≡ Some n
          → Made (each delivers (sent from to bytes ∷ [])) s u → Made (each delivers ds1) u t → Adds t.history h
          → (a b : CallRecord) → call_at (looks_of s j n) c ≡ Some a → is_active a.life ≡ true
          → call_at (looks_of t j n) c ≡ Some b → b.life ≡ a.life
          → ((e : CallRecord) → slice_get u.nodes j ≡ Some n → call_at (looks_of u j n) c ≡ Some e
          → is_active e.life ≡ true → b.life ≡ e.life → TakesIn n.setup (looks_of u j n).now e.looks ms1 b.looks)
          → TakesIn n.setup (looks_of s j n).now a.looks (m ∷ ms1) b.looks
      own_first bytes m ds1 ms1 reads own u s t there first others till a b at active behind same onward =
          (let g0 = delivers_grow (sent from to bytes ∷ []) s u first in
          let g1 = delivers_grow ds1 u t others in
          let front_ : Adds s.history u.history = record { more = g0.more; is = g0.is } in
          let back_ : Adds u.history t.history = record { more = g1.more; is = g1.is } in
          let grown : h ≡ (till.more ++ g1.more) ++ u.history =
          till.is ∙ ap (λ (es : List Noted). till.more ++ es) g1.is ∙ sym (append_assoc till.more g1.more u.history) in
          let till_s : Adds s.history h = record {
            more = (till.more ++ g1.more) ++ g0.more;
            is =
                grown ∙ ap (λ (es : List Noted). (till.more ++ g1.more) ++ es) g0.is
                ∙ sym (append_assoc (till.more ++ g1.more) g0.more s.history);
          } in
          let q = life_at n j c s u t front_ back_ fits (legal_of t till) (anew_of t till) a b at behind same in
          let last : IsLast (looks_of s j n) c a =
          live_last n.setup (side j s.history) c a fits (legal_of s till_s) at (active_lives a.life active) in
          let r : AllTaken n.setup c Open (looks_of s j n) a (m ∷ []) (looks_of u j n) =
          all_taken n j c open_ from to Own here name stream Open lasts front h sense (sent from to bytes ∷ [])
          (m ∷ []) (sifts_own bytes m [] [] reads own sifts_none) s u there first (till.more ++ g1.more) grown a last
          active (opens s till_s a last) in
          let one : TakesIn n.setup (looks_of s j n).now a.looks (m ∷ []) q.0.looks =
          took_first (looks_of s j n) (looks_of u j n) a q.0 m r q.1 q.2 active in
          let more : TakesIn n.setup (looks_of u j n).now q.0.looks ms1 b.looks =
          onward q.0 (ap (λ (w : Stage). slice_get w.nodes j) g0.rest ∙ there) q.1 (ap is_active q.2 ∙ active)
          (same ∙ sym q.2) in
          takes_then n.setup (looks_of s j n).now a.looks q.0.looks b.looks (m ∷ []) ms1 one
          (subst (λ (now : ℕ). TakesIn n.setup now q.0.looks ms1 b.looks) r.now more))
  takes_all ds ms (sifts_other d ds1 ms1 else_ rest) s t there made till a b at active behind same =
      (let f = delivers_first d ds1 s t made in
      other_first d ds1 ms1 else_ f.between s t there f.first f.others till a b at active behind same
      (λ e there_ at_ active_ same_.
      takes_all ds1 ms1 rest f.between t there_ f.others till e b at_ active_ behind same_))
    where
      other_first : (d : Datagram) (ds1 : List Datagram) (ms1 : List Message) → Else d → (u s t : Stage)
          → slice_get s.nodes j ≡ Some n → DeliveredBy d s u → Made (each delivers ds1) u t → Adds t.history h
          → (a b : CallRecord) → call_at (looks_of s j n) c ≡ Some a → is_active a.life ≡ true
          → call_at (looks_of t j n) c ≡ Some b → b.life ≡ a.life
          → ((e : CallRecord) → slice_get u.nodes j ≡ Some n → call_at (looks_of u j n) c ≡ Some e
          → is_active e.life ≡ true → b.life ≡ e.life → TakesIn n.setup (looks_of u j n).now e.looks ms1 b.looks)
          → TakesIn n.setup (looks_of s j n).now a.looks ms1 b.looks
      other_first d ds1 ms1 else_ u s t there first others till a b at active behind same onward =
          (let g1 = delivers_grow ds1 u t others in
          let front_ : Adds s.history u.history = record { more = first.more; is = first.grown } in
          let back_ : Adds u.history t.history = record { more = g1.more; is = g1.is } in
          let till_u : Adds u.history h = record {
            more = till.more ++ g1.more;
            is =
                till.is ∙ ap (λ (es : List Noted). till.more ++ es) g1.is
                ∙ sym (append_assoc till.more g1.more u.history);
          } in
          let q = life_at n j c s u t front_ back_ fits (legal_of t till) (anew_of t till) a b at behind same in
          let o =
          leaves_one n j c fits d s u there first (other d else_) (legal_of u till_u) (anew_of u till_u) a at in
          let one : o.0.call ≡ q.0 = one_record o.0.call q.0 (call_at (looks_of u j n) c) o.0.there q.1 in
          let kept : q.0.looks ≡ a.looks = ap (λ (x : CallRecord). x.looks) (sym one) ∙ o.0.looks in
          let more : TakesIn n.setup (looks_of u j n).now q.0.looks ms1 b.looks =
          onward q.0 (ap (λ (w : Stage). slice_get w.nodes j) first.rest ∙ there) q.1 (ap is_active q.2 ∙ active)
          (same ∙ sym q.2) in
          subst (λ (x : CallLooks). TakesIn n.setup (looks_of s j n).now x ms1 b.looks) kept
          (subst (λ (now : ℕ). TakesIn n.setup now q.0.looks ms1 b.looks) o.1 more))
