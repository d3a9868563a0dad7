-- A server that is done with a call, with a code, owes the code once a DATA or an ACK of its client came, whatever
-- else comes, where no later call takes its channel.
use Rattle.std.proofs.Common.{◌≡◌, ◌++◌, ℕ, ℤ, suc, Bool, true, false, List, [], ◌∷◌, Option, Some, None, Ok, refl, inl}
use Rattle.std.proofs.Common.{inr, ◌∙◌, ap, sym, subst, is_some}
use Rattle.std.specs.Prelude.{slice_get}
use Rattle.rx_model.specs.declared.answers.Took.{Took}
use Rattle.rx_model.specs.declared.event.Event.{Event}
use Rattle.rx_model.specs.declared.event.Event.TheVariants as events
use Rattle.rx_model.specs.declared.names.CallName.{CallName}
use Rattle.rx_model.specs.declared.names.Host.{Host}
use Rattle.rx_model.specs.declared.wire.TheConstants.{RX_CALL_DEAD}
use Rattle.rx_model.specs.Message.{Message}
use Rattle.rx_model.specs.Names.{channel_of, connection_of, same_host}
use Rattle.rx_model.specs.Reading.{reading_of}
use Rattle.rx_rules.specs.After.{looks, served_code}
use Rattle.rx_rules.specs.CallLooks.{CallLooks, is_delivered}
use Rattle.rx_rules.specs.Judging.{took_of}
use Rattle.rx_rules.specs.Life.{Life, after_acks, after_code, after_later, is_active}
use Rattle.rx_rules.specs.Life as lives
use Rattle.rx_rules.specs.Looks.{CallRecord, Looks, call_at, channel_at}
use Rattle.rx_rules.specs.Rules.{Legal}
use Rattle.rx_rules.specs.Setup.{FitsSetup, IsServer, Server, Setup}
use Rattle.rx_history.specs.Sides.{Node, side}
use Rattle.rx_history.specs.Starts.{StartsOnce}
use Rattle.rx_law.proofs.Joint.{Fed}
use Rattle.rx_law.specs.Promises.{ends_in}
use Rattle.rx_law.specs.Worlds.{Datagram}
use Rattle.rx_between.proofs.Each.EachEvent.{each_step}
use Rattle.rx_between.proofs.Each.EachStep.{CallStep, LifeStep}
use Rattle.rx_between.proofs.Each.EachStep as steps
use Rattle.rx_between.proofs.Onward.{NoneAnew}
use Rattle.rx_plan.specs.Network.{delivers}
use Rattle.rx_plan.specs.Parts.{each}
use Rattle.rx_plan.specs.Stages.{Stage}
use Rattle.rx_jobs.specs.Handlers.{Handlers}
use Rattle.rx_between.proofs.Each.EachItem.{In}
use Rattle.rx_rounds.proofs.RoundParts.{delivers_split}
use Rattle.rx_rounds.proofs.Rounded.{Made, RoundMade}
use Rattle.rx_rounds.proofs.Two.{sent}
use Rattle.rx_closing.specs.Living.{looks_of}
use Rattle.rx_closing.proofs.Far.FarGrows.{none_anew}
use Rattle.rx_closing.proofs.Far.FarStands.{scene_fed}
use Rattle.rx_closing.proofs.Frame.{OneOf, served_in}
use Rattle.rx_closing.proofs.Living.Before.{one_before}
use Rattle.rx_closing.proofs.Messages.Arrives.{Meet}
use Rattle.rx_closing.proofs.Messages.Delivered.{DeliveredBy, delivers_first, delivers_grow, delivers_none, takes_from}
use Rattle.rx_closing.proofs.Messages.Lasts.{some_number}
use Rattle.rx_closing.proofs.Messages.OneMeets.{one_meets}
use Rattle.rx_closing.proofs.Messages.OwingStays.{HoldsOwed, OwesAbort, abort_stays, holds_same, holds_then}
use Rattle.rx_closing.proofs.Messages.OwingTaken.{holds_taken}
use Rattle.rx_closing.proofs.Messages.OwnTakes.{AllOver}
use Rattle.rx_closing.proofs.Messages.Rows.{IsLast}
use Rattle.rx_closing.proofs.Messages.Sifted.{IsOwn, sifts_none, sifts_own}
use Rattle.rx_closing.proofs.Rounds.Chains.{Adds, RoundAdds, adds_both, round_adds}
use Rattle.rx_closing.proofs.Telling.AbortOwed.{Owing}
use Rattle.rx_closing.proofs.Telling.ToldOver.{owing_round, server_over}
use Rattle.rx_history.proofs.Laws.EnteredLaw.{legal-before}
use Rattle.rx_law.proofs.Law.{side-split}

-- ---- a datagram leaves the life of a call that isn't at work

code_idle : (code : ℤ) (x : Life) → is_active x ≡ false → after_code code x ≡ x
code_idle code (lives.Ended end) idle = refl
code_idle code (lives.Broken before) idle = refl
code_idle code (lives.Over before) idle = refl
code_idle code _ idle = absurd (cc (idle))

later_idle : (x : Life) → is_active x ≡ false → after_later x ≡ x
later_idle (lives.Ended end) idle = refl
later_idle (lives.Broken before) idle = refl
later_idle (lives.Over before) idle = refl
later_idle _ idle = absurd (cc (idle))

acks_idle : (all : Bool) (x : Life) → is_active x ≡ false → after_acks all x ≡ x
acks_idle all (lives.Ended end) idle = refl
acks_idle all (lives.Broken before) idle = refl
acks_idle all (lives.Over before) idle = refl
acks_idle all _ idle = absurd (cc (idle))

life_idle : (s : Setup) (l : Looks) (from : Host) (bytes : List ℕ) (took : Took) (c : CallName) (b : CallLooks)
    (x y : Life) → LifeStep s l (events.Taken from bytes took) c b x y → is_active x ≡ false → y ≡ x
life_idle s l from bytes took c b x y (steps.lives_on is) idle = is
life_idle s l from bytes took c b x y (steps.is_stopped code stops is) idle = is ∙ code_idle code x idle
life_idle s l from bytes took c b x y (steps.is_busy busy is) idle = is ∙ code_idle RX_CALL_DEAD x idle
life_idle s l from bytes took c b x y (steps.is_followed later is) idle = is ∙ later_idle x idle
life_idle s l from bytes took c b x y (steps.is_acked m judges is) idle = is ∙ acks_idle (is_delivered b) x idle
life_idle s l from bytes took c b x y (steps.is_silent got silence event is) idle = absurd (cc (event))
life_idle s l from bytes took c b x y (steps.accepted event is) idle = absurd (cc (event))
life_idle s l from bytes took c b x y (steps.finished code event is) idle = absurd (cc (event))
life_idle s l from bytes took c b x y (steps.gone code told event is) idle = absurd (cc (event))
life_idle s l from bytes took c b x y (steps.read_out most got bytes_ event is) idle = absurd (cc (event))
life_idle s l from bytes took c b x y (steps.cancelled code event is) idle = absurd (cc (event))

-- a call that is there with this life
pub record LivesAs (life : Life) (o : Option CallRecord) : Type 0 where
  pub call : CallRecord
  pub there : o ≡ Some call
  pub life_is : call.life ≡ life

call_idle : (s : Setup) (l : Looks) (from : Host) (bytes : List ℕ) (took : Took) (c : CallName) (a : CallRecord)
    (o : Option CallRecord) → is_active a.life ≡ false → NoneAnew s l (events.Taken from bytes took) c (Some a)
    → CallStep s l (events.Taken from bytes took) c (Some a) o → LivesAs a.life o
call_idle s l from bytes took c a None idle anew step = absurd step
call_idle s l from bytes took c a (Some b) idle anew (inl goes) =
    record { call = b; there = refl; life_is = life_idle s l from bytes took c b.looks a.life b.life goes.life idle }
call_idle s l from bytes took c a (Some b) idle anew (inr starts) =
    absurd (let no : ◌≡◌ {A = Option CallRecord} (Some a) None = anew b starts in cc (no))

-- ---- datagrams that are delivered to a server

module _ (n : Node) (c : CallName) (fits : FitsSetup n.setup) (serves : IsServer n.setup.kind) where
  abbrev at_stage : Stage → Looks
  at_stage u = looks n.setup (side 0 u.history)

  -- what one of them leaves of a call that isn't at work, and of its channel
  pub record IdleLeft (a : CallRecord) (s t : Stage) : Type 0 where
    pub lives_as : LivesAs a.life (call_at (at_stage t) c)
    pub holds : HoldsOwed OwesAbort c (at_stage s) (at_stage t)

  one_left : (d : Datagram) (s t : Stage) → slice_get s.nodes 0 ≡ Some n → DeliveredBy d s t
      → Legal n.setup (side 0 t.history) → StartsOnce n.setup (side 0 t.history) c → (a : CallRecord)
      → call_at (at_stage s) c ≡ Some a → is_active a.life ≡ false → IdleLeft a s t
  one_left d s t there f legal once a at idle = by (same_host d.to n.host) refl
    where
      e : Event
      e = takes_from n.setup d (at_stage s)

      taken : side 0 t.history ≡ e ∷ side 0 s.history → IdleLeft a s t
      taken own =
          (let legal_ : Legal n.setup (e ∷ side 0 s.history) = subst (Legal n.setup) own legal in
          let once_ : StartsOnce n.setup (e ∷ side 0 s.history) c =
          subst (λ (es : List Event). StartsOnce n.setup es c) own once in
          let none : NoneAnew n.setup (at_stage s) e c (Some a) =
          subst (NoneAnew n.setup (at_stage s) e c) at
          (none_anew n.setup e (side 0 s.history) c fits legal_ (inr (serves, once_))) in
          let step : CallStep n.setup (at_stage s) e c (Some a) (call_at (looks n.setup (e ∷ side 0 s.history)) c) =
          subst (λ (o : Option CallRecord). CallStep n.setup (at_stage s) e c o
          (call_at (looks n.setup (e ∷ side 0 s.history)) c)) at (each_step n.setup (side 0 s.history) e c fits legal_)
          in
          let behind : at_stage t ≡ looks n.setup (e ∷ side 0 s.history) = ap (looks n.setup) own in
          record {
            lives_as =
                subst (λ (l : Looks). LivesAs a.life (call_at l c)) (sym behind)
                (call_idle n.setup (at_stage s) d.from d.bytes (took_of n.setup (at_stage s) d.from d.bytes) c a
                (call_at (looks n.setup (e ∷ side 0 s.history)) c) idle none step);
            holds =
                subst (λ (l : Looks). HoldsOwed OwesAbort c (at_stage s) l) (sym behind)
                (holds_taken OwesAbort abort_stays c
                (some_number n.setup (side 0 s.history) c a fits legal_.1 at) n.setup (at_stage s) d.from
                d.bytes (took_of n.setup (at_stage s) d.from d.bytes)
                (ap (λ (o : Option CallRecord). is_some o) at) once_.0 (λ m reads front on why q is. is));
          })

      by : (b : Bool) → same_host d.to n.host ≡ b → IdleLeft a s t
      by true is = taken ((f.comes 0 n there).takes is).own
      by false is =
          (let same : at_stage t ≡ at_stage s = ap (looks n.setup) ((f.comes 0 n there).passes is) in
          record {
            lives_as = record { call = a; there = ap (λ (l : Looks). call_at l c) same ∙ at; life_is = refl };
            holds =
                holds_same OwesAbort c (at_stage s) (at_stage t) (ap (λ (l : Looks). channel_at l (channel_of c)) same);
          })

  pub legal_then : (s t : Stage) (ds : List Datagram) → Made (each delivers ds) s t → Legal n.setup (side 0 t.history)
      → Legal n.setup (side 0 s.history)
  legal_then s t ds made legal =
      (let g = delivers_grow ds s t made in
      legal-before n.setup (side 0 g.more) (side 0 s.history)
      (subst (Legal n.setup) (ap (side 0) g.is ∙ side-split 0 g.more s.history) legal))

  once_before : (later h : List Event) → StartsOnce n.setup (later ++ h) c → StartsOnce n.setup h c
  once_before [] h once = once
  once_before (e ∷ later) h once = once_before later h once.1

  pub once_then : (s t : Stage) (ds : List Datagram) → Made (each delivers ds) s t
      → StartsOnce n.setup (side 0 t.history) c → StartsOnce n.setup (side 0 s.history) c
  once_then s t ds made once =
      (let g = delivers_grow ds s t made in
      once_before (side 0 g.more) (side 0 s.history)
      (subst (λ (es : List Event). StartsOnce n.setup es c) (ap (side 0) g.is ∙ side-split 0 g.more s.history) once))

  -- what all of them leave
  pub idle_left : (ds : List Datagram) (s t : Stage) → slice_get s.nodes 0 ≡ Some n → Made (each delivers ds) s t
      → Legal n.setup (side 0 t.history) → StartsOnce n.setup (side 0 t.history) c → (a : CallRecord)
      → call_at (at_stage s) c ≡ Some a → is_active a.life ≡ false → IdleLeft a s t
  idle_left [] s t there made legal once a at idle =
      (let same : at_stage t ≡ at_stage s = ap at_stage (delivers_none s t made) in
      record {
        lives_as = record { call = a; there = ap (λ (l : Looks). call_at l c) same ∙ at; life_is = refl };
        holds =
            holds_same OwesAbort c (at_stage s) (at_stage t) (ap (λ (l : Looks). channel_at l (channel_of c)) same);
      })
  idle_left (d ∷ ds) s t there made legal once a at idle =
      (let f = delivers_first d ds s t made in
      let o = one_left d s f.between there f.first (legal_then f.between t ds f.others legal)
      (once_then f.between t ds f.others once) a at idle in
      let r = idle_left ds f.between t (ap (λ (u : Stage). slice_get u.nodes 0) f.first.rest ∙ there) f.others legal
      once o.lives_as.call o.lives_as.there (ap is_active o.lives_as.life_is ∙ idle) in
      record {
        lives_as = record {
          call = r.lives_as.call;
          there = r.lives_as.there;
          life_is = r.lives_as.life_is ∙ o.lives_as.life_is;
        };
        holds = holds_then OwesAbort c (at_stage s) (at_stage f.between) (at_stage t) o.holds r.holds;
      })

-- ---- a DATA or an ACK of the call among them

-- a datagram says a DATA or an ACK of the call, as its client gives it to the server
pub record Asked (c : CallName) (client server : Node) (service : ℕ) (d : Datagram) : Type 0 where
  pub message : Message
  pub reads : reading_of d.bytes ≡ Ok message
  pub own : IsOwn client.setup c service message
  pub from : d.from ≡ client.host
  pub to : d.to ≡ server.host

module _ (c : CallName) (k : ℕ) (client server : Node) (t : Stage) (one : OneOf c k client server t)
    (service nonces : ℕ) (kind : server.setup.kind ≡ Server service nonces) where
  meet : Meet c k client server service nonces t.history
  meet = one_meets c k client server t one service nonces kind

  serves : IsServer server.setup.kind
  serves = (scene_fed c k client server t one).server_kind

  fits : FitsSetup server.setup
  fits = (scene_fed c k client server t one).server_fits

  -- it comes first
  tells_first : (d : Datagram) → Asked c client server service d → (u w : Stage) → slice_get u.nodes 0 ≡ Some server
      → Made (each delivers (d ∷ [])) u w → (y : CallRecord) → IsLast (looks_of u 0 server) c y
      → is_active y.life ≡ false → (code : ℤ) → served_code y.life ≡ Some code
      → is_some (channel_at (looks_of w 0 server) (channel_of c)).owed_abort ≡ true
  tells_first d asked u w there made y last idle code coded =
      ap (λ (o : Option ℤ). is_some o) (over.owed code coded (inr tt))
    where
      is : d ≡ sent client.host server.host d.bytes
      is = λ i. record { from = asked.from i; to = asked.to i; bytes = d.bytes }

      over : AllOver c (λ l. Unit {0}) (looks_of u 0 server) y (asked.message ∷ []) (looks_of w 0 server)
      over =
          server_over c k client server service nonces t.history meet (sent client.host server.host d.bytes ∷ [])
          (asked.message ∷ []) (sifts_own d.bytes asked.message [] [] asked.reads asked.own sifts_none) u w there
          (subst (λ (x : Datagram). Made (each delivers (x ∷ [])) u w) is made) y last idle

  tells_within : (ds : List Datagram) (d : Datagram) → In d ds → Asked c client server service d → (u v : Stage)
      → slice_get u.nodes 0 ≡ Some server → Made (each delivers ds) u v → Legal server.setup (side 0 v.history)
      → StartsOnce server.setup (side 0 v.history) c → (y : CallRecord) → served_in c server u ≡ Some y
      → is_active y.life ≡ false → (code : ℤ) → served_code y.life ≡ Some code
      → (channel_at (looks_of v 0 server) (channel_of c)).number ≡ c.number
      → is_some (channel_at (looks_of v 0 server) (channel_of c)).owed_abort ≡ true
  tells_within [] d none asked u v there made legal once y at idle code coded number = absurd none
  tells_within (e ∷ ds) d (inl same) asked u v there made legal once y at idle code coded number =
      (let p = delivers_split (e ∷ []) ds u v made in
      let w : Stage = p.0 in
      let all = idle_left server c fits serves (e ∷ ds) u v there made legal once y at idle in
      let legal_w = legal_then server c fits serves w v ds p.2 legal in
      let once_w = once_then server c fits serves w v ds p.2 once in
      let first = idle_left server c fits serves (e ∷ []) u w there p.1 legal_w once_w y at idle in
      let there_w : slice_get w.nodes 0 ≡ Some server =
      ap (λ (x : Stage). slice_get x.nodes 0) (delivers_grow (e ∷ []) u w p.1).rest ∙ there in
      let rest = idle_left server c fits serves ds w v there_w p.2 legal once first.lives_as.call first.lives_as.there
      (ap is_active first.lives_as.life_is ∙ idle) in
      let last : IsLast (looks_of u 0 server) c y = record {
        there = at;
        number = all.holds.back number;
        some =
            some_number server.setup (side 0 u.history) c y fits
            (legal_then server c fits serves u v (e ∷ ds) made legal) at;
      } in
      rest.holds.owes number
      (tells_first d asked u w there (subst (λ (x : Datagram). Made (each delivers (x ∷ [])) u w) (sym same) p.1) y last
      idle code coded))
  tells_within (e ∷ ds) d (inr low) asked u v there made legal once y at idle code coded number =
      (let p = delivers_split (e ∷ []) ds u v made in
      let w : Stage = p.0 in
      let legal_w = legal_then server c fits serves w v ds p.2 legal in
      let once_w = once_then server c fits serves w v ds p.2 once in
      let first = idle_left server c fits serves (e ∷ []) u w there p.1 legal_w once_w y at idle in
      let there_w : slice_get w.nodes 0 ≡ Some server =
      ap (λ (x : Stage). slice_get x.nodes 0) (delivers_grow (e ∷ []) u w p.1).rest ∙ there in
      tells_within ds d low asked w v there_w p.2 legal once first.lives_as.call first.lives_as.there
      (ap is_active first.lives_as.life_is ∙ idle) code (ap served_code first.lives_as.life_is ∙ coded) number)

  -- the channel owes the code behind all of them
  pub tells_over : (u v : Stage) → Adds v.history t.history → v.nodes ≡ t.nodes → (ds : List Datagram)
      → Made (each delivers ds) u v → (d : Datagram) → In d ds → Asked c client server service d → (y : CallRecord)
      → served_in c server u ≡ Some y → is_active y.life ≡ false → (code : ℤ) → served_code y.life ≡ Some code
      → (channel_at (looks_of v 0 server) (channel_of c)).number ≡ c.number → Owing c (looks_of v 0 server)
  tells_over u v till nodes ds made d there asked y at idle code coded number =
      record {
        owed =
            tells_within ds d there asked u v server_there made fed.server_legal (fed.once c refl) y at idle code coded
            number;
        number = number;
        some =
            some_number server.setup (side 0 u.history) c y fits
            (legal_then server c fits serves u v ds made fed.server_legal) at;
      }
    where
      at_end : OneOf c k client server v
      at_end = one_before c k client server t one v nodes till

      fed : Fed (ends_in (connection_of c) (suc k) client server) v.history
      fed = scene_fed c k client server v at_end

      server_there : slice_get u.nodes 0 ≡ Some server
      server_there =
          ap (λ (w : Stage). slice_get w.nodes 0) (sym (delivers_grow ds u v made).rest) ∙ at_end.server_there

module _ (c : CallName) (k : ℕ) (client server : Node) (g : Handlers) (s t : Stage) (r : RoundMade g s t)
    (one : OneOf c k client server t) (service nonces : ℕ) where
  -- in a round: the channel owes it at the end of the round
  pub tells_round : server.setup.kind ≡ Server service nonces → (d : Datagram) → In d r.polled.given
      → Asked c client server service d → (y : CallRecord) → served_in c server r.polled.stage ≡ Some y
      → is_active y.life ≡ false → (code : ℤ) → served_code y.life ≡ Some code
      → (channel_at (looks_of r.delivered 0 server) (channel_of c)).number ≡ c.number → Owing c (looks_of t 0 server)
  tells_round kind d there asked y at idle code coded number =
      (let a : RoundAdds g s t r = round_adds g s t r in
      owing_round c server g s t r
      (tells_over c k client server t one service nonces kind r.polled.stage r.delivered
      (adds_both r.delivered.history r.called.history t.history
      (adds_both r.delivered.history r.served.history r.called.history a.served a.called) a.over)
      (a.delivered_nodes ∙ sym a.nodes) r.polled.given r.delivers_are d there asked y at idle code coded number))
