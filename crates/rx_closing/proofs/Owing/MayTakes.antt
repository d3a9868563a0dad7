-- A datagram that comes while none of some calls comes further makes its node owe only what it may.
use Rattle.std.proofs.Common.{◌≡◌, ◌⊎◌, ℕ, zero, suc, true, false, List, ◌∷◌, Some, None, Result, Ok, Err, refl, inl}
use Rattle.std.proofs.Common.{inr, ◌∙◌, ap, sym, subst, arith}
use Rattle.std.specs.Prelude.{slice_get}
use Rattle.rx_model.specs.declared.answers.BadMsg.{BadMsg}
use Rattle.rx_model.specs.declared.answers.End.TheVariants as ends
use Rattle.rx_model.specs.declared.answers.Took.{Took}
use Rattle.rx_model.specs.declared.answers.Took.TheVariants as tooks
use Rattle.rx_model.specs.declared.event.Event.{Event}
use Rattle.rx_model.specs.declared.event.Event.TheVariants as events
use Rattle.rx_model.specs.declared.event.Noted.{Noted}
use Rattle.rx_model.specs.declared.names.CallName.{CallName}
use Rattle.rx_model.specs.declared.names.Host.{Host}
use Rattle.rx_model.specs.Body.{Body}
use Rattle.rx_model.specs.Body as bodies
use Rattle.rx_model.specs.Message.{Message}
use Rattle.rx_model.specs.Names.{connection_of}
use Rattle.rx_model.specs.Reading.{reading_of}
use Rattle.rx_rules.specs.After.{enters, is_ok_end, looks, prepared}
use Rattle.rx_rules.specs.Judging.{outer_row, took_of}
use Rattle.rx_rules.specs.Life.{Life}
use Rattle.rx_rules.specs.Life as lives
use Rattle.rx_rules.specs.Looks.{CallRecord, Looks, call_at}
use Rattle.rx_rules.specs.Rules.{Legal}
use Rattle.rx_rules.specs.Setup.{Client, FitsSetup, IsServer, Kind, Server, is_client, named}
use Rattle.rx_history.specs.Sides.{IsClientAt, Node, side}
use Rattle.rx_history.proofs.Events.{call-by, calls-prepared}
use Rattle.rx_history.proofs.Fit.FitConnTaken.{may_abort}
use Rattle.rx_law.specs.Worlds.{AreNodes, Datagram}
use Rattle.rx_law.proofs.World.{and-some, if-some}
use Rattle.rx_plan.proofs.Aborts.AbortCauses.{ready_latest}
use Rattle.rx_plan.specs.Stages.{Stage}
use Rattle.rx_wire.specs.Turns.{noted}
use Rattle.rx_closing.proofs.Far.FinishedShut.{IsServed as IsServers, lives_served}
use Rattle.rx_closing.proofs.Frame.{IsPlain, asked_in}
use Rattle.rx_closing.proofs.Living.ClientOf.{flagged}
use Rattle.rx_closing.proofs.Living.CrowdRounds.{IsCrowd, SaidFor, fits_at, legal_at, named_for, unflagged}
use Rattle.rx_closing.proofs.Messages.CrowdedRows.{is_busy}
use Rattle.rx_closing.proofs.Owing.AreStill.{AreStill, IsEnd, adds_less, end_of, was}
use Rattle.rx_closing.proofs.Owing.ChannelsStay.{IsMute, null_mute}
use Rattle.rx_closing.proofs.Owing.MayGo.{GoesFor, ReadsFor, TakesFor}
use Rattle.rx_closing.proofs.Owing.MayOwe.{Tells}
use Rattle.rx_closing.proofs.Owing.NoResponse.{no_response}
use Rattle.rx_closing.proofs.Owing.StillOwed.{AbortAt, AckAllAt, FromClient, FromServer, IsAsked, IsLively, IsServed}
use Rattle.rx_closing.proofs.Owing.StillOwed.{SaidStill}
use Rattle.rx_closing.proofs.Owing.TooMuch.{too_much}
use Rattle.rx_closing.proofs.Rounds.Chains.{Adds}
use Rattle.rx_closing.proofs.Rounds.RoundEvents.{IsNext}
use Rattle.rx_closing.proofs.Together.Members.{Member, names_of}
use Rattle.rx_between.proofs.Followed.{taken_is}
use Rattle.rx_history.proofs.Plain.PlainBodies.{IsSent}

-- ---- lives

ok_is : (x : Life) → is_ok_end x ≡ true → x ≡ lives.Ended ends.Ok
ok_is (lives.Ended ends.Ok) is = refl
ok_is _ is = absurd cc

served_bad : (x : Life) → IsServers x → is_ok_end x ≡ true → ⊥
served_bad lives.Calling served is = served
served_bad (lives.Ended end) served is = served
served_bad _ served is = cc

-- ---- a datagram

module _ (server : Node) (ms : List Member) (s t : Stage) (a : AreStill server ms s t) where
  abbrev are : AreNodes s.nodes
  are = a.crowd.world.sides.nodes_are

  abbrev cs : List CallName
  cs = names_of ms

  -- no node challenges or answers a CHALLENGE
  pub mute_at : (j : ℕ) (n : Node) → slice_get s.nodes j ≡ Some n → IsMute n.setup.class
  mute_at j n there =
      null_mute n.setup.class (if-some (slice_get s.nodes j) n IsPlain there (a.crowd.plain j)).open_

  module _ (h : List Noted) (node : ℕ) (n : Node) (d : Datagram) (sender : Host) (bytes : List ℕ) (got : Took)
      (next : IsNext s.nodes h node n (events.Taken sender bytes got)) (from : sender ≡ d.from) (is : bytes ≡ d.bytes)
      (to : d.to ≡ n.host) (lively : IsLively server ms s are t.history h d) (z : IsCrowd s.nodes are cs h)
      (front : Adds s.history h) (back : Adds (noted node (events.Taken sender bytes got) ∷ h) t.history) where
    abbrev l : Looks
    l = looks n.setup (side node h)

    abbrev e : Event
    e = events.Taken sender bytes got

    back_h : Adds h t.history
    back_h = adds_less (noted node e) h t.history back

    fits : FitsSetup n.setup
    fits = fits_at s.nodes are cs node n next.there

    legal : Legal n.setup (side node h)
    legal = legal_at s.nodes are cs h node n next.there z.allowed

    serves_at : node ≡ 0 → IsServer n.setup.kind
    serves_at zeroth =
        and-some (slice_get s.nodes 0) n (λ q. IsServer q.setup.kind)
        (subst (λ (i : ℕ). slice_get s.nodes i ≡ Some n) zeroth next.there) are.server

    client_at : (i : ℕ) → node ≡ suc i → is_client n.setup.kind ≡ true
    client_at i number =
        of n.setup.kind (if-some (slice_get s.nodes (suc i)) n (λ q. IsClientAt q.host q.setup.kind)
        (subst (λ (j : ℕ). slice_get s.nodes j ≡ Some n) number next.there) (are.clients i))
      where
        of : (kind : Kind) → IsClientAt n.host kind → is_client kind ≡ true
        of (Client host epoch) home = refl
        of (Server service nonces) home = absurd home

    took : got ≡ took_of n.setup l sender bytes
    took = taken_is n.setup.kind n.setup l sender bytes got next.allowed

    module _ (m : Message) (reads : reading_of bytes ≡ Ok m)
        (passes : outer_row n.setup n.setup.kind l sender m ≡ None) where
      abbrev c : CallName
      c = named n.setup sender m

      abbrev ready : Looks
      ready = prepared n.setup got (connection_of c) l

      read_it : reading_of d.bytes ≡ Ok m
      read_it = subst (λ (bs : List ℕ). reading_of bs ≡ Ok m) is reads

      named_is : (x : CallName) (g : List Noted) → SaidFor s.nodes x g d m → c ≡ x
      named_is x g said =
          named_for s.nodes are cs node n l d m sender next.there from to x g said passes

      said : IsSent m.body → SaidStill server ms s d m
      said stream = lively.live back_h m read_it stream

      ready_at : (x : CallName) → call_at ready x ≡ call_at l x
      ready_at x = call-by x l ready (calls-prepared n.setup got (connection_of c) l)

      busy_never : (got ≡ tooks.Busy) ⊎ (got ≡ tooks.NoRoom) → is_busy got ≡ true → ⊥
      busy_never how busy =
          too_much server ms s t a h node n d sender bytes got next from is to lively z front back m reads passes how
          busy

      -- ---- a call that ended

      -- at the server
      asked_still : IsServer n.setup.kind → SaidStill server ms s d m → IsAsked server ms s c
      asked_still serves x = by x.gave
        where
          by : FromClient server ms s x.member x.said.node ⊎ FromServer server ms s x.member x.said.node
              → IsAsked server ms s c
          by (inl f) =
              record {
                member = x.member;
                inside = x.inside;
                call = sym (named_is x.member.call s.history x.said);
                asked = f.asked;
                asked_is = f.asked_is;
                calls = f.calls;
              }
          by (inr f) =
              (let flag : true ≡ false =
              sym (flagged n.setup n.setup.kind l sender m serves passes) ∙ x.said.flag ∙ f.kind in
              absurd cc)

      -- at a client
      served_still : (i : ℕ) → node ≡ suc i → is_client n.setup.kind ≡ true → SaidStill server ms s d m
          → (k : CallRecord) → call_at l c ≡ Some k
          → (r : IsServed server ms s (suc i) c) × (r.asked.life ≡ k.life)
      served_still i number client x k there = by x.gave
        where
          name : c ≡ x.member.call
          name = named_is x.member.call s.history x.said

          had : call_at l x.member.call ≡ Some k
          had = subst (λ (y : CallName). call_at l y ≡ Some k) name there

          end : (node ≡ suc x.member.index) × (n ≡ x.member.client)
          end = of (end_of server ms s t a h z node n next.there x.member x.inside k had)
            where
              of : IsEnd server node n x.member → (node ≡ suc x.member.index) × (n ≡ x.member.client)
              of (inl zeroth) = (let is = sym number ∙ zeroth.0 in absurd (let no : ⊥ = omega arith in no))
              of (inr here) = here

          by : FromClient server ms s x.member x.said.node ⊎ FromServer server ms s x.member x.said.node
              → (r : IsServed server ms s (suc i) c) × (r.asked.life ≡ k.life)
          by (inl f) =
              (let flag : false ≡ true =
              sym (unflagged n.setup n.setup.kind l sender m client passes) ∙ x.said.flag ∙ f.kind in
              absurd cc)
          by (inr f) =
              (let q = was server ms s t a h front back_h x.member x.inside node n (inr end) k had in
              let there_q : asked_in x.member.call x.member.index x.member.client s ≡ Some q.0 =
              subst (λ (j : Node). call_at (looks j.setup (side (suc x.member.index) s.history)) x.member.call
              ≡ Some q.0) end.1
              (subst (λ (j : ℕ). call_at (looks n.setup (side j s.history)) x.member.call ≡ Some q.0) end.0 q.1) in (
                record {
                  member = x.member;
                  inside = x.inside;
                  call = sym name;
                  index = sym end.0 ∙ number;
                  asked = q.0;
                  asked_is = there_q;
                  served = f.served;
                  served_is = f.served_is;
                  active = f.active;
                },
                q.2,
              ))

      abort_is : (j : ℕ) → node ≡ j → IsSent m.body → (k : CallRecord) → call_at l c ≡ Some k
          → AbortAt server ms s j c
      abort_is zero number stream k there = asked_still (serves_at number) (said stream)
      abort_is (suc i) number stream k there =
          (served_still i number (client_at i number) (said stream) k there).0

      ackall_is : (j : ℕ) → node ≡ j → IsSent m.body → (k : CallRecord) → call_at l c ≡ Some k
          → is_ok_end k.life ≡ true → AckAllAt server ms s j c
      ackall_is zero number stream k there ok =
          served_bad k.life (lives_served n.setup (side node h) c k (serves_at number) fits legal there) ok
      ackall_is (suc i) number stream k there ok =
          (let r = served_still i number (client_at i number) (said stream) k there in
          record { is = r.0; ended = r.1 ∙ ok_is k.life ok })

      tells : (k : CallRecord) → call_at ready c ≡ Some k
          → Tells (AbortAt server ms s node) (AckAllAt server ms s node) m.body k.life c
      tells k there = by m.body refl
        where
          had : call_at l c ≡ Some k
          had = sym (ready_at c) ∙ there

          by : (body : Body) → m.body ≡ body
              → Tells (AbortAt server ms s node) (AckAllAt server ms s node) body k.life c
          by (bodies.Chunk payload) same = (
            λ code told. abort_is node refl (subst IsSent (sym same) tt) k had,
            λ ok. ackall_is node refl (subst IsSent (sym same) tt) k had ok,
          )
          by (bodies.Ack given) same = λ code told. abort_is node refl (subst IsSent (sym same) tt) k had
          by _ same = tt

      takes : (answer : Took) → got ≡ answer
          → TakesFor (AbortAt server ms s node) (AckAllAt server ms s node) n.setup (mute_at node n next.there) answer c
          m.body ready
      takes tooks.Busy same = busy_never (inl same) (ap is_busy same)
      takes tooks.NoRoom same = busy_never (inr same) (ap is_busy same)
      takes tooks.Over same = (
        ready_latest n.setup (side node h) sender bytes got m took reads passes legal
            (ap (λ (g : Took). may_abort g m.body) same) (ap enters same),
        tells,
      )
      takes tooks.Stopped same = no_response n.setup n.setup.kind l sender m (mute_at node n next.there).still passes
      takes _ same = tt

    -- its node owes only what it may
    pub take_goes : GoesFor (AbortAt server ms s node) (AckAllAt server ms s node) n.setup (mute_at node n next.there)
        l e
    take_goes = reading (reading_of bytes) refl
      where
        reading : (x : Result Message BadMsg) → reading_of bytes ≡ x
            → ReadsFor (AbortAt server ms s node) (AckAllAt server ms s node) n.setup (mute_at node n next.there) l
            sender x got
        reading (Err bad) reads = tt
        reading (Ok m) reads = λ passes.
            (takes m reads passes got refl)
