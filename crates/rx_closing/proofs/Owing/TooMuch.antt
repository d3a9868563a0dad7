-- While none of some calls comes further, no datagram that comes is of a call that is too much for its node.
use Rattle.std.proofs.Common.{◌≡◌, ◌⊎◌, ◌<◌, ◌≤◌, ◌&&◌, not, nat_le, ℕ, ℤ, cond, Bool, true, false, List, ◌∷◌, Option}
use Rattle.std.proofs.Common.{Some, None, Ok, option_map, refl, inl, inr, ◌∙◌, ap, sym, subst, arith}
use Rattle.std.proofs.lemmas.Bool.{leb-true, ltb-true}
use Rattle.std.specs.Prelude.{slice_get}
use Rattle.rx_model.specs.declared.answers.Took.{Took}
use Rattle.rx_model.specs.declared.answers.Took.TheVariants as tooks
use Rattle.rx_model.specs.declared.event.Event.{Event}
use Rattle.rx_model.specs.declared.event.Event.TheVariants as events
use Rattle.rx_model.specs.declared.event.Noted.{Noted}
use Rattle.rx_model.specs.declared.names.CallName.{CallName}
use Rattle.rx_model.specs.declared.names.Host.{Host}
use Rattle.rx_model.specs.declared.wire.TheConstants.{RX_CALL_DEAD}
use Rattle.rx_model.specs.Body.{Body}
use Rattle.rx_model.specs.Body as bodies
use Rattle.rx_model.specs.Message.{Message}
use Rattle.rx_model.specs.Names.{channel_of, connection_of}
use Rattle.rx_model.specs.Reading.{reading_of}
use Rattle.rx_model.proofs.NameLaws.{name_itself, both as both_true}
use Rattle.rx_rules.specs.After.{looks, prepared, taken_with}
use Rattle.rx_rules.specs.Judging.{Facts, facts_of, is_data, opened, outer_row, own_row, server_row, side_row, took_of}
use Rattle.rx_rules.specs.Life.{Life, after_code, is_active, is_handled, is_live}
use Rattle.rx_rules.specs.Life as lives
use Rattle.rx_rules.specs.Looks.{CallRecord, Looks, call_at, call_named, channel_at, is_call, latest_name, on_life}
use Rattle.rx_rules.specs.Rules.{Legal}
use Rattle.rx_rules.specs.Setup.{Client, FitsSetup, IsServer, Kind, Server, named, receiving_window}
use Rattle.rx_rules.specs.Slots.{live}
use Rattle.rx_rules.proofs.ConnsLaws.{channel_number}
use Rattle.rx_history.specs.Sides.{Node, side}
use Rattle.rx_history.proofs.Calls.{call-changed}
use Rattle.rx_history.proofs.Events.{call-by, calls-prepared}
use Rattle.rx_history.proofs.Openings.{channel_prepared}
use Rattle.rx_history.proofs.Order.OrderlyHistory.{orderly_history}
use Rattle.rx_history.proofs.Suffice.{roomy_history}
use Rattle.rx_law.specs.Worlds.{AreNodes, Datagram}
use Rattle.rx_law.proofs.World.{and-some, if-some}
use Rattle.rx_asks.specs.History.{IsCalled}
use Rattle.rx_plan.proofs.ClientEnds.{IsCalledOr, calls_called}
use Rattle.rx_history.proofs.Rows.RowsAborting.{passed}
use Rattle.rx_plan.specs.Stages.{Stage}
use Rattle.rx_wire.specs.Turns.{noted}
use Rattle.rx_between.proofs.Onward.{row_named}
use Rattle.rx_between.proofs.Each.EachItem.{In}
use Rattle.rx_closing.proofs.Frame.{IsSpacious, served_in}
use Rattle.rx_closing.proofs.Living.CrowdRounds.{IsCrowd, SaidFor, among_at, fits_at, legal_at, named_for}
use Rattle.rx_closing.proofs.Living.Few.{fewer_live}
use Rattle.rx_closing.proofs.Messages.CrowdedRows.{Crowds, is_busy, row_calm, side_crowds}
use Rattle.rx_closing.proofs.Messages.Judged.{taken_by}
use Rattle.rx_closing.proofs.Owing.AreStill.{AreStill, IsEnd, adds_less, end_of, ends_never, named_in, was}
use Rattle.rx_closing.proofs.Owing.EndsThere.{Ends}
use Rattle.rx_closing.proofs.Owing.StillOwed.{IsLively}
use Rattle.rx_closing.proofs.Rounds.Chains.{Adds}
use Rattle.rx_closing.proofs.Rounds.RoundEvents.{IsNext}
use Rattle.rx_closing.proofs.Together.Members.{Member, names_of}
use Rattle.rx_between.proofs.Followed.{taken_is}
use Rattle.rx_history.proofs.Plain.PlainBodies.{IsSent}

-- ---- rows

-- only a call that is too much has no room
abbrev is_roomless : Took → Bool
is_roomless tooks.NoRoom = true
is_roomless _ = false

-- a call whose channel's call has a handler at work isn't answered that there is no room
handled_busy : (f : Facts) (call : Took) → f.is_above ≡ true → f.is_handled ≡ true
    → server_row f call ≡ tooks.NoRoom → ⊥
handled_busy f call above handled is =
    let a =
    passed is_roomless (not f.is_known && not (f.can_start && f.has_number)) tooks.Strange _ tooks.NoRoom refl refl is
    in
    let b = passed is_roomless (not f.is_known && not f.has_place) tooks.Full _ tooks.NoRoom refl refl a.1 in
    let c = passed is_roomless f.stops_all tooks.Stopped _ tooks.NoRoom refl refl b.1 in
    let d = passed is_roomless (not f.has_number) tooks.Strange _ tooks.NoRoom refl refl c.1 in
    let e = passed is_roomless f.is_below tooks.Old _ tooks.NoRoom refl refl d.1 in
    let g = passed is_roomless (f.is_above && not f.can_start) tooks.Strange _ tooks.NoRoom refl refl e.1 in
    let h = passed is_roomless (f.is_above && f.is_handled) tooks.Busy _ tooks.NoRoom refl refl g.1 in
    let both : (f.is_above && f.is_handled) ≡ true = λ i. above i && handled i in
    absurd (let no : true ≡ false = sym both ∙ h.0 in cc)

-- ---- lives

-- one whose handler is at work lives, and is none of a client's; it is accepted or broken
handled_is : (x : Life) → is_handled x ≡ true → (x ≡ lives.Accepted) ⊎ ((code : ℤ) × (x ≡ lives.Broken code))
handled_is lives.Accepted is = inl refl
handled_is (lives.Broken code) is = inr (code, refl)
handled_is _ is = absurd cc

pub handled_live : (x : Life) → is_handled x ≡ true → is_live x ≡ true
handled_live (lives.Ended end) is = is
handled_live (lives.Over code) is = is
handled_live _ is = refl

handled_other : (x : Life) → is_handled x ≡ true → IsCalled x → ⊥
handled_other lives.Calling is called = cc
handled_other (lives.Ended end) is called = cc
handled_other _ is called = called

pub data_stream : (body : Body) → is_data body ≡ true → IsSent body
data_stream (bodies.Chunk payload) is = tt
data_stream _ is = absurd cc

pub server_side : (kind : Kind) (f : Facts) (call : Took) → IsServer kind → side_row kind f call ≡ server_row f call
server_side (Server service nonces) f call serves = refl
server_side (Client host epoch) f call serves = absurd serves

-- ---- a datagram

module _ (server : Node) (ms : List Member) (s t : Stage) (a : AreStill server ms s t) where
  abbrev are : AreNodes s.nodes
  are = a.crowd.world.sides.nodes_are

  abbrev cs : List CallName
  cs = names_of ms

  module _ (h : List Noted) (node : ℕ) (n : Node) (d : Datagram) (sender : Host) (bytes : List ℕ) (got : Took)
      (next : IsNext s.nodes h node n (events.Taken sender bytes got)) (from : sender ≡ d.from) (is : bytes ≡ d.bytes)
      (to : d.to ≡ n.host) (lively : IsLively server ms s are t.history h d) (z : IsCrowd s.nodes are cs h)
      (front : Adds s.history h) (back : Adds (noted node (events.Taken sender bytes got) ∷ h) t.history) where
    abbrev l : Looks
    l = looks n.setup (side node h)

    abbrev e : Event
    e = events.Taken sender bytes got

    back_h : Adds h t.history
    back_h = adds_less (noted node e) h t.history back

    fits : FitsSetup n.setup
    fits = fits_at s.nodes are cs node n next.there

    legal : Legal n.setup (side node h)
    legal = legal_at s.nodes are cs h node n next.there z.allowed

    serves_at : node ≡ 0 → IsServer n.setup.kind
    serves_at zeroth =
        and-some (slice_get s.nodes 0) n (λ q. IsServer q.setup.kind)
        (subst (λ (i : ℕ). slice_get s.nodes i ≡ Some n) zeroth next.there) are.server

    took : got ≡ took_of n.setup l sender bytes
    took = taken_is n.setup.kind n.setup l sender bytes got next.allowed

    module _ (m : Message) (reads : reading_of bytes ≡ Ok m)
        (passes : outer_row n.setup n.setup.kind l sender m ≡ None) where
      abbrev c : CallName
      c = named n.setup sender m

      abbrev ready : Looks
      ready = prepared n.setup got (connection_of c) l

      read_it : reading_of d.bytes ≡ Ok m
      read_it = subst (λ (bs : List ℕ). reading_of bs ≡ Ok m) is reads

      named_is : (x : CallName) (g : List Noted) → SaidFor s.nodes x g d m → c ≡ x
      named_is x g said =
          named_for s.nodes are cs node n l d m sender next.there from to x g said passes

      -- ---- a call too much

      row : side_row n.setup.kind (facts_of n.setup l c m) (own_row n.setup (opened n.setup c l) c m) ≡ got
      row = row_named n.setup l sender bytes got m took reads passes

      calm : is_busy (own_row n.setup (opened n.setup c l) c m) ≡ false
      calm = row_calm n.setup (opened n.setup c l) (call_at (opened n.setup c l) c) m

      crowds : is_busy got ≡ true → Crowds (facts_of n.setup l c m)
      crowds busy =
          side_crowds n.setup.kind (facts_of n.setup l c m) (own_row n.setup (opened n.setup c l) c m) calm
          (ap is_busy row ∙ busy)

      -- it is one of these
      inside : Crowds (facts_of n.setup l c m) → In c cs
      inside w =
          (let chunk = both_true (is_data m.body) (nat_le 1 m.seq && nat_le m.seq (receiving_window n.setup)) w.starts
          in
          let f = lively.one.says m read_it (data_stream m.body chunk.0) in
          subst (λ (x : CallName). In x cs) (sym (named_is f.name h f.said)) f.inside)

      -- which doesn't live there
      dead : Crowds (facts_of n.setup l c m) → (r : CallRecord) → call_at l c ≡ Some r → is_live r.life ≡ false
      dead w r there = of (is_live r.life) refl
        where
          higher : (channel_at l (channel_of c)).number < c.number
          higher = ltb-true (channel_at l (channel_of c)).number c.number w.above

          of : (b : Bool) → is_live r.life ≡ b → is_live r.life ≡ false
          of false dies = dies
          of true living =
              (let latest_ = (orderly_history n.setup (side node h) legal).latest c
              (ap (is_call (λ k. is_live k.life)) there ∙ living) in
              let number : (channel_at l (channel_of c)).number ≡ c.number =
              channel_number l (channel_of c) ∙ latest_.number in
              let low = higher in
              absurd (let no : ⊥ = omega arith in no))

      -- there is room
      full : Crowds (facts_of n.setup l c m) → (facts_of n.setup l c m).is_crowded ≡ true → ⊥
      full w crowded =
          (let most : n.setup.limits.calls ≤ live l = leb-true n.setup.limits.calls (live l) crowded in
          let space : IsSpacious cs n.setup =
          if-some (slice_get s.nodes node) n (λ q. IsSpacious cs q.setup) next.there (a.crowd.space node) in
          let few = fewer_live l cs c (roomy_history n.setup (side node h) legal).differ
          (among_at s.nodes are cs h node n next.there z) (inside w) (dead w) in
          let room = space.0 in
          omega arith)

      -- ---- the channel's call has its handler at work

      own_on : (x : CallName) (change : Life → Life) (k : Looks) (r : CallRecord) → call_at k x ≡ Some r
          → call_at (on_life x change k) x ≡ Some (record r { life = change r.life })
      own_on x change k r there =
          call-changed x x (λ j. record j { life = change j.life }) k (λ j. refl)
          ∙ ap (λ (b : Bool). cond b (option_map (λ (j : CallRecord). record j { life = change j.life }) (call_at k x))
          (call_at k x)) (name_itself x)
          ∙ ap (option_map (λ (j : CallRecord). record j { life = change j.life })) there

      abbrev older : CallName
      older = latest_name l (channel_of c)

      ready_at : (x : CallName) → call_at ready x ≡ call_at l x
      ready_at x = call-by x l ready (calls-prepared n.setup got (connection_of c) l)

      -- told that it is taken it breaks
      breaks : got ≡ tooks.Busy → (r : CallRecord) → call_at l older ≡ Some r → r.life ≡ lives.Accepted
          → Ends l (looks n.setup (e ∷ side node h))
      breaks same r there accepted =
          record {
            name = older;
            before = r;
            had = there;
            active = ap is_active accepted;
            behind = record r { life = after_code RX_CALL_DEAD r.life };
            has =
                ap (λ (k : Looks). call_at k older) (taken_by n.setup l c sender bytes m got reads passes refl)
                ∙ ap (λ (g : Took). call_at (taken_with n.setup g c m ready) older) same
                ∙ ap (λ (x : CallName). call_at (on_life x (after_code RX_CALL_DEAD) ready) older)
                (ap (call_named (channel_of c)) (channel_prepared n.setup got c l))
                ∙ own_on older (after_code RX_CALL_DEAD) ready r (ready_at older ∙ there);
            idle = ap (λ (x : Life). is_active (after_code RX_CALL_DEAD x)) accepted;
          }

      handled : Crowds (facts_of n.setup l c m) → (got ≡ tooks.Busy) ⊎ (got ≡ tooks.NoRoom)
          → (facts_of n.setup l c m).is_handled ≡ true → ⊥
      handled w how works = of (call_at l older) refl works
        where
          at_server : (r : CallRecord) → call_at l older ≡ Some r → is_handled r.life ≡ true → (x : Member) → In x ms
              → x.call ≡ older → node ≡ 0 → n ≡ server → ⊥
          at_server r there working x there_x name zeroth same = by (handled_is r.life working) how
            where
              had : call_at l x.call ≡ Some r
              had = subst (λ (y : CallName). call_at l y ≡ Some r) (sym name) there

              by : (r.life ≡ lives.Accepted) ⊎ ((code : ℤ) × (r.life ≡ lives.Broken code))
                  → (got ≡ tooks.Busy) ⊎ (got ≡ tooks.NoRoom) → ⊥
              by (inl accepted) (inl busy) =
                  ends_never server ms s t a h node n e next z front back (breaks busy r there accepted)
              by (inl accepted) (inr roomless) =
                  handled_busy (facts_of n.setup l c m) (own_row n.setup (opened n.setup c l) c m) w.above works
                  (sym (server_side n.setup.kind (facts_of n.setup l c m) (own_row n.setup (opened n.setup c l) c m)
                  (serves_at zeroth)) ∙ row ∙ roomless)
              by (inr broken) which =
                  (let q = was server ms s t a h front back_h x there_x node n (inl (zeroth, same)) r had in
                  let there_q : served_in x.call server s ≡ Some q.0 =
                  subst (λ (k : Node). call_at (looks k.setup (side 0 s.history)) x.call ≡ Some q.0) same
                  (subst (λ (i : ℕ). call_at (looks n.setup (side i s.history)) x.call ≡ Some q.0) zeroth q.1) in
                  a.whole x there_x q.0 there_q broken.0 (q.2 ∙ broken.1))

          at_client : (r : CallRecord) → call_at l older ≡ Some r → is_handled r.life ≡ true → (x : Member) → In x ms
              → n ≡ x.client → ⊥
          at_client r there working x there_x same =
              (let kind : n.setup.kind ≡ Client x.call.host x.call.epoch =
              ap (λ (k : Node). k.setup.kind) same ∙ (a.one x there_x).client_is in
              let called : IsCalled r.life =
              subst IsCalledOr there (calls_called n.setup x.call.host x.call.epoch kind fits (side node h) older legal)
              in
              handled_other r.life working called)

          of : (o : Option CallRecord) → call_at l older ≡ o → is_call (λ k. is_handled k.life) o ≡ true → ⊥
          of None there working = cc
          of (Some r) there working =
              (let f = named_in ms older
              (among_at s.nodes are cs h node n next.there z older r there (handled_live r.life working)) in
              by f.0 f.1 f.2 (end_of server ms s t a h z node n next.there f.0 f.1 r
              (subst (λ (y : CallName). call_at l y ≡ Some r) (sym f.2) there)))
            where
              by : (x : Member) → In x ms → x.call ≡ older → IsEnd server node n x → ⊥
              by x there_x name (inl end) = at_server r there working x there_x name end.0 end.1
              by x there_x name (inr end) = at_client r there working x there_x end.1

      -- so it is never too much
      pub too_much : (got ≡ tooks.Busy) ⊎ (got ≡ tooks.NoRoom) → is_busy got ≡ true → ⊥
      too_much how busy = by w.why
        where
          w : Crowds (facts_of n.setup l c m)
          w = crowds busy

          by : ((facts_of n.setup l c m).is_handled ≡ true) ⊎ ((facts_of n.setup l c m).is_crowded ≡ true) → ⊥
          by (inl working) = handled w how working
          by (inr crowded) = full w crowded
