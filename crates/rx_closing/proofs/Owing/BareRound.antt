-- Between two rounds through which none of some calls comes further no node owes anything but streams: what one owes of
-- what it may is given in the second round, and ends a call at its other end.
use Rattle.std.proofs.Common.{◌≡◌, ◌≤◌, ℕ, zero, suc, true, List, [], Option, Some, None, refl, inl, inr, ◌∙◌, ap, sym}
use Rattle.std.proofs.Common.{subst, is_some}
use Rattle.std.specs.Prelude.{slice_get}
use Rattle.rx_model.specs.declared.names.CallName.{CallName}
use Rattle.rx_model.specs.Names.{channel_of}
use Rattle.rx_rules.specs.After.{looks}
use Rattle.rx_rules.specs.Life.{Life, is_active}
use Rattle.rx_rules.specs.Life as lives
use Rattle.rx_rules.specs.Looks.{CallRecord, Looks, channel_at}
use Rattle.rx_rules.specs.Rules.{Legal}
use Rattle.rx_rules.specs.Setup.{FitsSetup}
use Rattle.rx_history.specs.Sides.{Node, side}
use Rattle.rx_history.specs.Streams.{end_by, end_of_life}
use Rattle.rx_law.proofs.World.{if-some}
use Rattle.rx_jobs.specs.Handlers.{Handlers}
use Rattle.rx_plan.specs.Stages.{Stage}
use Rattle.rx_plan.proofs.QuietEvents.{AreServed}
use Rattle.rx_between.specs.Agreed.{HasEnded}
use Rattle.rx_between.proofs.Each.EachItem.{In}
use Rattle.rx_rounds.proofs.Rounded.{RoundMade}
use Rattle.rx_closing.specs.Living.{looks_of}
use Rattle.rx_closing.proofs.Conns.PlanPeers.{AreLinked}
use Rattle.rx_closing.proofs.Frame.{OneOf, asked_in, served_in}
use Rattle.rx_closing.proofs.Messages.Lasts.{some_number}
use Rattle.rx_closing.proofs.Owing.AreStill.{AreStill, will}
use Rattle.rx_closing.proofs.Owing.MayNone.{may_none}
use Rattle.rx_closing.proofs.Owing.MayOwe.{EachMay}
use Rattle.rx_closing.proofs.Owing.MayRounds.{round_may}
use Rattle.rx_closing.proofs.Owing.OwesNone.{OwesNone}
use Rattle.rx_closing.proofs.Owing.StillOwed.{AbortAt, AckAllAt, IsAsked, IsReplied, IsServed}
use Rattle.rx_closing.proofs.Rounds.Chains.{Adds, RoundAdds, adds_both, adds_none, round_adds}
use Rattle.rx_closing.proofs.Telling.AbortOwed.{Owing}
use Rattle.rx_closing.proofs.Together.Members.{Member}

-- ---- what comes of what is owed

-- an ABORT that the server owes as a round begins ends the call at its client in the round
abbrev pub AbortEnds : Type 0
AbortEnds =
    (c : CallName) (k : ℕ) (client server : Node) (g : Handlers) (s t : Stage) (r : RoundMade g s t)
    → OneOf c k client server t → AreLinked s → Owing c (looks_of s 0 server) → is_some (asked_in c k client s) ≡ true
    → HasEnded (asked_in c k client r.delivered)

-- one that a client owes stops the call at its server
abbrev pub AbortStops : Type 0
AbortStops =
    (c : CallName) (k : ℕ) (client server : Node) (g : Handlers) (s t : Stage) (r : RoundMade g s t)
    → OneOf c k client server t → AreLinked s → AreServed s.nodes s.history → Owing c (looks_of s (suc k) client)
    → (y b : CallRecord) → served_in c server s ≡ Some y → is_active y.life ≡ true
    → served_in c server r.delivered ≡ Some b → b.life ≡ y.life → ⊥

-- a channel owes an ACKALL of this call
pub record OwesAckAll (c : CallName) (l : Looks) : Type 0 where
  pub owed : (channel_at l (channel_of c)).owed_ackall ≡ true
  pub number : (channel_at l (channel_of c)).number ≡ c.number
  pub some : 1 ≤ c.number

-- so does an ACKALL
abbrev pub AckAllStops : Type 0
AckAllStops =
    (c : CallName) (k : ℕ) (client server : Node) (g : Handlers) (s t : Stage) (r : RoundMade g s t)
    → OneOf c k client server t → AreLinked s → AreServed s.nodes s.history → OwesAckAll c (looks_of s (suc k) client)
    → (y b : CallRecord) → served_in c server s ≡ Some y → is_active y.life ≡ true
    → served_in c server r.delivered ≡ Some b → b.life ≡ y.life → ⊥

-- ---- lives

calling_on : (o : Option CallRecord) (r : CallRecord) → o ≡ Some r → r.life ≡ lives.Calling → HasEnded o → ⊥
calling_on o r there calling ended =
    (let none : end_by o ≡ None =
    ap end_by there ∙ ap end_of_life calling in
    let no : ◌≡◌ {A = Option _} None (Some ended.end) = sym none ∙ ended.at in
    cc)

-- a call at two moments, at both with this life
record GoesOnSo (o p : Option CallRecord) (life : Life) : Type 0 where
  first : CallRecord
  first_is : o ≡ Some first
  same : first.life ≡ life
  second : CallRecord
  second_is : p ≡ Some second
  stays : second.life ≡ first.life

some_node : (p q : Node) → ◌≡◌ {A = Option Node} (Some p) (Some q) → p ≡ q
some_node p q is = cc

-- ---- between two rounds

module _ (abort_ends : AbortEnds) (abort_stops : AbortStops) (ackall_stops : AckAllStops) (server : Node)
    (ms : List Member) (g : Handlers) (s v w : Stage) (a : AreStill server ms s v) (r : RoundMade g s v)
    (b : AreStill server ms v w) (o : RoundMade g v w) (linked : AreLinked v) (links : AreServed v.nodes v.history)
    (strays : (k : ℕ) (n : Node) → slice_get v.nodes k ≡ Some n → (looks_of v k n).strays ≡ []) where
  adds : RoundAdds g v w o
  adds = round_adds g v w o

  front : Adds v.history o.delivered.history
  front = adds_both v.history o.polled.stage.history o.delivered.history adds.polled adds.delivered

  back : Adds o.delivered.history w.history
  back =
      adds_both o.delivered.history o.served.history w.history adds.served
      (adds_both o.served.history o.called.history w.history adds.called adds.over)

  -- a call of a client, as the second round begins and delivers
  asked_on : (m : Member) → In m ms → (x : CallRecord) → asked_in m.call m.index m.client s ≡ Some x
      → GoesOnSo (asked_in m.call m.index m.client v) (asked_in m.call m.index m.client o.delivered) x.life
  asked_on m inside x there =
      (let y = will server ms s v a v.history a.grown (adds_none v.history) m inside (suc m.index) m.client
      (inr (refl, refl)) x there in
      let z = will server ms v w b o.delivered.history front back m inside (suc m.index) m.client (inr (refl, refl)) y.0
      y.1 in
      record { first = y.0; first_is = y.1; same = y.2; second = z.0; second_is = z.1; stays = z.2 })

  -- a call of the server
  served_on : (m : Member) → In m ms → (x : CallRecord) → served_in m.call server s ≡ Some x
      → GoesOnSo (served_in m.call server v) (served_in m.call server o.delivered) x.life
  served_on m inside x there =
      (let y = will server ms s v a v.history a.grown (adds_none v.history) m inside 0 server (inl (refl, refl)) x there
      in
      let z = will server ms v w b o.delivered.history front back m inside 0 server (inl (refl, refl)) y.0 y.1 in
      record { first = y.0; first_is = y.1; same = y.2; second = z.0; second_is = z.1; stays = z.2 })

  client_there : (m : Member) → In m ms → slice_get s.nodes (suc m.index) ≡ Some m.client
  client_there m inside =
      ap (λ (ns : List Node). slice_get ns (suc m.index)) (sym a.nodes) ∙ (a.one m inside).client_there

  -- each has a number
  numbered : (m : Member) → In m ms → (x : CallRecord) → asked_in m.call m.index m.client s ≡ Some x → 1 ≤ m.call.number
  numbered m inside x there =
      some_number m.client.setup (side (suc m.index) s.history) m.call x
      (if-some (slice_get s.nodes (suc m.index)) m.client (λ n. FitsSetup n.setup) (client_there m inside)
      (a.crowd.world.sides.nodes_are.fits (suc m.index)))
      (if-some (slice_get s.nodes (suc m.index)) m.client (λ n. Legal n.setup (side (suc m.index) s.history))
      (client_there m inside) (a.crowd.world.sides.legal (suc m.index))) there

  -- ---- at the server

  no_asked : (d : CallName) → IsAsked server ms s d
      → (channel_at (looks_of v 0 server) (channel_of d)).number ≡ d.number
      → is_some (channel_at (looks_of v 0 server) (channel_of d)).owed_abort ≡ true → ⊥
  no_asked d x number owed =
      (let m : Member = x.member in
      let on = asked_on m x.inside x.asked x.asked_is in
      let owes : Owing m.call (looks_of v 0 server) =
      subst (λ (c : CallName). Owing c (looks_of v 0 server)) (sym x.call)
      (record {
        owed = owed;
        number = number;
        some = subst (λ (c : CallName). 1 ≤ c.number) x.call (numbered m x.inside x.asked x.asked_is);
      }) in
      let known : is_some (asked_in m.call m.index m.client v) ≡ true = ap is_some on.first_is in
      let ended = abort_ends m.call m.index m.client server g v w o (b.one m x.inside) linked owes known in
      calling_on (asked_in m.call m.index m.client o.delivered) on.second on.second_is
      (on.stays ∙ on.same ∙ x.calls) ended)

  -- ---- at a client

  -- what is so of the looks of its node is so of its client's
  of_client : (j : ℕ) (n : Node) → slice_get v.nodes j ≡ Some n → (m : Member) → In m ms → suc m.index ≡ j
      → (P : Looks → Type 0) → P (looks_of v j n) → P (looks_of v (suc m.index) m.client)
  of_client j n there m inside index P holds =
      (let there_s : slice_get s.nodes (suc m.index) ≡ Some n =
      ap (λ (ns : List Node). slice_get ns (suc m.index)) (sym a.nodes)
      ∙ subst (λ (i : ℕ). slice_get v.nodes i ≡ Some n) (sym index) there in
      let one : n ≡ m.client = some_node n m.client (sym there_s ∙ client_there m inside) in
      subst (λ (q : Node). P (looks_of v (suc m.index) q)) one
      (subst (λ (i : ℕ). P (looks_of v i n)) (sym index) holds))

  no_served : (j : ℕ) (n : Node) → slice_get v.nodes j ≡ Some n → (d : CallName) → IsServed server ms s j d
      → (channel_at (looks_of v j n) (channel_of d)).number ≡ d.number
      → is_some (channel_at (looks_of v j n) (channel_of d)).owed_abort ≡ true → ⊥
  no_served j n there d x number owed =
      (let m : Member = x.member in
      let on = served_on m x.inside x.served x.served_is in
      let owes : Owing m.call (looks_of v j n) =
      subst (λ (c : CallName). Owing c (looks_of v j n)) (sym x.call)
      (record {
        owed = owed;
        number = number;
        some = subst (λ (c : CallName). 1 ≤ c.number) x.call (numbered m x.inside x.asked x.asked_is);
      }) in
      abort_stops m.call m.index m.client server g v w o (b.one m x.inside) linked links
      (of_client j n there m x.inside x.index (Owing m.call) owes) on.first on.second on.first_is
      (ap is_active on.same ∙ x.active) on.second_is on.stays)

  no_replied : (j : ℕ) (n : Node) → slice_get v.nodes j ≡ Some n → (d : CallName) → IsReplied server ms s j d
      → (channel_at (looks_of v j n) (channel_of d)).number ≡ d.number
      → (channel_at (looks_of v j n) (channel_of d)).owed_ackall ≡ true → ⊥
  no_replied j n there d replied number owed =
      (let x : IsServed server ms s j d = replied.is in
      let m : Member = x.member in
      let on = served_on m x.inside x.served x.served_is in
      let owes : OwesAckAll m.call (looks_of v j n) =
      subst (λ (c : CallName). OwesAckAll c (looks_of v j n)) (sym x.call)
      (record {
        owed = owed;
        number = number;
        some = subst (λ (c : CallName). 1 ≤ c.number) x.call (numbered m x.inside x.asked x.asked_is);
      }) in
      ackall_stops m.call m.index m.client server g v w o (b.one m x.inside) linked links
      (of_client j n there m x.inside x.index (OwesAckAll m.call) owes) on.first on.second on.first_is
      (ap is_active on.same ∙ x.active) on.second_is on.stays)

  -- ---- all nodes

  no_abort : (j : ℕ) (n : Node) → slice_get v.nodes j ≡ Some n → (d : CallName) → AbortAt server ms s j d
      → (channel_at (looks_of v j n) (channel_of d)).number ≡ d.number
      → is_some (channel_at (looks_of v j n) (channel_of d)).owed_abort ≡ true → ⊥
  no_abort zero n there d x number owed =
      (let one : n ≡ server =
      some_node n server (sym there ∙ ap (λ (ns : List Node). slice_get ns 0) a.nodes ∙ a.first) in
      no_asked d x (subst (λ (q : Node). (channel_at (looks_of v 0 q) (channel_of d)).number ≡ d.number) one number)
      (subst (λ (q : Node). is_some (channel_at (looks_of v 0 q) (channel_of d)).owed_abort ≡ true) one owed))
  no_abort (suc i) n there d x number owed = no_served (suc i) n there d x number owed

  no_ackall : (j : ℕ) (n : Node) → slice_get v.nodes j ≡ Some n → (d : CallName) → AckAllAt server ms s j d
      → (channel_at (looks_of v j n) (channel_of d)).number ≡ d.number
      → (channel_at (looks_of v j n) (channel_of d)).owed_ackall ≡ true → ⊥
  no_ackall zero n there d x number owed = x
  no_ackall (suc i) n there d x number owed = no_replied (suc i) n there d x number owed

  -- so no node owes anything but streams
  pub bare_round : (j : ℕ) (n : Node) → slice_get v.nodes j ≡ Some n → OwesNone (looks_of v j n)
  bare_round j n there =
      may_none (AbortAt server ms s j) (AckAllAt server ms s j) n.setup (side j v.history)
      (if-some (slice_get v.nodes j) n (λ q. Legal q.setup (side j v.history)) there (b.crowd.world.sides.legal j))
      (no_abort j n there) (no_ackall j n there) (strays j n there)
      (if-some (slice_get s.nodes j) n
      (λ q. EachMay (AbortAt server ms s j) (AckAllAt server ms s j) (looks q.setup (side j v.history)))
      (ap (λ (ns : List Node). slice_get ns j) (sym a.nodes) ∙ there) (round_may server ms s v a g r j))
