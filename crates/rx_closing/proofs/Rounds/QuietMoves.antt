-- Of two rounds that follow one another one gives something, where a client's call lives; or one of the calls is
-- further behind the second: it was silent between them.
use Rattle.std.proofs.Common.{◌≡◌, ◌≢◌, ◌<◌, ◌⊎◌, ◌-◌, ◌^◌, ◌||◌, cond, ℕ, zero, suc, Bool, true, false, List, [], ◌∷◌}
use Rattle.std.proofs.Common.{Option, Some, None, refl, ap, sym, subst, ◌∙◌, inl, inr, ⊎_elim, arith}
use Rattle.std.specs.List.{find, list_any}
use Rattle.std.specs.Prelude.{IfSome, IsSomeAnd, slice_get}
use Rattle.rx_model.specs.declared.names.CallName.{CallName}
use Rattle.rx_model.specs.Names.{same_name}
use Rattle.rx_model.proofs.NameLaws.{name_itself, name_sym}
use Rattle.rx_rules.specs.After.{looks}
use Rattle.rx_rules.specs.Life.{is_active}
use Rattle.rx_rules.specs.Looks.{CallRecord, Looks, call_at}
use Rattle.rx_rules.specs.Records.{is_silent}
use Rattle.rx_rules.specs.Rules.{Legal}
use Rattle.rx_rules.specs.Setup.{Client, FitsSetup, Kind, Server}
use Rattle.rx_rules.proofs.EveryLaws.{Every}
use Rattle.rx_history.specs.Sides.{IsClientAt, Node, moment, side}
use Rattle.rx_history.proofs.Differ.{Differ, by_name, every_found}
use Rattle.rx_history.proofs.Suffice.{roomy_history}
use Rattle.rx_law.proofs.World.{if-some}
use Rattle.rx_law.specs.Worlds.{World}
use Rattle.rx_jobs.specs.Handlers.{Handlers}
use Rattle.rx_plan.specs.Stages.{Stage}
use Rattle.rx_rounds.specs.Clocks.{SomeSilent, has_silent}
use Rattle.rx_between.proofs.Each.EachItem.{In}
use Rattle.rx_rounds.proofs.Rounded.{RoundMade}
use Rattle.rx_closing.specs.Living.{looks_of}
use Rattle.rx_closing.proofs.Far.FarStands.{both_far, both_low}
use Rattle.rx_closing.proofs.Frame.{AreAmong, OneOf}
use Rattle.rx_closing.proofs.Living.Before.{one_before}
use Rattle.rx_closing.proofs.Rounds.Chains.{Adds, RoundAdds, adds_both, round_adds, round_more}
use Rattle.rx_closing.proofs.Rounds.ClientsApart.{one_client, own_call_kind}
use Rattle.rx_closing.proofs.Rounds.Clocks.{Lives, asked_calling, called_awake, called_lives, called_one}
use Rattle.rx_closing.proofs.Rounds.RoundClocks.{SilentAt, may_near, quiet_gives}
use Rattle.rx_closing.proofs.Rounds.RoundMoments.{moments_stay}
use Rattle.rx_closing.proofs.Rounds.Settles.{some_nodes, wait_short}
use Rattle.rx_closing.proofs.Rounds.SilentMoves.{silent_moves}
use Rattle.rx_closing.proofs.Together.Members.{Member, names_of}
use Rattle.rx_plan.proofs.Soundness.SoundPlan.{and_left}
use Rattle.rx_closing.proofs.Ends.RoomLaws.{active_lives}

-- ---- a silent call

-- one of a list that passes a test is found by its name
found_own : (ks : List CallRecord) (test : CallRecord → Bool) → Differ by_name ks → list_any test ks ≡ true
    → (k : CallRecord) × (find (λ (j : CallRecord). same_name j.name k.name) ks ≡ Some k) × (test k ≡ true)
found_own [] test differ some = absurd (let no : false ≡ true = some in cc (no))
found_own (k ∷ ks) test differ some = by (λ is. found_own ks test differ.1 is) (test k) refl some
  where
    other : (j : CallRecord) (js : List CallRecord) → Every (λ (i : CallRecord). same_name i.name k.name ≡ false) js
        → find (λ (i : CallRecord). same_name i.name j.name) js ≡ Some j → same_name j.name k.name ≡ false
    other j js apart found =
        every_found (λ (i : CallRecord). same_name i.name k.name ≡ false)
        (λ (i : CallRecord). same_name i.name j.name) js j apart found

    by : (list_any test ks ≡ true
        → (j : CallRecord) × (find (λ (i : CallRecord). same_name i.name j.name) ks ≡ Some j) × (test j ≡ true))
        → (b : Bool) → test k ≡ b → (b || list_any test ks) ≡ true
        → (j : CallRecord) × (find (λ (i : CallRecord). same_name i.name j.name) (k ∷ ks) ≡ Some j) × (test j ≡ true)
    by rest true here is = (
      k,
      ap (λ (b : Bool). cond b (Some k) (find (λ (i : CallRecord). same_name i.name k.name) ks))
          (name_itself k.name),
      here,
    )
    by rest false none is =
        let r = rest is in
        let apart : same_name k.name (r.0).name ≡ false =
        name_sym k.name (r.0).name ∙ other r.0 ks differ.0 r.1 in (
          r.0,
          ap (λ (b : Bool). cond b (Some k) (find (λ (i : CallRecord). same_name i.name (r.0).name) ks))
              apart ∙ r.1,
          r.2,
        )

-- a name is one of theirs
pub member_named : (ms : List Member) (d : CallName) → In d (names_of ms) → (m : Member) × In m ms × (d ≡ m.call)
member_named [] d there = absurd there
member_named (m ∷ ms) d (inl same) = (m, inl refl, same)
member_named (m ∷ ms) d (inr rest) = (let r = member_named ms d rest in (r.0, inr r.1, r.2))

-- what holds of each holds of one
pub every_member : (P : Member → Type 0) (ms : List Member) (m : Member) → In m ms → Every P ms → P m
every_member P [] m there all = absurd there
every_member P (n ∷ ns) m (inl same) all = subst P (sym same) all.0
every_member P (n ∷ ns) m (inr rest) all = every_member P ns m rest all.1

-- a call's node is the server's, or its client's
module _ (c : CallName) (k : ℕ) (client server : Node) (t : Stage) (one : OneOf c k client server t) where
  node_same : (a b : Node) → ◌≡◌ {A = Option Node} (Some a) (Some b) → a ≡ b
  node_same a b same = cc

  client_kind : (i : ℕ) (n : Node) → slice_get t.nodes (suc i) ≡ Some n → (r : CallRecord)
      → call_at (looks_of t (suc i) n) c ≡ Some r → n.setup.kind ≡ Client c.host c.epoch
  client_kind i n there r at =
      of n.setup.kind refl
      (if-some (slice_get t.nodes (suc i)) n (λ m. IsClientAt m.host m.setup.kind) there
      (one.world.sides.nodes_are.clients i))
    where
      of : (q : Kind) → n.setup.kind ≡ q → IsClientAt n.host q → n.setup.kind ≡ Client c.host c.epoch
      of (Server service nonces) is at_ = absurd at_
      of (Client host epoch) is at_ =
          own_call_kind n.setup (side (suc i) t.history) c r host epoch is
          (if-some (slice_get t.nodes (suc i)) n (λ m. FitsSetup m.setup) there
          (one.world.sides.nodes_are.fits (suc i)))
          (if-some (slice_get t.nodes (suc i)) n (λ m. Legal m.setup (side (suc i) t.history)) there
          (one.world.sides.legal (suc i))) at

  pub silent_there : (j : ℕ) (n : Node) → slice_get t.nodes j ≡ Some n → (r : CallRecord)
      → call_at (looks_of t j n) c ≡ Some r → is_silent (looks_of t j n).now r ≡ true
      → SilentAt c k client server t
  silent_there zero n there r at silent =
      (let same : n ≡ server = node_same n server (sym there ∙ one.server_there) in
      inr (subst (λ (m : Node). (q : CallRecord) × (call_at (looks_of t 0 m) c ≡ Some q)
      × (is_silent (looks_of t 0 m).now q ≡ true)) same (r, at, silent)))
  silent_there (suc i) n there r at silent =
      (let index : suc i ≡ suc k =
      one_client t.nodes c (suc i) (suc k) n client one.world.apart there one.client_there
      (client_kind i n there r at) one.client_is in
      let place : i ≡ k = omega (arith, index) in
      let same : n ≡ client =
      node_same n client (sym there ∙ ap (λ (m : ℕ). slice_get t.nodes m) index ∙ one.client_there) in
      inl (subst (λ (m : Node). (q : CallRecord) × (call_at (looks_of t (suc k) m) c ≡ Some q)
      × (is_silent (looks_of t (suc k) m).now q ≡ true)) same
      (subst (λ (m : ℕ). (q : CallRecord) × (call_at (looks_of t (suc m) n) c ≡ Some q)
      × (is_silent (looks_of t (suc m) n).now q ≡ true)) place (r, at, silent))))

-- where only they live, a silent call is one of them
pub record SilentMember (ms : List Member) (server : Node) (t : Stage) : Type 0 where
  pub member : Member
  pub inside : In member ms
  pub silent : SilentAt member.call member.index member.client server t

pub silent_member : (ms : List Member) (server : Node) (t : Stage) → World t.nodes t.history
    → ((j : ℕ) → IfSome (slice_get t.nodes j) (λ n. AreAmong (names_of ms) (looks_of t j n)))
    → Every (λ (m : Member). OneOf m.call m.index m.client server t) ms → SomeSilent t → SilentMember ms server t
silent_member ms server t world among ones some = at some.0 (slice_get t.nodes some.0) refl some.1
  where
    at : (j : ℕ) (o : Option Node) → slice_get t.nodes j ≡ o
        → IsSomeAnd o (λ n. has_silent (looks n.setup (side j t.history)) ≡ true) → SilentMember ms server t
    at j None none is = absurd is
    at j (Some n) there is =
        (let l : Looks = looks_of t j n in
        let legal = if-some (slice_get t.nodes j) n (λ m. Legal m.setup (side j t.history)) there
        (world.sides.legal j) in
        let f = found_own l.calls (is_silent l.now) (roomy_history n.setup (side j t.history) legal).differ is in
        let active : is_active (f.0).life ≡ true = and_left (is_active (f.0).life) _ f.2 in
        let here = if-some (slice_get t.nodes j) n (λ m. AreAmong (names_of ms) (looks_of t j m)) there (among j) in
        let m = member_named ms (f.0).name (here (f.0).name f.0 f.1 (active_lives (f.0).life active)) in
        record {
          member = m.0;
          inside = m.1;
          silent =
              silent_there (m.0).call (m.0).index (m.0).client server t
              (every_member (λ (x : Member). OneOf x.call x.index x.client server t) ms m.0 m.1 ones) j n there f.0
              (ap (call_at l) (sym m.2) ∙ f.1) f.2;
        })

-- ---- two rounds

-- one of them is further
pub record MemberMoves (ms : List Member) (server : Node) (t u : Stage) : Type 0 where
  pub member : Member
  pub inside : In member ms
  pub further :
      both_far member.call member.index member.client server t
      < both_far member.call member.index member.client server u

module _ (g : Handlers) (server : Node) (ms : List Member) (s t u : Stage) (a : RoundMade g s t)
    (b : RoundMade g t u) where
  ones_before : (ns : List Member) → Every (λ (m : Member). OneOf m.call m.index m.client server u) ns
      → Every (λ (m : Member). OneOf m.call m.index m.client server t) ns
  ones_before [] all = tt
  ones_before (m ∷ ns) all = (
    one_before m.call m.index m.client server u all.0 t (sym (round_adds g t u b).nodes) (round_more g t u b),
    ones_before ns all.1,
  )

  -- a silent one is further behind the round
  member_moves : Every (λ (m : Member). OneOf m.call m.index m.client server u) ms → SilentMember ms server t
      → MemberMoves ms server t u
  member_moves ones x =
      (let m : Member = x.member in
      let adds : RoundAdds g t u b = round_adds g t u b in
      let onward : Adds b.polled.stage.history u.history =
      adds_both b.polled.stage.history b.called.history u.history
      (adds_both b.polled.stage.history b.served.history b.called.history
      (adds_both b.polled.stage.history b.delivered.history b.served.history adds.delivered adds.served) adds.called)
      adds.over in
      let one = every_member (λ (y : Member). OneOf y.call y.index y.client server u) ms m x.inside ones in
      let polled = one_before m.call m.index m.client server u one b.polled.stage
      (adds.polled_nodes ∙ sym adds.nodes) onward in
      let up = silent_moves m.call m.index m.client server t b.polled b.polls_are (sym adds.polled_nodes) adds.polled
      polled x.silent in
      let low = both_low m.call m.index m.client server u one b.polled.stage onward.more onward.is in
      record { member = m; inside = x.inside; further = omega (arith, up, low) })

  -- the first gave nothing
  pub quiet_moves : (c : CallName) (k : ℕ) (client : Node) → OneOf c k client server t → Lives c k client server s
      → Lives c k client server t → ((j : ℕ) → moment j s.history < 2 ^ 62 - 2000) → a.polled.given ≡ []
      → ((j : ℕ) → IfSome (slice_get t.nodes j) (λ n. AreAmong (names_of ms) (looks_of t j n)))
      → Every (λ (m : Member). OneOf m.call m.index m.client server u) ms
      → (b.polled.given ≢ []) ⊎ MemberMoves ms server t u
  quiet_moves c k client one living later early quiet among ones =
      (let called = called_one c k client server g s t a one living later in
      let x = asked_calling c k client server a.called called
      (called_lives c k client server g s t a one living later) in
      let near = wait_short c k client server a.called x.0 called x.1 (ap is_active x.2)
      (called_awake c k client server g s t a one living later x.0 x.1) in
      let may = may_near a.called near.0 near.2
      (λ j. subst (λ (m : ℕ). m < 2 ^ 62 - 2000) (sym ((moments_stay g s t a).called j)) (early j)) in
      ⊎_elim (λ (gave : b.polled.given ≢ []). inl gave)
      (λ (silent : SomeSilent t).
      inr (member_moves ones (silent_member ms server t one.world among (ones_before ms ones) silent)))
      (quiet_gives g s t u a b (some_nodes a.called (suc k) client called.client_there) quiet near.0 near.1 may))
