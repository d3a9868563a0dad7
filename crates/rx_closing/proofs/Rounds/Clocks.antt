-- The clocks of rounds in which a client's call lives: each round moves all of them by one time, by 2,000 ms at most.
use Rattle.std.proofs.Common.{◌≡◌, ◌<◌, ◌≤◌, ◌+◌, ◌*◌, ◌^◌, ◌==◌, cond, ℕ, suc, Bool, true, false, List, [], ◌∷◌, refl}
use Rattle.std.proofs.Common.{ap, sym, ◌∙◌, Option, Some, None, arith, slice_get}
use Rattle.std.specs.Prelude.{IsSomeAnd}
use Rattle.rx_model.specs.declared.event.Noted.{Noted}
use Rattle.rx_model.specs.declared.names.CallName.{CallName}
use Rattle.rx_model.specs.Names.{same_name}
use Rattle.rx_model.proofs.NameLaws.{same_number}
use Rattle.rx_rules.specs.After.{looks}
use Rattle.rx_rules.specs.Life.{Life, is_active, is_live}
use Rattle.rx_rules.specs.Life as lives
use Rattle.rx_rules.specs.Looks.{CallRecord, Looks, is_call}
use Rattle.rx_rules.specs.Records.{is_silent}
use Rattle.rx_rules.specs.Rules.{Allowed, Legal}
use Rattle.rx_rules.specs.Setup.{FitsSetup}
use Rattle.rx_history.proofs.Differ.{every_found}
use Rattle.rx_history.specs.Sides.{Node, moment, side, with_clock}
use Rattle.rx_law.proofs.World.{if-some}
use Rattle.rx_asks.specs.History.{IsCalled}
use Rattle.rx_jobs.specs.Handlers.{Handlers}
use Rattle.rx_plan.specs.Stages.{Stage}
use Rattle.rx_plan.proofs.Allowed.{AreAllowed}
use Rattle.rx_plan.proofs.ClientEnds.{IsCalledOr, calls_called}
use Rattle.rx_rounds.proofs.Polls.PolledOut.{IsPolledOut}
use Rattle.rx_rounds.proofs.Rounded.{RoundMade}
use Rattle.rx_closing.specs.Living.{call_lives_at, looks_of}
use Rattle.rx_closing.proofs.Frame.{OneOf, asked_in}
use Rattle.rx_closing.proofs.Living.Before.{one_before}
use Rattle.rx_closing.proofs.Polls.PolledAll.{all_polled_out}
use Rattle.rx_closing.proofs.Rounds.Chains.{Adds, Chain, RoundAdds, adds_both, chain_adds, chain_more, chain_nodes}
use Rattle.rx_closing.proofs.Rounds.Chains.{chain_none, lives_between, round_adds, round_more}
use Rattle.rx_closing.proofs.Rounds.ClientsApart.{allowed_all}
use Rattle.rx_closing.proofs.Rounds.RoundAwake.{awake_between}
use Rattle.rx_closing.proofs.Rounds.RoundMoments.{MomentsStay, moments_stay}
use Rattle.rx_closing.proofs.Rounds.Settles.{Settles, settles_at, settles_moment}

-- ---- a node that isn't there

-- its moment is that of the beginning
none_moment : (nodes : List Node) (h : List Noted) (j : ℕ) → AreAllowed nodes h → slice_get nodes j ≡ None
    → moment j h ≡ 0
none_moment nodes [] j allowed none = refl
none_moment nodes (e ∷ h) j allowed none = by (e.node == j) refl (none_moment nodes h j allowed.1 none)
  where
    gone : (o : Option Node) → o ≡ None
        → IsSomeAnd o (λ n. Allowed n.setup (looks n.setup (side e.node h)) e.event) → ⊥
    gone None none there = elim there [ ]
    gone (Some n) none there = cc

    by : (b : Bool) → (e.node == j) ≡ b → moment j h ≡ 0
        → cond b (with_clock e.event (moment j h)) (moment j h) ≡ 0
    by true is before =
        absurd (gone (slice_get nodes e.node) (ap (slice_get nodes) (same_number e.node j is) ∙ none) allowed.0)
    by false is before = before

module _ (c : CallName) (k : ℕ) (client server : Node) where
  -- it lives at its client
  abbrev pub Lives : Stage → Type 0
  Lives s = call_lives_at s c (suc k) client ≡ true

  fits : (s : Stage) → OneOf c k client server s → FitsSetup client.setup
  fits s one =
      if-some (slice_get s.nodes (suc k)) client (λ m. FitsSetup m.setup) one.client_there
      (one.world.sides.nodes_are.fits (suc k))

  legal : (s : Stage) → OneOf c k client server s → Legal client.setup (side (suc k) s.history)
  legal s one =
      if-some (slice_get s.nodes (suc k)) client (λ m. Legal m.setup (side (suc k) s.history)) one.client_there
      (one.world.sides.legal (suc k))

  -- ---- the call

  called_calling : (x : Life) → IsCalled x → is_live x ≡ true → x ≡ lives.Calling
  called_calling lives.Calling called living = refl
  called_calling (lives.Ended end) called living = absurd cc
  called_calling _ called living = absurd called

  -- where it lives it is calling
  pub asked_calling : (s : Stage) → OneOf c k client server s → Lives s
      → (a : CallRecord) × (asked_in c k client s ≡ Some a) × (a.life ≡ lives.Calling)
  asked_calling s one living = of (asked_in c k client s) refl living called
    where
      called : IsCalledOr (asked_in c k client s)
      called =
          calls_called client.setup c.host c.epoch one.client_is (fits s one) (side (suc k) s.history) c (legal s one)

      of : (o : Option CallRecord) → asked_in c k client s ≡ o → is_call (λ r. is_live r.life) o ≡ true → IsCalledOr o
          → (a : CallRecord) × (asked_in c k client s ≡ Some a) × (a.life ≡ lives.Calling)
      of None is lives_ called_ = absurd cc
      of (Some r) is lives_ called_ = (r, is, called_calling r.life called_ lives_)

  -- it lives between two stages at which it does
  pub lives_within : (s u t : Stage) → OneOf c k client server t → Adds s.history u.history → Adds u.history t.history
      → Lives s → Lives t → Lives u
  lives_within s u t one first second now_ then_ =
      lives_between c (suc k) client c.host c.epoch s u t one.client_is (fits t one) (legal t one) first second now_
      then_

  -- ---- a round

  module _ (g : Handlers) (s t : Stage) (r : RoundMade g s t) (one : OneOf c k client server t) (living : Lives s)
      (later : Lives t) where
    adds : RoundAdds g s t r
    adds = round_adds g s t r

    still : MomentsStay g s t r
    still = moments_stay g s t r

    to_called : Adds r.polled.stage.history r.called.history
    to_called =
        adds_both r.polled.stage.history r.served.history r.called.history
        (adds_both r.polled.stage.history r.delivered.history r.served.history adds.delivered adds.served) adds.called

    from_polled : Adds r.polled.stage.history t.history
    from_polled = adds_both r.polled.stage.history r.called.history t.history to_called adds.over

    -- it is one behind the polls, and behind the turns
    pub polled_one : OneOf c k client server r.polled.stage
    polled_one =
        one_before c k client server t one r.polled.stage (adds.polled_nodes ∙ sym adds.nodes) from_polled

    pub called_one : OneOf c k client server r.called
    called_one = one_before c k client server t one r.called (adds.called_nodes ∙ sym adds.nodes) adds.over

    pub polled_lives : Lives r.polled.stage
    polled_lives = lives_within s r.polled.stage t one adds.polled from_polled living later

    pub called_lives : Lives r.called
    called_lives =
        lives_within s r.called t one
        (adds_both s.history r.polled.stage.history r.called.history adds.polled to_called) adds.over living later

    -- it isn't silent behind the polls
    pub polled_awake : (a : CallRecord) → asked_in c k client r.polled.stage ≡ Some a
        → is_silent (looks_of r.polled.stage (suc k) client).now a ≡ false
    polled_awake a there =
        (let l : Looks = looks_of r.polled.stage (suc k) client in
        let out : IsPolledOut client.setup l =
        all_polled_out s r.polled r.polls_are (suc k) client
        (ap (λ (ns : List Node). slice_get ns (suc k)) (sym adds.nodes) ∙ one.client_there) in
        every_found (λ (x : CallRecord). is_silent l.now x ≡ false) (λ (x : CallRecord). same_name x.name c) l.calls a
        out.awake there)

    -- and so not before the clocks move
    pub called_awake : (a : CallRecord) → asked_in c k client r.called ≡ Some a
        → is_silent (looks_of r.called (suc k) client).now a ≡ false
    called_awake b there =
        (let a = asked_calling r.polled.stage polled_one polled_lives in
        awake_between c k client server r.polled.stage r.called called_one to_called.more to_called.is (suc k) client
        called_one.client_there (still.called (suc k) ∙ sym (still.polled (suc k))) a.0 b a.1
        (ap is_active a.2) (polled_awake a.0 a.1) there)

    -- so it settles
    pub round_settles : Settles r.polled.given r.called t
    round_settles =
        (let b = asked_calling r.called called_one called_lives in
        settles_at g c k client server s t r called_one b.0 b.1 (ap is_active b.2) (called_awake b.0 b.1))

    -- each node's moment is later by one time
    pub round_time : (j : ℕ) (n : Node) → slice_get s.nodes j ≡ Some n
        → moment j t.history ≡ moment j s.history + round_settles.time
    round_time j n there =
        (let at = settles_moment r.polled.given r.called t round_settles j n
        (ap (λ (ns : List Node). slice_get ns j) adds.called_nodes ∙ there) in
        at ∙ ap (λ (m : ℕ). m + round_settles.time) (still.called j))

    -- no moment is later by more
    pub round_clock : (j : ℕ) → moment j t.history ≤ moment j s.history + 2000
    round_clock j = at (slice_get s.nodes j) refl
      where
        at : (o : Option Node) → slice_get s.nodes j ≡ o → moment j t.history ≤ moment j s.history + 2000
        at None none =
            (let zero_ : moment j t.history ≡ 0 =
            none_moment t.nodes t.history j (allowed_all t.nodes t.history one.world.sides)
            (ap (λ (ns : List Node). slice_get ns j) adds.nodes ∙ none) in
            omega (arith, zero_))
        at (Some n) there =
            (let short = round_settles.short in
            let time = round_time j n there in
            omega (arith, short, time))

  -- ---- rounds one after another

  -- it is one at their beginning, where it is at their end
  pub chain_one : (g : Handlers) (n : ℕ) (s t : Stage) → Chain g n s t → OneOf c k client server t
      → OneOf c k client server s
  chain_one g n s t chain one =
      one_before c k client server t one s (sym (chain_nodes g n s t chain)) (chain_adds g n s t chain)

  -- so many rounds move no moment by more than 2,000 ms each
  pub chain_clock : (g : Handlers) (n : ℕ) (s t : Stage) → Chain g n s t → OneOf c k client server t → Lives s
      → Lives t → (j : ℕ) → moment j t.history ≤ moment j s.history + 2000 * n
  chain_clock g n s t (chain_none z) one living later j = omega arith
  chain_clock g n s t (chain_more m z u y first others) one living later j =
      (let living_u = lives_within z u y one (round_more g z u first) (chain_adds g m u y others) living later in
      let clock = round_clock g z u first (chain_one g m u y others one) living living_u j in
      let rest = chain_clock g m u y others one living_u later j in
      omega (arith, rest, clock))

  -- so behind the first of them there is time for the rest
  pub chain_early : (g : Handlers) (m n : ℕ) (s u t : Stage) → Chain g m s u → Chain g n u t
      → OneOf c k client server t → Lives s → Lives t → ((j : ℕ) → moment j s.history + 2000 * (m + n) < 2 ^ 62)
      → (j : ℕ) → moment j u.history + 2000 * n < 2 ^ 62
  chain_early g m n s u t front rest one living later early j =
      (let living_u = lives_within s u t one (chain_adds g m s u front) (chain_adds g n u t rest) living later in
      let clock = chain_clock g m s u front (chain_one g n u t rest one) living living_u j in
      over m n (moment j s.history) (moment j u.history) (early j) clock)
    where
      over : (a b x y : ℕ) → x + 2000 * (a + b) < 2 ^ 62 → y ≤ x + 2000 * a → y + 2000 * b < 2 ^ 62
      over a b x y all low = (let size : 2 ^ 62 ≡ 4611686018427387904 = refl in omega (arith, all, low, size))

  -- the clocks of all nodes are later by one time
  pub record IsLater (s t : Stage) : Type 0 where
    pub time : ℕ
    pub moments : (j : ℕ) (n : Node) → slice_get s.nodes j ≡ Some n
        → moment j t.history ≡ moment j s.history + time

  pub clocks_same : (g : Handlers) (n : ℕ) (s t : Stage) → Chain g n s t → OneOf c k client server t → Lives s
      → Lives t → IsLater s t
  clocks_same g n s t (chain_none z) one living later = record { time = 0; moments = λ j m there. omega arith }
  clocks_same g n s t (chain_more m z u y first others) one living later =
      (let living_u = lives_within z u y one (round_more g z u first) (chain_adds g m u y others) living later in
      let one_u = chain_one g m u y others one in
      let settled = round_settles g z u first one_u living living_u in
      let rest = clocks_same g m u y others one living_u later in
      record {
        time = settled.time + rest.time;
        moments = λ j q there. (
            let here = round_time g z u first one_u living living_u j q there in
            let behind = rest.moments j q
            (ap (λ (ns : List Node). slice_get ns j) (round_adds g z u first).nodes ∙ there) in
            omega (arith, here, behind));
      })
