-- The law of a world, whichever of its two premises holds.
use Rattle.std.proofs.Common.{◌≡◌, ◌≢◌, ◌⊎◌, ◌==◌, ◌≤◌, ℕ, suc, cond, nat_lt, Bool, true, false, List, [], ◌∷◌, Option}
use Rattle.std.proofs.Common.{Some, None}
use Rattle.std.proofs.Common.{Ok, refl, ◌∙◌, ap, sym, subst, inl, inr, arith}
use Rattle.std.proofs.lemmas.Bool.Decides.{nat_tests}
use Rattle.std.specs.Prelude.{IfSome, IsSomeAnd, slice_get}
use Rattle.rx_model.specs.declared.answers.Took.{Took}
use Rattle.rx_model.specs.declared.answers.Took.TheVariants as tooks
use Rattle.rx_model.specs.declared.event.Event.{Event}
use Rattle.rx_model.specs.declared.event.Event.TheVariants as events
use Rattle.rx_model.specs.declared.event.Noted.{Noted}
use Rattle.rx_model.specs.declared.names.CallName.{CallName}
use Rattle.rx_model.specs.declared.names.Host.{Host}
use Rattle.rx_rules.specs.After.{enters, looks, prepared}
use Rattle.rx_history.specs.Counts.{Once, times, times_accepted, times_finished}
use Rattle.rx_rules.specs.Judging.{took_of, took_reading}
use Rattle.rx_rules.specs.Looks.{CallRecord, Looks, call_at, channel_at}
use Rattle.rx_model.specs.Names.{channel_of, connection_of}
use Rattle.rx_rules.specs.Rules.{AllowedServer, Legal}
use Rattle.rx_rules.specs.Setup.{FitsSetup, IsServer, named}
use Rattle.rx_law.specs.Promises.{LawIn, ServerForgotNone, ends_in}
use Rattle.rx_history.specs.Sides.{Node, side}
use Rattle.rx_history.specs.Starts.{StartsBy, StartsNew, StartsOnce}
use Rattle.rx_law.specs.Times.{AreFresh, GoAlike, IsFresh, Timely}
use Rattle.rx_law.specs.Worlds.{AreApart, AreNodes, World}
use Rattle.rx_rules.proofs.ConnsLaws.{channel_number}
use Rattle.rx_model.proofs.NameLaws.{same_number}
use Rattle.rx_law.proofs.Asks.{asks-data, data-is}
use Rattle.rx_law.proofs.Enters.{above-prepared}
use Rattle.rx_law.proofs.Joint.{legal-before}
use Rattle.rx_law.proofs.Law.{law-on}
use Rattle.rx_history.proofs.Laws.OnceLaw.{served}
use Rattle.rx_law.proofs.ServerHistory.{finishes_well, server-serves}
use Rattle.rx_law.proofs.StartsTimed.{starts-once}
use Rattle.rx_history.proofs.Turns.{CountedOf}
use Rattle.rx_law.proofs.World.{if-some, world-fed-by, world-kept}
use Rattle.rx_law.proofs.WorldTimed.{world-lately}
use Rattle.rx_law.proofs.WorldAsks.{ClientOf, asked-by, serves}

module _ (nodes : List Node) (server : Node) (first : slice_get nodes 0 ≡ Some server) (are : AreNodes nodes)
    (apart : (i j : ℕ) → i ≢ j → IfSome (slice_get nodes i) (λ n. IfSome (slice_get nodes j)
    (λ o. AreApart n.setup.kind o.setup.kind))) where
  -- ---- every call of the server starts once

  lower : (a b n : ℕ) → a ≤ b → nat_lt b n ≡ true → nat_lt a n ≡ true
  lower a b n low is = grind (arith, nat_tests)

  starts-by-client : (h : List Noted) (l : Looks) (from : Host) (bytes : List ℕ) (got : Took) (c : CallName)
      → ((j : ℕ) (n : Node) → slice_get nodes j ≡ Some n → Legal n.setup (side j h))
      → IsFresh nodes h server.host (events.Taken from bytes got)
      → got ≡ took_of server.setup l from bytes → enters got ≡ true
      → (ClientOf nodes c → StartsBy server.setup l from bytes c got)
      → StartsBy server.setup l from bytes c got
  starts-by-client h l from bytes got c legal fresh is enter found = λ m reads front name above. (
      let rises = above-prepared server.setup got (connection_of c) l c.chan in
      let here = channel_number (prepared server.setup got (connection_of c) l) (channel_of c) in
      let there = channel_number l (channel_of c) in
      let before : nat_lt (channel_at l (channel_of c)).number c.number ≡ true =
      lower (channel_at l (channel_of c)).number (channel_at (prepared server.setup got (connection_of c) l)
      (channel_of c)).number c.number (omega arith) above in
      let mine : nat_lt (channel_at l (channel_of (named server.setup from m))).number m.number ≡ true =
      subst (λ (d : CallName). nat_lt (channel_at l (channel_of d)).number d.number ≡ true) (sym name) before in
      let answer : got ≡ took_reading server.setup l from (Ok m) = is ∙ ap (took_reading server.setup l from) reads in
      let chunk = data-is m.body (asks-data server.setup l from m got
      (serves nodes server first are apart) answer front enter mine) in
      found (asked-by nodes server first are apart h l from bytes m chunk.0 got c legal fresh reads chunk.1 front name)
      m reads front name above)

  starts-any : (h : List Noted) (l : Looks) (e : Event) (c : CallName)
      → ((j : ℕ) (n : Node) → slice_get nodes j ≡ Some n → Legal n.setup (side j h)) → IsFresh nodes h server.host e
      → AllowedServer server.setup l e → (ClientOf nodes c → StartsNew server.setup l e c)
      → StartsNew server.setup l e c
  starts-any h l (events.Taken from bytes tooks.Kept) c legal fresh allowed found =
      starts-by-client h l from bytes tooks.Kept c legal fresh allowed.1 refl found
  starts-any h l (events.Taken from bytes tooks.NoSlot) c legal fresh allowed found =
      starts-by-client h l from bytes tooks.NoSlot c legal fresh allowed.1 refl found
  starts-any h l _ c legal fresh allowed found = tt

  -- with each event, whoever's it is
  world-starts : (h : List Noted) (c : CallName) → ((j : ℕ) (n : Node) → slice_get nodes j ≡ Some n
      → Legal n.setup (side j h)) → AreFresh nodes h
      → ((j : ℕ) → IfSome (slice_get nodes (suc j)) (λ n. GoAlike 0 (suc j) h)) → StartsOnce server.setup (side 0 h) c
  world-starts [] c legal fresh alike = tt
  world-starts (e ∷ h) c legal fresh alike = of (e.node == 0) refl (world-starts h c before fresh.1 alike-before)
    where
      before : (j : ℕ) (n : Node) → slice_get nodes j ≡ Some n → Legal n.setup (side j h)
      before j n is = legal-before n.setup (e.node == j) e.event (side j h) (legal j n is)

      alike-before : (j : ℕ) → IfSome (slice_get nodes (suc j)) (λ n. GoAlike 0 (suc j) h)
      alike-before j = down (slice_get nodes (suc j)) (alike j)
        where
          down : (o : Option Node) → IfSome o (λ n. GoAlike 0 (suc j) (e ∷ h)) → IfSome o (λ n. GoAlike 0 (suc j) h)
          down None a = tt
          down (Some n) a = a.1

      head : (e.node == 0) ≡ true → StartsOnce server.setup (cond (e.node == 0) (e.event ∷ side 0 h) (side 0 h)) c
          → StartsNew server.setup (looks server.setup (side 0 h)) e.event c
      head here once = (subst (λ (b : Bool). StartsOnce server.setup
          (cond b (e.event ∷ side 0 h) (side 0 h)) c) here once).0

      own-legal : (e.node == 0) ≡ true → Legal server.setup (e.event ∷ side 0 h)
      own-legal here = subst (λ (b : Bool). Legal server.setup (cond b (e.event ∷ side 0 h) (side 0 h))) here
          (legal 0 server first)

      of : (b : Bool) → (e.node == 0) ≡ b → StartsOnce server.setup (side 0 h) c
          → StartsOnce server.setup (cond b (e.event ∷ side 0 h) (side 0 h)) c
      of false here once = once
      of true here once = (
        starts-any h (looks server.setup (side 0 h)) e.event c before
            (if-some (slice_get nodes e.node) server (λ n. IsFresh nodes h n.host e.event)
            (ap (slice_get nodes) (same_number e.node 0 here) ∙ first) fresh.0)
            (served server.setup.kind server.setup (looks server.setup (side 0 h)) e.event
            (serves nodes server first are apart) (own-legal here).0)
            (λ found. head here (starts-once (ends_in (connection_of c) found.index found.node server) (e ∷ h) c
            (world-lately nodes found.index found.node server (connection_of c) found.there found.kind first are apart
            (e ∷ h) legal fresh alike) refl)),
        once,
      )

  world-once : (h : List Noted) → ((j : ℕ) (n : Node) → slice_get nodes j ≡ Some n → Legal n.setup (side j h))
      → AreFresh nodes h
      → ((j : ℕ) → IfSome (slice_get nodes (suc j)) (λ n. GoAlike 0 (suc j) h)) → Once (side 0 h)
  world-once h legal fresh alike c =
      of (call_at (looks server.setup (side 0 h)) c)
      (server-serves server.setup (side 0 h) c (serves nodes server first are apart)
      (if-some (slice_get nodes 0) server (λ n. FitsSetup n.setup) first (are.fits 0))
      (legal 0 server first) (world-starts h c legal fresh alike)).counted
    where
      of : (o : Option CallRecord) → CountedOf o (times_accepted (side 0 h) c) (times_finished (side 0 h) c)
          (times finishes_well (side 0 h) c)
          → times_accepted (side 0 h) c ≤ 1
      of None counted = (let zero' = counted.0 in omega arith)
      of (Some k) counted = counted.once

-- where no datagram is old, every call of every client has the law
world-timed : (nodes : List Node) (h : List Noted) → World nodes h → Timely nodes h → LawIn nodes h
world-timed nodes h w timely =
    record {
      once = once-in (slice_get nodes 0) refl;
      connections = λ y k client server there kind first.
          law-on (ends_in y k client server) h
          (world-fed-by nodes k client server y there kind first w.sides.nodes_are w.apart h w
          (λ c on. starts-once (ends_in y k client server) h c
          (world-lately nodes k client server y there kind first w.sides.nodes_are w.apart h legal timely.fresh
          timely.alike) on));
    }
  where
    legal : (j : ℕ) (n : Node) → slice_get nodes j ≡ Some n → Legal n.setup (side j h)
    legal j n is = if-some (slice_get nodes j) n (λ n. Legal n.setup (side j h)) is (w.sides.legal j)

    once-in : (o : Option Node) → slice_get nodes 0 ≡ o → Once (side 0 h)
    once-in None is = absurd (subst (λ (q : Option Node). IsSomeAnd q
        (λ n. IsServer n.setup.kind)) is w.sides.nodes_are.server)
    once-in (Some n) is = world-once nodes n is w.sides.nodes_are w.apart h legal timely.fresh timely.alike

-- the law of a world
pub world-law : (nodes : List Node) (h : List Noted) → World nodes h → ServerForgotNone nodes h ⊎ Timely nodes h
    → LawIn nodes h
world-law nodes h w (inl kept) = world-kept nodes h w kept
world-law nodes h w (inr timely) = world-timed nodes h w timely
