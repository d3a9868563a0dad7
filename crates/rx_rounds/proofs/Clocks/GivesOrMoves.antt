-- Of two rounds of any number of nodes that gave nothing, the first moves all clocks, or a call is silent behind it.
use Rattle.std.proofs.Common.{◌≡◌, ◌<◌, ◌≤◌, ◌+◌, ◌-◌, ◌^◌, ◌==◌, ◌⊎◌, not, ℕ, zero, suc, Bool, true, false, List, []}
use Rattle.std.proofs.Common.{◌∷◌, refl, ap, sym, subst, ◌∙◌, inl, inr, Option, Some, None, option_map}
use Rattle.std.proofs.Common.{length, nat_le, arith}
use Rattle.std.proofs.lemmas.Bool.{lt-leb}
use Rattle.std.specs.Prelude.{slice_get, IsSomeAnd, ◌||◌, ◌≢◌}
use Rattle.std.specs.List.{filter_map, list_any}
use Rattle.rx_model.specs.declared.event.Noted.{Noted}
use Rattle.rx_rules.specs.After.{looks}
use Rattle.rx_model.specs.Names.{Channel}
use Rattle.rx_rules.specs.Items.{all_channels, due, poll_answer}
use Rattle.rx_rules.specs.Life.{is_active}
use Rattle.rx_rules.specs.Looks.{CallRecord, latest}
use Rattle.rx_rules.specs.Setup.{is_client}
use Rattle.rx_rules.specs.Least.{least_by}
use Rattle.rx_rules.proofs.EveryLaws.{Every}
use Rattle.rx_rules.specs.Records.{is_silent, silenced}
use Rattle.rx_history.proofs.Moments.{now-side}
use Rattle.rx_history.specs.Sides.{Node, moment, side}
use Rattle.rx_law.specs.Worlds.{Datagram}
use Rattle.rx_events.specs.Waits.{least_wait, over_nodes, wait_at}
use Rattle.rx_plan.specs.Rounds.{Polled, may_move, polls}
use Rattle.rx_plan.specs.Stages.{Stage}
use Rattle.rx_rounds.specs.Clocks.{DueGives, PolledLater, QuietMoves, SomeSilent, has_silent}
use Rattle.rx_rounds.proofs.Clocks.ClocksMove.{settles_all}
use Rattle.rx_between.proofs.Each.EachItem.{In, least_in, least_low, least_none}
use Rattle.rx_rounds.proofs.Clocks.NodeClock.{AreAwake, due_later, due_near}
use Rattle.rx_rounds.proofs.Polls.PolledOut.{awake_later, polled_out}
use Rattle.rx_rounds.proofs.Polls.QuietPolls.{polls_asked}
use Rattle.rx_rounds.proofs.Rounded.{Made, settles_still}

-- ---- something of each node

-- it is one of what stands for a node
pub over_in : {X : Type 0} (f : ℕ → Node → X) (k : ℕ) (ns : List Node) (j : ℕ) (n : Node) → slice_get ns j ≡ Some n
    → In (f (k + j) n) (over_nodes f k ns)
over_in f k [] j n there = absurd cc
over_in f k (m ∷ ns) zero n there =
    (let same : m ≡ n = cc (there) in let at : k + 0 ≡ k = omega arith in inl (λ i. f (at i) (sym same i)))
over_in {X = X} f k (m ∷ ns) (suc j) n there =
    (let at : suc k + j ≡ k + suc j = omega arith in
    inr (subst (λ (i : ℕ). In (f i n) (over_nodes f (suc k) ns)) at (over_in f (suc k) ns j n there)))

-- a node for which something stands
pub record StandsFor {X : Type 0} (f : ℕ → Node → X) (k : ℕ) (ns : List Node) (x : X) : Type 0 where
  pub place : ℕ
  pub node : Node
  pub there : slice_get ns place ≡ Some node
  pub is : x ≡ f (k + place) node

pub over_of : {X : Type 0} (f : ℕ → Node → X) (k : ℕ) (ns : List Node) (x : X) → In x (over_nodes f k ns)
    → StandsFor f k ns x
over_of f k [] x there = absurd there
over_of f k (m ∷ ns) x (inl same) =
    (let at : k ≡ k + 0 = omega arith in
    record { place = zero; node = m; there = refl; is = same ∙ ap (λ (i : ℕ). f i m) at })
over_of f k (m ∷ ns) x (inr rest) =
    (let r = over_of f (suc k) ns x rest in
    let at : suc k + r.place ≡ k + suc r.place = omega arith in
    record { place = suc r.place; node = r.node; there = r.there; is = r.is ∙ ap (λ (i : ℕ). f i r.node) at })

-- ---- the least wait

gathered : (x : ℕ) (ts : List (Option ℕ)) → In (Some x) ts → In x (filter_map (λ (t : Option ℕ). t) ts)
gathered x [] there = absurd there
gathered x (None ∷ ts) (inl same) = absurd (let no : ⊥ = cc (same) in no)
gathered x (None ∷ ts) (inr rest) = gathered x ts rest
gathered x (Some y ∷ ts) (inl same) = (let equal : x ≡ y = cc (same) in inl equal)
gathered x (Some y ∷ ts) (inr rest) = inr (gathered x ts rest)

gathered_from : (x : ℕ) (ts : List (Option ℕ)) → In x (filter_map (λ (t : Option ℕ). t) ts) → In (Some x) ts
gathered_from x [] there = absurd there
gathered_from x (None ∷ ts) there = inr (gathered_from x ts there)
gathered_from x (Some y ∷ ts) (inl same) = inl (ap (λ (n : ℕ). Some n) same)
gathered_from x (Some y ∷ ts) (inr rest) = inr (gathered_from x ts rest)

-- where a node waits so long, the least wait is no longer
pub wait_within : (nodes : List Node) (h : List Noted) (k x : ℕ) (n : Node) → slice_get nodes k ≡ Some n
    → wait_at h k n ≡ Some x → (w : ℕ) × (least_wait nodes h ≡ Some w) × (w ≤ x)
wait_within nodes h k x n there is =
    (let at : 0 + k ≡ k = omega arith in
    let own : In (wait_at h k n) (over_nodes (wait_at h) 0 nodes) =
    subst (λ (i : ℕ). In (wait_at h i n) (over_nodes (wait_at h) 0 nodes)) at (over_in (wait_at h) 0 nodes k n there) in
    let some : In x (filter_map (λ (t : Option ℕ). t) (over_nodes (wait_at h) 0 nodes)) =
    gathered x (over_nodes (wait_at h) 0 nodes)
    (subst (λ (o : Option ℕ). In o (over_nodes (wait_at h) 0 nodes)) is own) in
    of (least_by (λ (m : ℕ). m) (filter_map (λ (t : Option ℕ). t) (over_nodes (wait_at h) 0 nodes))) refl some)
  where
    of : (o : Option ℕ)
        → least_by (λ (m : ℕ). m) (filter_map (λ (t : Option ℕ). t) (over_nodes (wait_at h) 0 nodes)) ≡ o
        → In x (filter_map (λ (t : Option ℕ). t) (over_nodes (wait_at h) 0 nodes))
        → (w : ℕ) × (least_wait nodes h ≡ Some w) × (w ≤ x)
    of None none some =
        absurd (subst (λ (ms : List ℕ). In x ms)
        (least_none (λ (m : ℕ). m) (filter_map (λ (t : Option ℕ). t) (over_nodes (wait_at h) 0 nodes)) none) some)
    of (Some w) least some = (
      w,
      least,
      least_low (λ (m : ℕ). m) w x (filter_map (λ (t : Option ℕ). t) (over_nodes (wait_at h) 0 nodes))
          least some,
    )

-- some node waits for as long as the least wait
pub wait_of_one : (nodes : List Node) (h : List Noted) (w : ℕ) → least_wait nodes h ≡ Some w
    → StandsFor (wait_at h) 0 nodes (Some w)
wait_of_one nodes h w least =
    over_of (wait_at h) 0 nodes (Some w)
    (gathered_from w (over_nodes (wait_at h) 0 nodes)
    (least_in (λ (m : ℕ). m) w (filter_map (λ (t : Option ℕ). t) (over_nodes (wait_at h) 0 nodes)) least))

-- no clock is near its end, so all may move
pub all_may : (time : ℕ) (s : Stage)
    → ((k : ℕ) (n : Node) → slice_get s.nodes k ≡ Some n → moment k s.history + time < 2 ^ 62)
    → may_move time s ≡ true
all_may time s early = ap not (none 0 s.nodes (λ j n there. (let at : 0 + j ≡ j = omega arith in
    subst (λ (i : ℕ). moment i s.history + time < 2 ^ 62) (sym at) (early j n there))))
  where
    none : (k : ℕ) (ns : List Node)
        → ((j : ℕ) (n : Node) → slice_get ns j ≡ Some n → moment (k + j) s.history + time < 2 ^ 62)
        → list_any (λ m. nat_le (2 ^ 62) (m + time)) (over_nodes (λ k n. moment k s.history) k ns) ≡ false
    none k [] early = refl
    none k (n ∷ ns) early =
        let at : k + 0 ≡ k = omega arith in
        let low : moment k s.history + time < 2 ^ 62 =
        subst (λ (i : ℕ). moment i s.history + time < 2 ^ 62) at (early 0 n refl) in
        rw (lt-leb (2 ^ 62) (moment k s.history + time) low)
        (none (suc k) ns (λ j m there. (let next : k + suc j ≡ suc k + j = omega arith in
        subst (λ (i : ℕ). moment i s.history + time < 2 ^ 62) next (early (suc j) m there))))

-- a client whose call lives waits for no more than 2,000 ms, and so do all
pub client_near : (s : Stage) (k : ℕ) (n : Node) (ch : Channel) (r : CallRecord) → slice_get s.nodes k ≡ Some n
    → is_client n.setup.kind ≡ true → In ch (all_channels (looks n.setup (side k s.history)).conns)
    → latest (looks n.setup (side k s.history)) ch ≡ Some r → is_active r.life ≡ true
    → is_silent (looks n.setup (side k s.history)).now r ≡ false
    → r.looks.spoke ≤ (looks n.setup (side k s.history)).now
    → (w : ℕ) × (least_wait s.nodes s.history ≡ Some w) × (w ≤ 2000)
client_near s k n ch r there client known latest_is active awake spoke =
    (let near = due_near n.setup (looks n.setup (side k s.history)) ch r client known latest_is active awake spoke in
    let wait : wait_at s.history k n ≡ Some (near.0 - moment k s.history) =
    ap (option_map (λ m. m - moment k s.history)) near.1 in
    let least = wait_within s.nodes s.history k (near.0 - moment k s.history) n there wait in
    let now : (looks n.setup (side k s.history)).now ≡ moment k s.history = now-side n.setup k s.history in
    let short : near.0 ≤ (looks n.setup (side k s.history)).now + 2000 = near.2 in
    let low : least.0 ≤ near.0 - moment k s.history = least.2 in
    (least.0, least.1, omega arith))

-- ---- two rounds

-- none passes
pub none_pass : {X : Type 0} (p : X → Bool) (xs : List X) → list_any p xs ≡ false → Every (λ (x : X). p x ≡ false) xs
none_pass p [] none = tt
none_pass {X = X} p (x ∷ xs) none =
    (elim (p x) as (λ b. p x ≡ b → (b || list_any p xs) ≡ false → Every (λ (y : X). p y ≡ false) (x ∷ xs)) [
      | true ↦ λ passes some. absurd cc
      | false ↦ λ fails rest. (fails, none_pass p xs rest)
    ]) refl none

pub nth_low : {X : Type 0} (xs : List X) (k : ℕ) (x : X) → slice_get xs k ≡ Some x → k < length xs
nth_low [] k x there = absurd cc
nth_low (y ∷ xs) zero x there = omega arith
nth_low (y ∷ xs) (suc k) x there = (let low = nth_low xs k x there in omega arith)

some_nodes : (ns : List Node) → ns ≢ [] → (count : ℕ) × (length ns ≡ suc count)
some_nodes [] some = absurd (some refl)
some_nodes (n ∷ ns) some = (length ns, refl)

-- where something is due at once and nothing is given, a call is silent
pub silent_then : (s : Stage) (p : Polled) → s.nodes ≢ [] → Made polls s p → p.given ≡ []
    → least_wait s.nodes s.history ≡ Some 0 → SomeSilent s
silent_then s p some made quiet least =
    (let many = some_nodes s.nodes some in
    let one = wait_of_one s.nodes s.history 0 least in
    let at : 0 + one.place ≡ one.place = omega arith in
    let wait : wait_at s.history one.place one.node ≡ Some 0 =
    ap (λ (i : ℕ). wait_at s.history i one.node) (sym at) ∙ sym one.is in
    let none = (polls_asked many.0 s p many.1 made quiet).none one.place one.node
    (nth_low s.nodes one.place one.node one.there) one.there in (
      one.place,
      subst (λ (o : Option Node). IsSomeAnd o (λ n. has_silent (looks n.setup (side one.place s.history)) ≡ true))
          (sym one.there) (by one.place one.node none
          (has_silent (looks one.node.setup (side one.place s.history))) refl wait),
    ))
  where
    no : (k : ℕ) (n : Node) → AreAwake (looks n.setup (side k s.history))
        → poll_answer n.setup (looks n.setup (side k s.history)) ≡ None → (o : Option ℕ)
        → due n.setup (looks n.setup (side k s.history)) ≡ o
        → option_map (λ m. m - moment k s.history) (due n.setup (looks n.setup (side k s.history))) ≡ Some 0 → ⊥
    no k n awake none None is wait =
        (let nothing : ◌≡◌ {A = Option ℕ} None (Some 0) =
        sym (ap (option_map (λ m. m - moment k s.history)) is) ∙ wait in cc (nothing))
    no k n awake none (Some d) is wait =
        let now : d - moment k s.history ≡ 0 =
        (let both : ◌≡◌ {A = Option ℕ} (Some (d - moment k s.history)) (Some 0) =
        sym (ap (option_map (λ m. m - moment k s.history)) is) ∙ wait in cc (both)) in
        let later : (looks n.setup (side k s.history)).now < d =
        awake_later n.setup (looks n.setup (side k s.history)) d awake none is in
        let same : (looks n.setup (side k s.history)).now ≡ moment k s.history = now-side n.setup k s.history in
        omega arith

    by : (k : ℕ) (n : Node) → poll_answer n.setup (looks n.setup (side k s.history)) ≡ None → (b : Bool)
        → has_silent (looks n.setup (side k s.history)) ≡ b → wait_at s.history k n ≡ Some 0
        → has_silent (looks n.setup (side k s.history)) ≡ true
    by k n none true silent wait = silent
    by k n none false awake wait =
        absurd (no k n (none_pass (is_silent (looks n.setup (side k s.history)).now)
        (looks n.setup (side k s.history)).calls awake) none (due n.setup (looks n.setup (side k s.history))) refl wait)

-- what is due at once is given by the next polls, unless a call is silent
pub due_gives : DueGives
due_gives s p es some least made = by p.given refl
  where
    by : (given : List Datagram) → p.given ≡ given → (p.given ≢ []) ⊎ SomeSilent s
    by [] quiet = inr (silent_then s p some (es, made) quiet least)
    by (d ∷ ds) is = inl (λ none. cc)

-- all clocks move on by the least wait
pub quiet_moves : QuietMoves
quiet_moves s t es zero some least may made =
    (let same : t ≡ s = settles_still s t true least (es, made) in
    record {
      nodes = λ k setup low.
          ap (λ (u : Stage). looks setup (side k u.history)) same
          ∙ ap (λ (n : ℕ). record (looks setup (side k s.history)) { now = n })
          (let at : moment k s.history + 0 ≡ moment k s.history = omega arith in
          now-side setup k s.history ∙ sym at);
      rest = same ∙ ap (λ (u : Stage). record s { history = u.history }) (sym same);
    })
quiet_moves s t es (suc time) some least may made =
    (let many = some_nodes s.nodes some in
    let moved = settles_all many.0 time s t many.1 least may (es, made) in
    record { nodes = λ k setup low. ap (looks setup) (moved.sides k low); rest = moved.rest })

-- what is due of a node that gave nothing is due later
pub polled_later : PolledLater
polled_later s l d none is =
    (let out = polled_out s l none in due_later s (silenced l) d out.strays out.items out.awake is)
