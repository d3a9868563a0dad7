-- A stretch of 200 rounds for each call and one more can't be without a step: each two rounds of it give something,
-- which costs one of the calls some of what it has to give, and no call has much.
use Rattle.std.proofs.Common.{◌≡◌, ◌⊎◌, ◌+◌, ◌-◌, ◌*◌, ◌<◌, ◌≤◌, ℕ, suc, List, [], ◌∷◌, map, length, inl, inr, refl}
use Rattle.std.proofs.Common.{sym, subst, arith}
use Rattle.rx_rules.proofs.EveryLaws.{Every}
use Rattle.rx_history.specs.Sides.{Node, moment}
use Rattle.rx_law.specs.Worlds.{Datagram}
use Rattle.rx_script.specs.declared.plan.Numbered.{Numbered}
use Rattle.rx_jobs.specs.Handlers.{Handlers}
use Rattle.rx_plan.specs.Stages.{Stage}
use Rattle.rx_between.proofs.Each.EachItem.{In, in_map}
use Rattle.rx_rounds.proofs.Rounded.{RoundMade}
use Rattle.rx_closing.proofs.Polls.StreamOf.{StreamOf, StreamOfSome}
use Rattle.rx_closing.proofs.Rounds.Chains.{Chain, ChainSplit, chain_both, chain_split}
use Rattle.rx_closing.proofs.Rounds.StageAt.{stage_at, stage_front, stage_rest, stage_round}
use Rattle.rx_closing.proofs.Sums.Counts.{OneFalls, counts, too_many}
use Rattle.rx_closing.proofs.Sums.RoundLoads.{PaysIn}
use Rattle.rx_closing.proofs.Together.Members.{Member, Stretch}
use Rattle.rx_closing.proofs.Working.StandsFrom.{GivesOf}

-- ---- members, each with its place

-- one of some members
record Picked (ms : List Member) : Type 0 where
  it : Member
  inside : In it ms

abbrev behind : (m : Member) (ms : List Member) → Picked ms → Picked (m ∷ ms)
behind m ms p = record { it = p.it; inside = inr p.inside }

-- all of them
abbrev picked : (ms : List Member) → List (Picked ms)
picked [] = []
picked (m ∷ ms) = record { it = m; inside = inl refl } ∷ map (behind m ms) (picked ms)

map_length : {X Y : Type 0} (f : X → Y) (xs : List X) → length (map f xs) ≡ length xs
map_length f [] = refl
map_length f (x ∷ xs) = (let rest = map_length f xs in omega (arith, rest))

picked_length : (ms : List Member) → length (picked ms) ≡ length ms
picked_length [] = refl
picked_length (m ∷ ms) =
    (let same = map_length (behind m ms) (picked ms) in
    let rest = picked_length ms in
    omega (arith, same, rest))

record PickedOf (ms : List Member) (m : Member) : Type 0 where
  pick : Picked ms
  among : In pick (picked ms)
  is : pick.it ≡ m

pick_of : (ms : List Member) (m : Member) → In m ms → PickedOf ms m
pick_of [] m there = absurd there
pick_of (n ∷ ms) m (inl same) =
    record { pick = record { it = n; inside = inl refl }; among = inl refl; is = sym same }
pick_of (n ∷ ms) m (inr rest) =
    (let r = pick_of ms m rest in
    record {
      pick = behind n ms r.pick;
      among = inr (in_map (behind n ms) r.pick (picked ms) r.among);
      is = r.is;
    })

-- ---- what is known of a stretch

-- what is known of stages from s to u between which none comes further: what each member has to give from the third
-- stage on; that less than 12,000 ms have passed since then, four rounds before the end; that what is given is of the
-- members' streams; and that of two of so many rounds that follow one another one gives something
pub record StretchGives (g : Handlers) (ms : List Member) (n : ℕ) (s u : Stage) : Type 0 where
  pub pays : (i : ℕ) (z : Stage) → Chain g 2 s z → Chain g i z u → (m : Member) → In m ms
      → PaysIn g z u (GivesOf g m)
  pub late :
      (i j : ℕ) (z v : Stage) → Chain g 2 s z → Chain g i z v → Chain g (4 + j) v u
      → moment 0 v.history < moment 0 z.history + 12000
  pub streams :
      (i j : ℕ) (v w : Stage) → Chain g (suc i) s v → (r : RoundMade g v w) → Chain g (suc j) w u
      → Every (StreamOfSome v.nodes r.polled.stage.history ms) r.polled.given
  pub gives :
      (i j : ℕ) (v w x : Stage) → i + suc (suc j) ≡ n → Chain g i s v → (a : RoundMade g v w)
      → (b : RoundMade g w x) → Chain g j x u → a.polled.given ≡ [] → b.polled.given ≡ [] → ⊥

-- ---- the rounds that are counted

module _ (g : Handlers) (ms : List Member) (few : ℕ) (s z u : Stage) (front : Chain g 2 s z)
    (tail : Chain g (few + 3) z u) (facts : StretchGives g ms (2 + (few + 3)) s u) where
  abbrev at : ℕ → Stage
  at i = stage_at g (few + 3) z u tail i

  paid : (p : Picked ms) → PaysIn g z u (GivesOf g p.it)
  paid p = facts.pays (few + 3) z front tail p.it p.inside

  abbrev load : ℕ → Picked ms → ℕ
  load i p = (paid p).load (at i)

  before : (i : ℕ) → i < few → Chain g i z (at i)
  before i less = stage_front g i (few + 3) z u tail (omega (arith, less))

  round : (i : ℕ) → i < few → RoundMade g (at i) (at (suc i))
  round i less = stage_round g i (few + 3) z u tail (omega (arith, less))

  after : (i : ℕ) → i < few → Chain g (3 + (few - suc i)) (at (suc i)) u
  after i less = stage_rest g (suc i) (3 + (few - suc i)) (few + 3) z u tail (omega (arith, less))

  soon : (i : ℕ) → i < few → moment 0 (at i).history < moment 0 z.history + 12000
  soon i less =
      facts.late i (few - suc i) z (at i) front (before i less)
      (stage_rest g i (4 + (few - suc i)) (few + 3) z u tail (omega (arith, less)))

  fall : (i : ℕ) → (less : i < few) → (p : Picked ms)
      → (load (suc i) p ≤ load i p)
      × (GivesOf g p.it (at i) (at (suc i)) (round i less) → load (suc i) p + 2000 ≤ load i p)
  fall i less p =
      (paid p).falls i (3 + (few - suc i)) (at i) (at (suc i)) (before i less) (round i less) (after i less)
      (omega arith) (soon i less)

  -- a round that gives something costs one of them
  costs : (i : ℕ) → (less : i < few) → (d : Datagram) (ds : List Datagram) → (round i less).polled.given ≡ d ∷ ds
      → OneFalls (picked ms) (load i) (load (suc i))
  costs i less d ds is =
      (let p = pick_of ms one.member one.inside in
      let r : RoundMade g (at i) (at (suc i)) = round i less in (
        p.pick,
        p.among,
        (fall i less p.pick).1 (
          d,
          subst (λ (xs : List Datagram). In d xs) (sym is) (inl refl),
          subst (λ (m : Member). StreamOf (at i).nodes r.polled.stage.history m d) (sym p.is) one.of,
        ),
      ))
    where
      back : (j : ℕ) → 3 + j ≡ suc (2 + j)
      back j = omega arith

      forth : (j : ℕ) → 2 + j ≡ suc (suc j)
      forth j = omega arith

      one : StreamOfSome (at i).nodes (round i less).polled.stage.history ms d
      one =
          (subst (Every (StreamOfSome (at i).nodes (round i less).polled.stage.history ms)) is
          (facts.streams (suc i) (2 + (few - suc i)) (at i) (at (suc i))
          (subst (λ (n : ℕ). Chain g n s (at i)) (forth i) (chain_both g 2 i s z (at i) front (before i less)))
          (round i less)
          (subst (λ (n : ℕ). Chain g n (at (suc i)) u) (back (few - suc i)) (after i less)))).0

  two : (i : ℕ) → suc i < few
      → OneFalls (picked ms) (load i) (load (suc i)) ⊎ OneFalls (picked ms) (load (suc i)) (load (suc (suc i)))
  two i less = of (round i first).polled.given refl (round (suc i) less).polled.given refl
    where
      first : i < few
      first = omega (arith, less)

      all : (j m : ℕ) → suc j < m → (2 + j) + suc (suc (3 + (m - suc (suc j)))) ≡ 2 + (m + 3)
      all j m low = omega (arith, low)

      of : (ds : List Datagram) → (round i first).polled.given ≡ ds → (es : List Datagram)
          → (round (suc i) less).polled.given ≡ es
          → OneFalls (picked ms) (load i) (load (suc i)) ⊎ OneFalls (picked ms) (load (suc i)) (load (suc (suc i)))
      of (d ∷ ds) is es next = inl (costs i first d ds is)
      of [] is (e ∷ es) next = inr (costs (suc i) less e es next)
      of [] is [] next =
          absurd (facts.gives (2 + i) (3 + (few - suc (suc i))) (at i) (at (suc i)) (at (suc (suc i)))
          (all i few less) (chain_both g 2 i s z (at i) front (before i first)) (round i first) (round (suc i) less)
          (after (suc i) less) is next)

  -- so they are few
  few_rounds : 1000 * few ≤ 90100 * length ms + 1000
  few_rounds =
      subst (λ (l : ℕ). 1000 * few ≤ 90100 * l + 1000) (picked_length ms)
      (counts (picked ms) load few (λ p there. start p) (λ i less p there. (fall i less p).0) two)
    where
      start : (p : Picked ms) → load 0 p ≤ 90100
      start p = (paid p).most

-- and a stretch is longer
pub never_long_by : (g : Handlers) (ls : List Numbered) (server : Node) (ms : List Member) (s u : Stage)
    → Stretch g ls server ms (200 * (length ms + 1)) s u → StretchGives g ms (200 * (length ms + 1)) s u → ⊥
never_long_by g ls server ms s u st facts =
    by (chain_split g 2 (few + 3) (200 * (length ms + 1)) s u (parts (length ms)) st.rounds)
  where
    few : ℕ
    few = 200 * (length ms + 1) - 5

    parts : (l : ℕ) → 200 * (l + 1) ≡ 2 + ((200 * (l + 1) - 5) + 3)
    parts l = omega arith

    past : (l : ℕ) → (200 * (l + 1) - 5) + 8 < 200 * (l + 1) → ⊥
    past l less = omega (arith, less)

    by : ChainSplit g 2 (few + 3) s u → ⊥
    by q =
        past (length ms)
        (too_many (length ms) few (few_rounds g ms few s q.middle u q.front q.rest
        (subst (λ (m : ℕ). StretchGives g ms m s u) (parts (length ms)) facts)))
