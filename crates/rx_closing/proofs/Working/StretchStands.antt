-- The rounds of a stretch, from a stage behind two of them on: none of its calls comes further, nothing but streams is
-- owed, and the clocks of all nodes go together.
use Rattle.std.proofs.Common.{◌≡◌, ◌+◌, ℕ, suc, true, List, Option, Some, None, ap, sym, subst, ◌∙◌, arith}
use Rattle.std.specs.Prelude.{slice_get}
use Rattle.rx_rules.specs.Life.{is_live}
use Rattle.rx_rules.specs.Looks.{CallRecord, is_call}
use Rattle.rx_history.specs.Sides.{Node}
use Rattle.rx_script.specs.declared.plan.Numbered.{Numbered}
use Rattle.rx_jobs.specs.Handlers.{Handlers}
use Rattle.rx_plan.specs.Stages.{Stage}
use Rattle.rx_between.proofs.Each.EachItem.{In}
use Rattle.rx_rounds.proofs.Rounded.{RoundMade}
use Rattle.rx_closing.specs.Living.{looks_of}
use Rattle.rx_closing.proofs.Far.FarStands.{StandsOf, both_far, scene_stands}
use Rattle.rx_closing.proofs.Frame.{OneOf, asked_in}
use Rattle.rx_closing.proofs.Owing.AllBare.{LastOf, last_of}
use Rattle.rx_closing.proofs.Owing.OwesNone.{OwesNone}
use Rattle.rx_closing.proofs.Rounds.Chains.{Adds, Chain, chain_adds, chain_both, chain_more, chain_none}
use Rattle.rx_closing.proofs.Rounds.Clocks.{IsLater, clocks_same, round_settles}
use Rattle.rx_closing.proofs.Sums.RoundLoads.{EachStage, Together}
use Rattle.rx_closing.proofs.Together.AllRounds.{all_here_on, kept_front}
use Rattle.rx_closing.proofs.Together.JobsGo.{JobsGo}
use Rattle.rx_closing.proofs.Together.Members.{AllHere, IsAsking, Member, Stretch, names_of}
use Rattle.rx_closing.proofs.Together.MembersHere.{is_member}
use Rattle.rx_closing.proofs.Together.MembersStand.{WayStands, members_stand}
use Rattle.rx_closing.proofs.Working.StandsFrom.{StandsFrom}

-- a call that stands lives where it lived
lives_back : (o p : Option CallRecord) → StandsOf o p → is_call (λ r. is_live r.life) p ≡ true
    → is_call (λ r. is_live r.life) o ≡ true
lives_back None None stands living = living
lives_back None (Some b) stands living = absurd stands
lives_back (Some a) None stands living = absurd stands
lives_back (Some a) (Some b) stands living = sym (ap is_live stands.life) ∙ living

-- behind one round and before another no node owes anything but streams
abbrev pub AreBare : Handlers → Stage → Stage → Type 0
AreBare g s u =
    (i j : ℕ) (v : Stage) → Chain g (suc i) s v → Chain g (suc j) v u → (k : ℕ) (n : Node)
    → slice_get v.nodes k ≡ Some n → OwesNone (looks_of v k n)

module _ (g : Handlers) (ls : List Numbered) (server : Node) (jobs : JobsGo g ls server) (ms : List Member) (n : ℕ)
    (s u : Stage) (st : Stretch g ls server ms n s u) (bare : AreBare g s u) where
  -- at each stage all members are there
  pub here_at : (i j : ℕ) (v : Stage) → Chain g i s v → Chain g j v u → AllHere g ls server ms v
  here_at i j v front rest =
      all_here_on g ls server ms i s v front st.here
      (kept_front (names_of ms) s st.here.crowd g i j v u front rest st.kept)

  pub one_here : (i j : ℕ) (v : Stage) → Chain g i s v → Chain g j v u → (m : Member) → In m ms
      → OneOf m.call m.index m.client server v
  one_here i j v front rest m inside = (is_member g ls server ms v (here_at i j v front rest) m inside).one

  -- as far as they were
  pub ways_at : (i j : ℕ) (v : Stage) → Chain g i s v → Chain g j v u → (m : Member) → In m ms
      → WayStands g server m s v × WayStands g server m v u
  ways_at i j v front rest m inside =
      members_stand g ls server jobs ms i j s v u st.here front rest st.kept st.same m inside

  -- the one that is to be closed lives at its client
  pub asker_lives : (i j : ℕ) (v : Stage) → Chain g i s v → Chain g j v u → IsAsking v st.asker
  asker_lives i j v front rest =
      (let m : Member = st.asker in
      let grown : Adds v.history u.history = chain_adds g j v u rest in
      lives_back (asked_in m.call m.index m.client v) (asked_in m.call m.index m.client u)
      (scene_stands m.call m.index m.client server u
      (one_here (i + j) 0 u (chain_both g i j s v u front rest) (chain_none u) m st.inside) v grown.more grown.is
      (ways_at i j v front rest m st.inside).1.far).0 st.asking)

  module _ (z : Stage) (front : Chain g 2 s z) (i : ℕ) (rest : Chain g i z u) where
    -- the last round before it
    abbrev pub last : LastOf g 1 s z
    last = last_of g 1 s z front

    far_on : (j h : ℕ) (v : Stage) → Chain g j s v → Chain g h v u → (m : Member) → In m ms
        → both_far m.call m.index m.client server s ≡ both_far m.call m.index m.client server v
    far_on j h v before behind m inside = (ways_at j h v before behind m inside).0.far

    to_u : (h : ℕ) (v : Stage) → Chain g h v u → (w : Stage) → RoundMade g w v → Chain g (suc h) w u
    to_u h v behind w r = chain_more h w v u r behind

    from_s : (j : ℕ) (v : Stage) → Chain g j z v → Chain g (2 + j) s v
    from_s j v before = chain_both g 2 j s z v front before

    one_more : (j : ℕ) (v w : Stage) → Chain g j s v → RoundMade g v w → Chain g (j + 1) s w
    one_more j v w before r = chain_both g j 1 s v w before (chain_more 0 v w w r (chain_none w))

    bare_on : EachStage g z u 2 (λ v. (j : ℕ) (q : Node) → slice_get v.nodes j ≡ Some q → OwesNone (looks_of v j q))
    bare_on j h v before (chain_none o) many = absurd (omega (arith, many))
    bare_on j h v before (chain_more m o x y r others) many =
        bare (suc j) m o
        (let two : 2 + j ≡ suc (suc j) = omega arith in
        subst (λ (d : ℕ). Chain g d s o) two (from_s j o before))
        (chain_more m o x y r others)

    together_on : (j : ℕ) (q : Node) → slice_get z.nodes j ≡ Some q → EachStage g z u 0 (Together g z u j)
    together_on j q there h m v before behind many =
        (let a : Member = st.asker in
        let later : IsLater a.call a.index a.client server z v =
        clocks_same a.call a.index a.client server g h z v before
        (one_here (2 + h) m v (from_s h v before) behind a st.inside) (asker_lives 2 i z front rest)
        (asker_lives (2 + h) m v (from_s h v before) behind) in
        record {
          time = later.time;
          first = later.moments 0 server (one_here 2 i z front rest a st.inside).server_there;
          own = later.moments j q there;
        })

    -- what the loads of its calls are made of
    pub stands_here : StandsFrom g ls server ms last.middle z u
    stands_here =
        record {
          first = last.made;
          began = here_at 1 (suc i) last.middle last.front (to_u i z rest last.middle last.made);
          all = λ j h v before behind many. here_at (2 + j) h v (from_s j v before) behind;
          far_first = λ m inside.
              sym (far_on 1 (suc i) last.middle last.front (to_u i z rest last.middle last.made) m inside)
              ∙ far_on 2 i z front rest m inside;
          far = λ m inside j h v before behind many.
              sym (far_on 2 i z front rest m inside)
              ∙ far_on (2 + j) h v (from_s j v before) behind m inside;
          bare = bare_on;
          settles_first =
              (let a : Member = st.asker in
              round_settles a.call a.index a.client server g last.middle z last.made
              (one_here 2 i z front rest a st.inside)
              (asker_lives 1 (suc i) last.middle last.front (to_u i z rest last.middle last.made))
              (asker_lives 2 i z front rest));
          settles = λ j h v w before r behind many. (
              let a : Member = st.asker in
              let next = one_more (2 + j) v w (from_s j v before) r in
              round_settles a.call a.index a.client server g v w r
              (one_here ((2 + j) + 1) h w next behind a st.inside)
              (asker_lives (2 + j) (suc h) v (from_s j v before) (to_u h w behind v r))
              (asker_lives ((2 + j) + 1) h w next behind));
          together = together_on;
        }
