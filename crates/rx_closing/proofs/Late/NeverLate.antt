-- In a stretch, twelve seconds don't pass behind its first two rounds, but for its last ones; and of two rounds that
-- follow one another one gives something: so there is none.
use Rattle.std.proofs.Common.{◌≡◌, ◌<◌, ◌≤◌, ◌+◌, ◌-◌, ◌*◌, ◌^◌, ℕ, suc, Bool, true, false, List, [], ◌∷◌, length}
use Rattle.std.proofs.Common.{Option, Some, None, inl, inr, refl, sym, subst, ◌∙◌, arith}
use Rattle.rx_rules.specs.Life.{is_active}
use Rattle.rx_rules.specs.Looks.{CallRecord}
use Rattle.rx_rules.proofs.EveryLaws.{Every}
use Rattle.rx_history.specs.Sides.{Node, moment}
use Rattle.rx_script.specs.declared.plan.Numbered.{Numbered}
use Rattle.rx_jobs.specs.Handlers.{Handlers}
use Rattle.rx_plan.specs.Answering.{AreServable}
use Rattle.rx_plan.specs.Stages.{Stage}
use Rattle.rx_between.proofs.Each.EachItem.{In}
use Rattle.rx_rounds.proofs.Rounded.{RoundMade}
use Rattle.rx_closing.proofs.Ends.AtRest.{Rest}
use Rattle.rx_closing.proofs.Ends.LoneEnd.{LoneRound}
use Rattle.rx_closing.proofs.Far.AtWork.{IsServing}
use Rattle.rx_closing.proofs.Frame.{IsKept, OneOf, served_in}
use Rattle.rx_closing.proofs.Late.AskerEarly.{never_quiet, never_unheard, never_works}
use Rattle.rx_closing.proofs.Late.LateTold.{told_spoke}
use Rattle.rx_closing.proofs.Late.LateWorks.{never_rested}
use Rattle.rx_closing.proofs.Owing.AllBare.{LastOf, last_of}
use Rattle.rx_closing.proofs.Polls.StreamOf.{StreamOfSome}
use Rattle.rx_closing.proofs.Polls.StreamsOnly.{streams_only}
use Rattle.rx_closing.proofs.Rounds.Chains.{Chain, chain_both, chain_more, chain_none, round_adds}
use Rattle.rx_closing.proofs.Rounds.Clocks.{chain_early}
use Rattle.rx_closing.proofs.Rounds.RoundsGive.{AreOnes, LivesAt, OnlyThese, one_gives}
use Rattle.rx_closing.proofs.Sums.NeverLong.{StretchGives, never_long_by}
use Rattle.rx_closing.proofs.Sums.Pays.{pays_in}
use Rattle.rx_closing.proofs.Sums.RoundLoads.{EachRound, EachStage, both_ends, lone_end}
use Rattle.rx_closing.proofs.Telling.DoneCode.{done_code}
use Rattle.rx_closing.proofs.Together.JobsGo.{JobsGo}
use Rattle.rx_closing.proofs.Together.Members.{Member, Stretch, member_way}
use Rattle.rx_closing.proofs.Together.MembersStand.{stands_both, stands_sym, stands_way}
use Rattle.rx_closing.proofs.Unknown.UnservedMeet.{IsAsked, scene_asked}
use Rattle.rx_closing.proofs.Working.MemberRounds.{IsIdle, asked_rounds, both_rounds}
use Rattle.rx_closing.proofs.Working.StandsFrom.{StandsFrom}
use Rattle.rx_closing.proofs.Working.StretchStands.{AreBare, asker_lives, here_at, one_here, stands_here, ways_at}

-- each call is one at a stage
each_one : (server : Node) (v : Stage) (ms : List Member)
    → ((m : Member) → In m ms → OneOf m.call m.index m.client server v) → AreOnes server ms v
each_one server v [] each = tt
each_one server v (m ∷ ms) each = (
  each m (inl refl),
  each_one server v ms (λ n there. each n (inr there)),
)

module _ (g : Handlers) (ls : List Numbered) (servable : AreServable g) (server : Node) (jobs : JobsGo g ls server)
    (ms : List Member) (n : ℕ) (s u : Stage) (st : Stretch g ls server ms n s u) (bare : AreBare g s u) where
  abbrev a : Member
  a = st.asker

  -- all are there at the end
  ones_u : (i : ℕ) → Chain g i s u → AreOnes server ms u
  ones_u i whole =
      each_one server u ms (one_here g ls server jobs ms n s u st bare i 0 u whole (chain_none u))

  -- ---- late

  module _ (z : Stage) (front : Chain g 2 s z) (i j : ℕ) (v : Stage) (mid : Chain g i z v)
      (rest : Chain g (4 + j) v u) where
    behind : Chain g (i + (4 + j)) z u
    behind = chain_both g i (4 + j) z v u mid rest

    whole : Chain g (2 + (i + (4 + j))) s u
    whole = chain_both g 2 (i + (4 + j)) s z u front behind

    abbrev before : LastOf g 1 s z
    before = last_of g 1 s z front

    so : StandsFrom g ls server ms before.middle z u
    so = stands_here g ls server jobs ms n s u st bare z front (i + (4 + j)) behind

    ones : AreOnes server ms u
    ones = ones_u (2 + (i + (4 + j))) whole

    from_s : (h : ℕ) (x : Stage) → Chain g h z x → Chain g (2 + h) s x
    from_s h x up = chain_both g 2 h s z x front up

    lives : EachStage g z u 0 (LivesAt server a)
    lives h o x up on many = asker_lives g ls server jobs ms n s u st bare (2 + h) o x (from_s h x up) on

    lived : LivesAt server a before.middle
    lived =
        asker_lives g ls server jobs ms n s u st bare 1 (suc (i + (4 + j))) before.middle before.front
        (chain_more (i + (4 + j)) before.middle z u before.made behind)

    one : OneOf a.call a.index a.client server z
    one = one_here g ls server jobs ms n s u st bare 2 (i + (4 + j)) z front behind a st.inside

    asked : IsAsked a.call a.index a.client z
    asked =
        scene_asked a.call a.index a.client server z one
        (lives 0 (i + (4 + j)) z (chain_none z) behind (omega arith))

    all_z : (o : ℕ) × Chain g o z u
    all_z = (i + (4 + j), behind)

    abbrev Soon : Type 0
    Soon = moment 0 v.history < moment 0 z.history + 12000

    -- its server has no record of it
    unknown : IsIdle (served_in a.call server z) → EachRound g z u 2 (λ x w r. LoneRound a.client.setup true
        (lone_end a.call (suc a.index) a.client x) (lone_end a.call (suc a.index) a.client w))
    unknown idle h o x w up r on many =
        (asked_rounds g ls servable server ms before.middle z u so all_z a st.inside asked idle h o x w up r on many).0

    -- at work
    works : IsServing a.call server z → Soon
    works b =
        never_works g server ms z u ones a st.inside lives before.middle before.made lived
        (λ h o x w up r on many.
        (both_rounds g ls servable server ms before.middle z u so all_z a st.inside asked b h o x w up r on many).0)
        restless i (4 + j) v mid rest (omega arith)
      where
        same_way : (o : ℕ) (w : Stage) → RoundMade g z w → Chain g o w u
            → member_way g server z a ≡ member_way g server w a
        same_way o w r on =
            (let at_z = (ways_at g ls server jobs ms n s u st bare 2 (suc o) z front (chain_more o z w u r on) a
            st.inside).0 in
            let at_w = (ways_at g ls server jobs ms n s u st bare (2 + 1) o w
            (from_s 1 w (chain_more 0 z w w r (chain_none w))) on a st.inside).0 in
            stands_way g server a z w
            (stands_both g server a z s w (stands_sym g server a s z at_z) at_w))

        first : (o : ℕ) (x : Stage) → Chain g o z x → x ≡ u → 1 ≤ o → Rest (both_ends a.call a.index a.client server z)
            → ⊥
        first o x (chain_none q) is many rested = absurd (omega (arith, many))
        first o x (chain_more p q w t r on) is many rested =
            (let on_u : Chain g p w u = subst (λ (d : Stage). Chain g p w d) is on in
            never_rested g ls servable server jobs ms before.middle q u so all_z a st.inside asked b p w r on_u
            (same_way p w r on_u) rested)

        restless : Rest (both_ends a.call a.index a.client server z) → ⊥
        restless rested = first (i + (4 + j)) u behind refl (omega arith) rested

    -- done with it
    told : (b : CallRecord) → served_in a.call server z ≡ Some b → is_active b.life ≡ false → Soon
    told b is idle =
        (let code = done_code a.call a.index a.client server z one asked.call b asked.there asked.calling is idle in
        never_quiet g server ms z u ones a st.inside lives before.middle before.made lived
        (told_spoke g ls servable server ms before.middle z u so all_z a st.inside asked b is idle code.0 code.1)
        i (4 + j) v mid rest (omega arith))

    -- so it isn't late
    pub never_late : Soon
    never_late = of (served_in a.call server z) refl
      where
        by : (b : CallRecord) → served_in a.call server z ≡ Some b → (q : Bool) → is_active b.life ≡ q → Soon
        by b is true active = works (record { call = b; there = is; works = active })
        by b is false idle = told b is idle

        of : (o : Option CallRecord) → served_in a.call server z ≡ o → Soon
        of None is =
            never_unheard g server ms z u ones a st.inside lives
            (unknown (λ r there.
            absurd (let no : ◌≡◌ {A = Option CallRecord} None (Some r) = sym is ∙ there in cc (no))))
            (so.far a st.inside) i (4 + j) v mid rest (omega arith)
        of (Some b) is = by b is (is_active b.life) refl

  -- ---- of two rounds one gives something

  only : EachStage g s u 0 (OnlyThese ms)
  only i o v front rest many = (here_at g ls server jobs ms n s u st bare i o v front rest).crowd.among

  pub gives : (i o : ℕ) (v w x : Stage) → i + suc (suc o) ≡ n → Chain g i s v → (p : RoundMade g v w)
      → (q : RoundMade g w x) → Chain g o x u → p.polled.given ≡ [] → q.polled.given ≡ [] → ⊥
  gives i o v w x sum front p q rest quiet silent =
      one_gives g server ms s u (ones_u (i + suc (suc o)) whole) a st.inside
      (λ h j d up on many. asker_lives g ls server jobs ms n s u st bare h j d up on) only
      (λ m inside h j d up on many. (ways_at g ls server jobs ms n s u st bare h j d up on m inside).0.far)
      i o v w x early front p q rest quiet silent
    where
      on_v : Chain g (suc (suc o)) v u
      on_v = chain_more (suc o) v w u p (chain_more o w x u q rest)

      whole : Chain g (i + suc (suc o)) s u
      whole = chain_both g i (suc (suc o)) s v u front on_v

      early : (j : ℕ) → moment j v.history < 2 ^ 62 - 2000
      early j =
          soon (moment j v.history) o
          (chain_early a.call a.index a.client server g i (suc (suc o)) s v u front on_v
          (one_here g ls server jobs ms n s u st bare (i + suc (suc o)) 0 u whole (chain_none u) a st.inside)
          (asker_lives g ls server jobs ms n s u st bare 0 (i + suc (suc o)) s (chain_none s) whole)
          st.asking (λ h. subst (λ (d : ℕ). moment h s.history + 2000 * d < 2 ^ 62) (sym sum) (st.early h)) j)
        where
          soon : (x y : ℕ) → x + 2000 * suc (suc y) < 2 ^ 62 → x < 2 ^ 62 - 2000
          soon x y low = (let size : 2 ^ 62 ≡ 4611686018427387904 = refl in omega (arith, low, size))

  -- ---- streams

  pub streams : (i o : ℕ) (v w : Stage) → Chain g (suc i) s v → (r : RoundMade g v w) → Chain g (suc o) w u
      → Every (StreamOfSome v.nodes r.polled.stage.history ms) r.polled.given
  streams i o v w front r rest =
      (let more : Chain g (suc (suc o)) v u = chain_more (suc o) v w u r rest in
      let here = here_at g ls server jobs ms n s u st bare (suc i) (suc (suc o)) v front more in
      let to_w : Chain g (suc i + 1) s w =
      chain_both g (suc i) 1 s v w front (chain_more 0 v w w r (chain_none w)) in
      let there = here_at g ls server jobs ms n s u st bare (suc i + 1) (suc o) w to_w rest in
      streams_only g ms v w here.crowd (bare i (suc o) v front more) r
      (subst (λ (ns : List Node). IsKept ns w) (round_adds g v w r).nodes there.crowd.kept))

  -- ---- all of it

  pub stretch_gives : StretchGives g ms n s u
  stretch_gives =
      record {
        pays = λ i z front rest m inside.
            pays_in g ls servable server ms (last_of g 1 s z front).middle z u
            (stands_here g ls server jobs ms n s u st bare z front i rest) (i, rest) m inside;
        late = λ i j z v front mid rest. never_late z front i j v mid rest;
        streams = streams;
        gives = gives;
      }

-- so no stretch is so long
pub never_long : (g : Handlers) (ls : List Numbered) (server : Node) → AreServable g → JobsGo g ls server
    → ((ms : List Member) (n : ℕ) (s u : Stage) → Stretch g ls server ms n s u → AreBare g s u) → (ms : List Member)
    → (s u : Stage) → Stretch g ls server ms (200 * (length ms + 1)) s u → ⊥
never_long g ls server servable jobs bare ms s u st =
    never_long_by g ls server ms s u st
    (stretch_gives g ls servable server jobs ms (200 * (length ms + 1)) s u st
    (bare ms (200 * (length ms + 1)) s u st))
