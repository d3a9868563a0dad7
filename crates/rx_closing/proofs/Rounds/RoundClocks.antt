-- The clocks of rounds: one that gives nothing moves them, and the next one gives; and calls that are silent between
-- rounds.
use Rattle.std.proofs.Common.{◌≡◌, ◌≢◌, ◌<◌, ◌≤◌, ◌+◌, ◌-◌, ◌^◌, ◌==◌, ◌⊎◌, ℕ, zero, suc, Bool, true, false, List, []}
use Rattle.std.proofs.Common.{◌∷◌, refl, ap, sym, subst, ◌∙◌, inr, Option, Some, None, option_map, length, arith}
use Rattle.std.proofs.lemmas.Bool.{ne_eqb}
use Rattle.std.specs.Prelude.{IsSomeAnd, slice_get, ◌||◌}
use Rattle.rx_model.specs.declared.names.CallName.{CallName}
use Rattle.rx_rules.specs.After.{looks}
use Rattle.rx_rules.specs.Items.{due}
use Rattle.rx_rules.specs.Looks.{CallRecord, Looks}
use Rattle.rx_rules.specs.Records.{is_silent}
use Rattle.rx_history.specs.Sides.{Node, moment, side}
use Rattle.rx_history.proofs.Moments.{now-side}
use Rattle.rx_jobs.specs.Handlers.{Handlers}
use Rattle.rx_events.specs.Waits.{least_wait, wait_at}
use Rattle.rx_plan.specs.Parts.{To}
use Rattle.rx_plan.specs.Rounds.{may_move, settles}
use Rattle.rx_plan.specs.Stages.{Stage}
use Rattle.rx_rounds.specs.Clocks.{MovesOn, SomeSilent, has_silent}
use Rattle.rx_rounds.proofs.Clocks.GivesOrMoves.{all_may, due_gives, quiet_moves, wait_of_one, wait_within, none_pass}
use Rattle.rx_rounds.proofs.Clocks.NodeClock.{AreAwake}
use Rattle.rx_rounds.proofs.Rounded.{Made, RoundMade, settles_not, settles_still}
use Rattle.rx_closing.specs.Living.{looks_of}
use Rattle.rx_closing.proofs.Frame.{asked_in, served_in}
use Rattle.rx_closing.proofs.Polls.LaterDue.{due_then}

-- ---- the least wait

-- no clock is near its end
pub may_near : (s : Stage) (w : ℕ) → w ≤ 2000 → ((k : ℕ) → moment k s.history < 2 ^ 62 - 2000)
    → may_move w s ≡ true
may_near s w low early =
    all_may w s (λ k n there. (let m = early k in
    let size : 2 ^ 62 ≡ 4611686018427387904 = refl in omega arith))

-- ---- a quiet round, and the next

-- of two rounds that follow one another one gives something, or a call is silent between them: where something is due
-- at some node behind the turns of the first, and no clock is near its end
pub quiet_gives : (g : Handlers) (s t u : Stage) (a : RoundMade g s t) (b : RoundMade g t u) → a.called.nodes ≢ []
    → a.polled.given ≡ [] → (w : ℕ) → least_wait a.called.nodes a.called.history ≡ Some w
    → may_move w a.called ≡ true → (b.polled.given ≢ []) ⊎ SomeSilent t
quiet_gives g s t u a b some quiet w least may = of w least may
  where
    ends : Made (settles true) a.called t
    ends = subst (λ (q : Bool). Made (settles q) a.called t)
        (ap (λ ds. length ds == 0) quiet) a.settles_are

    some_t : t.nodes ≡ a.called.nodes → t.nodes ≢ []
    some_t same = λ none. some (sym same ∙ none)

    nth_low : {X : Type 0} (xs : List X) (k : ℕ) (x : X) → slice_get xs k ≡ Some x → k < length xs
    nth_low [] k x there = absurd cc
    nth_low (y ∷ xs) zero x there = omega arith
    nth_low (y ∷ xs) (suc k) x there = (let low = nth_low xs k x there in omega arith)

    -- the node that was to give next has something due at once
    at_once : (time : ℕ) (place : ℕ) (n : Node) → MovesOn (suc time) a.called t → slice_get t.nodes place ≡ Some n
        → t.nodes ≡ a.called.nodes → wait_at a.called.history place n ≡ Some (suc time)
        → AreAwake (looks n.setup (side place t.history)) → wait_at t.history place n ≡ Some 0
    at_once time place n moved there nodes wait awake =
        by (due n.setup (looks n.setup (side place a.called.history))) refl wait
      where
        l : Looks
        l = looks n.setup (side place a.called.history)

        now : l.now ≡ moment place a.called.history
        now = now-side n.setup place a.called.history

        is : looks n.setup (side place t.history) ≡ record l { now = l.now + suc time }
        is =
            moved.nodes place n.setup (subst (λ (ns : List Node). place < length ns) nodes
            (nth_low t.nodes place n there))
            ∙ ap (λ (m : ℕ). record l { now = m + suc time }) (sym now)

        by : (o : Option ℕ) → due n.setup l ≡ o
            → option_map (λ m. m - moment place a.called.history) o ≡ Some (suc time)
            → wait_at t.history place n ≡ Some 0
        by None none same =
            absurd (let no : ◌≡◌ {A = Option ℕ} None (Some (suc time)) = same in cc (no))
        by (Some d) due_is same =
            let long : d - moment place a.called.history ≡ suc time =
            (let both : ◌≡◌ {A = Option ℕ} (Some (d - moment place a.called.history)) (Some (suc time)) = same in
            cc (both)) in
            let at = due_then n.setup l (suc time) d (subst AreAwake is awake) due_is (omega (arith, now))
            (omega (arith, now)) in
            let later : moment place t.history ≡ l.now + suc time =
            sym (now-side n.setup place t.history) ∙ ap (λ (x : Looks). x.now) is in
            let none_left : (l.now + suc time) - moment place t.history ≡ 0 = omega arith in
            ap (λ (x : Looks). option_map (λ m. m - moment place t.history) (due n.setup x)) is
            ∙ ap (option_map (λ m. m - moment place t.history)) at
            ∙ ap (λ (m : ℕ). Some m) none_left

    moved_then : (time : ℕ) → MovesOn (suc time) a.called t
        → least_wait a.called.nodes a.called.history ≡ Some (suc time) → (b.polled.given ≢ []) ⊎ SomeSilent t
    moved_then time moved least =
        let nodes : t.nodes ≡ a.called.nodes = ap (λ (v : Stage). v.nodes) moved.rest in
        let one = wait_of_one a.called.nodes a.called.history (suc time) least in
        let at : 0 + one.place ≡ one.place = omega arith in
        let wait : wait_at a.called.history one.place one.node ≡ Some (suc time) =
        ap (λ (i : ℕ). wait_at a.called.history i one.node) (sym at) ∙ sym one.is in
        let there : slice_get t.nodes one.place ≡ Some one.node =
        ap (λ (ns : List Node). slice_get ns one.place) nodes ∙ one.there in
        by one.place one.node there nodes wait (has_silent (looks one.node.setup (side one.place t.history))) refl
      where
        by : (place : ℕ) (n : Node) → slice_get t.nodes place ≡ Some n → t.nodes ≡ a.called.nodes
            → wait_at a.called.history place n ≡ Some (suc time) → (q : Bool)
            → has_silent (looks n.setup (side place t.history)) ≡ q → (b.polled.given ≢ []) ⊎ SomeSilent t
        by place n there nodes wait true silent =
            inr (
              place,
              subst (λ (o : Option Node). IsSomeAnd o (λ m. has_silent (looks m.setup (side place t.history)) ≡ true))
                  (sym there) silent,
            )
        by place n there nodes wait false awake =
            let now = at_once time place n moved there nodes wait
            (none_pass (is_silent (looks n.setup (side place t.history)).now)
            (looks n.setup (side place t.history)).calls awake) in
            let low = wait_within t.nodes t.history place 0 n there now in
            let zero_is : low.0 ≡ 0 = (let few = low.2 in omega arith) in
            due_gives t b.polled b.polls_are.0 (some_t nodes)
            (low.1 ∙ ap (λ (m : ℕ). Some m) zero_is) b.polls_are.1

    of : (w : ℕ) → least_wait a.called.nodes a.called.history ≡ Some w → may_move w a.called ≡ true
        → (b.polled.given ≢ []) ⊎ SomeSilent t
    of (suc time) least may =
        moved_then time (quiet_moves a.called t ends.0 (suc time) some least may ends.1) least
    of zero least may =
        let same : t ≡ a.called = settles_still a.called t true least ends in
        due_gives t b.polled b.polls_are.0 (some_t (ap (λ (v : Stage). v.nodes) same))
        (ap (λ (v : Stage). least_wait v.nodes v.history) same ∙ least) b.polls_are.1

-- what a quiet round leaves: all clocks are later by the least wait, and nothing else changed
pub quiet_round : (g : Handlers) (s t : Stage) (a : RoundMade g s t) → a.called.nodes ≢ [] → a.polled.given ≡ []
    → (w : ℕ) → least_wait a.called.nodes a.called.history ≡ Some w → may_move w a.called ≡ true
    → MovesOn w a.called t
quiet_round g s t a some quiet w least may =
    quiet_moves a.called t a.settles_are.0 w some least may
    (subst (λ (q : Bool). settles q a.called a.settles_are.0
    (To t)) (ap (λ ds. length ds == 0) quiet) a.settles_are.1)

-- and one that gave something moves none
pub loud_round : (g : Handlers) (s t : Stage) (a : RoundMade g s t) → a.polled.given ≢ [] → t ≡ a.called
loud_round g s t a loud = of a.polled.given refl
  where
    of : (ds : List _) → a.polled.given ≡ ds → t ≡ a.called
    of [] none = absurd (loud none)
    of (d ∷ ds) is =
        settles_not a.called t (length a.polled.given == 0)
        (ap (λ xs. length xs == 0) is ∙ ne_eqb (suc (length ds)) 0 (λ (e : suc (length ds) ≡ 0). omega arith))
        a.settles_are

-- ---- a silent call

-- it is silent at one of its ends
abbrev pub SilentAt : CallName → ℕ → Node → Node → Stage → Type 0
SilentAt c k client server s =
    ((r : CallRecord) × (asked_in c k client s ≡ Some r) × (is_silent (looks_of s (suc k) client).now r ≡ true))
    ⊎ ((r : CallRecord) × (served_in c server s ≡ Some r) × (is_silent (looks_of s 0 server).now r ≡ true))
