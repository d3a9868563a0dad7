-- How a round settles in which a client's call lives that isn't silent: all clocks are later by one time, by 2,000 ms
-- at most, and nothing else changed.
use Rattle.std.proofs.Common.{◌≡◌, ◌≢◌, ◌<◌, ◌≤◌, ◌+◌, ◌==◌, ℕ, suc, Bool, true, false, List, [], ◌∷◌, length, Option}
use Rattle.std.proofs.Common.{Some, None, refl, ap, sym, subst, ◌∙◌, arith}
use Rattle.std.proofs.lemmas.Option.{slice_get_within}
use Rattle.std.specs.Prelude.{slice_get, not, ◌&&◌}
use Rattle.rx_model.specs.declared.names.CallName.{CallName}
use Rattle.rx_model.specs.Names.{channel_of}
use Rattle.rx_rules.specs.After.{looks}
use Rattle.rx_rules.specs.Life.{is_active}
use Rattle.rx_rules.specs.Looks.{CallRecord, Looks, call_at}
use Rattle.rx_rules.specs.Records.{is_silent}
use Rattle.rx_rules.specs.Rules.{Legal}
use Rattle.rx_rules.specs.Setup.{FitsSetup, is_client}
use Rattle.rx_history.specs.Sides.{Node, moment, side}
use Rattle.rx_history.proofs.Moments.{now-side}
use Rattle.rx_history.proofs.Order.OrderlyEnter.{latest_is}
use Rattle.rx_law.proofs.World.{if-some}
use Rattle.rx_law.specs.Worlds.{Datagram}
use Rattle.rx_jobs.specs.Handlers.{Handlers}
use Rattle.rx_events.specs.Waits.{least_wait}
use Rattle.rx_plan.specs.Parts.{Part, To, by_test, each, ends}
use Rattle.rx_plan.specs.Rounds.{clients_first, may_move, moves_by, moves_on, settles}
use Rattle.rx_plan.specs.Stages.{Stage}
use Rattle.rx_rounds.specs.Clocks.{MovesOn}
use Rattle.rx_rounds.proofs.Clocks.GivesOrMoves.{client_near}
use Rattle.rx_rounds.proofs.Making.{ends_to}
use Rattle.rx_rounds.proofs.Rounded.{Made, RoundMade}
use Rattle.rx_closing.specs.Living.{looks_of}
use Rattle.rx_closing.proofs.Frame.{OneOf, asked_in}
use Rattle.rx_closing.proofs.Polls.NodePolls.{live_seen}
use Rattle.rx_closing.proofs.Rounds.RoundClocks.{loud_round, quiet_round}
use Rattle.rx_closing.proofs.Rounds.SpokeHolds.{past_holds}
use Rattle.rx_closing.proofs.Ends.RoomLaws.{active_lives}

-- ---- the clocks

-- the clocks that moved at the end of a round, whose polls gave these
pub record Settles (given : List Datagram) (s t : Stage) : Type 0 where
  pub time : ℕ
  pub short : time ≤ 2000
  pub rest : t ≡ record s { history = t.history }
  pub looks :
      (j : ℕ) (n : Node) → slice_get s.nodes j ≡ Some n
      → looks_of t j n ≡ record (looks_of s j n) { now = moment j s.history + time }
  pub moves : 0 < time → given ≡ []
  pub least : 0 < time → least_wait s.nodes s.history ≡ Some time
  pub may : 0 < time → may_move time s ≡ true

-- each node's is later by that
pub settles_moment : (given : List Datagram) (s t : Stage) (m : Settles given s t) → (j : ℕ) (n : Node)
    → slice_get s.nodes j ≡ Some n → moment j t.history ≡ moment j s.history + m.time
settles_moment given s t m j n there =
    sym (now-side n.setup j t.history) ∙ ap (λ (l : Looks). l.now) (m.looks j n there)

-- each has its calls as they were
pub settles_call : (given : List Datagram) (s t : Stage) → Settles given s t → (j : ℕ) (n : Node)
    → slice_get s.nodes j ≡ Some n → (d : CallName) → call_at (looks_of t j n) d ≡ call_at (looks_of s j n) d
settles_call given s t m j n there d = ap (λ (l : Looks). call_at l d) (m.looks j n there)

-- ---- where they stay, and where they move

rest_same : (s t : Stage) → t ≡ s → t ≡ record s { history = t.history }
rest_same s t same = same ∙ ap (λ (u : Stage). record s { history = u.history }) (sym same)

pub settles_same : (given : List Datagram) (s t : Stage) → t ≡ s → Settles given s t
settles_same given s t same =
    record {
      time = 0;
      short = omega arith;
      rest = rest_same s t same;
      looks = λ j n there.
          ap (λ (u : Stage). looks n.setup (side j u.history)) same
          ∙ ap (λ (m : ℕ). record (looks n.setup (side j s.history)) { now = m })
          (let at : moment j s.history + 0 ≡ moment j s.history = omega arith in
          now-side n.setup j s.history ∙ sym at);
      moves = λ some. absurd (omega (arith, some));
      least = λ some. absurd (omega (arith, some));
      may = λ some. absurd (omega (arith, some));
    }

pub settles_moved : (given : List Datagram) (s t : Stage) (time : ℕ) → given ≡ [] → MovesOn time s t
    → least_wait s.nodes s.history ≡ Some time → time ≤ 2000 → may_move time s ≡ true → Settles given s t
settles_moved given s t time none moved least short may =
    record {
      time = time;
      short = short;
      rest = moved.rest;
      looks = λ j n there. moved.nodes j n.setup (slice_get_within s.nodes j n there);
      moves = λ some. none;
      least = λ some. least;
      may = λ some. may;
    }

-- ---- the least wait

-- where a client's call lives that isn't silent, what is due next is due within 2,000 ms
pub wait_short : (c : CallName) (k : ℕ) (client server : Node) (s : Stage) (r : CallRecord)
    → OneOf c k client server s → asked_in c k client s ≡ Some r → is_active r.life ≡ true
    → is_silent (looks_of s (suc k) client).now r ≡ false
    → (w : ℕ) × (least_wait s.nodes s.history ≡ Some w) × (w ≤ 2000)
wait_short c k client server s r one there active awake =
    (let l : Looks = looks_of s (suc k) client in
    let fits = if-some (slice_get s.nodes (suc k)) client (λ m. FitsSetup m.setup) one.client_there
    (one.world.sides.nodes_are.fits (suc k)) in
    let legal = if-some (slice_get s.nodes (suc k)) client (λ m. Legal m.setup (side (suc k) s.history))
    one.client_there (one.world.sides.legal (suc k)) in
    let seen = live_seen client.setup (side (suc k) s.history) c r fits legal there (active_lives r.life active) in
    let kind : is_client client.setup.kind ≡ true = ap is_client one.client_is in
    client_near s (suc k) client (channel_of c) r one.client_there kind seen.known
    (latest_is l c seen.latest ∙ there) active awake
    (past_holds client.setup (side (suc k) s.history) c r fits legal there).spoke)

-- ---- a round

-- all clocks move by a time, where that may be
abbrev MovesIf : Bool → ℕ → Stage → Part Stage
MovesIf may w s = by_test may (each (moves_on w) (clients_first s) s) (ends (To s))

-- where the clocks would come to their end none moves
quiet_still : (s t : Stage) (w : ℕ) → Made (settles true) s t → least_wait s.nodes s.history ≡ Some w
    → may_move w s ≡ false → t ≡ s
quiet_still s t w made least never =
    ends_to s t made.0 (by (not (w == 0)) (may_move w s) never
    (subst (λ (o : Option ℕ). moves_by o s made.0 (To t)) least made.1))
  where
    by : (p q : Bool) → q ≡ false → MovesIf (p && q) w s made.0 (To t) → MovesIf false w s made.0 (To t)
    by true true is m = absurd (let no : ◌≡◌ {A = Bool} true false = is in cc (no))
    by true false is m = m
    by false q is m = m

-- a node is there
pub some_nodes : (s : Stage) (j : ℕ) (n : Node) → slice_get s.nodes j ≡ Some n → s.nodes ≢ []
some_nodes s j n there none = no (ap (λ (ns : List Node). slice_get ns j) none) there
  where
    no : {o : Option Node} → o ≡ None → o ≡ Some n → ⊥
    no none_ is = absurd (let both : ◌≡◌ {A = Option Node} None (Some n) = sym none_ ∙ is in cc (both))

module _ (g : Handlers) (c : CallName) (k : ℕ) (client server : Node) (s t : Stage) (r : RoundMade g s t)
    (one : OneOf c k client server r.called) (a : CallRecord) (there : asked_in c k client r.called ≡ Some a)
    (active : is_active a.life ≡ true) (awake : is_silent (looks_of r.called (suc k) client).now a ≡ false) where
  -- the clocks at the end of a round
  pub settles_at : Settles r.polled.given r.called t
  settles_at = of r.polled.given refl
    where
      of : (ds : List Datagram) → r.polled.given ≡ ds → Settles r.polled.given r.called t
      of (d ∷ ds) is =
          settles_same r.polled.given r.called t
          (loud_round g s t r (λ none. (let both : d ∷ ds ≡ [] = sym is ∙ none in absurd (cc (both)))))
      of [] is =
          (let near = wait_short c k client server r.called a one there active awake in
          by near.0 near.1 near.2 (may_move near.0 r.called) refl)
        where
          by : (w : ℕ) → least_wait r.called.nodes r.called.history ≡ Some w → w ≤ 2000 → (q : Bool)
              → may_move w r.called ≡ q → Settles r.polled.given r.called t
          by w least short true may =
              settles_moved r.polled.given r.called t w is
              (quiet_round g s t r (some_nodes r.called (suc k) client one.client_there) is w least may) least short may
          by w least short false never =
              settles_same r.polled.given r.called t
              (quiet_still r.called t w
              (subst (λ (q : Bool). Made (settles q) r.called t) (ap (λ (ds : List Datagram). length ds == 0) is)
              r.settles_are) least never)
