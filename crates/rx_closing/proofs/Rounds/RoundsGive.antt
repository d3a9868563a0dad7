-- Rounds in which none of some calls comes further, and one of them lives at its client: of two that follow one another
-- one gives something of theirs, all clocks are later by one time, and no clock passes the ping of the one that lives.
use Rattle.std.proofs.Common.{◌≡◌, ◌≢◌, ◌<◌, ◌≤◌, ◌+◌, ◌-◌, ◌^◌, ℕ, suc, List, [], ◌∷◌, Some, ap, sym, ⊎_elim, arith}
use Rattle.std.specs.Prelude.{IfSome, slice_get}
use Rattle.rx_rules.proofs.EveryLaws.{Every}
use Rattle.rx_history.specs.Sides.{Node, moment}
use Rattle.rx_jobs.specs.Handlers.{Handlers}
use Rattle.rx_plan.specs.Stages.{Stage}
use Rattle.rx_between.proofs.Each.EachItem.{In}
use Rattle.rx_rounds.proofs.Rounded.{RoundMade}
use Rattle.rx_closing.specs.Living.{looks_of}
use Rattle.rx_closing.proofs.Far.FarStands.{both_far}
use Rattle.rx_closing.proofs.Frame.{AreAmong, OneOf}
use Rattle.rx_closing.proofs.Living.Before.{one_before}
use Rattle.rx_closing.proofs.Rounds.Chains.{Chain, chain_adds, chain_both, chain_more, chain_nodes, chain_none}
use Rattle.rx_closing.proofs.Rounds.Clocks.{Lives, asked_calling, clocks_same}
use Rattle.rx_closing.proofs.Rounds.PingNear.{ping_near}
use Rattle.rx_closing.proofs.Rounds.QuietMoves.{MemberMoves, every_member, quiet_moves}
use Rattle.rx_closing.proofs.Sums.RoundLoads.{EachStage, Together, lone_end, looks_or}
use Rattle.rx_closing.proofs.Together.Members.{Member, names_of}

-- how far one of the calls is at both ends
abbrev pub far_at : Node → Stage → Member → ℕ
far_at server v m = both_far m.call m.index m.client server v

-- each of the calls is one at a stage
abbrev pub AreOnes : Node → List Member → Stage → Type 0
AreOnes server ms v = Every (λ (m : Member). OneOf m.call m.index m.client server v) ms

-- one of them lives at its client
abbrev pub LivesAt : Node → Member → Stage → Type 0
LivesAt server m v = Lives m.call m.index m.client server v

-- at each node no others live
abbrev pub OnlyThese : List Member → Stage → Type 0
OnlyThese ms v = (j : ℕ) → IfSome (slice_get v.nodes j) (λ n. AreAmong (names_of ms) (looks_of v j n))

pub ones_before : (g : Handlers) (server : Node) (n : ℕ) (v u : Stage) → Chain g n v u → (ms : List Member)
    → AreOnes server ms u → AreOnes server ms v
ones_before g server n v u chain [] all = tt
ones_before g server n v u chain (m ∷ ms) all = (
  one_before m.call m.index m.client server u all.0 v (sym (chain_nodes g n v u chain)) (chain_adds g n v u chain),
  ones_before g server n v u chain ms all.1,
)

module _ (g : Handlers) (server : Node) (ms : List Member) (z u : Stage) (ones : AreOnes server ms u) (asker : Member)
    (inside : In asker ms) (lives : EachStage g z u 0 (LivesAt server asker)) where
  -- the one that lives at a stage
  pub asker_one : (n : ℕ) (v : Stage) → Chain g n v u → OneOf asker.call asker.index asker.client server v
  asker_one n v rest =
      every_member (λ (m : Member). OneOf m.call m.index m.client server v) ms asker inside
      (ones_before g server n v u rest ms ones)

  -- ---- clocks

  -- those of the server and of another node are later by one time
  pub together : (j : ℕ) (node : Node) → slice_get z.nodes j ≡ Some node → EachStage g z u 0 (Together g z u j)
  together j node there i n v front rest many =
      (let here = lives 0 (i + n) z (chain_none z) (both z v front rest) (omega arith) in
      let later = clocks_same asker.call asker.index asker.client server g i z v front (asker_one n v rest) here
      (lives i n v front rest (omega arith)) in
      let first = later.moments 0 server (asker_one (i + n) z (both z v front rest)).server_there in
      let own = later.moments j node there in
      record { time = later.time; first = first; own = own })
    where
      both : (x y : Stage) → Chain g i x y → Chain g n y u → Chain g (i + n) x u
      both x y a b = chain_both g i n x y u a b

  -- ---- of two rounds one gives something

  pub one_gives : EachStage g z u 0 (OnlyThese ms)
      → ((m : Member) → In m ms → EachStage g z u 0 (λ v. far_at server z m ≡ far_at server v m))
      → (i n : ℕ) (v w x : Stage) → ((j : ℕ) → moment j v.history < 2 ^ 62 - 2000) → Chain g i z v
      → (a : RoundMade g v w) → (b : RoundMade g w x) → Chain g n x u → a.polled.given ≡ [] → b.polled.given ≡ [] → ⊥
  one_gives only stands i n v w x early front a b rest quiet silent =
      ⊎_elim (λ (gave : b.polled.given ≢ []). gave silent) moves
      (quiet_moves g server ms v w x a b asker.call asker.index asker.client (asker_one (suc n) w behind_a)
      (lives i (suc (suc n)) v front from_v (omega arith)) (lives (i + 1) (suc n) w to_w behind_a (omega arith))
      early quiet (only (i + 1) (suc n) w to_w behind_a (omega arith))
      (ones_before g server n x u rest ms ones))
    where
      behind_a : Chain g (suc n) w u
      behind_a = chain_more n w x u b rest

      from_v : Chain g (suc (suc n)) v u
      from_v = chain_more (suc n) v w u a behind_a

      to_w : Chain g (i + 1) z w
      to_w = chain_both g i 1 z v w front (chain_more 0 v w w a (chain_none w))

      to_x : Chain g ((i + 1) + 1) z x
      to_x = chain_both g (i + 1) 1 z w x to_w (chain_more 0 w x x b (chain_none x))

      moves : MemberMoves ms server w x → ⊥
      moves m =
          (let at_w = stands m.member m.inside (i + 1) (suc n) w to_w behind_a (omega arith) in
          let at_x = stands m.member m.inside ((i + 1) + 1) n x to_x rest (omega arith) in
          let less = m.further in
          omega (arith, at_w, at_x, less))

  -- ---- pings

  abbrev client_end : Stage → ℕ
  client_end v = (lone_end asker.call (suc asker.index) asker.client v).end.spoke

  -- behind a round in which it lives its ping is near
  near_behind : (v w : Stage) (n : ℕ) → RoundMade g v w → Chain g n w u → LivesAt server asker v
      → LivesAt server asker w → moment (suc asker.index) w.history ≤ client_end w + 2000
  near_behind v w n r rest living later =
      (let one = asker_one n w rest in
      let a = asked_calling asker.call asker.index asker.client server w one later in
      let near = ping_near asker.call asker.index asker.client server g v w r one living later a.0 a.1 in
      let same : client_end w ≡ (a.0).looks.spoke = ap (λ o. (looks_or o).spoke) a.1 in
      omega (arith, near, same))

  near-from : (k i n : ℕ) (x v : Stage) → Chain g k z x → Chain g i x v → Chain g n v u
      → moment (suc asker.index) x.history ≤ client_end x + 2000
      → moment (suc asker.index) v.history ≤ client_end v + 2000
  near-from k i n x v front (chain_none o) rest near = near
  near-from k i n x v front (chain_more m o y w r others) rest near =
      (let behind : Chain g (m + n) y u = chain_both g m n y w u others rest in
      let to_y : Chain g (k + 1) z y =
      chain_both g k 1 z o y front (chain_more 0 o y y r (chain_none y)) in
      near-from (k + 1) m n y w to_y others rest
      (near_behind o y (m + n) r behind
      (lives k (suc (m + n)) o front (chain_more (m + n) o y u r behind) (omega arith))
      (lives (k + 1) (m + n) y to_y behind (omega arith))))

  -- so it is at each stage, where it lived a round before the first
  pub near_each : (y : Stage) → RoundMade g y z → LivesAt server asker y
      → EachStage g z u 0 (λ v. moment (suc asker.index) v.history ≤ client_end v + 2000)
  near_each y r living i n v front rest many =
      near-from 0 i n z v (chain_none z) front rest
      (near_behind y z (i + n) r behind living (lives 0 (i + n) z (chain_none z) behind (omega arith)))
    where
      behind : Chain g (i + n) z u
      behind = chain_both g i n z v u front rest
