-- What each end of a call takes for acknowledged the other has: under each of three premises, as laws.
use Rattle.std.proofs.Common.{◌≡◌, ◌⊎◌, ℕ, List, [], ◌∷◌, Some, sym, subst, inl, inr}
use Rattle.std.specs.Prelude.{slice_get}
use Rattle.rx_model.specs.declared.answers.Took.TheVariants as tooks
use Rattle.rx_model.specs.declared.event.Event.{Event}
use Rattle.rx_model.specs.declared.event.Event.TheVariants as events
use Rattle.rx_model.specs.declared.event.Noted.{Noted}
use Rattle.rx_model.specs.Names.{Connection}
use Rattle.rx_rules.specs.Rules.{Legal}
use Rattle.rx_rules.specs.Looks.{Looks}
use Rattle.rx_rules.specs.Setup.{Setup, Client}
use Rattle.rx_law.proofs.Joint.{Came, CameOn, DataCame, Fed}
use Rattle.rx_law.proofs.JoinsTimed.{joined-lately}
use Rattle.rx_history.proofs.Places.{Spared}
use Rattle.rx_law.proofs.ServerHistory.{spared-once}
use Rattle.rx_law.proofs.StartsTimed.{starts-once}
use Rattle.rx_law.proofs.World.{if-some, is_server, world-fed, world-fed-by}
use Rattle.rx_law.proofs.WorldTimed.{world-lately}
use Rattle.rx_law.specs.Premises.{Held, HeldOnce}
use Rattle.rx_law.specs.Promises.{ServerForgotNone, at_client, at_server, ends_in}
use Rattle.rx_history.specs.Sides.{Node, side}
use Rattle.rx_history.specs.Starts.{StartsOnce}
use Rattle.rx_law.specs.Times.{Timely}
use Rattle.rx_history.specs.Alone.{ForgotNone}
use Rattle.rx_law.specs.Worlds.{TwoEnds, World}
use Rattle.rx_between.specs.Acknowledged.{TrueHeld, TrueInWorld, TrueOnce}
use Rattle.rx_between.proofs.BothTrue.{both_true}
use Rattle.rx_between.proofs.CameAll.{CameAll, JudgedCame, world_came_all}
use Rattle.rx_between.proofs.JoinedCame.{joined_came}

-- ---- what was given is all that the streams' own laws ask for

came-kept : tooks.Kept ≡ tooks.Foreign → ⊥
came-kept is = absurd cc

came-stopped : tooks.Stopped ≡ tooks.Foreign → ⊥
came-stopped is = absurd cc

came-any : (s : Setup) (l : Looks) (y : Connection) (e : Event) (Wanted : List ℕ → Type 0)
    → JudgedCame s l y e Wanted → Came s l y e Wanted
came-any s l y (events.Taken from bytes tooks.Kept) Wanted came =
    λ m payload reads body front at. came m came-kept reads front at
came-any s l y (events.Taken from bytes tooks.Stopped) Wanted came =
    λ m reads front at. came m came-stopped reads front at
came-any s l y _ Wanted came = tt

came-data : (s : Setup) (l : Looks) (y : Connection) (e : Event) (Wanted : List ℕ → Type 0)
    → JudgedCame s l y e Wanted → DataCame s l y e Wanted
came-data s l y (events.Taken from bytes tooks.Kept) Wanted came =
    λ m payload reads body front at. came m came-kept reads front at
came-data s l y _ Wanted came = tt

came-on : (x : TwoEnds) (h : List Noted) → CameAll x h → CameOn x h
came-on x [] came = tt
came-on x (e ∷ h) came = (
  λ here. came-data x.server_setup (at_server x h) x.connection e.event _ (came.0 here),
  λ here. came-any x.client_setup (at_client x h) x.connection e.event _ (came.1 here),
  came-on x h came.2,
)

-- ---- each premise

-- a server that starts no call anew, with a network that invents nothing
module _ (x : TwoEnds) (h : List Noted) (held : HeldOnce x h) where
  pub came_once : CameAll x h
  came_once = joined_came x h held.joined.client_kind held.joined.server_kind held.joined.carried held.linked

  pub fed_once : Fed x h
  fed_once =
      record {
        apart = held.joined.apart;
        client_kind = held.joined.client_kind;
        server_kind = held.joined.server_kind;
        client_fits = held.joined.client_fits;
        server_fits = held.joined.server_fits;
        client_legal = held.joined.client_legal;
        server_legal = held.joined.server_legal;
        came = came-on x h came_once;
        once = held.once;
      }

pub true_once : TrueOnce
true_once x h held c on = both_true x h c (fed_once x h held) (came_once x h held) on

-- it starts none where it forgot no record, or no datagram is old
pub held_once : (x : TwoEnds) (h : List Noted) → Held x h → HeldOnce x h
held_once x h held =
    let j = held.joined in
    record {
      joined = j;
      linked = held.linked;
      once = λ c on. (elim held.kept as (λ k. StartsOnce x.server_setup (side x.server h) c) [
        | inl kept ↦
            spared-once x.server_setup (side x.server h) c j.server_kind j.server_legal
            (subst (λ (y : Connection). Spared y (at_server x h)) (sym on) kept)
        | inr timely ↦ starts-once x h c (joined-lately x h j held.linked timely) on
      ]);
    }

pub true_held : TrueHeld
true_held x h held = true_once x h (held_once x h held)

module _ (nodes : List Node) (h : List Noted) (w : World nodes h) (k : ℕ) (client server : Node) (x : Connection)
    (there : slice_get nodes k ≡ Some client) (kind : client.setup.kind ≡ Client x.host x.epoch)
    (first : slice_get nodes 0 ≡ Some server) where
  legal : (j : ℕ) (n : Node) → slice_get nodes j ≡ Some n → Legal n.setup (side j h)
  legal j n is = if-some (slice_get nodes j) n (λ n. Legal n.setup (side j h)) is (w.sides.legal j)

  -- no call of a connection starts anew
  pub fed_in : ServerForgotNone nodes h ⊎ Timely nodes h → Fed (ends_in x k client server) h
  fed_in (inl kept) =
      world-fed nodes k client server x there kind first w.sides.nodes_are w.apart h w
      (if-some (slice_get nodes 0) server (λ n. ForgotNone n.setup (side 0 h)) first kept)
  fed_in (inr timely) =
      world-fed-by nodes k client server x there kind first w.sides.nodes_are w.apart h w
      (λ c on. starts-once (ends_in x k client server) h c
      (world-lately nodes k client server x there kind first w.sides.nodes_are w.apart h legal timely.fresh
      timely.alike) on)

  -- what comes on it was given
  pub came_in : CameAll (ends_in x k client server) h
  came_in =
      world_came_all nodes k client server x there kind first w.sides.nodes_are w.apart h w.carried
      (is_server nodes k client server x there kind first w.sides.nodes_are w.apart) legal

pub true_in_world : TrueInWorld
true_in_world nodes h w kept x k client server there kind first c on =
    both_true (ends_in x k client server) h c (fed_in nodes h w k client server x there kind first kept)
    (came_in nodes h w k client server x there kind first) on
