-- Polls, deliveries, clocks and rounds leave a history sound.
use Rattle.std.proofs.Common.{◌≡◌, ◌==◌, ◌+◌, ◌&&◌, not, ℕ, zero, suc, Bool, true, false, List, [], ◌∷◌, Option}
use Rattle.std.proofs.Common.{Some, None, sym, subst, ap, slice_get, length, All, Contains, IfSome, option_map}
use Rattle.std.proofs.Common.{unwrap_or}
use Rattle.std.proofs.lemmas.List.Elements.{All-nil, All-push}
use Rattle.rx_model.specs.declared.event.Event.{Event}
use Rattle.rx_model.specs.declared.event.Event.TheVariants as events
use Rattle.rx_model.specs.declared.event.Noted.{Noted}
use Rattle.rx_model.specs.declared.names.Host.{Host}
use Rattle.rx_model.specs.Names.{same_host}
use Rattle.rx_model.proofs.NameLaws.{host_is}
use Rattle.rx_jobs.specs.Handlers.{Handlers}
use Rattle.rx_history.specs.Sides.{Node, moment}
use Rattle.rx_law.specs.Worlds.{Datagram, IsFrom, bag, given_at}
use Rattle.rx_events.specs.Events.{IsClocked, IsPolled, IsTaken}
use Rattle.rx_events.specs.Waits.{any_lives, least_wait}
use Rattle.rx_wire.specs.Turns.{noted}
use Rattle.rx_plan.specs.Network.{all_nodes, comes_to, delivers, is_for}
use Rattle.rx_plan.specs.Parts.{To, each}
use Rattle.rx_plan.specs.Rounds.{Polled, Polling, clients_first, heard_poll, may_move, moves_by, moves_on, polling}
use Rattle.rx_plan.specs.Rounds.{polls}
use Rattle.rx_plan.specs.Rounds.{polls_at, polls_out, round, rounds, settles, turns}
use Rattle.rx_plan.specs.Stages.{Stage, host_at}
use Rattle.rx_plan.specs.Turned.{dispatches, turns_all}
use Rattle.rx_plan.proofs.Bags.{behind, in_behind, in_given}
use Rattle.rx_plan.proofs.Soundness.Sound.{Good, In, Is, IsCalm, IsHonest, Safe, all_behind, calm_by, calm_honest}
use Rattle.rx_plan.proofs.Soundness.Sound.{calm_safe}
use Rattle.rx_plan.proofs.Soundness.Sound.{each_safe, ends_safe, event_safe, then_safe}
use Rattle.rx_plan.proofs.Soundness.SoundTurns.{Steps, Turned, dispatches_safe, numbers_safe, rests_safe, test_safe}
use Rattle.rx_plan.proofs.Soundness.SoundTurns.{turn_safe}
use Rattle.rx_plan.proofs.Soundness.SoundTurns.{turns_all_safe}

pub clocked_calm : (now : ℕ) (e : Event) → IsClocked now e → IsCalm e
clocked_calm now = calm_by (IsClocked now) (λ from datagram got i. i)

-- a node at a host
abbrev pub IsHost : List Node → ℕ → Host → Type 0
IsHost nodes node h = option_map (λ n. n.host) (slice_get nodes node) ≡ Some h

-- what is taken is this datagram
same_taken : (d : Datagram) (at : Host) (e : Event) (ds : List Datagram) → IsTaken d.from d.bytes e → d.to ≡ at
    → Contains ds d → IsFrom ds at e
same_taken d at (events.Taken sender bytes got) ds same to there =
    subst (λ (x : Datagram). Contains ds x)
    (λ i. record { from = sym same.0 i; to = to i; bytes = sym same.1 i }) there
same_taken d at e ds same to there = tt

module _ (Honest : Type 0) (nodes : List Node) where
  -- ---- deliveries

  -- it is for the node only if it has its host
  host_for : (d : Datagram) (o : Option Node)
      → unwrap_or (option_map (same_host d.to) (option_map (λ n. n.host) o)) false ≡ true
      → IfSome o (λ n. d.to ≡ n.host)
  host_for d None so = tt
  host_for d (Some n) so = host_is d.to n.host so

  taken_honest : (h : List Noted) (s : Stage) (d : Datagram) (node : ℕ) (e : Event) → Is Honest nodes h s
      → is_for d s node ≡ true → In Honest nodes h d → IsTaken d.from d.bytes e → IsHonest Honest nodes h node e
  taken_honest h s d node e i so there took honest =
      of (slice_get nodes node)
      (host_for d (slice_get nodes node)
      (subst (λ ns. unwrap_or (option_map (same_host d.to) (option_map (λ n. n.host) (slice_get ns node))) false ≡ true)
      i.at so))
    where
      of : (o : Option Node) → IfSome o (λ n. d.to ≡ n.host) → IfSome o (λ n. IsFrom (bag nodes h) n.host e)
      of None to = tt
      of (Some n) to = same_taken d n.host e (bag nodes h) took to there

  comes_safe : (d : Datagram) (node : ℕ) (h : List Noted) (s : Stage) → Good Honest nodes h → In Honest nodes h d
      → Is Honest nodes h s → Safe Honest nodes (Is Honest nodes) h (comes_to d node s)
  comes_safe d node h s good there i =
      test_safe Honest nodes (Is Honest nodes) h (is_for d s node) _ _
      (λ so.
      event_safe Honest nodes h s node (IsTaken d.from d.bytes) good i
      (λ e took. taken_honest h s d node e i so there took))
      (λ so. rests_safe Honest nodes h s good i)

  pub delivers_safe : (h : List Noted) (d : Datagram) (s : Stage) → Good Honest nodes h → In Honest nodes h d
      → Is Honest nodes h s → Safe Honest nodes (Is Honest nodes) h (delivers d s)
  delivers_safe h d s good there i =
      each_safe Honest nodes (Is Honest nodes) (λ k node. In Honest nodes k d) (comes_to d)
      (λ es k node inside. in_behind nodes es k d inside)
      (λ k node t now inside is. comes_safe d node k t now inside is) (all_nodes s) h s good (λ k x inside. there) i

  -- each of these was given
  pub deliveries_safe : (ds : List Datagram) (h : List Noted) (s : Stage) → Good Honest nodes h
      → All (In Honest nodes h) ds → Is Honest nodes h s → Safe Honest nodes (Is Honest nodes) h (each delivers ds s)
  deliveries_safe ds h s good there i =
      each_safe Honest nodes (Is Honest nodes) (In Honest nodes) delivers (in_behind nodes) delivers_safe ds h s good
      there i

  -- ---- polls

  -- what polls gave was given
  abbrev AreGiven : List Noted → Polling → Type 0
  AreGiven h v = All (In Honest nodes h) v.given

  heard_given : (from : Host) (node : ℕ) (h : List Noted) (v : Polling) (e : Event) → IsHost nodes node from
      → AreGiven h v → IsPolled e → AreGiven (noted node e ∷ h) (heard_poll from v e)
  heard_given from node h v (events.Polled None) at there polled =
      all_behind Honest nodes (noted node (events.Polled None) ∷ []) h v.given there
  heard_given from node h v (events.Polled (Some (to, bytes))) at there polled =
      All-push (In Honest nodes (noted node (events.Polled (Some (to, bytes))) ∷ h)) v.given
      (record { from = from; to = to; bytes = bytes })
      (all_behind Honest nodes (noted node (events.Polled (Some (to, bytes))) ∷ []) h v.given there)
      (of (slice_get nodes node) at)
    where
      of : (o : Option Node) → option_map (λ n. n.host) o ≡ Some from
          → Contains (given_at o (events.Polled (Some (to, bytes))) (bag nodes h))
          (record { from = from; to = to; bytes = bytes })
      of None none = absurd cc
      of (Some n) same =
          (let host : n.host ≡ from = cc in
          subst (λ (f : Host). Contains (given_at (Some n) (events.Polled (Some (to, bytes))) (bag nodes h))
          (record { from = f; to = to; bytes = bytes })) host (in_given n to bytes (bag nodes h)))
  heard_given from node h v e at there polled = elim polled [ ]

  polled_calm : (e : Event) → IsPolled e → IsCalm e
  polled_calm = calm_by IsPolled (λ from datagram got i. i)

  polling_steps : (from : Host) (node : ℕ) → IsHost nodes node from → Steps Honest nodes (polling from) node AreGiven
  polling_steps from node at h v a e there polled =
      (calm_honest Honest nodes h node e (polled_calm e polled), heard_given from node h v e at there polled)

  -- a stage, and datagrams that were given
  pub record IsPoll (h : List Noted) (p : Polled) : Type 0 where
    pub stage : Is Honest nodes h p.stage
    pub given : All (In Honest nodes h) p.given

  polls_at_safe : (node : ℕ) (o : Option Host) (h : List Noted) (p : Polled) → Good Honest nodes h → IsPoll h p
      → option_map (λ n. n.host) (slice_get nodes node) ≡ o → Safe Honest nodes IsPoll h (polls_at node o p)
  polls_at_safe node None h p good i at = ends_safe Honest nodes IsPoll h (To p) good i
  polls_at_safe node (Some from) h p good i at =
      then_safe Honest nodes (Turned Honest nodes AreGiven) IsPoll h _ _
      (turn_safe Honest nodes (polling from) node AreGiven (polling_steps from node at) h
      (record { again = true; given = p.given }) p.stage good i.stage i.given)
      (λ es r now there.
      ends_safe Honest nodes IsPoll (behind es h) _ now (record { stage = there.0; given = there.1 }))

  polls_out_safe : (node : ℕ) (h : List Noted) (p : Polled) → Good Honest nodes h → IsPoll h p
      → Safe Honest nodes IsPoll h (polls_out node p)
  polls_out_safe node h p good i =
      polls_at_safe node (host_at p.stage node) h p good i
      (ap (λ ns. option_map (λ n. n.host) (slice_get ns node)) (sym i.stage.at))

  pub polls_safe : (h : List Noted) (s : Stage) → Good Honest nodes h → Is Honest nodes h s
      → Safe Honest nodes IsPoll h (polls s)
  polls_safe h s good i =
      each_safe Honest nodes IsPoll (λ k x. Unit {0}) polls_out (λ es k x there. tt)
      (λ k x p now there is. polls_out_safe x k p now is) (clients_first s) h (record { stage = s; given = [] }) good
      (λ k x inside. tt) (record { stage = i; given = All-nil (In Honest nodes h) })

  -- ---- clocks

  moves_on_safe : (time node : ℕ) (h : List Noted) (s : Stage) → Good Honest nodes h → Is Honest nodes h s
      → Safe Honest nodes (Is Honest nodes) h (moves_on time node s)
  moves_on_safe time node h s good i =
      calm_safe Honest nodes h s node (IsClocked (moment node s.history + time)) good i
      (clocked_calm (moment node s.history + time))

  moves_by_safe : (o : Option ℕ) (h : List Noted) (s : Stage) → Good Honest nodes h → Is Honest nodes h s
      → Safe Honest nodes (Is Honest nodes) h (moves_by o s)
  moves_by_safe None h s good i = rests_safe Honest nodes h s good i
  moves_by_safe (Some time) h s good i =
      test_safe Honest nodes (Is Honest nodes) h (not (time == 0) && may_move time s) _ _
      (λ so. numbers_safe Honest nodes (moves_on time) (moves_on_safe time) (clients_first s) h s good i)
      (λ so. rests_safe Honest nodes h s good i)

  pub settles_safe : (quiet : Bool) (h : List Noted) (s : Stage) → Good Honest nodes h → Is Honest nodes h s
      → Safe Honest nodes (Is Honest nodes) h (settles quiet s)
  settles_safe quiet h s good i =
      test_safe Honest nodes (Is Honest nodes) h quiet _ _
      (λ so. moves_by_safe (least_wait s.nodes s.history) h s good i) (λ so. rests_safe Honest nodes h s good i)

  -- ---- rounds

  pub turns_safe : (g : Handlers) (h : List Noted) (s : Stage) → Good Honest nodes h → Is Honest nodes h s
      → Safe Honest nodes (Is Honest nodes) h (turns g s)
  turns_safe g h s good i =
      then_safe Honest nodes (Is Honest nodes) (Is Honest nodes) h (dispatches g s) turns_all
      (dispatches_safe Honest nodes g h s good i)
      (λ es t now is. turns_all_safe Honest nodes (behind es h) t now is)

  round_safe : (g : Handlers) (h : List Noted) (s : Stage) → Good Honest nodes h → Is Honest nodes h s
      → Safe Honest nodes (Is Honest nodes) h (round g s)
  round_safe g h s good i =
      then_safe Honest nodes IsPoll (Is Honest nodes) h (polls s) _ (polls_safe h s good i)
      (λ es p now is.
      then_safe Honest nodes (Is Honest nodes) (Is Honest nodes) (behind es h) (each delivers p.given p.stage) _
      (deliveries_safe p.given (behind es h) p.stage now is.given is.stage)
      (λ more t well there.
      then_safe Honest nodes (Is Honest nodes) (Is Honest nodes) (behind more (behind es h)) (turns g t) _
      (turns_safe g (behind more (behind es h)) t well there)
      (λ last u last_good last_is.
      settles_safe (length p.given == 0) (behind last (behind more (behind es h))) u last_good last_is)))

  pub rounds_safe : (g : Handlers) (n : ℕ) (h : List Noted) (s : Stage) → Good Honest nodes h → Is Honest nodes h s
      → Safe Honest nodes (Is Honest nodes) h (rounds g n s)
  rounds_safe g zero h s good i = rests_safe Honest nodes h s good i
  rounds_safe g (suc n) h s good i =
      test_safe Honest nodes (Is Honest nodes) h (any_lives s.nodes s.history) _ _
      (λ so.
      then_safe Honest nodes (Is Honest nodes) (Is Honest nodes) h (round g s) (rounds g n) (round_safe g h s good i)
      (λ es t now is. rounds_safe g n (behind es h) t now is))
      (λ so. rests_safe Honest nodes h s good i)
