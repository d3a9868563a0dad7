-- Polls of peers, deliveries to them and their clocks leave a history so.
use Rattle.std.proofs.Common.{◌≡◌, ◌==◌, ◌+◌, ◌&&◌, if◌then◌else◌, nat_le, not, ℕ, Bool, true, false, List, [], ◌∷◌}
use Rattle.std.proofs.Common.{◌++◌}
use Rattle.std.proofs.Common.{Option, Some, None, ◌∙◌, ap, sym, subst, length, All, IfSome, IsSomeAnd, option_map}
use Rattle.std.proofs.Common.{unwrap_or}
use Rattle.std.proofs.lemmas.List.Elements.{All-nil, All-push}
use Rattle.rx_events.specs.Events.{IsClocked, IsPolled, IsTaken}
use Rattle.rx_history.specs.Sides.{moment}
use Rattle.rx_law.specs.Worlds.{Datagram}
use Rattle.rx_model.proofs.NameLaws.{host_is}
use Rattle.rx_model.specs.declared.event.Event.{Event}
use Rattle.rx_model.specs.declared.event.Event.TheVariants as events
use Rattle.rx_model.specs.declared.event.Noted.{Noted}
use Rattle.rx_model.specs.declared.names.Host.{Host}
use Rattle.rx_model.specs.Names.{same_host}
use Rattle.rx_peer.proofs.Carrying.{same_half}
use Rattle.rx_peer.specs.declared.role.Role.{Role}
use Rattle.rx_peer.specs.declared.role.Role.TheVariants as roles
use Rattle.rx_peer.specs.PeerWorlds.{IsFor, PeerNode, peer_at}
use Rattle.rx_peer.specs.Roles.{half_of, node_of}
use Rattle.rx_peer_plan.proofs.Halves.{Good, In, IsFair, calm_fair, gave_own, in_behind}
use Rattle.rx_peer_plan.proofs.Rounds.{IsPoll, NetworkSafe}
use Rattle.rx_peer_plan.proofs.Safe.{all_safe, each_safe, ends_safe, test_safe, then_safe}
use Rattle.rx_peer_plan.proofs.Turns.{Is, Keeps, Steps, Turned, across_safe, all_behind, calm_safe, event_safe}
use Rattle.rx_peer_plan.proofs.Turns.{event_with_safe, is_next, next_safe, rests_safe, turns_safe}
use Rattle.rx_peer_plan.specs.Clocks.{callers_first, least_wait, may_move, moves_by, moves_on, sets_clocks}
use Rattle.rx_peer_plan.specs.Lines.{network}
use Rattle.rx_peer_plan.specs.Network.{comes_to, delivers, is_for}
use Rattle.rx_peer_plan.specs.Polls.{PeerPolling, asked_node, heard_poll, none_from, polled, polling, polls, polls_at}
use Rattle.rx_peer_plan.specs.Polls.{polls_next, polls_once, polls_out, with_packet}
use Rattle.rx_peer_plan.specs.Rounds.{Polled}
use Rattle.rx_peer_plan.specs.Stages.{PeerHandlers, PeerStage, event, host_at, numbers, peer_stages, with_event}
use Rattle.rx_plan.proofs.Bags.{behind}
use Rattle.rx_plan.proofs.Soundness.Sound.{IfTo, IsCalm, calm_by}
use Rattle.rx_plan.proofs.Soundness.SoundRounds.{clocked_calm}
use Rattle.rx_plan.specs.declared.limits.TheConstants.{MAX_PACKETS}
use Rattle.rx_plan.specs.Parts.{One, Refused, To}
use Rattle.rx_plan.specs.Stages.{packet_given}
use Rattle.rx_run.specs.Programs.{IsNext}
use Rattle.rx_script.specs.declared.outcome.PlanWhy.TheVariants as causes
use Rattle.rx_wire.specs.Turns.{noted}

polled_calm : (e : Event) → IsPolled e → IsCalm e
polled_calm = calm_by IsPolled (λ from datagram got i. i)

module _ (peers : List PeerNode) where
  -- the host of a peer
  abbrev pub IsHost : ℕ → Host → Type 0
  IsHost number at = option_map (λ p. p.host) (peer_at peers number) ≡ Some at

  host_is_at : (o : Option PeerNode) (at : Host) → option_map (λ p. p.host) o ≡ Some at → IsSomeAnd o (λ p. p.host ≡ at)
  host_is_at None at is = absurd cc
  host_is_at (Some p) at is = cc

  -- ---- deliveries

  -- it is for a peer only if it has its host
  host_for : (d : Datagram) (o : Option PeerNode)
      → unwrap_or (option_map (same_host d.to) (option_map (λ p. p.host) o)) false ≡ true
      → IfSome o (λ p. d.to ≡ p.host)
  host_for d None so = tt
  host_for d (Some p) so = host_is d.to p.host so

  -- a half takes a datagram that was given to its host, where it is the half that it is for
  same_taken : (h : List Noted) (d : Datagram) (at : Host) (role : Role) (e : Event) → IsTaken d.from d.bytes e
      → In peers h d → d.to ≡ at → half_of d.bytes ≡ role → IsFor peers at role h e
  same_taken h d at role (events.Taken sender bytes got) same there to half = (
    sym half ∙ ap half_of (sym same.1),
    subst (λ (x : Datagram). In peers h x)
        (λ i. record { from = sym same.0 i; to = to i; bytes = sym same.1 i }) there,
  )
  same_taken h d at role e same there to half = tt

  taken_fair : (h : List Noted) (s : PeerStage) (d : Datagram) (number : ℕ) (e : Event) → Is peers h s
      → is_for d s number ≡ true → In peers h d → IsTaken d.from d.bytes e
      → IsFair peers h (node_of (half_of d.bytes) number) e
  taken_fair h s d number e i so there took other role is =
      (let same = same_half (half_of d.bytes) role number other is in
      subst (λ (k : ℕ). IfSome (peer_at peers k) (λ p. IsFor peers p.host role h e)) same.number
      (of same.role (peer_at peers number)
      (host_for d (peer_at peers number)
      (subst (λ ps. unwrap_or (option_map (same_host d.to) (option_map (λ p. p.host) (peer_at ps number))) false ≡ true)
      i.at so))))
    where
      of : half_of d.bytes ≡ role → (o : Option PeerNode) → IfSome o (λ p. d.to ≡ p.host)
          → IfSome o (λ p. IsFor peers p.host role h e)
      of half None to = tt
      of half (Some p) to = same_taken h d p.host role e took there to half

  comes_safe : (d : Datagram) (h : List Noted) (number : ℕ) (s : PeerStage) → Good peers h → In peers h d
      → Is peers h s → Keeps peers (Is peers) h (comes_to d number s)
  comes_safe d h number s good there i =
      test_safe (Good peers) (Is peers) h (is_for d s number) _ _
      (λ so.
      event_safe peers h s (node_of (half_of d.bytes) number) (IsTaken d.from d.bytes) good i
      (λ e took. taken_fair h s d number e i so there took))
      (λ so. rests_safe peers h s good i)

  pub delivers_safe : (h : List Noted) (d : Datagram) (s : PeerStage) → Good peers h → In peers h d → Is peers h s
      → Keeps peers (Is peers) h (delivers d s)
  delivers_safe h d s good there i =
      each_safe (Good peers) (Is peers) (λ k number. In peers k d) (comes_to d)
      (λ es k number inside. in_behind peers es k d inside)
      (λ k number t now inside is. comes_safe d k number t now inside is) (numbers s) h s good (λ k x inside. there) i

  -- ---- polls

  -- a half of a peer of this host gave it
  given_of : (h : List Noted) (number : ℕ) (role : Role) (from to : Host) (bytes : List ℕ) → IsHost number from
      → In peers (noted (node_of role number) (events.Polled (Some (to, bytes))) ∷ h)
      (record { from = from; to = to; bytes = bytes })
  given_of h number role from to bytes at =
      record {
        number = number;
        role = role;
        sender = host_is_at (peer_at peers number) from at;
        gave = gave_own (node_of role number) to bytes h;
      }

  -- what polls gave was given
  abbrev AreGiven : List Noted → PeerPolling → Type 0
  AreGiven h v = All (In peers h) v.given

  none_given : (h : List Noted) (role : Role) (v : PeerPolling) → AreGiven h v → AreGiven h (none_from role v)
  none_given h roles.Caller v there = there
  none_given h roles.Served v there = there

  heard_given : (from : Host) (number : ℕ) (h : List Noted) (v : PeerPolling) (e : Event) → IsHost number from
      → AreGiven h v → IsPolled e → AreGiven (noted (asked_node number v) e ∷ h) (heard_poll from v e)
  heard_given from number h v (events.Polled None) at there polled =
      none_given (noted (asked_node number v) (events.Polled None) ∷ h) v.half v
      (all_behind peers (noted (asked_node number v) (events.Polled None) ∷ []) h v.given there)
  heard_given from number h v (events.Polled (Some (to, bytes))) at there polled =
      All-push (In peers (noted (asked_node number v) (events.Polled (Some (to, bytes))) ∷ h)) v.given
      (record { from = from; to = to; bytes = bytes })
      (all_behind peers (noted (asked_node number v) (events.Polled (Some (to, bytes))) ∷ []) h v.given there)
      (given_of h number v.half from to bytes at)
  heard_given from number h v e at there polled = elim polled [ ]

  polling_steps : (from : Host) (number : ℕ) → IsHost number from
      → Steps peers (polling from) (asked_node number) AreGiven
  polling_steps from number at h v a e there polled = (
    calm_fair peers h (asked_node number v) e (polled_calm e polled),
    heard_given from number h v e at there polled,
  )

  -- a stage, and datagrams that were given
  abbrev IsGiven : List Noted → Polled PeerStage → Type 0
  IsGiven = IsPoll (Good peers) (Is peers) (In peers)

  polls_at_safe : (number : ℕ) (o : Option Host) (h : List Noted) (p : Polled PeerStage) → Good peers h → IsGiven h p
      → option_map (λ q. q.host) (peer_at peers number) ≡ o → Keeps peers IsGiven h (polls_at number o p)
  polls_at_safe number None h p good i at = ends_safe (Good peers) IsGiven h (To p) good i
  polls_at_safe number (Some from) h p good i at =
      then_safe (Good peers) (Turned peers AreGiven) IsGiven h _ _
      (across_safe peers (polling from) (asked_node number) AreGiven (polling_steps from number at) h
      (record { half = roles.Caller; again = true; given = p.given }) p.stage good i.stage i.given)
      (λ es r now there.
      ends_safe (Good peers) IsGiven (behind es h) _ now (record { stage = there.0; given = there.1 }))

  polls_out_safe : (h : List Noted) (number : ℕ) (p : Polled PeerStage) → Good peers h → IsGiven h p
      → Keeps peers IsGiven h (polls_out number p)
  polls_out_safe h number p good i =
      polls_at_safe number (host_at p.stage number) h p good i
      (ap (λ ps. option_map (λ q. q.host) (peer_at ps number)) (sym i.stage.at))

  polls_safe : (h : List Noted) (s : PeerStage) → Good peers h → Is peers h s → Keeps peers IsGiven h (polls s)
  polls_safe h s good i =
      all_safe (Good peers) IsGiven polls_out polls_out_safe (numbers s) h (record { stage = s; given = [] }) good
      (record { stage = i; given = All-nil (In peers h) })

  -- ---- one poll

  -- a datagram that was given is kept
  kept_is : (h : List Noted) (s : PeerStage) (o : Option Datagram) → Is peers h s → IfSome o (In peers h)
      → IfTo (Is peers h) (with_packet o s)
  kept_is h s None i there = i
  kept_is h s (Some d) i there = of (nat_le MAX_PACKETS (length s.packets))
    where
      of : (b : Bool) → IfTo (Is peers h) (if b then Refused causes.Bag
          else To (record s { packets = s.packets ++ d ∷ [] }))
      of true = tt
      of false =
          record {
            at = i.at;
            history = i.history;
            packets = All-push (In peers h) s.packets d i.packets there;
          }

  packet_in : (h : List Noted) (number : ℕ) (role : Role) (from : Host) (e : Event) → IsHost number from
      → IsPolled e → IfSome (packet_given from e) (In peers (noted (node_of role number) e ∷ h))
  packet_in h number role from (events.Polled None) at polled = tt
  packet_in h number role from (events.Polled (Some (to, bytes))) at polled =
      given_of h number role from to bytes at
  packet_in h number role from e at polled = elim polled [ ]

  polls_next_safe : (from : Host) (number : ℕ) (h : List Noted) (s : PeerStage) (o : Option Datagram)
      → IsHost number from → Good peers h → Is peers h s → IfSome o (In peers h)
      → Keeps peers (Is peers) h (polls_next from number o s)
  polls_next_safe from number h s None at good i there =
      event_with_safe peers h s (node_of roles.Served number) IsPolled (λ e t. with_packet (packet_given from e) t)
      good i
      (λ e polled. calm_fair peers h (node_of roles.Served number) e (polled_calm e polled))
      (λ e polled.
      kept_is (noted (node_of roles.Served number) e ∷ h) (with_event (node_of roles.Served number) e s)
      (packet_given from e) (is_next peers h s (node_of roles.Served number) e i)
      (packet_in h number roles.Served from e at polled))
  polls_next_safe from number h s (Some d) at good i there =
      ends_safe (Good peers) (Is peers) h (with_packet (Some d) s) good (kept_is h s (Some d) i there)

  pub polls_once_safe : (from : Host) (number : ℕ) (h : List Noted) (s : PeerStage) → IsHost number from
      → Good peers h → Is peers h s → Keeps peers (Is peers) h (polls_once from number s)
  polls_once_safe from number h s at good i =
      then_safe (Good peers)
      (λ k e. (k ≡ noted (node_of roles.Caller number) e ∷ h)
      × IsNext peer_stages s (node_of roles.Caller number) IsPolled e) (Is peers) h
      (One (node_of roles.Caller number) (IsNext peer_stages s (node_of roles.Caller number) IsPolled)) _
      (next_safe peers h s (node_of roles.Caller number) IsPolled good i
      (λ e polled. calm_fair peers h (node_of roles.Caller number) e (polled_calm e polled)))
      (λ es e now there.
      polls_next_safe from number (behind es h) (with_event (node_of roles.Caller number) e s) (packet_given from e) at
      now
      (subst (λ k. Is peers k (with_event (node_of roles.Caller number) e s)) (sym there.0)
      (is_next peers h s (node_of roles.Caller number) e i))
      (subst (λ k. IfSome (packet_given from e) (In peers k)) (sym there.0)
      (packet_in h number roles.Caller from e at there.1.0)))

  -- ---- clocks

  clock_safe : (now : ℕ) (h : List Noted) (node : ℕ) (s : PeerStage) → Good peers h → Is peers h s
      → Keeps peers (Is peers) h (event node (IsClocked now) s)
  clock_safe now h node s good i = calm_safe peers h s node (IsClocked now) good i (clocked_calm now)

  pub sets_clocks_safe : (now : ℕ) (nodes : List ℕ) (h : List Noted) (s : PeerStage) → Good peers h → Is peers h s
      → Keeps peers (Is peers) h (sets_clocks now nodes s)
  sets_clocks_safe now nodes h s good i =
      all_safe (Good peers) (Is peers) (λ node. event node (IsClocked now)) (clock_safe now) nodes h s good i

  moves_on_safe : (time : ℕ) (h : List Noted) (node : ℕ) (s : PeerStage) → Good peers h → Is peers h s
      → Keeps peers (Is peers) h (moves_on time node s)
  moves_on_safe time h node s good i = clock_safe (moment node s.history + time) h node s good i

  moves_by_safe : (o : Option ℕ) (h : List Noted) (s : PeerStage) → Good peers h → Is peers h s
      → Keeps peers (Is peers) h (moves_by o s)
  moves_by_safe None h s good i = rests_safe peers h s good i
  moves_by_safe (Some time) h s good i =
      test_safe (Good peers) (Is peers) h (not (time == 0) && may_move time s) _ _
      (λ so. all_safe (Good peers) (Is peers) (moves_on time) (moves_on_safe time) (callers_first s) h s good i)
      (λ so. rests_safe peers h s good i)

  -- ---- rounds

  -- so does each part of their rounds
  pub network_safe : (g : PeerHandlers) → NetworkSafe (Good peers) (Is peers) (In peers) (network g)
  network_safe g = record {
    stays = in_behind peers;
    polls = polls_safe;
    delivers = delivers_safe;
    turns = turns_safe peers g;
    waits = λ h s good i. moves_by_safe (least_wait s) h s good i;
  }
