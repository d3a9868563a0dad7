-- Peers stand for a joint history with one more event, where a half of one does for its side.
use Rattle.std.proofs.Common.{◌≡◌, ◌≤◌, ◌-◌, ℕ, zero, suc, List, [], ◌∷◌, map}
use Rattle.std.proofs.Common.{Option, Some, None, option_map, refl, ◌∙◌, ap, sym, subst, arith}
use Rattle.std.specs.Prelude.{slice_get, IfSome, IsSomeAnd, take}
use Rattle.std.proofs.lemmas.Option.{slice_get-map}
use Rattle.rx_model.specs.declared.event.Event.{Event}
use Rattle.rx_model.specs.declared.event.Event.TheVariants as events
use Rattle.rx_model.specs.declared.event.Noted.{Noted}
use Rattle.rx_model.specs.declared.names.Host.{Host}
use Rattle.rx_rules.specs.After.{looks}
use Rattle.rx_rules.specs.Rules.{Allowed}
use Rattle.rx_law.proofs.WorldTimed.{found-and}
use Rattle.rx_class.specs.declared.null.Null.{Null}
use Rattle.rx_table.specs.Records.{changed_at}
use Rattle.rx_node.specs.Node.{NodeState, setup_of}
use Rattle.rx_node.specs.Steps.{AnswersNode, StandsNode}
use Rattle.rx_node.proofs.Steps.TableSteps.{changed-length, changed-other, changed-own, decided}
use Rattle.rx_server.specs.Server.{Answered, ServerState, Stands}
use Rattle.rx_joint.proofs.Standing.{other-side, own-side}
use Rattle.rx_peer.specs.declared.peer.Peer.{Peer}
use Rattle.rx_peer.specs.declared.role.Role.{Role}
use Rattle.rx_peer.specs.declared.role.Role.TheVariants as roles
use Rattle.rx_peer.specs.Halves.{AnswersBoth, AnswersHalf, PollsPeer, SameSetups, StandsPeer}
use Rattle.rx_peer.specs.PeerWorlds.{AreOfHalves, GaveAs, IsFor, PeerNode, half, peer_at, setup_at}
use Rattle.rx_peer.specs.Roles.{half_of, node_of}
use Rattle.rx_peer.proofs.Carrying.{same_half}
use Rattle.rx_joint_peers.specs.declared.joint.PeerAt.{PeerAt}
use Rattle.rx_joint_peers.specs.Joint.{KeepsOtherHalf, Makes, MakesBoth, Standing, WasGiven, of_half}
use Rattle.rx_joint_peers.specs.Joint.{peer_node, peer_of, peers_of, unsecured, with_peer}
use Rattle.rx_joint_peers.specs.Polls.{MakesPolled}

-- ---- sides

-- two halves are two nodes
apart : (q r : Role) (i j : ℕ) → (q ≡ r → i ≡ j → ⊥) → node_of q i ≡ node_of r j → ⊥
apart q r i j differ is = (let same = same_half q r i j is in differ same.role same.number)

-- the side of another half stays
pub other-half : (number other : ℕ) (r q : Role) (e : Event) (h : List Noted) → (r ≡ q → number ≡ other → ⊥)
    → half q other (of_half number r e ∷ h) ≡ half q other h
other-half number other r q e h differ =
    other-side (node_of r number) (node_of q other) e h (apart r q number other differ)

-- its own has the event
own-half : (number : ℕ) (r : Role) (e : Event) (h : List Noted)
    → half r number (of_half number r e ∷ h) ≡ e ∷ half r number h
own-half number r e h = own-side (node_of r number) e h

caller-served : roles.Caller ≡ roles.Served → ⊥
caller-served is = absurd cc

-- ---- one peer

-- both halves stand for their sides once one of them has an event more
stands_after : (number : ℕ) (r : Role) (was new : Peer Null) (e : Event) (h : List Noted)
    → AnswersHalf unsecured was new r e
    → StandsPeer unsecured was (half roles.Caller number h) (half roles.Served number h)
    → StandsPeer unsecured new (half roles.Caller number (of_half number r e ∷ h))
    (half roles.Served number (of_half number r e ∷ h))
stands_after number roles.Caller was new e h answers stood =
    record {
      caller = subst (StandsNode unsecured new.caller) (sym (own-half number roles.Caller e h))
          (answers.0 (half roles.Caller number h) stood.caller).1;
      served = subst (Stands unsecured new.served)
          (sym (other-half number number roles.Caller roles.Served e h (λ is same. caller-served is)))
          (subst (λ s. Stands unsecured s (half roles.Served number h)) (sym answers.1) stood.served);
    }
stands_after number roles.Served was new e h answers stood =
    record {
      caller = subst (StandsNode unsecured new.caller)
          (sym (other-half number number roles.Served roles.Caller e h (λ is same. caller-served (sym is))))
          (subst (λ s. StandsNode unsecured s (half roles.Caller number h)) (sym answers.1) stood.caller);
      served = subst (Stands unsecured new.served) (sym (own-half number roles.Served e h))
          (answers.0 (half roles.Served number h) stood.served).1;
    }

-- the event is allowed
allowed_of : (number : ℕ) (r : Role) (p : PeerAt) (new : Peer Null) (e : Event) (h : List Noted)
    → AnswersHalf unsecured p.peer new r e
    → StandsPeer unsecured p.peer (half roles.Caller number h) (half roles.Served number h)
    → Allowed (setup_at r (peer_node p)) (looks (setup_at r (peer_node p)) (half r number h)) e
allowed_of number roles.Caller p new e h answers stood =
    (answers.0 (half roles.Caller number h) stood.caller).0
allowed_of number roles.Served p new e h answers stood =
    (answers.0 (half roles.Served number h) stood.served).0

-- the other half is as it was
keeps_half : (r : Role) (was new : Peer Null) (e : Event) → AnswersHalf unsecured was new r e
    → KeepsOtherHalf r (Some was) (Some new)
keeps_half roles.Caller was new e answers = ap Some answers.1
keeps_half roles.Served was new e answers = ap Some answers.1

-- ---- what is carried

-- a datagram is taken by the half that it is for
abbrev pub IsForHalf : Role → Event → Type 0
IsForHalf r (events.Taken from bytes got) = r ≡ half_of bytes
IsForHalf r _ = Unit {0}

is_for : (peers : List PeerNode) (h : List Noted) (number : ℕ) (r : Role) (p : PeerNode) (e : Event)
    → peer_at peers number ≡ Some p → IsForHalf r e → WasGiven peers h number e
    → IsSomeAnd (peer_at peers number) (λ q. IsFor peers q.host r h e)
is_for peers h number r p (events.Taken from bytes got) there role given =
    (let found = found-and (peer_at peers number) (λ q. GaveAs peers from q.host bytes h) given in
    subst (λ (o : Option PeerNode). IsSomeAnd o (λ q. IsFor peers q.host r h (events.Taken from bytes got)))
    (sym found.1) (role, found.2))
is_for peers h number r p _ there role given =
    subst (λ (o : Option PeerNode). IsSomeAnd o (λ q. Unit {0})) (sym there) tt

-- ---- all peers

-- what a number names
found_peer : (o : Option PeerAt) (was : Peer Null) → option_map (λ p. p.peer) o ≡ Some was
    → (p : PeerAt) × (o ≡ Some p) × (p.peer ≡ was)
found_peer None was there = absurd (cc (there))
found_peer (Some p) was there = (p, refl, cc (there))

-- another peer in its place
abbrev pub changed : Peer Null → PeerAt → PeerAt
changed new p = record p { peer = new }

-- as the laws see it, it is what it was
same_node : (p : PeerAt) (new : Peer Null) → SameSetups unsecured p.peer new
    → peer_node (changed new p) ≡ peer_node p
same_node p new same =
    (let calls = same.caller in let serves = same.served in
    λ i. record { host = p.host; caller = calls i; served = serves i })

-- and so are all
changed_nodes : (ps : List PeerAt) (k : ℕ) (p : PeerAt) (new : Peer Null) → slice_get ps k ≡ Some p
    → SameSetups unsecured p.peer new → map peer_node (changed_at k (changed new) ps) ≡ map peer_node ps
changed_nodes [] k p new there same = refl
changed_nodes (q ∷ ps) zero p new there same =
    (let is : p ≡ q = cc (there) in
    ap (λ x. x ∷ map peer_node ps)
    (same_node q new (subst (λ (o : PeerAt). SameSetups unsecured o.peer new) is same)))
changed_nodes (q ∷ ps) (suc k) p new there same =
    ap (λ xs. peer_node q ∷ xs) (changed_nodes ps k p new there same)

-- what is wanted of the peer at a place, where there is one
abbrev Wanted : List Noted → ℕ → Option PeerAt → Type 0
Wanted h j o = IfSome o (λ q. StandsPeer unsecured q.peer (half roles.Caller (suc j) h) (half roles.Served (suc j) h))

-- an event of a half of the peer at a place
makes_at : (ps : List PeerAt) (k : ℕ) (r : Role) (p : PeerAt) (new : Peer Null) (e : Event) → slice_get ps k ≡ Some p
    → IsForHalf r e → AnswersHalf unsecured p.peer new r e → SameSetups unsecured p.peer new
    → Makes ps (changed_at k (changed new) ps) (suc k) r e
makes_at ps k r p new e there role answers same =
    record {
      allowed = λ h stand. subst
          (λ (o : Option PeerNode). IsSomeAnd o
          (λ x. Allowed (setup_at r x) (looks (setup_at r x) (half r (suc k) h)) e))
          (sym node) (allowed_of (suc k) r p new e h answers (stood h stand));
      stands = λ h stand j. of h stand j;
      carried = λ h given halves. subst (λ peers. AreOfHalves peers (of_half (suc k) r e ∷ h)) (sym nodes) (
        record {
          number = suc k;
          role = r;
          node = refl;
          takes = is_for (peers_of ps) h (suc k) r (peer_node p) e node role given;
        },
        halves,
      );
      others = record {
        peers = λ j differ. changed-other ps k j (changed new) (λ is. differ (ap suc is));
        half = subst (λ i. KeepsOtherHalf r (option_map (λ q. q.peer) (slice_get ps i))
            (option_map (λ q. q.peer) (slice_get (changed_at k (changed new) ps) i))) (sym at)
            (subst (λ (o : Option PeerAt). KeepsOtherHalf r (option_map (λ q. q.peer) (slice_get ps k))
            (option_map (λ q. q.peer) o)) (sym now)
            (subst (λ (o : Option PeerAt). KeepsOtherHalf r (option_map (λ q. q.peer) o) (Some new)) (sym there)
            (keeps_half r p.peer new e answers)));
      };
      peers = nodes;
      count = changed-length ps k (changed new);
    }
  where
    at : suc k - 1 ≡ k
    at = omega arith

    node : peer_at (peers_of ps) (suc k) ≡ Some (peer_node p)
    node = slice_get-map peer_node ps k ∙ ap (option_map peer_node) there

    nodes : peers_of (changed_at k (changed new) ps) ≡ peers_of ps
    nodes = changed_nodes ps k p new there same

    now : slice_get (changed_at k (changed new) ps) k ≡ Some (changed new p)
    now = changed-own ps k (changed new) ∙ ap (option_map (changed new)) there

    stood : (h : List Noted) → Standing ps h
        → StandsPeer unsecured p.peer (half roles.Caller (suc k) h) (half roles.Served (suc k) h)
    stood h stand =
        subst (λ (o : Option PeerAt). IfSome o
        (λ q. StandsPeer unsecured q.peer (half roles.Caller (suc k) h) (half roles.Served (suc k) h))) there (stand k)

    of : (h : List Noted) → Standing ps h → Standing (changed_at k (changed new) ps) (of_half (suc k) r e ∷ h)
    of h stand j =
        decided (Wanted (of_half (suc k) r e ∷ h) j (slice_get (changed_at k (changed new) ps) j)) k j
        (λ is. subst (λ i. Wanted (of_half (suc k) r e ∷ h) i (slice_get (changed_at k (changed new) ps) i)) is
        (subst (Wanted (of_half (suc k) r e ∷ h) k) (sym now)
        (stands_after (suc k) r p.peer new e h answers (stood h stand))))
        (λ other. subst (Wanted (of_half (suc k) r e ∷ h) j) (sym (changed-other ps k j (changed new) other))
        (subst (λ es. IfSome (slice_get ps j) (λ q. StandsPeer unsecured q.peer es
        (half roles.Served (suc j) (of_half (suc k) r e ∷ h))))
        (sym (other-half (suc k) (suc j) r roles.Caller e h (λ is one. other (omega (arith, one)))))
        (subst (λ es. IfSome (slice_get ps j) (λ q. StandsPeer unsecured q.peer (half roles.Caller (suc j) h) es))
        (sym (other-half (suc k) (suc j) r roles.Served e h (λ is one. other (omega (arith, one))))) (stand j))))

-- an event of a half of a peer
pub half_makes : (ps : List PeerAt) (number : ℕ) (r : Role) (was new : Peer Null) (e : Event) → 1 ≤ number
    → peer_of ps number ≡ Some was → AnswersHalf unsecured was new r e → SameSetups unsecured was new → IsForHalf r e
    → Makes ps (with_peer ps number new) number r e
half_makes ps zero r was new e some there answers same role = absurd (omega arith)
half_makes ps (suc k) r was new e some there answers same role =
    (let at : suc k - 1 ≡ k = omega arith in
    let found = found_peer (slice_get ps k) was
    (subst (λ i. option_map (λ p. p.peer) (slice_get ps i) ≡ Some was) at there) in
    subst (λ i. Makes ps (changed_at i (changed new) ps) (suc k) r e) (sym at)
    (makes_at ps k r found.0 new e found.1 role
    (subst (λ x. AnswersHalf unsecured x new r e) (sym found.2) answers)
    (subst (λ x. SameSetups unsecured x new) (sym found.2) same)))

-- an event of its caller half
pub caller_makes : (ps : List PeerAt) (number : ℕ) (was : Peer Null) (new : NodeState) (e : Event) → 1 ≤ number
    → peer_of ps number ≡ Some was → AnswersNode unsecured was.caller new e
    → setup_of unsecured new ≡ setup_of unsecured was.caller → IsForHalf roles.Caller e
    → Makes ps (with_peer ps number (record was { caller = new })) number roles.Caller e
caller_makes ps number was new e some there answers same role =
    half_makes ps number roles.Caller was (record was { caller = new }) e some there (answers, refl)
    (record { caller = same; served = refl }) role

-- an event of its served half
pub served_makes : (ps : List PeerAt) (number : ℕ) (was : Peer Null) (new : ServerState) (e : Event) → 1 ≤ number
    → peer_of ps number ≡ Some was → Answered unsecured was.served new e
    → setup_of unsecured new.node ≡ setup_of unsecured was.served.node → IsForHalf roles.Served e
    → Makes ps (with_peer ps number (record was { served = new })) number roles.Served e
served_makes ps number was new e some there answers same role =
    half_makes ps number roles.Served was (record was { served = new }) e some there (answers, refl)
    (record { caller = refl; served = same }) role

-- by another name of the half
pub made_as : (r q : Role) (old new : List PeerAt) (number : ℕ) (e : Event) → r ≡ q → Makes old new number q e
    → Makes old new number r e
made_as r q old new number e is made = subst (λ (o : Role). Makes old new number o e) (sym is) made

-- ---- a question

-- a peer that comes back as it was
back_changes : (ps : List PeerAt) (k : ℕ) (p : PeerAt) → slice_get ps k ≡ Some p
    → changed_at k (changed p.peer) ps ≡ ps
back_changes [] k p there = refl
back_changes (q ∷ ps) zero p there =
    (let is : p ≡ q = cc (there) in ap (λ (x : PeerAt). record { host = q.host; peer = x.peer } ∷ ps) is)
back_changes (q ∷ ps) (suc k) p there = ap (λ xs. q ∷ xs) (back_changes ps k p there)

-- an event of a caller half that changes nothing
pub caller_asked : (ps : List PeerAt) (number : ℕ) (was : Peer Null) (e : Event) → 1 ≤ number
    → peer_of ps number ≡ Some was → AnswersNode unsecured was.caller was.caller e → IsForHalf roles.Caller e
    → Makes ps ps number roles.Caller e
caller_asked ps number was e some there answers role =
    (let found = found_peer (slice_get ps (number - 1)) was there in
    let back : with_peer ps number was ≡ ps =
    subst (λ x. changed_at (number - 1) (changed x) ps ≡ ps) found.2
    (back_changes ps (number - 1) found.0 found.1) in
    subst (λ qs. Makes ps qs number roles.Caller e) back
    (half_makes ps number roles.Caller was was e some there (answers, refl) (record { caller = refl; served = refl })
    role))

-- ---- one event of each half

-- the last change of a peer counts
changed_twice : (ps : List PeerAt) (k : ℕ) (first last : Peer Null)
    → changed_at k (changed last) (changed_at k (changed first) ps) ≡ changed_at k (changed last) ps
changed_twice [] k first last = refl
changed_twice (p ∷ ps) zero first last = refl
changed_twice (p ∷ ps) (suc k) first last = ap (λ xs. p ∷ xs) (changed_twice ps k first last)

pub both_make : (ps : List PeerAt) (number : ℕ) (was new : Peer Null) (calls serves : Event) → 1 ≤ number
    → peer_of ps number ≡ Some was → AnswersBoth unsecured was new calls serves → SameSetups unsecured was new
    → IsForHalf roles.Caller calls → IsForHalf roles.Served serves
    → MakesBoth ps (with_peer ps number new) number calls serves
both_make ps number was new calls serves some there answers same caller served =
    record {
      between = with_peer ps number between;
      caller = caller_makes ps number was new.caller calls some there answers.caller same.caller caller;
      served = subst (λ qs. Makes (with_peer ps number between) qs number roles.Served serves)
          (changed_twice ps (number - 1) between new)
          (served_makes (with_peer ps number between) number between new.served serves some now answers.served
          same.served served);
    }
  where
    between : Peer Null
    between = record was { caller = new.caller }

    now : peer_of (with_peer ps number between) number ≡ Some between
    now =
        let found = found_peer (slice_get ps (number - 1)) was there in
        ap (option_map (λ p. p.peer)) (changed-own ps (number - 1) (changed between)
        ∙ ap (option_map (changed between)) found.1)

-- ---- a poll

pub polled_makes : (ps : List PeerAt) (number : ℕ) (was new : Peer Null) (got : Option (Role × Host × ℕ)) (to : List ℕ)
    → 1 ≤ number → peer_of ps number ≡ Some was → PollsPeer unsecured was new got to → SameSetups unsecured was new
    → MakesPolled ps (with_peer ps number new) number got to
polled_makes ps number was new (Some (roles.Caller, host, count)) to some there answers same = (
  half_makes ps number roles.Caller was new (events.Polled (Some (host, take count to))) some there answers same tt,
  tt,
)
polled_makes ps number was new (Some (roles.Served, host, count)) to some there answers same = (
  both_make ps number was new (events.Polled None) (events.Polled (Some (host, take count to))) some there answers same
      tt tt,
  refl,
  tt,
)
polled_makes ps number was new None to some there answers same = (
  both_make ps number was new (events.Polled None) (events.Polled None) some there answers same tt tt,
  refl,
  tt,
)
