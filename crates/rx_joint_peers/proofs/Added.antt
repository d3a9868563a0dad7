-- One peer more: peers stand for the history without an event, and are peers as they can be made.
use Rattle.std.proofs.Common.{◌≡◌, ◌≢◌, ◌<◌, ◌^◌, ◌++◌, ℕ, zero, suc, List, [], ◌∷◌, length, Option, Some, None}
use Rattle.std.proofs.Common.{refl, ◌∙◌, ap, sym, subst, arith}
use Rattle.std.specs.Prelude.{slice_get, IfSome}
use Rattle.rx_model.specs.declared.names.Host.{Host}
use Rattle.rx_model.specs.declared.names.Limits.{Limits}
use Rattle.rx_rules.specs.Setup.{FitsLimits, FitsSetup}
use Rattle.rx_class.specs.NullLaws.{null_fits}
use Rattle.rx_node.specs.Node.{setup_of}
use Rattle.rx_joint.proofs.Added.{each_pushed}
use Rattle.rx_peer.specs.declared.role.Role.{Role}
use Rattle.rx_peer.specs.declared.role.Role.TheVariants as roles
use Rattle.rx_peer.specs.Halves.{StandsPeer}
use Rattle.rx_peer.specs.PeerWorlds.{IsPeer, PeerNode, peer_at, setup_at}
use Rattle.rx_joint_peers.specs.declared.joint.PeerAt.{PeerAt}
use Rattle.rx_joint_peers.specs.Joint.{Standing, made_peer, peer_node, peers_of, unsecured}
use Rattle.rx_joint_peers.specs.Worlds.{ArePeers, IsNewHost}

pub stands_pushed : (xs ps new : List PeerAt) (p : PeerAt) → xs ≡ ps → new ≡ xs ++ p ∷ []
    → StandsPeer unsecured p.peer [] [] → Standing ps [] → Standing new []
stands_pushed xs ps new p is pushed fresh stand =
    subst (λ qs. Standing qs []) (sym pushed)
    (each_pushed (λ k q. StandsPeer unsecured q.peer [] []) xs p (subst (λ qs. Standing qs []) (sym is) stand) fresh)

-- as the laws see them, with this one behind
nodes_pushed : (ps : List PeerAt) (p : PeerAt) → peers_of (ps ++ p ∷ []) ≡ peers_of ps ++ peer_node p ∷ []
nodes_pushed [] p = refl
nodes_pushed (q ∷ ps) p = ap (λ xs. peer_node q ∷ xs) (nodes_pushed ps p)

pub peers_pushed : (xs ps new : List PeerAt) (p : PeerAt) (epoch service : ℕ) (limits : Limits) → xs ≡ ps
    → new ≡ xs ++ p ∷ []
    → setup_of unsecured p.peer.caller ≡ (made_peer p.host epoch service limits).caller
    → setup_of unsecured p.peer.served.node ≡ (made_peer p.host epoch service limits).served
    → peers_of new ≡ peers_of ps ++ made_peer p.host epoch service limits ∷ []
peers_pushed xs ps new p epoch service limits is pushed caller served =
    ap peers_of pushed ∙ nodes_pushed xs p
    ∙ ap (λ qs. peers_of qs ++ peer_node p ∷ []) is
    ∙ ap (λ (n : PeerNode). peers_of ps ++ n ∷ []) (λ i. record { host = p.host; caller = caller i; served = served i })

-- ---- peers as they can be made

-- one that was made is
made_is : (host : Host) (epoch service : ℕ) (limits : Limits) → epoch < 2 ^ 32 → service < 2 ^ 16 → FitsLimits limits
    → IsPeer (made_peer host epoch service limits)
made_is host epoch service limits low few fits =
    record {
      caller = refl;
      served = tt;
      fits = λ r. of r;
    }
  where
    of : (r : Role) → FitsSetup (setup_at r (made_peer host epoch service limits))
    of roles.Caller = record { kind = low; limits = fits; class = null_fits }
    of roles.Served = record { kind = (few, omega arith); limits = fits; class = null_fits }

-- so are all, with one behind them whose host is new
module _ (peers : List PeerNode) (p : PeerNode) (are : ArePeers peers) (made : IsPeer p)
    (fresh : IsNewHost peers p.host) where
  each : (i : ℕ) → IfSome (peer_at (peers ++ p ∷ []) i) IsPeer
  each zero = tt
  each (suc k) = each_pushed (λ j. IsPeer) peers p (λ j. are.each (suc j)) made k

  -- a peer at a place is apart from each one
  abbrev IsApart : ℕ → PeerNode → Type 0
  IsApart k q = (j : ℕ) → IfSome (slice_get (peers ++ p ∷ []) j) (λ o. q.host ≡ o.host → suc k ≡ suc j)

  moved : (k : ℕ) (o : Option PeerNode) → ((j : ℕ) → IfSome o
      (λ q. IfSome (slice_get peers j) (λ u. q.host ≡ u.host → suc k ≡ suc j)))
      → IfSome o (λ q. q.host ≢ p.host) → IfSome o (IsApart k)
  moved k None apart differ = tt
  moved k (Some q) apart differ =
      each_pushed (λ j u. q.host ≡ u.host → suc k ≡ suc j) peers p apart (λ same. absurd (differ same))

  others-apart : (j : ℕ) (o : Option PeerNode) → IfSome o (λ u. u.host ≢ p.host)
      → IfSome o (λ u. p.host ≡ u.host → suc (length peers) ≡ suc j)
  others-apart j None differ = tt
  others-apart j (Some u) differ = λ same. absurd (differ (sym same))

  apart-by : (k : ℕ) → IfSome (slice_get (peers ++ p ∷ []) k) (IsApart k)
  apart-by k =
      each_pushed IsApart peers p
      (λ j. moved j (slice_get peers j) (λ l. are.apart (suc j) (suc l)) (fresh (suc j)))
      (each_pushed (λ j u. p.host ≡ u.host → suc (length peers) ≡ suc j) peers p
      (λ j. others-apart j (slice_get peers j) (fresh (suc j))) (λ same. refl)) k

  none-there : (i : ℕ) (o : Option PeerNode) → IfSome o (λ q. IfSome (peer_at (peers ++ p ∷ []) zero)
      (λ u. q.host ≡ u.host → i ≡ zero))
  none-there i None = tt
  none-there i (Some q) = tt

  taken : (k j : ℕ) (o : Option PeerNode) → IfSome o (IsApart k) → IfSome o
      (λ q. IfSome (slice_get (peers ++ p ∷ []) j) (λ u. q.host ≡ u.host → suc k ≡ suc j))
  taken k j None by-place = tt
  taken k j (Some q) by-place = by-place j

  all-apart : (i j : ℕ) → IfSome (peer_at (peers ++ p ∷ []) i)
      (λ q. IfSome (peer_at (peers ++ p ∷ []) j) (λ u. q.host ≡ u.host → i ≡ j))
  all-apart zero j = tt
  all-apart (suc k) zero = none-there (suc k) (slice_get (peers ++ p ∷ []) k)
  all-apart (suc k) (suc j) = taken k j (slice_get (peers ++ p ∷ []) k) (apart-by k)

  pub are_pushed : ArePeers (peers ++ p ∷ [])
  are_pushed = record { each = each; apart = all-apart }

pub are_with : (old new : List PeerAt) (host : Host) (epoch service : ℕ) (limits : Limits)
    → peers_of new ≡ peers_of old ++ made_peer host epoch service limits ∷ [] → epoch < 2 ^ 32 → service < 2 ^ 16
    → FitsLimits limits → IsNewHost (peers_of old) host → ArePeers (peers_of old) → ArePeers (peers_of new)
are_with old new host epoch service limits is low few fits fresh are =
    subst ArePeers (sym is)
    (are_pushed (peers_of old) (made_peer host epoch service limits) are
    (made_is host epoch service limits low few fits) fresh)
