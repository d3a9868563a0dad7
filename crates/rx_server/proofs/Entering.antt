-- A server enters the connection of a client that it doesn't know.
use Rattle.std.proofs.Common.{◌≡◌, ◌≤◌, ◌<◌, ◌+◌, ◌%◌, ◌^◌, ◌||◌, ℕ, suc, not, if◌then◌else◌, is_some, Bool}
use Rattle.std.proofs.Common.{true, false, List, [], ◌∷◌, length}
use Rattle.std.proofs.Common.{Option, Some, None, refl, ◌∙◌, ap, sym, subst, inl, inr, arith}
use Rattle.std.specs.Prelude.{filter, slice_get}
use Rattle.std.proofs.lemmas.Bool.{false≢true}
use Rattle.std.proofs.lemmas.Bool.Decides.{nat_tests}
use Rattle.rx_model.specs.declared.names.CallName.{CallName}
use Rattle.rx_model.specs.Names.{Connection, channel_of, connection_of}
use Rattle.rx_rules.specs.Classes.{Class}
use Rattle.rx_rules.specs.Looks.{ConnLooks, Looks, conn_at}
use Rattle.rx_rules.specs.Records.{entered, fresh_conn, has_place, idle_conn, is_full, is_idle, placed, used, with_conn}
use Rattle.rx_rules.specs.Setup.{FitsLimits, Kind, Setup, Server, Client, IsServer, nonce_of}
use Rattle.rx_rules.proofs.EveryLaws.{Every, filter-passes}
use Rattle.rx_rules.proofs.LeastLaws.{least-keeps}
use Rattle.rx_history.proofs.Order.Orderly.{Orderly}
use Rattle.rx_history.proofs.Order.OrderlyEnter.{orderly_entered}
use Rattle.rx_history.proofs.Places.{there-entered}
use Rattle.rx_node.specs.Mirrors.{IsChannel, IsKey, Mirrors}
use Rattle.rx_node.specs.Node.{NodeState, setup_of}
use Rattle.rx_node.specs.declared.link.Link.{Link}
use Rattle.rx_server.specs.Server.{IsServerOf, IsServing, ReadyStand, ServerState, Serves}
use Rattle.rx_server.specs.Taking.{Entered, IsReady}
use Rattle.rx_server.proofs.PlacedFirsts.{firsts_entered, firsts_replaced, stand_entered, stand_replaced}
use Rattle.rx_server.proofs.Serving.{SameRole, challenges_by}

-- the nonce of the next connection
next-nonce : (kind : Kind) (service nonce k : ℕ) → IsServerOf kind service → nonce ≡ nonce_of kind k
    → (nonce + 1) % 2 ^ 64 ≡ nonce_of kind (suc k)
next-nonce (Server service nonces) own nonce k is same = omega arith
next-nonce (Client host epoch) own nonce k is same = absurd is

module _ (class : List ℕ → Class) (sv : ServerState) (new : NodeState) (l : Looks) (x : Connection)
    (server : IsServerOf sv.node.kind sv.service) (serves : Serves class sv l) (absent : conn_at l x ≡ None)
    (role : SameRole sv.node new) where
  abbrev s : Setup
  s = setup_of class sv.node

  abbrev fresh : ConnLooks
  fresh = fresh_conn x x.host sv.service 1 l

  abbrev next : ServerState
  next = record sv { node = new; nonce = (sv.nonce + 1) % 2 ^ 64 }

  unknown : is_some (conn_at l x) ≡ false
  unknown = ap (λ (o : Option ConnLooks). is_some o) absent

  -- what the rules make of it, by the place that is found
  with-is : (o : Option ConnLooks) → (if is_full s l then idle_conn l else None) ≡ o
      → placed fresh o l ≡ with_conn s sv.node.kind x l
  with-is o found = of sv.node.kind server
    where
      of : (kind : Kind) → IsServerOf kind sv.service → placed fresh o l ≡ with_conn s kind x l
      of (Server service nonces) is = (λ i. placed (fresh_conn x x.host (sym is i) 1 l) (sym found i) l)
      of (Client host epoch) is = absurd is

  orderly-made : (o : Option ConnLooks) → (if is_full s l then idle_conn l else None) ≡ o → has_place s l ≡ true
      → Orderly s (placed fresh o l)
  orderly-made o found has =
      subst (λ (q : Looks). Orderly s q)
      (ap (λ (b : Bool). if b then l else with_conn s sv.node.kind x l) unknown ∙ sym (with-is o found))
      (orderly_entered s x l (λ served none. has) serves.mirrors.orderly)

  entered-of : (o : Option ConnLooks) → (placed fresh o l).entered ≡ suc l.entered
  entered-of None = refl
  entered-of (Some old) = refl

  nonce-made : (o : Option ConnLooks) → next.nonce ≡ nonce_of new.kind (placed fresh o l).entered
  nonce-made o =
      next-nonce sv.node.kind sv.service sv.nonce l.entered server serves.nonce
      ∙ (λ i. nonce_of (sym role.kind i) (sym (entered-of o) i))

  still-ready : (m : Looks) → ReadyStand (class sv.node.secret).challenges sv.firsts m
      → ReadyStand (class new.secret).challenges sv.firsts m
  still-ready m = subst (λ (b : Bool). ReadyStand b sv.firsts m) (sym (challenges_by class sv.node new role))

  -- in the next place
  pub entered_next : (link : Link) → link ≡ record { peer = x.host; service = sv.service; first = 1 }
      → length sv.node.table.conns < sv.node.limits.conns
      → (Orderly s (placed (fresh_conn x link.peer link.service link.first l) None l)
      → Mirrors class new (placed (fresh_conn x link.peer link.service link.first l) None l))
      → Entered class sv next l x
  entered_next link linked low steps =
      record {
        has = has;
        serves = subst (λ (q : Looks). Serves class next q) (with-is None found)
            (record {
              mirrors = subst (λ (k : Link). Orderly s (placed (fresh_conn x k.peer k.service k.first l) None l)
                  → Mirrors class new (placed (fresh_conn x k.peer k.service k.first l) None l)) linked steps orderly;
              nonce = nonce-made None;
              firsts = firsts_entered s l serves.mirrors.orderly serves.mirrors.numbered x x.host sv.service 1 absent
                  sv.firsts.order serves.firsts;
              ready = still-ready (placed fresh None l)
                  (stand_entered s l serves.mirrors.orderly serves.mirrors.numbered x x.host sv.service 1 absent
                  (class sv.node.secret).challenges sv.firsts serves.ready);
            });
      }
    where
      open-places : is_full s l ≡ false
      open-places = (let same = serves.mirrors.conns.conns in grind (arith, nat_tests))

      has : has_place s l ≡ true
      has = ap (λ (b : Bool). not b || is_some (idle_conn l)) open-places

      found : (if is_full s l then idle_conn l else None) ≡ None
      found = ap (λ (b : Bool). if b then idle_conn l else None) open-places

      orderly : Orderly s (placed fresh None l)
      orderly = orderly-made None found has

  -- in the place of one that is idle
  pub entered_instead : (link : Link) → link ≡ record { peer = x.host; service = sv.service; first = 1 }
      → (place : ℕ) (old : ConnLooks) → sv.node.limits.conns ≤ length sv.node.table.conns
      → slice_get l.conns place ≡ Some old → idle_conn l ≡ Some old
      → (Orderly s (placed (fresh_conn x link.peer link.service link.first l) (Some old) l)
      → Mirrors class new (placed (fresh_conn x link.peer link.service link.first l) (Some old) l))
      → Entered class sv next l x
  entered_instead link linked place old full here idle steps =
      record {
        has = has;
        serves = subst (λ (q : Looks). Serves class next q) (with-is (Some old) found)
            (record {
              mirrors = subst (λ (k : Link). Orderly s (placed (fresh_conn x k.peer k.service k.first l) (Some old) l)
                  → Mirrors class new (placed (fresh_conn x k.peer k.service k.first l) (Some old) l)) linked steps
                  orderly;
              nonce = nonce-made (Some old);
              firsts = firsts_replaced s l serves.mirrors.orderly serves.mirrors.numbered x x.host
                  sv.service 1 old place
                  here was-idle orderly sv.firsts.order serves.firsts;
              ready = still-ready (placed fresh (Some old) l)
                  (stand_replaced s l serves.mirrors.orderly serves.mirrors.numbered x x.host
                  sv.service 1 old place
                  here was-idle orderly (class sv.node.secret).challenges sv.firsts serves.ready);
            });
      }
    where
      no-places : is_full s l ≡ true
      no-places = (let same = serves.mirrors.conns.conns in grind (arith, nat_tests))

      found : (if is_full s l then idle_conn l else None) ≡ Some old
      found = ap (λ (b : Bool). if b then idle_conn l else None) no-places ∙ idle

      has : has_place s l ≡ true
      has = (λ i. not (no-places i) || is_some (idle i))

      was-idle : is_idle l old ≡ true
      was-idle =
          least-keeps (λ r. is_idle l r ≡ true) (λ r. r.last_use) (filter (is_idle l) l.conns)
          (filter-passes (is_idle l) l.conns) old idle

      orderly : Orderly s (placed fresh (Some old) l)
      orderly = orderly-made (Some old) found has

-- it serves on with one more
pub serving_entered : (class : List ℕ → Class) (sv : ServerState) (new : NodeState) (x : Connection)
    (i : IsServing class sv)
    → new.kind ≡ sv.node.kind → new.limits ≡ sv.node.limits → length sv.node.table.conns ≤ length new.table.conns
    → Entered class sv (record sv { node = new; nonce = (sv.nonce + 1) % 2 ^ 64 }) i.looks x
    → IsServing class (record sv { node = new; nonce = (sv.nonce + 1) % 2 ^ 64 })
serving_entered class sv new x i kind limits more entered =
    record {
      server = subst (λ (k : Kind). IsServerOf k sv.service) (sym kind) i.server;
      fits = subst FitsLimits (sym limits) i.fits;
      looks = with_conn (setup_of class sv.node) sv.node.kind x i.looks;
      serves = entered.serves;
      there = every sv.firsts.order i.there;
    }
  where
    every : (keys : List ℕ) → Every (IsKey sv.node) keys → Every (IsKey new) keys
    every [] all = tt
    every (key ∷ keys) all = ((let low = all.0 in omega arith), every keys all.1)

-- where the table is full and none is idle there is no place
pub no_place : (class : List ℕ → Class) (sv : ServerState) (l : Looks) → Serves class sv l
    → sv.node.limits.conns ≤ length sv.node.table.conns → idle_conn l ≡ None
    → has_place (setup_of class sv.node) l ≡ false
no_place class sv l serves full idle = (λ i. not (no-places i) || is_some (idle i))
  where
    no-places : is_full (setup_of class sv.node) l ≡ true
    no-places = (let same = serves.mirrors.conns.conns in grind (arith, nat_tests))

-- a connection that was entered is known
pub entered_known : (class : List ℕ → Class) (sv new : ServerState) (l : Looks) (x : Connection)
    → IsServerOf sv.node.kind sv.service → conn_at l x ≡ None
    → conn_at (with_conn (setup_of class sv.node) sv.node.kind x l) x ≡ None → ⊥
entered_known class sv new l x server absent none =
    false≢true (sym (ap (λ (o : Option ConnLooks). is_some o) none) ∙ there)
  where
    serves-kind : (kind : Kind) → IsServerOf kind sv.service → IsServer kind
    serves-kind (Server service nonces) is = tt
    serves-kind (Client host epoch) is = is

    there : is_some (conn_at (with_conn (setup_of class sv.node) sv.node.kind x l) x) ≡ true
    there =
        subst (λ (q : Looks). is_some (conn_at q x) ≡ true)
        (ap (λ (o : Option ConnLooks). if is_some o then l else with_conn (setup_of class sv.node) sv.node.kind x l)
        absent)
        (there-entered (setup_of class sv.node) x l (serves-kind sv.node.kind server))

-- where it is known it is used
pub ready_known : (class : List ℕ → Class) (old new : ServerState) (l : Looks) (c : CallName) (key : ℕ)
    → is_some (conn_at l (connection_of c)) ≡ true
    → Serves class new (used (connection_of c) l) → IsChannel (used (connection_of c) l) key (channel_of c)
    → IsReady class old new l c key
ready_known class old new l c key known serves channel =
    (let same : l ≡ entered (setup_of class old.node) (connection_of c) l =
    ap (λ (b : Bool). if b then l else with_conn (setup_of class old.node) old.node.kind (connection_of c) l)
    (sym known) in
    record {
      has = inl known;
      serves = subst (λ (q : Looks). Serves class new (used (connection_of c) q)) same serves;
      channel = subst (λ (q : Looks). IsChannel (used (connection_of c) q) key (channel_of c)) same channel;
    })

-- where it was entered too
pub ready_entered : (class : List ℕ → Class) (old mid new : ServerState) (l : Looks) (c : CallName) (key : ℕ)
    → conn_at l (connection_of c) ≡ None → Entered class old mid l (connection_of c)
    → Serves class new (used (connection_of c) (with_conn (setup_of class old.node) old.node.kind (connection_of c) l))
    → IsChannel (used (connection_of c) (with_conn (setup_of class old.node) old.node.kind (connection_of c) l)) key
    (channel_of c)
    → IsReady class old new l c key
ready_entered class old mid new l c key absent was serves channel =
    (let same : with_conn (setup_of class old.node) old.node.kind (connection_of c) l
    ≡ entered (setup_of class old.node) (connection_of c) l =
    ap (λ (o : Option ConnLooks). if is_some o then l
    else with_conn (setup_of class old.node) old.node.kind (connection_of c) l) (sym absent) in
    record {
      has = inr was.has;
      serves = subst (λ (q : Looks). Serves class new (used (connection_of c) q)) same serves;
      channel = subst (λ (q : Looks). IsChannel (used (connection_of c) q) key (channel_of c)) same channel;
    })
