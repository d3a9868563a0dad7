-- What changes leave of a node's records of connections: no last use goes back, and no BUSY is owed anew.
use Rattle.std.proofs.Common.{◌≡◌, ◌≤◌, ℕ, zero, suc, cond, if◌then◌else◌, Bool, true, false, List, [], ◌∷◌}
use Rattle.std.proofs.Common.{map, Option, Some, None, option_map, refl, ◌∙◌, sym, subst, arith}
use Rattle.std.specs.List.{find}
use Rattle.std.specs.Prelude.{slice_get, unwrap_or}
use Rattle.rx_model.specs.declared.names.CallName.{CallName}
use Rattle.rx_rules.specs.After.{counted}
use Rattle.rx_rules.specs.Looks.{ChannelLooks, ConnLooks, Looks, changed_at, conn_at, fresh_channel}
use Rattle.rx_rules.specs.Looks.{on_channel, on_conn}
use Rattle.rx_model.specs.Names.{Connection, Channel, connection_of, same_connection}
use Rattle.rx_rules.specs.Records.{used}
use Rattle.rx_rules.proofs.ConnsLaws.{KeepsConns, conn_if, conn_at-on_conn}
use Rattle.rx_rules.proofs.EveryLaws.{Every}

-- the BUSY that the n-th channel owes
abbrev pub busy_in : List ChannelLooks → ℕ → Option ℕ
busy_in qs n = (unwrap_or (slice_get qs n) (fresh_channel 0)).owed_busy

-- the same of a connection that is looked for
abbrev pub busy_of : Option ConnLooks → ℕ → Option ℕ
busy_of None n = None
busy_of (Some r) n = busy_in r.channels n

-- each record of the connection was used at this moment or later
abbrev pub Young : Connection → ℕ → List ConnLooks → Type 0
Young y u rs = Every (λ r. same_connection r.connection y ≡ true → u ≤ r.last_use) rs

-- what a change leaves of the records of a call's connection
pub record Firm (c : CallName) (l m : Looks) : Type 0 where
  pub now : m.now ≡ l.now
  pub young : (u : ℕ) → u ≤ l.now → Young (connection_of c) u l.conns → Young (connection_of c) u m.conns
  pub busy : (n : ℕ) → busy_of (conn_at m (connection_of c)) c.chan ≡ Some n
      → busy_of (conn_at l (connection_of c)) c.chan ≡ Some n

-- a change that leaves the connections
pub firm-same : (c : CallName) (l m : Looks) → m.conns ≡ l.conns → m.now ≡ l.now → Firm c l m
firm-same c l m conns now =
    record {
      now = now;
      young = λ u low young. subst (λ (rs : List ConnLooks). Young (connection_of c) u rs) (sym conns) young;
      busy = λ n is. subst (λ (rs : List ConnLooks). busy_of
          (find (λ r. same_connection r.connection (connection_of c)) rs) c.chan ≡ Some n) conns is;
    }

-- one behind the other
pub firm-trans : (c : CallName) (l m n : Looks) → Firm c l m → Firm c m n → Firm c l n
firm-trans c l m n p q =
    let same : m.now ≡ l.now = p.now in
    record {
      now = q.now ∙ p.now;
      young = λ u low young. q.young u (omega arith) (p.young u low young);
      busy = λ k is. p.busy k (q.busy k is);
    }

-- ---- one connection

-- a change of a record that does so
pub record Plain (now : ℕ) (f : ConnLooks → ConnLooks) : Type 0 where
  pub names : KeepsConns f
  pub uses : (r : ConnLooks) (u : ℕ) → u ≤ now → u ≤ r.last_use → u ≤ (f r).last_use
  pub busy : (r : ConnLooks) (n k : ℕ) → busy_in (f r).channels n ≡ Some k → busy_in r.channels n ≡ Some k

-- a change of a record that sets no last use back
pub young-map : (x y : Connection) (f : ConnLooks → ConnLooks) (rs : List ConnLooks) (u : ℕ) → KeepsConns f
    → ((r : ConnLooks) → u ≤ r.last_use → u ≤ (f r).last_use) → Young y u rs → Young y u (map (conn_if x f) rs)
young-map x y f [] u names uses young = tt
young-map x y f (r ∷ rs) u names uses young =
    (one (same_connection r.connection x), young-map x y f rs u names uses young.1)
  where
    one : (b : Bool) → same_connection (cond b (f r) r).connection y ≡ true → u ≤ (cond b (f r) r).last_use
    one true same = uses r (young.0 (subst (λ (z : Connection). same_connection z y ≡ true) (names r) same))
    one false same = young.0 same

busy-map : (x : Connection) (f : ConnLooks → ConnLooks) (now : ℕ) (o : Option ConnLooks) (n k : ℕ) → Plain now f
    → busy_of (option_map (conn_if x f) o) n ≡ Some k → busy_of o n ≡ Some k
busy-map x f now None n k plain is = is
busy-map x f now (Some r) n k plain is = one (same_connection r.connection x) is
  where
    one : (b : Bool) → busy_in (cond b (f r) r).channels n ≡ Some k → busy_in r.channels n ≡ Some k
    one true is = plain.busy r n k is
    one false is = is

-- a change of one record
pub firm-on_conn : (c : CallName) (x : Connection) (f : ConnLooks → ConnLooks) (l : Looks) → Plain l.now f
    → Firm c l (on_conn x f l)
firm-on_conn c x f l plain =
    record {
      now = refl;
      young = λ u low young. young-map x (connection_of c) f l.conns u plain.names
          (λ r is. plain.uses r u low is) young;
      busy = λ n is.
          busy-map x f l.now (conn_at l (connection_of c)) c.chan n plain
          (subst (λ (o : Option ConnLooks). busy_of o c.chan ≡ Some n)
          (conn_at-on_conn (connection_of c) x f l plain.names) is);
    }

-- where each record of the connection is used, it is used now
pub young-now : (y : Connection) (f : ConnLooks → ConnLooks) (rs : List ConnLooks) (now : ℕ) → KeepsConns f
    → ((r : ConnLooks) → (f r).last_use ≡ now) → Young y now (map (conn_if y f) rs)
young-now y f [] now names uses = tt
young-now y f (r ∷ rs) now names uses = (one (same_connection r.connection y) refl, young-now y f rs now names uses)
  where
    one : (b : Bool) → same_connection r.connection y ≡ b → same_connection (cond b (f r) r).connection y ≡ true
        → now ≤ (cond b (f r) r).last_use
    one true is same = (let at = uses r in omega arith)
    one false is same = absurd cc (is, same)

-- ---- one channel

busy-changed : (qs : List ChannelLooks) (m n k : ℕ) (f : ChannelLooks → ChannelLooks)
    → ((q : ChannelLooks) (k : ℕ) → (f q).owed_busy ≡ Some k → q.owed_busy ≡ Some k)
    → busy_in (changed_at m f qs) n ≡ Some k → busy_in qs n ≡ Some k
busy-changed [] m n k f clears is = is
busy-changed (q ∷ qs) zero zero k f clears is = clears q k is
busy-changed (q ∷ qs) zero (suc n) k f clears is = is
busy-changed (q ∷ qs) (suc m) zero k f clears is = is
busy-changed (q ∷ qs) (suc m) (suc n) k f clears is = busy-changed qs m n k f clears is

-- a change of what a channel owes beside a BUSY
pub firm-on_channel : (c : CallName) (ch : Channel) (f : ChannelLooks → ChannelLooks) (l : Looks)
    → ((q : ChannelLooks) (k : ℕ) → (f q).owed_busy ≡ Some k → q.owed_busy ≡ Some k) → Firm c l (on_channel ch f l)
firm-on_channel c ch f l clears =
    firm-on_conn c ch.connection (λ r. record r { channels = changed_at ch.chan f r.channels }) l
    (record {
      names = λ r. refl;
      uses = λ r u low is. is;
      busy =
          λ r n k is. busy-changed r.channels ch.chan n k f clears is;
    })

-- a change that may be made
pub firm-if : (c : CallName) (test : Bool) (l m : Looks) → Firm c l m → Firm c l (if test then m else l)
firm-if c true l m firm = firm
firm-if c false l m firm = firm-same c l l refl refl

-- ---- uses

-- a connection is used
pub firm-used : (c : CallName) (x : Connection) (l : Looks) → Firm c l (used x l)
firm-used c x l =
    firm-on_conn c x (λ r. record r { last_use = l.now }) l
    (record { names = λ r. refl; uses = λ r u low is. low; busy = λ r n k is. is })

-- a datagram more was given on one
pub firm-counted : (c : CallName) (x : Connection) (l : Looks) → Firm c l (counted x l)
firm-counted c x l =
    firm-on_conn c x (λ r. record r { given = suc r.given; last_use = l.now }) l
    (record { names = λ r. refl; uses = λ r u low is. low; busy = λ r n k is. is })
