-- Datagrams that come to nodes, one node after another.
use Rattle.std.proofs.Common.{◌≡◌, ◌<◌, ◌∙◌, ◌+◌, ℕ, zero, suc, List, [], ◌∷◌, ◌++◌, Bool, true, false, Option}
use Rattle.std.proofs.Common.{Some, None}
use Rattle.std.proofs.Common.{Result, take, drop, get_or}
use Rattle.std.specs.Result.{IsErr, IsErrAnd}
use Rattle.std.proofs.Common.{refl, sym, subst, ap, inr, arith, length, option_map, unwrap_or}
use Rattle.rx_model.specs.declared.names.Host.{Host}
use Rattle.rx_model.specs.Names.{same_host}
use Rattle.rx_law.specs.Worlds.{Datagram}
use Rattle.rx_events.specs.Events.{IsTaken}
use Rattle.rx_joint.specs.Nodes.{IsNodeThere, NodesState, host_of}
use Rattle.rx_stage.specs.declared.stop.Stop.{Stop}
use Rattle.rx_stage.specs.declared.stop.Stop.TheVariants as stops
use Rattle.rx_plan.specs.Network.{all_nodes, below, comes_to, delivers, is_for}
use Rattle.rx_plan.specs.Parts.{To, Cut, Part, by_test, each, ends}
use Rattle.rx_stage.specs.Ran.{Ran, stop_of}
use Rattle.rx_stage.specs.Shown.{Plays, PlaysNodes, Shows, WorldState}
use Rattle.rx_plan.specs.Stages.{Stage, event}
use Rattle.rx_stage.specs.Tells.{Told}
use Rattle.rx_stage.proofs.Finding.{count_shown, host_shown}
use Rattle.rx_stage.proofs.Making.{each_cut, event_cut, stop_is, where_fails, where_holds}
use Rattle.rx_stage.proofs.Ordering.{Around, around, below_one}
use Rattle.rx_stage.proofs.Playing.{each_none, each_one, each_stops}
use Rattle.rx_stage.proofs.LinesGone.{grown}

-- ---- lists

-- the front of a list with the next of it
front_suc : {X : Type 0} (xs : List X) (k : ℕ) (x : X) → k < length xs → x ≡ get_or xs k x
    → take (suc k) xs ≡ take k xs ++ x ∷ []
front_suc [] k x less is = absurd (omega (arith, less))
front_suc (y ∷ ys) zero x less is = ap (λ z. z ∷ []) (sym is)
front_suc (y ∷ ys) (suc k) x less is = ap (λ zs. y ∷ zs) (front_suc ys k x (omega (arith, less)) is)

-- and with all behind it
pub front_around : {X : Type 0} (xs : List X) (k : ℕ) (x : X) → k < length xs → x ≡ get_or xs k x
    → xs ≡ take k xs ++ x ∷ drop (suc k) xs
front_around [] k x less is = absurd (omega (arith, less))
front_around (y ∷ ys) zero x less is = ap (λ z. z ∷ ys) (sym is)
front_around (y ∷ ys) (suc k) x less is = ap (λ zs. y ∷ zs) (front_around ys k x (omega (arith, less)) is)

-- ---- over nodes alone

-- one for each of none
pub nodes_none : {X : Type 0} (part : X → Stage → Part Stage) (n : NodesState) (t : Told)
    → PlaysNodes (each part []) n n None t t
nodes_none part n t w is =
    subst (λ m. Plays (each part []) w (record w { nodes = m }) None t t) is (each_none part w t)

module _ {X : Type 0} (part : X → Stage → Part Stage) (xs : List X) where
  -- one more
  pub nodes_one : (x : X) (old m new : NodesState) (stop : Option Stop) (a b c : Told)
      → PlaysNodes (each part xs) old m None a b → PlaysNodes (part x) m new stop b c
      → PlaysNodes (each part (xs ++ x ∷ [])) old new stop a c
  nodes_one x old m new stop a b c f g w is =
      each_one part xs x w (record w { nodes = m }) (record w { nodes = new }) stop a b c (f w is)
      (g (record w { nodes = m }) refl)

  -- one more that ended the run, whatever was to come
  pub nodes_stops : (more : List X) (x : X) (old m new : NodesState) (stop : Stop) (a b c : Told)
      → PlaysNodes (each part xs) old m None a b → PlaysNodes (part x) m new (Some stop) b c
      → PlaysNodes (each part (xs ++ x ∷ more)) old new (Some stop) a c
  nodes_stops more x old m new stop a b c f g w is =
      each_stops part xs more x w (record w { nodes = m }) (record w { nodes = new }) stop a b c (f w is)
      (g (record w { nodes = m }) refl)

-- ---- a run may be cut off first

comes_cut : (d : Datagram) (node : ℕ) (s : Stage) → comes_to d node s [] Cut
comes_cut d node s = of (is_for d s node)
  where
    of : (b : Bool) → by_test b (event node (IsTaken d.from d.bytes) s) (ends (To s)) [] Cut
    of true = event_cut node (IsTaken d.from d.bytes) s
    of false = (refl, inr refl)

pub delivers_cut : (d : Datagram) (s : Stage) → delivers d s [] Cut
delivers_cut d s = each_cut (comes_to d) (comes_cut d) (all_nodes s) s

-- ---- one node

-- whether a datagram is for a node that is there
pub is_for_shown : (d : Datagram) (w : WorldState) (s : Stage) (node : ℕ) → Shows w s → IsNodeThere w.nodes node
    → is_for d s node ≡ same_host d.to (host_of w.nodes node)
is_for_shown d w s node shown there = ap (λ o. unwrap_or (option_map (same_host d.to) o) false) (host_shown w s
    node shown there)

-- it isn't for that node
pub not_for : (d : Datagram) (node : ℕ) (n : NodesState) (t : Told) → IsNodeThere n node
    → same_host d.to (host_of n node) ≡ false → PlaysNodes (comes_to d node) n n None t t
not_for d node n t there other w is =
    where_fails (λ s. is_for d s node) (event node (IsTaken d.from d.bytes)) (λ s. ends (To s)) w (record w {
      nodes
          = n;
    })
    None t t
    (λ s shown. is_for_shown d w s node shown (subst (λ m. IsNodeThere m node) (sym is) there)
    ∙ ap (λ m. same_host d.to (host_of m node)) is ∙ other)
    (nodes_none {X = ℕ} (λ _ s. ends (To s)) n t w is)

-- it is for that node
pub comes_for : (d : Datagram) (node : ℕ) (n new : NodesState) (stop : Option Stop) (a b : Told) → IsNodeThere n node
    → same_host d.to (host_of n node) ≡ true → PlaysNodes (event node (IsTaken d.from d.bytes)) n new stop a b
    → PlaysNodes (comes_to d node) n new stop a b
comes_for d node n new stop a b there same plays w is =
    where_holds (λ s. is_for d s node) (event node (IsTaken d.from d.bytes)) (λ s. ends (To s)) w
    (record w { nodes = new }) stop a b
    (λ s shown. is_for_shown d w s node shown (subst (λ m. IsNodeThere m node) (sym is) there)
    ∙ ap (λ m. same_host d.to (host_of m node)) is ∙ same)
    (plays w is)

-- ---- all nodes

-- nodes as many as these
pub all_shown : (d : Datagram) (w : WorldState) (s : Stage) → Shows w s
    → all_nodes s ≡ below (suc (length w.nodes.clients))
all_shown d w s shown = ap below (count_shown w s shown)

-- each node in turn is a delivery
pub delivers_all : (d : Datagram) (old new : NodesState) (stop : Option Stop) (a b : Told)
    → PlaysNodes (each (comes_to d) (below (suc (length old.clients)))) old new stop a b
    → PlaysNodes (delivers d) old new stop a b
delivers_all d old new stop a b plays w is s shown =
    subst (λ ns. Ran (each (comes_to d) ns s) (Shows (record w { nodes = new })) stop a b)
    (sym (all_shown d w s shown ∙ ap (λ (m : NodesState). below (suc (length m.clients))) is))
    (plays w is s shown)

module _ (d : Datagram) (k : ℕ) (old m new : NodesState) (r : Result (Unit {0}) Stop) (stop : Stop) (a b c : Told) where
  -- deliveries to nodes before the run ended in one
  pub delivers_stop_as : IsErr r × IsErrAnd r (λ x. x ≡ stop) → k < suc (length old.clients)
      → PlaysNodes (each (comes_to d) (below k)) old m None a b → PlaysNodes (comes_to d k) m new (Some stop) b c
      → PlaysNodes (delivers d) old new (stop_of r) a c
  delivers_stop_as was less so_far last =
      (let at : Around k (suc (length old.clients)) = around k (suc (length old.clients)) less in
      delivers_all d old new (stop_of r) a c
      (subst (λ o. PlaysNodes (each (comes_to d) (below (suc (length old.clients)))) old new o a c) (sym (stop_is r
      stop was))
      (subst (λ ns. PlaysNodes (each (comes_to d) ns) old new (Some stop) a c) (sym at.are)
      (nodes_stops (comes_to d) (below k) at.more k old m new stop a b c so_far last))))

-- one node more
pub delivers_more : (d : Datagram) (k : ℕ) (old m new : NodesState) (a b c : Told)
    → PlaysNodes (each (comes_to d) (below k)) old m None a b → PlaysNodes (comes_to d k) m new None b c
    → PlaysNodes (each (comes_to d) (below (k + 1))) old new None a c
delivers_more d k old m new a b c so_far next =
    subst (λ ns. PlaysNodes (each (comes_to d) ns) old new None a c) (sym (below_one k))
    (nodes_one (comes_to d) (below k) k old m new None a b c so_far next)

-- ---- one datagram after another

module _ {X : Type 0} (part : X → Stage → Part Stage) (xs : List X) (k : ℕ) where
  -- one more
  pub all_more : (x : X) (old m new : NodesState) (a b c : Told) → k < length xs → x ≡ get_or xs k x
      → PlaysNodes (each part (take k xs)) old m None a b → PlaysNodes (part x) m new None b c
      → PlaysNodes (each part (take (k + 1) xs)) old new None a c
  all_more x old m new a b c less is so_far next =
      subst (λ ys. PlaysNodes (each part ys) old new None a c) (sym (grown xs k x less is))
      (nodes_one part (take k xs) x old m new None a b c so_far next)

module _ {X : Type 0} (part : X → Stage → Part Stage) (xs : List X) (k : ℕ) (x : X) (old m new : NodesState) where
  -- one that ended the run
  pub all_stop_as : (r : Result (Unit {0}) Stop) (stop : Stop) (a b c : Told) → IsErr r × IsErrAnd r (λ y. y ≡ stop)
      → k < length xs → x ≡ get_or xs k x → PlaysNodes (each part (take k xs)) old m None a b
      → PlaysNodes (part x) m new (Some stop) b c → PlaysNodes (each part xs) old new (stop_of r) a c
  all_stop_as r stop a b c was less is so_far last =
      subst (λ o. PlaysNodes (each part xs) old new o a c) (sym (stop_is r stop was))
      (subst (λ ys. PlaysNodes (each part ys) old new (Some stop) a c) (sym (front_around xs k x less is))
      (nodes_stops part (take k xs) (drop (suc k) xs) x old m new stop a b c so_far last))

-- ---- methods

-- a datagram that isn't for the host of a node
pub not_here : (i d : Datagram) (node : ℕ) (n : NodesState) (host : Host) (here : Bool) (t : Told) → i ≡ d
    → host ≡ host_of n node → here ≡ same_host i.to host → here ≡ false → IsNodeThere n node
    → PlaysNodes (comes_to d node) n n None t t
not_here i d node n host here t parts at is other there =
    not_for d node n t there
    (ap (λ (x : Datagram). same_host x.to (host_of n node)) (sym parts) ∙ ap (same_host i.to) (sym at) ∙ sym is ∙ other)

module _ (i d : Datagram) (node : ℕ) (n new : NodesState) (host : Host) (here : Bool) (stop : Option Stop) (a b : Told)
  where
    -- one that is
    pub comes_here : i ≡ d → host ≡ host_of n node → here ≡ same_host i.to host → here ≡ true → IsNodeThere n node
        → PlaysNodes (event node (IsTaken i.from i.bytes)) n new stop a b → PlaysNodes (comes_to d node) n new stop a b
    comes_here parts at is same there plays =
        comes_for d node n new stop a b there
        (ap (λ (x : Datagram). same_host x.to (host_of n node)) (sym parts) ∙ ap (same_host i.to) (sym at) ∙ sym is
        ∙ same)
        (subst (λ (x : Datagram). PlaysNodes (event node (IsTaken x.from x.bytes)) n new stop a b) parts plays)

-- each node was passed
pub delivers_done : (d : Datagram) (k : ℕ) (old new : NodesState) (a b : Told) → k ≡ suc (length old.clients)
    → PlaysNodes (each (comes_to d) (below k)) old new None a b → PlaysNodes (delivers d) old new None a b
delivers_done d k old new a b all plays =
    delivers_all d old new None a b
    (subst (λ n. PlaysNodes (each (comes_to d) (below n)) old new None a b) all plays)

-- what plays over the nodes plays over what a run keeps
pub nodes_play : (part : Stage → Part Stage) (i w new : WorldState) (nodes : NodesState) (stop : Option Stop) (a b
    : Told)
    → i ≡ w → new ≡ record i { nodes = nodes } → PlaysNodes part i.nodes nodes stop a b → Plays part w new stop a b
nodes_play part i w new nodes stop a b parts same plays =
    subst (λ v. Plays part w v stop a b) (ap (λ (v : WorldState). record v { nodes = nodes }) (sym parts) ∙ sym same)
    (plays w (ap (λ (v : WorldState). v.nodes) (sym parts)))
