-- From one stage to another none of some calls comes further: at each moment between each stands at its ends as it did.
use Rattle.std.proofs.Common.{◌≡◌, ◌⊎◌, ◌++◌, ℕ, ℤ, zero, suc, Bool, true, false, List, [], ◌∷◌, Option, Some, None}
use Rattle.std.proofs.Common.{refl, inl, inr, ap, sym, subst, ◌∙◌, append_assoc}
use Rattle.std.specs.Prelude.{slice_get}
use Rattle.rx_model.specs.declared.event.Event.{Event}
use Rattle.rx_model.specs.declared.event.Noted.{Noted}
use Rattle.rx_model.specs.declared.names.CallName.{CallName}
use Rattle.rx_rules.specs.After.{looks}
use Rattle.rx_rules.specs.Life.{is_active}
use Rattle.rx_rules.specs.Life as lives
use Rattle.rx_rules.specs.Looks.{CallRecord, call_at}
use Rattle.rx_rules.specs.Setup.{Client, IsServer, Kind, Server, is_client}
use Rattle.rx_history.specs.Sides.{IsClientAt, Node, side}
use Rattle.rx_law.specs.Worlds.{AreNodes}
use Rattle.rx_law.proofs.World.{if-some}
use Rattle.rx_wire.specs.Turns.{noted}
use Rattle.rx_plan.proofs.Callers.{side_own}
use Rattle.rx_plan.specs.Stages.{Stage}
use Rattle.rx_between.proofs.Each.EachItem.{In}
use Rattle.rx_closing.proofs.Ends.RoomLaws.{active_lives}
use Rattle.rx_closing.proofs.Far.FarStands.{StandsOf, both_far, far_between, scene_stands}
use Rattle.rx_closing.proofs.Frame.{Crowd, OneOf, asked_in, served_in}
use Rattle.rx_closing.proofs.Living.Before.{one_before}
use Rattle.rx_closing.proofs.Living.CrowdRounds.{IsCrowd, among_at, fits_at, legal_at}
use Rattle.rx_closing.proofs.Messages.Delivered.{node_is}
use Rattle.rx_closing.proofs.Owing.EndsThere.{Ends}
use Rattle.rx_closing.proofs.Rounds.Chains.{Adds, adds_one}
use Rattle.rx_closing.proofs.Rounds.ClientsApart.{one_client, own_call_kind}
use Rattle.rx_closing.proofs.Rounds.EventParts.{kind_client, kind_other}
use Rattle.rx_closing.proofs.Rounds.RoundEvents.{IsNext}
use Rattle.rx_closing.proofs.Together.Members.{Member, names_of}

-- from `s` to `t` none of these comes further, and none is broken at the server
pub record AreStill (server : Node) (ms : List Member) (s t : Stage) : Type 0 where
  pub nodes : t.nodes ≡ s.nodes
  pub grown : Adds s.history t.history
  pub crowd : Crowd (names_of ms) s
  pub first : slice_get s.nodes 0 ≡ Some server
  pub one : (m : Member) → In m ms → OneOf m.call m.index m.client server t
  pub far :
      (m : Member) → In m ms → both_far m.call m.index m.client server s ≡ both_far m.call m.index m.client server t
  pub whole :
      (m : Member) → In m ms → (y : CallRecord) → served_in m.call server s ≡ Some y → (code : ℤ)
      → y.life ≡ lives.Broken code → ⊥

-- one of those has the name
pub named_in : (ms : List Member) (c : CallName) → In c (names_of ms) → (m : Member) × In m ms × (m.call ≡ c)
named_in [] c there = absurd there
named_in (m ∷ ms) c (inl same) = (m, inl refl, sym same)
named_in (m ∷ ms) c (inr rest) = (let r = named_in ms c rest in (r.0, inr r.1, r.2))

-- a node is its server, or its client
abbrev pub IsEnd : Node → ℕ → Node → Member → Type 0
IsEnd server j n m = ((j ≡ 0) × (n ≡ server)) ⊎ ((j ≡ suc m.index) × (n ≡ m.client))

-- less of what came
pub adds_less : (e : Noted) (h last : List Noted) → Adds (e ∷ h) last → Adds h last
adds_less e h last a = record { more = a.more ++ e ∷ []; is = a.is ∙ sym (append_assoc a.more (e ∷ []) h) }

-- a server is the first node
pub server_first : (nodes : List Node) → AreNodes nodes → (j : ℕ) (n : Node) → slice_get nodes j ≡ Some n
    → IsServer n.setup.kind → j ≡ 0
server_first nodes are zero n there serves = refl
server_first nodes are (suc j) n there serves =
    absurd (of n.setup.kind serves
    (if-some (slice_get nodes (suc j)) n (λ m. IsClientAt m.host m.setup.kind) there (are.clients j)))
  where
    of : (q : Kind) → IsServer q → IsClientAt n.host q → ⊥
    of (Server service nonces) serves home = home
    of (Client host epoch) serves home = serves

some_call : (a b : CallRecord) → ◌≡◌ {A = Option CallRecord} (Some a) (Some b) → a ≡ b
some_call a b is = cc

-- ---- records that stand

-- a call that is there now was there, with the same life
stood : (o : Option CallRecord) (r : CallRecord) → StandsOf o (Some r)
    → (q : CallRecord) × (o ≡ Some q) × (q.life ≡ r.life)
stood None r stands = absurd stands
stood (Some q) r stands = (q, refl, sym stands.life)

-- and one that was there is
stays : (q : CallRecord) (o : Option CallRecord) → StandsOf (Some q) o
    → (r : CallRecord) × (o ≡ Some r) × (r.life ≡ q.life)
stays q None stands = absurd stands
stays q (Some r) stands = (r, refl, stands.life)

module _ (server : Node) (ms : List Member) (s t : Stage) (a : AreStill server ms s t) where
  abbrev are : AreNodes s.nodes
  are = a.crowd.world.sides.nodes_are

  -- a moment as a stage
  abbrev pub stage_at : List Noted → Stage
  stage_at h = record s { history = h }

  -- its client is there
  client_there : (m : Member) → In m ms → slice_get s.nodes (suc m.index) ≡ Some m.client
  client_there m inside =
      ap (λ (ns : List Node). slice_get ns (suc m.index)) (sym a.nodes) ∙ (a.one m inside).client_there

  -- ---- a moment between

  module _ (h : List Noted) (front : Adds s.history h) (back : Adds h t.history) (m : Member) (inside : In m ms) where
    one_at : OneOf m.call m.index m.client server (stage_at h)
    one_at = one_before m.call m.index m.client server t (a.one m inside) (stage_at h) (sym a.nodes) back

    both_stand : StandsOf (asked_in m.call m.index m.client s) (asked_in m.call m.index m.client (stage_at h))
        × StandsOf (served_in m.call server s) (served_in m.call server (stage_at h))
    both_stand =
        scene_stands m.call m.index m.client server (stage_at h) one_at s front.more front.is
        (far_between m.call m.index m.client server s (stage_at h) t one_at (a.one m inside) front.more back.more
        front.is back.is (a.far m inside)).0

    end_stands : (j : ℕ) (n : Node) → IsEnd server j n m
        → StandsOf (call_at (looks n.setup (side j s.history)) m.call) (call_at (looks n.setup (side j h)) m.call)
    end_stands j n (inl is) =
        subst (λ (i : ℕ). StandsOf (call_at (looks n.setup (side i s.history)) m.call)
        (call_at (looks n.setup (side i h)) m.call)) (sym is.0)
        (subst (λ (q : Node). StandsOf (call_at (looks q.setup (side 0 s.history)) m.call)
        (call_at (looks q.setup (side 0 h)) m.call)) (sym is.1) both_stand.1)
    end_stands j n (inr is) =
        subst (λ (i : ℕ). StandsOf (call_at (looks n.setup (side i s.history)) m.call)
        (call_at (looks n.setup (side i h)) m.call)) (sym is.0)
        (subst (λ (q : Node). StandsOf (call_at (looks q.setup (side (suc m.index) s.history)) m.call)
        (call_at (looks q.setup (side (suc m.index) h)) m.call)) (sym is.1) both_stand.0)

    -- what it was there as the first stage stood
    pub was : (j : ℕ) (n : Node) → IsEnd server j n m → (r : CallRecord)
        → call_at (looks n.setup (side j h)) m.call ≡ Some r
        → (q : CallRecord) × (call_at (looks n.setup (side j s.history)) m.call ≡ Some q) × (q.life ≡ r.life)
    was j n end r there =
        stood (call_at (looks n.setup (side j s.history)) m.call) r
        (subst (λ (o : Option CallRecord). StandsOf (call_at (looks n.setup (side j s.history)) m.call) o) there
        (end_stands j n end))

    -- what it is there
    pub will : (j : ℕ) (n : Node) → IsEnd server j n m → (q : CallRecord)
        → call_at (looks n.setup (side j s.history)) m.call ≡ Some q
        → (r : CallRecord) × (call_at (looks n.setup (side j h)) m.call ≡ Some r) × (r.life ≡ q.life)
    will j n end q there =
        stays q (call_at (looks n.setup (side j h)) m.call)
        (subst (λ (o : Option CallRecord). StandsOf o (call_at (looks n.setup (side j h)) m.call)) there
        (end_stands j n end))

  -- ---- where calls are

  -- a node that has one of them is its server or its client
  pub end_of : (h : List Noted) → IsCrowd s.nodes are (names_of ms) h → (j : ℕ) (n : Node)
      → slice_get s.nodes j ≡ Some n → (m : Member) → In m ms → (r : CallRecord)
      → call_at (looks n.setup (side j h)) m.call ≡ Some r → IsEnd server j n m
  end_of h l j n there m inside r has = by (is_client n.setup.kind) refl
    where
      zeroth : (i : ℕ) → i ≡ 0 → slice_get s.nodes i ≡ Some n → n ≡ server
      zeroth i is at =
          node_is n server (sym (subst (λ (k : ℕ). slice_get s.nodes k ≡ Some n) is at) ∙ a.first)

      later : (i : ℕ) → i ≡ suc m.index → slice_get s.nodes i ≡ Some n → n ≡ m.client
      later i is at =
          node_is n m.client (sym (subst (λ (k : ℕ). slice_get s.nodes k ≡ Some n) is at) ∙ client_there m inside)

      by : (b : Bool) → is_client n.setup.kind ≡ b → IsEnd server j n m
      by false kind =
          (let is : j ≡ 0 = server_first s.nodes are j n there (kind_other n.setup.kind kind) in
          inl (is, zeroth j is there))
      by true kind =
          (let q = kind_client n.setup.kind kind in
          let own : n.setup.kind ≡ Client m.call.host m.call.epoch =
          own_call_kind n.setup (side j h) m.call r q.0 q.1.0 q.1.1 (fits_at s.nodes are (names_of ms) j n there)
          (legal_at s.nodes are (names_of ms) h j n there l.allowed) has in
          let is : j ≡ suc m.index =
          one_client s.nodes m.call j (suc m.index) n m.client a.crowd.world.apart there (client_there m inside) own
          (a.one m inside).client_is in
          inr (is, later j is there))

  -- ---- none ends

  -- no event ends a call that was at work
  pub ends_never : (h : List Noted) (node : ℕ) (n : Node) (e : Event) → IsNext s.nodes h node n e
      → IsCrowd s.nodes are (names_of ms) h → Adds s.history h → Adds (noted node e ∷ h) t.history
      → Ends (looks n.setup (side node h)) (looks n.setup (e ∷ side node h)) → ⊥
  ends_never h node n e next l front back ends =
      by f.0 f.1 f.2
      (end_of h l node n next.there f.0 f.1 ends.before (had f.0 f.2))
    where
      f : (m : Member) × In m ms × (m.call ≡ ends.name)
      f =
          named_in ms ends.name (among_at s.nodes are (names_of ms) h node n next.there l ends.name ends.before ends.had
          (active_lives ends.before.life ends.active))

      had : (m : Member) → m.call ≡ ends.name → call_at (looks n.setup (side node h)) m.call ≡ Some ends.before
      had m name =
          subst (λ (c : CallName). call_at (looks n.setup (side node h)) c ≡ Some ends.before) (sym name) ends.had

      has : (m : Member) → m.call ≡ ends.name
          → call_at (looks n.setup (side node (noted node e ∷ h))) m.call ≡ Some ends.behind
      has m name =
          subst (λ (es : List Event). call_at (looks n.setup es) m.call ≡ Some ends.behind) (sym (side_own node e h))
          (subst (λ (c : CallName). call_at (looks n.setup (e ∷ side node h)) c ≡ Some ends.behind) (sym name) ends.has)

      of : (o : Option CallRecord) (x y : CallRecord) → o ≡ Some x → o ≡ Some y → x.life ≡ ends.before.life
          → y.life ≡ ends.behind.life → ⊥
      of o x y one other first second =
          (let same : x ≡ y = some_call x y (sym one ∙ other) in
          let life : ends.before.life ≡ ends.behind.life = sym first ∙ ap (λ (r : CallRecord). r.life) same ∙ second in
          let no : true ≡ false = sym ends.active ∙ ap is_active life ∙ ends.idle in
          cc)

      by : (m : Member) → In m ms → m.call ≡ ends.name → IsEnd server node n m → ⊥
      by m inside name end =
          (let x = was h front (adds_less (noted node e) h t.history back) m inside node n end ends.before (had m name)
          in
          let y = was (noted node e ∷ h) (adds_one s.history h (noted node e) front) back m inside node n end
          ends.behind (has m name) in
          of (call_at (looks n.setup (side node s.history)) m.call) x.0 y.0 x.1 y.1 x.2 y.2)
