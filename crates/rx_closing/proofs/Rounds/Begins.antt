-- The stage at which fair rounds begin behind a driven plan: its world, its nodes, and the names of the calls that live
-- there.
use Rattle.std.proofs.Common.{◌≡◌, ◌⊎◌, ◌+◌, not, ℕ, zero, suc, Bool, true, false, cond, List, [], ◌∷◌, reverse, Option}
use Rattle.std.proofs.Common.{Some, None, refl, inl, inr, ap, sym, subst, filter, arith, option_map, unwrap_or}
use Rattle.std.specs.List.{find}
use Rattle.std.specs.Prelude.{slice_get, IfSome, IsSomeAnd}
use Rattle.rx_model.specs.declared.event.Event.{Event}
use Rattle.rx_model.specs.declared.event.Noted.{Noted}
use Rattle.rx_model.specs.declared.names.CallName.{CallName}
use Rattle.rx_model.specs.Names.{same_name}
use Rattle.rx_model.proofs.NameLaws.{name_is}
use Rattle.rx_rules.specs.After.{looks}
use Rattle.rx_rules.specs.Classes.{null}
use Rattle.rx_rules.specs.Life.{is_live}
use Rattle.rx_rules.specs.Looks.{CallRecord, call_at, is_call}
use Rattle.rx_rules.specs.Rules.{Allowed}
use Rattle.rx_history.specs.Sides.{Node, side}
use Rattle.rx_law.specs.Promises.{ServerForgotNone}
use Rattle.rx_law.specs.Times.{Timely}
use Rattle.rx_law.specs.Worlds.{Sides, World}
use Rattle.rx_jobs.specs.Handlers.{Handlers}
use Rattle.rx_events.specs.Joint.{IsAllowedAt}
use Rattle.rx_events.specs.Waits.{over_nodes}
use Rattle.rx_script.specs.declared.plan.Numbered.{Numbered}
use Rattle.rx_script.specs.declared.plan.PlanLine.{PlanLine}
use Rattle.rx_script.specs.declared.plan.PlanLine.TheVariants as lines
use Rattle.rx_plan.specs.Promises.{client_before, line_kind, plan_clients, plan_nodes, server_before}
use Rattle.rx_plan.specs.Stages.{Stage}
use Rattle.rx_plan.proofs.Allowed.{AreAllowed, sides_of}
use Rattle.rx_plan.proofs.Givings.Answered.{nodes_are, world}
use Rattle.rx_plan.proofs.Driven.{seen}
use Rattle.rx_plan.proofs.DrivenPlan.{plan_follows}
use Rattle.rx_plan.proofs.Followed.{IsFollowed}
use Rattle.rx_plan.proofs.Givings.Promised.{plans_end}
use Rattle.rx_plan.proofs.QuietEvents.{AreServed}
use Rattle.rx_plan.proofs.Soundness.SoundPlan.{lines_in_range}
use Rattle.rx_between.proofs.Each.EachItem.{In, in_behind, in_filter, in_front, in_map}
use Rattle.rx_rounds.proofs.Clocks.GivesOrMoves.{over_in}
use Rattle.rx_closing.specs.Living.{all_live, call_lives_at, is_served, joined_names, live_names, looks_of, new_names}
use Rattle.rx_closing.specs.Closing.{RoundsBehind}
use Rattle.rx_closing.proofs.Frame.{IsPlain}
use Rattle.rx_closing.proofs.Rounds.Chains.{Adds, AnyAt, adds_carried, adds_none}
use Rattle.rx_closing.proofs.Rounds.ClientsApart.{allowed_all}
use Rattle.rx_closing.proofs.Rounds.KeptBefore.{kept_before}
use Rattle.rx_closing.proofs.Rounds.RoundEvents.{Carries, IsNext, rounds_lead}

-- ---- the nodes of a plan are unprompted

abbrev AreUnprompted : List Node → Type 0
AreUnprompted ns = (k : ℕ) → IfSome (slice_get ns k) (λ n. n.setup.prompt ≡ false)

unprompted_client : (line : PlanLine) (ns : List Node) → AreUnprompted ns
    → AreUnprompted (client_before (line_kind line) ns)
unprompted_client (lines.Client host epoch limits key) ns all zero = refl
unprompted_client (lines.Client host epoch limits key) ns all (suc k) = all k
unprompted_client line ns all k = tt

unprompted_clients : (ls : List Numbered) → AreUnprompted (plan_clients ls)
unprompted_clients [] k = tt
unprompted_clients (l ∷ ls) k = unprompted_client l.what (plan_clients ls) (unprompted_clients ls) k

unprompted_server : (line : PlanLine) (ns : List Node) → AreUnprompted ns
    → AreUnprompted (server_before (line_kind line) ns)
unprompted_server (lines.Server host service limits key nonce) ns all zero = refl
unprompted_server (lines.Server host service limits key nonce) ns all (suc k) = all k
unprompted_server line ns all k = tt

pub plan_unprompted : (ls : List Numbered) (k : ℕ) → IfSome (slice_get (plan_nodes ls) k) (λ n. n.setup.prompt ≡ false)
plan_unprompted [] k = tt
plan_unprompted (l ∷ ls) k = unprompted_server l.what (plan_clients ls) (unprompted_clients ls) k

-- ---- each call that lives is named

found_in : {X : Type 0} (p : X → Bool) (xs : List X) (x : X) → find p xs ≡ Some x → In x xs × (p x ≡ true)
found_in p [] x is = absurd cc
found_in {X = X} p (y ∷ xs) x is = by (p y) refl is (λ rest. found_in p xs x rest)
  where
    by : (b : Bool) → p y ≡ b → cond b (Some y) (find p xs) ≡ Some x
        → (find p xs ≡ Some x → In x xs × (p x ≡ true)) → In x (y ∷ xs) × (p x ≡ true)
    by true holds is again =
        (let same : y ≡ x = cc in (inl (sym same), subst (λ (z : X). p z ≡ true) same holds))
    by false fails is again = (let r = again is in (inr r.0, r.1))

in_joined : (c : CallName) (cs : List CallName) (css : List (List CallName)) → In cs css → In c cs
    → In c (joined_names css)
in_joined c cs [] there inside = absurd there
in_joined c cs (ds ∷ css) (inl same) inside =
    in_front c ds (joined_names css) (subst (λ (xs : List CallName). In c xs) same inside)
in_joined c cs (ds ∷ css) (inr rest) inside = in_behind c ds (joined_names css) (in_joined c cs css rest inside)

-- one that lives at a node
pub live_named : (s : Stage) (j : ℕ) (n : Node) (d : CallName) (r : CallRecord) → call_at (looks_of s j n) d ≡ Some r
    → is_live r.life ≡ true → In d (live_names s j n)
live_named s j n d r there living =
    (let f = found_in (λ (k : CallRecord). same_name k.name d) (looks_of s j n).calls r there in
    let own : r.name ≡ d = name_is r.name d f.1 in
    subst (λ (e : CallName). In e (live_names s j n)) own
    (in_map (λ (k : CallRecord). k.name) r (filter (λ (k : CallRecord). is_live k.life) (looks_of s j n).calls)
    (in_filter (λ (k : CallRecord). is_live k.life) r (looks_of s j n).calls f.0 living)))

pub live_among : (s : Stage) (j : ℕ) (n : Node) (d : CallName) → slice_get s.nodes j ≡ Some n
    → In d (live_names s j n) → In d (all_live s)
live_among s zero n d there inside =
    in_joined d (new_names s 0 n) (over_nodes (new_names s) 0 s.nodes)
    (over_in (new_names s) 0 s.nodes 0 n there) inside
live_among s (suc i) n d there inside = by (is_served s d) refl
  where
    at : (f : ℕ → Node → List CallName) → In (f (suc i) n) (over_nodes f 0 s.nodes)
    at f =
        (let same : 0 + suc i ≡ suc i = omega arith in
        subst (λ (k : ℕ). In (f k n) (over_nodes f 0 s.nodes)) same (over_in f 0 s.nodes (suc i) n there))

    some_live : (first : Node) → slice_get s.nodes 0 ≡ Some first → call_lives_at s d 0 first ≡ true → In d (all_live s)
    some_live first is living = of (call_at (looks_of s 0 first) d) refl living
      where
        of : (o : Option CallRecord) → call_at (looks_of s 0 first) d ≡ o → is_call (λ r. is_live r.life) o ≡ true
            → In d (all_live s)
        of None found living = absurd cc
        of (Some r) found living =
            in_joined d (new_names s 0 first) (over_nodes (new_names s) 0 s.nodes)
            (over_in (new_names s) 0 s.nodes 0 first is) (live_named s 0 first d r found living)

    by : (b : Bool) → is_served s d ≡ b → In d (all_live s)
    by true served = of (slice_get s.nodes 0) refl served
      where
        of : (o : Option Node) → slice_get s.nodes 0 ≡ o
            → unwrap_or (option_map (call_lives_at s d 0) o) false ≡ true → In d (all_live s)
        of None is living = absurd cc
        of (Some first) is living = some_live first is living
    by false new =
        in_joined d (new_names s (suc i) n) (over_nodes (new_names s) 0 s.nodes) (at (new_names s))
        (in_filter (λ (c : CallName). not (is_served s c)) d (live_names s (suc i) n) inside (ap not new))

-- ---- the rounds behind a plan

allowed_carried : (nodes : List Node) → Carries nodes AnyAt (AreAllowed nodes)
allowed_carried nodes =
    record {
      stays = λ h e d there. tt;
      polls = λ h node n got next a. (at h node n _ next, a);
      gives = λ h node n to bytes next a. tt;
      takes = λ h node n d e next is to there a. (at h node n e next, a);
      clocks = λ h node n now e next is a. (at h node n e next, a);
      serves = λ h n asked e next is a. (at h 0 n e next, a);
      calls = λ h node n asked e next is a. (at h node n e next, a);
    }
  where
    at : (h : List Noted) (node : ℕ) (n : Node) (e : Event) → IsNext nodes h node n e → IsAllowedAt nodes h node e
    at h node n e next =
        subst (λ (o : Option Node). IsSomeAnd o (λ m. Allowed m.setup (looks m.setup (side node h)) e))
        (sym next.there) next.allowed

module _ (g : Handlers) (ls : List Numbered) (n : ℕ) (s t : Stage) (b : RoundsBehind g ls n s t) where
  abbrev nodes : List Node
  nodes = plan_nodes ls

  same_nodes : s.nodes ≡ nodes
  same_nodes = (nodes_are g ls b.es s b.well b.driven b.distinct b.goes).0

  history_is : s.history ≡ reverse b.es
  history_is = plans_end g ls b.es s (lines_in_range g ls b.well) b.goes

  -- the world at their beginning
  pub behind_world : World s.nodes s.history
  behind_world =
      subst (λ (ns : List Node). World ns s.history) (sym same_nodes)
      (subst (World nodes) (sym history_is) (world g ls b.es s b.well b.driven b.distinct b.goes))

  -- each node's side is legal at their end
  pub behind_sides : Sides s.nodes t.history
  behind_sides =
      sides_of s.nodes t.history behind_world.sides.nodes_are
      (rounds_lead s.nodes AnyAt (AreAllowed s.nodes) (allowed_carried s.nodes) g n s
      (record { nodes_are = refl; so = allowed_all s.nodes s.history behind_world.sides }) b.fs t b.rounds_are).so

  pub behind_adds : Adds s.history t.history
  behind_adds =
      (rounds_lead s.nodes AnyAt (Adds s.history) (adds_carried s.nodes s.history) g n s
      (record { nodes_are = refl; so = adds_none s.history }) b.fs t b.rounds_are).so

  pub behind_nodes : t.nodes ≡ s.nodes
  behind_nodes =
      (rounds_lead s.nodes AnyAt (Adds s.history) (adds_carried s.nodes s.history) g n s
      (record { nodes_are = refl; so = adds_none s.history }) b.fs t b.rounds_are).nodes_are

  -- what is followed of a driven plan, at their beginning
  pub behind_follows : IsFollowed g ls (seen s)
  behind_follows = plan_follows g ls b.es s b.well b.driven b.goes

  -- each connection was made for the server's service
  pub behind_served : AreServed s.nodes s.history
  behind_served = behind_follows.links

  -- what is promised at their end, of the nodes of the stage
  pub behind_kept : ServerForgotNone s.nodes t.history ⊎ Timely s.nodes t.history
  behind_kept =
      subst (λ (ns : List Node). ServerForgotNone ns t.history ⊎ Timely ns t.history) (sym same_nodes) b.kept

  -- and at their beginning
  pub begins_kept : ServerForgotNone s.nodes s.history ⊎ Timely s.nodes s.history
  begins_kept =
      let a = behind_adds in
      kept_before s.nodes a.more s.history (subst (Sides s.nodes) a.is behind_sides)
      (subst (λ (h : List Noted). ServerForgotNone s.nodes h ⊎ Timely s.nodes h) a.is behind_kept)

  pub behind_plain : (j : ℕ) → IfSome (slice_get s.nodes j) IsPlain
  behind_plain j =
      subst (λ (ns : List Node). IfSome (slice_get ns j) IsPlain) (sym same_nodes)
      (of (slice_get nodes j) (plan_unprompted ls j) (b.open_ j))
    where
      of : (o : Option Node) → IfSome o (λ n. n.setup.prompt ≡ false) → IfSome o (λ n. n.setup.class ≡ null)
          → IfSome o IsPlain
      of None unprompted open_ = tt
      of (Some m) unprompted open_ = record { unprompted = unprompted; open_ = open_ }
