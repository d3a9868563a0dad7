-- How far a call of a scene can be, by the work of the invoke that made it.
use Rattle.std.proofs.Common.{◌≡◌, ◌≢◌, ◌==◌, ◌≤◌, ◌+◌, ◌*◌, cond, ℕ, zero, suc, Bool, true, false, List, [], ◌∷◌}
use Rattle.std.proofs.Common.{Option, Some, refl, ◌∙◌, ap, sym, subst, arith, slice_get, option_map, unwrap_or, IfSome}
use Rattle.std.specs.List.{find}
use Rattle.std.specs.Option.{option_and_then}
use Rattle.rx_model.specs.declared.event.Noted.{Noted}
use Rattle.rx_model.specs.declared.names.CallName.{CallName}
use Rattle.rx_model.specs.Names.{same_name}
use Rattle.rx_model.proofs.NameLaws.{name_is, name_itself, number_itself, same_number}
use Rattle.rx_rules.specs.Setup.{Kind, Client}
use Rattle.rx_rules.proofs.FindLaws.{find_passes}
use Rattle.rx_history.specs.Sides.{Node}
use Rattle.rx_law.specs.Worlds.{AreApart, World}
use Rattle.rx_law.proofs.World.{if-some}
use Rattle.rx_asks.specs.History.{Tells}
use Rattle.rx_script.specs.declared.plan.Numbered.{Numbered}
use Rattle.rx_jobs.specs.Dispatching.{over}
use Rattle.rx_jobs.specs.Handlers.{Handlers, wait_of}
use Rattle.rx_rounds.specs.Bounds.{both_pieces}
use Rattle.rx_plan.specs.Answering.{Invoked, invoked_at, request_for}
use Rattle.rx_plan.specs.Stages.{InvokedState, Stage}
use Rattle.rx_plan.proofs.Givings.Answered.{Connected, connected}
use Rattle.rx_plan.proofs.Callers.{one_is}
use Rattle.rx_plan.proofs.Driven.{seen}
use Rattle.rx_plan.proofs.Followed.{IsCaller, IsFollowed, IsPlayed}
use Rattle.rx_between.specs.Acknowledged.{received_by, sent_by}
use Rattle.rx_closing.specs.Work.{work, work_of}
use Rattle.rx_closing.specs.Living.{looks_of}
use Rattle.rx_closing.proofs.Far.FarBounds.{far_bound, served_begins, whole_read}
use Rattle.rx_closing.proofs.Far.FarServed.{BeginsServed}
use Rattle.rx_closing.proofs.Frame.{OneOf, asked_in, far_of, served_in}

-- ---- the first that is found

record Found {X : Type 0} (p : X → Bool) (xs : List X) : Type 0 where
  it : X
  place : ℕ
  is : find p xs ≡ Some it
  at : slice_get xs place ≡ Some it

found_there : {X : Type 0} (p : X → Bool) (xs : List X) (n : ℕ) (x : X) → slice_get xs n ≡ Some x → p x ≡ true
    → Found p xs
found_there p [] n x at passes = absurd cc
found_there {X = X} p (y ∷ ys) n x at passes = of (p y) refl (λ m there. found_there p ys m x there passes)
  where
    rest : (n : ℕ) → slice_get (y ∷ ys) n ≡ Some x → p y ≡ false
        → ((m : ℕ) → slice_get ys m ≡ Some x → Found p ys) → Found p ys
    rest zero at fails again =
        absurd (let same : y ≡ x = one_is y x at in let is = ap p same in cc (is, fails, passes))
    rest (suc n) at fails again = again n at

    of : (b : Bool) → p y ≡ b → ((m : ℕ) → slice_get ys m ≡ Some x → Found p ys) → Found p (y ∷ ys)
    of true is again =
        record { it = y; place = 0; is = ap (λ (b : Bool). cond b (Some y) (find p ys)) is; at = refl }
    of false is again =
        (let f : Found p ys = rest n at is again in
        record {
          it = f.it;
          place = suc f.place;
          is = ap (λ (b : Bool). cond b (Some y) (find p ys)) is ∙ f.is;
          at = f.at;
        })

-- ---- one client for a name

-- no two nodes of a world are clients of one host and epoch
one_node : (nodes : List Node) (h : List Noted) (w : World nodes h) (j k : ℕ) (a b : Node) (c : CallName)
    → slice_get nodes j ≡ Some a → slice_get nodes k ≡ Some b → a.setup.kind ≡ Client c.host c.epoch
    → b.setup.kind ≡ Client c.host c.epoch → j ≡ k
one_node nodes h w j k a b c at_a at_b is_a is_b = of (j == k) refl
  where
    of : (same : Bool) → (j == k) ≡ same → j ≡ k
    of true is = same_number j k is
    of false is =
        (let differ : j ≢ k = λ same. (let other : (j == j) ≡ false =
        subst (λ (n : ℕ). (j == n) ≡ false) (sym same) is in absurd (cc (other, number_itself j))) in
        let both : AreApart a.setup.kind b.setup.kind =
        if-some (slice_get nodes k) b (λ o. AreApart a.setup.kind o.setup.kind) at_b
        (if-some (slice_get nodes j) a
        (λ n. IfSome (slice_get nodes k) (λ o. AreApart n.setup.kind o.setup.kind)) at_a (w.apart j k differ)) in
        let clients : AreApart (Client c.host c.epoch) (Client c.host c.epoch) =
        subst (λ (x : Kind). AreApart x (Client c.host c.epoch)) is_a
        (subst (AreApart a.setup.kind) is_b both) in
        absurd (clients (refl, refl)))

-- ---- the invoke of a call

-- a caller of the stage that drives the call at this client, whose request is the call's work
pub record IsCaused (g : Handlers) (ls : List Numbered) (c : CallName) (k : ℕ) (client : Node) (s : Stage) : Type 0
  where
    pub place : ℕ
    pub invoked : InvokedState
    pub at : slice_get s.callers place ≡ Some invoked
    pub caller : IsCaller g ls s.nodes s.history invoked
    pub call : invoked.caller.call ≡ c
    pub node : invoked.node ≡ suc k
    pub tells : Tells (request_for g caller.origin.invoke) invoked.caller (looks_of s (suc k) client)
    pub work_is : work_of g ls s c ≡ work g (request_for g caller.origin.invoke)

module _ (g : Handlers) (ls : List Numbered) (c : CallName) (k : ℕ) (client server : Node) (s : Stage)
    (scene : OneOf c k client server s) (follows : IsFollowed g ls (seen s)) where
  played : IsPlayed g ls (seen s)
  played = follows.played scene.world.sides.nodes_are

  -- any caller of the call is the one whose work counts, or has the same name
  pub caused : (n : ℕ) (i : InvokedState) → slice_get s.callers n ≡ Some i → i.caller.call ≡ c
      → IsCaused g ls c k client s
  caused n i at own = of (found_there named s.callers n i at (named_so i own))
    where
      named : InvokedState → Bool
      named j = same_name j.caller.call c

      named_so : (j : InvokedState) → j.caller.call ≡ c → named j ≡ true
      named_so j own = subst (λ (d : CallName). same_name d c ≡ true) (sym own) (name_itself c)

      of : Found named s.callers → IsCaused g ls c k client s
      of f =
          (let j : InvokedState = f.it in
          let call : j.caller.call ≡ c = name_is j.caller.call c (find_passes named s.callers j f.is) in
          let caller : IsCaller g ls s.nodes s.history j = played.callers.each_is f.place j f.at in
          let n : Connected g ls s.nodes s.history scene.world scene.kept (over s.jobs) played.serves j caller =
          connected g ls s.nodes s.history scene.world scene.kept (over s.jobs) played.serves j caller in
          let kind : caller.node.client.setup.kind ≡ Client c.host c.epoch =
          subst (λ (d : CallName). caller.node.client.setup.kind ≡ Client d.host d.epoch) call n.fed.client_kind in
          let node : j.node ≡ suc k =
          one_node s.nodes s.history scene.world j.node (suc k) caller.node.client client c caller.node.there
          scene.client_there kind scene.client_is in
          let same : caller.node.client ≡ client =
          one_is caller.node.client client
          (sym caller.node.there ∙ ap (slice_get s.nodes) node ∙ scene.client_there) in
          record {
            place = f.place;
            invoked = j;
            at = f.at;
            caller = caller;
            call = call;
            node = node;
            tells =
                subst (λ (m : Node). Tells (request_for g caller.origin.invoke) j.caller (looks_of s (suc k) m)) same
                (subst (λ (q : ℕ). Tells (request_for g caller.origin.invoke) j.caller
                (looks_of s q caller.node.client))
                node n.tells);
            work_is =
                ap (λ (o : Option InvokedState). unwrap_or (option_map (λ (v : Invoked). work g (request_for g v))
                (option_and_then (λ (m : InvokedState). invoked_at g ls m.line) o)) 0) f.is
                ∙ ap (λ (o : Option Invoked). unwrap_or (option_map (λ (v : Invoked). work g (request_for g v)) o) 0)
                caller.origin.at;
          })

  module _ (i : IsCaused g ls c k client s) where
    abbrev request : List ℕ
    request = request_for g i.caller.origin.invoke

    -- at both ends together a call is so far at most
    pub far_most : far_of (asked_in c k client s) + far_of (served_in c server s) ≤ 5 * both_pieces g request + 21
    far_most =
        far_bound s.nodes s.history scene.world scene.kept (suc k) client server c scene.client_there scene.client_is
        scene.server_there g (over s.jobs) played.serves i.invoked.caller request i.call i.tells

    -- and with the turns that its handler waits, five times its work is more
    pub far_work : far_of (asked_in c k client s) + far_of (served_in c server s) + 5 * wait_of g request + 19
        ≤ 5 * work_of g ls s c
    far_work =
        by (far_of (asked_in c k client s)) (far_of (served_in c server s)) (both_pieces g request) (wait_of g request)
        (work_of g ls s c) far_most i.work_is
      where
        by : (m n b t w : ℕ) → m + n ≤ 5 * b + 21 → w ≡ b + t + 8 → m + n + 5 * t + 19 ≤ 5 * w
        by m n b t w low is = omega arith

    -- what the server said begins what is served for the request
    pub scene_begins : BeginsServed g request (sent_by (served_in c server s)).said
    scene_begins =
        served_begins s.nodes s.history scene.world scene.kept (suc k) client server c scene.client_there
        scene.client_is scene.server_there g (over s.jobs) played.serves i.invoked.caller request i.call i.tells

    -- what the server read of it to the end is the request
    pub scene_read : (received_by (served_in c server s)).ended ≡ true
        → (received_by (served_in c server s)).read ≡ request
    scene_read =
        whole_read s.nodes s.history scene.world scene.kept (suc k) client server c scene.client_there scene.client_is
        scene.server_there g (over s.jobs) played.serves i.invoked.caller request i.call i.tells
