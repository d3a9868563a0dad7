-- The invoke that made the one call of a scene stays what it was through rounds, and so does the call's work.
use Rattle.std.proofs.Common.{◌≡◌, ◌==◌, ◌++◌, ℕ, zero, suc, Bool, true, false, List, [], ◌∷◌, Some, refl, ap, sym, ◌∙◌}
use Rattle.std.proofs.Common.{set, slice_get}
use Rattle.rx_model.specs.declared.names.CallName.{CallName}
use Rattle.rx_model.specs.Names.{same_name}
use Rattle.rx_model.proofs.NameLaws.{name_itself, number_itself, same_number}
use Rattle.rx_history.specs.Sides.{Node}
use Rattle.rx_asks.specs.Asks.{begun as caller_begun, heard}
use Rattle.rx_asks.specs.View.{CallerState}
use Rattle.rx_script.specs.declared.plan.Numbered.{Numbered}
use Rattle.rx_jobs.specs.Handlers.{Handlers}
use Rattle.rx_plan.specs.Answering.{Invoked, invoked_at, request_for}
use Rattle.rx_plan.specs.Stages.{InvokedState, Stage}
use Rattle.rx_plan.proofs.Callers.{heard_call, one_is, set_other}
use Rattle.rx_plan.proofs.HasCaller.{get_front}
use Rattle.rx_plan.proofs.Driven.{Carries, Seen, invoked, seen, set_own, with_view}
use Rattle.rx_plan.proofs.Followed.{Asks, IsFollowed, IsPlayed}
use Rattle.rx_rounds.proofs.Rounded.{RoundMade}
use Rattle.rx_closing.proofs.Far.FarWork.{IsCaused, caused}
use Rattle.rx_closing.proofs.Frame.{OneOf}
use Rattle.rx_closing.proofs.Rounds.RoundCarries.{RoundCarried, round_carries}

-- ---- the caller at a place

-- it is of this line, of this node, and of this call
pub record IsAt (c : CallName) (node place line : ℕ) (ks : List InvokedState) : Type 0 where
  pub it : InvokedState
  pub there : slice_get ks place ≡ Some it
  pub line_is : it.line ≡ line
  pub of_node : it.node ≡ node
  pub call : it.caller.call ≡ c

at_more : (c : CallName) (node place line : ℕ) (ks : List InvokedState) (k : InvokedState) → IsAt c node place line ks
    → IsAt c node place line (ks ++ k ∷ [])
at_more c node place line ks k at =
    record {
      it = at.it;
      there = get_front ks (k ∷ []) place at.it at.there;
      line_is = at.line_is;
      of_node = at.of_node;
      call = at.call;
    }

at_set : (c : CallName) (node place line : ℕ) (ks : List InvokedState) (p : ℕ) (k : InvokedState) (v : CallerState)
    → slice_get ks p ≡ Some k → v.call ≡ k.caller.call → IsAt c node place line ks
    → IsAt c node place line (set ks p (with_view k v))
at_set c node place line ks p k v own same at = by (p == place) refl
  where
    by : (b : Bool) → (p == place) ≡ b → IsAt c node place line (set ks p (with_view k v))
    by true is =
        (let equal : p ≡ place = same_number p place is in
        let one : k ≡ at.it = one_is k at.it (sym own ∙ ap (slice_get ks) equal ∙ at.there) in
        record {
          it = with_view k v;
          there = ap (slice_get (set ks p (with_view k v))) (sym equal) ∙ set_own ks p k (with_view k v) own;
          line_is = ap (λ (i : InvokedState). i.line) one ∙ at.line_is;
          of_node = ap (λ (i : InvokedState). i.node) one ∙ at.of_node;
          call = same ∙ ap (λ (i : InvokedState). i.caller.call) one ∙ at.call;
        })
    by false is =
        record {
          it = at.it;
          there =
              set_other ks p place (with_view k v)
              (λ equal. absurd (let yes : (p == place) ≡ true = number_same p place equal in cc (yes, is)))
              ∙ at.there;
          line_is = at.line_is;
          of_node = at.of_node;
          call = at.call;
        }
      where
        number_same : (m n : ℕ) → m ≡ n → (m == n) ≡ true
        number_same m n equal = ap (λ (x : ℕ). m == x) (sym equal) ∙ number_itself m

-- ---- it stays

module _ (g : Handlers) (ls : List Numbered) (c : CallName) (node place line : ℕ) where
  abbrev pub Stays : Seen → Type 0
  Stays x = IsAt c node place line x.callers

  pub stays_carried : Carries g (Asks g ls) Stays
  stays_carried =
      record {
        quiet = λ x n e quiet links allowed q. q;
        invokes = λ x call n l cid d bytes asks fits allowed q.
            at_more c node place line x.callers (invoked call n l d bytes) q;
        accepts_first = λ x jobs is q. q;
        serves = λ x a e asked is allowed q. q;
        offers_first = λ x p k own q. at_set c node place line x.callers p k (caller_begun k.caller) own refl q;
        calls = λ x p k a e own asked is allowed q.
            at_set c node place line x.callers p k (heard k.caller e) own (heard_call k.caller e) q;
      }

  pub at_round : (s t : Stage) → (r : RoundMade g s t) → IsAt c node place line s.callers
      → RoundCarried g (Asks g ls) Stays stays_carried s t r
  at_round s t r at = round_carries g (Asks g ls) Stays stays_carried s t r at

-- ---- the invoke of the one call

-- the call has a caller here, whose request is this one
pub record CausedBy (g : Handlers) (ls : List Numbered) (c : CallName) (k : ℕ) (client : Node) (request : List ℕ)
    (s : Stage) : Type 0 where
  pub cause : IsCaused g ls c k client s
  pub asks : request_for g cause.caller.origin.invoke ≡ request

module _ (g : Handlers) (ls : List Numbered) (c : CallName) (k : ℕ) (client server : Node) where
  -- where its caller is
  pub at_cause : (s : Stage) → (i : IsCaused g ls c k client s) → IsAt c (suc k) i.place i.invoked.line s.callers
  at_cause s i = record { it = i.invoked; there = i.at; line_is = refl; of_node = i.node; call = i.call }

  -- at another stage the caller at that place is the cause there, and asks the same
  pub cause_at : (s t : Stage) → (i : IsCaused g ls c k client s) → OneOf c k client server t
      → IsFollowed g ls (seen t) → IsAt c (suc k) i.place i.invoked.line t.callers
      → CausedBy g ls c k client (request_for g i.caller.origin.invoke) t
  cause_at s t i scene follows at =
      (let j = caused g ls c k client server t scene follows i.place at.it at.there at.call in
      let played : IsPlayed g ls (seen t) = follows.played scene.world.sides.nodes_are in
      let same : j.invoked ≡ at.it = one j.place j.invoked j.at j.node j.call played in
      let line : j.invoked.line ≡ i.invoked.line = ap (λ (x : InvokedState). x.line) same ∙ at.line_is in
      let invoke : j.caller.origin.invoke ≡ i.caller.origin.invoke =
      invoke_is j.caller.origin.invoke i.caller.origin.invoke
      (sym j.caller.origin.at ∙ ap (invoked_at g ls) line ∙ i.caller.origin.at) in
      record { cause = j; asks = ap (request_for g) invoke })
    where
      invoke_is : (a b : Invoked) → Some a ≡ Some b → a ≡ b
      invoke_is a b is = one_is a b is

      one : (p : ℕ) (x : InvokedState) → slice_get t.callers p ≡ Some x → x.node ≡ suc k → x.caller.call ≡ c
          → IsPlayed g ls (seen t) → x ≡ at.it
      one p x there of_node call played = by (p == i.place) refl
        where
          by : (b : Bool) → (p == i.place) ≡ b → x ≡ at.it
          by true is =
              one_is x at.it (sym there ∙ ap (slice_get t.callers) (same_number p i.place is) ∙ at.there)
          by false is =
              absurd (let differ : same_name x.caller.call at.it.caller.call ≡ false =
              played.callers.apart p i.place x at.it
              (λ equal. absurd (let yes : (p == i.place) ≡ true =
              ap (λ (m : ℕ). p == m) (sym equal) ∙ number_itself p in cc (yes, is)))
              there at.there (of_node ∙ sym at.of_node) in
              let named : same_name c c ≡ false =
              ap (λ (d : CallName). same_name d c) (sym call)
              ∙ ap (λ (d : CallName). same_name x.caller.call d) (sym at.call) ∙ differ in
              cc (named, name_itself c))
