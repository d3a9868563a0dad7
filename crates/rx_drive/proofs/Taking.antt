-- A node takes datagrams of a list, one after another.
use Rattle.std.proofs.Common.{◌≡◌, ◌∙◌, ◌+◌, ◌≤◌, ℕ, List, [], ◌∷◌, ◌++◌, Some, None, Result, Ok, Err, refl, sym}
use Rattle.std.proofs.Common.{ap, subst, take, drop, length}
use Rattle.std.proofs.lemmas.List.{take-append-drop, take_all, take_more}
use Rattle.std.proofs.lemmas.Option.{get_or_from_slice_get, slice_get_within}
use Rattle.std.specs.Prelude.{IsErr, IsErrAnd, slice_get}
use Rattle.rx_events.specs.Events.{IsTaken}
use Rattle.rx_model.specs.declared.event.Event.{Event}
use Rattle.rx_model.specs.declared.event.Noted.{Noted}
use Rattle.rx_model.specs.declared.names.Host.{Host}
use Rattle.rx_rules.specs.Setup.{Setup}
use Rattle.rx_run.specs.Parts.{Part}
use Rattle.rx_drive.specs.Events.{event, takes_all}
use Rattle.rx_drive.specs.Nodes.{node_stages}
use Rattle.rx_drive.specs.Ran.{Fault, Ran, stop_of}
use Rattle.rx_drive.specs.Tells.{Step, Told}
use Rattle.rx_drive.specs.declared.stop.Stop.{Stop}
use Rattle.rx_drive.proofs.Running.{ran_ends, ran_more, ran_to}

-- the first of a list and the one that is there are the first, one more
taken_more : (bs : List (List ℕ)) (k : ℕ) (b : List ℕ) → slice_get bs k ≡ Some b → take (k + 1) bs ≡ take k bs ++ b ∷ []
taken_more bs k b there =
    take_more bs k b (slice_get_within bs k b there)
    ∙ ap (λ (x : List ℕ). take k bs ++ x ∷ []) (get_or_from_slice_get bs k b b there)

append_one : {X : Type 0} (xs : List X) (y : X) (zs : List X) → (xs ++ y ∷ []) ++ zs ≡ xs ++ y ∷ zs
append_one [] y zs = refl
append_one {X} (x ∷ xs) y zs = ap (λ (us : List X). x ∷ us) (append_one xs y zs)

-- and with the others they are all
taken_rest : (bs : List (List ℕ)) (k : ℕ) (b : List ℕ) → slice_get bs k ≡ Some b
    → take k bs ++ b ∷ drop (k + 1) bs ≡ bs
taken_rest bs k b there =
    sym (append_one (take k bs) b (drop (k + 1) bs))
    ∙ ap (λ (xs : List (List ℕ)). xs ++ drop (k + 1) bs) (sym (taken_more bs k b there))
    ∙ take-append-drop (k + 1) bs

module _ (line : Noted → List ℕ) (s : Setup) (node : ℕ) (from : Host) (bs : List (List ℕ)) (h : List Event) where
  -- one datagram
  abbrev one_part : List ℕ → (List Event → Part Step Fault (List Event))
  one_part b = event (node_stages s) node (IsTaken from b)

  -- none of the list
  pub none_taken : (stands : List Event → Type 0) (a : Told) → stands h
      → Ran line (takes_all (node_stages s) node from (take 0 bs) h) stands None a a
  none_taken stands a there = ran_to line stands h a there

  -- one more of it, told by a node that is set up as before, with lines as before
  pub more_taken : (its : Noted → List ℕ) (t : Setup) (k : ℕ) (b : List ℕ) (stood stands : List Event → Type 0)
      (x y z : Told) → t ≡ s → its ≡ line → slice_get bs k ≡ Some b
      → Ran line (takes_all (node_stages s) node from (take k bs) h) stood None x y
      → ((u : List Event) → stood u → Ran its (event (node_stages t) node (IsTaken from b) u) stands None y z)
      → Ran line (takes_all (node_stages s) node from (take (k + 1) bs) h) stands None x z
  more_taken its t k b stood stands x y z setup lines there before one =
      subst (λ (xs : List (List ℕ)). Ran line (takes_all (node_stages s) node from xs h) stands None x z)
      (sym (taken_more bs k b there))
      (ran_more one_part line (take k bs) b h stood stands x y z before
      (λ u is. subst (λ (w : Setup). Ran line (event (node_stages w) node (IsTaken from b) u) stands None y z) setup
      (subst (λ (f : Noted → List ℕ). Ran f (event (node_stages t) node (IsTaken from b) u) stands None y z) lines
      (one u is))))

  -- the run ended in the next one of it
  pub ends_taken : (its : Noted → List ℕ) (t : Setup) (k : ℕ) (b : List ℕ) (stood stands : List Event → Type 0)
      (x y z : Told) (stop : Stop) (r : Result (Unit {0}) Stop) → t ≡ s → its ≡ line → slice_get bs k ≡ Some b
      → IsErr r × IsErrAnd r (λ why. why ≡ stop)
      → Ran line (takes_all (node_stages s) node from (take k bs) h) stood None x y
      → ((u : List Event) → stood u → Ran its (event (node_stages t) node (IsTaken from b) u) stands (Some stop) y z)
      → Ran line (takes_all (node_stages s) node from bs h) stands (stop_of r) x z
  ends_taken its t k b stood stands x y z stop (Ok v) setup lines there was before one = absurd was.1
  ends_taken its t k b stood stands x y z stop (Err why) setup lines there was before one =
      subst (λ (w : Stop). Ran line (takes_all (node_stages s) node from bs h) stands (Some w) x z) (sym was.1)
      (subst (λ (xs : List (List ℕ)). Ran line (takes_all (node_stages s) node from xs h) stands (Some stop) x z)
      (taken_rest bs k b there)
      (ran_ends one_part line (take k bs) b (drop (k + 1) bs) h stood stands stop x y z before
      (λ u is. subst (λ (w : Setup). Ran line (event (node_stages w) node (IsTaken from b) u) stands (Some stop) y z)
      setup
      (subst (λ (f : Noted → List ℕ). Ran f (event (node_stages t) node (IsTaken from b) u) stands
      (Some stop) y z) lines
      (one u is)))))

  -- all of it
  pub all_taken : (k : ℕ) (stands : List Event → Type 0) (x y : Told) → length bs ≤ k
      → Ran line (takes_all (node_stages s) node from (take k bs) h) stands None x y
      → Ran line (takes_all (node_stages s) node from bs h) stands None x y
  all_taken k stands x y all before =
      subst (λ (xs : List (List ℕ)). Ran line (takes_all (node_stages s) node from xs h) stands None x y)
      (take_all k bs all) before
