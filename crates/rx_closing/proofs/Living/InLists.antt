-- What is in a list, and in what was made of it; and a call that is found by its name.
use Rattle.std.proofs.Common.{◌≡◌, ◌⊎◌, Bool, true, false, cond, List, [], ◌∷◌, ◌++◌, Some, filter, map, refl, inl, inr}
use Rattle.std.proofs.Common.{ap, sym, subst, ◌∙◌}
use Rattle.std.specs.List.{find}
use Rattle.rx_model.specs.declared.names.CallName.{CallName}
use Rattle.rx_model.specs.Names.{same_name}
use Rattle.rx_model.proofs.NameLaws.{name_itself, name_sym}
use Rattle.rx_rules.specs.Looks.{CallRecord}
use Rattle.rx_rules.proofs.EveryLaws.{Every}
use Rattle.rx_history.proofs.Differ.{Differ, by_name}
use Rattle.rx_between.proofs.Each.EachItem.{In}
use Rattle.rx_closing.specs.Living.{joined_names}
use Rattle.rx_between.proofs.Within.{in_either}

-- what holds of each holds of one
pub every_in : {X : Type 0} (P : X → Type 0) (xs : List X) (x : X) → Every P xs → In x xs → P x
every_in P [] x all there = absurd there
every_in {X = X} P (y ∷ xs) x all (inl same) = subst P (sym same) all.0
every_in P (y ∷ xs) x all (inr rest) = every_in P xs x all.1 rest

-- and of each where it holds of whichever is in it
pub in_every : {X : Type 0} (P : X → Type 0) (xs : List X) → ((x : X) → In x xs → P x) → Every P xs
in_every P [] all = tt
in_every P (y ∷ xs) all = (all y (inl refl), in_every P xs (λ x there. all x (inr there)))

-- what holds of each gives what follows of each
pub every_on : {X : Type 0} (P Q : X → Type 0) (xs : List X) → ((x : X) → In x xs → P x → Q x) → Every P xs → Every Q xs
every_on P Q xs gives all = in_every Q xs (λ x there. gives x there (every_in P xs x all there))

-- one of those that pass
pub in_filter_back : {X : Type 0} (p : X → Bool) (x : X) (xs : List X) → In x (filter p xs)
    → In x xs × (p x ≡ true)
in_filter_back p x [] there = absurd there
in_filter_back {X = X} p x (y ∷ xs) there = by (p y) refl there (λ rest. in_filter_back p x xs rest)
  where
    by : (b : Bool) → p y ≡ b → In x (cond b (y ∷ filter p xs) (filter p xs))
        → (In x (filter p xs) → In x xs × (p x ≡ true)) → In x (y ∷ xs) × (p x ≡ true)
    by true passes (inl same) again = (inl same, subst (λ (z : X). p z ≡ true) (sym same) passes)
    by true passes (inr rest) again = (let r = again rest in (inr r.0, r.1))
    by false fails rest again = (let r = again rest in (inr r.0, r.1))

-- one of what was made of each
pub record MadeOf {X Y : Type 0} (f : X → Y) (xs : List X) (y : Y) : Type 0 where
  pub it : X
  pub inside : In it xs
  pub is : y ≡ f it

pub in_map_back : {X Y : Type 0} (f : X → Y) (y : Y) (xs : List X) → In y (map f xs) → MadeOf f xs y
in_map_back f y [] there = absurd there
in_map_back f y (x ∷ xs) (inl same) = record { it = x; inside = inl refl; is = same }
in_map_back f y (x ∷ xs) (inr rest) =
    (let r = in_map_back f y xs rest in record { it = r.it; inside = inr r.inside; is = r.is })

-- one of lists of names joined
pub record InOneOf (c : CallName) (css : List (List CallName)) : Type 0 where
  pub names : List CallName
  pub among : In names css
  pub inside : In c names

pub in_joined_back : (c : CallName) (css : List (List CallName)) → In c (joined_names css) → InOneOf c css
in_joined_back c [] there = absurd there
in_joined_back c (cs ∷ css) there = by (in_either c cs (joined_names css) there) (λ rest. in_joined_back c css rest)
  where
    by : In c cs ⊎ In c (joined_names css) → (In c (joined_names css) → InOneOf c css) → InOneOf c (cs ∷ css)
    by (inl first) again = record { names = cs; among = inl refl; inside = first }
    by (inr rest) again = (let r = again rest in record { names = r.names; among = inr r.among; inside = r.inside })

-- a call is found by its name among those whose names differ
pub found_named : (ks : List CallRecord) (k : CallRecord) → Differ by_name ks → In k ks
    → find (λ (j : CallRecord). same_name j.name k.name) ks ≡ Some k
found_named [] k differ there = absurd there
found_named (i ∷ ks) k differ (inl same) =
    subst (λ (z : CallRecord). find (λ (j : CallRecord). same_name j.name z.name) (i ∷ ks) ≡ Some z) (sym same)
    (ap (λ (b : Bool). cond b (Some i) (find (λ (j : CallRecord). same_name j.name i.name) ks)) (name_itself i.name))
found_named (i ∷ ks) k differ (inr rest) =
    ap (λ (b : Bool). cond b (Some i) (find (λ (j : CallRecord). same_name j.name k.name) ks)) apart
    ∙ found_named ks k differ.1 rest
  where
    apart : same_name i.name k.name ≡ false
    apart =
        name_sym i.name k.name
        ∙ every_in (λ (j : CallRecord). same_name j.name i.name ≡ false) ks k differ.0 rest
