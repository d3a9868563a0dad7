-- Turns joined. For this crate and its callers.
use Rattle.std.proofs.Common.{◌≡◌, ℕ, List, [], ◌∷◌, ◌++◌, map, Option, Some, None, refl, sym, ap, ◌∙◌}
use Rattle.std.proofs.Common.{subst, append_assoc}
use Rattle.std.proofs.lemmas.List.{append-nil, map-append}
use Rattle.rx_model.specs.declared.event.Event.{Event}
use Rattle.rx_model.specs.declared.event.Noted.{Noted}
use Rattle.rx_wire.specs.Journal.{HasNoted}
use Rattle.rx_wire.specs.Turns.{after_all, noted, HasNotedAll}

-- a history behind two lists of events is that behind the second, where the first is behind it already
pub after_all-append : (xs ys h : List Event) → after_all (xs ++ ys) h ≡ after_all ys (after_all xs h)
after_all-append [] ys h = refl
after_all-append (x ∷ xs) ys h = after_all-append xs ys (x ∷ h)

-- ---- journals

-- nothing was noted
pub HasNotedAll-none : (old : Option (List Noted)) (node : ℕ) → HasNotedAll old old node []
HasNotedAll-none None node = refl
HasNotedAll-none (Some old) node = sym (ap Some (append-nil old))

-- one event was noted
pub HasNotedAll-one : (old new : Option (List Noted)) (node : ℕ) (e : Event)
    → HasNoted old new (noted node e) → HasNotedAll old new node (e ∷ [])
HasNotedAll-one None new node e is = is
HasNotedAll-one (Some old) new node e is = is

-- some were noted, and then others
pub HasNotedAll-append : (old mid new : Option (List Noted)) (node : ℕ) (xs ys : List Event)
    → HasNotedAll old mid node xs → HasNotedAll mid new node ys → HasNotedAll old new node (xs ++ ys)
HasNotedAll-append None mid new node xs ys first second =
    subst (λ (m : Option (List Noted)). HasNotedAll m new node ys) first second
HasNotedAll-append (Some old) mid new node xs ys first second =
    let second' : HasNotedAll (Some (old ++ map (noted node) xs)) new node ys =
    subst (λ (m : Option (List Noted)). HasNotedAll m new node ys) first second in
    second' ∙ ap Some (append_assoc old (map (noted node) xs) (map (noted node) ys)
    ∙ ap (λ (zs : List Noted). old ++ zs) (sym (map-append (noted node) xs ys)))
