-- Where an event stands among those of a history that was added to: before a cut or behind it.
use Rattle.std.proofs.Common.{◌≡◌, ◌⊎◌, ◌++◌, ◌+◌, List, [], ◌∷◌, length, ap, sym, ◌∙◌, inl, inr, arith}
use Rattle.rx_model.specs.declared.event.Noted.{Noted}
use Rattle.rx_closing.proofs.Rounds.Chains.{Adds}

tail_is : (x y : Noted) (xs ys : List Noted) → x ∷ xs ≡ y ∷ ys → xs ≡ ys
tail_is x y xs ys same = cc

-- the event is in the earlier history, or all of that was before it
pub two_cuts : (more early later before : List Noted) (e : Noted) → more ++ early ≡ later ++ (e ∷ before)
    → ((part : List Noted) × (early ≡ part ++ (e ∷ before))) ⊎ Adds early before
two_cuts [] early later before e same = inl (later, same)
two_cuts (x ∷ more) early [] before e same =
    inr (record { more = more; is = sym (tail_is x e (more ++ early) before same) })
two_cuts (x ∷ more) early (y ∷ later) before e same =
    two_cuts more early later before e (tail_is x y (more ++ early) (later ++ (e ∷ before)) same)

pub longer : (xs ys : List Noted) → length (xs ++ ys) ≡ length xs + length ys
longer [] ys = omega arith
longer (x ∷ xs) ys = (let same = longer xs ys in omega (arith, same))

-- a history isn't longer than itself
pub no_more : (h part before : List Noted) (e : Noted) → h ≡ part ++ (e ∷ before) → Adds h before → ⊥
no_more h part before e same a =
    (let first = ap length same ∙ longer part (e ∷ before) in
    let second = ap length a.is ∙ longer a.more h in
    omega (arith, first, second))
