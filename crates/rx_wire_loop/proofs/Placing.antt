-- Places behind events and entries.
use Rattle.std.proofs.Common.{◌≡◌, ◌∙◌, ℕ, List, [], ◌∷◌, ◌++◌, refl, ap}
use Rattle.rx_model.specs.declared.event.Event.{Event}
use Rattle.rx_wire.specs.Wire.{Logged}
use Rattle.rx_wire.specs.Turns.{after_all}
use Rattle.rx_wire.proofs.TurnLaws.{after_all-append}
use Rattle.rx_drive.specs.Tells.{moment_after, moment_by}
use Rattle.rx_wire_loop.specs.Parts.{Place, behind}

-- the moment behind two lists is that behind the second, where the first is behind it already
pub moment_both : (ls ms : List Logged) (now : ℕ) → moment_after (ls ++ ms) now ≡ moment_after ms (moment_after ls now)
moment_both [] ms now = refl
moment_both (l ∷ ls) ms now = moment_both ls ms (moment_by l now)

-- so is the place
pub behind_both : (es fs : List Event) (ls ms : List Logged) (p : Place)
    → behind (es ++ fs) (ls ++ ms) p ≡ behind fs ms (behind es ls p)
behind_both es fs ls ms p =
    ap (λ (h : List Event). record { history = h; now = moment_after (ls ++ ms) p.now })
    (after_all-append es fs p.history)
    ∙ ap (λ (n : ℕ). record { history = after_all fs (after_all es p.history); now = n }) (moment_both ls ms p.now)
