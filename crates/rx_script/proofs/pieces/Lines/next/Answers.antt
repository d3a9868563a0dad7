use Rattle.std.proofs.Common.{◌≡◌, ◌<◌, ◌∷◌, [], ℕ, List, length, refl, ap, sym, ◌∙◌, arith, unwrap_or}
use Rattle.std.specs.Option.{option_copied}
use Rattle.std.specs.Borrow.{Bor}
use Rattle.rx_script.specs.Pieces.{lines_of}
use Rattle.rx_script.proofs.PieceLemmas.{lines_of_cut, now_unwrap_or}
use Rattle.rx_script.proofs.pieces.Lines.next.Goals as goal

pub returns-clause-next : goal.returns-clause-next
returns-clause-next c =
    let text = c.self.inside.rest.now in
    let filled : 0 < length text = grind (arith) in
    let left : c.unwrap_or-self-inside.result.now ≡ unwrap_or (option_copied c.cut.result.1) [] =
    ap (λ (r : Bor (List ℕ)). r.now) c.unwrap_or-self-inside.ensures ∙ now_unwrap_or c.cut.result.1 _ refl in
    let line = c.cut.result.0.now in
    let cut = lines_of_cut text line (option_copied c.cut.result.1) filled c.cut.ensures in
    sym c.self.view_is ∙ (cut ∙ ap (λ (bs : List ℕ). line ∷ lines_of bs) (sym left))
