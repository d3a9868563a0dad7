use Rattle.std.proofs.Common.{◌↔◌, ℕ, Option, sym, subst}
use Rattle.std.specs.Prelude.{IsTrue}
use Rattle.xg_check.specs.Judged.{HoldsNoEndless}
use Rattle.xg_check.proofs.WayLaws.{word_inside}
use Rattle.xg_check.proofs.JudgeLaws.{free_is}
use Rattle.xg_check.proofs.sizes.Judge.ends.Goals as goal

pub returns-in-Some : goal.returns-in-Some
returns-in-Some c =
    let ts = c.args.types.now in
    let p = c.in-Some.place in
    let e = c.in-Some.ensures in
    let f = free_is ts c.args.self.now.without_end.items p c.requires (word_inside ts c.args.word.now p (sym e)) in
    subst (λ (o : Option ℕ). IsTrue c.is_free.result ↔ HoldsNoEndless ts o) e
    (λ t. f.0 (c.is_free.ensures.0 t), λ h. c.is_free.ensures.1 (f.1 h))
