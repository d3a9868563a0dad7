use Rattle.std.proofs.Common.{◌<◌, length, Some, refl, ap, ◌∙◌, arith}
use Rattle.std.proofs.lemmas.Option.{slice_get_read}
use Rattle.xg_check.proofs.GraphLaws.{yes_leads, no_leads}
use Rattle.xg_check.proofs.SearchLaws.{is_true}
use Rattle.xg_check.proofs.reach.returns.Goals as goal

pub returns : goal.returns
returns c =
    let marks = c.in_ok-reached.reached.items in
    let r = c.in_ok-reached.ensures in
    let lt : c.args.node < length marks = omega (arith, r.size, c.requires) in
    let at = slice_get_read marks (length marks) c.args.node c.index.result.now refl lt c.index.ensures in (
      λ t. yes_leads c.args.graph.now c.next.result.now c.args.node marks c.next.ensures.next r (at ∙ ap Some t),
      λ l. is_true c.index.result.now
          (λ f. no_leads c.args.graph.now c.next.result.now c.args.node marks c.next.ensures.next r (at ∙ ap Some f) l),
    )
