use Rattle.std.proofs.Common.{sym, ◌∙◌}
use Rattle.serde_json.proofs.Views.{items_len-items_view}
use Rattle.xdr_json.proofs.objects.array_len.Goals as goal

pub returns : goal.returns
returns c = c.len.ensures ∙ c.args.items.now.ok.0 ∙ sym (items_len-items_view c.args.items.now.items)
