use Rattle.std.proofs.Common.{◌≡◌, ◌+◌, drop, ap, subst}
use Rattle.std.proofs.lemmas.List.{drop_all}
use Rattle.xdr_value.specs.View.{kind_of, types_of, value_of, values_of}
use Rattle.xdr_value.specs.Fits.{AllFit}
use Rattle.xdr_value.proofs.Lists.{in_left}
use Rattle.xdr_json.specs.Bytes.{AllAreBytes}
use Rattle.xdr_json.specs.Json.{elements_json}
use Rattle.serde_json.specs.View.{items_view}
use Rattle.xdr_json.proofs.Lists.{joined, elements_go_on, elements_end}
use Rattle.xdr_json.proofs.printing.+json.Goals as goal

pub elements_json-loop-item-preserved : goal.elements_json-loop-item-preserved
elements_json-loop-item-preserved t c =
    let left = in_left c.deref-item-items.result.now c.loop-item.item-index c.item-item.result c.loop-item-test.true
    c.item-item.is in
    let types = types_of c.args.iface.now.types.items in
    let of = kind_of c.args.of.now in
    let total = elements_json types of (values_of c.args.items.now.items) in
    record {
      fits = (subst (λ vs. AllFit types of (values_of vs)) left c.loop-item.invariant.fits).1;
      held = λ h. (subst (λ vs. AllAreBytes (values_of vs) → AllAreBytes (values_of c.args.items.now.items)) left
          c.loop-item.invariant.held) (c.in_ok-element.ensures.held, h);
      told =
          elements_go_on types of c.loop-item.elements.items c.in_ok-element.element (value_of c.item-item.result)
          (values_of (drop (c.loop-item.item-index + 1) c.deref-item-items.result.now)) c.push.new.self.items total
          c.in_ok-push.ensures.items c.in_ok-element.ensures.json
          (subst (λ vs. joined (items_view c.loop-item.elements.items) (elements_json types of (values_of vs)) ≡ total)
          left c.loop-item.invariant.told);
    }

pub elements_json-returns-clause-json : goal.elements_json-returns-clause-json
elements_json-returns-clause-json t c =
    elements_end (types_of c.args.iface.now.types.items) (kind_of c.args.of.now) c.loop-item.elements.items _ _
    (ap values_of (drop_all c.loop-item.item-index c.deref-item-items.result.now c.loop-item-test.false))
    c.loop-item.invariant.told
