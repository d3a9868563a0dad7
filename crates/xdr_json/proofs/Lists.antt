-- Lists of JSON values, one after the other.
use Rattle.std.proofs.Common.{◌≡◌, List, [], ◌∷◌, ◌++◌, refl, sym, ap, ◌∙◌}
use Rattle.serde_json.specs.Data.{Data, Items, no_items, item}
use Rattle.serde_json.specs.View.{view, items_view}
use Rattle.serde_json.specs.declared.value.Value.{Value}
use Rattle.xdr_value.specs.Data.{Types, Kind, Datum, Data as Values, end, more}
use Rattle.xdr_json.specs.Json.{json_of, elements_json}

-- the items of both
abbrev pub joined : Items → Items → Items
joined no_items js = js
joined (item j js) ks = item j (joined js ks)

pub joined_none : (js : Items) → joined js no_items ≡ js
joined_none no_items = refl
joined_none (item j js) = ap (item j) (joined_none js)

pub joined_more : (js : Items) (j : Data) (ks : Items) → joined (joined js (item j no_items)) ks ≡ joined js (item j ks)
joined_more no_items j ks = refl
joined_more (item i js) j ks = ap (item i) (joined_more js j ks)

-- one item more
pub items_view-push : (vs : List Value) (v : Value)
    → items_view (vs ++ v ∷ []) ≡ joined (items_view vs) (item (view v) no_items)
items_view-push [] v = refl
items_view-push (w ∷ vs) v = ap (item (view w)) (items_view-push vs v)

-- one element more is printed
pub elements_go_on : (t : Types) (k : Kind) (es : List Value) (j : Value) (v : Datum) (vs : Values)
    (pushed : List Value) (total : Items)
    → pushed ≡ es ++ j ∷ [] → view j ≡ json_of t k v → joined (items_view es) (elements_json t k (more v vs)) ≡ total
    → joined (items_view pushed) (elements_json t k vs) ≡ total
elements_go_on t k es j v vs pushed total push is told =
    rw (push, items_view-push es j, joined_more (items_view es) (view j) (elements_json t k vs), is) told

-- all elements are printed
pub elements_end : (t : Types) (k : Kind) (es : List Value) (vs : Values) (total : Items) → vs ≡ end
    → joined (items_view es) (elements_json t k vs) ≡ total → items_view es ≡ total
elements_end t k es vs total none told =
    let whole : joined (items_view es) (elements_json t k vs) ≡ items_view es = rw none (joined_none (items_view es)) in
    sym whole ∙ told
