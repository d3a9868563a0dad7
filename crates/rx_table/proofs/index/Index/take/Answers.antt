use Rattle.std.proofs.Common.{◌≡◌, true, sym, ◌∙◌, true≢false, Result, Ok, Err, is_ok}
use Rattle.std.specs.Result.{OnOk}
use Rattle.rx_table.proofs.index.Index.take.Goals as goal

-- what holds on `Ok` holds of an `Ok`
holds_on_ok : {T E P : Type 0} (r : Result T E) → is_ok r ≡ true → OnOk r P → P
holds_on_ok (Ok x) here p = p
holds_on_ok (Err e) here p = absurd (true≢false (sym here))

pub returns-clause-taken : goal.returns-clause-taken
returns-clause-taken c h k =
    rw (← c.self.view_is)
    ((holds_on_ok c.insert.result (sym c.is_ok.ensures.value ∙ h) c.insert.ensures.updates).0 k)
