use Rattle.std.proofs.Common.{sym, ◌∙◌}
use Rattle.rx_table.proofs.KeptLaws.{place_fits, search_is}
use Rattle.rx_table.proofs.table.Table.search.Goals as goal

pub returns-in_err-place : goal.returns-in_err-place
returns-in_err-place c =
    c.from_residual.ensures
    ∙ search_is _ _ _ _ _ _ _ c.self.view_is c.deref.ensures.value (sym c.place_among.ensures ∙ c.in_err-place.was)

pub overflow_cast-result : goal.overflow_cast-result
overflow_cast-result c =
    let kept = c.self.invariant.0 in
    record {
      fits = place_fits _ _ _ _ _ kept.fits kept.narrow c.deref.ensures.value
          (sym c.place_among.ensures ∙ c.in_ok-place.was);
    }

pub returns : goal.returns
returns c =
    search_is _ _ _ _ _ _ _ c.self.view_is c.deref.ensures.value (sym c.place_among.ensures ∙ c.in_ok-place.was)
