use Rattle.std.proofs.Common.{sym, ap, ◌∙◌}
use Rattle.xdr_value.specs.Data.{some}
use Rattle.xdr_value.specs.View.{value_of}
use Rattle.xdr_value.specs.declared.value.Value.TheViews as views
use Rattle.xdr_value.proofs.Views.{value-some}
use Rattle.xdr_value.proofs.value.+copy.Goals as goal

pub copy-returns-in_ok-inner-in-Some : goal.copy-returns-in_ok-inner-in-Some
copy-returns-in_ok-inner-in-Some t c =
    value-some c.in_ok-inner-in-Some.inner ∙ ap some
    (ap value_of c.in_ok-inner-in-Some.ensures.ok ∙ c.in_ok-copy-in-Some.ensures ∙ ap value_of
    c.deref-in-Some.ensures)
    ∙ sym (ap value_of (c.in-Maybe.is ∙ ap views.Maybe c.in-Some.is) ∙ value-some c.in-Some.inner)
