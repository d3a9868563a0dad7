use Rattle.std.proofs.Common.{◌∙◌, ◌∷◌, [], List, ap, rules, slice_get, sym}
use Rattle.std.specs.Prelude.{option_copied}
use Rattle.rx_jobs.specs.Handlers.{Handlers}
use Rattle.xdr_value.specs.View.{values_of}
use Rattle.xdr_value.specs.declared.def.Proc.{Proc}
use Rattle.xdr_value.specs.declared.value.Value.TheVariants as values
use Rattle.xdr_value.specs.declared.value.Value.{the_lemmas}
use Rattle.rx_loader.proofs.Handling.{first_is_take, request_is}
use Rattle.rx_loader.proofs.handlers.request.Goals as goal

pub returns-in-Ok : goal.returns-in-Ok
returns-in-Ok c =
    let first =
    ap (λ (ps : List Proc). slice_get ps 0) (sym c.deref.ensures.value) ∙ sym c.first.ensures.value
    ∙ ap option_copied c.in-Some.is in
    request_is _ _ (values_of (values.Octets c.in_ok-body.body ∷ [])) c.in-Ok.bytes c.args.number c.args.length
    (ap (λ (g : Handlers). g.types) c.requires.iface)
    (first_is_take _ _ (ap (λ (g : Handlers). g.procs) c.requires.iface) first) c.in-Ok.ensures.exact
    (search (rules, the_lemmas, c.in_ok-body.ensures.items_if_clones_equal (λ y same. same)))
