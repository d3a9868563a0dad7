use Rattle.std.proofs.Common.{◌≡◌, Some, None, sym, ◌∙◌, arith}
use Rattle.rx_model.specs.Names.{connection_of}
use Rattle.rx_table.specs.Records.{place_of}
use Rattle.rx_node.proofs.Steps.IdleSteps.{unknown_at}
use Rattle.rx_node.proofs.Steps.KeySteps.{key_channel}
use Rattle.rx_node.proofs.node.Node.channel.Goals as goal

pub returns-in_err-place-clause-found : goal.returns-in_err-place-clause-found
returns-in_err-place-clause-found g c =
    let table = c.self.inside.table in
    let x = connection_of c.args.c.now in
    let found : place_of table x ≡ None = sym {b = place_of table x} c.find.ensures.found ∙ c.in_err-place.was in
    rw (← c.self.view_is, c.from_residual.ensures) (λ low. record {
      key = tt;
      at = λ l m. unknown_at g.C.Class.class_of _ l m x found;
      absent = λ none. found;
    })

pub returns-in_err-place-clause-none : goal.returns-in_err-place-clause-none
returns-in_err-place-clause-none g c =
    let table = c.self.inside.table in
    let x = connection_of c.args.c.now in
    let found : place_of table x ≡ None = sym {b = place_of table x} c.find.ensures.found ∙ c.in_err-place.was in
    rw (← c.self.view_is) (λ l m low none. unknown_at g.C.Class.class_of _ l m x found)

pub overflow_mul-result : goal.overflow_mul-result
overflow_mul-result g c =
    let i = c.self.invariant in
    omega (arith, i.0.few, i.0.fits.limits.few_conns, c.in_ok-place.ensures.within)

pub overflow_add-result : goal.overflow_add-result
overflow_add-result g c =
    let i = c.self.invariant in
    omega (arith, i.0.few, i.0.fits.limits.few_conns, c.in_ok-place.ensures.within)

pub returns-clause-channel : goal.returns-clause-channel
returns-clause-channel g c =
    let place = c.in_ok-place.place in
    let table = c.self.inside.table in
    let x = connection_of c.args.c.now in
    let found : place_of table x ≡ Some place = sym {b = place_of table x} c.find.ensures.found ∙ c.in_ok-place.was in
    rw (← c.self.view_is) (λ l m low. key_channel g.C.Class.class_of _ l m c.args.c.now place low found)

pub returns-clause-found : goal.returns-clause-found
returns-clause-found g c =
    let place = c.in_ok-place.place in
    let table = c.self.inside.table in
    let x = connection_of c.args.c.now in
    let found : place_of table x ≡ Some place = sym {b = place_of table x} c.find.ensures.found ∙ c.in_ok-place.was in
    rw (← c.self.view_is) (λ low. record {
      key = (let within = c.in_ok-place.ensures.within in omega (arith, within, low));
      at = λ l m. key_channel g.C.Class.class_of _ l m c.args.c.now place low found;
      absent = λ none. absurd (cc (none));
    })
