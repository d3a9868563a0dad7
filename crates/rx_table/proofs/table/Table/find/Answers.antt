use Rattle.std.proofs.Common.{ap, sym, ◌∙◌}
use Rattle.rx_table.specs.Names.{place_under}
use Rattle.rx_table.proofs.KeptLaws.{found_is, found_within, lacked_is, distinct_is, stands_is}
use Rattle.rx_table.proofs.table.Table.find.Goals as goal

pub returns-then-stands_at-clause-found : goal.returns-then-stands_at-clause-found
returns-then-stands_at-clause-found c =
    stands_is _ _ _ _ _ _ _ _ _ c.self.view_is c.self.invariant.0 c.deref.ensures.value
    (c.stands_at.ensures c.if-stands_at.true)

pub returns-then-stands_at-clause-within : goal.returns-then-stands_at-clause-within
returns-then-stands_at-clause-within c =
    found_within c.args.self.now _ _
    (sym (stands_is _ _ _ _ _ _ _ _ _ c.self.view_is c.self.invariant.0 c.deref.ensures.value
    (c.stands_at.ensures c.if-stands_at.true)))

pub returns-then-stands_at-clause-distinct : goal.returns-then-stands_at-clause-distinct
returns-then-stands_at-clause-distinct c = distinct_is _ _ _ _ _ _ c.self.view_is c.self.invariant.0

pub returns-in-Some-clause-found : goal.returns-in-Some-clause-found
returns-in-Some-clause-found c =
    found_is _ _ _ _ _ _ _ _ c.self.view_is c.self.invariant.0
    (ap (place_under c.self.inside.index) (sym c.of.ensures) ∙ sym c.place.ensures ∙ c.in-Some.is)

pub returns-in-Some-clause-within : goal.returns-in-Some-clause-within
returns-in-Some-clause-within c =
    found_within c.args.self.now _ _
    (sym (found_is _ _ _ _ _ _ _ _ c.self.view_is c.self.invariant.0
    (ap (place_under c.self.inside.index) (sym c.of.ensures) ∙ sym c.place.ensures ∙ c.in-Some.is)))

pub returns-in-Some-clause-distinct : goal.returns-in-Some-clause-distinct
returns-in-Some-clause-distinct c = distinct_is _ _ _ _ _ _ c.self.view_is c.self.invariant.0

pub returns-in-None-clause-found : goal.returns-in-None-clause-found
returns-in-None-clause-found c =
    lacked_is _ _ _ _ _ _ _ c.self.view_is c.self.invariant.0 c.if-self.true
    (ap (place_under c.self.inside.index) (sym c.of.ensures) ∙ sym c.place.ensures ∙ c.in-None.is)

pub returns-in-None-clause-distinct : goal.returns-in-None-clause-distinct
returns-in-None-clause-distinct c = distinct_is _ _ _ _ _ _ c.self.view_is c.self.invariant.0

pub returns-in-None-2-clause-distinct : goal.returns-in-None-2-clause-distinct
returns-in-None-2-clause-distinct c = distinct_is _ _ _ _ _ _ c.self.view_is c.self.invariant.0
