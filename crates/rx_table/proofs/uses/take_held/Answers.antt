use Rattle.std.proofs.Common.{◌∙◌, ◌≤◌, ◌-◌, ℕ, List, Option, None, ap, arith, length, refl, sym, subst}
use Rattle.std.specs.Prelude.{slice_set}
use Rattle.std.proofs.lemmas.List.{length-append}
use Rattle.rx_model.specs.declared.wire.TheConstants.{IDLE_MS}
use Rattle.rx_table.proofs.TakenLaws.{GoneThrough, all_entries, first_found, goes-more, gone-more, none_late, none_left}
use Rattle.rx_table.proofs.UseLaws.{call_seen}
use Rattle.rx_table.proofs.uses.take_held.Goals as goal

pub returns-then-saturating_sub-lt-IDLE_MS-clause-none : goal.returns-then-saturating_sub-lt-IDLE_MS-clause-none
returns-then-saturating_sub-lt-IDLE_MS-clause-none g c =
    λ none. none_late c.args.now c.args.seats.now c.args.book.now c.held.book c.held.aside.items c.held.invariant.gone
    c.in-Some.since c.in-Some.place c.in-Some.ensures.least
    (let early = c.if-saturating_sub-lt-IDLE_MS.true in
    let sub = c.saturating_sub.ensures in
    omega (arith, early, sub))

pub returns-then-not-has_live-clause-free : goal.returns-then-not-has_live-clause-free
returns-then-not-has_live-clause-free g c =
    first_found c.args.now c.args.seats.now c.args.book.now c.held.book c.held.aside.items c.held.invariant.gone
    c.in-Some.since c.in-Some.place c.in-Some.ensures.least
    (let late = c.if-saturating_sub-lt-IDLE_MS.false in
    let sub = c.saturating_sub.ensures in
    omega (arith, late, sub))
    (sym (call_seen c.args.seats.now c.in-Some.place) ∙ sym c.has_live.ensures ∙ c.if-not-has_live.true)

pub held-preserved : goal.held-preserved
held-preserved g c =
    let so = c.held.invariant in
    let late : IDLE_MS ≤ c.args.now - c.in-Some.since =
    (let late = c.if-saturating_sub-lt-IDLE_MS.false in
    let sub = c.saturating_sub.ensures in
    omega (arith, late, sub)) in
    let more = gone-more c.args.now c.args.seats.now c.args.book.now c.held.book c.held.aside.items so.gone
    c.in-Some.since c.in-Some.place c.in-Some.ensures.least.there c.in-Some.ensures.within late
    (sym (call_seen c.args.seats.now c.in-Some.place) ∙ sym c.has_live.ensures ∙ c.if-not-has_live.false) in
    record {
      gone = subst (λ (b : List (Option ℕ)). GoneThrough c.args.now c.args.seats.now c.args.book.now b
          c.push_reserved.new.self.items) (sym c.clear.ensures.updates)
          (subst (λ (xs : List (ℕ × ℕ)). GoneThrough c.args.now c.args.seats.now c.args.book.now
          (slice_set c.held.book c.in-Some.place None) xs) (sym c.push_reserved.ensures.items) more);
      capacity = c.push_reserved.ensures.capacity ∙ so.capacity;
      cost = goes-more (length c.args.book.now) (length c.held.aside.items) _ _ _ _ _ _
          (ap (λ (xs : List (ℕ × ℕ)). length xs) c.push_reserved.ensures.items ∙ length-append c.held.aside.items _)
          (let few = all_entries c.held.book in let places = so.gone.taken.places in omega (arith, few, places))
          so.cost c.in-Some.ensures.steps c.clear.ensures.steps;
    }

pub returns-clause-none : goal.returns-clause-none
returns-clause-none g c =
    λ none. none_left c.args.now c.args.seats.now c.args.book.now c.held.book c.held.aside.items c.held.invariant.gone
    (c.in_default.ensures.empty.0 refl)
