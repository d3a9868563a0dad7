use Rattle.std.proofs.Common.{◌≡◌, ◌∙◌, ℕ, List, Option, ap, arith, length, subst, sym}
use Rattle.std.proofs.lemmas.List.{length-append}
use Rattle.rx_table.specs.Uses.{AreWithin, with_aside}
use Rattle.rx_table.proofs.Noted.{set_length}
use Rattle.rx_table.proofs.TakenLaws.{all_entries, comes-more, with-last, within-pop}
use Rattle.rx_table.proofs.uses.put_back.Goals as goal

pub set-requires : goal.set-requires
set-requires g c =
    let all = subst (λ (xs : List (ℕ × ℕ)). AreWithin (length c.args.book.now) xs) c.in-Some.ensures.items
    c.aside.invariant.within in
    let its = within-pop _ c.pop.new.self.items (c.in-Some.since, c.in-Some.place) all in
    let low = its.1 in
    let same = c.aside.invariant.places in
    omega (arith, low, same)

pub aside-preserved : goal.aside-preserved
aside-preserved g c =
    let so = c.aside.invariant in
    let x : ℕ × ℕ = (c.in-Some.since, c.in-Some.place) in
    let left = c.pop.new.self.items in
    let all = subst (λ (xs : List (ℕ × ℕ)). AreWithin (length c.args.book.now) xs) c.in-Some.ensures.items so.within in
    let places : length c.set.new.self ≡ length c.args.book.now =
    ap (λ (b : List (Option ℕ)). length b) c.set.ensures.updates ∙ set_length c.aside.book c.in-Some.place _
    ∙ so.places in
    let few = all_entries c.set.new.self in
    record {
      again = ap (λ (b : List (Option ℕ)). with_aside b left) c.set.ensures.updates
          ∙ sym (with-last c.aside.book left x)
          ∙ ap (λ (xs : List (ℕ × ℕ)). with_aside c.aside.book xs) (sym c.in-Some.ensures.items) ∙ so.again;
      places = places;
      within = (within-pop _ left x all).0;
      capacity = c.in-Some.ensures.capacity ∙ so.capacity;
      cost = comes-more (length c.args.book.now) _ (length c.aside.aside.items) (length left) _ _ _ _
          (ap (λ (xs : List (ℕ × ℕ)). length xs) c.in-Some.ensures.items ∙ length-append left _)
          (omega (arith, few, places)) so.cost c.set.ensures.steps;
    }
