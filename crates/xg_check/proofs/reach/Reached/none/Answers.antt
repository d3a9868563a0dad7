use Rattle.std.proofs.Common.{◌≡◌, false, replicate}
use Rattle.xg_check.proofs.SearchLaws.{none_listed, none_marked}
use Rattle.xg_check.proofs.reach.Reached.none.Goals as goal

pub returns-clause-listed : goal.returns-clause-listed
returns-clause-listed c =
    let is : c.in_ok-vec.field-0.items ≡ replicate c.args.count false =
    c.in_ok-vec.ensures.items_if_clones_equal (λ y h. h) in
    rw (is, c.new.ensures.items) (none_listed c.args.count)

pub returns-clause-unmarked : goal.returns-clause-unmarked
returns-clause-unmarked c = λ i h.
    let is : c.in_ok-vec.field-0.items ≡ replicate c.args.count false =
    c.in_ok-vec.ensures.items_if_clones_equal (λ y e. e) in
    none_marked c.args.count i (rw is at h)
