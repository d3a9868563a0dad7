use Rattle.std.proofs.Common.{refl, sym}
use Rattle.rx_loader.proofs.Starting.{first_shown}
use Rattle.rx_loader.proofs.loading.Loading.begin.Goals as goal

pub returns-clause-shows : goal.returns-clause-shows
returns-clause-shows c =
    record {
      net = (
        first_shown c.at_start-world.result c.in_ok-nodes.field-0 c.at_start-world.ensures.kept
            c.in_ok-nodes.ensures.nodes c.in_ok-nodes.ensures.stands c.at_start-world.ensures.jobs,
        sym c.begin.ensures.words,
        sym c.begin.ensures.held,
      );
      next = sym c.in_ok-first_numbers.ensures;
      bodies = sym (c.in_ok-vec.ensures.items_if_clones_equal (λ y same. same));
      rounds = refl;
      tally = sym c.begin.ensures.tally;
    }
