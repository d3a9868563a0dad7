-- What is promised of fair rounds behind lines holds of a plan whose last line makes them: of all calls that live as
-- they begin, where there is room for all, and of one.
use Rattle.rx_closing.specs.Closing.{ClosesOne}
use Rattle.rx_closing.specs.Silence.{DeadOneInSilence}
use Rattle.rx_closing.specs.Several.{ClosesAll, DeadAllInSilence}
use Rattle.rx_closing.specs.Ended.{PlansClose}
use Rattle.rx_closing.specs.EndedAll.{PlansCloseAll}
use Rattle.rx_closing.proofs.PlanMade.{behind_of, rounds_made_of}

-- a plan that ends in rounds closes all calls that live as they begin, and finds them dead only in silence
pub plans_close_all : ClosesAll → DeadAllInSilence → PlansCloseAll
plans_close_all closes_ silent_ g ls es went servable waits well goes before line n t is whole =
    (let p = rounds_made_of g ls es went servable waits well goes before line n t is whole in
    record {
      begins = p.made.stage;
      front = p.made.front;
      rest = p.made.rest;
      are = p.made.are;
      goes = p.made.goes;
      rounds_are = p.made.rounds_are;
      closes = λ fair room few c. closes_ g before n p.made.stage t (behind_of g before n es t p fair) room few c;
      silent = λ fair room c. silent_ g before n p.made.stage t (behind_of g before n es t p fair) room c;
    })

-- and so it is of one that lives alone
pub plans_close : ClosesOne → DeadOneInSilence → PlansClose
plans_close closes_ silent_ g ls es went servable waits well goes before line n t is whole =
    (let p = rounds_made_of g ls es went servable waits well goes before line n t is whole in
    record {
      begins = p.made.stage;
      front = p.made.front;
      rest = p.made.rest;
      are = p.made.are;
      goes = p.made.goes;
      rounds_are = p.made.rounds_are;
      closes = λ fair c only few. closes_ g before n p.made.stage t (behind_of g before n es t p fair) c only few;
      silent = λ fair c only. silent_ g before n p.made.stage t (behind_of g before n es t p fair) only c;
    })
