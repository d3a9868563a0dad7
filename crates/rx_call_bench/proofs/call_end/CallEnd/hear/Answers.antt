use Rattle.rx_call_bench.proofs.call_end.CallEnd.hear.Goals as goal

pub returns-in-Some : goal.returns-in-Some
returns-in-Some c = record {
  looks = _;
  stands = c.take-took.ensures.stands c.requires.stands.looks c.requires.stands.stands;
  holds = c.take-took.ensures.keeps.holds;
}
