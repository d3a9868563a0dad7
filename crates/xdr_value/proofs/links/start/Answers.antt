use Rattle.std.proofs.Common.{arith, ◌∙◌, ◌<◌, length}
use Rattle.xdr_value.proofs.ChainLaws.{put_same, put_next}
use Rattle.xdr_value.proofs.links.start.Goals as goal

pub loop-at-preserved : goal.loop-at-preserved
loop-at-preserved c =
    let lt : c.loop-at.at < length c.loop-at.types = omega arith in
    record {
      same = put_same c.loop-at.types c.loop-at.at c.index-types-at.result c.first_link-link.result
          ∙ c.loop-at.invariant.same;
      linked = put_next c.loop-at.types c.loop-at.at c.index-types-at.result c.first_link-link.result lt
          c.loop-at.invariant.linked c.first_link-link.ensures;
    }
