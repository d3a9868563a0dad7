use Rattle.std.proofs.Common.{arith, ◌∙◌, ◌<◌, length}
use Rattle.xdr_value.proofs.ChainLaws.{put_same, put_linked}
use Rattle.xdr_value.proofs.links.lengthen.Goals as goal

pub loop-at-preserved : goal.loop-at-preserved
loop-at-preserved c =
    let d = c.index-types-at-in-loop-at.result in
    let lt : c.loop-at.at < length c.loop-at.types = omega arith in
    record {
      same = put_same c.loop-at.types c.loop-at.at d c.longer_link-link.result ∙ c.loop-at.invariant.same;
      linked = put_linked c.loop-at.types c.loop-at.at d c.longer_link-link.result lt c.loop-at.invariant.linked
          c.longer_link-link.ensures;
    }
