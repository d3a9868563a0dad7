use Rattle.std.proofs.Common.{arith}
use Rattle.rx_recvwin.proofs.PlaceLaws as laws
use Rattle.rx_recvwin.proofs.places.leading_from.Goals as goal

pub loop-n-init : goal.loop-n-init
loop-n-init c =
    let most = laws.leading_most c.args.places.now.items in
    record {
      most = omega (arith, most, c.requires);
      so_far = laws.leading_from c.args.places.now.items c.args.from
          c.requires;
    }
