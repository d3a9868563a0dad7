use Rattle.xdr_value.specs.View.{types_of}
use Rattle.xdr_value.proofs.ChainLaws.{longer}
use Rattle.xdr_value.proofs.links.longer_link.Goals as goal

pub returns-in-Some : goal.returns-in-Some
returns-in-Some c s e =
    longer (types_of c.args.types.now) s c.link_at-link.result c.link_at-next.result c.in-Some.hops c.in-Some.ensures.1
    (c.link_at-link.ensures.right s e) c.link_at-next.ensures.right
