use Rattle.xdr_code.proofs.items.+after_padding.Given as goal

abbrev pub decreases-after_padding : goal.decreases-after_padding
decreases-after_padding l = l.n
