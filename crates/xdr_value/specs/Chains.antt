-- What `reached` answers. Public clauses cite this module.
use Rattle.std.specs.Prelude.{ℕ, Option, Some, None}
use Rattle.xdr_value.specs.Data.{Form}
use Rattle.xdr_value.specs.View.{form_of}
use Rattle.xdr_value.specs.declared.chains.ChainEnd.{ChainEnd}

-- what stands at the end, if the chain has one
abbrev pub end_form : Option ChainEnd → Option Form
end_form None = None
end_form (Some e) = Some (form_of e.shape.now)

-- how many names may be followed from there
abbrev pub end_hops : Option ChainEnd → ℕ
end_hops None = 0
end_hops (Some e) = e.hops
