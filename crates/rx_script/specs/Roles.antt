-- What the roles of the code ask of an argument. No public clause cites this module.
use Rattle.xdr_value.specs.Data.{Types}
use Rattle.rx_script.specs.declared.procs.Role.{Role as CodeRole}
use Rattle.rx_script.specs.declared.procs.Role.TheVariants as roles
use Rattle.rx_script.specs.Procs.{Role, comes, returns, counts, is_counted}

-- the role that a word of a script's line has, by the code's own name for it
abbrev pub role_of : Types → CodeRole → Role
role_of t roles.Comes = comes
role_of t roles.Returns = returns
role_of t roles.Counts = counts t
role_of t roles.Counted = is_counted t
