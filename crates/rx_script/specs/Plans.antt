-- The plans that a text gives, or its first fault. Public clauses cite this module.
use Rattle.std.specs.Prelude.{ℕ, List, [], ◌∷◌, ◌++◌, Option, Some, None, Result, Ok, Err}
use Rattle.std.specs.Option.{option_or}
use Rattle.rx_model.specs.declared.names.Host.{Host}
use Rattle.xdr_value.specs.Data.{Procs, Types}
use Rattle.rx_script.specs.declared.fault.LineFault.TheVariants.{BadLine}
use Rattle.rx_script.specs.declared.fault.LineWhy.{LineWhy}
use Rattle.rx_script.specs.declared.plan.PlanLine.{PlanLine}
use Rattle.rx_script.specs.declared.plan.PlanLine.TheVariants as lines
use Rattle.rx_script.specs.declared.plan.PeerLine.{PeerLine}
use Rattle.rx_script.specs.declared.plan.PeerLine.TheVariants as peers
use Rattle.rx_script.specs.Hosts.{is_host, has_host}
use Rattle.rx_script.specs.Pieces.{words_of}
use Rattle.rx_script.specs.Rows.{plan_line, peer_line}
use Rattle.rx_script.specs.Saying.{Said, plain, Row}
use Rattle.rx_script.specs.Texts.{Given, Step, text_given}

-- the lines with one more, whose words say this, at this place of the text
abbrev pub with_said : {L : Type 0} → ℕ → List (Row L) → Result (Said L) LineWhy → Given (List (Row L))
with_said n before (Err why) = Err (BadLine n why)
with_said n before (Ok said) = Ok (before ++ (n, said) ∷ [])

-- ---- plans

-- the host that a server line names
abbrev pub server_in : Said PlanLine → Option Host
server_in (plain (lines.Server host service limits key nonce)) = Some host
server_in _ = None

-- the host of the first server line
abbrev pub server_host : List (Row PlanLine) → Option Host
server_host [] = None
server_host (r ∷ rs) = option_or (server_in r.1) (server_host rs)

-- a plan with one more line
abbrev pub plan_step : Types → Procs → Step (List (Row PlanLine))
plan_step t ps n line before = with_said n before (plan_line t ps (is_host (server_host before)) (words_of line))

-- the plan that a text gives, or its first fault
abbrev pub plan_of : Types → Procs → List ℕ → Given (List (Row PlanLine))
plan_of t ps text = text_given (plan_step t ps) [] text

-- ---- plans of peers

-- the host that a peer line names
abbrev pub peer_in : Said PeerLine → List Host
peer_in (plain (peers.Peer host epoch service limits)) = host ∷ []
peer_in _ = []

-- the hosts of the peers
abbrev pub peer_hosts : List (Row PeerLine) → List Host
peer_hosts [] = []
peer_hosts (r ∷ rs) = peer_in r.1 ++ peer_hosts rs

-- a plan of peers with one more line
abbrev pub peer_step : Types → Procs → Step (List (Row PeerLine))
peer_step t ps n line before = with_said n before (peer_line t ps (has_host (peer_hosts before)) (words_of line))

-- the plan of peers that a text gives, or its first fault
abbrev pub peer_plan_of : Types → Procs → List ℕ → Given (List (Row PeerLine))
peer_plan_of t ps text = text_given (peer_step t ps) [] text
