-- Where no node owes anything beside what its calls give, all that a round's polls give is of the members' streams; and
-- where both ends of a member gave nothing, nothing of its stream was given.
use Rattle.std.proofs.Common.{◌≡◌, ℕ, List, [], ◌∷◌, Some}
use Rattle.std.specs.Prelude.{slice_get}
use Rattle.rx_model.specs.declared.event.Noted.{Noted}
use Rattle.rx_rules.proofs.EveryLaws.{Every}
use Rattle.rx_history.specs.Sides.{Node}
use Rattle.rx_law.specs.Worlds.{Datagram}
use Rattle.rx_jobs.specs.Handlers.{Handlers}
use Rattle.rx_plan.specs.Stages.{Stage}
use Rattle.rx_rounds.proofs.Rounded.{RoundMade}
use Rattle.rx_closing.specs.Living.{looks_of}
use Rattle.rx_closing.proofs.Frame.{Crowd, IsKept}
use Rattle.rx_closing.proofs.Living.ClientOf.{has_server}
use Rattle.rx_closing.proofs.Living.CrowdRounds.{SaysSome}
use Rattle.rx_closing.proofs.Living.Crowds.{RoundCrowds, round_crowds}
use Rattle.rx_closing.proofs.Owing.OwesNone.{OwesNone}
use Rattle.rx_closing.proofs.Polls.StreamOf.{StreamOfSome, stream_of}
use Rattle.rx_closing.proofs.Polls.StreamsGiven.{SaysStream, streams_given}
use Rattle.rx_closing.proofs.Together.Members.{Member, names_of}

every_stream : (nodes : List Node) (h : List Noted) (ms : List Member) (ds : List Datagram)
    → Every (SaysSome nodes (names_of ms) h) ds → Every SaysStream ds → Every (StreamOfSome nodes h ms) ds
every_stream nodes h ms [] said streams = tt
every_stream nodes h ms (d ∷ ds) said streams = (
  stream_of nodes h ms d said.0 (streams.0).message (streams.0).reads (streams.0).stream,
  every_stream nodes h ms ds said.1 streams.1,
)

-- all that a round gives is of the members' streams
pub streams_only : (g : Handlers) (ms : List Member) (s t : Stage) → Crowd (names_of ms) s
    → ((j : ℕ) (n : Node) → slice_get s.nodes j ≡ Some n → OwesNone (looks_of s j n)) → (r : RoundMade g s t)
    → IsKept s.nodes t → Every (StreamOfSome s.nodes r.polled.stage.history ms) r.polled.given
streams_only g ms s t crowd owes r kept =
    let server = has_server (names_of ms) s crowd in
    let crowds : RoundCrowds (names_of ms) s crowd g t r = round_crowds (names_of ms) s crowd g t r kept in
    every_stream s.nodes r.polled.stage.history ms r.polled.given crowds.said
    (streams_given s r.polled crowd.world crowd.plain server.0 server.1 owes r.polls_are)
