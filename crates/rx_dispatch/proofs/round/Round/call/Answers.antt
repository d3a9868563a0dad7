use Rattle.std.proofs.Common.{refl}
use Rattle.std.proofs.Math.ListN.{set}
use Rattle.rx_dispatch.specs.Rounds.{RoundState}
use Rattle.rx_dispatch.specs.Desks.{handlers_at}
use Rattle.rx_jobs.specs.Jobs.{JobState}
use Rattle.rx_dispatch.specs.States.{round_of}
use Rattle.rx_dispatch.proofs.RoundLaws.{Becomes, ready_calls, ready_remembers}
use Rattle.rx_dispatch.proofs.round.Round.call.Goals as goal

pub returns-clause-made : goal.returns-clause-made
returns-clause-made g c =
    let old : RoundState = round_of c.args.self.now in
    let j : JobState = c.index_mut.result.now in
    let k : JobState = c.call.new.self in
    let new : RoundState = record old { jobs = set old.jobs old.place k; next = c.in_ok-event.next } in
    let b : Becomes old new j k = record {
      serving = c.requires.serving;
      within = c.requires.ready.within;
      is = c.index_mut.ensures.value;
      place = refl;
      jobs = refl;
    } in
    ready_calls g.C.Class.class_of (handlers_at c.args.desk.now) old new c.args.want c.requires.ready j k
    c.args.server.now c.call.new.server c.in_ok-event.event c.requires.serving b c.in_ok-event.ensures.called

pub returns-clause-remembered : goal.returns-clause-remembered
returns-clause-remembered g c =
    let old : RoundState = round_of c.args.self.now in
    let j : JobState = c.index_mut.result.now in
    let k : JobState = c.call.new.self in
    let new : RoundState = record old { jobs = set old.jobs old.place k; next = c.in_ok-event.next } in
    let b : Becomes old new j k = record {
      serving = c.requires.serving;
      within = c.requires.ready.within;
      is = c.index_mut.ensures.value;
      place = refl;
      jobs = refl;
    } in
    ready_remembers (handlers_at c.args.desk.now) old new j k b c.in_ok-event.ensures.called.grows c.requires.remembered
