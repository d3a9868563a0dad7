use Rattle.std.proofs.Common.{◌∙◌, ◌++◌, List, ℕ, ap, drop, subst}
use Rattle.rx_dispatch.specs.Calls.{Called}
use Rattle.rx_jobs.specs.Jobs.{JobState}
use Rattle.rx_jobs.specs.declared.job.TheConstants.{OFFER_BYTES}
use Rattle.rx_jobs.specs.declared.job.Want.TheVariants as wants
use Rattle.rx_model.specs.declared.answers.ReadGot.TheVariants as readers
use Rattle.rx_model.specs.declared.event.Event.TheVariants as events
use Rattle.rx_dispatch.proofs.CallLaws.{read_called}
use Rattle.rx_dispatch.proofs.job.Job.read.Goals as goal

pub returns-clause-called : goal.returns-clause-called
returns-clause-called g c =
    let class = g.C.Class.class_of in
    let i = c.self.inside in
    let j : JobState = record {
      call = i.call;
      request = i.request.items;
      ended = i.ended;
      steps = i.steps;
      code = i.code;
      reply = drop i.said i.reply.items;
    } in
    subst (λ (x : JobState). Called class x wants.Read
    (record j { request = c.put.new.stream.items; ended = c.ended_after-self-inside.result }) c.next_after.result
    c.args.server.now c.read.new.server
    (events.HasRead i.call OFFER_BYTES (readers.Server c.in_ok-got.got) c.of.result)) c.self.view_is
    (read_called class j c.args.server.now c.read.new.server c.in_ok-got.got c.in_ok-got.bytes.items c.of.result
    c.put.new.stream.items c.ended_after-self-inside.result c.len-before.result c.next_after.result
    c.in_ok-got.ensures.none
    c.in_ok-got.ensures.fits
    c.in_ok-got.ensures.answered c.of.ensures
    (c.put.ensures ∙ ap (λ (q : List ℕ). q ++ c.as_slice.result.now) c.in_ok-ready.ensures.same
    ∙ ap (λ (b : List ℕ). i.request.items ++ b) c.as_slice.ensures.value)
    c.ended_after-self-inside.ensures (c.len-before.ensures ∙ i.request.ok.0) c.next_after.ensures)
