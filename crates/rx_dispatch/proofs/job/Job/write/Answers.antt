use Rattle.std.proofs.Common.{◌≡◌, ◌∙◌, ap, length, refl, subst, sym}
use Rattle.rx_model.specs.declared.answers.WroteGot.TheVariants as writers
use Rattle.rx_model.specs.declared.event.Event.{Event}
use Rattle.rx_model.specs.declared.event.Event.TheVariants as events
use Rattle.rx_model.specs.declared.names.CallName.{CallName}
use Rattle.rx_server.specs.Server.{Answered}
use Rattle.rx_dispatch.specs.Calls.{Called}
use Rattle.rx_jobs.specs.Jobs.{JobState}
use Rattle.rx_dispatch.specs.declared.job.Next.TheVariants as nexts
use Rattle.rx_jobs.specs.declared.job.Want.TheVariants as wants
use Rattle.rx_dispatch.proofs.CallLaws.{write_called}
use Rattle.rx_dispatch.proofs.job.Job.write.Goals as goal

pub returns-clause-called : goal.returns-clause-called
returns-clause-called g c =
    let class = g.C.Class.class_of in
    let j : JobState = c.args.self.now in
    let own : c.self.inside.call ≡ j.call = ap (λ (x : JobState). x.call) c.self.view_is in
    let offer = c.offer-offer.result.now in
    subst (λ (n : CallName). Called class j wants.Write c.hear_write-phase.new.self
    (nexts.Go c.hear_write-phase.result) c.args.server.now c.write.new.server
    (events.Wrote n (length offer) (writers.Server c.in_ok-got.got) c.of.result)) (sym own)
    (write_called class j c.args.server.now c.write.new.server c.in_ok-got.got offer c.of.result (length offer)
    c.hear_write-phase.new.self c.hear_write-phase.result
    (subst (λ (e : Event). Answered class c.args.server.now c.write.new.server e)
    (ap (λ (n : CallName). events.Wrote n (length offer) (writers.Server c.in_ok-got.got) c.in_ok-got.bytes.items) own
    ∙ ap (λ xs. events.Wrote j.call (length offer) (writers.Server c.in_ok-got.got) xs) c.in_ok-got.ensures.bytes)
    c.in_ok-got.ensures.answered)
    c.offer-offer.ensures refl (c.of.ensures ∙ c.in_ok-got.ensures.bytes) c.hear_write-phase.ensures)
