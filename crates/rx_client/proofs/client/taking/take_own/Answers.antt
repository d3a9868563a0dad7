use Rattle.std.proofs.Common.{is_some, ◌∙◌, ap, sym}
use Rattle.std.proofs.lemmas.Bool.{false≢true}
use Rattle.rx_model.specs.Names.{channel_of}
use Rattle.rx_client.proofs.TakenMessages.{fits_slot, own_active}
use Rattle.rx_client.proofs.client.taking.take_own.Goals as goal

pub take-requires-clause-size : goal.take-requires-clause-size
take-requires-clause-size g c = fits_slot _ c.requires.size

pub returns-in-Some-clause-steps : goal.returns-in-Some-clause-steps
returns-in-Some-clause-steps g c = λ l k own active. c.take.ensures.steps l k own

pub returns-in-None-clause-steps : goal.returns-in-None-clause-steps
returns-in-None-clause-steps g c =
    λ l k own active. absurd (false≢true (sym (ap (λ o. is_some o) c.in-None.is)
    ∙ c.active.ensures.answered l (channel_of c.args.c.now) own.mirrors own.channel
    ∙ own_active l c.args.c.now k own.latest own.call active))
