-- A call that lives is its channel's latest, in any legal history.
use Rattle.std.proofs.Common.{◌≡◌, ◌≤◌, true, List, Some, ◌∙◌, ap, subst}
use Rattle.rx_model.specs.declared.event.Event.{Event}
use Rattle.rx_model.specs.declared.names.CallName.{CallName}
use Rattle.rx_model.specs.Names.{channel_of, same_name}
use Rattle.rx_model.proofs.NameLaws.{name_is}
use Rattle.rx_rules.specs.After.{looks}
use Rattle.rx_rules.specs.Life.{is_live}
use Rattle.rx_rules.specs.Looks.{CallRecord, call_at, is_call}
use Rattle.rx_rules.specs.Rules.{Legal}
use Rattle.rx_rules.specs.Setup.{FitsSetup, Setup}
use Rattle.rx_rules.proofs.ConnsLaws.{channel_number}
use Rattle.rx_rules.proofs.FindLaws.{find_passes}
use Rattle.rx_history.proofs.Fit.FitCall.{CallFits}
use Rattle.rx_history.proofs.Fit.FitHistory.{fit_history}
use Rattle.rx_history.proofs.Order.OrderlyHistory.{orderly_history}
use Rattle.rx_closing.proofs.Messages.Rows.{IsLast}

-- each call that has a record has a number
pub some_number : (s : Setup) (h : List Event) (c : CallName) (k : CallRecord) → FitsSetup s → Legal s h
    → call_at (looks s h) c ≡ Some k → 1 ≤ c.number
some_number s h c k fits legal there =
    (let name : k.name ≡ c =
    name_is k.name c (find_passes (λ (j : CallRecord). same_name j.name c) (looks s h).calls k there) in
    let fit = subst CallFits there ((fit_history s h fits legal).calls c) in
    subst (λ (d : CallName). 1 ≤ d.number) name fit.number)

pub live_last : (s : Setup) (h : List Event) (c : CallName) (k : CallRecord) → FitsSetup s → Legal s h
    → call_at (looks s h) c ≡ Some k → is_live k.life ≡ true → IsLast (looks s h) c k
live_last s h c k fits legal there living =
    record {
      there = there;
      number =
          channel_number (looks s h) (channel_of c)
          ∙ ((orderly_history s h legal).latest c
          (ap (is_call (λ (r : CallRecord). is_live r.life)) there ∙ living)).number;
      some = some_number s h c k fits legal there;
    }
