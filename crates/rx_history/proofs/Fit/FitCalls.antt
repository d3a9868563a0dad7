-- Each number of each call of a node fits its field: what changes of calls leave.
use Rattle.std.proofs.Common.{◌≡◌, ◌≤◌, ◌<◌, ℕ, cond, nat_lt, Bool, true, false}
use Rattle.std.proofs.Common.{Option, Some, None, option_map, refl, sym, subst, arith}
use Rattle.std.proofs.lemmas.Bool.Decides.{nat_tests}
use Rattle.rx_model.specs.declared.names.CallName.{CallName}
use Rattle.rx_model.specs.Names.{channel_of, same_name}
use Rattle.rx_rules.specs.CallLooks.{CallLooks, fresh_call}
use Rattle.rx_rules.specs.Life.{Life, after_later}
use Rattle.rx_rules.specs.Life as lives
use Rattle.rx_rules.specs.Judging.{opened}
use Rattle.rx_rules.specs.Looks.{CallRecord, Looks, call_at, channel_at, latest_name, on_call, on_calls, on_life}
use Rattle.rx_rules.specs.Looks.{on_looks}
use Rattle.rx_rules.specs.Records.{started, started_later}
use Rattle.rx_rules.specs.Setup.{Setup, pace_of}
use Rattle.rx_rules.proofs.CallsLaws.{KeepsNames, call_at-on_calls}
use Rattle.rx_rules.proofs.StartLaws.{call_at-other}
use Rattle.rx_model.proofs.NameLaws.{name_is}
use Rattle.rx_history.proofs.Calls.{call-changed}
use Rattle.rx_history.proofs.Fit.FitValues.{FitsLife, later_life}
use Rattle.rx_history.proofs.Takes.{call_at-any}
use Rattle.rx_history.proofs.Fit.FitCall.{FitsCall, life_fits, fresh_fits, CallFits, CallsFit}

-- each call changes
pub fit_calls : (change : CallRecord → CallRecord) (l : Looks) → KeepsNames change
    → ((k : CallRecord) → FitsCall k → FitsCall (change k))
    → CallsFit l.calls → CallsFit (on_calls change l).calls
fit_calls change l names keeps all c = subst CallFits (sym (call_at-on_calls c change l names))
    (of (call_at l c) (all c))
  where
    of : (o : Option CallRecord) → CallFits o → CallFits (option_map change o)
    of None f = tt
    of (Some k) f = keeps k f

-- the call of a name changes
pub fit_call : (d : CallName) (change : CallRecord → CallRecord) (l : Looks) → KeepsNames change
    → ((k : CallRecord) → call_at l d ≡ Some k → FitsCall k → FitsCall (change k)) → CallsFit l.calls
    → CallsFit (on_call d change l).calls
fit_call d change l names keeps all c =
    subst CallFits (sym (call-changed c d change l names))
    ((elim (same_name c d) as (λ b. same_name c d ≡ b
    → CallFits (cond b (option_map change (call_at l c)) (call_at l c))) [
      | true ↦ λ same.
          of (call_at l c) (λ k there. keeps k
          (subst (λ (n : CallName). call_at l n ≡ Some k) (name_is c d same) there)) (all c)
      | false ↦ λ other. all c
    ]) refl)
  where
    of : (o : Option CallRecord) → ((k : CallRecord) → o ≡ Some k → FitsCall k → FitsCall (change k)) → CallFits o
        → CallFits (option_map change o)
    of None keeps f = tt
    of (Some k) keeps f = keeps k refl f

-- the life of the call of a name goes on
pub fit_life : (d : CallName) (change : Life → Life) (l : Looks) → ((x : Life) → FitsLife x → FitsLife (change x))
    → CallsFit l.calls → CallsFit (on_life d change l).calls
fit_life d change l keeps all =
    fit_call d (λ k. record k { life = change k.life }) l (λ k. refl)
    (λ k there f. life_fits k (change k.life) (keeps k.life f.life) f) all

-- its end changes
pub fit_looks : (d : CallName) (change : CallLooks → CallLooks) (l : Looks)
    → ((k : CallRecord) → call_at l d ≡ Some k → FitsCall k → FitsCall (record k { looks = change k.looks }))
    → CallsFit l.calls → CallsFit (on_looks d change l).calls
fit_looks d change l keeps all = fit_call d (λ k. record k { looks = change k.looks }) l (λ k. refl) keeps all

-- a call starts
pub fit_started : (s : Setup) (life : Life) (d : CallName) (l : Looks) → FitsLife life → 1 ≤ d.number → CallsFit l.calls
    → CallsFit (started s life d l).calls
fit_started s life d l is some all c =
    (elim (same_name c d) as (λ b. same_name c d ≡ b → CallFits (call_at (started s life d l) c)) [
      | true ↦ λ same.
          subst CallFits (sym (call_at-any c new l (sym (name_is c d same)) (call_at l c) refl))
          (fresh_fits d life (pace_of s) l.now is some)
      | false ↦ λ other. subst CallFits (sym (call_at-other c new l other (call_at l c) refl)) (all c)
    ]) refl
  where
    new : CallRecord
    new = record { name = d; life = life; looks = fresh_call (pace_of s) l.now }

above-none : (a b : ℕ) → nat_lt a b ≡ true → 1 ≤ b
above-none a b is = (let low : a < b = grind (arith, nat_tests) in omega arith)

-- a call whose number is above its channel's starts
pub fit_opened : (s : Setup) (d : CallName) (l : Looks) → CallsFit l.calls → CallsFit (opened s d l).calls
fit_opened s d l all = of (nat_lt (channel_at l (channel_of d)).number d.number) refl
  where
    of : (b : Bool) → nat_lt (channel_at l (channel_of d)).number d.number ≡ b
        → CallsFit (cond b (started_later s d l) l).calls
    of true above =
        fit_started s lives.Waiting d (on_life (latest_name l (channel_of d)) after_later l) tt
        (above-none (channel_at l (channel_of d)).number d.number above)
        (fit_life (latest_name l (channel_of d)) after_later l later_life all)
    of false below = all
