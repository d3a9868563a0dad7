-- What the rules say of the numbers of each event, whatever the kind of its node.
use Rattle.std.proofs.Common.{◌==◌, arith, if◌then◌else◌}
use Rattle.std.proofs.Common.{◌≡◌, ◌%◌, ◌+◌, ◌≤◌, ◌^◌, ℤ, Bool, true, false}
use Rattle.std.proofs.Common.{Option, Some, None, Result, Ok, refl}
use Rattle.rx_model.specs.declared.answers.ServeRefused.{ServeRefused}
use Rattle.rx_model.specs.declared.answers.WroteGot.TheVariants as writers
use Rattle.rx_model.specs.declared.event.Event.{Event}
use Rattle.rx_model.specs.declared.event.Event.TheVariants as events
use Rattle.rx_model.specs.declared.names.CallName.{CallName}
use Rattle.rx_model.specs.Message.{IsBytes}
use Rattle.rx_model.specs.Names.{channel_of, connection_of}
use Rattle.rx_model.specs.Spelling.{IsCode}
use Rattle.rx_rules.specs.After.{is_zero}
use Rattle.rx_rules.specs.Judging.{took_of}
use Rattle.rx_rules.specs.Looks.{CallRecord, Looks}
use Rattle.rx_rules.specs.Rules.{Allowed, AllowedAt}
use Rattle.rx_rules.specs.Setup.{Setup, Kind, Server, Client, FitsSetup}
use Rattle.rx_history.proofs.ClientHistory.{cid-fits}
use Rattle.rx_history.proofs.Fit.FitCall.{CallsFit, FitsCall}
use Rattle.std.proofs.Common.{◌||◌, not, ap, subst}
use Rattle.rx_model.specs.declared.answers.NotOpen.{NotOpen}
use Rattle.rx_model.specs.Names.{same_name}
use Rattle.rx_rules.specs.Life.{is_live}
use Rattle.rx_rules.specs.Looks.{call_at, channel_at, conn_at, is_call}
use Rattle.rx_rules.specs.Rules.{done_where, own_call, served_finish}
use Rattle.rx_rules.proofs.ConnsLaws.{number_of}
use Rattle.rx_rules.proofs.FindLaws.{find_passes}
use Rattle.rx_model.proofs.NameLaws.{name_is}
use Rattle.rx_history.proofs.Client.{fresh-call}
use Rattle.rx_history.proofs.Conns.{Conns}
use Rattle.rx_history.proofs.Fit.FitCall.{CallFits}
use Rattle.rx_history.proofs.Order.Orderly.{Orderly}
use Rattle.rx_history.proofs.ServerStands.{running-at}

-- the latest call of a channel has a number
abbrev pub HasLatest : Looks → CallName → Type 0
HasLatest l c = 1 ≤ number_of (conn_at l (connection_of c)) c.chan

-- the numbers of an event fit, and a call that is ended with a code is its channel's latest
abbrev pub EventFits : Setup → Looks → Event → Type 0
EventFits s l (events.Linked to service first (Ok cid)) = (cid % 4 ≡ 0) × (cid + 4 ≤ 2 ^ 32)
EventFits s l (events.Called cid (Ok c)) = 1 ≤ c.number
EventFits s l (events.Wrote c offered got bytes) = IsBytes bytes
EventFits s l (events.Finished c code (Ok done)) = IsCode code × HasLatest l c
EventFits s l (events.Cancelled c code (Ok done)) = IsCode code × HasLatest l c
EventFits s l (events.Taken from bytes got) = IsBytes bytes × (got ≡ took_of s l from bytes)
EventFits s l _ = Unit {0}

live-some : (q : Option CallRecord) → is_call (λ k. is_live k.life) q ≡ true → (k : CallRecord) × (q ≡ Some k)
live-some None is = absurd cc
live-some (Some k) is = (k, refl)

-- a call that lives is its channel's latest
lives-latest : (s : Setup) (l : Looks) (c : CallName) → Orderly s l → CallsFit l.calls
    → is_call (λ k. is_live k.life) (call_at l c) ≡ true
    → HasLatest l c
lives-latest s l c o calls lives =
    let top = (o.latest c lives).number in
    let k = live-some (call_at l c) lives in
    let name : k.0.name ≡ c = name_is k.0.name c (find_passes (λ j. same_name j.name c) l.calls k.0 k.1) in
    let fits : FitsCall k.0 = subst CallFits k.1 (calls c) in
    let some = subst (λ (n : CallName). 1 ≤ n.number) name fits.number in
    omega arith

module _ (s : Setup) (l : Looks) (fits : FitsSetup s) (conns : Conns s l) (o : Orderly s l)
    (calls : CallsFit l.calls) where
  finished-latest : (c : CallName) (code : ℤ) (done : Unit {0})
      → ◌≡◌ {A = Result (Unit {0}) ServeRefused} (Ok done) (served_finish (call_at l c) code)
      → HasLatest l c
  finished-latest c code done is = lives-latest s l c o calls (of (call_at l c) is)
    where
      of : (q : Option CallRecord) → ◌≡◌ {A = Result (Unit {0}) ServeRefused} (Ok done) (served_finish q code)
          → is_call (λ k. is_live k.life) q ≡ true
      of None is = absurd cc
      of (Some k) is = ap is_live (running-at k.life (k.looks.received.ended || not (is_zero code)) done is).0

  cancelled-latest : (c : CallName) (done : Unit {0})
      → ◌≡◌ {A = Result (Unit {0}) NotOpen} (Ok done) (done_where (is_call (λ k. is_live k.life) (own_call l c)))
      → HasLatest l c
  cancelled-latest c done is = lives-latest s l c o calls (own ((channel_at l (channel_of c)).number == c.number) is)
    where
      done-is : (b : Bool) → ◌≡◌ {A = Result (Unit {0}) NotOpen} (Ok done) (done_where b) → b ≡ true
      done-is true is = refl
      done-is false is = absurd cc

      own : (b : Bool) → ◌≡◌ {A = Result (Unit {0}) NotOpen} (Ok done)
          (done_where (is_call (λ k. is_live k.life) (if b then call_at l c else None)))
          → is_call (λ k. is_live k.life) (call_at l c) ≡ true
      own true is = done-is (is_call (λ k. is_live k.life) (call_at l c)) is
      own false is = absurd cc

  by-kind : (kind : Kind) (e : Event) → s.kind ≡ kind → AllowedAt kind s l e → EventFits s l e
  by-kind (Client host epoch) (events.Linked to service first (Ok cid)) is allowed = cid-fits s l cid fits allowed.3
  by-kind (Client host epoch) (events.Called cid (Ok c)) is allowed =
      (let above = (fresh-call s host epoch cid l c is fits conns allowed).above in omega arith)
  by-kind (Client host epoch) (events.Wrote c offered (writers.Client got) bytes) is allowed = allowed.1
  by-kind (Client host epoch) (events.Wrote c offered (writers.Server got) bytes) is allowed = absurd allowed
  by-kind (Client host epoch) (events.Finished c code (Ok done)) is allowed = absurd allowed
  by-kind (Client host epoch) (events.Cancelled c code (Ok done)) is allowed =
      (allowed.0, cancelled-latest c done allowed.2)
  by-kind (Client host epoch) (events.Taken from bytes got) is allowed = allowed
  by-kind (Client host epoch) _ is allowed = tt
  by-kind (Server service nonces) (events.Linked to other first (Ok cid)) is allowed = absurd allowed
  by-kind (Server service nonces) (events.Called cid (Ok c)) is allowed = absurd allowed
  by-kind (Server service nonces) (events.Wrote c offered (writers.Server got) bytes) is allowed = allowed.1
  by-kind (Server service nonces) (events.Wrote c offered (writers.Client got) bytes) is allowed = absurd allowed
  by-kind (Server service nonces) (events.Finished c code (Ok done)) is allowed =
      (allowed.0, finished-latest c code done allowed.1)
  by-kind (Server service nonces) (events.Cancelled c code (Ok done)) is allowed = absurd allowed
  by-kind (Server service nonces) (events.Taken from bytes got) is allowed = allowed
  by-kind (Server service nonces) _ is allowed = tt

  -- so it is of each event that the rules allow
  pub event_fits : (e : Event) → Allowed s l e → EventFits s l e
  event_fits e allowed = by-kind s.kind e refl allowed
