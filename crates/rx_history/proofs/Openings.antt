-- Before a packet is judged the record of its connection is entered: its channel's number and its calls stay as the row
-- found them.
use Rattle.std.proofs.Common.{◌≡◌, ℕ, cond, if◌then◌else◌, nat_lt, is_some, Bool, true, false, List, map, Option}
use Rattle.std.proofs.Common.{Some, None, option_map}
use Rattle.std.proofs.Common.{refl, ◌∙◌, ap, sym}
use Rattle.rx_model.specs.declared.answers.Took.{Took}
use Rattle.rx_model.specs.declared.names.CallName.{CallName}
use Rattle.rx_model.specs.Names.{Connection, channel_of, connection_of, same_connection}
use Rattle.rx_rules.specs.After.{enters, prepared}
use Rattle.rx_rules.specs.CallLooks.{fresh_call}
use Rattle.rx_rules.specs.Judging.{opened}
use Rattle.rx_rules.specs.Life.{after_later}
use Rattle.rx_rules.specs.Life as lives
use Rattle.rx_rules.specs.Looks.{CallRecord, ChannelLooks, ConnLooks, Looks, call_named, channel_at, conn_at}
use Rattle.rx_rules.specs.Records.{entered, fresh_conn, idle_conn, is_full, placed, started_later, used, with_call}
use Rattle.rx_rules.specs.Records.{with_conn}
use Rattle.rx_rules.specs.Setup.{Client, Kind, Server, Setup, pace_of}
use Rattle.rx_rules.proofs.CallsLaws.{changed_if}
use Rattle.rx_rules.proofs.ConnsLaws.{channel_number, conn_at-on_conn, conn_if, number_in, number_of}
use Rattle.rx_rules.proofs.EnterLaws.{fresh_channels}
use Rattle.rx_rules.proofs.FindLaws.{find-last}
use Rattle.rx_history.proofs.Events.{calls-prepared}
use Rattle.rx_history.proofs.Places.{OnlyNew, find-only, fresh-number, is_none, last-only}
use Rattle.rx_history.proofs.Moments.{now-prepared, now-with_conn}

-- ---- the number of a channel

-- a new connection has no numbers yet
pub only-new : (x : Connection) (new : ConnLooks) (o : Option ConnLooks) (n : ℕ) → new.channels ≡ fresh_channels x
    → OnlyNew new o → number_of o n ≡ 0
only-new x new None n fresh only = refl
only-new x new (Some r) n fresh only =
    ap (λ (q : ConnLooks). number_in q.channels n) only ∙ ap (λ (qs : List ChannelLooks). number_in qs n) fresh
    ∙ fresh-number x n

pub placed-new : (x : Connection) (new : ConnLooks) (o : Option ConnLooks) (l : Looks) → conn_at l x ≡ None
    → OnlyNew new (conn_at (placed new o l) x)
placed-new x new None l none =
    rw (find-last (λ r. same_connection r.connection x) l.conns new none)
    (last-only (same_connection new.connection x) new)
placed-new x new (Some old) l none = find-only (λ r. same_connection r.connection x) new old l.conns none

number-with_conn : (s : Setup) (kind : Kind) (x : Connection) (l : Looks) (n : ℕ) → conn_at l x ≡ None
    → number_of (conn_at (with_conn s kind x l) x) n ≡ number_of (conn_at l x) n
number-with_conn s (Client host epoch) x l n none = refl
number-with_conn s (Server service nonces) x l n none =
    only-new x (fresh_conn x x.host service 1 l) _ n refl
    (placed-new x (fresh_conn x x.host service 1 l) (if is_full s l then idle_conn l else None) l none)
    ∙ sym (ap (λ (o : Option ConnLooks). number_of o n) none)

pub number-entered : (s : Setup) (x : Connection) (l : Looks) (n : ℕ)
    → number_of (conn_at (entered s x l) x) n ≡ number_of (conn_at l x) n
number-entered s x l n =
    (elim (is_some (conn_at l x)) as (λ b. is_some (conn_at l x) ≡ b
    → number_of (conn_at (cond b l (with_conn s s.kind x l)) x) n ≡ number_of (conn_at l x) n) [
      | true ↦ λ known. refl
      | false ↦ λ unknown. number-with_conn s s.kind x l n (is_none (conn_at l x) unknown)
    ]) refl

number-used : (x : Connection) (l : Looks) (n : ℕ) → number_of (conn_at (used x l) x) n ≡ number_of (conn_at l x) n
number-used x l n =
    ap (λ (o : Option ConnLooks). number_of o n)
    (conn_at-on_conn x x (λ r. record r { last_use = l.now }) l (λ r. refl)) ∙ of (conn_at l x)
  where
    of : (o : Option ConnLooks)
        → number_of (option_map (conn_if x (λ r. record r { last_use = l.now })) o) n ≡ number_of o n
    of None = refl
    of (Some r) =
        (elim (same_connection r.connection x) as
        (λ b. number_in (cond b (record r { last_use = l.now }) r).channels n ≡ number_in r.channels n) [
          | true ↦ refl
          | false ↦ refl
        ])

number-prepared : (s : Setup) (got : Took) (x : Connection) (l : Looks) (n : ℕ)
    → number_of (conn_at (prepared s got x l) x) n ≡ number_of (conn_at l x) n
number-prepared s got x l n = of (enters got)
  where
    of : (b : Bool) → number_of (conn_at (used x (if b then entered s x l else l)) x) n ≡ number_of (conn_at l x) n
    of true = number-used x (entered s x l) n ∙ number-entered s x l n
    of false = number-used x l n

-- as the row found it
pub channel_prepared : (s : Setup) (got : Took) (c : CallName) (l : Looks)
    → (channel_at (prepared s got (connection_of c) l) (channel_of c)).number ≡ (channel_at l (channel_of c)).number
channel_prepared s got c l =
    channel_number (prepared s got (connection_of c) l) (channel_of c)
    ∙ number-prepared s got (connection_of c) l c.chan
    ∙ sym (channel_number l (channel_of c))

-- ---- the moment

pub now-entered : (s : Setup) (x : Connection) (l : Looks) → (entered s x l).now ≡ l.now
now-entered s x l =
    (elim (is_some (conn_at l x)) as (λ b. (cond b l (with_conn s s.kind x l)).now ≡ l.now) [
      | true ↦ refl
      | false ↦ now-with_conn s s.kind x l
    ])

-- ---- the calls

-- a call whose number is above its channel's starts in place of the earlier one
abbrev pub opened_by : Setup → CallName → ℕ → ℕ → List CallRecord → List CallRecord
opened_by s c number now ks =
    if nat_lt number c.number then
    with_call (record { name = c; life = lives.Waiting; looks = fresh_call (pace_of s) now })
    (map (changed_if (call_named (channel_of c) number) (λ k. record k { life = after_later k.life })) ks)
    else ks

-- the calls behind it
pub calls_opened : (s : Setup) (c : CallName) (l : Looks)
    → (opened s c l).calls ≡ opened_by s c (channel_at l (channel_of c)).number l.now l.calls
calls_opened s c l = of (nat_lt (channel_at l (channel_of c)).number c.number)
  where
    started : List CallRecord
    started =
        with_call (record { name = c; life = lives.Waiting; looks = fresh_call (pace_of s) l.now })
        (map (changed_if (call_named (channel_of c) (channel_at l (channel_of c)).number)
        (λ k. record k { life = after_later k.life })) l.calls)

    of : (b : Bool) → (if b then started_later s c l else l).calls ≡ (if b then started else l.calls)
    of true = refl
    of false = refl

-- the calls as the row found them
pub calls_ready : (s : Setup) (got : Took) (c : CallName) (l : Looks)
    → (opened s c (prepared s got (connection_of c) l)).calls ≡ (opened s c l).calls
calls_ready s got c l =
    let ready : Looks = prepared s got (connection_of c) l in
    let number : (channel_at ready (channel_of c)).number ≡ (channel_at l (channel_of c)).number =
    channel_prepared s got c l in
    let now : ready.now ≡ l.now = now-prepared s got (connection_of c) l in
    let calls : ready.calls ≡ l.calls = calls-prepared s got (connection_of c) l in
    calls_opened s c ready ∙ (λ i. opened_by s c (number i) (now i) (calls i)) ∙ sym (calls_opened s c l)
