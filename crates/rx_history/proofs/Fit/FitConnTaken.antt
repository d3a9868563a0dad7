-- A datagram that is taken leaves the numbers of connections, and all that their channels owe, within their fields.
use Rattle.std.proofs.Common.{◌≤◌}
use Rattle.std.proofs.Common.{◌≡◌, ◌==◌, ◌<◌, ◌^◌, nat_lt}
use Rattle.std.proofs.Common.{Bool, true, false, Option, Some, None, refl, arith}
use Rattle.rx_model.specs.declared.answers.Took.{Took}
use Rattle.rx_model.specs.declared.answers.Took.TheVariants as tooks
use Rattle.rx_model.specs.declared.names.CallName.{CallName}
use Rattle.rx_model.specs.declared.wire.TheConstants.{RX_CALL_DEAD, RX_PROTOCOL_ERROR}
use Rattle.rx_model.specs.Body.{Body}
use Rattle.rx_model.specs.Body as bodies
use Rattle.rx_model.specs.Message.{Message}
use Rattle.rx_model.specs.Names.{channel_of, connection_of}
use Rattle.rx_rules.specs.After.{owing_abort, owing_again, owing_busy}
use Rattle.rx_rules.specs.After.{settled, stopped_all, taken_at, taken_data, taken_heard, taken_over, taken_stopped}
use Rattle.rx_rules.specs.After.{taken_with, with_first}
use Rattle.rx_rules.specs.Judging.{opened}
use Rattle.rx_rules.specs.Life.{Life, after_code, after_later}
use Rattle.rx_rules.specs.Life as lives
use Rattle.rx_rules.specs.Looks.{CallRecord, Looks, call_at, channel_at, conn_at, latest_name}
use Rattle.rx_rules.specs.Looks.{on_call, on_channel, on_life}
use Rattle.rx_rules.specs.Records.{started_later}
use Rattle.rx_rules.specs.Setup.{Setup, FitsSetup}
use Rattle.rx_rules.proofs.ConnsLaws.{number_of}
use Rattle.rx_history.proofs.Differ.{Differ, by_connection}
use Rattle.rx_history.proofs.Fit.FitCall.{CallFits}
use Rattle.rx_history.proofs.Fit.FitChannels.{ConnsFit, abort_fits, again_fits}
use Rattle.rx_history.proofs.Fit.FitConns.{conns_on_conn, conns_on_channel, conns_numbered, if_conns, conns_challenged}
use Rattle.rx_history.proofs.Fit.FitConns.{conns_started}

conns-opened : (s : Setup) (d : CallName) (l : Looks) → ConnsFit s l → ConnsFit s (opened s d l)
conns-opened s d l all =
    if_conns s (nat_lt (channel_at l (channel_of d)).number d.number) (started_later s d l) l
    (conns_started s lives.Waiting d (on_life (latest_name l (channel_of d)) after_later l) all) all

conns-data : (s : Setup) (got : Took) (d : CallName) (m : Message) (l : Looks) → ConnsFit s l
    → ConnsFit s (taken_data s got d m l)
conns-data s got d m l all = conns_challenged s d
    (record (taken_at s got d m l) { firsts = with_first got d m.seq l.firsts }) all

conns-heard : (s : Setup) (d : CallName) (body : Body) (l : Looks) → FitsSetup s → ConnsFit s l
    → ConnsFit s (taken_heard s d body l)
conns-heard s d (bodies.Ack a) l fits all = conns_challenged s d (on_call d settled l) all
conns-heard s d bodies.AckAll l fits all = all
conns-heard s d (bodies.Response bytes) l fits all =
    conns_on_conn s (connection_of d) (λ r. record r { proved = true }) l
    (λ r f. record { name = f.name; own = f.own; channels = f.channels }) all
conns-heard s d (bodies.Challenge bytes) l fits all =
    conns_on_channel s (channel_of d) (λ q. record q { owed_response = s.class.respond d bytes }) l
    (λ q f. record { abort = f.abort; busy = f.busy; response = fits.class.respond d bytes; numbered = f.numbered }) all
conns-heard s d _ l fits all = all

-- the answers that make a channel owe an ABORT
abbrev pub may_abort : Took → Body → Bool
may_abort tooks.Stopped (bodies.Response bytes) = true
may_abort tooks.Over body = true
may_abort _ body = false

-- its connection stands alone, and it has a call
pub record Abortable (l : Looks) (d : CallName) : Type 0 where
  pub differ : Differ by_connection l.conns
  pub some : 1 ≤ number_of (conn_at l (connection_of d)) d.chan

conns-stopped : (s : Setup) (d : CallName) (body : Body) (l : Looks)
    → (may_abort tooks.Stopped body ≡ true → Abortable l d) → ConnsFit s l
    → ConnsFit s (taken_stopped d body l)
conns-stopped s d (bodies.Abort code) l may all =
    if_conns s (d.number == 0) (stopped_all (connection_of d) code l) (on_life d (after_code code) l) all all
conns-stopped s d (bodies.Response bytes) l may all =
    let a = may refl in
    conns_numbered s (channel_of d) (owing_abort (Some RX_PROTOCOL_ERROR))
    (on_life d (after_code RX_PROTOCOL_ERROR) l) a.differ a.some
    (λ q some f. abort_fits (Some RX_PROTOCOL_ERROR) q some (omega arith) f) all
conns-stopped s d _ l may all = all

conns-over : (s : Setup) (d : CallName) (body : Body) (o : Option CallRecord) (l : Looks) → Abortable l d
    → CallFits o → ConnsFit s l
    → ConnsFit s (taken_over d body o l)
conns-over s d body None l a call all = all
conns-over s d body (Some k) l a call all =
    conns_numbered s (channel_of d) (owing_again body k.life) l a.differ a.some
    (λ q some f. again_fits body k.life q some call.life f) all

conns-busy : (s : Setup) (d : CallName) (l : Looks) → d.number < 2 ^ 32 → ConnsFit s l
    → ConnsFit s (on_channel (channel_of d) (owing_busy d.number) l)
conns-busy s d l low all =
    conns_on_channel s (channel_of d) (owing_busy d.number) l
    (λ q f. record { abort = f.abort; busy = low; response = f.response; numbered = f.numbered }) all

-- behind the rows in front, by the answer
pub conns_with : (s : Setup) (got : Took) (d : CallName) (m : Message) (l : Looks) → FitsSetup s → d.number < 2 ^ 32
    → CallFits (call_at l d)
    → (may_abort got m.body ≡ true → Abortable l d) → ConnsFit s l → ConnsFit s (taken_with s got d m l)
conns_with s tooks.Kept d m l fits low call may all = conns-data s tooks.Kept d m (opened s d l)
    (conns-opened s d l all)
conns_with s tooks.NoSlot d m l fits low call may all = conns-data s tooks.NoSlot d m (opened s d l)
    (conns-opened s d l all)
conns_with s tooks.Repeat d m l fits low call may all = conns-data s tooks.Repeat d m l all
conns_with s tooks.Beyond d m l fits low call may all = conns-data s tooks.Beyond d m l all
conns_with s tooks.Clash d m l fits low call may all = conns-data s tooks.Clash d m l all
conns_with s tooks.Heard d m l fits low call may all = conns-heard s d m.body (taken_at s tooks.Heard d m l) fits all
conns_with s tooks.Stopped d m l fits low call may all = conns-stopped s d m.body l may all
conns_with s tooks.Busy d m l fits low call may all = conns-busy s d
    (on_life (latest_name l (channel_of d)) (after_code RX_CALL_DEAD) l) low all
conns_with s tooks.NoRoom d m l fits low call may all = conns-busy s d l low all
conns_with s tooks.Over d m l fits low call may all = conns-over s d m.body (call_at l d) l (may refl) call all
conns_with s _ d m l fits low call may all = all
