-- Each event leaves the numbers of connections, and all that their channels owe, within their fields.
use Rattle.rx_history.proofs.Conns.{FitsConnection}
use Rattle.std.proofs.Common.{Bool, true, false}
use Rattle.rx_rules.specs.After.{finished}
use Rattle.std.proofs.Common.{◌≡◌, ◌&&◌, ◌%◌, ◌+◌, ◌≤◌, ◌^◌, ℕ, ℤ, false, List, drop}
use Rattle.std.proofs.Common.{Option, Some, None, Result, Ok, Err, refl, sym, subst, arith}
use Rattle.rx_model.specs.declared.answers.BadMsg.{BadMsg}
use Rattle.rx_model.specs.declared.answers.ServeRefused.TheVariants as refusals
use Rattle.rx_model.specs.declared.answers.Took.{Took}
use Rattle.rx_model.specs.declared.answers.Took.TheVariants as tooks
use Rattle.rx_model.specs.declared.event.Event.{Event}
use Rattle.rx_model.specs.declared.event.Event.TheVariants as events
use Rattle.rx_model.specs.declared.names.CallName.{CallName}
use Rattle.rx_model.specs.declared.names.Host.{Host}
use Rattle.rx_model.specs.Body.{Body}
use Rattle.rx_model.specs.Body as bodies
use Rattle.rx_model.specs.Message.{Message}
use Rattle.rx_model.specs.Names.{channel_of, connection_of}
use Rattle.rx_model.specs.Reading.{reading_of}
use Rattle.rx_model.specs.Spelling.{IsCode}
use Rattle.rx_model.specs.Strays.{is_stray}
use Rattle.rx_rules.specs.After.{after, counted, given_body, given_by, given_message, is_end, is_zero, linked}
use Rattle.rx_rules.specs.After.{owing_abort, owing_ackall, prepared, taken_behind, taken_message, taken_unserved}
use Rattle.rx_rules.specs.After.{turned_away}
use Rattle.rx_rules.specs.CallLooks.{after_shut}
use Rattle.rx_rules.specs.Judging.{outer_row}
use Rattle.rx_rules.specs.Life.{after_cancel, is_calling}
use Rattle.rx_rules.specs.Life as lives
use Rattle.rx_rules.specs.Looks.{Looks, call_at, is_call, on_channel, on_life, on_looks}
use Rattle.rx_rules.specs.Records.{fresh_conn, silenced}
use Rattle.rx_rules.specs.Setup.{Setup, Kind, Server, Client, FitsKind, FitsSetup, named}
use Rattle.rx_history.proofs.Events.{call-by, calls-prepared}
use Rattle.rx_history.proofs.Fit.FitCall.{CallFits, CallsFit}
use Rattle.rx_history.proofs.Fit.FitTaken.{Came, read_came}
use Rattle.rx_history.proofs.Fit.FitChannels.{ConnsFit, OwnConn, abort_fits, ackall_fits}
use Rattle.rx_history.proofs.Fit.FitConns.{conns_counted, conns_on_channel, conns_placed, conns_prepared, conns_started}
use Rattle.rx_history.proofs.Fit.FitConns.{fresh_conn_fits, if_conns}
use Rattle.rx_history.proofs.Fit.FitConnTaken.{conns_with}
use Rattle.std.proofs.Common.{if◌then◌else◌, ap, ◌∙◌, arith}
use Rattle.rx_model.specs.Names.{Connection}
use Rattle.rx_rules.specs.After.{enters}
use Rattle.rx_rules.specs.Judging.{else_row, took_named, took_reading}
use Rattle.rx_rules.specs.Looks.{channel_at, conn_at}
use Rattle.rx_rules.specs.Records.{entered, used}
use Rattle.rx_rules.proofs.ConnsLaws.{channel_number, number_of}
use Rattle.rx_history.proofs.Differ.{Differ, by_connection}
use Rattle.rx_history.proofs.Dimensions.DimsTaken.{used_dims}
use Rattle.rx_history.proofs.EventFacts.{EventFits, HasLatest}
use Rattle.rx_history.proofs.Fit.FitConns.{conns_numbered}
use Rattle.rx_history.proofs.Fit.FitConnTaken.{Abortable, may_abort}
use Rattle.rx_history.proofs.Openings.{channel_prepared}
use Rattle.rx_history.proofs.Order.Orderly.{Orderly, orderly_dims}
use Rattle.rx_history.proofs.Rows.RowsAborting.{abort_numbered}

came-conn : (s : Setup) (from : Host) (m : Message) → Came m → FitsConnection (connection_of (named s from m))
came-conn s from m came =
    let epoch = came.header.epoch in
    let cid = came.header.cid in
    (came.header.epoch, omega arith, omega arith)

conns-turned : (s : Setup) (row : Took) (from : Host) (m : Message) (l : Looks) → ConnsFit s l
    → ConnsFit s (turned_away row from m l)
conns-turned s tooks.Unserved from m l all = of m.body
  where
    of : (body : Body) → ConnsFit s (taken_unserved from m body l)
    of (bodies.Chunk payload) = all
    of _ = all
conns-turned s _ from m l all = all

-- where an answer makes a channel owe an ABORT no connection is entered
stays-out : (got : Took) (body : Body) → may_abort got body ≡ true → enters got ≡ false
stays-out tooks.Stopped body may = refl
stays-out tooks.Over body may = refl
stays-out _ body may = absurd cc

abortable : (s : Setup) (d : CallName) (m : Message) (got : Took) (l : Looks) → m.number ≡ d.number
    → took_named s l d m ≡ got → Orderly s l
    → may_abort got m.body ≡ true → Abortable (prepared s got (connection_of d) l) d
abortable s d m got l number is o may =
    let x : Connection = connection_of d in
    let out = stays-out got m.body may in
    let some = abort_numbered s l d m got number is may in
    let same : number_of (conn_at (prepared s got x l) x) d.chan ≡ (channel_at l (channel_of d)).number =
    sym (channel_number (prepared s got x l) (channel_of d)) ∙ channel_prepared s got d l in
    record {
      differ =
          subst (λ (b : Bool). Differ by_connection (used x (if b then entered s x l else l)).conns) (sym out)
          (orderly_dims s l (used x l) (used_dims x l) o).conns.differ;
      some = omega arith;
    }

conns-behind : (s : Setup) (row : Option Took) (from : Host) (m : Message) (got : Took) (l : Looks) → FitsSetup s
    → (row ≡ None → took_named s l (named s from m) m ≡ got) → Came m → Orderly s l → CallsFit l.calls
    → ConnsFit s l → ConnsFit s (taken_behind s row from (named s from m) m got l)
conns-behind s (Some row) from m got l fits is came o calls all = conns-turned s row from m l all
conns-behind s None from m got l fits is came o calls all =
    let d : CallName = named s from m in
    let ready : Looks = prepared s got (connection_of d) l in
    conns_with s got d m ready fits came.header.number
    (subst CallFits (sym (call-by d l ready (calls-prepared s got (connection_of d) l))) (calls d))
    (abortable s d m got l refl (is refl) o)
    (conns_prepared s got (connection_of d) l (came-conn s from m came) all)

conns-message : (s : Setup) (from : Host) (reading : Result Message BadMsg) (got : Took) (l : Looks) → FitsSetup s
    → got ≡ took_reading s l from reading → ((m : Message) → reading ≡ Ok m → Came m) → Orderly s l
    → CallsFit l.calls → ConnsFit s l
    → ConnsFit s (taken_message s from reading got l)
conns-message s from (Err bad) got l fits is came o calls all = all
conns-message s from (Ok m) got l fits is came o calls all =
    conns-behind s (outer_row s s.kind l from m) from m got l fits
    (λ none. sym (is ∙ ap (λ (q : Option Took). else_row q (took_named s l (named s from m) m)) none))
    (came m refl) o calls all

conns-body : (s : Setup) (d : CallName) (m : Message) (body : Body) (l : Looks) → ConnsFit s l
    → ConnsFit s (given_body d m body l)
conns-body s d m (bodies.Chunk payload) l all = all
conns-body s d m (bodies.Ack a) l all = all
conns-body s d m (bodies.Abort code) l all =
    conns_on_channel s (channel_of d) (λ q. record q { owed_abort = None }) l
    (λ q f. record { abort = tt; busy = f.busy; response = f.response; numbered = tt }) all
conns-body s d m bodies.Busy l all =
    conns_on_channel s (channel_of d) (λ q. record q { owed_busy = None }) l
    (λ q f. record { abort = f.abort; busy = tt; response = f.response; numbered = f.numbered }) all
conns-body s d m (bodies.Challenge bytes) l all =
    conns_on_channel s (channel_of d) (λ q. record q { owed_challenge = false }) l
    (λ q f. record { abort = f.abort; busy = f.busy; response = f.response; numbered = f.numbered }) all
conns-body s d m (bodies.Response bytes) l all =
    conns_on_channel s (channel_of d) (λ q. record q { owed_response = None }) l
    (λ q f. record { abort = f.abort; busy = f.busy; response = tt; numbered = f.numbered }) all
conns-body s d m bodies.AckAll l all =
    conns_on_channel s (channel_of d) (λ q. record q { owed_ackall = false }) l
    (λ q f. record { abort = f.abort; busy = f.busy; response = f.response; numbered = f.numbered }) all

conns-polled : (s : Setup) (got : Option (Host × List ℕ)) (l : Looks) → ConnsFit s l → ConnsFit s (given_by s got l)
conns-polled s None l all = all
conns-polled s (Some (to, bytes)) l all = of (reading_of bytes)
  where
    of : (reading : Result Message BadMsg) → ConnsFit s (given_message s to reading l)
    of (Err bad) = all
    of (Ok m) =
        if_conns s (is_stray m m.body) (record l { strays = drop 1 l.strays })
        (given_body (named s to m) m m.body (counted (connection_of (named s to m)) l)) all
        (conns-body s (named s to m) m m.body (counted (connection_of (named s to m)) l)
        (conns_counted s (connection_of (named s to m)) l all))

conns-aborting : (s : Setup) (d : CallName) (code : ℤ) (l : Looks) → IsCode code → HasLatest l d
    → Differ by_connection l.conns → ConnsFit s l
    → ConnsFit s (on_channel (channel_of d) (owing_abort (Some code)) l)
conns-aborting s d code l is some differ all =
    conns_numbered s (channel_of d) (owing_abort (Some code)) l differ some
    (λ q some f. abort_fits (Some code) q some is f) all

conns-done : (s : Setup) (d : CallName) (code : ℤ) (l : Looks) → IsCode code → HasLatest l d
    → Differ by_connection l.conns → ConnsFit s l
    → ConnsFit s (finished d code l)
conns-done s d code l is some differ all =
    if_conns s (is_zero code) (on_looks d after_shut l) (on_channel (channel_of d) (owing_abort (Some code)) l) all
    (conns-aborting s d code l is some differ all)

conns-linked : (s : Setup) (kind : Kind) (to : Host) (service first cid : ℕ) (l : Looks) → s.kind ≡ kind
    → FitsKind kind → cid % 4 ≡ 0
    → cid + 4 ≤ 2 ^ 32 → ConnsFit s l → ConnsFit s (linked kind to service first cid l)
conns-linked s (Server service nonces) to other first cid l is fits whole top all = all
conns-linked s (Client host epoch) to service first cid l is fits whole top all =
    conns_placed s (fresh_conn (record { host = host; epoch = epoch; cid = cid }) to service first l) None l
    (fresh_conn_fits s (record { host = host; epoch = epoch; cid = cid }) to service first l
    (fits, whole, top)
    (subst (λ (k : Kind). OwnConn k (record { host = host; epoch = epoch; cid = cid })) (sym is) (refl, refl))) all

-- each event leaves them so
pub conns_after : (s : Setup) (l : Looks) (e : Event) → FitsSetup s → EventFits s l e → Orderly s l
    → CallsFit l.calls → ConnsFit s l
    → ConnsFit s (after s e l)
conns_after s l (events.Linked to service first (Ok cid)) fits is o calls all =
    conns-linked s s.kind to service first cid l refl fits.kind is.0 is.1 all
conns_after s l (events.Linked to service first (Err full)) fits is o calls all = all
conns_after s l (events.Called cid (Ok c)) fits is o calls all = conns_started s lives.Calling c l all
conns_after s l (events.Called cid (Err refused)) fits is o calls all = all
conns_after s l (events.Wrote c offered got bytes) fits is o calls all = all
conns_after s l (events.Shut c (Ok done)) fits is o calls all = all
conns_after s l (events.Shut c (Err closed)) fits is o calls all = all
conns_after s l (events.HasRead c max got bytes) fits is o calls all =
    conns_on_channel s (channel_of c) (owing_ackall (is_end got && is_call (λ k. is_calling k.life) (call_at l c))) l
    (ackall_fits (is_end got && is_call (λ k. is_calling k.life) (call_at l c))) all
conns_after s l (events.Ended c got) fits is o calls all = all
conns_after s l (events.Cancelled c code (Ok done)) fits is o calls all = conns-aborting s c code
    (on_life c (after_cancel code) l) is.0 is.1 o.conns.differ all
conns_after s l (events.Cancelled c code (Err closed)) fits is o calls all = all
conns_after s l (events.Accepted (Some c)) fits is o calls all = all
conns_after s l (events.Accepted None) fits is o calls all = all
conns_after s l (events.Finished c code
    (Ok done)) fits is o calls all = conns-done s c code l is.0 is.1 o.conns.differ all
conns_after s l (events.Finished c code (Err (refusals.Gone told))) fits is o calls all = all
conns_after s l (events.Finished c code (Err refusals.NotOpen)) fits is o calls all = all
conns_after s l (events.Finished c code (Err refusals.Unread)) fits is o calls all = all
conns_after s l (events.Taken from bytes got) fits is o calls all =
    conns-message s from (reading_of bytes) got l fits is.1 (λ m reads. read_came bytes m is.0 reads) o calls all
conns_after s l (events.Polled got) fits is o calls all = conns-polled s got (silenced l) all
conns_after s l (events.Clocked now) fits is o calls all = all
