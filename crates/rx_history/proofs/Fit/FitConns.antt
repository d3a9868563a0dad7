-- The numbers of each connection of a node, and all that its channels owe, fit: what changes of them leave.
use Rattle.rx_history.proofs.Conns.{FitsConnection}
use Rattle.std.proofs.Common.{◌≤◌, map}
use Rattle.std.proofs.Common.{◌≡◌, ◌&&◌, ℕ, suc, zero, cond, if◌then◌else◌, not, is_some}
use Rattle.std.proofs.Common.{Bool, true, false, List, [], ◌∷◌, Option, Some, None, refl, sym, subst}
use Rattle.rx_model.specs.declared.answers.Took.{Took}
use Rattle.rx_model.specs.declared.names.CallName.{CallName}
use Rattle.rx_model.specs.declared.names.Host.{Host}
use Rattle.rx_model.specs.Names.{Connection, Channel, channel_of, connection_of, same_connection}
use Rattle.rx_rules.specs.After.{challenged, counted, enters, prepared}
use Rattle.rx_rules.specs.Life.{Life}
use Rattle.rx_rules.specs.Looks.{ChannelLooks, ConnLooks, Looks, changed_at, conn_at, fresh_channel, is_proved}
use Rattle.rx_rules.specs.Looks.{on_channel, on_conn}
use Rattle.rx_rules.specs.Records.{entered, fresh_conn, idle_conn, is_full, placed, started, with_conn}
use Rattle.rx_rules.specs.Setup.{Setup, Kind, Server, Client, is_client}
use Rattle.rx_rules.proofs.EveryLaws.{Every, every-append}
use Rattle.std.specs.List.{find}
use Rattle.rx_rules.proofs.ConnsLaws.{conn_if, number_in, number_of}
use Rattle.rx_model.proofs.NameLaws.{connection_is}
use Rattle.rx_history.proofs.Differ.{Differ, by_connection, every_map, none_change}
use Rattle.rx_history.proofs.Fit.FitChannels.{ConnsFit, FitsChannel, FitsConn, OwnConn, fresh_channel_fits}

-- ---- changes of a connection and of a channel

if-conn : (s : Setup) (b : Bool) (f : ConnLooks → ConnLooks) (r : ConnLooks) → (FitsConn s r → FitsConn s (f r))
    → FitsConn s r
    → FitsConn s (cond b (f r) r)
if-conn s true f r keeps fits = keeps fits
if-conn s false f r keeps fits = fits

-- a connection changes
pub conns_on_conn : (s : Setup) (x : Connection) (f : ConnLooks → ConnLooks) (l : Looks)
    → ((r : ConnLooks) → FitsConn s r → FitsConn s (f r))
    → ConnsFit s l → ConnsFit s (on_conn x f l)
conns_on_conn s x f l keeps all =
    every_map (FitsConn s) (FitsConn s) (λ r. if same_connection r.connection x then f r else r) l.conns
    (λ r fits. if-conn s (same_connection r.connection x) f r (keeps r) fits) all

channels-changed : (n : ℕ) (f : ChannelLooks → ChannelLooks) (qs : List ChannelLooks)
    → ((q : ChannelLooks) → FitsChannel q → FitsChannel (f q))
    → Every FitsChannel qs → Every FitsChannel (changed_at n f qs)
channels-changed n f [] keeps all = tt
channels-changed zero f (q ∷ qs) keeps all = (keeps q all.0, all.1)
channels-changed (suc n) f (q ∷ qs) keeps all = (all.0, channels-changed n f qs keeps all.1)

-- what a channel owes changes
pub conns_on_channel : (s : Setup) (ch : Channel) (f : ChannelLooks → ChannelLooks) (l : Looks)
    → ((q : ChannelLooks) → FitsChannel q → FitsChannel (f q)) → ConnsFit s l → ConnsFit s (on_channel ch f l)
conns_on_channel s ch f l keeps all =
    conns_on_conn s ch.connection (λ r. record r { channels = changed_at ch.chan f r.channels }) l
    (λ r fits. record {
      name = fits.name;
      own = fits.own;
      channels = channels-changed ch.chan f r.channels keeps
          fits.channels;
    }) all

-- where no two have one name, and the channel has a call
channel-numbered : (n : ℕ) (f : ChannelLooks → ChannelLooks) (qs : List ChannelLooks)
    → ((q : ChannelLooks) → 1 ≤ q.number → FitsChannel q → FitsChannel (f q))
    → 1 ≤ number_in qs n → Every FitsChannel qs → Every FitsChannel (changed_at n f qs)
channel-numbered n f [] keeps some all = tt
channel-numbered zero f (q ∷ qs) keeps some all = (keeps q some all.0, all.1)
channel-numbered (suc n) f (q ∷ qs) keeps some all = (all.0, channel-numbered n f qs keeps some all.1)

one-conn : (s : Setup) (x : Connection) (f : ConnLooks → ConnLooks) (rs : List ConnLooks) → Differ by_connection rs
    → ((r : ConnLooks) → find (λ q. same_connection q.connection x) rs ≡ Some r → FitsConn s r → FitsConn s (f r))
    → Every (FitsConn s) rs → Every (FitsConn s) (map (conn_if x f) rs)
one-conn s x f [] differ keeps all = tt
one-conn s x f (r ∷ rs) differ keeps all =
    (elim (same_connection r.connection x) as (λ b. same_connection r.connection x ≡ b
    → ((j : ConnLooks) → cond b (Some r) (find (λ q. same_connection q.connection x) rs) ≡ Some j → FitsConn s j
    → FitsConn s (f j))
    → FitsConn s (cond b (f r) r) × Every (FitsConn s) (map (conn_if x f) rs)) [
      | true ↦ λ own keeps. (
        keeps r refl all.0,
        subst (λ (qs : List ConnLooks). Every (FitsConn s) qs)
            (sym (none_change (λ q. same_connection q.connection x) f rs
            (subst (λ (y : Connection). Every (λ (q : ConnLooks). same_connection q.connection y ≡ false) rs)
            (connection_is r.connection x own) differ.0))) all.1,
      )
      | false ↦ λ other keeps. (all.0, one-conn s x f rs differ.1 keeps all.1)
    ]) refl keeps

-- what it owes changes as only that of a channel with a call may
pub conns_numbered : (s : Setup) (ch : Channel) (f : ChannelLooks → ChannelLooks) (l : Looks)
    → Differ by_connection l.conns
    → 1 ≤ number_of (conn_at l ch.connection) ch.chan
    → ((q : ChannelLooks) → 1 ≤ q.number → FitsChannel q → FitsChannel (f q))
    → ConnsFit s l → ConnsFit s (on_channel ch f l)
conns_numbered s ch f l differ some keeps all =
    one-conn s ch.connection (λ r. record r { channels = changed_at ch.chan f r.channels }) l.conns differ
    (λ r there fits. record {
      name = fits.name;
      own = fits.own;
      channels =
          channel-numbered ch.chan f r.channels keeps
          (subst (λ (o : Option ConnLooks). 1 ≤ number_of o ch.chan) there some) fits.channels;
    }) all

-- one or the other
pub if_conns : (s : Setup) (b : Bool) (m l : Looks) → ConnsFit s m → ConnsFit s l → ConnsFit s (if b then m else l)
if_conns s true m l here there = here
if_conns s false m l here there = there

-- a datagram more was given
pub conns_counted : (s : Setup) (x : Connection) (l : Looks) → ConnsFit s l → ConnsFit s (counted x l)
conns_counted s x l all =
    conns_on_conn s x (λ r. record r { given = suc r.given; last_use = l.now }) l
    (λ r fits. record { name = fits.name; own = fits.own; channels = fits.channels }) all

-- a CHALLENGE is owed
pub conns_challenged : (s : Setup) (d : CallName) (l : Looks) → ConnsFit s l → ConnsFit s (challenged s d l)
conns_challenged s d l all =
    if_conns s (not (is_client s.kind) && (s.class.challenges && not (is_proved l (connection_of d))))
    (on_channel (channel_of d) (λ q. record q { owed_challenge = true }) l) l
    (conns_on_channel s (channel_of d) (λ q. record q { owed_challenge = true }) l
    (λ q f. record { abort = f.abort; busy = f.busy; response = f.response; numbered = f.numbered }) all) all

-- a call starts
pub conns_started : (s : Setup) (life : Life) (d : CallName) (l : Looks) → ConnsFit s l
    → ConnsFit s (started s life d l)
conns_started s life d l all =
    conns_on_channel s (channel_of d) (λ q. fresh_channel d.number) l (λ q f. fresh_channel_fits d.number) all

-- ---- entering

-- a connection that is entered
pub fresh_conn_fits : (s : Setup) (x : Connection) (peer : Host) (service first : ℕ) (l : Looks) → FitsConnection x
    → OwnConn s.kind x
    → FitsConn s (fresh_conn x peer service first l)
fresh_conn_fits s x peer service first l name own =
    record {
      name = name;
      own = own;
      channels = (fresh_channel_fits 0, (fresh_channel_fits 0, (fresh_channel_fits 0, (fresh_channel_fits 0, tt))));
    }

-- it stands in its place
pub conns_placed : (s : Setup) (new : ConnLooks) (o : Option ConnLooks) (l : Looks) → FitsConn s new → ConnsFit s l
    → ConnsFit s (placed new o l)
conns_placed s new None l fits all = every-append (FitsConn s) l.conns (new ∷ []) all (fits, tt)
conns_placed s new (Some old) l fits all =
    every_map (FitsConn s) (FitsConn s) (λ r. if same_connection r.connection old.connection then new else r) l.conns
    (λ r own. if-conn s (same_connection r.connection old.connection) (λ q. new) r (λ y. fits) own) all

conns-with_conn : (s : Setup) (kind : Kind) (x : Connection) (l : Looks) → s.kind ≡ kind → FitsConnection x
    → ConnsFit s l
    → ConnsFit s (with_conn s kind x l)
conns-with_conn s (Client host epoch) x l is name all = all
conns-with_conn s (Server service nonces) x l is name all =
    conns_placed s (fresh_conn x x.host service 1 l) (if is_full s l then idle_conn l else None) l
    (fresh_conn_fits s x x.host service 1 l name (subst (λ (k : Kind). OwnConn k x) (sym is) tt)) all

-- the connection of a message is entered and used
pub conns_prepared : (s : Setup) (got : Took) (x : Connection) (l : Looks) → FitsConnection x → ConnsFit s l
    → ConnsFit s (prepared s got x l)
conns_prepared s got x l name all =
    let ready : Looks = if enters got then entered s x l else l in
    conns_on_conn s x (λ r. record r { last_use = ready.now }) ready
    (λ r fits. record { name = fits.name; own = fits.own; channels = fits.channels })
    (if_conns s (enters got) (entered s x l) l
    (if_conns s (is_some (conn_at l x)) l (with_conn s s.kind x l) all
    (conns-with_conn s s.kind x l refl name all)) all)
