-- A server's judging of a message: what it knows of a call stays, and what it knows of one that starts.
use Rattle.std.proofs.Common.{◌≡◌, ◌<◌, ℕ, zero, suc, if◌then◌else◌, nat_lt, is_some, Bool, true, false, List}
use Rattle.std.proofs.Common.{[], ◌∷◌, Option, Some, None, option_map, refl, ◌∙◌, ap, subst, inl, arith}
use Rattle.rx_model.specs.declared.answers.Took.{Took}
use Rattle.rx_model.specs.declared.answers.Took.TheVariants as tooks
use Rattle.rx_model.specs.declared.names.CallName.{CallName}
use Rattle.rx_rules.specs.After.{enters, taken_at, taken_data, taken_with}
use Rattle.rx_rules.specs.CallLooks.{after_taken}
use Rattle.rx_rules.specs.Judging.{opened}
use Rattle.rx_rules.specs.Life.{after_code, after_later}
use Rattle.rx_rules.specs.Life as lives
use Rattle.rx_rules.specs.Looks.{ChannelLooks, ConnLooks, Looks, call_at, changed_at, channel_at, conn_at}
use Rattle.rx_rules.specs.Looks.{fresh_channel, latest_name, on_life}
use Rattle.rx_model.specs.Message.{Message}
use Rattle.rx_model.specs.Names.{channel_of, connection_of, same_connection, same_name}
use Rattle.rx_rules.specs.Records.{started, started_later}
use Rattle.rx_rules.specs.Setup.{Setup}
use Rattle.rx_rules.specs.Slots.{node_view}
use Rattle.rx_rules.proofs.ConnsLaws.{channel_number, conn_if, conn_at-on_conn, number_of}
use Rattle.rx_rules.proofs.FindLaws.{find_passes}
use Rattle.rx_rules.proofs.KeepsLaws.{Keeps, keeps-on_life, keeps-on_looks, keeps-refl, keeps-trans}
use Rattle.rx_rules.proofs.LifeLaws.{later_waits}
use Rattle.rx_rules.proofs.StartLaws.{fours-start, keeps-started, number-started}
use Rattle.rx_law.proofs.Asks.{waits}
use Rattle.rx_law.proofs.Firm.{Firm, Young, busy_in, busy_of, firm-same, firm-trans}
use Rattle.rx_law.proofs.FirmAfter.{firm-data, firm-heard, firm-over, firm-started, firm-stopped}
use Rattle.rx_law.proofs.Recalls.{Recalls}
use Rattle.rx_history.proofs.Laws.TakenLaws.{keeps-data, keeps-heard, keeps-over, keeps-stopped, there-is, is-below}

-- the answers that may start a call
abbrev pub starts : Took → Bool
starts tooks.Kept = true
starts tooks.NoSlot = true
starts _ = false

-- they enter a connection
pub starts-enters : (got : Took) → starts got ≡ true → enters got ≡ true
starts-enters tooks.Kept is = refl
starts-enters tooks.NoSlot is = refl
starts-enters _ is = absurd cc

-- and judge the packet where its call has opened
pub with-starts : (s : Setup) (got : Took) (d : CallName) (m : Message) (l : Looks) → starts got ≡ true
    → taken_with s got d m l ≡ taken_data s got d m (opened s d l)
with-starts s tooks.Kept d m l is = refl
with-starts s tooks.NoSlot d m l is = refl
with-starts s _ d m l is = absurd cc

-- ---- another call starts

keeps-later : (s : Setup) (c d : CallName) (l : Looks) → same_name c d ≡ false
    → nat_lt (channel_at l (channel_of d)).number d.number ≡ true
    → Keeps c l (started_later s d l)
keeps-later s c d l other above =
    let ended : Looks = on_life (latest_name l (channel_of d)) after_later l in
    let low : number_of (conn_at l (connection_of d)) d.chan < d.number =
    subst (λ (n : ℕ). n < d.number) (channel_number l (channel_of d))
    (is-below (channel_at l (channel_of d)).number d.number above) in
    keeps-trans c l ended (started_later s d l) (keeps-on_life c
    (latest_name l (channel_of d)) after_later l later_waits)
    (keeps-started s lives.Waiting c d ended other (omega arith))

firm-later : (s : Setup) (c d : CallName) (l : Looks) → Firm c l (started_later s d l)
firm-later s c d l =
    let ended : Looks = on_life (latest_name l (channel_of d)) after_later l in
    firm-trans c l ended (started_later s d l) (firm-same c l ended refl refl) (firm-started s lives.Waiting c d ended)

keeps-opened : (s : Setup) (c d : CallName) (l : Looks) → same_name c d ≡ false → Keeps c l (opened s d l)
keeps-opened s c d l other =
    (elim (nat_lt (channel_at l (channel_of d)).number d.number)
    as (λ b. nat_lt (channel_at l (channel_of d)).number d.number ≡ b
    → Keeps c l (if b then started_later s d l else l)) [
      | true ↦ λ above. keeps-later s c d l other above
      | false ↦ λ below. keeps-refl c l
    ]) refl

firm-opened : (s : Setup) (c d : CallName) (l : Looks) → Firm c l (opened s d l)
firm-opened s c d l = of (nat_lt (channel_at l (channel_of d)).number d.number)
  where
    of : (b : Bool) → Firm c l (if b then started_later s d l else l)
    of true = firm-later s c d l
    of false = firm-same c l l refl refl

-- ---- every answer, for a call that doesn't start by it

keeps-starting : (s : Setup) (got : Took) (c d : CallName) (m : Message) (l : Looks) → same_name c d ≡ false
    → Keeps c l (taken_data s got d m (opened s d l))
keeps-starting s got c d m l other =
    keeps-trans c l (opened s d l) _ (keeps-opened s c d l other) (keeps-data s got c d m (opened s d l))

-- it is kept where another call starts, or none
pub keeps-with : (s : Setup) (got : Took) (c d : CallName) (m : Message) (l : Looks)
    → (starts got ≡ true → same_name c d ≡ false) → waits got ≡ false
    → Keeps c l (taken_with s got d m l)
keeps-with s tooks.Kept c d m l other rests = keeps-starting s tooks.Kept c d m l (other refl)
keeps-with s tooks.NoSlot c d m l other rests = keeps-starting s tooks.NoSlot c d m l (other refl)
keeps-with s tooks.Repeat c d m l other rests = keeps-data s tooks.Repeat c d m l
keeps-with s tooks.Beyond c d m l other rests = keeps-data s tooks.Beyond c d m l
keeps-with s tooks.Clash c d m l other rests = keeps-data s tooks.Clash c d m l
keeps-with s tooks.Heard c d m l other rests =
    let heard : Looks = taken_at s tooks.Heard d m l in
    keeps-trans c l heard _ (keeps-on_looks c d (after_taken (node_view s l) tooks.Heard m) l)
    (keeps-heard s c d m.body heard)
keeps-with s tooks.Stopped c d m l other rests = keeps-stopped c d m.body l
keeps-with s tooks.Busy c d m l other rests = absurd cc
keeps-with s tooks.NoRoom c d m l other rests = absurd cc
keeps-with s tooks.Over c d m l other rests = keeps-over c d m.body (call_at l d) l
keeps-with s _ c d m l other rests = keeps-refl c l

-- the records of connections are kept
pub firm-with : (s : Setup) (got : Took) (c d : CallName) (m : Message) (l : Looks) → waits got ≡ false
    → Firm c l (taken_with s got d m l)
firm-with s tooks.Kept c d m l rests =
    firm-trans c l (opened s d l) _ (firm-opened s c d l) (firm-data s tooks.Kept c d m (opened s d l))
firm-with s tooks.NoSlot c d m l rests =
    firm-trans c l (opened s d l) _ (firm-opened s c d l) (firm-data s tooks.NoSlot c d m (opened s d l))
firm-with s tooks.Repeat c d m l rests = firm-data s tooks.Repeat c d m l
firm-with s tooks.Beyond c d m l rests = firm-data s tooks.Beyond c d m l
firm-with s tooks.Clash c d m l rests = firm-data s tooks.Clash c d m l
firm-with s tooks.Heard c d m l rests =
    let heard : Looks = taken_at s tooks.Heard d m l in
    firm-trans c l heard _ (firm-same c l heard refl refl) (firm-heard s c d m.body heard)
firm-with s tooks.Stopped c d m l rests = firm-stopped c d m.body l
firm-with s tooks.Busy c d m l rests = absurd cc
firm-with s tooks.NoRoom c d m l rests = absurd cc
firm-with s tooks.Over c d m l rests = firm-over c d m.body (call_at l d) l
firm-with s _ c d m l rests = firm-same c l l refl refl

-- ---- the call itself starts

busy-fresh : (qs : List ChannelLooks) (n number : ℕ) → busy_in (changed_at n (λ q. fresh_channel number) qs) n ≡ None
busy-fresh [] n number = refl
busy-fresh (q ∷ qs) zero number = refl
busy-fresh (q ∷ qs) (suc n) number = busy-fresh qs n number

busy-started : (s : Setup) (c : CallName) (l : Looks) → busy_of
    (conn_at (started s lives.Waiting c l) (connection_of c)) c.chan ≡ None
busy-started s c l =
    ap (λ (o : Option ConnLooks). busy_of o c.chan) (conn_at-on_conn (connection_of c) (connection_of c) change l
    (λ r. refl)) ∙ of (conn_at l (connection_of c)) refl
  where
    change : ConnLooks → ConnLooks
    change r = record r { channels = changed_at c.chan (λ q. fresh_channel c.number) r.channels }

    of : (o : Option ConnLooks) → conn_at l (connection_of c) ≡ o
        → busy_of (option_map (conn_if (connection_of c) change) o) c.chan ≡ None
    of None is = refl
    of (Some r) is =
        rw (find_passes (λ q. same_connection q.connection (connection_of c)) l.conns r is)
        (busy-fresh r.channels c.chan c.number)

-- a call that starts on a connection that is there and is used now
pub recalls-started : (s : Setup) (c : CallName) (l : Looks) (u : ℕ) → is_some (conn_at l (connection_of c)) ≡ true
    → c.chan < 4
    → Young (connection_of c) l.now l.conns → Recalls l c u → Recalls (started_later s c l) c l.now
recalls-started s c l u there chan young old =
    let ended : Looks = on_life (latest_name l (channel_of c)) after_later l in
    let found = there-is (conn_at l (connection_of c)) there in
    let top = number-started s lives.Waiting c ended found.0 found.1 chan old.fours in
    record {
      before = omega arith;
      fours = fours-start s lives.Waiting c ended (connection_of c) old.fours;
      young = (firm-later s c c l).young l.now (omega arith) young;
      held = λ is. inl (omega arith);
      busy = λ n is. absurd (let none = busy-started s c ended in cc (none, is));
    }
