-- Where the connection of a message is prepared for it, the numbers of its channels stay.
use Rattle.std.proofs.Common.{◌≡◌, ℕ, cond, if◌then◌else◌, Bool, true, false, Option}
use Rattle.std.proofs.Common.{Some, None, option_map, refl, ◌∙◌, ap, sym}
use Rattle.rx_model.specs.declared.answers.Took.{Took}
use Rattle.rx_model.specs.Names.{Channel, Connection, same_connection}
use Rattle.rx_rules.specs.After.{enters, prepared}
use Rattle.rx_rules.specs.Looks.{ConnLooks, Looks, channel_at, conn_at}
use Rattle.rx_rules.specs.Records.{entered, fresh_conn, idle_conn, is_full, placed, used, with_conn}
use Rattle.rx_rules.specs.Setup.{Setup, Kind, Server, Client}
use Rattle.rx_rules.proofs.ConnsLaws.{channel_number, conn_at-on_conn, conn_if, number_in, number_of}
use Rattle.rx_history.proofs.Openings.{number-entered, only-new, placed-new}

used_number : (x y : Connection) (l : Looks) (n : ℕ) → number_of (conn_at (used x l) y) n ≡ number_of (conn_at l y) n
used_number x y l n =
    ap (λ (o : Option ConnLooks). number_of o n) (conn_at-on_conn y x change l (λ r. refl)) ∙ of (conn_at l y)
  where
    change : ConnLooks → ConnLooks
    change r = record r { last_use = l.now }

    of : (o : Option ConnLooks) → number_of (option_map (conn_if x change) o) n ≡ number_of o n
    of None = refl
    of (Some r) = by (same_connection r.connection x)
      where
        by : (b : Bool) → number_in (cond b (change r) r).channels n ≡ number_in r.channels n
        by true = refl
        by false = refl

with_conn_number : (s : Setup) (kind : Kind) (x : Connection) (l : Looks) (n : ℕ) → conn_at l x ≡ None
    → number_of (conn_at (with_conn s kind x l) x) n ≡ 0
with_conn_number s (Server service nonces) x l n none =
    only-new x (fresh_conn x x.host service 1 l) _ n refl
    (placed-new x (fresh_conn x x.host service 1 l) (if is_full s l then idle_conn l else None) l none)
with_conn_number s (Client host epoch) x l n none = ap (λ (o : Option ConnLooks). number_of o n) none

-- the number of a channel of the connection
pub prepared_number : (s : Setup) (got : Took) (l : Looks) (ch : Channel)
    → (channel_at (prepared s got ch.connection l) ch).number ≡ (channel_at l ch).number
prepared_number s got l ch =
    channel_number (prepared s got ch.connection l) ch
    ∙ used_number ch.connection ch.connection (if enters got then entered s ch.connection l else l) ch.chan
    ∙ of (enters got) ∙ sym (channel_number l ch)
  where
    of : (b : Bool) → number_of (conn_at (if b then entered s ch.connection l else l) ch.connection) ch.chan
        ≡ number_of (conn_at l ch.connection) ch.chan
    of true = number-entered s ch.connection l ch.chan
    of false = refl
