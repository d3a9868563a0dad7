-- The entering and the use of a connection leave the stray aborts that are owed.
use Rattle.std.proofs.Common.{◌≡◌, if◌then◌else◌, is_some, Bool, true, false, Option, Some, None, refl}
use Rattle.rx_model.specs.declared.answers.Took.{Took}
use Rattle.rx_model.specs.Names.{Connection}
use Rattle.rx_rules.specs.After.{enters, prepared}
use Rattle.rx_rules.specs.Looks.{ConnLooks, Looks, conn_at}
use Rattle.rx_rules.specs.Records.{entered, fresh_conn, idle_conn, is_full, placed, with_conn}
use Rattle.rx_rules.specs.Setup.{Setup, Kind, Server, Client}

strays-placed : (new : ConnLooks) (o : Option ConnLooks) (l : Looks) → (placed new o l).strays ≡ l.strays
strays-placed new None l = refl
strays-placed new (Some old) l = refl

strays-with_conn : (s : Setup) (kind : Kind) (x : Connection) (l : Looks) → (with_conn s kind x l).strays ≡ l.strays
strays-with_conn s (Server service nonces) x l = strays-placed (fresh_conn x x.host service 1 l)
    (if is_full s l then idle_conn l else None) l
strays-with_conn s (Client host epoch) x l = refl

pub strays-prepared : (s : Setup) (got : Took) (x : Connection) (l : Looks) → (prepared s got x l).strays ≡ l.strays
strays-prepared s got x l = of (enters got)
  where
    entering : (b : Bool) → (if b then l else with_conn s s.kind x l).strays ≡ l.strays
    entering true = refl
    entering false = strays-with_conn s s.kind x l

    of : (b : Bool) → (if b then entered s x l else l).strays ≡ l.strays
    of true = entering (is_some (conn_at l x))
    of false = refl
