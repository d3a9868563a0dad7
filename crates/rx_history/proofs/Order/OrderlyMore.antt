-- A new connection in a free place, behind the others.
use Rattle.std.proofs.Common.{◌≡◌, ◌<◌, ℕ, suc, Bool, true, List, []}
use Rattle.std.proofs.Common.{◌∷◌, ◌++◌, length, Option, Some, None, refl, ◌∙◌, ap, sym, subst}
use Rattle.std.proofs.Common.{arith, length-append}
use Rattle.rx_model.specs.Names.{Connection, connection_of, same_connection}
use Rattle.rx_rules.specs.Looks.{ConnLooks, Looks, conn_at}
use Rattle.rx_rules.specs.Records.{placed}
use Rattle.rx_rules.specs.Setup.{Setup, is_client}
use Rattle.rx_model.proofs.NameLaws.{connection_sym}
use Rattle.rx_rules.proofs.ConnsLaws.{number_of}
use Rattle.rx_rules.proofs.EnterLaws.{fresh_channels}
use Rattle.rx_rules.proofs.EveryLaws.{Every, every-append}
use Rattle.rx_rules.proofs.FindLaws.{find-before, find-last, list_any-none}
use Rattle.rx_history.proofs.Differ.{by_connection, differ_more, every_other}
use Rattle.rx_history.proofs.Openings.{only-new}
use Rattle.rx_history.proofs.Order.Orderly.{AmongFirst, HasFour, Orderly, OrderlyConns}
use Rattle.rx_history.proofs.Places.{last-only}

-- a new connection in a free place
pub conns_more : (s : Setup) (new : ConnLooks) (l : Looks) → HasFour new → conn_at l new.connection ≡ None
    → length l.conns < s.limits.conns
    → (is_client s.kind ≡ true → AmongFirst (suc (length l.conns)) new) → OrderlyConns s l.conns
    → OrderlyConns s (l.conns ++ new ∷ [])
conns_more s new l four none room low o =
    let p : ConnLooks → Bool = λ r. same_connection r.connection new.connection in
    let size : length (l.conns ++ new ∷ []) ≡ suc (length l.conns) = omega (arith, length-append l.conns (new ∷ [])) in
    record {
      differ =
          differ_more by_connection l.conns new (λ a b. connection_sym a.connection b.connection)
          (every_other p l.conns (list_any-none p l.conns none)) o.differ;
      fours = every-append HasFour l.conns (new ∷ []) o.fours (four, tt);
      few = omega arith;
      low = λ client.
          subst (λ (n : ℕ). Every (AmongFirst n) (l.conns ++ new ∷ [])) (sym size)
          (every-append (AmongFirst (suc (length l.conns))) l.conns (new ∷ [])
          (higher (length l.conns) l.conns (o.low client)) (low client, tt));
    }
  where
    higher : (n : ℕ) (rs : List ConnLooks) → Every (AmongFirst n) rs → Every (AmongFirst (suc n)) rs
    higher n [] all = tt
    higher n (r ∷ rs) all = ((let low = all.0 in omega arith), higher n rs all.1)

-- it changes no channel's number
number_more : (new : ConnLooks) (l : Looks) (y : Connection) (n : ℕ) → new.channels ≡ fresh_channels new.connection
    → number_of (conn_at (placed new None l) y) n ≡ number_of (conn_at l y) n
number_more new l y n fresh = of (conn_at l y) refl
  where
    of : (q : Option ConnLooks) → conn_at l y ≡ q → number_of (conn_at (placed new None l) y) n ≡ number_of q n
    of (Some r) is = ap (λ (o : Option ConnLooks). number_of o n)
        (find-before (λ r. same_connection r.connection y) l.conns new r is)
    of None is =
        ap (λ (o : Option ConnLooks). number_of o n) (find-last (λ r. same_connection r.connection y) l.conns new is)
        ∙ only-new new.connection new _ n fresh (last-only (same_connection new.connection y) new)

-- a node stays in order
pub orderly_more : (s : Setup) (new : ConnLooks) (l : Looks) → new.channels ≡ fresh_channels new.connection
    → conn_at l new.connection ≡ None
    → length l.conns < s.limits.conns → (is_client s.kind ≡ true → AmongFirst (suc (length l.conns)) new) → Orderly s l
    → Orderly s (placed new None l)
orderly_more s new l fresh none room low o =
    record {
      conns = conns_more s new l (ap length fresh) none room low o.conns;
      few = o.few;
      latest = λ c lives. (
          let is = o.latest c lives in
          record { chan = is.chan; number = number_more new l (connection_of c) c.chan fresh ∙ is.number });
    }
