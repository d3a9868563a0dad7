-- A node mirrors what becomes of look-ups where its moment or its stray aborts change.
use Rattle.std.proofs.Common.{◌≡◌, ℕ, List, refl}
use Rattle.rx_model.specs.declared.stray.Stray.{Stray}
use Rattle.rx_rules.specs.Classes.{Class}
use Rattle.std.specs.Prelude.{slice_get, Some, true}
use Rattle.rx_rules.specs.Looks.{ConnLooks, Looks, on_conn}
use Rattle.rx_rules.specs.Records.{used}
use Rattle.rx_table.specs.Records.{on_place}
use Rattle.rx_node.proofs.Steps.ConnSteps.{mirrors_conn}
use Rattle.rx_history.proofs.Room.RoomStarts.{roomy_by}
use Rattle.rx_node.specs.Mirrors.{Mirrors}
use Rattle.rx_node.specs.Node.{NodeState, setup_of}

module _ (class : List ℕ → Class) (n : NodeState) (l : Looks) (m : Mirrors class n l) where
  -- its moment
  pub mirrors_clock : (now : ℕ) → Mirrors class (record n { moment = now }) (record l { now = now })
  mirrors_clock now =
      record {
        now = refl;
        conns = record { conns = m.conns.conns; links = m.conns.links; each = m.conns.each };
        channels = λ key d s here is. (
            let was = m.channels key d s (record { conn = here.conn; there = here.there; is = here.is }) is in
            record {
              owes = was.owes;
              call = record { life = was.call.life; live = was.call.live; stands = was.call.stands };
            });
        live = m.live;
        common = m.common;
        strays = m.strays;
        numbered = m.numbered;
        orderly = record {
          conns = m.orderly.conns;
          few = m.orderly.few;
          latest = λ c lives. (
              let is = m.orderly.latest c lives in
              record { chan = is.chan; number = is.number });
        };
        roomy = roomy_by (setup_of class n) l (record l { now = now }) refl m.roomy;
      }

  -- its stray aborts
  pub mirrors_strays : (xs ys : List Stray) → xs ≡ ys → Mirrors class (record n { strays = xs })
      (record l { strays = ys })
  mirrors_strays xs ys same =
      record {
        now = m.now;
        conns = record { conns = m.conns.conns; links = m.conns.links; each = m.conns.each };
        channels = λ key d s here is. (
            let was = m.channels key d s (record { conn = here.conn; there = here.there; is = here.is }) is in
            record {
              owes = was.owes;
              call = record { life = was.call.life; live = was.call.live; stands = was.call.stands };
            });
        live = m.live;
        common = m.common;
        strays = same;
        numbered = m.numbered;
        orderly = record {
          conns = m.orderly.conns;
          few = m.orderly.few;
          latest = λ c lives. (
              let is = m.orderly.latest c lives in
              record { chan = is.chan; number = is.number });
        };
        roomy = roomy_by (setup_of class n) l (record l { strays = ys }) refl m.roomy;
      }

-- ---- a connection

module _ (class : List ℕ → Class) (n : NodeState) (l : Looks) (m : Mirrors class n l) (place : ℕ) (x : ConnLooks)
    (there : slice_get l.conns place ≡ Some x) where
  -- its last use
  pub mirrors_used : Mirrors class (record n { table = on_place place (λ r. record r { last_use = n.moment }) n.table })
      (used x.connection l)
  mirrors_used =
      mirrors_conn class n l m place x there (λ r. record r { last_use = n.moment })
      (λ r. record r { last_use = l.now })
      (record {
        seats = λ r. refl;
        leaves = record { name = λ r. refl; channels = λ r. refl };
        stands = λ r link y s. record {
          connection = s.connection;
          nonce = s.nonce;
          serial = s.serial;
          last_use = m.now;
          proved = s.proved;
          seats = s.seats;
          linked = s.linked;
        };
      })

  -- whether its client is proved
  pub mirrors_proved : Mirrors class (record n { table = on_place place (λ r. record r { proved = true }) n.table })
      (on_conn x.connection (λ r. record r { proved = true }) l)
  mirrors_proved =
      mirrors_conn class n l m place x there (λ r. record r { proved = true }) (λ r. record r { proved = true })
      (record {
        seats = λ r. refl;
        leaves = record { name = λ r. refl; channels = λ r. refl };
        stands = λ r link y s. record {
          connection = s.connection;
          nonce = s.nonce;
          serial = s.serial;
          last_use = s.last_use;
          proved = refl;
          seats = s.seats;
          linked = s.linked;
        };
      })
