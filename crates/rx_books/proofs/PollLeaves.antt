-- What a poll leaves: it brings no call to life, enters no connection, keeps no packet 1 and proves no client.
use Rattle.std.proofs.Common.{◌≡◌, ℕ, suc, false, List, drop, Option, Some, None, refl, ◌∙◌, ap}
use Rattle.rx_model.specs.declared.names.CallName.{CallName}
use Rattle.rx_model.specs.declared.names.Host.{Host}
use Rattle.rx_model.specs.declared.stray.Stray.{Stray}
use Rattle.rx_model.specs.Body.{Body}
use Rattle.rx_model.specs.Body as bodies
use Rattle.rx_model.specs.Message.{Message}
use Rattle.rx_model.specs.Names.{Connection, channel_of, connection_of}
use Rattle.rx_rules.specs.After.{counted, given_body}
use Rattle.rx_rules.specs.CallLooks.{after_ack_given, after_piece}
use Rattle.rx_rules.specs.Classes.{Class}
use Rattle.rx_rules.specs.Items.{Item, message_on}
use Rattle.rx_rules.specs.Looks.{Looks}
use Rattle.rx_rules.specs.Records.{silenced}
use Rattle.rx_rules.specs.Setup.{Setup}
use Rattle.rx_history.proofs.Dimensions.Dims.{Dims, dims_channel, dims_conn, dims_looks, dims_trans}
use Rattle.rx_history.proofs.Dimensions.DimsEvents.{polled_dims}
use Rattle.rx_node.specs.Due.{AreDueAs, Gave, IsDueAs}
use Rattle.rx_node.specs.Mirrors.{Mirrors}
use Rattle.rx_node.specs.Node.{NodeState, setup_of}
use Rattle.rx_node.specs.declared.item.Due.{Due}
use Rattle.rx_node.proofs.Steps.SmallSteps.{mirrors_strays}
use Rattle.rx_books.specs.Polled.{Polled, proofs_of}
use Rattle.rx_books.proofs.ProvedClients.{proofs_channel, proofs_conn}

-- ---- changes

-- no call comes to life; how many connections were entered stays, and the calls whose packet 1 was kept, and which
-- clients are proved
pub record Leaves (l m : Looks) : Type 0 where
  pub dims : Dims l m
  pub firsts : m.firsts ≡ l.firsts
  pub entered : m.entered ≡ l.entered
  pub proved : proofs_of m ≡ proofs_of l

leaves-both : (l m n : Looks) → Leaves l m → Leaves m n → Leaves l n
leaves-both l m n p q =
    record {
      dims = dims_trans l m n p.dims q.dims;
      firsts = q.firsts ∙ p.firsts;
      entered = q.entered ∙ p.entered;
      proved = q.proved ∙ p.proved;
    }

leaves-body : (c : CallName) (m : Message) (body : Body) (l : Looks) → Leaves l (given_body c m body l)
leaves-body c m (bodies.Chunk payload) l =
    record {
      dims = dims_looks c (after_piece l.now m.seq) l (λ k is. is);
      firsts = refl;
      entered = refl;
      proved =
          refl;
    }
leaves-body c m (bodies.Ack a) l =
    record { dims = dims_looks c (after_ack_given l.now) l (λ k is. is); firsts = refl; entered = refl; proved = refl }
leaves-body c m (bodies.Abort code) l =
    record {
      dims = dims_channel (channel_of c) (λ q. record q { owed_abort = None }) l (λ q. refl);
      firsts = refl;
      entered = refl;
      proved = proofs_channel (channel_of c) (λ q. record q { owed_abort = None }) l;
    }
leaves-body c m bodies.Busy l =
    record {
      dims = dims_channel (channel_of c) (λ q. record q { owed_busy = None }) l (λ q. refl);
      firsts = refl;
      entered = refl;
      proved = proofs_channel (channel_of c) (λ q. record q { owed_busy = None }) l;
    }
leaves-body c m (bodies.Challenge bytes) l =
    record {
      dims = dims_channel (channel_of c) (λ q. record q { owed_challenge = false }) l (λ q. refl);
      firsts = refl;
      entered = refl;
      proved = proofs_channel (channel_of c) (λ q. record q { owed_challenge = false }) l;
    }
leaves-body c m (bodies.Response bytes) l =
    record {
      dims = dims_channel (channel_of c) (λ q. record q { owed_response = None }) l (λ q. refl);
      firsts = refl;
      entered = refl;
      proved = proofs_channel (channel_of c) (λ q. record q { owed_response = None }) l;
    }
leaves-body c m bodies.AckAll l =
    record {
      dims = dims_channel (channel_of c) (λ q. record q { owed_ackall = false }) l (λ q. refl);
      firsts = refl;
      entered = refl;
      proved = proofs_channel (channel_of c) (λ q. record q { owed_ackall = false }) l;
    }

leaves-counted : (x : Connection) (l : Looks) → Leaves l (counted x l)
leaves-counted x l =
    record {
      dims = dims_conn x (λ r. record r { given = suc r.given; last_use = l.now }) l
          (λ r. record { alike = record { connection = refl; length = refl }; numbers = λ n. refl });
      firsts = refl;
      entered = refl;
      proved = proofs_conn x (λ r. record r { given = suc r.given; last_use = l.now }) l (λ r. refl);
    }

-- silent calls end, and the oldest stray abort goes
abbrev pub begun : Looks → Looks
begun l = record (silenced l) { strays = drop 1 l.strays }

leaves-begun : (s : Setup) (l : Looks) → Leaves l (begun l)
leaves-begun s l =
    (let dims = polled_dims s None l in
    record { dims = record { calls = dims.calls; conns = dims.conns }; firsts = refl; entered = refl; proved = refl })

-- ---- a node

module _ (class : List ℕ → Class) (n : NodeState) (strays : List Stray) (l : Looks)
    (mirrored : Mirrors class n (silenced l))
    (dropped : strays ≡ drop 1 n.strays) where
  abbrev mid : NodeState
  mid = record n { strays = strays }

  pub begun_mirrors : Mirrors class mid (begun l)
  begun_mirrors =
      mirrors_strays class n (silenced l) mirrored strays (drop 1 l.strays) (dropped ∙ ap (drop 1) mirrored.strays)

  -- a poll that gives nothing more
  pub dimmed_begun : Polled class mid l
  dimmed_begun =
      (let leaves = leaves-begun (setup_of class n) l in
      record {
        dimmed = record {
          behind = begun l;
          mirrors = begun_mirrors;
          dims = leaves.dims;
          firsts = leaves.firsts;
          entered = leaves.entered;
        };
        proved = leaves.proved;
      })

  -- one that gives an item
  pub dimmed_item : (s : Setup) (new : NodeState) (due : Due) (to : Host) (bytes : List ℕ) (o : Option Item)
      → AreDueAs s (begun l) (Some due) o
      → ((i : Item) → IsDueAs s (begun l) due i → Gave class mid new (begun l) i to bytes) → Polled class new l
  dimmed_item s new due to bytes None as_ gives = absurd as_
  dimmed_item s new due to bytes (Some i) as_ gives =
      (let gave = gives i as_ in
      let m : Message = message_on (setup_of class mid) i gave.conn in
      let x : Connection = connection_of i.name in
      let leaves = leaves-both l (begun l) (given_body i.name m i.body (counted x (begun l))) (leaves-begun s l)
      (leaves-both (begun l) (counted x (begun l)) (given_body i.name m i.body (counted x (begun l)))
      (leaves-counted x (begun l)) (leaves-body i.name m i.body (counted x (begun l)))) in
      record {
        dimmed = record {
          behind = given_body i.name m i.body (counted x (begun l));
          mirrors = gave.leaves;
          dims = leaves.dims;
          firsts = leaves.firsts;
          entered = leaves.entered;
        };
        proved = leaves.proved;
      })
