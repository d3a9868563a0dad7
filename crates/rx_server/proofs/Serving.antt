-- A server behind a change of its node.
use Rattle.std.proofs.Common.{◌≡◌, ◌<◌, ◌≤◌, ◌+◌, ◌/◌, ◌==◌, ◌*◌, ◌++◌, ℕ, ℤ, if◌then◌else◌, not, filter, Bool}
use Rattle.std.proofs.Common.{false, List, [], ◌∷◌, length, map, Some, None, refl, ◌∙◌, ap, sym, subst, arith}
use Rattle.std.specs.Prelude.{slice_get}
use Rattle.std.proofs.lemmas.List.{length-map}
use Rattle.rx_model.specs.declared.event.Event.{Event}
use Rattle.rx_model.specs.declared.answers.Took.TheVariants as tooks
use Rattle.rx_model.specs.declared.names.CallName.{CallName}
use Rattle.rx_model.specs.Body as bodies
use Rattle.rx_model.specs.Message.{Message}
use Rattle.rx_model.specs.Names.{Channel, Connection, channel_of, connection_of, same_connection}
use Rattle.rx_rules.specs.After.{after, looks, stopped_all}
use Rattle.rx_rules.specs.Classes.{Class}
use Rattle.rx_rules.specs.Looks.{ConnLooks, Looks, call_named, conn_at}
use Rattle.rx_rules.specs.Records.{used}
use Rattle.rx_rules.specs.Rules.{Allowed, Legal}
use Rattle.rx_rules.specs.Setup.{FitsLimits, Kind, Setup, nonce_of}
use Rattle.rx_rules.proofs.ConnsLaws.{conn_if}
use Rattle.rx_rules.proofs.EveryLaws.{Every, every-append, every-filter}
use Rattle.rx_rules.proofs.FindLaws.{list_any-none}
use Rattle.rx_history.proofs.Differ.{every_other}
use Rattle.rx_history.proofs.Dimensions.DimsTaken.{used_dims, with_dims}
use Rattle.rx_history.proofs.Dimensions.Dims.{Dims}
use Rattle.rx_queue.specs.Queue.{QueueState}
use Rattle.rx_table.specs.Records.{ConnRecord}
use Rattle.rx_node.specs.Mirrors.{IsChannel, IsKey, Mirrors}
use Rattle.rx_node.proofs.Steps.EndingSteps.{channel_after}
use Rattle.rx_node.specs.Node.{KeepsNode, KeepsSetup, NodeState, setup_of}
use Rattle.rx_books.proofs.ProvedClients.{proofs_conn}
use Rattle.rx_server.specs.Server.{Answered, IsServerOf, IsServing, ReadyStand, ServerState, Serves, Stands}
use Rattle.rx_server.proofs.FirstsLaws.{firsts_dims}
use Rattle.rx_server.proofs.ReadyLaws.{ready_dims}
use Rattle.rx_server.proofs.RestLaws.{Rests, with_rests}

-- ---- its setup

-- a node with the same setup, and as many connections
pub record SameParts (old new : NodeState) : Type 0 where
  pub kind : new.kind ≡ old.kind
  pub limits : new.limits ≡ old.limits
  pub prompt : new.prompt ≡ old.prompt
  pub secret : new.secret ≡ old.secret
  pub conns : length new.table.conns ≡ length old.table.conns

-- a node that stays the one that it was
pub parts_stay : (old new : NodeState) → KeepsNode old new → SameParts old new
parts_stay old new same =
    record {
      kind = same.kind;
      limits = same.limits;
      prompt = same.prompt;
      secret = same.secret;
      conns = sym (length-map new.table.conns (λ (r : ConnRecord). r.connection))
          ∙ ap (λ (xs : List Connection). length xs) same.names
          ∙ length-map old.table.conns (λ (r : ConnRecord). r.connection);
    }

-- a node of the same kind and class
pub record SameRole (old new : NodeState) : Type 0 where
  pub kind : new.kind ≡ old.kind
  pub secret : new.secret ≡ old.secret

pub role_of : (old new : NodeState) → SameParts old new → SameRole old new
role_of old new same = record { kind = same.kind; secret = same.secret }

pub role_stays : (old new : NodeState) → KeepsNode old new → SameRole old new
role_stays old new same = record { kind = same.kind; secret = same.secret }

pub setup_role : (old new : NodeState) → KeepsSetup old new → SameRole old new
setup_role old new same = record { kind = same.kind; secret = same.secret }

-- one change behind another
pub role_both : (old mid new : NodeState) → KeepsNode old mid → KeepsNode mid new → SameRole old new
role_both old mid new first second =
    record { kind = second.kind ∙ first.kind; secret = second.secret ∙ first.secret }

-- whether its class challenges
pub challenges_by : (class : List ℕ → Class) (old new : NodeState) → SameRole old new
    → (class new.secret).challenges ≡ (class old.secret).challenges
challenges_by class old new same = ap (λ (secret : List ℕ). (class secret).challenges) same.secret

-- one change behind another
pub parts_trans : (old mid new : NodeState) → SameParts old mid → SameParts mid new → SameParts old new
parts_trans old mid new p q =
    record {
      kind = q.kind ∙ p.kind;
      limits = q.limits ∙ p.limits;
      prompt = q.prompt ∙ p.prompt;
      secret = q.secret ∙ p.secret;
      conns = q.conns ∙ p.conns;
    }

-- its setup
pub setup_by : (class : List ℕ → Class) (old new : NodeState) → SameParts old new
    → setup_of class new ≡ setup_of class old
setup_by class old new same = (λ i. record {
  kind = same.kind i;
  limits = same.limits i;
  prompt = same.prompt i;
  class = class (same.secret i);
})

-- its keys
pub keys_by : (old new : NodeState) (keys : List ℕ) → SameParts old new → Every (IsKey old) keys
    → Every (IsKey new) keys
keys_by old new keys same all = subst (λ (n : ℕ). Every (λ key. key / 4 < n) keys) (sym same.conns) all

-- ---- what it serves

-- a change that brings no call to life, enters none and keeps no packet 1
pub serves_quiet : (class : List ℕ → Class) (sv : ServerState) (new : NodeState) (l m : Looks) → SameRole sv.node new
    → Dims l m → Rests l m → Mirrors class new m → Serves class sv l
    → Serves class (record sv { node = new }) m
serves_quiet class sv new l m role dims rests mirrors serves =
    record {
      mirrors = mirrors;
      nonce = serves.nonce ∙ (λ i. nonce_of (sym role.kind i) (sym rests.entered i));
      firsts = firsts_dims l m dims sv.firsts.order rests.firsts serves.firsts;
      ready = subst (λ (b : Bool). ReadyStand b sv.firsts m) (sym (challenges_by class sv.node new role))
          (ready_dims (class sv.node.secret).challenges sv.firsts l m dims rests.proved serves.ready);
    }

-- it serves on
pub serving_by : (class : List ℕ → Class) (sv : ServerState) (new : NodeState) (m : Looks) → SameParts sv.node new
    → Serves class (record sv { node = new }) m → IsServing class sv → IsServing class (record sv { node = new })
serving_by class sv new m same serves is =
    record {
      server = subst (λ (k : Kind). IsServerOf k sv.service) (sym same.kind) is.server;
      fits = subst FitsLimits (sym same.limits) is.fits;
      looks = m;
      serves = serves;
      there = keys_by sv.node new sv.firsts.order same is.there;
    }

-- ---- histories

-- an answer, with what it then serves
pub answered_by : (class : List ℕ → Class) (old new : ServerState) (e : Event)
    → setup_of class new.node ≡ setup_of class old.node
    → ((h : List Event) → Stands class old h
    → Allowed (setup_of class old.node) (looks (setup_of class old.node) h) e
    × Serves class new (after (setup_of class old.node) e (looks (setup_of class old.node) h)))
    → Answered class old new e
answered_by class old new e same each h stands =
    (let both = each h stands in
    let behind = subst (λ (s : Setup). Legal s (e ∷ h) × Serves class new (looks s (e ∷ h))) (sym same)
    ((both.0, stands.legal), both.1) in
    (both.0, record { legal = behind.0; serves = behind.1 }))

-- ---- the connection of a call is used

-- one that isn't known isn't
pub used_unknown : (x : Connection) (l : Looks) → conn_at l x ≡ None → used x l ≡ l
used_unknown x l none = ap (λ (rs : List ConnLooks). record l { conns = rs }) (same l.conns
    (every_other (λ r. same_connection r.connection x) l.conns
    (list_any-none (λ r. same_connection r.connection x) l.conns none)))
  where
    change : ConnLooks → ConnLooks
    change r = record r { last_use = l.now }

    same : (rs : List ConnLooks) → Every (λ r. same_connection r.connection x ≡ false) rs
        → map (conn_if x change) rs ≡ rs
    same [] all = refl
    same (r ∷ rs) all = (λ i. (if all.0 i then change r else r) ∷ same rs all.1 i)

-- so that nothing changes for it
pub serves_unused : (class : List ℕ → Class) (sv : ServerState) (l : Looks) (x : Connection) → conn_at l x ≡ None
    → Serves class sv l → Serves class sv (used x l)
serves_unused class sv l x none serves = subst (λ (q : Looks). Serves class sv q) (sym (used_unknown x l none)) serves

-- its channel's connection
own-conn : (l : Looks) (key : ℕ) (c : CallName) (at : IsChannel l key (channel_of c))
    → at.conn.connection ≡ connection_of c
own-conn l key c at = sym (ap (λ (d : Channel). d.connection) at.is)

-- one that is known is used now
pub serves_used : (class : List ℕ → Class) (sv : ServerState) (new : NodeState) (l : Looks) (key : ℕ) (c : CallName)
    → IsChannel l key (channel_of c) → SameRole sv.node new
    → ((r : ConnLooks) → slice_get l.conns (key / 4) ≡ Some r → Mirrors class new (used r.connection l))
    → Serves class sv l → Serves class (record sv { node = new }) (used (connection_of c) l)
serves_used class sv new l key c at role steps serves =
    serves_quiet class sv new l (used (connection_of c) l) role (used_dims (connection_of c) l)
    (record {
      firsts = refl;
      entered = refl;
      proved = proofs_conn (connection_of c) (λ r. record r { last_use = l.now }) l (λ r. refl);
    })
    (subst (λ (x : Connection). Mirrors class new (used x l)) (own-conn l key c at) (steps at.conn at.there)) serves

-- and its channel keeps its key
pub key_used : (l : Looks) (x : Connection) (key : ℕ) (ch : Channel) → IsChannel l key ch → IsChannel (used x l) key ch
key_used l x key ch at = channel_after l x (λ r. record r { last_use = l.now }) key ch (λ r. refl) at

-- ---- a code reaches the calls of a connection

-- a message that says so
abbrev pub aborting : CallName → ℤ → Message
aborting c code =
    record {
      epoch = c.epoch;
      cid = c.cid;
      number = 0;
      seq = 0;
      serial = 0;
      flags = 0;
      status = 0;
      index = 0;
      spare = 0;
      service = 0;
      body = bodies.Abort code;
    }

-- behind it no further call lives
pub serves_stopped : (class : List ℕ → Class) (sv : ServerState) (new : NodeState) (l : Looks) (ch : Channel) (code : ℤ)
    → SameRole sv.node new → Mirrors class new (stopped_all ch.connection code l) → Serves class sv l
    → Serves class (record sv { node = new }) (stopped_all ch.connection code l)
serves_stopped class sv new l ch code role mirrors serves =
    (let c = call_named ch 0 in
    serves_quiet class sv new l (stopped_all ch.connection code l) role
    (with_dims (setup_of class sv.node) tooks.Stopped c (aborting c code) l refl)
    (with_rests (setup_of class sv.node) tooks.Stopped c (aborting c code) l refl refl) mirrors serves)

-- there is room for each key
pub key_room : (class : List ℕ → Class) (sv : ServerState) → IsServing class sv
    → 4 * sv.node.limits.conns ≤ length sv.firsts.ready → (key : ℕ) → IsKey sv.node key
    → 4 * (key / 4) + 3 < length sv.firsts.ready
key_room class sv is room key its =
    (let conns = is.serves.mirrors.conns.conns in
    let few = is.serves.mirrors.orderly.conns.few in
    omega (arith, conns, few, room, its))

-- ---- the channels that are listed change

-- it serves on with those of them that are there
pub serving_with : (class : List ℕ → Class) (sv : ServerState) (new : NodeState) (m : Looks) (firsts : QueueState)
    → SameParts sv.node new → Every (IsKey sv.node) firsts.order
    → Serves class (record sv { node = new; firsts = firsts }) m → IsServing class sv
    → IsServing class (record sv { node = new; firsts = firsts })
serving_with class sv new m firsts same there serves is =
    record {
      server = subst (λ (k : Kind). IsServerOf k sv.service) (sym same.kind) is.server;
      fits = subst FitsLimits (sym same.limits) is.fits;
      looks = m;
      serves = serves;
      there = keys_by sv.node new firsts.order same there;
    }

-- where one goes they are
pub there_without : (n : NodeState) (key : ℕ) (order made : List ℕ) → made ≡ filter (λ k. not (k == key)) order
    → Every (IsKey n) order → Every (IsKey n) made
there_without n key order made is there =
    subst (λ (ks : List ℕ). Every (IsKey n) ks) (sym is) (every-filter (IsKey n) (λ k. not (k == key)) order there)

-- where one comes that is there
pub there_behind : (n : NodeState) (key : ℕ) (order made : List ℕ) → made ≡ order ++ key ∷ [] → Every (IsKey n) order
    → IsKey n key → Every (IsKey n) made
there_behind n key order made is there own =
    subst (λ (ks : List ℕ). Every (IsKey n) ks) (sym is) (every-append (IsKey n) order (key ∷ []) there (own, tt))
