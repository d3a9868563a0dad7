-- What the key of a channel stands for, and what a step that keeps a node leaves of it.
use Rattle.std.proofs.Common.{◌≡◌, ◌/◌, ℕ, Bool, false, List, length, Option, Some, option_map, refl, ◌∙◌, ap, sym}
use Rattle.std.proofs.Common.{subst, arith}
use Rattle.std.specs.Prelude.{IsSomeAnd, unwrap_or}
use Rattle.std.proofs.lemmas.List.{length-map}
use Rattle.rx_model.specs.Names.{Channel, Connection}
use Rattle.rx_rules.specs.Classes.{Class}
use Rattle.rx_rules.specs.Judging.{nonce_at}
use Rattle.rx_rules.specs.Looks.{ChannelLooks, ConnLooks, Looks, changed_at, conn_at, is_proved, on_channel}
use Rattle.rx_table.specs.declared.seat.Seat.{Seat}
use Rattle.rx_table.specs.Records.{ConnRecord, names, record_at, seat_at}
use Rattle.rx_node.specs.Mirrors.{IsChannel, IsKey, Mirrors}
use Rattle.rx_node.specs.Node.{KeepsNode, NodeState, setup_of}
use Rattle.rx_node.proofs.Steps.ActiveSteps.{there_low}
use Rattle.rx_node.proofs.Steps.EndingSteps.{channel_after}
use Rattle.rx_node.proofs.Steps.IdleSteps.{channel_conn, place_stands}

-- ---- a channel that is there

-- a key has its channel still where a channel changes
pub key_on_channel : (l : Looks) (d : Channel) (f : ChannelLooks → ChannelLooks) (key : ℕ) (ch : Channel)
    → IsChannel l key ch → IsChannel (on_channel d f l) key ch
key_on_channel l d f key ch at =
    channel_after l d.connection (λ r. record r { channels = changed_at d.chan f r.channels }) key ch (λ r. refl) at

module _ (class : List ℕ → Class) (n : NodeState) (l : Looks) (m : Mirrors class n l) (key : ℕ) (ch : Channel)
    (at : IsChannel l key ch) where
  -- whether its client is proved
  pub proved_is : (b : Bool) → IsSomeAnd (record_at n.table (key / 4)) (λ r. b ≡ r.proved)
      → b ≡ is_proved l ch.connection
  proved_is b is =
      let p = place_stands class n l m (key / 4) at.conn at.there in
      let of : b ≡ p.rec.proved = subst (λ (o : Option ConnRecord). IsSomeAnd o (λ r. b ≡ r.proved)) p.rec_there is in
      of ∙ p.stands.proved
      ∙ sym (ap (λ (o : Option ConnLooks). unwrap_or (option_map (λ r. r.proved) o) false)
      (channel_conn l key ch m.orderly.conns.differ at))

  -- its nonce
  pub nonce_is : (nonce : ℕ) → IsSomeAnd (record_at n.table (key / 4)) (λ r. nonce ≡ r.nonce)
      → nonce ≡ nonce_at (setup_of class n) (conn_at l ch.connection)
  nonce_is nonce is =
      let p = place_stands class n l m (key / 4) at.conn at.there in
      let of : nonce ≡ p.rec.nonce =
      subst (λ (o : Option ConnRecord). IsSomeAnd o (λ r. nonce ≡ r.nonce)) p.rec_there is in
      of ∙ p.stands.nonce
      ∙ sym (ap (λ (o : Option ConnLooks). nonce_at (setup_of class n) o)
      (channel_conn l key ch m.orderly.conns.differ at))

-- ---- keys

-- a key with a seat is one
pub seat_key : (n : NodeState) (key : ℕ) (seat : Seat) → seat_at n.table key ≡ Some seat → IsKey n key
seat_key n key seat there = there_low n.table key (record_at n.table (key / 4)) seat refl there

-- a node with the same connections has the same keys
pub kept_key : (old new : NodeState) (key : ℕ) → KeepsNode old new → IsKey old key → IsKey new key
kept_key old new key kept is =
    let one : length (names new.table) ≡ length new.table.conns = length-map new.table.conns (λ r. r.connection) in
    let two : length (names old.table) ≡ length old.table.conns = length-map old.table.conns (λ r. r.connection) in
    let same : length (names new.table) ≡ length (names old.table) =
    ap (λ (xs : List Connection). length xs) kept.names in
    omega arith

-- and one step behind another keeps it
pub kept_both : (a b c : NodeState) → KeepsNode a b → KeepsNode b c → KeepsNode a c
kept_both a b c p q =
    record {
      kind = q.kind ∙ p.kind;
      limits = q.limits ∙ p.limits;
      prompt = q.prompt ∙ p.prompt;
      secret = q.secret ∙ p.secret;
      moment = q.moment ∙ p.moment;
      names = q.names ∙ p.names;
    }

-- and its setup
pub kept_setup : (class : List ℕ → Class) (old new : NodeState) → KeepsNode old new
    → setup_of class new ≡ setup_of class old
kept_setup class old new kept =
    λ i. record { kind = kept.kind i; limits = kept.limits i; prompt = kept.prompt i; class = class (kept.secret i) }

-- ---- look-ups that are one

pub by_looks : (class : List ℕ → Class) (n : NodeState) (l m : Looks) → l ≡ m → Mirrors class n l → Mirrors class n m
by_looks class n l m same is = subst (Mirrors class n) same is
