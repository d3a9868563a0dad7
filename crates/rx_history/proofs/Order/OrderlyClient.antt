-- A client makes a connection, or starts a call, where there is a place for it.
use Rattle.std.proofs.Common.{◌≡◌, ◌<◌, ◌+◌, ◌*◌, ℕ, cond, if◌then◌else◌, not, nat_le, Bool, true, false, List, [], ◌∷◌}
use Rattle.std.proofs.Common.{filter, length, Option, Some, None, Result, Ok, Err, refl, ap, sym, subst, arith}
use Rattle.std.proofs.lemmas.Bool.Decides.{nat_tests}
use Rattle.std.specs.List.{find}
use Rattle.rx_model.specs.declared.answers.CallRefused.{CallRefused}
use Rattle.rx_model.specs.declared.answers.CallRefused.TheVariants as crowds
use Rattle.rx_model.specs.declared.answers.ConnFull.{ConnFull}
use Rattle.rx_model.specs.declared.names.CallName.{CallName}
use Rattle.rx_model.specs.declared.names.Host.{Host}
use Rattle.rx_model.specs.Names.{Channel, Connection, channel_of, channels_of, same_connection}
use Rattle.rx_rules.specs.After.{linked}
use Rattle.rx_rules.specs.Life.{is_live}
use Rattle.rx_rules.specs.Looks.{ConnLooks, Looks, call_named, channel_at, conn_at, is_call, latest}
use Rattle.rx_rules.specs.Records.{fresh_conn}
use Rattle.rx_rules.specs.Rules.{call_among, call_answer}
use Rattle.rx_rules.specs.Rules.{call_of_conn, call_on, connect_answer}
use Rattle.rx_rules.specs.Rules.{is_free, is_worn, next_number}
use Rattle.rx_rules.specs.Setup.{Setup, Kind, Server, Client, is_client}
use Rattle.rx_rules.specs.Slots.{live}
use Rattle.rx_model.proofs.NameLaws.{connection_is, not_true}
use Rattle.rx_rules.proofs.EveryLaws.{Every, every-filter, filter-passes}
use Rattle.rx_history.proofs.Order.Orderly.{AmongFirst, Orderly}
use Rattle.rx_history.proofs.Order.OrderlyMore.{orderly_more}

-- ---- a client's connection

-- a cid above all of them is of none
none-high : (x : Connection) (n : ℕ) (rs : List ConnLooks) → 4 * n < x.cid → Every (AmongFirst n) rs
    → find (λ r. same_connection r.connection x) rs ≡ None
none-high x n [] high all = refl
none-high x n (r ∷ rs) high all =
    (elim (same_connection r.connection x) as (λ b. same_connection r.connection x ≡ b
    → cond b (Some r) (find (λ r. same_connection r.connection x) rs) ≡ None) [
      | true ↦ λ same. (
          let cid : r.connection.cid ≡ x.cid = ap (λ (y : Connection). y.cid) (connection_is r.connection x same) in
          let low = all.0 in
          absurd (omega arith))
      | false ↦ λ other. none-high x n rs high all.1
    ]) refl

record NextCid (most n cid : ℕ) : Type 0 where
  room : n < most
  is : cid ≡ 4 * n + 4

next-cid : (most n cid : ℕ)
    → ◌≡◌ {A = Result ℕ ConnFull} (Ok cid) (if nat_le most n then Err (record {}) else Ok (4 * n + 4))
    → NextCid most n cid
next-cid most n cid is = of (nat_le most n) refl is
  where
    ok_is : (a b : ℕ) → ◌≡◌ {A = Result ℕ ConnFull} (Ok a) (Ok b) → a ≡ b
    ok_is a b is = cc

    of : (b : Bool) → nat_le most n ≡ b
        → ◌≡◌ {A = Result ℕ ConnFull} (Ok cid) (if b then Err (record {}) else Ok (4 * n + 4)) → NextCid most n cid
    of true full is = absurd cc
    of false free is = record { room = grind (arith, nat_tests); is = ok_is cid (4 * n + 4) is }

linked-orderly : (s : Setup) (host : Host) (epoch : ℕ) (to : Host) (service first cid : ℕ) (l : Looks)
    → is_client s.kind ≡ true
    → Ok cid ≡ connect_answer s l → Orderly s l → Orderly s (linked (Client host epoch) to service first cid l)
linked-orderly s host epoch to service first cid l client is o =
    let x : Connection = record { host = host; epoch = epoch; cid = cid } in
    let next = next-cid s.limits.conns (length l.conns) cid is in
    let at = next.is in
    orderly_more s (fresh_conn x to service first l) l refl
    (none-high x (length l.conns) l.conns (omega arith) (o.conns.low client)) next.room (λ client. omega arith) o

module _ (s : Setup) where
  -- it makes a connection
  pub linked-by : (kind : Kind) (host : Host) (epoch : ℕ) (to : Host) (service first cid : ℕ) (l : Looks)
      → kind ≡ Client host epoch → is_client s.kind ≡ true → Ok cid ≡ connect_answer s l → Orderly s l
      → Orderly s (linked kind to service first cid l)
  linked-by (Client h e) host epoch to service first cid l same client is o = linked-orderly s h e to service first
      cid l client is o
  linked-by (Server nonces other) host epoch to service first cid l same client is o = absurd cc

-- ---- a client's call

-- its channel's latest call doesn't live, and there is room for it
pub record FreeCall (s : Setup) (l : Looks) (c : CallName) : Type 0 where
  pub free : is_call (λ k. is_live k.life) (latest l (channel_of c)) ≡ false
  pub room : live l < s.limits.calls

ok_call : (a b : CallName) → ◌≡◌ {A = Result CallName CallRefused} (Ok a) (Ok b) → a ≡ b
ok_call a b is = cc

call-first : (s : Setup) (l : Looks) (r : ConnLooks) (chs : List Channel) (c : CallName)
    → Every (λ ch. is_free l ch ≡ true) chs
    → Ok c ≡ call_on s l r chs → FreeCall s l c
call-first s l r [] c all is = absurd cc
call-first s l r (ch ∷ chs) c all is = of (nat_le s.limits.calls (live l)) refl is
  where
    of : (b : Bool) → nat_le s.limits.calls (live l) ≡ b
        → Ok c ≡ (if b then Err crowds.NoRoom else Ok (call_named ch (next_number r.first (channel_at l ch).number)))
        → FreeCall s l c
    of true crowded is = absurd cc
    of false room is =
        let at : channel_of c ≡ ch = ap channel_of
        (ok_call c (call_named ch (next_number r.first (channel_at l ch).number)) is) in
        record {
          free =
              subst (λ (d : Channel). is_call (λ k. is_live k.life) (latest l d) ≡ false) (sym at)
              (not_true (is_call (λ k. is_live k.life) (latest l ch)) all.0);
          room = grind (arith, nat_tests);
        }

call-among-free : (s : Setup) (l : Looks) (r : ConnLooks) (chs : List Channel) (c : CallName)
    → Every (λ ch. is_free l ch ≡ true) chs
    → Ok c ≡ call_among s l r chs → FreeCall s l c
call-among-free s l r [] c all is = absurd cc
call-among-free s l r (ch ∷ chs) c all is =
    call-first s l r (filter (λ d. not (is_worn l d)) (ch ∷ chs)) c
    (every-filter (λ d. is_free l d ≡ true) (λ d. not (is_worn l d)) (ch ∷ chs) all) is

-- it starts a call
pub free-call : (s : Setup) (host : Host) (epoch cid : ℕ) (l : Looks) (c : CallName)
    → Ok c ≡ call_answer s host epoch l cid → FreeCall s l c
free-call s host epoch cid l c is = of (conn_at l (record { host = host; epoch = epoch; cid = cid })) is
  where
    of : (o : Option ConnLooks) → Ok c ≡ call_of_conn s l o → FreeCall s l c
    of None is = absurd cc
    of (Some r) is =
        call-among-free s l r (filter (is_free l) (channels_of r.connection)) c
        (filter-passes (is_free l) (channels_of r.connection)) is
