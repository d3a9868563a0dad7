-- A server's poll: what it gives with the name of a call is of a number that the channel knows, and is a use of the
-- call.
use Rattle.std.proofs.Common.{◌≡◌, ◌⊎◌, ◌<◌, ◌≤◌, ◌+◌, ◌-◌, ◌%◌, ◌^◌, ℕ, suc, is_some, true, false, List, []}
use Rattle.std.proofs.Common.{◌∷◌, Option, Some, None, Result, Ok, refl, ◌∙◌, ap, sym, subst, inl, inr, arith}
use Rattle.rx_model.specs.declared.answers.BadMsg.{BadMsg}
use Rattle.rx_model.specs.declared.names.CallName.{CallName}
use Rattle.rx_model.specs.declared.names.Host.{Host}
use Rattle.rx_model.specs.declared.stray.Stray.{Stray}
use Rattle.rx_rules.specs.After.{counted, given_body}
use Rattle.rx_rules.specs.Items.{Item, datagram_for, datagram_on, message_on, next_item, poll_with}
use Rattle.rx_rules.specs.Looks.{CallRecord, ConnLooks, Looks, call_at, channel_at, conn_at, fresh_channel}
use Rattle.rx_model.specs.Message.{Message}
use Rattle.rx_model.specs.Names.{Channel, Connection, channel_of, connection_of, name_of, same_connection, same_name}
use Rattle.rx_model.specs.Reading.{reading_of}
use Rattle.rx_rules.specs.Setup.{Setup, Kind, Server, Client, IsServer, named}
use Rattle.rx_model.specs.Spelling.{made}
use Rattle.rx_model.specs.Strays.{stray_message}
use Rattle.std.specs.Prelude.{option_and_then, slice_get, unwrap_or}
use Rattle.rx_rules.proofs.ConnsLaws.{channel_number, number_of}
use Rattle.rx_rules.proofs.FindLaws.{find_passes}
use Rattle.rx_rules.proofs.KeepsLaws.{Keeps, keeps-trans}
use Rattle.rx_model.proofs.NameLaws.{connection_is, name_itself}
use Rattle.rx_history.proofs.Client.{channel-fits}
use Rattle.rx_history.proofs.Conns.{Conns, FitsConnection, OfKind, found-good}
use Rattle.rx_history.proofs.Data.{some_pair}
use Rattle.rx_law.proofs.Due.{IsDue, made-header, next-due}
use Rattle.rx_law.proofs.Firm.{Firm, busy_of, firm-counted, firm-trans, young-now}
use Rattle.rx_law.proofs.FirmAfter.{firm-body}
use Rattle.rx_history.proofs.Given.GivenLaws.{keeps-body, keeps-counted}
use Rattle.rx_law.proofs.Joint.{server-name}
use Rattle.rx_law.proofs.Recalls.{Recalls, lives-some, recalls-keeps}

channel-busy : (l : Looks) (ch : Channel) → (channel_at l ch).owed_busy ≡ busy_of (conn_at l ch.connection) ch.chan
channel-busy l ch = of_conn (conn_at l ch.connection)
  where
    of_conn : (o : Option ConnLooks)
        → (unwrap_or (option_and_then (λ r. slice_get r.channels ch.chan) o) (fresh_channel 0)).owed_busy
        ≡ busy_of o ch.chan
    of_conn None = refl
    of_conn (Some r) = refl

server-kind : (s : Setup) (r : ConnLooks) → IsServer s.kind → OfKind s.kind r → (r.peer ≡ r.connection.host)
    × FitsConnection r.connection
server-kind s r server of = by s.kind server of
  where
    by : (k : Kind) → IsServer k → OfKind k r → (r.peer ≡ r.connection.host) × FitsConnection r.connection
    by (Server service nonces) server of = of
    by (Client host epoch) server of = absurd server

-- what a call's number is to its channel
abbrev pub Told : Looks → CallName → Type 0
Told l c = (c.number ≡ number_of (conn_at l (connection_of c)) c.chan) ⊎
    (busy_of (conn_at l (connection_of c)) c.chan ≡ Some c.number)

-- the name of an item is read back
item-tells : (s : Setup) (l : Looks) (i : Item) (o : Option ConnLooks) (to : Host) (bytes : List ℕ) (m : Message)
    (c : CallName)
    → IsServer s.kind → Conns s l → ((n : ℕ) → busy_of (conn_at l (connection_of c)) c.chan ≡ Some n → n < 2 ^ 32)
    → IsDue l i.name
    → conn_at l (connection_of i.name) ≡ o → datagram_on s i o ≡ Some (to, bytes) → reading_of bytes ≡ Ok m
    → named s to m ≡ c → Told l c
item-tells s l i None to bytes m c server conns low due there is reads name = absurd cc
item-tells s l i (Some r) to bytes m c server conns low due there is reads name =
    let both_are = some_pair (r.peer, made (message_on s i r)) (to, bytes) is in
    let text : made (message_on s i r) ≡ bytes = ap (λ (p : Host × List ℕ). p.1) both_are in
    let peer : r.peer ≡ to = ap (λ (p : Host × List ℕ). p.0) both_are in
    let header = made-header (message_on s i r) m (ap reading_of text ∙ reads) in
    let conn = found-good s (λ q. same_connection q.connection (connection_of i.name)) l.conns r conns there in
    let own = connection_is r.connection (connection_of i.name)
    (find_passes (λ q. same_connection q.connection (connection_of i.name)) l.conns r there) in
    let kind = server-kind s r server conn.kind in
    let fits : FitsConnection (connection_of i.name) = subst FitsConnection own kind.1 in
    let chan = due.0 in
    let epoch_fits = fits.0 in
    let whole = fits.1 in
    let top = fits.2 in
    let host : i.name.host ≡ to = ap (λ (x : Connection). x.host) (sym own) ∙ sym kind.0 ∙ peer in
    let epoch : m.epoch ≡ i.name.epoch = header.0 fits.0 in
    let cid : m.cid ≡ i.name.cid + i.name.chan = header.1 (omega arith) in
    let names : name_of to m ≡ c = sym (server-name s to m server) ∙ name in
    let low_cid : i.name.cid ≡ m.cid - m.cid % 4 = omega arith in
    let low_chan : i.name.chan ≡ m.cid % 4 = omega arith in
    let at : channel_of i.name ≡ channel_of c =
    (λ j. record { connection = record { host = host j; epoch = (sym epoch) j; cid = low_cid j }; chan = low_chan j })
    ∙ ap channel_of names in
    let number : m.number ≡ c.number = ap (λ (n : CallName). n.number) names in
    let known : number_of (conn_at l (connection_of i.name)) i.name.chan < 2 ^ 32 =
    subst (λ (o : Option ConnLooks). number_of o i.name.chan < 2 ^ 32) (sym there)
    (channel-fits s r i.name.chan conn) in
    (elim due.1 as (λ t. Told l c) [
      | inl latest ↦ (
          let of_conn : i.name.number ≡ number_of (conn_at l (connection_of i.name)) i.name.chan = latest
          ∙ channel_number l (channel_of i.name) in
          let same : i.name.number ≡ c.number = sym (header.2 (omega arith)) ∙ number in
          let mine : number_of (conn_at l (connection_of i.name)) i.name.chan
          ≡ number_of (conn_at l (connection_of c)) c.chan =
          ap (λ (ch : Channel). number_of (conn_at l ch.connection) ch.chan) at in
          inl (sym same ∙ of_conn ∙ mine))
      | inr busy ↦ (
          let of_conn : busy_of (conn_at l (connection_of i.name)) i.name.chan
          ≡ Some i.name.number = sym (channel-busy l (channel_of i.name)) ∙ busy in
          let mine : busy_of (conn_at l (connection_of c)) c.chan ≡ Some i.name.number =
          ap (λ (ch : Channel). busy_of (conn_at l ch.connection) ch.chan) (sym at) ∙ of_conn in
          let same : i.name.number ≡ c.number = sym (header.2 (low i.name.number mine)) ∙ number in
          inr (mine ∙ ap (λ (n : ℕ). Some n) same))
    ])

no-stray : (s : Setup) (x : Stray) (to : Host) (bytes : List ℕ) (m : Message) (c : CallName)
    → ◌≡◌ {A = Option (Host × List ℕ)} (Some (x.host, made (stray_message x))) (Some (to, bytes))
    → reading_of bytes ≡ Ok m → named s to m ≡ c → 1 ≤ c.number → ⊥
no-stray s x to bytes m c is reads name some =
    let text : made (stray_message x) ≡ bytes = ap (λ (p : Host × List ℕ). p.1)
    (some_pair (x.host, made (stray_message x)) (to, bytes) is) in
    let none = (made-header (stray_message x) m (ap reading_of text ∙ reads)).2 (omega arith) in
    let number : m.number ≡ c.number = ap (λ (n : CallName). n.number) name in
    absurd (omega arith)

module _ (s : Setup) (l : Looks) where
  -- what a poll gives with the name of a call
  pub poll-tells : (strays : List Stray) (to : Host) (bytes : List ℕ) (m : Message) (c : CallName) → IsServer s.kind
      → Conns s l → 1 ≤ c.number → ((n : ℕ) → busy_of (conn_at l (connection_of c)) c.chan ≡ Some n → n < 2 ^ 32)
      → poll_with s l strays ≡ Some (to, bytes) → reading_of bytes ≡ Ok m → named s to m ≡ c → Told l c
  poll-tells (x ∷ xs) to bytes m c server conns some low is reads name = absurd
      (no-stray s x to bytes m c is reads name some)
  poll-tells [] to bytes m c server conns some low is reads name = of (next_item s l) refl is
    where
      of : (o : Option Item) → next_item s l ≡ o → datagram_for s l o ≡ Some (to, bytes) → Told l c
      of None next is = absurd cc
      of (Some i) next is =
          item-tells s l i (conn_at l (connection_of i.name)) to bytes m c server conns low
          (next-due s l i next) refl is reads name

-- ---- what the server knows behind it

-- what becomes of a call with a datagram: its use, and what the server knows of it then
pub record Given (s : Setup) (l m : Looks) (got : Option (Host × List ℕ)) (c : CallName) (u : ℕ) : Type 0 where
  pub used : ℕ
  pub later : u ≤ used
  pub recalls : Recalls m c used
  pub begins : is_some (call_at m c) ≡ true → is_some (call_at l c) ≡ true
  pub told : (to : Host) (bytes : List ℕ) (n : Message) → got ≡ Some (to, bytes) → reading_of bytes ≡ Ok n
      → named s to n ≡ c → used ≡ l.now

module _ (s : Setup) (c : CallName) where
  -- no datagram
  pub none-given : (l : Looks) (u : ℕ) → Recalls l c u → Given s l l None c u
  none-given l u old =
      record { used = u; later = omega arith; recalls = old; begins = λ is. is; told = λ to bytes n is. absurd cc }

  -- its own datagram
  pub own-given : (l : Looks) (to : Host) (bytes : List ℕ) (m : Message) (u : ℕ) → Recalls l c u → Told l c
      → named s to m ≡ c
      → Given s l (given_body c m m.body (counted (connection_of c) l)) (Some (to, bytes)) c u
  own-given l to bytes m u old tells name =
      let mid : Looks = counted (connection_of c) l in
      let keeps = keeps-counted c (connection_of c) l in
      let firm = firm-counted c (connection_of c) l in
      let rises = keeps.numbers in
      let behind = keeps-body c c m m.body mid in
      record {
        used = l.now;
        later = old.before;
        recalls =
            recalls-keeps c mid (given_body c m m.body mid) l.now behind (firm-body c c m m.body mid)
            (record {
              before = omega arith;
              fours = keeps.fours old.fours;
              young = young-now (connection_of c)
                  (λ r. record r { given = suc r.given; last_use = l.now }) l.conns l.now (λ r. refl) (λ r. refl);
              held = λ is. (elim tells as (λ t. (c.number ≤ number_of (conn_at mid (connection_of c)) c.chan) ⊎
                  (l.now + 600000 ≤ mid.now)) [
                    | inl same ↦ inl (omega arith)
                    | inr busy ↦ absurd (let none = (old.busy c.number busy).1 refl in let some : is_some (call_at l c)
                        ≡ true = is in let not_one = ap (λ (o : Option CallRecord). is_some o) none in cc
                        (some, not_one))
                  ]);
              busy = λ n is. old.busy n (firm.busy n is);
            });
        begins = λ is. lives-some (call_at l c) (call_at (given_body c m m.body mid) c) behind.calls is;
        told = λ at given n is reads called. refl;
      }

  -- another's
  pub other-given : (l : Looks) (to : Host) (bytes : List ℕ) (m : Message) (d : CallName) (u : ℕ) → Recalls l c u
      → reading_of bytes ≡ Ok m
      → named s to m ≡ d → same_name c d ≡ false → Given s l (given_body d m m.body (counted (connection_of d) l))
      (Some (to, bytes)) c u
  other-given l to bytes m d u old reads name other =
      let mid : Looks = counted (connection_of d) l in
      let last : Looks = given_body d m m.body mid in
      let keeps : Keeps c l last = keeps-trans c l mid last (keeps-counted c (connection_of d) l)
      (keeps-body c d m m.body mid) in
      let firm : Firm c l last = firm-trans c l mid last (firm-counted c (connection_of d) l)
      (firm-body c d m m.body mid) in
      record {
        used = u;
        later = omega arith;
        recalls = recalls-keeps c l last u keeps firm old;
        begins = λ is. lives-some (call_at l c) (call_at last c) keeps.calls is;
        told = λ at given n is read called. absurd (
            let p = some_pair (to, bytes) (at, given) is in
            let one : m ≡ n = same-ok m n (sym reads ∙ ap (λ (q : Host × List ℕ). reading_of q.1) p ∙ read) in
            let same : d ≡ c = sym name ∙ ap (λ (q : Message). named s to q) one
            ∙ ap (λ (q : Host × List ℕ). named s q.0 n) p ∙ called in
            let yes' : same_name c d ≡ true = subst (λ (q : CallName). same_name c q ≡ true) (sym same)
            (name_itself c) in
            cc (yes', other));
      }
    where
      same-ok : (a b : Message) → ◌≡◌ {A = Result Message BadMsg} (Ok a) (Ok b) → a ≡ b
      same-ok a b is = cc
