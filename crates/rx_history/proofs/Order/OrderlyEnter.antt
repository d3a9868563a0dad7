-- A connection is entered: there is a place for it, and where another is forgotten for it no call of that one lives.
use Rattle.std.proofs.Common.{◌≡◌, ◌<◌, ◌||◌, ℕ, zero, suc, cond, if◌then◌else◌, not, Bool, true, false, List, []}
use Rattle.std.proofs.Common.{◌∷◌, length, map, filter, Option, Some, None, is_some, refl, ◌∙◌, ap, sym, subst}
use Rattle.std.proofs.Common.{inl, inr, arith}
use Rattle.std.proofs.lemmas.Bool.Decides.{nat_tests}
use Rattle.std.proofs.lemmas.List.{length-map}
use Rattle.std.specs.List.{list_any}
use Rattle.rx_model.specs.declared.names.CallName.{CallName}
use Rattle.rx_model.specs.Names.{Channel, Connection, channel_of, channels_of, connection_of, same_connection}
use Rattle.rx_rules.specs.Life.{is_live}
use Rattle.rx_rules.specs.Looks.{CallRecord, ConnLooks, Looks, call_at, call_named, conn_at, is_call, latest}
use Rattle.rx_rules.specs.Records.{entered, fresh_conn, has_live, has_place, idle_conn, is_full, is_idle, placed}
use Rattle.rx_rules.specs.Records.{with_conn}
use Rattle.rx_rules.specs.Setup.{Setup, Kind, Server, Client, is_client}
use Rattle.rx_model.proofs.NameLaws.{both, connection_is, connection_sym, neither, not_true}
use Rattle.rx_rules.proofs.ConnsLaws.{channel_number, number_of}
use Rattle.rx_rules.proofs.EnterLaws.{fresh_channels}
use Rattle.rx_rules.proofs.EveryLaws.{Every, filter-passes}
use Rattle.rx_rules.proofs.FindLaws.{list_any-none}
use Rattle.rx_rules.proofs.LeastLaws.{least-keeps}
use Rattle.rx_history.proofs.Differ.{Differ, by_connection, every_map, every_other, none_change}
use Rattle.rx_history.proofs.Openings.{only-new}
use Rattle.rx_history.proofs.Order.Orderly.{HasFour, IsLatest, LivesAt, Orderly, OrderlyConns}
use Rattle.rx_history.proofs.Places.{found-placed, is_none}
use Rattle.rx_history.proofs.Order.OrderlyMore.{orderly_more}
use Rattle.rx_history.proofs.Laws.ShownLaws.{given_way}

-- ---- in place of one that is idle

differ-instead : (new old : ConnLooks) (rs : List ConnLooks) → Every (λ r. by_connection r new ≡ false) rs
    → Differ by_connection rs
    → Differ by_connection (map (given_way new old) rs)
differ-instead new old [] others differ = tt
differ-instead new old (r ∷ rs) others differ =
    (elim (same_connection r.connection old.connection) as (λ b. same_connection r.connection old.connection ≡ b
    → Every (λ q. by_connection q (cond b new r) ≡ false) (map (given_way new old) rs) × Differ by_connection
    (map (given_way new old) rs)) [
      | true ↦ λ same. (
          let at : r.connection ≡ old.connection = connection_is r.connection old.connection same in
          let none = subst (λ (x : Connection). Every
          (λ (q : ConnLooks). same_connection q.connection x ≡ false) rs) at differ.0 in
          let stay : map (given_way new old) rs ≡ rs = none_change (λ q. same_connection q.connection old.connection)
          (λ q. new) rs none in
          subst (λ (qs : List ConnLooks). Every
          (λ (q : ConnLooks). by_connection q new ≡ false) qs × Differ by_connection qs) (sym stay)
          (others.1, differ.1))
      | false ↦ λ apart. (
        every_map (λ (q : ConnLooks). by_connection q r ≡ false) (λ (q : ConnLooks). by_connection q r ≡ false)
            (given_way new old) rs
            (λ q other. either (same_connection q.connection old.connection) q other) differ.0,
        differ-instead new old rs others.1 differ.1,
      )
    ]) refl
  where
    either : (b : Bool) (q : ConnLooks) → by_connection q r ≡ false → by_connection (cond b new q) r ≡ false
    either true q other = connection_sym new.connection r.connection ∙ others.0
    either false q other = other

conns-instead : (s : Setup) (new old : ConnLooks) (l : Looks) → is_client s.kind ≡ false → HasFour new
    → conn_at l new.connection ≡ None
    → OrderlyConns s l.conns → OrderlyConns s (map (given_way new old) l.conns)
conns-instead s new old l server four none o =
    let p : ConnLooks → Bool = λ r. same_connection r.connection new.connection in
    record {
      differ = differ-instead new old l.conns (every_other p l.conns (list_any-none p l.conns none)) o.differ;
      fours = every_map HasFour HasFour (given_way new old) l.conns
          (λ r is. either (same_connection r.connection old.connection) r is) o.fours;
      few = (let low = o.few in omega (arith, length-map l.conns (given_way new old)));
      low = λ client. absurd (cc (client, server));
    }
  where
    either : (b : Bool) (r : ConnLooks) → HasFour r → HasFour (cond b new r)
    either true r is = four
    either false r is = is

each-channel : (p : Channel → Bool) (x : Connection) (n : ℕ) → n < 4 → list_any p (channels_of x) ≡ false
    → p (record { connection = x; chan = n }) ≡ false
each-channel p x zero low none = (neither (p (record { connection = x; chan = 0 })) _ none).0
each-channel p x (suc zero) low none =
    (neither (p (record { connection = x; chan = 1 })) _ (neither (p (record { connection = x; chan = 0 })) _ none).1).0
each-channel p x (suc (suc zero)) low none =
    (neither (p (record { connection = x; chan = 2 })) _ (neither (p (record { connection = x; chan = 1 })) _
    (neither (p (record { connection = x; chan = 0 })) _ none).1).1).0
each-channel p x (suc (suc (suc zero))) low none =
    (neither (p (record { connection = x; chan = 3 })) _ (neither (p (record { connection = x; chan = 2 })) _
    (neither (p (record { connection = x; chan = 1 })) _
    (neither (p (record { connection = x; chan = 0 })) _ none).1).1).1).0
each-channel p x (suc (suc (suc (suc n)))) low none = absurd (omega arith)

-- the latest call of its channel is what is found there
pub latest_is : (l : Looks) (c : CallName) → IsLatest l c → latest l (channel_of c) ≡ call_at l c
latest_is l c is = ap (λ (n : ℕ). call_at l (call_named (channel_of c) n)) (channel_number l (channel_of c) ∙ is.number)

idle-apart : (l : Looks) (old : ConnLooks) (c : CallName) → is_idle l old ≡ true → LivesAt l c → IsLatest l c
    → same_connection old.connection (connection_of c) ≡ false
idle-apart l old c idle lives is = of (same_connection old.connection (connection_of c)) refl
  where
    of : (b : Bool) → same_connection old.connection (connection_of c) ≡ b
        → same_connection old.connection (connection_of c) ≡ false
    of false other = other
    of true same =
        (let at : old.connection ≡ connection_of c = connection_is old.connection (connection_of c) same in
        let rests = not_true (has_live l old.connection) (both (not (has_live l old.connection)) _ idle).0 in
        let none = subst (λ (x : Connection). has_live l x ≡ false) at rests in
        let dead = each-channel (λ ch. is_call (λ k. is_live k.life) (latest l ch))
        (connection_of c) c.chan is.chan none in
        let live : is_call (λ k. is_live k.life) (latest l (channel_of c)) ≡ true =
        ap (λ (o : Option CallRecord). is_call (λ k. is_live k.life) o) (latest_is l c is) ∙ lives in
        absurd (cc (dead, live)))

orderly-instead : (s : Setup) (new old : ConnLooks) (l : Looks) → is_client s.kind ≡ false
    → new.channels ≡ fresh_channels new.connection
    → conn_at l new.connection ≡ None → is_idle l old ≡ true → Orderly s l → Orderly s (placed new (Some old) l)
orderly-instead s new old l server fresh none idle o =
    record {
      conns = conns-instead s new old l server (ap length fresh) none o.conns;
      few = o.few;
      latest = λ c lives. (
          let is = o.latest c lives in
          record {
            chan = is.chan;
            number = number (connection_of c) c.chan (idle-apart l old c idle lives is) ∙ is.number;
          });
    }
  where
    number : (y : Connection) (n : ℕ) → same_connection old.connection y ≡ false
        → number_of (conn_at (placed new (Some old) l) y) n ≡ number_of (conn_at l y) n
    number y n apart =
        (elim (found-placed new.connection y new (Some old) l refl (λ is. none) apart (conn_at l y) refl)
        as (λ f. number_of (conn_at (placed new (Some old) l) y) n ≡ number_of (conn_at l y) n) [
          | inl same ↦ ap (λ (q : Option ConnLooks). number_of q n) same
          | inr came ↦ only-new new.connection new (conn_at (placed new (Some old) l) y) n fresh came.1
              ∙ sym (ap (λ (q : Option ConnLooks). number_of q n) came.0)
        ])

-- ---- a server enters it

idle-is : (l : Looks) (old : ConnLooks) → idle_conn l ≡ Some old → is_idle l old ≡ true
idle-is l old is =
    least-keeps (λ (r : ConnLooks). is_idle l r ≡ true) (λ r. r.last_use) (filter (is_idle l) l.conns)
    (filter-passes (is_idle l) l.conns) old is

orderly-placed : (s : Setup) (new : ConnLooks) (l : Looks) → is_client s.kind ≡ false
    → new.channels ≡ fresh_channels new.connection
    → conn_at l new.connection ≡ None → has_place s l ≡ true → Orderly s l
    → Orderly s (placed new (if is_full s l then idle_conn l else None) l)
orderly-placed s new l server fresh none place o = of (is_full s l) refl place
  where
    idle : (q : Option ConnLooks) → idle_conn l ≡ q → (false || is_some q) ≡ true → Orderly s (placed new q l)
    idle None is place = absurd cc
    idle (Some old) is place = orderly-instead s new old l server fresh none (idle-is l old is) o

    of : (b : Bool) → is_full s l ≡ b → (not b || is_some (idle_conn l)) ≡ true
        → Orderly s (placed new (if b then idle_conn l else None) l)
    of true full place = idle (idle_conn l) refl place
    of false free place =
        orderly_more s new l fresh none (let low : length l.conns < s.limits.conns = grind (arith, nat_tests) in low)
        (λ client. absurd (cc (client, server))) o

orderly-with_conn : (s : Setup) (kind : Kind) (x : Connection) (l : Looks) → is_client s.kind ≡ is_client kind
    → conn_at l x ≡ None
    → has_place s l ≡ true → Orderly s l → Orderly s (with_conn s kind x l)
orderly-with_conn s (Client host epoch) x l same none place o = o
orderly-with_conn s (Server service nonces) x l same none place o =
    orderly-placed s (fresh_conn x x.host service 1 l) l same refl none place o

-- where there is a place for it
pub orderly_entered : (s : Setup) (x : Connection) (l : Looks)
    → (is_client s.kind ≡ false → is_some (conn_at l x) ≡ false → has_place s l ≡ true)
    → Orderly s l → Orderly s (entered s x l)
orderly_entered s x l place o =
    (elim (is_some (conn_at l x)) as (λ b. is_some (conn_at l x) ≡ b → Orderly s (cond b l (with_conn s s.kind x l))) [
      | true ↦ λ known. o
      | false ↦ λ unknown. of s.kind refl unknown
    ]) refl
  where
    of : (kind : Kind) → s.kind ≡ kind → is_some (conn_at l x) ≡ false → Orderly s (with_conn s kind x l)
    of (Client host epoch) is unknown = o
    of (Server service nonces) is unknown =
        orderly-with_conn s (Server service nonces) x l (ap is_client is) (is_none (conn_at l x) unknown)
        (place (ap is_client is) unknown) o
