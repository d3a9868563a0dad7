-- What changes that start no call leave: no call waits anew, no channel's number falls, each connection has its
-- channels.
use Rattle.std.proofs.Common.{◌≡◌, ◌≤◌, ℕ, cond, Bool, true, false, length}
use Rattle.std.proofs.Common.{Option, Some, None, option_map, refl, ◌∙◌, arith, sym, subst}
use Rattle.std.specs.Prelude.{slice_get, unwrap_or}
use Rattle.rx_model.specs.declared.names.CallName.{CallName}
use Rattle.rx_rules.specs.CallLooks.{CallLooks}
use Rattle.rx_rules.specs.Life.{Life, is_waiting}
use Rattle.rx_rules.specs.Looks.{CallRecord, ChannelLooks, ConnLooks, Looks, call_at, changed_at, conn_at}
use Rattle.rx_rules.specs.Looks.{fresh_channel, on_call}
use Rattle.rx_rules.specs.Looks.{on_calls, on_channel, on_conn, on_life, on_looks}
use Rattle.rx_model.specs.Names.{Connection, Channel, connection_of, same_connection, same_name}
use Rattle.rx_rules.proofs.CallsLaws.{KeepsNames, changed_if, changed_if-name, call_at-on_calls}
use Rattle.rx_rules.proofs.ConnsLaws.{KeepsConns, conn_if, conn_at-on_conn, number_in, number_in-changed, number_of}
use Rattle.rx_rules.proofs.ConnsLaws.{length-changed}

-- a call that waits behind the change waited before it; none comes, and none goes
abbrev pub Lives : Option CallRecord → Option CallRecord → Type 0
Lives None None = Unit {0}
Lives (Some a) (Some b) = is_waiting b.life ≡ true → is_waiting a.life ≡ true
Lives None (Some b) = ⊥
Lives (Some a) None = ⊥

-- a record has its four channels
abbrev pub Fours : Option ConnLooks → Type 0
Fours None = Unit {0}
Fours (Some r) = length r.channels ≡ 4

-- the same of a call of this name, and of its channel
pub record Keeps (c : CallName) (old new : Looks) : Type 0 where
  pub calls : Lives (call_at old c) (call_at new c)
  pub numbers : number_of (conn_at old (connection_of c)) c.chan ≤ number_of (conn_at new (connection_of c)) c.chan
  pub fours : Fours (conn_at old (connection_of c)) → Fours (conn_at new (connection_of c))

pub lives-refl : (o : Option CallRecord) → Lives o o
lives-refl None = tt
lives-refl (Some a) = λ is. is

lives-trans : (a b d : Option CallRecord) → Lives a b → Lives b d → Lives a d
lives-trans None None None p q = tt
lives-trans None None (Some d) p q = q
lives-trans None (Some b) d p q = absurd p
lives-trans (Some a) None d p q = absurd p
lives-trans (Some a) (Some b) None p q = q
lives-trans (Some a) (Some b) (Some d) p q = λ is. p (q is)

pub keeps-refl : (c : CallName) (l : Looks) → Keeps c l l
keeps-refl c l = record { calls = lives-refl (call_at l c); numbers = omega arith; fours = λ is. is }

pub keeps-trans : (c : CallName) (l m n : Looks) → Keeps c l m → Keeps c m n → Keeps c l n
keeps-trans c l m n p q =
    let low = p.numbers in
    let high = q.numbers in
    record {
      calls = lives-trans (call_at l c) (call_at m c) (call_at n c) p.calls q.calls;
      numbers = omega arith;
      fours = λ is. q.fours (p.fours is);
    }

-- ---- calls

-- a change that makes no record wait
abbrev pub Waits : (CallRecord → CallRecord) → Type 0
Waits change = (k : CallRecord) → is_waiting (change k).life ≡ true → is_waiting k.life ≡ true

lives-map : (change : CallRecord → CallRecord) (o : Option CallRecord) → Waits change → Lives o (option_map change o)
lives-map change None waits = tt
lives-map change (Some k) waits = waits k

pub keeps-on_calls : (c : CallName) (change : CallRecord → CallRecord) (l : Looks) → KeepsNames change → Waits change
    → Keeps c l (on_calls change l)
keeps-on_calls c change l names waits =
    record {
      calls =
          subst (λ (o : Option CallRecord). Lives (call_at l c) o) (sym (call_at-on_calls c change l names))
          (lives-map change (call_at l c) waits);
      numbers = omega arith;
      fours = λ is. is;
    }

waits-if : (test : Bool) (change : CallRecord → CallRecord) (k : CallRecord)
    → (is_waiting (change k).life ≡ true → is_waiting k.life ≡ true)
    → is_waiting (cond test (change k) k).life ≡ true → is_waiting k.life ≡ true
waits-if true change k waits is = waits is
waits-if false change k waits is = is

pub keeps-on_call : (c d : CallName) (change : CallRecord → CallRecord) (l : Looks) → KeepsNames change → Waits change
    → Keeps c l (on_call d change l)
keeps-on_call c d change l names waits =
    keeps-on_calls c (changed_if d change) l (λ k. changed_if-name (same_name k.name d) change k (names k))
    (λ k. waits-if (same_name k.name d) change k (waits k))

pub keeps-on_life : (c d : CallName) (change : Life → Life) (l : Looks)
    → ((x : Life) → is_waiting (change x) ≡ true → is_waiting x ≡ true) → Keeps c l (on_life d change l)
keeps-on_life c d change l waits =
    keeps-on_call c d (λ k. record k { life = change k.life }) l (λ k. refl) (λ k. waits k.life)

pub keeps-on_looks : (c d : CallName) (change : CallLooks → CallLooks) (l : Looks) → Keeps c l (on_looks d change l)
keeps-on_looks c d change l =
    keeps-on_call c d (λ k. record k { looks = change k.looks }) l (λ k. refl) (λ k is. is)

-- ---- connections and channels

-- a change that lowers no number and leaves as many channels
pub record Holds (change : ConnLooks → ConnLooks) : Type 0 where
  pub names : KeepsConns change
  pub numbers : (r : ConnLooks) (n : ℕ) → number_in r.channels n ≤ number_in (change r).channels n
  pub lengths : (r : ConnLooks) → length (change r).channels ≡ length r.channels

numbers-map : (y : Connection) (change : ConnLooks → ConnLooks) (o : Option ConnLooks) (n : ℕ) → Holds change
    → number_of o n ≤ number_of (option_map (conn_if y change) o) n
numbers-map y change None n holds = omega arith
numbers-map y change (Some r) n holds =
    (elim (same_connection r.connection y)
    as (λ b. number_in r.channels n ≤ number_in (cond b (change r) r).channels n) [
      | true ↦ holds.numbers r n
      | false ↦ omega arith
    ])

fours-map : (y : Connection) (change : ConnLooks → ConnLooks) (o : Option ConnLooks) → Holds change → Fours o
    → Fours (option_map (conn_if y change) o)
fours-map y change None holds is = tt
fours-map y change (Some r) holds is =
    (elim (same_connection r.connection y) as (λ b. length (cond b (change r) r).channels ≡ 4) [
      | true ↦ holds.lengths r ∙ is
      | false ↦ is
    ])

pub keeps-on_conn : (c : CallName) (y : Connection) (change : ConnLooks → ConnLooks) (l : Looks) → Holds change
    → Keeps c l (on_conn y change l)
keeps-on_conn c y change l holds =
    let is = conn_at-on_conn (connection_of c) y change l holds.names in
    record {
      calls = lives-refl (call_at l c);
      numbers =
          subst (λ (o : Option ConnLooks). number_of (conn_at l (connection_of c)) c.chan ≤ number_of o c.chan) (sym is)
          (numbers-map y change (conn_at l (connection_of c)) c.chan holds);
      fours = λ fours. subst Fours (sym is) (fours-map y change (conn_at l (connection_of c)) holds fours);
    }

-- a change of what a channel owes
pub keeps-on_channel : (c : CallName) (ch : Channel) (change : ChannelLooks → ChannelLooks) (l : Looks)
    → ((q : ChannelLooks) → (change q).number ≡ q.number) → Keeps c l (on_channel ch change l)
keeps-on_channel c ch change l same =
    keeps-on_conn c ch.connection (λ r. record r { channels = changed_at ch.chan change r.channels }) l
    (record {
      names = λ r. refl;
      numbers = λ r n. number_in-changed r.channels ch.chan n change
          (let is = same (unwrap_or (slice_get r.channels ch.chan) (fresh_channel 0)) in omega arith);
      lengths = λ r. length-changed r.channels ch.chan change;
    })
