-- What a start leaves of the other calls, and what it makes of its own.
use Rattle.std.proofs.Common.{◌≡◌, ◌≤◌, ◌<◌, ℕ, cond, if◌then◌else◌, true, false, [], ◌∷◌, ◌++◌, length}
use Rattle.std.proofs.Common.{Option, Some, None, option_map, refl, ◌∙◌, ap, arith, sym, subst, map}
use Rattle.std.specs.List.{find, list_any}
use Rattle.rx_model.specs.declared.names.CallName.{CallName}
use Rattle.rx_rules.specs.CallLooks.{fresh_call}
use Rattle.rx_rules.specs.Life.{Life}
use Rattle.rx_rules.specs.Looks.{CallRecord, ConnLooks, Looks, call_at, changed_at, conn_at, fresh_channel}
use Rattle.rx_model.specs.Names.{Connection, connection_of, same_connection, same_name}
use Rattle.rx_rules.specs.Records.{started, with_call}
use Rattle.rx_rules.specs.Setup.{Setup, pace_of}
use Rattle.rx_rules.proofs.CallsLaws.{call_at-on_calls}
use Rattle.rx_rules.proofs.ConnsLaws.{conn_if, conn_at-on_conn, length-changed, number_in, number_in-changed}
use Rattle.rx_rules.proofs.ConnsLaws.{number_in-here, number_of}
use Rattle.rx_rules.proofs.FindLaws.{find_passes, list_any-none, find-last, find-before}
use Rattle.rx_rules.proofs.KeepsLaws.{Fours, Keeps, Lives, lives-refl}
use Rattle.rx_model.proofs.NameLaws.{connection_is, name_is, name_itself}

-- the change that a start makes of each record
abbrev pub replaced : CallRecord → CallRecord → CallRecord
replaced new k = if same_name k.name new.name then new else k

replaced-name : (new k : CallRecord) → (replaced new k).name ≡ k.name
replaced-name new k =
    (elim (same_name k.name new.name) as (λ b. same_name k.name new.name ≡ b → (cond b new k).name ≡ k.name) [
      | true ↦ λ same. sym (name_is k.name new.name same)
      | false ↦ λ other. refl
    ]) refl

-- another call is not replaced
kept : (new k : CallRecord) (c : CallName) → same_name k.name c ≡ true → same_name c new.name ≡ false → replaced new k
    ≡ k
kept new k c is other = rw (name_is k.name c is, other) refl

-- the record of another call
pub call_at-other : (c : CallName) (new : CallRecord) (l : Looks) → same_name c new.name ≡ false
    → (o : Option CallRecord) → call_at l c ≡ o → find (λ k. same_name k.name c) (with_call new l.calls) ≡ o
call_at-other c new l other o is =
    (elim (list_any (λ k. same_name k.name new.name) l.calls)
    as (λ b. find (λ k. same_name k.name c) (cond b (map (replaced new) l.calls) (l.calls ++ new ∷ [])) ≡ o) [
      | true ↦ call_at-on_calls c (replaced new) l (replaced-name new) ∙ of_found o is
      | false ↦ behind o is
    ])
  where
    of_found : (p : Option CallRecord) → call_at l c ≡ p → option_map (replaced new) (call_at l c) ≡ p
    of_found None is = rw is refl
    of_found (Some k) is =
        rw is (ap (λ (j : CallRecord). Some j) (kept new k c
        (find_passes (λ j. same_name j.name c) l.calls k is) other))

    turned : same_name new.name c ≡ true → ⊥
    turned is =
        let itself : same_name c new.name ≡ true =
        subst (λ (n : CallName). same_name c n ≡ true) (sym (name_is new.name c is)) (name_itself c) in
        absurd (cc (other, itself))

    behind : (p : Option CallRecord) → call_at l c ≡ p → find (λ k. same_name k.name c) (l.calls ++ new ∷ []) ≡ p
    behind (Some k) is = find-before (λ j. same_name j.name c) l.calls new k is
    behind None is =
        find-last (λ j. same_name j.name c) l.calls new is
        ∙ (elim (same_name new.name c) as (λ b. same_name new.name c ≡ b → cond b (Some new) None ≡ None) [
          | true ↦ λ same. absurd (turned same)
          | false ↦ λ apart. refl
        ]) refl

-- its own record, where it had none
pub call_at-new : (c : CallName) (new : CallRecord) (l : Looks) → new.name ≡ c → call_at l c ≡ None
    → find (λ k. same_name k.name c) (with_call new l.calls) ≡ Some new
call_at-new c new l named none =
    rw (list_any-none (λ k. same_name k.name new.name) l.calls (rw named none))
    (find-last (λ k. same_name k.name c) l.calls new none ∙ rw (named, name_itself c) refl)

-- ---- the channel's number

-- the channels behind the start of a call with this name
abbrev pub numbered : CallName → ConnLooks → ConnLooks
numbered d r = record r { channels = changed_at d.chan (λ q. fresh_channel d.number) r.channels }

numbers-started : (d : CallName) (x : Connection) (o : Option ConnLooks) (n : ℕ)
    → ((r : ConnLooks) → o ≡ Some r → same_connection r.connection x ≡ true → number_in r.channels d.chan ≤ d.number)
    → number_of o n ≤ number_of (option_map (conn_if x (numbered d)) o) n
numbers-started d x None n low = omega arith
numbers-started d x (Some r) n low =
    (elim (same_connection r.connection x)
    as (λ b. same_connection r.connection x ≡ b
    → number_in r.channels n ≤ number_in (cond b (numbered d r) r).channels n) [
      | true ↦ λ same. number_in-changed r.channels d.chan n (λ q. fresh_channel d.number) (low r refl same)
      | false ↦ λ apart. omega arith
    ]) refl

fours-started : (d : CallName) (x : Connection) (o : Option ConnLooks) → Fours o
    → Fours (option_map (conn_if x (numbered d)) o)
fours-started d x None fours = tt
fours-started d x (Some r) fours =
    (elim (same_connection r.connection x) as (λ b. length (cond b (numbered d r) r).channels ≡ 4) [
      | true ↦ length-changed r.channels d.chan (λ q. fresh_channel d.number) ∙ fours
      | false ↦ fours
    ])

-- the records of connections behind a start
conn_at-started : (s : Setup) (life : Life) (d : CallName) (l : Looks) (x : Connection)
    → conn_at (started s life d l) x ≡ option_map (conn_if (connection_of d) (numbered d)) (conn_at l x)
conn_at-started s life d l x = conn_at-on_conn x (connection_of d) (numbered d) l (λ r. refl)

-- where the channel's number is at most the new one's, the record of a connection isn't behind the one that starts
low-at : (d : CallName) (l : Looks) (x : Connection) (r : ConnLooks)
    → number_of (conn_at l (connection_of d)) d.chan ≤ d.number
    → conn_at l x ≡ Some r → same_connection r.connection (connection_of d) ≡ true
    → number_in r.channels d.chan ≤ d.number
low-at d l x r low is same =
    let own : r.connection ≡ x =
    connection_is r.connection x (find_passes (λ q. same_connection q.connection x) l.conns r is) in
    let at : x ≡ connection_of d = sym own ∙ connection_is r.connection (connection_of d) same in
    let there : conn_at l (connection_of d) ≡ Some r = subst (λ (y : Connection). conn_at l y ≡ Some r) at is in
    subst (λ (o : Option ConnLooks). number_of o d.chan ≤ d.number) there low

-- a start carries on what is known of another call
pub keeps-started : (s : Setup) (life : Life) (c d : CallName) (l : Looks) → same_name c d ≡ false
    → number_of (conn_at l (connection_of d)) d.chan ≤ d.number → Keeps c l (started s life d l)
keeps-started s life c d l other low =
    let is = conn_at-started s life d l (connection_of c) in
    record {
      calls =
          subst (λ (o : Option CallRecord). Lives (call_at l c) o)
          (sym (call_at-other c (record { name = d; life = life; looks = fresh_call (pace_of s) l.now }) l
          other (call_at l c) refl))
          (lives-refl (call_at l c));
      numbers =
          subst (λ (o : Option ConnLooks). number_of (conn_at l (connection_of c)) c.chan ≤ number_of o c.chan) (sym is)
          (numbers-started d (connection_of d) (conn_at l (connection_of c)) c.chan
          (λ r there same. low-at d l (connection_of c) r low there same));
      fours = λ fours. subst Fours (sym is) (fours-started d (connection_of d) (conn_at l (connection_of c)) fours);
    }

here : (d : CallName) (o : Option ConnLooks) (r : ConnLooks) → o ≡ Some r
    → same_connection r.connection (connection_of d) ≡ true → d.chan < 4 → Fours o
    → number_of (option_map (conn_if (connection_of d) (numbered d)) o) d.chan ≡ d.number
here d None r is same chan fours = absurd cc
here d (Some q) r is same chan fours =
    let one : q ≡ r = cc (is) in
    let own : same_connection q.connection (connection_of d) ≡ true =
    subst (λ (p : ConnLooks). same_connection p.connection (connection_of d) ≡ true) (sym one) same in
    rw own (number_in-here q.channels d.chan d.number (let four : length q.channels ≡ 4 = fours in omega arith))

-- the number of the channel of the call that starts, where its connection is there
pub number-started : (s : Setup) (life : Life) (d : CallName) (l : Looks) (r : ConnLooks)
    → conn_at l (connection_of d) ≡ Some r → d.chan < 4 → Fours (conn_at l (connection_of d))
    → number_of (conn_at (started s life d l) (connection_of d)) d.chan ≡ d.number
number-started s life d l r is chan fours =
    rw (conn_at-started s life d l (connection_of d))
    (here d (conn_at l (connection_of d)) r is
    (find_passes (λ q. same_connection q.connection (connection_of d)) l.conns r is) chan fours)

-- each connection keeps its channels
pub fours-start : (s : Setup) (life : Life) (d : CallName) (l : Looks) (x : Connection) → Fours (conn_at l x)
    → Fours (conn_at (started s life d l) x)
fours-start s life d l x fours =
    subst Fours (sym (conn_at-started s life d l x)) (fours-started d (connection_of d) (conn_at l x) fours)
