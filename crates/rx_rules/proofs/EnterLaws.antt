-- What entering a connection leaves and makes, where none is forgotten for it.
use Rattle.std.proofs.Common.{◌≡◌, ◌≤◌, ℕ, cond, if◌then◌else◌, Bool, true, false, List, [], length, map}
use Rattle.std.proofs.Common.{Option, Some, None, refl, ap, arith, sym, subst, is_some}
use Rattle.rx_model.specs.declared.names.CallName.{CallName}
use Rattle.rx_rules.specs.Looks.{ChannelLooks, ConnLooks, Looks, conn_at, fresh_channel}
use Rattle.rx_rules.specs.Looks.{call_at}
use Rattle.rx_model.specs.Names.{Connection, channels_of, connection_of, same_connection}
use Rattle.rx_rules.specs.Records.{entered, fresh_conn, idle_conn, is_full, placed, used, with_conn}
use Rattle.rx_rules.specs.Setup.{Setup, Kind, Server, Client, IsServer}
use Rattle.rx_rules.proofs.ConnsLaws.{number_of}
use Rattle.rx_rules.proofs.FindLaws.{find-before, find-last}
use Rattle.rx_rules.proofs.KeepsLaws.{Fours, Keeps, keeps-on_conn, keeps-refl, lives-refl}
use Rattle.rx_model.proofs.NameLaws.{connection_itself}

-- the channels of a connection that is entered
abbrev pub fresh_channels : Connection → List ChannelLooks
fresh_channels x = map (λ ch. fresh_channel 0) (channels_of x)

fresh-fours : (test : Bool) (x : Connection) (new : ConnLooks) → new.channels ≡ fresh_channels x
    → Fours (cond test (Some new) None)
fresh-fours true x new is = ap (λ (qs : List ChannelLooks). length qs) is
fresh-fours false x new is = tt

numbers-behind : (y x : Connection) (new : ConnLooks) (l : Looks) (n : ℕ) → new.channels ≡ fresh_channels x
    → (o : Option ConnLooks) → conn_at l y ≡ o → number_of o n ≤ number_of (conn_at (placed new None l) y) n
numbers-behind y x new l n fresh None none = omega arith
numbers-behind y x new l n fresh (Some r) is =
    rw (find-before (λ q. same_connection q.connection y) l.conns new r is) (omega arith)

fours-behind : (y x : Connection) (new : ConnLooks) (l : Looks) → new.channels ≡ fresh_channels x
    → (o : Option ConnLooks) → conn_at l y ≡ o → Fours o → Fours (conn_at (placed new None l) y)
fours-behind y x new l fresh None none fours =
    rw (find-last (λ q. same_connection q.connection y) l.conns new none)
    (fresh-fours (same_connection new.connection y) x new fresh)
fours-behind y x new l fresh (Some r) is fours =
    rw (find-before (λ q. same_connection q.connection y) l.conns new r is) fours

-- a new connection behind the others
keeps-placed : (c : CallName) (x : Connection) (new : ConnLooks) (l : Looks) → new.channels ≡ fresh_channels x
    → Keeps c l (placed new None l)
keeps-placed c x new l fresh =
    record {
      calls = lives-refl (call_at l c);
      numbers = numbers-behind (connection_of c) x new l c.chan fresh (conn_at l (connection_of c)) refl;
      fours = λ fours. fours-behind (connection_of c) x new l fresh (conn_at l (connection_of c)) refl fours;
    }

-- where nothing was forgotten, a new one stands behind the others
none-placed : (new : ConnLooks) (o : Option ConnLooks) (l : Looks) → (placed new o l).forgotten ≡ []
    → placed new o l ≡ placed new None l
none-placed new None l none = refl
none-placed new (Some old) l none = absurd cc

pub keeps-with_conn : (c : CallName) (s : Setup) (kind : Kind) (x : Connection) (l : Looks)
    → (with_conn s kind x l).forgotten ≡ [] → Keeps c l (with_conn s kind x l)
keeps-with_conn c s (Client host epoch) x l none = keeps-refl c l
keeps-with_conn c s (Server service nonces) x l none =
    subst (λ (m : Looks). Keeps c l m)
    (sym (none-placed (fresh_conn x x.host service 1 l) (if is_full s l then idle_conn l else None) l none))
    (keeps-placed c x (fresh_conn x x.host service 1 l) l refl)

pub keeps-entered : (c : CallName) (s : Setup) (x : Connection) (l : Looks) → (entered s x l).forgotten ≡ []
    → Keeps c l (entered s x l)
keeps-entered c s x l none =
    (elim (is_some (conn_at l x))
    as (λ b. (cond b l (with_conn s s.kind x l)).forgotten ≡ [] → Keeps c l (cond b l (with_conn s s.kind x l))) [
      | true ↦ λ none. keeps-refl c l
      | false ↦ λ none. keeps-with_conn c s s.kind x l none
    ]) none

-- its record is there
there-placed : (x : Connection) (service : ℕ) (l : Looks) → is_some (conn_at l x) ≡ false
    → is_some (conn_at (placed (fresh_conn x x.host service 1 l) None l) x) ≡ true
there-placed x service l none =
    rw (
      find-last (λ q. same_connection q.connection x) l.conns (fresh_conn x x.host service 1 l)
          (is_none (conn_at l x) none),
      connection_itself x,
    ) refl
  where
    is_none : (o : Option ConnLooks) → is_some o ≡ false → o ≡ None
    is_none None is = refl
    is_none (Some r) is = absurd cc

there-with_conn : (s : Setup) (kind : Kind) (x : Connection) (l : Looks) → IsServer kind
    → (with_conn s kind x l).forgotten ≡ [] → is_some (conn_at l x) ≡ false
    → is_some (conn_at (with_conn s kind x l) x) ≡ true
there-with_conn s (Client host epoch) x l server none away = absurd server
there-with_conn s (Server service nonces) x l server none away =
    subst (λ (m : Looks). is_some (conn_at m x) ≡ true)
    (sym (none-placed (fresh_conn x x.host service 1 l) (if is_full s l then idle_conn l else None) l none))
    (there-placed x service l away)

pub there-entered : (s : Setup) (x : Connection) (l : Looks) → IsServer s.kind → (entered s x l).forgotten ≡ []
    → is_some (conn_at (entered s x l) x) ≡ true
there-entered s x l server none =
    (elim (is_some (conn_at l x))
    as (λ b. is_some (conn_at l x) ≡ b → (cond b l (with_conn s s.kind x l)).forgotten ≡ []
    → is_some (conn_at (cond b l (with_conn s s.kind x l)) x) ≡ true) [
      | true ↦ λ is none. is
      | false ↦ λ is none. there-with_conn s s.kind x l server none is
    ]) refl none

-- a connection is used
pub keeps-used : (c : CallName) (x : Connection) (l : Looks) → Keeps c l (used x l)
keeps-used c x l =
    keeps-on_conn c x (λ r. record r { last_use = l.now }) l
    (record { names = λ r. refl; numbers = λ r n. omega arith; lengths = λ r. refl })

-- where nothing is forgotten behind it, nothing was before
forgot-placed : (new : ConnLooks) (o : Option ConnLooks) (l : Looks) → (placed new o l).forgotten ≡ [] → l.forgotten
    ≡ []
forgot-placed new None l none = none
forgot-placed new (Some old) l none = absurd cc

forgot-with_conn : (s : Setup) (kind : Kind) (x : Connection) (l : Looks) → (with_conn s kind x l).forgotten ≡ []
    → l.forgotten ≡ []
forgot-with_conn s (Client host epoch) x l none = none
forgot-with_conn s (Server service nonces) x l none =
    forgot-placed (fresh_conn x x.host service 1 l) (if is_full s l then idle_conn l else None) l none

pub forgot-entered : (s : Setup) (x : Connection) (l : Looks) → (entered s x l).forgotten ≡ [] → l.forgotten ≡ []
forgot-entered s x l none =
    (elim (is_some (conn_at l x)) as (λ b. (cond b l (with_conn s s.kind x l)).forgotten ≡ [] → l.forgotten ≡ []) [
      | true ↦ λ none. none
      | false ↦ λ none. forgot-with_conn s s.kind x l none
    ]) none
