-- Changes that bring no call to life and leave each connection its name and its channels' numbers.
use Rattle.std.proofs.Common.{◌≡◌, ℕ, zero, suc, cond, is_some, Bool, true, false, List, [], ◌∷◌, length}
use Rattle.std.proofs.Common.{refl, ◌∙◌}
use Rattle.rx_model.specs.declared.names.CallName.{CallName}
use Rattle.rx_model.specs.Names.{Connection, Channel, same_connection, same_name}
use Rattle.rx_rules.specs.CallLooks.{CallLooks}
use Rattle.rx_rules.specs.Life.{Life, is_live, is_waiting}
use Rattle.rx_rules.specs.Looks.{CallRecord, ChannelLooks, ConnLooks, Looks, changed_at}
use Rattle.rx_rules.specs.Looks.{on_call, on_calls, on_channel, on_conn, on_life, on_looks}
use Rattle.rx_rules.specs.Received.{packet_at}
use Rattle.rx_rules.proofs.CallsLaws.{changed_if}
use Rattle.rx_rules.proofs.ConnsLaws.{conn_if, length-changed, number_in}
use Rattle.rx_history.proofs.LifeFalls.{Falls}
use Rattle.rx_history.proofs.Pairwise.{Pairwise, pairs_map, pairs_refl, pairs_trans}

-- ---- a call

-- its packet 1 was kept
abbrev pub has_first : CallLooks → Bool
has_first k = is_some (packet_at k.received.kept 1)

-- a change keeps it
abbrev pub KeepsFirst : (CallLooks → CallLooks) → Type 0
KeepsFirst change = (k : CallLooks) → has_first k ≡ true → has_first (change k) ≡ true

-- a call whose life falls, and that keeps its packet 1
pub record Fades (a b : CallRecord) : Type 0 where
  pub name : b.name ≡ a.name
  pub live : is_live b.life ≡ true → is_live a.life ≡ true
  pub waiting : is_waiting b.life ≡ true → is_waiting a.life ≡ true
  pub first : has_first a.looks ≡ true → has_first b.looks ≡ true

-- it stays
pub fades_refl : (k : CallRecord) → Fades k k
fades_refl k = record { name = refl; live = λ is. is; waiting = λ is. is; first = λ is. is }

fades-trans : (a b c : CallRecord) → Fades a b → Fades b c → Fades a c
fades-trans a b c p q =
    record {
      name = q.name ∙ p.name;
      live = λ is. p.live (q.live is);
      waiting = λ is. p.waiting (q.waiting is);
      first = λ is. q.first (p.first is);
    }

-- its life falls
pub fades_life : (k : CallRecord) (life : Life) → Falls k.life life → Fades k (record k { life = life })
fades_life k life falls = record { name = refl; live = falls.live; waiting = falls.waiting; first = λ is. is }

-- a change that a test allows
pub fades_if : (test : Bool) (a b : CallRecord) → Fades a b → Fades a (cond test b a)
fades_if true a b fades = fades
fades_if false a b fades = fades_refl a

-- ---- a connection

-- it has its name and as many channels
pub record Alike (a b : ConnLooks) : Type 0 where
  pub connection : b.connection ≡ a.connection
  pub length : length b.channels ≡ length a.channels

-- and their numbers
pub record Same (a b : ConnLooks) : Type 0 where
  pub alike : Alike a b
  pub numbers : (n : ℕ) → number_in b.channels n ≡ number_in a.channels n

-- it stays
pub same_refl : (r : ConnLooks) → Same r r
same_refl r = record { alike = record { connection = refl; length = refl }; numbers = λ n. refl }

same-trans : (a b c : ConnLooks) → Same a b → Same b c → Same a c
same-trans a b c p q =
    record {
      alike = record { connection = q.alike.connection ∙ p.alike.connection; length = q.alike.length ∙ p.alike.length };
      numbers = λ n. q.numbers n ∙ p.numbers n;
    }

-- a change that a test allows
pub same_if : (test : Bool) (a b : ConnLooks) → Same a b → Same a (cond test b a)
same_if true a b same = same
same_if false a b same = same_refl a

-- ---- a node

-- each call fades, and each connection stays the same
pub record Dims (l m : Looks) : Type 0 where
  pub calls : Pairwise Fades l.calls m.calls
  pub conns : Pairwise Same l.conns m.conns

-- nothing changes
pub dims_refl : (l : Looks) → Dims l l
dims_refl l = record { calls = pairs_refl Fades l.calls fades_refl; conns = pairs_refl Same l.conns same_refl }

-- one change behind another
pub dims_trans : (l m n : Looks) → Dims l m → Dims m n → Dims l n
dims_trans l m n p q =
    record {
      calls = pairs_trans Fades l.calls m.calls n.calls fades-trans p.calls q.calls;
      conns = pairs_trans Same l.conns m.conns n.conns same-trans p.conns q.conns;
    }

-- by a test
pub dims_if : (test : Bool) (l m n : Looks) → Dims l m → Dims l n → Dims l (cond test m n)
dims_if true l m n p q = p
dims_if false l m n p q = q

-- every call fades
pub dims_all : (change : CallRecord → CallRecord) (l : Looks) → ((k : CallRecord) → Fades k (change k))
    → Dims l (on_calls change l)
dims_all change l fades =
    record { calls = pairs_map Fades change l.calls fades; conns = pairs_refl Same l.conns same_refl }

-- the call of a name
pub dims_call : (c : CallName) (change : CallRecord → CallRecord) (l : Looks)
    → ((k : CallRecord) → Fades k (change k)) → Dims l (on_call c change l)
dims_call c change l fades = dims_all (changed_if c change) l
    (λ k. fades_if (same_name k.name c) k (change k) (fades k))

-- the life of a call
pub dims_life : (c : CallName) (change : Life → Life) (l : Looks) → ((x : Life) → Falls x (change x))
    → Dims l (on_life c change l)
dims_life c change l falls =
    dims_call c (λ k. record k { life = change k.life }) l (λ k. fades_life k (change k.life) (falls k.life))

-- what passed at the end of a call
pub dims_looks : (c : CallName) (change : CallLooks → CallLooks) (l : Looks) → KeepsFirst change
    → Dims l (on_looks c change l)
dims_looks c change l keeps = dims_call c (λ k. record k { looks = change k.looks }) l
    (λ k. record { name = refl; live = λ is. is; waiting = λ is. is; first = keeps k.looks })

-- a connection
pub dims_conn : (x : Connection) (change : ConnLooks → ConnLooks) (l : Looks) → ((r : ConnLooks) → Same r (change r))
    → Dims l (on_conn x change l)
dims_conn x change l same =
    record {
      calls = pairs_refl Fades l.calls fades_refl;
      conns = pairs_map Same (conn_if x change) l.conns
          (λ r. same_if (same_connection r.connection x) r (change r) (same r));
    }

pub number-kept : (qs : List ChannelLooks) (m n : ℕ) (change : ChannelLooks → ChannelLooks)
    → ((q : ChannelLooks) → (change q).number ≡ q.number)
    → number_in (changed_at m change qs) n ≡ number_in qs n
number-kept [] m n change keeps = refl
number-kept (q ∷ qs) zero zero change keeps = keeps q
number-kept (q ∷ qs) zero (suc n) change keeps = refl
number-kept (q ∷ qs) (suc m) zero change keeps = refl
number-kept (q ∷ qs) (suc m) (suc n) change keeps = number-kept qs m n change keeps

-- what a channel owes
pub dims_channel : (ch : Channel) (change : ChannelLooks → ChannelLooks) (l : Looks)
    → ((q : ChannelLooks) → (change q).number ≡ q.number)
    → Dims l (on_channel ch change l)
dims_channel ch change l keeps =
    dims_conn ch.connection (λ r. record r { channels = changed_at ch.chan change r.channels }) l
    (λ r. record {
      alike = record { connection = refl; length = length-changed r.channels ch.chan change };
      numbers = λ n. number-kept r.channels ch.chan n change keeps;
    })
