-- A node's calls and connections in order: at most as many as its limits, no two connections of one name, four channels
-- each, and of each channel only the latest call lives.
use Rattle.std.proofs.Common.{◌≡◌, ◌≤◌, ◌<◌, ◌*◌, ℕ, suc, cond, if◌then◌else◌, Bool, true, false, List, [], ◌∷◌, length}
use Rattle.std.proofs.Common.{map}
use Rattle.std.proofs.Common.{Option, Some, None, option_map, refl, ◌∙◌, ap, sym, arith}
use Rattle.rx_model.specs.declared.names.CallName.{CallName}
use Rattle.rx_model.specs.Names.{Connection, connection_of, same_connection, same_name}
use Rattle.rx_rules.specs.Life.{is_live}
use Rattle.rx_rules.specs.CallLooks.{CallLooks}
use Rattle.rx_rules.specs.Looks.{CallRecord, ConnLooks, Looks, call_at, conn_at, is_call, on_looks}
use Rattle.rx_rules.specs.Setup.{Setup, is_client}
use Rattle.rx_rules.specs.Slots.{count_live, live}
use Rattle.rx_rules.proofs.CallsLaws.{call_at-on_call, changed_if}
use Rattle.rx_rules.proofs.ConnsLaws.{number_of}
use Rattle.rx_rules.proofs.EveryLaws.{Every}
use Rattle.rx_rules.proofs.KeepsLaws.{Fours}
use Rattle.rx_history.proofs.Differ.{Differ, by_connection, every_found}
use Rattle.rx_history.proofs.Dimensions.Dims.{Alike, Dims, Same}
use Rattle.rx_history.proofs.Dimensions.DimsLeave.{fewer_live, live_stays, numbers_stay}
use Rattle.rx_history.proofs.Pairwise.{Pairwise, pairs_differ, pairs_every, pairs_length, pairs_weaken}

-- it has four channels
abbrev pub HasFour : ConnLooks → Type 0
HasFour r = length r.channels ≡ 4

-- its cid is one of the first so many of a client
abbrev pub AmongFirst : ℕ → ConnLooks → Type 0
AmongFirst n r = r.connection.cid ≤ 4 * n

-- the connections of a node: a client's have the cids in their order
pub record OrderlyConns (s : Setup) (rs : List ConnLooks) : Type 0 where
  pub differ : Differ by_connection rs
  pub fours : Every HasFour rs
  pub few : length rs ≤ s.limits.conns
  pub low : is_client s.kind ≡ true → Every (AmongFirst (length rs)) rs

-- a call that lives
abbrev pub LivesAt : Looks → CallName → Type 0
LivesAt l c = is_call (λ k. is_live k.life) (call_at l c) ≡ true

-- it is its channel's latest
pub record IsLatest (l : Looks) (c : CallName) : Type 0 where
  pub chan : c.chan < 4
  pub number : number_of (conn_at l (connection_of c)) c.chan ≡ c.number

-- no more calls live than may, each of them its channel's latest
pub record Orderly (s : Setup) (l : Looks) : Type 0 where
  pub conns : OrderlyConns s l.conns
  pub few : live l ≤ s.limits.calls
  pub latest : (c : CallName) → LivesAt l c → IsLatest l c

-- ---- changes that bring no call to life

names-alike : (a b a' b' : ConnLooks) → Alike a b → Alike a' b' → by_connection b b' ≡ by_connection a a'
names-alike a b a' b' p q =
    let left : b.connection ≡ a.connection = p.connection in
    let right : b'.connection ≡ a'.connection = q.connection in
    λ i. same_connection (left i) (right i)

-- connections whose names and channels stay
pub orderly_conns : (s : Setup) (rs qs : List ConnLooks) → Pairwise Alike rs qs → OrderlyConns s rs → OrderlyConns s qs
orderly_conns s rs qs p o =
    let size : length qs ≡ length rs = pairs_length Alike rs qs p in
    record {
      differ = pairs_differ Alike by_connection rs qs names-alike p o.differ;
      fours = pairs_every Alike HasFour HasFour rs qs (λ a b alike four. alike.length ∙ four) p o.fours;
      few = (let low = o.few in omega arith);
      low = λ client.
          pairs_every Alike (AmongFirst (length rs)) (AmongFirst (length qs)) rs qs
          (λ a b alike low. (let cid : b.connection.cid ≡ a.connection.cid = ap
          (λ (x : Connection). x.cid) alike.connection in omega arith)) p (o.low client);
    }

-- a node stays in order
pub orderly_dims : (s : Setup) (l m : Looks) → Dims l m → Orderly s l → Orderly s m
orderly_dims s l m dims o =
    record {
      conns = orderly_conns s l.conns m.conns
          (pairs_weaken Same Alike l.conns m.conns (λ a b same. same.alike) dims.conns) o.conns;
      few = (let less = fewer_live l.calls m.calls dims.calls in let low = o.few in omega arith);
      latest = λ c lives. (
          let is = o.latest c (live_stays l m c dims lives) in
          record { chan = is.chan; number = numbers_stay l m (connection_of c) c.chan dims ∙ is.number });
    }

count-looks : (c : CallName) (change : CallLooks → CallLooks) (ks : List CallRecord)
    → count_live (map (changed_if c (λ k. record k { looks = change k.looks })) ks) ≡ count_live ks
count-looks c change [] = refl
count-looks c change (k ∷ ks) =
    let rest = count-looks c change ks in
    (elim (same_name k.name c) as
    (λ b. count_live (cond b (record k { looks = change k.looks }) k
    ∷ map (changed_if c (λ k. record k { looks = change k.looks })) ks) ≡ count_live (k ∷ ks)) [
      | true ↦ ap (λ (n : ℕ). if is_live k.life then suc n else n) rest
      | false ↦ ap (λ (n : ℕ). if is_live k.life then suc n else n) rest
    ])

-- whatever passes at the end of a call
pub orderly_looks : (s : Setup) (c : CallName) (change : CallLooks → CallLooks) (l : Looks) → Orderly s l
    → Orderly s (on_looks c change l)
orderly_looks s c change l o =
    record {
      conns = o.conns;
      few = (let same = count-looks c change l.calls in let low = o.few in omega arith);
      latest = λ d lives. (
          let is = o.latest d (lived d lives) in record { chan = is.chan; number = is.number });
    }
  where
    alters : CallRecord → CallRecord
    alters k = record k { looks = change k.looks }

    same-life : (k : CallRecord) → (changed_if c alters k).life ≡ k.life
    same-life k = of (same_name k.name c)
      where
        of : (b : Bool) → (cond b (alters k) k).life ≡ k.life
        of true = refl
        of false = refl

    either : (q : Option CallRecord)
        → is_call (λ k. is_live k.life) (option_map (changed_if c alters) q) ≡ is_call (λ k. is_live k.life) q
    either None = refl
    either (Some k) = ap is_live (same-life k)

    lived : (d : CallName) → LivesAt (on_looks c change l) d → LivesAt l d
    lived d lives =
        sym (either (call_at l d)) ∙ ap (λ (q : Option CallRecord). is_call (λ k. is_live k.life) q)
        (sym (call_at-on_call d c alters l (λ k. refl))) ∙ lives

-- a connection that is there has four channels
pub four_there : (s : Setup) (l : Looks) (x : Connection) → Orderly s l → Fours (conn_at l x)
four_there s l x o = of (conn_at l x) refl
  where
    of : (q : Option ConnLooks) → conn_at l x ≡ q → Fours q
    of None is = tt
    of (Some r) is = every_found HasFour (λ r. same_connection r.connection x) l.conns r o.conns.fours is
