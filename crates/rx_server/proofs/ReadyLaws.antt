-- Which of the channels that are listed are ready: behind changes of their book, and of the look-ups.
use Rattle.std.proofs.Common.{◌≡◌, ◌≢◌, ◌&&◌, ◌||◌, ◌==◌, ◌/◌, ◌%◌, ◌∷◌, ◌++◌, ℕ, cond, not, if◌then◌else◌, is_some}
use Rattle.std.proofs.Common.{Bool, true, false, List, [], filter, map, Option, Some, None, option_map, refl, ◌∙◌, ap}
use Rattle.std.proofs.Common.{sym, subst}
use Rattle.std.specs.Prelude.{option_and_then, slice_get, slice_set, unwrap_or}
use Rattle.std.specs.List.{find, list_any}
use Rattle.std.proofs.lemmas.Bool.{false≢true}
use Rattle.std.proofs.lemmas.List.{get_or-set_other}
use Rattle.std.proofs.lemmas.Option.{slice_get-map}
use Rattle.rx_model.specs.declared.names.CallName.{CallName}
use Rattle.rx_model.specs.Names.{Channel, Connection, channel_of, connection_of, same_connection}
use Rattle.rx_model.proofs.NameLaws.{both, not_true, number_itself, or_true, refuted, same_number}
use Rattle.rx_rules.specs.Looks.{ConnLooks, Looks, is_proved, latest_name}
use Rattle.rx_rules.specs.Rules.{can_enter}
use Rattle.rx_rules.specs.Setup.{Setup}
use Rattle.rx_rules.proofs.ConnsLaws.{conn_if}
use Rattle.rx_rules.proofs.EveryLaws.{Every, every-append, every-filter, filter-passes}
use Rattle.rx_history.proofs.Dimensions.Dims.{Dims}
use Rattle.rx_history.proofs.Order.Orderly.{Orderly}
use Rattle.rx_due.specs.Book.{moment_of}
use Rattle.rx_queue.specs.Queue.{QueueState, is_listed, is_ready}
use Rattle.rx_node.specs.Mirrors.{IsChannel, channel_in}
use Rattle.rx_node.proofs.Steps.ChannelSteps.{conn_there, place_is}
use Rattle.rx_books.specs.Polled.{proofs_of}
use Rattle.rx_server.specs.Handling.{enters_at, passes}
use Rattle.rx_server.specs.Server.{IsReadyAt, ReadyStand, admits_at, waits, waits_at, waits_on}
use Rattle.rx_server.proofs.EnteringCalls.{enters_is, waits_is}
use Rattle.rx_server.proofs.FirstsLaws.{passing, waits_behind}

-- ---- lists

-- what holds of each number holds of each of a list
pub every_all : (P : ℕ → Type 0) (keys : List ℕ) → ((k : ℕ) → P k) → Every P keys
every_all P [] gives = tt
every_all P (k ∷ keys) gives = (gives k, every_all P keys gives)

-- what follows from what holds of each
pub every_map : (P Q : ℕ → Type 0) (keys : List ℕ) → ((k : ℕ) → P k → Q k) → Every P keys → Every Q keys
every_map P Q [] gives all = tt
every_map P Q (k ∷ keys) gives all = (gives k all.0, every_map P Q keys gives all.1)

every-both : (P Q R : ℕ → Type 0) (keys : List ℕ) → ((k : ℕ) → P k → Q k → R k) → Every P keys → Every Q keys
    → Every R keys
every-both P Q R [] gives all more = tt
every-both P Q R (k ∷ keys) gives all more = (gives k all.0 more.0, every-both P Q R keys gives all.1 more.1)

every-listed : (keys : List ℕ) → Every (λ k. list_any (λ j. j == k) keys ≡ true) keys
every-listed [] = tt
every-listed (k ∷ keys) = (
  ap (λ (b : Bool). b || list_any (λ j. j == k) keys) (number_itself k),
  every_map (λ j. list_any (λ i. i == j) keys ≡ true) (λ j. list_any (λ i. i == j) (k ∷ keys) ≡ true) keys
      (λ j is. ap (λ (b : Bool). (k == j) || b) is ∙ or_true (k == j)) (every-listed keys),
)

-- ---- a channel

-- whose call waits has its connection there
pub waits_there : (l : Looks) (k : ℕ) → is_some (waits_at l k) ≡ true
    → (r : ConnLooks) × (slice_get l.conns (k / 4) ≡ Some r)
waits_there l k is = of (slice_get l.conns (k / 4)) refl is
  where
    of : (o : Option ConnLooks) → slice_get l.conns (k / 4) ≡ o
        → is_some (option_and_then (λ x. waits_on l (channel_in x (k % 4))) o) ≡ true
        → (r : ConnLooks) × (slice_get l.conns (k / 4) ≡ Some r)
    of None at is = absurd (cc (is))
    of (Some r) at is = (r, at)

-- whether its calls may be given to a handler, by its connection
pub admits_there : (b : Bool) (l : Looks) (k : ℕ) (r : ConnLooks) → slice_get l.conns (k / 4) ≡ Some r
    → admits_at b l k ≡ (not b || r.proved)
admits_there b l k r is =
    ap (λ (o : Option Bool). not b || unwrap_or o false)
    (slice_get-map (λ (x : ConnLooks). x.proved) l.conns (k / 4)
    ∙ ap (λ (o : Option ConnLooks). option_map (λ x. x.proved) o) is)

-- and by what is looked up of that
pub admits_is : (s : Setup) (b : Bool) (l : Looks) (k : ℕ) (ch : Channel) → Orderly s l → IsChannel l k ch
    → admits_at b l k ≡ (not b || is_proved l ch.connection)
admits_is s b l k ch o at =
    admits_there b l k at.conn at.there
    ∙ sym (ap (λ (x : Connection). not b || is_proved l x) (ap (λ (d : Channel). d.connection) at.is)
    ∙ ap (λ (q : Option ConnLooks). not b || unwrap_or (option_map (λ r. r.proved) q) false)
    (conn_there l.conns (k / 4) at.conn o.conns.differ at.there))

-- its call may be given to a handler where it waits, and they may
pub enters_parts : (s : Setup) (l : Looks) (k : ℕ) → Orderly s l
    → enters_at s l k ≡ (is_some (waits_at l k) && admits_at s.class.challenges l k)
enters_parts s l k o = of (slice_get l.conns (k / 4)) refl
  where
    waiting : (w : Bool) (n : CallName) → is_some (if w then Some n else None) ≡ w
    waiting true n = refl
    waiting false n = refl

    of : (q : Option ConnLooks) → slice_get l.conns (k / 4) ≡ q
        → enters_at s l k ≡ (is_some (waits_at l k) && admits_at s.class.challenges l k)
    of None is =
        (let none : waits_at l k ≡ None = ap (option_and_then (λ (x : ConnLooks). waits_on l (channel_in x (k % 4))))
        is in
        ap (passes (can_enter s l)) none
        ∙ sym (ap (λ (w : Option CallName). is_some w && admits_at s.class.challenges l k) none))
    of (Some x) is =
        (let ch : Channel = channel_in x (k % 4) in
        let at : IsChannel l k ch = record { conn = x; there = is; is = refl } in
        enters_is s l k ch at
        ∙ (λ i. sym (waiting (waits l (latest_name l ch)) (latest_name l ch)) i
        && sym (admits_is s s.class.challenges l k ch o at) i)
        ∙ ap (λ (w : Option CallName). is_some w && admits_at s.class.challenges l k) (sym (waits_is l k ch at)))

-- ---- the book changes

module _ (b : Bool) (q p : QueueState) (l : Looks) where
  on-order : (order : List ℕ) → p.order ≡ order → Every (IsReadyAt b p l) order → ReadyStand b p l
  on-order order same all = subst (λ (ks : List ℕ). Every (IsReadyAt b p l) ks) (sym same) all

  still : (key k : ℕ) → p.ready ≡ slice_set q.ready key None → (k == key) ≡ false → is_ready q k ≡ true
      → is_ready p k ≡ true
  still key k ready apart is =
      let ne : k ≢ key = λ same. false≢true (sym apart ∙ ap (λ (n : ℕ). n == key) same ∙ number_itself key) in
      ap (λ (o : Option ℕ). is_some o)
      (ap (λ (r : List (Option ℕ)). moment_of r k) ready ∙ get_or-set_other q.ready key k None None ne)
      ∙ is

  more : ((k : ℕ) → is_ready q k ≡ true → is_ready p k ≡ true) → ReadyStand b q l → Every (IsReadyAt b p l) q.order
  more keeps =
      every_map (IsReadyAt b q l) (IsReadyAt b p l) q.order (λ k was waiting admitted. keeps k (was waiting admitted))

  -- a channel comes, and is ready where its calls may be given to a handler
  pub ready_behind : (key : ℕ) → p.order ≡ q.order ++ key ∷ [] → ((k : ℕ) → is_ready q k ≡ true → is_ready p k ≡ true)
      → (admits_at b l key ≡ true → is_ready p key ≡ true) → ReadyStand b q l → ReadyStand b p l
  ready_behind key order keeps own stands =
      on-order (q.order ++ key ∷ []) order
      (every-append (IsReadyAt b p l) q.order (key ∷ []) (more keeps stands) ((λ waiting admitted. own admitted), tt))

  -- one goes
  pub ready_without : (key : ℕ) → p.order ≡ filter (λ k. not (k == key)) q.order
      → p.ready ≡ slice_set q.ready key None → ReadyStand b q l → ReadyStand b p l
  ready_without key order ready stands =
      on-order (filter (λ k. not (k == key)) q.order) order
      (every-both (IsReadyAt b q l) (λ k. not (k == key) ≡ true) (IsReadyAt b p l)
      (filter (λ k. not (k == key)) q.order)
      (λ k was other waiting admitted. still key k ready (not_true (k == key) other) (was waiting admitted))
      (every-filter (IsReadyAt b q l) (λ k. not (k == key)) q.order stands)
      (filter-passes (λ k. not (k == key)) q.order))

  -- one whose call may not be given to a handler is held
  pub ready_held : (key : ℕ) → p.order ≡ q.order → p.ready ≡ slice_set q.ready key None
      → (is_some (waits_at l key) && admits_at b l key) ≡ false → ReadyStand b q l → ReadyStand b p l
  ready_held key order ready refused stands =
      on-order q.order order
      (every_map (IsReadyAt b q l) (IsReadyAt b p l) q.order
      (λ k was waiting admitted. by k was waiting admitted (k == key) refl) stands)
    where
      by : (k : ℕ) → IsReadyAt b q l k → is_some (waits_at l k) ≡ true → admits_at b l k ≡ true → (x : Bool)
          → (k == key) ≡ x → is_ready p k ≡ true
      by k was waiting admitted true same =
          absurd (let at : k ≡ key = same_number k key same in
          false≢true (sym refused
          ∙ (λ i. subst (λ (n : ℕ). is_some (waits_at l n) ≡ true) at waiting i
          && subst (λ (n : ℕ). admits_at b l n ≡ true) at admitted i)))
      by k was waiting admitted false other = still key k ready other (was waiting admitted)

-- ---- the look-ups change

-- no further call of the channel may be given to a handler
abbrev pub FallsAt : Bool → Looks → Looks → ℕ → Type 0
FallsAt b l m k =
    is_some (waits_at m k) ≡ true → admits_at b m k ≡ true
    → (is_some (waits_at l k) ≡ true) × (admits_at b l k ≡ true)

-- nor of those that are listed
pub ready_alike : (b : Bool) (q : QueueState) (l m : Looks) → Every (FallsAt b l m) q.order → ReadyStand b q l
    → ReadyStand b q m
ready_alike b q l m =
    every-both (FallsAt b l m) (IsReadyAt b q l) (IsReadyAt b q m) q.order
    (λ k falls was waiting admitted. (let before = falls waiting admitted in was before.0 before.1))

passing-there : (test : CallName → Bool) (o : Option CallName) → is_some (passing test o) ≡ true → is_some o ≡ true
passing-there test None is = is
passing-there test (Some c) is = refl

-- a call that waits behind changes that bring none to life waited before
pub waited : (l m : Looks) → Dims l m → (k : ℕ) → is_some (waits_at m k) ≡ true → is_some (waits_at l k) ≡ true
waited l m dims k is =
    passing-there (waits m) (waits_at l k)
    (ap (λ (o : Option CallName). is_some o) (sym (waits_behind l m dims k)) ∙ is)

-- where no call comes to life and no client is proved none is
pub ready_dims : (b : Bool) (q : QueueState) (l m : Looks) → Dims l m → proofs_of m ≡ proofs_of l → ReadyStand b q l
    → ReadyStand b q m
ready_dims b q l m dims same =
    ready_alike b q l m
    (every_all (FallsAt b l m) q.order
    (λ k waiting admitted. (
      waited l m dims k waiting,
      ap (λ (ps : List Bool). not b || unwrap_or (slice_get ps (k / 4)) false) (sym same) ∙ admitted,
    )))

-- where a client is proved, the channels of its connection are
pub ready_place : (b : Bool) (q p : QueueState) (l m : Looks) (place : ℕ) → p.order ≡ q.order
    → ((k : ℕ) → is_ready q k ≡ true → is_ready p k ≡ true)
    → ((k : ℕ) → k / 4 ≡ place → is_listed q k ≡ true → is_ready p k ≡ true)
    → ((k : ℕ) → (k / 4) ≢ place → FallsAt b l m k) → ReadyStand b q l → ReadyStand b p m
ready_place b q p l m place order keeps own falls stands =
    subst (λ (ks : List ℕ). Every (IsReadyAt b p m) ks) (sym order)
    (every-both (λ k. is_listed q k ≡ true) (IsReadyAt b q l) (IsReadyAt b p m) q.order
    (λ k listed was waiting admitted. by k listed was waiting admitted (k / 4 == place) refl)
    (every-listed q.order) stands)
  where
    by : (k : ℕ) → is_listed q k ≡ true → IsReadyAt b q l k → is_some (waits_at m k) ≡ true → admits_at b m k ≡ true
        → (x : Bool) → (k / 4 == place) ≡ x → is_ready p k ≡ true
    by k listed was waiting admitted true same = own k (same_number (k / 4) place same) listed
    by k listed was waiting admitted false other =
        (let ne : (k / 4) ≢ place =
        λ same. false≢true (sym other ∙ ap (λ (n : ℕ). n == place) same ∙ number_itself place) in
        let before = falls k ne waiting admitted in
        keeps k (was before.0 before.1))

module _ (b : Bool) (l m : Looks) (c : CallName) (key : ℕ) (change : ConnLooks → ConnLooks) where
  -- the calls of a connection that isn't the one whose client is proved may be given to a handler where they might
  -- before
  pub falls_proved : Dims l m → m.conns ≡ map (conn_if (connection_of c) change) l.conns → (s : Setup) → Orderly s l
      → IsChannel l key (channel_of c) → (k : ℕ) → (k / 4) ≢ (key / 4) → FallsAt b l m k
  falls_proved dims conns s o at k apart waiting admitted =
      (let before = waited l m dims k waiting in
      let own = waits_there l k before in
      let r : ConnLooks = own.0 in
      let named : at.conn.connection ≡ connection_of c = sym (ap (λ (d : Channel). d.connection) at.is) in
      let other : same_connection r.connection (connection_of c) ≡ false =
      refuted (same_connection r.connection (connection_of c))
      (λ same. apart (place_is l.conns (k / 4) (key / 4) r at.conn o.conns.differ own.1 at.there
      (subst (λ (x : Connection). same_connection r.connection x ≡ true) (sym named) same))) in
      let there : slice_get m.conns (k / 4) ≡ Some r =
      ap (λ (rs : List ConnLooks). slice_get rs (k / 4)) conns
      ∙ slice_get-map (conn_if (connection_of c) change) l.conns (k / 4)
      ∙ ap (λ (q : Option ConnLooks). option_map (conn_if (connection_of c) change) q) own.1
      ∙ ap (λ (t : Bool). Some (if t then change r else r)) other in
      (before, admits_there b l k r own.1 ∙ sym (admits_there b m k r there) ∙ admitted))

-- ---- the first that may be accepted

-- each that may be given to a handler is ready
pub ready_enters : (s : Setup) (q : QueueState) (l : Looks) → Orderly s l → ReadyStand s.class.challenges q l
    → Every (λ k. enters_at s l k ≡ true → is_ready q k ≡ true) q.order
ready_enters s q l o =
    every_map (IsReadyAt s.class.challenges q l) (λ k. enters_at s l k ≡ true → is_ready q k ≡ true) q.order
    (λ k was enters. (
    let parts = both (is_some (waits_at l k)) (admits_at s.class.challenges l k)
    (sym (enters_parts s l k o) ∙ enters) in
    was parts.0 parts.1))

-- where each that passes is ready, the first that is ready is the first that passes, if it does
pub first_passes : (ready passes : ℕ → Bool) (keys : List ℕ) (key : ℕ)
    → Every (λ k. passes k ≡ true → ready k ≡ true) keys → find ready keys ≡ Some key → passes key ≡ true
    → find passes keys ≡ Some key
first_passes ready passes [] key all found is = absurd (cc (found))
first_passes ready passes (k ∷ keys) key all found is =
    of (ready k) (passes k) refl refl found (λ rest. first_passes ready passes keys key all.1 rest is)
  where
    of : (r p : Bool) → ready k ≡ r → passes k ≡ p → cond r (Some k) (find ready keys) ≡ Some key
        → (find ready keys ≡ Some key → find passes keys ≡ Some key) → cond p (Some k) (find passes keys) ≡ Some key
    of true true rk pk found rest = found
    of true false rk pk found rest = absurd (let same : k ≡ key = cc (found) in
        false≢true (sym pk ∙ ap passes same ∙ is))
    of false true rk pk found rest = absurd (false≢true (sym rk ∙ all.0 pk))
    of false false rk pk found rest = rest found

-- where none is ready none passes
pub none_passes : (ready passes : ℕ → Bool) (keys : List ℕ) → Every (λ k. passes k ≡ true → ready k ≡ true) keys
    → find ready keys ≡ None → find passes keys ≡ None
none_passes ready passes [] all found = refl
none_passes ready passes (k ∷ keys) all found =
    of (ready k) (passes k) refl refl found (λ rest. none_passes ready passes keys all.1 rest)
  where
    of : (r p : Bool) → ready k ≡ r → passes k ≡ p → cond r (Some k) (find ready keys) ≡ None
        → (find ready keys ≡ None → find passes keys ≡ None) → cond p (Some k) (find passes keys) ≡ None
    of true p rk pk found rest = absurd (cc (found))
    of false true rk pk found rest = absurd (false≢true (sym rk ∙ all.0 pk))
    of false false rk pk found rest = rest found
