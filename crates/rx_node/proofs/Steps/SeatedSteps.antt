-- What every node keeps stays where the ends of its calls, their lives and their seats change.
use Rattle.std.proofs.Common.{◌≡◌, ◌<◌, ◌+◌, ◌^◌, ℕ, true, false, List, length}
use Rattle.std.proofs.Common.{Option, Some, None, option_map, refl, ◌∙◌, ap, sym, subst, arith}
use Rattle.std.specs.Prelude.{IsSomeAnd, is_some, option_and_then, slice_get}
use Rattle.std.proofs.lemmas.Bool.{false≢true}
use Rattle.rx_rules.specs.CallLooks.{CallLooks}
use Rattle.rx_rules.specs.Classes.{Class}
use Rattle.rx_rules.specs.Setup.{is_client}
use Rattle.rx_model.specs.Names.{Connection}
use Rattle.rx_table.specs.declared.seat.Seat.{Seat}
use Rattle.rx_table.specs.Records.{ConnRecord, Records, names, record_at, seat_at}
use Rattle.rx_call.specs.Kept.{call_under, live_count}
use Rattle.rx_call.specs.Standing.{EndOfCall, IsIdle}
use Rattle.rx_call_ends.specs.Ends.{EndsState, IsIdleAt, IsThere, StepsEnd}
use Rattle.rx_node.specs.declared.life.Life.{Life as CodeLife}
use Rattle.rx_node.specs.Lives.{is_of, life_of}
use Rattle.rx_node.specs.Mirrors.{IsActiveAt}
use Rattle.rx_node.specs.Node.{IsSeated, IsSetUp, NodeState, is_active_life, life_at, seat_life}
use Rattle.rx_node.proofs.Steps.TableSteps.{FromRecord, decided}

-- ---- what a node is set up with

-- its table and its ends are as many, and of the same kind
pub record SetUpAlike (n : NodeState) (table : Records) (ends : EndsState) (codes : List CodeLife) : Type 0 where
  pub room : table.room ≡ n.table.room
  pub conns : length table.conns ≡ length n.table.conns
  pub lives : length codes ≡ length n.lives
  pub client : ends.client ≡ n.ends.client
  pub calls : ends.calls.room ≡ n.ends.calls.room
  pub pace : ends.calls.pace ≡ n.ends.calls.pace
  pub shared : ends.shared ≡ n.ends.shared

pub set_up_alike : (class : List ℕ → Class) (n : NodeState) (table : Records) (ends : EndsState) (codes : List CodeLife)
    (live : ℕ) → SetUpAlike n table ends codes → IsSetUp class n
    → IsSetUp class (record n { table = table; ends = ends; lives = codes; live = live })
set_up_alike class n table ends codes live a s =
    record {
      fits = s.fits;
      room = a.room ∙ s.room;
      few = (let low = s.few in let count = a.conns in omega arith);
      links = s.links ∙ sym a.conns;
      lives = a.lives ∙ s.lives;
      client = a.client ∙ s.client;
      calls = a.calls ∙ s.calls;
      pace = a.pace ∙ s.pace;
      shared = a.shared ∙ s.shared;
      within = s.within;
    }

-- ---- one seat, its end and its life

-- another table, other ends and lives, which differ at one key and one end at most, and what holds there
pub record Reseats (n : NodeState) (key end : ℕ) (table : Records) (ends : EndsState) (codes : List CodeLife)
    (live : ℕ) : Type 0 where
  pub others : (k : ℕ) → (key ≡ k → ⊥) → seat_at table k ≡ seat_at n.table k
  pub records : (place : ℕ) (b : ConnRecord) → record_at table place ≡ Some b → FromRecord n.table place b
  pub ends_stay : (q : ℕ) → (q ≡ end → ⊥) → call_under ends.calls q ≡ call_under n.ends.calls q
  pub lives_stay : (k : ℕ) → (key ≡ k → ⊥) → slice_get codes k ≡ slice_get n.lives k
  pub free : (k : ℕ) (s : Seat) → (key ≡ k → ⊥) → seat_at n.table k ≡ Some s → s.live ≡ Some end → ⊥
  pub names : (s : Seat) (q : ℕ) → seat_at table key ≡ Some s → s.live ≡ Some q → end ≡ q
  pub there : (s : Seat) (q : ℕ) → seat_at table key ≡ Some s → s.live ≡ Some q → IsThere ends end
  pub idle : (s : Seat) (q : ℕ) → seat_at table key ≡ Some s → s.live ≡ Some q
      → is_active_life (option_map life_of (slice_get codes key)) ≡ false → IsIdleAt ends end
  pub kinds : (s : Seat) (q : ℕ) (life : CodeLife) → seat_at table key ≡ Some s → s.live ≡ Some q
      → slice_get codes key ≡ Some life → is_of (is_client n.kind) (life_of life) ≡ true
  pub count : live_count ends.calls ≡ live

module _ (n : NodeState) (key end : ℕ) (table : Records) (ends : EndsState) (codes : List CodeLife) (live : ℕ)
    (by : Reseats n key end table ends codes live) (seats : IsSeated n) where
  -- a seat of another key was there, and names another end
  away : (k q : ℕ) (s : Seat) → (key ≡ k → ⊥) → seat_at table k ≡ Some s → s.live ≡ Some q → q ≡ end → ⊥
  away k q s apart is names one =
      by.free k s apart (sym (by.others k apart) ∙ is) (names ∙ ap (λ (j : ℕ). Some j) one)

  own-at : (k : ℕ) (s : Seat) → key ≡ k → seat_at table k ≡ Some s → seat_at table key ≡ Some s
  own-at k s same is = ap (λ (j : ℕ). seat_at table j) same ∙ is

  -- it is seated
  pub reseated : IsSeated (record n { table = table; ends = ends; lives = codes; live = live })
  reseated =
      record {
        there = λ k s q is names.
            decided (IsThere ends q) key k
            (λ same. subst (λ (j : ℕ). IsThere ends j) (by.names s q (own-at k s same is) names)
            (by.there s q (own-at k s same is) names))
            (λ apart. ap (λ (o : Option EndOfCall). is_some o) (by.ends_stay q (away k q s apart is names))
            ∙ seats.there k s q (sym (by.others k apart) ∙ is) names);
        apart = λ a b here there q is_here is_there names_here names_there.
            decided (a ≡ b) key a
            (λ same. decided (a ≡ b) key b (λ also. sym same ∙ also)
            (λ apart. absurd (away b q there apart is_there names_there
            (sym (by.names here q (own-at a here same is_here) names_here)))))
            (λ apart. decided (a ≡ b) key b
            (λ also. absurd (away a q here apart is_here names_here
            (sym (by.names there q (own-at b there also is_there) names_there))))
            (λ too. seats.apart a b here there q (sym (by.others a apart) ∙ is_here)
            (sym (by.others b too) ∙ is_there) names_here names_there));
        idle = λ k s q is names inactive.
            decided (IsIdleAt ends q) key k
            (λ same. subst (λ (j : ℕ). IsIdleAt ends j) (by.names s q (own-at k s same is) names)
            (by.idle s q (own-at k s same is) names
            (ap (λ (j : ℕ). is_active_life (option_map life_of (slice_get codes j))) same ∙ inactive)))
            (λ apart. subst (λ (o : Option EndOfCall). IsSomeAnd o IsIdle)
            (sym (by.ends_stay q (away k q s apart is names)))
            (seats.idle k s q (sym (by.others k apart) ∙ is) names
            (ap (λ (o : Option CodeLife). is_active_life (option_map life_of o)) (sym (by.lives_stay k apart))
            ∙ inactive)));
        kinds = λ k s q life is names its.
            decided (is_of (is_client n.kind) (life_of life) ≡ true) key k
            (λ same. by.kinds s q life (own-at k s same is) names
            (ap (λ (j : ℕ). slice_get codes j) same ∙ its))
            (λ apart. seats.kinds k s q life (sym (by.others k apart) ∙ is) names (sym (by.lives_stay k apart) ∙ its));
        count = by.count;
        cids = λ place r is. (
            let b = by.records place r is in
            subst (λ (x : Connection). x.cid + 3 < 2 ^ 32) (sym b.same.connection) (seats.cids place b.before b.there));
      }

-- ---- an end takes a step

-- nothing of a table changes
pub same_records : (t : Records) (place : ℕ) (b : ConnRecord) → record_at t place ≡ Some b → FromRecord t place b
same_records t place b is =
    record {
      before = b;
      there = is;
      same = record { connection = refl; nonce = refl; serial = refl; last_use = refl; proved = refl; seats = refl };
    }

-- the life of a key whose seat names an end
pub life_named : (n : NodeState) (key end : ℕ) (seat : Seat) → seat_at n.table key ≡ Some seat → seat.live ≡ Some end
    → life_at n key ≡ option_map life_of (slice_get n.lives key)
life_named n key end seat there names =
    ap (λ (o : Option Seat). option_and_then (seat_life n key) o) there ∙ of seat.live names
  where
    of : (o : Option ℕ) → o ≡ Some end
        → seat_life n key (record seat { live = o }) ≡ option_map life_of (slice_get n.lives key)
    of None is = absurd (cc (is))
    of (Some q) is = refl

-- two seats of a key are one
pub one_seat : (t : Records) (key : ℕ) (a b : Seat) → seat_at t key ≡ Some a → seat_at t key ≡ Some b → a ≡ b
one_seat t key a b here there = (let both = sym here ∙ there in cc (both))

pub same_end : (a b : ℕ) (s t : Seat) → s ≡ t → s.live ≡ Some a → t.live ≡ Some b → a ≡ b
same_end a b s t same here there =
    (let both : Some a ≡ Some b = sym here ∙ ap (λ (u : Seat). u.live) same ∙ there in cc (both))

module _ (class : List ℕ → Class) (n : NodeState) (key end : ℕ) (active : IsActiveAt n key end) (e : EndsState)
    (step : CallLooks → CallLooks) (steps : StepsEnd n.ends e end step)
    (count : live_count e.calls ≡ live_count n.ends.calls) where
  -- it is set up as before
  pub end_set_up : IsSetUp class n → IsSetUp class (record n { ends = e })
  end_set_up s =
      set_up_alike class n n.table e n.lives n.live
      (record {
        room = refl;
        conns = refl;
        lives = refl;
        client = steps.keeps.client;
        calls = steps.keeps.others.room;
        pace = steps.keeps.others.pace;
        shared = steps.keeps.shared;
      }) s

  its-live : (s : Seat) (q : ℕ) → seat_at n.table key ≡ Some s → s.live ≡ Some q → end ≡ q
  its-live s q is names = same_end end q active.seat s (one_seat n.table key active.seat s active.there is)
      active.live names

  -- and seated
  pub end_seated : IsSeated n → IsSeated (record n { ends = e })
  end_seated s =
      reseated n key end n.table e n.lives n.live
      (record {
        others = λ k apart. refl;
        records = same_records n.table;
        ends_stay = steps.keeps.others.others;
        lives_stay = λ k apart. refl;
        free = λ k seat apart is names. apart (s.apart key k active.seat seat end active.there is active.live names);
        names = its-live;
        there = λ seat q is names. steps.there;
        idle = λ seat q is names inactive.
            absurd (false≢true (sym inactive
            ∙ ap is_active_life (sym (life_named n key end active.seat active.there active.live)) ∙ active.active));
        kinds = λ seat q life is names its. s.kinds key seat q life is names its;
        count = count ∙ s.count;
      }) s
