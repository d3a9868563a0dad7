-- What each event makes of each call.
use Rattle.std.proofs.Common.{◌≡◌, ◌⊎◌, ◌||◌, ◌≤◌, ◌+◌, ◌*◌, ℕ, cond, if◌then◌else◌, max}
use Rattle.std.proofs.Common.{is_some, Bool, true, false, List, [], ◌∷◌, ◌++◌, length, take, drop, length-append}
use Rattle.std.proofs.Common.{Option, Some, None, option_map, Result, Ok, Err, refl, ◌∙◌, ap, sym, subst, inl, inr}
use Rattle.std.proofs.Common.{arith}
use Rattle.rx_model.specs.declared.answers.BadMsg.{BadMsg}
use Rattle.rx_model.specs.declared.answers.CallRead.{CallRead}
use Rattle.rx_model.specs.declared.answers.CallRead.TheVariants as callreads
use Rattle.rx_model.specs.declared.answers.End.{End}
use Rattle.rx_model.specs.declared.answers.End.TheVariants as ends
use Rattle.rx_model.specs.declared.answers.ReadGot.TheVariants as readers
use Rattle.rx_model.specs.declared.answers.Took.{Took}
use Rattle.rx_model.specs.declared.answers.Took.TheVariants as tooks
use Rattle.rx_model.specs.declared.names.CallName.{CallName}
use Rattle.rx_model.specs.declared.names.Host.{Host}
use Rattle.rx_rules.specs.After.{acknowledged, counted, enters, given_body, given_by, given_message, is_end, is_ok_end}
use Rattle.rx_rules.specs.After.{prepared, read_done}
use Rattle.rx_rules.specs.After.{taken_behind, taken_unserved, taken_with, turned_away}
use Rattle.rx_model.specs.Body.{Body}
use Rattle.rx_model.specs.Body as bodies
use Rattle.rx_rules.specs.CallLooks.{CallLooks, after_ack_given, after_piece, after_read, after_shut, after_write}
use Rattle.rx_rules.specs.Life.{Life, after_end, is_waiting}
use Rattle.rx_rules.specs.Life as lives
use Rattle.std.specs.List.{find}
use Rattle.rx_rules.specs.Looks.{CallRecord, ConnLooks, Looks, call_at, conn_at, on_life, on_looks}
use Rattle.rx_model.specs.Message.{Message}
use Rattle.rx_model.specs.Names.{Connection, connection_of, same_name}
use Rattle.rx_rules.specs.Received.{Packet, read_from, read_of, unread_of, is_complete}
use Rattle.rx_model.specs.Reading.{reading_of}
use Rattle.rx_rules.specs.Records.{entered, fresh_conn, idle_conn, is_full, placed, with_conn}
use Rattle.rx_rules.specs.Rules.{client_read_by, client_read_got, served_read_by, served_read_got}
use Rattle.rx_rules.specs.Sent.{counting_of}
use Rattle.rx_rules.specs.Setup.{Setup, Kind, Server, Client, named}
use Rattle.rx_model.specs.Strays.{is_stray}
use Rattle.rx_history.specs.Streams.{end_of_life}
use Rattle.rx_history.proofs.Ends.{Ends, ends_in, given_moves, said_moves, shut_moves, left_of, whole_of, same_stream}
use Rattle.rx_history.proofs.Lives.{is_running}
use Rattle.rx_history.proofs.Calls.{call-changed}
use Rattle.rx_history.proofs.Turns.{Still, Turn, life-still, counting, still-refl, still-turn, streams-turn}
use Rattle.rx_history.proofs.Takes.{OpensBy, TakenWhy, with-turn}

-- ---- the rows in front and the record of the connection change no call

pub calls-placed : (new : ConnLooks) (o : Option ConnLooks) (l : Looks) → (placed new o l).calls ≡ l.calls
calls-placed new None l = refl
calls-placed new (Some old) l = refl

pub calls-with_conn : (s : Setup) (kind : Kind) (x : Connection) (l : Looks) → (with_conn s kind x l).calls ≡ l.calls
calls-with_conn s (Server service nonces) x l =
    calls-placed (fresh_conn x x.host service 1 l) (if is_full s l then idle_conn l else None) l
calls-with_conn s (Client host epoch) x l = refl

pub calls-entered : (s : Setup) (x : Connection) (l : Looks) → (entered s x l).calls ≡ l.calls
calls-entered s x l =
    (elim (is_some (conn_at l x)) as (λ b. (cond b l (with_conn s s.kind x l)).calls ≡ l.calls) [
      | true ↦ refl
      | false ↦ calls-with_conn s s.kind x l
    ])

pub calls-prepared : (s : Setup) (got : Took) (x : Connection) (l : Looks) → (prepared s got x l).calls ≡ l.calls
calls-prepared s got x l = of (enters got)
  where
    of : (b : Bool) → (if b then entered s x l else l).calls ≡ l.calls
    of true = calls-entered s x l
    of false = refl

pub calls-turned : (row : Took) (from : Host) (m : Message) (l : Looks) → (turned_away row from m l).calls ≡ l.calls
calls-turned tooks.Unserved from m l = of m.body
  where
    of : (body : Body) → (taken_unserved from m body l).calls ≡ l.calls
    of (bodies.Chunk payload) = refl
    of _ = refl
calls-turned _ from m l = refl

pub call-by : (c : CallName) (l m : Looks) → m.calls ≡ l.calls → call_at m c ≡ call_at l c
call-by c l m same = ap (λ (ks : List CallRecord). find (λ k. same_name k.name c) ks) same

-- ---- what a read gives

pub record ReadFacts (k : CallRecord) (end : Bool) (bytes : List ℕ) : Type 0 where
  pub count : ℕ
  pub taken : bytes ≡ take count (left_of (ends_in k.looks))
  pub ended : end ≡ true → (k.looks.received.ended ≡ true) ⊎
      ((left_of (ends_in k.looks) ≡ []) × (whole_of (ends_in k.looks) ≡ true))

pub take_none : (xs : List ℕ) → [] ≡ take 0 xs
take_none [] = refl
take_none (x ∷ xs) = refl

pub nothing-read : (k : CallRecord) (bytes : List ℕ) → bytes ≡ [] → ReadFacts k false bytes
nothing-read k bytes none =
    record { count = 0; taken = none ∙ take_none (left_of (ends_in k.looks)); ended = λ y. absurd cc }

abbrev is_read_end : CallRead → Bool
is_read_end callreads.End = true
is_read_end _ = false

record FromFacts (left : List ℕ) (whole : Bool) (got : CallRead × List ℕ) : Type 0 where
  count : ℕ
  taken : got.1 ≡ take count left
  ended : is_read_end got.0 ≡ true → (left ≡ []) × (whole ≡ true)

from-facts : (max : ℕ) (left : List ℕ) (whole : Bool) → FromFacts left whole (read_from max left whole)
from-facts max [] true = record { count = 0; taken = refl; ended = λ y. (refl, refl) }
from-facts max [] false = record { count = 0; taken = refl; ended = λ y. absurd cc }
from-facts max (x ∷ xs) whole = record { count = max; taken = refl; ended = λ y. absurd cc }

client-end : (got : CallRead) → is_end (readers.Client (client_read_got got)) ≡ is_read_end got
client-end (callreads.Got n) = refl
client-end callreads.End = refl
client-end callreads.NotYet = refl

server-end : (got : CallRead) → is_end (readers.Server (served_read_got got)) ≡ is_read_end got
server-end (callreads.Got n) = refl
server-end callreads.End = refl
server-end callreads.NotYet = refl

read-facts : (k : CallRecord) (max : ℕ) (end : Bool) → end ≡ is_read_end (read_of k.looks.received max).0
    → ReadFacts k end (read_of k.looks.received max).1
read-facts k max end is =
    let f = from-facts max (unread_of k.looks.received) (is_complete k.looks.received) in
    record { count = f.count; taken = f.taken; ended = λ y. inr (f.ended (sym is ∙ y)) }

-- of a client's call
pub client-facts : (k : CallRecord) (life : Life) (max : ℕ) → (is_ok_end life ≡ true → k.looks.received.ended ≡ true)
    → ReadFacts k (is_end (readers.Client (client_read_by life (read_of k.looks.received max)).0))
    (client_read_by life (read_of k.looks.received max)).1
client-facts k (lives.Ended ends.Ok) max fine =
    record { count = 0; taken = take_none (left_of (ends_in k.looks)); ended = λ y. inl (fine refl) }
client-facts k (lives.Ended (ends.Abort code)) max fine = nothing-read k [] refl
client-facts k (lives.Ended (ends.Dead n)) max fine = nothing-read k [] refl
client-facts k (lives.Ended (ends.Cancelled code)) max fine = nothing-read k [] refl
client-facts k lives.Calling max fine = read-facts k max _ (client-end (read_of k.looks.received max).0)
client-facts k lives.Waiting max fine = read-facts k max _ (client-end (read_of k.looks.received max).0)
client-facts k lives.Accepted max fine = read-facts k max _ (client-end (read_of k.looks.received max).0)
client-facts k lives.Finished max fine = read-facts k max _ (client-end (read_of k.looks.received max).0)
client-facts k (lives.Broken code) max fine = read-facts k max _ (client-end (read_of k.looks.received max).0)
client-facts k (lives.Over code) max fine = read-facts k max _ (client-end (read_of k.looks.received max).0)

-- of a server's
pub server-facts : (k : CallRecord) (life : Life) (max : ℕ)
    → ReadFacts k (is_end (readers.Server (served_read_by life (read_of k.looks.received max)).0))
    (served_read_by life (read_of k.looks.received max)).1
server-facts k lives.Accepted max = read-facts k max _ (server-end (read_of k.looks.received max).0)
server-facts k (lives.Broken code) max = nothing-read k [] refl
server-facts k _ max = nothing-read k [] refl

-- ---- pieces that count

larger : (shut : Bool) (m n : ℕ) → m ≤ n → counting shut m ≤ counting shut n
larger true m n low = omega arith
larger false m n low = omega arith

shut-larger : (shut : Bool) (n : ℕ) → counting shut n ≤ counting true n
shut-larger true n = omega arith
shut-larger false n = omega arith

module _ (Safe Served Good : Type 0) (Cause : End → Type 0) (Comes : Packet → Type 0) (c : CallName) where
  refl-turn : (a : Option CallRecord) → Turn Safe Served Good Cause Comes a a
  refl-turn a = still-turn Safe Served Good Cause Comes a a (still-refl Safe Served Good Cause a)

  pub turn-by : (l m : Looks) → m.calls ≡ l.calls → Turn Safe Served Good Cause Comes (call_at l c) (call_at m c)
  turn-by l m same =
      subst (λ (o : Option CallRecord). Turn Safe Served Good Cause Comes (call_at l c) o) (sym (call-by c l m same))
      (refl-turn (call_at l c))

  -- one call changes
  pub turn-changed : (d : CallName) (change : CallRecord → CallRecord) (l m : Looks)
      → call_at m c ≡ cond (same_name c d) (option_map change (call_at l c)) (call_at l c)
      → ((k : CallRecord) → same_name c d ≡ true → call_at l c ≡ Some k
      → Turn Safe Served Good Cause Comes (Some k) (Some (change k)))
      → Turn Safe Served Good Cause Comes (call_at l c) (call_at m c)
  turn-changed d change l m is turns =
      subst (λ (o : Option CallRecord). Turn Safe Served Good Cause Comes (call_at l c) o) (sym is)
      (of (same_name c d) (call_at l c) turns)
    where
      of : (b : Bool) (o : Option CallRecord)
          → ((k : CallRecord) → b ≡ true → o ≡ Some k → Turn Safe Served Good Cause Comes (Some k) (Some (change k)))
          → Turn Safe Served Good Cause Comes o (cond b (option_map change o) o)
      of true None turns = refl-turn None
      of true (Some k) turns = turns k refl refl
      of false o turns = refl-turn o

  looks-turn : (d : CallName) (change : CallLooks → CallLooks) (l : Looks)
      → ((k : CallRecord) → same_name c d ≡ true → call_at l c ≡ Some k
      → Turn Safe Served Good Cause Comes (Some k) (Some (record k { looks = change k.looks })))
      → Turn Safe Served Good Cause Comes (call_at l c) (call_at (on_looks d change l) c)
  looks-turn d change l turns =
      turn-changed d (λ k. record k { looks = change k.looks }) l (on_looks d change l)
      (call-changed c d (λ k. record k { looks = change k.looks }) l (λ k. refl)) turns

  -- ---- a taking

  pub behind-turn : (s : Setup) (row : Option Took) (from : Host) (d : CallName) (m : Message) (got : Took) (l : Looks)
      → (row ≡ None → OpensBy Safe c (prepared s got (connection_of d) l) d got × (same_name c d ≡ true → Good)
      × TakenWhy Cause Comes c d m got)
      → Turn Safe Served Good Cause Comes (call_at l c) (call_at (taken_behind s row from d m got l) c)
  behind-turn s (Some row) from d m got l why = turn-by l (turned_away row from m l) (calls-turned row from m l)
  behind-turn s None from d m got l why =
      let ready : Looks = prepared s got (connection_of d) l in
      let w = why refl in
      subst (λ (o : Option CallRecord). Turn Safe Served Good Cause Comes o (call_at (taken_with s got d m ready) c))
      (call-by c l ready (calls-prepared s got (connection_of d) l))
      (with-turn Safe Served Good Cause Comes c s got d m ready w.0 w.1 w.2)

  -- ---- a giving

  piece-turn : (now seq : ℕ) (k : CallRecord) → seq ≤ counting_of k.looks.sent
      → Turn Safe Served Good Cause Comes (Some k) (Some (record k { looks = after_piece now seq k.looks }))
  piece-turn now seq k counts =
      streams-turn Safe Served Good Cause Comes k (record k { looks = after_piece now seq k.looks }) refl refl refl
      (λ safe. given_moves Comes (ends_in k.looks) (record { seq = seq; moment = now } ∷ k.looks.sent.givings))
      (λ sends. record { counts = (let old = sends.counts in omega arith); fits = sends.fits })

  given_body-turn : (d : CallName) (m : Message) (body : Body) (l : Looks)
      → ((payload : List ℕ) (k : CallRecord) → body ≡ bodies.Chunk payload → same_name c d ≡ true → call_at l c ≡ Some k
      → m.seq ≤ counting_of k.looks.sent)
      → Turn Safe Served Good Cause Comes (call_at l c) (call_at (given_body d m body l) c)
  given_body-turn d m (bodies.Chunk payload) l counts =
      looks-turn d (after_piece l.now m.seq) l (λ k same is. piece-turn l.now m.seq k (counts payload k refl same is))
  given_body-turn d m (bodies.Ack a) l counts =
      looks-turn d (after_ack_given l.now) l
      (λ k same is. streams-turn Safe Served Good Cause Comes k
      (record k { looks = after_ack_given l.now k.looks }) refl refl refl
      (λ safe. given_moves Comes (ends_in k.looks) k.looks.sent.givings) (λ sends. sends))
  given_body-turn d m _ l counts = refl-turn (call_at l c)

  given_message-turn : (s : Setup) (to : Host) (reading : Result Message BadMsg) (l : Looks)
      → ((m : Message) (payload : List ℕ) (k : CallRecord) → reading ≡ Ok m → m.body ≡ bodies.Chunk payload
      → same_name c (named s to m) ≡ true → call_at l c ≡ Some k → m.seq ≤ counting_of k.looks.sent)
      → Turn Safe Served Good Cause Comes (call_at l c) (call_at (given_message s to reading l) c)
  given_message-turn s to (Err bad) l counts = refl-turn (call_at l c)
  given_message-turn s to (Ok m) l counts = of (is_stray m m.body)
    where
      of : (b : Bool) → Turn Safe Served Good Cause Comes (call_at l c)
          (call_at (if b then record l { strays = drop 1 l.strays } else given_body (named s to m) m m.body
          (counted (connection_of (named s to m)) l)) c)
      of true = refl-turn (call_at l c)
      of false =
          given_body-turn (named s to m) m m.body (counted (connection_of (named s to m)) l)
          (λ payload k body same is. counts m payload k refl body same is)

  pub given-turn : (s : Setup) (got : Option (Host × List ℕ)) (l : Looks)
      → ((to : Host) (bytes : List ℕ) (m : Message) (payload : List ℕ) (k : CallRecord) → got ≡ Some (to, bytes)
      → reading_of bytes ≡ Ok m
      → m.body ≡ bodies.Chunk payload → same_name c (named s to m) ≡ true → call_at l c ≡ Some k
      → m.seq ≤ counting_of k.looks.sent)
      → Turn Safe Served Good Cause Comes (call_at l c) (call_at (given_by s got l) c)
  given-turn s None l counts = refl-turn (call_at l c)
  given-turn s (Some (to, bytes)) l counts =
      given_message-turn s to (reading_of bytes) l (λ m payload k reads. counts to bytes m payload k refl reads)

  -- ---- a write, a shut, a read

  pub wrote-turn : (d : CallName) (bytes : List ℕ) (l : Looks)
      → ((k : CallRecord) → same_name c d ≡ true → call_at l c ≡ Some k
      → (Safe → k.looks.sent.shut ≡ true → bytes ≡ []) × (length k.looks.sent.said ≤ 1412 * 4294967294
      → length k.looks.sent.said + length bytes ≤ 1412 * 4294967294))
      → Turn Safe Served Good Cause Comes (call_at l c) (call_at (on_looks d (after_write bytes) l) c)
  wrote-turn d bytes l facts =
      looks-turn d (after_write bytes) l (λ k same is. (
      let f = facts k same is in
      streams-turn Safe Served Good Cause Comes k (record k { looks = after_write bytes k.looks }) refl refl refl
      (λ safe. said_moves Comes (ends_in k.looks) bytes (f.0 safe))
      (λ sends. record {
        counts = (
            let old = sends.counts in
            let more = larger k.looks.sent.shut (length k.looks.sent.said) (length (k.looks.sent.said ++ bytes))
            (omega (arith, length-append k.looks.sent.said bytes)) in
            omega arith);
        fits = (let room = f.1 sends.fits in omega (arith, length-append k.looks.sent.said bytes));
      })))

  read-changed : (b : Bool) (f g : CallRecord → CallRecord) (o x : Option CallRecord) → x ≡ cond b (option_map f o) o
      → cond b (option_map g x) x ≡ cond b (option_map (λ k. g (f k)) o) o
  read-changed true f g None x is = rw is refl
  read-changed true f g (Some k) x is = rw is refl
  read-changed false f g o x is = is

  end-runs : (end : Bool) (x : Life) → is_running (after_end end x) ≡ true → is_running x ≡ true
  end-runs true lives.Calling is = absurd cc
  end-runs true (lives.Ended e) is = is
  end-runs true lives.Waiting is = is
  end-runs true lives.Accepted is = is
  end-runs true lives.Finished is = is
  end-runs true (lives.Broken code) is = is
  end-runs true (lives.Over code) is = is
  end-runs false x is = is

  end-waits : (end : Bool) (x : Life) → is_waiting (after_end end x) ≡ true → is_waiting x ≡ true
  end-waits true lives.Calling is = absurd cc
  end-waits true (lives.Ended e) is = is
  end-waits true lives.Waiting is = is
  end-waits true lives.Accepted is = is
  end-waits true lives.Finished is = is
  end-waits true (lives.Broken code) is = is
  end-waits true (lives.Over code) is = is
  end-waits false x is = is

  end-fine : (end old : Bool) (x : Life) → (is_ok_end x ≡ true → old ≡ true) → is_ok_end (after_end end x) ≡ true
      → (end || old) ≡ true
  end-fine true old x fine is = refl
  end-fine false old x fine is = fine is

  end-ends : (o : Bool) (x : Life) → Cause ends.Ok → (end : End) → end_of_life (after_end o x) ≡ Some end
      → (end_of_life x ≡ Some end) ⊎ Cause end
  end-ends true lives.Calling cause end is = inr (subst Cause (some_is ends.Ok end is) cause)
    where
      some_is : (a b : End) → Some a ≡ Some b → a ≡ b
      some_is a b is = cc
  end-ends true (lives.Ended e) cause end is = inl is
  end-ends true lives.Waiting cause end is = inl is
  end-ends true lives.Accepted cause end is = inl is
  end-ends true lives.Finished cause end is = inl is
  end-ends true (lives.Broken code) cause end is = inl is
  end-ends true (lives.Over code) cause end is = inl is
  end-ends false x cause end is = inl is

  or_right : (b old : Bool) → old ≡ true → (b || old) ≡ true
  or_right true old is = refl
  or_right false old is = is

  read-ended : (x : Ends) (end : Bool) → (end ≡ true → (x.ended ≡ true) ⊎ ((left_of x ≡ []) × (whole_of x ≡ true)))
      → (end || x.ended) ≡ true → (x.ended ≡ true) ⊎ ((left_of x ≡ []) × (whole_of x ≡ true))
  read-ended x true facts is = facts refl
  read-ended x false facts is = inl is

  pub read-turn : (d : CallName) (end : Bool) (bytes : List ℕ) (l : Looks) → Cause ends.Ok
      → ((k : CallRecord) → same_name c d ≡ true → call_at l c ≡ Some k → Safe → ReadFacts k end bytes)
      → Turn Safe Served Good Cause Comes (call_at l c) (call_at (read_done d end bytes l) c)
  read-turn d end bytes l cause facts =
      let f : CallRecord → CallRecord = λ k. record k { looks = after_read l.now end bytes k.looks } in
      let g : CallRecord → CallRecord = λ k. record k { life = after_end end k.life } in
      let first : Looks = acknowledged end d l in
      let second : Looks = on_looks d (after_read l.now end bytes) first in
      turn-changed d (λ k. g (f k)) l (read_done d end bytes l)
      (call-changed c d g second (λ k. refl)
      ∙ read-changed (same_name c d) f g (call_at l c) (call_at second c) (call-changed c d f first (λ k. refl)))
      (λ k same is. (
      record {
        moves = λ safe. (
            let r = facts k same is safe in
            record {
              grows = same_stream k.looks.sent.said k.looks.sent.shut;
              kept = inl refl;
              count = r.count;
              read = ap (λ (xs : List ℕ). k.looks.received.read ++ xs) r.taken;
              ended = read-ended (ends_in k.looks) end r.ended;
            });
        sends = λ s. s;
        fine = λ safe fine y. end-fine end k.looks.received.ended k.life fine y;
        ends = λ safe e y. end-ends end k.life cause e y;
        counts = λ safe s n m p counts.
            record {
              waiting = λ y. counts.waiting (end-waits end k.life y);
              running = λ y. counts.running (end-runs end k.life y);
              once = counts.once;
              shut = λ y. (let w = counts.shut y in (w.0, w.1, or_right end k.looks.received.ended w.2, w.3));
            };
        named = λ y. inl refl;
      }))

  -- ---- a shut, and a life

  pub shut-turn : (d : CallName) (l : Looks) → (same_name c d ≡ true → Served → ⊥)
      → Turn Safe Served Good Cause Comes (call_at l c) (call_at (on_looks d after_shut l) c)
  shut-turn d l unserved =
      looks-turn d after_shut l (λ k same is. record {
        moves = λ safe. shut_moves Comes (ends_in k.looks);
        sends = λ sends.
            record {
              counts = (let old = sends.counts in let more = shut-larger k.looks.sent.shut
                  (length k.looks.sent.said) in omega arith);
              fits = sends.fits;
            };
        fine = λ safe f. f;
        ends = λ safe end is. inl is;
        counts = λ safe s. absurd (unserved same s);
        named = λ is. inl refl;
      })

  pub still-changed : (d : CallName) (change : CallRecord → CallRecord) (l m : Looks)
      → call_at m c ≡ cond (same_name c d) (option_map change (call_at l c)) (call_at l c)
      → ((k : CallRecord) → same_name c d ≡ true → call_at l c ≡ Some k
      → Still Safe Served Good Cause (Some k) (Some (change k)))
      → Still Safe Served Good Cause (call_at l c) (call_at m c)
  still-changed d change l m is stills =
      subst (λ (o : Option CallRecord). Still Safe Served Good Cause (call_at l c) o) (sym is)
      (of (same_name c d) (call_at l c) stills)
    where
      of : (b : Bool) (o : Option CallRecord)
          → ((k : CallRecord) → b ≡ true → o ≡ Some k → Still Safe Served Good Cause (Some k) (Some (change k)))
          → Still Safe Served Good Cause o (cond b (option_map change o) o)
      of true None stills = still-refl Safe Served Good Cause None
      of true (Some k) stills = stills k refl refl
      of false o stills = still-refl Safe Served Good Cause o

  pub life-changed : (d : CallName) (change : Life → Life) (l : Looks)
      → ((x : Life) → is_ok_end (change x) ≡ true → is_ok_end x ≡ true)
      → ((x : Life) (end : End) → same_name c d ≡ true → end_of_life (change x) ≡ Some end
      → (end_of_life x ≡ Some end) ⊎ Cause end)
      → (same_name c d ≡ true → Served → ⊥)
      → Still Safe Served Good Cause (call_at l c) (call_at (on_life d change l) c)
  life-changed d change l fine ends unserved =
      still-changed d (λ k. record k { life = change k.life }) l (on_life d change l)
      (call-changed c d (λ k. record k { life = change k.life }) l (λ k. refl))
      (λ k same is. life-still Safe Served Good Cause k (change k.life) (fine k.life) (λ end. ends k.life end same)
      (unserved same))
