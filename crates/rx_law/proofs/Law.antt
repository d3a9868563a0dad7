-- The law of a connection whose server starts no call anew.
use Rattle.std.proofs.Common.{◌≡◌, ◌⊎◌, ◌||◌, ◌==◌, ◌≤◌, ◌+◌, ℕ, ℤ, pos, negsuc, suc, zero, cond, if◌then◌else◌, not}
use Rattle.std.proofs.Common.{Bool, true, false, List, [], ◌∷◌, ◌++◌}
use Rattle.std.proofs.Common.{Option, Some, None, Result, Ok, Err, refl, ◌∙◌, ap, sym, subst, inl, inr, arith}
use Rattle.std.specs.Prelude.{IsSomeAnd}
use Rattle.rx_model.specs.declared.answers.End.{End}
use Rattle.rx_model.specs.declared.answers.End.TheVariants as ends
use Rattle.rx_model.specs.declared.answers.ServeRefused.{ServeRefused}
use Rattle.rx_model.specs.declared.answers.Took.TheVariants as tooks
use Rattle.rx_model.specs.declared.event.Event.{Event}
use Rattle.rx_model.specs.declared.event.Event.TheVariants as events
use Rattle.rx_model.specs.declared.event.Noted.{Noted}
use Rattle.rx_model.specs.declared.names.CallName.{CallName}
use Rattle.rx_rules.specs.After.{is_ok_end, is_zero, looks}
use Rattle.rx_model.specs.Body as bodies
use Rattle.rx_history.specs.Counts.{finishes, times, times_accepted, times_finished}
use Rattle.rx_rules.specs.Life.{Life}
use Rattle.rx_rules.specs.Life as lives
use Rattle.rx_rules.specs.Looks.{CallRecord, call_at}
use Rattle.rx_model.specs.Message.{Message}
use Rattle.rx_model.specs.Names.{Connection, connection_of, name_of}
use Rattle.rx_law.specs.Promises.{EndsAs, EndsByCancel, EndsBySilence, EndsOk, LawOf, LawOn, RequestWhole, at_client}
use Rattle.rx_law.specs.Promises.{at_server}
use Rattle.rx_model.specs.Reading.{reading_of}
use Rattle.rx_rules.specs.Records.{silence_of}
use Rattle.rx_rules.specs.Rules.{Legal, served_finish}
use Rattle.rx_rules.specs.Setup.{Client, FitsSetup, named}
use Rattle.rx_history.specs.Sides.{side}
use Rattle.rx_history.specs.Streams.{Begins, end_at, end_by, end_of_life, is_shut_by, read_by, said_by}
use Rattle.rx_law.specs.Worlds.{Gave, TwoEnds}
use Rattle.rx_model.proofs.NameLaws.{number_itself, name_itself, same_number}
use Rattle.rx_history.proofs.Laws.OnceLaw.{served}
use Rattle.rx_history.proofs.Client.{CauseBy}
use Rattle.rx_history.proofs.ClientHistory.{called-turn, client-calls}
use Rattle.rx_history.proofs.Ends.{ends_of}
use Rattle.rx_law.proofs.Joint.{Came, Fed, between, client-name, fed-at, fed-before, not-both}
use Rattle.rx_law.proofs.ServerHistory.{Served, finishes_well, or_not, server-serves}
use Rattle.rx_history.proofs.ServerStands.{running-at}
use Rattle.rx_history.proofs.Turns.{CountedOf, Fine}

-- ---- the words of the law, of the streams as one value

pub said-is : (o : Option CallRecord) → said_by o ≡ (ends_of o).said
said-is None = refl
said-is (Some k) = refl

read-is : (o : Option CallRecord) → read_by o ≡ (ends_of o).read
read-is None = refl
read-is (Some k) = refl

pub shut-is : (o : Option CallRecord) → is_shut_by o ≡ (ends_of o).shut
shut-is None = refl
shut-is (Some k) = refl

begins-is : (a b : Option CallRecord) → Begins (ends_of a).read (ends_of b).said → Begins (read_by a) (said_by b)
begins-is a b begins =
    subst (λ (xs : List ℕ). Begins xs (said_by b)) (sym (read-is a))
    (subst (λ (xs : List ℕ). Begins (ends_of a).read xs) (sym (said-is b)) begins)

-- ---- once

once-of : (o : Option CallRecord) (n m p : ℕ) → CountedOf o n m p → n ≤ 1
once-of None n m p counted = (let zero = counted.0 in omega arith)
once-of (Some k) n m p counted = counted.once

serves : (x : TwoEnds) (h : List Noted) (c : CallName) → Fed x h → connection_of c ≡ x.connection
    → Served x.server_setup (side x.server h) c
serves x h c f on =
    server-serves x.server_setup (side x.server h) c f.server_kind f.server_fits f.server_legal (f.once c on)

-- ---- ends

-- what stands where a call of a client ended, but by its reply
abbrev Stood : End → TwoEnds → CallName → List Event → List Event → Type 0
Stood ends.Ok x c cl sv = Unit {0}
Stood (ends.Abort code) x c cl sv =
    (bytes : List ℕ) × (m : Message) × (reading_of bytes ≡ Ok m) × (m.body ≡ bodies.Abort code)
    × ((name_of c.host m ≡ c) ⊎ ((m.number ≡ 0) × (connection_of (name_of c.host m) ≡ connection_of c)))
    × Gave x.connection.host bytes sv
Stood (ends.Dead n) x c cl sv = EndsBySilence x.client_setup c n cl
Stood (ends.Cancelled code) x c cl sv = EndsByCancel c code cl

stands-client : (end : End) (x : TwoEnds) (c : CallName) (e : Event) (cl sv : List Event) → Stood end x c cl sv
    → Stood end x c (e ∷ cl) sv
stands-client ends.Ok x c e cl sv s = tt
stands-client (ends.Abort code) x c e cl sv s = s
stands-client (ends.Dead n) x c e cl sv s =
    record {
      later = e ∷ s.later;
      got = s.got;
      before = s.before;
      is = ap
          (λ (es : List Event). e ∷ es) s.is;
      long = s.long;
      heard = s.heard;
    }
stands-client (ends.Cancelled code) x c e cl sv s = inr s

stands-server : (end : End) (x : TwoEnds) (c : CallName) (e : Event) (cl sv : List Event) → Stood end x c cl sv
    → Stood end x c cl (e ∷ sv)
stands-server ends.Ok x c e cl sv s = tt
stands-server (ends.Abort code) x c e cl sv s = (s.0, s.1, s.2, s.3, s.4, inr s.5)
stands-server (ends.Dead n) x c e cl sv s = s
stands-server (ends.Cancelled code) x c e cl sv s = s

-- an event that ends it
ended-by : (end : End) (x : TwoEnds) (c : CallName) (e : Event) (cl sv : List Event) → x.client_setup.kind
    ≡ Client x.connection.host x.connection.epoch
    → connection_of c ≡ x.connection
    → Came x.client_setup (looks x.client_setup cl) x.connection e (λ bytes. Gave x.connection.host bytes sv)
    → CauseBy x.client_setup (looks x.client_setup cl) e c end → Stood end x c (e ∷ cl) sv
ended-by ends.Ok x c e cl sv kind on came cause = tt
ended-by (ends.Abort code) x c (events.Taken from bytes tooks.Stopped) cl sv kind on came w =
    let name : named x.client_setup from w.message ≡ name_of c.host w.message =
    client-name x.client_setup x.connection from w.message kind
    ∙ ap (λ (y : Connection). name_of y.host w.message) (sym on) in
    let at : connection_of (named x.client_setup from w.message) ≡ x.connection =
    (elim w.name as (λ t. connection_of (named x.client_setup from w.message) ≡ x.connection) [
      | inl same ↦ ap connection_of same ∙ on
      | inr all ↦ all.1 ∙ on
    ]) in (
      bytes,
      w.message,
      w.reads,
      w.body,
      (elim w.name as (λ t. (name_of c.host w.message ≡ c) ⊎
          ((w.message.number ≡ 0) × (connection_of (name_of c.host w.message) ≡ connection_of c))) [
            | inl same ↦ inl (sym name ∙ same)
            | inr all ↦ inr (all.0, ap connection_of (sym name) ∙ all.1)
          ]),
      came w.message w.reads w.front at,
    )
ended-by (ends.Abort code) x c _ cl sv kind on came w = absurd w
ended-by (ends.Dead n) x c (events.Polled got) cl sv kind on came w =
    record {
      later = [];
      got = got;
      before = cl;
      is = refl;
      long = w.long;
      heard =
          subst (λ (o : Option CallRecord). IsSomeAnd o (λ k. n ≡ silence_of (looks x.client_setup cl).now k))
          (sym w.there) w.is;
    }
ended-by (ends.Dead n) x c _ cl sv kind on came w = absurd w
ended-by (ends.Cancelled code) x c (events.Cancelled d told (Ok done)) cl sv kind on came w = inl w
ended-by (ends.Cancelled code) x c (events.Cancelled d told (Err closed)) cl sv kind on came w = absurd w
ended-by (ends.Cancelled code) x c _ cl sv kind on came w = absurd w

module _ (x : TwoEnds) (cl sv : List Event) (e : Event) where
  ends-step : (at_c at_s : Bool) (c : CallName) → (at_c ≡ true → at_s ≡ true → ⊥)
      → x.client_setup.kind ≡ Client x.connection.host x.connection.epoch → FitsSetup x.client_setup
      → Legal x.client_setup (cond at_c (e ∷ cl) cl) → connection_of c ≡ x.connection
      → (at_c ≡ true → Came x.client_setup (looks x.client_setup cl) x.connection e
      (λ bytes. Gave x.connection.host bytes sv))
      → ((end : End) → end_by (call_at (looks x.client_setup cl) c) ≡ Some end → Stood end x c cl sv) → (end : End)
      → end_by (call_at (looks x.client_setup (cond at_c (e ∷ cl) cl)) c) ≡ Some end
      → Stood end x c (cond at_c (e ∷ cl) cl) (cond at_s (e ∷ sv) sv)
  ends-step true true c apart kind fits legal on came old end is = absurd (apart refl refl)
  ends-step false false c apart kind fits legal on came old end is = old end is
  ends-step false true c apart kind fits legal on came old end is = stands-server end x c e cl sv (old end is)
  ends-step true false c apart kind fits legal on came old end is =
      let calls = client-calls x.client_setup x.connection.host x.connection.epoch cl kind fits legal.1 in
      let turn = called-turn x.client_setup x.connection.host x.connection.epoch e cl c kind fits legal calls in
      (elim (turn.ends tt end is) as (λ t. Stood end x c (e ∷ cl) sv) [
        | inl before ↦ stands-client end x c e cl sv (old end before)
        | inr now ↦ ended-by end x c e cl sv kind on (came refl) now
      ])

stood : (x : TwoEnds) (h : List Noted) (c : CallName) → Fed x h → connection_of c ≡ x.connection → (end : End)
    → end_at (at_client x h) c ≡ Some end
    → Stood end x c (side x.client h) (side x.server h)
stood x [] c f on end is = absurd cc
stood x (e ∷ h) c f on end is =
    ends-step x (side x.client h) (side x.server h) e.event (e.node == x.client) (e.node == x.server) c
    (not-both x.client x.server e.node f.apart)
    f.client_kind f.client_fits f.client_legal on (λ here. f.came.1 (same_number e.node x.client here))
    (stood x h c (fed-before x e h f) on) end is

-- ---- a good end

ok-ended : (o : Option CallRecord) → Fine o → end_by o ≡ Some ends.Ok → (ends_of o).ended ≡ true
ok-ended None fine is = absurd cc
ok-ended (Some k) fine is = fine (of k.life is)
  where
    of : (x : Life) → end_of_life x ≡ Some ends.Ok → is_ok_end x ≡ true
    of (lives.Ended ends.Ok) is = refl
    of (lives.Ended (ends.Abort code)) is = absurd cc
    of (lives.Ended (ends.Dead n)) is = absurd cc
    of (lives.Ended (ends.Cancelled code)) is = absurd cc
    of lives.Calling is = absurd cc
    of lives.Waiting is = absurd cc
    of lives.Accepted is = absurd cc
    of lives.Finished is = absurd cc
    of (lives.Broken code) is = absurd cc
    of (lives.Over code) is = absurd cc

shut-counts : (o : Option CallRecord) (n m p : ℕ) → CountedOf o n m p → (ends_of o).shut ≡ true → (n ≡ 1) × (m ≡ 1)
    × (p ≡ 1)
shut-counts None n m p counted shut = absurd cc
shut-counts (Some k) n m p counted shut = (let w = counted.shut shut in (w.0, w.1, w.3))

times-split : (f : Event → CallName → Bool) (c : CallName) (later before : List Event) → times f (later ++ before) c
    ≡ times f later c + times f before c
times-split f c [] before = omega arith
times-split f c (e ∷ later) before =
    let rest = times-split f c later before in
    (elim (f e c) as (λ b. (if b then suc (times f (later ++ before) c) else times f (later ++ before) c)
    ≡ (if b then suc (times f later c) else times f later c) + times f before c) [
      | true ↦ omega arith
      | false ↦ rest
    ])

well-within : (e : Event) (c : CallName) → finishes e c ≡ false → finishes_well e c ≡ false
well-within (events.Finished d code got) c out = rw out refl
well-within (events.Linked to service first got) c out = refl
well-within (events.Called cid got) c out = refl
well-within (events.Wrote d offered got bytes) c out = refl
well-within (events.Shut d got) c out = refl
well-within (events.HasRead d max got bytes) c out = refl
well-within (events.Ended d got) c out = refl
well-within (events.Cancelled d code got) c out = refl
well-within (events.Accepted got) c out = refl
well-within (events.Taken from bytes got) c out = refl
well-within (events.Polled got) c out = refl
well-within (events.Clocked now) c out = refl

well-fewer : (h : List Event) (c : CallName) → times finishes_well h c ≤ times_finished h c
well-fewer [] c = omega arith
well-fewer (e ∷ h) c =
    let rest = well-fewer h c in
    (elim (finishes e c) as (λ b. finishes e c ≡ b → (if finishes_well e c then suc
    (times finishes_well h c) else times finishes_well h c)
    ≤ (if b then suc (times_finished h c) else times_finished h c)) [
      | true ↦ λ in'. (elim (finishes_well e c) as (λ b. (if b then suc
          (times finishes_well h c) else times finishes_well h c) ≤ suc (times_finished h c)) [
            | true ↦ omega arith
            | false ↦ omega arith
          ])
      | false ↦ λ out. rw (well-within e c out) (omega arith)
    ]) refl

pub zero-code : (code : ℤ) → is_zero code ≡ true → code ≡ pos 0
zero-code (pos zero) is = refl
zero-code (pos (suc n)) is = absurd cc
zero-code (negsuc n) is = absurd cc

-- the one finish of a call that was finished well had the code 0
finish-zero : (c : CallName) (code : ℤ) (later before : List Event)
    → times_finished (later ++ events.Finished c code (Ok tt) ∷ before) c ≡ 1
    → times finishes_well (later ++ events.Finished c code (Ok tt) ∷ before) c ≡ 1 → is_zero code ≡ true
finish-zero c code later before one well =
    let e : Event = events.Finished c code (Ok tt) in
    let all = times-split finishes c later (e ∷ before) in
    let good = times-split finishes_well c later (e ∷ before) in
    let fewer = well-fewer later c in
    let fewer' = well-fewer before c in
    let itself = name_itself c in
    (elim (is_zero code) as (λ b. is_zero code ≡ b → b ≡ true) [
      | true ↦ λ is. refl
      | false ↦ λ is. absurd (
          let now : times_finished (e ∷ before) c ≡ suc (times_finished before c) = rw itself refl in
          let none : times finishes_well (e ∷ before) c ≡ times finishes_well before c = rw (itself, is) refl in
          let sum : times_finished later c + times_finished (e ∷ before) c ≡ 1 = sym all ∙ one in
          let sum' : times finishes_well later c + times finishes_well (e ∷ before) c ≡ 1 = sym good ∙ well in
          omega arith)
    ]) refl

pub side-split : (n : ℕ) (later before : List Noted) → side n (later ++ before) ≡ side n later ++ side n before
side-split n [] before = refl
side-split n (e ∷ later) before =
    let rest = side-split n later before in
    (elim (e.node == n) as (λ b. (if b then e.event ∷ side n (later ++ before) else side n (later ++ before))
    ≡ (if b then e.event ∷ side n later else side n later) ++ side n before) [
      | true ↦ ap (λ (es : List Event). e.event ∷ es) rest
      | false ↦ rest
    ])

side-here : (n : ℕ) (event : Event) (before : List Noted) → side n (record { node = n; event = event } ∷ before)
    ≡ event ∷ side n before
side-here n event before = rw (number_itself n) refl

-- where the server finished a call with 0 the whole request was said and read
finish-whole : (x : TwoEnds) (before : List Noted) (c : CallName) (code : ℤ)
    → Fed x (record { node = x.server; event = events.Finished c code (Ok tt) } ∷ before) → connection_of c
    ≡ x.connection → is_zero code ≡ true
    → RequestWhole x c before
finish-whole x before c code f on zero' =
    let old = fed-before x (record { node = x.server; event = events.Finished c code (Ok tt) }) before f in
    let legal : Legal x.server_setup (events.Finished c code (Ok tt) ∷ side x.server before) =
    subst (λ (es : List Event). Legal x.server_setup es) (side-here x.server
    (events.Finished c code (Ok tt)) before) f.server_legal in
    let allowed = served x.server_setup.kind x.server_setup (at_server x before)
    (events.Finished c code (Ok tt)) f.server_kind legal.0 in
    let ended = of (call_at (at_server x before) c) allowed.1 in
    let w = (between x before c old on).request.ended ended in
    record {
      shut = shut-is (call_at (at_client x before) c) ∙ w.0;
      read = read-is (call_at (at_server x before) c) ∙ w.1 ∙ sym (said-is (call_at (at_client x before) c));
    }
  where
    of : (o : Option CallRecord) → ◌≡◌ {A = Result (Unit {0}) ServeRefused} (Ok tt) (served_finish o code)
        → (ends_of o).ended ≡ true
    of None is = absurd cc
    of (Some k) is =
        or_not k.looks.received.ended (is_zero code) (running-at k.life
        (k.looks.received.ended || not (is_zero code)) tt is).1 zero'

ends-ok : (x : TwoEnds) (h : List Noted) (c : CallName) → Fed x h → connection_of c ≡ x.connection
    → end_at (at_client x h) c ≡ Some ends.Ok → EndsOk x c h
ends-ok x h c f on is =
    let calls = client-calls x.client_setup x.connection.host x.connection.epoch
    (side x.client h) f.client_kind f.client_fits f.client_legal in
    let ended = ok-ended (call_at (at_client x h) c) (calls.fine c) is in
    let w = (between x h c f on).reply.ended ended in
    let counts = shut-counts (call_at (at_server x h) c) (times_accepted (side x.server h) c)
    (times_finished (side x.server h) c)
    (times finishes_well (side x.server h) c) (serves x h c f on).counted w.0 in
    record {
      accepted = counts.0;
      finished = counts.1;
      at_finish = λ later before code split. (
          let e : Noted = record { node = x.server; event = events.Finished c code (Ok tt) } in
          let sides : side x.server h ≡ side x.server later ++ events.Finished c code (Ok tt) ∷ side x.server before =
          ap (side x.server) split ∙ side-split x.server later (e ∷ before)
          ∙ ap (λ (es : List Event). side x.server later ++ es)
          (side-here x.server (events.Finished c code (Ok tt)) before) in
          let zero' = finish-zero c code (side x.server later) (side x.server before)
          (subst (λ (es : List Event). times_finished es c ≡ 1) sides counts.1)
          (subst (λ (es : List Event). times finishes_well es c ≡ 1) sides counts.2) in (
            zero-code code zero',
            finish-whole x before c code (fed-at x later (e ∷ before)
                (subst (λ (es : List Noted). Fed x es) split f)) on zero',
          ));
      shut = shut-is (call_at (at_server x h) c) ∙ w.0;
      read = read-is (call_at (at_client x h) c) ∙ w.1 ∙ sym (said-is (call_at (at_server x h) c));
    }

law-ends : (end : End) (x : TwoEnds) (h : List Noted) (c : CallName) → Fed x h → connection_of c ≡ x.connection
    → end_at (at_client x h) c ≡ Some end
    → Stood end x c (side x.client h) (side x.server h) → EndsAs end x c h
law-ends ends.Ok x h c f on is s = ends-ok x h c f on is
law-ends (ends.Abort code) x h c f on is s =
    record { bytes = s.0; message = s.1; reads = s.2; body = s.3; name = s.4; gave = s.5 }
law-ends (ends.Dead n) x h c f on is s = s
law-ends (ends.Cancelled code) x h c f on is s = s

pub law-of : (x : TwoEnds) (h : List Noted) (c : CallName) → Fed x h → connection_of c ≡ x.connection → LawOf x c h
law-of x h c f on =
    let b = between x h c f on in
    record {
      once = once-of (call_at (at_server x h) c) (times_accepted (side x.server h) c)
          (times_finished (side x.server h) c)
          (times finishes_well (side x.server h) c) (serves x h c f on).counted;
      prefix =
          record {
            request = begins-is (call_at (at_server x h) c) (call_at (at_client x h) c) b.request.read;
            reply = begins-is (call_at (at_client x h) c) (call_at (at_server x h) c) b.reply.read;
          };
      ends = λ end is. law-ends end x h c f on is (stood x h c f on end is);
    }

-- at every moment
pub law-on : (x : TwoEnds) (h : List Noted) → Fed x h → LawOn x h
law-on x h f c on later now is = law-of x now c (fed-at x later now (subst (λ (es : List Noted). Fed x es) is f)) on
