-- What stands of a call of a server whose connection's record was not forgotten, after a legal history.
use Rattle.std.proofs.Common.{◌≡◌, ◌&&◌, ◌||◌, ℕ, ℤ, suc, if◌then◌else◌, not}
use Rattle.std.proofs.Common.{is_ok, Bool, true, false, List, [], ◌∷◌}
use Rattle.std.proofs.Common.{Option, Some, None, option_map, Result, Ok, Err, refl, ◌∙◌, ap, sym, subst, arith}
use Rattle.rx_model.specs.declared.answers.ServeRefused.{ServeRefused}
use Rattle.rx_model.specs.declared.event.Event.{Event}
use Rattle.rx_model.specs.declared.event.Event.TheVariants as events
use Rattle.rx_model.specs.declared.names.CallName.{CallName}
use Rattle.rx_rules.specs.After.{after, finished, is_zero, looks, owing_abort}
use Rattle.rx_rules.specs.CallLooks.{after_shut}
use Rattle.rx_history.specs.Counts.{accepts, finishes, times, times_accepted, times_finished}
use Rattle.rx_rules.specs.Life.{Life, after_accept, after_finish, is_waiting}
use Rattle.rx_rules.specs.Life as lives
use Rattle.rx_rules.specs.Looks.{CallRecord, Looks, call_at, on_channel, on_life, on_looks}
use Rattle.rx_model.specs.Names.{Connection, channel_of, connection_of, same_name}
use Rattle.rx_rules.specs.Rules.{AllowedServer, Legal, can_enter, served_finish}
use Rattle.rx_rules.specs.Setup.{Setup, FitsSetup, IsServer}
use Rattle.rx_rules.proofs.FindLaws.{find_passes}
use Rattle.rx_model.proofs.NameLaws.{both, name_is, name_itself}
use Rattle.rx_history.proofs.Laws.SoundLaws.{Sound}
use Rattle.rx_history.proofs.Laws.OnceLaw.{served, is_call-some}
use Rattle.rx_history.proofs.Calls.{call-changed}
use Rattle.rx_history.proofs.Data.{GoodName}
use Rattle.rx_history.proofs.Lives.{is_running}
use Rattle.rx_history.proofs.Numbers.{sound-server, spared-server}
use Rattle.rx_history.proofs.Places.{Spared}
use Rattle.rx_history.proofs.ServerStands.{running-at, server-stands}
use Rattle.rx_history.proofs.Server.{Arrives, Uncounted, server-turn, spared-starts}
use Rattle.rx_history.specs.Starts.{StartsOnce}
use Rattle.rx_history.proofs.Turns.{CountedOf, Turn}

-- ---- a call whose connection's record was not forgotten

-- a finish with 0 that answered ok
abbrev pub finishes_well : Event → CallName → Bool
finishes_well (events.Finished d code got) c = (same_name c d && is_ok got) && is_zero code
finishes_well _ c = false

pub record Served (s : Setup) (h : List Event) (c : CallName) : Type 0 where
  pub counted : CountedOf (call_at (looks s h) c) (times_accepted h c) (times_finished h c) (times finishes_well h c)

accepted-counted : (k : CallRecord) (n m p : ℕ) → is_waiting k.life ≡ true → CountedOf (Some k) n m p
    → CountedOf (Some (record k { life = after_accept k.life })) (suc n) m p
accepted-counted k n m p waits counted =
    let w = counted.waiting waits in
    let zero = w.0 in
    let is : after_accept k.life ≡ lives.Accepted = of k.life waits in
    record {
      waiting = λ y. absurd (let not_now : is_waiting (after_accept k.life)
          ≡ false = ap is_waiting is in cc (y, not_now));
      running = λ y. (omega arith, w.1, w.2, w.3);
      once = omega arith;
      shut = λ y. absurd (let open_still = w.2 in cc (y, open_still));
    }
  where
    of : (x : Life) → is_waiting x ≡ true → after_accept x ≡ lives.Accepted
    of lives.Waiting waits = refl
    of lives.Calling waits = absurd cc
    of (lives.Ended end) waits = absurd cc
    of lives.Accepted waits = absurd cc
    of lives.Finished waits = absurd cc
    of (lives.Broken code) waits = absurd cc
    of (lives.Over code) waits = absurd cc

pub or_not : (a b : Bool) → (a || not b) ≡ true → b ≡ true → a ≡ true
or_not true b is holds = refl
or_not false true is holds = absurd cc
or_not false false is holds = absurd cc

-- the record behind a finish
abbrev finished_as : ℤ → CallRecord → CallRecord
finished_as code k =
    record k {
      life = after_finish (is_zero code) code k.life;
      looks =
          (if is_zero code then after_shut k.looks else k.looks);
    }

finished-counted : (code : ℤ) (k : CallRecord) (n m p : ℕ) → k.life ≡ lives.Accepted
    → (k.looks.received.ended || not (is_zero code)) ≡ true
    → CountedOf (Some k) n m p → CountedOf (Some (finished_as code k)) n (suc m) (if is_zero code then suc p else p)
finished-counted code k n m p life may counted =
    let w = counted.running (ap is_running life) in
    let one = w.0 in
    let none = w.1 in
    let zero = w.3 in
    (elim (is_zero code) as (λ b. is_zero code ≡ b → CountedOf
    (Some (record k { life = after_finish b code k.life; looks = (if b then after_shut k.looks else k.looks) })) n
    (suc m)
    (if b then suc p else p)) [
      | true ↦ λ well. (
          let is : after_finish true code k.life ≡ lives.Finished = ap (after_finish true code) life in
          record {
            waiting = λ y. absurd (let out = ap is_waiting is in cc (y, out));
            running = λ y. absurd (let out = ap is_running is in cc (y, out));
            once = omega arith;
            shut = λ y. (one, omega arith, or_not k.looks.received.ended (is_zero code) may well, omega arith);
          })
      | false ↦ λ ill. (
          let is : after_finish false code k.life ≡ lives.Over (Some code) = ap (after_finish false code) life in
          record {
            waiting = λ y. absurd (let out = ap is_waiting is in cc (y, out));
            running = λ y. absurd (let out = ap is_running is in cc (y, out));
            once = omega arith;
            shut = λ y. absurd (let unshut = w.2 in cc (y, unshut));
          })
    ]) refl

abbrev with-shut : CallRecord → CallRecord
with-shut k = record k { looks = after_shut k.looks }

abbrev with-accept : CallRecord → CallRecord
with-accept k = record k { life = after_accept k.life }

abbrev with-life : ℤ → CallRecord → CallRecord
with-life code k = record k { life = after_finish (is_zero code) code k.life }

finish-at : (s : Setup) (l : Looks) (c : CallName) (code : ℤ) (k : CallRecord) → call_at l c ≡ Some k
    → call_at (after s (events.Finished c code (Ok tt)) l) c ≡ Some (finished_as code k)
finish-at s l c code k there =
    call-changed c c (with-life code) (finished c code l) (λ j. refl)
    ∙ rw (name_itself c) (ap (option_map (with-life code)) (first (is_zero code)))
  where
    first : (b : Bool) → call_at (if b then on_looks c after_shut l else on_channel (channel_of c)
        (owing_abort (Some code)) l) c
        ≡ Some (record k { looks = (if b then after_shut k.looks else k.looks) })
    first true =
        call-changed c c with-shut l (λ j. refl) ∙ rw (name_itself c) (ap (option_map with-shut) there)
    first false = there

-- ---- each event

counted-after : (s : Setup) (l : Looks) (e : Event) (c : CallName) (n m p : ℕ) → AllowedServer s l e
    → (Uncounted e c → CountedOf (call_at l c) n m p → CountedOf (call_at (after s e l) c) n m p)
    → CountedOf (call_at l c) n m p
    → CountedOf (call_at (after s e l) c) (if accepts e c then suc n else n) (if finishes e c then suc m else m)
    (if finishes_well e c then suc p else p)
counted-after s l (events.Accepted (Some d)) c n m p allowed plain counted =
    (elim (same_name c d) as (λ b. same_name c d ≡ b → CountedOf (call_at (on_life d after_accept l) c)
    (if b then suc n else n) m p) [
      | true ↦ λ same. (
          let is : c ≡ d = name_is c d same in
          let found = is_call-some (call_at l d) (both _ _ (find_passes (can_enter s l) l.firsts d (sym allowed))).0 in
          let mine : call_at l c ≡ Some found.0 = subst (λ (x : CallName). call_at l x ≡ Some found.0)
          (sym is) found.1 in
          let behind : call_at (on_life d after_accept l) c ≡ Some
          (record found.0 { life = after_accept found.0.life }) =
          call-changed c d with-accept l (λ j. refl) ∙ rw same (ap (option_map with-accept) mine) in
          subst (λ (o : Option CallRecord). CountedOf o (suc n) m p) (sym behind)
          (accepted-counted found.0 n m p found.2 (subst (λ (o : Option CallRecord). CountedOf o n m p) mine counted)))
      | false ↦ λ other. plain (other, refl) counted
    ]) refl
counted-after s l (events.Finished d code (Ok done)) c n m p allowed plain counted =
    (elim (same_name c d) as (λ b. same_name c d ≡ b → CountedOf
    (call_at (after s (events.Finished d code (Ok tt)) l) c) n (if b && true then suc m else m)
    (if (b && true) && is_zero code then suc p else p)) [
      | true ↦ λ same. (
          let is : c ≡ d = name_is c d same in
          let found = running-of (call_at l d) code done allowed.1 in
          let mine : call_at l c ≡ Some found.0 = subst (λ (x : CallName). call_at l x ≡ Some found.0)
          (sym is) found.1 in
          let behind : call_at (after s (events.Finished d code (Ok tt)) l) c ≡ Some (finished_as code found.0) =
          subst (λ (x : CallName). call_at (after s (events.Finished x code (Ok tt)) l) c
          ≡ Some (finished_as code found.0)) is
          (finish-at s l c code found.0 mine) in
          subst (λ (o : Option CallRecord). CountedOf o n (suc m) (if is_zero code then suc p else p)) (sym behind)
          (finished-counted code found.0 n m p found.2 found.3
          (subst (λ (o : Option CallRecord). CountedOf o n m p) mine counted)))
      | false ↦ λ other. plain (refl, rw other refl) counted
    ]) refl
  where
    running-of : (o : Option CallRecord) (code : ℤ) (done : Unit {0})
        → ◌≡◌ {A = Result (Unit {0}) ServeRefused} (Ok done) (served_finish o code)
        → (k : CallRecord) × (o ≡ Some k) × (k.life ≡ lives.Accepted)
        × ((k.looks.received.ended || not (is_zero code)) ≡ true)
    running-of None code done is = absurd cc
    running-of (Some k) code done is =
        (let r = running-at k.life (k.looks.received.ended || not (is_zero code)) done is in (k, refl, r.0, r.1))
counted-after s l (events.Finished d code (Err bad)) c n m p allowed plain counted =
    (elim (same_name c d) as (λ b. same_name c d ≡ b → CountedOf
    (call_at (after s (events.Finished d code (Err bad)) l) c) n (if b && false then suc m else m)
    (if (b && false) && is_zero code then suc p else p)) [
      | true ↦ λ same. plain (refl, rw same refl) counted
      | false ↦ λ other. plain (refl, rw other refl) counted
    ]) refl
counted-after s l (events.Accepted None) c n m p allowed plain counted = plain (refl, refl) counted
counted-after s l (events.Wrote d offered got bytes) c n m p allowed plain counted = plain (refl, refl) counted
counted-after s l (events.HasRead d max got bytes) c n m p allowed plain counted = plain (refl, refl) counted
counted-after s l (events.Taken from bytes got) c n m p allowed plain counted = plain (refl, refl) counted
counted-after s l (events.Polled got) c n m p allowed plain counted = plain (refl, refl) counted
counted-after s l (events.Clocked now) c n m p allowed plain counted = plain (refl, refl) counted
counted-after s l (events.Linked to service first got) c n m p allowed plain counted = absurd allowed
counted-after s l (events.Called cid got) c n m p allowed plain counted = absurd allowed
counted-after s l (events.Shut d got) c n m p allowed plain counted = absurd allowed
counted-after s l (events.Ended d got) c n m p allowed plain counted = absurd allowed
counted-after s l (events.Cancelled d code got) c n m p allowed plain counted = absurd allowed

counted-unshut : (c : CallName) (l : Looks) (n m p : ℕ) (k : CallRecord) → CountedOf (call_at l c) n m p → call_at l c
    ≡ Some k
    → is_running k.life ≡ true → k.looks.sent.shut ≡ false
counted-unshut c l n m p k counted there runs =
    (let own : CountedOf (Some k) n m p = subst (λ (o : Option CallRecord). CountedOf o n m p) there counted in
    (own.running runs).2)

-- the newest event of a server
pub served-turn : (s : Setup) (e : Event) (h : List Event) (c : CallName) → IsServer s.kind → FitsSetup s
    → Legal s (e ∷ h)
    → StartsOnce s (e ∷ h) c → Served s h c
    → Turn (Unit {0}) (Uncounted e c) (GoodName s c) (λ end. Unit {0}) (Arrives s (looks s h) e c)
    (call_at (looks s h) c) (call_at (looks s (e ∷ h)) c)
served-turn s e h c server fits legal once old =
    server-turn (Unit {0}) c s (looks s h) e server fits (served s.kind s (looks s h) e server legal.0)
    (server-stands s h server fits legal.1)
    (λ y. once.0)
    (λ y k is runs. counted-unshut c (looks s h) (times_accepted h c) (times_finished h c)
    (times finishes_well h c) k old.counted is runs)

-- what stands of a call that never starts while it has a record
pub server-serves : (s : Setup) (h : List Event) (c : CallName) → IsServer s.kind → FitsSetup s → Legal s h
    → StartsOnce s h c → Served s h c
server-serves s [] c server fits legal once = record { counted = (refl, refl, refl) }
server-serves s (e ∷ h) c server fits legal once =
    let allowed = served s.kind s (looks s h) e server legal.0 in
    let old = server-serves s h c server fits legal.1 once.1 in
    let turn = served-turn s e h c server fits legal once old in
    record {
      counted =
          counted-after s (looks s h) e c (times_accepted h c) (times_finished h c) (times finishes_well h c) allowed
          (λ un counted. turn.counts tt un (times_accepted h c) (times_finished h c)
          (times finishes_well h c) counted) old.counted;
    }

-- ---- where no record of its connection was forgotten

spared-before : (s : Setup) (e : Event) (h : List Event) (x : Connection) → IsServer s.kind → Legal s (e ∷ h)
    → Spared x (looks s (e ∷ h)) → Spared x (looks s h)
spared-before s e h x server legal spared =
    spared-server x s (looks s h) e (served s.kind s (looks s h) e server legal.0) spared

server-sound : (s : Setup) (h : List Event) (c : CallName) → IsServer s.kind → Legal s h
    → Spared (connection_of c) (looks s h) → Sound (looks s h) c 0
server-sound s [] c server legal spared = record { counted = refl; below = tt; fours = tt }
server-sound s (e ∷ h) c server legal spared =
    sound-server s (looks s h) e c (served s.kind s (looks s h) e server legal.0) spared
    (server-sound s h c server legal.1 (spared-before s e h (connection_of c) server legal spared))

pub spared-once : (s : Setup) (h : List Event) (c : CallName) → IsServer s.kind → Legal s h
    → Spared (connection_of c) (looks s h) → StartsOnce s h c
spared-once s [] c server legal spared = tt
spared-once s (e ∷ h) c server legal spared =
    let before = spared-before s e h (connection_of c) server legal spared in (
      spared-starts (Unit {0}) c s (looks s h) e
          (server-sound s h c server legal.1 before) spared,
      spared-once s h c server legal.1 before,
    )
