-- Changes that leave what both streams of a call say, seen at one name.
use Rattle.std.proofs.Common.{◌≡◌, ◌&&◌, ◌-◌, ℕ, ℤ, cond, if◌then◌else◌, not, nat_lt, Bool, true, false}
use Rattle.std.proofs.Common.{Option, Some, None, option_map, refl, ◌∙◌, ap, sym, subst}
use Rattle.rx_model.specs.declared.answers.End.{End}
use Rattle.rx_model.specs.declared.answers.End.TheVariants as ends
use Rattle.rx_model.specs.declared.names.CallName.{CallName}
use Rattle.rx_rules.specs.After.{challenged, settled, stopped_all, taken_heard, taken_over}
use Rattle.rx_model.specs.Body.{Body}
use Rattle.rx_model.specs.Body as bodies
use Rattle.rx_rules.specs.CallLooks.{CallLooks, after_body, found, is_delivered}
use Rattle.rx_rules.specs.Life.{Life, after_code, after_silence}
use Rattle.rx_rules.specs.Looks.{CallRecord, Looks, call_at, is_proved, on_call, on_calls, on_channel, on_life}
use Rattle.rx_model.specs.Message.{Message}
use Rattle.rx_model.specs.Names.{Connection, channel_of, connection_of, same_connection, same_name}
use Rattle.rx_rules.specs.Records.{is_silent, silence_of, silenced, unless_silent}
use Rattle.rx_rules.specs.Sent.{Sent, is_marked, with_window}
use Rattle.rx_rules.specs.Setup.{Setup, is_client}
use Rattle.rx_rules.proofs.CallsLaws.{KeepsNames, changed_if, changed_if-name, call_at-on_calls, call_at-on_call}
use Rattle.rx_rules.proofs.FindLaws.{find_passes}
use Rattle.rx_model.proofs.NameLaws.{name_is}
use Rattle.rx_history.proofs.Ends.{ends_in, ends_of}
use Rattle.rx_history.proofs.Lives.{LifeMove, life-stays, life-trans, code-moves, silence-moves, acks-moves}
use Rattle.rx_history.proofs.Given.GivenLaws.{silent-name}

-- a change of a call that leaves its streams
pub record Quiet (Cause : End → Type 0) (a b : CallRecord) : Type 0 where
  pub streams : ends_in b.looks ≡ ends_in a.looks
  pub life : LifeMove Cause a.life b.life

-- the same of a call that is looked for: none comes, and none goes
abbrev pub Calls : (End → Type 0) → Option CallRecord → Option CallRecord → Type 0
Calls Cause None None = Unit {0}
Calls Cause (Some a) (Some b) = Quiet Cause a b
Calls Cause None (Some b) = ⊥
Calls Cause (Some a) None = ⊥

pub quiet-refl : (Cause : End → Type 0) (k : CallRecord) → Quiet Cause k k
quiet-refl Cause k = record { streams = refl; life = life-stays Cause k.life }

pub calls-refl : (Cause : End → Type 0) (o : Option CallRecord) → Calls Cause o o
calls-refl Cause None = tt
calls-refl Cause (Some k) = quiet-refl Cause k

pub calls-trans : (Cause : End → Type 0) (a b c : Option CallRecord) → Calls Cause a b → Calls Cause b c
    → Calls Cause a c
calls-trans Cause None None None p q = tt
calls-trans Cause None None (Some c) p q = q
calls-trans Cause None (Some b) c p q = absurd p
calls-trans Cause (Some a) None c p q = absurd p
calls-trans Cause (Some a) (Some b) None p q = q
calls-trans Cause (Some a) (Some b) (Some c) p q =
    record { streams = q.streams ∙ p.streams; life = life-trans Cause a.life b.life c.life p.life q.life }

-- the streams of the call are as before
pub calls-streams : (Cause : End → Type 0) (a b : Option CallRecord) → Calls Cause a b → ends_of b ≡ ends_of a
calls-streams Cause None None q = refl
calls-streams Cause (Some a) (Some b) q = q.streams
calls-streams Cause None (Some b) q = absurd q
calls-streams Cause (Some a) None q = absurd q

calls-map : (Cause : End → Type 0) (change : CallRecord → CallRecord) (o : Option CallRecord)
    → ((k : CallRecord) → Quiet Cause k (change k)) → Calls Cause o (option_map change o)
calls-map Cause change None quiet = tt
calls-map Cause change (Some k) quiet = quiet k

pub calls-on_calls : (Cause : End → Type 0) (c : CallName) (change : CallRecord → CallRecord) (l : Looks)
    → KeepsNames change
    → ((k : CallRecord) → Quiet Cause k (change k)) → Calls Cause (call_at l c) (call_at (on_calls change l) c)
calls-on_calls Cause c change l names quiet =
    subst (λ (o : Option CallRecord). Calls Cause (call_at l c) o) (sym (call_at-on_calls c change l names))
    (calls-map Cause change (call_at l c) quiet)

quiet-if : (Cause : End → Type 0) (test : Bool) (change : CallRecord → CallRecord) (k : CallRecord)
    → Quiet Cause k (change k)
    → Quiet Cause k (cond test (change k) k)
quiet-if Cause true change k quiet = quiet
quiet-if Cause false change k quiet = quiet-refl Cause k

pub calls-on_call : (Cause : End → Type 0) (c d : CallName) (change : CallRecord → CallRecord) (l : Looks)
    → KeepsNames change
    → ((k : CallRecord) → Quiet Cause k (change k)) → Calls Cause (call_at l c) (call_at (on_call d change l) c)
calls-on_call Cause c d change l names quiet =
    calls-on_calls Cause c (changed_if d change) l (λ k. changed_if-name (same_name k.name d) change k (names k))
    (λ k. quiet-if Cause (same_name k.name d) change k (quiet k))

pub calls-on_life : (Cause : End → Type 0) (c d : CallName) (change : Life → Life) (l : Looks)
    → ((x : Life) → LifeMove Cause x (change x)) → Calls Cause (call_at l c) (call_at (on_life d change l) c)
calls-on_life Cause c d change l moves =
    calls-on_call Cause c d (λ k. record k { life = change k.life }) l (λ k. refl)
    (λ k. record { streams = refl; life = moves k.life })

-- ---- one call, exactly

-- another call stays; the call itself changes
pub call-changed : (c d : CallName) (change : CallRecord → CallRecord) (l : Looks) → KeepsNames change
    → call_at (on_call d change l) c ≡ cond (same_name c d) (option_map change (call_at l c)) (call_at l c)
call-changed c d change l names = call_at-on_call c d change l names ∙ of (call_at l c) refl
  where
    of : (o : Option CallRecord) → call_at l c ≡ o
        → option_map (changed_if d change) o ≡ cond (same_name c d) (option_map change o) o
    of None is = both_none (same_name c d)
      where
        both_none : (b : Bool) → None ≡ cond b (option_map change None) None
        both_none true = refl
        both_none false = refl
    of (Some k) is =
        let named : k.name ≡ c = name_is k.name c (find_passes (λ j. same_name j.name c) l.calls k is) in
        ap (λ (n : CallName). Some (cond (same_name n d) (change k) k)) named ∙ pushed (same_name c d) k
      where
        pushed : (b : Bool) (j : CallRecord) → Some (cond b (change j) j) ≡ cond b (Some (change j)) (Some j)
        pushed true j = refl
        pushed false j = refl

-- ---- what a taking changes beside its packet

if-calls : (Cause : End → Type 0) (c : CallName) (test : Bool) (l m : Looks) → Calls Cause (call_at l c) (call_at m c)
    → Calls Cause (call_at l c) (call_at (if test then m else l) c)
if-calls Cause c true l m calls = calls
if-calls Cause c false l m calls = calls-refl Cause (call_at l c)

pub calls-challenged : (Cause : End → Type 0) (s : Setup) (c d : CallName) (l : Looks)
    → Calls Cause (call_at l c) (call_at (challenged s d l) c)
calls-challenged Cause s c d l =
    if-calls Cause c (not (is_client s.kind) && (s.class.challenges && not (is_proved l (connection_of d)))) l
    (on_channel (channel_of d) (λ q. record q { owed_challenge = true }) l) (calls-refl Cause (call_at l c))

settled-quiet : (Cause : End → Type 0) (k : CallRecord) → Quiet Cause k (settled k)
settled-quiet Cause k = record { streams = refl; life = acks-moves Cause (is_delivered k.looks) k.life }

calls-settled : (Cause : End → Type 0) (c d : CallName) (l : Looks)
    → Calls Cause (call_at l c) (call_at (on_call d settled l) c)
calls-settled Cause c d l = calls-on_call Cause c d settled l (λ k. refl) (settled-quiet Cause)

pub calls-heard : (Cause : End → Type 0) (s : Setup) (c d : CallName) (body : Body) (l : Looks)
    → Calls Cause (call_at l c) (call_at (taken_heard s d body l) c)
calls-heard Cause s c d (bodies.Ack a) l =
    calls-trans Cause (call_at l c) (call_at (on_call d settled l) c) (call_at (challenged s d (on_call d settled l)) c)
    (calls-settled Cause c d l) (calls-challenged Cause s c d (on_call d settled l))
calls-heard Cause s c d bodies.AckAll l = calls-settled Cause c d l
calls-heard Cause s c d _ l = calls-refl Cause (call_at l c)

coded-quiet : (Cause : End → Type 0) (test : Bool) (code : ℤ) (k : CallRecord) → (test ≡ true → Cause (ends.Abort code))
    → Quiet Cause k (cond test (record k { life = after_code code k.life }) k)
coded-quiet Cause true code k cause = record { streams = refl; life = code-moves Cause code k.life (λ is. cause refl) }
coded-quiet Cause false code k cause = quiet-refl Cause k

coded-name : (test : Bool) (code : ℤ) (k : CallRecord)
    → (cond test (record k { life = after_code code k.life }) k).name ≡ k.name
coded-name true code k = refl
coded-name false code k = refl

-- one call is given a code, where the code is a cause for its own call
-- a call with a code
abbrev pub coded : ℤ → CallRecord → CallRecord
coded code k = record k { life = after_code code k.life }

pub calls-coded : (Cause : End → Type 0) (c d : CallName) (code : ℤ) (l : Looks)
    → (same_name c d ≡ true → Cause (ends.Abort code)) → Calls Cause (call_at l c)
    (call_at (on_life d (after_code code) l) c)
calls-coded Cause c d code l cause =
    subst (λ (o : Option CallRecord). Calls Cause (call_at l c) o)
    (sym (call-changed c d (coded code) l (λ k. refl))) (of (same_name c d) (call_at l c) cause)
  where
    of : (b : Bool) (o : Option CallRecord) → (b ≡ true → Cause (ends.Abort code))
        → Calls Cause o (cond b (option_map (coded code) o) o)
    of true None cause = tt
    of true (Some k) cause = record { streams = refl; life = code-moves Cause code k.life (λ is. cause refl) }
    of false o cause = calls-refl Cause o

-- the same of the calls of a connection
abbrev pub coded_on : Connection → ℤ → CallRecord → CallRecord
coded_on x code k = if same_connection (connection_of k.name) x then record k { life = after_code code k.life } else k

pub calls-stopped_all : (Cause : End → Type 0) (c : CallName) (x : Connection) (code : ℤ) (l : Looks)
    → (same_connection (connection_of c) x ≡ true → Cause (ends.Abort code))
    → Calls Cause (call_at l c) (call_at (stopped_all x code l) c)
calls-stopped_all Cause c x code l cause =
    subst (λ (o : Option CallRecord). Calls Cause (call_at l c) o)
    (sym (call_at-on_calls c (coded_on x code) l (λ k. coded-name (same_connection (connection_of k.name) x) code k)))
    (of (call_at l c) refl)
  where
    of : (o : Option CallRecord) → call_at l c ≡ o
        → Calls Cause o (option_map (coded_on x code) o)
    of None is = tt
    of (Some k) is =
        let named : k.name ≡ c = name_is k.name c (find_passes (λ j. same_name j.name c) l.calls k is) in
        coded-quiet Cause (same_connection (connection_of k.name) x) code k
        (λ same. cause (subst (λ (n : CallName). same_connection (connection_of n) x ≡ true) named same))

pub calls-over : (Cause : End → Type 0) (c d : CallName) (body : Body) (o : Option CallRecord) (l : Looks)
    → Calls Cause (call_at l c) (call_at (taken_over d body o l) c)
calls-over Cause c d body None l = calls-refl Cause (call_at l c)
calls-over Cause c d body (Some k) l = calls-refl Cause (call_at l c)

-- ---- silence

-- a silent call ends, where its silence is a cause
pub calls-silenced : (Cause : End → Type 0) (c : CallName) (l : Looks)
    → ((k : CallRecord) → call_at l c ≡ Some k → is_silent l.now k ≡ true → Cause (ends.Dead (silence_of l.now k)))
    → Calls Cause (call_at l c) (call_at (silenced l) c)
calls-silenced Cause c l cause =
    subst (λ (o : Option CallRecord). Calls Cause (call_at l c) o)
    (sym (call_at-on_calls c (unless_silent l.now) l (silent-name l.now))) (of (call_at l c) refl)
  where
    of : (o : Option CallRecord) → call_at l c ≡ o → Calls Cause o (option_map (unless_silent l.now) o)
    of None is = tt
    of (Some k) is =
        (elim (is_silent l.now k) as (λ b. is_silent l.now k ≡ b
        → Quiet Cause k (cond b (record k { life = after_silence (silence_of l.now k) k.life }) k)) [
          | true ↦ λ silent. record {
            streams = refl;
            life = silence-moves Cause (silence_of l.now k) k.life
                (cause k is silent);
          }
          | false ↦ λ heard. quiet-refl Cause k
        ]) refl

-- ---- what a message changes at its call

acked-said : (test : Bool) (s t : Sent) → t.said ≡ s.said → t.shut ≡ s.shut → t.givings ≡ s.givings
    → ((if test then s else t).said ≡ s.said) × ((if test then s else t).shut ≡ s.shut)
    × ((if test then s else t).givings ≡ s.givings)
acked-said true s t a b c = (refl, refl, refl)
acked-said false s t a b c = (a, b, c)

pub body-ends : (now : ℕ) (m : Message) (body : Body) (k : CallLooks) → ends_in (after_body now m body k) ≡ ends_in k
body-ends now m (bodies.Ack a) k =
    let t = acked-said (nat_lt (a.first - 1) k.sent.acked) k.sent
    (record k.sent {
      acked = a.first - 1;
      soft = is_marked a.first a.marks;
      peer_window =
          with_window a.window k.sent.peer_window;
    })
    refl refl refl in
    λ i. record {
      said = t.0 i;
      shut = t.1 i;
      givings = t.2 i;
      kept = k.received.kept;
      read = k.received.read;
      ended = k.received.ended;
    }
body-ends now m _ k = refl

pub found-ends : (client : Bool) (k : CallLooks) → ends_in (found client k) ≡ ends_in k
found-ends true k = refl
found-ends false k = refl
