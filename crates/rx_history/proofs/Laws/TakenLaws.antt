-- What a server's taking leaves of each call, by its answer.
use Rattle.std.proofs.Common.{◌≡◌, ◌<◌, ◌&&◌, ◌==◌, ℕ, ℤ, cond, if◌then◌else◌, not, nat_lt, Bool, true, false}
use Rattle.std.proofs.Common.{Option, Some, None, refl, ◌∙◌, arith, sym, subst, is_some}
use Rattle.std.proofs.lemmas.Bool.Decides.{nat_tests}
use Rattle.rx_model.specs.declared.answers.Took.{Took}
use Rattle.rx_model.specs.declared.answers.Took.TheVariants as tooks
use Rattle.rx_model.specs.declared.names.CallName.{CallName}
use Rattle.rx_model.specs.declared.wire.TheConstants.{RX_CALL_DEAD, RX_PROTOCOL_ERROR}
use Rattle.rx_rules.specs.After.{challenged, is_ok_end, owing_abort, owing_again, owing_busy, served_code}
use Rattle.rx_rules.specs.After.{settled}
use Rattle.rx_rules.specs.After.{stopped_all, taken_at, taken_busy, taken_data, taken_heard, taken_over, taken_stopped}
use Rattle.rx_rules.specs.After.{taken_with}
use Rattle.rx_rules.specs.After.{enters, told_code}
use Rattle.rx_model.specs.Body.{Body}
use Rattle.rx_model.specs.Body as bodies
use Rattle.rx_rules.specs.CallLooks.{after_taken, fresh_call, is_delivered}
use Rattle.rx_rules.specs.Judging.{opened}
use Rattle.rx_rules.specs.Life.{Life, after_acks, after_code, after_later, is_waiting}
use Rattle.rx_rules.specs.Life as lives
use Rattle.rx_rules.specs.Looks.{CallRecord, ChannelLooks, ConnLooks, Looks, call_at, channel_at, conn_at, is_proved}
use Rattle.rx_rules.specs.Looks.{latest_name}
use Rattle.rx_rules.specs.Looks.{on_call, on_channel, on_life}
use Rattle.rx_model.specs.Message.{Message}
use Rattle.rx_model.specs.Names.{Connection, channel_of, connection_of, same_connection, same_name}
use Rattle.rx_rules.specs.Records.{started, started_later}
use Rattle.rx_rules.specs.Setup.{Setup, is_client, pace_of}
use Rattle.rx_rules.specs.Slots.{node_view}
use Rattle.rx_rules.proofs.ConnsLaws.{channel_number, number_of}
use Rattle.rx_rules.proofs.KeepsLaws.{Keeps, keeps-on_call, keeps-on_calls, keeps-on_channel, keeps-on_conn}
use Rattle.rx_rules.proofs.KeepsLaws.{keeps-on_life, keeps-on_looks, keeps-refl, keeps-trans}
use Rattle.rx_rules.proofs.LifeLaws.{code_waits, acks_wait, later_waits}
use Rattle.rx_model.proofs.NameLaws.{name_is}
use Rattle.rx_history.proofs.Laws.SoundLaws.{Counted, Below, Sound, sound-keeps}
use Rattle.rx_rules.proofs.StartLaws.{call_at-new, fours-start, keeps-started, number-started}
use Rattle.rx_history.proofs.Given.GivenLaws.{ackall-number}

-- ---- changes that start no call

keeps-if : (c : CallName) (test : Bool) (l m : Looks) → Keeps c l m → Keeps c l (if test then m else l)
keeps-if c true l m keeps = keeps
keeps-if c false l m keeps = keeps-refl c l

keeps-challenged : (s : Setup) (c d : CallName) (l : Looks) → Keeps c l (challenged s d l)
keeps-challenged s c d l =
    keeps-if c (not (is_client s.kind) && (s.class.challenges && not (is_proved l (connection_of d)))) l
    (on_channel (channel_of d) (λ q. record q { owed_challenge = true }) l)
    (keeps-on_channel c (channel_of d) (λ q. record q { owed_challenge = true }) l (λ q. refl))

pub keeps-data : (s : Setup) (got : Took) (c d : CallName) (m : Message) (l : Looks)
    → Keeps c l (taken_data s got d m l)
keeps-data s got c d m l =
    let heard = keeps-on_looks c d (after_taken (node_view s l) got m) l in
    keeps-trans c l _ _ (record { calls = heard.calls; numbers = heard.numbers; fours = heard.fours })
    (keeps-challenged s c d _)

keeps-settled : (c d : CallName) (l : Looks) → Keeps c l (on_call d settled l)
keeps-settled c d l =
    keeps-on_call c d settled l (λ k. refl) (λ k. acks_wait (is_delivered k.looks) k.life)

pub keeps-heard : (s : Setup) (c d : CallName) (body : Body) (l : Looks) → Keeps c l (taken_heard s d body l)
keeps-heard s c d (bodies.Ack a) l =
    keeps-trans c l (on_call d settled l) _ (keeps-settled c d l) (keeps-challenged s c d (on_call d settled l))
keeps-heard s c d bodies.AckAll l = keeps-settled c d l
keeps-heard s c d (bodies.Response bytes) l =
    keeps-on_conn c (connection_of d) (λ r. record r { proved = true }) l
    (record { names = λ r. refl; numbers = λ r n. omega arith; lengths = λ r. refl })
keeps-heard s c d (bodies.Challenge bytes) l =
    keeps-on_channel c (channel_of d) (λ q. record q { owed_response = s.class.respond d bytes }) l (λ q. refl)
keeps-heard s c d (bodies.Chunk payload) l = keeps-refl c l
keeps-heard s c d bodies.Busy l = keeps-refl c l
keeps-heard s c d (bodies.Abort code) l = keeps-refl c l

coded-waits : (test : Bool) (code : ℤ) (k : CallRecord)
    → is_waiting (cond test (record k { life = after_code code k.life }) k).life ≡ true → is_waiting k.life ≡ true
coded-waits true code k is = code_waits code k.life is
coded-waits false code k is = is

coded-name : (test : Bool) (code : ℤ) (k : CallRecord)
    → (cond test (record k { life = after_code code k.life }) k).name ≡ k.name
coded-name true code k = refl
coded-name false code k = refl

keeps-stopped_all : (c : CallName) (x : Connection) (code : ℤ) (l : Looks) → Keeps c l (stopped_all x code l)
keeps-stopped_all c x code l =
    keeps-on_calls c
    (λ k. if same_connection (connection_of k.name) x then record k { life = after_code code k.life } else k) l
    (λ k. coded-name (same_connection (connection_of k.name) x) code k)
    (λ k. coded-waits (same_connection (connection_of k.name) x) code k)

keeps-owing_abort : (c d : CallName) (code : Option ℤ) (l : Looks)
    → Keeps c l (on_channel (channel_of d) (owing_abort code) l)
keeps-owing_abort c d None l = keeps-on_channel c (channel_of d) (owing_abort None) l (λ q. refl)
keeps-owing_abort c d (Some code) l = keeps-on_channel c (channel_of d) (owing_abort (Some code)) l (λ q. refl)

pub keeps-stopped : (c d : CallName) (body : Body) (l : Looks) → Keeps c l (taken_stopped d body l)
keeps-stopped c d (bodies.Abort code) l =
    (elim (d.number == 0)
    as (λ b. Keeps c l (if b then stopped_all (connection_of d) code l else on_life d (after_code code) l)) [
      | true ↦ keeps-stopped_all c (connection_of d) code l
      | false ↦ keeps-on_life c d (after_code code) l (code_waits code)
    ])
keeps-stopped c d (bodies.Response bytes) l =
    keeps-trans c l (on_life d (after_code RX_PROTOCOL_ERROR) l) _
    (keeps-on_life c d (after_code RX_PROTOCOL_ERROR) l (code_waits RX_PROTOCOL_ERROR))
    (keeps-owing_abort c d (Some RX_PROTOCOL_ERROR) (on_life d (after_code RX_PROTOCOL_ERROR) l))
keeps-stopped c d (bodies.Chunk payload) l = keeps-refl c l
keeps-stopped c d bodies.Busy l = keeps-refl c l
keeps-stopped c d (bodies.Ack a) l = keeps-refl c l
keeps-stopped c d bodies.AckAll l = keeps-refl c l
keeps-stopped c d (bodies.Challenge bytes) l = keeps-refl c l

pub abort-number : (code : Option ℤ) (q : ChannelLooks) → (owing_abort code q).number ≡ q.number
abort-number None q = refl
abort-number (Some code) q = refl

pub again-number : (body : Body) (life : Life) (q : ChannelLooks) → (owing_again body life q).number ≡ q.number
again-number (bodies.Chunk payload) life q =
    ackall-number (is_ok_end life) (owing_abort (told_code life) q) ∙ abort-number (told_code life) q
again-number (bodies.Ack a) life q = abort-number (served_code life) q
again-number bodies.Busy life q = refl
again-number (bodies.Abort code) life q = refl
again-number bodies.AckAll life q = refl
again-number (bodies.Challenge bytes) life q = refl
again-number (bodies.Response bytes) life q = refl

pub keeps-over : (c d : CallName) (body : Body) (o : Option CallRecord) (l : Looks) → Keeps c l (taken_over d body o l)
keeps-over c d body None l = keeps-refl c l
keeps-over c d body (Some k) l =
    keeps-on_channel c (channel_of d) (owing_again body k.life) l (again-number body k.life)

pub keeps-busy : (c d : CallName) (l : Looks) → Keeps c l (taken_busy d l)
keeps-busy c d l =
    let broken = on_life (latest_name l (channel_of d)) (after_code RX_CALL_DEAD) l in
    keeps-trans c l broken _
    (keeps-on_life c (latest_name l (channel_of d)) (after_code RX_CALL_DEAD) l (code_waits RX_CALL_DEAD))
    (keeps-on_channel c (channel_of d) (owing_busy d.number) broken (λ q. refl))

-- ---- a start

-- a call whose number is above its channel's has no record
no-record : (o : Option CallRecord) (number top : ℕ) → top < number → Below o number top → o ≡ None
no-record None number top above below = refl
no-record (Some k) number top above below = absurd (omega arith)

sound-new : (s : Setup) (c : CallName) (l : Looks) (r : ConnLooks) (n : ℕ) → conn_at l (connection_of c) ≡ Some r
    → c.chan < 4
    → number_of (conn_at l (connection_of c)) c.chan < c.number → Sound l c n → Sound (started s lives.Waiting c l) c n
sound-new s c l r n there chan above sound =
    let new : CallRecord =
    record { name = c; life = lives.Waiting; looks = fresh_call (pace_of s) l.now } in
    let none = no-record (call_at l c) c.number (number_of (conn_at l (connection_of c)) c.chan) above sound.below in
    let is : call_at (started s lives.Waiting c l) c ≡ Some new = call_at-new c new l refl none in
    let zero : n ≡ 0 = subst (λ (o : Option CallRecord). Counted o n) none sound.counted in
    let top = number-started s lives.Waiting c l r there chan sound.fours in
    record {
      counted = subst (λ (o : Option CallRecord). Counted o n) (sym is) ((λ waits. zero), (omega arith));
      below =
          subst (λ (o : Option CallRecord). Below o c.number
          (number_of (conn_at (started s lives.Waiting c l) (connection_of c)) c.chan))
          (sym is) (omega arith);
      fours = fours-start s lives.Waiting c l (connection_of c) sound.fours;
    }

-- another call starts, or this one
sound-started : (s : Setup) (c d : CallName) (l : Looks) (r : ConnLooks) (n : ℕ) → conn_at l (connection_of d) ≡ Some r
    → d.chan < 4 → number_of (conn_at l (connection_of d)) d.chan < d.number → Sound l c n
    → Sound (started s lives.Waiting d l) c n
sound-started s c d l r n there chan above sound =
    (elim (same_name c d) as (λ b. same_name c d ≡ b → Sound (started s lives.Waiting d l) c n) [
      | true ↦ λ same.
          subst (λ (e : CallName). conn_at l (connection_of e) ≡ Some r → e.chan < 4
          → number_of (conn_at l (connection_of e)) e.chan < e.number → Sound (started s lives.Waiting e l) c n)
          (name_is c d same) (λ there chan above. sound-new s c l r n there chan above sound) there chan above
      | false ↦ λ other.
          sound-keeps c l (started s lives.Waiting d l) n
          (keeps-started s lives.Waiting c d l other (omega arith)) sound
    ]) refl

-- the connection that is looked for is there
pub there-is : (o : Option ConnLooks) → is_some o ≡ true → (r : ConnLooks) × (o ≡ Some r)
there-is None is = absurd cc
there-is (Some r) is = (r, refl)

pub is-below : (a b : ℕ) → nat_lt a b ≡ true → a < b
is-below a b is = grind (arith, nat_tests)

sound-opened : (s : Setup) (c d : CallName) (l : Looks) (n : ℕ) → is_some (conn_at l (connection_of d)) ≡ true
    → d.chan < 4 → Sound l c n → Sound (opened s d l) c n
sound-opened s c d l n there chan sound =
    let ended = on_life (latest_name l (channel_of d)) after_later l in
    let keeps = keeps-on_life c (latest_name l (channel_of d)) after_later l later_waits in
    let found = there-is (conn_at l (connection_of d)) there in
    (elim (nat_lt (channel_at l (channel_of d)).number d.number)
    as (λ b. nat_lt (channel_at l (channel_of d)).number d.number ≡ b
    → Sound (cond b (started_later s d l) l) c n) [
      | true ↦ λ above.
          sound-started s c d ended found.0 n found.1 chan
          (subst (λ (top : ℕ). top < d.number) (channel_number l (channel_of d))
          (is-below (channel_at l (channel_of d)).number d.number above))
          (sound-keeps c l ended n keeps sound)
      | false ↦ λ same. sound
    ]) refl

-- ---- by the answer

-- behind the rows in front, where the connection of a packet that may start a call is there
pub sound-with : (s : Setup) (got : Took) (c d : CallName) (m : Message) (l : Looks) (n : ℕ)
    → (enters got ≡ true → is_some (conn_at l (connection_of d)) ≡ true) → d.chan < 4 → Sound l c n
    → Sound (taken_with s got d m l) c n
sound-with s tooks.Kept c d m l n there chan sound =
    sound-keeps c (opened s d l) _ n (keeps-data s tooks.Kept c d m (opened s d l))
    (sound-opened s c d l n (there refl) chan sound)
sound-with s tooks.NoSlot c d m l n there chan sound =
    sound-keeps c (opened s d l) _ n (keeps-data s tooks.NoSlot c d m (opened s d l))
    (sound-opened s c d l n (there refl) chan sound)
sound-with s tooks.Repeat c d m l n there chan sound = sound-keeps c l _ n (keeps-data s tooks.Repeat c d m l) sound
sound-with s tooks.Beyond c d m l n there chan sound = sound-keeps c l _ n (keeps-data s tooks.Beyond c d m l) sound
sound-with s tooks.Clash c d m l n there chan sound = sound-keeps c l _ n (keeps-data s tooks.Clash c d m l) sound
sound-with s tooks.Heard c d m l n there chan sound =
    let heard = taken_at s tooks.Heard d m l in
    sound-keeps c l _ n
    (keeps-trans c l heard _ (keeps-on_looks c d (after_taken (node_view s l) tooks.Heard m) l)
    (keeps-heard s c d m.body heard)) sound
sound-with s tooks.Stopped c d m l n there chan sound = sound-keeps c l _ n (keeps-stopped c d m.body l) sound
sound-with s tooks.Busy c d m l n there chan sound = sound-keeps c l _ n (keeps-busy c d l) sound
sound-with s tooks.NoRoom c d m l n there chan sound =
    sound-keeps c l _ n (keeps-on_channel c (channel_of d) (owing_busy d.number) l (λ q. refl)) sound
sound-with s tooks.Over c d m l n there chan sound =
    sound-keeps c l _ n (keeps-over c d m.body (call_at l d) l) sound
sound-with s tooks.Full c d m l n there chan sound = sound
sound-with s tooks.Old c d m l n there chan sound = sound
sound-with s tooks.Unserved c d m l n there chan sound = sound
sound-with s tooks.Foreign c d m l n there chan sound = sound
sound-with s tooks.Strange c d m l n there chan sound = sound
sound-with s (tooks.Bad bad) c d m l n there chan sound = sound
