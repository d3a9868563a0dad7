-- Behind the entering of its connection a taking forgets none, and leaves the stray aborts that are owed and the
-- moment.
use Rattle.std.proofs.Common.{◌≡◌, ◌&&◌, if◌then◌else◌, not, nat_lt, ◌==◌, Bool, true, false, Option, Some, None}
use Rattle.std.proofs.Common.{List, ℕ, refl, ◌∙◌, ap}
use Rattle.rx_model.specs.declared.stray.Stray.{Stray}
use Rattle.rx_model.specs.declared.answers.Took.{Took}
use Rattle.rx_model.specs.declared.answers.Took.TheVariants as tooks
use Rattle.rx_model.specs.declared.names.CallName.{CallName}
use Rattle.rx_rules.specs.After.{challenged, settled, stopped_all, taken_at, taken_data, taken_heard, taken_over}
use Rattle.rx_rules.specs.After.{taken_stopped, taken_with, with_first}
use Rattle.rx_model.specs.Body.{Body}
use Rattle.rx_model.specs.Body as bodies
use Rattle.rx_rules.specs.Judging.{opened}
use Rattle.rx_rules.specs.Looks.{CallRecord, Looks, call_at, channel_at, is_proved, on_call, on_channel, on_life}
use Rattle.rx_rules.specs.Life.{after_code}
use Rattle.rx_rules.specs.Records.{started_later}
use Rattle.rx_model.specs.Message.{Message}
use Rattle.rx_model.specs.Names.{Connection, channel_of, connection_of}
use Rattle.rx_rules.specs.Setup.{Setup, is_client}

-- what such a taking leaves
abbrev pub aside : Looks → List Connection × List Stray × ℕ
aside l = (l.forgotten, l.strays, l.now)

same-if : (test : Bool) (m l k : Looks) → aside m ≡ aside k → aside l ≡ aside k → aside (if test then m else l)
    ≡ aside k
same-if true m l k here there = here
same-if false m l k here there = there

challenged-same : (s : Setup) (d : CallName) (l : Looks) → aside (challenged s d l) ≡ aside l
challenged-same s d l =
    same-if (not (is_client s.kind) && (s.class.challenges && not (is_proved l (connection_of d))))
    (on_channel (channel_of d) (λ q. record q { owed_challenge = true }) l) l l refl refl

opened-same : (s : Setup) (d : CallName) (l : Looks) → aside (opened s d l) ≡ aside l
opened-same s d l =
    same-if (nat_lt (channel_at l (channel_of d)).number d.number) (started_later s d l) l l refl refl

data-same : (s : Setup) (got : Took) (d : CallName) (m : Message) (l : Looks)
    → aside (taken_data s got d m l) ≡ aside l
data-same s got d m l =
    challenged-same s d (record (taken_at s got d m l) { firsts = with_first got d m.seq l.firsts })

heard-same : (s : Setup) (d : CallName) (body : Body) (l : Looks) → aside (taken_heard s d body l) ≡ aside l
heard-same s d (bodies.Ack a) l = challenged-same s d (on_call d settled l)
heard-same s d bodies.AckAll l = refl
heard-same s d (bodies.Response bytes) l = refl
heard-same s d (bodies.Challenge bytes) l = refl
heard-same s d (bodies.Chunk payload) l = refl
heard-same s d bodies.Busy l = refl
heard-same s d (bodies.Abort code) l = refl

stopped-same : (d : CallName) (body : Body) (l : Looks) → aside (taken_stopped d body l) ≡ aside l
stopped-same d (bodies.Abort code) l =
    same-if (d.number == 0) (stopped_all (connection_of d) code l) (on_life d (after_code code) l) l refl refl
stopped-same d (bodies.Response bytes) l = refl
stopped-same d (bodies.Chunk payload) l = refl
stopped-same d bodies.Busy l = refl
stopped-same d (bodies.Ack a) l = refl
stopped-same d bodies.AckAll l = refl
stopped-same d (bodies.Challenge bytes) l = refl

over-same : (d : CallName) (body : Body) (o : Option CallRecord) (l : Looks)
    → aside (taken_over d body o l) ≡ aside l
over-same d body None l = refl
over-same d body (Some k) l = refl

with-same : (s : Setup) (got : Took) (d : CallName) (m : Message) (l : Looks)
    → aside (taken_with s got d m l) ≡ aside l
with-same s tooks.Kept d m l = data-same s tooks.Kept d m (opened s d l) ∙ opened-same s d l
with-same s tooks.NoSlot d m l = data-same s tooks.NoSlot d m (opened s d l) ∙ opened-same s d l
with-same s tooks.Repeat d m l = data-same s tooks.Repeat d m l
with-same s tooks.Beyond d m l = data-same s tooks.Beyond d m l
with-same s tooks.Clash d m l = data-same s tooks.Clash d m l
with-same s tooks.Heard d m l = heard-same s d m.body (taken_at s tooks.Heard d m l)
with-same s tooks.Stopped d m l = stopped-same d m.body l
with-same s tooks.Busy d m l = refl
with-same s tooks.NoRoom d m l = refl
with-same s tooks.Over d m l = over-same d m.body (call_at l d) l
with-same s tooks.Full d m l = refl
with-same s tooks.Old d m l = refl
with-same s tooks.Unserved d m l = refl
with-same s tooks.Foreign d m l = refl
with-same s tooks.Strange d m l = refl
with-same s (tooks.Bad bad) d m l = refl

-- behind its entering a taking forgets none
pub with-forgotten : (s : Setup) (got : Took) (d : CallName) (m : Message) (l : Looks)
    → (taken_with s got d m l).forgotten ≡ l.forgotten
with-forgotten s got d m l = ap (λ (p : List Connection × List Stray × ℕ). p.0) (with-same s got d m l)

-- and leaves the stray aborts
pub with-strays : (s : Setup) (got : Took) (d : CallName) (m : Message) (l : Looks)
    → (taken_with s got d m l).strays ≡ l.strays
with-strays s got d m l = ap (λ (p : List Connection × List Stray × ℕ). p.1) (with-same s got d m l)

-- and the moment
pub with-now : (s : Setup) (got : Took) (d : CallName) (m : Message) (l : Looks) → (taken_with s got d m l).now ≡ l.now
with-now s got d m l = ap (λ (p : List Connection × List Stray × ℕ). p.2) (with-same s got d m l)
