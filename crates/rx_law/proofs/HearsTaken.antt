-- A start of a call, and a message of it with such an answer, are moments at which the call is heard.
use Rattle.std.proofs.Common.{◌≡◌, ◌⊎◌, ℕ, cond, if◌then◌else◌, nat_lt, Bool, true, false}
use Rattle.std.proofs.Common.{Option, Some, None, option_map, refl, ap, sym, subst, inl, inr}
use Rattle.rx_model.specs.declared.answers.Took.{Took}
use Rattle.rx_model.specs.declared.answers.Took.TheVariants as tooks
use Rattle.rx_model.specs.declared.names.CallName.{CallName}
use Rattle.rx_model.specs.declared.wire.TheConstants.{RX_CALL_DEAD}
use Rattle.rx_rules.specs.After.{challenged}
use Rattle.rx_rules.specs.After.{taken_at, taken_data, taken_heard, taken_with, with_first}
use Rattle.rx_model.specs.Body.{Body}
use Rattle.rx_model.specs.Body as bodies
use Rattle.rx_rules.specs.CallLooks.{CallLooks, NodeView, after_chunk, after_taken, fresh_call}
use Rattle.rx_rules.specs.Judging.{opened}
use Rattle.rx_rules.specs.Life.{Life, after_code, after_later}
use Rattle.rx_rules.specs.Life as lives
use Rattle.rx_rules.specs.Looks.{CallRecord, Looks, call_at, channel_at, latest_name, on_life}
use Rattle.rx_model.specs.Message.{Message}
use Rattle.rx_model.specs.Names.{channel_of, same_name}
use Rattle.rx_rules.specs.Records.{started, started_later}
use Rattle.rx_rules.specs.Setup.{Setup, pace_of}
use Rattle.rx_rules.specs.Slots.{node_view}
use Rattle.rx_model.proofs.NameLaws.{name_is}
use Rattle.rx_rules.proofs.StartLaws.{call_at-other}
use Rattle.rx_history.proofs.Calls.{call-changed}
use Rattle.rx_history.proofs.Takes.{call_at-any}
use Rattle.rx_law.proofs.Hears.{Hears, heard-challenged, heard-heard, heard-on_life, heard-over, heard-stopped}
use Rattle.rx_law.proofs.Hears.{heard_at, heard_by, hears, hears-trans}

-- ---- a start, and a message

-- a start of a call is a moment at which it is heard
pub hears-started : (s : Setup) (life : Life) (c d : CallName) (l : Looks)
    → Hears l.now (same_name c d ≡ true) (heard_at l c) (heard_at (started s life d l) c)
hears-started s life c d l =
    let k : CallRecord = record { name = d; life = life; looks = fresh_call (pace_of s) l.now } in
    (elim (same_name c d) as (λ b. same_name c d ≡ b → Hears l.now (b ≡ true) (heard_at l c)
    (heard_at (started s life d l) c)) [
      | true ↦ λ same. inr (ap heard_by (call_at-any c k l (sym (name_is c d same)) (call_at l c) refl), refl)
      | false ↦ λ other. inl (ap heard_by (call_at-other c k l other (call_at l c) refl))
    ]) refl

hears-opened : (s : Setup) (c d : CallName) (l : Looks) → Hears l.now (same_name c d ≡ true) (heard_at l c)
    (heard_at (opened s d l) c)
hears-opened s c d l =
    let ended : Looks = on_life (latest_name l (channel_of d)) after_later l in
    (elim (nat_lt (channel_at l (channel_of d)).number d.number)
    as (λ b. Hears l.now (same_name c d ≡ true) (heard_at l c) (heard_at (if b then started_later s d l else l) c)) [
      | true ↦
          hears-trans l.now (same_name c d ≡ true) (heard_at l c) (heard_at ended c) (heard_at (started_later s d l) c)
          (inl (heard-on_life c (latest_name l (channel_of d)) after_later l)) (hears-started s lives.Waiting c d ended)
      | false ↦ inl refl
    ])

pub now-opened : (s : Setup) (d : CallName) (l : Looks) → (opened s d l).now ≡ l.now
now-opened s d l = of (nat_lt (channel_at l (channel_of d)).number d.number)
  where
    of : (b : Bool) → (if b then started_later s d l else l).now ≡ l.now
    of true = refl
    of false = refl

pub chunk-heard : (v : NodeView) (got : Took) (m : Message) (body : Body) (k : CallLooks)
    → ((after_chunk v got m body k).heard ≡ k.heard) ⊎ ((after_chunk v got m body k).heard ≡ v.now)
chunk-heard v got m (bodies.Chunk payload) k = inr refl
chunk-heard v got m _ k = inl refl

or-heard : (got : Took) (a b n : ℕ) → hears got ≡ true → (a ≡ b) ⊎ (a ≡ n) → (a ≡ b) ⊎ ((a ≡ n) × (hears got ≡ true))
or-heard got a b n is (inl same) = inl same
or-heard got a b n is (inr now) = inr (now, is)

-- what a message makes of it
taken-heard : (v : NodeView) (got : Took) (m : Message) (k : CallLooks)
    → ((after_taken v got m k).heard ≡ k.heard) ⊎ (((after_taken v got m k).heard ≡ v.now) × (hears got ≡ true))
taken-heard v tooks.Kept m k = or-heard tooks.Kept _ _ _ refl (chunk-heard v tooks.Kept m m.body k)
taken-heard v tooks.Repeat m k = or-heard tooks.Repeat _ _ _ refl (chunk-heard v tooks.Repeat m m.body k)
taken-heard v tooks.Beyond m k = or-heard tooks.Beyond _ _ _ refl (chunk-heard v tooks.Beyond m m.body k)
taken-heard v tooks.Clash m k = or-heard tooks.Clash _ _ _ refl (chunk-heard v tooks.Clash m m.body k)
taken-heard v tooks.NoSlot m k = or-heard tooks.NoSlot _ _ _ refl (chunk-heard v tooks.NoSlot m m.body k)
taken-heard v tooks.Heard m k = inr (refl, refl)
taken-heard v _ m k = inl refl

-- it is of the call, and of an answer for which it is heard
abbrev pub HeardBy : Took → CallName → CallName → Type 0
HeardBy got c d = (hears got ≡ true) × (same_name c d ≡ true)

hears-taken_at : (s : Setup) (got : Took) (c d : CallName) (m : Message) (l : Looks)
    → Hears l.now (HeardBy got c d) (heard_at l c) (heard_at (taken_at s got d m l) c)
hears-taken_at s got c d m l =
    subst (λ (o : Option CallRecord). Hears l.now (HeardBy got c d) (heard_at l c) (heard_by o))
    (sym (call-changed c d change l (λ k. refl))) (of (same_name c d) refl (call_at l c))
  where
    change : CallRecord → CallRecord
    change k = record k { looks = after_taken (node_view s l) got m k.looks }

    one : (a b n : ℕ) → same_name c d ≡ true → (b ≡ a) ⊎ ((b ≡ n) × (hears got ≡ true))
        → Hears n (HeardBy got c d) (Some a) (Some b)
    one a b n same (inl stays) = inl (ap (λ (x : ℕ). Some x) stays)
    one a b n same (inr now) = inr (ap (λ (x : ℕ). Some x) now.0, (now.1, same))

    of : (b : Bool) → same_name c d ≡ b → (o : Option CallRecord)
        → Hears l.now (HeardBy got c d) (heard_by o) (heard_by (cond b (option_map change o) o))
    of true same None = inl refl
    of true same (Some k) = one k.looks.heard (change k).looks.heard l.now same
        (taken-heard (node_view s l) got m k.looks)
    of false other o = inl refl

hears-data : (s : Setup) (got : Took) (c d : CallName) (m : Message) (l : Looks)
    → Hears l.now (HeardBy got c d) (heard_at l c) (heard_at (taken_data s got d m l) c)
hears-data s got c d m l =
    let behind : Looks = record (taken_at s got d m l) { firsts = with_first got d m.seq l.firsts } in
    hears-trans l.now (HeardBy got c d) (heard_at l c) (heard_at behind c) (heard_at (challenged s d behind) c)
    (hears-taken_at s got c d m l) (inl (heard-challenged s c d behind))

hears-starting : (s : Setup) (got : Took) (c d : CallName) (m : Message) (l : Looks) → hears got ≡ true
    → Hears l.now (HeardBy got c d) (heard_at l c) (heard_at (taken_data s got d m (opened s d l)) c)
hears-starting s got c d m l is =
    hears-trans l.now (HeardBy got c d) (heard_at l c) (heard_at (opened s d l) c)
    (heard_at (taken_data s got d m (opened s d l)) c)
    (with-answer (heard_at l c) (heard_at (opened s d l) c) (hears-opened s c d l))
    (subst (λ (n : ℕ). Hears n (HeardBy got c d) (heard_at (opened s d l) c)
    (heard_at (taken_data s got d m (opened s d l)) c))
    (now-opened s d l) (hears-data s got c d m (opened s d l)))
  where
    with-answer : (a b : Option ℕ) → Hears l.now (same_name c d ≡ true) a b → Hears l.now (HeardBy got c d) a b
    with-answer a b (inl same) = inl same
    with-answer a b (inr now) = inr (now.0, (is, now.1))

-- behind the entering of its connection a message makes a call heard by such an answer alone
pub hears-with : (s : Setup) (got : Took) (c d : CallName) (m : Message) (l : Looks)
    → Hears l.now (HeardBy got c d) (heard_at l c) (heard_at (taken_with s got d m l) c)
hears-with s tooks.Kept c d m l = hears-starting s tooks.Kept c d m l refl
hears-with s tooks.NoSlot c d m l = hears-starting s tooks.NoSlot c d m l refl
hears-with s tooks.Repeat c d m l = hears-data s tooks.Repeat c d m l
hears-with s tooks.Beyond c d m l = hears-data s tooks.Beyond c d m l
hears-with s tooks.Clash c d m l = hears-data s tooks.Clash c d m l
hears-with s tooks.Heard c d m l =
    let heard : Looks = taken_at s tooks.Heard d m l in
    hears-trans l.now (HeardBy tooks.Heard c d) (heard_at l c) (heard_at heard c)
    (heard_at (taken_heard s d m.body heard) c)
    (hears-taken_at s tooks.Heard c d m l) (inl (heard-heard s c d m.body heard))
hears-with s tooks.Stopped c d m l = inl (heard-stopped c d m.body l)
hears-with s tooks.Busy c d m l = inl (heard-on_life c (latest_name l (channel_of d)) (after_code RX_CALL_DEAD) l)
hears-with s tooks.NoRoom c d m l = inl refl
hears-with s tooks.Over c d m l = inl (heard-over c d m.body (call_at l d) l)
hears-with s _ c d m l = inl refl
