-- Where an answer makes a channel owe an ABORT, the message is of the channel's latest call.
use Rattle.std.proofs.Common.{◌≡◌, ◌≤◌, ◌&&◌, ◌==◌, ℕ, cond, if◌then◌else◌, not, nat_lt, is_some, Bool, true, false}
use Rattle.std.proofs.Common.{Option, Some, refl, ◌∙◌, ap, sym, subst, arith}
use Rattle.std.proofs.lemmas.Bool.Decides.{nat_tests}
use Rattle.rx_model.specs.declared.answers.Took.{Took}
use Rattle.rx_model.specs.declared.answers.Took.TheVariants as tooks
use Rattle.rx_model.specs.declared.names.CallName.{CallName}
use Rattle.rx_model.specs.Body.{Body}
use Rattle.rx_model.specs.Body as bodies
use Rattle.rx_model.specs.Message.{Message}
use Rattle.rx_model.specs.Names.{channel_of, connection_of}
use Rattle.rx_rules.specs.CallLooks.{CallLooks, NodeView, call_row, fresh_call}
use Rattle.rx_rules.specs.Judging.{Facts, facts_of, is_right, live_row, opened, own_row, row_at, side_row, took_named}
use Rattle.rx_rules.specs.Life.{after_later}
use Rattle.rx_rules.specs.Life as lives
use Rattle.rx_rules.specs.Looks.{CallRecord, Looks, call_at, channel_at, is_proved, latest_name, on_life}
use Rattle.rx_rules.specs.Received.{Arrival, arrival_row}
use Rattle.rx_rules.specs.Records.{started_later}
use Rattle.rx_rules.specs.Sent.{is_all_given, is_strange_ack}
use Rattle.rx_rules.specs.Setup.{Client, Kind, Server, Setup, pace_of}
use Rattle.rx_rules.specs.Slots.{node_view}
use Rattle.rx_history.proofs.Fit.FitConnTaken.{may_abort}
use Rattle.rx_history.proofs.Takes.{call_at-any}

-- ---- the row of a live call says never that it is over

abbrev is_over : Took → Bool
is_over tooks.Over = true
is_over _ = false

if-over : (b : Bool) (x y : Took) → is_over x ≡ false → is_over y ≡ false → is_over (if b then x else y) ≡ false
if-over true x y p q = p
if-over false x y p q = q

arrival-over : (a : Arrival) → is_over (arrival_row a) ≡ false
arrival-over a =
    if-over a.is_strange tooks.Strange _ refl
    (if-over a.is_repeat tooks.Repeat _ refl (if-over a.is_beyond tooks.Beyond _ refl
    (if-over a.is_clash tooks.Clash _ refl (if-over a.has_slot tooks.Kept tooks.NoSlot refl refl))))

call-over : (v : NodeView) (m : Message) (body : Body) (k : CallLooks) → is_over (call_row v m body k) ≡ false
call-over v m (bodies.Chunk payload) k = arrival-over _
call-over v m (bodies.Ack a) k = if-over (is_strange_ack a.first a.marks k.sent) tooks.Strange tooks.Heard refl refl
call-over v m bodies.AckAll k = if-over (is_all_given k.sent) tooks.Heard tooks.Strange refl refl
call-over v m bodies.Busy k = refl
call-over v m (bodies.Abort code) k = refl
call-over v m (bodies.Challenge bytes) k = refl
call-over v m (bodies.Response bytes) k = refl

live-over : (s : Setup) (l : Looks) (k : CallRecord) (m : Message) (body : Body)
    → is_over (live_row s l k m body) ≡ false
live-over s l k m (bodies.Response bytes) =
    if-over (is_right s l k.name bytes) tooks.Heard _ refl
    (if-over (is_proved l (connection_of k.name)) tooks.Strange tooks.Stopped refl refl)
live-over s l k m (bodies.Challenge bytes) = if-over
    (is_some (s.class.respond k.name bytes)) tooks.Heard tooks.Strange refl refl
live-over s l k m (bodies.Chunk payload) = call-over (node_view s l) m m.body k.looks
live-over s l k m bodies.Busy = call-over (node_view s l) m m.body k.looks
live-over s l k m (bodies.Ack a) = call-over (node_view s l) m m.body k.looks
live-over s l k m (bodies.Abort code) = call-over (node_view s l) m m.body k.looks
live-over s l k m bodies.AckAll = call-over (node_view s l) m m.body k.looks

-- a call that starts is there
opened-over : (s : Setup) (l : Looks) (c : CallName) (m : Message)
    → nat_lt (channel_at l (channel_of c)).number c.number ≡ true
    → own_row s (opened s c l) c m ≡ tooks.Over → ⊥
opened-over s l c m above is =
    let ended : Looks = on_life (latest_name l (channel_of c)) after_later l in
    let new : CallRecord =
    record { name = c; life = lives.Waiting; looks = fresh_call (pace_of s) l.now } in
    let there : call_at (started_later s c l) c ≡ Some new = call_at-any c new ended refl (call_at ended c) refl in
    let opens : opened s c l ≡ started_later s c l = ap (λ (b : Bool). cond b (started_later s c l) l) above in
    let row : own_row s (started_later s c l) c m ≡ tooks.Over = subst
    (λ (n : Looks). own_row s n c m ≡ tooks.Over) opens is in
    let live : live_row s (started_later s c l) new m m.body ≡ tooks.Over =
    subst (λ (o : Option CallRecord). row_at s (started_later s c l) o m ≡ tooks.Over) there row in
    let over : is_over (live_row s (started_later s c l) new m m.body) ≡ true = ap is_over live in
    let never = live-over s (started_later s c l) new m m.body in
    absurd (cc (over, never))

-- ---- the rows in front

-- the message has a number, neither below nor above its channel's
pub record Latest (f : Facts) : Type 0 where
  pub has : f.has_number ≡ true
  pub below : f.is_below ≡ false
  pub above : f.is_above ≡ false

pub passed : (test : Took → Bool) (b : Bool) (row rest got : Took) → test got ≡ true → test row ≡ false
    → (if b then row else rest) ≡ got
    → (b ≡ false) × (rest ≡ got)
passed test true row rest got is other e = absurd (let same : test row ≡ test got = ap test e in cc (same, is, other))
passed test false row rest got is other e = (refl, e)

pub skipped : (b : Bool) (row rest got : Took) → b ≡ false → (if b then row else rest) ≡ got → rest ≡ got
skipped true row rest got none e = absurd cc
skipped false row rest got none e = e

pub not_false : (b : Bool) → not b ≡ false → b ≡ true
not_false true is = refl
not_false false is = absurd cc

last-over : (above active : Bool) (call : Took) → (above ≡ true → call ≡ tooks.Over → ⊥)
    → (if not above && not active then tooks.Over else call) ≡ tooks.Over → above ≡ false
last-over false active call never is = refl
last-over true active call never is = absurd (never refl is)

side-over : (kind : Kind) (f : Facts) (call : Took) → (f.is_above ≡ true → call ≡ tooks.Over → ⊥)
    → side_row kind f call ≡ tooks.Over → Latest f
side-over (Server service nonces) f call never is =
    let a = passed is_over
    (not f.is_known && not (f.can_start && f.has_number)) tooks.Strange _ tooks.Over refl refl is in
    let b = passed is_over (not f.is_known && not f.has_place) tooks.Full _ tooks.Over refl refl a.1 in
    let d = passed is_over f.stops_all tooks.Stopped _ tooks.Over refl refl b.1 in
    let e = passed is_over (not f.has_number) tooks.Strange _ tooks.Over refl refl d.1 in
    let g = passed is_over f.is_below tooks.Old _ tooks.Over refl refl e.1 in
    let h = passed is_over (f.is_above && not f.can_start) tooks.Strange _ tooks.Over refl refl g.1 in
    let i = passed is_over (f.is_above && f.is_handled) tooks.Busy _ tooks.Over refl refl h.1 in
    let j = passed is_over (f.is_above && (not f.is_live && f.is_crowded)) tooks.NoRoom _ tooks.Over refl refl i.1 in
    record { has = not_false f.has_number e.0; below = g.0; above = last-over f.is_above f.is_active call never j.1 }
side-over (Client host epoch) f call never is =
    let a = passed is_over f.stops_all tooks.Stopped _ tooks.Over refl refl is in
    let b = passed is_over (not f.has_number) tooks.Strange _ tooks.Over refl refl a.1 in
    let d = passed is_over f.is_below tooks.Old _ tooks.Over refl refl b.1 in
    let e = passed is_over f.is_above tooks.Strange _ tooks.Over refl refl d.1 in
    record { has = not_false f.has_number b.0; below = d.0; above = e.0 }

abbrev pub is_stopped : Took → Bool
is_stopped tooks.Stopped = true
is_stopped _ = false

pub above-starts : (above starts : Bool) → starts ≡ false → (above && not starts) ≡ false → above ≡ false
above-starts false starts none is = refl
above-starts true true none is = absurd cc
above-starts true false none is = absurd cc

pub side-stopped : (kind : Kind) (f : Facts) (call : Took) → f.stops_all ≡ false → f.can_start ≡ false
    → side_row kind f call ≡ tooks.Stopped → Latest f
side-stopped (Server service nonces) f call one starts is =
    let a = passed is_stopped
    (not f.is_known && not (f.can_start && f.has_number)) tooks.Strange _ tooks.Stopped refl refl is in
    let b = passed is_stopped (not f.is_known && not f.has_place) tooks.Full _ tooks.Stopped refl refl a.1 in
    let d = skipped f.stops_all tooks.Stopped _ tooks.Stopped one b.1 in
    let e = passed is_stopped (not f.has_number) tooks.Strange _ tooks.Stopped refl refl d in
    let g = passed is_stopped f.is_below tooks.Old _ tooks.Stopped refl refl e.1 in
    let h = passed is_stopped (f.is_above && not f.can_start) tooks.Strange _ tooks.Stopped refl refl g.1 in
    record { has = not_false f.has_number e.0; below = g.0; above = above-starts f.is_above f.can_start starts h.0 }
side-stopped (Client host epoch) f call one starts is =
    let a = skipped f.stops_all tooks.Stopped _ tooks.Stopped one is in
    let b = passed is_stopped (not f.has_number) tooks.Strange _ tooks.Stopped refl refl a in
    let d = passed is_stopped f.is_below tooks.Old _ tooks.Stopped refl refl b.1 in
    let e = passed is_stopped f.is_above tooks.Strange _ tooks.Stopped refl refl d.1 in
    record { has = not_false f.has_number b.0; below = d.0; above = e.0 }

-- ---- the channel's number

some-number : (m n : ℕ) → not (m == 0) ≡ true → nat_lt m n ≡ false → nat_lt n m ≡ false → 1 ≤ n
some-number m n has below above =
    let some : (m == 0) ≡ false = turned (m == 0) has in
    grind (arith, nat_tests)
  where
    turned : (b : Bool) → not b ≡ true → b ≡ false
    turned true is = absurd cc
    turned false is = refl

-- the message is of the channel's latest call
pub aborts_latest : (s : Setup) (l : Looks) (c : CallName) (m : Message) (got : Took) → m.number ≡ c.number
    → took_named s l c m ≡ got → may_abort got m.body ≡ true → Latest (facts_of s l c m)
aborts_latest s l c m got number is may = of got m.body refl is may
  where
    over : took_named s l c m ≡ tooks.Over → Latest (facts_of s l c m)
    over is =
        side-over s.kind (facts_of s l c m) (own_row s (opened s c l) c m)
        (λ above. opened-over s l c m (ap (λ (n : ℕ). nat_lt (channel_at l (channel_of c)).number n) (sym number)
        ∙ above)) is

    stopped : (body : Body) → m.body ≡ body → took_named s l c m ≡ tooks.Stopped → may_abort tooks.Stopped body ≡ true
        → Latest (facts_of s l c m)
    stopped (bodies.Response bytes) at is may =
        side-stopped s.kind (facts_of s l c m) (own_row s (opened s c l) c m) (rw at refl) (rw at refl) is
    stopped _ at is may = absurd cc

    of : (got : Took) (body : Body) → m.body ≡ body → took_named s l c m ≡ got → may_abort got body ≡ true
        → Latest (facts_of s l c m)
    of tooks.Stopped body at is may = stopped body at is may
    of tooks.Over body at is may = over is
    of _ body at is may = absurd cc

-- its channel has a call
pub abort_numbered : (s : Setup) (l : Looks) (c : CallName) (m : Message) (got : Took) → m.number ≡ c.number
    → took_named s l c m ≡ got
    → may_abort got m.body ≡ true → 1 ≤ (channel_at l (channel_of c)).number
abort_numbered s l c m got number is may =
    let latest = aborts_latest s l c m got number is may in
    some-number m.number (channel_at l (channel_of c)).number latest.has latest.below latest.above
