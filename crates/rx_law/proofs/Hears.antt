-- When a call of a node was last heard: changes that leave it.
use Rattle.std.proofs.Common.{◌≡◌, ◌⊎◌, ◌&&◌, ◌==◌, ℕ, ℤ, cond, if◌then◌else◌, not, Bool, true, false}
use Rattle.std.proofs.Common.{Option, Some, None, option_map, refl, ◌∙◌, ap, inl, inr}
use Rattle.rx_model.specs.declared.answers.Took.{Took}
use Rattle.rx_model.specs.declared.answers.Took.TheVariants as tooks
use Rattle.rx_model.specs.declared.names.CallName.{CallName}
use Rattle.rx_rules.specs.After.{challenged, settled}
use Rattle.rx_rules.specs.After.{stopped_all, taken_heard, taken_over, taken_stopped}
use Rattle.rx_model.specs.Body.{Body}
use Rattle.rx_model.specs.Body as bodies
use Rattle.rx_rules.specs.CallLooks.{CallLooks}
use Rattle.rx_rules.specs.Life.{Life, after_code}
use Rattle.rx_rules.specs.Looks.{CallRecord, Looks, call_at, is_proved, on_call, on_calls, on_channel, on_life}
use Rattle.rx_rules.specs.Looks.{on_looks}
use Rattle.rx_model.specs.Names.{channel_of, connection_of, same_connection, same_name}
use Rattle.rx_rules.specs.Setup.{Setup, is_client}
use Rattle.rx_rules.proofs.CallsLaws.{KeepsNames, changed_if, changed_if-name, call_at-on_calls}

-- the moment at which a call that is looked for was last heard
abbrev pub heard_by : Option CallRecord → Option ℕ
heard_by None = None
heard_by (Some k) = Some k.looks.heard

-- that of a name
abbrev pub heard_at : Looks → CallName → Option ℕ
heard_at l c = heard_by (call_at l c)

-- the answers for which a call is heard
abbrev pub hears : Took → Bool
hears tooks.Kept = true
hears tooks.Repeat = true
hears tooks.Beyond = true
hears tooks.Clash = true
hears tooks.NoSlot = true
hears tooks.Heard = true
hears _ = false

-- it stays, or is now, for that reason
abbrev pub Hears : ℕ → Type 0 → Option ℕ → Option ℕ → Type 0
Hears now By a b = (b ≡ a) ⊎ ((b ≡ Some now) × By)

-- one behind the other
pub hears-trans : (now : ℕ) (By : Type 0) (a b c : Option ℕ) → Hears now By a b → Hears now By b c → Hears now By a c
hears-trans now By a b c p (inr q) = inr q
hears-trans now By a b c (inl p) (inl q) = inl (q ∙ p)
hears-trans now By a b c (inr p) (inl q) = inr (q ∙ p.0, p.1)

-- ---- changes that leave it

heard-map : (change : CallRecord → CallRecord) (o : Option CallRecord)
    → ((k : CallRecord) → (change k).looks.heard ≡ k.looks.heard)
    → heard_by (option_map change o) ≡ heard_by o
heard-map change None same = refl
heard-map change (Some k) same = ap (λ (n : ℕ). Some n) (same k)

-- a change of every call
pub heard-on_calls : (c : CallName) (change : CallRecord → CallRecord) (l : Looks) → KeepsNames change
    → ((k : CallRecord) → (change k).looks.heard ≡ k.looks.heard) → heard_at (on_calls change l) c ≡ heard_at l c
heard-on_calls c change l names same =
    ap heard_by (call_at-on_calls c change l names) ∙ heard-map change (call_at l c) same

heard-if : (test : Bool) (change : CallRecord → CallRecord) (k : CallRecord) → (change k).looks.heard ≡ k.looks.heard
    → (cond test (change k) k).looks.heard ≡ k.looks.heard
heard-if true change k same = same
heard-if false change k same = refl

-- of one
pub heard-on_call : (c d : CallName) (change : CallRecord → CallRecord) (l : Looks) → KeepsNames change
    → ((k : CallRecord) → (change k).looks.heard ≡ k.looks.heard) → heard_at (on_call d change l) c ≡ heard_at l c
heard-on_call c d change l names same =
    heard-on_calls c (changed_if d change) l (λ k. changed_if-name (same_name k.name d) change k (names k))
    (λ k. heard-if (same_name k.name d) change k (same k))

-- of its life
pub heard-on_life : (c d : CallName) (change : Life → Life) (l : Looks) → heard_at (on_life d change l) c ≡ heard_at l c
heard-on_life c d change l = heard-on_call c d (λ k. record k { life = change k.life }) l (λ k. refl) (λ k. refl)

-- of what passed at its end, where it isn't heard by it
pub heard-on_looks : (c d : CallName) (change : CallLooks → CallLooks) (l : Looks)
    → ((k : CallLooks) → (change k).heard ≡ k.heard)
    → heard_at (on_looks d change l) c ≡ heard_at l c
heard-on_looks c d change l same =
    heard-on_call c d (λ k. record k { looks = change k.looks }) l (λ k. refl) (λ k. same k.looks)

heard-where : (c : CallName) (test : Bool) (m l k : Looks) → heard_at m c ≡ heard_at k c → heard_at l c ≡ heard_at k c
    → heard_at (if test then m else l) c ≡ heard_at k c
heard-where c true m l k here there = here
heard-where c false m l k here there = there

-- a CHALLENGE that is owed
pub heard-challenged : (s : Setup) (c d : CallName) (l : Looks) → heard_at (challenged s d l) c ≡ heard_at l c
heard-challenged s c d l =
    heard-where c (not (is_client s.kind) && (s.class.challenges && not (is_proved l (connection_of d))))
    (on_channel (channel_of d) (λ q. record q { owed_challenge = true }) l) l l refl refl

heard-settled : (c d : CallName) (l : Looks) → heard_at (on_call d settled l) c ≡ heard_at l c
heard-settled c d l = heard-on_call c d settled l (λ k. refl) (λ k. refl)

-- what a message that is heard changes beside its call
pub heard-heard : (s : Setup) (c d : CallName) (body : Body) (l : Looks) → heard_at (taken_heard s d body l) c
    ≡ heard_at l c
heard-heard s c d (bodies.Ack a) l = heard-challenged s c d (on_call d settled l) ∙ heard-settled c d l
heard-heard s c d bodies.AckAll l = heard-settled c d l
heard-heard s c d _ l = refl

coded-name : (test : Bool) (code : ℤ) (k : CallRecord) → (cond test
    (record k { life = after_code code k.life }) k).name ≡ k.name
coded-name true code k = refl
coded-name false code k = refl

coded-heard : (test : Bool) (code : ℤ) (k : CallRecord)
    → (cond test (record k { life = after_code code k.life }) k).looks.heard ≡ k.looks.heard
coded-heard true code k = refl
coded-heard false code k = refl

-- a code that comes
pub heard-stopped : (c d : CallName) (body : Body) (l : Looks) → heard_at (taken_stopped d body l) c ≡ heard_at l c
heard-stopped c d (bodies.Abort code) l =
    let x = connection_of d in
    heard-where c (d.number == 0) (stopped_all x code l) (on_life d (after_code code) l) l
    (heard-on_calls c (λ k. if same_connection
    (connection_of k.name) x then record k { life = after_code code k.life } else k) l
    (λ k. coded-name (same_connection (connection_of k.name) x) code k)
    (λ k. coded-heard (same_connection (connection_of k.name) x) code k))
    (heard-on_life c d (after_code code) l)
heard-stopped c d (bodies.Response bytes) l = heard-on_life c d _ l
heard-stopped c d _ l = refl

-- a message of a call that ended
pub heard-over : (c d : CallName) (body : Body) (o : Option CallRecord) (l : Looks)
    → heard_at (taken_over d body o l) c ≡ heard_at l c
heard-over c d body None l = refl
heard-over c d body (Some k) l = refl
