-- What a datagram that a server takes leaves of each call.
use Rattle.std.proofs.Common.{◌≡◌, ℕ, if◌then◌else◌, Bool, true, false, []}
use Rattle.std.proofs.Common.{Option, Some, None, Result, Ok, Err, refl, ◌∙◌, arith, sym, is_some}
use Rattle.std.proofs.Common.{option_map}
use Rattle.rx_model.specs.declared.answers.BadMsg.{BadMsg}
use Rattle.rx_model.specs.declared.answers.Took.{Took}
use Rattle.rx_model.specs.declared.answers.Took.TheVariants as tooks
use Rattle.rx_model.specs.declared.names.CallName.{CallName}
use Rattle.rx_model.specs.declared.names.Host.{Host}
use Rattle.rx_rules.specs.After.{enters}
use Rattle.rx_rules.specs.After.{prepared, taken_behind, taken_message}
use Rattle.rx_rules.specs.After.{taken_unserved, turned_away}
use Rattle.rx_model.specs.Body.{Body}
use Rattle.rx_model.specs.Body as bodies
use Rattle.rx_rules.specs.Judging.{outer_row}
use Rattle.rx_rules.specs.Looks.{ConnLooks, Looks, conn_at}
use Rattle.rx_model.specs.Message.{Message}
use Rattle.rx_model.specs.Names.{Connection, connection_of}
use Rattle.rx_rules.specs.Records.{entered, used}
use Rattle.rx_rules.specs.Setup.{Setup, IsServer, named}
use Rattle.rx_rules.proofs.ConnsLaws.{conn_at-on_conn, conn_if}
use Rattle.rx_rules.proofs.EnterLaws.{forgot-entered, keeps-entered, keeps-used, there-entered}
use Rattle.rx_history.proofs.Laws.ForgotLaws.{with-forgotten}
use Rattle.rx_rules.proofs.KeepsLaws.{Keeps}
use Rattle.rx_rules.proofs.KeepsLaws.{keeps-refl, keeps-trans}
use Rattle.rx_history.proofs.Laws.SoundLaws.{Sound, sound-keeps}
use Rattle.rx_history.proofs.Laws.TakenLaws.{sound-with}

-- ---- a message is taken

-- its record is entered where that is needed, and used
pub keeps-prepared : (s : Setup) (got : Took) (c : CallName) (x : Connection) (l : Looks)
    → (prepared s got x l).forgotten ≡ [] → Keeps c l (prepared s got x l)
keeps-prepared s got c x l none =
    keeps-trans c l (if enters got then entered s x l else l) _ (of (enters got) none)
    (keeps-used c x (if enters got then entered s x l else l))
  where
    of : (b : Bool) → (if b then entered s x l else l).forgotten ≡ [] → Keeps c l (if b then entered s x l else l)
    of true none = keeps-entered c s x l none
    of false none = keeps-refl c l

pub forgot-prepared : (s : Setup) (got : Took) (x : Connection) (l : Looks) → (prepared s got x l).forgotten ≡ []
    → l.forgotten ≡ []
forgot-prepared s got x l none = of (enters got) none
  where
    of : (b : Bool) → (if b then entered s x l else l).forgotten ≡ [] → l.forgotten ≡ []
    of true none = forgot-entered s x l none
    of false none = none

pub is_some-map : (change : ConnLooks → ConnLooks) (o : Option ConnLooks) → is_some o ≡ true
    → is_some (option_map change o) ≡ true
is_some-map change None is = is
is_some-map change (Some r) is = refl

pub there-used : (x : Connection) (l : Looks) → is_some (conn_at l x) ≡ true → is_some (conn_at (used x l) x) ≡ true
there-used x l is =
    rw (conn_at-on_conn x x (λ r. record r { last_use = l.now }) l (λ r. refl))
    (is_some-map (conn_if x (λ r. record r { last_use = l.now })) (conn_at l x) is)

pub there-prepared : (s : Setup) (got : Took) (x : Connection) (l : Looks) → IsServer s.kind
    → (prepared s got x l).forgotten ≡ [] → enters got ≡ true → is_some (conn_at (prepared s got x l) x) ≡ true
there-prepared s got x l server none is =
    there-used x (if enters got then entered s x l else l) (of (enters got) is none)
  where
    of : (b : Bool) → b ≡ true → (if b then entered s x l else l).forgotten ≡ []
        → is_some (conn_at (if b then entered s x l else l) x) ≡ true
    of true is none = there-entered s x l server none
    of false is none = absurd cc

-- a row in front changes no call
pub turned-keeps : (row : Took) (from : Host) (m : Message) (c : CallName) (l : Looks)
    → Keeps c l (turned_away row from m l)
turned-keeps tooks.Unserved from m c l = of m.body
  where
    of : (body : Body) → Keeps c l (taken_unserved from m body l)
    of (bodies.Chunk payload) =
        (let k = keeps-refl c l in record { calls = k.calls; numbers = k.numbers; fours = k.fours })
    of bodies.Busy = keeps-refl c l
    of (bodies.Ack a) = keeps-refl c l
    of (bodies.Abort code) = keeps-refl c l
    of bodies.AckAll = keeps-refl c l
    of (bodies.Challenge bytes) = keeps-refl c l
    of (bodies.Response bytes) = keeps-refl c l
turned-keeps _ from m c l = keeps-refl c l

pub sound-behind : (s : Setup) (row : Option Took) (from : Host) (c : CallName) (m : Message) (got : Took) (l : Looks)
    (n : ℕ)
    → IsServer s.kind → (taken_behind s row from (named s from m) m got l).forgotten ≡ []
    → Sound l c n → Sound (taken_behind s row from (named s from m) m got l) c n
sound-behind s (Some row) from c m got l n server none sound =
    sound-keeps c l (turned_away row from m l) n (turned-keeps row from m c l) sound
sound-behind s None from c m got l n server none sound =
    let d : CallName = named s from m in
    let ready : Looks = prepared s got (connection_of d) l in
    let still : ready.forgotten ≡ [] = sym (with-forgotten s got d m ready) ∙ none in
    sound-with s got c d m ready n (there-prepared s got (connection_of d) l server still) (omega arith)
    (sound-keeps c l ready n (keeps-prepared s got c (connection_of d) l still) sound)

pub sound-message : (s : Setup) (from : Host) (reading : Result Message BadMsg) (c : CallName) (got : Took) (l : Looks)
    (n : ℕ)
    → IsServer s.kind → (taken_message s from reading got l).forgotten ≡ []
    → Sound l c n → Sound (taken_message s from reading got l) c n
sound-message s from (Err bad) c got l n server none sound = sound
sound-message s from (Ok m) c got l n server none sound =
    sound-behind s (outer_row s s.kind l from m) from c m got l n server none sound
