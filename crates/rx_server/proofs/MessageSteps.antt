-- What becomes of a message at a server, from the row in front on.
use Rattle.std.proofs.Common.{◌≡◌, ◌++◌, ◌∷◌, [], ℕ, true, List, Option, Some, None, Ok, Err, refl, ◌∙◌}
use Rattle.std.proofs.Common.{ap, sym, subst}
use Rattle.rx_model.specs.declared.answers.BadMsg.{BadMsg}
use Rattle.rx_model.specs.declared.answers.Took.{Took}
use Rattle.rx_model.specs.declared.answers.Took.TheVariants as tooks
use Rattle.rx_model.specs.declared.event.Event.TheVariants as events
use Rattle.rx_model.specs.declared.names.CallName.{CallName}
use Rattle.rx_model.specs.declared.names.Host.{Host}
use Rattle.rx_model.specs.declared.wire.TheConstants.{STRAYS}
use Rattle.rx_model.specs.Body.{Body}
use Rattle.rx_model.specs.Body as bodies
use Rattle.rx_model.specs.Message.{IsBytes, Message}
use Rattle.rx_model.specs.Names.{connection_of}
use Rattle.rx_model.specs.Reading.{reading_of}
use Rattle.rx_model.specs.Strays.{last_of, stray_of}
use Rattle.rx_rules.specs.After.{looks, prepared, taken_behind, taken_message, taken_unserved, taken_with, turned_away}
use Rattle.rx_rules.specs.Classes.{Class}
use Rattle.rx_rules.specs.Judging.{else_row, is_data, outer_row, server_outer, took_named, took_of, took_reading}
use Rattle.rx_rules.specs.Rules.{AllowedAt}
use Rattle.rx_rules.specs.Looks.{Looks}
use Rattle.rx_rules.specs.Setup.{Kind, Server, Client, IsServer, Setup, named}
use Rattle.rx_history.proofs.Dimensions.Dims.{dims_refl}
use Rattle.rx_node.specs.Mirrors.{Mirrors}
use Rattle.rx_node.specs.Node.{NodeState, setup_of}
use Rattle.rx_server.specs.Server.{Answered, IsServerOf, ServerState, Serves}
use Rattle.rx_server.specs.Taking.{Takes}
use Rattle.rx_server.specs.Turned.{Judges, strays}
use Rattle.rx_server.proofs.Serving.{SameRole, answered_by, serves_quiet}

-- ---- a row in front

-- with a stray abort
abbrev pub with_stray : Host → Message → Looks → Looks
with_stray from m l = record l { strays = last_of STRAYS (l.strays ++ stray_of from m ∷ []) }

unserved-is : (from : Host) (m : Message) (body : Body) (l : Looks) → is_data body ≡ true
    → with_stray from m l ≡ taken_unserved from m body l
unserved-is from m (bodies.Chunk payload) l is = refl
unserved-is from m bodies.Busy l is = absurd (cc (is))
unserved-is from m (bodies.Ack a) l is = absurd (cc (is))
unserved-is from m (bodies.Abort code) l is = absurd (cc (is))
unserved-is from m bodies.AckAll l is = absurd (cc (is))
unserved-is from m (bodies.Challenge bytes) l is = absurd (cc (is))
unserved-is from m (bodies.Response bytes) l is = absurd (cc (is))

-- one that owes it
pub turned_stray : (row : Took) (from : Host) (m : Message) (l : Looks) → strays row m.body ≡ true
    → with_stray from m l ≡ turned_away row from m l
turned_stray tooks.Unserved from m l is = unserved-is from m m.body l is
turned_stray _ from m l is = absurd (cc (is))

-- the server behind it
pub serves_stray : (class : List ℕ → Class) (sv : ServerState) (new : NodeState) (l : Looks) (from : Host) (m : Message)
    → SameRole sv.node new → Mirrors class new (with_stray from m l) → Serves class sv l
    → Serves class (record sv { node = new }) (with_stray from m l)
serves_stray class sv new l from m role mirrors serves =
    (let same = dims_refl l in
    serves_quiet class sv new l (with_stray from m l) role (record { calls = same.calls; conns = same.conns })
    (record { firsts = refl; entered = refl; proved = refl }) mirrors serves)

-- ---- a message

outer-is : (s : Setup) (kind : Kind) (service : ℕ) (l : Looks) (from : Host) (m : Message) → IsServerOf kind service
    → outer_row s kind l from m ≡ server_outer s service m
outer-is s (Server service nonces) n l from m is = ap (λ (k : ℕ). server_outer s k m) is
outer-is s (Client host epoch) n l from m is = absurd is

module _ (class : List ℕ → Class) (old new : ServerState) (l : Looks) (from : Host) (m : Message)
    (server : IsServerOf old.node.kind old.service) where
  abbrev s : Setup
  s = setup_of class old.node

  -- a row in front answers
  pub judges_outer : (row : Took) → server_outer s old.service m ≡ Some row
      → Serves class new (turned_away row from m l)
      → Judges class old new l from m row
  judges_outer row is serves =
      (let outer : outer_row s old.node.kind l from m ≡ Some row =
      outer-is s old.node.kind old.service l from m server ∙ is in
      record {
        answered = sym (ap (λ (o : Option Took). else_row o (took_named s l (named s from m) m)) outer);
        serves = subst (λ (o : Option Took). Serves class new (taken_behind s o from (named s from m) m row l))
            (sym outer)
            serves;
      })

  -- none does
  pub judges_named : (c : CallName) (got : Took) → c ≡ named s from m → server_outer s old.service m ≡ None
      → Takes class old new l c m got → Judges class old new l from m got
  judges_named c got name is takes =
      (let outer : outer_row s old.node.kind l from m ≡ None =
      outer-is s old.node.kind old.service l from m server ∙ is in
      record {
        answered = takes.answered ∙ ap (λ (d : CallName). took_named s l d m) name
            ∙ sym (ap (λ (o : Option Took). else_row o (took_named s l (named s from m) m)) outer);
        serves = subst (λ (o : Option Took). Serves class new (taken_behind s o from (named s from m) m got l))
            (sym outer)
            (subst (λ (d : CallName). Serves class new (taken_with s got d m (prepared s got (connection_of d) l))) name
            takes.serves);
      })

-- where the row owes one
pub serves_turned : (class : List ℕ → Class) (sv : ServerState) (new : NodeState) (l : Looks)
    (from : Host) (m : Message)
    (row : Took) → strays row m.body ≡ true → SameRole sv.node new → Mirrors class new (with_stray from m l)
    → Serves class sv l
    → Serves class (record sv { node = new }) (turned_away row from m l)
serves_turned class sv new l from m row owes role mirrors serves =
    subst (λ (q : Looks). Serves class (record sv { node = new }) q) (turned_stray row from m l owes)
    (serves_stray class sv new l from m role mirrors serves)

-- ---- a datagram

allowed-taken : (s : Setup) (kind : Kind) (l : Looks) (from : Host) (bytes : List ℕ) (got : Took) → IsServer kind
    → IsBytes bytes → got ≡ took_of s l from bytes → AllowedAt kind s l (events.Taken from bytes got)
allowed-taken s (Server service nonces) l from bytes got is fit same = (fit, same)
allowed-taken s (Client host epoch) l from bytes got is fit same = absurd is

-- that says a message
pub answers_message : (class : List ℕ → Class) (old new : ServerState) (from : Host) (bytes : List ℕ) (m : Message)
    (got : Took) → IsServer old.node.kind → setup_of class new.node ≡ setup_of class old.node → IsBytes bytes
    → Ok m ≡ reading_of bytes
    → ((l : Looks) → Serves class old l → Judges class old new l from m got)
    → Answered class old new (events.Taken from bytes got)
answers_message class old new from bytes m got server same fit says judges =
    answered_by class old new (events.Taken from bytes got) same
    (λ h stands. (
    let s = setup_of class old.node in
    let l : Looks = looks s h in
    let j = judges l stands.serves in (
      allowed-taken s old.node.kind l from bytes got server fit (j.answered ∙ ap (took_reading s l from) says),
      subst (λ (q : _). Serves class new (taken_message s from q got l)) says j.serves,
    )))

-- that says none
pub answers_bad : (class : List ℕ → Class) (old : ServerState) (from : Host) (bytes : List ℕ) (bad : BadMsg)
    → IsServer old.node.kind → IsBytes bytes → Err bad ≡ reading_of bytes
    → Answered class old old (events.Taken from bytes (tooks.Bad bad))
answers_bad class old from bytes bad server fit says =
    answered_by class old old (events.Taken from bytes (tooks.Bad bad)) refl
    (λ h stands. (
    let s = setup_of class old.node in
    let l : Looks = looks s h in (
      allowed-taken s old.node.kind l from bytes (tooks.Bad bad) server fit (ap (took_reading s l from) says),
      subst (λ (q : _). Serves class old (taken_message s from q (tooks.Bad bad) l)) says stands.serves,
    )))
