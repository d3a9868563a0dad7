-- A CHALLENGE that a node gives is of a call that is there, with the nonce of the record of its connection.
use Rattle.std.proofs.Common.{List, None, Ok, Option, Some, [], ap, inl, inr, is_some, option_map, refl, subst, sym}
use Rattle.std.proofs.Common.{true, ℕ, ◌++◌, ◌∙◌, ◌∷◌, ◌≡◌, ◌⊎◌}
use Rattle.rx_model.specs.declared.event.Event.{Event}
use Rattle.rx_model.specs.declared.event.Event.TheVariants as events
use Rattle.rx_model.specs.declared.names.CallName.{CallName}
use Rattle.rx_model.specs.declared.names.Host.{Host}
use Rattle.rx_model.specs.declared.wire.TheConstants.{RX_INVALID_OPERATION}
use Rattle.rx_model.specs.Body.{Body}
use Rattle.rx_model.specs.Body as bodies
use Rattle.rx_model.specs.Message.{Message}
use Rattle.rx_model.specs.Names.{Channel, connection_of}
use Rattle.rx_model.specs.Reading.{reading_of}
use Rattle.rx_rules.specs.After.{looks}
use Rattle.rx_rules.specs.Items.{poll_answer}
use Rattle.rx_rules.specs.Judging.{nonce_at}
use Rattle.rx_rules.specs.Life.{is_live}
use Rattle.rx_rules.specs.Looks.{CallRecord, ConnLooks, Looks, call_at, conn_at, is_call}
use Rattle.rx_rules.specs.Records.{silenced, unless_silent}
use Rattle.rx_rules.specs.Rules.{AllowedAt, Legal}
use Rattle.rx_rules.specs.Setup.{FitsSetup, Setup, named, nonce_of}
use Rattle.rx_rules.proofs.CallsLaws.{call_at-on_calls}
use Rattle.rx_history.specs.Givings.{GivesItem, GivesStray}
use Rattle.rx_history.specs.Sides.{GivesTo}
use Rattle.rx_law.specs.Worlds.{Gave}
use Rattle.rx_history.proofs.Given.GivenLaws.{silent-name}
use Rattle.rx_history.proofs.Given.GivingItems.{item_name}
use Rattle.rx_history.proofs.Given.Givings.{poll_gives}
use Rattle.rx_law.proofs.Joint.{gives-at, polled-is}
use Rattle.rx_plan.proofs.Givings.ItemsTell.{ChannelTells, IsPlain, next_tells}

-- the poll that gave it, and what stood then
pub record IsAsked (s : Setup) (h : List Event) (c : CallName) (asked : List ℕ) : Type 0 where
  pub later : List Event
  pub got : Option (Host × List ℕ)
  pub before : List Event
  pub is : h ≡ later ++ events.Polled got ∷ before
  pub there : is_some (call_at (looks s before) c) ≡ true
  pub conn : ConnLooks
  pub at : conn_at (looks s before) (connection_of c) ≡ Some conn
  pub asks : asked ≡ s.class.challenge c (nonce_of s.kind conn.order)

asked_later : (s : Setup) (e : Event) (h : List Event) (c : CallName) (asked : List ℕ) → IsAsked s h c asked
    → IsAsked s (e ∷ h) c asked
asked_later s e h c asked a =
    record {
      later = e ∷ a.later;
      got = a.got;
      before = a.before;
      is = ap (λ (es : List Event). e ∷ es) a.is;
      there = a.there;
      conn = a.conn;
      at = a.at;
      asks = a.asks;
    }

-- ---- the items of a node

module _ (s : Setup) (l : Looks) where
  abbrev Tells : CallName → Body → Type 0
  Tells c body =
      (asked : List ℕ) → body ≡ bodies.Challenge asked
      → (is_call (λ k. is_live k.life) (call_at l c) ≡ true)
      × (asked ≡ s.class.challenge c (nonce_at s (conn_at l (connection_of c))))

  plain : IsPlain Tells
  plain =
      record {
        busy = λ c asked is. absurd cc;
        ackall = λ c asked is. absurd cc;
        chunk = λ c payload asked is. absurd cc;
        ack = λ c a asked is. absurd cc;
      }

  same_asked : (a b : List ℕ) → bodies.Challenge a ≡ bodies.Challenge b → b ≡ a
  same_asked a b is = cc

  told : (ch : Channel) → ChannelTells Tells s l ch
  told ch =
      record {
        abort = λ code is asked same. absurd cc;
        response = λ bytes is asked same. absurd cc;
        challenge = λ lives asked same. (lives, same_asked _ asked same);
      }

-- a call that lives once the silent ones ended is there
unsilenced : (l : Looks) (c : CallName) → is_call (λ k. is_live k.life) (call_at (silenced l) c) ≡ true
    → is_some (call_at l c) ≡ true
unsilenced l c lives =
    of (call_at l c)
    (subst (λ (o : Option CallRecord). is_call (λ k. is_live k.life) o ≡ true)
    (call_at-on_calls c (unless_silent l.now) l (silent-name l.now)) lives)
  where
    of : (o : Option CallRecord) → is_call (λ k. is_live k.life) (option_map (unless_silent l.now) o) ≡ true
        → is_some o ≡ true
    of None lives = absurd cc
    of (Some k) lives = refl

-- ---- what a node gave

pub challenges_given : (s : Setup) (h : List Event) (to : Host) (bytes : List ℕ) (m : Message) (asked : List ℕ)
    → FitsSetup s → Legal s h → reading_of bytes ≡ Ok m → m.body ≡ bodies.Challenge asked → Gave to bytes h
    → IsAsked s h (named s to m) asked
challenges_given s [] to bytes m asked fits legal reads at gave = absurd gave
challenges_given s (e ∷ h) to bytes m asked fits legal reads at gave =
    by gave (λ before. challenges_given s h to bytes m asked fits legal.1 reads at before)
  where
    polled : (got : Option (Host × List ℕ)) → e ≡ events.Polled got → poll_answer s (looks s h) ≡ Some (to, bytes)
        → IsAsked s (e ∷ h) (named s to m) asked
    polled got event answer =
        (let g = poll_gives s h fits legal.1 to bytes answer in
        let same : g.message ≡ m = (let one : Ok g.message ≡ Ok m = sym g.read ∙ reads in cc) in
        of (subst (λ (n : Message). GivesStray (looks s h) to n ⊎ GivesItem s (looks s h) to n) same g.owed))
      where
        of : GivesStray (looks s h) to m ⊎ GivesItem s (looks s h) to m → IsAsked s (e ∷ h) (named s to m) asked
        of (inl g) =
            absurd (let never : bodies.Challenge asked ≡ bodies.Abort RX_INVALID_OPERATION =
            sym at ∙ ap (λ (n : Message). n.body) g.is in cc)
        of (inr g) =
            (let l : Looks = silenced (looks s h) in
            let t =
            next_tells (Tells s l) (plain s l) s l g.item (told s l) g.next asked
            (sym (ap (λ (n : Message). n.body) g.is) ∙ at) in
            subst (λ (c : CallName). IsAsked s (e ∷ h) c asked) (sym (item_name s h fits legal.1 to m g))
            (record {
              later = [];
              got = got;
              before = h;
              is = ap (λ (x : Event). x ∷ h) event;
              there = unsilenced (looks s h) g.item.name t.0;
              conn = g.conn;
              at = g.there;
              asks =
                  t.1
                  ∙ ap (λ (o : Option ConnLooks). s.class.challenge g.item.name (nonce_at s o)) g.there;
            }))

    by : GivesTo to bytes e ⊎ Gave to bytes h → (Gave to bytes h → IsAsked s h (named s to m) asked)
        → IsAsked s (e ∷ h) (named s to m) asked
    by (inl gives) earlier =
        (let g = gives-at to bytes e gives in
        let answer = polled-is s.kind s (looks s h) g.0
        (subst (λ (x : Event). AllowedAt s.kind s (looks s h) x) g.1 legal.0) in
        polled g.0 g.1 (sym answer ∙ g.2))
    by (inr gave) earlier = asked_later s e h (named s to m) asked (earlier gave)
