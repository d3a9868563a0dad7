-- Each RESPONSE that a node gives answers a CHALLENGE of its call that it took.
use Rattle.std.proofs.Common.{Bool, Err, List, None, Ok, Option, Result, Some, [], ap, false, inl, inr, refl}
use Rattle.std.proofs.Common.{subst, sym, true, ℕ, ℤ, ◌++◌, ◌∙◌, ◌∷◌, ◌≡◌, ◌⊎◌}
use Rattle.rx_model.specs.declared.answers.BadMsg.{BadMsg}
use Rattle.rx_model.specs.declared.answers.Took.{Took}
use Rattle.rx_model.specs.declared.answers.Took.TheVariants as tooks
use Rattle.rx_model.specs.declared.event.Event.{Event}
use Rattle.rx_model.specs.declared.event.Event.TheVariants as events
use Rattle.rx_model.specs.declared.names.CallName.{CallName}
use Rattle.rx_model.specs.declared.names.Host.{Host}
use Rattle.rx_model.specs.declared.wire.TheConstants.{RX_INVALID_OPERATION, RX_PROTOCOL_ERROR}
use Rattle.rx_model.specs.Body.{Body}
use Rattle.rx_model.specs.Body as bodies
use Rattle.rx_model.specs.Message.{Message}
use Rattle.rx_model.specs.Names.{Channel, Connection, channel_of, connection_of}
use Rattle.rx_model.specs.Reading.{reading_of}
use Rattle.rx_rules.specs.After.{after, enters, is_ok_end, looks, owing_abort, owing_ackall, owing_again, prepared}
use Rattle.rx_rules.specs.After.{served_code, told_code}
use Rattle.rx_rules.specs.Items.{poll_answer}
use Rattle.rx_rules.specs.Judging.{outer_row, took_of}
use Rattle.rx_rules.specs.Life.{Life}
use Rattle.rx_rules.specs.Looks.{ChannelLooks, ConnLooks, Looks, call_named, fresh_channel}
use Rattle.rx_rules.specs.Records.{silenced}
use Rattle.rx_rules.specs.Rules.{AllowedAt, Legal}
use Rattle.rx_rules.specs.Setup.{Client, FitsSetup, Kind, Server, Setup, named}
use Rattle.rx_rules.proofs.EveryLaws.{Every}
use Rattle.rx_history.specs.Givings.{GivesItem, GivesStray}
use Rattle.rx_history.specs.Sides.{GivesTo}
use Rattle.rx_law.specs.Worlds.{Gave}
use Rattle.rx_history.proofs.Data.{OwnName}
use Rattle.rx_history.proofs.Given.GivingItems.{item_name}
use Rattle.rx_history.proofs.Given.Givings.{next_is, poll_gives}
use Rattle.rx_law.proofs.Joint.{gives-at, polled-is}
use Rattle.rx_plan.proofs.Aborts.AbortCauses.{named_row, ready_here, taken_is}
use Rattle.rx_plan.proofs.ChannelsHold.{Channels, IsOwnLatest, channel_changed, channel_here, channels_changed}
use Rattle.rx_plan.proofs.ChannelsHold.{fresh_channels, latest_changed}
use Rattle.rx_plan.proofs.ConnsHold.{Bears, Lasts, MayLink, MayTake, MayTakeFrom, MayTell, hold_after}
use Rattle.rx_plan.proofs.Givings.ItemsTell.{ChannelTells, IsPlain, next_tells}
use Rattle.rx_plan.proofs.RowsAsked.{asked_number}

-- a CHALLENGE of the call came that has this answer
pub record HasAnswered (s : Setup) (h : List Event) (d : CallName) (text : List ℕ) : Type 0 where
  pub later : List Event
  pub from : Host
  pub bytes : List ℕ
  pub got : Took
  pub before : List Event
  pub is : h ≡ later ++ events.Taken from bytes got ∷ before
  pub message : Message
  pub asked : List ℕ
  pub reads : reading_of bytes ≡ Ok message
  pub front : outer_row s s.kind (looks s before) from message ≡ None
  pub name : named s from message ≡ d
  pub body : message.body ≡ bodies.Challenge asked
  pub answers : s.class.respond d asked ≡ Some text

answered_later : (s : Setup) (e : Event) (h : List Event) (d : CallName) (text : List ℕ) → HasAnswered s h d text
    → HasAnswered s (e ∷ h) d text
answered_later s e h d text a =
    record {
      later = e ∷ a.later;
      from = a.from;
      bytes = a.bytes;
      got = a.got;
      before = a.before;
      is = ap (λ (es : List Event). e ∷ es) a.is;
      message = a.message;
      asked = a.asked;
      reads = a.reads;
      front = a.front;
      name = a.name;
      body = a.body;
      answers = a.answers;
    }

module _ (K : CallName → List ℕ → Type 0) where
  -- the RESPONSE that the channel owes is one of its latest call
  abbrev OwesAnswer : Connection → ℕ → ℕ → ChannelLooks → Type 0
  OwesAnswer x order n q =
      (text : List ℕ) → q.owed_response ≡ Some text → K (call_named (record { connection = x; chan = n }) q.number) text

  abbrev ConnAnswers : ConnLooks → Type 0
  ConnAnswers r = Channels OwesAnswer r

  lasts : (s : Setup) → Lasts s ConnAnswers
  lasts s =
      record {
        used = λ r now owes. owes;
        given = λ r given now owes. owes;
        proved = λ r owes. owes;
        cleared = λ r n f clears owes.
            channels_changed OwesAnswer n f r
            (λ q owed text is.
            subst (λ (k : ℕ). K (call_named (record { connection = r.connection; chan = n }) k) text)
            (sym (clears.number q)) (owed text (clears.response q text is))) owes;
        entered = λ x service l server.
            fresh_channels OwesAnswer x x.host service 1 l (λ order n text is. absurd cc);
      }

  keeps_ackall : (owes : Bool) (x : Connection) (order n : ℕ) (q : ChannelLooks) → OwesAnswer x order n q
      → OwesAnswer x order n (owing_ackall owes q)
  keeps_ackall true x order n q owed = owed
  keeps_ackall false x order n q owed = owed

  keeps_abort : (o : Option ℤ) (x : Connection) (order n : ℕ) (q : ChannelLooks) → OwesAnswer x order n q
      → OwesAnswer x order n (owing_abort o q)
  keeps_abort None x order n q owed = owed
  keeps_abort (Some code) x order n q owed = owed

  keeps_again : (body : Body) (life : Life) (x : Connection) (order n : ℕ) (q : ChannelLooks) → OwesAnswer x order n q
      → OwesAnswer x order n (owing_again body life q)
  keeps_again (bodies.Chunk payload) life x order n q owed =
      keeps_ackall (is_ok_end life) x order n (owing_abort (told_code life) q)
      (keeps_abort (told_code life) x order n q owed)
  keeps_again (bodies.Ack a) life x order n q owed = keeps_abort (served_code life) x order n q owed
  keeps_again _ life x order n q owed = owed

  -- why a message makes a channel owe a RESPONSE
  abbrev MayAnswer : Setup → Took → CallName → Body → Looks → Type 0
  MayAnswer s tooks.Heard d (bodies.Challenge asked) l =
      IsOwnLatest l d × ((text : List ℕ) → s.class.respond d asked ≡ Some text → K d text)
  MayAnswer s _ d body l = Unit {0}

  -- the same of a datagram
  abbrev MayAnswerFor : Setup → Looks → Host → Result Message BadMsg → Took → Type 0
  MayAnswerFor s l from (Err bad) got = Unit {0}
  MayAnswerFor s l from (Ok m) got =
      outer_row s s.kind l from m ≡ None
      → MayAnswer s got (named s from m) m.body (prepared s got (connection_of (named s from m)) l)

  -- of an event
  abbrev MayAnswerBy : Setup → Looks → Event → Type 0
  MayAnswerBy s l (events.Taken from bytes got) = MayAnswerFor s l from (reading_of bytes) got
  MayAnswerBy s l _ = Unit {0}

  module _ (s : Setup) where
    bears_start : (d : CallName) (l : Looks) → Bears s ConnAnswers (channel_of d) (λ q. fresh_channel d.number) l
    bears_start d l =
        channel_changed OwesAnswer (channel_of d) (λ q. fresh_channel d.number) l (λ order q owes text is. absurd cc)

    bears_abort : (d : CallName) (code : ℤ) (l : Looks)
        → Bears s ConnAnswers (channel_of d) (owing_abort (Some code)) l
    bears_abort d code l =
        channel_changed OwesAnswer (channel_of d) (owing_abort (Some code)) l (λ order q owes. owes)

    take_answers : (got : Took) (d : CallName) (body : Body) (l : Looks) → MayAnswer s got d body l
        → MayTake s ConnAnswers got d body l
    take_answers tooks.Kept d body l may = λ above. bears_start d l
    take_answers tooks.NoSlot d body l may = λ above. bears_start d l
    take_answers tooks.Heard d (bodies.Challenge asked) l may =
        latest_changed OwesAnswer d (λ q. record q { owed_response = s.class.respond d asked }) l may.0
        (λ order q number owes text is.
        subst (λ (n : ℕ). K (call_named (channel_of d) n) text) (sym number) (may.1 text is))
    take_answers tooks.Stopped d (bodies.Response bytes) l may = bears_abort d RX_PROTOCOL_ERROR l
    take_answers tooks.Over d body l may = λ k there.
        channel_changed OwesAnswer (channel_of d) (owing_again body k.life) l
        (λ order q owes. keeps_again body k.life (connection_of d) order d.chan q owes)
    take_answers _ d body l may = tt

    taken_answers : (from : Host) (reading : Result Message BadMsg) (got : Took) (l : Looks)
        → MayAnswerFor s l from reading got → MayTakeFrom s ConnAnswers l from reading got
    taken_answers from (Err bad) got l may = tt
    taken_answers from (Ok m) got l may = λ front.
        take_answers got (named s from m) m.body (prepared s got (connection_of (named s from m)) l) (may front)

    linked_answers : (kind : Kind) (to : Host) (service first cid : ℕ) (l : Looks)
        → MayLink s ConnAnswers kind to service first cid l
    linked_answers (Client host epoch) to service first cid l =
        fresh_channels OwesAnswer (record { host = host; epoch = epoch; cid = cid }) to service first l
        (λ order n text is. absurd cc)
    linked_answers (Server service nonces) to other first cid l = tt

    event_answers : (l : Looks) (e : Event) → MayAnswerBy s l e → MayTell s ConnAnswers l e
    event_answers l (events.Linked to service first (Ok cid)) may = linked_answers s.kind to service first cid l
    event_answers l (events.Called cid (Ok d)) may = bears_start d l
    event_answers l (events.Finished d code (Ok done)) may = λ some. bears_abort d code l
    event_answers l (events.Cancelled d code (Ok done)) may = bears_abort d code l
    event_answers l (events.Taken from bytes got) may = taken_answers from (reading_of bytes) got l may
    event_answers l _ may = tt

    answers_after : (l : Looks) (e : Event) → MayAnswerBy s l e → Every ConnAnswers l.conns
        → Every ConnAnswers (after s e l).conns
    answers_after l e may all = hold_after s ConnAnswers (lasts s) l e (event_answers l e may) all

  -- ---- the items of a node

  -- a RESPONSE is one of the name that it has
  abbrev Tells : CallName → Body → Type 0
  Tells c body = (text : List ℕ) → body ≡ bodies.Response text → K c text

  plain : IsPlain Tells
  plain =
      record {
        busy = λ c text is. absurd cc;
        ackall = λ c text is. absurd cc;
        chunk = λ c payload text is. absurd cc;
        ack = λ c a text is. absurd cc;
      }

  told : (s : Setup) (l : Looks) (ch : Channel) → Every ConnAnswers l.conns → ChannelTells Tells s l ch
  told s l ch all =
      record {
        abort = λ code is text same. absurd cc;
        response = λ bytes is text same.
            (channel_here OwesAnswer l ch (λ order other none. absurd cc) all).1 text
            (is ∙ (let one : bytes ≡ text = cc in ap (λ (b : List ℕ). Some b) one));
        challenge = λ lives text same. absurd cc;
      }

-- ---- a history

module _ (s : Setup) (h : List Event) (from : Host) (bytes : List ℕ) (got : Took) where
  asked_by : (m : Message) → got ≡ took_of s (looks s h) from bytes → reading_of bytes ≡ Ok m
      → outer_row s s.kind (looks s h) from m ≡ None → Legal s h → (g : Took) (body : Body) → got ≡ g → m.body ≡ body
      → MayAnswer (HasAnswered s (events.Taken from bytes got ∷ h)) s g (named s from m) body
      (prepared s got (connection_of (named s from m)) (looks s h))
  asked_by m is reads front legal tooks.Heard (bodies.Challenge asked) same at = (
    ready_here s h from bytes got m is reads front legal (ap enters same)
        (asked_number s (looks s h) (named s from m) m asked refl at
        (named_row s (looks s h) from bytes got m is reads front ∙ same)),
    λ text answers.
        record {
          later = [];
          from = from;
          bytes = bytes;
          got = got;
          before = h;
          is = refl;
          message = m;
          asked = asked;
          reads = reads;
          front = front;
          name = refl;
          body = at;
          answers = answers;
        },
  )
  asked_by m is reads front legal _ body same at = tt

  taken_by : (reading : Result Message BadMsg) → got ≡ took_of s (looks s h) from bytes → reading_of bytes ≡ reading
      → Legal s h → MayAnswerFor (HasAnswered s (events.Taken from bytes got ∷ h)) s (looks s h) from reading got
  taken_by (Err bad) is reads legal = tt
  taken_by (Ok m) is reads legal = λ front.
      asked_by m is reads front legal got m.body refl refl

event_by : (s : Setup) (h : List Event) (e : Event) → AllowedAt s.kind s (looks s h) e → Legal s h
    → MayAnswerBy (HasAnswered s (e ∷ h)) s (looks s h) e
event_by s h (events.Taken from bytes got) allowed legal =
    taken_by s h from bytes got (reading_of bytes) (taken_is s.kind s (looks s h) from bytes got allowed) refl legal
event_by s h (events.Linked to service first got) allowed legal = tt
event_by s h (events.Called cid got) allowed legal = tt
event_by s h (events.Wrote d offered got bytes) allowed legal = tt
event_by s h (events.Shut d got) allowed legal = tt
event_by s h (events.HasRead d max got bytes) allowed legal = tt
event_by s h (events.Ended d got) allowed legal = tt
event_by s h (events.Cancelled d code got) allowed legal = tt
event_by s h (events.Accepted got) allowed legal = tt
event_by s h (events.Finished d code got) allowed legal = tt
event_by s h (events.Polled got) allowed legal = tt
event_by s h (events.Clocked now) allowed legal = tt

-- what the channels of a node owe answers CHALLENGEs that it took
answers_history : (s : Setup) (h : List Event) → Legal s h → Every (ConnAnswers (HasAnswered s h)) (looks s h).conns
answers_history s [] legal = tt
answers_history s (e ∷ h) legal =
    answers_after (HasAnswered s (e ∷ h)) s (looks s h) e (event_by s h e legal.0 legal.1)
    (weaker (looks s h).conns (answers_history s h legal.1))
  where
    weaker : (rs : List ConnLooks) → Every (ConnAnswers (HasAnswered s h)) rs
        → Every (ConnAnswers (HasAnswered s (e ∷ h))) rs
    weaker [] all = tt
    weaker (r ∷ rs) all =
        ((λ n q there text owes. answered_later s e h _ text (all.0 n q there text owes)), weaker rs all.1)

-- ---- what a node gave

-- a RESPONSE has its node's name, and answers a CHALLENGE
pub record IsAnswer (s : Setup) (h : List Event) (to : Host) (m : Message) (text : List ℕ) : Type 0 where
  pub own : OwnName s.kind (named s to m)
  pub has : HasAnswered s h (named s to m) text

pub answers_given : (s : Setup) (h : List Event) (to : Host) (bytes : List ℕ) (m : Message) (text : List ℕ)
    → FitsSetup s → Legal s h → reading_of bytes ≡ Ok m → m.body ≡ bodies.Response text → Gave to bytes h
    → IsAnswer s h to m text
answers_given s [] to bytes m text fits legal reads at gave = absurd gave
answers_given s (e ∷ h) to bytes m text fits legal reads at gave =
    more (by gave (λ before. answers_given s h to bytes m text fits legal.1 reads at before))
  where
    more : IsAnswer s h to m text → IsAnswer s (e ∷ h) to m text
    more a = record { own = a.own; has = answered_later s e h (named s to m) text a.has }

    polled : (got : Option (Host × List ℕ)) → poll_answer s (looks s h) ≡ Some (to, bytes) → IsAnswer s h to m text
    polled got answer =
        (let g = poll_gives s h fits legal.1 to bytes answer in
        let same : g.message ≡ m = (let one : Ok g.message ≡ Ok m = sym g.read ∙ reads in cc) in
        of (subst (λ (n : Message). GivesStray (looks s h) to n ⊎ GivesItem s (looks s h) to n) same g.owed))
      where
        of : GivesStray (looks s h) to m ⊎ GivesItem s (looks s h) to m → IsAnswer s h to m text
        of (inl g) =
            absurd (let never : bodies.Response text ≡ bodies.Abort RX_INVALID_OPERATION =
            sym at ∙ ap (λ (n : Message). n.body) g.is in cc)
        of (inr g) =
            record {
              own =
                  subst (OwnName s.kind) (sym (item_name s h fits legal.1 to m g))
                  (next_is s h fits legal.1 g.item g.next).name.own;
              has =
                  subst (λ (c : CallName). HasAnswered s h c text) (sym (item_name s h fits legal.1 to m g))
                  (next_tells (Tells (HasAnswered s h)) (plain (HasAnswered s h)) s (silenced (looks s h)) g.item
                  (λ ch. told (HasAnswered s h) s (silenced (looks s h)) ch (answers_history s h legal.1)) g.next text
                  (sym (ap (λ (n : Message). n.body) g.is) ∙ at));
            }

    by : GivesTo to bytes e ⊎ Gave to bytes h → (Gave to bytes h → IsAnswer s h to m text) → IsAnswer s h to m text
    by (inl gives) earlier =
        (let g = gives-at to bytes e gives in
        let answer = polled-is s.kind s (looks s h) g.0
        (subst (λ (x : Event). AllowedAt s.kind s (looks s h) x) g.1 legal.0) in
        polled g.0 (sym answer ∙ g.2))
    by (inr gave) earlier = earlier gave
