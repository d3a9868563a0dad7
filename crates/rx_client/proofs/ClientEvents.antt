-- The events of a client, by what its node did.
use Rattle.std.proofs.Common.{◌≡◌, ◌==◌, ◌<◌, ◌≤◌, ◌^◌, ℕ, ℤ, if◌then◌else◌, min, Bool, true, false, List}
use Rattle.std.proofs.Common.{[], ◌∷◌, length, take}
use Rattle.std.proofs.Common.{Option, Some, None, Result, Ok, Err, refl, ◌∙◌, ap, sym, subst, arith}
use Rattle.std.proofs.lemmas.List.{length-take}
use Rattle.rx_model.specs.declared.answers.Asked.{Asked}
use Rattle.rx_model.specs.declared.answers.Asked.TheVariants as askeds
use Rattle.rx_model.specs.declared.answers.CallRead.{CallRead}
use Rattle.rx_model.specs.declared.answers.CallRead.TheVariants as callreads
use Rattle.rx_model.specs.declared.answers.BadMsg.{BadMsg}
use Rattle.rx_model.specs.declared.answers.Took.{Took}
use Rattle.rx_model.specs.declared.answers.End.{End}
use Rattle.rx_model.specs.declared.answers.End.TheVariants as ends
use Rattle.rx_model.specs.declared.answers.ReadAns.{ReadAns}
use Rattle.rx_model.specs.declared.answers.ReadAns.TheVariants as answers
use Rattle.rx_model.specs.declared.answers.ReadGot.TheVariants as readers
use Rattle.rx_model.specs.declared.answers.WroteGot.TheVariants as writers
use Rattle.rx_model.specs.declared.event.Event.{Event}
use Rattle.rx_model.specs.declared.event.Event.TheVariants as events
use Rattle.rx_model.specs.declared.names.CallName.{CallName}
use Rattle.rx_model.specs.declared.names.Host.{Host}
use Rattle.rx_model.specs.Message.{IsBytes, Message}
use Rattle.rx_model.specs.Reading.{reading_of}
use Rattle.rx_model.specs.Names.{Channel, channel_of}
use Rattle.rx_model.specs.Spelling.{IsCode}
use Rattle.rx_rules.specs.After.{after, is_ok_end, is_zero, looks, taken_message, owing_abort, read_done}
use Rattle.rx_rules.specs.CallLooks.{after_shut, after_write}
use Rattle.rx_rules.specs.Classes.{Class}
use Rattle.rx_rules.specs.Life.{after_cancel, is_live}
use Rattle.rx_rules.specs.Life as lives
use Rattle.rx_rules.specs.Looks.{CallRecord, Looks, call_at, channel_at, is_call, latest, latest_name, on_channel}
use Rattle.rx_rules.specs.Looks.{on_life, on_looks}
use Rattle.rx_rules.specs.Judging.{took_reading}
use Rattle.rx_rules.specs.Received.{read_of}
use Rattle.rx_rules.specs.Rules.{Allowed, AllowedAt, AllowedClient, can_say, client_read_got}
use Rattle.rx_rules.specs.Rules.{own_call}
use Rattle.rx_rules.specs.Rules as rules
use Rattle.rx_rules.specs.Setup.{FitsSetup, Kind, Setup, Client, is_client}
use Rattle.rx_rules.specs.Slots.{room}
use Rattle.rx_history.proofs.ClientHistory.{client-calls}
use Rattle.rx_history.proofs.Room.RoomStarts.{RoomyAt}
use Rattle.rx_history.proofs.Turns.{Fine}
use Rattle.rx_history.proofs.Suffice.{roomy_history}
use Rattle.rx_recvwin.specs.Window.{given_count, tells_end}
use Rattle.rx_node.specs.declared.life.Turn.TheVariants as turns
use Rattle.rx_node.specs.Lives.{after_turn}
use Rattle.rx_node.specs.Mirrors.{IsChannel, Mirrors, StepsAt, StepsNode}
use Rattle.rx_node.specs.Node.{NodeState, setup_of}
use Rattle.rx_node.specs.Steps.{AnswersNode, StandsNode}
use Rattle.rx_node.proofs.Arguments.{take_bytes}
use Rattle.rx_node.proofs.IdleEvents.{read_nothing, write_nothing}
use Rattle.rx_client.specs.Calling.{HasEnded, IsCallingAt}
use Rattle.rx_client.specs.Client.{read_count, read_ended}
use Rattle.rx_client.specs.Taking.{TakesMessage}
use Rattle.rx_client.proofs.Answering.{allowed_client, answers_by}
use Rattle.rx_client.proofs.ReadCalls.{ended_as, read_again, read_calling, read_gone, read_ok, read_unknown}
use Rattle.rx_client.proofs.SaidCalls.{accepted_write, calling_latest, calling_lives, calling_own, not_done}
use Rattle.rx_client.proofs.SaidCalls.{refused_write, unshut_says, was_done}
use Rattle.rx_history.proofs.Events.{take_none}
use Rattle.rx_history.proofs.Fit.FitCall.{none-said}

-- ---- bytes

-- ---- how many bytes were read

pub count_is : (got : CallRead) → read_count (client_read_got got) ≡ given_count got
count_is (callreads.Got n) = refl
count_is callreads.End = refl
count_is callreads.NotYet = refl

-- ---- a call that is its channel's latest

pub own-there : (l : Looks) (c : CallName) (k : CallRecord) → own_call l c ≡ Some k → call_at l c ≡ Some k
own-there l c k is = of ((channel_at l (channel_of c)).number == c.number) is
  where
    of : (b : Bool) → (if b then call_at l c else None) ≡ Some k → call_at l c ≡ Some k
    of true is = is
    of false is = absurd (cc (is))

-- one that ended well was read to its end
fine-read : (o : Option CallRecord) (k : CallRecord) → o ≡ Some k → k.life ≡ lives.Ended ends.Ok → Fine o
    → k.looks.received.ended ≡ true
fine-read None k there life fine = absurd (cc (there))
fine-read (Some j) k there life fine =
    (let one : j ≡ k = cc (there) in
    subst (λ (q : CallRecord). q.looks.received.ended ≡ true) one
    (fine (ap is_ok_end (ap (λ (q : CallRecord). q.life) one ∙ life))))

module _ (class : List ℕ → Class) (old : NodeState) (host : Host) (epoch : ℕ)
    (kind : old.kind ≡ Client host epoch) where
  abbrev its : Setup
  its = setup_of class old

  client : is_client its.kind ≡ true
  client = ap is_client kind

  -- ---- nothing changes

  pub unchanged : (e : Event)
      → ((h : List Event) → StandsNode class old h → AllowedClient its host epoch (looks its h) e)
      → ((h : List Event) → StandsNode class old h → after its e (looks its h) ≡ looks its h)
      → AnswersNode class old old e
  unchanged e allows same =
      answers_by class old old e refl (λ h st. allowed_client class old host epoch (looks its h) e kind (allows h st))
      (λ h st legal. subst (λ (l : Looks). Mirrors class old l) (sym (same h st)) st.mirrors)

  pub wrote_none : (c : CallName) (xs : List ℕ)
      → ((l : Looks) → Mirrors class old l → is_call can_say (own_call l c) ≡ false)
      → AnswersNode class old old (events.Wrote c (length xs) (writers.Client (Err (record {}))) (take 0 xs))
  wrote_none c xs mute =
      unchanged (events.Wrote c (length xs) (writers.Client (Err (record {}))) (take 0 xs))
      (λ h st. (
        refused_write its (looks its h) (own_call (looks its h) c) (length xs) (mute (looks its h) st.mirrors),
        subst IsBytes (take_none xs) none-said,
        sym (take_none xs),
      ))
      (λ h st. ap (λ (ys : List ℕ). on_looks c (after_write ys) (looks its h)) (sym (take_none xs))
      ∙ write_nothing c (looks its h))

  pub shut_none : (c : CallName) → ((l : Looks) → Mirrors class old l → is_call can_say (own_call l c) ≡ false)
      → AnswersNode class old old (events.Shut c (Err (record {})))
  shut_none c mute =
      unchanged (events.Shut c (Err (record {})))
      (λ h st. not_done (is_call can_say (own_call (looks its h) c)) (mute (looks its h) st.mirrors)) (λ h st. refl)

  -- ---- a call is said on

  module _ (new : NodeState) (same : setup_of class new ≡ setup_of class old) (c : CallName) (key : ℕ)
      (calls : (l : Looks) → Mirrors class old l → IsCallingAt l key c) where
    pub wrote_some : (xs : List ℕ) (got : ℕ) → IsBytes xs → got ≤ length xs
        → ((l : Looks) (m : Mirrors class old l) → (calls l m).call.looks.sent.shut ≡ false)
        → ((l : Looks) (ch : Channel) (k : CallRecord) → Mirrors class old l → IsChannel l key ch → latest l ch ≡ Some k
        → got ≡ min (length xs) (room its l k.looks))
        → StepsAt class old new key (λ ch l. on_looks (latest_name l ch) (after_write (take got xs)) l)
        → AnswersNode class old new (events.Wrote c (length xs) (writers.Client (Ok got)) (take got xs))
    wrote_some xs got bytes within unshut answered steps =
        answers_by class old new e same
        (λ h st. allowed_client class old host epoch (looks its h) e kind (allows (looks its h) st.mirrors))
        (λ h st legal. after-it (looks its h) st.mirrors)
      where
        e : Event
        e = events.Wrote c (length xs) (writers.Client (Ok got)) (take got xs)

        size : length (take got xs) ≡ got
        size = (let is = length-take got xs in omega (arith, is))

        allows : (l : Looks) → Mirrors class old l → AllowedClient its host epoch l
            (events.Wrote c (length xs) (writers.Client (Ok got)) (take got xs))
        allows l m =
            let a = calls l m in (
              ap Ok (answered l (channel_of c) a.call m a.channel (calling_latest l key c a))
                  ∙ accepted_write its l key c (length xs) a (unshut l m),
              take_bytes got xs bytes,
              size,
            )

        after-it : (l : Looks) → Mirrors class old l → Mirrors class new (on_looks c (after_write (take got xs)) l)
        after-it l m =
            let a = calls l m in
            subst (λ (d : CallName). Mirrors class new (on_looks d (after_write (take got xs)) l)) a.latest
            (steps l (channel_of c) m a.channel)

    pub shut_some : ((l : Looks) (m : Mirrors class old l) → (calls l m).call.looks.sent.shut ≡ false)
        → ((l : Looks) (ch : Channel) → Mirrors class old l → IsChannel l key ch
        → RoomyAt its (on_looks (latest_name l ch) after_shut l)
        → Mirrors class new (on_looks (latest_name l ch) after_shut l))
        → AnswersNode class old new (events.Shut c (Ok tt))
    shut_some unshut steps =
        answers_by class old new (events.Shut c (Ok tt)) same
        (λ h st. allowed_client class old host epoch (looks its h) (events.Shut c (Ok tt)) kind
        (was_done (is_call can_say (own_call (looks its h) c))
        (unshut_says (looks its h) key c (calls (looks its h) st.mirrors) (unshut (looks its h) st.mirrors))))
        (λ h st legal. after-it (looks its h) st.mirrors (roomy_history its (events.Shut c (Ok tt) ∷ h) legal))
      where
        after-it : (l : Looks) → Mirrors class old l → RoomyAt its (on_looks c after_shut l)
            → Mirrors class new (on_looks c after_shut l)
        after-it l m roomy =
            let a = calls l m in
            subst (λ (d : CallName). Mirrors class new (on_looks d after_shut l)) a.latest
            (steps l (channel_of c) m a.channel
            (subst (λ (d : CallName). RoomyAt its (on_looks d after_shut l)) (sym a.latest) roomy))

    -- ---- it is given up

    pub cancelled_some : (mid : NodeState) (code its_code told : ℤ) → its_code ≡ code → told ≡ code → IsCode code
        → is_zero code ≡ false
        → StepsAt class old mid key (λ ch l. on_life (latest_name l ch) (after_turn (turns.Cancel its_code)) l)
        → StepsAt class mid new key (λ ch. on_channel ch (owing_abort (Some told)))
        → AnswersNode class old new (events.Cancelled c code (Ok tt))
    cancelled_some mid code its_code told one two fits other turned owes =
        answers_by class old new (events.Cancelled c code (Ok tt)) same
        (λ h st. allowed_client class old host epoch (looks its h) (events.Cancelled c code (Ok tt)) kind (
          fits,
          other,
          was_done (is_call (λ k. is_live k.life) (own_call (looks its h) c))
              (calling_lives (looks its h) key c (calls (looks its h) st.mirrors)),
        ))
        (λ h st legal. after-it (looks its h) st.mirrors)
      where
        after-it : (l : Looks) → Mirrors class old l
            → Mirrors class new (on_channel (channel_of c) (owing_abort (Some code)) (on_life c (after_cancel code) l))
        after-it l m =
            let a = calls l m in
            subst (λ (z : ℤ). Mirrors class new
            (on_channel (channel_of c) (owing_abort (Some z)) (on_life c (after_cancel code) l)))
            two
            (owes (on_life c (after_cancel code) l) (channel_of c)
            (subst (λ (z : ℤ). Mirrors class mid (on_life c (after_cancel z) l)) one
            (subst (λ (d : CallName). Mirrors class mid (on_life d (after_cancel its_code) l)) a.latest
            (turned l (channel_of c) m a.channel)))
            (record { conn = a.channel.conn; there = a.channel.there; is = a.channel.is }))

    -- ---- it is read

    pub read_some : (max : ℕ) (got : CallRead) (bytes : List ℕ) → 0 < max
        → ((l : Looks) (ch : Channel) (k : CallRecord) → Mirrors class old l → IsChannel l key ch → latest l ch ≡ Some k
        → (got, bytes) ≡ read_of k.looks.received max)
        → StepsAt class old new key (λ ch l. read_done (latest_name l ch) (tells_end got) bytes l)
        → AnswersNode class old new (events.HasRead c max (readers.Client (client_read_got got)) bytes)
    read_some max got bytes some answered steps =
        answers_by class old new e same
        (λ h st. allowed_client class old host epoch (looks its h) e kind (some, gives (looks its h) st.mirrors))
        (λ h st legal. after-it got steps (looks its h) st.mirrors)
      where
        e : Event
        e = events.HasRead c max (readers.Client (client_read_got got)) bytes

        gives : (l : Looks) → Mirrors class old l → (client_read_got got, bytes) ≡ rules.client_read (own_call l c) max
        gives l m =
            let a = calls l m in
            read_calling a.call max got bytes a.life
            (answered l (channel_of c) a.call m a.channel (calling_latest l key c a))
            ∙ ap (λ (o : Option CallRecord). rules.client_read o max) (sym (calling_own l key c a))

        after-it : (got : CallRead) → StepsAt class old new key
            (λ ch l. read_done (latest_name l ch) (tells_end got) bytes l)
            → (l : Looks) → Mirrors class old l
            → Mirrors class new (after its (events.HasRead c max (readers.Client (client_read_got got)) bytes) l)
        after-it (callreads.Got n) steps l m = by l m (steps l (channel_of c) m (calls l m).channel)
          where
            by : (l : Looks) (m : Mirrors class old l)
                → Mirrors class new (read_done (latest_name l (channel_of c)) false bytes l)
                → Mirrors class new (read_done c false bytes l)
            by l m next = subst (λ (d : CallName). Mirrors class new (read_done d false bytes l))
                (calls l m).latest next
        after-it callreads.NotYet steps l m = by l m (steps l (channel_of c) m (calls l m).channel)
          where
            by : (l : Looks) (m : Mirrors class old l)
                → Mirrors class new (read_done (latest_name l (channel_of c)) false bytes l)
                → Mirrors class new (read_done c false bytes l)
            by l m next = subst (λ (d : CallName). Mirrors class new (read_done d false bytes l))
                (calls l m).latest next
        after-it callreads.End steps l m = by l m (steps l (channel_of c) m (calls l m).channel)
          where
            by : (l : Looks) (m : Mirrors class old l)
                → Mirrors class new (read_done (latest_name l (channel_of c)) true bytes l)
                → Mirrors class new (read_done c true bytes l)
            by l m next = subst (λ (d : CallName). Mirrors class new (read_done d true bytes l)) (calls l m).latest next

    -- with the answer that the client gives
    pub read_live : (max : ℕ) (got : CallRead) (result : ReadAns) (xs : List ℕ) → result ≡ client_read_got got → 0 < max
        → ((l : Looks) (ch : Channel) (k : CallRecord) → Mirrors class old l → IsChannel l key ch → latest l ch ≡ Some k
        → (got, take (given_count got) xs) ≡ read_of k.looks.received max)
        → StepsAt class old new key (λ ch l. read_done (latest_name l ch) (tells_end got) (take (given_count got) xs) l)
        → AnswersNode class old new (events.HasRead c max (readers.Client result) (take (read_count result) xs))
    read_live max got result xs is some answered steps =
        subst (λ (e : ReadAns). AnswersNode class old new
        (events.HasRead c max (readers.Client e) (take (read_count e) xs)))
        (sym is)
        (subst (λ (n : ℕ). AnswersNode class old new
        (events.HasRead c max (readers.Client (client_read_got got)) (take n xs)))
        (sym (count_is got)) (read_some max got (take (given_count got) xs) some answered steps))

  -- ---- a call that ended is read

  asked-of : (h : List Event) (c : CallName) (asked : Asked) → Allowed its (looks its h) (events.Ended c asked)
      → asked ≡ rules.end_answer (own_call (looks its h) c)
  asked-of h c asked allowed =
      subst (λ (k : Kind). AllowedAt k its (looks its h) (events.Ended c asked)) kind allowed

  module _ (c : CallName) (asked : Asked) (answers_end : AnswersNode class old old (events.Ended c asked)) (xs : List ℕ)
      (max : ℕ) (some : 0 < max) where
    its-asked : (h : List Event) → StandsNode class old h → asked ≡ rules.end_answer (own_call (looks its h) c)
    its-asked h st = asked-of h c asked (answers_end h st).0

    nothing-read : (e : ReadAns) → ◌≡◌ {A = ReadAns × List ℕ} (e, []) (e, take 0 xs)
    nothing-read e = ap (λ (ys : List ℕ). (e, ys)) (take_none xs)

    unread : (h : List Event) → read_done c false (take 0 xs) (looks its h) ≡ looks its h
    unread h =
        ap (λ (ys : List ℕ). read_done c false ys (looks its h)) (sym (take_none xs)) ∙ read_nothing c (looks its h)

    pub read_at_end : asked ≡ askeds.Ended ends.Ok → FitsSetup its
        → AnswersNode class old old (events.HasRead c max (readers.Client answers.End) (take 0 xs))
    read_at_end is fits =
        unchanged (events.HasRead c max (readers.Client answers.End) (take 0 xs))
        (λ h st. (
          some,
          sym (nothing-read answers.End) ∙ read_ok (own_call (looks its h) c) max
              (sym is ∙ its-asked h st),
        ))
        (λ h st. ap (λ (ys : List ℕ). read_done c true ys (looks its h)) (sym (take_none xs)) ∙ again h st)
      where
        again : (h : List Event) → StandsNode class old h → read_done c true [] (looks its h) ≡ looks its h
        again h st =
            let e = ended_as (own_call (looks its h) c) ends.Ok (sym is ∙ its-asked h st) in
            let there : call_at (looks its h) c ≡ Some e.call = own-there (looks its h) c e.call e.there in
            read_again (looks its h) c e.call (roomy_history its h st.legal).differ there e.life
            (fine-read (call_at (looks its h) c) e.call there e.life
            ((client-calls its host epoch h kind fits st.legal).fine c))

    pub read_after_end : (end : End) → (end ≡ ends.Ok → ⊥) → asked ≡ askeds.Ended end
        → AnswersNode class old old (events.HasRead c max (readers.Client (answers.Gone end)) (take 0 xs))
    read_after_end end other is =
        unchanged (events.HasRead c max (readers.Client (answers.Gone end)) (take 0 xs))
        (λ h st. (
          some,
          sym (nothing-read (answers.Gone end))
              ∙ read_gone (own_call (looks its h) c) end max other (sym is ∙ its-asked h st),
        ))
        (λ h st. unread h)

    pub read_of_none : ((end : End) → asked ≡ askeds.Ended end → ⊥)
        → ((l : Looks) → Mirrors class old l → HasEnded (own_call l c))
        → AnswersNode class old old (events.HasRead c max (readers.Client answers.Unknown) (take 0 xs))
    read_of_none other ended =
        unchanged (events.HasRead c max (readers.Client answers.Unknown) (take 0 xs))
        (λ h st. (
          some,
          sym (nothing-read answers.Unknown)
              ∙ read_unknown (own_call (looks its h) c) asked max (ended (looks its h) st.mirrors) other
              (its-asked h st),
        ))
        (λ h st. unread h)

    -- whatever its end
    pub read_dead : (end : End) (got : ReadAns) → got ≡ read_ended end → asked ≡ askeds.Ended end → FitsSetup its
        → AnswersNode class old old (events.HasRead c max (readers.Client got) (take (read_count got) xs))
    read_dead end got is ends_so fits =
        subst (λ (e : ReadAns). AnswersNode class old old
        (events.HasRead c max (readers.Client e) (take (read_count e) xs)))
        (sym is) (of end ends_so)
      where
        of : (end : End) → asked ≡ askeds.Ended end
            → AnswersNode class old old
            (events.HasRead c max (readers.Client (read_ended end)) (take (read_count (read_ended end)) xs))
        of ends.Ok so = read_at_end so fits
        of (ends.Abort code) so = read_after_end (ends.Abort code) (λ same. cc (same)) so
        of (ends.Dead silence) so = read_after_end (ends.Dead silence) (λ same. cc (same)) so
        of (ends.Cancelled code) so = read_after_end (ends.Cancelled code) (λ same. cc (same)) so

  -- ---- a datagram comes

  pub taken : (new : NodeState) → setup_of class new ≡ setup_of class old
      → (from : Host) (bytes : List ℕ) (msg : Message)
      (got : Took) → IsBytes bytes → Ok msg ≡ reading_of bytes
      → ((l : Looks) → Mirrors class old l → TakesMessage class old new l from msg got)
      → AnswersNode class old new (events.Taken from bytes got)
  taken new same from bytes msg got fits read takes =
      answers_by class old new (events.Taken from bytes got) same
      (λ h st. allowed_client class old host epoch (looks its h) (events.Taken from bytes got) kind (
        fits,
        (takes (looks its h) st.mirrors).answered ∙ ap (took_reading its (looks its h) from) read,
      ))
      (λ h st legal. subst
      (λ (r : Result Message BadMsg). Mirrors class new (taken_message its from r got (looks its h))) read
      (takes (looks its h) st.mirrors).mirrors)

  -- ---- the moment

  pub clocked : (new : NodeState) (now : ℕ) → new ≡ record old { moment = now } → old.moment ≤ now → now < 2 ^ 62
      → StepsNode class old new (λ l. record l { now = now }) → AnswersNode class old new (events.Clocked now)
  clocked new now is later low steps =
      answers_by class old new (events.Clocked now) (ap (setup_of class) is)
      (λ h st. allowed_client class old host epoch (looks its h) (events.Clocked now) kind (
        (let at = st.mirrors.now in omega arith),
        low,
      ))
      (λ h st legal. steps (looks its h) st.mirrors)
