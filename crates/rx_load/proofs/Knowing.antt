-- What a caller knows of its call, by the look-ups of its client, behind each event.
use Rattle.std.proofs.Common.{◌≡◌, if◌then◌else◌, nat_lt, ℕ, Bool, true, false, List, [], ◌∷◌, length}
use Rattle.std.proofs.Common.{Option, Some, None, Ok, Err, is_some, option_map, refl, ap, sym, subst, ◌∙◌}
use Rattle.std.proofs.lemmas.Bool.{eq-eqb}
use Rattle.rx_model.specs.declared.answers.CallRead.{CallRead}
use Rattle.rx_model.specs.declared.answers.CallRead.TheVariants as callreads
use Rattle.rx_model.specs.declared.answers.End.{End}
use Rattle.rx_model.specs.declared.answers.End.TheVariants as ends
use Rattle.rx_model.specs.declared.answers.ReadAns.{ReadAns}
use Rattle.rx_model.specs.declared.answers.ReadGot.TheVariants as readers
use Rattle.rx_model.specs.declared.answers.WroteGot.TheVariants as writers
use Rattle.rx_model.specs.declared.event.Event.{Event}
use Rattle.rx_model.specs.declared.event.Event.TheVariants as events
use Rattle.rx_model.specs.declared.names.CallName.{CallName}
use Rattle.rx_model.specs.declared.names.Host.{Host}
use Rattle.rx_model.specs.Names.{channel_of, connection_of}
use Rattle.rx_rules.specs.After.{after, is_end}
use Rattle.rx_rules.specs.CallLooks.{after_read, after_shut, after_write}
use Rattle.rx_rules.specs.Life.{Life, after_cancel, after_end}
use Rattle.rx_rules.specs.Life as lives
use Rattle.rx_rules.specs.Looks.{CallRecord, Looks, call_at, channel_at, conn_at}
use Rattle.rx_rules.specs.Received.{read_of}
use Rattle.rx_rules.specs.Rules.{AllowedClient, client_read_by, own_call}
use Rattle.rx_rules.specs.Setup.{Setup}
use Rattle.rx_rules.proofs.ConnsLaws.{channel_number, number_of}
use Rattle.rx_history.proofs.Dimensions.DimsLeave.{numbers_stay}
use Rattle.rx_asks.specs.declared.ask.Ask.{Ask}
use Rattle.rx_asks.specs.declared.ask.Ask.TheVariants as asks
use Rattle.rx_asks.specs.declared.ask.Phase.{Phase}
use Rattle.rx_asks.specs.declared.ask.Phase.TheVariants as phases
use Rattle.rx_asks.specs.declared.ask.TheConstants.{BLOCK_BYTES, CC_UNMARSHAL, REPLY_BYTES}
use Rattle.rx_asks.specs.Asks.{Asking, Cancels, IsAsked, Offers, Reads, Shuts, after_bytes, after_offer, asking, begun}
use Rattle.rx_asks.specs.Asks.{calling, end_after, heard, next_ask, next_at, phase_after, phase_offered}
use Rattle.rx_asks.specs.History.{IsCalled}
use Rattle.rx_asks.specs.View.{CallerState}
use Rattle.rx_asks.proofs.Asked.{AskedBy, asked_by, asks_unended}
use Rattle.rx_asks.proofs.CallerEvents.{asked_dims, cancel_is, own_change, own_read, read_is}
use Rattle.rx_asks.proofs.Kept.{GoesOn}
use Rattle.rx_plan.proofs.ClientEnds.{Onward}
use Rattle.rx_asks.proofs.Telling.{none-end}

-- its call is there; an end that it knows is the call's; and while it knows none, the call is its channel's latest
pub record Knows (l : Looks) (v : CallerState) : Type 0 where
  pub call : CallRecord
  pub there : call_at l v.call ≡ Some call
  pub called : IsCalled call.life
  pub ended : (end : End) → v.end ≡ Some end → call.life ≡ lives.Ended end
  pub latest : v.end ≡ None → number_of (conn_at l (connection_of v.call)) v.call.chan ≡ v.call.number

-- in its turn too: while it knows of no end, its call lives where its reply passed the limit, and where its turn rests
pub record KnowsTurn (l : Looks) (v : CallerState) : Type 0 where
  pub knows : Knows l v
  pub over : v.end ≡ None → nat_lt REPLY_BYTES (length v.reply) ≡ true → knows.call.life ≡ lives.Calling
  pub rests : v.end ≡ None → v.phase ≡ phases.Resting → knows.call.life ≡ lives.Calling

-- ---- between its turns

-- it is finished, or rests with a reply within the limit
pub record Idles (v : CallerState) : Type 0 where
  pub within : nat_lt REPLY_BYTES (length v.reply) ≡ false
  pub rests : v.phase ≡ phases.Resting

pub idle_rests : (v : CallerState) → (calling REPLY_BYTES).asks v ≡ None → v.end ≡ None → Idles v
idle_rests v idle open_ = of (is_some v.end) (nat_lt REPLY_BYTES (length v.reply)) refl refl
    (asked (next_ask REPLY_BYTES v) idle)
  where
    asked : (o : Option Ask) → option_map (asking v) o ≡ None → o ≡ None
    asked None is = refl
    asked (Some ask) is = absurd cc

    at : (phase : Phase) → next_at phase v ≡ None → phase ≡ phases.Resting
    at phases.Offering is = absurd cc
    at phases.Reading is = absurd cc
    at phases.Resting is = refl

    of : (a b : Bool) → is_some v.end ≡ a → nat_lt REPLY_BYTES (length v.reply) ≡ b
        → (if a then None else if b then Some asks.Cancel else next_at v.phase v) ≡ None → Idles v
    of true b is long none = absurd (let never : is_some v.end ≡ false = ap (λ (o : Option End). is_some o) open_ in cc)
    of false true is long none = absurd cc
    of false false is long none = record { within = long; rests = at v.phase none }

-- a turn begins
pub begins_turn : (l : Looks) (v : CallerState) → (calling REPLY_BYTES).asks v ≡ None → Knows l v
    → KnowsTurn l (begun v)
begins_turn l v idle k = record {
  knows = record { call = k.call; there = k.there; called = k.called; ended = k.ended; latest = k.latest };
  over = λ open_ long. absurd (let within = (idle_rests v idle open_).within in cc);
  rests = λ open_ at. absurd cc;
}

-- ---- events of others

-- where its call goes on and no channel has another number, it knows as much
pub knows_on : (l m : Looks) (v : CallerState) → Onward (call_at l v.call) (call_at m v.call)
    → number_of (conn_at m (connection_of v.call)) v.call.chan ≡ number_of (conn_at l (connection_of v.call))
    v.call.chan
    → Knows l v → Knows m v
knows_on l m v on same k = of (call_at m v.call) refl
    (subst (λ (o : Option CallRecord). Onward o (call_at m v.call)) k.there on)
  where
    of : (o : Option CallRecord) → call_at m v.call ≡ o → Onward (Some k.call) (call_at m v.call) → Knows m v
    of None is on = absurd (subst (Onward (Some k.call)) is on)
    of (Some r) is on =
        (let goes : GoesOn k.call.life r.life = subst (Onward (Some k.call)) is on in
        record {
          call = r;
          there = is;
          called = goes.called k.called;
          ended = λ end known. goes.ended end (k.ended end known);
          latest = λ open_. same ∙ k.latest open_;
        })

-- the same where its call stays as it is
pub knows_same : (l m : Looks) (v : CallerState) → call_at m v.call ≡ call_at l v.call
    → number_of (conn_at m (connection_of v.call)) v.call.chan ≡ number_of (conn_at l (connection_of v.call))
    v.call.chan
    → Knows l v → Knows m v
knows_same l m v stays same k = record {
  call = k.call;
  there = stays ∙ k.there;
  called = k.called;
  ended = k.ended;
  latest = λ open_. same ∙ k.latest open_;
}

-- ---- its own events

module _ (s : Setup) (host : Host) (epoch : ℕ) (l : Looks) (v : CallerState) (t : KnowsTurn l v) (open_ : v.end ≡ None)
  where
    abbrev c : CallName
    c = v.call

    abbrev r : CallRecord
    r = t.knows.call

    own : own_call l c ≡ Some r
    own =
        (let number : (channel_at l (channel_of c)).number ≡ c.number =
        channel_number l (channel_of c) ∙ t.knows.latest open_ in
        ap (λ (b : Bool). if b then call_at l c else None) (eq-eqb (channel_at l (channel_of c)).number c.number number)
        ∙ t.knows.there)

    -- the channel's number behind what it asks
    latest_on : (a : Asking) (e : Event) → IsAsked a e
        → number_of (conn_at (after s e l) (connection_of c)) c.chan ≡ c.number
    latest_on a e is =
        numbers_stay l (after s e l) (connection_of c) c.chan (asked_dims s a e l is) ∙ t.knows.latest open_

    -- behind an event that leaves the call's life
    leaves : (a : Asking) (e : Event) (q : CallRecord) (w : CallerState) → IsAsked a e
        → call_at (after s e l) c ≡ Some q
        → q.life ≡ r.life → w.call ≡ c → w.end ≡ None → w.reply ≡ v.reply
        → (w.phase ≡ phases.Resting → v.phase ≡ phases.Resting) → KnowsTurn (after s e l) w
    leaves a e q w is there life call unended reply phase =
        record {
          knows = record {
            call = q;
            there = subst (λ (d : CallName). call_at (after s e l) d ≡ Some q) (sym call) there;
            called = subst IsCalled (sym life) t.knows.called;
            ended = λ end known. absurd (let none = unended in cc);
            latest = λ none.
                subst (λ (d : CallName). number_of (conn_at (after s e l) (connection_of d)) d.chan ≡ d.number)
                (sym call)
                (latest_on a e is);
          };
          over = λ none long.
              life ∙ t.over open_ (subst (λ (xs : List ℕ). nat_lt REPLY_BYTES (length xs) ≡ true) reply long);
          rests = λ none at. life ∙ t.rests open_ (phase at);
        }

    -- an offer
    offered : (block : List ℕ) (e : Event) → IsAsked (Offers c block) e → KnowsTurn (after s e l) (heard v e)
    offered block (events.Wrote d size (writers.Client got) bytes) is =
        leaves (Offers c block) (events.Wrote d size (writers.Client got) bytes)
        (record r { looks = after_write bytes r.looks }) (after_offer size bytes v) is
        (subst (λ (n : CallName). call_at (after s (events.Wrote n size (writers.Client got) bytes) l) c
        ≡ Some (record r { looks = after_write bytes r.looks })) (sym is.0)
        (own_change c (λ k. record k { looks = after_write bytes k.looks }) l r (λ k. refl) t.knows.there))
        refl refl open_ refl (phase (nat_lt (length bytes) size))
      where
        phase : (b : Bool) → (if b then phases.Reading else v.phase) ≡ phases.Resting → v.phase ≡ phases.Resting
        phase true is = absurd cc
        phase false is = is
    offered block e is = elim is [ ]

    -- the end of its request
    shuts : (e : Event) → IsAsked (Shuts c) e → KnowsTurn (after s e l) (heard v e)
    shuts (events.Shut d (Ok done)) is =
        leaves (Shuts c) (events.Shut d (Ok done)) (record r { looks = after_shut r.looks }) (record v { shut = true })
        is
        (subst (λ (n : CallName). call_at (after s (events.Shut n (Ok done)) l) c
        ≡ Some (record r { looks = after_shut r.looks })) (sym is)
        (own_change c (λ k. record k { looks = after_shut k.looks }) l r (λ k. refl) t.knows.there))
        refl refl open_ refl (λ at. at)
    shuts (events.Shut d (Err closed)) is =
        leaves (Shuts c) (events.Shut d (Err closed)) r (record v { shut = true }) is t.knows.there refl refl open_ refl
        (λ at. at)
    shuts e is = elim is [ ]

    -- what a read tells
    record Reads_ (x : Life) (got : ReadAns) (bytes : List ℕ) : Type 0 where
      tells : (end : End) → end_after got v.end ≡ Some end → after_end (is_end (readers.Client got)) x ≡ lives.Ended end
      called : IsCalled (after_end (is_end (readers.Client got)) x)
      lives_on : end_after got v.end ≡ None → after_end (is_end (readers.Client got)) x ≡ lives.Calling

    tells_none : (end : End) → v.end ≡ Some end → ⊥
    tells_none end known = (let none = open_ in cc)

    read_calling : (got : CallRead × List ℕ)
        → Reads_ lives.Calling (client_read_by lives.Calling got).0 (client_read_by lives.Calling got).1
    read_calling (callreads.Got n, bytes) =
        record { tells = λ end known. absurd (tells_none end known); called = tt; lives_on = λ none. refl }
    read_calling (callreads.End, bytes) =
        record {
          tells = λ end known. ap (λ (e : End). lives.Ended e) (let same : ends.Ok ≡ end = cc in same);
          called =
              tt;
          lives_on = λ none. absurd cc;
        }
    read_calling (callreads.NotYet, bytes) =
        record { tells = λ end known. absurd (tells_none end known); called = tt; lives_on = λ none. refl }

    read_ended : (end : End) (got : CallRead × List ℕ)
        → Reads_ (lives.Ended end) (client_read_by (lives.Ended end) got).0 (client_read_by (lives.Ended end) got).1
    read_ended ends.Ok got =
        record {
          tells = λ end known. ap (λ (e : End). lives.Ended e) (let same : ends.Ok ≡ end = cc in same);
          called =
              tt;
          lives_on = λ none. absurd cc;
        }
    read_ended (ends.Abort code) got =
        record {
          tells = λ end known. ap (λ (e : End). lives.Ended e) (let same : ends.Abort code ≡ end = cc in same);
          called = tt;
          lives_on = λ none. absurd cc;
        }
    read_ended (ends.Dead silence) got =
        record {
          tells = λ end known. ap (λ (e : End). lives.Ended e) (let same : ends.Dead silence ≡ end = cc in same);
          called = tt;
          lives_on = λ none. absurd cc;
        }
    read_ended (ends.Cancelled code) got =
        record {
          tells = λ end known. ap (λ (e : End). lives.Ended e) (let same : ends.Cancelled code ≡ end = cc in same);
          called = tt;
          lives_on = λ none. absurd cc;
        }

    read_by : (x : Life) → IsCalled x → (got : CallRead × List ℕ)
        → Reads_ x (client_read_by x got).0 (client_read_by x got).1
    read_by lives.Calling called got = read_calling got
    read_by (lives.Ended end) called got = read_ended end got
    read_by lives.Waiting called got = absurd called
    read_by lives.Accepted called got = absurd called
    read_by lives.Finished called got = absurd called
    read_by (lives.Broken code) called got = absurd called
    read_by (lives.Over code) called got = absurd called

    reads : (max : ℕ) (e : Event) → IsAsked (Reads c max) e → AllowedClient s host epoch l e
        → KnowsTurn (after s e l) (heard v e)
    reads max e is allowed =
        subst (λ (f : Event). KnowsTurn (after s f l) (heard v f)) (sym same)
        (record {
          knows = record {
            call = record r { life = after_end end r.life; looks = after_read l.now end bytes r.looks };
            there = own_read c end bytes l r t.knows.there;
            called = told.called;
            ended = told.tells;
            latest = λ none. latest_on (Reads c max) f asked;
          };
          over = λ none long. told.lives_on none;
          rests = λ none at. told.lives_on none;
        })
      where
        got : ReadAns
        got = (client_read_by r.life (read_of r.looks.received max)).0

        bytes : List ℕ
        bytes = (client_read_by r.life (read_of r.looks.received max)).1

        end : Bool
        end = is_end (readers.Client got)

        f : Event
        f = events.HasRead c max (readers.Client got) bytes

        same : e ≡ f
        same = read_is s host epoch c l r own max e is allowed

        asked : IsAsked (Reads c max) f
        asked = subst (IsAsked (Reads c max)) same is

        told : Reads_ r.life got bytes
        told = read_by r.life t.knows.called (read_of r.looks.received max)

    -- it gives its call up, where its reply passed the limit
    gives_up : (e : Event) → nat_lt REPLY_BYTES (length v.reply) ≡ true → IsAsked (Cancels c CC_UNMARSHAL) e
        → AllowedClient s host epoch l e → KnowsTurn (after s e l) (heard v e)
    gives_up e long is allowed =
        subst (λ (f : Event). KnowsTurn (after s f l) (heard v f)) (sym same)
        (record {
          knows = record {
            call = record r { life = after_cancel CC_UNMARSHAL r.life };
            there = own_change c (λ k. record k { life = after_cancel CC_UNMARSHAL k.life }) l r (λ k. refl)
                t.knows.there;
            called = subst (λ (x : Life). IsCalled (after_cancel CC_UNMARSHAL x)) (sym lives_) tt;
            ended = λ end known. ap (after_cancel CC_UNMARSHAL) lives_
                ∙ ap (λ (e : End). lives.Ended e) (let same : ends.Cancelled CC_UNMARSHAL ≡ end = cc in same);
            latest = λ none. absurd cc;
          };
          over = λ none long. absurd cc;
          rests = λ none at. absurd cc;
        })
      where
        lives_ : r.life ≡ lives.Calling
        lives_ = t.over open_ long

        same : e ≡ events.Cancelled c CC_UNMARSHAL (Ok tt)
        same = cancel_is s host epoch c l r own CC_UNMARSHAL e (ap lives.is_live lives_) is allowed

-- it knows as much behind each event that it asks for
pub knows_own : (s : Setup) (host : Host) (epoch : ℕ) (l : Looks) (v : CallerState) (a : Asking) (e : Event)
    → (calling REPLY_BYTES).asks v ≡ Some a → IsAsked a e → AllowedClient s host epoch l e → KnowsTurn l v
    → KnowsTurn (after s e l) (heard v e)
knows_own s host epoch l v a e asked is allowed t = by b.ask refl (subst (λ (x : Asking). IsAsked x e) (sym b.is) is)
  where
    b : AskedBy REPLY_BYTES v a
    b = asked_by REPLY_BYTES v a asked

    open_ : v.end ≡ None
    open_ = none-end v.end (asks_unended REPLY_BYTES v a asked)

    long_of : (p q : Bool) → is_some v.end ≡ p → nat_lt REPLY_BYTES (length v.reply) ≡ q
        → (if p then None else if q then Some asks.Cancel else next_at v.phase v) ≡ Some asks.Cancel
        → nat_lt REPLY_BYTES (length v.reply) ≡ true
    long_of true q end long is = absurd cc
    long_of false true end long is = long
    long_of false false end long is = absurd (never v.phase is)
      where
        never : (phase : Phase) → next_at phase v ≡ Some asks.Cancel → ⊥
        never phases.Offering is = by_offer v.shut v.offering is
          where
            by_offer : (shut : Bool) (offering : List ℕ)
                → Some (Rattle.rx_asks.specs.Asks.next_offering shut offering) ≡ Some asks.Cancel → ⊥
            by_offer true offering is = cc
            by_offer false [] is = cc
            by_offer false (x ∷ xs) is = cc
        never phases.Reading is = cc
        never phases.Resting is = cc

    by : (ask : Ask) → b.ask ≡ ask → IsAsked (asking v b.ask) e → KnowsTurn (after s e l) (heard v e)
    by asks.Offer at is =
        offered s host epoch l v t open_ _ e (subst (λ (x : Ask). IsAsked (asking v x) e) at is)
    by asks.Shut at is = shuts s host epoch l v t open_ e (subst (λ (x : Ask). IsAsked (asking v x) e) at is)
    by asks.Read at is =
        reads s host epoch l v t open_ BLOCK_BYTES e (subst (λ (x : Ask). IsAsked (asking v x) e) at is) allowed
    by asks.Cancel at is =
        gives_up s host epoch l v t open_ e
        (long_of (is_some v.end) (nat_lt REPLY_BYTES (length v.reply)) refl refl
        (subst (λ (x : Ask). next_ask REPLY_BYTES v ≡ Some x) at b.next))
        (subst (λ (x : Ask). IsAsked (asking v x) e) at is) allowed
