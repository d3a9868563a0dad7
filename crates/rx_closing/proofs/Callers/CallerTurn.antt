-- The turn of a caller seen from its call, whatever other calls live, event by event, and what it comes to: it said its
-- request while there was room and read all that stands without a gap; or its call ended.
use Rattle.std.proofs.Common.{◌≡◌, ◌≤◌, ◌++◌, ℕ, Bool, true, false, List, [], ap, sym, subst, ◌∙◌, Option, Some, None}
use Rattle.std.proofs.Common.{length, slice_get}
use Rattle.std.specs.Prelude.{IsSomeAnd}
use Rattle.rx_model.specs.declared.answers.End.{End}
use Rattle.rx_model.specs.declared.event.Event.{Event}
use Rattle.rx_model.specs.declared.event.Noted.{Noted}
use Rattle.rx_model.specs.declared.names.CallName.{CallName}
use Rattle.rx_model.specs.declared.names.Host.{Host}
use Rattle.rx_rules.specs.After.{after, looks}
use Rattle.rx_rules.specs.CallLooks.{CallLooks, after_write}
use Rattle.rx_rules.specs.Life as lives
use Rattle.rx_rules.specs.Looks.{CallRecord, Looks, call_at, on_looks}
use Rattle.rx_rules.specs.Received.{is_complete, unread_of}
use Rattle.rx_rules.specs.Rules.{Allowed, AllowedClient, Legal}
use Rattle.rx_rules.specs.Sent.{Sent}
use Rattle.rx_rules.specs.Setup.{Client}
use Rattle.rx_rules.specs.Slots.{room}
use Rattle.rx_history.specs.Sides.{Node, side}
use Rattle.rx_events.specs.Joint.{IsAllowedAt}
use Rattle.rx_asks.specs.declared.ask.Phase.{Phase}
use Rattle.rx_asks.specs.declared.ask.TheConstants.{REPLY_BYTES}
use Rattle.rx_asks.specs.Asks.{Asking, IsAsked, calling}
use Rattle.rx_asks.specs.View.{CallerState}
use Rattle.rx_plan.specs.Parts.{To}
use Rattle.rx_plan.specs.Programs.{Turn}
use Rattle.rx_plan.specs.Stages.{Stage, with_event}
use Rattle.rx_plan.proofs.Callers.{side_own}
use Rattle.rx_rounds.proofs.Making.{turn_goes}
use Rattle.rx_closing.proofs.Callers.AmongCallers.{among_stays}
use Rattle.rx_asks.proofs.CallerEvents.{asked_dims, asked_now}
use Rattle.rx_closing.proofs.Frame.{AreAmong}
use Rattle.rx_closing.proofs.Steps.{TurnsOn}
use Rattle.rx_history.proofs.ClientHistory.{clients}

-- a call of a client that lives, and one that ended
abbrev pub calls : CallName → CallLooks → CallRecord
calls name k = record { name = name; life = lives.Calling; looks = k }

abbrev pub ended : CallName → End → CallLooks → CallRecord
ended name end k = record { name = name; life = lives.Ended end; looks = k }

module _ (node : ℕ) (client : Node) (host : Host) (epoch : ℕ) (kind : client.setup.kind ≡ Client host epoch)
    (c : CallName) (cs : List CallName) (now : ℕ) where
  abbrev pub looks_at : Stage → Looks
  looks_at s = looks client.setup (side node s.history)

  -- the client of a stage has the call so, at this moment, and no calls live there but some
  pub record At (s : Stage) (r : CallRecord) : Type 0 where
    pub first : slice_get s.nodes node ≡ Some client
    pub legal : Legal client.setup (side node s.history)
    pub there : call_at (looks_at s) c ≡ Some r
    pub moment : (looks_at s).now ≡ now
    pub among : AreAmong cs (looks_at s)

  -- ---- one event

  here : (s : Stage) (e : Event) → slice_get s.nodes node ≡ Some client → IsAllowedAt s.nodes s.history node e
      → Allowed client.setup (looks_at s) e
  here s e first allowed =
      subst (λ (o : Option Node). IsSomeAnd o (λ n. Allowed n.setup (looks n.setup (side node s.history)) e)) first
      allowed

  pub looks_behind : (s : Stage) (e : Event)
      → looks_at (with_event node e s) ≡ after client.setup e (looks_at s)
  looks_behind s e = ap (looks client.setup) (side_own node e s.history)

  -- the call behind an event that a caller asked of the client
  pub event_at : (s : Stage) (r q : CallRecord) (a : Asking) (e : Event) → At s r → IsAsked a e
      → IsAllowedAt s.nodes s.history node e → call_at (after client.setup e (looks_at s)) c ≡ Some q
      → At (with_event node e s) q
  event_at s r q a e at is allowed there =
      record {
        first = at.first;
        legal = subst (Legal client.setup) (sym (side_own node e s.history)) (here s e at.first allowed, at.legal);
        there = ap (λ (l : Looks). call_at l c) (looks_behind s e) ∙ there;
        moment = ap (λ (l : Looks). l.now) (looks_behind s e) ∙ asked_now client.setup a e (looks_at s) is ∙ at.moment;
        among =
            subst (AreAmong cs) (sym (looks_behind s e))
            (among_stays cs (looks_at s) (after client.setup e (looks_at s))
            (asked_dims client.setup a e (looks_at s) is) at.among);
      }

  -- from here on a turn of a caller of this client goes to this end
  abbrev pub Goes : CallerState → Stage → CallerState → Stage → Type 0
  Goes v s w t = (es : List Noted) × Turn (calling REPLY_BYTES) node v s es (To (w, t))

  -- its next call is this event
  pub record Next (a : Asking) (v w : CallerState) (s t : Stage) (e : Event) : Type 0 where
    pub asked : IsAsked a e
    pub allowed : IsAllowedAt s.nodes s.history node e
    pub goes : Goes ((calling REPLY_BYTES).heard v e) (with_event node e s) w t

  pub next_is : (a : Asking) (v w : CallerState) (s t : Stage) (e : Event) → (calling REPLY_BYTES).asks v ≡ Some a
      → slice_get s.nodes node ≡ Some client
      → ((f : Event) → IsAsked a f → AllowedClient client.setup host epoch (looks_at s) f → f ≡ e) → Goes v s w t
      → Next a v w s t e
  next_is a v w s t e asked first only go =
      let n = turn_goes (calling REPLY_BYTES) node v w a s t go.0 asked go.1 in
      let same : n.event ≡ e =
      only n.event n.allowed.0
      (clients client.setup.kind client.setup host epoch (looks_at s) n.event kind
      (here s n.event first n.allowed.1)) in
      record {
        asked = subst (IsAsked a) same n.allowed.0;
        allowed = subst (IsAllowedAt s.nodes s.history node) same n.allowed.1;
        goes = (
          n.more,
          subst (λ (f : Event). Turn (calling REPLY_BYTES) node ((calling REPLY_BYTES).heard v f) (with_event node f s)
              n.more (To (w, t))) same n.rest,
        );
      }

  -- ---- what a turn comes to

  -- the last offer took all the room, and more is left to offer: the stages before and behind it
  pub record Filled (request : List ℕ) (k : CallLooks) (sent : Sent) : Type 0 where
    pub name : CallName
    pub stage : Stage
    pub before : CallLooks
    pub took : List ℕ
    pub at : At stage (calls name before)
    pub behind : Stage
    pub at_behind : At behind (calls name (after_write took before))
    pub looks_are : looks_at behind ≡ on_looks c (after_write took) (looks_at stage)
    pub on : TurnsOn now k before
    pub same : before.received ≡ k.received
    pub open_ : before.sent.shut ≡ false
    pub all : length took ≡ room client.setup (looks_at stage) before
    pub is : sent ≡ (after_write took before).sent
    pub left : List ℕ
    pub some : 1 ≤ length left
    pub whole : sent.said ++ left ≡ request

  -- all of the request was said, or there was no more room
  pub data SaidOut (request : List ℕ) (k : CallLooks) (sent : Sent) : Type 0 where
    all_said : sent.shut ≡ true → sent.said ≡ request → SaidOut request k sent
    fills_up : Filled request k sent → SaidOut request k sent

  -- the call lives on: nothing is left to read, and the reply isn't complete; or it ended
  pub data CallerLeft (request : List ℕ) (k : CallLooks) (t : Stage) : Type 0 where
    reads_on : (name : CallName) (f : CallLooks) → At t (calls name f) → TurnsOn now k f → unread_of f.received ≡ []
        → is_complete f.received ≡ false → SaidOut request k f.sent → CallerLeft request k t
    ended_now : (name : CallName) (f : CallLooks) (end : End) → At t (ended name end f) → TurnsOn now k f
        → CallerLeft request k t

  -- ---- a caller's own turn

  -- a caller of the call that isn't finished
  abbrev pub caller_on : List ℕ → Bool → List ℕ → Phase → CallerState
  caller_on offering shut reply phase =
      record {
        call = c;
        offering = offering;
        shut = shut;
        reply = reply;
        end = None;
        phase = phase;
      }
