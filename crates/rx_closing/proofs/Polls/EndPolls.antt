-- The polls of a node until nothing is due, seen from one call, whatever other calls live there: what its end gave, in
-- order, among what is of others.
use Rattle.std.proofs.Common.{◌≡◌, ◌++◌, ◌⊎◌, ℕ, Bool, true, false, cond, if◌then◌else◌, List, [], ◌∷◌, refl, ap, sym}
use Rattle.std.proofs.Common.{subst, ◌∙◌, inl, inr, ⊎_elim, Option, Some, None, Ok, option_map}
use Rattle.std.specs.Prelude.{slice_get}
use Rattle.rx_model.specs.declared.event.Event.{Event}
use Rattle.rx_model.specs.declared.event.Event.TheVariants as events
use Rattle.rx_model.specs.declared.names.CallName.{CallName}
use Rattle.rx_model.specs.declared.names.Host.{Host}
use Rattle.rx_model.specs.declared.wire.TheConstants.{CLIENT_INITIATED}
use Rattle.rx_model.specs.Message.{Message, has_flag}
use Rattle.rx_model.specs.Names.{channel_of, connection_of, name_of}
use Rattle.rx_model.specs.Reading.{reading_of}
use Rattle.rx_rules.specs.After.{after, looks}
use Rattle.rx_rules.specs.CallItems.{after_sending, next_sending}
use Rattle.rx_rules.specs.CallLooks.{NodeView}
use Rattle.rx_rules.specs.Items.{poll_answer}
use Rattle.rx_rules.specs.Life.{after_silence, is_active}
use Rattle.rx_rules.specs.Looks.{CallRecord, Looks, call_at, call_named, latest}
use Rattle.rx_rules.specs.Records.{is_silent, silence_of, silenced, unless_silent}
use Rattle.rx_rules.specs.Rules.{Legal}
use Rattle.rx_rules.specs.Setup.{Client, FitsSetup, Kind, Server, Setup, client_host, is_client, named}
use Rattle.rx_rules.specs.Slots.{node_view}
use Rattle.rx_rules.proofs.ConnsLaws.{channel_number}
use Rattle.rx_rules.proofs.EveryLaws.{Every}
use Rattle.rx_history.specs.Sides.{Node, moment, side}
use Rattle.rx_history.proofs.Data.{same_message}
use Rattle.rx_history.proofs.Moments.{now-side}
use Rattle.rx_law.specs.Worlds.{Datagram}
use Rattle.rx_plan.specs.Rounds.{Polled, Polling, polls_out}
use Rattle.rx_between.proofs.Each.EachItem.{none_of}
use Rattle.rx_rounds.proofs.Polls.PolledOut.{polled_out, quiet_life}
use Rattle.rx_rounds.proofs.Rounded.{Made}
use Rattle.rx_rounds.proofs.Two.{Polls, out_to, sent}
use Rattle.rx_closing.specs.Living.{looks_of}
use Rattle.rx_closing.proofs.Messages.Sifted.{IsOwn, Sifted, sifts_none, sifts_other, sifts_own}
use Rattle.rx_closing.proofs.Owing.ChannelsStay.{IsMute}
use Rattle.rx_closing.proofs.Polls.NodePolls.{live_seen}
use Rattle.rx_closing.proofs.Polls.NodeTurn.{IsGivenBy, Out, node_turn}
use Rattle.rx_closing.proofs.Polls.OneGives.{GaveCall, GaveOther, rest_gives, work_gives}
use Rattle.rx_closing.proofs.Polls.OnePoll.{ConnIs, active_before, next_same, silenced_at}
use Rattle.rx_closing.proofs.Polls.OnePoll.{still_there}
use Rattle.rx_closing.proofs.Polls.Polled.{EndPolled, EndRested, EndWorked, NoStreamOf, NotOf, RestsAt, WorksAt}
use Rattle.rx_closing.proofs.Polls.Polled.{end_rests, end_works, name_in}
use Rattle.rx_closing.proofs.Quiet.QuietChannel.{hushed_call}
use Rattle.rx_closing.proofs.Steps.{GivesOut, IsViewAt, gives_none, gives_one}
use Rattle.rx_closing.proofs.Ends.RoomLaws.{active_lives}
use Rattle.rx_history.proofs.Plain.PlainBodies.{IsSent}

-- ---- names

-- a client's names have its host
abbrev pub IsHome : Host → Kind → Type 0
IsHome at (Client host epoch) = host ≡ at
IsHome at (Server service nonces) = Unit {0}

-- a node names what it gives as the datagram says
pub name_given : (s : Setup) (from to : Host) (bytes : List ℕ) (m : Message) → IsHome from s.kind
    → has_flag CLIENT_INITIATED m.flags ≡ is_client s.kind → name_in (sent from to bytes) m ≡ named s to m
name_given s from to bytes m home flag =
    ap (λ (b : Bool). name_of (if b then from else to) m) flag ∙ of s.kind home
  where
    of : (kind : Kind) → IsHome from kind → name_of (if is_client kind then from else to) m
        ≡ name_of (client_host kind to) m
    of (Client host epoch) at = ap (λ (x : Host). name_of x m) (sym at)
    of (Server service nonces) at = refl

-- what it gave says nothing of a call that it doesn't name
pub apart_given : (s : Setup) (c : CallName) (from to : Host) (bytes : List ℕ) (m : Message) → IsHome from s.kind
    → has_flag CLIENT_INITIATED m.flags ≡ is_client s.kind → reading_of bytes ≡ Ok m
    → (named s to m ≡ c → ⊥) → NotOf c (sent from to bytes)
apart_given s c from to bytes m home flag reads apart n other name =
    (let same : m ≡ n = same_message m n (sym reads ∙ other) in
    apart (sym (name_given s from to bytes m home flag)
    ∙ ap (name_in (sent from to bytes)) same ∙ name))

-- nothing of its stream
no_stream_given : (s : Setup) (c : CallName) (from to : Host) (bytes : List ℕ) (m : Message) → IsHome from s.kind
    → has_flag CLIENT_INITIATED m.flags ≡ is_client s.kind → reading_of bytes ≡ Ok m
    → (IsSent m.body → named s to m ≡ c → ⊥) → NoStreamOf c (sent from to bytes)
no_stream_given s c from to bytes m home flag reads apart n other stream name =
    (let same : m ≡ n = same_message m n (sym reads ∙ other) in
    apart (subst (λ (k : Message). IsSent k.body) (sym same) stream)
    (sym (name_given s from to bytes m home flag) ∙ ap (name_in (sent from to bytes)) same ∙ name))

-- ---- a call at work

-- where the node gives nothing, neither does the call's end, whatever slots are left
none_next : (s : Setup) (h : List Event) (c : CallName) (r : CallRecord) → FitsSetup s → Legal s h
    → WorksAt c (looks s h) r → poll_answer s (looks s h) ≡ None → (v : NodeView) → IsViewAt s (looks s h).now v
    → next_sending v r.looks ≡ None
none_next s h c r fits legal w none v view =
    let l : Looks = looks s h in
    let seen = live_seen s h c r fits legal w.there (active_lives r.life w.active) in
    let out = polled_out s l none in
    let is_latest : latest (silenced l) (channel_of c) ≡ Some r =
    ap (λ (n : ℕ). call_at (silenced l) (call_named (channel_of c) n))
    (channel_number l (channel_of c) ∙ seen.latest.number)
    ∙ still_there l c r w.there w.awake in
    next_same v (node_view s (silenced l)) r.looks view.client view.moment
    ∙ none_of s (silenced l) (channel_of c) r out.items seen.known is_latest w.active w.awake

-- what it gave, and how it was left
record WorkLeft (s : Setup) (c : CallName) (peer : Host) (service now : ℕ) (from : Host) (r : CallRecord)
    (later : List Event) (ds : List Datagram) : Type 0 where
  messages : List Message
  left : EndWorked s c peer service now from r later ds messages

awake_same : (now : ℕ) (r : CallRecord) → is_silent now r ≡ false → unless_silent now r ≡ r
awake_same now r awake =
    ap (λ (b : Bool). cond b (record r { life = after_silence (silence_of now r) r.life }) r) awake

module _ (s : Setup) (fits : FitsSetup s) (mute : IsMute s.class) (c : CallName) (peer : Host) (service now : ℕ)
    (from : Host) (home : IsHome from s.kind) where
  -- from a history of a node to another
  abbrev WorkOn : List Event → List Event → List Datagram → Type 0
  WorkOn h later ds = (r : CallRecord) → WorksAt c (looks s h) r → ConnIs (looks s h) (connection_of c) peer service
      → (looks s h).now ≡ now → WorkLeft s c peer service now from r later ds

  work_none : (h : List Event) → Legal s h → poll_answer s (looks s h) ≡ None → WorkOn h (events.Polled None ∷ h) []
  work_none h legal none = λ r w conn at. record {
    messages = [];
    left = record {
      sendings = [];
      end = r.looks;
      gives = gives_none r.looks (λ v view. none_next s h c r fits legal w none v
          (subst (λ (n : ℕ). IsViewAt s n v) (sym at) view));
      sifted = sifts_none;
      works = record {
        there = still_there (looks s h) c r w.there w.awake;
        active = w.active;
        awake = w.awake;
      };
      conn = record { is = conn.is };
      moment = at;
    };
  }

  work_some : (h later : List Event) (to : Host) (bytes : List ℕ) (ds : List Datagram) → Legal s h
      → poll_answer s (looks s h) ≡ Some (to, bytes) → WorkOn (events.Polled (Some (to, bytes)) ∷ h) later ds
      → WorkOn h later (sent from to bytes ∷ ds)
  work_some h later to bytes ds legal is rest = λ r w conn at.
      ⊎_elim (λ g. own r at g) (λ g. other r w conn at g)
      (work_gives s h fits legal to bytes c is peer service r w conn)
    where
      l : Looks
      l = looks s h

      behind : Looks
      behind = after s (events.Polled (Some (to, bytes))) (looks s h)

      own : (r : CallRecord) → l.now ≡ now → GaveCall s c peer service l r to bytes behind
          → WorkLeft s c peer service now from r later (sent from to bytes ∷ ds)
      own r at g =
          let more = rest (record r { looks = after_sending l.now g.sending r.looks }) g.works g.conn (g.now ∙ at) in
          record {
            messages = g.message ∷ more.messages;
            left = record {
              sendings = g.sending ∷ more.left.sendings;
              end = more.left.end;
              gives = gives_one r.looks more.left.end g.sending g.message more.left.sendings more.messages
                  (λ v view. g.next v (subst (λ (n : ℕ). IsViewAt s n v) (sym at) view)) g.given
                  (subst (λ (n : ℕ). GivesOut s now (after_sending n g.sending r.looks) more.left.sendings
                  more.messages more.left.end) at more.left.gives);
              sifted = subst (λ (a : Host). Sifted (IsOwn s c service) (NotOf c) from peer (sent from a bytes ∷ ds)
                  (g.message ∷ more.messages)) (sym g.host)
                  (sifts_own bytes g.message ds more.messages g.reads g.own more.left.sifted);
              works = more.left.works;
              conn = more.left.conn;
              moment = more.left.moment;
            };
          }

      other : (r : CallRecord) → WorksAt c l r → ConnIs l (connection_of c) peer service → l.now ≡ now
          → GaveOther s c l to bytes behind → WorkLeft s c peer service now from r later (sent from to bytes ∷ ds)
      other r w conn at g =
          let hush = hushed_call s h c r fits mute legal w.there w.active in
          let there : call_at behind c ≡ Some r =
          g.calls ∙ ap (option_map (unless_silent l.now)) w.there
          ∙ ap (λ (k : CallRecord). Some k) (awake_same l.now r w.awake) in
          let still : WorksAt c behind r =
          record {
            there = there;
            active = w.active;
            awake = ap (λ (n : ℕ). is_silent n r) g.now ∙ w.awake;
          } in
          let more = rest r still (g.conn (connection_of c) peer service conn) (g.now ∙ at) in
          record {
            messages = more.messages;
            left = record {
              sendings = more.left.sendings;
              end = more.left.end;
              gives = more.left.gives;
              sifted = sifts_other (sent from to bytes) ds more.messages
                  (apart_given s c from to bytes g.message home g.flag g.reads (g.apart hush)) more.left.sifted;
              works = more.left.works;
              conn = more.left.conn;
              moment = more.left.moment;
            };
          }

  -- ---- a call at rest

  awake_then : (k : CallRecord) → is_silent now (unless_silent now k) ≡ false
  awake_then k =
      (elim (is_silent now k) as (λ b. is_silent now k ≡ b
      → is_silent now (cond b (record k { life = after_silence (silence_of now k) k.life }) k) ≡ false) [
        | true ↦ λ silent. rw (quiet_life (silence_of now k) k.life) refl
        | false ↦ λ awake. awake
      ]) refl

  twice : (o : Option CallRecord)
      → option_map (unless_silent now) (option_map (unless_silent now) o) ≡ option_map (unless_silent now) o
  twice None = refl
  twice (Some k) = ap (λ (r : CallRecord). Some r) (awake_same now (unless_silent now k) (awake_then k))

  abbrev RestOn : List Event → List Event → List Datagram → Type 0
  RestOn h later ds = RestsAt c (looks s h) → (looks s h).now ≡ now → EndRested s c now h later ds

  rest_none : (h : List Event) → Legal s h → poll_answer s (looks s h) ≡ None → RestOn h (events.Polled None ∷ h) []
  rest_none h legal none = λ rests at. record {
    others = tt;
    apart = λ hush. tt;
    calls = silenced_at (looks s h) c
        ∙ ap (λ (n : ℕ). option_map (unless_silent n) (call_at (looks s h) c)) at;
    moment = at;
  }

  rest_some : (h later : List Event) (to : Host) (bytes : List ℕ) (ds : List Datagram) → Legal s h
      → poll_answer s (looks s h) ≡ Some (to, bytes) → RestOn (events.Polled (Some (to, bytes)) ∷ h) later ds
      → RestOn h later (sent from to bytes ∷ ds)
  rest_some h later to bytes ds legal is rest = λ rests at.
      let l : Looks = looks s h in
      let g = rest_gives s h fits legal to bytes c is rests in
      let more = rest (λ r there active. absurd (
      let before = active_before l c r (silenced_at l c ∙ sym g.calls ∙ there) active in
      let silent : is_silent l.now r ≡ true = rests r before.0 active in
      let no : true ≡ false = sym silent ∙ before.1 in cc (no))) (g.now ∙ at) in
      record {
        others = (
          no_stream_given s c from to bytes g.message home g.flag g.reads g.no_stream,
          more.others,
        );
        apart = λ hush. (
          apart_given s c from to bytes g.message home g.flag g.reads (g.apart hush),
          more.apart (g.hush hush),
        );
        calls = more.calls
            ∙ ap (option_map (unless_silent now)) (g.calls
            ∙ ap (λ (n : ℕ). option_map (unless_silent n) (call_at l c)) at)
            ∙ twice (call_at l c);
        moment = more.moment;
      }

  -- ---- either

  -- it is at work or at rest
  pub works_or_rests : (l : Looks) → ((r : CallRecord) × WorksAt c l r) ⊎ RestsAt c l
  works_or_rests l = of (call_at l c) refl
    where
      one : (r k : CallRecord) → call_at l c ≡ Some r → call_at l c ≡ Some k → r ≡ k
      one r k at there =
          (let both : ◌≡◌ {A = Option CallRecord} (Some r) (Some k) = sym at ∙ there in cc (both))

      by : (r : CallRecord) (a b : Bool) → call_at l c ≡ Some r → is_active r.life ≡ a → is_silent l.now r ≡ b
          → ((r : CallRecord) × WorksAt c l r) ⊎ RestsAt c l
      by r false b at idle silent =
          inr (λ k there active. absurd (let same : is_active r.life ≡ is_active k.life =
          ap (λ (j : CallRecord). is_active j.life) (one r k at there) in
          let no : true ≡ false = sym active ∙ sym same ∙ idle in cc (no)))
      by r true true at active silent =
          inr (λ k there works. subst (λ (j : CallRecord). is_silent l.now j ≡ true) (one r k at there) silent)
      by r true false at active awake = inl (r, record { there = at; active = active; awake = awake })

      of : (o : Option CallRecord) → call_at l c ≡ o → ((r : CallRecord) × WorksAt c l r) ⊎ RestsAt c l
      of None none = inr (λ k there active. absurd (
          let no : ◌≡◌ {A = Option CallRecord} None (Some k) = sym none ∙ there in cc (no)))
      of (Some r) at = by r (is_active r.life) (is_silent l.now r) at refl refl

-- ---- the polls of one node

pub record EndTurn (c : CallName) (peer : Host) (service : ℕ) (k : ℕ) (n : Node) (p q : Polled) : Type 0 where
  pub out : Out k n p.stage q.stage
  pub gave : List Datagram
  pub then_ : q.given ≡ p.given ++ gave
  pub given_by : Every (IsGivenBy n.host (side k q.stage.history)) gave
  pub messages : List Message
  pub left : EndPolled n.setup c peer service (moment k p.stage.history) n.host (side k p.stage.history)
      (side k q.stage.history) gave messages

module _ (c : CallName) (peer : Host) (service k : ℕ) (n : Node) (p q : Polled) where
  pub end_polls : slice_get p.stage.nodes k ≡ Some n → FitsSetup n.setup → IsMute n.setup.class
      → Legal n.setup (side k p.stage.history) → IsHome n.host n.setup.kind
      → ConnIs (looks_of p.stage k n) (connection_of c) peer service → Made (polls_out k) p q
      → EndTurn c peer service k n p q
  end_polls there fits mute legal home conn made =
      ⊎_elim
      (λ (w : (r : CallRecord) × WorksAt c (looks_of p.stage k n) r). (
      let turn = node_turn n.host k n o.0 q.stage (WorkOn n.setup fits mute c peer service at n.host home)
      (work_none n.setup fits mute c peer service at n.host home)
      (work_some n.setup fits mute c peer service at n.host home) p.given p.stage o.2.0 there legal o.2.1 in
      let left = turn.res w.0 w.1 conn now in
      record {
        out = turn.out;
        gave = turn.gave;
        then_ = o.1 ∙ turn.more;
        given_by = turn.given_by;
        messages = left.messages;
        left = end_works w.0 w.1 left.left;
      }))
      (λ (rests : RestsAt c (looks_of p.stage k n)). (
      let turn = node_turn n.host k n o.0 q.stage (RestOn n.setup fits mute c peer service at n.host home)
      (rest_none n.setup fits mute c peer service at n.host home)
      (rest_some n.setup fits mute c peer service at n.host home) p.given p.stage o.2.0 there legal o.2.1 in
      record {
        out = turn.out;
        gave = turn.gave;
        then_ = o.1 ∙ turn.more;
        given_by = turn.given_by;
        messages = [];
        left = end_rests rests refl (turn.res rests now);
      }))
      (works_or_rests n.setup fits mute c peer service at n.host home (looks_of p.stage k n))
    where
      at : ℕ
      at = moment k p.stage.history

      o : (w : Polling) × (q.given ≡ w.given) × Polls k n.host p.given p.stage w q.stage
      o = out_to k n.host p q made.0 (ap (option_map (λ (m : Node). m.host)) there) made.1

      now : (looks n.setup (side k p.stage.history)).now ≡ moment k p.stage.history
      now = now-side n.setup k p.stage.history
