-- What one poll that gave something leaves of one call of the node, whatever other calls live there.
use Rattle.std.proofs.Common.{◌≡◌, ◌-◌, ◌&&◌, ◌⊎◌, ◌≤◌, ℕ, Bool, true, false, cond, List, [], ◌∷◌, refl, ap, sym, subst}
use Rattle.std.proofs.Common.{◌∙◌, inl, inr, ⊎_elim, Option, Some, Ok, option_map, nat_le, drop, arith}
use Rattle.rx_model.specs.declared.event.Event.{Event}
use Rattle.rx_model.specs.declared.event.Event.TheVariants as events
use Rattle.rx_model.specs.declared.names.CallName.{CallName}
use Rattle.rx_model.specs.declared.names.Host.{Host}
use Rattle.rx_model.specs.declared.stray.Stray.{Stray}
use Rattle.rx_model.specs.declared.wire.TheConstants.{CLIENT_INITIATED, REQUEST_ACK, SILENCE_MS}
use Rattle.rx_model.specs.Message.{Message, has_flag}
use Rattle.rx_model.specs.Names.{Connection, channel_of, connection_of, name_of, same_name}
use Rattle.rx_model.specs.Reading.{reading_of}
use Rattle.rx_model.proofs.NameLaws.{name_is, name_itself}
use Rattle.rx_rules.specs.After.{after, looks}
use Rattle.rx_rules.specs.CallItems.{Sending, after_sending, next_sending}
use Rattle.rx_rules.specs.CallLooks.{NodeView}
use Rattle.rx_rules.specs.Items.{Item, item_of, message_on, poll_answer}
use Rattle.rx_rules.specs.Life.{is_active}
use Rattle.rx_rules.specs.Looks.{CallRecord, Looks, call_at, channel_at, conn_at, on_looks}
use Rattle.rx_rules.specs.Records.{is_silent, silenced, unless_silent}
use Rattle.rx_rules.specs.Rules.{AllowedAt, Legal}
use Rattle.rx_rules.specs.Setup.{Client, FitsSetup, Kind, Server, Setup, client_host, is_client, named}
use Rattle.rx_rules.specs.Setup.{receiving_window}
use Rattle.rx_rules.specs.Slots.{node_view}
use Rattle.rx_history.specs.Givings.{GivesItem, GivesPlain, GivesStray}
use Rattle.rx_history.proofs.Calls.{call-changed}
use Rattle.rx_history.proofs.Given.GivingItems.{item_leaves, item_name, stray_leaves}
use Rattle.rx_history.proofs.Given.Givings.{poll_gives}
use Rattle.rx_law.proofs.World.{gave-mine}
use Rattle.rx_between.proofs.Each.EachItem.{IsOther, Sends, gives}
use Rattle.rx_closing.proofs.Messages.Sifted.{IsOwn}
use Rattle.rx_closing.proofs.Polls.GivenLeft.{at_calls, call_left, given_now, given_quiet, given_strays, others_left}
use Rattle.rx_closing.proofs.Polls.OnePoll.{ConnIs, active_before, conn_given, next_same, sending_asks, sending_heard}
use Rattle.rx_closing.proofs.Polls.OnePoll.{sending_side, sending_stream, silenced_at, still_there}
use Rattle.rx_closing.proofs.Polls.OwedItems.{next_apart, not_both}
use Rattle.rx_closing.proofs.Polls.Polled.{IsHushed, QuietBut, RestsAt, WorksAt}
use Rattle.rx_closing.proofs.Steps.{IsGiven, IsViewAt}
use Rattle.rx_between.proofs.GivenAcks.{sends_there}
use Rattle.rx_history.proofs.Plain.PlainBodies.{IsSent}

-- it gave what the call's end gives next
pub record GaveCall (s : Setup) (c : CallName) (peer : Host) (service : ℕ) (l : Looks) (r : CallRecord) (to : Host)
    (bytes : List ℕ) (behind : Looks) : Type 0 where
  pub sending : Sending
  pub message : Message
  pub reads : reading_of bytes ≡ Ok message
  pub own : IsOwn s c service message
  pub given : IsGiven s r.looks sending message
  pub next : (v : NodeView) → IsViewAt s l.now v → next_sending v r.looks ≡ Some sending
  pub host : to ≡ peer
  pub works : WorksAt c behind (record r { looks = after_sending l.now sending r.looks })
  pub conn : ConnIs behind (connection_of c) peer service
  pub now : behind.now ≡ l.now

-- or a message that isn't of the call's stream, and not of the call at all where the node owes nothing else of it; and
-- the call ended where it was silent
pub record GaveOther (s : Setup) (c : CallName) (l : Looks) (to : Host) (bytes : List ℕ) (behind : Looks)
    : Type 0 where
  pub message : Message
  pub reads : reading_of bytes ≡ Ok message
  pub flag : has_flag CLIENT_INITIATED message.flags ≡ is_client s.kind
  pub no_stream : IsSent message.body → named s to message ≡ c → ⊥
  pub apart : IsHushed c l → named s to message ≡ c → ⊥
  pub calls : call_at behind c ≡ option_map (unless_silent l.now) (call_at l c)
  pub conn :
      (x : Connection) (peer : Host) (service : ℕ) → ConnIs l x peer service → ConnIs behind x peer service
  pub now : behind.now ≡ l.now
  pub hush : IsHushed c l → IsHushed c behind

-- ---- one poll

-- a poll that is answered by the rules is legal
pub polled_legal : (s : Setup) (h : List Event) (to : Host) (bytes : List ℕ) → Legal s h
    → poll_answer s (looks s h) ≡ Some (to, bytes) → Legal s (events.Polled (Some (to, bytes)) ∷ h)
polled_legal s h to bytes legal is = (by s.kind, legal)
  where
    by : (kind : Kind) → AllowedAt kind s (looks s h) (events.Polled (Some (to, bytes)))
    by (Server service nonces) = sym is
    by (Client host epoch) = sym is

module _ (s : Setup) (h : List Event) (fits : FitsSetup s) (legal : Legal s h) (to : Host) (bytes : List ℕ)
    (c : CallName) (is : poll_answer s (looks s h) ≡ Some (to, bytes)) where
  abbrev l : Looks
  l = looks s h

  abbrev behind : Looks
  behind = after s (events.Polled (Some (to, bytes))) (looks s h)

  flag_is : (m : Message) → reading_of bytes ≡ Ok m → has_flag CLIENT_INITIATED m.flags ≡ is_client s.kind
  flag_is m reads =
      (gave-mine s (events.Polled (Some (to, bytes)) ∷ h) to bytes m fits (polled_legal s h to bytes legal is)
      (inl (refl, refl)) reads).flag

  -- ---- a stray abort

  stray_gave : (p : GivesPlain s l to bytes) → GivesStray l to p.message → GaveOther s c l to bytes behind
  stray_gave p g =
      let whole = stray_leaves s l to bytes p.message g p.read in
      record {
        message = p.message;
        reads = p.read;
        flag = flag_is p.message p.read;
        no_stream = λ stream name. subst (λ (m : Message). IsSent m.body) g.is stream;
        apart = λ hush name. none hush.strays (ap (λ (d : CallName). d.number) name);
        calls = at_calls (silenced l) behind c (ap (λ (x : Looks). x.calls) whole) ∙ silenced_at l c;
        conn = λ x peer service w. subst (λ (y : Looks). ConnIs y x peer service) (sym whole) (record { is = w.is });
        now = ap (λ (x : Looks). x.now) whole;
        hush = λ hush. subst (IsHushed c) (sym whole) (record {
          strays = ⊎_elim
              (λ (empty : l.strays ≡ []). inl (ap (drop 1) empty))
              (λ (some : 1 ≤ c.number). inr some)
              hush.strays;
          channel = hush.channel;
        });
      }
    where
      some_stray : (x : Stray) (xs : List Stray) → [] ≡ x ∷ xs → ⊥
      some_stray x xs none = cc

      none : (l.strays ≡ []) ⊎ (1 ≤ c.number) → p.message.number ≡ c.number → ⊥
      none (inl empty) number = some_stray g.oldest g.later (sym empty ∙ g.owed)
      none (inr some) number =
          (let zero_is : p.message.number ≡ 0 = ap (λ (m : Message). m.number) g.is in
          let no : ⊥ = omega arith in no)

  -- ---- a message of no stream

  -- what is given is owed no longer
  hush_given : (p : GivesPlain s l to bytes) (g : GivesItem s l to p.message) → IsHushed c l → IsHushed c behind
  hush_given p g hush =
      (let whole = item_leaves s h fits legal to bytes p.message g p.read in
      record {
        strays = ⊎_elim
            (λ (empty : l.strays ≡ []). inl (ap (λ (x : Looks). x.strays) whole
            ∙ given_strays g.item.name p.message p.message.body (silenced l) ∙ empty))
            (λ (some : 1 ≤ c.number). inr some) hush.strays;
        channel = subst (λ (x : Looks). QuietBut c (channel_at x (channel_of c))) (sym whole)
            (given_quiet c g.item.name p.message p.message.body (silenced l) (channel_of c) hush.channel);
      })

  item_other : (p : GivesPlain s l to bytes) (g : GivesItem s l to p.message) → IsOther g.item.body
      → GaveOther s c l to bytes behind
  item_other p g other =
      let whole = item_leaves s h fits legal to bytes p.message g p.read in
      let body : IsOther p.message.body = subst (λ (n : Message). IsOther n.body) (sym g.is) other in
      let name : named s to p.message ≡ g.item.name = item_name s h fits legal to p.message g in
      let calls : behind.calls ≡ (silenced l).calls =
      ap (λ (x : Looks). x.calls) whole ∙ others_left g.item.name p.message p.message.body (silenced l) body in
      record {
        message = p.message;
        reads = p.read;
        flag = flag_is p.message p.read;
        no_stream = λ stream own. not_both p.message.body stream body;
        apart = λ hush own. next_apart c s (silenced l) g.item g.next hush.channel other (sym name ∙ own);
        calls = at_calls (silenced l) behind c calls ∙ silenced_at l c;
        conn = λ x peer service w. subst (λ (y : Looks). ConnIs y x peer service) (sym whole)
            (conn_given x g.item.name p.message p.message.body (silenced l) peer service (record { is = w.is }));
        now = ap (λ (x : Looks). x.now) whole
            ∙ given_now g.item.name p.message p.message.body (silenced l);
        hush = λ hush. hush_given p g hush;
      }

  -- ---- what a call gives

  -- its name, and what it is then
  sends_name : (p : GivesPlain s l to bytes) (g : GivesItem s l to p.message) (d : Sends s (silenced l) g.item)
      → g.item.name ≡ d.call.name
  sends_name p g d = ap (λ (i : Item). i.name) d.is

  sends_calls : (p : GivesPlain s l to bytes) (g : GivesItem s l to p.message) (d : Sends s (silenced l) g.item)
      → behind.calls ≡ (on_looks d.call.name (after_sending l.now d.sending) (silenced l)).calls
  sends_calls p g d =
      ap (λ (y : Looks). y.calls) (item_leaves s h fits legal to bytes p.message g p.read)
      ∙ call_left s (silenced l) d.call d.rank d.sending g.item p.message g.conn d.is g.is

  -- another call
  sends_other : (p : GivesPlain s l to bytes) (g : GivesItem s l to p.message) (d : Sends s (silenced l) g.item)
      → same_name c g.item.name ≡ false → GaveOther s c l to bytes behind
  sends_other p g d differ =
      let whole = item_leaves s h fits legal to bytes p.message g p.read in
      let name : named s to p.message ≡ g.item.name = item_name s h fits legal to p.message g in
      let apart : named s to p.message ≡ c → ⊥ =
      λ own. (let yes : same_name c g.item.name ≡ true =
      ap (same_name c) (sym name ∙ own) ∙ name_itself c in
      let no : true ≡ false = sym yes ∙ differ in cc (no)) in
      let other : same_name c d.call.name ≡ false = ap (same_name c) (sym (sends_name p g d)) ∙ differ in
      record {
        message = p.message;
        reads = p.read;
        flag = flag_is p.message p.read;
        no_stream = λ stream own. apart own;
        apart = λ hush own. apart own;
        calls = at_calls (on_looks d.call.name (after_sending l.now d.sending) (silenced l)) behind c
            (sends_calls p g d)
            ∙ call-changed c d.call.name (λ (k : CallRecord). record k
            { looks = after_sending l.now d.sending k.looks }) (silenced l) (λ k. refl)
            ∙ ap (λ (b : Bool). cond b (option_map (λ (k : CallRecord). record k
            { looks = after_sending l.now d.sending k.looks }) (call_at (silenced l) c)) (call_at (silenced l) c)) other
            ∙ silenced_at l c;
        conn = λ x peer service w. subst (λ (y : Looks). ConnIs y x peer service) (sym whole)
            (conn_given x g.item.name p.message p.message.body (silenced l) peer service (record { is = w.is }));
        now = ap (λ (x : Looks). x.now) whole
            ∙ given_now g.item.name p.message p.message.body (silenced l);
        hush = λ hush. hush_given p g hush;
      }

  -- this one: it is active, and not silent
  sends_works : (p : GivesPlain s l to bytes) (g : GivesItem s l to p.message) (d : Sends s (silenced l) g.item)
      → same_name c g.item.name ≡ true → (d.call.name ≡ c) × WorksAt c l d.call
  sends_works p g d same =
      let own : d.call.name ≡ c = sym (name_is c g.item.name same ∙ sends_name p g d) in
      let before = active_before l d.call.name d.call (sends_there s (silenced l) g.item d) d.active in (
        own,
        record {
          there = subst (λ (n : CallName). call_at l n ≡ Some d.call) own before.0;
          active = d.active;
          awake = before.1;
        },
      )

  sends_own : (peer : Host) (service : ℕ) (r : CallRecord) → WorksAt c l r
      → ConnIs l (connection_of c) peer service
      → (p : GivesPlain s l to bytes) (g : GivesItem s l to p.message) (d : Sends s (silenced l) g.item)
      → same_name c g.item.name ≡ true → GaveCall s c peer service l r to bytes behind
  sends_own peer service r w at p g d same =
      let who = sends_works p g d same in
      let one : ◌≡◌ {A = Option CallRecord} (Some d.call) (Some r) = sym (who.1).there ∙ w.there in
      let call : d.call ≡ r = cc (one) in
      let whole = item_leaves s h fits legal to bytes p.message g p.read in
      let x : Sending = d.sending in
      let own_item : g.item ≡ item_of s r (record { rank = d.rank; sending = x }) =
      d.is ∙ ap (λ (k : CallRecord). item_of s k (record { rank = d.rank; sending = x })) call in
      let name : g.item.name ≡ c = sends_name p g d ∙ who.0 in
      let message : p.message ≡ message_on s (item_of s r (record { rank = d.rank; sending = x })) g.conn =
      g.is ∙ ap (λ (i : Item). message_on s i g.conn) own_item in
      let peer_is = at.is g.conn (ap (λ (n : CallName). conn_at l (connection_of n)) (sym name) ∙ g.there) in
      let calls : behind.calls ≡ (on_looks c (after_sending l.now x) (silenced l)).calls =
      sends_calls p g d
      ∙ ap (λ (n : CallName). (on_looks n (after_sending l.now x) (silenced l)).calls) who.0 in
      let now : behind.now ≡ l.now =
      ap (λ (y : Looks). y.now) whole ∙ given_now g.item.name p.message p.message.body (silenced l) in
      let spoken : named s to p.message ≡ c = item_name s h fits legal to p.message g ∙ name in
      let host : client_host s.kind to ≡ c.host = ap (λ (n : CallName). n.host) spoken in
      record {
        sending = x;
        message = p.message;
        reads = p.read;
        own = record {
          name = subst (λ (a : Host). name_of a p.message ≡ c) host spoken;
          side = ap (λ (m : Message). has_flag CLIENT_INITIATED m.flags) message ∙ sending_side s.kind r.looks x;
          index = ap (λ (m : Message). m.index) g.is;
          for_it = ap (λ (m : Message). m.service) g.is ∙ peer_is.1;
          stream = subst (λ (m : Message). IsSent m.body) (sym message)
              (sending_stream (receiving_window s) r.looks x);
          plain = p.plain;
        };
        given = record {
          seq = ap (λ (m : Message). m.seq) message;
          body = ap (λ (m : Message). m.body) message;
          asks = ap (λ (m : Message). has_flag REQUEST_ACK m.flags) message ∙ sending_asks s.kind r.looks x;
        };
        next = λ v view. next_same v (node_view s (silenced l)) r.looks view.client view.moment
            ∙ ap (λ (k : CallRecord). next_sending (node_view s (silenced l)) k.looks) (sym call) ∙ d.next;
        host = g.host ∙ peer_is.0;
        works = record {
          there = at_calls (on_looks c (after_sending l.now x) (silenced l)) behind c calls
              ∙ call-changed c c (λ (k : CallRecord). record k { looks = after_sending l.now x k.looks }) (silenced l)
              (λ k. refl)
              ∙ ap (λ (b : Bool). cond b (option_map (λ (k : CallRecord). record k
              { looks = after_sending l.now x k.looks }) (call_at (silenced l) c)) (call_at (silenced l) c))
              (name_itself c)
              ∙ ap (option_map (λ (k : CallRecord). record k { looks = after_sending l.now x k.looks }))
              (still_there l c r w.there w.awake);
          active = w.active;
          awake = ap (λ (n : ℕ). is_silent n (record r { looks = after_sending l.now x r.looks })) now
              ∙ ap (λ (n : ℕ). is_active r.life && nat_le SILENCE_MS (l.now - n)) (sending_heard l.now x r.looks)
              ∙ w.awake;
        };
        conn = subst (λ (y : Looks). ConnIs y (connection_of c) peer service) (sym whole)
            (conn_given (connection_of c) g.item.name p.message p.message.body (silenced l) peer service
            (record { is = at.is }));
        now = now;
      }

  -- ---- all

  module _ (Own : Type 0)
      (own : (p : GivesPlain s l to bytes) (g : GivesItem s l to p.message) (d : Sends s (silenced l) g.item)
      → same_name c g.item.name ≡ true → Own) where
    item_gives : (p : GivesPlain s l to bytes) (g : GivesItem s l to p.message) → Own ⊎ GaveOther s c l to bytes behind
    item_gives p g =
        ⊎_elim (λ (d : Sends s (silenced l) g.item). by d (same_name c g.item.name) refl)
        (λ (other : IsOther g.item.body). inr (item_other p g other)) (gives s (silenced l) g.item g.next)
      where
        by : (d : Sends s (silenced l) g.item) (b : Bool) → same_name c g.item.name ≡ b
            → Own ⊎ GaveOther s c l to bytes behind
        by d true same = inl (own p g d same)
        by d false differ = inr (sends_other p g d differ)

    all_gives : Own ⊎ GaveOther s c l to bytes behind
    all_gives = of (poll_gives s h fits legal to bytes is)
      where
        of : GivesPlain s l to bytes → Own ⊎ GaveOther s c l to bytes behind
        of p =
            ⊎_elim (λ (g : GivesStray l to p.message). inr (stray_gave p g))
            (λ (g : GivesItem s l to p.message). item_gives p g) p.owed

  -- where the call is at work
  pub work_gives : (peer : Host) (service : ℕ) (r : CallRecord) → WorksAt c l r
      → ConnIs l (connection_of c) peer service
      → GaveCall s c peer service l r to bytes behind ⊎ GaveOther s c l to bytes behind
  work_gives peer service r w at =
      all_gives (GaveCall s c peer service l r to bytes behind) (sends_own peer service r w at)

  -- where it rests
  pub rest_gives : RestsAt c l → GaveOther s c l to bytes behind
  rest_gives rests =
      ⊎_elim (λ (never : ⊥). absurd never) (λ (g : GaveOther s c l to bytes behind). g) (all_gives ⊥ none)
    where
      none : (p : GivesPlain s l to bytes) (g : GivesItem s l to p.message) (d : Sends s (silenced l) g.item)
          → same_name c g.item.name ≡ true → ⊥
      none p g d same =
          (let w = (sends_works p g d same).1 in
          let silent : is_silent l.now d.call ≡ true = rests d.call w.there w.active in
          let no : true ≡ false = sym silent ∙ w.awake in cc (no))
