-- A datagram that comes makes the channel of an active call owe nothing of it.
use Rattle.std.proofs.Common.{◌≡◌, ◌<◌, ◌&&◌, ◌==◌, not, cond, if◌then◌else◌, ℕ, Bool, true, false, List}
use Rattle.std.proofs.Common.{Option, Some, None, option_map, Result, Ok, Err, refl, ap, sym, subst, ◌∙◌}
use Rattle.rx_model.specs.declared.answers.BadMsg.{BadMsg}
use Rattle.rx_model.specs.declared.answers.Took.{Took}
use Rattle.rx_model.specs.declared.answers.Took.TheVariants as tooks
use Rattle.rx_model.specs.declared.event.Event.{Event}
use Rattle.rx_model.specs.declared.names.CallName.{CallName}
use Rattle.rx_model.specs.declared.names.Host.{Host}
use Rattle.rx_model.specs.declared.wire.TheConstants.{CLIENT_INITIATED}
use Rattle.rx_model.specs.Body.{Body}
use Rattle.rx_model.specs.Body as bodies
use Rattle.rx_model.specs.Message.{Message, has_flag}
use Rattle.rx_model.specs.Names.{Channel, channel_of, connection_of}
use Rattle.rx_model.specs.Reading.{reading_of}
use Rattle.rx_model.proofs.NameLaws.{name_itself}
use Rattle.rx_rules.specs.After.{looks, owing_again, owing_busy, prepared}
use Rattle.rx_rules.specs.Judging.{facts_of, is_for_clients, is_for_servers, is_peer, opened, outer_row, own_row}
use Rattle.rx_rules.specs.Judging.{took_named, took_of}
use Rattle.rx_rules.specs.Life.{Life, is_active, is_live}
use Rattle.rx_rules.specs.Life as lives
use Rattle.rx_rules.specs.Looks.{CallRecord, ChannelLooks, Looks, call_at, channel_at, conn_at, is_call, on_life}
use Rattle.rx_rules.specs.Rules.{Legal}
use Rattle.rx_rules.specs.Setup.{Client, FitsSetup, Kind, Server, Setup, named}
use Rattle.rx_history.proofs.Calls.{call-changed}
use Rattle.rx_history.proofs.Events.{call-by, calls-prepared}
use Rattle.rx_history.proofs.Fit.FitConnTaken.{may_abort}
use Rattle.rx_plan.proofs.Aborts.AbortCauses.{named_row}
use Rattle.rx_plan.proofs.Aborts.RowsOver.{latest_number}
use Rattle.rx_closing.proofs.Messages.CrowdedRows.{is_busy, row_calm, side_crowds}
use Rattle.rx_closing.proofs.Messages.Lasts.{live_last}
use Rattle.rx_closing.proofs.Messages.Rows.{IsLast}
use Rattle.rx_closing.proofs.Owing.ChannelsStay.{IsMute}
use Rattle.rx_closing.proofs.Quiet.QuietSteps.{Hushes, Leaves, ReadsSo, StopsSo, TakesSo}
use Rattle.rx_history.proofs.Laws.TakenLaws.{is-below}
use Rattle.rx_closing.proofs.Ends.RoomLaws.{active_lives}

-- ---- numbers and names

-- calls of one channel and of one number are one
pub same_call : (d c : CallName) → channel_of d ≡ channel_of c → d.number ≡ c.number → d ≡ c
same_call d c same number = λ i. record {
  host = (same i).connection.host;
  epoch = (same i).connection.epoch;
  cid = (same i).connection.cid;
  chan = (same i).chan;
  number = number i;
}

-- a call whose channel has its number is the call that is the latest there
pub is_latest : (l : Looks) (d c : CallName) → channel_of d ≡ channel_of c
    → (channel_at l (channel_of c)).number ≡ c.number → (channel_at l (channel_of d)).number ≡ d.number → d ≡ c
is_latest l d c same own number =
    same_call d c same (sym number ∙ ap (λ (ch : Channel). (channel_at l ch).number) same ∙ own)

-- ---- lives

-- what an active call tells again: nothing
again_none : (body : Body) (life : Life) → is_active life ≡ true → (q : ChannelLooks) → owing_again body life q ≡ q
again_none (bodies.Chunk payload) lives.Calling active q = refl
again_none (bodies.Chunk payload) (lives.Ended end) active q = absurd cc
again_none (bodies.Chunk payload) lives.Waiting active q = refl
again_none (bodies.Chunk payload) lives.Accepted active q = refl
again_none (bodies.Chunk payload) lives.Finished active q = refl
again_none (bodies.Chunk payload) (lives.Broken code) active q = absurd cc
again_none (bodies.Chunk payload) (lives.Over code) active q = absurd cc
again_none (bodies.Ack a) lives.Calling active q = refl
again_none (bodies.Ack a) (lives.Ended end) active q = absurd cc
again_none (bodies.Ack a) lives.Waiting active q = refl
again_none (bodies.Ack a) lives.Accepted active q = refl
again_none (bodies.Ack a) lives.Finished active q = refl
again_none (bodies.Ack a) (lives.Broken code) active q = absurd cc
again_none (bodies.Ack a) (lives.Over code) active q = absurd cc
again_none _ life active q = refl

-- a call behind a step of its life alone
pub life_at : (l : Looks) (c : CallName) (f : Life → Life) (k r : CallRecord) → call_at l c ≡ Some k
    → call_at (on_life c f l) c ≡ Some r → r.life ≡ f k.life
life_at l c f k r before behind =
    ap (λ (j : CallRecord). j.life) (one r (record k { life = f k.life }) (sym behind
    ∙ call-changed c c (λ (j : CallRecord). record j { life = f j.life }) l (λ j. refl)
    ∙ ap (λ (b : Bool). cond b (option_map (λ (j : CallRecord). record j { life = f j.life }) (call_at l c))
    (call_at l c)) (name_itself c)
    ∙ ap (option_map (λ (j : CallRecord). record j { life = f j.life })) before))
  where
    one : (a b : CallRecord) → ◌≡◌ {A = Option CallRecord} (Some a) (Some b) → a ≡ b
    one a b same = cc

pub not_active : (x y : Life) → x ≡ y → is_active y ≡ false → is_active x ≡ true → ⊥
not_active x y same idle active = (let no : true ≡ false = sym active ∙ ap is_active same ∙ idle in cc (no))

-- ---- a RESPONSE that a row in front turns away

no_response : (s : Setup) (kind : Kind) (l : Looks) (from : Host) (m : Message) (text : List ℕ) → IsMute s.class
    → m.body ≡ bodies.Response text → outer_row s kind l from m ≡ None → ⊥
no_response s (Server service nonces) l from m text mute at front =
    by (has_flag CLIENT_INITIATED m.flags) (is_for_servers s.class.challenges m.body)
    (not ((m.service == service) && (m.index == s.class.index)))
    (ap (is_for_servers s.class.challenges) at ∙ mute.still) front
  where
    by : (a b x : Bool) → b ≡ false
        → (if not a then Some tooks.Foreign else if not b then Some tooks.Strange else if x then Some tooks.Unserved
        else None) ≡ None → ⊥
    by true true x none is = cc
    by true false x none is = cc
    by false b x none is = cc
no_response s (Client host epoch) l from m text mute at front =
    by (has_flag CLIENT_INITIATED m.flags) (is_peer from (conn_at l (connection_of (named s from m))))
    (m.index == s.class.index) (is_for_clients s.class.challenges m.body)
    (ap (is_for_clients s.class.challenges) at) front
  where
    by : (a b x y : Bool) → y ≡ false
        → (if a then Some tooks.Foreign else if not b then Some tooks.Strange
        else if not (x && y) then Some tooks.Strange else None) ≡ None → ⊥
    by true b x y none is = cc
    by false false x y none is = cc
    by false true true true none is = cc
    by false true true false none is = cc
    by false true false y none is = cc

-- ---- one event, where the call is active before it and behind it

module _ (s : Setup) (mute : IsMute s.class) (fits : FitsSetup s) (c : CallName) (h : List Event) (legal : Legal s h)
    (q : CallRecord) (there : call_at (looks s h) c ≡ Some q) (active : is_active q.life ≡ true) where
  abbrev l : Looks
  l = looks s h

  last : IsLast l c q
  last = live_last s h c q fits legal there (active_lives q.life active)

  -- what is the latest of its channel, or lives, is the call
  pub latest_own : (d : CallName) → channel_of d ≡ channel_of c → (channel_at l (channel_of d)).number ≡ d.number
      → d ≡ c
  latest_own d same number = is_latest l d c same last.number number

  pub live_own : (d : CallName) → channel_of d ≡ channel_of c → is_call (λ k. is_live k.life) (call_at l d) ≡ true
      → d ≡ c
  live_own d same living = of (call_at l d) refl living
    where
      of : (o : Option CallRecord) → call_at l d ≡ o → is_call (λ k. is_live k.life) o ≡ true → d ≡ c
      of None is none = absurd cc
      of (Some k) is lives_ = latest_own d same (live_last s h d k fits legal is lives_).number

  -- ---- a datagram

  module _ (from : Host) (bytes : List ℕ) (got : Took) (m : Message) (is : got ≡ took_of s l from bytes)
      (reads_so : reading_of bytes ≡ Ok m) (front : outer_row s s.kind l from m ≡ None) where
    abbrev d : CallName
    d = named s from m

    abbrev ready : Looks
    ready = prepared s got (connection_of d) l

    row : took_named s l d m ≡ got
    row = named_row s l from bytes got m is reads_so front

    above : is_busy got ≡ true → channel_of d ≡ channel_of c → c.number < d.number
    above busy same =
        let crowds = side_crowds s.kind (facts_of s l d m) (own_row s (opened s d l) d m)
        (row_calm s (opened s d l) (call_at (opened s d l) d) m) (ap is_busy row ∙ busy) in
        let number : (channel_at l (channel_of d)).number ≡ c.number =
        ap (λ (ch : Channel). (channel_at l ch).number) same ∙ last.number in
        subst (λ (n : ℕ). n < d.number) number (is-below (channel_at l (channel_of d)).number d.number crowds.above)

    busy_leaves : is_busy got ≡ true → Leaves c d (owing_busy d.number)
    busy_leaves busy same p here =
        record {
          abort = here.abort;
          ackall = here.ackall;
          busy = λ n owed. (let one : d.number ≡ n = cc (owed) in
              subst (λ (k : ℕ). c.number < k) one (above busy same));
        }

    over_leaves : got ≡ tooks.Over → (k : CallRecord) → call_at ready d ≡ Some k
        → Leaves c d (owing_again m.body k.life)
    over_leaves over k at same p here =
        let own : d ≡ c = latest_own d same (latest_number s l d m got refl row
        (ap (λ (g : Took). may_abort g m.body) over)) in
        let one : ◌≡◌ {A = Option CallRecord} (Some q) (Some k) =
        sym there ∙ ap (call_at l) (sym own)
        ∙ sym (call-by d l ready (calls-prepared s got (connection_of d) l)) ∙ at in
        let same_q : q ≡ k = cc (one) in
        subst (Hushes c) (sym (again_none m.body k.life
        (subst (λ (j : CallRecord). is_active j.life ≡ true) same_q active) p)) here

    stops_so : (body : Body) → m.body ≡ body → StopsSo c s d body
    stops_so (bodies.Response text) at = absurd (no_response s s.kind l from m text mute at front)
    stops_so _ at = tt

    takes_so : (g : Took) → got ≡ g → TakesSo c s g d m.body ready
    takes_so tooks.Busy same = busy_leaves (ap is_busy same)
    takes_so tooks.NoRoom same = busy_leaves (ap is_busy same)
    takes_so tooks.Over same = over_leaves same
    takes_so tooks.Stopped same = stops_so m.body refl
    takes_so _ same = tt

  pub reads_leave : (from : Host) (bytes : List ℕ) (got : Took) (reading : Result Message BadMsg)
      → got ≡ took_of s l from bytes → reading_of bytes ≡ reading → ReadsSo c s l from reading got
  reads_leave from bytes got (Err bad) is reading_is = tt
  reads_leave from bytes got (Ok m) is reading_is = λ front. takes_so from bytes got m is reading_is front got refl
