-- A server's call whose packet 1 is kept is among those that were noted for it, and so one that waits is accepted next
-- where no other waits.
use Rattle.std.proofs.Common.{◌≡◌, ◌==◌, ◌&&◌, ◌||◌, ◌++◌, cond, if◌then◌else◌, not, nat_lt, is_some, ℕ, ℤ, Bool, true}
use Rattle.std.proofs.Common.{false, List, [], ◌∷◌, Option, Some, None, option_map, Result, Ok, Err, refl, ap, sym, ◌∙◌}
use Rattle.std.proofs.Common.{drop, filter}
use Rattle.std.specs.List.{list_any}
use Rattle.rx_model.specs.declared.answers.BadMsg.{BadMsg}
use Rattle.rx_model.specs.declared.answers.ServeRefused.{ServeRefused}
use Rattle.rx_model.specs.declared.answers.ServeRefused.TheVariants as refusals
use Rattle.rx_model.specs.declared.answers.Took.{Took}
use Rattle.rx_model.specs.declared.answers.Took.TheVariants as tooks
use Rattle.rx_model.specs.declared.event.Event.{Event}
use Rattle.rx_model.specs.declared.event.Event.TheVariants as events
use Rattle.rx_model.specs.declared.names.CallName.{CallName}
use Rattle.rx_model.specs.declared.names.Host.{Host}
use Rattle.rx_model.specs.declared.wire.TheConstants.{RX_CALL_DEAD, RX_PROTOCOL_ERROR}
use Rattle.rx_model.specs.Body.{Body}
use Rattle.rx_model.specs.Body as bodies
use Rattle.rx_model.specs.Message.{Message}
use Rattle.rx_model.specs.Names.{Connection, channel_of, connection_of, same_connection, same_name}
use Rattle.rx_model.specs.Reading.{reading_of}
use Rattle.rx_model.specs.Strays.{is_stray}
use Rattle.rx_model.proofs.NameLaws.{name_is, name_sym}
use Rattle.rx_rules.specs.After.{acknowledged, after, challenged, counted, enters, finish_done, finished, given_body}
use Rattle.rx_rules.specs.After.{given_by, given_message, is_end, is_zero, looks, owing_abort, prepared, settled}
use Rattle.rx_rules.specs.After.{stopped_all, taken_at, taken_behind, taken_data, taken_heard, taken_message}
use Rattle.rx_rules.specs.After.{taken_over, taken_stopped, taken_unserved, taken_with, turned_away, with_first}
use Rattle.rx_rules.specs.CallLooks.{CallLooks, NodeView, after_ack_given, after_body, after_chunk, after_piece}
use Rattle.rx_rules.specs.CallLooks.{after_read, after_shut, after_taken, after_write, found, fresh_call, packet_of}
use Rattle.rx_rules.specs.Judging.{opened, outer_row}
use Rattle.rx_rules.specs.Life.{Life, after_accept, after_code, after_end, after_finish, after_gone, after_later}
use Rattle.rx_rules.specs.Life.{after_silence}
use Rattle.rx_rules.specs.Life as lives
use Rattle.rx_rules.specs.Looks.{CallRecord, ConnLooks, Looks, call_at, channel_at, conn_at, is_call, is_proved}
use Rattle.rx_rules.specs.Looks.{latest_name, on_call, on_calls, on_channel, on_life, on_looks}
use Rattle.rx_rules.specs.Received.{packet_at}
use Rattle.rx_rules.specs.Records.{entered, fresh_conn, idle_conn, is_full, is_silent, placed, silence_of, silenced}
use Rattle.rx_rules.specs.Records.{started, started_later, unless_silent, with_conn}
use Rattle.rx_rules.specs.Rules.{AllowedServer, Legal}
use Rattle.rx_rules.specs.Setup.{Client, IsServer, Kind, Server, Setup, is_client, named, pace_of}
use Rattle.rx_rules.specs.Slots.{node_view}
use Rattle.rx_rules.proofs.CallsLaws.{KeepsNames, call_at-on_calls, changed_if, changed_if-name}
use Rattle.rx_rules.proofs.StartLaws.{call_at-other}
use Rattle.rx_history.proofs.Calls.{call-changed}
use Rattle.rx_history.proofs.Laws.OnceLaw.{served}
use Rattle.rx_history.proofs.Takes.{call_at-any}

-- ---- what holds

-- packet 1 of a call is kept
abbrev pub has_first : Option CallRecord → Bool
has_first o = is_call (λ r. is_some (packet_at r.looks.received.kept 1)) o

-- the call is among these
abbrev pub is_among : CallName → List CallName → Bool
is_among c names = list_any (λ d. same_name d c) names

abbrev pub FirstHolds : CallName → Looks → Type 0
FirstHolds c l = has_first (call_at l c) ≡ true → is_among c l.firsts ≡ true

module _ (c : CallName) where
  abbrev Holds : Looks → Type 0
  Holds l = FirstHolds c l

  -- ---- changes that leave which packets are kept

  -- of one record
  abbrev KeepsKept : (CallRecord → CallRecord) → Type 0
  KeepsKept change = (k : CallRecord) → (change k).looks.received.kept ≡ k.looks.received.kept

  on_all : (change : CallRecord → CallRecord) (l : Looks) → KeepsNames change → KeepsKept change → Holds l
      → Holds (on_calls change l)
  on_all change l names kept holds there =
      holds (sym (ap has_first (call_at-on_calls c change l names) ∙ of (call_at l c)) ∙ there)
    where
      of : (o : Option CallRecord) → has_first (option_map change o) ≡ has_first o
      of None = refl
      of (Some k) = ap (λ ps. is_some (packet_at ps 1)) (kept k)

  on_one : (d : CallName) (change : CallRecord → CallRecord) (l : Looks) → KeepsNames change
      → KeepsKept change → Holds l
      → Holds (on_call d change l)
  on_one d change l names kept holds =
      on_all (changed_if d change) l (λ k. changed_if-name (same_name k.name d) change k (names k))
      (λ k. by (same_name k.name d) k) holds
    where
      by : (b : Bool) (k : CallRecord) → (cond b (change k) k).looks.received.kept ≡ k.looks.received.kept
      by true k = kept k
      by false k = refl

  -- of what passed
  on_passed : (d : CallName) (change : CallLooks → CallLooks) (l : Looks)
      → ((k : CallLooks) → (change k).received.kept ≡ k.received.kept) → Holds l → Holds (on_looks d change l)
  on_passed d change l kept holds =
      on_one d (λ k. record k { looks = change k.looks }) l (λ k. refl) (λ k. kept k.looks) holds

  on_lives : (d : CallName) (change : Life → Life) (l : Looks) → Holds l → Holds (on_life d change l)
  on_lives d change l holds = on_one d (λ k. record k { life = change k.life }) l (λ k. refl) (λ k. refl) holds

  -- ---- a call starts

  filtered : (d : CallName) (names : List CallName) → same_name c d ≡ false
      → is_among c (filter (λ x. not (same_name x d)) names) ≡ is_among c names
  filtered d [] other = refl
  filtered d (x ∷ xs) other = by (filtered d xs other) (same_name x d) refl
    where
      by : is_among c (filter (λ y. not (same_name y d)) xs) ≡ is_among c xs → (b : Bool) → same_name x d ≡ b
          → is_among c (if not b then x ∷ filter (λ y. not (same_name y d)) xs else filter
          (λ y. not (same_name y d)) xs)
          ≡ (same_name x c || is_among c xs)
      by rest false is = ap (λ (b : Bool). same_name x c || b) rest
      by rest true is =
          let own : x ≡ d = name_is x d is in
          let apart : same_name x c ≡ false = ap (λ (y : CallName). same_name y c) own ∙ name_sym d c ∙ other in
          rest ∙ ap (λ (b : Bool). b || is_among c xs) (sym apart)

  on_start : (s : Setup) (d : CallName) (l : Looks) → Holds l → Holds (started s lives.Waiting d l)
  on_start s d l holds = by (same_name c d) refl
    where
      new : CallRecord
      new = record { name = d; life = lives.Waiting; looks = fresh_call (pace_of s) l.now }

      by : (b : Bool) → same_name c d ≡ b → Holds (started s lives.Waiting d l)
      by false other there =
          filtered d l.firsts other
          ∙ holds (ap has_first (sym (call_at-other c new l other (call_at l c) refl)) ∙ there)
      by true same there =
          absurd (let wrong : ◌≡◌ {A = Bool} true false =
          sym there ∙ ap has_first (call_at-any c new l (sym (name_is c d same)) (call_at l c) refl) in cc (wrong))

  on_opened : (s : Setup) (d : CallName) (l : Looks) → Holds l → Holds (opened s d l)
  on_opened s d l holds = by (nat_lt (channel_at l (channel_of d)).number d.number)
    where
      by : (b : Bool) → Holds (if b then started_later s d l else l)
      by true =
          on_start s d (on_life (latest_name l (channel_of d)) after_later l)
          (on_lives (latest_name l (channel_of d)) after_later l holds)
      by false = holds

  -- ---- a connection is entered

  on_placed : (new : ConnLooks) (old : Option ConnLooks) (l : Looks) → Holds l → Holds (placed new old l)
  on_placed new None l holds = holds
  on_placed new (Some old) l holds = holds

  on_prepared : (s : Setup) (got : Took) (x : Connection) (l : Looks) → Holds l → Holds (prepared s got x l)
  on_prepared s got x l holds = by (enters got)
    where
      by_kind : (kind : Kind) → Holds (with_conn s kind x l)
      by_kind (Client host epoch) = holds
      by_kind (Server service nonces) =
          on_placed (fresh_conn x x.host service 1 l) (if is_full s l then idle_conn l else None) l holds

      by_known : (b : Bool) → Holds (if b then l else with_conn s s.kind x l)
      by_known true = holds
      by_known false = by_kind s.kind

      by : (b : Bool) → Holds (if b then entered s x l else l)
      by true = by_known (is_some (conn_at l x))
      by false = holds

  -- ---- a message is taken

  on_challenged : (s : Setup) (d : CallName) (l : Looks) → Holds l → Holds (challenged s d l)
  on_challenged s d l holds = by (not (is_client s.kind) && (s.class.challenges && not (is_proved l (connection_of d))))
    where
      by : (b : Bool)
          → Holds (if b then on_channel (channel_of d) (λ q. record q { owed_challenge = true }) l else l)
      by true = holds
      by false = holds

  found_kept : (client : Bool) (k : CallLooks) → (found client k).received.kept ≡ k.received.kept
  found_kept true k = refl
  found_kept false k = refl

  -- data that isn't kept
  on_data : (s : Setup) (got : Took) (d : CallName) (m : Message) (l : Looks)
      → ((v : NodeView) (k : CallLooks) → (after_taken v got m k).received.kept ≡ k.received.kept)
      → with_first got d m.seq l.firsts ≡ l.firsts → Holds l → Holds (taken_data s got d m l)
  on_data s got d m l kept names holds =
      on_challenged s d (record (taken_at s got d m l) { firsts = with_first got d m.seq l.firsts })
      (λ there. ap (is_among c) names
      ∙ on_passed d (after_taken (node_view s l) got m) l (kept (node_view s l)) holds there)

  abbrev SameKept : Took → NodeView → Message → Body → CallLooks → Type 0
  SameKept got v m body k = (after_chunk v got m body k).received.kept ≡ k.received.kept

  chunk_kept : (v : NodeView) (m : Message) (body : Body) (k : CallLooks)
      → SameKept tooks.Repeat v m body k × SameKept tooks.Beyond v m body k × SameKept tooks.Clash v m body k
      × SameKept tooks.NoSlot v m body k
  chunk_kept v m (bodies.Chunk payload) k =
      (found_kept v.client k, found_kept v.client k, found_kept v.client k, found_kept v.client k)
  chunk_kept v m _ k = (refl, refl, refl, refl)

  body_kept : (now : ℕ) (m : Message) (body : Body) (k : CallLooks)
      → (after_body now m body k).received.kept ≡ k.received.kept
  body_kept now m (bodies.Ack a) k = refl
  body_kept now m bodies.AckAll k = refl
  body_kept now m _ k = refl

  -- data that is kept: packet 1 is noted
  among_more : (d : CallName) (xs : List CallName) → is_among c xs ≡ true → is_among c (xs ++ d ∷ []) ≡ true
  among_more d [] there = absurd cc
  among_more d (x ∷ xs) there = by (λ rest. among_more d xs rest) (same_name x c) there
    where
      by : (is_among c xs ≡ true → is_among c (xs ++ d ∷ []) ≡ true) → (b : Bool) → (b || is_among c xs) ≡ true
          → (b || is_among c (xs ++ d ∷ [])) ≡ true
      by rest true there = refl
      by rest false there = rest there

  among_last : (d : CallName) (xs : List CallName) → same_name d c ≡ true → is_among c (xs ++ d ∷ []) ≡ true
  among_last d [] same = ap (λ (b : Bool). b || false) same
  among_last d (x ∷ xs) same = ap (λ (b : Bool). same_name x c || b) (among_last d xs same) ∙ either (same_name x c)
    where
      either : (b : Bool) → (b || true) ≡ true
      either true = refl
      either false = refl

  kept_first : (v : NodeView) (m : Message) (body : Body) (k : CallLooks) → (m.seq == 1) ≡ false
      → is_some (packet_at (after_chunk v tooks.Kept m body k).received.kept 1) ≡ true
      → is_some (packet_at k.received.kept 1) ≡ true
  kept_first v m (bodies.Chunk payload) k other there =
      ap (λ ps. is_some (packet_at ps 1)) (sym (found_kept v.client k))
      ∙ ap (λ (b : Bool). is_some (cond b (Some (packet_of m payload).piece)
      (packet_at (found v.client k).received.kept 1))) (sym other) ∙ there
  kept_first v m _ k other there = there

  on_kept : (s : Setup) (d : CallName) (m : Message) (l : Looks) → Holds l → Holds (taken_data s tooks.Kept d m l)
  on_kept s d m l holds =
      on_challenged s d (record (taken_at s tooks.Kept d m l) { firsts = with_first tooks.Kept d m.seq l.firsts })
      (λ there. by (m.seq == 1) refl (same_name c d) refl
      (ap has_first (sym (call-changed c d change l (λ k. refl))) ∙ there))
    where
      change : CallRecord → CallRecord
      change k = record k { looks = after_taken (node_view s l) tooks.Kept m k.looks }

      before : (o : Option CallRecord) → (m.seq == 1) ≡ false → has_first (option_map change o) ≡ true
          → has_first o ≡ true
      before None other there = absurd cc
      before (Some k) other there = kept_first (node_view s l) m m.body k.looks other there

      by : (first : Bool) → (m.seq == 1) ≡ first → (own : Bool) → same_name c d ≡ own
          → has_first (cond own (option_map change (call_at l c)) (call_at l c)) ≡ true
          → is_among c (if first then l.firsts ++ d ∷ [] else l.firsts) ≡ true
      by true is true same there = among_last d l.firsts (name_sym d c ∙ same)
      by true is false same there = among_more d l.firsts (holds there)
      by false is true same there = holds (before (call_at l c) is there)
      by false is false same there = holds there

  on_stopped : (d : CallName) (body : Body) (l : Looks) → Holds l → Holds (taken_stopped d body l)
  on_stopped d (bodies.Abort code) l holds = by (d.number == 0)
    where
      coded : CallRecord → CallRecord
      coded k = record k { life = after_code code k.life }

      x : Connection
      x = connection_of d

      one : (b : Bool) (k : CallRecord)
          → ((cond b (coded k) k).name ≡ k.name) × ((cond b (coded k) k).looks.received.kept ≡ k.looks.received.kept)
      one true k = (refl, refl)
      one false k = (refl, refl)

      by : (b : Bool) → Holds (if b then stopped_all (connection_of d) code l else on_life d (after_code code) l)
      by true =
          on_all (λ k. if same_connection (connection_of k.name) x then coded k else k) l
          (λ k. (one (same_connection (connection_of k.name) x) k).0)
          (λ k. (one (same_connection (connection_of k.name) x) k).1) holds
      by false = on_lives d (after_code code) l holds
  on_stopped d (bodies.Response bytes) l holds = on_lives d (after_code RX_PROTOCOL_ERROR) l holds
  on_stopped d _ l holds = holds

  on_heard : (s : Setup) (d : CallName) (body : Body) (l : Looks) → Holds l → Holds (taken_heard s d body l)
  on_heard s d (bodies.Ack a) l holds =
      on_challenged s d (on_call d settled l) (on_one d settled l (λ k. refl) (λ k. refl) holds)
  on_heard s d bodies.AckAll l holds = on_one d settled l (λ k. refl) (λ k. refl) holds
  on_heard s d _ l holds = holds

  on_over : (d : CallName) (body : Body) (o : Option CallRecord) (l : Looks) → Holds l → Holds (taken_over d body o l)
  on_over d body None l holds = holds
  on_over d body (Some k) l holds = holds

  on_taken : (s : Setup) (got : Took) (d : CallName) (m : Message) (l : Looks) → Holds l
      → Holds (taken_with s got d m l)
  on_taken s tooks.Kept d m l holds = on_kept s d m (opened s d l) (on_opened s d l holds)
  on_taken s tooks.NoSlot d m l holds =
      on_data s tooks.NoSlot d m (opened s d l) (λ v k. (chunk_kept v m m.body k).3) refl (on_opened s d l holds)
  on_taken s tooks.Repeat d m l holds = on_data s tooks.Repeat d m l (λ v k. (chunk_kept v m m.body k).0) refl holds
  on_taken s tooks.Beyond d m l holds = on_data s tooks.Beyond d m l (λ v k. (chunk_kept v m m.body k).1) refl holds
  on_taken s tooks.Clash d m l holds = on_data s tooks.Clash d m l (λ v k. (chunk_kept v m m.body k).2) refl holds
  on_taken s tooks.Heard d m l holds =
      on_heard s d m.body (taken_at s tooks.Heard d m l)
      (on_passed d (after_taken (node_view s l) tooks.Heard m) l (λ k. body_kept (node_view s l).now m m.body k) holds)
  on_taken s tooks.Stopped d m l holds = on_stopped d m.body l holds
  on_taken s tooks.Busy d m l holds =
      on_lives (latest_name l (channel_of d)) (after_code RX_CALL_DEAD) l holds
  on_taken s tooks.Over d m l holds = on_over d m.body (call_at l d) l holds
  on_taken s _ d m l holds = holds

  on_unserved : (from : Host) (m : Message) (body : Body) (l : Looks) → Holds l → Holds (taken_unserved from m body l)
  on_unserved from m (bodies.Chunk payload) l holds = holds
  on_unserved from m _ l holds = holds

  on_turned : (row : Took) (from : Host) (m : Message) (l : Looks) → Holds l → Holds (turned_away row from m l)
  on_turned tooks.Unserved from m l holds = on_unserved from m m.body l holds
  on_turned _ from m l holds = holds

  on_behind : (s : Setup) (row : Option Took) (from : Host) (d : CallName) (m : Message) (got : Took) (l : Looks)
      → Holds l → Holds (taken_behind s row from d m got l)
  on_behind s (Some row) from d m got l holds = on_turned row from m l holds
  on_behind s None from d m got l holds =
      on_taken s got d m (prepared s got (connection_of d) l) (on_prepared s got (connection_of d) l holds)

  on_message : (s : Setup) (from : Host) (reading : Result Message BadMsg) (got : Took) (l : Looks) → Holds l
      → Holds (taken_message s from reading got l)
  on_message s from (Err bad) got l holds = holds
  on_message s from (Ok m) got l holds = on_behind s (outer_row s s.kind l from m) from (named s from m) m got l holds

  -- ---- a poll

  on_silenced : (l : Looks) → Holds l → Holds (silenced l)
  on_silenced l holds =
      on_all (unless_silent l.now) l (λ k. (one (is_silent l.now k) k).0) (λ k. (one (is_silent l.now k) k).1) holds
    where
      quiet : CallRecord → CallRecord
      quiet k = record k { life = after_silence (silence_of l.now k) k.life }

      one : (b : Bool) (k : CallRecord)
          → ((cond b (quiet k) k).name ≡ k.name) × ((cond b (quiet k) k).looks.received.kept ≡ k.looks.received.kept)
      one true k = (refl, refl)
      one false k = (refl, refl)

  on_body : (d : CallName) (m : Message) (body : Body) (l : Looks) → Holds l → Holds (given_body d m body l)
  on_body d m (bodies.Chunk payload) l holds = on_passed d (after_piece l.now m.seq) l (λ k. refl) holds
  on_body d m (bodies.Ack a) l holds = on_passed d (after_ack_given l.now) l (λ k. refl) holds
  on_body d m _ l holds = holds

  on_given : (s : Setup) (to : Host) (reading : Result Message BadMsg) (l : Looks) → Holds l
      → Holds (given_message s to reading l)
  on_given s to (Err bad) l holds = holds
  on_given s to (Ok m) l holds = by (is_stray m m.body)
    where
      by : (b : Bool) → Holds (if b then record l { strays = drop 1 l.strays }
          else given_body (named s to m) m m.body (counted (connection_of (named s to m)) l))
      by true = holds
      by false = on_body (named s to m) m m.body (counted (connection_of (named s to m)) l) holds

  on_polled : (s : Setup) (got : Option (Host × List ℕ)) (l : Looks) → Holds l → Holds (given_by s got l)
  on_polled s None l holds = holds
  on_polled s (Some (to, bytes)) l holds = on_given s to (reading_of bytes) l holds

  -- ---- the handlers

  on_finished : (d : CallName) (code : ℤ) (got : Result (Unit {0}) ServeRefused) (l : Looks) → Holds l
      → Holds (finish_done d code got l)
  on_finished d code (Ok done) l holds =
      on_lives d (after_finish (is_zero code) code) (finished d code l) (by (is_zero code))
    where
      by : (b : Bool)
          → Holds (if b then on_looks d after_shut l else on_channel (channel_of d) (owing_abort (Some code)) l)
      by true = on_passed d after_shut l (λ k. refl) holds
      by false = holds
  on_finished d code (Err (refusals.Gone told)) l holds = on_lives d after_gone l holds
  on_finished d code (Err refusals.NotOpen) l holds = holds
  on_finished d code (Err refusals.Unread) l holds = holds

  -- ---- each event of a server

  on_event : (s : Setup) (l : Looks) (e : Event) → AllowedServer s l e → Holds l → Holds (after s e l)
  on_event s l (events.Wrote d offered got bytes) allowed holds = on_passed d (after_write bytes) l (λ k. refl) holds
  on_event s l (events.HasRead d max got bytes) allowed holds =
      on_lives d (after_end (is_end got)) (on_looks d (after_read l.now (is_end got) bytes)
      (acknowledged (is_end got) d l))
      (on_passed d (after_read l.now (is_end got) bytes) (acknowledged (is_end got) d l) (λ k. refl) holds)
  on_event s l (events.Accepted (Some d)) allowed holds = on_lives d after_accept l holds
  on_event s l (events.Accepted None) allowed holds = holds
  on_event s l (events.Finished d code got) allowed holds = on_finished d code got l holds
  on_event s l (events.Taken from bytes got) allowed holds = on_message s from (reading_of bytes) got l holds
  on_event s l (events.Polled got) allowed holds = on_polled s got (silenced l) (on_silenced l holds)
  on_event s l (events.Clocked now) allowed holds = holds
  on_event s l _ allowed holds = absurd allowed

  -- at every moment of a server
  pub firsts_hold : (s : Setup) (h : List Event) → IsServer s.kind → Legal s h → FirstHolds c (looks s h)
  firsts_hold s [] server legal = λ there. absurd cc
  firsts_hold s (e ∷ h) server legal =
      on_event s (looks s h) e (served s.kind s (looks s h) e server legal.0) (firsts_hold s h server legal.1)
