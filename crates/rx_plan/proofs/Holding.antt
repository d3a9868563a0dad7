-- What holds of a server's call holds behind each event that neither reads nor writes it, where it holds through
-- changes that leave the bytes said and read, through steps of its life, and through its start.
use Rattle.std.proofs.Common.{◌≡◌, ◌==◌, cond, if◌then◌else◌, nat_lt, ℕ, ℤ, Bool, true, false}
use Rattle.std.proofs.Common.{drop, List, Option, Some, None, option_map, Result, Ok, Err, refl, ◌∙◌, ap, sym, subst}
use Rattle.std.specs.List.{find}
use Rattle.rx_model.specs.declared.answers.BadMsg.{BadMsg}
use Rattle.rx_model.specs.declared.answers.ServeRefused.{ServeRefused}
use Rattle.rx_model.specs.declared.answers.ServeRefused.TheVariants as refusals
use Rattle.rx_model.specs.declared.answers.Took.{Took}
use Rattle.rx_model.specs.declared.answers.Took.TheVariants as tooks
use Rattle.rx_model.specs.declared.event.Event.{Event}
use Rattle.rx_model.specs.declared.event.Event.TheVariants as events
use Rattle.rx_model.specs.declared.names.CallName.{CallName}
use Rattle.rx_model.specs.declared.names.Host.{Host}
use Rattle.rx_model.specs.declared.wire.TheConstants.{RX_CALL_DEAD, RX_PROTOCOL_ERROR}
use Rattle.rx_model.specs.Body.{Body}
use Rattle.rx_model.specs.Body as bodies
use Rattle.rx_model.specs.Message.{Message}
use Rattle.rx_model.specs.Names.{Connection, channel_of, connection_of, same_connection, same_name}
use Rattle.rx_model.specs.Reading.{reading_of}
use Rattle.rx_model.specs.Strays.{is_stray}
use Rattle.rx_model.proofs.NameLaws.{name_is}
use Rattle.rx_rules.specs.After.{acknowledged, after, challenged, counted, finish_done, finished, given_body}
use Rattle.rx_rules.specs.After.{given_by, given_message, is_end, is_zero, owing_abort, prepared, settled, stopped_all}
use Rattle.rx_rules.specs.After.{taken_at, taken_behind, taken_data, taken_heard, taken_message, taken_over}
use Rattle.rx_rules.specs.After.{taken_stopped, taken_with, turned_away, with_first}
use Rattle.rx_rules.specs.CallLooks.{CallLooks, after_ack_given, after_piece}
use Rattle.rx_rules.specs.CallLooks.{after_read, after_shut, after_taken, after_write, fresh_call, is_delivered}
use Rattle.rx_rules.specs.Judging.{opened, outer_row}
use Rattle.rx_rules.specs.Life.{Life, after_accept, after_acks, after_code, after_end, after_finish, after_gone}
use Rattle.rx_rules.specs.Life.{after_later, after_silence}
use Rattle.rx_rules.specs.Life as lives
use Rattle.rx_rules.specs.Looks.{CallRecord, Looks, call_at, channel_at, latest_name}
use Rattle.rx_rules.specs.Looks.{on_call, on_calls, on_channel, on_life, on_looks}
use Rattle.rx_rules.specs.Records.{is_silent, silence_of, silenced}
use Rattle.rx_rules.specs.Records.{started, started_later, unless_silent}
use Rattle.rx_rules.specs.Rules.{AllowedServer}
use Rattle.rx_rules.specs.Setup.{Setup, named, pace_of}
use Rattle.rx_rules.specs.Slots.{node_view}
use Rattle.rx_rules.proofs.CallsLaws.{KeepsNames, call_at-on_call, call_at-on_calls, changed_if, changed_if-name}
use Rattle.rx_rules.proofs.FindLaws.{find_passes}
use Rattle.rx_rules.proofs.StartLaws.{call_at-new, call_at-other}
use Rattle.rx_plan.proofs.Passed.{LeavesStreams, StartsAnew, StartsAnewAt, StartsAnewBy, StartsAnewOf}
use Rattle.rx_plan.proofs.Passed.{none_passed, passed_in, taken-leaves}
use Rattle.rx_history.proofs.LifeFalls.{Falls, accept_falls, acks_falls, code_falls, end_falls, finish_falls}
use Rattle.rx_history.proofs.LifeFalls.{gone_falls, later_falls, silence_falls}
use Rattle.rx_history.proofs.Events.{calls-prepared, calls-turned}
use Rattle.rx_history.proofs.Room.RoomTaken.{challenged-calls}

module _ (P : Option CallRecord → Type 0)
    (on_streams : (k : CallRecord) (new : CallLooks) → passed_in new ≡ passed_in k.looks → P (Some k)
    → P (Some (record k { looks = new })))
    (on_lives : (k : CallRecord) (life : Life) → Falls k.life life → P (Some k) → P (Some (record k { life = life })))
    (on_start : (k : CallRecord) → passed_in k.looks ≡ none_passed → P None → P (Some k)) where
  -- ---- changes

  -- it holds of the call
  abbrev pub Holds : CallName → Looks → Type 0
  Holds c l = P (call_at l c)

  -- look-ups with the same calls
  pub holds-by : (c : CallName) (l m : Looks) → m.calls ≡ l.calls → Holds c l → Holds c m
  holds-by c l m same held =
      subst (λ (ks : List CallRecord). P (find (λ k. same_name k.name c) ks)) (sym same) held

  -- a change through which it holds
  abbrev pub Bears : (CallRecord → CallRecord) → Type 0
  Bears change = (k : CallRecord) → P (Some k) → P (Some (change k))

  bears-map : (change : CallRecord → CallRecord) (o : Option CallRecord) → Bears change → P o → P (option_map change o)
  bears-map change None bears held = held
  bears-map change (Some k) bears held = bears k held

  pub holds-on_calls : (c : CallName) (change : CallRecord → CallRecord) (l : Looks) → KeepsNames change → Bears change
      → Holds c l → Holds c (on_calls change l)
  holds-on_calls c change l names bears held =
      subst P (sym (call_at-on_calls c change l names)) (bears-map change (call_at l c) bears held)

  bears-if : (test : Bool) (change : CallRecord → CallRecord) (k : CallRecord) → Bears change → P (Some k)
      → P (Some (cond test (change k) k))
  bears-if true change k bears held = bears k held
  bears-if false change k bears held = held

  pub holds-on_call : (c d : CallName) (change : CallRecord → CallRecord) (l : Looks) → KeepsNames change
      → Bears change → Holds c l → Holds c (on_call d change l)
  holds-on_call c d change l names bears held =
      holds-on_calls c (changed_if d change) l (λ k. changed_if-name (same_name k.name d) change k (names k))
      (λ k here. bears-if (same_name k.name d) change k bears here) held

  pub holds-on_life : (c d : CallName) (change : Life → Life) (l : Looks) → ((x : Life) → Falls x (change x))
      → Holds c l → Holds c (on_life d change l)
  holds-on_life c d change l falls held =
      holds-on_call c d (λ k. record k { life = change k.life }) l (λ k. refl)
      (λ k here. on_lives k (change k.life) (falls k.life) here) held

  pub holds-on_looks : (c d : CallName) (change : CallLooks → CallLooks) (l : Looks)
      → ((k : CallLooks) → passed_in (change k) ≡ passed_in k) → Holds c l → Holds c (on_looks d change l)
  holds-on_looks c d change l leaves held =
      holds-on_call c d (λ k. record k { looks = change k.looks }) l (λ k. refl)
      (λ k here. on_streams k (change k.looks) (leaves k.looks) here) held

  -- another call changes
  pub holds-other : (c d : CallName) (change : CallRecord → CallRecord) (l : Looks) → KeepsNames change
      → same_name c d ≡ false → Holds c l → Holds c (on_call d change l)
  holds-other c d change l names other held =
      subst P (sym (call_at-on_call c d change l names ∙ of (call_at l c) refl)) held
    where
      of : (o : Option CallRecord) → call_at l c ≡ o → option_map (changed_if d change) o ≡ o
      of None is = refl
      of (Some k) is =
          (let name : k.name ≡ c = name_is k.name c (find_passes (λ j. same_name j.name c) l.calls k is) in
          let apart : same_name k.name d ≡ false = subst (λ (n : CallName). same_name n d ≡ false) (sym name) other in
          ap (λ (b : Bool). Some (cond b (change k) k)) apart)

  -- ---- a message is taken

  holds-taken_at : (s : Setup) (got : Took) (c d : CallName) (m : Message) (l : Looks) → Holds c l
      → Holds c (taken_at s got d m l)
  holds-taken_at s got c d m l held =
      holds-on_looks c d (after_taken (node_view s l) got m) l (taken-leaves (node_view s l) got m) held

  holds-data : (s : Setup) (got : Took) (c d : CallName) (m : Message) (l : Looks) → Holds c l
      → Holds c (taken_data s got d m l)
  holds-data s got c d m l held =
      let at : Looks = taken_at s got d m l in
      let first : Looks = record at { firsts = with_first got d m.seq l.firsts } in
      holds-by c first (challenged s d first) (challenged-calls s d first) (holds-taken_at s got c d m l held)

  settled-holds : (k : CallRecord) → P (Some k) → P (Some (settled k))
  settled-holds k held =
      on_lives k (after_acks (is_delivered k.looks) k.life) (acks_falls (is_delivered k.looks) k.life) held

  holds-heard : (s : Setup) (c d : CallName) (body : Body) (l : Looks) → Holds c l → Holds c (taken_heard s d body l)
  holds-heard s c d (bodies.Ack a) l held =
      holds-by c (on_call d settled l) (challenged s d (on_call d settled l))
      (challenged-calls s d (on_call d settled l))
      (holds-on_call c d settled l (λ k. refl) settled-holds held)
  holds-heard s c d bodies.AckAll l held = holds-on_call c d settled l (λ k. refl) settled-holds held
  holds-heard s c d (bodies.Response bytes) l held = held
  holds-heard s c d (bodies.Challenge bytes) l held = held
  holds-heard s c d _ l held = held

  coded-name : (test : Bool) (code : ℤ) (k : CallRecord)
      → (cond test (record k { life = after_code code k.life }) k).name ≡ k.name
  coded-name true code k = refl
  coded-name false code k = refl

  coded-holds : (test : Bool) (code : ℤ) (k : CallRecord) → P (Some k)
      → P (Some (cond test (record k { life = after_code code k.life }) k))
  coded-holds true code k held = on_lives k (after_code code k.life) (code_falls code k.life) held
  coded-holds false code k held = held

  holds-stopped_all : (c : CallName) (x : Connection) (code : ℤ) (l : Looks) → Holds c l
      → Holds c (stopped_all x code l)
  holds-stopped_all c x code l held =
      holds-on_calls c
      (λ k. if same_connection (connection_of k.name) x then record k { life = after_code code k.life } else k) l
      (λ k. coded-name (same_connection (connection_of k.name) x) code k)
      (λ k here. coded-holds (same_connection (connection_of k.name) x) code k here) held

  holds-stopped : (c d : CallName) (body : Body) (l : Looks) → Holds c l → Holds c (taken_stopped d body l)
  holds-stopped c d (bodies.Abort code) l held = of (d.number == 0)
    where
      of : (b : Bool) → Holds c (if b then stopped_all (connection_of d) code l else on_life d (after_code code) l)
      of true = holds-stopped_all c (connection_of d) code l held
      of false = holds-on_life c d (after_code code) l (code_falls code) held
  holds-stopped c d (bodies.Response bytes) l held =
      holds-on_life c d (after_code RX_PROTOCOL_ERROR) l (code_falls RX_PROTOCOL_ERROR) held
  holds-stopped c d _ l held = held

  holds-over : (c d : CallName) (body : Body) (o : Option CallRecord) (l : Looks) → Holds c l
      → Holds c (taken_over d body o l)
  holds-over c d body None l held = held
  holds-over c d body (Some k) l held = held

  holds-started : (s : Setup) (life : Life) (c d : CallName) (l : Looks)
      → (same_name c d ≡ true → call_at l c ≡ None) → Holds c l → Holds c (started s life d l)
  holds-started s life c d l none held = of (same_name c d) refl
    where
      new : CallRecord
      new = record { name = d; life = life; looks = fresh_call (pace_of s) l.now }

      of : (b : Bool) → same_name c d ≡ b → Holds c (started s life d l)
      of true same =
          subst P (sym (call_at-new c new l (sym (name_is c d same)) (none same)))
          (on_start new refl (subst P (none same) held))
      of false other = subst P (sym (call_at-other c new l other (call_at l c) refl)) held

  holds-opened : (s : Setup) (c d : CallName) (l : Looks) → StartsAnew c d l → Holds c l → Holds c (opened s d l)
  holds-opened s c d l anew held = of (nat_lt (channel_at l (channel_of d)).number d.number) refl
    where
      later : Looks
      later = on_life (latest_name l (channel_of d)) after_later l

      none-later : call_at l c ≡ None → call_at later c ≡ None
      none-later none =
          call_at-on_call c (latest_name l (channel_of d)) (λ k. record k { life = after_later k.life }) l (λ k. refl)
          ∙ ap (option_map (changed_if (latest_name l (channel_of d)) (λ k. record k { life = after_later k.life })))
          none

      of : (b : Bool) → nat_lt (channel_at l (channel_of d)).number d.number ≡ b
          → Holds c (if b then started_later s d l else l)
      of true above =
          holds-started s lives.Waiting c d later (λ same. none-later (anew same above))
          (holds-on_life c (latest_name l (channel_of d)) after_later l later_falls held)
      of false low = held

  holds-with : (s : Setup) (got : Took) (c d : CallName) (m : Message) (l : Looks) → StartsAnewBy got c d l → Holds c l
      → Holds c (taken_with s got d m l)
  holds-with s tooks.Kept c d m l anew held =
      holds-data s tooks.Kept c d m (opened s d l) (holds-opened s c d l anew held)
  holds-with s tooks.NoSlot c d m l anew held =
      holds-data s tooks.NoSlot c d m (opened s d l) (holds-opened s c d l anew held)
  holds-with s tooks.Repeat c d m l anew held = holds-data s tooks.Repeat c d m l held
  holds-with s tooks.Beyond c d m l anew held = holds-data s tooks.Beyond c d m l held
  holds-with s tooks.Clash c d m l anew held = holds-data s tooks.Clash c d m l held
  holds-with s tooks.Heard c d m l anew held =
      holds-heard s c d m.body (taken_at s tooks.Heard d m l) (holds-taken_at s tooks.Heard c d m l held)
  holds-with s tooks.Stopped c d m l anew held = holds-stopped c d m.body l held
  holds-with s tooks.Busy c d m l anew held =
      holds-on_life c (latest_name l (channel_of d)) (after_code RX_CALL_DEAD) l (code_falls RX_CALL_DEAD) held
  holds-with s tooks.NoRoom c d m l anew held = held
  holds-with s tooks.Over c d m l anew held = holds-over c d m.body (call_at l d) l held
  holds-with s tooks.Full c d m l anew held = held
  holds-with s tooks.Old c d m l anew held = held
  holds-with s tooks.Unserved c d m l anew held = held
  holds-with s tooks.Foreign c d m l anew held = held
  holds-with s tooks.Strange c d m l anew held = held
  holds-with s (tooks.Bad bad) c d m l anew held = held

  holds-taken : (s : Setup) (from : Host) (reading : Result Message BadMsg) (got : Took) (c : CallName) (l : Looks)
      → StartsAnewOf s l from reading got c → Holds c l → Holds c (taken_message s from reading got l)
  holds-taken s from (Err bad) got c l anew held = held
  holds-taken s from (Ok m) got c l anew held = behind (outer_row s s.kind l from m) refl
    where
      d : CallName
      d = named s from m

      behind : (row : Option Took) → outer_row s s.kind l from m ≡ row → Holds c (taken_behind s row from d m got l)
      behind (Some row) is = holds-by c l (turned_away row from m l) (calls-turned row from m l) held
      behind None is =
          (let ready : Looks = prepared s got (connection_of d) l in
          holds-with s got c d m ready (anew is)
          (holds-by c l ready (calls-prepared s got (connection_of d) l) held))

  -- ---- a message is given

  piece-leaves : (now seq : ℕ) (k : CallLooks) → passed_in (after_piece now seq k) ≡ passed_in k
  piece-leaves now seq k = refl

  holds-given_body : (c d : CallName) (m : Message) (body : Body) (l : Looks) → Holds c l
      → Holds c (given_body d m body l)
  holds-given_body c d m (bodies.Chunk payload) l held =
      holds-on_looks c d (after_piece l.now m.seq) l (piece-leaves l.now m.seq) held
  holds-given_body c d m (bodies.Ack a) l held = holds-on_looks c d (after_ack_given l.now) l (λ k. refl) held
  holds-given_body c d m (bodies.Abort code) l held = held
  holds-given_body c d m bodies.Busy l held = held
  holds-given_body c d m (bodies.Challenge bytes) l held = held
  holds-given_body c d m (bodies.Response bytes) l held = held
  holds-given_body c d m bodies.AckAll l held = held

  holds-given_message : (s : Setup) (to : Host) (reading : Result Message BadMsg) (c : CallName) (l : Looks) → Holds c l
      → Holds c (given_message s to reading l)
  holds-given_message s to (Err bad) c l held = held
  holds-given_message s to (Ok m) c l held = of (is_stray m m.body)
    where
      d : CallName
      d = named s to m

      of : (b : Bool) → Holds c (if b then record l { strays = drop 1 l.strays }
          else given_body d m m.body (counted (connection_of d) l))
      of true = held
      of false = holds-given_body c d m m.body (counted (connection_of d) l) held

  holds-given : (s : Setup) (got : Option (Host × List ℕ)) (c : CallName) (l : Looks) → Holds c l
      → Holds c (given_by s got l)
  holds-given s None c l held = held
  holds-given s (Some (to, bytes)) c l held = holds-given_message s to (reading_of bytes) c l held

  silent-name : (test : Bool) (now : ℕ) (k : CallRecord)
      → (cond test (record k { life = after_silence (silence_of now k) k.life }) k).name ≡ k.name
  silent-name true now k = refl
  silent-name false now k = refl

  silent-holds : (test : Bool) (now : ℕ) (k : CallRecord) → P (Some k)
      → P (Some (cond test (record k { life = after_silence (silence_of now k) k.life }) k))
  silent-holds true now k held =
      on_lives k (after_silence (silence_of now k) k.life) (silence_falls (silence_of now k) k.life) held
  silent-holds false now k held = held

  holds-silenced : (c : CallName) (l : Looks) → Holds c l → Holds c (silenced l)
  holds-silenced c l held =
      holds-on_calls c (unless_silent l.now) l (λ k. silent-name (is_silent l.now k) l.now k)
      (λ k here. silent-holds (is_silent l.now k) l.now k here) held

  -- ---- the handler's calls

  holds-finished : (c d : CallName) (code : ℤ) (l : Looks) → Holds c l → Holds c (finished d code l)
  holds-finished c d code l held = of (is_zero code)
    where
      of : (b : Bool) → Holds c (if b then on_looks d after_shut l
          else on_channel (channel_of d) (owing_abort (Some code)) l)
      of true = holds-on_looks c d after_shut l (λ k. refl) held
      of false = held

  holds-finish : (c d : CallName) (code : ℤ) (got : Result (Unit {0}) ServeRefused) (l : Looks) → Holds c l
      → Holds c (finish_done d code got l)
  holds-finish c d code (Ok done) l held =
      holds-on_life c d (after_finish (is_zero code) code) (finished d code l) (finish_falls (is_zero code) code)
      (holds-finished c d code l held)
  holds-finish c d code (Err (refusals.Gone told)) l held = holds-on_life c d after_gone l gone_falls held
  holds-finish c d code (Err refusals.NotOpen) l held = held
  holds-finish c d code (Err refusals.Unread) l held = held

  holds-read : (c d : CallName) (end : Bool) (bytes : List ℕ) (l : Looks) → same_name c d ≡ false → Holds c l
      → Holds c (on_life d (after_end end) (on_looks d (after_read l.now end bytes) (acknowledged end d l)))
  holds-read c d end bytes l other held =
      holds-on_life c d (after_end end) (on_looks d (after_read l.now end bytes) (acknowledged end d l)) (end_falls end)
      (holds-other c d (λ k. record k { looks = after_read l.now end bytes k.looks }) (acknowledged end d l) (λ k. refl)
      other held)

  -- ---- an event of a server

  -- it holds behind each that neither reads nor writes the call
  pub holds_after : (s : Setup) (l : Looks) (c : CallName) (e : Event) → AllowedServer s l e → LeavesStreams c e
      → StartsAnewAt s l c e → Holds c l → Holds c (after s e l)
  holds_after s l c (events.Accepted (Some d)) allowed leaves anew held =
      holds-on_life c d after_accept l accept_falls held
  holds_after s l c (events.Accepted None) allowed leaves anew held = held
  holds_after s l c (events.Wrote d offered got bytes) allowed leaves anew held =
      holds-other c d (λ k. record k { looks = after_write bytes k.looks }) l (λ k. refl) leaves held
  holds_after s l c (events.HasRead d max got bytes) allowed leaves anew held =
      holds-read c d (is_end got) bytes l leaves held
  holds_after s l c (events.Finished d code got) allowed leaves anew held = holds-finish c d code got l held
  holds_after s l c (events.Taken from bytes got) allowed leaves anew held =
      holds-taken s from (reading_of bytes) got c l anew held
  holds_after s l c (events.Polled got) allowed leaves anew held =
      holds-given s got c (silenced l) (holds-silenced c l held)
  holds_after s l c (events.Clocked now) allowed leaves anew held = held
  holds_after s l c (events.Linked to service first got) allowed leaves anew held = absurd allowed
  holds_after s l c (events.Called cid got) allowed leaves anew held = absurd allowed
  holds_after s l c (events.Shut d got) allowed leaves anew held = absurd allowed
  holds_after s l c (events.Ended d got) allowed leaves anew held = absurd allowed
  holds_after s l c (events.Cancelled d code got) allowed leaves anew held = absurd allowed
