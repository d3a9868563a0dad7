-- What a taking makes of each call.
use Rattle.std.proofs.Common.{◌≡◌, ◌⊎◌, ◌==◌, ℕ, cond, if◌then◌else◌, nat_lt, Bool, true, false, List}
use Rattle.std.proofs.Common.{◌∷◌, Option, Some, None, option_map, refl, ◌∙◌, ap, sym, subst, inl, inr}
use Rattle.rx_model.specs.declared.answers.End.{End}
use Rattle.rx_model.specs.declared.answers.End.TheVariants as ends
use Rattle.rx_model.specs.declared.answers.Took.{Took}
use Rattle.rx_model.specs.declared.answers.Took.TheVariants as tooks
use Rattle.rx_model.specs.declared.names.CallName.{CallName}
use Rattle.rx_model.specs.declared.wire.TheConstants.{RX_CALL_DEAD, RX_PROTOCOL_ERROR}
use Rattle.rx_history.specs.Streams.{end_of_life}
use Rattle.rx_rules.specs.After.{is_ok_end, stopped_all, challenged, taken_at, taken_data}
use Rattle.rx_rules.specs.After.{taken_heard, taken_over, taken_stopped, taken_with, with_first}
use Rattle.rx_model.specs.Body.{Body}
use Rattle.rx_model.specs.Body as bodies
use Rattle.rx_rules.specs.CallLooks.{CallLooks, NodeView, after_chunk, after_taken, fresh_call, packet_of}
use Rattle.rx_rules.specs.Judging.{opened}
use Rattle.rx_rules.specs.Life.{Life, after_code, after_later, is_waiting}
use Rattle.rx_rules.specs.Life as lives
use Rattle.rx_rules.specs.Looks.{CallRecord, Looks, call_at, channel_at, latest_name, on_life}
use Rattle.rx_model.specs.Message.{Message}
use Rattle.rx_model.specs.Names.{channel_of, connection_of, same_connection, same_name}
use Rattle.rx_rules.specs.Received.{Packet}
use Rattle.std.specs.List.{find, list_any}
use Rattle.rx_rules.proofs.CallsLaws.{call_at-on_calls}
use Rattle.rx_rules.proofs.FindLaws.{find_passes, list_any-some}
use Rattle.rx_rules.specs.Records.{with_call, started, started_later}
use Rattle.rx_rules.specs.Setup.{Setup, pace_of}
use Rattle.rx_rules.specs.Slots.{node_view}
use Rattle.rx_model.proofs.NameLaws.{name_is}
use Rattle.rx_rules.proofs.StartLaws.{call_at-new, call_at-other, replaced}
use Rattle.rx_history.proofs.Ends.{Ends, ends_in, Moves, kept_moves, same_moves}
use Rattle.rx_history.proofs.Lives.{is_running, later-moves, code-moves}
use Rattle.rx_history.proofs.Calls.{Calls, body-ends, found-ends, call-changed, calls-challenged, calls-coded}
use Rattle.rx_history.proofs.Calls.{calls-heard}
use Rattle.rx_history.proofs.Calls.{calls-on_life}
use Rattle.rx_history.proofs.Calls.{calls-over, calls-stopped_all}
use Rattle.rx_history.proofs.Turns.{Still, SendsOf, Turn, still-refl, still-trans, calls-still, started-still}
use Rattle.rx_history.proofs.Turns.{still-turn}
use Rattle.rx_history.proofs.Turns.{streams-turn}
use Rattle.rx_history.proofs.Turns.{turn-before, turn-behind}

-- ---- hypotheses on what comes

-- a code that reaches the call is a cause of its end
abbrev pub StopCause : (End → Type 0) → CallName → CallName → Body → Type 0
StopCause Cause c d (bodies.Abort code) =
    (same_name c d ≡ true) ⊎ ((d.number == 0) ≡ true) × (same_connection (connection_of c) (connection_of d) ≡ true)
    → Cause (ends.Abort code)
StopCause Cause c d (bodies.Response bytes) = same_name c d ≡ true → Cause (ends.Abort RX_PROTOCOL_ERROR)
StopCause Cause c d _ = Unit {0}

-- the same by the answer; a packet that is kept comes
abbrev pub TakenWhy : (End → Type 0) → (Packet → Type 0) → CallName → CallName → Message → Took → Type 0
TakenWhy Cause Comes c d m tooks.Kept =
    (payload : List ℕ) → same_name c d ≡ true → m.body ≡ bodies.Chunk payload → Comes (packet_of m payload)
TakenWhy Cause Comes c d m tooks.Stopped = StopCause Cause c d m.body
TakenWhy Cause Comes c d m tooks.Busy = Cause (ends.Abort RX_CALL_DEAD)
TakenWhy Cause Comes c d m _ = Unit {0}

-- a call that starts has no record
abbrev pub Opens : Type 0 → CallName → Looks → CallName → Type 0
Opens Safe c l d = same_name c d ≡ true → Safe → nat_lt (channel_at l (channel_of d)).number d.number ≡ true
    → call_at l d ≡ None

-- the same where the answer may start it
abbrev pub OpensBy : Type 0 → CallName → Looks → CallName → Took → Type 0
OpensBy Safe c l d tooks.Kept = Opens Safe c l d
OpensBy Safe c l d tooks.NoSlot = Opens Safe c l d
OpensBy Safe c l d _ = Unit {0}

pub opens-by : (Safe : Type 0) (c : CallName) (l : Looks) (d : CallName) (got : Took) → Opens Safe c l d
    → OpensBy Safe c l d got
opens-by Safe c l d tooks.Kept opens = opens
opens-by Safe c l d tooks.NoSlot opens = opens
opens-by Safe c l d _ opens = tt

-- ---- what a data packet leaves

pub chunk-ends : (v : NodeView) (m : Message) (body : Body) (k : CallLooks)
    → (ends_in (after_chunk v tooks.Repeat m body k) ≡ ends_in k)
    × (ends_in (after_chunk v tooks.Beyond m body k) ≡ ends_in k)
    × (ends_in (after_chunk v tooks.Clash m body k) ≡ ends_in k)
    × (ends_in (after_chunk v tooks.NoSlot m body k) ≡ ends_in k)
chunk-ends v m (bodies.Chunk payload) k =
    (found-ends v.client k, found-ends v.client k, found-ends v.client k, found-ends v.client k)
chunk-ends v m _ k = (refl, refl, refl, refl)

-- the new record is found, whether there was one or none
pub call_at-any : (c : CallName) (new : CallRecord) (l : Looks) → new.name ≡ c → (o : Option CallRecord) → call_at l c
    ≡ o
    → find (λ k. same_name k.name c) (with_call new l.calls) ≡ Some new
call_at-any c new l named None is = call_at-new c new l named is
call_at-any c new l named (Some k) is =
    let own : same_name k.name c ≡ true = find_passes (λ j. same_name j.name c) l.calls k is in
    let any : list_any (λ j. same_name j.name new.name) l.calls ≡ true =
    subst (λ (n : CallName). list_any (λ j. same_name j.name n) l.calls ≡ true) (sym named)
    (list_any-some (λ j. same_name j.name c) l.calls k is) in
    let is_new : replaced new k ≡ new = rw (named, own) refl in
    rw any (call_at-on_calls c (replaced new) l (replaced-name new) ∙ ap (option_map (replaced new)) is
    ∙ ap (λ (j : CallRecord). Some j) is_new)
  where
    replaced-name : (n k : CallRecord) → (replaced n k).name ≡ k.name
    replaced-name n k =
        (elim (same_name k.name n.name) as (λ b. same_name k.name n.name ≡ b → (cond b n k).name ≡ k.name) [
          | true ↦ λ same. sym (name_is k.name n.name same)
          | false ↦ λ other. refl
        ]) refl

module _ (Safe Served Good : Type 0) (Cause : End → Type 0) (Comes : Packet → Type 0) (c : CallName) where
  calls-turn : (a b : Option CallRecord) → Calls Cause a b → Turn Safe Served Good Cause Comes a b
  calls-turn a b q = still-turn Safe Served Good Cause Comes a b (calls-still Safe Served Good Cause a b q)

  refl-turn : (a : Option CallRecord) → Turn Safe Served Good Cause Comes a a
  refl-turn a = still-turn Safe Served Good Cause Comes a a (still-refl Safe Served Good Cause a)

  -- ---- a start

  pub start-still : (s : Setup) (life : Life) (d : CallName) (l : Looks) → is_running life ≡ false
      → is_ok_end life ≡ false → end_of_life life ≡ None → (same_name c d ≡ true → (Safe → call_at l d ≡ None) × Good)
      → Still Safe Served Good Cause (call_at l c) (call_at (started s life d l) c)
  start-still s life d l rests lives on new =
      let k : CallRecord = record { name = d; life = life; looks = fresh_call (pace_of s) l.now } in
      (elim (same_name c d) as (λ b. same_name c d ≡ b → Still Safe Served Good Cause (call_at l c)
      (call_at (started s life d l) c)) [
        | true ↦ λ same. (
            let is : c ≡ d = name_is c d same in
            let none : Safe → call_at l c ≡ None = λ y. subst (λ (n : CallName). call_at l n ≡ None) (sym is)
            ((new same).0 y) in
            let there : call_at (started s life d l) c ≡ Some k = call_at-any c k l (sym is) (call_at l c) refl in
            subst (λ (o : Option CallRecord). Still Safe Served Good Cause (call_at l c) o) (sym there)
            (started-still Safe Served Good Cause (call_at l c) k none rests lives on refl (new same).1))
        | false ↦ λ other.
            subst (λ (o : Option CallRecord). Still Safe Served Good Cause (call_at l c) o)
            (sym (call_at-other c k l other (call_at l c) refl)) (still-refl Safe Served Good Cause (call_at l c))
      ]) refl

  still-none : (a b : Option CallRecord) → Calls Cause a b → a ≡ None → b ≡ None
  still-none None None q is = refl
  still-none None (Some b) q is = absurd q
  still-none (Some a) b q is = absurd cc

  opened-still : (s : Setup) (d : CallName) (l : Looks) → Opens Safe c l d → (same_name c d ≡ true → Good)
      → Still Safe Served Good Cause (call_at l c) (call_at (opened s d l) c)
  opened-still s d l opens good =
      let ended : Looks = on_life (latest_name l (channel_of d)) after_later l in
      (elim (nat_lt (channel_at l (channel_of d)).number d.number)
      as (λ b. nat_lt (channel_at l (channel_of d)).number d.number ≡ b
      → Still Safe Served Good Cause (call_at l c) (call_at (cond b (started_later s d l) l) c)) [
        | true ↦ λ above.
            still-trans Safe Served Good Cause (call_at l c) (call_at ended c) (call_at (started_later s d l) c)
            (calls-still Safe Served Good Cause (call_at l c) (call_at ended c)
            (calls-on_life Cause c (latest_name l (channel_of d)) after_later l (later-moves Cause)))
            (start-still s lives.Waiting d ended refl refl refl
            (λ same. (
              (λ y. still-none (call_at l d) (call_at ended d)
                  (calls-on_life Cause d (latest_name l (channel_of d)) after_later l (later-moves Cause))
                  (opens same y above)),
              good same,
            )))
        | false ↦ λ below. still-refl Safe Served Good Cause (call_at l c)
      ]) refl

  -- ---- a packet

  kept-turn : (v : NodeView) (m : Message) (body : Body) (k : CallRecord) → m.body ≡ body
      → ((payload : List ℕ) → m.body ≡ bodies.Chunk payload → Comes (packet_of m payload))
      → Turn Safe Served Good Cause Comes (Some k) (Some (record k { looks = after_chunk v tooks.Kept m body k.looks }))
  kept-turn v m (bodies.Chunk payload) k is comes =
      let same = found-ends v.client k.looks in
      streams-turn Safe Served Good Cause Comes k (record k {
        looks = after_chunk v tooks.Kept m
            (bodies.Chunk payload) k.looks;
      })
      refl (ap (λ (x : Ends). x.shut) same) refl
      (λ safe. subst (λ (x : Ends). Moves Comes (ends_in k.looks)
      (record x { kept = packet_of m payload ∷ k.looks.received.kept })) (sym same)
      (kept_moves Comes (ends_in k.looks) (packet_of m payload) (comes payload is)))
      (λ sends. subst SendsOf (sym same) sends)
  kept-turn v m _ k is comes = refl-turn (Some k)

  taken_at-turn : (s : Setup) (got : Took) (d : CallName) (m : Message) (l : Looks)
      → ((k : CallRecord) → same_name c d ≡ true
      → Turn Safe Served Good Cause Comes (Some k)
      (Some (record k { looks = after_taken (node_view s l) got m k.looks })))
      → Turn Safe Served Good Cause Comes (call_at l c) (call_at (taken_at s got d m l) c)
  taken_at-turn s got d m l turns =
      subst (λ (o : Option CallRecord). Turn Safe Served Good Cause Comes (call_at l c) o)
      (sym (call-changed c d change l (λ k. refl))) (of (same_name c d) (call_at l c) (λ k is. turns k is))
    where
      change : CallRecord → CallRecord
      change k = record k { looks = after_taken (node_view s l) got m k.looks }

      of : (b : Bool) (o : Option CallRecord)
          → ((k : CallRecord) → b ≡ true → Turn Safe Served Good Cause Comes (Some k) (Some (change k)))
          → Turn Safe Served Good Cause Comes o (cond b (option_map change o) o)
      of true None turns = refl-turn None
      of true (Some k) turns = turns k refl
      of false o turns = refl-turn o

  same-turn : (a b : CallRecord) → b.life ≡ a.life → ends_in b.looks ≡ ends_in a.looks
      → Turn Safe Served Good Cause Comes (Some a) (Some b)
  same-turn a b life same =
      streams-turn Safe Served Good Cause Comes a b life (ap (λ (x : Ends). x.shut) same)
      (ap (λ (x : Ends). x.ended) same)
      (λ safe. same_moves Comes (ends_in a.looks) (ends_in b.looks) same) (λ sends. subst SendsOf (sym same) sends)

  data-turn : (s : Setup) (got : Took) (d : CallName) (m : Message) (l : Looks)
      → ((k : CallRecord) → same_name c d ≡ true
      → Turn Safe Served Good Cause Comes (Some k)
      (Some (record k { looks = after_taken (node_view s l) got m k.looks })))
      → Turn Safe Served Good Cause Comes (call_at l c) (call_at (taken_data s got d m l) c)
  data-turn s got d m l turns =
      let behind : Looks = record (taken_at s got d m l) { firsts = with_first got d m.seq l.firsts } in
      turn-behind Safe Served Good Cause Comes (call_at l c) (call_at behind c) (call_at (challenged s d behind) c)
      (taken_at-turn s got d m l turns)
      (calls-still Safe Served Good Cause (call_at behind c) (call_at (challenged s d behind) c)
      (calls-challenged Cause s c d behind))

  -- ---- by the answer

  stopped-turn : (d : CallName) (body : Body) (l : Looks) → StopCause Cause c d body
      → Turn Safe Served Good Cause Comes (call_at l c) (call_at (taken_stopped d body l) c)
  stopped-turn d (bodies.Abort code) l why =
      (elim (d.number == 0) as (λ b. (d.number == 0) ≡ b → Turn Safe Served Good Cause Comes (call_at l c)
      (call_at (if b then stopped_all (connection_of d) code l else on_life d (after_code code) l) c)) [
        | true ↦ λ all.
            calls-turn (call_at l c) (call_at (stopped_all (connection_of d) code l) c)
            (calls-stopped_all Cause c (connection_of d) code l (λ same. why (inr (all, same))))
        | false ↦ λ one.
            calls-turn (call_at l c) (call_at (on_life d (after_code code) l) c)
            (calls-coded Cause c d code l (λ same. why (inl same)))
      ]) refl
  stopped-turn d (bodies.Response bytes) l why =
      calls-turn (call_at l c) (call_at (on_life d (after_code RX_PROTOCOL_ERROR) l) c)
      (calls-coded Cause c d RX_PROTOCOL_ERROR l why)
  stopped-turn d _ l why = refl-turn (call_at l c)

  pub with-turn : (s : Setup) (got : Took) (d : CallName) (m : Message) (l : Looks) → OpensBy Safe c l d got
      → (same_name c d ≡ true → Good)
      → TakenWhy Cause Comes c d m got → Turn Safe Served Good Cause Comes (call_at l c)
      (call_at (taken_with s got d m l) c)
  with-turn s tooks.Kept d m l opens good why =
      turn-before Safe Served Good Cause Comes (call_at l c) (call_at (opened s d l) c)
      (call_at (taken_with s tooks.Kept d m l) c)
      (opened-still s d l opens good)
      (data-turn s tooks.Kept d m (opened s d l)
      (λ k same. kept-turn (node_view s (opened s d l)) m m.body k refl (λ payload is. why payload same is)))
  with-turn s tooks.NoSlot d m l opens good why =
      turn-before Safe Served Good Cause Comes (call_at l c) (call_at (opened s d l) c)
      (call_at (taken_with s tooks.NoSlot d m l) c)
      (opened-still s d l opens good)
      (data-turn s tooks.NoSlot d m (opened s d l)
      (λ k same. same-turn k _ refl (chunk-ends (node_view s (opened s d l)) m m.body k.looks).3))
  with-turn s tooks.Repeat d m l opens good why =
      data-turn s tooks.Repeat d m l (λ k same. same-turn k _ refl (chunk-ends (node_view s l) m m.body k.looks).0)
  with-turn s tooks.Beyond d m l opens good why =
      data-turn s tooks.Beyond d m l (λ k same. same-turn k _ refl (chunk-ends (node_view s l) m m.body k.looks).1)
  with-turn s tooks.Clash d m l opens good why =
      data-turn s tooks.Clash d m l (λ k same. same-turn k _ refl (chunk-ends (node_view s l) m m.body k.looks).2)
  with-turn s tooks.Heard d m l opens good why =
      let heard : Looks = taken_at s tooks.Heard d m l in
      turn-behind Safe Served Good Cause Comes (call_at l c) (call_at heard c)
      (call_at (taken_heard s d m.body heard) c)
      (taken_at-turn s tooks.Heard d m l (λ k same. same-turn k _ refl (body-ends l.now m m.body k.looks)))
      (calls-still Safe Served Good Cause (call_at heard c) (call_at (taken_heard s d m.body heard) c)
      (calls-heard Cause s c d m.body heard))
  with-turn s tooks.Stopped d m l opens good why = stopped-turn d m.body l why
  with-turn s tooks.Busy d m l opens good why =
      calls-turn (call_at l c) (call_at (taken_with s tooks.Busy d m l) c)
      (calls-on_life Cause c (latest_name l (channel_of d)) (after_code RX_CALL_DEAD) l
      (λ x. code-moves Cause RX_CALL_DEAD x (λ is. why)))
  with-turn s tooks.NoRoom d m l opens good why = refl-turn (call_at l c)
  with-turn s tooks.Over d m l opens good why =
      calls-turn (call_at l c) (call_at (taken_over d m.body (call_at l d) l) c)
      (calls-over Cause c d m.body (call_at l d) l)
  with-turn s _ d m l opens good why = refl-turn (call_at l c)
