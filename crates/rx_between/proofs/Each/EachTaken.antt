-- What a datagram that a node takes makes of each of its calls: its own message is heard, kept or answered by its end;
-- another's changes it only where it stops the connection, is answered Busy, or starts a later call.
use Rattle.std.proofs.Common.{◌≡◌, ◌⊎◌, ◌==◌, cond, if◌then◌else◌, nat_lt, ℕ, ℤ, Bool, true, false, List}
use Rattle.std.proofs.Common.{Option, Some, None, option_map, Result, Ok, Err, refl, ◌∙◌, ap, sym, subst, inl, inr}
use Rattle.rx_model.specs.declared.answers.BadMsg.{BadMsg}
use Rattle.rx_model.specs.declared.answers.Took.{Took}
use Rattle.rx_model.specs.declared.answers.Took.TheVariants as tooks
use Rattle.rx_model.specs.declared.event.Event.{Event}
use Rattle.rx_model.specs.declared.event.Event.TheVariants as events
use Rattle.rx_model.specs.declared.names.CallName.{CallName}
use Rattle.rx_model.specs.declared.names.Host.{Host}
use Rattle.rx_model.specs.declared.wire.TheConstants.{RX_CALL_DEAD, RX_PROTOCOL_ERROR}
use Rattle.rx_model.specs.Body.{AckBody, Body}
use Rattle.rx_model.specs.Body as bodies
use Rattle.rx_model.specs.Message.{Message}
use Rattle.rx_model.specs.Names.{channel_of, connection_of, same_connection, same_name}
use Rattle.rx_model.specs.Reading.{reading_of}
use Rattle.rx_model.proofs.NameLaws.{connection_is, name_is, same_number}
use Rattle.rx_rules.specs.After.{challenged}
use Rattle.rx_rules.specs.After.{prepared, settled, stopped_all, taken_at}
use Rattle.rx_rules.specs.After.{taken_behind, taken_data, taken_heard, taken_message, taken_over, taken_stopped}
use Rattle.rx_rules.specs.After.{taken_with, turned_away, with_first}
use Rattle.rx_rules.specs.CallLooks.{CallLooks, NodeView}
use Rattle.rx_rules.specs.CallLooks.{after_taken, call_row, fresh_call}
use Rattle.rx_rules.specs.Judging.{opened, outer_row, took_named, took_of, took_reading, else_row}
use Rattle.rx_rules.specs.Life.{Life, after_accept, after_acks, after_cancel, after_code, after_end, after_finish}
use Rattle.rx_rules.specs.Life.{after_gone, after_later, after_silence}
use Rattle.rx_rules.specs.Life as lives
use Rattle.rx_rules.specs.Looks.{CallRecord, Looks, call_at, channel_at, latest_name, on_call}
use Rattle.rx_rules.specs.Looks.{on_life}
use Rattle.rx_rules.specs.Records.{started_later}
use Rattle.rx_rules.specs.Setup.{Setup, named, pace_of}
use Rattle.rx_rules.specs.Slots.{node_view}
use Rattle.rx_rules.proofs.CallsLaws.{call_at-on_calls}
use Rattle.rx_rules.proofs.FindLaws.{find_passes}
use Rattle.rx_rules.proofs.StartLaws.{call_at-other}
use Rattle.rx_history.proofs.Calls.{call-changed}
use Rattle.rx_history.proofs.Events.{call-by, calls-prepared, calls-turned}
use Rattle.rx_history.proofs.Moments.{now-prepared}
use Rattle.rx_history.proofs.Room.RoomTaken.{challenged-calls}
use Rattle.rx_history.proofs.Takes.{call_at-any}
use Rattle.rx_between.proofs.Each.EachStep.{CallStep, EndStep, Goes, IsBusyBy, IsFollowedBy, IsMade, Judges, LifeStep}
use Rattle.rx_between.proofs.Each.EachStep.{Opens}
use Rattle.rx_between.proofs.Each.EachStep.{Starts, Stops, Takes, TellsCode, ViewOf, is_own, is_start}
use Rattle.rx_between.proofs.Each.EachStep as steps
use Rattle.rx_between.proofs.OwnRows.{OwnRows, own_rows}
use Rattle.rx_between.proofs.Prepared.{prepared_number}
use Rattle.rx_between.proofs.Each.EachChange.{changed_twice, some_is, step_from, step_life, step_looks, step_on}
use Rattle.rx_between.proofs.Each.EachChange.{step_same, step_stays, taken_alike}

module _ (s : Setup) (l : Looks) (c : CallName) where
  -- ---- a message is taken

  module _ (from : Host) (bytes : List ℕ) (m : Message) (is_read : reading_of bytes ≡ Ok m)
      (front : outer_row s s.kind l from m ≡ None) where
    abbrev d : CallName
    d = named s from m

    abbrev taken : Took → Event
    taken got = events.Taken from bytes got

    -- with its connection
    abbrev ready : Took → Looks
    ready got = prepared s got (connection_of d) l

    -- its call may start by it
    abbrev is_later : Bool
    is_later = nat_lt (channel_at l (channel_of d)).number d.number

    judges : (got : Took) → Judges s l (taken got) d m got
    judges got = record { from = from; bytes = bytes; is = refl; reads = is_read; front = front; name = refl }

    judges_own : (got : Took) → c ≡ d → Judges s l (taken got) c m got
    judges_own got same =
        record { from = from; bytes = bytes; is = refl; reads = is_read; front = front; name = sym same }

    ready_by : (got : Took) (k : CallRecord) → call_at (ready got) c ≡ Some k → call_at l c ≡ Some k
    ready_by got k there = sym (call-by c l (ready got) (calls-prepared s got (connection_of d) l)) ∙ there

    -- the call that is there takes it
    takes_there : (got : Took) → OwnRows s l d m got → is_own got ≡ true → is_later ≡ false → c ≡ d → (k : CallRecord)
        → call_at l c ≡ Some k
        → Takes s l (taken got) c k.looks (after_taken (node_view s (ready got)) got m k.looks)
    takes_there got rows own below same k there =
        let r = rows.there below in
        let one : r.call ≡ k =
        some_is r.call k (sym r.there ∙ ap (λ (n : CallName). call_at l n) (sym same) ∙ there) in
        record {
          message = m;
          got = got;
          judges = judges_own got same;
          own = own;
          view = rows.view;
          view_is = rows.view_is;
          row = subst (λ (j : CallRecord). call_row rows.view m m.body j.looks ≡ got) one r.row;
          is =
              taken_alike (node_view s (ready got)) rows.view got m k.looks (sym rows.view_is.client)
              (now-prepared s got (connection_of d) l ∙ sym rows.view_is.now);
        }

    not_later : (got : Took) → OwnRows s l d m got → is_start got ≡ false → is_later ≡ false
    not_later got rows rests = of is_later refl
      where
        of : (b : Bool) → is_later ≡ b → b ≡ false
        of true above = absurd (let starts : is_start got ≡ true = rows.starts above in cc (starts, rests))
        of false below = refl

    -- data of a call that is there
    data_there : (got : Took) → OwnRows s l d m got → is_own got ≡ true → is_later ≡ false
        → CallStep s l (taken got) c (call_at (ready got) c) (call_at (taken_data s got d m (ready got)) c)
    data_there got rows own below =
        let at : Looks = taken_at s got d m (ready got) in
        let behind : Looks = record at { firsts = with_first got d m.seq (ready got).firsts } in
        subst (λ (o : Option CallRecord). CallStep s l (taken got) c (call_at (ready got) c) o)
        (sym (call-by c behind (challenged s d behind) (challenged-calls s d behind)))
        (step_looks s l c (taken got) d (after_taken (node_view s (ready got)) got m) (ready got)
        (λ k same there. steps.takes (takes_there got rows own below same k (ready_by got k there))))

    -- it starts
    begins : (got : Took) → OwnRows s l d m got → is_own got ≡ true → is_later ≡ true → c ≡ d
        → (o : Option CallRecord)
        → CallStep s l (taken got) c o
        (Some (record {
          name = d;
          life = lives.Waiting;
          looks =
              after_taken (node_view s (started_later s d (ready got))) got m
              (fresh_call (pace_of s) (ready got).now);
        }))
    begins got rows own above same o = by o
      where
        v : NodeView
        v = node_view s (started_later s d (ready got))

        now : (ready got).now ≡ l.now
        now = now-prepared s got (connection_of d) l

        takes : Takes s l (taken got) c (fresh_call (pace_of s) l.now)
            (after_taken v got m (fresh_call (pace_of s) (ready got).now))
        takes =
            record {
              message = m;
              got = got;
              judges = judges_own got same;
              own = own;
              view = rows.view;
              view_is = rows.view_is;
              row = rows.fresh above;
              is =
                  taken_alike v rows.view got m (fresh_call (pace_of s) (ready got).now)
                  (sym rows.view_is.client) (now ∙ sym rows.view_is.now)
                  ∙ ap (λ (t : ℕ). after_taken rows.view got m (fresh_call (pace_of s) t)) now;
            }

        above_ready : nat_lt (channel_at (ready got) (channel_of d)).number d.number ≡ true
        above_ready = ap (λ (n : ℕ). nat_lt n d.number) (prepared_number s got l (channel_of d)) ∙ above

        opens : Opens s l (taken got) c (record {
          name = d;
          life = lives.Waiting;
          looks = after_taken v got m (fresh_call (pace_of s) (ready got).now);
        })
        opens =
            record {
              takes = takes;
              starts = rows.starts above;
              above =
                  subst (λ (n : CallName). nat_lt (channel_at (prepared s got (connection_of n) l)
                  (channel_of n)).number n.number ≡ true) (sym same) above_ready;
              life = refl;
            }

        by : (o : Option CallRecord) → CallStep s l (taken got) c o (Some (record {
          name = d;
          life = lives.Waiting;
          looks = after_taken v got m (fresh_call (pace_of s) (ready got).now);
        }))
        by None = (sym same, inl opens)
        by (Some k) = inr (sym same, inl opens)

    -- a call of its channel that isn't its own
    followed : (got : Took) → is_start got ≡ true
        → nat_lt (channel_at (ready got) (channel_of d)).number d.number ≡ true
        → CallStep s l (taken got) c (call_at (ready got) c)
        (call_at (on_life (latest_name (ready got) (channel_of d)) after_later (ready got)) c)
    followed got starts above =
        step_life s l c (taken got) (latest_name (ready got) (channel_of d)) after_later (ready got)
        (λ k same. steps.is_followed
        (record {
          message = m;
          later = d;
          got = got;
          judges = judges got;
          starts = starts;
          latest = same;
          above =
              subst (λ (n : ℕ). nat_lt n d.number ≡ true) (sym (ap (λ (n : CallName). n.number) same)) above;
        }) refl)

    -- data that may start its call
    data_starts : (got : Took) → OwnRows s l d m got → is_own got ≡ true → is_start got ≡ true
        → CallStep s l (taken got) c (call_at (ready got) c)
        (call_at (taken_data s got d m (opened s d (ready got))) c)
    data_starts got rows own starts = of (nat_lt (channel_at (ready got) (channel_of d)).number d.number) refl
      where
        same_later : is_later ≡ nat_lt (channel_at (ready got) (channel_of d)).number d.number
        same_later = ap (λ (n : ℕ). nat_lt n d.number) (sym (prepared_number s got l (channel_of d)))

        r : Looks
        r = started_later s d (ready got)

        new : CallRecord
        new = record { name = d; life = lives.Waiting; looks = fresh_call (pace_of s) (ready got).now }

        change : CallRecord → CallRecord
        change k = record k { looks = after_taken (node_view s r) got m k.looks }

        left : call_at (taken_data s got d m r) c ≡ cond (same_name c d) (option_map change (call_at r c)) (call_at r c)
        left =
            call-by c (record (taken_at s got d m r) { firsts = with_first got d m.seq r.firsts })
            (taken_data s got d m r)
            (challenged-calls s d (record (taken_at s got d m r) { firsts = with_first got d m.seq r.firsts }))
            ∙ call-changed c d change r (λ k. refl)

        ended : Looks
        ended = on_life (latest_name (ready got) (channel_of d)) after_later (ready got)

        own_starts : is_later ≡ true → (b : Bool) → same_name c d ≡ b
            → nat_lt (channel_at (ready got) (channel_of d)).number d.number ≡ true
            → CallStep s l (taken got) c (call_at (ready got) c)
            (cond b (option_map change (call_at r c)) (call_at r c))
        own_starts above true same here =
            subst (λ (o : Option CallRecord). CallStep s l (taken got) c (call_at (ready got) c) (option_map change o))
            (sym (call_at-any c new ended (sym (name_is c d same)) (call_at ended c) refl))
            (begins got rows own above (name_is c d same) (call_at (ready got) c))
        own_starts above false other here =
            subst (λ (o : Option CallRecord). CallStep s l (taken got) c (call_at (ready got) c) o)
            (sym (call_at-other c new ended other (call_at ended c) refl)) (followed got starts here)

        of : (b : Bool) → nat_lt (channel_at (ready got) (channel_of d)).number d.number ≡ b
            → CallStep s l (taken got) c (call_at (ready got) c)
            (call_at (taken_data s got d m (if b then r else ready got)) c)
        of true above =
            subst (λ (o : Option CallRecord). CallStep s l (taken got) c (call_at (ready got) c) o) (sym left)
            (own_starts (same_later ∙ above) (same_name c d) refl above)
        of false below = data_there got rows own (same_later ∙ below)

    -- another message that is heard
    heard : OwnRows s l d m tooks.Heard
        → CallStep s l (taken tooks.Heard) c (call_at (ready tooks.Heard) c)
        (call_at (taken_heard s d m.body (taken_at s tooks.Heard d m (ready tooks.Heard))) c)
    heard rows = of m.body
      where
        r : Looks
        r = ready tooks.Heard

        change : CallLooks → CallLooks
        change = after_taken (node_view s r) tooks.Heard m

        takes : (k : CallRecord) → c ≡ d → call_at r c ≡ Some k
            → Takes s l (taken tooks.Heard) c k.looks (change k.looks)
        takes k same there =
            takes_there tooks.Heard rows refl (not_later tooks.Heard rows refl) same k (ready_by tooks.Heard k there)

        plain : CallStep s l (taken tooks.Heard) c (call_at r c) (call_at (taken_at s tooks.Heard d m r) c)
        plain = step_looks s l c (taken tooks.Heard) d change r (λ k same there. steps.takes (takes k same there))

        settles : CallStep s l (taken tooks.Heard) c (call_at r c)
            (call_at (on_call d settled (taken_at s tooks.Heard d m r)) c)
        settles =
            step_on s l c (taken tooks.Heard) d (λ k. settled (record k { looks = change k.looks })) r
            (on_call d settled (taken_at s tooks.Heard d m r))
            (changed_twice c d (λ k. record k { looks = change k.looks }) settled r (λ k. refl) (λ k. refl))
            (λ k same there. record {
              name = refl;
              end = steps.takes (takes k same there);
              life = steps.is_acked m (judges_own tooks.Heard same) refl;
            })

        of : (body : Body) → CallStep s l (taken tooks.Heard) c (call_at r c)
            (call_at (taken_heard s d body (taken_at s tooks.Heard d m r)) c)
        of (bodies.Ack a) =
            subst (λ (o : Option CallRecord). CallStep s l (taken tooks.Heard) c (call_at r c) o)
            (sym (call-by c (on_call d settled (taken_at s tooks.Heard d m r))
            (challenged s d (on_call d settled (taken_at s tooks.Heard d m r)))
            (challenged-calls s d (on_call d settled (taken_at s tooks.Heard d m r))))) settles
        of bodies.AckAll = settles
        of _ = plain

    -- a code reaches it, or all of its connection
    stopped : CallStep s l (taken tooks.Stopped) c (call_at (ready tooks.Stopped) c)
        (call_at (taken_stopped d m.body (ready tooks.Stopped)) c)
    stopped = of m.body refl
      where
        r : Looks
        r = ready tooks.Stopped

        stops : (code : ℤ) → TellsCode m.body code → (d ≡ c) ⊎ ((m.number ≡ 0) × (connection_of d ≡ connection_of c))
            → Stops s l (taken tooks.Stopped) c code
        stops code tells whose =
            record { message = m; call = d; judges = judges tooks.Stopped; tells = tells; of = whose }

        one : (code : ℤ) → TellsCode m.body code
            → CallStep s l (taken tooks.Stopped) c (call_at r c) (call_at (on_life d (after_code code) r) c)
        one code tells =
            step_life s l c (taken tooks.Stopped) d (after_code code) r
            (λ k same. steps.is_stopped code (stops code tells (inl (sym same))) refl)

        coded : (code : ℤ) → CallRecord → CallRecord
        coded code k =
            if same_connection (connection_of k.name) (connection_of d) then record k { life = after_code code k.life }
            else k

        coded_name : (code : ℤ) (k : CallRecord) → (coded code k).name ≡ k.name
        coded_name code k = by (same_connection (connection_of k.name) (connection_of d))
          where
            by : (b : Bool) → (if b then record k { life = after_code code k.life } else k).name ≡ k.name
            by true = refl
            by false = refl

        all : (code : ℤ) → TellsCode m.body code → (d.number == 0) ≡ true
            → CallStep s l (taken tooks.Stopped) c (call_at r c) (call_at (stopped_all (connection_of d) code r) c)
        all code tells none =
            subst (λ (o : Option CallRecord). CallStep s l (taken tooks.Stopped) c (call_at r c) o)
            (sym (call_at-on_calls c (coded code) r (coded_name code))) (each (call_at r c) refl)
          where
            each : (o : Option CallRecord) → call_at r c ≡ o
                → CallStep s l (taken tooks.Stopped) c o (option_map (coded code) o)
            each None there = tt
            each (Some k) there = inl (by (same_connection (connection_of k.name) (connection_of d)) refl)
              where
                name : k.name ≡ c
                name = name_is k.name c (find_passes (λ j. same_name j.name c) r.calls k there)

                by : (b : Bool) → same_connection (connection_of k.name) (connection_of d) ≡ b
                    → Goes s l (taken tooks.Stopped) c k
                    (if b then record k { life = after_code code k.life } else k)
                by true same =
                    record {
                      name = refl;
                      end = steps.stays refl;
                      life =
                          steps.is_stopped code
                          (stops code tells (inr (
                            same_number d.number 0 none,
                            sym (connection_is (connection_of k.name) (connection_of d) same) ∙ ap connection_of name,
                          ))) refl;
                    }
                by false other = record { name = refl; end = steps.stays refl; life = steps.lives_on refl }

        of : (body : Body) → m.body ≡ body
            → CallStep s l (taken tooks.Stopped) c (call_at r c) (call_at (taken_stopped d body r) c)
        of (bodies.Abort code) at = by (d.number == 0) refl
          where
            tells : TellsCode m.body code
            tells = subst (λ (b : Body). TellsCode b code) (sym at) refl

            by : (b : Bool) → (d.number == 0) ≡ b → CallStep s l (taken tooks.Stopped) c (call_at r c)
                (call_at (if b then stopped_all (connection_of d) code r else on_life d (after_code code) r) c)
            by true none = all code tells none
            by false some = one code tells
        of (bodies.Response given) at =
            one RX_PROTOCOL_ERROR (subst (λ (b : Body). TellsCode b RX_PROTOCOL_ERROR) (sym at) refl)
        of _ at = step_stays s l c (taken tooks.Stopped) (call_at r c)

    -- its channel's call breaks
    busy : CallStep s l (taken tooks.Busy) c (call_at (ready tooks.Busy) c)
        (call_at (taken_with s tooks.Busy d m (ready tooks.Busy)) c)
    busy =
        step_life s l c (taken tooks.Busy) (latest_name (ready tooks.Busy) (channel_of d)) (after_code RX_CALL_DEAD)
        (ready tooks.Busy)
        (λ k same. steps.is_busy (record { message = m; later = d; judges = judges tooks.Busy; latest = same }) refl)

    over_calls : (body : Body) (o : Option CallRecord) (r : Looks) → (taken_over d body o r).calls ≡ r.calls
    over_calls body None r = refl
    over_calls body (Some k) r = refl

    -- by the answer
    with_step : (got : Took) → took_named s l d m ≡ got
        → CallStep s l (taken got) c (call_at (ready got) c) (call_at (taken_with s got d m (ready got)) c)
    with_step tooks.Kept answer =
        data_starts tooks.Kept (own_rows s l d m tooks.Kept refl refl answer) refl refl
    with_step tooks.NoSlot answer =
        data_starts tooks.NoSlot (own_rows s l d m tooks.NoSlot refl refl answer) refl refl
    with_step tooks.Repeat answer =
        (let rows = own_rows s l d m tooks.Repeat refl refl answer in
        data_there tooks.Repeat rows refl (not_later tooks.Repeat rows refl))
    with_step tooks.Beyond answer =
        (let rows = own_rows s l d m tooks.Beyond refl refl answer in
        data_there tooks.Beyond rows refl (not_later tooks.Beyond rows refl))
    with_step tooks.Clash answer =
        (let rows = own_rows s l d m tooks.Clash refl refl answer in
        data_there tooks.Clash rows refl (not_later tooks.Clash rows refl))
    with_step tooks.Heard answer = heard (own_rows s l d m tooks.Heard refl refl answer)
    with_step tooks.Stopped answer = stopped
    with_step tooks.Busy answer = busy
    with_step tooks.NoRoom answer = step_stays s l c (taken tooks.NoRoom) (call_at (ready tooks.NoRoom) c)
    with_step tooks.Over answer =
        subst (λ (o : Option CallRecord). CallStep s l (taken tooks.Over) c (call_at (ready tooks.Over) c) o)
        (sym (call-by c (ready tooks.Over) (taken_with s tooks.Over d m (ready tooks.Over))
        (over_calls m.body (call_at (ready tooks.Over) d) (ready tooks.Over))))
        (step_stays s l c (taken tooks.Over) (call_at (ready tooks.Over) c))
    with_step tooks.Full answer = step_stays s l c (taken tooks.Full) (call_at (ready tooks.Full) c)
    with_step tooks.Old answer = step_stays s l c (taken tooks.Old) (call_at (ready tooks.Old) c)
    with_step tooks.Unserved answer = step_stays s l c (taken tooks.Unserved) (call_at (ready tooks.Unserved) c)
    with_step tooks.Foreign answer = step_stays s l c (taken tooks.Foreign) (call_at (ready tooks.Foreign) c)
    with_step tooks.Strange answer = step_stays s l c (taken tooks.Strange) (call_at (ready tooks.Strange) c)
    with_step (tooks.Bad bad) answer = step_stays s l c (taken (tooks.Bad bad)) (call_at (ready (tooks.Bad bad)) c)

  -- a datagram is taken
  pub step_taken : (from : Host) (bytes : List ℕ) (got : Took) → got ≡ took_of s l from bytes
      → CallStep s l (events.Taken from bytes got) c (call_at l c)
      (call_at (taken_message s from (reading_of bytes) got l) c)
  step_taken from bytes got answer = of (reading_of bytes) refl
    where
      of : (reading : Result Message BadMsg) → reading_of bytes ≡ reading
          → CallStep s l (events.Taken from bytes got) c (call_at l c) (call_at (taken_message s from reading got l) c)
      of (Err bad) reads = step_stays s l c (events.Taken from bytes got) (call_at l c)
      of (Ok m) reads = by (outer_row s s.kind l from m) refl
        where
          by : (row : Option Took) → outer_row s s.kind l from m ≡ row
              → CallStep s l (events.Taken from bytes got) c (call_at l c)
              (call_at (taken_behind s row from (named s from m) m got l) c)
          by (Some row) front =
              step_same s l c (events.Taken from bytes got) (turned_away row from m l) (calls-turned row from m l)
          by None front =
              (let judged : took_of s l from bytes ≡ took_named s l (named s from m) m =
              ap (took_reading s l from) reads
              ∙ ap (λ (o : Option Took). else_row o (took_named s l (named s from m) m)) front in
              step_from s l c (events.Taken from bytes got) (prepared s got (connection_of (named s from m)) l) _
              (calls-prepared s got (connection_of (named s from m)) l)
              (with_step from bytes m reads front got (sym judged ∙ sym answer)))
