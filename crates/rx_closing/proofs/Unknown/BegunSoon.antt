-- What a client gave of a call that its server doesn't know begins it there, whatever else comes, unless no DATA was
-- among it, the server has no place for its connection, or it is told to wait: the handler of an earlier call of its
-- channel is at work.
use Rattle.std.proofs.Common.{◌≡◌, ◌++◌, nat_lt, ℕ, suc, true, false, List, [], ◌∷◌, Option, Some, None, Ok, refl, inl}
use Rattle.std.proofs.Common.{inr, ◌∙◌, ap, sym, subst, append_assoc}
use Rattle.std.specs.Prelude.{slice_get}
use Rattle.rx_model.specs.declared.answers.Took.{Took}
use Rattle.rx_model.specs.declared.answers.Took.TheVariants as tooks
use Rattle.rx_model.specs.declared.event.Event.{Event}
use Rattle.rx_model.specs.declared.event.Event.TheVariants as events
use Rattle.rx_model.specs.declared.event.Noted.{Noted}
use Rattle.rx_model.specs.declared.names.CallName.{CallName}
use Rattle.rx_model.specs.Body as bodies
use Rattle.rx_model.specs.Message.{Message}
use Rattle.rx_model.specs.Names.{Channel, channel_of, connection_of}
use Rattle.rx_model.specs.Reading.{reading_of}
use Rattle.rx_model.proofs.NameLaws.{host_itself}
use Rattle.rx_rules.specs.After.{after, looks, prepared, taken_with}
use Rattle.rx_rules.specs.CallLooks.{after_taken, call_row}
use Rattle.rx_rules.specs.Judging.{is_data, outer_row, took_named, took_of}
use Rattle.rx_rules.specs.Life.{is_active, is_handled}
use Rattle.rx_rules.specs.Life as lives
use Rattle.rx_rules.specs.Looks.{CallRecord, Looks, call_at, channel_at, is_call, latest, latest_name}
use Rattle.rx_rules.specs.Rules.{Legal}
use Rattle.rx_rules.specs.Setup.{IsServer, Server, named}
use Rattle.rx_rules.proofs.EveryLaws.{Every}
use Rattle.rx_history.specs.Sides.{Node, side}
use Rattle.rx_law.proofs.Joint.{Fed}
use Rattle.rx_law.specs.Promises.{ends_in}
use Rattle.rx_law.specs.Worlds.{Datagram}
use Rattle.rx_wire.specs.Turns.{noted}
use Rattle.rx_between.specs.Agreed.{MakesSense, SenseAt, passed_at}
use Rattle.rx_plan.specs.Network.{delivers}
use Rattle.rx_plan.specs.Parts.{each}
use Rattle.rx_plan.specs.Stages.{Stage}
use Rattle.rx_between.proofs.Each.EachItem.{In}
use Rattle.rx_rounds.proofs.Rounded.{Made}
use Rattle.rx_rounds.proofs.Two.{sent}
use Rattle.rx_model.specs.Body.{AckBody, Body}
use Rattle.rx_closing.proofs.Far.FarStands.{scene_fed}
use Rattle.rx_closing.proofs.Frame.{AreAmong, IsSpacious, OneOf, asked_in, served_in}
use Rattle.rx_closing.proofs.Living.Before.{one_before}
use Rattle.rx_closing.proofs.Messages.Arrives.{Meet, asks_front, server_names, server_sense}
use Rattle.rx_closing.proofs.Messages.BothTake.{server_takes}
use Rattle.rx_closing.proofs.Messages.Delivered.{FirstOf, TookAt, delivers_first, delivers_grow, delivers_none}
use Rattle.rx_closing.proofs.Messages.FullCame.{CameFull}
use Rattle.rx_closing.proofs.Messages.Judged.{judged_by, named_foreign, taken_by}
use Rattle.rx_closing.proofs.Messages.Lasts.{live_last}
use Rattle.rx_closing.proofs.Messages.OneMeets.{one_meets}
use Rattle.rx_closing.proofs.Messages.Opening.{begun_record}
use Rattle.rx_closing.proofs.Messages.Sifted.{IsOwn, Sifted, sifts_none, sifts_other, sifts_own}
use Rattle.rx_closing.proofs.Messages.TakesAll.{IsNotFor}
use Rattle.rx_closing.proofs.Messages.TellsOver.{legal_then}
use Rattle.rx_closing.proofs.Owing.TooMuch.{handled_live}
use Rattle.rx_closing.proofs.Rounds.Chains.{Adds, adds_both}
use Rattle.rx_closing.proofs.Steps.{IsViewAt, TakesIn, takes_one}
use Rattle.rx_closing.proofs.Telling.BusyOwed.{IsToldBusy, busy_owes}
use Rattle.rx_closing.proofs.Unknown.AheadOf.{ahead_at, none_one, room_at}
use Rattle.rx_closing.proofs.Unknown.AheadRows.{WhatComes, ack_strange, ahead_looks, ahead_view, busy_none}
use Rattle.rx_closing.proofs.Unknown.AheadRows.{can_start_so, comes_busy, comes_crowded, comes_first, comes_full}
use Rattle.rx_closing.proofs.Unknown.AheadRows.{first_there, full_none, strange_none, what_comes}
use Rattle.rx_closing.proofs.Unknown.BegunAmong.{BegunAmong, IsTold, begins, from_later, now_left, unknown, with_ack}
use Rattle.rx_closing.proofs.Unknown.BegunAmong.{with_data}
use Rattle.rx_closing.proofs.Unknown.HandledLeft.{IsCalm, LivesSo, Works, busy_left, work_left}
use Rattle.rx_history.proofs.Plain.PlainBodies.{IsSent}

-- ---- deliveries

module _ (c : CallName) (k : ℕ) (client server : Node) (t : Stage) (one : OneOf c k client server t)
    (service nonces : ℕ) (kind : server.setup.kind ≡ Server service nonces) (z v : Stage)
    (till : Adds v.history t.history) (nodes : v.nodes ≡ t.nodes) (a b : CallRecord)
    (asked_first : asked_in c k client z ≡ Some a) (asked_last : asked_in c k client v ≡ Some b)
    (calls_first : a.life ≡ lives.Calling) (calls_last : b.life ≡ lives.Calling) (cs : List CallName) (inside : In c cs)
    (space : IsSpacious cs server.setup)
    (among : (h : List Noted) → Adds z.history h → Adds h v.history → AreAmong cs (looks server.setup (side 0 h)))
    (Else : Datagram → Type 0) (other : (d : Datagram) → Else d → IsNotFor server c d) where
  abbrev fed : Fed (ends_in (connection_of c) (suc k) client server) v.history
  fed = scene_fed c k client server v (one_before c k client server t one v nodes till)

  meet : Meet c k client server service nonces t.history
  meet = one_meets c k client server t one service nonces kind

  serves : IsServer server.setup.kind
  serves = fed.server_kind

  abbrev at_stage : Stage → Looks
  at_stage u = looks server.setup (side 0 u.history)

  -- ---- one of the call's own

  module _ (bytes : List ℕ) (m : Message) (ds1 : List Datagram) (ms1 : List Message) (reads : reading_of bytes ≡ Ok m)
      (own : IsOwn client.setup c service m)
      (rest : Sifted (IsOwn client.setup c service) Else client.host server.host ds1 ms1) (u : Stage)
      (since : Adds z.history u.history) (there : slice_get u.nodes 0 ≡ Some server)
      (f : FirstOf (sent client.host server.host bytes) ds1 u v) (none : call_at (at_stage u) c ≡ None)
      (calm : Every (IsCalm server c) ds1) where
    abbrev w : Stage
    w = f.between

    abbrev l : Looks
    l = at_stage u

    rests : Adds w.history v.history
    rests = (let g = delivers_grow ds1 f.between v f.others in record { more = g.more; is = g.is })

    firsts : Adds u.history f.between.history
    firsts = record { more = f.first.more; is = f.first.grown }

    all_on : Adds u.history v.history
    all_on = adds_both u.history f.between.history v.history firsts rests

    legal_w : Legal server.setup (side 0 f.between.history)
    legal_w = legal_then server c fed.server_fits serves f.between v ds1 f.others fed.server_legal

    took : TookAt 0 server (sent client.host server.host bytes) u.history f.between.history
    took = (f.first.comes 0 server there).takes (host_itself server.host)

    legal_u : Legal server.setup (side 0 u.history)
    legal_u = (subst (Legal server.setup) took.own legal_w).1

    there_w : slice_get f.between.nodes 0 ≡ Some server
    there_w = ap (λ (x : Stage). slice_get x.nodes 0) f.first.rest ∙ there

    number : m.number ≡ c.number
    number = ap (λ (d : CallName). d.number) own.name

    name : named server.setup client.host m ≡ c
    name = server_names c k client server service nonces t.history meet client.host m meet.home own.name

    outer : (q : Looks) → outer_row server.setup server.setup.kind q client.host m ≡ None
    outer q = asks_front c k client server service nonces t.history meet q m own

    ahead : nat_lt (channel_at l (channel_of c)).number c.number ≡ true
    ahead =
        ahead_at c k client server v (one_before c k client server t one v nodes till) z u since all_on a b asked_first
        asked_last calls_first calls_last none

    answer : took_of server.setup l client.host bytes ≡ took_named server.setup l c m
    answer = judged_by server.setup l c client.host bytes m reads (outer l) name

    now_w : (at_stage f.between).now ≡ l.now
    now_w = now_left server (sent client.host server.host bytes) u f.between there f.first

    -- the server's looks behind it, by its row
    behind : (got : Took) → took_named server.setup l c m ≡ got
        → at_stage f.between ≡ taken_with server.setup got c m (prepared server.setup got (connection_of c) l)
    behind got row =
        ap (looks server.setup) took.own
        ∙ ap (λ (g : Took). after server.setup (events.Taken client.host bytes g) l) (answer ∙ row)
        ∙ taken_by server.setup l c client.host bytes m got reads (outer l) name

    -- it makes sense
    sense : MakesSense (call_row (ahead_view server.setup l c m serves ahead number) m m.body
        (ahead_looks server.setup l c m serves ahead number))
    sense =
        (let other_ : took_of server.setup l client.host bytes ≡ tooks.Foreign → ⊥ =
        λ is. named_foreign server.setup l c m own.stream (sym answer ∙ is) in
        let whole : Adds f.between.history t.history =
        adds_both f.between.history v.history t.history rests till in
        let then_ : SenseAt server.setup m (call_at l c) =
        subst (λ (es : List Event). SenseAt server.setup m (call_at (looks server.setup es) c)) took.still
        (server_sense c k client server service nonces t.history meet bytes m
        (took_of server.setup l client.host bytes) (whole.more ++ took.later) took.at own
        (whole.is ∙ ap (λ (es : List Noted). whole.more ++ es) took.is ∙ sym (append_assoc whole.more took.later _))
        reads other_
        (subst (λ (es : List Event). outer_row server.setup server.setup.kind (looks server.setup es) client.host m
        ≡ None) (sym took.still) (outer l)))
        in
        subst (λ (o : Option CallRecord). MakesSense (call_row (ahead_view server.setup l c m serves ahead number) m
        m.body (passed_at server.setup l.now o))) none
        (then_ (ahead_view server.setup l c m serves ahead number) refl refl))

    -- behind it nothing is known
    abbrev Onward : Type 0
    Onward = call_at (at_stage f.between) c ≡ None → BegunAmong c server v f.between ms1

    on_from : BegunAmong c server v f.between ms1 → BegunAmong c server v u ms1
    on_from r = from_later c server v u f.between f.first.more f.first.grown now_w ms1 r

    acked : Onward → (ack : AckBody) → m.body ≡ bodies.Ack ack → BegunAmong c server v u (m ∷ ms1)
    acked onward ack at =
        with_ack c server v u m ms1 (ap is_data at)
        (on_from (onward (ap (λ (q : Looks). call_at q c)
        (behind tooks.Strange (ack_strange server.setup l c m serves ahead number ack at))
        ∙ strange_none server.setup l c m none)))

    full : Onward → took_named server.setup l c m ≡ tooks.Full → BegunAmong c server v u (m ∷ ms1)
    full onward row =
        with_data c server v u m ms1 (inl came)
        (on_from (onward (ap (λ (q : Looks). call_at q c) (behind tooks.Full row)
        ∙ full_none server.setup l c m none)))
      where
        came : CameFull server.setup c u.history v.history
        came =
            record {
              later = rests.more ++ took.later;
              event = events.Taken client.host bytes (took_of server.setup l client.host bytes);
              mid = took.mid;
              are = rests.is
                  ∙ ap (λ (es : List Noted). rests.more ++ es)
                  (took.is
                  ∙ ap (λ (es : List Noted). took.later
                  ++ (noted 0 (events.Taken client.host bytes (took_of server.setup l client.host bytes)) ∷ es))
                  took.front)
                  ∙ sym (append_assoc rests.more took.later _);
              comes = record {
                from = client.host;
                datagram = bytes;
                got = took_of server.setup l client.host bytes;
                is = refl;
                message = m;
                reads = reads;
                of = name;
                such = answer ∙ row;
              };
            }

    -- a handler is at work on its channel
    busy : Onward → is_call (λ (r : CallRecord). is_handled r.life) (latest l (channel_of c)) ≡ true
        → took_named server.setup l c m ≡ tooks.Busy → BegunAmong c server v u (m ∷ ms1)
    busy onward handled row =
        with_data c server v u m ms1 (inr told)
        (on_from (onward (ap (λ (q : Looks). call_at q c) (behind tooks.Busy row)
        ∙ busy_none server.setup l c m none)))
      where
        has : (o : Option CallRecord) → latest l (channel_of c) ≡ o
            → is_call (λ (r : CallRecord). is_handled r.life) o ≡ true → IsToldBusy c (at_stage f.between)
        has None is never = absurd (cc (never))
        has (Some r) is taken_ =
            (let last = live_last server.setup (side 0 u.history) (latest_name l (channel_of c)) r fed.server_fits
            legal_u is (handled_live r.life taken_) in
            subst (IsToldBusy c) (sym (behind tooks.Busy row))
            (busy_owes server.setup l c m r is taken_ last.some))

        it : IsToldBusy c (at_stage f.between)
        it = has (latest l (channel_of c)) refl handled

        told : IsTold c server v
        told =
            busy_left server c fed.server_fits serves it.older it.on ds1 f.between v there_w f.others
            calm fed.server_legal (fed.once it.older (ap (λ (ch : Channel). ch.connection) it.on))
            (record { call = it.call; there = it.there; such = it.handled }) it.owed

    -- it begins
    first_of : (payload : List ℕ) → m.body ≡ bodies.Chunk payload
        → took_named server.setup l c m
        ≡ call_row (ahead_view server.setup l c m serves ahead number) m m.body
        (ahead_looks server.setup l c m serves ahead number) → BegunAmong c server v u (m ∷ ms1)
    first_of payload at row =
        begins [] ms1 m refl (ap is_data at) on.call on.there takes
      where
        got : Took
        got =
            call_row (ahead_view server.setup l c m serves ahead number) m m.body
            (ahead_looks server.setup l c m serves ahead number)

        r : CallRecord
        r = record (begun_record server.setup c l.now) {
          looks = after_taken (ahead_view server.setup l c m serves ahead number)
              (call_row (ahead_view server.setup l c m serves ahead number) m m.body
              (ahead_looks server.setup l c m serves ahead number)) m
              (ahead_looks server.setup l c m serves ahead number);
        }

        starts : call_at (at_stage f.between) c ≡ Some r
        starts =
            ap (λ (q : Looks). call_at q c) (behind got row)
            ∙ first_there server.setup l c m serves ahead number got
            (can_start_so server.setup l c m serves ahead number payload at sense).starts

        on : LivesSo (Works server c fed.server_fits serves lives.Waiting) (served_in c server v)
        on =
            work_left server c fed.server_fits serves ds1 f.between v there_w f.others fed.server_legal
            (fed.once c refl) r starts

        view : IsViewAt server.setup l.now (ahead_view server.setup l c m serves ahead number)
        view = record { client = refl; window = refl; moment = refl }

        takes : is_active on.call.life ≡ true → (on.call.life ≡ lives.Waiting)
            × TakesIn server.setup l.now (begun_record server.setup c l.now).looks (m ∷ ms1) on.call.looks
        takes active = of on.such
          where
            of : Works server c fed.server_fits serves lives.Waiting on.call.life → (on.call.life ≡ lives.Waiting)
                × TakesIn server.setup l.now (begun_record server.setup c l.now).looks (m ∷ ms1) on.call.looks
            of (inr idle) = absurd (let no : false ≡ true = sym idle ∙ active in cc (no))
            of (inl same) = (
              same,
              takes_one (begun_record server.setup c l.now).looks on.call.looks m ms1
                  (ahead_view server.setup l c m serves ahead number)
                  (call_row (ahead_view server.setup l c m serves ahead number) m m.body
                  (ahead_looks server.setup l c m serves ahead number)) view refl sense
                  (subst (λ (n : ℕ). TakesIn server.setup n r.looks ms1 on.call.looks) now_w
                  (server_takes c k client server t one service nonces kind f.between v till nodes ds1 f.others Else
                  other ms1 rest r on.call starts refl on.there same)),
            )

    -- by its body
    own_first : Onward → BegunAmong c server v u (m ∷ ms1)
    own_first onward = of m.body refl own.stream
      where
        data_ : (payload : List ℕ) → m.body ≡ bodies.Chunk payload
            → WhatComes server.setup l c m serves ahead number → BegunAmong c server v u (m ∷ ms1)
        data_ payload at (comes_full row) = full onward row
        data_ payload at (comes_busy handled row) = busy onward handled row
        data_ payload at (comes_crowded crowded) =
            absurd (room_at server.setup (side 0 u.history) c cs inside space (among u.history since all_on) legal_u
            none crowded)
        data_ payload at (comes_first row) = first_of payload at row

        of : (body : Body) → m.body ≡ body → IsSent body → BegunAmong c server v u (m ∷ ms1)
        of (bodies.Chunk payload) at stream =
            data_ payload at (what_comes server.setup l c m serves ahead number payload at sense)
        of (bodies.Ack ack) at stream = acked onward ack at
        of _ at stream = absurd stream

  -- ---- all of them

  pub begun_among : (ds : List Datagram) (ms : List Message)
      → Sifted (IsOwn client.setup c service) Else client.host server.host ds ms → Every (IsCalm server c) ds
      → (u : Stage) → Adds z.history u.history → slice_get u.nodes 0 ≡ Some server → Made (each delivers ds) u v
      → served_in c server u ≡ None → BegunAmong c server v u ms
  begun_among ds ms sifts_none calm u since there made none =
      unknown (ap (λ (x : Stage). served_in c server x) (delivers_none u v made) ∙ none) (inl (inl tt))
  begun_among ds ms (sifts_own bytes m ds1 ms1 reads own rest) calm u since there made none =
      (let f = delivers_first (sent client.host server.host bytes) ds1 u v made in
      own_first bytes m ds1 ms1 reads own rest u since there f none calm.1
      (λ none_w. begun_among ds1 ms1 rest calm.1 f.between
      (adds_both z.history u.history f.between.history since (record { more = f.first.more; is = f.first.grown }))
      (ap (λ (x : Stage). slice_get x.nodes 0) f.first.rest ∙ there) f.others none_w))
  begun_among ds ms (sifts_other d ds1 ms1 else_ rest) calm u since there made none =
      (let f = delivers_first d ds1 u v made in
      from_later c server v u f.between f.first.more f.first.grown (now_left server d u f.between there f.first) ms1
      (begun_among ds1 ms1 rest calm.1 f.between
      (adds_both z.history u.history f.between.history since (record { more = f.first.more; is = f.first.grown }))
      (ap (λ (x : Stage). slice_get x.nodes 0) f.first.rest ∙ there) f.others
      (none_one server c fed.server_fits d u f.between there f.first (other d else_)
      (legal_then server c fed.server_fits serves f.between v ds1 f.others fed.server_legal) none)))
